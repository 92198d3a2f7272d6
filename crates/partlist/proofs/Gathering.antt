-- Before the sweep: the points in their order, then each line in turn; and the points keep the first numbers.
-- What carries it: a point's list is shorter than any other but a point's. Assumes nothing.
use mathlib.Core.Path.{◌≡◌, refl, sym, ap, subst, ◌∙◌}
use mathlib.Core.Logic.{◌⊎◌, inl, inr, ⊎_elim}
use mathlib.Core.List.Memᴰ.{append_cases as in_either}
use mathlib.Core.List.Memᴰ.{append_left as in_left}
use mathlib.Core.List.Memᴰ.{append_right as in_right}
use mathlib.Core.List.Memᴰ.{cases_cons as in_cases}
use mathlib.Core.List.Memᴰ.{eq_of_singleton as in_one}
use mathlib.Core.List.Memᴰ.{head as here}
use mathlib.Core.List.Memᴰ.{not-nil as in_nil}
use mathlib.Core.List.Memᴰ.{tail as there}
use mathlib.Core.List.{List, [], ◌∷◌, ◌++◌, head-eq_of_cons-eq, Memᴰ as In}
use Prim.Native.Nat.{ℕ, zero, suc, ◌+◌, ◌≤◌, ◌<◌}
use native.Mathlib.Omega.{arith}
use lib.ListN.{length}
use Rattle.counting.proofs.Cases.{below_or_not, same_or_not}
use Rattle.partlist.specs.Text.{IsLine}
use Rattle.partlist.specs.Sorting.{Sorted, compared_numbers, sorted_up}
use Rattle.partlist.specs.Cells.{IsPoint, InLine, IsCell, Earlier, compared_cells, cell_list}
use Rattle.partlist.specs.ListTable.{corners_at, number_in}
use Rattle.partlist.specs.Sweep.{put_at, points_from, Fitting, Gathered}
use Rattle.partlist.proofs.Sorting.{numbers_tell, sorted_up_lem, sorted_has, sorted_only, entry_in}
use Rattle.partlist.proofs.Dictionary.{cells_tell}
use Rattle.partlist.proofs.Placing.{sorted_within}
use Rattle.partlist.proofs.CellList.{entries_are_cells, cells_are_entries, list_sorted, numbers_in_order, none_twice, point_cell}
use Rattle.partlist.proofs.ListTable.{Numbered, number_tells}
use Rattle.partlist.proofs.Sweep.{put_keeps, put_in, put_only, put_sorted}

record PointFrom (k m : ℕ) (σ : List ℕ) : Type 0 where
  index : ℕ
  low : k ≤ index
  high : index < k + m
  alone : σ ≡ index ∷ []

points_from_only : (k m : ℕ) (σ : List ℕ) → In σ (points_from k m) → PointFrom k m σ
unfolding points_from
points_from_only k zero σ h = absurd (in_nil h)
points_from_only k (suc m) σ h = go (in_cases h) (points_from_only (suc k) m σ)
  where
    later : PointFrom (suc k) m σ → PointFrom k (suc m) σ
    later p = record { index = p.index; low = omega (arith, p.low); high = omega (arith, p.high); alone = p.alone }

    go : (σ ≡ k ∷ []) ⊎ In σ (points_from (suc k) m) → (In σ (points_from (suc k) m) → PointFrom (suc k) m σ) → PointFrom k (suc m) σ
    go (inl e) rest = record { index = k; low = omega arith; high = omega arith; alone = e }
    go (inr i) rest = later (rest i)

points_from_has : (k m i : ℕ) → k ≤ i → i < k + m → In (i ∷ []) (points_from k m)
unfolding points_from
points_from_has k zero i l h = absurd (omega arith)
points_from_has k (suc m) i l h = go (same_or_not i k) (points_from_has (suc k) m i)
  where
    go :
        (i ≡ k) ⊎ (i ≡ k → ⊥) → (suc k ≤ i → i < suc k + m → In (i ∷ []) (points_from (suc k) m)) →
        In (i ∷ []) ((k ∷ []) ∷ points_from (suc k) m)
    go (inl e) rest = here (ap (λ (x : ℕ). x ∷ []) e)
    go (inr ne) rest = there (rest (omega (arith, ne)) (omega arith))

pub points_from_sorted : (k m : ℕ) → Sorted Earlier (points_from k m)
unfolding points_from
points_from_sorted k zero = tt
points_from_sorted k (suc m) = (λ σ h. after σ (points_from_only (suc k) m σ h), points_from_sorted (suc k) m)
  where
    after : (σ : List ℕ) → PointFrom (suc k) m σ → Earlier (k ∷ []) σ
    after σ p = rw p.alone (inr (refl, inl (omega (arith, p.low))))

pub points_from_length : (k m : ℕ) → length (points_from k m) ≡ m
unfolding points_from
points_from_length k zero = refl
points_from_length k (suc m) = ap suc (points_from_length (suc k) m)

pub points_from_at : (k m c : ℕ) → c < m → corners_at (points_from k m) c ≡ (k + c) ∷ []
unfolding points_from
points_from_at k zero c h = absurd (omega arith)
points_from_at k (suc m) zero h = ap (λ (x : ℕ). x ∷ []) (omega arith)
points_from_at k (suc m) (suc c) h = points_from_at (suc k) m c (omega arith) ∙ ap (λ (x : ℕ). x ∷ []) (omega arith)

from_point : (n : ℕ) (σ : List ℕ) → PointFrom 0 n σ → IsPoint n σ
from_point n σ p = record { index = p.index; below = omega (arith, p.high); alone = p.alone }

-- the points alone
pub gather_points : (n : ℕ) → Gathered n [] (points_from 0 n)
gather_points n =
    record {
      sorted = points_from_sorted 0 n;
      cells = λ σ h. point_cell n [] σ (from_point n σ (points_from_only 0 n σ h));
      points = λ i h. points_from_has 0 n i (omega arith) (omega arith);
      lines = λ l h. absurd (in_nil h);
    }

-- a list of cells has a cell for each point
pub points_most : (n : ℕ) (ls : List (List ℕ)) → n ≤ length (cell_list n ls)
points_most n ls =
    omega (
      arith,
      points_from_length 0 n,
      sorted_within Earlier compared_cells cells_tell (cell_list n ls) (points_from 0 n) (points_from_sorted 0 n) (list_sorted n ls)
          (λ σ h. cells_are_entries n ls σ (point_cell n ls σ (from_point n σ (points_from_only 0 n σ h)))),
    )

module _ (n : ℕ) (ls ms : List (List ℕ)) where
  -- more lines have more cells
  cell_more : (σ : List ℕ) → IsCell n ls σ → IsCell n (ls ++ ms) σ
  cell_more σ c = record { rising = c.rising; some = c.some; origin = go c.origin }
    where
      go : IsPoint n σ ⊎ InLine ls σ → IsPoint n σ ⊎ InLine (ls ++ ms) σ
      go (inl p) = inl p
      go (inr q) = inr (record { line = q.line; listed = in_left ms q.listed; subset = q.subset })

  pub cells_grow : length (cell_list n ls) ≤ length (cell_list n (ls ++ ms))
  cells_grow =
      sorted_within Earlier compared_cells cells_tell (cell_list n (ls ++ ms)) (cell_list n ls) (list_sorted n ls) (list_sorted n (ls ++ ms))
      (λ σ h. cells_are_entries n (ls ++ ms) σ (cell_more σ (entries_are_cells n ls σ h)))

module _ (n : ℕ) (ls : List (List ℕ)) (l : List ℕ) where
  -- one line more
  length_some : (m : List ℕ) (a : ℕ) → In a m → 1 ≤ length m
  length_some [] a h = absurd (in_nil h)
  length_some (b ∷ m) a h = omega arith

  sorted_some : (m : List ℕ) → 1 ≤ length m → 1 ≤ length (sorted_up compared_numbers m)
  sorted_some [] h = absurd (omega arith)
  sorted_some (a ∷ m) h = length_some (sorted_up compared_numbers (a ∷ m)) a (sorted_has ◌<◌ compared_numbers numbers_tell a (a ∷ m) (here refl))

  sorted_line_cell : IsLine l → IsCell n (ls ++ (l ∷ [])) (sorted_up compared_numbers l)
  sorted_line_cell h =
      record {
        rising = sorted_up_lem ◌<◌ compared_numbers numbers_tell l;
        some = sorted_some l h.some;
        origin = inr (record { line = l; listed = in_right ls (here refl); subset = λ a m. sorted_only ◌<◌ compared_numbers numbers_tell a l m });
      }

  lines_of :
      (cs : List (List ℕ)) → ((k : List ℕ) → In k ls → In (sorted_up compared_numbers k) cs) → In (sorted_up compared_numbers l) cs →
      (k : List ℕ) → In k (ls ++ (l ∷ [])) → In (sorted_up compared_numbers k) cs
  lines_of cs before now k h =
      ⊎_elim (before k) (λ i. subst (λ (x : List ℕ). In (sorted_up compared_numbers x) cs) (sym (in_one i)) now) (in_either ls h)

  pub gather_found : (cs : List (List ℕ)) → Gathered n ls cs → In (sorted_up compared_numbers l) cs → Gathered n (ls ++ (l ∷ [])) cs
  gather_found cs g h =
      record {
        sorted = g.sorted;
        cells = λ σ m. cell_more n ls (l ∷ []) σ (g.cells σ m);
        points = g.points;
        lines = lines_of cs g.lines h;
      }

  pub gather_put : (cs : List (List ℕ)) (k : ℕ) → Gathered n ls cs → IsLine l → Fitting cs (sorted_up compared_numbers l) k →
      Gathered n (ls ++ (l ∷ [])) (put_at k (sorted_up compared_numbers l) cs)
  gather_put cs k g h fit =
      record {
        sorted = put_sorted n ls cs (sorted_up compared_numbers l) k fit g.sorted;
        cells =
            λ σ m. ⊎_elim (λ e. rw e (sorted_line_cell h)) (λ i. cell_more n ls (l ∷ []) σ (g.cells σ i))
            (put_only n ls cs (sorted_up compared_numbers l) k fit σ m);
        points = λ i m. put_keeps n ls cs (sorted_up compared_numbers l) k fit (i ∷ []) (g.points i m);
        lines =
            lines_of (put_at k (sorted_up compared_numbers l) cs)
            (λ j m. put_keeps n ls cs (sorted_up compared_numbers l) k fit (sorted_up compared_numbers j) (g.lines j m))
            (put_in n ls cs (sorted_up compared_numbers l) k fit);
      }

-- the first numbers are the points'
module _ (n : ℕ) (ls : List (List ℕ)) where
  single_before : (σ : List ℕ) (i : ℕ) → 1 ≤ length σ → Earlier σ (i ∷ []) → (a : ℕ) × (a < i) × (σ ≡ a ∷ [])
  single_before [] i some h = absurd (omega arith)
  single_before (a ∷ []) i some (inl h) = absurd (omega arith)
  single_before (a ∷ []) i some (inr h) = ⊎_elim (λ l. (a, l, refl)) (λ p. absurd p.1) h.1
  single_before (a ∷ (b ∷ σ)) i some (inl h) = absurd (omega arith)
  single_before (a ∷ (b ∷ σ)) i some (inr h) = absurd (omega (arith, h.0))

  pub points_first : (m i : ℕ) → i < m → i < n → corners_at (cell_list n ls) i ≡ i ∷ []
  points_first zero i h l = absurd (omega arith)
  points_first (suc m) i h l = go (same_or_not c i) (below_or_not c i) (points_first m)
    where
      c : ℕ
      c = number_in (cell_list n ls) (i ∷ [])

      w : Numbered (cell_list n ls) (i ∷ []) c
      w = number_tells (cell_list n ls) (i ∷ []) (cells_are_entries n ls (i ∷ []) (point_cell n ls (i ∷ []) (record { index = i; below = l; alone = refl })))

      inside : i < length (cell_list n ls)
      inside = omega (arith, points_most n ls)

      go :
          (c ≡ i) ⊎ (c ≡ i → ⊥) → (c < i) ⊎ (i ≤ c) → ((k : ℕ) → k < m → k < n → corners_at (cell_list n ls) k ≡ k ∷ []) →
          corners_at (cell_list n ls) i ≡ i ∷ []
      go (inl e) b rest = subst (λ (x : ℕ). corners_at (cell_list n ls) x ≡ i ∷ []) e w.tells
      go (inr ne) (inl b) rest = absurd (ne (head-eq_of_cons-eq (sym (rest c (omega arith) (omega arith)) ∙ w.tells)))
      go (inr ne) (inr b) rest =
          let r : Earlier (corners_at (cell_list n ls) i) (i ∷ []) =
          subst (λ (x : List ℕ). Earlier (corners_at (cell_list n ls) i) x) w.tells (numbers_in_order n ls i c (omega (arith, ne)) w.inside) in
          let p = single_before (corners_at (cell_list n ls) i) i
          (entries_are_cells n ls (corners_at (cell_list n ls) i) (entry_in (cell_list n ls) i [] inside)).some r in
          absurd (omega (
            arith,
            p.1,
            none_twice n ls p.0 i (omega (arith, p.1, inside)) inside
                (rest p.0 (omega (arith, p.1)) (omega (arith, p.1)) ∙ sym p.2),
          ))
