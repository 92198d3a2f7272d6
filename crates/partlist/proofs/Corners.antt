-- Corner k of cell c, by the rule of corners, is entry k of the cell's list: point a is cell a.
-- What carries it: recursion on the dimension; the last corner is that of face 0, the others are those of the last face. Assumes nothing.
use mathlib.Core.Path.{◌≡◌, refl, sym, ap, subst, ◌∙◌}
use mathlib.Core.Logic.{◌⊎◌, inl, inr, ⊎_elim}
use mathlib.Core.List.Memᴰ.{cases_cons as in_cases}
use mathlib.Core.List.Memᴰ.{head as here}
use mathlib.Core.List.Memᴰ.{not-nil as in_nil}
use mathlib.Core.List.{List, [], ◌∷◌, Memᴰ as In}
use Prim.Native.Nat.{ℕ, zero, suc, ◌≤◌, ◌<◌}
use native.Mathlib.Omega.{arith}
use borrow.Author.Tests.{lt-ltb, le-ltb}
use lib.ListN.{length, get_or}
use Rattle.counting.proofs.Cases.{below_or_not}
use Rattle.table.specs.Kind.{capacity, faces, used}
use Rattle.table.specs.Table.{dim, face}
use Rattle.corner.specs.Corner.{corner_at, corner_of}
use Rattle.partlist.specs.Text.{AllLines}
use Rattle.partlist.specs.Cells.{IsPoint, InLine, IsCell, cell_list}
use Rattle.partlist.specs.ListTable.{without, corners_at, dim_at, face_at, list_table}
use Rattle.partlist.specs.Sweep.{Complete, InRange}
use Rattle.partlist.proofs.Sorting.{entry_in}
use Rattle.partlist.proofs.Without.{without_low, without_up}
use Rattle.partlist.proofs.CellList.{entries_are_cells, none_twice}
use Rattle.partlist.proofs.ListTable.{says_used, dim_live, list_complete, corners_count, low_dim, face_tells, face_down, dim_at_lem, face_at_lem}
use Rattle.partlist.proofs.Gathering.{points_first, points_most}

module _ (n : ℕ) (ls : List (List ℕ)) (lines : AllLines ls) (range : InRange n ls) where
  abbrev cs : List (List ℕ)
  cs = cell_list n ls

  complete : Complete (cell_list n ls)
  complete = list_complete n ls lines

  -- the corners of a cell are points
  member_small : (σ : List ℕ) (a : ℕ) → IsCell n ls σ → In a σ → a < n
  member_small σ a c m = go c.origin
    where
      one : (b : ℕ) → In a (b ∷ []) → a ≡ b
      one b i = ⊎_elim (λ e. e) (λ k. absurd (in_nil k)) (in_cases i)

      go : IsPoint n σ ⊎ InLine ls σ → a < n
      go (inl p) = omega (arith, p.below, one p.index (subst (λ (τ : List ℕ). In a τ) p.alone m))
      go (inr q) = range q.line q.listed a (q.subset a m)

  -- a cell of one corner is that point
  point_cell_number : (c : ℕ) → c < length cs → length (corners_at cs c) ≡ 1 → c ≡ get_or (corners_at cs c) 0 0
  point_cell_number c h e = go (corners_at cs c) refl e
    where
      go : (σ : List ℕ) → corners_at cs c ≡ σ → length σ ≡ 1 → c ≡ get_or σ 0 0
      go [] q l = absurd (omega arith)
      go (a ∷ []) q l =
          let small : a < n = member_small (a ∷ []) a (subst (IsCell n ls) q (entries_are_cells n ls (corners_at cs c) (entry_in cs c [] h))) (here refl) in
          none_twice n ls c a h (omega (arith, small, points_most n ls)) (q ∙ sym (points_first n ls n a small small))
      go (a ∷ (b ∷ σ)) q l = absurd (omega arith)

  module _ (room : ℕ) (some : 1 ≤ room) (most : room ≤ capacity) (fits : length (cell_list n ls) ≤ room) where
    abbrev t : List ℕ
    t = list_table room (cell_list n ls)

    t_dim : (c : ℕ) → c < room → dim t c ≡ dim_at cs c
    unfolding list_table
    t_dim c h = dim_at_lem cs complete room some most fits c h

    t_face : (c j : ℕ) → c < room → j < faces → face t c j ≡ face_at cs c j
    unfolding list_table
    t_face c j h l = face_at_lem cs complete room some most fits c j h l

    -- the corners of a cell, taken as a p-cell
    abbrev CornersAt : ℕ → Type 0
    CornersAt p = (c k : ℕ) → c < length cs → length (corners_at cs c) ≡ suc p → k ≤ p → corner_at t p c k ≡ get_or (corners_at cs c) k 0

    module _ (p : ℕ) (below : CornersAt p) (c : ℕ) (h : c < length cs) (e : length (corners_at cs c) ≡ suc (suc p)) where
      d : dim_at cs c ≡ suc p
      d = omega (arith, dim_live cs c h, e)

      place : (j : ℕ) → j ≤ suc p → j < used (dim_at cs c)
      place j b = says_used (dim_at cs c) j (omega (arith, d)) (low_dim cs complete c h) (omega (arith, d))

      at_face : (j i : ℕ) → j ≤ suc p → i ≤ p → corner_at t p (face t c j) i ≡ get_or (without j (corners_at cs c)) i 0
      at_face j i b m =
          let w = face_tells cs complete c j h (place j b) in
          let long : length (corners_at cs (face_at cs c j)) ≡ suc p =
          omega (arith, face_down cs complete c j h (place j b), d, corners_count cs complete (face_at cs c j) w.inside) in
          ap (λ (x : ℕ). corner_at t p x i) (t_face c j (omega (arith, fits)) (omega (arith, low_dim cs complete c h, d)))
          ∙ below (face_at cs c j) i w.inside long m
          ∙ ap (λ (τ : List ℕ). get_or τ i 0) w.tells

      first_corners : (k : ℕ) → k < suc p → corner_at t (suc p) c k ≡ get_or (corners_at cs c) k 0
      unfolding corner_at
      first_corners k m = rw (lt-ltb k (suc p) m) (at_face (suc p) k (omega arith) (omega arith) ∙ without_low (suc p) (corners_at cs c) k m)

      last_corner : (k : ℕ) → k ≡ suc p → corner_at t (suc p) c k ≡ get_or (corners_at cs c) k 0
      unfolding corner_at
      last_corner k z =
          rw (le-ltb k (suc p) (omega arith))
          (at_face 0 p (omega arith) (omega arith) ∙ without_up 0 (corners_at cs c) p (omega arith) ∙ ap (λ (x : ℕ). get_or (corners_at cs c) x 0) (sym z))

    corner_at_lem : (p : ℕ) → CornersAt p
    unfolding corner_at
    corner_at_lem zero c k h e l =
        let z : k ≡ 0 = omega arith in
        point_cell_number c h e ∙ ap (λ (x : ℕ). get_or (corners_at cs c) x 0) (sym z)
    corner_at_lem (suc p) c k h e l =
        ⊎_elim (first_corners p (corner_at_lem p) c h e k) (λ m. last_corner p (corner_at_lem p) c h e k (omega arith)) (below_or_not k (suc p))

    pub list_corner : (c k : ℕ) → c < length (cell_list n ls) → k < length (corners_at (cell_list n ls) c) →
        corner_of (list_table room (cell_list n ls)) c k ≡ get_or (corners_at (cell_list n ls) c) k 0
    unfolding corner_of
    list_corner c k h l =
        let e = corners_count cs complete c h in
        ap (λ (p : ℕ). corner_at t p c k) (t_dim c (omega (arith, fits)))
        ∙ corner_at_lem (dim_at cs c) c k h e (omega (arith, e))
