-- Single merges, by dimension from 0 up and rising cell, each accepted in turn, give the welded table.
-- What carries it: after the merges below (q, n) the table is renamed by the weld's map on the cells below (q, n) and nothing
-- elsewhere; all faces of a q-cell lie below. Assumes nothing.
use mathlib.Core.Path.{◌≡◌, refl, ap, sym, subst, ◌∙◌}
use mathlib.Core.Bool.{Bool, true, false, ◌&&◌, not, false≢true}
use mathlib.Core.List.{List, [], ◌∷◌, ◌++◌}
use mathlib.Core.Logic.{⊎_elim}
use Prim.Native.Nat.{ℕ, zero, suc, ◌+◌, ◌*◌, ◌≤◌, ◌<◌, max}
use native.Mathlib.Omega.{arith}
use borrow.Author.Tests.{lt-ltb, le-ltb, eqb-true, eqb-false, not-true, not-false}
use lib.Dec.{ltb, eqb}
use Rattle.counting.specs.Counting.{pick}
use Rattle.table.specs.Kind.{capacity, dimensions, faces, free_mark, used}
use Rattle.table.specs.Table.{cells_of, dim, face, Live, Valid, is_cell}
use Rattle.std.specs.declared.result.Result.TheVariants.{Ok}
use Prim.{tt}
use Rattle.counting.proofs.Cases.{below_or_not, same_or_not, and_left, and_right}
use Rattle.table.proofs.Dimensions.{cell_live, cell_dim, cell_says}
use Rattle.merge.specs.Rename.{renamed, identify}
use Rattle.merge.specs.Merge.{merge_verdict, merged}
use Rattle.merge.proofs.Renaming.{dim_fixed, face_fixed, live_after, renamed_alike, renamed_twice, identify_larger, identify_other, identify_keeps}
use Rattle.merge.proofs.Identifying.{identify_down}
use Rattle.merge.proofs.Keeping.{Carries, renamed_keeps_valid, renamed_stays}
use Rattle.table.proofs.Records.{live_or_not}
use Rattle.merge.proofs.Verdicts.{Mergeable}
use Rattle.merge.proofs.FaceLists.{words_give_lists, equal_lists_accepted}
use Rattle.weld.specs.Weld.{IsWeld}
use Rattle.weld.specs.Merges.{Pair, Merges, merges_in, merges_below, weld_merges}
use Rattle.weld.specs.Merges.Merges.{done, more}
use Rattle.weld.proofs.Welds.{weld_carries}

and_off : (a b : Bool) → (a && b) ≡ false → a ≡ true → b ≡ false
and_off true b e f = e
and_off false b e f = absurd (false≢true f)

-- no merges
merges_none : (t u : List ℕ) → t ≡ u → Merges t [] u
merges_none t u e = subst (λ v. Merges t [] v) e done

-- one run after another
merges_both : (t u v : List ℕ) (ps qs : List Pair) → Merges t ps u → Merges u qs v → Merges t (ps ++ qs) v
merges_both t u v [] qs done n = n
merges_both t u v (p ∷ ps) qs (more e m) n = more e (merges_both (merged t p.kept p.gone) u v ps qs m n)

module _ (t : List ℕ) (κ : ℕ → ℕ) (valid : Valid t) (k : Carries κ t)
    (down : (c : ℕ) → κ c ≤ c) (others : (c : ℕ) → (Live t c → ⊥) → κ c ≡ c) where
  -- a cell's place in the order by dimension, then number
  abbrev rank : ℕ → ℕ
  rank x = dim t x * capacity + x

  -- the map on the cells of rank below m
  abbrev part : ℕ → ℕ → ℕ
  part m x = pick (ltb (rank x) m) (κ x) x

  small : (x : ℕ) → Live t x → x < capacity
  small x l = omega (arith, l.inside, valid.sized.room)

  part_old : (m x : ℕ) → rank x < m → part m x ≡ κ x
  part_old m x h = ap (λ b. pick b (κ x) x) (lt-ltb (rank x) m h)

  part_new : (m x : ℕ) → m ≤ rank x → part m x ≡ x
  part_new m x h = ap (λ b. pick b (κ x) x) (le-ltb (rank x) m h)

  -- what holds of the image and of the cell holds of the part's image
  by_part : (P : ℕ → Type 0) (m x : ℕ) → (rank x < m → P (κ x)) → (m ≤ rank x → P x) → P (part m x)
  by_part P m x old new =
      ⊎_elim
      (λ h. subst P (sym (part_old m x h)) (old h))
      (λ h. subst P (sym (part_new m x h)) (new h))
      (below_or_not (rank x) m)

  part_still : (m x : ℕ) → κ x ≡ x → part m x ≡ x
  part_still m x e = by_part (λ z. z ≡ x) m x (λ h. e) (λ h. refl)

  part_down : (m x : ℕ) → part m x ≤ x
  part_down m x = by_part (λ z. z ≤ x) m x (λ h. down x) (λ h. omega arith)

  part_face : (m x j : ℕ) → Live t x → j < used (dim t x) → dim t x * capacity ≤ m → part m (face t x j) ≡ κ (face t x j)
  part_face m x j l h le =
      part_old m (face t x j) (omega (arith, valid.face_dim x j l h, small (face t x j) (valid.face_live x j l h)))

  part_carries : (m : ℕ) → Carries (part m) t
  part_carries m =
      record {
        once = λ x. by_part (λ z. part m z ≡ z) m x (λ h. part_still m (κ x) (k.once x)) (λ h. part_new m x h);
        mark = part_still m free_mark k.mark;
        lives = λ x l. by_part (Live t) m x (λ h. k.lives x l) (λ h. l);
        same_dim = λ x l. by_part (λ z. dim t z ≡ dim t x) m x (λ h. k.same_dim x l) (λ h. refl);
        same_faces_lem = λ x j l u.
            by_part (λ z. part m (face t z j) ≡ part m (face t x j)) m x
            (λ h.
            part_face m (κ x) j (k.lives x l) (subst (λ p. j < used p) (sym (k.same_dim x l)) u) (omega (arith, k.same_dim x l))
            ∙ k.same_faces_lem x j l u
            ∙ sym (part_face m x j l u (omega arith)))
            (λ h. refl);
      }

  -- the part one rank on differs at one live cell alone
  part_next :
      (q c x : ℕ) → c < capacity → (Live t x → dim t x ≡ q → x ≡ c → κ x ≡ x) → part (q * capacity + suc c) x ≡ part (q * capacity + c) x
  part_next q c x h same =
      ⊎_elim
      (λ l. ⊎_elim
      (λ e. part_still (q * capacity + suc c) x (same_here l e) ∙ sym (part_still (q * capacity + c) x (same_here l e)))
      (λ n. by_part (λ z. part (q * capacity + suc c) x ≡ z) (q * capacity + c) x
      (λ o. part_old (q * capacity + suc c) x (omega arith))
      (λ o. part_new (q * capacity + suc c) x (omega (arith, n))))
      (same_or_not (rank x) (q * capacity + c)))
      (λ n. part_still (q * capacity + suc c) x (others x n) ∙ sym (part_still (q * capacity + c) x (others x n)))
      (live_or_not t x)
    where
      same_here : Live t x → rank x ≡ q * capacity + c → κ x ≡ x
      same_here l e =
          let s : x < capacity = small x l in
          let i : x ≡ c = omega arith in
          let j : dim t x ≡ q = omega arith in
          same l j i

  -- one merge
  module _ (q c : ℕ) (l : Live t c) (d : dim t c ≡ q) (moved : κ c ≡ c → ⊥) where
    abbrev so_far : ℕ → ℕ
    so_far = part (q * capacity + c)

    below : c < capacity
    below = small c l

    still_there : so_far c ≡ c
    still_there = part_new (q * capacity + c) c (omega (arith, d))

    kept_there : so_far (κ c) ≡ κ c
    kept_there = part_still (q * capacity + c) (κ c) (k.once c)

    same_words_lem : (j : ℕ) → j < faces → so_far (face t (κ c) j) ≡ so_far (face t c j)
    same_words_lem j h =
        ⊎_elim
        (λ u.
        part_face (q * capacity + c) (κ c) j (k.lives c l) (subst (λ p. j < used p) (sym (k.same_dim c l)) u)
        (omega (arith, k.same_dim c l, d))
        ∙ k.same_faces_lem c j l u
        ∙ sym (part_face (q * capacity + c) c j l u (omega (arith, d))))
        (λ u.
        ap so_far
        (valid.unused (κ c) j (k.lives c l).inside (subst (λ p. used p ≤ j) (sym (k.same_dim c l)) u) h
        ∙ sym (valid.unused c j l.inside u h)))
        (below_or_not j (used (dim t c)))

    mergeable : Mergeable (renamed so_far t) (κ c) c
    mergeable =
        let i : κ c < cells_of t = (k.lives c l).inside in
        record {
          pair = record {
            valid = renamed_keeps_valid so_far t valid (part_carries (q * capacity + c));
            first = live_after so_far t (κ c) (k.lives c l) kept_there;
            second = live_after so_far t c l still_there;
            different = moved;
            same_dim = dim_fixed so_far t (κ c) i kept_there ∙ k.same_dim c l ∙ sym (dim_fixed so_far t c l.inside still_there);
          };
          same_faces_lem = λ j h.
              face_fixed so_far t (κ c) j i h kept_there ∙ same_words_lem j h ∙ sym (face_fixed so_far t c j l.inside h still_there);
        }

    accepted : merge_verdict (renamed so_far t) (κ c) c ≡ Ok tt
    accepted =
        let m = mergeable in
        equal_lists_accepted (renamed so_far t) (κ c) c m.pair.valid m.pair.first m.pair.second m.pair.different m.pair.same_dim
        (words_give_lists (renamed so_far t) (κ c) c m.pair.same_dim m.same_faces_lem)

    larger : c ≡ max (κ c) c
    larger = omega (arith, down c)

    goes : identify (κ c) c c ≡ κ c
    goes = ap (identify (κ c) c) larger ∙ identify_larger (κ c) c ∙ omega (arith, down c)

    not_gone : (x : ℕ) → (x ≡ c → ⊥) → so_far x ≡ c → ⊥
    not_gone x n =
        by_part (λ z. z ≡ c → ⊥) (q * capacity + c) x (λ h e. moved (sym (ap κ e) ∙ k.once x ∙ e)) (λ h e. n e)

    next : (x : ℕ) → identify (κ c) c (so_far x) ≡ part (q * capacity + suc c) x
    next x =
        ⊎_elim
        (λ e.
        ap (λ z. identify (κ c) c (so_far z)) e
        ∙ ap (identify (κ c) c) still_there
        ∙ goes
        ∙ sym (ap (part (q * capacity + suc c)) e ∙ part_old (q * capacity + suc c) c (omega (arith, d))))
        (λ n.
        identify_other (κ c) c (so_far x) (λ e. not_gone x n (e ∙ sym larger))
        ∙ sym (part_next q c x below (λ i f e. absurd (n e))))
        (same_or_not x c)

    one_more : merged (renamed so_far t) (κ c) c ≡ renamed (part (q * capacity + suc c)) t
    unfolding merged
    one_more =
        renamed_twice so_far (identify (κ c) c) t
        (identify_keeps (κ c) c free_mark (omega (arith, small (κ c) (k.lives c l))) (omega (arith, below)))
        (λ x e. omega (arith, e, identify_down (κ c) c (so_far x), part_down (q * capacity + c) x))
        ∙ renamed_alike (λ x. identify (κ c) c (so_far x)) (part (q * capacity + suc c)) t next

  -- the merges of dimension q
  in_step :
      (q c : ℕ) → c < cells_of t → (b : Bool) → (is_cell t q c && not (eqb (κ c) c)) ≡ b →
      Merges (renamed (part (q * capacity + c)) t) (pick b (record { kept = κ c; gone = c } ∷ []) [])
      (renamed (part (q * capacity + suc c)) t)
  in_step q c h true e =
      let i = and_left (is_cell t q c) (not (eqb (κ c) c)) e in
      let l : Live t c = cell_live t q c i in
      let d : dim t c ≡ q = cell_dim t q c i in
      let n : κ c ≡ c → ⊥ = eqb-false (κ c) c (not-true (eqb (κ c) c) (and_right (is_cell t q c) (not (eqb (κ c) c)) e)) in
      more (accepted q c l d n) (merges_none (merged (renamed (part (q * capacity + c)) t) (κ c) c) _ (one_more q c l d n))
  in_step q c h false e =
      merges_none (renamed (part (q * capacity + c)) t) _
      (renamed_alike (part (q * capacity + c)) (part (q * capacity + suc c)) t
      (λ x. sym (part_next q c x (omega (arith, h, valid.sized.room)) (still_as x))))
    where
      still : Live t c → dim t c ≡ q → κ c ≡ c
      still l d =
          eqb-true (κ c) c (not-false (eqb (κ c) c) (and_off (is_cell t q c) (not (eqb (κ c) c)) e (cell_says t q c l d)))

      still_as : (x : ℕ) → Live t x → dim t x ≡ q → x ≡ c → κ x ≡ x
      still_as x l d i = subst (λ z. κ z ≡ z) (sym i) (still (subst (Live t) i l) (sym (ap (dim t) i) ∙ d))

  merges_in_lem :
      (q n : ℕ) → n ≤ cells_of t → Merges (renamed (part (q * capacity)) t) (merges_in t κ q n) (renamed (part (q * capacity + n)) t)
  unfolding merges_in
  merges_in_lem q zero h =
      merges_none (renamed (part (q * capacity)) t) _
      (ap (λ m. renamed (part m) t) (let e : q * capacity ≡ q * capacity + 0 = omega arith in e))
  merges_in_lem q (suc c) h =
      merges_both (renamed (part (q * capacity)) t) (renamed (part (q * capacity + c)) t) (renamed (part (q * capacity + suc c)) t)
      (merges_in t κ q c) _ (merges_in_lem q c (omega arith)) (in_step q c h (is_cell t q c && not (eqb (κ c) c)) refl)

  -- the end of a dimension is the start of the next
  next_dimension : (q x : ℕ) → part (q * capacity + cells_of t) x ≡ part (suc q * capacity) x
  next_dimension q x =
      ⊎_elim
      (λ l. by_part (λ z. z ≡ part (suc q * capacity) x) (q * capacity + cells_of t) x
      (λ h. sym (part_old (suc q * capacity) x (omega (arith, valid.sized.room))))
      (λ h. sym (part_new (suc q * capacity) x (omega (arith, l.inside, small x l)))))
      (λ n. part_still (q * capacity + cells_of t) x (others x n) ∙ sym (part_still (suc q * capacity) x (others x n)))
      (live_or_not t x)

  merges_below_lem : (q : ℕ) → Merges t (merges_below t κ q) (renamed (part (q * capacity)) t)
  unfolding merges_below
  merges_below_lem zero =
      let stays : (x : ℕ) → part (0 * capacity) x ≡ x = λ x. part_new (0 * capacity) x (omega arith) in
      merges_none t _ (sym (renamed_stays (part (0 * capacity)) t valid (stays free_mark) (λ x l. stays x)))
  merges_below_lem (suc q) =
      merges_both t (renamed (part (q * capacity)) t) (renamed (part (suc q * capacity)) t) (merges_below t κ q) (merges_in t κ q (cells_of t))
      (merges_below_lem q)
      (subst (λ u. Merges (renamed (part (q * capacity)) t) (merges_in t κ q (cells_of t)) u)
      (renamed_alike (part (q * capacity + cells_of t)) (part (suc q * capacity)) t (next_dimension q))
      (merges_in_lem q (cells_of t) (omega arith)))

  merges_give_renamed : Merges t (weld_merges t κ) (renamed κ t)
  merges_give_renamed =
      subst (λ u. Merges t (weld_merges t κ) u)
      (renamed_alike (part (dimensions * capacity)) κ t (λ x.
      ⊎_elim
      (λ l. part_old (dimensions * capacity) x (omega (arith, l.low, small x l)))
      (λ n. part_still (dimensions * capacity) x (others x n) ∙ sym (others x n))
      (live_or_not t x)))
      (merges_below_lem (dimensions))

-- Single merges give the welded table.
pub weld_by_merges :
    (t : List ℕ) (a b : ℕ) (κ : ℕ → ℕ) → Valid t → IsWeld t a b κ → Merges t (weld_merges t κ) (renamed κ t)
weld_by_merges t a b κ valid x = merges_give_renamed t κ valid (weld_carries t a b κ valid x) x.down x.others
