-- A compacted table is valid. What carries it: its live cells are the old ones under their new numbers, and faces go along.
-- Assumes nothing.
use mathlib.Core.Path.{◌≡◌, ap, sym, subst, ◌∙◌}
use mathlib.Core.List.{List}
use mathlib.Core.Logic.{inl, inr, ⊎_elim}
use Prim.Native.Nat.{ℕ, suc, ◌+◌, ◌-◌, ◌*◌, ◌/◌, ◌≤◌, ◌<◌}
use native.Mathlib.Omega.{arith}
use Rattle.table.specs.Kind.{width, used}
use Rattle.table.specs.Table.{cells_of, dim, face, Live, Valid}
use Rattle.table.proofs.Places.{used_is}
use Rattle.compaction.specs.Compaction.{Taken, IsCompaction}
use Rattle.compaction.specs.Made.{new_number}
use Rattle.compaction.proofs.Counted.{new_inside, new_is_numbering}
use Rattle.compaction.proofs.Numbering.{one_numbering, taken_or_not}

-- the places that the law speaks of are used ones
law_place :
    (t : List ℕ) → Valid t → (c i j : ℕ) → Live t c → 2 ≤ dim t c → i ≤ dim t c → j < dim t c →
    (i < used (dim t c)) × (j < used (dim t (face t c i)))
law_place t v c i j l h m n =
    let p : used (dim t c) ≡ dim t c + 1 = used_is (dim t c) (omega arith) l.low in
    let q : i < used (dim t c) = omega arith in
    let d : dim t c ≡ suc (dim t (face t c i)) = v.face_dim c i l q in
    let r : used (dim t (face t c i)) ≡ dim t (face t c i) + 1 = used_is (dim t (face t c i)) (omega arith) (omega (arith, l.low)) in
    (q, omega arith)

module _ (t : List ℕ) (ν : ℕ → ℕ) (u : List ℕ) (valid : Valid t) (x : IsCompaction t ν u) where
  pub same_cells : cells_of u ≡ cells_of t
  same_cells = ap (λ n. n / width) x.size

  -- the live cells are the old ones under their new numbers
  number_inside : (c : ℕ) → Live t c → ν c < cells_of u
  number_inside c l =
      omega (arith, same_cells, one_numbering t ν (new_number t) x.numbering (new_is_numbering t) c, new_inside t c l)

  pub live_there : (c : ℕ) → Live t c → Live u (ν c)
  live_there c l = record { inside = number_inside c l; low = omega (arith, x.kept_dim c l, l.low) }

  pub live_from : (i : ℕ) → Live u i → Taken t ν i
  live_from i l =
      ⊎_elim
      (λ k. k)
      (λ n. absurd (omega (arith, x.rest_dim i (omega (arith, same_cells, l.inside)) n, l.low)))
      (taken_or_not t ν i)

  -- what holds at every new number holds at every live cell
  at_new : (P : ℕ → Type 0) → ((c : ℕ) → Live t c → P (ν c)) → (i : ℕ) → Live u i → P i
  at_new P h i l = let k = live_from i l in subst P k.number (h k.cell k.living)

  place_there : (c j : ℕ) → Live t c → j < used (dim u (ν c)) → j < used (dim t c)
  place_there c j l h = subst (λ p. j < used p) (x.kept_dim c l) h

  face_there : (c j : ℕ) → Live t c → j < used (dim t c) → Live u (face u (ν c) j)
  face_there c j l h =
      subst (Live u) (sym (x.kept_face c j l h)) (live_there (face t c j) (valid.face_live c j l h))

  face_level : (c j : ℕ) → Live t c → j < used (dim t c) → dim u (ν c) ≡ suc (dim u (face u (ν c) j))
  face_level c j l h =
      x.kept_dim c l
      ∙ valid.face_dim c j l h
      ∙ ap suc (sym (x.kept_dim (face t c j) (valid.face_live c j l h)) ∙ ap (dim u) (sym (x.kept_face c j l h)))

  face_of_face :
      (c i j : ℕ) → Live t c → i < used (dim t c) → j < used (dim t (face t c i)) → face u (face u (ν c) i) j ≡ ν (face t (face t c i) j)
  face_of_face c i j l h m =
      ap (λ s. face u s j) (x.kept_face c i l h) ∙ x.kept_face (face t c i) j (valid.face_live c i l h) m

  law_there :
      (c : ℕ) → Live t c → (j l : ℕ) → 2 ≤ dim u (ν c) → l < j → j ≤ dim u (ν c) →
      face u (face u (ν c) j) l ≡ face u (face u (ν c) l) (j - 1)
  law_there c a j l h m n =
      let d : dim u (ν c) ≡ dim t c = x.kept_dim c a in
      let h' : 2 ≤ dim t c = omega arith in
      let n' : j ≤ dim t c = omega arith in
      let first = law_place t valid c j l a h' n' (omega arith) in
      let second = law_place t valid c l (j - 1) a h' (omega arith) (omega arith) in
      face_of_face c j l a first.0 first.1
      ∙ ap ν (valid.law c j l a h' m n')
      ∙ sym (face_of_face c l (j - 1) a second.0 second.1)

  taken_dim : (i : ℕ) → (k : Taken t ν i) → dim u i ≡ dim t k.cell
  taken_dim i k = ap (dim u) (sym k.number) ∙ x.kept_dim k.cell k.living

  pub compaction_valid : Valid u
  compaction_valid =
      record {
        sized =
            let s = valid.sized in
            record {
              whole = x.size ∙ s.whole ∙ ap (λ n. n * width) (sym same_cells);
              some = omega (arith, same_cells, s.some);
              room = omega (arith, same_cells, s.room);
            };
        records = λ i h.
            ⊎_elim
            (λ k. inl (omega (arith, taken_dim i k, k.living.low)))
            (λ n. inr (x.rest_dim i (omega (arith, same_cells)) n))
            (taken_or_not t ν i);
        unused = λ i j h m l.
            ⊎_elim
            (λ k.
            ap (λ z. face u z j) (sym k.number)
            ∙ x.unused k.cell j k.living (subst (λ p. used p ≤ j) (taken_dim i k) m) l)
            (λ n. x.rest_face i j (omega (arith, same_cells)) l n)
            (taken_or_not t ν i);
        face_live = λ i j l h.
            at_new (λ z. j < used (dim u z) → Live u (face u z j)) (λ c a k. face_there c j a (place_there c j a k)) i l h;
        face_dim = λ i j l h.
            at_new (λ z. j < used (dim u z) → dim u z ≡ suc (dim u (face u z j))) (λ c a k. face_level c j a (place_there c j a k)) i l h;
        law = λ i j l a.
            at_new (λ z. 2 ≤ dim u z → l < j → j ≤ dim u z → face u (face u z j) l ≡ face u (face u z l) (j - 1))
            (λ c b. law_there c b j l) i a;
      }
