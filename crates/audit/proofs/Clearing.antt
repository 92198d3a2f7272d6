-- The quick pass over one cell: where no comparison differed, the cell breaks nothing.
-- What carries it: an exclusive or that is 0 has equal sides, and an or that is 0 has gathered none but such; the comparisons are
-- then the three tests of a sound cell, read off the faces by value. Assumes nothing.
use mathlib.Core.Path.{◌≡◌, sym, ap, subst, ◌∙◌}
use mathlib.Core.List.{List}
use mathlib.Core.Logic.{◌⊎◌}
use Prim.Native.Nat.{ℕ, ◌+◌, ◌-◌, ◌≤◌, ◌<◌}
use native.Mathlib.Omega.{arith}
use borrow.Author.Count.{below_more}
use lib.Bits.{bit_or, bit_xor, and_le_l, and_le_r, or_add_and, xor_add_and}
use lib.ListN.{length, get_or, take, drop}
use Rattle.std.proofs.lemmas.List.{get_or-take, get_or-drop, length-drop, length-take-le}
use Rattle.table.specs.Kind.{top, faces, free_mark}
use Rattle.table.specs.Table.{dim, face}
use Rattle.audit.specs.Audit.{cell_breach}
use Rattle.std.specs.declared.option.Option.TheVariants.{None}
use Rattle.table.proofs.Slices.{seven, taken}
use Rattle.table.proofs.Places.{used_says}
use Rattle.audit.proofs.Records.{all_unused, Cell, used_here, face_at_lem, law_here}
use Rattle.audit.proofs.Valid.{face_says, law_says, passes_cell}

-- nothing gathered: nothing before, and the two sides are equal
no_difference : (bad x y : ℕ) → bit_or bad (bit_xor x y) ≡ 0 → (bad ≡ 0) × (x ≡ y)
no_difference bad x y e =
    let d : ℕ = bit_xor x y in
    let z : (bad ≡ 0) × (d ≡ 0) = (omega (arith, or_add_and bad d, and_le_r bad d), omega (arith, or_add_and bad d, and_le_l bad d)) in
    (z.0, omega (arith, z.1, xor_add_and x y, and_le_l x y, and_le_r x y))

-- one comparison more: where bad is 0 after it, it was 0 before the loop, and the sides are equal here as at every place below
pub one_more : (P : ℕ → Type 0) (bad₀ bad x y j : ℕ) → (bad ≡ 0 → (bad₀ ≡ 0) × ((k : ℕ) → k < j → P k)) → (x ≡ y → P j)
    → bit_or bad (bit_xor x y) ≡ 0 → (bad₀ ≡ 0) × ((k : ℕ) → k < j + 1 → P k)
one_more P bad₀ bad x y j below here e =
    let z = no_difference bad x y e in
    let b = below z.0 in
    (b.0, below_more P j b.1 (here z.1))

-- the two sides of the law agree at place j and every place l below it
abbrev pub Agrees : List ℕ → List ℕ → ℕ → Type 0
Agrees t fs j = (l : ℕ) → l < j → face t (get_or fs j 0) l ≡ face t (get_or fs l 0) (j - 1)

module _ {t : List ℕ} {n c p u m : ℕ} {fs : List ℕ} (h : Cell t n c p u m fs) where
  -- a cell that uses a place has dimension 1 or more
  used_above : (j : ℕ) → j < u → 1 ≤ p
  used_above j l = (used_says p j (omega (arith, h.places_used))).0

  -- what holds of each of the first u faces, and of each of the others, as slices
  pub first_ones : (P : ℕ → Type 0) (i : ℕ) → length (take u fs) ≤ i → ((k : ℕ) → k < i → P (get_or (take u fs) k 0)) → (j : ℕ) → j < u → P (get_or fs j 0)
  first_ones P i all each j l =
      let many = taken t c h.by_value h.fits in
      subst P (get_or-take u fs j 0 l) (each j (omega (arith, many, all)))

  pub last_ones : (P : ℕ → Type 0) (i : ℕ) → length (take (faces - u) (drop u fs)) ≤ i → ((k : ℕ) → k < i → P (get_or (take (faces - u) (drop u fs)) k 0)) → (j : ℕ) → j < faces → u ≤ j → P (get_or fs j 0)
  last_ones P i all each j l g =
      let many = length-take-le (faces - u) (drop u fs) (omega (arith, length-drop u fs, seven t c h.by_value)) in
      let there : u + (j - u) ≡ j = omega (arith, g) in
      let inside : j - u < faces - u = omega (arith, l, g) in
      subst (λ k. P (get_or fs k 0)) there
      (subst P (get_or-take (faces - u) (drop u fs) (j - u) 0 inside ∙ get_or-drop u fs (j - u) 0) (each (j - u) (omega (arith, many, all, inside))))

  -- every comparison was equal, so the cell is sound
  pub all_equal :
      (p ≤ top) ⊎ (p ≡ free_mark)
      → ((j : ℕ) → j < u → get_or fs j 0 < n)
      → ((j : ℕ) → j < u → dim t (get_or fs j 0) ≡ p - 1)
      → ((j : ℕ) → j < m → Agrees t fs j)
      → ((j : ℕ) → j < faces → u ≤ j → get_or fs j 0 ≡ free_mark)
      → cell_breach t c ≡ None
  all_equal kind inside below law unused =
      passes_cell t c
      (record {
        record_holds = all_unused t c p h.dimension kind (λ j g l. sym (face_at_lem h j l) ∙ unused j l (omega (arith, h.places_used)));
        faces_hold = λ j k.
            let g : j < u = omega (arith, used_here h) in
            let f : get_or fs j 0 ≡ face t c j = face_at_lem h j (omega arith) in
            face_says t c j (omega (arith, inside j g, h.cells)) (omega (arith, used_above j g, below j g, ap (dim t) f, h.dimension));
        law_holds = λ j l k i.
            let g : j < m = omega (arith, law_here h) in
            law_says t c j l
            (ap (λ f. face t f l) (sym (face_at_lem h j (omega arith))) ∙ law j g l i ∙ ap (λ f. face t f (j - 1)) (face_at_lem h l (omega arith)));
      })
