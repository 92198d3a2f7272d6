-- A file whose numbers are in order: each body's cells have that body's dimension, and each stands at one place of it.
-- What carries it: numbers rise within a body, and none is in a lower one. Assumes nothing.
use mathlib.Core.Path.{◌≡◌, refl, ap, sym, subst, ◌∙◌}
use mathlib.Core.Bool.{Bool, true, false}
use mathlib.Core.List.{List}
use mathlib.Core.Logic.{◌⊎◌, inl, inr}
use Prim.Native.Nat.{ℕ, ◌<◌}
use native.Mathlib.Omega.{arith}
use borrow.Author.Tests.{eq-eqb, ne_eqb, eqb-true}
use lib.Dec.{eqb}
use Rattle.table.specs.Kind.{free_mark, dimensions}
use Rattle.counting.specs.Counting.{how_many, nth, some_has, pick}
use Rattle.counting.proofs.Cases.{true_or_false}
use Rattle.counting.proofs.Counting.{how_many_strict, nth_has, some_has_at, some_has_one, some_has_none}
use Rattle.sketch.specs.Read.{count_in, number_in, in_body, dim_in, place_in}
use Rattle.sketch.proofs.Fits.{Numbered}
use Rattle.sketch.proofs.Rising.{nth_first, rising_far}

module _ (f : List ℕ) where
  -- being in a body
  pub body_has : (p i : ℕ) → i < count_in f p → in_body f p (number_in f p i) ≡ true
  unfolding in_body
  body_has p i l = some_has_at (λ k. eqb (number_in f p k) (number_in f p i)) (count_in f p) i l (eq-eqb (number_in f p i) (number_in f p i) refl)

  pub body_one : (p c : ℕ) → in_body f p c ≡ true → (i : ℕ) × (i < count_in f p) × (number_in f p i ≡ c)
  unfolding in_body
  body_one p c e =
      let w = some_has_one (λ k. eqb (number_in f p k) c) (count_in f p) e in
      (w.0, w.1, eqb-true (number_in f p w.0) c w.2)

  abbrev body_at : ℕ → ℕ → Bool
  body_at c p = in_body f p c

  -- the dimension that a cell in no body has, and in one
  pub dim_in_none : (c : ℕ) → ((p : ℕ) → p < dimensions → in_body f p c ≡ false) → dim_in f c ≡ free_mark
  unfolding dim_in
  dim_in_none c none = ap (λ b. pick b (nth (body_at c) dimensions 0) free_mark) (some_has_none (body_at c) dimensions none)

  dim_in_some : (c : ℕ) → some_has (body_at c) dimensions ≡ true → dim_in f c ≡ nth (body_at c) dimensions 0
  unfolding dim_in
  dim_in_some c e = ap (λ b. pick b (nth (body_at c) dimensions 0) free_mark) e

  dim_in_no : (c : ℕ) → some_has (body_at c) dimensions ≡ false → dim_in f c ≡ free_mark
  unfolding dim_in
  dim_in_no c e = ap (λ b. pick b (nth (body_at c) dimensions 0) free_mark) e

  -- a cell that has a dimension is in its body
  pub in_body_lem : (p c : ℕ) → p < dimensions → dim_in f c ≡ p → in_body f p c ≡ true
  in_body_lem p c h e = go (true_or_false (some_has (body_at c) dimensions))
    where
      found : (q : ℕ) × (q < dimensions) × (body_at c q ≡ true) → 0 < how_many (body_at c) dimensions
      found w = omega (arith, how_many_strict (body_at c) w.0 dimensions w.1 w.2)

      go : (some_has (body_at c) dimensions ≡ true) ⊎ (some_has (body_at c) dimensions ≡ false) → in_body f p c ≡ true
      go (inl s) =
          subst (λ q. body_at c q ≡ true) (sym (dim_in_some c s) ∙ e)
          (nth_has (body_at c) dimensions 0 (found (some_has_one (body_at c) dimensions s)))
      go (inr s) = absurd (omega (arith, dim_in_no c s))

  module _ (n : ℕ) (w : Numbered n f) where
    pub dim_in_number : (p i : ℕ) → p < dimensions → i < count_in f p → dim_in f (number_in f p i) ≡ p
    dim_in_number p i h l =
        let c : ℕ = number_in f p i in
        dim_in_some c (some_has_at (body_at c) dimensions p h (body_has p i l))
        ∙ nth_first (body_at c) dimensions p h (body_has p i l) (λ q k. w.alone p i q h l k)

    pub place_in_number : (p i : ℕ) → p < dimensions → i < count_in f p → place_in f p (number_in f p i) ≡ i
    unfolding place_in
    place_in_number p i h l =
        nth_first (λ k. eqb (number_in f p k) (number_in f p i)) (count_in f p) i l (eq-eqb (number_in f p i) (number_in f p i) refl)
        (λ k b. ne_eqb (number_in f p k) (number_in f p i) (λ e. omega (arith, rising_far (number_in f p) (count_in f p) (λ j. w.rising p j h) k i b l)))
