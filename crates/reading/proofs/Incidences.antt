-- The signs of the places are summed one after the other, and the sum lies from −3 to 4.
-- What carries it: a place whose face is another cell adds nothing; of seven places at most four are even and three are odd.
-- Assumes nothing.
use mathlib.Core.Path.{◌≡◌, refl, sym, ap, subst, ◌∙◌}
use mathlib.Core.Bool.{Bool, true, false, cond}
use mathlib.Core.List.{List}
use mathlib.Core.Logic.{◌⊎◌, inl, inr}
use Prim.Native.Nat.{ℕ, zero, suc, ◌+◌, ◌-◌, ◌*◌, ◌/◌, ◌%◌, ◌≤◌, ◌<◌}
use native.Mathlib.Omega.{arith}
use borrow.Author.Tests.{eq-eqb, ne_eqb, le-ltb, ltb-true}
use lib.ListN.{length, get_or, take}
use lib.IntN.{ℤ, pos, negsuc, neg_ℤ, sub_ℕ, nat_abs, ◌+ℤ◌, ◌-ℤ◌, +ℤ_idr, +ℤ_assoc, neg_ℤ-+ℤ}
use lib.Signed.{◌≤ℤ◌, le_z, le_z_yes}
use lib.Dec.{T, eqb, ltb, le→leb}
use mir.Syntax.{w64}
use mir.Val.{SFits}
use Rattle.counting.specs.Counting.{pick}
use Rattle.table.proofs.Slices.{taken, face_taken}
use Rattle.table.specs.Kind.{faces, used}
use Rattle.table.specs.Table.{dim, face, faces_of}
use Rattle.counting.proofs.Cases.{same_or_not}
use Rattle.table.proofs.Places.{used_fits}
use Rattle.reading.specs.Sums.{sum_to, sign}
use Rattle.reading.specs.Incidence.{incidence_of}
use Rattle.reading.proofs.Integers.{last_two}
use Rattle.reading.proofs.SumLaws.{sum_none, sum_more, sum_next}
use Rattle.reading.proofs.Sizes.{size_add, size_sum, fits_below}
use Rattle.reading.proofs.Cancelling.{even_sign, odd_sign}
use Rattle.reading.proofs.Registers.{back, back_is}

-- what place j of s adds at u
abbrev pub place_sign : List ℕ → ℕ → ℕ → ℕ → ℤ
place_sign t s u j = pick (eqb (face t s j) u) (sign j) (pos 0)

sign_size : (b c : Bool) → nat_abs (pick b (pick c (pos 1) (negsuc 0)) (pos 0)) ≤ 1
sign_size true true = omega arith
sign_size true false = omega arith
sign_size false c = omega arith

size_sign : (t : List ℕ) (s u j : ℕ) → nat_abs (place_sign t s u j) ≤ 1
unfolding sign
size_sign t s u j = sign_size (eqb (face t s j) u) (eqb (j % 2) 0)

-- the faces of cell s, read where its record uses them
module _ (t : List ℕ) (s : ℕ) {fs : List ℕ} (by_value : fs ≡ faces_of t s) {m : ℕ} (few : m ≤ faces) where
  module _ {j : ℕ} (l : j < length (take m fs)) where
    pub few_taken : j < faces
    few_taken = omega (arith, taken t s by_value few)

    pub face_here : get_or (take m fs) j 0 ≡ face t s j
    face_here = face_taken t s by_value few (omega (arith, taken t s by_value few))

-- one place more, at which f stands, with the sum z so far
module _ (t : List ℕ) (s u : ℕ) (z : ℤ) (j f : ℕ) (few : j < faces) (at : f ≡ face t s j) (so_far : z ≡ sum_to j (place_sign t s u)) where
  size_so_far : nat_abs z ≤ faces
  size_so_far =
      let h : nat_abs (sum_to j (place_sign t s u)) ≤ j * 1 = size_sum j 1 (place_sign t s u) (λ i l. size_sign t s u i) in
      subst (λ (w : ℤ). nat_abs w ≤ faces) (sym so_far) (omega arith)

  pub up_fits : SFits w64 (z +ℤ pos 1)
  up_fits = fits_below (z +ℤ pos 1) (omega (arith, size_add z (pos 1), size_so_far))

  pub down_fits : SFits w64 (z -ℤ pos 1)
  down_fits = fits_below (z -ℤ pos 1) (omega (arith, size_add z (negsuc 0), size_so_far))

  next_sum : sum_to (j + 1) (place_sign t s u) ≡ z +ℤ place_sign t s u j
  next_sum = sum_next j (place_sign t s u) ∙ ap (λ (w : ℤ). w +ℤ place_sign t s u j) (sym so_far)

  sign_here : f ≡ u → place_sign t s u j ≡ sign j
  sign_here e = rw (eq-eqb (face t s j) u (sym at ∙ e))

  pub counts_up : f ≡ u → j % 2 ≡ 0 → back (z +ℤ pos 1) ≡ sum_to (j + 1) (place_sign t s u)
  counts_up e h =
      back_is (z +ℤ pos 1) up_fits ∙ ap (λ (w : ℤ). z +ℤ w) (sym (sign_here e ∙ even_sign j h)) ∙ sym next_sum

  pub counts_down : f ≡ u → (j % 2 ≡ 0 → ⊥) → back (z -ℤ pos 1) ≡ sum_to (j + 1) (place_sign t s u)
  counts_down e h =
      back_is (z -ℤ pos 1) down_fits ∙ ap (λ (w : ℤ). z +ℤ w) (sym (sign_here e ∙ odd_sign j h)) ∙ sym next_sum

  pub counts_not : (f ≡ u → ⊥) → z ≡ sum_to (j + 1) (place_sign t s u)
  counts_not h = sym (next_sum ∙ rw (ne_eqb (face t s j) u (λ e. h (at ∙ e))) (+ℤ_idr z))

pub all_counted : (t : List ℕ) (s u j k : ℕ) (z : ℤ) → k ≡ used (dim t s) → j ≤ k → k ≤ j → z ≡ sum_to j (place_sign t s u) → z ≡ incidence_of t s u
unfolding incidence_of
all_counted t s u j k z e h l so_far =
    let q : j ≡ used (dim t s) = omega (arith, e) in so_far ∙ ap (λ (n : ℕ). sum_to n (place_sign t s u)) q

-- the range: a number that is a difference of two small ones
record Between (low high : ℕ) (z : ℤ) : Type 0 where
  up : ℕ
  down : ℕ
  is : z ≡ pos up -ℤ pos down
  up_to : up ≤ high
  down_to : down ≤ low

-- a sum of signs over some of n places
between_next : (b : Bool) (n : ℕ) (z : ℤ) → Between (n / 2) ((n + 1) / 2) z → (n % 2 ≡ 0) ⊎ (n % 2 ≡ 0 → ⊥) → Between ((n + 1) / 2) ((n + 2) / 2) (z +ℤ pick b (sign n) (pos 0))
between_next false n z h q = record { up = h.up; down = h.down; is = +ℤ_idr z ∙ h.is; up_to = omega (arith, h.up_to); down_to = omega (arith, h.down_to) }
between_next true n z h (inl even) =
    record {
      up = h.up + 1;
      down = h.down;
      is = ap (λ (w : ℤ). z +ℤ w) (even_sign n even) ∙ ap (λ (w : ℤ). w +ℤ pos 1) h.is ∙ last_two (pos h.up) (neg_ℤ (pos h.down)) (pos 1);
      up_to = omega (arith, h.up_to);
      down_to = omega (arith, h.down_to);
    }
between_next true n z h (inr odd) =
    record {
      up = h.up;
      down = h.down + 1;
      is = ap (λ (w : ℤ). z +ℤ w) (odd_sign n odd) ∙ ap (λ (w : ℤ). w +ℤ negsuc 0) h.is ∙ +ℤ_assoc (pos h.up) (neg_ℤ (pos h.down)) (negsuc 0) ∙ ap (λ (w : ℤ). pos h.up +ℤ w) (sym (neg_ℤ-+ℤ (pos h.down) (pos 1)));
      up_to = omega (arith, h.up_to);
      down_to = omega (arith, h.down_to);
    }

between : (g : ℕ → Bool) (n : ℕ) → Between (n / 2) ((n + 1) / 2) (sum_to n (λ j. pick (g j) (sign j) (pos 0)))
between g zero = record { up = 0; down = 0; is = sum_none (λ j. pick (g j) (sign j) (pos 0)); up_to = omega arith; down_to = omega arith }
between g (suc n) =
    let h = between_next (g n) n (sum_to n (λ j. pick (g j) (sign j) (pos 0))) (between g n) (same_or_not (n % 2) 0) in
    record {
      up = h.up;
      down = h.down;
      is = sum_more n (λ j. pick (g j) (sign j) (pos 0)) ∙ h.is;
      up_to = omega (arith, h.up_to);
      down_to = omega (arith, h.down_to);
    }

low_cases : (a b : ℕ) → b ≤ 3 → (q : Bool) → ltb a b ≡ q → T (le_z (negsuc 2) (cond q (negsuc (b - suc a)) (pos (a - b))))
low_cases a b h true e = le→leb (b - suc a) 2 (omega (arith, ltb-true a b e))
low_cases a b h false e = tt

high_cases : (a b : ℕ) → a ≤ 4 → (q : Bool) → ltb a b ≡ q → T (le_z (cond q (negsuc (b - suc a)) (pos (a - b))) (pos 4))
high_cases a b h true e = tt
high_cases a b h false e = le→leb (a - b) 4 (omega arith)

difference : (a b : ℕ) → pos a -ℤ pos b ≡ sub_ℕ a b
difference a zero =
    ap pos (let q : a + 0 ≡ a - 0 = omega arith in q)
    ∙ sym (ap (λ (b : Bool). cond b (negsuc (0 - suc a)) (pos (a - 0))) (le-ltb a 0 (omega arith)))
difference a (suc b) = refl

in_range : (z : ℤ) → Between 3 4 z → (negsuc 2 ≤ℤ z) × (z ≤ℤ pos 4)
in_range z h =
    let q : z ≡ sub_ℕ h.up h.down = h.is ∙ difference h.up h.down in (
      subst (λ (w : ℤ). negsuc 2 ≤ℤ w) (sym q) (le_z_yes (low_cases h.up h.down h.down_to (ltb h.up h.down) refl)),
      subst (λ (w : ℤ). w ≤ℤ pos 4) (sym q) (le_z_yes (high_cases h.up h.down h.up_to (ltb h.up h.down) refl)),
    )

-- The signed incidence lies from −3 to 4, whatever the words.
pub incidence_from_minus_three_to_four : (t : List ℕ) (s u : ℕ) → (negsuc 2 ≤ℤ incidence_of t s u) × (incidence_of t s u ≤ℤ pos 4)
unfolding incidence_of
incidence_from_minus_three_to_four t s u =
    let h = between (λ j. eqb (face t s j) u) (used (dim t s)) in
    in_range (sum_to (used (dim t s)) (place_sign t s u))
    (record {
      up = h.up;
      down = h.down;
      is = h.is;
      up_to = omega (arith, h.up_to, used_fits (dim t s));
      down_to = omega (arith, h.down_to, used_fits (dim t s));
    })
