-- A signed number that passes through 64 bits comes back as it was where it fits; with it the sum at one place, and the test of a
-- coefficient against 0.
-- What carries it: the cases of the sign. Assumes nothing.
use mathlib.Core.Path.{◌≡◌, sym, ap, ◌∙◌}
use mathlib.Core.List.{List}
use Prim.Native.Nat.{ℕ, ◌%◌}
use borrow.Author.Tests.{eq-eqb, ne_eqb}
use lib.ListN.{get_or, set}
use lib.IntN.{ℤ, pos, neg_ℤ, ◌+ℤ◌, ◌-ℤ◌}
use mir.Syntax.{w64}
use mir.Val.{SFits, to_z, of_z}
use mir.Facts.{to_z-of_z}
use Rattle.reading.specs.Boundary.{turned}
use Rattle.reading.specs.Steps.{put}

-- z as it comes back from a register
abbrev pub back : ℤ → ℤ
back z = to_z w64 (of_z w64 z)

pub back_is : (z : ℤ) → SFits w64 z → back z ≡ z
back_is z f = to_z-of_z f

turned_even : (j : ℕ) (z : ℤ) → j % 2 ≡ 0 → turned j z ≡ z
unfolding turned
turned_even j z e = rw (eq-eqb (j % 2) 0 e)

turned_odd : (j : ℕ) (z : ℤ) → (j % 2 ≡ 0 → ⊥) → turned j z ≡ neg_ℤ z
unfolding turned
turned_odd j z h = rw (ne_eqb (j % 2) 0 h)

-- the sum at one place, through registers: the number there, the coefficient and their sum all fit
pub record Summing (y : List ℤ) (u j : ℕ) (x : ℤ) : Type 0 where
  pub old : SFits w64 (get_or y u (pos 0))
  pub new : SFits w64 x
  pub sum : SFits w64 (get_or y u (pos 0) +ℤ turned j x)

module _ {y : List ℤ} {u j : ℕ} {x : ℤ} (s : Summing y u j x) where
  pub even_fits : j % 2 ≡ 0 → SFits w64 (back (get_or y u (pos 0)) +ℤ back x)
  even_fits e = rw (back_is (get_or y u (pos 0)) s.old, back_is x s.new, ← turned_even j x e) s.sum

  pub odd_fits : (j % 2 ≡ 0 → ⊥) → SFits w64 (back (get_or y u (pos 0)) -ℤ back x)
  odd_fits h = rw (back_is (get_or y u (pos 0)) s.old, back_is x s.new, ← turned_odd j x h) s.sum

  pub even_puts : j % 2 ≡ 0 → set y u (back (back (get_or y u (pos 0)) +ℤ back x)) ≡ put y u j x
  even_puts e =
      ap (set y u)
      (back_is (back (get_or y u (pos 0)) +ℤ back x) (even_fits e)
      ∙ ap (λ (z : ℤ). z +ℤ back x) (back_is (get_or y u (pos 0)) s.old)
      ∙ ap (λ (z : ℤ). get_or y u (pos 0) +ℤ z) (back_is x s.new ∙ sym (turned_even j x e)))

  pub odd_puts : (j % 2 ≡ 0 → ⊥) → set y u (back (back (get_or y u (pos 0)) -ℤ back x)) ≡ put y u j x
  odd_puts h =
      ap (set y u)
      (back_is (back (get_or y u (pos 0)) -ℤ back x) (odd_fits h)
      ∙ ap (λ (z : ℤ). z -ℤ back x) (back_is (get_or y u (pos 0)) s.old)
      ∙ ap (λ (z : ℤ). get_or y u (pos 0) +ℤ z) (ap neg_ℤ (back_is x s.new) ∙ sym (turned_odd j x h)))

-- a coefficient against 0
pub zero_back : (z : ℤ) → SFits w64 z → of_z w64 z ≡ 0 → z ≡ pos 0
zero_back z f e = sym (back_is z f) ∙ ap (to_z w64) e

pub no_zero : (z : ℤ) → (of_z w64 z ≡ 0 → ⊥) → z ≡ pos 0 → ⊥
no_zero z h e = h (ap (of_z w64) e)
