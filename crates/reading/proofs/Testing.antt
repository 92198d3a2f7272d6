-- The tests of a chain, one coefficient after the other: each stops at the first that fails.
-- What carries it: a test over all numbers fails where one fails. Assumes nothing.
use mathlib.Core.Path.{◌≡◌, sym, ap, subst, ◌∙◌}
use mathlib.Core.Bool.{Bool, true, false, ◌||◌}
use mathlib.Core.List.{List}
use mathlib.Core.Logic.{◌⊎◌, inl, inr, ⊎_elim, ◌≢◌}
use Prim.Native.Nat.{ℕ, ◌+◌, ◌≤◌, ◌<◌}
use native.Mathlib.Omega.{arith}
use borrow.Author.Tests.{eq-eqb, ne_eqb}
use lib.ListN.{length, get_or}
use lib.IntN.{ℤ, pos, negsuc, nat_abs}
use lib.Dec.{eqb, leb}
use Rattle.std.specs.Bool.{MatchBool}
use Rattle.std.specs.List.{AllWithin, HoldsAt, enumerate_from}
use Rattle.std.proofs.lemmas.List.FromFn.{length-enumerate_from, get_or-enumerate_from}
use Rattle.counting.proofs.Cases.{same_or_not, not_true_false}
use Rattle.counting.proofs.Tests.{all_says}
use Rattle.table.specs.Kind.{top}
use Rattle.table.specs.Table.{cells_of, dim, is_cell}
use Rattle.reading.specs.Boundary.{limit, coefficient, all_small, all_placed}
use Rattle.reading.proofs.Lists.{all_fails}
use Rattle.reading.proofs.Living.{cell_true, cell_is}

abbrev pub small_at : List ℤ → ℕ → Bool
small_at x c = leb (nat_abs (coefficient x c)) limit

abbrev pub placed_at : List ℕ → List ℤ → ℕ → ℕ → Bool
placed_at t x p c = eqb (nat_abs (coefficient x c)) 0 || is_cell t p c

-- what the chain over the coefficients answers
pub small_all : (x : List ℤ) (r : Bool) → MatchBool r (AllWithin (λ z. leb (nat_abs z) limit ≡ true) x 0 (length x)) ((k : ℕ) × (k < length x) × HoldsAt (λ z. leb (nat_abs z) limit ≡ false) x k) → r ≡ all_small (length x) x
unfolding all_small
small_all x true h = sym (all_says (small_at x) (length x) (λ c l. h c (pos 0) (omega arith) l))
small_all x false (k, l, e) = sym (all_fails (small_at x) k (length x) l (e (pos 0)))

pub size_zero : (z : ℤ) → nat_abs z ≡ 0 → z ≡ pos 0
size_zero (pos n) e = ap pos e
size_zero (negsuc n) e = absurd (let q : ⊥ = omega arith in q)

zero_or_not : (z : ℤ) → (z ≡ pos 0) ⊎ (z ≢ pos 0)
zero_or_not z =
    ⊎_elim (λ e. inl (size_zero z e)) (λ n. inr (λ e. n (ap nat_abs e))) (same_or_not (nat_abs z) 0)

-- a coefficient that is 0 may stand anywhere, and any other only at a live p-cell
module _ (t : List ℕ) (x : List ℤ) (p c : ℕ) where
  zero_placed : coefficient x c ≡ pos 0 → placed_at t x p c ≡ true
  zero_placed e = rw (eq-eqb (nat_abs (coefficient x c)) 0 (ap nat_abs e))

  placed_by : (coefficient x c ≡ pos 0 → ⊥) → (b : Bool) → is_cell t p c ≡ b → placed_at t x p c ≡ b
  placed_by h b e = rw (ne_eqb (nat_abs (coefficient x c)) 0 (λ q. h (size_zero (coefficient x c) q)), e)

  cell_placed : (coefficient x c ≡ pos 0 → ⊥) → c < cells_of t → p ≤ top → dim t c ≡ p → placed_at t x p c ≡ true
  cell_placed h l k e =
      placed_by h true (cell_is t p c (record { alive = record { inside = l; low = omega (arith, e) }; level = e }))

  other_misplaced : (coefficient x c ≡ pos 0 → ⊥) → (dim t c ≡ p → ⊥) → placed_at t x p c ≡ false
  other_misplaced h k =
      placed_by h false (not_true_false (is_cell t p c) (λ e. k (cell_true t p c e).level))

-- a number of the chain with its coefficient, as the chain over both passes it on
module _ (t : List ℕ) (p : ℕ) where
  abbrev pub IsPlaced : ℕ × ℤ → Type 0
  IsPlaced k = (k.1 ≡ pos 0) ⊎ (dim t k.0 ≡ p)

  abbrev pub IsMisplaced : ℕ × ℤ → Type 0
  IsMisplaced k = (k.1 ≢ pos 0) × (dim t k.0 ≢ p)

-- what the chain over the numbers and their coefficients answers
module _ (t : List ℕ) (x : List ℤ) (p : ℕ) (long : length x ≡ cells_of t) (low : p ≤ top) where
  abbrev numbered : List (ℕ × ℤ)
  numbered = enumerate_from 0 x

  numbered_at : (c : ℕ) → c < length x → get_or numbered c (0, pos 0) ≡ (c, coefficient x c)
  numbered_at c l =
      let e : 0 + c ≡ c = omega arith in
      get_or-enumerate_from 0 x c (0, pos 0) l ∙ ap (λ n. (n, coefficient x c)) e

  placed_here : (c : ℕ) → c < length x → IsPlaced t p (c, coefficient x c) → placed_at t x p c ≡ true
  placed_here c l h =
      ⊎_elim (zero_placed t x p c)
      (λ e.
      ⊎_elim (zero_placed t x p c) (λ n. cell_placed t x p c n (omega (arith, long)) low e)
      (zero_or_not (coefficient x c)))
      h

  pub placed_all : (r : Bool) → MatchBool r (AllWithin (IsPlaced t p) numbered 0 (length numbered)) ((k : ℕ) × (k < length numbered) × HoldsAt (IsMisplaced t p) numbered k) → r ≡ all_placed t x p
  unfolding all_placed
  placed_all true h =
      sym (all_says (placed_at t x p) (cells_of t)
      (λ c l.
      let b : c < length x = omega (arith, long) in
      placed_here c b (subst (IsPlaced t p) (numbered_at c b) (h c (0, pos 0) (omega arith) (omega (arith, length-enumerate_from 0 x))))))
  placed_all false (k, l, e) =
      let b : k < length x = omega (arith, length-enumerate_from 0 x) in
      let m = subst (IsMisplaced t p) (numbered_at k b) (e (0, pos 0)) in
      sym (all_fails (placed_at t x p) k (cells_of t) (omega (arith, long)) (other_misplaced t x p k m.0 m.1))
