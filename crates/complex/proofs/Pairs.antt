-- Laws of parity for faces of faces: a range with one member, and a square of places whose two halves mirror each other.
-- What carries each: induction on the range. Assumes nothing.
use mathlib.Core.Path.{◌≡◌, refl, sym, ap, ap₂, ◌∙◌}
use mathlib.Core.Bool.{Bool, false, ◌&&◌}
use Prim.Native.Nat.{ℕ, zero, suc, ◌-◌, ◌≤◌, ◌<◌}
use native.Mathlib.Nat.{not-suc-le-zero}
use native.Mathlib.Omega.{arith}
use borrow.Author.Tests.{eq-eqb, ne_eqb}
use lib.Dec.{eqb}
use Rattle.homology.specs.Cells.{odd, ◌⊻◌}
use Rattle.homology.proofs.Marks.{by_order, off_⊻, ⊻-off, ⊻-self}
use Rattle.homology.proofs.Parity.{odd_⊻}

-- two families that agree below n have one parity there
pub odd_below : (n : ℕ) (f g : ℕ → Bool) → ((c : ℕ) → c < n → f c ≡ g c) → odd n f ≡ odd n g
unfolding odd
odd_below zero f g h = refl
odd_below (suc n) f g h = ap₂ (λ a b. a ⊻ b) (odd_below n f g (λ c l. h c (omega arith))) (h n (omega arith))

-- a number at or past the range's end is no member
past : (n k : ℕ) (f : ℕ → Bool) → n ≤ k → odd n (λ c. eqb k c && f c) ≡ false
unfolding odd
past zero k f h = refl
past (suc n) k f h = rw (past n k f (omega arith), ne_eqb k n (λ e. omega arith))

-- of a range's numbers, one alone is k
pub odd_at : (n k : ℕ) (f : ℕ → Bool) → k < n → odd n (λ c. eqb k c && f c) ≡ f k
unfolding odd
odd_at zero k f h = absurd (not-suc-le-zero h)
odd_at (suc n) k f h = by_order k n
    (λ l. rw (odd_at n k f l, ne_eqb k n (λ e. omega arith)) (⊻-off (f k)))
    (λ e. rw (past n k f (omega arith), eq-eqb k n e) (off_⊻ (f n) ∙ ap f (sym e)))
    (λ l. absurd (omega arith))

-- Pairs of places (j, l), j up to n and l below n, cancel in two: (j, l) with l < j against (l, j − 1).
pub pairs_cancel : (n : ℕ) (a : ℕ → ℕ → Bool) → ((j l : ℕ) → l < j → j ≤ n → a j l ≡ a l (j - 1)) → odd (suc n) (λ j. odd n (a j)) ≡ false
unfolding odd
pairs_cancel zero a h = refl
pairs_cancel (suc n) a h =
    ap (λ b. b ⊻ odd (suc n) (a (suc n))) (odd_⊻ (suc n) (λ j. odd n (a j)) (λ j. a j n))
    ∙ ap₂ (λ b c. (b ⊻ odd (suc n) (λ j. a j n)) ⊻ c) (pairs_cancel n a (λ j l hl hj. h j l hl (omega arith))) last
    ∙ ap (λ b. b ⊻ odd (suc n) (λ j. a j n)) (off_⊻ (odd (suc n) (λ j. a j n)))
    ∙ ⊻-self (odd (suc n) (λ j. a j n))
  where
    -- the last row mirrors the last column
    mirror : (l : ℕ) → l < suc n → a (suc n) l ≡ a l n
    mirror l k = let e : suc n - 1 ≡ n = omega arith in h (suc n) l k (omega arith) ∙ ap (a l) e

    last : odd (suc n) (a (suc n)) ≡ odd (suc n) (λ j. a j n)
    last = odd_below (suc n) (a (suc n)) (λ j. a j n) mirror
