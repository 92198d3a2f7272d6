-- Laws of pieces put one after the other: lengths, places, and equality piece by piece.
-- What carries them: recursion on the number of pieces. Assumes nothing.
use mathlib.Core.Path.{◌≡◌, refl, ap, ap₂, ◌∙◌}
use mathlib.Core.List.{List, [], ◌++◌}
use Prim.Native.Nat.{ℕ, zero, suc, ◌+◌, ◌*◌, ◌<◌}
use native.Mathlib.Numerals.{add-one}
use native.Mathlib.Omega.{arith}
use lib.ListN.{length, length-append}
use Rattle.counting.specs.Counting.{total}
use Rattle.counting.proofs.Totals.{total_cong, total_const}
use Rattle.sketch.specs.Form.{pieces}

module _ (f : ℕ → List ℕ) where
  pub pieces_zero : pieces f 0 ≡ []
  unfolding pieces
  pieces_zero = refl

  pub pieces_suc : (n : ℕ) → pieces f (suc n) ≡ pieces f n ++ f n
  unfolding pieces
  pieces_suc n = refl

  pub pieces_more : (n : ℕ) → pieces f (n + 1) ≡ pieces f n ++ f n
  pieces_more n = rw (add-one n) (pieces_suc n)

  pub length_pieces : (n : ℕ) → length (pieces f n) ≡ total (λ k. length (f k)) n
  unfolding pieces total
  length_pieces zero = refl
  length_pieces (suc n) = length-append (pieces f n) (f n) ∙ ap (λ m. m + length (f n)) (length_pieces n)

  -- pieces of one length
  pub length_even : (w n : ℕ) → ((k : ℕ) → k < n → length (f k) ≡ w) → length (pieces f n) ≡ n * w
  length_even w n h = length_pieces n ∙ total_cong (λ k. length (f k)) (λ k. w) n h ∙ total_const w n

pub pieces_cong : (f g : ℕ → List ℕ) (n : ℕ) → ((k : ℕ) → k < n → f k ≡ g k) → pieces f n ≡ pieces g n
unfolding pieces
pieces_cong f g zero h = refl
pieces_cong f g (suc n) h = ap₂ ◌++◌ (pieces_cong f g n (λ k l. h k (omega arith))) (h n (omega arith))
