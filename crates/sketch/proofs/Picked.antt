-- Pieces that stand only at the numbers that have a property are the pieces of the first such number, of the second, and so on.
-- What carries it: recursion on the bound, with the cases of the property at the bound. Assumes nothing.
use mathlib.Core.Path.{◌≡◌, refl, ap, ap₂, sym, ◌∙◌}
use mathlib.Core.Bool.{Bool, true, false}
use mathlib.Core.List.{List, [], ◌++◌, append-nil}
use mathlib.Core.Logic.{⊎_elim}
use Prim.Native.Nat.{ℕ, zero, suc}
use Rattle.counting.specs.Counting.{how_many, nth, pick}
use Rattle.counting.proofs.Cases.{true_or_false}
use Rattle.counting.proofs.Counting.{how_many_zero, how_many_yes, how_many_no, nth_here, nth_suc}
use Rattle.sketch.specs.Form.{pieces}
use Rattle.sketch.proofs.Pieces.{pieces_zero, pieces_suc, pieces_cong}

module _ (h : ℕ → Bool) (g : ℕ → List ℕ) where
  abbrev here : ℕ → List ℕ
  here c = pick (h c) (g c) []

  abbrev ranked : ℕ → ℕ → List ℕ
  ranked n i = g (nth h n i)

  ranked_suc : (n : ℕ) → pieces (ranked (suc n)) (how_many h n) ≡ pieces (ranked n) (how_many h n)
  ranked_suc n = pieces_cong (ranked (suc n)) (ranked n) (how_many h n) (λ i l. ap g (nth_suc h n i l))

  picked_yes : (n : ℕ) → h n ≡ true → pieces here n ≡ pieces (ranked n) (how_many h n) → pieces here (suc n) ≡ pieces (ranked (suc n)) (how_many h (suc n))
  picked_yes n e ih =
      pieces_suc here n
      ∙ ap₂ ◌++◌ (ih ∙ sym (ranked_suc n)) (ap (λ b. pick b (g n) []) e ∙ ap g (sym (nth_here h n (how_many h n) e refl)))
      ∙ sym (pieces_suc (ranked (suc n)) (how_many h n))
      ∙ ap (pieces (ranked (suc n))) (sym (how_many_yes h n e))

  picked_no : (n : ℕ) → h n ≡ false → pieces here n ≡ pieces (ranked n) (how_many h n) → pieces here (suc n) ≡ pieces (ranked (suc n)) (how_many h (suc n))
  picked_no n e ih =
      pieces_suc here n
      ∙ ap₂ ◌++◌ (ih ∙ sym (ranked_suc n)) (ap (λ b. pick b (g n) []) e)
      ∙ append-nil (pieces (ranked (suc n)) (how_many h n))
      ∙ ap (pieces (ranked (suc n))) (sym (how_many_no h n e))

  pub pieces_picked : (n : ℕ) → pieces (λ c. pick (h c) (g c) []) n ≡ pieces (λ i. g (nth h n i)) (how_many h n)
  pieces_picked zero = pieces_zero here ∙ sym (pieces_zero (ranked 0)) ∙ ap (pieces (ranked 0)) (sym (how_many_zero h))
  pieces_picked (suc n) =
      ⊎_elim (λ e. picked_yes n e (pieces_picked n)) (λ e. picked_no n e (pieces_picked n)) (true_or_false (h n))
