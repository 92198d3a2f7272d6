-- The rule for a row looks at lower rows alone: where those are the same in other evidence, it gives the same there.
-- What carries it: each addition is of a lower row. And what is known of the rows so far, with one row more. Assumes nothing.
use mathlib.Core.Path.{◌≡◌, sym, subst, ◌∙◌}
use mathlib.Core.List.{List}
use Prim.Native.Nat.{ℕ, suc, ◌≤◌, ◌<◌}
use native.Mathlib.Omega.{arith}
use Rattle.counting.proofs.Tests.{at_or_below}
use Rattle.homology.specs.Cells.{Cells}
use Rattle.bitset.specs.Bits.{sum_of}
use Rattle.rows.specs.Rows.{row_of}
use Rattle.reducer.specs.Rule.{Additions, stop, add, LargestOf, alone, RowByRule}

module _ (K : Cells) (ev ev' : List ℕ) (c : ℕ) where
  pub additions_stay : ((b : ℕ) → b < c → row_of K ev' b ≡ row_of K ev b) → {x y : List ℕ} {n : ℕ} → Additions K ev c x n y → Additions K ev' c x n y
  additions_stay same (stop none) = stop (λ b m l g h. none b m l g (subst (λ (r : List ℕ). LargestOf K r m) (same b l) h))
  additions_stay same (add {x} {y} {n} b m l g h rest) =
      add b m l g (subst (λ (r : List ℕ). LargestOf K r m) (sym (same b l)) h)
      (subst (λ (r : List ℕ). Additions K ev' c (sum_of x r) n y) (sym (same b l)) (additions_stay same rest))

  pub rule_stays : (n : ℕ) → ((b : ℕ) → b ≤ c → row_of K ev' b ≡ row_of K ev b) → RowByRule K ev c n → RowByRule K ev' c n
  rule_stays n same is = record {
    free_row = λ e. same c (omega arith) ∙ is.free_row e;
    free_none = is.free_none;
    live_row = λ e. subst (λ (y : List ℕ). Additions K ev' c (alone K c) n y) (sym (same c (omega arith)))
        (additions_stay (λ b l. same b (omega arith)) (is.live_row e));
  }

-- what holds of the rows below c, and of row c, holds of those below c + 1
pub one_row_more : {P : ℕ → Type 0} (c : ℕ) → ((b : ℕ) → b < c → P b) → P c → (b : ℕ) → b < suc c → P b
one_row_more {P} c below here b l = at_or_below P b c l here (below b)
