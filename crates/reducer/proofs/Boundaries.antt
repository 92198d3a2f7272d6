-- Words as the boundary of a row: the largest cell of the one is that of the other, and adding in both keeps them together.
-- What carries it: the boundary is linear. Assumes nothing.
use mathlib.Core.Path.{◌≡◌, sym, ap₂, ◌∙◌}
use mathlib.Core.List.{List}
use Prim.Native.Nat.{ℕ}
use lib.ListN.{length}
use Rattle.homology.specs.Cells.{Cells, ◌⊻◌}
use Rattle.homology.specs.Evidence.{IsLargest}
use Rattle.homology.proofs.Tops.{largest_cong}
use Rattle.bitset.specs.Bits.{member, sum_of, IsLargestIn}
use Rattle.bitset.proofs.Marks.{member_true, member_false}
use Rattle.rows.proofs.Members.{member_inside, member_sum}
use Rattle.rows.proofs.Sets.{words_largest}
use Rattle.rows.proofs.Boundaries.{boundary_of_sum}
use Rattle.reducer.specs.Rule.{LargestOf}
use Rattle.reducer.specs.Work.{Bounds}

largest_in_words : (ws : List ℕ) (m : ℕ) → IsLargest (member ws) m → IsLargestIn ws m
largest_in_words ws m h = record {
  inside = member_inside ws m h.member;
  in_set = member_true ws m h.member;
  above = λ s l. member_false ws s (h.above s l);
}

pub largest_of : {K : Cells} {x y : List ℕ} {m : ℕ} → Bounds K x y → IsLargestIn x m → LargestOf K y m
largest_of {K} {x} {y} {m} is h = largest_cong is.same (words_largest x m h)

pub of_largest : {K : Cells} {x y : List ℕ} {m : ℕ} → Bounds K x y → LargestOf K y m → IsLargestIn x m
of_largest {K} {x} {y} {m} is h = largest_in_words x m (largest_cong (λ s. sym (is.same s)) h)

-- two rows added, and their boundaries
pub bounds_add : (K : Cells) (x y x' y' : List ℕ) → length x ≡ length x' → length y ≡ length y' → Bounds K x y → Bounds K x' y' → Bounds K (sum_of x x') (sum_of y y')
bounds_add K x y x' y' k l of-y of-y' = record {
  same = λ s.
      member_sum x x' k s ∙ ap₂ ◌⊻◌ (of-y.same s) (of-y'.same s) ∙ sym (boundary_of_sum K y y' l s);
}
