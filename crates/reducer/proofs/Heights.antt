-- The height of a set: its largest member and one more, or 0 where it is empty. It is the measure of the additions to a row, since
-- adding a set with the same largest member makes it fall. What carries it: the laws of `largest_below`. Assumes nothing.
use mathlib.Core.Path.{◌≡◌, refl}
use mathlib.Core.Bool.{Bool, true}
use mathlib.Core.List.{List}
use Prim.Native.Nat.{ℕ, zero, suc, ◌*◌, ◌≤◌, ◌<◌}
use native.Mathlib.Omega.{arith}
use lib.ListN.{length}
use Rattle.counting.specs.Counting.{largest_below}
use Rattle.homology.proofs.Marks.{by_order, clash}
use Rattle.homology.proofs.LargestBelow.{largest_found, largest_none, largest_at_most}
use Rattle.bitset.specs.Bits.{bits, member, sum_of, IsLargestIn}
use Rattle.bitset.proofs.Marks.{true_member, false_member}
use Rattle.bitset.proofs.LargestMember.{sum_from_largest_empty}

unfoldable pub height : List ℕ → ℕ
height ws = largest_below (member ws) (bits * length ws)

pub height_inside : (ws : List ℕ) → height ws ≤ bits * length ws
unfolding height
height_inside ws = go (height ws) refl
  where
    go : (h : ℕ) → largest_below (member ws) (bits * length ws) ≡ h → h ≤ bits * length ws
    go zero e = omega arith
    go (suc k) e = (largest_found (member ws) (bits * length ws) k e).0

-- a member is below the height
above_member : (n m : ℕ) (x : ℕ → Bool) → m < n → x m ≡ true → m < largest_below x n
above_member n m x l e = go (largest_below x n) refl
  where
    go : (h : ℕ) → largest_below x n ≡ h → m < h
    go zero q = clash e (largest_none x n q m l)
    go (suc k) q = by_order m k (λ i. omega arith) (λ i. omega arith) (λ i. clash e ((largest_found x n k q).2 m i l))

-- adding a set with the same largest member
pub height_falls : (x y : List ℕ) (m : ℕ) → length x ≡ length y → IsLargestIn x m → IsLargestIn y m → height (sum_of x y) < height x
unfolding height
height_falls x y m e g h = omega (
  arith,
  largest_at_most (member (sum_of x y)) (bits * length (sum_of x y)) m (λ s l. false_member (sum_of x y) s (sum_from_largest_empty x y m e g h s l)),
  above_member (bits * length x) m (member x) g.inside (true_member x m g.in_set),
)
