-- The largest member of words that stand for a chain (`SetIs`), or that there is none, said of the chain.
-- What carries it: bitset's laws of marks and words. Assumes nothing.
use mathlib.Core.Path.{sym, ◌∙◌}
use mathlib.Core.List.{List}
use Prim.Native.Nat.{ℕ}
use Rattle.homology.specs.Holes.{Chain}
use Rattle.homology.specs.Evidence.{IsLargest}
use Rattle.homology.proofs.Tops.{Empty, largest_cong}
use Rattle.bitset.specs.Bits.{member, LargestIs}
use Rattle.std.specs.Prelude.{None, Some}
use Rattle.bitset.proofs.Marks.{true_member, false_member}
use Rattle.rows.specs.Rows.{SetIs}

pub words_largest : (ws : List ℕ) (m : ℕ) → LargestIs ws (Some m) → IsLargest (member ws) m
words_largest ws m h = record { member = true_member ws m h.in_set; above = λ s l. false_member ws s (h.above s l) }

nothing_is_empty : (ws : List ℕ) → LargestIs ws None → Empty (member ws)
nothing_is_empty ws h s = false_member ws s (h s)

pub set_largest : {x : Chain} (ws : List ℕ) (m : ℕ) → SetIs ws x → LargestIs ws (Some m) → IsLargest x m
set_largest ws m set h = largest_cong set.same (words_largest ws m h)

pub set_largest_empty : {x : Chain} (ws : List ℕ) → SetIs ws x → LargestIs ws None → Empty x
set_largest_empty ws set h s = sym (set.same s) ∙ nothing_is_empty ws h s
