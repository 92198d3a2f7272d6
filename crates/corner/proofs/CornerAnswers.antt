-- What the call answers, way by way out of the code, once the audit has spoken.
-- What carries it: the audit's grounds come first, then the cell's and the corner's. Assumes nothing.
use mathlib.Core.Path.{◌≡◌}
use mathlib.Core.Bool.{true, false}
use mathlib.Core.List.{List}
use Prim.Native.Nat.{ℕ, ◌≤◌, ◌<◌}
use borrow.Author.Tests.{lt-ltb, le-ltb}
use Rattle.table.specs.Table.{dim, live, Valid}
use Rattle.calls.specs.declared.Refusal.TheVariants.{NotLive, NoSuchPlace}
use Rattle.std.specs.declared.result.Result.TheVariants.{Ok, Err}
use Rattle.audit.proofs.Valid.{valid_is_sized, valid_is_sound}
use Rattle.corner.specs.Corner.{corner_of, corner_answer}

-- in a valid table a number that is no live cell is refused, then a corner past the dimension, and any other is given
module _ (t : List ℕ) (c k : ℕ) (v : Valid t) where
  pub dead_refused : live t c ≡ false → Err NotLive ≡ corner_answer t c k
  dead_refused l = simp (valid_is_sized t v, valid_is_sound t v, l)

  pub past_refused : live t c ≡ true → dim t c < k → Err NoSuchPlace ≡ corner_answer t c k
  past_refused l h = simp (valid_is_sized t v, valid_is_sound t v, l, lt-ltb (dim t c) k h)

  pub corner_given : live t c ≡ true → k ≤ dim t c → Ok (corner_of t c k) ≡ corner_answer t c k
  corner_given l h = simp (valid_is_sized t v, valid_is_sound t v, l, le-ltb (dim t c) k h)
