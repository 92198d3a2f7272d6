-- What the writer's inner functions say: bytes put into a target from a place on, and counts of cells in an array.
-- No public call's contract cites these.
use Rattle.std.specs.Prelude.{◌≡◌, List, ◌++◌, ℕ, ◌+◌, ◌≤◌, ◌<◌, length, get_or}
use Rattle.std.proofs.lemmas.List.Edits.{sets}
use Rattle.table.specs.Kind.{dimensions}
use Rattle.sketch.specs.Form.{two, four, body_start}
use Rattle.table.specs.Table.{count_of}

-- These bytes went into d from place `at` on, which gave d', and `end` is the place after them.
pub record Put (d : List ℕ) (at : ℕ) (bytes : List ℕ) (end : ℕ) (d' : List ℕ) : Type 0 where
  pub ends : end ≡ at + length bytes
  pub same : length d' ≡ length d
  pub left : d' ≡ sets d at bytes

-- the array has the number of live p-cells at place p
pub record Counted (t counts : List ℕ) : Type 0 where
  pub each : (p : ℕ) → p < dimensions → get_or counts p 0 ≡ count_of t p

-- the array has where body p starts, for bodies of these counts, at place p, and the length of the file at the last
pub record Started (counts : ℕ → ℕ) (starts : List ℕ) : Type 0 where
  pub each_start : (p : ℕ) → p ≤ dimensions → get_or starts p 0 ≡ body_start counts p

-- an array's words as a count for each dimension
abbrev pub in_array : List ℕ → ℕ → ℕ
in_array counts p = get_or counts p 0

-- an entry of the contents
abbrev pub entry : ℕ → ℕ → List ℕ
entry count start = two count ++ four start
