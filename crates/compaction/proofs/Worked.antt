-- A worked compaction: an edge before its two points, and a free record between them. The points 1 and 3 take 0 and 1, and the edge 2.
-- What carries it: computation. Assumes nothing.
use mathlib.Core.Path.{◌≡◌, refl}
use mathlib.Core.List.{List, [], ◌∷◌, ◌++◌}
use Prim.Native.Nat.{ℕ}
use Rattle.counting.specs.Counting.{how_many, nth, listed, total}
use Rattle.table.specs.Kind.{free_mark}
use Rattle.table.specs.Table.{live, is_cell, count_of}
use Rattle.table.specs.Records.{word_of, table_of}
use Rattle.compaction.specs.Made.{new_number, new_numbers, old_number, new_record, compacted}

abbrev blank : List ℕ
blank = free_mark ∷ free_mark ∷ free_mark ∷ free_mark ∷ free_mark ∷ free_mark ∷ free_mark ∷ free_mark ∷ []

abbrev point : List ℕ
point = 0 ∷ free_mark ∷ free_mark ∷ free_mark ∷ free_mark ∷ free_mark ∷ free_mark ∷ free_mark ∷ []

abbrev edge : ℕ → ℕ → List ℕ
edge a b = 1 ∷ a ∷ b ∷ free_mark ∷ free_mark ∷ free_mark ∷ free_mark ∷ free_mark ∷ []

abbrev before : List ℕ
before = edge 3 1 ++ point ++ blank ++ point

worked_list : new_numbers before ≡ 2 ∷ 0 ∷ free_mark ∷ 1 ∷ []
unfolding new_numbers new_number count_of total live is_cell how_many listed
worked_list = refl

worked_table : compacted before ≡ point ++ point ++ edge 1 0 ++ blank
unfolding compacted new_record old_number new_number count_of total live is_cell how_many nth listed word_of table_of
worked_table = refl
