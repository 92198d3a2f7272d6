-- What emptying answers and leaves: 1 for a length that is no table's, else every word is the free mark.
-- A reader must believe these definitions; nothing here is proved.
use Rattle.std.specs.Prelude.{List, [], ◌∷◌, ℕ, length, replicate}
use Rattle.table.specs.Kind.{free_mark}
use Rattle.table.specs.Table.{on_length}
use Rattle.calls.specs.Calls.{verdict, leaves}
use Rattle.calls.specs.Calls.{Verdict}

abbrev pub empty_verdict : List ℕ → Verdict
empty_verdict t = verdict (on_length t ∷ [])

unfoldable pub emptied : List ℕ → List ℕ
emptied t = replicate (length t) free_mark

abbrev pub empty_leaves : List ℕ → List ℕ
empty_leaves t = leaves (empty_verdict t) (emptied t) t
