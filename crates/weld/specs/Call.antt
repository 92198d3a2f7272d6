-- What the weld answers and leaves. Its map is made level by level in Joins.antt; proofs/ shows that it is the one map of Weld.antt.
-- A reader must believe these definitions; nothing here is proved.
use Rattle.std.specs.Prelude.{List, ℕ, min}
use Rattle.audit.specs.Audit.{grounds}
use Rattle.calls.specs.Calls.{Ground, verdict, named, leaves}
use Rattle.calls.specs.Calls.{Verdict}
use Rattle.calls.specs.Calls.{Named}
use Rattle.merge.specs.Rename.{renamed}
use Rattle.merge.specs.Merge.{pair_grounds}
use Rattle.weld.specs.Joins.{weld_map}

-- the grounds of a merge, but for different faces, which a weld joins
abbrev pub weld_grounds : List ℕ → ℕ → ℕ → List Ground
weld_grounds t a b = grounds t (pair_grounds t a b)

unfoldable pub weld_verdict : List ℕ → ℕ → ℕ → Verdict
weld_verdict t a b = verdict (weld_grounds t a b)

-- what the weld of a and b makes of a table where it is accepted
unfoldable pub welded : List ℕ → ℕ → ℕ → List ℕ
welded t a b = renamed (weld_map t a b) t

abbrev pub weld_answer : List ℕ → ℕ → ℕ → Named
weld_answer t a b = named (weld_verdict t a b) (min a b)

abbrev pub weld_leaves : List ℕ → ℕ → ℕ → List ℕ
weld_leaves t a b = leaves (weld_verdict t a b) (welded t a b) t
