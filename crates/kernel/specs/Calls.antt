-- How each exported call ends: its answer r, and what stands afterwards in each buffer and behind each pointer that it may write. In
-- every name the first arguments are what the call is lent and given (₀ what stood there before), then come the answer and what is left.
-- A reader must believe these definitions; nothing here is proved.
use Rattle.std.specs.Prelude.{◌≡◌, List, ℕ, ℤ}
use Rattle.counting.specs.Counting.{listed}
use Rattle.calls.specs.Calls.{verdict, Ends}
use Rattle.calls.specs.declared.Refusal.{Refusal}
use Rattle.std.specs.declared.result.Result.TheVariants.{Ok, Err}
use Prim.{tt}
use Rattle.homology.specs.Evidence.{cells_in, holes_in}
use Rattle.table.specs.Kind.{dimensions}
use Rattle.audit.specs.Audit.{audit_grounds}
use Rattle.audit.specs.Empty.{empty_verdict, empty_leaves}
use Rattle.complex.specs.Cells.{cells}
use Rattle.merge.specs.Merge.{merge_answer, merge_leaves}
use Rattle.weld.specs.Call.{weld_answer, weld_leaves}
use Rattle.cone.specs.Cone.{cone_answer, cone_leaves}
use Rattle.compaction.specs.Call.{compact_verdict, compact_leaves, compact_lists}
use Rattle.reading.specs.Incidence.{incidence_answer}
use Rattle.reading.specs.Boundary.{boundary_verdict, boundary_leaves}
use Rattle.corner.specs.Corner.{corner_answer}
use Rattle.sheet.specs.Sheet.{sheet_answer}
use Rattle.rows.specs.Rows.{rows}
use Rattle.reducer.specs.Reduce.{Reduction, reduce_verdict}
use Rattle.checker.specs.Check.{check_verdict}
use Rattle.writer.specs.Write.{write_answer, write_leaves}
use Rattle.sketch.specs.Read.{read_verdict, read_leaves}
use Rattle.intake.specs.Import.{import_verdict, import_leaves}
use Rattle.kernel.specs.Face.{code, value_after, judged_value, seven_after, Fills}

abbrev pub EmptyEnds : List ℕ → ℕ → List ℕ → Type 0
EmptyEnds t r t' = Ends (code (empty_verdict t)) (empty_leaves t) r t'

abbrev pub AuditEnds : List ℕ → ℕ → Type 0
AuditEnds t r = r ≡ code (verdict (audit_grounds t))

abbrev pub ConeEnds : List ℕ → List ℕ → ℕ → ℕ → List ℕ → ℕ → Type 0
ConeEnds t marks apex₀ r t' apex =
    Fills (code (cone_answer t marks)) (cone_leaves t marks) (value_after (cone_answer t marks) apex₀) r t' apex

abbrev pub MergeEnds : List ℕ → ℕ → ℕ → ℕ → ℕ → List ℕ → ℕ → Type 0
MergeEnds t a b kept₀ r t' kept =
    Fills (code (merge_answer t a b)) (merge_leaves t a b) (value_after (merge_answer t a b) kept₀) r t' kept

abbrev pub WeldEnds : List ℕ → ℕ → ℕ → ℕ → ℕ → List ℕ → ℕ → Type 0
WeldEnds t a b kept₀ r t' kept =
    Fills (code (weld_answer t a b)) (weld_leaves t a b) (value_after (weld_answer t a b) kept₀) r t' kept

-- a compaction: the table and the list
pub record CompactEnds (t list : List ℕ) (r : ℕ) (t' list' : List ℕ) : Type 0 where
  pub answer : r ≡ code (compact_verdict t list)
  pub table : t' ≡ compact_leaves t list
  pub numbers : list' ≡ compact_lists t list

abbrev pub IncidenceEnds : List ℕ → ℕ → ℕ → ℤ → ℕ → ℤ → Type 0
IncidenceEnds t s u sum₀ r sum = Ends (code (incidence_answer t s u)) (value_after (incidence_answer t s u) sum₀) r sum

abbrev pub BoundaryEnds : List ℕ → List ℤ → ℕ → List ℤ → ℕ → List ℤ → Type 0
BoundaryEnds t x p result₀ r result =
    Ends (code (boundary_verdict t x p result₀)) (boundary_leaves t x p result₀) r result

abbrev pub CornerEnds : List ℕ → ℕ → ℕ → ℕ → ℕ → ℕ → Type 0
CornerEnds t c k corner₀ r corner = Ends (code (corner_answer t c k)) (value_after (corner_answer t c k) corner₀) r corner

abbrev pub SheetEnds : List ℕ → ℕ → ℕ → ℕ → Type 0
SheetEnds t told₀ r told = Ends (code (sheet_answer t)) (judged_value (sheet_answer t) told₀) r told

-- the reducer: rows and counts by its rule on acceptance, nothing changed on a refusal
pub record ReduceEnds (t ev additions₀ : List ℕ) (r : ℕ) (ev' additions : List ℕ) : Type 0 where
  pub answer : r ≡ code (reduce_verdict t ev)
  pub refused_left : (x : Refusal) → reduce_verdict t ev ≡ Err x → (ev' ≡ ev) × (additions ≡ additions₀)
  pub accepted : reduce_verdict t ev ≡ Ok tt → Reduction (cells t) ev' additions

-- the checker: live cells and hole numbers on acceptance
pub record CheckEnds (t ev cells₀ holes₀ : List ℕ) (r : ℕ) (cells' holes : List ℕ) : Type 0 where
  pub answer : r ≡ code (check_verdict t ev)
  pub cells_told : cells' ≡ seven_after (check_verdict t ev) (listed dimensions (cells_in (cells t))) cells₀
  pub holes_told : holes ≡ seven_after (check_verdict t ev) (listed dimensions (holes_in (cells t) (rows (cells t) ev))) holes₀

abbrev pub WriteEnds : List ℕ → List ℕ → ℕ → ℕ → List ℕ → ℕ → Type 0
WriteEnds t target₀ written₀ r target written =
    Fills (code (write_answer t target₀)) (write_leaves t target₀) (value_after (write_answer t target₀) written₀) r target written

abbrev pub ReadEnds : List ℕ → List ℕ → ℕ → List ℕ → Type 0
ReadEnds t f r t' = Ends (code (read_verdict t f)) (read_leaves t f) r t'

abbrev pub ImportEnds : List ℕ → List ℕ → ℕ → List ℕ → Type 0
ImportEnds t text r t' = Ends (code (import_verdict t text)) (import_leaves t text) r t'
