-- What is said of a file once a table is there to read it into.
-- Only the contract of a private function cites this; nothing here is proved.
use Rattle.std.specs.Prelude.{◌≡◌, List, ℕ}
use Rattle.table.specs.Table.{cells_of}
use Rattle.calls.specs.Numbers.{number_of}
use Rattle.calls.specs.declared.Refusal.{Refusal}
use Rattle.std.specs.declared.result.Result.TheVariants.{Ok, Err}
use Prim.{tt}
use Rattle.sketch.specs.Read.{read_verdict, described}
use Rattle.report.specs.Lines.{refused_line}
use Rattle.report.specs.Report.{HoleLines}

-- what is said of a file that is read into the table t
pub record Told (t f text : List ℕ) : Type 0 where
  pub refused : (r : Refusal) → read_verdict t f ≡ Err r → text ≡ refused_line (number_of r)
  pub accepted : read_verdict t f ≡ Ok tt → HoleLines (described (cells_of t) f) text
