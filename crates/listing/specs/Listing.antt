-- What the program `parts` writes for a text: the sketch file of the part list's table of 512 records, or one line with the refusal's
-- number.
-- A reader must believe these definitions; nothing here is proved.
use Rattle.std.specs.Prelude.{◌≡◌, List, ℕ, ◌*◌, length, replicate, ltb}
use Rattle.counting.specs.Counting.{pick}
use Rattle.calls.specs.Numbers.{number_of}
use Rattle.calls.specs.declared.Refusal.{Refusal}
use Rattle.calls.specs.declared.Refusal.TheVariants.{BadText}
use Rattle.calls.specs.Calls.{Verdict}
use Rattle.std.specs.declared.result.Result.TheVariants.{Ok, Err}
use Prim.{tt}
use Rattle.table.specs.Kind.{capacity, width, free_mark}
use Rattle.sketch.specs.Written.{file_of}
use Rattle.report.specs.Lines.{refused_line}
use Rattle.intake.specs.Import.{import_verdict, import_leaves}

-- the most bytes of a text that the program takes
abbrev pub longest_text : ℕ
longest_text = 65536

-- a table of 512 records, none of them used
abbrev pub blank : List ℕ
blank = replicate (capacity * width) free_mark

-- a longer text is refused as malformed
unfoldable pub list_verdict : List ℕ → Verdict
list_verdict text = pick (ltb longest_text (length text)) (Err BadText) (import_verdict blank text)

pub record Lists (text out : List ℕ) : Type 0 where
  pub refused : (r : Refusal) → list_verdict text ≡ Err r → out ≡ refused_line (number_of r)
  pub accepted : list_verdict text ≡ Ok tt → out ≡ file_of (import_leaves blank text)
