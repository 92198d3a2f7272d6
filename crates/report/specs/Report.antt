-- What the program says of a file: the seven lines, or one line with the refusal's number.
-- A reader must believe these definitions; nothing here is proved.
use Rattle.std.specs.Prelude.{◌≡◌, Bool, ◌||◌, List, ℕ, ◌*◌, ◌<◌, length, replicate, ltb, eqb}
use Rattle.homology.specs.Holes.{IsHoleNumber}
use Rattle.homology.specs.Evidence.{cells_in}
use Rattle.counting.specs.Counting.{pick}
use Rattle.table.specs.Kind.{capacity, width, free_mark, dimensions}
use Rattle.calls.specs.Numbers.{number_of}
use Rattle.calls.specs.declared.Refusal.{Refusal}
use Rattle.calls.specs.declared.Refusal.TheVariants.{BadContents}
use Rattle.calls.specs.Calls.{Verdict}
use Rattle.std.specs.declared.result.Result.TheVariants.{Ok, Err}
use Prim.{tt}
use Rattle.complex.specs.Cells.{cells}
use Rattle.sketch.specs.Form.{contents_size, longest}
use Rattle.sketch.specs.Read.{size_in, read_verdict, described}
use Rattle.report.specs.Lines.{lines_of, refused_line}

-- too long, shorter than a table of contents, or an N outside 1 to 512
unfoldable pub no_sketch : List ℕ → Bool
no_sketch f =
    (ltb longest (length f) || ltb (length f) contents_size)
    || (eqb (size_in f) 0 || ltb capacity (size_in f))

-- a table of the file's size
abbrev pub blank : List ℕ → List ℕ
blank f = replicate (size_in f * width) free_mark

unfoldable pub file_verdict : List ℕ → Verdict
file_verdict f = pick (no_sketch f) (Err BadContents) (read_verdict (blank f) f)

-- the table that an accepted file describes
abbrev pub table_in : List ℕ → List ℕ
table_in f = described (size_in f) f

-- the hole numbers of a table, dimension 0 to 6, as they stand in the lines
pub record HoleLines (t text : List ℕ) : Type 0 where
  pub holes : ℕ → ℕ
  pub meaning : (p : ℕ) → p < dimensions → IsHoleNumber (cells t) p (holes p)
  pub lines : text ≡ lines_of (cells_in (cells t)) holes

pub record Reports (f text : List ℕ) : Type 0 where
  pub refused : (r : Refusal) → file_verdict f ≡ Err r → text ≡ refused_line (number_of r)
  pub accepted : file_verdict f ≡ Ok tt → HoleLines (table_in f) text
