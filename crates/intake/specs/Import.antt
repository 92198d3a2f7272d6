-- What taking a part list in answers and leaves: from what the text reads as.
-- A reader must believe these definitions; nothing here is proved.
use Rattle.std.specs.Prelude.{Bool, true, false, not, List, [], ◌∷◌, ℕ, length, replicate, ltb, eqb}
use Rattle.counting.specs.Counting.{pick}
use Rattle.calls.specs.Calls.{Ground, verdict, on_verdict}
use Rattle.calls.specs.Numbers.{number_of}
use Rattle.calls.specs.declared.Refusal.TheVariants.{BadText, BadIndex, NoRoom}
use Rattle.calls.specs.Calls.{Verdict}
use Rattle.table.specs.Kind.{free_mark}
use Rattle.table.specs.Table.{cells_of, on_length}
use Rattle.partlist.specs.Text.{Reading}
use Rattle.partlist.specs.Text.Reading.{list, none}
use Rattle.partlist.specs.Indices.{list_fits}
use Rattle.partlist.specs.Cells.{cell_list}
use Rattle.partlist.specs.ListTable.{list_table}
use Rattle.lines.proofs.Decision.{reading}

-- whether it reads as a list, whether the indices fit, and the cells of the list
abbrev pub is_list : {text : List ℕ} → Reading text → Bool
is_list (list n ls h) = true
is_list (none h) = false

abbrev pub indices_fit : {text : List ℕ} → Reading text → Bool
indices_fit (list n ls h) = list_fits n ls
indices_fit (none h) = false

abbrev pub cells_in : {text : List ℕ} → Reading text → List (List ℕ)
cells_in (list n ls h) = cell_list n ls
cells_in (none h) = []

-- the grounds, the verdict and the table left, for a text that reads so
abbrev pub grounds_by : List ℕ → {text : List ℕ} → Reading text → List Ground
grounds_by t w =
    on_length t
    ∷ record { refusal = BadText; applies = not (is_list w) }
    ∷ record { refusal = BadIndex; applies = not (indices_fit w) }
    ∷ record { refusal = NoRoom; applies = ltb (cells_of t) (length (cells_in w)) }
    ∷ []

abbrev pub verdict_by : List ℕ → {text : List ℕ} → Reading text → Verdict
verdict_by t w = verdict (grounds_by t w)

-- accepted, the table of the cells; refused with 1, the table stays; refused with anything else, every word is 65535
abbrev pub leaves_by : List ℕ → {text : List ℕ} → Reading text → List ℕ
leaves_by t w =
    on_verdict (verdict_by t w) (list_table (cells_of t) (cells_in w)) (λ r. pick (eqb (number_of r) 1) t (replicate (length t) free_mark))

-- What the text reads as is told by `reading`. How it finds that out is no matter here: its type says that it is a list that
-- the text reads as, or that there is none.
unfoldable pub import_verdict : List ℕ → List ℕ → Verdict
import_verdict t text = verdict_by t (reading text)

unfoldable pub import_leaves : List ℕ → List ℕ → List ℕ
import_leaves t text = leaves_by t (reading text)
