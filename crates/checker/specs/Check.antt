-- What the checker answers: rows are tested in rising number, rule A before rule B within a row, and the first that fails is named.
-- The tests here are computed; that they are rules A and B as printed (`homology`) is proved in proofs/, and so is the meaning of the
-- numbers. A reader must believe these definitions; nothing here is proved.
use Rattle.std.specs.Prelude.{◌≡◌, Bool, ◌&&◌, ◌||◌, not, List, [], ◌∷◌, ℕ, zero, suc, ◌*◌, eqb, leb, Result, Ok, Err}
use Rattle.homology.specs.Cells.{Cells}
use Rattle.homology.specs.Holes.{Chain, boundary}
use Rattle.homology.specs.Evidence.{cells_in, holes_in}
use Rattle.bitset.specs.Bits.{bits}
use Rattle.counting.specs.Counting.{some_has, listed, all, largest_below}
use Rattle.table.specs.Kind.{dimensions}
use Rattle.audit.specs.Audit.{grounds_with}
use Rattle.calls.specs.Calls.{Ground, verdict, on_verdict}
use Rattle.calls.specs.declared.Refusal.TheVariants.{RuleA, RuleB}
use Rattle.calls.specs.Calls.{Verdict}
use Rattle.complex.specs.Cells.{cells}
use Rattle.rows.specs.Rows.{row_width, rows}
use Rattle.rows.specs.Lengths.{evidence_fits}
use Rattle.checker.specs.declared.Counts.{Counts}
use Rattle.calls.specs.declared.Refusal.{Refusal}

-- rule A at number c: a member is at most c, live and of c's dimension, and c is live; a live cell is in its own row
unfoldable pub keeps_a : Cells → List ℕ → ℕ → Bool
keeps_a K ev c =
    all (bits * row_width K)
    (λ s. not (rows K ev c s) || (K.live c && (leb s c && (K.live s && eqb (K.dim s) (K.dim c)))))
    && (not (K.live c) || rows K ev c c)

-- the boundary of row c
abbrev pub row_boundary : Cells → List ℕ → ℕ → Chain
row_boundary K ev c = boundary K (rows K ev c)

-- one more than the largest cell of the boundary of row c, and 0 where it is empty
abbrev pub row_largest : Cells → List ℕ → ℕ → ℕ
row_largest K ev c = largest_below (row_boundary K ev c) K.size

-- rule B at number c: its boundary is empty, or no lower row's boundary has the same largest cell
unfoldable pub keeps_b : Cells → List ℕ → ℕ → Bool
keeps_b K ev c = eqb (row_largest K ev c) 0 || not (some_has (λ b. eqb (row_largest K ev b) (row_largest K ev c)) c)

-- the two grounds of each row, for k rows from number c on
unfoldable pub row_grounds : Cells → List ℕ → ℕ → ℕ → List Ground
row_grounds K ev c zero = []
row_grounds K ev c (suc k) =
    record { refusal = RuleA c; applies = not (keeps_a K ev c) }
    ∷ record { refusal = RuleB c; applies = not (keeps_b K ev c) }
    ∷ row_grounds K ev (suc c) k

-- the grounds of all rows
abbrev pub all_rows : Cells → List ℕ → List Ground
all_rows K ev = row_grounds K ev 0 K.size

abbrev pub check_grounds : List ℕ → List ℕ → List Ground
check_grounds t ev = grounds_with t (evidence_fits t ev) (all_rows (cells t) ev)

unfoldable pub check_verdict : List ℕ → List ℕ → Verdict
check_verdict t ev = verdict (check_grounds t ev)

-- the live cells and the hole numbers, seven of each
abbrev pub counted : Cells → List ℕ → Counts
counted K ev = record { cells = listed dimensions (cells_in K); holes = listed dimensions (holes_in K (rows K ev)) }

-- the answer with verdict v: the counts, or the refusal
abbrev pub Answered : Cells → List ℕ → Verdict → Result Counts Refusal → Type 0
Answered K ev v r = r ≡ on_verdict v (Ok (counted K ev)) Err

abbrev pub Checks : List ℕ → List ℕ → Result Counts Refusal → Type 0
Checks t ev r = Answered (cells t) ev (check_verdict t ev) r
