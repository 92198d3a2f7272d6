-- Every call's refusal 2 names the first breach of its table, the reader's that of the table that the file describes; and whatever a call
-- refuses has room in the word that C sees, so that two refusals with one word are the same (`word_tells` of `calls`).
-- What carries it: each list of grounds begins with the lengths and the validity, and no other ground has the number 2.
-- Assumes nothing.
use mathlib.Core.Path.{◌≡◌, sym, ◌∙◌}
use mathlib.Core.Bool.{Bool, true, false}
use mathlib.Core.List.{List, [], ◌∷◌, ◌++◌}
use mathlib.Core.Logic.{⊎_elim}
use Prim.{Unit, tt}
use Prim.Native.Nat.{ℕ, zero, suc, ◌+◌, ◌≤◌, ◌<◌}
use native.Mathlib.Omega.{arith}
use borrow.Author.Tests.{not-true}
use lib.Dec.{ltb, eqb}
use lib.IntN.{ℤ}
use lib.ListN.{length}
use Rattle.calls.specs.Calls.{Ground, verdict}
use Rattle.calls.specs.declared.Refusal.{Refusal}
use Rattle.calls.specs.declared.Refusal.TheVariants.{NoRoom}
use Rattle.std.specs.declared.result.Result.TheVariants.{Err}
use Rattle.calls.proofs.Givens.{Each, refused_has}
use Rattle.counting.proofs.Cases.{true_or_false}
use Rattle.homology.specs.Cells.{Cells}
use Rattle.table.specs.Kind.{capacity}
use Rattle.table.specs.Table.{cells_of, sized}
use Rattle.table.proofs.Sizes.{sized_is_sized, sized_says}
use Rattle.audit.specs.Audit.{sound, invalid, audit_grounds, grounds_with}
use Rattle.audit.specs.First.{Tells}
use Rattle.audit.proofs.Naming.{Own, tells_alone, tells_with, unsound_names_first, named_fits}
use Rattle.complex.specs.Cells.{cells}
use Rattle.merge.specs.Merge.{pair_grounds, on_faces, merge_verdict}
use Rattle.weld.specs.Call.{weld_verdict}
use Rattle.compaction.specs.Call.{compact_verdict}
use Rattle.cone.specs.Cone.{marks_fit, mark_grounds, no_room, cone_verdict}
use Rattle.reading.specs.Incidence.{cell_grounds, incidence_grounds}
use Rattle.reading.specs.Boundary.{lengths_fit, chain_grounds, boundary_verdict}
use Rattle.corner.specs.Corner.{own_grounds, corner_grounds}
use Rattle.reducer.specs.Reduce.{reduce_verdict}
use Rattle.rows.specs.Rows.{evidence_words}
use Rattle.checker.specs.Check.{row_grounds, all_rows, check_verdict}
use Rattle.rows.specs.Lengths.{evidence_fits}
use Rattle.calls.specs.Packed.{WordFits}
use Rattle.lines.proofs.Decision.{reading}
use Rattle.intake.specs.Import.{grounds_by, import_verdict}
use Rattle.sketch.specs.Written.{file_of, write_verdict}
use Rattle.sketch.specs.Read.{described, read_grounds, read_verdict}
use Rattle.sketch.proofs.Described.{described_sized}

-- a number above 2, and nothing above it in the word
plain : {n : ℕ} {b : Bool} → 2 < n → b ≡ true → (2 < n) × Unit {0}
plain h on = (h, tt)

pub tells_audit : (t : List ℕ) (r : Refusal) → verdict (audit_grounds t) ≡ Err r → Tells t r
tells_audit t r e = tells_alone t [] r tt e

pub tells_merge : (t : List ℕ) (a b : ℕ) (r : Refusal) → merge_verdict t a b ≡ Err r → Tells t r
unfolding merge_verdict
tells_merge t a b r e =
    tells_alone t (pair_grounds t a b ++ on_faces t a b) r (plain (omega arith), (plain (omega arith), (plain (omega arith), (plain (omega arith), tt)))) e

pub tells_weld : (t : List ℕ) (a b : ℕ) (r : Refusal) → weld_verdict t a b ≡ Err r → Tells t r
unfolding weld_verdict
tells_weld t a b r e = tells_alone t (pair_grounds t a b) r (plain (omega arith), (plain (omega arith), (plain (omega arith), tt))) e

pub tells_compact : (t list : List ℕ) (r : Refusal) → compact_verdict t list ≡ Err r → Tells t r
unfolding compact_verdict
tells_compact t list r e = tells_with t (eqb (length list) (cells_of t)) [] r tt e

pub tells_cone : (t marks : List ℕ) (r : Refusal) → cone_verdict t marks ≡ Err r → Tells t r
unfolding cone_verdict
tells_cone t marks r e =
    let own : List Ground = mark_grounds t marks ++ (record { refusal = NoRoom; applies = no_room t marks } ∷ []) in
    tells_with t (marks_fit t marks) own r (plain (omega arith), (plain (omega arith), (plain (omega arith), (plain (omega arith), tt)))) e

pub tells_incidence : (t : List ℕ) (s u : ℕ) (r : Refusal) → verdict (incidence_grounds t s u) ≡ Err r → Tells t r
tells_incidence t s u r e = tells_alone t (cell_grounds t s u) r (plain (omega arith), (plain (omega arith), tt)) e

pub tells_boundary : (t : List ℕ) (x : List ℤ) (p : ℕ) (y : List ℤ) (r : Refusal) → boundary_verdict t x p y ≡ Err r → Tells t r
unfolding boundary_verdict
tells_boundary t x p y r e =
    tells_with t (lengths_fit t x y) (chain_grounds t x p) r (plain (omega arith), (plain (omega arith), (plain (omega arith), tt))) e

pub tells_corner : (t : List ℕ) (c k : ℕ) (r : Refusal) → verdict (corner_grounds t c k) ≡ Err r → Tells t r
tells_corner t c k r e = tells_alone t (own_grounds t c k) r (plain (omega arith), (plain (omega arith), tt)) e

pub tells_reduce : (t ev : List ℕ) (r : Refusal) → reduce_verdict t ev ≡ Err r → Tells t r
unfolding reduce_verdict
tells_reduce t ev r e = tells_with t (eqb (length ev) (evidence_words (cells t))) [] r tt e

pub tells_write : (t target : List ℕ) (r : Refusal) → write_verdict t target ≡ Err r → Tells t r
unfolding write_verdict
tells_write t target r e =
    tells_alone t (record { refusal = NoRoom; applies = ltb (length target) (length (file_of t)) } ∷ []) r (plain (omega arith), tt) e

-- the rows of the evidence have numbers below those of a table
rows_own : (K : Cells) (ev : List ℕ) (c k : ℕ) → c + k ≤ capacity → Each Own (row_grounds K ev c k)
unfolding row_grounds
rows_own K ev c zero h = tt
rows_own K ev c (suc k) h = (λ on. (omega arith, omega arith), (λ on. (omega arith, omega arith), rows_own K ev (suc c) k (omega arith)))

unsized : (t : List ℕ) (fit : Bool) (own : List Ground) → sized t ≡ false → verdict (grounds_with t fit own) ≡ verdict (grounds_with t fit [])
unsized t fit own e = rw e

pub tells_check : (t ev : List ℕ) (r : Refusal) → check_verdict t ev ≡ Err r → Tells t r
unfolding check_verdict
tells_check t ev r e =
    ⊎_elim
    (λ s. tells_with t (evidence_fits t ev) (all_rows (cells t) ev) r (rows_own (cells t) ev 0 (cells_of t) (omega (arith, (sized_is_sized t s).room))) e)
    (λ s. tells_with t (evidence_fits t ev) [] r tt (sym (unsized t (evidence_fits t ev) (all_rows (cells t) ev) s) ∙ e))
    (true_or_false (sized t))

-- the reader, after its length: its own two grounds, then the validity of what the file describes
pub tells_read : (t f : List ℕ) (r : Refusal) → sized t ≡ true → read_verdict t f ≡ Err r → Tells (described (cells_of t) f) r
unfolding read_verdict
tells_read t f r s e =
    let u : List ℕ = described (cells_of t) f in
    let z = sized_is_sized t s in
    let size : sized u ≡ true = sized_says u (described_sized (cells_of t) f z.some z.room) in
    refused_has (Tells u) (read_grounds t f) r (
      λ on. record { breach_named = λ two. absurd (omega arith); fits = tt },
      (
        λ on. record { breach_named = λ two. absurd (omega arith); fits = tt },
        (
          λ on. record { breach_named = λ two. absurd (omega arith); fits = tt },
          (λ on. let n = unsound_names_first u (not-true (sound u) on) in record { breach_named = λ two. n; fits = named_fits u (invalid u) size n }, tt),
        ),
      ),
    ) e

-- taking a part list in gives no 2
pub import_fits : (t text : List ℕ) (r : Refusal) → import_verdict t text ≡ Err r → WordFits r
unfolding import_verdict
import_fits t text r e =
    refused_has WordFits (grounds_by t (reading text)) r (λ on. tt, (λ on. tt, (λ on. tt, (λ on. tt, tt)))) e
