-- `take_row` meets its contract: rule A decides first, then whether a cell of the row can have faces at all, then one look into the
-- set of largest cells met. Assumes nothing.
use mathlib.Core.Path.{◌≡◌, refl, sym, ap, ◌∙◌}
use mathlib.Core.Bool.{true}
use Prim.Native.Nat.{suc}
use native.Mathlib.Omega.{arith}
use Rattle.rows.specs.Seen.{seen, cells_of}
use Rattle.checker.specs.Check.{keeps_a, row_largest}
use Rattle.checker.specs.Row.{largest_number}
use Rattle.checker.proofs.RowTests.{free_number}
use Rattle.checker.proofs.Rules.{kept_row_live, free_no_largest, point_no_largest}
use Rattle.checker.proofs.LargestMet.{largest_fits}
use Rattle.checker.proofs.take_row.Goals as goal
use Rattle.checker.proofs.take_row.Goals.{Else-not-keeps_a, then-p-eq0-via-then-p-eq0, then-p-eq0-via-else-p-eq0+then-p-ge-DIMENSIONS}

-- past the first test the row keeps rule A
kept : (c : Else-not-keeps_a) → keeps_a (cells_of c.args.evidence.view) c.args.evidence.words.now c.args.c ≡ true
kept c = sym c.keeps_a.ensures ∙ c.if-not-keeps_a.false

-- the row of a point, or of a free number
pub returns-then-p-eq0 : goal.returns-then-p-eq0
returns-then-p-eq0 c =
    let e = c.args.evidence in
    let K = cells_of e.view in
    let k = kept (goal.at.returns-then-p-eq0 c).Else-not-keeps_a in (
      k,
      elim c.then-p-eq0.branch [
        | then-p-eq0-via-then-p-eq0 w ↦ point_no_largest K e.words.now e.fits c.args.c c.requires.c_bound e.view.frame.lawful k
            (omega (arith, c.dim-p.ensures, w.if-p-eq0.true))
        | then-p-eq0-via-else-p-eq0+then-p-ge-DIMENSIONS w ↦ free_no_largest K e.words.now e.fits c.args.c c.requires.c_bound k
            (free_number (seen e.view) e.view.frame c.args.c c.dim-p.result c.dim-p.ensures (omega (arith, w.if-p-ge-DIMENSIONS.true)))
      ],
      refl,
    )

pub row_largest-requires-clause-row_live : goal.row_largest-requires-clause-row_live
row_largest-requires-clause-row_live c =
    let e = c.args.evidence in
    kept_row_live (cells_of e.view) e.words.now e.fits c.args.c c.requires.c_bound (kept (goal.at.row_largest-requires-clause-row_live c).Else-not-keeps_a)

-- the boundary's largest cell lies in the set's words
pub toggle-requires : goal.toggle-requires
toggle-requires c =
    let e = c.args.evidence in
    let largest : row_largest (cells_of e.view) e.words.now c.args.c ≡ suc c.in-Some.m = sym c.row_largest.ensures ∙ ap largest_number c.in-Some.is in
    omega (arith, largest_fits (cells_of e.view) e.words.now e.view.frame.room c.args.c _ largest, c.requires.met_len)
