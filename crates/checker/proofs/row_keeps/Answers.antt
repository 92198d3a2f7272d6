-- `row_keeps` meets its contract: a free number by the empty row, a live cell by its own bit and then by the set of its dimension.
-- Assumes nothing.
use mathlib.Core.Path.{◌≡◌, sym, subst, ◌∙◌}
use mathlib.Core.List.{List}
use mathlib.Core.Bool.{true}
use Prim.Native.Nat.{ℕ, ◌≤◌}
use native.Mathlib.Omega.{arith}
use Rattle.bitset.specs.Bits.{IsWithin}
use Rattle.table.specs.Kind.{top}
use Rattle.rows.specs.Seen.{seen}
use Rattle.rows.specs.Seen.{cells_of}
use Rattle.checker.proofs.RowTests.{no_own, free_row, free_number}
use Rattle.checker.proofs.LiveSets.{row_within}
use Rattle.checker.proofs.row_keeps.Goals as goal
use Rattle.checker.proofs.row_keeps.Goals.{Else-p-ge-DIMENSIONS}

-- past the first test the number has a dimension, and so is live
level : (c : Else-p-ge-DIMENSIONS) → c.dim-p.result ≤ top
level c = omega (arith, c.if-p-ge-DIMENSIONS.false)

living : (c : Else-p-ge-DIMENSIONS) → (cells_of c.args.view).live c.args.c ≡ true
living c = c.args.view.frame.living c.args.c c.requires.c_bound (omega (arith, level c, c.dim-p.ensures))

pub returns-then-p-ge-DIMENSIONS : goal.returns-then-p-ge-DIMENSIONS
returns-then-p-ge-DIMENSIONS c =
    c.is_empty.ensures ∙ free_row (cells_of c.args.view) c.args.c c.args.row.now
    (free_number (seen c.args.view) c.args.view.frame c.args.c c.dim-p.result c.dim-p.ensures (omega (arith, c.if-p-ge-DIMENSIONS.true)))
    (λ k. (c.type_inv.row k).fits)

pub returns-then-not-has : goal.returns-then-not-has
returns-then-not-has c =
    let a = c.args in
    no_own (cells_of a.view) a.c a.row.now (living (goal.at.returns-then-not-has c).Else-p-ge-DIMENSIONS) (sym c.has.ensures ∙ c.if-not-has.true)

pub returns : goal.returns
returns c =
    let inside = subst (λ (x : List ℕ). IsWithin c.args.row.now x c.within.result) c.row.ensures c.within.ensures in
    row_within (cells_of c.args.view) c.args.c c.args.row.now c.args.lives.now (living (goal.at.returns c).Else-p-ge-DIMENSIONS) c.requires.row_len_bound c.requires.lives
    (sym c.has.ensures ∙ c.if-not-has.false) c.dim-p.result c.dim-p.ensures (level (goal.at.returns c).Else-p-ge-DIMENSIONS) _ inside
