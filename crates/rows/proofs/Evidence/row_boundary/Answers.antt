-- `row_boundary` meets its contract. The loop's invariant: the set is the boundary of the words passed. Assumes nothing.
use mathlib.Core.Path.{◌≡◌, refl, ap}
use mathlib.Core.List.{List}
use Prim.Native.Nat.{ℕ}
use native.Mathlib.Omega.{arith}
use lib.ListN.{length, get_or}
use Rattle.bitset.specs.Bits.{full_width}
use Rattle.rows.specs.Seen.{cells_of}
use Rattle.rows.specs.Rows.{row_of}
use Rattle.rows.proofs.Members.{zeros_small}
use Rattle.rows.proofs.RowAdding.{no_words, one_word, all_words, word_of_live_row}
use Rattle.rows.proofs.Evidence.row_boundary.Goals as goal
use Rattle.rows.proofs.Evidence.row_boundary.Goals.{In-loop-w}

-- the word read is word w of the row
word_here : (c : In-loop-w) →
    let e = c.args.self in
    get_or c.row-word-items.result.now c.loop-w.w 0 ≡ get_or (row_of (cells_of e.view) e.words.now c.args.c) c.loop-w.w 0
word_here c = ap (λ (x : List ℕ). get_or x c.loop-w.w 0) c.row-word-items.ensures

pub add_word-requires-clause-word_live : goal.add_word-requires-clause-word_live
add_word-requires-clause-word_live c =
    let e = c.args.self in
    word_of_live_row (cells_of e.view) e.words.now c.args.c c.loop-w.w _ c.requires.row_live
    (word_here (goal.at.add_word-requires-clause-word_live c).In-loop-w)

pub loop-w-preserved : goal.loop-w-preserved
loop-w-preserved c =
    let l = c.loop-w in
    let e = c.add_word.ensures in
    (omega (arith, e.long, l.invariant.0), e.small, one_word _ _ l.w _ l.b _ (word_here (goal.at.loop-w-preserved c).In-loop-w) e l.invariant.2)

pub loop-w-init : goal.loop-w-init
loop-w-init c = (refl, zeros_small full_width, no_words _ _ full_width)

pub returns : goal.returns
returns c =
    let e = c.args.self in
    let l = c.loop-w in
    all_words (cells_of e.view) e.words.now c.args.c l.w l.b l.invariant.0 l.invariant.1 (omega (arith, c.loop-w-test.false, ap length c.row-word-items.ensures)) l.invariant.2
