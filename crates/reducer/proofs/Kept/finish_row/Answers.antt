-- `finish_row` meets its contract. The invariant: whatever the rule gives from here, it gives from the start (`Going`).
-- The measure: the height of the row's boundary. Assumes nothing.
use mathlib.Core.Path.{subst}
use Rattle.bitset.specs.Bits.{IsLargestIn, LargestIs}
use Rattle.reducer.proofs.RowAdditions.{going_first, largest_asks, ends_empty, kept_room, ends_free, add_asks, falls, goes_on}
use Rattle.reducer.proofs.Kept.finish_row.Goals as goal
use Rattle.reducer.proofs.Kept.finish_row.Goals.{In-Some}

pub loop-m-init : goal.loop-m-init
loop-m-init c = going_first c.args.view.frame.room c.requires.c_bound c.requires.w_value c.requires.begun

pub returns : goal.returns
returns c = ends_empty c.loop-m.invariant c.in_default.ensures

-- what the search for the largest cell has told, where there is one
largest_here : (c : In-Some) → IsLargestIn c.loop-m.b c.in-Some.m
largest_here c = subst (LargestIs c.loop-m.b) c.in-Some.is c.largest.ensures

-- the largest cell's words lie among the boundaries
pub keep_row-requires-clause-w_in_bounds : goal.keep_row-requires-clause-w_in_bounds
keep_row-requires-clause-w_in_bounds c =
    kept_room c.loop-m.invariant (largest_here (goal.at.keep_row-requires-clause-w_in_bounds c).In-Some)

pub returns-in_default-owner : goal.returns-in_default-owner
returns-in_default-owner c =
    ends_free c.loop-m.invariant (largest_here (goal.at.returns-in_default-owner c).In-Some) c.in_default-owner.is c.keep_row.ensures

pub add_kept-requires-clause-w_in_bounds : goal.add_kept-requires-clause-w_in_bounds
add_kept-requires-clause-w_in_bounds c =
    kept_room c.loop-m.invariant (largest_here (goal.at.add_kept-requires-clause-w_in_bounds c).In-Some)

pub loop-m-smaller : goal.loop-m-smaller
loop-m-smaller c =
    falls c.loop-m.invariant (largest_here (goal.at.loop-m-smaller c).In-Some) c.in-Some-owner.is c.add_kept.ensures

pub loop-m-preserved : goal.loop-m-preserved
loop-m-preserved c =
    goes_on c.loop-m.invariant (largest_here (goal.at.loop-m-preserved c).In-Some) c.in-Some-owner.is c.add_kept.ensures c.add_row.ensures

pub largest-requires : goal.largest-requires
largest-requires c = largest_asks c.loop-m.invariant

-- the owner is an earlier row, and this row's words lie among the evidence
pub add_row-requires-clause-a_lt_c : goal.add_row-requires-clause-a_lt_c
add_row-requires-clause-a_lt_c c =
    (add_asks c.loop-m.invariant (largest_here (goal.at.add_row-requires-clause-a_lt_c c).In-Some) c.in-Some-owner.is).0

pub add_row-requires-clause-w_in_bounds : goal.add_row-requires-clause-w_in_bounds
add_row-requires-clause-w_in_bounds c =
    (add_asks c.loop-m.invariant (largest_here (goal.at.add_row-requires-clause-w_in_bounds c).In-Some) c.in-Some-owner.is).1
