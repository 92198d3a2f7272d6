-- `writer::write` meets its contract: the audit's verdict decides the first two refusals, the file's length the third; then the file
-- is its contents and its bodies. Assumes nothing.
use mathlib.Core.Path.{◌≡◌, sym, ◌∙◌}
use Prim.Native.Nat.{◌≤◌}
use native.Mathlib.Omega.{arith}
use borrow.Author.Rules.{rules}
use lib.ListN.{length, get_or}
use Rattle.table.specs.Kind.{dimensions}
use Rattle.table.specs.Table.{Valid, count_of}
use Rattle.audit.proofs.Valid.{audit_accepts_iff_valid}
use Rattle.sketch.specs.Written.{file_of}
use Rattle.writer.specs.Put.{Counted, Started}
use Rattle.writer.proofs.Parts.{contents_fit_lem, file_put}
use Rattle.writer.proofs.Starts.{census_counts, array_fits, table_starts, last_start}
use Rattle.writer.proofs.Answers.{ends_refused, ends_without_room, ends_written}
use Rattle.writer.proofs.write.Goals as goal
use Rattle.writer.proofs.write.Goals.{After-body_starts-starts, After-census-counts, Else-target-size, In_ok-audit}

-- where the audit lets the call go on, the table is valid
valid : (c : In_ok-audit) → Valid c.args.t.now
valid c = (audit_accepts_iff_valid _).0 (sym c.audit.ensures ∙ c.in_ok-audit.was)

-- the census counts the cells of each dimension, and by it the bodies start
counted : (c : After-census-counts) → Counted c.args.t.now c.census-counts.result
counted c = census_counts _ _ c.census-counts.ensures

started :
    (c : After-body_starts-starts) →
    Started (count_of c.args.t.now) c.body_starts-starts.result
started c = table_starts _ _ _ ((census_counts _ _ c.census-counts.ensures)) c.body_starts-starts.ensures

-- the last of the starts is the file's length
size :
    (c : After-body_starts-starts) →
    get_or c.body_starts-starts.result dimensions 0 ≡ length (file_of c.args.t.now)
size c = last_start _ _ ((table_starts _ _ _ ((census_counts _ _ c.census-counts.ensures)) c.body_starts-starts.ensures))

room :
    (c : Else-target-size) →
    let a = c.args in
    length (file_of a.t.now) ≤ length a.target.now
room c = omega (arith, c.if-target-size.false, (last_start _ _ ((table_starts _ _ _ ((census_counts _ _ c.census-counts.ensures)) c.body_starts-starts.ensures))))

pub census-counts-requires : goal.census-counts-requires
census-counts-requires c = (valid (goal.at.census-counts-requires c).In_ok-audit).sized.room

pub body_starts-starts-requires : goal.body_starts-starts-requires
body_starts-starts-requires c = array_fits _ _ (valid (goal.at.body_starts-starts-requires c).In_ok-audit).sized (counted (goal.at.body_starts-starts-requires c).After-census-counts)

pub returns-then-target-size : goal.returns-then-target-size
returns-then-target-size c = ends_without_room _ _ (valid (goal.at.returns-then-target-size c).In_ok-audit) (omega (arith, c.if-target-size.true, size (goal.at.returns-then-target-size c).After-body_starts-starts))

pub put_contents-requires : goal.put_contents-requires
put_contents-requires c =
    let at = goal.at.put_contents-requires c in (
      (valid at.In_ok-audit).sized,
      counted at.After-census-counts,
      started at.After-body_starts-starts,
      contents_fit_lem _ _ (room at.Else-target-size),
    )

pub put_bodies-requires : goal.put_bodies-requires
put_bodies-requires c =
    let at = goal.at.put_bodies-requires c in
    (started at.After-body_starts-starts, (valid at.In_ok-audit).sized.room, omega (arith, room at.Else-target-size, c.put_contents.ensures.same))

pub returns-in_err-audit : goal.returns-in_err-audit
returns-in_err-audit c = search (rules, ends_refused c.args.t.now c.args.target.now c.in_err-audit.field-0.0 (sym c.audit.ensures ∙ c.in_err-audit.was))

pub returns : goal.returns
returns c =
    let at = goal.at.returns c in
    ends_written _ _ (valid at.In_ok-audit) (room at.Else-target-size)
    (file_put _ c.put_contents.ensures c.put_bodies.ensures (size at.After-body_starts-starts))
