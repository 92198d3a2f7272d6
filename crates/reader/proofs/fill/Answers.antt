-- `reader::fill` meets its contract. The invariant: every body below p is taken in, and its numbers are in order. Assumes nothing.
use mathlib.Core.Path.{◌∙◌}
use native.Mathlib.Omega.{arith}
use borrow.Author.Rules.{rules}
use Rattle.reader.proofs.Answers.{says_number, says_audit, on_ok}
use Rattle.reader.proofs.Bodies.{bodies_end, taken_none}
use Rattle.reader.proofs.fill.Goals as goal

pub loop-p-init : goal.loop-p-init
loop-p-init c = taken_none _ _ _ c.requires.3

pub loop-p-preserved : goal.loop-p-preserved
loop-p-preserved c = rw c.in_ok-take_body.was at c.take_body.ensures

pub returns-in_err-take_body : goal.returns-in_err-take_body
returns-in_err-take_body c =
    let e = rw c.in_err-take_body.was at c.take_body.ensures in
    search (rules, says_number c.args.n c.args.file.now e.1, e.0)

pub returns : goal.returns
returns c =
    let e = bodies_end _ _ _ c.loop-p.p (omega arith) c.loop-p-test.false c.loop-p.invariant in
    record {
      answer = c.audit.ensures ∙ says_audit _ _ _ c.requires.1 c.requires.2 e.0 e.1;
      table = on_ok _ e.1;
    }
