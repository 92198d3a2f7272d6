-- `push`: the byte behind the text is set, and those after it stay 0. Assumes nothing.
use Rattle.std.proofs.Common.{arith, rules, ◌+◌, ◌∙◌}
use lib.Seq.{drop-set-lt}
use Rattle.report.proofs.Growing.{zeros_on}
use Rattle.report.proofs.text.Text.push.Goals as goal

pub invariant_of-self : goal.invariant_of-self
invariant_of-self c =
    let old = c.self.inside in
    record {
      sized = search rules;
      inside = search rules;
      zeros = drop-set-lt (old.len + 1) old.bytes old.len _ (omega arith) ∙ zeros_on _ old.len _ (omega arith) c.self.invariant.zeros;
    }
