-- `push_bytes`: the bytes behind the text are set, and those after them stay 0. Assumes nothing.
use Rattle.std.proofs.Common.{arith, rules, ◌∙◌}
use borrow.Rule.Slice.PartMut.{drop_put, same_len_mid}
use Rattle.report.proofs.Growing.{zeros_on}
use Rattle.report.proofs.text.Text.push_bytes.Goals as goal

pub invariant_of-self : goal.invariant_of-self
invariant_of-self c =
    let old = c.self.inside in
    record {
      sized = same_len_mid old.len _ _ _ (search rules) ∙ c.self.invariant.sized;
      inside = search rules;
      zeros = drop_put old.len _ _ _ (search rules) (search rules) (search rules) ∙ zeros_on _ old.len _ (omega arith) c.self.invariant.zeros;
    }
