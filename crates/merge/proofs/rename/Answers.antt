-- `merge::rename` meets its contract: the dimension is not the number that it is compared with, so it stays. Assumes nothing.
use mathlib.Core.Path.{sym, ◌∙◌}
use borrow.Author.Rules.{rules}
use Rattle.table.proofs.Stores.{stored_alike}
use Rattle.merge.proofs.Passes.{sent_stays}
use Rattle.merge.proofs.rename.Goals as goal

pub returns : goal.returns
returns c =
    let read = c.dim.ensures in
    let other = c.requires.1 in
    stored_alike
    (record {
      same_dim = c.sent-dim.ensures ∙ sent_stays _ _ _ (λ e. other (sym read ∙ e)) ∙ read;
      same_face = λ j h. search (c.map-faces.ensures.items.at j 0 0 h, c.faces.ensures, rules);
    })
    c.put.ensures
