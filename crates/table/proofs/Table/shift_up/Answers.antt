-- `table::Table::shift_up` meets its contract: the words of whole records, moved in the part from record k on. Assumes nothing.
use borrow.Author.Rules.{rules}
use native.Mathlib.Omega.{arith}
use Rattle.std.proofs.lemmas.List.{places}
use Rattle.std.proofs.lemmas.Grind.{common_steps}
use Rattle.table.proofs.Table.shift_up.Goals as goal

pub returns : goal.returns
returns c =
    record {
      size = search rules;
      low = λ s h. record { same_dim = grind (arith, common_steps, places); same_face = λ j f. grind (arith, common_steps, places) };
      up = λ s h l. record { same_dim = grind (arith, common_steps, places); same_face = λ j f. grind (arith, common_steps, places) };
      far = λ s h. record { same_dim = grind (arith, common_steps, places); same_face = λ j f. grind (arith, common_steps, places) };
    }
