-- `convert` meets its contract: a text that is too long, a list that is refused, and the file of one that is accepted. Assumes nothing.
use Rattle.std.proofs.Common.{arith, rules, sym, ◌∙◌}
use Rattle.std.proofs.lemmas.Result.{err_from_is_err_and}
use Rattle.listing.proofs.Fronts.{too_long, refused_list, written_list}
use Rattle.listing.proofs.convert.Goals as goal

pub returns-then-text-gt-LONGEST_TEXT : goal.returns-then-text-gt-LONGEST_TEXT
returns-then-text-gt-LONGEST_TEXT c = too_long _ _ (omega (arith, c.if-text-gt-LONGEST_TEXT.true))

pub returns-in_err-import : goal.returns-in_err-import
returns-in_err-import c =
    let p = err_from_is_err_and c.from_residual.result c.from_residual.ensures.1 in
    rw (p.1, p.2) (refused_list _ c.if-text-gt-LONGEST_TEXT.false _ _ (sym c.import.ensures.answer ∙ c.in_err-import.was))

pub returns : goal.returns
returns c =
    written_list _ c.if-text-gt-LONGEST_TEXT.false _ _ _ _ (search rules) (sym c.import.ensures.answer ∙ c.in_ok-import.was) c.import.ensures.left c.write.ensures
