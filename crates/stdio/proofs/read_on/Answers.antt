-- `read_on`: the read of the part behind the bytes that are there. Assumes nothing but what std says of a reader.
use Rattle.std.proofs.Common.{rules, sym, ◌∙◌}
use Rattle.stdio.proofs.Reading.{goes_further, adds, ends}
use Rattle.stdio.proofs.read_on.Goals as goal

pub returns-clause-further : goal.returns-clause-further
returns-clause-further g c =
    goes_further (g.R.Read.remaining c.args.from.now) (g.R.Read.remaining c.read.new.self) _ _ _ c.requires c.read.auto.buf _ _ c.read.ensures.bound c.turn.ensures (search rules)

pub returns-clause-more : goal.returns-clause-more
returns-clause-more g c n e = adds _ _ _ _ _ c.requires c.read.auto.buf _ _ c.read.ensures.bound c.read.ensures.bytes (sym e ∙ c.turn.ensures)

pub returns-clause-end : goal.returns-clause-end
returns-clause-end g c e = ends _ _ _ _ _ c.requires c.read.auto.buf _ c.read.ensures.bytes (sym e ∙ c.turn.ensures)
