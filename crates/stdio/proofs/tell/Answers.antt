-- `tell`: the line that is made is the one to be told. Assumes nothing but what std says of such a text.
use Rattle.std.proofs.Common.{rules, ◌∙◌, subst, OnOk}
use Rattle.std.specs.Io.KnownBytes.{Appends}
use Rattle.std.specs.Fmt.InlineText.{inline_text, IsIntact, AppendsIfIntact}
use Rattle.stdio.specs.Answer.{line_of}
use Rattle.stdio.proofs.Telling.{all_of_it}
use Rattle.stdio.proofs.tell.Goals as goal

pub returns-in-Ok : goal.returns-in-Ok
returns-in-Ok g c =
    let made =
    all_of_it IsIntact inline_text AppendsIfIntact (λ s bs t h. h) c.new-line.result _ (line_of c.args.name.now c.args.why.now) c.writeln.new.self
    c.new-line.ensures.intact c.new-line.ensures.text c.in-Ok.ensures.writes (search rules) in
    subst (λ l. OnOk c.write_all.result (Appends (g.W.Write.contents c.args.to.now) (g.W.Write.contents c.write_all.new.to) l))
    (c.as_bytes.ensures.value ∙ c.as_str.ensures.value ∙ made) c.write_all.ensures.whole
