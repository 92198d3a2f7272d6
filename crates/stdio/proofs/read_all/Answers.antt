-- `read_all`: each read adds to what is there, or ends it. Assumes nothing.
use Rattle.std.proofs.Common.{◌∙◌, arith, sym, ap, subst, Ok}
use Rattle.std.specs.Io.KnownBytes.{Consumes}
use Rattle.std.proofs.KnownBytes.{Consumes-kept}
use Rattle.stdio.proofs.Reading.{given_on}
use Rattle.stdio.proofs.read_all.Goals as goal

pub overflow_add-done : goal.overflow_add-done
overflow_add-done g c =
    let a = c.read_on.ensures.further.added _ (c.in_ok-n.was ∙ ap Ok c.in-Some.is) in
    omega (arith, a.1)

pub loop-done-smaller : goal.loop-done-smaller
loop-done-smaller g c =
    let a = c.read_on.ensures.further.added _ (c.in_ok-n.was ∙ ap Ok c.in-Some.is) in
    omega (arith, a.0, a.1, c.loop-done.invariant.sized)

pub loop-done-preserved : goal.loop-done-preserved
loop-done-preserved g c =
    let i = c.loop-done.invariant in
    let f = c.read_on.ensures.further in
    let e = c.in_ok-n.was ∙ ap Ok c.in-Some.is in
    let a = f.added _ e in
    record {
      inside = omega (arith, a.1, f.sized);
      sized = f.sized ∙ i.sized;
      given = given_on _ _ _ _ _ _ _ f.kept i.given (c.read_on.ensures.more _ e);
    }

pub returns-in-None-clause-in_order : goal.returns-in-None-clause-in_order
returns-in-None-clause-in_order g c =
    let i = c.loop-done.invariant in
    let e = c.read_on.ensures.end (c.in_ok-n.was ∙ ap Ok c.in-None.is) in
    subst (Consumes _ _) (sym c.read_on.ensures.further.kept) (Consumes-kept _ _ _ _ i.given e.0)

pub returns-in-None-clause-to_the_end : goal.returns-in-None-clause-to_the_end
returns-in-None-clause-to_the_end g c l =
    let e = c.read_on.ensures.end (c.in_ok-n.was ∙ ap Ok c.in-None.is) in
    e.1 (omega (arith, c.read_on.ensures.further.sized))
