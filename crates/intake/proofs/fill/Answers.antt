-- `fill` meets its contract: points, lines, sweep and faces, each with what the step before it leaves. Assumes nothing.
use mathlib.Core.Path.{◌∙◌}
use native.Mathlib.Omega.{arith}
use Rattle.std.specs.Prelude.{Ok, Err}
use Rattle.std.proofs.lemmas.Result.{err_from_is_err_and}
use Rattle.table.specs.Table.{cells_of}
use Rattle.intake.specs.Steps.{GathersAll}
use Rattle.intake.proofs.Filling.{gathers_there, sweeps_there, puts_there, fills_no_points, fills_no_facets, fills_all}
use Rattle.intake.proofs.fill.Goals as goal
use Rattle.intake.proofs.fill.Goals.{In_ok-gathered}

-- the lines, and the room as it was at first
gathered : (g : In_ok-gathered) → GathersAll g.args.text.now g.args.n (cells_of g.args.t.now) g.take_lines.new.t g.in_ok-gathered.gathered
gathered g =
    gathers_there g.args.t.now g.take_points.new.t g.take_points.auto.t g.args.text.now g.args.n g.take_lines.new.t (Ok g.in_ok-gathered.gathered)
    g.in_ok-gathered.ensures

pub returns-then-n-room : goal.returns-then-n-room
returns-then-n-room c = fills_no_points _ _ _ (omega (arith, c.if-n-room.true, c.room.ensures))

pub returns-in_err-m : goal.returns-in_err-m
returns-in_err-m c =
    let p = err_from_is_err_and c.from_residual-in_err-m.result c.from_residual-in_err-m.ensures.1 in
    rw (p.1, p.2)
    (fills_no_facets _ _ _ _ _ (gathered (goal.at.returns-in_err-m c).In_ok-gathered) c.requires.3 _
    (sweeps_there c.args.t.now _ (c.take_lines.auto.t ∙ c.take_points.auto.t) c.sweep.new.t c.in_ok-gathered.gathered (Err c.in_err-m.field-0.0) c.in_err-m.ensures))

pub returns : goal.returns
returns c =
    fills_all _ _ _ _ _ (gathered (goal.at.returns c).In_ok-gathered) c.requires.3 _ _
    (sweeps_there c.args.t.now _ (c.take_lines.auto.t ∙ c.take_points.auto.t) c.sweep.new.t c.in_ok-gathered.gathered (Ok c.in_ok-m.m) c.in_ok-m.ensures) _
    (puts_there c.args.t.now _ (c.sweep.auto.t ∙ c.take_lines.auto.t ∙ c.take_points.auto.t) c.put_faces.ensures)
