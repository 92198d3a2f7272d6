-- `give` meets its contract. The invariant: the apex and the marked cells below s have their numbers. Assumes nothing.
use mathlib.Core.Path.{◌≡◌, ap, sym, ◌∙◌}
use borrow.Author.Rules.{rules}
use native.Mathlib.Omega.{arith}
use Prim.Native.Nat.{◌+◌, ◌<◌}
use Rattle.std.specs.declared.result.Result.TheVariants.{Err}
use Rattle.table.specs.Table.{cells_of}
use Rattle.cone.specs.Parts.{free_from}
use Rattle.cone.proofs.Acceptance.{MarksEnd, ends_inside}
use Rattle.cone.proofs.Refusals.{few_cells, marks_live, words_fit}
use Rattle.cone.proofs.Numbering.{number_found, number_lacks, apex_lacks, giving_starts, giving_gives, giving_passes, giving_lacks, giving_room, giving_ends}
use Rattle.cone.proofs.numbers.Numbers.give.Goals as goal
use Rattle.cone.proofs.numbers.Numbers.give.Goals.{After-marks_end-s-end, In_ok-apex, In_ok-last, then-has+in_ok-last, else-has}

-- the marks end in the table
end_of : (c : After-marks_end-s-end) → MarksEnd c.args.t.now c.args.marks.now c.marks_end-s-end.result
end_of c = ends_inside _ _ _ (marks_live _ _ c.requires) c.marks_end-s-end.ensures

pub marks_end-s-end-requires : goal.marks_end-s-end-requires
marks_end-s-end-requires c = words_fit _ _ c.requires

-- the numbers found are free
apex_found : (c : In_ok-apex) → (c.in_ok-apex.apex ≡ free_from c.args.t.now 0) × (c.in_ok-apex.apex < cells_of c.args.t.now)
apex_found c =
    number_found _ _ (omega arith) _ _ c.next_free.ensures (sym c.ok_or.ensures.value ∙ c.in_ok-apex.was)

last_found : (c : In_ok-last) → (c.in_ok-last.last ≡ free_from c.args.t.now (c.loop-s.last + 1)) × (c.in_ok-last.last < cells_of c.args.t.now)
last_found c =
    number_found _ _ (omega (arith, c.loop-s.invariant.low)) _ _ c.next_free-then-has.ensures
    (sym c.ok_or-then-has.ensures.value ∙ c.in_ok-last.was)

pub bounds-self-s : goal.bounds-self-s
bounds-self-s c =
    let few = few_cells _ _ c.requires in
    let end = end_of (goal.at.bounds-self-s c).After-marks_end-s-end in
    search (rules, few, end.inside)

pub overflow_cast-self : goal.overflow_cast-self
overflow_cast-self c = omega (arith, few_cells _ _ c.requires, (apex_found (goal.at.overflow_cast-self c).In_ok-apex).1)

pub overflow_cast-self-then-has : goal.overflow_cast-self-then-has
overflow_cast-self-then-has c =
    omega (arith, few_cells _ _ c.requires, (last_found (goal.at.overflow_cast-self-then-has c).In_ok-last).1)

pub returns-in_err-apex-clause-room : goal.returns-in_err-apex-clause-room
returns-in_err-apex-clause-room c =
    let a = c.args in
    let f = number_lacks a.t.now 0 (omega arith) _ c.in_err-apex.field-0.0 c.next_free.ensures (sym c.ok_or.ensures.value ∙ c.in_err-apex.was) in
    search (rules, ap Err f.0 ∙ apex_lacks a.t.now a.marks.now f.1)

pub loop-s-init : goal.loop-s-init
loop-s-init c =
    let f = apex_found (goal.at.loop-s-init c).In_ok-apex in
    giving_starts _ _ _ f.0 f.1

pub returns-in_err-last-clause-room : goal.returns-in_err-last-clause-room
returns-in_err-last-clause-room c =
    let a = c.args in
    let l = c.loop-s in
    let f = number_lacks a.t.now (l.last + 1) (omega (arith, l.invariant.low)) _ c.in_err-last.field-0.0 c.next_free-then-has.ensures (sym c.ok_or-then-has.ensures.value ∙ c.in_err-last.was) in
    search (rules, ap Err f.0 ∙ giving_lacks a.t.now a.marks.now l.self l.last l.s l.invariant (omega (arith, c.loop-s-test.true, (end_of (goal.at.returns-in_err-last-clause-room c).After-marks_end-s-end).inside)) (sym c.has.ensures ∙ c.if-has.true) f.1)

pub loop-s-preserved : goal.loop-s-preserved
loop-s-preserved c =
    let l = c.loop-s in
    let few = few_cells _ _ c.requires in
    let end = end_of (goal.at.loop-s-preserved c).After-marks_end-s-end in
    elim c.if-has.branch [
      | then-has+in_ok-last w ↦
          rw (w.self-is, w.last-is)
          (giving_gives _ _ _ l.last l.s l.invariant _ (search (rules, few, end.inside)) (sym c.has.ensures ∙ w.if-has.true)
          (number_found _ _ (omega (arith, l.invariant.low)) _ _ w.next_free-then-has.ensures (sym w.ok_or-then-has.ensures.value ∙ w.in_ok-last.was)))
      | else-has w ↦ rw (w.self-is, w.last-is) (giving_passes _ _ _ l.last l.s l.invariant (sym c.has.ensures ∙ w.if-has.false))
    ]

pub returns-clause-room : goal.returns-clause-room
returns-clause-room c =
    let l = c.loop-s in
    giving_room _ _ _ _ _ _ l.invariant (omega (arith, l.auto.s-end, c.loop-s-test.false)) (end_of (goal.at.returns-clause-room c).After-marks_end-s-end)

pub returns-clause-given : goal.returns-clause-given
returns-clause-given c =
    let l = c.loop-s in
    giving_ends _ _ _ _ _ _ l.invariant (omega (arith, l.auto.s-end, c.loop-s-test.false)) (end_of (goal.at.returns-clause-given c).After-marks_end-s-end)
