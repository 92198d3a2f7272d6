-- `read_number` meets its contract. The invariant: the digits passed are those of the value so far. Assumes nothing.
use mathlib.Core.Path.{sym, subst}
use mathlib.Core.Logic.{inl, inr, ⊎_elim}
use Prim.Native.Nat.{◌+◌, ◌<◌}
use native.Mathlib.Omega.{arith}
use lib.ListN.{get_or, length}
use Rattle.partlist.specs.Text.{Digit}
use Rattle.lines.specs.Scans.{ReadsDigit, NumberAt}
use Rattle.lines.proofs.Numbers.{begun_none, begun_more, number_ended, none_ended, none_sixth, none_zero, inside_rest, after_rest, byte_of_rest}
use Rattle.lines.proofs.read_number.Goals as goal
use Rattle.lines.proofs.read_number.Goals.{In-Some, then-k-eq-MOST_DIGITS-via-then-k-eq-MOST_DIGITS, then-k-eq-MOST_DIGITS-via-else-k-eq-MOST_DIGITS+then-v-eq0}

-- the byte that the turn reads, a digit
inside : (c : In-Some) → c.args.at + c.loop-k.k < length c.args.text.now
inside c = inside_rest _ _ _ c.requires c.loop-k-test.true

digit : (c : In-Some) → ReadsDigit (get_or c.args.text.now (c.args.at + c.loop-k.k) 0) c.in-Some.d
digit c = subst (λ x. ReadsDigit x c.in-Some.d) (byte_of_rest _ _ _ c.requires) c.in-Some.ensures

pub loop-k-init : goal.loop-k-init
loop-k-init c = begun_none c.args.text.now c.args.at c.requires

pub returns-in_default : goal.returns-in_default
returns-in_default c =
    subst (NumberAt c.args.text.now c.args.at) (sym c.then_some.ensures)
    (number_ended _ _ _ _ c.loop-k.invariant (inside_rest _ _ _ c.requires c.loop-k-test.true)
    (subst (λ x. Digit x → ⊥) (byte_of_rest _ _ _ c.requires) c.in_default.ensures))

pub returns-then-k-eq-MOST_DIGITS : goal.returns-then-k-eq-MOST_DIGITS
returns-then-k-eq-MOST_DIGITS c =
    let f = (goal.at.returns-then-k-eq-MOST_DIGITS c).In-Some in
    elim c.then-k-eq-MOST_DIGITS.branch [
      | then-k-eq-MOST_DIGITS-via-then-k-eq-MOST_DIGITS w ↦ none_sixth _ _ _ _ c.loop-k.invariant _ (inside f) w.if-k-eq-MOST_DIGITS.true (digit f)
      | then-k-eq-MOST_DIGITS-via-else-k-eq-MOST_DIGITS+then-v-eq0 w ↦
          none_zero _ _ _ _ c.loop-k.invariant _ (inside f) w.if-v-eq0.true.1 (λ z. omega (arith, w.if-v-eq0.true.0)) (digit f)
    ]

pub loop-k-preserved : goal.loop-k-preserved
loop-k-preserved c =
    let l = c.loop-k in
    let f = (goal.at.loop-k-preserved c).In-Some in
    begun_more _ _ _ _ l.invariant _ (inside f) (omega (arith, l.invariant.few, c.if-k-eq-MOST_DIGITS.false)) (digit f)
    (⊎_elim (λ h. inr (omega (arith, h.1))) (λ h. inl (omega arith)) c.if-v-eq0.either)

pub returns : goal.returns
returns c = none_ended _ _ _ _ c.loop-k.invariant (after_rest _ _ _ c.requires c.loop-k-test.false)
