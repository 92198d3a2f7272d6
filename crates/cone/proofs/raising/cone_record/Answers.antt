-- `cone_record` meets its contract. The invariant: the first j sides are laid out. Assumes nothing.
use mathlib.Core.Path.{◌≡◌, refl, ap, subst, ◌∙◌}
use native.Mathlib.Omega.{arith}
use Prim.Native.Nat.{ℕ}
use lib.ListN.{get_or, set, length-set}
use Rattle.table.specs.Kind.{used}
use Rattle.table.specs.Table.{dim, face}
use Rattle.table.proofs.Records.{faces_at}
use Rattle.cone.proofs.Sides.{Sided, sided_more, sided_done, few_sides, sided_none}
use Rattle.cone.proofs.raising.cone_record.Goals as goal

pub loop-j-init : goal.loop-j-init
loop-j-init g c = (refl, sided_none _ _)

pub loop-j-preserved : goal.loop-j-preserved
loop-j-preserved g c =
    let l = c.loop-j in
    let a = c.args in
    let few = few_sides a.t.now a.numbers.now a.s _ c.requires.0 c.requires.2 in (
      length-set l.faces l.j _ ∙ l.invariant.0,
      sided_more (λ k. get_or a.numbers.now.cones (face a.t.now a.s k) 0) a.numbers.now.apex l.faces l.j _ (omega (arith, few, l.invariant.0, c.loop-j-test.true))
          (ap (λ k. get_or a.numbers.now.cones k 0) (faces_at a.t.now a.s c.faces-below.result c.faces-below.ensures l.j (omega (arith, few, c.loop-j-test.true))))
          l.invariant.1,
    )

pub returns : goal.returns
returns g c =
    let l = c.loop-j in
    let a = c.args in
    let d = dim a.t.now a.s in
    let side : ℕ → ℕ = λ k. get_or a.numbers.now.cones (face a.t.now a.s k) 0 in
    let e : l.j ≡ used d = omega (arith, c.loop-j-test.false, l.auto.j-end, c.requires.2) in
    record {
      same_dim = omega (arith, c.requires.1);
      same_face = λ k h.
          ap (λ p. get_or (set l.faces p a.s) k 0) c.requires.1
          ∙ sided_done side a.numbers.now.apex d a.s l.faces c.requires.0.low l.invariant.0 (subst (λ j. Sided side a.numbers.now.apex j l.faces) e l.invariant.1) k h;
    }
