-- `add_word` meets its contract. The invariant: what is added, with the faces of the bits that are left, is what the contract adds.
-- The measure: the word of the bits that are left, which falls. Assumes nothing.
use mathlib.Core.Path.{◌≡◌, refl}
use mathlib.Core.Bool.{true}
use Prim.Native.Nat.{◌+◌, ◌*◌, ◌<◌}
use native.Mathlib.Omega.{arith}
use Rattle.table.specs.Kind.{capacity}
use Rattle.rows.specs.Seen.{cells_of}
use Rattle.bitset.proofs.LowBit.{bit_gone_less}
use Rattle.rows.proofs.WordBits.{all_left, left_live, one_less, none_left}
use Rattle.rows.proofs.adding.add_word.Goals as goal
use Rattle.rows.proofs.adding.add_word.Goals.{After-lowest-k}

-- the cell of the lowest bit that is left is live
live_here : (c : After-lowest-k) →
    (cells_of c.args.view).live (64 * c.args.w + c.lowest-k.result) ≡ true
live_here c =
    left_live (cells_of c.args.view) c.args.w c.args.word c.loop-v.v c.lowest-k.result _ _
    c.lowest-k.ensures.inside c.lowest-k.ensures.set c.loop-v.invariant.1 c.requires.word_live

-- and so its number lies inside
inside_here : (c : After-lowest-k) →
    64 * c.args.w + c.lowest-k.result < (cells_of c.args.view).size
inside_here c =
    c.args.view.frame.below _ (live_here c)

-- and is small
small_here : (c : After-lowest-k) →
    64 * c.args.w + c.lowest-k.result < capacity
small_here c =
    omega (arith, inside_here c, c.args.view.frame.room)

pub overflow_mul-w : goal.overflow_mul-w
overflow_mul-w c = omega (arith, small_here (goal.at.overflow_mul-w c).After-lowest-k)

pub overflow_add-w : goal.overflow_add-w
overflow_add-w c = omega (arith, small_here (goal.at.overflow_add-w c).After-lowest-k)

pub add_faces-requires-clause-c_live : goal.add_faces-requires-clause-c_live
add_faces-requires-clause-c_live c = live_here (goal.at.add_faces-requires-clause-c_live c).After-lowest-k

pub loop-v-smaller : goal.loop-v-smaller
loop-v-smaller c =
    bit_gone_less c.loop-v.v c.lowest-k.result c.lowest-k.ensures.inside c.lowest-k.ensures.set

pub loop-v-preserved : goal.loop-v-preserved
loop-v-preserved c =
    let a = c.args in
    let l = c.loop-v in (
      λ i. (c.type_inv.into i).fits,
      one_less (cells_of a.view) a.w a.word l.v c.lowest-k.result _ l.into c.lowest-k.ensures.inside c.lowest-k.ensures.set l.invariant.1
          _ _ (inside_here (goal.at.loop-v-preserved c).After-lowest-k) refl c.add_faces.ensures,
    )

pub returns : goal.returns
returns c =
    let a = c.args in
    none_left (cells_of a.view) a.w a.word c.loop-v.v _ _ c.loop-v-test.false c.loop-v.auto.into c.loop-v.invariant.0 c.loop-v.invariant.1

pub loop-v-init : goal.loop-v-init
loop-v-init c = (λ i. (c.type_inv.into i).fits, all_left _ _ _ _)
