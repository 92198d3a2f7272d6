-- `add_faces` meets its contract. The invariant: the faces at the places passed are added. Assumes nothing.
use Prim.Native.Nat.{◌<◌, ◌/◌}
use native.Mathlib.Omega.{arith}
use Rattle.bitset.specs.Bits.{full_width}
use Rattle.rows.specs.Seen.{seen}
use Rattle.rows.proofs.Places.{no_places, one_place, all_places, face_fits}
use Rattle.rows.proofs.adding.add_faces.Goals as goal

pub loop-j-preserved : goal.loop-j-preserved
loop-j-preserved c =
    let v = c.args.view in
    let fits : c.face.result / 64 < full_width
    = face_fits (seen v) c.args.c v.frame c.loop-j.j _ c.requires.c_live (omega (arith, c.loop-j-test.true, c.places-places.ensures)) c.face.ensures in
    one_place (seen v) c.args.c c.loop-j.j _ _ c.loop-j.into _ c.face.ensures (omega (arith, fits, c.loop-j.auto.into, c.requires.into_len))
    c.toggle.ensures c.loop-j.invariant

pub loop-j-init : goal.loop-j-init
loop-j-init c = no_places _ _ _

pub returns : goal.returns
returns c =
    all_places (seen c.args.view) c.args.c c.loop-j.j _ _ c.requires.c_live
    (omega (arith, c.loop-j-test.false, c.loop-j.auto.j-end, c.places-places.ensures)) c.loop-j.auto.into c.loop-j.invariant
