-- `weld::rename_as` meets its contract: the word that is compared with c is where c goes. The invariant: the faces below j are sent to
-- their images, and the rest of the record is as it was. Assumes nothing.
use mathlib.Core.Path.{sym, ◌∙◌, refl}
use native.Mathlib.Omega.{arith}
use lib.ListN.{get_or-replicate}
use Rattle.table.specs.Kind.{faces, free_mark}
use Rattle.table.proofs.Stores.{faced_more, faced_none}
use Rattle.weld.specs.Maps.{held_by}
use Rattle.weld.proofs.Sending.{map_inside}
use Rattle.weld.proofs.Writing.{record_freed, record_kept, image_is, faces_sent}
use Rattle.weld.proofs.rename_as.Goals as goal

pub returns-then-from-c : goal.returns-then-from-c
returns-then-from-c g c =
    let a = c.args in
    record_freed (held_by a.k.now a.t.now) _ _ _ _ c.put.ensures (λ j h. get_or-replicate faces j free_mark 0 h)
    (λ q. c.if-from-c.true (c.from.ensures ∙ sym (map_inside _ _ _ c.requires.0.inside) ∙ q))

pub loop-j-preserved : goal.loop-j-preserved
loop-j-preserved g c =
    let i = c.loop-j.invariant in
    faced_more _ _ _ _ _ _ _ (image_is _ _ _ c.requires.0 _ _ _ _ (omega (arith, c.loop-j-test.true, c.requires.1)) i c.face-f.ensures refl) i c.put_face.ensures

pub returns : goal.returns
returns g c =
    let a = c.args in
    let sent = faces_sent _ _ _ c.requires.0 _ _ (omega (arith, c.loop-j-test.false, c.requires.1)) c.loop-j.invariant in
    record_kept (held_by a.k.now a.t.now) _ _ _ sent (map_inside _ _ _ c.requires.0.inside ∙ sym c.from.ensures ∙ c.if-from-c.false)

pub loop-j-init : goal.loop-j-init
loop-j-init g c = faced_none _ _ _
