-- `weld::join_places` meets its contract. The invariant: the words hold the map with the places below j joined. Assumes nothing.
use mathlib.Core.Path.{◌≡◌, ap, sym, subst, ◌∙◌}
use Prim.Native.Nat.{ℕ, ◌<◌}
use borrow.Author.Rules.{rules}
use native.Mathlib.Omega.{arith}
use lib.ListN.{length, get_or, take}
use lib.Seq.{get_or-take}
use Rattle.table.specs.Kind.{used as used_of}
use Rattle.table.specs.Table.{cells_of, dim, face}
use Rattle.table.proofs.Records.{faces_at}
use Rattle.weld.specs.Joins.{join_places}
use Rattle.weld.specs.Maps.{Maps, Becomes}
use Rattle.weld.proofs.Passing.{becomes_at, places_none, places_more, face_inside, other_inside}
use Rattle.weld.proofs.join_places.Goals as goal
use Rattle.weld.proofs.join_places.Goals.{After-faces-ys, In-loop-j}

-- as many places are joined as are used
places : (c : After-faces-ys) → length (take c.used-used.result c.faces-xs.result) ≡ used_of (dim c.args.t.now c.args.c)
places c =
    let few : length (take c.used-used.result c.faces-xs.result) ≡ c.used-used.result = search (rules, c.used-used.ensures.1, c.faces-xs.ensures) in
    few ∙ c.used-used.ensures.0 ∙ ap used_of c.dim.ensures

-- the two faces at place j
module _ (c : In-loop-j) (n : length (take c.used-used.result c.faces-xs.result) ≡ used_of (dim c.args.t.now c.args.c)) where
  low : c.loop-j.j < used_of (dim c.args.t.now c.args.c)
  low = omega (arith, n, c.loop-j-test.true)

  one : get_or (take c.used-used.result c.faces-xs.result) c.loop-j.j 0 ≡ face c.args.t.now c.args.c c.loop-j.j
  one =
      get_or-take c.used-used.result c.faces-xs.result c.loop-j.j 0 (omega (arith, low, c.used-used.ensures.0, c.dim.ensures, ap used_of c.dim.ensures))
      ∙ faces_at _ _ _ c.faces-xs.ensures c.loop-j.j (omega (arith, low, c.used-used.ensures, ap used_of c.dim.ensures))

  other : get_or c.faces-ys.result c.loop-j.j 0 ≡ face c.args.t.now c.args.d c.loop-j.j
  other = faces_at _ _ _ c.faces-ys.ensures c.loop-j.j (omega (arith, low, c.used-used.ensures, ap used_of c.dim.ensures))

pub loop-j-init : goal.loop-j-init
loop-j-init c = places_none _ _ _ _ _ c.requires.0.maps

pub loop-j-preserved : goal.loop-j-preserved
loop-j-preserved c =
    let g = goal.at.loop-j-preserved c in
    let n = places g.After-faces-ys in
    let b = c.loop-j.invariant in
    places_more _ _ _ _ _ _ _ _ _ _ b (one g.In-loop-j n) (other g.In-loop-j n) (becomes_at _ _ _ _ _ b.maps.size c.join.ensures)

pub join-requires : goal.join-requires
join-requires c =
    let g = goal.at.join-requires c in
    let n = places g.After-faces-ys in
    let p = c.requires in
    let m = c.loop-j.invariant.maps in (
      subst (λ n. Maps n c.loop-j.k) (sym m.size) m,
      omega (arith, m.size, face_inside _ _ _ p.0.valid p.1 p.2 p.3 _ _ (one g.In-loop-j n) (low g.In-loop-j n)),
      omega (arith, m.size, other_inside _ _ _ p.0.valid p.1 p.2 p.3 _ _ (other g.In-loop-j n) (low g.In-loop-j n)),
    )

pub returns : goal.returns
returns c =
    let e = places (goal.at.returns c).After-faces-ys in
    let a = c.args in
    subst (λ (j : ℕ). Becomes (cells_of a.t.now) (join_places a.t.now a.c a.d j) a.k.now c.loop-j.k)
    (omega (arith, e, c.loop-j-test.false, c.loop-j.auto.j-end))
    c.loop-j.invariant
