-- A cone keeps a table valid: each published line of a valid table holds of the old cells, of the apex and of the cones.
-- What carries it: the published rule alone, case by case; for a cone's faces the law is that of its base, and between a side and the
-- base it says that the last face of a face's cone is that face. Assumes nothing.
use mathlib.Core.Path.{◌≡◌, refl, sym, ap, subst, ◌∙◌}
use mathlib.Core.Bool.{true, false≢true}
use mathlib.Core.List.{List}
use mathlib.Core.Logic.{◌⊎◌, inl, inr, ⊎_elim}
use Prim.Native.Nat.{ℕ, suc, ◌+◌, ◌-◌, ◌/◌, ◌≤◌, ◌<◌}
use native.Mathlib.Nat.{eq-or-lt_of_le, le_of_suc-le-suc}
use native.Mathlib.Omega.{arith}
use Rattle.bitset.specs.Bits.{member}
use Rattle.table.specs.Kind.{top, faces, width, free_mark, used}
use Rattle.table.specs.Table.{cells_of, dim, face, Live, Valid}
use Rattle.calls.specs.Calls.{leaves}
use Rattle.calls.specs.Calls.{Verdict}
use Rattle.std.specs.declared.result.Result.TheVariants.{Ok, Err}
use Prim.{tt}
use Rattle.table.proofs.Records.{live_says}
use Rattle.table.proofs.Places.{used_is, used_says}
use Rattle.cone.specs.Cone.{free, apex_of, cone_of, coned, cone_verdict, cone_leaves}
use Rattle.building.specs.ConeRule.{IsCone}
use Rattle.cone.proofs.Acceptance.{Accepts, cone_accepted}
use Rattle.cone.proofs.GivenNumbers.{free_inside, free_not_live}
use Rattle.building.proofs.ConedIsCone.{coned_is_cone}
use Rattle.building.proofs.Sorts.{Sort, old, tip, over, rest, sort_of, Place, base, past, first, side, place_of}

-- a free number of a valid table has the free mark
pub free_dim : (t : List ℕ) → Valid t → (c : ℕ) → free t c ≡ true → dim t c ≡ free_mark
free_dim t v c f =
    ⊎_elim
    (λ l. absurd (false≢true (sym (free_not_live t c f) ∙ live_says t c (record { inside = free_inside t c f; low = l }))))
    (λ e. e)
    (v.records c (free_inside t c f))

-- a live cell c of dimension p
record Facet (u : List ℕ) (p c : ℕ) : Type 0 where
  pub lives : Live u c
  pub has_dim : dim u c ≡ p

module _ (t marks : List ℕ) (acc : Accepts t marks) (a : ℕ) (κ : ℕ → ℕ) (u : List ℕ) (x : IsCone t marks a κ u) where
  same_cells : cells_of u ≡ cells_of t
  same_cells = ap (λ (n : ℕ). n / width) x.size

  sorted : (c : ℕ) → c < cells_of u → Sort t marks a κ c
  sorted c h = sort_of t marks acc.marked_live a κ c (omega (arith, same_cells))

  -- the three sorts of live cells, and the rest, which has the free mark
  old_facet : (c p : ℕ) → Live t c → dim t c ≡ p → Facet u p c
  old_facet c p v e =
      let d : dim u c ≡ dim t c = x.old_dim c (live_says t c v) in
      record {
        lives = record { inside = omega (arith, same_cells, v.inside); low = omega (arith, v.low) };
        has_dim = d ∙ e;
      }

  apex_facet : Facet u 0 a
  apex_facet =
      record {
        lives = record { inside = omega (arith, same_cells, free_inside t a x.apex_free); low = omega (arith, x.apex_dim) };
        has_dim = x.apex_dim;
      }

  cone_facet : (s : ℕ) → member marks s ≡ true → Facet u (suc (dim t s)) (κ s)
  cone_facet s m =
      record {
        lives = record {
          inside = omega (arith, same_cells, free_inside t (κ s) (x.cone_free s m));
          low = omega (arith, x.cone_dim s m, acc.below_top s m);
        };
        has_dim = x.cone_dim s m;
      }

  rest_mark : (c : ℕ) → free t c ≡ true → (c ≡ a → ⊥) → ((s : ℕ) → member marks s ≡ true → c ≡ κ s → ⊥) → dim u c ≡ free_mark
  rest_mark c f other none = x.rest_dim c f other none ∙ free_dim t acc.valid c f

  facet_at : {c d : ℕ} (p : ℕ) → c ≡ d → Facet u p d → Facet u p c
  facet_at p e = subst (λ (i : ℕ). Facet u p i) (sym e)

  -- a face of a cone over s
  face_facet : (s j : ℕ) → member marks s ≡ true → j ≤ suc (dim t s) → Place (dim t s) j → Facet u (dim t s) (face u (κ s) j)
  face_facet s j m h (base e) =
      facet_at (dim t s) (ap (λ (i : ℕ). face u (κ s) i) e ∙ x.cone_base s m)
      (old_facet s (dim t s) (acc.marked_live s m) refl)
  face_facet s j m h (past l) = absurd (omega arith)
  face_facet s j m h (first z e) =
      facet_at (dim t s) (ap (λ (i : ℕ). face u (κ s) i) e ∙ x.cone_tip s m z)
      (subst (λ (p : ℕ). Facet u p a) (sym z) apex_facet)
  face_facet s j m h (side p l k) =
      facet_at (dim t s) (x.cone_side s j m k)
      (subst (λ (q : ℕ). Facet u q (κ (face t s j))) (sym (acc.valid.face_dim s j (acc.marked_live s m) k))
      (cone_facet (face t s j) (acc.closed s j m k)))

  -- so every used face of a live cell is live and one dimension down
  faces_by : (c j : ℕ) → j < used (dim u c) → Sort t marks a κ c → (p : ℕ) × (dim u c ≡ suc p) × Facet u p (face u c j)
  faces_by c j h (old v) =
      let d = x.old_dim c (live_says t c v) in
      let q = used_says (dim u c) j h in
      let k : j < used (dim t c) = rw d at h in
      let f = face t c j in (
        dim t f,
        d ∙ acc.valid.face_dim c j v k,
        facet_at (dim t f) (x.old_face c j (live_says t c v) (omega (arith, q.1, q.2)))
            (old_facet f (dim t f) (acc.valid.face_live c j v k) refl),
      )
  faces_by c j h (tip e) =
      absurd (omega (arith, (used_says (dim u c) j h).0, ap (λ (i : ℕ). dim u i) e ∙ x.apex_dim))
  faces_by c j h (over s m e) =
      let d : dim u c ≡ suc (dim t s) = ap (λ (i : ℕ). dim u i) e ∙ x.cone_dim s m in (
        dim t s,
        d,
        facet_at (dim t s) (ap (λ (i : ℕ). face u i j) e)
            (face_facet s j m (omega (arith, (used_says (dim u c) j h).2)) (place_of (dim t s) j (acc.marked_live s m).low)),
      )
  faces_by c j h (rest f other none) =
      absurd (omega (arith, (used_says (dim u c) j h).1, rest_mark c f other none))

  records_by : (c : ℕ) → Sort t marks a κ c → (dim u c ≤ top) ⊎ (dim u c ≡ free_mark)
  records_by c (old v) = inl (old_facet c (dim t c) v refl).lives.low
  records_by c (tip e) = inl (facet_at 0 e apex_facet).lives.low
  records_by c (over s m e) = inl (facet_at (suc (dim t s)) e (cone_facet s m)).lives.low
  records_by c (rest f other none) = inr (rest_mark c f other none)

  unused_by : (c j : ℕ) → used (dim u c) ≤ j → j < faces → Sort t marks a κ c → face u c j ≡ free_mark
  unused_by c j h l (old v) =
      let d = x.old_dim c (live_says t c v) in
      x.old_face c j (live_says t c v) l ∙ acc.valid.unused c j v.inside (rw d at h) l
  unused_by c j h l (tip e) = ap (λ (i : ℕ). face u i j) e ∙ x.apex_faces j l
  unused_by c j h l (over s m e) =
      let d : dim u c ≡ suc (dim t s) = ap (λ (i : ℕ). dim u i) e ∙ x.cone_dim s m in
      let n : used (dim u c) ≡ dim u c + 1 = used_is (dim u c) (omega arith) (omega (arith, acc.below_top s m)) in
      ap (λ (i : ℕ). face u i j) e ∙ x.cone_unused s j m (omega arith) l
  unused_by c j h l (rest f other none) =
      let d = x.rest_dim c f other none in
      x.rest_face c j f l other none ∙ acc.valid.unused c j (free_inside t c f) (rw d at h) l

  -- The law over an old cell.
  old_law : (c j l : ℕ) → Live t c → 2 ≤ dim t c → l < j → j ≤ dim t c → face u (face u c j) l ≡ face u (face u c l) (j - 1)
  old_law c j l v h k m =
      let n = used_is (dim t c) (omega arith) v.low in
      let at : ((i : ℕ) → i ≤ dim t c → face u c i ≡ face t c i) = λ i b. x.old_face c i (live_says t c v) (omega (arith, v.low)) in
      let under : ((i e : ℕ) → i ≤ dim t c → e < faces → face u (face u c i) e ≡ face t (face t c i) e) = λ i e b g. ap (λ (d : ℕ). face u d e) (at i b) ∙ x.old_face (face t c i) e (live_says t (face t c i) (acc.valid.face_live c i v (omega arith))) g in
      under j l m (omega (arith, v.low))
      ∙ acc.valid.law c j l v h k m
      ∙ sym (under l (j - 1) (omega arith) (omega (arith, v.low)))

  -- The law over a cone: a marked cell s of dimension 1 or more, and its faces j and l, which are marked.
  module _ (s : ℕ) (m : member marks s ≡ true) (h : 1 ≤ dim t s) where
    alive : Live t s
    alive = acc.marked_live s m

    places : used (dim t s) ≡ dim t s + 1
    places = used_is (dim t s) h alive.low

    face_marked : (j : ℕ) → j ≤ dim t s → member marks (face t s j) ≡ true
    face_marked j l = acc.closed s j m (omega (arith, places))

    face_down : (j : ℕ) → j ≤ dim t s → dim t s ≡ suc (dim t (face t s j))
    face_down j l = acc.valid.face_dim s j alive (omega (arith, places))

    side_is : (j : ℕ) → j ≤ dim t s → face u (κ s) j ≡ κ (face t s j)
    side_is j l = x.cone_side s j m (omega (arith, places))

    -- between the base and a side
    base_law : (l : ℕ) → l ≤ dim t s → face u (face u (κ s) (suc (dim t s))) l ≡ face u (face u (κ s) l) (dim t s)
    base_law l k =
        ap (λ (i : ℕ). face u i l) (x.cone_base s m)
        ∙ x.old_face s l (live_says t s alive) (omega (arith, alive.low))
        ∙ sym
        (ap (λ (i : ℕ). face u i (dim t s)) (side_is l k)
        ∙ ap (λ (i : ℕ). face u (κ (face t s l)) i) (face_down l k)
        ∙ x.cone_base (face t s l) (face_marked l k))

    -- between two sides: both sides' faces are the apex over an edge,
    edge_law : (j l : ℕ) → dim t s ≡ 1 → l < j → j ≤ dim t s → face u (κ (face t s j)) l ≡ face u (κ (face t s l)) (j - 1)
    edge_law j l p k b =
        let zero-l : l ≡ 0 = omega arith in
        let zero-j : j - 1 ≡ 0 = omega arith in
        ap (λ (i : ℕ). face u (κ (face t s j)) i) zero-l
        ∙ x.cone_tip (face t s j) (face_marked j b) (omega (arith, face_down j b))
        ∙ sym
        (ap (λ (i : ℕ). face u (κ (face t s l)) i) zero-j
        ∙ x.cone_tip (face t s l) (face_marked l (omega arith)) (omega (arith, face_down l (omega arith))))

    -- and else cones of the two sides of the law of s
    face_of_side : (j l : ℕ) → 2 ≤ dim t s → j ≤ dim t s → suc l ≤ dim t s → face u (κ (face t s j)) l ≡ κ (face t (face t s j) l)
    face_of_side j l p b k =
        let d = face_down j b in
        x.cone_side (face t s j) l (face_marked j b)
        (omega (arith, used_is (dim t (face t s j)) (omega arith) (omega (arith, alive.low))))

    higher_law : (j l : ℕ) → 2 ≤ dim t s → l < j → j ≤ dim t s → face u (κ (face t s j)) l ≡ face u (κ (face t s l)) (j - 1)
    higher_law j l p k b =
        face_of_side j l p b (omega arith)
        ∙ ap κ (acc.valid.law s j l alive p k b)
        ∙ sym (face_of_side l (j - 1) p (omega arith) (omega arith))

    sides_law : (j l : ℕ) → l < j → j ≤ dim t s → face u (face u (κ s) j) l ≡ face u (face u (κ s) l) (j - 1)
    sides_law j l k b =
        ap (λ (i : ℕ). face u i l) (side_is j b)
        ∙ ⊎_elim (λ e. edge_law j l (sym e) k b) (λ g. higher_law j l g k b) (eq-or-lt_of_le h)
        ∙ sym (ap (λ (i : ℕ). face u i (j - 1)) (side_is l (omega arith)))

    cone_law : (j l : ℕ) → l < j → j ≤ suc (dim t s) → face u (face u (κ s) j) l ≡ face u (face u (κ s) l) (j - 1)
    cone_law j l k b = ⊎_elim at_base (λ g. sides_law j l k (le_of_suc-le-suc g)) (eq-or-lt_of_le b)
      where
        at_base : j ≡ suc (dim t s) → face u (face u (κ s) j) l ≡ face u (face u (κ s) l) (j - 1)
        at_base e =
            let p : j - 1 ≡ dim t s = omega arith in
            ap (λ (i : ℕ). face u (face u (κ s) i) l) e
            ∙ base_law l (omega arith)
            ∙ ap (λ (i : ℕ). face u (face u (κ s) l) i) (sym p)

  law_by : (c j l : ℕ) → 2 ≤ dim u c → dim u c ≤ top → l < j → j ≤ dim u c → Sort t marks a κ c → face u (face u c j) l ≡ face u (face u c l) (j - 1)
  law_by c j l h w k b (old v) =
      let d = x.old_dim c (live_says t c v) in
      old_law c j l v (omega arith) k (omega arith)
  law_by c j l h w k b (tip e) = absurd (omega (arith, ap (λ (i : ℕ). dim u i) e ∙ x.apex_dim))
  law_by c j l h w k b (over s m e) =
      let d : dim u c ≡ suc (dim t s) = ap (λ (i : ℕ). dim u i) e ∙ x.cone_dim s m in
      ap (λ (i : ℕ). face u (face u i j) l) e
      ∙ cone_law s m (omega arith) j l k (omega arith)
      ∙ ap (λ (i : ℕ). face u (face u i l) (j - 1)) (sym e)
  law_by c j l h w k b (rest f other none) = absurd (omega (arith, rest_mark c f other none))

  -- the published rule keeps a table valid
  cone_is_valid : Valid u
  cone_is_valid =
      let z = acc.valid.sized in
      record {
        sized = record {
          whole = omega (arith, x.size, z.whole);
          some = omega (arith, same_cells, z.some);
          room = omega (arith, same_cells, z.room);
        };
        records = λ c h. records_by c (sorted c h);
        unused = λ c j h g l. unused_by c j g l (sorted c h);
        face_live = λ c j v h. (faces_by c j h (sorted c v.inside)).2.lives;
        face_dim = λ c j v h.
            let q = faces_by c j h (sorted c v.inside) in
            q.1 ∙ ap suc (sym q.2.has_dim);
        law = λ c j l v h k b. law_by c j l h v.low k b (sorted c v.inside);
      }

cone_keeps_valid : (t marks : List ℕ) → cone_verdict t marks ≡ Ok tt → Valid (coned t marks)
cone_keeps_valid t marks e =
    let acc = cone_accepted t marks e in
    cone_is_valid t marks acc (apex_of t) (cone_of t marks) (coned t marks) (coned_is_cone t marks acc)

leaves_valid : (v : Verdict) (new t : List ℕ) → Valid t → (v ≡ Ok tt → Valid new) → Valid (leaves v new t)
leaves_valid (Ok tt) new t z h = h refl
leaves_valid (Err r) new t z h = z

-- whatever the marks are
pub cone_leaves_valid : (t marks : List ℕ) → Valid t → Valid (cone_leaves t marks)
cone_leaves_valid t marks v = leaves_valid (cone_verdict t marks) (coned t marks) t v (cone_keeps_valid t marks)
