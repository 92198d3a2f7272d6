-- The map that is made level by level is the weld's, and there is one such map: it keeps the table valid, the named pair keeps its
-- smaller number, and nothing else of that dimension or above moves.
-- What carries it: the map's classes are a congruence, and each of two smallest ones lies in the other. Assumes nothing.
use mathlib.Core.Path.{◌≡◌, refl, ap, sym, subst, ◌∙◌}
use mathlib.Core.List.{List}
use mathlib.Core.Logic.{⊎_elim}
use Prim.Native.Nat.{ℕ, ◌≤◌, ◌<◌, min}
use native.Mathlib.Omega.{arith}
use Rattle.table.specs.Kind.{used, free_mark}
use Rattle.table.specs.Table.{dim, face, Live, Valid}
use Rattle.table.proofs.Records.{live_or_not}
use Rattle.table.proofs.Places.{used_says}
use Rattle.merge.specs.Rename.{renamed, identify}
use Rattle.merge.proofs.Renaming.{renamed_alike}
use Rattle.merge.proofs.Identifying.{identify_way, identify_first}
use Rattle.merge.proofs.Keeping.{Carries, renamed_keeps_valid}
use Rattle.weld.specs.Weld.{Congruence, IsWeld}
use Rattle.weld.specs.Joins.{joined, weld_map}
use Rattle.weld.proofs.Joining.{Sound, joined_joins, joined_sound, joined_after}
use Rattle.weld.proofs.Levels.{Complete, Levelled, levels}

mark_not_live : (t : List ℕ) → Valid t → Live t free_mark → ⊥
mark_not_live t v l = omega (arith, l.inside, v.sized.room)

-- The map made level by level.
module _ (t : List ℕ) (a b : ℕ) (valid : Valid t) (v : Live t a) (w : Live t b) (d : dim t a ≡ dim t b) where
  nothing_sound : Sound t a b (λ c. c)
  nothing_sound =
      record {
        tied = record { lives = λ c l. l; level = λ c l. refl };
        once = λ c. refl;
        down = λ c. omega arith;
        others = λ c n. refl;
        meant = λ c l R g r. g.itself c l;
      }

  abbrev start : ℕ → ℕ
  start = joined (λ c. c) a b

  start_sound : Sound t a b start
  start_sound = joined_sound t a b (λ c. c) nothing_sound a b v w d (λ R g r. r)

  start_above : (c : ℕ) → Live t c → dim t a < dim t c → start c ≡ c
  start_above c l h = (joined_after t a b (λ c. c) nothing_sound a b v w d (dim t a) refl).elsewhere c l (λ e. omega (arith, e))

  start_complete : Complete t start (dim t a)
  start_complete c j l h k = ap (λ z. start (face t z j)) (sym (start_above c l h))

  levelled : Levelled t a b (dim t a) start (weld_map t a b)
  unfolding weld_map
  levelled = levels t a b (dim t a) valid start start_sound start_complete

  abbrev κ : ℕ → ℕ
  κ = weld_map t a b

  carried_there : (c j : ℕ) → Live t c → j < used (dim t c) → κ (face t c j) ≡ κ (face t (κ c) j)
  carried_there c j l h = levelled.complete c j l (used_says (dim t c) j h).0 h

  same_level : (c e : ℕ) → Live t c → Live t e → κ c ≡ κ e → dim t c ≡ dim t e
  same_level c e l k r =
      let s = levelled.sound.tied in
      sym (s.level c l) ∙ ap (dim t) r ∙ s.level e k

  classes_carried : Congruence t (λ c e. κ c ≡ κ e)
  classes_carried =
      record {
        itself = λ c l. refl;
        turned = λ c e l k r. sym r;
        through = λ c e f l k m r s. r ∙ s;
        level = same_level;
        carried = λ c e j l k r h.
            carried_there c j l h
            ∙ ap (λ z. κ (face t z j)) r
            ∙ sym (carried_there e j k (subst (λ p. j < used p) (same_level c e l k r) h));
      }

  -- it is the weld's
  pub weld_map_is_weld : IsWeld t a b (weld_map t a b)
  weld_map_is_weld =
      record {
        congruence = classes_carried;
        joins = levelled.coarser a b (joined_joins (λ c. c) a b);
        smallest = λ R g r c e l k q.
            let s = levelled.sound in
            g.through c (κ c) e l (s.tied.lives c l) k
            (g.turned (κ c) c (s.tied.lives c l) l (s.meant c l R g r))
            (subst (λ z. R z e) (sym q) (s.meant e k R g r));
        lives = levelled.sound.tied.lives;
        once = levelled.sound.once;
        down = levelled.sound.down;
        others = levelled.sound.others;
      }

  -- from the named dimension on only the named pair moves
  weld_map_above : (c : ℕ) → Live t c → dim t a ≤ dim t c → weld_map t a b c ≡ identify a b c
  unfolding joined
  weld_map_above c l h = levelled.above c l h

-- Two maps of one weld are one map.
module _ (t : List ℕ) (a b : ℕ) where
  not_above : (κ μ : ℕ → ℕ) → IsWeld t a b κ → IsWeld t a b μ → (c : ℕ) → Live t c → μ c ≤ κ c
  not_above κ μ x y c l =
      let e : μ (κ c) ≡ μ c = x.smallest (λ c d. μ c ≡ μ d) y.congruence y.joins (κ c) c (x.lives c l) l (x.once c) in
      omega (arith, e, y.down (κ c))

  pub one_weld : (κ μ : ℕ → ℕ) → IsWeld t a b κ → IsWeld t a b μ → (c : ℕ) → κ c ≡ μ c
  one_weld κ μ x y c =
      ⊎_elim
      (λ l. omega (arith, not_above κ μ x y c l, not_above μ κ y x c l))
      (λ n. x.others c n ∙ sym (y.others c n))
      (live_or_not t c)

  pub one_welded_table : (κ μ : ℕ → ℕ) → IsWeld t a b κ → IsWeld t a b μ → renamed κ t ≡ renamed μ t
  one_welded_table κ μ x y = renamed_alike κ μ t (one_weld κ μ x y)

-- What a weld's map is, whichever way it was found.
module _ (t : List ℕ) (a b : ℕ) (κ : ℕ → ℕ) (valid : Valid t) (x : IsWeld t a b κ) where
  weld_level : (c : ℕ) → Live t c → dim t (κ c) ≡ dim t c
  weld_level c l = x.congruence.level (κ c) c (x.lives c l) l (x.once c)

  pub weld_carries : Carries κ t
  weld_carries =
      record {
        once = x.once;
        mark = x.others free_mark (mark_not_live t valid);
        lives = x.lives;
        same_dim = weld_level;
        same_faces_lem = λ c j l h.
            x.congruence.carried (κ c) c j (x.lives c l) l (x.once c) (subst (λ p. j < used p) (sym (weld_level c l)) h);
      }

  pub weld_keeps_valid : Valid (renamed κ t)
  weld_keeps_valid = renamed_keeps_valid κ t valid weld_carries

  module _ (v : Live t a) (w : Live t b) where
    from_the_pair_up : (c : ℕ) → Live t c → dim t a ≤ dim t c → κ c ≡ identify a b c
    from_the_pair_up c l h =
        let d : dim t a ≡ dim t b = x.congruence.level a b v w x.joins in
        one_weld t a b κ (weld_map t a b) x (weld_map_is_weld t a b valid v w d) c ∙ weld_map_above t a b valid v w d c l h

    -- the kept number of the named pair is the smaller
    pub weld_keeps_smaller : (κ a ≡ min a b) × (κ b ≡ min a b)
    weld_keeps_smaller =
        let e : κ a ≡ min a b = from_the_pair_up a v (omega arith) ∙ identify_first a b in
        (e, sym x.joins ∙ e)

    -- every other cell of their dimension stays, and every cell above
    pub weld_leaves_others : (c : ℕ) → Live t c → dim t a ≤ dim t c → (c ≡ a → ⊥) → (c ≡ b → ⊥) → κ c ≡ c
    weld_leaves_others c l h n m =
        from_the_pair_up c l h
        ∙ ⊎_elim (λ e. e) (λ f. ⊎_elim (λ g. absurd (m g.1)) (λ g. absurd (n g.1)) f) (identify_way a b c)

    pub weld_leaves_above : (c : ℕ) → Live t c → dim t a < dim t c → κ c ≡ c
    weld_leaves_above c l h =
        weld_leaves_others c l (omega arith)
        (λ e. omega (arith, ap (dim t) e))
        (λ e. omega (arith, ap (dim t) e, x.congruence.level a b v w x.joins))
