-- The joins of a weld, place by place, cell by cell and level by level: they keep the invariant, and once dimension q is done each
-- cell from q on has its faces joined with those of its image.
-- What carries it: joins at dimension q only join, and only there. Assumes nothing.
use mathlib.Core.Path.{◌≡◌, refl, ap, sym, subst, ◌∙◌}
use mathlib.Core.Bool.{Bool, true, false}
use mathlib.Core.List.{List}
use mathlib.Core.Logic.{⊎_elim}
use Prim.Native.Nat.{ℕ, zero, suc, ◌≤◌, ◌<◌}
use native.Mathlib.Omega.{arith}
use Rattle.counting.specs.Counting.{pick}
use Rattle.table.specs.Kind.{used}
use Rattle.table.specs.Table.{cells_of, dim, face, Live, Valid, is_cell}
use Rattle.counting.proofs.Cases.{same_or_not}
use Rattle.table.proofs.Dimensions.{cell_live, cell_dim, cell_says}
use Rattle.weld.specs.Joins.{joined, join_places, join_cell, join_cells, join_levels}
use Rattle.weld.proofs.Joining.{Meant, Sound, After, after_nothing, after_both, joined_joins, joined_coarser, joined_sound, joined_after}

-- joins at dimension q that keep the invariant
pub record Stage (t : List ℕ) (a b q : ℕ) (κ μ : ℕ → ℕ) : Type 1 where
  pub sound : Sound t a b μ
  pub after : After t q κ μ

-- each cell above dimension r has its faces joined with those of its image
abbrev pub Complete : List ℕ → (ℕ → ℕ) → ℕ → Type 0
Complete t κ r = (c j : ℕ) → Live t c → r < dim t c → j < used (dim t c) → κ (face t c j) ≡ κ (face t (κ c) j)

module _ (t : List ℕ) (a b q : ℕ) where
  stage_nothing : (κ : ℕ → ℕ) → Sound t a b κ → Stage t a b q κ κ
  stage_nothing κ s = record { sound = s; after = after_nothing t q κ }

  stage_both : (κ μ ν : ℕ → ℕ) → Stage t a b q κ μ → Stage t a b q μ ν → Stage t a b q κ ν
  stage_both κ μ ν f g = record { sound = g.sound; after = after_both t q κ μ ν f.after g.after }

  stage_join :
      (κ μ : ℕ → ℕ) (x y : ℕ) → Stage t a b q κ μ → Live t x → Live t y → dim t x ≡ q → dim t y ≡ q → Meant t a b x y →
      Stage t a b q κ (joined μ x y)
  stage_join κ μ x y g v w d e m =
      record {
        sound = joined_sound t a b μ g.sound x y v w (d ∙ sym e) m;
        after = after_both t q κ μ (joined μ x y) g.after (joined_after t a b μ g.sound x y v w (d ∙ sym e) q d);
      }

  -- the faces of two cells of dimension q + 1 that are meant to be together
  module _ (valid : Valid t) (c d : ℕ) (v : Live t c) (w : Live t d) (dc : dim t c ≡ suc q) (dd : dim t d ≡ suc q) (m : Meant t a b c d) where
    face_level : (x j : ℕ) → Live t x → dim t x ≡ suc q → j < used (dim t x) → dim t (face t x j) ≡ q
    face_level x j l e h = omega (arith, valid.face_dim x j l h)

    places_stage : (κ : ℕ → ℕ) → Sound t a b κ → (n : ℕ) → n ≤ used (dim t c) → Stage t a b q κ (join_places t c d n κ)
    unfolding join_places
    places_stage κ s zero h = stage_nothing κ s
    places_stage κ s (suc n) h =
        let k : n < used (dim t d) = subst (λ p. n < used p) (dc ∙ sym dd) h in
        stage_join κ (join_places t c d n κ) (face t c n) (face t d n) (places_stage κ s n (omega arith))
        (valid.face_live c n v h) (valid.face_live d n w k)
        (face_level c n v dc h) (face_level d n w dd k)
        (λ R g r. g.carried c d n v w (m R g r) h)

    places_join :
        (κ : ℕ → ℕ) (n j : ℕ) → j < n → join_places t c d n κ (face t c j) ≡ join_places t c d n κ (face t d j)
    unfolding join_places
    places_join κ zero j h = absurd (omega arith)
    places_join κ (suc n) j h =
        ⊎_elim
        (λ e. subst (λ i. last n (face t c i) ≡ last n (face t d i)) (sym e) (joined_joins (join_places t c d n κ) (face t c n) (face t d n)))
        (λ m. joined_coarser (join_places t c d n κ) (face t c n) (face t d n) (face t c j) (face t d j)
        (places_join κ n j (omega (arith, m))))
        (same_or_not j n)
      where
        last : ℕ → ℕ → ℕ
        last i = joined (join_places t c d i κ) (face t c i) (face t d i)

  -- one cell with its image
  module _ (valid : Valid t) (κ : ℕ → ℕ) (s : Sound t a b κ) (c : ℕ) where
    turned_meant : Live t c → Meant t a b c (κ c)
    turned_meant l R g r = g.turned (κ c) c (s.tied.lives c l) l (s.meant c l R g r)

    abbrev there : ℕ → ℕ
    there = join_places t c (κ c) (used (suc q)) κ

    cell_there : is_cell t (suc q) c ≡ true → join_cell t (suc q) c κ ≡ there
    unfolding join_cell
    cell_there e = ap (λ z. pick z there κ) e

    cell_not : is_cell t (suc q) c ≡ false → join_cell t (suc q) c κ ≡ κ
    unfolding join_cell
    cell_not e = ap (λ z. pick z there κ) e

    cell_stage : Stage t a b q κ (join_cell t (suc q) c κ)
    cell_stage = go (is_cell t (suc q) c) refl
      where
        go : (z : Bool) → is_cell t (suc q) c ≡ z → Stage t a b q κ (join_cell t (suc q) c κ)
        go true e =
            let l : Live t c = cell_live t (suc q) c e in
            let d : dim t c ≡ suc q = cell_dim t (suc q) c e in
            subst (Stage t a b q κ) (sym (cell_there e))
            (places_stage valid c (κ c) l (s.tied.lives c l) d (s.tied.level c l ∙ d) (turned_meant l) κ s (used (suc q))
            (subst (λ p. used (suc q) ≤ used p) (sym d) (omega arith)))
        go false e = subst (Stage t a b q κ) (sym (cell_not e)) (stage_nothing κ s)

    cell_joins :
        (j : ℕ) → Live t c → dim t c ≡ suc q → j < used (dim t c) →
        join_cell t (suc q) c κ (face t c j) ≡ join_cell t (suc q) c κ (face t (κ c) j)
    cell_joins j l d h =
        subst (λ (μ : ℕ → ℕ). μ (face t c j) ≡ μ (face t (κ c) j)) (sym (cell_there (cell_says t (suc q) c l d)))
        (places_join valid c (κ c) l (s.tied.lives c l) d (s.tied.level c l ∙ d) (turned_meant l) κ (used (suc q)) j
        (subst (λ p. j < used p) d h))

  -- the cells below n
  module _ (valid : Valid t) (κ : ℕ → ℕ) (s : Sound t a b κ) where
    cells_stage : (n : ℕ) → Stage t a b q κ (join_cells t (suc q) n κ)
    unfolding join_cells
    cells_stage zero = stage_nothing κ s
    cells_stage (suc n) =
        stage_both κ (join_cells t (suc q) n κ) (join_cell t (suc q) n (join_cells t (suc q) n κ)) (cells_stage n)
        (cell_stage valid (join_cells t (suc q) n κ) (cells_stage n).sound n)

    cells_join :
        (n c j : ℕ) → c < n → Live t c → dim t c ≡ suc q → j < used (dim t c) →
        join_cells t (suc q) n κ (face t c j) ≡ join_cells t (suc q) n κ (face t (κ c) j)
    unfolding join_cells
    cells_join zero c j h l d k = absurd (omega arith)
    cells_join (suc n) c j h l d k =
        ⊎_elim
        (λ e.
        subst (λ z. at z (face t c j) ≡ at z (face t (κ c) j)) e
        (cell_joins valid (join_cells t (suc q) n κ) (cells_stage n).sound c j l d k
        ∙ ap (λ z. at c (face t z j)) ((cells_stage n).after.elsewhere c l (λ i. omega (arith, i, d)))))
        (λ m.
        (cell_stage valid (join_cells t (suc q) n κ) (cells_stage n).sound n).after.coarser (face t c j) (face t (κ c) j)
        (cells_join n c j (omega (arith, m)) l d k))
        (same_or_not c n)
      where
        at : ℕ → ℕ → ℕ
        at z = join_cell t (suc q) z (join_cells t (suc q) n κ)

    -- a level done: what was complete above q + 1 is complete above q
    level_complete : Complete t κ (suc q) → Complete t (join_cells t (suc q) (cells_of t) κ) q
    level_complete done c j l h k =
        let g : Stage t a b q κ (join_cells t (suc q) (cells_of t) κ) = cells_stage (cells_of t) in
        ⊎_elim
        (λ e. cells_join (cells_of t) c j l.inside l e k)
        (λ n. g.after.coarser (face t c j) (face t (κ c) j) (done c j l (omega (arith, n)) k))
        (same_or_not (dim t c) (suc q))
        ∙ ap (λ z. join_cells t (suc q) (cells_of t) κ (face t z j)) (sym (g.after.elsewhere c l (λ i. omega (arith, i))))

-- all levels from q down
pub record Levelled (t : List ℕ) (a b q : ℕ) (κ μ : ℕ → ℕ) : Type 1 where
  pub sound : Sound t a b μ
  pub complete : Complete t μ 0
  pub coarser : (c d : ℕ) → κ c ≡ κ d → μ c ≡ μ d
  pub above : (c : ℕ) → Live t c → q ≤ dim t c → μ c ≡ κ c

pub levels : (t : List ℕ) (a b q : ℕ) → Valid t → (κ : ℕ → ℕ) → Sound t a b κ → Complete t κ q → Levelled t a b q κ (join_levels t q κ)
unfolding join_levels
levels t a b zero valid κ s k = record { sound = s; complete = k; coarser = λ c d e. e; above = λ c l h. refl }
levels t a b (suc q) valid κ s k =
    let g : Stage t a b q κ (join_cells t (suc q) (cells_of t) κ) = cells_stage t a b q valid κ s (cells_of t) in
    let r = levels t a b q valid (join_cells t (suc q) (cells_of t) κ) g.sound (level_complete t a b q valid κ s k) in
    record {
      sound = r.sound;
      complete = r.complete;
      coarser = λ c d e. r.coarser c d (g.after.coarser c d e);
      above = λ c l h. r.above c l (omega arith) ∙ g.after.elsewhere c l (λ i. omega (arith, i));
    }
