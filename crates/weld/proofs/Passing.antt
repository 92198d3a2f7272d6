-- The code's loops over places, cells and levels, turn by turn: the words hold the map that the definitions give, live cells go to
-- live cells of their dimension, and a level done leaves the levels below it to do.
-- What carries it: each definition's own step. Assumes nothing.
use mathlib.Core.Path.{◌≡◌, refl, ap, ap₂, sym, subst, ◌∙◌}
use mathlib.Core.Bool.{Bool, true, false}
use mathlib.Core.List.{List}
use Prim.Native.Nat.{ℕ, zero, suc, ◌+◌, ◌-◌, ◌≤◌, ◌<◌}
use native.Mathlib.Numerals.{add-one}
use native.Mathlib.Omega.{arith}
use lib.ListN.{get_or}
use Rattle.counting.specs.Counting.{pick}
use Rattle.table.specs.Kind.{top, used}
use Rattle.table.specs.Table.{cells_of, dim, face, Live, Valid, is_cell}
use Rattle.table.proofs.Dimensions.{cell_live, cell_dim, cell_says, other_dimension}
use Rattle.merge.specs.Writing.{Joinable}
use Rattle.weld.specs.Joins.{joined, join_places, join_cell, join_cells, join_levels, weld_map}
use Rattle.weld.specs.Maps.{map_of, Maps, Tied, Ready, Becomes}
use Rattle.weld.proofs.Joining.{joined_itself, joined_tied}
use Rattle.weld.proofs.Sending.{map_inside}

-- the same under another name of the number of cells
pub becomes_at : (n m : ℕ) (f : (ℕ → ℕ) → ℕ → ℕ) (k k' : List ℕ) → n ≡ m → Becomes n f k k' → Becomes m f k k'
becomes_at n m f k k' e b = subst (λ z. Becomes z f k k') e b

-- words that were ready are so after a step that keeps cells at their level
becomes_ready :
    (t k k' : List ℕ) (f : (ℕ → ℕ) → ℕ → ℕ) → Ready t k → Becomes (cells_of t) f k k' →
    (Tied t (map_of (cells_of t) k) → Tied t (f (map_of (cells_of t) k))) → Ready t k'
becomes_ready t k k' f r b keeps =
    record { valid = r.valid; maps = b.maps; tied = subst (Tied t) (sym b.map) (keeps r.tied) }

-- ---- the places of two cells

module _ (t : List ℕ) (c d : ℕ) where
  pub places_none : (n : ℕ) (k : List ℕ) → Maps n k → Becomes n (join_places t c d 0) k k
  unfolding join_places
  places_none n k m = record { maps = m; map = refl }

  pub places_more :
      (n j x y : ℕ) (k₀ k k' : List ℕ) → Becomes n (join_places t c d j) k₀ k → x ≡ face t c j → y ≡ face t d j →
      Becomes n (λ κ. joined κ x y) k k' → Becomes n (join_places t c d (j + 1)) k₀ k'
  unfolding join_places
  places_more n j x y k₀ k k' b ex ey f =
      record {
        maps = f.maps;
        map =
            f.map
            ∙ ap₂ (joined (map_of n k)) ex ey
            ∙ ap (λ κ. joined κ (face t c j) (face t d j)) b.map
            ∙ ap (λ i. join_places t c d i (map_of n k₀)) (sym (add-one j));
      }

  pub places_all :
      (n j u : ℕ) (k₀ k : List ℕ) → n ≡ cells_of t → u ≡ used (dim t c) → j ≤ u → u ≤ j → Becomes n (join_places t c d j) k₀ k →
      Becomes (cells_of t) (join_places t c d (used (dim t c))) k₀ k
  places_all n j u k₀ k e f h l b =
      let i : j ≡ u = omega arith in
      becomes_at n (cells_of t) (join_places t c d (used (dim t c))) k₀ k e
      (subst (λ z. Becomes n (join_places t c d z) k₀ k) (i ∙ f) b)

  module _ (valid : Valid t) (v : Live t c) (w : Live t d) (e : dim t c ≡ dim t d) where
    -- a word that is a used face of one of them names a cell
    pub face_inside : (j x : ℕ) → x ≡ face t c j → j < used (dim t c) → x < cells_of t
    face_inside j x i h = omega (arith, i, (valid.face_live c j v h).inside)

    pub other_inside : (j x : ℕ) → x ≡ face t d j → j < used (dim t c) → x < cells_of t
    other_inside j x i h = omega (arith, i, (valid.face_live d j w (subst (λ p. j < used p) e h)).inside)

    places_tied : (κ : ℕ → ℕ) → Tied t κ → (n : ℕ) → n ≤ used (dim t c) → Tied t (join_places t c d n κ)
    unfolding join_places
    places_tied κ s zero h = s
    places_tied κ s (suc n) h =
        let k : n < used (dim t d) = subst (λ p. n < used p) e h in
        joined_tied t (join_places t c d n κ) (face t c n) (face t d n) (valid.face_live c n v h) (valid.face_live d n w k)
        (omega (arith, e, valid.face_dim c n v h, valid.face_dim d n w k))
        (places_tied κ s n (omega arith))

-- a cell with itself changes nothing
places_itself : (t : List ℕ) (c n : ℕ) (κ : ℕ → ℕ) → join_places t c c n κ ≡ κ
unfolding join_places
places_itself t c zero κ = refl
places_itself t c (suc n) κ = joined_itself (join_places t c c n κ) (face t c n) ∙ places_itself t c n κ

-- ---- one cell

module _ (t : List ℕ) (q c : ℕ) where
  cell_there : (κ : ℕ → ℕ) → is_cell t q c ≡ true → join_cell t q c κ ≡ join_places t c (κ c) (used q) κ
  unfolding join_cell
  cell_there κ e = ap (λ z. pick z (join_places t c (κ c) (used q) κ) κ) e

  cell_not : (κ : ℕ → ℕ) → is_cell t q c ≡ false → join_cell t q c κ ≡ κ
  unfolding join_cell
  cell_not κ e = ap (λ z. pick z (join_places t c (κ c) (used q) κ) κ) e

  cell_tied : Valid t → (κ : ℕ → ℕ) → Tied t κ → Tied t (join_cell t q c κ)
  cell_tied valid κ s = go (is_cell t q c) refl
    where
      go : (b : Bool) → is_cell t q c ≡ b → Tied t (join_cell t q c κ)
      go true e =
          let l : Live t c = cell_live t q c e in
          let d : dim t c ≡ q = cell_dim t q c e in
          subst (Tied t) (sym (cell_there κ e))
          (places_tied t c (κ c) valid l (s.lives c l) (sym (s.level c l)) κ s (used q)
          (subst (λ p. used q ≤ used p) (sym d) (omega arith)))
      go false e = subst (Tied t) (sym (cell_not κ e)) s

  -- a record of another dimension
  pub cell_passed : (n : ℕ) (k : List ℕ) → Maps n k → (dim t c ≡ q → ⊥) → Becomes n (join_cell t q c) k k
  cell_passed n k m ne = record { maps = m; map = sym (cell_not (map_of n k) (other_dimension t c q ne)) }

  module _ (low : q ≤ top) (h : c < cells_of t) (d : dim t c ≡ q) (k : List ℕ) where
    alive : Live t c
    alive = record { inside = h; low = omega (arith, d) }

    -- a cell that is its own image
    pub cell_still : Maps (cells_of t) k → get_or k c 0 ≡ c → Becomes (cells_of t) (join_cell t q c) k k
    cell_still m e =
        let κ : ℕ → ℕ = map_of (cells_of t) k in
        record {
          maps = m;
          map =
              sym
              (cell_there (map_of (cells_of t) k) (cell_says t q c alive d)
              ∙ ap (λ z. join_places t c z (used q) (map_of (cells_of t) k)) (map_inside (cells_of t) k c h ∙ e)
              ∙ places_itself t c (used q) (map_of (cells_of t) k));
        }

    -- a cell that goes to e
    pub cell_joined :
        (e : ℕ) (k' : List ℕ) → e ≡ get_or k c 0 → Becomes (cells_of t) (join_places t c e (used (dim t c))) k k' →
        Becomes (cells_of t) (join_cell t q c) k k'
    cell_joined e k' i b =
        record {
          maps = b.maps;
          map =
              b.map
              ∙ ap₂ (λ z p. join_places t c z (used p) (map_of (cells_of t) k)) (i ∙ sym (map_inside (cells_of t) k c h)) d
              ∙ sym (cell_there (map_of (cells_of t) k) (cell_says t q c alive d));
        }

    -- where it goes is a live cell of its dimension
    pub image_there : (e : ℕ) → e ≡ get_or k c 0 → Ready t k → (Live t c) × (Live t e) × (dim t c ≡ dim t e)
    image_there e i r =
        let j : map_of (cells_of t) k c ≡ e = map_inside (cells_of t) k c h ∙ sym i in
        (alive, subst (Live t) j (r.tied.lives c alive), sym (r.tied.level c alive) ∙ ap (dim t) j)

-- ---- the cells of a dimension

module _ (t : List ℕ) (q : ℕ) where
  pub cells_none : (k : List ℕ) → Maps (cells_of t) k → Becomes (cells_of t) (join_cells t q 0) k k
  unfolding join_cells
  cells_none k m = record { maps = m; map = refl }

  pub cells_more :
      (c : ℕ) (k₀ k k' : List ℕ) → Becomes (cells_of t) (join_cells t q c) k₀ k → Becomes (cells_of t) (join_cell t q c) k k' →
      Becomes (cells_of t) (join_cells t q (c + 1)) k₀ k'
  unfolding join_cells
  cells_more c k₀ k k' b f =
      record {
        maps = f.maps;
        map =
            f.map
            ∙ ap (join_cell t q c) b.map
            ∙ ap (λ i. join_cells t q i (map_of (cells_of t) k₀)) (sym (add-one c));
      }

  pub cells_all :
      (n c : ℕ) (k₀ k : List ℕ) → n ≡ cells_of t → c ≤ n → n ≤ c → Becomes (cells_of t) (join_cells t q c) k₀ k →
      Becomes (cells_of t) (join_cells t q (cells_of t)) k₀ k
  cells_all n c k₀ k e h l b =
      let i : c ≡ cells_of t = omega (arith, e) in
      subst (λ z. Becomes (cells_of t) (join_cells t q z) k₀ k) i b

  cells_tied : Valid t → (κ : ℕ → ℕ) → Tied t κ → (n : ℕ) → Tied t (join_cells t q n κ)
  unfolding join_cells
  cells_tied valid κ s zero = s
  cells_tied valid κ s (suc n) = cell_tied t q n valid (join_cells t q n κ) (cells_tied valid κ s n)

  pub cells_ready : (c : ℕ) (k₀ k : List ℕ) → Ready t k₀ → Becomes (cells_of t) (join_cells t q c) k₀ k → Ready t k
  cells_ready c k₀ k r b = becomes_ready t k₀ k (join_cells t q c) r b (λ s. cells_tied r.valid (map_of (cells_of t) k₀) s c)

-- ---- the dimensions

-- a level done
pub levels_more :
    (t : List ℕ) (q : ℕ) (k k' : List ℕ) → 0 < q → Becomes (cells_of t) (join_cells t q (cells_of t)) k k' →
    join_levels t (q - 1) (map_of (cells_of t) k') ≡ join_levels t q (map_of (cells_of t) k)
unfolding join_levels
levels_more t zero k k' h b = absurd (omega arith)
levels_more t (suc q) k k' h b =
    let i : suc q - 1 ≡ q = omega arith in
    ap (λ p. join_levels t p (map_of (cells_of t) k')) i ∙ ap (join_levels t q) b.map

pub levels_all :
    (t : List ℕ) (p q : ℕ) (k₀ k : List ℕ) → q ≤ 0 → Maps (cells_of t) k →
    join_levels t q (map_of (cells_of t) k) ≡ join_levels t p (map_of (cells_of t) k₀) → Becomes (cells_of t) (join_levels t p) k₀ k
unfolding join_levels
levels_all t p q k₀ k h m e =
    let i : 0 ≡ q = omega arith in
    record { maps = m; map = ap (λ z. join_levels t z (map_of (cells_of t) k)) i ∙ e }

-- ---- the whole

-- the two cells joined, and nothing else yet
pub pair_ready :
    (t : List ℕ) (a b : ℕ) (k k₀ k₁ : List ℕ) → Joinable t a b → Becomes (cells_of t) (λ κ c. c) k k₀ →
    Becomes (cells_of t) (λ κ. joined κ a b) k₀ k₁ → Ready t k₁
pair_ready t a b k k₀ k₁ w e f =
    record {
      valid = w.valid;
      maps = f.maps;
      tied =
          subst (Tied t) (sym (f.map ∙ ap (λ κ. joined κ a b) e.map))
          (joined_tied t (λ c. c) a b w.first w.second w.same_dim (record { lives = λ c l. l; level = λ c l. refl }));
    }

-- all levels done
pub levels_weld :
    (t : List ℕ) (a b p : ℕ) (k k₀ k₁ k₂ : List ℕ) → p ≡ dim t a → Becomes (cells_of t) (λ κ c. c) k k₀ →
    Becomes (cells_of t) (λ κ. joined κ a b) k₀ k₁ → Becomes (cells_of t) (join_levels t p) k₁ k₂ →
    Becomes (cells_of t) (λ κ. weld_map t a b) k k₂
unfolding weld_map
levels_weld t a b p k k₀ k₁ k₂ d e f g =
    record {
      maps = g.maps;
      map =
          g.map
          ∙ ap (λ z. join_levels t z (map_of (cells_of t) k₁)) d
          ∙ ap (join_levels t (dim t a)) (f.map ∙ ap (λ κ. joined κ a b) e.map);
    }
