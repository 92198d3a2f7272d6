-- The table of the cells of a part list: cell c has the corners of entry c, face j is the entry without corner j, and the table is valid.
-- What carries it: every facet of an entry is an entry, and an entry's number tells it. Assumes nothing.
use mathlib.Core.Path.{◌≡◌, refl, sym, ap, subst, ◌∙◌}
use mathlib.Core.Bool.{Bool, true, false}
use mathlib.Core.Logic.{◌⊎◌, inl, inr, ⊎_elim}
use mathlib.Core.List.Memᴰ.{cases_cons as in_cases}
use mathlib.Core.List.Memᴰ.{not-nil as in_nil}
use mathlib.Core.List.{List, [], ◌∷◌, Memᴰ as In}
use Prim.Native.Nat.{ℕ, zero, suc, ◌+◌, ◌-◌, ◌≤◌, ◌<◌}
use native.Mathlib.Omega.{arith}
use borrow.Author.Tests.{eqb-false, leb-true, lt-ltb, le-ltb, le-leb, ne_eqb}
use lib.Dec.{leb, eqb}
use lib.ListN.{length}
use Rattle.counting.specs.Counting.{pick}
use Rattle.counting.proofs.Cases.{below_or_not}
use Rattle.table.specs.Kind.{capacity, top, faces, free_mark, used}
use Rattle.table.specs.Table.{cells_of, dim, face, Live, Valid}
use Rattle.table.specs.Records.{table_of}
use Rattle.table.proofs.Words.{length_table_of, cells_of_table_of, dim_table_of, face_table_of}
use Rattle.partlist.specs.Text.{AllLines}
use Rattle.partlist.specs.Sorting.{Compared, less, same, more}
use Rattle.partlist.specs.Cells.{compared_cells, IsCell, cell_list}
use Rattle.partlist.specs.ListTable.{without, is_same, number_in, corners_at, dim_at, face_at, cell_at, list_table}
use Rattle.partlist.specs.Sweep.{Complete}
use Rattle.partlist.proofs.Sorting.{entry_in}
use Rattle.partlist.proofs.Dictionary.{cells_tell}
use Rattle.partlist.proofs.Without.{without_length, without_twice}
use Rattle.partlist.proofs.CellList.{entries_are_cells, cells_are_entries, facet_cell, cell_size}

-- a cell compared with itself
compared_self : (σ : List ℕ) → compared_cells σ σ ≡ same
compared_self σ = go (compared_cells σ σ) refl
  where
    go : (x : Compared) → compared_cells σ σ ≡ x → x ≡ same
    go less e = absurd (cells_tell.apart σ (cells_tell.on_less σ σ e))
    go same e = refl
    go more e = absurd (cells_tell.apart σ (cells_tell.on_more σ σ e))

-- an entry's number is below the length, and tells the entry
pub record Numbered (cs : List (List ℕ)) (σ : List ℕ) (c : ℕ) : Type 0 where
  pub inside : c < length cs
  pub tells : corners_at cs c ≡ σ

pub number_tells : (cs : List (List ℕ)) (σ : List ℕ) → In σ cs → Numbered cs σ (number_in cs σ)
unfolding number_in
number_tells [] σ m = absurd (in_nil m)
number_tells (c ∷ cs) σ m = go (compared_cells σ c) refl (in_cases m) (number_tells cs σ)
  where
    later : Numbered cs σ (number_in cs σ) → Numbered (c ∷ cs) σ (suc (number_in cs σ))
    later w = record { inside = omega (arith, w.inside); tells = w.tells }

    another : (x : Compared) → compared_cells σ c ≡ x → (x ≡ same → ⊥) → (σ ≡ c) ⊎ In σ cs → In σ cs
    another x e ne (inl i) = absurd (ne (sym e ∙ ap (compared_cells σ) (sym i) ∙ compared_self σ))
    another x e ne (inr k) = k

    go :
        (x : Compared) → compared_cells σ c ≡ x → (σ ≡ c) ⊎ In σ cs → (In σ cs → Numbered cs σ (number_in cs σ)) →
        Numbered (c ∷ cs) σ (pick (is_same x) 0 (suc (number_in cs σ)))
    go less e k i = later (i (another less e (λ z. let y : ◌≡◌ {A = ℕ} 0 1 = cc in omega arith) k))
    go same e k i = record { inside = omega arith; tells = sym (cells_tell.on_same σ c e) }
    go more e k i = later (i (another more e (λ z. let y : ◌≡◌ {A = ℕ} 0 1 = cc in omega arith) k))

-- a used place: the cell is no point, and the place is at most the dimension
pub record UsedPlace (p j : ℕ) : Type 0 where
  pub some : 1 ≤ p
  pub low : p ≤ top
  pub place : j ≤ p

pub used_says : (p j : ℕ) → j < used p → UsedPlace p j
used_says p j h = go (eqb p 0) refl (leb p top) refl h
  where
    go : (x : Bool) → eqb p 0 ≡ x → (y : Bool) → leb p top ≡ y → j < pick x 0 (pick y (p + 1) 0) → UsedPlace p j
    go true e y i k = absurd (omega arith)
    go false e true i k = record { some = omega (arith, eqb-false p 0 e); low = leb-true p top i; place = omega arith }
    go false e false i k = absurd (omega arith)

pub says_used : (p j : ℕ) → 1 ≤ p → p ≤ top → j ≤ p → j < used p
says_used p j h k l = rw (ne_eqb p 0 (λ e. omega arith), le-leb p top k) (omega arith)

pub dim_live : (cs : List (List ℕ)) (c : ℕ) → c < length cs → dim_at cs c ≡ length (corners_at cs c) - 1
unfolding dim_at
dim_live cs c h = rw (lt-ltb c (length cs) h)

pub dim_free : (cs : List (List ℕ)) (c : ℕ) → length cs ≤ c → dim_at cs c ≡ free_mark
unfolding dim_at
dim_free cs c h = rw (le-ltb c (length cs) h)

pub face_used : (cs : List (List ℕ)) (c j : ℕ) → j < used (dim_at cs c) → face_at cs c j ≡ number_in cs (without j (corners_at cs c))
unfolding face_at
face_used cs c j h = rw (lt-ltb j (used (dim_at cs c)) h)

pub face_unused : (cs : List (List ℕ)) (c j : ℕ) → used (dim_at cs c) ≤ j → face_at cs c j ≡ free_mark
unfolding face_at
face_unused cs c j h = rw (le-ltb j (used (dim_at cs c)) h)

module _ (cs : List (List ℕ)) (complete : Complete cs) where
  -- a record with a dimension is an entry
  live_entry : (c : ℕ) → dim_at cs c ≤ top → c < length cs
  live_entry c h = ⊎_elim (λ l. l) (λ l. absurd (omega (arith, dim_free cs c l))) (below_or_not c (length cs))

  pub low_dim : (c : ℕ) → c < length cs → dim_at cs c ≤ top
  low_dim c h = omega (arith, dim_live cs c h, complete.most c h)

  pub corners_count : (c : ℕ) → c < length cs → length (corners_at cs c) ≡ suc (dim_at cs c)
  corners_count c h = omega (arith, dim_live cs c h, complete.some c h)

  -- face j is the entry without corner j
  pub face_tells : (c j : ℕ) → c < length cs → j < used (dim_at cs c) → Numbered cs (without j (corners_at cs c)) (face_at cs c j)
  face_tells c j h l =
      let u = used_says (dim_at cs c) j l in
      rw (face_used cs c j l)
      (number_tells cs (without j (corners_at cs c))
      (complete.facets c j h (omega (arith, corners_count c h, u.some)) (omega (arith, corners_count c h, u.place))))

  pub face_down : (c j : ℕ) → c < length cs → j < used (dim_at cs c) → dim_at cs c ≡ suc (dim_at cs (face_at cs c j))
  face_down c j h l =
      let w = face_tells c j h l in
      let u = used_says (dim_at cs c) j l in
      let e : length (corners_at cs (face_at cs c j)) ≡ length (without j (corners_at cs c)) = ap length w.tells in
      omega (
        arith,
        e,
        without_length j (corners_at cs c) (omega (arith, corners_count c h, u.place)),
        corners_count c h,
        corners_count
            (face_at cs c j) w.inside,
      )

  two_faces : (c j l : ℕ) → c < length cs → (hj : j < used (dim_at cs c)) → l < used (dim_at cs (face_at cs c j)) →
      face_at cs (face_at cs c j) l ≡ number_in cs (without l (without j (corners_at cs c)))
  two_faces c j l h hj hl =
      face_used cs (face_at cs c j) l hl ∙ ap (λ (τ : List ℕ). number_in cs (without l τ)) (face_tells c j h hj).tells

  -- face l of face j + 1 is face j of face l
  pub law_holds : (c j l : ℕ) → c < length cs → 2 ≤ dim_at cs c → l ≤ j → suc j ≤ dim_at cs c →
      face_at cs (face_at cs c (suc j)) l ≡ face_at cs (face_at cs c l) j
  law_holds c j l h two hl hj =
      let uj : suc j < used (dim_at cs c) = says_used (dim_at cs c) (suc j) (omega arith) (low_dim c h) hj in
      let ul : l < used (dim_at cs c) = says_used (dim_at cs c) l (omega arith) (low_dim c h) (omega arith) in
      let dj = face_down c (suc j) h uj in
      let dl = face_down c l h ul in
      let lj = low_dim (face_at cs c (suc j)) (face_tells c (suc j) h uj).inside in
      let ll = low_dim (face_at cs c l) (face_tells c l h ul).inside in
      two_faces c (suc j) l h uj (says_used (dim_at cs (face_at cs c (suc j))) l (omega (arith, dj)) lj (omega (arith, dj)))
      ∙ ap (number_in cs) (without_twice l j (corners_at cs c) hl)
      ∙ sym (two_faces c l j h ul (says_used (dim_at cs (face_at cs c l)) j (omega (arith, dl)) ll (omega (arith, dl))))

  module _ (n : ℕ) (some : 1 ≤ n) (room : n ≤ capacity) (fits : length cs ≤ n) where
    abbrev t : List ℕ
    t = table_of n (cell_at cs)

    cells : cells_of t ≡ n
    cells = cells_of_table_of n (cell_at cs)

    pub dim_at_lem : (c : ℕ) → c < n → dim t c ≡ dim_at cs c
    dim_at_lem c h = dim_table_of n (cell_at cs) c h

    pub face_at_lem : (c j : ℕ) → c < n → j < faces → face t c j ≡ face_at cs c j
    face_at_lem c j h l = face_table_of n (cell_at cs) c j h l

    pub entry : (c : ℕ) → Live t c → c < length cs
    entry c l = live_entry c (omega (arith, l.low, dim_at_lem c (omega (arith, l.inside, cells))))

    pub used_here : (c j : ℕ) → c < n → j < used (dim t c) → j < used (dim_at cs c)
    used_here c j h l = subst (λ (p : ℕ). j < used p) (dim_at_lem c h) l

    pub place_small : (c j : ℕ) → j < used (dim_at cs c) → j < faces
    place_small c j l = let u = used_says (dim_at cs c) j l in omega (arith, u.low, u.place)

    pub entry_live : (c : ℕ) → c < length cs → Live t c
    entry_live c h = record { inside = omega (arith, cells); low = omega (arith, dim_at_lem c (omega arith), low_dim c h) }

    face_live : (c j : ℕ) → Live t c → j < used (dim t c) → Live t (face t c j)
    face_live c j l u =
        let h : c < n = omega (arith, l.inside, cells) in
        let i = used_here c j h u in
        rw (face_at_lem c j h (place_small c j i)) (entry_live (face_at cs c j) (face_tells c j (entry c l) i).inside)

    face_dim : (c j : ℕ) → Live t c → j < used (dim t c) → dim t c ≡ suc (dim t (face t c j))
    face_dim c j l u =
        let h : c < n = omega (arith, l.inside, cells) in
        let i = used_here c j h u in
        let w : face_at cs c j < n = omega (arith, (face_tells c j (entry c l) i).inside) in
        rw (face_at_lem c j h (place_small c j i))
        (dim_at_lem c h ∙ face_down c j (entry c l) i ∙ ap suc (sym (dim_at_lem (face_at cs c j) w)))

    face_of_face : (c j l : ℕ) → Live t c → 2 ≤ dim t c → j ≤ dim t c → l < dim t c → face t (face t c j) l ≡ face_at cs (face_at cs c j) l
    face_of_face c j l live two hj hl =
        let h : c < n = omega (arith, live.inside, cells) in
        let e = dim_at_lem c h in
        let u : j < used (dim_at cs c) = says_used (dim_at cs c) j (omega (arith, e)) (low_dim c (entry c live)) (omega (arith, e)) in
        let w : face_at cs c j < n = omega (arith, (face_tells c j (entry c live) u).inside) in
        rw (face_at_lem c j h (place_small c j u)) (face_at_lem (face_at cs c j) l w (omega (arith, low_dim c (entry c live), e)))

    law : (c j l : ℕ) → Live t c → 2 ≤ dim t c → l < j → j ≤ dim t c → face t (face t c j) l ≡ face t (face t c l) (j - 1)
    law c zero l live two hl hj = absurd (omega arith)
    law c (suc j) l live two hl hj =
        let e = dim_at_lem c (omega (arith, live.inside, cells)) in
        let d : suc j - 1 ≡ j = omega arith in
        face_of_face c (suc j) l live two hj (omega arith)
        ∙ law_holds c j l (entry c live) (omega (arith, e)) (omega arith) (omega (arith, e))
        ∙ sym (face_of_face c l j live two (omega arith) (omega arith))
        ∙ ap (face t (face t c l)) (sym d)

    table_valid : Valid t
    table_valid =
        record {
          sized = record { whole = omega (arith, length_table_of n (cell_at cs)); some = omega (arith, cells); room = omega (arith, cells) };
          records = λ c h.
              ⊎_elim
              (λ l. inl (omega (arith, dim_at_lem c (omega (arith, cells)), low_dim c l)))
              (λ l. inr (dim_at_lem c (omega (arith, cells)) ∙ dim_free cs c l))
              (below_or_not c (length cs));
          unused = λ c j h u l.
              face_at_lem c j (omega (arith, cells)) l
              ∙ face_unused cs c j (subst (λ (p : ℕ). used p ≤ j) (dim_at_lem c (omega (arith, cells))) u);
          face_live = face_live;
          face_dim = face_dim;
          law = law;
        }

-- the cells of a part list with lines of at most 7 numbers
pub list_complete : (n : ℕ) (ls : List (List ℕ)) → AllLines ls → Complete (cell_list n ls)
list_complete n ls h =
    record {
      some = λ c l. (cell c l).some;
      most = λ c l. cell_size n ls (corners_at (cell_list n ls) c) h (cell c l);
      facets =
          λ c j l two k. cells_are_entries n ls (without j (corners_at (cell_list n ls) c))
          (facet_cell n ls (corners_at (cell_list n ls) c) j (cell c l) two k);
    }
  where
    cell : (c : ℕ) → c < length (cell_list n ls) → IsCell n ls (corners_at (cell_list n ls) c)
    cell c l = entries_are_cells n ls (corners_at (cell_list n ls) c) (entry_in (cell_list n ls) c [] l)

-- the table of a part list that has room in N records is valid
pub list_table_valid :
    (m n : ℕ) (ls : List (List ℕ)) → AllLines ls → 1 ≤ m → m ≤ capacity → length (cell_list n ls) ≤ m → Valid (list_table m (cell_list n ls))
unfolding list_table
list_table_valid m n ls h some room fits = table_valid (cell_list n ls) (list_complete n ls h) m some room fits

-- face j of cell c has the corners of c without place j
pub list_face : (n : ℕ) (ls : List (List ℕ)) → AllLines ls → (c j : ℕ) → c < length (cell_list n ls) → j < used (dim_at (cell_list n ls) c) →
    Numbered (cell_list n ls) (without j (corners_at (cell_list n ls) c)) (face_at (cell_list n ls) c j)
list_face n ls h c j l u = face_tells (cell_list n ls) (list_complete n ls h) c j l u
