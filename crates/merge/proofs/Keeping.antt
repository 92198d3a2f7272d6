-- A valid table renamed by a map that carries it stays valid, over any such map; the map of an accepted merge is one.
-- What carries it: a face of a face goes through the map twice, and twice is once. Assumes nothing.
use mathlib.Core.Path.{◌≡◌, ap, sym, subst, ◌∙◌}
use mathlib.Core.List.{List}
use mathlib.Core.Logic.{◌⊎◌, inl, inr, ⊎_elim}
use Prim.Native.Nat.{ℕ, suc, ◌+◌, ◌-◌, ◌≤◌, ◌<◌, min, max}
use native.Mathlib.Omega.{arith}
use Rattle.table.specs.Kind.{top, faces, free_mark, used}
use Rattle.table.specs.Table.{cells_of, dim, face, Live, Valid}
use Rattle.counting.proofs.Cases.{below_or_not, same_or_not}
use Rattle.table.proofs.Words.{table_by_records}
use Rattle.table.proofs.Places.{used_is, used_says, used_fits}
use Rattle.merge.specs.Rename.{renamed, identify}
use Rattle.merge.specs.Merge.{merged}
use Rattle.merge.proofs.Renaming.{length_renamed, cells_of_renamed, sized_renamed, dim_fixed, face_fixed, dim_moved, face_moved, live_after, live_before, fixed_where_live, identify_larger, identify_other, identify_keeps, identify_once}

-- A map carries a table when twice is once, the free mark stays, and each live cell goes to a live cell of its dimension whose
-- faces go where its own go.
pub record Carries (ρ : ℕ → ℕ) (t : List ℕ) : Type 0 where
  pub once : (c : ℕ) → ρ (ρ c) ≡ ρ c
  pub mark : ρ free_mark ≡ free_mark
  pub lives : (c : ℕ) → Live t c → Live t (ρ c)
  pub same_dim : (c : ℕ) → Live t c → dim t (ρ c) ≡ dim t c
  pub same_faces_lem : (c j : ℕ) → Live t c → j < used (dim t c) → ρ (face t (ρ c) j) ≡ ρ (face t c j)

module _ (ρ : ℕ → ℕ) (t : List ℕ) (v : Valid t) (k : Carries ρ t) where
  inside : (c : ℕ) → c < cells_of (renamed ρ t) → c < cells_of t
  inside c h = omega (arith, cells_of_renamed ρ t)

  kind : (c : ℕ) → c < cells_of (renamed ρ t) → (dim (renamed ρ t) c ≤ top) ⊎ (dim (renamed ρ t) c ≡ free_mark)
  kind c h =
      ⊎_elim
      (λ e. subst (λ d. (d ≤ top) ⊎ (d ≡ free_mark)) (sym (dim_fixed ρ t c (inside c h) e)) (v.records c (inside c h)))
      (λ n. inr (dim_moved ρ t c (inside c h) n))
      (same_or_not (ρ c) c)

  -- a used place of a live cell, before and after
  place : (c j : ℕ) → Live (renamed ρ t) c → j < used (dim (renamed ρ t) c) → j < used (dim t c)
  place c j l h = subst (λ d. j < used d) (dim_fixed ρ t c (live_before ρ t c l).inside (fixed_where_live ρ t c l)) h

  -- a used face of a live cell is the image of the old one, which is live and its own image
  face_is : (c j : ℕ) → Live (renamed ρ t) c → j < used (dim t c) → face (renamed ρ t) c j ≡ ρ (face t c j)
  face_is c j l h =
      face_fixed ρ t c j (live_before ρ t c l).inside (omega (arith, used_fits (dim t c))) (fixed_where_live ρ t c l)

  image_live : (c j : ℕ) → Live (renamed ρ t) c → j < used (dim t c) → Live (renamed ρ t) (ρ (face t c j))
  image_live c j l h =
      live_after ρ t (ρ (face t c j)) (k.lives (face t c j) (v.face_live c j (live_before ρ t c l) h)) (k.once (face t c j))

  image_dim : (c j : ℕ) → Live (renamed ρ t) c → j < used (dim t c) → dim (renamed ρ t) (ρ (face t c j)) ≡ dim t (face t c j)
  image_dim c j l h =
      dim_fixed ρ t (ρ (face t c j)) (live_before ρ t (ρ (face t c j)) (image_live c j l h)).inside (k.once (face t c j))
      ∙ k.same_dim (face t c j) (v.face_live c j (live_before ρ t c l) h)

  -- so a face of a face is the image of the old one
  face_of_face :
      (c i j : ℕ) → Live (renamed ρ t) c → i < used (dim t c) → j < used (dim t (face t c i)) →
      face (renamed ρ t) (face (renamed ρ t) c i) j ≡ ρ (face t (face t c i) j)
  face_of_face c i j l h m =
      let f : Live t (face t c i) = v.face_live c i (live_before ρ t c l) h in
      let n : j < used (dim t (ρ (face t c i))) = subst (λ d. j < used d) (sym (k.same_dim (face t c i) f)) m in
      ap (λ s. face (renamed ρ t) s j) (face_is c i l h)
      ∙ face_is (ρ (face t c i)) j (image_live c i l h) n
      ∙ k.same_faces_lem (face t c i) j f m

  -- the places that the law speaks of are used ones
  law_place :
      (c i j : ℕ) → Live t c → 2 ≤ dim t c → i ≤ dim t c → j < dim t c →
      (i < used (dim t c)) × (j < used (dim t (face t c i)))
  law_place c i j l h m n =
      let p : used (dim t c) ≡ dim t c + 1 = used_is (dim t c) (omega arith) l.low in
      let q : i < used (dim t c) = omega arith in
      let d : dim t c ≡ suc (dim t (face t c i)) = v.face_dim c i l q in
      let r : used (dim t (face t c i)) ≡ dim t (face t c i) + 1 = used_is (dim t (face t c i)) (omega arith) (omega (arith, l.low)) in
      (q, omega arith)

  law_holds :
      (c j l : ℕ) → Live (renamed ρ t) c → 2 ≤ dim (renamed ρ t) c → l < j → j ≤ dim (renamed ρ t) c →
      face (renamed ρ t) (face (renamed ρ t) c j) l ≡ face (renamed ρ t) (face (renamed ρ t) c l) (j - 1)
  law_holds c j l a h m n =
      let b : Live t c = live_before ρ t c a in
      let d : dim (renamed ρ t) c ≡ dim t c = dim_fixed ρ t c b.inside (fixed_where_live ρ t c a) in
      let h' : 2 ≤ dim t c = omega arith in
      let n' : j ≤ dim t c = omega arith in
      let first = law_place c j l b h' n' (omega arith) in
      let second = law_place c l (j - 1) b h' (omega arith) (omega arith) in
      face_of_face c j l a first.0 first.1
      ∙ ap ρ (v.law c j l b h' m n')
      ∙ sym (face_of_face c l (j - 1) a second.0 second.1)

  unused_free :
      (c j : ℕ) → c < cells_of (renamed ρ t) → used (dim (renamed ρ t) c) ≤ j → j < faces → face (renamed ρ t) c j ≡ free_mark
  unused_free c j h m l =
      ⊎_elim
      (λ e.
      face_fixed ρ t c j (inside c h) l e
      ∙ ap ρ (v.unused c j (inside c h) (subst (λ d. used d ≤ j) (dim_fixed ρ t c (inside c h) e) m) l)
      ∙ k.mark)
      (λ n. face_moved ρ t c j (inside c h) l n)
      (same_or_not (ρ c) c)

  pub renamed_keeps_valid : Valid (renamed ρ t)
  renamed_keeps_valid =
      record {
        sized = sized_renamed ρ t v.sized;
        records = kind;
        unused = unused_free;
        face_live = λ c j l h. subst (Live (renamed ρ t)) (sym (face_is c j l (place c j l h))) (image_live c j l (place c j l h));
        face_dim = λ c j l h.
            dim_fixed ρ t c (live_before ρ t c l).inside (fixed_where_live ρ t c l)
            ∙ v.face_dim c j (live_before ρ t c l) (place c j l h)
            ∙ ap suc (sym (image_dim c j l (place c j l h)))
            ∙ ap (λ s. suc (dim (renamed ρ t) s)) (sym (face_is c j l (place c j l h)));
        law = law_holds;
      }

-- A valid table stays as it is under a map that leaves its live cells and the free mark.
module _ (ρ : ℕ → ℕ) (t : List ℕ) (v : Valid t) (mark : ρ free_mark ≡ free_mark) (stays : (c : ℕ) → Live t c → ρ c ≡ c) where
  dim_stays : (c : ℕ) → c < cells_of t → dim (renamed ρ t) c ≡ dim t c
  dim_stays c h =
      ⊎_elim
      (dim_fixed ρ t c h)
      (λ n. ⊎_elim (λ l. absurd (n (stays c (record { inside = h; low = l })))) (λ e. dim_moved ρ t c h n ∙ sym e) (v.records c h))
      (same_or_not (ρ c) c)

  free_face : (c j : ℕ) → c < cells_of t → j < faces → face t c j ≡ free_mark → face (renamed ρ t) c j ≡ face t c j
  free_face c j h l e =
      ⊎_elim
      (λ f. face_fixed ρ t c j h l f ∙ ap ρ e ∙ mark ∙ sym e)
      (λ n. face_moved ρ t c j h l n ∙ sym e)
      (same_or_not (ρ c) c)

  face_stays : (c j : ℕ) → c < cells_of t → j < faces → face (renamed ρ t) c j ≡ face t c j
  face_stays c j h l =
      ⊎_elim
      (λ m.
      let a : Live t c = record { inside = h; low = (used_says (dim t c) j m).1 } in
      face_fixed ρ t c j h l (stays c a) ∙ stays (face t c j) (v.face_live c j a m))
      (λ m. free_face c j h l (v.unused c j h m l))
      (below_or_not j (used (dim t c)))

  pub renamed_stays : renamed ρ t ≡ t
  renamed_stays =
      table_by_records (renamed ρ t) t (cells_of t) (length_renamed ρ t) v.sized.whole
      (λ c h. record { same_dim = dim_stays c h; same_face = λ j l. face_stays c j h l })

-- two numbers in their order
ordered : (a b : ℕ) → ((min a b ≡ a) × (max a b ≡ b)) ⊎ ((min a b ≡ b) × (max a b ≡ a))
ordered a b = ⊎_elim (λ h. inl (omega arith, omega arith)) (λ h. inr (omega arith, omega arith)) (below_or_not a b)

-- Two live cells of one dimension with the same face words: their identification carries the table.
module _ (t : List ℕ) (a b : ℕ) (v : Valid t) (x : Live t a) (y : Live t b) (d : dim t a ≡ dim t b) (f : (j : ℕ) → j < faces → face t a j ≡ face t b j) where
  smaller_live : Live t (min a b)
  smaller_live = ⊎_elim (λ o. subst (Live t) (sym o.0) x) (λ o. subst (Live t) (sym o.0) y) (ordered a b)

  smaller_dim : dim t (min a b) ≡ dim t (max a b)
  smaller_dim =
      ⊎_elim
      (λ o. ap (dim t) o.0 ∙ d ∙ sym (ap (dim t) o.1))
      (λ o. ap (dim t) o.0 ∙ sym d ∙ sym (ap (dim t) o.1))
      (ordered a b)

  smaller_face : (j : ℕ) → j < faces → face t (min a b) j ≡ face t (max a b) j
  smaller_face j l =
      ⊎_elim
      (λ o. ap (λ s. face t s j) o.0 ∙ f j l ∙ sym (ap (λ s. face t s j) o.1))
      (λ o. ap (λ s. face t s j) o.0 ∙ sym (f j l) ∙ sym (ap (λ s. face t s j) o.1))
      (ordered a b)

  larger_goes : (c : ℕ) → c ≡ max a b → identify a b c ≡ min a b
  larger_goes c e = ap (identify a b) e ∙ identify_larger a b

  pub identify_carries : Carries (identify a b) t
  identify_carries =
      record {
        once = identify_once a b;
        mark = identify_keeps a b free_mark (omega (arith, x.inside, v.sized.room)) (omega (arith, y.inside, v.sized.room));
        lives = λ c l.
            ⊎_elim
            (λ e. subst (Live t) (sym (larger_goes c e)) smaller_live)
            (λ n. subst (Live t) (sym (identify_other a b c n)) l)
            (same_or_not c (max a b));
        same_dim = λ c l.
            ⊎_elim
            (λ e. ap (dim t) (larger_goes c e) ∙ smaller_dim ∙ sym (ap (dim t) e))
            (λ n. ap (dim t) (identify_other a b c n))
            (same_or_not c (max a b));
        same_faces_lem = λ c j l h.
            ⊎_elim
            (λ e.
            ap (λ s. identify a b (face t s j)) (larger_goes c e)
            ∙ ap (identify a b) (smaller_face j (omega (arith, used_fits (dim t c))))
            ∙ sym (ap (λ s. identify a b (face t s j)) e))
            (λ n. ap (λ s. identify a b (face t s j)) (identify_other a b c n))
            (same_or_not c (max a b));
      }

  pub merged_keeps_valid : Valid (merged t a b)
  unfolding merged
  merged_keeps_valid = renamed_keeps_valid (identify a b) t v identify_carries
