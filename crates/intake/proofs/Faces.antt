-- The corners of each cell give way to its faces: the facets' numbers, and the table on the way.
-- What carries it: a facet stands before its cell, so its number is found among the records that still hold corners. Assumes nothing.
use mathlib.Core.Path.{◌≡◌, refl, sym, ap, subst, ◌∙◌}
use mathlib.Core.Logic.{⊎_elim}
use mathlib.Core.List.{List, [], ◌∷◌, Memᴰ as In}
use Prim.Native.Nat.{ℕ, zero, suc, ◌+◌, ◌-◌, ◌≤◌, ◌<◌}
use native.Mathlib.Omega.{arith}
use lib.ListN.{length, get_or, set, take, length-set}
use lib.Seq.{take_all, get_or-take, length-take-le, get_or-set_same, get_or-set_other}
use Rattle.counting.proofs.Cases.{below_or_not, same_or_not, same_or_other}
use Rattle.table.specs.Kind.{faces, free_mark, used}
use Rattle.table.specs.Table.{dim, faces_of}
use Rattle.table.specs.Records.{record_at, free_record, table_of, Alike, Stored}
use Rattle.table.proofs.Stores.{alike_then, alike_back}
use Rattle.table.proofs.Words.{length_table_of, record_table_of, table_by_records}
use Rattle.partlist.specs.Sorting.{Sorted}
use Rattle.partlist.specs.Cells.{Earlier}
use Rattle.partlist.specs.ListTable.{without, number_in, corners_at, dim_at, face_at, cell_at, list_table}
use Rattle.partlist.specs.Sweep.{Complete}
use Rattle.partlist.proofs.Sorting.{entry_in, entries_sorted, sorted_take}
use Rattle.partlist.proofs.Dictionary.{cells_tell}
use Rattle.partlist.proofs.Sweep.{facet_earlier}
use Rattle.partlist.proofs.ListTable.{Numbered, number_tells, UsedPlace, used_says, dim_live, dim_free, face_used, face_unused}
use Rattle.corners.specs.Scratch.{Packs, Holds, Kept, NumberIs, WithoutPlace}
use Rattle.corners.proofs.Removing.{facet_packs}
use Rattle.corners.proofs.Holding.{packs_alike, same_record}
use Rattle.intake.specs.Steps.{FaceNumbers, PutsFaces}

-- ---- numbers in a sorted list

module _ (cs : List (List ℕ)) (sorted : Sorted Earlier cs) where
  -- two places with the same corners are one
  one_place : (c d : ℕ) → c < length cs → d < length cs → corners_at cs c ≡ corners_at cs d → c ≡ d
  one_place c d hc hd e =
      ⊎_elim
      (λ h. absurd (cells_tell.apart (corners_at cs d) (subst (λ (x : List ℕ). Earlier x (corners_at cs d)) e (entries_sorted Earlier cs c d [] sorted h hd))))
      (λ h. ⊎_elim
      (λ k. absurd (cells_tell.apart (corners_at cs c)
      (subst (λ (x : List ℕ). Earlier x (corners_at cs c)) (sym e) (entries_sorted Earlier cs d c [] sorted k hc))))
      (λ k. omega arith)
      (below_or_not d c))
      (below_or_not c d)

  -- an earlier cell has a lower number
  earlier_lower : (c k : ℕ) → c < length cs → k < length cs → Earlier (corners_at cs k) (corners_at cs c) → k < c
  earlier_lower c k hc hk h =
      ⊎_elim
      (λ l. l)
      (λ l. ⊎_elim
      (λ e. absurd (cells_tell.apart (corners_at cs c) (subst (λ (x : ℕ). Earlier (corners_at cs x) (corners_at cs c)) (sym e) h)))
      (λ ne.
      absurd
      (cells_tell.apart (corners_at cs c)
      (cells_tell.chain (corners_at cs c) (corners_at cs k) (corners_at cs c) (entries_sorted Earlier cs c k [] sorted (omega (arith, l, ne)) hk) h)))
      (same_or_not c k))
      (below_or_not k c)

  -- a facet of cell c stands among the first c
  module _ (complete : Complete cs) (c j : ℕ) (h : c < length cs) (two : 2 ≤ length (corners_at cs c)) (place : j < length (corners_at cs c)) where
    abbrev τ : List ℕ
    τ = without j (corners_at cs c)

    facet_number : Numbered cs τ (number_in cs τ)
    facet_number = number_tells cs τ (complete.facets c j h two place)

    lower : number_in cs τ < c
    lower =
        earlier_lower c (number_in cs τ) h facet_number.inside
        (subst (λ (x : List ℕ). Earlier x (corners_at cs c)) (sym facet_number.tells) (facet_earlier j (corners_at cs c) place))

    facet_below : In (without j (corners_at cs c)) (take c cs)
    facet_below =
        subst (λ (x : List ℕ). In x (take c cs)) (get_or-take c cs (number_in cs τ) [] lower ∙ facet_number.tells)
        (entry_in (take c cs) (number_in cs τ) [] (omega (arith, lower, length-take-le c cs (omega arith))))

    number_is : (r : ℕ) → r < c → corners_at (take c cs) r ≡ without j (corners_at cs c) → r ≡ number_in cs (without j (corners_at cs c))
    number_is r l e =
        one_place r (number_in cs τ) (omega arith) facet_number.inside (sym (get_or-take c cs r [] l) ∙ e ∙ sym facet_number.tells)

-- ---- the faces of one cell

-- the first j words are faces, the others free
pub record FacesTo (t : List ℕ) (c p : ℕ) (ws fs : List ℕ) (j : ℕ) : Type 0 where
  pub long : length fs ≡ faces
  pub done :
      (cs : List (List ℕ)) → Complete cs → Sorted Earlier cs → c < length cs → Holds t (take c cs) → Packs p ws (corners_at cs c) →
      (i : ℕ) → i < j → get_or fs i 0 ≡ face_at cs c i
  pub rest : (i : ℕ) → j ≤ i → i < faces → get_or fs i 0 ≡ free_mark

module _ (t : List ℕ) (c p : ℕ) (ws : List ℕ) where
  -- the dimension of the cell whose corners stand there
  cell_dim : (cs : List (List ℕ)) → c < length cs → Packs p ws (corners_at cs c) → p ≡ dim_at cs c
  cell_dim cs h q = omega (arith, q.count, dim_live cs c h)

  module _ (fs : List ℕ) (j : ℕ) (s : FacesTo t c p ws fs j) where
    pub faces_more :
        (facet : List ℕ) (r : ℕ) → j < used p → j < faces → WithoutPlace j ws facet → NumberIs t c (p - 1) facet r →
        FacesTo t c p ws (set fs j r) (j + 1)
    faces_more facet r place small w number =
        record {
          long = length-set fs j r ∙ s.long;
          done = λ cs k o h v q i l.
              same_or_other (λ (x : ℕ). get_or (set fs j r) x 0 ≡ face_at cs c x) i j
              (get_or-set_same fs j r 0 (omega (arith, s.long)) ∙ face cs k o h v q)
              (λ ne. get_or-set_other fs j i r 0 ne ∙ s.done cs k o h v q i (omega (arith, l, ne)));
          rest = λ i h l. get_or-set_other fs j i r 0 (λ e. omega (arith, e, h)) ∙ s.rest i (omega arith) l;
        }
      where
        u : UsedPlace p j
        u = used_says p j place

        face :
            (cs :
            List (List ℕ)) → Complete cs → Sorted Earlier cs → c < length cs → Holds t (take c cs) → Packs p ws (corners_at cs c) → r ≡ face_at cs c j
        face cs k o h v q =
            let two : 2 ≤ length (corners_at cs c) = omega (arith, u.some, q.count) in
            let inside : j < length (corners_at cs c) = omega (arith, u.place, q.count) in
            let n =
            number.number (take c cs) (without j (corners_at cs c)) (length-take-le c cs (omega arith)) v
            (facet_packs p j ws facet (corners_at cs c) q u.some u.place w) (facet_below cs o k c j h two inside) in
            number_is cs o k c j h two inside r n.0 n.1
            ∙ sym (face_used cs c j (subst (λ (x : ℕ). j < used x) (cell_dim cs h q) place))

    pub faces_all : p ≡ dim t c → ws ≡ faces_of t c → used p ≤ j → FaceNumbers t c fs
    faces_all same_dim same_words_lem h =
        record {
          faced = λ cs k o l v q₀ i b.
              let q = packs_alike same_dim same_words_lem refl q₀ in
              ⊎_elim
              (s.done cs k o l v q i)
              (λ a. s.rest i a b ∙ sym (face_unused cs c i (subst (λ (x : ℕ). used x ≤ i) (cell_dim cs l q) (omega (arith, h, a)))))
              (below_or_not i j);
        }

-- ---- all cells

-- the records below c hold corners, those from c on are as they shall be
pub record FacedFrom (cs : List (List ℕ)) (room : ℕ) (t : List ℕ) (c : ℕ) : Type 0 where
  pub lower : Holds t (take c cs)
  pub upper : (d : ℕ) → c ≤ d → d < room → Alike (record_at t d) (cell_at cs d)

pub record Facing (room : ℕ) (t₀ : List ℕ) (m : ℕ) (t : List ℕ) (c : ℕ) : Type 0 where
  pub size : length t ≡ length t₀
  pub inside : c ≤ m
  pub state : (cs : List (List ℕ)) → Complete cs → length cs ≡ m → Kept room t₀ cs → FacedFrom cs room t c

-- corners that fewer records hold
holds_fewer : (t : List ℕ) (cs : List (List ℕ)) (c : ℕ) → c < length cs → Holds t (take (suc c) cs) → Holds t (take c cs)
holds_fewer t cs c h w =
    record {
      records = λ d l.
          let b : d < c = omega (arith, l, length-take-le c cs (omega arith)) in
          subst (Packs (dim t d) (faces_of t d)) (get_or-take (suc c) cs d [] (omega arith) ∙ sym (get_or-take c cs d [] b))
          (w.records d (omega (arith, b, length-take-le (suc c) cs h)));
      sorted = subst (Sorted Earlier) (take_take c cs) (sorted_take Earlier c (take (suc c) cs) w.sorted);
    }
  where
    take_take : {A : Type 0} (k : ℕ) (l : List A) → take k (take (suc k) l) ≡ take k l
    take_take zero l = refl
    take_take (suc k) [] = refl
    take_take (suc k) (a ∷ l) = ap (λ (x : List _). a ∷ x) (take_take k l)

free_cell : (cs : List (List ℕ)) (d : ℕ) → length cs ≤ d → Alike free_record (cell_at cs d)
free_cell cs d h =
    record {
      same_dim = sym (dim_free cs d h);
      same_face = λ j l. sym (face_unused cs d j (rw (dim_free cs d h) (omega arith)));
    }

pub facing_none : (room : ℕ) (t : List ℕ) (m : ℕ) → Facing room t m t m
facing_none room t m =
    record {
      size = refl;
      inside = omega arith;
      state = λ cs k e w.
          record {
            lower = subst (Holds t) (sym (take_all m cs (omega (arith, e)))) w.holds;
            upper = λ d h l. alike_then (w.free d (omega (arith, e)) l) (free_cell cs d (omega (arith, e)));
          };
    }

module _ (room : ℕ) (t₀ : List ℕ) (m : ℕ) (t : List ℕ) (c : ℕ) (s : Facing room t₀ m t c) where
  pub facing_more :
      (fs t' : List ℕ) → 0 < c → FaceNumbers t (c - 1) fs →
      Stored (c - 1) (record { dim = dim t (c - 1); face = λ j. get_or fs j 0 }) t t' → Facing room t₀ m t' (c - 1)
  facing_more fs t' some numbers st =
      record {
        size = st.size ∙ s.size;
        inside = omega (arith, s.inside);
        state = λ cs k e w. next cs k e w.holds.sorted (s.state cs k e w);
      }
    where
      above : suc (c - 1) ≡ c
      above = omega arith

      next : (cs : List (List ℕ)) → Complete cs → length cs ≡ m → Sorted Earlier cs → FacedFrom cs room t c → FacedFrom cs room t' (c - 1)
      next cs k e o f =
          record {
            lower =
                record {
                  records = λ d l.
                      let a = st.else d (λ i. omega (arith, i, l, length-take-le (c - 1) cs (omega (arith, s.inside, e)))) in
                      packs_alike a.same_dim (same_record t' d t d a) refl (held.records d l);
                  sorted = held.sorted;
                };
            upper =
                λ d l r. same_or_other (λ (x : ℕ). Alike (record_at t' x) (cell_at cs x)) d (c - 1) here
                (λ ne. alike_then (st.else d ne) (f.upper d (omega (arith, l, ne)) r));
          }
        where
          inside : c - 1 < length cs
          inside = omega (arith, s.inside, e)

          held : Holds t (take (c - 1) cs)
          held = holds_fewer t cs (c - 1) inside (subst (λ (x : ℕ). Holds t (take x cs)) (sym above) f.lower)

          packed : Packs (dim t (c - 1)) (faces_of t (c - 1)) (corners_at cs (c - 1))
          packed =
              subst (Packs (dim t (c - 1)) (faces_of t (c - 1))) (get_or-take c cs (c - 1) [] (omega arith))
              (f.lower.records (c - 1) (omega (arith, length-take-le c cs (omega (arith, s.inside, e)))))

          here : Alike (record_at t' (c - 1)) (cell_at cs (c - 1))
          here =
              alike_then st.here
              (record { same_dim = omega (arith, packed.count, dim_live cs (c - 1) inside); same_face = numbers.faced cs k o inside held packed })

  pub facing_all : c ≤ 0 → PutsFaces room t₀ m t
  unfolding list_table
  facing_all h =
      record {
        table = λ cs k e w.
            let f = s.state cs k e w in
            table_by_records t (table_of room (cell_at cs)) room (s.size ∙ w.size) (length_table_of room (cell_at cs))
            (λ d l. alike_then (f.upper d (omega arith) l) (alike_back (record_table_of room (cell_at cs) d l)));
      }
