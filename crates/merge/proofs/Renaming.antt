-- Laws of a table renamed by a map, over any map: its size, its dimensions, its faces and its live cells; and the map of an
-- identification. What carries them: a table is written down record by record. Assumes nothing.
use mathlib.Core.Path.{◌≡◌, refl, ap, ap₂, sym, ◌∙◌, fun_ext}
use mathlib.Core.List.{List}
use mathlib.Core.Logic.{⊎_elim}
use Prim.Native.Nat.{ℕ, ◌*◌, ◌<◌, min, max}
use native.Mathlib.Nat.{min_comm, max_comm}
use native.Mathlib.Omega.{arith}
use borrow.Author.Tests.{eq-eqb, ne_eqb}
use lib.ListN.{length}
use lib.Dec.{eqb}
use Rattle.counting.specs.Counting.{pick}
use Rattle.table.specs.Kind.{faces, width, free_mark}
use Rattle.table.specs.Table.{cells_of, dim, face, Sized, Live}
use Rattle.table.specs.Records.{Record, free_record}
use Rattle.counting.proofs.Cases.{same_or_not}
use Rattle.table.proofs.Words.{length_table_of, cells_of_table_of, dim_table_of, face_table_of, table_by_records}
use Rattle.merge.specs.Rename.{renamed, identify}

module _ (ρ : ℕ → ℕ) (t : List ℕ) where
  abbrev kept : ℕ → Record
  kept c = pick (eqb (ρ c) c) (record { dim = dim t c; face = λ j. ρ (face t c j) }) free_record

  pub length_renamed : length (renamed ρ t) ≡ cells_of t * width
  unfolding renamed
  length_renamed = length_table_of (cells_of t) kept

  pub cells_of_renamed : cells_of (renamed ρ t) ≡ cells_of t
  unfolding renamed
  cells_of_renamed = cells_of_table_of (cells_of t) kept

  pub sized_renamed : Sized t → Sized (renamed ρ t)
  sized_renamed s =
      let e = cells_of_renamed in
      record {
        whole = length_renamed ∙ ap (λ n. n * width) (sym e);
        some = omega (arith, e, s.some);
        room = omega (arith, e, s.room);
      }

  dim_renamed : (c : ℕ) → c < cells_of t → dim (renamed ρ t) c ≡ (kept c).dim
  unfolding renamed
  dim_renamed c h = dim_table_of (cells_of t) kept c h

  face_renamed : (c j : ℕ) → c < cells_of t → j < faces → face (renamed ρ t) c j ≡ (kept c).face j
  unfolding renamed
  face_renamed c j h l = face_table_of (cells_of t) kept c j h l

  -- a cell that is its own image keeps its dimension, and its faces go through the map
  pub dim_fixed : (c : ℕ) → c < cells_of t → ρ c ≡ c → dim (renamed ρ t) c ≡ dim t c
  dim_fixed c h e = dim_renamed c h ∙ simp (eq-eqb (ρ c) c e)

  pub face_fixed : (c j : ℕ) → c < cells_of t → j < faces → ρ c ≡ c → face (renamed ρ t) c j ≡ ρ (face t c j)
  face_fixed c j h l e = face_renamed c j h l ∙ simp (eq-eqb (ρ c) c e)

  -- any other record is free
  pub dim_moved : (c : ℕ) → c < cells_of t → (ρ c ≡ c → ⊥) → dim (renamed ρ t) c ≡ free_mark
  dim_moved c h e = dim_renamed c h ∙ simp (ne_eqb (ρ c) c e)

  pub face_moved : (c j : ℕ) → c < cells_of t → j < faces → (ρ c ≡ c → ⊥) → face (renamed ρ t) c j ≡ free_mark
  face_moved c j h l e = face_renamed c j h l ∙ simp (ne_eqb (ρ c) c e)

  -- so the live cells are those that were live and are their own image
  pub live_after : (c : ℕ) → Live t c → ρ c ≡ c → Live (renamed ρ t) c
  live_after c v e =
      record { inside = omega (arith, cells_of_renamed, v.inside); low = omega (arith, dim_fixed c v.inside e, v.low) }

  pub fixed_where_live : (c : ℕ) → Live (renamed ρ t) c → ρ c ≡ c
  fixed_where_live c v =
      let h : c < cells_of t = omega (arith, cells_of_renamed, v.inside) in
      ⊎_elim (λ e. e) (λ n. absurd (omega (arith, dim_moved c h n, v.low))) (same_or_not (ρ c) c)

  pub live_before : (c : ℕ) → Live (renamed ρ t) c → Live t c
  live_before c v =
      let h : c < cells_of t = omega (arith, cells_of_renamed, v.inside) in
      record { inside = h; low = omega (arith, dim_fixed c h (fixed_where_live c v), v.low) }

-- maps that agree at every number rename alike
pub renamed_alike : (ρ σ : ℕ → ℕ) (t : List ℕ) → ((c : ℕ) → ρ c ≡ σ c) → renamed ρ t ≡ renamed σ t
renamed_alike ρ σ t e = ap (λ τ. renamed τ t) (fun_ext e)

-- Two maps one after the other are their composition, where a number that both together leave in place was left by the first, and
-- the second leaves the free mark.
module _ (ρ σ : ℕ → ℕ) (t : List ℕ) (mark : σ free_mark ≡ free_mark) (stays : (c : ℕ) → σ (ρ c) ≡ c → ρ c ≡ c) where
  abbrev both : ℕ → ℕ
  both c = σ (ρ c)

  both_fixed : (c : ℕ) → ρ c ≡ c → σ c ≡ c → both c ≡ c
  both_fixed c e f = ap σ e ∙ f

  both_moved : (c : ℕ) → ρ c ≡ c → (σ c ≡ c → ⊥) → both c ≡ c → ⊥
  both_moved c e n f = n (sym (ap σ e) ∙ f)

  inside_first : (c : ℕ) → c < cells_of t → c < cells_of (renamed ρ t)
  inside_first c h = omega (arith, cells_of_renamed ρ t)

  dim_twice : (c : ℕ) → c < cells_of t → dim (renamed σ (renamed ρ t)) c ≡ dim (renamed both t) c
  dim_twice c h =
      let k = inside_first c h in
      ⊎_elim
      (λ e. ⊎_elim
      (λ f. dim_fixed σ (renamed ρ t) c k f ∙ dim_fixed ρ t c h e ∙ sym (dim_fixed both t c h (both_fixed c e f)))
      (λ n. dim_moved σ (renamed ρ t) c k n ∙ sym (dim_moved both t c h (both_moved c e n)))
      (same_or_not (σ c) c))
      (λ n. ⊎_elim
      (λ f. dim_fixed σ (renamed ρ t) c k f ∙ dim_moved ρ t c h n ∙ sym (dim_moved both t c h (λ e. n (stays c e))))
      (λ m. dim_moved σ (renamed ρ t) c k m ∙ sym (dim_moved both t c h (λ e. n (stays c e))))
      (same_or_not (σ c) c))
      (same_or_not (ρ c) c)

  face_twice : (c j : ℕ) → c < cells_of t → j < faces → face (renamed σ (renamed ρ t)) c j ≡ face (renamed both t) c j
  face_twice c j h l =
      let k = inside_first c h in
      ⊎_elim
      (λ e. ⊎_elim
      (λ f. face_fixed σ (renamed ρ t) c j k l f ∙ ap σ (face_fixed ρ t c j h l e) ∙ sym (face_fixed both t c j h l (both_fixed c e f)))
      (λ n. face_moved σ (renamed ρ t) c j k l n ∙ sym (face_moved both t c j h l (both_moved c e n)))
      (same_or_not (σ c) c))
      (λ n. ⊎_elim
      (λ f. face_fixed σ (renamed ρ t) c j k l f ∙ ap σ (face_moved ρ t c j h l n) ∙ mark ∙ sym (face_moved both t c j h l (λ e. n (stays c e))))
      (λ m. face_moved σ (renamed ρ t) c j k l m ∙ sym (face_moved both t c j h l (λ e. n (stays c e))))
      (same_or_not (σ c) c))
      (same_or_not (ρ c) c)

  pub renamed_twice : renamed σ (renamed ρ t) ≡ renamed (λ c. σ (ρ c)) t
  renamed_twice =
      table_by_records (renamed σ (renamed ρ t)) (renamed both t) (cells_of t)
      (length_renamed σ (renamed ρ t) ∙ ap (λ n. n * width) (cells_of_renamed ρ t))
      (length_renamed both t)
      (λ c h. record { same_dim = dim_twice c h; same_face = λ j l. face_twice c j h l })

-- The map of an identification: the larger number goes to the smaller,
pub identify_larger : (a b : ℕ) → identify a b (max a b) ≡ min a b
unfolding identify
identify_larger a b = simp (eq-eqb (max a b) (max a b) refl)

-- every other number stays,
pub identify_other : (a b c : ℕ) → (c ≡ max a b → ⊥) → identify a b c ≡ c
unfolding identify
identify_other a b c n = simp (ne_eqb c (max a b) n)

-- a number that is neither stays,
pub identify_keeps : (a b c : ℕ) → a < c → b < c → identify a b c ≡ c
identify_keeps a b c h l = identify_other a b c (λ e. omega arith)

-- twice is once,
pub identify_once : (a b c : ℕ) → identify a b (identify a b c) ≡ identify a b c
identify_once a b c =
    ⊎_elim
    (λ e. ap (identify a b) (ap (identify a b) e ∙ identify_larger a b) ∙ smaller ∙ sym (ap (identify a b) e ∙ identify_larger a b))
    (λ n. ap (identify a b) (identify_other a b c n))
    (same_or_not c (max a b))
  where
    smaller : identify a b (min a b) ≡ min a b
    smaller =
        ⊎_elim (λ e. ap (identify a b) e ∙ identify_larger a b) (identify_other a b (min a b)) (same_or_not (min a b) (max a b))

-- the order of asking is nothing to it,
identify_both_ways : (a b c : ℕ) → identify a b c ≡ identify b a c
unfolding identify
identify_both_ways a b c = ap₂ (λ x y. pick (eqb c x) y c) (max_comm a b) (min_comm a b)

-- and it is the smaller of the two and the larger that count
pub identify_in_order : (a b l h : ℕ) → l ≡ min a b → h ≡ max a b → (c : ℕ) → identify l h c ≡ identify a b c
unfolding identify
identify_in_order a b l h low high c =
    let more : max l h ≡ max a b = omega (arith, low, high) in
    let less : min l h ≡ min a b = omega (arith, low, high) in
    rw (more, less)

pub renamed_both_ways : (a b : ℕ) (t : List ℕ) → renamed (identify a b) t ≡ renamed (identify b a) t
renamed_both_ways a b t = renamed_alike (identify a b) (identify b a) t (identify_both_ways a b)
