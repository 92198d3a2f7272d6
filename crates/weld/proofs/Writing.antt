-- The words that hold a map at its start, and the pass that renames every record by it, turn by turn.
-- What carries it: a table that is given record by record is given so again after a store. Assumes nothing.
use mathlib.Core.Path.{◌≡◌, refl, ap, sym, subst, ◌∙◌, fun_ext}
use mathlib.Core.Bool.{Bool, true, false}
use mathlib.Core.List.{List}
use mathlib.Core.Logic.{⊎_elim}
use Prim.Native.Nat.{ℕ, ◌+◌, ◌/◌, ◌≤◌, ◌<◌}
use native.Mathlib.Omega.{arith}
use borrow.Author.Tests.{eq-eqb, ne_eqb, lt-ltb, le-ltb}
use lib.ListN.{length, get_or}
use lib.Dec.{ltb, eqb}
use Rattle.counting.specs.Counting.{pick}
use Rattle.table.specs.Kind.{faces, width, free_mark, used}
use Rattle.table.specs.Table.{cells_of, dim, face, Sized, Live, Valid}
use Rattle.table.specs.Records.{Record, record_at, table_of, free_record, Alike, Stored}
use Rattle.counting.proofs.Cases.{below_or_not}
use Rattle.table.proofs.Words.{length_table_of, record_table_of, table_by_records}
use Rattle.table.proofs.Stores.{alike_self, alike_then, alike_back, alike_in, stored_table, stored_alike, up_to, Faced}
use Rattle.table.proofs.Places.{used_says, used_fits}
use Rattle.merge.specs.Rename.{renamed}
use Rattle.weld.specs.Maps.{map_of, held_by, Becomes, Renamable, sent_on, renamed_record}
use Rattle.weld.proofs.Sending.{map_inside, map_outside}

-- every word its own number
pub own_all :
    (n c : ℕ) (k₀ k : List ℕ) → length k ≡ n → n ≤ c → ((d : ℕ) → d < c → get_or k d 0 ≡ d) → Becomes n (λ κ d. d) k₀ k
own_all n c k₀ k h l done =
    record {
      maps = record { size = h; small = λ d m. omega (arith, done d (omega arith)) };
      map = fun_ext (λ d. ⊎_elim (λ m. map_inside n k d m ∙ done d (omega arith)) (map_outside n k d) (below_or_not d n));
    }

-- ---- one record

-- a record renamed: freed where its cell goes elsewhere, else with its faces sent on
module _ (ρ : ℕ → ℕ) (t u : List ℕ) (c : ℕ) where
  pub record_freed :
      (g : ℕ → ℕ) → Stored c (record { dim = free_mark; face = g }) t u → ((j : ℕ) → j < faces → g j ≡ free_mark) →
      (ρ c ≡ c → ⊥) → Stored c (renamed_record ρ t c) t u
  record_freed g s f n =
      stored_alike (record { same_dim = simp (ne_eqb (ρ c) c n); same_face = λ j h. f j h ∙ simp (ne_eqb (ρ c) c n) }) s

  pub record_kept : Stored c (sent_on ρ t c) t u → ρ c ≡ c → Stored c (renamed_record ρ t c) t u
  record_kept s i =
      stored_alike (record { same_dim = simp (eq-eqb (ρ c) c i); same_face = λ j h. simp (eq-eqb (ρ c) c i) }) s

-- the faces of a record sent on, one after the other
module _ (t k : List ℕ) (c : ℕ) (r : Renamable t k c) where
  abbrev images : ℕ → ℕ
  images j = held_by k t (face t c j)

  -- a free mark stays
  mark_stays : (j : ℕ) → used (dim t c) ≤ j → j < faces → face t c j ≡ images j
  mark_stays j m h =
      let e = r.unused j m h in
      e ∙ sym (ap (held_by k t) e ∙ map_outside (cells_of t) k free_mark (omega (arith, r.room)))

  -- a face that is not written yet is the old one, and a cell whose image the words hold
  face_waits : (u : List ℕ) (j : ℕ) → j < faces → Faced c images t j u → face u c j ≡ face t c j
  face_waits u j h s = s.here.same_face j h ∙ ap (λ b. pick b (images j) (face t c j)) (le-ltb j j (omega arith))

  pub image_is :
      (u : List ℕ) (j f x : ℕ) → j < used (dim t c) → Faced c images t j u → f ≡ face u c j → x ≡ get_or k f 0 → x ≡ images j
  image_is u j f x h s e i =
      let old : f ≡ face t c j = e ∙ face_waits u j (omega (arith, used_fits (dim t c))) s in
      i ∙ ap (λ z. get_or k z 0) old ∙ sym (map_inside (cells_of t) k (face t c j) (r.cells j h))

  -- all that are used: the others are free marks
  pub faces_sent : (u : List ℕ) (j : ℕ) → used (dim t c) ≤ j → Faced c images t j u → Stored c (sent_on (held_by k t) t c) t u
  faces_sent u j m s = stored_alike (record { same_dim = refl; same_face = each }) s
    where
      each : (l : ℕ) → l < faces → up_to j images (face t c) l ≡ images l
      each l h =
          ⊎_elim
          (λ q. ap (λ b. pick b (images l) (face t c l)) (lt-ltb l j q))
          (λ q. ap (λ b. pick b (images l) (face t c l)) (le-ltb l j q) ∙ mark_stays l (omega arith) h)
          (below_or_not l j)

-- ---- all records

module _ (ρ : ℕ → ℕ) (t : List ℕ) where
  -- the table of which the records below c are renamed
  abbrev passing : ℕ → ℕ → Record
  passing c d = pick (ltb d c) (renamed_record ρ t d) (record_at t d)

  abbrev pub partly : ℕ → List ℕ
  partly c = table_of (cells_of t) (passing c)

  passed : (c d : ℕ) → d < c → passing c d ≡ renamed_record ρ t d
  passed c d h = ap (λ b. pick b (renamed_record ρ t d) (record_at t d)) (lt-ltb d c h)

  waiting : (c d : ℕ) → c ≤ d → passing c d ≡ record_at t d
  waiting c d h = ap (λ b. pick b (renamed_record ρ t d) (record_at t d)) (le-ltb d c h)

  same_record : (r s : Record) → r ≡ s → Alike r s
  same_record r s e = subst (Alike r) e (alike_self r)

  pub partly_start : Sized t → t ≡ partly 0
  partly_start s =
      table_by_records t (partly 0) (cells_of t) s.whole (length_table_of (cells_of t) (passing 0))
      (λ d h.
      alike_back
      (alike_then (record_table_of (cells_of t) (passing 0) d h) (same_record (passing 0 d) (record_at t d) (waiting 0 d (omega arith)))))

  -- the next record is still the old one
  here : (c : ℕ) (u : List ℕ) → c < cells_of t → u ≡ partly c → Alike (record_at u c) (record_at t c)
  here c u h e =
      alike_then (alike_in u (partly c) c e)
      (alike_then (record_table_of (cells_of t) (passing c) c h) (same_record (passing c c) (record_at t c) (waiting c c (omega arith))))

  -- so it is renamed as the old one is
  renamed_here : (c : ℕ) (u : List ℕ) → c < cells_of t → u ≡ partly c → Alike (renamed_record ρ u c) (renamed_record ρ t c)
  renamed_here c u h e = go (eqb (ρ c) c)
    where
      go : (b : Bool) → Alike (pick b (sent_on ρ u c) free_record) (pick b (sent_on ρ t c) free_record)
      go true = record { same_dim = (here c u h e).same_dim; same_face = λ j l. ap ρ ((here c u h e).same_face j l) }
      go false = alike_self free_record

  -- and asks for nothing that a valid table has not
  pub renamable_here :
      (c : ℕ) (u k : List ℕ) → Valid t → c < cells_of t → cells_of t ≤ length k → length u ≡ length t → u ≡ partly c → Renamable u k c
  renamable_here c u k v h m same e =
      record {
        inside = omega (arith, same);
        held = omega (arith, same);
        room = omega (arith, same, v.sized.room);
        cells = λ j l.
            let q : j < used (dim t c) = subst (λ p. j < used p) old_dim l in
            let live : Live t c = record { inside = h; low = (used_says (dim t c) j q).1 } in
            omega (arith, same, old_face j (omega (arith, used_fits (dim t c))), (v.face_live c j live q).inside);
        unused = λ j l q. old_face j q ∙ v.unused c j h (subst (λ p. used p ≤ j) old_dim l) q;
      }
    where
      old_dim : dim u c ≡ dim t c
      old_dim = (here c u h e).same_dim

      old_face : (j : ℕ) → j < faces → face u c j ≡ face t c j
      old_face = (here c u h e).same_face

  pub partly_more :
      (c : ℕ) (u u' : List ℕ) → c < cells_of t → u ≡ partly c → Stored c (renamed_record ρ u c) u u' → u' ≡ partly (c + 1)
  partly_more c u u' h e s =
      stored_table (cells_of t) (passing c) (passing (c + 1)) (renamed_record ρ u c) u u' c e s
      (alike_then (renamed_here c u h e) (same_record (renamed_record ρ t c) (passing (c + 1) c) (sym (passed (c + 1) c (omega arith)))))
      (λ d l n.
      same_record (passing c d) (passing (c + 1) d)
      (⊎_elim
      (λ q. passed c d q ∙ sym (passed (c + 1) d (omega arith)))
      (λ q. waiting c d q ∙ sym (waiting (c + 1) d (omega (arith, n))))
      (below_or_not d c)))

  pub partly_all : (c : ℕ) (u : List ℕ) → cells_of t ≤ c → u ≡ partly c → u ≡ renamed ρ t
  unfolding renamed
  partly_all c u h e =
      e
      ∙ table_by_records (partly c) (table_of (cells_of t) (renamed_record ρ t)) (cells_of t)
      (length_table_of (cells_of t) (passing c))
      (length_table_of (cells_of t) (renamed_record ρ t))
      (λ d l.
      alike_then (record_table_of (cells_of t) (passing c) d l)
      (alike_then (same_record (passing c d) (renamed_record ρ t d) (passed c d (omega arith)))
      (alike_back (record_table_of (cells_of t) (renamed_record ρ t) d l))))

-- a table of the same length has as many cells, so the map is the same
pub renamed_as :
    (t u u' k : List ℕ) (c : ℕ) → length u ≡ length t → Stored c (renamed_record (held_by k u) u c) u u' →
    Stored c (renamed_record (held_by k t) u c) u u'
renamed_as t u u' k c e s = subst (λ m. Stored c (renamed_record (map_of m k) u c) u u') (ap (λ n. n / width) e) s
