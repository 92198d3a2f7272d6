-- Laws of a record that is written: a record written twice, its faces written one after the other, and what a table that was given record
-- by record becomes. Assumes nothing.
use mathlib.Core.Path.{◌≡◌, refl, sym, ap, ◌∙◌}
use mathlib.Core.List.{List}
use mathlib.Core.Logic.{⊎_elim}
use Prim.Native.Nat.{ℕ, ◌+◌, ◌<◌}
use native.Mathlib.Omega.{arith}
use borrow.Author.Tests.{eq-eqb, ne_eqb, lt-ltb, le-ltb}
use lib.Dec.{eqb, ltb}
use lib.ListN.{length}
use Rattle.counting.specs.Counting.{pick}
use Rattle.counting.proofs.Cases.{below_or_not, same_or_other}
use Rattle.table.specs.Kind.{faces}
use Rattle.table.specs.Table.{dim, face}
use Rattle.table.specs.Records.{Record, record_at, table_of, Alike, Stored}
use Rattle.table.proofs.Words.{length_table_of, record_table_of, table_by_records}

-- ---- records that are alike

pub alike_self : (r : Record) → Alike r r
alike_self r = record { same_dim = refl; same_face = λ j h. refl }

pub alike_then : {r s q : Record} → Alike r s → Alike s q → Alike r q
alike_then a b = record { same_dim = a.same_dim ∙ b.same_dim; same_face = λ j h. a.same_face j h ∙ b.same_face j h }

pub alike_back : {r s : Record} → Alike r s → Alike s r
alike_back a = record { same_dim = sym a.same_dim; same_face = λ j h. sym (a.same_face j h) }

-- one table under two names
pub alike_in : (t u : List ℕ) (c : ℕ) → t ≡ u → Alike (record_at t c) (record_at u c)
alike_in t u c e = record { same_dim = ap (λ (l : List ℕ). dim l c) e; same_face = λ j h. ap (λ (l : List ℕ). face l c j) e }

-- ---- one record written

-- record c with x at face place j
abbrev pub with_face : List ℕ → ℕ → ℕ → ℕ → Record
with_face t c j x = record { dim = dim t c; face = λ l. pick (eqb l j) x (face t c l) }

-- a record is what was written last
stored_again : {c : ℕ} {r s : Record} {t u v : List ℕ} → Stored c r t u → Stored c s u v → Stored c s t v
stored_again a b =
    record { size = b.size ∙ a.size; here = b.here; else = λ d ne. alike_then (b.else d ne) (a.else d ne) }

-- the same record in other words
pub stored_alike : {c : ℕ} {r s : Record} {t u : List ℕ} → Alike r s → Stored c r t u → Stored c s t u
stored_alike e a = record { size = a.size; here = alike_then a.here e; else = a.else }

-- the faces below j from f, the others from g
abbrev pub up_to : ℕ → (ℕ → ℕ) → (ℕ → ℕ) → ℕ → ℕ
up_to j f g l = pick (ltb l j) (f l) (g l)

-- Faces written one after the other, from place 0 on; the rest of the record stays.
module _ (c : ℕ) (f : ℕ → ℕ) (t : List ℕ) where
  -- the faces below j are written
  abbrev pub Faced : ℕ → List ℕ → Type 0
  Faced j u = Stored c (record { dim = dim t c; face = up_to j f (face t c) }) t u

  pub faced_none : Faced 0 t
  faced_none =
      record {
        size = refl;
        here = record { same_dim = refl; same_face = λ l h. sym (rw (le-ltb l 0 (omega arith))) };
        else = λ s ne. alike_self (record_at t s);
      }

  pub faced_more : (u v : List ℕ) (j x : ℕ) → x ≡ f j → Faced j u → Stored c (with_face u c j x) u v → Faced (j + 1) v
  faced_more u v j x e s w = stored_alike (record { same_dim = s.here.same_dim; same_face = at_place }) (stored_again s w)
    where
      kept : (l : ℕ) → (l ≡ j → ⊥) → up_to j f (face t c) l ≡ up_to (j + 1) f (face t c) l
      kept l ne =
          ⊎_elim
          (λ h. simp (lt-ltb l j h, lt-ltb l (j + 1) (omega arith)))
          (λ h. simp (le-ltb l j h, le-ltb l (j + 1) (omega arith)))
          (below_or_not l j)

      at_place : (l : ℕ) → l < faces → (with_face u c j x).face l ≡ up_to (j + 1) f (face t c) l
      at_place l h =
          same_or_other (λ k. (with_face u c j x).face k ≡ up_to (j + 1) f (face t c) k) l j
          (simp (eq-eqb j j refl, lt-ltb j (j + 1) (omega arith), e))
          (λ ne. rw (ne_eqb l j ne) (s.here.same_face l h ∙ kept l ne))

-- A table that was given record by record, after a store: given so again, with the new record.
pub stored_table :
    (n : ℕ) (r r' : ℕ → Record) (x : Record) (u u' : List ℕ) (c : ℕ) → u ≡ table_of n r → Stored c x u u' → Alike x (r' c) →
    ((s : ℕ) → s < n → (s ≡ c → ⊥) → Alike (r s) (r' s)) → u' ≡ table_of n r'
stored_table n r r' x u u' c was s new others =
    table_by_records u' (table_of n r') n (s.size ∙ ap length was ∙ length_table_of n r) (length_table_of n r')
    (λ a h.
    alike_then
    (same_or_other (λ a. Alike (record_at u' a) (r' a)) a c
    (alike_then s.here new)
    (λ ne. alike_then (s.else a ne) (alike_then (alike_in u (table_of n r) a was) (alike_then (record_table_of n r a h) (others a h ne)))))
    (alike_back (record_table_of n r' a h)))
