-- One pass over a table that puts the kept number for the freed one, record by record, and then frees the freed record: what it
-- leaves is the merged table.
-- What carries it: a table that is given record by record is given so again after a store. Assumes nothing.
use mathlib.Core.Path.{◌≡◌, refl, ap, sym, ◌∙◌}
use mathlib.Core.List.{List}
use mathlib.Core.Logic.{⊎_elim}
use Prim.Native.Nat.{ℕ, ◌+◌, ◌≤◌, ◌<◌, min, max}
use native.Mathlib.Omega.{arith}
use borrow.Author.Tests.{lt-ltb, le-ltb, eq-eqb, ne_eqb}
use lib.Dec.{eqb}
use Rattle.counting.specs.Counting.{pick}
use Rattle.table.specs.Kind.{top, faces, free_mark}
use Rattle.table.specs.Table.{cells_of, dim, face, Sized, Valid}
use Rattle.table.specs.Records.{free_record, Stored}
use Rattle.counting.proofs.Cases.{below_or_not}
use Rattle.table.proofs.Words.{length_table_of, dim_table_of, face_table_of, table_by_records}
use Rattle.table.proofs.Stores.{stored_table}
use Rattle.merge.specs.Rename.{renamed, identify}
use Rattle.merge.specs.Merge.{merged}
use Rattle.merge.specs.Writing.{sent, sent_record, passing, partly, Begun}
use Rattle.merge.proofs.Renaming.{renamed_alike}

-- where kept is below gone the map is that of their identification
sent_is_identify : (kept gone : ℕ) → kept < gone → (f : ℕ) → sent kept gone f ≡ identify kept gone f
unfolding identify
sent_is_identify kept gone h f =
    let e : max kept gone ≡ gone = omega arith in
    let k : min kept gone ≡ kept = omega arith in
    simp (e, k)

-- a word that is not looked for stays
pub sent_stays : (kept gone f : ℕ) → (f ≡ gone → ⊥) → sent kept gone f ≡ f
sent_stays kept gone f h = rw (ne_eqb f gone h)

module _ (kept gone : ℕ) (t : List ℕ) where
  -- nothing is sent at the start
  partly_start : Sized t → t ≡ partly kept gone t 0
  partly_start s =
      table_by_records t (partly kept gone t 0) (cells_of t) s.whole (length_table_of (cells_of t) (passing kept gone t 0))
      (λ d h.
      record {
        same_dim = sym (dim_table_of (cells_of t) (passing kept gone t 0) d h);
        same_face = λ j l. sym (face_table_of (cells_of t) (passing kept gone t 0) d j h l ∙ rw (le-ltb d 0 (omega arith)));
      })

  pub begun_start : Valid t → Begun kept gone t t 0
  begun_start v = record { valid = v; size = refl; done = partly_start v.sized }

  -- the dimensions stay, so where the table is valid no record begins with the number after them
  dim_stays : (c d : ℕ) (u : List ℕ) → d < cells_of t → u ≡ partly kept gone t c → dim u d ≡ dim t d
  dim_stays c d u h e = ap (λ v. dim v d) e ∙ dim_table_of (cells_of t) (passing kept gone t c) d h

  pub begins_none : (c d : ℕ) (u : List ℕ) → d < cells_of u → Begun kept gone t u c → dim u d ≡ top + 1 → ⊥
  begins_none c d u h b z =
      let i : d < cells_of t = omega (arith, b.size) in
      let same : dim u d ≡ dim t d = dim_stays c d u i b.done in
      ⊎_elim (λ low. omega arith) (λ free. omega arith) (b.valid.records d i)

  -- one record more: record c with its own dimension, and its faces sent through the map
  pub partly_more :
      (c : ℕ) (u u' : List ℕ) → c < cells_of t → u ≡ partly kept gone t c → Stored c (sent_record kept gone u c) u u' → u' ≡ partly kept gone t (c + 1)
  partly_more c u u' h e s =
      stored_table (cells_of t) (passing kept gone t c) (passing kept gone t (c + 1)) (sent_record kept gone u c) u u' c e s
      (record {
        same_dim = ap (λ v. dim v c) e ∙ dim_table_of (cells_of t) (passing kept gone t c) c h;
        same_face = λ j l.
            ap (λ v. sent kept gone (face v c j)) e
            ∙ ap (sent kept gone) (face_table_of (cells_of t) (passing kept gone t c) c j h l)
            ∙ simp (le-ltb c c (omega arith), lt-ltb c (c + 1) (omega arith));
      })
      (λ d l n.
      record {
        same_dim = refl;
        same_face = λ j m.
            ⊎_elim
            (λ q. rw (lt-ltb d c q, lt-ltb d (c + 1) (omega arith)))
            (λ q. rw (le-ltb d c q, le-ltb d (c + 1) (omega arith)))
            (below_or_not d c);
      })

  pub begun_more :
      (c : ℕ) (u u' : List ℕ) → c < cells_of u → Begun kept gone t u c → Stored c (sent_record kept gone u c) u u' → Begun kept gone t u' (c + 1)
  begun_more c u u' h b s =
      record { valid = b.valid; size = s.size ∙ b.size; done = partly_more c u u' (omega (arith, b.size)) b.done s }

  -- and at the end the freed record
  pub partly_end :
      (c : ℕ) (u u' : List ℕ) (g : ℕ → ℕ) → kept < gone → cells_of t ≤ c → u ≡ partly kept gone t c →
      Stored gone (record { dim = free_mark; face = g }) u u' → ((j : ℕ) → j < faces → g j ≡ free_mark) → u' ≡ merged t kept gone
  unfolding merged renamed
  partly_end c u u' g less m e s frees =
      stored_table (cells_of t) (passing kept gone t c)
      (λ d. pick (eqb (sent kept gone d) d) (record { dim = dim t d; face = λ j. sent kept gone (face t d j) }) free_record)
      (record { dim = free_mark; face = g }) u u' gone e s
      (record {
        same_dim = simp (eq-eqb gone gone refl, ne_eqb kept gone (λ q. omega arith));
        same_face = λ j l. frees j l ∙ simp (eq-eqb gone gone refl, ne_eqb kept gone (λ q. omega arith));
      })
      (λ d l n.
      record {
        same_dim = simp (ne_eqb d gone n, eq-eqb d d refl);
        same_face = λ j q. simp (lt-ltb d c (omega arith), ne_eqb d gone n, eq-eqb d d refl);
      })
      ∙ renamed_alike (sent kept gone) (identify kept gone) t (sent_is_identify kept gone less)
