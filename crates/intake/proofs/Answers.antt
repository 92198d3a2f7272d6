-- What the call answers and leaves, way by way out of the code, whatever the text is said to read as.
-- What carries it: each test decides its own ground, in the order of the four; only the length's has the number 1. Assumes nothing.
use mathlib.Core.Path.{◌≡◌, refl, sym, ap, subst, subst₂, ◌∙◌}
use mathlib.Core.Bool.{true, false, ◌&&◌}
use mathlib.Core.List.{List, [], ◌∷◌}
use Prim.Native.Nat.{ℕ, ◌/◌, ◌%◌, ◌≤◌, ◌<◌}
use native.Mathlib.Omega.{arith}
use borrow.Author.Tests.{not-false, lt-ltb, le-ltb}
use lib.ListN.{length, replicate}
use lib.Dec.{eqb, leb, ltb}
use Rattle.calls.specs.Calls.{Ends}
use Rattle.calls.specs.declared.Refusal.{Refusal}
use Rattle.calls.specs.declared.Refusal.TheVariants.{BadText, BadIndex, NoRoom}
use Rattle.calls.specs.Calls.{Verdict}
use Rattle.std.specs.declared.result.Result.TheVariants.{Ok, Err}
use Prim.{tt}
use Rattle.audit.proofs.Empties.{length_refused}
use Rattle.calls.proofs.Grounds.{accepted_none_applies}
use Rattle.table.specs.Kind.{capacity, width, free_mark}
use Rattle.table.specs.Table.{cells_of, sized, on_length}
use Rattle.table.specs.Records.{free_record, record_at, Alike}
use Rattle.table.proofs.Sizes.{sized_is_sized}
use Rattle.table.proofs.Words.{one_dim, one_face}
use Rattle.audit.specs.Empty.{empty_verdict, emptied, empty_leaves}
use Rattle.partlist.specs.Text.{IsList, NoList, Reading}
use Rattle.partlist.specs.Text.Reading.{list, none}
use Rattle.partlist.specs.Indices.{list_fits}
use Rattle.partlist.specs.Cells.{cell_list}
use Rattle.partlist.specs.ListTable.{list_table}
use Rattle.partlist.proofs.Reading.{reading_unique}
use Rattle.lines.proofs.Decision.{reading}
use Rattle.lines.specs.Scans.{ScanIs}
use Rattle.corners.specs.Scratch.{Kept}
use Rattle.intake.specs.Steps.{Fills}
use Rattle.intake.specs.Import.{verdict_by, leaves_by, import_verdict, import_leaves}

-- the answer r and the table u are right, whatever the text is said to read as
pub record Imports (t text : List ℕ) (r : Verdict) (u : List ℕ) : Type 0 where
  pub ends : (w : Reading text) → Ends (verdict_by t w) (leaves_by t w) r u

-- so they are those of the contract
pub as_read : (t text : List ℕ) (r : Verdict) (u : List ℕ) → Imports t text r u → Ends (import_verdict t text) (import_leaves t text) r u
unfolding import_verdict import_leaves
as_read t text r u i = i.ends (reading text)

-- ---- the length

-- where emptying refuses, the length is no table's, so the call refuses alike and no word changes
pub imports_length : (t text u : List ℕ) (r : Refusal) → empty_verdict t ≡ Err r → u ≡ empty_leaves t → Imports t text (Err r) u
imports_length t text u r e a =
    let k = length_refused (sized t) r e in
    record { ends = λ w. record { answer = ap Err k.1 ∙ sym (simp k.0); left = a ∙ simp k.0 } }

-- else it is that of a table
pub accepted_sized : (t : List ℕ) → empty_verdict t ≡ Ok tt → sized t ≡ true
accepted_sized t e = not-false (sized t) (accepted_none_applies (on_length t ∷ []) e).0

sized_by_length : (t u : List ℕ) → length u ≡ length t → sized u ≡ sized t
unfolding sized
sized_by_length t u e = ap (λ m. eqb (m % width) 0 && (leb 1 (m / width) && leb (m / width) capacity)) e

module _ (t : List ℕ) (s : sized t ≡ true) where
  -- a table of this length, emptied
  pub cleared : (u v : List ℕ) → length u ≡ length t → v ≡ empty_leaves u → v ≡ replicate (length t) free_mark
  unfolding emptied
  cleared u v l a =
      let z : sized u ≡ true = sized_by_length t u l ∙ s in
      a ∙ rw z (ap (λ m. replicate m free_mark) l)

  -- it holds no cell
  pub none_kept : (u : List ℕ) → length u ≡ length t → u ≡ replicate (length t) free_mark → (cells_of u ≤ capacity) × Kept (cells_of u) u []
  none_kept u l e =
      let z = sized_is_sized t s in (
        omega (arith, l, z.room),
        record {
          size = omega (arith, l, z.whole);
          room = omega arith;
          holds = record { records = λ c h. absurd (omega arith); sorted = tt };
          free = λ c a b. subst (λ (x : List ℕ). c < cells_of x → Alike (record_at x c) free_record) (sym e) (free c) b;
        },
      )
    where
      free : (c : ℕ) → c < cells_of (replicate (length t) free_mark) → Alike (record_at (replicate (length t) free_mark) c) free_record
      free c h = record { same_dim = one_dim (length t) free_mark c h; same_face = λ j k. one_face (length t) free_mark c j h k }

  -- ---- the grounds after the length

  module _ (text u : List ℕ) where
    -- no list
    imports_text : NoList text → u ≡ replicate (length t) free_mark → Imports t text (Err BadText) u
    imports_text bad d = record { ends = go }
      where
        go : (w : Reading text) → Ends (verdict_by t w) (leaves_by t w) (Err BadText) u
        go (list n ls h) = absurd (bad n ls h)
        go (none h) = record { answer = rw s refl; left = d ∙ rw s refl }

    module _ (n : ℕ) (ls : List (List ℕ)) (reads : IsList text n ls) where
      -- a text reads as one list, so what holds of this one holds whatever list it is said to read as
      by_list : (r : Verdict) → ((h : IsList text n ls) → Ends (verdict_by t (list n ls h)) (leaves_by t (list n ls h)) r u) → Imports t text r u
      by_list r f = record { ends = go }
        where
          go : (w : Reading text) → Ends (verdict_by t w) (leaves_by t w) r u
          go (none h) = absurd (h n ls reads)
          go (list n' ls' h) =
              let e = reading_unique text n n' ls ls' reads h in
              subst₂ (λ m ks. (g : IsList text m ks) → Ends (verdict_by t (list m ks g)) (leaves_by t (list m ks g)) r u) e.0 e.1 f h

      -- an index does not fit
      imports_index : list_fits n ls ≡ false → u ≡ replicate (length t) free_mark → Imports t text (Err BadIndex) u
      imports_index bad d = by_list (Err BadIndex) (λ h. record { answer = rw (s, bad) refl; left = d ∙ rw (s, bad) refl })

      module _ (fit : list_fits n ls ≡ true) where
        -- more cells than the room
        pub imports_full : cells_of t < length (cell_list n ls) → u ≡ replicate (length t) free_mark → Imports t text (Err NoRoom) u
        imports_full many d =
            let y : ltb (cells_of t) (length (cell_list n ls)) ≡ true = lt-ltb (cells_of t) (length (cell_list n ls)) many in
            by_list (Err NoRoom) (λ h. record { answer = rw (s, fit, y) refl; left = d ∙ rw (s, fit, y) refl })

        pub imports_all : length (cell_list n ls) ≤ cells_of t → u ≡ list_table (cells_of t) (cell_list n ls) → Imports t text (Ok tt) u
        imports_all few d =
            let y : ltb (cells_of t) (length (cell_list n ls)) ≡ false = le-ltb (cells_of t) (length (cell_list n ls)) few in
            by_list (Ok tt) (λ h. record { answer = rw (s, fit, y) refl; left = d ∙ rw (s, fit, y) refl })

-- what the scan refuses
pub imports_refused :
    (t : List ℕ) → sized t ≡ true → (text u : List ℕ) → u ≡ replicate (length t) free_mark → (e : Refusal) → ScanIs text (Err e) →
    Imports t text (Err e) u
imports_refused t s text u d BadText bad = imports_text t s text u bad d
imports_refused t s text u d BadIndex w = imports_index t s text u w.0 w.1.lines w.1.is_list w.1.fits d
imports_refused t s text u d _ w = absurd w

-- a table of the same length has the same room
pub fills_there :
    (t₀ t : List ℕ) → length t ≡ length t₀ → (text : List ℕ) (n : ℕ) (u : List ℕ) (r : Verdict) → Fills text n (cells_of t) u r →
    Fills text n (cells_of t₀) u r
fills_there t₀ t e text n u r f = subst (λ (x : ℕ). Fills text n (x / width) u r) e f
