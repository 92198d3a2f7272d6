-- What the call promises of a text that reads as a list, and of one that does not.
-- What carries it: a text has one reading, and the grounds are tested in their order. Assumes nothing.
use mathlib.Core.Path.{◌≡◌, refl, sym, ap, ap₂, subst, ◌∙◌}
use mathlib.Core.Bool.{Bool, true, false, not, false≢true}
use mathlib.Core.Logic.{◌↔◌}
use mathlib.Core.List.{List}
use Prim.Native.Nat.{ℕ, ◌≤◌, ◌<◌}
use native.Mathlib.Omega.{arith}
use borrow.Author.Tests.{not-false, ltb-true, ltb-false, lt-ltb}
use lib.ListN.{length}
use lib.Dec.{ltb}
use Rattle.counting.specs.Counting.{pick}
use Rattle.calls.specs.declared.Refusal.TheVariants.{Length, BadText, BadIndex, NoRoom}
use Rattle.calls.specs.Calls.{Verdict}
use Rattle.std.specs.declared.result.Result.TheVariants.{Ok, Err}
use Prim.{tt}
use Rattle.calls.proofs.Grounds.{accepted_none_applies}
use Rattle.table.specs.Table.{cells_of, Sized, sized}
use Rattle.table.proofs.Sizes.{sized_is_sized}
use Rattle.partlist.specs.Text.{IsList, NoList, Reading}
use Rattle.partlist.specs.Text.Reading.{list, none}
use Rattle.partlist.specs.Indices.{list_fits}
use Rattle.partlist.specs.Cells.{cell_list}
use Rattle.partlist.specs.ListTable.{list_table}
use Rattle.partlist.specs.Described.{TableOfList}
use Rattle.partlist.proofs.Reading.{reading_unique}
use Rattle.partlist.proofs.Indices.{fits_range}
use Rattle.partlist.proofs.Described.{table_of_list}
use Rattle.lines.proofs.Decision.{reading}
use Rattle.intake.specs.Import.{grounds_by, verdict_by, leaves_by, import_verdict, import_leaves}

-- ---- the verdict by a reading

-- the four tests: length, text, indices, room
abbrev said : Bool → Bool → Bool → Bool → Verdict
said a b c d = pick (not a) (Err Length) (pick (not b) (Err BadText) (pick (not c) (Err BadIndex) (pick d (Err NoRoom) (Ok tt))))

module _ (t text : List ℕ) where
  -- the verdict is the same by every reading
  by_list : (n : ℕ) (ls : List (List ℕ)) (h : IsList text n ls) → import_verdict t text ≡ verdict_by t (list n ls h)
  unfolding import_verdict
  by_list n ls h = go (reading text)
    where
      go : (w : Reading text) → verdict_by t w ≡ verdict_by t (list n ls h)
      go (none bad) = absurd (bad n ls h)
      go (list n' ls' h') =
          let e = reading_unique text n' n ls' ls h' h in
          ap₂ (λ (m : ℕ) (ms : List (List ℕ)). said (sized t) true (list_fits m ms) (ltb (cells_of t) (length (cell_list m ms)))) e.0 e.1

  by_none : NoList text → import_verdict t text ≡ said (sized t) false false false
  unfolding import_verdict
  by_none bad = go (reading text)
    where
      go : (w : Reading text) → verdict_by t w ≡ said (sized t) false false false
      go (none h) = text_first (sized t) (ltb (cells_of t) 0)
        where
          text_first : (a d : Bool) → said a false false d ≡ said a false false false
          text_first true d = refl
          text_first false d = refl
      go (list n ls h) = absurd (bad n ls h)

  module _ (s : sized t ≡ true) where
    -- 17 exactly where the text is no part list
    pub malformed_iff_no_list : (import_verdict t text ≡ Err BadText) ↔ NoList text
    malformed_iff_no_list = (
      λ e n ls h. not_text (list_fits n ls) (ltb (cells_of t) (length (cell_list n ls))) (sym (by_here n ls h) ∙ e),
      λ bad. by_none bad
          ∙ rw s refl,
    )
      where
        by_here :
            (n : ℕ) (ls : List (List ℕ)) → IsList text n ls →
            import_verdict t text ≡ said true true (list_fits n ls) (ltb (cells_of t) (length (cell_list n ls)))
        by_here n ls h = by_list n ls h ∙ ap (λ a. said a true (list_fits n ls) (ltb (cells_of t) (length (cell_list n ls)))) s

        not_text : (c d : Bool) → said true true c d ≡ Err BadText → ⊥
        not_text true true e = let z : ◌≡◌ {A = ℕ} 0 1 = cc in omega arith
        not_text true false e = let z : ◌≡◌ {A = ℕ} 0 1 = cc in omega arith
        not_text false d e = let z : ◌≡◌ {A = ℕ} 0 1 = cc in omega arith

    module _ (n : ℕ) (ls : List (List ℕ)) (h : IsList text n ls) where
      here : import_verdict t text ≡ said true true (list_fits n ls) (ltb (cells_of t) (length (cell_list n ls)))
      here = by_list n ls h ∙ ap (λ a. said a true (list_fits n ls) (ltb (cells_of t) (length (cell_list n ls)))) s

      -- then 18 exactly where an index does not fit
      pub unfit_iff_index : (import_verdict t text ≡ Err BadIndex) ↔ (list_fits n ls ≡ false)
      unfit_iff_index = (
        λ e. was (list_fits n ls) (ltb (cells_of t) (length (cell_list n ls))) (sym here ∙ e),
        λ e. here ∙ ap
            (λ c. said true true c (ltb (cells_of t) (length (cell_list n ls)))) e,
      )
        where
          was : (c d : Bool) → said true true c d ≡ Err BadIndex → c ≡ false
          was true true e = absurd (let z : ◌≡◌ {A = ℕ} 0 1 = cc in omega arith)
          was true false e = absurd (let z : ◌≡◌ {A = ℕ} 0 1 = cc in omega arith)
          was false d e = refl

      -- then 9 exactly where there are more cells than records
      pub full_iff_cells : list_fits n ls ≡ true → (import_verdict t text ≡ Err NoRoom) ↔ (cells_of t < length (cell_list n ls))
      full_iff_cells fit = (
        λ e. ltb-true (cells_of t) (length (cell_list n ls)) (was (ltb (cells_of t) (length (cell_list n ls))) (sym known ∙ e)),
        λ l. known
            ∙ ap (said true true true) (lt-ltb (cells_of t) (length (cell_list n ls)) l),
      )
        where
          known : import_verdict t text ≡ said true true true (ltb (cells_of t) (length (cell_list n ls)))
          known = here ∙ ap (λ c. said true true c (ltb (cells_of t) (length (cell_list n ls)))) fit

          was : (d : Bool) → said true true true d ≡ Err NoRoom → d ≡ true
          was true e = refl
          was false e = absurd (let z : ◌≡◌ {A = ℕ} 0 1 = cc in omega arith)

  -- ---- an accepted list

  -- the list that an accepted text reads as, and the table that is left
  pub record AcceptedList : Type 0 where
    pub count : ℕ
    pub lines : List (List ℕ)
    pub is_list : IsList text count lines
    pub fits : list_fits count lines ≡ true
    pub room : length (cell_list count lines) ≤ cells_of t
    pub size : Sized t
    pub table : import_leaves t text ≡ list_table (cells_of t) (cell_list count lines)

  pub accepted_list : import_verdict t text ≡ Ok tt → AcceptedList
  unfolding import_verdict import_leaves
  accepted_list e = go (reading text) e refl
    where
      go : (w : Reading text) → verdict_by t w ≡ Ok tt → leaves_by t (reading text) ≡ leaves_by t w → AcceptedList
      go (none bad) a l = absurd (let k = accepted_none_applies (grounds_by t (none bad)) a in false≢true (sym k.1.0))
      go (list n ls h) a l =
          let k = accepted_none_applies (grounds_by t (list n ls h)) a in
          record {
            count = n;
            lines = ls;
            is_list = h;
            fits = not-false (list_fits n ls) k.1.1.0;
            room = ltb-false (cells_of t) (length (cell_list n ls)) k.1.1.1.0;
            size = sized_is_sized t (not-false (sized t) k.0);
            table = l ∙ rw a refl;
          }

  -- what is left is the table of the list that the text reads as
  pub accepted_table_of_list :
      import_verdict t text ≡ Ok tt → (n : ℕ) (ls : List (List ℕ)) → IsList text n ls → TableOfList n ls (import_leaves t text)
  accepted_table_of_list e n ls h =
      let a = accepted_list e in
      let u = reading_unique text a.count n a.lines ls a.is_list h in
      let w = table_of_list a.count a.lines a.is_list.lines (fits_range a.count a.lines a.fits) (cells_of t)
      a.size.some a.size.room a.room in
      subst (λ (x : List ℕ). TableOfList n ls x) (sym a.table) (moved u.0 u.1 w)
    where
      moved : {m n : ℕ} {ms ls : List (List ℕ)} {u : List ℕ} → m ≡ n → ms ≡ ls → TableOfList m ms u → TableOfList n ls u
      moved {m} {n} {ms} {ls} {u} i j w = subst (λ (y : List (List ℕ)). TableOfList n y u) j (subst (λ (x : ℕ). TableOfList x ms u) i w)
