-- A row's boundary word by word: what the set is after the faces of the first w words' cells were added.
-- What carries it: the first w + 1 words stand for the cells of the first w and those of word w. Assumes nothing.
use mathlib.Core.Path.{◌≡◌, sym, ap, ap₂, ◌∙◌}
use mathlib.Core.Bool.{Bool, false, ◌&&◌}
use mathlib.Core.List.{List}
use Prim.Native.Nat.{ℕ, suc, ◌+◌, ◌/◌, ◌%◌, ◌^◌, ◌≤◌, ◌<◌}
use native.Mathlib.Numerals.{add-one}
use native.Mathlib.Nat.{min-le_left}
use native.Mathlib.Omega.{arith}
use borrow.Author.Tests.{eq-eqb, eqb-true}
use lib.Dec.{eqb}
use lib.ListN.{length, get_or, take, replicate, length-take, get_or-eq_default}
use lib.Seq.{get_or-take, take_all}
use Rattle.counting.proofs.Cases.{and_left}
use Rattle.homology.specs.Cells.{Cells, ◌⊻◌}
use Rattle.homology.specs.Holes.{sum, boundary}
use Rattle.homology.proofs.Marks.{by_order, ⊻-off, off_⊻}
use Rattle.homology.proofs.Chains.{boundary_sum}
use Rattle.bitset.specs.Bits.{bits, digit, mark, member, full_width}
use Rattle.bitset.proofs.Marks.{mark_of_zero_word, false_member}
use Rattle.rows.specs.Rows.{row_of, rows, SetIs, RowLive}
use Rattle.rows.specs.Word.{word_cells, WordLive, WordAdded}
use Rattle.rows.proofs.Members.{member_zeros}
use Rattle.rows.proofs.Boundaries.{boundary_cong, boundary_of_empty}
use Rattle.rows.proofs.WordBits.{word_elsewhere}

-- ---- the first words of a set

member_within : (xs : List ℕ) (w s : ℕ) → s / bits < w → member (take w xs) s ≡ member xs s
unfolding mark member
member_within xs w s h = ap (λ (v : ℕ). eqb (digit v (s % bits)) 1) (get_or-take w xs (s / bits) 0 h)

member_beyond : (xs : List ℕ) (w s : ℕ) → w ≤ s / bits → member (take w xs) s ≡ false
member_beyond xs w s h = false_member (take w xs) s (mark_of_zero_word (take w xs) s (get_or-eq_default (take w xs) 0 (omega (arith, length-take w xs, min-le_left w (length xs)))))

member_of_word : (xs : List ℕ) (w s : ℕ) → s / bits ≡ w → member xs s ≡ word_cells w (get_or xs w 0) s
unfolding mark member word_cells
member_of_word xs w s e =
    ap (λ (i : ℕ). eqb (digit (get_or xs i 0) (s % bits)) 1) e
    ∙ ap (λ (b : Bool). b && eqb (digit (get_or xs w 0) (s % bits)) 1) (sym (eq-eqb (s / bits) w e))

-- one word more
one_word_more : (xs : List ℕ) (w s : ℕ) → member (take (suc w) xs) s ≡ member (take w xs) s ⊻ word_cells w (get_or xs w 0) s
one_word_more xs w s = by_order (s / bits) w
    (λ l. member_within xs (suc w) s (omega arith)
    ∙ sym (⊻-off (member xs s))
    ∙ sym (ap₂ ◌⊻◌ (member_within xs w s l) (word_elsewhere w (get_or xs w 0) s (λ e. omega arith))))
    (λ e. member_within xs (suc w) s (omega arith)
    ∙ member_of_word xs w s e
    ∙ sym (off_⊻ (word_cells w (get_or xs w 0) s))
    ∙ ap (λ (b : Bool). b ⊻ word_cells w (get_or xs w 0) s) (sym (member_beyond xs w s (omega arith))))
    (λ l. member_beyond xs (suc w) s (omega arith)
    ∙ sym (ap₂ ◌⊻◌ (member_beyond xs w s (omega arith)) (word_elsewhere w (get_or xs w 0) s (λ e. omega arith))))

-- the cells of a word of a row of live cells are live
pub word_of_live_row : (K : Cells) (ev : List ℕ) (c w v : ℕ) → RowLive K ev c → v ≡ get_or (row_of K ev c) w 0 → WordLive K w v
unfolding rows word_cells
word_of_live_row K ev c w v living e = record {
  each = λ s g.
      living.each s (member_of_word (row_of K ev c) w s (eqb-true (s / bits) w (and_left (eqb (s / bits) w) (eqb (digit v (s % bits)) 1) g))
      ∙ ap (λ (u : ℕ). word_cells w u s) (sym e)
      ∙ g);
}

-- ---- their boundary

-- b is the boundary of the first w words of xs
pub record WordsAdded (K : Cells) (xs : List ℕ) (w : ℕ) (b : List ℕ) : Type 0 where
  pub same : (s : ℕ) → member b s ≡ boundary K (member (take w xs)) s

pub no_words : (K : Cells) (xs : List ℕ) (n : ℕ) → WordsAdded K xs 0 (replicate n 0)
no_words K xs n = record {
  same = λ s.
      member_zeros n s ∙ sym (boundary_of_empty K (member (take 0 xs)) (λ c. member_beyond xs 0 c (omega arith)) s);
}

pub one_word : (K : Cells) (xs : List ℕ) (w v : ℕ) (b b' : List ℕ) → v ≡ get_or xs w 0 → WordAdded K w v b b' → WordsAdded K xs w b → WordsAdded K xs (w + 1) b'
one_word K xs w v b b' e added words = record {
  same = λ s.
      added.same s
      ∙ ap₂ (λ (a : Bool) (u : ℕ). a ⊻ boundary K (word_cells w u) s) (words.same s) e
      ∙ sym (boundary_sum K (member (take w xs)) (word_cells w (get_or xs w 0)) s)
      ∙ boundary_cong K (sum (member (take w xs)) (word_cells w (get_or xs w 0))) (member (take (suc w) xs)) (λ c. sym (one_word_more xs w c)) s
      ∙ ap (λ (i : ℕ). boundary K (member (take i xs)) s) (sym (add-one w));
}

pub all_words : (K : Cells) (ev : List ℕ) (c w : ℕ) (b : List ℕ) → length b ≡ full_width → ((k : ℕ) → get_or b k 0 < 2 ^ 64) → length (row_of K ev c) ≤ w → WordsAdded K (row_of K ev c) w b → SetIs b (boundary K (rows K ev c))
unfolding rows
all_words K ev c w b long small end words = record {
  long = long;
  small = small;
  same = λ s. words.same s ∙ ap (λ (xs : List ℕ). boundary K (member xs) s) (take_all w (row_of K ev c) end);
}
