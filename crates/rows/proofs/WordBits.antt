-- The cells of one word of a row, taken from the lowest bit up: what is added and what is left come to the same at every turn.
-- What carries it: a word's cells are those of the word without bit k, and the cell of bit k. Assumes nothing.
use mathlib.Core.Path.{◌≡◌, refl, sym, ap, ap₂, ◌∙◌, subst}
use mathlib.Core.Logic.{by_cases}
use mathlib.Core.Bool.{Bool, true, false, ◌&&◌}
use mathlib.Core.List.{List}
use Prim.Native.Nat.{ℕ, ◌+◌, ◌*◌, ◌/◌, ◌%◌, ◌^◌, ◌<◌}
use native.Mathlib.Decide.{ℕ_discrete}
use native.Mathlib.Omega.{arith}
use borrow.Author.Tests.{eq-eqb, ne_eqb}
use lib.Bits.{bit_xor}
use lib.Dec.{eqb}
use lib.ListN.{length, get_or}
use Rattle.homology.specs.Cells.{Cells, ◌⊻◌}
use Rattle.homology.specs.Holes.{boundary}
use Rattle.homology.proofs.Marks.{clash, ⊻-off, ⊻-assoc, ⊻-comm, &&-off}
use Rattle.bitset.specs.Bits.{bits, digit, member}
use Rattle.bitset.proofs.Digits.{digit_of_zero}
use Rattle.bitset.proofs.LowBit.{bit_gone_same, bit_gone_other}
use Rattle.rows.specs.Rows.{FacesAdded}
use Rattle.rows.specs.Word.{word_cells, WordLive, WordAdded}
use Rattle.rows.proofs.Boundaries.{boundary_of_empty, boundary_with_one}

-- bit k of the word
word_cell : (w v k : ℕ) → k < bits → word_cells w v (bits * w + k) ≡ eqb (digit v k) 1
unfolding word_cells
word_cell w v k h =
    let word : (bits * w + k) / bits ≡ w = omega arith in
    let bit : (bits * w + k) % bits ≡ k = omega arith in
    ap₂ (λ (a : Bool) (b : ℕ). a && eqb (digit v b) 1) (eq-eqb ((bits * w + k) / bits) w word) bit

-- a cell of another word
pub word_elsewhere : (w v s : ℕ) → (s / bits ≡ w → ⊥) → word_cells w v s ≡ false
unfolding word_cells
word_elsewhere w v s h = ap (λ (a : Bool). a && eqb (digit v (s % bits)) 1) (ne_eqb (s / bits) w h)

word_zero : (w v s : ℕ) → v ≡ 0 → word_cells w v s ≡ false
unfolding word_cells
word_zero w v s e =
    let none : digit v (s % bits) ≡ 0 = ap (λ (u : ℕ). digit u (s % bits)) e ∙ digit_of_zero (s % bits) in
    ap (λ (b : Bool). eqb (s / bits) w && b) (ne_eqb (digit v (s % bits)) 1 (λ g. omega arith)) ∙ &&-off (eqb (s / bits) w)

-- the word without bit k
module _ (w v k v' : ℕ) (h : k < bits) (one : digit v k ≡ 1) (less : v' ≡ bit_xor v ((1 * 2 ^ k) % 2 ^ 64)) where
  bit_out : word_cells w v' (bits * w + k) ≡ false
  bit_out = word_cell w v' k h ∙ ne_eqb (digit v' k) 1 (λ e. omega (arith, ap (λ (u : ℕ). digit u k) less, bit_gone_same v k h one))

  other_bit : (s : ℕ) → (bits * w + k ≡ s → ⊥) → word_cells w v s ≡ word_cells w v' s
  unfolding word_cells
  other_bit s ne = by_cases (ℕ_discrete (s / bits) w)
      (λ e. let apart : s % bits ≡ k → ⊥ = λ g. ne (omega arith) in
      ap (λ (d : ℕ). eqb (s / bits) w && eqb d 1) (sym (ap (λ (u : ℕ). digit u (s % bits)) less ∙ bit_gone_other v k h (s % bits) apart)))
      (λ e. word_elsewhere w v s e ∙ sym (word_elsewhere w v' s e))

  bit_and_others : (s : ℕ) → word_cells w v s ≡ word_cells w v' s ⊻ eqb (bits * w + k) s
  bit_and_others s = by_cases (ℕ_discrete (bits * w + k) s)
      (λ e. subst (λ (u : ℕ). word_cells w v u ≡ word_cells w v' u ⊻ eqb (bits * w + k) u) e
      (word_cell w v k h ∙ eq-eqb (digit v k) 1 one ∙ sym (ap₂ ◌⊻◌ bit_out (eq-eqb (bits * w + k) (bits * w + k) refl))))
      (λ ne. other_bit s ne ∙ sym (⊻-off (word_cells w v' s)) ∙ ap (λ (b : Bool). word_cells w v' s ⊻ b) (sym (ne_eqb (bits * w + k) s ne)))

  others_in_word : (s : ℕ) → word_cells w v' s ≡ true → word_cells w v s ≡ true
  others_in_word s g = by_cases (ℕ_discrete (bits * w + k) s)
      (λ e. clash g (subst (λ (u : ℕ). word_cells w v' u ≡ false) e bit_out))
      (λ ne. other_bit s ne ∙ g)

-- ws' is ws with the faces of the word's cells added, but for those of the bits of v, which are still to come
pub record WordLeft (K : Cells) (w word v : ℕ) (ws ws' : List ℕ) : Type 0 where
  pub part : (s : ℕ) → word_cells w v s ≡ true → word_cells w word s ≡ true
  pub same : (s : ℕ) → member ws' s ⊻ boundary K (word_cells w v) s ≡ member ws s ⊻ boundary K (word_cells w word) s

module _ (K : Cells) (w word : ℕ) where
  pub all_left : (ws : List ℕ) → WordLeft K w word word ws ws
  all_left ws = record { part = λ s e. e; same = λ s. refl }

  module _ (v k : ℕ) (ws ws' : List ℕ) (h : k < bits) (one : digit v k ≡ 1) (left : WordLeft K w word v ws ws') where
    -- the cell of a bit that is left is live
    pub left_live : WordLive K w word → K.live (bits * w + k) ≡ true
    left_live living = living.each (bits * w + k) (left.part (bits * w + k) (word_cell w v k h ∙ eq-eqb (digit v k) 1 one))

    pub one_less : (v' : ℕ) (ws'' : List ℕ) → bits * w + k < K.size → v' ≡ bit_xor v ((1 * 2 ^ k) % 2 ^ 64) → FacesAdded K (bits * w + k) ws' ws'' → WordLeft K w word v' ws ws''
    one_less v' ws'' inside less added = record {
      part = λ s e. left.part s (others_in_word w v k v' h one less s e);
      same = λ s. ap (λ (b : Bool). b ⊻ boundary K (word_cells w v') s) (added.same s)
          ∙ ⊻-assoc (member ws' s) (K.inc (bits * w + k) s) (boundary K (word_cells w v') s)
          ∙ ap (λ (b : Bool). member ws' s ⊻ b) (⊻-comm (K.inc (bits * w + k) s) (boundary K (word_cells w v') s)
          ∙ sym (boundary_with_one K (word_cells w v) (word_cells w v') (bits * w + k) inside (bit_and_others w v k v' h one less) s))
          ∙ left.same s;
    }

  pub none_left : (v : ℕ) (ws ws' : List ℕ) → v ≡ 0 → length ws' ≡ length ws → ((i : ℕ) → get_or ws' i 0 < 2 ^ 64) → WordLeft K w word v ws ws' → WordAdded K w word ws ws'
  none_left v ws ws' e long small left = record {
    long = long;
    small = small;
    same = λ s. sym (⊻-off (member ws' s))
        ∙ ap (λ (b : Bool). member ws' s ⊻ b) (sym (boundary_of_empty K (word_cells w v) (λ c. word_zero w v c e) s))
        ∙ left.same s;
  }
