-- Parities of ranges: where nothing counts, where one number counts, and over two ranges that a numbering ties together.
-- What carries the last: counting the pairs of a number and its image in both orders. Assumes nothing.
use mathlib.Core.Path.{◌≡◌, refl, sym, ap, ap₂, subst, ◌∙◌}
use mathlib.Core.Bool.{Bool, true, false, ◌&&◌}
use mathlib.Core.Logic.{⊎_elim}
use Prim.Native.Nat.{ℕ, zero, suc, ◌<◌}
use native.Mathlib.Omega.{arith}
use borrow.Author.Tests.{eq-eqb, ne_eqb, eqb-true, lt-ltb, ltb-true}
use lib.Dec.{eqb, ltb}
use Rattle.counting.proofs.Cases.{same_or_not, and_left, and_right, and_both, not_true_false}
use Rattle.homology.specs.Cells.{Cells, odd, ◌⊻◌}
use Rattle.homology.proofs.Marks.{by_mark, clash, off_⊻, ⊻-off}
use Rattle.homology.proofs.Parity.{odd_cong, odd_none, odd_swap}
use Rattle.renumbering.specs.Renumbering.{CellIn, Renumbering}

pub odd_off : (n : ℕ) (f : ℕ → Bool) → ((c : ℕ) → c < n → f c ≡ false) → odd n f ≡ false
unfolding odd
odd_off zero f h = refl
odd_off (suc n) f h = ap₂ ◌⊻◌ (odd_off n f (λ c l. h c (omega arith))) (h n (omega arith))

odd_single : (n : ℕ) (f : ℕ → Bool) (a : ℕ) → a < n → ((c : ℕ) → (c ≡ a → ⊥) → f c ≡ false) → odd n f ≡ f a
unfolding odd
odd_single zero f a l h = absurd (omega arith)
odd_single (suc n) f a l h =
    ⊎_elim
    (λ e. ap₂ ◌⊻◌ (odd_off n f (λ c k. h c (λ q. omega arith))) (ap f (sym e)) ∙ off_⊻ (f a))
    (λ d. ap₂ ◌⊻◌ (odd_single n f a (omega (arith, d)) h) (h n (λ q. d (sym q))) ∙ ⊻-off (f a))
    (same_or_not a n)

-- what is on only under a test needs no test
pub guard : (b c : Bool) → (c ≡ true → b ≡ true) → b && c ≡ c
guard true c h = refl
guard false true h = h refl
guard false false h = refl

pub under : (b x y : Bool) → (b ≡ true → x ≡ y) → b && x ≡ b && y
under true x y h = h refl
under false x y h = refl

-- a mark counts once, at the one number that it is paired with
row : (b : Bool) (m n : ℕ) → (b ≡ true → m < n) → odd n (λ d. b && eqb m d) ≡ b
row true m n h = odd_single n (λ d. eqb m d) m (h refl) (λ d q. ne_eqb m d (λ e. q (sym e))) ∙ eq-eqb m m refl
row false m n h = odd_none n

all_on : (i b e k : Bool) → i ≡ true → e ≡ true → k ≡ true → (i && b) && e ≡ k && b
all_on i true e k p q r = rw (p, q, r)
all_on i false e k p q r = rw (p, r)

-- whether a number is a cell's
abbrev pub is_in : Cells → ℕ → Bool
is_in K c = ltb c K.size && K.live c

pub in_true : (K : Cells) (c : ℕ) → is_in K c ≡ true → CellIn K c
in_true K c e =
    record {
      below = ltb-true c K.size (and_left (ltb c K.size) (K.live c) e);
      living = and_right (ltb c K.size) (K.live c) e;
    }

pub in_says : (K : Cells) (c : ℕ) → CellIn K c → is_in K c ≡ true
in_says K c h = and_both (ltb c K.size) (K.live c) (lt-ltb c K.size h.below) h.living

module _ (K K' : Cells) (σ τ : ℕ → ℕ) (a : Renumbering K K' σ τ) (h : ℕ → Bool) where
  abbrev old : ℕ → Bool
  old c = is_in K c && h c

  abbrev pair : ℕ → ℕ → Bool
  pair c d = old c && eqb (σ c) d

  pair_old : (c d : ℕ) → pair c d ≡ true → CellIn K c
  pair_old c d e = in_true K c (and_left (is_in K c) (h c) (and_left (old c) (eqb (σ c) d) e))

  pair_new : (c d : ℕ) → pair c d ≡ true → σ c ≡ d
  pair_new c d e = eqb-true (σ c) d (and_right (old c) (eqb (σ c) d) e)

  each_row : (c : ℕ) → odd K'.size (λ d. pair c d) ≡ old c
  each_row c = row (old c) (σ c) K'.size (λ e. (a.there c (in_true K c (and_left (is_in K c) (h c) e))).below)

  each_column : (d : ℕ) → odd K.size (λ c. pair c d) ≡ is_in K' d && h (τ d)
  each_column d = by_mark (is_in K' d) inside outside
    where
      inside : is_in K' d ≡ true → odd K.size (λ c. pair c d) ≡ is_in K' d && h (τ d)
      inside e =
          let i : CellIn K' d = in_true K' d e in
          odd_single K.size (λ c. pair c d) (τ d) (a.back d i).below
          (λ c n. not_true_false (pair c d) (λ q. n (sym (a.there_back c (pair_old c d q)) ∙ ap τ (pair_new c d q))))
          ∙ all_on (is_in K (τ d)) (h (τ d)) (eqb (σ (τ d)) d) (is_in K' d)
          (in_says K (τ d) (a.back d i)) (eq-eqb (σ (τ d)) d (a.back_there d i)) e

      outside : is_in K' d ≡ false → odd K.size (λ c. pair c d) ≡ is_in K' d && h (τ d)
      outside e =
          odd_off K.size (λ c. pair c d)
          (λ c l.
          not_true_false (pair c d) (λ q.
          clash (in_says K' d (subst (CellIn K') (pair_new c d q) (a.there c (pair_old c d q)))) e))
          ∙ sym (ap (λ b. b && h (τ d)) e)

  -- the parity over the cells of one is that over the cells of the other
  pub odd_moved : odd K'.size (λ d. is_in K' d && h (τ d)) ≡ odd K.size (λ c. is_in K c && h c)
  odd_moved =
      odd_cong K'.size _ _ (λ d. sym (each_column d))
      ∙ odd_swap K'.size K.size pair
      ∙ odd_cong K.size _ _ each_row
