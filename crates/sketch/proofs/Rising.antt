-- Numbers that rise are the first, the second and so on of the numbers that have the property of being one of them.
-- What carries it: between one of them and the next no number has the property, so the count stands still. Assumes nothing.
use mathlib.Core.Path.{◌≡◌, ap, sym, subst, ◌∙◌}
use mathlib.Core.Bool.{Bool, true, false}
use mathlib.Core.Logic.{◌⊎◌, inl, inr, ⊎_elim}
use Prim.Native.Nat.{ℕ, zero, suc, ◌≤◌, ◌<◌}
use native.Mathlib.Nat.{not-suc-le-zero, le_of_suc-le-suc, eq-or-lt_of_le}
use native.Mathlib.Omega.{arith}
use Rattle.counting.specs.Counting.{how_many, nth}
use Rattle.counting.proofs.Cases.{below_or_not, true_or_false}
use Rattle.counting.proofs.Counting.{how_many_zero, how_many_yes, how_many_no, rank_nth}

-- where no number has the property the count stands still
how_many_still : (h : ℕ → Bool) (m n : ℕ) → m ≤ n → ((c : ℕ) → m ≤ c → c < n → h c ≡ false) → how_many h n ≡ how_many h m
how_many_still h m zero l none = let e : m ≡ 0 = omega arith in rw e
how_many_still h m (suc n) l none =
    ⊎_elim (λ e. rw e)
    (λ b. how_many_no h n (none n (le_of_suc-le-suc b) (omega arith)) ∙ how_many_still h m n (le_of_suc-le-suc b) (λ c v w. none c v (omega arith)))
    (eq-or-lt_of_le l)

-- the first number that has the property
pub nth_first : (h : ℕ → Bool) (n k : ℕ) → k < n → h k ≡ true → ((c : ℕ) → c < k → h c ≡ false) → nth h n 0 ≡ k
nth_first h n k l e none =
    ap (nth h n) (sym (how_many_still h 0 k (omega arith) (λ c v w. none c w) ∙ how_many_zero h)) ∙ rank_nth h n k l e

module _ (a : ℕ → ℕ) (k : ℕ) (rising : (i : ℕ) → suc i < k → a i < a (suc i)) where
  pub rising_far : (i j : ℕ) → i < j → j < k → a i < a j
  rising_far i zero h l = absurd (not-suc-le-zero h)
  rising_far i (suc j) h l =
      ⊎_elim (λ e. subst (λ m. a m < a (suc j)) (sym e) (rising j l))
      (λ b. omega (arith, rising_far i j b (omega arith), rising j l))
      (eq-or-lt_of_le (le_of_suc-le-suc h))

  module _ (h : ℕ → Bool) (n : ℕ) (below : (i : ℕ) → i < k → a i < n) (has : (i : ℕ) → i < k → h (a i) ≡ true) (one : (c : ℕ) → c < n → h c ≡ true → (i : ℕ) × (i < k) × (a i ≡ c)) where
    -- a number that is none of them has not the property
    none_of : (c : ℕ) → c < n → ((i : ℕ) → i < k → a i ≡ c → ⊥) → h c ≡ false
    none_of c l other = go (true_or_false (h c))
      where
        go : (h c ≡ true) ⊎ (h c ≡ false) → h c ≡ false
        go (inr e) = e
        go (inl e) = let w = one c l e in absurd (other w.0 w.1 w.2)

    counted : (i : ℕ) → i < k → how_many h (suc (a i)) ≡ suc i
    counted zero l =
        how_many_yes h (a 0) (has 0 l)
        ∙ ap suc (how_many_still h 0 (a 0) (omega arith) before ∙ how_many_zero h)
      where
        before : (c : ℕ) → 0 ≤ c → c < a 0 → h c ≡ false
        before c v w = none_of c (omega (arith, below 0 l)) other
          where
            other : (i : ℕ) → i < k → a i ≡ c → ⊥
            other zero b e = omega arith
            other (suc i) b e = omega (arith, rising_far 0 (suc i) (omega arith) b)
    counted (suc i) l =
        how_many_yes h (a (suc i)) (has (suc i) l)
        ∙ ap suc (how_many_still h (suc (a i)) (a (suc i)) (rising i l) between ∙ counted i (omega arith))
      where
        between : (c : ℕ) → suc (a i) ≤ c → c < a (suc i) → h c ≡ false
        between c v w = none_of c (omega (arith, below (suc i) l)) other
          where
            other : (j : ℕ) → j < k → a j ≡ c → ⊥
            other j b e =
                ⊎_elim
                (λ x. ⊎_elim (λ z. omega (arith, ap a z)) (λ z. omega (arith, rising_far j i z (omega arith))) (eq-or-lt_of_le (le_of_suc-le-suc x)))
                (λ x. ⊎_elim (λ z. omega (arith, ap a z)) (λ z. omega (arith, rising_far (suc i) j z b)) (eq-or-lt_of_le x))
                (below_or_not j (suc i))

    rank : (i : ℕ) → i < k → how_many h (a i) ≡ i
    rank i l = omega (arith, counted i l, how_many_yes h (a i) (has i l))

    pub rising_nth : (i : ℕ) → i < k → nth h n i ≡ a i
    rising_nth i l = ap (nth h n) (sym (rank i l)) ∙ rank_nth h n (a i) (below i l) (has i l)

pub rising_count : (a : ℕ → ℕ) (k : ℕ) (rising : (i : ℕ) → suc i < k → a i < a (suc i)) (h : ℕ → Bool) (n : ℕ) (below : (i : ℕ) → i < k → a i < n) (has : (i : ℕ) → i < k → h (a i) ≡ true) (one : (c : ℕ) → c < n → h c ≡ true → (i : ℕ) × (i < k) × (a i ≡ c)) → how_many h n ≡ k
rising_count a zero rising h n below has one =
    how_many_still h 0 n (omega arith) (λ c v w. none_of a 0 rising h n below has one c w (λ i l e. not-suc-le-zero l)) ∙ how_many_zero h
rising_count a (suc k) rising h n below has one =
    how_many_still h (suc (a k)) n (below k (omega arith)) after ∙ counted a (suc k) rising h n below has one k (omega arith)
  where
    after : (c : ℕ) → suc (a k) ≤ c → c < n → h c ≡ false
    after c v w = none_of a (suc k) rising h n below has one c w other
      where
        other : (i : ℕ) → i < suc k → a i ≡ c → ⊥
        other i b e = ⊎_elim (λ z. omega (arith, ap a z)) (λ z. omega (arith, rising_far a (suc k) rising i k z (omega arith))) (eq-or-lt_of_le (le_of_suc-le-suc b))
