-- Laws of counting the numbers that have a property and of picking the k-th of them: rank and pick undo each other.
-- What carries them: recursion on the bound, with the cases of the property at the bound. Assumes nothing.
use mathlib.Core.Path.{◌≡◌, refl, sym, ap, ◌∙◌}
use mathlib.Core.Bool.{Bool, true, false, ◌&&◌, ◌||◌, false≢true}
use mathlib.Core.Logic.{◌⊎◌, inl, inr, ⊎_elim}
use Prim.Native.Nat.{ℕ, zero, suc, ◌+◌, ◌≤◌, ◌<◌}
use native.Mathlib.Nat.{not-suc-le-zero, le_of_suc-le-suc, eq-or-lt_of_le}
use native.Mathlib.Numerals.{add-one}
use native.Mathlib.Omega.{arith}
use borrow.Author.Tests.{eq-eqb, ne_eqb}
use lib.Dec.{eqb}
use Rattle.counting.proofs.Cases.{below_or_not, true_or_false}
use Rattle.counting.specs.Counting.{how_many, nth, some_has, pick}

module _ (f : ℕ → Bool) where
  -- how_many: at the start, at a number that has f, and at one that has not
  pub how_many_zero : how_many f 0 ≡ 0
  unfolding how_many
  how_many_zero = refl

  pub how_many_yes : (n : ℕ) → f n ≡ true → how_many f (suc n) ≡ suc (how_many f n)
  unfolding how_many
  how_many_yes n e = rw e (omega arith)

  pub how_many_no : (n : ℕ) → f n ≡ false → how_many f (suc n) ≡ how_many f n
  unfolding how_many
  how_many_no n e = rw e (omega arith)

  pub how_many_yes_more : (n : ℕ) → f n ≡ true → how_many f (n + 1) ≡ how_many f n + 1
  how_many_yes_more n e = rw (add-one n) (omega (arith, how_many_yes n e))

  pub how_many_no_more : (n : ℕ) → f n ≡ false → how_many f (n + 1) ≡ how_many f n
  how_many_no_more n e = rw (add-one n) (how_many_no n e)

  -- one number more counts at most once
  pub how_many_step : (n : ℕ) → (how_many f n ≤ how_many f (suc n)) × (how_many f (suc n) ≤ suc (how_many f n))
  how_many_step n =
      ⊎_elim
      (λ e. (omega (arith, how_many_yes n e), omega (arith, how_many_yes n e)))
      (λ e. (omega (arith, how_many_no n e), omega (arith, how_many_no n e)))
      (true_or_false (f n))

  pub how_many_mono : (m n : ℕ) → m ≤ n → how_many f m ≤ how_many f n
  how_many_mono m zero h = let e : m ≡ 0 = omega arith in rw e (omega arith)
  how_many_mono m (suc n) h =
      ⊎_elim
      (λ e. rw e (omega arith))
      (λ l. omega (arith, how_many_mono m n (le_of_suc-le-suc l), (how_many_step n).0))
      (eq-or-lt_of_le h)

  pub how_many_most : (n : ℕ) → how_many f n ≤ n
  how_many_most zero = omega (arith, how_many_zero)
  how_many_most (suc n) = omega (arith, how_many_most n, (how_many_step n).1)

  -- a number that has f is counted
  pub how_many_strict : (c n : ℕ) → c < n → f c ≡ true → how_many f c < how_many f n
  how_many_strict c n h e = omega (arith, how_many_yes c e, how_many_mono (suc c) n h)

  -- nth: the number n is picked, an earlier pick stays, and there is none
  pub nth_here : (n k : ℕ) → f n ≡ true → how_many f n ≡ k → nth f (suc n) k ≡ n
  unfolding nth
  nth_here n k e h = rw (e, eq-eqb (how_many f n) k h)

  nth_passed : (n k : ℕ) → (f n && eqb (how_many f n) k) ≡ false → nth f (suc n) k ≡ pick (eqb (nth f n k) n) (suc n) (nth f n k)
  unfolding nth
  nth_passed n k e = rw e

  other_rank : (n k : ℕ) → (how_many f n ≡ k → ⊥) → (f n && eqb (how_many f n) k) ≡ false
  other_rank n k h = go (f n)
    where
      go : (b : Bool) → (b && eqb (how_many f n) k) ≡ false
      go true = ne_eqb (how_many f n) k h
      go false = refl

  lacking : (n k : ℕ) → f n ≡ false → (f n && eqb (how_many f n) k) ≡ false
  lacking n k e = rw e

  pub nth_none : (n k : ℕ) → how_many f n ≤ k → nth f n k ≡ n
  unfolding nth
  nth_none zero k h = refl
  nth_none (suc n) k h =
      nth_passed n k (passed (true_or_false (f n)))
      ∙ ap (λ (b : Bool). pick b (suc n) (nth f n k)) (eq-eqb (nth f n k) n (nth_none n k (omega (arith, (how_many_step n).0))))
    where
      passed : (f n ≡ true) ⊎ (f n ≡ false) → (f n && eqb (how_many f n) k) ≡ false
      passed (inl e) = other_rank n k (λ i. omega (arith, how_many_yes n e))
      passed (inr e) = lacking n k e

  -- what is picked below n: it lies below n, has f, and has k such numbers below it
  abbrev Picked : ℕ → ℕ → ℕ → Type 0
  Picked n k c = (c < n) × (f c ≡ true) × (how_many f c ≡ k)

  nth_keeps : (n k : ℕ) → k < how_many f n → nth f n k < n → nth f (suc n) k ≡ nth f n k
  nth_keeps n k h l =
      nth_passed n k (other_rank n k (λ i. omega arith))
      ∙ ap (λ (b : Bool). pick b (suc n) (nth f n k)) (ne_eqb (nth f n k) n (λ i. omega arith))

  picked_here : (n k : ℕ) → f n ≡ true → how_many f n ≡ k → Picked (suc n) k (nth f (suc n) k)
  picked_here n k e h = rw (nth_here n k e h) (omega arith, e, h)

  picked_before : (n k : ℕ) → k < how_many f n → Picked n k (nth f n k) → Picked (suc n) k (nth f (suc n) k)
  picked_before n k h p = rw (nth_keeps n k h p.0) (omega (arith, p.0), p.1, p.2)

  picked : (n k : ℕ) → k < how_many f n → Picked n k (nth f n k)
  picked zero k h = absurd (not-suc-le-zero (rw (how_many_zero) at h))
  picked (suc n) k h = go (below_or_not k (how_many f n)) (true_or_false (f n)) (picked n k)
    where
      go : (k < how_many f n) ⊎ (how_many f n ≤ k) → (f n ≡ true) ⊎ (f n ≡ false) → (k < how_many f n → Picked n k (nth f n k)) → Picked (suc n) k (nth f (suc n) k)
      go (inl l) b below = picked_before n k l (below l)
      go (inr l) (inl e) below = picked_here n k e (omega (arith, how_many_yes n e))
      go (inr l) (inr e) below = absurd (omega (arith, how_many_no n e))

  pub nth_below : (n k : ℕ) → k < how_many f n → nth f n k < n
  nth_below n k h = (picked n k h).0

  pub nth_has : (n k : ℕ) → k < how_many f n → f (nth f n k) ≡ true
  nth_has n k h = (picked n k h).1

  pub nth_rank : (n k : ℕ) → k < how_many f n → how_many f (nth f n k) ≡ k
  nth_rank n k h = (picked n k h).2

  -- a pick is the same under every larger bound
  pub nth_suc : (n k : ℕ) → k < how_many f n → nth f (suc n) k ≡ nth f n k
  nth_suc n k h = nth_keeps n k h (nth_below n k h)

  nth_grows : (m n k : ℕ) → k < how_many f m → m ≤ n → nth f n k ≡ nth f m k
  nth_grows m zero k h l = let e : m ≡ 0 = omega arith in rw e
  nth_grows m (suc n) k h l =
      ⊎_elim
      (λ e. rw e)
      (λ b.
      nth_suc n k (omega (arith, how_many_mono m n (le_of_suc-le-suc b)))
      ∙ nth_grows m n k h (le_of_suc-le-suc b))
      (eq-or-lt_of_le l)

  -- a number that has f is the pick of its rank
  pub rank_nth : (n c : ℕ) → c < n → f c ≡ true → nth f n (how_many f c) ≡ c
  rank_nth n c h e =
      nth_grows (suc c) n (how_many f c) (how_many_strict c (suc c) (omega arith) e) h
      ∙ nth_here c (how_many f c) e refl

  pub nth_rising : (n k k' : ℕ) → k < k' → k' < how_many f n → nth f n k < nth f n k'
  nth_rising n k k' h l =
      ⊎_elim
      (λ b. b)
      (λ b.
      absurd
      (omega (arith, how_many_mono (nth f n k') (nth f n k) b, nth_rank n k' l, nth_rank n k (omega arith))))
      (below_or_not (nth f n k) (nth f n k'))

  -- two numbers that have f and the same rank are one
  pub same_rank : (c c' : ℕ) → f c ≡ true → f c' ≡ true → how_many f c ≡ how_many f c' → c ≡ c'
  same_rank c c' e e' h = ⊎_elim (λ l. absurd (omega (arith, how_many_strict c c' l e))) (λ l. go (eq-or-lt_of_le l)) (below_or_not c c')
    where
      go : (c' ≡ c) ⊎ (c' < c) → c ≡ c'
      go (inl i) = sym i
      go (inr l) = absurd (omega (arith, how_many_strict c' c l e'))

  -- the rank of one of the numbers is below the count exactly where the number is below the bound
  pub rank_inside : (c n : ℕ) → how_many f c < how_many f n → c < n
  rank_inside c n h =
      ⊎_elim (λ l. l) (λ l. absurd (omega (arith, how_many_mono n c l))) (below_or_not c n)

  -- some_has: none has f
  pub some_has_each : (n : ℕ) → some_has f n ≡ false → (k : ℕ) → k < n → f k ≡ false
  unfolding some_has
  some_has_each zero e k h = absurd (not-suc-le-zero h)
  some_has_each (suc n) e k h = go (eq-or-lt_of_le (le_of_suc-le-suc h)) (some_has_each n (or_left (some_has f n) (f n) e) k)
    where
      or_left : (a b : Bool) → (a || b) ≡ false → a ≡ false
      or_left true b i = i
      or_left false b i = refl

      or_right : (a b : Bool) → (a || b) ≡ false → b ≡ false
      or_right true b i = absurd (false≢true (sym i))
      or_right false b i = i

      go : (k ≡ n) ⊎ (k < n) → (k < n → f k ≡ false) → f k ≡ false
      go (inl i) below = ap f i ∙ or_right (some_has f n) (f n) e
      go (inr l) below = below l

  pub some_has_none : (n : ℕ) → ((k : ℕ) → k < n → f k ≡ false) → some_has f n ≡ false
  unfolding some_has
  some_has_none zero each = refl
  some_has_none (suc n) each = rw (some_has_none n (λ k h. each k (omega arith)), each n (omega arith))

  -- one has f
  pub some_has_at : (n k : ℕ) → k < n → f k ≡ true → some_has f n ≡ true
  some_has_at n k h e = go (true_or_false (some_has f n))
    where
      go : (some_has f n ≡ true) ⊎ (some_has f n ≡ false) → some_has f n ≡ true
      go (inl i) = i
      go (inr i) = absurd (false≢true (sym (some_has_each n i k h) ∙ e))

  pub some_has_one : (n : ℕ) → some_has f n ≡ true → (k : ℕ) × (k < n) × (f k ≡ true)
  unfolding some_has
  some_has_one zero e = absurd (false≢true e)
  some_has_one (suc n) e = go (true_or_false (some_has f n)) (some_has_one n)
    where
      found : (k : ℕ) × (k < n) × (f k ≡ true) → (k : ℕ) × (k < suc n) × (f k ≡ true)
      found w = (w.0, omega (arith, w.1), w.2)

      go : (some_has f n ≡ true) ⊎ (some_has f n ≡ false) → (some_has f n ≡ true → (k : ℕ) × (k < n) × (f k ≡ true)) → (k : ℕ) × (k < suc n) × (f k ≡ true)
      go (inl i) below = found (below i)
      go (inr i) below = (n, omega arith, rw i at e)

-- two tests that agree below n count the same there
pub how_many_alike : (f g : ℕ → Bool) (n : ℕ) → ((c : ℕ) → c < n → f c ≡ g c) → how_many f n ≡ how_many g n
unfolding how_many
how_many_alike f g zero h = refl
how_many_alike f g (suc n) h =
    omega (arith, how_many_alike f g n (λ c l. h c (omega arith)), ap (λ b. pick {A = ℕ} b 1 0) (h n (omega arith)))

pub how_many_none : (f : ℕ → Bool) (n : ℕ) → ((c : ℕ) → c < n → f c ≡ false) → how_many f n ≡ 0
how_many_none f zero h = how_many_zero f
how_many_none f (suc n) h = how_many_no f n (h n (omega arith)) ∙ how_many_none f n (λ c l. h c (omega arith))
