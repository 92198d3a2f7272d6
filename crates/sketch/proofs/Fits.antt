-- What the two tests of a file say, and back.
-- What carries it: the cases of a conjunction, and of a test over all numbers below a bound. Assumes nothing.
use mathlib.Core.Path.{◌≡◌, refl, ap, subst}
use mathlib.Core.Bool.{Bool, true, false, ◌||◌, not}
use mathlib.Core.List.{List}
use Prim.Native.Nat.{ℕ, zero, suc, ◌-◌, ◌≤◌, ◌<◌}
use native.Mathlib.Omega.{arith}
use borrow.Author.Tests.{eq-eqb, ne_eqb, le-leb, lt-ltb, eqb-true, leb-true, ltb-true, not-true}
use lib.ListN.{length}
use lib.Dec.{leb, ltb, eqb}
use Rattle.counting.proofs.Cases.{and_both, and_left, and_right}
use Rattle.counting.specs.Counting.{all}
use Rattle.counting.proofs.Counting.{some_has_each, some_has_none}
use Rattle.counting.proofs.Tests.{or_else_lem, all_true, all_says}
use Rattle.sketch.specs.Form.{two_at, four_at, contents_size, offset_place, body_start}
use Rattle.table.specs.Kind.{dimensions}
use Rattle.sketch.specs.Read.{count_in, number_in, contents_fit, in_body, number_fits, numbers_fit}

-- the contents are in order
pub record Fits (n : ℕ) (f : List ℕ) : Type 0 where
  pub long : contents_size ≤ length f
  pub start : two_at f 0 ≡ n
  pub offset : (p : ℕ) → p < dimensions → four_at f (offset_place p) ≡ body_start (count_in f) p
  pub size : length f ≡ body_start (count_in f) dimensions

module _ (n : ℕ) (f : List ℕ) where
  abbrev offset_fits : ℕ → Bool
  offset_fits p = eqb (four_at f (offset_place p)) (body_start (count_in f) p)

  pub contents_fit_lem : contents_fit n f ≡ true → Fits n f
  unfolding contents_fit
  contents_fit_lem e =
      let later = and_right (leb contents_size (length f)) _ e in
      let last = and_right (eqb (two_at f 0) n) _ later in
      record {
        long = leb-true contents_size (length f) (and_left (leb contents_size (length f)) _ e);
        start = eqb-true (two_at f 0) n (and_left (eqb (two_at f 0) n) _ later);
        offset = λ p h. eqb-true (four_at f (offset_place p)) (body_start (count_in f) p) (all_true offset_fits dimensions (and_left (all dimensions offset_fits) _ last) p h);
        size = eqb-true (length f) (body_start (count_in f) dimensions) (and_right (all dimensions offset_fits) _ last);
      }

  pub fit_contents : Fits n f → contents_fit n f ≡ true
  unfolding contents_fit
  fit_contents w =
      and_both _ _ (le-leb contents_size (length f) w.long)
      (and_both _ _ (eq-eqb (two_at f 0) n w.start)
      (and_both _ _
      (all_says offset_fits dimensions (λ p h. eq-eqb (four_at f (offset_place p)) (body_start (count_in f) p) (w.offset p h)))
      (eq-eqb (length f) (body_start (count_in f) dimensions) w.size)))

-- the numbers of the bodies are in order
pub record Numbered (n : ℕ) (f : List ℕ) : Type 0 where
  pub below : (p i : ℕ) → p < dimensions → i < count_in f p → number_in f p i < n
  pub rising : (p i : ℕ) → p < dimensions → suc i < count_in f p → number_in f p i < number_in f p (suc i)
  pub alone : (p i q : ℕ) → p < dimensions → i < count_in f p → q < p → in_body f q (number_in f p i) ≡ false

module _ (n : ℕ) (f : List ℕ) (p i : ℕ) where
  abbrev low_number : Bool
  low_number = ltb (number_in f p i) n

  abbrev rises_here : Bool
  rises_here = eqb i 0 || ltb (number_in f p (i - 1)) (number_in f p i)

  number_below : number_fits n f p i ≡ true → number_in f p i < n
  unfolding number_fits
  number_below e = ltb-true (number_in f p i) n (and_left low_number _ e)

  number_rises : number_fits n f p i ≡ true → (i ≡ 0 → ⊥) → number_in f p (i - 1) < number_in f p i
  unfolding number_fits
  number_rises e h =
      ltb-true (number_in f p (i - 1)) (number_in f p i) (or_else_lem (eqb i 0) _ (and_left rises_here _ (and_right low_number _ e)) (ne_eqb i 0 h))

  number_alone : number_fits n f p i ≡ true → (q : ℕ) → q < p → in_body f q (number_in f p i) ≡ false
  unfolding number_fits
  number_alone e = some_has_each (λ q. in_body f q (number_in f p i)) p (not-true _ (and_right rises_here _ (and_right low_number _ e)))

  rises_says : (i ≡ 0 → ⊥) → number_in f p (i - 1) < number_in f p i → rises_here ≡ true
  rises_says h l = rw (ne_eqb i 0 h) (lt-ltb (number_in f p (i - 1)) (number_in f p i) l)

  number_says : number_in f p i < n → rises_here ≡ true → ((q : ℕ) → q < p → in_body f q (number_in f p i) ≡ false) → number_fits n f p i ≡ true
  unfolding number_fits
  number_says l r a =
      and_both _ _ (lt-ltb (number_in f p i) n l)
      (and_both _ _ r (ap not (some_has_none (λ q. in_body f q (number_in f p i)) p a)))

first_rises : (n : ℕ) (f : List ℕ) (p i : ℕ) → p < dimensions → i < count_in f p → Numbered n f → rises_here n f p i ≡ true
first_rises n f p zero h l w = refl
first_rises n f p (suc i) h l w =
    rises_says n f p (suc i) (λ e. omega arith)
    (subst (λ k. number_in f p k < number_in f p (suc i)) back (w.rising p i h l))
  where
    back : i ≡ suc i - 1
    back = omega arith

module _ (n : ℕ) (f : List ℕ) where
  each_fits : numbers_fit n f ≡ true → (p i : ℕ) → p < dimensions → i < count_in f p → number_fits n f p i ≡ true
  unfolding numbers_fit
  each_fits e p i h l =
      all_true (number_fits n f p) (count_in f p) (all_true (λ q. all (count_in f q) (number_fits n f q)) dimensions e p h) i l

  pub numbers_fit_lem : numbers_fit n f ≡ true → Numbered n f
  numbers_fit_lem e =
      record {
        below = λ p i h l. number_below n f p i (each_fits e p i h l);
        rising = λ p i h l. subst (λ k. number_in f p k < number_in f p (suc i)) (back i) (number_rises n f p (suc i) (each_fits e p (suc i) h l) (λ z. omega arith));
        alone = λ p i q h l. number_alone n f p i (each_fits e p i h l) q;
      }
    where
      back : (i : ℕ) → suc i - 1 ≡ i
      back i = omega arith

  pub fit_numbers : Numbered n f → numbers_fit n f ≡ true
  unfolding numbers_fit
  fit_numbers w =
      all_says (λ p. all (count_in f p) (number_fits n f p)) dimensions
      (λ p h. all_says (number_fits n f p) (count_in f p)
      (λ i l. number_says n f p i (w.below p i h l) (first_rises n f p i h l w) (λ q. w.alone p i q h l)))
