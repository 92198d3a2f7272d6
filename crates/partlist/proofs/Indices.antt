-- What the test of the indices says: they are below the count, and different within their line.
-- What carries it: the tests of all places, and of all lines. Assumes nothing.
use mathlib.Core.Path.{◌≡◌, refl, sym, ap, ◌∙◌}
use mathlib.Core.Bool.{Bool, true, false, ◌&&◌, not, false≢true}
use mathlib.Core.Logic.{◌⊎◌, inl, inr}
use mathlib.Core.List.Memᴰ.{cases_cons as in_cases}
use mathlib.Core.List.Memᴰ.{not-nil as in_nil}
use mathlib.Core.List.{List, [], ◌∷◌, ◌++◌, Memᴰ as In}
use Prim.Native.Nat.{ℕ, ◌≤◌, ◌<◌}
use native.Mathlib.Omega.{arith}
use borrow.Author.Tests.{eq-eqb, ltb-true}
use lib.Dec.{ltb, eqb}
use lib.ListN.{length, get_or}
use Rattle.counting.proofs.Cases.{and_left, and_right, and_both}
use Rattle.counting.proofs.Counting.{some_has_at}
use Rattle.counting.proofs.Tests.{all_true}
use Rattle.partlist.specs.Sweep.{InRange}
use Rattle.partlist.proofs.Sorting.{stands}
use Rattle.partlist.specs.Indices.{repeated, index_fits, line_fits, list_fits, Fit}

-- one line more
pub fits_more : (n : ℕ) (ls : List (List ℕ)) (l : List ℕ) → list_fits n (ls ++ (l ∷ [])) ≡ (list_fits n ls && line_fits n l)
unfolding list_fits
fits_more n [] l = and_true (line_fits n l)
  where
    and_true : (b : Bool) → (b && true) ≡ b
    and_true true = refl
    and_true false = refl
fits_more n (k ∷ ls) l = ap (λ b. line_fits n k && b) (fits_more n ls l) ∙ and_assoc (line_fits n k) (list_fits n ls) (line_fits n l)
  where
    and_assoc : (a b c : Bool) → (a && (b && c)) ≡ ((a && b) && c)
    and_assoc true b c = refl
    and_assoc false b c = refl

-- the first of some lines fit where all do
pub fits_part : (n : ℕ) (ls ms : List (List ℕ)) → list_fits n (ls ++ ms) ≡ true → list_fits n ls ≡ true
unfolding list_fits
fits_part n [] ms e = refl
fits_part n (l ∷ ls) ms e =
    and_both (line_fits n l) (list_fits n ls) (and_left (line_fits n l) (list_fits n (ls ++ ms)) e)
    (fits_part n ls ms (and_right (line_fits n l) (list_fits n (ls ++ ms)) e))

-- the test of a line says so
pub line_fit : (n : ℕ) (l : List ℕ) → line_fits n l ≡ true → Fit n l
unfolding line_fits index_fits repeated
line_fit n l e =
    record {
      below = λ i h. ltb-true (get_or l i 0) n (and_left _ _ (at i h));
      apart =
          λ j i h k same. false≢true (sym (not_held _ (and_right (ltb (get_or l i 0) n) _ (at i k))) ∙ some_has_at
          (λ j. eqb (get_or l j 0) (get_or l i 0)) i j h (eq-eqb _ _ same));
    }
  where
    not_held : (b : Bool) → not b ≡ true → b ≡ false
    not_held true i = absurd (false≢true i)
    not_held false i = refl

    at : (i : ℕ) → i < length l → index_fits n l i ≡ true
    at i h = all_true (index_fits n l) (length l) e i h

-- indices below n are below any larger number
pub fit_wider : (n m : ℕ) (l : List ℕ) → n ≤ m → Fit n l → Fit m l
fit_wider n m l h f = record { below = λ i k. omega (arith, f.below i k); apart = f.apart }

-- indices that fit are below n
pub fits_range : (n : ℕ) (ls : List (List ℕ)) → list_fits n ls ≡ true → InRange n ls
unfolding list_fits
fits_range n [] e l m a i = absurd (in_nil m)
fits_range n (k ∷ ls) e l m a i = go (in_cases m) (fits_range n ls (and_right (line_fits n k) (list_fits n ls) e) l)
  where
    go : (l ≡ k) ⊎ In l ls → (In l ls → (b : ℕ) → In b l → b < n) → a < n
    go (inl q) rest =
        let w = stands l a i in
        let f = line_fit n l (ap (line_fits n) q ∙ and_left (line_fits n k) (list_fits n ls) e) in
        omega (arith, f.below w.place w.inside, w.stood)
    go (inr h) rest = rest h a i
