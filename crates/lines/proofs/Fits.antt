-- The test of a line's numbers, one by one from the first, is that of the definitions.
-- What carries it: a test of all elements of a list is one of all its places. Assumes nothing.
use mathlib.Core.Path.{◌≡◌, refl, sym, ap, ap₂, ◌∙◌}
use mathlib.Core.Bool.{Bool, true, false, ◌&&◌, ◌||◌, not}
use mathlib.Core.List.{List, [], ◌∷◌}
use Prim.Native.Nat.{ℕ, zero, suc, ◌≤◌, ◌<◌}
use native.Mathlib.Nat.{zero-add}
use native.Mathlib.Omega.{arith}
use lib.Dec.{ltb, eqb}
use lib.ListN.{length, get_or, take}
use lib.Seq.{take-suc, take-length}
use Rattle.std.specs.List.{list_any, list_all, enumerate_from}
use Rattle.std.proofs.lemmas.List.Folds.{list_any-append, list_all-append}
use Rattle.std.proofs.lemmas.List.FromFn.{length-enumerate_from, get_or-enumerate_from}
use Rattle.counting.specs.Counting.{some_has, all}
use Rattle.partlist.specs.Indices.{repeated, index_fits, line_fits}

-- the number at a place fits
abbrev pub fits_at : ℕ → List ℕ → ℕ × ℕ → Bool
fits_at n xs (i, v) = ltb v n && not (list_any (λ y. eqb y v) (take i xs))

module _ {A : Type 0} (test : A → Bool) (xs : List A) (d : A) where
  any_at_places : (i : ℕ) → i ≤ length xs → list_any test (take i xs) ≡ some_has (λ k. test (get_or xs k d)) i
  unfolding some_has
  any_at_places zero h = refl
  any_at_places (suc i) h =
      ap (list_any test) (take-suc xs i d h)
      ∙ list_any-append test (take i xs) (get_or xs i d ∷ [])
      ∙ ap₂ ◌||◌ (any_at_places i (omega arith)) (or_false (test (get_or xs i d)))
    where
      or_false : (b : Bool) → (b || false) ≡ b
      or_false true = refl
      or_false false = refl

  all_at_places : (i : ℕ) → i ≤ length xs → list_all test (take i xs) ≡ all i (λ k. test (get_or xs k d))
  unfolding all
  all_at_places zero h = refl
  all_at_places (suc i) h =
      ap (list_all test) (take-suc xs i d h)
      ∙ list_all-append test (take i xs) (get_or xs i d ∷ [])
      ∙ ap₂ ◌&&◌ (all_at_places i (omega arith)) (and_true (test (get_or xs i d)))
    where
      and_true : (b : Bool) → (b && true) ≡ b
      and_true true = refl
      and_true false = refl

all_alike : (f g : ℕ → Bool) (n : ℕ) → ((k : ℕ) → k < n → f k ≡ g k) → all n f ≡ all n g
unfolding all
all_alike f g zero h = refl
all_alike f g (suc n) h = ap₂ ◌&&◌ (all_alike f g n (λ k l. h k (omega arith))) (h n (omega arith))

pub all_fit : (n : ℕ) (xs : List ℕ) → list_all (fits_at n xs) (enumerate_from 0 xs) ≡ line_fits n xs
unfolding index_fits repeated line_fits
all_fit n xs =
    ap (list_all (fits_at n xs)) (sym (take-length es))
    ∙ all_at_places (fits_at n xs) es (0, 0) (length es) (omega arith)
    ∙ rw (length-enumerate_from 0 xs) (all_alike _ _ (length xs) at)
  where
    es : List (ℕ × ℕ)
    es = enumerate_from 0 xs

    at : (k : ℕ) → k < length xs → fits_at n xs (get_or es k (0, 0)) ≡ index_fits n xs k
    at k h =
        ap (fits_at n xs) (get_or-enumerate_from 0 xs k (0, 0) h ∙ ap (λ i. (i, get_or xs k 0)) (zero-add k))
        ∙ ap (λ b. ltb (get_or xs k 0) n && not b) (any_at_places (λ y. eqb y (get_or xs k 0)) xs 0 k (omega arith))
