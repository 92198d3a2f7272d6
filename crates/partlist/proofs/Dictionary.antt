-- Dictionary order is an order, and the comparison of two lists tells it; so does that of two cells.
-- What carries it: recursion on both lists. Assumes nothing.
use mathlib.Core.Path.{◌≡◌, refl, sym, ap₂, ◌∙◌}
use mathlib.Core.Logic.{◌⊎◌, inl, inr}
use mathlib.Core.List.{List, [], ◌∷◌, tail-eq_of_cons-eq}
use Prim.Native.Nat.{ℕ, ◌<◌}
use native.Mathlib.Omega.{arith}
use lib.ListN.{length}
use Rattle.counting.specs.Dictionary.{Before}
use Rattle.partlist.specs.Sorting.{Compared, less, same, more, compared_numbers, first_of, compared_lists}
use Rattle.partlist.specs.Cells.{Earlier, compared_cells}
use Rattle.partlist.proofs.Sorting.{Tells, numbers_tell}

-- two different answers of a comparison
less_same : {A : Type 0} → less ≡ same → A
less_same e = absurd (let z : ◌≡◌ {A = ℕ} 0 1 = cc in omega arith)

less_more : {A : Type 0} → less ≡ more → A
less_more e = absurd (let z : ◌≡◌ {A = ℕ} 0 1 = cc in omega arith)

same_more : {A : Type 0} → same ≡ more → A
same_more e = absurd (let z : ◌≡◌ {A = ℕ} 0 1 = cc in omega arith)

on_less : (l m : List ℕ) → compared_lists l m ≡ less → Before l m
unfolding compared_lists
on_less [] [] e = less_same (sym e)
on_less [] (b ∷ m) e = tt
on_less (a ∷ l) [] e = less_more (sym e)
on_less (a ∷ l) (b ∷ m) e = go (compared_numbers a b) refl e (on_less l m)
  where
    go :
        (x : Compared) → compared_numbers a b ≡ x → first_of x (compared_lists l m) ≡ less → (compared_lists l m ≡ less → Before l m) →
        Before (a ∷ l) (b ∷ m)
    go less i k rest = inl (numbers_tell.on_less a b i)
    go same i k rest = inr (numbers_tell.on_same a b i, rest k)
    go more i k rest = less_more (sym k)

on_same : (l m : List ℕ) → compared_lists l m ≡ same → l ≡ m
unfolding compared_lists
on_same [] [] e = refl
on_same [] (b ∷ m) e = less_same e
on_same (a ∷ l) [] e = same_more (sym e)
on_same (a ∷ l) (b ∷ m) e = go (compared_numbers a b) refl e (on_same l m)
  where
    go : (x : Compared) → compared_numbers a b ≡ x → first_of x (compared_lists l m) ≡ same → (compared_lists l m ≡ same → l ≡ m) → a ∷ l ≡ b ∷ m
    go less i k rest = less_same k
    go same i k rest = ap₂ ◌∷◌ (numbers_tell.on_same a b i) (rest k)
    go more i k rest = same_more (sym k)

on_more : (l m : List ℕ) → compared_lists l m ≡ more → Before m l
unfolding compared_lists
on_more [] [] e = same_more e
on_more [] (b ∷ m) e = less_more e
on_more (a ∷ l) [] e = tt
on_more (a ∷ l) (b ∷ m) e = go (compared_numbers a b) refl e (on_more l m)
  where
    go :
        (x : Compared) → compared_numbers a b ≡ x → first_of x (compared_lists l m) ≡ more → (compared_lists l m ≡ more → Before m l) →
        Before (b ∷ m) (a ∷ l)
    go less i k rest = less_more k
    go same i k rest = inr (sym (numbers_tell.on_same a b i), rest k)
    go more i k rest = inl (numbers_tell.on_more a b i)

chain : (k l m : List ℕ) → Before k l → Before l m → Before k m
chain [] [] m h i = absurd h
chain [] (b ∷ l) [] h i = absurd i
chain [] (b ∷ l) (c ∷ m) h i = tt
chain (a ∷ k) [] m h i = absurd h
chain (a ∷ k) (b ∷ l) [] h i = absurd i
chain (a ∷ k) (b ∷ l) (c ∷ m) h i = go h i (chain k l m)
  where
    go : (a < b) ⊎ ((a ≡ b) × Before k l) → (b < c) ⊎ ((b ≡ c) × Before l m) → (Before k l → Before l m → Before k m) → Before (a ∷ k) (c ∷ m)
    go (inl x) (inl y) rest = inl (omega arith)
    go (inl x) (inr y) rest = inl (omega (arith, y.0))
    go (inr x) (inl y) rest = inl (omega (arith, x.0))
    go (inr x) (inr y) rest = inr (x.0 ∙ y.0, rest x.1 y.1)

apart : (l : List ℕ) → Before l l → ⊥
apart [] h = h
apart (a ∷ l) h = go h (apart l)
  where
    go : (a < a) ⊎ ((a ≡ a) × Before l l) → (Before l l → ⊥) → ⊥
    go (inl x) rest = omega arith
    go (inr x) rest = rest x.1

pub cells_tell : Tells Earlier compared_cells
unfolding compared_cells
cells_tell =
    record {
      on_less = λ σ τ e. on_less (length σ ∷ σ) (length τ ∷ τ) e;
      on_same = λ σ τ e. tail-eq_of_cons-eq (on_same (length σ ∷ σ) (length τ ∷ τ) e);
      on_more = λ σ τ e. on_more (length σ ∷ σ) (length τ ∷ τ) e;
      chain = λ ρ σ τ h i. chain (length ρ ∷ ρ) (length σ ∷ σ) (length τ ∷ τ) h i;
      apart = λ σ h. apart (length σ ∷ σ) h;
    }
