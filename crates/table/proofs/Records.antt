-- Laws of a record as it is read: when a number is a live cell, and that the seven
-- words by value are the record's faces. What carries them: the cases of the tests. Assumes nothing.
use mathlib.Core.Path.{◌≡◌, refl, sym, ap, ◌∙◌}
use mathlib.Core.Bool.{true, false, false≢true}
use mathlib.Core.Logic.{◌⊎◌, inl, inr, ⊎_elim}
use mathlib.Core.List.{List}
use Prim.Native.Nat.{ℕ, zero, suc, ◌≤◌, ◌<◌}
use native.Mathlib.Omega.{arith}
use borrow.Author.Tests.{le-leb, lt-ltb, le-ltb, leb-true, ltb-true}
use lib.Dec.{leb, ltb}
use lib.ListN.{get_or}
use Rattle.counting.proofs.Cases.{true_or_false, and_left, and_right}
use Rattle.table.specs.Kind.{top, faces}
use Rattle.table.specs.Table.{cells_of, dim, face, faces_of, Live, live}

pub live_true : (t : List ℕ) (c : ℕ) → live t c ≡ true → Live t c
unfolding live
live_true t c e =
    record {
      inside = ltb-true c (cells_of t) (and_left (ltb c (cells_of t)) (leb (dim t c) top) e);
      low = leb-true (dim t c) top (and_right (ltb c (cells_of t)) (leb (dim t c) top) e);
    }

pub live_says : (t : List ℕ) (c : ℕ) → Live t c → live t c ≡ true
unfolding live
live_says t c h = rw (lt-ltb c (cells_of t) h.inside, le-leb (dim t c) top h.low)

-- a number is a live cell, or not
pub live_or_not : (t : List ℕ) (c : ℕ) → Live t c ⊎ (Live t c → ⊥)
live_or_not t c =
    ⊎_elim (λ e. inl (live_true t c e)) (λ e. inr (λ l. false≢true (sym e ∙ live_says t c l))) (true_or_false (live t c))

-- a number outside the table is no live cell
pub outside_dead : (t : List ℕ) (c : ℕ) → cells_of t ≤ c → false ≡ live t c
unfolding live
outside_dead t c h = rw (le-ltb c (cells_of t) h)

seven : (t : List ℕ) (c j : ℕ) → j < faces → get_or (faces_of t c) j 0 ≡ face t c j
seven t c zero h = refl
seven t c (suc zero) h = refl
seven t c (suc (suc zero)) h = refl
seven t c (suc (suc (suc zero))) h = refl
seven t c (suc (suc (suc (suc zero)))) h = refl
seven t c (suc (suc (suc (suc (suc zero))))) h = refl
seven t c (suc (suc (suc (suc (suc (suc zero)))))) h = refl
seven t c (suc (suc (suc (suc (suc (suc (suc j))))))) h = absurd (omega arith)

-- the seven words by value are the record's faces
pub faces_at : (t : List ℕ) (c : ℕ) (fs : List ℕ) → fs ≡ faces_of t c → (j : ℕ) → j < faces → get_or fs j 0 ≡ face t c j
faces_at t c fs e j h = ap (λ (l : List ℕ). get_or l j 0) e ∙ seven t c j h
