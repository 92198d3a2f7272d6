-- The result is cleared.
-- What carries it: a list of n numbers that are all 0. Assumes nothing.
use mathlib.Core.Path.{◌≡◌, ap, ◌∙◌}
use mathlib.Core.List.{List}
use Prim.Native.Nat.{ℕ}
use lib.ListN.{length, get_or, replicate, length-replicate, get_or-replicate}
use lib.IntN.{ℤ, pos}
use Rattle.reading.specs.Sums.{integers}
use Rattle.reading.proofs.Lists.{is_integers}

pub all_cleared : (n : ℕ) (y : List ℤ) → y ≡ replicate n (pos 0) → y ≡ integers n (λ u. pos 0)
all_cleared n y e =
    is_integers n (λ u. pos 0) y (ap length e ∙ length-replicate {A = ℤ} n (pos 0))
    (λ u l. ap (λ w. get_or w u (pos 0)) e ∙ get_or-replicate {A = ℤ} n u (pos 0) (pos 0) l)
