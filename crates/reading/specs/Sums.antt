-- Finite sums of integers, and the sign of a face place.
-- A reader must believe these definitions; nothing here is proved.
use Rattle.std.specs.Prelude.{List, [], ◌∷◌, ℕ, zero, suc, ◌%◌, ℤ, pos, negsuc, ◌+ℤ◌, eqb}
use Rattle.counting.specs.Counting.{pick}

-- f 0 + f 1 + .. + f (n − 1)
unfoldable pub sum_to : ℕ → (ℕ → ℤ) → ℤ
sum_to zero f = pos 0
sum_to (suc n) f = sum_to n f +ℤ f n

-- (−1)^j
unfoldable pub sign : ℕ → ℤ
sign j = pick (eqb (j % 2) 0) (pos 1) (negsuc 0)

-- the list f 0, f 1, .. of n integers
unfoldable pub integers : ℕ → (ℕ → ℤ) → List ℤ
integers zero f = []
integers (suc n) f = f 0 ∷ integers n (λ k. f (suc k))
