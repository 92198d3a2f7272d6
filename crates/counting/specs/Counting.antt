-- Choosing by a test, testing and counting the numbers that have a property, picking the k-th of them, sums, and lists given place by place.
-- A reader must believe these definitions; nothing here is proved.
use Rattle.std.specs.Prelude.{Bool, true, false, ◌&&◌, ◌||◌, List, [], ◌∷◌, ℕ, zero, suc, ◌+◌, eqb}

-- the first where the test holds, else the second
abbrev pub pick {ℓ} : {A : Type ℓ} → Bool → A → A → A
pick true a b = a
pick false a b = b

-- how many numbers below n have f
unfoldable pub how_many : (ℕ → Bool) → ℕ → ℕ
how_many f zero = 0
how_many f (suc n) = how_many f n + pick (f n) 1 0

-- f 0 + f 1 + .. + f (n − 1)
unfoldable pub total : (ℕ → ℕ) → ℕ → ℕ
total f zero = 0
total f (suc n) = total f n + f n

-- the number below n that has f and has k numbers with f below it; n where there is none
unfoldable pub nth : (ℕ → Bool) → ℕ → ℕ → ℕ
nth f zero k = 0
nth f (suc n) k = pick (f n && eqb (how_many f n) k) n (pick (eqb (nth f n k) n) (suc n) (nth f n k))

-- whether a number below n has f
unfoldable pub some_has : (ℕ → Bool) → ℕ → Bool
some_has f zero = false
some_has f (suc n) = some_has f n || f n

-- one more than the largest number below n that has f, and 0 where none has
unfoldable pub largest_below : (ℕ → Bool) → ℕ → ℕ
largest_below f zero = 0
largest_below f (suc n) = pick (f n) (suc n) (largest_below f n)

-- whether all numbers below n have f
unfoldable pub all : ℕ → (ℕ → Bool) → Bool
all zero f = true
all (suc n) f = all n f && f n

-- the list f 0, f 1, .. of n numbers
unfoldable pub listed : ℕ → (ℕ → ℕ) → List ℕ
listed zero f = []
listed (suc n) f = f 0 ∷ listed n (λ k. f (suc k))
