-- The boundary of a chain with integer coefficients: at each (p−1)-cell the sum of coefficient times incidence, and 0 elsewhere.
-- Beside it the published form, in which the boundary of a cell is the sum of (−1)^i times its face i, extended linearly.
-- A reader must believe these definitions; nothing here is proved.
use Rattle.std.specs.Prelude.{Bool, ◌&&◌, ◌||◌, not, List, [], ◌∷◌, ℕ, zero, suc, ◌^◌, ◌%◌, length, get_or, ℤ, pos, neg_ℤ, ◌*ℤ◌, nat_abs, eqb, leb, ltb}
use Rattle.counting.specs.Counting.{pick, all}
use Rattle.table.specs.Kind.{top, used}
use Rattle.table.specs.Table.{cells_of, dim, face, is_cell}
use Rattle.audit.specs.Audit.{grounds_with}
use Rattle.calls.specs.Calls.{Ground, verdict, on_verdict}
use Rattle.calls.specs.declared.Refusal.TheVariants.{NoSuchPlace, TooLarge, Misplaced}
use Rattle.calls.specs.Calls.{Verdict}
use Rattle.reading.specs.Sums.{sum_to, sign, integers}
use Rattle.reading.specs.Incidence.{incidence_of}

-- the boundary of the p-chain x; a chain gives each cell number its coefficient, and what stands at other numbers does not count
unfoldable pub boundary_of : List ℕ → ℕ → (ℕ → ℤ) → ℕ → ℤ
boundary_of t zero x u = pos 0
boundary_of t (suc p) x u =
    pick (is_cell t p u) (sum_to (cells_of t) (λ c. pick (is_cell t (suc p) c) (x c *ℤ incidence_of t c u) (pos 0))) (pos 0)

-- the chain that is 1 at cell c
unfoldable pub one : ℕ → ℕ → ℤ
one c u = pick (eqb c u) (pos 1) (pos 0)

-- as published: s∂ = Σ (−1)^i s d_i, and (Σ x_c c)∂ = Σ x_c (c∂)
unfoldable pub cell_boundary : List ℕ → ℕ → ℕ → ℤ
cell_boundary t s u = sum_to (used (dim t s)) (λ i. sign i *ℤ one (face t s i) u)

unfoldable pub published_boundary : List ℕ → ℕ → (ℕ → ℤ) → ℕ → ℤ
published_boundary t p x u = sum_to (cells_of t) (λ c. pick (is_cell t p c) (x c *ℤ cell_boundary t c u) (pos 0))

-- The sums on the way: the boundary of the first n cells of a p-chain, and what the places of the next one add.
-- z with the sign of place j
unfoldable pub turned : ℕ → ℤ → ℤ
turned j z = pick (eqb (j % 2) 0) z (neg_ℤ z)

-- what place j of cell c adds at u where the coefficient of c is z
unfoldable pub place_adds : List ℕ → ℕ → ℤ → ℕ → ℕ → ℤ
place_adds t c z u j = pick (eqb (face t c j) u) (turned j z) (pos 0)

-- the boundary of the first n cells of a p-chain
unfoldable pub reached : List ℕ → ℕ → (ℕ → ℤ) → ℕ → ℕ → ℤ
reached t p x n u = sum_to n (λ c. pick (is_cell t p c) (x c *ℤ cell_boundary t c u) (pos 0))

-- the largest coefficient that a call takes, either sign
abbrev pub limit : ℕ
limit = 2 ^ 40

-- the coefficient at c of a lent chain
abbrev pub coefficient : List ℤ → ℕ → ℤ
coefficient x c = get_or x c (pos 0)

-- whether the chain and the result have a number for each cell
unfoldable pub lengths_fit : List ℕ → List ℤ → List ℤ → Bool
lengths_fit t x result = eqb (length x) (cells_of t) && eqb (length result) (cells_of t)

-- whether the first n coefficients lie within the limit
unfoldable pub all_small : ℕ → List ℤ → Bool
all_small n x = all n (λ c. leb (nat_abs (coefficient x c)) limit)

-- whether every coefficient that is not 0 stands at a live p-cell
unfoldable pub all_placed : List ℕ → List ℤ → ℕ → Bool
all_placed t x p = all (cells_of t) (λ c. eqb (nat_abs (coefficient x c)) 0 || is_cell t p c)

-- the grounds that the chain and its dimension give, after those of the table
abbrev pub chain_grounds : List ℕ → List ℤ → ℕ → List Ground
chain_grounds t x p =
    record { refusal = NoSuchPlace; applies = ltb top p }
    ∷ record { refusal = TooLarge; applies = not (all_small (cells_of t) x) }
    ∷ record { refusal = Misplaced; applies = not (all_placed t x p) }
    ∷ []

abbrev pub boundary_grounds : List ℕ → List ℤ → ℕ → List ℤ → List Ground
boundary_grounds t x p result = grounds_with t (lengths_fit t x result) (chain_grounds t x p)

unfoldable pub boundary_verdict : List ℕ → List ℤ → ℕ → List ℤ → Verdict
boundary_verdict t x p result = verdict (boundary_grounds t x p result)

-- what the call leaves in the result
abbrev pub boundary_leaves : List ℕ → List ℤ → ℕ → List ℤ → List ℤ
boundary_leaves t x p result =
    on_verdict (boundary_verdict t x p result) (integers (cells_of t) (boundary_of t p (coefficient x))) (λ r. result)
