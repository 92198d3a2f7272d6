-- The arithmetic of the ceiling: 2·a + r·r + r ≤ 2·r·n, one cell more, and what it says of a.
-- What carries it: products taken apart, the rest linear. Assumes nothing.
use mathlib.Core.Path.{◌≡◌, sym, ap, ◌∙◌}
use Prim.Native.Nat.{ℕ, zero, suc, ◌+◌, ◌-◌, ◌*◌, ◌≤◌}
use native.Mathlib.Nat.{suc-mul, mul-suc, mul-add, add-mul, mul_comm, mul-zero}
use native.Mathlib.Omega.{arith}
use Rattle.ceiling.specs.Ceiling.{ceiling}

-- a additions so far, over n cells of which r have bounding rows
abbrev pub Enough : ℕ → ℕ → ℕ → Type 0
Enough a n r = 2 * a + r * r + r ≤ 2 * (r * n)

pub enough_first : Enough 0 0 0
enough_first = omega arith

-- one cell more, with m additions, whose row has an empty boundary
pub enough_closed : (a m n r : ℕ) → m ≤ r → Enough a n r → Enough (a + m) (suc n) r
enough_closed a m n r few so = omega (arith, mul-suc r n)

-- and one whose row has a non-empty boundary
pub enough_bounding : (a m n r : ℕ) → m ≤ r → r ≤ n → Enough a n r → Enough (a + m) (suc n) (suc r)
enough_bounding a m n r few less so = omega (arith, mul-suc r n, suc-mul r (suc n), mul-suc r r, suc-mul r (suc r))

-- r·r + r is even, so the half in the ceiling is exact
even_pair : (r : ℕ) → (k : ℕ) × (r * r + r ≡ 2 * k)
even_pair zero = (0, omega arith)
even_pair (suc r) = let half = even_pair r in (half.0 + suc r, omega (arith, half.1, mul-suc r r, suc-mul r (suc r)))

ceiling_is_exact : (n r : ℕ) → r ≤ n → 2 * ceiling n r + r * r + r ≡ 2 * (r * n)
unfolding ceiling
ceiling_is_exact zero r less = let e : r ≡ 0 = omega arith in rw e
ceiling_is_exact (suc n) r less =
    let d : ℕ = 2 * suc n - r - 1 in
    let whole : d + (r + 1) ≡ 2 * suc n = omega arith in
    omega (arith, (even_pair r).1, ap (λ k. r * k) whole, mul-add r d (r + 1), mul-add r r 1, mul-suc r 0, mul-zero r, mul_two r (suc n))
  where
    mul_two : (r n : ℕ) → r * (2 * n) ≡ 2 * (r * n)
    mul_two r n = ap (λ k. r * k) (two n) ∙ mul-add r n n ∙ sym (two (r * n))
      where
        two : (k : ℕ) → 2 * k ≡ k + k
        two k = omega arith

-- so a is under the ceiling
pub enough_is_under : (a n r : ℕ) → r ≤ n → Enough a n r → a ≤ ceiling n r
enough_is_under a n r less so = omega (arith, ceiling_is_exact n r less)

-- more bounding rows: n at most
square_grows : (k : ℕ) → k ≤ k * k
square_grows zero = omega arith
square_grows (suc k) = omega (arith, mul-suc (suc k) k)

pub enough_more : (a n r : ℕ) → r ≤ n → Enough a n r → Enough a n n
enough_more a n r less so = from (n - r) (omega arith)
  where
    -- n = r + k: n·n = r·r + 2·r·k + k·k
    from : (k : ℕ) → r + k ≡ n → Enough a n n
    from k e = omega (
      arith,
      square_grows k,
      ap (λ i. r * i) (sym e),
      ap (λ i. i * i) (sym e),
      mul-add r r k,
      add-mul r k (r + k),
      mul-add k r k,
      mul_comm k r,
    )
