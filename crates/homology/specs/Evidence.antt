-- Evidence for hole numbers: one row of cells for each cell number, and the two printed rules, A and B.
-- A reader must believe these definitions; nothing here is proved.
use Rattle.std.specs.Prelude.{◌≡◌, true, false, ◌&&◌, ℕ, suc, ◌-◌, ◌<◌, eqb}
use Rattle.counting.specs.Counting.{how_many, some_has}
use Rattle.homology.specs.Cells.{Cells}
use Rattle.homology.specs.Holes.{Chain, boundary}

-- row c is a set of cells
abbrev pub Rows : Type 0
Rows = ℕ → Chain

-- Rule A: a free number's row is empty. A live cell's row contains that cell, no higher number, and only live cells of its
-- own dimension.
pub record RuleA (K : Cells) (rows : Rows) (c : ℕ) : Type 0 where
  pub free : K.live c ≡ false → (s : ℕ) → rows c s ≡ false
  pub own : K.live c ≡ true → rows c c ≡ true
  pub highest : K.live c ≡ true → (s : ℕ) → c < s → rows c s ≡ false
  pub alike : K.live c ≡ true → (s : ℕ) → rows c s ≡ true → (K.live s ≡ true) × (K.dim s ≡ K.dim c)

-- m is the largest member of x
pub record IsLargest (x : Chain) (m : ℕ) : Type 0 where
  pub member : x m ≡ true
  pub above : (s : ℕ) → m < s → x s ≡ false

-- Rule B: no lower row's boundary has the same largest cell as row c's. (An empty boundary has no largest cell.)
unfoldable pub RuleB : Cells → Rows → ℕ → Type 0
RuleB K rows c = (b m : ℕ) → b < c → IsLargest (boundary K (rows b)) m → IsLargest (boundary K (rows c)) m → ⊥

-- evidence that meets both rules at every cell number
pub record Meets (K : Cells) (rows : Rows) : Type 0 where
  pub rule_a : (c : ℕ) → c < K.size → RuleA K rows c
  pub rule_b : (c : ℕ) → c < K.size → RuleB K rows c

-- n_p, the number of live p-cells
unfoldable pub cells_in : Cells → ℕ → ℕ
cells_in K p = how_many (λ c. K.live c && eqb (K.dim c) p) K.size

-- r_p, the number of live p-cells whose row has a non-empty boundary
unfoldable pub bounding_in : Cells → Rows → ℕ → ℕ
bounding_in K rows p = how_many (λ c. (K.live c && eqb (K.dim c) p) && some_has (boundary K (rows c)) K.size) K.size

-- b_p = n_p − r_p − r_(p+1)
unfoldable pub holes_in : Cells → Rows → ℕ → ℕ
holes_in K rows p = cells_in K p - bounding_in K rows p - bounding_in K rows (suc p)
