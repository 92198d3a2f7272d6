-- The reducer's rule, addition by addition, as it is printed: a free number's row is empty. Live cells are taken in rising number,
-- and each row starts as the cell alone. While the boundary is non-empty and its largest cell is already the largest of an earlier
-- finished row's boundary, that row is added. Of a table the rule sees the cells alone.
-- A reader must believe these definitions; nothing here is proved.
use Rattle.std.specs.Prelude.{◌≡◌, true, false, ◌&&◌, List, ℕ, zero, suc, ◌+◌, ◌<◌, length, replicate, eqb}
use Rattle.homology.specs.Cells.{Cells}
use Rattle.homology.specs.Holes.{boundary}
use Rattle.homology.specs.Evidence.{IsLargest}
use Rattle.bitset.specs.Bits.{member, toggled, sum_of}
use Rattle.counting.specs.Counting.{pick}
use Rattle.rows.specs.Rows.{row_width, evidence_words, row_of}

-- m is the largest cell of the boundary of the row x
abbrev pub LargestOf : Cells → List ℕ → ℕ → Type 0
LargestOf K x m = IsLargest (boundary K (member x)) m

-- From row x of cell c, n additions of earlier rows of the evidence lead to row y, where the rule stops.
pub data Additions (K : Cells) (ev : List ℕ) (c : ℕ) : List ℕ → ℕ → List ℕ → Type 0 where
  -- no earlier row's boundary has the same largest cell (an empty boundary has none)
  stop : {x : List ℕ} → ((b m : ℕ) → b < c → LargestOf K x m → LargestOf K (row_of K ev b) m → ⊥) → Additions K ev c x 0 x
  -- the earlier row b is added, word by word
  add : {x y : List ℕ} {n : ℕ} (b m : ℕ) → b < c → LargestOf K x m → LargestOf K (row_of K ev b) m → Additions K ev c (sum_of x (row_of K ev b)) n y → Additions K ev c x (suc n) y

-- the empty row, and the row that is cell c alone
abbrev pub empty_row : Cells → List ℕ
empty_row K = replicate (row_width K) 0

unfoldable pub alone : Cells → ℕ → List ℕ
alone K c = toggled (empty_row K) c

-- row c of the evidence is what the rule gives over the rows below it, by n additions
pub record RowByRule (K : Cells) (ev : List ℕ) (c n : ℕ) : Type 0 where
  pub free_row : K.live c ≡ false → row_of K ev c ≡ empty_row K
  pub free_none : K.live c ≡ false → n ≡ 0
  pub live_row : K.live c ≡ true → Additions K ev c (alone K c) n (row_of K ev c)

-- the whole evidence is what the rule gives; adds c is the number of additions made for cell c
pub record ByRule (K : Cells) (ev : List ℕ) (adds : ℕ → ℕ) : Type 0 where
  pub size : length ev ≡ evidence_words K
  pub each : (c : ℕ) → c < K.size → RowByRule K ev c (adds c)

-- the additions made for live p-cells below number n
unfoldable pub additions_in : Cells → (ℕ → ℕ) → ℕ → ℕ → ℕ
additions_in K adds p zero = 0
additions_in K adds p (suc n) = additions_in K adds p n + pick (K.live n && eqb (K.dim n) p) (adds n) 0
