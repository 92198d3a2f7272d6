-- One word of a row by itself: the cells that it stands for, and what adding their faces leaves.
-- Cited by the contract of a private function alone, beside the definitions of Rows.antt; nothing here is proved.
use Rattle.std.specs.Prelude.{◌≡◌, true, ◌&&◌, List, ℕ, ◌/◌, ◌%◌, ◌^◌, ◌<◌, length, get_or, eqb}
use Rattle.homology.specs.Cells.{Cells, ◌⊻◌}
use Rattle.homology.specs.Holes.{Chain, boundary}
use Rattle.bitset.specs.Bits.{bits, digit, member}

-- the cells that v stands for where it is word w of a set
unfoldable pub word_cells : ℕ → ℕ → Chain
word_cells w v s = eqb (s / bits) w && eqb (digit v (s % bits)) 1

-- each of them is a live cell
pub record WordLive (K : Cells) (w v : ℕ) : Type 0 where
  pub each : (s : ℕ) → word_cells w v s ≡ true → K.live s ≡ true

-- the words after the faces of these cells were added
pub record WordAdded (K : Cells) (w v : ℕ) (ws ws' : List ℕ) : Type 0 where
  pub long : length ws' ≡ length ws
  pub small : (k : ℕ) → get_or ws' k 0 < 2 ^ 64
  pub same : (s : ℕ) → member ws' s ≡ member ws s ⊻ boundary K (word_cells w v) s
