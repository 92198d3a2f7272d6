-- Evidence as lent words: N rows of W words each, W = N/64 rounded up; row c is a set of cells. Of a table it sees the cells alone.
-- A reader must believe these definitions; nothing here is proved.
use Rattle.std.specs.Prelude.{◌≡◌, true, List, ℕ, ◌*◌, ◌^◌, ◌<◌, length, get_or}
use Rattle.homology.specs.Cells.{Cells, ◌⊻◌}
use Rattle.homology.specs.Holes.{Chain}
use Rattle.bitset.specs.Bits.{words_for, full_width, member}
use Rattle.bitset.specs.Rows.{row_at}

-- words in a row
abbrev pub row_width : Cells → ℕ
row_width K = words_for K.size

-- words of evidence for all cells
abbrev pub evidence_words : Cells → ℕ
evidence_words K = K.size * row_width K

-- the words of row c
unfoldable pub row_of : Cells → List ℕ → ℕ → List ℕ
row_of K ev c = row_at (row_width K) ev c

-- row c as a set of cells
unfoldable pub rows : Cells → List ℕ → ℕ → Chain
rows K ev c s = member (row_of K ev c) s

-- the words are a set of cells given by x, and nothing is in them past the set
pub record SetIs (ws : List ℕ) (x : Chain) : Type 0 where
  pub long : length ws ≡ full_width
  pub small : (k : ℕ) → get_or ws k 0 < 2 ^ 64
  pub same : (s : ℕ) → member ws s ≡ x s

-- the words after the faces of cell c were added, each as often as it is one
pub record FacesAdded (K : Cells) (c : ℕ) (ws ws' : List ℕ) : Type 0 where
  pub long : length ws' ≡ length ws
  pub same : (s : ℕ) → member ws' s ≡ member ws s ⊻ K.inc c s

-- every member of row c is a live cell
pub record RowLive (K : Cells) (ev : List ℕ) (c : ℕ) : Type 0 where
  pub each : (s : ℕ) → rows K ev c s ≡ true → K.live s ≡ true
