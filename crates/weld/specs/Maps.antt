-- The map that a list of words holds: word c is where c goes, for c below n, and any other number stays. And what the steps of a weld
-- do to it. The call's own contract does not need this; the contracts of its parts do.
-- A reader need not believe this file: proofs/ ties it to Weld.antt.
use Rattle.std.specs.Prelude.{◌≡◌, List, ℕ, ◌<◌, ◌≤◌, length, get_or, eqb, ltb}
use Rattle.counting.specs.Counting.{pick}
use Rattle.table.specs.Kind.{capacity, faces, free_mark, used}
use Rattle.table.specs.Table.{cells_of, dim, face, Live, Valid}
use Rattle.table.specs.Records.{Record, free_record}
use Rattle.merge.specs.Writing.{sent}

unfoldable pub map_of : ℕ → List ℕ → ℕ → ℕ
map_of n k c = pick (ltb c n) (get_or k c 0) c

-- the map of a table's cells
abbrev pub held_by : List ℕ → List ℕ → ℕ → ℕ
held_by k t = map_of (cells_of t) k

-- n words, which are numbers below n
pub record Maps (n : ℕ) (k : List ℕ) : Type 0 where
  pub size : length k ≡ n
  pub small : (c : ℕ) → c < n → get_or k c 0 < n

-- live cells go to live cells of their dimension
pub record Tied (t : List ℕ) (κ : ℕ → ℕ) : Type 0 where
  pub lives : (c : ℕ) → Live t c → Live t (κ c)
  pub level : (c : ℕ) → Live t c → dim t (κ c) ≡ dim t c

-- a valid table, and words that hold such a map of its cells
pub record Ready (t k : List ℕ) : Type 0 where
  pub valid : Valid t
  pub maps : Maps (cells_of t) k
  pub tied : Tied t (map_of (cells_of t) k)

-- the words k' hold what f makes of the map that k held
pub record Becomes (n : ℕ) (f : (ℕ → ℕ) → ℕ → ℕ) (k k' : List ℕ) : Type 0 where
  pub maps : Maps n k'
  pub map : map_of n k' ≡ f (map_of n k)

-- the words below c of k are those of k₀ with kept for gone; from c on they are those of k₀
pub record Sent (kept gone c : ℕ) (k₀ k : List ℕ) : Type 0 where
  pub size : length k ≡ length k₀
  pub done : (d : ℕ) → d < c → get_or k d 0 ≡ sent kept gone (get_or k₀ d 0)
  pub left : (d : ℕ) → c ≤ d → get_or k d 0 ≡ get_or k₀ d 0

-- record c of a table with its faces sent through ρ, and the record renamed by ρ
abbrev pub sent_on : (ℕ → ℕ) → List ℕ → ℕ → Record
sent_on ρ t c = record { dim = dim t c; face = λ j. ρ (face t c j) }

abbrev pub renamed_record : (ℕ → ℕ) → List ℕ → ℕ → Record
renamed_record ρ t c = pick (eqb (ρ c) c) (sent_on ρ t c) free_record

-- what the renaming of record c asks: its used faces are cells whose images the words hold, and the others are free marks
pub record Renamable (t k : List ℕ) (c : ℕ) : Type 0 where
  pub inside : c < cells_of t
  pub held : cells_of t ≤ length k
  pub room : cells_of t ≤ capacity
  pub cells : (j : ℕ) → j < used (dim t c) → face t c j < cells_of t
  pub unused : (j : ℕ) → used (dim t c) ≤ j → j < faces → face t c j ≡ free_mark
