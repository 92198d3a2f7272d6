-- The sweep from the top down that gives a sorted list of corner lists all facets of its entries: what holds on the way.
-- A reader need not believe this file: no public call cites it.
use mathlib.Core.List.{List, [], ◌∷◌, ◌++◌, Memᴰ as In}
use Rattle.std.specs.Prelude.{ℕ, zero, suc, ◌≤◌, ◌<◌, length, take, drop}
use Rattle.partlist.specs.Text.{longest_line}
use Rattle.partlist.specs.Sorting.{Sorted, compared_numbers, sorted_up}
use Rattle.partlist.specs.Cells.{IsCell, Earlier}
use Rattle.partlist.specs.ListTable.{without, corners_at}

-- the list with a at place k, and what stood there and after it one place further
unfoldable pub put_at : {A : Type 0} → ℕ → A → List A → List A
put_at k a l = take k l ++ (a ∷ drop k l)

-- the place k of a list is that of σ: entries below it come before σ, the one there comes after it
pub record Fitting (cs : List (List ℕ)) (σ : List ℕ) (k : ℕ) : Type 0 where
  pub inside : k ≤ length cs
  pub low : (i : ℕ) → i < k → Earlier (corners_at cs i) σ
  pub high : k < length cs → Earlier σ (corners_at cs k)

-- the entries are cells in their order, with every point and every line
pub record Gathered (n : ℕ) (ls : List (List ℕ)) (cs : List (List ℕ)) : Type 0 where
  pub sorted : Sorted Earlier cs
  pub cells : (σ : List ℕ) → In σ cs → IsCell n ls σ
  pub points : (i : ℕ) → i < n → In (i ∷ []) cs
  pub lines : (l : List ℕ) → In l ls → In (sorted_up compared_numbers l) cs

-- entry c has its facets at the places below j
abbrev pub FacetsBelow : List (List ℕ) → ℕ → ℕ → Type 0
FacetsBelow cs c j = (i : ℕ) → i < j → i < length (corners_at cs c) → 2 ≤ length (corners_at cs c) → In (without i (corners_at cs c)) cs

-- the entries from c on have all their facets
pub record Swept (n : ℕ) (ls : List (List ℕ)) (cs : List (List ℕ)) (c : ℕ) : Type 0 where
  pub gathered : Gathered n ls cs
  pub inside : c ≤ length cs
  pub closed : (d : ℕ) → c ≤ d → d < length cs → FacetsBelow cs d (length (corners_at cs d))

-- and entry c has those at the places below j
pub record Sweeping (n : ℕ) (ls : List (List ℕ)) (cs : List (List ℕ)) (c j : ℕ) : Type 0 where
  pub swept : Swept n ls cs (suc c)
  pub facets : FacetsBelow cs c j

-- m points from k on
unfoldable pub points_from : ℕ → ℕ → List (List ℕ)
points_from k zero = []
points_from k (suc m) = (k ∷ []) ∷ points_from (suc k) m

-- a list of cells that has every facet of its cells
pub record Complete (cs : List (List ℕ)) : Type 0 where
  pub some : (c : ℕ) → c < length cs → 1 ≤ length (corners_at cs c)
  pub most : (c : ℕ) → c < length cs → length (corners_at cs c) ≤ longest_line
  pub facets : (c j : ℕ) → c < length cs → 2 ≤ length (corners_at cs c) → j < length (corners_at cs c) → In (without j (corners_at cs c)) cs

-- the numbers of all lines are below n
abbrev pub InRange : ℕ → List (List ℕ) → Type 0
InRange n ls = (l : List ℕ) → In l ls → (a : ℕ) → In a l → a < n
