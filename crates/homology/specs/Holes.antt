-- What a hole number is: the greatest number of mod 2 cycles of which no non-empty selection adds up to a boundary.
-- This is demand 3, stated with no rule of counting. A reader must believe these definitions; nothing here is proved.
use Rattle.std.specs.Prelude.{◌≡◌, Bool, true, false, ◌&&◌, ◌||◌, List, [], ◌∷◌, ℕ, suc, ◌≤◌, ◌<◌, length, get_or}
use Rattle.homology.specs.Cells.{Cells, odd, ◌⊻◌}

-- a mod 2 chain: the set of cells whose coefficient is 1
abbrev pub Chain : Type 0
Chain = ℕ → Bool

abbrev pub none : Chain
none c = false

abbrev pub sum : Chain → Chain → Chain
sum x y c = x c ⊻ y c

-- a p-chain has live cells of dimension p alone
pub record IsChain (K : Cells) (p : ℕ) (x : Chain) : Type 0 where
  pub below : (c : ℕ) → x c ≡ true → c < K.size
  pub living : (c : ℕ) → x c ≡ true → K.live c ≡ true
  pub level : (c : ℕ) → x c ≡ true → K.dim c ≡ p

-- cell t is in the boundary of x when an odd number of x's cells have it as a face an odd number of times
unfoldable pub boundary : Cells → Chain → Chain
boundary K x t = odd K.size (λ c. x c && K.inc c t)

pub record IsCycle (K : Cells) (p : ℕ) (x : Chain) : Type 0 where
  pub chain : IsChain K p x
  pub closed : (t : ℕ) → boundary K x t ≡ false

-- x is the boundary of a (p+1)-chain
pub record IsBoundary (K : Cells) (p : ℕ) (x : Chain) : Type 0 where
  pub filling : Chain
  pub chain : IsChain K (suc p) filling
  pub bounds : (t : ℕ) → boundary K filling t ≡ x t

-- A selection of a list's places is a list of marks, one for each place; picked is the sum of what stands at the marked places.
unfoldable pub picked : List Bool → List Chain → Chain
picked [] xs c = false
picked (b ∷ s) [] c = false
picked (b ∷ s) (x ∷ xs) c = (b && x c) ⊻ picked s xs c

-- a selection that has at least one place
unfoldable pub chosen : List Bool → Bool
chosen [] = false
chosen (b ∷ s) = b || chosen s

-- p-cycles of which no non-empty selection of places sums to the boundary of a (p+1)-chain
pub record Independent (K : Cells) (p : ℕ) (xs : List Chain) : Type 0 where
  pub cycles : (i : ℕ) → i < length xs → IsCycle K p (get_or xs i none)
  pub apart : (s : List Bool) → length s ≡ length xs → chosen s ≡ true → IsBoundary K p (picked s xs) → ⊥

-- b is the hole number in dimension p: such a list of length b exists, and none is longer
pub record IsHoleNumber (K : Cells) (p b : ℕ) : Type 0 where
  pub witness : List Chain
  pub independent : Independent K p witness
  pub reached : length witness ≡ b
  pub greatest : (xs : List Chain) → Independent K p xs → length xs ≤ b
