-- The sheet test. A table is a sheet when it has a live cell, every live cell is an n-cell or reached from one through faces, and
-- every (n−1)-cell is named at no more than two places of n-cells, where n is the largest live dimension.
-- A reader must believe these definitions; nothing here is proved.
use Rattle.std.specs.Prelude.{◌≡◌, Bool, ◌&&◌, ◌||◌, not, List, ℕ, zero, suc, max, ◌≤◌, ◌<◌, eqb, leb}
use Rattle.counting.specs.Counting.{how_many, some_has, total, pick, all}
use Rattle.table.specs.Kind.{used}
use Rattle.table.specs.Table.{cells_of, dim, face, Live, live, is_cell}
use Rattle.audit.specs.Audit.{audit_grounds}
use Rattle.calls.specs.Calls.{verdict, on_verdict}
use Rattle.std.specs.declared.result.Result.{Result}
use Rattle.calls.specs.declared.Refusal.{Refusal}
use Rattle.std.specs.declared.result.Result.TheVariants.{Ok, Err}

-- an n-cell, or a face of a cell that is reached
pub data Reached (t : List ℕ) (n : ℕ) : ℕ → Type 0 where
  itself : {c : ℕ} → Live t c → dim t c ≡ n → Reached t n c
  through : {s : ℕ} (j : ℕ) → Reached t n s → j < used (dim t s) → Reached t n (face t s j)

-- whether u is a face of c, at whatever place
unfoldable pub has_face : List ℕ → ℕ → ℕ → Bool
has_face t c u = some_has (λ j. eqb (face t c j) u) (used (dim t c))

-- how many places of c name u
unfoldable pub places : List ℕ → ℕ → ℕ → ℕ
places t c u = how_many (λ j. eqb (face t c j) u) (used (dim t c))

-- how many pairs of an n-cell and a place of it name u
unfoldable pub wings : List ℕ → ℕ → ℕ → ℕ
wings t n u = total (λ c. pick (is_cell t n c) (places t c u) 0) (cells_of t)

-- the sheet as it is described, n its dimension, where an (n−1)-cell u has w u wings
pub record SheetBy (w : ℕ → ℕ) (t : List ℕ) (n : ℕ) : Type 0 where
  pub cell : ℕ
  pub living : Live t cell
  pub level : dim t cell ≡ n
  pub largest : (c : ℕ) → Live t c → dim t c ≤ n
  pub reached : (c : ℕ) → Live t c → Reached t n c
  pub two_wings : (u : ℕ) → Live t u → n ≡ suc (dim t u) → w u ≤ 2

abbrev pub IsSheet : List ℕ → ℕ → Type 0
IsSheet t n = SheetBy (wings t n) t n

-- the largest live dimension below cell number m; 0 where there is none
unfoldable pub largest_dim_below : List ℕ → ℕ → ℕ
largest_dim_below t zero = 0
largest_dim_below t (suc m) = pick (live t m) (max (largest_dim_below t m) (dim t m)) (largest_dim_below t m)

unfoldable pub largest_dim : List ℕ → ℕ
largest_dim t = largest_dim_below t (cells_of t)

-- whether u is a face of a live cell
unfoldable pub covered : List ℕ → ℕ → Bool
covered t u = some_has (λ c. live t c && has_face t c u) (cells_of t)

-- What the call computes: a live cell that is no n-cell is a face of some cell. That this is the same is proved in proofs/.
unfoldable pub is_sheet : List ℕ → Bool
is_sheet t =
    some_has (live t) (cells_of t)
    && (all (cells_of t) (λ c. not (live t c) || (eqb (dim t c) (largest_dim t) || covered t c))
    && all (cells_of t) (λ u. not (live t u && eqb (suc (dim t u)) (largest_dim t)) || leb (wings t (largest_dim t) u) 2))

abbrev pub sheet_answer : List ℕ → Result Bool Refusal
sheet_answer t = on_verdict (verdict (audit_grounds t)) (Ok (is_sheet t)) Err
