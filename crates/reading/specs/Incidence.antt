-- Signed incidence of a p-cell s and a (p−1)-cell u: the sum of (−1)^j over all places j with face j of s equal to u.
-- A reader must believe these definitions; nothing here is proved.
use Rattle.std.specs.Prelude.{◌&&◌, not, List, [], ◌∷◌, ℕ, suc, ℤ, pos, eqb}
use Rattle.counting.specs.Counting.{pick}
use Rattle.table.specs.Kind.{used}
use Rattle.table.specs.Table.{dim, face, live}
use Rattle.audit.specs.Audit.{grounds}
use Rattle.calls.specs.Calls.{Ground, verdict, on_verdict}
use Rattle.calls.specs.declared.Refusal.TheVariants.{NotLive, DimensionsDiffer}
use Rattle.std.specs.declared.result.Result.{Result}
use Rattle.calls.specs.declared.Refusal.{Refusal}
use Rattle.std.specs.declared.result.Result.TheVariants.{Ok, Err}
use Rattle.reading.specs.Sums.{sum_to, sign}

unfoldable pub incidence_of : List ℕ → ℕ → ℕ → ℤ
incidence_of t s u = sum_to (used (dim t s)) (λ j. pick (eqb (face t s j) u) (sign j) (pos 0))

-- the grounds that the two cells give, after those of the table
abbrev pub cell_grounds : List ℕ → ℕ → ℕ → List Ground
cell_grounds t s u =
    record { refusal = NotLive; applies = not (live t s && live t u) }
    ∷ record { refusal = DimensionsDiffer; applies = not (eqb (dim t s) (suc (dim t u))) }
    ∷ []

abbrev pub incidence_grounds : List ℕ → ℕ → ℕ → List Ground
incidence_grounds t s u = grounds t (cell_grounds t s u)

abbrev pub incidence_answer : List ℕ → ℕ → ℕ → Result ℤ Refusal
incidence_answer t s u = on_verdict (verdict (incidence_grounds t s u)) (Ok (incidence_of t s u)) Err
