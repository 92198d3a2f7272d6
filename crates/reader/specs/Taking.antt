-- What the reader has taken in on its way through the bodies. The call's own contract does not need these; the contracts of its parts do.
-- A reader need not believe this file: proofs/ ties it to the definitions of the sketch file.
use Rattle.std.specs.Prelude.{◌≡◌, false, not, List, [], ◌∷◌, ◌⊎◌, ℕ, ◌+◌, ◌*◌, ◌<◌, length, get_or, ltb}
use Rattle.counting.specs.Counting.{pick}
use Rattle.table.specs.Kind.{faces, width, free_mark, used}
use Rattle.table.specs.Records.{Record, record_at, free_record, Alike}
use Rattle.calls.specs.Calls.{Verdict, Ground, on_verdict}
use Rattle.calls.specs.declared.Refusal.TheVariants.{BadNumber}
use Rattle.audit.specs.Audit.{on_validity}
use Rattle.sketch.specs.Form.{two_at, face_place}
use Rattle.sketch.specs.Read.{count_in, record_in, number_in, in_body, numbers_fit, described}

-- the face words of the cell of u faces whose record stands at this place: those that it does not use are free
unfoldable pub faces_at : List ℕ → ℕ → ℕ → ℕ → ℕ
faces_at f u at j = pick (ltb j u) (two_at f (at + face_place j)) free_mark

-- seven words by value are the faces g
abbrev pub FacesAre : List ℕ → (ℕ → ℕ) → Type 0
FacesAre fs g = (j : ℕ) → j < faces → get_or fs j 0 ≡ g j

-- the record of the p-cell that stands at this place
abbrev pub record_from : List ℕ → ℕ → ℕ → Record
record_from f p at = record { dim = p; face = faces_at f (used p) at }

-- record k of body q comes before record i of body p
abbrev pub Earlier : List ℕ → ℕ → ℕ → ℕ → ℕ → Type 0
Earlier f p i q k = ((q < p) × (k < count_in f q)) ⊎ ((q ≡ p) × (k < i))

-- no earlier record has the number c
abbrev pub Unmet : List ℕ → ℕ → ℕ → ℕ → Type 0
Unmet f p i c = (q k : ℕ) → Earlier f p i q k → number_in f q k ≡ c → ⊥

-- the k-th number of body q is below n, above those before it, and in no lower body
abbrev pub InOrder : ℕ → List ℕ → ℕ → ℕ → Type 0
InOrder n f q k =
    (number_in f q k < n)
    × ((l : ℕ) → l < k → number_in f q l < number_in f q k)
    × ((r : ℕ) → r < q → in_body f r (number_in f q k) ≡ false)

-- The table of n cells has every record before record i of body p, and is free elsewhere; and the numbers of those records are in order.
pub record Taken (n : ℕ) (f t : List ℕ) (p i : ℕ) : Type 0 where
  pub size : length t ≡ n * width
  pub met : (q k : ℕ) → Earlier f p i q k → Alike (record_at t (number_in f q k)) (record_from f q (record_in f q k))
  pub free : (c : ℕ) → c < n → Unmet f p i c → Alike (record_at t c) free_record
  pub order : (q k : ℕ) → Earlier f p i q k → InOrder n f q k

-- whether body p was taken in: if not, a number of the file is not in order
abbrev pub BodyTaken : ℕ → List ℕ → ℕ → Verdict → List ℕ → Type 0
BodyTaken n f p v t = on_verdict v (Taken n f t (p + 1) 0) (λ r. (r ≡ BadNumber) × (numbers_fit n f ≡ false))

-- the grounds on which a table of n cells is refused, once the contents fit
abbrev pub filled_grounds : ℕ → List ℕ → List Ground
filled_grounds n f = record { refusal = BadNumber; applies = not (numbers_fit n f) } ∷ on_validity (described n f) ∷ []
