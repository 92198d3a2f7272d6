-- Corner k of a p-cell: the cell itself for p = 0; otherwise corner k of face p if k < p, and corner p−1 of face 0 if k = p.
-- A reader must believe these definitions; nothing here is proved.
use Rattle.std.specs.Prelude.{not, List, [], ◌∷◌, ℕ, zero, suc, ltb}
use Rattle.counting.specs.Counting.{pick}
use Rattle.table.specs.Table.{dim, face, live}
use Rattle.audit.specs.Audit.{grounds}
use Rattle.calls.specs.Calls.{Ground, verdict, named}
use Rattle.calls.specs.declared.Refusal.TheVariants.{NotLive, NoSuchPlace}
use Rattle.calls.specs.Calls.{Named}

-- corner k of c, taken as a p-cell
unfoldable pub corner_at : List ℕ → ℕ → ℕ → ℕ → ℕ
corner_at t zero c k = c
corner_at t (suc p) c k =
    pick (ltb k (suc p)) (corner_at t p (face t c (suc p)) k) (corner_at t p (face t c 0) p)

unfoldable pub corner_of : List ℕ → ℕ → ℕ → ℕ
corner_of t c k = corner_at t (dim t c) c k

-- the grounds that the cell and its place give, after those of the table
abbrev pub own_grounds : List ℕ → ℕ → ℕ → List Ground
own_grounds t c k =
    record { refusal = NotLive; applies = not (live t c) }
    ∷ record { refusal = NoSuchPlace; applies = ltb (dim t c) k }
    ∷ []

abbrev pub corner_grounds : List ℕ → ℕ → ℕ → List Ground
corner_grounds t c k = grounds t (own_grounds t c k)

abbrev pub corner_answer : List ℕ → ℕ → ℕ → Named
corner_answer t c k = named (verdict (corner_grounds t c k)) (corner_of t c k)
