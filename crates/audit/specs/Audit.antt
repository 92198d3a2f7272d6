-- What the audit computes: the first breach by cell, within a cell the record, then its face places, then the pairs of the law by
-- smallest j, then l. That this says 'sound' exactly for the valid tables of `table` is proved in proofs/Valid.antt, and that what it
-- finds is the first breach of specs/First.antt in proofs/First.antt.
-- A reader must believe the grounds at the end; the search above them is tied to `Valid` and to `IsFirst` by those proofs.
use Rattle.std.specs.Prelude.{Bool, true, false, ◌&&◌, ◌||◌, not, List, [], ◌∷◌, ℕ, zero, suc, ◌-◌, leb, ltb, eqb}
use Rattle.counting.specs.Counting.{pick, all}
use Rattle.table.specs.Kind.{top, faces, free_mark, used}
use Rattle.table.specs.Table.{cells_of, dim, face, on_length, on_lengths}
use Rattle.calls.specs.Calls.{Ground}
use Rattle.calls.specs.declared.Refusal.{Refusal}
use Rattle.calls.specs.declared.Refusal.TheVariants.{Invalid}
use Rattle.calls.specs.declared.Breach.{Breach}
use Rattle.calls.specs.declared.Breach.TheVariants.{Record, Face, Law}
use Rattle.std.specs.declared.option.Option.{Option}
use Rattle.std.specs.declared.option.Option.TheVariants.{None, Some}

-- the first breach where there is one, else the second
abbrev pub or_else : Option Breach → Option Breach → Option Breach
or_else None f = f
or_else (Some b) f = Some b

-- the first breach of f at 0, 1, .. below n
unfoldable pub scan : (ℕ → Option Breach) → ℕ → Option Breach
scan f zero = None
scan f (suc n) = or_else (scan f n) (f n)

-- a dimension or the free mark, and 65535 in every unused word
unfoldable pub record_sound : List ℕ → ℕ → Bool
record_sound t c =
    (leb (dim t c) top || eqb (dim t c) free_mark)
    && all faces (λ j. ltb j (used (dim t c)) || eqb (face t c j) free_mark)

-- face j is inside the table, and one dimension down
unfoldable pub face_sound : List ℕ → ℕ → ℕ → Bool
face_sound t c j = ltb (face t c j) (cells_of t) && eqb (dim t c) (suc (dim t (face t c j)))

-- face l of face j against face j − 1 of face l
unfoldable pub law_sound : List ℕ → ℕ → ℕ → ℕ → Bool
law_sound t c j l = eqb (face t (face t c j) l) (face t (face t c l) (j - 1))

-- the law speaks of cells of dimension 2 and more
abbrev pub law_places : ℕ → ℕ
law_places p = pick (leb 2 p) (used p) 0

unfoldable pub record_breach : List ℕ → ℕ → Option Breach
record_breach t c = pick (record_sound t c) None (Some (Record c))

unfoldable pub face_breach : List ℕ → ℕ → ℕ → Option Breach
face_breach t c j = pick (face_sound t c j) None (Some (Face c j))

unfoldable pub law_breach : List ℕ → ℕ → ℕ → ℕ → Option Breach
law_breach t c j l = pick (law_sound t c j l) None (Some (Law c j l))

unfoldable pub cell_breach : List ℕ → ℕ → Option Breach
cell_breach t c =
    or_else (record_breach t c)
    (or_else (scan (face_breach t c) (used (dim t c)))
    (scan (λ j. scan (law_breach t c j) j) (law_places (dim t c))))

unfoldable pub first_breach : List ℕ → Option Breach
first_breach t = scan (cell_breach t) (cells_of t)

abbrev pub is_sound : Option Breach → Bool
is_sound None = true
is_sound (Some b) = false

unfoldable pub sound : List ℕ → Bool
sound t = is_sound (first_breach t)

-- The breach that the search found. Where it found none the ground below does not apply, so what stands here for that is never answered.
abbrev pub breach_in : Option Breach → Breach
breach_in None = Record 0
breach_in (Some b) = b

-- the refusal of a table that is not valid: it names the first breach
abbrev pub invalid : List ℕ → Refusal
invalid t = Invalid (breach_in (first_breach t))

-- Every call but emptying and the reader begins with these two grounds: lengths, then validity. Its own come after them.
abbrev pub on_validity : List ℕ → Ground
on_validity t = record { refusal = invalid t; applies = not (sound t) }

abbrev pub audit_grounds : List ℕ → List Ground
audit_grounds t = on_length t ∷ on_validity t ∷ []

-- the grounds of a call: those of its table, then its own
abbrev pub grounds : List ℕ → List Ground → List Ground
grounds t own = on_length t ∷ on_validity t ∷ own

-- the same for a call that is lent other buffers too
abbrev pub grounds_with : List ℕ → Bool → List Ground → List Ground
grounds_with t fit own = on_lengths t fit ∷ on_validity t ∷ own
