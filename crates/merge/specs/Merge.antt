-- Identification of two cells: the published rule as a relation between two tables that names no algorithm, and what the call
-- answers and leaves.
-- A reader must believe these definitions; nothing here is proved.
use Rattle.std.specs.Prelude.{◌≡◌, Bool, ◌&&◌, not, List, [], ◌∷◌, ◌++◌, ℕ, ◌<◌, min, max, length, take, eqb}
use Rattle.table.specs.Kind.{faces, free_mark, used}
use Rattle.table.specs.Table.{cells_of, dim, face, faces_of, live}
use Rattle.counting.specs.Counting.{all}
use Rattle.audit.specs.Audit.{grounds}
use Rattle.calls.specs.Calls.{Ground, verdict, named, leaves}
use Rattle.calls.specs.declared.Refusal.TheVariants.{NotLive, SameCell, DimensionsDiffer, FacesDiffer}
use Rattle.calls.specs.Calls.{Verdict}
use Rattle.calls.specs.Calls.{Named}
use Rattle.merge.specs.Rename.{renamed, identify}

-- The published rule: the smaller number is kept, the other record becomes free, and every face that named the larger names the
-- smaller. Nothing else changes.
pub record IsIdentification (t : List ℕ) (a b : ℕ) (t' : List ℕ) : Type 0 where
  pub size : length t' ≡ length t
  pub freed_dim : dim t' (max a b) ≡ free_mark
  pub freed_face : (j : ℕ) → j < faces → face t' (max a b) j ≡ free_mark
  pub kept_dim : (c : ℕ) → c < cells_of t → (c ≡ max a b → ⊥) → dim t' c ≡ dim t c
  pub other_face : (c j : ℕ) → c < cells_of t → j < faces → (c ≡ max a b → ⊥) → (face t c j ≡ max a b → ⊥) → face t' c j ≡ face t c j
  pub named_face : (c j : ℕ) → c < cells_of t → j < faces → (c ≡ max a b → ⊥) → face t c j ≡ max a b → face t' c j ≡ min a b

-- the faces of a cell, in order: d_0 to d_p, none for a point
unfoldable pub face_list : List ℕ → ℕ → List ℕ
face_list t c = take (used (dim t c)) (faces_of t c)

-- all seven face words of a and b, place by place
unfoldable pub same_faces : List ℕ → ℕ → ℕ → Bool
same_faces t a b = all faces (λ j. eqb (face t a j) (face t b j))

-- the grounds that speak of the two cells, in their order: those of a weld too, which joins their faces
abbrev pub pair_grounds : List ℕ → ℕ → ℕ → List Ground
pair_grounds t a b =
    record { refusal = NotLive; applies = not (live t a && live t b) }
    ∷ record { refusal = SameCell; applies = eqb a b }
    ∷ record { refusal = DimensionsDiffer; applies = not (eqb (dim t a) (dim t b)) }
    ∷ []

-- and the merge's last one
abbrev pub on_faces : List ℕ → ℕ → ℕ → List Ground
on_faces t a b = record { refusal = FacesDiffer; applies = not (same_faces t a b) } ∷ []

abbrev pub merge_grounds : List ℕ → ℕ → ℕ → List Ground
merge_grounds t a b = grounds t (pair_grounds t a b ++ on_faces t a b)

unfoldable pub merge_verdict : List ℕ → ℕ → ℕ → Verdict
merge_verdict t a b = verdict (merge_grounds t a b)

-- what the merge of a and b makes of a table where it is accepted
unfoldable pub merged : List ℕ → ℕ → ℕ → List ℕ
merged t a b = renamed (identify a b) t

abbrev pub merge_answer : List ℕ → ℕ → ℕ → Named
merge_answer t a b = named (merge_verdict t a b) (min a b)

abbrev pub merge_leaves : List ℕ → ℕ → ℕ → List ℕ
merge_leaves t a b = leaves (merge_verdict t a b) (merged t a b) t
