-- The published rule of the cone, as a relation between two tables that names no algorithm.
-- A reader must believe these definitions; nothing here is proved.
use Rattle.std.specs.Prelude.{◌≡◌, true, false, List, ℕ, suc, ◌<◌, length}
use Rattle.bitset.specs.Bits.{member}
use Rattle.table.specs.Kind.{faces, free_mark, used}
use Rattle.table.specs.Table.{dim, face, live}
use Rattle.cone.specs.Cone.{free}

-- c is the cone of a marked cell below s
pub record Earlier (marks : List ℕ) (cone : ℕ → ℕ) (s c : ℕ) : Type 0 where
  pub base : ℕ
  pub marked : member marks base ≡ true
  pub before : base < s
  pub is_cone : c ≡ cone base

-- The published rule. Each marked cell s has a cone, numbered cone s. Old cells stay. The apex is a point.
pub record IsCone (t marks : List ℕ) (apex : ℕ) (cone : ℕ → ℕ) (t' : List ℕ) : Type 0 where
  pub size : length t' ≡ length t
  pub old_dim : (c : ℕ) → live t c ≡ true → dim t' c ≡ dim t c
  pub old_face : (c j : ℕ) → live t c ≡ true → j < faces → face t' c j ≡ face t c j
  -- the apex takes the lowest free number,
  pub apex_free : free t apex ≡ true
  pub apex_lowest : (c : ℕ) → c < apex → free t c ≡ false
  -- then, by rising number of the marked cell, each cone takes the next lowest
  pub cone_free : (s : ℕ) → member marks s ≡ true → free t (cone s) ≡ true
  pub cone_next : (s c : ℕ) → member marks s ≡ true → free t c ≡ true → c < cone s → (c ≡ apex → ⊥) → Earlier marks cone s c
  pub cone_after : (s c : ℕ) → member marks s ≡ true → member marks c ≡ true → c < s → cone c < cone s
  pub cone_not_apex : (s : ℕ) → member marks s ≡ true → apex < cone s
  -- the apex is a 0-cell with no faces
  pub apex_dim : dim t' apex ≡ 0
  pub apex_faces : (j : ℕ) → j < faces → face t' apex j ≡ free_mark
  -- the cone of a p-cell has dimension p + 1; its face p + 1 is the cell; for p = 0 its face 0 is the apex;
  -- for p ≥ 1 its face j is the cone of face j
  pub cone_dim : (s : ℕ) → member marks s ≡ true → dim t' (cone s) ≡ suc (dim t s)
  pub cone_base : (s : ℕ) → member marks s ≡ true → face t' (cone s) (suc (dim t s)) ≡ s
  pub cone_tip : (s : ℕ) → member marks s ≡ true → dim t s ≡ 0 → face t' (cone s) 0 ≡ apex
  pub cone_side : (s j : ℕ) → member marks s ≡ true → j < used (dim t s) → face t' (cone s) j ≡ cone (face t s j)
  pub cone_unused : (s j : ℕ) → member marks s ≡ true → suc (dim t s) < j → j < faces → face t' (cone s) j ≡ free_mark
  -- nothing else is live: every other free record stays as it was
  pub rest_dim : (c : ℕ) → free t c ≡ true → (c ≡ apex → ⊥) → ((s : ℕ) → member marks s ≡ true → c ≡ cone s → ⊥) → dim t' c ≡ dim t c
  pub rest_face : (c j : ℕ) → free t c ≡ true → j < faces → (c ≡ apex → ⊥) → ((s : ℕ) → member marks s ≡ true → c ≡ cone s → ⊥) → face t' c j ≡ face t c j
