-- The sheet test at small tables, all of whose edges are loops at the one point, so that the law holds of any triangles.
-- What carries it: each answer is computed. Assumes nothing.
use mathlib.Core.Path.{◌≡◌, refl}
use mathlib.Core.Bool.{true, false}
use mathlib.Core.List.{List, [], ◌∷◌}
use Prim.Native.Nat.{ℕ}
use Rattle.counting.specs.Counting.{all, how_many, some_has, total}
use Rattle.table.specs.Kind.{free_mark}
use Rattle.table.specs.Table.{sized, live, is_cell}
use Rattle.audit.specs.Audit.{scan, record_sound, face_sound, law_sound, record_breach, face_breach, law_breach, cell_breach, first_breach, sound}
use Rattle.sheet.specs.Sheet.{has_face, places, wings, largest_dim_below, largest_dim, covered, is_sheet, sheet_answer}
use Rattle.sheet.specs.OldSheet.{old_wings}
use Rattle.std.specs.declared.result.Result.TheVariants.{Ok}

-- a record, before the rest of its table
abbrev point : List ℕ → List ℕ
point rest = 0 ∷ free_mark ∷ free_mark ∷ free_mark ∷ free_mark ∷ free_mark ∷ free_mark ∷ free_mark ∷ rest

abbrev edge : ℕ → ℕ → List ℕ → List ℕ
edge a b rest = 1 ∷ a ∷ b ∷ free_mark ∷ free_mark ∷ free_mark ∷ free_mark ∷ free_mark ∷ rest

abbrev triangle : ℕ → ℕ → ℕ → List ℕ → List ℕ
triangle a b c rest = 2 ∷ a ∷ b ∷ c ∷ free_mark ∷ free_mark ∷ free_mark ∷ free_mark ∷ rest

abbrev ring : List ℕ
ring = point (edge 0 0 [])

abbrev eight : List ℕ
eight = point (edge 0 0 (edge 0 0 []))

abbrev cap : List ℕ
cap = point (edge 0 0 (triangle 1 1 1 []))

abbrev folded : List ℕ
folded = point (edge 0 0 (edge 0 0 (triangle 1 1 2 (triangle 1 2 2 []))))

abbrev torus : List ℕ
torus = point (edge 0 0 (edge 0 0 (edge 0 0 (triangle 2 3 1 (triangle 1 3 2 [])))))

pub record Examples : Type 0 where
  -- one loop is a sheet: its point is named at two places
  one_loop : sheet_answer ring ≡ Ok true
  -- two loops at one point are none
  two_loops : sheet_answer eight ≡ Ok false
  -- a triangle that names one edge three times is none, though it is but one triangle
  one_edge : sheet_answer cap ≡ Ok false
  -- nor are two triangles that meet an edge at three places, which the test before took for a sheet
  folded_strip : sheet_answer folded ≡ Ok false
  folded_wings : (wings folded 2 1 ≡ 3) × (wings folded 2 2 ≡ 3)
  folded_before : (old_wings folded 2 1 ≡ 2) × (old_wings folded 2 2 ≡ 2)
  -- the torus of two triangles is a sheet
  two_triangles : sheet_answer torus ≡ Ok true

examples : Examples
unfolding sized live is_cell all how_many some_has scan record_sound face_sound law_sound record_breach face_breach law_breach cell_breach first_breach sound has_face places total wings largest_dim_below largest_dim covered is_sheet old_wings
examples =
    record {
      one_loop = refl;
      two_loops = refl;
      one_edge = refl;
      folded_strip = refl;
      folded_wings = (refl, refl);
      folded_before = (refl, refl);
      two_triangles = refl;
    }
