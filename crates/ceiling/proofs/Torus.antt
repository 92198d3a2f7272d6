-- The torus meets its ceiling in dimension 2: one addition, and the ceiling is 1. And one larger number of the ceiling.
-- What carries it: evidence by the rule is the computed one, and computation. Assumes nothing.
use mathlib.Core.Path.{◌≡◌, refl, ap, ◌∙◌}
use mathlib.Core.List.{List}
use Prim.Native.Nat.{ℕ}
use Rattle.counting.specs.Counting.{how_many, some_has, all, largest_below}
use Rattle.homology.specs.Cells.{Cells, Lawful, odd}
use Rattle.homology.specs.Holes.{boundary}
use Rattle.homology.specs.Evidence.{cells_in, bounding_in}
use Rattle.bitset.specs.Bits.{digit, mark, member, toggled, sum_of}
use Rattle.table.specs.Table.{live, sized}
use Rattle.audit.specs.Audit.{scan, record_sound, face_sound, law_sound, record_breach, face_breach, law_breach, cell_breach, first_breach, sound}
use Rattle.audit.proofs.Valid.{sound_is_valid}
use Rattle.complex.specs.View.{odd_face}
use Rattle.complex.specs.Cells.{cells}
use Rattle.complex.proofs.Boundary.{valid_is_lawful}
use Rattle.rows.specs.Rows.{row_of, rows}
use Rattle.reducer.specs.Rule.{alone, additions_in, ByRule}
use Rattle.reducer.proofs.Computed.{boundary_height, owner, after_search, add_rows, next_row, with_row, rows_below, reduced_evidence, reduced_additions}
use Rattle.reducer.proofs.Existence.{by_rule_is_computed}
use Rattle.reducer.proofs.OneOutcome.{counted_alike}
use Rattle.cases.specs.Cases.{torus}
use Rattle.ceiling.specs.Ceiling.{ceiling, ceiling_in}

abbrev T : Cells
T = cells torus

torus_lawful : Lawful T
unfolding all scan record_sound face_sound law_sound record_breach face_breach law_breach cell_breach first_breach sized sound live
torus_lawful = valid_is_lawful torus (sound_is_valid torus refl refl)

computed_additions : additions_in T (reduced_additions T) 2 T.size ≡ 1
unfolding odd how_many boundary some_has digit mark member toggled sum_of live odd_face row_of rows alone additions_in largest_below boundary_height owner after_search add_rows next_row with_row rows_below reduced_evidence reduced_additions
computed_additions = refl

computed_ceiling : ceiling_in T (reduced_evidence T) 2 ≡ 1
unfolding odd how_many boundary some_has cells_in bounding_in digit mark member toggled sum_of live odd_face row_of rows alone largest_below boundary_height owner after_search add_rows next_row with_row rows_below reduced_evidence ceiling ceiling_in
computed_ceiling = refl

-- whatever is by the rule for the torus
pub torus_meets_ceiling : (ev : List ℕ) (adds : ℕ → ℕ) → ByRule (cells torus) ev adds → (additions_in (cells torus) adds 2 (cells torus).size ≡ 1) × (ceiling_in (cells torus) ev 2 ≡ 1)
torus_meets_ceiling ev adds by =
    let same = by_rule_is_computed T ev adds torus_lawful by in (
      counted_alike T adds (reduced_additions T) 2 T.size same.1 ∙ computed_additions,
      ap (λ (e : List ℕ). ceiling_in T e 2) same.0 ∙ computed_ceiling,
    )

-- the number for 341 cells of which 170 have bounding rows
star_ceiling : ceiling 341 170 ≡ 43435
unfolding ceiling
star_ceiling = refl
