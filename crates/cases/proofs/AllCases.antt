-- Cases 1 to 12 hold, all under one theorem: every entry of the table passes the one test.
-- What carries it: computation, so every definition on the way stands on the unfolding line. Assumes nothing.
use mathlib.Core.Path.{refl}
use mathlib.Core.List.{List}
use Prim.Native.Nat.{ℕ, zero, suc, ◌<◌}
use native.Mathlib.Omega.{arith}
use lib.ListN.{length, get_or}
use Rattle.homology.specs.Cells.{odd}
use Rattle.homology.specs.Holes.{boundary}
use Rattle.homology.specs.Evidence.{cells_in, bounding_in, holes_in}
use Rattle.bitset.specs.Bits.{digit, mark, member, toggled, sum_of}
use Rattle.counting.specs.Counting.{how_many, nth, some_has, listed, all, largest_below}
use Rattle.table.specs.Table.{live, sized}
use Rattle.table.specs.Records.{word_of, table_of}
use Rattle.audit.specs.Audit.{scan, record_sound, face_sound, law_sound, record_breach, face_breach, law_breach, cell_breach, first_breach, sound}
use Rattle.complex.specs.View.{odd_face}
use Rattle.rows.specs.Rows.{row_of, rows}
use Rattle.reducer.specs.Rule.{alone, additions_in}
use Rattle.reducer.proofs.Computed.{boundary_height, owner, after_search, add_rows, next_row, with_row, rows_below, reduced_evidence, reduced_additions}
use Rattle.merge.specs.Rename.{renamed, identify}
use Rattle.merge.specs.Merge.{same_faces, merge_verdict, merged}
use Rattle.cone.specs.Cone.{free, apex_of, cone_of, base_of, new_cells, cone_face, coned, marked_not_live, not_closed, top_marked, no_room, cone_verdict}
use Rattle.reading.specs.Sums.{sum_to, sign}
use Rattle.reading.specs.Incidence.{incidence_of}
use Rattle.cases.specs.Cases.{Case, cases}
use Rattle.cases.specs.Claims.{Each, Holds}
use Rattle.cases.specs.Claims.Each.{end, ◌then◌}
use Rattle.cases.proofs.Compared.{same_words, same_integer, is_sum, same_answer}
use Rattle.cases.proofs.Tested.{every, valid_words, goes, holes_are, incidence_is, additions_are, numbers_are, test, Passes, each_passing_holds}

-- one computation for each entry, in order, so that a refusal names the entry
each_case_passes : Each Passes cases
unfolding cases every test valid_words goes holes_are incidence_is additions_are numbers_are same_words same_integer is_sum same_answer odd how_many boundary some_has cells_in bounding_in holes_in digit mark member toggled sum_of nth live listed word_of table_of all scan record_sound face_sound law_sound record_breach face_breach law_breach cell_breach first_breach sized sound odd_face row_of rows alone additions_in largest_below boundary_height owner after_search add_rows next_row with_row rows_below reduced_evidence reduced_additions renamed identify same_faces merge_verdict merged free apex_of cone_of base_of new_cells cone_face coned marked_not_live not_closed top_marked no_room cone_verdict sum_to sign incidence_of
each_case_passes =
    refl  -- 1
    then refl  -- 2
    then refl  -- 3
    then refl  -- 4
    then refl  -- 4, the next apex
    then refl  -- 5
    then refl  -- 5, merged
    then refl  -- 6
    then refl  -- 7
    then refl  -- 7, its triangles
    then refl  -- 8
    then refl  -- 9
    then refl  -- 10
    then refl  -- 11
    then refl  -- 12
    then end

each_case_holds : Each Holds cases
each_case_holds = each_passing_holds each_case_passes

-- what each entry of a list has, the one at place k has
each_at : {A : Type 0} {P : A → Type 1} {xs : List A} → Each P xs → (k : ℕ) → k < length xs → (d : A) → P (get_or xs k d)
each_at end k l d = absurd (omega arith)
each_at (h then rest) zero l d = h
each_at (h then rest) (suc k) l d = each_at rest k (omega arith) d

-- the single theorem, over the entry's place in the table
pub all_cases_hold : (k : ℕ) → k < length cases → (d : Case) → Holds (get_or cases k d)
all_cases_hold = each_at each_case_holds
