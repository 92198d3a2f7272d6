-- Two worked welds. The points 0 and 1 and between them the edges 2 (1, 0) and 3 (0, 1), which no merge joins, since their faces
-- stand in another order: welded place by place they are one loop at one point. And two triangles over three loops, in turned order:
-- all three loops are one.
-- What carries it: computation. Assumes nothing.
use mathlib.Core.Path.{◌≡◌, refl}
use mathlib.Core.List.{List, [], ◌∷◌, ◌++◌}
use Prim.Native.Nat.{ℕ}
use Rattle.table.specs.Kind.{free_mark}
use Rattle.table.specs.Table.{live, sized, is_cell}
use Rattle.table.specs.Records.{word_of, table_of}
use Rattle.counting.specs.Counting.{listed, all}
use Rattle.audit.specs.Audit.{scan, record_sound, face_sound, law_sound, record_breach, face_breach, law_breach, cell_breach, first_breach, sound}
use Rattle.std.specs.declared.result.Result.TheVariants.{Ok}
use Rattle.merge.specs.Rename.{renamed, identify}
use Rattle.weld.specs.Joins.{joined, join_places, join_cell, join_cells, join_levels, weld_map}
use Rattle.weld.specs.Call.{weld_verdict, welded, weld_answer, weld_leaves}

abbrev point : List ℕ
point = 0 ∷ free_mark ∷ free_mark ∷ free_mark ∷ free_mark ∷ free_mark ∷ free_mark ∷ free_mark ∷ []

abbrev edge : ℕ → ℕ → List ℕ
edge a b = 1 ∷ a ∷ b ∷ free_mark ∷ free_mark ∷ free_mark ∷ free_mark ∷ free_mark ∷ []

abbrev blank : List ℕ
blank = free_mark ∷ free_mark ∷ free_mark ∷ free_mark ∷ free_mark ∷ free_mark ∷ free_mark ∷ free_mark ∷ []

abbrev before : List ℕ
before = point ++ point ++ edge 1 0 ++ edge 0 1

abbrev triangle : ℕ → ℕ → ℕ → List ℕ
triangle a b c = 2 ∷ a ∷ b ∷ c ∷ free_mark ∷ free_mark ∷ free_mark ∷ free_mark ∷ []

pub turned_edges_answer : weld_answer before 3 2 ≡ Ok 2
unfolding weld_verdict live all scan record_sound face_sound law_sound record_breach face_breach law_breach cell_breach first_breach sized sound
turned_edges_answer = refl

pub turned_edges_make_a_loop : weld_leaves before 3 2 ≡ point ++ blank ++ edge 0 0 ++ blank
unfolding weld_verdict welded weld_map join_levels join_cells join_cell join_places joined identify renamed is_cell live all listed word_of table_of scan record_sound face_sound law_sound record_breach face_breach law_breach cell_breach first_breach sized sound
turned_edges_make_a_loop = refl

-- three loops at one point, and two triangles that have them in turned order: one loop is left
pub turned_triangles_leave_one_edge :
    weld_leaves (point ++ edge 0 0 ++ edge 0 0 ++ edge 0 0 ++ triangle 1 2 3 ++ triangle 2 3 1) 4 5
    ≡ point ++ edge 0 0 ++ blank ++ blank ++ triangle 1 1 1 ++ blank
unfolding weld_verdict welded weld_map join_levels join_cells join_cell join_places joined identify renamed is_cell live all listed word_of table_of scan record_sound face_sound law_sound record_breach face_breach law_breach cell_breach first_breach sized sound
turned_triangles_leave_one_edge = refl
