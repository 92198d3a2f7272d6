-- A worked cone over an edge with a lower number than its two points: the points 3 and 5 and the edge 2 (5, 3), all marked, give
-- apex 0 and the cones 1 (6, 4, 2), 4 (0, 3) and 6 (0, 5). The number 7 stays free.
-- What carries it: computation. Assumes nothing.
use mathlib.Core.Path.{◌≡◌, refl}
use mathlib.Core.List.{List, [], ◌∷◌, ◌++◌}
use Prim.Native.Nat.{ℕ}
use Rattle.bitset.specs.Bits.{digit, mark, member}
use Rattle.table.specs.Kind.{free_mark}
use Rattle.table.specs.Table.{live, sized}
use Rattle.counting.specs.Counting.{listed, all, how_many, nth, some_has}
use Rattle.table.specs.Records.{word_of, table_of}
use Rattle.audit.specs.Audit.{scan, record_sound, face_sound, law_sound, record_breach, face_breach, law_breach, cell_breach, first_breach, sound}
use Rattle.std.specs.declared.result.Result.TheVariants.{Ok}
use Prim.{tt}
use Rattle.cone.specs.Cone.{free, apex_of, cone_of, base_of, new_cells, cone_face, coned, marked_not_live, not_closed, top_marked, no_room, cone_verdict}

abbrev blank : List ℕ
blank = free_mark ∷ free_mark ∷ free_mark ∷ free_mark ∷ free_mark ∷ free_mark ∷ free_mark ∷ free_mark ∷ []

abbrev point : List ℕ
point = 0 ∷ free_mark ∷ free_mark ∷ free_mark ∷ free_mark ∷ free_mark ∷ free_mark ∷ free_mark ∷ []

abbrev edge : ℕ → ℕ → List ℕ
edge a b = 1 ∷ a ∷ b ∷ free_mark ∷ free_mark ∷ free_mark ∷ free_mark ∷ free_mark ∷ []

abbrev triangle : ℕ → ℕ → ℕ → List ℕ
triangle a b c = 2 ∷ a ∷ b ∷ c ∷ free_mark ∷ free_mark ∷ free_mark ∷ free_mark ∷ []

abbrev before : List ℕ
before = blank ++ blank ++ edge 5 3 ++ point ++ blank ++ point ++ blank ++ blank

-- bits 2, 3 and 5
abbrev marked : List ℕ
marked = 44 ∷ []

worked_accepted : cone_verdict before marked ≡ Ok tt
unfolding cone_verdict digit mark member live all scan record_sound face_sound law_sound record_breach face_breach law_breach cell_breach first_breach sized sound how_many nth some_has free new_cells marked_not_live not_closed top_marked no_room
worked_accepted = refl

worked_apex : apex_of before ≡ 0
unfolding apex_of live how_many nth free
worked_apex = refl

worked_cone : coned before marked ≡ point ++ triangle 6 4 2 ++ edge 5 3 ++ point ++ edge 0 3 ++ point ++ edge 0 5 ++ blank
unfolding coned cone_face cone_of base_of apex_of new_cells free live how_many nth digit mark member listed word_of table_of
worked_cone = refl
