-- The worked file of the rules: a loop in a table of two cells is these 52 bytes, and they describe the loop.
-- What carries it: both sides compute. Assumes nothing.
use mathlib.Core.Path.{◌≡◌, refl}
use mathlib.Core.Bool.{true}
use mathlib.Core.List.{List, [], ◌∷◌, ◌++◌}
use Prim.Native.Nat.{ℕ}
use Rattle.counting.specs.Counting.{how_many, nth, some_has, listed, all, total}
use Rattle.table.specs.Kind.{free_mark}
use Rattle.table.specs.Table.{live, is_cell, count_of}
use Rattle.table.specs.Records.{word_of, table_of}
use Rattle.sketch.specs.Form.{two, four, two_at, four_at, pieces, body_start}
use Rattle.sketch.specs.Written.{cell_bytes, body_of, contents_of, file_of}
use Rattle.sketch.specs.Read.{count_in, record_in, number_in, face_in, contents_fit, in_body, number_fits, numbers_fit, dim_in, place_in, described}

-- point 0, edge 1 (0, 0)
abbrev pub loop : List ℕ
loop =
    0 ∷ free_mark ∷ free_mark ∷ free_mark ∷ free_mark ∷ free_mark ∷ free_mark ∷ free_mark
    ∷ 1 ∷ 0 ∷ 0 ∷ free_mark ∷ free_mark ∷ free_mark ∷ free_mark ∷ free_mark ∷ []

abbrev empty_entry : List ℕ
empty_entry = 0 ∷ 0 ∷ 52 ∷ 0 ∷ 0 ∷ 0 ∷ []

abbrev pub loop_file : List ℕ
loop_file =
    (2 ∷ 0 ∷ [])
    ++ ((1 ∷ 0 ∷ 44 ∷ 0 ∷ 0 ∷ 0 ∷ [])
    ++ ((1 ∷ 0 ∷ 46 ∷ 0 ∷ 0 ∷ 0 ∷ [])
    ++ (empty_entry ++ (empty_entry ++ (empty_entry ++ (empty_entry ++ (empty_entry ++ (0 ∷ 0 ∷ 1 ∷ 0 ∷ 0 ∷ 0 ∷ 0 ∷ 0 ∷ []))))))))

pub loop_written : file_of loop ≡ loop_file
unfolding file_of contents_of body_of cell_bytes count_of is_cell body_start total pieces two four how_many live
loop_written = refl

pub loop_fits : contents_fit 2 loop_file ≡ true
unfolding contents_fit all body_start total two_at four_at count_in
loop_fits = refl

pub loop_numbers_fit : numbers_fit 2 loop_file ≡ true
unfolding numbers_fit number_fits number_in record_in in_body all some_has body_start total two_at count_in
loop_numbers_fit = refl

pub loop_described : described 2 loop_file ≡ loop
unfolding described table_of listed word_of dim_in place_in face_in number_in record_in in_body nth how_many some_has body_start total two_at count_in
loop_described = refl
