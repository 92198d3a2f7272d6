-- Worked cases, by computation: the text of two lists, their cells in order, and the table of one.
use mathlib.Core.Path.{◌≡◌, refl}
use mathlib.Core.List.{[], ◌∷◌}
use Rattle.counting.specs.Counting.{listed}
use Rattle.table.specs.Records.{word_of, table_of}
use Rattle.partlist.specs.Text.{digits, numeral, line_rest, line_text, lines_text, text_of}
use Rattle.partlist.specs.Sorting.{compared_numbers, compared_lists, insert, sorted_up}
use Rattle.partlist.specs.Cells.{compared_cells, parts, points, line_parts, cell_list}
use Rattle.partlist.specs.ListTable.{without, number_in, dim_at, face_at, list_table}

-- 70000, newline, 69999, space, 0, newline
two_lines : text_of 70000 ((69999 ∷ 0 ∷ []) ∷ []) ≡ 55 ∷ 48 ∷ 48 ∷ 48 ∷ 48 ∷ 10 ∷ 54 ∷ 57 ∷ 57 ∷ 57 ∷ 57 ∷ 32 ∷ 48 ∷ 10 ∷ []
unfolding digits numeral line_rest line_text lines_text text_of
two_lines = refl

-- one edge, named twice
one_edge : cell_list 2 ((0 ∷ 1 ∷ []) ∷ (1 ∷ 0 ∷ []) ∷ []) ≡ (0 ∷ []) ∷ (1 ∷ []) ∷ (0 ∷ 1 ∷ []) ∷ []
unfolding compared_numbers compared_lists insert sorted_up compared_cells parts points line_parts cell_list
one_edge = refl

-- order by number and not by text: 2, 9, 10
by_number : line_parts ((10 ∷ 9 ∷ 2 ∷ []) ∷ []) ≡ (2 ∷ []) ∷ (2 ∷ 9 ∷ []) ∷ (2 ∷ 9 ∷ 10 ∷ []) ∷ (2 ∷ 10 ∷ []) ∷ (9 ∷ []) ∷ (9 ∷ 10 ∷ []) ∷ (10 ∷ []) ∷ []
unfolding compared_numbers insert sorted_up parts line_parts
by_number = refl

-- a triangle with a spare point: face 0 of cell 7 is the edge 1, 2
triangle : cell_list 4 ((2 ∷ 0 ∷ 1 ∷ []) ∷ []) ≡ (0 ∷ []) ∷ (1 ∷ []) ∷ (2 ∷ []) ∷ (3 ∷ []) ∷ (0 ∷ 1 ∷ []) ∷ (0 ∷ 2 ∷ []) ∷ (1 ∷ 2 ∷ []) ∷ (0 ∷ 1 ∷ 2 ∷ []) ∷ []
unfolding compared_numbers compared_lists insert sorted_up compared_cells parts points line_parts cell_list
triangle = refl

edge_table : list_table 4 ((0 ∷ []) ∷ (1 ∷ []) ∷ (0 ∷ 1 ∷ []) ∷ []) ≡
    0 ∷ 65535 ∷ 65535 ∷ 65535 ∷ 65535 ∷ 65535 ∷ 65535 ∷ 65535 ∷
    0 ∷ 65535 ∷ 65535 ∷ 65535 ∷ 65535 ∷ 65535 ∷ 65535 ∷ 65535 ∷
    1 ∷ 1 ∷ 0 ∷ 65535 ∷ 65535 ∷ 65535 ∷ 65535 ∷ 65535 ∷
    65535 ∷ 65535 ∷ 65535 ∷ 65535 ∷ 65535 ∷ 65535 ∷ 65535 ∷ 65535 ∷ []
unfolding compared_numbers compared_lists compared_cells without number_in dim_at face_at list_table table_of listed word_of
edge_table = refl
