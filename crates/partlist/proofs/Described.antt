-- The table of a part list is what it has to be. What carries it: the laws of the table, of faces and of corners. Assumes nothing.
use mathlib.Core.Path.{◌≡◌, sym, ap, ◌∙◌}
use mathlib.Core.List.{List}
use Prim.Native.Nat.{ℕ, suc, ◌≤◌, ◌<◌}
use native.Mathlib.Omega.{arith}
use lib.ListN.{length}
use Rattle.table.specs.Kind.{capacity, used}
use Rattle.table.specs.Table.{dim, face, Live}
use Rattle.partlist.specs.Text.{AllLines}
use Rattle.partlist.specs.Cells.{cell_list}
use Rattle.partlist.specs.ListTable.{without, corners_at, list_table}
use Rattle.partlist.specs.Sweep.{Complete, InRange}
use Rattle.partlist.specs.Described.{TableOfList}
use Rattle.partlist.proofs.ListTable.{list_complete, list_table_valid, list_face, corners_count, dim_at_lem, face_at_lem, entry, entry_live, used_here, place_small}
use Rattle.partlist.proofs.Corners.{list_corner}

module _
    (n : ℕ) (ls : List (List ℕ)) (lines : AllLines ls) (range : InRange n ls) (room : ℕ) (some : 1 ≤ room) (most : room ≤ capacity)
    (fits : length (cell_list n ls) ≤ room) where
  abbrev cs : List (List ℕ)
  cs = cell_list n ls

  complete : Complete (cell_list n ls)
  complete = list_complete n ls lines

  dimensions_agree : (c : ℕ) → c < length (cell_list n ls) → length (corners_at cs c) ≡ suc (dim (list_table room cs) c)
  unfolding list_table
  dimensions_agree c h =
      corners_count cs complete c h ∙ ap suc (sym (dim_at_lem cs complete room some most fits c (omega (arith, fits))))

  faces_agree :
      (c j : ℕ) → c < length (cell_list n ls) → j < used (dim (list_table room cs) c) →
      corners_at cs (face (list_table room cs) c j) ≡ without j (corners_at cs c)
  unfolding list_table
  faces_agree c j h l =
      let u = used_here cs complete room some most fits c j (omega (arith, fits)) l in
      ap (corners_at cs) (face_at_lem cs complete room some most fits c j (omega (arith, fits)) (place_small cs complete room some most fits c j u))
      ∙ (list_face n ls lines c j h u).tells

  live_entry : (c : ℕ) → Live (list_table room cs) c → c < length (cell_list n ls)
  unfolding list_table
  live_entry c l = entry cs complete room some most fits c l

  entries_live : (c : ℕ) → c < length (cell_list n ls) → Live (list_table room cs) c
  unfolding list_table
  entries_live c h = entry_live cs complete room some most fits c h

  pub table_of_list : TableOfList n ls (list_table room (cell_list n ls))
  table_of_list =
      record {
        valid = list_table_valid room n ls lines some most fits;
        live = λ c. (live_entry c, entries_live c);
        dimension = dimensions_agree;
        facet = faces_agree;
        corner = λ c k h l. list_corner n ls lines range room some most fits c k h (omega (arith, dimensions_agree c h));
      }
