-- What a table has to be to be that of a part list, said of the table itself and of the list of its cells.
-- A reader must believe these definitions; nothing here is proved.
use Rattle.std.specs.Prelude.{◌≡◌, ◌↔◌, List, ℕ, suc, ◌≤◌, ◌<◌, length, get_or}
use Rattle.table.specs.Kind.{used}
use Rattle.table.specs.Table.{dim, face, Live, Valid}
use Rattle.corner.specs.Corner.{corner_of}
use Rattle.partlist.specs.Cells.{cell_list}
use Rattle.partlist.specs.ListTable.{without, corners_at}

-- The table t of the part list with n points and the lines ls. `IsCell` says which lists of corners are entries of `cell_list`.
pub record TableOfList (n : ℕ) (ls : List (List ℕ)) (t : List ℕ) : Type 0 where
  -- it is valid;
  pub valid : Valid t
  -- its cells are the entries of the list of cells, one each,
  pub live : (c : ℕ) → Live t c ↔ (c < length (cell_list n ls))
  -- of as many corners as their dimension says;
  pub dimension : (c : ℕ) → c < length (cell_list n ls) → length (corners_at (cell_list n ls) c) ≡ suc (dim t c)
  -- face j is the cell without corner j;
  pub facet :
      (c j : ℕ) → c < length (cell_list n ls) → j < used (dim t c) →
      corners_at (cell_list n ls) (face t c j) ≡ without j (corners_at (cell_list n ls) c)
  -- and corner k, by the rule of corners, is entry k.
  pub corner :
      (c k : ℕ) → c < length (cell_list n ls) → k ≤ dim t c → corner_of t c k ≡ get_or (corners_at (cell_list n ls) c) k 0
