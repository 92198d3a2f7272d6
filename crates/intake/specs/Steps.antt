-- What the steps of the intake leave in the scratch. The call's own contract does not need these; the contracts of its parts do.
-- A reader need not believe this file: no public call cites it.
use Rattle.std.specs.Prelude.{◌≡◌, List, ℕ, suc, ◌+◌, ◌-◌, ◌≤◌, ◌<◌, length, get_or, take, Result, Ok, Err}
use Rattle.calls.specs.declared.Refusal.{Refusal}
use Rattle.calls.specs.declared.Refusal.TheVariants.{NoRoom}
use Rattle.table.specs.Kind.{faces}
use Rattle.table.specs.Table.{dim, faces_of}
use Rattle.partlist.specs.Text.{IsList}
use Rattle.partlist.specs.Sorting.{Sorted}
use Rattle.partlist.specs.Cells.{Earlier, cell_list}
use Rattle.partlist.specs.ListTable.{corners_at, face_at, list_table}
use Rattle.partlist.specs.Sweep.{Gathered, Swept, Complete, InRange}
use Rattle.corners.specs.Scratch.{Packs, Holds, Kept}

-- the text's list has more cells than the room
pub record TooMany (text : List ℕ) (n room : ℕ) (e : Refusal) : Type 0 where
  pub refusal : e ≡ NoRoom
  pub full : (ls : List (List ℕ)) → IsList text n ls → room < length (cell_list n ls)

-- the r cells that the table holds have the points and the lines of the list
pub record Gathering (n : ℕ) (ls : List (List ℕ)) (room : ℕ) (t : List ℕ) (r : ℕ) : Type 0 where
  pub cells : List (List ℕ)
  pub count : length cells ≡ r
  pub kept : Kept room t cells
  pub gathered : Gathered n ls cells

-- the points and the lines are taken in; or there are more cells than the room
pub record GathersAll (text : List ℕ) (n room : ℕ) (t : List ℕ) (r : ℕ) : Type 0 where
  pub most : r ≤ room
  pub gathers : (ls : List (List ℕ)) → IsList text n ls → Gathering n ls room t r

abbrev pub Gathers : List ℕ → ℕ → ℕ → List ℕ → Result ℕ Refusal → Type 0
Gathers text n room t (Ok r) = GathersAll text n room t r
Gathers text n room t (Err e) = TooMany text n room e

-- the entries from c on have all their facets
pub record SweptTo (n : ℕ) (ls : List (List ℕ)) (room : ℕ) (t : List ℕ) (c m : ℕ) : Type 0 where
  pub cells : List (List ℕ)
  pub count : length cells ≡ m
  pub kept : Kept room t cells
  pub swept : Swept n ls cells c

-- the facets of cell c are taken in; or there are more cells than the room
pub record FacetsIn (room : ℕ) (t t' : List ℕ) (c m r : ℕ) : Type 0 where
  pub grown : m ≤ r
  pub most : r ≤ room
  pub sweeps : (n : ℕ) (ls : List (List ℕ)) → InRange n ls → SweptTo n ls room t (suc c) m → SweptTo n ls room t' (c + (r - m)) r

pub record FacetsOut (room : ℕ) (t : List ℕ) (c m : ℕ) (e : Refusal) : Type 0 where
  pub refusal : e ≡ NoRoom
  pub full : (n : ℕ) (ls : List (List ℕ)) → InRange n ls → SweptTo n ls room t (suc c) m → room < length (cell_list n ls)

abbrev pub SweepsCell : ℕ → List ℕ → List ℕ → ℕ → ℕ → Result ℕ Refusal → Type 0
SweepsCell room t t' c m (Ok r) = FacetsIn room t t' c m r
SweepsCell room t t' c m (Err e) = FacetsOut room t c m e

-- the table holds the cells of the list, r of them
pub record Listing (n : ℕ) (ls : List (List ℕ)) (room : ℕ) (t : List ℕ) (r : ℕ) : Type 0 where
  pub count : length (cell_list n ls) ≡ r
  pub kept : Kept room t (cell_list n ls)

-- all cells have their facets; or there are more cells than the room
pub record SweptIn (room : ℕ) (t t' : List ℕ) (m r : ℕ) : Type 0 where
  pub most : r ≤ room
  pub sweeps : (n : ℕ) (ls : List (List ℕ)) → InRange n ls → Gathering n ls room t m → Listing n ls room t' r

pub record SweptOut (room : ℕ) (t : List ℕ) (m : ℕ) (e : Refusal) : Type 0 where
  pub refusal : e ≡ NoRoom
  pub full : (n : ℕ) (ls : List (List ℕ)) → InRange n ls → Gathering n ls room t m → room < length (cell_list n ls)

abbrev pub Sweeps : ℕ → List ℕ → List ℕ → ℕ → Result ℕ Refusal → Type 0
Sweeps room t t' m (Ok r) = SweptIn room t t' m r
Sweeps room t t' m (Err e) = SweptOut room t m e

-- The seven words fs are the faces of cell c, whatever complete list of cells it belongs to, of which the records below c hold those
-- below c.
pub record FaceNumbers (t : List ℕ) (c : ℕ) (fs : List ℕ) : Type 0 where
  pub faced :
      (cs : List (List ℕ)) → Complete cs → Sorted Earlier cs → c < length cs → Holds t (take c cs) → Packs (dim t c) (faces_of t c) (corners_at cs c) →
      (j : ℕ) → j < faces → get_or fs j 0 ≡ face_at cs c j

-- the table of the complete list of m cells that it held
pub record PutsFaces (room : ℕ) (t : List ℕ) (m : ℕ) (t' : List ℕ) : Type 0 where
  pub table : (cs : List (List ℕ)) → Complete cs → length cs ≡ m → Kept room t cs → t' ≡ list_table room cs

-- the table of the list, where the cells have room
abbrev pub Fills : {A : Type 0} → List ℕ → ℕ → ℕ → List ℕ → Result A Refusal → Type 0
Fills text n room t' (Ok _) =
    (ls : List (List ℕ)) → IsList text n ls → (length (cell_list n ls) ≤ room) × (t' ≡ list_table room (cell_list n ls))
Fills text n room t' (Err e) = TooMany text n room e
