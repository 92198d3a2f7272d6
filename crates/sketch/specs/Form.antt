-- The form of a sketch file, stated once for writing and reading: little-endian numbers, the table of contents, the cell record.
-- A reader must believe these definitions; nothing here is proved.
use Rattle.std.specs.Prelude.{List, [], ◌∷◌, ◌++◌, ℕ, zero, suc, ◌+◌, ◌*◌, ◌/◌, ◌%◌, get_or}
use Rattle.counting.specs.Counting.{total}
use Rattle.table.specs.Kind.{capacity, top, dimensions, used}

-- a number in 2 bytes and in 4, the low byte first
unfoldable pub two : ℕ → List ℕ
two v = v % 256 ∷ v / 256 % 256 ∷ []

unfoldable pub four : ℕ → List ℕ
four v = v % 256 ∷ v / 256 % 256 ∷ v / 65536 % 256 ∷ v / 16777216 % 256 ∷ []

-- the number that stands at place i of a file
unfoldable pub two_at : List ℕ → ℕ → ℕ
two_at f i = get_or f i 0 + get_or f (i + 1) 0 * 256

unfoldable pub four_at : List ℕ → ℕ → ℕ
four_at f i = get_or f i 0 + get_or f (i + 1) 0 * 256 + get_or f (i + 2) 0 * 65536 + get_or f (i + 3) 0 * 16777216

-- f 0, f 1, .., f (n − 1), one after the other
unfoldable pub pieces : (ℕ → List ℕ) → ℕ → List ℕ
pieces f zero = []
pieces f (suc n) = pieces f n ++ f n

-- The table of contents: N in 2 bytes, then for each dimension the count in 2 bytes and the body's offset in 4.
abbrev pub entry_size : ℕ
entry_size = 6

abbrev pub contents_size : ℕ
contents_size = 2 + dimensions * entry_size

-- where the count and the offset of dimension p stand
abbrev pub count_place : ℕ → ℕ
count_place p = 2 + p * entry_size

abbrev pub offset_place : ℕ → ℕ
offset_place p = 4 + p * entry_size

-- The cell record of a p-cell: its number in 2 bytes, then its faces, 2 bytes each.
abbrev pub record_size : ℕ → ℕ
record_size p = 2 + 2 * used p

-- where face j stands in a record
abbrev pub face_place : ℕ → ℕ
face_place j = 2 + 2 * j

-- Where the body of dimension p starts, for bodies of these counts without gaps. At p = 7 it is the file's length.
unfoldable pub body_start : (ℕ → ℕ) → ℕ → ℕ
body_start counts p = contents_size + total (λ q. counts q * record_size q) p

-- the most bytes that a file has: those of a full table of cells of the largest dimension
abbrev pub longest : ℕ
longest = contents_size + capacity * record_size top
