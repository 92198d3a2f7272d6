-- What a program makes of its input, and what it tells of a failure.
-- A reader must believe these definitions; nothing here is proved.
use Rattle.std.specs.Prelude.{ℕ, ◌≤◌, ◌<◌, List, [], ◌∷◌, ◌++◌, length, Option, codes}
use Rattle.std.specs.Borrow.{Bor}
use Rattle.std.specs.Fn.{Once, FnOnceReturnsAt}
use Rattle.std.specs.Io.KnownBytes.{Consumes, IsAtEnd}
use Rattle.stdio.specs.declared.Failure.{Failure}
use Rattle.stdio.specs.declared.Failure.TheVariants.{Unread, Unwritten}

-- the words for a failure, as bytes
abbrev pub told : Failure → List ℕ
told Unread = codes "standard input could not be read to its end"
told Unwritten = codes "standard output could not be written"

-- the line that tells of it: the program's name, a colon and a space, the words, and a newline
abbrev pub line_of : List ℕ → Failure → List ℕ
line_of name why = name ++ (58 ∷ 32 ∷ (told why ++ (10 ∷ [])))

-- made is what `make` gives for the bytes that the input had, up to its end or to the room of the buffer
pub record IsMadeOf {F T : Type 0} (g : Once F (Bor (List ℕ) × Unit {0}) T) (make : F) (input rest : Option (List ℕ)) (room : ℕ) (made : T) : Type 0 where
  pub read : List ℕ
  pub fits : length read ≤ room
  pub given : Consumes input rest read
  pub end : length read < room → IsAtEnd rest
  pub called : FnOnceReturnsAt g make read made
