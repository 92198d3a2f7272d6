-- What a reader's answer to one read means, and what one read and all of them leave.
-- A reader must believe these definitions; nothing here is proved.
use Rattle.std.specs.Prelude.{◌≡◌, List, ℕ, zero, suc, ◌+◌, ◌≤◌, ◌<◌, length, take, Result, Ok, Err, Option, None, Some}

-- a number of bytes more, of which 0 is the end of the input; or an error, a failure
unfoldable pub turn_of : {E : Type 0} → Result ℕ E → Result (Option ℕ) E
turn_of (Ok zero) = Ok None
turn_of (Ok (suc n)) = Ok (Some (suc n))
turn_of (Err e) = Err e

-- a read behind the first `done` bytes keeps them, and what it adds, at least one byte, lies inside the buffer
pub record Further {E : Type 0} (done : ℕ) (r : Result (Option ℕ) E) (before after : List ℕ) : Type 0 where
  pub kept : take done after ≡ take done before
  pub sized : length after ≡ length before
  pub added : (n : ℕ) → r ≡ Ok (Some n) → (0 < n) × (done + n ≤ length before)

-- so many bytes as are answered lie in the buffer, whose length stays; of a failure nothing more is said
pub record HasRead {E : Type 0} (r : Result ℕ E) (before after : List ℕ) : Type 0 where
  pub inside : (n : ℕ) → r ≡ Ok n → n ≤ length after
  pub sized : length after ≡ length before
