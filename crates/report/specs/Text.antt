-- The text of a `Text`, and what each keeps.
-- A reader must believe these definitions; nothing here is proved.
use Rattle.std.specs.Prelude.{◌≡◌, List, ℕ, ◌-◌, ◌≤◌, length, take, drop, replicate}
use Rattle.report.specs.Lines.{room}
use Rattle.report.specs.declared.text.Text.TheInside.{Inside}

-- the bytes that a text holds, and those after them
abbrev pub text_of : Inside → List ℕ
text_of x = take x.len x.bytes

abbrev pub rest_of : Inside → List ℕ
rest_of x = drop x.len x.bytes

-- every byte after the text is 0
abbrev pub ZerosAfter : Inside → Type 0
ZerosAfter x = rest_of x ≡ replicate (room - x.len) 0

-- the text lies inside its bytes, of which there are as many as it has room for, and nothing stands after it
pub record IsWhole (x : Inside) : Type 0 where
  pub sized : length x.bytes ≡ room
  pub inside : x.len ≤ room
  pub zeros : ZerosAfter x
