-- The first m of a record's seven faces, read by value and taken as a slice, are the faces themselves.
-- What carries it: a record's list of faces is as long as it has places. Assumes nothing.
use mathlib.Core.Path.{◌≡◌, ap, ◌∙◌}
use mathlib.Core.List.{List}
use Prim.Native.Nat.{ℕ, ◌≤◌, ◌<◌}
use native.Mathlib.Omega.{arith}
use lib.ListN.{length, get_or, take}
use Rattle.std.proofs.lemmas.List.{get_or-take, length-take-le}
use Rattle.table.specs.Kind.{faces}
use Rattle.table.specs.Table.{face, faces_of}
use Rattle.table.proofs.Records.{faces_at}

module _ (t : List ℕ) (c : ℕ) {fs : List ℕ} (by_value : fs ≡ faces_of t c) where
  pub seven : length fs ≡ faces
  seven = ap length by_value

  module _ {m : ℕ} (few : m ≤ faces) where
    pub taken : length (take m fs) ≡ m
    taken = length-take-le m fs (omega (arith, seven))

    pub face_taken : {j : ℕ} → j < m → get_or (take m fs) j 0 ≡ face t c j
    face_taken {j} l = get_or-take m fs j 0 l ∙ faces_at t c fs by_value j (omega arith)
