-- `reader::faces_at` meets its contract. The invariant: the faces below j are those of the file, the others free. Assumes nothing.
use mathlib.Core.Path.{◌≡◌}
use Prim.Native.Nat.{ℕ, ◌+◌, ◌≤◌, ◌<◌}
use lib.ListN.{length, get_or}
use Rattle.table.specs.Kind.{faces, free_mark}
use Rattle.sketch.specs.Form.{two_at, face_place}
use Rattle.reader.proofs.faces_at.Given as goal

abbrev pub invariant-loop-j : goal.invariant-loop-j
invariant-loop-j g l =
    record {
      long : length l.r ≡ faces;
      taken : (k : ℕ) → k < l.j → get_or l.r k 0 ≡ two_at l.file (l.at + face_place k);
      free : (k : ℕ) → l.j ≤ k → k < faces → get_or l.r k 0 ≡ free_mark;
    }
