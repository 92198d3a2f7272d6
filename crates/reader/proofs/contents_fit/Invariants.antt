-- `reader::contents_fit` meets its contract. The invariant: every offset below p is where its body starts, and `start` is where body p
-- starts. Assumes nothing.
use mathlib.Core.Path.{◌≡◌}
use Prim.Native.Nat.{ℕ, ◌+◌, ◌*◌, ◌≤◌, ◌<◌}
use Rattle.sketch.specs.Form.{four_at, contents_size, offset_place, body_start}
use Rattle.sketch.specs.Read.{count_in}
use Rattle.reader.proofs.Contents.{longest_body}
use Rattle.reader.proofs.contents_fit.Given as goal

abbrev pub invariant-loop-p : goal.invariant-loop-p
invariant-loop-p l =
    record {
      few : l.start ≤ contents_size + l.p * longest_body;
      start : l.start ≡ body_start (count_in l.file) l.p;
      offsets : (q : ℕ) → q < l.p → four_at l.file (offset_place q) ≡ body_start (count_in l.file) q;
    }
