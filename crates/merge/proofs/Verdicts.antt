-- What an accepted merge has been shown: every ground is absent.
-- What carries it: the grounds are read one after the other. Assumes nothing.
use mathlib.Core.Path.{◌≡◌}
use mathlib.Core.Bool.{true, ◌&&◌}
use mathlib.Core.List.{List, ◌++◌}
use Prim.Native.Nat.{ℕ, ◌<◌}
use borrow.Author.Tests.{eqb-true, eqb-false, not-false}
use lib.Dec.{eqb}
use Rattle.counting.proofs.Cases.{and_left, and_right}
use Rattle.table.specs.Kind.{faces}
use Rattle.table.specs.Table.{dim, face, live, sized}
use Rattle.audit.specs.Audit.{sound, grounds}
use Rattle.calls.specs.Calls.{Ground, verdict}
use Rattle.std.specs.declared.result.Result.TheVariants.{Ok}
use Prim.{tt}
use Rattle.table.proofs.Records.{live_true}
use Rattle.calls.proofs.Grounds.{accepted_none_applies}
use Rattle.audit.proofs.Valid.{sound_is_valid}
use Rattle.merge.specs.Merge.{same_faces, pair_grounds, on_faces, merge_grounds, merge_verdict}
use Rattle.merge.specs.Writing.{Joinable}
use Rattle.merge.proofs.Pairs.{same_faces_true}

-- where the audit and the pair are no ground for a refusal, the cells may be joined
pub joinable_accepted : (t : List ℕ) (a b : ℕ) (own : List Ground) → verdict (grounds t (pair_grounds t a b ++ own)) ≡ Ok tt → Joinable t a b
joinable_accepted t a b own e =
    let k = accepted_none_applies (grounds t (pair_grounds t a b ++ own)) e in
    let both : (live t a && live t b) ≡ true = not-false (live t a && live t b) k.1.1.0 in
    record {
      valid = sound_is_valid t (not-false (sized t) k.0) (not-false (sound t) k.1.0);
      first = live_true t a (and_left (live t a) (live t b) both);
      second = live_true t b (and_right (live t a) (live t b) both);
      different = eqb-false a b k.1.1.1.0;
      same_dim = eqb-true (dim t a) (dim t b) (not-false (eqb (dim t a) (dim t b)) k.1.1.1.1.0);
    }

pub record Mergeable (t : List ℕ) (a b : ℕ) : Type 0 where
  pub pair : Joinable t a b
  pub same_faces_lem : (j : ℕ) → j < faces → face t a j ≡ face t b j

pub merge_accepted : (t : List ℕ) (a b : ℕ) → merge_verdict t a b ≡ Ok tt → Mergeable t a b
unfolding merge_verdict
merge_accepted t a b e =
    let k = accepted_none_applies (merge_grounds t a b) e in
    record {
      pair = joinable_accepted t a b (on_faces t a b) e;
      same_faces_lem = same_faces_true t a b (not-false (same_faces t a b) k.1.1.1.1.1.0);
    }
