-- A table whose every word is the free mark is valid.
-- What carries it: no record has a dimension, so nothing is asked of faces or of the law. Assumes nothing.
use mathlib.Core.Path.{◌≡◌}
use mathlib.Core.List.{List}
use mathlib.Core.Logic.{inr}
use Prim.Native.Nat.{ℕ, ◌*◌, ◌≤◌}
use native.Mathlib.Omega.{arith}
use lib.ListN.{length, replicate, length-replicate}
use Rattle.table.specs.Kind.{capacity, width, free_mark}
use Rattle.table.specs.Table.{Live, Valid}
use Rattle.table.proofs.Words.{one_dim, one_face}

-- n records of free marks
module _ (n : ℕ) where
  abbrev filled : List ℕ
  filled = replicate (n * width) free_mark

  long : length filled ≡ n * width
  long = length-replicate (n * width) free_mark

  none_live : (c : ℕ) → Live filled c → ⊥
  none_live c v = omega (arith, one_dim (n * width) free_mark c v.inside, v.low)

  pub empty_is_valid : 1 ≤ n → n ≤ capacity → Valid (replicate (n * width) free_mark)
  empty_is_valid h m =
      record {
        sized = record { whole = omega (arith, long); some = omega (arith, long); room = omega (arith, long) };
        records = λ c h. inr (one_dim (n * width) free_mark c h);
        unused = λ c j h u l. one_face (n * width) free_mark c j h l;
        face_live = λ c j v h. absurd (none_live c v);
        face_dim = λ c j v h. absurd (none_live c v);
        law = λ c j l v h k m. absurd (none_live c v);
      }
