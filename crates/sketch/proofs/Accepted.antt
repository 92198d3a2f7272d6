-- What an accepted file says, and back; and that the table that it describes is valid.
-- What carries it: the reader's four grounds, each decided by its own test. Assumes nothing.
use mathlib.Core.Path.{◌≡◌}
use mathlib.Core.Bool.{true}
use mathlib.Core.List.{List}
use Prim.Native.Nat.{ℕ}
use borrow.Author.Tests.{not-false}
use Rattle.table.specs.Table.{cells_of, Sized, Valid, sized}
use Rattle.audit.specs.Audit.{sound}
use Rattle.std.specs.declared.result.Result.TheVariants.{Ok}
use Prim.{tt}
use Rattle.calls.proofs.Grounds.{accepted_none_applies}
use Rattle.table.proofs.Sizes.{sized_is_sized, sized_says}
use Rattle.audit.proofs.Valid.{sound_is_valid}
use Rattle.sketch.specs.Read.{contents_fit, numbers_fit, described, read_grounds, read_verdict}
use Rattle.sketch.proofs.Fits.{Fits, Numbered, contents_fit_lem, numbers_fit_lem}
use Rattle.sketch.proofs.Described.{described_sized}

module _ (u f : List ℕ) where
  pub record Accepts : Type 0 where
    pub size : Sized u
    pub contents : Fits (cells_of u) f
    pub numbers : Numbered (cells_of u) f
    pub table : Valid (described (cells_of u) f)

  pub accepted_says : read_verdict u f ≡ Ok tt → Accepts
  unfolding read_verdict
  accepted_says e =
      let k = accepted_none_applies (read_grounds u f) e in
      let s : Sized u = sized_is_sized u (not-false (sized u) k.0) in
      record {
        size = s;
        contents = contents_fit_lem (cells_of u) f (not-false (contents_fit (cells_of u) f) k.1.0);
        numbers = numbers_fit_lem (cells_of u) f (not-false (numbers_fit (cells_of u) f) k.1.1.0);
        table = sound_is_valid (described (cells_of u) f) (sized_says (described (cells_of u) f) (described_sized (cells_of u) f s.some s.room)) (not-false (sound (described (cells_of u) f)) k.1.1.1.0);
      }

  pub says_accepted : sized u ≡ true → contents_fit (cells_of u) f ≡ true → numbers_fit (cells_of u) f ≡ true → sound (described (cells_of u) f) ≡ true → read_verdict u f ≡ Ok tt
  unfolding read_verdict
  says_accepted a b c d = rw (a, b, c, d)
