-- What the writer answers and leaves: refused as the audit refuses, refused for want of room, or the file in front of the target's
-- other bytes.
-- What carries it: the audit decides the first two grounds, the file's length the third. Assumes nothing.
use mathlib.Core.Path.{◌≡◌, ap, ◌∙◌}
use mathlib.Core.List.{List, [], ◌∷◌, ◌++◌}
use Prim.Native.Nat.{ℕ, ◌≤◌, ◌<◌}
use native.Mathlib.Nat.{zero-add}
use native.Mathlib.Omega.{arith}
use borrow.Author.Tests.{lt-ltb, le-ltb}
use lib.ListN.{length, drop}
use lib.Seq.{sets-eq}
use lib.Dec.{ltb}
use Rattle.table.specs.Table.{Valid}
use Rattle.audit.specs.Audit.{audit_grounds}
use Rattle.calls.specs.Calls.{Ground, verdict, Ends}
use Rattle.calls.specs.declared.Refusal.{Refusal}
use Rattle.calls.specs.declared.Refusal.TheVariants.{NoRoom}
use Rattle.std.specs.declared.result.Result.TheVariants.{Ok, Err}
use Prim.{tt}
use Rattle.calls.proofs.Grounds.{refused_first, accepted_first}
use Rattle.audit.proofs.Valid.{audit_accepts_iff_valid}
use Rattle.sketch.specs.Written.{file_of, write_verdict}
use Rattle.std.specs.declared.result.Result.{Result}
use Rattle.writer.specs.Write.{write_answer, write_leaves}
use Rattle.writer.specs.Put.{Put}

module _ (t target : List ℕ) where
  -- the call ends with answer r and leaves d
  abbrev WriteEnds : Result ℕ Refusal → List ℕ → Type 0
  WriteEnds r d = Ends (write_answer t target) (write_leaves t target) r d

  -- the ground after the audit's
  abbrev on_room : List Ground
  on_room = record { refusal = NoRoom; applies = ltb (length target) (length (file_of t)) } ∷ []

  -- a refusal leaves the target
  refused : (r : Refusal) → write_verdict t target ≡ Err r → WriteEnds (Err r) target
  refused r e = record { answer = rw e; left = rw e }

  pub ends_refused : (r : Refusal) → verdict (audit_grounds t) ≡ Err r → WriteEnds (Err r) target
  unfolding write_verdict
  ends_refused r e = refused r (refused_first (audit_grounds t) on_room r e)

  module _ (v : Valid t) where
    passes : write_verdict t target ≡ verdict on_room
    unfolding write_verdict
    passes = accepted_first (audit_grounds t) on_room ((audit_accepts_iff_valid t).1 v)

    pub ends_without_room : length target < length (file_of t) → WriteEnds (Err NoRoom) target
    ends_without_room l = refused NoRoom (passes ∙ rw (lt-ltb (length target) (length (file_of t)) l))

    -- the file put at the front is what an accepted call leaves
    module _ {e : ℕ} {d : List ℕ} (l : length (file_of t) ≤ length target) (a : Put target 0 (file_of t) e d) where
      accepted : write_verdict t target ≡ Ok tt
      accepted = passes ∙ rw (le-ltb (length target) (length (file_of t)) l)

      file_left : d ≡ file_of t ++ drop (length (file_of t)) target
      file_left = a.left ∙ sets-eq (file_of t) target 0 (omega arith) ∙ rw (zero-add (length (file_of t)))

      pub ends_written : WriteEnds (Ok e) d
      ends_written =
          let k : e ≡ length (file_of t) = omega arith in
          record { answer = rw accepted (ap Ok k); left = rw accepted file_left }
