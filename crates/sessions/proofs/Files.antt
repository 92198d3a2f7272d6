-- Two calls on a sketch file, one after the other: what was written reads back as the same table, and what was read is written back as
-- the same bytes. Said of the calls, over what their contracts permit.
-- What carries it: an accepted call's table is valid, and the two laws of the file. Assumes nothing.
use mathlib.Core.Path.{◌≡◌, refl, sym, ap, subst, ◌∙◌}
use mathlib.Core.List.{List, ◌++◌}
use Prim.{tt}
use Prim.Native.Nat.{ℕ, ◌≤◌, ◌<◌}
use native.Mathlib.Omega.{arith}
use borrow.Author.Tests.{not-false, le-ltb}
use lib.ListN.{length, get_or, take, drop, replicate}
use lib.Seq.{take-append_seam}
use lib.Dec.{eqb}
use Rattle.counting.specs.Counting.{pick}
use Rattle.calls.specs.Numbers.{number_of}
use Rattle.calls.specs.Calls.{on_verdict, leaves, Ends}
use Rattle.calls.specs.Calls.{Verdict}
use Rattle.std.specs.declared.result.Result.TheVariants.{Ok, Err}
use Prim.{tt}
use Rattle.calls.proofs.Grounds.{accepted_none_applies, none_applies_accepted}
use Rattle.table.specs.Kind.{free_mark}
use Rattle.table.specs.Table.{cells_of, Sized, Valid, sized}
use Rattle.audit.specs.Audit.{sound}
use Rattle.audit.proofs.Valid.{sound_is_valid, valid_is_sound, valid_is_sized}
use Rattle.sketch.specs.Written.{file_of, write_grounds, write_verdict, written}
use Rattle.sketch.specs.Read.{read_verdict, read_leaves, described}
use Rattle.sketch.proofs.RoundTrip.{written_accepted, written_read, read_then_write, accepted_valid}
use Rattle.std.specs.declared.result.Result.{Result}
use Rattle.calls.specs.declared.Refusal.{Refusal}
use Rattle.writer.specs.Write.{write_answer, write_leaves}

-- a write that is accepted: its table is valid
write_valid : (t d : List ℕ) → write_verdict t d ≡ Ok tt → Valid t
unfolding write_verdict
write_valid t d e =
    let none = accepted_none_applies (write_grounds t d) e in
    sound_is_valid t (not-false (sized t) none.0) (not-false (sound t) none.1.0)

-- and one of a valid table with room is accepted
room_accepted : (t d : List ℕ) → Valid t → length (file_of t) ≤ length d → write_verdict t d ≡ Ok tt
unfolding write_verdict
room_accepted t d v room =
    none_applies_accepted (write_grounds t d) (rw (valid_is_sized t v) refl, (rw (valid_is_sound t v) refl, (le-ltb (length d) (length (file_of t)) room, tt)))

-- an answer in bytes is an acceptance
bytes_accepted : (t d : List ℕ) (n : ℕ) → Ok n ≡ write_answer t d → write_verdict t d ≡ Ok tt
bytes_accepted t d n said = go (write_verdict t d) refl
  where
    go : (v : Verdict) → write_verdict t d ≡ v → write_verdict t d ≡ Ok tt
    go (Ok tt) e = e
    go (Err r) e =
        let other : Ok n ≡ Err r = said ∙ ap (λ (v : Verdict). on_verdict v (Ok (length (file_of t))) Err) e in
        let z : ◌≡◌ {A = ℕ} 0 1 = cc in
        absurd (omega arith)

-- THEOREM: an accepted write, then a read of the answered number of bytes into a table of that size, is accepted and gives the table
pub written_then_read :
    (t d target : List ℕ) (n : ℕ) → Ends (write_answer t d) (write_leaves t d) (Ok n) target →
    (u u' : List ℕ) (r : Verdict) → Sized u → cells_of t ≡ cells_of u →
    Ends (read_verdict u (take n target)) (read_leaves u (take n target)) r u' → (r ≡ Ok tt) × (u' ≡ t)
written_then_read t d target n first u u' r s same second =
    (second.answer ∙ ap (read_verdict u) bytes ∙ written_accepted t u v s same, second.left ∙ ap (read_leaves u) bytes ∙ written_read t u v s same)
  where
    yes : write_verdict t d ≡ Ok tt
    yes = bytes_accepted t d n first.answer

    v : Valid t
    v = write_valid t d yes

    long : n ≡ length (file_of t)
    long =
        let said : Ok n ≡ Ok (length (file_of t)) = first.answer ∙ ap (λ (w : Verdict). on_verdict w (Ok (length (file_of t))) Err) yes in
        cc

    bytes : take n target ≡ file_of t
    bytes =
        ap (λ (k : ℕ). take k target) long
        ∙ ap (take (length (file_of t))) (first.left ∙ ap (λ (w : Verdict). leaves w (written t d) d) yes)
        ∙ take-append_seam (file_of t) (drop (length (file_of t)) d)

-- THEOREM: an accepted read of bytes, then a write with room for as many, answers their number and leaves the same bytes, and after
-- them what stood there
pub read_then_written :
    (u f u' : List ℕ) → ((k : ℕ) → get_or f k 0 < 256) → Ends (read_verdict u f) (read_leaves u f) (Ok tt) u' →
    (d target : List ℕ) (r : Result ℕ Refusal) → length f ≤ length d →
    Ends (write_answer u' d) (write_leaves u' d) r target → (r ≡ Ok (length f)) × (target ≡ f ++ drop (length f) d)
read_then_written u f u' small first d target r room second = (
  second.answer ∙ ap (λ (w : Verdict). on_verdict w (Ok (length (file_of u'))) Err) yes ∙ ap (λ (g : List ℕ). Ok (length g)) file,
  second.left ∙ ap (λ (w : Verdict). leaves w (written u' d) d) yes ∙ ap (λ (g : List ℕ). g ++ drop (length g) d) file,
)
  where
    told : read_verdict u f ≡ Ok tt
    told = sym first.answer

    table : u' ≡ described (cells_of u) f
    table =
        first.left
        ∙ ap (λ (w : Verdict). on_verdict w (described (cells_of u) f) (λ x. pick (eqb (number_of x) 1) u (replicate (length u) free_mark))) told

    file : file_of u' ≡ f
    file = ap file_of table ∙ read_then_write u f small told

    yes : write_verdict u' d ≡ Ok tt
    yes =
        room_accepted u' d (subst Valid (sym table) (accepted_valid u f told))
        (subst (λ (g : List ℕ). length g ≤ length d) (sym file) room)
