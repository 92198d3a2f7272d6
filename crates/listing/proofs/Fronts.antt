-- What is answered of a text: it is too long, its list is refused, or the file of its table stands in front of the target.
-- What carries it: a valid table's file has room. Assumes nothing.
use mathlib.Core.Path.{◌≡◌, refl, sym, ap, subst, ◌∙◌}
use mathlib.Core.List.{List}
use Prim.{tt}
use Prim.Native.Nat.{ℕ, ◌≤◌, ◌<◌}
use native.Mathlib.Omega.{arith}
use borrow.Author.Tests.{le-ltb, lt-ltb}
use lib.ListN.{length, take, drop}
use lib.Seq.{take-append_seam}
use Rattle.calls.specs.Calls.{on_verdict, leaves, Ends}
use Rattle.calls.specs.declared.Refusal.{Refusal}
use Rattle.calls.specs.declared.Refusal.TheVariants.{BadText}
use Rattle.calls.specs.Calls.{Verdict}
use Rattle.std.specs.declared.result.Result.TheVariants.{Ok, Err}
use Prim.{tt}
use Rattle.calls.proofs.Grounds.{none_applies_accepted}
use Rattle.table.specs.Table.{Valid}
use Rattle.table.specs.Kind.{dimensions}
use Rattle.audit.proofs.Valid.{valid_is_sound, valid_is_sized}
use Rattle.sketch.specs.Form.{longest}
use Rattle.sketch.specs.Written.{file_of, write_grounds, write_verdict, written}
use Rattle.sketch.proofs.Sizes.{length_file, start_fits}
use Rattle.std.specs.declared.result.Result.{Result}
use Rattle.writer.specs.Write.{write_answer, write_leaves}
use Rattle.intake.proofs.Promises.{accepted_list, accepted_table_of_list}
use Rattle.intake.specs.Import.{import_verdict, import_leaves}
use Rattle.listing.specs.Listing.{longest_text, blank, list_verdict}
use Rattle.listing.specs.Steps.{Converted}

-- ---- the file of a valid table

module _ (t d : List ℕ) (v : Valid t) (room : length d ≡ longest) where
  file_short : length (file_of t) ≤ longest
  file_short = omega (arith, length_file t, start_fits t dimensions v.sized)

  accepted : write_verdict t d ≡ Ok tt
  unfolding write_verdict
  accepted =
      none_applies_accepted (write_grounds t d)
      (rw (valid_is_sized t v) refl, (rw (valid_is_sound t v) refl, (le-ltb (length d) (length (file_of t)) (omega (arith, room, file_short)), tt)))

  -- the writer answers the length, and the file stands in front
  answered : write_answer t d ≡ Ok (length (file_of t))
  answered = ap (λ (w : Verdict). on_verdict w (Ok (length (file_of t))) Err) accepted

  in_front : take (length (file_of t)) (write_leaves t d) ≡ file_of t
  in_front =
      ap (λ (w : Verdict). take (length (file_of t)) (leaves w (written t d) d)) accepted
      ∙ take-append_seam (file_of t) (drop (length (file_of t)) d)

-- ---- a text

not_both : (why : Refusal) (n : ℕ) (r : Result ℕ Refusal) → r ≡ Err why → r ≡ Ok n → ⊥
not_both why n r e g = let two : Err why ≡ r = sym e in let z : ◌≡◌ {A = ℕ} 0 1 = cc in omega arith

-- a refusal is that of the list, or the length of its file is answered
refuses : (text target : List ℕ) (why : Refusal) → list_verdict text ≡ Err why → Converted text (Err why) target
refuses text target why e =
    record {
      short = tt;
      refused = λ w q. let same : why ≡ w = cc in e ∙ ap Err same;
      accepted = λ n q. absurd (not_both why n (Err why) refl q);
    }

pub too_long : (text target : List ℕ) → longest_text < length text → Converted text (Err BadText) target
unfolding list_verdict
too_long text target long = refuses text target BadText (rw (lt-ltb longest_text (length text) long) refl)

taken : (text : List ℕ) → length text ≤ longest_text → list_verdict text ≡ import_verdict blank text
unfolding list_verdict
taken text few = rw (le-ltb longest_text (length text) few) refl

module _ (text : List ℕ) (few : length text ≤ longest_text) where
  pub refused_list : (target : List ℕ) (why : Refusal) → import_verdict blank text ≡ Err why → Converted text (Err why) target
  refused_list target why e = refuses text target why (taken text few ∙ e)

  -- u is what the call leaves of the blank table, and r what the writer answers of it
  module _ (d target u : List ℕ) (r : Result ℕ Refusal) (room : length d ≡ longest) (e : import_verdict blank text ≡ Ok tt) (left : u ≡ import_leaves blank text) where
    valid : Valid u
    valid = let a = accepted_list blank text e in subst Valid (sym left) (accepted_table_of_list blank text e a.count a.lines a.is_list).valid

    pub written_list : Ends (write_answer u d) (write_leaves u d) r target → Converted text r target
    written_list w =
        let long : r ≡ Ok (length (file_of u)) = w.answer ∙ answered u d valid room in
        record {
          short = rw (long) (file_short u d valid room);
          refused = λ why q. absurd (not_both why _ r q long);
          accepted = λ n q.
              let same : n ≡ length (file_of u) = cc in
              (taken text few ∙ e, rw (same, w.left, ← left) (in_front u d valid room));
        }
