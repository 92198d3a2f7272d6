-- The grounds of a cone in the order in which the code asks them: the lengths, the audit, the marks, the room.
-- What carries it: a list of grounds that begins with another is decided by it where it refuses, and by the rest where it accepts.
-- Assumes nothing.
use mathlib.Core.Path.{◌≡◌, refl, sym, ap, ◌∙◌}
use mathlib.Core.Bool.{true, ◌&&◌, and-true}
use mathlib.Core.List.{List, [], ◌∷◌, ◌++◌}
use Prim.Native.Nat.{ℕ, ◌≤◌}
use native.Mathlib.Omega.{arith}
use borrow.Author.Tests.{eq-eqb, eqb-true, not-false}
use lib.ListN.{length}
use lib.Dec.{eqb}
use Rattle.counting.proofs.Cases.{and_left, and_right}
use Rattle.bitset.specs.Bits.{words_for, member}
use Rattle.counting.specs.Counting.{pick}
use Rattle.table.specs.Kind.{capacity}
use Rattle.table.specs.Table.{cells_of, sized, Live}
use Rattle.audit.specs.Audit.{audit_grounds}
use Rattle.calls.specs.Calls.{Ground, verdict, named, leaves, Ends}
use Rattle.calls.specs.declared.Refusal.{Refusal}
use Rattle.calls.specs.declared.Refusal.TheVariants.{NoRoom}
use Rattle.calls.specs.Calls.{Verdict}
use Rattle.std.specs.declared.result.Result.TheVariants.{Ok, Err}
use Prim.{tt}
use Rattle.table.proofs.Sizes.{sized_is_sized}
use Rattle.audit.proofs.Valid.{audit_accepts_iff_valid}
use Rattle.cone.specs.Cone.{apex_of, coned, no_room, cone_verdict, cone_answer, cone_leaves, mark_grounds}
use Rattle.cone.specs.declared.numbers.Numbers.{Numbers}
use Rattle.cone.specs.Parts.{Given, Ready, room_verdict, early_grounds}
use Rattle.calls.proofs.Grounds.{accepted_none_applies, refused_first, accepted_first}
use Rattle.cone.proofs.Acceptance.{cone_accepted, live_marks}

module _ (t marks : List ℕ) where
  -- the lengths and the audit
  module _ (right : length marks ≡ words_for (cells_of t)) where
    audit_first : verdict (early_grounds t marks) ≡ verdict (audit_grounds t ++ mark_grounds t marks)
    audit_first = rw (eq-eqb (length marks) (words_for (cells_of t)) right, and-true (sized t))

    pub audit_refused : (r : Refusal) → verdict (audit_grounds t) ≡ Err r → Err r ≡ verdict (early_grounds t marks)
    audit_refused r e = sym (audit_first ∙ refused_first (audit_grounds t) (mark_grounds t marks) r e)

    module _ (valid : verdict (audit_grounds t) ≡ Ok tt) where
      pub audit_passed : (v : Verdict) → v ≡ verdict (mark_grounds t marks) → v ≡ verdict (early_grounds t marks)
      audit_passed v e = e ∙ sym (audit_first ∙ accepted_first (audit_grounds t) (mark_grounds t marks) valid)

      pub few_words : length marks ≤ capacity
      few_words = omega (arith, ((audit_accepts_iff_valid t).0 valid).sized.room)

  -- the room
  abbrev room_ground : Ground
  room_ground = record { refusal = NoRoom; applies = no_room t marks }

  all_grounds : cone_verdict t marks ≡ verdict (early_grounds t marks ++ room_ground ∷ [])
  unfolding cone_verdict
  all_grounds = refl

  ends : (v : Verdict) → cone_verdict t marks ≡ v → (u : List ℕ) → u ≡ leaves v (coned t marks) t → Ends (cone_answer t marks) (cone_leaves t marks) (named v (apex_of t)) u
  ends v e u l = record { answer = sym (ap (λ (w : Verdict). named w (apex_of t)) e); left = l ∙ sym (ap (λ (w : Verdict). leaves w (coned t marks) t) e) }

  pub refused_early : (r : Refusal) → verdict (early_grounds t marks) ≡ Err r → Ends (cone_answer t marks) (cone_leaves t marks) (Err r) t
  refused_early r e = ends (Err r) (all_grounds ∙ refused_first (early_grounds t marks) (room_ground ∷ []) r e) t refl

  module _ (early : verdict (early_grounds t marks) ≡ Ok tt) where
    only_room : cone_verdict t marks ≡ pick (no_room t marks) (Err NoRoom) (Ok tt)
    only_room = all_grounds ∙ accepted_first (early_grounds t marks) (room_ground ∷ []) early

    -- the lengths are right, so there are few cells and few words
    lengths : (sized t && eqb (length marks) (words_for (cells_of t))) ≡ true
    lengths =
        not-false (sized t && eqb (length marks) (words_for (cells_of t))) (accepted_none_applies (early_grounds t marks) early).0

    pub few_cells : cells_of t ≤ capacity
    few_cells = (sized_is_sized t (and_left (sized t) (eqb (length marks) (words_for (cells_of t))) lengths)).room

    pub words_fit : length marks ≤ capacity
    words_fit =
        let right : length marks ≡ words_for (cells_of t) = eqb-true (length marks) (words_for (cells_of t)) (and_right (sized t) _ lengths) in
        omega (arith, few_cells)

    pub marks_live : (c : ℕ) → member marks c ≡ true → Live t c
    marks_live = live_marks t marks (accepted_none_applies (early_grounds t marks) early).1.1.0

    -- nothing else is asked
    pub room_lacks : (r : Refusal) → room_verdict t marks ≡ Err r → Ends (cone_answer t marks) (cone_leaves t marks) (Err r) t
    room_lacks r e = ends (Err r) (only_room ∙ e) t refl

    module _ (yes : room_verdict t marks ≡ Ok tt) (ns : Numbers) (given : Given t marks ns) where
      accepted : cone_verdict t marks ≡ Ok tt
      accepted = only_room ∙ yes

      pub ready : Ready t marks ns
      ready =
          record {
            accepted = accepted;
            is_apex = given.is_apex;
            numbers = λ s m. given.at s ((cone_accepted t marks accepted).marked_live s m).inside m;
          }

      pub room_found : (u : List ℕ) → u ≡ coned t marks → Ends (cone_answer t marks) (cone_leaves t marks) (Ok ns.apex) u
      room_found u e = rw given.is_apex (ends (Ok tt) accepted u e)
