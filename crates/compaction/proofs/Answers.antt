-- What a compaction is answered: its grounds, and what acceptance says of its input and of what it leaves.
-- What carries it: the cases of the two grounds; what is left is the table made by counting. Assumes nothing.
use mathlib.Core.Path.{◌≡◌, refl, sym, ap, subst, ◌∙◌}
use mathlib.Core.Bool.{Bool, true, false, not, ◌&&◌}
use mathlib.Core.List.{List}
use Prim.{tt}
use Prim.Native.Nat.{ℕ, ◌<◌}
use borrow.Author.Tests.{eq-eqb, ne_eqb, eqb-true, not-false}
use lib.Dec.{eqb}
use lib.ListN.{length, get_or}
use Rattle.counting.proofs.Cases.{and_both, and_left, and_right}
use Rattle.counting.proofs.Listed.{length_listed, get_or_listed}
use Rattle.homology.proofs.Marks.{&&-off}
use Rattle.table.specs.Table.{cells_of, Valid, sized}
use Rattle.calls.specs.Calls.{verdict, leaves}
use Rattle.calls.specs.declared.Refusal.{Refusal}
use Rattle.calls.specs.declared.Refusal.TheVariants.{Length}
use Rattle.calls.specs.Calls.{Verdict}
use Rattle.std.specs.declared.result.Result.TheVariants.{Ok, Err}
use Prim.{tt}
use Rattle.calls.proofs.Grounds.{accepted_none_applies, none_applies_accepted}
use Rattle.audit.specs.Audit.{sound, audit_grounds}
use Rattle.audit.proofs.Valid.{sound_is_valid, valid_is_sound, valid_is_sized}
use Rattle.compaction.specs.Compaction.{IsCompaction}
use Rattle.compaction.specs.Made.{new_number, new_numbers, compacted}
use Rattle.compaction.specs.Call.{compact_grounds, compact_verdict, compact_leaves, Compacts}
use Rattle.compaction.proofs.Determines.{compacted_is_compaction}
use Rattle.compaction.proofs.Kept.{compaction_valid}

and_on : (b : Bool) → b && true ≡ b
and_on true = refl
and_on false = refl

-- the list has each old number's new one
pub numbers_listed : (t : List ℕ) (c : ℕ) → c < cells_of t → get_or (new_numbers t) c 0 ≡ new_number t c
unfolding new_numbers
numbers_listed t c h = get_or_listed (cells_of t) (new_number t) c h

pub numbers_long : (t : List ℕ) → length (new_numbers t) ≡ cells_of t
unfolding new_numbers
numbers_long t = length_listed (cells_of t) (new_number t)

module _ (t list : List ℕ) where
  abbrev fit : Bool
  fit = eqb (length list) (cells_of t)

  -- a list of another length is refused, on any table; else the audit decides
  pub refuses_length : (length list ≡ cells_of t → ⊥) → Err Length ≡ compact_verdict t list
  unfolding compact_verdict
  refuses_length other = simp (ne_eqb (length list) (cells_of t) other, &&-off (sized t))

  pub as_audited : length list ≡ cells_of t → verdict (audit_grounds t) ≡ compact_verdict t list
  unfolding compact_verdict
  as_audited e = simp (eq-eqb (length list) (cells_of t) e, and_on (sized t))

  -- a valid table, with a list of its length, is accepted
  pub compact_accepts : Valid t → length list ≡ cells_of t → compact_verdict t list ≡ Ok tt
  unfolding compact_verdict
  compact_accepts v e =
      none_applies_accepted (compact_grounds t list)
      (ap not (and_both (sized t) fit (valid_is_sized t v) (eq-eqb (length list) (cells_of t) e)), (ap not (valid_is_sound t v), tt))

  -- a refusal leaves both buffers
  pub refused_ends : (r : Refusal) → compact_verdict t list ≡ Err r → Compacts t list (Err r) t list
  refused_ends r why =
      record {
        answer = sym why;
        table = sym (ap (λ v. leaves v (compacted t) t) why);
        numbers = sym (ap (λ v. leaves v (new_numbers t) list) why);
      }

  -- acceptance
  module _ (yes : compact_verdict t list ≡ Ok tt) where
    both_on : (sized t && fit ≡ true) × (sound t ≡ true)
    unfolding compact_verdict
    both_on =
        let none = accepted_none_applies (compact_grounds t list) yes in
        (not-false (sized t && fit) none.0, not-false (sound t) none.1.0)

    pub accepted_valid : Valid t
    accepted_valid = sound_is_valid t (and_left (sized t) fit both_on.0) both_on.1

    pub accepted_long : length list ≡ cells_of t
    accepted_long = eqb-true (length list) (cells_of t) (and_right (sized t) fit both_on.0)

    pub accepted_leaves : IsCompaction t (new_number t) (compact_leaves t list)
    accepted_leaves =
        subst (IsCompaction t (new_number t)) (sym (ap (λ v. leaves v (compacted t) t) yes)) (compacted_is_compaction t accepted_valid)

    pub accepted_ends : (u l : List ℕ) → u ≡ compacted t → l ≡ new_numbers t → Compacts t list (Ok tt) u l
    accepted_ends u l e f =
        record {
          answer = sym yes;
          table = e ∙ sym (ap (λ v. leaves v (compacted t) t) yes);
          numbers = f ∙ sym (ap (λ v. leaves v (new_numbers t) list) yes);
        }

  -- what is left is valid, accepted or not
  pub compact_leaves_valid : Valid t → Valid (compact_leaves t list)
  compact_leaves_valid valid = go (compact_verdict t list)
    where
      go : (v : Verdict) → Valid (leaves v (compacted t) t)
      go (Ok tt) = compaction_valid t (new_number t) (compacted t) valid (compacted_is_compaction t valid)
      go (Err r) = valid

-- two permitted outcomes are equal
pub one_compaction_outcome :
    (t list : List ℕ) {r r' : Verdict} {u u' l l' : List ℕ} → Compacts t list r u l → Compacts t list r' u' l' →
    (r ≡ r') × (u ≡ u') × (l ≡ l')
one_compaction_outcome t list e f =
    (e.answer ∙ sym f.answer, e.table ∙ sym f.table, e.numbers ∙ sym f.numbers)
