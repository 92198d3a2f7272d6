-- What an accepted call leaves, said of its outcome alone: it is the compaction, with the list as the new numbers; the table is valid,
-- has the same hole numbers and the same incidences, and another call changes no word of it.
-- What carries it: the contract names the numbers by counting, and they are the numbering. Assumes nothing.
use mathlib.Core.Path.{◌≡◌, refl, sym, ap, subst, ◌∙◌, fun_ext}
use mathlib.Core.List.{List}
use mathlib.Core.Logic.{◌↔◌, ⊎_elim}
use Prim.Native.Nat.{ℕ}
use native.Mathlib.Omega.{arith}
use lib.ListN.{get_or-eq_default}
use Rattle.counting.specs.Counting.{pick, listed}
use Rattle.counting.proofs.Cases.{below_or_not}
use Rattle.counting.proofs.Listed.{length_listed}
use Rattle.counting.proofs.Places.{listed_at}
use Rattle.table.specs.Kind.{free_mark}
use Rattle.table.specs.Table.{cells_of, live, Valid}
use Rattle.homology.specs.Holes.{IsHoleNumber}
use Rattle.complex.specs.Cells.{cells}
use Rattle.reading.specs.Incidence.{incidence_answer}
use Rattle.calls.specs.Calls.{leaves}
use Rattle.calls.specs.Calls.{Verdict}
use Rattle.std.specs.declared.result.Result.TheVariants.{Ok, Err}
use Prim.{tt}
use Rattle.compaction.specs.Compaction.{IsCompaction}
use Rattle.compaction.specs.Made.{new_number, new_numbers, compacted}
use Rattle.compaction.specs.Call.{compact_verdict, Compacts, number_in}
use Rattle.compaction.proofs.Counted.{new_free}
use Rattle.compaction.proofs.Kept.{compaction_valid}
use Rattle.compaction.proofs.Again.{second_changes_nothing, second_list}
use Rattle.compaction.proofs.SameHoles.{compaction_same_holes}
use Rattle.compaction.proofs.Incidence.{same_incidence_answer}
use Rattle.compaction.proofs.Answers.{accepted_valid, accepted_leaves}

numbers_in : (t : List ℕ) (c : ℕ) → number_in (new_numbers t) c ≡ new_number t c
unfolding new_numbers
numbers_in t c =
    ⊎_elim
    (λ h. listed_at (cells_of t) (new_number t) c free_mark h)
    (λ h.
    get_or-eq_default (listed (cells_of t) (new_number t)) free_mark (omega (arith, length_listed (cells_of t) (new_number t)))
    ∙ sym (new_free t c (λ l. omega (arith, l.inside))))
    (below_or_not c (cells_of t))

module _ (t list t' list' : List ℕ) (call : Compacts t list (Ok tt) t' list') where
  yes : compact_verdict t list ≡ Ok tt
  yes = sym call.answer

  valid : Valid t
  valid = accepted_valid t list yes

  -- the list is the new numbers, and 65535 for a number that is no cell's
  call_lists : (c : ℕ) → number_in list' c ≡ new_number t c
  call_lists c = ap (λ l. number_in l c) (call.numbers ∙ ap (λ v. leaves v (new_numbers t) list) yes) ∙ numbers_in t c

  -- THEOREM: what the call leaves is the compaction,
  pub call_is_compaction : IsCompaction t (number_in list') t'
  call_is_compaction =
      subst (λ ν. IsCompaction t ν t') (sym (fun_ext call_lists))
      (subst (IsCompaction t (new_number t)) (sym call.table) (accepted_leaves t list yes))

  -- valid,
  pub call_leaves_valid : Valid t'
  call_leaves_valid = compaction_valid t (number_in list') t' valid call_is_compaction

  -- with the same hole numbers, both ways,
  pub call_keeps_holes : (p b : ℕ) → IsHoleNumber (cells t) p b ↔ IsHoleNumber (cells t') p b
  call_keeps_holes = compaction_same_holes t (number_in list') t' valid call_is_compaction

  -- and the same incidence of any two numbers under the list, refusals included.
  pub call_keeps_incidence : (c s : ℕ) → incidence_answer t' (number_in list' c) (number_in list' s) ≡ incidence_answer t c s
  call_keeps_incidence = same_incidence_answer t (number_in list') t' valid call_is_compaction

  -- A second call, accepted or not, changes no word of the table.
  pub second_call_changes_nothing : (l u l' : List ℕ) (r : Verdict) → Compacts t' l r u l' → u ≡ t'
  second_call_changes_nothing l u l' r second = second.table ∙ go (compact_verdict t' l)
    where
      go : (v : Verdict) → leaves v (compacted t') t' ≡ t'
      go (Ok tt) = second_changes_nothing t (number_in list') t' valid call_is_compaction
      go (Err x) = refl

  -- An accepted one lists each cell's own number.
  pub second_call_lists_itself : (l u l' : List ℕ) → Compacts t' l (Ok tt) u l' → (c : ℕ) → number_in l' c ≡ pick (live t' c) c free_mark
  second_call_lists_itself l u l' second c =
      ap (λ xs. number_in xs c) (second.numbers ∙ ap (λ v. leaves v (new_numbers t') l) (sym second.answer))
      ∙ numbers_in t' c
      ∙ second_list t (number_in list') t' valid call_is_compaction c
