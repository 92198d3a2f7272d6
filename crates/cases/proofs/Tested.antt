-- One computed test of an entry, and the theorem that an entry which passes it holds.
-- What carries it: the audit's test is validity, a call is a step of the published rules, the computed evidence is by the reducer's
-- rule, and evidence that meets the two rules counts holes. Assumes nothing.
use mathlib.Core.Path.{◌≡◌, subst, ◌∙◌}
use mathlib.Core.Bool.{Bool, true, ◌&&◌}
use mathlib.Core.List.{List, [], ◌∷◌}
use Prim.Native.Nat.{ℕ, ◌+◌, ◌≤◌}
use native.Mathlib.Omega.{arith}
use borrow.Author.Tests.{eqb-true}
use lib.Dec.{eqb}
use lib.ListN.{get_or}
use Rattle.counting.proofs.Cases.{and_left, and_right}
use Rattle.homology.specs.Holes.{IsHoleNumber}
use Rattle.homology.specs.Evidence.{holes_in}
use Rattle.homology.proofs.HoleTheorem.{holes_are_hole_numbers}
use Rattle.table.specs.Kind.{top}
use Rattle.table.specs.Table.{cells_of, Valid, sized}
use Rattle.counting.specs.Counting.{all}
use Rattle.audit.specs.Audit.{sound}
use Rattle.counting.proofs.Tests.{all_true}
use Rattle.audit.proofs.Valid.{sound_is_valid}
use Rattle.complex.specs.Cells.{cells}
use Rattle.complex.proofs.Boundary.{valid_is_lawful}
use Rattle.rows.specs.Rows.{rows}
use Rattle.reducer.specs.Rule.{additions_in}
use Rattle.reducer.specs.Reduce.{counts}
use Rattle.reducer.proofs.Computed.{reduced_evidence, reduced_additions}
use Rattle.reducer.proofs.Existence.{reduced_by_rule, reduced_meets}
use Rattle.building.specs.Runs.{Request, Step, left_by}
use Rattle.building.proofs.Runs.{call_keeps_valid, call_is_step, step_is_call}
use Rattle.reading.specs.Incidence.{incidence_answer}
use Rattle.cases.specs.Cases.{Answer, Asked, Incidence, Counts, Case}
use Rattle.cases.specs.Cases.Asked.{nothing, call}
use Rattle.cases.specs.Cases.Counts.{unnamed, seven}
use Rattle.cases.specs.Claims.{Each, answer_to, Leads, IncidenceIs, ReducedWith, Holds}
use Rattle.cases.specs.Claims.Each.{end, ◌then◌}
use Rattle.cases.specs.Claims.Leads.{as_it_was, by_call}
use Rattle.cases.proofs.Compared.{same_words, same_words_lem, is_sum, is_sum_lem, same_answer, same_answer_lem}

-- ---- the test

-- whether every entry of a list passes f
unfoldable pub every : {A : Type 0} → (A → Bool) → List A → Bool
every f [] = true
every f (x ∷ xs) = f x && every f xs

unfoldable pub valid_words : List ℕ → Bool
valid_words t = sized t && sound t

unfoldable pub goes : List ℕ → Asked → List ℕ → Bool
goes t nothing u = same_words t u
goes t (call r a) u = same_answer (answer_to t r) a && same_words (left_by t r) u

unfoldable pub holes_are : List ℕ → List ℕ → List ℕ → Bool
holes_are t ev hs = all (top + 1) (λ p. eqb (holes_in (cells t) (rows (cells t) ev) p) (get_or hs p 0))

unfoldable pub incidence_is : List ℕ → Incidence → Bool
incidence_is t i = is_sum (incidence_answer t i.cell i.face) i.value

unfoldable pub additions_are : List ℕ → Counts → Bool
additions_are t unnamed = true
additions_are t (seven ns) = same_words ns (counts (λ p. additions_in (cells t) (reduced_additions (cells t)) p (cells_of t)))

-- the numbers of the table after
unfoldable pub numbers_are : Case → Bool
numbers_are e =
    holes_are e.after (reduced_evidence (cells e.after)) e.holes
    && (every (incidence_is e.after) e.incidences && additions_are e.after e.additions)

unfoldable pub test : Case → Bool
test e = valid_words e.before && (goes e.before e.asked e.after && numbers_are e)

-- ---- what each part of it shows

every_each : {A : Type 0} {P : A → Type 0} (f : A → Bool) → ((x : A) → f x ≡ true → P x) → (xs : List A) → every f xs ≡ true → Each P xs
unfolding every
every_each f h [] e = end
every_each f h (x ∷ xs) e = h x (and_left (f x) (every f xs) e) then every_each f h xs (and_right (f x) (every f xs) e)

valid_words_lem : (t : List ℕ) → valid_words t ≡ true → Valid t
unfolding valid_words
valid_words_lem t e = sound_is_valid t (and_left (sized t) (sound t) e) (and_right (sized t) (sound t) e)

goes_to : (t : List ℕ) (r : Request) (a : Answer) (u : List ℕ) → goes t (call r a) u ≡ true → left_by t r ≡ u
unfolding goes
goes_to t r a u e = same_words_lem (left_by t r) u (and_right (same_answer (answer_to t r) a) (same_words (left_by t r) u) e)

goes_leads : (t : List ℕ) (q : Asked) (u : List ℕ) → Valid t → goes t q u ≡ true → Leads t q u
unfolding goes
goes_leads t nothing u v e = as_it_was (same_words_lem t u e)
goes_leads t (call r a) u v e =
    let to : left_by t r ≡ u = goes_to t r a u e in
    by_call
    (record {
      answer = same_answer_lem (answer_to t r) a (and_left (same_answer (answer_to t r) a) (same_words (left_by t r) u) e);
      step = subst (Step t r) to (call_is_step t r);
      only = λ x s. step_is_call v s ∙ to;
    })

goes_valid : (t : List ℕ) (q : Asked) (u : List ℕ) → Valid t → goes t q u ≡ true → Valid u
unfolding goes
goes_valid t nothing u v e = subst Valid (same_words_lem t u e) v
goes_valid t (call r a) u v e = subst Valid (goes_to t r a u e) (call_keeps_valid t r v)

-- the count that the test compares
abbrev counted : List ℕ → ℕ → ℕ
counted t p = holes_in (cells t) (rows (cells t) (reduced_evidence (cells t))) p

holes_are_lem : (t hs : List ℕ) → Valid t → holes_are t (reduced_evidence (cells t)) hs ≡ true → (p : ℕ) → p ≤ top → IsHoleNumber (cells t) p (get_or hs p 0)
unfolding holes_are
holes_are_lem t hs v e p l =
    subst (IsHoleNumber (cells t) p)
    (eqb-true (counted t p) (get_or hs p 0) (all_true (λ k. eqb (counted t k) (get_or hs k 0)) (top + 1) e p (omega arith)))
    (holes_are_hole_numbers (cells t) (valid_is_lawful t v) (rows (cells t) (reduced_evidence (cells t))) (reduced_meets (cells t) (valid_is_lawful t v)) p)

incidence_is_lem : (t : List ℕ) (i : Incidence) → incidence_is t i ≡ true → IncidenceIs t i
unfolding incidence_is
incidence_is_lem t i e = is_sum_lem (incidence_answer t i.cell i.face) i.value e

additions_are_lem : (t : List ℕ) (ns : Counts) → Valid t → additions_are t ns ≡ true → ReducedWith t ns
unfolding additions_are
additions_are_lem t unnamed v e = tt
additions_are_lem t (seven ns) v e = (
  reduced_evidence (cells t),
  record {
    adds = reduced_additions (cells t);
    by_rule = reduced_by_rule (cells t) (valid_is_lawful t v);
    counted = same_words_lem ns (counts (λ p. additions_in (cells t) (reduced_additions (cells t)) p (cells_of t))) e;
  },
)

-- ---- the theorem

module _ (e : Case) where
  abbrev passes_holes : Bool
  passes_holes = holes_are e.after (reduced_evidence (cells e.after)) e.holes

  abbrev passes_incidences : Bool
  passes_incidences = every (incidence_is e.after) e.incidences

  abbrev passes_additions : Bool
  passes_additions = additions_are e.after e.additions

  parts_hold : valid_words e.before ≡ true → goes e.before e.asked e.after ≡ true → passes_holes ≡ true → passes_incidences ≡ true → passes_additions ≡ true → Holds e
  parts_hold a b c d f =
      let before : Valid e.before = valid_words_lem e.before a in
      let after : Valid e.after = goes_valid e.before e.asked e.after before b in
      record {
        valid = before;
        leads = goes_leads e.before e.asked e.after before b;
        holes = holes_are_lem e.after e.holes after c;
        incidences = every_each (incidence_is e.after) (incidence_is_lem e.after) e.incidences d;
        reduced = additions_are_lem e.after e.additions after f;
      }

  numbers_hold : valid_words e.before ≡ true → goes e.before e.asked e.after ≡ true → numbers_are e ≡ true → Holds e
  unfolding numbers_are
  numbers_hold a b h =
      let rest : passes_incidences && passes_additions ≡ true = and_right passes_holes (passes_incidences && passes_additions) h in
      parts_hold a b
      (and_left passes_holes (passes_incidences && passes_additions) h)
      (and_left passes_incidences passes_additions rest)
      (and_right passes_incidences passes_additions rest)

  -- an entry that passes the test holds
  passing_case_holds : test e ≡ true → Holds e
  unfolding test
  passing_case_holds h =
      let went : Bool = goes e.before e.asked e.after in
      let rest : went && numbers_are e ≡ true = and_right (valid_words e.before) (went && numbers_are e) h in
      numbers_hold
      (and_left (valid_words e.before) (went && numbers_are e) h)
      (and_left went (numbers_are e) rest)
      (and_right went (numbers_are e) rest)

-- and so does each entry of a list whose entries all pass
abbrev pub Passes : Case → Type 0
Passes e = test e ≡ true

pub each_passing_holds : {es : List Case} → Each Passes es → Each Holds es
each_passing_holds end = end
each_passing_holds (◌then◌ {x = e} h rest) = passing_case_holds e h then each_passing_holds rest
