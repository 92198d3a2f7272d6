-- What an entry of the table of cases claims, in terms of the published meaning: validity, the rules of cone and merge, hole numbers
-- as the greatest size of an independent list of cycles, signed incidence, and the reducer's rule.
-- A reader must believe these definitions; nothing here is proved.
use Rattle.std.specs.Prelude.{◌≡◌, List, [], ◌∷◌, ℕ, ◌≤◌, get_or}
use Rattle.homology.specs.Holes.{IsHoleNumber}
use Rattle.table.specs.Kind.{top}
use Rattle.table.specs.Table.{Valid}
use Rattle.calls.specs.Numbers.{number_of}
use Rattle.calls.specs.Calls.{on_verdict}
use Rattle.calls.specs.Calls.{Verdict}
use Rattle.calls.specs.Calls.{Named}
use Rattle.std.specs.declared.result.Result.TheVariants.{Ok, Err}
use Rattle.complex.specs.Cells.{cells}
use Rattle.reducer.specs.Reduce.{Reduction}
use Rattle.merge.specs.Merge.{merge_answer}
use Rattle.weld.specs.Call.{weld_answer}
use Rattle.cone.specs.Cone.{cone_answer}
use Rattle.compaction.specs.Call.{compact_verdict}
use Rattle.building.specs.Runs.{Request, Step}
use Rattle.building.specs.Runs.Request.{cone_over, merge_of, weld_of, compaction}
use Rattle.reading.specs.Incidence.{incidence_answer}
use Rattle.cases.specs.Cases.{Answer, Asked, Incidence, Counts, Case}
use Rattle.cases.specs.Cases.Answer.{names, done, refused}
use Rattle.cases.specs.Cases.Asked.{nothing, call}
use Rattle.cases.specs.Cases.Counts.{unnamed, seven}

-- every entry of a list has P, one after the other
infixr 5 ◌then◌
pub data Each {ℓ} {A : Type 0} (P : A → Type ℓ) : List A → Type ℓ where
  end : Each P []
  ◌then◌ : {x : A} {xs : List A} → P x → Each P xs → Each P (x ∷ xs)

-- an answer in the paper's words: the cell's number, or the number that the refusal has in the published list
abbrev pub told : Named → Answer
told (Ok c) = names c
told (Err r) = refused (number_of r)

-- the same of an answer that names no cell
abbrev pub told_plain : Verdict → Answer
told_plain v = on_verdict v done (λ r. refused (number_of r))

-- what the call answers, by its contract
abbrev pub answer_to : List ℕ → Request → Answer
answer_to t (cone_over marks) = told (cone_answer t marks)
answer_to t (merge_of a b) = told (merge_answer t a b)
answer_to t (weld_of a b) = told (weld_answer t a b)
answer_to t (compaction list) = told_plain (compact_verdict t list)

-- the request r answers a, and the published rules make of the table t the words u, and nothing else
pub record Called (t : List ℕ) (r : Request) (a : Answer) (u : List ℕ) : Type 1 where
  pub answer : answer_to t r ≡ a
  pub step : Step t r u
  pub only : (x : List ℕ) → Step t r x → x ≡ u

-- where nothing is asked, the words stay
pub data Leads : List ℕ → Asked → List ℕ → Type 1 where
  as_it_was : {t u : List ℕ} → t ≡ u → Leads t nothing u
  by_call : {t u : List ℕ} {r : Request} {a : Answer} → Called t r a u → Leads t (call r a) u

-- the incidence call accepts the two cells and answers this value
abbrev pub IncidenceIs : List ℕ → Incidence → Type 0
IncidenceIs t i = incidence_answer t i.cell i.face ≡ Ok i.value

-- there is evidence by the reducer's rule, with these additions
abbrev pub ReducedWith : List ℕ → Counts → Type 0
ReducedWith t unnamed = Unit {0}
ReducedWith t (seven ns) = (ev : List ℕ) × Reduction (cells t) ev ns

-- what an entry claims
pub record Holds (e : Case) : Type 1 where
  pub valid : Valid e.before
  pub leads : Leads e.before e.asked e.after
  pub holes : (p : ℕ) → p ≤ top → IsHoleNumber (cells e.after) p (get_or e.holes p 0)
  pub incidences : Each (IncidenceIs e.after) e.incidences
  pub reduced : ReducedWith e.after e.additions
