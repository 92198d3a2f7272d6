-- What the reducer answers and leaves: on acceptance rows and counts by the rule; on a refusal no word and no count changed.
-- A reader must believe these definitions; nothing here is proved.
use Rattle.std.specs.Prelude.{◌≡◌, List, [], ℕ}
use Rattle.counting.specs.Counting.{listed}
use Rattle.homology.specs.Cells.{Cells}
use Rattle.table.specs.Kind.{dimensions}
use Rattle.calls.specs.Calls.{Ground, verdict}
use Rattle.calls.specs.declared.Refusal.{Refusal}
use Rattle.calls.specs.Calls.{Verdict}
use Rattle.std.specs.declared.result.Result.TheVariants.{Ok, Err}
use Prim.{tt}
use Rattle.audit.specs.Audit.{grounds_with}
use Rattle.complex.specs.Cells.{cells}
use Rattle.rows.specs.Lengths.{evidence_fits}
use Rattle.reducer.specs.Rule.{ByRule, additions_in}

-- the reducer has no grounds of its own beside the lengths and the table's validity
abbrev pub reduce_grounds : List ℕ → List ℕ → List Ground
reduce_grounds t ev = grounds_with t (evidence_fits t ev) []

unfoldable pub reduce_verdict : List ℕ → List ℕ → Verdict
reduce_verdict t ev = verdict (reduce_grounds t ev)

-- a count for each dimension
abbrev pub counts : (ℕ → ℕ) → List ℕ
counts f = listed dimensions f

-- the rows that the call leaves, with the additions that led to them
pub record Reduction (K : Cells) (ev' : List ℕ) (additions : List ℕ) : Type 0 where
  pub adds : ℕ → ℕ
  pub by_rule : ByRule K ev' adds
  pub counted : additions ≡ counts (λ p. additions_in K adds p K.size)

pub record Reduces (t ev additions₀ : List ℕ) (r : Verdict) (ev' additions : List ℕ) : Type 0 where
  pub answer : r ≡ reduce_verdict t ev
  pub refused_left : (x : Refusal) → reduce_verdict t ev ≡ Err x → (ev' ≡ ev) × (additions ≡ additions₀)
  pub accepted : reduce_verdict t ev ≡ Ok tt → Reduction (cells t) ev' additions
