-- Runs of cone, merge, weld and compaction requests: any words and numbers whatever, refused ones included. On one side what the published
-- rules give, renumbered where a compaction was called, step by step, through relations that name no algorithm; on the other what the
-- calls leave, by their contracts.
-- A reader must believe these definitions; nothing here is proved.
use Rattle.std.specs.Prelude.{◌≡◌, List, [], ◌∷◌, ℕ}
use Rattle.calls.specs.declared.Refusal.{Refusal}
use Rattle.calls.specs.Calls.{Verdict}
use Rattle.std.specs.declared.result.Result.TheVariants.{Ok, Err}
use Prim.{tt}
use Rattle.merge.specs.Merge.{IsIdentification, merge_verdict, merge_leaves}
use Rattle.merge.specs.Rename.{renamed}
use Rattle.weld.specs.Weld.{IsWeld}
use Rattle.weld.specs.Merges.{Pair}
use Rattle.weld.specs.Call.{weld_verdict, weld_leaves}
use Rattle.cone.specs.Cone.{cone_verdict, cone_leaves}
use Rattle.compaction.specs.Compaction.{IsCompaction}
use Rattle.compaction.specs.Call.{compact_verdict, compact_leaves}
use Rattle.building.specs.ConeRule.{IsCone}

-- a request: the cone over marks, the merge of two numbers, their weld, or a compaction with a lent list
pub data Request : Type 0 where
  cone_over : List ℕ → Request
  merge_of : ℕ → ℕ → Request
  weld_of : ℕ → ℕ → Request
  compaction : List ℕ → Request

-- What the published rules make of a table by a request that is granted.
pub data Rule : List ℕ → Request → List ℕ → Type 1 where
  by_cone : {t marks t' : List ℕ} (apex : ℕ) (cone : ℕ → ℕ) → IsCone t marks apex cone t' → Rule t (cone_over marks) t'
  by_identification : {t t' : List ℕ} {a b : ℕ} → IsIdentification t a b t' → Rule t (merge_of a b) t'
  by_weld : {t t' : List ℕ} {a b : ℕ} (κ : ℕ → ℕ) → IsWeld t a b κ → t' ≡ renamed κ t → Rule t (weld_of a b) t'
  by_compaction : {t t' list : List ℕ} (ν : ℕ → ℕ) → IsCompaction t ν t' → Rule t (compaction list) t'

-- what the list of refusals says of a request
abbrev pub verdict_on : List ℕ → Request → Verdict
verdict_on t (cone_over marks) = cone_verdict t marks
verdict_on t (merge_of a b) = merge_verdict t a b
verdict_on t (weld_of a b) = weld_verdict t a b
verdict_on t (compaction list) = compact_verdict t list

-- One request: where the list of refusals refuses it nothing changes, else the table is what the rules give.
pub data Step : List ℕ → Request → List ℕ → Type 1 where
  refused : {t : List ℕ} {r : Request} (x : Refusal) → verdict_on t r ≡ Err x → Step t r t
  made : {t t' : List ℕ} {r : Request} → verdict_on t r ≡ Ok tt → Rule t r t' → Step t r t'

-- the published rules, one request after the other
pub data Run : List ℕ → List Request → List ℕ → Type 1 where
  done : {t : List ℕ} → Run t [] t
  more : {t u v : List ℕ} {r : Request} {rs : List Request} → Step t r u → Run u rs v → Run t (r ∷ rs) v

-- what one call leaves in the table, by its contract
abbrev pub left_by : List ℕ → Request → List ℕ
left_by t (cone_over marks) = cone_leaves t marks
left_by t (merge_of a b) = merge_leaves t a b
left_by t (weld_of a b) = weld_leaves t a b
left_by t (compaction list) = compact_leaves t list

-- what the calls leave, one after the other
unfoldable pub calls : List ℕ → List Request → List ℕ
calls t [] = t
calls t (r ∷ rs) = calls (left_by t r) rs

-- pairs of cells as requests for their merges
unfoldable pub merges_of : List Pair → List Request
merges_of [] = []
merges_of (p ∷ ps) = merge_of p.kept p.gone ∷ merges_of ps

-- t' is exactly what the published rules give from t by the requests rs: they give it, and nothing else
pub record Exactly (t : List ℕ) (rs : List Request) (t' : List ℕ) : Type 1 where
  pub given : Run t rs t'
  pub only : (u : List ℕ) → Run t rs u → u ≡ t'
