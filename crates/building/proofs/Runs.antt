-- Demand 2 over any run of calls: from a valid table, and so from an empty one, what the calls leave is exactly what the published
-- rules give, and it is valid. What carries it: one step, where the verdict decides between the rule and the table as it was; then
-- induction on the run. Assumes nothing.
use mathlib.Core.Path.{◌≡◌, refl, sym, ap, subst, ◌∙◌}
use mathlib.Core.List.{List, [], ◌∷◌}
use Prim.Native.Nat.{ℕ}
use Rattle.table.specs.Table.{Valid}
use Rattle.calls.specs.Calls.{leaves}
use Rattle.calls.specs.Calls.{Verdict}
use Rattle.std.specs.declared.result.Result.TheVariants.{Ok, Err}
use Prim.{tt}
use Rattle.merge.specs.Merge.{merged, merge_leaves}
use Rattle.merge.proofs.Identification.{identification_determines}
use Rattle.merge.proofs.Answers.{merge_leaves_valid, merge_accepted_leaves}
use Rattle.merge.specs.Rename.{renamed}
use Rattle.weld.specs.Weld.{IsWeld}
use Rattle.weld.specs.Call.{weld_verdict, welded, weld_leaves}
use Rattle.weld.proofs.Answers.{weld_exists, welded_is_renamed, weld_leaves_valid}
use Rattle.cone.specs.Cone.{apex_of, cone_of, coned}
use Rattle.compaction.specs.Made.{new_number, compacted}
use Rattle.compaction.specs.Call.{compact_leaves}
use Rattle.compaction.proofs.Determines.{one_compaction}
use Rattle.compaction.proofs.Answers.{accepted_leaves, compact_leaves_valid}
use Rattle.building.specs.ConeRule.{IsCone}
use Rattle.building.proofs.ConedIsCone.{accepted_is_cone}
use Rattle.building.proofs.ConeDetermines.{rule_gives_coned}
use Rattle.building.proofs.ConeValid.{cone_leaves_valid}
use Rattle.building.specs.Runs.{Request, Rule, verdict_on, Step, Run, left_by, calls, Exactly}
use Rattle.building.specs.Runs.Request.{cone_over, merge_of, weld_of, compaction}
use Rattle.building.specs.Runs.Rule.{by_cone, by_identification, by_weld, by_compaction}
use Rattle.building.specs.Runs.Step.{refused, made}
use Rattle.building.specs.Runs.Run.{done, more}

-- ---- what each call brings along

-- what a granted request makes of the table
abbrev made_by : List ℕ → Request → List ℕ
made_by t (cone_over marks) = coned t marks
made_by t (merge_of a b) = merged t a b
made_by t (weld_of a b) = welded t a b
made_by t (compaction list) = compacted t

left_is : (t : List ℕ) (r : Request) → left_by t r ≡ leaves (verdict_on t r) (made_by t r) t
left_is t (cone_over marks) = refl
left_is t (merge_of a b) = refl
left_is t (weld_of a b) = refl
left_is t (compaction list) = refl

-- an accepted weld leaves the table renamed by every map that is the weld's
weld_leaves_lem : (t : List ℕ) (a b : ℕ) → weld_verdict t a b ≡ Ok tt → (κ : ℕ → ℕ) → IsWeld t a b κ → weld_leaves t a b ≡ renamed κ t
weld_leaves_lem t a b e κ x = ap (λ (v : Verdict). leaves v (welded t a b) t) e ∙ welded_is_renamed t a b e κ x

-- it is what the rule gives,
made_by_rule : (t : List ℕ) (r : Request) → verdict_on t r ≡ Ok tt → Rule t r (left_by t r)
made_by_rule t (cone_over marks) e =
    by_cone (apex_of t) (cone_of t marks)
    (subst (λ (u : List ℕ). IsCone t marks (apex_of t) (cone_of t marks) u) (sym (ap (λ (v : Verdict). leaves v (coned t marks) t) e)) (accepted_is_cone t marks e))
made_by_rule t (merge_of a b) e = by_identification (merge_accepted_leaves t a b e)
made_by_rule t (weld_of a b) e =
    let w = weld_exists t a b e in
    by_weld w.0 w.1 (weld_leaves_lem t a b e w.0 w.1)
made_by_rule t (compaction list) e = by_compaction (new_number t) (accepted_leaves t list e)

-- the rule gives nothing else,
rule_is_made : {t u : List ℕ} {r : Request} → Valid t → verdict_on t r ≡ Ok tt → Rule t r u → u ≡ left_by t r
rule_is_made {t} {u} v e (by_cone {marks = marks} apex κ x) =
    (rule_gives_coned t marks e apex κ u x).1 ∙ sym (ap (λ (w : Verdict). leaves w (coned t marks) t) e)
rule_is_made {t} {u} v e (by_identification {a = a} {b = b} x) =
    identification_determines t a b u (merge_leaves t a b) v.sized x (merge_accepted_leaves t a b e)
rule_is_made {t} {u} v e (by_weld {a = a} {b = b} κ x i) = i ∙ sym (weld_leaves_lem t a b e κ x)
rule_is_made {t} {u} v e (by_compaction {list = list} ν x) =
    one_compaction t ν (new_number t) u (compact_leaves t list) x (accepted_leaves t list e) v.sized

-- and the table stays valid.
pub call_keeps_valid : (t : List ℕ) (r : Request) → Valid t → Valid (left_by t r)
call_keeps_valid t (cone_over marks) v = cone_leaves_valid t marks v
call_keeps_valid t (merge_of a b) v = merge_leaves_valid t a b v
call_keeps_valid t (weld_of a b) v = weld_leaves_valid t a b v
call_keeps_valid t (compaction list) v = compact_leaves_valid t list v

-- ---- one step, whatever the call

refused_leaves : (t : List ℕ) (r : Request) (v : Verdict) → verdict_on t r ≡ v → left_by t r ≡ leaves v (made_by t r) t
refused_leaves t r v e = left_is t r ∙ ap (λ (w : Verdict). leaves w (made_by t r) t) e

-- what one call leaves is a step of the rules
pub call_is_step : (t : List ℕ) (r : Request) → Step t r (left_by t r)
call_is_step t r = go (verdict_on t r) refl
  where
    go : (v : Verdict) → verdict_on t r ≡ v → Step t r (left_by t r)
    go (Ok tt) e = made e (made_by_rule t r e)
    go (Err x) e = subst (λ (u : List ℕ). Step t r u) (sym (refused_leaves t r (Err x) e)) (refused x e)

-- and the rules permit no other
pub step_is_call : {t u : List ℕ} {r : Request} → Valid t → Step t r u → u ≡ left_by t r
step_is_call {t} v (refused {r = r} x e) = sym (refused_leaves t r (Err x) e)
step_is_call v (made e x) = rule_is_made v e x

-- ---- any run

-- what the calls leave is what the published rules give,
calls_follow_rules : (t : List ℕ) (rs : List Request) → Run t rs (calls t rs)
unfolding calls
calls_follow_rules t [] = done
calls_follow_rules t (r ∷ rs) = more (call_is_step t r) (calls_follow_rules (left_by t r) rs)

-- and they give nothing else
rules_give_calls : {t u : List ℕ} {rs : List Request} → Valid t → Run t rs u → u ≡ calls t rs
unfolding calls
rules_give_calls v done = refl
rules_give_calls {t} v (more {r = r} {rs = rs} s run) =
    let e = step_is_call v s in
    rules_give_calls (subst Valid (sym e) (call_keeps_valid t r v)) run ∙ ap (λ (x : List ℕ). calls x rs) e

-- THEOREM: from a valid table, what any run of calls leaves, refused ones included, is exactly what the published rules give,
pub runs_are_exact : (t : List ℕ) (rs : List Request) → Valid t → Exactly t rs (calls t rs)
runs_are_exact t rs v = record { given = calls_follow_rules t rs; only = λ u run. rules_give_calls v run }

-- and it is valid.
pub run_keeps_valid : (t : List ℕ) (rs : List Request) → Valid t → Valid (calls t rs)
unfolding calls
run_keeps_valid t [] v = v
run_keeps_valid t (r ∷ rs) v = run_keeps_valid (left_by t r) rs (call_keeps_valid t r v)
