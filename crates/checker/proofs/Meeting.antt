-- The verdict of the rows beside rules A and B as printed: the rows are accepted exactly where they meet the rules, and otherwise
-- the first row at fault is named.
-- What carries it: the tests of a row are the rules. Assumes nothing.
use mathlib.Core.Path.{◌≡◌, sym}
use mathlib.Core.Bool.{Bool, true, false}
use mathlib.Core.List.{List}
use mathlib.Core.Logic.{◌↔◌}
use Prim.Native.Nat.{ℕ, ◌≤◌, ◌<◌}
use native.Mathlib.Omega.{arith}
use lib.ListN.{length}
use Rattle.counting.proofs.Cases.{not_true_false}
use Rattle.homology.specs.Cells.{Cells, Lawful}
use Rattle.homology.specs.Evidence.{RuleA, RuleB, Meets}
use Rattle.homology.proofs.Marks.{clash}
use Rattle.calls.specs.Calls.{verdict}
use Rattle.calls.specs.declared.Refusal.TheVariants as refusals
use Rattle.std.specs.declared.result.Result.TheVariants.{Ok}
use Prim.{tt}
use Rattle.rows.specs.Rows.{evidence_words, rows}
use Rattle.checker.specs.Fault.{FirstBreaksA, FirstBreaksB}
use Rattle.checker.specs.Check.{all_rows}
use Rattle.checker.proofs.Rules.{keeps_a_is_rule_a, keeps_b_is_rule_b}
use Rattle.checker.proofs.Faults.{Passed, Fault, breaks_a, breaks_b, all_pass, accepted_pass}

-- a test that is a rule fails exactly where the rule is broken
fails_iff : {b : Bool} {P : Type 0} → (b ≡ true) ↔ P → (b ≡ false) ↔ (P → ⊥)
fails_iff {b} i = (λ e r. clash (i.1 r) e, λ n. not_true_false b (λ e. n (i.0 e)))

module _ (K : Cells) (ev : List ℕ) (law : Lawful K) (long : length ev ≡ evidence_words K) where
  -- every row below c keeps both rules
  abbrev Lower : ℕ → Type 0
  Lower c = ((b : ℕ) → b < c → RuleA K (rows K ev) b) × ((b : ℕ) → b < c → RuleB K (rows K ev) b)

  passed_iff_lower : (c : ℕ) → c ≤ K.size → Passed K ev c ↔ Lower c
  passed_iff_lower c h = (
    λ p. (λ b l. (keeps_a_is_rule_a K ev long b (omega arith)).0 (p.keeps_a_lem b l), λ b l. (keeps_b_is_rule_b K ev law b).0 (p.keeps_b_lem b l)),
    λ m. record {
      keeps_a_lem = λ b l. (keeps_a_is_rule_a K ev long b (omega arith)).1 (m.0 b l);
      keeps_b_lem = λ b l. (keeps_b_is_rule_b K ev law b).1 (m.1 b l);
    },
  )

  pub passed_meets : Passed K ev K.size → Meets K (rows K ev)
  passed_meets p = let m = (passed_iff_lower K.size (omega arith)).0 p in record { rule_a = m.0; rule_b = m.1 }

  pub rows_accepted_iff_rules : (verdict (all_rows K ev) ≡ Ok tt) ↔ Meets K (rows K ev)
  rows_accepted_iff_rules = (
    λ e. passed_meets (accepted_pass K ev K.size e),
    λ m. sym (all_pass K ev K.size ((passed_iff_lower K.size (omega arith)).1 (m.rule_a, m.rule_b))),
  )

  -- the first row at fault by the tests is the first by the rules
  module _ (c : ℕ) where
    by_rule_a : Fault K ev K.size (refusals.RuleA c) → FirstBreaksA K ev c
    by_rule_a (breaks_a c h p a) =
        let m = (passed_iff_lower c (omega arith)).0 p in
        record { inside = h; lower_a = m.0; lower_b = m.1; broken = (fails_iff (keeps_a_is_rule_a K ev long c h)).0 a }

    by_rule_b : Fault K ev K.size (refusals.RuleB c) → FirstBreaksB K ev c
    by_rule_b (breaks_b c h p a b) =
        let m = (passed_iff_lower c (omega arith)).0 p in
        record { inside = h; lower_a = m.0; lower_b = m.1; kept = (keeps_a_is_rule_a K ev long c h).0 a; broken = (fails_iff (keeps_b_is_rule_b K ev law c)).0 b }

    pub fault_a : Fault K ev K.size (refusals.RuleA c) ↔ FirstBreaksA K ev c
    fault_a = (by_rule_a, λ f. breaks_a c f.inside ((passed_iff_lower c (omega arith)).1 (f.lower_a, f.lower_b)) ((fails_iff (keeps_a_is_rule_a K ev long c f.inside)).1 f.broken))

    pub fault_b : Fault K ev K.size (refusals.RuleB c) ↔ FirstBreaksB K ev c
    fault_b = (
      by_rule_b,
      λ f. breaks_b c f.inside ((passed_iff_lower c (omega arith)).1 (f.lower_a, f.lower_b)) ((keeps_a_is_rule_a K ev long c f.inside).1 f.kept) ((fails_iff (keeps_b_is_rule_b K ev law c)).1 f.broken),
    )
