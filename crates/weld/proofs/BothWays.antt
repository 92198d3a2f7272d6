-- Both orders of asking have one answer and leave one table.
-- What carries it: every ground is the same for both orders, and so is the relation. Assumes nothing.
use mathlib.Core.Path.{◌≡◌, refl, ap, ap₂, sym, ◌∙◌}
use mathlib.Core.Bool.{and_comm}
use mathlib.Core.List.{List}
use Prim.Native.Nat.{ℕ}
use native.Mathlib.Nat.{min_comm}
use Rattle.table.specs.Table.{dim, live, Live}
use Rattle.calls.specs.Calls.{named, leaves}
use Rattle.calls.specs.Calls.{Verdict}
use Rattle.std.specs.declared.result.Result.TheVariants.{Ok, Err}
use Prim.{tt}
use Rattle.merge.proofs.Answers.{eqb_both_ways}
use Rattle.weld.specs.Weld.{IsWeld}
use Rattle.weld.specs.Call.{weld_verdict, welded, weld_answer, weld_leaves}
use Rattle.weld.proofs.Answers.{weld_accepted, weld_exists, welded_is_renamed}

module _ (t : List ℕ) (a b : ℕ) where
  weld_turned : (κ : ℕ → ℕ) → Live t a → Live t b → IsWeld t a b κ → IsWeld t b a κ
  weld_turned κ v w x =
      record {
        congruence = x.congruence;
        joins = sym x.joins;
        smallest = λ R g r. x.smallest R g (g.turned b a w v r);
        lives = x.lives;
        once = x.once;
        down = x.down;
        others = x.others;
      }

  verdict_both_ways : weld_verdict t a b ≡ weld_verdict t b a
  unfolding weld_verdict
  verdict_both_ways = rw (and_comm (live t a) (live t b), eqb_both_ways a b, eqb_both_ways (dim t a) (dim t b))

  pub weld_answer_same_both_ways : weld_answer t a b ≡ weld_answer t b a
  weld_answer_same_both_ways = ap₂ named verdict_both_ways (min_comm a b)

  welded_both_ways : weld_verdict t a b ≡ Ok tt → welded t a b ≡ welded t b a
  welded_both_ways e =
      let m = weld_accepted t a b e in
      let w = weld_exists t a b e in
      welded_is_renamed t a b e w.0 w.1
      ∙ sym (welded_is_renamed t b a (sym verdict_both_ways ∙ e) w.0 (weld_turned w.0 m.first m.second w.1))

  pub weld_leaves_same_both_ways : weld_leaves t a b ≡ weld_leaves t b a
  weld_leaves_same_both_ways =
      go (weld_verdict t a b) refl ∙ ap (λ v. leaves v (welded t b a) t) verdict_both_ways
    where
      go : (v : Verdict) → weld_verdict t a b ≡ v → leaves (weld_verdict t a b) (welded t a b) t ≡ leaves (weld_verdict t a b) (welded t b a) t
      go (Ok tt) e = ap (λ u. leaves (weld_verdict t a b) u t) (welded_both_ways e)
      go (Err r) e = ap (λ v. leaves v (welded t a b) t) e ∙ sym (ap (λ v. leaves v (welded t b a) t) e)
