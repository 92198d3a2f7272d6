-- An accepted weld leaves what the run of its single merges leaves, by dimension from 0 up, rising cell.
-- What carries it: each of them is accepted in turn, so each call leaves what its merge makes. Assumes nothing.
use mathlib.Core.Path.{◌≡◌, refl, sym, ap, ◌∙◌}
use mathlib.Core.List.{List, [], ◌∷◌}
use Prim.Native.Nat.{ℕ}
use Rattle.calls.specs.Calls.{leaves}
use Rattle.calls.specs.Calls.{Verdict}
use Rattle.std.specs.declared.result.Result.TheVariants.{Ok}
use Prim.{tt}
use Rattle.merge.specs.Merge.{merged}
use Rattle.weld.specs.Weld.{IsWeld}
use Rattle.weld.specs.Merges.{Pair, Merges, weld_merges}
use Rattle.weld.specs.Merges.Merges.{done, more}
use Rattle.weld.specs.Call.{weld_verdict, welded}
use Rattle.weld.proofs.Answers.{welded_by_merges}
use Rattle.building.specs.Runs.{calls, merges_of}
use Rattle.building.specs.Runs.Request.{weld_of}

merges_run : {t u : List ℕ} {ps : List Pair} → Merges t ps u → calls t (merges_of ps) ≡ u
unfolding calls merges_of
merges_run done = refl
merges_run {t} (more {p = p} {ps = ps} e m) =
    ap (λ (v : Verdict). calls (leaves v (merged t p.kept p.gone) t) (merges_of ps)) e ∙ merges_run m

pub weld_is_its_merges :
    (t : List ℕ) (a b : ℕ) → weld_verdict t a b ≡ Ok tt → (κ : ℕ → ℕ) → IsWeld t a b κ →
    calls t (merges_of (weld_merges t κ)) ≡ calls t (weld_of a b ∷ [])
unfolding calls
weld_is_its_merges t a b e κ x =
    merges_run (welded_by_merges t a b e κ x) ∙ sym (ap (λ (v : Verdict). leaves v (welded t a b) t) e)
