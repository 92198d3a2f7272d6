-- `audit::record_sound` meets its contract. Assumes nothing.
use Rattle.std.proofs.Common.{rules, ◌≡◌, ◌≢◌}
use borrow.Author.Tests.{tests}
use mathlib.Core.Path.{sym}
use mathlib.Core.Logic.{inl, inr}
use native.Mathlib.Omega.{arith}
use Rattle.std.proofs.lemmas.Iterator.{cases_from_all, YieldsList-from_slice}
use Rattle.table.specs.Kind.{free_mark}
use Rattle.audit.proofs.Records.{no_kind, searched}
use Rattle.audit.proofs.record_sound.Goals as goal
use Rattle.audit.proofs.record_sound.Goals.{then-p-gt-TOP+else-p, else-p-gt-TOP}

pub returns-then-p : goal.returns-then-p
returns-then-p c = sym (no_kind _ _ _ c.dim-p.ensures (omega arith) c.if-p.true)

pub returns : goal.returns
returns c =
    searched _ _ _ _ _ c.dim-p.ensures c.faces.ensures c.used.ensures.0 c.used.ensures.1 _
    (elim c.if-p-gt-TOP.branch [ then-p-gt-TOP+else-p w ↦ inr w.if-p.false | else-p-gt-TOP w ↦ inl w.if-p-gt-TOP.false ])
    (cases_from_all _ _ _ (λ x. x ≡ free_mark) (λ x. x ≢ free_mark) c.all.ensures.ran (YieldsList-from_slice _ c.iter.ensures.rest) (λ x q k. search (rules, tests)) (λ x q k. search (rules, tests)))
