-- What is said of a file: of one that is no sketch, of one that the reader refuses, and of one that it accepts.
-- What carries it: that an accepted file describes a valid table. Assumes nothing.
use mathlib.Core.Path.{◌≡◌, sym, ap, subst, ◌∙◌}
use mathlib.Core.Bool.{true, false}
use mathlib.Core.List.{List}
use Rattle.std.proofs.lemmas.List.{take-replicate}
use Rattle.std.proofs.lemmas.Bool.{false_from_ne_true}
use Prim.Native.Nat.{ℕ, ◌*◌, ◌/◌, ◌≤◌}
use native.Mathlib.Omega.{arith}
use lib.ListN.{take, replicate, length-replicate}
use Rattle.table.specs.Kind.{width, free_mark}
use Rattle.table.specs.Table.{cells_of, Valid}
use Rattle.calls.specs.Numbers.{number_of}
use Rattle.calls.specs.declared.Refusal.{Refusal}
use Rattle.calls.specs.declared.Refusal.TheVariants.{BadContents}
use Rattle.calls.specs.Calls.{Verdict}
use Rattle.std.specs.declared.result.Result.TheVariants.{Ok, Err}
use Prim.{tt}
use Rattle.sketch.specs.Read.{read_verdict, read_leaves, described, size_in}
use Rattle.sketch.proofs.Accepted.{accepted_says}
use Rattle.report.specs.Lines.{refused_line}
use Rattle.report.specs.Report.{no_sketch, blank, file_verdict, HoleLines, Reports}
use Rattle.report.specs.Making.{Told}

-- the front of r free words is a blank table of n cells
pub blank_table : (n r : ℕ) → n * width ≤ r → (f : List ℕ) → n ≡ size_in f → take (n * width) (replicate r free_mark) ≡ blank f
blank_table n r few f e = take-replicate (n * width) r free_mark few ∙ ap (λ (k : ℕ). replicate (k * width) free_mark) e

-- ---- what is told

refused_same : (r s : Refusal) → ◌≡◌ {A = Verdict} (Err r) (Err s) → r ≡ s
refused_same r s e = cc

not_both : (r : Refusal) (v : Verdict) → v ≡ Err r → v ≡ Ok tt → ⊥
not_both r v e g = let z : ◌≡◌ {A = ℕ} 0 1 = cc in omega arith

-- an accepted file: t' is what the reader left
module _ (t f t' : List ℕ) (e : read_verdict t f ≡ Ok tt) (left : t' ≡ read_leaves t f) where
  left_described : t' ≡ described (cells_of t) f
  left_described = rw e at left

  pub left_valid : Valid t'
  left_valid = subst Valid (sym left_described) (accepted_says t f e).table

-- ---- what is reported

verdict_of_none : (f : List ℕ) → no_sketch f ≡ true → file_verdict f ≡ Err BadContents
unfolding file_verdict
verdict_of_none f e = rw e

verdict_of_sketch : (f : List ℕ) → no_sketch f ≡ false → file_verdict f ≡ read_verdict (blank f) f
unfolding file_verdict
verdict_of_sketch f e = rw e

pub reports_none : (f text : List ℕ) → no_sketch f ≡ true → text ≡ refused_line (number_of BadContents) → Reports f text
reports_none f text e x = record {
  refused = λ s g. x ∙ ap (λ (q : Refusal). refused_line (number_of q)) (refused_same BadContents s (sym (verdict_of_none f e) ∙ g));
  accepted = λ g. absurd (not_both BadContents (file_verdict f) (verdict_of_none f e) g);
}

described_size : (f : List ℕ) → cells_of (blank f) ≡ size_in f
described_size f = ap (λ (k : ℕ). k / width) (length-replicate (size_in f * width) free_mark) ∙ omega arith

pub reports_told : (f t text : List ℕ) → (no_sketch f ≡ true → ⊥) → t ≡ blank f → Told t f text → Reports f text
reports_told f t text some b h =
    let e = false_from_ne_true (no_sketch f) some in
    let same : read_verdict t f ≡ file_verdict f = ap (λ (u : List ℕ). read_verdict u f) b ∙ sym (verdict_of_sketch f e) in
    record {
      refused = λ r g. h.refused r (same ∙ g);
      accepted = λ g. subst (λ (n : ℕ). HoleLines (described n f) text) (ap cells_of b ∙ described_size f) (h.accepted (same ∙ g));
    }
