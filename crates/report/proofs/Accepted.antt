-- The checker accepts what the reducer leaves, and the numbers that it then answers are small and are hole numbers.
-- What carries it: the reducer's rows meet rules A and B, which is all that the checker asks. Assumes nothing.
use mathlib.Core.Path.{◌≡◌, refl, sym, ap, subst, ◌∙◌}
use mathlib.Core.Bool.{◌&&◌}
use mathlib.Core.List.{List}
use Prim.Native.Nat.{ℕ, ◌+◌, ◌≤◌, ◌<◌}
use native.Mathlib.Omega.{arith}
use lib.Dec.{eqb}
use lib.ListN.{length, get_or}
use Rattle.counting.proofs.Counting.{how_many_most}
use Rattle.homology.specs.Cells.{Cells}
use Rattle.homology.specs.Holes.{IsHoleNumber}
use Rattle.homology.specs.Evidence.{Rows, cells_in, holes_in}
use Rattle.std.specs.Prelude.{IsOk, Result}
use Rattle.table.specs.Kind.{capacity, top, dimensions}
use Rattle.table.specs.Table.{Valid}
use Rattle.calls.specs.Calls.{Verdict, on_verdict}
use Rattle.calls.specs.declared.Refusal.{Refusal}
use Rattle.std.specs.declared.result.Result.TheVariants.{Ok, Err}
use Prim.{tt}
use Rattle.counting.proofs.Listed.{get_or_listed}
use Rattle.complex.specs.Cells.{cells}
use Rattle.complex.proofs.Boundary.{valid_is_lawful}
use Rattle.rows.specs.Rows.{evidence_words, rows}
use Rattle.sketch.proofs.Pieces.{pieces_cong}
use Rattle.reducer.specs.Reduce.{reduce_verdict, Reduces}
use Rattle.reducer.proofs.Meeting.{by_rule_meets}
use Rattle.reducer.proofs.Verdicts.{reducer_accepts}
use Rattle.checker.specs.Check.{check_verdict, counted, Checks}
use Rattle.checker.specs.declared.Counts.{Counts}
use Rattle.checker.proofs.Answers.{counts_are_counted}
use Rattle.checker.proofs.Accepting.{checker_accepts_iff_rules}
use Rattle.checker.proofs.HoleNumbers.{checked_holes_are_hole_numbers}
use Rattle.report.specs.Lines.{line, lines_of}
use Rattle.report.specs.Report.{HoleLines}

-- THEOREM: for every valid table and evidence of its length the reducer accepts, and the checker accepts its rows.
pub reducer_is_accepted : (t ev a₀ ev' a : List ℕ) (r : Verdict) → Valid t → length ev ≡ evidence_words (cells t) → Reduces t ev a₀ r ev' a → (reduce_verdict t ev ≡ Ok tt) × (check_verdict t ev' ≡ Ok tt)
reducer_is_accepted t ev a₀ ev' a r v long h =
    let granted = reducer_accepts t ev v long in
    let w = h.accepted granted in
    (granted, (checker_accepts_iff_rules t ev' v w.by_rule.size).1 (by_rule_meets (cells t) ev' w.adds (valid_is_lawful t v) w.by_rule))

-- ---- the numbers are small

cells_in_small : (K : Cells) (p : ℕ) → cells_in K p ≤ K.size
unfolding cells_in
cells_in_small K p = how_many_most (λ c. K.live c && eqb (K.dim c) p) K.size

holes_in_small : (K : Cells) (rs : Rows) (p : ℕ) → holes_in K rs p ≤ cells_in K p
unfolding holes_in
holes_in_small K rs p = omega arith

-- ---- what is answered of a valid table

lines_cong : (n n' h : ℕ → ℕ) → ((p : ℕ) → p < dimensions → n p ≡ n' p) → lines_of n h ≡ lines_of n' h
unfolding lines_of
lines_cong n n' h e =
    pieces_cong (λ p. line p (n p) (h p)) (λ p. line p (n' p) (h p)) dimensions
    (λ p l. ap (λ (k : ℕ). line p k (h p)) (e p l))

pub reducer_runs : (t ev a₀ ev' a : List ℕ) (r : Verdict) → Valid t → length ev ≡ evidence_words (cells t) → Reduces t ev a₀ r ev' a → IsOk r
reducer_runs t ev a₀ ev' a r v long h = subst IsOk (sym (h.answer ∙ reducer_accepts t ev v long)) refl

pub checker_runs : (t ev a₀ ev' a : List ℕ) (d : Verdict) (r : Result Counts Refusal) → Valid t → length ev ≡ evidence_words (cells t) → Reduces t ev a₀ d ev' a → Checks t ev' r → IsOk r
checker_runs t ev a₀ ev' a d r v long h k =
    subst IsOk (sym (k ∙ ap (λ w. on_verdict w (Ok (counted (cells t) ev')) Err) (reducer_is_accepted t ev a₀ ev' a d v long h).1)) refl

module _ (t ev a₀ ev' a : List ℕ) (d : Verdict) (r : Counts) (v : Valid t) (long : length ev ≡ evidence_words (cells t)) (h : Reduces t ev a₀ d ev' a) (k : Checks t ev' (Ok r)) where
  answered : (check_verdict t ev' ≡ Ok tt) × (r ≡ counted (cells t) ev')
  answered = counts_are_counted (check_verdict t ev') k

  cells_at : (p : ℕ) → p ≤ top → get_or r.cells p 0 ≡ cells_in (cells t) p
  cells_at p l = ap (λ (q : Counts). get_or q.cells p 0) answered.1 ∙ get_or_listed (top + 1) (cells_in (cells t)) p (omega arith)

  holes_at : (p : ℕ) → p ≤ top → get_or r.holes p 0 ≡ holes_in (cells t) (rows (cells t) ev') p
  holes_at p l = ap (λ (q : Counts). get_or q.holes p 0) answered.1 ∙ get_or_listed (top + 1) (holes_in (cells t) (rows (cells t) ev')) p (omega arith)

  pub cells_fit : (p : ℕ) → p ≤ top → get_or r.cells p 0 ≤ capacity
  cells_fit p l = omega (arith, cells_at p l, cells_in_small (cells t) p, v.sized.room)

  pub holes_fit : (p : ℕ) → p ≤ top → get_or r.holes p 0 ≤ capacity
  holes_fit p l =
      omega (arith, holes_at p l, holes_in_small (cells t) (rows (cells t) ev') p, cells_in_small (cells t) p, v.sized.room)

  hole_number : (p : ℕ) → p < dimensions → IsHoleNumber (cells t) p (get_or r.holes p 0)
  hole_number p l =
      subst (IsHoleNumber (cells t) p) (sym (holes_at p (omega arith)))
      (checked_holes_are_hole_numbers t ev' v answered.0 p)

  pub answers_are_hole_lines : (text : List ℕ) → text ≡ lines_of (λ p. get_or r.cells p 0) (λ p. get_or r.holes p 0) → HoleLines t text
  answers_are_hole_lines text e = record {
    holes = λ p. get_or r.holes p 0;
    meaning = hole_number;
    lines = e ∙ lines_cong (λ p. get_or r.cells p 0) (cells_in (cells t)) (λ p. get_or r.holes p 0) (λ p l. cells_at p (omega arith));
  }
