-- The walk through the rows: what holds after the rows below c, and what each finding at row c makes of it.
-- What carries it: rule B is one look into the set of largest cells met, and a row is counted at its dimension. Assumes nothing.
use mathlib.Core.Path.{◌≡◌, refl, ap, sym, subst, ◌∙◌}
use mathlib.Core.Bool.{true, false}
use mathlib.Core.List.{List}
use mathlib.Core.Logic.{⊎_elim}
use Prim.Native.Nat.{ℕ, ◌+◌, ◌≤◌, ◌<◌}
use native.Mathlib.Omega.{arith}
use lib.ListN.{length, get_or, set, replicate}
use Rattle.homology.specs.Cells.{Cells, Lawful}
use Rattle.homology.specs.Evidence.{Meets, bounding_in}
use Rattle.bitset.proofs.Marks.{length_toggled}
use Rattle.table.specs.Kind.{capacity, top}
use Rattle.calls.specs.Calls.{verdict}
use Rattle.std.specs.declared.result.Result.TheVariants.{Ok, Err}
use Prim.{tt}
use Rattle.bitset.specs.Bits.{full_width}
use Rattle.rows.specs.Rows.{evidence_words, rows}
use Rattle.checker.specs.Check.{all_rows}
use Rattle.checker.specs.Row.{Found}
use Rattle.calls.specs.declared.Refusal.{Refusal}
use Rattle.checker.proofs.Faults.{Passed, passed_none, passed_more, breaks_a, breaks_b, all_pass, fault_named}
use Rattle.checker.proofs.Meeting.{passed_meets}
use Rattle.checker.proofs.LargestMet.{Met, met_none, met_closed, met_bounds, closed_keeps_b, unmet_keeps_b, met_breaks_b, largest_fits}
use Rattle.counting.proofs.Tallies.{Tally, tally_none, tally_most}
use Rattle.checker.proofs.Tallies.{is_bounding_at, row_counted, row_skipped, rows_counted, bounding_live}

-- the rows below c pass, xs holds the largest cells met, and rs counts the rows with a boundary by dimension
pub record Walked (K : Cells) (ev : List ℕ) (c : ℕ) (xs rs : List ℕ) : Type 0 where
  pub long : length xs ≡ full_width
  pub passed : Passed K ev c
  pub largest_met : Met K ev c xs
  pub tally : Tally (top + 2) (is_bounding_at K ev) c rs

pub walked_same : {K : Cells} {ev xs rs rs' : List ℕ} {c : ℕ} → rs' ≡ rs → Walked K ev c xs rs → Walked K ev c xs rs'
walked_same {K} {ev} {xs} {rs} {rs'} {c} e w = subst (Walked K ev c xs) (sym e) w

pub walk_none : (K : Cells) (ev : List ℕ) → Walked K ev 0 (replicate full_width 0) (replicate (top + 2) 0)
walk_none K ev = record {
  long = refl;
  passed = passed_none K ev;
  largest_met = met_none K ev full_width;
  tally = tally_none (top + 2) (is_bounding_at K ev);
}

module _ (K : Cells) (ev : List ℕ) (law : Lawful K) (long : length ev ≡ evidence_words K) (c : ℕ) (inside : c < K.size) (xs ys rs : List ℕ) (w : Walked K ev c xs rs) where
  pub walk_breaks : (r : Refusal) → Found K ev c xs ys (Err r) → Err r ≡ verdict (all_rows K ev)
  walk_breaks r f = ⊎_elim
      (λ a. ap Err a.0 ∙ fault_named K ev (breaks_a c inside w.passed a.1))
      (λ b. let m = b.2 in ap Err b.0 ∙ fault_named K ev (breaks_b c inside w.passed b.1 (met_breaks_b K ev c m.0 xs m.1 w.largest_met m.2)))
      f

  pub walk_closed : Found K ev c xs ys (Ok false) → Walked K ev (c + 1) ys rs
  walk_closed f =
      subst (λ (zs : List ℕ). Walked K ev (c + 1) zs rs) (sym f.2) record {
        long = w.long;
        passed = passed_more K ev c w.passed f.0 (closed_keeps_b K ev c f.1);
        largest_met = met_closed K ev c xs f.1 w.largest_met;
        tally = row_skipped K ev c (top + 2) rs f.1 w.tally;
      }

  -- a row with a boundary is that of a live cell, so its counter is there and has room
  pub bounds_level : (K.live c ≡ true → K.dim c ≤ top) → Found K ev c xs ys (Ok true) → (p : ℕ) → p ≡ K.dim c → p ≤ top
  bounds_level low f p q =
      omega (arith, low (bounding_live K ev law long c inside f.1.0 f.0 f.1.1))

  pub counter_small : K.size ≤ capacity → (p : ℕ) → p ≤ top → get_or rs p 0 < capacity
  counter_small room p h = omega (arith, tally_most w.tally p (omega arith))

  pub walk_bounds : K.size ≤ capacity → (K.live c ≡ true → K.dim c ≤ top) → Found K ev c xs ys (Ok true) → (p : ℕ) → p ≡ K.dim c → Walked K ev (c + 1) ys (set rs p (get_or rs p 0 + 1))
  walk_bounds room low f p q =
      let m = f.1 in
      let level : p ≤ top = bounds_level low f p q in
      let fits = largest_fits K ev room c m.0 m.1 in
      subst (λ (zs : List ℕ). Walked K ev (c + 1) zs (set rs p (get_or rs p 0 + 1))) (sym m.3) record {
        long = length_toggled xs m.0 ∙ w.long;
        passed = passed_more K ev c w.passed f.0 (unmet_keeps_b K ev c m.0 xs m.1 w.largest_met m.2);
        largest_met = met_bounds K ev c m.0 xs m.1 (omega (arith, w.long)) m.2 w.largest_met;
        tally = row_counted K ev law long c inside (top + 2) m.0 p rs f.0 m.1 q (omega arith) w.tally;
      }

-- after the last row
module _ (K : Cells) (ev : List ℕ) (law : Lawful K) (long : length ev ≡ evidence_words K) (c : ℕ) (end : c ≡ K.size) (xs rs : List ℕ) (w : Walked K ev c xs rs) where
  all_passed : Passed K ev K.size
  all_passed = subst (Passed K ev) end w.passed

  pub walk_accepts : (Ok tt) ≡ verdict (all_rows K ev)
  walk_accepts = all_pass K ev K.size all_passed

  pub walk_meets : Meets K (rows K ev)
  walk_meets = passed_meets K ev law long all_passed

  pub walk_counts : (p : ℕ) → p < top + 2 → get_or rs p 0 ≡ bounding_in K (rows K ev) p
  walk_counts = rows_counted K ev (top + 2) c rs end w.tally
