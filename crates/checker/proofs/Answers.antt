-- The answer as a whole: the counted numbers on acceptance, and on a refusal the refusal alone.
-- What carries it: the verdict decides which of the two is answered. Assumes nothing.
use mathlib.Core.Path.{◌≡◌, refl, sym, ap, ap₂, ◌∙◌}
use mathlib.Core.List.{List}
use Prim.Native.Nat.{ℕ, suc, ◌+◌, ◌-◌, ◌≤◌, ◌<◌}
use native.Mathlib.Numerals.{add-one}
use native.Mathlib.Omega.{arith}
use lib.ListN.{length, get_or}
use lib.Seq.{ext_get_or}
use Rattle.homology.specs.Cells.{Cells, Lawful}
use Rattle.homology.specs.Evidence.{Meets, cells_in, bounding_in, holes_in}
use Rattle.homology.proofs.HoleTheorem.{bounding_cells_fit}
use Rattle.table.specs.Kind.{top}
use Rattle.counting.specs.Counting.{listed}
use Rattle.counting.proofs.Listed.{length_listed, get_or_listed}
use Rattle.calls.specs.declared.Refusal.{Refusal}
use Rattle.calls.specs.Calls.{Verdict, on_verdict}
use Rattle.std.specs.declared.result.Result.TheVariants.{Ok, Err}
use Prim.{tt}
use Rattle.rows.specs.Rows.{rows}
use Rattle.std.specs.Prelude.{Result}
use Rattle.checker.specs.declared.Counts.{Counts}
use Rattle.checker.specs.Check.{counted, Answered, Checks}
use Rattle.checker.specs.Row.{CountsFit, differences}

-- an answer by the verdict
module _ (K : Cells) (ev : List ℕ) (v : Verdict) where
  pub refused_answer : (r : Refusal) → Err r ≡ v → Answered K ev v (Err r)
  refused_answer r e = ap (λ w. on_verdict w (Ok (counted K ev)) Err) e

  pub accepted_answer : (Ok tt) ≡ v → (q : Counts) → q.cells ≡ listed (top + 1) (cells_in K) → q.holes ≡ listed (top + 1) (holes_in K (rows K ev)) → Answered K ev v (Ok q)
  accepted_answer e q n h = (λ i. Ok record { cells = n i; holes = h i }) ∙ ap (λ w. on_verdict w (Ok (counted K ev)) Err) e

-- the verdict by an answer: counts come with acceptance alone, and are those that were counted; a refusal comes with itself alone
pub counts_are_counted : (v : Verdict) {q r : Counts} → Ok r ≡ on_verdict v (Ok q) Err → (v ≡ Ok tt) × (r ≡ q)
counts_are_counted (Ok u) e = (refl, cc)
counts_are_counted (Err x) e = let z : ◌≡◌ {A = ℕ} 0 1 = cc in absurd (omega arith)

pub refusal_is_refused : (v : Verdict) (q : Counts) (x : Refusal) → Err x ≡ on_verdict v (Ok q) Err → v ≡ Err x
refusal_is_refused (Ok u) q x e = let z : ◌≡◌ {A = ℕ} 0 1 = cc in absurd (omega arith)
refusal_is_refused (Err y) q x e = cc

-- the counters, where the evidence meets the rules
module _ (K : Cells) (ev ns rs : List ℕ) (law : Lawful K) (m : Meets K (rows K ev)) (cells_are : ns ≡ listed (top + 1) (cells_in K))
    (long : length rs ≡ top + 2) (bounding-are : (p : ℕ) → p < top + 2 → get_or rs p 0 ≡ bounding_in K (rows K ev) p) where
  cells_at : (p : ℕ) → p ≤ top → get_or ns p 0 ≡ cells_in K p
  cells_at p h = ap (λ (xs : List ℕ). get_or xs p 0) cells_are ∙ get_or_listed (top + 1) (cells_in K) p (omega arith)

  next_at : (p : ℕ) → p ≤ top → get_or rs (p + 1) 0 ≡ bounding_in K (rows K ev) (suc p)
  next_at p h = bounding-are (p + 1) (omega arith) ∙ ap (bounding_in K (rows K ev)) (add-one p)

  -- nothing is lost in n_p − r_p − r_(p+1)
  pub counts_fit : CountsFit ns rs
  counts_fit = record {
    long = ap length cells_are ∙ length_listed (top + 1) (cells_in K);
    long_next = long;
    fit = λ p h. omega (arith, cells_at p h, next_at p h, bounding-are p (omega arith), bounding_cells_fit K law (rows K ev) m p);
  }

  pub differences_are_holes : differences ns rs ≡ listed (top + 1) (holes_in K (rows K ev))
  unfolding differences holes_in
  differences_are_holes =
      let f : ℕ → ℕ = λ p. get_or ns p 0 - get_or rs p 0 - get_or rs (p + 1) 0 in
      let g : ℕ → ℕ = holes_in K (rows K ev) in
      ext_get_or 0 (listed (top + 1) f) (listed (top + 1) g) (length_listed (top + 1) f ∙ sym (length_listed (top + 1) g))
      (λ p h. let l : p < top + 1 = omega (arith, length_listed (top + 1) f) in
      let k : p ≤ top = omega arith in
      get_or_listed (top + 1) f p l
      ∙ ap₂ (λ (a b : ℕ). a - b) (ap₂ (λ (a b : ℕ). a - b) (cells_at p k) (bounding-are p (omega arith))) (next_at p k)
      ∙ sym (get_or_listed (top + 1) g p l))

-- two permitted answers are equal
pub one_answer : (t ev : List ℕ) (r r' : Result Counts Refusal) → Checks t ev r → Checks t ev r' → r ≡ r'
one_answer t ev r r' h h' = h ∙ sym h'
