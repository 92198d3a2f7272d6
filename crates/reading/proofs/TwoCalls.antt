-- Two calls, one after the other: an accepted boundary, then an accepted boundary of its result one dimension down, leave all 0.
-- What carries it: what the first leaves is the boundary as a chain, at numbers past the table too; then the boundary of a boundary
-- is 0. Assumes nothing.
use mathlib.Core.Path.{◌≡◌, sym, ap, ◌∙◌, fun_ext}
use mathlib.Core.Bool.{false}
use mathlib.Core.List.{List}
use mathlib.Core.Logic.{⊎_elim}
use Prim.Native.Nat.{ℕ, suc, ◌≤◌}
use native.Mathlib.Omega.{arith}
use lib.ListN.{length, get_or, get_or-eq_default}
use lib.IntN.{ℤ, pos}
use Rattle.table.specs.Table.{cells_of, is_cell}
use Rattle.calls.specs.Calls.{Ends}
use Rattle.std.specs.declared.result.Result.TheVariants.{Ok}
use Prim.{tt}
use Rattle.counting.proofs.Cases.{below_or_not}
use Rattle.table.proofs.Records.{outside_dead}
use Rattle.reading.specs.Sums.{integers}
use Rattle.reading.specs.Boundary.{boundary_of, boundary_verdict, boundary_leaves, coefficient}
use Rattle.reading.proofs.Lists.{integers_length, integers_at, is_integers}
use Rattle.reading.proofs.Twice.{boundary_of_boundary}
use Rattle.reading.proofs.Judging.{accepted_says, leaves_new}

outside_no_cell : (t : List ℕ) (p u : ℕ) → cells_of t ≤ u → is_cell t p u ≡ false
unfolding is_cell
outside_no_cell t p u h = rw (sym (outside_dead t u h))

outside_zero : (t : List ℕ) (p : ℕ) (x : ℕ → ℤ) (u : ℕ) → cells_of t ≤ u → boundary_of t (suc p) x u ≡ pos 0
unfolding boundary_of
outside_zero t p x u h = rw (outside_no_cell t p u h)

-- what the call leaves, read as a chain
left_chain : (t : List ℕ) (p : ℕ) (x : ℕ → ℤ) (y : List ℤ) → y ≡ integers (cells_of t) (boundary_of t (suc p) x) → (u : ℕ) → coefficient y u ≡ boundary_of t (suc p) x u
left_chain t p x y e u =
    ⊎_elim
    (λ l. ap (λ (w : List ℤ). get_or w u (pos 0)) e ∙ integers_at (cells_of t) (boundary_of t (suc p) x) u l)
    (λ h.
    let k : length y ≤ u = omega (arith, ap length e, integers_length (cells_of t) (boundary_of t (suc p) x)) in
    get_or-eq_default y (pos 0) k ∙ sym (outside_zero t p x u h))
    (below_or_not u (cells_of t))

-- Accepted with p + 1, then accepted on the result with p: all 0.
pub two_calls_give_zeros : (t : List ℕ) (p : ℕ) (x y₀ y z₀ z : List ℤ) → Ends (boundary_verdict t x (suc p) y₀) (boundary_leaves t x (suc p) y₀) (Ok tt) y → Ends (boundary_verdict t y p z₀) (boundary_leaves t y p z₀) (Ok tt) z → z ≡ integers (cells_of t) (λ u. pos 0)
two_calls_give_zeros t p x y₀ y z₀ z first second =
    let v = (accepted_says t x (suc p) y₀ (sym first.answer)).valid in
    let chain = left_chain t p (coefficient x) y (first.left ∙ leaves_new t x (suc p) y₀ (sym first.answer)) in
    let e : z ≡ integers (cells_of t) (boundary_of t p (coefficient y)) = second.left ∙ leaves_new t y p z₀ (sym second.answer) in
    is_integers (cells_of t) (λ u. pos 0) z (ap length e ∙ integers_length (cells_of t) (boundary_of t p (coefficient y)))
    (λ u l.
    ap (λ (w : List ℤ). get_or w u (pos 0)) e
    ∙ integers_at (cells_of t) (boundary_of t p (coefficient y)) u l
    ∙ ap (λ (c : ℕ → ℤ). boundary_of t p c u) (fun_ext chain)
    ∙ boundary_of_boundary t v p (coefficient x) u)
