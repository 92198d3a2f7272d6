-- The live cells of one dimension, and those of each dimension, counted at its place.
-- What carries it: a live cell has its own dimension and no other. Assumes nothing.
use mathlib.Core.Path.{◌≡◌, sym, ◌∙◌}
use mathlib.Core.Bool.{true, false, and-false}
use mathlib.Core.List.{List}
use Prim.Native.Nat.{ℕ, ◌+◌, ◌≤◌, ◌<◌}
use native.Mathlib.Omega.{arith}
use borrow.Author.Tests.{eq-eqb, ne_eqb, eqb-true}
use lib.Dec.{eqb}
use lib.ListN.{get_or, set}
use Rattle.counting.specs.Counting.{total}
use Rattle.counting.proofs.Cases.{and_left, and_right}
use Rattle.counting.proofs.Totals.{counts_together}
use Rattle.counting.proofs.Tallies.{Tally, tally_skipped, tally_counted}
use Rattle.table.specs.Table.{cells_of, dim, live, Live, is_cell, count_of}
use Rattle.table.proofs.Records.{live_says, live_true}

-- a live p-cell is a live cell of dimension p
module _ (t : List ℕ) (p c : ℕ) where
  pub cell_live : is_cell t p c ≡ true → Live t c
  unfolding is_cell
  cell_live e = live_true t c (and_left (live t c) (eqb (dim t c) p) e)

  pub cell_dim : is_cell t p c ≡ true → dim t c ≡ p
  unfolding is_cell
  cell_dim e = eqb-true (dim t c) p (and_right (live t c) (eqb (dim t c) p) e)

  pub cell_says : Live t c → dim t c ≡ p → is_cell t p c ≡ true
  unfolding is_cell
  cell_says h e = rw (live_says t c h, eq-eqb (dim t c) p e)

-- a cell is counted in one dimension at most, so the counts together are at most N
pub counts_fit : (t : List ℕ) (p : ℕ) → total (count_of t) p ≤ cells_of t
unfolding count_of
counts_fit t p = counts_together (is_cell t) (dim t) (cell_dim t) (cells_of t) p

module _ (t : List ℕ) (c : ℕ) where
  pub other_dimension : (p : ℕ) → (dim t c ≡ p → ⊥) → is_cell t p c ≡ false
  unfolding is_cell
  other_dimension p ne = rw (ne_eqb (dim t c) p ne) (and-false (live t c))

  module _ {m p : ℕ} {xs : List ℕ} (e : p ≡ dim t c) (k : Tally m (is_cell t) c xs) where
    -- a live cell is counted at its dimension, a record of no dimension nowhere
    pub cell_counted : p < m → Live t c → Tally m (is_cell t) (c + 1) (set xs p (get_or xs p 0 + 1))
    cell_counted l h =
        tally_counted k p l (cell_says t p c h (sym e)) (λ q ne. other_dimension q (λ i. ne (sym (e ∙ i))))

    pub free_skipped : m ≤ p → Tally m (is_cell t) (c + 1) xs
    free_skipped l = tally_skipped k (λ q h. other_dimension q (λ i. omega (arith, e)))
