-- The live cells of one dimension, and those of each dimension, counted at its place.
-- What carries it: a live cell has its own dimension and no other. Assumes nothing.
use mathlib.Core.Path.{◌≡◌, sym, ◌∙◌}
use mathlib.Core.Bool.{true, false}
use mathlib.Core.List.{List}
use Prim.Native.Nat.{ℕ, ◌+◌, ◌≤◌, ◌<◌}
use native.Mathlib.Omega.{arith}
use borrow.Author.Tests.{eq-eqb, ne_eqb}
use lib.ListN.{get_or, set}
use Rattle.counting.proofs.Cases.{and_both}
use Rattle.counting.proofs.Tallies.{Tally, tally_skipped, tally_counted}
use Rattle.homology.specs.Cells.{Cells}
use Rattle.homology.proofs.Marks.{&&-off}
use Rattle.homology.proofs.ChainKinds.{is_cell}

module _ (K : Cells) where
  pub cell_says : (p c : ℕ) → K.live c ≡ true → K.dim c ≡ p → is_cell K p c ≡ true
  cell_says p c h e = and_both _ _ h (eq-eqb (K.dim c) p e)

  pub other_dimension : (p c : ℕ) → (K.dim c ≡ p → ⊥) → is_cell K p c ≡ false
  other_dimension p c ne = rw (ne_eqb (K.dim c) p ne) (&&-off (K.live c))

  -- a live cell is counted at its dimension, a number of no dimension nowhere
  module _ (c p m : ℕ) (xs : List ℕ) (e : p ≡ K.dim c) (k : Tally m (is_cell K) c xs) where
    pub cell_counted : p < m → K.live c ≡ true → Tally m (is_cell K) (c + 1) (set xs p (get_or xs p 0 + 1))
    cell_counted l h = tally_counted k p l (cell_says p c h (sym e)) (λ q ne. other_dimension q c (λ i. ne (sym (e ∙ i))))

    pub free_skipped : m ≤ p → Tally m (is_cell K) (c + 1) xs
    free_skipped l = tally_skipped k (λ q h. other_dimension q c (λ i. omega arith))
