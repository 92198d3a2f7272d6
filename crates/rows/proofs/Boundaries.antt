-- The boundary mod 2 of sets of cells: it depends on the members alone, is linear, and that of one cell is its faces.
-- What carries it: homology's linearity, and one term of a parity by itself. Assumes nothing.
use mathlib.Core.Path.{◌≡◌, ap, ◌∙◌, fun_ext}
use mathlib.Core.Bool.{Bool, false}
use mathlib.Core.List.{List}
use Prim.Native.Nat.{ℕ, ◌<◌}
use lib.Dec.{eqb}
use lib.ListN.{length}
use Rattle.homology.specs.Cells.{Cells, ◌⊻◌}
use Rattle.homology.specs.Holes.{Chain, none, sum, boundary}
use Rattle.homology.proofs.Chains.{boundary_sum, boundary_none}
use Rattle.bitset.specs.Bits.{member, sum_of}
use Rattle.complex.proofs.Pairs.{odd_at}
use Rattle.rows.proofs.Members.{sum_is_sum}

module _ (K : Cells) where
  pub boundary_cong : (x y : Chain) → ((c : ℕ) → x c ≡ y c) → (s : ℕ) → boundary K x s ≡ boundary K y s
  boundary_cong x y h s = ap (λ (z : Chain). boundary K z s) (fun_ext h)

  -- words that stand for two sets added
  pub boundary_of_sum : (x y : List ℕ) → length x ≡ length y → (s : ℕ) → boundary K (member (sum_of x y)) s ≡ boundary K (member x) s ⊻ boundary K (member y) s
  boundary_of_sum x y e s = ap (λ (z : Chain). boundary K z s) (sum_is_sum x y e) ∙ boundary_sum K (member x) (member y) s

  pub boundary_of_empty : (x : Chain) → ((c : ℕ) → x c ≡ false) → (s : ℕ) → boundary K x s ≡ false
  boundary_of_empty x h s = boundary_cong x none h s ∙ boundary_none K s

  -- the set with one cell
  boundary_of_one : (c : ℕ) → c < K.size → (s : ℕ) → boundary K (eqb c) s ≡ K.inc c s
  unfolding boundary
  boundary_of_one c h s = odd_at K.size c (λ u. K.inc u s) h

  -- one cell more
  pub boundary_with_one : (x y : Chain) (c : ℕ) → c < K.size → ((s : ℕ) → x s ≡ y s ⊻ eqb c s) → (s : ℕ) → boundary K x s ≡ boundary K y s ⊻ K.inc c s
  boundary_with_one x y c h e s = boundary_cong x (sum y (eqb c)) e s
      ∙ boundary_sum K y (eqb c) s
      ∙ ap (λ (b : Bool). boundary K y s ⊻ b) (boundary_of_one c h s)
