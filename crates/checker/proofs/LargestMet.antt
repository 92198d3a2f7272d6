-- The largest cells met so far as a set: rule B at a row is one look into it.
-- What carries it: a number is in the set where a row passed has it as the largest cell of its boundary. Assumes nothing.
use mathlib.Core.Path.{◌≡◌, refl, sym, ap, ap₂, subst, ◌∙◌}
use mathlib.Core.Bool.{Bool, true, false, not, ◌||◌}
use mathlib.Core.List.{List}
use mathlib.Core.Logic.{by_cases}
use Prim.Native.Nat.{ℕ, suc, ◌+◌, ◌/◌, ◌≤◌, ◌<◌}
use native.Mathlib.Nat.{suc_inj}
use native.Mathlib.Decide.{ℕ_discrete}
use native.Mathlib.Numerals.{add-one}
use native.Mathlib.Omega.{arith}
use borrow.Author.Tests.{eq-eqb, ne_eqb}
use lib.Dec.{eqb}
use lib.ListN.{length, replicate}
use Rattle.homology.specs.Cells.{Cells, Lawful, ◌⊻◌}
use Rattle.homology.proofs.Marks.{⊻-off}
use Rattle.counting.specs.Counting.{some_has}
use Rattle.bitset.specs.Bits.{bits, member, toggled, LargestIs, full_width}
use Rattle.std.specs.Prelude.{Option, None, Some}
use Rattle.table.specs.Kind.{capacity}
use Rattle.rows.specs.Rows.{SetIs}
use Rattle.rows.proofs.Sets.{set_largest, set_largest_empty}
use Rattle.rows.proofs.Members.{member_toggled, member_zeros}
use Rattle.checker.specs.Check.{keeps_b, row_boundary, row_largest}
use Rattle.checker.specs.Row.{largest_number}
use Rattle.homology.proofs.LargestBelow.{largest_bounded, empty_largest}
use Rattle.checker.proofs.Rules.{row_largest_said}

-- whether a row below c has m as the largest cell of its boundary
abbrev pub is_met : Cells → List ℕ → ℕ → ℕ → Bool
is_met K ev c m = some_has (λ b. eqb (row_largest K ev b) (suc m)) c

pub record Met (K : Cells) (ev : List ℕ) (c : ℕ) (ws : List ℕ) : Type 0 where
  pub each : (m : ℕ) → member ws m ≡ is_met K ev c m

-- a largest cell has its word in the set
pub largest_fits : (K : Cells) (ev : List ℕ) → K.size ≤ capacity → (c m : ℕ) → row_largest K ev c ≡ suc m → m / bits < full_width
largest_fits K ev room c m e = omega (arith, largest_bounded (row_boundary K ev c) K.size)

module _ (K : Cells) (ev : List ℕ) where
  pub met_none : (n : ℕ) → Met K ev 0 (replicate n 0)
  unfolding some_has
  met_none n = record { each = λ m. member_zeros n m }

  off_right : (a : Bool) → (a || false) ≡ a
  off_right true = refl
  off_right false = refl

  pub met_closed : (c : ℕ) (ws : List ℕ) → row_largest K ev c ≡ 0 → Met K ev c ws → Met K ev (c + 1) ws
  unfolding some_has
  met_closed c ws e k = record {
    each = λ m. rw (add-one c)
        (k.each m
        ∙ sym (off_right (is_met K ev c m))
        ∙ ap (λ (b : Bool). is_met K ev c m || b) (sym (ne_eqb (row_largest K ev c) (suc m) (λ g. omega arith))));
  }

  pub met_bounds : (c m : ℕ) (ws : List ℕ) → row_largest K ev c ≡ suc m → m / bits < length ws → member ws m ≡ false → Met K ev c ws → Met K ev (c + 1) (toggled ws m)
  unfolding some_has
  met_bounds c m ws e h off k = record { each = λ s. rw (add-one c) (member_toggled ws m h s ∙ by_cases (ℕ_discrete m s) (same s) (other s)) }
    where
      same : (s : ℕ) → m ≡ s → member ws s ⊻ eqb m s ≡ (is_met K ev c s || eqb (row_largest K ev c) (suc s))
      same s q =
          let none : member ws s ≡ false = subst (λ (u : ℕ). member ws u ≡ false) q off in
          ap₂ (λ (a b : Bool). a ⊻ b) none (eq-eqb m s q)
          ∙ sym (ap₂ (λ (a b : Bool). a || b) (sym (k.each s) ∙ none) (eq-eqb (row_largest K ev c) (suc s) (e ∙ ap suc q)))

      other : (s : ℕ) → (m ≡ s → ⊥) → member ws s ⊻ eqb m s ≡ (is_met K ev c s || eqb (row_largest K ev c) (suc s))
      other s ne =
          ap (λ (b : Bool). member ws s ⊻ b) (ne_eqb m s ne)
          ∙ ⊻-off (member ws s)
          ∙ k.each s
          ∙ sym (off_right (is_met K ev c s))
          ∙ ap (λ (b : Bool). is_met K ev c s || b) (sym (ne_eqb (row_largest K ev c) (suc s) (λ g. ne (suc_inj (sym e ∙ g)))))

  -- rule B at row c
  pub closed_keeps_b : (c : ℕ) → row_largest K ev c ≡ 0 → keeps_b K ev c ≡ true
  unfolding keeps_b
  closed_keeps_b c e = rw (eq-eqb (row_largest K ev c) 0 e)

  looked_up : (c m : ℕ) (ws : List ℕ) → row_largest K ev c ≡ suc m → Met K ev c ws → keeps_b K ev c ≡ not (member ws m)
  unfolding keeps_b
  looked_up c m ws e k =
      ap (λ (b : Bool). b || not (some_has (λ d. eqb (row_largest K ev d) (row_largest K ev c)) c)) (ne_eqb (row_largest K ev c) 0 (λ g. omega arith))
      ∙ ap (λ (n : ℕ). not (some_has (λ d. eqb (row_largest K ev d) n) c)) e
      ∙ ap not (sym (k.each m))

  pub unmet_keeps_b : (c m : ℕ) (ws : List ℕ) → row_largest K ev c ≡ suc m → Met K ev c ws → member ws m ≡ false → keeps_b K ev c ≡ true
  unmet_keeps_b c m ws e k off = looked_up c m ws e k ∙ ap not off

  pub met_breaks_b : (c m : ℕ) (ws : List ℕ) → row_largest K ev c ≡ suc m → Met K ev c ws → member ws m ≡ true → keeps_b K ev c ≡ false
  met_breaks_b c m ws e k on = looked_up c m ws e k ∙ ap not on

-- the answer that names a set's largest member is the number of the row's largest boundary cell
pub largest_number_lem : (K : Cells) (ev : List ℕ) → Lawful K → (c : ℕ) (ws : List ℕ) (r : Option ℕ) → SetIs ws (row_boundary K ev c) → LargestIs ws r → largest_number r ≡ row_largest K ev c
largest_number_lem K ev law c ws None set h = sym (empty_largest (row_boundary K ev c) K.size (set_largest_empty ws set h))
largest_number_lem K ev law c ws (Some m) set h = sym (row_largest_said K ev law c m (set_largest ws m set h))
