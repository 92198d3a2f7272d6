-- The grounds of a boundary, way by way out of the code, and what an accepted call has tested.
-- What carries it: the first ground that applies decides. Assumes nothing.
use mathlib.Core.Path.{◌≡◌, sym, ap, ◌∙◌}
use mathlib.Core.Bool.{true, false, ◌&&◌}
use mathlib.Core.List.{List, [], ◌∷◌}
use Prim.Native.Nat.{ℕ, ◌≤◌, ◌<◌}
use borrow.Author.Tests.{not-false, lt-ltb, le-ltb}
use lib.ListN.{length}
use lib.IntN.{ℤ, pos}
use Rattle.table.specs.Kind.{top}
use Rattle.table.specs.Table.{cells_of, Valid, sized}
use Rattle.audit.specs.Audit.{sound, on_validity, audit_grounds}
use Rattle.calls.specs.Calls.{verdict, Ends}
use Rattle.calls.specs.declared.Refusal.{Refusal}
use Rattle.calls.specs.declared.Refusal.TheVariants.{Length, NoSuchPlace, TooLarge, Misplaced}
use Rattle.calls.specs.Calls.{Verdict}
use Rattle.std.specs.declared.result.Result.TheVariants.{Ok, Err}
use Prim.{tt}
use Rattle.audit.proofs.Valid.{sound_is_valid}
use Rattle.calls.proofs.Grounds.{accepted_none_applies, refused_first, accepted_first}
use Rattle.reading.specs.Sums.{integers}
use Rattle.reading.specs.Boundary.{boundary_of, coefficient, lengths_fit, all_small, all_placed, chain_grounds, boundary_grounds, boundary_verdict, boundary_leaves}
use Rattle.reading.specs.Steps.{chain_verdict, Addable}
use Rattle.reading.proofs.Lengths.{Fitting, lengths_say}

-- the three grounds of a chain with a coefficient for each cell
module _ (t : List ℕ) (x : List ℤ) (p : ℕ) where
  pub dimension_above : top < p → Err NoSuchPlace ≡ chain_verdict t x p
  unfolding chain_verdict
  dimension_above h = rw (lt-ltb top p h)

  module _ (long : length x ≡ cells_of t) (h : p ≤ top) where
    pub too_large : all_small (length x) x ≡ false → Err TooLarge ≡ chain_verdict t x p
    unfolding chain_verdict
    too_large e = rw (le-ltb top p h, rw long at e)

    pub misplaced : all_small (length x) x ≡ true → all_placed t x p ≡ false → Err Misplaced ≡ chain_verdict t x p
    unfolding chain_verdict
    misplaced e f = rw (le-ltb top p h, rw long at e, f)

    pub chain_passes : all_small (length x) x ≡ true → all_placed t x p ≡ true → (Ok tt) ≡ chain_verdict t x p
    unfolding chain_verdict
    chain_passes e f = rw (le-ltb top p h, rw long at e, f)

module _ (t : List ℕ) (x : List ℤ) (p : ℕ) (y : List ℤ) where
  pub lengths_refused : (sized t && lengths_fit t x y) ≡ false → Err Length ≡ boundary_verdict t x p y
  unfolding boundary_verdict
  lengths_refused e = rw e

  -- the lengths fit, and a is what the audit answers
  module _ (fit : (sized t && lengths_fit t x y) ≡ true) (a : Verdict) (says : a ≡ verdict (audit_grounds t)) where
    after_lengths : boundary_verdict t x p y ≡ verdict (on_validity t ∷ chain_grounds t x p)
    unfolding boundary_verdict
    after_lengths = rw fit

    audit_is : a ≡ verdict (on_validity t ∷ [])
    audit_is = says ∙ rw (lengths_say t x y fit).table

    pub audit_refused : (r : Refusal) → a ≡ Err r → Err r ≡ boundary_verdict t x p y
    audit_refused r e = sym (after_lengths ∙ refused_first (on_validity t ∷ []) (chain_grounds t x p) r (sym audit_is ∙ e))

    pub audit_passed : (v : Verdict) → a ≡ Ok tt → v ≡ chain_verdict t x p → v ≡ boundary_verdict t x p y
    unfolding chain_verdict
    audit_passed v e h = h ∙ sym (after_lengths ∙ accepted_first (on_validity t ∷ []) (chain_grounds t x p) (sym audit_is ∙ e))

-- what an accepted call has tested
pub record Tested (t : List ℕ) (x : List ℤ) (p : ℕ) (y : List ℤ) : Type 0 where
  pub fitting : Fitting t x y
  pub valid : Valid t
  pub small : all_small (cells_of t) x ≡ true
  pub placed : all_placed t x p ≡ true

pub accepted_says : (t : List ℕ) (x : List ℤ) (p : ℕ) (y : List ℤ) → boundary_verdict t x p y ≡ Ok tt → Tested t x p y
unfolding boundary_verdict
accepted_says t x p y e =
    let n = accepted_none_applies (boundary_grounds t x p y) e in
    let k = lengths_say t x y (not-false _ n.0) in
    record {
      fitting = k;
      valid = sound_is_valid t k.table (not-false (sound t) n.1.0);
      small = not-false _ n.1.1.1.0;
      placed = not-false _ n.1.1.1.1.0;
    }

-- what the call leaves
pub leaves_new : (t : List ℕ) (x : List ℤ) (p : ℕ) (y : List ℤ) → boundary_verdict t x p y ≡ Ok tt → boundary_leaves t x p y ≡ integers (cells_of t) (boundary_of t p (coefficient x))
leaves_new t x p y e = rw e

pub ends_refused : (t : List ℕ) (x : List ℤ) (p : ℕ) (y : List ℤ) (v : Verdict) (r : Refusal) → v ≡ boundary_verdict t x p y → v ≡ Err r → Ends (boundary_verdict t x p y) (boundary_leaves t x p y) (Err r) y
ends_refused t x p y v r e h = let q = sym e ∙ h in record { answer = sym q; left = rw q }

pub ends_accepted : (t : List ℕ) (x : List ℤ) (p : ℕ) (y y' : List ℤ) (v : Verdict) → v ≡ boundary_verdict t x p y → v ≡ Ok tt → y' ≡ integers (cells_of t) (boundary_of t p (coefficient x)) → Ends (boundary_verdict t x p y) (boundary_leaves t x p y) (Ok tt) y'
ends_accepted t x p y y' v e h f = let q = sym e ∙ h in record { answer = sym q; left = f ∙ sym (leaves_new t x p y q) }

-- the cells can be added into the cleared result
pub addable : (t : List ℕ) (x : List ℤ) (p : ℕ) (y y' : List ℤ) (v : Verdict) → v ≡ boundary_verdict t x p y → v ≡ Ok tt → y' ≡ integers (length y) (λ u. pos 0) → Addable t x p y'
addable t x p y y' v e h f =
    let k = accepted_says t x p y (sym e ∙ h) in
    record {
      valid = k.valid;
      long = k.fitting.chain;
      small = k.small;
      placed = k.placed;
      cleared = f ∙ ap (λ (n : ℕ). integers n (λ u. pos 0)) k.fitting.target;
    }
