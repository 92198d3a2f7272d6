-- Laws of the search for the first breach.
-- What carries them: recursion on the bound. Assumes nothing.
use mathlib.Core.Path.{◌≡◌, refl, sym, ap, ◌∙◌}
use mathlib.Core.Bool.{Bool, true, false, false≢true}
use mathlib.Core.Logic.{⊎_elim}
use Prim.Native.Nat.{ℕ, zero, suc, ◌+◌, ◌≤◌, ◌<◌}
use native.Mathlib.Nat.{not-suc-le-zero, le_of_suc-le-suc, eq-or-lt_of_le}
use native.Mathlib.Numerals.{add-one}
use native.Mathlib.Omega.{arith}
use Rattle.counting.proofs.Tests.{at_or_below}
use Rattle.counting.specs.Counting.{pick}
use Rattle.audit.specs.Audit.{scan, or_else, is_sound}
use Rattle.std.specs.declared.option.Option.{Option}
use Rattle.calls.specs.declared.Breach.{Breach}
use Rattle.std.specs.declared.option.Option.TheVariants.{None, Some}

-- a breach comes first where it is one, and is passed over where it is none
first_breach_first : (b b' : Option Breach) → is_sound b ≡ false → or_else b b' ≡ b
first_breach_first None b' e = absurd (false≢true (sym e))
first_breach_first (Some b) b' e = refl

pub or_else_left : (b b' : Option Breach) → or_else b b' ≡ None → b ≡ None
or_else_left None b' e = refl
or_else_left (Some b) b' e = e

pub or_else_right : (b b' : Option Breach) → or_else b b' ≡ None → b' ≡ None
or_else_right b b' e = sym (ap (λ (x : Option Breach). or_else x b') (or_else_left b b' e)) ∙ e

pub or_else_both : (b b' : Option Breach) → b ≡ None → b' ≡ None → or_else b b' ≡ None
or_else_both b b' p q = rw (p, q)

pub sound_true : (b : Option Breach) → is_sound b ≡ true → b ≡ None
sound_true None e = refl
sound_true (Some b) e = absurd (false≢true e)

-- a test that fails is a breach
pub picked_sound : (a : Bool) (b : Option Breach) → is_sound b ≡ false → pick a None b ≡ None → a ≡ true
picked_sound true b f e = refl
picked_sound false b f e = absurd (false≢true (sym f ∙ ap is_sound e))

pub picks_sound : (a : Bool) (b : Option Breach) → a ≡ true → pick a None b ≡ None
picks_sound a b e = rw e

pub picks_breach : (a : Bool) (b : Option Breach) → a ≡ false → pick a None b ≡ b
picks_breach a b e = rw e

-- scan: nothing below n is a breach,
pub scan_none : (f : ℕ → Option Breach) (n : ℕ) → ((k : ℕ) → k < n → f k ≡ None) → scan f n ≡ None
unfolding scan
scan_none f zero each = refl
scan_none f (suc n) each =
    or_else_both (scan f n) (f n) (scan_none f n (λ k h. each k (omega arith))) (each n (omega arith))

pub scan_each : (f : ℕ → Option Breach) (n : ℕ) → scan f n ≡ None → (k : ℕ) → k < n → f k ≡ None
unfolding scan
scan_each f zero e k h = absurd (not-suc-le-zero h)
scan_each f (suc n) e k h =
    at_or_below (λ i. f i ≡ None) k n h (or_else_right (scan f n) (f n) e) (λ l. scan_each f n (or_else_left (scan f n) (f n) e) k l)

-- at the start,
pub scan_zero : (f : ℕ → Option Breach) → scan f 0 ≡ None
unfolding scan
scan_zero f = refl

-- one turn more without a breach,
pub scan_more : (f : ℕ → Option Breach) (n : ℕ) → scan f n ≡ None → f n ≡ None → scan f (n + 1) ≡ None
scan_more f n e h = scan_none f (n + 1) (λ k l. at_or_below (λ i. f i ≡ None) k n (rw add-one at l) h (scan_each f n e k))

-- at an end that was passed,
pub scan_fewer : (f : ℕ → Option Breach) (k n : ℕ) → k ≤ n → scan f n ≡ None → scan f k ≡ None
scan_fewer f k n h e = scan_none f k (λ i l. scan_each f n e i (omega arith))

-- and the turn at which it stops.
pub scan_stop : (f : ℕ → Option Breach) (k n : ℕ) (b : Option Breach) → k < n → scan f k ≡ None → f k ≡ b → is_sound b ≡ false → scan f n ≡ b
unfolding scan
scan_stop f k zero b h e at bad = absurd (not-suc-le-zero h)
scan_stop f k (suc n) b h e at bad =
    ⊎_elim
    (λ i. ap (λ m. or_else (scan f m) (f m)) (sym i) ∙ ap (λ x. or_else x (f k)) e ∙ at)
    (λ l. ap (λ x. or_else x (f n)) (scan_stop f k n b l e at bad) ∙ first_breach_first b (f n) bad)
    (eq-or-lt_of_le (le_of_suc-le-suc h))
