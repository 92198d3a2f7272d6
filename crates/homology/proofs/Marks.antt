-- Marks on and off, and numbers in order: cases, contradiction, and the laws of && and ⊻ that the other files cite.
-- What carries them: truth tables. Assumes nothing.
use mathlib.Core.Path.{◌≡◌, refl, sym, ap, ◌∙◌}
use mathlib.Core.Bool.{Bool, true, false, not, ◌&&◌, true≢false}
use Prim.Native.Nat.{ℕ, zero, suc, ◌<◌}
use native.Mathlib.Omega.{arith}
use Rattle.homology.specs.Cells.{◌⊻◌}

-- a mark is on or off, and each case knows which
pub by_mark : {A : Type 0} (b : Bool) → (b ≡ true → A) → (b ≡ false → A) → A
by_mark true f g = f refl
by_mark false f g = g refl

-- two numbers stand in one of three orders
pub by_order : {A : Type 0} (c s : ℕ) → (c < s → A) → (c ≡ s → A) → (s < c → A) → A
by_order zero zero f g h = g refl
by_order zero (suc s) f g h = f (omega arith)
by_order (suc c) zero f g h = h (omega arith)
by_order (suc c) (suc s) f g h = by_order c s (λ l. f (omega arith)) (λ e. g (ap suc e)) (λ l. h (omega arith))

pub clash : {A : Type 0} {b : Bool} → b ≡ true → b ≡ false → A
clash e f = absurd (true≢false (sym e ∙ f))

pub not_on : (b : Bool) → not b ≡ true → b ≡ false
not_on true e = sym e
not_on false e = refl

pub on_of_off : {b : Bool} → b ≡ false → not b ≡ true
on_of_off e = rw e

-- sums mod 2
pub ⊻-self : (a : Bool) → a ⊻ a ≡ false
⊻-self true = refl
⊻-self false = refl

pub ⊻-off : (a : Bool) → a ⊻ false ≡ a
⊻-off true = refl
⊻-off false = refl

pub off_⊻ : (a : Bool) → false ⊻ a ≡ a
off_⊻ true = refl
off_⊻ false = refl

pub ⊻-comm : (a b : Bool) → a ⊻ b ≡ b ⊻ a
⊻-comm true true = refl
⊻-comm true false = refl
⊻-comm false true = refl
⊻-comm false false = refl

pub ⊻-assoc : (a b c : Bool) → (a ⊻ b) ⊻ c ≡ a ⊻ (b ⊻ c)
⊻-assoc true true true = refl
⊻-assoc true true false = refl
⊻-assoc true false true = refl
⊻-assoc true false false = refl
⊻-assoc false true true = refl
⊻-assoc false true false = refl
⊻-assoc false false true = refl
⊻-assoc false false false = refl

pub ⊻-swap : (a b c d : Bool) → (a ⊻ b) ⊻ (c ⊻ d) ≡ (a ⊻ c) ⊻ (b ⊻ d)
⊻-swap a b c d = cc (⊻-assoc a b (c ⊻ d), ⊻-assoc b c d, ⊻-comm b c, ⊻-assoc c b d, ⊻-assoc a c (b ⊻ d))

-- adding b twice changes nothing
pub ⊻-back : (a b : Bool) → (a ⊻ b) ⊻ b ≡ a
⊻-back a b = cc (⊻-assoc a b b, ⊻-self b, ⊻-off a)

pub &&-off : (a : Bool) → a && false ≡ false
&&-off true = refl
&&-off false = refl

pub &&-assoc : (a b c : Bool) → (a && b) && c ≡ a && (b && c)
&&-assoc true b c = refl
&&-assoc false b c = refl

pub ⊻-&& : (a b c : Bool) → (a ⊻ b) && c ≡ (a && c) ⊻ (b && c)
⊻-&& true true c = sym (⊻-self c)
⊻-&& true false c = sym (⊻-off c)
⊻-&& false true c = sym (off_⊻ c)
⊻-&& false false c = refl

pub &&-⊻ : (a b c : Bool) → a && (b ⊻ c) ≡ (a && b) ⊻ (a && c)
&&-⊻ true b c = refl
&&-⊻ false b c = refl

-- a sum that is on has a part that is on
pub on_in_sum : {A : Type 0} (a b : Bool) → a ⊻ b ≡ true → (a ≡ true → A) → (b ≡ true → A) → A
on_in_sum true b e f g = f refl
on_in_sum false true e f g = g refl
on_in_sum false false e f g = clash e refl
