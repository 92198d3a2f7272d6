-- The laws of integers that the sums need beside those of the library: the product over a sum, and its regrouping.
-- What carries them: going up and down by one in the first factor. Assumes nothing.
use mathlib.Core.Path.{◌≡◌, sym, ap, ◌∙◌}
use Prim.Native.Nat.{zero}
use lib.IntN.{ℤ, pos, negsuc, neg_ℤ, suc_ℤ, pred_ℤ, ◌+ℤ◌, ◌-ℤ◌, ◌*ℤ◌, +ℤ_assoc, +ℤ_comm, +ℤ_idl, +ℤ_one, -ℤ_one, suc_ℤ-+ℤ, pred_ℤ-+ℤ, suc_ℤ-*ℤ, pred_ℤ-*ℤ, zero-*ℤ, *ℤ_comm, neg_ℤ-+ℤ, neg_ℤ-neg_ℤ, neg_ℤ-suc_ℤ, neg_ℤ-pred_ℤ, ℤ_ind}

-- a + b + c + d, the middle two exchanged
pub middle : (a b c d : ℤ) → (a +ℤ b) +ℤ (c +ℤ d) ≡ (a +ℤ c) +ℤ (b +ℤ d)
middle a b c d =
    +ℤ_assoc a b (c +ℤ d)
    ∙ ap (λ (z : ℤ). a +ℤ z) (sym (+ℤ_assoc b c d) ∙ ap (λ (z : ℤ). z +ℤ d) (+ℤ_comm b c) ∙ +ℤ_assoc c b d)
    ∙ sym (+ℤ_assoc a c (b +ℤ d))

-- the last two of three summands exchanged
pub last_two : (a b c : ℤ) → (a +ℤ b) +ℤ c ≡ (a +ℤ c) +ℤ b
last_two a b c = +ℤ_assoc a b c ∙ ap (λ (z : ℤ). a +ℤ z) (+ℤ_comm b c) ∙ sym (+ℤ_assoc a c b)

-- a law of the first factor, from what it says one step up and one step down
by_steps : (P : ℤ → Type 0) → P (pos zero) → ((m : ℤ) → P m → P (suc_ℤ m)) → ((m : ℤ) → P m → P (pred_ℤ m)) → (m : ℤ) → P m
by_steps P z up down =
    ℤ_ind P z (λ n h. rw (+ℤ_one (pos n)) (up (pos n) h)) (λ n h. rw (-ℤ_one (neg_ℤ (pos n))) (down (neg_ℤ (pos n)) h))

times_over : (a b c : ℤ) → (a +ℤ b) *ℤ c ≡ a *ℤ c +ℤ b *ℤ c
times_over a b c =
    by_steps (λ (m : ℤ). (m +ℤ b) *ℤ c ≡ m *ℤ c +ℤ b *ℤ c)
    (ap (λ (z : ℤ). z *ℤ c) (+ℤ_idl b) ∙ sym (ap (λ (z : ℤ). z +ℤ b *ℤ c) (zero-*ℤ c) ∙ +ℤ_idl (b *ℤ c)))
    (λ m h.
    ap (λ (z : ℤ). z *ℤ c) (suc_ℤ-+ℤ m b) ∙ suc_ℤ-*ℤ (m +ℤ b) c ∙ ap (λ (z : ℤ). z +ℤ c) h
    ∙ last_two (m *ℤ c) (b *ℤ c) c ∙ sym (ap (λ (z : ℤ). z +ℤ b *ℤ c) (suc_ℤ-*ℤ m c)))
    (λ m h.
    ap (λ (z : ℤ). z *ℤ c) (pred_ℤ-+ℤ m b) ∙ pred_ℤ-*ℤ (m +ℤ b) c ∙ ap (λ (z : ℤ). z -ℤ c) h
    ∙ last_two (m *ℤ c) (b *ℤ c) (neg_ℤ c) ∙ sym (ap (λ (z : ℤ). z +ℤ b *ℤ c) (pred_ℤ-*ℤ m c)))
    a

pub over_times : (a b c : ℤ) → a *ℤ (b +ℤ c) ≡ a *ℤ b +ℤ a *ℤ c
over_times a b c =
    *ℤ_comm a (b +ℤ c) ∙ times_over b c a ∙ ap (λ (z : ℤ). z +ℤ c *ℤ a) (*ℤ_comm b a)
    ∙ ap (λ (z : ℤ). a *ℤ b +ℤ z) (*ℤ_comm c a)

-- a sign moves out of a product
pub minus_times : (a b : ℤ) → neg_ℤ a *ℤ b ≡ neg_ℤ (a *ℤ b)
minus_times a b =
    by_steps (λ (m : ℤ). neg_ℤ m *ℤ b ≡ neg_ℤ (m *ℤ b))
    (zero-*ℤ b ∙ sym (ap neg_ℤ (zero-*ℤ b)))
    (λ m h.
    ap (λ (z : ℤ). z *ℤ b) (neg_ℤ-suc_ℤ m) ∙ pred_ℤ-*ℤ (neg_ℤ m) b ∙ ap (λ (z : ℤ). z -ℤ b) h
    ∙ sym (neg_ℤ-+ℤ (m *ℤ b) b) ∙ ap neg_ℤ (sym (suc_ℤ-*ℤ m b)))
    (λ m h.
    ap (λ (z : ℤ). z *ℤ b) (neg_ℤ-pred_ℤ m) ∙ suc_ℤ-*ℤ (neg_ℤ m) b ∙ ap (λ (z : ℤ). z +ℤ b) h
    ∙ ap (λ (z : ℤ). neg_ℤ (m *ℤ b) +ℤ z) (sym (neg_ℤ-neg_ℤ b)) ∙ sym (neg_ℤ-+ℤ (m *ℤ b) (neg_ℤ b))
    ∙ ap neg_ℤ (sym (pred_ℤ-*ℤ m b)))
    a

pub one_times : (a : ℤ) → pos 1 *ℤ a ≡ a
one_times a = suc_ℤ-*ℤ (pos 0) a ∙ ap (λ (z : ℤ). z +ℤ a) (zero-*ℤ a) ∙ +ℤ_idl a

pub minus_one_times : (a : ℤ) → negsuc 0 *ℤ a ≡ neg_ℤ a
minus_one_times a = pred_ℤ-*ℤ (pos 0) a ∙ ap (λ (z : ℤ). z -ℤ a) (zero-*ℤ a) ∙ +ℤ_idl (neg_ℤ a)

pub times_regroup : (a b c : ℤ) → (a *ℤ b) *ℤ c ≡ a *ℤ (b *ℤ c)
times_regroup a b c =
    by_steps (λ (m : ℤ). (m *ℤ b) *ℤ c ≡ m *ℤ (b *ℤ c))
    (ap (λ (z : ℤ). z *ℤ c) (zero-*ℤ b) ∙ zero-*ℤ c ∙ sym (zero-*ℤ (b *ℤ c)))
    (λ m h.
    ap (λ (z : ℤ). z *ℤ c) (suc_ℤ-*ℤ m b) ∙ times_over (m *ℤ b) b c ∙ ap (λ (z : ℤ). z +ℤ b *ℤ c) h
    ∙ sym (suc_ℤ-*ℤ m (b *ℤ c)))
    (λ m h.
    ap (λ (z : ℤ). z *ℤ c) (pred_ℤ-*ℤ m b) ∙ times_over (m *ℤ b) (neg_ℤ b) c
    ∙ ap (λ (z : ℤ). m *ℤ b *ℤ c +ℤ z) (minus_times b c) ∙ ap (λ (z : ℤ). z -ℤ b *ℤ c) h ∙ sym (pred_ℤ-*ℤ m (b *ℤ c)))
    a
