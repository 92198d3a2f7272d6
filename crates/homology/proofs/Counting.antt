-- Two laws of counting that carry the theorem's arithmetic: a test splits a count in two, and a relation that sends the counted
-- numbers of one range to counted numbers of another, no two to the same one, gives an order of the counts.
-- What carries each: induction on the range. Assumes nothing.
use mathlib.Core.Path.{◌≡◌, refl, sym, ap, ◌∙◌, subst}
use mathlib.Core.Bool.{Bool, true, false, not, ◌&&◌}
use Prim.Native.Nat.{ℕ, zero, suc, ◌+◌, ◌≤◌, ◌<◌}
use native.Mathlib.Omega.{arith}
use borrow.Author.Tests.{eq-eqb, ne_eqb}
use lib.Dec.{eqb}
use Rattle.counting.specs.Counting.{pick, how_many}
use Rattle.counting.proofs.Counting.{how_many_alike}
use Rattle.homology.proofs.Marks.{by_mark, by_order, &&-off}

-- what one number adds to a count
abbrev mark_of : Bool → ℕ
mark_of b = pick b 1 0

mark_split : (a b : Bool) → mark_of a ≡ mark_of (a && b) + mark_of (a && not b)
mark_split true true = refl
mark_split true false = refl
mark_split false b = refl

-- a test splits a count in two
pub count_split : (n : ℕ) (f g : ℕ → Bool) → how_many f n ≡ how_many (λ c. f c && g c) n + how_many (λ c. f c && not (g c)) n
unfolding how_many
count_split zero f g = refl
count_split (suc n) f g = omega (arith, count_split n f g, mark_split (f n) (g n))

-- f without t
without : (ℕ → Bool) → ℕ → ℕ → Bool
without f t s = f s && not (eqb s t)

without_other : (f : ℕ → Bool) (t s : ℕ) → (s ≡ t → ⊥) → f s ≡ without f t s
unfolding without
without_other f t s h = rw (ne_eqb s t h) (by_mark (f s) (λ e. rw e) (λ e. rw e))

count_without : (n : ℕ) (f : ℕ → Bool) (t : ℕ) → t < n → f t ≡ true → how_many f n ≡ suc (how_many (without f t) n)
unfolding how_many without
count_without zero f t h e = absurd (omega arith)
count_without (suc n) f t h e = by_order t n
    (λ l. earlier l (count_without n f t l e))
    last
    (λ l. absurd (omega arith))
  where
    last : t ≡ n → how_many f (suc n) ≡ suc (how_many (without f t) (suc n))
    last q = omega (
      arith,
      ap mark_of (subst (λ s. f s ≡ true) q e),
      ap mark_of (ap (λ b. f n && not b) (eq-eqb n t (sym q)) ∙ &&-off (f n)),
      how_many_alike f (without f t) n (λ c l. without_other f t c (λ r. omega arith)),
    )

    earlier : t < n → how_many f n ≡ suc (how_many (without f t) n) → how_many f (suc n) ≡ suc (how_many (without f t) (suc n))
    earlier l ih = omega (arith, ap mark_of (without_other f t n (λ q. omega arith)))

module _ (Sent : ℕ → ℕ → Type 0) (apart : (c b t : ℕ) → Sent c t → Sent b t → c ≡ b) where
  pub count_inject : (n m : ℕ) (f g : ℕ → Bool) → ((c : ℕ) → c < n → f c ≡ true → (t : ℕ) × (t < m) × (g t ≡ true) × Sent c t) → how_many f n ≤ how_many g m
  unfolding how_many
  count_inject zero m f g send = omega arith
  count_inject (suc n) m f g send = by_mark (f n)
      (λ e. let a = send n (omega arith) e in
      omega (
        arith,
        ap mark_of e,
        count_without m g a.0 a.1 a.2,
        count_inject n m f (without g a.0) (λ c l h. let d = send c (omega arith) h in
            (d.0, d.1, subst (λ b. b ≡ true) (without_other g a.0 d.0 (λ q. omega (arith, apart c n a.0 (subst (Sent c) q d.3) a.3))) d.2, d.3)),
      ))
      (λ e. omega (arith, ap mark_of e, count_inject n m f g (λ c l h. send c (omega arith) h)))
