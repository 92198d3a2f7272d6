-- Counters, one at each place of a list: place p has how many of the numbers passed have property p.
-- What carries it: one number more is counted at its own place, or at none. Assumes nothing.
use mathlib.Core.Path.{◌≡◌, sym, ap, ◌∙◌}
use mathlib.Core.Bool.{Bool, true, false}
use mathlib.Core.List.{List}
use Prim.Native.Nat.{ℕ, ◌+◌, ◌≤◌, ◌<◌}
use native.Mathlib.Omega.{arith}
use lib.ListN.{length, get_or, set, replicate, length-replicate, get_or-replicate, length-set}
use lib.Seq.{ext_get_or, get_or-set_same, get_or-set_other}
use Rattle.counting.proofs.Cases.{same_or_other}
use Rattle.counting.specs.Counting.{how_many, listed}
use Rattle.counting.proofs.Listed.{length_listed, get_or_listed}
use Rattle.counting.proofs.Counting.{how_many_zero, how_many_yes_more, how_many_no_more, how_many_most}

-- place p of xs, below m, has how many numbers below c have f p
pub record Tally (m : ℕ) (f : ℕ → ℕ → Bool) (c : ℕ) (xs : List ℕ) : Type 0 where
  pub long : length xs ≡ m
  pub each : (p : ℕ) → p < m → get_or xs p 0 ≡ how_many (f p) c

pub tally_none : (m : ℕ) (f : ℕ → ℕ → Bool) → Tally m f 0 (replicate m 0)
tally_none m f =
    record {
      long = length-replicate {A = ℕ} m 0;
      each = λ p h. get_or-replicate m p 0 0 h ∙ sym (how_many_zero (f p));
    }

module _ {m : ℕ} {f : ℕ → ℕ → Bool} {c : ℕ} {xs : List ℕ} (k : Tally m f c xs) where
  pub tally_most : (p : ℕ) → p < m → get_or xs p 0 ≤ c
  tally_most p h = omega (arith, k.each p h, how_many_most (f p) c)

  -- number c has none of the properties
  pub tally_skipped : ((p : ℕ) → p < m → f p c ≡ false) → Tally m f (c + 1) xs
  tally_skipped off =
      record { long = k.long; each = λ p h. k.each p h ∙ sym (how_many_no_more (f p) c (off p h)) }

  -- it has property q alone
  pub tally_counted :
      (q : ℕ) → q < m → f q c ≡ true → ((p : ℕ) → (p ≡ q → ⊥) → f p c ≡ false) →
      Tally m f (c + 1) (set xs q (get_or xs q 0 + 1))
  tally_counted q l on off =
      let ys = set xs q (get_or xs q 0 + 1) in
      record {
        long = length-set xs q (get_or xs q 0 + 1) ∙ k.long;
        each = λ p h.
            same_or_other (λ i. get_or ys i 0 ≡ how_many (f i) (c + 1)) p q
            (get_or-set_same xs q (get_or xs q 0 + 1) 0 (omega (arith, k.long))
            ∙ ap (λ i. i + 1) (k.each q l)
            ∙ sym (how_many_yes_more (f q) c on))
            (λ ne. get_or-set_other xs q p (get_or xs q 0 + 1) 0 ne ∙ k.each p h ∙ sym (how_many_no_more (f p) c (off p ne)));
      }

  -- the whole list, where the numbers below c are all
  pub tally_listed : (n : ℕ) → c ≡ n → xs ≡ listed m (λ p. how_many (f p) n)
  tally_listed n e =
      ext_get_or 0 xs (listed m (λ p. how_many (f p) n)) (k.long ∙ sym (length_listed m (λ p. how_many (f p) n)))
      (λ p h.
      let l : p < m = omega (arith, k.long) in
      k.each p l ∙ ap (how_many (f p)) e ∙ sym (get_or_listed m (λ q. how_many (f q) n) p l))
