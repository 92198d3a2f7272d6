-- Lists place by place: one that is written from place 0 on, and one that is given, read with anything past its end.
-- What carries them: one place more is the last; recursion on the length. Assumes nothing.
use mathlib.Core.Path.{◌≡◌, refl, ◌∙◌}
use mathlib.Core.List.{List}
use Prim.Native.Nat.{ℕ, zero, suc, ◌+◌, ◌<◌}
use native.Mathlib.Nat.{not-suc-le-zero, le_of_suc-le-suc}
use native.Mathlib.Omega.{arith}
use borrow.Author.Count.{below_more}
use lib.ListN.{length, get_or, set}
use lib.Seq.{get_or-set_same, get_or-set_other}
use Rattle.counting.specs.Counting.{listed}

-- the words below l are those of f, and then the one at l
pub words_more :
    (f : ℕ → ℕ) (y : List ℕ) (l x : ℕ) → l < length y → x ≡ f l → ((k : ℕ) → k < l → get_or y k 0 ≡ f k) →
    (k : ℕ) → k < l + 1 → get_or (set y l x) k 0 ≡ f k
words_more f y l x h e done =
    below_more (λ k. get_or (set y l x) k 0 ≡ f k) l
    (λ k m. get_or-set_other y l k x 0 (λ q. omega arith) ∙ done k m)
    (get_or-set_same y l x 0 h ∙ e)

-- a place of a list that is given place by place, whatever stands past its end
pub listed_at : (n : ℕ) (f : ℕ → ℕ) (i d : ℕ) → i < n → get_or (listed n f) i d ≡ f i
unfolding listed
listed_at zero f i d h = absurd (not-suc-le-zero h)
listed_at (suc n) f zero d h = refl
listed_at (suc n) f (suc i) d h = listed_at n (λ k. f (suc k)) i d (le_of_suc-le-suc h)
