-- A number in 2 bytes or in 4 and the number that stands at a place undo each other.
-- What carries it: the places of a list of two or four, and arithmetic of 256. Assumes nothing.
use mathlib.Core.Path.{◌≡◌, refl, ap, sym, ◌∙◌}
use mathlib.Core.List.{List, [], ◌∷◌}
use Prim.Native.Nat.{ℕ, zero, suc, ◌+◌, ◌*◌, ◌/◌, ◌%◌, ◌<◌}
use native.Mathlib.Nat.{div-add-mod', div-div-eq-div-mul}
use native.Mathlib.Omega.{arith}
use lib.ListN.{length, get_or}
use Rattle.sketch.specs.Form.{two, four, two_at, four_at}

pub length_two : (v : ℕ) → length (two v) ≡ 2
unfolding two
length_two v = refl

pub length_four : (v : ℕ) → length (four v) ≡ 4
unfolding four
length_four v = refl

-- every byte is below 256, and so is what is read past the end
pub two_small : (v k : ℕ) → get_or (two v) k 0 < 256
unfolding two
two_small v zero = omega arith
two_small v (suc zero) = omega arith
two_small v (suc (suc k)) = omega arith

pub four_small : (v k : ℕ) → get_or (four v) k 0 < 256
unfolding four
four_small v zero = omega arith
four_small v (suc zero) = omega arith
four_small v (suc (suc zero)) = omega arith
four_small v (suc (suc (suc zero))) = omega arith
four_small v (suc (suc (suc (suc k)))) = omega arith

-- a number below 2 to the 32nd is the sum of its four bytes
four_sum : (v : ℕ) → v < 4294967296 → v % 256 + v / 256 % 256 * 256 + v / 65536 % 256 * 65536 + v / 16777216 % 256 * 16777216 ≡ v
four_sum v h =
    let q : v / 256 / 256 ≡ v / 65536 = div-div-eq-div-mul v 256 256 in
    let q' : v / 65536 / 256 ≡ v / 16777216 = div-div-eq-div-mul v 65536 256 in
    go (v / 256) (v / 65536) (v / 16777216) (v % 256) (v / 256 % 256) (v / 65536 % 256) (sym (div-add-mod' v 256))
    (sym (div-add-mod' (v / 256) 256) ∙ ap (λ x. x * 256 + v / 256 % 256) q)
    (sym (div-add-mod' (v / 65536) 256) ∙ ap (λ x. x * 256 + v / 65536 % 256) q')
  where
    go : (a b c i j k : ℕ) → v ≡ a * 256 + i → a ≡ b * 256 + j → b ≡ c * 256 + k → i + j * 256 + k * 65536 + c % 256 * 16777216 ≡ v
    go a b c i j k e e' e'' = let z : c < 256 = omega arith in let y : c % 256 ≡ c = omega arith in omega arith

-- the number whose bytes stand at a place
pub two_reads : (f : List ℕ) (i v : ℕ) → v < 65536 → get_or f i 0 ≡ v % 256 → get_or f (i + 1) 0 ≡ v / 256 % 256 → two_at f i ≡ v
unfolding two_at
two_reads f i v h e e' = omega arith

pub four_reads : (f : List ℕ) (i v : ℕ) → v < 4294967296 → get_or f i 0 ≡ v % 256 → get_or f (i + 1) 0 ≡ v / 256 % 256 → get_or f (i + 2) 0 ≡ v / 65536 % 256 → get_or f (i + 3) 0 ≡ v / 16777216 % 256 → four_at f i ≡ v
unfolding four_at
four_reads f i v h e e' e'' e''' = rw (e, e', e'', e''') (four_sum v h)

-- a number read from bytes is small, and gives the bytes back
pub two_at_small : (f : List ℕ) (i : ℕ) → get_or f i 0 < 256 → get_or f (i + 1) 0 < 256 → two_at f i < 65536
unfolding two_at
two_at_small f i h h' = omega arith

pub two_back : (f : List ℕ) (i : ℕ) → get_or f i 0 < 256 → get_or f (i + 1) 0 < 256 → two (two_at f i) ≡ get_or f i 0 ∷ get_or f (i + 1) 0 ∷ []
unfolding two two_at
two_back f i h h' = go (get_or f i 0) (get_or f (i + 1) 0) h h'
  where
    go : (a b : ℕ) → a < 256 → b < 256 → two (a + b * 256) ≡ a ∷ b ∷ []
    go a b k l =
        let low : (a + b * 256) % 256 ≡ a = omega arith in
        let shifted : (a + b * 256) / 256 ≡ b = omega arith in
        let high : b % 256 ≡ b = omega arith in
        rw (low, shifted, high)

pub four_back : (f : List ℕ) (i : ℕ) → ((k : ℕ) → get_or f k 0 < 256) → four (four_at f i) ≡ get_or f i 0 ∷ get_or f (i + 1) 0 ∷ get_or f (i + 2) 0 ∷ get_or f (i + 3) 0 ∷ []
unfolding four four_at
four_back f i h =
    go (get_or f i 0) (get_or f (i + 1) 0) (get_or f (i + 2) 0) (get_or f (i + 3) 0) (h i) (h (i + 1)) (h (i + 2)) (h (i + 3))
  where
    go : (a b c d : ℕ) → a < 256 → b < 256 → c < 256 → d < 256 → four (a + b * 256 + c * 65536 + d * 16777216) ≡ a ∷ b ∷ c ∷ d ∷ []
    go a b c d ha hb hc hd =
        let x : ℕ = a + b * 256 + c * 65536 + d * 16777216 in
        let first : x % 256 ≡ a = omega arith in
        let shifted : x / 256 ≡ b + c * 256 + d * 65536 = omega arith in
        let second : (b + c * 256 + d * 65536) % 256 ≡ b = omega arith in
        let twice : x / 65536 ≡ c + d * 256 = omega arith in
        let third : (c + d * 256) % 256 ≡ c = omega arith in
        let thrice : x / 16777216 ≡ d = omega arith in
        let fourth : d % 256 ≡ d = omega arith in
        rw (first, shifted, second, twice, third, thrice, fourth)
