-- Finite cells with a mod 2 boundary, whatever kind of table they come from.
-- A reader must believe these definitions; nothing here is proved, and nothing is assumed.
use Rattle.std.specs.Prelude.{◌≡◌, Bool, true, false, ◌&&◌, ℕ, zero, suc, ◌<◌}

-- the sum of two marks mod 2
infixl 30 ◌⊻◌
abbrev pub ◌⊻◌ : Bool → Bool → Bool
true ⊻ true = false
true ⊻ false = true
false ⊻ true = true
false ⊻ false = false

-- whether an odd number of the numbers below n have f
unfoldable pub odd : ℕ → (ℕ → Bool) → Bool
odd zero f = false
odd (suc n) f = odd n f ⊻ f n

-- Cells have the numbers below size. Some numbers are live, each live one has a dimension, and inc c t says that cell c has
-- cell t as a face an odd number of times.
pub record Cells : Type 0 where
  pub size : ℕ
  pub live : ℕ → Bool
  pub dim : ℕ → ℕ
  pub inc : ℕ → ℕ → Bool

-- what a face is: two live cells, one dimension apart
pub record FaceOf (K : Cells) (c t : ℕ) : Type 0 where
  pub cell_below : c < K.size
  pub cell_live : K.live c ≡ true
  pub face_below : t < K.size
  pub face_live : K.live t ≡ true
  pub one_down : K.dim c ≡ suc (K.dim t)

-- The one law: the boundary applied twice gives nothing. Cell u is a face of a face of c an even number of times.
pub record Lawful (K : Cells) : Type 0 where
  pub faces : (c t : ℕ) → K.inc c t ≡ true → FaceOf K c t
  pub twice : (c u : ℕ) → odd K.size (λ t. K.inc c t && K.inc t u) ≡ false
