-- One row by itself, as the checker's inner functions see it: its words one by one, and what a row is found to be.
-- Cited by the contracts of private functions alone, beside the definitions of Check.antt; nothing here is proved.
use Rattle.std.specs.Prelude.{◌≡◌, Bool, true, false, ◌&&◌, ◌||◌, not, List, ℕ, suc, ◌+◌, ◌-◌, ◌*◌, ◌≤◌, ◌<◌, eqb, leb, ltb, length, get_or, Option, None, Some, Result, Ok, Err, ◌⊎◌}
use Rattle.homology.specs.Cells.{Cells}
use Rattle.bitset.specs.Bits.{bits, member, toggled, full_width}
use Rattle.table.specs.Kind.{capacity, top, dimensions}
use Rattle.counting.specs.Counting.{all, listed}
use Rattle.checker.specs.Check.{keeps_a, row_largest}
use Rattle.calls.specs.declared.Refusal.{Refusal}
use Rattle.calls.specs.declared.Refusal.TheVariants.{RuleA, RuleB}

-- rule A at number c, of the row's words
unfoldable pub row_keeps : Cells → ℕ → List ℕ → Bool
row_keeps K c row =
    all (bits * length row)
    (λ s. not (member row s) || (K.live c && (leb s c && (K.live s && eqb (K.dim s) (K.dim c)))))
    && (not (K.live c) || member row c)

-- words in seven sets of cells, one set for each dimension
abbrev pub live_words : ℕ
live_words = dimensions * full_width

-- The seven sets one after another: s is in set p where it is a live p-cell below c.
pub record Lives (K : Cells) (c : ℕ) (ws : List ℕ) : Type 0 where
  pub long : length ws ≡ live_words
  pub each : (p s : ℕ) → p ≤ top → s < capacity → member ws (capacity * p + s) ≡ (ltb s c && (K.live s && eqb (K.dim s) p))

-- a largest member as one number: one more than it, and 0 where there is none
abbrev pub largest_number : Option ℕ → ℕ
largest_number None = 0
largest_number (Some m) = suc m

-- What row c is found to be, where the set of the largest cells met so far goes from xs to ys: it breaks a rule and is named, or it
-- keeps both, and has a boundary or none.
abbrev pub Found : Cells → List ℕ → ℕ → List ℕ → List ℕ → Result Bool Refusal → Type 0
Found K ev c xs ys (Err r) =
    ((r ≡ RuleA c) × (keeps_a K ev c ≡ false))
    ⊎ ((r ≡ RuleB c) × (keeps_a K ev c ≡ true) × ((m : ℕ) × (row_largest K ev c ≡ suc m) × (member xs m ≡ true)))
Found K ev c xs ys (Ok false) = (keeps_a K ev c ≡ true) × (row_largest K ev c ≡ 0) × (ys ≡ xs)
Found K ev c xs ys (Ok true) =
    (keeps_a K ev c ≡ true) × ((m : ℕ) × (row_largest K ev c ≡ suc m) × (member xs m ≡ false) × (ys ≡ toggled xs m))

-- counts for each dimension of which nothing is lost in the differences
pub record CountsFit (ns rs : List ℕ) : Type 0 where
  pub long : length ns ≡ dimensions
  pub long_next : length rs ≡ dimensions + 1
  pub fit : (p : ℕ) → p ≤ top → get_or rs p 0 + get_or rs (p + 1) 0 ≤ get_or ns p 0

-- n_p − r_p − r_(p+1) for each p, from the two lists of counts
unfoldable pub differences : List ℕ → List ℕ → List ℕ
differences ns rs = listed dimensions (λ p. get_or ns p 0 - get_or rs p 0 - get_or rs (p + 1) 0)
