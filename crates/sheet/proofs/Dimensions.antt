-- The largest live dimension: no live cell exceeds it, some live cell has it, and the levels are one more.
-- What carries them: recursion on the number of cells, with the cases of the cell at the bound. Assumes nothing.
use mathlib.Core.Path.{◌≡◌, refl, sym, ap, ap₂, ◌∙◌}
use mathlib.Core.Bool.{Bool, true, false, false≢true, or-false}
use mathlib.Core.List.{List}
use mathlib.Core.Logic.{◌⊎◌, inl, inr, ⊎_elim}
use Prim.Native.Nat.{ℕ, zero, suc, max, ◌+◌, ◌≤◌, ◌<◌}
use native.Mathlib.Nat.{not-suc-le-zero, le-max_left, le-max_right, max-eq_left, max-eq_right, max-zero, zero-max, suc-max-suc}
use native.Mathlib.Numerals.{add-one}
use native.Mathlib.Omega.{arith}
use borrow.Author.Tests.{lt-ltb, le-ltb}
use Rattle.counting.specs.Counting.{some_has, pick}
use Rattle.counting.proofs.Cases.{below_or_not, true_or_false, not_true_false}
use Rattle.counting.proofs.Counting.{some_has_at, some_has_each}
use Rattle.table.specs.Kind.{top}
use Rattle.table.specs.Table.{cells_of, dim, live}
use Rattle.table.proofs.Records.{live_says, live_true}
use Rattle.counting.proofs.Tests.{at_or_below}
use Rattle.sheet.specs.Sheet.{largest_dim_below}
use Rattle.sheet.specs.Sides.{level_of, levels_below}

-- the level of a record that is free, and of one that is live
level_free : (p : ℕ) → top < p → level_of p ≡ 0
level_free p h = rw (lt-ltb top p h)

level_live : (p : ℕ) → p ≤ top → level_of p ≡ p + 1
level_live p h = rw (le-ltb top p h)

module _ (t : List ℕ) where
  -- at the start, at a live cell, and at a number that is none
  largest_zero : largest_dim_below t 0 ≡ 0
  unfolding largest_dim_below
  largest_zero = refl

  largest_live : (m : ℕ) → live t m ≡ true → largest_dim_below t (suc m) ≡ max (largest_dim_below t m) (dim t m)
  unfolding largest_dim_below
  largest_live m e = rw e

  largest_free : (m : ℕ) → live t m ≡ false → largest_dim_below t (suc m) ≡ largest_dim_below t m
  unfolding largest_dim_below
  largest_free m e = rw e

  largest_grows : (m : ℕ) → largest_dim_below t m ≤ largest_dim_below t (suc m)
  largest_grows m =
      ⊎_elim
      (λ e. omega (arith, largest_live m e, le-max_left (largest_dim_below t m) (dim t m)))
      (λ e. omega (arith, largest_free m e))
      (true_or_false (live t m))

  -- no live cell exceeds it
  pub largest_bounds : (m c : ℕ) → c < m → live t c ≡ true → dim t c ≤ largest_dim_below t m
  largest_bounds zero c h e = absurd (not-suc-le-zero h)
  largest_bounds (suc m) c h e =
      at_or_below (λ s. live t s ≡ true → dim t s ≤ largest_dim_below t (suc m)) c m h
      (λ l. omega (arith, largest_live m l, le-max_right (largest_dim_below t m) (dim t m)))
      (λ l i. omega (arith, largest_bounds m c l i, largest_grows m))
      e

  -- a live cell has it, or no cell is live
  pub record Attained (m : ℕ) : Type 0 where
    pub cell : ℕ
    pub inside : cell < m
    pub living : live t cell ≡ true
    pub level : dim t cell ≡ largest_dim_below t m

  abbrev Bare : ℕ → Type 0
  Bare m = (some_has (live t) m ≡ false) × (largest_dim_below t m ≡ 0)

  at_bound : (m : ℕ) → live t m ≡ true → largest_dim_below t m ≤ dim t m → Attained (suc m)
  at_bound m e h =
      record { cell = m; inside = omega arith; living = e; level = sym (max-eq_right h) ∙ sym (largest_live m e) }

  stays : (m : ℕ) → Attained m → largest_dim_below t (suc m) ≡ largest_dim_below t m → Attained (suc m)
  stays m a e =
      record { cell = a.cell; inside = omega (arith, a.inside); living = a.living; level = a.level ∙ sym e }

  none_yet : some_has (live t) 0 ≡ false
  unfolding some_has
  none_yet = refl

  none_more : (m : ℕ) → live t m ≡ false → some_has (live t) (suc m) ≡ some_has (live t) m
  unfolding some_has
  none_more m e = rw e (or-false (some_has (live t) m))

  attained_or_bare : (m : ℕ) → Attained m ⊎ Bare m
  attained_or_bare zero = inr (none_yet, largest_zero)
  attained_or_bare (suc m) = go (true_or_false (live t m)) (attained_or_bare m) (below_or_not (dim t m) (largest_dim_below t m))
    where
      go : (live t m ≡ true) ⊎ (live t m ≡ false) → Attained m ⊎ Bare m → (dim t m < largest_dim_below t m) ⊎ (largest_dim_below t m ≤ dim t m) → Attained (suc m) ⊎ Bare (suc m)
      go (inl e) a (inr h) = inl (at_bound m e h)
      go (inl e) (inl a) (inl h) = inl (stays m a (largest_live m e ∙ max-eq_left (omega arith)))
      go (inl e) (inr b) (inl h) = absurd (omega (arith, b.1))
      go (inr e) (inl a) h = inl (stays m a (largest_free m e))
      go (inr e) (inr b) h = inr (none_more m e ∙ b.0, largest_free m e ∙ b.1)

  pub largest_attained : (m : ℕ) → some_has (live t) m ≡ true → Attained m
  largest_attained m e = ⊎_elim (λ a. a) (λ b. absurd (false≢true (sym b.0 ∙ e))) (attained_or_bare m)

  largest_bare : (m : ℕ) → some_has (live t) m ≡ false → largest_dim_below t m ≡ 0
  largest_bare m e =
      ⊎_elim
      (λ a. absurd (false≢true (sym (some_has_each (live t) m e a.cell a.inside) ∙ a.living)))
      (λ b. b.1)
      (attained_or_bare m)

  -- the levels at the start, at a live cell and at a number that is none
  pub levels_zero : levels_below t 0 ≡ 0
  unfolding levels_below
  levels_zero = refl

  levels_live : (m : ℕ) → live t m ≡ true → levels_below t (suc m) ≡ max (levels_below t m) (suc (dim t m))
  unfolding levels_below
  levels_live m e = rw e

  levels_free : (m : ℕ) → live t m ≡ false → levels_below t (suc m) ≡ levels_below t m
  unfolding levels_below
  levels_free m e = rw e

  -- one turn of the pass that finds them: the larger of those so far and the level of cell m
  levels_more : (m : ℕ) → m < cells_of t → levels_below t (m + 1) ≡ max (levels_below t m) (level_of (dim t m))
  levels_more m h =
      ⊎_elim
      (λ free.
      let dead : live t m ≡ false = not_true_false (live t m) (λ v. omega (arith, (live_true t m v).low)) in
      rw (add-one m, level_free (dim t m) free) (levels_free m dead ∙ sym (max-zero (levels_below t m))))
      (λ low.
      rw (add-one m, level_live (dim t m) low ∙ add-one (dim t m)) (levels_live m (live_says t m (record { inside = h; low = low }))))
      (below_or_not top (dim t m))

  -- as the pass takes it: l levels below cell m, of level q, become l'
  pub levels_turn : (m l p q l' : ℕ) → m < cells_of t → l ≡ levels_below t m → p ≡ dim t m → q ≡ level_of p → l' ≡ max l q → l' ≡ levels_below t (m + 1)
  levels_turn m l p q l' h e d lv i =
      i ∙ ap₂ max e (lv ∙ ap level_of d) ∙ sym (levels_more m h)

  pub levels_all : (l m n : ℕ) → n ≡ cells_of t → m ≤ n → n ≤ m → l ≡ levels_below t m → l ≡ levels_below t (cells_of t)
  levels_all l m n e h g i =
      let z : m ≡ cells_of t = omega arith in
      i ∙ ap (levels_below t) z

  -- they are one more than the largest dimension, and 0 where no cell is live
  level_cases : (m : ℕ) (b : Bool) → some_has (live t) m ≡ b → levels_below t m ≡ pick b (suc (largest_dim_below t m)) 0 → max (levels_below t m) (suc (dim t m)) ≡ suc (max (largest_dim_below t m) (dim t m))
  level_cases m true s e = ap (λ l. max l (suc (dim t m))) e ∙ suc-max-suc (largest_dim_below t m) (dim t m)
  level_cases m false s e =
      ap (λ l. max l (suc (dim t m))) e
      ∙ zero-max (suc (dim t m))
      ∙ ap suc (sym (zero-max (dim t m)) ∙ ap (λ l. max l (dim t m)) (sym (largest_bare m s)))

  pub levels_are : (m : ℕ) → levels_below t m ≡ pick (some_has (live t) m) (suc (largest_dim_below t m)) 0
  levels_are zero = rw none_yet levels_zero
  levels_are (suc m) = go (true_or_false (live t m)) (levels_are m)
    where
      go : (live t m ≡ true) ⊎ (live t m ≡ false) → levels_below t m ≡ pick (some_has (live t) m) (suc (largest_dim_below t m)) 0 → levels_below t (suc m) ≡ pick (some_has (live t) (suc m)) (suc (largest_dim_below t (suc m))) 0
      go (inl e) h =
          rw (some_has_at (live t) (suc m) m (omega arith) e, largest_live m e)
          (levels_live m e ∙ level_cases m (some_has (live t) m) refl h)
      go (inr e) h = rw (none_more m e, largest_free m e) (levels_free m e ∙ h)
