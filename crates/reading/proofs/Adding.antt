-- One cell is added place by place: what stands in the result after each place, and that no sum leaves 64 bits.
-- What carries it: a place changes the number at its face alone, and adds no more than the coefficient. Assumes nothing.
use mathlib.Core.Path.{◌≡◌, refl, sym, ap, subst, ◌∙◌}
use mathlib.Core.Bool.{Bool, true, false}
use mathlib.Core.List.{List}
use mathlib.Core.Logic.{⊎_elim}
use Prim.Native.Nat.{ℕ, ◌+◌, ◌*◌, ◌%◌, ◌≤◌, ◌<◌}
use native.Mathlib.Nat.{mul-le-mul}
use native.Mathlib.Omega.{arith}
use borrow.Author.Tests.{eq-eqb, ne_eqb}
use lib.ListN.{length, get_or, set, length-set}
use lib.Seq.{get_or-set_same, get_or-set_other}
use lib.IntN.{ℤ, pos, neg_ℤ, nat_abs, ◌+ℤ◌, +ℤ_assoc, +ℤ_idr}
use lib.Dec.{eqb}
use mir.Syntax.{w64}
use mir.Val.{SFits}
use Rattle.counting.specs.Counting.{pick}
use Rattle.table.specs.Kind.{faces}
use Rattle.table.specs.Table.{face}
use Rattle.counting.proofs.Cases.{same_or_not}
use Rattle.reading.specs.Sums.{sum_to, integers}
use Rattle.reading.specs.Boundary.{limit, turned, place_adds}
use Rattle.reading.specs.Steps.{put, added, Adding}
use Rattle.reading.proofs.SumLaws.{sum_none, sum_next}
use Rattle.reading.proofs.Sizes.{size_add, size_minus, size_sum, fits_below}
use Rattle.reading.proofs.Registers.{back, back_is}
use Rattle.reading.proofs.Lists.{is_integers}

-- the sign of a place keeps the size
turned_by : (b : Bool) (z : ℤ) → nat_abs (pick b z (neg_ℤ z)) ≡ nat_abs z
turned_by true z = refl
turned_by false z = size_minus z

size_turned : (j : ℕ) (z : ℤ) → nat_abs (turned j z) ≡ nat_abs z
unfolding turned
size_turned j z = turned_by (eqb (j % 2) 0) z

place_by : (b : Bool) (y : ℤ) → nat_abs (pick b y (pos 0)) ≤ nat_abs y
place_by true y = omega arith
place_by false y = omega arith

size_place : (t : List ℕ) (c : ℕ) (z : ℤ) (u j : ℕ) → nat_abs (place_adds t c z u j) ≤ nat_abs z
unfolding place_adds
size_place t c z u j =
    subst (λ (n : ℕ). nat_abs (pick (eqb (face t c j) u) (turned j z) (pos 0)) ≤ n) (size_turned j z)
    (place_by (eqb (face t c j) u) (turned j z))

-- the first m places of a cell add no more than m times its coefficient
pub size_places : (t : List ℕ) (c : ℕ) (z : ℤ) (u m : ℕ) → nat_abs (sum_to m (place_adds t c z u)) ≤ m * nat_abs z
size_places t c z u m = size_sum m (nat_abs z) (place_adds t c z u) (λ j l. size_place t c z u j)

module _ (t : List ℕ) (c : ℕ) (z : ℤ) (y₀ : List ℤ) where
  pub added_none : (u : ℕ) → get_or y₀ u (pos 0) ≡ added t c z y₀ 0 u
  unfolding added
  added_none u = sym (ap (λ (w : ℤ). get_or y₀ u (pos 0) +ℤ w) (sum_none (place_adds t c z u)) ∙ +ℤ_idr (get_or y₀ u (pos 0)))

  added_next : (m u : ℕ) → added t c z y₀ (m + 1) u ≡ added t c z y₀ m u +ℤ place_adds t c z u m
  unfolding added
  added_next m u =
      ap (λ (w : ℤ). get_or y₀ u (pos 0) +ℤ w) (sum_next m (place_adds t c z u))
      ∙ sym (+ℤ_assoc (get_or y₀ u (pos 0)) (sum_to m (place_adds t c z u)) (place_adds t c z u m))

  place_here : (m u : ℕ) → face t c m ≡ u → place_adds t c z u m ≡ turned m z
  unfolding place_adds
  place_here m u e = rw (eq-eqb (face t c m) u e)

  place_there : (m u : ℕ) → (face t c m ≡ u → ⊥) → place_adds t c z u m ≡ pos 0
  unfolding place_adds
  place_there m u h = rw (ne_eqb (face t c m) u h)

  size_added : (m u : ℕ) → nat_abs (added t c z y₀ m u) ≤ nat_abs (get_or y₀ u (pos 0)) + m * nat_abs z
  unfolding added
  size_added m u =
      omega (arith, size_add (get_or y₀ u (pos 0)) (sum_to m (place_adds t c z u)), size_places t c z u m)

  -- one place more, at which f stands
  module _ {k : ℕ} (a : Adding t c k z y₀) (y : List ℤ) (m f : ℕ) (h : m < k) (at : f ≡ face t c m) (long : length y ≡ length y₀) (so_far : (u : ℕ) → u < length y → get_or y u (pos 0) ≡ added t c z y₀ m u) where
    place_inside : f < length y
    place_inside = omega (arith, a.faces_inside m h)

    -- the sum there fits, since the places so far have added at most seven coefficients
    place_fits : SFits w64 (get_or y f (pos 0) +ℤ turned m z)
    place_fits =
        let few : m * nat_abs z ≤ faces * limit = mul-le-mul {n₁ = m} {m₁ = nat_abs z} {n₂ = faces} {m₂ = limit} (omega (arith, a.places)) a.small in
        let old : nat_abs (get_or y f (pos 0)) ≤ nat_abs (get_or y₀ f (pos 0)) + m * nat_abs z = subst (λ (w : ℤ). nat_abs w ≤ nat_abs (get_or y₀ f (pos 0)) + m * nat_abs z) (sym (so_far f place_inside)) (size_added m f) in
        fits_below (get_or y f (pos 0) +ℤ turned m z)
        (omega (arith, size_add (get_or y f (pos 0)) (turned m z), size_turned m z, a.small, a.room f))

    -- so the place can be added,
    pub place_allowed : (f < length y) × SFits w64 (get_or y f (pos 0) +ℤ turned m z)
    place_allowed = (place_inside, place_fits)

    place_puts : (u : ℕ) → u < length y → get_or (put y f m z) u (pos 0) ≡ added t c z y₀ (m + 1) u
    place_puts u l =
        let new : ℤ = get_or y f (pos 0) +ℤ turned m z in
        ⊎_elim
        (λ e.
        subst (λ (k : ℕ). get_or (set y f new) k (pos 0) ≡ new) e (get_or-set_same y f new (pos 0) place_inside)
        ∙ ap (λ (w : ℤ). w +ℤ turned m z) (so_far f place_inside ∙ ap (added t c z y₀ m) e)
        ∙ ap (λ (w : ℤ). added t c z y₀ m u +ℤ w) (sym (place_here m u (sym at ∙ e)))
        ∙ sym (added_next m u))
        (λ ne.
        get_or-set_other y f u new (pos 0) (λ q. ne (sym q))
        ∙ so_far u l
        ∙ sym (+ℤ_idr (added t c z y₀ m u))
        ∙ ap (λ (w : ℤ). added t c z y₀ m u +ℤ w) (sym (place_there m u (λ q. ne (at ∙ q))))
        ∙ sym (added_next m u))
        (same_or_not f u)

    put_long : (y' : List ℤ) → y' ≡ put y f m z → length y' ≡ length y₀
    put_long y' e = ap length e ∙ length-set y f (get_or y f (pos 0) +ℤ turned m z) ∙ long

    -- and then it is
    pub place_done : (y' : List ℤ) → y' ≡ put y f m z → (u : ℕ) → u < length y' → get_or y' u (pos 0) ≡ added t c z y₀ (m + 1) u
    place_done y' e u l = ap (λ (w : List ℤ). get_or w u (pos 0)) e ∙ place_puts u (omega (arith, put_long y' e))

-- the coefficient comes back from its register as it was
pub adding_back : {t : List ℕ} {c k : ℕ} {x : ℤ} {y₀ : List ℤ} → SFits w64 x → Adding t c k x y₀ → Adding t c k (back x) y₀
adding_back {t} {c} {k} {x} {y₀} f a = subst (λ (z : ℤ). Adding t c k z y₀) (sym (back_is x f)) a

-- all places
pub all_added : (t : List ℕ) (c k m : ℕ) (x : ℤ) (y₀ y : List ℤ) → SFits w64 x → m ≤ k → k ≤ m → length y ≡ length y₀ → ((u : ℕ) → u < length y → get_or y u (pos 0) ≡ added t c (back x) y₀ m u) → y ≡ integers (length y₀) (added t c x y₀ k)
all_added t c k m x y₀ y f h l long so_far =
    let e : m ≡ k = omega arith in
    is_integers (length y₀) (added t c x y₀ k) y long
    (λ u i. so_far u (omega arith) ∙ ap (λ (z : ℤ). added t c z y₀ m u) (back_is x f) ∙ ap (λ (n : ℕ). added t c x y₀ n u) e)
