-- The numbers that an accepted cone gives out: the apex is the lowest free number, the cone of s has below it the apex and the
-- cones of the marked cells below s, and each number given out but the apex is the cone of its base.
-- What carries it: rank and pick undo each other (`Counting`), and there are as many free numbers as are given out.
-- Assumes nothing.
use mathlib.Core.Path.{◌≡◌, refl, sym, ap, ◌∙◌}
use mathlib.Core.Bool.{true, false, not, false≢true}
use mathlib.Core.List.{List}
use mathlib.Core.Logic.{⊎_elim}
use Prim.Native.Nat.{ℕ, ◌+◌, ◌-◌, ◌<◌}
use native.Mathlib.Omega.{arith}
use borrow.Author.Tests.{lt-ltb, ltb-true, not-true}
use lib.Dec.{ltb}
use Rattle.bitset.specs.Bits.{member}
use Rattle.table.specs.Table.{cells_of, live}
use Rattle.counting.specs.Counting.{how_many, nth}
use Rattle.cone.specs.Cone.{free, apex_of, cone_of, base_of, new_cells, given}
use Rattle.counting.proofs.Cases.{true_or_false, and_both, and_left, and_right}
use Rattle.counting.proofs.Counting.{how_many_strict, nth_has, nth_rank, rank_nth, nth_rising, same_rank, rank_inside}
use Rattle.cone.proofs.Acceptance.{Accepts}

-- a free number lies inside and is not live,
pub free_inside : (t : List ℕ) (c : ℕ) → free t c ≡ true → c < cells_of t
unfolding free
free_inside t c e = ltb-true c (cells_of t) (and_left (ltb c (cells_of t)) (not (live t c)) e)

pub free_not_live : (t : List ℕ) (c : ℕ) → free t c ≡ true → live t c ≡ false
unfolding free
free_not_live t c e = not-true (live t c) (and_right (ltb c (cells_of t)) (not (live t c)) e)

-- and one inside that is not live is free
pub not_live_free : (t : List ℕ) (c : ℕ) → c < cells_of t → live t c ≡ false → free t c ≡ true
unfolding free
not_live_free t c h e = and_both (ltb c (cells_of t)) (not (live t c)) (lt-ltb c (cells_of t) h) (ap not e)

pub live_not_free : (t : List ℕ) (c : ℕ) → live t c ≡ true → free t c ≡ false
live_not_free t c e =
    ⊎_elim
    (λ f. absurd (false≢true (sym (free_not_live t c f) ∙ e)))
    (λ f. f)
    (true_or_false (free t c))

module _ (t marks : List ℕ) (a : Accepts t marks) where
  new_cells_lem : new_cells t marks ≡ 1 + how_many (member marks) (cells_of t)
  unfolding new_cells
  new_cells_lem = refl

  -- the rank that the cone of s has among the free numbers is one of those given out
  rank_given : (s : ℕ) → member marks s ≡ true → 1 + how_many (member marks) s < new_cells t marks
  rank_given s m =
      omega (arith, new_cells_lem, how_many_strict (member marks) s (cells_of t) (a.marked_live s m).inside m)

  rank_free : (s : ℕ) → member marks s ≡ true → 1 + how_many (member marks) s < how_many (free t) (cells_of t)
  rank_free s m = omega (arith, rank_given s m, a.room)

  some_free : 0 < how_many (free t) (cells_of t)
  some_free = omega (arith, new_cells_lem, a.room)

  -- the apex
  pub apex_is_free : free t (apex_of t) ≡ true
  unfolding apex_of
  apex_is_free = nth_has (free t) (cells_of t) 0 some_free

  pub apex_rank : how_many (free t) (apex_of t) ≡ 0
  unfolding apex_of
  apex_rank = nth_rank (free t) (cells_of t) 0 some_free

  pub apex_is_lowest : (c : ℕ) → c < apex_of t → free t c ≡ false
  apex_is_lowest c h =
      ⊎_elim
      (λ f. absurd (omega (arith, apex_rank, how_many_strict (free t) c (apex_of t) h f)))
      (λ f. f)
      (true_or_false (free t c))

  pub apex_given : given t marks (apex_of t) ≡ true
  apex_given =
      and_both (free t (apex_of t)) (ltb (how_many (free t) (apex_of t)) (new_cells t marks)) apex_is_free
      (lt-ltb (how_many (free t) (apex_of t)) (new_cells t marks) (omega (arith, apex_rank, new_cells_lem)))

  -- the cone of s
  pub cone_is_free : (s : ℕ) → member marks s ≡ true → free t (cone_of t marks s) ≡ true
  unfolding cone_of
  cone_is_free s m = nth_has (free t) (cells_of t) (1 + how_many (member marks) s) (rank_free s m)

  pub cone_rank : (s : ℕ) → member marks s ≡ true → how_many (free t) (cone_of t marks s) ≡ 1 + how_many (member marks) s
  unfolding cone_of
  cone_rank s m = nth_rank (free t) (cells_of t) (1 + how_many (member marks) s) (rank_free s m)

  pub cone_given : (s : ℕ) → member marks s ≡ true → given t marks (cone_of t marks s) ≡ true
  cone_given s m =
      and_both (free t (cone_of t marks s)) (ltb (how_many (free t) (cone_of t marks s)) (new_cells t marks)) (cone_is_free s m)
      (lt-ltb (how_many (free t) (cone_of t marks s)) (new_cells t marks) (omega (arith, cone_rank s m, rank_given s m)))

  pub apex_below_cone : (s : ℕ) → member marks s ≡ true → apex_of t < cone_of t marks s
  unfolding apex_of cone_of
  apex_below_cone s m =
      nth_rising (free t) (cells_of t) 0 (1 + how_many (member marks) s) (omega arith) (rank_free s m)

  pub cones_rise : (s c : ℕ) → member marks s ≡ true → member marks c ≡ true → c < s → cone_of t marks c < cone_of t marks s
  unfolding cone_of
  cones_rise s c m k h =
      nth_rising (free t) (cells_of t) (1 + how_many (member marks) c) (1 + how_many (member marks) s)
      (omega (arith, how_many_strict (member marks) c s h k))
      (rank_free s m)

  pub base_of_cone : (s : ℕ) → member marks s ≡ true → base_of t marks (cone_of t marks s) ≡ s
  unfolding base_of
  base_of_cone s m =
      let r : how_many (free t) (cone_of t marks s) - 1 ≡ how_many (member marks) s = omega (arith, cone_rank s m) in
      ap (nth (member marks) (cells_of t)) r ∙ rank_nth (member marks) (cells_of t) s (a.marked_live s m).inside m

  -- a number given out that is not the apex
  module _ (c : ℕ) (f : free t c ≡ true) (g : how_many (free t) c < new_cells t marks) (other : c ≡ apex_of t → ⊥) where
    -- is not of rank 0,
    later_rank : 0 < how_many (free t) c
    later_rank =
        let z : (how_many (free t) c ≡ 0 → ⊥) = λ e. other (same_rank (free t) c (apex_of t) f apex_is_free (e ∙ sym apex_rank)) in
        omega arith

    base_exists : how_many (free t) c - 1 < how_many (member marks) (cells_of t)
    base_exists = omega (arith, later_rank, new_cells_lem)

    -- so its base is marked and has the rank that is one less,
    pub base_marked : member marks (base_of t marks c) ≡ true
    unfolding base_of
    base_marked = nth_has (member marks) (cells_of t) (how_many (free t) c - 1) base_exists

    base_rank : 1 + how_many (member marks) (base_of t marks c) ≡ how_many (free t) c
    unfolding base_of
    base_rank =
        omega (arith, later_rank, nth_rank (member marks) (cells_of t) (how_many (free t) c - 1) base_exists)

    -- and it is its base's cone.
    pub cone_of_base : cone_of t marks (base_of t marks c) ≡ c
    unfolding cone_of
    cone_of_base = ap (nth (free t) (cells_of t)) base_rank ∙ rank_nth (free t) (cells_of t) c (free_inside t c f) f

  -- every free number below the cone of s that is not the apex is the cone of a marked cell below s
  module _ (s c : ℕ) (m : member marks s ≡ true) (f : free t c ≡ true) (below : c < cone_of t marks s) (other : c ≡ apex_of t → ⊥) where
    below_rank : how_many (free t) c < 1 + how_many (member marks) s
    below_rank = omega (arith, cone_rank s m, how_many_strict (free t) c (cone_of t marks s) below f)

    pub below_given : how_many (free t) c < new_cells t marks
    below_given = omega (arith, below_rank, rank_given s m)

    pub base_before : base_of t marks c < s
    base_before =
        rank_inside (member marks) (base_of t marks c) s
        (omega (arith, base_rank c f below_given other, below_rank))
