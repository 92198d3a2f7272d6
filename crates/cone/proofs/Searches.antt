-- The pass over the marks: what it knows before cell c, how it goes on at an unmarked and at a marked cell, and what it decides.
-- What carries it: a flag to which the test of each number is added says whether one of them has it, and nothing is marked past
-- the last mark, so what holds up to there holds to the end. Assumes nothing.
use mathlib.Core.Path.{◌≡◌, refl, sym, ◌∙◌}
use mathlib.Core.Bool.{Bool, true, false, ◌&&◌, ◌||◌, not, or-false}
use mathlib.Core.List.{List}
use mathlib.Core.Logic.{⊎_elim}
use Prim.Native.Nat.{ℕ, ◌+◌, ◌-◌, ◌*◌, ◌≤◌, ◌<◌}
use native.Mathlib.Numerals.{add-one}
use native.Mathlib.Omega.{arith}
use lib.ListN.{length}
use lib.Dec.{eqb}
use Rattle.bitset.specs.Bits.{bits, member, LargestIs, IsLargestIn}
use Rattle.std.specs.Prelude.{None}
use Rattle.bitset.proofs.Marks.{true_member, false_member}
use Rattle.table.specs.Kind.{top, used}
use Rattle.table.specs.Table.{cells_of, dim, live}
use Rattle.calls.specs.Calls.{verdict}
use Rattle.calls.specs.declared.Refusal.TheVariants.{NotLive, NotClosed, TopMarked}
use Rattle.std.specs.declared.result.Result.TheVariants.{Ok, Err}
use Prim.{tt}
use Rattle.counting.proofs.Cases.{below_or_not}
use Rattle.table.proofs.Records.{outside_dead}
use Rattle.counting.specs.Counting.{some_has, pick}
use Rattle.counting.proofs.Counting.{some_has_each, some_has_none, some_has_at, some_has_one}
use Rattle.cone.specs.Cone.{marked_not_live, not_closed, top_marked, mark_grounds}
use Rattle.cone.specs.Parts.{MarkedBelow, open_face}
use Rattle.cone.proofs.Acceptance.{member_inside}

-- A flag b that says whether a number below n has f: at the start, with the test r of n added, and where no number from n on has f.
module _ (f : ℕ → Bool) where
  pub flag_starts : false ≡ some_has f 0
  unfolding some_has
  flag_starts = refl

  pub flag_more : (n : ℕ) (b r : Bool) → b ≡ some_has f n → r ≡ f n → (b || r) ≡ some_has f (n + 1)
  unfolding some_has
  flag_more n b r i e = rw (add-one n, i, e)

  flag_ends : (n m : ℕ) (b : Bool) → n ≤ m → ((s : ℕ) → n ≤ s → f s ≡ false) → b ≡ some_has f n → some_has f m ≡ b
  flag_ends n m true h none i =
      let w = some_has_one f n (sym i) in
      some_has_at f m w.0 (omega (arith, w.1)) w.2
  flag_ends n m false h none i =
      some_has_none f m (λ s l. ⊎_elim (some_has_each f n (sym i) s) (none s) (below_or_not s n))

module _ (marks : List ℕ) where
  -- the largest mark is the last
  pub none_marked : LargestIs marks None → MarkedBelow marks 0
  none_marked h = record { inside = omega arith; last = λ l. absurd (omega arith); none = λ s l. false_member marks s (h s) }

  pub last_marked : (m : ℕ) → IsLargestIn marks m → MarkedBelow marks (m + 1)
  last_marked m h =
      record {
        inside = omega (arith, h.inside);
        last = λ l. let e : m + 1 - 1 ≡ m = omega arith in rw e (true_member marks m h.in_set);
        none = λ s l. false_member marks s (h.above s (omega arith));
      }

  -- b says whether a marked number below c has g
  module _ (g : ℕ → Bool) where
    abbrev marked_has : ℕ → Bool
    marked_has c = member marks c && g c

    at_unmarked : (c : ℕ) (b : Bool) → member marks c ≡ false → b ≡ some_has marked_has c → b ≡ some_has marked_has (c + 1)
    at_unmarked c b e i = sym (or-false b) ∙ flag_more marked_has c b false i (rw e)

    at_marked : (c : ℕ) (b r : Bool) → member marks c ≡ true → r ≡ g c → b ≡ some_has marked_has c → (b || r) ≡ some_has marked_has (c + 1)
    at_marked c b r e is i = flag_more marked_has c b r i (rw e is)

    at_last : (c n : ℕ) (b : Bool) → MarkedBelow marks c → c ≤ n → b ≡ some_has marked_has c → some_has marked_has n ≡ b
    at_last c n b m h i = flag_ends marked_has c n b h (λ s l. rw (m.none s l)) i

module _ (t marks : List ℕ) where
  -- the three tests of a marked cell
  abbrev dead : ℕ → Bool
  dead c = not (live t c)

  abbrev leaky : ℕ → Bool
  leaky c = some_has (open_face t marks c) (used (dim t c))

  abbrev topmost : ℕ → Bool
  topmost c = eqb (dim t c) top

  -- before cell c: every mark so far is on a live cell, and the flags say whether one is on a leaky cell, and on a topmost one
  pub record Passed (c : ℕ) (leaks tops : Bool) : Type 0 where
    pub all_live : false ≡ some_has (marked_has marks dead) c
    pub some_leaky : leaks ≡ some_has (marked_has marks leaky) c
    pub some_top : tops ≡ some_has (marked_has marks topmost) c

  pub pass_starts : Passed 0 false false
  pass_starts = record { all_live = flag_starts _; some_leaky = flag_starts _; some_top = flag_starts _ }

  module _ (c : ℕ) (leaks tops : Bool) (p : Passed c leaks tops) where
    pub pass_unmarked : member marks c ≡ false → Passed (c + 1) leaks tops
    pass_unmarked e =
        record {
          all_live = at_unmarked marks dead c false e p.all_live;
          some_leaky = at_unmarked marks leaky c leaks e p.some_leaky;
          some_top = at_unmarked marks topmost c tops e p.some_top;
        }

    -- r and d are what is read of cell c
    pub pass_marked : (r : Bool) (d : ℕ) → member marks c ≡ true → live t c ≡ true → r ≡ leaky c → d ≡ dim t c → Passed (c + 1) (leaks || r) (tops || eqb d top)
    pass_marked r d e alive is-r is-d =
        record {
          all_live = at_marked marks dead c false false e (rw alive) p.all_live;
          some_leaky = at_marked marks leaky c leaks r e is-r p.some_leaky;
          some_top = at_marked marks topmost c tops (eqb d top) e (rw is-d) p.some_top;
        }

  -- a mark on no live cell refuses, and so does a last mark past the cells
  pub dead_refused : (c : ℕ) → member marks c ≡ true → live t c ≡ false → Err NotLive ≡ verdict (mark_grounds t marks)
  unfolding marked_not_live
  dead_refused c e d =
      sym (rw (some_has_at (marked_has marks dead) (bits * length marks) c (member_inside marks c e) (rw (e, d))))

  pub past_refused : (e : ℕ) → MarkedBelow marks e → cells_of t < e → Err NotLive ≡ verdict (mark_grounds t marks)
  past_refused e m h = dead_refused (e - 1) (m.last (omega arith)) (sym (outside_dead t (e - 1) (omega arith)))

  -- past the last mark the flags decide
  abbrev pub Decides : Bool → Bool → Type 0
  Decides leaks tops = verdict (mark_grounds t marks) ≡ pick leaks (Err NotClosed) (pick tops (Err TopMarked) (Ok tt))

  pub pass_ends : (c e : ℕ) (leaks tops : Bool) → c ≡ e → MarkedBelow marks e → e ≤ cells_of t → Passed c leaks tops → Decides leaks tops
  unfolding marked_not_live not_closed top_marked
  pass_ends c e leaks tops i m h p =
      let k : MarkedBelow marks c = rw i m in
      rw (
        at_last marks dead c (bits * length marks) false k k.inside p.all_live,
        at_last marks leaky c (cells_of t) leaks k (omega arith) p.some_leaky,
        at_last marks topmost c (cells_of t) tops k (omega arith) p.some_top,
      )
