-- The pass that fixes the new numbers: the first free number from one on, and the number that each marked cell is given.
-- What carries it: a free number after the k-th is the one of rank k + 1, and where there is no k-th there is none after it; and past
-- the last mark no more cells are counted. Assumes nothing.
use mathlib.Core.Path.{◌≡◌, sym, ap, ◌∙◌}
use mathlib.Core.Logic.{⊎_elim}
use mathlib.Core.Bool.{Bool, true, false, not, false≢true}
use mathlib.Core.List.{List}
use Prim.Native.Nat.{ℕ, zero, suc, ◌+◌, ◌-◌, ◌≤◌, ◌<◌}
use native.Mathlib.Omega.{arith}
use borrow.Author.Tests.{lt-ltb, le-ltb}
use lib.ListN.{length, get_or, set}
use lib.Seq.{get_or-set_same, get_or-set_other}
use Rattle.bitset.specs.Bits.{member}
use Rattle.table.specs.Table.{cells_of, live}
use Rattle.std.specs.Prelude.{Option, Some, None}
use Rattle.std.specs.Option.{ok_or}
use Rattle.calls.specs.declared.Refusal.{Refusal}
use Rattle.std.specs.List.{find, range_with_len}
use Rattle.counting.proofs.Cases.{below_or_not, same_or_other, true_or_false}
use Rattle.counting.specs.Counting.{how_many, nth}
use Rattle.counting.proofs.Counting.{how_many_zero, how_many_no, how_many_mono, how_many_yes_more, how_many_no_more, nth_none, nth_below, nth_has, nth_rank, rank_nth}
use Rattle.cone.specs.Cone.{free, apex_of, cone_of, new_cells, no_room}
use Rattle.calls.specs.declared.Refusal.TheVariants.{NoRoom}
use Rattle.std.specs.declared.result.Result.TheVariants.{Ok, Err}
use Prim.{tt}
use Rattle.cone.specs.declared.numbers.Numbers.{Numbers}
use Rattle.cone.specs.Parts.{free_from, Given, room_verdict}
use Rattle.cone.proofs.Acceptance.{MarksEnd}
use Rattle.cone.proofs.GivenNumbers.{not_live_free, live_not_free}

-- ---- the search for a free number

module _ (t : List ℕ) where
  -- the first of the k numbers from one on that is not live
  abbrev searched : ℕ → ℕ → Option ℕ
  searched from k = find (λ c. not (live t c)) (range_with_len from k)

  -- a live cell is passed over
  passes : (from : ℕ) → live t from ≡ true → free_from t (from + 1) ≡ free_from t from
  passes from e = ap (nth (free t) (cells_of t)) (how_many_no_more (free t) from (live_not_free t from e))

  free_found : (k from c : ℕ) → searched from k ≡ Some c → from + k ≤ cells_of t → (c ≡ free_from t from) × (c < cells_of t)
  free_found zero from c e h = let z : ◌≡◌ {A = ℕ} 0 1 = cc in absurd (omega arith)
  free_found (suc k) from c e h =
      ⊎_elim
      (λ alive.
      let r = free_found k (from + 1) c (sym (rw alive) ∙ e) (omega arith) in
      (r.0 ∙ passes from alive, r.1))
      (λ dead.
      let i : from ≡ c = cc (rw dead at e) in (
        sym i ∙ sym (rank_nth (free t) (cells_of t) from (omega arith) (not_live_free t from (omega arith) dead)),
        omega arith,
      ))
      (true_or_false (live t from))

  free_lacks : (k from : ℕ) → searched from k ≡ None → cells_of t ≤ from + k → free_from t from ≡ cells_of t
  free_lacks zero from e h =
      nth_none (free t) (cells_of t) (how_many (free t) from) (how_many_mono (free t) (cells_of t) from (omega arith))
  free_lacks (suc k) from e h =
      ⊎_elim
      (λ alive. sym (passes from alive) ∙ free_lacks k (from + 1) (sym (rw alive) ∙ e) (omega arith))
      (λ dead. let z : ◌≡◌ {A = ℕ} 0 1 = cc (rw dead at e) in absurd (omega arith))
      (true_or_false (live t from))

-- what the search answers, as the rule for the room has it
module _ (t : List ℕ) (from : ℕ) (inside : from ≤ cells_of t) where
  pub number_found : (o : Option ℕ) (c : ℕ) → o ≡ searched t from (cells_of t - from) → ok_or o NoRoom ≡ Ok c → (c ≡ free_from t from) × (c < cells_of t)
  number_found (Some x) c i e = free_found t (cells_of t - from) from c (sym i ∙ cc e) (omega (arith, inside))
  number_found None c i e = let z : ◌≡◌ {A = ℕ} 0 1 = cc e in absurd (omega arith)

  pub number_lacks : (o : Option ℕ) (r : Refusal) → o ≡ searched t from (cells_of t - from) → ok_or o NoRoom ≡ Err r → (r ≡ NoRoom) × (free_from t from ≡ cells_of t)
  number_lacks (Some x) r i e = let z : ◌≡◌ {A = ℕ} 0 1 = cc e in absurd (omega arith)
  number_lacks None r i e = (cc e, free_lacks t (cells_of t - from) from (sym i) (omega arith))

first_free : (t : List ℕ) → free_from t 0 ≡ apex_of t
unfolding apex_of
first_free t = ap (nth (free t) (cells_of t)) (how_many_zero (free t))

-- the number after the k-th
next_nth : (f : ℕ → Bool) (n k : ℕ) → nth f n (how_many f (nth f n k + 1)) ≡ nth f n (1 + k)
next_nth f n k =
    ⊎_elim
    (λ h.
    let e : how_many f (nth f n k + 1) ≡ 1 + k = omega (arith, how_many_yes_more f (nth f n k) (nth_has f n k h), nth_rank f n k h) in
    ap (nth f n) e)
    (λ h.
    let m = nth_none f n k h in
    nth_none f n (how_many f (nth f n k + 1)) (rw m (how_many_mono f n (n + 1) (omega arith)))
    ∙ sym (nth_none f n (1 + k) (omega arith)))
    (below_or_not k (how_many f n))

-- a number of a rank that there is lies inside
ranked : (f : ℕ → Bool) (n k : ℕ) → nth f n k < n → k < how_many f n
ranked f n k h = ⊎_elim (λ b. b) (λ b. absurd (omega (arith, h, nth_none f n k b))) (below_or_not k (how_many f n))

unranked : (f : ℕ → Bool) (n k : ℕ) → nth f n k ≡ n → how_many f n ≤ k
unranked f n k e = ⊎_elim (λ b. absurd (omega (arith, e, nth_below f n k b))) (λ b. b) (below_or_not k (how_many f n))

too_few : (t marks : List ℕ) → how_many (free t) (cells_of t) < 1 + how_many (member marks) (cells_of t) → Err NoRoom ≡ room_verdict t marks
unfolding no_room new_cells
too_few t marks h = sym (rw (lt-ltb (how_many (free t) (cells_of t)) (1 + how_many (member marks) (cells_of t)) h))

-- no number for the apex
pub apex_lacks : (t marks : List ℕ) → free_from t 0 ≡ cells_of t → Err NoRoom ≡ room_verdict t marks
apex_lacks t marks e =
    too_few t marks (omega (arith, unranked (free t) (cells_of t) (how_many (free t) 0) e, how_many_zero (free t)))

-- ---- the pass over the marked cells

-- the apex and the marked cells below s have their numbers, and `last` was given last
pub record Giving (t marks : List ℕ) (ns : Numbers) (last s : ℕ) : Type 0 where
  pub is_apex : ns.apex ≡ apex_of t
  pub low : last < cells_of t
  pub is_last : last ≡ nth (free t) (cells_of t) (how_many (member marks) s)
  pub given : (c : ℕ) → c < s → member marks c ≡ true → get_or ns.cones c 0 ≡ cone_of t marks c

pub giving_starts : (t marks : List ℕ) (ns : Numbers) → ns.apex ≡ free_from t 0 → ns.apex < cells_of t → Giving t marks ns ns.apex 0
unfolding apex_of
giving_starts t marks ns e h =
    record {
      is_apex = e ∙ first_free t;
      low = h;
      is_last = e ∙ first_free t ∙ ap (nth (free t) (cells_of t)) (sym (how_many_zero (member marks)));
      given = λ c h. absurd (omega arith);
    }

-- what holds below s and at s holds below s + 1
below_more : (P : ℕ → Type 0) (s : ℕ) → ((c : ℕ) → c < s → P c) → P s → (c : ℕ) → c < s + 1 → P c
below_more P s all here c h = same_or_other P c s here (λ ne. all c (omega (arith, ne)))

module _ (t marks : List ℕ) (ns : Numbers) (last s : ℕ) (so_far : Giving t marks ns last s) where
  next_given : free_from t (last + 1) ≡ nth (free t) (cells_of t) (1 + how_many (member marks) s)
  next_given =
      ap (λ (x : ℕ). free_from t (x + 1)) so_far.is_last
      ∙ next_nth (free t) (cells_of t) (how_many (member marks) s)

  pub giving_gives :
      (r : ℕ) → s < length ns.cones → member marks s ≡ true → (r ≡ free_from t (last + 1)) × (r < cells_of t) →
      Giving t marks (record { apex = ns.apex; cones = set ns.cones s r }) r (s + 1)
  unfolding cone_of
  giving_gives r inside marked next =
      record {
        is_apex = so_far.is_apex;
        low = next.1;
        is_last =
            next.0
            ∙ next_given
            ∙ ap (nth (free t) (cells_of t)) (omega (arith, how_many_yes_more (member marks) s marked));
        given =
            below_more (λ c. member marks c ≡ true → get_or (set ns.cones s r) c 0 ≡ cone_of t marks c) s
            (λ c h m. get_or-set_other ns.cones s c r 0 (λ e. omega arith) ∙ so_far.given c h m)
            (λ m. get_or-set_same ns.cones s r 0 inside ∙ next.0 ∙ next_given);
      }

  pub giving_passes : member marks s ≡ false → Giving t marks ns last (s + 1)
  giving_passes unmarked =
      record {
        is_apex = so_far.is_apex;
        low = so_far.low;
        is_last = rw (how_many_no_more (member marks) s unmarked) so_far.is_last;
        given =
            below_more (λ c. member marks c ≡ true → get_or ns.cones c 0 ≡ cone_of t marks c) s so_far.given
            (λ m. absurd (false≢true (sym unmarked ∙ m)));
      }

  -- no number for the marked cell s
  pub giving_lacks : s < cells_of t → member marks s ≡ true → free_from t (last + 1) ≡ cells_of t → Err NoRoom ≡ room_verdict t marks
  giving_lacks turn marked e =
      too_few t marks
      (omega (arith, unranked (free t) (cells_of t) (1 + how_many (member marks) s) (sym next_given ∙ e), how_many_yes_more (member marks) s marked, how_many_mono (member marks) (s + 1) (cells_of t) (omega arith)))

-- where the marks have ended, as many cells are marked as in all
unmarked : (f : ℕ → Bool) (e k : ℕ) → ((s : ℕ) → e ≤ s → f s ≡ false) → how_many f (k + e) ≡ how_many f e
unmarked f e zero none = ap (how_many f) (omega arith)
unmarked f e (suc k) none =
    ap (how_many f) (omega arith) ∙ how_many_no f (k + e) (none (k + e) (omega arith)) ∙ unmarked f e k none

pub marks_counted : (t marks : List ℕ) (s e : ℕ) → s ≡ e → MarksEnd t marks e → how_many (member marks) s ≡ how_many (member marks) (cells_of t)
marks_counted t marks s e i m =
    ap (how_many (member marks)) i
    ∙ sym (unmarked (member marks) e (cells_of t - e) m.none)
    ∙ ap (how_many (member marks)) (omega (arith, m.inside))

module _ (t marks : List ℕ) (ns : Numbers) (last s e : ℕ) (g : Giving t marks ns last s) (i : s ≡ e) (m : MarksEnd t marks e) where
  pub giving_room : (Ok tt) ≡ room_verdict t marks
  unfolding no_room new_cells
  giving_room =
      let k : ℕ = how_many (member marks) (cells_of t) in
      let l : last ≡ nth (free t) (cells_of t) k = g.is_last ∙ ap (nth (free t) (cells_of t)) (marks_counted t marks s e i m) in
      let r : k < how_many (free t) (cells_of t) = ranked (free t) (cells_of t) k (omega (arith, l, g.low)) in
      sym (rw (le-ltb (how_many (free t) (cells_of t)) (1 + k) (omega arith)))

  pub giving_ends : Given t marks ns
  giving_ends =
      record {
        is_apex = g.is_apex;
        at = λ c b marked.
            ⊎_elim
            (λ h. g.given c h marked)
            (λ h. absurd (false≢true (sym (m.none c (omega arith)) ∙ marked)))
            (below_or_not c s);
      }
