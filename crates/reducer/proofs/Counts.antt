-- The additions by dimension: none at first, one row's more a turn, and a bound that a count of 64 bits holds.
-- What carries it: the sum over the cells, one cell more. Assumes nothing.
use mathlib.Core.Path.{◌≡◌, refl, sym, ap, ap₂, ◌∙◌, fun_ext}
use mathlib.Core.Logic.{by_cases}
use mathlib.Core.Bool.{Bool, true, false, ◌&&◌}
use mathlib.Core.List.{List}
use Prim.Native.Nat.{ℕ, zero, suc, ◌+◌, ◌*◌, ◌≤◌, ◌<◌}
use native.Mathlib.Decide.{ℕ_discrete, dec_lt}
use native.Mathlib.Omega.{arith}
use borrow.Author.Tests.{eq-eqb, ne_eqb}
use lib.Dec.{eqb}
use lib.ListN.{length, get_or, set, replicate, length-set, get_or-eq_default}
use lib.Seq.{ext_get_or, get_or-set_same, get_or-set_other}
use Rattle.homology.specs.Cells.{Cells}
use Rattle.homology.proofs.Marks.{by_mark}
use Rattle.counting.specs.Counting.{pick, listed}
use Rattle.table.specs.Kind.{capacity, dimensions}
use Rattle.counting.proofs.Listed.{length_listed, get_or_listed}
use Rattle.reducer.specs.Rule.{additions_in}
use Rattle.reducer.specs.Reduce.{counts}
use Rattle.reducer.proofs.OneOutcome.{counted_alike}

-- the additions of cell c are n, those of the others as before
abbrev pub with_row : (ℕ → ℕ) → ℕ → ℕ → ℕ → ℕ
with_row adds c n b = pick (eqb b c) n (adds b)

pub with_row_here : (adds : ℕ → ℕ) (c n : ℕ) → with_row adds c n c ≡ n
with_row_here adds c n = ap (λ (x : Bool). pick x n (adds c)) (eq-eqb c c refl)

pub with_row_there : (adds : ℕ → ℕ) (c n b : ℕ) → (b ≡ c → ⊥) → with_row adds c n b ≡ adds b
with_row_there adds c n b apart = ap (λ (x : Bool). pick x n (adds b)) (ne_eqb b c apart)

-- one cell more
row_counted : (K : Cells) (adds : ℕ → ℕ) (p c n : ℕ) → additions_in K (with_row adds c n) p (suc c) ≡ additions_in K adds p c + pick (K.live c && eqb (K.dim c) p) n 0
unfolding additions_in
row_counted K adds p c n =
    ap₂ (λ (a b : ℕ). a + pick (K.live c && eqb (K.dim c) p) b 0)
    (counted_alike K (with_row adds c n) adds p c (λ b l. with_row_there adds c n b (λ e. omega arith)))
    (with_row_here adds c n)

pub additions_few : (K : Cells) (adds : ℕ → ℕ) (p n : ℕ) → ((b : ℕ) → b < n → adds b ≤ capacity) → additions_in K adds p n ≤ capacity * n
unfolding additions_in
additions_few K adds p zero few = omega arith
additions_few K adds p (suc n) few =
    let before : additions_in K adds p n ≤ capacity * n = additions_few K adds p n (λ b l. few b (omega arith)) in
    let last : adds n ≤ capacity = few n (omega arith) in
    by_mark (K.live n && eqb (K.dim n) p) (λ e. rw e (omega arith)) (λ e. rw e (omega arith))

pub count_at : (f : ℕ → ℕ) (p : ℕ) → p < dimensions → get_or (counts f) p 0 ≡ f p
count_at f p h = get_or_listed dimensions f p h

-- no count is larger than m where no number is, and past the last there is none
pub counts_at_most : (f : ℕ → ℕ) (m : ℕ) → ((p : ℕ) → f p ≤ m) → (p : ℕ) → get_or (counts f) p 0 ≤ m
counts_at_most f m most p = by_cases (dec_lt p dimensions)
    (λ h. omega (arith, count_at f p h, most p))
    (λ past. let none : get_or (counts f) p 0 ≡ 0 = get_or-eq_default (counts f) 0 (omega (arith, length_listed dimensions f)) in omega arith)

-- no additions before the first cell
pub counts_none : (K : Cells) (adds : ℕ → ℕ) → replicate dimensions 0 ≡ counts (λ p. additions_in K adds p 0)
unfolding listed additions_in
counts_none K adds = refl

-- a free number has no additions
pub counts_free : (K : Cells) (adds : ℕ → ℕ) (c : ℕ) → K.live c ≡ false → counts (λ p. additions_in K adds p c) ≡ counts (λ p. additions_in K (with_row adds c 0) p (suc c))
counts_free K adds c free = ap counts (fun_ext (λ p.
    sym (row_counted K adds p c 0 ∙ ap (λ (x : Bool). additions_in K adds p c + pick (x && eqb (K.dim c) p) 0 0) free ∙ omega arith)))

-- a live cell's additions go to its dimension
pub counts_live : (K : Cells) (adds : ℕ → ℕ) (c n : ℕ) (l : List ℕ) → K.live c ≡ true → K.dim c < dimensions → l ≡ counts (λ p. additions_in K adds p c)
    → set l (K.dim c) (get_or l (K.dim c) 0 + n) ≡ counts (λ p. additions_in K (with_row adds c n) p (suc c))
counts_live K adds c n l living low is = ext_get_or 0 (set l d v) (counts new) (long ∙ sym (length_listed dimensions new)) (λ p h. at p (omega (arith, long)))
  where
    d : ℕ
    d = K.dim c

    old : ℕ → ℕ
    old p = additions_in K adds p c

    new : ℕ → ℕ
    new p = additions_in K (with_row adds c n) p (suc c)

    v : ℕ
    v = get_or l d 0 + n

    wide : length l ≡ dimensions
    wide = ap length is ∙ length_listed dimensions old

    long : length (set l d v) ≡ dimensions
    long = length-set l d v ∙ wide

    was : (p : ℕ) → p < dimensions → get_or l p 0 ≡ old p
    was p h = ap (λ (x : List ℕ). get_or x p 0) is ∙ count_at old p h

    now : (p : ℕ) → new p ≡ old p + pick (eqb d p) n 0
    now p = row_counted K adds p c n ∙ ap (λ (x : Bool). old p + pick (x && eqb d p) n 0) living

    at : (p : ℕ) → p < dimensions → get_or (set l d v) p 0 ≡ get_or (counts new) p 0
    at p h = by_cases (ℕ_discrete p d)
        (λ e. ap (λ (q : ℕ). get_or (set l d v) q 0) e
        ∙ get_or-set_same l d v 0 (omega (arith, wide))
        ∙ ap (λ (x : ℕ). x + n) (was d low)
        ∙ sym (ap new e ∙ now d ∙ ap (λ (x : Bool). old d + pick x n 0) (eq-eqb d d refl))
        ∙ sym (count_at new p h))
        (λ apart. get_or-set_other l d p v 0 apart
        ∙ was p h
        ∙ sym (now p ∙ ap (λ (x : Bool). old p + pick x n 0) (ne_eqb d p (λ e. apart (sym e))) ∙ omega arith)
        ∙ sym (count_at new p h))
