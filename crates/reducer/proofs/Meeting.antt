-- The reducer's evidence meets rules A and B, for all lawful cells, and so for every valid table.
-- What carries it: along the additions a row keeps its own cell, gets nothing above it, and only live cells of its dimension,
-- since two rows whose boundaries share a cell have one dimension. Where the rule stops, rule B holds. Assumes nothing.
use mathlib.Core.Path.{◌≡◌, refl, sym, ap, ap₂, subst, ◌∙◌}
use mathlib.Core.Bool.{true, false}
use mathlib.Core.List.{List}
use Prim.Native.Nat.{ℕ, zero, suc, ◌<◌}
use native.Mathlib.Omega.{arith}
use borrow.Author.Tests.{eq-eqb, eqb-true, ne_eqb}
use lib.Dec.{eqb}
use lib.ListN.{length, length-replicate}
use Rattle.homology.specs.Cells.{Cells, Lawful, ◌⊻◌}
use Rattle.homology.specs.Holes.{boundary}
use Rattle.homology.specs.Evidence.{RuleA, RuleB, Meets}
use Rattle.homology.proofs.Marks.{by_mark, clash, on_in_sum}
use Rattle.homology.proofs.Chains.{boundary_member}
use Rattle.bitset.specs.Bits.{member, sum_of}
use Rattle.bitset.proofs.Marks.{length_sum, length_toggled}
use Rattle.rows.specs.Rows.{row_width, row_of, rows}
use Rattle.rows.proofs.Members.{member_sum, member_one, member_zeros}
use Rattle.rows.proofs.Boundaries.{boundary_of_empty}
use Rattle.reducer.specs.Rule.{LargestOf, Additions, stop, add, alone, empty_row, RowByRule, ByRule}

-- ---- what needs no law

pub alone_width : (K : Cells) (c : ℕ) → length (alone K c) ≡ row_width K
unfolding alone
alone_width K c = simp (length_toggled, length-replicate)

alone_member : (K : Cells) (c : ℕ) → c < K.size → (s : ℕ) → member (alone K c) s ≡ eqb c s
unfolding alone
alone_member K c inside s = member_one (row_width K) c (omega arith) s

-- an empty row's boundary has no largest cell
pub empty_row_has_no_largest : (K : Cells) (x : List ℕ) (m : ℕ) → x ≡ empty_row K → LargestOf K x m → ⊥
empty_row_has_no_largest K x m e g =
    clash g.member (boundary_of_empty K (member x) (λ s. ap (λ (y : List ℕ). member y s) e ∙ member_zeros (row_width K) s) m)

-- where the rule stops, no earlier row's boundary has the same largest cell
additions_stop : (K : Cells) (ev : List ℕ) (c : ℕ) {x y : List ℕ} {n : ℕ} → Additions K ev c x n y → (b m : ℕ) → b < c → LargestOf K y m → LargestOf K (row_of K ev b) m → ⊥
additions_stop K ev c (stop none) = none
additions_stop K ev c (add b m l g h rest) = additions_stop K ev c rest

pub row_apart : (K : Cells) (ev : List ℕ) (c n : ℕ) → RowByRule K ev c n → (b m : ℕ) → b < c → LargestOf K (row_of K ev c) m → LargestOf K (row_of K ev b) m → ⊥
row_apart K ev c n row b m l g h = by_mark (K.live c)
    (λ e. additions_stop K ev c (row.live_row e) b m l g h)
    (λ e. empty_row_has_no_largest K (row_of K ev c) m (row.free_row e) g)

-- ---- rows on the way

-- c is in x, nothing above c, and only live cells of c's dimension
pub record OnTheWay (K : Cells) (c : ℕ) (x : List ℕ) : Type 0 where
  pub wide : length x ≡ row_width K
  pub own : member x c ≡ true
  pub highest : (s : ℕ) → c < s → member x s ≡ false
  pub alike : (s : ℕ) → member x s ≡ true → (K.live s ≡ true) × (K.dim s ≡ K.dim c)

pub first_on_the_way : (K : Cells) (c : ℕ) → c < K.size → K.live c ≡ true → OnTheWay K c (alone K c)
first_on_the_way K c inside living = record {
  wide = alone_width K c;
  own = alone_member K c inside c ∙ eq-eqb c c refl;
  highest = λ s l. alone_member K c inside s ∙ ne_eqb c s (λ e. omega arith);
  alike = λ s e.
      let q : c ≡ s = eqb-true c s (sym (alone_member K c inside s) ∙ e) in
      (subst (λ (u : ℕ). K.live u ≡ true) q living, ap K.dim (sym q));
}

module _ (K : Cells) (lawful : Lawful K) where
  -- a cell of the boundary is one dimension down
  pub boundary_level : (c : ℕ) (x : List ℕ) (m : ℕ) → OnTheWay K c x → boundary K (member x) m ≡ true → K.dim c ≡ suc (K.dim m)
  boundary_level c x m way e =
      let r = boundary_member K lawful (member x) m e in
      sym (way.alike r.0 r.1).1 ∙ r.2.one_down

  -- an earlier row whose boundary has the same largest cell is added
  pub sum_on_the_way : (c b m : ℕ) (x y : List ℕ) → b < c → LargestOf K x m → LargestOf K y m → OnTheWay K c x → OnTheWay K b y → OnTheWay K c (sum_of x y)
  sum_on_the_way c b m x y l g h way earlier = record {
    wide = length_sum x y ∙ way.wide;
    own = sum c ∙ ap₂ ◌⊻◌ way.own (earlier.highest c l);
    highest = λ s k. sum s ∙ ap₂ ◌⊻◌ (way.highest s k) (earlier.highest s (omega arith));
    alike = λ s e. on_in_sum (member x s) (member y s) (sym (sum s) ∙ e)
        (way.alike s)
        (λ k. ((earlier.alike s k).0, (earlier.alike s k).1 ∙ level));
  }
    where
      sum : (s : ℕ) → member (sum_of x y) s ≡ member x s ⊻ member y s
      sum = member_sum x y (way.wide ∙ sym earlier.wide)

      level : K.dim b ≡ K.dim c
      level = boundary_level b y m earlier h.member ∙ sym (boundary_level c x m way g.member)

  -- the rows below c that have a boundary are on the way; so are those to which they are added
  along : (ev : List ℕ) (c : ℕ) → ((b m : ℕ) → b < c → LargestOf K (row_of K ev b) m → OnTheWay K b (row_of K ev b)) → {x y : List ℕ} {n : ℕ} → Additions K ev c x n y → OnTheWay K c x → OnTheWay K c y
  along ev c below (stop none) way = way
  along ev c below (add {x} b m l g h rest) way =
      along ev c below rest (sum_on_the_way c b m x (row_of K ev b) l g h way (below b m l h))

  module _ (ev : List ℕ) (adds : ℕ → ℕ) (by : ByRule K ev adds) where
    -- by the rows below c, with n for how far it is known
    pub live_rows : (n c : ℕ) → c < n → c < K.size → K.live c ≡ true → OnTheWay K c (row_of K ev c)
    live_rows zero c l inside living = absurd (omega arith)
    live_rows (suc n) c l inside living = along ev c
        (λ b m k g. let h : b < K.size = omega arith in by_mark (K.live b)
        (live_rows n b (omega arith) h)
        (λ e. absurd (empty_row_has_no_largest K (row_of K ev b) m ((by.each b h).free_row e) g)))
        ((by.each c inside).live_row living)
        (first_on_the_way K c inside living)

    meets_a : (c : ℕ) → c < K.size → RuleA K (rows K ev) c
    unfolding rows
    meets_a c inside = record {
      free = λ e s. ap (λ (y : List ℕ). member y s) ((by.each c inside).free_row e) ∙ member_zeros (row_width K) s;
      own = λ e. (live_rows (suc c) c (omega arith) inside e).own;
      highest = λ e. (live_rows (suc c) c (omega arith) inside e).highest;
      alike = λ e. (live_rows (suc c) c (omega arith) inside e).alike;
    }

    meets_b : (c : ℕ) → c < K.size → RuleB K (rows K ev) c
    unfolding rows RuleB
    meets_b c inside b m l h g = row_apart K ev c (adds c) (by.each c inside) b m l g h

pub by_rule_meets : (K : Cells) (ev : List ℕ) (adds : ℕ → ℕ) → Lawful K → ByRule K ev adds → Meets K (rows K ev)
by_rule_meets K ev adds lawful by = record { rule_a = meets_a K lawful ev adds by; rule_b = meets_b K lawful ev adds by }
