-- The test of rule A over the words of a row: what it says of each member, and a free number's row.
-- What carries it: what is in a row has its word. Assumes nothing.
use mathlib.Core.Path.{◌≡◌, refl, sym}
use mathlib.Core.Bool.{Bool, true, false, not, ◌&&◌, ◌||◌}
use mathlib.Core.List.{List}
use Prim.Native.Nat.{ℕ, ◌*◌, ◌^◌, ◌≤◌, ◌<◌}
use native.Mathlib.Omega.{arith}
use borrow.Author.Tests.{eq-eqb, le-leb, eqb-true, leb-true}
use lib.Dec.{eqb, leb}
use lib.ListN.{length, get_or}
use Rattle.counting.proofs.Cases.{and_both, and_left, and_right, not_true_false}
use Rattle.homology.specs.Cells.{Cells}
use Rattle.homology.proofs.Marks.{clash}
use Rattle.bitset.specs.Bits.{bits, member, nothing_in}
use Rattle.bitset.proofs.Marks.{member_false, false_member}
use Rattle.bitset.proofs.Words.{nothing_in_marks, marks_nothing_in}
use Rattle.table.specs.Kind.{top}
use Rattle.counting.specs.Counting.{all}
use Rattle.complex.specs.View.{View, Frame}
use Rattle.counting.proofs.Tests.{all_true, all_says}
use Rattle.rows.proofs.Members.{member_inside}
use Rattle.checker.specs.Row.{row_keeps}

-- ---- tests

-- a test that is asked only where another holds
or_off : (a b : Bool) → (not a || b) ≡ true → a ≡ true → b ≡ true
or_off true b e h = e
or_off false b e h = clash h refl

or_on : (a b : Bool) → (a ≡ true → b ≡ true) → (not a || b) ≡ true
or_on true b h = h refl
or_on false b h = refl

-- two tests that pass together are equal
pub same_test : (a b : Bool) → (a ≡ true → b ≡ true) → (b ≡ true → a ≡ true) → a ≡ b
same_test true b f g = sym (f refl)
same_test false b f g = sym (not_true_false b (λ e. clash (g e) refl))

-- a number above the largest dimension is free
pub free_number : (v : View) → Frame v → (c p : ℕ) → p ≡ v.dim c → top < p → v.live c ≡ false
free_number v frame c p e l = not_true_false (v.live c) (λ on. omega (arith, frame.low c on))

-- ---- what rule A asks of a member

abbrev pub fits : Cells → ℕ → ℕ → Bool
fits K c s = K.live c && (leb s c && (K.live s && eqb (K.dim s) (K.dim c)))

pub record Fitting (K : Cells) (c s : ℕ) : Type 0 where
  pub cell_live : K.live c ≡ true
  pub low : s ≤ c
  pub member_live : K.live s ≡ true
  pub level : K.dim s ≡ K.dim c

fits_says : (K : Cells) (c s : ℕ) → fits K c s ≡ true → Fitting K c s
fits_says K c s e =
    let a : Bool = K.live s && eqb (K.dim s) (K.dim c) in
    let r = and_right (K.live c) (leb s c && a) e in
    let q = and_right (leb s c) a r in
    record {
      cell_live = and_left (K.live c) (leb s c && a) e;
      low = leb-true s c (and_left (leb s c) a r);
      member_live = and_left (K.live s) (eqb (K.dim s) (K.dim c)) q;
      level = eqb-true (K.dim s) (K.dim c) (and_right (K.live s) (eqb (K.dim s) (K.dim c)) q);
    }

fitting_fits : (K : Cells) (c s : ℕ) → Fitting K c s → fits K c s ≡ true
fitting_fits K c s f =
    and_both _ _ f.cell_live (and_both _ _ (le-leb s c f.low) (and_both _ _ f.member_live (eq-eqb (K.dim s) (K.dim c) f.level)))

-- ---- a row

module _ (K : Cells) (c : ℕ) (row : List ℕ) where
  abbrev member_keeps : ℕ → Bool
  member_keeps s = not (member row s) || fits K c s

  pub kept_members : row_keeps K c row ≡ true → (s : ℕ) → member row s ≡ true → Fitting K c s
  unfolding row_keeps
  kept_members e s m =
      fits_says K c s (or_off (member row s) (fits K c s)
      (all_true member_keeps (bits * length row) (and_left (all (bits * length row) member_keeps) (not (K.live c) || member row c) e) s (member_inside row s m)) m)

  pub kept_own : row_keeps K c row ≡ true → K.live c ≡ true → member row c ≡ true
  unfolding row_keeps
  kept_own e h = or_off (K.live c) (member row c) (and_right (all (bits * length row) member_keeps) (not (K.live c) || member row c) e) h

  pub members_kept : ((s : ℕ) → member row s ≡ true → Fitting K c s) → (K.live c ≡ true → member row c ≡ true) → row_keeps K c row ≡ true
  unfolding row_keeps
  members_kept each own =
      and_both _ _ (all_says member_keeps (bits * length row) (λ s h. or_on (member row s) (fits K c s) (λ m. fitting_fits K c s (each s m))))
      (or_on (K.live c) (member row c) own)

  -- a free number's row keeps the rule where it is empty
  pub free_row : K.live c ≡ false → ((k : ℕ) → get_or row k 0 < 2 ^ 64) → nothing_in row ≡ row_keeps K c row
  free_row h small = same_test (nothing_in row) (row_keeps K c row)
      (λ e. members_kept (λ s m. clash m (false_member row s (nothing_in_marks row e s))) (λ g. clash g h))
      (λ e. marks_nothing_in row small (λ s. member_false row s (not_true_false (member row s) (λ m. clash (kept_members e s m).cell_live h))))

  pub no_own : K.live c ≡ true → member row c ≡ false → false ≡ row_keeps K c row
  no_own h off = sym (not_true_false (row_keeps K c row) (λ e. clash (kept_own e h) off))
