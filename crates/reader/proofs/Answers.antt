-- What the reader answers and leaves, way by way out of the code.
-- What carries it: each test decides its own ground, in the order of the four; only the length's has the number 1. Assumes nothing.
use mathlib.Core.Path.{◌≡◌, refl, ap, sym, ◌∙◌}
use mathlib.Core.Bool.{Bool, true, false, ◌&&◌, not}
use mathlib.Core.List.{List, [], ◌∷◌}
use Prim.Native.Nat.{ℕ, ◌*◌, ◌/◌, ◌%◌, ◌≤◌}
use native.Mathlib.Omega.{arith}
use borrow.Author.Tests.{not-false}
use lib.ListN.{length, replicate}
use lib.Dec.{eqb, leb}
use Rattle.counting.specs.Counting.{pick}
use Rattle.table.specs.Kind.{capacity, width, free_mark}
use Rattle.table.specs.Table.{cells_of, sized, on_length}
use Rattle.audit.specs.Audit.{first_breach, breach_in, sound, audit_grounds}
use Rattle.calls.specs.Calls.{Ground, verdict, on_verdict, Ends}
use Rattle.calls.specs.Numbers.{number_of}
use Rattle.calls.specs.declared.Refusal.{Refusal}
use Rattle.calls.specs.declared.Breach.{Breach}
use Rattle.calls.specs.declared.Refusal.TheVariants.{Invalid, BadContents, BadNumber}
use Rattle.calls.specs.Calls.{Verdict}
use Rattle.std.specs.declared.result.Result.TheVariants.{Ok, Err}
use Prim.{tt}
use Rattle.audit.specs.Empty.{empty_verdict, emptied, empty_leaves}
use Rattle.audit.proofs.Empties.{length_refused}
use Rattle.calls.proofs.Grounds.{accepted_none_applies}
use Rattle.table.proofs.Sizes.{sized_is_sized, sized_says}
use Rattle.sketch.specs.Read.{contents_fit, numbers_fit, described, read_verdict, read_leaves}
use Rattle.sketch.proofs.Described.{described_sized}
use Rattle.std.specs.Prelude.{OnOk}
use Rattle.reader.specs.Taking.{filled_grounds}

-- the grounds after the length, for a table of n cells
abbrev pub file_grounds : ℕ → List ℕ → List Ground
file_grounds n f = record { refusal = BadContents; applies = not (contents_fit n f) } ∷ filled_grounds n f

-- what a table of n cells says to a file
module _ (n : ℕ) (f : List ℕ) where
  pub says_contents : false ≡ contents_fit n f → Err BadContents ≡ verdict (file_grounds n f)
  says_contents a = rw (sym a)

  pub says_more : true ≡ contents_fit n f → verdict (filled_grounds n f) ≡ verdict (file_grounds n f)
  says_more a = rw (sym a)

  pub says_number : numbers_fit n f ≡ false → Err BadNumber ≡ verdict (filled_grounds n f)
  says_number b = rw b

  -- a described table has a table's length, so the audit decides the last ground
  pub says_audit :
      (u : List ℕ) → 1 ≤ n → n ≤ capacity → true ≡ numbers_fit n f → u ≡ described n f →
      verdict (audit_grounds u) ≡ verdict (filled_grounds n f)
  says_audit u h l b e = rw (e, sym b, sized_says (described n f) (described_sized n f h l))

-- what holds whatever a call answers
pub on_ok : {P : Type 0} (v : Verdict) → P → OnOk v P
on_ok (Ok _) p = p
on_ok (Err r) p = tt

-- words of the same number are both of a table's length or both not
sized_by_length : (t u : List ℕ) → length u ≡ length t → sized u ≡ sized t
unfolding sized
sized_by_length t u e =
    ap (λ m. eqb (m % width) 0 && (leb 1 (m / width) && leb (m / width) capacity)) e

empties : (t : List ℕ) → sized t ≡ true → empty_leaves t ≡ replicate (length t) free_mark
unfolding emptied
empties t s = rw s

-- after the length no ground has the number 1
abbrev said : Bool → Bool → Bool → Breach → Verdict
said a b c w = pick a (Err BadContents) (pick b (Err BadNumber) (pick c (Err (Invalid w)) (Ok tt)))

not_kept :
    (a b c : Bool) (w : Breach) (x y z : List ℕ) →
    on_verdict (said a b c w) x (λ r. pick (eqb (number_of r) 1) y z) ≡ on_verdict (said a b c w) x (λ r. z)
not_kept true b c w x y z = refl
not_kept false true c w x y z = refl
not_kept false false true w x y z = refl
not_kept false false false w x y z = refl

-- where emptying refuses, the length is no table's, so the reader refuses alike and no word changes
pub ends_length :
    (t f u : List ℕ) (r : Refusal) → empty_verdict t ≡ Err r → u ≡ empty_leaves t → Ends (read_verdict t f) (read_leaves t f) (Err r) u
unfolding read_verdict
ends_length t f u r e a =
    let k = length_refused (sized t) r e in
    record { answer = ap Err k.1 ∙ simp k.0; left = a ∙ simp k.0 }

-- else the length is that of a table of n cells
pub record OfCells (t : List ℕ) (n : ℕ) : Type 0 where
  pub size : sized t ≡ true
  pub cells : n ≡ cells_of t

pub of_cells : (t u : List ℕ) (n : ℕ) → empty_verdict t ≡ Ok tt → length u ≡ length t → n ≡ cells_of u → OfCells t n
of_cells t u n e l h =
    record {
      size = not-false (sized t) (accepted_none_applies (on_length t ∷ []) e).0;
      cells = h ∙ ap (λ m. m / width) l;
    }

module _ {t : List ℕ} {n : ℕ} (o : OfCells t n) where
  -- a table of this length, emptied
  pub cleared : (u v : List ℕ) → length u ≡ length t → v ≡ empty_leaves u → v ≡ replicate (length t) free_mark
  cleared u v l a = a ∙ empties u (sized_by_length t u l ∙ o.size) ∙ ap (λ m. replicate m free_mark) l

  pub starts : (u : List ℕ) → u ≡ empty_leaves t → (1 ≤ n) × (n ≤ capacity) × (u ≡ replicate (n * width) free_mark)
  starts u a =
      let s = sized_is_sized t o.size in
      let l : length t ≡ n * width = s.whole ∙ ap (λ m. m * width) (sym o.cells) in
      (omega (arith, o.cells, s.some), omega (arith, o.cells, s.room), cleared t u refl a ∙ ap (λ m. replicate m free_mark) l)

  module _ (f : List ℕ) where
    answer_is : read_verdict t f ≡ verdict (file_grounds n f)
    unfolding read_verdict
    answer_is = rw o.size (ap (λ m. verdict (file_grounds m f)) (sym o.cells))

    leaves_is : read_leaves t f ≡ on_verdict (verdict (file_grounds n f)) (described n f) (λ r. replicate (length t) free_mark)
    leaves_is =
        ap (λ v. on_verdict v (described (cells_of t) f) (λ r. pick (eqb (number_of r) 1) t (replicate (length t) free_mark))) answer_is
        ∙ not_kept (not (contents_fit n f)) (not (numbers_fit n f)) (not (sound (described n f))) (breach_in (first_breach (described n f))) (described (cells_of t) f) t (replicate (length t) free_mark)
        ∙ ap (λ m. on_verdict (verdict (file_grounds n f)) (described m f) (λ r. replicate (length t) free_mark)) (sym o.cells)

    -- the ways out after the length
    pub ends :
        (r v : Verdict) (u : List ℕ) → r ≡ verdict (file_grounds n f) → v ≡ r →
        u ≡ on_verdict r (described n f) (λ s. replicate (length t) free_mark) → Ends (read_verdict t f) (read_leaves t f) v u
    ends r v u a i d =
        record {
          answer = i ∙ a ∙ sym answer_is;
          left = d ∙ ap (λ w. on_verdict w (described n f) (λ s. replicate (length t) free_mark)) a ∙ sym leaves_is;
        }
