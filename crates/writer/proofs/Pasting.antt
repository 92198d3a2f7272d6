-- Bytes put one piece after the other are the pieces put at once, and what fits as a whole fits piece by piece.
-- What carries it: a run of stores goes on where the run before it ended. Assumes nothing.
use mathlib.Core.Path.{◌≡◌, refl, sym, ap, ap₂, ◌∙◌}
use mathlib.Core.List.{List, [], ◌∷◌, ◌++◌, append_assoc}
use Prim.Native.Nat.{ℕ, suc, ◌+◌, ◌-◌, ◌≤◌, ◌<◌}
use native.Mathlib.Nat.{add-zero, add-suc, suc-add}
use native.Mathlib.Omega.{arith}
use borrow.Rule.Slice.PartMut.{put_mid, post_of, same_len_mid, Post-is, mid_len}
use lib.ListN.{length, set, take, drop, length-append}
use lib.Seq.{sets, sets-eq}
use Rattle.std.specs.Int.{w16, w32, to_le_bytes}
use Rattle.sketch.specs.Form.{two, four, pieces}
use Rattle.counting.proofs.Totals.{total_inside}
use Rattle.sketch.proofs.Pieces.{pieces_zero, pieces_more, length_pieces}
use Rattle.writer.specs.Put.{Put}

-- the stores of x ++ y are those of x, then those of y
sets_append : (x y d : List ℕ) (at : ℕ) → sets d at (x ++ y) ≡ sets (sets d at x) (at + length x) y
sets_append [] y d at = ap (λ k. sets d k y) (sym (add-zero at))
sets_append (a ∷ x) y d at =
    sets_append x y (set d at a) (suc at)
    ∙ ap (λ k. sets (sets (set d at a) (suc at) x) k y) (suc-add at (length x) ∙ sym (add-suc at (length x)))

put_none : {d : List ℕ} {at : ℕ} → Put d at [] at d
put_none = record { ends = omega arith; same = refl; left = refl }

-- one piece after the other
pub put_then : {d x d' y d'' : List ℕ} {at e e' : ℕ} → Put d at x e d' → Put d' e y e' d'' → Put d at (x ++ y) e' d''
put_then {d} {x} {d'} {y} {d''} {at} a b =
    record {
      ends = omega (arith, length-append x y);
      same = b.same ∙ a.same;
      left = b.left ∙ ap₂ (λ l k. sets l k y) a.left a.ends ∙ sym (sets_append x y d at);
    }

-- equal bytes
pub put_as : {d x y d' : List ℕ} {at e : ℕ} → x ≡ y → Put d at x e d' → Put d at y e d'
put_as {d} {x} {y} {d'} {at} q a =
    record { ends = a.ends ∙ ap (λ l. at + length l) q; same = a.same; left = a.left ∙ ap (sets d at) q }

-- bytes copied into the part from `at` to e
pub put_part :
    (d bytes p : List ℕ) (at e : ℕ) → e ≡ at + length bytes → e ≤ length d → p ≡ bytes → Put d at bytes e (put_mid at (e - at) d p)
put_part d bytes p at e ends room copied =
    record {
      ends = ends;
      same = same_len_mid at (e - at) d p (ap length copied ∙ omega (arith, mid_len at e d room));
      left =
          ap (λ l. take at d ++ (l ++ post_of at (e - at) d)) copied
          ∙ ap (λ l. take at d ++ (bytes ++ l)) (Post-is at e d (omega arith) ∙ ap (λ k. drop k d) ends)
          ∙ sym (append_assoc (take at d) bytes (drop (at + length bytes) d))
          ∙ sym (sets-eq bytes d at (omega arith));
    }

-- the bytes of a number in 2 and in 4, as the library gives them
pub two_bytes : (v : ℕ) → to_le_bytes w16 v ≡ two v
unfolding two
two_bytes v = refl

pub four_bytes : (v : ℕ) → to_le_bytes w32 v ≡ four v
unfolding four
four_bytes v = refl

module _ (f : ℕ → List ℕ) where
  -- no piece, and one piece more
  pub put_no_piece : {d : List ℕ} {at : ℕ} → Put d at (pieces f 0) at d
  put_no_piece = put_as (sym (pieces_zero f)) put_none

  pub put_piece :
      {d d' d'' : List ℕ} {at k e e' : ℕ} →
      Put d at (pieces f k) e d' → Put d' e (f k) e' d'' → Put d at (pieces f (k + 1)) e' d''
  put_piece {d} {d'} {d''} {at} {k} a b = put_as (sym (pieces_more f k)) (put_then a b)

  -- Bytes y that are x, and then n pieces; x is put, and k pieces after it.
  module _ {d x d' y d'' : List ℕ} {at e k e' : ℕ} (n : ℕ) (parts : x ++ pieces f n ≡ y) (a : Put d at x e d') (b : Put d' e (pieces f k) e' d'') where
    pub next_fits : k < n → at + length y ≤ length d → e' + length (f k) ≤ length d''
    next_fits l h =
        omega (
          arith,
          ap length parts,
          length-append x (pieces f n),
          length_pieces f k,
          length_pieces f n,
          total_inside (λ i. length (f i)) k n l,
        )

    pub all_put : k ≤ n → n ≤ k → Put d at y e' d''
    all_put l g =
        let i : k ≡ n = omega arith in
        put_as (ap (λ j. x ++ pieces f j) i ∙ parts) (put_then a b)
