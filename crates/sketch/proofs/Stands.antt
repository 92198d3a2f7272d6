-- Bytes that stand at a place of a file: a part of it, read place by place. Parts stand one after the other exactly where the whole
-- that they make stands.
-- What carries it: the place of a byte in a list put together from two. Assumes nothing.
use mathlib.Core.Path.{◌≡◌, refl, ap, sym, subst, ◌∙◌}
use mathlib.Core.List.{List, [], ◌∷◌, ◌++◌}
use mathlib.Core.Logic.{⊎_elim}
use Prim.Native.Nat.{ℕ, zero, suc, ◌+◌, ◌-◌, ◌≤◌, ◌<◌}
use native.Mathlib.Nat.{zero-add, add-zero, add_assoc, not-suc-le-zero, le_of_suc-le-suc, eq-or-lt_of_le}
use native.Mathlib.Omega.{arith}
use lib.ListN.{length, get_or, length-append, get_or-append}
use lib.Seq.{get_or-append-add, ext_get_or}
use Rattle.counting.proofs.Cases.{below_or_not}
use Rattle.sketch.specs.Form.{two, four, two_at, four_at, pieces}
use Rattle.sketch.proofs.Bytes.{length_two, length_four, two_reads, four_reads, two_back, four_back}
use Rattle.sketch.proofs.Pieces.{pieces_zero, pieces_suc}

abbrev pub Stands : List ℕ → ℕ → List ℕ → Type 0
Stands f i part = (k : ℕ) → k < length part → get_or f (i + k) 0 ≡ get_or part k 0

module _ (f : List ℕ) where
  -- the whole list stands at its start, and what stands there with the same length is the list
  pub stands_whole : Stands f 0 f
  stands_whole k h = ap (λ m. get_or f m 0) (zero-add k)

  pub stands_is : (part : List ℕ) → length f ≡ length part → Stands f 0 part → f ≡ part
  stands_is part e h = ext_get_or 0 f part e (λ k l. ap (λ m. get_or f m 0) (sym (zero-add k)) ∙ h k (omega arith))

  pub stands_moved : (i j : ℕ) (part : List ℕ) → i ≡ j → Stands f i part → Stands f j part
  stands_moved i j part e h = subst (λ m. Stands f m part) e h

  -- two parts, one after the other
  pub stands_left : (i : ℕ) (a b : List ℕ) → Stands f i (a ++ b) → Stands f i a
  stands_left i a b h k l = h k (omega (arith, length-append a b)) ∙ get_or-append a b 0 k l

  pub stands_right : (i : ℕ) (a b : List ℕ) → Stands f i (a ++ b) → Stands f (i + length a) b
  stands_right i a b h k l =
      ap (λ m. get_or f m 0) (add_assoc i (length a) k) ∙ h (length a + k) (omega (arith, length-append a b)) ∙ get_or-append-add a b k 0

  pub stands_both : (i : ℕ) (a b : List ℕ) → Stands f i a → Stands f (i + length a) b → Stands f i (a ++ b)
  stands_both i a b h h' k l = ⊎_elim (λ m. h k m ∙ sym (get_or-append a b 0 k m)) later (below_or_not k (length a))
    where
      later : length a ≤ k → get_or f (i + k) 0 ≡ get_or (a ++ b) k 0
      later m =
          let r : ℕ = k - length a in
          let e : i + k ≡ i + length a + r = omega arith in
          let e' : length a + r ≡ k = omega arith in
          ap (λ x. get_or f x 0) e ∙ h' r (omega (arith, length-append a b)) ∙ sym (get_or-append-add a b r 0) ∙ ap (λ x. get_or (a ++ b) x 0) e'

  module _ (g : ℕ → List ℕ) (i : ℕ) where
    pub stands_piece : (n : ℕ) → Stands f i (pieces g n) → (k : ℕ) → k < n → Stands f (i + length (pieces g k)) (g k)
    stands_piece zero h k l = absurd (not-suc-le-zero l)
    stands_piece (suc n) h k l = ⊎_elim last (stands_piece n (stands_left i (pieces g n) (g n) whole) k) (eq-or-lt_of_le (le_of_suc-le-suc l))
      where
        whole : Stands f i (pieces g n ++ g n)
        whole = subst (λ x. Stands f i x) (pieces_suc g n) h

        last : k ≡ n → Stands f (i + length (pieces g k)) (g k)
        last e = subst (λ m. Stands f (i + length (pieces g m)) (g m)) (sym e) (stands_right i (pieces g n) (g n) whole)

    pub stands_pieces : (n : ℕ) → ((k : ℕ) → k < n → Stands f (i + length (pieces g k)) (g k)) → Stands f i (pieces g n)
    stands_pieces zero h = subst (λ x. Stands f i x) (sym (pieces_zero g)) (λ k l. absurd (not-suc-le-zero l))
    stands_pieces (suc n) h =
        subst (λ x. Stands f i x) (sym (pieces_suc g n))
        (stands_both i (pieces g n) (g n) (stands_pieces n (λ k l. h k (omega arith))) (h n (omega arith)))

  -- numbers
  pub stands_two : (i v : ℕ) → v < 65536 → Stands f i (two v) → two_at f i ≡ v
  unfolding two
  stands_two i v l h =
      two_reads f i v l (ap (λ m. get_or f m 0) (sym (add-zero i)) ∙ h 0 (omega arith)) (h 1 (omega arith))

  pub stands_four : (i v : ℕ) → v < 4294967296 → Stands f i (four v) → four_at f i ≡ v
  unfolding four
  stands_four i v l h =
      four_reads f i v l (ap (λ m. get_or f m 0) (sym (add-zero i)) ∙ h 0 (omega arith)) (h 1 (omega arith))
      (h 2 (omega arith))
      (h 3 (omega arith))

  pub two_stands : ((k : ℕ) → get_or f k 0 < 256) → (i : ℕ) → Stands f i (two (two_at f i))
  two_stands h i k l = at k (omega (arith, length_two (two_at f i))) ∙ ap (λ x. get_or x k 0) (sym (two_back f i (h i) (h (i + 1))))
    where
      at : (k : ℕ) → k < 2 → get_or f (i + k) 0 ≡ get_or (get_or f i 0 ∷ get_or f (i + 1) 0 ∷ []) k 0
      at zero m = ap (λ x. get_or f x 0) (add-zero i)
      at (suc zero) m = refl
      at (suc (suc k)) m = absurd (omega arith)

  pub four_stands : ((k : ℕ) → get_or f k 0 < 256) → (i : ℕ) → Stands f i (four (four_at f i))
  four_stands h i k l = at k (omega (arith, length_four (four_at f i))) ∙ ap (λ x. get_or x k 0) (sym (four_back f i h))
    where
      at : (k : ℕ) → k < 4 → get_or f (i + k) 0 ≡ get_or (get_or f i 0 ∷ get_or f (i + 1) 0 ∷ get_or f (i + 2) 0 ∷ get_or f (i + 3) 0 ∷ []) k 0
      at zero m = ap (λ x. get_or f x 0) (add-zero i)
      at (suc zero) m = refl
      at (suc (suc zero)) m = refl
      at (suc (suc (suc zero))) m = refl
      at (suc (suc (suc (suc k)))) m = absurd (omega arith)
