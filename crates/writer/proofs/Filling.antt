-- The bodies, filled in one pass over the cells: what the cells below c give body p stands at its start, and no byte outside the bodies
-- changes. What carries it: a record lies inside its body, so it leaves every other body alone. Assumes nothing.
use mathlib.Core.Path.{◌≡◌, refl, sym, ap, subst, ◌∙◌}
use mathlib.Core.List.{List, [], ◌∷◌, ◌++◌, append-nil}
use mathlib.Core.Logic.{◌⊎◌, inl, inr, ⊎_elim}
use Prim.Native.Nat.{ℕ, suc, ◌+◌, ◌-◌, ◌≤◌, ◌<◌}
use native.Mathlib.Nat.{eq-or-lt_of_le}
use native.Mathlib.Omega.{arith}
use lib.ListN.{length, get_or, set, take, drop, length-append, length-set}
use lib.Seq.{sets, sets-eq, length-sets, length-take-le, get_or-set_same, get_or-set_other, ext_get_or}
use Rattle.counting.specs.Counting.{pick}
use Rattle.counting.proofs.Cases.{below_or_not, same_or_other}
use Rattle.table.specs.Kind.{dimensions}
use Rattle.table.specs.Table.{cells_of, dim, is_cell, count_of}
use Rattle.table.proofs.Dimensions.{other_dimension, cell_says}
use Rattle.sketch.specs.Form.{pieces, contents_size, body_start}
use Rattle.sketch.specs.Written.{cell_bytes, body_of, file_of}
use Rattle.counting.proofs.Totals.{total_grows}
use Rattle.sketch.proofs.Pieces.{pieces_zero, pieces_more, length_pieces}
use Rattle.sketch.proofs.Stands.{Stands, stands_whole, stands_moved, stands_left, stands_right, stands_both, stands_pieces}
use Rattle.sketch.proofs.Sizes.{body_start_grows, body_start_least, length_file, bodies_place, body_end}
use Rattle.writer.specs.Put.{Put, Started}

-- ---- a run of stores

sets_outside : (vs l : List ℕ) (i k : ℕ) → (k < i) ⊎ (i + length vs ≤ k) → get_or (sets l i vs) k 0 ≡ get_or l k 0
sets_outside [] l i k h = refl
sets_outside (a ∷ vs) l i k h =
    sets_outside vs (set l i a) (suc i) k (⊎_elim (λ m. inl (omega arith)) (λ m. inr (omega arith)) h)
    ∙ get_or-set_other l i k a 0 (λ e. ⊎_elim (λ m. omega arith) (λ m. omega arith) h)

sets_stand : (vs l : List ℕ) (i : ℕ) → i + length vs ≤ length l → Stands (sets l i vs) i vs
sets_stand vs l i h =
    let rest : List ℕ = drop (i + length vs) l in
    let w : List ℕ = take i l ++ vs ++ rest in
    subst (λ x. Stands x i vs) (sym (sets-eq vs l i h))
    (stands_moved w (0 + length (take i l)) i vs (omega (arith, length-take-le i l (omega arith)))
    (stands_right w 0 (take i l) vs (stands_left w 0 (take i l ++ vs) rest (stands_whole w))))

-- what stands elsewhere stays
stands_on :
    (f g : List ℕ) (i : ℕ) (part : List ℕ) → ((k : ℕ) → i ≤ k → k < i + length part → get_or g k 0 ≡ get_or f k 0) →
    Stands f i part → Stands g i part
stands_on f g i part same h k l = same (i + k) (omega arith) (omega arith) ∙ h k l

-- ---- the pieces of a body

module _ (t : List ℕ) where
  -- what cell c gives the body of dimension p
  abbrev cell_of : ℕ → ℕ → List ℕ
  cell_of p c = pick (is_cell t p c) (cell_bytes t c) []

  body_parts : (p : ℕ) → pieces (cell_of p) (cells_of t) ≡ body_of t p
  unfolding body_of
  body_parts p = refl

  none_given : (p c : ℕ) → (dim t c ≡ p → ⊥) → pieces (cell_of p) (c + 1) ≡ pieces (cell_of p) c
  none_given p c ne =
      pieces_more (cell_of p) c
      ∙ ap (λ b. pieces (cell_of p) c ++ pick b (cell_bytes t c) []) (other_dimension t c p ne)
      ∙ append-nil (pieces (cell_of p) c)

  one_given : (p c : ℕ) → c < cells_of t → p < dimensions → dim t c ≡ p → pieces (cell_of p) (c + 1) ≡ pieces (cell_of p) c ++ cell_bytes t c
  one_given p c h l e =
      pieces_more (cell_of p) c
      ∙ ap (λ b. pieces (cell_of p) c ++ pick b (cell_bytes t c) []) (cell_says t p c (record { inside = h; low = omega arith }) e)

  -- the cells below c fill no more than the body
  part_fits : (p c : ℕ) → c ≤ cells_of t → body_start (count_of t) p + length (pieces (cell_of p) c) ≤ body_start (count_of t) (suc p)
  part_fits p c h =
      omega (
        arith,
        length_pieces (cell_of p) c,
        length_pieces (cell_of p) (cells_of t),
        total_grows (λ k. length (cell_of p k)) c (cells_of t) h,
        ap length (body_parts p),
        body_end t p,
      )

  body_inside : (p : ℕ) → p < dimensions → body_start (count_of t) (suc p) ≤ length (file_of t)
  body_inside p l = omega (arith, length_file t, body_start_grows (count_of t) (suc p) dimensions l)

-- ---- the pass

pub record Filling (t d : List ℕ) (c : ℕ) (ends d' : List ℕ) : Type 0 where
  pub same : length d' ≡ length d
  pub long : length ends ≡ dimensions + 1
  pub end : (p : ℕ) → p < dimensions → get_or ends p 0 ≡ body_start (count_of t) p + length (pieces (cell_of t p) c)
  pub body : (p : ℕ) → p < dimensions → Stands d' (body_start (count_of t) p) (pieces (cell_of t p) c)
  pub outside : (k : ℕ) → (k < contents_size) ⊎ (length (file_of t) ≤ k) → get_or d' k 0 ≡ get_or d k 0

pub filling_none : (t d starts : List ℕ) → length starts ≡ dimensions + 1 → Started (count_of t) starts → Filling t d 0 starts d
filling_none t d starts long s =
    record {
      same = refl;
      long = long;
      end = λ p h. omega (arith, s.each_start p (omega arith), ap length (pieces_zero (cell_of t p)));
      body = λ p h k l. absurd (omega (arith, ap length (pieces_zero (cell_of t p))));
      outside = λ k h. refl;
    }

module _ {t d : List ℕ} {c : ℕ} {ends d' : List ℕ} (g : Filling t d c ends d') where
  -- a record that is no live cell's
  pub filling_passed : dimensions ≤ dim t c → Filling t d (c + 1) ends d'
  filling_passed h =
      let none : (p : ℕ) → p < dimensions → pieces (cell_of t p) (c + 1) ≡ pieces (cell_of t p) c = λ p l. none_given t p c (λ e. omega arith) in
      record {
        same = g.same;
        long = g.long;
        end = λ p l. omega (arith, g.end p l, ap length (none p l));
        body = λ p l. subst (λ x. Stands d' (body_start (count_of t) p) x) (sym (none p l)) (g.body p l);
        outside = g.outside;
      }

  module _ (p : ℕ) (inside : c < cells_of t) (l : p < dimensions) (e : dim t c ≡ p) (room : length (file_of t) ≤ length d) where
    given : length (pieces (cell_of t p) (c + 1)) ≡ length (pieces (cell_of t p) c) + length (cell_bytes t c)
    given = ap length (one_given t p c inside l e) ∙ length-append (pieces (cell_of t p) c) (cell_bytes t c)

    -- its record lies inside its body
    below_end : get_or ends p 0 + length (cell_bytes t c) ≤ body_start (count_of t) (suc p)
    below_end = omega (arith, g.end p l, given, part_fits t p (c + 1) (omega arith))

    pub record_fits : get_or ends p 0 + length (cell_bytes t c) ≤ length d'
    record_fits = omega (arith, below_end, body_inside t p l, g.same)

    module _ {e' : ℕ} {d'' : List ℕ} (a : Put d' (get_or ends p 0) (cell_bytes t c) e' d'') where
      -- what is not in the record stays
      stays : (k : ℕ) → (k < get_or ends p 0) ⊎ (body_start (count_of t) (suc p) ≤ k) → get_or d'' k 0 ≡ get_or d' k 0
      stays k h =
          ap (λ x. get_or x k 0) a.left
          ∙ sets_outside (cell_bytes t c) d' (get_or ends p 0) k (⊎_elim (λ m. inl m) (λ m. inr (omega (arith, below_end))) h)

      new_body : Stands d'' (body_start (count_of t) p) (pieces (cell_of t p) (c + 1))
      new_body =
          subst (λ x. Stands d'' (body_start (count_of t) p) x) (sym (one_given t p c inside l e))
          (stands_both d'' (body_start (count_of t) p) (pieces (cell_of t p) c) (cell_bytes t c)
          (stands_on d' d'' (body_start (count_of t) p) (pieces (cell_of t p) c) (λ k m n. stays k (inl (omega (arith, g.end p l)))) (g.body p l))
          (stands_moved d'' (get_or ends p 0) (body_start (count_of t) p + length (pieces (cell_of t p) c)) (cell_bytes t c) (g.end p l)
          (subst (λ x. Stands x (get_or ends p 0) (cell_bytes t c)) (sym a.left)
          (sets_stand (cell_bytes t c) d' (get_or ends p 0) record_fits))))

      -- another body lies before this one or after it
      other_body : (q : ℕ) → q < dimensions → (q ≡ p → ⊥) → Stands d'' (body_start (count_of t) q) (pieces (cell_of t q) (c + 1))
      other_body q m ne =
          subst (λ x. Stands d'' (body_start (count_of t) q) x) (sym (none_given t q c (λ i. ne (sym i ∙ e))))
          (stands_on d' d'' (body_start (count_of t) q) (pieces (cell_of t q) c) (λ k b u. stays k (apart k b u)) (g.body q m))
        where
          apart : (k : ℕ) → body_start (count_of t) q ≤ k → k < body_start (count_of t) q + length (pieces (cell_of t q) c) → (k < get_or ends p 0) ⊎ (body_start (count_of t) (suc p) ≤ k)
          apart k b u =
              ⊎_elim
              (λ i. inl (omega (arith, part_fits t q c (omega arith), body_start_grows (count_of t) (suc q) p i, g.end p l)))
              (λ i.
              ⊎_elim (λ z. absurd (ne (sym z))) (λ z. inr (omega (arith, body_start_grows (count_of t) (suc p) q z))) (eq-or-lt_of_le i))
              (below_or_not q p)

      pub filling_more : Filling t d (c + 1) (set ends p e') d''
      filling_more =
          record {
            same = a.same ∙ g.same;
            long = length-set ends p e' ∙ g.long;
            end = λ q m.
                same_or_other (λ r. get_or (set ends p e') r 0 ≡ body_start (count_of t) r + length (pieces (cell_of t r) (c + 1))) q p
                (get_or-set_same ends p e' 0 (omega (arith, g.long)) ∙ omega (arith, a.ends, g.end p l, given))
                (λ ne.
                get_or-set_other ends p q e' 0 ne
                ∙ omega (arith, g.end q m, ap length (none_given t q c (λ i. ne (sym i ∙ e)))));
            body = λ q m. same_or_other (λ r. Stands d'' (body_start (count_of t) r) (pieces (cell_of t r) (c + 1))) q p new_body (other_body q m);
            outside = λ k h.
                stays k (⊎_elim (λ m. inl (omega (arith, g.end p l, body_start_least (count_of t) p))) (λ m. inr (omega (arith, body_inside t p l))) h)
                ∙ g.outside k h;
          }

-- ---- after the last cell

module _ {t d ends d' : List ℕ} {c : ℕ} (room : length (file_of t) ≤ length d) (all : c ≡ cells_of t) (g : Filling t d c ends d') where
  abbrev bodies : List ℕ
  bodies = pieces (body_of t) dimensions

  size : contents_size + length bodies ≡ length (file_of t)
  size = bodies_place t dimensions ∙ sym (length_file t)

  all_stand : Stands d' contents_size bodies
  all_stand =
      stands_pieces d' (body_of t) contents_size dimensions
      (λ p h.
      stands_moved d' (body_start (count_of t) p) (contents_size + length (pieces (body_of t) p)) (body_of t p) (sym (bodies_place t p))
      (subst (λ x. Stands d' (body_start (count_of t) p) x) (ap (pieces (cell_of t p)) all ∙ body_parts t p) (g.body p h)))

  fits : contents_size + length bodies ≤ length d
  fits = omega (arith, size)

  at_byte : (k : ℕ) → get_or d' k 0 ≡ get_or (sets d contents_size bodies) k 0
  at_byte k = ⊎_elim (λ h. elsewhere (inl h)) (λ h. ⊎_elim (λ m. here h m) (λ m. elsewhere (inr m)) (below_or_not k (length (file_of t)))) (below_or_not k contents_size)
    where
      elsewhere : (k < contents_size) ⊎ (length (file_of t) ≤ k) → get_or d' k 0 ≡ get_or (sets d contents_size bodies) k 0
      elsewhere h =
          g.outside k h ∙ sym (sets_outside bodies d contents_size k (⊎_elim (λ m. inl m) (λ m. inr (omega (arith, size))) h))

      here : contents_size ≤ k → k < length (file_of t) → get_or d' k 0 ≡ get_or (sets d contents_size bodies) k 0
      here h m =
          let j : ℕ = k - contents_size in
          let i : contents_size + j ≡ k = omega arith in
          ap (λ x. get_or d' x 0) (sym i)
          ∙ all_stand j (omega (arith, size))
          ∙ sym (sets_stand bodies d contents_size fits j (omega (arith, size)))
          ∙ ap (λ x. get_or (sets d contents_size bodies) x 0) i

  pub all_filled : d' ≡ sets d contents_size bodies
  all_filled = ext_get_or 0 d' (sets d contents_size bodies) (g.same ∙ sym (length-sets d contents_size bodies)) (λ k h. at_byte k)
