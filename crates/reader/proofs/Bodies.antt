-- The end of a body, and of all bodies: what the table has then is what the file describes.
-- What carries it: where the numbers are in order, each cell stands in one body at one place. Assumes nothing.
use mathlib.Core.Path.{◌≡◌, ap, sym, subst, ◌∙◌}
use mathlib.Core.Bool.{true, false, false≢true}
use mathlib.Core.List.{List}
use mathlib.Core.Logic.{inl, inr, ⊎_elim}
use Prim.Native.Nat.{ℕ, suc, ◌+◌, ◌*◌, ◌≤◌, ◌<◌}
use native.Mathlib.Omega.{arith}
use lib.ListN.{length, replicate, length-replicate}
use Rattle.table.specs.Kind.{width, free_mark, dimensions}
use Rattle.table.specs.Table.{cells_of}
use Rattle.table.specs.Records.{record_at, free_record, Alike}
use Rattle.table.proofs.Words.{table_by_records, one_dim, one_face}
use Rattle.table.proofs.Stores.{alike_then, alike_back, alike_in}
use Rattle.counting.proofs.Cases.{below_or_not, true_or_false}
use Rattle.counting.specs.Counting.{some_has}
use Rattle.counting.proofs.Counting.{some_has_each, some_has_one}
use Rattle.sketch.specs.Form.{body_start}
use Rattle.sketch.specs.Read.{count_in, record_in, number_in, face_in, in_body, numbers_fit, described}
use Rattle.sketch.proofs.Fits.{Numbered, fit_numbers}
use Rattle.sketch.proofs.Bodies.{body_has, body_one, dim_in_none, dim_in_number, place_in_number}
use Rattle.sketch.proofs.Described.{described_length, described_alike, described_dim, described_unused}
use Rattle.reader.specs.Taking.{faces_at, record_from, Earlier, Unmet, Taken}
use Rattle.reader.proofs.Contents.{record_first}
use Rattle.reader.proofs.Steps.{Going}

-- nothing comes before the first record of the first body
none_earlier : (f : List ℕ) (q k : ℕ) → Earlier f 0 0 q k → ⊥
none_earlier f q k (inl w) = omega (arith, w.0)
none_earlier f q k (inr w) = omega (arith, w.1)

pub taken_none : (n : ℕ) (f t : List ℕ) → t ≡ replicate (n * width) free_mark → Taken n f t 0 0
taken_none n f t e =
    record {
      size = ap length e ∙ length-replicate (n * width) free_mark;
      met = λ q k w. absurd (none_earlier f q k w);
      free = λ c h m.
          alike_then (alike_in t (replicate (n * width) free_mark) c e)
          (let l : c < cells_of (replicate (n * width) free_mark) = omega (arith, length-replicate (n * width) free_mark) in
          record { same_dim = one_dim (n * width) free_mark c l; same_face = λ j k. one_face (n * width) free_mark c j l k });
      order = λ q k w. absurd (none_earlier f q k w);
    }

module _ (n : ℕ) (f : List ℕ) (p : ℕ) (t : List ℕ) where
  -- a body begins
  pub body_begins : (at : ℕ) → at ≡ body_start (count_in f) p → Taken n f t p 0 → Going n f p t at 0 0
  body_begins at e w =
      record {
        place = e ∙ sym (record_first f p);
        above = λ k l. absurd (omega arith);
        least = λ c m. omega arith;
        taken = w;
      }

  -- and ends: the records before the next body are those before the end of this one
  module _ (i : ℕ) (e : i ≡ count_in f p) where
    earlier_body : (q k : ℕ) → Earlier f (p + 1) 0 q k → Earlier f p i q k
    earlier_body q k (inl w) =
        ⊎_elim (λ l. inl (l, w.1))
        (λ l. let z : q ≡ p = omega (arith, w.0) in inr (z, omega (arith, w.1, ap (count_in f) z)))
        (below_or_not q p)
    earlier_body q k (inr w) = absurd (omega (arith, w.1))

    body_earlier : (q k : ℕ) → Earlier f p i q k → Earlier f (p + 1) 0 q k
    body_earlier q k (inl w) = inl (omega (arith, w.0), w.1)
    body_earlier q k (inr w) = inl (omega (arith, w.0), omega (arith, w.1, ap (count_in f) w.0))

    taken_body : Taken n f t p i → Taken n f t (p + 1) 0
    taken_body w =
        record {
          size = w.size;
          met = λ q k z. w.met q k (earlier_body q k z);
          free = λ c h m. w.free c h (λ q k z. m q k (body_earlier q k z));
          order = λ q k z. w.order q k (earlier_body q k z);
        }

  pub body_ends : (at low i m : ℕ) → i ≤ m → m ≤ i → m ≡ count_in f p → Going n f p t at low i → Taken n f t (p + 1) 0
  body_ends at low i m h l e g = taken_body i (omega arith) g.taken

-- all bodies
module _ (n : ℕ) (f t : List ℕ) (w : Taken n f t dimensions 0) where
  -- the numbers are in order
  numbered : Numbered n f
  numbered =
      record {
        below = λ p i h l. (w.order p i (inl (h, l))).0;
        rising = λ p i h l. (w.order p (suc i) (inl (h, l))).1 i (omega arith);
        alone = λ p i q h l m. (w.order p i (inl (h, l))).2 q m;
      }

  -- the table and what the file describes have the same record c
  abbrev Same : ℕ → Type 0
  Same c = Alike (record_at t c) (record_at (described n f) c)

  -- the cells of the bodies
  described_met : (p i : ℕ) → p < dimensions → i < count_in f p → Alike (record_at (described n f) (number_in f p i)) (record_from f p (record_in f p i))
  unfolding faces_at face_in
  described_met p i h l =
      alike_then (described_alike n f (number_in f p i) (numbered.below p i h l))
      (record {
        same_dim = dim_in_number f n numbered p i h l;
        same_face = λ j m. rw (dim_in_number f n numbered p i h l, place_in_number f n numbered p i h l);
      })

  -- and the others, which are free
  module _ (c : ℕ) (e : some_has (λ p. in_body f p c) dimensions ≡ false) where
    described_free : c < n → Alike (record_at (described n f) c) free_record
    described_free h =
        let z = dim_in_none f c (some_has_each (λ p. in_body f p c) dimensions e) in
        record {
          same_dim = described_dim n f c h ∙ z;
          same_face = λ j l. described_unused n f c free_mark j h z (omega arith) l;
        }

    unmet_all : Unmet f dimensions 0 c
    unmet_all q k (inl z) a =
        false≢true (sym (some_has_each (λ p. in_body f p c) dimensions e q z.0) ∙ sym (ap (in_body f q) a) ∙ body_has f q k z.1)
    unmet_all q k (inr z) a = omega (arith, z.1)

  each_cell : (c : ℕ) → c < n → Same c
  each_cell c h =
      ⊎_elim
      (λ e.
      let b = some_has_one (λ p. in_body f p c) dimensions e in
      let i = body_one f b.0 c b.2 in
      subst Same i.2 (alike_then (w.met b.0 i.0 (inl (b.1, i.1))) (alike_back (described_met b.0 i.0 b.1 i.1))))
      (λ e. alike_then (w.free c h (unmet_all c e)) (alike_back (described_free c e h)))
      (true_or_false (some_has (λ p. in_body f p c) dimensions))

  taken_described : t ≡ described n f
  taken_described =
      table_by_records t (described n f) n w.size (described_length n f) each_cell

pub bodies_end :
    (n : ℕ) (f t : List ℕ) (p : ℕ) → p ≤ dimensions → dimensions ≤ p → Taken n f t p 0 → (true ≡ numbers_fit n f) × (t ≡ described n f)
bodies_end n f t p h l w =
    let z : p ≡ dimensions = omega arith in
    let v = subst (λ q. Taken n f t q 0) z w in
    (sym (fit_numbers n f (numbered n f t v)), taken_described n f t v)
