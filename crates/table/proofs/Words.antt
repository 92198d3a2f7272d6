-- Laws of a table that is written down record by record: its size, its dimensions and its faces are those it was given, and a
-- table is determined by them. Assumes nothing.
use mathlib.Core.Path.{◌≡◌, refl, ap, ap₂, sym, subst, ◌∙◌}
use mathlib.Core.List.{List}
use Prim.Native.Nat.{ℕ, zero, suc, ◌+◌, ◌-◌, ◌*◌, ◌/◌, ◌%◌, ◌<◌}
use native.Mathlib.Omega.{arith}
use borrow.Author.Tests.{eq-eqb, ne_eqb}
use lib.ListN.{length, get_or, replicate, length-replicate, get_or-replicate}
use lib.Seq.{ext_get_or}
use Rattle.counting.proofs.Listed.{length_listed, get_or_listed}
use Rattle.table.specs.Kind.{width, faces}
use Rattle.table.specs.Table.{cells_of, dim, face}
use Rattle.table.specs.Records.{Record, record_at, word_of, table_of, Alike}

module _ (n : ℕ) (r : ℕ → Record) where
  pub length_table_of : length (table_of n r) ≡ n * width
  unfolding table_of
  length_table_of = length_listed (n * width) (λ i. word_of (r (i / width)) (i % width))

  pub cells_of_table_of : cells_of (table_of n r) ≡ n
  cells_of_table_of = omega (arith, length_table_of)

  first_word : (c : ℕ) → word_of (r (c * width / width)) (c * width % width) ≡ (r c).dim
  unfolding word_of
  first_word c =
      let k : c * width % width ≡ 0 = omega arith in
      let q : c * width / width ≡ c = omega arith in
      rw (eq-eqb _ _ k) (ap (λ (s : ℕ). (r s).dim) q)

  later_word : (c j : ℕ) → j < faces → word_of (r ((c * width + (1 + j)) / width)) ((c * width + (1 + j)) % width) ≡ (r c).face j
  unfolding word_of
  later_word c j h =
      let k : ((c * width + (1 + j)) % width ≡ 0) → ⊥ = λ e. omega arith in
      let q : (c * width + (1 + j)) / width ≡ c = omega arith in
      let l : (c * width + (1 + j)) % width - 1 ≡ j = omega arith in
      rw (ne_eqb _ _ k) (ap₂ (λ (s i : ℕ). (r s).face i) q l)

  pub dim_table_of : (c : ℕ) → c < n → dim (table_of n r) c ≡ (r c).dim
  unfolding table_of
  dim_table_of c h = get_or_listed (n * width) (λ i. word_of (r (i / width)) (i % width)) (c * width) (omega arith) ∙ first_word c

  pub face_table_of : (c j : ℕ) → c < n → j < faces → face (table_of n r) c j ≡ (r c).face j
  unfolding table_of
  face_table_of c j h hj =
      get_or_listed (n * width) (λ i. word_of (r (i / width)) (i % width)) (c * width + (1 + j)) (omega arith) ∙ later_word c j hj

  -- record by record
  pub record_table_of : (c : ℕ) → c < n → Alike (record_at (table_of n r) c) (r c)
  record_table_of c h = record { same_dim = dim_table_of c h; same_face = λ j l. face_table_of c j h l }

-- what holds at every first word and at every face word of n records holds at every word
at_words :
    (P : ℕ → Type 0) (n : ℕ) → ((c : ℕ) → c < n → P (c * width)) → ((c j : ℕ) → c < n → j < faces → P (c * width + (1 + j))) →
    (i : ℕ) → i < n * width → P i
at_words P n first later i h = go (i % width) refl
  where
    go : (k : ℕ) → i % width ≡ k → P i
    go zero e =
        let w : i ≡ i / width * width = omega arith in
        subst P (sym w) (first (i / width) (omega arith))
    go (suc k) e =
        let w : i ≡ i / width * width + (1 + k) = omega arith in
        subst P (sym w) (later (i / width) k (omega arith) (omega arith))

-- two tables of n records that are alike, one by one, are the same words
pub table_by_records : (t u : List ℕ) (n : ℕ) → length t ≡ n * width → length u ≡ n * width → ((c : ℕ) → c < n → Alike (record_at t c) (record_at u c)) → t ≡ u
table_by_records t u n ht hu same =
    ext_get_or 0 t u (ht ∙ sym hu)
    (λ i h. at_words (λ k. get_or t k 0 ≡ get_or u k 0) n (λ c l. (same c l).same_dim) (λ c j l k. (same c l).same_face j k) i (omega arith))

-- where all words are the same, every dimension and every face is that word
module _ (m x : ℕ) where
  pub one_dim : (c : ℕ) → c < cells_of (replicate m x) → dim (replicate m x) c ≡ x
  one_dim c h = get_or-replicate m (c * width) x 0 (omega (arith, length-replicate {A = ℕ} m x))

  pub one_face : (c j : ℕ) → c < cells_of (replicate m x) → j < faces → face (replicate m x) c j ≡ x
  one_face c j h l = get_or-replicate m (c * width + (1 + j)) x 0 (omega (arith, length-replicate {A = ℕ} m x))
