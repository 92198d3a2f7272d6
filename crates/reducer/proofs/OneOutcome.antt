-- The rule has one outcome: the additions, the rows and the counts are determined by the cells, and so is what the call answers and leaves.
-- What carries it: a boundary has one largest cell, and of the finished rows one at most has it (rule B). Assumes nothing.
use mathlib.Core.Path.{◌≡◌, refl, sym, ap, ap₂, subst, ◌∙◌, fun_ext}
use mathlib.Core.Bool.{◌&&◌}
use mathlib.Core.List.{List}
use Prim.Native.Nat.{ℕ, zero, suc, ◌+◌, ◌*◌, ◌/◌, ◌%◌, ◌<◌}
use native.Mathlib.Nat.{div-add-mod', div-lt_iff_lt-mul, mod-lt, mul-zero}
use native.Mathlib.Omega.{arith}
use lib.Dec.{eqb}
use lib.ListN.{length, get_or}
use lib.Seq.{ext_get_or}
use Rattle.homology.specs.Cells.{Cells}
use Rattle.homology.proofs.Marks.{by_mark, by_order}
use Rattle.homology.proofs.Tops.{largest_unique}
use Rattle.bitset.specs.Bits.{sum_of}
use Rattle.counting.specs.Counting.{pick}
use Rattle.calls.specs.Calls.{Verdict}
use Rattle.std.specs.declared.result.Result.TheVariants.{Ok, Err}
use Prim.{tt}
use Rattle.complex.specs.Cells.{cells}
use Rattle.rows.specs.Rows.{row_width, evidence_words, row_of}
use Rattle.rows.proofs.RowWords.{get_or_row_of}
use Rattle.reducer.specs.Rule.{LargestOf, Additions, stop, add, ByRule, additions_in}
use Rattle.reducer.specs.Reduce.{counts, reduce_verdict, Reduction, Reduces}
use Rattle.reducer.proofs.Meeting.{row_apart}

-- ---- one row

-- no two of the rows below c have a boundary with the same largest cell
abbrev Apart : Cells → List ℕ → ℕ → Type 0
Apart K ev c = (a b m : ℕ) → a < b → b < c → LargestOf K (row_of K ev b) m → LargestOf K (row_of K ev a) m → ⊥

module _ (K : Cells) (ev ev' : List ℕ) (c : ℕ) (same : (b : ℕ) → b < c → row_of K ev b ≡ row_of K ev' b) where
  there : (b m : ℕ) → b < c → LargestOf K (row_of K ev b) m → LargestOf K (row_of K ev' b) m
  there b m l = subst (λ (r : List ℕ). LargestOf K r m) (same b l)

  back : (b m : ℕ) → b < c → LargestOf K (row_of K ev' b) m → LargestOf K (row_of K ev b) m
  back b m l = subst (λ (r : List ℕ). LargestOf K r m) (sym (same b l))

  module _ (apart : Apart K ev c) where
    -- the row that is added is the same
    same_row : (x : List ℕ) (a b m k : ℕ) → a < c → b < c → LargestOf K x m → LargestOf K x k → LargestOf K (row_of K ev a) m → LargestOf K (row_of K ev b) k → a ≡ b
    same_row x a b m k la lb g h ga hb =
        let hm : LargestOf K (row_of K ev b) m = subst (LargestOf K (row_of K ev b)) (largest_unique h g) hb in
        by_order a b (λ l. absurd (apart a b m l lb hm ga)) (λ e. e) (λ l. absurd (apart b a m l la ga hm))

    additions_determine : {x y y' : List ℕ} {n n' : ℕ} → Additions K ev c x n y → Additions K ev' c x n' y' → (n ≡ n') × (y ≡ y')
    additions_determine (stop none) (stop none') = (refl, refl)
    additions_determine (stop none) (add b m l g h rest) = absurd (none b m l g (back b m l h))
    additions_determine (add b m l g h rest) (stop none) = absurd (none b m l g (there b m l h))
    additions_determine {y' = y'} (add {x} a m la g ga rest) (add {n = n'} b k lb h hb rest') =
        let e : a ≡ b = same_row x a b m k la lb g h ga (back b k lb hb) in
        let q : row_of K ev' b ≡ row_of K ev a = sym (same b lb) ∙ ap (row_of K ev) (sym e) in
        let r = additions_determine rest (subst (λ (z : List ℕ). Additions K ev' c (sum_of x z) n' y') q rest') in
        (ap suc r.0, r.1)

-- ---- all rows

-- where rows have words in all, a row has a word
some_words : (n w i : ℕ) → i < n * w → 0 < w
some_words n zero i h = absurd (omega (arith, mul-zero n))
some_words n (suc w) i h = omega arith

-- evidence is determined by its rows
same_evidence : (K : Cells) (ev ev' : List ℕ) → length ev ≡ evidence_words K → length ev' ≡ evidence_words K → ((c : ℕ) → c < K.size → row_of K ev c ≡ row_of K ev' c) → ev ≡ ev'
same_evidence K ev ev' long long' same = ext_get_or 0 ev ev' (long ∙ sym long') at
  where
    W : ℕ
    W = row_width K

    at : (i : ℕ) → i < length ev → get_or ev i 0 ≡ get_or ev' i 0
    at i h =
        let some : 0 < W = some_words K.size W i (omega arith) in
        let row : i / W < K.size = (div-lt_iff_lt-mul some).1 (omega arith) in
        let word : i % W < W = mod-lt i some in
        ap (λ (k : ℕ). get_or ev k 0) (sym (div-add-mod' i W))
        ∙ sym (get_or_row_of K ev (i / W) (i % W) word)
        ∙ ap (λ (r : List ℕ). get_or r (i % W) 0) (same (i / W) row)
        ∙ get_or_row_of K ev' (i / W) (i % W) word
        ∙ ap (λ (k : ℕ). get_or ev' k 0) (div-add-mod' i W)

module _ (K : Cells) (ev ev' : List ℕ) (adds adds' : ℕ → ℕ) (by : ByRule K ev adds) (by' : ByRule K ev' adds') where
  -- a row, from those below it
  next_row : (c : ℕ) → c < K.size → ((b : ℕ) → b < c → row_of K ev b ≡ row_of K ev' b) → (adds c ≡ adds' c) × (row_of K ev c ≡ row_of K ev' c)
  next_row c inside same = by_mark (K.live c)
      (λ e. additions_determine K ev ev' c same
      (λ a b m l k. let h : b < K.size = omega arith in row_apart K ev b (adds b) (by.each b h) a m l)
      ((by.each c inside).live_row e)
      ((by'.each c inside).live_row e))
      (λ e. ((by.each c inside).free_none e ∙ sym ((by'.each c inside).free_none e), (by.each c inside).free_row e ∙ sym ((by'.each c inside).free_row e)))

  rows_below : (n c : ℕ) → c < n → c < K.size → row_of K ev c ≡ row_of K ev' c
  rows_below zero c l inside = absurd (omega arith)
  rows_below (suc n) c l inside = (next_row c inside (λ b k. rows_below n b (omega arith) (omega arith))).1

  pub by_rule_determines : (ev ≡ ev') × ((c : ℕ) → c < K.size → adds c ≡ adds' c)
  by_rule_determines = (
    same_evidence K ev ev' by.size by'.size (λ c. rows_below (suc c) c (omega arith)),
    λ c inside. (next_row c inside (λ b k. rows_below c b k (omega arith))).0,
  )

-- ---- the call

-- the additions of cells below n alone count
pub counted_alike : (K : Cells) (f g : ℕ → ℕ) (p n : ℕ) → ((c : ℕ) → c < n → f c ≡ g c) → additions_in K f p n ≡ additions_in K g p n
unfolding additions_in
counted_alike K f g p zero same = refl
counted_alike K f g p (suc n) same =
    ap₂ (λ (a b : ℕ). a + pick (K.live n && eqb (K.dim n) p) b 0) (counted_alike K f g p n (λ c l. same c (omega arith))) (same n (omega arith))

one_accepted : (K : Cells) (ev ev' made made' : List ℕ) → Reduction K ev made → Reduction K ev' made' → (made ≡ made') × (ev ≡ ev')
one_accepted K ev ev' made made' r r' =
    let same = by_rule_determines K ev ev' r.adds r'.adds r.by_rule r'.by_rule in (
      r.counted
          ∙ ap counts (fun_ext (λ p. counted_alike K r.adds r'.adds p K.size same.1))
          ∙ sym r'.counted,
      same.0,
    )

-- two outcomes that the contract permits are one
pub one_reduction : (t ev a₀ l l' a a' : List ℕ) (r r' : Verdict) → Reduces t ev a₀ r l a → Reduces t ev a₀ r' l' a' → (r ≡ r') × (l ≡ l') × (a ≡ a')
one_reduction t ev a₀ l l' a a' r r' h h' = by_verdict (reduce_verdict t ev) refl
  where
    said : r ≡ r'
    said = h.answer ∙ sym h'.answer

    by_verdict : (d : Verdict) → reduce_verdict t ev ≡ d → (r ≡ r') × (l ≡ l') × (a ≡ a')
    by_verdict (Ok tt) e =
        let both = one_accepted (cells t) l l' a a' (h.accepted e) (h'.accepted e) in
        (said, both.1, both.0)
    by_verdict (Err x) e =
        let mine = h.refused_left x e in
        let other = h'.refused_left x e in
        (said, mine.0 ∙ sym other.0, mine.1 ∙ sym other.1)
