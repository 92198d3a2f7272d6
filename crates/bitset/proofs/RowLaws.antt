-- Sets one after another, w words to each: which words a row has, and what writing one row leaves in it and in the others.
-- What carries it: c < d gives c · w + w ≤ d · w. Assumes nothing.
use mathlib.Core.Path.{◌≡◌, refl, sym, ap, ap₂, subst, ◌∙◌}
use mathlib.Core.Logic.{by_cases}
use mathlib.Core.List.{List, ◌++◌}
use Prim.Native.Nat.{ℕ, suc, ◌+◌, ◌-◌, ◌*◌, ◌≤◌, ◌<◌}
use native.Mathlib.Nat.{suc-mul, mul-le-mul_right}
use native.Mathlib.Decide.{dec_lt}
use native.Mathlib.Omega.{arith}
use lib.ListN.{length, get_or, take, drop, replicate, length-take, length-drop, length-replicate}
use lib.Seq.{ext_get_or, get_or-take, get_or-drop, length-take-le, take-append-le, drop-append-le, drop-append_seam, take_all}
use Rattle.bitset.specs.Bits.{sum_of}
use Rattle.bitset.specs.Rows.{row_at, RowKept, RowAdded}
use borrow.Rule.Slice.PartMut.{put_mid}
use Rattle.std.proofs.lemmas.List.{places, take-append-drop}
use Rattle.std.proofs.lemmas.Slice.{between-put_mid}
use Rattle.bitset.proofs.Marks.{zeros_at, length_sum}

-- a row lies before the rows of higher number
pub row_before : (w c d : ℕ) → c < d → c * w + w ≤ d * w
row_before w c d h =
    let whole : suc c * w ≤ d * w = mul-le-mul_right w h in
    omega (arith, suc-mul c w)

-- of n rows, row c ends inside
pub row_fits : (w : ℕ) (ws : List ℕ) (n c : ℕ) → length ws ≡ n * w → c < n → c * w + w ≤ length ws
row_fits w ws n c long h = omega (arith, row_before w c n h)

pub length_row : (w : ℕ) (ws : List ℕ) (c : ℕ) → c * w + w ≤ length ws → length (row_at w ws c) ≡ w
length_row w ws c h = length-take-le w (drop (c * w) ws) (omega (arith, length-drop (c * w) ws))

-- the part that is lent from place c · w to its end is row c
lent_is_row : (w c : ℕ) (ws : List ℕ) → take (c * w + w - c * w) (drop (c * w) ws) ≡ row_at w ws c
lent_is_row w c ws = let k : c * w + w - c * w ≡ w = omega arith in ap (λ (u : ℕ). take u (drop (c * w) ws)) k

-- ---- the words of a row

pub get_or_row : (w : ℕ) (ws : List ℕ) (c k : ℕ) → k < w → get_or (row_at w ws c) k 0 ≡ get_or ws (c * w + k) 0
get_or_row w ws c k h = get_or-take w (drop (c * w) ws) k 0 h ∙ get_or-drop (c * w) ws k 0

-- a row is known by its words
row_by_words : (w : ℕ) (ws : List ℕ) (c : ℕ) (x : List ℕ) → c * w + w ≤ length ws → length x ≡ w → ((k : ℕ) → k < w → get_or ws (c * w + k) 0 ≡ get_or x k 0) → row_at w ws c ≡ x
row_by_words w ws c x h wide same = ext_get_or 0 (row_at w ws c) x (length_row w ws c h ∙ sym wide)
    (λ k g. let l : k < w = omega (arith, length_row w ws c h) in get_or_row w ws c k l ∙ same k l)

-- where every word is 0, every row is empty
pub zeros_row : (w c : ℕ) (ws : List ℕ) → c * w + w ≤ length ws → ((k : ℕ) → get_or ws k 0 ≡ 0) → row_at w ws c ≡ replicate w 0
zeros_row w c ws room none = row_by_words w ws c (replicate w 0) room (length-replicate w 0) (λ k h. none (c * w + k) ∙ sym (zeros_at w k))

-- words that agree at a row's places have the same row there
rows_agree : (w : ℕ) (x y : List ℕ) (c : ℕ) → length x ≡ length y → ((k : ℕ) → k < w → get_or x (c * w + k) 0 ≡ get_or y (c * w + k) 0) → row_at w x c ≡ row_at w y c
rows_agree w x y c e same = ext_get_or 0 (row_at w x c) (row_at w y c) (simp (length-take, length-drop, e))
    (λ k h. let l : k < w = omega (arith, length-take w (drop (c * w) x)) in get_or_row w x c k l ∙ same k l ∙ sym (get_or_row w y c k l))

-- ---- rows with one more behind them

module _ (w : ℕ) (ws y : List ℕ) (c : ℕ) (long : length ws ≡ c * w) where
  pub earlier_row : (b : ℕ) → b < c → row_at w (ws ++ y) b ≡ row_at w ws b
  earlier_row b l =
      let ends : b * w + w ≤ length ws = row_fits w ws c b long l in
      ap (take w) (drop-append-le (b * w) ws y (omega arith)) ∙ take-append-le w (drop (b * w) ws) y (omega (arith, length-drop (b * w) ws))

  pub last_row : length y ≡ w → row_at w (ws ++ y) c ≡ y
  last_row wide = ap (λ (n : ℕ). take w (drop n (ws ++ y))) (sym long) ∙ ap (take w) (drop-append_seam ws y) ∙ take_all w y (omega arith)

-- ---- writing one row

-- the words of row m were replaced by x
pub row_put : (w m k : ℕ) (x ws : List ℕ) → k ≡ w → length x ≡ w → m * w + w ≤ length ws → RowKept w m x ws (put_mid (m * w) k ws x)
row_put w m k x ws e wide l = record {
  long = long;
  row = sym (lent_is_row w m (put_mid (m * w) k ws x)) ∙ between-put_mid (m * w) k ws x (m * w + w) (omega arith) (omega (arith, wide));
  others = λ d ne. rows_agree w (put_mid (m * w) k ws x) ws d long (λ i g.
      by_cases (dec_lt d m)
      (λ q. grind (arith, places, row_before w d m q))
      (λ q. grind (arith, places, row_before w m d (omega arith))));
}
  where
    long : length (put_mid (m * w) k ws x) ≡ length ws
    long = grind (arith, places)

-- the earlier row a was added to row c, where the words were split at row c
pub row_added : (w c a : ℕ) (ws front back x : List ℕ) → a < c → c * w + w ≤ length ws → front ≡ take (c * w) ws → back ≡ drop (c * w) ws
    → x ≡ sum_of (take w back) (row_at w front a) → RowAdded w c a ws (front ++ (x ++ drop w back))
row_added w c a ws front back x h room ef eb ex =
    rw (ef, eb) (subst (λ (y : List ℕ). RowKept w c y ws (put_mid (c * w) w ws x)) sum (row_put w c w x ws refl wide room))
  where
    long : length (take (c * w) ws) ≡ c * w
    long = length-take-le (c * w) ws (omega arith)

    sum : x ≡ sum_of (row_at w ws c) (row_at w ws a)
    sum = ex ∙ ap₂ (λ (y z : List ℕ). sum_of (take w y) (row_at w z a)) eb ef
        ∙ ap (sum_of (row_at w ws c)) (sym (earlier_row w (take (c * w) ws) (drop (c * w) ws) c long a h) ∙ ap (λ (y : List ℕ). row_at w y a) (take-append-drop (c * w) ws))

    wide : length x ≡ w
    wide = ap length sum ∙ length_sum (row_at w ws c) (row_at w ws a) ∙ length_row w ws c room
