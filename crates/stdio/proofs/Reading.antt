-- One read behind the first `done` bytes of the buffer: it keeps them, and the bytes that it adds lie behind them, or it adds none and the
-- reader is at its end. What carries it: a part of a list that is put back leaves what lies before it. Assumes nothing.
use Rattle.std.proofs.Common.{◌≡◌, refl, sym, ap, ◌∙◌, ℕ, zero, suc, ◌+◌, ◌-◌, ◌≤◌, ◌<◌, List, [], ◌++◌, length, take, drop, le_refl, arith, subst, length-take-le, drop_at, Result, Ok, Err, Option, None, Some}
use Rattle.std.specs.Io.{ReadsAtMost}
use Rattle.std.specs.Io.KnownBytes.{Consumes, Keeps, ReadConsumes, IsAtEnd}
use Rattle.std.proofs.KnownBytes.{Consumes-trans}
use borrow.Rule.Slice.PartMut.{mid_of, post_of, put_mid, mid_len, take_put}
use lib.Seq.{take-add, take-append-le}
use Rattle.stdio.specs.Read.{turn_of, Further}

-- what is put behind the first `done` bytes lies there
behind : (done k n : ℕ) (xs ys : List ℕ) → done ≤ length xs → n ≤ length ys → take n (drop done (put_mid done k xs ys)) ≡ take n ys
behind done k n xs ys l m =
    ap (take n) (drop_at (take done xs) (ys ++ post_of done k xs) done (length-take-le done xs l))
    ∙ take-append-le n ys (post_of done k xs) m

none_consumed : (a b : Option (List ℕ)) → Consumes a b [] → Keeps a b
none_consumed None b p = tt
none_consumed (Some x) None p = absurd p
none_consumed (Some x) (Some y) p = sym p

-- a read of the part behind the first `done` bytes, which took the reader from old to new, answered got and left ys there
module _ (old new : Option (List ℕ)) (done : ℕ) (xs ys : List ℕ) (there : done ≤ length xs) (whole : length ys ≡ length (mid_of done (length xs - done) xs)) where
  room : length ys ≡ length xs - done
  room = whole ∙ mid_len done (length xs) xs (le_refl (length xs))

  inside : {E : Type 0} (got : Result ℕ E) (n : ℕ) → ReadsAtMost got ys → Ok (Some n) ≡ turn_of got → (0 < n) × (done + n ≤ length xs)
  unfolding turn_of
  inside (Ok zero) n most said = cc
  inside (Ok (suc k)) n most said = let same : n ≡ suc k = cc in (omega arith, omega (arith, room, most.0))
  inside (Err e) n most said = cc

  pub goes_further : {E : Type 0} (got : Result ℕ E) (r : Result (Option ℕ) E) → ReadsAtMost got ys → r ≡ turn_of got
      → length (put_mid done (length xs - done) xs ys) ≡ length xs → Further done r xs (put_mid done (length xs - done) xs ys)
  goes_further got r most told same =
      record {
        kept = take_put done (length xs - done) xs ys there;
        sized = same;
        added = λ n q. inside got n most (sym q ∙ told);
      }

  pub adds : {E : Type 0} (got : Result ℕ E) (n : ℕ) → ReadsAtMost got ys → ReadConsumes old new got ys → Ok (Some n) ≡ turn_of got
      → Consumes old new (take n (drop done (put_mid done (length xs - done) xs ys)))
  unfolding turn_of
  adds (Ok zero) n most read said = cc
  adds (Ok (suc k)) n most read said =
      let same : n ≡ suc k = cc in
      subst (Consumes old new) (sym (behind done (length xs - done) n xs ys there (omega (arith, most.0))))
      (subst (λ (m : ℕ). Consumes old new (take m ys)) (sym same) read.0)
  adds (Err e) n most read said = cc

  pub ends : {E : Type 0} (got : Result ℕ E) → ReadConsumes old new got ys → Ok None ≡ turn_of got → Keeps old new × (done < length xs → IsAtEnd new)
  unfolding turn_of
  ends (Ok zero) read said = (none_consumed old new read.0, λ l. read.1 refl (omega (arith, room)))
  ends (Ok (suc k)) read said = cc
  ends (Err e) read said = cc

-- n bytes more, behind those that the reader has given
pub given_on : (first old new : Option (List ℕ)) (done n : ℕ) (before after : List ℕ) → take done after ≡ take done before
    → Consumes first old (take done before) → Consumes old new (take n (drop done after)) → Consumes first new (take (done + n) after)
given_on first old new done n before after kept so_far more =
    subst (Consumes first new) (sym (take-add done n after ∙ ap (λ (a : List ℕ). a ++ take n (drop done after)) kept))
    (Consumes-trans first old new (take done before) (take n (drop done after)) so_far more)
