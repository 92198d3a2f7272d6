-- `write_all`: what each write has taken lies behind what the earlier ones took. Assumes nothing but what std says of a writer.
use Rattle.std.proofs.Common.{◌≡◌, ℕ, ◌-◌, List, ◌++◌, Option, length, take, drop, sym, ap, ◌∙◌, subst, append_assoc, take-append-drop}
use Rattle.std.proofs.lemmas.List.{take_rest}
use lib.Seq.{take-append_seam}
use Rattle.std.specs.Io.KnownBytes.{Appends}
use Rattle.std.proofs.KnownBytes.{Appends-trans, Appends-kept}
use Rattle.stdio.proofs.write_all.Goals as goal

-- n bytes more are gone
moves : (all put rest : List ℕ) (n : ℕ) → all ≡ put ++ rest → all ≡ (put ++ take n rest) ++ take (length rest - n) (drop n rest)
moves all put rest n e =
    e ∙ ap (λ l. put ++ l) (sym (take-append-drop n rest)) ∙ sym (append_assoc put (take n rest) (drop n rest))
    ∙ ap (λ l. (put ++ take n rest) ++ l) (sym (take_rest rest n))

-- what is gone is the front of the text
front : (a b : Option (List ℕ)) (all put rest : List ℕ) → all ≡ put ++ rest → Appends a b put → (n : ℕ) × Appends a b (take n all)
front a b all put rest e h = (length put, subst (Appends a b) (sym (ap (take (length put)) e ∙ take-append_seam put rest)) h)

pub loop-rest-preserved : goal.loop-rest-preserved
loop-rest-preserved g c =
    let (put, split, held) = c.loop-rest.invariant in
    let rest = c.loop-rest.rest.now in
    let n = c.in_ok-n.n in
    (put ++ take n rest, moves _ put rest n split, Appends-trans _ _ _ _ _ held c.in_ok-n.ensures.bytes)

pub returns-in_err-n-clause-front : goal.returns-in_err-n-clause-front
returns-in_err-n-clause-front g c =
    let (put, split, held) = c.loop-rest.invariant in
    front _ _ _ put _ split (Appends-kept _ _ _ _ held c.in_err-n.ensures.bytes)

pub returns-in-0-clause-front : goal.returns-in-0-clause-front
returns-in-0-clause-front g c =
    let (put, split, held) = c.loop-rest.invariant in
    let rest = c.loop-rest.rest.now in
    let n = c.in_ok-n.n in
    front _ _ _ (put ++ take n rest) _ (moves _ put rest n split) (Appends-trans _ _ _ _ _ held c.in_ok-n.ensures.bytes)

pub returns-clause-front : goal.returns-clause-front
returns-clause-front g c =
    let (put, split, held) = c.loop-rest.invariant in
    front _ _ _ put _ split (Appends-kept _ _ _ _ held c.flush.ensures.bytes)
