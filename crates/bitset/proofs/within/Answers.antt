-- `within` meets its contract: the words are compared pair by pair. Assumes nothing.
use Rattle.std.proofs.Common.{rules, tests, subst, sym}
use Rattle.std.proofs.lemmas.Iterator.{YieldsList-from_slice, YieldsList-from_zip}
use Rattle.std.proofs.lemmas.Iterator.Search.{all_from_yields_List}
use Rattle.bitset.specs.Bits.{IsWithin}
use Rattle.bitset.proofs.Inclusion.{within_pairs, pair_inside}
use Rattle.bitset.proofs.within.Goals as goal

pub returns : goal.returns
returns c =
    let xs = c.args.xs.now in
    let ys = c.args.ys.now in
    let all = all_from_yields_List pair_inside c.all.new.self _ _ c.all.ensures.ran (YieldsList-from_zip (YieldsList-from_slice {s = c.zip.result.a} xs cc) (YieldsList-from_slice {s = c.zip.result.b} ys cc)) (λ x b q k. search (rules, tests)) in
    subst (IsWithin xs ys) (sym all) (within_pairs xs ys c.requires (λ i. (c.type_inv.xs i).fits) (λ i. (c.type_inv.ys i).fits))
