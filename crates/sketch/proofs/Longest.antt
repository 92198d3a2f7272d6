-- The longest file: a written or accepted file has at most 8,236 bytes, and that of a full table of cells of the largest dimension has as many.
-- What carries it: the counts of an accepted file are those of the table that it describes, and no record is longer than one of the
-- largest dimension. Assumes nothing.
use mathlib.Core.Path.{◌≡◌, refl}
use mathlib.Core.Bool.{Bool, true}
use mathlib.Core.List.{List}
use Prim.Native.Nat.{ℕ, zero, suc, ◌≤◌, ◌<◌}
use native.Mathlib.Omega.{arith}
use lib.ListN.{length}
use Rattle.counting.specs.Counting.{how_many}
use Rattle.counting.proofs.Counting.{how_many_zero, how_many_yes}
use Rattle.table.specs.Kind.{capacity, top, dimensions}
use Rattle.table.specs.Table.{cells_of, is_cell, count_of}
use Rattle.std.specs.declared.result.Result.TheVariants.{Ok}
use Prim.{tt}
use Rattle.sketch.specs.Form.{longest}
use Rattle.sketch.specs.Written.{file_of}
use Rattle.sketch.specs.Read.{count_in, described, read_verdict}
use Rattle.sketch.proofs.Parts.{body_start_cong}
use Rattle.table.proofs.Dimensions.{counts_fit}
use Rattle.sketch.proofs.Sizes.{body_start_suc, body_start_least, body_start_most, length_file, start_fits}
use Rattle.sketch.proofs.Back.{back_count}
use Rattle.sketch.proofs.Accepted.{accepted_says}

pub longest_is : longest ≡ 8236
longest_is = refl

pub accepted_is_short : (t f : List ℕ) → read_verdict t f ≡ Ok tt → length f ≤ longest
accepted_is_short t f e =
    let w = accepted_says t f e in
    let u : List ℕ = described (cells_of t) f in
    omega (
      arith,
      w.contents.size,
      body_start_cong (count_of u) (count_in f) dimensions (back_count (cells_of t) f w.numbers),
      start_fits u dimensions w.table.sized,
    )

-- where every number has a property, the count is the bound
how_many_every : (h : ℕ → Bool) (n : ℕ) → ((c : ℕ) → c < n → h c ≡ true) → how_many h n ≡ n
how_many_every h zero every = how_many_zero h
how_many_every h (suc n) every =
    omega (arith, how_many_yes h n (every n (omega arith)), how_many_every h n (λ c l. every c (omega arith)))

module _ (t : List ℕ) (full : cells_of t ≡ capacity) (every : (c : ℕ) → c < capacity → is_cell t top c ≡ true) where
  all_counted : count_of t top ≡ capacity
  unfolding count_of
  all_counted = omega (arith, how_many_every (is_cell t top) (cells_of t) (λ c h. every c (omega arith)))

  pub longest_reached : length (file_of t) ≡ longest
  longest_reached =
      omega (
        arith,
        length_file t,
        all_counted,
        body_start_suc (count_of t) top,
        body_start_least (count_of t) top,
        body_start_most (count_of t) dimensions capacity (omega (arith, counts_fit t dimensions)),
      )
