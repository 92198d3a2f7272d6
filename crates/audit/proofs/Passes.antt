-- The one pass over the cells, turn by turn: where it stops the breach is the first one, and where it goes on the cell is sound.
-- What carries it: the search of a cell is the record, then the scan of its places, then the scan of its pairs, and a scan stops
-- at the first breach. Assumes nothing.
use mathlib.Core.Path.{◌≡◌, refl, sym, ap, ap₂, ◌∙◌}
use mathlib.Core.Bool.{true, false}
use mathlib.Core.List.{List}
use Prim.Native.Nat.{ℕ, suc, ◌+◌, ◌-◌, ◌≤◌, ◌<◌}
use native.Mathlib.Omega.{arith}
use native.Mathlib.Numerals.{add-one}
use lib.ListN.{get_or}
use Rattle.table.specs.Kind.{used}
use Rattle.table.specs.Table.{cells_of, dim, face}
use Rattle.audit.specs.Audit.{scan, or_else, is_sound, record_sound, face_sound, law_sound, law_places, record_breach, face_breach, law_breach, cell_breach, first_breach}
use Rattle.std.specs.declared.option.Option.{Option}
use Rattle.calls.specs.declared.Breach.{Breach}
use Rattle.std.specs.declared.option.Option.TheVariants.{None, Some}
use Rattle.calls.specs.declared.Breach.TheVariants.{Record, Face, Law}
use Rattle.audit.proofs.Scans.{picks_sound, picks_breach, picked_sound, scan_each, scan_more, scan_fewer, scan_stop}
use Rattle.audit.proofs.Records.{Cell, used_here, law_here, face_at_lem}
use Rattle.audit.proofs.Valid.{law_scan, face_inside, face_below, face_says, law_true, law_says}
use Rattle.counting.proofs.Cases.{not_true_false}

-- the search of a cell from its places on
abbrev after_record : List ℕ → ℕ → ℕ → ℕ → Option Breach
after_record t c u m = or_else (scan (face_breach t c) u) (scan (law_scan t c) m)

at_record : (t : List ℕ) (c : ℕ) → record_sound t c ≡ false → cell_breach t c ≡ Some (Record c)
unfolding cell_breach record_breach
at_record t c e = rw e

past_record : (t : List ℕ) (c : ℕ) → record_sound t c ≡ true → cell_breach t c ≡ after_record t c (used (dim t c)) (law_places (dim t c))
unfolding cell_breach record_breach
past_record t c e = rw e

-- the table's first breach is the one at which the search of the first unsound cell stops
first_is : (t : List ℕ) (c n : ℕ) (b : Option Breach) → n ≡ cells_of t → c < n → scan (cell_breach t) c ≡ None → cell_breach t c ≡ b → is_sound b ≡ false → b ≡ first_breach t
unfolding first_breach
first_is t c n b e h s f bad = sym (scan_stop (cell_breach t) c (cells_of t) b (omega arith) s f bad)

pub stops_at_record : (t : List ℕ) (c n : ℕ) → n ≡ cells_of t → c < n → scan (cell_breach t) c ≡ None → record_sound t c ≡ false → Some (Record c) ≡ first_breach t
stops_at_record t c n e h s f = first_is t c n (Some (Record c)) e h s (at_record t c f) refl

pub none_found : (t : List ℕ) (c n : ℕ) → n ≡ cells_of t → n ≤ c → scan (cell_breach t) c ≡ None → None ≡ first_breach t
unfolding first_breach
none_found t c n e h s = sym (scan_fewer (cell_breach t) (cells_of t) c (omega arith) s)

-- What the pass has of cell c once its record is sound.
pub record Here (t : List ℕ) (n c p u m : ℕ) (fs : List ℕ) : Type 0 where
  pub cell : Cell t n c p u m fs
  pub earlier : scan (cell_breach t) c ≡ None
  pub recorded : record_sound t c ≡ true

module _ {t : List ℕ} {n c p u m : ℕ} {fs : List ℕ} (h : Here t n c p u m fs) where
  cell_is : cell_breach t c ≡ after_record t c u m
  cell_is = past_record t c h.recorded ∙ sym (ap₂ (after_record t c) (used_here h.cell) (law_here h.cell))

  used_face : (j : ℕ) → j < u → get_or fs j 0 ≡ face t c j
  used_face j l = face_at_lem h.cell j (omega arith)

  -- a face outside the table, or one that is not one dimension down, is the first breach
  stops_at_face : (j : ℕ) → j < u → scan (face_breach t c) j ≡ None → (face_sound t c j ≡ true → ⊥) → Some (Face c j) ≡ first_breach t
  unfolding face_breach
  stops_at_face j l s f =
      first_is t c n (Some (Face c j)) h.cell.cells h.cell.inside h.earlier
      (cell_is
      ∙ ap (λ b. or_else b (scan (law_scan t c) m))
      (scan_stop (face_breach t c) j u (Some (Face c j)) l s (picks_breach (face_sound t c j) (Some (Face c j)) (not_true_false (face_sound t c j) f)) refl)) refl

  pub stops_outside : (j : ℕ) → j < u → scan (face_breach t c) j ≡ None → n ≤ get_or fs j 0 → Some (Face c j) ≡ first_breach t
  stops_outside j l s o = stops_at_face j l s (λ e. omega (arith, face_inside t c j e, used_face j l, h.cell.cells))

  -- d is the dimension of face j
  module _ (j d : ℕ) (l : j < u) (s : scan (face_breach t c) j ≡ None) (e : d ≡ dim t (get_or fs j 0)) where
    dim_at_lem : d + 1 ≡ suc (dim t (face t c j))
    dim_at_lem = add-one d ∙ ap suc (e ∙ ap (dim t) (used_face j l))

    pub stops_at_dim : (d + 1 ≡ p → ⊥) → Some (Face c j) ≡ first_breach t
    stops_at_dim o = stops_at_face j l s (λ f. o (dim_at_lem ∙ sym (face_below t c j f) ∙ sym h.cell.dimension))

    -- any other face passes
    pub face_passes : get_or fs j 0 < n → d + 1 ≡ p → scan (face_breach t c) (j + 1) ≡ None
    unfolding face_breach
    face_passes i q =
        scan_more (face_breach t c) j s
        (picks_sound (face_sound t c j) (Some (Face c j))
        (face_says t c j (omega (arith, used_face j l, h.cell.cells)) (sym h.cell.dimension ∙ sym q ∙ dim_at_lem)))

  module _ (passed : scan (face_breach t c) u ≡ None) where
    -- so every face that the law reads lies inside
    pub face_known : (j : ℕ) → j < m → get_or fs j 0 < cells_of t
    unfolding face_breach
    face_known j l =
        let v : j < u = omega arith in
        omega (arith, used_face j v, face_inside t c j (picked_sound (face_sound t c j) (Some (Face c j)) refl (scan_each (face_breach t c) u passed j v)))

    -- x and y are the words that the law compares at j and l
    module _ (j l x y : ℕ) (q : j < m) (k : l < j) (s : scan (law_breach t c j) l ≡ None) (ex : x ≡ face t (get_or fs j 0) l) (ey : y ≡ face t (get_or fs l 0) (j - 1)) where
      left : x ≡ face t (face t c j) l
      left = ex ∙ ap (λ f. face t f l) (used_face j (omega arith))

      right : y ≡ face t (face t c l) (j - 1)
      right = ey ∙ ap (λ f. face t f (j - 1)) (used_face l (omega arith))

      pub stops_at_law : scan (law_scan t c) j ≡ None → (x ≡ y → ⊥) → Some (Law c j l) ≡ first_breach t
      unfolding law_breach
      stops_at_law r o =
          first_is t c n (Some (Law c j l)) h.cell.cells h.cell.inside h.earlier
          (cell_is
          ∙ ap (λ b. or_else b (scan (law_scan t c) m)) passed
          ∙ scan_stop (law_scan t c) j m (Some (Law c j l)) q r
          (scan_stop (law_breach t c j) l j (Some (Law c j l)) k s
          (picks_breach (law_sound t c j l) (Some (Law c j l))
          (not_true_false (law_sound t c j l) (λ e. o (left ∙ law_true t c j l e ∙ sym right)))) refl) refl) refl

      pub pair_passes : x ≡ y → scan (law_breach t c j) (l + 1) ≡ None
      unfolding law_breach
      pair_passes e =
          scan_more (law_breach t c j) l s
          (picks_sound (law_sound t c j l) (Some (Law c j l)) (law_says t c j l (sym left ∙ e ∙ right)))

    -- a cell that passes all three
    pub cell_passes : (j : ℕ) → m ≤ j → scan (law_scan t c) j ≡ None → scan (cell_breach t) (c + 1) ≡ None
    cell_passes j l r =
        scan_more (cell_breach t) c h.earlier
        (cell_is ∙ ap (λ b. or_else b (scan (law_scan t c) m)) passed ∙ scan_fewer (law_scan t c) m j l r)

pub place_passes : (t : List ℕ) (c j l : ℕ) → j ≤ l → scan (law_breach t c j) l ≡ None → scan (law_scan t c) j ≡ None → scan (law_scan t c) (j + 1) ≡ None
place_passes t c j l k s r = scan_more (law_scan t c) j r (scan_fewer (law_breach t c j) j l k s)
