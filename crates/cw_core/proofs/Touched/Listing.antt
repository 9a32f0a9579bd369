-- Entry by entry of a map, what is put back is put into a list.
use Rattle.std.proofs.Common.{◌≡◌, ℕ, ◌<◌, ℤ, pos, List, [], ◌∷◌, ◌++◌, length, map, drop, refl, ap, sym, ◌∙◌, subst, Bool, true, false, cond, Some, inl, inr, append_assoc, append-nil}
use Rattle.std.specs.Prelude.{filter, slice_get, Contains}
use Rattle.std.specs.Option.{option_map_or}
use Rattle.std.specs.BTreeMap.{BTreeMap, get, IsOrdered}
use Rattle.std.specs.Ordering.{nat_cmp}
use Rattle.std.proofs.lemmas.Option.{slice_get_within, get_or_from_slice_get}
use Rattle.cw_code.specs.declared.Back.{Back}
use Rattle.cw_tree.specs.AccessStacks.{stamps}
use Rattle.cw_tree.proofs.Lists.{In}
use Rattle.cw_stack.specs.Cells.{CellParts}
use Rattle.cw_core.specs.declared.beneath.Touched.{Touched}
use Rattle.cw_core.specs.Touched.{HaveEntries, value_before, backs_of}
use Rattle.cw_core.proofs.Touched.InOrder.{found_at}

abbrev back_of : List CellParts → ℕ × Touched → Back
back_of cells e = record { cell = e.0; value = option_map_or (value_before e.1.first) (slice_get cells e.0) (pos 0) }

-- these are put into the list, and those entries are left
pub record Listing (touched : BTreeMap ℕ Touched) (cells : List CellParts) (backs : List Back) (left : List (ℕ × Touched)) : Type 0 where
  pub so_far : backs ++ backs_of cells left ≡ backs_of cells touched.entries
  pub found : (e : ℕ × Touched) → In e left → get nat_cmp touched e.0 ≡ Some e.1

module _ (touched : BTreeMap ℕ Touched) (cells : List CellParts) where
  pub begins : IsOrdered nat_cmp touched → (backs : List Back) (left : List (ℕ × Touched)) → backs ≡ [] → left ≡ touched.entries
      → Listing touched cells backs left
  begins ordered backs left none all =
      let P : List (ℕ × Touched) → Type 0 = λ es. (e : ℕ × Touched) → In e es → get nat_cmp touched e.0 ≡ Some e.1 in
      record { so_far = ap (λ bs. bs ++ backs_of cells left) none ∙ ap (backs_of cells) all; found = subst P (sym all) (found_at touched ordered) }

  pub ends : (backs : List Back) (left : List (ℕ × Touched)) → Listing touched cells backs left → left ≡ [] → backs ≡ backs_of cells touched.entries
  ends backs left w none = sym (append-nil backs) ∙ ap (λ es. backs ++ backs_of cells es) (sym none) ∙ w.so_far

  -- the cell of the next entry, and its entry of the first access there
  pub record Next (c : ℕ) (x : Touched) (d : CellParts) : Type 0 where
    pub cell : CellParts
    pub at : slice_get cells c ≡ Some cell
    pub is : Rattle.std.specs.Prelude.slice_index_or cells c d ≡ cell
    pub has : Contains (stamps (drop cell.cleaned cell.entries)) x.first

  module _ (have : HaveEntries touched cells) (backs : List Back) (left rest : List (ℕ × Touched)) (c : ℕ) (x : Touched)
      (w : Listing touched cells backs left) (e : left ≡ (c, x) ∷ rest) where
    pub next_low : c < length cells
    next_low =
        let P : List (ℕ × Touched) → Type 0 = λ es. In (c, x) es in
        let y = have c x (w.found (c, x) (subst P (sym e) (inl refl))) in
        slice_get_within cells c y.0 y.1

    pub next : (d : CellParts) → Next c x d
    next d =
        let P : List (ℕ × Touched) → Type 0 = λ es. In (c, x) es in
        let y = have c x (w.found (c, x) (subst P (sym e) (inl refl))) in
        let Q : ℕ → Type 0 = λ n. Contains (stamps (drop n y.0.entries)) x.first in
        record { cell = y.0; at = y.1; is = get_or_from_slice_get cells c y.0 d y.1; has = subst Q (sym y.2) y.3 }

    found_later : (f : ℕ × Touched) → In f rest → get nat_cmp touched f.0 ≡ Some f.1
    found_later f i = let P : List (ℕ × Touched) → Type 0 = λ es. In f es in w.found f (subst P (sym e) (inr i))

    -- what is left of the list, by whether the next cell was written
    by_next : (v : Bool) → x.wrote ≡ v → backs_of cells left ≡ cond v (back_of cells (c, x) ∷ backs_of cells rest) (backs_of cells rest)
    by_next v is = ap (backs_of cells) e ∙ ap (λ b. map (back_of cells) (cond b ((c, x) ∷ filter (λ f. f.1.wrote) rest)
        (filter (λ f. f.1.wrote) rest))) is ∙ by v where
          by : (v : Bool) → map (back_of cells) (cond v ((c, x) ∷ filter (λ f. f.1.wrote) rest) (filter (λ f. f.1.wrote) rest))
              ≡ cond v (back_of cells (c, x) ∷ backs_of cells rest) (backs_of cells rest)
          by true = refl
          by false = refl

    pub passes_over : x.wrote ≡ false → Listing touched cells backs rest
    passes_over off = record { so_far = ap (λ bs. backs ++ bs) (sym (by_next false off)) ∙ w.so_far; found = found_later }

    pub puts : x.wrote ≡ true → (d : CellParts) (v : ℤ) → v ≡ value_before x.first (next d).cell → (more : List Back)
        → more ≡ backs ++ record { cell = c; value = v } ∷ [] → Listing touched cells more rest
    puts on d v value more is =
        let n = next d in
        let b : Back = record { cell = c; value = v } in
        let same : b ≡ back_of cells (c, x) = ap (λ z. let y : Back = record { cell = c; value = z } in y) (value
        ∙ sym (ap (λ o. option_map_or (value_before x.first) o (pos 0)) n.at)) in
        record {
          so_far = ap (λ bs. bs ++ backs_of cells rest) is
              ∙ append_assoc backs (b ∷ []) (backs_of cells rest)
              ∙ ap (λ y. backs ++ y ∷ backs_of cells rest) same
              ∙ ap (λ bs. backs ++ bs) (sym (by_next true on))
              ∙ w.so_far;
          found = found_later;
        }
