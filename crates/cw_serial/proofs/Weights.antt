-- A fork leaves less: a power of the depth falls, though each side may have as much left as the strand that forked.
use Rattle.std.proofs.Common.{◌≡◌, ℕ, zero, suc, ◌+◌, ◌^◌, ◌<◌, ◌≤◌, ap, sym, ◌∙◌, arith, Some, List, [], ◌∷◌, ◌++◌, length, set, sum_by}
use Rattle.std.specs.List.{slice_get}
use Rattle.std.proofs.Math.Nat.{pow-suc, one-le-pow, pow-le-pow_right}
use Rattle.std.proofs.lemmas.List.{length-append, length_push}
use Rattle.std.proofs.lemmas.List.Sums.{sum_by-set, sum_by_push}
use Rattle.std.proofs.lemmas.Option.{slice_get_within, get_or_from_slice_get}
use Rattle.cw_strand.specs.Strands.{Strands, IsDeep}
use Rattle.cw_tree.specs.declared.picks.Name.{Name}
use Rattle.cw_serial.specs.declared.table.Place.{Place}
use Rattle.cw_serial.specs.declared.table.Place.TheVariants.{Stands, Waits, Gone}
use Rattle.cw_serial.specs.declared.table.Sides.{Sides}
use Rattle.cw_serial.specs.declared.table.Row.{Row}
use Rattle.cw_serial.specs.declared.table.Table.{Table}
use Rattle.cw_serial.specs.TableInMemory.{left_name, right_name, Puts, Notes, Starts, Moves, forks, joins, rests}

-- what a strand of this depth counts
abbrev pub weight : ℕ → ℕ
weight d = 3 ^ suc d

pub weight_low : (d : ℕ) → 3 ≤ weight d
weight_low d = let low = one-le-pow d 3 (omega arith) in let e = pow-suc 3 d in omega arith

pub weight_le : (d e : ℕ) → d ≤ e → weight d ≤ weight e
weight_le d e h = pow-le-pow_right (omega arith) (omega arith)

-- two strands of less depth count less, with three more
pub weight_falls : (l r d : ℕ) → l < d → r < d → weight l + weight r + 2 < weight d
weight_falls l r zero hl hr = absurd (omega arith)
weight_falls l r (suc d) hl hr =
    let low = weight_low d in
    let one = weight_le l d (omega arith) in
    let two = weight_le r d (omega arith) in
    let e = pow-suc 3 (suc d) in
    omega arith

module _ {S A : Type 0} (s : Strands A) (state : S → A) where
  abbrev pub place_weight : Place S → ℕ
  place_weight (Stands x) = weight (s.depth (state x))
  place_weight Waits = 1
  place_weight Gone = 0

  abbrev pub row_weight : Row S → ℕ
  row_weight r = place_weight r.place

  -- what is left to do: each strand counts, and each number that is to be looked at
  abbrev pub load : List (Row S) → List ℕ → ℕ
  load rows todo = sum_by row_weight rows + length todo

  load_set : (rows : List (Row S)) (i : ℕ) (t u : Row S) → slice_get rows i ≡ Some t → sum_by row_weight (set rows i u) + row_weight t ≡ sum_by row_weight rows + row_weight u
  load_set rows i t u here =
      ap (λ v. sum_by row_weight (set rows i u) + row_weight v) (sym (get_or_from_slice_get rows i t t here)) ∙ sum_by-set row_weight rows i u t (slice_get_within rows i t here)

  load_puts : (old new : Table S) (i : ℕ) (place former : Place S) → Puts old i place former new → sum_by row_weight new.rows.items + place_weight former ≡ sum_by row_weight old.rows.items + place_weight place
  load_puts old new i place former p =
      ap (λ ts. sum_by row_weight ts + place_weight former) p.rows
      ∙ (ap (λ f. sum_by row_weight (set old.rows.items i (record p.row { place = place })) + place_weight f) (sym p.was)
      ∙ load_set old.rows.items i p.row (record p.row { place = place }) p.here)

  load_notes : (old new : Table S) (i : ℕ) (x : Sides) (fork : ℕ) → Notes old i x fork new → sum_by row_weight new.rows.items ≡ sum_by row_weight old.rows.items
  load_notes old new i x fork n =
      let moved = load_set old.rows.items i n.row n.more n.here in
      let same = ap place_weight n.place in
      let now = ap (sum_by row_weight) n.rows in
      omega arith

  load_starts : (old new : Table S) (name : Name) (x : S) → Starts old name x new → sum_by row_weight new.rows.items ≡ sum_by row_weight old.rows.items + weight (s.depth (state x))
  load_starts old new name x h = ap (sum_by row_weight) h.rows ∙ (sum_by_push row_weight old.rows.items h.row ∙ ap (λ pl. sum_by row_weight old.rows.items + place_weight pl) h.place)

  -- what is done with one strand leaves less to do
  pub load_falls : IsDeep s → (old new : Table S) (i : ℕ) (todo more : List ℕ) → Moves s state old i todo new more → load new.rows.items more < load old.rows.items (todo ++ i ∷ [])
  load_falls deep old new i todo more (forks x f e) =
      let a = load_puts old f.one i Waits (Stands f.strand) f.waits in
      let b = load_notes f.one f.two i x f.fork f.notes in
      let c = load_starts f.two f.three (left_name i f.fork) f.left f.starts_left in
      let d = load_starts f.three new (right_name i f.fork) f.right f.starts_right in
      let l = ap s.depth f.goes_left in
      let r = ap s.depth f.goes_right in
      let less = weight_falls (s.depth (state f.left)) (s.depth (state f.right)) (s.depth (state f.strand))
      (let h = deep.left (state f.strand) f.wants in omega arith) (let h = deep.right (state f.strand) f.wants in omega arith) in
      let one = ap length e ∙ length-append todo (x.left ∷ x.right ∷ []) in
      let two = length_push todo i in
      omega arith
  load_falls deep old new i todo more (joins name named over j e) =
      let a = load_puts old j.one j.sides.left Gone (Stands j.left) j.left_gone in
      let b = load_puts j.one j.two j.sides.right Gone (Stands j.right) j.right_gone in
      let c = load_puts j.two new name.parent (Stands j.joined) Waits j.goes_on in
      let same = ap s.depth j.becomes in
      let less = weight_le (s.depth (state j.joined)) (s.depth (state j.right)) (let h = deep.joined (state j.right) (state j.left) in omega arith) in
      let low = weight_low (s.depth (state j.left)) in
      let one = ap length e ∙ length_push todo name.parent in
      let two = length_push todo i in
      omega arith
  load_falls deep old new i todo more (rests r e f) =
      let one = ap length f in
      let two = length_push todo i in
      let same = ap (λ (t : Table S). sum_by row_weight t.rows.items) e in
      omega arith
