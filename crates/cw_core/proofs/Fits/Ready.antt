-- What the code of an event finds in a core where the event fits.
use Rattle.std.proofs.Common.{◌≡◌, ℕ, zero, suc, ◌+◌, ◌-◌, ◌^◌, ◌<◌, ◌≤◌, List, [], ◌∷◌, length, refl, ap, sym, ◌∙◌, arith, Bool, true, false, cond, Option, Some, inl, inr, length-append}
use Rattle.std.specs.Prelude.{filter, slice_get}
use Rattle.std.proofs.lemmas.Option.{slice_get_cases}
use Rattle.std.proofs.lemmas.Bool.{cases_eq}
use Rattle.std.proofs.lemmas.List.Elements.{filter-append}
use Rattle.std.proofs.lemmas.List.Sums.{suffix_len-le-length}
use Rattle.cw_tree.specs.declared.node.Node.{Node}
use Rattle.cw_tree.specs.Nodes.{is_strand_kind, is_strand, is_pending, is_aborted, all_nodes, below}
use Rattle.cw_tree.specs.Series.{children, place}
use Rattle.cw_tree.specs.Shape.{is_closed}
use Rattle.cw_tree.proofs.Walks.There.{node_there}
use Rattle.cw_tree.proofs.NextNodes.Growing.{length_more}
use Rattle.cw_tree.proofs.NextNodes.Trees.{is_child}
use Rattle.cw_stack.specs.Cells.{CellParts}
use Rattle.cw_trace.specs.Columns.{used, gap}
use Rattle.cw_trace.specs.Stands.{column}
use Rattle.cw_trace.proofs.Keeps.Meaning.{column_low}
use Rattle.cw_trace.proofs.Segments.Lines.{gap_le}
use Rattle.cw_open.specs.Machine.{is_running}
use Rattle.cw_open.proofs.Open.Standing.{runs, stands}
use Rattle.cw_core.specs.declared.row.Row.{Row}
use Rattle.cw_core.specs.State.{CoreState, joined_columns}
use Rattle.cw_core.specs.Kept.{IsRow, AreParts}
use Rattle.cw_core.proofs.Events.Going.{well}

length_below : (n : ℕ) → length (below n) ≡ n
length_below zero = refl
length_below (suc n) = length_more (below n) n ∙ ap suc (length_below n)

fewer : (p : ℕ → Bool) (xs : List ℕ) → length (filter p xs) ≤ length xs
fewer p [] = omega arith
fewer p (x ∷ xs) = by (p x) (fewer p xs) where
  by : (b : Bool) → length (filter p xs) ≤ length xs → length (cond b (x ∷ filter p xs) (filter p xs)) ≤ suc (length xs)
  by true le = omega arith
  by false le = omega arith

-- the first number passes no test
but_first : (p : ℕ → Bool) (n : ℕ) → p 0 ≡ false → length (filter p (below (suc n))) ≤ n
but_first p zero e = let z : length (filter p (below 1)) ≡ 0 = ap (λ b. length (cond b (0 ∷ []) (let ns : List ℕ = [] in ns))) e in omega arith
but_first p (suc n) e =
    let z = ap length (filter-append p (below (suc n)) (suc n ∷ [])) in
    let y = length-append (filter p (below (suc n))) (filter p (suc n ∷ [])) in
    omega (arith, z, y, but_first p n e, fewer p (suc n ∷ []))

-- a node has fewer children than there are nodes
pub children_few : (t : List Node) (q : ℕ) → 0 < length t → length (children t q) < length t
children_few t q some = by (length t) some where
  by : (n : ℕ) → 0 < n → length (filter (is_child t q) (below n)) < n
  by zero h = absurd (omega arith)
  by (suc n) h = omega (arith, but_first (is_child t q) n refl)

-- no more nodes are closed than there are
closed_few : (t : List Node) → length (filter (is_closed t) (all_nodes t)) ≤ length t
closed_few t = omega (arith, fewer (is_closed t) (all_nodes t), length_below (length t))

module _ (k : CoreState) (rows : List Row) (forks : List ℕ) (cells : List CellParts) (last : Option ℕ) (w : AreParts k rows forks cells last) where
  pub clock_fits : k.machine.clock + 1 < 2 ^ 64
  clock_fits = let d = w.drawn in let f = w.few in let c = closed_few k.machine.tree in omega arith

  -- a strand that runs, its row, and the row of its place
  module _ (s : ℕ) (running : is_running k.machine s ≡ true) where
    strand : is_strand k.machine.tree s ≡ true
    strand = (runs k.machine (well k.machine.first k w.core).sound.tree (well k.machine.first k w.core).nested s running).strand

    pub strand_there : s < length k.machine.tree
    strand_there = node_there (λ y. is_strand_kind y.kind) k.machine.tree s strand

    pub place_there : place k.machine.tree s < length k.machine.tree
    place_there = (stands k.machine (well k.machine.first k w.core).sound.tree (well k.machine.first k w.core).nested s running).there

    -- its column is in use, and so is the gap of it
    pub column_there : (r : Row) → IsRow k s r → r.made.column < used k.tier
    column_there r row =
        let z = column_low k.machine.tree (used k.tier) s (let n = w.forked.count in omega arith) in
        let e = row.made.column strand in
        omega (arith, z, e)

    pub gap_there : (r : Row) → IsRow k s r → gap k.tier r.made.column < length k.words
    gap_there r row =
        let h = column_there r row in
        let z = gap_le k.tier k.splits (joined_columns k) (is_pending k.machine.tree) (column k.machine.tree (used k.tier)) w.core.stands.segments r.made.column h in
        let room = w.core.stands.room in
        omega (arith, h, z, room.0, room.1)

    pub attempt_fits : (r : Row) → IsRow k (place k.machine.tree s) r → r.tail.aborted + 1 < 2 ^ 32
    attempt_fits r row =
        let z = suffix_len-le-length (is_aborted k.machine.tree) (children k.machine.tree (place k.machine.tree s)) in
        let y = children_few k.machine.tree (place k.machine.tree s) (let h = place_there in omega arith) in
        let few = w.few in
        omega (arith, z, y, row.tail.aborted, few)

    pub row_place : (r : Row) → IsRow k s r → r.now.place ≡ place k.machine.tree s
    row_place r row = sym (row.now.place strand)

  pub row_there : (n : ℕ) → n < length k.machine.tree → (r : Row) × (slice_get rows n ≡ Some r)
  row_there n h = elim (slice_get_cases rows n).1 [ inl z ↦ (z.0, z.2) | inr past ↦ absurd (let l = w.rowed.len in omega arith) ]

-- one node more has a number, where there is a place for it
pub one_more : (n : ℕ) → n < 2 ^ 32 → (n ≡ 2 ^ 32 - 1 → ⊥) → n + 1 < 2 ^ 32
one_more n h full = elim (cases_eq n (2 ^ 32 - 1)) [ inl e ↦ absurd (full e) | inr ne ↦ omega arith ]
