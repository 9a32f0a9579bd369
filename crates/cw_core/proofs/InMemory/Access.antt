-- A core's fields after an access that is made.
use Rattle.std.proofs.Common.{◌≡◌, ℕ, ◌+◌, ◌-◌, ◌^◌, ◌<◌, List, [], ◌∷◌, ◌++◌, length, map, ap, sym, ◌∙◌, subst, arith, true, false, cond, Option, Some, None, refl, nat_lt, inl, inr}
use Rattle.std.specs.Prelude.{◌&&◌, not, ℤ, max, slice_get, slice_set, unwrap_or, IfSome, OnErr, Result, Ok, Err}
use Rattle.std.proofs.lemmas.Bool.{and_parts, ltb-true}
use Rattle.std.proofs.lemmas.List.{length-map}
use Rattle.std.proofs.lemmas.Option.{slice_get_cases}
use Rattle.cw_tree.specs.declared.node.Node.{Node}
use Rattle.cw_tree.specs.declared.access.Entry.{Entry}
use Rattle.cw_tree.specs.Nodes.{fresh_node}
use Rattle.cw_tree.specs.Series.{place}
use Rattle.cw_tree.specs.AccessStacks.{access_kind, stamps}
use Rattle.cw_stack.specs.Cells.{CellParts, newest_entry}
use Rattle.cw_stack.specs.Cells as stack
use Rattle.cw_open.specs.Machine.{live_value, is_running, is_free}
use Rattle.cw_open.specs.Steps.{refusal}
use Rattle.cw_open.proofs.Open.TreeSteps.{free_runs}
use Rattle.cw_core.specs.declared.event.Event.TheVariants as event
use Rattle.cw_core.specs.declared.row.Row.{Row}
use Rattle.cw_core.specs.declared.cores.Core.TheInside.{Inside}
use Rattle.cw_core.specs.declared.event.Reply.{Reply}
use Rattle.cw_core.specs.declared.event.Reply.TheVariants as reply
use Rattle.cw_core.specs.State.{CoreState, column_of, waits_for_left}
use Rattle.cw_core.specs.Events.{fits, is_met, met_by, after_event, reply_to}
use Rattle.cw_core.specs.Kept.{AreParts, with_row_changed, with_tail, with_place, plain_tail, leaf_row, cell_changed, with_entry, without_room}
use Rattle.cw_core.specs.InMemory.{state_of, IsCoreInMemory}
use Rattle.cw_core.proofs.Fits.Ready.{row_there, place_there, one_more}
use Rattle.cw_core.proofs.InMemory.Out.{max_next, now_of, runs_free}
use Rattle.cw_core.proofs.Kept.Entering.{seen_same, changed_cell, firsts_kept, rooms_parts, entries_low, value_is}
use Rattle.cw_core.proofs.Kept.Accesses.{access_ready, access_parts, after_made, listed}

-- rooms of cells are not seen
pub rooms_state : (a b : Inside) → map without_room b.cells.items ≡ map without_room a.cells.items → state_of (record a { cells = b.cells; rows = b.rows }) ≡ state_of a
rooms_state a b same =
    ap (λ fs. let z : CoreState = record (state_of a) { machine = record (state_of a).machine { first = fs; lists = map (λ c. stamps c.entries) b.cells.items } } in z) (seen_same (λ c. c.first) b.cells.items a.cells.items (λ c. refl) same)
    ∙ ap (λ ls. let z : CoreState = record (state_of a) { machine = record (state_of a).machine { lists = ls } } in z) (seen_same (λ c. stamps c.entries) b.cells.items a.cells.items (λ c. refl) same)

pub rooms_kept : (a b : Inside) → IsCoreInMemory a → map without_room b.cells.items ≡ map without_room a.cells.items → b.rows.items ≡ a.rows.items → IsCoreInMemory (record a { cells = b.cells; rows = b.rows })
rooms_kept a b i same rows =
    let P : CoreState → Type 0 = λ k. AreParts k b.rows.items a.forks.items b.cells.items a.spent in
    let Q : List Row → Type 0 = λ rs. AreParts (state_of a) rs a.forks.items b.cells.items a.spent in
    subst P (sym (rooms_state a b same)) (subst Q (sym rows) (rooms_parts (state_of a) a.rows.items a.forks.items a.cells.items a.spent i b.cells.items same))

module _ (a : Inside) (i : IsCoreInMemory a) (s c : ℕ) (write : Option ℤ) (fit : fits (state_of a) (event.Access s c write) ≡ true) (off : is_met (state_of a) s c ≡ false) (cell : CellParts) (at : slice_get a.cells.items c ≡ Some cell) where
  abbrev k : CoreState
  k = state_of a

  abbrev x : Node
  x = fresh_node (place a.tree s) (access_kind c write (live_value k.machine c)) (a.clock + 1)

  running : is_running k.machine s ≡ true
  running = free_runs k.machine s (access_ready k s c write i.core fit).0

  pub access_state : (b : Inside) → b.tree ≡ a.tree ++ x ∷ [] → b.clock ≡ a.clock + 1 → b.cells.items ≡ cell_changed (with_entry (column_of k s) (a.clock + 1) write) c a.cells.items
      → state_of (record a { tree = b.tree; clock = b.clock; rows = b.rows; cells = b.cells }) ≡ after_event k (event.Access s c write)
  access_state b grown drawn cells =
      let set : b.cells.items ≡ slice_set a.cells.items c (with_entry (column_of k s) (a.clock + 1) write cell) = cells ∙ changed_cell (with_entry (column_of k s) (a.clock + 1) write) c a.cells.items cell at in
      ap (λ t. state_of (record a { tree = t; clock = b.clock; rows = b.rows; cells = b.cells })) grown
      ∙ ap (λ n. state_of (record a { tree = a.tree ++ x ∷ []; clock = n; rows = b.rows; cells = b.cells })) (drawn ∙ max_next a.clock)
      ∙ ap (λ cs. let z : CoreState = record k { machine = record k.machine { tree = a.tree ++ x ∷ []; clock = max a.clock (a.clock + 1); first = map (λ c. c.first) cs; lists = map (λ c. stamps c.entries) cs } } in z) set
      ∙ ap (λ fs. let z : CoreState = record k { machine = record k.machine { tree = a.tree ++ x ∷ []; clock = max a.clock (a.clock + 1); first = fs; lists = map (λ c. stamps c.entries) (slice_set a.cells.items c (with_entry (column_of k s) (a.clock + 1) write cell)) } } in z)
      (firsts_kept (λ c. c.first) a.cells.items c cell (with_entry (column_of k s) (a.clock + 1) write cell) at refl)
      ∙ ap (λ ls. let z : CoreState = record k { machine = record k.machine { tree = a.tree ++ x ∷ []; clock = max a.clock (a.clock + 1); lists = ls } } in z) (listed k a.rows.items a.forks.items a.cells.items a.spent i s c write fit off cell at)
      ∙ sym (after_made k a.rows.items a.forks.items a.cells.items a.spent i s c write fit off)

  pub access_kept : (b : Inside) → b.tree ≡ a.tree ++ x ∷ [] → b.clock ≡ a.clock + 1 → b.cells.items ≡ cell_changed (with_entry (column_of k s) (a.clock + 1) write) c a.cells.items
      → (length a.tree ≡ 2 ^ 32 - 1 → ⊥)
      → b.rows.items ≡ with_row_changed (with_place (place a.tree s)) s (with_row_changed (with_tail plain_tail) (place a.tree s) a.rows.items ++ leaf_row s 0 ∷ [])
      → IsCoreInMemory (record a { tree = b.tree; clock = b.clock; rows = b.rows; cells = b.cells })
  access_kept b grown drawn cells full rows =
      let r = row_there k a.rows.items a.forks.items a.cells.items a.spent i (place a.tree s) (place_there k a.rows.items a.forks.items a.cells.items a.spent i s running) in
      let parts = access_parts k a.rows.items a.forks.items a.cells.items a.spent i s c write fit off r.0 r.1 (one_more (length a.tree) i.few full) cell at in
      let P : CoreState → Type 0 = λ z. AreParts z b.rows.items a.forks.items b.cells.items a.spent in
      let Q : List Row → Type 0 = λ rs. AreParts (after_event k (event.Access s c write)) rs a.forks.items b.cells.items a.spent in
      let R : List CellParts → Type 0 = λ cs. AreParts (after_event k (event.Access s c write)) (with_row_changed (with_place (place a.tree s)) s (with_row_changed (with_tail plain_tail) (place a.tree s) a.rows.items ++ leaf_row s 0 ∷ [])) a.forks.items cs a.spent in
      subst P (sym (access_state b grown drawn cells)) (subst Q (sym rows) (subst R (sym cells) parts))

-- ## What the code of an access finds

pub runs_access : (k : CoreState) (s c : ℕ) (write : Option ℤ) → fits k (event.Access s c write) ≡ true → is_running k.machine s ≡ true
runs_access k s c write fit = runs_free k s (and_parts (is_free k.machine s && not (waits_for_left k s)) (nat_lt c (length k.machine.lists)) (now_of k (event.Access s c write) fit)).0

pub cell_there : (a : Inside) (k : CoreState) → state_of a ≡ k → (s c : ℕ) (write : Option ℤ) → fits k (event.Access s c write) ≡ true → c < length a.cells.items
cell_there a k e s c write fit =
    let low = ltb-true c (length k.machine.lists) (and_parts (is_free k.machine s && not (waits_for_left k s)) (nat_lt c (length k.machine.lists)) (now_of k (event.Access s c write) fit)).1 in
    let same = ap (λ k. length k.machine.lists) e in
    omega (arith, low, same, length-map a.cells.items (λ c. stamps c.entries))

pub rooms_len : (xs ys : List CellParts) → map without_room xs ≡ map without_room ys → length xs ≡ length ys
rooms_len xs ys same = sym (length-map xs without_room) ∙ ap length same ∙ length-map ys without_room

-- where there is room for an entry, a core is seen as before
pub record HasRoom (k : CoreState) (s c : ℕ) (write : Option ℤ) (b : Inside) : Type 0 where
  pub kept : IsCoreInMemory b
  pub view : state_of b ≡ k
  pub fit : fits (state_of b) (event.Access s c write) ≡ true
  pub off : is_met (state_of b) s c ≡ false
  pub cell : CellParts
  pub at : slice_get b.cells.items c ≡ Some cell

pub has_room : (a : Inside) → IsCoreInMemory a → (k : CoreState) → state_of a ≡ k → (s c : ℕ) (write : Option ℤ) → fits k (event.Access s c write) ≡ true → is_met k s c ≡ false
    → (b : Inside) → map without_room b.cells.items ≡ map without_room a.cells.items → b.rows.items ≡ a.rows.items → HasRoom k s c write (record a { cells = b.cells; rows = b.rows })
has_room a i k e s c write fit off b same rows =
    let view = rooms_state a b same ∙ e in
    let low : c < length b.cells.items = (let h = cell_there a k e s c write fit in omega (arith, h, rooms_len b.cells.items a.cells.items same)) in
    elim (slice_get_cases b.cells.items c).1 [
      | inr past ↦ absurd (omega arith)
      | inl z ↦ record {
        kept = rooms_kept a b i same rows;
        view = view;
        fit = ap (λ k. fits k (event.Access s c write)) view ∙ fit;
        off = ap (λ k. is_met k s c) view ∙ off;
        cell = z.0;
        at = z.2;
      }
    ]

-- the cell's newest entry came before the next stamp
pub comes_later : (a : Inside) → IsCoreInMemory a → (c : ℕ) → IfSome (slice_get a.cells.items c) (λ b. IfSome (newest_entry b.entries) (λ e. e.mark.stamp < a.clock + 1))
comes_later a i c = by (slice_get a.cells.items c) refl where
  entry : (cell : CellParts) → slice_get a.cells.items c ≡ Some cell → (o : Option Entry) → newest_entry cell.entries ≡ o → IfSome o (λ e. e.mark.stamp < a.clock + 1)
  entry cell at None q = tt
  entry cell at (Some e) q = entries_low (state_of a) a.rows.items a.forks.items a.cells.items a.spent i c cell at (length cell.entries - 1) e q

  by : (o : Option CellParts) → slice_get a.cells.items c ≡ o → IfSome o (λ b. IfSome (newest_entry b.entries) (λ e. e.mark.stamp < a.clock + 1))
  by None at = tt
  by (Some cell) at = entry cell at (newest_entry cell.entries) refl

-- the value that is found is the machine's
pub found_value : (a : Inside) → IsCoreInMemory a → (k : CoreState) → state_of a ≡ k → (c : ℕ) (cell : CellParts) → slice_get a.cells.items c ≡ Some cell → stack.entries_value cell ≡ live_value k.machine c
found_value a i k e c cell at = value_is (state_of a) a.rows.items a.forks.items a.cells.items a.spent i c cell at ∙ ap (λ k. live_value k.machine c) e

pub made_reply : (k : CoreState) (s c : ℕ) (write : Option ℤ) → is_met k s c ≡ false → (v : ℤ) → v ≡ unwrap_or write (live_value k.machine c) → reply.Value v ≡ reply_to k (event.Access s c write)
made_reply k s c write off v is =
    ap reply.Value is
    ∙ sym (ap (λ b. let z : Reply = cond b (reply.Conflict (refusal k.machine (place k.machine.tree s) c (met_by k s c))) (reply.Value (unwrap_or write (live_value k.machine c))) in z) off)

pub answered : (cells : List CellParts) (c : ℕ) (cell : CellParts) (P : CellParts → Type 0) → slice_get cells c ≡ Some cell → IfSome (slice_get cells c) P → P cell
answered cells c cell P at h = let Q : Option CellParts → Type 0 = λ o. IfSome o P in subst Q at h

pub on_err : {A E : Type 0} (r : Result A E) (P : Type 0) → P → OnErr r P
on_err (Ok x) P p = tt
on_err (Err e) P p = p
