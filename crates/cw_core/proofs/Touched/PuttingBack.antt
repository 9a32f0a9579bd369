-- What is put back of the cells that were accessed beneath a block is what the open machine's block puts back.
use Rattle.std.proofs.Common.{◌≡◌, ℕ, ◌+◌, ◌<◌, ◌≤◌, pos, List, [], ◌∷◌, length, map, refl, ap, sym, ◌∙◌, subst, arith, Bool, true, false, cond, Option, Some, inl, inr, nat_lt}
use Rattle.std.specs.Prelude.{◌&&◌, not, take_while, slice_get, slice_index_or, is_some, Contains}
use Rattle.std.specs.Option.{option_map_or}
use Rattle.std.specs.BTreeMap.{BTreeMap, get, IsOrdered}
use Rattle.std.specs.Ordering.{nat_cmp}
use Rattle.std.proofs.lemmas.Bool.{and_parts, and_from, cases_Bool, lt-ltb, le-ltb, false_from_ne_true}
use Rattle.std.proofs.lemmas.List.{length-map, get_or-map}
use Rattle.std.proofs.lemmas.List.Sums.{take_while-cons}
use Rattle.std.proofs.lemmas.Option.{slice_get_within, get_or_from_slice_get}
use Rattle.cw_code.specs.declared.Back.{Back}
use Rattle.cw_tree.specs.declared.node.Node.{Node}
use Rattle.cw_tree.specs.declared.access.Entry.{Entry}
use Rattle.cw_tree.specs.Nodes.{touches_kind, stamp_of}
use Rattle.cw_tree.specs.Walks.{is_above}
use Rattle.cw_tree.specs.Series.{place}
use Rattle.cw_tree.specs.Accesses.{written, cell_value}
use Rattle.cw_tree.specs.AccessStacks.{access_at, written_by, stamps}
use Rattle.cw_tree.specs.Cancels.{wrote_in, before_block}
use Rattle.cw_tree.proofs.Lists.{In, any_from, any_in}
use Rattle.cw_tree.proofs.Members.{map_in, in_map}
use Rattle.cw_tree.proofs.Rising.{Rises}
use Rattle.cw_tree.proofs.Walks.There.{node_there}
use Rattle.cw_stack.specs.Cells.{CellParts}
use Rattle.cw_open.specs.Machine.{OpenMachine, live, is_running, in_block}
use Rattle.cw_open.specs.Steps.{puts_back}
use Rattle.cw_open.proofs.Laws.Listing.{listed}
use Rattle.cw_open.proofs.Laws.Named.{access_named}
use Rattle.cw_core.specs.declared.row.Row.{Row}
use Rattle.cw_core.specs.declared.beneath.Touched.{Touched}
use Rattle.cw_core.specs.State.{CoreState, waits_for_left}
use Rattle.cw_core.specs.Kept.{AreParts}
use Rattle.cw_core.specs.Undone.{Among, is_beneath, before_stamp, MayUndo}
use Rattle.cw_core.specs.Touched.{IsAccessBeneath, AreTouched, HaveEntries, value_before, backs_of}
use Rattle.cw_core.proofs.Events.Going.{state, well}
use Rattle.cw_core.proofs.Kept.Rolled.{among_get, among_in, in_among, listed_cell, cell_listed, may_undo}
use Rattle.cw_core.proofs.Undone.Undoing.{among_stamp}
use Rattle.cw_core.proofs.Touched.InOrder.{entries_in_order}

-- ## The entries before those beneath a block

none_before : (s : ℕ) (es : List Entry) → ((e : Entry) → Among e es → s ≤ e.mark.stamp) → before_stamp s es ≡ []
none_before s [] h = refl
none_before s (x ∷ es) h = ap (λ v. cond v (x ∷ before_stamp s es) (before_stamp s es)) (le-ltb x.mark.stamp s (h x (inl refl)))
    ∙ none_before s es (λ e i. h e (inr i))

-- they are those before the stamp of the first that is beneath it
front_is : (p : Entry → Bool) (s : ℕ) (es : List Entry) → Rises (stamps es) → (g : Entry) → Among g es → g.mark.stamp ≡ s → p g ≡ true
    → ((e : Entry) → Among e es → p e ≡ true → s ≤ e.mark.stamp) → take_while (λ e. not (p e)) es ≡ before_stamp s es
front_is p s [] rise g i at on least = absurd i
front_is p s (x ∷ es) rise g i at on least =
    elim (cases_Bool (p x)) [
      | inl h ↦
          (let le : s ≤ x.mark.stamp = least x (inl refl) h in
          take_while-cons (λ e. not (p e)) x es
          ∙ ap (λ v. cond (not v) (x ∷ take_while (λ e. not (p e)) es) []) h
          ∙ sym (none_before s (x ∷ es) (λ e j. elim j [
            | inl q ↦ omega
                (arith, le, ap (λ y. y.mark.stamp) q)
            | inr k ↦ (let less = rise.0 e.mark.stamp (among_in es e k) in omega (arith, le, less))
          ])))
      | inr h ↦
          elim i [
            | inl q ↦ absurd (let f = ap p q in cc (f, h, on))
            | inr k ↦
                (let less = rise.0 g.mark.stamp (among_in es g k) in
                take_while-cons (λ e. not (p e)) x es
                ∙ ap (λ v. cond (not v) (x ∷ take_while (λ e. not (p e)) es) []) h
                ∙ ap (λ ys. x ∷ ys) (front_is p s es rise.1 g k at on (λ e j. least e (inr j)))
                ∙ sym (ap (λ v. cond v (x ∷ before_stamp s es) (before_stamp s es)) (lt-ltb x.mark.stamp s (omega (arith, less, at)))))
          ]
    ]

-- and tell what the accesses before the first one beneath it wrote
writes_before : (t : List Node) (b : ℕ) (es : List Entry) → ((e : Entry) → Among e es → written t (access_at t e.mark.stamp) ≡ written_by e)
    → map (written t) (before_block t b (map (access_at t) (stamps es))) ≡ map written_by (take_while (λ e. not (is_beneath t b e)) es)
writes_before t b [] h = refl
writes_before t b (x ∷ es) h =
    let p : ℕ → Bool = λ u. not (is_above t b u) in
    let q : Entry → Bool = λ e. not (is_beneath t b e) in
    let more = writes_before t b es (λ e i. h e (inr i)) in
    ap (map (written t)) (take_while-cons p (access_at t x.mark.stamp) (map (access_at t) (stamps es)))
    ∙ by (q x) more (h x (inl refl))
    ∙ sym (ap (map written_by) (take_while-cons q x es)) where
      by : (v : Bool) → map (written t) (before_block t b (map (access_at t) (stamps es)))
          ≡ map written_by (take_while (λ e. not (is_beneath t b e)) es) → written t (access_at t x.mark.stamp) ≡ written_by x
          → map (written t) (cond v (access_at t x.mark.stamp ∷ before_block t b (map (access_at t) (stamps es))) [])
          ≡ map written_by (cond v (x ∷ take_while (λ e. not (is_beneath t b e)) es) [])
      by true more own = ap (λ w. w ∷ map (written t) (before_block t b (map (access_at t) (stamps es)))) own ∙ ap (λ ws. written_by x ∷ ws) more
      by false more own = refl

-- ## In a core

module _ (k : CoreState) (rows : List Row) (forks : List ℕ) (cs : List CellParts) (last : Option ℕ) (w : AreParts k rows forks cs last) (s : ℕ)
    (running : is_running k.machine s ≡ true) (ready : waits_for_left k s ≡ false) (within : in_block k.machine s ≡ true)
    (touched : BTreeMap ℕ Touched) (are : AreTouched k.machine.tree (place k.machine.tree s) touched) where
  abbrev t : List Node
  t = k.machine.tree

  abbrev m : OpenMachine
  m = k.machine

  abbrev b : ℕ
  b = place t s

  abbrev stamp : ℕ
  stamp = m.clock + 1

  may : MayUndo t b cs
  may = may_undo k rows forks cs last w s running ready within

  -- the list of a cell
  list_is : (c : ℕ) (x : CellParts) → slice_get cs c ≡ Some x → live m c ≡ stamps x.entries
  list_is c x at = sym (ap (λ ls. listed ls c) w.lists) ∙ listed_cell cs c x at

  -- the entry of a live access beneath the block
  record HasEntry (c n : ℕ) : Type 0 where
    cell : CellParts
    at : slice_get cs c ≡ Some cell
    entry : Entry
    among : Among entry cell.entries
    stamped : entry.mark.stamp ≡ stamp_of t n

  entry_of : (c n : ℕ) → IsAccessBeneath t b c n → HasEntry c n
  entry_of c n own = let z = may.listed c n own.touches own.live own.over in record { cell = z.0; at = z.1; entry = z.2; among = z.3; stamped = z.4 }

  pub have_entries : HaveEntries touched cs
  have_entries c x found =
      let f = (are.each c x found).first in
      let e = entry_of c f.0 f.1 in
      let P : ℕ → Type 0 = λ v. Contains (stamps e.cell.entries) v in
      (e.cell, e.at, may.whole c e.cell e.at, subst P (e.stamped ∙ f.2) (among_stamp e.cell.entries e.entry e.among))

  -- ## Which cells

  abbrev wrote : ℕ → Bool
  wrote c = wrote_in t b stamp (map (access_at t) (live m c))

  abbrev is_write : ℕ → Bool
  is_write u = is_above t b u && nat_lt (stamp_of t u) stamp && is_some (written t u)

  -- a write beneath the block is in the list
  written_listed : (c n : ℕ) → IsAccessBeneath t b c n → is_some (written t n) ≡ true → wrote c ≡ true
  written_listed c n own some =
      let e = entry_of c n own in
      let P : ℕ → Type 0 = λ v. In v (live m c) in
      let Q : List ℕ → Type 0 = λ vs. In e.entry.mark.stamp vs in
      let here : In (stamp_of t n) (live m c) = subst P e.stamped (subst Q (sym (list_is c e.cell e.at)) (among_in e.cell.entries e.entry e.among)) in
      let R : ℕ → Type 0 = λ u. In u (map (access_at t) (live m c)) in
      let there : In n (map (access_at t) (live m c)) = subst R (may.named c n own.touches) (map_in (access_at t) (stamp_of t n) (live m c) here) in
      let low = (well m.first k w.core).clock n (node_there (λ y. touches_kind c y.kind) t n own.touches) in
      any_from is_write n (map (access_at t) (live m c)) there
      (and_from (is_above t b n && nat_lt (stamp_of t n) stamp) (is_some (written t n))
      (and_from (is_above t b n) (nat_lt (stamp_of t n) stamp) own.over (lt-ltb (stamp_of t n) stamp (omega (arith, low.0)))) some)

  -- a write in the list is one beneath the block
  record IsWrite (c : ℕ) : Type 0 where
    node : ℕ
    own : IsAccessBeneath t b c node
    some : is_some (written t node) ≡ true

  listed_written : (c : ℕ) → wrote c ≡ true → IsWrite c
  listed_written c e =
      let (u, there, passes) = any_in is_write (map (access_at t) (live m c)) e in
      let z = and_parts (is_above t b u && nat_lt (stamp_of t u) stamp) (is_some (written t u)) passes in
      let over = (and_parts (is_above t b u) (nat_lt (stamp_of t u) stamp) z.0).0 in
      let (v, here, same) = in_map (access_at t) u (live m c) there in
      let P : List (List ℕ) → Type 0 = λ ls. In v (listed ls c) in
      let x = cell_listed cs c v (subst P (sym w.lists) here) in
      let y = in_among x.0.entries v x.2 in
      let told = may.accesses c x.0 y.0 x.1 y.1 in
      let named : access_at t y.0.mark.stamp ≡ u = ap (access_at t) y.2 ∙ sym same in
      let Q : ℕ → Type 0 = λ n. IsAccessBeneath t b c n in
      record {
        node = u;
        own = subst Q named (record { touches = told.0; live = told.2; over = ap (is_above t b) named ∙ over });
        some = z.1;
      }

  noted_written : (c : ℕ) → wrote c ≡ true → (x : Touched) × (get nat_cmp touched c ≡ Some x)
  noted_written c e = let y = listed_written c e in let z = are.all c y.node y.own in (z.now, z.there)

  wrote_is : (c : ℕ) (x : Touched) → get nat_cmp touched c ≡ Some x → x.wrote ≡ wrote c
  wrote_is c x found =
      elim (cases_Bool (wrote c)) [
        | inl e ↦
            (let y = listed_written c e in
            let z = are.all c y.node y.own in
            let same : z.now ≡ x = (let g = z.there in cc (g, found)) in
            ap (λ v. v.wrote) (sym same) ∙ z.wrote y.some ∙ sym e)
        | inr e ↦
            false_from_ne_true x.wrote (λ on. (let y = (are.each c x found).wrote on in let yes = written_listed c y.0 y.1 y.2 in absurd (cc (e, yes)))) ∙ sym e
      ]

  touched_low : (c : ℕ) (x : Touched) → get nat_cmp touched c ≡ Some x → c < length m.first
  touched_low c x found =
      let f = (are.each c x found).first in
      let e = entry_of c f.0 f.1 in
      let low = slice_get_within cs c e.cell e.at in
      omega (arith, low, length-map cs (λ y. y.first), ap length w.firsts)

  -- ## Which values

  -- what an entry wrote is what its access did
  entries_wrote : (c : ℕ) (x : CellParts) → slice_get cs c ≡ Some x → (e : Entry) → Among e x.entries → written t (access_at t e.mark.stamp) ≡ written_by e
  entries_wrote c x at e i =
      let g = among_get x.entries e i in
      let y = (w.held c x at).entries g.0 e g.1 in
      let here : access_at t e.mark.stamp ≡ y.node = ap (access_at t) (sym y.stamp) ∙ access_named t (well m.first k w.core).sound.stamps c y.node y.touches in
      ap (written t) here ∙ y.wrote

  -- no entry beneath the block comes before the first access that was noted
  first_is_least : (c : ℕ) (x : Touched) → get nat_cmp touched c ≡ Some x → (cell : CellParts) → slice_get cs c ≡ Some cell → (e : Entry)
      → Among e cell.entries → is_beneath t b e ≡ true → x.first ≤ e.mark.stamp
  first_is_least c x found cell at e i over =
      let told = may.accesses c cell e at i in
      let z = are.all c (access_at t e.mark.stamp) (record { touches = told.0; live = told.2; over = over }) in
      let same : z.now ≡ x = (let g = z.there in cc (g, found)) in
      omega (arith, z.first, told.1, ap (λ v. v.first) same)

  first_at : (c : ℕ) (cell : CellParts) → slice_get cs c ≡ Some cell → slice_index_or m.first c (pos 0) ≡ cell.first
  first_at c cell at =
      ap (λ vs. slice_index_or vs c (pos 0)) (sym w.firsts)
      ∙ get_or-map (λ y. y.first) cs c cell (pos 0) (slice_get_within cs c cell at)
      ∙ ap (λ y. y.first) (get_or_from_slice_get cs c cell cell at)

  value_is : (c : ℕ) (x : Touched) → get nat_cmp touched c ≡ Some x
      → option_map_or (value_before x.first) (slice_get cs c) (pos 0) ≡ cell_value (slice_index_or m.first c (pos 0))
      (map (written t) (before_block t b (map (access_at t) (live m c))))
  value_is c x found =
      let f = (are.each c x found).first in
      let e = entry_of c f.0 f.1 in
      let P : List ℕ → Type 0 = λ vs. Rises vs in
      let rise : Rises (stamps e.cell.entries) = subst P (list_is c e.cell e.at) ((state m.first k w.core).listed.rises c) in
      let over : is_beneath t b e.entry ≡ true = ap (λ v. is_above t b (access_at t v)) e.stamped
      ∙ ap (is_above t b) (may.named c f.0 f.1.touches) ∙ f.1.over in
      let front = front_is (is_beneath t b) x.first e.cell.entries rise e.entry e.among (e.stamped ∙ f.2) over (first_is_least c x found e.cell e.at) in
      ap (λ o. option_map_or (value_before x.first) o (pos 0)) e.at
      ∙ ap (λ es. cell_value e.cell.first (map written_by es)) (sym front)
      ∙ ap (cell_value e.cell.first) (sym (writes_before t b e.cell.entries (entries_wrote c e.cell e.at)))
      ∙ ap (λ vs. cell_value e.cell.first (map (written t) (before_block t b (map (access_at t) vs)))) (sym (list_is c e.cell e.at))
      ∙ ap (λ v. cell_value v (map (written t) (before_block t b (map (access_at t) (live m c))))) (sym (first_at c e.cell e.at))

  -- ## The list

  abbrev back_at : ℕ → Back
  back_at c = record { cell = c; value = cell_value (slice_index_or m.first c (pos 0)) (map (written t) (before_block t b (map (access_at t) (live m c)))) }

  pub backs_are : IsOrdered nat_cmp touched → backs_of cs touched.entries ≡ puts_back m s stamp
  backs_are ordered =
      entries_in_order wrote (λ x. x.wrote) (λ e. record {
        cell = e.0;
        value = option_map_or (value_before e.1.first) (slice_get cs e.0)
            (pos 0);
      }) back_at (length m.first) touched ordered
      (λ c x found. (touched_low c x found, wrote_is c x found)) noted_written
      (λ c x found on. ap (λ v. let y : Back = record { cell = c; value = v } in y) (value_is c x found))
