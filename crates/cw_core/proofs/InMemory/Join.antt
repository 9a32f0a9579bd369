-- A core's parts and fields at a join.
use Rattle.std.proofs.Common.{◌≡◌, ℕ, ◌+◌, ◌%◌, ◌<◌, List, ◌∷◌, length, refl, ap, sym, ◌∙◌, subst, arith, Bool, true, false, cond, Option, None, inl, inr}
use Rattle.std.specs.Prelude.{◌&&◌, not}
use Rattle.std.specs.List.{list_all}
use Rattle.std.proofs.lemmas.Bool.{and_parts, not-true}
use Rattle.std.proofs.lemmas.List.{length-map}
use Rattle.cw_tree.specs.declared.node.Node.{Node}
use Rattle.cw_tree.specs.Nodes.{is_fork_kind, is_strand, is_fork}
use Rattle.cw_tree.specs.Walks.{has}
use Rattle.cw_tree.specs.Series.{strand_of, children}
use Rattle.cw_tree.proofs.Lists.{In}
use Rattle.cw_tree.proofs.Walks.There.{node_there}
use Rattle.cw_tree.proofs.Walks.Strands.{strand_of_le}
use Rattle.cw_stack.specs.Cells.{CellParts}
use Rattle.cw_trace.specs.Columns.{ColumnTable, used, is_trace, back_to, around_fork, merged}
use Rattle.cw_trace.specs.Stands.{fork_column}
use Rattle.cw_trace.proofs.Keeps.Meaning.{odd_column}
use Rattle.cw_open.specs.Machine.{has_finished}
use Rattle.cw_open.proofs.Laws.Named.{strand_is}
use Rattle.cw_core.specs.declared.cores.Core.TheInside.{Inside}
use Rattle.cw_core.specs.declared.event.Event.TheVariants as event
use Rattle.cw_tree.proofs.Walks.Kin.{fork_child}
use Rattle.cw_tree.proofs.InOrder.DepthFirst.{child_is}
use Rattle.cw_core.specs.declared.row.Row.{Row}
use Rattle.cw_core.specs.State.{CoreState, has_columns, is_split}
use Rattle.cw_core.specs.Events.{fits, after_event}
use Rattle.cw_core.specs.Kept.{IsRow, AreParts, IsVictim, with_row_changed, with_joined, with_back, least}
use Rattle.cw_core.specs.InMemory.{state_of, IsCoreInMemory}
use Rattle.cw_core.proofs.Events.Kept.{events}
use Rattle.cw_core.proofs.Events.Going.{well}
use Rattle.cw_core.proofs.Events.Ordering.{columns_used}
use Rattle.cw_core.proofs.Events.Forks.{names}
use Rattle.cw_core.proofs.Events.Places.{waits_for}
use Rattle.cw_core.proofs.Kept.PartsGrow.{unspent, none_spent}
use Rattle.cw_core.proofs.Fits.Ready.{row_there}
use Rattle.cw_core.proofs.Kept.SameTree.{forks_same, held_same}
use Rattle.cw_core.proofs.Kept.Rejoining.{join_rows}
use Rattle.cw_core.proofs.InMemory.Out.{seen, now_of}

pub record MayJoin (k : CoreState) (f : ℕ) : Type 0 where
  pub fork : is_fork k.machine.tree f ≡ true
  pub unjoined : has k.machine.joined f ≡ false
  pub all : list_all (has_finished k.machine) (children k.machine.tree f) ≡ true

pub may_join : (k : CoreState) (f : ℕ) → fits k (event.Join f) ≡ true → MayJoin k f
may_join k f fit =
    let m = k.machine in
    let x = and_parts (is_fork m.tree f && not (has m.joined f)) (list_all (has_finished m) (children m.tree f)) (now_of k (event.Join f) fit) in
    let y = and_parts (is_fork m.tree f) (not (has m.joined f)) x.0 in
    record { fork = y.0; unjoined = not-true (has m.joined f) y.1; all = x.1 }

pub join_there : (k : CoreState) (f : ℕ) → fits k (event.Join f) ≡ true → f < length k.machine.tree
join_there k f fit = node_there (λ y. is_fork_kind y.kind) k.machine.tree f (may_join k f fit).fork

abbrev pub tier_joined : CoreState → ℕ → ColumnTable
tier_joined k f = cond (is_split k f) (merged (fork_column k.machine.tree f) k.tier) k.tier

joined_used : (k : CoreState) (f : ℕ) → used (tier_joined k f) ≡ used k.tier
joined_used k f = by (is_split k f) where
  by : (b : Bool) → used (cond b (merged (fork_column k.machine.tree f) k.tier) k.tier) ≡ used k.tier
  by true = length-map k.tier.owners (back_to (around_fork k.tier (fork_column k.machine.tree f)) (fork_column k.machine.tree f))
  by false = refl

joined_room : (k : CoreState) (f : ℕ) → (tier_joined k f).room ≡ k.tier.room
joined_room k f = by (is_split k f) where
  by : (b : Bool) → (cond b (merged (fork_column k.machine.tree f) k.tier) k.tier).room ≡ k.tier.room
  by true = refl
  by false = refl

module _ (k : CoreState) (rows : List Row) (forks : List ℕ) (cells : List CellParts) (last : Option ℕ) (w : AreParts k rows forks cells last) (f : ℕ) (may : MayJoin k f) where
  abbrev t : List Node
  t = k.machine.tree

  half : (h : ℕ) → In h (children t f) → (is_strand t h ≡ true) × (h < length t)
  half h i =
      let b = child_is t f h i in
      (fork_child t (well k.machine.first k w.core).sound.tree h b.some b.there (ap (is_fork t) b.parent ∙ may.fork), b.there)

  pub halves_there : (r : Row) → IsRow k f r → (is_strand t r.made.left ≡ true) × (r.made.left < length t) × (is_strand t r.made.right ≡ true) × (r.made.right < length t)
  halves_there r row =
      let e = row.made.halves may.fork in
      let P : List ℕ → Type 0 = λ ns. In r.made.left ns in
      let Q : List ℕ → Type 0 = λ ns. In r.made.right ns in
      let a = half r.made.left (subst P (sym e) (inl refl)) in
      let b = half r.made.right (subst Q (sym e) (inr (inl refl))) in
      (a.0, a.1, b.0, b.1)

  there : f < length t
  there = node_there (λ y. is_fork_kind y.kind) t f may.fork

  pub strand_low : strand_of t f < length t
  strand_low = let le = strand_of_le t (well k.machine.first k w.core).sound.tree.rooted f there in let h = there in omega arith

  quiet : IsVictim k.machine (strand_of t f) None
  quiet =
      let p = strand_of t f in
      let z = row_there k rows forks cells last w p strand_low in
      let row = w.rowed.each p z.0 z.1 in
      let strand : is_strand t p ≡ true = strand_is t (well k.machine.first k w.core).sound.tree.root f in
      let waiting = sym (row.now.waits strand) ∙ waits_for k.machine p f there may.fork refl may.unjoined in
      let P : Option ℕ → Type 0 = λ o. IsVictim k.machine p o in
      subst P (row.now.quiet strand waiting) (row.now.victim strand)

  pub join_parts : (r l q : Row) → IsRow k f r → IsRow k r.made.left l → IsRow k r.made.right q → fits k (event.Join f) ≡ true
      → AreParts (after_event k (event.Join f)) (with_row_changed with_joined f (with_row_changed (with_back (least l.now.victim q.now.victim)) (strand_of t f) rows)) forks cells last
  join_parts r l q row left right fit =
      let h = halves_there r row in
      let m = k.machine in
      let d = tier_joined k f in
      record {
        core = (events m.first k (event.Join f) w.core fit).1;
        few = w.few;
        drawn = w.drawn;
        askers = w.askers;
        rowed = join_rows m.first k w.core w.askers f may.fork may.unjoined may.all d (joined_used k f) (joined_room k f) r.made.left r.made.right (row.made.halves may.fork) l.now.victim q.now.victim (left.now.victim h.0) (right.now.victim h.2) quiet rows w.rowed;
        forked = forks_same k m.finished (f ∷ m.joined) m.stopped d k.splits k.halt (joined_used k f) (joined_room k f) forks w.forked;
        held = λ c cell e. held_same k m.finished (f ∷ m.joined) m.stopped d k.splits k.halt (joined_used k f) (joined_room k f) c cell (w.held c cell e);
        firsts = w.firsts;
        lists = w.lists;
        told = none_spent k (after_event k (event.Join f)) (unspent k (event.Join f) refl fit) refl refl ∙ w.told;
      }

  -- ## The columns of a fork that was split

  parts : (r : Row) → IsRow k f r → r.now.split ≡ true → (has_columns k f ≡ true) × (has k.splits (fork_column t f) ≡ true) × (r.made.column ≡ fork_column t f)
  parts r row e =
      let z = and_parts (has_columns k f) (has k.splits (fork_column t f)) (row.now.split may.fork ∙ e) in
      (z.0, z.1, sym (row.made.forked may.fork (sym (row.made.columns may.fork) ∙ z.0)))

  low_at : has_columns k f ≡ true → fork_column t f + 1 < used k.tier
  low_at e = columns_used k (well k.machine.first k w.core) w.core.joined w.core.left_first w.core.stands f may.fork e

  pub merge_low : (r : Row) → IsRow k f r → r.now.split ≡ true → r.made.column < used k.tier
  merge_low r row e = let z = parts r row e in let l = low_at z.0 in let q = z.2 in omega arith

  pub merge_left : (r : Row) → IsRow k f r → r.now.split ≡ true → r.made.column % 2 ≡ 1
  merge_left r row e = ap (λ n. n % 2) (parts r row e).2 ∙ odd_column t f

  pub merge_named : (r : Row) → IsRow k f r → r.now.split ≡ true → is_trace k.tier r.made.column ≡ true
  merge_named r row e =
      let z = parts r row e in
      ap (is_trace k.tier) z.2 ∙ names k.machine.first k w.core f may.fork may.unjoined true z.1 (low_at z.0)

  pub merge_is : (r : Row) → IsRow k f r → cond r.now.split (merged r.made.column k.tier) k.tier ≡ tier_joined k f
  merge_is r row = by r.now.split refl where
    by : (b : Bool) → r.now.split ≡ b → cond b (merged r.made.column k.tier) k.tier ≡ tier_joined k f
    by true e = ap (λ c. merged c k.tier) (parts r row e).2 ∙ sym (ap (λ b. cond b (merged (fork_column t f) k.tier) k.tier) (row.now.split may.fork ∙ e))
    by false e = sym (ap (λ b. cond b (merged (fork_column t f) k.tier) k.tier) (row.now.split may.fork ∙ e))

-- ## Fields

module _ (a : Inside) (i : IsCoreInMemory a) (k : CoreState) (view : state_of a ≡ k) (f : ℕ) (fit : fits k (event.Join f) ≡ true) where
  abbrev j : CoreState
  j = state_of a

  pub fits_here : fits j (event.Join f) ≡ true
  fits_here = seen a k (λ k. fits k (event.Join f) ≡ true) view fit

  pub may_here : MayJoin j f
  may_here = may_join j f fits_here

  pub row_here : (n : ℕ) (r : Row) → IsRow k n r → IsRow j n r
  row_here n r row = seen a k (λ k. IsRow k n r) view row

  module _ (b : Inside) (r : Row) (row : IsRow j f r) (more : b.joined ≡ f ∷ a.joined) (tier : b.tier.columns ≡ cond r.now.split (merged r.made.column a.tier.columns) a.tier.columns) where
    abbrev whole : Inside
    whole = record a { tier = b.tier; joined = b.joined; rows = b.rows }

    here : state_of whole ≡ after_event j (event.Join f)
    here =
        ap (λ c. state_of (record a { tier = record b.tier { columns = c }; joined = b.joined; rows = b.rows })) (tier ∙ merge_is j a.rows.items a.forks.items a.cells.items a.spent i f may_here r row)
        ∙ ap (λ js. let y : CoreState = record j { machine = record j.machine { joined = js }; tier = tier_joined j f } in y) more

    pub join_state : state_of whole ≡ after_event k (event.Join f)
    join_state = here ∙ ap (λ k. after_event k (event.Join f)) view

    pub join_kept : (l q : Row) → IsRow j r.made.left l → IsRow j r.made.right q → b.rows.items ≡ with_row_changed with_joined f (with_row_changed (with_back (least l.now.victim q.now.victim)) r.made.strand a.rows.items) → IsCoreInMemory whole
    join_kept l q left right rows =
        let P : CoreState → Type 0 = λ z. AreParts z b.rows.items a.forks.items a.cells.items a.spent in
        let Q : List Row → Type 0 = λ rs. AreParts (after_event j (event.Join f)) rs a.forks.items a.cells.items a.spent in
        let parts = join_parts j a.rows.items a.forks.items a.cells.items a.spent i f may_here r l q row left right fits_here in
        let at = ap (λ s. with_row_changed with_joined f (with_row_changed (with_back (least l.now.victim q.now.victim)) s a.rows.items)) row.made.strand in
        subst P (sym here) (subst Q (at ∙ sym rows) parts)
