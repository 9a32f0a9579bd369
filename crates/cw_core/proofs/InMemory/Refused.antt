-- A core's fields after an access that is refused.
use Rattle.std.proofs.Common.{◌≡◌, ℕ, ◌+◌, ◌-◌, ◌^◌, ◌<◌, List, [], ◌∷◌, ◌++◌, length, refl, ap, sym, ◌∙◌, subst, arith, true, false, cond, Option, Some, None, nat_eq}
use Rattle.std.specs.Prelude.{◌&&◌, not, ℤ, slice_get, unwrap_or, is_none, IfSome}
use Rattle.std.specs.List.{suffix_len}
use Rattle.std.specs.Option.{option_map_or}
use Rattle.std.proofs.lemmas.Bool.{and_parts, eq-eqb}
use Rattle.std.proofs.lemmas.List.Sums.{suffix_len-le-length}
use Rattle.cw_tree.specs.declared.node.Node.{Node}
use Rattle.cw_tree.specs.declared.conflict.Conflict.{Conflict}
use Rattle.cw_tree.specs.declared.node.Kind.TheVariants.{Tried}
use Rattle.cw_tree.specs.Nodes.{is_block_kind, is_pending_state, stamp_of, is_pending, fresh_node}
use Rattle.cw_tree.specs.Walks.{IsRooted, path, is_above, may_fall}
use Rattle.cw_tree.specs.Series.{strand_of, children, place}
use Rattle.cw_tree.specs.Attempts.{tried_cell, same_cell, block_attempt, attempt_of}
use Rattle.cw_tree.specs.Refusals.{refused_node}
use Rattle.cw_tree.specs.AccessStacks.{access_at, stamps}
use Rattle.cw_tree.specs.Newest.{last_eight}
use Rattle.cw_tree.specs.VictimsAt.{victim_at}
use Rattle.cw_tree.proofs.Walks.There.{node_there}
use Rattle.cw_tree.proofs.NextNodes.Growing.{strand_of_grown, strand_of_new}
use Rattle.cw_stack.specs.Cells.{CellParts}
use Rattle.cw_open.specs.Machine.{OpenMachine, live_value, is_running, is_free}
use Rattle.cw_open.specs.Steps.{Met, refusal}
use Rattle.cw_open.proofs.Open.Standing.{stands}
use Rattle.cw_open.proofs.Open.TreeSteps.{free_runs}
use Rattle.cw_open.proofs.Refused.Victims.{outermost_in}
use Rattle.cw_core.specs.declared.event.Event.TheVariants as event
use Rattle.cw_core.specs.declared.event.Reply.{Reply}
use Rattle.cw_core.specs.declared.event.Reply.TheVariants as reply
use Rattle.cw_core.specs.declared.held.Barrier.{Barrier}
use Rattle.cw_core.specs.declared.held.Refused.{Refused}
use Rattle.cw_core.specs.declared.row.Row.{Row}
use Rattle.cw_core.specs.declared.cores.Core.TheInside.{Inside}
use Rattle.cw_core.specs.State.{CoreState, waits_for_left, spent}
use Rattle.cw_core.specs.Events.{fits, met_by, after_event, reply_to}
use Rattle.cw_core.specs.Laws.{IsCore}
use Rattle.cw_core.specs.Kept.{IsRow, AreParts, IsVictim, IsBarrier, with_row_changed, with_tail, with_victim, tried_again, tried_tail, leaf_row, conflict_with}
use Rattle.cw_core.specs.InMemory.{state_of, IsCoreInMemory}
use Rattle.cw_core.proofs.Events.Going.{well, at_place, pending_stamped}
use Rattle.cw_core.proofs.Events.Kept.{events}
use Rattle.cw_core.proofs.Kept.PartsGrow.{unspent}
use Rattle.cw_core.proofs.Fits.Ready.{children_few, row_there, one_more}
use Rattle.cw_core.proofs.Kept.Accesses.{access_ready}
use Rattle.cw_core.proofs.Kept.Entering.{live_is}
use Rattle.cw_core.proofs.InMemory.Out.{seen}
use Rattle.cw_core.proofs.InMemory.Out as out
use Rattle.cw_core.proofs.InMemory.Access.{runs_access}
use Rattle.cw_core.proofs.Kept.RefusedStakes.{victim_free, victim_marked}
use Rattle.cw_core.proofs.Kept.RefusedParts.{refused_state, counted_same, refused_parts}
use Rattle.cw_core.proofs.Kept.RefusedTold.{after_refused, victim_attempt, own_attempt, spends, refused_access, refused_block}

-- the conflict of a refusal is d if its parts are those of d
told_by : (b : Barrier) (c asker : ℕ) (r : Refused) (chain : List ℕ) (d : Conflict) → c ≡ d.cell → asker ≡ d.asker → b.last.stamp ≡ d.last → b.block ≡ d.block → r.victim ≡ d.victim → r.attempt ≡ d.attempt → chain ≡ d.chain
    → conflict_with b c asker r chain ≡ d
told_by b c asker r chain d cell asks last block victim attempt listed =
    ap (λ q. let z : Conflict = record (conflict_with b c asker r chain) { cell = q } in z) cell
    ∙ ap (λ q. let z : Conflict = record d { last = q; asker = asker; block = b.block; victim = r.victim; attempt = r.attempt; chain = chain } in z) last
    ∙ ap (λ q. let z : Conflict = record d { asker = q; block = b.block; victim = r.victim; attempt = r.attempt; chain = chain } in z) asks
    ∙ ap (λ q. let z : Conflict = record d { block = q; victim = r.victim; attempt = r.attempt; chain = chain } in z) block
    ∙ ap (λ q. let z : Conflict = record d { victim = q; attempt = r.attempt; chain = chain } in z) victim
    ∙ ap (λ q. let z : Conflict = record d { attempt = q; chain = chain } in z) attempt
    ∙ ap (λ q. let z : Conflict = record d { chain = q } in z) listed

-- one more refusal of a cell in its place has a number
pub tried_fits : (a : Inside) → IsCoreInMemory a → (n : ℕ) → n < length a.tree → (r : Row) → IsRow (state_of a) n r → r.tail.tried + 1 < 2 ^ 32
tried_fits a i n there r row =
    let same : suffix_len (λ m. same_cell (tried_cell a.tree m) (Some r.tail.cell)) (children a.tree n) ≡ r.tail.tried = row.tail.tried r.tail.cell ∙ ap (λ b. cond b r.tail.tried 0) (eq-eqb r.tail.cell r.tail.cell refl) in
    let z = suffix_len-le-length (λ m. same_cell (tried_cell a.tree m) (Some r.tail.cell)) (children a.tree n) in
    let y = children_few a.tree n (omega arith) in
    let few = i.few in
    omega (arith, z, y, same, few)

-- ## What the code of a refusal finds

pub record Finds (a : Inside) (s c : ℕ) (b : Barrier) (own parent : Row) (v : Option ℕ) : Type 0 where
  pub fit : fits (state_of a) (event.Access s c None) ≡ true
  pub barrier : IsBarrier (state_of a) s c b
  pub at : own.now.place ≡ place a.tree s
  pub there : own.now.place < length a.tree
  pub strand : s < length a.tree
  pub row : IsRow (state_of a) (place a.tree s) parent
  pub found : v ≡ victim_at a.tree (access_at a.tree b.last.stamp) (place a.tree s)

pub finds : (a : Inside) → IsCoreInMemory a → (k : CoreState) → state_of a ≡ k → (s c : ℕ) → fits k (event.Access s c None) ≡ true → (b : Barrier) → IsBarrier k s c b
    → (own : Row) → IsRow k s own → (parent : Row) → IsRow k own.now.place parent → (v : Option ℕ) → v ≡ victim_at k.machine.tree (access_at k.machine.tree b.last.stamp) own.now.place
    → Finds a s c b own parent v
finds a i k e s c fit b w own row parent of v found =
    let f = out.finds a i k e s (runs_access k s c None fit) own row in
    let P : ℕ → Type 0 = λ n. IsRow (state_of a) n parent in
    record {
      fit = seen a k (λ k. fits k (event.Access s c None) ≡ true) e fit;
      barrier = seen a k (λ k. IsBarrier k s c b) e w;
      at = f.at;
      there = (let h = f.there in let q = f.at in omega arith);
      strand = f.strand;
      row = subst P f.at (seen a k (λ k. IsRow k own.now.place parent) e of);
      found = seen a k (λ k. v ≡ victim_at k.machine.tree (access_at k.machine.tree b.last.stamp) own.now.place) e found ∙ ap (victim_at a.tree (access_at a.tree b.last.stamp)) f.at;
    }

-- what was refused, as the code tells it
pub record Tells (a : Inside) (s tried : ℕ) (v : Option ℕ) (x : Refused) : Type 0 where
  pub victim : x.victim ≡ option_map_or (stamp_of a.tree) v 0
  pub attempt : x.attempt ≡ option_map_or (block_attempt a.tree) v tried
  pub strand : x.strand ≡ option_map_or (strand_of a.tree) v s

pub tells : (a : Inside) (k : CoreState) → state_of a ≡ k → (s : ℕ) (v : Option ℕ) (x : Refused) (tried again : ℕ)
    → x.victim ≡ option_map_or (stamp_of k.machine.tree) v 0 → x.attempt ≡ option_map_or (block_attempt k.machine.tree) v tried → x.strand ≡ option_map_or (strand_of k.machine.tree) v s → tried ≡ again
    → Tells a s again v x
tells a k e s v x tried again victim attempt strand counted = record {
  victim = victim ∙ ap (λ k. option_map_or (stamp_of k.machine.tree) v 0) (sym e);
  attempt = attempt ∙ ap (λ k. option_map_or (block_attempt k.machine.tree) v tried) (sym e) ∙ ap (option_map_or (block_attempt a.tree) v) counted;
  strand = strand ∙ ap (λ k. option_map_or (strand_of k.machine.tree) v s) (sym e);
}

module _ (a : Inside) (i : IsCoreInMemory a) (s c : ℕ) (b : Barrier) (own parent : Row) (v : Option ℕ) (h : Finds a s c b own parent v) where
  abbrev k : CoreState
  k = state_of a

  abbrev m : OpenMachine
  m = k.machine

  abbrev t : List Node
  t = a.tree

  abbrev p : ℕ
  p = place t s

  abbrev f : ℕ
  f = length t

  abbrev u : List Node
  u = t ++ fresh_node p (Tried c) 0 ∷ []

  abbrev met : Met
  met = met_by k s c

  abbrev conflict : Conflict
  conflict = refusal m p c met

  pub free : is_free m s ≡ true
  free = (access_ready k s c None i.core h.fit).0

  pub ready : waits_for_left k s ≡ false
  ready = (access_ready k s c None i.core h.fit).1

  running : is_running m s ≡ true
  running = free_runs m s free

  rooted : IsRooted t
  rooted = (well m.first k i.core).sound.tree.rooted

  there : p < length t
  there = (at_place m.first k i.core s running ready).there

  abbrev z : CoreState
  z = refused_state m.first k i.core s free ready c conflict refl

  -- ## The victim

  found_so : v ≡ victim_at t (access_at t met.last) p
  found_so = h.found ∙ ap (λ l. victim_at t (access_at t l) p) h.barrier.last

  pub pending : (y : ℕ) → v ≡ Some y → is_pending t y ≡ true
  pending y e = (and_parts (is_pending t y) (not (is_above t y (access_at t b.last.stamp))) (outermost_in (may_fall t (access_at t b.last.stamp)) (path t p) y (sym h.found ∙ e)).1).0

  pub each_pending : IfSome v (λ y. is_pending t y ≡ true)
  each_pending = by v refl where
    by : (o : Option ℕ) → v ≡ o → IfSome o (λ y. is_pending t y ≡ true)
    by None e = tt
    by (Some y) e = pending y e

  stamped : (y : ℕ) → v ≡ Some y → 0 < stamp_of t y
  stamped y e = pending_stamped m.first k i.core y (pending y e)

  low : (y : ℕ) → v ≡ Some y → y < length t
  low y e = node_there (λ x. is_block_kind x.kind && is_pending_state x.state) t y (pending y e)

  victim_is : option_map_or (stamp_of t) v 0 ≡ conflict.victim
  victim_is = ap (λ o. option_map_or (stamp_of t) o 0) found_so

  named : (o : Option ℕ) → v ≡ o → conflict.victim ≡ option_map_or (stamp_of t) o 0
  named o e = sym victim_is ∙ ap (λ o. option_map_or (stamp_of t) o 0) e

  attempt_is : option_map_or (block_attempt t) v (tried_again c parent.tail) ≡ conflict.attempt
  attempt_is = sym (ap (attempt_of u f) (sym found_so) ∙ by v refl) where
    by : (o : Option ℕ) → v ≡ o → attempt_of u f o ≡ option_map_or (block_attempt t) o (tried_again c parent.tail)
    by None e = own_attempt m.first k i.core s free ready c parent.tail h.row.tail
    by (Some y) e =
        let q = row_there k a.rows.items a.forks.items a.cells.items a.spent i y (low y e) in
        let of = i.rowed.each y q.0 q.1 in
        victim_attempt m.first k i.core s free ready c y (pending y e) q.0 of ∙ sym (of.made.attempt (pending y e))

  marked : (o : Option ℕ) → IsVictim m s o → IsVictim z.machine s v
  marked o q = by v refl where
    by : (n : Option ℕ) → v ≡ n → IsVictim z.machine s n
    by None e = victim_free m.first k i.core s free ready c conflict refl (counted_same m.first k i.core s free ready c conflict refl) o q (named None e)
    by (Some y) e = victim_marked m.first k i.core s free ready c conflict refl (counted_same m.first k i.core s free ready c conflict refl) o q y (pending y e) (stamped y e) (named (Some y) e)

  -- ## The budget

  spender : strand_of u (refused_node u conflict) ≡ option_map_or (strand_of t) v s
  spender = by v refl where
    by : (o : Option ℕ) → v ≡ o → strand_of u (refused_node u conflict) ≡ option_map_or (strand_of t) o s
    by None e = ap (strand_of u) (refused_access m.first k i.core s free ready c conflict refl (named None e)) ∙ strand_of_new t (fresh_node p (Tried c) 0) rooted there ∙ (stands m (well m.first k i.core).sound.tree (well m.first k i.core).nested s running).strand
    by (Some y) e = ap (strand_of u) (refused_block m.first k i.core s free ready c conflict refl y (pending y e) (stamped y e) (named (Some y) e)) ∙ strand_of_grown t (fresh_node p (Tried c) 0 ∷ []) rooted y (low y e)

  none_spent : is_none (spent k) ≡ true
  none_spent = unspent k (event.Access s c None) refl h.fit

  spent_is : spent z ≡ cond (nat_eq conflict.attempt k.budget) (Some (option_map_or (strand_of t) v s)) None
  spent_is = spends m.first k i.core s free ready c conflict refl none_spent ∙ ap (λ q. cond (nat_eq conflict.attempt k.budget) (Some q) None) spender

  spent_before : a.spent ≡ None
  spent_before = sym i.told ∙ by (spent k) none_spent where
    by : (o : Option ℕ) → is_none o ≡ true → o ≡ None
    by None e = refl
    by (Some y) e = absurd (cc e)

  module _ (x : Refused) (told : Tells a s (tried_again c parent.tail) v x) where
    -- what is spent
    pub spends_so : (last : Option ℕ) → last ≡ cond (nat_eq x.attempt a.budget) (Some x.strand) a.spent → spent z ≡ last
    spends_so last is =
        sym (is
        ∙ ap (λ n. cond (nat_eq n a.budget) (Some x.strand) a.spent) (told.attempt ∙ attempt_is)
        ∙ ap (λ n. cond (nat_eq conflict.attempt a.budget) (Some n) a.spent) told.strand
        ∙ ap (cond (nat_eq conflict.attempt a.budget) (Some (option_map_or (strand_of t) v s))) spent_before
        ∙ sym spent_is)

    -- the conflict
    pub conflict_is : (asker : ℕ) → asker ≡ f → (cell : CellParts) → slice_get a.cells.items c ≡ Some cell → (chain : List ℕ) → chain ≡ last_eight (stamps cell.entries) → conflict_with b c asker x chain ≡ conflict
    conflict_is asker asks cell at chain is =
        told_by b c asker x chain conflict refl asks h.barrier.last h.barrier.block (told.victim ∙ victim_is) (told.attempt ∙ attempt_is) (is ∙ ap last_eight (sym (live_is k a.rows.items a.forks.items a.cells.items a.spent i c cell at)))

  -- ## The core

  core_after : IsCore m.first z
  core_after = let P : CoreState → Type 0 = λ x. IsCore m.first x in subst P (after_refused k s c None h.barrier.met) (events m.first k (event.Access s c None) i.core h.fit).1

  module _ (n : Inside) (grown : n.tree ≡ u) (more : n.conflicts.items ≡ a.conflicts.items ++ conflict ∷ []) where
    abbrev pub next : Inside
    next = record a { tree = n.tree; rows = n.rows; conflicts = n.conflicts; spent = n.spent }

    same : state_of next ≡ z
    same = ap (λ t. state_of (record next { tree = t })) grown ∙ ap (λ cs. let y : CoreState = record k { machine = record m { tree = u; conflicts = cs } } in y) more

    pub refused_view : (write : Option ℤ) → state_of next ≡ after_event k (event.Access s c write)
    refused_view write = same ∙ sym (after_refused k s c write h.barrier.met)

    pub refused_kept : (length a.tree ≡ 2 ^ 32 - 1 → ⊥) → n.rows.items ≡ with_row_changed (with_victim v) s (with_row_changed (with_tail (tried_tail c parent.tail)) p a.rows.items ++ leaf_row s 0 ∷ []) → spent z ≡ n.spent
        → IsCoreInMemory next
    refused_kept full rows told =
        let q = row_there k a.rows.items a.forks.items a.cells.items a.spent i p there in
        let parts = refused_parts m.first k i.core s free ready c conflict refl a.rows.items a.forks.items a.cells.items a.spent i core_after (one_more (length a.tree) i.few full) v marked q.0 q.1 n.spent told in
        let P : CoreState → Type 0 = λ x. AreParts x n.rows.items a.forks.items a.cells.items n.spent in
        let Q : List Row → Type 0 = λ rs. AreParts z rs a.forks.items a.cells.items n.spent in
        subst P (sym same) (subst Q (again q.0 (i.rowed.each p q.0 q.1) ∙ sym rows) parts) where
          again : (o : Row) → IsRow k p o → with_row_changed (with_victim v) s (with_row_changed (with_tail (tried_tail c o.tail)) p a.rows.items ++ leaf_row s 0 ∷ []) ≡ with_row_changed (with_victim v) s (with_row_changed (with_tail (tried_tail c parent.tail)) p a.rows.items ++ leaf_row s 0 ∷ [])
          again o of = ap (λ n. with_row_changed (with_victim v) s (with_row_changed (with_tail (record { started = true; aborted = 0; tried = n; cell = c })) p a.rows.items ++ leaf_row s 0 ∷ [])) (sym (own_attempt m.first k i.core s free ready c o.tail of.tail) ∙ own_attempt m.first k i.core s free ready c parent.tail h.row.tail)

  pub refused_reply : (write : Option ℤ) (d : Conflict) → d ≡ conflict → reply.Conflict d ≡ reply_to k (event.Access s c write)
  refused_reply write d is = ap reply.Conflict is ∙ sym (ap (λ b. let y : Reply = cond b (reply.Conflict conflict) (reply.Value (unwrap_or write (live_value m c))) in y) h.barrier.met)
