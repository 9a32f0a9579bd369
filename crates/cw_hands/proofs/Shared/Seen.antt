-- Each step of both together is one of the tier, or the tier does not see it.
use Rattle.std.proofs.Common.{◌≡◌, ◌≢◌, ℕ, ◌+◌, ◌<◌, ◌≤◌, List, [], ◌∷◌, ◌++◌, length, refl, ap, sym, ◌∙◌, subst, arith, Bool, true, false, cond, Option, Some, None, inl, inr, nat_lt, nat_eq}
use Rattle.std.specs.Prelude.{◌%◌, ◌&&◌, ◌||◌, not, ℤ, slice_index}
use Rattle.std.specs.List.{list_all}
use Rattle.std.proofs.lemmas.Bool.{and_parts, not-true, not-false, false_from_ne_true, cases_lt, leb-true, leb-false, eqb-true, eq-eqb, ne_eqb}
use Rattle.std.proofs.Math.Bool.{and-true}
use Rattle.std.proofs.lemmas.List.{length-map}
use Rattle.cw_tree.specs.declared.node.Node.{Node}
use Rattle.cw_tree.specs.declared.node.Kind.{Kind}
use Rattle.cw_tree.specs.declared.node.Kind.TheVariants.{Block, Out, Tried, Cancel}
use Rattle.cw_tree.specs.declared.node.BlockState.{BlockState}
use Rattle.cw_tree.specs.declared.node.BlockState.TheVariants.{Committed, Aborted}
use Rattle.cw_tree.specs.Nodes.{is_strand_kind, is_fork_kind, is_block_kind, is_pending_state, parent_of, stamp_of, is_fork, fresh_node, closed}
use Rattle.cw_tree.specs.Walks.{has}
use Rattle.cw_tree.specs.Series.{children, place}
use Rattle.cw_tree.specs.AccessStacks.{access_kind}
use Rattle.cw_tree.specs.NextNodes.{fork_nodes}
use Rattle.cw_tree.proofs.Lists.{all_in}
use Rattle.cw_tree.proofs.InOrder.DepthFirst.{child_in}
use Rattle.cw_tree.proofs.Walks.Kin.{fork_child}
use Rattle.cw_tree.proofs.Walks.There.{pending_there}
use Rattle.cw_tree.proofs.NodeKinds.{fork_no_strand, pending_block, block_stamped}
use Rattle.cw_trace.specs.Columns.{ColumnTable, used, owner, forked, split_at, merged, is_trace, before_split, left_column_of, back_to, around_fork, begun_word, closed_word}
use Rattle.cw_trace.specs.Stands.{column, fork_column, is_apart}
use Rattle.cw_trace.specs.Keeps.{Keeps}
use Rattle.cw_trace.specs.Running.{IsUnstarted}
use Rattle.cw_trace.specs.Hands.{StandsInOrder, gap_at, IsLater}
use Rattle.cw_trace.specs.OrderedRuns.{Moment, GoesOnAt, TierStep}
use Rattle.cw_trace.specs.OrderedRuns as tier
use Rattle.cw_trace.proofs.Marks.Edits.{length_parts}
use Rattle.cw_trace.proofs.Keeps.Meaning.{odd_column}
use Rattle.cw_open.specs.Machine.{OpenMachine, live_value, has_finished, is_running, in_block, is_free, rolls_back}
use Rattle.cw_open.specs.Steps.{Step, puts_back, after_open_step}
use Rattle.cw_open.specs.Steps as step
use Rattle.cw_open.specs.Open.{is_open}
use Rattle.cw_open.specs.Runs.{Rules, Allowed}
use Rattle.cw_open.specs.LeftFirst.{makers}
use Rattle.cw_open.proofs.Open.Standing.{runs}
use Rattle.cw_open.proofs.Open.Trees.{IsWell}
use Rattle.cw_open.proofs.Open.TreeSteps.{free_runs, rolls_runs, place_pending}
use Rattle.cw_open.proofs.Open.Kinds.{finished_shut, open_unjoined}
use Rattle.cw_hands.specs.Shared.{SharedMoment, has_columns, is_split, is_whole, is_owed, is_open_yet, moment_of, is_ready, place_at, has_room, after_shared, IsLaterStep}
use Rattle.cw_hands.proofs.Shared.Order.{at_no_fork, wide_fork, wide_low, wide_from}
use Rattle.cw_hands.proofs.Shared.Going.{may_go_on}
use Rattle.cw_hands.proofs.Shared.Opening.{leaf_opens, close_shuts, finish_shuts, inline_shuts, join_leaves, whole_shuts, merge_shuts, split_leaves}
use Rattle.cw_hands.proofs.Shared.Forked.{fork_opens_so, same_wide}

-- functions that agree everywhere are the same
pub everywhere : {f g : ℕ → Bool} → ((n : ℕ) → f n ≡ g n) → f ≡ g
everywhere h = λ i n. h n i

-- whose place a step is made at
abbrev pub hand_in : SharedMoment → List ℕ → Option ℕ
hand_in s [] = None
hand_in s (x ∷ xs) = Some (place_at s x)

pub data Seen (s u : SharedMoment) (who : Option ℕ) : Type 0 where
  unseen : moment_of s ≡ moment_of u → Seen s u who
  seen : TierStep (moment_of s) who (moment_of u) → Seen s u who

-- a step of the tier after which these nodes are open
step_as : (s : Moment) (who : Option ℕ) (c : ColumnTable) (words : List ℕ) (t : List Node) (cuts joins : List ℕ) (f g : ℕ → Bool) → ((n : ℕ) → f n ≡ g n)
    → TierStep s who (record { columns = c; words = words; tree = t; cuts = cuts; joins = joins; is_open = f }) → TierStep s who (record { columns = c; words = words; tree = t; cuts = cuts; joins = joins; is_open = g })
step_as s who c words t cuts joins f g h e =
    let P : (ℕ → Bool) → Type 0 = λ o. TierStep s who (record { columns = c; words = words; tree = t; cuts = cuts; joins = joins; is_open = o }) in
    subst P (everywhere h) e

past_one : (n m : ℕ) → n < m → nat_eq m n ≡ false
past_one n m h = ne_eqb m n (λ e. absurd (omega (arith, e)))

pub access_plain : (c : ℕ) (write : Option ℤ) (v : ℤ) → (is_strand_kind (access_kind c write v) ≡ false) × (is_fork_kind (access_kind c write v) ≡ false) × (is_block_kind (access_kind c write v) ≡ false)
access_plain c None v = (refl, refl, refl)
access_plain c (Some w) v = (refl, refl, refl)

module _ (s : SharedMoment) (w : IsWell s.machine) (h : StandsInOrder s.columns s.words s.machine.tree s.cuts s.joins (is_open_yet s)) where
  abbrev m : OpenMachine
  m = s.machine

  abbrev t : List Node
  t = s.machine.tree

  keeps : Keeps s.columns s.words s.machine.tree s.cuts s.joins
  keeps = h.keeps

  goes : (x : ℕ) → is_running m x ≡ true → is_ready s x ≡ true → GoesOnAt (moment_of s) (place t x)
  goes x running ready = may_go_on s w.sound.tree w.nested x running ready

  -- an access, an output or a refused access
  leaf_step : (x : ℕ) (kind : Kind) (stamp : ℕ) → is_running m x ≡ true → is_ready s x ≡ true → is_strand_kind kind ≡ false → is_fork_kind kind ≡ false → is_block_kind kind ≡ false
      → TierStep (moment_of s) (Some (place t x)) (moment_of (record s { machine = record s.machine { tree = t ++ fresh_node (place t x) kind stamp ∷ [] } }))
  leaf_step x kind stamp running ready ns nf nb =
      let node = fresh_node (place t x) kind stamp in
      let plain : (is_block_kind node.kind && is_pending_state node.state) ≡ false = ap (λ b. b && is_pending_state node.state) nb in
      step_as (moment_of s) (Some (place t x)) s.columns s.words (t ++ node ∷ []) s.cuts s.joins _ _ (leaf_opens s w.sound.tree.rooted node ns nf (λ k. false) (sym plain) (λ n l. refl))
      (tier.leaf node (goes x running ready) ns nf plain)

  begin_step : (x stamp : ℕ) → is_running m x ≡ true → is_ready s x ≡ true → 0 < stamp → IsLater s.columns t (place t x) stamp
      → TierStep (moment_of s) (Some (place t x)) (moment_of (record s { machine = record s.machine { tree = t ++ fresh_node (place t x) Block stamp ∷ [] }; words = begun_word s.words (gap_at s.columns t (place t x)) stamp }))
  begin_step x stamp running ready some later =
      let node = fresh_node (place t x) Block stamp in
      step_as (moment_of s) (Some (place t x)) s.columns (begun_word s.words (gap_at s.columns t (place t x)) stamp) (t ++ node ∷ []) s.cuts s.joins _ _
      (leaf_opens s w.sound.tree.rooted node refl refl (λ k. nat_eq k (length t)) (eq-eqb (length t) (length t) refl) (λ n l. past_one (length t) n l))
      (tier.begin (place t x) stamp (goes x running ready) some later)

  close_step : (x end : ℕ) (state : BlockState) → is_running m x ≡ true → is_ready s x ≡ true → in_block m x ≡ true → is_pending_state state ≡ false
      → TierStep (moment_of s) (Some (place t x)) (moment_of (record s { machine = record s.machine { tree = closed t (place t x) state end }; words = closed_word s.words (gap_at s.columns t (place t x)) (stamp_of t (place t x)) }))
  close_step x end state running ready within done =
      let p = place t x in
      let pending = place_pending m w x running within in
      step_as (moment_of s) (Some p) s.columns (closed_word s.words (gap_at s.columns t p) (stamp_of t p)) (closed t p state end) s.cuts s.joins _ _ (close_shuts s w.sound.tree.rooted p end state pending done)
      (tier.close p end state (goes x running ready) pending done (λ b e same. w.sound.stamps.distinct b p (pending_there t b e) (pending_there t p pending) (block_stamped t w.sound.stamps b (pending_block t b e)) same))

  -- a fork, with columns where there are two left
  fork_step : (x stamp : ℕ) → is_running m x ≡ true → is_ready s x ≡ true → (z : Bool) → has_room s ≡ z
      → TierStep (moment_of s) (Some (place t x)) (moment_of (record s { machine = record s.machine { tree = t ++ fork_nodes (length t) (place t x) stamp }; columns = cond z (forked (slice_index s.words (gap_at s.columns t (place t x))) (column t (used s.columns) (place t x)) s.columns) s.columns }))
  fork_step x stamp running ready true e =
      let p = place t x in
      let roomy = leb-true (used s.columns + 2) s.columns.room e in
      let word = slice_index s.words (gap_at s.columns t p) in
      let parent = column t (used s.columns) p in
      step_as (moment_of s) (Some p) (forked word parent s.columns) s.words (t ++ fork_nodes (length t) p stamp) s.cuts s.joins _ _ (fork_opens_so s w keeps p stamp (forked word parent s.columns) (same_wide s keeps word parent roomy))
      (tier.fork p stamp (goes x running ready) roomy)
  fork_step x stamp running ready false e =
      let p = place t x in
      step_as (moment_of s) (Some p) s.columns s.words (t ++ fork_nodes (length t) p stamp) s.cuts s.joins _ _ (fork_opens_so s w keeps p stamp s.columns (λ n. refl))
      (tier.inline p stamp (goes x running ready) (leb-false (used s.columns + 2) s.columns.room e))

  finish_step : (x : ℕ) (dead : Bool) → is_running m x ≡ true → is_ready s x ≡ true → in_block m x ≡ false → 0 < x
      → TierStep (moment_of s) (Some (place t x)) (moment_of (record s { machine = record s.machine { finished = (x, dead) ∷ s.machine.finished } }))
  finish_step x dead running ready outside some =
      let at : place t x ≡ x = eqb-true (place t x) x (not-false (nat_eq (place t x) x) outside) in
      let strand = (runs m w.sound.tree w.nested x running).strand in
      let P : ℕ → Type 0 = λ p. GoesOnAt (moment_of s) p in
      let Q : ℕ → Type 0 = λ p. TierStep (moment_of s) (Some p) (moment_of (record s { machine = record s.machine { finished = (x, dead) ∷ s.machine.finished } })) in
      subst Q (sym at)
      (step_as (moment_of s) (Some x) s.columns s.words t s.cuts s.joins _ _ (finish_shuts s x dead strand)
      (tier.finish x (subst P at (goes x running ready)) strand some))

  -- ## Joins

  -- the strands of a fork are open no more where they are not in the machine
  strands_done : (f : ℕ) → is_fork t f ≡ true → ((x : ℕ) → 0 < x → x < length t → parent_of t x ≡ f → is_open m x ≡ false) → (x : ℕ) → 0 < x → x < length t → parent_of t x ≡ f → is_open_yet s x ≡ false
  strands_done f fork shut x some low up =
      at_no_fork s x (false_from_ne_true (is_fork t x) (λ e. absurd (cc (fork_child t w.sound.tree x some low (ap (is_fork t) up ∙ fork), fork_no_strand t x e)))) ∙ shut x some low up

  module _ (f : ℕ) (fork : is_fork t f ≡ true) (all : list_all (has_finished m) (children t f) ≡ true) where
    done : (x : ℕ) → 0 < x → x < length t → parent_of t x ≡ f → is_open_yet s x ≡ false
    done = strands_done f fork (λ x some low up. finished_shut m x (fork_child t w.sound.tree x some low (ap (is_fork t) up ∙ fork)) (all_in (has_finished m) x (children t f) all (child_in t f x (record { some = some; there = low; parent = up }))))

    join_whole : has_columns s f ≡ true → has s.cuts (fork_column t f) ≡ false → TierStep (moment_of s) None (moment_of (record s { machine = record s.machine { joined = f ∷ s.machine.joined }; joins = fork_column t f ∷ s.joins }))
    join_whole wide uncut =
        step_as (moment_of s) None s.columns s.words t s.cuts (fork_column t f ∷ s.joins) _ _ (whole_shuts s f fork wide)
        (tier.join (fork_column t f) (record { done = record { fork = f; is = fork; at = refl; done = done }; low = wide_low s f wide; uncut = uncut }))

    join_bare : has_columns s f ≡ false → TierStep (moment_of s) None (moment_of (record s { machine = record s.machine { joined = f ∷ s.machine.joined } }))
    join_bare bare =
        let narrow : used s.columns < fork_column t f + 2 = elim (cases_lt (used s.columns) (fork_column t f + 2)) [ inl l ↦ l | inr le ↦ absurd (cc (bare, wide_from s f fork (omega arith))) ] in
        step_as (moment_of s) None s.columns s.words t s.cuts s.joins _ _ (inline_shuts s f fork bare)
        (tier.join_inline f fork narrow done)

    join_step : (a b : Bool) → has_columns s f ≡ a → has s.cuts (fork_column t f) ≡ b
        → Seen s (record s { machine = record s.machine { joined = f ∷ s.machine.joined }; joins = cond (a && not b) (fork_column t f ∷ s.joins) s.joins }) None
    join_step false b bare e = seen (join_bare bare)
    join_step true false wide uncut = seen (join_whole wide uncut)
    join_step true true wide cut =
        unseen (ap (λ (o : ℕ → Bool). let y : Moment = record { columns = s.columns; words = s.words; tree = t; cuts = s.cuts; joins = s.joins; is_open = o } in y) (everywhere (join_leaves s f fork wide)))

  -- ## Splits and merges

  -- a fork that is split and not merged names traces, and one that is not split names none
  pub names : (f : ℕ) (z : Bool) → has s.cuts (fork_column t f) ≡ z → has_columns s f ≡ true → has s.joins (fork_column t f) ≡ false → is_trace s.columns (fork_column t f) ≡ z
  names f z e wide no_join =
      let col = fork_column t f in
      let odd = odd_column t f in
      let low = wide_low s f wide in
      keeps.outside.named col (omega (arith, low))
      ∙ ap (λ b. b || is_apart s.cuts s.joins col) (ne_eqb col 0 (λ q. not_zero col odd q))
      ∙ ap (λ i. has s.cuts i && not (has s.joins i)) (left_odd col odd)
      ∙ ap (λ b. b && not (has s.joins col)) e
      ∙ ap (λ b. z && not b) no_join
      ∙ and-true z where
        left_odd : (i : ℕ) → i % 2 ≡ 1 → left_column_of i ≡ i
        left_odd i e = omega arith

        not_zero : (i : ℕ) → i % 2 ≡ 1 → i ≡ 0 → ⊥
        not_zero i e q = omega arith

  pub split_step : (f : ℕ) → is_whole s f ≡ true → before_split s.columns (fork_column t f) ≡ None → IsUnstarted t s.joins (fork_column t f)
      → TierStep (moment_of s) None (moment_of (record s { columns = split_at (fork_column t f) s.columns; cuts = fork_column t f ∷ s.cuts }))
  split_step f whole early unstarted =
      let col = fork_column t f in
      let z = and_parts (has_columns s f) (not (has s.cuts col)) whole in
      let low = wide_low s f z.0 in
      step_as (moment_of s) None (split_at col s.columns) s.words t (col ∷ s.cuts) s.joins _ _ (split_leaves s (split_at col s.columns) (col ∷ s.cuts) (length_parts (owner s.columns col) col 0 s.columns.owners))
      (tier.split col (omega (arith, low)) (odd_column t f) (names f false (not-true (has s.cuts col) z.1) z.0 unstarted.unjoined) early unstarted)

  -- what there is to an owed merge
  pub record IsDue (f : ℕ) : Type 0 where
    pub wide : has_columns s f ≡ true
    pub low : fork_column t f < used s.columns
    pub apart : is_trace s.columns (fork_column t f) ≡ true
    pub done : (x : ℕ) → 0 < x → x < length t → parent_of t x ≡ f → is_open_yet s x ≡ false

  pub due : (f : ℕ) → (is_split s f && is_owed s f) ≡ true → IsDue f
  due f e =
      let col = fork_column t f in
      let z = and_parts (is_split s f) (is_owed s f) e in
      let y = and_parts (has_columns s f) (has s.cuts col) z.0 in
      let x = and_parts (has_columns s f && has m.joined f) (not (has s.joins col)) z.1 in
      let joined = (and_parts (has_columns s f) (has m.joined f) x.0).1 in
      let fork = wide_fork s f y.0 in
      let low = wide_low s f y.0 in
      record {
        wide = y.0;
        low = omega (arith, low);
        apart = names f true y.1 y.0 (not-true (has s.joins col) x.1);
        done = strands_done f fork (λ x some there up. false_from_ne_true (is_open m x) (λ o. absurd (cc (joined, open_unjoined m f fork (sym (ap (is_open m) up) ∙ w.nested.outer x some there o)))));
      }

  pub merge_step : (f : ℕ) → (is_split s f && is_owed s f) ≡ true → TierStep (moment_of s) None (moment_of (record s { columns = merged (fork_column t f) s.columns; joins = fork_column t f ∷ s.joins }))
  merge_step f e =
      let col = fork_column t f in
      let d = due f e in
      let fork = wide_fork s f d.wide in
      step_as (moment_of s) None (merged col s.columns) s.words t s.cuts (col ∷ s.joins) _ _
      (merge_shuts s f fork (merged col s.columns) (length-map s.columns.owners (back_to (around_fork s.columns col) col)) d.wide)
      (tier.merge col d.low (odd_column t f) d.apart (record { fork = f; is = fork; at = refl; done = d.done }))

  -- ## Each step of the machine

  one_ready : (x : ℕ) → list_all (is_ready s) (x ∷ []) ≡ true → is_ready s x ≡ true
  one_ready x e = (and_parts (is_ready s x) true e).0

  pub machine_step : (r : Rules) (e : Step) → Allowed r s.machine e → list_all (is_ready s) (makers e) ≡ true → IsLaterStep s e → has_finished (after_open_step s.machine e) 0 ≡ false → Seen s (after_shared s e) (hand_in s (makers e))
  machine_step r (step.forks x stamp) a ready later open_root = seen (fork_step x stamp (free_runs m x a.0) (one_ready x ready) (has_room s) refl)
  machine_step r (step.begins x stamp) a ready later open_root = seen (begin_step x stamp (free_runs m x a.0) (one_ready x ready) a.1.some later)
  machine_step r (step.accesses x c write stamp) a ready later open_root =
      let z = and_parts (is_free m x && nat_lt c (length m.lists)) _ a.0 in
      let free = (and_parts (is_free m x) (nat_lt c (length m.lists)) z.0).0 in
      let k = access_plain c write (live_value m c) in
      seen (leaf_step x (access_kind c write (live_value m c)) stamp (free_runs m x free) (one_ready x ready) k.0 k.1 k.2)
  machine_step r (step.refuses x c write met) a ready later open_root =
      let free = (and_parts (is_free m x) (nat_lt c (length m.lists)) a.0).0 in
      seen (leaf_step x (Tried c) 0 (free_runs m x free) (one_ready x ready) refl refl refl)
  machine_step r (step.outputs x v stamp) a ready later open_root = seen (leaf_step x (Out v) stamp (free_runs m x a.0) (one_ready x ready) refl refl refl)
  machine_step r (step.cancels x stamp) a ready later open_root =
      let free = (and_parts (is_free m x) (in_block m x) a.0).0 in
      seen (leaf_step x (Cancel (puts_back m x stamp)) stamp (free_runs m x free) (one_ready x ready) refl refl refl)
  machine_step r (step.commits x stamp) a ready later open_root =
      let z = and_parts (is_free m x && in_block m x) _ a.0 in
      let y = and_parts (is_free m x) (in_block m x) z.0 in
      seen (close_step x stamp Committed (free_runs m x y.0) (one_ready x ready) y.1 refl)
  machine_step r (step.undoes x c) a ready later open_root = unseen refl
  machine_step r (step.aborts x stamp) a ready later open_root =
      let z = rolls_runs m x (and_parts (rolls_back m x) _ a.0).0 in
      seen (close_step x stamp Aborted z.running (one_ready x ready) z.within refl)
  machine_step r (step.finishes x dead) a ready later open_root =
      let z = and_parts (is_running m x && not (in_block m x)) _ a in
      let y = and_parts (is_running m x) (not (in_block m x)) z.0 in
      seen (finish_step x dead y.0 (one_ready x ready) (not-true (in_block m x) y.1) (not_root x open_root)) where
        not_root : (x : ℕ) → (nat_eq x 0 || has_finished m 0) ≡ false → 0 < x
        not_root Rattle.std.proofs.Common.zero e = absurd (cc e)
        not_root (Rattle.std.proofs.Common.suc x) e = omega arith
  machine_step r (step.joins f) a ready later open_root =
      let z = and_parts (is_fork t f && not (has m.joined f)) (list_all (has_finished m) (children t f)) a in
      join_step f (and_parts (is_fork t f) (not (has m.joined f)) z.0).0 z.1 (has_columns s f) (has s.cuts (fork_column t f)) refl refl
  machine_step r (step.stops x) a ready later open_root = unseen refl
