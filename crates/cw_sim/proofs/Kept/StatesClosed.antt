-- The block in which a running strand stands is closed: the states around it, and where strands stand.
use Rattle.std.proofs.Common.{◌≡◌, ◌≢◌, ℕ, ◌<◌, ◌≤◌, List, [], length, refl, ap, sym, ◌∙◌, subst, arith, true, false, inl, inr, Some, None, Option}
use Rattle.std.specs.Prelude.{◌&&◌, ◌||◌, Bool, ℤ, slice_get}
use Rattle.std.proofs.lemmas.Bool.{cases_eq, false_from_ne_true}
use Rattle.std.proofs.lemmas.Option.{slice_get_within, same_Some}
use Rattle.cw_strand.specs.Strands.{Strands}
use Rattle.cw_tree.specs.declared.node.Node.{Node}
use Rattle.cw_tree.specs.declared.node.Kind.{Kind}
use Rattle.cw_tree.specs.declared.node.Kind.TheVariants.{Block}
use Rattle.cw_tree.specs.declared.node.BlockState.{BlockState}
use Rattle.cw_tree.specs.Nodes.{passes, is_strand_kind, is_fork_kind, is_block_kind, is_pending_state, parent_of, is_strand, is_fork, is_block, is_pending, closed}
use Rattle.cw_tree.specs.Walks.{has}
use Rattle.cw_tree.specs.Series.{children, place}
use Rattle.cw_tree.specs.Shape.{IsTree}
use Rattle.cw_tree.proofs.NextNodes.Closing.{shut, length_closed, node_closed, number_closed, closed_here, closed_other, strand_of_closed}
use Rattle.cw_tree.proofs.NextNodes.Trees.{no_fork}
use Rattle.cw_tree.proofs.Walks.Strands.{strand_of_other}
use Rattle.cw_tree.proofs.Walks.There.{pending_there, fork_there, strand_there}
use Rattle.cw_tree.proofs.Walks.Kin.{fork_child}
use Rattle.cw_tree.proofs.NodeKinds.{strand_no_block, pending_block}
use Rattle.cw_open.specs.Machine.{is_running, in_block}
use Rattle.cw_open.proofs.Open.Standing.{pending_open}
use Rattle.cw_open.proofs.Open.Trees.{IsWell}
use Rattle.cw_core.specs.State.{waits_for_left}
use Rattle.cw_core.proofs.Events.Going.{well}
use Rattle.cw_core.proofs.Kept.RowsClose.{open_block, there, low, blocks, children_same, pending_other, pending_here, front, place_other, place_here}
use Rattle.cw_record.specs.Coherent.{IsClosed, IsWanted}
use Rattle.cw_record.proofs.Coherent.AddedStates.{state_same, state_other}
use Rattle.cw_record.proofs.Coherent.States.{Closes}
use Rattle.cw_sim.specs.Workers.{Simulation, changed_at, tree}
use Rattle.cw_sim.specs.Kept.{CoreGoesOn, AreStanding, HasStates}
use Rattle.cw_sim.proofs.Kept.StatesKept.{AllStates, Stay, MayChange, AreNew, closed_by, states_kept, series_with_last}
use Rattle.cw_sim.proofs.Kept.PlacedKept.{Elsewhere, AreHere, current_is, standing_kept}
use Rattle.cw_sim.proofs.Kept.PlacedRunning.{running_own, running_none, running_stands}

-- the block in which strand o stands is closed
abbrev pub with_closed : {A : Type 0} → Simulation A → (o : ℕ) → BlockState → (end : ℕ) → (now : ℕ → A) → Simulation A
with_closed m o state end now = record m { core = record m.core { machine = record m.core.machine { tree = closed (tree m) (place (tree m) o) state end } }; at = now }

-- Behind it is state b, and strands stand at now.
module _ {A : Type 0} (s : Strands A) (first : List ℤ) (m : Simulation A) (on : CoreGoesOn first m.core) (o : ℕ) (running : is_running m.core.machine o ≡ true) (ready : waits_for_left m.core o ≡ false) (within : in_block m.core.machine o ≡ true)
    (state : BlockState) (done : is_pending_state state ≡ false) (end : ℕ) (b : A) (now : ℕ → A) (x : AllStates A) where
  abbrev t : List Node
  t = tree m

  -- the block, and what holds it
  abbrev c : ℕ
  c = place t o

  abbrev p : ℕ
  p = parent_of t c

  abbrev u : List Node
  u = closed t c state end

  abbrev z : Simulation A
  z = with_closed m o state end now

  abbrev y : AllStates A
  y = record { before = x.before; after = changed_at c b x.after; reached = changed_at p b x.reached }

  w : IsWell m.core.machine
  w = well first m.core on.core

  shape : IsTree t
  shape = w.sound.tree

  pending : is_pending t c ≡ true
  pending = open_block first m.core on.core o running ready within state done end end []

  c_there : c < length t
  c_there = there first m.core on.core o running ready within state done end end []

  p_low : p < c
  p_low = low first m.core on.core o running ready within state done end end []

  p_there : p < length t
  p_there = let l = p_low in let h = c_there in omega arith

  c_some : 0 < c
  c_some = let l = p_low in omega arith

  not_strand : is_strand t c ≡ false
  not_strand = false_from_ne_true (is_strand t c) (λ e. absurd (let a = pending_block t c pending in let i = strand_no_block t c e in cc (a, i)))

  not_fork : is_fork t c ≡ false
  not_fork = no_fork t c (ap (λ i. is_strand t c || i) (pending_block t c pending) ∙ by (is_strand t c)) where
    by : (i : Bool) → (i || true) ≡ true
    by true = refl
    by false = refl

  same_children : (n : ℕ) → children u n ≡ children t n
  same_children = children_same first m.core on.core o running ready within state done end end []

  stays : Stay m.core.machine z.core.machine x y p c
  stays = record {
    longer = omega (arith, length_closed t c state end);
    nodes = λ n l ne. closed_other t c state end n ne;
    strands = λ n l. node_closed t c state end (λ i. is_strand_kind i.kind) (λ i. refl) n;
    blocks = λ n l. blocks first m.core on.core o running ready within state done end end [] n;
    children = λ n l ne. same_children n;
    finished = refl;
    before = λ n l. refl;
    after = λ n l ne. state_other x.after c b n ne;
    reached = λ n l ne. state_other x.reached p b n ne;
  }

  p_no_fork : is_fork t p ≡ false
  p_no_fork = false_from_ne_true (is_fork t p) (λ e. absurd (let a = fork_child t shape c c_some c_there e in let i = not_strand in cc (a, i)))

  may : MayChange m.core.machine p c
  may = record {
    well = w;
    forks = on.core.joined;
    opened = w.nested.outer c c_some c_there (pending_open m.core.machine shape w.nested c pending);
    no_fork = p_no_fork;
    under = λ l. refl;
    apart = false_from_ne_true (has m.core.machine.joined c) (λ e. absurd (let a = on.core.joined c e in let i = not_fork in cc (a, i)));
  }

  holds : (is_strand t p || is_block t p) ≡ true
  holds =
      by (is_strand t p) (is_fork t p) (is_block t p) p_no_fork (shape.parents c c_there c_some) where
        by : (i j k : Bool) → j ≡ false → (i || j || k) ≡ true → (i || k) ≡ true
        by true j k e f = refl
        by false true k e f = absurd (cc e)
        by false false k e f = f

  module _ (h : AreStanding s m x.before x.after x.reached) (closes : Closes s (m.saved c) b (m.at o) state) (here : now o ≡ b) (other : (n : ℕ) → n ≢ o → now n ≡ m.at n) where
    closes_now : IsClosed s u y.before y.after y.reached c state
    closes_now =
        let P : A → Type 0 = λ i. Closes s i b (m.at o) state in
        let Q : A → Type 0 = λ i. Closes s (x.before c) i (m.at o) state in
        let R : A → Type 0 = λ i. Closes s (x.before c) (y.after c) i state in
        let l = p_low in
        closed_by s u y.before y.after y.reached c state
        (subst R (sym (state_other x.reached p b c (λ e. omega (arith, e, l)) ∙ running_stands s m w x h o running))
        (subst Q (sym (state_same x.after c b)) (subst P (sym (h.saved c pending)) closes)))

    wanted_here : (kind : Kind) (was : BlockState) → is_block_kind kind ≡ true → IsWanted s t x.before x.after x.reached c kind was → IsWanted s u y.before y.after y.reached c kind state
    wanted_here Block was e f = (f.0, closes_now)
    wanted_here _ was e f = absurd (cc e)

    behind : (o : Option Node) → slice_get t c ≡ o → (v : Node) → slice_get u c ≡ Some v → IsWanted s u y.before y.after y.reached c v.kind v.state
    behind None e v is = absurd (let yes = pending in let no = ap (passes (λ i. is_block_kind i.kind && is_pending_state i.state)) e in cc (yes, no))
    behind (Some n) e v is =
        let P : Node → Type 0 = λ i. IsWanted s u y.before y.after y.reached c i.kind i.state in
        let block : is_block_kind n.kind ≡ true = sym (ap (passes (λ i. is_block_kind i.kind)) e) ∙ pending_block t c pending in
        subst P (same_Some (shut t c state end n) v (sym (closed_here t c state end n e) ∙ is)) (wanted_here n.kind n.state block (h.states.fits c n e))

    none_new : (n : ℕ) → length t ≤ n → n < length u → ⊥
    none_new n le l = omega (arith, length_closed t c state end)

    are_new : AreNew s m.core.machine z.core.machine y p c
    are_new = record {
      here =
          let whole = front first m.core on.core o running ready within state done end end [] in
          series_with_last s m.core.machine z.core.machine x y p c may stays p_there c_there whole (same_children p ∙ whole) (state_same x.reached p b ∙ sym (state_same x.after c b)) (h.states.series p p_there holds);
      series = λ n le l e. absurd (none_new n le l);
      behind = behind (slice_get t c) refl;
      fits = λ n le ne i is. absurd (none_new n le (slice_get_within u n i is));
      joins = λ f l r e off kids. absurd (cc (e, off));
    }

    still_pending : (n : ℕ) → is_pending u n ≡ true → is_pending t n ≡ true
    still_pending n e = elim (cases_eq n c) [
      | inr ne ↦ sym (pending_other first m.core on.core o running ready within state done end end [] n ne) ∙ e
      | inl q ↦ absurd (let no = pending_here first m.core on.core o running ready within state done end end [] in cc (e, ap (is_pending u) q, no))
    ]

    elsewhere : Elsewhere m z p o
    elsewhere = record {
      own = sym (strand_of_other t shape.rooted c c_some c_there not_strand) ∙ running_own m.core.machine w o running;
      parents = λ n l. number_closed t c state end (λ i. i.parent) (λ i. refl) n;
      stand = strand_of_closed t c state end shape.rooted;
      forks = λ n l. node_closed t c state end (λ i. is_fork_kind i.kind) (λ i. refl) n;
      pending = λ n l e. still_pending n e;
      places = λ n l ne. place_other first m.core on.core o running ready within state done end end [] n ne;
      fewer = λ f e. e;
      more = λ f ne e. e;
      none = running_none m.core.machine w o running;
      at = λ n l ne. other n ne;
      saved = λ n l. refl;
    }

    are_here : AreHere m z y o
    are_here = record {
      here = λ q. ap y.reached (place_here first m.core on.core o running ready within state done end end []) ∙ state_same x.reached p b ∙ sym here;
      strands = λ n le e q. absurd (none_new n le (strand_there u n (current_is z.core (stays.strands 0 shape.some ∙ shape.root) n e).0));
      forks = λ f le e. absurd (none_new f le (fork_there u f e));
      saved = λ n le e. absurd (none_new n le (pending_there u n e));
    }

    pub closed_states : HasStates s (with_closed m o state end now)
    closed_states = (
      y.before,
      y.after,
      y.reached,
      standing_kept s m z x y p c o shape stays elsewhere are_here h
          (states_kept s m.core.machine z.core.machine x y p c may stays h.states are_new),
    )
