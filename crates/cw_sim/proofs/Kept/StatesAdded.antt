-- A node that is neither a strand nor a fork comes at the place of a running strand: the states around it, and where strands stand.
use Rattle.std.proofs.Common.{◌≡◌, ◌≢◌, ℕ, suc, ◌<◌, ◌≤◌, List, [], ◌∷◌, ◌++◌, length, refl, ap, sym, ◌∙◌, subst, arith, Bool, true, false, cond, Some, nat_eq}
use Rattle.std.specs.Prelude.{◌&&◌, ◌||◌, slice_get}
use Rattle.std.proofs.lemmas.Bool.{and_from, and_left, and_right, eq-eqb, ne_eqb, false_from_ne_true}
use Rattle.std.proofs.lemmas.Option.{slice_get_within, same_Some}
use Rattle.cw_strand.specs.declared.want.Given.TheVariants.{Nothing}
use Rattle.cw_strand.specs.Strands.{Strands}
use Rattle.cw_tree.specs.declared.node.Node.{Node}
use Rattle.cw_tree.specs.declared.node.Kind.{Kind}
use Rattle.cw_tree.specs.declared.node.Kind.TheVariants.{Strand, Fork, Block, Read, Write, Out, Cancel, Tried}
use Rattle.cw_tree.specs.declared.node.BlockState.{BlockState}
use Rattle.cw_tree.specs.Nodes.{is_strand_kind, is_fork_kind, is_block_kind, is_pending_state, first_state, is_strand, is_fork, is_block, is_pending, fresh_node}
use Rattle.cw_tree.specs.Walks.{has}
use Rattle.cw_tree.specs.Series.{strand_of, children, place}
use Rattle.cw_tree.specs.Shape.{IsTree}
use Rattle.cw_tree.proofs.NextNodes.Growing.{get_append, get_next, length_more, node_grown, number_grown, node_new, strand_of_grown, strand_of_new}
use Rattle.cw_tree.proofs.NextNodes.Trees.{children_none}
use Rattle.cw_tree.proofs.Walks.There.{pending_there, fork_there, strand_there}
use Rattle.cw_tree.proofs.NodeKinds.{new_open}
use Rattle.cw_open.specs.Machine.{is_running}
use Rattle.cw_open.proofs.Open.Standing.{is_begun_in}
use Rattle.cw_open.proofs.Open.Trees.{IsWell}
use Rattle.cw_core.proofs.Events.Places.{place_grown, place_begun}
use Rattle.cw_core.proofs.Kept.Tails.{children_here, children_other}
use Rattle.cw_record.specs.Coherent.{InSeries, IsWanted, entered}
use Rattle.cw_record.proofs.Coherent.AddedStates.{state_same, state_other}
use Rattle.cw_record.proofs.Coherent.KeptStates.{does_same}
use Rattle.cw_record.proofs.Coherent.States.{DoesAs}
use Rattle.cw_sim.specs.Workers.{Simulation, changed_at, tree}
use Rattle.cw_sim.specs.Kept.{AreStanding, HasStates}
use Rattle.cw_sim.proofs.Kept.StatesKept.{AllStates, Stay, MayChange, AreNew, closed_by, states_kept, series_with_new}
use Rattle.cw_sim.proofs.Kept.PlacedKept.{Elsewhere, AreHere, current_is, standing_kept}
use Rattle.cw_sim.proofs.Kept.PlacedRunning.{running_place, running_own, running_none, running_holds, running_may, running_stands}

module _ {A : Type 0} (s : Strands A) where
  -- what a node does that is no fork, it wants
  wanted_by : (t : List Node) (before after reached : ℕ → A) (n : ℕ) (kind : Kind) (state : BlockState) → is_fork_kind kind ≡ false → DoesAs s (before n) (after n) (reached n) kind state → IsWanted s t before after reached n kind state
  wanted_by t before after reached n Strand state other e = tt
  wanted_by t before after reached n Fork state other e = absurd (cc other)
  wanted_by t before after reached n Block state other e = (e.0, closed_by s t before after reached n state e.1)
  wanted_by t before after reached n (Read c v) state other e = e
  wanted_by t before after reached n (Write c v) state other e = e
  wanted_by t before after reached n (Out v) state other e = e
  wanted_by t before after reached n (Cancel back) state other e = e
  wanted_by t before after reached n (Tried c) state other e = e

-- a node of this kind comes at the place of strand o
abbrev pub with_leaf : {A : Type 0} → Simulation A → (o : ℕ) → Kind → (st : ℕ) → (now kept : ℕ → A) → Simulation A
with_leaf m o kind st now kept = record m { core = record m.core { machine = record m.core.machine { tree = tree m ++ fresh_node (place (tree m) o) kind st ∷ [] } }; at = now; saved = kept }

-- A node of this kind comes at the place of strand o. Behind it is state b, and in it v is reached, where it is a block; strands stand at
-- now, and where they stood at a begin is kept.
module _ {A : Type 0} (s : Strands A) (m : Simulation A) (w : IsWell m.core.machine) (forks : (f : ℕ) → has m.core.machine.joined f ≡ true → is_fork (tree m) f ≡ true) (o : ℕ) (running : is_running m.core.machine o ≡ true)
    (kind : Kind) (st : ℕ) (plain : (is_strand_kind kind ≡ false) × (is_fork_kind kind ≡ false)) (b v : A) (now kept : ℕ → A) (x : AllStates A) where
  abbrev t : List Node
  t = tree m

  abbrev p : ℕ
  p = place t o

  abbrev g : ℕ
  g = length t

  abbrev new : Node
  new = fresh_node p kind st

  abbrev u : List Node
  u = t ++ new ∷ []

  abbrev z : Simulation A
  z = with_leaf m o kind st now kept

  abbrev y : AllStates A
  y = record { before = changed_at g (m.at o) x.before; after = changed_at g b x.after; reached = changed_at g v (changed_at p b x.reached) }

  shape : IsTree t
  shape = w.sound.tree

  there : p < g
  there = running_place m.core.machine w o running

  len : length u ≡ suc g
  len = length_more t new

  is_new : (n : ℕ) → g ≤ n → n < length u → n ≡ g
  is_new n le low = omega (arith, len)

  past : (n : ℕ) → n < g → n ≢ g
  past n low e = omega (arith, e)

  reached_place : y.reached p ≡ b
  reached_place = state_other (changed_at p b x.reached) g v p (past p there) ∙ state_same x.reached p b

  stays : Stay m.core.machine z.core.machine x y p g
  stays = record {
    longer = omega (arith, len);
    nodes = λ n low ne. get_append t (new ∷ []) n low;
    strands = node_grown t (new ∷ []) (λ i. is_strand_kind i.kind);
    blocks = node_grown t (new ∷ []) (λ i. is_block_kind i.kind);
    children = λ n low ne. children_other t new n shape.some (λ e. ne (sym e));
    finished = refl;
    before = λ n low. state_other x.before g (m.at o) n (past n low);
    after = λ n low ne. state_other x.after g b n ne;
    reached = λ n low ne. state_other (changed_at p b x.reached) g v n (past n low) ∙ state_other x.reached p b n ne;
  }

  -- it is no strand, and a block just where its kind is
  no_strand : is_strand u g ≡ false
  no_strand = node_new t new (λ i. is_strand_kind i.kind) ∙ plain.0

  block_here : is_block u g ≡ is_block_kind kind
  block_here = node_new t new (λ i. is_block_kind i.kind)

  pending_here : is_pending u g ≡ is_block_kind kind
  pending_here = node_new t new (λ i. is_block_kind i.kind && is_pending_state i.state) ∙ new_open kind

  own_new : strand_of u g ≡ o
  own_new = strand_of_new t new shape.rooted there ∙ ap (λ i. cond i g (strand_of t p)) plain.0 ∙ running_own m.core.machine w o running

  module _ (h : AreStanding s m x.before x.after x.reached) (does : DoesAs s (m.at o) b v kind (first_state kind)) (within : is_block_kind kind ≡ true → v ≡ s.answer (m.at o) Nothing) (here : now o ≡ cond (is_block_kind kind) v b)
      (other : (n : ℕ) → n ≢ o → now n ≡ m.at n) (begun : is_block_kind kind ≡ true → kept g ≡ m.at o) (as_kept : (n : ℕ) → n < g → kept n ≡ m.saved n) where
    may : MayChange m.core.machine p g
    may = running_may m.core.machine w o running forks g (λ low. absurd (omega arith)) (false_from_ne_true (has m.core.machine.joined g) (λ e. absurd (let low = w.joined g e in omega arith)))

    entered_new : is_block u g ≡ true → entered s u y.before y.after y.reached g ≡ y.reached g
    entered_new e =
        ap (λ i. cond i (s.answer (y.before g) Nothing) (y.before g)) e
        ∙ ap (λ i. s.answer i Nothing) (state_same x.before g (m.at o))
        ∙ sym (within (sym block_here ∙ e))
        ∙ sym (state_same (changed_at p b x.reached) g v)

    none_in : children u g ≡ []
    none_in = children_other t new g shape.some (λ e. past p there e) ∙ children_none t shape.rooted g (omega arith)

    series_new : (n : ℕ) → g ≤ n → n < length u → (is_strand u n || is_block u n) ≡ true → InSeries y.before y.after (entered s u y.before y.after y.reached n) (children u n) (y.reached n)
    series_new n le low e =
        let P : ℕ → Type 0 = λ i. (is_strand u i || is_block u i) ≡ true → InSeries y.before y.after (entered s u y.before y.after y.reached i) (children u i) (y.reached i) in
        let Q : List ℕ → Type 0 = λ ns. InSeries y.before y.after (entered s u y.before y.after y.reached g) ns (y.reached g) in
        subst P (sym (is_new n le low)) (λ e. subst Q (sym none_in) (entered_new (ap (λ i. i || is_block u g) (sym no_strand) ∙ e))) e

    fits_new : (n : Node) → slice_get u g ≡ Some n → IsWanted s u y.before y.after y.reached g n.kind n.state
    fits_new n is =
        let P : Node → Type 0 = λ i. IsWanted s u y.before y.after y.reached g i.kind i.state in
        subst P (same_Some new n (sym (get_next t new []) ∙ is))
        (wanted_by s u y.before y.after y.reached g kind (first_state kind) plain.1
        (does_same s (m.at o) b v (y.before g) (y.after g) (y.reached g) kind (first_state kind) (state_same x.before g (m.at o)) (state_same x.after g b) (state_same (changed_at p b x.reached) g v) does))

    are_new : AreNew s m.core.machine z.core.machine y p g
    are_new = record {
      here =
          series_with_new s m.core.machine z.core.machine x y p g may stays there (omega arith) (children_here t new shape.some) (state_same x.before g (m.at o) ∙ sym (running_stands s m w x h o running))
          (reached_place ∙ sym (state_same x.after g b)) (h.states.series p there (running_holds m.core.machine w o running));
      series = series_new;
      behind = fits_new;
      fits = λ n le ne i is. absurd (ne (is_new n le (slice_get_within u n i is)));
      joins = λ f l r e off kids. absurd (cc (e, off));
    }

    elsewhere : Elsewhere m z p o
    elsewhere = record {
      own = running_own m.core.machine w o running;
      parents = number_grown t (new ∷ []) (λ i. i.parent);
      stand = strand_of_grown t (new ∷ []) shape.rooted;
      forks = node_grown t (new ∷ []) (λ i. is_fork_kind i.kind);
      pending = λ n low e. sym (node_grown t (new ∷ []) (λ i. is_block_kind i.kind && is_pending_state i.state) n low) ∙ e;
      places = λ n low ne. place_grown t (new ∷ []) shape.rooted n (λ i le l.
          ap (is_begun_in u n) (is_new i le l) ∙ and_right (is_pending u g) (nat_eq (strand_of u g) n) (ne_eqb (strand_of u g) n (λ e. ne (sym e ∙ own_new))));
      fewer = λ f e. e;
      more = λ f ne e. e;
      none = running_none m.core.machine w o running;
      at = λ n low ne. other n ne;
      saved = as_kept;
    }

    stands_here : (block : Bool) → is_block_kind kind ≡ block → now o ≡ cond block v b → y.reached (place u o) ≡ now o
    stands_here true e at =
        ap y.reached (place_begun t (new ∷ []) shape.rooted o g len (and_from (is_pending u g) (nat_eq (strand_of u g) o) (pending_here ∙ e) (eq-eqb (strand_of u g) o own_new)))
        ∙ state_same (changed_at p b x.reached) g v ∙ sym at
    stands_here false e at =
        ap y.reached (place_grown t (new ∷ []) shape.rooted o (λ i le l. ap (is_begun_in u o) (is_new i le l) ∙ and_left (is_pending u g) (nat_eq (strand_of u g) o) (pending_here ∙ e)))
        ∙ reached_place ∙ sym at

    are_here : AreHere m z y o
    are_here = record {
      here = λ q. stands_here (is_block_kind kind) refl here;
      strands = λ n le e q. absurd (
          let strand = (current_is z.core (stays.strands 0 shape.some ∙ shape.root) n e).0 in
          let at = is_new n le (strand_there u n strand) in
          let no = no_strand in
          cc (strand, ap (is_strand u) at, no));
      forks = λ f le e. absurd (
          let at = is_new f le (fork_there u f e) in
          let no = node_new t new (λ i. is_fork_kind i.kind) ∙ plain.1 in
          cc (e, at, no));
      saved = λ n le e.
          (let at = is_new n le (pending_there u n e) in
          let block : is_block_kind kind ≡ true = sym pending_here ∙ ap (is_pending u) (sym at) ∙ e in
          ap y.before at ∙ state_same x.before g (m.at o) ∙ sym (begun block) ∙ ap kept (sym at));
    }

    pub leaf_states : HasStates s (with_leaf m o kind st now kept)
    leaf_states = (
      y.before,
      y.after,
      y.reached,
      standing_kept s m z x y p g o shape stays elsewhere are_here h
          (states_kept s m.core.machine z.core.machine x y p g may stays h.states are_new),
    )
