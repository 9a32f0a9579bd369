-- Each want that a running strand does, but to finish, keeps the states of nodes; and so do a roll, a stop, and a fork that is taken.
use Rattle.std.proofs.Common.{◌≡◌, ◌≢◌, ℕ, ◌<◌, List, [], ◌∷◌, length, refl, sym, subst, arith, Bool, true, false, cond, Option, Some, None}
use Rattle.std.specs.Prelude.{◌&&◌, ℤ, unwrap_or}
use Rattle.std.specs.Option.{option_map_or}
use Rattle.std.proofs.lemmas.Bool.{and_from}
use Rattle.cw_strand.specs.declared.want.Want.{Want}
use Rattle.cw_strand.specs.declared.want.Want.TheVariants as want
use Rattle.cw_strand.specs.declared.want.Given.TheVariants.{Nothing, Value, Back}
use Rattle.cw_strand.specs.Strands.{Strands}
use Rattle.cw_tree.specs.declared.closed.Halt.{Halt}
use Rattle.cw_tree.specs.declared.closed.Halt.TheVariants as halt
use Rattle.cw_tree.specs.declared.node.Kind.{Kind}
use Rattle.cw_tree.specs.declared.node.Kind.TheVariants.{Block, Read, Write, Out, Cancel, Tried}
use Rattle.cw_tree.specs.declared.node.BlockState.TheVariants.{Committed, Aborted}
use Rattle.cw_tree.specs.Nodes.{is_fork, is_block_kind, first_state, fresh_node}
use Rattle.cw_tree.specs.Walks.{has}
use Rattle.cw_tree.specs.Series.{place}
use Rattle.cw_tree.specs.Newest.{newest}
use Rattle.cw_open.specs.Machine.{live_value, is_running, in_block, is_dying, rolls_back}
use Rattle.cw_open.specs.Steps.{refusal, puts_back}
use Rattle.cw_open.proofs.Runs.LawsHold.{at_any}
use Rattle.cw_open.proofs.Open.Trees.{IsWell}
use Rattle.cw_open.proofs.Refused.Victims.{dying_roll_back}
use Rattle.cw_core.specs.declared.event.Event.TheVariants as event
use Rattle.cw_core.specs.declared.event.Reply.TheVariants as reply
use Rattle.cw_core.specs.State.{CoreState, waits_for_left, spent}
use Rattle.cw_core.specs.Events.{is_met, met_by, next}
use Rattle.cw_core.proofs.Events.Going.{well}
use Rattle.cw_record.specs.Replay.{IsAccessOf}
use Rattle.cw_record.proofs.Coherent.AddedStates.{state_same, state_other}
use Rattle.cw_record.proofs.Coherent.States.{DoesAs}
use Rattle.cw_sim.specs.Workers.{Simulation, changed_at, tree, worker, with_strand}
use Rattle.cw_sim.specs.Moves.{does, take_fork, steal, stop_if_spent, answer_want, meets_cell, access_cell, begin_block, give_up, fork_strand}
use Rattle.cw_sim.specs.Kept.{CoreGoesOn, HasStates}
use Rattle.cw_sim.proofs.Kept.Leaves.{IsMore}
use Rattle.cw_sim.proofs.Kept.Quiet.{out_more, cancel_more, begin_more, access_more, refused_more, roll_shut}
use Rattle.cw_sim.proofs.Kept.StatesKept.{AllStates}
use Rattle.cw_sim.proofs.Kept.PlacedAlike.{states_alike}
use Rattle.cw_sim.proofs.Kept.StatesAdded.{with_leaf, leaf_states}
use Rattle.cw_sim.proofs.Kept.StatesClosed.{with_closed, closed_states}
use Rattle.cw_sim.proofs.Kept.StatesForked.{with_fork, forked_states}

module _ {A : Type 0} (s : Strands A) where
  -- ## A stop

  pub stop_states : (m : Simulation A) (h : Halt) → HasStates s m → HasStates s (does (event.Stop h) m)
  stop_states m (halt.Fault x kind) old = states_alike s m (does (event.Stop (halt.Fault x kind)) m) (record { tree = refl; joined = refl; finished = refl; at = λ n. refl; saved = λ b. refl }) old
  stop_states m (halt.Budget x) old = states_alike s m (does (event.Stop (halt.Budget x)) m) (record { tree = refl; joined = refl; finished = refl; at = λ n. refl; saved = λ b. refl }) old
  stop_states m halt.Memory old = states_alike s m (does (event.Stop halt.Memory) m) (record { tree = refl; joined = refl; finished = refl; at = λ n. refl; saved = λ b. refl }) old

  spent_states : (m : Simulation A) → HasStates s m → HasStates s (stop_if_spent s m)
  spent_states m old = by (spent m.core) where
    by : (o : Option ℕ) → HasStates s (option_map_or (λ x. does (event.Stop (halt.Budget x)) m) o m)
    by None = old
    by (Some x) = stop_states m (halt.Budget x) old

  -- ## A fork that is taken

  pub steal_states : (m : Simulation A) (w : ℕ) → HasStates s m → (vs : List ℕ) → HasStates s (steal w vs m)
  steal_states m w old [] = old
  steal_states m w old (v ∷ vs) = by (worker m v).deque (steal_states m w old vs) where
    by : (ds : List ℕ) → HasStates s (steal w vs m) → HasStates s (elim ds [ [] ↦ steal w vs m | f ∷ fs ↦ take_fork w v f fs m ])
    by [] rest = rest
    by (f ∷ fs) rest = states_alike s m (take_fork w v f fs m) (record { tree = refl; joined = refl; finished = refl; at = λ n. refl; saved = λ b. refl }) old

-- ## A running strand

module _ {A : Type 0} (s : Strands A) (first : List ℤ) (m : Simulation A) (on : CoreGoesOn first m.core) (held : HasStates s m) (o : ℕ) (running : is_running m.core.machine o ≡ true) (ready : waits_for_left m.core o ≡ false) where
  abbrev k : CoreState
  k = m.core

  abbrev p : ℕ
  p = place (tree m) o

  abbrev g : ℕ
  g = length (tree m)

  abbrev a : A
  a = m.at o

  w : IsWell k.machine
  w = well first k on.core

  joined_forks : (f : ℕ) → has k.machine.joined f ≡ true → is_fork (tree m) f ≡ true
  joined_forks = on.core.joined

  abbrev x : AllStates A
  x = record { before = held.0; after = held.1; reached = held.2 }

  -- z is m with one node more, behind which is state b, and in which v is reached where it is a block
  by_leaf : (z : Simulation A) (kind : Kind) (st : ℕ) → IsMore k z.core (fresh_node p kind st) → (b v : A) → DoesAs s a b v kind (first_state kind) → (is_block_kind kind ≡ true → v ≡ s.answer a Nothing) → z.at o ≡ cond (is_block_kind kind) v b
      → ((n : ℕ) → n ≢ o → z.at n ≡ m.at n) → (is_block_kind kind ≡ true → z.saved g ≡ a) → ((n : ℕ) → n < g → z.saved n ≡ m.saved n) → HasStates s z
  by_leaf z kind st is b v does within here other begun as_kept =
      states_alike s (with_leaf m o kind st z.at z.saved) z (record { tree = is.tree; joined = is.joined; finished = is.finished; at = λ n. refl; saved = λ n. refl })
      (leaf_states s m w joined_forks o running kind st (is.strand, is.fork) b v z.at z.saved x held.3 does within here other begun as_kept)

  other_at : (v : A) (n : ℕ) → n ≢ o → changed_at o v m.at n ≡ m.at n
  other_at v n ne = state_other m.at o v n ne

  pub out_states : (v : ℤ) → s.want a ≡ want.Out v → HasStates s (answer_want s o Nothing (does (event.Out o v) m))
  out_states v wants =
      by_leaf (answer_want s o Nothing (does (event.Out o v) m)) (Out v) (next k) (out_more first k on o running ready v) (s.answer a Nothing) a (wants, refl) (λ e. absurd (cc e)) (state_same m.at o (s.answer a Nothing))
      (other_at (s.answer a Nothing)) (λ e. absurd (cc e)) (λ n l. refl)

  pub cancel_states : s.want a ≡ want.Cancel → HasStates s (give_up s o m)
  cancel_states wants =
      let back = puts_back k.machine o (next k) in
      let given = Back back in
      by_leaf (give_up s o m) (Cancel back) (next k) (cancel_more first k on o running ready) (s.answer a given) a (wants, refl) (λ e. absurd (cc e)) (state_same m.at o (s.answer a given))
      (other_at (s.answer a given)) (λ e. absurd (cc e)) (λ n l. refl)

  pub begin_states : s.want a ≡ want.Begin → HasStates s (begin_block s o m)
  begin_states wants =
      by_leaf (begin_block s o m) Block (next k) (begin_more first k on o running ready) a (s.answer a Nothing) (wants, refl) (λ e. refl) (state_same m.at o (s.answer a Nothing))
      (other_at (s.answer a Nothing)) (λ e. state_same m.saved g a) (λ n l. state_other m.saved g a n (λ e. omega (arith, e)))

  -- ## An access

  abbrev at_cell : (c : ℕ) → Option ℤ → Simulation A
  at_cell c write = does (event.Access o c write) m

  -- one that is refused leaves the strand where it stood
  refused_states : (c : ℕ) (write : Option ℤ) → is_met k o c ≡ true → IsAccessOf c (s.want a) → HasStates s (stop_if_spent s (at_cell c write))
  refused_states c write e wants =
      spent_states s (at_cell c write)
      (by_leaf (at_cell c write) (Tried c) 0 (refused_more first k on o running ready c write e) a a (wants, refl) (λ e. absurd (cc e)) refl (λ n ne. refl) (λ e. absurd (cc e)) (λ n l. refl))

  abbrev met : (c : ℕ) → Option ℤ → Bool → Simulation A
  met c write b = meets_cell s o write (cond b (reply.Conflict (refusal k.machine p c (met_by k o c))) (reply.Value (unwrap_or write (live_value k.machine c)))) (at_cell c write)

  pub load_states : (c : ℕ) → s.want a ≡ want.Load c → HasStates s (access_cell s o c None m)
  load_states c wants = by (is_met k o c) refl where
    P : Want → Type 0
    P = IsAccessOf c

    by : (b : Bool) → is_met k o c ≡ b → HasStates s (met c None b)
    by true e = refused_states c None e (subst P (sym wants) refl)
    by false e =
        let v = live_value k.machine c in
        by_leaf (met c None false) (Read c v) (next k) (access_more first k on o running ready c None e) (s.answer a (Value v)) a (wants, refl) (λ e. absurd (cc e)) (state_same m.at o (s.answer a (Value v)))
        (other_at (s.answer a (Value v))) (λ e. absurd (cc e)) (λ n l. refl)

  pub store_states : (c : ℕ) (v : ℤ) → s.want a ≡ want.Store c v → HasStates s (access_cell s o c (Some v) m)
  store_states c v wants = by (is_met k o c) refl where
    P : Want → Type 0
    P = IsAccessOf c

    by : (b : Bool) → is_met k o c ≡ b → HasStates s (met c (Some v) b)
    by true e = refused_states c (Some v) e (subst P (sym wants) refl)
    by false e =
        by_leaf (met c (Some v) false) (Write c v) (next k) (access_more first k on o running ready c (Some v) e) (s.answer a Nothing) a (wants, refl) (λ e. absurd (cc e)) (state_same m.at o (s.answer a Nothing))
        (other_at (s.answer a Nothing)) (λ e. absurd (cc e)) (λ n l. refl)

  -- ## A fork

  pub fork_states : (v : ℕ) → s.want a ≡ want.Fork → HasStates s (fork_strand s v o m)
  fork_states v wants =
      states_alike s (with_fork s m o (next k)) (fork_strand s v o m) (record { tree = refl; joined = refl; finished = refl; at = λ n. refl; saved = λ b. refl })
      (forked_states s m w joined_forks o running (next k) x held.3 wants)

  -- ## The end of a block

  module _ (within : in_block k.machine o ≡ true) where
    pub commit_states : s.want a ≡ want.End → HasStates s (answer_want s o Nothing (does (event.Commit o) m))
    commit_states wants =
        let b = s.answer a Nothing in
        states_alike s (with_closed m o Committed (next k) (changed_at o b m.at)) (answer_want s o Nothing (does (event.Commit o) m))
        (record { tree = refl; joined = refl; finished = refl; at = λ n. refl; saved = λ b. refl })
        (closed_states s first m on o running ready within Committed refl (next k) b (changed_at o b m.at) x held.3 (wants, refl) (state_same m.at o b) (other_at b))

    -- a strand that rolls it back stands at its begin again
    pub roll_states : is_dying k.machine o ≡ true → HasStates s (with_strand o (m.saved p) (does (event.Roll o) m))
    roll_states dying =
        let rolls : rolls_back k.machine o ≡ true = dying_roll_back (λ t us i. newest us) first k.machine (at_any first k.machine on.core.reached) o
        (and_from (is_running k.machine o && in_block k.machine o) (is_dying k.machine o) (and_from (is_running k.machine o) (in_block k.machine o) running within) dying) in
        let is = roll_shut first k on o running ready rolls in
        let b = m.saved p in
        states_alike s (with_closed m o Aborted (next k) (changed_at o b m.at)) (with_strand o (m.saved p) (does (event.Roll o) m))
        (record { tree = is.tree; joined = is.joined; finished = is.finished; at = λ n. refl; saved = λ b. refl })
        (closed_states s first m on o running ready within Aborted refl (next k) b (changed_at o b m.at) x held.3 refl (state_same m.at o b) (other_at b))
