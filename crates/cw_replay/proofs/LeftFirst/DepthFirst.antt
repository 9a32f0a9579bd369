-- The order of a run in which left strands went first is the depth-first one.
use Rattle.std.proofs.Common.{◌≡◌, ℕ, ℤ, ◌<◌, List, refl, ap, sym, ◌∙◌, arith, true, false, Some, inl, inr, subst, nat_eq}
use Rattle.std.specs.Prelude.{◌⊎◌, ◌&&◌, is_some, IsTrue}
use Rattle.std.proofs.lemmas.Bool.{and_parts, eqb-true, eq-eqb}
use Rattle.cw_code.specs.declared.FaultKind.{FaultKind}
use Rattle.cw_strand.specs.declared.want.Want.TheVariants as want
use Rattle.cw_strand.specs.Names.{first_memory}
use Rattle.cw_strand.specs.Strands.{Strands, IsDeep}
use Rattle.cw_tree.specs.declared.node.Node.{Node}
use Rattle.cw_tree.specs.declared.access.Entry.{Entry}
use Rattle.cw_tree.specs.declared.conflict.Conflict.{Conflict}
use Rattle.cw_tree.specs.Nodes.{stamp_of, is_strand}
use Rattle.cw_tree.specs.Walks.{is_ancestor}
use Rattle.cw_tree.specs.Histories.{IsHistory}
use Rattle.cw_tree.specs.Series as series
use Rattle.cw_tree.specs.Accesses.{is_live}
use Rattle.cw_tree.specs.Names.{name_of}
use Rattle.cw_tree.proofs.NodeKinds.{committed_block, stamped, block_stamped}
use Rattle.cw_tree.proofs.Walks.Ancestors.{ancestor_self}
use Rattle.cw_tree.proofs.InOrder.DepthFirst.{IsChild}
use Rattle.cw_open.specs.LeftFirst.{IsLeftOf, LeftsAreOlder}
use Rattle.cw_open.proofs.Open.Standing.{stands_at}
use Rattle.cw_serial.specs.StrandTree.{at}
use Rattle.cw_job.specs.Jobs.{Job}
use Rattle.cw_job.specs.Room.Strands.{StrandState, strands_of_job}
use Rattle.cw_job.proofs.Room.Lawful.{deep_of}
use Rattle.cw_record.specs.declared.record_end.RecordEnd.{RecordEnd}
use Rattle.cw_record.specs.declared.record_end.RecordEnd.TheVariants.{Finished, Fault, Budget, Moves}
use Rattle.cw_record.specs.Items.{items}
use Rattle.cw_record.specs.declared.items.OrderItem.{OrderItem}
use Rattle.cw_record.specs.declared.items.OrderItem.TheVariants.{Begins, Does, Ends}
use Rattle.cw_record.specs.Order.{node_of}
use Rattle.cw_record.specs.Coherent.{Follows, EndStands, HasMemory, HasOutputs}
use Rattle.cw_record.specs.Records.{HasEnded, GoesThrough}
use Rattle.cw_replay.specs.LeftFirst.{LeftsHaveEnded, WentLeftFirst, LeftFirstIsDepthFirst}
use Rattle.cw_replay.proofs.Kin.{left_child, fork_child, parent_low}
use Rattle.cw_replay.proofs.RecordsReplay.Machine.Acts.{Act, item, stop, place, act_name}
use Rattle.cw_replay.proofs.RecordsReplay.Machine.Replaying.{last_machine, order_done, last_outputs, stands_stopped}
use Rattle.cw_replay.proofs.RecordsReplay.Tasks.Places.{Under}
use Rattle.cw_replay.proofs.RecordsReplay.Tasks.Sorts.{act_sort}
use Rattle.cw_replay.proofs.RecordsReplay.Ends.Stops.{none_true, StoppedAt, stopped}
use Rattle.cw_replay.proofs.RecordsReplay.Ends.Faulting.{fault_stopped}
use Rattle.cw_replay.proofs.RecordsReplay.Ends.Theorem.{done_run, done, strands_ended, memory_same}
use Rattle.cw_replay.proofs.RecordsReplay.Ordered.Runs.{Run}
use Rattle.cw_replay.proofs.LeftFirst.Lefts.{LeftsEnd}
use Rattle.cw_replay.proofs.LeftFirst.Machine.{order_leftmost, stop_leftmost}

module _ {A : Type 0} (s : Strands A) (t : List Node) (p : ℕ) (r : Run s t p) where
  -- what was done has a stamp
  stamp_there : (d : ℕ) (i : OrderItem) → Under s t r.account d (item i) → 0 < stamp_of t (node_of i)
  stamp_there d (Begins n) u = block_stamped t r.laid.stamps n u.proper
  stamp_there d (Does n) u = let z = act_sort t n u.proper in stamped t n r.laid.stamps u.there z.strand z.tried
  stamp_there d (Ends n) u = block_stamped t r.laid.stamps n (committed_block t n u.proper)

  -- so what stands to the left of it has ended
  ends_by : LeftsHaveEnded s t r.account.before r.account.after r.account.reached p → ((n : ℕ) → r.account.stop.at n ≡ true → n ≡ p) → LeftsEnd s t r.account
  ends_by ended stop_at f l d fork strands j u = ended l (place j) left u.there side (by j u) where
    left_is : IsChild t f l
    left_is = left_child t f l d strands

    left : is_strand t l ≡ true
    left = let low = parent_low t r.laid.tree.rooted f l left_is in let h = left_is.there in fork_child t r.laid.tree f l (omega arith) fork left_is

    side : IsLeftOf t l (place j)
    side = record { fork = f; left = l; right = d; forks = fork; strands = strands; in_left = ancestor_self t l; in_right = u.over }

    by : (j : Act) → Under s t r.account d j → (0 < stamp_of t (place j)) ⊎ (place j ≡ p)
    by (item i) u = inl (stamp_there d i u)
    by (stop n) u = inr (stop_at n u.proper)

module _ (job : Job) (budget : ℕ) (t : List Node) (kept : List (List Entry)) (cs : List Conflict) (h : IsHistory t (first_memory job.program.cells) kept cs) (before after reached : ℕ → StrandState)
    (follows : Follows (strands_of_job job) t before after reached) (older : LeftsAreOlder t) where
  abbrev s : Strands StrandState
  s = strands_of_job job

  abbrev first : List ℤ
  first = first_memory job.program.cells

  deep : IsDeep s
  deep = deep_of job

  finished : (memory outputs : List ℤ) → EndStands s t before after reached (Finished memory outputs) → LeftsHaveEnded s t before after reached 0 → HasMemory t first (Finished memory outputs) → HasOutputs t cs budget (Finished memory outputs)
      → GoesThrough job t (items t cs budget (Finished memory outputs)) (Finished memory outputs)
  finished memory outputs z lefts is shows =
      let r = done_run s deep first budget t kept cs h before after reached follows in
      let ended = strands_ended s deep first budget t kept cs h before after reached follows memory outputs z.0 z.1 in
      record {
        machine = done s deep first budget t kept cs h before after reached follows;
        picks = order_leftmost s deep t 0 r first kept cs h older (ends_by s t 0 r lefts (λ n e. absurd (none_true e))) (λ b. refl);
        acts = order_done s deep t 0 r first kept cs h;
        stops = (
          ap is_some ended.1,
          memory_same s deep first budget t kept cs h before after reached follows memory outputs z.0 z.1 is,
          last_outputs s deep t 0 r first kept cs h ∙ sym shows,
        );
      }

  module _ (x : ℕ) (kind : FaultKind) (may : IsTrue (is_strand t x && is_live t x)) (there : EndStands s t before after reached (Fault x kind)) where
    abbrev p : ℕ
    p = series.place t x

    stopped_here : StoppedAt s t first kept cs h before after reached follows p (want.Fault kind) (λ m. false)
    stopped_here = fault_stopped s t first kept cs h before after reached follows x kind may there.0 there.1

    abbrev run : Run s t p
    run = record {
      account = stopped s t first kept cs h before after reached follows p (want.Fault kind) (λ m. false) stopped_here;
      laid = record { tree = h.tree; stamps = h.stamps; pending_last = h.pending_last; there = stopped_here.there };
      toward = λ m e. let P : ℕ → Type 0 = λ q. is_ancestor t q p ≡ true in subst P (sym (eqb-true m p e)) (ancestor_self t p);
      apart = λ b e. absurd (none_true e);
    }

    name : act_name t (stop p) ≡ name_of t x
    name = ap (name_of t) (stands_at t h.tree.rooted x (and_parts (is_strand t x) (is_live t x) may).0).strand

    faulted : LeftsHaveEnded s t before after reached p → GoesThrough job t (items t cs budget (Fault x kind)) (Fault x kind)
    faulted lefts =
        let at_p : nat_eq p p ≡ true = eq-eqb p p refl in
        let ends = ends_by s t p run lefts (λ n e. eqb-true n p e) in
        let m = last_machine s deep t p run first kept cs h in
        let z = stands_stopped s deep t p run first kept cs h p at_p refl in
        record {
          machine = m;
          picks = order_leftmost s deep t p run first kept cs h older ends (λ b. refl);
          acts = order_done s deep t p run first kept cs h;
          stops = (stop_leftmost s deep t p run first kept cs h older ends (λ b. refl) p at_p refl ∙ ap Some name, (z.0, ap (at s m.strands) (sym name) ∙ z.1, z.2));
        }

pub left_first_depth_first : LeftFirstIsDepthFirst
left_first_depth_first job budget t kept cs e w outs ended = by e w outs ended where
  by : (e : RecordEnd) → WentLeftFirst (strands_of_job job) (first_memory job.program.cells) budget t kept cs e → HasOutputs t cs budget e → HasEnded e → GoesThrough job t (items t cs budget e) e
  by (Finished memory outputs) w outs ended = let z = w.strands in finished job budget t kept cs w.history z.0 z.1 z.2 z.3 w.older memory outputs z.4 z.5 w.memory outs
  by (Fault x kind) w outs ended = let z = w.strands in faulted job budget t kept cs w.history z.0 z.1 z.2 z.3 w.older x kind w.faulted z.4 z.5
  by (Budget x) w outs ended = absurd ended
  by Moves w outs ended = absurd ended
