-- In the order of a run of one worker, one memory comes to the run's end.
use Rattle.std.proofs.Common.{◌≡◌, ℕ, List, [], length, refl, ap, sym, ◌∙◌, Bool, true, false, cond, Some, None}
use Rattle.std.specs.Prelude.{is_some}
use Rattle.cw_strand.specs.Names.{first_memory}
use Rattle.cw_strand.specs.Strands.{Strands, is_over}
use Rattle.cw_tree.specs.declared.node.Node.{Node}
use Rattle.cw_tree.specs.declared.access.Entry.{Entry}
use Rattle.cw_tree.specs.declared.picks.Turn.{Turn}
use Rattle.cw_tree.specs.declared.picks.Picks.{Picks}
use Rattle.cw_tree.specs.Names.{name_of}
use Rattle.cw_job.specs.Jobs.{Job}
use Rattle.cw_serial.specs.declared.ends.SerialEnd.{SerialEnd}
use Rattle.cw_serial.specs.declared.ends.SerialEnd.TheVariants as last
use Rattle.cw_serial.specs.StrandTree.{StrandTree, stands, waits, state_at_end}
use Rattle.cw_serial.specs.Machine.{Machine, steps_down, machine_shows, has_ended}
use Rattle.cw_serial.specs.DepthFirst.{leftmost}
use Rattle.cw_job.specs.Room.Strands.{StrandState, strands_of_job}
use Rattle.cw_record.specs.declared.record_end.RecordEnd.{RecordEnd}
use Rattle.cw_record.specs.declared.record_end.RecordEnd.TheVariants.{Finished, Fault, Budget, Moves}
use Rattle.cw_record.specs.Listed.{listed_names, strand_number}
use Rattle.cw_record.specs.Order.{ending_strand, order_of}
use Rattle.cw_record.specs.Replay.{SameEnd, IsSpent, Replays}
use Rattle.cw_record.specs.Records.{HasEnded, StopsAt, IsWorkerRun}
use Rattle.cw_record.proofs.Walked.Named.{strand_turns}

module _ {A : Type 0} (s : Strands A) where
  -- where a strand is still to be picked, the root has not ended
  not_ended : (t : StrandTree A) (p : List Turn) → leftmost s t ≡ Some p → state_at_end s t ≡ None
  not_ended (waits k l r) p e = refl
  not_ended (stands k a) p e = by (is_over (s.want a)) e where
    by : (b : Bool) → cond b None (Some []) ≡ Some p → cond b (Some a) None ≡ None
    by true e = absurd (cc e)
    by false e = refl

module _ (job : Job) (t : List Node) (kept : List (List Entry)) (e : RecordEnd) (run : IsWorkerRun job t kept e) (budget : ℕ) where
  strand_named : steps_down (listed_names t) (strand_number t (ending_strand e)) ≡ Some (name_of t (ending_strand e))
  strand_named = strand_turns t (run.coherent budget).history.tree.rooted (run.coherent budget).history.tree.root (ending_strand e) run.strand

  shown_end : (e : RecordEnd) (m : Machine StrandState) (n k : ℕ) → steps_down (listed_names t) n ≡ Some (name_of t (ending_strand e)) → StopsAt job t e m → (r : SerialEnd) → r ≡ machine_shows (strands_of_job job) m (listed_names t) n k → (o : Picks) → o.last ≡ n → SameEnd e o r
  shown_end (Finished memory outputs) m n k named stops r is o same = is ∙ (rw (stops.0) refl ∙ (ap (λ x. last.Finished x m.outputs) stops.1 ∙ ap (λ x. last.Finished memory x) stops.2))
  shown_end (Fault x kind) m n k named stops r is o same =
      let (a, stood, wanted) = stops.1 in
      let standing : has_ended (strands_of_job job) m ≡ false = ap is_some (not_ended (strands_of_job job) m.strands (name_of t x) stops.0) in
      is ∙ (rw (standing, named, stood, wanted) refl ∙ ap (λ y. last.Fault y kind) (sym same))
  shown_end (Budget x) m n k named stops r is o same = absurd stops
  shown_end Moves m n k named stops r is o same = absurd stops

  -- no run of one worker spends its budget
  none_spent : (e : RecordEnd) (m : Machine StrandState) → HasEnded e → IsSpent (strands_of_job job) t [] budget e m
  none_spent (Finished memory outputs) m h = tt
  none_spent (Fault x kind) m h = tt
  none_spent (Budget x) m h = absurd h
  none_spent Moves m h = absurd h

  pub replays : Replays (strands_of_job job) (first_memory job.program.cells) budget t [] (order_of t [] budget e) e
  replays =
      let through = run.order budget in
      let order = order_of t [] budget e in
      record {
        strand = run.strand;
        order = refl;
        machine = through.machine;
        acts = through.acts;
        end = shown_end e through.machine order.last (length order.list) strand_named through.stops (machine_shows (strands_of_job job) through.machine order.names order.last (length order.list)) refl order refl;
        spent = none_spent e through.machine run.ended;
      }
