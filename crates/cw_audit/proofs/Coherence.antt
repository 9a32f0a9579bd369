-- Parts 1 to 7 of a sheet hold exactly where the sheet tells a coherent run.
use Rattle.std.proofs.Common.{ℕ, List, arith}
use Rattle.std.specs.Prelude.{IsTrue}
use Rattle.std.proofs.lemmas.Bool.{and_parts}
use Rattle.cw_strand.specs.Strands.{Strands}
use Rattle.cw_tree.specs.declared.node.Node.{Node}
use Rattle.cw_tree.specs.declared.conflict.Conflict.{Conflict}
use Rattle.cw_tree.specs.Nodes.{is_strand}
use Rattle.cw_tree.specs.Shape.{IsTree}
use Rattle.cw_tree.specs.Accesses.{is_live}
use Rattle.cw_tree.specs.Refusals.{MayFault, MaySpend}
use Rattle.cw_record.specs.declared.record_end.RecordEnd.{RecordEnd}
use Rattle.cw_record.specs.declared.record_end.RecordEnd.TheVariants.{Finished, Fault, Budget, Moves}
use Rattle.cw_record.specs.Order.{ending_strand}
use Rattle.cw_record.specs.Coherent.{halt_of}
use Rattle.cw_sheet.specs.Contents.{Contents}
use Rattle.cw_audit.specs.Parts.{CanHaveDone, unfinished, first_values, strands_of_sheet}
use Rattle.cw_audit.specs.Audits.{stamps, accesses, blocks, refusals, strands, ending, cancels, order}
use Rattle.cw_audit.specs.Laws.{HoldsButOrder, TellsCoherent, PartsAreCoherence}
use Rattle.cw_audit.proofs.Journals.{told_journals, right_reads}

-- the strand that an end names is one of the tree
ending_is : (t : List Node) (cs : List Conflict) (budget : ℕ) (e : RecordEnd) → IsTree t → MayFault t (halt_of e) → MaySpend t cs budget (halt_of e) → IsTrue (is_strand t (ending_strand e))
ending_is t cs budget (Finished memory outputs) tree faulted spent = tree.root
ending_is t cs budget (Fault x kind) tree faulted spent = (and_parts (is_strand t x) (is_live t x) faulted).0
ending_is t cs budget (Budget x) tree faulted spent = spent.strand
ending_is t cs budget Moves tree faulted spent = tree.root

-- strands that are where the end says are where it says without what a finished run says of itself
done_so_far : {A : Type 0} (s : Strands A) (t : List Node) (e : RecordEnd) → CanHaveDone s t e → CanHaveDone s t (unfinished e)
done_so_far s t (Finished memory outputs) w = (w.0, w.1, w.2, w.3, tt)
done_so_far s t (Fault x kind) w = w
done_so_far s t (Budget x) w = w
done_so_far s t Moves w = w

coherent_from : (c : Contents) → IsTree c.tree → HoldsButOrder c → TellsCoherent c
coherent_from c tree h =
    let p2 = h accesses (omega arith) in
    let p4 = h refusals (omega arith) in
    let p5 = h strands (omega arith) in
    let p6 = h ending (omega arith) in
    record {
      words = p5.words;
      limits = p5.limits;
      coherent = record {
        history = record {
          tree = tree;
          stamps = h stamps (omega arith);
          pending_last = p5.pending_last;
          cells = p2.cells;
          journals = told_journals c.tree (first_values c) p2.reads;
          ended = h blocks (omega arith);
          cancels = h cancels (omega arith);
          refusals = p4.refused;
          rolls_back = p5.rolls_back;
        };
        faulted = p6.faulted;
        spent = p4.spent p5.named;
        memory = p6.memory;
        strands = p6.done;
      };
    }

parts_from : (c : Contents) → TellsCoherent c → HoldsButOrder c
parts_from c w stamps l = w.coherent.history.stamps
parts_from c w accesses l = record { cells = w.coherent.history.cells; reads = right_reads c.tree (first_values c) _ w.coherent.history.journals }
parts_from c w blocks l = w.coherent.history.ended
parts_from c w refusals l = record { refused = w.coherent.history.refusals; spent = λ is. w.coherent.spent }
parts_from c w strands l = record {
  words = w.words;
  limits = w.limits;
  named = ending_is c.tree c.conflicts c.limits.aborts c.end w.coherent.history.tree w.coherent.faulted w.coherent.spent;
  pending_last = w.coherent.history.pending_last;
  rolls_back = w.coherent.history.rolls_back;
  done = done_so_far (strands_of_sheet c) c.tree c.end w.coherent.strands;
}
parts_from c w ending l = record { faulted = w.coherent.faulted; memory = w.coherent.memory; done = w.coherent.strands }
parts_from c w cancels l = w.coherent.history.cancels
parts_from c w order l = absurd (omega arith)

pub parts_are_coherence : PartsAreCoherence
parts_are_coherence c tree = (coherent_from c tree, parts_from c)
