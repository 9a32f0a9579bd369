-- What a closed run leaves in depth-first order has a record, and a coherent one.
use Rattle.std.proofs.Common.{◌≡◌, ℕ, ℤ, List, refl, sym, ◌∙◌, subst, Bool, true, false, Option, Some, None}
use Rattle.std.proofs.lemmas.Bool.{and_parts}
use Rattle.cw_strand.specs.Names.{first_memory}
use Rattle.cw_strand.specs.Strands.{Strands}
use Rattle.cw_tree.specs.declared.node.Node.{Node}
use Rattle.cw_tree.specs.declared.conflict.Conflict.{Conflict}
use Rattle.cw_tree.specs.declared.closed.Closed.{Closed}
use Rattle.cw_tree.specs.declared.closed.Halt.{Halt}
use Rattle.cw_tree.specs.declared.closed.Halt.TheVariants as stop
use Rattle.cw_tree.specs.Nodes.{is_strand}
use Rattle.cw_tree.specs.Accesses.{is_live}
use Rattle.cw_tree.specs.Refusals.{MayFault, MaySpend}
use Rattle.cw_tree.specs.InOrder.{in_order, conflicts_in_order, halt_in_order}
use Rattle.cw_open.specs.Machine.{OpenMachine}
use Rattle.cw_open.proofs.Reordered.Leaving.{histories_left}
use Rattle.cw_job.specs.Jobs.{Job}
use Rattle.cw_job.specs.Room.Strands.{strands_of_job}
use Rattle.cw_record.specs.Coherent.{Follows, EndStands, IsCoherent}
use Rattle.cw_record.specs.ClosedRun.{IsClosedRun, end_after}
use Rattle.cw_record.specs.Built.{HasRecord, IsLeftBy, AreLeft, memory_left, outputs_left, end_left}
use Rattle.cw_record.proofs.ClosedRun.LeftMemory.{memory_is_left}
use Rattle.cw_record.proofs.ClosedRun.Runs.{coherent_end}

module _ (job : Job) (spent : Bool) (m : OpenMachine) (h : Option Halt) (c : Closed) (l : IsLeftBy job spent m h c) where
  abbrev first : List ℤ
  first = first_memory job.program.cells

  abbrev Coherent : List Node → List Conflict → Option Halt → Type 0
  Coherent t cs halt = IsCoherent (strands_of_job job) first job.limits.aborts t c.journals cs (end_after halt spent (memory_left first c.journals) (outputs_left c.tree c.conflicts job.limits.aborts))

  in_order_coherent : Coherent (in_order m.tree) (conflicts_in_order m.tree m.conflicts) (halt_in_order m.tree h)
  in_order_coherent =
      coherent_end (strands_of_job job) first job.limits.aborts m c.journals (memory_left first c.journals) (outputs_left c.tree c.conflicts job.limits.aborts) l.numbered
      (memory_is_left m.tree first c.journals (histories_left first m c.journals l.run.reached l.run.complete l.run.entries).journals)
      h spent l.run

  -- what is left is coherent, with the memory that the journals leave
  pub left_coherent : IsCoherent (strands_of_job job) first job.limits.aborts c.tree c.journals c.conflicts (end_left first job.limits.aborts c spent)
  left_coherent =
      let T : List Node → Type 0 = λ t. Coherent t c.conflicts c.halt in
      let C : List Conflict → Type 0 = λ cs. Coherent (in_order m.tree) cs c.halt in
      let H : Option Halt → Type 0 = λ halt. Coherent (in_order m.tree) (conflicts_in_order m.tree m.conflicts) halt in
      subst T (sym l.tree) (subst C (sym l.conflicts) (subst H (sym l.halt) in_order_coherent))

  not_for_memory : (g : Option Halt) → IsClosedRun (strands_of_job job) first job.limits.aborts m c.journals g spent → Some stop.Memory ≡ halt_in_order m.tree g → ⊥
  not_for_memory None run e = cc e
  not_for_memory (Some (stop.Fault x kind)) run e = cc e
  not_for_memory (Some (stop.Budget x)) run e = cc e
  not_for_memory (Some stop.Memory) run e = let (before, after, reached, states, end) = run.states in end

  -- no closed run stopped for want of memory, and one that stopped did so at a strand of its tree
  pub left_has_record : HasRecord c.tree c.halt
  left_has_record = by c.halt refl left_coherent where
    by : (halt : Option Halt) → c.halt ≡ halt → Coherent c.tree c.conflicts halt → HasRecord c.tree halt
    by None e i = tt
    by (Some (stop.Fault x kind)) e i = (and_parts (is_strand c.tree x) (is_live c.tree x) i.faulted).0
    by (Some (stop.Budget x)) e i = i.spent.strand
    by (Some stop.Memory) e i = absurd (not_for_memory h l.run (sym e ∙ l.halt))

-- What strands may leave is coherent, however they were run.
module _ {A : Type 0} (s : Strands A) (first : List ℤ) (budget : ℕ) (spent : Bool) (c : Closed) (l : AreLeft s first budget spent c) where
  abbrev At : Option Halt → Bool → Type 0
  At h b =
      MayFault c.tree h → MaySpend c.tree c.conflicts budget h
      → ((before after reached : ℕ → A) × Follows s c.tree before after reached × EndStands s c.tree before after reached (end_after h b (memory_left first c.journals) (outputs_left c.tree c.conflicts budget)))
      → IsCoherent s first budget c.tree c.journals c.conflicts (end_after h b (memory_left first c.journals) (outputs_left c.tree c.conflicts budget))

  coherent_at : (h : Option Halt) (b : Bool) → At h b
  coherent_at None false faulted spends strands = record {
    history = l.history;
    faulted = tt;
    spent = tt;
    memory = memory_is_left c.tree first c.journals l.history.journals;
    strands = strands;
  }
  coherent_at None true faulted spends strands = record { history = l.history; faulted = tt; spent = tt; memory = tt; strands = strands }
  coherent_at (Some (stop.Fault x kind)) b faulted spends strands = record { history = l.history; faulted = faulted; spent = tt; memory = tt; strands = strands }
  coherent_at (Some (stop.Budget x)) b faulted spends strands = record { history = l.history; faulted = tt; spent = spends; memory = tt; strands = strands }
  coherent_at (Some stop.Memory) b faulted spends strands = record { history = l.history; faulted = tt; spent = tt; memory = tt; strands = strands }

  pub followed_coherent : IsCoherent s first budget c.tree c.journals c.conflicts (end_left first budget c spent)
  followed_coherent = coherent_at c.halt spent l.faulted l.spends l.strands
