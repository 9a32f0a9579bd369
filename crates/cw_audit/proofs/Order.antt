-- Once parts 1 to 7 hold, the sheet replays in its order exactly where its outputs are those of its output nodes.
use Rattle.std.proofs.Common.{◌≡◌, ℕ, ℤ, List, length, refl, sym, ◌∙◌, subst, arith, cond, Bool, true, false, Option, Some, None, unwrap_or}
use Rattle.cw_strand.specs.declared.want.Want.{Want}
use Rattle.cw_strand.specs.declared.want.Want.TheVariants as want
use Rattle.cw_strand.specs.Names.{naming_fault}
use Rattle.cw_strand.specs.Strands.{Strands, IsDeep}
use Rattle.cw_strand.specs.Coded.{runs}
use Rattle.cw_strand.specs.Compilation.{code_of, main_function}
use Rattle.cw_strand.proofs.Bounding.{bounded}
use Rattle.cw_strand.proofs.Settling.{deep}
use Rattle.cw_strand.proofs.Unbroken.Functions.{breaks_no_rule}
use Rattle.cw_tree.specs.declared.access.Entry.{Entry}
use Rattle.cw_tree.specs.declared.conflict.Conflict.{Conflict}
use Rattle.cw_tree.specs.declared.node.Node.{Node}
use Rattle.cw_tree.specs.declared.picks.Name.{Name}
use Rattle.cw_tree.specs.declared.picks.Picks.{Picks}
use Rattle.cw_tree.specs.declared.picks.Turn.{Turn}
use Rattle.cw_tree.specs.Shape.{IsTree}
use Rattle.cw_serial.specs.declared.ends.SerialEnd.{SerialEnd}
use Rattle.cw_serial.specs.declared.ends.SerialEnd.TheVariants as last
use Rattle.cw_serial.specs.StrandTree.{at}
use Rattle.cw_serial.specs.Machine.{Machine, initial, has_ended, steps_down, stands_at, end_of_strand, end_of_named, machine_shows}
use Rattle.cw_record.specs.declared.record_end.RecordEnd.{RecordEnd}
use Rattle.cw_record.specs.declared.record_end.RecordEnd.TheVariants.{Finished, Fault, Budget, Moves}
use Rattle.cw_record.specs.Items.{items}
use Rattle.cw_record.specs.Order.{order_of}
use Rattle.cw_record.specs.Replay.{Replays}
use Rattle.cw_record.specs.Coherent.{IsCoherent, HasOutputs, outputs_shown}
use Rattle.cw_record.proofs.Replay.ShownItems.{items_shown}
use Rattle.cw_replay.proofs.RecordsReplay.Ends.Theorem.{replays}
use Rattle.cw_sheet.specs.Contents.{Contents}
use Rattle.cw_audit.specs.Journals.{journals_told}
use Rattle.cw_audit.specs.Parts.{first_values, strands_of_sheet}
use Rattle.cw_audit.specs.Audits.{Part, stamps, accesses, blocks, refusals, strands, ending, cancels, order, part_number, PartHolds}
use Rattle.cw_audit.specs.Laws.{HoldsButOrder, OrderIsOutputs, OutputsDiffer, OnlyOutputsBreakOrder, SoundIsCoherence}
use Rattle.cw_audit.proofs.Coherence.{parts_are_coherence}

-- ## A machine that shows that it finished

module _ {A : Type 0} (s : Strands A) (m : Machine A) (names : List Name) (name place : ℕ) where
  abbrev Ends : SerialEnd → List ℤ → List ℤ → Type 0
  Ends e memory outputs = e ≡ last.Finished memory outputs

  want_goes_on : (memory outputs : List ℤ) (w : Want) → Ends (unwrap_or (stands_at s name w) (last.Stuck place)) memory outputs → ⊥
  want_goes_on memory outputs want.Sync e = absurd (cc e)
  want_goes_on memory outputs want.Done e = absurd (cc e)
  want_goes_on memory outputs (want.Fault k) e = absurd (cc e)
  want_goes_on memory outputs _ e = absurd (cc e)

  strand_goes_on : (memory outputs : List ℤ) (o : Option A) → Ends (unwrap_or (end_of_strand s name o) (last.Stuck place)) memory outputs → ⊥
  strand_goes_on memory outputs None e = absurd (cc e)
  strand_goes_on memory outputs (Some a) e = want_goes_on memory outputs (s.want a) e

  named_goes_on : (memory outputs : List ℤ) (o : Option (List Turn)) → Ends (unwrap_or (end_of_named s m name o) (last.Stuck place)) memory outputs → ⊥
  named_goes_on memory outputs None e = absurd (cc e)
  named_goes_on memory outputs (Some p) e = strand_goes_on memory outputs (at s m.strands p) e

  -- it has put out what it shows
  finished_outputs : (memory outputs : List ℤ) → Ends (machine_shows s m names name place) memory outputs → m.outputs ≡ outputs
  finished_outputs memory outputs e = by (has_ended s m) e where
    by : (b : Bool) → Ends (cond b (last.Finished m.memory m.outputs) (unwrap_or (end_of_named s m name (steps_down names name)) (last.Stuck place))) memory outputs → m.outputs ≡ outputs
    by true e = cc e
    by false e = absurd (named_goes_on memory outputs (steps_down names name) e)

-- what replays has the outputs of its output nodes
has_outputs : {A : Type 0} (s : Strands A) (first : List ℤ) (budget : ℕ) (t : List Node) (cs : List Conflict) (picks : Picks) (e : RecordEnd) → Replays s first budget t cs picks e → HasOutputs t cs budget e
has_outputs s first budget t cs picks (Finished memory outputs) r =
    sym (finished_outputs s r.machine picks.names picks.last (length picks.list) memory outputs r.end) ∙ items_shown s t (initial s first) r.machine 0 (length t) refl r.acts
has_outputs s first budget t cs picks (Fault x kind) r = tt
has_outputs s first budget t cs picks (Budget x) r = tt
has_outputs s first budget t cs picks Moves r = tt

-- ## Sheets

deep_sheet : (c : Contents) → naming_fault c.source.items ≡ None → IsDeep (strands_of_sheet c)
deep_sheet c named =
    let ds = c.source.items in
    deep (runs (code_of ds) (main_function ds) c.words c.limits) (bounded (code_of ds) (main_function ds) c.words c.limits (breaks_no_rule ds named))

pub order_is_outputs : OrderIsOutputs
order_is_outputs c tree named h = (
  λ r. has_outputs (strands_of_sheet c) (first_values c) c.limits.aborts c.tree c.conflicts _ c.end r,
  λ outs. replays (strands_of_sheet c) (deep_sheet c named) (first_values c) c.limits.aborts c.tree (journals_told c.tree (first_values c)) c.conflicts c.end ((parts_are_coherence c tree).0 h).coherent outs,
)

-- coherence does not look at outputs
other_outputs : {A : Type 0} (s : Strands A) (first : List ℤ) (budget : ℕ) (t : List Node) (kept : List (List Entry)) (cs : List Conflict) (memory outputs other : List ℤ)
    → IsCoherent s first budget t kept cs (Finished memory outputs) → IsCoherent s first budget t kept cs (Finished memory other)
other_outputs s first budget t kept cs memory outputs other co = record { history = co.history; faulted = co.faulted; spent = co.spent; memory = co.memory; strands = co.strands }

-- the part with number 8 is the order
order_broken : (c : Contents) (p : Part) → part_number p ≡ 8 → (PartHolds c p → ⊥) → PartHolds c order → ⊥
order_broken c order e fails = fails
order_broken c stamps e fails = absurd (omega (arith, e))
order_broken c accesses e fails = absurd (omega (arith, e))
order_broken c blocks e fails = absurd (omega (arith, e))
order_broken c refusals e fails = absurd (omega (arith, e))
order_broken c strands e fails = absurd (omega (arith, e))
order_broken c ending e fails = absurd (omega (arith, e))
order_broken c cancels e fails = absurd (omega (arith, e))

module _ (c : Contents) (tree : IsTree c.tree) (named : naming_fault c.source.items ≡ None) (h : HoldsButOrder c) (fails : PartHolds c order → ⊥) where
  abbrev Outputs : RecordEnd → Type 0
  Outputs e = HasOutputs c.tree c.conflicts c.limits.aborts e

  no_outputs : (e : RecordEnd) → c.end ≡ e → Outputs e → ⊥
  no_outputs e is outs = fails ((order_is_outputs c tree named h).1 (subst Outputs (sym is) outs))

  -- what is made instead
  instead : (memory outputs : List ℤ) → c.end ≡ Finished memory outputs → OutputsDiffer c
  instead memory outputs is =
      let s = strands_of_sheet c in
      let first = first_values c in
      let budget = c.limits.aborts in
      let kept = journals_told c.tree first in
      let shown = outputs_shown c.tree (items c.tree c.conflicts budget (Finished memory outputs)) in
      let P : RecordEnd → Type 0 = λ e. IsCoherent s first budget c.tree kept c.conflicts e in
      let Q : RecordEnd → Type 0 = λ e. Replays s first budget c.tree c.conflicts (order_of c.tree c.conflicts budget e) (Finished memory shown) in
      let co = other_outputs s first budget c.tree kept c.conflicts memory outputs shown (subst P is ((parts_are_coherence c tree).0 h).coherent) in
      record {
        memory = memory;
        outputs = outputs;
        finished = is;
        shown = shown;
        replays = subst Q (sym is) (replays s (deep_sheet c named) first budget c.tree kept c.conflicts (Finished memory shown) co refl);
        differ = no_outputs (Finished memory outputs) is;
      }

  differ : (e : RecordEnd) → c.end ≡ e → OutputsDiffer c
  differ (Finished memory outputs) is = instead memory outputs is
  differ (Fault x kind) is = absurd (no_outputs (Fault x kind) is tt)
  differ (Budget x) is = absurd (no_outputs (Budget x) is tt)
  differ Moves is = absurd (no_outputs Moves is tt)

pub only_outputs_break_order : OnlyOutputsBreakOrder
only_outputs_break_order c tree named a = let (p, is, broken) = a.1 in differ c tree named a.0 (order_broken c p is broken) c.end refl

-- ## All parts

pub all_parts : (c : Contents) → HoldsButOrder c → PartHolds c order → (p : Part) → PartHolds c p
all_parts c h last order = last
all_parts c h last stamps = h stamps (omega arith)
all_parts c h last accesses = h accesses (omega arith)
all_parts c h last blocks = h blocks (omega arith)
all_parts c h last refusals = h refusals (omega arith)
all_parts c h last strands = h strands (omega arith)
all_parts c h last ending = h ending (omega arith)
all_parts c h last cancels = h cancels (omega arith)

pub sound_is_coherence : SoundIsCoherence
sound_is_coherence c tree named = (
  λ a. ((parts_are_coherence c tree).0 (λ p l. a p), (order_is_outputs c tree named (λ p l. a p)).0 (a order)),
  λ w. (let h = (parts_are_coherence c tree).1 w.0 in all_parts c h ((order_is_outputs c tree named h).1 w.1)),
)
