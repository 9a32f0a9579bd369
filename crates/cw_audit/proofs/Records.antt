-- The sheets of records.
use Rattle.std.proofs.Common.{◌≡◌, ℕ, ℤ, List, length, sym, ◌∙◌, ap, subst}
use Rattle.cw_text.specs.Syntax.{Source}
use Rattle.cw_code.specs.declared.instruction.Code.{Code}
use Rattle.cw_strand.specs.Names.{first_memory}
use Rattle.cw_strand.specs.Strands.{Strands}
use Rattle.cw_strand.specs.Coded.{MainTakes, strands_of_code}
use Rattle.cw_strand.specs.Compilation.{code_of, main_function}
use Rattle.cw_strand.specs.Programs.{IsProgramOf}
use Rattle.cw_tree.specs.declared.access.Entry.{Entry}
use Rattle.cw_tree.specs.declared.conflict.Conflict.{Conflict}
use Rattle.cw_tree.specs.declared.node.Node.{Node}
use Rattle.cw_tree.specs.Journals.{AreJournals}
use Rattle.cw_job.specs.Jobs.{TakesWords}
use Rattle.cw_job.specs.Room.Strands.{StrandState, strands_of_job}
use Rattle.cw_record.specs.declared.record.Record.{Record}
use Rattle.cw_record.specs.declared.record_end.RecordEnd.{RecordEnd}
use Rattle.cw_record.specs.Coherent.{IsCoherent}
use Rattle.cw_record.specs.Records.{job_of_record}
use Rattle.cw_audit.specs.Journals.{journals_told}
use Rattle.cw_audit.specs.Parts.{first_values, strands_of_sheet}
use Rattle.cw_audit.specs.Laws.{sheet_of, RecordsByParts, CoherentAreSound}
use Rattle.cw_audit.proofs.Journals.{told_journals, right_reads}
use Rattle.cw_audit.proofs.Coherence.{parts_are_coherence}
use Rattle.cw_audit.proofs.Order.{order_is_outputs, all_parts}

-- coherence with other journals that are the tree's
with_journals : {A : Type 0} (s : Strands A) (first : List ℤ) (budget : ℕ) (t : List Node) (kept other : List (List Entry)) (cs : List Conflict) (e : RecordEnd)
    → AreJournals t first other → IsCoherent s first budget t kept cs e → IsCoherent s first budget t other cs e
with_journals s first budget t kept other cs e journals co = record {
  history = record {
    tree = co.history.tree;
    stamps = co.history.stamps;
    pending_last = co.history.pending_last;
    cells = co.history.cells;
    journals = journals;
    ended = co.history.ended;
    cancels = co.history.cancels;
    refusals = co.history.refusals;
    rolls_back = co.history.rolls_back;
  };
  faulted = co.faulted;
  spent = co.spent;
  memory = co.memory;
  strands = co.strands;
}

module _ (source : Source) (r : Record) (is : IsProgramOf source.items r.program) where
  abbrev Coherent : Strands StrandState → List ℤ → List (List Entry) → Type 0
  Coherent s first kept = IsCoherent s first r.limits.aborts r.tree kept r.conflicts r.end

  -- the strands, the first values and the parameters of main are those of the source
  same_strands : strands_of_job (job_of_record r) ≡ strands_of_sheet (sheet_of source r)
  unfolding strands_of_job
  same_strands =
      let ds = source.items in
      ap (λ (code : Code). strands_of_code code r.program.main r.words r.limits) is.code ∙ ap (λ (main : ℕ). strands_of_code (code_of ds) main r.words r.limits) is.main

  same_first : first_memory r.program.cells ≡ first_values (sheet_of source r)
  same_first = ap first_memory is.cells

  to_words : TakesWords r.program (length r.words) → MainTakes (code_of source.items) (main_function source.items) (length r.words)
  to_words w =
      let P : Code → Type 0 = λ code. MainTakes code r.program.main (length r.words) in
      let Q : ℕ → Type 0 = λ main. MainTakes (code_of source.items) main (length r.words) in
      subst Q is.main (subst P is.code w)

  from_words : MainTakes (code_of source.items) (main_function source.items) (length r.words) → TakesWords r.program (length r.words)
  from_words w =
      let P : Code → Type 0 = λ code. MainTakes code r.program.main (length r.words) in
      let Q : ℕ → Type 0 = λ main. MainTakes (code_of source.items) main (length r.words) in
      subst P (sym is.code) (subst Q (sym is.main) w)

  to_sheet : (kept : List (List Entry)) → Coherent (strands_of_job (job_of_record r)) (first_memory r.program.cells) kept → Coherent (strands_of_sheet (sheet_of source r)) (first_values (sheet_of source r)) kept
  to_sheet kept co =
      let P : Strands StrandState → Type 0 = λ s. Coherent s (first_memory r.program.cells) kept in
      let Q : List ℤ → Type 0 = λ first. Coherent (strands_of_sheet (sheet_of source r)) first kept in
      subst Q same_first (subst P same_strands co)

  from_sheet : (kept : List (List Entry)) → Coherent (strands_of_sheet (sheet_of source r)) (first_values (sheet_of source r)) kept → Coherent (strands_of_job (job_of_record r)) (first_memory r.program.cells) kept
  from_sheet kept co =
      let P : Strands StrandState → Type 0 = λ s. Coherent s (first_memory r.program.cells) kept in
      let Q : List ℤ → Type 0 = λ first. Coherent (strands_of_sheet (sheet_of source r)) first kept in
      subst P (sym same_strands) (subst Q (sym same_first) co)

pub records_by_parts : RecordsByParts
records_by_parts source r is tree journals =
    let c = sheet_of source r in
    let first = first_values c in
    let s = strands_of_sheet c in
    let J : List ℤ → Type 0 = λ vs. AreJournals r.tree vs r.journals in
    let own : AreJournals r.tree first r.journals = subst J (same_first source r is) journals in
    let told = journals_told r.tree first in
    let aborts = r.limits.aborts in
    let (coherent_from, parts_from) = parts_are_coherence c tree in (
      λ h. (
          let w = coherent_from h in (
            record {
              program = (source.items, is);
              words = from_words source r is w.words;
              coherent = from_sheet source r is r.journals (with_journals s first aborts r.tree told r.journals r.conflicts r.end own w.coherent);
            },
            w.limits,
          )),
      λ w. parts_from (record {
        words = to_words source r is w.0.words;
        limits = w.1;
        coherent = with_journals s first aborts r.tree r.journals told r.conflicts r.end (told_journals r.tree first (right_reads r.tree first r.journals own)) (to_sheet source r is r.journals w.0.coherent);
      }),
    )

pub coherent_are_sound : CoherentAreSound
coherent_are_sound source r is co outs limits =
    let c = sheet_of source r in
    let tree = co.coherent.history.tree in
    let h = (records_by_parts source r is tree co.coherent.history.journals).1 (co, limits) in
    all_parts c h ((order_is_outputs c tree is.named h).1 outs)
