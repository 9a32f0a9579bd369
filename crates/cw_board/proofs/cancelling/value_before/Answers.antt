use Rattle.std.proofs.Common.{rules, ◌∙◌, ap, map, sym, subst, None, Option, ℕ, SFits, w64}
use Rattle.std.specs.Prelude.{filter, Contains, IfSome}
use Rattle.std.specs.List.{take_while}
use Rattle.std.specs.List.Sorted.{IsStrictlyIncreasing}
use Rattle.std.proofs.lemmas.Int.{to_z-of_z}
use Rattle.cw_tree.specs.Accesses.{cell_value}
use Rattle.cw_tree.specs.AccessStacks.{stamps, written_by}
use Rattle.cw_tree.specs.Walks.{has}
use Rattle.cw_stack.specs.Cells.{AreSteps}
use Rattle.cw_steps.specs.Beneath.{least_with, touched_beneath}
use Rattle.cw_board.proofs.Cuts.{found_cut, is_other, nothing_cut}
use Rattle.cw_board.proofs.cancelling.value_before.Goals as goal

pub old_at-requires-clause-there : goal.old_at-requires-clause-there
old_at-requires-clause-there c = subst (λ (r : Option ℕ). IfSome r (λ n. Contains (stamps c.journal-entries.result.now) n)) c.in-Some.is c.first_entry.ensures.entry

pub returns-in-Some : goal.returns-in-Some
returns-in-Some c t h =
    let x = c.args.cell.now in
    let ts = touched_beneath t c.args.number in
    let es = c.journal-entries.result.now in
    let same = c.journal-entries.ensures.entries in
    let fits : SFits w64 c.old_at.result = search rules in
    to_z-of_z w64 c.old_at.result fits ∙ c.old_at.ensures x.first (subst (AreSteps x.first) (sym same) c.journal-entries.ensures.steps)
    ∙ ap (λ xs. cell_value x.first (map written_by xs))
    (found_cut es ts c.in-Some.first (sym c.in-Some.is ∙ c.first_entry.ensures.first t h) (subst (λ xs. IsStrictlyIncreasing (stamps xs)) (sym same) c.journal-entries.ensures.rising)
    ∙ ap (take_while (is_other ts)) same)

pub returns-in-None : goal.returns-in-None
returns-in-None c t h =
    let x = c.args.cell.now in
    let ts = touched_beneath t c.args.number in
    let fits : SFits w64 c.value.result = search rules in
    to_z-of_z w64 c.value.result fits ∙ c.value.ensures
    ∙ ap (λ xs. cell_value x.first (map written_by xs))
    (nothing_cut x.entries ts (sym c.in-None.is ∙ c.first_entry.ensures.first t h ∙ ap (λ xs. least_with None (filter (has (stamps xs)) ts)) c.journal-entries.ensures.entries) c.journal-entries.ensures.rising)
