use Rattle.std.proofs.Common.{◌≡◌, ◌<◌, [], ◌∷◌, ◌++◌, ap, sym, ◌∙◌, subst, arith, length, get_or, Some, inl, inr}
use Rattle.std.specs.Prelude.{slice_get}
use Rattle.std.proofs.lemmas.Bool.{cases_lt}
use Rattle.std.proofs.lemmas.Option.{slice_get-get_or, slice_get_within}
use Rattle.cw_tree.proofs.InOrder.Renumbered.{map_take_more}
use Rattle.cw_stack.specs.Cells.{CellParts, AreSteps}
use Rattle.cw_core.proofs.cores.closing.journals.Goals as goal

pub loop-cell-preserved : goal.loop-cell-preserved
loop-cell-preserved c =
    let cells = c.args.cells.now in
    let j = c.loop-cell.cell-index in
    let r = c.cell-item.result in
    let low : j < length cells = omega arith in
    record {
      entries =
          (let more = map_take_more (λ x. x.entries) cells j r low in
          let at = ap (λ x. x.entries) c.cell-item.is in
          c.in_ok-push.ensures.items
          ∙ ap (λ x. c.loop-cell.journals.items ++ x ∷ []) (c.from_vec.ensures ∙ c.in_ok-entries.ensures.items ∙ c.journal.ensures.entries ∙ at)
          ∙ ap (λ xs. xs ++ (get_or cells j r).entries ∷ []) c.loop-cell.invariant.entries
          ∙ sym more);
      steps = λ i x at h.
          elim (cases_lt i j) [
            | inl less ↦ c.loop-cell.invariant.steps i x at less
            | inr le ↦
                (let same : i ≡ j = omega arith in
                let here : slice_get cells i ≡ Some r = ap (slice_get cells) same ∙ slice_get-get_or cells j r low ∙ ap Some (sym c.cell-item.is) in
                let P : CellParts → Type 0 = λ x. AreSteps x.first x.entries in
                let q : r ≡ x = cc (here, at) in
                subst P q c.journal.ensures.steps)
          ];
    }

pub returns-clause-steps : goal.returns-clause-steps
returns-clause-steps c = λ i x at. c.loop-cell.invariant.steps i x at (let h = slice_get_within c.args.cells.now i x at in omega arith)
