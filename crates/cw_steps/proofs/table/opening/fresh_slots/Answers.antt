use Rattle.std.proofs.Common.{◌≡◌, ◌∙◌, ap, map, get_or, rules, SFits, w64}
use Rattle.std.specs.Prelude.{pos}
use Rattle.std.proofs.lemmas.Int.{to_z-of_z}
use Rattle.std.proofs.lemmas.List.{take_all}
use Rattle.cw_steps.specs.declared.view.Slot.TheVariants as slot
use Rattle.cw_steps.specs.Views.{fresh_slot}
use Rattle.cw_steps.proofs.Steps.Opening.{slot_is, slots_more}
use Rattle.cw_steps.proofs.table.opening.fresh_slots.Goals as goal

pub loop-value-preserved : goal.loop-value-preserved
loop-value-preserved c =
    let w = c.new.ensures in
    let signed : SFits w64 (get_or c.args.init.now c.loop-value.value-index (pos 0)) = search rules in
    let first : c.new.result.first ≡ get_or c.args.init.now c.loop-value.value-index (pos 0) = w.first ∙ to_z-of_z w64 (get_or c.args.init.now c.loop-value.value-index (pos 0)) signed in
    c.in_ok-push.ensures.items ∙ slots_more c.args.init.now c.loop-value.value-index c.loop-value-test.true c.loop-value.slots.items (slot.Cell c.new.result) c.loop-value.invariant (slot_is c.new.result (get_or c.args.init.now c.loop-value.value-index (pos 0)) first w.entries w.cleaned w.room)

pub returns : goal.returns
returns c = c.loop-value.invariant ∙ ap (map fresh_slot) (take_all c.loop-value.value-index c.args.init.now c.loop-value-test.false)
