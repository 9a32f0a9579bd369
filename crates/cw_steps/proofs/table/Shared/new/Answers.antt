use Rattle.std.proofs.Common.{◌≡◌, ◌∙◌, ◌++◌, ◌∷◌, [], ℕ, List, ap, length, map, rules, subst, sym, take, drop}
use Rattle.std.specs.Prelude.{slice_index}
use Rattle.std.proofs.Math.Seq.{take-append_seam}
use Rattle.atomic_table.specs.Table.{opening}
use Rattle.cw_steps.specs.declared.view.Key.{Key}
use Rattle.cw_steps.specs.declared.view.Slot.{Slot}
use Rattle.cw_steps.specs.declared.view.Slot.TheVariants as slot
use Rattle.cw_steps.specs.Rule.{Holds}
use Rattle.cw_steps.specs.Views.{fresh_slot, root_view}
use Rattle.cw_steps.proofs.Steps.Opening.{opens_as}
use Rattle.cw_steps.proofs.table.Shared.new.Goals as goal

pub new-made-requires : goal.new-made-requires
new-made-requires c =
    let key : Key = record { first = c.from_vec.result; columns = c.args.limits.strands; aborts = c.args.limits.aborts } in
    let first : c.args.init.now ≡ c.from_vec.result = search rules in
    let many : c.in-Ok.cells ≡ length c.from_vec.result = search rules in
    let blank = c.in_ok-words.words.items in
    let shown = c.show_root.new.words in
    let before : c.as_mut_slice.result.now ≡ blank = c.as_mut_slice.ensures.value in
    let long : length shown ≡ length blank = c.show_root.ensures.long ∙ ap length before in
    let after : c.as_slice.result.now ≡ shown =
    c.as_slice.ensures.value ∙ ap (λ (n : ℕ). take n (shown ++ drop (length shown) blank)) (c.in_ok-words.words.ok.0 ∙ sym long) ∙ take-append_seam shown (drop (length shown) blank) in
    let slots : c.push.new.self.items ≡ map fresh_slot c.from_vec.result ++ slot.Tier c.in_ok-tier.tier ∷ [] =
    c.in_ok-push.ensures.items ∙ ap (λ (ys : List Slot). ys ++ slot.Tier c.in_ok-tier.tier ∷ []) (c.in_ok-slots.ensures ∙ ap (map fresh_slot) first) in
    subst (λ ws. Holds key (opening ws c.push.new.self.items root_view)) (sym after)
    (opens_as key c.in-Ok.cells blank shown c.push.new.self.items c.in_ok-tier.tier many c.in_ok-words.ensures
    long
    (λ k p. c.show_root.ensures.low k p ∙ ap (λ (ws : List ℕ). slice_index ws k) before)
    slots c.requires (search rules) c.in_ok-tier.ensures.first)
