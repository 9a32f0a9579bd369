use Rattle.std.proofs.Common.{ap, sym, ◌∙◌, rules, SFits, w64}
use Rattle.std.specs.Option.{option_copied, option_map_or}
use Rattle.std.proofs.lemmas.Int.{to_z-of_z}
use Rattle.cw_record.proofs.ClosedRun.LeftMemory.{last_value}
use Rattle.cw_record.proofs.left.value_left.Goals as goal

pub returns-in-Some : goal.returns-in-Some
returns-in-Some c =
    let fits : SFits w64 c.in-Some.entry.now.value = search rules in
    to_z-of_z w64 c.in-Some.entry.now.value fits
    ∙ sym (last_value c.args.first c.args.journal.now ∙ ap (λ o. option_map_or (λ x. x.value) o c.args.first) (sym c.last.ensures.value ∙ ap option_copied c.in-Some.is))

pub returns-in-None : goal.returns-in-None
returns-in-None c =
    to_z-of_z w64 c.args.first c.ranges.first
    ∙ sym (last_value c.args.first c.args.journal.now ∙ ap (λ o. option_map_or (λ x. x.value) o c.args.first) (sym c.last.ensures.value ∙ ap option_copied c.in-None.is))
