use Rattle.std.proofs.Common.{◌∙◌, sym, subst}
use Rattle.cw_strand.specs.declared.want.Want.TheVariants.{Begin}
use Rattle.cw_strand.specs.Standing.{StandsWanting}
use Rattle.tests_texts.proofs.strands.beside.Goals as goal

pub back-requires : goal.back-requires
back-requires c = (c.in_ok-to_write.ensures c.in_ok-saved.saved c.in_ok-saved.ensures).0

pub to_write-requires-2 : goal.to_write-requires-2
to_write-requires-2 c =
    let there = c.in_ok-to_write.ensures c.in_ok-saved.saved c.in_ok-saved.ensures in
    subst (StandsWanting c.args.program.now.code Begin) (sym (c.back.ensures there.0 ∙ there.1)) c.in_ok-wants.ensures.stands
