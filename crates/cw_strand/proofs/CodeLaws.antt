-- Compiled code wants what the source wants, and what is proved of strands over the syntax holds of it.
use Rattle.std.proofs.Common.{◌∙◌, sym}
use Rattle.cw_strand.specs.Pasts.{became}
use Rattle.cw_strand.specs.Meaning as meaning
use Rattle.cw_strand.specs.Coded as coded
use Rattle.cw_strand.specs.Compilation.{code_of, main_function}
use Rattle.cw_strand.specs.Laws.{WantsOfTheSource, CodeEndsOnlyWhenDone, CodeIsLawful, compiled}
use Rattle.cw_strand.proofs.Settling.{settles, deep}
use Rattle.cw_strand.proofs.LocalWork as local_work
use Rattle.cw_strand.proofs.Bounding as bounding
use Rattle.cw_strand.proofs.Lawful.{ends_only_when_done, lawful}
use Rattle.cw_strand.proofs.Pasts.{reached, closes, wants_there}
use Rattle.cw_strand.proofs.SameWants.{same_wants}
use Rattle.cw_strand.proofs.Unbroken.Functions.{breaks_no_rule}

pub wants_of_the_source : WantsOfTheSource
wants_of_the_source ds words limits faultless =
    let code = code_of ds in
    let main = main_function ds in
    same_wants ds words limits faultless
    (settles (meaning.runs ds words limits) (local_work.bounded ds words limits).on)
    (settles (coded.runs code main words limits) (bounding.bounded code main words limits (breaks_no_rule ds faultless.named)).on)

pub code_ends_only_when_done : CodeEndsOnlyWhenDone
code_ends_only_when_done ds words limits faultless = λ own x way is.
    let s = meaning.strands_of_syntax ds words limits in
    let t = compiled ds words limits in
    let same = wants_of_the_source ds words limits faultless in
    let h = reached s t same way in
    let there = became s h.past in
    (h.past, (h.can, (h.is, ends_only_when_done ds words limits faultless own there h.other (sym (wants_there s t same h) ∙ is))))

pub code_is_lawful : CodeIsLawful
code_is_lawful ds words limits faultless =
    let code = code_of ds in
    let main = main_function ds in
    record {
      deep = deep (coded.runs code main words limits) (bounding.bounded code main words limits (breaks_no_rule ds faultless.named));
      closes = closes (meaning.strands_of_syntax ds words limits) (compiled ds words limits) (wants_of_the_source ds words limits faultless) (lawful ds words limits faultless).closes;
    }
