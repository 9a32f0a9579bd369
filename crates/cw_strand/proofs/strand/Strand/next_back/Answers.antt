use Rattle.std.proofs.Common.{◌≡◌, ◌+◌, ◌∙◌, List, ◌∷◌, drop, sym, ap, Some, arith}
use Rattle.std.specs.Prelude.{slice_get}
use Rattle.std.proofs.lemmas.List.{drop_more}
use Rattle.std.proofs.lemmas.Option.{get_or_from_slice_get, slice_get_within}
use Rattle.cw_code.specs.declared.Back.{Back}
use Rattle.cw_strand.specs.Coded.{State}
use Rattle.cw_strand.proofs.strand.Strand.next_back.Goals as goal

pub returns : goal.returns
returns c =
    let all : List Back = c.self.inside.back in
    let done = c.self.inside.written in
    let first = c.at-back.result.now in
    let there : slice_get all done ≡ Some first = grind (arith, c.at-back.ensures) in
    let left : drop done all ≡ first ∷ drop (done + 1) all = drop_more all done first (slice_get_within all done first there) ∙ ap (λ (b : Back). b ∷ drop (done + 1) all) (get_or_from_slice_get all done first first there) in
    (sym (ap (λ (z : State). z.back) c.self.view_is) ∙ left, ap (λ (z : State). record z { back = drop (done + 1) all }) c.self.view_is)
