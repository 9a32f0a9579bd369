use Rattle.std.proofs.Common.{◌≡◌, refl, ap, sym, ◌∙◌, Bool, true, false}
use Rattle.std.specs.Prelude.{◌&&◌, ◌||◌, not}
use Rattle.std.specs.List.{list_any}
use Rattle.std.proofs.lemmas.Bool.{and_right}
use Rattle.cw_open.specs.Machine.{finished_dead}
use Rattle.cw_core.specs.Kept.{elder_list}
use Rattle.cw_core.proofs.Fits.Fits.{died_tells, elder_low}
use Rattle.cw_core.proofs.cores.Core.left_died.Goals as goal

pub row-requires : goal.row-requires
row-requires c = elder_low c.args.self.now c.args.strand c.row-row.result c.row-row.ensures.row c.requires c.in-Some.left c.in-Some.is

pub returns-then-not-row : goal.returns-then-not-row
returns-then-not-row c =
    let m = c.args.self.now.machine in
    let r = c.row-row.result in
    let l = c.in-Some.left in
    let or_false : (x : Bool) → (x || false) ≡ x = λ x. elim x as (λ x. (x || false) ≡ x) [ true ↦ refl | false ↦ refl ] in
    let told = died_tells c.args.self.now c.args.strand r c.row-row.ensures.row c.requires in
    sym (told
    ∙ ap (λ o. not r.tail.started && list_any (finished_dead m) (elder_list o)) c.in-Some.is
    ∙ ap (λ b. b && (finished_dead m l || false)) c.if-not-row.true
    ∙ or_false (finished_dead m l)
    ∙ c.row.ensures.row.now.dead)

pub returns-in-None : goal.returns-in-None
returns-in-None c =
    let m = c.args.self.now.machine in
    let r = c.row-row.result in
    let told = died_tells c.args.self.now c.args.strand r c.row-row.ensures.row c.requires in
    sym (told ∙ ap (λ o. not r.tail.started && list_any (finished_dead m) (elder_list o)) c.in-None.is ∙ and_right (not r.tail.started) false refl)
