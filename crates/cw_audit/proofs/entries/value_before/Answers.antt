use Rattle.std.proofs.Common.{◌≡◌, ◌<◌, arith, sym, ◌∙◌, length, rules, w64, SFits, take}
use Rattle.std.proofs.lemmas.Int.{to_z-of_z}
use Rattle.cw_tree.specs.Cancels.{before_block}
use Rattle.cw_tree.proofs.Members.{all_at}
use Rattle.cw_audit.specs.LiveAccesses.{cell_accessed}
use Rattle.std.specs.Prelude.{IsTrue, is_some}
use Rattle.cw_audit.proofs.Shown.{before_begin, value_begun}
use Rattle.cw_audit.proofs.entries.value_before.Goals as goal

pub returns : goal.returns
returns c =
    let t = c.args.tree.now in
    let b = c.args.block in
    let js = c.args.journal.now in
    let i = c.first_beneath-begin.result in
    let low : i < length js = omega arith in
    let front : before_block t b js ≡ take i js = before_begin t b js i c.requires.together low (sym c.is_above.ensures ∙ c.if-not-is_above.false) (λ h. sym c.is_above-2.ensures ∙ c.if-is_above.false) in
    let had : SFits w64 c.value_told.result = search rules in
    to_z-of_z w64 c.value_told.result had ∙ c.value_told.ensures
    ∙ value_begun t b c.args.value js i front (omega arith) low (λ n m. all_at (λ u. IsTrue (is_some (cell_accessed t u))) js c.requires.accesses n m) c.requires.reads
