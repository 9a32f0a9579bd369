use Rattle.std.proofs.Common.{◌≡◌, ℕ, suc, ◌+◌, ◌<◌, List, [], ◌∷◌, length, map, take, drop, get_or, pos, rules, w64, SFits, to_z, ap, sym, ◌∙◌, subst, arith}
use Rattle.std.specs.Prelude.{unwrap_or}
use Rattle.std.proofs.lemmas.Int.{to_z-of_z}
use Rattle.std.proofs.lemmas.List.{take_more, take_all, map-append}
use Rattle.cw_tree.specs.Accesses.{cell_value, written}
use Rattle.cw_tree.specs.Cancels.{before_block}
use Rattle.cw_tree.specs.Walks.{is_above}
use Rattle.cw_tree.proofs.ChainLaws.Entries.{cell_value_more}
use Rattle.cw_audit.proofs.Backs.{NoneBeneath, none_more, before_all, before_first}
use Rattle.cw_audit.proofs.Taking.{split_at}
use Rattle.cw_audit.proofs.cancels.value_before.Goals as goal

pub returns-then-is_above : goal.returns-then-is_above
returns-then-is_above c =
    let t = c.args.tree.now in
    let b = c.args.block in
    let js = c.args.journal.now in
    let i = c.loop-i.i in
    let low : i < length js = omega arith in
    let w = c.loop-i.invariant in
    let front : before_block t b js ≡ take i js =
    ap (before_block t b) (split_at js i 0 low) ∙ before_first t b (take i js) (get_or js i 0) (drop (suc i) js) w.none (sym c.is_above.ensures ∙ c.if-is_above.true)
    in
    w.value ∙ ap (λ ns. cell_value (get_or c.args.first.now c.args.cell (pos 0)) (map (written t) ns)) (sym front)

pub loop-i-preserved : goal.loop-i-preserved
loop-i-preserved c =
    let t = c.args.tree.now in
    let b = c.args.block in
    let js = c.args.journal.now in
    let i = c.loop-i.i in
    let n = get_or js i 0 in
    let low : i < length js = omega arith in
    let w = c.loop-i.invariant in
    let v = get_or c.args.first.now c.args.cell (pos 0) in
    let P : List ℕ → Type 0 = λ ns. NoneBeneath t b ns in
    let had : SFits w64 c.value_after-value.result = search rules in
    let more : unwrap_or (written t n) (to_z w64 c.loop-i.value-bits) ≡ cell_value v (map (written t) (take (i + 1) js)) =
    ap (unwrap_or (written t n)) w.value
    ∙ sym (ap (λ ns. cell_value v (map (written t) ns)) (take_more js i 0 low) ∙ ap (cell_value v) (map-append (written t) (take i js) (n ∷ [])) ∙ cell_value_more v (map (written t) (take i js)) (written t n))
    in
    record {
      none = subst P (sym (take_more js i 0 low)) (none_more (λ m. is_above t b m) (take i js) n w.none (sym c.is_above.ensures ∙ c.if-is_above.false));
      value = to_z-of_z w64 c.value_after-value.result had ∙ c.value_after-value.ensures ∙ more;
    }

pub returns : goal.returns
returns c =
    let t = c.args.tree.now in
    let b = c.args.block in
    let js = c.args.journal.now in
    let w = c.loop-i.invariant in
    let all = take_all c.loop-i.i js c.loop-i-test.false in
    let P : List ℕ → Type 0 = λ ns. NoneBeneath t b ns in
    w.value ∙ ap (λ ns. cell_value (get_or c.args.first.now c.args.cell (pos 0)) (map (written t) ns)) (all ∙ sym (before_all t b js (subst P all w.none)))
