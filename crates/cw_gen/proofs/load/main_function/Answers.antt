use Rattle.std.proofs.Common.{◌≡◌, List, [], ◌∷◌, ◌++◌, ap, ◌∙◌, map, append_assoc}
use Rattle.std.specs.List.{range_with_len}
use Rattle.std.proofs.lemmas.List.{map-append}
use Rattle.std.specs.Prelude.{codes}
use Rattle.cw_text.specs.declared.ast.Word.{Word}
use Rattle.cw_text.specs.Syntax.{block_of, func, statement_of, sync}
use Rattle.cw_gen.specs.Load.{block, spawned_group, summed}
use Rattle.cw_gen.proofs.Blocks.{block_is}
use Rattle.cw_gen.proofs.load.main_function.Goals as goal

pub returns : goal.returns
returns c =
    let calls = map spawned_group (range_with_len 0 c.args.groups) in
    let all : map statement_of c.push_sum.new.body.items ≡ calls ++ sync ∷ summed =
    c.in_ok-push_sum.ensures
    ∙ ap (λ ss. map statement_of ss ++ summed) c.in_ok-push.ensures.items
    ∙ ap (λ ss. ss ++ summed) (map-append statement_of c.push_calls.new.body.items _ ∙ ap (λ ss. ss ++ sync ∷ []) (c.in_ok-push_calls.ensures ∙ ap (λ ss. map statement_of ss ++ calls) c.new-body.ensures.items))
    ∙ append_assoc calls (sync ∷ []) summed in
    ap (λ name. func name 1 c.new-params.result.items (block_of c.push_sum.new.body.items)) c.in_ok-name.ensures
    ∙ ap (λ (params : List Word). func (codes "main") 1 params (block_of c.push_sum.new.body.items)) c.new-params.ensures.items
    ∙ ap (func (codes "main") 1 []) (block_is c.push_sum.new.body.items ∙ ap block all)
