use Rattle.std.proofs.Common.{[], ◌∷◌, ◌++◌, ◌+◌, length, get_or, ap, ◌∙◌, arith}
use Rattle.std.proofs.lemmas.List.{length-append}
use Rattle.cw_audit.proofs.Backs.{empty_more}
use Rattle.cw_audit.proofs.by_cell.empty_journals.Goals as goal

pub loop-preserved : goal.loop-preserved
loop-preserved c = record {
  len = ap length c.in_ok-push.ensures.items ∙ length-append c.loop.journals.items (c.new.result ∷ []) ∙ ap (λ n. n + 1) c.loop.invariant.len;
  empty = λ d. (ap (λ xs. get_or xs d []) (c.in_ok-push.ensures.items ∙ ap (λ j. c.loop.journals.items ++ j ∷ []) c.new.ensures) ∙ empty_more c.loop.journals.items c.loop.invariant.empty d);
}

pub returns-clause-len : goal.returns-clause-len
returns-clause-len c = let len = c.loop.invariant.len in let end = c.loop.auto.counter-end in omega arith

pub returns-clause-empty : goal.returns-clause-empty
returns-clause-empty c = c.loop.invariant.empty

pub loop-init : goal.loop-init
loop-init c = record { len = ap length c.in_ok-journals.ensures.items; empty = λ d. ap (λ xs. get_or xs d []) c.in_ok-journals.ensures.items }
