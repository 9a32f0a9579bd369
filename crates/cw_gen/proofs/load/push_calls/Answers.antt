use Rattle.std.proofs.Common.{◌+◌, ◌-◌, [], ◌∷◌, ◌++◌, ap, sym, ◌∙◌, map}
use Rattle.std.specs.List.{range_with_len}
use Rattle.cw_text.specs.Syntax.{none, run, spawn, statement_of, terms_of}
use Rattle.cw_gen.specs.Load.{block, spawned_group, word}
use Rattle.cw_gen.proofs.Draws.{map_more, range_more}
use Rattle.cw_gen.proofs.load.push_calls.Goals as goal

pub loop-place-preserved : goal.loop-place-preserved
loop-place-preserved c =
    let i = c.loop-place.place in
    let n = c.args.groups in
    let old = c.loop-place.body.items in
    map_more statement_of old c.push.new.self.items c.in_ok-spawned.field-0 (spawned_group i) (map spawned_group (range_with_len (i + 1) (n - (i + 1)))) c.in_ok-push.ensures.items
    (c.in_ok-spawned.ensures
    ∙ ap (λ es. spawn (block (run (record { name = c.in_ok-group_name.field-0; line = 1 }) (terms_of es) ∷ []))) c.new.ensures.items
    ∙ ap (λ text. spawn (block (run (word text) none ∷ []))) c.in_ok-group_name.ensures)
    ∙ ap (λ ks. map statement_of old ++ map spawned_group ks) (sym (range_more i n c.loop-place-test.true))
    ∙ c.loop-place.invariant
