use Rattle.std.proofs.Common.{string_bytes, ◌≡◌}
use Rattle.std.proofs.lemmas.Map.Text.{btree_map_updates_text}
use Rattle.std.proofs.lemmas.Result.{IfOk-at_ok}
use Rattle.cw_compile.proofs.NamingRules.Found.{same_from_update}
use Rattle.cw_compile.proofs.naming.scope.Scope.add.Goals as goal

-- the key has the name's bytes, so `insert` set what the name stands for
pub returns : goal.returns
returns c =
    let key_is_name = IfOk-at_ok (λ s. string_bytes s ≡ c.args.name.now) c.in_ok-name.was (rw c.as_str.ensures at c.from_str.ensures.ok) in
    let sets = btree_map_updates_text (string_bytes c.in_ok-name.name) c.self.inside.things c.insert.new.self _ c.in_ok-insert.ensures.updates in
    rw (← c.self.view_is) (same_from_update c.args.name.now c.args.thing c.self.inside.things c.insert.new.self (rw key_is_name at sets))
