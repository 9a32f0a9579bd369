use Rattle.std.proofs.Common.{◌++◌, ◌∷◌, [], subst, sym}
use Rattle.std.specs.List.{All, Contains}
use Rattle.std.specs.Option.{ForSome}
use Rattle.std.proofs.lemmas.List.Elements.{All-contains}
use Rattle.cw_order.proofs.Members.{all_placed}
use Rattle.cw_order.proofs.tests.insert_many.Goals as goal

pub insert_after-requires : goal.insert_after-requires
insert_after-requires c =
    let made : ForSome c.place-at.result (Contains c.loop-turn.made.items) = subst (λ zs. ForSome c.place-at.result (Contains zs)) c.deref.ensures.value c.place-at.ensures in
    λ x is. All-contains (Contains c.loop-turn.list.elements) c.loop-turn.made.items x c.loop-turn.invariant (made x is)

pub loop-turn-preserved : goal.loop-turn-preserved
loop-turn-preserved c =
    let at = c.place-at.result in
    let e = c.in_ok-element.element in
    let old = c.loop-turn.list.elements in
    let made : ForSome at (Contains c.loop-turn.made.items) = subst (λ zs. ForSome at (Contains zs)) c.deref.ensures.value c.place-at.ensures in
    let has : ForSome at (Contains old) = λ x is. All-contains (Contains old) c.loop-turn.made.items x c.loop-turn.invariant (made x is) in
    let all = all_placed at e old c.loop-turn.made.items has c.loop-turn.invariant in
    let moved : All (Contains c.insert_after.new.self.elements) (c.loop-turn.made.items ++ e ∷ []) = subst (λ zs. All (Contains zs) (c.loop-turn.made.items ++ e ∷ [])) (sym c.in_ok-element.ensures.placed) all in
    subst (All (Contains c.insert_after.new.self.elements)) (sym c.in_ok-push.ensures.items) moved
