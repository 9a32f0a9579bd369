-- Empty places at the end are no keys.
use Rattle.std.proofs.Common.{◌≡◌, ℕ, ◌+◌, ◌≤◌, ◌++◌, List, length, take, replicate, sym, ap, ◌∙◌, arith, Option, None}
use Rattle.std.proofs.lemmas.List.{take_all}
use Rattle.cw_sim.specs.ThingsInMemory.{thing_at, under}
use Rattle.cw_sim.proofs.InMemory.Things.{thing_of, thing_padded, keys_same}
use Rattle.cw_sim.proofs.by_node.ByNode.grow.Goals as goal

padded : (xs ys : List (Option ℕ)) (n k : ℕ) → length xs ≤ n → ys ≡ take n xs ++ replicate k None → (m : ℕ) → thing_at ys m ≡ thing_at xs m
padded xs ys n k low e m = ap (λ zs. thing_at zs m) (e ∙ ap (λ zs. zs ++ replicate k None) (take_all n xs low)) ∙ thing_padded xs k m

pub invariant_of-self : goal.invariant_of-self
invariant_of-self g c =
    let old = c.self.inside in
    let few : length old.keys.items ≤ c.args.node + 1 = omega (arith, c.if-len-count.true, old.keys.ok.0, c.len.ensures) in
    keys_same old.slab old.keys.items c.resize.new.self.items (padded old.keys.items c.resize.new.self.items (c.args.node + 1) _ few c.in_ok-resize.ensures.items) c.self.invariant

pub returns-in_ok-resize-clause-same : goal.returns-in_ok-resize-clause-same
returns-in_ok-resize-clause-same g c m =
    let old = c.self.inside in
    let few : length old.keys.items ≤ c.args.node + 1 = omega (arith, c.if-len-count.true, old.keys.ok.0, c.len.ensures) in
    thing_of old.slab c.resize.new.self.items m
    ∙ ap (under old.slab) (padded old.keys.items c.resize.new.self.items (c.args.node + 1) _ few c.in_ok-resize.ensures.items m)
    ∙ sym (thing_of old.slab old.keys.items m)
    ∙ ap (λ v. thing_at v m) c.self.view_is
