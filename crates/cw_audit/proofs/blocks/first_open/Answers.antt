use Rattle.std.proofs.Common.{◌≡◌, ℕ, ◌<◌, length, get_or, sym, ◌∙◌, subst, arith, rules, Option, Some, None, true}
use Rattle.std.proofs.lemmas.List.{get_or_read}
use Rattle.cw_tree.proofs.NextNodes.Before.{above_less}
use Rattle.cw_audit.specs.Ended.{EndedUpTo, has_ended_by}
use Rattle.cw_audit.proofs.Shortcuts.{way_there, came_here, came_past, came_on, shortened}
use Rattle.cw_audit.proofs.blocks.first_open.Goals as goal

pub loop-block-init : goal.loop-block-init
loop-block-init c = record { there = c.requires.node; ways = c.requires.ways; rooted = c.nodes.ensures.numbered.rooted; came = λ r. came_here c.args.tree.now r c.args.time c.args.node }

pub returns-in_default-clause-ended : goal.returns-in_default-clause-ended
returns-in_default-clause-ended c =
    let t = c.args.tree.now in
    let w = c.loop-block.invariant in
    let at = c.loop-block.at in
    let ways = c.loop-block.ways.items in
    let none : c.index.result.now ≡ None = search rules in
    let way : c.index.result.now ≡ get_or ways at None = get_or_read ways at c.index.result.now (omega (arith, w.there, w.ways.len)) c.index.ensures None in
    let P : Option ℕ → Type 0 = λ o. EndedUpTo t c.args.time at o in
    came_on t w.rooted c.args.time c.args.node at None c.requires.node (w.came w.rooted) (subst P (sym way ∙ none) (w.ways.each at w.there))

pub has_ended_by-requires : goal.has_ended_by-requires
has_ended_by-requires c =
    let t = c.args.tree.now in
    let w = c.loop-block.invariant in
    let at = c.loop-block.at in
    let ways = c.loop-block.ways.items in
    let way : c.index.result.now ≡ get_or ways at None = get_or_read ways at c.index.result.now (omega (arith, w.there, w.ways.len)) c.index.ensures None in
    let P : Option ℕ → Type 0 = λ o. EndedUpTo t c.args.time at o in
    way_there t c.args.time at c.in-Some.block (subst P (sym way ∙ c.in-Some.is) (w.ways.each at w.there))

pub returns-then-not-has_ended_by-clause-there : goal.returns-then-not-has_ended_by-clause-there
returns-then-not-has_ended_by-clause-there c =
    let t = c.args.tree.now in
    let w = c.loop-block.invariant in
    let at = c.loop-block.at in
    let ways = c.loop-block.ways.items in
    let way : c.index.result.now ≡ get_or ways at None = get_or_read ways at c.index.result.now (omega (arith, w.there, w.ways.len)) c.index.ensures None in
    let P : Option ℕ → Type 0 = λ o. EndedUpTo t c.args.time at o in
    way_there t c.args.time at c.in-Some.block (subst P (sym way ∙ c.in-Some.is) (w.ways.each at w.there))

pub returns-then-not-has_ended_by-clause-ended : goal.returns-then-not-has_ended_by-clause-ended
returns-then-not-has_ended_by-clause-ended c =
    let t = c.args.tree.now in
    let w = c.loop-block.invariant in
    let at = c.loop-block.at in
    let ways = c.loop-block.ways.items in
    let way : c.index.result.now ≡ get_or ways at None = get_or_read ways at c.index.result.now (omega (arith, w.there, w.ways.len)) c.index.ensures None in
    let P : Option ℕ → Type 0 = λ o. EndedUpTo t c.args.time at o in
    came_on t w.rooted c.args.time c.args.node at (Some c.in-Some.block) c.requires.node (w.came w.rooted) (subst P (sym way ∙ c.in-Some.is) (w.ways.each at w.there))

pub index-requires-in-loop-block : goal.index-requires-in-loop-block
index-requires-in-loop-block c =
    let t = c.args.tree.now in
    let w = c.loop-block.invariant in
    let at = c.loop-block.at in
    let ways = c.loop-block.ways.items in
    let ok = c.loop-block.ways.ok in
    let way : c.index.result.now ≡ get_or ways at None = get_or_read ways at c.index.result.now (omega (arith, w.there, w.ways.len)) c.index.ensures None in
    let P : Option ℕ → Type 0 = λ o. EndedUpTo t c.args.time at o in
    omega (arith, w.ways.len, ok.0, way_there t c.args.time at c.in-Some.block (subst P (sym way ∙ c.in-Some.is) (w.ways.each at w.there)))

pub loop-block-smaller : goal.loop-block-smaller
loop-block-smaller c =
    let t = c.args.tree.now in
    let w = c.loop-block.invariant in
    let at = c.loop-block.at in
    let ways = c.loop-block.ways.items in
    let way : c.index.result.now ≡ get_or ways at None = get_or_read ways at c.index.result.now (omega (arith, w.there, w.ways.len)) c.index.ensures None in
    let P : Option ℕ → Type 0 = λ o. EndedUpTo t c.args.time at o in
    let up : EndedUpTo t c.args.time at (Some c.in-Some.block) = subst P (sym way ∙ c.in-Some.is) (w.ways.each at w.there) in
    above_less t w.rooted c.in-Some.block at w.there up.1

pub loop-block-preserved : goal.loop-block-preserved
loop-block-preserved c =
    let t = c.args.tree.now in
    let w = c.loop-block.invariant in
    let at = c.loop-block.at in
    let b = c.in-Some.block in
    let ways = c.loop-block.ways.items in
    let way : c.index.result.now ≡ get_or ways at None = get_or_read ways at c.index.result.now (omega (arith, w.there, w.ways.len)) c.index.ensures None in
    let P : Option ℕ → Type 0 = λ o. EndedUpTo t c.args.time at o in
    let up : EndedUpTo t c.args.time at (Some b) = subst P (sym way ∙ c.in-Some.is) (w.ways.each at w.there) in
    let there : b < length t = way_there t c.args.time at b up in
    let ended : has_ended_by t c.args.time b ≡ true = sym c.has_ended_by.ensures ∙ c.if-not-has_ended_by.false in
    let next : c.index-in-loop-block.result.now ≡ get_or ways b None = get_or_read ways b c.index-in-loop-block.result.now (omega (arith, w.ways.len)) c.index-in-loop-block.ensures None in
    record {
      there = there;
      ways = shortened t w.rooted c.args.time ways at b c.index-in-loop-block.result.now w.ways w.there there (sym way ∙ c.in-Some.is) ended next;
      rooted = w.rooted;
      came = λ r. came_past t r c.args.time c.args.node b (came_on t r c.args.time c.args.node at (Some b) c.requires.node (w.came r) up) ended;
    }
