use Rattle.std.proofs.Common.{◌≡◌, ◌<◌, ◌∙◌, ◌++◌, ◌∷◌, [], ap, sym, arith, get_or, length, map, rules}
use Rattle.cw_tree.specs.Names.{fork_number, is_right, strands_on, turn}
use Rattle.cw_tree.specs.Nodes.{is_strand}
use Rattle.cw_tree.specs.Series.{strand_of}
use Rattle.cw_tree.proofs.Lists.{length_map_below, get_map_below}
use Rattle.cw_tree.proofs.Names.Turns.{turn_at, turns_strand}
use Rattle.cw_tree.proofs.Walks.Strands.{strand_of_le}
use Rattle.cw_record.proofs.StrandIs.{strand_is}
use Rattle.cw_report.proofs.Lookups.{strands_from_strand}
use Rattle.cw_report.proofs.strands.Strands.turns.Goals as goal

pub index-requires : goal.index-requires
index-requires c = omega (arith, ap length c.requires.names.forks, length_map_below (fork_number c.args.tree.now) (length c.args.tree.now), c.loop-at.invariant.there, c.parent-fork.ensures.low c.loop-at-test.true)

pub index-requires-in-loop-at : goal.index-requires-in-loop-at
index-requires-in-loop-at c = omega (arith, ap length c.requires.names.sides, length_map_below (is_right c.args.tree.now) (length c.args.tree.now), c.loop-at.invariant.there)

pub index-at-requires : goal.index-at-requires
index-at-requires c = omega (arith, ap length c.requires.names.owners, length_map_below (strand_of c.args.tree.now) (length c.args.tree.now), c.loop-at.invariant.there, c.parent-fork.ensures.low c.loop-at-test.true)

pub loop-at-smaller : goal.loop-at-smaller
loop-at-smaller c =
    let t = c.args.tree.now in
    let q = c.parent-fork.result in
    let low = c.parent-fork.ensures.low c.loop-at-test.true in
    let there = c.loop-at.invariant.there in
    let is : c.index-at.result.now ≡ strand_of t q = c.index-at.ensures ∙ ap (λ xs. get_or xs q c.index-at.result.now) c.requires.names.owners ∙ get_map_below (strand_of t) (length t) q c.index-at.result.now (omega (arith, low, there)) in
    omega (arith, is, strand_of_le t c.parent-fork.ensures.numbered.rooted q (omega (arith, low, there)), low)

pub loop-at-preserved : goal.loop-at-preserved
loop-at-preserved c =
    let t = c.args.tree.now in
    let r = c.parent-fork.ensures.numbered.rooted in
    let at = c.loop-at.at in
    let q = c.parent-fork.result in
    let next = c.index-at.result.now in
    let low = c.parent-fork.ensures.low c.loop-at-test.true in
    let inv = c.loop-at.invariant in
    let q_there : q < length t = omega (arith, low, inv.there) in
    let is : next ≡ strand_of t q = c.index-at.ensures ∙ ap (λ xs. get_or xs q next) c.requires.names.owners ∙ get_map_below (strand_of t) (length t) q next q_there in
    let le = strand_of_le t r q q_there in
    record {
      there = omega (arith, is, le, q_there);
      strand = search (rules, ap (is_strand t) is ∙ strand_is t r (search rules) q q_there);
      passed = ap (λ xs. xs ++ map (turn t) (strands_on t next)) c.in_ok-push.ensures.items
          ∙ ap (λ ns. (c.loop-at.turns.items ++ (record { fork = c.index.result.now; right = c.index-in-loop-at.result.now }) ∷ []) ++ map (turn t) ns) (ap (strands_on t) is ∙ sym (strands_from_strand t r q q_there))
          ∙ turns_strand t r at c.loop-at-test.true inv.there q (record { fork = c.index.result.now; right = c.index-in-loop-at.result.now }) c.loop-at.turns.items
          c.parent-fork.ensures.parent (search rules)
          (turn_at t c.args.self.now.forks.items c.args.self.now.sides.items c.requires.names.forks c.requires.names.sides at q c.index.result.now c.index-in-loop-at.result.now inv.there q_there
          c.parent-fork.ensures.parent c.index.ensures c.index-in-loop-at.ensures)
          ∙ inv.passed;
    }
