use Rattle.std.proofs.Common.{◌≡◌, ◌+◌, ◌<◌, ℕ, suc, ap, sym, ◌∙◌, arith, length, None, subst}
use Rattle.std.specs.Prelude.{slice_index_or}
use Rattle.cw_tree.specs.Walks.{xparent}
use Rattle.cw_tree.proofs.Lists.{length_map_below, get_map_below}
use Rattle.cw_race.specs.declared.search.Search.{Search}
use Rattle.cw_race.proofs.Searching.{Searched, search_ends, search_passes, leaves_here, noted_here}
use Rattle.cw_race.proofs.Counted.{counted, counted_all, counted_access, counted_other}
use Rattle.cw_race.proofs.finding.look_through.Goals.{in-Some+in_ok-note, in_default}
use Rattle.cw_race.proofs.finding.look_through.Goals as goal

pub bounds-blocks-n : goal.bounds-blocks-n
bounds-blocks-n g c = omega (arith, ap length c.requires.blocks, length_map_below (xparent c.args.tree.now) (length c.args.tree.now), ap length c.nodes.ensures.nodes)

pub note-requires-clause-kept : goal.note-requires-clause-kept
note-requires-clause-kept g c =
    let t = c.args.tree.now in
    let n = c.loop-n.n in
    let there : n < length t = omega (arith, ap length c.nodes.ensures.nodes) in
    leaves_here t c.requires.tree c.requires.numbered c.requires.live n there c.loop-n.search c.loop-n.invariant.searched c.in-Some.cell (sym c.cell_of.ensures ∙ c.in-Some.is) c.args.pairs.now c.requires.pairs
    (slice_index_or c.args.blocks.now n None) (ap (λ xs. slice_index_or xs n None) c.requires.blocks ∙ get_map_below (xparent t) (length t) n None there)

pub returns-in_err-note-clause-cost : goal.returns-in_err-note-clause-cost
returns-in_err-note-clause-cost g c =
    let t = c.args.tree.now in
    let n = c.loop-n.n in
    let there : n < length t = omega (arith, ap length c.nodes.ensures.nodes) in
    omega (arith, c.in_err-note.ensures.cost, c.loop-n.invariant.cost, counted_access t n c.in-Some.cell (sym c.cell_of.ensures ∙ c.in-Some.is), counted_all t (suc n) (omega arith))

pub loop-n-preserved : goal.loop-n-preserved
loop-n-preserved g c =
    let t = c.args.tree.now in
    let n = c.loop-n.n in
    let there : n < length t = omega (arith, ap length c.nodes.ensures.nodes) in
    let next : suc n ≡ n + 1 = omega arith in
    let P : Search → Type 0 = Searched t (n + 1) in
    let Q : ℕ → Type 0 = λ k. Searched t k c.loop-n.search in
    elim c.match-cell_of.branch [
      | in-Some+in_ok-note w ↦ (let is = sym c.cell_of.ensures ∙ w.in-Some.is in record {
        searched = subst P (sym w.search-is)
            (noted_here t c.requires.tree c.requires.numbered c.requires.live n there c.loop-n.search c.loop-n.invariant.searched w.in-Some.cell is c.args.pairs.now c.requires.pairs
            (slice_index_or c.args.blocks.now n None) (ap (λ xs. slice_index_or xs n None) c.requires.blocks ∙ get_map_below (xparent t) (length t) n None there)
            w.writes.result w.writes.ensures w.note.new.self w.in_ok-note.ensures.noted);
        cost = omega (arith, w.steps-is, w.in_ok-note.ensures.cost, c.loop-n.invariant.cost, counted_access t n w.in-Some.cell is, ap (counted t) next);
      })
      | in_default w ↦ record {
        searched = subst P (sym w.search-is)
            (subst Q next (search_passes t c.requires.tree c.requires.numbered c.requires.live n there c.loop-n.search c.loop-n.invariant.searched (sym c.cell_of.ensures ∙ w.in_default.is)));
        cost = omega (arith, w.steps-is, c.loop-n.invariant.cost, counted_other t n, ap (counted t) next);
      }
    ]

pub returns-clause-found : goal.returns-clause-found
returns-clause-found g c =
    search_ends c.args.tree.now c.requires.tree c.requires.numbered c.requires.live c.loop-n.n c.loop-n.search (omega (arith, ap length c.nodes.ensures.nodes)) c.loop-n.invariant.searched
