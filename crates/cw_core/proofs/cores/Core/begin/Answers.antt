use Rattle.std.proofs.Common.{◌≡◌, ◌+◌, ◌++◌, [], ◌∷◌, length, ℕ, refl, ap, ◌∙◌, subst, arith, true}
use Rattle.cw_tree.specs.declared.node.Kind.TheVariants.{Block}
use Rattle.cw_tree.specs.Nodes.{fresh_node}
use Rattle.cw_tree.specs.Series.{place}
use Rattle.cw_trace.specs.Columns.{gap, begun_word}
use Rattle.cw_core.specs.Kept.{IsRow, with_row_changed, with_tail, with_place, plain_tail, leaf_row}
use Rattle.cw_core.specs.InMemory.{state_of}
use Rattle.cw_core.specs.State.{gap_of}
use Rattle.cw_core.specs.Events.{fits, after_event}
use Rattle.cw_core.specs.declared.event.Event.TheVariants as event
use Rattle.cw_core.proofs.InMemory.Out.{seen, now_of, runs_free, running_there, finds, tries, begin_state, begin_kept}
use Rattle.cw_core.proofs.cores.Core.begin.Goals as goal

pub row-own-requires : goal.row-own-requires
row-own-requires c =
    running_there c.args.self.now.machine c.args.strand (runs_free c.args.self.now c.args.strand (now_of c.args.self.now (event.Begin c.args.strand) c.requires))

pub row-attempt-requires : goal.row-attempt-requires
row-attempt-requires c =
    let f = finds c.self.inside c.self.invariant c.args.self.now c.self.view_is c.args.strand (runs_free c.args.self.now c.args.strand (now_of c.args.self.now (event.Begin c.args.strand) c.requires)) c.row-own.result c.row-own.ensures.row in
    let at_now = ap (λ k. length k.machine.tree) c.self.view_is in
    omega (arith, f.at, f.there, at_now)

pub overflow_add-attempt : goal.overflow_add-attempt
overflow_add-attempt c =
    let f = finds c.self.inside c.self.invariant c.args.self.now c.self.view_is c.args.strand (runs_free c.args.self.now c.args.strand (now_of c.args.self.now (event.Begin c.args.strand) c.requires)) c.row-own.result c.row-own.ensures.row in
    let here = f.at ∙ ap (λ k. place k.machine.tree c.args.strand) c.self.view_is in
    let Q : ℕ → Type 0 = λ p. IsRow c.args.self.now p c.row-attempt.result in
    let row = subst Q here c.row-attempt.ensures.row in
    omega (arith, tries c.self.inside c.self.invariant c.args.self.now c.self.view_is c.args.strand (runs_free c.args.self.now c.args.strand (now_of c.args.self.now (event.Begin c.args.strand) c.requires)) c.row-attempt.result row)

pub gap-gap-requires : goal.gap-gap-requires
gap-gap-requires c =
    let f = finds c.self.inside c.self.invariant c.args.self.now c.self.view_is c.args.strand (runs_free c.args.self.now c.args.strand (now_of c.args.self.now (event.Begin c.args.strand) c.requires)) c.row-own.result c.row-own.ensures.row in
    f.used

pub overflow_add-stamp : goal.overflow_add-stamp
overflow_add-stamp c =
    let f = finds c.self.inside c.self.invariant c.args.self.now c.self.view_is c.args.strand (runs_free c.args.self.now c.args.strand (now_of c.args.self.now (event.Begin c.args.strand) c.requires)) c.row-own.result c.row-own.ensures.row in
    omega (arith, f.clock)

pub add-requires : goal.add-requires
add-requires c =
    let f = finds c.self.inside c.self.invariant c.args.self.now c.self.view_is c.args.strand (runs_free c.args.self.now c.args.strand (now_of c.args.self.now (event.Begin c.args.strand) c.requires)) c.row-own.result c.row-own.ensures.row in
    omega (arith, f.at, f.there)

pub begin_word-requires : goal.begin_word-requires
begin_word-requires c =
    let f = finds c.self.inside c.self.invariant c.args.self.now c.self.view_is c.args.strand (runs_free c.args.self.now c.args.strand (now_of c.args.self.now (event.Begin c.args.strand) c.requires)) c.row-own.result c.row-own.ensures.row in
    omega (arith, f.gap, c.gap-gap.ensures)

pub put_leaf-requires-clause-strand : goal.put_leaf-requires-clause-strand
put_leaf-requires-clause-strand c =
    let f = finds c.self.inside c.self.invariant c.args.self.now c.self.view_is c.args.strand (runs_free c.args.self.now c.args.strand (now_of c.args.self.now (event.Begin c.args.strand) c.requires)) c.row-own.result c.row-own.ensures.row in
    omega (arith, f.strand, f.rows, c.reserve.ensures.len)

pub put_leaf-requires-clause-place : goal.put_leaf-requires-clause-place
put_leaf-requires-clause-place c =
    let f = finds c.self.inside c.self.invariant c.args.self.now c.self.view_is c.args.strand (runs_free c.args.self.now c.args.strand (now_of c.args.self.now (event.Begin c.args.strand) c.requires)) c.row-own.result c.row-own.ensures.row in
    omega (arith, f.at, f.there, f.rows, c.reserve.ensures.len)

pub invariant_of-self-2 : goal.invariant_of-self-2
invariant_of-self-2 c =
    let s = c.args.strand in
    let a = c.self.inside in
    let f = finds c.self.inside c.self.invariant c.args.self.now c.self.view_is c.args.strand (runs_free c.args.self.now c.args.strand (now_of c.args.self.now (event.Begin c.args.strand) c.requires)) c.row-own.result c.row-own.ensures.row in
    let fit = seen a c.args.self.now (λ k. fits k (event.Begin s) ≡ true) c.self.view_is c.requires in
    let grown : c.add.new.self ≡ a.tree ++ fresh_node (place a.tree s) Block (a.clock + 1) ∷ [] = c.in_ok-node.ensures.ok ∙ ap (λ q. a.tree ++ fresh_node q Block (a.clock + 1) ∷ []) f.at in
    let words : c.begin_word.new.gaps.words.items ≡ begun_word a.gaps.words.items (gap_of (state_of a) s) (a.clock + 1) =
    c.begin_word.ensures ∙ ap (λ g. begun_word a.gaps.words.items g (a.clock + 1)) (c.gap-gap.ensures ∙ ap (gap a.tier.columns) f.column) in
    let Q : ℕ → Type 0 = λ p. IsRow c.args.self.now p c.row-attempt.result in
    let row = seen a c.args.self.now (λ k. IsRow k (place a.tree s) c.row-attempt.result) c.self.view_is (subst Q f.at c.row-attempt.ensures.row) in
    let n = c.row-attempt.result.tail.aborted + 1 in
    let rows : c.put_leaf.new.table.items ≡ with_row_changed (with_place (length a.tree)) s (with_row_changed (with_tail plain_tail) (place a.tree s) a.rows.items ++ leaf_row s n ∷ []) =
    c.put_leaf.ensures
    ∙ ap (λ q. with_row_changed (with_place c.in_ok-node.node) s (with_row_changed (with_tail plain_tail) q c.reserve.new.self.items ++ leaf_row s n ∷ [])) f.at
    ∙ ap (λ rs. with_row_changed (with_place c.in_ok-node.node) s (with_row_changed (with_tail plain_tail) (place a.tree s) rs ++ leaf_row s n ∷ [])) c.reserve.ensures.items
    ∙ ap (λ q. with_row_changed (with_place q) s (with_row_changed (with_tail plain_tail) (place a.tree s) a.rows.items ++ leaf_row s n ∷ [])) c.in_ok-node.ensures.number in
    begin_kept a c.self.invariant s fit (record a { tree = c.add.new.self; rows = c.put_leaf.new.table; gaps = c.begin_word.new.gaps; clock = a.clock + 1 }) grown refl words (λ e. absurd (cc (c.in_ok-node.ensures.full e))) c.row-attempt.result row rows

pub returns-clause-ok : goal.returns-clause-ok
returns-clause-ok c =
    let s = c.args.strand in
    let a = c.self.inside in
    let f = finds c.self.inside c.self.invariant c.args.self.now c.self.view_is c.args.strand (runs_free c.args.self.now c.args.strand (now_of c.args.self.now (event.Begin c.args.strand) c.requires)) c.row-own.result c.row-own.ensures.row in
    let fit = seen a c.args.self.now (λ k. fits k (event.Begin s) ≡ true) c.self.view_is c.requires in
    let grown : c.add.new.self ≡ a.tree ++ fresh_node (place a.tree s) Block (a.clock + 1) ∷ [] = c.in_ok-node.ensures.ok ∙ ap (λ q. a.tree ++ fresh_node q Block (a.clock + 1) ∷ []) f.at in
    let words : c.begin_word.new.gaps.words.items ≡ begun_word a.gaps.words.items (gap_of (state_of a) s) (a.clock + 1) =
    c.begin_word.ensures ∙ ap (λ g. begun_word a.gaps.words.items g (a.clock + 1)) (c.gap-gap.ensures ∙ ap (gap a.tier.columns) f.column) in
    begin_state a c.self.invariant s fit (record a { tree = c.add.new.self; rows = c.put_leaf.new.table; gaps = c.begin_word.new.gaps; clock = a.clock + 1 }) grown refl words ∙ ap (λ k. after_event k (event.Begin s)) c.self.view_is
