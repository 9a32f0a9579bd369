use Rattle.std.proofs.Common.{◌≡◌, ◌<◌, ap, sym, ◌∙◌, arith, rules, subst, SFits, w64}
use Rattle.std.specs.Prelude.{Contains}
use Rattle.std.specs.BTreeMap.{IsOrdered}
use Rattle.std.specs.Ordering.{nat_cmp}
use Rattle.std.proofs.lemmas.Int.{to_z-of_z}
use Rattle.cw_stack.specs.Cells.{CellParts}
use Rattle.cw_tree.specs.AccessStacks.{stamps}
use Rattle.cw_core.specs.Touched.{value_before}
use Rattle.cw_core.proofs.Touched.Listing.{begins, ends, next, next_low, passes_over, puts}
use Rattle.cw_core.proofs.beneath.backs.Goals as goal

pub loop-cell-init : goal.loop-cell-init
loop-cell-init c =
    let ordered : IsOrdered nat_cmp c.args.touched.now = search (rules, c.into_iter-cell-iterator.ensures.into_iter_gives) in
    let all : c.into_iter-cell-iterator.result ≡ c.args.touched.now.entries = search (rules, c.into_iter-cell-iterator.ensures.into_iter_gives) in
    begins c.args.touched.now c.args.cells.now.items ordered c.new-backs.result.items c.into_iter-cell-iterator.result c.new-backs.ensures.items all

pub index-requires : goal.index-requires
index-requires c =
    let n = next_low c.args.touched.now c.args.cells.now.items c.requires c.loop-cell.backs.items c.loop-cell.cell-iterator c.next.new.self
    c.in-Some.cell.now c.in-Some.access.now c.loop-cell.invariant c.in-Some.ensures.steps in
    omega (arith, n)

pub before-value-requires : goal.before-value-requires
before-value-requires c =
    let n = next c.args.touched.now c.args.cells.now.items c.requires c.loop-cell.backs.items c.loop-cell.cell-iterator c.next.new.self
    c.in-Some.cell.now c.in-Some.access.now c.loop-cell.invariant c.in-Some.ensures.steps c.index.result.now in
    let P : CellParts → Type 0 = λ y. Contains (stamps (Rattle.std.proofs.Common.drop y.cleaned y.entries)) c.in-Some.access.now.first in
    subst P (sym (c.index.ensures ∙ n.is)) n.has

pub loop-cell-preserved-in-Continue-1 : goal.loop-cell-preserved-in-Continue-1
loop-cell-preserved-in-Continue-1 c =
    let d = c.index.result.now in
    let n = next c.args.touched.now c.args.cells.now.items c.requires c.loop-cell.backs.items c.loop-cell.cell-iterator c.next.new.self
    c.in-Some.cell.now c.in-Some.access.now c.loop-cell.invariant c.in-Some.ensures.steps d in
    let value : c.before-value.result ≡ value_before c.in-Some.access.now.first n.cell = c.before-value.ensures.value
    ∙ ap (value_before c.in-Some.access.now.first) (c.index.ensures ∙ n.is) in
    let fits : SFits w64 c.before-value.result = search rules in
    puts c.args.touched.now c.args.cells.now.items c.requires c.loop-cell.backs.items c.loop-cell.cell-iterator c.next.new.self
    c.in-Some.cell.now c.in-Some.access.now c.loop-cell.invariant c.in-Some.ensures.steps c.if-access.true d _ (to_z-of_z w64
    c.before-value.result fits ∙ value) c.push.new.self.items c.in_ok-push.ensures.items

pub loop-cell-preserved : goal.loop-cell-preserved
loop-cell-preserved c =
    passes_over c.args.touched.now c.args.cells.now.items c.requires c.loop-cell.backs.items c.loop-cell.cell-iterator c.next.new.self
    c.in-Some.cell.now c.in-Some.access.now c.loop-cell.invariant c.in-Some.ensures.steps c.if-access.false

pub returns-clause-list : goal.returns-clause-list
returns-clause-list c = c.from_vec.ensures ∙ ends c.args.touched.now c.args.cells.now.items c.loop-cell.backs.items c.loop-cell.cell-iterator
    c.loop-cell.invariant c.in-None.ensures.steps.0
