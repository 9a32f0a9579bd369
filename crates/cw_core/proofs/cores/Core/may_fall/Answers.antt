use Rattle.std.proofs.Common.{◌≡◌, length, ap, sym, ◌∙◌, arith, true}
use Rattle.cw_tree.specs.Nodes.{number_in, stamp_of, is_pending}
use Rattle.cw_tree.specs.Walks.{may_fall}
use Rattle.cw_tree.specs.AccessStacks.{access_at}
use Rattle.cw_xconf.proofs.Rules.{holds_back}
use Rattle.cw_core.specs.Kept.{IsRow, IsMarked}
use Rattle.cw_core.proofs.InMemory.Out.{seen}
use Rattle.cw_core.proofs.Kept.Falls.{strand_low, falls_so}
use Rattle.cw_core.proofs.cores.Core.may_fall.Goals as goal

pub row-requires : goal.row-requires
row-requires g c =
    let a = c.self.inside in
    let same = ap (λ k. length k.machine.tree) c.self.view_is in
    let row = seen a c.args.self.now (λ k. IsRow k c.args.node c.row-strand.result) c.self.view_is c.row-strand.ensures.row in
    omega (arith, strand_low a c.self.invariant c.args.node (omega (arith, c.requires.node, same)), row.made.strand, same)

pub returns : goal.returns
returns g c =
    let a = c.self.inside in
    let row = seen a c.args.self.now (λ k. IsRow k c.args.node c.row-strand.result) c.self.view_is c.row-strand.ensures.row in
    let own = seen a c.args.self.now (λ k. IsRow k c.row-strand.result.made.strand c.row.result) c.self.view_is c.row.ensures.row in
    let last = seen a c.args.self.now (λ k. IsMarked k c.args.last) c.self.view_is c.requires.last in
    let pending : is_pending a.tree c.args.node ≡ true = sym c.is_pending.ensures ∙ c.if-not-is_pending.false in
    let stamp : c.node.result.now.stamp ≡ stamp_of a.tree c.args.node = sym (ap (number_in (λ x. x.stamp)) c.node.ensures) in
    let back = holds_back a.tier.columns c.contains_by.new.columns.tier.columns a.gaps.words.items c.contains_by.new.columns.gaps (rw (c.reader.ensures, c.reader-2.ensures) at c.contains_by.ensures.kept) in
    falls_so a c.self.invariant c.args.last last c.args.node pending c.row-strand.result c.row.result row own c.node.result.now.stamp stamp c.contains_by.result (c.contains_by.ensures.tells a.tier.columns a.gaps.words.items back)
    ∙ ap (λ k. may_fall k.machine.tree (access_at k.machine.tree c.args.last.stamp) c.args.node) c.self.view_is
