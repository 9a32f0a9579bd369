use Rattle.std.proofs.Common.{arith, refl, nat_lt, ◌+◌}
use Rattle.cw_record.proofs.Plain.Passing.{above_there, forks_there, names_few, passed_strand}
use Rattle.cw_record.proofs.passing.Pass.add_strand.Goals as goal

pub index-above-requires : goal.index-above-requires
index-above-requires c =
    let s = c.args.self.now in
    omega (arith, s.numbers.ok.0, above_there c.args.tree.now c.parent-parent.ensures.numbered c.args.n c.requires.child c.requires.there s.names.items s.forks.items s.numbers.items c.requires.passed c.parent-parent.result c.parent-parent.ensures.parent)

pub overflow_cast-len : goal.overflow_cast-len
overflow_cast-len c =
    let s = c.args.self.now in
    omega (arith, s.names.ok.0, c.len.ensures, names_few c.args.tree.now c.parent-parent.ensures.numbered c.args.n c.requires.child c.requires.there s.names.items s.forks.items s.numbers.items c.requires.passed)

pub index-requires : goal.index-requires
index-requires c =
    let s = c.args.self.now in
    omega (arith, s.forks.ok.0, forks_there c.args.tree.now c.parent-parent.ensures.numbered c.args.n c.requires.child c.requires.there s.names.items s.forks.items s.numbers.items c.requires.passed c.parent-parent.result c.index-above.result.now c.parent-parent.ensures.parent c.index-above.ensures)

pub returns : goal.returns
returns c =
    let s = c.args.self.now in
    passed_strand c.args.tree.now c.parent-parent.ensures.numbered c.args.n c.requires.child c.requires.there s.names.items s.forks.items s.numbers.items c.requires.passed c.requires.plain c.requires.strand
    c.parent-parent.result c.index-above.result.now c.index.result.now c.len.result (nat_lt (c.parent-parent.result + 1) c.args.n) c.push-2.new.self.items c.push-3.new.self.items c.push.new.self.items
    c.parent-parent.ensures.parent c.index-above.ensures c.index.ensures refl (omega (arith, s.names.ok.0, c.len.ensures)) c.in_ok-push-2.ensures.items c.in_ok-push-3.ensures.items c.in_ok-push.ensures.items
