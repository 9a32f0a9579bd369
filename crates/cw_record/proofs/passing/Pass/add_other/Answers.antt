use Rattle.std.proofs.Common.{arith, ap, sym, ◌∙◌, [], ◌∷◌, ◌++◌}
use Rattle.cw_record.proofs.Plain.Passing.{above_there, forks_there, forks_fit, passed_fork, passed_other}
use Rattle.cw_record.proofs.passing.Pass.add_other.Goals as goal
use Rattle.cw_record.proofs.passing.Pass.add_other.Goals.{then-is_fork, else-is_fork}

pub index-above-requires : goal.index-above-requires
index-above-requires c =
    let s = c.args.self.now in
    omega (arith, s.numbers.ok.0, above_there c.args.tree.now c.parent.ensures.numbered c.args.n c.requires.child c.requires.there s.names.items s.forks.items s.numbers.items c.requires.passed c.parent.result c.parent.ensures.parent)

pub index_mut-requires : goal.index_mut-requires
index_mut-requires c =
    let s = c.args.self.now in
    omega (arith, s.forks.ok.0, forks_there c.args.tree.now c.parent.ensures.numbered c.args.n c.requires.child c.requires.there s.names.items s.forks.items s.numbers.items c.requires.passed c.parent.result c.index-above.result.now c.parent.ensures.parent c.index-above.ensures)

pub overflow_add-index_mut : goal.overflow_add-index_mut
overflow_add-index_mut c =
    let s = c.args.self.now in
    omega (arith, c.parent.ensures.numbered.few, forks_fit c.args.tree.now c.parent.ensures.numbered c.args.n c.requires.child c.requires.there s.names.items s.forks.items s.numbers.items c.requires.passed c.parent.result c.index-above.result.now c.index_mut.result.now c.parent.ensures.parent c.index-above.ensures c.index_mut.ensures.value)

pub returns : goal.returns
returns c =
    let s = c.args.self.now in
    let k = c.index-above.result.now in
    elim c.if-is_fork.branch [
      | then-is_fork w ↦
          passed_fork c.args.tree.now c.parent.ensures.numbered c.args.n c.requires.child c.requires.there s.names.items s.forks.items s.numbers.items c.requires.passed c.requires.plain c.requires.other
          (sym w.if-is_fork.ensures) c.parent.result k w.index_mut.result.now c.parent.ensures.parent c.index-above.ensures w.index_mut.ensures.value
          c.if-is_fork.self.names.items c.if-is_fork.self.forks.items c.push.new.self.items
          (ap (λ v. v.names.items) w.self-is) (ap (λ v. v.forks.items) w.self-is) (c.in_ok-push.ensures.items ∙ ap (λ v. v.numbers.items ++ k ∷ []) w.self-is)
      | else-is_fork w ↦
          passed_other c.args.tree.now c.parent.ensures.numbered c.args.n c.requires.child c.requires.there s.names.items s.forks.items s.numbers.items c.requires.passed c.requires.plain c.requires.other
          c.parent.result k c.if-is_fork.self.names.items c.if-is_fork.self.forks.items c.push.new.self.items
          c.parent.ensures.parent c.index-above.ensures (sym w.if-is_fork.ensures)
          (ap (λ v. v.names.items) w.self-is) (ap (λ v. v.forks.items) w.self-is) (c.in_ok-push.ensures.items ∙ ap (λ v. v.numbers.items ++ k ∷ []) w.self-is)
    ]
