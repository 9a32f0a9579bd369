use Rattle.std.proofs.Common.{List, ◌∙◌, ap}
use Rattle.cw_tree.specs.declared.node.Node.{Node}
use Rattle.cw_tree.specs.Series.{parallel}
use Rattle.cw_sp.proofs.BothLines.{have_leaves}
use Rattle.cw_sp.proofs.pairs.Pairs.parallel.Goals as goal

pub is_before-english-requires-clause-first_there : goal.is_before-english-requires-clause-first_there
is_before-english-requires-clause-first_there g c = (have_leaves c.self.inside c.self.invariant c.args.self.now c.self.view_is c.args.u c.args.v c.requires.first c.requires.second).in_english.first_there

pub is_before-english-requires-clause-second_there : goal.is_before-english-requires-clause-second_there
is_before-english-requires-clause-second_there g c = (have_leaves c.self.inside c.self.invariant c.args.self.now c.self.view_is c.args.u c.args.v c.requires.first c.requires.second).in_english.second_there

pub is_before-hebrew-requires-clause-first : goal.is_before-hebrew-requires-clause-first
is_before-hebrew-requires-clause-first g c = (have_leaves c.self.inside c.self.invariant c.args.self.now c.self.view_is c.args.u c.args.v c.requires.first c.requires.second).in_hebrew.first_low

pub is_before-hebrew-requires-clause-second : goal.is_before-hebrew-requires-clause-second
is_before-hebrew-requires-clause-second g c = (have_leaves c.self.inside c.self.invariant c.args.self.now c.self.view_is c.args.u c.args.v c.requires.first c.requires.second).in_hebrew.second_low

pub is_before-hebrew-requires-clause-first_there : goal.is_before-hebrew-requires-clause-first_there
is_before-hebrew-requires-clause-first_there g c = (have_leaves c.self.inside c.self.invariant c.args.self.now c.self.view_is c.args.u c.args.v c.requires.first c.requires.second).in_hebrew.first_there

pub is_before-hebrew-requires-clause-second_there : goal.is_before-hebrew-requires-clause-second_there
is_before-hebrew-requires-clause-second_there g c = (have_leaves c.self.inside c.self.invariant c.args.self.now c.self.view_is c.args.u c.args.v c.requires.first c.requires.second).in_hebrew.second_there

pub returns-clause-answer : goal.returns-clause-answer
returns-clause-answer g c =
    let both = have_leaves c.self.inside c.self.invariant c.args.self.now c.self.view_is c.args.u c.args.v c.requires.first c.requires.second in
    both.tell c.is_before-english.result c.is_before-hebrew.result
    (both.in_english.tells c.is_before-english.result c.is_before-english.ensures.order)
    (both.in_hebrew.tells c.is_before-hebrew.result c.is_before-hebrew.ensures.order)
    ∙ ap (λ (s : List Node). parallel s c.args.u c.args.v) c.self.view_is
