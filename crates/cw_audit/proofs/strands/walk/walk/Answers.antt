use Rattle.std.proofs.Common.{◌∙◌, ◌++◌, List, ap, sym, subst}
use Rattle.cw_tree.specs.declared.node.Node.{Node}
use Rattle.cw_audit.specs.Visiting.{IsThere, steps_after}
use Rattle.cw_audit.specs.Walkers.{law_of_told, spot_of}
use Rattle.cw_audit.proofs.Stepping.{taken_there, visit_refused, visit_goes, fewer_steps}
use Rattle.cw_audit.proofs.strands.walk.walk.Goals as goal

pub visit-requires-clause-there : goal.visit-requires-clause-there
visit-requires-clause-there c =
    let told = c.args.told.now in
    taken_there (law_of_told told) told.tree.now told.end.now c.loop-visit.visits.items c.pop.new.self.items c.in-Some.visit (spot_of c.loop-visit.walker) c.loop-visit.invariant.0 c.in-Some.ensures.items

pub visit-requires-clause-stands : goal.visit-requires-clause-stands
visit-requires-clause-stands c = c.loop-visit.invariant.1

pub push_after-requires : goal.push_after-requires
push_after-requires c =
    let told = c.args.told.now in
    let P : List Node → Type 0 = λ t. IsThere t c.in-Some.visit in
    subst P (sym c.requires.family)
    (taken_there (law_of_told told) told.tree.now told.end.now c.loop-visit.visits.items c.pop.new.self.items c.in-Some.visit (spot_of c.loop-visit.walker) c.loop-visit.invariant.0 c.in-Some.ensures.items)

pub loop-visit-smaller : goal.loop-visit-smaller
loop-visit-smaller c =
    let told = c.args.told.now in
    let put = c.in_ok-push_after.ensures ∙ ap (λ (t : List Node). c.pop.new.self.items ++ steps_after t c.in-Some.visit) c.requires.family in
    fewer_steps told.tree.now c.requires.told.tree c.loop-visit.visits.items c.pop.new.self.items c.in-Some.visit c.in-Some.ensures.items c.push_after.new.visits.items put

pub loop-visit-preserved : goal.loop-visit-preserved
loop-visit-preserved c =
    let told = c.args.told.now in
    let put = c.in_ok-push_after.ensures ∙ ap (λ (t : List Node). c.pop.new.self.items ++ steps_after t c.in-Some.visit) c.requires.family in
    let may = c.in_ok-visit.ensures.may.0 c.if-not-branch.false in (
      visit_goes (law_of_told told) told.tree.now told.end.now c.requires.told.tree c.loop-visit.visits.items c.pop.new.self.items (spot_of c.loop-visit.walker) c.loop-visit.invariant.0 c.in-Some.visit c.in-Some.ensures.items may
          (spot_of c.visit.new.self) (c.in_ok-visit.ensures.spot c.if-not-branch.false) c.push_after.new.visits.items put,
      c.in_ok-visit.ensures.stands,
    )

pub returns-then-not-branch : goal.returns-then-not-branch
returns-then-not-branch c =
    let told = c.args.told.now in (
      λ e. absurd (cc e),
      λ d. absurd (visit_refused (law_of_told told) told.tree.now told.end.now c.requires.told.tree c.loop-visit.visits.items c.pop.new.self.items (spot_of c.loop-visit.walker) c.loop-visit.invariant.0 c.in-Some.visit c.in-Some.ensures.items
          (λ may. cc (c.in_ok-visit.ensures.may.1 may, c.if-not-branch.true)) d),
    )
