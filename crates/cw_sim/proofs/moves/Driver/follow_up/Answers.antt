-- The strand is main, a left one whose fork was not split, or another one of a fork.
use Rattle.std.proofs.Common.{length, ap, sym, ◌∙◌, arith}
use Rattle.std.proofs.lemmas.Result.{on_ok_weaker}
use Rattle.cw_tree.specs.Nodes.{parent_of}
use Rattle.cw_sim.proofs.InMemory.Follows.{strand_there, follows_main, may_meet, may_turn, follows_left, follows_right, follows_split}
use Rattle.cw_sim.proofs.moves.Driver.follow_up.Goals as goal
use Rattle.cw_sim.proofs.moves.Driver.follow_up.Goals.{else-strand-fork-via-then-strand-fork+else-not-is_split, else-strand-fork-via-else-strand-fork}

pub returns-then-strand-eq0 : goal.returns-then-strand-eq0
returns-then-strand-eq0 c z may =
    let s = c.args.self.now in
    follows_main s c.args.w c.args.strand c.args.dead z may c.if-strand-eq0.true (record s { workers = c.with_run.new.workers }) c.with_run.ensures

pub parent-fork-requires : goal.parent-fork-requires
parent-fork-requires c =
    let low = strand_there c.args.self.now c.args.w c.args.strand c.args.dead c.requires.0 c.requires.1 in
    let same = ap length c.tree.ensures in
    omega (arith, low, same)

pub go_to_right-requires : goal.go_to_right-requires
go_to_right-requires c = (
  c.requires.0,
  may_turn c.args.self.now c.args.w c.args.strand c.args.dead c.requires.0 c.requires.1 c.if-strand-eq0.false c.parent-fork.result (c.parent-fork.ensures.parent ∙ ap (λ t. parent_of t c.args.strand) c.tree.ensures)
      c.if-strand-fork.true (sym c.is_split.ensures ∙ c.if-not-is_split.true),
)

pub returns-then-not-is_split : goal.returns-then-not-is_split
returns-then-not-is_split c =
    on_ok_weaker c.go_to_right.result
    (λ comes z may.
    follows_left c.args.self.now c.args.w c.args.strand c.args.dead z may c.if-strand-eq0.false c.parent-fork.result (c.parent-fork.ensures.parent ∙ ap (λ t. parent_of t c.args.strand) c.tree.ensures)
    c.if-strand-fork.true (sym c.is_split.ensures ∙ c.if-not-is_split.true) c.go_to_right.new.self (comes z))
    c.go_to_right.ensures

pub join_or_idle-requires : goal.join_or_idle-requires
join_or_idle-requires c = (
  c.requires.0,
  may_meet c.args.self.now c.args.w c.args.strand c.args.dead c.requires.0 c.requires.1 c.if-strand-eq0.false c.parent-fork.result (c.parent-fork.ensures.parent ∙ ap (λ t. parent_of t c.args.strand) c.tree.ensures),
)

pub returns : goal.returns
returns c =
    let s = c.args.self.now in
    let up = c.parent-fork.ensures.parent ∙ ap (λ t. parent_of t c.args.strand) c.tree.ensures in
    on_ok_weaker c.join_or_idle.result
    (λ comes z may. elim c.else-strand-fork.branch [
      | else-strand-fork-via-then-strand-fork+else-not-is_split w ↦
          follows_split s c.args.w c.args.strand c.args.dead z may c.if-strand-eq0.false c.parent-fork.result up (sym w.is_split.ensures ∙ w.if-not-is_split.false) c.join_or_idle.new.self (comes z)
      | else-strand-fork-via-else-strand-fork w ↦
          follows_right s c.args.w c.args.strand c.args.dead z may c.if-strand-eq0.false c.parent-fork.result up w.if-strand-fork.false c.join_or_idle.new.self (comes z)
    ])
    c.join_or_idle.ensures
