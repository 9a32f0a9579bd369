use Rattle.std.proofs.Common.{◌≡◌, ◌∙◌, ◌<◌, ◌++◌, ◌∷◌, [], refl, sym, ap, subst, rules}
use Rattle.cw_job.specs.Room.Strands.{state_of, strands_of_job}
use Rattle.cw_job.proofs.Room.Lawful.{deep_of}
use Rattle.cw_job.specs.Jobs.{bare_job}
use Rattle.cw_serial.proofs.Weights.{load, load_falls}
use Rattle.cw_serial.proofs.AllMoved.{settling_first, settling_more, settling_all}
use Rattle.cw_serial.proofs.table.Table+Standing.settle.Goals as goal

pub loop-number-init : goal.loop-number-init
loop-number-init c = (λ job same. settling_first (strands_of_job job) state_of c.args.self.now c.args.number c.push.new.self.items (c.in_ok-push.ensures.items ∙ ap (λ xs. xs ++ c.args.number ∷ []) c.new-todo.ensures.items), c.requires)

pub advance-requires : goal.advance-requires
advance-requires c = c.loop-number.invariant.1

pub loop-number-preserved : goal.loop-number-preserved
loop-number-preserved c = (
  λ job same.
      settling_more (strands_of_job job) state_of (deep_of job) c.args.self.now c.loop-number.self c.advance.new.self c.args.number c.in-Some.number c.loop-number.todo.items c.pop.new.self.items c.advance.new.todo.items c.in-Some.ensures.items (c.loop-number.invariant.0 job same) (c.in_ok-advance.ensures.moves job same),
  c.in_ok-advance.ensures.stands,
)

pub loop-number-smaller : goal.loop-number-smaller
loop-number-smaller c =
    let job = bare_job c.args.program.now in
    subst (λ xs. load (strands_of_job job) state_of c.advance.new.self.rows.items c.advance.new.todo.items < load (strands_of_job job) state_of c.loop-number.self.rows.items xs) (sym c.in-Some.ensures.items)
    (load_falls (strands_of_job job) state_of (deep_of job) c.loop-number.self c.advance.new.self c.in-Some.number c.pop.new.self.items c.advance.new.todo.items (c.in_ok-advance.ensures.moves job refl))

pub returns-clause-strands : goal.returns-clause-strands
returns-clause-strands c = λ job same.
    let none : c.loop-number.todo.items ≡ [] = search rules in
    settling_all (strands_of_job job) state_of c.args.self.now c.loop-number.self c.args.number c.loop-number.todo.items none (c.loop-number.invariant.0 job same)

pub returns-clause-stands : goal.returns-clause-stands
returns-clause-stands c = c.loop-number.invariant.1

pub returns-clause-names : goal.returns-clause-names
returns-clause-names c = (c.loop-number.invariant.0 (bare_job c.args.program.now) refl).names
