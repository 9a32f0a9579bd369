use Rattle.std.proofs.Common.{rules, ◌≡◌, ◌∙◌, ◌+◌, ℕ, map, ap, sym, subst}
use Rattle.cw_code.specs.declared.program.Program.{Program}
use Rattle.cw_strand.specs.declared.want.Want.TheVariants as want
use Rattle.cw_job.specs.Jobs.{bare_job}
use Rattle.cw_job.specs.Room.Strands.{strands_of_job}
use Rattle.cw_job.specs.Room.Runners.{IsRunner, place_of, state_in}
use Rattle.cw_body.specs.declared.body.Body.TheInside.{Inside}
use Rattle.cw_body.specs.declared.stage.Stage.TheVariants.{Goes}
use Rattle.cw_body.specs.Bodies.{InBlocks, one_fork_more, right_of, strands_of_program, want_of}
use Rattle.cw_body.specs.InMemory.{StandsSo, in_blocks, shown}
use Rattle.cw_body.proofs.InMemory.Calls.{going, right_so}
use Rattle.cw_body.proofs.InMemory.Shown.{seen_as, shown_more}
use Rattle.cw_body.proofs.body.Body.fork.Goals as goal

up : (c : goal.After-of-4) → c.in-Some.level ≡ c.self.inside.level + 1
up c = search (rules, c.in-Some.ensures)

pub invariant_of-self-2 : goal.invariant_of-self-2
invariant_of-self-2 c =
    let x = c.self.inside in
    let on : x.stage.value ≡ Goes = ap (λ (v : InBlocks). v.stage) c.self.view_is ∙ c.requires.goes in
    let same : c.args.program.now ≡ x.program.value = c.requires.program ∙ sym (ap (λ (v : InBlocks). v.program) c.self.view_is) in
    let P : Program → Type 0 = λ p. IsRunner p c.fork.new.self in
    let There : Program → Type 0 = λ p. place_of c.fork.new.self ≡ state_in p x.runner in
    let On : Program → Type 0 = λ p. state_in p c.fork.new.self ≡ (strands_of_program x.program.value).right (state_in p x.runner) in
    let Q : InBlocks → Type 0 = λ v. want_of v ≡ want.Fork in
    let S : ℕ → Type 0 = λ k. StandsSo x.program.value c.of-2.result.value k c.fork.new.self x.begins in
    record {
      kept = c.self.invariant.kept;
      stands = subst S (sym (up c)) (right_so x.program.value x.stage.value c.of-2.result.value x.level x.runner c.fork.new.self on c.of-2.ensures (subst P same c.in_ok-runner.ensures.right_runner)
          x.begins (subst Q (sym c.self.view_is) c.requires.fork) (subst There same c.in_ok-runner.ensures.place) (subst On same (c.in_ok-runner.ensures.right (bare_job x.program.value) (sym same))) c.self.invariant.stands);
    }

pub returns-clause-right : goal.returns-clause-right
returns-clause-right c = λ job same.
    let x = c.self.inside in
    let z : Inside = record { runner = c.fork.new.self; level = c.in-Some.level; begins = x.begins; program = x.program; stage = c.of-2.result } in
    let on : x.stage.value ≡ Goes = ap (λ (v : InBlocks). v.stage) c.self.view_is ∙ c.requires.goes in
    let there : c.args.program.now ≡ x.program.value = c.requires.program ∙ sym (ap (λ (v : InBlocks). v.program) c.self.view_is) in
    let On : Program → Type 0 = λ p. state_in p c.fork.new.self ≡ (strands_of_job job).right (state_in p x.runner) in
    let P : InBlocks → Type 0 = λ v. in_blocks z ≡ right_of (strands_of_job job) v in
    let s = strands_of_program x.program.value in
    let inside = (going x.program.value x.stage.value x.level x.runner x.begins on c.self.invariant.stands).1 in
    subst P c.self.view_is
    (seen_as x.program.value c.of-2.result.value x.stage.value (state_in x.program.value c.fork.new.self) ((strands_of_job job).right (state_in x.program.value x.runner)) (map (shown c.in-Some.level) x.begins) (map one_fork_more (map (shown x.level) x.begins))
    (c.of-2.ensures ∙ sym on) (subst On there (c.in_ok-runner.ensures.right job same))
    (ap (λ (k : ℕ). map (shown k) x.begins) (up c) ∙ shown_more s x.level (state_in x.program.value x.runner) 0 x.begins inside))
