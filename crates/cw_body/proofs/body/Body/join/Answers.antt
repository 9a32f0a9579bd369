use Rattle.std.proofs.Common.{◌≡◌, ◌∙◌, ◌-◌, ℕ, map, ap, sym, subst, true}
use Rattle.cw_code.specs.declared.program.Program.{Program}
use Rattle.cw_strand.specs.Strands.{is_over}
use Rattle.cw_job.specs.Jobs.{bare_job}
use Rattle.cw_job.specs.Room.Strands.{StrandState, state_of, strands_of_job}
use Rattle.cw_job.specs.Room.Runners.{IsRunner, place_of, state_in}
use Rattle.cw_job.specs.Room.Saves.{StandsAs}
use Rattle.cw_body.specs.declared.body.Body.TheInside.{Inside}
use Rattle.cw_body.specs.declared.stage.Stage.TheVariants.{Goes}
use Rattle.cw_body.specs.Bodies.{HasNoBlock, InBlocks, joined_body, one_fork_less, strands_of_program, want_of}
use Rattle.cw_body.specs.InMemory.{StandsSo, in_blocks, shown}
use Rattle.cw_body.proofs.InMemory.Calls.{joined_so}
use Rattle.cw_body.proofs.InMemory.Shown.{seen_as, shown_less}
use Rattle.cw_body.proofs.body.Body.join.Goals as goal

down : (c : goal.After-drop-left-inside-4) → c.saturating_sub-self-inside.result ≡ c.self.inside.level - 1
down c = c.saturating_sub-self-inside.ensures

pub invariant_of-self-2 : goal.invariant_of-self-2
invariant_of-self-2 c =
    let x = c.self.inside in
    let on : x.stage.value ≡ Goes = ap (λ (v : InBlocks). v.stage) c.self.view_is ∙ c.requires.goes in
    let same : c.args.program.now ≡ x.program.value = c.requires.program ∙ sym (ap (λ (v : InBlocks). v.program) c.self.view_is) in
    let P : Program → Type 0 = λ p. IsRunner p c.join.new.self in
    let Q : InBlocks → Type 0 = λ v. is_over (want_of v) ≡ true in
    let s = strands_of_program x.program.value in
    let On : Program → Type 0 = λ p. state_in p c.join.new.self ≡ s.joined (state_in p x.runner) (state_of c.in-Some.ended) in
    let Like : Program → Type 0 = λ p. StandsAs (place_of c.join.new.self) (state_in p x.runner) in
    let at : state_in x.program.value c.join.new.self ≡ s.joined (state_in x.program.value x.runner) (state_of c.in-Some.ended) = subst On same (c.in_ok-join.ensures.joined (bare_job x.program.value) (sym same)) in
    let S : ℕ → Type 0 = λ k. StandsSo x.program.value c.of-2.result.value k c.join.new.self x.begins in
    record {
      kept = c.self.invariant.kept;
      stands = subst S (sym (down c)) (joined_so x.program.value x.stage.value c.of-2.result.value x.level x.runner c.join.new.self on c.of-2.ensures (subst P same c.in_ok-join.ensures.runner)
          (state_of c.in-Some.ended) x.begins (subst Q (sym c.self.view_is) c.requires.over) (subst HasNoBlock (sym c.self.view_is) c.requires.blocks) (subst Like same c.in_ok-join.ensures.place) at c.self.invariant.stands);
    }

pub returns-clause-ok : goal.returns-clause-ok
returns-clause-ok c = λ job same.
    let x = c.self.inside in
    let z : Inside = record { runner = c.join.new.self; level = c.saturating_sub-self-inside.result; begins = x.begins; program = x.program; stage = c.of-2.result } in
    let on : x.stage.value ≡ Goes = ap (λ (v : InBlocks). v.stage) c.self.view_is ∙ c.requires.goes in
    let P : InBlocks → Type 0 = λ v. in_blocks z ≡ joined_body (strands_of_job job) v c.args.left in
    let there : c.args.program.now ≡ x.program.value = c.requires.program ∙ sym (ap (λ (v : InBlocks). v.program) c.self.view_is) in
    let left : state_of c.in-Some.ended ≡ c.args.left.state = c.in-Some.ensures c.left.inside.program.value ∙ ap (λ (v : InBlocks). v.state) c.left.view_is in
    let On : Program → Type 0 = λ p. state_in p c.join.new.self ≡ (strands_of_job job).joined (state_in p x.runner) (state_of c.in-Some.ended) in
    let at : state_in x.program.value c.join.new.self ≡ (strands_of_job job).joined (state_in x.program.value x.runner) c.args.left.state =
    subst On there (c.in_ok-join.ensures.joined job same) ∙ ap (λ (l : StrandState). (strands_of_job job).joined (state_in x.program.value x.runner) l) left in
    subst P c.self.view_is
    (seen_as x.program.value c.of-2.result.value x.stage.value (state_in x.program.value c.join.new.self) ((strands_of_job job).joined (state_in x.program.value x.runner) c.args.left.state) (map (shown c.saturating_sub-self-inside.result) x.begins) (map one_fork_less (map (shown x.level) x.begins))
    (c.of-2.ensures ∙ sym on) at
    (ap (λ (k : ℕ). map (shown k) x.begins) (down c) ∙ shown_less x.level x.begins))
