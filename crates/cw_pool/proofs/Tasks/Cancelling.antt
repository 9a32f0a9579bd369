-- A strand that gives up a block.
use Rattle.std.proofs.Common.{◌≡◌, ◌<◌, ℕ, List, [], ◌∷◌, length, ap, sym, ◌∙◌, refl, subst}
use Rattle.std.specs.Prelude.{All}
use Rattle.std.proofs.lemmas.List.Elements.{All-head, All-tail}
use Rattle.cw_code.specs.declared.Back.{Back}
use Rattle.cw_code.specs.declared.program.Program.{Program}
use Rattle.cw_strand.specs.declared.want.Want.{Want}
use Rattle.cw_strand.specs.declared.want.Want.TheVariants as want
use Rattle.cw_strand.specs.declared.want.Given.TheVariants.{Back as Wrote}
use Rattle.cw_strand.specs.Names.{first_memory}
use Rattle.cw_strand.specs.Programs.{IsCompiled}
use Rattle.cw_strand.specs.Strands.{AreElements}
use Rattle.cw_job.specs.Jobs.{Job, bare_job}
use Rattle.cw_job.specs.Room.Strands.{strands_of_job}
use Rattle.cw_job.proofs.Room.Elements as named
use Rattle.cw_tree.specs.declared.node.Kind.TheVariants.{Cancel}
use Rattle.cw_log.specs.declared.token.Token.{Token}
use Rattle.cw_log.specs.Tokens.{HasBlock}
use Rattle.cw_course.specs.Courses.{Acts}
use Rattle.cw_body.specs.Bodies.{InBlocks, AnswersAct, elements_of, want_of}
use Rattle.cw_pool.specs.declared.task.Mode.{Mode}
use Rattle.cw_pool.specs.declared.task.Mode.TheVariants as mode
use Rattle.cw_pool.specs.declared.task.Below.{Below}
use Rattle.cw_pool.specs.declared.task.Base.{Base}
use Rattle.cw_pool.specs.Tasks.{IsRunning}
use Rattle.cw_pool.proofs.Tasks.Reaching.{cancel_in_block, reached_now}
use Rattle.cw_pool.proofs.Tasks.Blocks.{place_in_block}
use Rattle.cw_pool.proofs.Tasks.Acting.{going}

elements_from : (n : ℕ) (back : List Back) → All (λ (k : Back). k.cell < n) back → AreElements n back
elements_from n [] h = tt
elements_from n (k ∷ ks) h = (All-head (λ (k : Back). k.cell < n) k ks h, elements_from n ks (All-tail (λ (k : Back). k.cell < n) k ks h))

module _ {T J : Type 0} (job : Job) (of : T → Token) (x : Token) (how : Mode) (body : InBlocks) (bs : List (Below T J)) (b : Base T J) (is : how ≡ mode.Goes) (r0 : IsRunning job of x body how bs b) where
  -- a block of its own is pending
  pub cancels_in_block : (strands_of_job job).want body.state ≡ want.Cancel → HasBlock x
  cancels_in_block e =
      let r = going job of is r0 in
      let s = r.stands in
      place_in_block job x r.start r.trail r.course r.written
      (cancel_in_block job r.run r.trail s.now (reached_now (strands_of_job job) r.start.state r.trail r.course s.now r.reached s.stands)
      (sym (ap (λ (w : InBlocks). (strands_of_job job).want w.state) s.there) ∙ e))

  module _ (back : List Back) (n : ℕ) (cells : n ≡ length (first_memory job.program.cells)) (there : All (λ (k : Back). k.cell < n) back) where
    -- the list answers it
    pub answers_cancel : want_of body ≡ want.Cancel → AnswersAct (elements_of body) (want_of body) (Wrote back)
    answers_cancel e =
        let r = going job of is r0 in
        let same : body.program ≡ job.program = ap (λ (w : InBlocks). w.program) r.stands.there in
        let many : elements_of body ≡ n =
        named.elements_of (bare_job body.program) (subst IsCompiled (sym same) r.run.compiled) ∙ ap (λ (p : Program). length (first_memory p.cells)) same ∙ sym cells in
        subst (λ (w : Want). AnswersAct (elements_of body) w (Wrote back)) (sym e) (subst (λ (k : ℕ). AreElements k back) (sym many) (elements_from n back there))

    -- and is an act of its course
    pub gives_up : (strands_of_job job).want body.state ≡ want.Cancel → Acts (strands_of_job job) body.state (Cancel back) ((strands_of_job job).answer body.state (Wrote back))
    gives_up e =
        let r = going job of is r0 in
        (e, subst (λ (k : ℕ). AreElements k back) (cells ∙ sym (named.elements_of job r.run.compiled)) (elements_from n back there), refl)
