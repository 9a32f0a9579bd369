-- A strand that makes an access or puts a value out.
use Rattle.std.proofs.Common.{◌≡◌, ℕ, List, length, ap, sym, ◌∙◌, refl, subst}
use Rattle.cw_job.specs.Jobs.{Job}
use Rattle.cw_job.specs.Room.Strands.{StrandState, strands_of_job}
use Rattle.cw_strand.specs.declared.want.Given.{Given}
use Rattle.cw_tree.specs.declared.node.Kind.{Kind}
use Rattle.cw_tree.specs.declared.closed.Halt.TheVariants.{Memory}
use Rattle.cw_log.specs.declared.token.Token.{Token}
use Rattle.cw_log.specs.Tokens.{made, halted}
use Rattle.cw_course.specs.Courses.{Course, Acts, act}
use Rattle.cw_course.specs.Trails.{Trail, Stands, page, strand_in}
use Rattle.cw_course.proofs.Trails.Moves as move
use Rattle.cw_body.specs.Bodies.{InBlocks, answered}
use Rattle.cw_pool.specs.declared.task.Mode.{Mode}
use Rattle.cw_pool.specs.declared.task.Mode.TheVariants as mode
use Rattle.cw_pool.specs.declared.task.Below.{Below}
use Rattle.cw_pool.specs.declared.task.Base.{Base}
use Rattle.cw_pool.specs.Tasks.{Start, StandsGoing, IsRunning}
use Rattle.cw_pool.proofs.Tasks.Going.{rebuilt, fits_made, free_made}
use Rattle.cw_pool.proofs.Tasks.Stopping.{is_halted, memory_no_fault}

module _ (job : Job) where
  -- its course has the act
  acted_stands : (x : Token) (body : InBlocks) (a : Start) (t : Trail StrandState) (cs : Course) (kind : Kind) (stamp : ℕ) (given : Given) (s : StandsGoing job x body a t cs)
      → Acts (strands_of_job job) body.state kind ((strands_of_job job).answer body.state given) → Stands (strands_of_job job) a.state t (act cs kind stamp) ((strands_of_job job).answer s.now given)
  acted_stands x body a t cs kind stamp given s d =
      move.acts_on (strands_of_job job) a.state t cs s.now ((strands_of_job job).answer s.now given) kind stamp s.stands
      (subst (λ (z : StrandState). Acts (strands_of_job job) z kind ((strands_of_job job).answer z given)) (ap (λ (w : InBlocks). w.state) s.there) d)

module _ {T J : Type 0} (job : Job) (of : T → Token) where
  pub going : {x : Token} {body : InBlocks} {how : Mode} {bs : List (Below T J)} {b : Base T J} → how ≡ mode.Goes → IsRunning job of x body how bs b → IsRunning job of x body mode.Goes bs b
  going {x} {body} {how} {bs} {b} e r = subst (λ (m : Mode). IsRunning job of x body m bs b) e r

  pub acts : (x z : Token) (how : Mode) (body next : InBlocks) (bs : List (Below T J)) (b : Base T J) (kind : Kind) (stamp : ℕ) (given : Given) → how ≡ mode.Goes → IsRunning job of x body how bs b
      → Acts (strands_of_job job) body.state kind ((strands_of_job job).answer body.state given) → z ≡ made x kind stamp → next ≡ answered (strands_of_job job) given body → IsRunning job of z next how bs b
  acts x z how body next bs b kind stamp given is r0 d made_so next_so =
      let r = going is r0 in
      let s = r.stands in
      subst (λ (m : Mode). IsRunning job of z next m bs b) (sym is)
      (subst (λ (u : Token). IsRunning job of u next mode.Goes bs b) (sym made_so)
      (rebuilt job of x (made x kind stamp) body next mode.Goes mode.Goes bs b r (act r.course kind stamp) r.based (fits_made x r.start r.trail r.course kind stamp r.written) refl (record {
        now = (strands_of_job job).answer s.now given;
        stands = acted_stands job x body r.start r.trail r.course kind stamp given s d;
        there = next_so ∙ ap (λ (w : InBlocks). answered (strands_of_job job) given w) s.there;
        free = free_made job x kind stamp s.free;
        phase = s.phase;
      })))

  -- and is stopped behind it, for want of memory
  pub acts_last : (x z u : Token) (how : Mode) (body next : InBlocks) (bs : List (Below T J)) (b : Base T J) (kind : Kind) (stamp : ℕ) (given : Given) → how ≡ mode.Goes → IsRunning job of x body how bs b
      → Acts (strands_of_job job) body.state kind ((strands_of_job job).answer body.state given) → z ≡ made x kind stamp → u ≡ halted z Memory → IsRunning job of u next mode.Stopped bs b
  acts_last x z u how body next bs b kind stamp given is r0 d made_so halted_so =
      let r = going is r0 in
      let s = r.stands in
      subst (λ (w : Token). IsRunning job of w next mode.Stopped bs b) (sym (halted_so ∙ ap (λ q. halted q Memory) made_so))
      (is_halted job of x (made x kind stamp) mode.Goes body next bs b r (act r.course kind stamp) Memory (fits_made x r.start r.trail r.course kind stamp r.written) refl
      (move.gives_up (strands_of_job job) r.start.state r.trail (act r.course kind stamp) ((strands_of_job job).answer s.now given)
      (acted_stands job x body r.start r.trail r.course kind stamp given s d)) (memory_no_fault (made x kind stamp) (act r.course kind stamp) r.start.column (strand_in r.trail) (length (page r.trail).nodes)))
