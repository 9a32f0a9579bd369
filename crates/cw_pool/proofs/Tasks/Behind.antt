-- The strand that forked, behind both its strands: what `rejoin` asks, and what it makes of that.
use Rattle.std.proofs.Common.{◌≡◌, ℕ, ◌+◌, ◌<◌, List, [], ◌∷◌, map, reverse, refl, ap, sym, ◌∙◌, subst, arith}
use Rattle.std.specs.Prelude.{IsTrue}
use Rattle.std.specs.List.{All}
use Rattle.std.proofs.lemmas.List.Elements.{All-map}
use Rattle.cw_strand.specs.declared.want.Want.{Want}
use Rattle.cw_strand.specs.Strands.{is_over}
use Rattle.cw_job.specs.Jobs.{Job, bare_job}
use Rattle.cw_job.specs.Room.Strands.{StrandState, strands_of_job}
use Rattle.cw_job.proofs.Room.Wants.{same_want}
use Rattle.cw_tree.specs.declared.closed.Halt.TheVariants.{Memory}
use Rattle.cw_log.specs.declared.token.Token.{Token}
use Rattle.cw_log.specs.Tokens.{halted}
use Rattle.cw_course.specs.Courses.{Course}
use Rattle.cw_course.specs.Trails.{Trail}
use Rattle.cw_body.specs.declared.stage.Stage.TheVariants as stage
use Rattle.cw_body.specs.Bodies as bodies
use Rattle.cw_body.specs.Bodies.{InBlocks, PendingBegin, gave_up, one_fork_less, one_fork_more}
use Rattle.cw_pool.specs.declared.task.Mode.{Mode}
use Rattle.cw_pool.specs.declared.task.Mode.TheVariants as mode
use Rattle.cw_pool.specs.declared.task.Below.{Below}
use Rattle.cw_pool.specs.declared.task.Base.{Base}
use Rattle.cw_pool.specs.Ends.{IsBehind, MayJoin}
use Rattle.cw_pool.specs.Tasks.{Start, IsRun, IsReached, Fits, StandsGoing, StandsDying, StandsStopped, IsBase, AreWaitingBelow, IsRunning, goes_in, seen_in}
use Rattle.cw_pool.proofs.Tasks.Stopping.{wants_memory}

-- ## Bodies

pub goes_not_lost : stage.Goes ≡ stage.Lost → ⊥
goes_not_lost e = cc

pub gave_up_not_lost : stage.GaveUp ≡ stage.Lost → ⊥
gave_up_not_lost e = cc

pub seen_more : (k : ℕ) (ps : List PendingBegin) → map (seen_in k) (map one_fork_more ps) ≡ map (seen_in (k + 1)) ps
seen_more k [] = refl
seen_more k (p ∷ ps) =
    ap (λ (n : ℕ). record { at = p.at; forks = n } ∷ map (seen_in k) (map one_fork_more ps)) (omega arith)
    ∙ ap (λ qs. seen_in (k + 1) p ∷ qs) (seen_more k ps)

less_more : (ps : List PendingBegin) → map one_fork_less (map one_fork_more ps) ≡ ps
less_more [] = refl
less_more (p ∷ ps) =
    ap (λ (n : ℕ). record { at = p.at; forks = n } ∷ map one_fork_less (map one_fork_more ps)) (omega arith)
    ∙ ap (λ qs. p ∷ qs) (less_more ps)

all_later : (ps qs : List PendingBegin) → qs ≡ map one_fork_more ps → All (λ (p : PendingBegin). 0 < p.forks) qs
all_later ps qs e = subst (λ us. All (λ (p : PendingBegin). 0 < p.forks) us) (sym e) (All-map (λ (p : PendingBegin). 0 < p.forks) one_fork_more ps (λ k d r. omega arith))

module _ (job : Job) where
  -- the body of the right strand becomes that of the strand that forked
  pub body_joined : (body left next : InBlocks) (now gone : StrandState) (ps : List PendingBegin) → body ≡ goes_in job now (map one_fork_more ps) → left.state ≡ gone
      → next ≡ bodies.joined_body (strands_of_job job) body left → next ≡ goes_in job ((strands_of_job job).joined now gone) ps
  body_joined body left next now gone ps e l f =
      f ∙ ap (λ (w : InBlocks). bodies.joined_body (strands_of_job job) w left) e
      ∙ ap (λ (q : StrandState). goes_in job ((strands_of_job job).joined now q) (map one_fork_less (map one_fork_more ps))) l
      ∙ ap (λ qs. goes_in job ((strands_of_job job).joined now gone) qs) (less_more ps)

  pub may_join : (body : InBlocks) (now : StrandState) (ps : List PendingBegin) → body ≡ goes_in job now (map one_fork_more ps) → IsTrue (is_over ((strands_of_job job).want now)) → MayJoin job body
  may_join body now ps e over = record {
    goes = ap (λ (w : InBlocks). w.stage) e;
    program = ap (λ (w : InBlocks). w.program) e;
    over = subst (λ (w : Want). IsTrue (is_over w)) (sym (ap (λ (w : InBlocks). (strands_of_job job).want w.state) e) ∙ same_want job (bare_job body.program) body.state) over;
    blocks = all_later ps body.begins (ap (λ (w : InBlocks). w.begins) e);
  }

  -- ## How it stands

  -- once its body is made of those of both
  abbrev pub StandsBehind : Mode → Token → (right left : InBlocks) → Start → Trail StrandState → Course → Type 0
  StandsBehind mode.Goes x right left a t cs = MayJoin job right × StandsGoing job x (bodies.joined_body (strands_of_job job) right left) a t cs
  StandsBehind (mode.Dies to) x right left a t cs = (right.stage ≡ stage.Lost → ⊥) × StandsDying job to x (gave_up right) a t cs
  StandsBehind mode.Stopped x right left a t cs = StandsStopped job x a t cs
  StandsBehind mode.Waits x right left a t cs = ⊥

module _ {T J : Type 0} (job : Job) (of : T → Token) where
  pub behind_whole : (how : Mode) (x : Token) (right left : InBlocks) (bs : List (Below T J)) (b : Base T J) (run : IsRun job) (lowest : Start) (based : IsBase job of b how lowest) (a : Start)
      (t : Trail StrandState) (cs : Course) → IsReached (strands_of_job job) a.state → Fits x a t cs → AreWaitingBelow job of lowest a t x.forks (reverse bs) → StandsBehind job how x right left a t cs
      → IsBehind job of how x right left bs b
  behind_whole mode.Goes x right left bs b run lowest based a t cs reached fits below s =
      (s.0, record { run = run; lowest = lowest; based = based; start = a; trail = t; course = cs; reached = reached; written = fits; below = below; stands = s.1 })
  behind_whole (mode.Dies to) x right left bs b run lowest based a t cs reached fits below s =
      (s.0, record { run = run; lowest = lowest; based = based; start = a; trail = t; course = cs; reached = reached; written = fits; below = below; stands = s.1 })
  behind_whole mode.Stopped x right left bs b run lowest based a t cs reached fits below s =
      record { run = run; lowest = lowest; based = based; start = a; trail = t; course = cs; reached = reached; written = fits; below = below; stands = s }
  behind_whole mode.Waits x right left bs b run lowest based a t cs reached fits below s = absurd s

  -- ## What becomes of it

  pub behind_so : (x : Token) (right left : InBlocks) {how now : Mode} (bs : List (Below T J)) (b : Base T J) → how ≡ now → IsBehind job of how x right left bs b → IsBehind job of now x right left bs b
  behind_so x right left bs b e h = subst (λ (m : Mode). IsBehind job of m x right left bs b) e h

  -- both came to their ends, and their bodies are joined
  pub goes_behind : (x : Token) (how : Mode) (right left next : InBlocks) (bs : List (Below T J)) (b : Base T J) → how ≡ mode.Goes → IsBehind job of how x right left bs b
      → next ≡ bodies.joined_body (strands_of_job job) right left → IsRunning job of x next mode.Goes bs b
  goes_behind x how right left next bs b is h e = subst (λ (w : InBlocks). IsRunning job of x w mode.Goes bs b) (sym e) (behind_so x right left bs b is h).1

  -- or are not, for want of memory
  pub fails_behind : (x z : Token) (how : Mode) (right left next : InBlocks) (bs : List (Below T J)) (b : Base T J) → how ≡ mode.Goes → IsBehind job of how x right left bs b → z ≡ halted x Memory
      → IsRunning job of z next mode.Stopped bs b
  fails_behind x z how right left next bs b is h halted_so = wants_memory job of x z mode.Goes (bodies.joined_body (strands_of_job job) right left) next bs b (behind_so x right left bs b is h).1 halted_so
