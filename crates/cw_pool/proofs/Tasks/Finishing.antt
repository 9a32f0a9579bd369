-- A strand that has come to its end, has died or was stopped: what it leaves to the fork of which it is a strand.
use Rattle.std.proofs.Common.{◌≡◌, ℕ, suc, ◌+◌, List, [], ◌∷◌, ◌++◌, length, map, reverse, refl, ap, sym, ◌∙◌, subst, true, inl, inr, None, Some, append_assoc, length-append}
use Rattle.std.specs.Prelude.{IsTrue}
use Rattle.cw_strand.specs.Strands.{is_over}
use Rattle.cw_strand.specs.declared.want.Want.{Want}
use Rattle.cw_job.specs.Jobs.{Job, bare_job}
use Rattle.cw_job.specs.Room.Strands.{StrandState, strands_of_job}
use Rattle.cw_job.proofs.Room.Wants.{same_want}
use Rattle.cw_tree.specs.declared.node.Kind.TheVariants.{Block}
use Rattle.cw_tree.specs.declared.node.BlockState.TheVariants.{Pending}
use Rattle.cw_tree.specs.Nodes.{fresh_node}
use Rattle.cw_log.specs.declared.token.Open.{Open}
use Rattle.cw_log.specs.declared.token.Phase.TheVariants.{Going, Parted}
use Rattle.cw_log.specs.declared.token.Token.{Token}
use Rattle.cw_log.specs.Tokens.{IsDone}
use Rattle.cw_course.specs.Courses.{Course, block, laid, size}
use Rattle.cw_course.specs.Closings.{FaultsIn, bare_log}
use Rattle.cw_course.specs.Trails.{Trail, opens, in_block, in_left, in_right, page, nodes_of, place_of, strand_in}
use Rattle.cw_course.proofs.Trails.Moves as move
use Rattle.cw_body.specs.Bodies.{InBlocks, want_of}
use Rattle.cw_pool.specs.declared.task.Mode.{Mode}
use Rattle.cw_pool.specs.declared.task.Mode.TheVariants as mode
use Rattle.cw_pool.specs.declared.task.Below.{Below}
use Rattle.cw_pool.specs.declared.task.Base.{Base}
use Rattle.cw_pool.specs.Ends.{MayEnd}
use Rattle.cw_pool.specs.Tasks as waiting
use Rattle.cw_pool.specs.Tasks.{Start, IsRun, IsReached, Fits, AreFalling, StandsGoing, StandsDying, StandsStopped, IsBase, AreWaitingBelow, IsRunning, stamps_in, rights_of}
use Rattle.cw_pool.proofs.Tasks.Reaching.{blocks_in, reached_now, over_in_none}
use Rattle.cw_pool.proofs.Tasks.Pages.{many, many_in_block, innermost}
use Rattle.cw_pool.proofs.Tasks.Blocks.{in_found_none, rights_shut, unblock}

-- no block of the strand that runs is open
abbrev pub IsOutside : Trail StrandState → Type 0
IsOutside (in_block t cs b stamp) = ⊥
IsOutside t = Unit {0}

module _ (job : Job) where
  -- how it ended
  abbrev pub Ending : Mode → Token → InBlocks → Start → Trail StrandState → Course → Type 0
  Ending mode.Goes x body a t cs = (s : StandsGoing job x body a t cs) × IsTrue (is_over ((strands_of_job job).want s.now)) × (x.around ≡ stamps_in t a.above)
  Ending (mode.Dies to) x body a t cs = StandsDying job to x body a t cs × (x.around ≡ stamps_in t a.above)
  Ending mode.Stopped x body a t cs = StandsStopped job x a t cs
  Ending mode.Waits x body a t cs = ⊥

  -- what it leaves in a log that began so, outside of all blocks of its own
  pub record Leaves (x : Token) (body : InBlocks) (how : Mode) (a : Start) (t : Trail StrandState) (cs : Course) : Type 0 where
    pub outside : IsOutside t
    pub own : bare_log x.own ≡ record { column = a.column; from = a.from; fork = a.at; nodes = nodes_of t cs; conflicts = [] }
    pub joined : map bare_log x.joined ≡ rights_of t cs a.column
    pub fork : x.fork ≡ a.fork
    pub split : x.split ≡ a.split
    pub falling : AreFalling (stamps_in t a.above)
    pub done : IsDone x
    pub ends : Ending how x body a t cs

module _ {T J : Type 0} (job : Job) (of : T → Token) where
  pub record Finished (x : Token) (body : InBlocks) (how : Mode) (bs : List (Below T J)) (b : Base T J) : Type 0 where
    pub run : IsRun job
    pub lowest : Start
    pub based : IsBase job of b how lowest
    pub start : Start
    pub trail : Trail StrandState
    pub course : Course
    pub reached : IsReached (strands_of_job job) start.state
    pub leaves : Leaves job x body how start trail course
    pub below : AreWaitingBelow job of lowest start trail x.forks (reverse bs)

pub not_parted : (fork : ℕ) → Going ≡ Parted fork → ⊥
not_parted fork e = cc

pub not_waiting : (x : Token) (body : InBlocks) {how : Mode} → MayEnd how x body → how ≡ mode.Waits → ⊥
not_waiting x body may e = subst (λ (m : Mode). MayEnd m x body) e may

-- outside of blocks the place is the strand
pub outside_there : (t : Trail StrandState) → IsOutside t → place_of t ≡ strand_in t
outside_there opens o = refl
outside_there (in_block t cs b stamp) o = absurd o
outside_there (in_left t cs b column stamp) o = refl
outside_there (in_right t cs b stamp ls l) o = refl

done_there : (x : Token) (a : Start) (t : Trail StrandState) (cs : Course) → Fits x a t cs → IsOutside t → x.phase ≡ Going → IsDone x
done_there x a t cs w o p = inr (w.place ∙ outside_there t o ∙ sym w.strand, λ fork e. not_parted fork (sym p ∙ e))

-- ## Where it may end

module _ (job : Job) where
  no_blocks : (t : Trail StrandState) → ((n : ℕ) → blocks_in (strands_of_job job) t ≡ suc n → ⊥) → IsOutside t
  no_blocks opens h = tt
  no_blocks (in_block t cs b stamp) h = h (blocks_in (strands_of_job job) t) refl
  no_blocks (in_left t cs b column stamp) h = tt
  no_blocks (in_right t cs b stamp ls l) h = tt

  over_there : (x : Token) (body : InBlocks) (a : Start) (t : Trail StrandState) (cs : Course) (s : StandsGoing job x body a t cs) → is_over (want_of body) ≡ true → IsTrue (is_over ((strands_of_job job).want s.now))
  over_there x body a t cs s e =
      subst (λ (w : Want). IsTrue (is_over w)) (same_want (bare_job body.program) job body.state ∙ ap (λ (w : InBlocks). (strands_of_job job).want w.state) s.there) e

none_found : (t : Trail StrandState) → innermost t ≡ None → IsOutside t
none_found opens e = tt
none_found (in_block t cs b stamp) e = some_none stamp e where
  some_none : (n : ℕ) → Some n ≡ None → ⊥
  some_none n f = cc
none_found (in_left t cs b column stamp) e = tt
none_found (in_right t cs b stamp ls l) e = tt

-- ## Out of blocks that are pending as the run is stopped

broken : (t : Trail StrandState) (cs js : Course) (b : StrandState) (stamp : ℕ) → nodes_of (in_block t cs b stamp) js ≡ nodes_of t (block cs Pending stamp 0 js)
broken t cs js b stamp =
    let xs = nodes_of t cs in
    let ws = (page t).nodes in
    let x = fresh_node (place_of t) Block stamp in
    append_assoc xs (x ∷ []) (laid js (length (xs ++ x ∷ [])) (length xs))
    ∙ ap (λ (n : ℕ). xs ++ x ∷ laid js n (length xs)) (length-append xs (x ∷ []))
    ∙ ap (λ (k : ℕ). xs ++ x ∷ laid js (k + 1) k) (many t cs)
    ∙ append_assoc ws (laid cs (length ws) (place_of t)) (x ∷ laid js (length ws + size cs + 1) (length ws + size cs))

module _ (job : Job) where
  stopped_out : (x : Token) (a : Start) (t : Trail StrandState) (cs js : Course) (b : StrandState) (stamp : ℕ) → StandsStopped job x a (in_block t cs b stamp) js → StandsStopped job x a t (block cs Pending stamp 0 js)
  stopped_out x a t cs js b stamp s = record {
    stopped = move.breaks (strands_of_job job) a.state t cs js b stamp s.stopped;
    off = s.off;
    fault = λ y n kind e f. subst (λ (base : ℕ). FaultsIn kind y.column y.strand js a.column (strand_in t) base) (many_in_block t cs b stamp) (s.fault y n kind e f);
  }

module _ {T J : Type 0} (job : Job) (of : T → Token) where
  out_of_blocks : (x : Token) (body : InBlocks) (bs : List (Below T J)) (b : Base T J) (run : IsRun job) (lowest : Start) (based : IsBase job of b mode.Stopped lowest) (a : Start)
      (t : Trail StrandState) (cs : Course) → IsReached (strands_of_job job) a.state
      → bare_log x.own ≡ record { column = a.column; from = a.from; fork = a.at; nodes = nodes_of t cs; conflicts = [] } → map bare_log x.joined ≡ rights_of t cs a.column
      → x.fork ≡ a.fork → x.split ≡ a.split → AreFalling (stamps_in t a.above) → AreWaitingBelow job of lowest a t x.forks (reverse bs) → StandsStopped job x a t cs → Finished job of x body mode.Stopped bs b
  out_of_blocks x body bs b run lowest based a (in_block t cs c stamp) js reached own joined fork split falling below s =
      out_of_blocks x body bs b run lowest based a t (block cs Pending stamp 0 js) reached
      (own ∙ ap (λ ns. record { column = a.column; from = a.from; fork = a.at; nodes = ns; conflicts = [] }) (broken t cs js c stamp)) (joined ∙ rights_shut t cs js c stamp 0 a.column Pending)
      fork split falling.2 (unblock below) (stopped_out job x a t cs js c stamp s)
  out_of_blocks x body bs b run lowest based a opens js reached own joined fork split falling below s =
      record { run = run; lowest = lowest; based = based; start = a; trail = opens; course = js; reached = reached; below = below; leaves = record { outside = tt; own = own; joined = joined; fork = fork; split = split; falling = falling; done = inl s.off; ends = s } }
  out_of_blocks x body bs b run lowest based a (in_left t cs c column stamp) js reached own joined fork split falling below s =
      record { run = run; lowest = lowest; based = based; start = a; trail = in_left t cs c column stamp; course = js; reached = reached; below = below; leaves = record { outside = tt; own = own; joined = joined; fork = fork; split = split; falling = falling; done = inl s.off; ends = s } }
  out_of_blocks x body bs b run lowest based a (in_right t cs c stamp ls l) js reached own joined fork split falling below s =
      record { run = run; lowest = lowest; based = based; start = a; trail = in_right t cs c stamp ls l; course = js; reached = reached; below = below; leaves = record { outside = tt; own = own; joined = joined; fork = fork; split = split; falling = falling; done = inl s.off; ends = s } }

  outside_so : (x : Token) (body : InBlocks) (how : Mode) (bs : List (Below T J)) (b : Base T J) (r : IsRunning job of x body how bs b) → IsOutside r.trail → x.phase ≡ Going
      → Ending job how x body r.start r.trail r.course → Finished job of x body how bs b
  outside_so x body how bs b r o p e = record {
    run = r.run;
    lowest = r.lowest;
    based = r.based;
    start = r.start;
    trail = r.trail;
    course = r.course;
    reached = r.reached;
    leaves = record {
      outside = o;
      own = r.written.own;
      joined = r.written.joined;
      fork = r.written.fork;
      split = r.written.split;
      falling = subst AreFalling r.written.around r.written.falling;
      done = done_there x r.start r.trail r.course r.written o p;
      ends = e;
    };
    below = r.below;
  }

  -- a strand that goes on to its end has no block of its own there
  pub goes_outside : (x : Token) (body : InBlocks) (bs : List (Below T J)) (b : Base T J) (r : IsRunning job of x body mode.Goes bs b) → is_over (want_of body) ≡ true
      → IsOutside r.trail × IsTrue (is_over ((strands_of_job job).want r.stands.now))
  goes_outside x body bs b r e =
      let s = r.stands in
      let over = over_there job x body r.start r.trail r.course s e in
      (no_blocks job r.trail (over_in_none job r.run r.trail s.now (reached_now (strands_of_job job) r.start.state r.trail r.course s.now r.reached s.stands) over), over)

  goes_out : (x : Token) (body : InBlocks) (bs : List (Below T J)) (b : Base T J) (r : IsRunning job of x body mode.Goes bs b) → is_over (want_of body) ≡ true → Finished job of x body mode.Goes bs b
  goes_out x body bs b r e = let (outside, over) = goes_outside x body bs b r e in outside_so x body mode.Goes bs b r outside r.stands.phase (r.stands, over, r.written.around)

  -- a strand that may end leaves all that
  pub finished : (x : Token) (body : InBlocks) (how : Mode) (bs : List (Below T J)) (b : Base T J) → IsRunning job of x body how bs b → MayEnd how x body → Finished job of x body how bs b
  finished x body mode.Goes bs b r e = goes_out x body bs b r e
  finished x body (mode.Dies to) bs b r e = outside_so x body (mode.Dies to) bs b r (none_found r.trail (in_found_none job x r.start r.trail r.course r.written e)) r.stands.phase (r.stands, r.written.around)
  finished x body mode.Stopped bs b r e =
      let w = r.written in
      out_of_blocks x body bs b r.run r.lowest r.based r.start r.trail r.course r.reached w.own w.joined w.fork w.split (subst AreFalling w.around w.falling) r.below r.stands
  finished x body mode.Waits bs b r e = absurd e

  -- at the bottom of a task its log is the lowest one, with nothing open
  pub at_bottom : {lowest a : Start} {t : Trail StrandState} {os : List Open} → IsOutside t → AreWaitingBelow {T = T} {J = J} job of lowest a t os [] → (a ≡ lowest) × (t ≡ opens) × (os ≡ [])
  at_bottom o waiting.bottom = (refl, refl, refl)
  at_bottom o (waiting.block h) = absurd o
