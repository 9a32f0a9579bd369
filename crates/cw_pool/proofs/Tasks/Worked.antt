-- The root's token, once its strand has ended: its logs are what strands of the program did.
use Rattle.std.proofs.Common.{◌≡◌, ◌||◌, ℕ, Bool, List, [], ◌∷◌, map, ap, sym, ◌∙◌, refl, subst, arith, true, false, inl, inr, Option, None, Some}
use Rattle.std.specs.List.{Contains}
use Rattle.cw_job.specs.Jobs.{Job}
use Rattle.cw_job.specs.Room.Strands.{StrandState, strands_of_job}
use Rattle.cw_tree.specs.declared.closed.Halt.{Halt}
use Rattle.cw_tree.specs.declared.closed.Halt.TheVariants.{Fault, Budget, Memory}
use Rattle.cw_log.specs.declared.log.Log.{Log}
use Rattle.cw_log.specs.declared.token.Stop.{Stop}
use Rattle.cw_log.specs.declared.token.Token.{Token}
use Rattle.cw_log.specs.Tokens.{IsOff, halted, root_token, was_told}
use Rattle.cw_course.specs.Courses.{Course, Stops, nothing, own_log, starts, there}
use Rattle.cw_course.specs.Closings.{Ends, bare_log}
use Rattle.cw_course.specs.Trails.{Trail, opens}
use Rattle.cw_body.specs.Bodies.{InBlocks}
use Rattle.cw_pool.specs.declared.task.Mode.{Mode}
use Rattle.cw_pool.specs.declared.task.Mode.TheVariants as mode
use Rattle.cw_pool.specs.declared.task.Below.{Below}
use Rattle.cw_pool.specs.declared.task.Base.{Base}
use Rattle.cw_pool.specs.declared.task.Base.TheVariants as base
use Rattle.cw_pool.specs.Ends.{MayEnd, IsWorked}
use Rattle.cw_pool.specs.Tasks.{Start, StandsStopped, IsRunning}
use Rattle.cw_pool.proofs.Tasks.Finishing.{Leaves, Ending, at_bottom, finished}

abbrev first : Job → Start
first job = record { state = (strands_of_job job).start; begins = []; above = []; column = 0; from = 0; at = 0; fork = 0; split = false }

none_in : (n : ℕ) → Contains [] n → ⊥
none_in n (k, r, e) = absurd (omega arith)

both_told : (b : Bool) → b ≡ false → b ≡ true → ⊥
both_told b e f = cc

module _ (job : Job) where
  stopped_so : (x : Token) (cs : Course) (h : Halt) (c n : ℕ) → StandsStopped job x (first job) opens cs → x.stop ≡ Some (record { halt = h; column = c; strand = n })
      → Ends (strands_of_job job) (Some (record { halt = h; column = c; strand = n })) cs
  stopped_so x cs (Fault y kind) c n s e = (s.stopped.stops, s.fault (record { halt = Fault y kind; column = c; strand = n }) y kind e refl)
  stopped_so x cs (Budget y) c n s e = s.stopped.stops
  stopped_so x cs Memory c n s e = tt

  stopped_by : (x : Token) (cs : Course) (o : Option Stop) → StandsStopped job x (first job) opens cs → x.stop ≡ o → (o ≡ None → x.told ≡ false) → Ends (strands_of_job job) o cs
  stopped_by x cs (Some st) s e h = stopped_so x cs st.halt st.column st.strand s e
  stopped_by x cs None s e h = absurd (off s.off) where
    off : IsOff x → ⊥
    off (inl n) = n e
    off (inr t) = both_told x.told (h refl) t

  ends_so : (how : Mode) (x : Token) (body : InBlocks) (cs : Course) → Ending job how x body (first job) opens cs → (x.stop ≡ None → x.told ≡ false) → Ends (strands_of_job job) x.stop cs
  ends_so mode.Goes x body cs (s, over, around) h = subst (λ (o : Option Stop). Ends (strands_of_job job) o cs) (sym s.free.on.stop) (s.now, s.stands.goes, over)
  ends_so (mode.Dies to) x body cs (d, around) h = absurd (none_in to (subst (λ (bs : List ℕ). Contains bs to) around d.around))
  ends_so mode.Stopped x body cs s h = stopped_by x cs x.stop s refl h
  ends_so mode.Waits x body cs s h = absurd s

  did_so : (how : Mode) (x : Token) (body : InBlocks) (cs : Course) → Ending job how x body (first job) opens cs → Stops (strands_of_job job) (strands_of_job job).start cs
  did_so mode.Goes x body cs (s, over, around) = there s.stands.goes
  did_so (mode.Dies to) x body cs (d, around) = absurd (none_in to (subst (λ (bs : List ℕ). Contains bs to) around d.around))
  did_so mode.Stopped x body cs s = s.stopped.stops
  did_so mode.Waits x body cs s = absurd s

  worked_so : (how : Mode) (x : Token) (body : InBlocks) (cs : Course) → Leaves job x body how (first job) opens cs → IsWorked job x
  worked_so how x body cs v = record {
    course = cs;
    written = ap (λ (o : Log). o ∷ map bare_log x.joined) v.own ∙ ap (λ us. own_log cs 0 0 0 ∷ us) v.joined;
    did = did_so how x body cs v.ends;
    ends = ends_so how x body cs v.ends;
  }

module _ {T J : Type 0} (job : Job) (of : T → Token) where
  pub root_worked : (x : Token) (how : Mode) (body : InBlocks) (bs : List (Below T J)) (b : Base T J) → IsRunning job of x body how bs b → MayEnd how x body → bs ≡ [] → b ≡ base.Root → IsWorked job x
  root_worked x how body bs b r0 may none root =
      let r : IsRunning {T = T} {J = J} job of x body how [] base.Root = subst (λ (c : Base T J). IsRunning job of x body how [] c) root (subst (λ (us : List (Below T J)). IsRunning job of x body how us b) none r0) in
      let f = finished job of x body how [] base.Root r may in
      let (same, over, none) = at_bottom job of f.leaves.outside f.below in
      worked_so job how x body f.course
      (subst (λ (a : Start). Leaves job x body how a opens f.course) (same ∙ f.based) (subst (λ (t : Trail StrandState). Leaves job x body how f.start t f.course) over f.leaves))

  -- the token of a strand that goes on has learnt of no halt
  pub goes_untold : (x : Token) (how : Mode) (body : InBlocks) (bs : List (Below T J)) (b : Base T J) → IsRunning job of x body how bs b → how ≡ mode.Goes → x.told ≡ false
  goes_untold x how body bs b r goes = (subst (λ (h : Mode). IsRunning {T = T} {J = J} job of x body h bs b) goes r).stands.free.on.told

-- ## What it learns at last

module _ (x : Token) (b : Bool) where
  untold_before : (was_told x b).told ≡ false → x.told ≡ false
  untold_before e = at x.told e where
    at : (t : Bool) → (t || b) ≡ false → t ≡ false
    at false e = refl
    at true e = e

  pub still_worked : (job : Job) → IsWorked job x → IsWorked job (was_told x b)
  still_worked job w = record { course = w.course; written = w.written; did = w.did; ends = λ told. w.ends (λ none. untold_before (told none)) }

  pub still_untold : x.told ≡ false → b ≡ false → (was_told x b).told ≡ false
  still_untold e f = ap (λ (t : Bool). t || b) e ∙ f

-- before any strand began
pub none_worked : (x : Token) (job : Job) → x ≡ root_token → (b : Bool) → IsWorked job (was_told (halted x Memory) b)
none_worked x job root b = subst (λ (y : Token). IsWorked job (was_told (halted y Memory) b)) (sym root)
    (record { course = nothing; written = refl; did = there starts; ends = λ told. tt })
