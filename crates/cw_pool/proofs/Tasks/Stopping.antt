-- A task whose strand stops.
use Rattle.std.proofs.Common.{◌≡◌, ℕ, Bool, true, false, List, length, ap, sym, ◌∙◌, refl, subst, inl, inr, Option, None, Some}
use Rattle.std.specs.Prelude.{◌||◌}
use Rattle.cw_job.specs.Jobs.{Job}
use Rattle.cw_job.specs.Room.Strands.{StrandState, strands_of_job}
use Rattle.cw_tree.specs.declared.closed.Halt.{Halt}
use Rattle.cw_tree.specs.declared.closed.Halt.TheVariants.{Memory, Budget, Fault}
use Rattle.cw_code.specs.declared.FaultKind.{FaultKind}
use Rattle.cw_strand.specs.declared.want.Want.TheVariants as want
use Rattle.cw_log.specs.declared.log.Log.{Log}
use Rattle.cw_log.specs.declared.token.Stop.{Stop}
use Rattle.cw_log.specs.declared.token.Token.{Token}
use Rattle.cw_log.specs.Tokens.{IsOff, was_told, halted}
use Rattle.cw_course.specs.Courses.{Course, fault, there, starts}
use Rattle.cw_course.specs.Trails.{Trail, opens, Stopped, page, strand_in}
use Rattle.cw_course.proofs.Trails.Moves as move
use Rattle.cw_body.specs.Bodies.{InBlocks}
use Rattle.cw_pool.specs.declared.task.Mode.{Mode}
use Rattle.cw_pool.specs.declared.task.Mode.TheVariants as mode
use Rattle.cw_pool.specs.declared.task.Below.{Below}
use Rattle.cw_pool.specs.declared.task.Base.{Base}
use Rattle.cw_pool.specs.Tasks.{Start, Fits, HasFault, StandsInMode, StandsWaiting, IsRunning}
use Rattle.cw_pool.proofs.Tasks.Going.{rebuilt, base_stops, fits_told, fits_halted}

off : (b : Bool) → (b || true) ≡ true
off true = refl
off false = refl

same : (b : Bool) → (b || false) ≡ b
same true = refl
same false = refl

some_is_none : {A : Type 0} → (x : A) → Some x ≡ None → ⊥
some_is_none x e = cc

pub is_off : (x : Token) (h : Halt) → IsOff (halted x h)
is_off x h = inl (some_is_none _)

none_is_some : {A : Type 0} → (o : Option A) (x : A) → o ≡ None → o ≡ Some x → ⊥
none_is_some o x e f = cc

pub one_some : {A : Type 0} → (x y : A) → Some x ≡ Some y → x ≡ y
one_some x y e = cc

-- where nothing stopped there is no fault
pub no_fault : (o : Option Stop) (cs : Course) (column strand base : ℕ) → o ≡ None → HasFault o cs column strand base
no_fault o cs column strand base e x y kind f h = absurd (none_is_some o x e f)

-- nor where it halted for something else
no_fault_by : (z : Token) (h : Halt) (cs : Course) (column strand base : ℕ) → ((y : ℕ) (kind : FaultKind) → h ≡ Fault y kind → ⊥) → HasFault (halted z h).stop cs column strand base
no_fault_by z h cs column strand base n x y kind e f = absurd (n y kind (ap (λ (r : Stop). r.halt) (one_some (record { halt = h; column = z.own.column; strand = z.strand }) x e) ∙ f))

memory_is_none : (y : ℕ) (kind : FaultKind) → Memory ≡ Fault y kind → ⊥
memory_is_none y kind e = cc

budget_is_none : (y : ℕ) (kind : FaultKind) → Budget 0 ≡ Fault y kind → ⊥
budget_is_none y kind e = cc

pub memory_no_fault : (z : Token) (cs : Course) (column strand base : ℕ) → HasFault (halted z Memory).stop cs column strand base
memory_no_fault z cs column strand base = no_fault_by z Memory cs column strand base memory_is_none

pub budget_no_fault : (z : Token) (cs : Course) (column strand base : ℕ) → HasFault (halted z (Budget 0)).stop cs column strand base
budget_no_fault z cs column strand base = no_fault_by z (Budget 0) cs column strand base budget_is_none

fault_is : (kind met : FaultKind) (y : ℕ) → Fault 0 kind ≡ Fault y met → kind ≡ met
fault_is kind met y e = cc

-- the fault at which it stands is where its course ends
fault_here : (z : Token) (kind : FaultKind) (cs : Course) (column strand base : ℕ) → column ≡ z.own.column → strand ≡ z.strand → HasFault (halted z (Fault 0 kind)).stop (fault cs kind) column strand base
fault_here z kind cs column strand base c s x y met e f =
    let same = one_some (record { halt = Fault 0 kind; column = z.own.column; strand = z.strand }) x e in
    (fault_is kind met y (ap (λ (r : Stop). r.halt) same ∙ f), c ∙ ap (λ (r : Stop). r.column) same, s ∙ ap (λ (r : Stop). r.strand) same)

module _ (job : Job) where
  pub waits_stopped : (x : Token) (body : InBlocks) (a : Start) (t : Trail StrandState) (cs : Course) → StandsWaiting job x body a t cs → Stopped (strands_of_job job) a.state t cs
  waits_stopped x body a t cs s =
      subst (λ (u : Trail StrandState). Stopped (strands_of_job job) a.state u cs) (sym s.trail)
      (subst (λ (ds : Course). Stopped (strands_of_job job) a.state opens ds) (sym s.course) (record { leads = tt; stops = there starts }))

  -- however it stood, it is stopped there
  pub stopped : (how : Mode) (x : Token) (body : InBlocks) (a : Start) (t : Trail StrandState) (cs : Course) → StandsInMode job how x body a t cs → Stopped (strands_of_job job) a.state t cs
  stopped mode.Goes x body a t cs s = move.gives_up (strands_of_job job) a.state t cs s.now s.stands
  stopped (mode.Dies to) x body a t cs s = s.stopped
  stopped mode.Stopped x body a t cs s = s.stopped
  stopped mode.Waits x body a t cs s = waits_stopped x body a t cs s

  fault_there : (how : Mode) (x : Token) (body : InBlocks) (a : Start) (t : Trail StrandState) (cs : Course) → StandsInMode job how x body a t cs → HasFault x.stop cs a.column (strand_in t) (length (page t).nodes)
  fault_there mode.Goes x body a t cs s = no_fault x.stop cs _ _ _ s.free.on.stop
  fault_there (mode.Dies to) x body a t cs s = no_fault x.stop cs _ _ _ s.on.stop
  fault_there mode.Stopped x body a t cs s = s.fault
  fault_there mode.Waits x body a t cs s = no_fault x.stop cs _ _ _ s.free.on.stop

module _ {T J : Type 0} (job : Job) (of : T → Token) where
  -- it has learnt that some strand has stopped
  pub is_told : (x z : Token) (how : Mode) (body : InBlocks) (bs : List (Below T J)) (b : Base T J) → IsRunning job of x body how bs b → z ≡ was_told x true
      → IsRunning job of z body mode.Stopped bs b
  is_told x z how body bs b r e =
      subst (λ (w : Token). IsRunning job of w body mode.Stopped bs b) (sym e)
      (rebuilt job of x (was_told x true) body body how mode.Stopped bs b r r.course (base_stops job of b how r.lowest r.based)
      (fits_told x r.start r.trail r.course true r.written) refl
      (record { stopped = stopped job how x body r.start r.trail r.course r.stands; off = inr (off x.told); fault = fault_there job how x body r.start r.trail r.course r.stands }))

  -- a halt of its own, which is no fault
  pub is_halted : (x z : Token) (how : Mode) (body next : InBlocks) (bs : List (Below T J)) (b : Base T J) (r : IsRunning job of x body how bs b) (cs : Course) (h : Halt)
      → Fits z r.start r.trail cs → z.forks ≡ x.forks → Stopped (strands_of_job job) r.start.state r.trail cs
      → HasFault (halted z h).stop cs r.start.column (strand_in r.trail) (length (page r.trail).nodes) → IsRunning job of (halted z h) next mode.Stopped bs b
  is_halted x z how body next bs b r cs h w same st f =
      rebuilt job of x (halted z h) body next how mode.Stopped bs b r cs (base_stops job of b how r.lowest r.based)
      (fits_halted z r.start r.trail cs h w) same (record { stopped = st; off = is_off z h; fault = f })

  -- want of memory stops it where it stands
  pub wants_memory : (x z : Token) (how : Mode) (body next : InBlocks) (bs : List (Below T J)) (b : Base T J) → IsRunning job of x body how bs b → z ≡ halted x Memory
      → IsRunning job of z next mode.Stopped bs b
  wants_memory x z how body next bs b r e =
      subst (λ (w : Token). IsRunning job of w next mode.Stopped bs b) (sym e)
      (is_halted x x how body next bs b r r.course Memory r.written refl (stopped job how x body r.start r.trail r.course r.stands) (memory_no_fault x r.course r.start.column (strand_in r.trail) (length (page r.trail).nodes)))

  -- it stands at a fault
  pub is_faulty : (x z : Token) (how : Mode) (body next : InBlocks) (bs : List (Below T J)) (b : Base T J) (kind : FaultKind) → how ≡ mode.Goes → IsRunning job of x body how bs b
      → (strands_of_job job).want body.state ≡ want.Fault kind → z ≡ halted x (Fault 0 kind) → IsRunning job of z next mode.Stopped bs b
  is_faulty x z how body next bs b kind is r0 e halted_so =
      let r : IsRunning job of x body mode.Goes bs b = subst (λ (m : Mode). IsRunning job of x body m bs b) is r0 in
      let s = r.stands in
      let w = r.written in
      subst (λ (u : Token). IsRunning job of u next mode.Stopped bs b) (sym halted_so)
      (is_halted x x mode.Goes body next bs b r (fault r.course kind) (Fault 0 kind)
      (record { own = w.own; joined = w.joined; strand = w.strand; place = w.place; around = w.around; falling = w.falling; fork = w.fork; split = w.split }) refl
      (move.is_faulty (strands_of_job job) r.start.state r.trail r.course s.now kind s.stands (sym (ap (λ (v : InBlocks). (strands_of_job job).want v.state) s.there) ∙ e))
      (fault_here x kind r.course r.start.column (strand_in r.trail) (length (page r.trail).nodes) (sym (ap (λ (o : Log). o.column) w.own)) (sym w.strand)))
