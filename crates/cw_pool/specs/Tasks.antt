-- What a task in memory stands for: a strand that runs, with its token and its body, and what waits for it.
use Rattle.std.specs.Prelude.{◌≡◌, ℕ, ◌+◌, ◌<◌, ◌≤◌, Bool, true, false, IsTrue, All, Contains, List, [], ◌∷◌, ◌++◌, map, reverse, length, Option, Some, None}
use Rattle.cw_code.specs.declared.FaultKind.{FaultKind}
use Rattle.cw_strand.specs.declared.want.Want.TheVariants as want
use Rattle.cw_strand.specs.Strands.{Strands, Reached, is_over}
use Rattle.cw_strand.specs.Programs.{IsCompiled}
use Rattle.cw_job.specs.Jobs.{Job, TakesWords}
use Rattle.cw_job.specs.Room.Strands.{StrandState, strands_of_job}
use Rattle.cw_tree.specs.declared.conflict.Conflict.{Conflict}
use Rattle.cw_tree.specs.declared.closed.Halt.TheVariants.{Fault}
use Rattle.cw_pair.specs.declared.view.Binding.{Binding}
use Rattle.cw_log.specs.declared.log.Log.{Log}
use Rattle.cw_log.specs.declared.token.Stop.{Stop}
use Rattle.cw_log.specs.declared.token.Open.{Open}
use Rattle.cw_log.specs.declared.token.Side.{Side}
use Rattle.cw_log.specs.declared.token.Side.TheVariants.{Beside, First, Second}
use Rattle.cw_log.specs.declared.token.Phase.TheVariants.{Going, Waiting, Over}
use Rattle.cw_log.specs.declared.token.Token.{Token}
use Rattle.cw_log.specs.Tokens.{IsOn, IsOff, Fells, conflicts_in, logs}
use Rattle.cw_course.specs.Courses.{Course, nothing, rights}
use Rattle.cw_course.specs.Closings.{FaultsIn, bare_log}
use Rattle.cw_course.specs.Trails.{Trail, opens, in_block, in_left, in_right, Stands, Stopped, page, nodes_of, place_of, strand_in}
use Rattle.cw_body.specs.declared.stage.Stage.TheVariants as stage
use Rattle.cw_body.specs.Bodies.{InBlocks, PendingBegin, one_fork_more, want_of}
use Rattle.cw_pool.specs.declared.task.Memo.{Memo}
use Rattle.cw_pool.specs.declared.task.Mode.{Mode}
use Rattle.cw_pool.specs.declared.task.Mode.TheVariants as mode
use Rattle.cw_pool.specs.declared.task.Below.{Below}
use Rattle.cw_pool.specs.declared.task.Below.TheVariants as below
use Rattle.cw_pool.specs.declared.task.Base.{Base}
use Rattle.cw_pool.specs.declared.task.Base.TheVariants as base

-- What may be run: a compiled program, with one word for each parameter of main.
pub record IsRun (job : Job) : Type 0 where
  pub compiled : IsCompiled job.program
  pub takes : TakesWords job.program (length job.words)

-- ## Logs

-- What the log of a token begins with. First its strand. Then the begins of the pending blocks around that, as seen from it, and
-- their stamps, innermost first. Then its column, and the column and node from which it hangs. Last the fork as whose right strand
-- it began, and whether that fork was split.
pub record Start : Type 0 where
  pub state : StrandState
  pub begins : List PendingBegin
  pub above : List ℕ
  pub column : ℕ
  pub from : ℕ
  pub at : ℕ
  pub fork : ℕ
  pub split : Bool

-- the begins of the pending blocks around the strand that runs, as seen from it, if the log began with `bs` around it
abbrev pub begins_in : Trail StrandState → List PendingBegin → List PendingBegin
begins_in opens bs = bs
begins_in (in_block t cs b stamp) bs = record { at = b; forks = 0 } ∷ begins_in t bs
begins_in (in_left t cs b column stamp) bs = []
begins_in (in_right t cs b stamp ls l) bs = map one_fork_more (begins_in t bs)

-- the stamps of all pending blocks around the strand, including those around a left strand
abbrev pub stamps_in : Trail StrandState → List ℕ → List ℕ
stamps_in opens above = above
stamps_in (in_block t cs b stamp) above = stamp ∷ stamps_in t above
stamps_in (in_left t cs b column stamp) above = stamps_in t above
stamps_in (in_right t cs b stamp ls l) above = stamps_in t above

-- the logs of right strands that were joined within what is open
abbrev pub rights_to : Trail StrandState → (column : ℕ) → List Log
rights_to opens column = []
rights_to (in_block t cs b stamp) column = rights_to t column ++ rights cs column (length (page t).nodes)
rights_to (in_left t cs b other stamp) column = rights_to t column ++ rights cs column (length (page t).nodes)
rights_to (in_right t cs b stamp ls l) column =
    rights_to t column ++ (rights cs column (length (page t).nodes) ++ rights ls column (length (page (in_left t cs b None stamp)).nodes))

-- the same, and those joined in the course behind it
abbrev pub rights_of : Trail StrandState → Course → (column : ℕ) → List Log
rights_of t cs column = rights_to t column ++ rights cs column (length (page t).nodes)

-- each stamp exceeds 0, and all stamps behind it
abbrev pub AreFalling : List ℕ → Type 0
AreFalling [] = Unit {0}
AreFalling (b ∷ bs) = (0 < b) × All (λ c. c < b) bs × AreFalling bs

-- What is written in a token: a log that began with `a`, in which `t` is open, and the course `cs` behind that.
pub record Fits (x : Token) (a : Start) (t : Trail StrandState) (cs : Course) : Type 0 where
  pub own : bare_log x.own ≡ record { column = a.column; from = a.from; fork = a.at; nodes = nodes_of t cs; conflicts = [] }
  pub joined : map bare_log x.joined ≡ rights_of t cs a.column
  pub strand : x.strand ≡ strand_in t
  pub place : x.place ≡ place_of t
  pub around : x.around ≡ stamps_in t a.above
  pub falling : AreFalling x.around
  pub fork : x.fork ≡ a.fork
  pub split : x.split ≡ a.split

-- ## How a strand stands

-- if a fault stopped this log or one joined to it, the fault is in this course
abbrev pub HasFault : Option Stop → Course → (column strand base : ℕ) → Type 0
HasFault stop cs column strand base = (x : Stop) (y : ℕ) (kind : FaultKind) → stop ≡ Some x → x.halt ≡ Fault y kind → FaultsIn kind x.column x.strand cs column strand base

-- the strand may reach this state, with no block of its own begun
abbrev pub IsReached : {A : Type 0} → Strands A → A → Type 0
IsReached s a = (outer : List ℕ) × Reached s (0 ∷ outer) a

-- a begin as seen from `k` forks further in
abbrev pub seen_in : ℕ → PendingBegin → PendingBegin
seen_in k p = record { at = p.at; forks = p.forks + k }

module _ (job : Job) where
  -- a body that goes on from this state, in these blocks
  abbrev pub goes_in : StrandState → List PendingBegin → InBlocks
  goes_in a begins = record { program = job.program; stage = stage.Goes; state = a; begins = begins }

  -- what conflicts are to a strand that goes on: none is from the last attempt, and no victim is a block around it
  pub record IsFree (x : Token) : Type 0 where
    pub on : IsOn job.limits.aborts x
    pub none : All (λ c. Fells x c → ⊥) (conflicts_in (logs x))

  pub record StandsGoing (x : Token) (body : InBlocks) (a : Start) (t : Trail StrandState) (cs : Course) : Type 0 where
    pub now : StrandState
    pub stands : Stands (strands_of_job job) a.state t cs now
    pub there : body ≡ goes_in now (begins_in t a.begins)
    pub free : IsFree x
    pub phase : x.phase ≡ Going

  -- the right strand of a fork that is neither split nor taken back has done nothing
  pub record StandsWaiting (x : Token) (body : InBlocks) (a : Start) (t : Trail StrandState) (cs : Course) : Type 0 where
    pub trail : t ≡ opens
    pub course : cs ≡ nothing
    pub there : body ≡ goes_in a.state a.begins
    pub free : IsFree x
    pub phase : x.phase ≡ Waiting

  -- it goes back to the block with the begin stamp `to`, the outermost victim
  pub record StandsDying (to : ℕ) (x : Token) (body : InBlocks) (a : Start) (t : Trail StrandState) (cs : Course) : Type 0 where
    pub stopped : Stopped (strands_of_job job) a.state t cs
    pub program : body.program ≡ job.program
    pub stage : body.stage ≡ stage.GaveUp
    pub further : ℕ
    pub begins : body.begins ≡ map (seen_in further) (begins_in t a.begins)
    pub stays : want_of body ≡ want.End → ⊥
    pub on : IsOn job.limits.aborts x
    pub phase : x.phase ≡ Going
    pub around : Contains x.around to
    pub conflict : Conflict
    pub known : Contains (conflicts_in (logs x)) conflict
    pub victim : conflict.victim ≡ to
    pub outermost : All (λ c. Fells x c → to ≤ c.victim) (conflicts_in (logs x))

  -- it stopped; its body may be lost
  pub record StandsStopped (x : Token) (a : Start) (t : Trail StrandState) (cs : Course) : Type 0 where
    pub stopped : Stopped (strands_of_job job) a.state t cs
    pub off : IsOff x
    pub fault : HasFault x.stop cs a.column (strand_in t) (length (page t).nodes)

  abbrev pub StandsInMode : Mode → Token → InBlocks → Start → Trail StrandState → Course → Type 0
  StandsInMode mode.Goes x body a t cs = StandsGoing x body a t cs
  StandsInMode mode.Waits x body a t cs = StandsWaiting x body a t cs
  StandsInMode (mode.Dies to) x body a t cs = StandsDying to x body a t cs
  StandsInMode mode.Stopped x body a t cs = StandsStopped x a t cs

-- ## What waits

-- the beginning of the right strand's log, for a fork that was made behind the course `cs` in this trail
abbrev pub beside : Strands StrandState → Start → Trail StrandState → Course → StrandState → (column fork : ℕ) → Start
beside s a t cs b column fork = record {
  state = s.right b;
  begins = map one_fork_more (begins_in t a.begins);
  above = stamps_in t a.above;
  column = column;
  from = a.column;
  at = length (nodes_of t cs);
  fork = fork;
  split = false;
}

-- where the strand that forked stands, for a token in one of its strands
abbrev pub opened : Side → Start → Trail StrandState → Open
opened side a t = record { side = side; strand = strand_in t; place = place_of t; around = stamps_in t a.above }

module _ {T : Type 0} (job : Job) (of : T → Token) where
  -- what a memo tells of the right strand's log
  abbrev pub told_by : Memo T → Start
  told_by m =
      let right = of m.right.value in
      record {
        state = (strands_of_job job).right m.before.value.state;
        begins = map one_fork_more m.before.value.begins;
        above = right.around;
        column = right.own.column;
        from = right.own.from;
        at = right.own.fork;
        fork = right.fork;
        split = false;
      }

  -- the half of a fork whose right strand's log begins with `a`
  abbrev pub IsHalf : Binding (Memo T) → Start → Type 0
  IsHalf half a = (m : Memo T) × (half.of ≡ Some m) × (told_by m ≡ a)

  -- A left strand that came to its end and whose right one was taken back: its token and its body.
  pub record IsTaken (tok : T) (left : InBlocks) (a : Start) (t : Trail StrandState) (cs ls : Course) (b : StrandState) (column stamp : ℕ) : Type 0 where
    pub reached : IsReached (strands_of_job job) a.state
    pub fits : Fits (of tok) a (in_left t cs b (Some column) stamp) ls
    pub stands : Stands (strands_of_job job) a.state (in_left t cs b (Some column) stamp) ls left.state
    pub over : IsTrue (is_over ((strands_of_job job).want left.state))
    pub free : IsFree job (of tok)
    pub phase : (of tok).phase ≡ Over

module _ {T J : Type 0} (job : Job) (of : T → Token) where
  -- The base of a task's lowest log: main, or the right strand of a fork. That fork was split if the strand goes or dies, and not
  -- if it waits.
  abbrev pub IsBase : Base T J → Mode → Start → Type 0
  IsBase base.Root how a = a ≡ record { state = (strands_of_job job).start; begins = []; above = []; column = 0; from = 0; at = 0; fork = 0; split = false }
  IsBase (base.Right fork half) how a = IsHalf job of half (record a { split = false }) × (a.fork ≡ fork) × IsSplit how where
    IsSplit : Mode → Type 0
    IsSplit mode.Stopped = Unit {0}
    IsSplit mode.Waits = a.split ≡ false
    IsSplit how = a.split ≡ true

  -- The entries of a stack, newest first, are what waits in this log, in which these forks are open, and in the logs below it down
  -- to the lowest one.
  pub data AreWaitingBelow (lowest : Start) : Start → Trail StrandState → List Open → List (Below T J) → Type 0 where
    bottom : AreWaitingBelow lowest lowest opens [] []
    block : {a : Start} {t : Trail StrandState} {os : List Open} {bs : List (Below T J)} {cs : Course} {b : StrandState} {stamp : ℕ}
        → AreWaitingBelow lowest a t os bs → AreWaitingBelow lowest a (in_block t cs b stamp) os bs
    left : {a : Start} {t : Trail StrandState} {os : List Open} {bs : List (Below T J)} {cs : Course} {b : StrandState} {column stamp fork : ℕ} {half : Binding (Memo T)}
        → IsHalf job of half (beside (strands_of_job job) a t cs b column fork) → AreWaitingBelow lowest a t os bs
        → AreWaitingBelow lowest a (in_left t cs b (Some column) stamp) (opened (Beside fork) a t ∷ os) (below.Left fork half ∷ bs)
    first : {a : Start} {t : Trail StrandState} {os : List Open} {bs : List (Below T J)} {cs : Course} {b : StrandState} {stamp : ℕ} {right : InBlocks}
        → right ≡ goes_in job ((strands_of_job job).right b) (map one_fork_more (begins_in t a.begins)) → AreWaitingBelow lowest a t os bs
        → AreWaitingBelow lowest a (in_left t cs b None stamp) (opened (First (length (nodes_of t cs) + 2)) a t ∷ os) (below.Inline right ∷ bs)
    second : {a : Start} {t : Trail StrandState} {os : List Open} {bs : List (Below T J)} {cs ls : Course} {b l : StrandState} {stamp : ℕ} {left : InBlocks}
        → left.state ≡ l → AreWaitingBelow lowest a t os bs
        → AreWaitingBelow lowest a (in_right t cs b stamp ls l) (opened Second a t ∷ os) (below.Second left ∷ bs)
    taken : {a r : Start} {t : Trail StrandState} {os : List Open} {bs : List (Below T J)} {cs ls : Course} {b : StrandState} {column stamp fork : ℕ} {tok : T} {left : InBlocks}
        → IsTaken job of tok left a t cs ls b column stamp → (of tok).forks ≡ opened (Beside fork) a t ∷ os → r ≡ beside (strands_of_job job) a t cs b column fork
        → AreWaitingBelow lowest a t os bs → AreWaitingBelow lowest r opens [] (below.Taken tok left ∷ bs)

  -- ## The whole

  pub record IsRunning (x : Token) (body : InBlocks) (how : Mode) (bs : List (Below T J)) (b : Base T J) : Type 0 where
    pub run : IsRun job
    pub lowest : Start
    pub based : IsBase b how lowest
    pub start : Start
    pub trail : Trail StrandState
    pub course : Course
    pub reached : IsReached (strands_of_job job) start.state
    pub written : Fits x start trail course
    pub below : AreWaitingBelow lowest start trail x.forks (reverse bs)
    pub stands : StandsInMode job how x body start trail course
