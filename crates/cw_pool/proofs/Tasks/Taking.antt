-- A fork that has two tokens, where the right strand was taken back and has ended: the strand that forked.
use Rattle.std.proofs.Common.{◌≡◌, ℕ, List, [], ◌∷◌, ◌++◌, reverse, refl, ap, sym, ◌∙◌, subst, false, inr, Some}
use Rattle.cw_job.specs.Jobs.{Job}
use Rattle.cw_job.specs.Room.Strands.{StrandState, strands_of_job}
use Rattle.cw_log.specs.declared.token.Open.{Open}
use Rattle.cw_log.specs.declared.token.Phase.TheVariants.{Over, Parted}
use Rattle.cw_log.specs.declared.token.Side.TheVariants.{Beside}
use Rattle.cw_log.specs.declared.token.Token.{Token}
use Rattle.cw_log.specs.Tokens.{AreOfOneFork, IsDone, taken_in}
use Rattle.cw_course.specs.Courses.{Course, fork}
use Rattle.cw_course.specs.Trails.{Trail, opens, in_left}
use Rattle.cw_course.proofs.Trails.Moves as move
use Rattle.cw_body.specs.Bodies.{InBlocks}
use Rattle.cw_pool.specs.declared.task.Mode.{Mode}
use Rattle.cw_pool.specs.declared.task.Mode.TheVariants as mode
use Rattle.cw_pool.specs.declared.task.Below.{Below}
use Rattle.cw_pool.specs.declared.task.Below.TheVariants as below
use Rattle.cw_pool.specs.declared.task.Base.{Base}
use Rattle.cw_pool.specs.Ends.{IsBehind, MayEnd}
use Rattle.cw_pool.specs.Tasks as waiting
use Rattle.cw_pool.specs.Tasks.{Start, IsTaken, AreFalling, AreWaitingBelow, IsRunning, stamps_in, beside, opened}
use Rattle.cw_pool.proofs.Tasks.Stopping.{no_fault}
use Rattle.cw_pool.proofs.Tasks.Finishing.{IsOutside, Leaves, Finished, finished, not_waiting}
use Rattle.cw_pool.proofs.Tasks.Behind.{behind_whole}
use Rattle.cw_pool.proofs.Tasks.Going.{top_first}
use Rattle.cw_pool.proofs.Tasks.Joining.{LeftLeaves, RightLeaves, as_one, fits_joined, goes_unsplit, joined_there, phase_behind, right_leaves, spares_there, stands_joined}

over_not_parted : (n : ℕ) → Over ≡ Parted n → ⊥
over_not_parted n e = cc

goes_not_waits : mode.Goes ≡ mode.Waits → ⊥
goes_not_waits e = cc

module _ {T : Type 0} (job : Job) (of : T → Token) where
  -- what the left strand leaves, which came to its end
  left_ended : (tok : T) (left : InBlocks) (a : Start) (t : Trail StrandState) (cs ls : Course) (b : StrandState) (column stamp : ℕ) → IsTaken job of tok left a t cs ls b column stamp
      → LeftLeaves job mode.Goes (of tok) left a (in_left t cs b (Some column) stamp) ls
  left_ended tok left a t cs ls b column stamp k = record {
    own = k.fits.own;
    joined = k.fits.joined;
    fork = k.fits.fork;
    split = k.fits.split;
    falling = subst AreFalling k.fits.around k.fits.falling;
    leaving = record {
      stopped = move.gives_up (strands_of_job job) a.state (in_left t cs b (Some column) stamp) ls left.state k.stands;
      tells = (k.free.on, spares_there job (of tok) (stamps_in t a.above) k.fits.around k.free);
      fault = no_fault (of tok).stop ls _ _ _ k.free.on.stop;
    };
    stands = (k.stands, k.over);
  }

module _ {T J : Type 0} (job : Job) (of : T → Token) where
  pub record TakenTop (lowest a : Start) (t : Trail StrandState) (os : List Open) (tok : T) (left : InBlocks) (rest : List (Below T J)) : Type 0 where
    pub start : Start
    pub outer : Trail StrandState
    pub behind : Course
    pub at : StrandState
    pub column : ℕ
    pub stamp : ℕ
    pub number : ℕ
    pub before : Course
    pub others : List Open
    pub is_taken : IsTaken job of tok left start outer behind before at column stamp
    pub forks : (of tok).forks ≡ opened (Beside number) start outer ∷ others
    pub trail : t ≡ opens
    pub none : os ≡ []
    pub right : a ≡ beside (strands_of_job job) start outer behind at column number
    pub under : AreWaitingBelow job of lowest start outer others rest

  taken_top : {lowest a : Start} {t : Trail StrandState} {os : List Open} {tok : T} {left : InBlocks} {rest : List (Below T J)} → IsOutside t → AreWaitingBelow job of lowest a t os (below.Taken tok left ∷ rest)
      → TakenTop lowest a t os tok left rest
  taken_top o (waiting.block h) = absurd o
  taken_top o (waiting.taken {a = a} {t = u} {os = os} {cs = cs} {ls = ls} {b = b} {column = column} {stamp = stamp} {fork = n} k e r h) =
      record { start = a; outer = u; behind = cs; at = b; column = column; stamp = stamp; number = n; before = ls; others = os; is_taken = k; forks = e; trail = refl; none = refl; right = r; under = h }

  taken_of : (y : Token) (body : InBlocks) (how : Mode) (bs : List (Below T J)) (b : Base T J) (tok : T) (left : InBlocks) (f : Finished job of y body how (bs ++ below.Taken tok left ∷ []) b)
      → TakenTop f.lowest f.start f.trail y.forks tok left (reverse bs)
  taken_of y body how bs b tok left f = taken_top f.leaves.outside (top_first job of bs (below.Taken tok left) f.below)

  -- what the right one leaves
  right_taken : (y : Token) (body : InBlocks) (how : Mode) (bs : List (Below T J)) (b : Base T J) (tok : T) (left : InBlocks) (f : Finished job of y body how (bs ++ below.Taken tok left ∷ []) b)
      (i : TakenTop f.lowest f.start f.trail y.forks tok left (reverse bs)) → RightLeaves job how y body (beside (strands_of_job job) i.start i.outer i.behind i.at i.column i.number) f.course
  right_taken y body how bs b tok left f i =
      right_leaves job how y body f.start (beside (strands_of_job job) i.start i.outer i.behind i.at i.column i.number) f.course
      (subst (λ (t : Trail StrandState). Leaves job y body how f.start t f.course) i.trail f.leaves) (ap (λ (q : Start). record q { split = false }) i.right)

  -- ## What the join asks, and what it makes of both

  pub of_one : (y : Token) (body : InBlocks) (how : Mode) (bs : List (Below T J)) (b : Base T J) (tok : T) (left : InBlocks) → IsRunning job of y body how (bs ++ below.Taken tok left ∷ []) b → MayEnd how y body
      → AreOfOneFork (of tok) y
  of_one y body how bs b tok left r may =
      let f = finished job of y body how (bs ++ below.Taken tok left ∷ []) b r may in
      let i = taken_of y body how bs b tok left f in
      record { inner = opened (Beside i.number) i.start i.outer; outer = i.others; left = i.forks; fork = ap (λ (n : ℕ). Beside n) (sym (f.leaves.fork ∙ ap (λ (q : Start). q.fork) i.right)); right = i.none }

  pub both_done : (y : Token) (body : InBlocks) (how : Mode) (bs : List (Below T J)) (b : Base T J) (tok : T) (left : InBlocks) → IsRunning job of y body how (bs ++ below.Taken tok left ∷ []) b → MayEnd how y body
      → IsDone (of tok) × IsDone y
  both_done y body how bs b tok left r may =
      let f = finished job of y body how (bs ++ below.Taken tok left ∷ []) b r may in
      let i = taken_of y body how bs b tok left f in
      let w = i.is_taken.fits in
      (inr (w.place ∙ sym w.strand, λ n e. over_not_parted n (sym i.is_taken.phase ∙ e)), f.leaves.done)

  pub taken_behind : (y z : Token) (how : Mode) (body left : InBlocks) (bs : List (Below T J)) (b : Base T J) (tok : T) → IsRunning job of y body how (bs ++ below.Taken tok left ∷ []) b → MayEnd how y body
      → z ≡ taken_in (of tok) y → IsBehind job of how z body left bs b
  taken_behind y z how body left bs b tok r may joined_so =
      let f = finished job of y body how (bs ++ below.Taken tok left ∷ []) b r may in
      let i = taken_of y body how bs b tok left f in
      let v = left_ended job of tok left i.start i.outer i.behind i.before i.at i.column i.stamp i.is_taken in
      let w = right_taken y body how bs b tok left f i in
      let p = phase_behind y in
      subst (λ (u : Token). IsBehind job of how u body left bs b) (sym (joined_there (of tok) y z i.start i.outer i.others i.number i.forks joined_so))
      (behind_whole job of how (as_one (of tok) y i.start i.outer i.others p) body left bs b f.run f.lowest f.based i.start i.outer (fork i.behind (Some i.column) i.stamp i.before f.course)
      i.is_taken.reached
      (fits_joined job (of tok) y left body i.start i.outer i.behind i.before f.course i.at i.column i.stamp i.number i.others p mode.Goes how v w) i.under
      (stands_joined job (of tok) y left body i.start i.outer i.behind i.before f.course i.at i.column i.stamp i.number i.others p mode.Goes how
      (λ n. goes_unsplit y (f.leaves.split ∙ ap (λ (q : Start). q.split) i.right)) (not_waiting y body may) goes_not_waits v.leaving w.leaving v.stands w.stands))
