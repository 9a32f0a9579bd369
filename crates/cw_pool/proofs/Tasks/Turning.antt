-- The strands of a fork that has one token, one after the other, and the strand that forked behind them.
use Rattle.std.proofs.Common.{◌≡◌, ℕ, ◌+◌, List, [], ◌∷◌, ◌++◌, length, map, reverse, refl, ap, sym, ◌∙◌, subst, arith, inl, inr, None, append_assoc, append-nil}
use Rattle.std.specs.Prelude.{IsTrue, ◌≤◌}
use Rattle.std.specs.List.{All, Contains}
use Rattle.cw_code.specs.declared.FaultKind.{FaultKind}
use Rattle.cw_strand.specs.Strands.{is_over}
use Rattle.cw_job.specs.Jobs.{Job, bare_job}
use Rattle.cw_job.specs.Room.Strands.{StrandState, strands_of_job}
use Rattle.cw_job.proofs.Room.Wants.{same_want}
use Rattle.cw_tree.specs.declared.conflict.Conflict.{Conflict}
use Rattle.cw_log.specs.declared.token.Open.{Open}
use Rattle.cw_log.specs.declared.token.Side.TheVariants.{First, Second}
use Rattle.cw_log.specs.declared.token.Token.{Token}
use Rattle.cw_log.specs.Tokens.{Fells, IsDone, IsInline, conflicts_in, logs, turned, turned_by}
use Rattle.cw_course.specs.Courses.{Course, nothing, fork, rights, size, there, starts}
use Rattle.cw_course.specs.Closings.{FaultsIn}
use Rattle.cw_course.specs.Trails.{Trail, in_left, in_right, forked_page, page, nodes_of, place_of, strand_in}
use Rattle.cw_course.proofs.Trails.Moves as move
use Rattle.cw_course.proofs.Trails.Steps as step
use Rattle.cw_course.proofs.Trails.Steps.{behind_many}
use Rattle.cw_body.specs.Bodies as bodies
use Rattle.cw_body.specs.Bodies.{InBlocks, gave_up, one_fork_more}
use Rattle.cw_pool.specs.declared.task.Mode.{Mode}
use Rattle.cw_pool.specs.declared.task.Mode.TheVariants as mode
use Rattle.cw_pool.specs.declared.task.Below.{Below}
use Rattle.cw_pool.specs.declared.task.Below.TheVariants as below
use Rattle.cw_pool.specs.declared.task.Base.{Base}
use Rattle.cw_pool.specs.Ends.{IsBehind, MayEnd}
use Rattle.cw_pool.specs.Tasks as waiting
use Rattle.cw_pool.specs.Tasks.{Start, IsRun, IsFree, IsReached, Fits, StandsGoing, StandsDying, StandsStopped, AreWaitingBelow, IsRunning, begins_in, stamps_in, rights_to, rights_of, opened, goes_in}
use Rattle.cw_pool.proofs.Tasks.Reaching.{reached_fork, start_not_end}
use Rattle.cw_pool.proofs.Tasks.Pages.{many, many_inline}
use Rattle.cw_pool.proofs.Tasks.Going.{top_first, top_last}
use Rattle.cw_pool.proofs.Tasks.Behind.{StandsBehind, behind_whole, body_joined, may_join, gave_up_not_lost, goes_not_lost, seen_more}
use Rattle.cw_pool.proofs.Tasks.Finishing.{IsOutside, Ending, Leaves, Finished, finished, not_parted}

-- ## Lists

-- the logs that were joined stand as before, as an inline fork turns
rights_turned : (t : Trail StrandState) (cs ls : Course) (b l : StrandState) (stamp column : ℕ) → rights_of (in_left t cs b None stamp) ls column ≡ rights_of (in_right t cs b stamp ls l) nothing column
rights_turned t cs ls b l stamp column =
    let rs = rights ls column (length (page (in_left t cs b None stamp)).nodes) in
    append_assoc (rights_to t column) (rights cs column (length (page t).nodes)) rs
    ∙ sym (append-nil (rights_to t column ++ (rights cs column (length (page t).nodes) ++ rs)))

-- and as it ends
rights_ended : (t : Trail StrandState) (cs ls rs : Course) (b l : StrandState) (stamp column : ℕ) → rights_of (in_right t cs b stamp ls l) rs column ≡ rights_of t (fork cs None stamp ls rs) column
rights_ended t cs ls rs b l stamp column =
    let n = length (page t).nodes in
    let hc = rights cs column n in
    let hl = rights ls column (n + size cs + 3) in
    let hr = rights rs column (n + size cs + 3 + size ls) in
    let p : length (page (in_left t cs b None stamp)).nodes ≡ n + size cs + 3 = many_inline t cs b stamp in
    let q : length (page (in_right t cs b stamp ls l)).nodes ≡ n + size cs + 3 + size ls = omega (arith, p, behind_many (forked_page (page t) cs None stamp) ls) in
    ap (λ (k : ℕ). (rights_to t column ++ (hc ++ rights ls column k)) ++ rights rs column (length (page (in_right t cs b stamp ls l)).nodes)) p
    ∙ ap (λ (k : ℕ). (rights_to t column ++ (hc ++ hl)) ++ rights rs column k) q
    ∙ append_assoc (rights_to t column) (hc ++ hl) hr
    ∙ ap (λ us. rights_to t column ++ us) (append_assoc hc hl hr)

-- ## What is on top

module _ {T J : Type 0} (job : Job) (of : T → Token) where
  pub record InlineTop (lowest a : Start) (t : Trail StrandState) (os : List Open) (right : InBlocks) (rest : List (Below T J)) : Type 0 where
    pub outer : Trail StrandState
    pub behind : Course
    pub at : StrandState
    pub stamp : ℕ
    pub others : List Open
    pub trail : t ≡ in_left outer behind at None stamp
    pub forks : os ≡ opened (First (length (nodes_of outer behind) + 2)) a outer ∷ others
    pub right_there : right ≡ goes_in job ((strands_of_job job).right at) (map one_fork_more (begins_in outer a.begins))
    pub under : AreWaitingBelow job of lowest a outer others rest

  inline_top : {lowest a : Start} {t : Trail StrandState} {os : List Open} {right : InBlocks} {rest : List (Below T J)} → IsOutside t → AreWaitingBelow job of lowest a t os (below.Inline right ∷ rest)
      → InlineTop lowest a t os right rest
  inline_top o (waiting.block h) = absurd o
  inline_top o (waiting.first {t = u} {os = os} {cs = cs} {b = b} {stamp = stamp} e h) = record { outer = u; behind = cs; at = b; stamp = stamp; others = os; trail = refl; forks = refl; right_there = e; under = h }

  pub record SecondTop (lowest a : Start) (t : Trail StrandState) (os : List Open) (left : InBlocks) (rest : List (Below T J)) : Type 0 where
    pub outer : Trail StrandState
    pub behind : Course
    pub at : StrandState
    pub stamp : ℕ
    pub before : Course
    pub there : StrandState
    pub others : List Open
    pub trail : t ≡ in_right outer behind at stamp before there
    pub forks : os ≡ opened Second a outer ∷ others
    pub left_there : left.state ≡ there
    pub under : AreWaitingBelow job of lowest a outer others rest

  second_top : {lowest a : Start} {t : Trail StrandState} {os : List Open} {left : InBlocks} {rest : List (Below T J)} → IsOutside t → AreWaitingBelow job of lowest a t os (below.Second left ∷ rest)
      → SecondTop lowest a t os left rest
  second_top o (waiting.block h) = absurd o
  second_top o (waiting.second {t = u} {os = os} {cs = cs} {ls = ls} {b = b} {l = l} {stamp = stamp} e h) =
      record { outer = u; behind = cs; at = b; stamp = stamp; before = ls; there = l; others = os; trail = refl; forks = refl; left_there = e; under = h }

  pub inline_of : (x : Token) (body : InBlocks) (how : Mode) (bs : List (Below T J)) (b : Base T J) (right : InBlocks) (f : Finished job of x body how (bs ++ below.Inline right ∷ []) b)
      → InlineTop f.lowest f.start f.trail x.forks right (reverse bs)
  inline_of x body how bs b right f = inline_top f.leaves.outside (top_first job of bs (below.Inline right) f.below)

  pub second_of : (x : Token) (body : InBlocks) (how : Mode) (bs : List (Below T J)) (b : Base T J) (left : InBlocks) (f : Finished job of x body how (bs ++ below.Second left ∷ []) b)
      → SecondTop f.lowest f.start f.trail x.forks left (reverse bs)
  second_of x body how bs b left f = second_top f.leaves.outside (top_first job of bs (below.Second left) f.below)

-- ## Tokens

-- in the right strand of an inline fork
abbrev pub in_second : Token → Start → Trail StrandState → Course → List Open → Token
in_second x a t cs os = let n = length (nodes_of t cs) + 2 in record x { strand = n; place = n; around = stamps_in t a.above; forks = opened Second a t ∷ os }

-- behind it
abbrev pub behind_it : Token → Start → Trail StrandState → List Open → Token
behind_it x a t os = record x { strand = strand_in t; place = place_of t; around = stamps_in t a.above; forks = os }

module _ (job : Job) where
  free_there : (x y : Token) → IsFree job x → (y.around ≡ x.around) → (y.stop ≡ x.stop) → (y.told ≡ x.told) → (logs y ≡ logs x) → IsFree job y
  free_there x y f a s t l = record {
    on = record { stop = s ∙ f.on.stop; told = t ∙ f.on.told; unspent = subst (λ ls. All (λ c. c.attempt ≡ job.limits.aborts → ⊥) (conflicts_in ls)) (sym l) f.on.unspent };
    none = subst (λ ls. All (λ c. Fells y c → ⊥) (conflicts_in ls)) (sym l) (subst (λ (bs : List ℕ). All (λ (c : Conflict). Contains bs c.victim → ⊥) (conflicts_in (logs x))) (sym a) f.none);
  }

  -- ## From the left strand to the right one

  second_fits : (x : Token) (body : InBlocks) (how : Mode) (a : Start) (t : Trail StrandState) (ls : Course) (cs : Course) (b l : StrandState) (stamp : ℕ) (os : List Open) → Leaves job x body how a (in_left t cs b None stamp) ls
      → Fits (in_second x a t cs os) a (in_right t cs b stamp ls l) nothing
  second_fits x body how a t ls cs b l stamp os v = record {
    own = v.own ∙ ap (λ ns. record { column = a.column; from = a.from; fork = a.at; nodes = ns; conflicts = [] }) (sym (step.turned t cs ls b l stamp));
    joined = v.joined ∙ rights_turned t cs ls b l stamp a.column;
    strand = refl;
    place = refl;
    around = refl;
    falling = v.falling;
    fork = v.fork;
    split = v.split;
  }

  behind_fits : (x : Token) (body : InBlocks) (how : Mode) (a : Start) (t : Trail StrandState) (ls : Course) (cs : Course) (b : StrandState) (stamp : ℕ) (os : List Open) → Leaves job x body how a (in_left t cs b None stamp) ls
      → Fits (behind_it x a t os) a t (fork cs None stamp ls nothing)
  behind_fits x body how a t ls cs b stamp os v = record {
    own =
        v.own
        ∙ ap (λ ns. record { column = a.column; from = a.from; fork = a.at; nodes = ns; conflicts = [] }) (sym (step.turned t cs ls b b stamp) ∙ step.joined_inline t cs ls nothing b b stamp);
    joined = v.joined ∙ (rights_turned t cs ls b b stamp a.column ∙ rights_ended t cs ls nothing b b stamp a.column);
    strand = refl;
    place = refl;
    around = refl;
    falling = v.falling;
    fork = v.fork;
    split = v.split;
  }

  right_goes : (x : Token) (body right : InBlocks) (a : Start) (t : Trail StrandState) (ls : Course) (cs : Course) (b : StrandState) (stamp : ℕ) (os : List Open) (s : StandsGoing job x body a (in_left t cs b None stamp) ls)
      → IsTrue (is_over ((strands_of_job job).want s.now)) → x.around ≡ stamps_in t a.above → right ≡ goes_in job ((strands_of_job job).right b) (map one_fork_more (begins_in t a.begins))
      → StandsGoing job (in_second x a t cs os) right a (in_right t cs b stamp ls s.now) nothing
  right_goes x body right a t ls cs b stamp os s over around is = record {
    now = (strands_of_job job).right b;
    stands = move.turns (strands_of_job job) a.state t cs ls b s.now stamp s.stands over;
    there = is;
    free = free_there x (in_second x a t cs os) s.free (sym around) refl refl refl;
    phase = s.phase;
  }

  -- where the left one died
  behind_dies : (run : IsRun job) (to : ℕ) (x : Token) (body right : InBlocks) (a : Start) (t : Trail StrandState) (ls : Course) (cs : Course) (b : StrandState) (stamp : ℕ) (os : List Open) → IsReached (strands_of_job job) a.state
      → StandsDying job to x body a (in_left t cs b None stamp) ls → x.around ≡ stamps_in t a.above → right ≡ goes_in job ((strands_of_job job).right b) (map one_fork_more (begins_in t a.begins))
      → StandsDying job to (behind_it x a t os) (gave_up right) a t (fork cs None stamp ls nothing)
  behind_dies run to x body right a t ls cs b stamp os reached d around is = record {
    stopped = move.parts (strands_of_job job) a.state t cs ls nothing b None stamp d.stopped (there starts);
    program = ap (λ (w : InBlocks). w.program) is;
    stage = refl;
    further = 1;
    begins = ap (λ (w : InBlocks). w.begins) is;
    stays = λ e. start_not_end job run ((strands_of_job job).right b) (reached_fork (strands_of_job job) a.state t cs b None stamp reached d.stopped.leads)
        (sym (ap (λ (w : InBlocks). (strands_of_job job).want w.state) is) ∙ (same_want job (bare_job right.program) right.state ∙ e));
    on = record { stop = d.on.stop; told = d.on.told; unspent = d.on.unspent };
    phase = d.phase;
    around = subst (λ (bs : List ℕ). Contains bs to) around d.around;
    conflict = d.conflict;
    known = d.known;
    victim = d.victim;
    outermost = subst (λ (bs : List ℕ). All (λ (c : Conflict). Contains bs c.victim → to ≤ c.victim) (conflicts_in (logs x))) around d.outermost;
  }

  left_fault : (t : Trail StrandState) (ls cs : Course) (b : StrandState) (stamp column c x : ℕ) (kind : FaultKind)
      → FaultsIn kind c x ls column (strand_in (in_left t cs b None stamp)) (length (page (in_left t cs b None stamp)).nodes) → FaultsIn kind c x (fork cs None stamp ls nothing) column (strand_in t) (length (page t).nodes)
  left_fault t ls cs b stamp column c x kind f =
      inl (subst (λ (n : ℕ). FaultsIn kind c x ls column (n + 1) (length (page t).nodes + size cs + 3)) (many t cs)
      (subst (λ (n : ℕ). FaultsIn kind c x ls column (length (nodes_of t cs) + 1) n) (many_inline t cs b stamp) f))

  behind_stops : (x : Token) (a : Start) (t : Trail StrandState) (ls : Course) (cs : Course) (b : StrandState) (stamp : ℕ) (os : List Open) → StandsStopped job x a (in_left t cs b None stamp) ls
      → StandsStopped job (behind_it x a t os) a t (fork cs None stamp ls nothing)
  behind_stops x a t ls cs b stamp os s = record {
    stopped = move.parts (strands_of_job job) a.state t cs ls nothing b None stamp s.stopped (there starts);
    off = s.off;
    fault = λ y n kind e f. left_fault t ls cs b stamp a.column y.column y.strand kind (s.fault y n kind e f);
  }

module _ (job : Job) where
  -- where the left one did not come to its end
  stands_dead : (run : IsRun job) (how : Mode) (x : Token) (body right : InBlocks) (a : Start) (t : Trail StrandState) (ls : Course) (cs : Course) (b : StrandState) (stamp : ℕ) (os : List Open) → (how ≡ mode.Goes → ⊥)
      → IsReached (strands_of_job job) a.state → Ending job how x body a (in_left t cs b None stamp) ls → right ≡ goes_in job ((strands_of_job job).right b) (map one_fork_more (begins_in t a.begins))
      → StandsBehind job how (behind_it x a t os) right body a t (fork cs None stamp ls nothing)
  stands_dead run mode.Goes x body right a t ls cs b stamp os dead reached d is = absurd (dead refl)
  stands_dead run (mode.Dies to) x body right a t ls cs b stamp os dead reached d is =
      (λ e. goes_not_lost (sym (ap (λ (w : InBlocks). w.stage) is) ∙ e), behind_dies job run to x body right a t ls cs b stamp os reached d.0 d.1 is)
  stands_dead run mode.Stopped x body right a t ls cs b stamp os dead reached d is = behind_stops job x a t ls cs b stamp os d
  stands_dead run mode.Waits x body right a t ls cs b stamp os dead reached d is = absurd d

  dead_done : (how : Mode) (x : Token) (body : InBlocks) (a : Start) (u : Trail StrandState) (cs : Course) (t : Trail StrandState) (ds : Course) (os : List Open) → (how ≡ mode.Goes → ⊥) → Ending job how x body a u cs
      → IsDone (in_second x a t ds os)
  dead_done mode.Goes x body a u cs t ds os dead d = absurd (dead refl)
  dead_done (mode.Dies to) x body a u cs t ds os dead d = inr (refl, λ n e. not_parted n (sym d.0.phase ∙ e))
  dead_done mode.Stopped x body a u cs t ds os dead d = inl d.off
  dead_done mode.Waits x body a u cs t ds os dead d = absurd d

-- what a turn makes of a token with this fork
pub turned_there : (x z : Token) (a : Start) (t : Trail StrandState) (cs : Course) (os : List Open) → x.forks ≡ opened (First (length (nodes_of t cs) + 2)) a t ∷ os → z ≡ turned x → z ≡ in_second x a t cs os
turned_there x z a t cs os e f = f ∙ ap (λ us. turned_by x us) e

pub turned_twice : (x y z : Token) (a : Start) (t : Trail StrandState) (cs : Course) (os : List Open) → y ≡ in_second x a t cs os → z ≡ turned y → z ≡ behind_it x a t os
turned_twice x y z a t cs os e f = f ∙ ap (λ w. turned w) e

module _ {T J : Type 0} (job : Job) (of : T → Token) where
  pub turns_goes : (x z : Token) (how : Mode) (body right : InBlocks) (bs cs : List (Below T J)) (b : Base T J) → how ≡ mode.Goes → IsRunning job of x body how (bs ++ below.Inline right ∷ []) b → MayEnd how x body
      → z ≡ turned x → cs ≡ bs ++ below.Second body ∷ [] → IsRunning job of z right mode.Goes cs b
  turns_goes x z how body right bs cs b is r0 may turned_so pushed_so =
      let f = finished job of x body mode.Goes (bs ++ below.Inline right ∷ []) b (subst (λ (m : Mode). IsRunning job of x body m (bs ++ below.Inline right ∷ []) b) is r0) (subst (λ (m : Mode). MayEnd m x body) is may) in
      let i = inline_of job of x body mode.Goes bs b right f in
      let v = subst (λ (t : Trail StrandState). Leaves job x body mode.Goes f.start t f.course) i.trail f.leaves in
      let (s, over, around) = v.ends in
      subst (λ (us : List (Below T J)). IsRunning job of z right mode.Goes us b) (sym pushed_so)
      (subst (λ (w : Token). IsRunning job of w right mode.Goes (bs ++ below.Second body ∷ []) b) (sym (turned_there x z f.start i.outer i.behind i.others i.forks turned_so)) (record {
        run = f.run;
        lowest = f.lowest;
        based = f.based;
        start = f.start;
        trail = in_right i.outer i.behind i.at i.stamp f.course s.now;
        course = nothing;
        reached = f.reached;
        written = second_fits job x body mode.Goes f.start i.outer f.course i.behind i.at s.now i.stamp i.others v;
        below = top_last job of bs (below.Second body) (waiting.second (ap (λ (w : InBlocks). w.state) s.there) i.under);
        stands = right_goes job x body right f.start i.outer f.course i.behind i.at i.stamp i.others s over around i.right_there;
      }))

  -- where the left one died or was stopped: the strand that forked
  pub turns_behind : (x y z : Token) (how : Mode) (body right : InBlocks) (bs : List (Below T J)) (b : Base T J) → (how ≡ mode.Goes → ⊥) → IsRunning job of x body how (bs ++ below.Inline right ∷ []) b → MayEnd how x body
      → y ≡ turned x → z ≡ turned y → IsBehind job of how z right body bs b
  turns_behind x y z how body right bs b dead r may once twice =
      let f = finished job of x body how (bs ++ below.Inline right ∷ []) b r may in
      let i = inline_of job of x body how bs b right f in
      let v = subst (λ (t : Trail StrandState). Leaves job x body how f.start t f.course) i.trail f.leaves in
      subst (λ (w : Token). IsBehind job of how w right body bs b) (sym (turned_twice x y z f.start i.outer i.behind i.others (turned_there x y f.start i.outer i.behind i.others i.forks once) twice))
      (behind_whole job of how (behind_it x f.start i.outer i.others) right body bs b f.run f.lowest f.based f.start i.outer (fork i.behind None i.stamp f.course nothing) f.reached
      (behind_fits job x body how f.start i.outer f.course i.behind i.at i.stamp i.others v) i.under
      (stands_dead job f.run how x body right f.start i.outer f.course i.behind i.at i.stamp i.others dead f.reached v.ends i.right_there))

  -- ## What the turns ask

  pub turns_inline : (x : Token) (how : Mode) (body right : InBlocks) (bs : List (Below T J)) (b : Base T J) → IsRunning job of x body how (bs ++ below.Inline right ∷ []) b → MayEnd how x body → IsInline x
  turns_inline x how body right bs b r may =
      let f = finished job of x body how (bs ++ below.Inline right ∷ []) b r may in
      let i = inline_of job of x body how bs b right f in
      record { inner = opened (First (length (nodes_of i.outer i.behind) + 2)) f.start i.outer; outer = i.others; there = i.forks; side = refl }

  pub turns_done : (x : Token) (how : Mode) (body : InBlocks) (bs : List (Below T J)) (b : Base T J) → IsRunning job of x body how bs b → MayEnd how x body → IsDone x
  turns_done x how body bs b r may = (finished job of x body how bs b r may).leaves.done

  pub second_inline : (x y : Token) (how : Mode) (body right : InBlocks) (bs : List (Below T J)) (b : Base T J) → IsRunning job of x body how (bs ++ below.Inline right ∷ []) b → MayEnd how x body → y ≡ turned x → IsInline y
  second_inline x y how body right bs b r may e =
      let f = finished job of x body how (bs ++ below.Inline right ∷ []) b r may in
      let i = inline_of job of x body how bs b right f in
      record { inner = opened Second f.start i.outer; outer = i.others; there = ap (λ (w : Token). w.forks) (turned_there x y f.start i.outer i.behind i.others i.forks e); side = refl }

  pub twice_done : (x y : Token) (how : Mode) (body right : InBlocks) (bs : List (Below T J)) (b : Base T J) → (how ≡ mode.Goes → ⊥) → IsRunning job of x body how (bs ++ below.Inline right ∷ []) b → MayEnd how x body
      → y ≡ turned x → IsDone y
  twice_done x y how body right bs b dead r may e =
      let f = finished job of x body how (bs ++ below.Inline right ∷ []) b r may in
      let i = inline_of job of x body how bs b right f in
      subst IsDone (sym (turned_there x y f.start i.outer i.behind i.others i.forks e)) (dead_done job how x body f.start (in_left i.outer i.behind i.at None i.stamp) f.course i.outer i.behind i.others dead
      (subst (λ (t : Trail StrandState). Ending job how x body f.start t f.course) i.trail f.leaves.ends))

-- ## Behind the right strand

-- what a turn makes of a token in the right strand of such a fork
pub second_there : (x z : Token) (a : Start) (t : Trail StrandState) (os : List Open) → x.forks ≡ opened Second a t ∷ os → z ≡ turned x → z ≡ behind_it x a t os
second_there x z a t os e f = f ∙ ap (λ us. turned_by x us) e

module _ (job : Job) where
  forked_fits : (x : Token) (body : InBlocks) (how : Mode) (a : Start) (t : Trail StrandState) (cs ls rs : Course) (b l : StrandState) (stamp : ℕ) (os : List Open) → Leaves job x body how a (in_right t cs b stamp ls l) rs
      → Fits (behind_it x a t os) a t (fork cs None stamp ls rs)
  forked_fits x body how a t cs ls rs b l stamp os v = record {
    own = v.own ∙ ap (λ ns. record { column = a.column; from = a.from; fork = a.at; nodes = ns; conflicts = [] }) (step.joined_inline t cs ls rs b l stamp);
    joined = v.joined ∙ rights_ended t cs ls rs b l stamp a.column;
    strand = refl;
    place = refl;
    around = refl;
    falling = v.falling;
    fork = v.fork;
    split = v.split;
  }

  forked_goes : (x : Token) (body left : InBlocks) (a : Start) (t : Trail StrandState) (cs ls rs : Course) (b l : StrandState) (stamp : ℕ) (os : List Open) (s : StandsGoing job x body a (in_right t cs b stamp ls l) rs)
      → IsTrue (is_over ((strands_of_job job).want s.now)) → x.around ≡ stamps_in t a.above → left.state ≡ l
      → StandsGoing job (behind_it x a t os) (bodies.joined_body (strands_of_job job) body left) a t (fork cs None stamp ls rs)
  forked_goes x body left a t cs ls rs b l stamp os s over around is = record {
    now = (strands_of_job job).joined s.now l;
    stands = move.returns (strands_of_job job) a.state t cs ls rs b l s.now stamp s.stands over;
    there = body_joined job body left (bodies.joined_body (strands_of_job job) body left) s.now l (begins_in t a.begins) s.there is refl;
    free = free_there job x (behind_it x a t os) s.free (sym around) refl refl refl;
    phase = s.phase;
  }

  forked_dies : (to : ℕ) (x : Token) (body : InBlocks) (a : Start) (t : Trail StrandState) (cs ls rs : Course) (b l : StrandState) (stamp : ℕ) (os : List Open) → StandsDying job to x body a (in_right t cs b stamp ls l) rs
      → x.around ≡ stamps_in t a.above → StandsDying job to (behind_it x a t os) (gave_up body) a t (fork cs None stamp ls rs)
  forked_dies to x body a t cs ls rs b l stamp os d around = record {
    stopped = move.parts_right (strands_of_job job) a.state t cs ls rs b l stamp d.stopped;
    program = d.program;
    stage = refl;
    further = d.further + 1;
    begins = d.begins ∙ seen_more d.further (begins_in t a.begins);
    stays = d.stays;
    on = record { stop = d.on.stop; told = d.on.told; unspent = d.on.unspent };
    phase = d.phase;
    around = subst (λ (bs : List ℕ). Contains bs to) around d.around;
    conflict = d.conflict;
    known = d.known;
    victim = d.victim;
    outermost = subst (λ (bs : List ℕ). All (λ (c : Conflict). Contains bs c.victim → to ≤ c.victim) (conflicts_in (logs x))) around d.outermost;
  }

  right_fault : (t : Trail StrandState) (cs ls rs : Course) (b l : StrandState) (stamp column c x : ℕ) (kind : FaultKind)
      → FaultsIn kind c x rs column (strand_in (in_right t cs b stamp ls l)) (length (page (in_right t cs b stamp ls l)).nodes) → FaultsIn kind c x (fork cs None stamp ls rs) column (strand_in t) (length (page t).nodes)
  right_fault t cs ls rs b l stamp column c x kind f =
      let n = length (page t).nodes + size cs in
      let q : length (page (in_right t cs b stamp ls l)).nodes ≡ n + 3 + size ls = omega (arith, many_inline t cs b stamp, behind_many (forked_page (page t) cs None stamp) ls) in
      inr (subst (λ (m : ℕ). FaultsIn kind c x rs column (m + 2) (n + 3 + size ls)) (many t cs)
      (subst (λ (m : ℕ). FaultsIn kind c x rs column (length (nodes_of t cs) + 2) m) q f))

  forked_stops : (x : Token) (a : Start) (t : Trail StrandState) (cs ls rs : Course) (b l : StrandState) (stamp : ℕ) (os : List Open) → StandsStopped job x a (in_right t cs b stamp ls l) rs
      → StandsStopped job (behind_it x a t os) a t (fork cs None stamp ls rs)
  forked_stops x a t cs ls rs b l stamp os s = record {
    stopped = move.parts_right (strands_of_job job) a.state t cs ls rs b l stamp s.stopped;
    off = s.off;
    fault = λ y n kind e f. right_fault t cs ls rs b l stamp a.column y.column y.strand kind (s.fault y n kind e f);
  }

module _ (job : Job) where
  forked_stands : (how : Mode) (x : Token) (body left : InBlocks) (a : Start) (t : Trail StrandState) (cs ls rs : Course) (b l : StrandState) (stamp : ℕ) (os : List Open) → Ending job how x body a (in_right t cs b stamp ls l) rs
      → left.state ≡ l → StandsBehind job how (behind_it x a t os) body left a t (fork cs None stamp ls rs)
  forked_stands mode.Goes x body left a t cs ls rs b l stamp os (d, over, around) is =
      (may_join job body d.now (begins_in t a.begins) d.there over, forked_goes job x body left a t cs ls rs b l stamp os d over around is)
  forked_stands (mode.Dies to) x body left a t cs ls rs b l stamp os (d, around) is =
      (λ e. gave_up_not_lost (sym d.stage ∙ e), forked_dies job to x body a t cs ls rs b l stamp os d around)
  forked_stands mode.Stopped x body left a t cs ls rs b l stamp os d is = forked_stops job x a t cs ls rs b l stamp os d
  forked_stands mode.Waits x body left a t cs ls rs b l stamp os d is = absurd d

pub may_so : (x : Token) (body : InBlocks) {how now : Mode} → how ≡ now → MayEnd how x body → MayEnd now x body
may_so x body e may = subst (λ (m : Mode). MayEnd m x body) e may

module _ {T J : Type 0} (job : Job) (of : T → Token) where
  second_whole : (x : Token) (body : InBlocks) (how : Mode) (bs : List (Below T J)) (b : Base T J) (left : InBlocks) (f : Finished job of x body how (bs ++ below.Second left ∷ []) b)
      → Leaves job x body how f.start (in_right (second_of job of x body how bs b left f).outer (second_of job of x body how bs b left f).behind (second_of job of x body how bs b left f).at
      (second_of job of x body how bs b left f).stamp (second_of job of x body how bs b left f).before (second_of job of x body how bs b left f).there) f.course
  second_whole x body how bs b left f = subst (λ (t : Trail StrandState). Leaves job x body how f.start t f.course) (second_of job of x body how bs b left f).trail f.leaves

  pub runs_so : {x : Token} {body : InBlocks} {how now : Mode} {bs : List (Below T J)} {b : Base T J} → how ≡ now → IsRunning job of x body how bs b → IsRunning job of x body now bs b
  runs_so {x} {body} {how} {now} {bs} {b} e r = subst (λ (m : Mode). IsRunning job of x body m bs b) e r

  pub second_behind : (x z : Token) (how : Mode) (body left : InBlocks) (bs : List (Below T J)) (b : Base T J) → IsRunning job of x body how (bs ++ below.Second left ∷ []) b → MayEnd how x body
      → z ≡ turned x → IsBehind job of how z body left bs b
  second_behind x z how body left bs b r may turned_so =
      let f = finished job of x body how (bs ++ below.Second left ∷ []) b r may in
      let i = second_of job of x body how bs b left f in
      let v = second_whole x body how bs b left f in
      subst (λ (w : Token). IsBehind job of how w body left bs b) (sym (second_there x z f.start i.outer i.others i.forks turned_so))
      (behind_whole job of how (behind_it x f.start i.outer i.others) body left bs b f.run f.lowest f.based f.start i.outer (fork i.behind None i.stamp i.before f.course) f.reached
      (forked_fits job x body how f.start i.outer i.behind i.before f.course i.at i.there i.stamp i.others v) i.under
      (forked_stands job how x body left f.start i.outer i.behind i.before f.course i.at i.there i.stamp i.others v.ends i.left_there))

  pub joins_inline : (x : Token) (how : Mode) (body left : InBlocks) (bs : List (Below T J)) (b : Base T J) → IsRunning job of x body how (bs ++ below.Second left ∷ []) b → MayEnd how x body → IsInline x
  joins_inline x how body left bs b r may =
      let f = finished job of x body how (bs ++ below.Second left ∷ []) b r may in
      let i = second_of job of x body how bs b left f in
      record { inner = opened Second f.start i.outer; outer = i.others; there = i.forks; side = refl }
