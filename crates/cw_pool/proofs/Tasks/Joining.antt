-- What the two strands of a fork leave that has two tokens, however each of them ended, and the strand that forked behind them.
use Rattle.std.proofs.Common.{◌≡◌, ℕ, zero, suc, ◌+◌, min, Bool, List, [], ◌∷◌, ◌++◌, length, map, refl, ap, sym, ◌∙◌, subst, arith, true, false, inl, inr, Option, None, Some, append_assoc}
use Rattle.std.specs.Prelude.{IsTrue, ◌≤◌, ◌||◌, ◌⊎◌, if◌then◌else◌}
use Rattle.std.specs.List.{All, Contains}
use Rattle.std.proofs.lemmas.List.{map-append}
use Rattle.std.proofs.lemmas.List.Elements.{All-append, All-weaker, Contains-append_left, Contains-append_right}
use Rattle.cw_code.specs.declared.FaultKind.{FaultKind}
use Rattle.cw_strand.specs.declared.want.Want.{Want}
use Rattle.cw_strand.specs.declared.want.Want.TheVariants as want
use Rattle.cw_strand.specs.Strands.{is_over}
use Rattle.cw_job.specs.Jobs.{Job, bare_job}
use Rattle.cw_job.specs.Room.Strands.{StrandState, strands_of_job}
use Rattle.cw_job.proofs.Room.Wants.{same_want}
use Rattle.cw_tree.specs.declared.conflict.Conflict.{Conflict}
use Rattle.cw_log.specs.declared.log.Log.{Log}
use Rattle.cw_log.specs.declared.token.Stop.{Stop}
use Rattle.cw_log.specs.declared.token.Open.{Open}
use Rattle.cw_log.specs.declared.token.Phase.{Phase}
use Rattle.cw_log.specs.declared.token.Phase.TheVariants.{Going, Parted}
use Rattle.cw_log.specs.declared.token.Side.TheVariants.{Beside}
use Rattle.cw_log.specs.declared.token.Token.{Token}
use Rattle.cw_log.specs.Tokens.{IsOff, IsOn, conflicts_in, kept_stop, left_behind, logs, taken_in}
use Rattle.cw_course.specs.Courses.{Course, Goes, fork, own_log, rights, size}
use Rattle.cw_course.specs.Closings.{FaultsIn, bare_log}
use Rattle.cw_course.specs.Trails.{Trail, opens, in_left, Stands, Stopped, page, nodes_of, place_of, strand_in}
use Rattle.cw_course.proofs.Trails.Moves as move
use Rattle.cw_course.proofs.Trails.Steps as step
use Rattle.cw_body.specs.declared.stage.Stage.TheVariants as stage
use Rattle.cw_body.specs.Bodies as bodies
use Rattle.cw_body.specs.Bodies.{InBlocks, PendingBegin, gave_up, want_of}
use Rattle.cw_pool.specs.declared.task.Mode.{Mode}
use Rattle.cw_pool.specs.declared.task.Mode.TheVariants as mode
use Rattle.cw_pool.specs.Ends.{MayJoin, mode_of_both, dies_beside}
use Rattle.cw_pool.specs.Tasks.{Start, IsRun, IsFree, IsReached, Fits, AreFalling, HasFault, StandsGoing, StandsDying, StandsStopped, StandsWaiting, begins_in, stamps_in, seen_in, rights_to, rights_of, beside, opened, goes_in}
use Rattle.cw_pool.proofs.Tasks.Reaching.{start_not_end}
use Rattle.cw_pool.proofs.Tasks.Pages.{many, many_in_left}
use Rattle.cw_pool.proofs.Tasks.Stopping.{no_fault, waits_stopped}
use Rattle.cw_pool.proofs.Tasks.Refusing.{seen_here}
use Rattle.cw_pool.proofs.Tasks.Finishing.{Ending, Leaves}
use Rattle.cw_pool.proofs.Tasks.Behind.{StandsBehind, body_joined, gave_up_not_lost, goes_not_lost, may_join, seen_more}

-- ## Both tokens as one

-- both strands are joined, and the strand that forked stands in this phase
abbrev pub as_one : (x y : Token) → Start → Trail StrandState → List Open → Phase → Token
as_one x y a t os p = record x {
  strand = strand_in t;
  place = place_of t;
  around = stamps_in t a.above;
  forks = os;
  joined = x.joined ++ y.own ∷ y.joined;
  phase = p;
  stop = kept_stop x.stop y.stop;
  told = x.told || y.told;
}

-- what was split is to be merged
abbrev pub phase_behind : Token → Phase
phase_behind y = if y.split then Parted y.fork else Going

pub joined_there : (x y z : Token) (a : Start) (t : Trail StrandState) (os : List Open) (n : ℕ) → x.forks ≡ opened (Beside n) a t ∷ os → z ≡ taken_in x y → z ≡ as_one x y a t os (phase_behind y)
joined_there x y z a t os n e f =
    f ∙ ap (λ us. record (left_behind x us) {
      joined = x.joined ++ y.own ∷ y.joined;
      phase = (if y.split then Parted y.fork else Going);
      stop = kept_stop x.stop y.stop;
      told = x.told || y.told;
    }) e

pub goes_unsplit : (y : Token) → y.split ≡ false → phase_behind y ≡ Going
goes_unsplit y e = ap (λ (d : Bool). if d then Parted y.fork else Going) e

pub parted_split : (y : Token) → y.split ≡ true → phase_behind y ≡ Parted y.fork
parted_split y e = ap (λ (d : Bool). if d then Parted y.fork else Going) e

-- the logs of both are those of one course
rights_joined : (t : Trail StrandState) (cs ls rs : Course) (b : StrandState) (column stamp own : ℕ) (xs ys : List Log) (o : Log)
    → xs ≡ rights_of (in_left t cs b (Some column) stamp) ls own → o ≡ own_log rs column own (length (nodes_of t cs)) → ys ≡ rights rs column 1
    → xs ++ o ∷ ys ≡ rights_of t (fork cs (Some column) stamp ls rs) own
rights_joined t cs ls rs b column stamp own xs ys o ex eo ey =
    let n = length (page t).nodes in
    let hc = rights cs own n in
    let hl = rights ls own (n + size cs + 2) in
    let behind = own_log rs column own (n + size cs) ∷ rights rs column 1 in
    ap (λ us. us ++ o ∷ ys) ex
    ∙ ap (λ (w : Log). rights_of (in_left t cs b (Some column) stamp) ls own ++ w ∷ ys) (eo ∙ ap (λ (k : ℕ). own_log rs column own k) (many t cs))
    ∙ ap (λ us. rights_of (in_left t cs b (Some column) stamp) ls own ++ own_log rs column own (n + size cs) ∷ us) ey
    ∙ ap (λ (k : ℕ). ((rights_to t own ++ hc) ++ rights ls own k) ++ behind) (many_in_left t cs b column stamp)
    ∙ ap (λ us. us ++ behind) (append_assoc (rights_to t own) hc hl)
    ∙ append_assoc (rights_to t own) (hc ++ hl) behind
    ∙ ap (λ us. rights_to t own ++ us) (append_assoc hc hl behind)

-- the conflicts of both
conflicts_both : (xs ys : List Log) → conflicts_in (xs ++ ys) ≡ conflicts_in xs ++ conflicts_in ys
conflicts_both [] ys = refl
conflicts_both (l ∷ xs) ys = ap (λ us. l.conflicts ++ us) (conflicts_both xs ys) ∙ sym (append_assoc l.conflicts (conflicts_in xs) (conflicts_in ys))

-- ## What conflicts tell, in these blocks

-- none has one of them for its victim
abbrev pub Spares : Token → List ℕ → Type 0
Spares x around = All (λ (c : Conflict). Contains around c.victim → ⊥) (conflicts_in (logs x))

-- that is the outermost one which is a victim
pub record Falls (to : ℕ) (x : Token) (around : List ℕ) : Type 0 where
  pub there : Contains around to
  pub conflict : Conflict
  pub known : Contains (conflicts_in (logs x)) conflict
  pub victim : conflict.victim ≡ to
  pub outermost : All (λ (c : Conflict). Contains around c.victim → to ≤ c.victim) (conflicts_in (logs x))

abbrev pub Tells : (budget : ℕ) → Mode → Token → List ℕ → Type 0
Tells budget mode.Goes x around = IsOn budget x × Spares x around
Tells budget (mode.Dies to) x around = IsOn budget x × Falls to x around
Tells budget mode.Stopped x around = IsOff x
Tells budget mode.Waits x around = IsOn budget x × Spares x around

at_least : (to : ℕ) (x : Token) (around : List ℕ) → Spares x around → All (λ (c : Conflict). Contains around c.victim → to ≤ c.victim) (conflicts_in (logs x))
at_least to x around h =
    All-weaker (λ (c : Conflict). Contains around c.victim → ⊥) (λ (c : Conflict). Contains around c.victim → to ≤ c.victim) (λ c n i. absurd (n i)) (conflicts_in (logs x)) h

at_least_less : (to from : ℕ) (x : Token) (around : List ℕ) → to ≤ from → All (λ (c : Conflict). Contains around c.victim → from ≤ c.victim) (conflicts_in (logs x))
    → All (λ (c : Conflict). Contains around c.victim → to ≤ c.victim) (conflicts_in (logs x))
at_least_less to from x around l h =
    All-weaker (λ (c : Conflict). Contains around c.victim → from ≤ c.victim) (λ (c : Conflict). Contains around c.victim → to ≤ c.victim) (λ c n i. omega (arith, l, n i)) (conflicts_in (logs x)) h

either : (a b : ℕ) → (a ≤ b) ⊎ (b ≤ a)
either zero b = inl (omega arith)
either (suc a) zero = inr (omega arith)
either (suc a) (suc b) = more (either a b) where
  more : (a ≤ b) ⊎ (b ≤ a) → (suc a ≤ suc b) ⊎ (suc b ≤ suc a)
  more (inl l) = inl (omega (arith, l))
  more (inr l) = inr (omega (arith, l))

kept_left : (o p : Option Stop) → (o ≡ None → ⊥) → kept_stop o p ≡ None → ⊥
kept_left None p n e = n refl
kept_left (Some x) p n e = n e

kept_right : (o p : Option Stop) → (p ≡ None → ⊥) → kept_stop o p ≡ None → ⊥
kept_right None p n e = n e
kept_right (Some x) p n e = some_none x e where
  some_none : (y : Stop) → Some y ≡ None → ⊥
  some_none y f = cc

told_left : (b c : Bool) → b ≡ true → (b || c) ≡ true
told_left b c e = ap (λ d. d || c) e

told_right : (b c : Bool) → c ≡ true → (b || c) ≡ true
told_right true c e = refl
told_right false c e = e

module _ (budget : ℕ) (x y : Token) (a : Start) (t : Trail StrandState) (os : List Open) (p : Phase) where
  abbrev pub one : Token
  one = as_one x y a t os p

  abbrev pub around : List ℕ
  around = stamps_in t a.above

  all_conflicts : (P : Conflict → Type 0) → All P (conflicts_in (logs x)) → All P (conflicts_in (logs y)) → All P (conflicts_in (logs one))
  all_conflicts P h k = subst (All P) (sym (conflicts_both (logs x) (logs y))) (All-append P (conflicts_in (logs x)) (conflicts_in (logs y)) h k)

  known_left : (c : Conflict) → Contains (conflicts_in (logs x)) c → Contains (conflicts_in (logs one)) c
  known_left c h = subst (λ us. Contains us c) (sym (conflicts_both (logs x) (logs y))) (Contains-append_left (conflicts_in (logs x)) (conflicts_in (logs y)) c h)

  known_right : (c : Conflict) → Contains (conflicts_in (logs y)) c → Contains (conflicts_in (logs one)) c
  known_right c h = subst (λ us. Contains us c) (sym (conflicts_both (logs x) (logs y))) (Contains-append_right (conflicts_in (logs x)) (conflicts_in (logs y)) c h)

  on_both : IsOn budget x → IsOn budget y → IsOn budget one
  on_both f h = record {
    stop = ap (λ q. kept_stop q y.stop) f.stop ∙ h.stop;
    told = ap (λ d. d || y.told) f.told ∙ h.told;
    unspent = all_conflicts (λ c. c.attempt ≡ budget → ⊥) f.unspent h.unspent;
  }

  off_left : IsOff x → IsOff one
  off_left (inl n) = inl (kept_left x.stop y.stop n)
  off_left (inr e) = inr (told_left x.told y.told e)

  off_right : IsOff y → IsOff one
  off_right (inl n) = inl (kept_right x.stop y.stop n)
  off_right (inr e) = inr (told_right x.told y.told e)

  falls_left : (to : ℕ) → Falls to x around → All (λ (c : Conflict). Contains around c.victim → to ≤ c.victim) (conflicts_in (logs y)) → Falls to one around
  falls_left to f h = record {
    there = f.there;
    conflict = f.conflict;
    known = known_left f.conflict f.known;
    victim = f.victim;
    outermost = all_conflicts (λ (c : Conflict). Contains around c.victim → to ≤ c.victim) f.outermost h;
  }

  falls_right : (to : ℕ) → All (λ (c : Conflict). Contains around c.victim → to ≤ c.victim) (conflicts_in (logs x)) → Falls to y around → Falls to one around
  falls_right to h f = record {
    there = f.there;
    conflict = f.conflict;
    known = known_right f.conflict f.known;
    victim = f.victim;
    outermost = all_conflicts (λ (c : Conflict). Contains around c.victim → to ≤ c.victim) h f.outermost;
  }

  -- the outer one of two victims falls
  falls_both : (to other : ℕ) → Falls to x around → Falls other y around → Falls (min to other) one around
  falls_both to other f h = by (either to other) where
    by : (to ≤ other) ⊎ (other ≤ to) → Falls (min to other) one around
    by (inl l) =
        let e : to ≡ min to other = omega (arith, l) in
        subst (λ (n : ℕ). Falls n one around) e (falls_left to f (at_least_less to other y around l h.outermost))
    by (inr l) =
        let e : other ≡ min to other = omega (arith, l) in
        subst (λ (n : ℕ). Falls n one around) e (falls_right other (at_least_less other to x around l f.outermost) h)

  tells_beside : (to : ℕ) (n : Mode) → IsOn budget x × Falls to x around → Tells budget n y around → Tells budget (dies_beside to n) one around
  tells_beside to mode.Goes f h = (on_both f.0 h.0, falls_left to f.1 (at_least to y around h.1))
  tells_beside to (mode.Dies other) f h = (on_both f.0 h.0, falls_both to other f.1 h.1)
  tells_beside to mode.Stopped f h = off_right h
  tells_beside to mode.Waits f h = (on_both f.0 h.0, falls_left to f.1 (at_least to y around h.1))

  tells_right : (n : Mode) → IsOn budget x × Spares x around → Tells budget n y around → Tells budget n one around
  tells_right mode.Goes f h = (on_both f.0 h.0, all_conflicts (λ (c : Conflict). Contains around c.victim → ⊥) f.1 h.1)
  tells_right (mode.Dies to) f h = (on_both f.0 h.0, falls_right to (at_least to x around f.1) h.1)
  tells_right mode.Stopped f h = off_right h
  tells_right mode.Waits f h = (on_both f.0 h.0, all_conflicts (λ (c : Conflict). Contains around c.victim → ⊥) f.1 h.1)

  -- what the conflicts of both tell
  pub tells_both : (m n : Mode) → Tells budget m x around → Tells budget n y around → Tells budget (mode_of_both m n) one around
  tells_both mode.Goes n f h = tells_right n f h
  tells_both (mode.Dies to) n f h = tells_beside to n f h
  tells_both mode.Stopped n f h = off_left f
  tells_both mode.Waits n f h = tells_right n f h

-- where that is not stopped, neither is
pub is_on : (budget : ℕ) (how : Mode) (x : Token) (us : List ℕ) → (how ≡ mode.Stopped → ⊥) → Tells budget how x us → IsOn budget x
is_on budget mode.Goes x us n f = f.0
is_on budget (mode.Dies to) x us n f = f.0
is_on budget mode.Stopped x us n f = absurd (n refl)
is_on budget mode.Waits x us n f = f.0

-- ## What one strand leaves

pub goes_on : mode.Goes ≡ mode.Stopped → ⊥
goes_on e = cc

pub dies_on : (to : ℕ) → mode.Dies to ≡ mode.Stopped → ⊥
dies_on to e = cc

end_not_over : IsTrue (is_over want.End) → ⊥
end_not_over o = cc

over_not_end : (w : Want) → IsTrue (is_over w) → w ≡ want.End → ⊥
over_not_end w o e = end_not_over (subst (λ (v : Want). IsTrue (is_over v)) e o)

module _ (job : Job) where
  -- its course breaks off, its conflicts tell so much, and the fault that stopped it is in the course
  pub record Leaving (how : Mode) (x : Token) (a : Start) (t : Trail StrandState) (cs : Course) : Type 0 where
    pub stopped : Stopped (strands_of_job job) a.state t cs
    pub tells : Tells job.limits.aborts how x (stamps_in t a.above)
    pub fault : HasFault x.stop cs a.column (strand_in t) (length (page t).nodes)

  -- a body that may give up, with these begins around it
  pub record GivesUp (body : InBlocks) (bs : List PendingBegin) : Type 0 where
    pub program : body.program ≡ job.program
    pub stage : body.stage ≡ stage.Lost → ⊥
    pub further : ℕ
    pub begins : body.begins ≡ map (seen_in further) bs
    pub stays : want_of body ≡ want.End → ⊥

  -- what the strand that forked needs of its left strand's body, if that came to its end
  abbrev pub LeftBody : Mode → InBlocks → Start → Trail StrandState → Course → Type 0
  LeftBody mode.Goes body a t cs = Stands (strands_of_job job) a.state t cs body.state × IsTrue (is_over ((strands_of_job job).want body.state))
  LeftBody how body a t cs = Unit {0}

  abbrev pub RightBody : Mode → InBlocks → Start → Course → Type 0
  RightBody mode.Goes body a cs = (now : StrandState) × Goes (strands_of_job job) a.state cs now × IsTrue (is_over ((strands_of_job job).want now)) × (body ≡ goes_in job now a.begins)
  RightBody (mode.Dies to) body a cs = GivesUp body a.begins
  RightBody mode.Stopped body a cs = Unit {0}
  RightBody mode.Waits body a cs = GivesUp body a.begins

  gives_up : (body : InBlocks) (now : StrandState) (bs : List PendingBegin) → body ≡ goes_in job now bs → ((strands_of_job job).want now ≡ want.End → ⊥) → GivesUp body bs
  gives_up body now bs e n = record {
    program = ap (λ (w : InBlocks). w.program) e;
    stage = λ f. goes_not_lost (sym (ap (λ (w : InBlocks). w.stage) e) ∙ f);
    further = 0;
    begins = ap (λ (w : InBlocks). w.begins) e ∙ sym (seen_here bs);
    stays = λ f. n (sym (ap (λ (w : InBlocks). (strands_of_job job).want w.state) e) ∙ (same_want job (bare_job body.program) body.state ∙ f));
  }

  over_gives_up : (body : InBlocks) (a : Start) (cs : Course) → RightBody mode.Goes body a cs → GivesUp body a.begins
  over_gives_up body a cs (now, g, over, there) = gives_up body now a.begins there (over_not_end ((strands_of_job job).want now) over)

  -- a strand that may end leaves that
  pub spares_there : (x : Token) (us : List ℕ) → x.around ≡ us → IsFree job x → Spares x us
  spares_there x us e f = subst (λ (bs : List ℕ). All (λ (c : Conflict). Contains bs c.victim → ⊥) (conflicts_in (logs x))) e f.none

  falls_there : (to : ℕ) (x : Token) (body : InBlocks) (a : Start) (t : Trail StrandState) (cs : Course) → StandsDying job to x body a t cs → x.around ≡ stamps_in t a.above → Falls to x (stamps_in t a.above)
  falls_there to x body a t cs d e = record {
    there = subst (λ (bs : List ℕ). Contains bs to) e d.around;
    conflict = d.conflict;
    known = d.known;
    victim = d.victim;
    outermost = subst (λ (bs : List ℕ). All (λ (c : Conflict). Contains bs c.victim → to ≤ c.victim) (conflicts_in (logs x))) e d.outermost;
  }

  pub leaving : (how : Mode) (x : Token) (body : InBlocks) (a : Start) (t : Trail StrandState) (cs : Course) → Ending job how x body a t cs → Leaving how x a t cs
  leaving mode.Goes x body a t cs (d, over, e) =
      record { stopped = move.gives_up (strands_of_job job) a.state t cs d.now d.stands; tells = (d.free.on, spares_there x (stamps_in t a.above) e d.free); fault = no_fault x.stop cs _ _ _ d.free.on.stop }
  leaving (mode.Dies to) x body a t cs (d, e) = record { stopped = d.stopped; tells = (d.on, falls_there to x body a t cs d e); fault = no_fault x.stop cs _ _ _ d.on.stop }
  leaving mode.Stopped x body a t cs d = record { stopped = d.stopped; tells = d.off; fault = d.fault }
  leaving mode.Waits x body a t cs d = absurd d

  pub left_body : (how : Mode) (x : Token) (body : InBlocks) (a : Start) (t : Trail StrandState) (cs : Course) → Ending job how x body a t cs → LeftBody how body a t cs
  left_body mode.Goes x body a t cs (d, over, e) =
      let here : d.now ≡ body.state = sym (ap (λ (v : InBlocks). v.state) d.there) in
      (subst (λ (q : StrandState). Stands (strands_of_job job) a.state t cs q) here d.stands, subst (λ (q : StrandState). IsTrue (is_over ((strands_of_job job).want q))) here over)
  left_body (mode.Dies to) x body a t cs d = tt
  left_body mode.Stopped x body a t cs d = tt
  left_body mode.Waits x body a t cs d = absurd d

  pub right_body : (how : Mode) (y : Token) (body : InBlocks) (a : Start) (cs : Course) → Ending job how y body a opens cs → RightBody how body a cs
  right_body mode.Goes y body a cs (d, over, e) = (d.now, d.stands.goes, over, d.there)
  right_body (mode.Dies to) y body a cs (d, e) =
      record { program = d.program; stage = λ f. gave_up_not_lost (sym d.stage ∙ f); further = d.further; begins = d.begins; stays = d.stays }
  right_body mode.Stopped y body a cs d = tt
  right_body mode.Waits y body a cs d = absurd d

  -- one that was not started leaves its begin
  pub waits_leaving : (y : Token) (body : InBlocks) (a : Start) (t : Trail StrandState) (cs : Course) → StandsWaiting job y body a t cs → y.around ≡ stamps_in t a.above → Leaving mode.Waits y a t cs
  waits_leaving y body a t cs w e = record { stopped = waits_stopped job y body a t cs w; tells = (w.free.on, spares_there y (stamps_in t a.above) e w.free); fault = no_fault y.stop cs _ _ _ w.free.on.stop }

  pub waits_body : IsRun job → (y : Token) (body : InBlocks) (a : Start) (t : Trail StrandState) (cs : Course) → StandsWaiting job y body a t cs → IsReached (strands_of_job job) a.state → GivesUp body a.begins
  waits_body run y body a t cs w reached = gives_up body a.state a.begins w.there (start_not_end job run a.state reached)

  -- ## The strand that forked

  -- what is written of its left strand, and of its right one
  pub record LeftLeaves (how : Mode) (x : Token) (body : InBlocks) (a : Start) (t : Trail StrandState) (cs : Course) : Type 0 where
    pub own : bare_log x.own ≡ record { column = a.column; from = a.from; fork = a.at; nodes = nodes_of t cs; conflicts = [] }
    pub joined : map bare_log x.joined ≡ rights_of t cs a.column
    pub fork : x.fork ≡ a.fork
    pub split : x.split ≡ a.split
    pub falling : AreFalling (stamps_in t a.above)
    pub leaving : Leaving how x a t cs
    pub stands : LeftBody how body a t cs

  pub record RightLeaves (how : Mode) (y : Token) (body : InBlocks) (a : Start) (cs : Course) : Type 0 where
    pub own : bare_log y.own ≡ own_log cs a.column a.from a.at
    pub joined : map bare_log y.joined ≡ rights cs a.column 1
    pub leaving : Leaving how y a opens cs
    pub stands : RightBody how body a cs

  pub left_leaves : (how : Mode) (x : Token) (body : InBlocks) (a : Start) (t : Trail StrandState) (cs : Course) → Leaves job x body how a t cs → LeftLeaves how x body a t cs
  left_leaves how x body a t cs v =
      record { own = v.own; joined = v.joined; fork = v.fork; split = v.split; falling = v.falling; leaving = leaving how x body a t cs v.ends; stands = left_body how x body a t cs v.ends }

  -- whether a fork was split is no part of that
  unsplit_body : (how : Mode) (body : InBlocks) (a : Start) (cs : Course) → RightBody how body a cs → RightBody how body (record a { split = false }) cs
  unsplit_body mode.Goes body a cs h = h
  unsplit_body (mode.Dies to) body a cs h = h
  unsplit_body mode.Stopped body a cs h = h
  unsplit_body mode.Waits body a cs h = h

  pub right_leaves : (how : Mode) (y : Token) (body : InBlocks) (a p : Start) (cs : Course) → Leaves job y body how a opens cs → record a { split = false } ≡ p → RightLeaves how y body p cs
  right_leaves how y body a p cs v e =
      let l = leaving how y body a opens cs v.ends in
      subst (λ (q : Start). RightLeaves how y body q cs) e (record {
        own = v.own;
        joined = v.joined;
        leaving = record { stopped = record { leads = l.stopped.leads; stops = l.stopped.stops }; tells = l.tells; fault = l.fault };
        stands = unsplit_body how body a cs (right_body how y body a cs v.ends);
      })

  -- a fault of either is one of the strand that forked
  left_fault : (t : Trail StrandState) (cs ls rs : Course) (b : StrandState) (right stamp column c x : ℕ) (kind : FaultKind)
      → FaultsIn kind c x ls column (strand_in (in_left t cs b (Some right) stamp)) (length (page (in_left t cs b (Some right) stamp)).nodes)
      → FaultsIn kind c x (fork cs (Some right) stamp ls rs) column (strand_in t) (length (page t).nodes)
  left_fault t cs ls rs b right stamp column c x kind f =
      inl (subst (λ (n : ℕ). FaultsIn kind c x ls column (n + 1) (length (page t).nodes + size cs + 2)) (many t cs)
      (subst (λ (n : ℕ). FaultsIn kind c x ls column (length (nodes_of t cs) + 1) n) (many_in_left t cs b right stamp) f))

  fault_both : (o p : Option Stop) (t : Trail StrandState) (cs ls rs : Course) (b : StrandState) (right stamp column : ℕ)
      → HasFault o ls column (strand_in (in_left t cs b (Some right) stamp)) (length (page (in_left t cs b (Some right) stamp)).nodes) → HasFault p rs right 0 1
      → HasFault (kept_stop o p) (fork cs (Some right) stamp ls rs) column (strand_in t) (length (page t).nodes)
  fault_both None p t cs ls rs b right stamp column f h x y kind e i = inr (h x y kind e i)
  fault_both (Some w) p t cs ls rs b right stamp column f h x y kind e i = left_fault t cs ls rs b right stamp column x.column x.strand kind (f x y kind e i)

  module _ (x y : Token) (left right : InBlocks) (a : Start) (t : Trail StrandState) (cs ls rs : Course) (b : StrandState) (column stamp n : ℕ) (os : List Open) (p : Phase) where
    abbrev pub left_trail : Trail StrandState
    left_trail = in_left t cs b (Some column) stamp

    abbrev pub right_start : Start
    right_start = beside (strands_of_job job) a t cs b column n

    abbrev pub whole : Course
    whole = fork cs (Some column) stamp ls rs

    pub fits_joined : (m k : Mode) → LeftLeaves m x left a left_trail ls → RightLeaves k y right right_start rs → Fits (as_one x y a t os p) a t whole
    fits_joined m k v w = record {
      own = v.own ∙ ap (λ ns. record { column = a.column; from = a.from; fork = a.at; nodes = ns; conflicts = [] }) (step.joined t cs ls rs b column stamp);
      joined = map-append bare_log x.joined (y.own ∷ y.joined) ∙ rights_joined t cs ls rs b column stamp a.column (map bare_log x.joined) (map bare_log y.joined) (bare_log y.own) v.joined w.own w.joined;
      strand = refl;
      place = refl;
      around = refl;
      falling = v.falling;
      fork = v.fork;
      split = v.split;
    }

    parted : (m k : Mode) → Leaving m x a left_trail ls → Leaving k y right_start opens rs → Stopped (strands_of_job job) a.state t whole
    parted m k v w = move.parts (strands_of_job job) a.state t cs ls rs b (Some column) stamp v.stopped w.stopped.stops

    stops_so : (m k : Mode) → Leaving m x a left_trail ls → Leaving k y right_start opens rs → IsOff (as_one x y a t os p) → StandsStopped job (as_one x y a t os p) a t whole
    stops_so m k v w off = record { stopped = parted m k v w; off = off; fault = fault_both x.stop y.stop t cs ls rs b column stamp a.column v.fault w.fault }

    dies_so : (to : ℕ) (m k : Mode) → Leaving m x a left_trail ls → Leaving k y right_start opens rs → GivesUp right right_start.begins → p ≡ Going → Tells job.limits.aborts (mode.Dies to) (as_one x y a t os p) (stamps_in t a.above)
        → (right.stage ≡ stage.Lost → ⊥) × StandsDying job to (as_one x y a t os p) (gave_up right) a t whole
    dies_so to m k v w g phase (on, f) = (
      g.stage,
      record {
        stopped = parted m k v w;
        program = g.program;
        stage = refl;
        further = g.further + 1;
        begins = g.begins ∙ seen_more g.further (begins_in t a.begins);
        stays = g.stays;
        on = on;
        phase = phase;
        around = f.there;
        conflict = f.conflict;
        known = f.known;
        victim = f.victim;
        outermost = f.outermost;
      },
    )

    goes_so : LeftBody mode.Goes left a left_trail ls → RightBody mode.Goes right right_start rs → p ≡ Going → Tells job.limits.aborts mode.Goes (as_one x y a t os p) (stamps_in t a.above)
        → MayJoin job right × StandsGoing job (as_one x y a t os p) (bodies.joined_body (strands_of_job job) right left) a t whole
    goes_so (st, over) (now, g, ended, there) phase (on, none) = (
      may_join job right now (begins_in t a.begins) there ended,
      record {
        now = (strands_of_job job).joined now left.state;
        stands = move.meets (strands_of_job job) a.state t cs ls rs b left.state now column stamp st over g ended;
        there = body_joined job right left (bodies.joined_body (strands_of_job job) right left) now left.state (begins_in t a.begins) there refl refl;
        free = record { on = on; none = none };
        phase = phase;
      },
    )

    -- however both ended, unless the right strand waits beside a left one at its end
    pub stands_joined : (m k : Mode) → ((mode_of_both m k ≡ mode.Stopped → ⊥) → p ≡ Going) → (mode_of_both m k ≡ mode.Waits → ⊥) → (m ≡ mode.Waits → ⊥) → Leaving m x a left_trail ls → Leaving k y right_start opens rs
        → LeftBody m left a left_trail ls → RightBody k right right_start rs → StandsBehind job (mode_of_both m k) (as_one x y a t os p) right left a t whole
    stands_joined m k phase some first v w l r = by m k (tells_both job.limits.aborts x y a t os p m k v.tells w.tells) phase some first v w l r where
      by : (m k : Mode) → Tells job.limits.aborts (mode_of_both m k) (as_one x y a t os p) (stamps_in t a.above) → ((mode_of_both m k ≡ mode.Stopped → ⊥) → p ≡ Going) → (mode_of_both m k ≡ mode.Waits → ⊥) → (m ≡ mode.Waits → ⊥)
          → Leaving m x a left_trail ls → Leaving k y right_start opens rs → LeftBody m left a left_trail ls → RightBody k right right_start rs → StandsBehind job (mode_of_both m k) (as_one x y a t os p) right left a t whole
      by mode.Goes mode.Goes told phase some first v w l r = goes_so l r (phase goes_on) told
      by mode.Goes (mode.Dies to) told phase some first v w l r = dies_so to mode.Goes (mode.Dies to) v w r (phase (dies_on to)) told
      by mode.Goes mode.Stopped told phase some first v w l r = stops_so mode.Goes mode.Stopped v w told
      by mode.Goes mode.Waits told phase some first v w l r = absurd (some refl)
      by (mode.Dies to) mode.Goes told phase some first v w l r = dies_so to (mode.Dies to) mode.Goes v w (over_gives_up right right_start rs r) (phase (dies_on to)) told
      by (mode.Dies to) (mode.Dies other) told phase some first v w l r = dies_so (min to other) (mode.Dies to) (mode.Dies other) v w r (phase (dies_on (min to other))) told
      by (mode.Dies to) mode.Stopped told phase some first v w l r = stops_so (mode.Dies to) mode.Stopped v w told
      by (mode.Dies to) mode.Waits told phase some first v w l r = dies_so to (mode.Dies to) mode.Waits v w r (phase (dies_on to)) told
      by mode.Stopped k told phase some first v w l r = stops_so mode.Stopped k v w told
      by mode.Waits k told phase some first v w l r = absurd (first refl)
