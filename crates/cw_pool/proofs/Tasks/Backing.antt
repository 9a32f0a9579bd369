-- The two tasks of a fork that has two tokens: what stands on top of the left one, and with what the right one began. A right strand that was
-- not started is taken back, after its left one came to its end.
use Rattle.std.proofs.Common.{◌≡◌, ℕ, List, [], ◌∷◌, ◌++◌, reverse, refl, ap, sym, ◌∙◌, subst, false, Some}
use Rattle.std.specs.Prelude.{IsTrue}
use Rattle.cw_strand.specs.Strands.{is_over}
use Rattle.cw_job.specs.Jobs.{Job}
use Rattle.cw_job.specs.Room.Strands.{StrandState, strands_of_job}
use Rattle.cw_pair.specs.declared.view.Binding.{Binding}
use Rattle.cw_log.specs.declared.token.Open.{Open}
use Rattle.cw_log.specs.declared.token.Phase.TheVariants.{Going, Over}
use Rattle.cw_log.specs.declared.token.Side.TheVariants.{Beside}
use Rattle.cw_log.specs.declared.token.Token.{Token}
use Rattle.cw_log.specs.Tokens.{AreOfOneFork, MayTakeBack}
use Rattle.cw_course.specs.Courses.{Course, nothing, starts}
use Rattle.cw_course.specs.Trails.{Trail, opens, in_left, Stands}
use Rattle.cw_body.specs.Bodies.{InBlocks}
use Rattle.cw_pool.specs.declared.task.Memo.{Memo}
use Rattle.cw_pool.specs.declared.task.Mode.{Mode}
use Rattle.cw_pool.specs.declared.task.Mode.TheVariants as mode
use Rattle.cw_pool.specs.declared.task.Below.{Below}
use Rattle.cw_pool.specs.declared.task.Below.TheVariants as below
use Rattle.cw_pool.specs.declared.task.Base.{Base}
use Rattle.cw_pool.specs.declared.task.Base.TheVariants as base
use Rattle.cw_pool.specs.Ends.{MayEnd}
use Rattle.cw_pool.specs.Tasks as waiting
use Rattle.cw_pool.specs.Tasks.{Start, IsFree, IsHalf, IsReached, IsTaken, Fits, StandsGoing, StandsWaiting, AreWaitingBelow, IsRunning, beside, opened, told_by}
use Rattle.cw_pool.proofs.Tasks.Stopping.{one_some}
use Rattle.cw_pool.proofs.Tasks.Finishing.{IsOutside, Finished, at_bottom, goes_outside, outside_there}
use Rattle.cw_pool.proofs.Tasks.Going.{top_first, top_last}
use Rattle.cw_pool.proofs.Tasks.Turning.{may_so, runs_so}

-- the left strand's token is only joined, and the right one goes on
abbrev pub is_over_now : Token → Token
is_over_now x = record x { phase = Over }

abbrev pub goes_now : Token → Token
goes_now y = record y { phase = Going }

fits_over : (x : Token) (a : Start) (t : Trail StrandState) (cs : Course) → Fits x a t cs → Fits (is_over_now x) a t cs
fits_over x a t cs w = record { own = w.own; joined = w.joined; strand = w.strand; place = w.place; around = w.around; falling = w.falling; fork = w.fork; split = w.split }

fits_goes : (x : Token) (a : Start) (t : Trail StrandState) (cs : Course) → Fits x a t cs → Fits (goes_now x) a t cs
fits_goes x a t cs w = record { own = w.own; joined = w.joined; strand = w.strand; place = w.place; around = w.around; falling = w.falling; fork = w.fork; split = w.split }

module _ (job : Job) where
  free_over : (x : Token) → IsFree job x → IsFree job (is_over_now x)
  free_over x f = record { on = record { stop = f.on.stop; told = f.on.told; unspent = f.on.unspent }; none = f.none }

  free_goes : (x : Token) → IsFree job x → IsFree job (goes_now x)
  free_goes x f = record { on = record { stop = f.on.stop; told = f.on.told; unspent = f.on.unspent }; none = f.none }

  -- a right strand that was not started has done nothing
  pub record Unstarted (y : Token) (right : InBlocks) (a : Start) : Type 0 where
    pub reached : IsReached (strands_of_job job) a.state
    pub fits : Fits y a opens nothing
    pub stands : StandsWaiting job y right a opens nothing
    pub none : y.forks ≡ []

  right_goes_on : (y : Token) (right : InBlocks) (a : Start) → Unstarted y right a → StandsGoing job (goes_now y) right a opens nothing
  right_goes_on y right a u = record { now = a.state; stands = record { leads = tt; goes = starts }; there = u.stands.there; free = free_goes y u.stands.free; phase = refl }

module _ {T : Type 0} (job : Job) (of : T → Token) where
  -- both halves tell of one log
  pub one_start : (half theirs : Binding (Memo T)) (a b : Start) → half.of ≡ theirs.of → IsHalf job of half a → IsHalf job of theirs b → a ≡ b
  one_start half theirs a b e (m, is, tells) (k, those, others) = sym tells ∙ ap (λ w. told_by job of w) (one_some m k (sym is ∙ (e ∙ those))) ∙ others

  -- with the split as it is
  unsplit : (a p : Start) → a.split ≡ false → record a { split = false } ≡ p → a ≡ p
  unsplit a p e f = ap (λ d. record a { split = d }) e ∙ f

  -- the left strand, which came to its end
  left_taken : (tok : T) (x : Token) (body : InBlocks) (a : Start) (t outer : Trail StrandState) (cs behind : Course) (b : StrandState) (column stamp : ℕ) → t ≡ in_left outer behind b (Some column) stamp
      → IsReached (strands_of_job job) a.state → Fits x a t cs → (s : StandsGoing job x body a t cs) → IsTrue (is_over ((strands_of_job job).want s.now)) → of tok ≡ is_over_now x
      → IsTaken job of tok body a outer behind cs b column stamp
  left_taken tok x body a t outer cs behind b column stamp e reached w s over is =
      let here : s.now ≡ body.state = sym (ap (λ (v : InBlocks). v.state) s.there) in
      record {
        reached = reached;
        fits = subst (λ (u : Token). Fits u a (in_left outer behind b (Some column) stamp) cs) (sym is) (subst (λ (u : Trail StrandState). Fits (is_over_now x) a u cs) e (fits_over x a t cs w));
        stands = subst (λ (q : StrandState). Stands (strands_of_job job) a.state (in_left outer behind b (Some column) stamp) cs q) here
            (subst (λ (u : Trail StrandState). Stands (strands_of_job job) a.state u cs s.now) e s.stands);
        over = subst (λ (q : StrandState). IsTrue (is_over ((strands_of_job job).want q))) here over;
        free = subst (λ (u : Token). IsFree job u) (sym is) (free_over job x s.free);
        phase = ap (λ (u : Token). u.phase) is;
      }

module _ {T J : Type 0} (job : Job) (of : T → Token) where
  -- ## The left one

  pub record LeftTop (lowest a : Start) (t : Trail StrandState) (os : List Open) (n : ℕ) (half : Binding (Memo T)) (rest : List (Below T J)) : Type 0 where
    pub outer : Trail StrandState
    pub behind : Course
    pub at : StrandState
    pub column : ℕ
    pub stamp : ℕ
    pub others : List Open
    pub trail : t ≡ in_left outer behind at (Some column) stamp
    pub forks : os ≡ opened (Beside n) a outer ∷ others
    pub is_half : IsHalf job of half (beside (strands_of_job job) a outer behind at column n)
    pub under : AreWaitingBelow job of lowest a outer others rest

  left_top : {lowest a : Start} {t : Trail StrandState} {os : List Open} {n : ℕ} {half : Binding (Memo T)} {rest : List (Below T J)} → IsOutside t → AreWaitingBelow job of lowest a t os (below.Left n half ∷ rest)
      → LeftTop lowest a t os n half rest
  left_top o (waiting.block h) = absurd o
  left_top o (waiting.left {t = u} {os = os} {cs = cs} {b = b} {column = column} {stamp = stamp} e h) =
      record { outer = u; behind = cs; at = b; column = column; stamp = stamp; others = os; trail = refl; forks = refl; is_half = e; under = h }

  pub left_of : (x : Token) (left : InBlocks) (how : Mode) (bs : List (Below T J)) (b : Base T J) (n : ℕ) (half : Binding (Memo T)) (f : Finished job of x left how (bs ++ below.Left n half ∷ []) b)
      → LeftTop f.lowest f.start f.trail x.forks n half (reverse bs)
  left_of x left how bs b n half f = left_top f.leaves.outside (top_first job of bs (below.Left n half) f.below)

  -- where the right strand's log begins, by the left task
  abbrev pub right_begins : {lowest a : Start} {t : Trail StrandState} {os : List Open} {n : ℕ} {half : Binding (Memo T)} {rest : List (Below T J)} → LeftTop lowest a t os n half rest → Start
  right_begins {a = a} {n = n} i = beside (strands_of_job job) a i.outer i.behind i.at i.column n

  -- ## The right one, which was not started

  pub unstarted : (y : Token) (right : InBlocks) (g : ℕ) (half theirs : Binding (Memo T)) (p : Start) → IsRunning {T = T} {J = J} job of y right mode.Waits [] (base.Right g theirs) → half.of ≡ theirs.of → IsHalf job of half p
      → Unstarted job y right p
  unstarted y right g half theirs p r same is =
      let (lowest_so, over, none) = at_bottom job of (subst IsOutside (sym r.stands.trail) tt) r.below in
      let e : r.start ≡ p = lowest_so ∙ unsplit job of r.lowest p r.based.2 (sym (one_start job of half theirs p (record r.lowest { split = false }) same is r.based.0)) in
      let fits = subst (λ (t : Trail StrandState). Fits y r.start t nothing) r.stands.trail (subst (λ (cs : Course). Fits y r.start r.trail cs) r.stands.course r.written) in
      let s = r.stands in
      let stands : StandsWaiting job y right r.start opens nothing = record { trail = refl; course = refl; there = s.there; free = s.free; phase = s.phase } in
      record {
        reached = subst (λ (a : Start). IsReached (strands_of_job job) a.state) e r.reached;
        fits = subst (λ (a : Start). Fits y a opens nothing) e fits;
        stands = subst (λ (a : Start). StandsWaiting job y right a opens nothing) e stands;
        none = none;
      }

  -- ## It is taken back

  pub back_goes : (x y z : Token) (tok : T) (how : Mode) (body right : InBlocks) (n g : ℕ) (half theirs : Binding (Memo T)) (bs cs : List (Below T J)) (b : Base T J) → how ≡ mode.Goes
      → IsRunning job of x body how (bs ++ below.Left n half ∷ []) b → MayEnd how x body → IsRunning {T = T} {J = J} job of y right mode.Waits [] (base.Right g theirs) → half.of ≡ theirs.of
      → of tok ≡ is_over_now x → z ≡ goes_now y → cs ≡ bs ++ below.Taken tok body ∷ [] → IsRunning job of z right mode.Goes cs b
  back_goes x y z tok how body right n g half theirs bs cs b is r0 may r2 same over_now goes pushed_so =
      let r = runs_so job of is r0 in
      let (outside, over) = goes_outside job of x body (bs ++ below.Left n half ∷ []) b r (may_so x body is may) in
      let i = left_top outside (top_first job of bs (below.Left n half) r.below) in
      let p = right_begins i in
      let u = unstarted y right g half theirs p r2 same i.is_half in
      subst (λ (us : List (Below T J)). IsRunning job of z right mode.Goes us b) (sym pushed_so)
      (subst (λ (w : Token). IsRunning job of w right mode.Goes (bs ++ below.Taken tok body ∷ []) b) (sym goes) (record {
        run = r.run;
        lowest = r.lowest;
        based = r.based;
        start = p;
        trail = opens;
        course = nothing;
        reached = u.reached;
        written = fits_goes y p opens nothing u.fits;
        below = subst (λ (os : List Open). AreWaitingBelow job of r.lowest p opens os (reverse (bs ++ below.Taken tok body ∷ []))) (sym u.none)
            (top_last job of bs (below.Taken tok body)
            (waiting.taken (left_taken job of tok x body r.start r.trail i.outer r.course i.behind i.at i.column i.stamp i.trail r.reached r.written r.stands over over_now)
            (ap (λ (w : Token). w.forks) over_now ∙ i.forks) refl i.under));
        stands = right_goes_on job y right p u;
      }))

  pub back_fork : (x y : Token) (how : Mode) (body right : InBlocks) (n g : ℕ) (half theirs : Binding (Memo T)) (bs : List (Below T J)) (b : Base T J) → how ≡ mode.Goes
      → IsRunning job of x body how (bs ++ below.Left n half ∷ []) b → MayEnd how x body → IsRunning {T = T} {J = J} job of y right mode.Waits [] (base.Right g theirs) → half.of ≡ theirs.of → AreOfOneFork x y
  back_fork x y how body right n g half theirs bs b is r0 may r2 same =
      let r = runs_so job of is r0 in
      let i = left_top (goes_outside job of x body (bs ++ below.Left n half ∷ []) b r (may_so x body is may)).0 (top_first job of bs (below.Left n half) r.below) in
      let u = unstarted y right g half theirs (right_begins i) r2 same i.is_half in
      record { inner = opened (Beside n) r.start i.outer; outer = i.others; left = i.forks; fork = ap (λ (m : ℕ). Beside m) (sym u.fits.fork); right = u.none }

  pub back_there : (x y : Token) (how : Mode) (body right : InBlocks) (n g : ℕ) (half theirs : Binding (Memo T)) (bs : List (Below T J)) (b : Base T J) → how ≡ mode.Goes
      → IsRunning job of x body how (bs ++ below.Left n half ∷ []) b → MayEnd how x body → IsRunning {T = T} {J = J} job of y right mode.Waits [] (base.Right g theirs) → MayTakeBack x y
  back_there x y how body right n g half theirs bs b is r0 may r2 =
      let r = runs_so job of is r0 in
      (r.stands.phase, r.written.place ∙ outside_there r.trail (goes_outside job of x body (bs ++ below.Left n half ∷ []) b r (may_so x body is may)).0 ∙ sym r.written.strand, r2.stands.phase)

  pub waits_alone : (y : Token) (right : InBlocks) (how : Mode) (g : ℕ) (theirs : Binding (Memo T)) (rest : List (Below T J)) → rest ≡ [] → how ≡ mode.Waits → IsRunning job of y right how rest (base.Right g theirs)
      → IsRunning {T = T} {J = J} job of y right mode.Waits [] (base.Right g theirs)
  waits_alone y right how g theirs rest e w r =
      subst (λ (us : List (Below T J)). IsRunning job of y right mode.Waits us (base.Right g theirs)) e (subst (λ (m : Mode). IsRunning job of y right m rest (base.Right g theirs)) w r)
