-- A strand that forks.
use Rattle.std.proofs.Common.{◌≡◌, ℕ, ◌+◌, List, [], ◌∷◌, ◌++◌, length, map, reverse, refl, ap, sym, ◌∙◌, subst, false, Option, None, Some, append-nil}
use Rattle.std.proofs.lemmas.List.Elements.{All-nil}
use Rattle.cw_strand.specs.declared.want.Want.TheVariants as want
use Rattle.cw_strand.specs.Strands.{Strands}
use Rattle.cw_job.specs.Jobs.{Job}
use Rattle.cw_job.specs.Room.Strands.{StrandState, strands_of_job}
use Rattle.cw_tree.specs.declared.node.Kind.TheVariants.{Strand, Fork}
use Rattle.cw_tree.specs.declared.closed.Halt.TheVariants.{Memory}
use Rattle.cw_tree.specs.Nodes.{fresh_node}
use Rattle.cw_pair.specs.declared.view.Binding.{Binding}
use Rattle.cw_log.specs.declared.log.Log.{Log}
use Rattle.cw_log.specs.declared.token.Open.{Open}
use Rattle.cw_log.specs.declared.token.Side.{Side}
use Rattle.cw_log.specs.declared.token.Side.TheVariants.{Beside, First}
use Rattle.cw_log.specs.declared.token.Token.{Token}
use Rattle.cw_log.specs.Tokens.{Fells, branched, forked, gone_in, halted, right_of, with_nodes}
use Rattle.cw_course.specs.Courses.{Course, nothing}
use Rattle.cw_course.specs.Trails.{Trail, opens, in_left, nodes_of, place_of, strand_in, strands_with}
use Rattle.cw_course.proofs.Trails.Moves as move
use Rattle.cw_course.proofs.Trails.Steps as step
use Rattle.cw_body.specs.Bodies as bodies
use Rattle.cw_body.specs.Bodies.{InBlocks, PendingBegin, one_fork_more}
use Rattle.cw_pool.specs.declared.task.Memo.{Memo}
use Rattle.cw_pool.specs.declared.task.Mode.{Mode}
use Rattle.cw_pool.specs.declared.task.Mode.TheVariants as mode
use Rattle.cw_pool.specs.declared.task.Below.{Below}
use Rattle.cw_pool.specs.declared.task.Below.TheVariants as below
use Rattle.cw_pool.specs.declared.task.Base.{Base}
use Rattle.cw_pool.specs.declared.task.Base.TheVariants as base
use Rattle.cw_pool.specs.Tasks as waiting
use Rattle.cw_pool.specs.Tasks.{Start, Fits, IsFree, IsReached, StandsGoing, IsHalf, AreWaitingBelow, IsRunning, begins_in, stamps_in, rights_of, beside, opened, told_by, goes_in}
use Rattle.cw_pool.proofs.Tasks.Reaching.{reached_now, reached_right}
use Rattle.cw_pool.proofs.Tasks.Going.{top_last}
use Rattle.cw_pool.proofs.Tasks.Stopping.{wants_memory}
use Rattle.cw_pool.proofs.Tasks.Acting.{going}

-- the token in the left strand of a fork with these strands in its log
abbrev pub forked_with : Token → Side → (column : Option ℕ) → (stamp : ℕ) → Token
forked_with x side column stamp =
    let n = length x.own.nodes in gone_in (with_nodes x (x.own.nodes ++ fresh_node x.place Fork stamp ∷ strands_with column n)) side (n + 1)

fits_forked : (x : Token) (a : Start) (t : Trail StrandState) (cs : Course) (b : StrandState) (side : Side) (column : Option ℕ) (stamp : ℕ) → Fits x a t cs
    → Fits (forked_with x side column stamp) a (in_left t cs b column stamp) nothing
fits_forked x a t cs b side column stamp w = record {
  own =
      ap (λ (o : Log). record o { nodes = o.nodes ++ fresh_node x.place Fork stamp ∷ strands_with column (length o.nodes) }) w.own
      ∙ ap (λ (p : ℕ). record { column = a.column; from = a.from; fork = a.at; nodes = nodes_of t cs ++ fresh_node p Fork stamp ∷ strands_with column (length (nodes_of t cs)); conflicts = [] }) w.place
      ∙ ap (λ ns. record { column = a.column; from = a.from; fork = a.at; nodes = ns; conflicts = [] }) (sym (step.forked t cs b column stamp));
  joined = w.joined ∙ sym (append-nil (rights_of t cs a.column));
  strand = ap (λ (o : Log). length o.nodes + 1) w.own;
  place = ap (λ (o : Log). length o.nodes + 1) w.own;
  around = w.around;
  falling = w.falling;
  fork = w.fork;
  split = w.split;
}

-- where the strand that forked stands
fits_opened : (x : Token) (a : Start) (t : Trail StrandState) (cs : Course) (side : Side) → Fits x a t cs → record { side = side; strand = x.strand; place = x.place; around = x.around } ≡ opened side a t
fits_opened x a t cs side w =
    ap (λ (n : ℕ). record { side = side; strand = n; place = x.place; around = x.around }) w.strand
    ∙ ap (λ (n : ℕ). record { side = side; strand = strand_in t; place = n; around = x.around }) w.place
    ∙ ap (λ (bs : List ℕ). record { side = side; strand = strand_in t; place = place_of t; around = bs }) w.around

-- the log of the right strand has one node
fits_right : (x : Token) (a : Start) (t : Trail StrandState) (cs : Course) (s : Strands StrandState) (b : StrandState) (fork column : ℕ) → Fits x a t cs
    → Fits (right_of x fork column) (beside s a t cs b column fork) opens nothing
fits_right x a t cs s b fork column w = record {
  own =
      ap (λ (o : Log). record { column = column; from = o.column; fork = length x.own.nodes; nodes = fresh_node 0 Strand 0 ∷ []; conflicts = [] }) w.own
      ∙ ap (λ (o : Log). record { column = column; from = a.column; fork = length o.nodes; nodes = fresh_node 0 Strand 0 ∷ []; conflicts = [] }) w.own;
  joined = refl;
  strand = refl;
  place = refl;
  around = w.around;
  falling = w.falling;
  fork = refl;
  split = refl;
}

module _ (job : Job) where
  free_forked : (x : Token) (side : Side) (column : Option ℕ) (stamp : ℕ) → IsFree job x → IsFree job (forked_with x side column stamp)
  free_forked x side column stamp f = record { on = record { stop = f.on.stop; told = f.on.told; unspent = f.on.unspent }; none = f.none }

  free_right : (x : Token) (fork column : ℕ) → IsFree job (right_of x fork column)
  free_right x fork column = record {
    on = record { stop = refl; told = refl; unspent = All-nil (λ c. c.attempt ≡ job.limits.aborts → ⊥) };
    none = All-nil (λ c. Fells (right_of x fork column) c → ⊥);
  }

  wants_here : (x : Token) (body : InBlocks) (a : Start) (t : Trail StrandState) (cs : Course) (s : StandsGoing job x body a t cs) → (strands_of_job job).want body.state ≡ want.Fork → (strands_of_job job).want s.now ≡ want.Fork
  wants_here x body a t cs s e = sym (ap (λ (w : InBlocks). (strands_of_job job).want w.state) s.there) ∙ e

  goes_left : (x : Token) (body left : InBlocks) (a : Start) (t : Trail StrandState) (cs : Course) (side : Side) (column : Option ℕ) (stamp : ℕ) (s : StandsGoing job x body a t cs)
      → (strands_of_job job).want body.state ≡ want.Fork → left ≡ bodies.left_of (strands_of_job job) body
      → StandsGoing job (forked_with x side column stamp) left a (in_left t cs s.now column stamp) nothing
  goes_left x body left a t cs side column stamp s e is = record {
    now = (strands_of_job job).left s.now;
    stands = move.forks (strands_of_job job) a.state t cs s.now column stamp s.stands (wants_here x body a t cs s e);
    there = is ∙ ap (λ (w : InBlocks). bodies.left_of (strands_of_job job) w) s.there;
    free = free_forked x side column stamp s.free;
    phase = s.phase;
  }

  right_there : (x : Token) (body right : InBlocks) (a : Start) (t : Trail StrandState) (cs : Course) (s : StandsGoing job x body a t cs) → right ≡ bodies.right_of (strands_of_job job) body
      → right ≡ goes_in job ((strands_of_job job).right s.now) (map one_fork_more (begins_in t a.begins))
  right_there x body right a t cs s is = is ∙ ap (λ (w : InBlocks). bodies.right_of (strands_of_job job) w) s.there

module _ {T : Type 0} (job : Job) (of : T → Token) where
  -- what a memo says of the right strand is where that begins
  half_tells : (half : Binding (Memo T)) (m : Memo T) (x : Token) (body : InBlocks) (a : Start) (t : Trail StrandState) (cs : Course) (fork column : ℕ) (s : StandsGoing job x body a t cs) → Fits x a t cs
      → half.of ≡ Some m → m.before.value ≡ body → of m.right.value ≡ right_of x fork column → IsHalf job of half (beside (strands_of_job job) a t cs s.now column fork)
  half_tells half m x body a t cs fork column s w is before right =
      let st = strands_of_job job in
      let tells : InBlocks → Token → Start = λ b y. record {
        state = st.right b.state;
        begins = map one_fork_more b.begins;
        above = y.around;
        column = y.own.column;
        from = y.own.from;
        at = y.own.fork;
        fork = y.fork;
        split = false;
      } in
      let p = beside st a t cs s.now column fork in (
        m,
        is,
        ap (λ b. tells b (of m.right.value)) (before ∙ s.there) ∙ ap (λ y. tells (goes_in job s.now (begins_in t a.begins)) y) right
            ∙ ap (λ bs. record p { above = bs; from = x.own.column; at = length x.own.nodes }) w.around
            ∙ ap (λ (o : Log). record p { from = o.column; at = length x.own.nodes }) w.own
            ∙ ap (λ (o : Log). record p { at = length o.nodes }) w.own,
      )

module _ {T J : Type 0} (job : Job) (of : T → Token) where
  below_left : (x : Token) (body : InBlocks) (bs : List (Below T J)) (b : Base T J) (r : IsRunning job of x body mode.Goes bs b) (side : Side) (column : Option ℕ) (stamp : ℕ) (e : Below T J)
      → AreWaitingBelow job of r.lowest r.start (in_left r.trail r.course r.stands.now column stamp) (opened side r.start r.trail ∷ x.forks) (e ∷ reverse bs)
      → AreWaitingBelow job of r.lowest r.start (in_left r.trail r.course r.stands.now column stamp) (forked_with x side column stamp).forks (reverse (bs ++ e ∷ []))
  below_left x body bs b r side column stamp e h =
      top_last job of bs e (subst (λ (o : Open). AreWaitingBelow job of r.lowest r.start (in_left r.trail r.course r.stands.now column stamp) (o ∷ x.forks) (e ∷ reverse bs)) (sym (fits_opened x r.start r.trail r.course side r.written)) h)

  goes_on_left : (x : Token) (body left : InBlocks) (bs : List (Below T J)) (b : Base T J) (r : IsRunning job of x body mode.Goes bs b) (side : Side) (column : Option ℕ) (stamp : ℕ) (e : Below T J)
      → (strands_of_job job).want body.state ≡ want.Fork → left ≡ bodies.left_of (strands_of_job job) body
      → AreWaitingBelow job of r.lowest r.start (in_left r.trail r.course r.stands.now column stamp) (opened side r.start r.trail ∷ x.forks) (e ∷ reverse bs)
      → IsRunning job of (forked_with x side column stamp) left mode.Goes (bs ++ e ∷ []) b
  goes_on_left x body left bs b r side column stamp e wants is h = record {
    run = r.run;
    lowest = r.lowest;
    based = r.based;
    start = r.start;
    trail = in_left r.trail r.course r.stands.now column stamp;
    course = nothing;
    reached = r.reached;
    written = fits_forked x r.start r.trail r.course r.stands.now side column stamp r.written;
    below = below_left x body bs b r side column stamp e h;
    stands = goes_left job x body left r.start r.trail r.course side column stamp r.stands wants is;
  }

  -- a fork that has one token
  pub inline_so : (x z : Token) (how : Mode) (body left right : InBlocks) (bs : List (Below T J)) (b : Base T J) (stamp : ℕ) → how ≡ mode.Goes → IsRunning job of x body how bs b
      → (strands_of_job job).want body.state ≡ want.Fork → left ≡ bodies.left_of (strands_of_job job) body → right ≡ bodies.right_of (strands_of_job job) body → z ≡ branched x stamp
      → IsRunning job of z left mode.Goes (bs ++ below.Inline right ∷ []) b
  inline_so x z how body left right bs b stamp is r0 wants l_is r_is branched_so =
      let r = going job of is r0 in
      let n : length x.own.nodes ≡ length (nodes_of r.trail r.course) = ap (λ (o : Log). length o.nodes) r.written.own in
      subst (λ (w : Token). IsRunning job of w left mode.Goes (bs ++ below.Inline right ∷ []) b) (sym branched_so)
      (goes_on_left x body left bs b r (First (length x.own.nodes + 2)) None stamp (below.Inline right) wants l_is
      (subst (λ (k : ℕ). AreWaitingBelow job of r.lowest r.start (in_left r.trail r.course r.stands.now None stamp) (opened (First (k + 2)) r.start r.trail ∷ x.forks) (below.Inline right ∷ reverse bs)) (sym n)
      (waiting.first (right_there job x body right r.start r.trail r.course r.stands r_is) r.below)))

  -- the left strand of one that has two
  pub left_so : (x z : Token) (how : Mode) (body left : InBlocks) (bs : List (Below T J)) (b : Base T J) (half : Binding (Memo T)) (m : Memo T) (stamp fork column : ℕ) → how ≡ mode.Goes
      → IsRunning job of x body how bs b → (strands_of_job job).want body.state ≡ want.Fork → left ≡ bodies.left_of (strands_of_job job) body → z ≡ forked x stamp fork
      → half.of ≡ Some m → m.before.value ≡ body → of m.right.value ≡ right_of x fork column → IsRunning job of z left mode.Goes (bs ++ below.Left fork half ∷ []) b
  left_so x z how body left bs b half m stamp fork column is r0 wants l_is forked_so h before right =
      let r = going job of is r0 in
      subst (λ (w : Token). IsRunning job of w left mode.Goes (bs ++ below.Left fork half ∷ []) b) (sym forked_so)
      (goes_on_left x body left bs b r (Beside fork) (Some column) stamp (below.Left fork half) wants l_is
      (waiting.left (half_tells job of half m x body r.start r.trail r.course fork column r.stands r.written h before right) r.below))

  -- and its right one, which waits
  pub right_so : (x y : Token) (how : Mode) (body right : InBlocks) (bs : List (Below T J)) (b : Base T J) (half : Binding (Memo T)) (m : Memo T) (fork column : ℕ) → how ≡ mode.Goes
      → IsRunning job of x body how bs b → (strands_of_job job).want body.state ≡ want.Fork → right ≡ bodies.right_of (strands_of_job job) body → y ≡ right_of x fork column
      → half.of ≡ Some m → m.before.value ≡ body → of m.right.value ≡ right_of x fork column → IsRunning {T = T} {J = J} job of y right mode.Waits [] (base.Right fork half)
  right_so x y how body right bs b half m fork column is r0 wants r_is right_is h before told =
      let r = going job of is r0 in
      let s = r.stands in
      let a = beside (strands_of_job job) r.start r.trail r.course s.now column fork in
      subst (λ (w : Token). IsRunning {T = T} {J = J} job of w right mode.Waits [] (base.Right fork half)) (sym right_is) (record {
        run = r.run;
        lowest = a;
        based = (half_tells job of half m x body r.start r.trail r.course fork column s r.written h before told, refl, refl);
        start = a;
        trail = opens;
        course = nothing;
        reached = reached_right (strands_of_job job) r.trail s.now (reached_now (strands_of_job job) r.start.state r.trail r.course s.now r.reached s.stands) (wants_here job x body r.start r.trail r.course s wants);
        written = fits_right x r.start r.trail r.course (strands_of_job job) s.now fork column r.written;
        below = waiting.bottom;
        stands = record { trail = refl; course = refl; there = right_there job x body right r.start r.trail r.course s r_is; free = free_right job x fork column; phase = refl };
      })

  -- or want of memory
  pub forks_not : (x y z : Token) (how : Mode) (body next : InBlocks) (bs : List (Below T J)) (b : Base T J) → IsRunning job of x body how bs b → y ≡ x → z ≡ halted y Memory
      → IsRunning job of z next mode.Stopped bs b
  forks_not x y z how body next bs b r e halted_so = wants_memory job of x z how body next bs b r (halted_so ∙ ap (λ w. halted w Memory) e)
