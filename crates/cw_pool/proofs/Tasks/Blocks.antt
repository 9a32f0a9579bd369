-- A strand that begins a block, ends it or rolls it back.
use Rattle.std.proofs.Common.{◌≡◌, ℕ, zero, suc, ◌+◌, ◌<◌, List, [], ◌∷◌, ◌++◌, length, drop, map, refl, ap, sym, ◌∙◌, subst, arith, Option, None, Some, append_assoc, append-nil}
use Rattle.std.proofs.lemmas.List.{length-map}
use Rattle.std.specs.Prelude.{◌≤◌, reverse}
use Rattle.std.specs.List.{Contains}
use Rattle.std.proofs.lemmas.List.Elements.{All-weaker, All-contains}
use Rattle.cw_strand.specs.declared.want.Want.TheVariants as want
use Rattle.cw_strand.specs.declared.want.Given.TheVariants.{Nothing}
use Rattle.cw_job.specs.Jobs.{Job}
use Rattle.cw_job.specs.Room.Strands.{StrandState, strands_of_job}
use Rattle.cw_tree.specs.declared.conflict.Conflict.{Conflict}
use Rattle.cw_tree.specs.declared.node.Node.{Node}
use Rattle.cw_tree.specs.declared.node.Kind.TheVariants.{Block}
use Rattle.cw_tree.specs.declared.node.BlockState.{BlockState}
use Rattle.cw_tree.specs.declared.node.BlockState.TheVariants.{Committed, Aborted}
use Rattle.cw_tree.specs.declared.closed.Halt.TheVariants.{Memory}
use Rattle.cw_tree.specs.Nodes.{fresh_node, closed, parent_of}
use Rattle.cw_log.specs.declared.log.Log.{Log}
use Rattle.cw_log.specs.declared.token.Open.{Open}
use Rattle.cw_log.specs.declared.token.Token.{Token}
use Rattle.cw_log.specs.Tokens.{Fells, IsLater, HasBlock, began, ended, halted, conflicts_in, logs}
use Rattle.cw_course.specs.Courses.{Course, nothing, block, rights}
use Rattle.cw_course.specs.Trails.{Trail, opens, in_block, in_left, in_right, page, nodes_of}
use Rattle.cw_course.proofs.Trails.Moves as move
use Rattle.cw_course.proofs.Trails.Steps as step
use Rattle.cw_body.specs.Bodies as bodies
use Rattle.cw_body.specs.Bodies.{InBlocks, PendingBegin, back_to, body_in_block, forgot, went_back, seen_from}
use Rattle.cw_body.specs.declared.stage.Stage.TheVariants as stage
use Rattle.cw_log.proofs.Going.{with_stamp, within_rest}
use Rattle.cw_pool.specs.Blocks.{begin_at}
use Rattle.cw_pool.specs.declared.task.Mode.{Mode}
use Rattle.cw_pool.specs.declared.task.Mode.TheVariants as mode
use Rattle.cw_pool.specs.declared.task.Below.{Below}
use Rattle.cw_pool.specs.declared.task.Base.{Base}
use Rattle.cw_pool.specs.Tasks.{Start, IsRun, IsReached, Fits, IsFree, AreFalling, StandsGoing, StandsDying, IsBase, AreWaitingBelow, IsRunning, begins_in, stamps_in, seen_in, rights_to, rights_of}
use Rattle.cw_pool.specs.Tasks as waiting
use Rattle.cw_pool.proofs.Tasks.Reaching.{blocks_in, reached_now, end_in_block}
use Rattle.cw_pool.proofs.Tasks.Pages.{many_in_block, in_some_block, innermost, begin_found}
use Rattle.cw_pool.proofs.Tasks.Going.{base_goes}
use Rattle.cw_pool.proofs.Tasks.Stopping.{one_some, wants_memory}
use Rattle.cw_pool.proofs.Tasks.Acting.{going}

-- ## Lists of stamps, and their victims

pub falling_rest : (bs : List ℕ) → AreFalling bs → AreFalling (drop 1 bs)
falling_rest [] f = tt
falling_rest (b ∷ bs) f = f.2

behind_less : (b : ℕ) (bs : List ℕ) (v : ℕ) → AreFalling (b ∷ bs) → Contains bs v → v < b
behind_less b bs v (some, f, more) h = All-contains (λ c. c < b) bs v f h

-- another one than the first is behind it
behind_first : (b : ℕ) (bs : List ℕ) (v : ℕ) → (b ≡ v → ⊥) → Contains (b ∷ bs) v → Contains bs v
behind_first b bs v n (zero, r, e) = absurd (n e)
behind_first b bs v n (suc k, r, e) = (k, omega arith, e)

-- ## What is written in the token

fits_began : (x : Token) (a : Start) (t : Trail StrandState) (cs : Course) (b : StrandState) (stamp : ℕ) → Fits x a t cs → IsLater x stamp → Fits (began x stamp) a (in_block t cs b stamp) nothing
fits_began x a t cs b stamp w l = record {
  own =
      ap (λ (o : Log). record o { nodes = o.nodes ++ fresh_node x.place Block stamp ∷ [] }) w.own
      ∙ ap (λ (p : ℕ). record { column = a.column; from = a.from; fork = a.at; nodes = nodes_of t cs ++ fresh_node p Block stamp ∷ []; conflicts = [] }) w.place
      ∙ ap (λ ns. record { column = a.column; from = a.from; fork = a.at; nodes = ns; conflicts = [] }) (sym (step.began t cs b stamp));
  joined = w.joined ∙ sym (append-nil (rights_of t cs a.column));
  strand = w.strand;
  place = ap (λ (o : Log). length o.nodes) w.own;
  around = ap (λ bs. stamp ∷ bs) w.around;
  falling = (l.some, l.around, w.falling);
  fork = w.fork;
  split = w.split;
}

-- the logs that were joined in the block stand behind those before it
pub rights_shut : (t : Trail StrandState) (cs js : Course) (b : StrandState) (stamp end column : ℕ) (state : BlockState)
    → rights_of (in_block t cs b stamp) js column ≡ rights_of t (block cs state stamp end js) column
rights_shut t cs js b stamp end column state =
    let n = length (page t).nodes in
    append_assoc (rights_to t column) (rights cs column n) (rights js column (length (page (in_block t cs b stamp)).nodes))
    ∙ ap (λ (k : ℕ). rights_to t column ++ (rights cs column n ++ rights js column k)) (many_in_block t cs b stamp)

fits_ended : (x : Token) (a : Start) (t : Trail StrandState) (cs js : Course) (b : StrandState) (stamp end : ℕ) (state : BlockState) → Fits x a (in_block t cs b stamp) js
    → Fits (ended x state end) a t (block cs state stamp end js)
fits_ended x a t cs js b stamp end state w =
    let u = in_block t cs b stamp in
    record {
      own =
          ap (λ (o : Log). record o { nodes = closed o.nodes x.place state end }) w.own
          ∙ ap (λ (p : ℕ). record { column = a.column; from = a.from; fork = a.at; nodes = closed (nodes_of u js) p state end; conflicts = [] }) w.place
          ∙ ap (λ ns. record { column = a.column; from = a.from; fork = a.at; nodes = ns; conflicts = [] }) (step.shut t cs js b stamp state end);
      joined = w.joined ∙ rights_shut t cs js b stamp end a.column state;
      strand = w.strand;
      place = ap (λ (o : Log). parent_of o.nodes x.place) w.own ∙ ap (λ (p : ℕ). parent_of (nodes_of u js) p) w.place ∙ step.above_it t cs js b stamp;
      around = ap (λ bs. drop 1 bs) w.around;
      falling = falling_rest x.around w.falling;
      fork = w.fork;
      split = w.split;
    }

module _ (job : Job) where
  free_began : (x : Token) (stamp : ℕ) → IsFree job x → IsLater x stamp → IsFree job (began x stamp)
  free_began x stamp f l = record {
    on = record { stop = f.on.stop; told = f.on.told; unspent = f.on.unspent };
    none = with_stamp stamp x.around (conflicts_in (logs x)) f.none l.victims;
  }

  free_ended : (x : Token) (state : BlockState) (end : ℕ) → IsFree job x → IsFree job (ended x state end)
  free_ended x state end f = record {
    on = record { stop = f.on.stop; told = f.on.told; unspent = f.on.unspent };
    none = All-weaker (λ c. Fells x c → ⊥) (λ (c : Conflict). Contains (drop 1 x.around) c.victim → ⊥) (λ c n h. n (within_rest x.around c.victim h)) (conflicts_in (logs x)) f.none;
  }

  -- ## How it stands

  goes_begun : (x : Token) (body : InBlocks) (a : Start) (t : Trail StrandState) (cs : Course) (stamp : ℕ) (s : StandsGoing job x body a t cs) → (strands_of_job job).want body.state ≡ want.Begin → IsLater x stamp
      → StandsGoing job (began x stamp) (body_in_block (strands_of_job job) body) a (in_block t cs s.now stamp) nothing
  goes_begun x body a t cs stamp s e l = record {
    now = (strands_of_job job).answer s.now Nothing;
    stands = move.begins (strands_of_job job) a.state t cs s.now stamp s.stands (sym (ap (λ (w : InBlocks). (strands_of_job job).want w.state) s.there) ∙ e);
    there = ap (λ (w : InBlocks). body_in_block (strands_of_job job) w) s.there;
    free = free_began x stamp s.free l;
    phase = s.phase;
  }

  goes_ended : (x : Token) (body : InBlocks) (a : Start) (t : Trail StrandState) (cs js : Course) (b : StrandState) (stamp end : ℕ) (s : StandsGoing job x body a (in_block t cs b stamp) js)
      → (strands_of_job job).want body.state ≡ want.End → StandsGoing job (ended x Committed end) (bodies.body_behind_block (strands_of_job job) body) a t (block cs Committed stamp end js)
  goes_ended x body a t cs js b stamp end s e = record {
    now = (strands_of_job job).answer s.now Nothing;
    stands = move.ends (strands_of_job job) a.state t cs js b s.now stamp end s.stands (sym (ap (λ (w : InBlocks). (strands_of_job job).want w.state) s.there) ∙ e);
    there = ap (λ (w : InBlocks). bodies.body_behind_block (strands_of_job job) w) s.there;
    free = free_ended x Committed end s.free;
    phase = s.phase;
  }

  pub in_found_none : (x : Token) (a : Start) (t : Trail StrandState) (cs : Course) → Fits x a t cs → begin_at x.own.nodes x.place ≡ None → innermost t ≡ None
  in_found_none x a t cs w e =
      sym (ap (λ (o : Log). begin_at o.nodes x.place) w.own ∙ ap (λ (p : ℕ). begin_at (nodes_of t cs) p) w.place ∙ begin_found t cs) ∙ e

none_some : {A : Type 0} → (x : A) → None ≡ Some x → ⊥
none_some x e = cc

module _ (job : Job) where
  pub place_in_block : (x : Token) (a : Start) (t : Trail StrandState) (js : Course) → Fits x a t js → (blocks_in (strands_of_job job) t ≡ 0 → ⊥) → HasBlock x
  place_in_block x a (in_block t cs c stamp) js w some e = in_some_block t cs c stamp (sym w.place ∙ e ∙ w.strand)
  place_in_block x a opens js w some e = absurd (some refl)
  place_in_block x a (in_left t cs c column stamp) js w some e = absurd (some refl)
  place_in_block x a (in_right t cs c stamp ls l) js w some e = absurd (some refl)

  some_begins : (t : Trail StrandState) (bs : List PendingBegin) → (blocks_in (strands_of_job job) t ≡ 0 → ⊥) → 0 < length (begins_in t bs)
  some_begins (in_block t cs c stamp) bs some = omega arith
  some_begins opens bs some = absurd (some refl)
  some_begins (in_left t cs c column stamp) bs some = absurd (some refl)
  some_begins (in_right t cs c stamp ls l) bs some = absurd (some refl)

  some_open : (t : Trail StrandState) (begin : ℕ) → innermost t ≡ Some begin → blocks_in (strands_of_job job) t ≡ 0 → ⊥
  some_open (in_block t cs c stamp) begin e z = absurd (omega (arith, z))
  some_open opens begin e z = none_some begin e
  some_open (in_left t cs c column stamp) begin e z = none_some begin e
  some_open (in_right t cs c stamp ls l) begin e z = none_some begin e

some_kept : (k : ℕ) (ps qs : List PendingBegin) → qs ≡ map (seen_in k) ps → 0 < length ps → 0 < length qs
some_kept k ps qs e l = omega (arith, ap (λ (us : List PendingBegin). length us) e, length-map ps (seen_in k), l)

pub unblock : {T J : Type 0} {job : Job} {of : T → Token} {lowest a : Start} {t : Trail StrandState} {cs : Course} {b : StrandState} {stamp : ℕ} {os : List Open} {bs : List (Below T J)}
    → AreWaitingBelow job of lowest a (in_block t cs b stamp) os bs → AreWaitingBelow job of lowest a t os bs
unblock (waiting.block h) = h

module _ {T J : Type 0} (job : Job) (of : T → Token) where
  pub begins_so : (x z : Token) (how : Mode) (body next : InBlocks) (bs : List (Below T J)) (b : Base T J) (stamp : ℕ) → how ≡ mode.Goes → IsRunning job of x body how bs b
      → (strands_of_job job).want body.state ≡ want.Begin → IsLater x stamp → z ≡ began x stamp → next ≡ body_in_block (strands_of_job job) body → IsRunning job of z next how bs b
  begins_so x z how body next bs b stamp is r0 e l began_so next_so =
      let r = going job of is r0 in
      let s = r.stands in
      subst (λ (m : Mode). IsRunning job of z next m bs b) (sym is)
      (subst (λ (w : InBlocks). IsRunning job of z w mode.Goes bs b) (sym next_so)
      (subst (λ (w : Token). IsRunning job of w (body_in_block (strands_of_job job) body) mode.Goes bs b) (sym began_so) (record {
        run = r.run;
        lowest = r.lowest;
        based = r.based;
        start = r.start;
        trail = in_block r.trail r.course s.now stamp;
        course = nothing;
        reached = r.reached;
        written = fits_began x r.start r.trail r.course s.now stamp r.written l;
        below = waiting.block r.below;
        stands = goes_begun job x body r.start r.trail r.course stamp s e l;
      })))

  pub begins_last : (x z u : Token) (how : Mode) (body next : InBlocks) (bs : List (Below T J)) (b : Base T J) (stamp : ℕ) → how ≡ mode.Goes → IsRunning job of x body how bs b
      → (strands_of_job job).want body.state ≡ want.Begin → IsLater x stamp → z ≡ began x stamp → u ≡ halted z Memory → IsRunning job of u next mode.Stopped bs b
  begins_last x z u how body next bs b stamp is r0 e l began_so halted_so =
      let r = begins_so x z how body (body_in_block (strands_of_job job) body) bs b stamp is r0 e l began_so refl in
      wants_memory job of z u how (body_in_block (strands_of_job job) body) next bs b r halted_so

  -- where a block of its own is pending
  ended_here : (x : Token) (body : InBlocks) (bs : List (Below T J)) (b : Base T J) (end : ℕ) (run : IsRun job) (lowest : Start) (based : IsBase job of b mode.Goes lowest) (a : Start)
      (t : Trail StrandState) (js : Course) → IsReached (strands_of_job job) a.state → Fits x a t js → AreWaitingBelow job of lowest a t x.forks (reverse bs) → StandsGoing job x body a t js
      → (strands_of_job job).want body.state ≡ want.End → (blocks_in (strands_of_job job) t ≡ 0 → ⊥) → IsRunning job of (ended x Committed end) (bodies.body_behind_block (strands_of_job job) body) mode.Goes bs b
  ended_here x body bs b end run lowest based a (in_block t cs c stamp) js reached w below s e some = record {
    run = run;
    lowest = lowest;
    based = based;
    start = a;
    trail = t;
    course = block cs Committed stamp end js;
    reached = reached;
    written = fits_ended x a t cs js c stamp end Committed w;
    below = unblock below;
    stands = goes_ended job x body a t cs js c stamp end s e;
  }
  ended_here x body bs b end run lowest based a opens js reached w below s e some = absurd (some refl)
  ended_here x body bs b end run lowest based a (in_left t cs c column stamp) js reached w below s e some = absurd (some refl)
  ended_here x body bs b end run lowest based a (in_right t cs c stamp ls l) js reached w below s e some = absurd (some refl)

  -- a strand that wants an end is in a block of its own
  in_own_block : (x : Token) (body : InBlocks) (bs : List (Below T J)) (b : Base T J) (r : IsRunning job of x body mode.Goes bs b) → (strands_of_job job).want body.state ≡ want.End
      → blocks_in (strands_of_job job) r.trail ≡ 0 → ⊥
  in_own_block x body bs b r e =
      let s = r.stands in
      end_in_block job r.run r.trail s.now (reached_now (strands_of_job job) r.start.state r.trail r.course s.now r.reached s.stands)
      (sym (ap (λ (w : InBlocks). (strands_of_job job).want w.state) s.there) ∙ e)

  pub ends_so : (x z : Token) (how : Mode) (body next : InBlocks) (bs : List (Below T J)) (b : Base T J) (end : ℕ) → how ≡ mode.Goes → IsRunning job of x body how bs b
      → (strands_of_job job).want body.state ≡ want.End → z ≡ ended x Committed end → next ≡ bodies.body_behind_block (strands_of_job job) body → IsRunning job of z next how bs b
  ends_so x z how body next bs b end is r0 e ended_so next_so =
      let r = going job of is r0 in
      subst (λ (m : Mode). IsRunning job of z next m bs b) (sym is)
      (subst (λ (w : InBlocks). IsRunning job of z w mode.Goes bs b) (sym next_so)
      (subst (λ (w : Token). IsRunning job of w (bodies.body_behind_block (strands_of_job job) body) mode.Goes bs b) (sym ended_so)
      (ended_here x body bs b end r.run r.lowest r.based r.start r.trail r.course r.reached r.written r.below r.stands e (in_own_block x body bs b r e))))

  pub ends_last : (x z u : Token) (how : Mode) (body next : InBlocks) (bs : List (Below T J)) (b : Base T J) (end : ℕ) → how ≡ mode.Goes → IsRunning job of x body how bs b
      → (strands_of_job job).want body.state ≡ want.End → z ≡ ended x Committed end → u ≡ halted z Memory → IsRunning job of u next mode.Stopped bs b
  ends_last x z u how body next bs b end is r0 e ended_so halted_so =
      let r = ends_so x z how body (bodies.body_behind_block (strands_of_job job) body) bs b end is r0 e ended_so refl in
      wants_memory job of z u how (bodies.body_behind_block (strands_of_job job) body) next bs b r halted_so

  -- so its token's place is one, and its body has one
  pub has_block : (x : Token) (how : Mode) (body : InBlocks) (bs : List (Below T J)) (b : Base T J) → how ≡ mode.Goes → IsRunning job of x body how bs b
      → (strands_of_job job).want body.state ≡ want.End → HasBlock x
  has_block x how body bs b is r0 e =
      let r = going job of is r0 in
      place_in_block job x r.start r.trail r.course r.written (in_own_block x body bs b r e)

  pub has_begin : (x : Token) (how : Mode) (body : InBlocks) (bs : List (Below T J)) (b : Base T J) → how ≡ mode.Goes → IsRunning job of x body how bs b
      → (strands_of_job job).want body.state ≡ want.End → 0 < length body.begins
  has_begin x how body bs b is r0 e =
      let r = going job of is r0 in
      subst (λ (ps : List PendingBegin). 0 < length ps) (sym (ap (λ (w : InBlocks). w.begins) r.stands.there)) (some_begins job r.trail r.start.begins (in_own_block x body bs b r e))

-- ## Back

seen_back : (k : ℕ) (ps : List PendingBegin) → map (seen_from (0 + k)) (map (seen_in k) ps) ≡ ps
seen_back k [] = refl
seen_back k (p ∷ ps) =
    ap (λ (n : ℕ). record { at = p.at; forks = n } ∷ map (seen_from (0 + k)) (map (seen_in k) ps)) (omega arith)
    ∙ ap (λ qs. p ∷ qs) (seen_back k ps)

module _ (job : Job) where
  -- the block to which it goes back was the innermost
  back_there : (to : ℕ) (x : Token) (body : InBlocks) (a : Start) (t : Trail StrandState) (cs js : Course) (b : StrandState) (stamp end : ℕ)
      → Fits x a (in_block t cs b stamp) js → StandsDying job to x body a (in_block t cs b stamp) js → stamp ≡ to
      → StandsGoing job (ended x Aborted end) (went_back body) a t (block cs Aborted stamp end js)
  back_there to x body a t cs js b stamp end w d e = record {
    now = b;
    stands = move.rolls (strands_of_job job) a.state t cs js b stamp end d.stopped;
    there =
        ap (λ ps. back_to ps body) d.begins
        ∙ ap (λ ps. record body { stage = stage.Goes; state = b; begins = ps }) (seen_back d.further (begins_in t a.begins))
        ∙ ap (λ p. record { program = p; stage = stage.Goes; state = b; begins = begins_in t a.begins }) d.program;
    free = record {
      on = record { stop = d.on.stop; told = d.on.told; unspent = d.on.unspent };
      none = All-weaker (λ c. Fells x c → to ≤ c.victim) (λ (c : Conflict). Contains (drop 1 x.around) c.victim → ⊥)
          (λ c h f. absurd (omega (
            arith,
            e,
            h (within_rest x.around c.victim f),
            behind_less stamp (stamps_in t a.above) c.victim (subst AreFalling w.around w.falling) (subst (λ bs. Contains (drop 1 bs) c.victim) w.around f),
          ))) (conflicts_in (logs x)) d.outermost;
    };
    phase = d.phase;
  }

  -- or another one was
  back_further : (to : ℕ) (x : Token) (body : InBlocks) (a : Start) (t : Trail StrandState) (cs js : Course) (b : StrandState) (stamp end : ℕ)
      → Fits x a (in_block t cs b stamp) js → StandsDying job to x body a (in_block t cs b stamp) js → (stamp ≡ to → ⊥)
      → StandsDying job to (ended x Aborted end) (forgot body) a t (block cs Aborted stamp end js)
  back_further to x body a t cs js b stamp end w d n = record {
    stopped = move.gives_up (strands_of_job job) a.state t (block cs Aborted stamp end js) b (move.rolls (strands_of_job job) a.state t cs js b stamp end d.stopped);
    program = d.program;
    stage = d.stage;
    further = d.further;
    begins = ap (λ ps. drop 1 ps) d.begins;
    stays = d.stays;
    on = record { stop = d.on.stop; told = d.on.told; unspent = d.on.unspent };
    phase = d.phase;
    around = subst (λ bs. Contains (drop 1 bs) to) (sym w.around) (behind_first stamp (stamps_in t a.above) to n (subst (λ bs. Contains bs to) w.around d.around));
    conflict = d.conflict;
    known = d.known;
    victim = d.victim;
    outermost = All-weaker (λ c. Fells x c → to ≤ c.victim) (λ (c : Conflict). Contains (drop 1 x.around) c.victim → to ≤ c.victim)
        (λ c h f. h (within_rest x.around c.victim f)) (conflicts_in (logs x)) d.outermost;
  }

  -- the trail of a token in whose place there is a block
  in_found : (x : Token) (a : Start) (t : Trail StrandState) (cs : Course) (begin : ℕ) → Fits x a t cs → begin_at x.own.nodes x.place ≡ Some begin → innermost t ≡ Some begin
  in_found x a t cs begin w e =
      sym (ap (λ (o : Log). begin_at o.nodes x.place) w.own ∙ ap (λ (p : ℕ). begin_at (nodes_of t cs) p) w.place ∙ begin_found t cs) ∙ e

module _ {T J : Type 0} (job : Job) (of : T → Token) where
  back_here : (x : Token) (body : InBlocks) (to begin end : ℕ) (bs : List (Below T J)) (b : Base T J) (run : IsRun job) (lowest : Start) (based : IsBase job of b (mode.Dies to) lowest) (a : Start)
      (t : Trail StrandState) (js : Course) → IsReached (strands_of_job job) a.state → Fits x a t js → AreWaitingBelow job of lowest a t x.forks (reverse bs) → StandsDying job to x body a t js
      → innermost t ≡ Some begin → begin ≡ to → IsRunning job of (ended x Aborted end) (went_back body) mode.Goes bs b
  back_here x body to begin end bs b run lowest based a (in_block t cs c stamp) js reached w below d e same = record {
    run = run;
    lowest = lowest;
    based = base_goes job of b to lowest based;
    start = a;
    trail = t;
    course = block cs Aborted stamp end js;
    reached = reached;
    written = fits_ended x a t cs js c stamp end Aborted w;
    below = unblock below;
    stands = back_there job to x body a t cs js c stamp end w d (one_some stamp begin e ∙ same);
  }
  back_here x body to begin end bs b run lowest based a opens js reached w below d e same = absurd (none_some begin e)
  back_here x body to begin end bs b run lowest based a (in_left t cs c column stamp) js reached w below d e same = absurd (none_some begin e)
  back_here x body to begin end bs b run lowest based a (in_right t cs c stamp ls l) js reached w below d e same = absurd (none_some begin e)

  further_here : (x : Token) (body : InBlocks) (to begin end : ℕ) (bs : List (Below T J)) (b : Base T J) (run : IsRun job) (lowest : Start) (based : IsBase job of b (mode.Dies to) lowest) (a : Start)
      (t : Trail StrandState) (js : Course) → IsReached (strands_of_job job) a.state → Fits x a t js → AreWaitingBelow job of lowest a t x.forks (reverse bs) → StandsDying job to x body a t js
      → innermost t ≡ Some begin → (begin ≡ to → ⊥) → IsRunning job of (ended x Aborted end) (forgot body) (mode.Dies to) bs b
  further_here x body to begin end bs b run lowest based a (in_block t cs c stamp) js reached w below d e other = record {
    run = run;
    lowest = lowest;
    based = based;
    start = a;
    trail = t;
    course = block cs Aborted stamp end js;
    reached = reached;
    written = fits_ended x a t cs js c stamp end Aborted w;
    below = unblock below;
    stands = back_further job to x body a t cs js c stamp end w d (λ f. other (sym (one_some stamp begin e) ∙ f));
  }
  further_here x body to begin end bs b run lowest based a opens js reached w below d e other = absurd (none_some begin e)
  further_here x body to begin end bs b run lowest based a (in_left t cs c column stamp) js reached w below d e other = absurd (none_some begin e)
  further_here x body to begin end bs b run lowest based a (in_right t cs c stamp ls l) js reached w below d e other = absurd (none_some begin e)

  dying : {x : Token} {body : InBlocks} {how : Mode} {to : ℕ} {bs : List (Below T J)} {b : Base T J} → how ≡ mode.Dies to → IsRunning job of x body how bs b → IsRunning job of x body (mode.Dies to) bs b
  dying {x} {body} {how} {to} {bs} {b} e r = subst (λ (m : Mode). IsRunning job of x body m bs b) e r

  pub back_so : (x z : Token) (how : Mode) (body next : InBlocks) (to begin end : ℕ) (bs : List (Below T J)) (b : Base T J) → how ≡ mode.Dies to → IsRunning job of x body how bs b
      → begin_at x.own.nodes x.place ≡ Some begin → begin ≡ to → z ≡ ended x Aborted end → next ≡ went_back body → IsRunning job of z next mode.Goes bs b
  back_so x z how body next to begin end bs b is r0 e same ended_so next_so =
      let r = dying is r0 in
      subst (λ (w : InBlocks). IsRunning job of z w mode.Goes bs b) (sym next_so)
      (subst (λ (w : Token). IsRunning job of w (went_back body) mode.Goes bs b) (sym ended_so)
      (back_here x body to begin end bs b r.run r.lowest r.based r.start r.trail r.course r.reached r.written r.below r.stands (in_found job x r.start r.trail r.course begin r.written e) same))

  pub further_so : (x z : Token) (how : Mode) (body next : InBlocks) (to begin end : ℕ) (bs : List (Below T J)) (b : Base T J) → how ≡ mode.Dies to → IsRunning job of x body how bs b
      → begin_at x.own.nodes x.place ≡ Some begin → (begin ≡ to → ⊥) → z ≡ ended x Aborted end → next ≡ forgot body → IsRunning job of z next how bs b
  further_so x z how body next to begin end bs b is r0 e other ended_so next_so =
      let r = dying is r0 in
      subst (λ (m : Mode). IsRunning job of z next m bs b) (sym is)
      (subst (λ (w : InBlocks). IsRunning job of z w (mode.Dies to) bs b) (sym next_so)
      (subst (λ (w : Token). IsRunning job of w (forgot body) (mode.Dies to) bs b) (sym ended_so)
      (further_here x body to begin end bs b r.run r.lowest r.based r.start r.trail r.course r.reached r.written r.below r.stands (in_found job x r.start r.trail r.course begin r.written e) other)))

  pub rolls_block : (x : Token) (how : Mode) (body : InBlocks) (begin : ℕ) (bs : List (Below T J)) (b : Base T J) → IsRunning job of x body how bs b
      → begin_at x.own.nodes x.place ≡ Some begin → HasBlock x
  rolls_block x how body begin bs b r e = place_in_block job x r.start r.trail r.course r.written (some_open job r.trail begin (in_found job x r.start r.trail r.course begin r.written e))

  pub rolls_begin : (x : Token) (how : Mode) (body : InBlocks) (to begin : ℕ) (bs : List (Below T J)) (b : Base T J) → how ≡ mode.Dies to → IsRunning job of x body how bs b
      → begin_at x.own.nodes x.place ≡ Some begin → 0 < length body.begins
  rolls_begin x how body to begin bs b is r0 e =
      let r = dying is r0 in
      some_kept r.stands.further (begins_in r.trail r.start.begins) body.begins r.stands.begins
      (some_begins job r.trail r.start.begins (some_open job r.trail begin (in_found job x r.start r.trail r.course begin r.written e)))

-- what a look at the place in the log tells
pub found_at : (ns us : List Node) (p q : ℕ) {o : Option ℕ} {begin : ℕ} → us ≡ ns → q ≡ p → o ≡ begin_at us q → o ≡ Some begin → begin_at ns p ≡ Some begin
found_at ns us p q e f h is = sym (ap (λ (ws : List Node). begin_at ws q) e ∙ ap (λ (k : ℕ). begin_at ns k) f) ∙ sym h ∙ is
