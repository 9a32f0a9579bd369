-- A strand whose access is refused.
use Rattle.std.proofs.Common.{◌≡◌, ℕ, ℤ, zero, suc, inl, inr, List, [], ◌∷◌, length, ap, sym, ◌∙◌, refl, subst, arith, Option, None, Some, map}
use Rattle.std.specs.Prelude.{◌≤◌, ◌<◌}
use Rattle.cw_strand.specs.declared.want.Given.{Given}
use Rattle.std.specs.List.{Contains}
use Rattle.std.proofs.lemmas.List.Elements.{All-weaker}
use Rattle.cw_job.specs.Jobs.{Job}
use Rattle.cw_job.specs.Room.Strands.{StrandState, strands_of_job}
use Rattle.cw_strand.specs.declared.want.Want.TheVariants as want
use Rattle.cw_strand.specs.declared.want.Want.{Want}
use Rattle.cw_tree.specs.declared.conflict.Conflict.{Conflict}
use Rattle.cw_tree.specs.declared.node.Kind.TheVariants.{Tried}
use Rattle.cw_tree.specs.declared.closed.Halt.TheVariants.{Budget, Memory}
use Rattle.cw_record.specs.Replay.{IsAccessOf}
use Rattle.cw_log.specs.declared.token.Token.{Token}
use Rattle.cw_log.specs.Answers.{IsAround, IsWritten, kind_of_answer}
use Rattle.cw_log.specs.Tokens.{Fells, made, IsOn, conflicts_in, logs, halted, refused}
use Rattle.cw_course.specs.Courses.{Course, Acts, act}
use Rattle.cw_course.specs.Trails.{Trail, Stands, page, strand_in}
use Rattle.cw_course.proofs.Trails.Moves as move
use Rattle.cw_body.specs.Bodies.{InBlocks, PendingBegin, AnswersAct, answered, gave_up, want_of}
use Rattle.cw_pool.specs.declared.task.Mode.{Mode}
use Rattle.cw_pool.specs.declared.task.Mode.TheVariants as mode
use Rattle.cw_pool.specs.declared.task.Below.{Below}
use Rattle.cw_pool.specs.declared.task.Base.{Base}
use Rattle.cw_pool.specs.Tasks.{Start, AreFalling, Fits, IsFree, StandsGoing, StandsDying, IsRunning, begins_in, seen_in}
use Rattle.cw_pool.specs.Accesses.{access_want, IsAfter, MayFell}
use Rattle.cw_strand.specs.Strands.{given_for}
use Rattle.cw_pool.proofs.Tasks.Lists.{all_more, holds_it}
use Rattle.cw_pool.proofs.Tasks.Going.{rebuilt, base_dies, fits_made}
use Rattle.cw_pool.proofs.Tasks.Stopping.{is_halted, budget_no_fault}
use Rattle.cw_pool.proofs.Tasks.Acting.{going, acts, acts_last}
use Rattle.cw_pool.proofs.Tasks.Reaching.{names_there, reached_now}
use Rattle.cw_record.proofs.OneWorker.AccessesThere.{AccessThere}
use Rattle.cw_strand.specs.Names.{first_memory}

-- a conflict is no part of a course
fits_refused : (x : Token) (a : Start) (t : Trail StrandState) (cs : Course) (k : Conflict) → Fits x a t cs → Fits (refused x k) a t (act cs (Tried k.cell) 0)
fits_refused x a t cs k w =
    let v = fits_made x a t cs (Tried k.cell) 0 w in
    record { own = v.own; joined = v.joined; strand = v.strand; place = v.place; around = v.around; falling = v.falling; fork = v.fork; split = v.split }

on_refused : (budget : ℕ) (x : Token) (k : Conflict) → IsOn budget x → (k.attempt ≡ budget → ⊥) → IsOn budget (refused x k)
on_refused budget x k on n = record { stop = on.stop; told = on.told; unspent = all_more (λ c. c.attempt ≡ budget → ⊥) x.own.conflicts k (conflicts_in x.joined) on.unspent n }

-- no block has the begin stamp 0
none_at_zero : (bs : List ℕ) → AreFalling bs → Contains bs 0 → ⊥
none_at_zero [] f (k, r, e) = absurd (omega arith)
none_at_zero (b ∷ bs) (some, f, more) (zero, r, e) = absurd (omega (arith, some, e))
none_at_zero (b ∷ bs) (some, f, more) (suc k, r, e) = none_at_zero bs more (k, omega arith, e)

may_fell : (x : Token) (k : Conflict) → AreFalling x.around → IsAround x k.victim → MayFell x k
may_fell x k f (inl z) = (λ n. absurd (n z), λ e h. none_at_zero x.around f (subst (λ (b : ℕ). Contains x.around b) e h))
may_fell x k f (inr h) = (λ n. h, λ e i. none_at_zero x.around f (subst (λ (b : ℕ). Contains x.around b) e i))

pub seen_here : (bs : List PendingBegin) → map (seen_in 0) bs ≡ bs
seen_here [] = refl
seen_here (b ∷ bs) = ap (λ (n : ℕ). record { at = b.at; forks = n } ∷ map (seen_in 0) bs) (omega arith) ∙ ap (λ cs. b ∷ cs) (seen_here bs)

is_access : (cell : ℕ) (write : Option ℤ) → IsAccessOf cell (access_want cell write)
is_access cell None = refl
is_access cell (Some v) = refl

no_end : (cell : ℕ) (write : Option ℤ) → access_want cell write ≡ want.End → ⊥
no_end cell None e = cc
no_end cell (Some v) e = cc

module _ (job : Job) where
  -- its course has the access that was refused
  tried_stands : (x : Token) (body : InBlocks) (a : Start) (t : Trail StrandState) (cs : Course) (cell : ℕ) (write : Option ℤ) (s : StandsGoing job x body a t cs)
      → (strands_of_job job).want body.state ≡ access_want cell write → Stands (strands_of_job job) a.state t (act cs (Tried cell) 0) s.now
  tried_stands x body a t cs cell write s e =
      let here : (strands_of_job job).want s.now ≡ access_want cell write = sym (ap (λ (w : InBlocks). (strands_of_job job).want w.state) s.there) ∙ e in
      move.acts_on (strands_of_job job) a.state t cs s.now s.now (Tried cell) 0 s.stands (subst (λ (w : Want). IsAccessOf cell w) (sym here) (is_access cell write), refl)

  free_refused : (x : Token) (k : Conflict) → IsFree job x → (k.attempt ≡ job.limits.aborts → ⊥) → (Fells x k → ⊥) → IsFree job (refused x k)
  free_refused x k f n m = record { on = on_refused job.limits.aborts x k f.on n; none = all_more (λ c. Fells x c → ⊥) x.own.conflicts k (conflicts_in x.joined) f.none m }

  again : (x : Token) (body : InBlocks) (a : Start) (t : Trail StrandState) (cs : Course) (k : Conflict) (cell : ℕ) (write : Option ℤ) (s : StandsGoing job x body a t cs)
      → (strands_of_job job).want body.state ≡ access_want cell write → k.cell ≡ cell → (k.attempt ≡ job.limits.aborts → ⊥) → (Fells x k → ⊥)
      → StandsGoing job (refused x k) body a t (act cs (Tried k.cell) 0)
  again x body a t cs k cell write s e c n m = record {
    now = s.now;
    stands = tried_stands x body a t cs k.cell write s (e ∙ ap (λ d. access_want d write) (sym c));
    there = s.there;
    free = free_refused x k s.free n m;
    phase = s.phase;
  }

  dies : (x : Token) (body : InBlocks) (a : Start) (t : Trail StrandState) (cs : Course) (k : Conflict) (cell : ℕ) (write : Option ℤ) (to : ℕ) (s : StandsGoing job x body a t cs)
      → (strands_of_job job).want body.state ≡ access_want cell write → want_of body ≡ access_want cell write → k.cell ≡ cell → (k.attempt ≡ job.limits.aborts → ⊥) → Fells x k → k.victim ≡ to
      → StandsDying job to (refused x k) (gave_up body) a t (act cs (Tried k.cell) 0)
  dies x body a t cs k cell write to s e u c n m v = record {
    stopped = move.gives_up (strands_of_job job) a.state t (act cs (Tried k.cell) 0) s.now (tried_stands x body a t cs k.cell write s (e ∙ ap (λ d. access_want d write) (sym c)));
    program = ap (λ (w : InBlocks). w.program) s.there;
    stage = refl;
    further = 0;
    begins = ap (λ (w : InBlocks). w.begins) s.there ∙ sym (seen_here (begins_in t a.begins));
    stays = λ f. no_end cell write (sym u ∙ f);
    on = on_refused job.limits.aborts x k s.free.on n;
    phase = s.phase;
    around = subst (λ (b : ℕ). Contains x.around b) v m;
    conflict = k;
    known = holds_it x.own.conflicts k (conflicts_in x.joined);
    victim = v;
    outermost = all_more (λ c. Fells x c → to ≤ c.victim) x.own.conflicts k (conflicts_in x.joined)
        (All-weaker (λ c. Fells x c → ⊥) (λ c. Fells x c → to ≤ c.victim) (λ c h f. absurd (h f)) (conflicts_in (logs x)) s.free.none) (λ f. omega (arith, v));
  }

cell_named : (n cell : ℕ) (write : Option ℤ) → AccessThere n (access_want cell write) → cell < n
cell_named n cell None h = h
cell_named n cell (Some v) h = h

is_made : (job : Job) (cell : ℕ) (write : Option ℤ) (v : ℤ) (a : StrandState) → IsWritten write v → (strands_of_job job).want a ≡ access_want cell write
    → Acts (strands_of_job job) a (kind_of_answer cell write v) ((strands_of_job job).answer a (given_for write v))
is_made job cell None v a w e = (e, refl)
is_made job cell (Some n) v a w e = (e ∙ ap (λ m. want.Store cell m) (sym w), refl)

module _ {T J : Type 0} (job : Job) (of : T → Token) where
  -- the cell is there
  pub cell_there : (x : Token) (how : Mode) (body : InBlocks) (bs : List (Below T J)) (b : Base T J) (cell : ℕ) (write : Option ℤ) → how ≡ mode.Goes → IsRunning job of x body how bs b
      → (strands_of_job job).want body.state ≡ access_want cell write → cell < length (first_memory job.program.cells)
  cell_there x how body bs b cell write is r0 e =
      let r = going job of is r0 in
      let s = r.stands in
      let here : (strands_of_job job).want s.now ≡ access_want cell write = sym (ap (λ (w : InBlocks). (strands_of_job job).want w.state) s.there) ∙ e in
      cell_named (length (first_memory job.program.cells)) cell write
      (subst (λ (w : Want). AccessThere (length (first_memory job.program.cells)) w) here
      (names_there job r.run r.trail s.now (reached_now (strands_of_job job) r.start.state r.trail r.course s.now r.reached s.stands)))

  -- the victim of a refused access is a block around it, or 0
  pub victim_there : (x z : Token) (how : Mode) (body : InBlocks) (bs : List (Below T J)) (b : Base T J) (k : Conflict) → IsRunning job of x body how bs b → IsAround x k.victim → z ≡ refused x k → MayFell z k
  victim_there x z how body bs b k r around e = subst (λ (w : Token). MayFell w k) (sym e) (may_fell x k r.written.falling around)

  pub refused_so : (x z y : Token) (how after : Mode) (body next : InBlocks) (bs : List (Below T J)) (b : Base T J) (k : Conflict) (cell : ℕ) (write : Option ℤ) → how ≡ mode.Goes
      → IsRunning job of x body how bs b → (strands_of_job job).want body.state ≡ access_want cell write → want_of body ≡ access_want cell write → k.cell ≡ cell → z ≡ refused x k
      → IsAfter job.limits.aborts k after z y body next → IsRunning job of y next after bs b
  refused_so x z y how mode.Goes body next bs b k cell write is r0 e u c refused_now (same, keeps, n, m) =
      let r = going job of is r0 in
      subst (λ (w : InBlocks). IsRunning job of y w mode.Goes bs b) (sym keeps)
      (subst (λ (w : Token). IsRunning job of w body mode.Goes bs b) (sym (same ∙ refused_now))
      (rebuilt job of x (refused x k) body body mode.Goes mode.Goes bs b r (act r.course (Tried k.cell) 0) r.based (fits_refused x r.start r.trail r.course k r.written) refl
      (again job x body r.start r.trail r.course k cell write r.stands e c n (λ f. m (subst (λ (w : Token). Fells w k) (sym refused_now) f)))))
  refused_so x z y how (mode.Dies to) body next bs b k cell write is r0 e u c refused_now (same, gave, n, m, v) =
      let r = going job of is r0 in
      subst (λ (w : InBlocks). IsRunning job of y w (mode.Dies to) bs b) (sym gave)
      (subst (λ (w : Token). IsRunning job of w (gave_up body) (mode.Dies to) bs b) (sym (same ∙ refused_now))
      (rebuilt job of x (refused x k) body (gave_up body) mode.Goes (mode.Dies to) bs b r (act r.course (Tried k.cell) 0) (base_dies job of b to r.lowest r.based)
      (fits_refused x r.start r.trail r.course k r.written) refl
      (dies job x body r.start r.trail r.course k cell write to r.stands e u c n (subst (λ (w : Token). Fells w k) refused_now m) v)))
  refused_so x z y how mode.Stopped body next bs b k cell write is r0 e u c refused_now halted_so =
      let r = going job of is r0 in
      let s = r.stands in
      subst (λ (w : Token). IsRunning job of w next mode.Stopped bs b) (sym (halted_so ∙ ap (λ q. halted q (Budget 0)) refused_now))
      (is_halted job of x (refused x k) mode.Goes body next bs b r (act r.course (Tried k.cell) 0) (Budget 0) (fits_refused x r.start r.trail r.course k r.written) refl
      (move.gives_up (strands_of_job job) r.start.state r.trail (act r.course (Tried k.cell) 0) s.now
      (tried_stands job x body r.start r.trail r.course k.cell write s (e ∙ ap (λ d. access_want d write) (sym c)))) (budget_no_fault (refused x k) (act r.course (Tried k.cell) 0) r.start.column (strand_in r.trail) (length (page r.trail).nodes)))
  refused_so x z y how mode.Waits body next bs b k cell write is r0 e u c refused_now h = absurd h

  -- or made
  pub made_so : (x z : Token) (how : Mode) (body next : InBlocks) (bs : List (Below T J)) (b : Base T J) (cell : ℕ) (write : Option ℤ) (v : ℤ) (stamp : ℕ) (given : Given) → how ≡ mode.Goes
      → IsRunning job of x body how bs b → (strands_of_job job).want body.state ≡ access_want cell write → IsWritten write v → z ≡ made x (kind_of_answer cell write v) stamp
      → given ≡ given_for write v → next ≡ answered (strands_of_job job) given body → IsRunning job of z next how bs b
  made_so x z how body next bs b cell write v stamp given is r e w made_now g f =
      acts job of x z how body next bs b (kind_of_answer cell write v) stamp (given_for write v) is r (is_made job cell write v body.state w e) made_now
      (f ∙ ap (λ y. answered (strands_of_job job) y body) g)

  pub made_last : (x z u : Token) (how : Mode) (body next : InBlocks) (bs : List (Below T J)) (b : Base T J) (cell : ℕ) (write : Option ℤ) (v : ℤ) (stamp : ℕ) → how ≡ mode.Goes
      → IsRunning job of x body how bs b → (strands_of_job job).want body.state ≡ access_want cell write → IsWritten write v → z ≡ made x (kind_of_answer cell write v) stamp
      → u ≡ halted z Memory → IsRunning job of u next mode.Stopped bs b
  made_last x z u how body next bs b cell write v stamp is r e w made_now halted_so =
      acts_last job of x z u how body next bs b (kind_of_answer cell write v) stamp (given_for write v) is r (is_made job cell write v body.state w e) made_now halted_so

pub answers_act : (elements cell : ℕ) (write : Option ℤ) (v : ℤ) → AnswersAct elements (access_want cell write) (given_for write v)
answers_act elements cell None v = tt
answers_act elements cell (Some w) v = tt
