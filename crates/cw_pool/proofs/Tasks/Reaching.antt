-- What a running strand has reached, by the law of strands, and how many blocks of its own are begun there and not ended.
use Rattle.std.proofs.Common.{◌≡◌, Option, ℕ, suc, List, [], ◌∷◌, ap, sym, subst}
use Rattle.std.specs.Prelude.{IsTrue, length}
use Rattle.cw_strand.specs.declared.want.Want.{Want}
use Rattle.cw_strand.specs.declared.want.Want.TheVariants as want
use Rattle.cw_strand.specs.declared.want.Given.TheVariants.{Nothing}
use Rattle.cw_strand.specs.Strands.{Strands, IsAnswer, MayWant, own_after, is_over, GoesTo, stays, answered, Reached, of_main, of_left, of_right}
use Rattle.cw_job.specs.Jobs.{Job}
use Rattle.cw_job.specs.Room.Strands.{StrandState, strands_of_job}
use Rattle.cw_job.proofs.Room.Lawful.{closes_of}
use Rattle.cw_strand.specs.Names.{first_memory}
use Rattle.cw_record.proofs.OneWorker.AccessesThere.{AccessThere, accesses_there}
use Rattle.cw_course.specs.Courses.{Course, Goes}
use Rattle.cw_course.specs.Trails.{Trail, opens, in_block, in_left, in_right, state_at_entry, Leads, Stands}
use Rattle.cw_course.proofs.Courses.Reaching.{further, goes_to}
use Rattle.cw_pool.specs.Tasks.{IsRun, IsReached}

module _ {A : Type 0} (s : Strands A) where
  reached_on : {own to : List ℕ} {a b : A} → Reached s own a → GoesTo s own a to b → Reached s to b
  reached_on (of_main g) h = of_main (further s g h)
  reached_on (of_left r e g) h = of_left r e (further s g h)
  reached_on (of_right r e g) h = of_right r e (further s g h)

  -- how many of the blocks that it began are pending
  abbrev pub blocks_in : Trail A → ℕ
  blocks_in opens = 0
  blocks_in (in_block t cs b stamp) = suc (blocks_in t)
  blocks_in (in_left t cs b column stamp) = 0
  blocks_in (in_right t cs b stamp ls l) = 0

  abbrev pub ReachedAt : Trail A → A → Type 0
  ReachedAt t a = (outer : List ℕ) × Reached s (blocks_in t ∷ outer) a

  along : (t : Trail A) (cs : Course) (a b : A) → ReachedAt t a → Goes s a cs b → ReachedAt t b
  along t cs a b (outer, r) g = (outer, reached_on r (goes_to s (blocks_in t) outer a b cs g))

  begun : (n : ℕ) (outer : List ℕ) (a : A) → s.want a ≡ want.Begin → Reached s (n ∷ outer) a → Reached s (suc n ∷ outer) (s.answer a Nothing)
  begun n outer a e r = subst (λ (own : List ℕ). Reached s own (s.answer a Nothing)) (ap (λ w. own_after w (n ∷ outer)) e)
      (reached_on r (answered stays Nothing (subst (λ (w : Want). IsAnswer s.elements w Nothing) (sym e) tt)))

  pub reached_entry : (a : A) (t : Trail A) → IsReached s a → Leads s a t → ReachedAt t (state_at_entry s a t)
  reached_entry a opens r l = r
  reached_entry a (in_block t cs b stamp) r (l, g, e) =
      let (outer, h) = along t cs (state_at_entry s a t) b (reached_entry a t r l) g in
      (outer, begun (blocks_in t) outer b e h)
  reached_entry a (in_left t cs b column stamp) r (l, g, e) =
      let (outer, h) = along t cs (state_at_entry s a t) b (reached_entry a t r l) g in
      ([], of_left h e stays)
  reached_entry a (in_right t cs b stamp ls d) r (l, g, e, k, o) =
      let (outer, h) = along t cs (state_at_entry s a t) b (reached_entry a t r l) g in
      (blocks_in t ∷ outer, of_right h e stays)

  pub reached_now : (a : A) (t : Trail A) (cs : Course) (now : A) → IsReached s a → Stands s a t cs now → ReachedAt t now
  reached_now a t cs now r st = along t cs (state_at_entry s a t) now (reached_entry a t r st.leads) st.goes

  pub reached_right : (t : Trail A) (b : A) → ReachedAt t b → s.want b ≡ want.Fork → IsReached s (s.right b)
  reached_right t b (outer, r) e = (blocks_in t ∷ outer, of_right r e stays)

  -- the right strand of a fork that is open
  pub reached_fork : (a : A) (t : Trail A) (cs : Course) (b : A) (column : Option ℕ) (stamp : ℕ) → IsReached s a → Leads s a (in_left t cs b column stamp) → IsReached s (s.right b)
  reached_fork a t cs b column stamp r (l, g, e) = reached_right t b (along t cs (state_at_entry s a t) b (reached_entry a t r l) g) e

module _ (job : Job) (run : IsRun job) where
  abbrev s : Strands StrandState
  s = strands_of_job job

  may_want : (t : Trail StrandState) (now : StrandState) → ReachedAt s t now → (outer : List ℕ) × MayWant (s.want now) (blocks_in s t ∷ outer)
  may_want t now (outer, r) = (outer, closes_of job run.compiled run.takes (blocks_in s t ∷ outer) now r)

  pub names_there : (t : Trail StrandState) (now : StrandState) → ReachedAt s t now → AccessThere (length (first_memory job.program.cells)) (s.want now)
  names_there t now (outer, r) = accesses_there job run.compiled (blocks_in s t ∷ outer) now r

  none_ends : (outer : List ℕ) → MayWant want.End (0 ∷ outer) → ⊥
  none_ends outer h = h

  over_ends : (w : Want) (n : ℕ) (outer : List ℕ) → IsTrue (is_over w) → MayWant w (suc n ∷ outer) → ⊥
  over_ends want.Sync n outer o h = h
  over_ends want.Done n outer o h = h
  over_ends w n outer o h = cc

  -- a strand that wants the end of a block has begun one that is pending, and one that is over has not
  pub end_in_block : (t : Trail StrandState) (now : StrandState) → ReachedAt s t now → s.want now ≡ want.End → blocks_in s t ≡ 0 → ⊥
  end_in_block t now r e z =
      let (outer, may) = may_want t now r in
      none_ends outer (subst (λ (n : ℕ). MayWant want.End (n ∷ outer)) z (subst (λ (w : Want). MayWant w (blocks_in s t ∷ outer)) e may))

  none_cancels : (outer : List ℕ) → MayWant want.Cancel (0 ∷ outer) → ⊥
  none_cancels outer h = h

  -- so has one that gives up a block
  pub cancel_in_block : (t : Trail StrandState) (now : StrandState) → ReachedAt s t now → s.want now ≡ want.Cancel → blocks_in s t ≡ 0 → ⊥
  cancel_in_block t now r e z =
      let (outer, may) = may_want t now r in
      none_cancels outer (subst (λ (n : ℕ). MayWant want.Cancel (n ∷ outer)) z (subst (λ (w : Want). MayWant w (blocks_in s t ∷ outer)) e may))

  pub over_in_none : (t : Trail StrandState) (now : StrandState) → ReachedAt s t now → IsTrue (is_over (s.want now)) → (n : ℕ) → blocks_in s t ≡ suc n → ⊥
  over_in_none t now r o n e =
      let (outer, may) = may_want t now r in
      over_ends (s.want now) n outer o (subst (λ (k : ℕ). MayWant (s.want now) (k ∷ outer)) e may)

  -- a strand that has done nothing wants no end
  pub start_not_end : (a : StrandState) → IsReached s a → s.want a ≡ want.End → ⊥
  start_not_end a (outer, r) e = none_ends outer (subst (λ (w : Want). MayWant w (0 ∷ outer)) e (closes_of job run.compiled run.takes (0 ∷ outer) a r))
