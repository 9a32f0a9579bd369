-- Where the two tasks of a fork that has two tokens are joined: both have ended, or the right one was not started beside a left one that died or
-- was stopped.
use Rattle.std.proofs.Common.{◌≡◌, ℕ, List, [], ◌∷◌, ◌++◌, refl, ap, sym, ◌∙◌, subst, true, false, inr, Some}
use Rattle.cw_job.specs.Jobs.{Job}
use Rattle.cw_job.specs.Room.Strands.{StrandState}
use Rattle.cw_pair.specs.declared.view.Binding.{Binding}
use Rattle.cw_log.specs.declared.token.Open.{Open}
use Rattle.cw_log.specs.declared.token.Phase.{Phase}
use Rattle.cw_log.specs.declared.token.Phase.TheVariants.{Going, Parted, Waiting}
use Rattle.cw_log.specs.declared.token.Side.TheVariants.{Beside}
use Rattle.cw_log.specs.declared.token.Token.{Token}
use Rattle.cw_log.specs.Tokens.{AreOfOneFork, IsDone, IsOn, merged, taken_in}
use Rattle.cw_course.specs.Courses.{Course, fork, nothing}
use Rattle.cw_course.specs.Trails.{Trail, opens}
use Rattle.cw_body.specs.Bodies.{InBlocks}
use Rattle.cw_pool.specs.declared.task.Memo.{Memo}
use Rattle.cw_pool.specs.declared.task.Mode.{Mode}
use Rattle.cw_pool.specs.declared.task.Mode.TheVariants as mode
use Rattle.cw_pool.specs.declared.task.Below.{Below}
use Rattle.cw_pool.specs.declared.task.Below.TheVariants as below
use Rattle.cw_pool.specs.declared.task.Base.{Base}
use Rattle.cw_pool.specs.declared.task.Base.TheVariants as base
use Rattle.cw_pool.specs.Ends.{IsBehind, IsMerged, IsToMerge, MayEnd, mode_of_both}
use Rattle.cw_pool.specs.Tasks.{Start, IsRun, IsBase, IsRunning, opened, stamps_in}
use Rattle.cw_pool.proofs.Tasks.Finishing.{Finished, Leaves, at_bottom, finished, not_waiting}
use Rattle.cw_pool.proofs.Tasks.Behind.{behind_whole}
use Rattle.cw_pool.proofs.Tasks.Backing.{Unstarted, left_of, one_start, right_begins, unstarted}
use Rattle.cw_pool.proofs.Tasks.Joining.{RightLeaves, as_one, fits_joined, goes_unsplit, is_on, joined_there, left_leaves, parted_split, phase_behind, right_leaves, stands_joined, tells_both, dies_on, goes_on, waits_body, waits_leaving}

waiting_not_parted : (n : ℕ) → Waiting ≡ Parted n → ⊥
waiting_not_parted n e = cc

-- ## Modes

waits_on : mode.Waits ≡ mode.Stopped → ⊥
waits_on e = cc

both_waits : (m : Mode) → (m ≡ mode.Goes → ⊥) → mode_of_both m mode.Waits ≡ m
both_waits mode.Goes n = absurd (n refl)
both_waits (mode.Dies to) n = refl
both_waits mode.Stopped n = refl
both_waits mode.Waits n = refl

both_not_waits : (m k : Mode) → (m ≡ mode.Waits → ⊥) → (k ≡ mode.Waits → ⊥) → mode_of_both m k ≡ mode.Waits → ⊥
both_not_waits mode.Goes k p q e = q e
both_not_waits (mode.Dies to) mode.Goes p q e = cc
both_not_waits (mode.Dies to) (mode.Dies other) p q e = cc
both_not_waits (mode.Dies to) mode.Stopped p q e = cc
both_not_waits (mode.Dies to) mode.Waits p q e = cc
both_not_waits mode.Stopped k p q e = cc
both_not_waits mode.Waits k p q e = p refl

-- where the strand that forked is not stopped, its right strand was not
right_not_stopped : (m k : Mode) → (mode_of_both m k ≡ mode.Stopped → ⊥) → k ≡ mode.Stopped → ⊥
right_not_stopped mode.Goes k n e = n e
right_not_stopped (mode.Dies to) k n e = n (ap (λ (q : Mode). mode_of_both (mode.Dies to) q) e)
right_not_stopped mode.Stopped k n e = n refl
right_not_stopped mode.Waits k n e = n e

module _ {T : Type 0} (J : Type 0) (job : Job) (of : T → Token) where
  -- a right strand that ended without a stop was split
  split_there : (g : ℕ) (half : Binding (Memo T)) (k : Mode) (a : Start) → (k ≡ mode.Stopped → ⊥) → (k ≡ mode.Waits → ⊥) → IsBase {T = T} {J = J} job of (base.Right g half) k a → a.split ≡ true
  split_there g half mode.Goes a n o i = i.2
  split_there g half (mode.Dies to) a n o i = i.2
  split_there g half mode.Stopped a n o i = absurd (n refl)
  split_there g half mode.Waits a n o i = absurd (o refl)

module _ (job : Job) where
  -- what a right strand leaves that was not started
  unstarted_leaves : IsRun job → (y : Token) (right : InBlocks) (a : Start) → Unstarted job y right a → RightLeaves job mode.Waits y right a nothing
  unstarted_leaves run y right a u = record {
    own = u.fits.own;
    joined = u.fits.joined;
    leaving = waits_leaving job y right a opens nothing u.stands u.fits.around;
    stands = waits_body job run y right a opens nothing u.stands u.reached;
  }

module _ {T J : Type 0} (job : Job) (of : T → Token) where
  -- where the lowest log of a task comes from is as before, however the right strand ended
  base_both : (b : Base T J) (m k : Mode) (a : Start) → (m ≡ mode.Waits → ⊥) → (mode_of_both m k ≡ mode.Waits → ⊥) → IsBase job of b m a → IsBase job of b (mode_of_both m k) a
  base_both base.Root m k a n o i = i
  base_both (base.Right g half) mode.Goes mode.Goes a n o i = i
  base_both (base.Right g half) mode.Goes (mode.Dies to) a n o i = i
  base_both (base.Right g half) mode.Goes mode.Stopped a n o i = (i.0, i.1, tt)
  base_both (base.Right g half) mode.Goes mode.Waits a n o i = absurd (o refl)
  base_both (base.Right g half) (mode.Dies to) mode.Goes a n o i = i
  base_both (base.Right g half) (mode.Dies to) (mode.Dies other) a n o i = i
  base_both (base.Right g half) (mode.Dies to) mode.Stopped a n o i = (i.0, i.1, tt)
  base_both (base.Right g half) (mode.Dies to) mode.Waits a n o i = i
  base_both (base.Right g half) mode.Stopped k a n o i = i
  base_both (base.Right g half) mode.Waits k a n o i = absurd (n refl)

  -- ## Any two

  -- the strand that forked, with what both leave
  joined_behind : (x y u : Token) (m k : Mode) (left right : InBlocks) (n : ℕ) (half : Binding (Memo T)) (bs : List (Below T J)) (b : Base T J) (f : Finished job of x left m (bs ++ below.Left n half ∷ []) b) (rs : Course) (p : Phase)
      → (m ≡ mode.Waits → ⊥) → (mode_of_both m k ≡ mode.Waits → ⊥) → RightLeaves job k y right (right_begins job of (left_of job of x left m bs b n half f)) rs
      → ((mode_of_both m k ≡ mode.Stopped → ⊥) → p ≡ Going) → u ≡ as_one x y f.start (left_of job of x left m bs b n half f).outer (left_of job of x left m bs b n half f).others p
      → IsBehind job of (mode_of_both m k) u right left bs b
  joined_behind x y u m k left right n half bs b f rs p first some w phase e =
      let i = left_of job of x left m bs b n half f in
      let v = left_leaves job m x left f.start _ f.course (subst (λ (t : Trail StrandState). Leaves job x left m f.start t f.course) i.trail f.leaves) in
      subst (λ (z : Token). IsBehind job of (mode_of_both m k) z right left bs b) (sym e)
      (behind_whole job of (mode_of_both m k) (as_one x y f.start i.outer i.others p) right left bs b f.run f.lowest (base_both b m k f.lowest first some f.based) f.start i.outer
      (fork i.behind (Some i.column) i.stamp f.course rs) f.reached
      (fits_joined job x y left right f.start i.outer i.behind f.course rs i.at i.column i.stamp n i.others p m k v w) i.under
      (stands_joined job x y left right f.start i.outer i.behind f.course rs i.at i.column i.stamp n i.others p m k phase some first v.leaving w.leaving v.stands w.stands))

  -- ## Both have ended

  -- what the right task leaves, beside a left one
  record Met (x y : Token) (m k : Mode) (left right : InBlocks) (n : ℕ) (half : Binding (Memo T)) (bs : List (Below T J)) (b : Base T J) : Type 0 where
    pub ended : Finished job of x left m (bs ++ below.Left n half ∷ []) b
    pub course : Course
    pub leaves : RightLeaves job k y right (right_begins job of (left_of job of x left m bs b n half ended)) course
    pub number : y.fork ≡ n
    pub none : y.forks ≡ []
    pub split : (k ≡ mode.Stopped → ⊥) → y.split ≡ true
    pub done : IsDone x × IsDone y
    pub first : m ≡ mode.Waits → ⊥
    pub second : k ≡ mode.Waits → ⊥

  met : (x y : Token) (m k : Mode) (left right : InBlocks) (n g : ℕ) (half theirs : Binding (Memo T)) (bs : List (Below T J)) (b : Base T J) → IsRunning job of x left m (bs ++ below.Left n half ∷ []) b → MayEnd m x left
      → IsRunning {T = T} {J = J} job of y right k [] (base.Right g theirs) → MayEnd k y right → half.of ≡ theirs.of → Met x y m k left right n half bs b
  met x y m k left right n g half theirs bs b r may r2 may2 same =
      let f = finished job of x left m (bs ++ below.Left n half ∷ []) b r may in
      let i = left_of job of x left m bs b n half f in
      let h = finished job of y right k [] (base.Right g theirs) r2 may2 in
      let (lowest_so, over, none) = at_bottom job of h.leaves.outside h.below in
      let begins : record h.start { split = false } ≡ right_begins job of i =
      ap (λ (q : Start). record q { split = false }) lowest_so ∙ sym (one_start job of half theirs (right_begins job of i) (record h.lowest { split = false }) same i.is_half h.based.0) in
      record {
        ended = f;
        course = h.course;
        leaves = right_leaves job k y right h.start (right_begins job of i) h.course (subst (λ (t : Trail StrandState). Leaves job y right k h.start t h.course) over h.leaves) begins;
        number = h.leaves.fork ∙ ap (λ (q : Start). q.fork) begins;
        none = none;
        split = λ q. h.leaves.split ∙ ap (λ (q : Start). q.split) lowest_so ∙ split_there J job of g theirs k h.lowest q (not_waiting y right may2) h.based;
        done = (f.leaves.done, h.leaves.done);
        first = not_waiting x left may;
        second = not_waiting y right may2;
      }

  meets_fork : (x y : Token) (m k : Mode) (left right : InBlocks) (n g : ℕ) (half theirs : Binding (Memo T)) (bs : List (Below T J)) (b : Base T J) → IsRunning job of x left m (bs ++ below.Left n half ∷ []) b → MayEnd m x left
      → IsRunning {T = T} {J = J} job of y right k [] (base.Right g theirs) → MayEnd k y right → half.of ≡ theirs.of → AreOfOneFork x y
  meets_fork x y m k left right n g half theirs bs b r may r2 may2 same =
      let q = met x y m k left right n g half theirs bs b r may r2 may2 same in
      let i = left_of job of x left m bs b n half q.ended in
      record { inner = opened (Beside n) q.ended.start i.outer; outer = i.others; left = i.forks; fork = ap (λ (j : ℕ). Beside j) (sym q.number); right = q.none }

  meets_done : (x y : Token) (m k : Mode) (left right : InBlocks) (n g : ℕ) (half theirs : Binding (Memo T)) (bs : List (Below T J)) (b : Base T J) → IsRunning job of x left m (bs ++ below.Left n half ∷ []) b → MayEnd m x left
      → IsRunning {T = T} {J = J} job of y right k [] (base.Right g theirs) → MayEnd k y right → half.of ≡ theirs.of → IsDone x × IsDone y
  meets_done x y m k left right n g half theirs bs b r may r2 may2 same = (met x y m k left right n g half theirs bs b r may r2 may2 same).done

  -- unless a strand was stopped what the split parted is merged
  meets_merge : (x y z : Token) (m k : Mode) (left right : InBlocks) (n g : ℕ) (half theirs : Binding (Memo T)) (bs : List (Below T J)) (b : Base T J) → IsRunning job of x left m (bs ++ below.Left n half ∷ []) b → MayEnd m x left
      → IsRunning {T = T} {J = J} job of y right k [] (base.Right g theirs) → MayEnd k y right → half.of ≡ theirs.of → z ≡ taken_in x y → IsToMerge job.limits.aborts (mode_of_both m k) z n
  meets_merge x y z m k left right n g half theirs bs b r may r2 may2 same e =
      let q = met x y m k left right n g half theirs bs b r may r2 may2 same in
      let f = q.ended in
      let i = left_of job of x left m bs b n half f in
      let v = left_leaves job m x left f.start _ f.course (subst (λ (t : Trail StrandState). Leaves job x left m f.start t f.course) i.trail f.leaves) in
      subst (λ (w : Token). IsToMerge job.limits.aborts (mode_of_both m k) w n) (sym (joined_there x y z f.start i.outer i.others n i.forks e))
      (to_merge (mode_of_both m k) (as_one x y f.start i.outer i.others (phase_behind y))
      (λ s. is_on job.limits.aborts (mode_of_both m k) (as_one x y f.start i.outer i.others (phase_behind y)) (stamps_in i.outer f.start.above) s
      (tells_both job.limits.aborts x y f.start i.outer i.others (phase_behind y) m k v.leaving.tells q.leaves.leaving.tells))
      (λ s. parted_split y (q.split (right_not_stopped m k s)) ∙ ap (λ (j : ℕ). Parted j) q.number)) where
        to_merge : (how : Mode) (w : Token) → ((how ≡ mode.Stopped → ⊥) → IsOn job.limits.aborts w) → ((how ≡ mode.Stopped → ⊥) → w.phase ≡ Parted n) → IsToMerge job.limits.aborts how w n
        to_merge mode.Goes w on there = (on goes_on, there goes_on)
        to_merge (mode.Dies to) w on there = (on (dies_on to), there (dies_on to))
        to_merge mode.Stopped w on there = tt
        to_merge mode.Waits w on there = (on waits_on, there waits_on)

  meets_behind : (x y z u : Token) (m k : Mode) (left right : InBlocks) (n g : ℕ) (half theirs : Binding (Memo T)) (bs : List (Below T J)) (b : Base T J) → IsRunning job of x left m (bs ++ below.Left n half ∷ []) b → MayEnd m x left
      → IsRunning {T = T} {J = J} job of y right k [] (base.Right g theirs) → MayEnd k y right → half.of ≡ theirs.of → z ≡ taken_in x y → IsMerged (mode_of_both m k) z u → IsBehind job of (mode_of_both m k) u right left bs b
  meets_behind x y z u m k left right n g half theirs bs b r may r2 may2 same e merged_so =
      let q = met x y m k left right n g half theirs bs b r may r2 may2 same in
      let f = q.ended in
      let i = left_of job of x left m bs b n half f in
      let (p, u_is, phase) = merged_there (mode_of_both m k) f.start i.outer i.others (joined_there x y z f.start i.outer i.others n i.forks e) merged_so in
      joined_behind x y u m k left right n half bs b f q.course p q.first (both_not_waits m k q.first q.second) q.leaves phase u_is where
        merged_there : (how : Mode) (a : Start) (t : Trail StrandState) (os : List Open) → z ≡ as_one x y a t os (phase_behind y) → IsMerged how z u → (p : Phase) × (u ≡ as_one x y a t os p) × ((how ≡ mode.Stopped → ⊥) → p ≡ Going)
        merged_there mode.Goes a t os d h = (Going, h ∙ ap (λ w. merged w) d, λ s. refl)
        merged_there (mode.Dies to) a t os d h = (Going, h ∙ ap (λ w. merged w) d, λ s. refl)
        merged_there mode.Stopped a t os d h = (phase_behind y, h ∙ d, λ s. absurd (s refl))
        merged_there mode.Waits a t os d h = (Going, h ∙ ap (λ w. merged w) d, λ s. refl)

  -- ## What the functions ask

  pub alone : (y : Token) (right : InBlocks) (k : Mode) (rest : List (Below T J)) (b : Base T J) → rest ≡ [] → IsRunning job of y right k rest b → IsRunning job of y right k [] b
  alone y right k rest b e r = subst (λ (us : List (Below T J)). IsRunning job of y right k us b) e r

  pub met_join : (x y : Token) (m k : Mode) (left right : InBlocks) (n g : ℕ) (half theirs : Binding (Memo T)) (bs rest : List (Below T J)) (b : Base T J) → rest ≡ [] → IsRunning job of x left m (bs ++ below.Left n half ∷ []) b → MayEnd m x left
      → IsRunning job of y right k rest (base.Right g theirs) → MayEnd k y right → half.of ≡ theirs.of → AreOfOneFork x y × (IsDone x × IsDone y)
  met_join x y m k left right n g half theirs bs rest b e r may r2 may2 same =
      let s = alone y right k rest (base.Right g theirs) e r2 in
      (meets_fork x y m k left right n g half theirs bs b r may s may2 same, meets_done x y m k left right n g half theirs bs b r may s may2 same)

  pub met_merge : (x y z : Token) (m k how : Mode) (left right : InBlocks) (n g : ℕ) (half theirs : Binding (Memo T)) (bs rest : List (Below T J)) (b : Base T J) → how ≡ mode_of_both m k → rest ≡ []
      → IsRunning job of x left m (bs ++ below.Left n half ∷ []) b → MayEnd m x left → IsRunning job of y right k rest (base.Right g theirs) → MayEnd k y right → half.of ≡ theirs.of → z ≡ taken_in x y
      → IsToMerge job.limits.aborts how z n
  met_merge x y z m k how left right n g half theirs bs rest b is e r may r2 may2 same joined_so =
      subst (λ (q : Mode). IsToMerge job.limits.aborts q z n) (sym is)
      (meets_merge x y z m k left right n g half theirs bs b r may (alone y right k rest (base.Right g theirs) e r2) may2 same joined_so)

  pub met_behind : (x y z u : Token) (m k how : Mode) (left right : InBlocks) (n g : ℕ) (half theirs : Binding (Memo T)) (bs rest : List (Below T J)) (b : Base T J) → how ≡ mode_of_both m k → rest ≡ []
      → IsRunning job of x left m (bs ++ below.Left n half ∷ []) b → MayEnd m x left → IsRunning job of y right k rest (base.Right g theirs) → MayEnd k y right → half.of ≡ theirs.of → z ≡ taken_in x y
      → IsMerged how z u → IsBehind job of how u right left bs b
  met_behind x y z u m k how left right n g half theirs bs rest b is e r may r2 may2 same joined_so merged_so =
      subst (λ (q : Mode). IsBehind job of q u right left bs b) (sym is)
      (meets_behind x y z u m k left right n g half theirs bs b r may (alone y right k rest (base.Right g theirs) e r2) may2 same joined_so (subst (λ (q : Mode). IsMerged q z u) is merged_so))

  -- ## The right one was not started

  pub unstarted_behind : (x y z : Token) (m : Mode) (left right : InBlocks) (n g : ℕ) (half theirs : Binding (Memo T)) (bs : List (Below T J)) (b : Base T J) → (m ≡ mode.Goes → ⊥)
      → IsRunning job of x left m (bs ++ below.Left n half ∷ []) b → MayEnd m x left → IsRunning {T = T} {J = J} job of y right mode.Waits [] (base.Right g theirs) → half.of ≡ theirs.of → z ≡ taken_in x y
      → IsBehind job of m z right left bs b
  unstarted_behind x y z m left right n g half theirs bs b dead r may r2 same e =
      let f = finished job of x left m (bs ++ below.Left n half ∷ []) b r may in
      let i = left_of job of x left m bs b n half f in
      let u = unstarted job of y right g half theirs (right_begins job of i) r2 same i.is_half in
      let first = not_waiting x left may in
      subst (λ (how : Mode). IsBehind job of how z right left bs b) (both_waits m dead)
      (joined_behind x y z m mode.Waits left right n half bs b f nothing (phase_behind y) first (λ q. first (sym (both_waits m dead) ∙ q)) (unstarted_leaves job f.run y right (right_begins job of i) u)
      (λ s. goes_unsplit y u.fits.split) (joined_there x y z f.start i.outer i.others n i.forks e))

  pub unstarted_fork : (x y : Token) (m : Mode) (left right : InBlocks) (n g : ℕ) (half theirs : Binding (Memo T)) (bs : List (Below T J)) (b : Base T J)
      → IsRunning job of x left m (bs ++ below.Left n half ∷ []) b → MayEnd m x left → IsRunning {T = T} {J = J} job of y right mode.Waits [] (base.Right g theirs) → half.of ≡ theirs.of → AreOfOneFork x y
  unstarted_fork x y m left right n g half theirs bs b r may r2 same =
      let f = finished job of x left m (bs ++ below.Left n half ∷ []) b r may in
      let i = left_of job of x left m bs b n half f in
      let u = unstarted job of y right g half theirs (right_begins job of i) r2 same i.is_half in
      record { inner = opened (Beside n) f.start i.outer; outer = i.others; left = i.forks; fork = ap (λ (j : ℕ). Beside j) (sym u.fits.fork); right = u.none }

  pub unstarted_done : (x y : Token) (m : Mode) (left right : InBlocks) (n g : ℕ) (half theirs : Binding (Memo T)) (bs : List (Below T J)) (b : Base T J)
      → IsRunning job of x left m (bs ++ below.Left n half ∷ []) b → MayEnd m x left → IsRunning {T = T} {J = J} job of y right mode.Waits [] (base.Right g theirs) → half.of ≡ theirs.of → IsDone x × IsDone y
  unstarted_done x y m left right n g half theirs bs b r may r2 same =
      let f = finished job of x left m (bs ++ below.Left n half ∷ []) b r may in
      let i = left_of job of x left m bs b n half f in
      let u = unstarted job of y right g half theirs (right_begins job of i) r2 same i.is_half in
      (f.leaves.done, inr (u.fits.place ∙ sym u.fits.strand, λ k e. waiting_not_parted k (sym u.stands.phase ∙ e)))
