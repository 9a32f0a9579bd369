-- The events that a worker makes fit where it makes them.
use Rattle.std.proofs.Common.{◌≡◌, ℕ, ◌<◌, List, [], ◌∷◌, ◌++◌, length, refl, ap, sym, ◌∙◌, arith, Bool, true, false, Option, Some, None, nat_eq, nat_lt}
use Rattle.std.specs.Prelude.{◌&&◌, ◌||◌, not, filter, ℤ}
use Rattle.std.specs.List.{list_any}
use Rattle.std.proofs.lemmas.Bool.{and_from, or_left, or_right, eq-eqb, lt-ltb}
use Rattle.cw_tree.specs.declared.node.Node.{Node}
use Rattle.cw_tree.specs.Nodes.{parent_of, is_strand, is_fork}
use Rattle.cw_tree.specs.Walks.{has, is_ancestor}
use Rattle.cw_tree.specs.Series.{children}
use Rattle.cw_tree.specs.Shape.{IsTree}
use Rattle.cw_open.specs.Machine.{OpenMachine, has_finished, finished_dead, in_block, is_dying, is_free, rolls_back}
use Rattle.cw_open.specs.Runs.{left_died}
use Rattle.cw_open.proofs.Open.Standing.{runs}
use Rattle.cw_core.specs.declared.event.Event.TheVariants as event
use Rattle.cw_tree.proofs.Walks.There.{strand_there}
use Rattle.cw_open.proofs.Open.Kinds.{open_unjoined}
use Rattle.cw_core.specs.State.{CoreState, has_columns, is_split}
use Rattle.cw_core.specs.Events.{fits, after_event, is_early}
use Rattle.cw_core.proofs.Events.Going.{well}
use Rattle.cw_sim.specs.Workers.{Worker, left_node, right_node, worker_in}
use Rattle.cw_sim.specs.Kept.{Runs, AreWorkers, CoreGoesOn}
use Rattle.cw_sim.proofs.Kept.Around.{Waits, waits_around}
use Rattle.cw_sim.proofs.Laws.Deques.{oldest_may, unjoined_around}
use Rattle.cw_sim.proofs.Kept.Finishing.{goes, takes_right, done, none_beneath as none_in_right}
use Rattle.cw_sim.proofs.Laws.Fits.{fork_fits, begin_fits, out_fits, cancel_fits, access_fits, commit_fits, rolls, roll_fits, finish_fits, finish_after_dead, split_fits, join_fits, free}
use Rattle.cw_sim.proofs.Kept.Halves.{right_child, right_strand, strand_open}
use Rattle.cw_sim.proofs.Laws.MoveFresh.{no_children, no_block, unstarted}
use Rattle.cw_sim.proofs.Laws.Unsplit.{none_beneath}
use Rattle.cw_sim.proofs.Kept.Workers.{has_front, runs_in, idle_in}

module _ (first : List ℤ) (k : CoreState) (on : CoreGoesOn first k) (ws : List Worker) (old : AreWorkers k ws) (w x : ℕ) (run : (worker_in ws w).runs ≡ Some x) where
  abbrev m : OpenMachine
  m = k.machine

  abbrev t : List Node
  t = m.tree

  abbrev here : Worker
  here = worker_in ws w

  tree : IsTree t
  tree = (well first k on.core).sound.tree

  at : Runs k here x
  at = runs_in k ws w x old run

  pub strand_here : is_strand t x ≡ true
  strand_here = (runs m tree (well first k on.core).nested x at.running).strand

  -- ## A strand that is not dying

  pub is_free_here : is_dying m x ≡ false → is_free m x ≡ true
  is_free_here = free first k on x at.running at.ready

  pub fork_fits_here : is_dying m x ≡ false → fits k (event.Fork x) ≡ true
  fork_fits_here = fork_fits first k on x at.running at.ready

  pub begin_fits_here : is_dying m x ≡ false → fits k (event.Begin x) ≡ true
  begin_fits_here = begin_fits first k on x at.running at.ready

  pub out_fits_here : (v : ℤ) → is_dying m x ≡ false → fits k (event.Out x v) ≡ true
  out_fits_here = out_fits first k on x at.running at.ready

  pub cancel_fits_here : is_dying m x ≡ false → in_block m x ≡ true → fits k (event.Cancel x) ≡ true
  cancel_fits_here = cancel_fits first k on x at.running at.ready

  pub access_fits_here : (c : ℕ) (write : Option ℤ) → is_dying m x ≡ false → c < length first → fits k (event.Access x c write) ≡ true
  access_fits_here = access_fits first k on x at.running at.ready

  pub commit_fits_here : is_dying m x ≡ false → in_block m x ≡ true → fits k (event.Commit x) ≡ true
  commit_fits_here = commit_fits first k on x at.running at.ready

  -- ## A strand that is dying, or at its end

  pub rolls_here : is_dying m x ≡ true → in_block m x ≡ true → rolls_back m x ≡ true
  rolls_here = rolls first k on x at.running at.ready

  pub roll_fits_here : is_dying m x ≡ true → in_block m x ≡ true → fits k (event.Roll x) ≡ true
  roll_fits_here = roll_fits first k on x at.running at.ready

  pub finish_fits_here : (dead : Bool) → is_dying m x ≡ dead → in_block m x ≡ false → fits k (event.Finish x dead) ≡ true
  finish_fits_here = finish_fits first k on x at.running at.ready

  -- ## After the strand has finished

  module _ (dead : Bool) (fit : fits k (event.Finish x dead) ≡ true) where
    abbrev z : CoreState
    z = after_event k (event.Finish x dead)

    pub goes_finished : CoreGoesOn first z
    goes_finished = goes first k on x dead at.running at.ready fit

    -- unless it is main, it is a strand of a fork
    module _ (some : 0 < x) where
      abbrev f : ℕ
      f = parent_of t x

      pub fork_here : is_fork t f ≡ true
      fork_here = tree.strands x (strand_there t x strand_here) some strand_here

      pub unjoined_here : has m.joined f ≡ false
      unjoined_here =
          let nested = (well first k on.core).nested in
          let it = runs m tree nested x at.running in
          open_unjoined m f fork_here (nested.outer x some (strand_there t x strand_here) (strand_open m x strand_here it.unfinished))

      pub join_fits_here : has_finished z.machine (left_node f) ≡ true → has_finished z.machine (right_node f) ≡ true → fits z (event.Join f) ≡ true
      join_fits_here = join_fits first z goes_finished f fork_here unjoined_here

  -- ## A left strand has finished dead: its right one does too, and they join

  module _ (fit : fits k (event.Finish x true) ≡ true) (f : ℕ) (fork : is_fork t f ≡ true) (unjoined : has m.joined f ≡ false) (off : is_split k f ≡ false) (left : x ≡ left_node f) where
    abbrev dead_z : CoreState
    dead_z = after_event k (event.Finish x true)

    abbrev right_z : CoreState
    right_z = after_event dead_z (event.Finish (right_node f) true)

    goes_dead : CoreGoesOn first dead_z
    goes_dead = goes first k on x true at.running at.ready fit

    abbrev without : List ℕ → List ℕ
    without = filter (λ g. not (nat_eq g f))

    to_right : Runs dead_z (record here { runs = Some (right_node f); deque = without here.deque; inline = without here.inline }) (right_node f)
    to_right = takes_right first k on x true at.running at.ready fit here f fork off left at

    strand : is_strand t (right_node f) ≡ true
    strand = right_strand t tree on.forks f fork

    fresh : (n : ℕ) → n < length t → is_ancestor t (right_node f) n ≡ true → n ≡ right_node f
    fresh = none_in_right first k on x true at.running at.ready fit here f fork off left at

    died : left_died dead_z.machine (right_node f) ≡ true
    died =
        and_from (nat_eq (length (children t (right_node f))) 0) (list_any (λ l. nat_lt l (right_node f) && finished_dead dead_z.machine l) (children t (parent_of t (right_node f))))
        (ap (λ cs. nat_eq (length cs) 0) (no_children dead_z.machine tree (right_node f) strand fresh))
        (ap (λ g. list_any (λ l. nat_lt l (right_node f) && finished_dead dead_z.machine l) (children t g)) (right_child t tree on.forks f fork).parent
        ∙ ap (list_any (λ l. nat_lt l (right_node f) && finished_dead dead_z.machine l)) (on.forks f fork)
        ∙ or_left (nat_lt (left_node f) (right_node f) && finished_dead dead_z.machine (left_node f)) (nat_lt (right_node f) (right_node f) && finished_dead dead_z.machine (right_node f) || false)
        (and_from (nat_lt (left_node f) (right_node f)) (finished_dead dead_z.machine (left_node f)) (lt-ltb (left_node f) (right_node f) (omega arith))
        (or_left (nat_eq x (left_node f) && true) (finished_dead m (left_node f)) (and_from (nat_eq x (left_node f)) true (eq-eqb x (left_node f) left) refl))))

    pub right_fits_here : fits dead_z (event.Finish (right_node f) true) ≡ true
    right_fits_here = finish_after_dead first dead_z goes_dead (right_node f) to_right.running to_right.ready (no_block dead_z.machine tree (right_node f) strand fresh) died

    pub goes_right : CoreGoesOn first right_z
    goes_right = goes first dead_z goes_dead (right_node f) true to_right.running to_right.ready right_fits_here

    pub both_fit_here : fits right_z (event.Join f) ≡ true
    both_fit_here =
        join_fits first right_z goes_right f fork unjoined
        (or_right (nat_eq (right_node f) (left_node f)) (has_finished dead_z.machine (left_node f)) (ap (has_finished dead_z.machine) (sym left) ∙ done first k on x true at.running at.ready fit))
        (done first dead_z goes_dead (right_node f) true to_right.running to_right.ready right_fits_here)

-- ## A fork is taken from a worker's deque

module _ (first : List ℤ) (k : CoreState) (on : CoreGoesOn first k) (ws : List Worker) (old : AreWorkers k ws) (v f : ℕ) (fs : List ℕ) (e : (worker_in ws v).deque ≡ f ∷ fs) where
  abbrev from : Worker
  from = worker_in ws v

  -- the worker runs a strand, around which f waits, and nothing further out
  pub record IsRobbed : Type 0 where
    pub strand : ℕ
    pub run : from.runs ≡ Some strand
    pub at : Runs k from strand
    pub here : Waits k strand f []

  pub robbed_here : IsRobbed
  robbed_here = by from.runs refl where
    by : (r : Option ℕ) → from.runs ≡ r → IsRobbed
    by None q = absurd (let idle = idle_in k ws v old q in let none = idle.deque in cc (none, e))
    by (Some y) q =
        let tree = (well first k on.core).sound.tree in
        let at = runs_in k ws v y old q in
        record { strand = y; run = q; at = at; here = waits_around k tree on.forks y (strand_here first k on ws old v y q) [] (fs ++ from.inline) f (sym at.forks ∙ ap (λ ds. ds ++ from.inline) e) }

  pub has_here : has from.deque f ≡ true
  has_here = ap (λ ds. has ds f) e ∙ or_left (nat_eq f f) (has fs f) (eq-eqb f f refl)

  pub columns_here : has_columns k f ≡ true
  columns_here = robbed_here.at.deque f has_here

  pub early_here : is_early k f ≡ None
  early_here = oldest_may first k on from from.runs (old.fit v) f fs e

  -- its right strand is still to come
  pub unfinished_here : has_finished k.machine (right_node f) ≡ false
  unfinished_here = robbed_here.at.to_come f (has_front from.deque from.inline f has_here)

  pub split_fits_here : fits k (event.Split f) ≡ true
  split_fits_here =
      let r = robbed_here in
      let tree = (well first k on.core).sound.tree in
      let right = right_strand k.machine.tree tree on.forks f r.here.fork in
      let none = no_children k.machine tree (right_node f) right (none_beneath first k on r.strand f [] r.at.running r.here) in
      split_fits first k on f r.here.fork columns_here r.here.split (unjoined_around first k on r.strand f [] r.at.running r.here) (unstarted k f on.forks r.here.fork none unfinished_here)
