-- A fork is taken from a worker in memory as from one of the definitions.
use Rattle.std.proofs.Common.{◌≡◌, ℕ, ◌<◌, List, [], ◌∷◌, length, refl, ap, sym, ◌∙◌, subst, arith, Option, Some, None, true, inl, inr}
use Rattle.std.specs.Prelude.{slice_set}
use Rattle.std.proofs.lemmas.Bool.{cases_lt}
use Rattle.std.proofs.lemmas.List.{length-map, length-set}
use Rattle.cw_core.specs.declared.event.Event.TheVariants as event
use Rattle.cw_core.specs.State.{CoreState}
use Rattle.cw_core.specs.Events.{fits, after_event}
use Rattle.cw_core.specs.Laws.{IsCore}
use Rattle.cw_core.proofs.Events.Going.{well}
use Rattle.cw_job.specs.Room.Strands.{StrandState}
use Rattle.cw_sim.specs.Workers.{Worker, Simulation, right_node, worker, worker_in}
use Rattle.cw_sim.specs.Moves.{others, take_fork, steal}
use Rattle.cw_sim.specs.WorkersInMemory.{worker_of, workers_of, first_with_forks, workers_next as workers_after}
use Rattle.cw_sim.specs.InMemory.{Seen, StandsFor, IsSteady, MayMove, MayTake, Comes}
use Rattle.cw_sim.specs.declared.worker.WorkerInMemory.{WorkerInMemory}
use Rattle.cw_sim.specs.declared.moves.Driver.{Driver}
use Rattle.cw_sim.proofs.Laws.EventsFit.{robbed_here, split_fits_here}
use Rattle.cw_sim.proofs.Kept.Halves.{right_child}
use Rattle.cw_sim.proofs.Kept.Workers.{worker_past}

-- the oldest fork of a deque that has one
record Oldest (ds : List ℕ) : Type 0 where
  pub fork : ℕ
  pub rest : List ℕ
  pub is : ds ≡ fork ∷ rest

oldest : (ds : List ℕ) → 0 < length ds → Oldest ds
oldest [] some = absurd (omega (arith, some))
oldest (d ∷ ds) some = record { fork = d; rest = ds; is = refl }

-- what a simulation stands for it comes to, where nothing is done
pub as_it_is : (c : Driver) (z : Seen) → IsSteady c z → Comes c z z.m
as_it_is c z steady = (z.there, (steady.stands, steady.inside))

-- ## The first of other workers with forks

module _ {A : Type 0} (m : Simulation A) (w : ℕ) where
  -- it gives its oldest fork
  steals_some : (vs : List ℕ) (v f : ℕ) (fs : List ℕ) → first_with_forks m.workers vs ≡ Some v → (worker m v).deque ≡ f ∷ fs → steal w vs m ≡ take_fork w v f fs m
  steals_some [] v f fs e d = absurd (cc e)
  steals_some (u ∷ us) v f fs e d = by (steals_some us v f fs) (worker m u).deque refl e where
    by : (first_with_forks m.workers us ≡ Some v → (worker m v).deque ≡ f ∷ fs → steal w us m ≡ take_fork w v f fs m) → (ds : List ℕ) → (worker m u).deque ≡ ds → elim ds [ [] ↦ first_with_forks m.workers us | g ∷ gs ↦ Some u ] ≡ Some v
        → elim ds [ [] ↦ steal w us m | g ∷ gs ↦ take_fork w u g gs m ] ≡ take_fork w v f fs m
    by later [] q h = later h d
    by later (g ∷ gs) q h =
        let same : u ≡ v = cc in
        let all : g ∷ gs ≡ f ∷ fs = sym q ∙ ap (λ i. (worker m i).deque) same ∙ d in
        let head : g ≡ f = cc in
        let rest : gs ≡ fs = cc in
        ap (λ i. take_fork w i g gs m) same ∙ ap (λ n. take_fork w v n gs m) head ∙ ap (λ ns. take_fork w v f ns m) rest

  -- where there is none nothing happens
  steals_none : (vs : List ℕ) → first_with_forks m.workers vs ≡ None → steal w vs m ≡ m
  steals_none [] e = refl
  steals_none (u ∷ us) e = by (steals_none us) (worker m u).deque e where
    by : (first_with_forks m.workers us ≡ None → steal w us m ≡ m) → (ds : List ℕ) → ◌≡◌ {A = Option ℕ} (elim ds [ [] ↦ first_with_forks m.workers us | g ∷ gs ↦ Some u ]) None → elim ds [ [] ↦ steal w us m | g ∷ gs ↦ take_fork w u g gs m ] ≡ m
    by later [] h = later h
    by later (g ∷ gs) h = absurd (cc h)

-- it is there, and has one
found_some : (ws : List Worker) (vs : List ℕ) (v : ℕ) → first_with_forks ws vs ≡ Some v → 0 < length (worker_in ws v).deque
found_some ws [] v e = absurd (cc e)
found_some ws (u ∷ us) v e = by (found_some ws us v) (worker_in ws u).deque refl e where
  by : (first_with_forks ws us ≡ Some v → 0 < length (worker_in ws v).deque) → (ds : List ℕ) → (worker_in ws u).deque ≡ ds → elim ds [ [] ↦ first_with_forks ws us | g ∷ gs ↦ Some u ] ≡ Some v → 0 < length (worker_in ws v).deque
  by later [] q h = later h
  by later (g ∷ gs) q h =
      let same : u ≡ v = cc in
      let n : length (worker_in ws v).deque ≡ length (g ∷ gs) = ap length (ap (λ i. (worker_in ws i).deque) (sym same) ∙ q) in
      omega (arith, n)

some_there : (ws : List Worker) (v : ℕ) → 0 < length (worker_in ws v).deque → v < length ws
some_there ws v some = elim (cases_lt v (length ws)) [ inl h ↦ h | inr h ↦ absurd (let none = ap (λ u. length u.deque) (worker_past ws v h) in omega (arith, none, some)) ]

module _ (c : Driver) (w : ℕ) (z : Seen) (may : MayMove c w z) (now : List WorkerInMemory) (read : now ≡ c.workers.items) (r : Option ℕ) (is : r ≡ first_with_forks (workers_of now) (workers_after w (length now))) where
  -- what was found in memory
  found : first_with_forks z.m.workers (others z.m w) ≡ r
  found =
      let there : workers_of now ≡ z.m.workers = ap workers_of read ∙ may.steady.stands.workers in
      let count : length now ≡ length z.m.workers = sym (length-map now worker_of) ∙ ap length there in
      sym (is ∙ ap (λ ws. first_with_forks ws (workers_after w (length now))) there ∙ ap (λ n. first_with_forks z.m.workers (workers_after w n)) count)

  -- a fork may be taken from it
  pub may_take : (v : ℕ) → r ≡ Some v → MayTake c w v z
  may_take v e =
      let some = found_some z.m.workers (others z.m w) v (found ∙ e) in
      record { may = may; there = some_there z.m.workers v some; some = some }

  -- what comes of the taking comes of the stealing
  pub stolen : (v : ℕ) → r ≡ Some v → (d : Driver) → (MayTake c w v z → (f : ℕ) (fs : List ℕ) → (worker z.m v).deque ≡ f ∷ fs → Comes d z (take_fork w v f fs z.m)) → Comes d z (steal w (others z.m w) z.m)
  stolen v e d comes =
      let first = oldest (worker z.m v).deque (may_take v e).some in
      let P : Simulation StrandState → Type 0 = λ m. Comes d z m in
      subst P (sym (steals_some z.m w (others z.m w) v first.fork first.rest (found ∙ e) first.is)) (comes (may_take v e) first.fork first.rest first.is)

  -- where there is none nothing comes of it
  pub none_stolen : r ≡ None → Comes c z (steal w (others z.m w) z.m)
  none_stolen e =
      let P : Simulation StrandState → Type 0 = λ m. Comes c z m in
      subst P (sym (steals_none z.m w (others z.m w) (found ∙ e))) (as_it_is c z may.steady)

-- ## A fork is taken

-- what taking the oldest fork of worker v says
abbrev pub TakesOldest : (old new : List Worker) (v : ℕ) → Option ℕ → Type 0
TakesOldest old new v r = (f : ℕ) (fs : List ℕ) → (worker_in old v).deque ≡ f ∷ fs → (r ≡ Some f) × (new ≡ slice_set old v (record (worker_in old v) { deque = fs }))

module _ (c : Driver) (w v : ℕ) (z : Seen) (may : MayTake c w v z) (r : Option ℕ) (new : List WorkerInMemory) (took : TakesOldest (workers_of c.workers.items) (workers_of new) v r) where
  abbrev k : CoreState
  k = z.m.core

  in_memory : (f : ℕ) (fs : List ℕ) → (worker z.m v).deque ≡ f ∷ fs → (worker_in (workers_of c.workers.items) v).deque ≡ f ∷ fs
  in_memory f fs e = ap (λ ws. (worker_in ws v).deque) may.may.steady.stands.workers ∙ e

  taken : (f : ℕ) (fs : List ℕ) → (worker z.m v).deque ≡ f ∷ fs → r ≡ Some f
  taken f fs e = (took f fs (in_memory f fs e)).0

  -- its deque has one
  first_fork : Oldest (worker z.m v).deque
  first_fork = oldest (worker z.m v).deque may.some

  -- there is one
  pub some_taken : ((x : ℕ) → r ≡ Some x → ⊥) → ⊥
  some_taken none = none first_fork.fork (taken first_fork.fork first_fork.rest first_fork.is)

  -- the workers, once it is taken
  robbed_workers : (f : ℕ) (fs : List ℕ) → (worker z.m v).deque ≡ f ∷ fs → workers_of new ≡ slice_set z.m.workers v (record (worker z.m v) { deque = fs })
  robbed_workers f fs e = (took f fs (in_memory f fs e)).1 ∙ ap (λ ws. slice_set ws v (record (worker_in ws v) { deque = fs })) may.may.steady.stands.workers

  -- as many as there were
  pub still_there : w < length new
  still_there =
      let n = ap length (robbed_workers first_fork.fork first_fork.rest first_fork.is) in
      let one : length (workers_of new) ≡ length new = length-map new worker_of in
      let two = length-set z.m.workers v (record (worker z.m v) { deque = first_fork.rest }) in
      let low = may.may.there in
      omega (arith, n, one, two, low)

  module _ (fork : ℕ) (is : r ≡ Some fork) where
    same : (f : ℕ) (fs : List ℕ) → (worker z.m v).deque ≡ f ∷ fs → fork ≡ f
    same f fs e = let t = taken f fs e in cc

    waits : (worker z.m v).deque ≡ fork ∷ first_fork.rest
    waits = first_fork.is ∙ ap (λ g. g ∷ first_fork.rest) (sym (same first_fork.fork first_fork.rest first_fork.is))

    -- its split fits
    pub split_fits : fits c.core (event.Split fork) ≡ true
    split_fits =
        ap (λ j. fits j (event.Split fork)) may.may.steady.stands.core
        ∙ split_fits_here k.machine.first k may.may.steady.core z.m.workers may.may.workers v fork first_fork.rest waits

    -- its right strand is a node
    pub right_there : (j : CoreState) → j ≡ after_event c.core (event.Split fork) → right_node fork < length j.machine.tree
    right_there j e =
        let robbed = robbed_here k.machine.first k may.may.steady.core z.m.workers may.may.workers v fork first_fork.rest waits in
        let low = (right_child k.machine.tree (well k.machine.first k may.may.steady.core.core).sound.tree may.may.steady.core.forks fork robbed.here.fork).there in
        let n : length j.machine.tree ≡ length k.machine.tree = ap (λ i. length i.machine.tree) e ∙ ap (λ i. length i.machine.tree) may.may.steady.stands.core in
        omega (arith, n, low)

    -- once it was split, and worker w has its right strand
    pub taken_comes : (j : CoreState) (rest : Driver) → j ≡ after_event c.core (event.Split fork) → IsCore j.machine.first j
        → workers_of rest.workers.items ≡ slice_set (workers_of new) w (record (worker_in (workers_of new) w) { runs = Some (right_node fork) })
        → (f : ℕ) (fs : List ℕ) → (worker z.m v).deque ≡ f ∷ fs → Comes (record c { core = j; workers = rest.workers }) z (take_fork w v f fs z.m)
    taken_comes j rest e core ran f fs q = (
      z.there,
      (
        record {
          job = st.job;
          core = now;
          is_core = (let P : CoreState → Type 0 = λ i. IsCore i.machine.first i in subst P now core);
          workers =
              ran ∙ ap (λ ws. slice_set ws w (record (worker_in ws w) { runs = Some (right_node fork) })) (robbed_workers f fs q)
              ∙ ap (λ g. (let ws = slice_set z.m.workers v (record (worker z.m v) { deque = fs }) in slice_set ws w (record (worker_in ws w) { runs = Some (right_node g) }))) (same f fs q);
          bodies = λ x has. (let b = st.bodies x has in (b.0, b.1, record { program = b.2.program; at = b.2.at; like = b.2.like }));
          saved = λ b pending. st.saved b pending;
        },
        may.may.steady.inside,
      ),
    ) where
      st : StandsFor c z
      st = may.may.steady.stands

      now : j ≡ after_event k (event.Split f)
      now = e ∙ ap (λ i. after_event i (event.Split fork)) st.core ∙ ap (λ g. after_event k (event.Split g)) (same f fs q)
