-- Before the first move all is kept.
use Rattle.std.proofs.Common.{◌≡◌, ℕ, zero, suc, ◌-◌, ◌<◌, List, ◌∷◌, length, refl, ap, sym, subst, arith, true, false, Some}
use Rattle.std.specs.Prelude.{◌&&◌, ◌||◌, not, ℤ, replicate, slice_get}
use Rattle.std.proofs.lemmas.Option.{same_Some}
use Rattle.cw_tree.specs.declared.node.Node.{Node}
use Rattle.cw_tree.specs.declared.node.Kind.TheVariants.{Strand}
use Rattle.cw_tree.specs.Nodes.{is_fork, is_strand, is_block, fresh_node}
use Rattle.cw_tree.specs.Walks.{has}
use Rattle.cw_tree.specs.Series.{children}
use Rattle.cw_strand.specs.Strands.{Strands, is_over}
use Rattle.cw_open.specs.Machine.{has_finished, finished_dead}
use Rattle.cw_core.specs.State.{CoreState, start}
use Rattle.cw_core.proofs.Events.Kept.{starts}
use Rattle.cw_record.specs.Coherent.{InSeries, IsWanted, entered}
use Rattle.cw_sim.specs.Workers.{Worker, idle, waiting, worker_in, Simulation, tree, first_simulation}
use Rattle.cw_sim.specs.Kept.{Fits, CoreGoesOn, HasStates}
use Rattle.cw_sim.specs.Laws.{OpensWell}
use Rattle.cw_sim.proofs.Laws.Ready.{main_ready}

-- among idle workers each is
idle_in : (n i : ℕ) → worker_in (replicate n idle) i ≡ idle
idle_in zero i = refl
idle_in (suc n) zero = refl
idle_in (suc n) (suc i) = idle_in n i

module _ (first : List ℤ) (room budget : ℕ) where
  abbrev k : CoreState
  k = start first room budget

  no_fork : (f : ℕ) → is_fork k.machine.tree f ≡ false
  no_fork zero = refl
  no_fork (suc f) = refl

  goes : 0 < room → CoreGoesOn first k
  goes some = record {
    core = starts first room budget some;
    halt = refl;
    spent = refl;
    stopped = refl;
    forks = λ f e. absurd (cc (e, no_fork f));
    outside = λ f e apart split. absurd (cc (e, no_fork f));
  }

  abbrev all : ℕ → List Worker
  all n = record idle { runs = Some 0 } ∷ replicate n idle

  fits : (n w : ℕ) → Fits k (worker_in (all n) w) (worker_in (all n) w).runs
  fits n zero = record { running = refl; ready = main_ready k; forks = refl; deque = λ f e. absurd (cc e); inline = λ f e. absurd (cc e); to_come = λ f e. absurd (cc e) }
  fits n (suc i) = let P : Worker → Type 0 = λ x. Fits k x x.runs in subst P (sym (idle_in n i)) (record { deque = refl; inline = refl })

  one : (n v w x : ℕ) → (worker_in (all n) v).runs ≡ Some x → (worker_in (all n) w).runs ≡ Some x → v ≡ w
  one n zero zero x e q = refl
  one n (suc i) w x e q = absurd (let z = ap (λ y. y.runs) (idle_in n i) in cc (e, z))
  one n zero (suc i) x e q = absurd (let z = ap (λ y. y.runs) (idle_in n i) in cc (q, z))

  none : (n v f : ℕ) → has (waiting (worker_in (all n) v)) f ≡ true → ⊥
  none n zero f e = absurd (cc e)
  none n (suc i) f e = absurd (let z = ap (λ y. has (waiting y) f) (idle_in n i) in cc (e, z))

module _ {A : Type 0} (s : Strands A) (first : List ℤ) (room budget workers : ℕ) where
  abbrev m : Simulation A
  m = first_simulation first room budget workers s.start

  abbrev all_start : ℕ → A
  all_start n = s.start

  series : (n : ℕ) → n < length (tree m) → (is_strand (tree m) n || is_block (tree m) n) ≡ true → InSeries all_start all_start (entered s (tree m) all_start all_start all_start n) (children (tree m) n) (all_start n)
  series zero low e = refl
  series (suc n) low e = absurd (omega arith)

  wanted : (n : ℕ) (x : Node) → slice_get (tree m) n ≡ Some x → IsWanted s (tree m) all_start all_start all_start n x.kind x.state
  wanted zero x e =
      let P : Node → Type 0 = λ y. IsWanted s (tree m) all_start all_start all_start 0 y.kind y.state in
      subst P (same_Some (fresh_node 0 Strand 0) x e) tt
  wanted (suc n) x e = absurd (cc e)

  none_over : (x : ℕ) → (is_strand (tree m) x && has_finished m.core.machine x && not (finished_dead m.core.machine x)) ≡ true → is_over (s.want (all_start x)) ≡ true
  none_over zero e = absurd (cc e)
  none_over (suc x) e = absurd (cc e)

  -- main stands at its start before, in and after all nodes
  states : HasStates s m
  states = (
    all_start,
    all_start,
    all_start,
    record {
      states = record { start = refl; series = series; fits = wanted; joined = λ f l r e. absurd (cc e); over = none_over };
      forks = λ f e. absurd (cc (e, no_fork first room budget f));
      strands = λ x e w. refl;
      saved = λ b e. refl;
    },
  )

pub opens : {A : Type 0} (s : Strands A) → OpensWell s
opens s first room budget workers some = record {
  core = goes first room budget some;
  workers = record { fit = fits first room budget (workers - 1); apart = one first room budget (workers - 1); once = λ v w f e q. absurd (none first room budget (workers - 1) v f e) };
  states = states s first room budget workers;
}
