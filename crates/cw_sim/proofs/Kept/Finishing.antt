-- A strand finishes: what follows of the core, of the other workers, and of the right strand that is taken back.
use Rattle.std.proofs.Common.{◌≡◌, ◌≢◌, ℕ, ◌<◌, List, [], ◌∷◌, ◌++◌, length, refl, ap, sym, ◌∙◌, subst, arith, Bool, true, false, cond, Option, Some, None, inl, inr, nat_eq}
use Rattle.std.specs.Prelude.{◌&&◌, ◌||◌, not, ℤ, filter}
use Rattle.std.proofs.lemmas.List.Elements.{filter-append}
use Rattle.std.proofs.lemmas.Bool.{and_parts, and_from, or_cases, or_left, or_right, ne_eqb, eq-eqb, eqb-true, not_from_false, false_from_ne_true}
use Rattle.cw_tree.specs.declared.node.Node.{Node}
use Rattle.cw_tree.specs.Nodes.{is_strand, is_fork, parent_of, all_nodes}
use Rattle.cw_tree.specs.Walks.{has, is_ancestor}
use Rattle.cw_tree.specs.Series.{strand_of}
use Rattle.cw_tree.specs.Shape.{IsTree}
use Rattle.cw_tree.proofs.Walks.Ancestors.{ancestor_le}
use Rattle.cw_tree.proofs.Lists.{any_in}
use Rattle.cw_tree.proofs.Walks.Strands.{strand_over, strand_of_le}
use Rattle.cw_open.specs.Machine.{OpenMachine, has_finished, is_running, waits}
use Rattle.cw_open.specs.Open.{is_open}
use Rattle.cw_open.proofs.Open.Standing.{runs}
use Rattle.cw_core.specs.declared.event.Event.TheVariants as event
use Rattle.cw_tree.proofs.Walks.There.{fork_there}
use Rattle.cw_tree.proofs.NodeKinds.{fork_no_strand}
use Rattle.cw_open.proofs.Open.Kinds.{finished_shut}
use Rattle.cw_core.specs.State.{CoreState, is_split, waits_for_left}
use Rattle.cw_core.specs.Events.{fits, after_event}
use Rattle.cw_core.specs.Laws.{IsCore}
use Rattle.cw_core.proofs.Events.Going.{well}
use Rattle.cw_core.proofs.Events.Kept.{events}
use Rattle.cw_core.proofs.Kept.PartsGrow.{none_spent}
use Rattle.cw_sim.specs.Workers.{Worker, left_node, right_node}
use Rattle.cw_sim.specs.Kept.{Runs, Fits, CoreGoesOn, forks_around}
use Rattle.cw_sim.proofs.Kept.Around.{Waits, waits_around}
use Rattle.cw_sim.proofs.Laws.Deques.{newest}
use Rattle.cw_sim.proofs.Kept.Going.{goes_on, still_runs}
use Rattle.cw_sim.proofs.Kept.Halves.{strand_open, right_child, left_strand, right_strand}
use Rattle.cw_sim.proofs.Laws.Ready.{right_ready, left_done}
use Rattle.cw_sim.proofs.Kept.Same.{SameWays}
use Rattle.cw_sim.proofs.Laws.Unsplit.{none_made, left_open}
use Rattle.cw_sim.proofs.Kept.Ways.{around_right}
use Rattle.cw_sim.proofs.Kept.Workers.{has_back, has_parts}

-- a list without an element that it has not
filter_none : (f : ℕ) (xs : List ℕ) → has xs f ≡ false → filter (λ g. not (nat_eq g f)) xs ≡ xs
filter_none f [] e = refl
filter_none f (x ∷ xs) e =
    let off : nat_eq x f ≡ false = false_from_ne_true (nat_eq x f) (λ q. absurd (let z = or_left (nat_eq x f) (has xs f) q in cc (z, e))) in
    let rest : has xs f ≡ false = false_from_ne_true (has xs f) (λ q. absurd (let z = or_right (nat_eq x f) (has xs f) q in cc (z, e))) in
    ap (λ b. cond (not b) (x ∷ filter (λ g. not (nat_eq g f)) xs) (filter (λ g. not (nat_eq g f)) xs)) off ∙ ap (λ ys. x ∷ ys) (filter_none f xs rest)

-- what passes was there
pub filter_has : (p : ℕ → Bool) (xs : List ℕ) (g : ℕ) → has (filter p xs) g ≡ true → has xs g ≡ true
filter_has p [] g e = absurd (cc e)
filter_has p (x ∷ xs) g e = by (filter_has p xs g) (p x) e where
  by : (has (filter p xs) g ≡ true → has xs g ≡ true) → (b : Bool) → has (cond b (x ∷ filter p xs) (filter p xs)) g ≡ true → (nat_eq x g || has xs g) ≡ true
  by rest true e = elim (or_cases (nat_eq x g) (has (filter p xs) g) e) [ inl q ↦ or_left (nat_eq x g) (has xs g) q | inr q ↦ or_right (nat_eq x g) (has xs g) (rest q) ]
  by rest false e = or_right (nat_eq x g) (has xs g) (rest e)

module _ (first : List ℤ) (k : CoreState) (on : CoreGoesOn first k) (x : ℕ) (dead : Bool) (running : is_running k.machine x ≡ true) (ready : waits_for_left k x ≡ false) (fit : fits k (event.Finish x dead) ≡ true) where
  abbrev t : List Node
  t = k.machine.tree

  abbrev m : OpenMachine
  m = k.machine

  abbrev z : CoreState
  z = after_event k (event.Finish x dead)

  tree : IsTree t
  tree = (well first k on.core).sound.tree

  core : IsCore first z
  core = (events first k (event.Finish x dead) on.core fit).1

  pub same : SameWays k z
  same = record { longer = omega arith; parents = λ n h. refl; strands = λ n h. refl; splits = λ f h. refl }

  pub goes : CoreGoesOn first z
  goes = goes_on first k z on core same (λ f e. (e, refl)) (λ f e. e) on.halt (none_spent k z (ap Rattle.std.specs.Prelude.is_none on.spent) refl refl ∙ on.spent) on.stopped

  pub done : has_finished z.machine x ≡ true
  done = or_left (nat_eq x x) (has_finished m x) (eq-eqb x x refl)

  pub more : (s : ℕ) → has_finished m s ≡ true → has_finished z.machine s ≡ true
  more s e = or_right (nat_eq x s) (has_finished m s) e

  pub other : (s : ℕ) → s ≢ x → has_finished m s ≡ false → has_finished z.machine s ≡ false
  other s ne e = Rattle.std.proofs.lemmas.Bool.or_from (nat_eq x s) (has_finished m s) (ne_eqb x s (λ q. ne (sym q))) e

  -- the right strand of a fork that waits around a running strand is another one
  not_to_come : (y f : ℕ) (fs : List ℕ) → is_running m y ≡ true → Waits k y f fs → right_node f ≢ x
  not_to_come y f fs runs_y w q =
      let open_left = left_open first k on y f fs runs_y w in
      let up = (right_child t tree on.forks f w.fork).parent in
      let P : ℕ → Type 0 = λ n. parent_of t n ≡ f in
      let Q : ℕ → Type 0 = λ n. waits_for_left k n ≡ false in
      let finished = left_done k on.forks (right_node f) f up w.fork refl (subst Q (sym q) ready) w.split in
      let shut = finished_shut m (left_node f) (left_strand t tree on.forks f w.fork) finished in
      absurd (cc (open_left, shut))

  -- what waits in a worker that runs a strand is a fork around it
  around : (w : Worker) (y : ℕ) → Runs k w y → (f : ℕ) → has (w.deque ++ w.inline) f ≡ true → (fs : List ℕ) × Waits k y f fs
  around w y at f e =
      let here = runs m tree (well first k on.core).nested y at.running in
      let p = has_parts (w.deque ++ w.inline) f e in
      (p.0, waits_around k tree on.forks y here.strand p.0 p.1 f (sym at.forks ∙ p.2))

  still_running : (y : ℕ) → y ≢ x → is_running m y ≡ true → is_running z.machine y ≡ true
  still_running y ne e =
      ap (λ b. is_strand t y && not (b || has_finished m y) && not (waits m y) && not (has m.stopped y)) (ne_eqb x y (λ q. ne (sym q))) ∙ e

  -- the right strands of what waits in a worker are to come still
  pub still_to_come : (w : Worker) (y : ℕ) → Runs k w y → (f : ℕ) → has (w.deque ++ w.inline) f ≡ true → has_finished z.machine (right_node f) ≡ false
  still_to_come w y at f e = let a = around w y at f e in other (right_node f) (not_to_come y f a.0 at.running a.1) (at.to_come f e)

  -- each worker that runs another strand fits as before
  pub others : (w : Worker) (r : Option ℕ) → ((y : ℕ) → r ≡ Some y → y ≢ x) → Fits k w r → Fits z w r
  others w None ne idle = idle
  others w (Some y) ne at =
      still_runs first k z on core same goes.forks more (λ f h. refl) w y at (still_running y (ne y refl) at.running)
      (λ f e. let a = around w y at f e in fork_there t f a.1.fork)
      (still_to_come w y at)

  -- ## The right strand of a fork that is not split, once its left one has finished

  module _ (w : Worker) (f : ℕ) (fork : is_fork t f ≡ true) (off : is_split k f ≡ false) (left : x ≡ left_node f) (at : Runs k w x) where
    abbrev without : List ℕ → List ℕ
    without = filter (λ g. not (nat_eq g f))

    abbrev back : Worker
    back = record w { runs = Some (right_node f); deque = without w.deque; inline = without w.inline }

    at_left : Runs k w (left_node f)
    at_left = let P : ℕ → Type 0 = λ n. Runs k w n in subst P left at

    -- it waits last in the worker
    pub waits_here : w.deque ++ w.inline ≡ forks_around k (strand_of t f) ++ f ∷ []
    waits_here = newest first k on w f fork at_left off

    -- f does not wait around the strand that forked
    pub not_around : has (forks_around k (strand_of t f)) f ≡ false
    not_around = false_from_ne_true (has (forks_around k (strand_of t f)) f) (λ e.
        let p = has_parts (forks_around k (strand_of t f)) f e in
        let s = strand_of t f in
        let low = fork_there t f fork in
        let le = strand_of_le t tree.rooted f low in
        let a = waits_around k tree on.forks s (Rattle.cw_open.proofs.Laws.Named.strand_is t tree.root f) p.0 p.1 f p.2 in
        let up = ancestor_le t tree.rooted (left_node f) s (omega arith) a.over in
        absurd (omega arith))

    pub left_behind : without w.deque ++ without w.inline ≡ forks_around k (strand_of t f)
    left_behind =
        sym (filter-append (λ g. not (nat_eq g f)) w.deque w.inline)
        ∙ ap without waits_here
        ∙ filter-append (λ g. not (nat_eq g f)) (forks_around k (strand_of t f)) (f ∷ [])
        ∙ ap (λ b. without (forks_around k (strand_of t f)) ++ cond (not b) (f ∷ []) []) (eq-eqb f f refl)
        ∙ Rattle.std.proofs.Common.append-nil (without (forks_around k (strand_of t f)))
        ∙ filter_none f (forks_around k (strand_of t f)) not_around

    -- nothing was made in it
    pub none_beneath : (n : ℕ) → n < length t → is_ancestor t (right_node f) n ≡ true → n ≡ right_node f
    none_beneath = let here = runs m tree (well first k on.core).nested x running in none_made first k on f fork off (ap (is_open m) (sym left) ∙ strand_open m x here.strand here.unfinished)

    right_waits : waits m (right_node f) ≡ false
    right_waits = false_from_ne_true (waits m (right_node f)) (λ e.
        let a = any_in (λ g. is_fork t g && nat_eq (strand_of t g) (right_node f) && not (has m.joined g)) (all_nodes t) e in
        let b = and_parts (is_fork t a.0 && nat_eq (strand_of t a.0) (right_node f)) (not (has m.joined a.0)) a.2 in
        let c = and_parts (is_fork t a.0) (nat_eq (strand_of t a.0) (right_node f)) b.0 in
        let low = fork_there t a.0 c.0 in
        let P : ℕ → Type 0 = λ n. is_ancestor t n a.0 ≡ true in
        let it = none_beneath a.0 low (subst P (eqb-true (strand_of t a.0) (right_node f) c.1) (strand_over t tree.rooted a.0 low)) in
        let strand = right_strand t tree on.forks f fork in
        absurd (cc (fork_no_strand t a.0 c.0, ap (is_strand t) it, strand)))

    has_f : has (w.deque ++ w.inline) f ≡ true
    has_f = ap (λ ds. has ds f) waits_here ∙ has_back (forks_around k (strand_of t f)) (f ∷ []) f (or_left (nat_eq f f) false (eq-eqb f f refl))

    pub takes_right : Runs z back (right_node f)
    takes_right =
        let rc = right_child t tree on.forks f fork in
        let strand = right_strand t tree on.forks f fork in
        let off_right : has_finished z.machine (right_node f) ≡ false = other (right_node f) (λ q. omega (arith, q, left)) (at.to_come f has_f) in
        let kept : (g : ℕ) → has (without w.deque ++ without w.inline) g ≡ true → has (w.deque ++ w.inline) g ≡ true = λ g e. filter_has (λ g. not (nat_eq g f)) (w.deque ++ w.inline) g (ap (λ ds. has ds g) (filter-append (λ g. not (nat_eq g f)) w.deque w.inline) ∙ e) in
        record {
          running = and_from (is_strand t (right_node f) && not (has_finished z.machine (right_node f)) && not (waits m (right_node f))) (not (has m.stopped (right_node f)))
              (and_from (is_strand t (right_node f) && not (has_finished z.machine (right_node f))) (not (waits m (right_node f))) (and_from (is_strand t (right_node f)) (not (has_finished z.machine (right_node f))) strand (not_from_false (has_finished z.machine (right_node f)) off_right)) (not_from_false (waits m (right_node f)) right_waits))
              (ap (λ ss. not (has ss (right_node f))) on.stopped);
          ready = right_ready z goes.forks (right_node f) f rc.parent fork refl (ap (has_finished z.machine) (sym left) ∙ done);
          forks = left_behind ∙ sym (around_right k tree.rooted (right_node f) rc.some rc.there strand (ap (is_split k) rc.parent ∙ off) (λ q. (let u = rc.parent in omega (arith, q, u))) ∙ ap (λ g. forks_around k (strand_of t g)) rc.parent);
          deque = λ g e. at.deque g (filter_has (λ g. not (nat_eq g f)) w.deque g e);
          inline = λ g e. at.inline g (filter_has (λ g. not (nat_eq g f)) w.inline g e);
          to_come = λ g e. still_to_come w x at g (kept g e);
        }
