-- A core that goes on after an event which leaves its strands and forks.
use Rattle.std.proofs.Common.{◌≡◌, ℕ, ◌<◌, List, [], ◌∷◌, ◌++◌, length, refl, ap, sym, ◌∙◌, arith, Bool, true, false, cond, None, inl, inr, nat_eq}
use Rattle.std.specs.Prelude.{◌⊎◌, ℤ}
use Rattle.std.proofs.lemmas.Bool.{cases_Bool}
use Rattle.cw_tree.specs.declared.node.Node.{Node}
use Rattle.cw_tree.specs.Nodes.{parent_of, is_strand, is_fork}
use Rattle.cw_tree.specs.Walks.{has}
use Rattle.cw_tree.specs.Series.{children, strand_of}
use Rattle.cw_tree.specs.Shape.{IsTree}
use Rattle.cw_tree.proofs.Walks.Strands.{strand_of_le}
use Rattle.cw_tree.proofs.Walks.There.{fork_there, strand_there}
use Rattle.cw_open.specs.Machine.{has_finished, is_running}
use Rattle.cw_open.proofs.Open.Standing.{runs}
use Rattle.cw_core.specs.State.{CoreState, is_split, has_columns, waits_for_left, spent}
use Rattle.cw_core.specs.Laws.{IsCore}
use Rattle.cw_core.proofs.Events.Going.{well}
use Rattle.cw_sim.specs.Workers.{Worker, left_node, right_node}
use Rattle.cw_sim.specs.Kept.{lefts, forks_around, Runs, CoreGoesOn}
use Rattle.cw_sim.proofs.Kept.Halves.{AsMade, which}
use Rattle.cw_sim.proofs.Kept.Workers.{has_front, has_back}
use Rattle.cw_sim.proofs.Kept.Same.{SameWays, same_strand, same_around}
use Rattle.cw_sim.proofs.Laws.Ready.{main_ready, split_ready, left_ready, right_ready, left_done}

-- where more forks are split, none waits where none did
pub none_still : (k z : CoreState) → ((n : ℕ) → parent_of z.machine.tree n ≡ parent_of k.machine.tree n) → ((f : ℕ) → is_split k f ≡ true → is_split z f ≡ true) → (ys : List ℕ) → lefts k ys ≡ [] → lefts z ys ≡ []
none_still k z up more [] e = refl
none_still k z up more (y ∷ ys) e =
    ap (λ f. cond (is_split z f) [] (cond (nat_eq y (left_node f)) (lefts z ys ++ f ∷ []) (lefts z ys))) (up y)
    ∙ by (is_split k f) (is_split z f) (nat_eq y (left_node f)) (more f) (none_still k z up more ys) refl e where
      f : ℕ
      f = parent_of k.machine.tree y

      no_end : (xs : List ℕ) → xs ++ f ∷ [] ≡ [] → ⊥
      no_end [] q = absurd (cc q)
      no_end (x ∷ xs) q = absurd (cc q)

      by : (a b c : Bool) → (is_split k f ≡ true → b ≡ true) → (lefts k ys ≡ [] → lefts z ys ≡ []) → is_split k f ≡ a → cond a [] (cond c (lefts k ys ++ f ∷ []) (lefts k ys)) ≡ [] → cond b [] (cond c (lefts z ys ++ f ∷ []) (lefts z ys)) ≡ []
      by a true c i rest q h = refl
      by true false c i rest q h = absurd (let w = i q in cc w)
      by false false true i rest q h = absurd (no_end (lefts k ys) h)
      by false false false i rest q h = rest h

module _ (first : List ℤ) (k z : CoreState) (on : CoreGoesOn first k) (core : IsCore first z) (same : SameWays k z) where
  abbrev t : List Node
  t = k.machine.tree

  abbrev u : List Node
  u = z.machine.tree

  tree : IsTree t
  tree = (well first k on.core).sound.tree

  tree_after : IsTree u
  tree_after = (well first z core).sound.tree

  -- the forks are those that were there
  pub goes_on : ((f : ℕ) → is_fork u f ≡ true → (is_fork t f ≡ true) × (children u f ≡ children t f)) → ((f : ℕ) → has z.machine.joined f ≡ false → has k.machine.joined f ≡ false)
      → z.halt ≡ None → spent z ≡ None → z.machine.stopped ≡ [] → CoreGoesOn first z
  goes_on forks joins halt unspent stopped = record {
    core = core;
    halt = halt;
    spent = unspent;
    stopped = stopped;
    forks = λ f e. (forks f e).1 ∙ on.forks f (forks f e).0;
    outside = λ f e apart split.
        (let fork = (forks f e).0 in
        let low = fork_there t f fork in
        let le = strand_of_le t tree.rooted f low in
        ap (forks_around z) (same_strand k z tree.rooted tree_after.rooted same f low)
        ∙ same_around k z tree.rooted tree_after.rooted same (strand_of t f) (omega arith)
        ∙ on.outside f fork (joins f apart) (sym (same.splits f low) ∙ split));
  }

  -- ## Workers

  module _ (made : AsMade u) (more : (s : ℕ) → has_finished k.machine s ≡ true → has_finished z.machine s ≡ true) (columns : (f : ℕ) → f < length t → has_columns z f ≡ has_columns k f) where
    -- a strand that waited for no left one waits for none
    pub still_ready : (y : ℕ) → is_strand t y ≡ true → waits_for_left k y ≡ false → waits_for_left z y ≡ false
    still_ready y strand ready = elim (Rattle.std.proofs.lemmas.Bool.cases_eq y 0) [
      | inl e ↦ (let P : ℕ → Type 0 = λ n. waits_for_left z n ≡ false in Rattle.std.proofs.Common.subst P (sym e) (main_ready z))
      | inr ne ↦ by_side (which t tree on.forks (parent_of t y) (fork ne) y (some ne) there refl) (some ne) (fork ne)
    ] where
      there : y < length t
      there = strand_there t y strand

      some : (y ≡ 0 → ⊥) → 0 < y
      some ne = omega (arith, ne)

      fork : (y ≡ 0 → ⊥) → is_fork t (parent_of t y) ≡ true
      fork ne = tree.strands y there (some ne) strand

      by_side : (y ≡ left_node (parent_of t y)) ⊎ (y ≡ right_node (parent_of t y)) → 0 < y → is_fork t (parent_of t y) ≡ true → waits_for_left z y ≡ false
      by_side side p ff =
          let h = there in
          let longer = same.longer in
          let f = parent_of t y in
          let low : f < y = tree.rooted y p h in
          let up : parent_of u y ≡ f = same.parents y h in
          let strand_u : is_strand u y ≡ true = same.strands y h ∙ strand in
          let P : ℕ → Type 0 = λ g. is_fork u g ≡ true in
          let fork_u : is_fork u f ≡ true = Rattle.std.proofs.Common.subst P up (tree_after.strands y (omega arith) p strand_u) in
          elim side [
            | inl e ↦ left_ready z made y f up fork_u e
            | inr e ↦ elim (cases_Bool (is_split k f)) [
              | inl s ↦ split_ready z made y f up fork_u (same.splits f (omega arith) ∙ s)
              | inr s ↦ right_ready z made y f up fork_u e (more (left_node f) (left_done k on.forks y f refl ff e ready s))
            ]
          ]

    -- a worker of whose forks none came to its right strand, and whose strand still runs
    pub still_runs : (w : Worker) (y : ℕ) → Runs k w y → is_running z.machine y ≡ true → ((f : ℕ) → has (w.deque ++ w.inline) f ≡ true → f < length t) → ((f : ℕ) → has (w.deque ++ w.inline) f ≡ true → has_finished z.machine (right_node f) ≡ false) → Runs z w y
    still_runs w y at running low to_come =
        let here = runs k.machine tree (well first k on.core).nested y at.running in
        record {
          running = running;
          ready = still_ready y here.strand at.ready;
          forks = at.forks ∙ sym (same_around k z tree.rooted tree_after.rooted same y (strand_there t y here.strand));
          deque = λ f e. columns f (low f (has_front w.deque w.inline f e)) ∙ at.deque f e;
          inline = λ f e. columns f (low f (has_back w.deque w.inline f e)) ∙ at.inline f e;
          to_come = to_come;
        }
