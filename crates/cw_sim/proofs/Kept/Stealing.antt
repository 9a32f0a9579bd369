-- The oldest fork of a deque is split: the core, the worker that is robbed, the others, and the thief.
use Rattle.std.proofs.Common.{◌≡◌, ◌≢◌, ℕ, zero, suc, ◌<◌, List, [], ◌∷◌, ◌++◌, length, refl, ap, sym, ◌∙◌, subst, arith, Bool, true, false, cond, None, inl, inr, nat_eq}
use Rattle.std.specs.Prelude.{◌⊎◌, ◌&&◌, ◌||◌, ℤ, is_none}
use Rattle.std.proofs.lemmas.Bool.{cases_eq, and_parts, and_from, or_left, or_right, ne_eqb, eq-eqb, false_from_ne_true}
use Rattle.cw_tree.specs.declared.node.Node.{Node}
use Rattle.cw_tree.specs.Nodes.{is_strand_kind, is_strand, is_fork, parent_of}
use Rattle.cw_tree.specs.Walks.{has, is_ancestor}
use Rattle.cw_tree.specs.Series.{strand_of}
use Rattle.cw_tree.specs.Names.{strands_on}
use Rattle.cw_tree.specs.Shape.{IsTree}
use Rattle.cw_tree.proofs.Walks.Ancestors.{ancestor_self, ancestor_le, ancestor_trans, ancestor_up}
use Rattle.cw_tree.proofs.Walks.Strands.{strand_of_le, strand_over}
use Rattle.cw_tree.proofs.Walks.There.{node_there, fork_there}
use Rattle.cw_trace.specs.Stands.{fork_column}
use Rattle.cw_trace.proofs.Stands.Counting.{fork_column_one}
use Rattle.cw_trace.proofs.Segments.Lines.{strong}
use Rattle.cw_open.proofs.Laws.Named.{strand_is}
use Rattle.cw_core.specs.declared.event.Event.TheVariants as event
use Rattle.cw_core.specs.State.{CoreState, has_columns, is_split}
use Rattle.cw_core.specs.Events.{fits, after_event, is_early}
use Rattle.cw_core.specs.Laws.{IsCore}
use Rattle.cw_core.proofs.Events.Going.{well}
use Rattle.cw_core.proofs.Events.Kept.{events}
use Rattle.cw_core.proofs.Kept.PartsGrow.{none_spent}
use Rattle.cw_sim.specs.Workers.{left_node, right_node}
use Rattle.cw_sim.specs.Kept.{CoreGoesOn, forks_around}
use Rattle.cw_sim.proofs.Kept.After.{room_after}
use Rattle.cw_sim.proofs.Kept.Around.{at_end, waits_around}
use Rattle.cw_sim.proofs.Kept.Going.{none_still}
use Rattle.cw_sim.proofs.Kept.Halves.{which}
use Rattle.cw_sim.proofs.Kept.Same.{columns_same}
use Rattle.cw_sim.proofs.Kept.Ways.{around_split, around_left, around_right}
use Rattle.cw_sim.proofs.Kept.Workers.{has_front, has_back}

module _ (first : List ℤ) (k : CoreState) (on : CoreGoesOn first k) (f : ℕ) (fork : is_fork k.machine.tree f ≡ true) (room : has_columns k f ≡ true) (off : is_split k f ≡ false) (outer : forks_around k (strand_of k.machine.tree f) ≡ []) (early : is_early k f ≡ None)
    (fit : fits k (event.Split f) ≡ true) where
  abbrev t : List Node
  t = k.machine.tree

  abbrev z : CoreState
  z = after_event k (event.Split f)

  tree : IsTree t
  tree = (well first k on.core).sound.tree

  core : IsCore first z
  core = (events first k (event.Split f) on.core fit).1

  pub columns : (g : ℕ) → has_columns z g ≡ has_columns k g
  columns g = columns_same k z g refl (room_after k (event.Split f))

  splits : z.splits ≡ fork_column t f ∷ k.splits
  splits = ap (λ b. cond b (fork_column t f ∷ k.splits) k.splits) (ap is_none early)

  split_is : (g : ℕ) → is_split z g ≡ (has_columns k g && (nat_eq (fork_column t f) (fork_column t g) || has k.splits (fork_column t g)))
  split_is g = ap (λ b. b && has z.splits (fork_column t g)) (columns g) ∙ ap (λ cs. has_columns k g && has cs (fork_column t g)) splits

  -- f is split now, and what was split is; no other fork is
  pub now : is_split z f ≡ true
  now = split_is f ∙ and_from (has_columns k f) (nat_eq (fork_column t f) (fork_column t f) || has k.splits (fork_column t f)) room (or_left (nat_eq (fork_column t f) (fork_column t f)) (has k.splits (fork_column t f)) (eq-eqb (fork_column t f) (fork_column t f) refl))

  pub more : (g : ℕ) → is_split k g ≡ true → is_split z g ≡ true
  more g e = let p = and_parts (has_columns k g) (has k.splits (fork_column t g)) e in split_is g ∙ and_from (has_columns k g) (nat_eq (fork_column t f) (fork_column t g) || has k.splits (fork_column t g)) p.0 (or_right (nat_eq (fork_column t f) (fork_column t g)) (has k.splits (fork_column t g)) p.1)

  pub other : (g : ℕ) → is_fork t g ≡ true → g ≢ f → is_split z g ≡ is_split k g
  other g e ne = split_is g ∙ ap (λ b. has_columns k g && (b || has k.splits (fork_column t g))) (ne_eqb (fork_column t f) (fork_column t g) (λ q. ne (sym (fork_column_one t f g fork e q))))

  pub goes : CoreGoesOn first z
  goes = record {
    core = core;
    halt = on.halt;
    spent = none_spent k z (ap is_none on.spent) refl refl ∙ on.spent;
    stopped = on.stopped;
    forks = on.forks;
    outside = λ g e apart split. none_still k z (λ n. refl) more (strands_on t (strand_of t g)) (elim (cases_eq g f) [
      | inl q ↦ ap (λ n. forks_around k (strand_of t n)) q ∙ outer
      | inr ne ↦ on.outside g e apart (sym (other g e ne) ∙ split)
    ]);
  }

  -- ## The worker that is robbed: f was the outermost of what waits around its strand

  abbrev Cut : ℕ → Type 0
  Cut y = is_strand t y ≡ true → (gs : List ℕ) → forks_around k y ≡ f ∷ gs → forks_around z y ≡ gs

  -- the strand that forked is no further down
  forked_low : (y : ℕ) → 0 < y → y < length t → strand_of t (parent_of t y) < y
  forked_low y some there =
      let low : parent_of t y < y = tree.rooted y some there in
      let le = strand_of_le t tree.rooted (parent_of t y) (omega arith) in
      omega arith

  -- a fork that waits around the strand of another fork is another one
  not_own : (g : ℕ) (gs : List ℕ) → is_fork t g ≡ true → forks_around k (strand_of t g) ≡ f ∷ gs → g ≢ f
  not_own g gs e q same =
      let low = fork_there t g e in
      let le = strand_of_le t tree.rooted g low in
      let w = waits_around k tree on.forks (strand_of t g) (strand_is t tree.root g) [] gs f q in
      let up = ancestor_le t tree.rooted (left_node f) (strand_of t g) (omega arith) w.over in
      omega (arith, same)

  tail_of : (hs gs : List ℕ) (g : ℕ) → (f ∷ hs) ++ g ∷ [] ≡ f ∷ gs → hs ++ g ∷ [] ≡ gs
  tail_of hs gs g e = cc

  cut_step : (y : ℕ) → ((x : ℕ) → x < y → Cut x) → Cut y
  cut_step zero rest strand gs e = absurd (cc e)
  cut_step (suc n) rest strand gs e = by_split (is_split k g) refl (which t tree on.forks g ff y (omega arith) there refl) where
    y : ℕ
    y = suc n

    g : ℕ
    g = parent_of t y

    there : y < length t
    there = node_there (λ x. is_strand_kind x.kind) t y strand

    ff : is_fork t g ≡ true
    ff = tree.strands y there (omega arith) strand

    below : strand_of t g < y
    below = forked_low y (omega arith) there

    by_split : (b : Bool) → is_split k g ≡ b → (y ≡ left_node g) ⊎ (y ≡ right_node g) → forks_around z y ≡ gs
    by_split true c side = absurd (let q = around_split k tree.rooted y (omega arith) there strand c in cc (q, e))
    by_split false c (inr q) =
        let same : forks_around k (strand_of t g) ≡ f ∷ gs = sym (around_right k tree.rooted y (omega arith) there strand c (λ r. omega (arith, q, r))) ∙ e in
        around_right z tree.rooted y (omega arith) there strand (other g ff (not_own g gs ff same) ∙ c) (λ r. omega (arith, q, r))
        ∙ rest (strand_of t g) below (strand_is t tree.root g) gs same
    by_split false c (inl q) =
        let whole = sym (around_left k tree.rooted y (omega arith) there strand c q) ∙ e in
        elim (at_end (forks_around k (strand_of t g)) [] gs g f whole) [
          | inl h ↦ around_split z tree.rooted y (omega arith) there strand (ap (is_split z) h.1 ∙ now) ∙ sym h.2
          | inr h ↦ around_left z tree.rooted y (omega arith) there strand (other g ff (not_own g h.0 ff h.1) ∙ c) q
              ∙ ap (λ ds. ds ++ g ∷ []) (rest (strand_of t g) below (strand_is t tree.root g) h.0 h.1)
              ∙ tail_of h.0 gs g (sym (ap (λ ds. ds ++ g ∷ []) h.1) ∙ whole)
        ]

  pub robbed : (y : ℕ) → Cut y
  robbed = strong Cut cut_step

  -- ## Any other worker: f does not wait around its strand, which is not in the right strand of f

  abbrev Kept : ℕ → Type 0
  Kept y = is_strand t y ≡ true → has (forks_around k y) f ≡ false → is_ancestor t (right_node f) y ≡ false → forks_around z y ≡ forks_around k y

  kept_step : (y : ℕ) → ((x : ℕ) → x < y → Kept x) → Kept y
  kept_step zero rest strand none apart = refl
  kept_step (suc n) rest strand none apart = by_split (is_split k g) refl (which t tree on.forks g ff y (omega arith) there refl) where
    y : ℕ
    y = suc n

    g : ℕ
    g = parent_of t y

    there : y < length t
    there = node_there (λ x. is_strand_kind x.kind) t y strand

    ff : is_fork t g ≡ true
    ff = tree.strands y there (omega arith) strand

    below : strand_of t g < y
    below = forked_low y (omega arith) there

    up : is_ancestor t (strand_of t g) y ≡ true
    up = let h = there in let low : g < y = tree.rooted y (omega arith) h in ancestor_up t tree.rooted (strand_of t g) y (omega arith) h (strand_over t tree.rooted g (omega arith))

    off_up : is_ancestor t (right_node f) (strand_of t g) ≡ false
    off_up = false_from_ne_true (is_ancestor t (right_node f) (strand_of t g)) (λ q. absurd (let z = ancestor_trans t tree.rooted (right_node f) (strand_of t g) y there q up in cc (z, apart)))

    by_split : (b : Bool) → is_split k g ≡ b → (y ≡ left_node g) ⊎ (y ≡ right_node g) → forks_around z y ≡ forks_around k y
    by_split true c side = around_split z tree.rooted y (omega arith) there strand (more g c) ∙ sym (around_split k tree.rooted y (omega arith) there strand c)
    by_split false c (inr q) =
        let was = around_right k tree.rooted y (omega arith) there strand c (λ r. omega (arith, q, r)) in
        let ne : g ≢ f = λ r. (let P : ℕ → Type 0 = λ x. is_ancestor t x y ≡ true in let o = subst P (q ∙ ap right_node r) (ancestor_self t y) in absurd (cc (o, apart))) in
        let less : has (forks_around k (strand_of t g)) f ≡ false = sym (ap (λ ds. has ds f) was) ∙ none in
        around_right z tree.rooted y (omega arith) there strand (other g ff ne ∙ c) (λ r. omega (arith, q, r)) ∙ rest (strand_of t g) below (strand_is t tree.root g) less off_up ∙ sym was
    by_split false c (inl q) =
        let was = around_left k tree.rooted y (omega arith) there strand c q in
        let all : has (forks_around k (strand_of t g) ++ g ∷ []) f ≡ false = sym (ap (λ ds. has ds f) was) ∙ none in
        let ne : g ≢ f = λ r. absurd (let o = has_back (forks_around k (strand_of t g)) (g ∷ []) f (or_left (nat_eq g f) false (eq-eqb g f r)) in cc (o, all)) in
        let less : has (forks_around k (strand_of t g)) f ≡ false = false_from_ne_true (has (forks_around k (strand_of t g)) f) (λ r. absurd (let o = has_front (forks_around k (strand_of t g)) (g ∷ []) f r in cc (o, all))) in
        around_left z tree.rooted y (omega arith) there strand (other g ff ne ∙ c) q ∙ ap (λ ds. ds ++ g ∷ []) (rest (strand_of t g) below (strand_is t tree.root g) less off_up) ∙ sym was

  pub kept : (y : ℕ) → Kept y
  kept = strong Kept kept_step
