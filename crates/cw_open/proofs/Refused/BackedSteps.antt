-- What was rolled back was so for its victim, and what dying strands leave is the last of its place, also as blocks are closed and strands
-- finish; so in every state that a run leads to.
use Rattle.std.proofs.Common.{◌≡◌, ◌≢◌, ℕ, ◌<◌, List, length, refl, ap, sym, ◌∙◌, subst, arith, Bool, true, false, cond, inl, inr, nat_eq, nat_lt}
use Rattle.std.specs.Prelude.{◌&&◌, ◌||◌, not, ℤ}
use Rattle.std.specs.List.{list_any}
use Rattle.std.proofs.lemmas.Bool.{and_parts, and_from, and_right, or_cases, or_left, or_right, not-true, not-false, not_from_false, cases_eq, cases_lt, cases_Bool, eqb-true, false_from_ne_true}
use Rattle.cw_tree.specs.declared.node.Node.{Node}
use Rattle.cw_tree.specs.declared.node.BlockState.TheVariants.{Committed, Aborted}
use Rattle.cw_tree.specs.declared.conflict.Conflict.{Conflict}
use Rattle.cw_tree.specs.Nodes.{is_fork_kind, is_block_kind, is_committed_state, is_aborted_state, parent_of, is_strand, is_fork, is_block, is_pending, is_committed, all_nodes, closed}
use Rattle.cw_tree.specs.Walks.{IsRooted, has, is_ancestor, is_above}
use Rattle.cw_tree.specs.Series.{children, strand_of, place, has_later}
use Rattle.cw_tree.specs.Refusals.{is_victim}
use Rattle.cw_tree.specs.NextNodes.{IsPlace}
use Rattle.cw_tree.proofs.Lists.{any_in}
use Rattle.cw_tree.proofs.Walks.There.{node_there}
use Rattle.cw_tree.proofs.Walks.Ancestors.{ancestor_self, ancestor_step, ancestor_up, ancestor_above, above_ancestor}
use Rattle.cw_tree.proofs.Walks.Kin.{ancestor_linear, fork_child}
use Rattle.cw_tree.proofs.ChainLaws.Nearest.{above_from}
use Rattle.cw_tree.proofs.NextNodes.Closing.{number_closed, state_closed}
use Rattle.cw_tree.proofs.InOrder.DepthFirst.{child_is}
use Rattle.cw_tree.proofs.NodeKinds.{strand_no_block, fork_no_strand, pending_block, block_some, committed_block}
use Rattle.cw_open.specs.Machine.{OpenMachine, has_finished, finished_dead, falls, is_running, in_block, is_dying, rolls_back}
use Rattle.cw_open.specs.Steps.{finishes, after_open_step}
use Rattle.cw_open.specs.Runs.{left_died}
use Rattle.cw_open.specs.Open.{is_open}
use Rattle.cw_open.proofs.Open.Trees.{IsWell, stands_well}
use Rattle.cw_open.proofs.Open.TreeSteps.{place_pending}
use Rattle.cw_open.proofs.Open.Standing.{runs, stands, open_block}
use Rattle.cw_open.proofs.Laws.Lists.{rolls}
use Rattle.cw_open.proofs.Refused.Victims.{IsTold, IsToldState, victim_above}
use Rattle.cw_open.proofs.Open.Staying.{later_is, later_none}
use Rattle.cw_open.proofs.Refused.Fell.{fell, fell_for, fell_of, names, any_one, back_fell, fork_fell, fell_dies}
use Rattle.cw_open.proofs.Refused.Backing.{Died, GoesBack, AllDied, died_elsewhere}
use Rattle.cw_open.proofs.Refused.BackingCloses.{back_closed, died_closed}
use Rattle.cw_open.proofs.Refused.Backed.{IsBacked, dead_finished, not_both}

module _ (first : List ℤ) (m : OpenMachine) (w : IsToldState first m) (k : IsBacked m) where
  abbrev t : List Node
  t = m.tree

  abbrev cs : List Conflict
  cs = m.conflicts

  abbrev well : IsWell m
  well = w.state.well

  r : IsRooted t
  r = well.sound.tree.rooted

  own : (s : ℕ) → is_running m s ≡ true → strand_of t (place t s) ≡ s
  own s running = (stands m well.sound.tree well.nested s running).strand

  -- ## A block is closed

  module _ (s : ℕ) (running : is_running m s ≡ true) (within : in_block m s ≡ true) (end : ℕ) where
    abbrev p : ℕ
    p = place t s

    at : IsPlace t p
    at = stands_well m well s running

    block : is_block t p ≡ true
    block = pending_block t p (place_pending m well s running within)

    some : 0 < p
    some = block_some t well.sound.tree.root p block

    -- no child of a fork is a block
    in_series : is_fork t (parent_of t p) ≡ false
    in_series = false_from_ne_true (is_fork t (parent_of t p)) (λ e. absurd (cc (block, strand_no_block t p (fork_child t well.sound.tree p some at.there e))))

    pub committed : is_dying m s ≡ false → is_victim t cs p ≡ false → GoesBack (closed t p Committed end) cs × AllDied (closed t p Committed end) cs (has_finished m) (finished_dead m)
    committed lives safe = (
      back_closed t r cs w.state.listed.askers p Committed end k.back (λ e. absurd (cc (e, state_closed t p Committed end is_aborted_state, and_right (is_block t p) (is_aborted_state Committed) refl))) (λ e. safe),
      λ x some e.
          (let low = well.finished x (dead_finished m x e) in
          let d = k.died x some e in
          let P : ℕ → Type 0 = λ f. Died (closed t p Committed end) cs (has_finished m) (finished_dead m) f in
          subst P (sym (number_closed t p Committed end (λ y. y.parent) (λ y. refl) x))
          (died_closed t r cs w.state.listed.askers p Committed end (has_finished m) (finished_dead m) (parent_of t x)
          (λ c. died_elsewhere m r well.sound.tree.root w.told w.state.listed.askers s at (own s running) lives (has_finished m) (finished_dead m) (parent_of t x) d) d)),
    )

    pub aborted : rolls_back m s ≡ true → GoesBack (closed t p Aborted end) cs × AllDied (closed t p Aborted end) cs (has_finished m) (finished_dead m)
    aborted back = (
      back_closed t r cs w.state.listed.askers p Aborted end k.back
          (λ e. (back_fell m (strand_of t p) p (rolls m well s running back), later_none t p some at.there in_series at.last))
          (λ e. absurd (cc (e, state_closed t p Aborted end is_committed_state, and_right (is_block t p) (is_committed_state Aborted) refl))),
      λ x some e.
          (let P : ℕ → Type 0 = λ f. Died (closed t p Aborted end) cs (has_finished m) (finished_dead m) f in
          subst P (sym (number_closed t p Aborted end (λ y. y.parent) (λ y. refl) x))
          (died_closed t r cs w.state.listed.askers p Aborted end (has_finished m) (finished_dead m) (parent_of t x) (λ c. absurd (cc c)) (k.died x some e))),
    )

  -- ## A strand finishes

  module _ (x : ℕ) (dead : Bool) (running : is_running m x ≡ true) (outside : in_block m x ≡ false) (allowed : cond (is_dying m x) dead (not dead || left_died m x) ≡ true) where
    abbrev z : OpenMachine
    z = after_open_step m (finishes x dead)

    own_place : place t x ≡ x
    own_place = eqb-true (place t x) x (not-false (nat_eq (place t x) x) outside)

    at_own : IsPlace t x
    at_own = let P : ℕ → Type 0 = λ n. IsPlace t n in subst P own_place (stands_well m well x running)

    strand : is_strand t x ≡ true
    strand = (runs m well.sound.tree well.nested x running).strand

    open_own : is_open m x ≡ true
    open_own =
        let y = runs m well.sound.tree well.nested x running in
        or_left (is_strand t x && not (has_finished m x) || is_fork t x && not (has m.joined x)) (is_pending t x)
        (or_left (is_strand t x && not (has_finished m x)) (is_fork t x && not (has m.joined x)) (and_from (is_strand t x) (not (has_finished m x)) y.strand (not_from_false (has_finished m x) y.unfinished)))

    -- a strand in which another died, of its own fork, finishes dead
    stays_dead : (f : ℕ) → Died t cs (has_finished m) (finished_dead m) f → Died t cs (has_finished z) (finished_dead z) f
    stays_dead f d = record {
      some = d.some;
      fork = d.fork;
      fell = d.fell;
      last = d.last;
      block = d.block;
      strand = λ is done.
          elim (or_cases (nat_eq x (parent_of t f)) (has_finished m (parent_of t f)) done) [
            | inr was ↦ or_right (nat_eq x (parent_of t f) && dead) (finished_dead m (parent_of t f)) (d.strand is was)
            | inl same ↦
                (let q : x ≡ parent_of t f = eqb-true x (parent_of t f) same in
                let low = node_there (λ y. is_fork_kind y.kind) t f d.fork in
                let over : is_ancestor t x f ≡ true = ancestor_up t r x f d.some low (let P : ℕ → Type 0 = λ n. is_ancestor t x n ≡ true in subst P q (ancestor_self t x)) in
                let dying = fell_dies m r w.told x f x (parent_of t f) at_own over (let P : ℕ → Type 0 = λ n. is_ancestor t n x ≡ true in subst P q (ancestor_self t x)) (fork_fell t r cs w.told f f d.some d.fork d.fell) in
                or_left (nat_eq x (parent_of t f) && dead) (finished_dead m (parent_of t f))
                (and_from (nat_eq x (parent_of t f)) dead same (sym (ap (λ b. cond b dead (not dead || left_died m x)) dying) ∙ allowed)))
          ];
    }

    module _ (some : 0 < x) (dies : dead ≡ true) where
      abbrev f : ℕ
      f = parent_of t x

      there : x < length t
      there = at_own.there

      up : f < x
      up = r x some there

      low : f < length t
      low = let u = up in let h = there in omega arith

      fork : is_fork t f ≡ true
      fork = well.sound.tree.strands x there some strand

      fork_some : 0 < f
      fork_some = elim (cases_eq f 0) [
        | inl q ↦ absurd (let root = well.sound.tree.root in cc (root, fork_no_strand t f fork, ap (is_strand t) q))
        | inr ne ↦ omega arith
      ]

      -- its own victim is above the fork
      own_fell : is_dying m x ≡ true → fell t cs f f ≡ true
      own_fell dying =
          let o = any_one (IsTold t) (λ c. is_above t x c.asker && list_any (falls m c) (all_nodes t)) cs w.told dying in
          let c = o.one in
          let y = and_parts (is_above t x c.asker) (list_any (falls m c) (all_nodes t)) o.passes in
          let (v, i, falling) = any_in (falls m c) (all_nodes t) y.1 in
          let q = and_parts (is_pending t v) (names t c v) falling in
          let low = node_there (λ y. is_block_kind y.kind) t v (pending_block t v q.0) in
          let above = victim_above first m w c o.holds v q.1 in
          let other : x ≢ v = λ e. absurd (cc (strand, ap (is_block t) e, pending_block t v q.0, strand_no_block t x strand)) in
          let over : is_ancestor t v f ≡ true = elim (cases_lt x v) [
            | inl less ↦
                absurd (let under : is_ancestor t x v ≡ true = ancestor_linear t r x v c.asker o.holds.asker (above_ancestor t x c.asker y.0) (above_ancestor t v c.asker above) (omega arith) in
                cc (q.0, at_own.within v low (sym (ancestor_above t x v (λ e. other (sym e))) ∙ under)))
            | inr le ↦ sym (ancestor_step t r v x some there other) ∙ ancestor_linear t r v x c.asker o.holds.asker (above_ancestor t v c.asker above) (above_ancestor t x c.asker y.0) le
          ] in
          o.among (fell_for t f f)
          (fell_of t f f c (record { asker = above_from t r f x c.asker o.holds.asker (ancestor_up t r f x some there (ancestor_self t f)) y.0; victim = v; there = low; named = q.1; over = over }))

      -- or it is that of the left strand
      left_fell : left_died m x ≡ true → fell t cs f f ≡ true
      left_fell e =
          let y = and_parts (nat_eq (length (children t x)) 0) (list_any (λ l. nat_lt l x && finished_dead m l) (children t f)) e in
          let (l, i, d) = any_in (λ l. nat_lt l x && finished_dead m l) (children t f) y.1 in
          let c = child_is t f l i in
          let gone = k.died l c.some (and_parts (nat_lt l x) (finished_dead m l) d).1 in
          let P : ℕ → Type 0 = λ f. fell t cs f f ≡ true in
          subst P c.parent gone.fell

      open_fork : is_open m f ≡ true
      open_fork = well.nested.outer x some there open_own

      open_up : is_open m (parent_of t f) ≡ true
      open_up = well.nested.outer f fork_some low open_fork

      no_fork_over : is_fork t (parent_of t f) ≡ false
      no_fork_over = false_from_ne_true (is_fork t (parent_of t f)) (λ e. absurd (cc (fork, fork_no_strand t f fork, fork_child t well.sound.tree f fork_some low e)))

      died_now : Died t cs (has_finished z) (finished_dead z) f
      died_now = record {
        some = fork_some;
        fork = fork;
        fell = elim (cases_Bool (is_dying m x)) [
          | inl dying ↦ own_fell dying
          | inr lives ↦
              (let e : (not dead || left_died m x) ≡ true = sym (ap (λ b. cond b dead (not dead || left_died m x)) lives) ∙ allowed in
              elim (or_cases (not dead) (left_died m x) e) [ inl q ↦ absurd (cc (q, ap not dies)) | inr q ↦ left_fell q ])
        ];
        last = false_from_ne_true (has_later t f) (λ e. (
            let (d, l) = later_is t f e in
            absurd (cc (open_fork, well.nested.last f d fork_some l.less l.there (sym l.same) no_fork_over))));
        block = false_from_ne_true (is_committed t (parent_of t f)) (λ e. absurd (not_both t (parent_of t f) (open_block m well.sound.tree well.nested (parent_of t f) (committed_block t (parent_of t f) e) open_up) e));
        strand = λ is done.
            elim (or_cases (nat_eq x (parent_of t f)) (has_finished m (parent_of t f)) done) [
              | inl same ↦ absurd (let q : x ≡ parent_of t f = eqb-true x (parent_of t f) same in let higher = r f fork_some low in let u = up in omega arith)
              | inr was ↦ absurd (strand_open (parent_of t f) is open_up was)
            ];
      } where
        -- an open strand has not finished
        strand_open : (n : ℕ) → is_strand t n ≡ true → is_open m n ≡ true → has_finished m n ≡ true → ⊥
        strand_open n is e done =
            elim (or_cases (is_strand t n && not (has_finished m n) || is_fork t n && not (has m.joined n)) (is_pending t n) e) [
              | inr q ↦ cc (pending_block t n q, strand_no_block t n is)
              | inl q ↦ elim (or_cases (is_strand t n && not (has_finished m n)) (is_fork t n && not (has m.joined n)) q) [
                | inl y ↦ cc (done, not-true (has_finished m n) (and_parts (is_strand t n) (not (has_finished m n)) y).1)
                | inr y ↦ cc (is, fork_no_strand t n (and_parts (is_fork t n) (not (has m.joined n)) y).0)
              ]
            ]

    pub finished : IsBacked z
    finished = record {
      back = k.back;
      died = λ y some e.
          elim (or_cases (nat_eq x y && dead) (finished_dead m y) e) [
            | inr was ↦ stays_dead (parent_of t y) (k.died y some was)
            | inl new ↦
                (let q = and_parts (nat_eq x y) dead new in
                let same : x ≡ y = eqb-true x y q.0 in
                let P : ℕ → Type 0 = λ n. Died t cs (has_finished z) (finished_dead z) (parent_of t n) in
                subst P same (died_now (omega arith) q.1))
          ];
    }
