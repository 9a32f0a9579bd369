-- Splits and joins are runs of the open machine, and keep what is true of a core.
use Rattle.std.proofs.Common.{◌≡◌, ℕ, ◌+◌, ◌<◌, ◌≤◌, List, [], ◌∷◌, length, refl, ap, sym, ◌∙◌, subst, arith, Bool, true, false, cond, Option, Some, None, inl, inr, nat_eq, nat_lt}
use Rattle.std.specs.Prelude.{◌%◌, ◌==◌, ◌&&◌, ◌||◌, not, ℤ, is_none}
use Rattle.std.specs.List.{list_any, list_all}
use Rattle.std.proofs.lemmas.Bool.{and_parts, and_from, or_cases, or_left, or_right, or_parts, not-true, not_from_true, not_from_false, lt-ltb, eqb-true, eq-eqb, ne_eqb}
use Rattle.std.proofs.Math.Bool.{and-true}
use Rattle.std.proofs.lemmas.List.{length-map}
use Rattle.cw_tree.specs.declared.node.Node.{Node}
use Rattle.cw_tree.specs.Nodes.{is_fork_kind, parent_of, is_strand, is_fork, is_pending, below}
use Rattle.cw_tree.specs.Walks.{has}
use Rattle.cw_tree.specs.Series.{children}
use Rattle.cw_tree.specs.Shape.{IsTree}
use Rattle.cw_tree.proofs.Lists.{In, any_from, all_in}
use Rattle.cw_tree.proofs.Members.{below_in}
use Rattle.cw_tree.proofs.Walks.There.{node_there}
use Rattle.cw_trace.specs.Columns.{ColumnTable, used, owner, back_to, around_fork, is_trace, before_split, split_at, merged, left_column_of}
use Rattle.cw_trace.specs.Stands.{fork_column, is_apart}
use Rattle.cw_trace.specs.Keeps.{Keeps}
use Rattle.cw_trace.specs.Running.{IsOrdered, IsUnstarted, IsDone}
use Rattle.cw_trace.proofs.Outward.FromTree.{split_keeps, merge_keeps}
use Rattle.cw_trace.proofs.Keeps.Meaning.{odd_column}
use Rattle.cw_trace.proofs.Keeps.TierLaws.{join}
use Rattle.cw_open.specs.Machine.{OpenMachine, has_finished}
use Rattle.cw_open.specs.Runs.{IsRun, at_once}
use Rattle.cw_open.specs.Open.{is_open}
use Rattle.cw_core.specs.declared.event.Event.TheVariants as event
use Rattle.cw_tree.proofs.Walks.Kin.{fork_child}
use Rattle.cw_tree.proofs.InOrder.DepthFirst.{child_is, child_in, children_rise}
use Rattle.cw_tree.proofs.Rising.{Rises}
use Rattle.cw_trace.proofs.Marks.Edits.{length_parts}
use Rattle.cw_core.specs.State.{CoreState, joined_columns, has_columns, is_split}
use Rattle.cw_core.specs.Events.{steps_of, after_event, is_unstarted, is_early}
use Rattle.cw_core.specs.Laws.{IsCore}
use Rattle.cw_core.proofs.Events.Joined.{joins_of, joins_more, joins_no_more}
use Rattle.cw_core.proofs.Events.Ordering.{columns_used, unjoined, ordered}
use Rattle.cw_core.proofs.Laws.LeftFirst.{left_tier, left_shut}
use Rattle.cw_core.proofs.Events.Complete.{none_of}
use Rattle.cw_open.proofs.Runs.More.{reached_more}
use Rattle.cw_open.proofs.Open.Kinds.{finished_shut, unjoined_open}
use Rattle.cw_core.proofs.Events.Going.{well, all_listed, root_open}
use Rattle.cw_core.proofs.Events.Making.{IsKept}
use Rattle.cw_core.proofs.Events.Closing.{same_shape}

-- ## Children

none_in : (xs : List ℕ) (v : ℕ) → nat_eq (length xs) 0 ≡ true → In v xs → ⊥
none_in [] v e i = i
none_in (x ∷ xs) v e i = let z : length (x ∷ xs) ≡ 0 = eqb-true (length (x ∷ xs)) 0 e in omega arith

-- ## Splits

module _ (first : List ℤ) (k : CoreState) (core : IsCore first k) (f : ℕ) (fork : is_fork k.machine.tree f ≡ true) (unjoined_f : has k.machine.joined f ≡ false) where
  abbrev t : List Node
  t = k.machine.tree

  abbrev m : OpenMachine
  m = k.machine

  abbrev col : ℕ
  col = fork_column t f

  tree : IsTree t
  tree = (well first k core).sound.tree

  there : f < length t
  there = node_there (λ y. is_fork_kind y.kind) t f fork

  no_join : has (joined_columns k) col ≡ false
  no_join = unjoined k (well first k core) core.joined core.left_first core.stands f fork unjoined_f

  -- a fork that is split names traces, and one that is not names none
  pub names : (z : Bool) → has k.splits col ≡ z → fork_column t f + 1 < used k.tier → is_trace k.tier col ≡ z
  names z e low =
      let odd = odd_column t f in
      let self : left_column_of col ≡ col = left_odd col odd in
      let some : nat_eq col 0 ≡ false = ne_eqb col 0 (λ q. not_zero col odd q) in
      core.stands.outside.named col (omega arith)
      ∙ ap (λ b. b || is_apart k.splits (joined_columns k) col) some
      ∙ ap (λ i. has k.splits i && not (has (joined_columns k) i)) self
      ∙ ap (λ b. b && not (has (joined_columns k) col)) e
      ∙ ap (λ b. z && not b) no_join
      ∙ and-true z where
        left_odd : (i : ℕ) → i % 2 ≡ 1 → left_column_of i ≡ i
        left_odd i e = omega arith

        not_zero : (i : ℕ) → i % 2 ≡ 1 → i ≡ 0 → ⊥
        not_zero i e q = omega arith

  module _ (columns : has_columns k f ≡ true) (uncut : has k.splits col ≡ false) (unstarted : is_unstarted k f ≡ true) where
    low : col + 1 < used k.tier
    low = columns_used k (well first k core) core.joined core.left_first core.stands f fork columns

    is_unstarted_at : IsUnstarted t (joined_columns k) col
    is_unstarted_at =
        let (l, r, these, strands) = tree.forks f there fork in
        let both = and_parts (is_strand t l) (is_strand t r) strands in
        let P : List ℕ → Type 0 = λ ns. Rises ns in
        let Q : List ℕ → Type 0 = λ ns. In l ns in
        let R : List ℕ → Type 0 = λ ns. In r ns in
        let less : l < r = (subst P these (children_rise t f)).0 r (inl refl) in
        let in_l : In l (children t f) = subst Q (sym these) (inl refl) in
        let in_r : In r (children t f) = subst R (sym these) (inr (inl refl)) in
        let left = child_is t f l in_l in
        let right = child_is t f r in_r in
        let test = all_in (λ r. not (list_any (λ l. nat_lt l r) (children t f)) || ((length (children t r) == 0) && not (has_finished m r))) r (children t f) unstarted in_r in
        let has_left : list_any (λ l. nat_lt l r) (children t f) ≡ true = any_from (λ l. nat_lt l r) l (children t f) in_l (lt-ltb l r less) in
        let none : (length (children t r) == 0) ≡ true = elim (or_cases (not (list_any (λ l. nat_lt l r) (children t f))) ((length (children t r) == 0) && not (has_finished m r)) test) [
          | inl z ↦ absurd (cc (z, not_from_true _ has_left))
          | inr z ↦ (and_parts (length (children t r) == 0) (not (has_finished m r)) z).0
        ] in
        record {
          fork = f;
          is = fork;
          at = refl;
          unjoined = no_join;
          right = r;
          some = right.some;
          low = right.there;
          child = right.parent;
          side = any_from (λ m. nat_lt 0 m && is_strand t m && (parent_of t m == parent_of t r)) l (below r) (below_in l r less)
              (and_from (nat_lt 0 l && is_strand t l) (parent_of t l == parent_of t r) (and_from (nat_lt 0 l) (is_strand t l) (lt-ltb 0 l left.some) both.0) (eq-eqb (parent_of t l) (parent_of t r) (left.parent ∙ sym right.parent)));
          nothing = λ n some h up. none_in (children t r) n none (child_in t r n (record { some = some; there = h; parent = up }));
        }

    split_to : (z : Bool) → is_none (is_early k f) ≡ z → IsCore first (record k { tier = cond z (split_at col k.tier) k.tier; splits = cond z (col ∷ k.splits) k.splits })
    split_to false e = record { reached = core.reached; complete = core.complete; joined = core.joined; left_first = core.left_first; stands = core.stands }
    split_to true e =
        let none : before_split k.tier col ≡ None = is_none_tells (before_split k.tier col) e in
        record {
          reached = core.reached;
          complete = core.complete;
          joined = core.joined;
          left_first = left_tier k.tier (split_at col k.tier) t k.splits (col ∷ k.splits) (is_open m) (omega (arith, same_used)) (λ g e. or_right (nat_eq col g) (has k.splits g) e) core.left_first;
          stands = split_keeps k.tier k.words t k.splits (joined_columns k) core.stands tree col (omega (arith, low)) (odd_column t f) (names false uncut low) is_unstarted_at none;
        } where
          is_none_tells : (o : Option ℕ) → is_none o ≡ true → o ≡ None
          is_none_tells None e = refl
          is_none_tells (Some x) e = absurd (cc e)

          same_used : used (split_at col k.tier) ≡ used k.tier
          same_used = length_parts (owner k.tier col) col 0 k.tier.owners

    pub keeps_split : IsKept first k (event.Split f)
    keeps_split = record { run = tt; core = split_to (is_none (is_early k f)) refl }

  -- ## Joins

  module _ (all : list_all (has_finished m) (children t f) ≡ true) where
    child_done : (s : ℕ) → 0 < s → s < length t → parent_of t s ≡ f → is_open m s ≡ false
    child_done s some h up = finished_shut m s (fork_child t tree s some h (ap (is_fork t) up ∙ fork)) (all_in (has_finished m) s (children t f) all (child_in t f s (record { some = some; there = h; parent = up })))

    is_done : IsDone t (is_open m) col
    is_done = record { fork = f; is = fork; at = refl; done = child_done }

    in_order : IsOrdered k.tier t k.splits (joined_columns k) (is_open m)
    in_order = ordered k (well first k core) core.joined core.left_first core.stands (root_open first k core f there (unjoined_open k.machine f fork unjoined_f))

    abbrev mz : OpenMachine
    mz = record m { joined = f ∷ m.joined }

    fewer : (n : ℕ) → is_open mz n ≡ true → is_open m n ≡ true
    fewer n e =
        let a = is_strand t n && not (has_finished m n) in
        let b = is_fork t n && not (has m.joined n) in
        elim (or_cases (a || is_fork t n && not (nat_eq f n || has m.joined n)) (is_pending t n) e) [
          | inr q ↦ or_right (a || b) (is_pending t n) q
          | inl q ↦ or_left (a || b) (is_pending t n) (elim (or_cases a (is_fork t n && not (nat_eq f n || has m.joined n)) q) [
            | inl w ↦ or_left a b w
            | inr w ↦
                (let parts = and_parts (is_fork t n) (not (nat_eq f n || has m.joined n)) w in
                or_right a b (and_from (is_fork t n) (not (has m.joined n)) parts.0 (not_from_false (has m.joined n) (or_parts (nat_eq f n) (has m.joined n) (not-true (nat_eq f n || has m.joined n) parts.1)).1)))
          ])
        ]

    forks : (g : ℕ) → has (f ∷ m.joined) g ≡ true → is_fork t g ≡ true
    forks g e = elim (or_cases (nat_eq f g) (has m.joined g) e) [ inl q ↦ (let P : ℕ → Type 0 = λ g. is_fork t g ≡ true in subst P (eqb-true f g q) fork) | inr q ↦ core.joined g q ]

    -- the tier, by whether the fork has columns and is split
    joined_stands : (h z : Bool) → has_columns k f ≡ h → has k.splits col ≡ z → Keeps (cond (h && z) (merged col k.tier) k.tier) k.words t k.splits (joins_of t k.tier.room (f ∷ m.joined))
    joined_stands false z none e = let P : List ℕ → Type 0 = λ js. Keeps k.tier k.words t k.splits js in subst P (sym (joins_no_more t k.tier.room m.joined f none)) core.stands
    joined_stands true true columns cut =
        let low = columns_used k (well first k core) core.joined core.left_first core.stands f fork columns in
        let P : List ℕ → Type 0 = λ js. Keeps (merged col k.tier) k.words t k.splits js in
        subst P (sym (joins_more t k.tier.room m.joined f columns)) (merge_keeps k.tier k.words t k.splits (joined_columns k) core.stands tree (is_open m) in_order col (omega (arith, low)) (odd_column t f) (names true cut low) is_done)
    joined_stands true false columns uncut =
        let low = columns_used k (well first k core) core.joined core.left_first core.stands f fork columns in
        let P : List ℕ → Type 0 = λ js. Keeps k.tier k.words t k.splits js in
        subst P (sym (joins_more t k.tier.room m.joined f columns)) (join k.tier k.words t k.splits (joined_columns k) (is_open m) col core.stands tree in_order (record { done = is_done; low = low; uncut = uncut }))

    tier_used : (z : Bool) → used k.tier ≤ used (cond z (merged col k.tier) k.tier)
    tier_used true = omega (arith, length-map k.tier.owners (back_to (around_fork k.tier col) col))
    tier_used false = omega arith

    tier_room : (z : Bool) → (cond z (merged col k.tier) k.tier).room ≡ k.tier.room
    tier_room true = refl
    tier_room false = refl

    pub keeps_join : IsKept first k (event.Join f)
    keeps_join =
        let run : IsRun at_once m (steps_of k (event.Join f)) = (and_from (is_fork t f && not (has m.joined f)) (list_all (has_finished m) (children t f)) (and_from (is_fork t f) (not (has m.joined f)) fork (not_from_false (has m.joined f) unjoined_f)) all, tt) in
        let z = is_split k f in
        let d : ColumnTable = cond z (merged col k.tier) k.tier in
        let P : ℕ → Type 0 = λ r. Keeps d k.words t k.splits (joins_of t r (f ∷ m.joined)) in
        record {
          run = run;
          core = record {
            reached = reached_more at_once first m (steps_of k (event.Join f)) core.reached run;
            complete = none_of (after_event k (event.Join f)).machine (all_listed first k core);
            joined = forks;
            left_first = left_tier k.tier d t k.splits k.splits (is_open mz) (tier_used z) (λ g e. e) (left_shut k.tier t t k.splits (is_open m) (is_open mz) refl (λ n. refl) (λ n. refl) (λ g. refl) (same_shape t) fewer core.left_first);
            stands = subst P (sym (tier_room z)) (joined_stands (has_columns k f) (has k.splits col) refl refl);
          };
        }
