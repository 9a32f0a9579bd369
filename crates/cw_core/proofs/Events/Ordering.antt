-- What the tier asks of open nodes holds of a core, and where a strand may go on.
use Rattle.std.proofs.Common.{◌≡◌, ℕ, ◌+◌, ◌<◌, List, length, ap, sym, ◌∙◌, subst, arith, true, false, inl, inr, nat_eq, nat_lt}
use Rattle.std.specs.Prelude.{◌&&◌, ◌||◌, not}
use Rattle.std.specs.List.{list_any}
use Rattle.std.proofs.lemmas.Bool.{and_parts, and_from, and_cases, or_left, cases_lt, cases_eq, not-false, not_from_false, false_from_ne_true, true_from_ne_false, lt-ltb, eq-eqb}
use Rattle.cw_tree.specs.declared.node.Node.{Node}
use Rattle.cw_tree.specs.Nodes.{parent_of, is_fork, is_strand, is_pending, all_nodes}
use Rattle.cw_tree.specs.Walks.{has}
use Rattle.cw_tree.specs.Series.{children, place}
use Rattle.cw_tree.specs.Shape.{IsTree}
use Rattle.cw_tree.proofs.Lists.{In, any_from}
use Rattle.cw_tree.proofs.Members.{below_in, filter_in}
use Rattle.cw_tree.proofs.NextNodes.Trees.{is_child, no_fork}
use Rattle.cw_tree.proofs.Walks.Kin.{fork_child}
use Rattle.cw_tree.proofs.NodeKinds.{strand_no_block, pending_block}
use Rattle.cw_trace.specs.Columns.{used}
use Rattle.cw_trace.specs.Stands.{fork_column}
use Rattle.cw_trace.specs.Keeps.{Keeps}
use Rattle.cw_trace.specs.Running.{IsUnsplit, IsOrdered, MayGoOn}
use Rattle.cw_open.specs.Machine.{OpenMachine, has_finished, is_running}
use Rattle.cw_open.specs.Open.{is_open}
use Rattle.cw_open.proofs.Open.Standing.{stands, place_open, none_open, pending_open}
use Rattle.cw_open.proofs.Open.Trees.{IsWell, stands_well}
use Rattle.cw_open.proofs.Open.Kinds.{finished_shut, unjoined_open, open_unjoined, open_kinds}
use Rattle.cw_core.specs.State.{CoreState, joined_columns, has_columns, is_split, waits_for_left}
use Rattle.cw_core.specs.Laws.{IsLeftFirst}
use Rattle.cw_core.proofs.Events.Joined.{joins_have, joins_tell}

module _ (k : CoreState) (w : IsWell k.machine) (forks : (f : ℕ) → has k.machine.joined f ≡ true → is_fork k.machine.tree f ≡ true) (left : IsLeftFirst k.tier k.machine.tree k.splits (is_open k.machine)) (tier : Keeps k.tier k.words k.machine.tree k.splits (joined_columns k)) where
  abbrev t : List Node
  t = k.machine.tree

  abbrev m : OpenMachine
  m = k.machine

  tree : IsTree t
  tree = w.sound.tree

  -- a fork has columns where there is room for them, and then they are in use
  pub columns_used : (f : ℕ) → is_fork t f ≡ true → has_columns k f ≡ true → fork_column t f + 1 < used k.tier
  columns_used f fork e = (tier.forks f fork).0 e

  pub used_columns : (f : ℕ) → is_fork t f ≡ true → fork_column t f + 1 < used k.tier → has_columns k f ≡ true
  used_columns f fork low = (tier.forks f fork).1 low

  pub unjoined : (f : ℕ) → is_fork t f ≡ true → has m.joined f ≡ false → has (joined_columns k) (fork_column t f) ≡ false
  unjoined f fork e = false_from_ne_true (has (joined_columns k) (fork_column t f)) (λ z. absurd (cc (e, joins_tell t k.tier.room m.joined forks f fork z)))

  one_open : (n c : ℕ) → 0 < n → 0 < c → n < length t → c < length t → is_open m n ≡ true → is_open m c ≡ true → parent_of t n ≡ parent_of t c → is_fork t (parent_of t n) ≡ false → n ≡ c
  one_open n c sn sc hn hc en ec same nf =
      elim (cases_lt n c) [
        | inl less ↦ absurd (cc (en, w.nested.last n c sn less hc same nf))
        | inr le ↦ elim (cases_eq n c) [
          | inl e ↦ e
          | inr ne ↦ absurd (cc (ec, w.nested.last c n sc (omega arith) hn (sym same) (ap (is_fork t) (sym same) ∙ nf)))
        ]
      ]

  pub ordered : has_finished m 0 ≡ false → IsOrdered k.tier t k.splits (joined_columns k) (is_open m)
  ordered runs = record {
    root = or_left (is_strand t 0 && not (has_finished m 0) || is_fork t 0 && not (has m.joined 0)) (is_pending t 0)
        (or_left (is_strand t 0 && not (has_finished m 0)) (is_fork t 0 && not (has m.joined 0)) (and_from (is_strand t 0) (not (has_finished m 0)) tree.root (not_from_false (has_finished m 0) runs)));
    pending = pending_open m tree w.nested;
    forks = λ f fork low e.
        unjoined_open m f fork (false_from_ne_true (has m.joined f) (λ z. absurd (cc (e, joins_have t k.tier.room m.joined f z (used_columns f fork low)))));
    joined = λ f fork low e. unjoined f fork (open_unjoined m f fork e);
    kinds = λ n h e. open_kinds m n e;
    outer = w.nested.outer;
    one = one_open;
    left_first = λ l r n some less h same fork unsplit hn over ne. left l r n some less h same fork unsplit hn over ne;
  }

  -- ## A strand that may go on

  module _ (s : ℕ) (running : is_running m s ≡ true) (ready : waits_for_left k s ≡ false) where
    abbrev p : ℕ
    p = place t s

    unsplit_no : (f : ℕ) → is_fork t f ≡ true → IsUnsplit k.tier t k.splits f → is_split k f ≡ false
    unsplit_no f fork u =
        false_from_ne_true (is_split k f) (λ e.
        let z = and_parts (has_columns k f) (has k.splits (fork_column t f)) e in
        let low = columns_used f fork z.0 in
        elim u [ inl high ↦ absurd (omega arith) | inr no_cut ↦ absurd (cc (no_cut, z.1)) ])

    left_done : (l : ℕ) → 0 < l → l < p → parent_of t l ≡ parent_of t p → is_fork t (parent_of t p) ≡ true → IsUnsplit k.tier t k.splits (parent_of t p) → is_open m l ≡ false
    left_done l some less same fork unsplit =
        let at = stands m tree w.nested s running in
        let there = at.there in
        elim at.kind [
          | inr pending ↦
              absurd (
              let strand : is_strand t p ≡ true = fork_child t tree p (omega arith) there fork in
              cc (pending_block t p pending, strand_no_block t p strand))
          | inl e ↦
              (let P : ℕ → Type 0 = λ p. (l < p) × (parent_of t l ≡ parent_of t p) × (is_fork t (parent_of t p) ≡ true) × IsUnsplit k.tier t k.splits (parent_of t p) in
              let z = subst P e (less, same, fork, unsplit) in
              elim (and_cases (not (is_split k (parent_of t s))) (list_any (λ x. nat_lt x s && not (has_finished m x)) (children t (parent_of t s))) ready) [
                | inl split ↦ absurd (cc (unsplit_no (parent_of t s) z.2 z.3, not-false (is_split k (parent_of t s)) split))
                | inr none ↦
                    (let low : l < length t = omega arith in
                    let child : In l (children t (parent_of t s)) = filter_in (is_child t (parent_of t s)) l (all_nodes t) (below_in l (length t) low) (and_from (nat_lt 0 l) (nat_eq (parent_of t l) (parent_of t s)) (lt-ltb 0 l some) (eq-eqb (parent_of t l) (parent_of t s) z.1)) in
                    let done : has_finished m l ≡ true =
                    true_from_ne_false (has_finished m l) (λ f. absurd (cc (none, any_from (λ x. nat_lt x s && not (has_finished m x)) l (children t (parent_of t s)) child (and_from (nat_lt l s) (not (has_finished m l)) (lt-ltb l s z.0) (not_from_false (has_finished m l) f))))) in
                    finished_shut m l (fork_child t tree l some low (ap (is_fork t) z.1 ∙ z.2)) done)
              ])
        ]

    pub may_go_on : MayGoOn k.tier t k.splits (is_open m) p
    may_go_on = record {
      there = (stands_well m w s running).there;
      opened = place_open m tree w.nested s running;
      no_fork = no_fork t p (stands_well m w s running).holds;
      innermost = λ n some h up e. absurd (cc (e, none_open m tree w.nested s running n some h up));
      left_done = left_done;
    }
