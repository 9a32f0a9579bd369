-- A strand that runs and is ready may go on where it stands.
use Rattle.std.proofs.Common.{◌≡◌, ℕ, ◌<◌, List, length, ap, ◌∙◌, arith, true, false, inl, inr, subst, nat_lt, nat_eq}
use Rattle.std.specs.Prelude.{◌&&◌, not}
use Rattle.std.specs.List.{list_any}
use Rattle.std.proofs.lemmas.Bool.{and_parts, and_from, and_cases, not-true, not-false, not_from_false, false_from_ne_true, true_from_ne_false, lt-ltb, eq-eqb}
use Rattle.cw_tree.specs.declared.node.Node.{Node}
use Rattle.cw_tree.specs.Nodes.{parent_of, is_strand, is_fork, all_nodes}
use Rattle.cw_tree.specs.Walks.{has}
use Rattle.cw_tree.specs.Series.{strand_of, children, place}
use Rattle.cw_tree.specs.Shape.{IsTree}
use Rattle.cw_tree.proofs.Lists.{In, any_from}
use Rattle.cw_tree.proofs.Members.{below_in, filter_in}
use Rattle.cw_tree.proofs.NextNodes.Trees.{is_child, no_fork}
use Rattle.cw_tree.proofs.Walks.Kin.{fork_child}
use Rattle.cw_tree.proofs.Walks.Strands.{strand_of_other}
use Rattle.cw_tree.proofs.NodeKinds.{strand_no_block, fork_no_strand, pending_block}
use Rattle.cw_trace.specs.Stands.{fork_column}
use Rattle.cw_trace.specs.Running.{IsUnsplit, MayGoOn}
use Rattle.cw_open.specs.Machine.{OpenMachine, has_finished, is_running}
use Rattle.cw_open.specs.Open.{is_open, AreNested}
use Rattle.cw_open.proofs.Open.Standing.{stands, place_holds, place_open, none_open}
use Rattle.cw_open.proofs.Open.Kinds.{finished_shut}
use Rattle.cw_hands.specs.Shared.{SharedMoment, has_columns, is_split, is_owed, is_open_yet, waits_for_left, waits_for_merge, is_ready}
use Rattle.cw_hands.proofs.Shared.Order.{at_no_fork, wide_fork, wide_low, yet}

module _ (s : SharedMoment) (tree : IsTree s.machine.tree) (w : AreNested s.machine.tree (is_open s.machine)) where
  abbrev m : OpenMachine
  m = s.machine

  abbrev t : List Node
  t = s.machine.tree

  pub owed_fork : (f : ℕ) → is_owed s f ≡ true → is_fork s.machine.tree f ≡ true
  owed_fork f e = wide_fork s f (and_parts (has_columns s f) (has m.joined f) (and_parts (has_columns s f && has m.joined f) (not (has s.joins (fork_column t f))) e).0).0

  module _ (x : ℕ) (running : is_running s.machine x ≡ true) where
    abbrev p : ℕ
    p = place t x

    plain : is_fork t p ≡ false
    plain = no_fork t p (place_holds m tree w x running)

    -- no fork in its place is owed a merge
    pub none_owed : waits_for_merge s x ≡ false → (f : ℕ) → 0 < f → f < length s.machine.tree → parent_of s.machine.tree f ≡ place s.machine.tree x → is_owed s f ≡ false
    none_owed unowed f some h up =
        false_from_ne_true (is_owed s f) (λ e.
        let own : strand_of t f ≡ x = strand_of_other t tree.rooted f some h (fork_no_strand t f (owed_fork f e)) ∙ ap (strand_of t) up ∙ (stands m tree w x running).strand in
        absurd (cc (unowed, any_from (λ f. is_owed s f && nat_eq (strand_of t f) x) f (all_nodes t) (below_in f (length t) h) (and_from (is_owed s f) (nat_eq (strand_of t f) x) e (eq-eqb (strand_of t f) x own)))))

    unsplit_no : (f : ℕ) → IsUnsplit s.columns t s.cuts f → is_split s f ≡ false
    unsplit_no f u =
        false_from_ne_true (is_split s f) (λ e.
        let z = and_parts (has_columns s f) (has s.cuts (fork_column t f)) e in
        let low = wide_low s f z.0 in
        elim u [ inl high ↦ absurd (omega arith) | inr no_cut ↦ absurd (cc (no_cut, z.1)) ])

    left_done : waits_for_left s x ≡ false → (l : ℕ) → 0 < l → l < p → parent_of t l ≡ parent_of t p → is_fork t (parent_of t p) ≡ true → IsUnsplit s.columns t s.cuts (parent_of t p) → is_open_yet s l ≡ false
    left_done ready l some less same fork unsplit =
        let at = stands m tree w x running in
        let there = at.there in
        elim at.kind [
          | inr pending ↦
              absurd (
              let strand : is_strand t p ≡ true = fork_child t tree p (omega arith) there fork in
              cc (pending_block t p pending, strand_no_block t p strand))
          | inl e ↦
              (let P : ℕ → Type 0 = λ p. (l < p) × (parent_of t l ≡ parent_of t p) × (is_fork t (parent_of t p) ≡ true) × IsUnsplit s.columns t s.cuts (parent_of t p) in
              let z = subst P e (less, same, fork, unsplit) in
              elim (and_cases (not (is_split s (parent_of t x))) (list_any (λ l. nat_lt l x && not (has_finished m l)) (children t (parent_of t x))) ready) [
                | inl split ↦ absurd (cc (unsplit_no (parent_of t x) z.3, not-false (is_split s (parent_of t x)) split))
                | inr none ↦
                    (let low : l < length t = omega arith in
                    let child : In l (children t (parent_of t x)) = filter_in (is_child t (parent_of t x)) l (all_nodes t) (below_in l (length t) low) (and_from (nat_lt 0 l) (nat_eq (parent_of t l) (parent_of t x)) (lt-ltb 0 l some) (eq-eqb (parent_of t l) (parent_of t x) z.1)) in
                    let done : has_finished m l ≡ true =
                    true_from_ne_false (has_finished m l) (λ f. absurd (cc (none, any_from (λ l. nat_lt l x && not (has_finished m l)) l (children t (parent_of t x)) child (and_from (nat_lt l x) (not (has_finished m l)) (lt-ltb l x z.0) (not_from_false (has_finished m l) f))))) in
                    let strand : is_strand t l ≡ true = fork_child t tree l some low (ap (is_fork t) z.1 ∙ z.2) in
                    at_no_fork s l (false_from_ne_true (is_fork t l) (λ f. absurd (cc (strand, fork_no_strand t l f)))) ∙ finished_shut m l strand done)
              ])
        ]

    pub may_go_on : is_ready s x ≡ true → MayGoOn s.columns s.machine.tree s.cuts (is_open_yet s) (place s.machine.tree x)
    may_go_on ready =
        let z = and_parts (not (waits_for_left s x)) (not (waits_for_merge s x)) ready in
        record {
          there = (stands m tree w x running).there;
          opened = at_no_fork s p plain ∙ place_open m tree w x running;
          no_fork = plain;
          innermost = λ n some h up e. elim (yet s n e) [ inl q ↦ absurd (cc (q, none_open m tree w x running n some h up)) | inr q ↦ absurd (cc (q, none_owed (not-true (waits_for_merge s x) z.1) n some h up)) ];
          left_done = left_done (not-true (waits_for_left s x) z.0);
        }
