-- What the strands of a closed run did is what a coherent record says of them.
use Rattle.std.proofs.Common.{◌≡◌, ℕ, zero, suc, ◌+◌, ◌<◌, ◌≤◌, List, [], ◌∷◌, length, refl, ap, sym, ◌∙◌, subst, arith, true, false, Option, Some, None, inl, inr, nat_eq, nat_lt}
use Rattle.std.specs.Prelude.{◌&&◌, ◌||◌, not, ℤ}
use Rattle.std.proofs.lemmas.Bool.{and_parts, and_from, or_cases, or_left, or_right, not-true, not_from_false, cases_Bool, cases_eq, eqb-true, ltb-true, false_from_ne_true, true_from_ne_false}
use Rattle.cw_strand.specs.Strands.{Strands, is_over}
use Rattle.cw_tree.specs.declared.node.Node.{Node}
use Rattle.cw_tree.specs.Nodes.{is_fork_kind, is_strand_kind, is_block_kind, parent_of, is_strand, is_fork, is_block, is_pending, is_committed}
use Rattle.cw_tree.specs.Walks.{has, path, is_above}
use Rattle.cw_tree.specs.Series.{children, strand_of, has_later, place}
use Rattle.cw_tree.specs.Shape.{NonePending}
use Rattle.cw_tree.specs.Accesses.{is_live}
use Rattle.cw_tree.specs.Refusals.{is_victim}
use Rattle.cw_tree.proofs.Lists.{In, any_in}
use Rattle.cw_tree.proofs.Walks.There.{node_there}
use Rattle.cw_tree.proofs.InOrder.DepthFirst.{IsChild, child_is}
use Rattle.cw_tree.proofs.Walks.Children.{last_passes}
use Rattle.cw_tree.proofs.Walks.Ancestors.{root_ancestor, above_parent}
use Rattle.cw_tree.proofs.Walks.Kin.{in_ancestor, fork_child}
use Rattle.cw_tree.proofs.Walks.Strands.{strand_of_other}
use Rattle.cw_open.specs.Machine.{OpenMachine, has_finished, finished_dead, is_running, is_dying, is_free}
use Rattle.cw_open.specs.Open.{is_open}
use Rattle.cw_open.specs.Runs.{IsReachedBy, at_any_time}
use Rattle.cw_open.specs.Refused.{unstopped, DiedBeneathVictim}
use Rattle.cw_open.proofs.Open.Standing.{open_over, open_block, pending_open, runs, stands}
use Rattle.cw_open.proofs.Open.Trees.{IsWell}
use Rattle.cw_open.proofs.Laws.Named.{live_tells}
use Rattle.cw_open.proofs.Open.Staying.{later_is}
use Rattle.cw_open.proofs.Refused.Backed.{not_both}
use Rattle.cw_open.proofs.Laws.ChainSteps.{only_committed}
use Rattle.cw_open.proofs.Refused.GoingBack.{committed_safe, dead_back}
use Rattle.cw_open.proofs.Runs.Unstopped.{stops_left_out}
use Rattle.cw_open.proofs.Runs.States.{states}
use Rattle.cw_tree.specs.Links.{is_child, last_child}
use Rattle.cw_tree.proofs.NodeKinds.{fork_no_strand, fork_no_block, pending_block, committed_block}
use Rattle.cw_open.proofs.Open.Kinds.{finished_shut}
use Rattle.cw_record.specs.Coherent.{StrandEnded, alone, joined, IsJoined, HasNoOpenFork, Follows}
use Rattle.cw_record.specs.ClosedRun.{AreStates}

module _ {A : Type 0} (s : Strands A) (asked : List Node → List ℕ → Option ℤ → List ℕ) (first : List ℤ) (m : OpenMachine) (reach : IsReachedBy (at_any_time asked) first m) (before after reached : ℕ → A) (st : AreStates s m before after reached) where
  abbrev t : List Node
  t = m.tree

  well : IsWell m
  well = (states (at_any_time asked) first m reach).well

  left : (x : ℕ) → 0 < x → finished_dead m x ≡ true → DiedBeneathVictim m x
  left = dead_back asked first m reach

  -- ## What is not open

  shut_strand : (x : ℕ) → is_strand t x ≡ true → is_open m x ≡ false → has_finished m x ≡ true
  shut_strand x is e =
      true_from_ne_false (has_finished m x) (λ q.
      absurd (cc (
        e,
        or_left (is_strand t x && not (has_finished m x) || is_fork t x && not (has m.joined x)) (is_pending t x)
            (or_left (is_strand t x && not (has_finished m x)) (is_fork t x && not (has m.joined x)) (and_from (is_strand t x) (not (has_finished m x)) is (not_from_false (has_finished m x) q))),
      )))

  shut_fork : (f : ℕ) → is_fork t f ≡ true → is_open m f ≡ false → has m.joined f ≡ true
  shut_fork f is e =
      true_from_ne_false (has m.joined f) (λ q.
      absurd (cc (
        e,
        or_left (is_strand t f && not (has_finished m f) || is_fork t f && not (has m.joined f)) (is_pending t f)
            (or_right (is_strand t f && not (has_finished m f)) (is_fork t f && not (has m.joined f)) (and_from (is_fork t f) (not (has m.joined f)) is (not_from_false (has m.joined f) q))),
      )))

  -- a joined fork is not open
  joined_shut : (f : ℕ) → is_fork t f ≡ true → has m.joined f ≡ true → is_open m f ≡ false
  joined_shut f is done =
      false_from_ne_true (is_open m f) (λ e.
      elim (or_cases (is_strand t f && not (has_finished m f) || is_fork t f && not (has m.joined f)) (is_pending t f) e) [
        | inr q ↦ absurd (cc (pending_block t f q, fork_no_block t f is))
        | inl q ↦ elim (or_cases (is_strand t f && not (has_finished m f)) (is_fork t f && not (has m.joined f)) q) [
          | inl y ↦ absurd (cc (fork_no_strand t f is, (and_parts (is_strand t f) (not (has_finished m f)) y).0))
          | inr y ↦ absurd (cc (done, not-true (has m.joined f) (and_parts (is_fork t f) (not (has m.joined f)) y).1))
        ]
      ])

  -- what stands in what is not open is not open
  shut_under : (n : ℕ) → 0 < n → n < length t → is_open m (parent_of t n) ≡ false → is_open m n ≡ false
  shut_under n some low e = false_from_ne_true (is_open m n) (λ q. absurd (cc (e, well.nested.outer n some low q)))

  -- ## The strands of a fork

  pub record Both (f : ℕ) : Type 0 where
    pub left : ℕ
    pub right : ℕ
    pub strands : children t f ≡ left ∷ right ∷ []
    pub is_left : is_strand t left ≡ true
    pub is_right : is_strand t right ≡ true
    pub child_left : IsChild t f left
    pub child_right : IsChild t f right

  both_of : (f : ℕ) → is_fork t f ≡ true → Both f
  both_of f fork =
      let (l, r, these, strands) = well.sound.tree.forks f (node_there (λ y. is_fork_kind y.kind) t f fork) fork in
      let both = and_parts (is_strand t l) (is_strand t r) strands in
      let P : ℕ → List ℕ → Type 0 = In in
      record {
        left = l;
        right = r;
        strands = these;
        is_left = both.0;
        is_right = both.1;
        child_left = child_is t f l (subst (P l) (sym these) (inl refl));
        child_right = child_is t f r (subst (P r) (sym these) (inr (inl refl)));
      }

  -- ## A strand that finished, and did not die, has come to its end

  -- both strands of a fork that was joined have come to theirs, where none of them died
  module _ (ended : (x : ℕ) → is_strand t x ≡ true → has_finished m x ≡ true → finished_dead m x ≡ false → StrandEnded s t before after reached x) (f : ℕ) (fork : is_fork t f ≡ true) (done : has m.joined f ≡ true) (lives : (x : ℕ) → IsChild t f x → finished_dead m x ≡ false) where
    is_joined : IsJoined s t before after reached f
    is_joined =
        let b = both_of f fork in
        let shut = joined_shut f fork done in
        let under : (x : ℕ) → IsChild t f x → is_open m x ≡ false = λ x c. shut_under x c.some c.there (ap (is_open m) c.parent ∙ shut) in
        record {
          left = b.left;
          right = b.right;
          strands = b.strands;
          left_ended = ended b.left b.is_left (shut_strand b.left b.is_left (under b.left b.child_left)) (lives b.left b.child_left);
          right_ended = ended b.right b.is_right (shut_strand b.right b.is_right (under b.right b.child_right)) (lives b.right b.child_right);
          behind = st.joined f b.left b.right done b.strands (lives b.left b.child_left) (lives b.right b.child_right);
        }

  -- no strand died in a fork of which something is known that would not be so then
  none_died : (f : ℕ) → ((x : ℕ) → IsChild t f x → DiedBeneathVictim m x → ⊥) → (x : ℕ) → IsChild t f x → finished_dead m x ≡ false
  none_died f out x c = false_from_ne_true (finished_dead m x) (λ e. absurd (out x c (left x c.some e)))

  ended_by : (k x : ℕ) → length t ≤ x + k → is_strand t x ≡ true → has_finished m x ≡ true → finished_dead m x ≡ false → StrandEnded s t before after reached x
  ended_by zero x le is done lives = absurd (let low = node_there (λ y. is_strand_kind y.kind) t x is in omega arith)
  ended_by (suc k) x le is done lives = by (last_child t x) refl (λ y. ended_by k y) where
    over : is_over (s.want (reached x)) ≡ true
    over = st.over x (and_from (is_strand t x && has_finished m x) (not (finished_dead m x)) (and_from (is_strand t x) (has_finished m x) is done) (not_from_false (finished_dead m x) lives))

    by : (o : Option ℕ) → last_child t x ≡ o → ((y : ℕ) → length t ≤ y + k → is_strand t y ≡ true → has_finished m y ≡ true → finished_dead m y ≡ false → StrandEnded s t before after reached y) → StrandEnded s t before after reached x
    by None e more = alone over (λ f q. absurd (cc (e, q)))
    by (Some f) e more =
        let z = last_passes (is_child t x) (length t) f e in
        let y = and_parts (nat_lt 0 f) (nat_eq (parent_of t f) x) z.1 in
        let up : parent_of t f ≡ x = eqb-true (parent_of t f) x y.1 in
        let some : 0 < f = ltb-true 0 f y.0 in
        elim (cases_Bool (is_fork t f)) [
          | inr no_fork ↦ alone over (λ g q. (let same : f ≡ g = cc (e, q) in not_from_false (is_fork t g) (ap (is_fork t) (sym same) ∙ no_fork)))
          | inl fork ↦
              (let shut = shut_under f some z.0 (ap (is_open m) up ∙ finished_shut m x is done) in
              let higher = well.sound.tree.rooted f some z.0 in
              let lives_there = none_died f (λ y c l.
              let same : parent_of t (parent_of t y) ≡ x = ap (parent_of t) c.parent ∙ up in
              cc (lives, ap (finished_dead m) (sym same) ∙ l.strand (and_from (is_strand t (parent_of t (parent_of t y))) (has_finished m (parent_of t (parent_of t y))) (ap (is_strand t) same ∙ is) (ap (has_finished m) same ∙ done)))) in
              let b = both_of f fork in
              let under : (y : ℕ) → IsChild t f y → (is_open m y ≡ false) × (length t ≤ y + k) = λ y c. (
                shut_under y c.some c.there (ap (is_open m) c.parent ∙ shut),
                (let less = well.sound.tree.rooted y c.some c.there in let p = c.parent in omega arith),
              ) in
              let l = under b.left b.child_left in
              let q = under b.right b.child_right in
              joined over e fork b.strands
              (more b.left l.1 b.is_left (shut_strand b.left b.is_left l.0) (lives_there b.left b.child_left))
              (more b.right q.1 b.is_right (shut_strand b.right b.is_right q.0) (lives_there b.right b.child_right))
              (st.joined f b.left b.right (shut_fork f fork shut) b.strands (lives_there b.left b.child_left) (lives_there b.right b.child_right)))
        ]

  pub ended : (x : ℕ) → is_strand t x ≡ true → has_finished m x ≡ true → finished_dead m x ≡ false → StrandEnded s t before after reached x
  ended x = ended_by (length t) x (omega arith)

  -- ## All nodes

  -- a fork that its strand went past is joined, and none of its strands died
  went_past : (f : ℕ) → f < length t → (is_fork t f && (has_later t f || is_committed t (parent_of t f))) ≡ true → IsJoined s t before after reached f
  went_past f low e =
      let z = and_parts (is_fork t f) (has_later t f || is_committed t (parent_of t f)) e in
      let tree = well.sound.tree in
      let some : 0 < f = elim (cases_eq f 0) [ inl q ↦ absurd (let root = tree.root in cc (root, ap (is_strand t) (sym q), fork_no_strand t f z.0)) | inr ne ↦ omega arith ] in
      let no_fork : is_fork t (parent_of t f) ≡ false = false_from_ne_true (is_fork t (parent_of t f)) (λ q. absurd (cc (fork_no_strand t f z.0, fork_child t tree f some low q))) in
      let shut : is_open m f ≡ false = elim (or_cases (has_later t f) (is_committed t (parent_of t f)) z.1) [
        | inl later ↦ (let (k, l) = later_is t f later in well.nested.last f k some l.less l.there (sym l.same) no_fork)
        | inr committed ↦
            shut_under f some low (false_from_ne_true (is_open m (parent_of t f)) (λ q. absurd (not_both t (parent_of t f) (open_block m tree well.nested (parent_of t f) (committed_block t (parent_of t f) committed) q) committed)))
      ] in
      is_joined ended f z.0 (shut_fork f z.0 shut)
      (none_died f (λ x c l.
      elim (or_cases (has_later t f) (is_committed t (parent_of t f)) z.1) [
        | inl later ↦ cc (later, ap (has_later t) (sym c.parent) ∙ l.last)
        | inr committed ↦ cc (committed, ap (λ q. is_committed t (parent_of t q)) (sym c.parent) ∙ l.block)
      ]))

  pub follows : Follows s t before after reached
  follows = record { start = st.start; series = st.series; fits = st.fits; joined = went_past }

  -- ## Where the run finished

  module _ (done : has_finished m 0 ≡ true) (lives : finished_dead m 0 ≡ false) where
    none_open : (n : ℕ) → n < length t → is_open m n ≡ false
    none_open n low =
        let tree = well.sound.tree in
        false_from_ne_true (is_open m n) (λ e. absurd (cc (finished_shut m 0 tree.root done, open_over m tree well.nested 0 n low (root_ancestor t tree.rooted n low) e)))

    pub none_pending : NonePending t
    none_pending n low = false_from_ne_true (is_pending t n) (λ e. absurd (cc (none_open n low, pending_open m well.sound.tree well.nested n e)))

    pub live_ended : (x : ℕ) → x < length t → (is_strand t x && is_live t x) ≡ true → StrandEnded s t before after reached x
    live_ended x low e =
        let z = and_parts (is_strand t x) (is_live t x) e in
        ended x z.0 (shut_strand x z.0 (none_open x low))
        (false_from_ne_true (finished_dead m x) (λ dead.
        elim (cases_eq x 0) [
          | inl q ↦ absurd (cc (dead, lives, ap (finished_dead m) q))
          | inr ne ↦
              (let tree = well.sound.tree in
              let l = left x (omega arith) dead in
              let (v, i, victim) = any_in (is_victim t m.conflicts) (path t (parent_of t x)) l.victim in
              let over : is_above t v x ≡ true = above_parent t tree.rooted v x (omega arith) low ∙ in_ancestor t v (parent_of t x) i in
              let block = (and_parts (is_block t v) _ victim).0 in
              let there = node_there (λ y. is_block_kind y.kind) t v block in
              let committed = only_committed t v block (none_pending v there) (live_tells t x v z.1 over) in
              absurd (cc (victim, committed_safe asked first m reach v committed)))
        ]))

-- ## Where a strand stands at a fault

module _ {A : Type 0} (s : Strands A) (asked : List Node → List ℕ → Option ℤ → List ℕ) (first : List ℤ) (m : OpenMachine) (reach : IsReachedBy (at_any_time asked) first m) (before after reached : ℕ → A) (st : AreStates s m before after reached) (x : ℕ) (free : is_free (unstopped m) x ≡ true) where
  goes : IsReachedBy (at_any_time asked) first (unstopped m)
  goes = stops_left_out asked first m reach

  -- its forks are joined, and none of their strands died
  pub no_open_fork : HasNoOpenFork s m.tree before after reached (place m.tree x)
  no_open_fork f e fork =
      let tree = m.tree in
      let wl = (states (at_any_time asked) first (unstopped m) goes).well in
      let z = and_parts (is_running (unstopped m) x) (not (is_dying m x)) free in
      let c = last_passes (is_child tree (place tree x)) (length tree) f e in
      let y = and_parts (nat_lt 0 f) (nat_eq (parent_of tree f) (place tree x)) c.1 in
      let up : parent_of tree f ≡ place tree x = eqb-true (parent_of tree f) (place tree x) y.1 in
      let some : 0 < f = ltb-true 0 f y.0 in
      let own : strand_of tree f ≡ x =
      strand_of_other tree wl.sound.tree.rooted f some c.0 (fork_no_strand tree f fork) ∙ ap (strand_of tree) up ∙ (stands (unstopped m) wl.sound.tree wl.nested x z.0).strand in
      let joined_f = (runs (unstopped m) wl.sound.tree wl.nested x z.0).waits_for_none f fork own in
      is_joined s asked first m reach before after reached st (ended s asked first m reach before after reached st) f fork joined_f
      (λ n k.
      false_from_ne_true (finished_dead m n) (λ dead.
      let l = dead_back asked first (unstopped m) goes n k.some dead in
      let dying = l.dying x z.0 (sym (ap (parent_of tree) k.parent ∙ up)) in
      absurd (cc (dying, not-true (is_dying m x) z.1))))
