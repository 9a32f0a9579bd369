-- The states of a tree with a new node, which begins where the strand at its place stands, and of one worker that draws it.
use Rattle.std.proofs.Common.{◌≡◌, ◌≢◌, ℕ, zero, suc, ◌<◌, ◌≤◌, List, [], ◌∷◌, length, refl, ap, sym, ◌∙◌, subst, arith, true, false, cond, inl, inr, Some, None, nat_lt, nat_eq}
use Rattle.std.specs.Prelude.{◌||◌, slice_get}
use Rattle.std.proofs.lemmas.Bool.{and_parts, and_from, cases_lt, eqb-true, eq-eqb, ne_eqb, ltb-true, lt-ltb, or_left, or_right, false_from_ne_true}
use Rattle.std.proofs.lemmas.Option.{slice_get_within, same_Some}
use Rattle.cw_strand.specs.declared.want.Given.TheVariants.{Nothing}
use Rattle.cw_strand.specs.Strands.{Strands}
use Rattle.cw_tree.specs.declared.node.Node.{Node}
use Rattle.cw_tree.specs.declared.node.Kind.{Kind}
use Rattle.cw_tree.specs.declared.node.Kind.TheVariants.{Strand}
use Rattle.cw_tree.specs.Nodes.{parent_of, last_below, is_strand, is_fork, is_committed, is_strand_kind, is_fork_kind, is_block_kind, first_state, fresh_node}
use Rattle.cw_tree.specs.Walks.{IsRooted, is_ancestor}
use Rattle.cw_tree.specs.Links.{is_child, last_child}
use Rattle.cw_tree.proofs.Walks.Ancestors.{ancestor_self, ancestor_step}
use Rattle.cw_tree.proofs.NextNodes.Growing.{get_append, get_next, length_more, node_grown, number_grown, node_new, number_new, ancestor_grown, rooted_more}
use Rattle.cw_tree.proofs.Walks.Children.{last_passes}
use Rattle.cw_tree.proofs.LastBelow.{last_none}
use Rattle.cw_job.specs.Room.Strands.{StrandState}
use Rattle.cw_record.specs.declared.worker.Branch.{Branch}
use Rattle.cw_record.specs.Drawn.{added}
use Rattle.cw_record.proofs.Coherent.States.{States, behind, reached, side, begins_in, begins, DoesAs, Does, AreStates, IsOver, JoinsAt}
use Rattle.cw_record.proofs.Coherent.KeptStates.{does_same, Keeps, below_same, behind_same, states_kept, does_kept}
use Rattle.cw_record.proofs.OneWorker.KnownStates.{Known, Knows, Moves, Waits, over_kept, joins_kept, waits_kept}

-- a state for one number more
abbrev pub with_state : {A : Type 0} → (ℕ → A) → ℕ → A → ℕ → A
with_state f n a m = cond (nat_eq m n) a (f m)

pub state_same : {A : Type 0} → (f : ℕ → A) (n : ℕ) (a : A) → with_state f n a n ≡ a
state_same f n a = ap (λ b. cond b a (f n)) (eq-eqb n n refl)

pub state_other : {A : Type 0} → (f : ℕ → A) (n : ℕ) (a : A) (m : ℕ) → m ≢ n → with_state f n a m ≡ f m
state_other f n a m ne = ap (λ b. cond b a (f m)) (ne_eqb m n ne)

module _ (s : Strands StrandState) (t : List Node) (r : IsRooted t) (x : States StrandState) (p : ℕ) (there : p < length t) (kind : Kind) (st : ℕ) (a b : StrandState) where
  abbrev z : Node
  z = fresh_node p kind st

  abbrev u : List Node
  u = added t p kind st

  abbrev g : ℕ
  g = length t

  -- the new node begins in state a, and after it is state b
  abbrev pub with_node : States StrandState
  with_node = record { before = with_state x.before g a; after = with_state x.after g b }

  abbrev y : States StrandState
  y = with_node

  longer : length u ≡ suc g
  longer = length_more t z

  pub ru : IsRooted u
  ru = rooted_more t z r there

  new_parent : parent_of u g ≡ p
  new_parent = number_new t z (λ w. w.parent)

  pub is_new : (m : ℕ) → g ≤ m → m < length u → m ≡ g
  is_new m le low = omega (arith, longer)

  pub parent_new : (m : ℕ) → g ≤ m → m < length u → parent_of u m ≡ p
  parent_new m le low = ap (parent_of u) (is_new m le low) ∙ new_parent

  low_child : (n m : ℕ) → last_child t n ≡ Some m → m < g
  low_child n m q = (last_passes (is_child t n) g m q).0

  pub node_keeps : Keeps s t u x y g p
  node_keeps = record {
    rooted = r;
    some = omega (arith, there);
    longer = omega (arith, longer);
    parents = number_grown t (z ∷ []) (λ w. w.parent);
    blocks = node_grown t (z ∷ []) (λ w. is_block_kind w.kind);
    forks = node_grown t (z ∷ []) (λ w. is_fork_kind w.kind);
    before = λ n h. state_other x.before g a n (omega arith);
    after = λ n h ne. state_other x.after g b n ne;
    last = λ d some h q. (let l = (last_passes (is_child t (parent_of t d)) d g q).0 in absurd (omega arith));
    touched = λ n h ne. record { there = h; none = λ m le low q. ne (sym q ∙ parent_new m le low); other = λ q. (let l = low_child n g q in absurd (omega arith)) };
  }

  -- ## What is reached

  child_here : is_child u p g ≡ true
  child_here = and_from (nat_lt 0 g) (nat_eq (parent_of u g) p) (lt-ltb 0 g (omega (arith, there))) (eq-eqb (parent_of u g) p new_parent)

  last_here : last_child u p ≡ Some g
  last_here = ap (last_below (is_child u p)) longer ∙ ap (λ c. cond c (Some g) (last_below (is_child u p) g)) child_here

  reached_place : reached s u y p ≡ b
  reached_place = ap (behind s u y p) last_here ∙ state_same x.after g b

  pub none_in_new : last_child u g ≡ None
  none_in_new =
      last_none (is_child u g) (length u) (λ m h.
      false_from_ne_true (is_child u g m) (λ q.
      let w = and_parts (nat_lt 0 m) (nat_eq (parent_of u m) g) q in
      let up : parent_of u m ≡ g = eqb-true (parent_of u m) g w.1 in
      let low : parent_of u m < m = ru m (ltb-true 0 m w.0) h in
      absurd (omega (arith, longer))))

  pub reached_new : reached s u y g ≡ cond (is_block_kind kind) (s.answer a Nothing) a
  reached_new =
      ap (behind s u y g) none_in_new
      ∙ ap (λ c. cond c (s.answer (y.before g) Nothing) (y.before g)) (node_new t z (λ w. is_block_kind w.kind))
      ∙ ap (λ v. cond (is_block_kind kind) (s.answer v Nothing) v) (state_same x.before g a)

  -- ## Where the new node begins

  -- a node after the others in its place begins so
  abbrev pub StartsAt : Type 0
  StartsAt = a ≡ begins_in s u y (is_fork t p) p (last_child t p)

  pub starts_in : is_fork t p ≡ false → a ≡ reached s t x p → StartsAt
  starts_in other e =
      e
      ∙ sym (behind_same s t u x y g p node_keeps p (last_child t p) there (λ m q. (low_child p m q, (let l = low_child p m q in omega arith))))
      ∙ sym (ap (λ c. begins_in s u y c p (last_child t p)) other)

  pub starts_left : is_fork t p ≡ true → last_child t p ≡ None → a ≡ s.left (x.before p) → StartsAt
  starts_left fork none e = e ∙ ap s.left (sym (node_keeps.before p there)) ∙ sym (ap (side s u y p) none) ∙ sym (ap (λ c. begins_in s u y c p (last_child t p)) fork)

  pub starts_right : (m : ℕ) → is_fork t p ≡ true → last_child t p ≡ Some m → a ≡ s.right (x.before p) → StartsAt
  starts_right m fork some e = e ∙ ap s.right (sym (node_keeps.before p there)) ∙ sym (ap (side s u y p) some) ∙ sym (ap (λ c. begins_in s u y c p (last_child t p)) fork)

  begins_new : begins s u y g ≡ begins_in s u y (is_fork t p) p (last_child t p)
  begins_new =
      ap (λ n. begins_in s u y (is_fork u n) n (last_below (is_child u n) g)) new_parent
      ∙ ap (λ c. begins_in s u y c p (last_below (is_child u p) g)) (node_keeps.forks p there)
      ∙ ap (begins_in s u y (is_fork t p) p) (below_same s t u x y g p node_keeps p g (omega arith))

  module _ (h : AreStates s t x) (undone : is_committed t p ≡ false) (starts : StartsAt) (does : DoesAs s a b (reached s u y g) kind (first_state kind)) where
    does_new : (w : Node) → slice_get u g ≡ Some w → Does s u y g w.kind w.state
    does_new w is =
        let W : Node → Type 0 = λ v. Does s u y g v.kind v.state in
        subst W (same_Some z w (sym (get_next t z []) ∙ is))
        (does_same s a b (reached s u y g) (y.before g) (y.after g) (reached s u y g) kind (first_state kind) (state_same x.before g a) (state_same x.after g b) refl does)

    pub states_more : AreStates s u y
    states_more =
        states_kept s t u x y g p node_keeps h
        (λ d le low. (let P : ℕ → Type 0 = λ i. y.before i ≡ begins s u y i in subst P (sym (is_new d le low)) (state_same x.before g a ∙ (starts ∙ sym begins_new))))
        (λ n w is.
        elim (cases_lt n g) [
          | inl l ↦ does_kept s t u x y g p node_keeps h undone n w (sym (get_append t (z ∷ []) n l) ∙ is) (omega arith)
          | inr le ↦ (
              let P : ℕ → Type 0 = λ i. slice_get u i ≡ Some w → Does s u y i w.kind w.state in
              subst P (sym (is_new n le (slice_get_within u n w is))) (does_new w) is)
        ])

    -- ## The place stays

    module _ (xs : List Branch) (k : Knows s t p xs a x) (plain : (is_strand_kind kind || is_fork_kind kind) ≡ false) where
      kind_new : (n : ℕ) → g ≤ n → n < length u → (is_strand u n || is_fork u n) ≡ false
      kind_new n le low =
          ap (λ i. is_strand u i || is_fork u i) (is_new n le low)
          ∙ ap (λ c. c || is_fork u g) (node_new t z (λ w. is_strand_kind w.kind))
          ∙ ap (λ c. is_strand_kind kind || c) (node_new t z (λ w. is_fork_kind w.kind))
          ∙ plain

      stays : Moves s t u p p p
      stays = record {
        rooted = ru;
        there = omega (arith, longer, there);
        on = ancestor_self u p;
        strands = node_grown t (z ∷ []) (λ w. is_strand_kind w.kind);
        away = λ n h e. sym (ancestor_grown t (z ∷ []) r n p there) ∙ e;
        parents = parent_new;
      }

      pub knows_leaf : Knows s u p xs b y
      knows_leaf = record {
        states = states_more;
        here = reached_place;
        over = over_kept s t u x y g p node_keeps p p stays (λ n le low strand. absurd (let no = kind_new n le low in let yes = or_left (is_strand u n) (is_fork u n) strand in cc (no, yes))) (λ n l strand off. k.over n l strand (sym (ancestor_grown t (z ∷ []) r n p there) ∙ off));
        joins = λ f low fork off.
            elim (cases_lt f g) [
              | inl l ↦ joins_kept s t u x y g p node_keeps p p stays f l off (omega arith) (k.joins f l (sym (node_keeps.forks f l) ∙ fork) (sym (ancestor_grown t (z ∷ []) r f p there) ∙ off))
              | inr le ↦ absurd (let no = kind_new f le low in let yes = or_right (is_strand u f) (is_fork u f) fork in cc (no, yes))
            ];
        waits = waits_kept s t u x y g p node_keeps p p stays xs k.waits;
      }

    -- ## The place goes down to the new node

    pub over_new : (n : ℕ) → n < g → is_ancestor u n g ≡ is_ancestor t n p
    over_new n l = ancestor_step u ru n g (omega (arith, there)) (omega (arith, longer)) (omega arith) ∙ (ap (is_ancestor u n) new_parent ∙ ancestor_grown t (z ∷ []) r n p there)

    -- what is above the node was above the place where the worker was
    module _ (xs : List Branch) (from : ℕ) (above : (n : ℕ) → n < g → is_ancestor t n p ≡ true → is_ancestor t n from ≡ true) (waits : Waits s t from x xs)
        (over : (n : ℕ) → n < g → is_strand t n ≡ true → is_ancestor t n p ≡ false → IsOver s t x n) (joins : (f : ℕ) → f < g → is_fork t f ≡ true → is_ancestor t f p ≡ false → JoinsAt s t x f) where
      down : Moves s t u from g p
      down = record {
        rooted = ru;
        there = omega (arith, longer);
        on = over_new p there ∙ ancestor_self t p;
        strands = node_grown t (z ∷ []) (λ w. is_strand_kind w.kind);
        away = λ n h e. above n h (sym (over_new n h) ∙ e);
        parents = parent_new;
      }

      fresh : (n : ℕ) → g ≤ n → n < length u → is_ancestor u n g ≡ true
      fresh n le low = let P : ℕ → Type 0 = λ i. is_ancestor u i g ≡ true in subst P (sym (is_new n le low)) (ancestor_self u g)

      pub knows_down : Knows s u g xs (reached s u y g) y
      knows_down = record {
        states = states_more;
        here = refl;
        over = over_kept s t u x y g p node_keeps from g down (λ n le low strand. fresh n le low) (λ n l strand off. over n l strand (sym (over_new n l) ∙ off));
        joins = λ f low fork off.
            elim (cases_lt f g) [
              | inl l ↦ joins_kept s t u x y g p node_keeps from g down f l off (omega arith) (joins f l (sym (node_keeps.forks f l) ∙ fork) (sym (over_new f l) ∙ off))
              | inr le ↦ absurd (let on = fresh f le low in cc (on, off))
            ];
        waits = waits_kept s t u x y g p node_keeps from g down xs waits;
      }

-- ## The root alone

module _ (s : Strands StrandState) where
  abbrev root : List Node
  root = fresh_node 0 Strand 0 ∷ []

  abbrev begins_first : States StrandState
  begins_first = record { before = λ n. s.start; after = λ n. s.start }

  root_does : (n : ℕ) (w : Node) → slice_get root n ≡ Some w → Does s root begins_first n w.kind w.state
  root_does zero w e = let W : Node → Type 0 = λ v. Does s root begins_first 0 v.kind v.state in subst W (same_Some (fresh_node 0 Strand 0) w e) tt
  root_does (suc n) w e = absurd (let low = slice_get_within root (suc n) w e in omega arith)

  root_over : (n : ℕ) → n < 1 → is_ancestor root n 0 ≡ false → ⊥
  root_over zero l e = absurd (cc e)
  root_over (suc n) l e = absurd (omega arith)

  pub known_root : Known s root 0 [] s.start
  known_root = (
    begins_first,
    record {
      states = record { start = refl; begun = λ d some l. absurd (omega arith); does = root_does };
      here = refl;
      over = λ n l strand off. absurd (root_over n l off);
      joins = λ f l fork off. absurd (root_over f l off);
      waits = tt;
    },
  )
