-- The states of a tree where the last node of its place is left: a block that ends, or a fork whose strands are joined.
use Rattle.std.proofs.Common.{◌≡◌, ◌≢◌, ℕ, ◌<◌, ◌≤◌, List, length, refl, ap, sym, ◌∙◌, subst, arith, true, false, inl, inr, Some, nat_lt, nat_eq}
use Rattle.std.specs.Prelude.{slice_get}
use Rattle.std.proofs.lemmas.Bool.{and_parts, and_from, cases_eq, eqb-true, eq-eqb, lt-ltb, false_from_ne_true}
use Rattle.cw_strand.specs.Strands.{Strands}
use Rattle.cw_tree.specs.declared.node.Node.{Node}
use Rattle.cw_tree.specs.Nodes.{parent_of, last_below, is_strand, is_fork, is_block, is_committed}
use Rattle.cw_tree.specs.Walks.{IsRooted, is_ancestor}
use Rattle.cw_tree.specs.Links.{is_child, last_child}
use Rattle.cw_tree.proofs.Walks.Ancestors.{ancestor_self, ancestor_step, ancestor_le}
use Rattle.cw_tree.proofs.Walks.Children.{last_passes}
use Rattle.cw_tree.proofs.LastBelow.{last_from}
use Rattle.cw_job.specs.Room.Strands.{StrandState}
use Rattle.cw_record.specs.declared.worker.Branch.{Branch}
use Rattle.cw_record.proofs.Coherent.AddedStates.{with_state, state_same, state_other}
use Rattle.cw_record.proofs.Coherent.KeptStates.{Keeps, below_same, reached_same, states_kept, does_kept}
use Rattle.cw_record.proofs.OneWorker.KnownStates.{Knows, Moves, Waits, over_kept, joins_kept, waits_kept}
use Rattle.cw_record.proofs.Coherent.States.{States, behind, reached, Does, AreStates, IsOver, JoinsAt}

-- tree u has the nodes of tree t, except for the state and end of node e
pub record SameNodesBut (t u : List Node) (e : ℕ) : Type 0 where
  pub rooted : IsRooted u
  pub len : length u ≡ length t
  pub parents : (n : ℕ) → parent_of u n ≡ parent_of t n
  pub strands : (n : ℕ) → is_strand u n ≡ is_strand t n
  pub forks : (n : ℕ) → is_fork u n ≡ is_fork t n
  pub blocks : (n : ℕ) → is_block u n ≡ is_block t n
  pub nodes : (n : ℕ) → n ≢ e → slice_get u n ≡ slice_get t n
  pub over : (a n : ℕ) → n < length t → is_ancestor u a n ≡ is_ancestor t a n

pub same_itself : (t : List Node) (e : ℕ) → IsRooted t → SameNodesBut t t e
same_itself t e r = record { rooted = r; len = refl; parents = λ n. refl; strands = λ n. refl; forks = λ n. refl; blocks = λ n. refl; nodes = λ n ne. refl; over = λ a n h. refl }

module _ (s : Strands StrandState) (t u : List Node) (r : IsRooted t) (x : States StrandState) (e : ℕ) (some : 0 < e) (there : e < length t) (last : (m : ℕ) → e ≤ m → m < length t → is_ancestor t e m ≡ true) (same : SameNodesBut t u e) (b : StrandState) where
  -- behind node e is state b
  abbrev pub with_after : States StrandState
  with_after = record { before = x.before; after = with_state x.after e b }

  abbrev y : States StrandState
  y = with_after

  abbrev o : ℕ
  o = parent_of t e

  below_e : o < e
  below_e = r e some there

  -- all behind node e is beneath it
  none_behind : (m : ℕ) → e < m → m < length t → parent_of t m ≡ o → ⊥
  none_behind m more low up =
      let beneath : is_ancestor t e m ≡ true = last m (omega arith) low in
      let above : is_ancestor t e (parent_of t m) ≡ true = sym (ancestor_step t r e m (omega arith) low (omega arith)) ∙ beneath in
      let under = below_e in
      let le : e ≤ parent_of t m = ancestor_le t r e (parent_of t m) (omega (arith, up)) above in
      absurd (omega (arith, up))

  pub after_keeps : Keeps s t u x y e o
  after_keeps =
      let len = same.len in
      record {
        rooted = r;
        some = omega arith;
        longer = omega arith;
        parents = λ n h. same.parents n;
        blocks = λ n h. same.blocks n;
        forks = λ n h. same.forks n;
        before = λ n h. refl;
        after = λ n h ne. state_other x.after e b n ne;
        last = λ d above h q.
            (let z = last_passes (is_child t (parent_of t d)) d e q in
            let up : o ≡ parent_of t d = eqb-true o (parent_of t d) (and_parts (nat_lt 0 e) (nat_eq o (parent_of t d)) z.1).1 in
            none_behind d z.0 h (sym up));
        touched = λ n h ne. record {
          there = h;
          none = λ m le low q. absurd (omega arith);
          other = λ q. (let z = last_passes (is_child t n) (length t) e q in ne (sym (eqb-true o n (and_parts (nat_lt 0 e) (nat_eq o n) z.1).1)));
        };
      }

  pub last_right_in : last_child t o ≡ Some e
  last_right_in =
      last_from (is_child t o) e (length t) there (and_from (nat_lt 0 e) (nat_eq o o) (lt-ltb 0 e some) (eq-eqb o o refl))
      (λ m more low. false_from_ne_true (is_child t o m) (λ q. none_behind m more low (eqb-true (parent_of t m) o (and_parts (nat_lt 0 m) (nat_eq (parent_of t m) o) q).1)))

  pub reached_outer : reached s u y o ≡ b
  reached_outer =
      ap (behind s u y o) (ap (last_below (is_child u o)) same.len ∙ below_same s t u x y e o after_keeps o (length t) (omega arith) ∙ last_right_in)
      ∙ state_same x.after e b

  pub still : (n : ℕ) → n < length t → n ≢ o → reached s u y n ≡ reached s t x n
  still n h ne = reached_same s t u x y e o after_keeps n (after_keeps.touched n h ne)

  pub reached_here : reached s u y e ≡ reached s t x e
  reached_here = (let low = below_e in still e there (omega arith))

  -- the place goes up to that of node e
  module _ (p : ℕ) (above : (n : ℕ) → is_ancestor t n o ≡ true → is_ancestor t n p ≡ true) where
    low_o : o < length t
    low_o = let low = below_e in omega arith

    up : Moves s t u p o o
    up =
        let len = same.len in
        let low = low_o in
        record {
          rooted = same.rooted;
          there = omega arith;
          on = ancestor_self u o;
          strands = λ n l. same.strands n;
          away = λ n l q. above n (sym (same.over n o low) ∙ q);
          parents = λ n le l. absurd (omega arith);
        }

    pub joins_up : (f : ℕ) → f < length t → is_ancestor t f o ≡ false → f ≢ e → JoinsAt s t x f → JoinsAt s u y f
    joins_up f l off = joins_kept s t u x y e o after_keeps p o up f l (same.over f o low_o ∙ off)

    pub knows_up : (xs : List Branch) → AreStates s t x → is_committed t o ≡ false → ((z : Node) → slice_get u e ≡ Some z → Does s u y e z.kind z.state) → Waits s t p x xs
        → ((n : ℕ) → n < length t → is_strand t n ≡ true → is_ancestor t n o ≡ false → IsOver s t x n) → ((f : ℕ) → f < length t → is_fork t f ≡ true → is_ancestor t f o ≡ false → JoinsAt s u y f) → Knows s u o xs b y
    knows_up xs h undone does waits over joins =
        let len = same.len in
        record {
          states = states_kept s t u x y e o after_keeps h (λ d le low. absurd (omega arith))
              (λ n z is. elim (cases_eq n e) [
                | inl q ↦ (let P : ℕ → Type 0 = λ i. slice_get u i ≡ Some z → Does s u y i z.kind z.state in subst P (sym q) (does z) is)
                | inr ne ↦ does_kept s t u x y e o after_keeps h undone n z (sym (same.nodes n ne) ∙ is) ne
              ]);
          here = reached_outer;
          over = over_kept s t u x y e o after_keeps p o up (λ n le l strand. absurd (omega arith)) (λ n l strand off. over n l strand (sym (same.over n o low_o) ∙ off));
          joins = λ f l fork off. joins f (omega arith) (sym (same.forks f) ∙ fork) (sym (same.over f o low_o) ∙ off);
          waits = waits_kept s t u x y e o after_keeps p o up xs waits;
        }
