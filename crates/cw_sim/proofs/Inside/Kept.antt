-- What a step of a strand leaves, and which strands are dying after it.
use Rattle.std.proofs.Common.{◌≡◌, ◌≢◌, ℕ, ◌<◌, List, [], ◌∷◌, ◌++◌, length, refl, ap, sym, ◌∙◌, subst, arith, Bool, true, false, cond, inl, inr}
use Rattle.std.specs.Prelude.{◌⊎◌, ◌&&◌, ℤ}
use Rattle.std.specs.List.{list_any}
use Rattle.std.proofs.lemmas.Bool.{cases_eq, eq-eqb, ne_eqb, or_cases, or_left, or_right}
use Rattle.cw_tree.specs.declared.node.Node.{Node}
use Rattle.cw_tree.specs.declared.node.BlockState.{BlockState}
use Rattle.cw_tree.specs.declared.conflict.Conflict.{Conflict}
use Rattle.cw_tree.specs.Nodes.{is_strand_kind, is_fork_kind, is_block_kind, is_pending_state, stamp_of, is_strand, is_fork, is_block, is_pending}
use Rattle.cw_tree.specs.Shape.{IsTree}
use Rattle.cw_tree.proofs.NextNodes.Closing.{length_closed}
use Rattle.cw_tree.proofs.NextNodes.Growing.{length_more, node_grown, number_grown, node_new}
use Rattle.cw_tree.proofs.Walks.There.{node_there, strand_there}
use Rattle.cw_tree.proofs.Names.Forks.{same_truth}
use Rattle.cw_open.specs.Machine.{OpenMachine, is_dying}
use Rattle.cw_open.proofs.Open.Staying.{Stays, closed_stays}
use Rattle.cw_open.proofs.Refused.Victims.{IsTold, IsToldState}
use Rattle.cw_core.specs.State.{CoreState}
use Rattle.cw_sim.specs.Workers.{changed_at}
use Rattle.cw_sim.proofs.Inside.Dying.{Dies, dies_by, dies_on, dies_back}
use Rattle.cw_sim.proofs.Inside.Quiet.{IsLeft}
use Rattle.cw_sim.proofs.Kept.Leaves.{IsMore, more_ways, more_waits}
use Rattle.cw_sim.proofs.Kept.Shuts.{IsShut, shut_waits}

pub changed_here : {A : Type 0} (x : ℕ) (a : A) (f : ℕ → A) → changed_at x a f x ≡ a
changed_here x a f = ap (λ b. cond b a (f x)) (eq-eqb x x refl)

pub changed_other : {A : Type 0} (x : ℕ) (a : A) (f : ℕ → A) (y : ℕ) → y ≢ x → changed_at x a f y ≡ f y
changed_other x a f y ne = ap (λ b. cond b a (f y)) (ne_eqb y x ne)

-- ## Strands and forks

-- a node came that is neither
pub more_left : (k z : CoreState) → IsTree k.machine.tree → (x : Node) → IsMore k z x → IsLeft k.machine z.machine
more_left k z tree x is =
    let t = k.machine.tree in
    let ways = more_ways k z tree x is in
    record {
      stays = record {
        longer = ways.longer;
        rooted = tree.rooted;
        parents = ways.parents;
        stamps = λ n h. ap (λ v. stamp_of v n) is.tree ∙ number_grown t (x ∷ []) (λ y. y.stamp) n h;
        strands = ways.strands;
        forks = λ n h. ap (λ v. is_fork v n) is.tree ∙ node_grown t (x ∷ []) (λ y. is_fork_kind y.kind) n h;
        blocks = λ n h. ap (λ v. is_block v n) is.tree ∙ node_grown t (x ∷ []) (λ y. is_block_kind y.kind) n h;
      };
      strands = λ y e.
          (let f = sym (ap (λ v. is_strand v y) is.tree) ∙ e in
          let low = strand_there (t ++ x ∷ []) y f in
          elim (cases_eq y (length t)) [
            | inl q ↦ absurd (cc (f, ap (is_strand (t ++ x ∷ [])) q, node_new t x (λ y. is_strand_kind y.kind), is.strand))
            | inr ne ↦ (let len = length_more t x in omega (arith, ne))
          ]);
      waits = more_waits k z tree x is;
      joined = is.joined;
      finished = is.finished;
    }

-- a block was closed
pub shut_left : (k z : CoreState) → IsTree k.machine.tree → (b : ℕ) (state : BlockState) (end : ℕ) → IsShut k z b state end → IsLeft k.machine z.machine
shut_left k z tree b state end is =
    let t = k.machine.tree in
    let P : List Node → Type 0 = λ u. Stays t u in
    record {
      stays = subst P (sym is.tree) (closed_stays t tree.rooted b state end);
      strands = λ y e. (let low = strand_there z.machine.tree y e in omega (arith, low, ap length is.tree, length_closed t b state end));
      waits = shut_waits k z tree b state end is;
      joined = is.joined;
      finished = is.finished;
    }

-- a pending block of a tree with one node more was so, or is that node
pub pending_more : (k z : CoreState) (x : Node) → IsMore k z x → (b : ℕ) → is_pending z.machine.tree b ≡ true → ((b < length k.machine.tree) × (is_pending k.machine.tree b ≡ true)) ⊎ ((b ≡ length k.machine.tree) × ((is_block_kind x.kind && is_pending_state x.state) ≡ true))
pending_more k z x is b e =
    let t = k.machine.tree in
    let f = sym (ap (λ v. is_pending v b) is.tree) ∙ e in
    let low = node_there (λ y. is_block_kind y.kind && is_pending_state y.state) (t ++ x ∷ []) b f in
    let len = length_more t x in
    elim (cases_eq b (length t)) [
      | inl q ↦ inr (q, sym (node_new t x (λ y. is_block_kind y.kind && is_pending_state y.state)) ∙ ap (is_pending (t ++ x ∷ [])) (sym q) ∙ f)
      | inr ne ↦ (let h : b < length t = omega (arith, ne) in inl (h, sym (node_grown t (x ∷ []) (λ y. is_block_kind y.kind && is_pending_state y.state) b h) ∙ f))
    ]

pub more_pending : (k z : CoreState) (x : Node) → IsMore k z x → (b : ℕ) → is_pending k.machine.tree b ≡ true → is_pending z.machine.tree b ≡ true
more_pending k z x is b e =
    let t = k.machine.tree in
    ap (λ v. is_pending v b) is.tree ∙ node_grown t (x ∷ []) (λ y. is_block_kind y.kind && is_pending_state y.state) b (node_there (λ y. is_block_kind y.kind && is_pending_state y.state) t b e) ∙ e

-- ## Which strands are dying

module _ (first : List ℤ) (m z : OpenMachine) (w : IsToldState first m) (v : IsToldState first z) (stays : Stays m.tree z.tree)
    (pend : (b : ℕ) → b < length m.tree → is_pending z.tree b ≡ true → is_pending m.tree b ≡ true) (y : ℕ)
    (keep : (c : Conflict) (b : ℕ) → IsTold m.tree c → ((q : Conflict → Bool) → q c ≡ true → list_any q m.conflicts ≡ true) → Dies m y c b → is_pending z.tree b ≡ true) where
  -- without a new conflict
  pub dying_same : z.conflicts ≡ m.conflicts → is_dying z y ≡ is_dying m y
  dying_same same =
      same_truth (is_dying z y) (is_dying m y)
      (λ e. dies_back m z w.told stays y first v pend (sym (ap (list_any (dies_by z y)) same) ∙ e))
      (λ e. dies_on m z w.told stays y (λ q f. ap (list_any q) same ∙ f) keep e)

  any_more : (q : Conflict → Bool) (cs : List Conflict) (d : Conflict) → list_any q cs ≡ true → list_any q (cs ++ d ∷ []) ≡ true
  any_more q [] d e = absurd (cc e)
  any_more q (c ∷ cs) d e = elim (or_cases (q c) (list_any q cs) e) [ inl f ↦ or_left (q c) (list_any q (cs ++ d ∷ [])) f | inr f ↦ or_right (q c) (list_any q (cs ++ d ∷ [])) (any_more q cs d f) ]

  any_split : (q : Conflict → Bool) (cs : List Conflict) (d : Conflict) → list_any q (cs ++ d ∷ []) ≡ true → (list_any q cs ≡ true) ⊎ (q d ≡ true)
  any_split q [] d e = elim (or_cases (q d) false e) [ inl f ↦ inr f | inr f ↦ absurd (cc f) ]
  any_split q (c ∷ cs) d e = elim (or_cases (q c) (list_any q (cs ++ d ∷ [])) e) [
    | inl f ↦ inl (or_left (q c) (list_any q cs) f)
    | inr f ↦ elim (any_split q cs d f) [ inl g ↦ inl (or_right (q c) (list_any q cs) g) | inr g ↦ inr g ]
  ]

  -- with one that is not beneath the strand
  pub dying_beside : (d : Conflict) → z.conflicts ≡ m.conflicts ++ d ∷ [] → (dies_by z y d ≡ true → ⊥) → is_dying z y ≡ is_dying m y
  dying_beside d same off =
      same_truth (is_dying z y) (is_dying m y)
      (λ e. elim (any_split (dies_by z y) m.conflicts d (sym (ap (list_any (dies_by z y)) same) ∙ e)) [
        | inl f ↦ dies_back m z w.told stays y first v pend f
        | inr f ↦ absurd (off f)
      ])
      (λ e. dies_on m z w.told stays y (λ q f. ap (list_any q) same ∙ any_more q m.conflicts d f) keep e)
