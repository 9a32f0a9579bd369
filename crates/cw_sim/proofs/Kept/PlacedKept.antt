-- Where strands stand, as a machine changes at the place of one of them.
use Rattle.std.proofs.Common.{◌≡◌, ◌≢◌, ℕ, zero, suc, ◌<◌, ◌≤◌, List, length, refl, ap, sym, ◌∙◌, subst, arith, true, false, inl, inr, nat_eq}
use Rattle.std.specs.Prelude.{◌&&◌, not}
use Rattle.std.proofs.lemmas.Bool.{and_parts, and_from, cases_eq, cases_lt, eqb-true, not-true, not_from_false, false_from_ne_true}
use Rattle.cw_strand.specs.Strands.{Strands}
use Rattle.cw_tree.specs.declared.node.Node.{Node}
use Rattle.cw_tree.specs.Nodes.{is_fork_kind, parent_of, is_strand, is_fork, is_pending, all_nodes}
use Rattle.cw_tree.specs.Walks.{has}
use Rattle.cw_tree.specs.Series.{strand_of, place}
use Rattle.cw_tree.specs.Shape.{IsTree}
use Rattle.cw_tree.proofs.Lists.{any_in}
use Rattle.cw_tree.proofs.Walks.Strands.{strand_of_le}
use Rattle.cw_tree.proofs.Walks.There.{node_there}
use Rattle.cw_open.specs.Machine.{waits}
use Rattle.cw_open.proofs.Open.Standing.{stands_at}
use Rattle.cw_core.specs.State.{CoreState}
use Rattle.cw_core.proofs.Events.Places.{waits_for}
use Rattle.cw_record.specs.ClosedRun.{AreStates}
use Rattle.cw_sim.specs.Workers.{Simulation, tree}
use Rattle.cw_sim.specs.Kept.{is_current, AreStanding}
use Rattle.cw_sim.proofs.Kept.StatesKept.{AllStates, Stay}

-- a strand is current where its own fork was not joined
pub current_from : (k : CoreState) (n : ℕ) → is_strand k.machine.tree n ≡ true → (0 < n → has k.machine.joined (parent_of k.machine.tree n) ≡ false) → is_current k n ≡ true
current_from k zero strand off = refl
current_from k (suc n) strand off = and_from (is_strand k.machine.tree (suc n)) (not (has k.machine.joined (parent_of k.machine.tree (suc n)))) strand (not_from_false (has k.machine.joined (parent_of k.machine.tree (suc n))) (off (omega arith)))

-- and a current one is a strand
pub current_is : (k : CoreState) → is_strand k.machine.tree 0 ≡ true → (n : ℕ) → is_current k n ≡ true → (is_strand k.machine.tree n ≡ true) × (0 < n → has k.machine.joined (parent_of k.machine.tree n) ≡ false)
current_is k root zero e = (root, λ some. absurd (omega arith))
current_is k root (suc n) e =
    let w = and_parts (is_strand k.machine.tree (suc n)) (not (has k.machine.joined (parent_of k.machine.tree (suc n)))) e in
    (w.0, λ some. not-true (has k.machine.joined (parent_of k.machine.tree (suc n))) w.1)

-- What stays of strands, blocks and forks but strand o, whose place is p.
pub record Elsewhere {A : Type 0} (m z : Simulation A) (p o : ℕ) : Type 0 where
  pub own : strand_of (tree m) p ≡ o
  pub parents : (n : ℕ) → n < length (tree m) → parent_of (tree z) n ≡ parent_of (tree m) n
  pub stand : (n : ℕ) → n < length (tree m) → strand_of (tree z) n ≡ strand_of (tree m) n
  pub forks : (f : ℕ) → f < length (tree m) → is_fork (tree z) f ≡ is_fork (tree m) f
  pub pending : (b : ℕ) → b < length (tree m) → is_pending (tree z) b ≡ true → is_pending (tree m) b ≡ true
  pub places : (n : ℕ) → n < length (tree m) → n ≢ o → place (tree z) n ≡ place (tree m) n
  pub fewer : (f : ℕ) → has z.core.machine.joined f ≡ false → has m.core.machine.joined f ≡ false
  pub more : (f : ℕ) → strand_of (tree m) f ≢ o → has m.core.machine.joined f ≡ false → has z.core.machine.joined f ≡ false
  -- it waits for none of the forks that were there
  pub none : (f : ℕ) → is_fork (tree m) f ≡ true → has z.core.machine.joined f ≡ false → strand_of (tree m) f ≢ o
  pub at : (n : ℕ) → n < length (tree m) → n ≢ o → z.at n ≡ m.at n
  pub saved : (b : ℕ) → b < length (tree m) → z.saved b ≡ m.saved b

-- What is to be shown of strand o, and of nodes that come anew.
pub record AreHere {A : Type 0} (m z : Simulation A) (y : AllStates A) (o : ℕ) : Type 0 where
  pub here : waits z.core.machine o ≡ false → y.reached (place (tree z) o) ≡ z.at o
  pub strands : (n : ℕ) → length (tree m) ≤ n → is_current z.core n ≡ true → waits z.core.machine n ≡ false → y.reached (place (tree z) n) ≡ z.at n
  pub forks : (f : ℕ) → length (tree m) ≤ f → is_fork (tree z) f ≡ true → y.before f ≡ z.at (strand_of (tree z) f)
  pub saved : (b : ℕ) → length (tree m) ≤ b → is_pending (tree z) b ≡ true → y.before b ≡ z.saved b

module _ {A : Type 0} (s : Strands A) (m z : Simulation A) (x y : AllStates A) (p c o : ℕ) (shape : IsTree (tree m)) (k : Stay m.core.machine z.core.machine x y p c) (w : Elsewhere m z p o) (new : AreHere m z y o)
    (h : AreStanding s m x.before x.after x.reached) where
  abbrev t : List Node
  t = tree m

  abbrev u : List Node
  u = tree z

  -- a strand that waits for none waited for none
  waits_less : (n : ℕ) → n ≢ o → waits z.core.machine n ≡ false → waits m.core.machine n ≡ false
  waits_less n ne e = false_from_ne_true (waits m.core.machine n) (λ q.
      let i = any_in (λ f. is_fork t f && nat_eq (strand_of t f) n && not (has m.core.machine.joined f)) (all_nodes t) q in
      let f = i.0 in
      let b = and_parts (is_fork t f && nat_eq (strand_of t f) n) (not (has m.core.machine.joined f)) i.2 in
      let d = and_parts (is_fork t f) (nat_eq (strand_of t f) n) b.0 in
      let low = node_there (λ v. is_fork_kind v.kind) t f d.0 in
      let longer = k.longer in
      let mine : strand_of t f ≡ n = eqb-true (strand_of t f) n d.1 in
      let off = w.more f (λ g. ne (sym mine ∙ g)) (not-true (has m.core.machine.joined f) b.1) in
      let yes = waits_for z.core.machine n f (omega arith) (w.forks f low ∙ d.0) (w.stand f low ∙ mine) off in
      absurd (cc (yes, e)))

  old_strand : (n : ℕ) → n < length t → n ≢ o → is_current z.core n ≡ true → waits z.core.machine n ≡ false → y.reached (place u n) ≡ z.at n
  old_strand n low ne e q =
      let now = current_is z.core (k.strands 0 shape.some ∙ shape.root) n e in
      let strand : is_strand t n ≡ true = sym (k.strands n low) ∙ now.0 in
      let was = current_from m.core n strand (λ some. w.fewer (parent_of t n) (ap (has z.core.machine.joined) (sym (w.parents n low)) ∙ now.1 some)) in
      let at = stands_at t shape.rooted n strand in
      let not_p : place t n ≢ p = λ g. ne (sym at.strand ∙ ap (strand_of t) g ∙ w.own) in
      ap y.reached (w.places n low ne)
      ∙ k.reached (place t n) at.there not_p
      ∙ h.strands n was (waits_less n ne q)
      ∙ sym (w.at n low ne)

  old_fork : (f : ℕ) → f < length t → is_fork u f ≡ true → has z.core.machine.joined f ≡ false → y.before f ≡ z.at (strand_of u f)
  old_fork f low e off =
      let fork : is_fork t f ≡ true = sym (w.forks f low) ∙ e in
      let le = strand_of_le t shape.rooted f low in
      k.before f low
      ∙ h.forks f fork (w.fewer f off)
      ∙ sym (w.at (strand_of t f) (omega arith) (w.none f fork off))
      ∙ ap z.at (sym (w.stand f low))

  pub standing_kept : AreStates s z.core.machine y.before y.after y.reached → AreStanding s z y.before y.after y.reached
  standing_kept states = record {
    states = states;
    forks = λ f e off. elim (cases_lt f (length t)) [ inl low ↦ old_fork f low e off | inr le ↦ new.forks f le e ];
    strands = λ n e q. elim (cases_lt n (length t)) [
      | inr le ↦ new.strands n le e q
      | inl low ↦ elim (cases_eq n o) [
        | inl g ↦ (let P : ℕ → Type 0 = λ i. waits z.core.machine i ≡ false → y.reached (place u i) ≡ z.at i in subst P (sym g) new.here q)
        | inr ne ↦ old_strand n low ne e q
      ]
    ];
    saved = λ b e. elim (cases_lt b (length t)) [
      | inl low ↦ k.before b low ∙ h.saved b (w.pending b low e) ∙ sym (w.saved b low)
      | inr le ↦ new.saved b le e
    ];
  }
