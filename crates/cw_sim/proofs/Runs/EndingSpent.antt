-- If a refused access spends the budget of its strand, or of its victim's strand, what was refused is still as it was then.
use Rattle.std.proofs.Common.{◌≡◌, ℕ, ◌<◌, List, [], ◌∷◌, ◌++◌, length, refl, ap, sym, ◌∙◌, subst, arith, Bool, true, false, cond, Option, Some, None, nat_eq}
use Rattle.std.specs.Prelude.{◌&&◌, not, ℤ, All, option_map, unwrap_or, find}
use Rattle.std.specs.List.{list_any}
use Rattle.std.specs.Option.{option_map_or}
use Rattle.std.proofs.lemmas.Bool.{and_parts, and_from, and_left, or_left, or_right, eq-eqb, ne_eqb}
use Rattle.std.proofs.lemmas.List.Elements.{All-nil, All-cons, All-append}
use Rattle.std.proofs.lemmas.List.Folds.{list_any-append}
use Rattle.cw_tree.specs.declared.node.Node.{Node}
use Rattle.cw_tree.specs.declared.node.Kind.TheVariants.{Tried}
use Rattle.cw_tree.specs.declared.conflict.Conflict.{Conflict}
use Rattle.cw_tree.specs.Nodes.{is_block_kind, is_pending_state, stamp_of, is_pending, last_below, fresh_node}
use Rattle.cw_tree.specs.Walks.{path, is_above, may_fall}
use Rattle.cw_tree.specs.Series.{strand_of, last_of, place}
use Rattle.cw_tree.specs.Shape.{IsTree}
use Rattle.cw_tree.specs.AccessStacks.{access_at}
use Rattle.cw_tree.specs.VictimsAt.{victim_at}
use Rattle.cw_tree.specs.Refusals.{victim_of, refused_node}
use Rattle.cw_tree.proofs.Walks.There.{node_there}
use Rattle.cw_tree.proofs.NextNodes.Growing.{length_more, node_grown, number_new, strand_of_new}
use Rattle.cw_tree.proofs.NodeKinds.{pending_block, block_stamped}
use Rattle.cw_open.specs.Machine.{OpenMachine, has_finished, is_running, is_free}
use Rattle.cw_open.specs.Steps.{Met, refusal}
use Rattle.cw_open.specs.Spent.{StandsStill, HasSpent}
use Rattle.cw_open.proofs.Laws.ListSteps.{none_new}
use Rattle.cw_open.proofs.Open.Standing.{runs, stands}
use Rattle.cw_open.proofs.Open.TreeSteps.{free_runs}
use Rattle.cw_open.proofs.Open.Trees.{IsWell}
use Rattle.cw_open.proofs.Refused.Victims.{outermost_in}
use Rattle.cw_core.specs.State.{CoreState, waits_for_left, last_refusal, spent}
use Rattle.cw_core.specs.Events.{met_by}
use Rattle.cw_core.specs.Laws.{IsCore}
use Rattle.cw_core.proofs.Events.Going.{well, at_place}
use Rattle.cw_core.proofs.Events.Places.{place_grown}
use Rattle.cw_core.proofs.Kept.RefusedTold.{spends, refused_block}

-- where no conflict has an attempt, all that have it are as one likes
none_at : (X : Conflict → Type 0) (b : ℕ) (cs : List Conflict) → find (λ c. nat_eq c.attempt b) cs ≡ None → All (λ c. c.attempt ≡ b → X c) cs
none_at X b [] e = All-nil (λ c. c.attempt ≡ b → X c)
none_at X b (d ∷ cs) e = by (nat_eq d.attempt b) refl e (none_at X b cs) where
  by : (o : Bool) → nat_eq d.attempt b ≡ o → cond o (Some d) (find (λ c. nat_eq c.attempt b) cs) ≡ None → (find (λ c. nat_eq c.attempt b) cs ≡ None → All (λ c. c.attempt ≡ b → X c) cs) → All (λ c. c.attempt ≡ b → X c) (d ∷ cs)
  by true is e more = absurd (cc e)
  by false is e more = All-cons (λ c. c.attempt ≡ b → X c) d cs (λ q. absurd (let y = eq-eqb d.attempt b q in cc (is, y))) (more e)

none_told : (k : CoreState) → spent k ≡ None → last_refusal k ≡ None
none_told k = by (last_refusal k) where
  by : (o : Option Conflict) → option_map (λ c. strand_of k.machine.tree (refused_node k.machine.tree c)) o ≡ None → o ≡ None
  by None e = refl
  by (Some c) e = absurd (cc e)

module _ (first : List ℤ) (k : CoreState) (core : IsCore first k) (s : ℕ) (free : is_free k.machine s ≡ true) (ready : waits_for_left k s ≡ false) (c : ℕ) where
  abbrev t : List Node
  t = k.machine.tree

  abbrev m : OpenMachine
  m = k.machine

  abbrev p : ℕ
  p = place t s

  abbrev f : ℕ
  f = length t

  abbrev met : Met
  met = met_by k s c

  abbrev pub conflict : Conflict
  conflict = refusal m p c met

  abbrev x : Node
  x = fresh_node p (Tried c) 0

  abbrev u : List Node
  u = t ++ x ∷ []

  -- the machine behind the refused access, whichever strands stopped
  abbrev pub refused_at : List ℕ → OpenMachine
  refused_at stopped = record m { tree = u; conflicts = m.conflicts ++ conflict ∷ []; stopped = stopped }

  running : is_running m s ≡ true
  running = free_runs m s free

  fine : IsWell m
  fine = well first k core

  tree : IsTree t
  tree = fine.sound.tree

  there : p < f
  there = (at_place first k core s running ready).there

  own : strand_of u f ≡ s
  own = strand_of_new t x tree.rooted there ∙ (stands m tree fine.nested s running).strand

  same_place : place u s ≡ place t s
  same_place =
      place_grown t (x ∷ []) tree.rooted s
      (λ b le h. and_left (is_pending u b) (nat_eq (strand_of u b) s) (none_new (λ y. is_block_kind y.kind && is_pending_state y.state) t (x ∷ []) b refl le))

  last : last_of u (strand_of u f) ≡ f
  last =
      let y = strand_of u f in
      ap (λ n. unwrap_or (last_below (λ i. nat_eq (strand_of u i) y) n) y) (length_more t x)
      ∙ ap (λ b. unwrap_or (cond b (Some f) (last_below (λ i. nat_eq (strand_of u i) y) f)) y) (eq-eqb y y refl)

  stands_still : (stopped : List ℕ) (o : Option ℕ) → victim_at t (access_at t met.last) p ≡ o → StandsStill (refused_at stopped) conflict (victim_of conflict)
  stands_still stopped None e =
      let zero : conflict.victim ≡ 0 = ap (λ o. option_map_or (stamp_of t) o 0) e in
      let no : victim_of conflict ≡ None = ap (λ b. cond b None (Some conflict.victim)) (eq-eqb conflict.victim 0 zero) in
      let P : Option ℕ → Type 0 = λ o. StandsStill (refused_at stopped) conflict o in
      subst P (sym no) (last, ap (place u) own ∙ same_place ∙ sym (number_new t x (λ y. y.parent)), ap (has_finished m) own ∙ (runs m tree fine.nested s running).unfinished)
  stands_still stopped (Some b) e =
      let w = outermost_in (may_fall t (access_at t met.last)) (path t p) b e in
      let pending = (and_parts (is_pending t b) (not (is_above t b (access_at t met.last))) w.1).0 in
      let some = block_stamped t fine.sound.stamps b (pending_block t b pending) in
      let named : conflict.victim ≡ stamp_of t b = ap (λ o. option_map_or (stamp_of t) o 0) e in
      let yes : victim_of conflict ≡ Some conflict.victim = ap (λ z. cond z None (Some conflict.victim)) (ne_eqb conflict.victim 0 (λ q. absurd (omega (arith, q, named, some)))) in
      let P : Option ℕ → Type 0 = λ o. StandsStill (refused_at stopped) conflict o in
      let low = node_there (λ y. is_block_kind y.kind && is_pending_state y.state) t b pending in
      let here : is_pending u (refused_node u conflict) ≡ true =
      ap (is_pending u) (refused_block first k core s free ready c conflict refl b pending some named) ∙ node_grown t (x ∷ []) (λ y. is_block_kind y.kind && is_pending_state y.state) b low ∙ pending in
      subst P (sym yes) here

  -- a strand that has spent its budget then, and had not before
  pub has_spent : spent k ≡ None → (y : ℕ) → spent (record k { machine = refused_at m.stopped }) ≡ Some y → (stopped : List ℕ) → HasSpent (refused_at stopped) k.budget y
  has_spent none y e stopped = by (nat_eq conflict.attempt k.budget) refl (sym (spends first k core s free ready c conflict refl (ap Rattle.std.specs.Prelude.is_none none)) ∙ e) where
    by : (b : Bool) → nat_eq conflict.attempt k.budget ≡ b → cond b (Some (strand_of u (refused_node u conflict))) None ≡ Some y → HasSpent (refused_at stopped) k.budget y
    by false is q = absurd (cc q)
    by true is q =
        let same : strand_of u (refused_node u conflict) ≡ y = cc q in
        let S : Conflict → Type 0 = λ d. StandsStill (refused_at stopped) d (victim_of d) in
        let P : Conflict → Type 0 = λ d. d.attempt ≡ k.budget → S d in
        let told : Conflict → Bool = λ d. nat_eq d.attempt k.budget && nat_eq (strand_of u (refused_node u d)) y in
        record {
          told =
              list_any-append told m.conflicts (conflict ∷ [])
              ∙ or_right (list_any told m.conflicts) (list_any told (conflict ∷ []))
              (or_left (nat_eq conflict.attempt k.budget && nat_eq (strand_of u (refused_node u conflict)) y) false
              (and_from (nat_eq conflict.attempt k.budget) (nat_eq (strand_of u (refused_node u conflict)) y) is (eq-eqb (strand_of u (refused_node u conflict)) y same)));
          still = All-append P m.conflicts (conflict ∷ []) (none_at S k.budget m.conflicts (none_told k none)) (All-cons P conflict [] (λ q. stands_still stopped (victim_at t (access_at t met.last) p) refl) (All-nil P));
        }
