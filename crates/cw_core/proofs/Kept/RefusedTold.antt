-- What the conflict of a refused access tells, by rows: its attempt, and whether a budget is spent.
use Rattle.std.proofs.Common.{◌≡◌, ℕ, ◌+◌, ◌<◌, List, [], ◌∷◌, ◌++◌, length, refl, ap, sym, ◌∙◌, arith, Bool, true, false, cond, Option, Some, None, nat_eq, nat_lt, inl, inr}
use Rattle.std.specs.Prelude.{◌&&◌, ℤ, filter, find, unwrap_or, is_none}
use Rattle.std.specs.List.{suffix_len}
use Rattle.std.specs.Option.{option_map, option_map_or, option_or}
use Rattle.std.proofs.lemmas.List.Folds.{find-append}
use Rattle.std.proofs.lemmas.Bool.{and_parts, and_from, eq-eqb, eqb-true, ne_eqb, lt-ltb}
use Rattle.cw_tree.specs.declared.node.Node.{Node}
use Rattle.cw_tree.specs.declared.conflict.Conflict.{Conflict}
use Rattle.cw_tree.specs.declared.node.Kind.TheVariants.{Tried}
use Rattle.cw_tree.specs.Nodes.{is_block_kind, is_pending_state, stamp_of, is_block, is_pending, all_nodes, block_with_stamp, fresh_node}
use Rattle.cw_tree.specs.Series.{children, strand_of, place}
use Rattle.cw_tree.specs.Attempts.{tried_cell, same_cell, block_attempt, access_attempt, elders}
use Rattle.cw_tree.specs.Refusals.{refused_node}
use Rattle.cw_tree.proofs.Lists.{In}
use Rattle.cw_tree.proofs.Members.{in_below, below_in, suffix_same, filter_all}
use Rattle.cw_tree.proofs.Walks.There.{node_there}
use Rattle.cw_tree.proofs.NextNodes.Growing.{get_next, node_grown, number_grown, number_new, length_more}
use Rattle.cw_open.specs.Machine.{OpenMachine, is_running, is_free}
use Rattle.cw_open.specs.Steps.{accesses, refuses, refusal, after_all}
use Rattle.cw_open.proofs.Open.TreeSteps.{free_runs}
use Rattle.cw_core.specs.declared.event.Event.TheVariants as event
use Rattle.cw_tree.proofs.NodeKinds.{pending_block}
use Rattle.cw_core.specs.declared.row.Row.{Row}
use Rattle.cw_core.specs.State.{CoreState, waits_for_left, last_refusal, spent}
use Rattle.cw_core.specs.Events.{is_met, met_by, after_event}
use Rattle.cw_core.specs.Laws.{IsCore}
use Rattle.cw_core.specs.Kept.{IsTail, IsRow, tried_again}
use Rattle.cw_core.specs.declared.row.Tail.{Tail}
use Rattle.cw_core.proofs.Events.Going.{well, at_place}
use Rattle.cw_core.proofs.Kept.Tails.{child_low, elders_more}
use Rattle.cw_core.proofs.Kept.RowsGrow.{tried_grown, made_grown}

-- a refused access leads to its state
pub after_refused : (k : CoreState) (s c : ℕ) (write : Option ℤ) → is_met k s c ≡ true
    → after_event k (event.Access s c write) ≡ record k { machine = record k.machine { tree = k.machine.tree ++ fresh_node (place k.machine.tree s) (Tried c) 0 ∷ []; conflicts = k.machine.conflicts ++ refusal k.machine (place k.machine.tree s) c (met_by k s c) ∷ [] } }
after_refused k s c write met = ap (λ b. let z : CoreState = record k { machine = after_all k.machine (cond b (refuses s c write (met_by k s c)) (accesses s c write (k.machine.clock + 1)) ∷ []) } in z) met

-- the first that passes of some that pass alike is the one that passes alone
find_only : (q : ℕ → Bool) (xs : List ℕ) (b : ℕ) → In b xs → q b ≡ true → ((v : ℕ) → In v xs → q v ≡ true → v ≡ b) → find q xs ≡ Some b
find_only q [] b i e only = absurd i
find_only q (x ∷ xs) b i e only = by (q x) refl (λ j. find_only q xs b j e (λ v h. only v (inr h))) where
  by : (z : Bool) → q x ≡ z → (In b xs → find q xs ≡ Some b) → cond z (Some x) (find q xs) ≡ Some b
  by true p more = ap Some (only x (inl refl) p)
  by false p more = elim i [ inl same ↦ absurd (let a = ap q same in cc (a, e, p)) | inr j ↦ more j ]

module _ (first : List ℤ) (k : CoreState) (core : IsCore first k) (s : ℕ) (free : is_free k.machine s ≡ true) (ready : waits_for_left k s ≡ false) (c : ℕ) where
  abbrev t : List Node
  t = k.machine.tree

  abbrev m : OpenMachine
  m = k.machine

  abbrev p : ℕ
  p = place t s

  abbrev f : ℕ
  f = length t

  abbrev x : Node
  x = fresh_node p (Tried c) 0

  abbrev u : List Node
  u = t ++ x ∷ []

  running : is_running m s ≡ true
  running = free_runs m s free

  there : p < length t
  there = (at_place first k core s running ready).there

  -- the attempt of a victim is that of its row
  pub victim_attempt : (b : ℕ) → is_pending t b ≡ true → (r : Row) → IsRow k b r → block_attempt u b ≡ r.made.attempt
  victim_attempt b pending r row =
      let low = node_there (λ y. is_block_kind y.kind && is_pending_state y.state) t b pending in
      (made_grown first k core s running ready x refl m.lists m.clock m.conflicts k.words b r.made low row.made).attempt (node_grown t (x ∷ []) (λ y. is_block_kind y.kind && is_pending_state y.state) b low ∙ pending)

  -- that of the access itself follows what was refused right before it
  pub own_attempt : (r : Tail) → IsTail t p r → access_attempt u f ≡ tried_again c r
  own_attempt r w =
      let these : elders u f ≡ children t p =
      ap (λ q. filter (λ l. nat_lt l f) (children u q)) (number_new t x (λ y. y.parent))
      ∙ elders_more t x p f (omega (arith, there)) (omega arith)
      ∙ filter_all (λ l. nat_lt l f) (children t p) (λ v i. lt-ltb v f (child_low t p v i)) in
      let new : tried_cell u f ≡ Some c = rw (get_next t x []) refl in
      ap (λ o. suffix_len (λ n. same_cell (tried_cell u n) o) (elders u f) + 1) new
      ∙ ap (λ ns. suffix_len (λ n. same_cell (tried_cell u n) (Some c)) ns + 1) these
      ∙ ap (λ n. n + 1) (suffix_same (λ n. same_cell (tried_cell u n) (Some c)) (λ n. same_cell (tried_cell t n) (Some c)) (children t p) (λ v i. ap (λ o. same_cell o (Some c)) (tried_grown t (x ∷ []) v (child_low t p v i))))
      ∙ ap (λ n. n + 1) (w.tried c)

  -- ## Budgets

  module _ (conflict : Conflict) (asks : conflict.asker ≡ length t) where
    abbrev z : CoreState
    z = record k { machine = record m { tree = u; conflicts = m.conflicts ++ conflict ∷ [] } }

    -- a budget is spent where the conflict has its last attempt
    pub spends : is_none (spent k) ≡ true → spent z ≡ cond (nat_eq conflict.attempt k.budget) (Some (strand_of u (refused_node u conflict))) None
    spends none =
        ap (option_map (λ d. strand_of u (refused_node u d)))
        (find-append (λ d. nat_eq d.attempt k.budget) m.conflicts (conflict ∷ [])
        ∙ ap (λ o. option_or o (cond (nat_eq conflict.attempt k.budget) (Some conflict) None)) (by (last_refusal k) none)
        ∙ first_of (nat_eq conflict.attempt k.budget))
        ∙ mapped (nat_eq conflict.attempt k.budget) where
          by : (o : Option Conflict) → is_none (option_map (λ d. strand_of t (refused_node t d)) o) ≡ true → o ≡ None
          by None e = refl
          by (Some d) e = absurd (cc e)

          first_of : (b : Bool) → option_or None (cond b (Some conflict) None) ≡ cond b (Some conflict) None
          first_of true = refl
          first_of false = refl

          mapped : (b : Bool) → option_map (λ d. strand_of u (refused_node u d)) (cond b (Some conflict) None) ≡ cond b (Some (strand_of u (refused_node u conflict))) None
          mapped true = refl
          mapped false = refl

    -- what was refused is the access, or the victim
    pub refused_access : conflict.victim ≡ 0 → refused_node u conflict ≡ f
    refused_access zero = ap (λ b. option_map_or (λ v. unwrap_or (block_with_stamp u v) 0) (cond b None (Some conflict.victim)) conflict.asker) (eq-eqb conflict.victim 0 zero) ∙ asks

    pub refused_block : (b : ℕ) → is_pending t b ≡ true → 0 < stamp_of t b → conflict.victim ≡ stamp_of t b → refused_node u conflict ≡ b
    refused_block b pending some named =
        ap (λ z. option_map_or (λ v. unwrap_or (block_with_stamp u v) 0) (cond z None (Some conflict.victim)) conflict.asker) (ne_eqb conflict.victim 0 (λ q. absurd (omega (arith, q, named, some))))
        ∙ ap (λ o. unwrap_or o 0) found where
          low : b < f
          low = node_there (λ y. is_block_kind y.kind && is_pending_state y.state) t b pending

          at : stamp_of u b ≡ conflict.victim
          at = number_grown t (x ∷ []) (λ y. y.stamp) b low ∙ sym named

          block : is_block u b ≡ true
          block = node_grown t (x ∷ []) (λ y. is_block_kind y.kind) b low ∙ pending_block t b pending

          only : (v : ℕ) → In v (all_nodes u) → (is_block u v && nat_eq (stamp_of u v) conflict.victim) ≡ true → v ≡ b
          only v i e =
              let y = and_parts (is_block u v) (nat_eq (stamp_of u v) conflict.victim) e in
              let same = eqb-true (stamp_of u v) conflict.victim y.1 in
              let h = in_below v (length u) i in
              elim (Rattle.std.proofs.lemmas.Bool.cases_lt v f) [
                | inl old ↦
                    (let here : stamp_of u v ≡ stamp_of t v = number_grown t (x ∷ []) (λ y. y.stamp) v old in
                    sym ((well first k core).sound.stamps.distinct b v low old some (sym named ∙ sym same ∙ here)))
                | inr le ↦
                    (let new : v ≡ f = omega (arith, h, length_more t x) in
                    let zero : stamp_of u v ≡ 0 = ap (stamp_of u) new ∙ number_new t x (λ y. y.stamp) in
                    absurd (omega (arith, zero, same, named, some)))
              ]

          found : block_with_stamp u conflict.victim ≡ Some b
          found = find_only (λ n. is_block u n && nat_eq (stamp_of u n) conflict.victim) (all_nodes u) b (below_in b (length u) (omega (arith, low, length_more t x))) (and_from (is_block u b) (nat_eq (stamp_of u b) conflict.victim) block (eq-eqb (stamp_of u b) conflict.victim at)) only
