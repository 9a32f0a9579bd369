-- Each refused access has its conflict, in the order in which they were refused.
use Rattle.std.proofs.Common.{◌≡◌, ℕ, List, [], ◌∷◌, ◌++◌, length, map, refl, ap, sym, ◌∙◌, false, cond, append-nil}
use Rattle.std.specs.Prelude.{ℤ, filter, Option, Some, None}
use Rattle.std.proofs.lemmas.List.{map-append}
use Rattle.std.proofs.lemmas.List.Elements.{filter-append}
use Rattle.cw_tree.specs.declared.node.Node.{Node}
use Rattle.cw_tree.specs.declared.node.Kind.TheVariants.{Cancel, Strand, Fork, Block, Out, Tried}
use Rattle.cw_tree.specs.declared.node.BlockState.TheVariants.{Committed, Aborted}
use Rattle.cw_tree.specs.declared.conflict.Conflict.{Conflict}
use Rattle.cw_tree.specs.Nodes.{is_tried_kind, is_tried, all_nodes, fresh_node}
use Rattle.cw_tree.specs.Series.{place}
use Rattle.cw_tree.specs.AccessStacks.{access_kind}
use Rattle.cw_tree.specs.NextNodes.{IsPlace, fork_nodes}
use Rattle.cw_tree.specs.Shape.{IsTree}
use Rattle.cw_tree.proofs.Members.{in_below, filter_same}
use Rattle.cw_tree.proofs.NextNodes.Growing.{node_grown, node_new, all_nodes_more}
use Rattle.cw_tree.proofs.NextNodes.Trees.{in_turn}
use Rattle.cw_open.specs.Machine.{OpenMachine, live_value}
use Rattle.cw_open.specs.Steps.{puts_back, Step, forks, begins, accesses, refuses, outputs, cancels, commits, undoes, aborts, finishes, joins, stops, refusal, after_open_step}
use Rattle.cw_open.specs.Runs.{Rules, Allowed, IsReachedBy}
use Rattle.cw_open.proofs.Open.Trees.{stands_well}
use Rattle.cw_open.proofs.Open.TreeSteps.{free_runs}
use Rattle.cw_open.proofs.Runs.States.{IsState, state_after, state_opening, by_run}
use Rattle.cw_open.proofs.Open.Staying.{tried_closed}

-- the refused accesses of a tree, in order
abbrev pub tries_of : List Node → List ℕ
tries_of t = filter (is_tried t) (all_nodes t)

tries_more : (t : List Node) (x : Node) → tries_of (t ++ x ∷ []) ≡ tries_of t ++ cond (is_tried_kind x.kind) (length t ∷ []) []
tries_more t x =
    let u = t ++ x ∷ [] in
    ap (filter (is_tried u)) (all_nodes_more t x)
    ∙ filter-append (is_tried u) (all_nodes t) (length t ∷ [])
    ∙ ap (λ ns. ns ++ filter (is_tried u) (length t ∷ [])) (filter_same (is_tried u) (is_tried t) (all_nodes t) (λ n i. node_grown t (x ∷ []) (λ y. is_tried_kind y.kind) n (in_below n (length t) i)))
    ∙ ap (λ b. tries_of t ++ cond b (length t ∷ []) []) (node_new t x (λ y. is_tried_kind y.kind))

-- another node is none
none_tried : (t : List Node) (x : Node) → is_tried_kind x.kind ≡ false → tries_of (t ++ x ∷ []) ≡ tries_of t
none_tried t x e = tries_more t x ∙ ap (λ b. tries_of t ++ cond b (length t ∷ []) []) e ∙ append-nil (tries_of t)

none_forked : (t : List Node) → IsTree t → (p : ℕ) → IsPlace t p → (stamp : ℕ) → tries_of (t ++ fork_nodes (length t) p stamp) ≡ tries_of t
none_forked t tree p at stamp =
    let one = t ++ fresh_node p Fork stamp ∷ [] in
    let s = fresh_node (length t) Strand 0 in
    ap tries_of (in_turn t p stamp tree at.there at.holds) ∙ none_tried (one ++ s ∷ []) s refl ∙ none_tried one s refl ∙ none_tried t (fresh_node p Fork stamp) refl

access_untried : (c : ℕ) (w : Option ℤ) (v : ℤ) → is_tried_kind (access_kind c w v) ≡ false
access_untried c None v = refl
access_untried c (Some w) v = refl

abbrev pub AreAsking : OpenMachine → Type 0
AreAsking m = map (λ c. c.asker) m.conflicts ≡ tries_of m.tree

asking_after : (r : Rules) (first : List ℤ) (m : OpenMachine) (e : Step) → IsState first m → AreAsking m → Allowed r m e → AreAsking (after_open_step m e)
asking_after r first m (forks s stamp) w k a = k ∙ sym (none_forked m.tree w.well.sound.tree (place m.tree s) (stands_well m w.well s (free_runs m s a.0)) stamp)
asking_after r first m (begins s stamp) w k a = k ∙ sym (none_tried m.tree (fresh_node (place m.tree s) Block stamp) refl)
asking_after r first m (accesses s c write stamp) w k a = k ∙ sym (none_tried m.tree (fresh_node (place m.tree s) (access_kind c write (live_value m c)) stamp) (access_untried c write (live_value m c)))
asking_after r first m (refuses s c write met) w k a =
    map-append (λ (c : Conflict). c.asker) m.conflicts (refusal m (place m.tree s) c met ∷ [])
    ∙ ap (λ ns. ns ++ length m.tree ∷ []) k
    ∙ sym (tries_more m.tree (fresh_node (place m.tree s) (Tried c) 0))
asking_after r first m (outputs s v stamp) w k a = k ∙ sym (none_tried m.tree (fresh_node (place m.tree s) (Out v) stamp) refl)
asking_after r first m (cancels s stamp) w k a = k ∙ sym (none_tried m.tree (fresh_node (place m.tree s) (Cancel (puts_back m s stamp)) stamp) refl)
asking_after r first m (commits s stamp) w k a = k ∙ sym (tried_closed m.tree (place m.tree s) Committed stamp)
asking_after r first m (undoes s c) w k a = k
asking_after r first m (aborts s stamp) w k a = k ∙ sym (tried_closed m.tree (place m.tree s) Aborted stamp)
asking_after r first m (finishes s dead) w k a = k
asking_after r first m (joins f) w k a = k
asking_after r first m (stops s) w k a = k

record IsAskingState (first : List ℤ) (m : OpenMachine) : Type 0 where
  pub state : IsState first m
  pub asking : AreAsking m

pub asking_states : (r : Rules) (first : List ℤ) (m : OpenMachine) → IsReachedBy r first m → AreAsking m
asking_states r first m reached =
    (by_run r first (IsAskingState first) (record { state = state_opening first; asking = refl })
    (λ m e w a. record { state = state_after r first m e w.state a; asking = asking_after r first m e w.state w.asking a }) m reached).asking
