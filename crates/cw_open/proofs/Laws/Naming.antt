-- What cancels put back names cells that are there.
use Rattle.std.proofs.Common.{◌≡◌, ℕ, ℤ, zero, suc, List, [], ◌∷◌, ◌++◌, length, map, refl, ap, sym, ◌∙◌, subst, Bool, true, Option, Some, None}
use Rattle.std.specs.Prelude.{slice_get, slice_set}
use Rattle.std.specs.List.{list_all}
use Rattle.std.proofs.lemmas.Bool.{and_parts, and_from}
use Rattle.std.proofs.lemmas.List.Folds.{list_all-append}
use Rattle.cw_tree.specs.declared.node.Node.{Node}
use Rattle.cw_tree.specs.declared.node.Kind.{Kind}
use Rattle.cw_tree.specs.declared.node.Kind.TheVariants.{Block, Out, Tried, Cancel}
use Rattle.cw_tree.specs.declared.node.BlockState.{BlockState}
use Rattle.cw_tree.specs.declared.node.BlockState.TheVariants.{Committed, Aborted}
use Rattle.cw_tree.specs.Nodes.{closed, fresh_node}
use Rattle.cw_tree.specs.Series.{place}
use Rattle.cw_tree.specs.AccessStacks.{access_kind, access_at}
use Rattle.cw_tree.specs.Cancels.{NamesCells, names_cells}
use Rattle.cw_tree.specs.NextNodes.{fork_nodes}
use Rattle.cw_tree.proofs.Cancels.{names_back, passes_at}
use Rattle.cw_open.specs.Machine.{OpenMachine, live, live_value}
use Rattle.cw_open.specs.Steps.{Step, forks, begins, accesses, refuses, outputs, cancels, commits, undoes, aborts, finishes, joins, stops, puts_back, after_open_step}
use Rattle.cw_open.specs.Runs.{Allowed, at_any_time}
use Rattle.cw_open.specs.Laws.{CancelsNameCells}
use Rattle.cw_open.proofs.Runs.States.{by_run, same_first}

set_all : {X : Type 0} (p : X → Bool) (xs : List X) (n : ℕ) (y : X) → list_all p xs ≡ true → p y ≡ true → list_all p (slice_set xs n y) ≡ true
set_all p [] n y h e = refl
set_all p (x ∷ xs) zero y h e = and_from (p y) (list_all p xs) e (and_parts (p x) (list_all p xs) h).1
set_all p (x ∷ xs) (suc n) y h e = let z = and_parts (p x) (list_all p xs) h in and_from (p x) (list_all p (slice_set xs n y)) z.0 (set_all p xs n y z.1 e)

access_names : (k c : ℕ) (w : Option ℤ) (v : ℤ) → names_cells k (access_kind c w v) ≡ true
access_names k c None v = refl
access_names k c (Some a) v = refl

module _ (k : ℕ) where
  abbrev names : Node → Bool
  names x = names_cells k x.kind

  grown : (t xs : List Node) → list_all names t ≡ true → list_all names xs ≡ true → list_all names (t ++ xs) ≡ true
  grown t xs h e = list_all-append names t xs ∙ and_from (list_all names t) (list_all names xs) h e

  leaf : (t : List Node) (p : ℕ) (kind : Kind) (stamp : ℕ) → list_all names t ≡ true → names_cells k kind ≡ true → list_all names (t ++ fresh_node p kind stamp ∷ []) ≡ true
  leaf t p kind stamp h e = grown t (fresh_node p kind stamp ∷ []) h (and_from (names_cells k kind) true e refl)

  shut : (t : List Node) (b : ℕ) (state : BlockState) (end : ℕ) → list_all names t ≡ true → list_all names (closed t b state end) ≡ true
  shut t b state end h = by (slice_get t b) refl where
    by : (o : Option Node) → slice_get t b ≡ o → list_all names (closed t b state end) ≡ true
    by None e = let P : Option Node → Type 0 = λ o. list_all names (elim o [ None ↦ t | Some x ↦ slice_set t b (record x { state = state; end = end }) ]) ≡ true in subst P (sym e) h
    by (Some x) e =
        let P : Option Node → Type 0 = λ o. list_all names (elim o [ None ↦ t | Some x ↦ slice_set t b (record x { state = state; end = end }) ]) ≡ true in
        subst P (sym e) (set_all names t b (record x { state = state; end = end }) h (passes_at names t b x h e))

  names_after : (asked : List Node → List ℕ → Option ℤ → List ℕ) (m : OpenMachine) (e : Step) → length m.first ≡ k → list_all names m.tree ≡ true → Allowed (at_any_time asked) m e → list_all names (after_open_step m e).tree ≡ true
  names_after asked m (forks s stamp) l h a = grown m.tree (fork_nodes (length m.tree) (place m.tree s) stamp) h refl
  names_after asked m (begins s stamp) l h a = leaf m.tree (place m.tree s) Block stamp h refl
  names_after asked m (accesses s c w stamp) l h a = leaf m.tree (place m.tree s) (access_kind c w (live_value m c)) stamp h (access_names k c w (live_value m c))
  names_after asked m (refuses s c w met) l h a = leaf m.tree (place m.tree s) (Tried c) 0 h refl
  names_after asked m (outputs s v stamp) l h a = leaf m.tree (place m.tree s) (Out v) stamp h refl
  names_after asked m (cancels s stamp) l h a =
      let P : ℕ → Type 0 = λ n. names_cells n (Cancel (puts_back m s stamp)) ≡ true in
      leaf m.tree (place m.tree s) (Cancel (puts_back m s stamp)) stamp h (subst P l (names_back m.tree m.first (λ c. map (access_at m.tree) (live m c)) (place m.tree s) stamp))
  names_after asked m (commits s stamp) l h a = shut m.tree (place m.tree s) Committed stamp h
  names_after asked m (undoes s c) l h a = h
  names_after asked m (aborts s stamp) l h a = shut m.tree (place m.tree s) Aborted stamp h
  names_after asked m (finishes s dead) l h a = h
  names_after asked m (joins f) l h a = h
  names_after asked m (stops s) l h a = h

record IsNaming (first : List ℤ) (m : OpenMachine) : Type 0 where
  same : m.first ≡ first
  names : NamesCells m.tree (length first)

pub cancels_name : CancelsNameCells
cancels_name asked first m r =
    (by_run (at_any_time asked) first (IsNaming first) (record { same = refl; names = refl })
    (λ n e z a. record { same = same_first n e ∙ z.same; names = names_after (length first) asked n e (ap (λ (vs : List ℤ). length vs) z.same) z.names a }) m r).names
