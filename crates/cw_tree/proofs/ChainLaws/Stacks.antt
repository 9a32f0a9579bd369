-- The accesses of a cell with their entries: what stays as the tree changes, one more of them, and the oldest of them.
use Rattle.std.proofs.Common.{◌≡◌, ℕ, zero, suc, ◌<◌, ℤ, List, [], ◌∷◌, ◌++◌, length, map, take, drop, refl, ap, sym, ◌∙◌, true, false, cond, Option, Some, None, subst}
use Rattle.std.specs.Prelude.{is_some, unwrap_or, All}
use Rattle.std.proofs.lemmas.List.{take-append-drop}
use Rattle.std.proofs.lemmas.List.Elements.{All-push, All-weaker, All-take}
use Rattle.std.proofs.lemmas.Bool.{eq-eqb}
use Rattle.cw_tree.specs.declared.node.Node.{Node}
use Rattle.cw_tree.specs.declared.node.Kind.TheVariants.{Read, Write}
use Rattle.cw_tree.specs.declared.node.BlockState.{BlockState}
use Rattle.cw_tree.specs.declared.access.Entry.{Entry}
use Rattle.cw_tree.specs.Nodes.{touches_kind, touches, stamp_of, fresh_node, closed}
use Rattle.cw_tree.specs.Walks.{IsRooted}
use Rattle.cw_tree.specs.Accesses.{cell_value, value_in, written_kind, read_kind, written, IsChain}
use Rattle.cw_tree.specs.Journals.{IsEntry, AreEntries}
use Rattle.cw_tree.specs.AccessStacks.{newest_conflicts, AreThere, access_kind, written_by, stamps, IsAccessStack}
use Rattle.cw_tree.specs.ChainLaws.{StacksGrow, StacksClose, FrontsOfStacks, StacksTell}
use Rattle.cw_tree.proofs.Members.{map_same}
use Rattle.cw_tree.proofs.NextNodes.Growing.{get_append, get_next, node_grown, node_new, number_grown}
use Rattle.cw_tree.proofs.NextNodes.Closing.{node_closed, number_closed, same_closed}
use Rattle.cw_tree.proofs.ChainLaws.Entries.{SameAccess, Notes, entries_more, entries_same, entry_read, entry_written}
use Rattle.cw_tree.proofs.ChainLaws.Chains.{there_in, parts_are_chains}
use Rattle.cw_tree.proofs.ChainLaws.Change.{chains_grow, chains_close, chains_extend}
use Rattle.cw_tree.proofs.ChainLaws.Stamps.{touched_there}

pub stack_there : (t : List Node) (c : ℕ) (us : List ℕ) → All (λ u. touches t c u ≡ true) us → AreThere t us
stack_there t c us h = All-weaker (λ u. touches t c u ≡ true) (λ u. u < length t) (touched_there t c) us h

-- ## As the tree changes

access_grown : (t s : List Node) (n : ℕ) → n < length t → SameAccess t (t ++ s) n
access_grown t s n h = record {
  touched = λ c. node_grown t s (λ y. touches_kind c y.kind) n h;
  stamp = number_grown t s (λ y. y.stamp) n h;
  wrote = ap (value_in written_kind) (get_append t s n h);
  read = ap (value_in read_kind) (get_append t s n h);
}

pub stacks_grow : StacksGrow
stacks_grow t s c v us es r h =
    let there = stack_there t c us h.accesses in
    record {
      accesses = touched_grown t s c us h.accesses;
      entries = entries_same t (t ++ s) v us es (λ n i. access_grown t s n (there_in (length t) us there n i)) h.entries;
      chain = chains_grow t s us r there h.chain;
    } where
      touched_grown : (t s : List Node) (c : ℕ) (us : List ℕ) → All (λ u. touches t c u ≡ true) us → All (λ u. touches (t ++ s) c u ≡ true) us
      touched_grown t s c us a = All-weaker (λ u. touches t c u ≡ true) (λ u. touches (t ++ s) c u ≡ true) (λ n e. node_grown t s (λ y. touches_kind c y.kind) n (touched_there t c n e) ∙ e) us a

access_closed : (t : List Node) (b : ℕ) (state : BlockState) (end n : ℕ) → SameAccess t (closed t b state end) n
access_closed t b state end n = record {
  touched = λ c. node_closed t b state end (λ y. touches_kind c y.kind) (λ y. refl) n;
  stamp = number_closed t b state end (λ y. y.stamp) (λ y. refl) n;
  wrote = same_closed t b state end (value_in written_kind) (λ y. refl) n;
  read = same_closed t b state end (value_in read_kind) (λ y. refl) n;
}

pub stacks_close : StacksClose
stacks_close t c v us es b state end r done h = record {
  accesses = All-weaker (λ u. touches t c u ≡ true) (λ u. touches (closed t b state end) c u ≡ true) (λ n e. (access_closed t b state end n).touched c ∙ e) us h.accesses;
  entries = entries_same t (closed t b state end) v us es (λ n i. access_closed t b state end n) h.entries;
  chain = chains_close t us b state end r (stack_there t c us h.accesses) done h.chain;
}

-- ## What entries tell

module _ (t : List Node) (v : ℤ) (u : ℕ) (e : Entry) (h : IsEntry t v u e) where
  told : written_by e ≡ written t u
  told = by_write (written t u) h.wrote h.value where
    by_write : (w : Option ℤ) → e.wrote ≡ is_some w → e.value ≡ unwrap_or w v → cond e.wrote (Some e.value) None ≡ w
    by_write None q r = ap (λ b. cond b (Some e.value) None) q
    by_write (Some w) q r = ap (λ b. cond b (Some e.value) None) q ∙ ap Some r

entries_tell : (t : List Node) (v : ℤ) (us : List ℕ) (es : List Entry) → AreEntries t v us es → (map written_by es ≡ map (written t) us) × (stamps es ≡ map (stamp_of t) us)
entries_tell t v [] [] h = (refl, refl)
entries_tell t v [] (e ∷ es) h = absurd h
entries_tell t v (u ∷ us) [] h = absurd h
entries_tell t v (u ∷ us) (e ∷ es) h =
    let more = entries_tell t (unwrap_or (written t u) v) us es h.1 in
    (ap (λ w. w ∷ map written_by es) (told t v u e h.0) ∙ ap (λ ws. written t u ∷ ws) more.0, ap (λ s. s ∷ stamps es) h.0.stamp ∙ ap (λ ss. stamp_of t u ∷ ss) more.1)

pub stacks_tell : StacksTell
stacks_tell t c v us es h = entries_tell t v us es h.entries

-- ## The oldest of them

entries_front : (t : List Node) (k : ℕ) (v : ℤ) (us : List ℕ) (es : List Entry) → AreEntries t v us es → AreEntries t v (take k us) (take k es)
entries_front t zero v us es h = tt
entries_front t (suc k) v [] [] h = tt
entries_front t (suc k) v [] (e ∷ es) h = absurd h
entries_front t (suc k) v (u ∷ us) [] h = absurd h
entries_front t (suc k) v (u ∷ us) (e ∷ es) h = (h.0, entries_front t k (unwrap_or (written t u) v) us es h.1)

pub fronts_of_stacks : FrontsOfStacks
fronts_of_stacks t c k v us es h = record {
  accesses = All-take (λ u. touches t c u ≡ true) k us h.accesses;
  entries = entries_front t k v us es h.entries;
  chain = (let P : List ℕ → Type 0 = λ xs. IsChain t xs in (parts_are_chains t (take k us) (drop k us) (subst P (sym (take-append-drop k us)) h.chain)).0);
}

-- ## One more of them

module _ (t : List Node) (r : IsRooted t) (c p : ℕ) (hp : p < length t) (write : Option ℤ) (answer : ℤ) (stamp : ℕ) where
  abbrev pub with_access : List Node
  with_access = t ++ fresh_node p (access_kind c write answer) stamp ∷ []

  new_touches : touches with_access c (length t) ≡ true
  new_touches = node_new t (fresh_node p (access_kind c write answer) stamp) (λ y. touches_kind c y.kind) ∙ by_kind write where
    by_kind : (w : Option ℤ) → touches_kind c (access_kind c w answer) ≡ true
    by_kind None = eq-eqb c c refl
    by_kind (Some w) = eq-eqb c c refl

  new_entry : (v : ℤ) (e : Entry) → answer ≡ unwrap_or write v → Notes e stamp (is_some write) answer v → IsEntry with_access v (length t) e
  new_entry v e is note = by_kind write refl is note where
    by_kind : (w : Option ℤ) → write ≡ w → answer ≡ unwrap_or w v → Notes e stamp (is_some w) answer v → IsEntry with_access v (length t) e
    by_kind None q is note =
        let P : ℤ → Type 0 = λ a. Notes e stamp false a v in
        let kind : access_kind c write answer ≡ Read c v = ap (λ w. access_kind c w answer) q ∙ ap (Read c) is in
        entry_read with_access (length t) (fresh_node p (access_kind c write answer) stamp) (get_next t (fresh_node p (access_kind c write answer) stamp) []) c v e kind (subst P is note)
    by_kind (Some w) q is note =
        let kind : access_kind c write answer ≡ Write c answer = ap (λ o. access_kind c o answer) q ∙ ap (Write c) (sym is) in
        entry_written with_access (length t) (fresh_node p (access_kind c write answer) stamp) (get_next t (fresh_node p (access_kind c write answer) stamp) []) c v e answer kind note

  -- where the newest does not conflict, the access comes behind it
  pub stack_extends : (v : ℤ) (us : List ℕ) (es : List Entry) (e : Entry) → IsAccessStack t c v us es → newest_conflicts t us p ≡ false
      → answer ≡ unwrap_or write (cell_value v (map (written t) us)) → Notes e stamp (is_some write) answer (cell_value v (map (written t) us)) → IsAccessStack with_access c v (us ++ length t ∷ []) (es ++ e ∷ [])
  stack_extends v us es e h free is note =
      let there = stack_there t c us h.accesses in
      let grown = stacks_grow t (fresh_node p (access_kind c write answer) stamp ∷ []) c v us es r h in
      let same : cell_value v (map (written with_access) us) ≡ cell_value v (map (written t) us) = ap (cell_value v) (map_same (written with_access) (written t) us (λ n i. (access_grown t (fresh_node p (access_kind c write answer) stamp ∷ []) n (there_in (length t) us there n i)).wrote)) in
      let P : ℤ → Type 0 = λ w. IsEntry with_access w (length t) e in
      record {
        accesses = All-push (λ u. touches with_access c u ≡ true) us (length t) grown.accesses new_touches;
        entries = entries_more with_access v us es (length t) e grown.entries (subst P (sym same) (new_entry (cell_value v (map (written t) us)) e is note));
        chain = chains_extend t (fresh_node p (access_kind c write answer) stamp) us r hp there h.chain free;
      }
