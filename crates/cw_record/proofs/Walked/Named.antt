-- The listed names of a run give each strand its turns.
use Rattle.std.proofs.Common.{◌≡◌, ℕ, zero, suc, ◌<◌, ◌≤◌, List, [], ◌∷◌, ◌++◌, length, map, refl, ap, sym, ◌∙◌, arith, Bool, true, false, cond, Some, None, inl, inr, subst, option_map}
use Rattle.std.specs.Prelude.{slice_get}
use Rattle.std.specs.List.{filter, flat_map}
use Rattle.std.proofs.lemmas.Bool.{lt-ltb}
use Rattle.std.proofs.lemmas.List.{map-append}
use Rattle.std.proofs.lemmas.List.Elements.{filter-append}
use Rattle.std.proofs.lemmas.Option.{slice_get-map}
use Rattle.cw_tree.specs.declared.node.Node.{Node}
use Rattle.cw_tree.specs.declared.picks.Name.{Name}
use Rattle.cw_tree.specs.declared.picks.Turn.{Turn}
use Rattle.cw_tree.specs.Nodes.{is_strand_kind, parent_of, is_strand}
use Rattle.cw_tree.specs.Walks.{IsRooted}
use Rattle.cw_tree.specs.Series.{children, walk, depth_first, strand_of}
use Rattle.cw_tree.specs.Names.{name_of, turn}
use Rattle.cw_tree.proofs.Lists.{In}
use Rattle.cw_tree.proofs.InOrder.DepthFirst.{child_is, whole, walk_step}
use Rattle.cw_tree.proofs.InOrder.Visits.{all_come}
use Rattle.cw_serial.specs.Machine.{parent_in, with_turn, turns_in, steps_down}
use Rattle.cw_record.specs.declared.items.OrderItem.{OrderItem}
use Rattle.cw_record.specs.Listed.{once, index_of, without_last, last_turn, names, listed_name, listed_names, strand_number}
use Rattle.cw_record.specs.Order.{node_of, pick_of}
use Rattle.cw_record.specs.Replay.{doer}
use Rattle.cw_tree.proofs.Walks.There.{node_there}
use Rattle.cw_record.proofs.StrandIs.{strand_is}
use Rattle.cw_record.proofs.Orders.Names.{name_strand, name_other, without_added, last_added}
use Rattle.cw_record.proofs.Orders.GoingOn.{IsIn, is_in_head, is_in_tail, EachAfter, GoesOn, IsReached, each_append, each_once, is_in_once, is_found, follows}

-- ## Names of which each goes on from an earlier one

module _ (qs : List (List Turn)) (on : EachAfter GoesOn ([] ∷ []) qs) where
  abbrev rooted : List (List Turn)
  rooted = [] ∷ qs

  abbrev numbered : List Name
  numbered = map (listed_name rooted) rooted

  turns_at : (k i : ℕ) (p : List Turn) → i ≤ k → slice_get rooted i ≡ Some p → turns_in numbered k i ≡ Some p
  turns_at zero zero p h e = e
  turns_at zero (suc i) p h e = absurd (omega arith)
  turns_at (suc k) zero p h e = e
  turns_at (suc k) (suc i) p h e =
      let w = follows qs on i p e in
      let earlier = w.earlier in
      let name : slice_get numbered (suc i) ≡ Some (listed_name rooted p) = slice_get-map (listed_name rooted) rooted (suc i) ∙ ap (λ o. option_map (listed_name rooted) o) e in
      let up : turns_in numbered k (index_of rooted (without_last p)) ≡ Some (without_last p) = turns_at k (index_of rooted (without_last p)) (without_last p) (omega arith) w.found in
      ap (λ o. with_turn (suc i) o (turns_in numbered k (parent_in o))) name
      ∙ ap (with_turn (suc i) (Some (listed_name rooted p))) up
      ∙ ap (λ b. cond b (Some (without_last p ++ last_turn p ∷ [])) None) (lt-ltb (index_of rooted (without_last p)) (suc i) earlier)
      ∙ ap Some (sym w.more)

  turns_found : (p : List Turn) → IsIn p rooted → steps_down numbered (index_of rooted p) ≡ Some p
  turns_found p h = turns_at (index_of rooted p) (index_of rooted p) p (omega arith) (is_found rooted p h).1

-- ## The names of a tree

module _ (t : List Node) (r : IsRooted t) where
  abbrev names_on : List ℕ → List (List Turn)
  names_on ns = map (name_of t) (filter (is_strand t) ns)

  names_append : (ns ms : List ℕ) → names_on (ns ++ ms) ≡ names_on ns ++ names_on ms
  names_append ns ms = ap (map (name_of t)) (filter-append (is_strand t) ns ms) ∙ map-append (name_of t) (filter (is_strand t) ns) (filter (is_strand t) ms)

  abbrev AreReached : List (List Turn) → List ℕ → Type 0
  AreReached seen ns = EachAfter IsReached seen (names_on ns)

  -- the name of a child's parent was seen, and so the child may come
  abbrev HasParent : List (List Turn) → ℕ → Type 0
  HasParent seen n = (0 < n) × (n < length t) × IsIn (name_of t (parent_of t n)) seen

  node_step : (b : Bool) (n : ℕ) (ns : List ℕ) (seen : List (List Turn)) → is_strand t n ≡ b → HasParent seen n → ((more : List (List Turn)) → IsIn (name_of t n) more → AreReached more ns)
      → EachAfter IsReached seen (map (name_of t) (cond b (n ∷ filter (is_strand t) ns) (filter (is_strand t) ns)))
  node_step true n ns seen e h rest =
      let name = name_strand t r n h.0 h.1 e in
      let up : without_last (name_of t n) ≡ name_of t (parent_of t n) = ap without_last name ∙ without_added (name_of t (parent_of t n)) (turn t n) in
      let last : last_turn (name_of t n) ≡ turn t n = ap last_turn name ∙ last_added (name_of t (parent_of t n)) (turn t n) in
      let P : List Turn → Type 0 = λ p. IsIn p seen in
      (inr (subst P (sym up) h.2, name ∙ ap (λ p. p ++ turn t n ∷ []) (sym up) ∙ ap (λ x. without_last (name_of t n) ++ x ∷ []) (sym last)), rest (name_of t n ∷ seen) (is_in_head (name_of t n) seen))
  node_step false n ns seen e h rest = (let P : List Turn → Type 0 = λ p. IsIn p seen in rest seen (subst P (sym (name_other t r n h.0 h.1 e)) h.2))

  flat_reached : (f : ℕ → List ℕ) → ((n : ℕ) (seen : List (List Turn)) → HasParent seen n → AreReached seen (f n)) → (ns : List ℕ) (seen : List (List Turn)) → ((n : ℕ) → In n ns → HasParent seen n) → AreReached seen (flat_map f ns)
  flat_reached f each [] seen h = tt
  flat_reached f each (n ∷ ns) seen h =
      let P : List (List Turn) → Type 0 = EachAfter IsReached seen in
      subst P (sym (names_append (f n) (flat_map f ns))) (each_append (names_on (f n)) (names_on (flat_map f ns)) seen (each n seen (h n (inl refl))) (flat_reached f each ns seen (λ m i. h m (inr i))))

  children_have : (n : ℕ) (seen : List (List Turn)) → IsIn (name_of t n) seen → (m : ℕ) → In m (children t n) → HasParent seen m
  children_have n seen h m i =
      let c = child_is t n m i in
      let P : ℕ → Type 0 = λ x. IsIn (name_of t x) seen in
      (c.some, c.there, subst P (sym c.parent) h)

  walk_reached : (k n : ℕ) (seen : List (List Turn)) → HasParent seen n → AreReached seen (walk t k n)
  walk_reached zero n seen h = node_step (is_strand t n) n [] seen refl h (λ more i. tt)
  walk_reached (suc k) n seen h = node_step (is_strand t n) n (flat_map (walk t k) (children t n)) seen refl h (λ more i. flat_reached (walk t k) (walk_reached k) (children t n) more (children_have n more i))

  name_met : (s : ℕ) (ns : List ℕ) → In s ns → is_strand t s ≡ true → IsIn (name_of t s) (names_on ns)
  name_met s [] h e = absurd h
  name_met s (n ∷ ns) (inl same) e = name_here (is_strand t n) (sym (ap (is_strand t) same) ∙ e) where
    name_here : (b : Bool) → b ≡ true → IsIn (name_of t s) (map (name_of t) (cond b (n ∷ filter (is_strand t) ns) (filter (is_strand t) ns)))
    name_here true g = (let P : ℕ → Type 0 = λ x. IsIn (name_of t s) (name_of t x ∷ names_on ns) in subst P same (is_in_head (name_of t s) (names_on ns)))
    name_here false g = absurd (cc g)
  name_met s (n ∷ ns) (inr h) e = name_there (is_strand t n) (name_met s ns h e) where
    name_there : (b : Bool) → IsIn (name_of t s) (names_on ns) → IsIn (name_of t s) (map (name_of t) (cond b (n ∷ filter (is_strand t) ns) (filter (is_strand t) ns)))
    name_there true g = is_in_tail (name_of t s) (name_of t n) (names_on ns) g
    name_there false g = g

  is_listed : (s : ℕ) → s < length t → is_strand t s ≡ true → IsIn (name_of t s) (names t)
  is_listed s h e = is_in_once (names_on (depth_first t)) (name_of t s) (name_met s (depth_first t) (all_come t r s h) e)

  module _ (root : is_strand t 0 ≡ true) where
    -- the names after the root's
    abbrev rest : List (List Turn)
    rest = once ([] ∷ []) (names_on (flat_map (whole t) (children t 0)))

    rest_on : EachAfter GoesOn ([] ∷ []) rest
    rest_on =
        each_once (names_on (flat_map (whole t) (children t 0))) ([] ∷ []) (is_in_head [] [])
        (flat_reached (whole t) (walk_reached (length t)) (children t 0) ([] ∷ []) (children_have 0 ([] ∷ []) (is_in_head [] [])))

    names_are : names t ≡ [] ∷ rest
    names_are =
        ap (λ ns. once [] (names_on ns)) (walk_step t r 0)
        ∙ ap (λ b. once [] (map (name_of t) (cond b (0 ∷ filter (is_strand t) (flat_map (whole t) (children t 0))) (filter (is_strand t) (flat_map (whole t) (children t 0)))))) root

    -- the number of a strand stands for its name
    pub turns_of_strand : (s : ℕ) → s < length t → is_strand t s ≡ true → steps_down (listed_names t) (strand_number t s) ≡ Some (name_of t s)
    turns_of_strand s h e =
        let P : List (List Turn) → Type 0 = λ ps. IsIn (name_of t s) ps → steps_down (map (listed_name ps) ps) (index_of ps (name_of t s)) ≡ Some (name_of t s) in
        (subst P (sym names_are) (turns_found rest rest_on (name_of t s))) (is_listed s h e)

    -- the same, of any strand of the tree and of the one that did an item
    pub strand_turns : (s : ℕ) → is_strand t s ≡ true → steps_down (listed_names t) (strand_number t s) ≡ Some (name_of t s)
    strand_turns s e = turns_of_strand s (node_there (λ x. is_strand_kind x.kind) t s e) e

    pub item_turns : (i : OrderItem) → node_of i < length t → steps_down (listed_names t) (pick_of t i) ≡ Some (doer t i)
    item_turns i h = strand_turns (strand_of t (node_of i)) (strand_is t r root (node_of i) h)
