-- The pass that lists each name once, and what is read from the list.
use Rattle.std.proofs.Common.{◌≡◌, ℕ, zero, suc, ◌+◌, ◌<◌, ◌≤◌, List, [], ◌∷◌, ◌++◌, length, map, replicate, take, get_or, set, refl, ap, sym, ◌∙◌, arith, true, false, cond, Option, Some, None, inl, inr, subst, IsTrue, append-nil, length-append}
use Rattle.std.specs.Prelude.{◌⊎◌, unwrap_or, All, count_by}
use Rattle.std.specs.List.{filter}
use Rattle.std.specs.Option.{option_or, is_some}
use Rattle.std.proofs.lemmas.Bool.{cases_eq}
use Rattle.std.proofs.lemmas.List.{get_or-set_same, get_or-set_other, get_or-replicate, get_or_default, length-set, length-replicate, length-map, take_more, take_all, map-append}
use Rattle.std.proofs.lemmas.List.Elements.{All-push, filter_passes}
use Rattle.std.proofs.lemmas.Simd.{map-map}
use Rattle.std.proofs.lemmas.List.Sums.{sum_by-set}
use Rattle.cw_tree.specs.declared.node.Node.{Node}
use Rattle.cw_tree.specs.declared.picks.Name.{Name}
use Rattle.cw_tree.specs.declared.picks.Turn.{Turn}
use Rattle.cw_tree.specs.Nodes.{parent_of, below, all_nodes, is_strand}
use Rattle.cw_tree.specs.Series.{strand_of, depth_first}
use Rattle.cw_tree.specs.Walks.{IsRooted}
use Rattle.cw_tree.specs.Names.{name_of, turn}
use Rattle.cw_tree.specs.ForkCounts.{one_if}
use Rattle.cw_tree.proofs.Lists.{length_map_below, get_map_below}
use Rattle.cw_serial.proofs.Turns.{name_itself}
use Rattle.cw_serial.specs.Machine.{same_name}
use Rattle.cw_record.specs.Listed.{once, index_of, without_last, last_turn, names, listed_name, listed_names, strand_number}
use Rattle.cw_record.specs.Walked.{first_named, place_in, AreFirsts}
use Rattle.cw_tree.proofs.Walks.There.{strand_there}
use Rattle.cw_record.proofs.Orders.Names.{names_differ, name_strand, name_of_strand, root_strand, without_added, last_added}
use Rattle.cw_record.proofs.Walked.Found.{first_le, first_same, names_same, place_push, place_index, once_push}

-- The first i strands of an order were met. Those found have names that no earlier one has, and these names have their places.
pub record Listing (t : List Node) (order : List ℕ) (i : ℕ) (found : List ℕ) (places : List (Option ℕ)) : Type 0 where
  pub listed : map (name_of t) found ≡ once [] (map (name_of t) (take i order))
  pub strands : All (λ s. IsTrue (is_strand t s)) found
  pub len : length places ≡ length t
  pub at : (n : ℕ) → n < length t → get_or places (first_named t n) None ≡ place_in (map (name_of t) found) (name_of t n)
  pub count : count_by is_some places ≡ length found

not_some : (o : Option ℕ) → is_some o ≡ false → o ≡ None
not_some None e = refl
not_some (Some i) e = absurd (cc e)

or_none : (o : Option ℕ) → o ≡ option_or o None
or_none None = refl
or_none (Some i) = refl

module _ (t : List Node) (order : List ℕ) where
  none_there : (k : ℕ) → count_by (is_some {T = ℕ}) (replicate k None) ≡ 0
  none_there zero = refl
  none_there (suc k) = none_there k

  listed_none : (k : ℕ) (places : List (Option ℕ)) → k ≡ length t → places ≡ replicate k None → Listing t order 0 [] places
  listed_none k places e q = record {
    listed = refl;
    strands = λ i d h. absurd (omega arith);
    len = ap length q ∙ length-replicate k None ∙ e;
    at = λ n h. (let le = first_le t n h in ap (λ xs. get_or xs (first_named t n) None) q ∙ get_or-replicate k (first_named t n) None None (omega arith));
    count = ap (count_by is_some) q ∙ none_there k;
  }

  pub listing_start : (k : ℕ) (found : List ℕ) (places : List (Option ℕ)) → found ≡ [] → k ≡ length t → places ≡ replicate k None → Listing t order 0 found places
  listing_start k found places none e q = (let P : List ℕ → Type 0 = λ ns. Listing t order 0 ns places in subst P (sym none) (listed_none k places e q))

  module _ (i : ℕ) (found : List ℕ) (places : List (Option ℕ)) (w : Listing t order i found places) (s : ℕ) (more : i < length order) (is : s ≡ get_or order i 0) (there : s < length t) where
    with_nestings_more : once [] (map (name_of t) (take (i + 1) order)) ≡ map (name_of t) found ++ cond (is_some (place_in (map (name_of t) found) (name_of t s))) [] (name_of t s ∷ [])
    with_nestings_more =
        ap (λ ns. once [] (map (name_of t) ns)) (take_more order i 0 more)
        ∙ ap (once []) (map-append (name_of t) (take i order) (get_or order i 0 ∷ []))
        ∙ ap (λ m. once [] (map (name_of t) (take i order) ++ name_of t m ∷ [])) (sym is)
        ∙ once_push (map (name_of t) (take i order)) (name_of t s)
        ∙ ap (λ ps. ps ++ cond (is_some (place_in ps (name_of t s))) [] (name_of t s ∷ [])) (sym w.listed)

    place : get_or places (first_named t s) None ≡ place_in (map (name_of t) found) (name_of t s)
    place = w.at s there

    module _ (first : ℕ) (first_is : first ≡ first_named t s) (own : Option ℕ) (read : own ≡ get_or places first own) where
      own_is : own ≡ place_in (map (name_of t) found) (name_of t s)
      own_is =
          let le = first_le t s there in
          let len = w.len in
          read ∙ get_or_default places first own None (omega arith) ∙ ap (λ k. get_or places k None) first_is ∙ place

      listed_known : is_some own ≡ true → Listing t order (i + 1) found places
      listed_known known = record {
        listed = sym (append-nil (map (name_of t) found)) ∙ ap (λ b. map (name_of t) found ++ cond b [] (name_of t s ∷ [])) (sym (sym (ap is_some own_is) ∙ known)) ∙ sym with_nestings_more;
        strands = w.strands;
        len = w.len;
        at = w.at;
        count = w.count;
      }

      pub listing_known : (same : List ℕ) (after : List (Option ℕ)) → is_some own ≡ true → same ≡ found → after ≡ places → Listing t order (i + 1) same after
      listing_known same after known e f =
          let P : List ℕ → Type 0 = λ ns. Listing t order (i + 1) ns after in
          let Q : List (Option ℕ) → Type 0 = Listing t order (i + 1) found in
          subst P (sym e) (subst Q (sym f) (listed_known known))

      module _ (new : is_some own ≡ false) where
        none_yet : own ≡ None
        none_yet = not_some own new

        first_there : first < length places
        first_there = let le = first_le t s there in let len = w.len in omega arith

        at_more : (grown : List ℕ) → grown ≡ found ++ s ∷ [] → (n : ℕ) → n < length t → get_or (set places first (Some (length found))) (first_named t n) None ≡ place_in (map (name_of t) grown) (name_of t n)
        at_more grown e n h =
            by_case (cases_eq (first_named t n) first) ∙ sym (ap (λ ns. place_in (map (name_of t) ns) (name_of t n)) e ∙ ap (λ ps. place_in ps (name_of t n)) (map-append (name_of t) found (s ∷ [])) ∙ place_push (map (name_of t) found) (name_of t s) (name_of t n)) where
              by_case : (first_named t n ≡ first) ⊎ (first_named t n ≡ first → ⊥)
                  → get_or (set places first (Some (length found))) (first_named t n) None ≡ option_or (place_in (map (name_of t) found) (name_of t n)) (cond (same_name (name_of t s) (name_of t n)) (Some (length (map (name_of t) found))) None)
              by_case (inl q) =
                  let same : name_of t s ≡ name_of t n = names_same t s n there h (sym first_is ∙ sym q) in
                  let absent : place_in (map (name_of t) found) (name_of t n) ≡ None = ap (place_in (map (name_of t) found)) (sym same) ∙ sym own_is ∙ none_yet in
                  let hit : same_name (name_of t s) (name_of t n) ≡ true = ap (same_name (name_of t s)) (sym same) ∙ name_itself (name_of t s) in
                  ap (λ k. get_or (set places first (Some (length found))) k None) q
                  ∙ get_or-set_same places first (Some (length found)) None first_there
                  ∙ ap Some (sym (length-map found (name_of t)))
                  ∙ sym (ap (λ o. option_or o (cond (same_name (name_of t s) (name_of t n)) (Some (length (map (name_of t) found))) None)) absent ∙ ap (λ b. cond b (Some (length (map (name_of t) found))) None) hit)
              by_case (inr ne) =
                  let differ : same_name (name_of t s) (name_of t n) ≡ false = names_differ (name_of t s) (name_of t n) (λ z. ne (first_same t n s (sym z) ∙ sym first_is)) in
                  get_or-set_other places first (first_named t n) (Some (length found)) None ne
                  ∙ w.at n h
                  ∙ or_none (place_in (map (name_of t) found) (name_of t n))
                  ∙ sym (ap (λ b. option_or (place_in (map (name_of t) found) (name_of t n)) (cond b (Some (length (map (name_of t) found))) None)) differ)

        listed_new : (grown : List ℕ) → grown ≡ found ++ s ∷ [] → IsTrue (is_strand t s) → Listing t order (i + 1) grown (set places first (Some (length found)))
        listed_new grown e strand = record {
          listed = ap (map (name_of t)) e
              ∙ map-append (name_of t) found (s ∷ [])
              ∙ ap (λ b. map (name_of t) found ++ cond b [] (name_of t s ∷ [])) (sym (sym (ap is_some own_is) ∙ new))
              ∙ sym with_nestings_more;
          strands = (let P : List ℕ → Type 0 = All (λ m. IsTrue (is_strand t m)) in subst P (sym e) (All-push (λ m. IsTrue (is_strand t m)) found s w.strands strand));
          len = length-set places first (Some (length found)) ∙ w.len;
          at = at_more grown e;
          count =
              (let set_one = sum_by-set (λ (o : Option ℕ). one_if (is_some o)) places first (Some (length found)) None first_there in
              let before : one_if (is_some (get_or places first None)) ≡ 0 = ap (λ o. one_if (is_some o)) (sym (read ∙ get_or_default places first own None first_there) ∙ none_yet) in
              let count = w.count in
              omega (arith, set_one, before, ap length e, length-append found (s ∷ [])));
        }

        pub listing_new : (grown : List ℕ) (after : List (Option ℕ)) (k : ℕ) → grown ≡ found ++ s ∷ [] → k ≡ length found → after ≡ set places first (Some k) → IsTrue (is_strand t s) → Listing t order (i + 1) grown after
        listing_new grown after k e count f strand =
            let P : List (Option ℕ) → Type 0 = Listing t order (i + 1) grown in
            subst P (sym (f ∙ ap (λ j. set places first (Some j)) count)) (listed_new grown e strand)

pub order_strand : (t : List Node) (order : List ℕ) → order ≡ filter (is_strand t) (depth_first t) → (i : ℕ) → i < length order → is_strand t (get_or order i 0) ≡ true
order_strand t order e i h =
    let P : List ℕ → Type 0 = All (λ s. is_strand t s ≡ true) in
    (subst P (sym e) (filter_passes (is_strand t) (depth_first t))) i 0 h

pub same_at : (t : List Node) (same : List ℕ) → same ≡ map (first_named t) (all_nodes t) → (n : ℕ) → n < length t → get_or same n 0 ≡ first_named t n
same_at t same e n h = ap (λ xs. get_or xs n 0) e ∙ get_map_below (first_named t) (length t) n 0 h

-- the first node with the name of a strand that is met
pub first_met : (t : List Node) (same order : List ℕ) → same ≡ map (first_named t) (all_nodes t) → order ≡ filter (is_strand t) (depth_first t) → (i : ℕ) → i < length order → get_or same (get_or order i 0) 0 < length t
first_met t same order e is i h =
    let s = get_or order i 0 in
    let there : s < length t = strand_there t s (order_strand t order is i h) in
    omega (arith, same_at t same e s there, first_le t s there)

pub same_length : (t : List Node) (same : List ℕ) → same ≡ map (first_named t) (all_nodes t) → length same ≡ length t
same_length t same e = ap length e ∙ length_map_below (first_named t) (length t)

-- ## What is read from the list

module _ (t : List Node) (r : IsRooted t) where
  -- the number of a node's strand is where its name stands
  pub number_is : (n : ℕ) → n < length t → index_of (names t) (name_of t n) ≡ strand_number t (strand_of t n)
  number_is n h = ap (index_of (names t)) (sym (name_of_strand t r n h))

  -- by the place of the name, or where it is not listed by how many are
  pub number_read : (strands : List ℕ) (places : List (Option ℕ)) → AreFirsts t strands places → (n first : ℕ) → n < length t → first ≡ first_named t n → unwrap_or (get_or places first None) (length strands) ≡ strand_number t (strand_of t n)
  number_read strands places w n first h e =
      ap (λ k. unwrap_or (get_or places k None) (length strands)) e
      ∙ ap (λ o. unwrap_or o (length strands)) (w.at n h)
      ∙ ap (unwrap_or (place_in (names t) (name_of t n))) (sym (length-map strands (name_of t)) ∙ ap length w.listed)
      ∙ place_index (names t) (name_of t n)
      ∙ number_is n h

module _ (t : List Node) (numbers : List ℕ) (all : numbers ≡ map (λ n. strand_number t (strand_of t n)) (all_nodes t)) where
  number_at : (n : ℕ) → n < length t → get_or numbers n 0 ≡ strand_number t (strand_of t n)
  number_at n h = ap (λ xs. get_or xs n 0) all ∙ get_map_below (λ m. strand_number t (strand_of t m)) (length t) n 0 h

  pub numbers_length : length numbers ≡ length t
  numbers_length = ap length all ∙ length_map_below (λ m. strand_number t (strand_of t m)) (length t)

  pub listed_root : (s : ℕ) → s ≡ 0 → s < length t → (let x : Name = record { parent = get_or numbers 0 0; fork = 0; right = false } in x) ≡ listed_name (names t) (name_of t s)
  listed_root s e h =
      ap (λ k. let x : Name = record { parent = k; fork = 0; right = false } in x) (number_at 0 (omega arith) ∙ ap (index_of (names t)) (root_strand t)) ∙ ap (λ n. listed_name (names t) (name_of t n)) (sym e)

  pub listed_strand : IsRooted t → (s q : ℕ) (x : Turn) → 0 < s → s < length t → is_strand t s ≡ true → q ≡ parent_of t s → x ≡ turn t s
      → (let y : Name = record { parent = get_or numbers q 0; fork = x.fork; right = x.right } in y) ≡ listed_name (names t) (name_of t s)
  listed_strand r s q x p h e up same =
      let low : parent_of t s < s = r s p h in
      let name = name_strand t r s p h e in
      let parent : get_or numbers q 0 ≡ index_of (names t) (without_last (name_of t s)) =
      number_at q (omega arith) ∙ sym (number_is t r q (omega arith)) ∙ ap (λ n. index_of (names t) (name_of t n)) up ∙ ap (index_of (names t)) (sym (ap without_last name ∙ without_added (name_of t (parent_of t s)) (turn t s)))
      in
      let last : x ≡ last_turn (name_of t s) = same ∙ sym (ap last_turn name ∙ last_added (name_of t (parent_of t s)) (turn t s)) in
      ap (λ k. let y : Name = record { parent = k; fork = x.fork; right = x.right } in y) parent
      ∙ ap (λ (z : Turn). let y : Name = record { parent = index_of (names t) (without_last (name_of t s)); fork = z.fork; right = z.right } in y) last

-- one more number
pub below_push : (f : ℕ → ℕ) (i : ℕ) (xs : List ℕ) (x : ℕ) → xs ≡ map f (below i) → x ≡ f i → xs ++ x ∷ [] ≡ map f (below (i + 1))
below_push f i xs x e q =
    ap (λ ys. ys ++ x ∷ []) e ∙ ap (λ y. map f (below i) ++ y ∷ []) q ∙ sym (map-append f (below i) (i ∷ [])) ∙ ap (λ k. map f (below k)) (let next : suc i ≡ i + 1 = omega arith in next)

module _ (t : List Node) (strands : List ℕ) (places : List (Option ℕ)) (w : AreFirsts t strands places) (met : List ℕ) (e : met ≡ strands) where
  pub met_there : (i : ℕ) → i < length met → get_or met i 0 < length t
  met_there i h = strand_there t (get_or met i 0) (let P : List ℕ → Type 0 = All (λ s. is_strand t s ≡ true) in (subst P (sym e) w.there) i 0 h)

  -- all names, from all strands
  pub names_read : (i : ℕ) (xs : List Name) → length met ≤ i → xs ≡ map (λ s. listed_name (names t) (name_of t s)) (take i met) → xs ≡ listed_names t
  names_read i xs h q =
      q ∙ ap (map (λ s. listed_name (names t) (name_of t s))) (take_all i met h ∙ e)
      ∙ sym (map-map (listed_name (names t)) (name_of t) strands)
      ∙ ap (map (listed_name (names t))) w.listed

-- all numbers, from all nodes
pub numbers_read : (t : List Node) (same : List ℕ) → same ≡ map (first_named t) (all_nodes t) → (i : ℕ) (xs : List ℕ) → length same ≤ i → i ≤ length same → xs ≡ map (λ n. strand_number t (strand_of t n)) (below i)
    → xs ≡ map (λ n. strand_number t (strand_of t n)) (all_nodes t)
numbers_read t same e i xs h g q = q ∙ ap (λ k. map (λ n. strand_number t (strand_of t n)) (below k)) (let all : i ≡ length t = omega (arith, same_length t same e) in all)
