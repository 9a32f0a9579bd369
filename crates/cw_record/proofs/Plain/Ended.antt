-- What a pass over a whole plain tree has found is what an order lists: its names, each once, and their numbers.
use Rattle.std.proofs.Common.{◌≡◌, ℕ, zero, suc, ◌+◌, ◌-◌, ◌<◌, ◌≤◌, List, [], ◌∷◌, ◌++◌, length, map, get_or, refl, ap, sym, ◌∙◌, arith, true, false, cond, Some, None, inl, inr, nat_lt, append-nil}
use Rattle.std.specs.Prelude.{◌⊎◌, unwrap_or}
use Rattle.std.specs.List.{filter}
use Rattle.std.specs.Option.{option_or, is_some}
use Rattle.std.proofs.lemmas.Bool.{cases_Bool, cases_eq, ne_eqb}
use Rattle.std.proofs.lemmas.List.{map-append, length-map}
use Rattle.std.proofs.lemmas.List.Elements.{filter-append}
use Rattle.std.proofs.lemmas.Simd.{map-map}
use Rattle.std.proofs.lemmas.List.Sums.{length-filter}
use Rattle.cw_tree.specs.declared.node.Node.{Node}
use Rattle.cw_tree.specs.declared.picks.Name.{Name}
use Rattle.cw_tree.specs.declared.picks.Turn.{Turn}
use Rattle.cw_tree.specs.Nodes.{parent_of, is_strand, below, all_nodes}
use Rattle.cw_tree.specs.Walks.{IsNumbered}
use Rattle.cw_tree.specs.Series.{strand_of}
use Rattle.cw_tree.specs.Names.{fork_number, name_of, turn}
use Rattle.cw_tree.proofs.InOrder.Renumbered.{some_node}
use Rattle.cw_tree.proofs.Lists.{get_map_below, length_map_below, map_below}
use Rattle.cw_tree.proofs.Members.{in_filter, in_below, map_same}
use Rattle.cw_tree.proofs.Walks.Strands.{strand_of_root, strand_of_le}
use Rattle.cw_serial.specs.Machine.{same_name}
use Rattle.cw_serial.proofs.Turns.{name_itself}
use Rattle.cw_record.specs.Listed.{once, names, listed_name, listed_names, strand_number}
use Rattle.cw_record.specs.Walked.{place_in}
use Rattle.cw_record.specs.Plain.{IsPlainAt, strands_before, forks_before, number_at, plain_name, IsPassed}
use Rattle.cw_record.proofs.StrandIs.{strand_is}
use Rattle.cw_record.proofs.Orders.InOrder.{in_order_is}
use Rattle.cw_record.proofs.Orders.Listing.{listed_root, listed_strand}
use Rattle.cw_record.proofs.Orders.Names.{names_differ}
use Rattle.cw_record.proofs.Walked.Found.{once_push, place_index, place_push}
use Rattle.cw_record.proofs.Plain.Turns.{hang, fork_is, right_is}
use Rattle.cw_record.proofs.Plain.Distinct.{names_apart}

module _ (t : List Node) (w : IsNumbered t) (plain : (m : ℕ) → 0 < m → m < length t → IsPlainAt t m) where
  -- the names of the strands before node n
  abbrev named : ℕ → List (List Turn)
  named n = map (name_of t) (filter (is_strand t) (below n))

  named_more : (n : ℕ) → named (suc n) ≡ named n ++ map (name_of t) (cond (is_strand t n) (n ∷ []) [])
  named_more n = ap (map (name_of t)) (filter-append (is_strand t) (below n) (n ∷ [])) ∙ map-append (name_of t) (filter (is_strand t) (below n)) (cond (is_strand t n) (n ∷ []) [])

  named_strand : (n : ℕ) → is_strand t n ≡ true → named (suc n) ≡ named n ++ name_of t n ∷ []
  named_strand n e = named_more n ∙ ap (λ b. named n ++ map (name_of t) (cond b (n ∷ []) [])) e

  named_other : (n : ℕ) → is_strand t n ≡ false → named (suc n) ≡ named n
  named_other n e = named_more n ∙ ap (λ b. named n ++ map (name_of t) (cond b (n ∷ []) [])) e ∙ append-nil (named n)

  length_named : (n : ℕ) → length (named n) ≡ strands_before t n
  length_named n = length-map (filter (is_strand t) (below n)) (name_of t) ∙ length-filter (is_strand t) (below n)

  -- what has one name more has it last, if it was not there
  place_strand : (n : ℕ) (p : List Turn) → is_strand t n ≡ true → place_in (named (suc n)) p ≡ option_or (place_in (named n) p) (cond (same_name (name_of t n) p) (Some (length (named n))) None)
  place_strand n p e = ap (λ ps. place_in ps p) (named_strand n e) ∙ place_push (named n) (name_of t n) p

  absent : (n : ℕ) (p : List Turn) → ((s : ℕ) → s < n → is_strand t s ≡ true → name_of t s ≡ p → ⊥) → place_in (named n) p ≡ None
  absent zero p h = refl
  absent (suc n) p h =
      by_case (cases_Bool (is_strand t n)) (absent n p (λ s l. h s (omega arith))) where
        by_case : (is_strand t n ≡ true) ⊎ (is_strand t n ≡ false) → place_in (named n) p ≡ None → place_in (named (suc n)) p ≡ None
        by_case (inl e) more =
            place_strand n p e
            ∙ ap (λ o. option_or o (cond (same_name (name_of t n) p) (Some (length (named n))) None)) more
            ∙ ap (λ b. cond b (Some (length (named n))) None) (names_differ (name_of t n) p (h n (omega arith) e))
        by_case (inr e) more = ap (λ ps. place_in ps p) (named_other n e) ∙ more

  -- a strand's name is new
  is_new : (n : ℕ) → n < length t → is_strand t n ≡ true → place_in (named n) (name_of t n) ≡ None
  is_new n h e = absent n (name_of t n) (λ s l is same. let z = names_apart t w plain s n (omega arith) h is e same in omega arith)

  placed : (n s : ℕ) → n ≤ length t → s < n → is_strand t s ≡ true → place_in (named n) (name_of t s) ≡ Some (strands_before t s)
  placed zero s h l is = absurd (omega arith)
  placed (suc n) s h l is =
      by_case (cases_eq s n) (cases_Bool (is_strand t n)) (placed n s (omega arith)) where
        by_case : (s ≡ n) ⊎ (s ≡ n → ⊥) → (is_strand t n ≡ true) ⊎ (is_strand t n ≡ false) → (s < n → is_strand t s ≡ true → place_in (named n) (name_of t s) ≡ Some (strands_before t s)) → place_in (named (suc n)) (name_of t s) ≡ Some (strands_before t s)
        by_case (inl e) (inl x) more =
            ap (λ m. place_in (named (suc n)) (name_of t m)) e
            ∙ place_strand n (name_of t n) x
            ∙ ap (λ o. option_or o (cond (same_name (name_of t n) (name_of t n)) (Some (length (named n))) None)) (is_new n (omega arith) x)
            ∙ ap (λ b. cond b (Some (length (named n))) None) (name_itself (name_of t n))
            ∙ ap Some (length_named n ∙ ap (strands_before t) (sym e))
        by_case (inl e) (inr x) more = absurd (cc (is, x, ap (is_strand t) e))
        by_case (inr ne) (inl x) more = place_strand n (name_of t s) x ∙ ap (λ o. option_or o (cond (same_name (name_of t n) (name_of t s)) (Some (length (named n))) None)) (more (omega arith) is)
        by_case (inr ne) (inr x) more = ap (λ ps. place_in ps (name_of t s)) (named_other n x) ∙ more (omega arith) is

  -- each is listed once
  once_named : (n : ℕ) → n ≤ length t → once [] (named n) ≡ named n
  once_named zero h = refl
  once_named (suc n) h =
      by_case (cases_Bool (is_strand t n)) (once_named n (omega arith)) where
        by_case : (is_strand t n ≡ true) ⊎ (is_strand t n ≡ false) → once [] (named n) ≡ named n → once [] (named (suc n)) ≡ named (suc n)
        by_case (inl e) more =
            ap (once []) (named_strand n e)
            ∙ once_push (named n) (name_of t n)
            ∙ ap (λ ps. ps ++ cond (is_some (place_in ps (name_of t n))) [] (name_of t n ∷ [])) more
            ∙ ap (λ o. named n ++ cond (is_some o) [] (name_of t n ∷ [])) (is_new n (omega arith) e)
            ∙ sym (named_strand n e)
        by_case (inr e) more = ap (once []) (named_other n e) ∙ more ∙ sym (named_other n e)

  names_are : names t ≡ named (length t)
  names_are =
      ap (λ ns. once [] (map (name_of t) (filter (is_strand t) ns))) (in_order_is t w.rooted (hang t w plain) (length t - 1) (omega (arith, some_node t w)))
      ∙ once_named (length t) (omega arith)

  number_is : (s : ℕ) → s < length t → is_strand t s ≡ true → strand_number t s ≡ strands_before t s
  number_is s h e =
      sym (place_index (names t) (name_of t s))
      ∙ ap (λ ps. unwrap_or (place_in ps (name_of t s)) (length (names t))) names_are
      ∙ ap (λ o. unwrap_or o (length (names t))) (placed (length t) s (omega arith) h e)

  number_at_is : (n : ℕ) → n < length t → number_at t n ≡ strand_number t (strand_of t n)
  number_at_is n h = sym (number_is (strand_of t n) (omega (arith, strand_of_le t w.rooted n h)) (strand_is t w.rooted w.root n h))

  abbrev all_numbers : List ℕ
  all_numbers = map (λ n. strand_number t (strand_of t n)) (all_nodes t)

  -- the name of a strand
  name_is : (s : ℕ) → s < length t → is_strand t s ≡ true → plain_name t s ≡ listed_name (names t) (name_of t s)
  name_is s h e =
      by_case (cases_eq s 0) where
        read : (n : ℕ) → n < length t → number_at t n ≡ get_or all_numbers n 0
        read n l = number_at_is n l ∙ sym (get_map_below (λ m. strand_number t (strand_of t m)) (length t) n 0 l)

        by_case : (s ≡ 0) ⊎ (s ≡ 0 → ⊥) → plain_name t s ≡ listed_name (names t) (name_of t s)
        by_case (inl z) =
            ap (plain_name t) z
            ∙ ap (λ k. let x : Name = record { parent = k; fork = 0; right = false } in x) (sym (ap (strands_before t) (strand_of_root t)) ∙ read 0 (omega arith))
            ∙ listed_root t all_numbers refl s z h
        by_case (inr ne) =
            let some : 0 < s = omega arith in
            let p = parent_of t s in
            let low : p < s = w.rooted s some h in
            let x : Turn = record { fork = forks_before t (strand_of t p) s; right = nat_lt (p + 1) s } in
            let turned : x ≡ turn t s =
            ap (λ k. let y : Turn = record { fork = k; right = nat_lt (p + 1) s } in y) (fork_is t w plain s some h e) ∙ ap (λ b. let y : Turn = record { fork = fork_number t p; right = b } in y) (sym (right_is t w plain s some h e))
            in
            ap (λ b. cond b (let y : Name = record { parent = 0; fork = 0; right = false } in y) (let y : Name = record { parent = number_at t p; fork = forks_before t (strand_of t p) s; right = nat_lt (p + 1) s } in y)) (ne_eqb s 0 ne)
            ∙ ap (λ k. let y : Name = record { parent = k; fork = x.fork; right = x.right } in y) (read p (omega arith))
            ∙ listed_strand t all_numbers refl w.rooted s p x some h e refl turned

  names_listed : map (plain_name t) (filter (is_strand t) (all_nodes t)) ≡ listed_names t
  names_listed =
      map_same (plain_name t) (λ s. listed_name (names t) (name_of t s)) (filter (is_strand t) (all_nodes t)) (λ s i. let z = in_filter (is_strand t) s (all_nodes t) i in name_is s (in_below s (length t) z.0) z.1)
      ∙ sym (map-map (listed_name (names t)) (name_of t) (filter (is_strand t) (all_nodes t)))
      ∙ sym (ap (map (listed_name (names t))) names_are)

-- at the end
pub passed_end : (t : List Node) → IsNumbered t → (n : ℕ) (found : List Name) (forks numbers : List ℕ) → IsPassed t n found forks numbers → n ≡ length t
    → (found ≡ listed_names t) × (numbers ≡ map (λ m. strand_number t (strand_of t m)) (all_nodes t))
passed_end t w n found forks numbers v e =
    let plain : (m : ℕ) → 0 < m → m < length t → IsPlainAt t m = λ m p h. v.plain m p (omega arith) in (
      v.named ∙ ap (λ k. map (plain_name t) (filter (is_strand t) (below k))) e ∙ names_listed t w plain,
      map_below (λ m. strand_number t (strand_of t m)) numbers (length t) (ap length v.numbered ∙ length_map_below (number_at t) n ∙ e)
          (λ m d h. ap (λ xs. get_or xs m d) v.numbered ∙ get_map_below (number_at t) n m d (omega arith) ∙ number_at_is t w plain m h),
    )
