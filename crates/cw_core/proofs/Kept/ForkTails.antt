-- Children as a strand forks.
use Rattle.std.proofs.Common.{◌≡◌, ◌≢◌, ℕ, suc, ◌<◌, ◌≤◌, List, [], ◌∷◌, ◌++◌, length, ap, sym, ◌∙◌, arith, false, cond, nat_eq, nat_lt, append_assoc, append-nil}
use Rattle.std.specs.Prelude.{◌&&◌, ◌||◌, not, filter}
use Rattle.std.proofs.lemmas.List.Elements.{filter-append}
use Rattle.cw_tree.specs.Shape.{is_closed}
use Rattle.cw_tree.proofs.Members.{filter_same, in_below}
use Rattle.std.specs.List.{list_any}
use Rattle.std.proofs.lemmas.Bool.{or_parts, eq-eqb, eqb-true}
use Rattle.cw_tree.specs.declared.node.Node.{Node}
use Rattle.cw_tree.specs.declared.node.Kind.TheVariants.{Fork, Strand}
use Rattle.cw_tree.specs.Nodes.{is_block_kind, is_pending_state, is_block, is_pending, all_nodes, fresh_node}
use Rattle.cw_tree.specs.Walks.{IsRooted}
use Rattle.cw_tree.specs.Series.{children}
use Rattle.cw_tree.specs.NextNodes.{fork_nodes}
use Rattle.cw_tree.proofs.NextNodes.Growing.{length_more, node_grown, node_new, all_nodes_more}
use Rattle.cw_tree.proofs.NextNodes.Trees.{children_none}
use Rattle.cw_core.proofs.Kept.Tails.{children_other, children_here, elders_more}

-- no node that comes is a child of node q
pub children_apart : (xs t : List Node) (q : ℕ) → 0 < length t → list_any (λ x. nat_eq x.parent q) xs ≡ false → children (t ++ xs) q ≡ children t q
children_apart [] t q some none = ap (λ u. children u q) (append-nil t)
children_apart (x ∷ xs) t q some none =
    let z = or_parts (nat_eq x.parent q) (list_any (λ x. nat_eq x.parent q) xs) none in
    let ne : x.parent ≢ q = λ e. absurd (let a = eq-eqb x.parent q e in cc (a, z.0)) in
    ap (λ u. children u q) (sym (append_assoc t (x ∷ []) xs))
    ∙ children_apart xs (t ++ x ∷ []) q (omega (arith, length_more t x)) z.1
    ∙ children_other t x q some ne

-- older children are the same
pub elders_apart : (xs t : List Node) (q n : ℕ) → 0 < length t → n ≤ length t → filter (λ l. nat_lt l n) (children (t ++ xs) q) ≡ filter (λ l. nat_lt l n) (children t q)
elders_apart [] t q n some le = ap (λ u. filter (λ l. nat_lt l n) (children u q)) (append-nil t)
elders_apart (x ∷ xs) t q n some le =
    ap (λ u. filter (λ l. nat_lt l n) (children u q)) (sym (append_assoc t (x ∷ []) xs))
    ∙ elders_apart xs (t ++ x ∷ []) q n (omega (arith, length_more t x)) (omega (arith, length_more t x))
    ∙ elders_more t x q n some le

module _ (t : List Node) (r : IsRooted t) (p stamp : ℕ) (there : p < length t) where
  abbrev f : ℕ
  f = length t

  abbrev u : List Node
  u = t ++ fork_nodes f p stamp

  abbrev one : Node
  one = fresh_node p Fork stamp

  abbrev half : Node
  half = fresh_node f Strand 0

  apart : (a b : ℕ) → a ≢ b → nat_eq a b ≡ false
  apart a b ne = Rattle.std.proofs.lemmas.Bool.ne_eqb a b ne

  some : 0 < length t
  some = omega arith

  first_node : u ≡ (t ++ one ∷ []) ++ half ∷ half ∷ []
  first_node = sym (append_assoc t (one ∷ []) (half ∷ half ∷ []))

  len_one : length (t ++ one ∷ []) ≡ suc f
  len_one = length_more t one

  -- the place has the fork as its newest child
  pub place_children : children u p ≡ children t p ++ f ∷ []
  place_children =
      ap (λ v. children v p) first_node
      ∙ children_apart (half ∷ half ∷ []) (t ++ one ∷ []) p (omega (arith, len_one)) (ap (λ b. b || (b || false)) (apart f p (λ e. absurd (omega arith))))
      ∙ children_here t one some

  -- the fork has its two strands as children
  pub fork_children : children u f ≡ suc f ∷ suc (suc f) ∷ []
  fork_children =
      let v = t ++ one ∷ [] in
      let none : children v f ≡ [] = children_other t one f some (λ e. absurd (omega (arith, e))) ∙ children_none t r f (omega arith) in
      let left : children (v ++ half ∷ []) f ≡ suc f ∷ [] = children_here v half (omega (arith, len_one)) ∙ ap (λ ns. ns ++ length v ∷ []) none ∙ ap (λ n. n ∷ []) len_one in
      ap (λ v. children v f) (first_node ∙ sym (append_assoc v (half ∷ []) (half ∷ [])))
      ∙ children_here (v ++ half ∷ []) half (omega (arith, len_one, length_more v half))
      ∙ ap (λ ns. ns ++ length (v ++ half ∷ []) ∷ []) left
      ∙ ap (λ n. suc f ∷ n ∷ []) (length_more v half ∙ ap suc len_one)

  -- any other node has the children that it had, and the strands have none
  pub other_children : (n : ℕ) → n ≢ p → n ≢ f → children u n ≡ children t n
  other_children n np nf = children_apart (fork_nodes f p stamp) t n some (ap (λ b. b || (nat_eq f n || (nat_eq f n || false))) (apart p n (λ e. absurd (np (sym e)))) ∙ ap (λ b. b || (b || false)) (apart f n (λ e. absurd (nf (sym e)))))

  pub no_children : (n : ℕ) → f < n → children u n ≡ []
  no_children n h = other_children n (λ e. absurd (omega (arith, e))) (λ e. absurd (omega (arith, e))) ∙ children_none t r n (omega arith)

-- ## Closed blocks

module _ (t : List Node) (x : Node) (none : is_block_kind x.kind ≡ false) where
  abbrev v : List Node
  v = t ++ x ∷ []

  closed_same : (n : ℕ) → n < length t → is_closed v n ≡ is_closed t n
  closed_same n h =
      ap (λ b. b && not (is_pending v n)) (node_grown t (x ∷ []) (λ y. is_block_kind y.kind) n h)
      ∙ ap (λ b. is_block t n && not b) (node_grown t (x ∷ []) (λ y. is_block_kind y.kind && is_pending_state y.state) n h)

  closed_one : length (filter (is_closed v) (all_nodes v)) ≡ length (filter (is_closed t) (all_nodes t))
  closed_one =
      ap length
      (ap (filter (is_closed v)) (all_nodes_more t x)
      ∙ filter-append (is_closed v) (all_nodes t) (length t ∷ [])
      ∙ ap (λ ns. ns ++ filter (is_closed v) (length t ∷ [])) (filter_same (is_closed v) (is_closed t) (all_nodes t) (λ n i. closed_same n (in_below n (length t) i)))
      ∙ ap (λ b. filter (is_closed t) (all_nodes t) ++ cond b (length t ∷ []) []) (ap (λ b. b && not (is_pending v (length t))) (node_new t x (λ y. is_block_kind y.kind) ∙ none))
      ∙ append-nil (filter (is_closed t) (all_nodes t)))

-- nodes that are no blocks change nothing
pub closed_apart : (xs t : List Node) → list_any (λ x. is_block_kind x.kind) xs ≡ false → length (filter (is_closed (t ++ xs)) (all_nodes (t ++ xs))) ≡ length (filter (is_closed t) (all_nodes t))
closed_apart [] t none = ap (λ u. length (filter (is_closed u) (all_nodes u))) (append-nil t)
closed_apart (x ∷ xs) t none =
    let z = or_parts (is_block_kind x.kind) (list_any (λ x. is_block_kind x.kind) xs) none in
    ap (λ u. length (filter (is_closed u) (all_nodes u))) (sym (append_assoc t (x ∷ []) xs)) ∙ closed_apart xs (t ++ x ∷ []) z.1 ∙ closed_one t x z.0
