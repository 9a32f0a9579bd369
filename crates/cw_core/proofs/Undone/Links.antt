-- The links of a tree stay right as a node comes last among the children of another.
use Rattle.std.proofs.Common.{◌≡◌, ℕ, suc, ◌+◌, ◌<◌, List, [], ◌∷◌, ◌++◌, length, refl, ap, sym, ◌∙◌, subst, arith, cond, Some, None, nat_eq, nat_lt, inl, inr, append_assoc}
use Rattle.std.specs.Prelude.{◌&&◌, slice_get, slice_set}
use Rattle.std.proofs.lemmas.Bool.{and_parts, cases_lt, cases_eq, eq-eqb, ne_eqb, eqb-true, ltb-true, lt-ltb, false_from_ne_true}
use Rattle.std.proofs.lemmas.List.{length-set}
use Rattle.std.proofs.lemmas.Option.{slice_get_within, slice_get_cases}
use Rattle.cw_tree.specs.declared.node.Node.{Node}
use Rattle.cw_tree.specs.Nodes.{parent_of, last_below, fresh_node}
use Rattle.cw_tree.specs.declared.node.Kind.TheVariants.{Strand, Fork}
use Rattle.cw_tree.specs.NextNodes.{fork_nodes}
use Rattle.cw_tree.specs.Walks.{IsRooted}
use Rattle.cw_tree.proofs.NextNodes.Growing.{get_append, get_next, length_more, number_new, number_grown, rooted_more}
use Rattle.cw_tree.proofs.NextNodes.Closing.{get_set_same, get_set_other}
use Rattle.cw_tree.proofs.NextNodes.Trees.{is_child}
use Rattle.cw_core.specs.declared.linked.Link.{Link}
use Rattle.cw_tree.specs.Links.{last_child, child_before}
use Rattle.cw_tree.proofs.LastBelow.{last_same, last_none}
use Rattle.cw_core.specs.Links.{IsLink, AreLinks, put_link}

-- ## One node more

module _ (t : List Node) (x : Node) (some : 0 < length t) (r : IsRooted t) (there : x.parent < length t) where
  abbrev u : List Node
  u = t ++ x ∷ []

  abbrev p : ℕ
  p = x.parent

  same_child : (q m : ℕ) → m < length t → is_child u q m ≡ is_child t q m
  same_child q m h = ap (λ k. nat_lt 0 m && nat_eq k q) (number_grown t (x ∷ []) (λ y. y.parent) m h)

  new_child : (q : ℕ) → is_child u q (length t) ≡ nat_eq p q
  new_child q = ap (λ k. nat_lt 0 (length t) && nat_eq k q) (number_new t x (λ y. y.parent)) ∙ ap (λ b. b && nat_eq p q) (lt-ltb 0 (length t) some)

  last_grown : (q : ℕ) → last_child u q ≡ cond (nat_eq p q) (Some (length t)) (last_child t q)
  last_grown q =
      ap (last_below (is_child u q)) (length_more t x)
      ∙ ap (λ b. cond b (Some (length t)) (last_below (is_child u q) (length t))) (new_child q)
      ∙ ap (λ o. cond (nat_eq p q) (Some (length t)) o) (last_same (is_child u q) (is_child t q) (length t) (same_child q))

  elder_grown : (n : ℕ) → n < length t → child_before u n ≡ child_before t n
  elder_grown n h =
      ap (λ q. last_below (is_child u q) n) (number_grown t (x ∷ []) (λ y. y.parent) n h) ∙ last_same (is_child u (parent_of t n)) (is_child t (parent_of t n)) n (λ m l. same_child (parent_of t n) m (omega arith))

  elder_new : child_before u (length t) ≡ last_child t p
  elder_new = ap (λ q. last_below (is_child u q) (length t)) (number_new t x (λ y. y.parent)) ∙ last_same (is_child u p) (is_child t p) (length t) (same_child p)

  last_new : last_child u (length t) ≡ None
  last_new =
      last_grown (length t)
      ∙ ap (λ b. cond b (Some (length t)) (last_child t (length t))) (ne_eqb p (length t) (λ e. omega arith))
      ∙ last_none (is_child t (length t)) (length t) (λ m l. false_from_ne_true (is_child t (length t) m) (λ e.
      let z = and_parts (nat_lt 0 m) (nat_eq (parent_of t m) (length t)) e in
      let low : parent_of t m < m = r m (ltb-true 0 m z.0) l in
      omega (arith, eqb-true (parent_of t m) (length t) z.1)))

  module _ (links : List Link) (w : AreLinks t links) where
    pub links_grown : AreLinks u (put_link p (length t) links)
    links_grown = elim (slice_get_cases links p).1 [ inl c ↦ by c.0 c.2 | inr c ↦ absurd (omega (arith, c.0, w.len)) ] where
      with : (y : Link) → slice_get links p ≡ Some y → put_link p (length t) links ≡ slice_set links p (record y { last = Some (length t) }) ++ record { last = None; elder = y.last } ∷ []
      with y e = rw e refl

      old_at : (y : Link) → slice_get links p ≡ Some y → (n : ℕ) (z : Link) → n < length t → slice_get (slice_set links p (record y { last = Some (length t) })) n ≡ Some z → IsLink u n z
      old_at y at n z h e =
          elim (cases_eq n p) [
            | inl q ↦
                (let a = get_set_same links p y (record y { last = Some (length t) }) at in
                let b = ap (slice_get (slice_set links p (record y { last = Some (length t) }))) q in
                let is : record y { last = Some (length t) } ≡ z = cc (a, b, e) in
                let was = w.each p y at in
                let P : Link → Type 0 = λ z. IsLink u n z in
                subst P is (record {
                  last = last_grown n ∙ ap (λ b. cond b (Some (length t)) (last_child t n)) (eq-eqb p n (sym q));
                  elder = elder_grown n h ∙ ap (child_before t) q ∙ was.elder;
                }))
            | inr ne ↦
                (let was = w.each n z (sym (get_set_other links p n (record y { last = Some (length t) }) ne) ∙ e) in
                record {
                  last = last_grown n ∙ ap (λ b. cond b (Some (length t)) (last_child t n)) (ne_eqb p n (λ f. ne (sym f))) ∙ was.last;
                  elder = elder_grown n h ∙ was.elder;
                })
          ]

      by : (y : Link) → slice_get links p ≡ Some y → AreLinks u (put_link p (length t) links)
      by y e =
          let changed = slice_set links p (record y { last = Some (length t) }) in
          let new : Link = record { last = None; elder = y.last } in
          let size : length changed ≡ length t = length-set links p (record y { last = Some (length t) }) ∙ w.len in
          let P : List Link → Type 0 = λ ls. AreLinks u ls in
          subst P (sym (with y e)) (record {
            len = length_more changed new ∙ ap suc size ∙ sym (length_more t x);
            each = λ n z at.
                (let h = slice_get_within (changed ++ new ∷ []) n z at in
                let more = length_more changed new in
                elim (cases_lt n (length t)) [
                  | inl less ↦ old_at y e n z less (sym (get_append changed (new ∷ []) n (omega arith)) ∙ at)
                  | inr le ↦
                      (let q : n ≡ length changed = omega arith in
                      let a = ap (slice_get (changed ++ new ∷ [])) q in
                      let b = get_next changed new [] in
                      let is : new ≡ z = cc (a, b, at) in
                      let here : n ≡ length t = q ∙ size in
                      let Q : Link → Type 0 = λ z. IsLink u n z in
                      subst Q is (record { last = ap (last_child u) here ∙ last_new; elder = ap (child_before u) here ∙ elder_new ∙ (w.each p y e).last }))
                ]);
          })

-- ## A closed block

pub links_closed : (t u : List Node) → length u ≡ length t → ((n : ℕ) → parent_of u n ≡ parent_of t n) → (links : List Link) → AreLinks t links → AreLinks u links
links_closed t u len up links w = record {
  len = w.len ∙ sym len;
  each = λ n r e.
      (let was = w.each n r e in
      record {
        last = ap (last_below (is_child u n)) len ∙ last_same (is_child u n) (is_child t n) (length t) (λ m l. ap (λ k. nat_lt 0 m && nat_eq k n) (up m)) ∙ was.last;
        elder = ap (λ q. last_below (is_child u q) n) (up n) ∙ last_same (is_child u (parent_of t n)) (is_child t (parent_of t n)) n (λ m l. ap (λ k. nat_lt 0 m && nat_eq k (parent_of t n)) (up m)) ∙ was.elder;
      });
}

-- ## A fork with its strands

pub links_forked : (t : List Node) (p stamp : ℕ) → 0 < length t → IsRooted t → p < length t → (links : List Link) → AreLinks t links
    → AreLinks (t ++ fork_nodes (length t) p stamp) (put_link (length t) (length t + 2) (put_link (length t) (length t + 1) (put_link p (length t) links)))
links_forked t p stamp some r there links w =
    let n = length t in
    let one = t ++ fresh_node p Fork stamp ∷ [] in
    let two = one ++ fresh_node n Strand 0 ∷ [] in
    let three = two ++ fresh_node n Strand 0 ∷ [] in
    let len_one : length one ≡ n + 1 = omega (arith, length_more t (fresh_node p Fork stamp)) in
    let len_two : length two ≡ n + 2 = omega (arith, length_more one (fresh_node n Strand 0), len_one) in
    let r_one : IsRooted one = rooted_more t (fresh_node p Fork stamp) r there in
    let r_two : IsRooted two = rooted_more one (fresh_node n Strand 0) r_one (omega arith) in
    let in_turn : t ++ fork_nodes n p stamp ≡ three = sym (append_assoc one (fresh_node n Strand 0 ∷ []) (fresh_node n Strand 0 ∷ []) ∙ append_assoc t (fresh_node p Fork stamp ∷ []) (fresh_node n Strand 0 ∷ fresh_node n Strand 0 ∷ [])) in
    let a = links_grown t (fresh_node p Fork stamp) some r there links w in
    let b : AreLinks two (put_link n (n + 1) (put_link p n links)) =
    (let P : ℕ → Type 0 = λ m. AreLinks two (put_link n m (put_link p n links)) in subst P len_one (links_grown one (fresh_node n Strand 0) (omega arith) r_one (omega arith) (put_link p n links) a)) in
    let c : AreLinks three (put_link n (n + 2) (put_link n (n + 1) (put_link p n links))) =
    (let P : ℕ → Type 0 = λ m. AreLinks three (put_link n m (put_link n (n + 1) (put_link p n links))) in subst P len_two (links_grown two (fresh_node n Strand 0) (omega arith) r_two (omega arith) (put_link n (n + 1) (put_link p n links)) b)) in
    let P : List Node → Type 0 = λ u. AreLinks u (put_link n (n + 2) (put_link n (n + 1) (put_link p n links))) in
    subst P (sym in_turn) c
