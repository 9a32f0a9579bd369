-- The pass that finds each node's last child and the child before it, and how a node's children are met from the last one on.
use Rattle.std.proofs.Common.{◌≡◌, ℕ, zero, suc, ◌+◌, ◌<◌, ◌≤◌, List, [], ◌∷◌, ◌++◌, length, map, reverse, replicate, get_or, set, refl, ap, sym, ◌∙◌, arith, Bool, true, false, cond, Option, Some, None, inl, inr, nat_lt, nat_eq, append_assoc}
use Rattle.std.specs.Prelude.{◌⊎◌}
use Rattle.std.specs.List.{filter}
use Rattle.std.proofs.lemmas.Bool.{cases_eq, and_from, and_parts, and_right, lt-ltb, eq-eqb, eqb-true, ne_eqb}
use Rattle.std.proofs.lemmas.List.{get_or-set_same, get_or-set_other, get_or-replicate, get_or_default, length-set, length-replicate, reverse-append}
use Rattle.std.proofs.lemmas.List.Elements.{filter-append}
use Rattle.cw_tree.specs.declared.node.Node.{Node}
use Rattle.cw_tree.specs.Nodes.{parent_of, below, last_below, all_nodes}
use Rattle.cw_tree.specs.Series.{children}
use Rattle.cw_tree.proofs.Lists.{map_below, get_map_below}
use Rattle.cw_tree.specs.Links.{is_child, last_child, child_before}

-- ## The pass

-- the nodes below n were met
pub record Met (t : List Node) (n : ℕ) (last before : List (Option ℕ)) : Type 0 where
  pub some : 0 < n
  pub len : length last ≡ length t
  pub before_len : length before ≡ length t
  pub children : (x : ℕ) → x < length t → get_or last x None ≡ last_below (is_child t x) n
  pub done : (c : ℕ) → c < n → c < length t → get_or before c None ≡ child_before t c

module _ (t : List Node) where
  pub met_start : (k : ℕ) (last before : List (Option ℕ)) → k ≡ length t → last ≡ replicate k None → before ≡ replicate k None → Met t 1 last before
  met_start k last before e q s = record {
    some = omega arith;
    len = ap length q ∙ length-replicate k None ∙ e;
    before_len = ap length s ∙ length-replicate k None ∙ e;
    children = λ x h. ap (λ xs. get_or xs x None) q ∙ get_or-replicate k x None None (omega arith);
    done = λ c h l.
        (let root : c ≡ 0 = omega arith in
        ap (λ xs. get_or xs c None) s ∙ get_or-replicate k c None None (omega arith) ∙ sym (ap (child_before t) root));
  }

  pub met_end_last : (n : ℕ) (last before : List (Option ℕ)) → Met t n last before → length t ≤ n → (1 ≤ length t → n ≤ length t) → last ≡ map (last_child t) (all_nodes t)
  met_end_last n last before w h g =
      map_below (last_child t) last (length t) w.len (λ c d l.
      let len = w.len in
      let high : n ≤ length t = g (omega arith) in
      get_or_default last c d None (omega arith) ∙ w.children c l ∙ ap (last_below (is_child t c)) (let end : n ≡ length t = omega arith in end))

  pub met_end_before : (n : ℕ) (last before : List (Option ℕ)) → Met t n last before → length t ≤ n → before ≡ map (child_before t) (all_nodes t)
  met_end_before n last before w h = map_below (child_before t) before (length t) w.before_len (λ c d l. let len = w.before_len in get_or_default before c d None (omega arith) ∙ w.done c (omega arith) l)

  module _ (n : ℕ) (last before : List (Option ℕ)) (w : Met t n last before) (there : n < length t) (q : ℕ) (low : q < n) (up : q ≡ parent_of t n) (own : Option ℕ) (read : own ≡ get_or last q own) where
    own_is : own ≡ child_before t n
    own_is = let len = w.len in read ∙ get_or_default last q own None (omega arith) ∙ w.children q (omega arith) ∙ ap (λ x. last_below (is_child t x) n) up

    one_more : n + 1 ≡ suc n
    one_more = omega arith

    pub met_step : Met t (n + 1) (set last q (Some n)) (set before n own)
    met_step = record {
      some = omega arith;
      len = length-set last q (Some n) ∙ w.len;
      before_len = length-set before n own ∙ w.before_len;
      children = λ x h. child_at x h (cases_eq x q);
      done = λ c h l. done_at c h l (cases_eq c n);
    } where
      child_at : (x : ℕ) → x < length t → (x ≡ q) ⊎ (x ≡ q → ⊥) → get_or (set last q (Some n)) x None ≡ last_below (is_child t x) (n + 1)
      child_at x h (inl e) =
          let len = w.len in
          let here : is_child t x n ≡ true = and_from (nat_lt 0 n) (nat_eq (parent_of t n) x) (lt-ltb 0 n w.some) (eq-eqb (parent_of t n) x (sym up ∙ sym e)) in
          ap (λ k. get_or (set last q (Some n)) k None) e
          ∙ get_or-set_same last q (Some n) None (omega arith)
          ∙ sym (ap (last_below (is_child t x)) one_more ∙ ap (λ b. cond b (Some n) (last_below (is_child t x) n)) here)
      child_at x h (inr ne) =
          let other : is_child t x n ≡ false = and_right (nat_lt 0 n) (nat_eq (parent_of t n) x) (ne_eqb (parent_of t n) x (λ z. ne (sym z ∙ sym up))) in
          get_or-set_other last q x (Some n) None ne
          ∙ w.children x h
          ∙ sym (ap (last_below (is_child t x)) one_more ∙ ap (λ b. cond b (Some n) (last_below (is_child t x) n)) other)

      done_at : (c : ℕ) → c < n + 1 → c < length t → (c ≡ n) ⊎ (c ≡ n → ⊥) → get_or (set before n own) c None ≡ child_before t c
      done_at c h l (inl e) = let len = w.before_len in ap (λ k. get_or (set before n own) k None) e ∙ get_or-set_same before n own None (omega arith) ∙ own_is ∙ ap (child_before t) (sym e)
      done_at c h l (inr ne) = get_or-set_other before n c own None ne ∙ w.done c (omega arith) l

-- ## From the last child on

-- the numbers that pass a test, from one on downwards
abbrev pub downward : (ℕ → Bool) → Option ℕ → List ℕ
downward p None = []
downward p (Some c) = c ∷ reverse (filter p (below c))

step_down : (p : ℕ → Bool) (k : ℕ) (b : Bool) → p k ≡ b → reverse (filter p (below k)) ≡ downward p (last_below p k) → reverse (filter p (below (suc k))) ≡ downward p (cond b (Some k) (last_below p k))
step_down p k true e more = ap reverse (filter-append p (below k) (k ∷ [])) ∙ ap (λ b. reverse (filter p (below k) ++ cond b (k ∷ []) [])) e ∙ reverse-append (filter p (below k)) (k ∷ [])
step_down p k false e more = ap reverse (filter-append p (below k) (k ∷ [])) ∙ ap (λ b. reverse (filter p (below k) ++ cond b (k ∷ []) [])) e ∙ reverse-append (filter p (below k)) [] ∙ more

pub downward_is : (p : ℕ → Bool) (k : ℕ) → reverse (filter p (below k)) ≡ downward p (last_below p k)
downward_is p zero = refl
downward_is p (suc k) = step_down p k (p k) refl (downward_is p k)

last_step : (p : ℕ → Bool) (k c : ℕ) (b : Bool) → p k ≡ b → (last_below p k ≡ Some c → (c < k) × (p c ≡ true)) → cond b (Some k) (last_below p k) ≡ Some c → (c < suc k) × (p c ≡ true)
last_step p k c true e more f = let same : k ≡ c = cc f in (omega arith, sym (ap p same) ∙ e)
last_step p k c false e more f = let z = more f in (omega (arith, z.0), z.1)

pub last_passes : (p : ℕ → Bool) (k c : ℕ) → last_below p k ≡ Some c → (c < k) × (p c ≡ true)
last_passes p zero c e = absurd (cc e)
last_passes p (suc k) c e = last_step p k c (p k) refl (last_passes p k c) e

-- the children of n from this one on downwards are left
pub record Pushing (t : List Node) (n : ℕ) (before stack : List ℕ) (next : Option ℕ) : Type 0 where
  pub all : stack ++ downward (is_child t n) next ≡ before ++ reverse (children t n)
  pub child : (c : ℕ) → next ≡ Some c → (c < length t) × (is_child t n c ≡ true)

abbrev pub size : Option ℕ → ℕ
size None = 0
size (Some c) = suc c

module _ (t : List Node) (n : ℕ) (stack : List ℕ) where
  pub push_start : (last : List (Option ℕ)) (next : Option ℕ) → last ≡ map (last_child t) (all_nodes t) → n < length t → next ≡ get_or last n next → Pushing t n stack stack next
  push_start last next e h read =
      let is : next ≡ last_child t n = read ∙ ap (λ xs. get_or xs n next) e ∙ get_map_below (last_child t) (length t) n next h in
      record {
        all = ap (λ o. stack ++ downward (is_child t n) o) is ∙ ap (λ xs. stack ++ xs) (sym (downward_is (is_child t n) (length t)));
        child = λ c f. last_passes (is_child t n) (length t) c (sym is ∙ f);
      }

  module _ (at : List ℕ) (o : Option ℕ) (w : Pushing t n stack at o) (c : ℕ) (some : o ≡ Some c) (before : List (Option ℕ)) (next : Option ℕ) (e : before ≡ map (child_before t) (all_nodes t)) (read : next ≡ get_or before c next) where
    next_is : next ≡ last_below (is_child t n) c
    next_is =
        let z = w.child c some in
        read ∙ ap (λ xs. get_or xs c next) e ∙ get_map_below (child_before t) (length t) c next z.0
        ∙ ap (λ x. last_below (is_child t x) c) (eqb-true (parent_of t c) n (and_parts (nat_lt 0 c) (nat_eq (parent_of t c) n) z.1).1)

    pub push_step : Pushing t n stack (at ++ c ∷ []) next
    push_step = record {
      all = ap (λ o. (at ++ c ∷ []) ++ downward (is_child t n) o) next_is
          ∙ append_assoc at (c ∷ []) (downward (is_child t n) (last_below (is_child t n) c))
          ∙ ap (λ xs. at ++ c ∷ xs) (sym (downward_is (is_child t n) c))
          ∙ sym (ap (λ p. at ++ downward (is_child t n) p) some)
          ∙ w.all;
      child = λ d f. (let z = w.child c some in let y = last_passes (is_child t n) c d (sym next_is ∙ f) in (omega (arith, z.0, y.0), y.1));
    }

    pub push_smaller : size next < size o
    push_smaller =
        by (last_below (is_child t n) c) refl where
          by : (p : Option ℕ) → last_below (is_child t n) c ≡ p → size next < size o
          by None f = omega (arith, ap size some, ap size (next_is ∙ f))
          by (Some d) f = let y = last_passes (is_child t n) c d f in omega (arith, ap size some, ap size (next_is ∙ f), y.0)
