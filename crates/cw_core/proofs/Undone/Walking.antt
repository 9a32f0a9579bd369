-- A walk by links comes to all that it does not leave out, and ends.
use Rattle.std.proofs.Common.{◌≡◌, ◌≢◌, ℕ, suc, ◌+◌, ◌*◌, ◌<◌, ◌≤◌, List, [], ◌∷◌, length, refl, ap, sym, ◌∙◌, subst, arith, Bool, true, false, cond, Option, Some, None, nat_eq, nat_lt, inl, inr}
use Rattle.std.specs.Prelude.{◌⊎◌, ◌&&◌, ◌||◌, filter}
use Rattle.std.specs.List.{list_any}
use Rattle.std.proofs.Math.Nat.{mul-le-mul_right, suc-mul}
use Rattle.cw_tree.proofs.Lists.{In, any_from, any_in}
use Rattle.cw_tree.proofs.Members.{in_below, below_in}
use Rattle.std.proofs.lemmas.Bool.{and_parts, and_from, cases_lt, cases_eq, cases_Bool, eq-eqb, eqb-true, ltb-true, lt-ltb, or_cases, or_left, or_right, false_from_ne_true}
use Rattle.cw_tree.specs.declared.node.Node.{Node}
use Rattle.cw_tree.specs.Nodes.{parent_of, is_aborted, all_nodes}
use Rattle.cw_tree.specs.Walks.{IsRooted, is_ancestor, is_above}
use Rattle.cw_tree.proofs.Walks.Ancestors.{ancestor_self, ancestor_above, above_ancestor, above_parent, ancestor_step, ancestor_up, ancestor_le, ancestor_trans}
use Rattle.cw_tree.proofs.Walks.Kin.{children_apart, branch}
use Rattle.cw_tree.proofs.NextNodes.Trees.{is_child}
use Rattle.cw_tree.specs.Accesses.{is_live}
use Rattle.cw_open.proofs.Laws.Named.{live_tells, live_from}
use Rattle.cw_tree.specs.Links.{last_child, child_before}
use Rattle.cw_tree.proofs.LastBelow.{last_is, none_is}
use Rattle.cw_core.specs.Links.{next_in_walk}

-- node x stands in an elder sibling of a node in which n stands
pub record IsLeft (t : List Node) (n x : ℕ) : Type 0 where
  pub own : ℕ
  pub other : ℕ
  pub some : 0 < other
  pub less : other < own
  pub same : parent_of t own ≡ parent_of t other
  pub over_own : is_ancestor t own n ≡ true
  pub over : is_ancestor t other x ≡ true

-- node x is still to come in a walk that is at n
abbrev pub ToCome : List Node → ℕ → Bool → ℕ → Type 0
ToCome t n true x = (is_ancestor t n x ≡ true) ⊎ IsLeft t n x
ToCome t n false x = IsLeft t n x

module _ (t : List Node) (r : IsRooted t) where
  child : (n c : ℕ) → is_child t n c ≡ true → (0 < c) × (parent_of t c ≡ n)
  child n c e = (let z = and_parts (nat_lt 0 c) (nat_eq (parent_of t c) n) e in (ltb-true 0 c z.0, eqb-true (parent_of t c) n z.1))

  is_a_child : (n c : ℕ) → 0 < c → parent_of t c ≡ n → is_child t n c ≡ true
  is_a_child n c some up = and_from (nat_lt 0 c) (nat_eq (parent_of t c) n) (lt-ltb 0 c some) (eq-eqb (parent_of t c) n up)

  -- what stands left of a node stands left of what is beneath it
  pub left_beneath : (n c x : ℕ) → c < length t → is_ancestor t n c ≡ true → IsLeft t n x → IsLeft t c x
  left_beneath n c x h over w = record { own = w.own; other = w.other; some = w.some; less = w.less; same = w.same; over_own = ancestor_trans t r w.own n c h w.over_own over; over = w.over }

  -- ## Down

  -- all that stands in a node but itself stands in its last child, or left of it
  down_last : (n c x : ℕ) → last_child t n ≡ Some c → x < length t → x ≢ n → is_ancestor t n x ≡ true → ToCome t c true x
  down_last n c x e h ne over =
      let w = last_is (is_child t n) (length t) c e in
      let z = child n c w.passes in
      let b = branch t r n x h ne over in
      let low : b.child ≤ x = ancestor_le t r b.child x h b.over in
      elim (cases_eq b.child c) [
        | inl q ↦ inl (let P : ℕ → Type 0 = λ d. is_ancestor t d x ≡ true in subst P q b.over)
        | inr other ↦
            (let not_more : c < b.child → ⊥ = λ l. (let no = w.none b.child l (omega arith) in let yes = is_a_child n b.child b.some b.parent in cc (no, yes)) in
            elim (cases_lt c b.child) [
              | inl more ↦ absurd (not_more more)
              | inr le ↦ inr (record { own = c; other = b.child; some = b.some; less = omega arith; same = z.1 ∙ sym b.parent; over_own = ancestor_self t c; over = b.over })
            ])
      ]

  -- nothing stands in a node that has no children but itself
  down_none : (n x : ℕ) → last_child t n ≡ None → x < length t → x ≢ n → is_ancestor t n x ≡ true → ⊥
  down_none n x e h ne over =
      let b = branch t r n x h ne over in
      let low : b.child ≤ x = ancestor_le t r b.child x h b.over in
      let no = none_is (is_child t n) (length t) b.child e (omega arith) in
      let yes = is_a_child n b.child b.some b.parent in
      cc (no, yes)

  -- ## Up

  up_elder : (n e x : ℕ) → n < length t → child_before t n ≡ Some e → IsLeft t n x → ToCome t e true x
  up_elder n e x h at w =
      let z = last_is (is_child t (parent_of t n)) n e at in
      let y = child (parent_of t n) e z.passes in
      let low = z.low in
      elim (cases_eq w.own n) [
        | inl q ↦
            (let up : parent_of t w.other ≡ parent_of t n = sym w.same ∙ ap (parent_of t) q in
            elim (cases_eq w.other e) [
              | inl g ↦ inl (let P : ℕ → Type 0 = λ d. is_ancestor t d x ≡ true in subst P g w.over)
              | inr ne ↦
                  elim (cases_lt e w.other) [
                    | inl more ↦ absurd (let no = z.none w.other more (let l = w.less in omega (arith, q)) in let yes = is_a_child (parent_of t n) w.other w.some up in cc (no, yes))
                    | inr le ↦ inr (record { own = e; other = w.other; some = w.some; less = omega arith; same = y.1 ∙ sym up; over_own = ancestor_self t e; over = w.over })
                  ]
            ])
        | inr ne ↦
            (let over : is_ancestor t w.own (parent_of t n) ≡ true = sym (ancestor_step t r w.own n (omega arith) h (λ g. ne (sym g))) ∙ w.over_own in
            let over_e : is_ancestor t w.own e ≡ true = ancestor_up t r w.own e y.0 (omega arith) (ap (is_ancestor t w.own) y.1 ∙ over) in
            inr (record { own = w.own; other = w.other; some = w.some; less = w.less; same = w.same; over_own = over_e; over = w.over }))
      ]

  up_none : (n x : ℕ) → 0 < n → n < length t → child_before t n ≡ None → IsLeft t n x → IsLeft t (parent_of t n) x
  up_none n x some h at w =
      elim (cases_eq w.own n) [
        | inl q ↦
            absurd (let up : parent_of t w.other ≡ parent_of t n = sym w.same ∙ ap (parent_of t) q in
            let no = none_is (is_child t (parent_of t n)) n w.other at (let l = w.less in omega (arith, q)) in
            let yes = is_a_child (parent_of t n) w.other w.some up in
            cc (no, yes))
        | inr ne ↦ record { own = w.own; other = w.other; some = w.some; less = w.less; same = w.same; over_own = sym (ancestor_step t r w.own n some h (λ g. ne (sym g))) ∙ w.over_own; over = w.over }
      ]

  -- nothing in a node is left of it
  pub not_left : (n x : ℕ) → x < length t → is_ancestor t n x ≡ true → IsLeft t n x → ⊥
  not_left n x h over w =
      let over_x = ancestor_trans t r w.own n x h w.over_own over in
      let less = w.less in
      let q = children_apart t r w.own w.other x h (omega arith) w.some w.same over_x w.over in
      omega (arith, q)

-- ## What is still to come, counted

abbrev left_own : List Node → ℕ → ℕ → ℕ → Bool
left_own t n x a = is_ancestor t a n && list_any (λ e. nat_lt 0 e && nat_lt e a && nat_eq (parent_of t a) (parent_of t e) && is_ancestor t e x) (all_nodes t)

abbrev is_left : List Node → ℕ → ℕ → Bool
is_left t n x = list_any (left_own t n x) (all_nodes t)

abbrev comes : List Node → ℕ → Bool → ℕ → Bool
comes t n true x = is_ancestor t n x || is_left t n x
comes t n false x = is_left t n x

-- at most how many steps of a walk are left
abbrev pub walk_left : List Node → ℕ → Bool → ℕ
walk_left t n down = length (filter (comes t n down) (all_nodes t)) * length t + n

left_from : (t : List Node) (n x : ℕ) → is_left t n x ≡ true → IsLeft t n x
left_from t n x e =
    let a = any_in (left_own t n x) (all_nodes t) e in
    let b = and_parts (is_ancestor t a.0 n) (list_any (λ e. nat_lt 0 e && nat_lt e a.0 && nat_eq (parent_of t a.0) (parent_of t e) && is_ancestor t e x) (all_nodes t)) a.2 in
    let c = any_in (λ e. nat_lt 0 e && nat_lt e a.0 && nat_eq (parent_of t a.0) (parent_of t e) && is_ancestor t e x) (all_nodes t) b.1 in
    let d = and_parts (nat_lt 0 c.0 && nat_lt c.0 a.0 && nat_eq (parent_of t a.0) (parent_of t c.0)) (is_ancestor t c.0 x) c.2 in
    let f = and_parts (nat_lt 0 c.0 && nat_lt c.0 a.0) (nat_eq (parent_of t a.0) (parent_of t c.0)) d.0 in
    let g = and_parts (nat_lt 0 c.0) (nat_lt c.0 a.0) f.0 in
    record { own = a.0; other = c.0; some = ltb-true 0 c.0 g.0; less = ltb-true c.0 a.0 g.1; same = eqb-true (parent_of t a.0) (parent_of t c.0) f.1; over_own = b.0; over = d.1 }

left_to : (t : List Node) → IsRooted t → (n x : ℕ) → n < length t → IsLeft t n x → is_left t n x ≡ true
left_to t r n x h w =
    let low : w.own ≤ n = ancestor_le t r w.own n h w.over_own in
    let less = w.less in
    let test : ℕ → Bool = λ e. nat_lt 0 e && nat_lt e w.own && nat_eq (parent_of t w.own) (parent_of t e) && is_ancestor t e x in
    let here : test w.other ≡ true = and_from (nat_lt 0 w.other && nat_lt w.other w.own && nat_eq (parent_of t w.own) (parent_of t w.other)) (is_ancestor t w.other x)
    (and_from (nat_lt 0 w.other && nat_lt w.other w.own) (nat_eq (parent_of t w.own) (parent_of t w.other))
    (and_from (nat_lt 0 w.other) (nat_lt w.other w.own) (lt-ltb 0 w.other w.some) (lt-ltb w.other w.own w.less)) (eq-eqb (parent_of t w.own) (parent_of t w.other) w.same)) w.over in
    let one = any_from test w.other (all_nodes t) (below_in w.other (length t) (omega arith)) here in
    any_from (left_own t n x) w.own (all_nodes t) (below_in w.own (length t) (omega arith)) (and_from (is_ancestor t w.own n) (list_any test (all_nodes t)) w.over_own one)

comes_from : (t : List Node) (n : ℕ) (d : Bool) (x : ℕ) → comes t n d x ≡ true → ToCome t n d x
comes_from t n true x e = elim (or_cases (is_ancestor t n x) (is_left t n x) e) [ inl a ↦ inl a | inr b ↦ inr (left_from t n x b) ]
comes_from t n false x e = left_from t n x e

comes_to : (t : List Node) → IsRooted t → (n : ℕ) (d : Bool) (x : ℕ) → n < length t → ToCome t n d x → comes t n d x ≡ true
comes_to t r n true x h (inl a) = or_left (is_ancestor t n x) (is_left t n x) a
comes_to t r n true x h (inr b) = or_right (is_ancestor t n x) (is_left t n x) (left_to t r n x h b)
comes_to t r n false x h w = left_to t r n x h w

one_le : (p q : ℕ → Bool) (x : ℕ) (a b : Bool) (n m : ℕ) → (a ≡ true → b ≡ true) → n ≤ m → cond a (suc n) n ≤ cond b (suc m) m
one_le p q x true true n m h le = omega arith
one_le p q x true false n m h le = absurd (let e = h refl in cc e)
one_le p q x false true n m h le = omega arith
one_le p q x false false n m h le = le

len_cond : (b : Bool) (x : ℕ) (ys : List ℕ) → length (cond b (x ∷ ys) ys) ≡ cond b (suc (length ys)) (length ys)
len_cond true x ys = refl
len_cond false x ys = refl

filter_le : (p q : ℕ → Bool) (xs : List ℕ) → ((v : ℕ) → In v xs → p v ≡ true → q v ≡ true) → length (filter p xs) ≤ length (filter q xs)
filter_le p q [] h = omega arith
filter_le p q (x ∷ xs) h =
    let le = one_le p q x (p x) (q x) (length (filter p xs)) (length (filter q xs)) (h x (inl refl)) (filter_le p q xs (λ v i. h v (inr i))) in
    let a = len_cond (p x) x (filter p xs) in
    let b = len_cond (q x) x (filter q xs) in
    omega (arith, le, a, b)

less_lift : (y z : Bool) (a b n m : ℕ) → (y ≡ true → z ≡ true) → n < m → a ≡ cond y (suc n) n → b ≡ cond z (suc m) m → a < b
less_lift true true a b n m h less e f = omega arith
less_lift true false a b n m h less e f = absurd (let g = h refl in cc g)
less_lift false true a b n m h less e f = omega arith
less_lift false false a b n m h less e f = omega arith

filter_less : (p q : ℕ → Bool) (xs : List ℕ) → ((v : ℕ) → In v xs → p v ≡ true → q v ≡ true) → (v : ℕ) → In v xs → p v ≡ false → q v ≡ true → length (filter p xs) < length (filter q xs)
filter_less p q [] h v i off on = absurd i
filter_less p q (x ∷ xs) h v (inl e) off on =
    let le = filter_le p q xs (λ v i. h v (inr i)) in
    let a = len_cond (p x) x (filter p xs) ∙ ap (λ b. cond b (suc (length (filter p xs))) (length (filter p xs))) (ap p (sym e) ∙ off) in
    let b = len_cond (q x) x (filter q xs) ∙ ap (λ b. cond b (suc (length (filter q xs))) (length (filter q xs))) (ap q (sym e) ∙ on) in
    omega (arith, le, a, b)
filter_less p q (x ∷ xs) h v (inr i) off on =
    less_lift (p x) (q x) (length (filter p (x ∷ xs))) (length (filter q (x ∷ xs))) (length (filter p xs)) (length (filter q xs)) (h x (inl refl)) (filter_less p q xs (λ v i. h v (inr i)) v i off on) (len_cond (p x) x (filter p xs)) (len_cond (q x) x (filter q xs))

by_count : (a b k x y : ℕ) → a < b → x < k → a * k + x < b * k + y
by_count a b k x y less low =
    let more : suc a * k ≤ b * k = mul-le-mul_right k (let l : suc a ≤ b = omega arith in l) in
    let one : suc a * k ≡ a * k + k = suc-mul a k in
    omega (arith, more, one)

by_number : (a b k x y : ℕ) → a ≤ b → x < y → a * k + x < b * k + y
by_number a b k x y le less = let more : a * k ≤ b * k = mul-le-mul_right k le in omega (arith, more)

-- ## A step of a walk beneath a block

module _ (t : List Node) (r : IsRooted t) (b : ℕ) where
  pub record IsStep (n : ℕ) (d : Bool) (m : ℕ) (e : Bool) : Type 0 where
    pub there : m < length t
    pub within : is_ancestor t b m ≡ true
    pub lives : is_live t n ≡ true → is_live t m ≡ true
    pub smaller : walk_left t m e < walk_left t n d
    -- what was to come still is, except the node itself and, if that is aborted, whatever is beneath it
    pub comes : (x : ℕ) → x < length t → (d ≡ true → x ≢ n) → (is_aborted t n ≡ true → is_above t n x ≡ false) → ToCome t n d x → ToCome t m e x

  -- fewer nodes are to come
  fewer : (n : ℕ) (d : Bool) (m : ℕ) (e : Bool) → n < length t → m < length t → ((x : ℕ) → x < length t → ToCome t m e x → ToCome t n d x) → (ToCome t m e n → ⊥) → ToCome t n d n → walk_left t m e < walk_left t n d
  fewer n d m e h g sub off on =
      let less = filter_less (comes t m e) (comes t n d) (all_nodes t) (λ v i c. comes_to t r n d v h (sub v (in_below v (length t) i) (comes_from t m e v c))) n (below_in n (length t) h) (false_from_ne_true (comes t m e n) (λ c. absurd (off (comes_from t m e n c)))) (comes_to t r n d n h on) in
      by_count (length (filter (comes t m e) (all_nodes t))) (length (filter (comes t n d) (all_nodes t))) (length t) m n less g

  -- no more are, and the node has a smaller number
  lower : (n : ℕ) (d : Bool) (m : ℕ) (e : Bool) → n < length t → m < n → ((x : ℕ) → x < length t → ToCome t m e x → ToCome t n d x) → walk_left t m e < walk_left t n d
  lower n d m e h low sub =
      let le = filter_le (comes t m e) (comes t n d) (all_nodes t) (λ v i c. comes_to t r n d v h (sub v (in_below v (length t) i) (comes_from t m e v c))) in
      by_number (length (filter (comes t m e) (all_nodes t))) (length (filter (comes t n d) (all_nodes t))) (length t) m n le low

  -- a walk is done with what stands in a node
  stays : (n : ℕ) → n < length t → is_ancestor t b n ≡ true → ((x : ℕ) → x < length t → x ≢ n → (is_aborted t n ≡ true → is_above t n x ≡ false) → is_ancestor t n x ≡ true → ⊥) → IsStep n true n false
  stays n h within none = record {
    there = h;
    within = within;
    lives = λ e. e;
    smaller = fewer n true n false h h (λ x g w. inr w) (λ w. not_left t r n n h (ancestor_self t n) w) (inl (ancestor_self t n));
    comes = λ x g ne off w. elim w [ inl over ↦ absurd (none x g (ne refl) off over) | inr left ↦ left ];
  }

  -- what is to come at a child was to come at its parent
  child_back : (n c x : ℕ) → c < length t → 0 < c → parent_of t c ≡ n → x < length t → IsLeft t c x → ToCome t n true x
  child_back n c x h some up g w =
      elim (cases_eq w.own c) [
        | inl q ↦
            (let le : w.other ≤ x = ancestor_le t r w.other x g w.over in
            let over : parent_of t w.other ≡ n = sym w.same ∙ ap (parent_of t) q ∙ up in
            let at : is_ancestor t n w.other ≡ true = ancestor_up t r n w.other w.some (omega arith) (ap (is_ancestor t n) over ∙ ancestor_self t n) in
            inl (ancestor_trans t r n w.other x g at w.over))
        | inr ne ↦
            (let over : is_ancestor t w.own n ≡ true = ap (is_ancestor t w.own) (sym up) ∙ sym (ancestor_step t r w.own c some h (λ g. ne (sym g))) ∙ w.over_own in
            inr (record { own = w.own; other = w.other; some = w.some; less = w.less; same = w.same; over_own = over; over = w.over }))
      ]

  -- a node does not come again
  not_again : (n c : ℕ) → n < length t → c < length t → 0 < c → parent_of t c ≡ n → n < c → ToCome t c true n → ⊥
  not_again n c h g some up low (inl over) = let le : c ≤ n = ancestor_le t r c n h over in omega arith
  not_again n c h g some up low (inr w) =
      elim (cases_eq w.own c) [
        | inl q ↦
            (let le : w.other ≤ n = ancestor_le t r w.other n h w.over in
            let over : parent_of t w.other ≡ n = sym w.same ∙ ap (parent_of t) q ∙ up in
            let less : parent_of t w.other < w.other = r w.other w.some (omega arith) in
            omega arith)
        | inr ne ↦
            (let over : is_ancestor t w.own n ≡ true = ap (is_ancestor t w.own) (sym up) ∙ sym (ancestor_step t r w.own c some g (λ f. ne (sym f))) ∙ w.over_own in
            not_left t r n n h (ancestor_self t n) (record { own = w.own; other = w.other; some = w.some; less = w.less; same = w.same; over_own = over; over = w.over }))
      ]

  goes_down : (n c : ℕ) → n < length t → is_ancestor t b n ≡ true → is_aborted t n ≡ false → last_child t n ≡ Some c → IsStep n true c true
  goes_down n c h within off e =
      let w = last_is (is_child t n) (length t) c e in
      let z = child t r n c w.passes in
      let low : parent_of t c < c = r c z.0 w.low in
      let here : is_ancestor t n c ≡ true = ancestor_up t r n c z.0 w.low (ap (is_ancestor t n) z.1 ∙ ancestor_self t n) in
      record {
        there = w.low;
        within = ancestor_trans t r b n c w.low within here;
        lives = λ e. live_from t c (λ a up. elim (cases_eq a n) [
          | inl q ↦ ap (is_aborted t) q ∙ off
          | inr ne ↦ live_tells t n a e (sym (ancestor_above t a n (λ g. ne (sym g))) ∙ ap (is_ancestor t a) (sym z.1) ∙ sym (above_parent t r a c z.0 w.low) ∙ up)
        ]);
        smaller = fewer n true c true h w.low (λ x g v. elim v [ inl over ↦ inl (ancestor_trans t r n c x g here over) | inr left ↦ child_back n c x w.low z.0 z.1 g left ]) (not_again n c h w.low z.0 z.1 (omega (arith, z.1))) (inl (ancestor_self t n));
        comes = λ x g ne out v. elim v [ inl over ↦ down_last t r n c x e g (ne refl) over | inr left ↦ inr (left_beneath t r n c x w.low here left) ];
      }

  -- what is to come at an elder sibling was to come
  elder_back : (n e x : ℕ) → n < length t → e < n → 0 < e → parent_of t e ≡ parent_of t n → ToCome t e true x → IsLeft t n x
  elder_back n e x h low some up (inl over) = record { own = n; other = e; some = some; less = low; same = sym up; over_own = ancestor_self t n; over = over }
  elder_back n e x h low some up (inr w) =
      elim (cases_eq w.own e) [
        | inl q ↦ record { own = n; other = w.other; some = w.some; less = (let l = w.less in omega arith); same = sym up ∙ ap (parent_of t) (sym q) ∙ w.same; over_own = ancestor_self t n; over = w.over }
        | inr ne ↦
            (let over : is_ancestor t w.own (parent_of t n) ≡ true = ap (is_ancestor t w.own) (sym up) ∙ sym (ancestor_step t r w.own e some (omega arith) (λ f. ne (sym f))) ∙ w.over_own in
            record { own = w.own; other = w.other; some = w.some; less = w.less; same = w.same; over_own = ancestor_up t r w.own n (omega arith) h over; over = w.over })
      ]

  goes_past : (n e : ℕ) → n < length t → is_ancestor t b n ≡ true → n ≢ b → child_before t n ≡ Some e → IsStep n false e true
  goes_past n e h within ne at =
      let w = last_is (is_child t (parent_of t n)) n e at in
      let low = w.low in
      let z = child t r (parent_of t n) e w.passes in
      let up : is_ancestor t b (parent_of t n) ≡ true = sym (ancestor_step t r b n (omega arith) h ne) ∙ within in
      record {
        there = omega arith;
        within = ancestor_up t r b e z.0 (omega arith) (ap (is_ancestor t b) z.1 ∙ up);
        lives = λ l. live_from t e (λ a over. live_tells t n a l (above_parent t r a n (omega arith) h ∙ ap (is_ancestor t a) (sym z.1) ∙ sym (above_parent t r a e z.0 (omega arith)) ∙ over));
        smaller = lower n false e true h low (λ x g v. elder_back n e x h low z.0 z.1 v);
        comes = λ x g ne off v. up_elder t r n e x h at v;
      }

  goes_up : (n : ℕ) → n < length t → is_ancestor t b n ≡ true → n ≢ b → child_before t n ≡ None → IsStep n false (parent_of t n) false
  goes_up n h within ne at =
      let le : b ≤ n = ancestor_le t r b n h within in
      let some : 0 < n = omega arith in
      let low : parent_of t n < n = r n some h in
      let here : is_ancestor t (parent_of t n) n ≡ true = ancestor_up t r (parent_of t n) n some h (ancestor_self t (parent_of t n)) in
      record {
        there = omega arith;
        within = sym (ancestor_step t r b n some h ne) ∙ within;
        lives = λ l. live_from t (parent_of t n) (λ a over. live_tells t n a l (above_parent t r a n some h ∙ above_ancestor t a (parent_of t n) over));
        smaller = lower n false (parent_of t n) false h low (λ x g v. left_beneath t r (parent_of t n) n x h here v);
        comes = λ x g ne off v. up_none t r n x some h at v;
      }

  abbrev Steps : ℕ → Bool → ℕ × Bool → Type 0
  Steps n d z = IsStep n d z.0 z.1

  pub step_of : (n : ℕ) (d : Bool) → n < length t → is_ancestor t b n ≡ true → (d ≡ false → n ≢ b) → Steps n d (next_in_walk t n d)
  step_of n true h within ne =
      elim (cases_Bool (is_aborted t n)) [
        | inl e ↦ subst (Steps n true) (sym (left_out e)) (stays n h within (λ x g other off over. absurd (let a = off e in let c = ancestor_above t n x other in cc (a, c, over))))
        | inr e ↦ by (last_child t n) refl e
      ] where
        left_out : is_aborted t n ≡ true → next_in_walk t n true ≡ (n, false)
        left_out e = rw e refl

        none : is_aborted t n ≡ false → last_child t n ≡ None → next_in_walk t n true ≡ (n, false)
        none e f = rw e (rw f refl)

        some : (c : ℕ) → is_aborted t n ≡ false → last_child t n ≡ Some c → next_in_walk t n true ≡ (c, true)
        some c e f = rw e (rw f refl)

        by : (o : Option ℕ) → last_child t n ≡ o → is_aborted t n ≡ false → Steps n true (next_in_walk t n true)
        by None f e = subst (Steps n true) (sym (none e f)) (stays n h within (λ x g other off over. down_none t r n x f g other over))
        by (Some c) f e = subst (Steps n true) (sym (some c e f)) (goes_down n c h within e f)
  step_of n false h within ne = by (child_before t n) refl where
    none : child_before t n ≡ None → next_in_walk t n false ≡ (parent_of t n, false)
    none f = rw f refl

    some : (c : ℕ) → child_before t n ≡ Some c → next_in_walk t n false ≡ (c, true)
    some c f = rw f refl

    by : (o : Option ℕ) → child_before t n ≡ o → Steps n false (next_in_walk t n false)
    by None f = subst (Steps n false) (sym (none f)) (goes_up n h within (ne refl) f)
    by (Some c) f = subst (Steps n false) (sym (some c f)) (goes_past n c h within (ne refl) f)
