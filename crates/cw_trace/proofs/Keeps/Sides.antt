-- The strands of a fork, left and right, and their columns.
use Rattle.std.proofs.Common.{◌≡◌, ◌≢◌, ℕ, zero, suc, ◌+◌, ◌<◌, ◌≤◌, List, [], ◌∷◌, length, refl, ap, sym, ◌∙◌, arith, Bool, true, false, cond, Some, nat_eq, nat_lt, inl, inr, subst, eq-eqb, eqb-true}
use Rattle.std.specs.Prelude.{◌⊎◌, ◌%◌, ◌&&◌, ◌||◌, if◌then◌else◌}
use Rattle.std.specs.List.{list_any, find}
use Rattle.std.proofs.lemmas.Bool.{lt-ltb, ltb-true, ltb-false, and_parts, and_from, or_right, cases_Bool, cases_eq}
use Rattle.cw_tree.specs.declared.node.Node.{Node}
use Rattle.cw_tree.specs.Nodes.{parent_of, is_fork, is_strand, below, all_nodes}
use Rattle.cw_tree.specs.Walks.{is_ancestor, has}
use Rattle.cw_tree.specs.Names.{is_right}
use Rattle.cw_tree.specs.Series.{children}
use Rattle.cw_tree.specs.Shape.{IsTree}
use Rattle.cw_tree.proofs.Walks.Strands.{strand_of_root}
use Rattle.cw_tree.proofs.Walks.Climbs.{by_parent}
use Rattle.cw_tree.proofs.Walks.Ancestors.{ancestor_up, ancestor_self, ancestor_root}
use Rattle.cw_tree.proofs.Walks.Upward.{ancestor_cases}
use Rattle.cw_tree.proofs.Walks.There.{fork_there}
use Rattle.cw_trace.specs.Stands.{column, column_in, fork_column}
use Rattle.cw_trace.proofs.Stands.Counting.{fork_column_one, some_below}
use Rattle.cw_trace.proofs.Keeps.Owners.{column_strand, column_other}
use Rattle.cw_trace.proofs.Segments.Lines.{order}
use Rattle.cw_trace.proofs.Marks.Marking.{has_filter, has_append}
use Rattle.cw_trace.proofs.Keeps.Meaning.{odd_column}

has_below : (n b : ℕ) → b < n → has (below n) b ≡ true
has_below zero b h = absurd (omega arith)
has_below (suc n) b h = has_append (below n) (n ∷ []) b ∙ by_last (cases_eq b n) (λ l. has_below n b l) where
  by_last : (b ≡ n) ⊎ (b ≢ n) → (b < n → has (below n) b ≡ true) → (has (below n) b || has (n ∷ []) b) ≡ true
  by_last (inl e) more = or_right (has (below n) b) (has (n ∷ []) b) (ap (λ q. q || false) (eq-eqb n b (sym e)))
  by_last (inr e) more = ap (λ q. q || has (n ∷ []) b) (more (omega (arith, e)))

any_found : (p : ℕ → Bool) (xs : List ℕ) → list_any p xs ≡ true → (b : ℕ) × (find p xs ≡ Some b)
any_found p [] e = absurd (cc e)
any_found p (x ∷ xs) e = by_test (p x) refl e (λ f. any_found p xs f) where
  by_test : (q : Bool) → p x ≡ q → (q || list_any p xs) ≡ true → (list_any p xs ≡ true → (b : ℕ) × (find p xs ≡ Some b)) → (b : ℕ) × (cond (p x) (Some x) (find p xs) ≡ Some b)
  by_test true q f more = (x, ap (λ z. cond z (Some x) (find p xs)) q)
  by_test false q f more = let z = more f in (z.0, ap (λ y. cond y (Some x) (find p xs)) q ∙ z.1)

-- a tree's walks
module _ (t : List Node) (tr : IsTree t) where
  -- the child through which a node beneath is reached
  pub child_to : (q x : ℕ) → x < length t → is_ancestor t q x ≡ true → q ≢ x → (m : ℕ) × (0 < m) × (m < length t) × (parent_of t m ≡ q) × (is_ancestor t m x ≡ true)
  child_to q x hx =
      by_parent t tr.rooted (λ x. is_ancestor t q x ≡ true → q ≢ x → (m : ℕ) × (0 < m) × (m < length t) × (parent_of t m ≡ q) × (is_ancestor t m x ≡ true))
      (λ e n. absurd (n (ancestor_root t q e)))
      (λ m p h more e n. elim (cases_eq (parent_of t m) q) [
        | inl z ↦ (m, p, h, z, ancestor_self t m)
        | inr z ↦ elim (ancestor_cases t tr.rooted q m p h e) [
          | inl y ↦ absurd (n (sym y))
          | inr y ↦ (let w = more y (λ v. z (sym v)) in (w.0, w.1, w.2, w.3, ancestor_up t tr.rooted w.0 m p h w.4))
        ]
      ])
      x hx

  pub above_all : (x : ℕ) → x < length t → is_ancestor t 0 x ≡ true
  above_all = by_parent t tr.rooted (λ x. is_ancestor t 0 x ≡ true) refl (λ m p h more. ancestor_up t tr.rooted 0 m p h more)

  -- a fork has no third child
  pub no_third : (f a b d : ℕ) → is_fork t f ≡ true → 0 < a → a < b → b < d → d < length t → parent_of t a ≡ f → parent_of t b ≡ f → parent_of t d ≡ f → ⊥
  no_third f a b d e p l k h pa pb pd =
      let w = tr.forks f (fork_there t f e) e in
      by_members w.0 w.1 w.2 (member a w.0 w.1 w.2 p (omega arith) pa) (member b w.0 w.1 w.2 (omega arith) (omega arith) pb) (member d w.0 w.1 w.2 (omega arith) h pd) where
        member : (m x y : ℕ) → children t f ≡ x ∷ y ∷ [] → 0 < m → m < length t → parent_of t m ≡ f → (x ≡ m) ⊎ (y ≡ m)
        member m x y q p h e =
            let test : (nat_lt 0 m && nat_eq (parent_of t m) f) ≡ true = and_from (nat_lt 0 m) (nat_eq (parent_of t m) f) (lt-ltb _ _ p) (eq-eqb _ _ e) in
            let inside : has (x ∷ y ∷ []) m ≡ true = ap (λ xs. has xs m) (sym q) ∙ has_filter (λ m. nat_lt 0 m && nat_eq (parent_of t m) f) (all_nodes t) m test ∙ has_below (length t) m h in
            elim (Rattle.std.proofs.lemmas.Bool.or_cases (nat_eq x m) (has (y ∷ []) m) inside) [
              | inl z ↦ inl (eqb-true _ _ z)
              | inr z ↦ elim (Rattle.std.proofs.lemmas.Bool.or_cases (nat_eq y m) false z) [ inl v ↦ inr (eqb-true _ _ v) | inr v ↦ absurd (cc v) ]
            ]

        by_members : (x y : ℕ) → children t f ≡ x ∷ y ∷ [] → (x ≡ a) ⊎ (y ≡ a) → (x ≡ b) ⊎ (y ≡ b) → (x ≡ d) ⊎ (y ≡ d) → ⊥
        by_members x y q (inl u) (inl v) w = omega (arith, u, v)
        by_members x y q (inr u) (inr v) w = omega (arith, u, v)
        by_members x y q (inl u) (inr v) (inl w) = omega (arith, u, w)
        by_members x y q (inl u) (inr v) (inr w) = omega (arith, v, w)
        by_members x y q (inr u) (inl v) (inl w) = omega (arith, v, w)
        by_members x y q (inr u) (inl v) (inr w) = omega (arith, u, w)

  -- the later of two strands of a fork is the right one
  pub right_of : (a b : ℕ) → 0 < a → a < b → is_strand t a ≡ true → parent_of t a ≡ parent_of t b → is_right t b ≡ true
  right_of a b p l sa e = found b (has_below b a l) where
    found : (n : ℕ) → has (below n) a ≡ true → list_any (λ m. nat_lt 0 m && is_strand t m && nat_eq (parent_of t m) (parent_of t b)) (below n) ≡ true
    found n h = by_list (below n) h where
      by_list : (xs : List ℕ) → has xs a ≡ true → list_any (λ m. nat_lt 0 m && is_strand t m && nat_eq (parent_of t m) (parent_of t b)) xs ≡ true
      by_list [] h = absurd (cc h)
      by_list (x ∷ xs) h = elim (Rattle.std.proofs.lemmas.Bool.or_cases (nat_eq x a) (has xs a) h) [
        | inl z ↦ (
            let q : x ≡ a = eqb-true _ _ z in
            Rattle.std.proofs.lemmas.Bool.or_left (nat_lt 0 x && is_strand t x && nat_eq (parent_of t x) (parent_of t b)) _ (and_from (nat_lt 0 x && is_strand t x) (nat_eq (parent_of t x) (parent_of t b)) (and_from (nat_lt 0 x) (is_strand t x) (lt-ltb _ _ (omega (arith, q))) (ap (is_strand t) q ∙ sa)) (eq-eqb _ _ (ap (parent_of t) q ∙ e))))
        | inr z ↦ or_right (nat_lt 0 x && is_strand t x && nat_eq (parent_of t x) (parent_of t b)) _ (by_list xs z)
      ]

  -- the column of a fork's strand
  pub strand_in : (n f : ℕ) → 0 < n → n < length t → parent_of t n ≡ f → is_fork t f ≡ true → is_strand t n ≡ true
  strand_in n f p h e ff =
      let w = tr.forks f (fork_there t f ff) ff in
      let test : (nat_lt 0 n && nat_eq (parent_of t n) f) ≡ true = and_from (nat_lt 0 n) (nat_eq (parent_of t n) f) (lt-ltb _ _ p) (eq-eqb _ _ e) in
      let inside : has (w.0 ∷ w.1 ∷ []) n ≡ true = ap (λ xs. has xs n) (sym w.2) ∙ has_filter (λ m. nat_lt 0 m && nat_eq (parent_of t m) f) (all_nodes t) n test ∙ has_below (length t) n h in
      let both = and_parts (is_strand t w.0) (is_strand t w.1) w.3 in
      elim (Rattle.std.proofs.lemmas.Bool.or_cases (nat_eq w.0 n) (has (w.1 ∷ []) n) inside) [
        | inl z ↦ ap (is_strand t) (sym (eqb-true _ _ z)) ∙ both.0
        | inr z ↦ elim (Rattle.std.proofs.lemmas.Bool.or_cases (nat_eq w.1 n) false z) [ inl v ↦ ap (is_strand t) (sym (eqb-true _ _ v)) ∙ both.1 | inr v ↦ absurd (cc v) ]
      ]

  -- the earlier of two strands of a fork is no right one
  pub is_left : (a b f : ℕ) → is_fork t f ≡ true → a < b → b < length t → parent_of t a ≡ f → parent_of t b ≡ f → is_right t a ≡ true → ⊥
  is_left a b f e l h pa pb r =
      let z = any_found (λ m. nat_lt 0 m && is_strand t m && nat_eq (parent_of t m) (parent_of t a)) (below a) r in
      let w = some_below (λ m. nat_lt 0 m && is_strand t m && nat_eq (parent_of t m) (parent_of t a)) a z.0 z.1 in
      let y = and_parts (nat_lt 0 z.0 && is_strand t z.0) (nat_eq (parent_of t z.0) (parent_of t a)) w.passed in
      no_third f z.0 a b e (ltb-true _ _ (and_parts (nat_lt 0 z.0) (is_strand t z.0) y.0).0) w.low l h (eqb-true _ _ y.1 ∙ pa) pa pb

  module _ (size : ℕ) where
    pub data Side (n f : ℕ) : Type 0 where
      bare : size < fork_column t f + 2 → column t size n ≡ column t size f → Side n f
      left : fork_column t f + 1 < size → is_right t n ≡ false → column t size n ≡ fork_column t f → Side n f
      right : fork_column t f + 1 < size → is_right t n ≡ true → column t size n ≡ fork_column t f + 1 → Side n f

    pub side : (n f : ℕ) → 0 < n → n < length t → parent_of t n ≡ f → is_strand t n ≡ true → Side n f
    side n f p h e s = let P : ℕ → Type 0 = λ f. Side n f in subst P e (by_tests (nat_lt (fork_column t (parent_of t n) + 1) (size)) (is_right t n) refl refl (column_strand t tr size n p h s)) where
      by_tests : (a b : Bool) → nat_lt (fork_column t (parent_of t n) + 1) (size) ≡ a → is_right t n ≡ b → column t size n ≡ (if a then (if b then fork_column t (parent_of t n) + 1 else fork_column t (parent_of t n)) else column t size (parent_of t n)) → Side n (parent_of t n)
      by_tests true true a b q = right (ltb-true _ _ a) b q
      by_tests true false a b q = left (ltb-true _ _ a) b q
      by_tests false b a r q = bare (let z : size ≤ fork_column t (parent_of t n) + 1 = ltb-false _ _ a in omega arith) q

    column_root : column t size 0 ≡ 0
    column_root = ap (λ s. column_in t size s s) (strand_of_root t)

    no_parity : (a b : ℕ) → a % 2 ≡ 1 → b % 2 ≡ 1 → a ≢ b + 1
    no_parity a b p q e = by_eq a b p q e where
      by_eq : (a b : ℕ) → a % 2 ≡ 1 → b % 2 ≡ 1 → a ≡ b + 1 → ⊥
      by_eq a b p q e = omega arith

    -- what has the column of a fork's right strand stands in it
    pub in_right : (f r : ℕ) → is_fork t f ≡ true → 0 < r → r < length t → parent_of t r ≡ f → is_right t r ≡ true → (x : ℕ) → x < length t → column t size x ≡ fork_column t f + 1 → is_ancestor t r x ≡ true
    in_right f r ff pr hr er rr =
        by_parent t tr.rooted (λ x. column t size x ≡ fork_column t f + 1 → is_ancestor t r x ≡ true) (λ e. absurd (omega (arith, column_root)))
        (λ x p h more e. elim (cases_Bool (is_strand t x)) [
          | inr ns ↦ ancestor_up t tr.rooted r x p h (more (sym (column_other t tr size x p h ns) ∙ e))
          | inl st ↦ elim (side x (parent_of t x) p h refl st) [
            | bare u q ↦ ancestor_up t tr.rooted r x p h (more (sym q ∙ e))
            | left u n q ↦ absurd (no_parity (fork_column t (parent_of t x)) (fork_column t f) (odd_column t (parent_of t x)) (odd_column t f) (sym q ∙ e))
            | right u y q ↦
                (let same : parent_of t x ≡ f = fork_column_one t (parent_of t x) f (tr.strands x h p st) ff (omega (arith, q, e)) in
                elim (order x r) [
                  | inl l ↦ absurd (is_left x r f ff l hr same er y)
                  | inr z ↦ elim z [ inl w ↦ ap (is_ancestor t r) w ∙ ancestor_self t r | inr l ↦ absurd (is_left r x f ff l h er same rr) ]
                ])
          ]
        ])

    -- a strand of a fork, the right one or the left one, in which a node stands
    pub record InFork (f x : ℕ) (b : Bool) : Type 0 where
      pub strand : ℕ
      pub some : 0 < strand
      pub low : strand < length t
      pub child : parent_of t strand ≡ f
      pub side : is_right t strand ≡ b
      pub over : is_ancestor t strand x ≡ true

    abbrev pub side_column : ℕ → Bool → ℕ
    side_column f b = if b then fork_column t f + 1 else fork_column t f

    -- what has the column of one of a fork's strands stands in that strand
    pub on_side : (b : Bool) (f : ℕ) → is_fork t f ≡ true → (x : ℕ) → x < length t → column t size x ≡ side_column f b → InFork f x b
    on_side b f ff =
        by_parent t tr.rooted (λ x. column t size x ≡ side_column f b → InFork f x b) (λ e. absurd (no_zero b (sym column_root ∙ e)))
        (λ x p h more e. elim (cases_Bool (is_strand t x)) [
          | inr ns ↦ up x p h (more (sym (column_other t tr size x p h ns) ∙ e))
          | inl st ↦ elim (side x (parent_of t x) p h refl st) [
            | bare u q ↦ up x p h (more (sym q ∙ e))
            | left u n q ↦ on_left b x p h st n (sym q ∙ e)
            | right u n q ↦ on_right b x p h st n (sym q ∙ e)
          ]
        ]) where
          no_zero : (b : Bool) → 0 ≡ side_column f b → ⊥
          no_zero true e = omega (arith, e)
          no_zero false e = omega (arith, e, odd_column t f)

          up : (x : ℕ) → 0 < x → x < length t → InFork f (parent_of t x) b → InFork f x b
          up x p h w = record { strand = w.strand; some = w.some; low = w.low; child = w.child; side = w.side; over = ancestor_up t tr.rooted w.strand x p h w.over }

          here : (b : Bool) (x : ℕ) → 0 < x → x < length t → is_strand t x ≡ true → is_right t x ≡ b → fork_column t (parent_of t x) ≡ fork_column t f → InFork f x b
          here b x p h st r e = record { strand = x; some = p; low = h; child = fork_column_one t (parent_of t x) f (tr.strands x h p st) ff e; side = r; over = ancestor_self t x }

          on_left : (b : Bool) (x : ℕ) → 0 < x → x < length t → is_strand t x ≡ true → is_right t x ≡ false → fork_column t (parent_of t x) ≡ side_column f b → InFork f x b
          on_left true x p h st r e = absurd (no_parity (fork_column t (parent_of t x)) (fork_column t f) (odd_column t (parent_of t x)) (odd_column t f) e)
          on_left false x p h st r e = here false x p h st r e

          on_right : (b : Bool) (x : ℕ) → 0 < x → x < length t → is_strand t x ≡ true → is_right t x ≡ true → fork_column t (parent_of t x) + 1 ≡ side_column f b → InFork f x b
          on_right true x p h st r e = here true x p h st r (omega (arith, e))
          on_right false x p h st r e = absurd (no_parity (fork_column t f) (fork_column t (parent_of t x)) (odd_column t f) (odd_column t (parent_of t x)) (sym e))
