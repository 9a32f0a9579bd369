-- The number of an attempt, by the one before it.
use Rattle.std.proofs.Common.{◌≡◌, ℕ, zero, suc, ◌+◌, ◌<◌, ◌≤◌, List, [], ◌∷◌, ◌++◌, length, refl, ap, sym, ◌∙◌, arith, Bool, true, false, cond, nat_eq, nat_lt, Option, Some, None, inl, inr, length-append, replicate, get_or, set}
use Rattle.std.specs.Prelude.{◌&&◌, slice_get, is_some, ◌⊎◌}
use Rattle.std.specs.Option.{option_eq}
use Rattle.std.specs.List.{filter, suffix_len, prefix_len}
use Rattle.std.proofs.lemmas.Bool.{and_parts, eqb-true, ltb-true, lt-ltb, false_from_ne_true, cases_eq, and_from, and_right, eq-eqb, ne_eqb}
use Rattle.std.proofs.lemmas.Option.{slice_get_cases}
use Rattle.std.proofs.lemmas.List.{reverse-append, get_or-set_same, get_or-set_other, get_or-replicate, length-set, length-replicate}
use Rattle.std.proofs.lemmas.List.Sums.{suffix_len-le-length}
use Rattle.cw_tree.specs.declared.node.Node.{Node}
use Rattle.cw_tree.specs.declared.node.Kind.{Kind}
use Rattle.cw_tree.specs.declared.node.Kind.TheVariants.{Strand, Fork, Block, Read, Write, Out, Tried, Cancel}
use Rattle.cw_tree.specs.Nodes.{passes, parent_of, is_aborted, is_tried, is_tried_kind, is_block_kind, last_below, all_nodes, below}
use Rattle.cw_tree.specs.Series.{children}
use Rattle.cw_tree.specs.Attempts.{elders, tried_cell, tried_cell_in, same_cell, block_attempt, access_attempt}
use Rattle.cw_tree.proofs.LastBelow.{last_is, none_is}
use Rattle.cw_tree.proofs.Members.{below_none, below_last, filter_same, in_below}
use Rattle.cw_tree.proofs.NodeKinds.{node_tells, aborted_block}
use Rattle.cw_tree.specs.Links.{is_child, child_before}
use Rattle.cw_audit.specs.Repeats.{attempt, repeats, AreAttempts}

-- ## Lists

filter_filter : (p q : ℕ → Bool) (xs : List ℕ) → filter q (filter p xs) ≡ filter (λ x. p x && q x) xs
filter_filter p q [] = refl
filter_filter p q (x ∷ xs) =
    by (p x) (filter_filter p q xs) where
      by : (b : Bool) → filter q (filter p xs) ≡ filter (λ y. p y && q y) xs → filter q (cond b (x ∷ filter p xs) (filter p xs)) ≡ cond (b && q x) (x ∷ filter (λ y. p y && q y) xs) (filter (λ y. p y && q y) xs)
      by true h = ap (λ ys. cond (q x) (x ∷ ys) ys) h
      by false h = h

filter_short : (p : ℕ → Bool) (xs : List ℕ) → length (filter p xs) ≤ length xs
filter_short p [] = omega arith
filter_short p (x ∷ xs) =
    by (p x) (filter_short p xs) where
      by : (b : Bool) → length (filter p xs) ≤ length xs → length (cond b (x ∷ filter p xs) (filter p xs)) ≤ length (x ∷ xs)
      by true h = omega arith
      by false h = omega arith

length_below : (n : ℕ) → length (below n) ≡ n
length_below zero = refl
length_below (suc n) = length-append (below n) (n ∷ []) ∙ omega (arith, length_below n)

suffix_more : (p : ℕ → Bool) (xs : List ℕ) (x : ℕ) → suffix_len p (xs ++ x ∷ []) ≡ cond (p x) (1 + suffix_len p xs) 0
suffix_more p xs x = ap (prefix_len p) (reverse-append xs (x ∷ []))

both : (a b : Bool) → b ≡ true → (a && b) ≡ a
both true b e = e
both false b e = refl

second_off : (a b : Bool) → b ≡ false → (a && b) ≡ false
second_off true b e = e
second_off false b e = refl

not_less : (n m : ℕ) → n ≤ m → nat_lt m n ≡ false
not_less n m le = false_from_ne_true (nat_lt m n) (λ e. let low : m < n = ltb-true m n e in omega arith)

-- ## Elders

module _ (t : List Node) where
  -- the children of n's parent before n
  elders_below : (n p : ℕ) → n ≤ length t → parent_of t n ≡ p → elders t n ≡ filter (is_child t p) (below n)
  elders_below n p le e =
      ap (λ q. filter (λ m. nat_lt m n) (children t q)) e
      ∙ filter_filter (is_child t p) (λ m. nat_lt m n) (all_nodes t)
      ∙ below_none (λ m. is_child t p m && nat_lt m n) n (length t) le (λ m low high. second_off (is_child t p m) (nat_lt m n) (not_less n m low))
      ∙ filter_same (λ m. is_child t p m && nat_lt m n) (is_child t p) (below n) (λ m i. both (is_child t p m) (nat_lt m n) (lt-ltb m n (in_below m n i)))

  no_elders : (n : ℕ) → n ≤ length t → child_before t n ≡ None → elders t n ≡ []
  no_elders n le e =
      let p = parent_of t n in
      elders_below n p le refl ∙ below_none (is_child t p) 0 n (omega arith) (λ m low high. none_is (is_child t p) n m e high)

  more_elders : (n m : ℕ) → n ≤ length t → child_before t n ≡ Some m → elders t n ≡ elders t m ++ m ∷ []
  more_elders n m le e =
      let p = parent_of t n in
      let w = last_is (is_child t p) n m e in
      let low = w.low in
      let same = eqb-true (parent_of t m) p (and_parts (nat_lt 0 m) (nat_eq (parent_of t m) p) w.passes).1 in
      elders_below n p le refl ∙ below_last (is_child t p) m n w.low w.passes w.none ∙ ap (λ xs. xs ++ m ∷ []) (sym (elders_below m p (omega arith) same))

  elders_few : (n : ℕ) → n ≤ length t → length (elders t n) ≤ n
  elders_few n le = omega (arith, ap length (elders_below n (parent_of t n) le refl), filter_short (is_child t (parent_of t n)) (below n), length_below n)

-- ## Refused accesses

block_no_tried_kind : (k : Kind) → is_block_kind k ≡ true → is_tried_kind k ≡ false
block_no_tried_kind (Tried c) e = absurd (cc e)
block_no_tried_kind _ e = refl

pub tried_at : (t : List Node) (n : ℕ) (x : Node) → slice_get t n ≡ Some x → tried_cell t n ≡ tried_cell_in x.kind
tried_at t n x e = rw e refl

pub tried_past : (t : List Node) (n : ℕ) → slice_get t n ≡ None → tried_cell t n ≡ None
tried_past t n e = rw e refl

tried_kind_is : (k : Kind) → is_tried_kind k ≡ is_some (tried_cell_in k)
tried_kind_is (Tried c) = refl
tried_kind_is Strand = refl
tried_kind_is Fork = refl
tried_kind_is Block = refl
tried_kind_is (Read c v) = refl
tried_kind_is (Write c v) = refl
tried_kind_is (Out v) = refl
tried_kind_is (Cancel b) = refl

pub tried_is : (t : List Node) (n : ℕ) → is_tried t n ≡ is_some (tried_cell t n)
tried_is t n = elim (slice_get_cases t n).1 [
  | inl z ↦ ap (passes (λ x. is_tried_kind x.kind)) z.2 ∙ tried_kind_is z.0.kind ∙ sym (ap is_some (tried_at t n z.0 z.2))
  | inr z ↦ ap (passes (λ x. is_tried_kind x.kind)) z.1 ∙ sym (ap is_some (tried_past t n z.1))
]

module _ (t : List Node) where
  -- ## Attempts

  pub attempt_few : (n : ℕ) → n ≤ length t → attempt t n ≤ n + 1
  attempt_few n le = by (is_tried t n) where
    by : (b : Bool) → cond b (access_attempt t n) (block_attempt t n) ≤ n + 1
    by true = omega (arith, suffix_len-le-length (λ m. same_cell (tried_cell t m) (tried_cell t n)) (elders t n), elders_few t n le)
    by false = omega (arith, suffix_len-le-length (is_aborted t) (elders t n), elders_few t n le)

  pub attempt_first : (n : ℕ) → n ≤ length t → child_before t n ≡ None → attempt t n ≡ 1
  attempt_first n le e = by (is_tried t n) where
    by : (b : Bool) → cond b (access_attempt t n) (block_attempt t n) ≡ 1
    by true = ap (λ xs. suffix_len (λ m. same_cell (tried_cell t m) (tried_cell t n)) xs + 1) (no_elders t n le e)
    by false = ap (λ xs. suffix_len (is_aborted t) xs + 1) (no_elders t n le e)

  pub attempt_anew : (n m : ℕ) → n ≤ length t → child_before t n ≡ Some m → repeats t m n ≡ false → attempt t n ≡ 1
  attempt_anew n m le e f = by (is_tried t n) f where
    by : (b : Bool) → cond b (same_cell (tried_cell t m) (tried_cell t n)) (is_aborted t m) ≡ false → cond b (access_attempt t n) (block_attempt t n) ≡ 1
    by true f =
        let q : ℕ → Bool = λ k. same_cell (tried_cell t k) (tried_cell t n) in
        ap (λ xs. suffix_len q xs + 1) (more_elders t n m le e) ∙ ap (λ k. k + 1) (suffix_more q (elders t m) m) ∙ ap (λ b. cond b (1 + suffix_len q (elders t m)) 0 + 1) f
    by false f =
        let q : ℕ → Bool = is_aborted t in
        ap (λ xs. suffix_len q xs + 1) (more_elders t n m le e) ∙ ap (λ k. k + 1) (suffix_more q (elders t m) m) ∙ ap (λ b. cond b (1 + suffix_len q (elders t m)) 0 + 1) f

  same_some : (a b : Option ℕ) → same_cell a b ≡ true → is_some a ≡ true
  same_some (Some c) b e = refl
  same_some None b e = absurd (cc e)

  same_is : (a b : Option ℕ) → same_cell a b ≡ true → a ≡ b
  same_is (Some c) (Some d) e = ap Some (eqb-true c d e)
  same_is (Some c) None e = absurd (cc e)
  same_is None b e = absurd (cc e)

  same_tried : (m n : ℕ) → same_cell (tried_cell t m) (tried_cell t n) ≡ true → is_tried t m ≡ true
  same_tried m n e = tried_is t m ∙ same_some (tried_cell t m) (tried_cell t n) e

  aborted_not_tried : (m : ℕ) → is_aborted t m ≡ true → is_tried t m ≡ false
  aborted_not_tried m e = node_tells false t (λ x. is_block_kind x.kind) (λ x. is_tried_kind x.kind) (λ x. block_no_tried_kind x.kind) m (aborted_block t m e)

  pub attempt_again : (n m : ℕ) → n ≤ length t → child_before t n ≡ Some m → repeats t m n ≡ true → attempt t n ≡ attempt t m + 1
  attempt_again n m le e f = by (is_tried t n) refl f where
    by : (b : Bool) → is_tried t n ≡ b → cond b (same_cell (tried_cell t m) (tried_cell t n)) (is_aborted t m) ≡ true → cond b (access_attempt t n) (block_attempt t n) ≡ attempt t m + 1
    by true g f =
        let q : ℕ → Bool = λ k. same_cell (tried_cell t k) (tried_cell t n) in
        let whole : attempt t m ≡ access_attempt t m = ap (λ b. cond b (access_attempt t m) (block_attempt t m)) (same_tried m n f) in
        let there : access_attempt t m ≡ suffix_len q (elders t m) + 1 = ap (λ o. suffix_len (λ k. same_cell (tried_cell t k) o) (elders t m) + 1) (same_is (tried_cell t m) (tried_cell t n) f) in
        let step : access_attempt t n ≡ 1 + suffix_len q (elders t m) + 1 =
        ap (λ xs. suffix_len q xs + 1) (more_elders t n m le e) ∙ ap (λ k. k + 1) (suffix_more q (elders t m) m) ∙ ap (λ b. cond b (1 + suffix_len q (elders t m)) 0 + 1) f
        in
        omega (arith, whole, there, step)
    by false g f =
        let q : ℕ → Bool = is_aborted t in
        let whole : attempt t m ≡ block_attempt t m = ap (λ b. cond b (access_attempt t m) (block_attempt t m)) (aborted_not_tried m f) in
        let step : block_attempt t n ≡ 1 + suffix_len q (elders t m) + 1 =
        ap (λ xs. suffix_len q xs + 1) (more_elders t n m le e) ∙ ap (λ k. k + 1) (suffix_more q (elders t m) m) ∙ ap (λ b. cond b (1 + suffix_len q (elders t m)) 0 + 1) f
        in
        omega (arith, whole, step)

-- ## One more attempt

same_eq : (o : Option ℕ) (c : ℕ) → option_eq nat_eq o (Some c) ≡ same_cell o (Some c)
same_eq (Some d) c = refl
same_eq None c = refl

pub repeats_cell : (t : List Node) (m n c : ℕ) → tried_cell t n ≡ Some c → option_eq nat_eq (tried_cell t m) (Some c) ≡ repeats t m n
repeats_cell t m n c e =
    same_eq (tried_cell t m) c
    ∙ ap (same_cell (tried_cell t m)) (sym e)
    ∙ sym (ap (λ b. cond b (same_cell (tried_cell t m) (tried_cell t n)) (is_aborted t m)) (tried_is t n ∙ ap is_some e))

pub repeats_block : (t : List Node) (m n : ℕ) → tried_cell t n ≡ None → is_aborted t m ≡ repeats t m n
repeats_block t m n e = sym (ap (λ b. cond b (same_cell (tried_cell t m) (tried_cell t n)) (is_aborted t m)) (tried_is t n ∙ ap is_some e))

-- the elder comes before
pub elder_before : (t : List Node) (n m : ℕ) → child_before t n ≡ Some m → m < n
elder_before t n m e = let w = last_is (is_child t (parent_of t n)) n m e in w.low

-- ## The pass

-- the nodes below n were met
pub record Counted (t : List Node) (n : ℕ) (attempts : List ℕ) (last : List (Option ℕ)) : Type 0 where
  pub some : 0 < n
  pub len : length attempts ≡ length t
  pub count : length last ≡ length t
  pub each : (m : ℕ) → m < n → m < length t → get_or attempts m 0 ≡ attempt t m
  pub children : (x : ℕ) → x < length t → get_or last x None ≡ last_below (is_child t x) n

module _ (t : List Node) where
  pub counted_start : (k : ℕ) (attempts : List ℕ) (last : List (Option ℕ)) → k ≡ length t → attempts ≡ replicate k 1 → last ≡ replicate k None → Counted t 1 attempts last
  counted_start k attempts last e q s = record {
    some = omega arith;
    len = ap length q ∙ length-replicate k 1 ∙ e;
    count = ap length s ∙ length-replicate k None ∙ e;
    each = λ m h l.
        (let root : m ≡ 0 = omega arith in
        ap (λ xs. get_or xs m 0) q ∙ get_or-replicate k m 1 0 (omega arith) ∙ sym (ap (attempt t) root ∙ attempt_first t 0 (omega arith) refl));
    children = λ x h. ap (λ xs. get_or xs x None) s ∙ get_or-replicate k x None None (omega arith);
  }

  pub counted_end : (n : ℕ) (attempts : List ℕ) (last : List (Option ℕ)) → Counted t n attempts last → length t ≤ n → AreAttempts t attempts
  counted_end n attempts last w h = record { len = w.len; each = λ m l. w.each m (omega arith) l }

  module _ (n : ℕ) (attempts : List ℕ) (last : List (Option ℕ)) (w : Counted t n attempts last) (there : n < length t) (q : ℕ) (low : q < n) (up : q ≡ parent_of t n) where
    pub last_is_before : get_or last q None ≡ child_before t n
    last_is_before = w.children q (omega arith) ∙ ap (λ x. last_below (is_child t x) n) up

    one_more : n + 1 ≡ suc n
    one_more = omega arith

    pub counted_step : (a : ℕ) → a ≡ attempt t n → Counted t (n + 1) (set attempts n a) (set last q (Some n))
    counted_step a own = record {
      some = omega arith;
      len = length-set attempts n a ∙ w.len;
      count = length-set last q (Some n) ∙ w.count;
      each = λ m h l. done_at m h l (cases_eq m n);
      children = λ x h. child_at x h (cases_eq x q);
    } where
      child_at : (x : ℕ) → x < length t → (x ≡ q) ⊎ (x ≡ q → ⊥) → get_or (set last q (Some n)) x None ≡ last_below (is_child t x) (n + 1)
      child_at x h (inl e) =
          let count = w.count in
          let here : is_child t x n ≡ true = and_from (nat_lt 0 n) (nat_eq (parent_of t n) x) (lt-ltb 0 n w.some) (eq-eqb (parent_of t n) x (sym up ∙ sym e)) in
          ap (λ k. get_or (set last q (Some n)) k None) e
          ∙ get_or-set_same last q (Some n) None (omega arith)
          ∙ sym (ap (last_below (is_child t x)) one_more ∙ ap (λ b. cond b (Some n) (last_below (is_child t x) n)) here)
      child_at x h (inr ne) =
          let other : is_child t x n ≡ false = and_right (nat_lt 0 n) (nat_eq (parent_of t n) x) (ne_eqb (parent_of t n) x (λ z. ne (sym z ∙ sym up))) in
          get_or-set_other last q x (Some n) None ne
          ∙ w.children x h
          ∙ sym (ap (last_below (is_child t x)) one_more ∙ ap (λ b. cond b (Some n) (last_below (is_child t x) n)) other)

      done_at : (m : ℕ) → m < n + 1 → m < length t → (m ≡ n) ⊎ (m ≡ n → ⊥) → get_or (set attempts n a) m 0 ≡ attempt t m
      done_at m h l (inl e) = let len = w.len in ap (λ k. get_or (set attempts n a) k 0) e ∙ get_or-set_same attempts n a 0 (omega arith) ∙ own ∙ ap (attempt t) (sym e)
      done_at m h l (inr ne) = get_or-set_other attempts n m a 0 ne ∙ w.each m (omega arith) l
