-- How the nodes in a place end.
use Rattle.std.proofs.Common.{◌≡◌, ◌≢◌, ℕ, ◌+◌, ◌<◌, List, [], ◌∷◌, ◌++◌, length, refl, ap, sym, ◌∙◌, arith, Bool, true, false, cond, Some, nat_eq, nat_lt, append-nil}
use Rattle.std.specs.Prelude.{◌&&◌, filter}
use Rattle.std.specs.List.{prefix_len, suffix_len}
use Rattle.std.proofs.lemmas.Bool.{and_from, lt-ltb, ltb-true, eq-eqb, eqb-true, ne_eqb, false_from_ne_true}
use Rattle.std.proofs.lemmas.List.{reverse-append}
use Rattle.std.proofs.lemmas.List.Elements.{filter-append}
use Rattle.cw_tree.specs.declared.node.Node.{Node}
use Rattle.cw_tree.specs.declared.node.Kind.TheVariants.{Tried}
use Rattle.cw_tree.specs.declared.node.BlockState.{BlockState}
use Rattle.cw_tree.specs.declared.node.BlockState.TheVariants.{Committed, Aborted}
use Rattle.cw_tree.specs.Nodes.{is_block_kind, is_aborted_state, parent_of, is_block, is_aborted, all_nodes, closed}
use Rattle.cw_tree.specs.Walks.{IsRooted}
use Rattle.cw_tree.specs.Series.{children, has_later}
use Rattle.cw_tree.specs.Attempts.{elders, tried_cell_in, tried_cell, same_cell, block_attempt, access_attempt}
use Rattle.cw_tree.proofs.Lists.{In, any_from}
use Rattle.cw_tree.proofs.Members.{in_filter, in_below, below_in, filter_in, filter_all, suffix_same, below_last}
use Rattle.cw_tree.proofs.Walks.There.{node_there}
use Rattle.cw_tree.proofs.NextNodes.Growing.{get_next, get_append, node_new, node_grown, number_new, number_grown}
use Rattle.cw_tree.proofs.NextNodes.Closing.{node_closed_other, state_closed}
use Rattle.cw_tree.proofs.NextNodes.Trees.{is_child, children_more, children_none}
use Rattle.cw_open.specs.Tails.{aborted_last, tried_last, HasGrownTail, TailsGrow, TailsClose}
use Rattle.cw_open.proofs.Open.Staying.{children_closed}
use Rattle.cw_open.proofs.Refused.Attempted.{front}

last_one : (p : ℕ → Bool) (xs : List ℕ) (x : ℕ) → suffix_len p (xs ++ x ∷ []) ≡ cond (p x) (1 + suffix_len p xs) 0
last_one p xs x = ap (prefix_len p) (reverse-append xs (x ∷ []))

-- ## A node comes

module _ (t : List Node) (x : Node) (r : IsRooted t) (low : x.parent < length t) where
  abbrev u : List Node
  u = t ++ x ∷ []

  abbrev n : ℕ
  n = length t

  abbrev cs : List ℕ
  cs = children t x.parent

  behind_all : children u x.parent ≡ cs ++ n ∷ []
  behind_all = children_more t x x.parent (omega arith) ∙ ap (λ b. cs ++ cond b (n ∷ []) []) (eq-eqb x.parent x.parent refl)

  old : (m : ℕ) → In m cs → m < n
  old m i = in_below m n (in_filter (is_child t x.parent) m (all_nodes t) i).0

  empty_yet : children u n ≡ []
  empty_yet = children_more t x n (omega arith) ∙ ap (λ ns. ns ++ cond (nat_eq x.parent n) (n ∷ []) []) (children_none t r n (omega arith)) ∙ ap (λ b. cond b (n ∷ []) []) (false_from_ne_true (nat_eq x.parent n) (λ e. absurd (omega (arith, low, eqb-true x.parent n e))))

  by_test : (p : ℕ → Bool) → suffix_len p (children u x.parent) ≡ cond (p n) (1 + suffix_len p cs) 0
  by_test p = ap (suffix_len p) behind_all ∙ last_one p cs n

  aborted_here : is_aborted u n ≡ (is_block_kind x.kind && is_aborted_state x.state)
  aborted_here = node_new t x (λ y. is_block_kind y.kind && is_aborted_state y.state)

  tried_here : tried_cell u n ≡ tried_cell_in x.kind
  tried_here = rw (get_next t x []) refl

  tried_old : (m : ℕ) → m < n → tried_cell u m ≡ tried_cell t m
  tried_old m h = rw (get_append t (x ∷ []) m h) refl

  aborted_old : suffix_len (is_aborted u) cs ≡ suffix_len (is_aborted t) cs
  aborted_old = suffix_same (is_aborted u) (is_aborted t) cs (λ m i. node_grown t (x ∷ []) (λ y. is_block_kind y.kind && is_aborted_state y.state) m (old m i))

  abbrev tries_at : List Node → ℕ → ℕ → Bool
  tries_at v c m = same_cell (tried_cell v m) (Some c)

  tries_same : (c : ℕ) → suffix_len (tries_at u c) cs ≡ suffix_len (tries_at t c) cs
  tries_same c = suffix_same (tries_at u c) (tries_at t c) cs (λ m i. ap (λ o. same_cell o (Some c)) (tried_old m (old m i)))

  tried_again : (c : ℕ) → x.kind ≡ Tried c → tried_last u x.parent c ≡ tried_last t x.parent c + 1
  tried_again c e =
      let passes : tries_at u c n ≡ true = ap (λ o. same_cell o (Some c)) (tried_here ∙ ap tried_cell_in e) ∙ eq-eqb c c refl in
      by_test (tries_at u c) ∙ ap (λ b. cond b (1 + suffix_len (tries_at u c) cs) 0) passes ∙ omega (arith, tries_same c)

  elders_are : elders u n ≡ cs
  elders_are =
      ap (λ q. filter (λ m. nat_lt m n) (children u q)) (number_new t x (λ y. y.parent))
      ∙ ap (filter (λ m. nat_lt m n)) behind_all
      ∙ filter-append (λ m. nat_lt m n) cs (n ∷ [])
      ∙ ap (λ b. filter (λ m. nat_lt m n) cs ++ cond b (n ∷ []) []) (false_from_ne_true (nat_lt n n) (λ e. absurd (let h = ltb-true n n e in omega arith)))
      ∙ append-nil (filter (λ m. nat_lt m n) cs)
      ∙ filter_all (λ m. nat_lt m n) cs (λ m i. lt-ltb m n (old m i))

  new_try : (c : ℕ) → x.kind ≡ Tried c → access_attempt u n ≡ tried_last t x.parent c + 1
  new_try c e =
      ap (λ o. suffix_len (λ m. same_cell (tried_cell u m) o) (elders u n) + 1) (tried_here ∙ ap tried_cell_in e)
      ∙ ap (λ ns. suffix_len (tries_at u c) ns + 1) elders_are
      ∙ ap (λ k. k + 1) (tries_same c)

  -- ## What stays

  others_stay : (q : ℕ) → q ≢ x.parent → children u q ≡ children t q
  others_stay q ne = children_more t x q (omega arith) ∙ ap (λ b. children t q ++ cond b (n ∷ []) []) (ne_eqb x.parent q (λ e. ne (sym e))) ∙ append-nil (children t q)

  none_newer : (m : ℕ) → m < n → (b : Bool) → filter (λ k. nat_lt k m) (cond b (n ∷ []) []) ≡ []
  none_newer m h true = ap (λ b. cond b (n ∷ []) []) (false_from_ne_true (nat_lt n m) (λ e. absurd (let l = ltb-true n m e in omega arith)))
  none_newer m h false = refl

  elders_stay : (m : ℕ) → m < n → elders u m ≡ elders t m
  elders_stay m h =
      let q = parent_of t m in
      ap (λ k. filter (λ j. nat_lt j m) (children u k)) (number_grown t (x ∷ []) (λ y. y.parent) m h)
      ∙ ap (filter (λ j. nat_lt j m)) (children_more t x q (omega arith))
      ∙ filter-append (λ j. nat_lt j m) (children t q) (cond (nat_eq x.parent q) (n ∷ []) [])
      ∙ ap (λ ns. elders t m ++ ns) (none_newer m h (nat_eq x.parent q))
      ∙ append-nil (elders t m)

  elder_old : (m j : ℕ) → In j (elders t m) → j < n
  elder_old m j i = in_below j n (in_filter (is_child t (parent_of t m)) j (all_nodes t) (in_filter (λ k. nat_lt k m) j (children t (parent_of t m)) i).0).0

  older_stay : (b : ℕ) → b < n → block_attempt u b ≡ block_attempt t b
  older_stay b h =
      ap (λ ns. suffix_len (is_aborted u) ns + 1) (elders_stay b h)
      ∙ ap (λ k. k + 1) (suffix_same (is_aborted u) (is_aborted t) (elders t b) (λ j i. node_grown t (x ∷ []) (λ y. is_block_kind y.kind && is_aborted_state y.state) j (elder_old b j i)))

  abbrev tries_like : List Node → ℕ → ℕ → Bool
  tries_like v k m = same_cell (tried_cell v m) (tried_cell v k)

  older_tries_stay : (v : ℕ) → v < n → access_attempt u v ≡ access_attempt t v
  older_tries_stay v h =
      ap (λ ns. suffix_len (tries_like u v) ns + 1) (elders_stay v h)
      ∙ ap (λ k. k + 1) (suffix_same (tries_like u v) (tries_like t v) (elders t v) (λ j i. ap (λ o. same_cell o (tried_cell u v)) (tried_old j (elder_old v j i)) ∙ ap (same_cell (tried_cell t j)) (tried_old v h)))

  pub grown : HasGrownTail t x
  grown = record {
    behind = behind_all;
    empty = empty_yet;
    aborted = λ e. by_test (is_aborted u) ∙ ap (λ b. cond b (1 + suffix_len (is_aborted u) cs) 0) (aborted_here ∙ e);
    again = tried_again;
    anew = λ c e. by_test (tries_at u c) ∙ ap (λ b. cond b (1 + suffix_len (tries_at u c) cs) 0) (ap (λ o. same_cell o (Some c)) tried_here ∙ e);
    attempt = ap (λ ns. suffix_len (is_aborted u) ns + 1) elders_are ∙ ap (λ k. k + 1) aborted_old;
    tries = new_try;
    others = others_stay;
    older = older_stay;
    older_tries = older_tries_stay;
  }

pub tails_grow : TailsGrow
tails_grow t x r low = grown t x r low

-- ## A block is closed

module _ (t : List Node) (b end : ℕ) (block : is_block t b ≡ true) (some : 0 < b) (last : has_later t b ≡ false) where
  abbrev q : ℕ
  q = parent_of t b

  there : b < length t
  there = node_there (λ y. is_block_kind y.kind) t b block

  none_after : (m : ℕ) → b < m → m < length t → is_child t q m ≡ false
  none_after m after low = false_from_ne_true (is_child t q m) (λ e.
      absurd (cc (last, any_from (λ k. nat_lt b k) m (children t q) (filter_in (is_child t q) m (all_nodes t) (below_in m (length t) low) e) (lt-ltb b m after))))

  is_last : children t q ≡ elders t b ++ b ∷ []
  is_last =
      below_last (is_child t q) b (length t) there (and_from (nat_lt 0 b) (nat_eq (parent_of t b) q) (lt-ltb 0 b some) (eq-eqb (parent_of t b) q refl)) none_after
      ∙ ap (λ ns. ns ++ b ∷ []) (sym (front (is_child t q) (length t) b (omega (arith, there))))

  by_state : (state : BlockState) → aborted_last (closed t b state end) q ≡ cond (is_aborted_state state) (block_attempt t b) 0
  by_state state =
      let v = closed t b state end in
      let here : is_aborted v b ≡ is_aborted_state state = state_closed t b state end is_aborted_state ∙ ap (λ k. k && is_aborted_state state) block in
      let older : suffix_len (is_aborted v) (elders t b) ≡ suffix_len (is_aborted t) (elders t b) =
      suffix_same (is_aborted v) (is_aborted t) (elders t b) (λ m i.
      let low = ltb-true m b (in_filter (λ k. nat_lt k b) m (children t q) i).1 in
      node_closed_other t b state end (λ y. is_block_kind y.kind && is_aborted_state y.state) m (λ e. omega (arith, e, low))) in
      let same : 1 + suffix_len (is_aborted v) (elders t b) ≡ block_attempt t b = omega (arith, older) in
      ap (suffix_len (is_aborted v)) (children_closed t b state end q ∙ is_last)
      ∙ last_one (is_aborted v) (elders t b) b
      ∙ ap (λ z. cond z (1 + suffix_len (is_aborted v) (elders t b)) 0) here
      ∙ ap (λ k. cond (is_aborted_state state) k 0) same

pub tails_close : TailsClose
tails_close t b end block some last = record { aborted = by_state t b end block some last Aborted; committed = by_state t b end block some last Committed }
