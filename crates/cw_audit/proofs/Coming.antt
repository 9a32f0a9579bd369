-- What comes after a node in series.
use Rattle.std.proofs.Common.{◌≡◌, ◌≢◌, ℕ, zero, suc, ◌-◌, ◌<◌, ◌≤◌, List, length, get_or, set, replicate, drop, ap, sym, ◌∙◌, subst, arith, refl, true, false, Bool, nat_eq, nat_lt, Option, Some, None, inl, inr}
use Rattle.std.specs.Prelude.{◌⊎◌, ◌&&◌, ◌||◌, not}
use Rattle.std.specs.List.{find, list_any, list_all}
use Rattle.std.proofs.lemmas.Bool.{cases_eq, cases_Bool, and_parts, and_from, or_left, or_right, lt-ltb, ltb-true, eq-eqb, ne_eqb, not_from_false, false_from_ne_true}
use Rattle.std.proofs.lemmas.List.{get_or-set_same, get_or-set_other, get_or-replicate, length-set, length-replicate}
use Rattle.std.proofs.lemmas.Bool.Decides.{nat_tests}
use Rattle.cw_tree.specs.declared.node.Node.{Node}
use Rattle.cw_tree.specs.Nodes.{parent_of, is_fork, is_block, is_block_kind, is_pending}
use Rattle.cw_tree.specs.Walks.{IsRooted, path, is_ancestor, is_above, xparent}
use Rattle.cw_tree.specs.Series.{children, has_later, is_before}
use Rattle.cw_tree.specs.Shape.{PendingLast}
use Rattle.cw_tree.proofs.Lists.{In, any_in, any_from, all_in, all_from}
use Rattle.cw_tree.proofs.Members.{any_same}
use Rattle.cw_tree.proofs.InOrder.DepthFirst.{IsChild, child_is, child_in}
use Rattle.cw_tree.proofs.Walks.Climbs.{path_step}
use Rattle.cw_tree.proofs.Walks.Ancestors.{ancestor_self, ancestor_above, above_parent, ancestor_le}
use Rattle.cw_tree.proofs.Walks.Kin.{of_before, before_of, ancestor_in, in_ancestor}
use Rattle.cw_tree.proofs.Walks.Upward.{find_found, find_none}
use Rattle.cw_tree.proofs.Walks.There.{node_there}
use Rattle.cw_audit.proofs.Shortcuts.{first_way}
use Rattle.cw_audit.specs.Later.{AreLaters, is_last, is_at_end, IsPendingLast}

-- ## The pass from the last node down

-- node x has a child numbered above k
abbrev pub has_above : List Node → (k x : ℕ) → Bool
has_above t k x = list_any (λ m. nat_lt k m) (children t x)

-- the nodes from n on have what comes after them, and each node whether it has a child from n on
pub record LatersDown (t : List Node) (n : ℕ) (laters met : List Bool) : Type 0 where
  pub some : 0 < n
  pub low : n ≤ length t
  pub len : length laters ≡ length t
  pub met_len : length met ≡ length t
  pub done : (c : ℕ) → n ≤ c → c < length t → get_or laters c false ≡ has_later t c
  pub children : (x : ℕ) → x < length t → get_or met x false ≡ has_above t (n - 1) x

pub laters_start : (t : List Node) (n : ℕ) (laters met : List Bool) → 0 < length t → n ≡ length t → laters ≡ replicate n false → met ≡ replicate n false → LatersDown t n laters met
laters_start t n laters met some e q s = record {
  some = omega arith;
  low = omega arith;
  len = ap length q ∙ length-replicate n false ∙ e;
  met_len = ap length s ∙ length-replicate n false ∙ e;
  done = λ c h l. absurd (omega arith);
  children = λ x h. ap (λ xs. get_or xs x false) s ∙ get_or-replicate n x false false (omega arith)
      ∙ sym (false_from_ne_true (has_above t (n - 1) x) (λ f.
      let z = any_in (λ m. nat_lt (n - 1) m) (children t x) f in
      let there = (child_is t x z.0 z.1).there in
      let past : n - 1 < z.0 = ltb-true (n - 1) z.0 z.2 in
      omega arith));
}

pub laters_end : (t : List Node) (n : ℕ) (laters met : List Bool) → LatersDown t n laters met → n ≤ 1 → AreLaters t laters
laters_end t n laters met w last = record { len = w.len; each = λ c some there. w.done c (omega arith) there }

module _ (t : List Node) (n : ℕ) (laters met : List Bool) (w : LatersDown t n laters met) (more : 1 < n) (q : ℕ) (there : q < length t) (up : q ≡ parent_of t (n - 1)) (b : Bool) (read : b ≡ get_or met q false) where
  own : b ≡ has_later t (n - 1)
  own = read ∙ w.children q there ∙ ap (has_above t (n - 1)) up

  pub laters_step : LatersDown t (n - 1) (set laters (n - 1) b) (set met q true)
  laters_step = record {
    some = omega arith;
    low = (let low = w.low in omega arith);
    len = length-set laters (n - 1) b ∙ w.len;
    met_len = length-set met q true ∙ w.met_len;
    done = λ c h l. done c h l (cases_eq c (n - 1));
    children = λ x h. has x h (cases_eq x q);
  } where
    done : (c : ℕ) → n - 1 ≤ c → c < length t → (c ≡ n - 1) ⊎ (c ≡ n - 1 → ⊥) → get_or (set laters (n - 1) b) c false ≡ has_later t c
    done c h l (inl e) =
        let low = w.low in
        let len = w.len in
        ap (λ x. get_or (set laters (n - 1) b) x false) e ∙ get_or-set_same laters (n - 1) b false (omega arith) ∙ own ∙ ap (has_later t) (sym e)
    done c h l (inr ne) = get_or-set_other laters (n - 1) c b false ne ∙ w.done c (omega arith) l

    has : (x : ℕ) → x < length t → (x ≡ q) ⊎ (x ≡ q → ⊥) → get_or (set met q true) x false ≡ has_above t (n - 1 - 1) x
    has x h (inl e) =
        let low = w.low in
        let len = w.met_len in
        let is : IsChild t q (n - 1) = record { some = omega arith; there = omega arith; parent = sym up } in
        ap (λ y. get_or (set met q true) y false) e ∙ get_or-set_same met q true false (omega arith)
        ∙ sym (ap (has_above t (n - 1 - 1)) e ∙ any_from (λ m. nat_lt (n - 1 - 1) m) (n - 1) (children t q) (child_in t q (n - 1) is) (lt-ltb (n - 1 - 1) (n - 1) (omega arith)))
    has x h (inr ne) =
        get_or-set_other met q x true false ne ∙ w.children x h
        ∙ any_same (λ m. nat_lt (n - 1) m) (λ m. nat_lt (n - 1 - 1) m) (children t x) (λ m i.
        let c = child_is t x m i in
        let other : m ≢ n - 1 = λ e. ne (sym c.parent ∙ ap (parent_of t) e ∙ sym up) in
        grind (arith, nat_tests))

-- ## What comes after

module _ (t : List Node) (r : IsRooted t) where
  pub end_step : (n q : ℕ) → q ≡ parent_of t n → 0 < n → n < length t → is_at_end t n ≡ (is_last t n && is_at_end t q)
  end_step n q e s h = ap (list_all (is_last t)) (path_step t r n s h) ∙ ap (λ x. is_last t n && is_at_end t x) (sym e)

  pub end_none : (n : ℕ) → is_at_end t n ≡ true → (m : ℕ) → m < length t → is_before t n m ≡ false
  end_none n end m there = false_from_ne_true (is_before t n m) (λ e.
      let s = of_before t n m e in
      let o = s.ordered in
      let le : s.second ≤ m = ancestor_le t r s.second m there s.over_second in
      let less = o.less in
      let some = o.some in
      let ne : s.first ≢ 0 = omega arith in
      let child : IsChild t (parent_of t s.first) s.second = record { some = omega arith; there = omega arith; parent = sym o.same } in
      let later : has_later t s.first ≡ true = any_from (λ k. nat_lt s.first k) s.second (children t (parent_of t s.first)) (child_in t (parent_of t s.first) s.second child) (lt-ltb s.first s.second less) in
      let last : is_last t s.first ≡ true = all_in (is_last t) s.first (path t n) end (ancestor_in t s.first n s.over_first) in
      let refuted : is_last t s.first ≡ false =
      ap (λ b. b || (is_fork t (parent_of t s.first) || not (has_later t s.first))) (ne_eqb s.first 0 ne) ∙ ap (λ b. b || not (has_later t s.first)) o.no_fork ∙ ap not later
      in
      absurd (cc (last, refuted)))

  pub none_end : (n : ℕ) → n < length t → ((m : ℕ) → m < length t → is_before t n m ≡ false) → is_at_end t n ≡ true
  none_end n there none = all_from (is_last t) (path t n) (λ c i. by c i (cases_eq c 0) (cases_Bool (is_fork t (parent_of t c)))) where
    by : (c : ℕ) → In c (path t n) → (c ≡ 0) ⊎ (c ≡ 0 → ⊥) → (is_fork t (parent_of t c) ≡ true) ⊎ (is_fork t (parent_of t c) ≡ false) → is_last t c ≡ true
    by c i (inl e) f = or_left (nat_eq c 0) (is_fork t (parent_of t c) || not (has_later t c)) (eq-eqb c 0 e)
    by c i (inr ne) (inl f) = or_right (nat_eq c 0) (is_fork t (parent_of t c) || not (has_later t c)) (or_left (is_fork t (parent_of t c)) (not (has_later t c)) f)
    by c i (inr ne) (inr f) =
        or_right (nat_eq c 0) (is_fork t (parent_of t c) || not (has_later t c)) (or_right (is_fork t (parent_of t c)) (not (has_later t c)) (not_from_false (has_later t c) (false_from_ne_true (has_later t c) (λ e.
        let z = any_in (λ m. nat_lt c m) (children t (parent_of t c)) e in
        let child = child_is t (parent_of t c) z.0 z.1 in
        let before : is_before t n z.0 ≡ true = before_of t n z.0 (record {
          first = c;
          second = z.0;
          ordered = record { some = omega arith; less = ltb-true c z.0 z.2; same = sym child.parent; no_fork = f };
          over_first = in_ancestor t c n i;
          over_second = ancestor_self t z.0;
        })
        in
        absurd (cc (before, none z.0 child.there))))))

  -- ## Blocks above a pending block

  -- the innermost block above each pending block is pending
  abbrev pub NextPending : Type 0
  NextPending = (n : ℕ) → n < length t → is_pending t n ≡ true → (b : ℕ) → xparent t n ≡ Some b → is_pending t b ≡ true

  -- so all are
  pub all_pending : NextPending → (k n b : ℕ) → n < k → n < length t → is_pending t n ≡ true → is_block t b ≡ true → is_above t b n ≡ true → is_pending t b ≡ true
  all_pending next zero n b l h p block over = absurd (omega arith)
  all_pending next (suc k) zero b l h p block over = absurd (cc over)
  all_pending next (suc k) (suc n) b l h p block over = by (find (is_block t) (path t q)) refl (all_pending next k) where
    q : ℕ
    q = parent_of t (suc n)

    low : q < suc n
    low = r (suc n) (omega arith) h

    up : is_ancestor t b q ≡ true
    up = sym (above_parent t r b (suc n) (omega arith) h) ∙ over

    xparent_is : xparent t (suc n) ≡ find (is_block t) (path t q)
    xparent_is = ap (λ ns. find (is_block t) (drop 1 ns)) (path_step t r (suc n) (omega arith) h)

    by : (o : Option ℕ) → find (is_block t) (path t q) ≡ o → ((n b : ℕ) → n < k → n < length t → is_pending t n ≡ true → is_block t b ≡ true → is_above t b n ≡ true → is_pending t b ≡ true) → is_pending t b ≡ true
    by None e more = absurd (cc (block, find_none t r (is_block t) q (let l = low in omega arith) e b up))
    by (Some c) e more =
        let less = low in
        let w = find_found t r (is_block t) c q (omega arith) e in
        let pending : is_pending t c ≡ true = next (suc n) h p c (xparent_is ∙ e) in
        let le : c ≤ q = ancestor_le t r c q (omega arith) w.above in
        elim (cases_eq c b) [
          | inl same ↦ (let P : ℕ → Type 0 = λ x. is_pending t x ≡ true in subst P same pending)
          | inr ne ↦ more c b (omega arith) (omega arith) pending block (sym (ancestor_above t b c ne) ∙ w.innermost b up block)
        ]

  -- ## Pending blocks

  pub pending_from : ((n : ℕ) → n < length t → IsPendingLast t n) → PendingLast t
  pending_from each = record {
    last = λ n m hn hm p. end_none n (each n hn p).0 m hm;
    around = λ b n hb hn e. (
        let z = and_parts (is_pending t n && is_block t b) (is_above t b n) e in
        let y = and_parts (is_pending t n) (is_block t b) z.0 in
        all_pending (λ m hm p. (each m hm p).1) (suc n) n b (omega arith) hn y.0 y.1 z.1);
  }

  pub pending_to : PendingLast t → (n : ℕ) → n < length t → IsPendingLast t n
  pending_to w n there p = (
    none_end n there (λ m hm. w.last n m there hm p),
    λ b e. (
        let way = first_way t r 0 n there (Some b) e in
        w.around b n (node_there (λ x. is_block_kind x.kind) t b way.0) there (and_from (is_pending t n && is_block t b) (is_above t b n) (and_from (is_pending t n) (is_block t b) p way.0) way.1)),
  )
