-- Where a strand stands: down the pending blocks that it began, one in the other.
use Rattle.std.proofs.Common.{◌≡◌, ℕ, ◌<◌, ◌≤◌, List, length, refl, ap, sym, ◌∙◌, subst, arith, Bool, true, false, inl, inr, nat_eq}
use Rattle.std.specs.Prelude.{◌⊎◌, ◌&&◌, ◌||◌, unwrap_or}
use Rattle.std.proofs.lemmas.Bool.{and_parts, and_from, or_cases, eq-eqb, eqb-true, false_from_ne_true, cases_lt}
use Rattle.cw_tree.specs.declared.node.Node.{Node}
use Rattle.cw_tree.specs.Nodes.{parent_of, is_strand, is_fork, is_block, is_pending}
use Rattle.cw_tree.specs.Walks.{IsNumbered, is_above}
use Rattle.cw_tree.specs.Series.{strand_of, place, is_before}
use Rattle.cw_tree.specs.Shape.{PendingLast}
use Rattle.cw_tree.proofs.LastBelow.{last_none, last_some}
use Rattle.cw_tree.proofs.NodeKinds.{pending_block, block_no_strand, strand_no_fork, fork_no_block}
use Rattle.cw_tree.proofs.Walks.There.{pending_there}
use Rattle.cw_tree.proofs.Walks.Ancestors.{ancestor_self, above_parent}
use Rattle.cw_tree.proofs.Walks.Strands.{strand_of_other, strand_of_le, strand_itself}
use Rattle.cw_tree.proofs.Walks.Climbs.{by_parent}
use Rattle.cw_tree.proofs.Walks.Kin.{before_of}
use Rattle.cw_tree.proofs.InOrder.DepthFirst.{IsChild}

module _ (t : List Node) where
  -- from a strand or block down to q, each a pending block in the one before
  pub data Chain : ℕ → ℕ → Type 0 where
    here : {q : ℕ} → Chain q q
    down : {p n q : ℕ} → IsChild t p n → is_pending t n ≡ true → Chain n q → Chain p q

  -- and in q none is pending
  pub record Down (p q : ℕ) : Type 0 where
    pub chain : Chain p q
    pub last : (n : ℕ) → IsChild t q n → is_pending t n ≡ false

  pub deeper : (p n q : ℕ) → IsChild t p n → is_pending t n ≡ true → Down n q → Down p q
  deeper p n q c e w = record { chain = down c e w.chain; last = w.last }

  -- a pending block stands in a strand or block
  abbrev pub AreInPlaces : Type 0
  AreInPlaces = (n : ℕ) → is_pending t n ≡ true → (is_strand t (parent_of t n) || is_block t (parent_of t n)) ≡ true

  module _ (w : IsNumbered t) (pl : PendingLast t) (held : AreInPlaces) where
    -- in one place, nothing comes after a pending block
    not_later : (p n m : ℕ) → is_fork t p ≡ false → IsChild t p n → is_pending t n ≡ true → IsChild t p m → n < m → ⊥
    not_later p n m plain c e d l =
        let P : ℕ → Type 0 = λ q. is_fork t q ≡ false in
        let before : is_before t n m ≡ true =
        before_of t n m (record {
          first = n;
          second = m;
          ordered = record { some = c.some; less = l; same = c.parent ∙ sym d.parent; no_fork = subst P (sym c.parent) plain };
          over_first = ancestor_self t n;
          over_second = ancestor_self t m;
        }) in
        let none = pl.last n m c.there d.there e in
        cc

    only_one : (p n m : ℕ) → is_fork t p ≡ false → IsChild t p n → is_pending t n ≡ true → IsChild t p m → is_pending t m ≡ true → n ≡ m
    only_one p n m plain c e d f =
        elim (cases_lt n m) [
          | inl l ↦ absurd (not_later p n m plain c e d l)
          | inr l ↦ elim (cases_lt m n) [ inl g ↦ absurd (not_later p m n plain d f c g) | inr g ↦ omega arith ]
        ]

    pending_no_fork : (n : ℕ) → is_pending t n ≡ true → is_fork t n ≡ false
    pending_no_fork n e = false_from_ne_true (is_fork t n) (λ f. absurd (let is = pending_block t n e in let other = fork_no_block t n f in cc))

    -- the next one down
    next_down : (p n q : ℕ) → is_fork t p ≡ false → IsChild t p n → is_pending t n ≡ true → Chain p q → ((m : ℕ) → IsChild t q m → is_pending t m ≡ false) → Chain n q
    next_down p n q plain c e here last = absurd (let none = last n c in cc)
    next_down p n q plain c e (down {n = m} d f more) last =
        let same : m ≡ n = only_one p m n plain d f c e in
        let P : ℕ → Type 0 = λ k. Chain k q in
        subst P same more

    next : (p n q : ℕ) → is_fork t p ≡ false → IsChild t p n → is_pending t n ≡ true → Down p q → Down n q
    next p n q plain c e w = record { chain = next_down p n q plain c e w.chain w.last; last = w.last }

    lower : (p q : ℕ) → Chain p q → p ≤ q
    lower p q here = omega arith
    lower p q (down {n = n} c e more) =
        let up : parent_of t n < n = w.rooted n c.some c.there in
        let le = lower n q more in
        let same = c.parent in
        omega arith

    not_strand : (n : ℕ) → is_pending t n ≡ true → is_strand t n ≡ false
    not_strand n e = block_no_strand t n (pending_block t n e)

    -- it stands in the strand of its parent
    own_strand : (p n : ℕ) → IsChild t p n → is_pending t n ≡ true → strand_of t n ≡ strand_of t p
    own_strand p n c e = strand_of_other t w.rooted n c.some c.there (not_strand n e) ∙ ap (strand_of t) c.parent

    strand_down : (p q : ℕ) → Chain p q → strand_of t q ≡ strand_of t p
    strand_down p q here = refl
    strand_down p q (down {n = n} c e more) = strand_down n q more ∙ own_strand p n c e

    pending_down : (p q : ℕ) → Chain p q → (q ≡ p) ⊎ (is_pending t q ≡ true)
    pending_down p q here = inl refl
    pending_down p q (down {n = n} c e more) = elim (pending_down n q more) [
      | inl same ↦ inr (let P : ℕ → Type 0 = λ k. is_pending t k ≡ true in subst P (sym same) e)
      | inr is ↦ inr is
    ]

    module _ (x q : ℕ) (strand : is_strand t x ≡ true) (d : Down x q) where
      -- each pending block of the strand is on the way
      abbrev Passed : ℕ → Type 0
      Passed n = is_pending t n ≡ true → strand_of t n ≡ x → Down n q

      passed_next : (n : ℕ) → 0 < n → n < length t → Passed (parent_of t n) → Passed n
      passed_next n some low above e own =
          let p = parent_of t n in
          let c : IsChild t p n = record { some = some; there = low; parent = refl } in
          let up : p < n = w.rooted n some low in
          let same : strand_of t p ≡ x = sym (own_strand p n c e) ∙ own in
          elim (or_cases (is_strand t p) (is_block t p) (held n e)) [
            | inl is ↦
                (let here : x ≡ p = sym same ∙ strand_itself t w.rooted p is in
                let P : ℕ → Type 0 = λ k. Down k q in
                next p n q (strand_no_fork t p is) c e (subst P here d))
            | inr is ↦
                (let over : is_above t p n ≡ true = above_parent t w.rooted p n some low ∙ ancestor_self t p in
                let waits = pl.around p n (omega arith) low (and_from (is_pending t n && is_block t p) (is_above t p n) (and_from (is_pending t n) (is_block t p) e is) over) in
                next p n q (pending_no_fork p waits) c e (above waits same))
          ]

      passed : (n : ℕ) → n < length t → Passed n
      passed = by_parent t w.rooted Passed (λ e. absurd (let root = w.root in let other = not_strand 0 e in cc)) passed_next

      abbrev begun : ℕ → Bool
      begun n = is_pending t n && nat_eq (strand_of t n) x

      not_behind : (n : ℕ) → n < length t → begun n ≡ true → n ≤ q
      not_behind n low e =
          let z = and_parts (is_pending t n) (nat_eq (strand_of t n) x) e in
          lower n q (passed n low z.0 (eqb-true (strand_of t n) x z.1)).chain

      -- so it stands there
      pub place_is : place t x ≡ q
      place_is = elim (pending_down x q d.chain) [
        | inl same ↦
            ap (λ o. unwrap_or o x)
            (last_none begun (length t)
            (λ n low. false_from_ne_true (begun n) (λ e.
            let z = and_parts (is_pending t n) (nat_eq (strand_of t n) x) e in
            let own : strand_of t n ≡ x = eqb-true (strand_of t n) x z.1 in
            let le = not_behind n low e in
            let ge = strand_of_le t w.rooted n low in
            let one : n ≡ x = omega arith in
            absurd (let other = not_strand n z.0 in let is = ap (is_strand t) one in cc))))
            ∙ sym same
        | inr waits ↦
            ap (λ o. unwrap_or o x)
            (last_some begun (length t) q (record {
              low = pending_there t q waits;
              passes = and_from (is_pending t q) (nat_eq (strand_of t q) x) waits (eq-eqb (strand_of t q) x (strand_down x q d.chain ∙ strand_itself t w.rooted x strand));
              none = λ n l low. false_from_ne_true (begun n) (λ e. absurd (let le = not_behind n low e in omega arith));
            }))
      ]
