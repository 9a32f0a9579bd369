-- Stamps stay apart, and rise along the tree, as a node is made at a place.
use Rattle.std.proofs.Common.{◌≡◌, ℕ, ◌<◌, List, [], ◌∷◌, ◌++◌, length, refl, ap, sym, ◌∙◌, arith, Bool, true, false, Option, inl, inr, nat_lt}
use Rattle.std.specs.Prelude.{◌&&◌, ◌||◌, not}
use Rattle.std.proofs.lemmas.Bool.{and_parts, and_from, not-true, cases_lt}
use Rattle.cw_tree.specs.declared.node.Node.{Node}
use Rattle.cw_tree.specs.declared.node.Kind.{Kind}
use Rattle.cw_tree.specs.declared.node.Kind.TheVariants.{Block}
use Rattle.cw_tree.specs.Nodes.{passes, is_strand_kind, is_tried_kind, is_block_kind, is_pending_state, first_state, stamp_of, end_of, is_block, is_pending, fresh_node}
use Rattle.cw_tree.specs.Walks.{IsRooted, has, is_ancestor, is_above}
use Rattle.cw_tree.specs.Series.{is_before}
use Rattle.cw_tree.specs.Shape.{AreStamps, has_stamp, is_closed}
use Rattle.cw_tree.specs.NextNodes.{IsNextStamp}
use Rattle.cw_tree.proofs.NextNodes.Growing.{get_append, get_next, length_more, node_grown, number_grown, number_new, rooted_more, is_above_grown, above_new}
use Rattle.cw_tree.proofs.NextNodes.Trees.{each_more}
use Rattle.cw_tree.proofs.NextNodes.Before.{above_less, old_before, new_first, new_before_at, new_apart}

-- what holds of all two, one of which may be what comes behind
pub each_two : {X : Type 0} (xs : List X) (x : X) (P : ℕ → ℕ → Type 0) → ((n m : ℕ) → n < length xs → m < length xs → P n m) → ((n : ℕ) → n < length xs → P n (length xs)) → ((m : ℕ) → m < length xs → P (length xs) m) → P (length xs) (length xs)
    → (n m : ℕ) → n < length (xs ++ x ∷ []) → m < length (xs ++ x ∷ []) → P n m
each_two xs x P old later earlier new n m hn hm =
    each_more xs x (λ n. P n m) (λ n h. each_more xs x (P n) (λ m l. old n m h l) (later n h) m hm) (each_more xs x (P (length xs)) earlier new m hm) n hn

-- tests that look at a node alone: that it has a stamp, and that it is a closed block
abbrev pub stamp_test : Option Node → Bool
stamp_test o = not (passes (λ y. is_strand_kind y.kind) o || passes (λ y. is_tried_kind y.kind) o)

abbrev pub closed_test : Option Node → Bool
closed_test o = passes (λ y. is_block_kind y.kind) o && not (passes (λ y. is_block_kind y.kind && is_pending_state y.state) o)

-- a new block is not closed
new_unclosed : (k : Kind) → (is_block_kind k && not (is_block_kind k && is_pending_state (first_state k))) ≡ false
new_unclosed Block = refl
new_unclosed _ = refl

-- where a node may hang: nothing comes after it in series, and the blocks around it are pending
pub record IsEnd (t : List Node) (p : ℕ) : Type 0 where
  pub there : p < length t
  pub last : (n : ℕ) → n < length t → is_before t p n ≡ false
  pub around : (b : ℕ) → (is_block t b && is_ancestor t b p) ≡ true → is_pending t b ≡ true

-- the blocks around it are not closed
pub closed_apart : (t : List Node) (p : ℕ) → IsEnd t p → (b : ℕ) → is_closed t b ≡ true → is_ancestor t b p ≡ true → ⊥
closed_apart t p w b e over =
    let z = and_parts (is_block t b) (not (is_pending t b)) e in
    let yes = w.around b (and_from (is_block t b) (is_ancestor t b p) z.0 over) in
    let no = not-true (is_pending t b) z.1 in
    absurd (cc (yes, no))

-- a node that has a stamp, which is the next, or has none
module _ (t : List Node) (r : IsRooted t) (s : AreStamps t) (p : ℕ) (there : p < length t) (kind : Kind) (stamp : ℕ) (fits : nat_lt 0 stamp ≡ not (is_strand_kind kind || is_tried_kind kind)) (next : 0 < stamp → IsEnd t p × IsNextStamp t p stamp) where
  abbrev x : Node
  x = fresh_node p kind stamp

  abbrev u : List Node
  u = t ++ x ∷ []

  abbrev g : ℕ
  g = length t

  old_stamp : (n : ℕ) → n < g → stamp_of u n ≡ stamp_of t n
  old_stamp = number_grown t (x ∷ []) (λ y. y.stamp)

  new_stamp : stamp_of u g ≡ stamp
  new_stamp = number_new t x (λ y. y.stamp)

  old_end : (n : ℕ) → n < g → end_of u n ≡ end_of t n
  old_end = number_grown t (x ∷ []) (λ y. y.end)

  new_end : end_of u g ≡ 0
  new_end = number_new t x (λ y. y.end)

  old_closed : (n : ℕ) → n < g → is_closed u n ≡ is_closed t n
  old_closed n h = ap closed_test (get_append t (x ∷ []) n h)

  new_closed : is_closed u g ≡ false
  new_closed = ap closed_test (get_next t x []) ∙ new_unclosed kind

  more : IsRooted u
  more = rooted_more t x r there

  stamps_there : (n : ℕ) → n < length u → nat_lt 0 (stamp_of u n) ≡ has_stamp u n
  stamps_there =
      each_more t x (λ n. nat_lt 0 (stamp_of u n) ≡ has_stamp u n)
      (λ n h. ap (nat_lt 0) (old_stamp n h) ∙ s.there n h ∙ sym (ap stamp_test (get_append t (x ∷ []) n h)))
      (ap (nat_lt 0) new_stamp ∙ fits ∙ sym (ap stamp_test (get_next t x [])))

  new_before : (n : ℕ) → n < g → is_before u n g ≡ true → 0 < stamp → (stamp_of u n < stamp_of u g) × (end_of u n < stamp_of u g)
  new_before n h e some =
      let z = (next some).1.series n h (new_before_at t x r there n h e) in
      (omega (arith, z.0, old_stamp n h, new_stamp), omega (arith, z.1, old_end n h, new_stamp))

  new_begun : (b : ℕ) → b < g → (is_block u b && is_above u b g) ≡ true → 0 < stamp → stamp_of u b < stamp_of u g
  new_begun b h e some =
      let was = sym (ap (λ q. q && is_ancestor t b p) (node_grown t (x ∷ []) (λ y. is_block_kind y.kind) b h)) ∙ sym (ap (λ q. is_block u b && q) (ap (λ ns. has ns b) (above_new t x r there))) ∙ e in
      let z = (next some).1.begun b h was in
      omega (arith, z, old_stamp b h, new_stamp)

  -- it is before no node, except one without a stamp
  new_earlier : (n : ℕ) → n < g → is_before u g n ≡ true → 0 < stamp_of u n → (stamp_of u g < stamp_of u n) × (end_of u g < stamp_of u n)
  new_earlier n h e some =
      elim (cases_lt 0 stamp) [
        | inl has ↦ (let w = (next has).0 in absurd (cc (e, new_first t x r there w.last n h)))
        | inr none ↦ (omega (arith, new_stamp), omega (arith, new_end))
      ]

  new_beneath : (b : ℕ) → b < g → (is_closed u b && is_above u b g) ≡ true → (stamp_of u g < end_of u b) × (end_of u g < end_of u b)
  new_beneath b h e =
      let z = and_parts (is_closed u b) (is_above u b g) e in
      let shut = sym (old_closed b h) ∙ z.0 in
      let ended = s.ended b h shut in
      elim (cases_lt 0 stamp) [
        | inl some ↦ absurd (closed_apart t p (next some).0 b shut (sym (ap (λ ns. has ns b) (above_new t x r there)) ∙ z.1))
        | inr none ↦ (omega (arith, new_stamp, old_end b h), omega (arith, new_end, old_end b h))
      ]

  pub stamps_more : AreStamps u
  stamps_more = record {
    there = stamps_there;
    distinct = each_two t x (λ n k. 0 < stamp_of u n → stamp_of u n ≡ stamp_of u k → n ≡ k)
        (λ n k hn hk some e. s.distinct n k hn hk (omega (arith, old_stamp n hn)) (sym (old_stamp n hn) ∙ e ∙ old_stamp k hk))
        (λ n h some e. absurd (((next (omega (arith, new_stamp))).1.fresh n h).0 (sym (old_stamp n h) ∙ e ∙ new_stamp)))
        (λ k h some e. absurd (((next (omega (arith, new_stamp))).1.fresh k h).0 (sym (old_stamp k h) ∙ sym e ∙ new_stamp)))
        (λ some e. refl);
    ends_distinct = each_two t x (λ n k. 0 < end_of u n → end_of u n ≡ end_of u k → n ≡ k)
        (λ n k hn hk some e. s.ends_distinct n k hn hk (omega (arith, old_end n hn)) (sym (old_end n hn) ∙ e ∙ old_end k hk))
        (λ n h some e. absurd (omega (arith, new_end)))
        (λ k h some e. absurd (omega (arith, new_end)))
        (λ some e. refl);
    apart = each_two t x (λ n k. 0 < end_of u n → end_of u n ≡ stamp_of u k → ⊥)
        (λ n k hn hk some e. s.apart n k hn hk (omega (arith, old_end n hn)) (sym (old_end n hn) ∙ e ∙ old_stamp k hk))
        (λ n h some e. ((next (omega (arith, new_stamp))).1.fresh n h).1 (sym (old_end n h) ∙ e ∙ new_stamp))
        (λ k h some e. omega (arith, new_end))
        (λ some e. omega (arith, new_end));
    series = each_two t x (λ n k. is_before u n k ≡ true → 0 < stamp_of u k → (stamp_of u n < stamp_of u k) × (end_of u n < stamp_of u k))
        (λ n k hn hk e some.
        let z = s.series n k hn hk (old_before t x r there n k hn hk e) (omega (arith, old_stamp k hk)) in
        (omega (arith, z.0, old_stamp n hn, old_stamp k hk), omega (arith, z.1, old_end n hn, old_stamp k hk)))
        (λ n h e some. new_before n h e (omega (arith, new_stamp)))
        new_earlier
        (λ e some. absurd (cc (e, new_apart t x r there)));
    begun = each_two t x (λ b k. (is_block u b && is_above u b k) ≡ true → 0 < stamp_of u k → stamp_of u b < stamp_of u k)
        (λ b k hb hk e some.
        let was = sym (ap (λ q. q && is_above t b k) (node_grown t (x ∷ []) (λ y. is_block_kind y.kind) b hb)) ∙ sym (ap (λ q. is_block u b && q) (is_above_grown t (x ∷ []) r b k hk)) ∙ e in
        omega (arith, s.begun b k hb hk was (omega (arith, old_stamp k hk)), old_stamp b hb, old_stamp k hk))
        (λ b h e some. new_begun b h e (omega (arith, new_stamp)))
        (λ k h e some. absurd (let less = above_less u more g k (omega (arith, length_more t x)) (and_parts (is_block u g) (is_above u g k) e).1 in omega arith))
        (λ e some. absurd (let less = above_less u more g g (omega (arith, length_more t x)) (and_parts (is_block u g) (is_above u g g) e).1 in omega arith));
    ended = each_more t x (λ b. is_closed u b ≡ true → stamp_of u b < end_of u b)
        (λ b h e. omega (arith, s.ended b h (sym (old_closed b h) ∙ e), old_stamp b h, old_end b h))
        (λ e. absurd (cc (e, new_closed)));
    beneath = each_two t x (λ b k. (is_closed u b && is_above u b k) ≡ true → (stamp_of u k < end_of u b) × (end_of u k < end_of u b))
        (λ b k hb hk e.
        let was = sym (ap (λ q. q && is_above t b k) (old_closed b hb)) ∙ sym (ap (λ q. is_closed u b && q) (is_above_grown t (x ∷ []) r b k hk)) ∙ e in
        let z = s.beneath b k hb hk was in
        (omega (arith, z.0, old_stamp k hk, old_end b hb), omega (arith, z.1, old_end k hk, old_end b hb)))
        new_beneath
        (λ k h e. absurd (cc ((and_parts (is_closed u g) (is_above u g k) e).0, new_closed)))
        (λ e. absurd (cc ((and_parts (is_closed u g) (is_above u g g) e).0, new_closed)));
    no_end = each_more t x (λ n. is_closed u n ≡ false → end_of u n ≡ 0)
        (λ n h e. old_end n h ∙ s.no_end n h (sym (old_closed n h) ∙ e))
        (λ e. new_end);
  }
