-- In a tree that one worker builds stamps rise with the numbers, also past the ends of blocks; so what ended between two accesses of a cell
-- ended before the later one.
use Rattle.std.proofs.Common.{◌≡◌, ℕ, zero, suc, ◌<◌, ◌≤◌, List, [], ◌∷◌, ◌++◌, length, refl, ap, sym, ◌∙◌, subst, arith, Bool, true, false, cond, inl, inr}
use Rattle.std.specs.Prelude.{◌&&◌, not}
use Rattle.std.proofs.lemmas.Bool.{and_parts, cases_eq, not-true}
use Rattle.std.proofs.lemmas.List.{append-nil}
use Rattle.std.proofs.lemmas.List.Elements.{filter-append}
use Rattle.cw_tree.specs.declared.node.Node.{Node}
use Rattle.cw_tree.specs.declared.node.Kind.{Kind}
use Rattle.cw_tree.specs.declared.node.Kind.TheVariants.{Strand, Fork}
use Rattle.cw_tree.specs.declared.node.BlockState.TheVariants.{Committed}
use Rattle.cw_tree.specs.Nodes.{stamp_of, end_of, is_block, is_committed, touches, touches_kind, below, fresh_node, closed}
use Rattle.cw_tree.specs.Walks.{IsRooted, is_above, is_ancestor}
use Rattle.cw_tree.specs.Accesses.{by_key}
use Rattle.cw_tree.specs.Shape.{AreStamps}
use Rattle.cw_tree.specs.Journals.{EndedBetween, AllEndedBetween, JournalsEnded}
use Rattle.cw_tree.proofs.Walks.Ancestors.{ancestor_self, ancestor_above}
use Rattle.cw_tree.proofs.NextNodes.Closing.{length_closed, number_closed, number_closed_other, is_above_closed}
use Rattle.cw_tree.proofs.NextNodes.Growing.{number_grown, number_new, is_above_grown}
use Rattle.cw_tree.proofs.InOrder.Keys.{by_key_last}
use Rattle.cw_tree.proofs.Lists.{In}
use Rattle.cw_tree.proofs.ChainLaws.LiveAccesses.{accesses_below, all_live}
use Rattle.cw_tree.proofs.Members.{in_below, in_filter}
use Rattle.cw_tree.proofs.Walks.There.{node_there}
use Rattle.cw_record.specs.Drawn.{added, added_fork}
use Rattle.cw_record.proofs.OneWorker.Building.{IsBuilt}
use Rattle.cw_tree.proofs.NextNodes.Before.{above_less}
use Rattle.cw_tree.proofs.NextNodes.Stamps.{each_two}
use Rattle.cw_tree.proofs.NodeKinds.{access_stamped}
use Rattle.cw_record.proofs.OneWorker.NoneAborted.{not_aborted}

pub record IsRising (t : List Node) : Type 0 where
  pub rising : (n m : ℕ) → n < length t → m < length t → n < m → 0 < stamp_of t m → stamp_of t n < stamp_of t m
  pub past : (n m : ℕ) → n < length t → m < length t → n < m → is_above t n m ≡ false → 0 < stamp_of t m → end_of t n < stamp_of t m

pub rising_root : IsRising (fresh_node 0 Strand 0 ∷ [])
rising_root = record { rising = λ n m hn hm less some. absurd (omega arith); past = λ n m hn hm less apart some. absurd (omega arith) }

-- ## A step

-- a node that has no stamp, or one that is above all others
module _ (t : List Node) (r : IsRooted t) (g : IsRising t) (p : ℕ) (kind : Kind) (stamp : ℕ) (over : 0 < stamp → (n : ℕ) → n < length t → (stamp_of t n < stamp) × (end_of t n < stamp)) where
  abbrev x : Node
  x = fresh_node p kind stamp

  abbrev u : List Node
  u = added t p kind stamp

  old_stamp : (n : ℕ) → n < length t → stamp_of u n ≡ stamp_of t n
  old_stamp = number_grown t (x ∷ []) (λ y. y.stamp)

  old_end : (n : ℕ) → n < length t → end_of u n ≡ end_of t n
  old_end = number_grown t (x ∷ []) (λ y. y.end)

  new_stamp : stamp_of u (length t) ≡ stamp
  new_stamp = number_new t x (λ y. y.stamp)

  pub rising_more : IsRising u
  rising_more = record {
    rising = each_two t x (λ n m. n < m → 0 < stamp_of u m → stamp_of u n < stamp_of u m)
        (λ n m hn hm less some. omega (arith, g.rising n m hn hm less (omega (arith, old_stamp m hm)), old_stamp n hn, old_stamp m hm))
        (λ n h less some. omega (arith, (over (omega (arith, new_stamp)) n h).0, old_stamp n h, new_stamp))
        (λ m h less some. absurd (omega arith))
        (λ less some. absurd (omega arith));
    past = each_two t x (λ n m. n < m → is_above u n m ≡ false → 0 < stamp_of u m → end_of u n < stamp_of u m)
        (λ n m hn hm less apart some. omega (arith, g.past n m hn hm less (sym (is_above_grown t (x ∷ []) r n m hm) ∙ apart) (omega (arith, old_stamp m hm)), old_end n hn, old_stamp m hm))
        (λ n h less apart some. omega (arith, (over (omega (arith, new_stamp)) n h).1, old_end n h, new_stamp))
        (λ m h less apart some. absurd (omega arith))
        (λ less apart some. absurd (omega arith));
  }

pub rising_strand : (t : List Node) → IsRooted t → IsRising t → (f : ℕ) → IsRising (added t f Strand 0)
rising_strand t r g f = rising_more t r g f Strand 0 (λ some. absurd (omega arith))

module _ (t : List Node) (p clock : ℕ) (b : IsBuilt t p clock) (g : IsRising t) where
  over_clock : (st : ℕ) → clock < st → (n : ℕ) → n < length t → (stamp_of t n < st) × (end_of t n < st)
  over_clock st later n h = let s = b.stamps n in let e = b.ends n in (omega arith, omega arith)

  pub rising_next : (kind : Kind) (st : ℕ) → clock < st → IsRising (added t p kind st)
  rising_next kind st later = rising_more t b.rooted g p kind st (λ some. over_clock st later)

  pub rising_forked : (st : ℕ) → clock < st → IsRooted (added t p Fork st) → IsRising (added_fork t p st)
  rising_forked st later r = rising_strand (added t p Fork st) r (rising_next Fork st later) (length t)

  -- the block at the place has ended: nothing stands behind it
  pub rising_closed : (st : ℕ) → IsRising (closed t p Committed st)
  rising_closed st = record { rising = rising; past = past } where
    v : List Node
    v = closed t p Committed st

    stamp : (n : ℕ) → stamp_of (closed t p Committed st) n ≡ stamp_of t n
    stamp = number_closed t p Committed st (λ y. y.stamp) (λ y. refl)

    low : (n : ℕ) → n < length (closed t p Committed st) → n < length t
    low n h = omega (arith, length_closed t p Committed st)

    rising : (n m : ℕ) → n < length (closed t p Committed st) → m < length (closed t p Committed st) → n < m → 0 < stamp_of (closed t p Committed st) m → stamp_of (closed t p Committed st) n < stamp_of (closed t p Committed st) m
    rising n m hn hm less some = omega (arith, g.rising n m (low n hn) (low m hm) less (omega (arith, stamp m)), stamp n, stamp m)

    past : (n m : ℕ) → n < length (closed t p Committed st) → m < length (closed t p Committed st) → n < m → is_above (closed t p Committed st) n m ≡ false → 0 < stamp_of (closed t p Committed st) m → end_of (closed t p Committed st) n < stamp_of (closed t p Committed st) m
    past n m hn hm less apart some =
        let was : is_above t n m ≡ false = sym (is_above_closed t p Committed st b.rooted n m (low m hm)) ∙ apart in
        elim (cases_eq n p) [
          | inl e ↦ (
              let at : p ≤ m = omega (arith, e) in
              let beneath : is_ancestor t p m ≡ true = b.last p m (ancestor_self t p) at (low m hm) in
              let P : ℕ → Type 0 = λ k. is_above t k m ≡ false in
              let above : is_above t p m ≡ true = sym (ancestor_above t p m (λ q. omega (arith, e, q))) ∙ beneath in
              absurd (cc (above, subst P e was)))
          | inr ne ↦ omega (arith, g.past n m (low n hn) (low m hm) less was (omega (arith, stamp m)), number_closed_other t p Committed st (λ y. y.end) n ne, stamp m)
        ]

-- ## What ended between accesses

ended_more : (t : List Node) (us : List ℕ) (v : ℕ) → AllEndedBetween t us → ((u : ℕ) → In u us → EndedBetween t u v) → AllEndedBetween t (us ++ v ∷ [])
ended_more t [] v h each = tt
ended_more t (u ∷ []) v h each = (each u (inl refl), tt)
ended_more t (u ∷ w ∷ us) v h each = (h.0, ended_more t (w ∷ us) v h.1 (λ x i. each x (inr i)))

module _ (t : List Node) (g : IsRising t) (stamps : AreStamps t) (c : ℕ) where
  touched : (n : ℕ) → touches t c n ≡ true → n < length t
  touched = node_there (λ x. touches_kind c x.kind) t

  -- the accesses of a cell come in the order of their numbers
  in_order : (some : (n : ℕ) → touches t c n ≡ true → 0 < stamp_of t n) (k : ℕ) → k ≤ length t → by_key (stamp_of t) (accesses_below t c k) ≡ accesses_below t c k
  in_order some zero h = refl
  in_order some (suc k) h =
      let before = accesses_below t c k in
      let old = in_order some k (omega arith) in
      ap (by_key (stamp_of t)) (filter-append (touches t c) (below k) (k ∷ []))
      ∙ by (touches t c k) refl old
      ∙ sym (filter-append (touches t c) (below k) (k ∷ [])) where
        by : (b : Bool) → touches t c k ≡ b → by_key (stamp_of t) (accesses_below t c k) ≡ accesses_below t c k
            → by_key (stamp_of t) (accesses_below t c k ++ cond b (k ∷ []) []) ≡ accesses_below t c k ++ cond b (k ∷ []) []
        by false e old = ap (by_key (stamp_of t)) (append-nil (accesses_below t c k)) ∙ old ∙ sym (append-nil (accesses_below t c k))
        by true e old =
            by_key_last (stamp_of t) k (accesses_below t c k)
            (λ n i. (let z = in_filter (touches t c) n (below k) i in let low = in_below n k z.0 in let less = g.rising n k (omega arith) (omega arith) low (some k e) in omega arith))
            ∙ ap (λ ns. ns ++ k ∷ []) old

  module _ (r : IsRooted t) (some : (n : ℕ) → touches t c n ≡ true → 0 < stamp_of t n) (shut : (b m : ℕ) → is_block t b ≡ true → b < m → m < length t → is_above t b m ≡ false → is_committed t b ≡ true) where
    between : (u v : ℕ) → u < v → touches t c v ≡ true → EndedBetween t u v
    between u v less e b low h =
        let z = and_parts (is_block t b && is_above t b u) (not (is_above t b v)) h in
        let y = and_parts (is_block t b) (is_above t b u) z.0 in
        let apart = not-true (is_above t b v) z.1 in
        let there = touched v e in
        let above : b < u = above_less t r b u (omega arith) y.1 in
        (shut b v y.0 (omega arith) there apart, g.past b v low there (omega arith) apart (some v e))

    all_between : (k : ℕ) → k ≤ length t → AllEndedBetween t (accesses_below t c k)
    all_between zero h = tt
    all_between (suc k) h =
        let P : List ℕ → Type 0 = AllEndedBetween t in
        subst P (sym (filter-append (touches t c) (below k) (k ∷ []))) (by (touches t c k) refl (all_between k (omega arith))) where
          by : (b : Bool) → touches t c k ≡ b → AllEndedBetween t (accesses_below t c k) → AllEndedBetween t (accesses_below t c k ++ cond b (k ∷ []) [])
          by false e old = (let P : List ℕ → Type 0 = AllEndedBetween t in subst P (sym (append-nil (accesses_below t c k))) old)
          by true e old = ended_more t (accesses_below t c k) k old (λ u i. between u k (in_below u k (in_filter (touches t c) u (below k) i).0) e)

-- what has ended in the tree that one worker built, for the first k cells
pub journals_ended : (t : List Node) (p clock : ℕ) → IsBuilt t p clock → IsRising t → AreStamps t → (k : ℕ) → JournalsEnded t k
journals_ended t p clock b g stamps k c h =
    let some = access_stamped t stamps c in
    let P : List ℕ → Type 0 = AllEndedBetween t in
    subst P (sym (all_live t (not_aborted t p clock b) c ∙ in_order t g stamps c some (length t) (omega arith)))
    (all_between t g stamps c b.rooted some (λ n m block less there apart.
    b.committed n block (λ over.
    let beneath : is_ancestor t n m ≡ true = b.last n m over (omega arith) there in
    let above : is_above t n m ≡ true = sym (ancestor_above t n m (λ q. omega (arith, q))) ∙ beneath in
    absurd (cc (above, apart)))) (length t) (omega arith))
