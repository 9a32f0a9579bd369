-- Where left strands go first, what stands to the left comes earlier in the order.
use Rattle.std.proofs.Common.{◌≡◌, ℕ, ◌<◌, ◌≤◌, List, length, refl, ap, sym, ◌∙◌, arith, Bool, true, false, cond, Option, inl, inr, subst}
use Rattle.std.specs.Prelude.{◌⊎◌}
use Rattle.cw_strand.specs.Strands.{Strands}
use Rattle.cw_tree.specs.declared.node.Node.{Node}
use Rattle.cw_tree.specs.Nodes.{parent_of, stamp_of, end_of, is_strand, is_block, is_pending, is_committed, is_aborted}
use Rattle.cw_tree.specs.Walks.{is_ancestor}
use Rattle.cw_tree.proofs.Lists.{In}
use Rattle.cw_tree.proofs.Members.{in_map, map_in}
use Rattle.cw_tree.proofs.Ahead.{Ahead, ahead_map, apart_map}
use Rattle.cw_tree.proofs.Walks.Ancestors.{ancestor_self, ancestor_step, ancestor_up, ancestor_le, ancestor_trans, root_ancestor}
use Rattle.cw_tree.proofs.Walks.Kin.{children_apart}
use Rattle.cw_open.specs.LeftFirst.{LeftsAreOlder}
use Rattle.cw_record.specs.declared.items.OrderItem.{OrderItem}
use Rattle.cw_record.specs.Items.{is_act, key}
use Rattle.cw_record.specs.Order.{node_of}
use Rattle.cw_replay.proofs.Kin.{left_child, right_child, left_less, fork_child, either_over, parent_low}
use Rattle.cw_replay.proofs.RecordsReplay.Machine.Acts.{Act, item, stop, place}
use Rattle.cw_replay.proofs.RecordsReplay.Work.Orders.{Respects}
use Rattle.cw_replay.proofs.RecordsReplay.Tasks.Sorts.{strand_sort, pending_sort, kept_block}
use Rattle.cw_replay.proofs.RecordsReplay.Tasks.Tasks.{whole}
use Rattle.cw_replay.proofs.RecordsReplay.Tasks.Places.{Under, whole_has}
use Rattle.cw_replay.proofs.RecordsReplay.Tasks.Quiet.{Ended, Calm, calm, calm_strand}
use Rattle.cw_replay.proofs.RecordsReplay.Ordered.Entries.{Stays, Entry, one_entry, stays_plain, Order, AllStay, all_stay}
use Rattle.cw_replay.proofs.RecordsReplay.Ordered.Ordering.{Over, Leads, earlier, order_once}
use Rattle.cw_replay.proofs.RecordsReplay.Ordered.Climbing.{stands}
use Rattle.cw_replay.proofs.RecordsReplay.Ordered.Respecting.{Items, respects_from, of_proper}
use Rattle.cw_replay.proofs.RecordsReplay.Ordered.Runs.{Run, not_calm, stamp_some, key_least}
use Rattle.cw_replay.proofs.LeftFirst.Leftmost.{Beside, beside_has}
use Rattle.cw_replay.proofs.LeftFirst.Parted.{Parted, whole_beside}
use Rattle.cw_replay.proofs.LeftFirst.Lefts.{LeftsEnd}

either_less : (b : Bool) (x y z : ℕ) → x < z → y < z → cond b x y < z
either_less true x y z f g = f
either_less false x y z f g = g

module _ {A : Type 0} (s : Strands A) (t : List Node) (p : ℕ) (r : Run s t p) (older : LeftsAreOlder t) (ends : LeftsEnd s t r.account) where
  module _ (i j : Act) (x : Parted s t r.account i j) where
    abbrev l : ℕ
    l = x.left

    abbrev d : ℕ
    d = x.right

    left_up : parent_of t l ≡ x.fork
    left_up = (left_child t x.fork l d x.strands).parent

    right_up : parent_of t d ≡ x.fork
    right_up = (right_child t x.fork l d x.strands).parent

    low : d < length t
    low = (right_child t x.fork l d x.strands).there

    some : 0 < l
    some = (left_child t x.fork l d x.strands).some

    less : l < d
    less = left_less t x.fork l d x.strands

    strand_left : is_strand t l ≡ true
    strand_left = let h = less in let k = low in let up = parent_low t r.laid.tree.rooted x.fork l (left_child t x.fork l d x.strands) in fork_child t r.laid.tree x.fork l (omega arith) x.forks (left_child t x.fork l d x.strands)

    strand_right : is_strand t d ≡ true
    strand_right = let h = less in let k = low in let up = parent_low t r.laid.tree.rooted x.fork l (left_child t x.fork l d x.strands) in fork_child t r.laid.tree x.fork d (omega arith) x.forks (right_child t x.fork l d x.strands)

    -- no node stands in both
    never_both : (n : ℕ) → n < length t → is_ancestor t l n ≡ true → is_ancestor t d n ≡ true → ⊥
    never_both n h e f =
        let same : l ≡ d = children_apart t r.laid.tree.rooted l d n h some (let a = some in let b = less in omega arith) (left_up ∙ sym right_up) e f in
        let b = less in
        omega arith

    -- what is over the fork is over both
    over_left : (m : ℕ) → is_ancestor t m x.fork ≡ true → is_ancestor t m l ≡ true
    over_left m e =
        let P : ℕ → Type 0 = λ q. is_ancestor t m q ≡ true in
        let h = less in
        let k = low in
        ancestor_up t r.laid.tree.rooted m l some (omega arith) (subst P (sym left_up) e)

    over_right : (m : ℕ) → is_ancestor t m x.fork ≡ true → is_ancestor t m d ≡ true
    over_right m e =
        let P : ℕ → Type 0 = λ q. is_ancestor t m q ≡ true in
        let h = less in
        let k = some in
        ancestor_up t r.laid.tree.rooted m d (omega arith) low (subst P (sym right_up) e)

    -- what is over a strand of the fork, and is another node, is over the fork
    past : (q m : ℕ) → 0 < q → q < length t → parent_of t q ≡ x.fork → (q ≡ m → ⊥) → is_ancestor t m q ≡ true → is_ancestor t m x.fork ≡ true
    past q m pos h up ne e = let P : ℕ → Type 0 = λ z. is_ancestor t m z ≡ true in subst P up (sym (ancestor_step t r.laid.tree.rooted m q pos h ne) ∙ e)

    pub left_ended : Ended s t r.account l
    left_ended = ends x.fork l d x.forks x.strands j x.in_right

    -- nothing in the left strand is pending, if it was not rolled back
    left_calm : (a : ℕ) → a < length t → is_ancestor t l a ≡ true → ((b : ℕ) → is_ancestor t b a ≡ true → is_aborted t b ≡ false) → Calm s t r.account a
    left_calm a h over live = calm s t r.account l (calm_strand s t r.account l strand_left left_ended) a h over live

    -- it goes into the order where what stands to the right does
    left_reaches : (o : OrderItem) → i ≡ item o → Under s t r.account 0 (item o) → ((a : ℕ) → is_pending t a ≡ true → is_ancestor t a (place j) ≡ true → Stays t p r.laid a) → In o (Order t p r.laid)
    left_reaches o is u up = stands t p r.laid o u.there (of_proper s t p r o u.proper) around where
      P : Act → Type 0
      P = λ v. is_ancestor t l (place v) ≡ true

      inside : is_ancestor t l (node_of o) ≡ true
      inside = subst P is x.in_left.over

      live : (a : ℕ) → a < length t → is_ancestor t a (node_of o) ≡ true → is_aborted t a ≡ false
      live a h f = (u.kept a (root_ancestor t r.laid.tree.rooted a h) f).0

      around : AllStay t p r.laid (node_of o)
      around a b f =
          let le : a ≤ node_of o = ancestor_le t r.laid.tree.rooted a (node_of o) u.there f in
          let hi = u.there in
          let h : a < length t = omega arith in
          elim (kept_block t a b (live a h f)) [
            | inl c ↦ inr (inl c)
            | inr q ↦ elim (either_over t r.laid.tree.rooted l a (node_of o) u.there inside f) [
              | inl z ↦
                  (let c = left_calm a h z (λ b g.
                  let low : b ≤ a = ancestor_le t r.laid.tree.rooted b a h g in
                  live b (omega arith) (ancestor_trans t r.laid.tree.rooted b a (node_of o) u.there g f)) in
                  let none = c.quiet.none in
                  absurd (cc (none, q)))
              | inr z ↦
                  (let ne : l ≡ a → ⊥ = λ e. absurd (cc ((strand_sort t l strand_left).pending, ap (is_pending t) e, q)) in
                  let k = less in
                  let k_low = low in
                  up a q (ancestor_trans t r.laid.tree.rooted a d (place j) x.in_right.there (over_right a (past l a some (omega arith) left_up ne z)) x.in_right.over))
            ]
          ]

    -- a strand that stopped is no left one of what was done
    left_goes_on : (n : ℕ) → i ≡ stop n → r.account.stop.at n ≡ true → ⊥
    left_goes_on n is e =
        let z = r.account.stops n e in
        let P : Act → Type 0 = λ v. is_ancestor t l (place v) ≡ true in
        not_calm s t p r n e (left_calm n z.there (subst P is x.in_left.over) z.live)

  -- ## Of two items that on the left leads

  module _ (i j : OrderItem) (x : Parted s t r.account (item i) (item j)) where
    in_left : is_ancestor t x.left (node_of i) ≡ true
    in_left = x.in_left.over

    in_right : is_ancestor t x.right (node_of j) ≡ true
    in_right = x.in_right.over

    apart : (n : ℕ) → n < length t → is_ancestor t x.left n ≡ true → is_ancestor t x.right n ≡ true → ⊥
    apart = never_both (item i) (item j) x

    smaller : (b : Option ℕ) (m n : ℕ) → Entry t p r.laid b m → Entry t p r.laid b n → (m ≡ n → ⊥) → Over t p r.laid m i → Over t p r.laid n j → (is_act t n ≡ true) ⊎ (is_committed t n ≡ true) → (key t m < key t n) × (is_pending t m ≡ true → ⊥)
    smaller b m n em en ne ai aj k =
        let up_left = left_up (item i) (item j) x in
        let up_right = right_up (item i) (item j) x in
        let h_right = low (item i) (item j) x in
        let h_some = some (item i) (item j) x in
        let h_less = less (item i) (item j) x in
        let left : is_ancestor t x.left m ≡ true = elim (either_over t r.laid.tree.rooted x.left m (node_of i) ai.1 in_left ai.0) [
          | inl z ↦ z
          | inr z ↦
              (let other : x.left ≡ m → ⊥ = λ e. absurd (cc (strand_left (item i) (item j) x, ap (is_strand t) e, stays_plain t p r.laid m em.stays)) in
              let over = over_right (item i) (item j) x m (past (item i) (item j) x x.left m h_some (omega arith) up_left other z) in
              absurd (ne (one_entry t p r.laid b m n (node_of j) em en aj.1 (ancestor_trans t r.laid.tree.rooted m x.right (node_of j) aj.1 over in_right) aj.0)))
        ] in
        let right : is_ancestor t x.right n ≡ true = elim (either_over t r.laid.tree.rooted x.right n (node_of j) aj.1 in_right aj.0) [
          | inl z ↦ z
          | inr z ↦
              (let other : x.right ≡ n → ⊥ = λ e. absurd (cc (strand_right (item i) (item j) x, ap (is_strand t) e, stays_plain t p r.laid n en.stays)) in
              let over = over_left (item i) (item j) x n (past (item i) (item j) x x.right n (omega arith) h_right up_right other z) in
              absurd (ne (one_entry t p r.laid b m n (node_of i) em en ai.1 ai.0 (ancestor_trans t r.laid.tree.rooted n x.left (node_of i) ai.1 over in_left))))
        ] in
        let o = older m n em.there en.there (record { fork = x.fork; left = x.left; right = x.right; forks = x.forks; strands = x.strands; in_left = left; in_right = right }) (stamp_some s t p r n en.there en.stays) in
        let came = o.came in
        let ended = o.ended in
        let shut = o.shut in
        let bound : stamp_of t n ≤ key t n = key_least s t p r n n en.there en.there (ancestor_self t n) k in
        let l : key t m < stamp_of t n = either_less (is_block t m) (end_of t m) (stamp_of t m) (stamp_of t n) ended came in
        (omega arith, λ q. absurd (cc (q, shut)))

    pub left_leads : Leads t p r.laid i j
    left_leads = record {
      no_begin = λ m h a q.
          (let P : OrderItem → Type 0 = λ y. is_ancestor t x.right (node_of y) ≡ true in
          let over : is_ancestor t x.right m ≡ true = subst P q in_right in
          apart (node_of i) a.1 in_left (ancestor_trans t r.laid.tree.rooted x.right m (node_of i) a.1 over a.0));
      no_end = λ m h a q.
          (let P : OrderItem → Type 0 = λ y. is_ancestor t x.left (node_of y) ≡ true in
          let over : is_ancestor t x.left m ≡ true = subst P q in_left in
          apart (node_of j) a.1 (ancestor_trans t r.laid.tree.rooted x.left m (node_of j) a.1 over a.0) in_right);
      not_same = λ m h q e.
          (let P : OrderItem → Type 0 = λ y. is_ancestor t x.left (node_of y) ≡ true in
          let Q : OrderItem → Type 0 = λ y. is_ancestor t x.right (node_of y) ≡ true in
          apart m h (subst P q in_left) (subst Q e in_right));
      smaller = smaller;
    }

  -- ## The order

  left_earlier : (i j : Act) → In j (Items s t p r) → Parted s t r.account i j → Under s t r.account 0 i → Ahead i j (Items s t p r)
  left_earlier (stop n) j h x u = absurd (left_goes_on (stop n) j x n refl u.proper)
  left_earlier (item i) j h x u =
      let y = in_map item j (Order t p r.laid) h in
      let P : Act → Type 0 = λ v. Parted s t r.account (item i) v in
      let Q : Act → Type 0 = λ v. Ahead (item i) v (Items s t p r) in
      let z = subst P y.2 x in
      let there = left_reaches (item i) (item y.0) z i refl u (λ a q f. all_stay t p r.laid y.0 y.1 a (pending_sort t a q).block f) in
      subst Q (sym y.2) (ahead_map item i y.0 (Order t p r.laid) (earlier t p r.laid i y.0 (left_leads i y.0 z) there y.1))

  -- each item comes after all that stands to its left
  pub lefts_respected : Respects (λ i j. Beside i j (whole r.account.stop t)) (λ j. Unit {0}) (λ i. ⊥) (Items s t p r)
  lefts_respected =
      respects_from (λ i j. Beside i j (whole r.account.stop t)) (λ j. Unit {0}) (λ i. ⊥) (Items s t p r) (λ j h. tt)
      (λ i j h b. inr (left_earlier i j h (whole_beside s t r.account i j b) (whole_has s t r.account i (beside_has i j (whole r.account.stop t) b).0)))
      (λ j h e. e)
      (apart_map item (Order t p r.laid) (λ x y i j e. let q : x ≡ y = cc e in q) (order_once t p r.laid))

  -- and so does where a strand stopped
  pub lefts_seen : (n : ℕ) → r.account.stop.at n ≡ true → (i : Act) → Beside i (stop n) (whole r.account.stop t) → In i (Items s t p r)
  lefts_seen n e i b = by i (whole_beside s t r.account i (stop n) b) (whole_has s t r.account i (beside_has i (stop n) (whole r.account.stop t) b).0) where
    by : (i : Act) → Parted s t r.account i (stop n) → Under s t r.account 0 i → In i (Items s t p r)
    by (stop m) x u = absurd (left_goes_on (stop m) (stop n) x m refl u.proper)
    by (item o) x u = map_in item o (Order t p r.laid) (left_reaches (item o) (stop n) x o refl u (λ a q f. inr (inr (q, ancestor_trans t r.laid.tree.rooted a n p r.laid.there f (r.toward n e)))))
