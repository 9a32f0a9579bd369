-- A run with its order, where it stopped; and that what is sooner in its tree leads in its order.
use Rattle.std.proofs.Common.{◌≡◌, ℕ, ◌<◌, ◌≤◌, List, length, refl, ap, sym, ◌∙◌, arith, Bool, true, false, cond, Option, inl, inr, subst}
use Rattle.std.specs.Prelude.{◌⊎◌, ◌&&◌, not}
use Rattle.std.proofs.lemmas.Bool.{cases_eq, ltb-true, and_from}
use Rattle.cw_strand.specs.Strands.{Strands, is_over}
use Rattle.cw_tree.specs.declared.node.Node.{Node}
use Rattle.cw_tree.specs.Nodes.{parent_of, stamp_of, end_of, is_strand, is_fork, is_block, is_pending, is_committed}
use Rattle.cw_tree.specs.Walks.{is_ancestor, is_above}
use Rattle.cw_tree.specs.Series.{is_before}
use Rattle.cw_tree.specs.Shape.{has_stamp}
use Rattle.cw_tree.proofs.Walks.Ancestors.{ancestor_self, ancestor_step, ancestor_up, ancestor_le, ancestor_trans, ancestor_above}
use Rattle.cw_tree.proofs.Walks.Kin.{before_of, branch}
use Rattle.cw_tree.proofs.InOrder.DepthFirst.{IsChild}
use Rattle.cw_record.specs.declared.items.OrderItem.{OrderItem}
use Rattle.cw_record.specs.declared.items.OrderItem.TheVariants.{Begins, Does, Ends}
use Rattle.cw_record.specs.Items.{is_act, key}
use Rattle.cw_record.specs.Order.{node_of}
use Rattle.cw_replay.proofs.RecordsReplay.Machine.Acts.{Act, item, stop, place}
use Rattle.cw_replay.proofs.RecordsReplay.Tasks.Sorts.{act_sort, committed_sort, pending_sort}
use Rattle.cw_replay.proofs.Kin.{either_over, both_over, ordered_apart}
use Rattle.cw_replay.proofs.RecordsReplay.Tasks.Accounts.{Account}
use Rattle.cw_replay.proofs.RecordsReplay.Tasks.Folds.{plain_child}
use Rattle.cw_replay.proofs.RecordsReplay.Tasks.Quiet.{Quiet, Calm, over_of, quiet_before, quiet_in_block, calm}
use Rattle.cw_replay.proofs.RecordsReplay.Tasks.Places.{IsOf, Sooner, in_series, from_begin, to_end, to_stop}
use Rattle.cw_replay.proofs.RecordsReplay.Ordered.Entries.{Laid, Entry, one_entry, Stays, leaf_over}
use Rattle.cw_replay.proofs.RecordsReplay.Ordered.Ordering.{Over, Leads}

-- the tree of a run with the states of its strands, its order, which goes down to place p, and where a strand stopped
pub record Run {A : Type 0} (s : Strands A) (t : List Node) (p : ℕ) : Type 0 where
  pub account : Account s t
  pub laid : Laid t p
  -- the order goes down to where a strand stopped, and not into what is left out
  pub toward : (n : ℕ) → account.stop.at n ≡ true → is_ancestor t n p ≡ true
  pub apart : (b : ℕ) → account.stop.out b ≡ true → is_ancestor t b p ≡ true → ⊥

module _ {A : Type 0} (s : Strands A) (t : List Node) (p : ℕ) (r : Run s t p) where
  abbrev pub Soon : Act → Act → Type 0
  Soon = Sooner s t r.account

  -- ## Nothing follows where a strand stopped

  pub not_calm : (n : ℕ) → r.account.stop.at n ≡ true → Calm s t r.account n → ⊥
  not_calm n e c =
      let z = r.account.stops n e in
      elim z.kind [
        | inl strand ↦ absurd (cc (over_of s t r.account n (c.ended strand), ap is_over z.wants ∙ r.account.not_over))
        | inr pends ↦ absurd (cc (pends, c.quiet.none))
      ]

  not_in_quiet : (n q c : ℕ) → r.account.stop.at n ≡ true → IsChild t q c → is_fork t q ≡ false → Quiet s t r.account c → is_ancestor t c n ≡ true → ⊥
  not_in_quiet n q c e k no_fork z over =
      let y = r.account.stops n e in
      not_calm n e (calm s t r.account c (record { quiet = z; ended = λ f. absurd (cc (f, plain_child s t r.account q c no_fork k)) }) n y.there over y.live)

  pub nothing_behind : (n : ℕ) → r.account.stop.at n ≡ true → (j : Act) → place j < length t → IsOf s t r.account j → Soon (stop n) j → ⊥
  nothing_behind n e j hj o (in_series c d x u v) =
      let hn = (r.account.stops n e).there in
      let lc : c ≤ n = ancestor_le t r.laid.tree.rooted c n hn u in
      let ld : d ≤ place j = ancestor_le t r.laid.tree.rooted d (place j) hj v in
      let less = x.less in
      let kc : IsChild t (parent_of t c) c = record { some = x.some; there = omega arith; parent = refl } in
      let kd : IsChild t (parent_of t c) d = record { some = omega arith; there = omega arith; parent = sym x.same } in
      not_in_quiet n (parent_of t c) c e kc x.no_fork (quiet_before s t r.account (parent_of t c) c d kc kd x.no_fork less) u
  nothing_behind n e j hj o (from_begin b q x ne) = absurd (cc q)
  nothing_behind n e j hj o (to_end b q x ne) =
      let P : Act → Type 0 = λ y. IsOf s t r.account y in
      let done : is_committed t b ≡ true = subst P q o in
      let z = committed_sort t b done in
      let y = r.account.stops n e in
      let hn = y.there in
      let lb : b ≤ n = ancestor_le t r.laid.tree.rooted b n hn x in
      let other : n ≡ b → ⊥ = λ same. (let Q : ℕ → Type 0 = λ v. (is_strand t v ≡ true) ⊎ (is_pending t v ≡ true) in elim (subst Q same y.kind) [ inl f ↦ absurd (cc (f, z.strand)) | inr f ↦ absurd (cc (f, z.pending)) ]) in
      let c = branch t r.laid.tree.rooted b n hn other x in
      let lc : c.child ≤ n = ancestor_le t r.laid.tree.rooted c.child n hn c.over in
      let k : IsChild t b c.child = record { some = c.some; there = omega arith; parent = c.parent } in
      not_in_quiet n b c.child e k z.fork (quiet_in_block s t r.account b c.child (omega arith) done k) c.over
  nothing_behind n e j hj o (to_stop b q x ne) =
      let P : Act → Type 0 = λ y. IsOf s t r.account y in
      ne (ap stop (r.account.once n b e (subst P q o)))

  -- ## What is sooner leads

  -- a block and the node of an item in it are the same where that is over the block
  one_block : (m b : ℕ) (i : OrderItem) → m < length t → Over t p r.laid m i → node_of i ≡ b → is_ancestor t b m ≡ true → m ≡ b
  one_block m b i hm o node over =
      let P : ℕ → Type 0 = λ z. is_ancestor t m z ≡ true in
      let H : ℕ → Type 0 = λ z. z < length t in
      both_over t r.laid.tree.rooted m b hm (subst H node o.1) (subst P node o.0) over

  -- nothing in a block is before its begin
  begin_first : (m : ℕ) (i : OrderItem) → m < length t → Over t p r.laid m i → Soon (item i) (item (Begins m)) → ⊥
  begin_first m i hm o (in_series c d x u v) = ordered_apart t r.laid.tree.rooted c d (node_of i) x o.1 u (ancestor_trans t r.laid.tree.rooted d m (node_of i) o.1 v o.0)
  begin_first m i hm o (from_begin b q x ne) = ne (ap (λ z. item (Begins z)) (one_block m b i hm o (ap place q) x))
  begin_first m i hm o (to_end b q x ne) = absurd (cc q)
  begin_first m i hm o (to_stop b q x ne) = absurd (cc q)

  -- nothing in a block is after its end
  end_last : (m : ℕ) (j : OrderItem) → m < length t → Over t p r.laid m j → Soon (item (Ends m)) (item j) → ⊥
  end_last m j hm o (in_series c d x u v) = ordered_apart t r.laid.tree.rooted c d (node_of j) x o.1 (ancestor_trans t r.laid.tree.rooted c m (node_of j) o.1 u o.0) v
  end_last m j hm o (from_begin b q x ne) = absurd (cc q)
  end_last m j hm o (to_end b q x ne) = ne (ap (λ z. item (Ends z)) (one_block m b j hm o (ap place q) x))
  end_last m j hm o (to_stop b q x ne) = absurd (cc q)

  act_alone : (m : ℕ) → m < length t → Soon (item (Does m)) (item (Does m)) → ⊥
  act_alone m h (in_series c d o x y) = ordered_apart t r.laid.tree.rooted c d m o h x y
  act_alone m h (from_begin b q x ne) = absurd (cc q)
  act_alone m h (to_end b q x ne) = absurd (cc q)
  act_alone m h (to_stop b q x ne) = absurd (cc q)

  -- two entries are in series if an item of one and an item of the other are
  parted : (b : Option ℕ) (m n : ℕ) (i j : OrderItem) → Entry t p r.laid b m → Entry t p r.laid b n → (m ≡ n → ⊥) → Over t p r.laid m i → Over t p r.laid n j → Soon (item i) (item j) → is_before t m n ≡ true
  parted b m n i j e f ne a c (in_series x y o u v) = before_of t m n (record { first = x; second = y; ordered = o; over_first = first_over; over_second = second_over }) where
    low : x < length t
    low = let l : x ≤ node_of i = ancestor_le t r.laid.tree.rooted x (node_of i) a.1 u in omega (arith, a.1)

    low_y : y < length t
    low_y = let l : y ≤ node_of j = ancestor_le t r.laid.tree.rooted y (node_of j) c.1 v in omega (arith, c.1)

    some_y : 0 < y
    some_y = let l : x < y = o.less in omega arith

    over_parent : is_ancestor t m (parent_of t x) ≡ true → ⊥
    over_parent z =
        let P : ℕ → Type 0 = λ z. is_ancestor t m z ≡ true in
        ne (one_entry t p r.laid b m n (node_of j) e f c.1 (ancestor_trans t r.laid.tree.rooted m y (node_of j) c.1 (ancestor_up t r.laid.tree.rooted m y some_y low_y (subst P o.same z)) v) c.0)

    over_parent_y : is_ancestor t n (parent_of t y) ≡ true → ⊥
    over_parent_y z =
        let P : ℕ → Type 0 = λ z. is_ancestor t n z ≡ true in
        ne (one_entry t p r.laid b m n (node_of i) e f a.1 a.0 (ancestor_trans t r.laid.tree.rooted n x (node_of i) a.1 (ancestor_up t r.laid.tree.rooted n x o.some low (subst P (sym o.same) z)) u))

    first_over : is_ancestor t x m ≡ true
    first_over = elim (either_over t r.laid.tree.rooted x m (node_of i) a.1 u a.0) [
      | inl z ↦ z
      | inr z ↦ elim (cases_eq x m) [ inl q ↦ (let P : ℕ → Type 0 = λ z. is_ancestor t x z ≡ true in subst P q (ancestor_self t x)) | inr other ↦ absurd (over_parent (sym (ancestor_step t r.laid.tree.rooted m x o.some low other) ∙ z)) ]
    ]

    second_over : is_ancestor t y n ≡ true
    second_over = elim (either_over t r.laid.tree.rooted y n (node_of j) c.1 v c.0) [
      | inl z ↦ z
      | inr z ↦ elim (cases_eq y n) [ inl q ↦ (let P : ℕ → Type 0 = λ z. is_ancestor t y z ≡ true in subst P q (ancestor_self t y)) | inr other ↦ absurd (over_parent_y (sym (ancestor_step t r.laid.tree.rooted n y some_y low_y other) ∙ z)) ]
    ]
  parted b m n i j e f ne a c (from_begin x q u nb) =
      let node : node_of i ≡ x = ap place q in
      let P : ℕ → Type 0 = λ z. is_ancestor t m z ≡ true in
      absurd (ne (one_entry t p r.laid b m n (node_of j) e f c.1 (ancestor_trans t r.laid.tree.rooted m x (node_of j) c.1 (subst P node a.0) u) c.0))
  parted b m n i j e f ne a c (to_end x q u nb) =
      let node : node_of j ≡ x = ap place q in
      let P : ℕ → Type 0 = λ z. is_ancestor t n z ≡ true in
      absurd (ne (one_entry t p r.laid b m n (node_of i) e f a.1 a.0 (ancestor_trans t r.laid.tree.rooted n x (node_of i) a.1 (subst P node c.0) u)))
  parted b m n i j e f ne a c (to_stop x q u nb) = absurd (cc q)

  pub stamp_some : (n : ℕ) → n < length t → Stays t p r.laid n → 0 < stamp_of t n
  stamp_some n h k = ltb-true 0 (stamp_of t n) (r.laid.stamps.there n h ∙ by k) where
    by : Stays t p r.laid n → has_stamp t n ≡ true
    by (inl d) = let z = act_sort t n d in cc (z.strand, z.tried)
    by (inr (inl d)) = let z = committed_sort t n d in cc (z.strand, z.tried)
    by (inr (inr d)) = let z = pending_sort t n d.0 in cc (z.strand, z.tried)

  pub act_key : (n : ℕ) → is_act t n ≡ true → key t n ≡ stamp_of t n
  act_key n d = ap (λ b. cond b (end_of t n) (stamp_of t n)) (act_sort t n d).block

  pub block_key : (n : ℕ) → is_block t n ≡ true → key t n ≡ end_of t n
  block_key n d = ap (λ b. cond b (end_of t n) (stamp_of t n)) d

  key_most : (m bound : ℕ) → stamp_of t m < bound → end_of t m < bound → key t m < bound
  key_most m bound f e = by (is_block t m) where
    by : (b : Bool) → cond b (end_of t m) (stamp_of t m) < bound
    by true = e
    by false = f

  -- the key of an act or a committed block is no less than the stamp of what stands in it
  pub key_least : (m n : ℕ) → m < length t → n < length t → is_ancestor t m n ≡ true → (is_act t m ≡ true) ⊎ (is_committed t m ≡ true) → stamp_of t n ≤ key t m
  key_least m n h hn a (inl d) =
      let same : n ≡ m = leaf_over t p r.laid m n d hn a in
      omega (arith, act_key m d, ap (stamp_of t) same)
  key_least m n h hn a (inr d) =
      let z = committed_sort t m d in
      let shut : (is_block t m && not (is_pending t m)) ≡ true = cc (z.block, z.pending) in
      elim (cases_eq n m) [
        | inl q ↦ (let l : stamp_of t m < end_of t m = r.laid.stamps.ended m h shut in omega (arith, block_key m z.block, ap (stamp_of t) q))
        | inr ne ↦
            (let above : is_above t m n ≡ true = sym (ancestor_above t m n ne) ∙ a in
            let l = r.laid.stamps.beneath m n h hn (and_from _ _ shut above) in
            omega (arith, block_key m z.block, l.0))
      ]

  -- an entry that is before a finished one has a smaller key
  key_less : (b : Option ℕ) (m n : ℕ) → Entry t p r.laid b m → Entry t p r.laid b n → (is_act t n ≡ true) ⊎ (is_committed t n ≡ true) → is_before t m n ≡ true → key t m < key t n
  key_less b m n e f k o =
      let z = r.laid.stamps.series m n e.there f.there o (stamp_some n f.there f.stays) in
      let x : key t m < stamp_of t n = key_most m (stamp_of t n) z.0 z.1 in
      let y : stamp_of t n ≤ key t n = key_least n n f.there f.there (ancestor_self t n) k in
      omega arith

  pub series_leads : (i j : OrderItem) → Soon (item i) (item j) → Leads t p r.laid i j
  series_leads i j x = record {
    no_begin = λ m h a q. (let P : OrderItem → Type 0 = λ y. Soon (item i) (item y) in begin_first m i h a (subst P q x));
    no_end = λ m h a q. (let P : OrderItem → Type 0 = λ y. Soon (item y) (item j) in end_last m j h a (subst P q x));
    not_same = λ m h q e. (let P : OrderItem → Type 0 = λ y. Soon (item y) (item j) in let Q : OrderItem → Type 0 = λ y. Soon (item (Does m)) (item y) in act_alone m h (subst Q e (subst P q x)));
    smaller = λ b m n em en ne ai aj k. (let before = parted b m n i j em en ne ai aj x in (key_less b m n em en k before, λ q. absurd (cc (r.laid.pending_last.last m n em.there en.there q, before))));
  }
