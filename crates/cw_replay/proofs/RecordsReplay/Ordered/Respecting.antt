-- The strands of a run come to the items of its order one after another, and then to where a strand stopped.
use Rattle.std.proofs.Common.{◌≡◌, ℕ, ◌<◌, ◌≤◌, List, [], ◌∷◌, length, refl, ap, sym, ◌∙◌, arith, true, false, None, inl, inr, subst, map}
use Rattle.std.specs.Prelude.{◌⊎◌, ◌&&◌}
use Rattle.std.proofs.lemmas.Bool.{and_from, cases_eq, false_from_ne_true}
use Rattle.cw_strand.specs.Strands.{Strands, IsDeep}
use Rattle.cw_tree.specs.declared.node.Node.{Node}
use Rattle.cw_tree.specs.Nodes.{is_block, is_pending, is_aborted}
use Rattle.cw_tree.specs.Walks.{is_ancestor, is_above}
use Rattle.cw_tree.proofs.Walks.Ancestors.{ancestor_self, ancestor_above, ancestor_step, ancestor_up, ancestor_le, ancestor_trans, root_ancestor}
use Rattle.cw_tree.proofs.Walks.Kin.{before_of}
use Rattle.cw_tree.proofs.Ahead.{apart_map, Ahead, second_in, ahead_map, Apart}
use Rattle.cw_tree.proofs.Members.{in_map, map_in}
use Rattle.cw_tree.proofs.Lists.{In}
use Rattle.cw_record.specs.declared.items.OrderItem.{OrderItem}
use Rattle.cw_record.specs.declared.items.OrderItem.TheVariants.{Begins, Does, Ends}
use Rattle.cw_record.specs.Order.{node_of}
use Rattle.cw_replay.proofs.RecordsReplay.Work.Work.{Has, Before, Doing, Way, runs, before_has}
use Rattle.cw_replay.proofs.RecordsReplay.Work.Next.{Next}
use Rattle.cw_replay.proofs.RecordsReplay.Work.Orders.{Respects, SeenAfter, Plays, way_after, plays, left_first, left_after, next_left}
use Rattle.cw_replay.proofs.RecordsReplay.Machine.Acts.{Act, item, stop, place}
use Rattle.cw_replay.proofs.RecordsReplay.Tasks.Sorts.{aborted_sort, committed_sort, pending_sort, kept_block}
use Rattle.cw_replay.proofs.Kin.{either_over}
use Rattle.cw_replay.proofs.RecordsReplay.Tasks.Tasks.{whole, of_account}
use Rattle.cw_replay.proofs.RecordsReplay.Tasks.Fitting.{whole_fits}
use Rattle.cw_replay.proofs.RecordsReplay.Tasks.Places.{Kept, IsOf, Under, whole_has, in_series, from_begin, to_end, to_stop}
use Rattle.cw_replay.proofs.RecordsReplay.Tasks.Series.{whole_before}
use Rattle.cw_replay.proofs.RecordsReplay.Tasks.Single.{whole_once}
use Rattle.cw_replay.proofs.RecordsReplay.Tasks.Standing.{whole_in}
use Rattle.cw_replay.proofs.RecordsReplay.Ordered.Entries.{IsOfNode, Stays, placed, Order, AllStay, all_stay}
use Rattle.cw_replay.proofs.RecordsReplay.Ordered.Ordering.{earlier, order_once}
use Rattle.cw_replay.proofs.RecordsReplay.Ordered.Climbing.{stands}
use Rattle.cw_replay.proofs.RecordsReplay.Ordered.Runs.{Run, Soon, nothing_behind, series_leads}
use Rattle.cw_replay.proofs.RecordsReplay.Tasks.Accounts.{IsStop}

-- a list in which all that is before a member comes earlier
pub respects_from : {I : Type 0} (R : I → I → Type 0) (there seen : I → Type 0) (js : List I) → ((j : I) → In j js → there j) → ((i j : I) → In j js → R i j → seen i ⊎ Ahead i j js) → ((j : I) → In j js → seen j → ⊥) → Apart js → Respects R there seen js
respects_from R there seen [] a r n d = tt
respects_from {I = I} R there seen (j ∷ js) a r n d = (
  a j (inl refl),
  (λ i h. elim (r i j (inl refl) h) [
    | inl s ↦ s
    | inr e ↦ elim e [ inl z ↦ absurd (d.0 z.1) | inr y ↦ absurd (d.0 (second_in i j js y)) ]
  ]),
  n j (inl refl),
  respects_from R there (λ i. (i ≡ j) ⊎ seen i) js (λ k h. a k (inr h))
      (λ i k h x. elim (r i k (inr h) x) [ inl s ↦ inl (inr s) | inr e ↦ elim e [ inl z ↦ inl (inl z.0) | inr y ↦ inr y ] ])
      (λ k h s. elim s [ inl q ↦ (let P : I → Type 0 = λ y. In y js in d.0 (subst P q h)) | inr y ↦ n k (inr h) y ]) d.1,
)

pub seen_in : {I : Type 0} (seen : I → Type 0) (js : List I) (i : I) → (In i js ⊎ seen i) → SeenAfter seen js i
seen_in seen [] i (inl h) = absurd h
seen_in seen [] i (inr h) = h
seen_in seen (j ∷ js) i (inl (inl q)) = seen_in (λ i. (i ≡ j) ⊎ seen i) js i (inr (inl q))
seen_in seen (j ∷ js) i (inl (inr h)) = seen_in (λ i. (i ≡ j) ⊎ seen i) js i (inl h)
seen_in seen (j ∷ js) i (inr h) = seen_in (λ i. (i ≡ j) ⊎ seen i) js i (inr (inr h))

pub in_seen : {I : Type 0} (seen : I → Type 0) (js : List I) (i : I) → SeenAfter seen js i → In i js ⊎ seen i
in_seen seen [] i h = inr h
in_seen seen (j ∷ js) i h = elim (in_seen (λ i. (i ≡ j) ⊎ seen i) js i h) [ inl x ↦ inl (inr x) | inr x ↦ elim x [ inl q ↦ inl (inl q) | inr y ↦ inr y ] ]

module _ {A : Type 0} (s : Strands A) (t : List Node) (p : ℕ) (r : Run s t p) where
  -- ## What is sooner stands in the order too

  -- a pending block around what is sooner than an act stands in the order, where those around the act do
  pending_stays : (i : OrderItem) (j : Act) → place j < length t → IsOf s t r.account j → ((a : ℕ) → is_pending t a ≡ true → is_ancestor t a (place j) ≡ true → Stays t p r.laid a) → Under s t r.account 0 (item i) → (a : ℕ) → a < length t
      → is_ancestor t a (node_of i) ≡ true → is_pending t a ≡ true → Soon s t p r (item i) j → Stays t p r.laid a
  pending_stays i j hj o up u a ha f q (in_series c d x over_c over_d) = elim (either_over t r.laid.tree.rooted c a (node_of i) u.there over_c f) [
    | inl z ↦ beside z
    | inr z ↦ elim (cases_eq c a) [
      | inl e ↦ beside (let P : ℕ → Type 0 = λ v. is_ancestor t c v ≡ true in subst P e (ancestor_self t c))
      | inr ne ↦
          (let P : ℕ → Type 0 = λ v. is_ancestor t a v ≡ true in
          let less = x.less in
          let some = x.some in
          let lc : c ≤ node_of i = ancestor_le t r.laid.tree.rooted c (node_of i) u.there over_c in
          let ld : d ≤ place j = ancestor_le t r.laid.tree.rooted d (place j) hj over_d in
          let hi = u.there in
          up a q (ancestor_trans t r.laid.tree.rooted a d (place j) hj
          (ancestor_up t r.laid.tree.rooted a d (omega arith) (omega arith) (subst P x.same (sym (ancestor_step t r.laid.tree.rooted a c some (omega arith) ne) ∙ z))) over_d))
    ]
  ] where
    beside : is_ancestor t c a ≡ true → Stays t p r.laid a
    beside z = absurd (cc (r.laid.pending_last.last a (place j) ha hj q, before_of t a (place j) (record { first = c; second = d; ordered = x; over_first = z; over_second = over_d })))
  pending_stays i j hj o up u a ha f q (from_begin c e x ne) =
      let node : node_of i ≡ c = ap place e in
      let P : ℕ → Type 0 = λ v. is_ancestor t a v ≡ true in
      up a q (ancestor_trans t r.laid.tree.rooted a c (place j) hj (subst P node f) x)
  pending_stays i j hj o up u a ha f q (to_end c e x ne) =
      let node : place j ≡ c = ap place e in
      let P : ℕ → Type 0 = λ v. is_ancestor t a v ≡ true in
      let R : Act → Type 0 = λ v. IsOf s t r.account v in
      let done = committed_sort t c (subst R e o) in
      elim (either_over t r.laid.tree.rooted a c (node_of i) u.there f x) [
        | inl z ↦ up a q (subst P (sym node) z)
        | inr z ↦ elim (cases_eq a c) [
          | inl same ↦ (let Q : ℕ → Type 0 = λ v. is_pending t v ≡ true in absurd (cc (subst Q same q, done.pending)))
          | inr other ↦
              (let above : is_above t c a ≡ true = sym (ancestor_above t c a other) ∙ z in
              let lc : c ≤ node_of i = ancestor_le t r.laid.tree.rooted c (node_of i) u.there x in
              let hi = u.there in
              absurd (cc (r.laid.pending_last.around c a (omega arith) ha (and_from (is_pending t a && is_block t c) (is_above t c a) (and_from (is_pending t a) (is_block t c) q done.block) above), done.pending)))
        ]
      ]
  pending_stays i j hj o up u a ha f q (to_stop c e x ne) =
      let node : place j ≡ c = ap place e in
      let P : ℕ → Type 0 = λ v. is_ancestor t a v ≡ true in
      let R : Act → Type 0 = λ v. IsOf s t r.account v in
      let z = r.account.stops c (subst R e o) in
      let here : a ≡ c → Stays t p r.laid a = λ same. up a q (subst P (same ∙ sym node) (ancestor_self t a)) in
      elim (either_over t r.laid.tree.rooted a c (node_of i) u.there f x) [
        | inl y ↦ up a q (subst P (sym node) y)
        | inr y ↦ elim (z.shut a q y) [
          | inl same ↦ here same
          | inr o ↦
              (let there = o.is_child.there in
              absurd (cc ((u.kept o.child (root_ancestor t r.laid.tree.rooted o.child there) (ancestor_trans t r.laid.tree.rooted o.child a (node_of i) u.there o.over f)).1, o.out)))
        ]
      ]

  pub proper_item : (i : OrderItem) → IsOfNode t i → IsOf s t r.account (item i)
  proper_item (Begins n) e = e
  proper_item (Does n) e = e
  proper_item (Ends n) e = e

  pub of_proper : (i : OrderItem) → IsOf s t r.account (item i) → IsOfNode t i
  of_proper (Begins n) e = e
  of_proper (Does n) e = e
  of_proper (Ends n) e = e

  reaches : (i : OrderItem) (j : Act) → place j < length t → IsOf s t r.account j → ((a : ℕ) → is_pending t a ≡ true → is_ancestor t a (place j) ≡ true → Stays t p r.laid a) → Soon s t p r (item i) j → Under s t r.account 0 (item i) → In i (Order t p r.laid)
  reaches i j hj o up soon u = stands t p r.laid i u.there (of_proper i u.proper) around where
    around : AllStay t p r.laid (node_of i)
    around a b f =
        let le : a ≤ node_of i = ancestor_le t r.laid.tree.rooted a (node_of i) u.there f in
        let hi = u.there in
        let ha : a < length t = omega arith in
        elim (kept_block t a b (u.kept a (root_ancestor t r.laid.tree.rooted a ha) f).0) [ inl c ↦ inr (inl c) | inr q ↦ pending_stays i j hj o up u a ha f q soon ]

  -- ## The order is one of acts

  abbrev pub Items : List Act
  Items = map item (Order t p r.laid)

  pub order_kept : (j : OrderItem) → In j (Order t p r.laid) → (a : ℕ) → is_ancestor t a (node_of j) ≡ true → Kept s t r.account a
  order_kept j h a f = (
    false_from_ne_true (is_aborted t a) (λ e. let z = aborted_sort t a e in elim (all_stay t p r.laid j h a z.block f) [
      | inl d ↦ absurd (cc (d, z.act))
      | inr y ↦ elim y [ inl d ↦ absurd (cc (d, z.committed)) | inr d ↦ absurd (cc (d.0, z.pending)) ]
    ]),
    false_from_ne_true (r.account.stop.out a) (λ e. let z = pending_sort t a (r.account.left_out a e).0 in elim (all_stay t p r.laid j h a z.block f) [
      | inl d ↦ absurd (cc (d, z.act))
      | inr y ↦ elim y [ inl d ↦ absurd (cc (d, z.committed)) | inr d ↦ absurd (r.apart a e d.1) ]
    ]),
  )

  order_there : (j : OrderItem) → In j (Order t p r.laid) → Has (item j) (whole r.account.stop t)
  order_there j h = let z = placed t p r.laid (length t) None j h in whole_in s t r.account (item j) z.there (proper_item j z.proper) (order_kept j h)

  -- what is sooner than an item comes earlier
  sooner_earlier : (i j : Act) → In j Items → Soon s t p r i j → Under s t r.account 0 i → Ahead i j Items
  sooner_earlier (stop n) j h x u =
      let y = in_map item j (Order t p r.laid) h in
      let z = placed t p r.laid (length t) None y.0 y.1 in
      let P : Act → Type 0 = λ v. Soon s t p r (stop n) v in
      absurd (nothing_behind s t p r n u.proper (item y.0) z.there (proper_item y.0 z.proper) (subst P y.2 x))
  sooner_earlier (item i) j h x u =
      let y = in_map item j (Order t p r.laid) h in
      let z = placed t p r.laid (length t) None y.0 y.1 in
      let P : Act → Type 0 = λ v. Soon s t p r (item i) v in
      let Q : Act → Type 0 = λ v. Ahead (item i) v Items in
      let soon = subst P y.2 x in
      let there = reaches i (item y.0) z.there (proper_item y.0 z.proper) (λ a q f. all_stay t p r.laid y.0 y.1 a (pending_sort t a q).block f) soon u in
      subst Q (sym y.2) (ahead_map item i y.0 (Order t p r.laid) (earlier t p r.laid i y.0 (series_leads s t p r i y.0 soon) there y.1))

  pub respects : Respects (λ i j. Before i j (whole r.account.stop t)) (λ j. Has j (whole r.account.stop t)) (λ i. ⊥) Items
  respects =
      respects_from (λ i j. Before i j (whole r.account.stop t)) (λ j. Has j (whole r.account.stop t)) (λ i. ⊥) Items
      (λ j h. let z = in_map item j (Order t p r.laid) h in let P : Act → Type 0 = λ x. Has x (whole r.account.stop t) in subst P (sym z.2) (order_there z.0 z.1))
      (λ i j h b. inr (sooner_earlier i j h (whole_before s t r.account i j b) (whole_has s t r.account i (before_has i j (whole r.account.stop t) b))))
      (λ j h e. e)
      (apart_map item (Order t p r.laid) (λ x y i j e. let q : x ≡ y = cc e in q) (order_once t p r.laid))

  module _ (deep : IsDeep s) where
    abbrev pub deeds : Doing Act A
    deeds = of_account s t r.account

    abbrev pub start : Way Act A
    start = runs 0 s.start (whole r.account.stop t)

    -- the strands come to the items of the order one after another
    pub order_plays : Plays deeds start Items
    order_plays =
        plays deeds deep (whole r.account.stop t) Items (λ i. ⊥) start
        (left_first deeds deep (whole r.account.stop t) s.start (whole_once s t r.account) (whole_fits s t r.account)) respects

    -- and then to where a strand stopped
    pub stop_next : (n : ℕ) → r.account.stop.at n ≡ true → Next deeds [] (way_after deeds start Items order_plays) (stop n)
    stop_next n e =
        next_left deeds deep (whole r.account.stop t) (SeenAfter (λ i. ⊥) Items) (way_after deeds start Items order_plays) (stop n)
        (left_after deeds deep (whole r.account.stop t) Items (λ i. ⊥) start (left_first deeds deep (whole r.account.stop t) s.start (whole_once s t r.account) (whole_fits s t r.account)) order_plays)
        (whole_in s t r.account (stop n) z.there e (λ a f. (z.live a f, not_out a f)))
        (λ i b. seen_in (λ i. ⊥) Items i (inl (seen i (whole_before s t r.account i (stop n) b) (whole_has s t r.account i (before_has i (stop n) (whole r.account.stop t) b)))))
        (λ h. elim (in_seen (λ i. ⊥) Items (stop n) h) [ inl x ↦ (let y = in_map item (stop n) (Order t p r.laid) x in let q = y.2 in absurd (cc q)) | inr x ↦ x ]) where
          z : IsStop s t r.account.before r.account.after r.account.reached r.account.stop n
          z = r.account.stops n e

          not_out : (a : ℕ) → is_ancestor t a n ≡ true → r.account.stop.out a ≡ false
          not_out a f = false_from_ne_true (r.account.stop.out a) (λ o. absurd (r.apart a o (ancestor_trans t r.laid.tree.rooted a n p r.laid.there f (r.toward n e))))

          seen : (i : Act) → Soon s t p r i (stop n) → Under s t r.account 0 i → In i Items
          seen (stop m) x u = absurd (nothing_behind s t p r m u.proper (stop n) z.there e x)
          seen (item i) x u = map_in item i (Order t p r.laid) (reaches i (stop n) z.there e (λ a q f. inr (inr (q, ancestor_trans t r.laid.tree.rooted a n p r.laid.there f (r.toward n e)))) x u)
