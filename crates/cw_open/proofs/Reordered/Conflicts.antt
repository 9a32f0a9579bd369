-- Conflicts of a tree in depth-first order: each is recorded as it was, and they stand as the tree lists their askers.
use Rattle.std.proofs.Common.{◌≡◌, ℕ, ◌<◌, List, [], ◌∷◌, length, map, refl, ap, sym, ◌∙◌, subst, arith, Bool, true, false, Option, Some, None, inl, inr, nat_eq}
use Rattle.std.specs.Prelude.{◌&&◌, ◌||◌, not, is_some, All, filter, option_map}
use Rattle.std.specs.List.{list_any}
use Rattle.std.specs.Option.{option_map_or}
use Rattle.std.proofs.lemmas.Bool.{and_parts, cases_eq}
use Rattle.std.proofs.lemmas.List.Elements.{All-head, All-tail, All-weaker, All-map}
use Rattle.cw_tree.specs.declared.node.Node.{Node}
use Rattle.cw_tree.specs.declared.node.Kind.{Kind}
use Rattle.cw_tree.specs.declared.node.Kind.TheVariants.{Strand, Fork, Block, Read, Write, Out, Tried}
use Rattle.cw_tree.specs.declared.conflict.Conflict.{Conflict}
use Rattle.cw_tree.specs.Nodes.{is_strand_kind, is_block_kind, is_tried_kind, touches_kind, tries_kind, stamp_of, end_of, is_strand, is_block, is_tried, tries, all_nodes}
use Rattle.cw_tree.specs.Walks.{IsNumbered, above, is_above}
use Rattle.cw_tree.specs.Series.{is_before, depth_first}
use Rattle.cw_tree.specs.Accesses.{HasAccess, by_key}
use Rattle.cw_tree.specs.Attempts.{attempt_of}
use Rattle.cw_tree.specs.Refusals.{outermost_apart, victim_of, is_victim, names_victim, IsRefusal, IsRecorded}
use Rattle.cw_tree.specs.InOrder.{renamed, in_order, conflict_in_order, by_asker, conflicts_in_order, asker_of}
use Rattle.cw_tree.proofs.Lists.{In}
use Rattle.cw_tree.proofs.Members.{in_filter, in_below, below_in, map_in, in_map, filter_in, all_at}
use Rattle.cw_tree.proofs.Walks.There.{node_there}
use Rattle.cw_tree.proofs.InOrder.Renaming.{renamed_apart, above_stays}
use Rattle.cw_tree.proofs.Walks.Siblings.{numbered}
use Rattle.cw_tree.proofs.InOrder.Sound.{series_stay}
use Rattle.cw_tree.proofs.Rising.{below_rises, Rises, rises_filter, rises_same, rises_apart}
use Rattle.cw_tree.proofs.NodeKinds.{node_tells, block_some}
use Rattle.cw_tree.proofs.Sorts.{by_key_map, any_by_key, all_by_key}
use Rattle.cw_tree.proofs.InOrder.Keys.{in_by_key, by_key_in, by_key_rises}
use Rattle.cw_tree.proofs.Ahead.{Apart, apart_map}
use Rattle.cw_open.proofs.Refused.Victims.{outermost_in}
use Rattle.cw_open.proofs.Refused.Falling.{AreAskers}
use Rattle.cw_open.proofs.Reordered.Renamed.{each_number, each_pair, low, node_kept, stamp_kept, end_kept, block_kept, same_number, parallel_renamed, outermost_renamed, attempt_renamed, any_map}

-- ## A conflict

module _ (t : List Node) (w : IsNumbered t) where
  abbrev new : List Node
  new = in_order t

  abbrev f : ℕ → ℕ
  f = renamed t

  -- a refused access is not the root
  pub tried_some : (c n : ℕ) → tries t c n ≡ true → 0 < n
  tried_some c n e =
      elim (cases_eq n 0) [
        | inl q ↦ absurd (let root = w.root in cc (root, ap (is_strand t) (sym q), node_tells false t (λ y. tries_kind c y.kind) (λ y. is_strand_kind y.kind) (λ y e. no_strand y.kind e) n e))
        | inr ne ↦ omega arith
      ] where
        no_strand : (k : Kind) → tries_kind c k ≡ true → is_strand_kind k ≡ false
        no_strand (Tried d) e = refl
        no_strand Strand e = absurd (cc e)
        no_strand Fork e = absurd (cc e)
        no_strand Block e = absurd (cc e)
        no_strand (Read d v) e = absurd (cc e)
        no_strand (Write d v) e = absurd (cc e)
        no_strand (Out v) e = absurd (cc e)
        no_strand _ e = absurd (cc e)

  module _ (c : Conflict) (x b : ℕ) (q : IsRefusal t c x b) where
    abbrev v : ℕ
    v = c.asker

    low_x : x < length t
    low_x = node_there (λ y. touches_kind c.cell y.kind) t x q.last.0

    low_v : v < length t
    low_v = node_there (λ y. tries_kind c.cell y.kind) t v q.asker

    is_over : ((is_block t b && is_above t b x) ≡ true) × (not (is_above t b v) ≡ true)
    is_over = and_parts (is_block t b && is_above t b x) (not (is_above t b v)) q.block.0

    low_b : b < length t
    low_b = node_there (λ y. is_block_kind y.kind) t b (and_parts (is_block t b) (is_above t b x) is_over.0).0

    -- the outermost is there
    there : (m : ℕ) → outermost_apart t x v ≡ Some m → (0 < m) × (m < length t)
    there m e =
        let z = outermost_in (λ m. is_block t m && not (is_above t m x)) (above t v) m e in
        let is = (and_parts (is_block t m) (not (is_above t m x)) z.1).0 in
        (block_some t w.root m is, node_there (λ y. is_block_kind y.kind) t m is)

    stamps_same : option_map (stamp_of new) (option_map f (outermost_apart t x v)) ≡ option_map (stamp_of t) (outermost_apart t x v)
    stamps_same = by (outermost_apart t x v) there where
      by : (o : Option ℕ) → ((m : ℕ) → o ≡ Some m → (0 < m) × (m < length t)) → option_map (stamp_of (in_order t)) (option_map (renamed t) o) ≡ option_map (stamp_of t) o
      by None g = refl
      by (Some m) g = ap Some (stamp_kept t w m (g m refl).1)

    pub refusal_renamed : IsRefusal new (conflict_in_order t c) (f x) (f b)
    refusal_renamed = record {
      last = (node_kept t w (λ y. touches_kind c.cell y.kind) (λ y. refl) x low_x ∙ q.last.0, stamp_kept t w x low_x ∙ q.last.1);
      asker = node_kept t w (λ y. tries_kind c.cell y.kind) (λ y. refl) v low_v ∙ q.asker;
      parallel = parallel_renamed t w x v low_x low_v ∙ q.parallel;
      block = (
        ap (λ k. k && is_above new (f b) (f x) && not (is_above new (f b) (f v))) (block_kept t w b low_b)
            ∙ ap (λ k. is_block t b && k && not (is_above new (f b) (f v))) (above_stays t w b x low_b low_x)
            ∙ ap (λ k. is_block t b && is_above t b x && not k) (above_stays t w b v low_b low_v)
            ∙ q.block.0,
        stamp_kept t w b low_b ∙ q.block.1,
      );
      victim = q.victim ∙ sym (ap (option_map (stamp_of new)) (outermost_renamed t w x v low_x low_v) ∙ stamps_same);
      attempt = q.attempt ∙ sym (ap (attempt_of new (f v)) (outermost_renamed t w x v low_x low_v) ∙ attempt_renamed t w v (tried_some c.cell v q.asker) low_v (outermost_apart t x v) there);
      chain_len = q.chain_len;
      chain_rises = q.chain_rises;
      chain_accesses = All-weaker (HasAccess t c.cell) (HasAccess new c.cell)
          (λ y (n, e, g). let h = node_there (λ z. touches_kind c.cell z.kind) t n e in (f n, node_kept t w (λ z. touches_kind c.cell z.kind) (λ z. refl) n h ∙ e, stamp_kept t w n h ∙ g)) c.chain q.chain_accesses;
      chain_last = q.chain_last;
      before_after_block =
          each_pair t w (λ n k. is_before new n (f v) ≡ true → is_before new (f b) k ≡ true → 0 < stamp_of new k → (stamp_of new n < stamp_of new k) × (end_of new n < stamp_of new k))
          (λ n k hn hk e g some.
          let z = q.before_after_block n k hn hk (sym (series_stay t w n v hn low_v) ∙ e) (sym (series_stay t w b k low_b hk) ∙ g) (omega (arith, stamp_kept t w k hk)) in
          (omega (arith, z.0, stamp_kept t w n hn, stamp_kept t w k hk), omega (arith, z.1, end_kept t w n hn, stamp_kept t w k hk)));
      begun_after_block =
          each_pair t w (λ n k. (is_block new n && is_above new n (f v)) ≡ true → is_before new (f b) k ≡ true → 0 < stamp_of new k → stamp_of new n < stamp_of new k)
          (λ n k hn hk e g some.
          let was : (is_block t n && is_above t n v) ≡ true = sym (ap (λ j. j && is_above new (f n) (f v)) (block_kept t w n hn) ∙ ap (λ j. is_block t n && j) (above_stays t w n v hn low_v)) ∙ e in
          omega (arith, q.begun_after_block n k hn hk was (sym (series_stay t w b k low_b hk) ∙ g) (omega (arith, stamp_kept t w k hk)), stamp_kept t w n hn, stamp_kept t w k hk));
      last_after_asker =
          each_number t w (λ k. is_before new (f v) k ≡ true → 0 < stamp_of new k → c.last < stamp_of new k)
          (λ k hk e some. omega (arith, q.last_after_asker k hk (sym (series_stay t w v k low_v hk) ∙ e) (omega (arith, stamp_kept t w k hk)), stamp_kept t w k hk));
    }

  pub recorded_renamed : (c : Conflict) → IsRecorded t c → IsRecorded new (conflict_in_order t c)
  recorded_renamed c (x, b, q) = (f x, f b, refusal_renamed c x b q)

-- ## Their order

abbrev askers : List Conflict → List ℕ
askers = map asker_of

askers_sorted : (cs : List Conflict) → askers (by_asker cs) ≡ by_key (λ n. n) (askers cs)
askers_sorted cs = sym (by_key_map (λ n. n) asker_of cs)

by_in : (v : ℕ) (cs : List Conflict) → In v (askers (by_asker cs)) → In v (askers cs)
by_in v cs i = let P : List ℕ → Type 0 = λ ns. In v ns in by_key_in (λ n. n) v (askers cs) (subst P (askers_sorted cs) i)

in_by : (v : ℕ) (cs : List Conflict) → In v (askers cs) → In v (askers (by_asker cs))
in_by v cs i = let P : List ℕ → Type 0 = λ ns. In v ns in subst P (sym (askers_sorted cs)) (in_by_key (λ n. n) v (askers cs) i)

any_of : (P : Conflict → Type 0) (p q : Conflict → Bool) (cs : List Conflict) → All P cs → ((c : Conflict) → P c → p c ≡ q c) → list_any p cs ≡ list_any q cs
any_of P p q [] a e = refl
any_of P p q (c ∷ cs) a e = ap (λ b. b || list_any p cs) (e c (All-head P c cs a)) ∙ ap (λ b. q c || b) (any_of P p q cs (All-tail P c cs a) e)

module _ (t : List Node) (w : IsNumbered t) (cs : List Conflict) (low_askers : AreAskers t cs) (each : askers cs ≡ filter (is_tried t) (all_nodes t)) where
  abbrev ds : List Conflict
  ds = conflicts_in_order t cs

  asker_renamed : (xs : List Conflict) → askers (map (conflict_in_order t) xs) ≡ map (renamed t) (askers xs)
  asker_renamed [] = refl
  asker_renamed (c ∷ xs) = ap (λ ns. (renamed t) c.asker ∷ ns) (asker_renamed xs)

  asker_low : (xs : List Conflict) → AreAskers t xs → (n : ℕ) → In n (askers xs) → n < length t
  asker_low xs a n i =
      let z = in_map asker_of n xs i in
      let P : ℕ → Type 0 = λ k. k < length t in
      subst P (sym z.2) (all_at (λ c. c.asker < length t) xs a z.0 z.1)

  -- askers differ, since they rise
  differ : (xs : List Conflict) → Rises (askers xs) → AreAskers t xs → Apart (askers (map (conflict_in_order t) xs))
  differ xs r a =
      let P : List ℕ → Type 0 = λ ns. Apart ns in
      subst P (sym (asker_renamed xs)) (apart_map (renamed t) (askers xs) (λ x y i j. renamed_apart t w x y (asker_low xs a x i) (asker_low xs a y j)) (rises_apart (askers xs) r))

  tried_rises : Rises (askers cs)
  tried_rises = let P : List ℕ → Type 0 = λ ns. Rises ns in subst P (sym each) (rises_filter (is_tried t) (all_nodes t) (below_rises (length t)))

  tried_kept : (n : ℕ) → n < length t → is_tried (in_order t) ((renamed t) n) ≡ is_tried t n
  tried_kept = node_kept t w (λ y. is_tried_kind y.kind) (λ y. refl)

  abbrev tried_new : List ℕ
  tried_new = filter (is_tried (in_order t)) (all_nodes (in_order t))

  from_asker : (v : ℕ) → In v (askers ds) → In v tried_new
  from_asker v i =
      let P : List ℕ → Type 0 = λ ns. In v ns in
      let z = in_map (renamed t) v (askers cs) (subst P (asker_renamed cs) (by_in v (map (conflict_in_order t) cs) i)) in
      let Q : List ℕ → Type 0 = λ ns. In z.0 ns in
      let y = in_filter (is_tried t) z.0 (all_nodes t) (subst Q each z.1) in
      let h = in_below z.0 (length t) y.0 in
      let R : ℕ → Type 0 = λ n. In n tried_new in
      subst R (sym z.2) (filter_in (is_tried (in_order t)) ((renamed t) z.0) (all_nodes (in_order t)) (below_in ((renamed t) z.0) (length (in_order t)) (low t w z.0 h)) (tried_kept z.0 h ∙ y.1))

  to_asker : (v : ℕ) → In v tried_new → In v (askers ds)
  to_asker v i =
      let y = in_filter (is_tried (in_order t)) v (all_nodes (in_order t)) i in
      each_number t w (λ v. is_tried (in_order t) v ≡ true → In v (askers ds))
      (λ n h e.
      let P : List ℕ → Type 0 = λ ns. In n ns in
      let Q : List ℕ → Type 0 = λ ns. In ((renamed t) n) ns in
      let was = filter_in (is_tried t) n (all_nodes t) (below_in n (length t) h) (sym (tried_kept n h) ∙ e) in
      in_by ((renamed t) n) (map (conflict_in_order t) cs) (subst Q (sym (asker_renamed cs)) (map_in (renamed t) n (askers cs) (subst P (sym each) was))))
      v (in_below v (length (in_order t)) y.0) y.1

  pub each_renamed : map (λ c. c.asker) ds ≡ filter (is_tried (in_order t)) (depth_first (in_order t))
  each_renamed =
      rises_same (askers ds) tried_new (by_key_rises asker_of (map (conflict_in_order t) cs) (differ cs tried_rises low_askers)) (rises_filter (is_tried (in_order t)) (all_nodes (in_order t)) (below_rises (length (in_order t)))) from_asker to_asker
      ∙ ap (filter (is_tried (in_order t))) (sym (numbered t w))

  pub recorded_all : All (IsRecorded t) cs → All (IsRecorded (in_order t)) ds
  recorded_all a = all_by_key asker_of (IsRecorded (in_order t)) (map (conflict_in_order t) cs) (All-map (IsRecorded (in_order t)) (conflict_in_order t) cs (All-weaker (IsRecorded t) (λ c. IsRecorded (in_order t) (conflict_in_order t c)) (recorded_renamed t w) cs a))

  -- what some conflict tells
  any_renamed : (p q : Conflict → Bool) → ((c : Conflict) → c.asker < length t → p (conflict_in_order t c) ≡ q c) → list_any p ds ≡ list_any q cs
  any_renamed p q e = any_by_key asker_of p (map (conflict_in_order t) cs) ∙ any_map p (conflict_in_order t) cs ∙ any_of (λ c. c.asker < length t) (λ c. p (conflict_in_order t c)) q cs low_askers e

  pub victim_renamed : (b : ℕ) → b < length t → is_victim (in_order t) ds ((renamed t) b) ≡ is_victim t cs b
  victim_renamed b h =
      ap (λ k. k && list_any (λ c. option_map_or (λ v. nat_eq v (stamp_of (in_order t) ((renamed t) b))) (victim_of c) false) ds) (block_kept t w b h)
      ∙ ap (λ k. is_block t b && k) (any_renamed (λ c. option_map_or (λ v. nat_eq v (stamp_of (in_order t) ((renamed t) b))) (victim_of c) false) (λ c. option_map_or (λ v. nat_eq v (stamp_of t b)) (victim_of c) false)
      (λ c l. ap (λ n. option_map_or (λ v. nat_eq v n) (victim_of c) false) (stamp_kept t w b h)))

  pub leads_renamed : (n : ℕ) → n < length t → names_victim ds ((renamed t) n) ≡ names_victim cs n
  leads_renamed n h = any_renamed (λ c. nat_eq c.asker ((renamed t) n) && is_some (victim_of c)) (λ c. nat_eq c.asker n && is_some (victim_of c)) (λ c l. ap (λ b. b && is_some (victim_of c)) (same_number t w c.asker n l h))
