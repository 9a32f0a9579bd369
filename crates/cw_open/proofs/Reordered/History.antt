-- What a run leaves, in depth-first order.
use Rattle.std.proofs.Common.{◌≡◌, ℕ, ◌<◌, List, [], ◌∷◌, length, map, refl, ap, sym, ◌∙◌, subst, arith, Bool, Option, Some, None, true, false, inl, inr, nat_eq, nat_lt}
use Rattle.std.specs.Prelude.{◌&&◌, not, is_some, ℤ, pos, All, filter, option_map, slice_get, slice_index_or, unwrap_or}
use Rattle.std.specs.List.{list_any}
use Rattle.std.proofs.lemmas.Bool.{and_parts, and_from, eqb-true, or_cases}
use Rattle.std.proofs.lemmas.List.Elements.{All-weaker, All-head, All-tail}
use Rattle.std.proofs.lemmas.List.{map-id}
use Rattle.std.proofs.lemmas.Option.{same_Some, slice_get_within}
use Rattle.cw_code.specs.declared.Back.{Back}
use Rattle.cw_tree.specs.declared.node.Node.{Node}
use Rattle.cw_tree.specs.declared.node.Kind.TheVariants.{Cancel}
use Rattle.cw_tree.specs.declared.access.Entry.{Entry}
use Rattle.cw_tree.specs.declared.conflict.Conflict.{Conflict}
use Rattle.cw_tree.specs.Nodes.{touches_kind, tries_kind, is_strand_kind, is_block_kind, below, stamp_of, end_of, is_node, is_block, is_strand, is_aborted, is_committed, touches, all_nodes}
use Rattle.cw_tree.specs.Walks.{IsNumbered, path, is_above}
use Rattle.cw_tree.specs.Series.{has_later}
use Rattle.cw_tree.specs.Shape.{AreStamps}
use Rattle.cw_tree.specs.NextNodes.{IsSound}
use Rattle.cw_tree.specs.declared.closed.Halt.TheVariants.{Fault, Budget, Memory}
use Rattle.cw_tree.specs.Accesses.{is_live, live_accesses, written, cell_value}
use Rattle.cw_tree.specs.Journals.{AreEntries, AreJournals, EndedBetween, AllEndedBetween, JournalsEnded, fits_cells}
use Rattle.cw_tree.specs.Cancels.{wrote_in, before_block, put_back, IsCancel, AreCancels}
use Rattle.cw_tree.specs.Refusals.{victim_of, is_victim, names_victim, IsRecorded, AreRefusals, RollsBack}
use Rattle.cw_tree.specs.InOrder.{renamed, with_parent_renamed, in_order, conflicts_in_order}
use Rattle.cw_tree.proofs.Lists.{In}
use Rattle.cw_tree.proofs.Members.{in_filter, in_below, below_in, map_in, in_map, filter_in, filter_same, any_same, map_same}
use Rattle.cw_tree.proofs.Cancels.{before_same}
use Rattle.cw_tree.proofs.InOrder.Keys.{by_key_in, in_by_key}
use Rattle.cw_tree.proofs.Walks.There.{node_there}
use Rattle.cw_tree.proofs.Walks.Kin.{in_ancestor}
use Rattle.cw_tree.proofs.Walks.Ancestors.{ancestor_le}
use Rattle.cw_tree.proofs.InOrder.Renaming.{node_stays, above_stays}
use Rattle.cw_tree.proofs.InOrder.Sound.{sound_stays}
use Rattle.cw_tree.proofs.ChainLaws.LiveAccesses.{live_rises}
use Rattle.cw_tree.proofs.Rising.{Rises, rises_same}
use Rattle.cw_tree.proofs.NodeKinds.{access_stamped, aborted_block, block_some}
use Rattle.cw_open.specs.Left.{AreMade, HistoriesAreInOrder}
use Rattle.cw_open.specs.Reordered.{CellsStay, JournalsStay, EndsStay, CancelsStay, RefusalsStay, RollsBackStays, FaultsStay}
use Rattle.cw_open.proofs.Refused.Falling.{AreAskers}
use Rattle.cw_open.proofs.Reordered.Leaving.{histories_left}
use Rattle.cw_open.proofs.Reordered.Renamed.{each_number, low, node_kept, stamp_kept, end_kept, block_kept, aborted_kept, committed_kept, live_renamed, strand_kept, written_kept, read_kept, path_renamed, later_renamed, any_map}
use Rattle.cw_open.proofs.Reordered.Conflicts.{tried_some, each_renamed, recorded_all, victim_renamed, leads_renamed}

-- what a function makes equal, of members on which it is one to one
map_back : (g : ℕ → ℕ) (xs ys : List ℕ) → map g xs ≡ map g ys → ((x y : ℕ) → In x xs → In y ys → g x ≡ g y → x ≡ y) → xs ≡ ys
map_back g [] [] e one = refl
map_back g [] (y ∷ ys) e one = absurd (cc e)
map_back g (x ∷ xs) [] e one = absurd (cc e)
map_back g (x ∷ xs) (y ∷ ys) e one =
    let head : g x ≡ g y = cc e in
    let tail : map g xs ≡ map g ys = cc e in
    ap (λ n. n ∷ xs) (one x y (inl refl) (inl refl) head) ∙ ap (λ ns. y ∷ ns) (map_back g xs ys tail (λ a b i j. one a b (inr i) (inr j)))

module _ (t : List Node) (w : IsNumbered t) (sound : IsSound t) where
  abbrev new : List Node
  new = in_order t

  abbrev f : ℕ → ℕ
  f = renamed t

  stamps_new : AreStamps new
  stamps_new = (sound_stays t w sound).stamps

  -- ## Live accesses

  module _ (c : ℕ) where
    abbrev lives : List Node → ℕ → Bool
    lives u n = touches u c n && is_live u n

    touched_kept : (n : ℕ) → n < length t → touches new c (f n) ≡ touches t c n
    touched_kept = node_kept t w (λ y. touches_kind c y.kind) (λ y. refl)

    live_there : (u : List Node) (n : ℕ) → In n (live_accesses u c) → (n < length u) × (lives u n ≡ true)
    live_there u n i = let z = in_filter (lives u) n (all_nodes u) (by_key_in (stamp_of u) n (filter (lives u) (all_nodes u)) i) in (in_below n (length u) z.0, z.1)

    there_live : (u : List Node) (n : ℕ) → n < length u → lives u n ≡ true → In n (live_accesses u c)
    there_live u n l e = in_by_key (stamp_of u) n (filter (lives u) (all_nodes u)) (filter_in (lives u) n (all_nodes u) (below_in n (length u) l) e)

    lives_kept : (n : ℕ) → n < length t → lives new (f n) ≡ lives t n
    lives_kept n l = ap (λ b. b && is_live new (f n)) (touched_kept n l) ∙ ap (λ b. touches t c n && b) (live_renamed t w n l)

    new_in : (n : ℕ) → In n (live_accesses new c) → In n (map f (live_accesses t c))
    new_in n i =
        let z = live_there new n i in
        each_number t w (λ n. lives new n ≡ true → In n (map f (live_accesses t c))) (λ k l e. map_in f k (live_accesses t c) (there_live t k l (sym (lives_kept k l) ∙ e))) n z.0 z.1

    old_in : (n : ℕ) → In n (map f (live_accesses t c)) → In n (live_accesses new c)
    old_in n i =
        let z = in_map f n (live_accesses t c) i in
        let y = live_there t z.0 z.1 in
        let P : ℕ → Type 0 = λ n. In n (live_accesses new c) in
        subst P (sym z.2) (there_live new (f z.0) (low t w z.0 y.0) (lives_kept z.0 y.0 ∙ y.1))

    stamps_moved : (ns : List ℕ) → ((n : ℕ) → In n ns → n < length t) → map (stamp_of new) (map f ns) ≡ map (stamp_of t) ns
    stamps_moved [] g = refl
    stamps_moved (n ∷ ns) g = ap (λ s. s ∷ map (stamp_of new) (map f ns)) (stamp_kept t w n (g n (inl refl))) ∙ ap (λ ss. stamp_of t n ∷ ss) (stamps_moved ns (λ k i. g k (inr i)))

    pub accesses_renamed : live_accesses new c ≡ map f (live_accesses t c)
    accesses_renamed =
        let M = map f (live_accesses t c) in
        let P : List ℕ → Type 0 = λ ss. Rises ss in
        let moved = stamps_moved (live_accesses t c) (λ n i. (live_there t n i).0) in
        map_back (stamp_of new) (live_accesses new c) M
        (rises_same (map (stamp_of new) (live_accesses new c)) (map (stamp_of new) M) (live_rises new c stamps_new) (subst P (sym moved) (live_rises t c sound.stamps))
        (λ s i. let z = in_map (stamp_of new) s (live_accesses new c) i in let Q : ℕ → Type 0 = λ s. In s (map (stamp_of new) M) in subst Q (sym z.2) (map_in (stamp_of new) z.0 M (new_in z.0 z.1)))
        (λ s i. let z = in_map (stamp_of new) s M i in let Q : ℕ → Type 0 = λ s. In s (map (stamp_of new) (live_accesses new c)) in subst Q (sym z.2) (map_in (stamp_of new) z.0 (live_accesses new c) (old_in z.0 z.1))))
        (λ x y i j e.
        let a = live_there new x i in
        let b = live_there new y (old_in y j) in
        stamps_new.distinct x y a.0 b.0 (access_stamped new stamps_new c x (and_parts (touches new c x) (is_live new x) a.1).0) e)

  -- ## Journals

  entries_renamed : (v : ℤ) (us : List ℕ) (es : List Entry) → ((u : ℕ) → In u us → u < length t) → AreEntries t v us es → AreEntries new v (map f us) es
  entries_renamed v [] [] g a = a
  entries_renamed v [] (e ∷ es) g a = a
  entries_renamed v (u ∷ us) [] g a = a
  entries_renamed v (u ∷ us) (e ∷ es) g a =
      let l = g u (inl refl) in
      let wrote = written_kept t w u l in
      let P : ℤ → Type 0 = λ x. AreEntries new x (map f us) es in (
        record {
          stamp = a.0.stamp ∙ sym (stamp_kept t w u l);
          wrote = a.0.wrote ∙ ap is_some (sym wrote);
          value = a.0.value ∙ ap (λ o. unwrap_or o v) (sym wrote);
          old = a.0.old;
          read = λ x q. a.0.read x (sym (read_kept t w u l) ∙ q);
        },
        subst P (ap (λ o. unwrap_or o v) (sym wrote)) (entries_renamed (unwrap_or (written t u) v) us es (λ k i. g k (inr i)) a.1),
      )

  between_renamed : (u v : ℕ) → u < length t → v < length t → EndedBetween t u v → EndedBetween new (f u) (f v)
  between_renamed u v lu lv e =
      each_number t w (λ b. (is_block new b && is_above new b (f u) && not (is_above new b (f v))) ≡ true → (is_committed new b ≡ true) × (end_of new b < stamp_of new (f v)))
      (λ b l q.
      let was : (is_block t b && is_above t b u && not (is_above t b v)) ≡ true =
      sym (ap (λ k. k && is_above new (f b) (f u) && not (is_above new (f b) (f v))) (block_kept t w b l)
      ∙ ap (λ k. is_block t b && k && not (is_above new (f b) (f v))) (above_stays t w b u l lu)
      ∙ ap (λ k. is_block t b && is_above t b u && not k) (above_stays t w b v l lv)) ∙ q in
      let z = e b l was in
      (committed_kept t w b l ∙ z.0, omega (arith, z.1, end_kept t w b l, stamp_kept t w v lv)))

  all_between : (us : List ℕ) → ((u : ℕ) → In u us → u < length t) → AllEndedBetween t us → AllEndedBetween new (map f us)
  all_between [] g a = a
  all_between (u ∷ []) g a = tt
  all_between (u ∷ v ∷ us) g a = (between_renamed u v (g u (inl refl)) (g v (inr (inl refl))) a.0, all_between (v ∷ us) (λ k i. g k (inr i)) a.1)

  live_low : (c u : ℕ) → In u (live_accesses t c) → u < length t
  live_low c u i = (live_there c t u i).0

  pub journals_renamed : (first : List ℤ) (kept : List (List Entry)) → AreJournals t first kept → AreJournals new first kept
  journals_renamed first kept js = record {
    len = js.len;
    each = λ c v es e g. (let P : List ℕ → Type 0 = λ us. AreEntries new v us es in subst P (sym (accesses_renamed c)) (entries_renamed v (live_accesses t c) es (live_low c) (js.each c v es e g)));
  }

  pub ends_renamed : (k : ℕ) → JournalsEnded t k → JournalsEnded new k
  ends_renamed k ends c l = let P : List ℕ → Type 0 = λ us. AllEndedBetween new us in subst P (sym (accesses_renamed c)) (all_between (live_accesses t c) (live_low c) (ends c l))

  -- ## Cancels

  -- what a block puts back, which is renamed, is the same
  wrote_renamed : (b stamp c : ℕ) → b < length t → wrote_in new (f b) stamp (live_accesses new c) ≡ wrote_in t b stamp (live_accesses t c)
  wrote_renamed b stamp c low_b =
      ap (wrote_in new (f b) stamp) (accesses_renamed c)
      ∙ any_map (λ u. is_above new (f b) u && nat_lt (stamp_of new u) stamp && is_some (written new u)) f (live_accesses t c)
      ∙ any_same (λ u. is_above new (f b) (f u) && nat_lt (stamp_of new (f u)) stamp && is_some (written new (f u)))
      (λ u. is_above t b u && nat_lt (stamp_of t u) stamp && is_some (written t u)) (live_accesses t c)
      (λ u i.
      let l = live_low c u i in
      ap (λ k. k && nat_lt (stamp_of new (f u)) stamp && is_some (written new (f u))) (above_stays t w b u low_b l)
      ∙ ap (λ k. is_above t b u && nat_lt k stamp && is_some (written new (f u))) (stamp_kept t w u l)
      ∙ ap (λ k. is_above t b u && nat_lt (stamp_of t u) stamp && is_some k) (written_kept t w u l))

  before_renamed : (b c : ℕ) → b < length t
      → map (written new) (before_block new (f b) (live_accesses new c)) ≡ map (written t) (before_block t b (live_accesses t c))
  before_renamed b c low_b =
      ap (λ us. map (written new) (before_block new (f b) us)) (accesses_renamed c)
      ∙ before_same t new b (f b) (λ (n : ℕ). n) f (live_accesses t c)
      (λ u i. (above_stays t w b u low_b (live_low c u i), written_kept t w u (live_low c u i)))
      ∙ ap (λ us. map (written t) (before_block t b us)) (map-id (live_accesses t c))

  back_renamed : (first : List ℤ) (b stamp : ℕ) → b < length t → put_back new first (live_accesses new) (f b) stamp ≡ put_back t first (live_accesses t) b stamp
  back_renamed first b stamp low_b =
      let entry : ℕ → ℤ → Back = λ c v. record { cell = c; value = v } in
      let back : List Node → ℕ → ℕ → Back = λ u d c. entry c
      (cell_value (slice_index_or first c (pos 0)) (map (written u) (before_block u d (live_accesses u c)))) in
      ap (map (back new (f b)))
      (filter_same (λ c. wrote_in new (f b) stamp (live_accesses new c)) (λ c. wrote_in t b stamp (live_accesses t c)) (below (length first))
      (λ c i. wrote_renamed b stamp c low_b))
      ∙ map_same (back new (f b)) (back t b) (filter (λ c. wrote_in t b stamp (live_accesses t c)) (below (length first)))
      (λ c i. ap (λ ws. entry c (cell_value (slice_index_or first c (pos 0)) ws)) (before_renamed b c low_b))

  cancel_renamed : (first : List ℤ) → AreCancels t first → (n : ℕ) → n < length t → (y : Node) (back : List Back) → slice_get new (f n) ≡ Some y
      → y.kind ≡ Cancel back → is_live new (f n) ≡ true → IsCancel new first y back
  cancel_renamed first cancels n l y back at kind lives = by (slice_get t n) refl where
    by : (o : Option Node) → slice_get t n ≡ o → IsCancel new first y back
    by None e = absurd (cc (at, node_stays t w n l, ap (option_map (with_parent_renamed t)) e))
    by (Some x) e =
        let same : with_parent_renamed t x ≡ y = same_Some (with_parent_renamed t x) y
        (sym (node_stays t w n l ∙ ap (option_map (with_parent_renamed t)) e) ∙ at) in
        let old = cancels n x back e (ap (λ z. z.kind) same ∙ kind) (sym (live_renamed t w n l) ∙ lives) in
        let low_b = node_there (λ z. is_block_kind z.kind) t x.parent old.block in
        let P : Node → Type 0 = λ z. IsCancel new first z back in
        subst P same (record { block = block_kept t w x.parent low_b ∙ old.block; list = old.list ∙ sym (back_renamed first x.parent x.stamp low_b) })

  pub cancels_renamed : (first : List ℤ) → AreCancels t first → AreCancels new first
  cancels_renamed first cancels n y back at =
      each_number t w (λ n. (y : Node) (back : List Back) → slice_get new n ≡ Some y → y.kind ≡ Cancel back → is_live new n ≡ true → IsCancel new first y back)
      (cancel_renamed first cancels) n (slice_get_within new n y at) y back at

-- ## Refusals

module _ (t : List Node) (w : IsNumbered t) (cs : List Conflict) (made : AreMade t cs) where
  abbrev moved : List Node
  moved = in_order t

  abbrev g : ℕ → ℕ
  g = renamed t

  abbrev ds : List Conflict
  ds = conflicts_in_order t cs

  askers_low : AreAskers t cs
  askers_low = All-weaker (IsRecorded t) (λ c. c.asker < length t) (λ c (x, b, q). node_there (λ y. tries_kind c.cell y.kind) t c.asker q.asker) cs made.recorded

  -- who tells that it leads back is a refused access
  leads_some : (n : ℕ) → n < length t → names_victim cs n ≡ true → 0 < n
  leads_some n l e = by cs made.recorded e where
    by : (xs : List Conflict) → All (IsRecorded t) xs → names_victim xs n ≡ true → 0 < n
    by [] a e = absurd (cc e)
    by (c ∷ xs) a e =
        elim (or_cases (nat_eq c.asker n && is_some (victim_of c)) (names_victim xs n) e) [
          | inl z ↦
              (let (x, b, q) = All-head (IsRecorded t) c xs a in
              let at : c.asker ≡ n = eqb-true c.asker n (and_parts (nat_eq c.asker n) (is_some (victim_of c)) z).0 in
              let some = tried_some t w c.cell c.asker q.asker in
              omega arith)
          | inr z ↦ by xs (All-tail (IsRecorded t) c xs a) z
        ]

  path_low : (b n : ℕ) → b < length t → In n (path t b) → n < length t
  path_low b n l i = let le = ancestor_le t w.rooted n b l (in_ancestor t n b i) in omega arith

  pub refusals_renamed : AreRefusals moved ds
  refusals_renamed = record {
    each = each_renamed t w cs askers_low made.each;
    recorded = recorded_all t w cs askers_low made.each made.recorded;
    aborted =
        each_number t w (λ b. is_aborted moved b ≡ true → list_any (is_victim moved ds) (path moved b) ≡ true)
        (λ b l e.
        ap (list_any (is_victim moved ds)) (path_renamed t w b l)
        ∙ any_map (is_victim moved ds) g (path t b)
        ∙ any_same (λ n. is_victim moved ds (g n)) (is_victim t cs) (path t b) (λ n i. victim_renamed t w cs askers_low made.each n (path_low b n l i))
        ∙ made.aborted b (sym (aborted_kept t w b l) ∙ e));
    committed =
        each_number t w (λ b. is_committed moved b ≡ true → is_victim moved ds b ≡ false)
        (λ b l e. victim_renamed t w cs askers_low made.each b l ∙ made.committed b (sym (committed_kept t w b l) ∙ e));
  }

  pub backs_renamed : RollsBack t cs → RollsBack moved ds
  backs_renamed back = record {
    tried =
        each_number t w (λ n. names_victim ds n ≡ true → has_later moved n ≡ false)
        (λ n l e.
        let was = sym (leads_renamed t w cs askers_low made.each n l) ∙ e in
        later_renamed t w n (leads_some n l was) l ∙ back.tried n l was);
    aborted =
        each_number t w (λ n. (is_aborted moved n && not (is_victim moved ds n)) ≡ true → has_later moved n ≡ false)
        (λ n l e.
        let was : (is_aborted t n && not (is_victim t cs n)) ≡ true =
        sym (ap (λ b. b && not (is_victim moved ds (g n))) (aborted_kept t w n l) ∙ ap (λ b. is_aborted t n && not b) (victim_renamed t w cs askers_low made.each n l)) ∙ e in
        later_renamed t w n (block_some t w.root n (aborted_block t n (and_parts (is_aborted t n) (not (is_victim t cs n)) was).0)) l ∙ back.aborted n l was);
  }

-- ## The laws

pub cells_stay : CellsStay
cells_stay t k w fits = each_number t w (λ n. is_node (λ x. fits_cells k x.kind) (in_order t) n ≡ true) (λ n l. node_kept t w (λ x. fits_cells k x.kind) (λ x. refl) n l ∙ fits n l)

pub journals_stay : JournalsStay
journals_stay t first kept w sound js = journals_renamed t w sound first kept js

pub ends_stay : EndsStay
ends_stay t k w sound ends = ends_renamed t w sound k ends

pub cancels_stay : CancelsStay
cancels_stay t first w sound cancels = cancels_renamed t w sound first cancels

pub refusals_stay : RefusalsStay
refusals_stay t cs w made = refusals_renamed t w cs made

pub rolls_back_stays : RollsBackStays
rolls_back_stays t cs w made back = backs_renamed t w cs made back

pub faults_stay : FaultsStay
faults_stay t None w e = tt
faults_stay t (Some (Fault s kind)) w e =
    let z = and_parts (is_strand t s) (is_live t s) e in
    let h = node_there (λ x. is_strand_kind x.kind) t s z.0 in
    and_from (is_strand (in_order t) (renamed t s)) (is_live (in_order t) (renamed t s)) (strand_kept t w s h ∙ z.0) (live_renamed t w s h ∙ z.1)
faults_stay t (Some (Budget s)) w e = tt
faults_stay t (Some Memory) w e = tt

pub histories_in_order : HistoriesAreInOrder
histories_in_order first m kept reached none k w =
    let t = m.tree in
    let h = histories_left first m kept reached none k in
    let sound = sound_stays t w h.sound in
    record {
      tree = sound.tree;
      stamps = sound.stamps;
      pending_last = sound.pending_last;
      cells = cells_stay t (length first) w h.cells;
      journals = journals_renamed t w h.sound first kept h.journals;
      ended = ends_renamed t w h.sound (length first) h.ended;
      cancels = cancels_renamed t w h.sound first h.cancels;
      refusals = refusals_renamed t w m.conflicts h.refusals;
      rolls_back = backs_renamed t w m.conflicts h.refusals h.rolls_back;
    }
