-- A strand that has spent its budget, in depth-first order.
use Rattle.std.proofs.Common.{◌≡◌, ◌≢◌, ℕ, ◌<◌, ◌≤◌, List, [], ◌∷◌, length, map, refl, ap, sym, ◌∙◌, subst, arith, Bool, true, false, cond, Option, Some, None, inl, inr, nat_eq}
use Rattle.std.specs.Prelude.{◌⊎◌, ◌&&◌, ◌||◌, not, ℤ, All, slice_get, unwrap_or}
use Rattle.std.specs.List.{list_any, find}
use Rattle.std.specs.Option.{option_map_or}
use Rattle.std.proofs.lemmas.Bool.{and_parts, and_from, or_cases, or_left, or_right, cases_lt, cases_eq, cases_Bool, eqb-true, eq-eqb, ne_eqb, not_from_false, false_from_ne_true, true_from_ne_false}
use Rattle.std.proofs.lemmas.List.Elements.{All-nil, All-cons, All-head, All-tail, All-map}
use Rattle.cw_tree.specs.declared.node.Node.{Node}
use Rattle.cw_tree.specs.declared.node.Kind.{Kind}
use Rattle.cw_tree.specs.declared.node.Kind.TheVariants.{Strand, Fork, Block, Read, Write, Out, Tried}
use Rattle.cw_tree.specs.declared.node.BlockState.{BlockState}
use Rattle.cw_tree.specs.declared.node.BlockState.TheVariants.{Pending, Committed, Aborted}
use Rattle.cw_tree.specs.declared.conflict.Conflict.{Conflict}
use Rattle.cw_tree.specs.Nodes.{passes, is_strand_kind, is_block_kind, is_tried_kind, is_pending_state, is_aborted_state, parent_of, stamp_of, is_strand, is_fork, is_block, is_pending, is_aborted, is_tried, all_nodes, last_below, block_with_stamp}
use Rattle.cw_tree.specs.Walks.{IsNumbered, IsRooted, has, lca, is_ancestor, is_above}
use Rattle.cw_tree.specs.Series.{strand_of, last_of, place, parallel, is_before}
use Rattle.cw_tree.specs.Shape.{AreStamps}
use Rattle.cw_tree.specs.Accesses.{is_live}
use Rattle.cw_tree.specs.ForkCounts.{one_if}
use Rattle.cw_tree.specs.Refusals.{victim_of, refused_node, is_refused_in, tells, may_be_last, Spent}
use Rattle.cw_tree.specs.InOrder.{renamed, in_order, conflict_in_order, conflicts_in_order, asker_of}
use Rattle.cw_tree.proofs.Lists.{In}
use Rattle.cw_tree.proofs.Members.{in_filter, in_below, below_in}
use Rattle.cw_tree.proofs.Walks.There.{node_there}
use Rattle.cw_tree.proofs.Walks.Ancestors.{above_parent, ancestor_le, ancestor_step, above_ancestor}
use Rattle.cw_tree.proofs.Walks.Kin.{of_before, children_apart, branch, ancestor_linear, fork_child}
use Rattle.cw_tree.proofs.Walks.Meets.{lca_is_meet}
use Rattle.cw_tree.proofs.Walks.Parting.{series_or_parallel}
use Rattle.cw_tree.proofs.Walks.Strands.{strand_over, strand_of_le, strand_of_other, strand_innermost}
use Rattle.cw_tree.proofs.InOrder.Renumbered.{in_order_numbered}
use Rattle.cw_tree.proofs.InOrder.Renaming.{renamed_apart, ancestor_stays}
use Rattle.cw_tree.proofs.InOrder.Sound.{sound_stays}
use Rattle.cw_tree.proofs.Sorts.{any_by_key, all_by_key}
use Rattle.cw_tree.proofs.NodeKinds.{node_tells, aborted_block, block_stamped}
use Rattle.cw_tree.proofs.LastBelow.{last_some, last_is, none_is}
use Rattle.cw_open.specs.Machine.{OpenMachine, has_finished}
use Rattle.cw_open.specs.Open.{is_open}
use Rattle.cw_open.specs.Runs.{IsReachedBy, at_any_time}
use Rattle.cw_open.specs.Spent.{StandsStill, HasSpent, SpentAreInOrder}
use Rattle.cw_open.proofs.Open.Standing.{stands_at, open_over, open_block, pending_open}
use Rattle.cw_open.proofs.Open.Trees.{IsWell}
use Rattle.cw_open.proofs.Laws.Named.{strand_is, live_from}
use Rattle.cw_open.proofs.Refused.Victims.{IsTold, IsToldState, told_states}
use Rattle.cw_open.proofs.Refused.Asking.{asking_states}
use Rattle.cw_open.proofs.Refused.Fell.{One, any_one}
use Rattle.cw_open.proofs.Reordered.Renamed.{each_number, low, strand_kept, block_kept, pending_kept, stamp_kept, node_kept, live_renamed, strand_of_renamed, any_map}
use Rattle.cw_open.proofs.Reordered.SeriesRise.{series_rises}

-- ## Lists

-- what is found passes what all that pass the first test pass
found_passes : (p q : Conflict → Bool) (cs : List Conflict) → list_any p cs ≡ true → All (λ c. p c ≡ true → q c ≡ true) cs → option_map_or q (find p cs) false ≡ true
found_passes p q [] e a = absurd (cc e)
found_passes p q (c ∷ cs) e a = by (p c) refl (found_passes p q cs) where
  by : (b : Bool) → p c ≡ b → (list_any p cs ≡ true → All (λ c. p c ≡ true → q c ≡ true) cs → option_map_or q (find p cs) false ≡ true) → option_map_or q (cond b (Some c) (find p cs)) false ≡ true
  by true is more = All-head (λ c. p c ≡ true → q c ≡ true) c cs a is
  by false is more =
      more (elim (or_cases (p c) (list_any p cs) e) [ inl z ↦ absurd (cc (z, is)) | inr z ↦ z ]) (All-tail (λ c. p c ≡ true → q c ≡ true) c cs a)

-- two facts of each
all_with : (P Q R : Conflict → Type 0) (cs : List Conflict) → All P cs → All Q cs → ((c : Conflict) → P c → Q c → R c) → All R cs
all_with P Q R [] a b f = All-nil R
all_with P Q R (c ∷ cs) a b f = All-cons R c cs (f c (All-head P c cs a) (All-head Q c cs b)) (all_with P Q R cs (All-tail P c cs a) (All-tail Q c cs b) f)

-- the first that passes, where only one number does
find_one : (p : ℕ → Bool) (b : ℕ) (ns : List ℕ) → In b ns → p b ≡ true → ((n : ℕ) → In n ns → p n ≡ true → n ≡ b) → find p ns ≡ Some b
find_one p b [] i e one = absurd i
find_one p b (n ∷ ns) i e one = by (p n) refl (find_one p b ns) where
  by : (x : Bool) → p n ≡ x → (In b ns → p b ≡ true → ((m : ℕ) → In m ns → p m ≡ true → m ≡ b) → find p ns ≡ Some b) → cond x (Some n) (find p ns) ≡ Some b
  by true is more = ap Some (one n (inl refl) is)
  by false is more =
      more (elim i [ inl q ↦ absurd (cc (e, ap p q, is)) | inr j ↦ j ]) e (λ m j. one m (inr j))

-- the block that was begun at a stamp
pub block_found : (t : List Node) → AreStamps t → (b : ℕ) → is_block t b ≡ true → block_with_stamp t (stamp_of t b) ≡ Some b
block_found t s b block =
    let h = node_there (λ y. is_block_kind y.kind) t b block in
    find_one (λ n. is_block t n && nat_eq (stamp_of t n) (stamp_of t b)) b (all_nodes t) (below_in b (length t) h) (and_from (is_block t b) (nat_eq (stamp_of t b) (stamp_of t b)) block (eq-eqb (stamp_of t b) (stamp_of t b) refl))
    (λ n i e.
    let z = and_parts (is_block t n) (nat_eq (stamp_of t n) (stamp_of t b)) e in
    s.distinct n b (in_below n (length t) i) h (block_stamped t s n z.0) (eqb-true (stamp_of t n) (stamp_of t b) z.1))

-- a pending block was not rolled back
not_pending : (t : List Node) (n : ℕ) → is_aborted t n ≡ true → is_pending t n ≡ true → ⊥
not_pending t n = by (slice_get t n) where
  states : (k : Bool) (s : BlockState) → (k && is_aborted_state s) ≡ true → (k && is_pending_state s) ≡ true → ⊥
  states false s e f = cc e
  states true Pending e f = cc e
  states true Committed e f = cc f
  states true Aborted e f = cc f

  by : (o : Option Node) → passes (λ x. is_block_kind x.kind && is_aborted_state x.state) o ≡ true → passes (λ x. is_block_kind x.kind && is_pending_state x.state) o ≡ true → ⊥
  by None e f = cc e
  by (Some x) e f = states (is_block_kind x.kind) x.state e f

-- a refused access is no strand
tried_no_strand : (t : List Node) (n : ℕ) → is_tried t n ≡ true → is_strand t n ≡ false
tried_no_strand t = node_tells false t (λ y. is_tried_kind y.kind) (λ y. is_strand_kind y.kind) (λ y e. kinds y.kind e) where
  kinds : (k : Kind) → is_tried_kind k ≡ true → is_strand_kind k ≡ false
  kinds (Tried d) e = refl
  kinds Strand e = absurd (cc e)
  kinds Fork e = absurd (cc e)
  kinds Block e = absurd (cc e)
  kinds (Read d v) e = absurd (cc e)
  kinds (Write d v) e = absurd (cc e)
  kinds (Out v) e = absurd (cc e)
  kinds _ e = absurd (cc e)

-- the askers of conflicts are refused accesses
all_tried : (t : List Node) (cs : List Conflict) (ns : List ℕ) → map (λ c. c.asker) cs ≡ ns → ((n : ℕ) → In n ns → is_tried t n ≡ true) → All (λ c. is_tried t c.asker ≡ true) cs
all_tried t [] ns e g = All-nil (λ c. is_tried t c.asker ≡ true)
all_tried t (c ∷ cs) ns e g =
    let P : List ℕ → Type 0 = λ ks. (n : ℕ) → In n ks → is_tried t n ≡ true in
    let h = subst P (sym e) g in
    All-cons (λ c. is_tried t c.asker ≡ true) c cs (h c.asker (inl refl)) (all_tried t cs (map (λ c. c.asker) cs) refl (λ n i. h n (inr i)))

module _ (asked : List Node → List ℕ → Option ℤ → List ℕ) (first : List ℤ) (m : OpenMachine) (reach : IsReachedBy (at_any_time asked) first m) (w : IsNumbered m.tree) where
  abbrev t : List Node
  t = m.tree

  abbrev new : List Node
  new = in_order t

  abbrev f : ℕ → ℕ
  f = renamed t

  told : IsToldState first m
  told = told_states (at_any_time asked) first m reach

  well : IsWell m
  well = told.state.well

  -- what is above an open node was not rolled back
  open_live : (n : ℕ) → n < length t → (p : ℕ) → p < length t → is_open m p ≡ true → ((a : ℕ) → is_above t a n ≡ true → is_ancestor t a p ≡ true) → is_live t n ≡ true
  open_live n h p hp opened over =
      live_from t n (λ a up.
      false_from_ne_true (is_aborted t a) (λ e.
      let open_a = open_over m well.sound.tree well.nested a p hp (over a up) opened in
      let pending = open_block m well.sound.tree well.nested a (aborted_block t a e) open_a in
      absurd (not_pending t a e pending)))

  -- ## The last node of a strand

  module _ (v : ℕ) (low_v : v < length t) (tried : is_tried t v ≡ true) (last : last_of t (strand_of t v) ≡ v) (at : place t (strand_of t v) ≡ parent_of t v) (unfinished : has_finished m (strand_of t v) ≡ false) where
    abbrev x : ℕ
    x = strand_of t v

    abbrev p : ℕ
    p = parent_of t v

    strand : is_strand t x ≡ true
    strand = strand_is t w.root v

    some : 0 < v
    some = elim (cases_eq v 0) [
      | inl q ↦ absurd (let root = w.root in cc (root, tried_no_strand t v tried, ap (is_strand t) q))
      | inr ne ↦ omega arith
    ]

    up : p < v
    up = w.rooted v some low_v

    low_p : p < length t
    low_p = let u = up in let l = low_v in omega arith

    open_p : is_open m p ≡ true
    open_p = elim (stands_at t w.rooted x strand).kind [
      | inl q ↦
          (let P : ℕ → Type 0 = λ n. is_open m n ≡ true in
          subst P (sym q ∙ at)
          (or_left (is_strand t x && not (has_finished m x) || is_fork t x && not (has m.joined x)) (is_pending t x)
          (or_left (is_strand t x && not (has_finished m x)) (is_fork t x && not (has m.joined x)) (and_from (is_strand t x) (not (has_finished m x)) strand (not_from_false (has_finished m x) unfinished)))))
      | inr pending ↦ pending_open m well.sound.tree well.nested p (ap (is_pending t) (sym at) ∙ pending)
    ]

    pub live_v : is_live t v ≡ true
    live_v = open_live v low_v p low_p open_p (λ a over. sym (above_parent t w.rooted a v some low_v) ∙ over)

    -- no later number is of the strand
    none_later : (n : ℕ) → n < length t → strand_of t n ≡ x → n ≤ v
    none_later n h e = by (last_below of_x (length t)) refl where
      of_x : ℕ → Bool
      of_x n = nat_eq (strand_of t n) x

      by : (o : Option ℕ) → last_below (λ n. nat_eq (strand_of t n) x) (length t) ≡ o → n ≤ v
      by None q = absurd (cc (none_is (λ n. nat_eq (strand_of t n) x) (length t) v q low_v, eq-eqb (strand_of t v) x refl))
      by (Some b) q =
          let l = last_is (λ n. nat_eq (strand_of t n) x) (length t) b q in
          let same : b ≡ v = ap (λ o. unwrap_or o x) (sym q) ∙ last in
          elim (cases_lt b n) [ inl less ↦ absurd (cc (l.none n less h, eq-eqb (strand_of t n) x e)) | inr le ↦ omega arith ]

    -- nor does another node of it come later in depth-first order
    others_before : (n : ℕ) → n < length t → strand_of t n ≡ x → n ≢ v → f n < f v
    others_before n h e ne = by (cases_Bool (is_ancestor t n v)) where
      r : IsRooted t
      r = w.rooted

      low_x : x < length t
      low_x = let le = strand_of_le t r v low_v in let l = low_v in omega arith

      over_n : is_ancestor t x n ≡ true
      over_n = let P : ℕ → Type 0 = λ y. is_ancestor t y n ≡ true in subst P e (strand_over t r n h)

      not_under : is_ancestor t v n ≡ false
      not_under = false_from_ne_true (is_ancestor t v n) (λ q. let ge = ancestor_le t r v n h q in let le = none_later n h e in absurd (ne (omega arith)))

      not_after : is_before t v n ≡ false
      not_after =
          false_from_ne_true (is_before t v n) (λ q.
          let s = of_before t v n q in
          let o = s.ordered in
          let less = o.less in
          let d_low : s.second ≤ n = ancestor_le t r s.second n h s.over_second in
          elim (cases_eq v s.first) [
            | inr other ↦
                (let over = sym (ancestor_step t r s.first v some low_v other) ∙ s.over_first in
                let opened = open_over m well.sound.tree well.nested s.first p low_p over open_p in
                absurd (cc (opened, well.nested.last s.first s.second o.some o.less (omega arith) o.same o.no_fork)))
            | inl same ↦
                (let there : s.second < length t = omega arith in
                let some_d : 0 < s.second = omega arith in
                let above : parent_of t s.second ≡ p = sym o.same ∙ ap (parent_of t) (sym same) in
                let no_strand : is_strand t s.second ≡ false = false_from_ne_true (is_strand t s.second) (λ z. absurd (cc (well.sound.tree.strands s.second there some_d z, ap (is_fork t) (sym o.same), o.no_fork))) in
                let of_d : strand_of t s.second ≡ x = strand_of_other t r s.second some_d there no_strand ∙ ap (strand_of t) above ∙ sym (strand_of_other t r v some low_v (tried_no_strand t v tried)) in
                absurd (let le = none_later s.second there of_d in omega arith))
          ])

      not_parallel : is_ancestor t n v ≡ false → parallel t n v ≡ false
      not_parallel off =
          false_from_ne_true (parallel t n v) (λ q.
          let fork = (and_parts (not (is_ancestor t n v) && not (is_ancestor t v n)) (is_fork t (lca t n v)) q).1 in
          let l = lca t n v in
          let meet = lca_is_meet t r n v h low_v in
          let a = branch t r l n h (λ z. absurd (let P : ℕ → Type 0 = λ y. is_ancestor t y v ≡ true in cc (off, subst P (sym z) meet.right))) meet.left in
          let b = branch t r l v low_v (λ z. absurd (let P : ℕ → Type 0 = λ y. is_ancestor t y n ≡ true in cc (not_under, subst P (sym z) meet.left))) meet.right in
          let la : a.child ≤ n = ancestor_le t r a.child n h a.over in
          let lb : b.child ≤ v = ancestor_le t r b.child v low_v b.over in
          let low = low_v in
          let sa = fork_child t well.sound.tree a.child a.some (omega arith) (ap (is_fork t) a.parent ∙ fork) in
          let sb = fork_child t well.sound.tree b.child b.some (omega arith) (ap (is_fork t) b.parent ∙ fork) in
          let ia = strand_innermost t r a.child sa n h a.over in
          let ib = strand_innermost t r b.child sb v low_v b.over in
          let xa = ancestor_linear t r a.child x n h a.over over_n (omega (arith, e)) in
          let xb = ancestor_linear t r b.child x v low_v b.over (strand_over t r v low_v) ib in
          let one = children_apart t r a.child b.child x low_x a.some b.some (a.parent ∙ sym b.parent) xa xb in
          let P : ℕ → Type 0 = λ y. is_ancestor t y v ≡ true in
          let inner = meet.innermost a.child a.over (subst P (sym one) b.over) in
          let lm = ancestor_le t r l n h meet.left in
          let le = ancestor_le t r a.child l (omega arith) inner in
          let higher = r a.child a.some (omega arith) in
          absurd (let up = a.parent in omega arith))

      by : (is_ancestor t n v ≡ true) ⊎ (is_ancestor t n v ≡ false) → f n < f v
      by (inl over) =
          let le = ancestor_le new (in_order_numbered t w).rooted (f n) (f v) (low t w v low_v) (ancestor_stays t w n v h low_v ∙ over) in
          let other : f n ≢ f v = λ q. ne (renamed_apart t w n v h low_v q) in
          omega arith
      by (inr off) =
          let one = series_or_parallel t r n v h low_v off not_under in
          series_rises t w n v h low_v (true_from_ne_false (is_before t n v) (λ z. absurd (omega (arith, one, ap one_if z, ap one_if not_after, ap one_if (not_parallel off)))))

    pub last_renamed : last_of new (f x) ≡ f v
    last_renamed =
        let low_x : x < length t = (let le = strand_of_le t w.rooted v low_v in let l = low_v in omega arith) in
        ap (λ o. unwrap_or o (f x))
        (last_some (λ k. nat_eq (strand_of new k) (f x)) (length new) (f v) (record {
          low = low t w v low_v;
          passes = eq-eqb (strand_of new (f v)) (f x) (strand_of_renamed t w v low_v);
          none = λ c l h.
              (each_number t w (λ c. f v < c → nat_eq (strand_of new c) (f x) ≡ false)
              (λ n hn less. false_from_ne_true (nat_eq (strand_of new (f n)) (f x)) (λ e.
              let le = strand_of_le t w.rooted n hn in
              let same : strand_of t n ≡ x = renamed_apart t w (strand_of t n) x (omega arith) low_x (sym (strand_of_renamed t w n hn) ∙ eqb-true (strand_of new (f n)) (f x) e) in
              elim (cases_eq n v) [
                | inl q ↦ absurd (omega (arith, ap f q))
                | inr ne ↦ absurd (let before = others_before n hn same ne in omega arith)
              ])) c h l);
        }))

  -- ## What conflicts refused

  none_of : (c : Conflict) → c.victim ≡ 0 → victim_of c ≡ None
  none_of c e = ap (λ b. cond b None (Some c.victim)) (eq-eqb c.victim 0 e)

  some_of : (c : Conflict) (s : ℕ) → c.victim ≡ s → 0 < s → victim_of c ≡ Some s
  some_of c s e some = ap (λ b. cond b None (Some c.victim)) (ne_eqb c.victim 0 (λ q. omega arith)) ∙ ap Some e

  -- what a conflict says in depth-first order, where what it refused stands still
  record IsStill (c : Conflict) : Type 0 where
    pub last : may_be_last new (conflict_in_order t c) ≡ true
    pub tells : (x : ℕ) → strand_of t (refused_node t c) ≡ x → is_refused_in new (f x) (f c.asker) (victim_of c) ≡ true

  still : (c : Conflict) → IsTold t c → is_tried t c.asker ≡ true → StandsStill m c (victim_of c) → IsStill c
  still c told_c tried e = elim told_c.named [
    | inl none ↦
        (let v = c.asker in
        let no = none_of c none in
        let P : Option ℕ → Type 0 = λ o. StandsStill m c o in
        let z = subst P no e in
        let old : refused_node t c ≡ v = ap (λ o. option_map_or (λ s. unwrap_or (block_with_stamp t s) 0) o v) no in
        let moved : refused_node new (conflict_in_order t c) ≡ f v = ap (λ o. option_map_or (λ s. unwrap_or (block_with_stamp new s) 0) o (f v)) no in
        let low_v = told_c.asker in
        record {
          last =
              ap (λ n. is_live new n && (is_tried new n || is_pending new n)) moved
              ∙ and_from (is_live new (f v)) (is_tried new (f v) || is_pending new (f v)) (live_renamed t w v low_v ∙ live_v v low_v tried z.0 z.1 z.2)
              (or_left (is_tried new (f v)) (is_pending new (f v)) (node_kept t w (λ y. is_tried_kind y.kind) (λ y. refl) v low_v ∙ tried));
          tells = λ x of_x.
              (let same : strand_of t v ≡ x = ap (strand_of t) (sym old) ∙ of_x in
              ap (is_refused_in new (f x) (f v)) no
              ∙ eq-eqb (last_of new (f x)) (f v) (ap (λ y. last_of new (f y)) (sym same) ∙ last_renamed v low_v tried z.0 z.1 z.2));
        })
    | inr is ↦
        (let y = is.0 in
        let z = and_parts (is_block t y) (is_above t y c.asker) is.1 in
        let low_y = node_there (λ n. is_block_kind n.kind) t y z.0 in
        let a = some_of c (stamp_of t y) (sym is.2) (block_stamped t well.sound.stamps y z.0) in
        let found = block_found t well.sound.stamps y z.0 in
        let stamps_new = (sound_stays t w well.sound).stamps in
        let found_new : block_with_stamp new (stamp_of t y) ≡ Some (f y) = ap (block_with_stamp new) (sym (stamp_kept t w y low_y)) ∙ block_found new stamps_new (f y) (block_kept t w y low_y ∙ z.0) in
        let old : refused_node t c ≡ y = ap (λ o. option_map_or (λ s. unwrap_or (block_with_stamp t s) 0) o c.asker) a ∙ ap (λ o. unwrap_or o 0) found in
        let moved : refused_node new (conflict_in_order t c) ≡ f y = ap (λ o. option_map_or (λ s. unwrap_or (block_with_stamp new s) 0) o (f c.asker)) a ∙ ap (λ o. unwrap_or o 0) found_new in
        let P : Option ℕ → Type 0 = λ o. StandsStill m c o in
        let waits : is_pending t (refused_node t c) ≡ true = subst P a e in
        let pending : is_pending t y ≡ true = ap (is_pending t) (sym old) ∙ waits in
        record {
          last =
              ap (λ n. is_live new n && (is_tried new n || is_pending new n)) moved
              ∙ and_from (is_live new (f y)) (is_tried new (f y) || is_pending new (f y))
              (live_renamed t w y low_y ∙ open_live y low_y y low_y (pending_open m well.sound.tree well.nested y pending) (λ b up. above_ancestor t b y up))
              (or_right (is_tried new (f y)) (is_pending new (f y)) (pending_kept t w y low_y ∙ pending));
          tells = λ x of_x.
              ap (is_refused_in new (f x) (f c.asker)) a
              ∙ ap (λ o. option_map_or (λ b. nat_eq (strand_of new b) (f x)) o false) found_new
              ∙ eq-eqb (strand_of new (f y)) (f x) (strand_of_renamed t w y low_y ∙ ap f (ap (strand_of t) (sym old) ∙ of_x));
        })
  ]

  -- ## A spent budget

  module _ (budget x : ℕ) (h : HasSpent m budget x) where
    abbrev cs : List Conflict
    cs = m.conflicts

    abbrev Facts : Conflict → Type 0
    Facts c = c.attempt ≡ budget → IsStill c

    tried_all : All (λ c. is_tried t c.asker ≡ true) cs
    tried_all = all_tried t cs _ (asking_states (at_any_time asked) first m reach) (λ n i. (in_filter (is_tried t) n (all_nodes t) i).1)

    facts : All Facts cs
    facts =
        all_with (λ c. IsTold t c) (λ c. (is_tried t c.asker ≡ true) × (c.attempt ≡ budget → StandsStill m c (victim_of c))) Facts cs told.told
        (all_with (λ c. is_tried t c.asker ≡ true) (λ c. c.attempt ≡ budget → StandsStill m c (victim_of c)) (λ c. (is_tried t c.asker ≡ true) × (c.attempt ≡ budget → StandsStill m c (victim_of c))) cs tried_all h.still (λ c a b. (a, b)))
        (λ c a b e. still c a b.0 (b.1 e))

    one : One Facts (λ c. nat_eq c.attempt budget && nat_eq (strand_of t (refused_node t c)) x) cs
    one = any_one Facts (λ c. nat_eq c.attempt budget && nat_eq (strand_of t (refused_node t c)) x) cs facts h.told

    parts : (one.one.attempt ≡ budget) × (strand_of t (refused_node t one.one) ≡ x)
    parts =
        let z = and_parts (nat_eq one.one.attempt budget) (nat_eq (strand_of t (refused_node t one.one)) x) one.passes in
        (eqb-true one.one.attempt budget z.0, eqb-true (strand_of t (refused_node t one.one)) x z.1)

    is_strand_x : is_strand t x ≡ true
    is_strand_x = let P : ℕ → Type 0 = λ y. is_strand t y ≡ true in subst P parts.1 (strand_is t w.root (refused_node t one.one))

    some_tell : list_any (tells new budget (f x)) (conflicts_in_order t cs) ≡ true
    some_tell =
        any_by_key asker_of (tells new budget (f x)) (map (conflict_in_order t) cs)
        ∙ any_map (tells new budget (f x)) (conflict_in_order t) cs
        ∙ one.among (λ c. tells new budget (f x) (conflict_in_order t c))
        (and_from (nat_eq one.one.attempt budget) (is_refused_in new (f x) (f one.one.asker) (victim_of one.one)) (eq-eqb one.one.attempt budget parts.0) ((one.holds parts.0).tells x parts.1))

    each_last : All (λ d. tells new budget (f x) d ≡ true → may_be_last new d ≡ true) (conflicts_in_order t cs)
    each_last =
        let P : Conflict → Type 0 = λ d. tells new budget (f x) d ≡ true → may_be_last new d ≡ true in
        all_by_key asker_of P (map (conflict_in_order t) cs)
        (All-map P (conflict_in_order t) cs
        (all_with Facts Facts (λ c. P (conflict_in_order t c)) cs facts facts
        (λ c a b e. (a (eqb-true c.attempt budget (and_parts (nat_eq c.attempt budget) (is_refused_in new (f x) (f c.asker) (victim_of c)) e).0)).last)))

    pub spent_there : Spent new (conflicts_in_order t cs) budget (f x)
    spent_there = record {
      strand = strand_kept t w x (node_there (λ y. is_strand_kind y.kind) t x is_strand_x) ∙ is_strand_x;
      told = found_passes (tells new budget (f x)) (may_be_last new) (conflicts_in_order t cs) some_tell each_last;
    }

pub spent_in_order : SpentAreInOrder
spent_in_order asked first m reach budget x w h = spent_there asked first m reach w budget x h
