-- Each act stands once in the work of a record, and each that is kept stands there.
use Rattle.std.proofs.Common.{◌≡◌, ℕ, zero, suc, ◌+◌, ◌<◌, ◌≤◌, List, [], ◌∷◌, length, refl, ap, sym, ◌∙◌, arith, Bool, true, false, cond, inl, inr, subst}
use Rattle.std.specs.Prelude.{◌||◌}
use Rattle.cw_strand.specs.Strands.{Strands}
use Rattle.cw_tree.specs.declared.node.Node.{Node}
use Rattle.cw_tree.specs.Nodes.{parent_of, is_strand, is_fork, is_block}
use Rattle.cw_tree.specs.Walks.{is_ancestor}
use Rattle.cw_tree.specs.Series.{children}
use Rattle.cw_tree.proofs.Walks.Climbs.{by_parent}
use Rattle.cw_tree.proofs.Walks.Ancestors.{ancestor_self, ancestor_up, ancestor_le}
use Rattle.cw_tree.proofs.Walks.Kin.{children_apart}
use Rattle.cw_tree.proofs.InOrder.DepthFirst.{IsChild, child_is, child_in, children_rise}
use Rattle.cw_record.specs.declared.items.OrderItem.TheVariants.{Begins, Does, Ends}
use Rattle.cw_replay.proofs.RecordsReplay.Work.Work.{Work, nil, act, Has, Once}
use Rattle.cw_replay.proofs.RecordsReplay.Machine.Acts.{Act, item, stop, place}
use Rattle.cw_replay.proofs.RecordsReplay.Tasks.Sorts as sorts
use Rattle.cw_tree.proofs.Lists.{In}
use Rattle.cw_tree.proofs.Rising.{Rises}
use Rattle.cw_replay.proofs.RecordsReplay.Tasks.Sorts.{strand_sort}
use Rattle.cw_replay.proofs.Kin.{left_child, right_child, left_less, left_or_right, parent_low, over_parent}
use Rattle.cw_replay.proofs.RecordsReplay.Tasks.Accounts.{Account}
use Rattle.cw_replay.proofs.RecordsReplay.Tasks.Tasks.{works, stopping, work, inside, whole, rolled_back, refused, left_out, View, strand, acts, skipped, opens, block, fork, view}
use Rattle.cw_replay.proofs.RecordsReplay.Tasks.Folds.{plain_child, no_stop, no_stop_block}
use Rattle.cw_replay.proofs.RecordsReplay.Tasks.Places.{Kept, kept_sort, kept_strand, Under, inner_under, works_among, inside_has, strand_has, inner_no_begin}

module _ {A : Type 0} (s : Strands A) (t : List Node) (w : Account s t) where
  -- ## Once

  -- all acts of this work stand in the tree, and none in c
  abbrev Far : ℕ → Work Act → Type 0
  Far c v = (i : Act) → Has i v → (place i < length t) × (is_ancestor t c (place i) ≡ true → ⊥)

  far_child : (c d : ℕ) (v : Work Act) → IsChild t c d → Far c v → Far d v
  far_child c d v k f i g = ((f i g).0, λ a. (f i g).1 (over_parent t w.tree.rooted c d (place i) (f i g).0 k a))

  abbrev KeepsOnce : ℕ → ℕ → Type 0
  KeepsOnce k c = c < length t → (v : Work Act) → Once v → Far c v → Once (work w.stop t k c v)

  works_once : (k p : ℕ) → ((c : ℕ) → KeepsOnce k c) → (ns : List ℕ) → ((c : ℕ) → In c ns → IsChild t p c) → Rises ns → (v : Work Act) → Once v → ((c : ℕ) → In c ns → Far c v) → Once (works (work w.stop t k) ns v)
  works_once k p o [] l r v u q = u
  works_once k p o (c ∷ ns) l r v u q =
      let m = l c (inl refl) in
      o c m.there (works (work w.stop t k) ns v) (works_once k p o ns (λ d g. l d (inr g)) r.1 v u (λ d g. q d (inr g))) (λ i h. elim (works_among s t w k ns (λ d g. (l d (inr g)).there) v i h) [
        | inl z ↦
            (let n = l z.which (inr z.member) in
            let less : c < z.which = r.0 z.which z.member in
            (z.under.there, λ a. let same : c ≡ z.which = children_apart t w.tree.rooted c z.which (place i) z.under.there m.some n.some (m.parent ∙ sym n.parent) a z.under.over in omega arith))
        | inr z ↦ q c (inl refl) i z
      ])

  inside_once : (k c : ℕ) → ((d : ℕ) → KeepsOnce k d) → c < length t → (v : Work Act) → Once v → Far c v → Once (inside w.stop t k c v)
  inside_once k c o h v u q = works_once k c o (children t c) (child_is t c) (children_rise t c) (stopping w.stop c v) (by_once (w.stop.at c)) (λ d m. by_far d (child_is t c d m) (w.stop.at c)) where
    by_once : (b : Bool) → Once (cond b (act (stop c) v) v)
    by_once true = ((λ g. (q (stop c) g).1 (ancestor_self t c)), u)
    by_once false = u

    by_far : (d : ℕ) → IsChild t c d → (b : Bool) → Far d (cond b (act (stop c) v) v)
    by_far d m true i (inl e) =
        let low = parent_low t w.tree.rooted c d m in
        let there : place i < length t = omega (arith, ap place e, h) in
        (there, λ a. let le : d ≤ place i = ancestor_le t w.tree.rooted d (place i) there a in omega (arith, ap place e))
    by_far d m true i (inr g) = far_child c d v m q i g
    by_far d m false i g = far_child c d v m q i g

  once_view : (k c : ℕ) → ((d : ℕ) → KeepsOnce k d) → View s t w k c → KeepsOnce (suc k) c
  once_view k c f (strand z e) h v u q = let P : Work Act → Type 0 = λ v. Once v in subst P (sym (e v)) u
  once_view k c f (acts z e x y) h v u q = let P : Work Act → Type 0 = λ v. Once v in subst P (sym (e v)) ((λ g. (q (item (Does c)) g).1 (ancestor_self t c)), u)
  once_view k c f (skipped z e y) h v u q = let P : Work Act → Type 0 = λ v. Once v in subst P (sym (e v)) u
  once_view k c f (opens z o e x) h v u q =
      let P : Work Act → Type 0 = λ v. Once v in
      subst P (sym (e v)) ((λ g. elim (inside_has s t w k c v (item (Begins c)) g) [ inl y ↦ inner_no_begin s t w c (item (Begins c)) y refl | inr y ↦ (q (item (Begins c)) y).1 (ancestor_self t c) ]), inside_once k c f h v u q)
  once_view k c f (block z e x o y) h v u q =
      let P : Work Act → Type 0 = λ v. Once v in
      subst P (sym (e v)) (
        (λ g. elim (inside_has s t w k c (act (item (Ends c)) v) (item (Begins c)) g) [
          | inl y ↦ inner_no_begin s t w c (item (Begins c)) y refl
          | inr y ↦ elim y [ inl y ↦ absurd (cc y) | inr y ↦ (q (item (Begins c)) y).1 (ancestor_self t c) ]
        ]),
        once_block,
      ) where
        once_block : Once (inside w.stop t k c (act (item (Ends c)) v))
        once_block =
            let P : Work Act → Type 0 = λ v. Once v in
            let plain : stopping w.stop c (act (item (Ends c)) v) ≡ act (item (Ends c)) v = no_stop s t w c (act (item (Ends c)) v) (no_stop_block s t w c z.committed) in
            let Q : Work Act → Type 0 = λ x. Once (works (work w.stop t k) (children t c) x) in
            subst Q (sym plain) (works_once k c f (children t c) (child_is t c) (children_rise t c) (act (item (Ends c)) v) ((λ g. (q (item (Ends c)) g).1 (ancestor_self t c)), u) (λ d n i g. elim g [
              | inl y ↦
                  (let m = child_is t c d n in
                  let low = parent_low t w.tree.rooted c d m in
                  let there : place i < length t = omega (arith, ap place y, h) in
                  (there, λ a. let le : d ≤ place i = ancestor_le t w.tree.rooted d (place i) there a in omega (arith, ap place y)))
              | inr y ↦ far_child c d v (child_is t c d n) q i y
            ]))
  once_view k c f (fork z l r y e) h v u q =
      let P : Work Act → Type 0 = λ v. Once v in
      let kl = left_child t c l r y.children in
      let kr = right_child t c l r y.children in
      let a = kept_sort s t w c sorts.fork z refl refl in
      subst P (sym (e v)) (
        inside_once k l f kl.there nil tt (λ i g. absurd g),
        inside_once k r f kr.there nil tt (λ i g. absurd g),
        u,
        (λ i x o. apart i (own_side l kl y.left_strand i x) (own_side r kr y.right_strand i o)),
        (λ i x o. elim x [
          | inl g ↦ (q i o).1 (strand_has s t w k c l kl y.left_strand a i g).over
          | inr g ↦ (q i o).1 (strand_has s t w k c r kr y.right_strand a i g).over
        ]),
      ) where
        own_side : (x : ℕ) → IsChild t c x → is_strand t x ≡ true → (i : Act) → Has i (inside w.stop t k x nil) → Under s t w x i
        own_side x m e i g = elim (inside_has s t w k x nil i g) [ inl z ↦ inner_under s t w x i m.there (kept_strand s t w x e) z | inr z ↦ absurd z ]

        apart : (i : Act) → Under s t w l i → Under s t w r i → ⊥
        apart i x o =
            let kl = left_child t c l r y.children in
            let kr = right_child t c l r y.children in
            let less = left_less t c l r y.children in
            let same : l ≡ r = children_apart t w.tree.rooted l r (place i) x.there kl.some kr.some (kl.parent ∙ sym kr.parent) x.over o.over in
            omega arith

  work_once : (k c : ℕ) → KeepsOnce k c
  work_once zero c h v u q = u
  work_once (suc k) c h v u q = once_view k c (work_once k) (view s t w k c h) h v u q

  pub whole_once : Once (whole w.stop t)
  whole_once = inside_once (length t) 0 (work_once (length t)) w.tree.some nil tt (λ i g. absurd g)

  -- ## There

  module _ (i : Act) where
    -- what follows stays
    abbrev Keeps : ℕ → ℕ → Type 0
    Keeps k c = c < length t → (v : Work Act) → Has i v → Has i (work w.stop t k c v)

    pub works_keep : (k : ℕ) → ((c : ℕ) → Keeps k c) → (ns : List ℕ) → ((c : ℕ) → In c ns → c < length t) → (v : Work Act) → Has i v → Has i (works (work w.stop t k) ns v)
    works_keep k g [] l v h = h
    works_keep k g (c ∷ ns) l v h = g c (l c (inl refl)) (works (work w.stop t k) ns v) (works_keep k g ns (λ d m. l d (inr m)) v h)

    stopping_keeps : (c : ℕ) (v : Work Act) → Has i v → Has i (stopping w.stop c v)
    stopping_keeps c v h = by (w.stop.at c) where
      by : (b : Bool) → Has i (cond b (act (stop c) v) v)
      by true = inr h
      by false = h

    pub inside_keeps : (k c : ℕ) → ((d : ℕ) → Keeps k d) → (v : Work Act) → Has i v → Has i (inside w.stop t k c v)
    inside_keeps k c f v h = works_keep k f (children t c) (λ d m. (child_is t c d m).there) (stopping w.stop c v) (stopping_keeps c v h)

    keep_view : (k c : ℕ) → ((d : ℕ) → Keeps k d) → View s t w k c → (v : Work Act) → Has i v → Has i (work w.stop t (suc k) c v)
    keep_view k c f (strand z e) v h = let P : Work Act → Type 0 = λ v. Has i v in subst P (sym (e v)) h
    keep_view k c f (acts z e x y) v h = let P : Work Act → Type 0 = λ v. Has i v in subst P (sym (e v)) (inr h)
    keep_view k c f (skipped z e y) v h = let P : Work Act → Type 0 = λ v. Has i v in subst P (sym (e v)) h
    keep_view k c f (opens z u e x) v h = let P : Work Act → Type 0 = λ v. Has i v in subst P (sym (e v)) (inr (inside_keeps k c f v h))
    keep_view k c f (block z e x u y) v h = let P : Work Act → Type 0 = λ v. Has i v in subst P (sym (e v)) (inr (inside_keeps k c f (act (item (Ends c)) v) (inr h)))
    keep_view k c f (fork z l r y e) v h = let P : Work Act → Type 0 = λ v. Has i v in subst P (sym (e v)) (inr (inr h))

    pub keep : (k c : ℕ) → Keeps k c
    keep zero c h v g = g
    keep (suc k) c h v g = keep_view k c (keep k) (view s t w k c h) v g

    works_in : (k : ℕ) (ns : List ℕ) → ((c : ℕ) → In c ns → c < length t) → (d : ℕ) → In d ns → ((v : Work Act) → Has i (work w.stop t k d v)) → (v : Work Act) → Has i (works (work w.stop t k) ns v)
    works_in k [] l d m h v = absurd m
    works_in k (c ∷ ns) l d (inl q) h v = let P : ℕ → Type 0 = λ x. Has i (work w.stop t k x (works (work w.stop t k) ns v)) in subst P q (h (works (work w.stop t k) ns v))
    works_in k (c ∷ ns) l d (inr m) h v = keep k c (l c (inl refl)) (works (work w.stop t k) ns v) (works_in k ns (λ x y. l x (inr y)) d m h v)

    inside_in : (k c d : ℕ) → IsChild t c d → ((v : Work Act) → Has i (work w.stop t k d v)) → (v : Work Act) → Has i (inside w.stop t k c v)
    inside_in k c d m h v = works_in k (children t c) (λ x y. (child_is t c x y).there) d (child_in t c d m) h (stopping w.stop c v)

    -- the act stands in the work of node x, or of strand x
    pub record StandsIn (x : ℕ) : Type 0 where
      pub of_strand : is_strand t x ≡ true → (k : ℕ) → length t ≤ suc k + x → Has i (inside w.stop t k x nil)
      pub of_other : is_strand t x ≡ false → (k : ℕ) → length t ≤ k + x → (v : Work Act) → Has i (work w.stop t k x v)

    no_leaf : (c x : ℕ) → IsChild t c x → (is_strand t c || is_fork t c || is_block t c) ≡ false → ⊥
    no_leaf c x m z = absurd (cc (z, ap (λ p. is_strand t p || is_fork t p || is_block t p) (sym m.parent) ∙ w.tree.parents x m.there m.some))

    in_parent : (k c x : ℕ) → View s t w k c → is_strand t c ≡ false → Kept s t w c → IsChild t c x → StandsIn x → length t ≤ suc k + c → (v : Work Act) → Has i (work w.stop t (suc k) c v)
    in_parent k c x (strand z e) n a m y le v = absurd (cc (n, z.strand))
    in_parent k c x (acts z e o p) n a m y le v = absurd (no_leaf c x m (cc (z.strand, z.fork, z.block)))
    in_parent k c x (skipped (rolled_back z) e o) n a m y le v = absurd (cc (a.0, z.aborted))
    in_parent k c x (skipped (refused z) e o) n a m y le v = absurd (no_leaf c x m (cc (z.strand, z.fork, z.block)))
    in_parent k c x (skipped (left_out z o) e p) n a m y le v = absurd (cc (a.1, o))
    in_parent k c x (opens z u e o) n a m y le v =
        let P : Work Act → Type 0 = λ v. Has i v in
        let low = parent_low t w.tree.rooted c x m in
        subst P (sym (e v)) (inr (inside_in k c x m (y.of_other (plain_child s t w c x z.fork m) k (omega arith)) v))
    in_parent k c x (block z e o p q) n a m y le v =
        let P : Work Act → Type 0 = λ v. Has i v in
        let low = parent_low t w.tree.rooted c x m in
        subst P (sym (e v)) (inr (inside_in k c x m (y.of_other (plain_child s t w c x z.fork m) k (omega arith)) (act (item (Ends c)) v)))
    in_parent k c x (fork z l r g e) n a m y le v =
        let P : Work Act → Type 0 = λ v. Has i v in
        let S : ℕ → Type 0 = λ y. is_strand t y ≡ true in
        let H : ℕ → Type 0 = λ y. Has i (inside w.stop t k y nil) in
        let low = parent_low t w.tree.rooted c x m in
        subst P (sym (e v)) (elim (left_or_right t c l r g.children x m) [
          | inl q ↦ inl (subst H q (y.of_strand (subst S (sym q) g.left_strand) k (omega arith)))
          | inr q ↦ inr (inl (subst H q (y.of_strand (subst S (sym q) g.right_strand) k (omega arith))))
        ])

    up : (q x : ℕ) → q < length t → IsChild t q x → Kept s t w q → StandsIn x → StandsIn q
    up q x h m a z = record {
      of_strand = λ e k le. (let low = parent_low t w.tree.rooted q x m in inside_in k q x m (z.of_other (plain_child s t w q x (strand_sort t q e).fork m) k (omega arith)) nil);
      of_other = level;
    } where
      level : is_strand t q ≡ false → (k : ℕ) → length t ≤ k + q → (v : Work Act) → Has i (work w.stop t k q v)
      level e zero le v = absurd (omega arith)
      level e (suc k) le v = in_parent k q x (view s t w k q h) e a m z le v

    to_root : (n : ℕ) → n < length t → StandsIn n → ((a : ℕ) → is_ancestor t a n ≡ true → Kept s t w a) → StandsIn 0
    to_root n h =
        by_parent t w.tree.rooted (λ n. StandsIn n → ((a : ℕ) → is_ancestor t a n ≡ true → Kept s t w a) → StandsIn 0) (λ z l. z)
        (λ m p q more z l.
        let low : parent_of t m < m = w.tree.rooted m p q in
        let over : is_ancestor t (parent_of t m) m ≡ true = ancestor_up t w.tree.rooted (parent_of t m) m p q (ancestor_self t (parent_of t m)) in
        more (up (parent_of t m) m (omega arith) (record { some = p; there = q; parent = refl }) (l (parent_of t m) over) z) (λ a f. l a (ancestor_up t w.tree.rooted a m p q f)))
        n h

    pub in_whole : (n : ℕ) → n < length t → StandsIn n → ((a : ℕ) → is_ancestor t a n ≡ true → Kept s t w a) → Has i (whole w.stop t)
    in_whole n h z l = (to_root n h z l).of_strand w.tree.root (length t) (omega arith)
