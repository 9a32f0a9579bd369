-- Where the acts of a record's work stand in its tree, and which are in series.
use Rattle.std.proofs.Common.{◌≡◌, ℕ, zero, suc, ◌<◌, ◌≤◌, List, [], ◌∷◌, length, refl, ap, sym, ◌∙◌, arith, true, false, cond, inl, inr, subst, Bool}
use Rattle.std.specs.Prelude.{◌⊎◌}
use Rattle.std.proofs.lemmas.Bool.{cases_eq, false_from_ne_true}
use Rattle.cw_strand.specs.Strands.{Strands}
use Rattle.cw_tree.specs.declared.node.Node.{Node}
use Rattle.cw_tree.specs.Nodes.{is_strand, is_block, is_committed, is_aborted}
use Rattle.cw_tree.specs.Walks.{is_ancestor}
use Rattle.cw_tree.specs.Series.{children}
use Rattle.cw_tree.proofs.Walks.Ancestors.{ancestor_self, ancestor_step, ancestor_le}
use Rattle.cw_tree.proofs.Walks.Kin.{AreOrdered}
use Rattle.cw_tree.proofs.InOrder.DepthFirst.{IsChild, child_is}
use Rattle.cw_record.specs.declared.items.OrderItem.TheVariants.{Begins, Does, Ends}
use Rattle.cw_record.specs.Items.{is_act}
use Rattle.cw_replay.proofs.RecordsReplay.Work.Work.{Work, nil, act, Has}
use Rattle.cw_replay.proofs.RecordsReplay.Machine.Acts.{Act, item, stop, place}
use Rattle.cw_replay.proofs.RecordsReplay.Tasks.Sorts as sorts
use Rattle.cw_tree.proofs.Lists.{In}
use Rattle.cw_replay.proofs.RecordsReplay.Tasks.Sorts.{IsSort, Sort, of_aborted, of_pending, strand_sort}
use Rattle.cw_replay.proofs.Kin.{left_child, right_child, parent_low, over_parent, either_over, both_over}
use Rattle.cw_replay.proofs.RecordsReplay.Tasks.Accounts.{Account}
use Rattle.cw_replay.proofs.RecordsReplay.Tasks.Tasks.{works, stopping, work, inside, whole, View, strand, acts, skipped, opens, block, fork, view}

module _ {A : Type 0} (s : Strands A) (t : List Node) (w : Account s t) where
  -- ## Under a node

  -- a node that was neither rolled back nor left out
  abbrev pub Kept : ℕ → Type 0
  Kept a = (is_aborted t a ≡ false) × (w.stop.out a ≡ false)

  pub kept_sort : (n : ℕ) (z : Sort) → IsSort t n z → of_aborted z ≡ false → of_pending z ≡ false → Kept n
  kept_sort n z i e f = (i.aborted ∙ e, false_from_ne_true (w.stop.out n) (λ o. absurd (cc ((w.left_out n o).0, i.pending, f))))

  pub kept_strand : (n : ℕ) → is_strand t n ≡ true → Kept n
  kept_strand n e = kept_sort n sorts.strand (strand_sort t n e) refl refl

  -- what an act is of
  abbrev pub IsOf : Act → Type 0
  IsOf (item (Begins n)) = is_block t n ≡ true
  IsOf (item (Does n)) = is_act t n ≡ true
  IsOf (item (Ends n)) = is_committed t n ≡ true
  IsOf (stop n) = w.stop.at n ≡ true

  -- an act in n, around which all from n down is kept
  pub record Under (n : ℕ) (i : Act) : Type 0 where
    pub over : is_ancestor t n (place i) ≡ true
    pub there : place i < length t
    pub proper : IsOf i
    pub kept : (a : ℕ) → is_ancestor t n a ≡ true → is_ancestor t a (place i) ≡ true → Kept a

  pub own : (n : ℕ) (i : Act) → n < length t → n ≡ place i → IsOf i → Kept n → Under n i
  own n i h e p a =
      let P : ℕ → Type 0 = λ x. is_ancestor t n x ≡ true in
      let Q : ℕ → Type 0 = λ x. x < length t in
      record {
        over = subst P e (ancestor_self t n);
        there = subst Q e h;
        proper = p;
        kept = λ b f g.
            let R : ℕ → Type 0 = λ x. is_ancestor t b x ≡ true in
            let S : ℕ → Type 0 = λ x. Kept x in
            let back : is_ancestor t b n ≡ true = subst R (sym e) g in
            let le : b ≤ n = ancestor_le t w.tree.rooted b n h back in
            subst S (both_over t w.tree.rooted n b h (omega arith) f back) a;
      }

  pub under_up : (c d : ℕ) (i : Act) → IsChild t c d → Kept c → Under d i → Under c i
  under_up c d i k a u = record {
    over = over_parent t w.tree.rooted c d (place i) u.there k u.over;
    there = u.there;
    proper = u.proper;
    kept = λ b f g. elim (either_over t w.tree.rooted b d (place i) u.there g u.over) [
      | inl x ↦ elim (cases_eq d b) [
        | inl q ↦ u.kept b (let P : ℕ → Type 0 = λ y. is_ancestor t d y ≡ true in subst P q (ancestor_self t d)) g
        | inr ne ↦
            (let R : ℕ → Type 0 = λ v. is_ancestor t b v ≡ true in
            let S : ℕ → Type 0 = λ v. Kept v in
            let back : is_ancestor t b c ≡ true = subst R k.parent (sym (ancestor_step t w.tree.rooted b d k.some k.there ne) ∙ x) in
            let low = parent_low t w.tree.rooted c d k in
            let there = k.there in
            let le : b ≤ c = ancestor_le t w.tree.rooted b c (omega arith) back in
            subst S (both_over t w.tree.rooted c b (omega arith) (omega arith) f back) a)
      ]
      | inr x ↦ u.kept b x g
    ];
  }

  -- the act stands under one of these
  pub record Among (ns : List ℕ) (i : Act) : Type 0 where
    pub which : ℕ
    pub member : In which ns
    pub under : Under which i

  -- an act right in node c, or in one of its children
  pub data Inner (c : ℕ) (i : Act) : Type 0 where
    in_child : Among (children t c) i → Inner c i
    stopped : i ≡ stop c → w.stop.at c ≡ true → Inner c i

  pub inner_under : (c : ℕ) (i : Act) → c < length t → Kept c → Inner c i → Under c i
  inner_under c i h a (in_child z) = under_up c z.which i (child_is t c z.which z.member) a z.under
  inner_under c i h a (stopped e at) = let P : Act → Type 0 = λ x. Under c x in subst P (sym e) (own c (stop c) h refl at a)

  -- an act in a child is none of the node itself
  pub deeper : (c : ℕ) (i : Act) → Among (children t c) i → place i ≡ c → ⊥
  deeper c i z e =
      let low = parent_low t w.tree.rooted c z.which (child_is t c z.which z.member) in
      let le : z.which ≤ place i = ancestor_le t w.tree.rooted z.which (place i) z.under.there z.under.over in
      omega (arith, e)

  pub inner_no_begin : (c : ℕ) (i : Act) → Inner c i → i ≡ item (Begins c) → ⊥
  inner_no_begin c i (in_child z) e = deeper c i z (ap place e)
  inner_no_begin c i (stopped q at) e = absurd (cc (q, e))

  pub inner_no_end : (c : ℕ) (i : Act) → Inner c i → i ≡ item (Ends c) → ⊥
  inner_no_end c i (in_child z) e = deeper c i z (ap place e)
  inner_no_end c i (stopped q at) e = absurd (cc (q, e))

  -- ## What stands in the work

  abbrev pub HasUnder : ℕ → ℕ → Type 0
  HasUnder k c = c < length t → (v : Work Act) (i : Act) → Has i (work w.stop t k c v) → Under c i ⊎ Has i v

  works_has : (k : ℕ) → ((c : ℕ) → HasUnder k c) → (ns : List ℕ) → ((c : ℕ) → In c ns → c < length t) → (v : Work Act) (i : Act) → Has i (works (work w.stop t k) ns v) → Among ns i ⊎ Has i v
  works_has k g [] l v i h = inr h
  works_has k g (c ∷ ns) l v i h =
      elim (g c (l c (inl refl)) (works (work w.stop t k) ns v) i h) [
        | inl u ↦ inl (record { which = c; member = inl refl; under = u })
        | inr r ↦ elim (works_has k g ns (λ d m. l d (inr m)) v i r) [ inl z ↦ inl (record { which = z.which; member = inr z.member; under = z.under }) | inr z ↦ inr z ]
      ]

  stopping_has : (c : ℕ) (v : Work Act) (i : Act) → Has i (stopping w.stop c v) → ((i ≡ stop c) × (w.stop.at c ≡ true)) ⊎ Has i v
  stopping_has c v i h = by (w.stop.at c) refl h where
    by : (b : Bool) → w.stop.at c ≡ b → Has i (cond b (act (stop c) v) v) → ((i ≡ stop c) × (w.stop.at c ≡ true)) ⊎ Has i v
    by true e (inl q) = inl (q, e)
    by true e (inr g) = inr g
    by false e g = inr g

  inside_has_by : (k c : ℕ) → ((d : ℕ) → HasUnder k d) → (v : Work Act) (i : Act) → Has i (inside w.stop t k c v) → Inner c i ⊎ Has i v
  inside_has_by k c g v i h = elim (works_has k g (children t c) (λ d m. (child_is t c d m).there) (stopping w.stop c v) i h) [
    | inl z ↦ inl (in_child z)
    | inr r ↦ elim (stopping_has c v i r) [ inl z ↦ inl (stopped z.0 z.1) | inr z ↦ inr z ]
  ]

  strand_has_by : (k c x : ℕ) → ((d : ℕ) → HasUnder k d) → IsChild t c x → is_strand t x ≡ true → Kept c → (i : Act) → Has i (inside w.stop t k x nil) → Under c i
  strand_has_by k c x g m e a i h = elim (inside_has_by k x g nil i h) [ inl z ↦ under_up c x i m a (inner_under x i m.there (kept_strand x e) z) | inr z ↦ absurd z ]

  has_view : (k c : ℕ) → ((d : ℕ) → HasUnder k d) → View s t w k c → HasUnder (suc k) c
  has_view k c f (strand z e) h v i g = let P : Work Act → Type 0 = λ v. Has i v in inr (subst P (e v) g)
  has_view k c f (acts z e x y) h v i g =
      let P : Work Act → Type 0 = λ v. Has i v in
      elim (subst P (e v) g) [ inl q ↦ inl (let R : Act → Type 0 = λ x. Under c x in subst R (sym q) (own c (item (Does c)) h refl z.act (kept_sort c sorts.act z refl refl))) | inr r ↦ inr r ]
  has_view k c f (skipped z e y) h v i g = let P : Work Act → Type 0 = λ v. Has i v in inr (subst P (e v) g)
  has_view k c f (opens z u e x) h v i g =
      let P : Work Act → Type 0 = λ v. Has i v in
      elim (subst P (e v) g) [
        | inl q ↦ inl (let R : Act → Type 0 = λ x. Under c x in subst R (sym q) (own c (item (Begins c)) h refl z.block (z.aborted, u)))
        | inr r ↦ elim (inside_has_by k c f v i r) [ inl y ↦ inl (inner_under c i h (z.aborted, u) y) | inr y ↦ inr y ]
      ]
  has_view k c f (block z e x u y) h v i g =
      let P : Work Act → Type 0 = λ v. Has i v in
      let R : Act → Type 0 = λ x. Under c x in
      let a = kept_sort c sorts.committed z refl refl in
      elim (subst P (e v) g) [
        | inl q ↦ inl (subst R (sym q) (own c (item (Begins c)) h refl z.block a))
        | inr r ↦ elim (inside_has_by k c f (act (item (Ends c)) v) i r) [
          | inl y ↦ inl (inner_under c i h a y)
          | inr y ↦ elim y [ inl q ↦ inl (subst R (sym q) (own c (item (Ends c)) h refl z.committed a)) | inr x ↦ inr x ]
        ]
      ]
  has_view k c f (fork z l r y e) h v i g =
      let P : Work Act → Type 0 = λ v. Has i v in
      let a = kept_sort c sorts.fork z refl refl in
      elim (subst P (e v) g) [
        | inl x ↦ inl (strand_has_by k c l f (left_child t c l r y.children) y.left_strand a i x)
        | inr x ↦ elim x [ inl x ↦ inl (strand_has_by k c r f (right_child t c l r y.children) y.right_strand a i x) | inr x ↦ inr x ]
      ]

  pub work_has : (k c : ℕ) → HasUnder k c
  work_has zero c h v i g = inr g
  work_has (suc k) c h v i g = has_view k c (work_has k) (view s t w k c h) h v i g

  pub inside_has : (k c : ℕ) (v : Work Act) (i : Act) → Has i (inside w.stop t k c v) → Inner c i ⊎ Has i v
  inside_has k c = inside_has_by k c (work_has k)

  pub works_among : (k : ℕ) (ns : List ℕ) → ((c : ℕ) → In c ns → c < length t) → (v : Work Act) (i : Act) → Has i (works (work w.stop t k) ns v) → Among ns i ⊎ Has i v
  works_among k = works_has k (work_has k)

  pub strand_has : (k c x : ℕ) → IsChild t c x → is_strand t x ≡ true → Kept c → (i : Act) → Has i (inside w.stop t k x nil) → Under c i
  strand_has k c x = strand_has_by k c x (work_has k)

  pub whole_has : (i : Act) → Has i (whole w.stop t) → Under 0 i
  whole_has i h = elim (inside_has (length t) 0 nil i h) [ inl z ↦ inner_under 0 i w.tree.some (kept_strand 0 w.tree.root) z | inr z ↦ absurd z ]

  -- ## What is in series

  -- i is sooner than j: by two nodes in series, or as the begin of a block, or as what is in a block, or in that in which a strand stopped
  pub data Sooner (i j : Act) : Type 0 where
    in_series : (c d : ℕ) → AreOrdered t c d → is_ancestor t c (place i) ≡ true → is_ancestor t d (place j) ≡ true → Sooner i j
    from_begin : (b : ℕ) → i ≡ item (Begins b) → is_ancestor t b (place j) ≡ true → (j ≡ item (Begins b) → ⊥) → Sooner i j
    to_end : (b : ℕ) → j ≡ item (Ends b) → is_ancestor t b (place i) ≡ true → (i ≡ item (Ends b) → ⊥) → Sooner i j
    to_stop : (b : ℕ) → j ≡ stop b → is_ancestor t b (place i) ≡ true → (i ≡ stop b → ⊥) → Sooner i j
