-- Acts that are in series in the work of a record are so in its tree.
use Rattle.std.proofs.Common.{◌≡◌, ℕ, zero, suc, ◌<◌, List, [], ◌∷◌, length, refl, ap, sym, ◌∙◌, Bool, true, false, cond, inl, inr, subst}
use Rattle.std.specs.Prelude.{◌⊎◌}
use Rattle.cw_strand.specs.Strands.{Strands}
use Rattle.cw_tree.specs.declared.node.Node.{Node}
use Rattle.cw_tree.specs.Nodes.{is_strand, is_fork}
use Rattle.cw_tree.specs.Walks.{is_ancestor}
use Rattle.cw_tree.specs.Series.{children}
use Rattle.cw_tree.proofs.Walks.Ancestors.{ancestor_self}
use Rattle.cw_tree.proofs.InOrder.DepthFirst.{IsChild, child_is, children_rise}
use Rattle.cw_record.specs.declared.items.OrderItem.TheVariants.{Begins, Does, Ends}
use Rattle.cw_replay.proofs.RecordsReplay.Work.Work.{Work, nil, act, Has, Before}
use Rattle.cw_replay.proofs.RecordsReplay.Machine.Acts.{Act, item, stop, place}
use Rattle.cw_replay.proofs.RecordsReplay.Tasks.Sorts as sorts
use Rattle.cw_tree.proofs.Lists.{In}
use Rattle.cw_tree.proofs.Rising.{Rises}
use Rattle.cw_replay.proofs.RecordsReplay.Tasks.Sorts.{strand_sort}
use Rattle.cw_replay.proofs.Kin.{left_child, right_child}
use Rattle.cw_replay.proofs.RecordsReplay.Tasks.Accounts.{Account}
use Rattle.cw_replay.proofs.RecordsReplay.Tasks.Tasks.{works, stopping, work, inside, whole, View, strand, acts, skipped, opens, block, fork, view}
use Rattle.cw_replay.proofs.RecordsReplay.Tasks.Places.{Kept, kept_sort, kept_strand, Under, own, deeper, Among, Inner, in_child, stopped, inner_under, inner_no_begin, inner_no_end, inside_has, works_among, strand_has, Sooner, in_series, from_begin, to_end, to_stop}

module _ {A : Type 0} (s : Strands A) (t : List Node) (w : Account s t) where
  -- what is known of two acts that are in series in the work of a node and then v
  abbrev Told : ℕ → ℕ → Type 0
  Told k c = c < length t → (v : Work Act) (i j : Act) → Before i j (work w.stop t k c v) → Sooner s t w i j ⊎ ((Under s t w c i × Has j v) ⊎ Before i j v)

  works_before : (k p : ℕ) → is_fork t p ≡ false → ((c : ℕ) → Told k c) → (ns : List ℕ) → ((c : ℕ) → In c ns → IsChild t p c) → Rises ns → (v : Work Act) (i j : Act) → Before i j (works (work w.stop t k) ns v)
      → Sooner s t w i j ⊎ ((Among s t w ns i × Has j v) ⊎ Before i j v)
  works_before k p nf b [] l r v i j h = inr (inr h)
  works_before k p nf b (c ∷ ns) l r v i j h =
      let m = l c (inl refl) in
      elim (b c m.there (works (work w.stop t k) ns v) i j h) [
        | inl x ↦ inl x
        | inr y ↦ elim y [
          | inl x ↦ elim (works_among s t w k ns (λ d g. (l d (inr g)).there) v j x.1) [
            | inl z ↦
                (let o = l z.which (inr z.member) in
                inl (in_series c z.which (record { some = m.some; less = r.0 z.which z.member; same = m.parent ∙ sym o.parent; no_fork = ap (is_fork t) m.parent ∙ nf }) x.0.over z.under.over))
            | inr z ↦ inr (inl (record { which = c; member = inl refl; under = x.0 }, z))
          ]
          | inr x ↦ elim (works_before k p nf b ns (λ d g. l d (inr g)) r.1 v i j x) [
            | inl z ↦ inl z
            | inr z ↦ elim z [ inl u ↦ inr (inl (record { which = u.0.which; member = inr u.0.member; under = u.0.under }, u.1)) | inr u ↦ inr (inr u) ]
          ]
        ]
      ]

  inside_before : (k c : ℕ) → is_fork t c ≡ false → c < length t → Kept s t w c → ((d : ℕ) → Told k d) → (v : Work Act) (i j : Act) → Before i j (inside w.stop t k c v) → Sooner s t w i j ⊎ ((Inner s t w c i × Has j v) ⊎ Before i j v)
  inside_before k c nf h a f v i j g = elim (works_before k c nf f (children t c) (child_is t c) (children_rise t c) (stopping w.stop c v) i j g) [
    | inl x ↦ inl x
    | inr x ↦ elim x [ inl y ↦ to (w.stop.at c) refl y.0 y.1 | inr y ↦ behind (w.stop.at c) refl y ]
  ] where
    to : (b : Bool) → w.stop.at c ≡ b → Among s t w (children t c) i → Has j (cond b (act (stop c) v) v) → Sooner s t w i j ⊎ ((Inner s t w c i × Has j v) ⊎ Before i j v)
    to true e z (inl q) = inl (to_stop c q (inner_under s t w c i h a (in_child z)).over (λ x. deeper_stop z x)) where
      deeper_stop : Among s t w (children t c) i → i ≡ stop c → ⊥
      deeper_stop z x = deeper s t w c i z (ap place x)
    to true e z (inr y) = inr (inl (in_child z, y))
    to false e z y = inr (inl (in_child z, y))

    behind : (b : Bool) → w.stop.at c ≡ b → Before i j (cond b (act (stop c) v) v) → Sooner s t w i j ⊎ ((Inner s t w c i × Has j v) ⊎ Before i j v)
    behind true e (inl z) = inr (inl (stopped z.0 e, z.1))
    behind true e (inr z) = inr (inr z)
    behind false e z = inr (inr z)

  -- in a strand nothing follows
  strand_before : (k x : ℕ) → x < length t → is_strand t x ≡ true → ((d : ℕ) → Told k d) → (i j : Act) → Before i j (inside w.stop t k x nil) → Sooner s t w i j
  strand_before k x h e f i j g =
      elim (inside_before k x (strand_sort t x e).fork h (kept_strand s t w x e) f nil i j g) [ inl y ↦ y | inr y ↦ elim y [ inl z ↦ absurd z.1 | inr z ↦ absurd z ] ]

  before_view : (k c : ℕ) → ((d : ℕ) → Told k d) → View s t w k c → Told (suc k) c
  before_view k c f (strand z e) h v i j g = let P : Work Act → Type 0 = λ v. Before i j v in inr (inr (subst P (e v) g))
  before_view k c f (acts z e x y) h v i j g =
      let P : Work Act → Type 0 = λ v. Before i j v in
      let R : Act → Type 0 = λ x. Under s t w c x in
      elim (subst P (e v) g) [ inl y ↦ inr (inl (subst R (sym y.0) (own s t w c (item (Does c)) h refl z.act (kept_sort s t w c sorts.act z refl refl)), y.1)) | inr y ↦ inr (inr y) ]
  before_view k c f (skipped z e y) h v i j g = let P : Work Act → Type 0 = λ v. Before i j v in inr (inr (subst P (e v) g))
  before_view k c f (opens z u e x) h v i j g =
      let P : Work Act → Type 0 = λ v. Before i j v in
      let R : Act → Type 0 = λ x. Under s t w c x in
      elim (subst P (e v) g) [
        | inl y ↦ elim (inside_has s t w k c v j y.1) [
          | inl x ↦ inl (from_begin c y.0 (inner_under s t w c j h (z.aborted, u) x).over (inner_no_begin s t w c j x))
          | inr x ↦ inr (inl (subst R (sym y.0) (own s t w c (item (Begins c)) h refl z.block (z.aborted, u)), x))
        ]
        | inr y ↦ elim (inside_before k c z.fork h (z.aborted, u) f v i j y) [
          | inl x ↦ inl x
          | inr x ↦ elim x [ inl o ↦ inr (inl (inner_under s t w c i h (z.aborted, u) o.0, o.1)) | inr o ↦ inr (inr o) ]
        ]
      ]
  before_view k c f (block z e x u y) h v i j g =
      let P : Work Act → Type 0 = λ v. Before i j v in
      let R : Act → Type 0 = λ x. Under s t w c x in
      let T : Act → Type 0 = λ x. is_ancestor t c (place x) ≡ true in
      let a = kept_sort s t w c sorts.committed z refl refl in
      elim (subst P (e v) g) [
        | inl y ↦ elim (inside_has s t w k c (act (item (Ends c)) v) j y.1) [
          | inl x ↦ inl (from_begin c y.0 (inner_under s t w c j h a x).over (inner_no_begin s t w c j x))
          | inr x ↦ elim x [
            | inl q ↦ inl (from_begin c y.0 (subst T (sym q) (ancestor_self t c)) (λ o. absurd (cc (q, o))))
            | inr o ↦ inr (inl (subst R (sym y.0) (own s t w c (item (Begins c)) h refl z.block a), o))
          ]
        ]
        | inr y ↦ elim (inside_before k c z.fork h a f (act (item (Ends c)) v) i j y) [
          | inl x ↦ inl x
          | inr x ↦ elim x [
            | inl o ↦ elim o.1 [
              | inl q ↦ inl (to_end c q (inner_under s t w c i h a o.0).over (inner_no_end s t w c i o.0))
              | inr q ↦ inr (inl (inner_under s t w c i h a o.0, q))
            ]
            | inr o ↦ elim o [ inl q ↦ inr (inl (subst R (sym q.0) (own s t w c (item (Ends c)) h refl z.committed a), q.1)) | inr q ↦ inr (inr q) ]
          ]
        ]
      ]
  before_view k c f (fork z l r y e) h v i j g =
      let P : Work Act → Type 0 = λ v. Before i j v in
      let kl = left_child t c l r y.children in
      let kr = right_child t c l r y.children in
      let a = kept_sort s t w c sorts.fork z refl refl in
      elim (subst P (e v) g) [
        | inl x ↦ inl (strand_before k l kl.there y.left_strand f i j x)
        | inr x ↦ elim x [
          | inl x ↦ inl (strand_before k r kr.there y.right_strand f i j x)
          | inr x ↦ elim x [
            | inl x ↦ inr (inr x)
            | inr x ↦ elim x.0 [
              | inl o ↦ inr (inl (strand_has s t w k c l kl y.left_strand a i o, x.1))
              | inr o ↦ inr (inl (strand_has s t w k c r kr y.right_strand a i o, x.1))
            ]
          ]
        ]
      ]

  work_before : (k c : ℕ) → Told k c
  work_before zero c h v i j g = inr (inr g)
  work_before (suc k) c h v i j g = before_view k c (work_before k) (view s t w k c h) h v i j g

  -- two acts in series in the whole work are so in the tree
  pub whole_before : (i j : Act) → Before i j (whole w.stop t) → Sooner s t w i j
  whole_before = strand_before (length t) 0 w.tree.some w.tree.root (work_before (length t))
