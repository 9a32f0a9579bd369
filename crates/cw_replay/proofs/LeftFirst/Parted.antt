-- Acts that stand in the two strands of a fork in the work of a record do so in its tree.
use Rattle.std.proofs.Common.{◌≡◌, ℕ, zero, suc, ◌<◌, List, [], ◌∷◌, length, refl, Bool, true, false, cond, inl, inr, subst}
use Rattle.std.specs.Prelude.{◌⊎◌}
use Rattle.cw_strand.specs.Strands.{Strands}
use Rattle.cw_tree.specs.declared.node.Node.{Node}
use Rattle.cw_tree.specs.Nodes.{is_strand, is_fork}
use Rattle.cw_tree.specs.Series.{children}
use Rattle.cw_tree.proofs.Lists.{In}
use Rattle.cw_tree.proofs.InOrder.DepthFirst.{IsChild, child_is}
use Rattle.cw_record.specs.declared.items.OrderItem.TheVariants.{Ends}
use Rattle.cw_replay.proofs.Kin.{left_child, right_child}
use Rattle.cw_replay.proofs.RecordsReplay.Work.Work.{Work, nil, act, Has}
use Rattle.cw_replay.proofs.RecordsReplay.Machine.Acts.{Act, item, stop}
use Rattle.cw_replay.proofs.RecordsReplay.Tasks.Accounts.{Account}
use Rattle.cw_replay.proofs.RecordsReplay.Tasks.Tasks.{works, stopping, work, inside, whole, View, strand, acts, skipped, opens, block, fork, view}
use Rattle.cw_replay.proofs.RecordsReplay.Tasks.Places.{kept_strand, Under, inner_under, inside_has}
use Rattle.cw_replay.proofs.LeftFirst.Leftmost.{Beside}

module _ {A : Type 0} (s : Strands A) (t : List Node) (w : Account s t) where
  -- i stands in the left strand of a fork, and j in the right one
  pub record Parted (i j : Act) : Type 0 where
    pub fork : ℕ
    pub left : ℕ
    pub right : ℕ
    pub forks : is_fork t fork ≡ true
    pub strands : children t fork ≡ left ∷ right ∷ []
    pub in_left : Under s t w left i
    pub in_right : Under s t w right j

  abbrev Told : ℕ → ℕ → Type 0
  Told k c = c < length t → (v : Work Act) (i j : Act) → Beside i j (work w.stop t k c v) → Parted i j ⊎ Beside i j v

  works_beside : (k : ℕ) → ((c : ℕ) → Told k c) → (ns : List ℕ) → ((c : ℕ) → In c ns → c < length t) → (v : Work Act) (i j : Act) → Beside i j (works (work w.stop t k) ns v) → Parted i j ⊎ Beside i j v
  works_beside k f [] l v i j h = inr h
  works_beside k f (c ∷ ns) l v i j h = elim (f c (l c (inl refl)) (works (work w.stop t k) ns v) i j h) [ inl x ↦ inl x | inr y ↦ works_beside k f ns (λ d m. l d (inr m)) v i j y ]

  stopping_beside : (c : ℕ) (v : Work Act) (i j : Act) → Beside i j (stopping w.stop c v) → Beside i j v
  stopping_beside c v i j h = by (w.stop.at c) h where
    by : (b : Bool) → Beside i j (cond b (act (stop c) v) v) → Beside i j v
    by true h = h
    by false h = h

  inside_beside : (k c : ℕ) → ((d : ℕ) → Told k d) → (v : Work Act) (i j : Act) → Beside i j (inside w.stop t k c v) → Parted i j ⊎ Beside i j v
  inside_beside k c f v i j h = elim (works_beside k f (children t c) (λ d m. (child_is t c d m).there) (stopping w.stop c v) i j h) [ inl x ↦ inl x | inr y ↦ inr (stopping_beside c v i j y) ]

  strand_beside : (k x : ℕ) → ((d : ℕ) → Told k d) → (i j : Act) → Beside i j (inside w.stop t k x nil) → Parted i j
  strand_beside k x f i j h = elim (inside_beside k x f nil i j h) [ inl y ↦ y | inr y ↦ absurd y ]

  -- what stands in a strand's work stands in the strand
  pub strand_under : (k c x : ℕ) → IsChild t c x → is_strand t x ≡ true → (i : Act) → Has i (inside w.stop t k x nil) → Under s t w x i
  strand_under k c x m e i h = elim (inside_has s t w k x nil i h) [ inl z ↦ inner_under s t w x i m.there (kept_strand s t w x e) z | inr z ↦ absurd z ]

  beside_view : (k c : ℕ) → ((d : ℕ) → Told k d) → View s t w k c → Told (suc k) c
  beside_view k c f (strand z e) h v i j g = let P : Work Act → Type 0 = λ v. Beside i j v in inr (subst P (e v) g)
  beside_view k c f (acts z e x y) h v i j g = let P : Work Act → Type 0 = λ v. Beside i j v in inr (subst P (e v) g)
  beside_view k c f (skipped z e y) h v i j g = let P : Work Act → Type 0 = λ v. Beside i j v in inr (subst P (e v) g)
  beside_view k c f (opens z u e x) h v i j g = let P : Work Act → Type 0 = λ v. Beside i j v in inside_beside k c f v i j (subst P (e v) g)
  beside_view k c f (block z e x u y) h v i j g = let P : Work Act → Type 0 = λ v. Beside i j v in inside_beside k c f (act (item (Ends c)) v) i j (subst P (e v) g)
  beside_view k c f (fork z l r y e) h v i j g =
      let P : Work Act → Type 0 = λ v. Beside i j v in
      let kl = left_child t c l r y.children in
      let kr = right_child t c l r y.children in
      elim (subst P (e v) g) [
        | inl x ↦ inl (strand_beside k l f i j x)
        | inr x ↦ elim x [
          | inl x ↦ inl (strand_beside k r f i j x)
          | inr x ↦ elim x [
            | inl x ↦ inr x
            | inr x ↦ inl (record {
              fork = c;
              left = l;
              right = r;
              forks = z.fork;
              strands = y.children;
              in_left = strand_under k c l kl y.left_strand i x.0;
              in_right = strand_under k c r kr y.right_strand j x.1;
            })
          ]
        ]
      ]

  work_beside : (k c : ℕ) → Told k c
  work_beside zero c h v i j g = inr g
  work_beside (suc k) c h v i j g = beside_view k c (work_beside k) (view s t w k c h) h v i j g

  pub whole_beside : (i j : Act) → Beside i j (whole w.stop t) → Parted i j
  whole_beside = strand_beside (length t) 0 (work_beside (length t))
