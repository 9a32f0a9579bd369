-- The work of quiet nodes comes to the states that the record has there, and that of strands that have ended to their end.
use Rattle.std.proofs.Common.{◌≡◌, ℕ, zero, suc, ◌+◌, ◌<◌, ◌≤◌, List, [], ◌∷◌, length, refl, ap, sym, ◌∙◌, arith, true, false, inl, inr, subst, cond}
use Rattle.std.proofs.lemmas.Bool.{false_from_ne_true}
use Rattle.cw_strand.specs.declared.want.Given.TheVariants.{Nothing}
use Rattle.cw_strand.specs.Strands.{Strands, is_over}
use Rattle.cw_tree.specs.declared.node.Node.{Node}
use Rattle.cw_tree.specs.Nodes.{is_strand, is_fork, is_committed}
use Rattle.cw_tree.specs.Series.{children}
use Rattle.cw_tree.proofs.InOrder.DepthFirst.{IsChild, child_is}
use Rattle.cw_record.specs.declared.items.OrderItem.TheVariants.{Ends}
use Rattle.cw_record.specs.Coherent.{InSeries}
use Rattle.cw_replay.proofs.RecordsReplay.Work.Work as task
use Rattle.cw_tree.proofs.Lists.{In}
use Rattle.cw_replay.proofs.RecordsReplay.Work.Work.{Work, nil, act}
use Rattle.cw_replay.proofs.RecordsReplay.Machine.Acts.{Act, item, stop}
use Rattle.cw_replay.proofs.RecordsReplay.Tasks.Sorts.{strand_sort, committed_sort}
use Rattle.cw_replay.proofs.Kin.{left_child, right_child, parent_low}
use Rattle.cw_replay.proofs.RecordsReplay.Tasks.Accounts.{Account, block_series, strand_series}
use Rattle.cw_replay.proofs.RecordsReplay.Tasks.Quiet.{Ended, Joined, Quiet, over_of, quiet_in_block, quiet_in_ended}
use Rattle.cw_replay.proofs.RecordsReplay.Tasks.Tasks.{works, stopping, work, inside, of_account, Forked, View, strand, acts, skipped, opens, block, fork, view}

module _ {A : Type 0} (s : Strands A) (t : List Node) (w : Account s t) where
  abbrev pub Fold : A → Work Act → A
  Fold = task.fold (of_account s t w)

  abbrev pub IsOver : A → Work Act → Type 0
  IsOver = task.Over (of_account s t w)

  -- a node that is no strand, and levels enough for all in it
  pub record Good (k c : ℕ) : Type 0 where
    pub there : c < length t
    pub levels : length t ≤ k + c
    pub plain : is_strand t c ≡ false

  -- a child of what is no fork is no strand
  pub plain_child : (q c : ℕ) → is_fork t q ≡ false → IsChild t q c → is_strand t c ≡ false
  plain_child q c e k = false_from_ne_true (is_strand t c) (λ f. absurd (cc (e, ap (is_fork t) (sym k.parent) ∙ w.tree.strands c k.there k.some f)))

  pub good_child : (k q c : ℕ) → length t ≤ suc k + q → is_fork t q ≡ false → IsChild t q c → Good k c
  good_child k q c l e m = let low = parent_low t w.tree.rooted q c m in record { there = m.there; levels = omega arith; plain = plain_child q c e m }

  -- no strand stopped in a strand that has ended, or in a committed block
  no_stop_ended : (x : ℕ) → Ended s t w x → w.stop.at x ≡ false
  no_stop_ended x o = false_from_ne_true (w.stop.at x) (λ e. absurd (cc (over_of s t w x o, ap is_over (w.stops x e).wants ∙ w.not_over)))

  pub no_stop_block : (c : ℕ) → is_committed t c ≡ true → w.stop.at c ≡ false
  no_stop_block c e =
      let z = committed_sort t c e in
      false_from_ne_true (w.stop.at c) (λ f. absurd (elim (w.stops c f).kind [ inl y ↦ cc (y, z.strand) | inr y ↦ cc (y, z.pending) ]))

  pub no_stop : (n : ℕ) (v : Work Act) → w.stop.at n ≡ false → stopping w.stop n v ≡ v
  no_stop n v e = ap (λ b. cond b (act (stop n) v) v) e

  -- ## The states

  abbrev pub FoldsTo : ℕ → ℕ → Type 0
  FoldsTo k c = Good k c → Quiet s t w c → (v : Work Act) → Fold (w.before c) (work w.stop t k c v) ≡ Fold (w.after c) v

  works_fold : (k : ℕ) → ((c : ℕ) → FoldsTo k c) → (ns : List ℕ) (a b : A) → InSeries w.before w.after a ns b → ((c : ℕ) → In c ns → Good k c × Quiet s t w c) → (v : Work Act) → Fold a (works (work w.stop t k) ns v) ≡ Fold b v
  works_fold k f [] a b l g v = ap (λ x. Fold x v) l
  works_fold k f (c ∷ ns) a b l g v =
      ap (λ x. Fold x (work w.stop t k c (works (work w.stop t k) ns v))) (sym l.0) ∙ f c (g c (inl refl)).0 (g c (inl refl)).1 (works (work w.stop t k) ns v) ∙ works_fold k f ns (w.after c) b l.1 (λ d h. g d (inr h)) v

  ended_children : (k x : ℕ) → x < length t → length t ≤ suc k + x → is_strand t x ≡ true → Ended s t w x → (c : ℕ) → In c (children t x) → Good k c × Quiet s t w c
  ended_children k x h l e o c m = (good_child k x c l (strand_sort t x e).fork (child_is t x c m), quiet_in_ended s t w x c h e o (child_is t x c m))

  block_children : (k c : ℕ) → c < length t → length t ≤ suc k + c → is_committed t c ≡ true → (d : ℕ) → In d (children t c) → Good k d × Quiet s t w d
  block_children k c h l e d m = (good_child k c d l (committed_sort t c e).fork (child_is t c d m), quiet_in_block s t w c d h e (child_is t c d m))

  strand_fold : (k : ℕ) → ((c : ℕ) → FoldsTo k c) → (x : ℕ) → x < length t → length t ≤ suc k + x → is_strand t x ≡ true → Ended s t w x → Fold (w.before x) (inside w.stop t k x nil) ≡ w.reached x
  strand_fold k f x h l e o =
      works_fold k f (children t x) (w.before x) (w.reached x) (strand_series s t w x h e) (ended_children k x h l e o) (stopping w.stop x nil)
      ∙ ap (Fold (w.reached x)) (no_stop x nil (no_stop_ended x o))

  -- the strands of a joined fork
  pub record Sides (k c l r : ℕ) : Type 0 where
    pub left : IsChild t c l
    pub right : IsChild t c r
    pub left_levels : length t ≤ suc k + l
    pub right_levels : length t ≤ suc k + r
    pub left_ended : Ended s t w l
    pub right_ended : Ended s t w r
    pub behind : w.after c ≡ s.joined (w.reached r) (w.reached l)

  pub sides : (k c l r : ℕ) → length t ≤ suc k + c → Forked s t w c l r → Joined s t w c → Sides k c l r
  sides k c l r levels f j =
      let kl = left_child t c l r f.children in
      let kr = right_child t c l r f.children in
      let low = parent_low t w.tree.rooted c l kl in
      let high = parent_low t w.tree.rooted c r kr in
      let two : l ∷ r ∷ [] ≡ j.left ∷ j.right ∷ [] = sym f.children ∙ j.strands in
      let same_left : j.left ≡ l = cc two in
      let same_right : j.right ≡ r = cc two in
      let P : ℕ → Type 0 = λ x. Ended s t w x in
      record {
        left = kl;
        right = kr;
        left_levels = omega arith;
        right_levels = omega arith;
        left_ended = subst P same_left j.left_ended;
        right_ended = subst P same_right j.right_ended;
        behind = j.behind ∙ ap (λ x. s.joined (w.reached x) (w.reached j.left)) same_right ∙ ap (λ x. s.joined (w.reached r) (w.reached x)) same_left;
      }

  -- what the two strands of a fork come to, joined
  abbrev pub joins : ℕ → ℕ → ℕ → A → A
  joins k l r a = s.joined (Fold (s.right a) (inside w.stop t k r nil)) (Fold (s.left a) (inside w.stop t k l nil))

  joins_by : (k c l r : ℕ) → ((c : ℕ) → FoldsTo k c) → Forked s t w c l r → Sides k c l r → joins k l r (w.before c) ≡ w.after c
  joins_by k c l r f g z =
      ap (λ a. s.joined (Fold a (inside w.stop t k r nil)) (Fold (s.left (w.before c)) (inside w.stop t k l nil))) (sym g.right)
      ∙ ap (λ a. s.joined (Fold (w.before r) (inside w.stop t k r nil)) (Fold a (inside w.stop t k l nil))) (sym g.left)
      ∙ ap (λ a. s.joined a (Fold (w.before l) (inside w.stop t k l nil))) (strand_fold k f r z.right.there z.right_levels g.right_strand z.right_ended)
      ∙ ap (s.joined (w.reached r)) (strand_fold k f l z.left.there z.left_levels g.left_strand z.left_ended)
      ∙ sym z.behind

  fold_view : (k c : ℕ) → ((d : ℕ) → FoldsTo k d) → View s t w k c → FoldsTo (suc k) c
  fold_view k c f (strand z e) g o v = absurd (cc (g.plain, z.strand))
  fold_view k c f (acts z e x y) g o v = ap (Fold (w.before c)) (e v) ∙ ap (λ a. Fold a v) (sym y)
  fold_view k c f (skipped z e y) g o v = ap (Fold (w.before c)) (e v) ∙ ap (λ a. Fold a v) (sym y)
  fold_view k c f (opens z u e x) g o v = absurd (cc (z.pending, o.none))
  fold_view k c f (block z e x u y) g o v =
      ap (Fold (w.before c)) (e v)
      ∙ works_fold k f (children t c) (s.answer (w.before c) Nothing) (w.reached c) (block_series s t w c g.there z.block) (block_children k c g.there g.levels z.committed) (stopping w.stop c (act (item (Ends c)) v))
      ∙ ap (Fold (w.reached c)) (no_stop c (act (item (Ends c)) v) (no_stop_block c z.committed))
      ∙ ap (λ a. Fold a v) (sym y)
  fold_view k c f (fork z l r y e) g o v = ap (Fold (w.before c)) (e v) ∙ ap (λ a. Fold a v) (joins_by k c l r f y (sides k c l r g.levels y (o.joined z.fork)))

  pub fold_node : (k c : ℕ) → FoldsTo k c
  fold_node zero c g o v = absurd (omega (arith, g.levels, g.there))
  fold_node (suc k) c g o v = fold_view k c (fold_node k) (view s t w k c g.there) g o v

  pub joined_state : (k c l r : ℕ) → Forked s t w c l r → Sides k c l r → joins k l r (w.before c) ≡ w.after c
  joined_state k c l r = joins_by k c l r (fold_node k)

  -- ## The ends

  abbrev pub OverBy : ℕ → ℕ → Type 0
  OverBy k c = Good k c → Quiet s t w c → (v : Work Act) → IsOver (w.after c) v → IsOver (w.before c) (work w.stop t k c v)

  works_over : (k : ℕ) → ((c : ℕ) → OverBy k c) → (ns : List ℕ) (a b : A) → InSeries w.before w.after a ns b → ((c : ℕ) → In c ns → Good k c × Quiet s t w c) → (v : Work Act) → IsOver b v → IsOver a (works (work w.stop t k) ns v)
  works_over k f [] a b l g v o = let P : A → Type 0 = λ x. IsOver x v in subst P (sym l) o
  works_over k f (c ∷ ns) a b l g v o =
      let P : A → Type 0 = λ x. IsOver x (work w.stop t k c (works (work w.stop t k) ns v)) in
      subst P l.0 (f c (g c (inl refl)).0 (g c (inl refl)).1 (works (work w.stop t k) ns v) (works_over k f ns (w.after c) b l.1 (λ d h. g d (inr h)) v o))

  strand_over : (k : ℕ) → ((c : ℕ) → OverBy k c) → (x : ℕ) → x < length t → length t ≤ suc k + x → is_strand t x ≡ true → Ended s t w x → IsOver (w.before x) (inside w.stop t k x nil)
  strand_over k f x h l e o =
      let P : Work Act → Type 0 = λ v. IsOver (w.reached x) v in
      works_over k f (children t x) (w.before x) (w.reached x) (strand_series s t w x h e) (ended_children k x h l e o) (stopping w.stop x nil)
      (subst P (sym (no_stop x nil (no_stop_ended x o))) (over_of s t w x o))

  -- both strands of a joined fork come to their ends
  sides_over : (k c l r : ℕ) → ((c : ℕ) → OverBy k c) → Forked s t w c l r → Sides k c l r → IsOver (s.left (w.before c)) (inside w.stop t k l nil) × IsOver (s.right (w.before c)) (inside w.stop t k r nil)
  sides_over k c l r f y z =
      let L : A → Type 0 = λ a. IsOver a (inside w.stop t k l nil) in
      let R : A → Type 0 = λ a. IsOver a (inside w.stop t k r nil) in
      (subst L y.left (strand_over k f l z.left.there z.left_levels y.left_strand z.left_ended), subst R y.right (strand_over k f r z.right.there z.right_levels y.right_strand z.right_ended))

  over_view : (k c : ℕ) → ((d : ℕ) → OverBy k d) → View s t w k c → OverBy (suc k) c
  over_view k c f (strand z e) g o v h = absurd (cc (g.plain, z.strand))
  over_view k c f (acts z e x y) g o v h = let P : Work Act → Type 0 = λ v. IsOver (w.before c) v in let Q : A → Type 0 = λ a. IsOver a v in subst P (sym (e v)) (subst Q y h)
  over_view k c f (skipped z e y) g o v h = let P : Work Act → Type 0 = λ v. IsOver (w.before c) v in let Q : A → Type 0 = λ a. IsOver a v in subst P (sym (e v)) (subst Q y h)
  over_view k c f (opens z u e x) g o v h = absurd (cc (z.pending, o.none))
  over_view k c f (block z e x u y) g o v h =
      let P : Work Act → Type 0 = λ v. IsOver (w.before c) v in
      let Q : A → Type 0 = λ a. IsOver a v in
      let R : Work Act → Type 0 = λ v. IsOver (w.reached c) v in
      subst P (sym (e v))
      (works_over k f (children t c) (s.answer (w.before c) Nothing) (w.reached c) (block_series s t w c g.there z.block) (block_children k c g.there g.levels z.committed) (stopping w.stop c (act (item (Ends c)) v))
      (subst R (sym (no_stop c (act (item (Ends c)) v) (no_stop_block c z.committed))) (subst Q y h)))
  over_view k c f (fork z l r y e) g o v h =
      let P : Work Act → Type 0 = λ v. IsOver (w.before c) v in
      let Q : A → Type 0 = λ a. IsOver a v in
      let sd = sides k c l r g.levels y (o.joined z.fork) in
      let ends = sides_over k c l r f y sd in
      subst P (sym (e v)) (y.wants, ends.0, ends.1, subst Q (sym (joined_state k c l r y sd)) h)

  over_node : (k c : ℕ) → OverBy k c
  over_node zero c g o v h = absurd (omega (arith, g.levels, g.there))
  over_node (suc k) c g o v h = over_view k c (over_node k) (view s t w k c g.there) g o v h

  pub ended_over : (k x : ℕ) → x < length t → length t ≤ suc k + x → is_strand t x ≡ true → Ended s t w x → IsOver (w.before x) (inside w.stop t k x nil)
  ended_over k = strand_over k (over_node k)

  pub both_over : (k c l r : ℕ) → Forked s t w c l r → Sides k c l r → IsOver (s.left (w.before c)) (inside w.stop t k l nil) × IsOver (s.right (w.before c)) (inside w.stop t k r nil)
  both_over k c l r = sides_over k c l r (over_node k)
