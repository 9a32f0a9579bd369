-- In the work of a record the left strand of each fork comes to its end where something was done in the right one, if it has ended by then in
-- the tree.
use Rattle.std.proofs.Common.{◌≡◌, ℕ, zero, suc, ◌+◌, ◌<◌, ◌≤◌, List, [], ◌∷◌, length, refl, ap, sym, arith, true, false, cond, inl, inr, subst}
use Rattle.std.specs.Prelude.{◌⊎◌}
use Rattle.std.proofs.lemmas.Bool.{cases_Bool, false_from_ne_true}
use Rattle.cw_strand.specs.declared.want.Given.TheVariants.{Nothing}
use Rattle.cw_strand.specs.Strands.{Strands}
use Rattle.cw_tree.specs.declared.node.Node.{Node}
use Rattle.cw_tree.specs.Nodes.{is_strand, is_fork, is_pending}
use Rattle.cw_tree.specs.Series.{children}
use Rattle.cw_tree.proofs.Lists.{In}
use Rattle.cw_tree.proofs.Rising.{Rises}
use Rattle.cw_tree.proofs.InOrder.DepthFirst.{IsChild, child_is, children_rise}
use Rattle.cw_tree.proofs.InOrder.Visits.{child_over}
use Rattle.cw_record.specs.declared.items.OrderItem.TheVariants.{Ends}
use Rattle.cw_record.specs.Coherent.{InSeries}
use Rattle.cw_replay.proofs.Kin.{left_child, right_child, parent_low}
use Rattle.cw_replay.proofs.RecordsReplay.Work.Work.{Work, nil, act}
use Rattle.cw_replay.proofs.RecordsReplay.Machine.Acts.{Act, item, stop}
use Rattle.cw_replay.proofs.RecordsReplay.Tasks.Sorts.{strand_sort}
use Rattle.cw_replay.proofs.RecordsReplay.Tasks.Accounts.{Account, block_series, strand_series}
use Rattle.cw_replay.proofs.RecordsReplay.Tasks.Quiet.{Ended, Quiet, quiet_before, quiet_in_block}
use Rattle.cw_replay.proofs.RecordsReplay.Tasks.Tasks.{works, stopping, work, inside, whole, of_account, rolled_back, refused, left_out, View, strand, acts, skipped, opens, block, fork, view}
use Rattle.cw_replay.proofs.RecordsReplay.Tasks.Folds.{Fold, IsOver, Good, good_child, no_stop_block, sides, joined_state, ended_over}
use Rattle.cw_replay.proofs.RecordsReplay.Tasks.Places.{Under}
use Rattle.cw_replay.proofs.LeftFirst.Leftmost.{Lefts}
use Rattle.cw_replay.proofs.LeftFirst.Parted.{strand_under}

module _ {A : Type 0} (s : Strands A) (t : List Node) (w : Account s t) where
  -- a left strand has ended where something was done in the right one
  abbrev pub LeftsEnd : Type 0
  LeftsEnd = (f l r : ℕ) → is_fork t f ≡ true → children t f ≡ l ∷ r ∷ [] → (j : Act) → Under s t w r j → Ended s t w l

  module _ (ends : LeftsEnd) (all_in : (b : ℕ) → w.stop.out b ≡ false) where
    abbrev Go : A → Work Act → Type 0
    Go = Lefts (of_account s t w)

    nothing_goes : (a : A) (v : Work Act) → v ≡ nil → Go a v
    nothing_goes a v e = let P : Work Act → Type 0 = λ x. Go a x in subst P (sym e) tt

    abbrev NodeGoes : ℕ → ℕ → Type 0
    NodeGoes k c = Good s t w k c → (v : Work Act) → Quiet s t w c ⊎ (v ≡ nil) → (Quiet s t w c → Go (w.after c) v) → Go (w.before c) (work w.stop t k c v)

    -- ## Nodes in series

    module _ (k p : ℕ) (f : (c : ℕ) → NodeGoes k c) (levels : length t ≤ suc k + p) (no_fork : is_fork t p ≡ false) where
      abbrev AllQuiet : List ℕ → Work Act → Type 0
      AllQuiet ns v = ((c : ℕ) → In c ns → Quiet s t w c) ⊎ (v ≡ nil)

      first_quiet : (c : ℕ) (ns : List ℕ) (v : Work Act) → ((d : ℕ) → In d (c ∷ ns) → IsChild t p d) → Rises (c ∷ ns) → AllQuiet (c ∷ ns) v → Quiet s t w c ⊎ (works (work w.stop t k) ns v ≡ nil)
      first_quiet c [] v kids r (inl o) = inl (o c (inl refl))
      first_quiet c [] v kids r (inr e) = inr e
      first_quiet c (d ∷ ns) v kids r o = inl (quiet_before s t w p c d (kids c (inl refl)) (kids d (inr (inl refl))) no_fork (r.0 d (inl refl)))

      fewer : (c : ℕ) (ns : List ℕ) (v : Work Act) → AllQuiet (c ∷ ns) v → AllQuiet ns v
      fewer c ns v (inl o) = inl (λ d h. o d (inr h))
      fewer c ns v (inr e) = inr e

      works_go : (ns : List ℕ) (a b : A) → InSeries w.before w.after a ns b → ((c : ℕ) → In c ns → IsChild t p c) → Rises ns → (v : Work Act) → AllQuiet ns v → Go b v → Go a (works (work w.stop t k) ns v)
      works_go [] a b l kids r v o g = let P : A → Type 0 = λ x. Go x v in subst P (sym l) g
      works_go (c ∷ ns) a b l kids r v o g =
          let x : Work Act = works (work w.stop t k) ns v in
          let P : A → Type 0 = λ y. Go y (work w.stop t k c x) in
          subst P l.0 (f c (good_child s t w k p c levels no_fork (kids c (inl refl))) x (first_quiet c ns v kids r o) (λ q. works_go ns (w.after c) b l.1 (λ d h. kids d (inr h)) r.1 v (fewer c ns v o) g))

      -- where a strand stopped, nothing is pending
      stopped_quiet : w.stop.at p ≡ true → (c : ℕ) → IsChild t p c → Quiet s t w c
      stopped_quiet e c m =
          let z = w.stops p e in
          let low = parent_low t w.tree.rooted p c m in
          record {
            none = false_from_ne_true (is_pending t c) (λ x. elim (z.shut c x (child_over t w.tree.rooted p c m)) [ inl y ↦ absurd (omega (arith, y)) | inr y ↦ absurd (let o = y.out in cc (o, all_in y.child)) ]);
            joined = z.joined c m;
          }

      inside_goes : (a : A) → InSeries w.before w.after a (children t p) (w.reached p) → (v : Work Act) → AllQuiet (children t p) v → (w.stop.at p ≡ true → v ≡ nil) → (w.stop.at p ≡ false → Go (w.reached p) v) → Go a (inside w.stop t k p v)
      inside_goes a l v o n g = elim (cases_Bool (w.stop.at p)) [
        | inl e ↦ to (act (stop p) v) (ap (λ b. cond b (act (stop p) v) v) e) (inl (λ c h. stopped_quiet e c (child_is t p c h))) (nothing_goes (s.answer (w.reached p) Nothing) v (n e))
        | inr e ↦ to v (ap (λ b. cond b (act (stop p) v) v) e) o (g e)
      ] where
        to : (x : Work Act) → stopping w.stop p v ≡ x → AllQuiet (children t p) x → Go (w.reached p) x → Go a (inside w.stop t k p v)
        to x e o g =
            let P : Work Act → Type 0 = λ y. Go a (works (work w.stop t k) (children t p) y) in
            subst P (sym e) (works_go (children t p) a (w.reached p) l (child_is t p) (children_rise t p) x o g)

    -- ## Each node

    strand_goes : (k x : ℕ) → ((c : ℕ) → NodeGoes k c) → x < length t → length t ≤ suc k + x → is_strand t x ≡ true → Go (w.before x) (inside w.stop t k x nil)
    strand_goes k x f h l e = inside_goes k x f l (strand_sort t x e).fork (w.before x) (strand_series s t w x h e) nil (inr refl) (λ z. refl) (λ z. tt)

    side_goes : (k c x : ℕ) (a : A) → ((d : ℕ) → NodeGoes k d) → length t ≤ suc k + c → IsChild t c x → is_strand t x ≡ true → w.before x ≡ a → Go a (inside w.stop t k x nil)
    side_goes k c x a f levels m z b =
        let P : A → Type 0 = λ y. Go y (inside w.stop t k x nil) in
        let low = parent_low t w.tree.rooted c x m in
        subst P b (strand_goes k x f m.there (omega arith) z)

    goes_view : (k c : ℕ) → ((d : ℕ) → NodeGoes k d) → View s t w k c → NodeGoes (suc k) c
    goes_view k c f (strand z e) g v o more = absurd (let p = g.plain in cc (p, z.strand))
    goes_view k c f (acts z e x y) g v o more =
        let P : Work Act → Type 0 = λ u. Go (w.before c) u in
        let Q : A → Type 0 = λ a. Go a v in
        subst P (sym (e v)) (subst Q y (more (record { none = z.pending; joined = λ f. absurd (cc (f, z.fork)) })))
    goes_view k c f (skipped (rolled_back z) e y) g v o more =
        let P : Work Act → Type 0 = λ u. Go (w.before c) u in
        let Q : A → Type 0 = λ a. Go a v in
        subst P (sym (e v)) (subst Q y (more (record { none = z.pending; joined = λ f. absurd (cc (f, z.fork)) })))
    goes_view k c f (skipped (refused z) e y) g v o more =
        let P : Work Act → Type 0 = λ u. Go (w.before c) u in
        let Q : A → Type 0 = λ a. Go a v in
        subst P (sym (e v)) (subst Q y (more (record { none = z.pending; joined = λ f. absurd (cc (f, z.fork)) })))
    goes_view k c f (skipped (left_out z out) e y) g v o more = absurd (cc (out, all_in c))
    goes_view k c f (opens z u e x) g v o more =
        let P : Work Act → Type 0 = λ y. Go (w.before c) y in
        let nothing : v ≡ nil = elim o [ inl q ↦ absurd (let none = q.none in cc (z.pending, none)) | inr y ↦ y ] in
        subst P (sym (e v)) (inside_goes k c f g.levels z.fork (s.answer (w.before c) Nothing) (block_series s t w c g.there z.block) v (inr nothing) (λ y. nothing) (λ y. nothing_goes (w.reached c) v nothing))
    goes_view k c f (block z e x u y) g v o more =
        let P : Work Act → Type 0 = λ v. Go (w.before c) v in
        let Q : A → Type 0 = λ a. Go a v in
        subst P (sym (e v))
        (inside_goes k c f g.levels z.fork (s.answer (w.before c) Nothing) (block_series s t w c g.there z.block) (act (item (Ends c)) v) (inl (λ d m. quiet_in_block s t w c d g.there z.committed (child_is t c d m)))
        (λ i. absurd (cc (i, no_stop_block s t w c z.committed)))
        (λ i. subst Q y (more (record { none = z.pending; joined = λ f. absurd (cc (f, z.fork)) }))))
    goes_view k c f (fork z l r y e) g v o more =
        let P : Work Act → Type 0 = λ v. Go (w.before c) v in
        let kl = left_child t c l r y.children in
        let kr = right_child t c l r y.children in
        let low = parent_low t w.tree.rooted c l kl in
        let levels = g.levels in
        let L : A → Type 0 = λ a. IsOver s t w a (inside w.stop t k l nil) in
        subst P (sym (e v)) (
          (λ i h. subst L y.left (ended_over s t w k l kl.there (omega arith) y.left_strand (ends c l r z.fork y.children i (strand_under s t w k c r kr y.right_strand i h)))),
          side_goes k c l (s.left (w.before c)) f g.levels kl y.left_strand y.left,
          side_goes k c r (s.right (w.before c)) f g.levels kr y.right_strand y.right,
          after_join o,
        ) where
          after_join : Quiet s t w c ⊎ (v ≡ nil) → Go (s.joined (Fold s t w (s.right (w.before c)) (inside w.stop t k r nil)) (Fold s t w (s.left (w.before c)) (inside w.stop t k l nil))) v
          after_join (inr n) = nothing_goes (s.joined (Fold s t w (s.right (w.before c)) (inside w.stop t k r nil)) (Fold s t w (s.left (w.before c)) (inside w.stop t k l nil))) v n
          after_join (inl q) = let Q : A → Type 0 = λ a. Go a v in subst Q (sym (joined_state s t w k c l r y (sides s t w k c l r g.levels y (q.joined z.fork)))) (more q)

    node_goes : (k c : ℕ) → NodeGoes k c
    node_goes zero c g v o more = absurd (omega (arith, g.levels, g.there))
    node_goes (suc k) c g v o more = goes_view k c (node_goes k) (view s t w k c g.there) g v o more

    pub whole_lefts : Go s.start (whole w.stop t)
    whole_lefts = let P : A → Type 0 = λ a. Go a (whole w.stop t) in subst P w.follows.start (strand_goes (length t) 0 (node_goes (length t)) w.tree.some (omega arith) w.tree.root)
