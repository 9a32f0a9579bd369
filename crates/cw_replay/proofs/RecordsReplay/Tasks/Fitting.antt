-- The work of a record fits its strands: each wants just what comes next, under the name and with the forks that the tree gives it.
use Rattle.std.proofs.Common.{◌≡◌, ℕ, zero, suc, ◌+◌, ◌<◌, ◌≤◌, List, [], ◌∷◌, ◌++◌, length, refl, ap, sym, ◌∙◌, arith, Bool, true, false, cond, inl, inr, subst}
use Rattle.std.specs.Prelude.{◌⊎◌}
use Rattle.std.proofs.lemmas.Bool.{cases_Bool}
use Rattle.cw_strand.specs.declared.want.Given.TheVariants.{Nothing}
use Rattle.cw_strand.specs.Strands.{Strands}
use Rattle.cw_tree.specs.declared.node.Node.{Node}
use Rattle.cw_tree.specs.declared.picks.Turn.{Turn}
use Rattle.cw_tree.specs.Nodes.{is_strand, is_fork, is_pending}
use Rattle.cw_tree.specs.Series.{children, strand_of}
use Rattle.cw_tree.specs.Names.{fork_number, name_of, is_right}
use Rattle.cw_tree.proofs.Walks.Ancestors.{ancestor_self}
use Rattle.cw_tree.proofs.Walks.Kin.{children_apart}
use Rattle.cw_tree.proofs.Walks.Strands.{strand_of_strand, strand_of_other, strand_of_root}
use Rattle.cw_tree.proofs.Names.Naming.{name_step}
use Rattle.cw_tree.proofs.InOrder.DepthFirst.{IsChild, child_is, children_rise}
use Rattle.cw_serial.specs.Spots.{turn_to}
use Rattle.cw_record.specs.declared.items.OrderItem.TheVariants.{Ends}
use Rattle.cw_record.specs.Coherent.{InSeries}
use Rattle.cw_replay.proofs.RecordsReplay.Work.Work as task
use Rattle.cw_replay.proofs.RecordsReplay.Work.Work.{Work, nil, act, More}
use Rattle.cw_replay.proofs.RecordsReplay.Machine.Acts.{Act, item, stop}
use Rattle.cw_replay.proofs.RecordsReplay.Tasks.Sorts as sorts
use Rattle.cw_tree.proofs.InOrder.Visits.{child_over}
use Rattle.cw_tree.proofs.NodeKinds.{block_some}
use Rattle.cw_tree.proofs.Lists.{In}
use Rattle.cw_tree.proofs.Rising.{Rises}
use Rattle.cw_replay.proofs.RecordsReplay.Tasks.Sorts.{strand_sort}
use Rattle.cw_replay.proofs.Kin.{left_child, right_child, left_is_left, right_is_right, parent_low}
use Rattle.cw_replay.proofs.ForkNumbers.{forks_before_node, forks_behind, forks_reached, forks_in_series, none_first, one_more, none_more, none_kept, all_kept}
use Rattle.cw_replay.proofs.RecordsReplay.Tasks.Accounts.{Account, block_series, strand_series}
use Rattle.cw_replay.proofs.RecordsReplay.Tasks.Quiet.{Ended, Quiet, quiet_before, quiet_in_block}
use Rattle.cw_replay.proofs.RecordsReplay.Tasks.Tasks.{works, stopping, work, inside, whole, of_account, Skipped, rolled_back, refused, left_out, View, strand, acts, skipped, opens, block, fork, view}
use Rattle.cw_replay.proofs.RecordsReplay.Tasks.Folds.{Fold, IsOver, Good, good_child, no_stop_block, Sides, sides, joined_state, both_over, ended_over}

module _ {A : Type 0} (s : Strands A) (t : List Node) (w : Account s t) where
  abbrev pub Fit : List Turn → ℕ → A → Work Act → Type 0
  Fit = task.Fits (of_account s t w)

  -- behind this node its strand can go on, or it was refused
  abbrev Goes : ℕ → Type 0
  Goes c = Quiet s t w c ⊎ (w.stop.out c ≡ true)

  -- a child of node p was refused
  record Refuses (p : ℕ) : Type 0 where
    pub child : ℕ
    pub is_child : IsChild t p child
    pub out : w.stop.out child ≡ true

  -- what follows a node: it fits, where the strand goes on, and else there is nothing; with any number of forks, where the node was refused
  abbrev FitsBehind : List Turn → ℕ → Work Act → Type 0
  FitsBehind q c v = (Goes c ⊎ (v ≡ nil)) × (Goes c → (j : ℕ) → (w.stop.out c ≡ true) ⊎ (j ≡ forks_behind t c) → Fit q j (w.after c) v)

  abbrev NodeFits : ℕ → ℕ → Type 0
  NodeFits k c = (q : List Turn) → q ≡ name_of t (strand_of t c) → Good s t w k c → (v : Work Act) → FitsBehind q c v → Fit q (forks_before_node t c) (w.before c) (work w.stop t k c v)

  nothing_fits : (q : List Turn) (j : ℕ) (a : A) (v : Work Act) → v ≡ nil → Fit q j a v
  nothing_fits q j a v e = let P : Work Act → Type 0 = λ x. Fit q j a x in subst P (sym e) tt

  rest_fits : (q : List Turn) (c j : ℕ) (v : Work Act) → FitsBehind q c v → (w.stop.out c ≡ true) ⊎ (j ≡ forks_behind t c) → Fit q j (w.after c) v
  rest_fits q c j v b e = elim b.0 [ inl o ↦ b.1 o j e | inr n ↦ nothing_fits q j (w.after c) v n ]

  -- ## Nodes in series

  module _ (k p : ℕ) (f : (c : ℕ) → NodeFits k c) (levels : length t ≤ suc k + p) (no_fork : is_fork t p ≡ false) (q : List Turn) (name : q ≡ name_of t (strand_of t p)) where
    abbrev AllGo : List ℕ → Work Act → Type 0
    AllGo ns v = ((c : ℕ) → In c ns → Goes c) ⊎ (v ≡ nil)

    first_goes : (c : ℕ) (ns : List ℕ) (v : Work Act) → ((d : ℕ) → In d (c ∷ ns) → IsChild t p d) → Rises (c ∷ ns) → AllGo (c ∷ ns) v → Goes c ⊎ (works (work w.stop t k) ns v ≡ nil)
    first_goes c [] v kids r (inl o) = inl (o c (inl refl))
    first_goes c [] v kids r (inr e) = inr e
    first_goes c (d ∷ ns) v kids r o = inl (inl (quiet_before s t w p c d (kids c (inl refl)) (kids d (inr (inl refl))) no_fork (r.0 d (inl refl))))

    fewer : (c : ℕ) (ns : List ℕ) (v : Work Act) → AllGo (c ∷ ns) v → AllGo ns v
    fewer c ns v (inl o) = inl (λ d h. o d (inr h))
    fewer c ns v (inr e) = inr e

    behind_fit : (c : ℕ) (ns : List ℕ) (b : A) (cb : ℕ) → InSeries w.before w.after (w.after c) ns b → ((d : ℕ) → In d (c ∷ ns) → IsChild t p d) → Rises (c ∷ ns) → (v : Work Act) → ((j : ℕ) → Refuses p ⊎ (j ≡ cb) → Fit q j b v)
        → Fit q (forks_behind t c) (w.after c) (works (work w.stop t k) ns v) → (j : ℕ) → (w.stop.out c ≡ true) ⊎ (j ≡ forks_behind t c) → Fit q j (w.after c) (works (work w.stop t k) ns v)
    behind_fit c [] b cb l kids r v g more j (inl e) = let P : A → Type 0 = λ x. Fit q j x v in subst P (sym l) (g j (inl (record { child = c; is_child = kids c (inl refl); out = e })))
    behind_fit c (d ∷ ns) b cb l kids r v g more j (inl e) =
        absurd (cc ((w.left_out c e).0, (quiet_before s t w p c d (kids c (inl refl)) (kids d (inr (inl refl))) no_fork (r.0 d (inl refl))).none))
    behind_fit c ns b cb l kids r v g more j (inr e) = let P : ℕ → Type 0 = λ i. Fit q i (w.after c) (works (work w.stop t k) ns v) in subst P (sym e) more

    works_fit : (ns : List ℕ) (a b : A) (ca cb : ℕ) → InSeries w.before w.after a ns b → InSeries (forks_before_node t) (forks_behind t) ca ns cb → ((c : ℕ) → In c ns → IsChild t p c) → Rises ns
        → (v : Work Act) → AllGo ns v → ((j : ℕ) → Refuses p ⊎ (j ≡ cb) → Fit q j b v) → Fit q ca a (works (work w.stop t k) ns v)
    works_fit [] a b ca cb l m kids r v o g = let P : A → Type 0 = λ x. Fit q ca x v in subst P (sym l) (g ca (inr m))
    works_fit (c ∷ ns) a b ca cb l m kids r v o g =
        let x : Work Act = works (work w.stop t k) ns v in
        let P : A → Type 0 = λ y. Fit q (forks_before_node t c) y (work w.stop t k c x) in
        let Q : ℕ → Type 0 = λ j. Fit q j a (work w.stop t k c x) in
        let child = kids c (inl refl) in
        let good = good_child s t w k p c levels no_fork child in
        let same : strand_of t c ≡ strand_of t p = strand_of_other t w.tree.rooted c child.some child.there good.plain ∙ ap (strand_of t) child.parent in
        let more = works_fit ns (w.after c) b (forks_behind t c) cb l.1 m.1 (λ d h. kids d (inr h)) r.1 v (fewer c ns v o) g in
        subst Q m.0 (subst P l.0 (f c q (name ∙ ap (name_of t) (sym same)) good x (first_goes c ns v kids r o, λ z j e. behind_fit c ns b cb l.1 kids r v g more j e)))

    -- the children of a node in which a strand stopped
    stopped_goes : w.stop.at p ≡ true → (c : ℕ) → IsChild t p c → Goes c
    stopped_goes e c m =
        let z = w.stops p e in
        let low = parent_low t w.tree.rooted p c m in
        elim (cases_Bool (is_pending t c)) [
          | inl x ↦ elim (z.shut c x (child_over t w.tree.rooted p c m)) [
            | inl y ↦ absurd (omega (arith, y))
            | inr y ↦
                (let o = y.is_child in
                let P : ℕ → Type 0 = λ i. w.stop.out i ≡ true in
                inr (subst P (children_apart t w.tree.rooted y.child c c m.there o.some m.some (o.parent ∙ sym m.parent) y.over (ancestor_self t c)) y.out))
          ]
          | inr x ↦ inl (record { none = x; joined = z.joined c m })
        ]

    inside_fit : (a : A) → InSeries w.before w.after a (children t p) (w.reached p) → (v : Work Act) → AllGo (children t p) v → (w.stop.at p ≡ true → v ≡ nil) → (w.stop.at p ≡ false → Fit q (forks_reached t p) (w.reached p) v)
        → Fit q (forks_before_node t p) a (inside w.stop t k p v)
    inside_fit a l v o n g = elim (cases_Bool (w.stop.at p)) [
      | inl e ↦ to (act (stop p) v) (ap (λ b. cond b (act (stop p) v) v) e) (inl (λ c h. stopped_goes e c (child_is t p c h))) (λ j x. ((w.stops p e).wants, sym name, nothing_fits q j (s.answer (w.reached p) Nothing) v (n e)))
      | inr e ↦ to v (ap (λ b. cond b (act (stop p) v) v) e) o (λ j x. elim x [
        | inl y ↦ (let P : ℕ → Type 0 = λ i. w.stop.at i ≡ true in absurd (cc (e, subst P y.is_child.parent (w.left_out y.child y.out).1)))
        | inr y ↦ (let P : ℕ → Type 0 = λ i. Fit q i (w.reached p) v in subst P (sym y) (g e))
      ])
    ] where
      to : (x : Work Act) → stopping w.stop p v ≡ x → AllGo (children t p) x → ((j : ℕ) → Refuses p ⊎ (j ≡ forks_reached t p) → Fit q j (w.reached p) x) → Fit q (forks_before_node t p) a (inside w.stop t k p v)
      to x e o g =
          let P : Work Act → Type 0 = λ y. Fit q (forks_before_node t p) a (works (work w.stop t k) (children t p) y) in
          subst P (sym e) (works_fit (children t p) a (w.reached p) (forks_before_node t p) (forks_reached t p) l (forks_in_series t w.tree p no_fork) (child_is t p) (children_rise t p) x o g)

  -- ## Each node

  strand_fits : (k x : ℕ) → ((c : ℕ) → NodeFits k c) → x < length t → length t ≤ suc k + x → is_strand t x ≡ true → (q : List Turn) → q ≡ name_of t (strand_of t x) → Fit q 0 (w.before x) (inside w.stop t k x nil)
  strand_fits k x f h l e q n =
      let P : ℕ → Type 0 = λ j. Fit q j (w.before x) (inside w.stop t k x nil) in
      subst P (none_first t w.tree x h e) (inside_fit k x f l (strand_sort t x e).fork q n (w.before x) (strand_series s t w x h e) nil (inr refl) (λ z. refl) (λ z. tt))

  -- the name of a strand of a fork
  forked_name : (c x : ℕ) (side : Bool) (q : List Turn) → IsChild t c x → is_strand t x ≡ true → is_right t x ≡ side → q ≡ name_of t (strand_of t c) → q ++ turn_to (suc (forks_before_node t c)) side ∷ [] ≡ name_of t x
  forked_name c x side q m z e h =
      let one : fork_number t c ≡ suc (forks_before_node t c) = omega arith in
      sym (name_step t w.tree.rooted x m.some m.there z
      ∙ ap (λ f. name_of t (strand_of t f) ++ turn_to (fork_number t f) (is_right t x) ∷ []) m.parent
      ∙ ap (λ y. name_of t (strand_of t c) ++ turn_to (fork_number t c) y ∷ []) e
      ∙ ap (λ y. name_of t (strand_of t c) ++ turn_to y side ∷ []) one
      ∙ ap (λ y. y ++ turn_to (suc (forks_before_node t c)) side ∷ []) (sym h))

  side_fits : (k c x : ℕ) (side : Bool) (q : List Turn) (a : A) → ((d : ℕ) → NodeFits k d) → length t ≤ suc k + c → IsChild t c x → is_strand t x ≡ true → is_right t x ≡ side → q ≡ name_of t (strand_of t c) → w.before x ≡ a
      → Fit (q ++ turn_to (suc (forks_before_node t c)) side ∷ []) 0 a (inside w.stop t k x nil)
  side_fits k c x side q a f levels m z e h b =
      let P : A → Type 0 = λ y. Fit (q ++ turn_to (suc (forks_before_node t c)) side ∷ []) 0 y (inside w.stop t k x nil) in
      let low = parent_low t w.tree.rooted c x m in
      subst P b (strand_fits k x f m.there (omega arith) z (q ++ turn_to (suc (forks_before_node t c)) side ∷ []) (forked_name c x side q m z e h ∙ ap (name_of t) (sym (strand_of_strand t w.tree.rooted x m.some m.there z))))

  skipped_forks : (c : ℕ) → c < length t → Skipped s t w c → (w.stop.out c ≡ true) ⊎ (forks_before_node t c ≡ forks_behind t c)
  skipped_forks c h (rolled_back z) = inr (sym (none_kept t w.tree c z))
  skipped_forks c h (refused z) = inr (sym (none_more t w.tree c sorts.tried h z refl refl refl))
  skipped_forks c h (left_out z e) = inl e

  fit_view : (k c : ℕ) → ((d : ℕ) → NodeFits k d) → View s t w k c → NodeFits (suc k) c
  fit_view k c f (strand z e) q h g v b = absurd (cc (g.plain, z.strand))
  fit_view k c f (acts z e x y) q h g v b =
      let P : Work Act → Type 0 = λ u. Fit q (forks_before_node t c) (w.before c) u in
      let Q : A → Type 0 = λ a. Fit q (forks_before_node t c) a v in
      subst P (sym (e v)) (x, sym h, subst Q y (rest_fits q c (forks_before_node t c) v b (inr (sym (none_more t w.tree c sorts.act g.there z refl refl refl)))))
  fit_view k c f (skipped z e y) q h g v b =
      let P : Work Act → Type 0 = λ u. Fit q (forks_before_node t c) (w.before c) u in
      let Q : A → Type 0 = λ a. Fit q (forks_before_node t c) a v in
      subst P (sym (e v)) (subst Q y (rest_fits q c (forks_before_node t c) v b (skipped_forks c g.there z)))
  fit_view k c f (opens z u e x) q h g v b =
      let P : Work Act → Type 0 = λ y. Fit q (forks_before_node t c) (w.before c) y in
      let nothing : v ≡ nil = elim b.0 [ inl o ↦ elim o [ inl y ↦ absurd (cc (z.pending, y.none)) | inr y ↦ absurd (cc (u, y)) ] | inr y ↦ y ] in
      subst P (sym (e v)) (x, sym h, inside_fit k c f g.levels z.fork q h (s.answer (w.before c) Nothing) (block_series s t w c g.there z.block) v (inr nothing) (λ y. nothing) (λ y. nothing_fits q (forks_reached t c) (w.reached c) v nothing))
  fit_view k c f (block z e x u y) q h g v b =
      let P : Work Act → Type 0 = λ v. Fit q (forks_before_node t c) (w.before c) v in
      let Q : A → Type 0 = λ a. Fit q (forks_reached t c) a v in
      subst P (sym (e v)) (
        x,
        sym h,
        inside_fit k c f g.levels z.fork q h (s.answer (w.before c) Nothing) (block_series s t w c g.there z.block) (act (item (Ends c)) v)
            (inl (λ d m. inl (quiet_in_block s t w c d g.there z.committed (child_is t c d m))))
            (λ i. absurd (cc (i, no_stop_block s t w c z.committed)))
            (λ i. (u, sym h, subst Q y (rest_fits q c (forks_reached t c) v b (inr (sym (all_kept t w.tree c (block_some t w.tree.root c z.block) g.there z)))))),
      )
  fit_view k c f (fork z l r y e) q h g v b =
      let P : Work Act → Type 0 = λ v. Fit q (forks_before_node t c) (w.before c) v in
      let kl = left_child t c l r y.children in
      let kr = right_child t c l r y.children in
      subst P (sym (e v)) (
        y.wants,
        side_fits k c l false q (s.left (w.before c)) f g.levels kl y.left_strand (left_is_left t c l r y.children) h y.left,
        side_fits k c r true q (s.right (w.before c)) f g.levels kr y.right_strand (right_is_right t c l r y.children y.left_strand) h y.right,
        after_join b.0,
        ends_both b.0,
      ) where
        at_sides : Goes c → Sides s t w k c l r
        at_sides (inl o) = sides s t w k c l r g.levels y (o.joined z.fork)
        at_sides (inr o) = absurd (cc ((w.left_out c o).0, z.pending))

        after_join : Goes c ⊎ (v ≡ nil) → Fit q (suc (forks_before_node t c)) (s.joined (Fold s t w (s.right (w.before c)) (inside w.stop t k r nil)) (Fold s t w (s.left (w.before c)) (inside w.stop t k l nil))) v
        after_join (inr n) = nothing_fits q (suc (forks_before_node t c)) (s.joined (Fold s t w (s.right (w.before c)) (inside w.stop t k r nil)) (Fold s t w (s.left (w.before c)) (inside w.stop t k l nil))) v n
        after_join (inl o) =
            let Q : A → Type 0 = λ a. Fit q (suc (forks_before_node t c)) a v in
            subst Q (sym (joined_state s t w k c l r y (at_sides o))) (rest_fits q c (suc (forks_before_node t c)) v b (inr (sym (one_more t w.tree c g.there z))))

        ends_both : Goes c ⊎ (v ≡ nil) → More v → IsOver s t w (s.left (w.before c)) (inside w.stop t k l nil) × IsOver s t w (s.right (w.before c)) (inside w.stop t k r nil)
        ends_both (inr n) m = absurd (let Q : Work Act → Type 0 = λ x. More x in subst Q n m)
        ends_both (inl o) m = both_over s t w k c l r y (at_sides o)

  fit_node : (k c : ℕ) → NodeFits k c
  fit_node zero c q h g v b = absurd (omega (arith, g.levels, g.there))
  fit_node (suc k) c q h g v b = fit_view k c (fit_node k) (view s t w k c g.there) q h g v b

  -- the work of the root strand fits
  pub whole_fits : Fit [] 0 s.start (whole w.stop t)
  whole_fits =
      let P : A → Type 0 = λ a. Fit [] 0 a (whole w.stop t) in
      subst P w.follows.start (strand_fits (length t) 0 (fit_node (length t)) w.tree.some (omega arith) w.tree.root [] (sym (ap (name_of t) (strand_of_root t))))

  -- where the root strand has ended it comes to its end
  pub whole_over : Ended s t w 0 → IsOver s t w s.start (whole w.stop t)
  whole_over e = let P : A → Type 0 = λ a. IsOver s t w a (whole w.stop t) in subst P w.follows.start (ended_over s t w (length t) 0 w.tree.some (omega arith) w.tree.root e)
