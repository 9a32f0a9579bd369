-- Each act around which all is kept stands in the work of the root strand.
use Rattle.std.proofs.Common.{◌≡◌, ℕ, zero, suc, ◌+◌, ◌<◌, ◌≤◌, List, length, refl, sym, arith, true, false, cond, inl, inr, subst, ap}
use Rattle.cw_strand.specs.Strands.{Strands}
use Rattle.cw_tree.specs.declared.node.Node.{Node}
use Rattle.cw_tree.specs.Nodes.{is_strand, is_pending}
use Rattle.cw_tree.specs.Walks.{is_ancestor}
use Rattle.cw_tree.specs.Series.{children}
use Rattle.cw_tree.proofs.Walks.Ancestors.{ancestor_self}
use Rattle.cw_tree.proofs.NodeKinds.{block_no_strand}
use Rattle.cw_tree.proofs.InOrder.DepthFirst.{child_is}
use Rattle.cw_record.specs.declared.items.OrderItem.TheVariants.{Begins, Does, Ends}
use Rattle.cw_replay.proofs.RecordsReplay.Work.Work.{Work, nil, act, Has}
use Rattle.cw_replay.proofs.RecordsReplay.Machine.Acts.{Act, item, stop, place}
use Rattle.cw_replay.proofs.RecordsReplay.Tasks.Sorts.{act_sort, committed_sort, pending_sort}
use Rattle.cw_replay.proofs.RecordsReplay.Tasks.Accounts.{Account}
use Rattle.cw_replay.proofs.RecordsReplay.Tasks.Tasks.{stopping, work, inside, whole, rolled_back, refused, left_out, View, strand, acts, skipped, opens, block, fork, view}
use Rattle.cw_replay.proofs.RecordsReplay.Tasks.Places.{Kept, IsOf}
use Rattle.cw_replay.proofs.RecordsReplay.Tasks.Single.{keep, works_keep, inside_keeps, in_whole}

module _ {A : Type 0} (s : Strands A) (t : List Node) (w : Account s t) where
  begin_here : (k c : ℕ) → View s t w k c → IsOf s t w (item (Begins c)) → Kept s t w c → (v : Work Act) → Has (item (Begins c)) (work w.stop t (suc k) c v)
  begin_here k c (opens z u e x) o a v = let P : Work Act → Type 0 = λ v. Has (item (Begins c)) v in subst P (sym (e v)) (inl refl)
  begin_here k c (block z e x u y) o a v = let P : Work Act → Type 0 = λ v. Has (item (Begins c)) v in subst P (sym (e v)) (inl refl)
  begin_here k c (skipped (rolled_back z) e y) o a v = absurd (cc (a.0, z.aborted))
  begin_here k c (skipped (left_out z x) e y) o a v = absurd (cc (a.1, x))
  begin_here k c (skipped (refused z) e y) o a v = absurd (cc (o, z.block))
  begin_here k c (strand z e) o a v = absurd (cc (o, z.block))
  begin_here k c (acts z e x y) o a v = absurd (cc (o, z.block))
  begin_here k c (fork z l r y e) o a v = absurd (cc (o, z.block))

  act_here : (k c : ℕ) → View s t w k c → IsOf s t w (item (Does c)) → (v : Work Act) → Has (item (Does c)) (work w.stop t (suc k) c v)
  act_here k c (acts z e x y) o v = let P : Work Act → Type 0 = λ v. Has (item (Does c)) v in subst P (sym (e v)) (inl refl)
  act_here k c (opens z u e x) o v = absurd (cc (o, z.act))
  act_here k c (block z e x u y) o v = absurd (cc (o, z.act))
  act_here k c (skipped (rolled_back z) e y) o v = absurd (cc (o, z.act))
  act_here k c (skipped (left_out z x) e y) o v = absurd (cc (o, z.act))
  act_here k c (skipped (refused z) e y) o v = absurd (cc (o, z.act))
  act_here k c (strand z e) o v = absurd (cc (o, z.act))
  act_here k c (fork z l r y e) o v = absurd (cc (o, z.act))

  end_here : (k c : ℕ) → View s t w k c → IsOf s t w (item (Ends c)) → (v : Work Act) → Has (item (Ends c)) (work w.stop t (suc k) c v)
  end_here k c (block z e x u y) o v =
      let P : Work Act → Type 0 = λ v. Has (item (Ends c)) v in
      subst P (sym (e v)) (inr (inside_keeps s t w (item (Ends c)) k c (keep s t w (item (Ends c)) k) (act (item (Ends c)) v) (inl refl)))
  end_here k c (opens z u e x) o v = absurd (cc (o, z.committed))
  end_here k c (acts z e x y) o v = absurd (cc (o, z.committed))
  end_here k c (skipped (rolled_back z) e y) o v = absurd (cc (o, z.committed))
  end_here k c (skipped (left_out z x) e y) o v = absurd (cc (o, z.committed))
  end_here k c (skipped (refused z) e y) o v = absurd (cc (o, z.committed))
  end_here k c (strand z e) o v = absurd (cc (o, z.committed))
  end_here k c (fork z l r y e) o v = absurd (cc (o, z.committed))

  stop_inside : (k c : ℕ) → w.stop.at c ≡ true → (v : Work Act) → Has (stop c) (inside w.stop t k c v)
  stop_inside k c e v =
      let P : Work Act → Type 0 = λ x. Has (stop c) x in
      works_keep s t w (stop c) k (keep s t w (stop c) k) (children t c) (λ d m. (child_is t c d m).there) (stopping w.stop c v) (subst P (sym (ap (λ b. cond b (act (stop c) v) v) e)) (inl refl))

  stop_here : (k c : ℕ) → View s t w k c → w.stop.at c ≡ true → is_strand t c ≡ false → Kept s t w c → (v : Work Act) → Has (stop c) (work w.stop t (suc k) c v)
  stop_here k c x e n a v = elim (w.stops c e).kind [ inl y ↦ absurd (cc (n, y)) | inr y ↦ by x (pending_sort t c y).pending ] where
    by : View s t w k c → is_pending t c ≡ true → Has (stop c) (work w.stop t (suc k) c v)
    by (opens z u f x) p = let P : Work Act → Type 0 = λ v. Has (stop c) v in subst P (sym (f v)) (inr (stop_inside k c e v))
    by (block z f x u y) p = absurd (cc (p, z.pending))
    by (acts z f x y) p = absurd (cc (p, z.pending))
    by (skipped (rolled_back z) f y) p = absurd (cc (p, z.pending))
    by (skipped (left_out z x) f y) p = absurd (cc (a.1, x))
    by (skipped (refused z) f y) p = absurd (cc (p, z.pending))
    by (strand z f) p = absurd (cc (p, z.pending))
    by (fork z l r y f) p = absurd (cc (p, z.pending))

  -- an act in the work of its own node, which is no strand
  here : (i : Act) → place i < length t → IsOf s t w i → is_strand t (place i) ≡ false → Kept s t w (place i) → (k : ℕ) → length t ≤ k + place i → (v : Work Act) → Has i (work w.stop t k (place i) v)
  here i h o n a zero le v = absurd (omega (arith, le, h))
  here (item (Begins c)) h o n a (suc k) le v = begin_here k c (view s t w k c h) o a v
  here (item (Does c)) h o n a (suc k) le v = act_here k c (view s t w k c h) o v
  here (item (Ends c)) h o n a (suc k) le v = end_here k c (view s t w k c h) o v
  here (stop c) h o n a (suc k) le v = stop_here k c (view s t w k c h) o n a v

  in_strand : (i : Act) → IsOf s t w i → is_strand t (place i) ≡ true → (k : ℕ) → Has i (inside w.stop t k (place i) nil)
  in_strand (item (Begins c)) o e k = absurd (cc (e, block_no_strand t c o))
  in_strand (item (Does c)) o e k = absurd (cc (e, (act_sort t c o).strand))
  in_strand (item (Ends c)) o e k = absurd (cc (e, (committed_sort t c o).strand))
  in_strand (stop c) o e k = stop_inside k c o nil

  pub whole_in : (i : Act) → place i < length t → IsOf s t w i → ((a : ℕ) → is_ancestor t a (place i) ≡ true → Kept s t w a) → Has i (whole w.stop t)
  whole_in i h o a = in_whole s t w i (place i) h (record { of_strand = λ e k le. in_strand i o e k; of_other = λ e k le v. here i h o e (a (place i) (ancestor_self t (place i))) k le v }) a
