-- Right strands that never started are numbered behind all other nodes, those of the innermost forks first; so numbers stay depth first.
use Rattle.std.proofs.Common.{◌≡◌, ℕ, zero, suc, ◌<◌, ◌≤◌, List, [], ◌∷◌, length, map, refl, ap, sym, ◌∙◌, subst, arith, true, inl, inr, nat_eq, append-nil}
use Rattle.std.proofs.lemmas.Bool.{or_right}
use Rattle.cw_tree.specs.declared.node.Node.{Node}
use Rattle.cw_tree.specs.declared.node.Kind.TheVariants.{Strand}
use Rattle.cw_tree.specs.Nodes.{parent_of, is_strand, fresh_node}
use Rattle.cw_tree.specs.Walks.{IsRooted, is_ancestor}
use Rattle.cw_tree.proofs.Lists.{at_or_before}
use Rattle.cw_tree.proofs.Walks.Ancestors.{ancestor_self, ancestor_up, ancestor_le, ancestor_trans}
use Rattle.cw_tree.proofs.NextNodes.Growing.{length_more, number_grown, number_new, rooted_more, ancestor_grown, ancestor_new}
use Rattle.cw_tree.proofs.NodeKinds.{block_some, fork_some}
use Rattle.cw_job.specs.Room.Strands.{StrandState}
use Rattle.cw_serial.proofs.Branches.{Branch, on_left, on_right}
use Rattle.cw_record.specs.declared.worker.Branch.{Branch as Held}
use Rattle.cw_record.specs.declared.worker.Branch.TheVariants.{Left, Right}
use Rattle.cw_record.specs.Drawn.{added}
use Rattle.cw_record.specs.Records.{IsNumberedDepthFirst}
use Rattle.cw_record.specs.OneWorker.{unstarted}
use Rattle.cw_record.proofs.OneWorker.Building.{IsBuilt}
use Rattle.cw_record.proofs.OneWorker.Descending.{Crossing, Descends}
use Rattle.cw_record.proofs.OneWorker.Running.{HoldsBranches, crossings}
use Rattle.cw_record.proofs.OneWorker.Unstarted.{with_strands}
use Rattle.cw_record.proofs.OneWorker.Waiting.{one_unstarted}

-- the first of these nodes is above p or p itself, and each other one so to the one before it
abbrev pub Over : List Node → ℕ → List ℕ → Type 0
Over t p [] = Unit {0}
Over t p (f ∷ fs) = (is_ancestor t f p ≡ true) × Over t f fs

module _ (t : List Node) (r : IsRooted t) where
  -- what is over a node is over all beneath it
  pub over_lower : (q p : ℕ) (fs : List ℕ) → p < length t → is_ancestor t q p ≡ true → Over t q fs → Over t p fs
  over_lower q p [] h e o = tt
  over_lower q p (f ∷ fs) h e o = (ancestor_trans t r f q p h o.0 e, o.1)

  -- ## The forks on the way

  module _ (root : is_strand t 0 ≡ true) where
    up_over : (n : ℕ) → 0 < n → n < length t → is_ancestor t (parent_of t n) n ≡ true
    up_over n some h = ancestor_up t r (parent_of t n) n some h (ancestor_self t (parent_of t n))

    crossed_over : (p : ℕ) (c : List Crossing) (b k : ℕ) → p < length t → Descends t p c b k → Over t p (map (λ x. x.node) c)
    crossed_over p c (suc b) k h d =
        let some : 0 < p = block_some t root p d.0 in
        let low : parent_of t p < p = r p some h in
        over_lower (parent_of t p) p (map (λ x. x.node) c) h (up_over p some h) (crossed_over (parent_of t p) c b k (omega arith) d.1)
    crossed_over p [] zero k h d = tt
    crossed_over p (x ∷ c) zero k h d =
        let low : parent_of t p < p = r p d.0 h in
        let there : x.node < length t = let up : parent_of t p ≡ x.node = d.2 in omega arith in
        let some : 0 < x.node = fork_some t root x.node d.3 in
        let outer : parent_of t x.node < x.node = r x.node some there in
        let P : ℕ → Type 0 = λ n. is_ancestor t n p ≡ true in (
          subst P d.2 (up_over p d.0 h),
          over_lower (parent_of t x.node) x.node (map (λ y. y.node) c) there (up_over x.node some there) (crossed_over (parent_of t x.node) c x.blocks x.turn.fork (omega arith) d.7),
        )

  -- also those whose right strands are still to come
  unstarted_over : (xs : List Held) (c : List (Branch StrandState)) (p : ℕ) → HoldsBranches xs c → p < length t → Over t p (map (λ x. x.node) (crossings xs c)) → Over t p (unstarted xs)
  unstarted_over [] [] p h l o = tt
  unstarted_over (Left f right ∷ xs) (on_left k b s ∷ c) p h l o =
      let le : f ≤ p = ancestor_le t r f p l o.0 in
      (o.0, unstarted_over xs c f h.1 (omega arith) o.1)
  unstarted_over (Right f left ∷ xs) (on_right k b m s ∷ c) p h l o =
      let le : f ≤ p = ancestor_le t r f p l o.0 in
      over_lower f p (unstarted xs) l o.0 (unstarted_over xs c f h.1 (omega arith) o.1)
  unstarted_over _ _ p h l o = absurd h

  pub waiting_over : is_strand t 0 ≡ true → (xs : List Held) (branches : List (Branch StrandState)) → HoldsBranches xs branches → (p b k : ℕ) → p < length t → Descends t p (crossings xs branches) b k → Over t p (unstarted xs)
  waiting_over root xs branches h p b k l d = unstarted_over xs branches p h l (crossed_over root p (crossings xs branches) b k l d)

-- ## The strands behind

module _ (t : List Node) (r : IsRooted t) (f : ℕ) (there : f < length t) where
  abbrev x : Node
  x = fresh_node f Strand 0

  abbrev u : List Node
  u = added t f Strand 0

  over_more : (p : ℕ) (fs : List ℕ) → p < length t → Over t p fs → Over u p fs
  over_more p [] h o = tt
  over_more p (g ∷ fs) h o =
      let le : g ≤ p = ancestor_le t r g p h o.0 in
      (ancestor_grown t (x ∷ []) r g p h ∙ o.0, over_more g fs (omega arith) o.1)

  over_new : is_ancestor u f (length t) ≡ true
  over_new = ancestor_new t x r there f ∙ or_right (nat_eq (length t) f) (is_ancestor t f f) (ancestor_self t f)

  numbered_more : (last : ℕ) → suc last ≡ length t → is_ancestor t f last ≡ true → IsNumberedDepthFirst t → IsNumberedDepthFirst u
  numbered_more last long over old m h =
      elim (at_or_before (suc m) (length t) (omega (arith, length_more t x))) [
        | inl l ↦ ap (λ k. is_ancestor u k m) (number_grown t (x ∷ []) (λ y. y.parent) (suc m) l) ∙ (ancestor_grown t (x ∷ []) r (parent_of t (suc m)) m (omega arith) ∙ old m l)
        | inr e ↦ (
            let same : m ≡ last = omega arith in
            ap (λ k. is_ancestor u (parent_of u k) m) (sym e)
            ∙ (ap (λ k. is_ancestor u k m) (number_new t x (λ y. y.parent)) ∙ (ancestor_grown t (x ∷ []) r f m (omega arith) ∙ (ap (is_ancestor t f) same ∙ over))))
      ]

-- forks over the last node, the innermost first, may each have one more strand
pub numbered_behind : (t : List Node) → IsRooted t → (last : ℕ) → suc last ≡ length t → (fs : List ℕ) → Over t last fs → IsNumberedDepthFirst t → IsNumberedDepthFirst (with_strands t fs)
numbered_behind t r last long [] o old = subst IsNumberedDepthFirst (sym (append-nil t)) old
numbered_behind t r last long (f ∷ fs) o old =
    let le : f ≤ last = ancestor_le t r f last (omega arith) o.0 in
    let there : f < length t = omega arith in
    let x = fresh_node f Strand 0 in
    let u = added t f Strand 0 in
    let more = rooted_more t x r there in
    let next = over_lower u more f (length t) fs (omega (arith, length_more t x)) (over_new t r f there) (over_more t r f there f fs there o.1) in
    subst IsNumberedDepthFirst (one_unstarted t f fs)
    (numbered_behind u more (length t) (sym (length_more t x)) fs next (numbered_more t r f there last long o.0 old))

over_last : (t : List Node) (p clock : ℕ) → IsBuilt t p clock → (last : ℕ) → suc last ≡ length t → (fs : List ℕ) → Over t p fs → Over t last fs
over_last t p clock b last long [] o = tt
over_last t p clock b last long (f ∷ fs) o =
    let there = b.there in
    let le : f ≤ p = ancestor_le t b.rooted f p there o.0 in
    (b.last f last o.0 (omega arith) (omega arith), o.1)

one_less : (n : ℕ) → 0 < n → (m : ℕ) × (suc m ≡ n)
one_less zero h = absurd (omega arith)
one_less (suc m) h = (m, refl)

-- in a tree that one worker builds, where the run comes to a fault
pub numbered_at_fault : (t : List Node) (p clock : ℕ) → IsBuilt t p clock → (fs : List ℕ) → Over t p fs → IsNumberedDepthFirst (with_strands t fs)
numbered_at_fault t p clock b fs o =
    let (last, long) = one_less (length t) (let there = b.there in omega arith) in
    numbered_behind t b.rooted last long fs (over_last t p clock b last long fs o) b.numbered
