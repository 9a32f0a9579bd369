-- What each step keeps of the tree: it is sound, its open nodes are nested, and no stamp is above the clock.
use Rattle.std.proofs.Common.{◌≡◌, ◌≢◌, ℕ, suc, ◌<◌, ◌≤◌, List, [], ◌∷◌, ◌++◌, length, refl, ap, sym, ◌∙◌, subst, arith, true, false, inl, inr, max}
use Rattle.std.specs.Prelude.{◌&&◌, ◌||◌, not}
use Rattle.std.proofs.lemmas.Bool.{and_from, and_left, or_from, or_right, cases_eq, false_from_ne_true}
use Rattle.cw_tree.specs.declared.node.Node.{Node}
use Rattle.cw_tree.specs.declared.node.Kind.{Kind}
use Rattle.cw_tree.specs.declared.node.Kind.TheVariants.{Strand, Fork, Tried}
use Rattle.cw_tree.specs.declared.node.BlockState.{BlockState}
use Rattle.cw_tree.specs.Nodes.{passes, is_strand_kind, is_fork_kind, is_block_kind, is_tried_kind, is_pending_state, stamp_of, end_of, is_strand, is_fork, is_pending, fresh_node, closed}
use Rattle.cw_tree.specs.Walks.{has}
use Rattle.cw_tree.specs.Series.{place}
use Rattle.cw_tree.specs.NextNodes.{IsPlace, IsSound, IsNextStamp, IsEndStamp, fork_nodes}
use Rattle.cw_tree.proofs.NextNodes.Growing.{get_append, length_more, node_grown, node_new, number_grown, number_new}
use Rattle.cw_tree.proofs.NextNodes.Closing.{length_closed, node_closed, number_closed, number_closed_other, end_closed}
use Rattle.cw_tree.proofs.NextNodes.Trees.{each_more, in_turn, hung_one, hung_two}
use Rattle.cw_tree.proofs.NextNodes.Pending.{sound_grows, sound_refuses, sound_forks, sound_closes, pending_closed, pending_stays}
use Rattle.cw_tree.proofs.NodeKinds.{strand_no_block, fork_no_block, pending_block}
use Rattle.cw_open.specs.Machine.{OpenMachine, has_finished, is_running}
use Rattle.cw_open.specs.Steps.{adds, closes}
use Rattle.cw_open.specs.Open.{is_open, AreNested}
use Rattle.cw_open.proofs.Open.Standing.{is_place, place_open, none_open}
use Rattle.cw_open.proofs.Open.Nesting.{nested_more, nested_shut}

pub record IsWell (m : OpenMachine) : Type 0 where
  pub sound : IsSound m.tree
  pub nested : AreNested m.tree (is_open m)
  -- what finished, and what was joined, is there
  pub finished : (s : ℕ) → has_finished m s ≡ true → s < length m.tree
  pub joined : (f : ℕ) → has m.joined f ≡ true → f < length m.tree
  pub clock : (n : ℕ) → n < length m.tree → (stamp_of m.tree n ≤ m.clock) × (end_of m.tree n ≤ m.clock)

-- the tests of a node that tell whether it is open
pub open_more : (m : OpenMachine) (xs : List Node) (n : ℕ) → n < length m.tree → is_open (record m { tree = m.tree ++ xs }) n ≡ is_open m n
open_more m xs n h =
    ap
    (λ o. (passes (λ y. is_strand_kind y.kind) o && not (has_finished m n)) || (passes (λ y. is_fork_kind y.kind) o && not (has m.joined n)) || passes (λ y. is_block_kind y.kind && is_pending_state y.state) o)
    (get_append m.tree xs n h)

module _ (m : OpenMachine) (w : IsWell m) (s : ℕ) (running : is_running m s ≡ true) where
  abbrev t : List Node
  t = m.tree

  abbrev p : ℕ
  p = place t s

  pub stands_well : IsPlace t p
  stands_well = is_place m w.sound.tree w.nested s running

  -- ## A node at the place of a running strand

  module _ (x : Node) (up : x.parent ≡ p) where
    there : x.parent < length t
    there = let h = stands_well.there in omega (arith, up)

    nested_leaf : AreNested (t ++ x ∷ []) (is_open (record m { tree = t ++ x ∷ [] }))
    nested_leaf =
        nested_more t w.sound.tree.rooted (is_open m) w.nested x there (ap (is_open m) up ∙ place_open m w.sound.tree w.nested s running)
        (λ f c some h e. none_open m w.sound.tree w.nested s running c some h (e ∙ up)) (is_open (record m { tree = t ++ x ∷ [] })) (open_more m (x ∷ []))

    clock_leaf : (stamp : ℕ) → x.stamp ≤ stamp → x.end ≡ 0 → (n : ℕ) → n < length (t ++ x ∷ []) → (stamp_of (t ++ x ∷ []) n ≤ max m.clock stamp) × (end_of (t ++ x ∷ []) n ≤ max m.clock stamp)
    clock_leaf stamp le none =
        each_more t x (λ n. (stamp_of (t ++ x ∷ []) n ≤ max m.clock stamp) × (end_of (t ++ x ∷ []) n ≤ max m.clock stamp))
        (λ n h. let z = w.clock n h in (omega (arith, z.0, number_grown t (x ∷ []) (λ y. y.stamp) n h), omega (arith, z.1, number_grown t (x ∷ []) (λ y. y.end) n h)))
        (omega (arith, number_new t x (λ y. y.stamp)), omega (arith, number_new t x (λ y. y.end)))

    leaf : (stamp : ℕ) → x.stamp ≤ stamp → x.end ≡ 0 → IsSound (t ++ x ∷ []) → IsWell (adds m (x ∷ []) stamp)
    leaf stamp le none sound = record {
      sound = sound;
      nested = nested_leaf;
      finished = λ s e. (let h = w.finished s e in omega (arith, length_more t x));
      joined = λ f e. (let h = w.joined f e in omega (arith, length_more t x));
      clock = clock_leaf stamp le none;
    }

  pub well_grows : (kind : Kind) (stamp : ℕ) → is_strand_kind kind ≡ false → is_fork_kind kind ≡ false → is_tried_kind kind ≡ false → IsNextStamp t p stamp → IsWell (adds m (fresh_node p kind stamp ∷ []) stamp)
  well_grows kind stamp a b c next = leaf (fresh_node p kind stamp) refl stamp (omega arith) refl (sound_grows t p kind stamp w.sound stands_well a b c next)

  pub well_refuses : (c : ℕ) → IsWell (adds m (fresh_node p (Tried c) 0 ∷ []) 0)
  well_refuses c = leaf (fresh_node p (Tried c) 0) refl 0 (omega arith) refl (sound_refuses t p (Tried c) w.sound stands_well refl)

  -- ## A fork there

  module _ (stamp : ℕ) where
    abbrev n : ℕ
    n = length t

    abbrev a : Node
    a = fresh_node p Fork stamp

    abbrev b : Node
    b = fresh_node n Strand 0

    abbrev one : List Node
    one = t ++ a ∷ []

    abbrev two : List Node
    two = one ++ b ∷ []

    abbrev m_one : OpenMachine
    m_one = record m { tree = one }

    abbrev m_two : OpenMachine
    m_two = record m { tree = two }

    abbrev m_three : OpenMachine
    m_three = record m { tree = two ++ b ∷ [] }

    new_fork : is_fork one n ≡ true
    new_fork = node_new t a (λ y. is_fork_kind y.kind)

    fork_open : is_open m_one n ≡ true
    fork_open =
        let unjoined : has m.joined n ≡ false = false_from_ne_true (has m.joined n) (λ e. let h = w.joined n e in omega arith) in
        Rattle.std.proofs.lemmas.Bool.or_left ((is_strand one n && not (has_finished m n)) || (is_fork one n && not (has m.joined n))) (is_pending one n)
        (or_right (is_strand one n && not (has_finished m n)) (is_fork one n && not (has m.joined n)) (and_from (is_fork one n) (not (has m.joined n)) new_fork (Rattle.std.proofs.lemmas.Bool.not_from_false (has m.joined n) unjoined)))

    len_one : length one ≡ suc n
    len_one = length_more t a

    len_two : length two ≡ suc (suc n)
    len_two = length_more one b ∙ ap suc len_one

    nested_two : AreNested two (is_open m_two)
    nested_two =
        nested_more one (hung_one t p stamp w.sound.tree stands_well.there stands_well.holds).rooted (is_open m_one) (nested_leaf a refl) b (omega (arith, len_one)) fork_open (λ f. absurd (cc (f, new_fork))) (is_open m_two)
        (open_more m_one (b ∷ []))

    nested_three : AreNested (two ++ b ∷ []) (is_open m_three)
    nested_three =
        nested_more two (hung_two t p stamp w.sound.tree stands_well.there stands_well.holds).rooted (is_open m_two) nested_two b (omega (arith, len_two)) (open_more m_one (b ∷ []) n (omega (arith, len_one)) ∙ fork_open)
        (λ f. absurd (cc (f, node_grown one (b ∷ []) (λ y. is_fork_kind y.kind) n (omega (arith, len_one)), new_fork))) (is_open m_three) (open_more m_two (b ∷ []))

    abbrev Low : List Node → Type 0
    Low u = (n : ℕ) → n < length u → (stamp_of u n ≤ max m.clock stamp) × (end_of u n ≤ max m.clock stamp)

    low_strand : (u : List Node) → Low u → Low (u ++ b ∷ [])
    low_strand u old =
        each_more u b (λ n. (stamp_of (u ++ b ∷ []) n ≤ max m.clock stamp) × (end_of (u ++ b ∷ []) n ≤ max m.clock stamp))
        (λ n h. let z = old n h in (omega (arith, z.0, number_grown u (b ∷ []) (λ y. y.stamp) n h), omega (arith, z.1, number_grown u (b ∷ []) (λ y. y.end) n h)))
        (omega (arith, number_new u b (λ y. y.stamp)), omega (arith, number_new u b (λ y. y.end)))

    pub well_forks : IsNextStamp t p stamp → IsWell (adds m (fork_nodes n p stamp) stamp)
    well_forks next =
        let turn : t ++ fork_nodes n p stamp ≡ two ++ b ∷ [] = in_turn t p stamp w.sound.tree stands_well.there stands_well.holds in
        let len : length (t ++ fork_nodes n p stamp) ≡ suc (suc (suc n)) = ap length turn ∙ length_more two b ∙ ap suc len_two in
        let P : List Node → Type 0 = λ u. AreNested u (is_open (record m { tree = u })) in
        record {
          sound = sound_forks t p stamp w.sound stands_well next;
          nested = subst P (sym turn) nested_three;
          finished = λ s e. (let h = w.finished s e in omega (arith, len));
          joined = λ f e. (let h = w.joined f e in omega (arith, len));
          clock = subst Low (sym turn) (low_strand two (low_strand one (clock_leaf a refl stamp (omega arith) refl)));
        }

  -- ## The block there is closed

  module _ (state : BlockState) (end : ℕ) (done : is_pending_state state ≡ false) (pending : is_pending t p ≡ true) where
    abbrev v : List Node
    v = closed t p state end

    pub open_closed : (n : ℕ) → n ≢ p → is_open (record m { tree = v }) n ≡ is_open m n
    open_closed n ne =
        ap (λ q. (q && not (has_finished m n)) || (is_fork v n && not (has m.joined n)) || is_pending v n) (node_closed t p state end (λ y. is_strand_kind y.kind) (λ y. refl) n)
        ∙ ap (λ q. (is_strand t n && not (has_finished m n)) || (q && not (has m.joined n)) || is_pending v n) (node_closed t p state end (λ y. is_fork_kind y.kind) (λ y. refl) n)
        ∙ ap (λ q. (is_strand t n && not (has_finished m n)) || (is_fork t n && not (has m.joined n)) || q) (pending_stays t p state end n ne)

    pub shut : is_open (record m { tree = v }) p ≡ false
    shut =
        let block = pending_block t p pending in
        or_from ((is_strand v p && not (has_finished m p)) || (is_fork v p && not (has m.joined p))) (is_pending v p)
        (or_from (is_strand v p && not (has_finished m p)) (is_fork v p && not (has m.joined p))
        (and_left (is_strand v p) (not (has_finished m p)) (node_closed t p state end (λ y. is_strand_kind y.kind) (λ y. refl) p ∙ false_from_ne_true (is_strand t p) (λ e. absurd (cc (block, strand_no_block t p e)))))
        (and_left (is_fork v p) (not (has m.joined p)) (node_closed t p state end (λ y. is_fork_kind y.kind) (λ y. refl) p ∙ false_from_ne_true (is_fork t p) (λ e. absurd (cc (block, fork_no_block t p e))))))
        (false_from_ne_true (is_pending v p) (λ e. (pending_closed t p state end done p e).0 refl))

    end_low : (n : ℕ) → n < length t → end_of v n ≤ max m.clock end
    end_low n h =
        elim (cases_eq n p) [
          | inl q ↦ omega (arith, ap (end_of v) q, end_closed t p state end stands_well.there)
          | inr ne ↦ (let z = w.clock n h in omega (arith, z.1, number_closed_other t p state end (λ y. y.end) n ne))
        ]

    pub well_closes : IsEndStamp t p end → IsWell (closes m s state end)
    well_closes next =
        let len = length_closed t p state end in
        record {
          sound = sound_closes t p state end w.sound stands_well (pending_block t p pending) done next;
          nested = nested_shut t v (is_open m) (is_open (record m { tree = v })) p w.nested len (λ n. number_closed t p state end (λ y. y.parent) (λ y. refl) n) (λ n. node_closed t p state end (λ y. is_fork_kind y.kind) (λ y. refl) n)
              open_closed shut (none_open m w.sound.tree w.nested s running);
          finished = λ s e. (let h = w.finished s e in omega arith);
          joined = λ f e. (let h = w.joined f e in omega arith);
          clock = λ n h. (let z = w.clock n (omega arith) in (omega (arith, z.0, number_closed t p state end (λ y. y.stamp) (λ y. refl) n), end_low n (omega arith)));
        }
