-- A step leaves what is around an open node, if the node's own strand does not make the step.
use Rattle.std.proofs.Common.{◌≡◌, ◌≢◌, ℕ, ◌<◌, ◌≤◌, List, [], ◌∷◌, length, map, refl, ap, sym, ◌∙◌, subst, arith, Bool, true, false, cond, Some, None, inl, inr, nat_eq, nat_lt, ◌+◌}
use Rattle.std.specs.Prelude.{◌&&◌, ◌||◌, not, ℤ, filter, slice_get}
use Rattle.std.specs.List.{suffix_len}
use Rattle.std.specs.Option.{option_or}
use Rattle.std.proofs.lemmas.Bool.{and_parts, or_cases, and_right, cases_eq, cases_Bool, eqb-true, false_from_ne_true}
use Rattle.cw_tree.specs.declared.node.Node.{Node}
use Rattle.cw_tree.specs.Nodes.{passes, is_strand_kind, is_fork_kind, is_block_kind, is_pending_state, is_aborted_state, parent_of, stamp_of, is_strand, is_fork, is_block, is_pending, is_aborted, all_nodes}
use Rattle.cw_tree.specs.Walks.{IsRooted, has, path, is_ancestor, is_above, outermost, may_fall}
use Rattle.cw_tree.specs.Series.{strand_of, children, place}
use Rattle.cw_tree.specs.Attempts.{elders, block_attempt}
use Rattle.cw_tree.specs.VictimsAt.{victim_at}
use Rattle.cw_tree.proofs.Lists.{In}
use Rattle.cw_tree.proofs.Members.{in_filter, filter_same, map_same, suffix_same, below_none, in_below}
use Rattle.cw_tree.proofs.InOrder.DepthFirst.{child_is}
use Rattle.cw_tree.proofs.Walks.Kin.{has_in, in_ancestor}
use Rattle.cw_tree.proofs.Walks.Ancestors.{ancestor_self, ancestor_le, ancestor_trans, ancestor_up}
use Rattle.cw_tree.proofs.Walks.Strands.{strand_over, strand_of_other}
use Rattle.cw_tree.proofs.Walks.There.{node_there}
use Rattle.cw_tree.proofs.NodeKinds.{strand_no_block, pending_block}
use Rattle.cw_tree.proofs.NextNodes.Kept.{path_kept}
use Rattle.cw_open.specs.Machine.{OpenMachine, has_finished, is_running}
use Rattle.cw_open.specs.Steps.{Step, after_open_step}
use Rattle.cw_open.specs.Runs.{Rules, Allowed, at_any_time}
use Rattle.cw_open.specs.Open.{is_open}
use Rattle.cw_open.specs.Hands.{is_step_of}
use Rattle.cw_open.specs.Around.{blocks_at, IsKeptAt, OpenStay, AroundStays}
use Rattle.cw_open.proofs.Open.Trees.{IsWell}
use Rattle.cw_open.proofs.Open.Standing.{stands, place_open, open_over}
use Rattle.cw_open.proofs.Open.Staying.{keeps, above_stays}
use Rattle.cw_open.proofs.Refused.Victims.{IsToldState, told_states}
use Rattle.cw_open.proofs.Hands.Beside.{beside}
use Rattle.cw_open.proofs.Hands.Alone.{place_stays}
use Rattle.cw_open.proofs.Hands.Moves.{HasMoved, moved, runs_or_same, outside}

outermost_same : (f g : ℕ → Bool) (ns : List ℕ) → ((n : ℕ) → In n ns → f n ≡ g n) → outermost f ns ≡ outermost g ns
outermost_same f g [] h = refl
outermost_same f g (n ∷ ns) h = ap (λ o. option_or o (cond (f n) (Some n) None)) (outermost_same f g ns (λ m i. h m (inr i))) ∙ ap (λ q. option_or (outermost g ns) (cond q (Some n) None)) (h n (inl refl))

pub open_there : (m : OpenMachine) (q : ℕ) → is_open m q ≡ true → q < length m.tree
open_there m q e =
    elim (or_cases (is_strand m.tree q && not (has_finished m q) || is_fork m.tree q && not (has m.joined q)) (is_pending m.tree q) e) [
      | inr z ↦ node_there (λ y. is_block_kind y.kind && is_pending_state y.state) m.tree q z
      | inl z ↦ elim (or_cases (is_strand m.tree q && not (has_finished m q)) (is_fork m.tree q && not (has m.joined q)) z) [
        | inl y ↦ node_there (λ y. is_strand_kind y.kind) m.tree q (and_parts (is_strand m.tree q) (not (has_finished m q)) y).0
        | inr y ↦ node_there (λ y. is_fork_kind y.kind) m.tree q (and_parts (is_fork m.tree q) (not (has m.joined q)) y).0
      ]
    ]

module _ (rules : Rules) (first : List ℤ) (m : OpenMachine) (w : IsToldState first m) (e : Step) (a : Allowed rules m e)
    (p : ℕ) (opened : is_open m p ≡ true) (o : is_step_of (strand_of m.tree p) e ≡ false) where
  abbrev t : List Node
  t = m.tree

  abbrev u : List Node
  u = (after_open_step m e).tree

  well : IsWell m
  well = w.state.well

  r : IsRooted t
  r = well.sound.tree.rooted

  low : p < length t
  low = open_there m p opened

  b : HasMoved m u (strand_of t p)
  b = moved m well (strand_of t p) rules e o a

  -- a node over it is not in the strand that steps
  not_in : (x : ℕ) → is_running m x ≡ true → x ≢ strand_of t p → (q : ℕ) → q < length t → is_ancestor t q p ≡ true → strand_of t q ≢ x
  not_in x running other q h up e =
      let P : ℕ → Type 0 = λ y. is_ancestor t y p ≡ true in
      let over : is_ancestor t x p ≡ true = subst P e (ancestor_trans t r (strand_of t q) q p low (strand_over t r q h) up) in
      cc (over, outside first m w x running p low opened (λ same. other (sym same)))

  at_place : (x : ℕ) → is_running m x ≡ true → strand_of t (place t x) ≡ x
  at_place x running = (stands m well.sound.tree well.nested x running).strand

  same_at : (q : ℕ) → is_ancestor t q p ≡ true → slice_get u q ≡ slice_get t q
  same_at q up =
      let le = ancestor_le t r q p low up in
      let h : q < length t = (let l = low in omega arith) in
      elim (b.old q h) [ inl e ↦ e | inr z ↦ absurd (not_in z.0 z.1.running z.1.other q h up (ap (strand_of t) z.2 ∙ at_place z.0 z.1.running)) ]

  pending_at : (q : ℕ) → is_ancestor t q p ≡ true → is_pending u q ≡ is_pending t q
  pending_at q up = ap (passes (λ y. is_block_kind y.kind && is_pending_state y.state)) (same_at q up)

  -- ## One node over it

  module _ (q : ℕ) (up : is_ancestor t q p ≡ true) where
    low_q : q < length t
    low_q = let le = ancestor_le t r q p low up in let h = low in omega arith

    -- no block that is closed is in it
    each_stays : (n : ℕ) → In n (children t q) → slice_get u n ≡ slice_get t n
    each_stays n i =
        let c = child_is t q n i in
        elim (b.old n c.there) [
          | inl e ↦ e
          | inr z ↦ (
              let plain : is_strand t n ≡ false = false_from_ne_true (is_strand t n) (λ s. absurd (cc (pending_block t n z.3, strand_no_block t n s))) in
              let own : strand_of t q ≡ z.0 = sym (strand_of_other t r n c.some c.there plain ∙ ap (strand_of t) c.parent) ∙ ap (strand_of t) z.2 ∙ at_place z.0 z.1.running in
              absurd (not_in z.0 z.1.running z.1.other q low_q up own))
        ]

    -- no node that comes is in it
    none_comes : (n : ℕ) → length t ≤ n → n < length u → parent_of u n ≡ q → ⊥
    none_comes n le h parent =
        let z = b.new n le h in
        elim z.2 [
          | inl e ↦ not_in z.0 z.1.running z.1.other q low_q up (ap (strand_of t) (sym parent ∙ e) ∙ at_place z.0 z.1.running)
          | inr past ↦ (let l = low_q in omega (arith, parent))
        ]

    children_stay : children u q ≡ children t q
    children_stay =
        below_none (in_it u) (length t) (length u) b.stays.longer (λ n le h. and_right (nat_lt 0 n) (nat_eq (parent_of u n) q) (false_from_ne_true (nat_eq (parent_of u n) q) (λ z. absurd (none_comes n le h (eqb-true (parent_of u n) q z)))))
        ∙ filter_same (in_it u) (in_it t) (all_nodes t) (λ n i. ap (λ x. nat_lt 0 n && nat_eq x q) (b.stays.parents n (in_below n (length t) i))) where
          in_it : List Node → ℕ → Bool
          in_it v n = nat_lt 0 n && nat_eq (parent_of v n) q

  -- the attempt of a block around it
  attempt_stays : (n : ℕ) → is_ancestor t n p ≡ true → 0 < n → n < length t → block_attempt u n ≡ block_attempt t n
  attempt_stays n over some h =
      let q = parent_of t n in
      let up : is_ancestor t q p ≡ true = ancestor_trans t r q n p low (ancestor_up t r q n some h (ancestor_self t q)) over in
      let older : List ℕ = filter (λ x. nat_lt x n) (children t q) in
      let same : elders u n ≡ older = ap (λ x. filter (λ y. nat_lt y n) (children u x)) (b.stays.parents n h) ∙ ap (filter (λ x. nat_lt x n)) (children_stay q up) in
      ap (λ ns. suffix_len (is_aborted u) ns + 1) same
      ∙ ap (λ x. x + 1) (suffix_same (is_aborted u) (is_aborted t) older (λ x i. ap (passes (λ y. is_block_kind y.kind && is_aborted_state y.state)) (each_stays q up x (in_filter (λ x. nat_lt x n) x (children t q) i).0)))

  -- ## What is read of it

  path_stays : path u p ≡ path t p
  path_stays = path_kept t u (keeps t u b.stays) p low

  blocks_stay : blocks_at u p ≡ blocks_at t p
  blocks_stay = ap (filter (is_pending u)) path_stays ∙ filter_same (is_pending u) (is_pending t) (path t p) (λ n i. pending_at n (in_ancestor t n p i))

  -- one of its blocks
  pub record IsBlockAt (n : ℕ) : Type 0 where
    pub over : is_ancestor t n p ≡ true
    pub there : n < length t
    pub some : 0 < n

  block_at : (n : ℕ) → In n (blocks_at t p) → IsBlockAt n
  block_at n i =
      let z = in_filter (is_pending t) n (path t p) i in
      let over = in_ancestor t n p z.0 in
      let le = ancestor_le t r n p low over in
      record {
        over = over;
        there = (let l = low in omega arith);
        some = elim (cases_eq n 0) [
          | inl e ↦ absurd (cc (pending_block t n z.1, ap (is_block t) e, strand_no_block t 0 well.sound.tree.root))
          | inr ne ↦ omega (arith, ne)
        ];
      }

  victim_stays : (n : ℕ) → n < length t → victim_at u n p ≡ victim_at t n p
  victim_stays n h =
      ap (outermost (may_fall u n)) path_stays
      ∙ outermost_same (may_fall u n) (may_fall t n) (path t p) (λ x i. ap (λ y. y && not (is_above u x n)) (pending_at x (in_ancestor t x p i)) ∙ ap (λ y. is_pending t x && not y) (above_stays t u b.stays x n h))

  pub open_kept : IsKeptAt t u p
  open_kept =
      let self = ancestor_self t p in
      record {
        node = same_at p self;
        way = path_stays;
        blocks = blocks_stay;
        begins = ap (map (stamp_of u)) blocks_stay ∙ map_same (stamp_of u) (stamp_of t) (blocks_at t p) (λ n i. b.stays.stamps n (block_at n i).there);
        attempts = ap (map (block_attempt u)) blocks_stay ∙ map_same (block_attempt u) (block_attempt t) (blocks_at t p) (λ n i. let c = block_at n i in attempt_stays n c.over c.some c.there);
        inside = children_stay p self;
        each = λ n h. each_stays p self n (has_in (children t p) n h);
        victim = victim_stays;
      }

-- ## Around a running strand

same_kept : (t u : List Node) (q : ℕ) → u ≡ t → IsKeptAt t u q
same_kept t u q e =
    let P : List Node → Type 0 = λ v. IsKeptAt t v q in
    subst P (sym e) (record { node = refl; way = refl; blocks = refl; begins = refl; attempts = refl; inside = refl; each = λ n h. refl; victim = λ n h. refl })

module _ (rules : Rules) (first : List ℤ) (m : OpenMachine) (w : IsToldState first m) (e : Step) (a : Allowed rules m e)
    (s : ℕ) (running : is_running m s ≡ true) (o : is_step_of s e ≡ false) where
  pub same_place_after : place (after_open_step m e).tree s ≡ place m.tree s
  same_place_after = place_stays m.tree (after_open_step m e).tree s (place m.tree s) _ (beside first m w s running rules e o a)

  -- a strand over its place that is not this one waits for it
  pub kept_at : (q : ℕ) → is_ancestor m.tree q (place m.tree s) ≡ true → IsKeptAt m.tree (after_open_step m e).tree q
  kept_at q up =
      let t = m.tree in
      let p = place t s in
      let y = strand_of t q in
      let well = w.state.well in
      let r = well.sound.tree.rooted in
      let at = stands m well.sound.tree well.nested s running in
      let here = place_open m well.sound.tree well.nested s running in
      let le : q ≤ p = ancestor_le t r q p at.there up in
      let there : q < length t = (let l = at.there in omega arith) in
      elim (cases_Bool (is_step_of y e)) [
        | inr other ↦ open_kept rules first m w e a q (open_over m well.sound.tree well.nested q p at.there up here) other
        | inl own ↦ elim (runs_or_same rules m e y a own) [
          | inr same ↦ same_kept t (after_open_step m e).tree q same
          | inl runs_y ↦ (
              let apart : strand_of t p ≢ y = λ z. cc (o, ap (λ x. is_step_of x e) (sym at.strand ∙ z), own) in
              let over : is_ancestor t y p ≡ true = ancestor_trans t r y q p at.there (strand_over t r q there) up in
              absurd (cc (over, outside first m w y runs_y p at.there here apart)))
        ]
      ]

pub open_stay : OpenStay
open_stay asked first m reached e a q is other = open_kept (at_any_time asked) first m (told_states (at_any_time asked) first m reached) e a q is other

pub around_stays : AroundStays
around_stays asked first m reached e a s running o = kept_at (at_any_time asked) first m (told_states (at_any_time asked) first m reached) e a s running o
