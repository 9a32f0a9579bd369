-- Where a run of one worker comes to its end: the place of its strand, and right strands that never started.
use Rattle.std.proofs.Common.{◌≡◌, ℕ, zero, suc, ◌<◌, ◌≤◌, List, [], ◌∷◌, length, refl, ap, sym, ◌∙◌, arith, Bool, true, false, cond, Some, None, inl, inr, nat_eq}
use Rattle.std.specs.Prelude.{◌⊎◌, ◌&&◌, unwrap_or}
use Rattle.std.proofs.lemmas.Bool.{and_parts, and_from, and_left, or_cases, or_parts, cases_Bool, cases_lt, eq-eqb, eqb-true, false_from_ne_true}
use Rattle.cw_tree.specs.declared.node.Node.{Node}
use Rattle.cw_tree.specs.declared.node.Kind.{Kind}
use Rattle.cw_tree.specs.declared.conflict.Conflict.{Conflict}
use Rattle.cw_tree.specs.Nodes.{is_strand, is_block, is_pending, is_committed, is_block_kind, is_pending_state, first_state, last_below, fresh_node}
use Rattle.cw_tree.specs.Walks.{IsRooted, is_ancestor}
use Rattle.cw_tree.specs.Series.{strand_of, place}
use Rattle.cw_tree.proofs.Walks.Ancestors.{ancestor_self, ancestor_le}
use Rattle.cw_tree.proofs.Walks.Strands.{strand_of_strand, strand_of_le}
use Rattle.cw_tree.proofs.NextNodes.Growing.{length_more, node_grown, node_new, strand_of_grown}
use Rattle.cw_code.specs.declared.FaultKind.{FaultKind}
use Rattle.cw_tree.proofs.LastBelow.{last_none, last_same, last_from}
use Rattle.cw_tree.proofs.NodeKinds.{pending_block, strand_no_block}
use Rattle.cw_record.specs.declared.record_end.RecordEnd.TheVariants.{Fault}
use Rattle.cw_record.specs.Items.{is_act, is_act_kind, items_in, items}
use Rattle.cw_record.proofs.OneWorker.Building.{IsBuilt, open_items}
use Rattle.cw_record.specs.Drawn.{added}
use Rattle.cw_record.proofs.Members.{pending_no_member}
use Rattle.cw_record.proofs.OneWorker.Moves.{IsGrowing, of_built}
use Rattle.cw_record.proofs.Orders.Alike.{levels_more}
use Rattle.cw_record.proofs.OneWorker.NewMembers.{items_stay}

-- ## The last that passes

last_within : (p : ℕ → Bool) (n x bound : ℕ) → x < bound → n ≤ bound → unwrap_or (last_below p n) x < bound
last_within p zero x bound h le = h
last_within p (suc n) x bound h le =
    by (p n) (last_within p n x bound h (omega arith)) where
      by : (b : Bool) → unwrap_or (last_below p n) x < bound → unwrap_or (cond b (Some n) (last_below p n)) x < bound
      by true more = omega arith
      by false more = more

-- ## The place of a strand

abbrev stands_in : List Node → ℕ → ℕ → Bool
stands_in t x n = is_pending t n && nat_eq (strand_of t n) x

module _ (t : List Node) (p c : ℕ) (b : IsBuilt t p c) where
  g : IsGrowing t p c
  g = of_built t p c b

  -- a pending block is on the way to the place
  pub pending_over : (n : ℕ) → is_pending t n ≡ true → is_ancestor t n p ≡ true
  pending_over n e =
      elim (cases_Bool (is_ancestor t n p)) [
        | inl over ↦ over
        | inr off ↦ absurd (let yes = g.committed n (pending_block t n e) off in let no = (or_parts (is_act t n) (is_committed t n) (pending_no_member t n e)).1 in cc)
      ]

  pending_le : (n : ℕ) → is_pending t n ≡ true → n ≤ p
  pending_le n e = ancestor_le t b.rooted n p b.there (pending_over n e)

  own_strand : is_strand t p ≡ true → strand_of t p ≡ p
  own_strand strand =
      elim (cases_lt 0 p) [
        | inl some ↦ strand_of_strand t b.rooted p some b.there strand
        | inr none ↦ (let le : strand_of t p ≤ p = strand_of_le t b.rooted p b.there in omega arith)
      ]

  -- the place is that of its strand
  pub place_is : place t (strand_of t p) ≡ p
  place_is = by (or_cases (is_strand t p) (is_block t p) b.place) where
    by : (is_strand t p ≡ true) ⊎ (is_block t p ≡ true) → place t (strand_of t p) ≡ p
    by (inr block) =
        ap (λ o. unwrap_or o (strand_of t p))
        (last_from (stands_in t (strand_of t p)) p (length t) b.there
        (and_from (is_pending t p) (nat_eq (strand_of t p) (strand_of t p)) (g.pending p block (ancestor_self t p)) (eq-eqb (strand_of t p) (strand_of t p) refl))
        (λ m less l. and_left (is_pending t m) (nat_eq (strand_of t m) (strand_of t p)) (false_from_ne_true (is_pending t m) (λ e. let le = pending_le m e in omega arith))))
    by (inl strand) =
        ap (λ o. unwrap_or o (strand_of t p))
        (last_none (stands_in t (strand_of t p)) (length t) (λ m l. false_from_ne_true (stands_in t (strand_of t p) m) (λ e.
        let z = and_parts (is_pending t m) (nat_eq (strand_of t m) (strand_of t p)) e in
        let le = pending_le m z.0 in
        let own = own_strand strand in
        let low : strand_of t m ≤ m = strand_of_le t b.rooted m l in
        let same : m ≡ p = omega (arith, own, eqb-true (strand_of t m) (strand_of t p) z.1) in
        absurd (let no = (strand_no_block t p strand) in let yes = sym (ap (is_block t) same) ∙ pending_block t m z.0 in cc))))
        ∙ own_strand strand

  -- a run that comes to its end by a fault of this strand has the items so far
  pub fault_items : (cs : List Conflict) (budget : ℕ) (kind : FaultKind) → items t cs budget (Fault (strand_of t p) kind) ≡ open_items t p
  fault_items cs budget kind = ap (λ q. items_in t q (length t) None) place_is

-- ## Nodes that are no members

module _ (t : List Node) (r : IsRooted t) (f : ℕ) (there : f < length t) (kind : Kind) (stamp : ℕ) (no_block : is_block_kind kind ≡ false) where
  abbrev u : List Node
  u = added t f kind stamp

  abbrev y : Node
  y = fresh_node f kind stamp

  -- they change no strand's place
  pub place_stays : (x : ℕ) → place u x ≡ place t x
  place_stays x =
      ap (λ k. unwrap_or (last_below (stands_in u x) k) x) (length_more t y)
      ∙ ap (λ b. unwrap_or (cond b (Some (length t)) (last_below (stands_in u x) (length t))) x)
      (and_left (is_pending u (length t)) (nat_eq (strand_of u (length t)) x) (node_new t y (λ z. is_block_kind z.kind && is_pending_state z.state) ∙ and_left (is_block_kind kind) (is_pending_state (first_state kind)) no_block))
      ∙ ap (λ o. unwrap_or o x) (last_same (stands_in u x) (stands_in t x) (length t) (λ m h.
      ap (λ b. b && nat_eq (strand_of u m) x) (node_grown t (y ∷ []) (λ z. is_block_kind z.kind && is_pending_state z.state) m h)
      ∙ ap (λ s. is_pending t m && nat_eq s x) (strand_of_grown t (y ∷ []) r m h)))

  -- nor the items of a run that comes to its end by a fault
  pub fault_stays : is_act_kind kind ≡ false → is_block t 0 ≡ false → (cs : List Conflict) (budget x : ℕ) (fault : FaultKind) → x < length t → items u cs budget (Fault x fault) ≡ items t cs budget (Fault x fault)
  fault_stays no_act root cs budget x fault h =
      let q_low : place t x < length t = last_within (stands_in t x) (length t) x (length t) h (omega arith) in
      ap (λ q. items_in u q (length u) None) (place_stays x)
      ∙ ap (λ k. items_in u (place t x) k None) (length_more t y)
      ∙ items_stay t r f there kind stamp no_act (place t x) q_low (suc (length t)) None
      ∙ levels_more t r root (place t x) q_low (length t) None (omega arith) (omega arith)
