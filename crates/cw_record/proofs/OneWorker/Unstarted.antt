-- Right strands that never started, as the last nodes of a tree: what they leave as it is.
use Rattle.std.proofs.Common.{◌≡◌, ℕ, ◌<◌, ◌≤◌, List, [], ◌∷◌, ◌++◌, length, map, refl, sym, ◌∙◌, arith, true, subst, append_assoc, append-nil}
use Rattle.std.specs.Prelude.{All, slice_get}
use Rattle.std.proofs.lemmas.List.Elements.{All-head, All-tail}
use Rattle.cw_tree.specs.declared.node.Node.{Node}
use Rattle.cw_tree.specs.declared.node.Kind.TheVariants.{Strand}
use Rattle.cw_tree.specs.declared.conflict.Conflict.{Conflict}
use Rattle.cw_tree.specs.Nodes.{is_strand_kind, is_strand, fresh_node}
use Rattle.cw_tree.specs.Walks.{IsRooted}
use Rattle.cw_tree.specs.Series.{strand_of}
use Rattle.cw_tree.specs.Names.{name_of}
use Rattle.cw_tree.proofs.NextNodes.Growing.{length_more, get_append, node_grown, strand_of_grown, rooted_more}
use Rattle.cw_code.specs.declared.FaultKind.{FaultKind}
use Rattle.cw_tree.proofs.NodeKinds.{strand_no_block}
use Rattle.cw_record.specs.declared.record_end.RecordEnd.TheVariants.{Fault}
use Rattle.cw_record.specs.Items.{items}
use Rattle.cw_record.specs.Drawn.{added}
use Rattle.cw_record.proofs.OneWorker.GrowingNames.{name_beside}
use Rattle.cw_record.proofs.OneWorker.Faults.{fault_stays}

-- one more strand in each of these forks
abbrev pub with_strands : List Node → List ℕ → List Node
with_strands t fs = t ++ map (λ f. fresh_node f Strand 0) fs

-- what one more strand keeps, all of them keep
pub by_strand : (P : List Node → Type 0) (n : ℕ) → ((u : List Node) → IsRooted u → n ≤ length u → (f : ℕ) → f < n → P u → P (added u f Strand 0))
    → (fs : List ℕ) (t : List Node) → IsRooted t → n ≤ length t → All (λ f. f < n) fs → P t → P (with_strands t fs)
by_strand P n step [] t r le low start = subst P (sym (append-nil t)) start
by_strand P n step (f ∷ fs) t r le low start =
    let x = fresh_node f Strand 0 in
    let first : f < n = All-head (λ f. f < n) f fs low in
    subst P (append_assoc t (x ∷ []) (map (λ f. fresh_node f Strand 0) fs))
    (by_strand P n step fs (added t f Strand 0) (rooted_more t x r (omega arith)) (omega (arith, length_more t x)) (All-tail (λ f. f < n) f fs low) (step t r le f first start))

module _ (t : List Node) (r : IsRooted t) (fs : List ℕ) (low : All (λ f. f < length t) fs) where
  pub unstarted_name : (n : ℕ) → n < length t → name_of (with_strands t fs) n ≡ name_of t n
  unstarted_name n h = by_strand (λ u. name_of u n ≡ name_of t n) (length t) (λ u ru le f l e. name_beside u ru f (omega arith) Strand 0 refl n (omega arith) ∙ e) fs t r (omega arith) low refl

  -- the items of a run that comes to its end by a fault
  pub unstarted_items : is_strand t 0 ≡ true → (cs : List Conflict) (budget x : ℕ) (fault : FaultKind) → x < length t → items (with_strands t fs) cs budget (Fault x fault) ≡ items t cs budget (Fault x fault)
  unstarted_items root cs budget x fault h =
      (by_strand (λ u. (is_strand u 0 ≡ true) × (items u cs budget (Fault x fault) ≡ items t cs budget (Fault x fault))) (length t)
      (λ u ru le f l e. (
        node_grown u (fresh_node f Strand 0 ∷ []) (λ y. is_strand_kind y.kind) 0 (omega arith) ∙ e.0,
        fault_stays u ru f (omega arith) Strand 0 refl refl (strand_no_block u 0 e.0) cs budget x fault (omega arith) ∙ e.1,
      ))
      fs t r (omega arith) low (root, refl)).1

-- wherever the forks are
module _ (t : List Node) (fs : List ℕ) where
  pub unstarted_node : (n : ℕ) → n < length t → slice_get (with_strands t fs) n ≡ slice_get t n
  unstarted_node = get_append t (map (λ f. fresh_node f Strand 0) fs)

  pub unstarted_strand : (n : ℕ) → n < length t → is_strand (with_strands t fs) n ≡ is_strand t n
  unstarted_strand = node_grown t (map (λ f. fresh_node f Strand 0) fs) (λ y. is_strand_kind y.kind)

  pub unstarted_strand_of : IsRooted t → (n : ℕ) → n < length t → strand_of (with_strands t fs) n ≡ strand_of t n
  unstarted_strand_of = strand_of_grown t (map (λ f. fresh_node f Strand 0) fs)
