-- In a tree no node is misplaced.
use Rattle.std.proofs.Common.{◌≡◌, ℕ, zero, suc, ◌<◌, ◌&&◌, ◌||◌, Bool, true, false, not, nat_lt, List, [], ◌∷◌, length, None, refl, ap, ◌∙◌, arith, find}
use Rattle.std.proofs.lemmas.Bool.{and_from, lt-ltb, not_from_true, or_left, or_right}
use Rattle.cw_tree.specs.declared.node.Node.{Node}
use Rattle.cw_tree.specs.Nodes.{all_nodes, is_block, is_fork, is_strand, parent_of}
use Rattle.cw_tree.specs.Series.{children}
use Rattle.cw_tree.specs.Shape.{IsTree}
use Rattle.cw_tree.proofs.Members.{in_below}
use Rattle.cw_sheet.specs.Reading.{are_two_strands, hangs_well, is_misplaced, misplaced}
use Rattle.cw_sheet.proofs.SheetText.Told.Trees.{find_none}

module _ (t : List Node) (tree : IsTree t) where
  hung : (m : ℕ) → suc m < length t → (b : Bool) → is_strand t (suc m) ≡ b → (is_fork t (parent_of t (suc m)) || not b) ≡ true
  hung m there true strand = or_left (is_fork t (parent_of t (suc m))) false (tree.strands (suc m) there (omega arith) strand)
  hung m there false other = or_right (is_fork t (parent_of t (suc m))) true refl

  hangs : (n : ℕ) → n < length t → hangs_well t n ≡ true
  hangs zero there = tree.root
  hangs (suc m) there =
      let p = parent_of t (suc m) in
      let low = nat_lt p (suc m) in
      let inner = is_strand t p || is_fork t p || is_block t p in
      and_from (low && inner) (is_fork t p || not (is_strand t (suc m)))
      (and_from low inner (lt-ltb p (suc m) (tree.rooted (suc m) (omega arith) there)) (tree.parents (suc m) there (omega arith)))
      (hung m there (is_strand t (suc m)) refl)

  forked : (n : ℕ) → n < length t → (b : Bool) → is_fork t n ≡ b → (are_two_strands t (children t n) || not b) ≡ true
  forked n there true fork =
      let two = tree.forks n there fork in
      or_left (are_two_strands t (children t n)) false (ap (are_two_strands t) two.2 ∙ two.3)
  forked n there false other = or_right (are_two_strands t (children t n)) true refl

  placed : (n : ℕ) → n < length t → is_misplaced t n ≡ false
  placed n there =
      not_from_true (hangs_well t n && (are_two_strands t (children t n) || not (is_fork t n)))
      (and_from (hangs_well t n) (are_two_strands t (children t n) || not (is_fork t n)) (hangs n there) (forked n there (is_fork t n) refl))

  none_found : find (is_misplaced t) (all_nodes t) ≡ None
  none_found = find_none (is_misplaced t) (all_nodes t) (λ n i. placed n (in_below n (length t) i))

pub tree_placed : (t : List Node) → IsTree t → misplaced t ≡ None
tree_placed [] tree = absurd (let h : 0 < 0 = tree.some in omega arith)
tree_placed (x ∷ xs) tree = rw (none_found (x ∷ xs) tree) refl
