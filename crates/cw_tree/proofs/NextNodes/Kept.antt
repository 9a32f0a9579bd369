-- A tree that keeps the parents of another's nodes keeps what stands above them.
use Rattle.std.proofs.Common.{◌≡◌, ℕ, zero, suc, ◌<◌, ◌≤◌, List, ◌∷◌, length, drop, refl, ap, ◌∙◌, arith, Bool}
use Rattle.std.specs.Prelude.{unwrap_or}
use Rattle.std.specs.List.{find}
use Rattle.cw_tree.specs.declared.node.Node.{Node}
use Rattle.cw_tree.specs.Nodes.{parent_of, is_strand, is_block, is_pending}
use Rattle.cw_tree.specs.Walks.{IsRooted, climb, path, above, has, is_ancestor, is_above, xparent, nua}
use Rattle.cw_tree.specs.Series.{strand_of}
use Rattle.cw_tree.proofs.Walks.Kin.{in_ancestor, in_above}
use Rattle.cw_tree.proofs.Walks.Ancestors.{above_ancestor, ancestor_le}
use Rattle.cw_tree.proofs.Members.{find_same}

-- in tree u the nodes of tree t have their parents of there
pub record KeepsParents (t u : List Node) : Type 0 where
  pub rooted : IsRooted t
  pub parents : (n : ℕ) → n < length t → parent_of u n ≡ parent_of t n

module _ (t u : List Node) (kept : KeepsParents t u) where
  climb_kept : (k n : ℕ) → n < length t → climb u k n ≡ climb t k n
  climb_kept zero n h = refl
  climb_kept (suc k) zero h = refl
  climb_kept (suc k) (suc n) h =
      let low : parent_of t (suc n) < suc n = kept.rooted (suc n) (omega arith) h in
      ap (λ m. suc n ∷ climb u k m) (kept.parents (suc n) h) ∙ ap (λ ns. suc n ∷ ns) (climb_kept k (parent_of t (suc n)) (omega arith))

  pub path_kept : (n : ℕ) → n < length t → path u n ≡ path t n
  path_kept n h = climb_kept n n h

  pub above_kept : (n : ℕ) → n < length t → above u n ≡ above t n
  above_kept n h = ap (drop 1) (path_kept n h)

  pub ancestor_kept : (a n : ℕ) → n < length t → is_ancestor u a n ≡ is_ancestor t a n
  ancestor_kept a n h = ap (λ ns. has ns a) (path_kept n h)

  pub is_above_kept : (a n : ℕ) → n < length t → is_above u a n ≡ is_above t a n
  is_above_kept a n h = ap (λ ns. has ns a) (above_kept n h)

  -- what is found on the way up, where two tests agree on the nodes of t
  module _ (p q : ℕ → Bool) (agree : (m : ℕ) → m < length t → p m ≡ q m) where
    pub find_path_kept : (n : ℕ) → n < length t → find p (path u n) ≡ find q (path t n)
    find_path_kept n h =
        ap (find p) (path_kept n h)
        ∙ find_same p q (path t n) (λ m i. let le : m ≤ n = ancestor_le t kept.rooted m n h (in_ancestor t m n i) in agree m (omega arith))

    pub find_above_kept : (n : ℕ) → n < length t → find p (above u n) ≡ find q (above t n)
    find_above_kept n h =
        ap (find p) (above_kept n h)
        ∙ find_same p q (above t n) (λ m i. let le : m ≤ n = ancestor_le t kept.rooted m n h (above_ancestor t m n (in_above t m n i)) in agree m (omega arith))

  pub strand_of_kept : ((m : ℕ) → m < length t → is_strand u m ≡ is_strand t m) → (n : ℕ) → n < length t → strand_of u n ≡ strand_of t n
  strand_of_kept e n h = ap (λ o. unwrap_or o 0) (find_path_kept (is_strand u) (is_strand t) e n h)

  pub xparent_kept : ((m : ℕ) → m < length t → is_block u m ≡ is_block t m) → (n : ℕ) → n < length t → xparent u n ≡ xparent t n
  xparent_kept e n h = find_above_kept (is_block u) (is_block t) e n h

  pub nua_kept : ((m : ℕ) → m < length t → is_pending u m ≡ is_pending t m) → (n : ℕ) → n < length t → nua u n ≡ nua t n
  nua_kept e n h = find_above_kept (is_pending u) (is_pending t) e n h
