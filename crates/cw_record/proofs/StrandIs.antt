-- The strand of a node is a strand, where the root is one.
use Rattle.std.proofs.Common.{◌≡◌, ℕ, ◌<◌, List, length, refl, ap, ◌∙◌, Bool, true, false}
use Rattle.cw_tree.specs.declared.node.Node.{Node}
use Rattle.cw_tree.specs.Nodes.{parent_of, is_strand}
use Rattle.cw_tree.specs.Walks.{IsRooted}
use Rattle.cw_tree.specs.Series.{strand_of}
use Rattle.cw_tree.proofs.Walks.Climbs.{by_parent}
use Rattle.cw_tree.proofs.Walks.Strands.{strand_of_root, strand_of_strand, strand_of_other}

pub strand_is : (t : List Node) → IsRooted t → is_strand t 0 ≡ true → (n : ℕ) → n < length t → is_strand t (strand_of t n) ≡ true
strand_is t r root n h =
    by_parent t r (λ n. is_strand t (strand_of t n) ≡ true) (ap (is_strand t) (strand_of_root t) ∙ root) (λ m s l more. step m s l more) n h where
      step : (m : ℕ) → 0 < m → m < length t → is_strand t (strand_of t (parent_of t m)) ≡ true → is_strand t (strand_of t m) ≡ true
      step m s l more = by (is_strand t m) refl where
        by : (b : Bool) → is_strand t m ≡ b → is_strand t (strand_of t m) ≡ true
        by true e = ap (is_strand t) (strand_of_strand t r m s l e) ∙ e
        by false e = ap (is_strand t) (strand_of_other t r m s l e) ∙ more
