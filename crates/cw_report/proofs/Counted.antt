-- What the nodes of a tree count, one after another.
use Rattle.std.proofs.Common.{◌≡◌, ℕ, ◌+◌, ◌<◌, ◌≤◌, suc, Bool, List, length, ap, sym, ◌∙◌, arith}
use Rattle.std.specs.Prelude.{◌&&◌, not}
use Rattle.std.specs.List.{list_all}
use Rattle.cw_tree.specs.declared.node.Node.{Node}
use Rattle.cw_tree.specs.Accesses.{is_live}
use Rattle.cw_tree.specs.ForkCounts.{one_if}
use Rattle.cw_tree.specs.Nodes.{is_aborted, parent_of}
use Rattle.cw_tree.specs.Walks.{IsRooted}
use Rattle.cw_tree.proofs.Counting.{count, count_le, count_step}
use Rattle.cw_tree.proofs.Walks.Climbs.{above_step}

-- one more is counted
pub counted : (p : ℕ → Bool) (n k one : ℕ) → k ≡ count p n → one ≡ one_if (p n) → k + one ≡ count p (n + 1)
counted p n k one so_far here =
    let next : n + 1 ≡ suc n = omega arith in
    let step : count p (suc n) ≡ k + one = count_step p n ∙ omega (arith, so_far, here) in
    sym (ap (count p) next ∙ step)

-- after one more node, no more are counted than there are
pub one_more : (p : ℕ → Bool) (n k one : ℕ) → k ≡ count p n → one ≡ one_if (p n) → k + one ≤ suc n
one_more p n k one so_far here = omega (arith, count_step p n, count_le p (suc n), so_far, here)

-- a node lives where its parent does, and was not rolled back
pub live_step : (t : List Node) → IsRooted t → (n q : ℕ) → 0 < n → n < length t → q ≡ parent_of t n → is_live t n ≡ (not (is_aborted t q) && is_live t q)
live_step t r n q some there up = ap (list_all (λ a. not (is_aborted t a))) (above_step t r n some there) ∙ ap (λ m. not (is_aborted t m) && is_live t m) (sym up)
