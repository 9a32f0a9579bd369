-- The victim of an access at a place is that of the access, once it is a node.
use Rattle.std.proofs.Common.{◌≡◌, ℕ, ◌<◌, List, [], ◌∷◌, ◌++◌, length, refl, ap, sym, ◌∙◌, Bool, cond, Option, Some, None}
use Rattle.std.specs.Prelude.{◌&&◌, not}
use Rattle.std.specs.Option.{option_or}
use Rattle.cw_tree.specs.declared.node.Node.{Node}
use Rattle.cw_tree.specs.Nodes.{is_block_kind, is_pending_state, parent_of, is_pending}
use Rattle.cw_tree.specs.Walks.{IsRooted, path, is_above, outermost, may_fall}
use Rattle.cw_tree.specs.VictimsAt.{VictimsAt, VictimsGrow}
use Rattle.cw_tree.proofs.Walks.Climbs.{path_step, by_parent}
use Rattle.cw_tree.proofs.NextNodes.Growing.{node_grown, path_grown, above_new, is_above_grown}

-- tests that agree on a tree's nodes have the same outermost of a path
outermost_same : (t : List Node) → IsRooted t → (p q : ℕ → Bool) → ((m : ℕ) → m < length t → p m ≡ q m) → (n : ℕ) → n < length t → outermost p (path t n) ≡ outermost q (path t n)
outermost_same t r p q agree n h =
    by_parent t r (λ n. n < length t → outermost p (path t n) ≡ outermost q (path t n))
    (λ some. ap (λ b. cond b (Some 0) None) (agree 0 some))
    (λ m s there more _.
    let low : parent_of t m < m = r m s there in
    ap (outermost p) (path_step t r m s there)
    ∙ ap (λ o. option_or o (cond (p m) (Some m) None)) (more (omega Rattle.std.proofs.Common.arith))
    ∙ ap (λ b. option_or (outermost q (path t (parent_of t m))) (cond b (Some m) None)) (agree m there)
    ∙ sym (ap (outermost q) (path_step t r m s there)))
    n h h

-- which nodes may fall stays as nodes are added
falls_grown : (t s : List Node) → IsRooted t → (u : ℕ) → u < length t → (m : ℕ) → m < length t → may_fall (t ++ s) u m ≡ may_fall t u m
falls_grown t s r u hu m h =
    ap (λ b. b && not (is_above (t ++ s) m u)) (node_grown t s (λ x. is_block_kind x.kind && is_pending_state x.state) m h)
    ∙ ap (λ b. is_pending t m && not b) (is_above_grown t s r m u hu)

pub victims_at : VictimsAt
victims_at t x u r hu hp =
    ap (outermost (may_fall (t ++ x ∷ []) u)) (above_new t x r hp)
    ∙ outermost_same t r (may_fall (t ++ x ∷ []) u) (may_fall t u) (falls_grown t (x ∷ []) r u hu) x.parent hp

pub victims_grow : VictimsGrow
victims_grow t s u p r hu hp =
    ap (outermost (may_fall (t ++ s) u)) (path_grown t s r p hp)
    ∙ outermost_same t r (may_fall (t ++ s) u) (may_fall t u) (falls_grown t s r u hu) p hp
