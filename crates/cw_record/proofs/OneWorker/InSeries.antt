-- What is before and after in series, in a tree that one worker builds and where a fork has one more strand.
use Rattle.std.proofs.Common.{◌≡◌, ℕ, ◌<◌, List, [], ◌∷◌, length, ap, sym, ◌∙◌, arith, true, false, inl, inr}
use Rattle.std.proofs.lemmas.Bool.{cases_eq, false_from_ne_true}
use Rattle.cw_tree.specs.declared.node.Node.{Node}
use Rattle.cw_tree.specs.declared.node.Kind.TheVariants.{Strand}
use Rattle.cw_tree.specs.Nodes.{is_fork_kind, parent_of, is_fork, fresh_node}
use Rattle.cw_tree.specs.Walks.{IsRooted, is_ancestor}
use Rattle.cw_tree.specs.Series.{is_before}
use Rattle.cw_tree.proofs.Walks.Agreeing.{one_more, agree_back, before_to}
use Rattle.cw_tree.proofs.Walks.Ancestors.{ancestor_self, ancestor_step, ancestor_le, ancestor_trans}
use Rattle.cw_tree.proofs.NextNodes.Growing.{node_grown}
use Rattle.cw_tree.proofs.Walks.Kin.{of_before, before_of, children_apart}
use Rattle.cw_record.specs.Drawn.{added}
use Rattle.cw_record.proofs.OneWorker.Building.{IsBuilt}

-- nothing comes after a node on the way to the place
pub none_after : (t : List Node) (p clock : ℕ) → IsBuilt t p clock → (n m : ℕ) → is_ancestor t n p ≡ true → m < length t → is_before t n m ≡ false
none_after t p clock b n m over h =
    false_from_ne_true (is_before t n m) (λ e.
    let s = of_before t n m e in
    let o = s.ordered in
    let some = o.some in
    let less = o.less in
    let le = ancestor_le t b.rooted s.second m h s.over_second in
    let beneath = b.last s.first s.second (ancestor_trans t b.rooted s.first n p b.there s.over_first over) (omega arith) (omega arith) in
    let same = children_apart t b.rooted s.first s.second s.second (omega arith) some (omega arith) o.same beneath (ancestor_self t s.second) in
    omega arith)

-- what is before a strand of a fork is before the fork
pub before_fork : (t : List Node) → IsRooted t → (f : ℕ) → f < length t → is_fork t f ≡ true → (n : ℕ) → n < length t → is_before (added t f Strand 0) n (length t) ≡ true → is_before t n f ≡ true
before_fork t r f there fork n h e =
    let x = fresh_node f Strand 0 in
    let u = added t f Strand 0 in
    let m = one_more t x r there in
    let s = of_before u n (length t) e in
    let o = s.ordered in
    let less = o.less in
    let some = o.some in
    elim (cases_eq (length t) s.second) [
      | inl q ↦
          (let up : parent_of u s.first ≡ f = o.same ∙ ap (parent_of u) (sym q) ∙ m.parent in
          let yes = ap (is_fork u) up ∙ node_grown t (x ∷ []) (λ y. is_fork_kind y.kind) f there ∙ fork in
          absurd (cc (yes, o.no_fork)))
      | inr ne ↦
          (let over = ap (is_ancestor u s.second) (sym m.parent) ∙ sym (ancestor_step u m.rooted s.second (length t) (omega arith) (omega (arith, m.len)) ne) ∙ s.over_second in
          before_to u t (length t) (agree_back t u (length t) m.agree) m.rooted n f h there
          (before_of u n f (record { first = s.first; second = s.second; ordered = s.ordered; over_first = s.over_first; over_second = over })))
    ]
