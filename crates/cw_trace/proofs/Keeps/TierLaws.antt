-- The laws of a tier that stands for a tree.
use Rattle.std.proofs.Common.{◌≡◌, ℕ, List, refl, ap, sym, ◌∙◌, false, inl, inr}
use Rattle.std.proofs.lemmas.Bool.{cases_eq, and_right}
use Rattle.cw_tree.specs.declared.node.Node.{Node}
use Rattle.cw_tree.specs.declared.node.BlockState.{BlockState}
use Rattle.cw_tree.specs.Nodes.{is_pending, is_block, is_fork_kind, is_strand_kind, is_pending_state, fresh_node, closed}
use Rattle.cw_tree.specs.declared.node.Kind.TheVariants.{Block}
use Rattle.cw_tree.proofs.NextNodes.Closing.{length_closed, number_closed, node_closed, state_closed}
use Rattle.cw_tree.proofs.NextNodes.Pending.{pending_stays}
use Rattle.cw_trace.specs.Laws.{Reading, GoesOnBeneath, RootStands, Leaf, Begin, Close, Join}
use Rattle.cw_trace.proofs.Keeps.Adding.{keeps_leaf, keeps_begin}
use Rattle.cw_trace.proofs.Keeps.Ending.{SameShape, keeps_close}
use Rattle.cw_trace.proofs.Outward.FromTree.{may_join}
use Rattle.cw_trace.proofs.Keeps.GoingOn.{active, goes_on}
use Rattle.cw_trace.proofs.Keeps.Joining.{keeps_join}
use Rattle.cw_trace.proofs.Keeps.Meaning.{stands_of}
use Rattle.cw_trace.proofs.Segments.Opening.{keeps_first}
use Rattle.cw_trace.proofs.Keeps.TreeGrows.{may_have, tree_one_more}

pub reading : Reading
reading c words t cuts joins k = stands_of c words t cuts joins k

pub goes_on_beneath : GoesOnBeneath
goes_on_beneath c words t cuts joins is_open p k tr o m = goes_on c words t cuts joins tr k is_open o p m

pub start : RootStands
start room words some fits zeros = keeps_first room words some fits zeros

pub leaf : Leaf
leaf c words t cuts joins is_open p x k tr o m under ns nf np = keeps_leaf c words t cuts joins tr k x p m.there under ns nf (goes_on c words t cuts joins tr k is_open o p m) (tree_one_more t tr p m.there (may_have c t cuts joins is_open o p m) x under ns nf) np

pub begin : Begin
begin c words t cuts joins is_open p stamp k tr o m begun some newest =
    keeps_begin c words t cuts joins tr k (fresh_node p Block stamp) p m.there refl refl refl (goes_on c words t cuts joins tr k is_open o p m) (tree_one_more t tr p m.there (may_have c t cuts joins is_open o p m) (fresh_node p Block stamp) refl refl refl) (active c words t cuts joins tr k is_open o p m) refl some begun newest

-- a closed block differs from before in its state and its end alone
pub closed_shape : (t : List Node) (q : ℕ) (state : BlockState) (end : ℕ) → SameShape t (closed t q state end)
closed_shape t q state end = record {
  lengths = length_closed t q state end;
  parents = number_closed t q state end (λ x. x.parent) (λ x. refl);
  forks = node_closed t q state end (λ x. is_fork_kind x.kind) (λ x. refl);
  strands = node_closed t q state end (λ x. is_strand_kind x.kind) (λ x. refl);
  stamps = number_closed t q state end (λ x. x.stamp) (λ x. refl);
}

closed_here : (t : List Node) (q : ℕ) (state : BlockState) (end : ℕ) → is_pending_state state ≡ false → is_pending (closed t q state end) q ≡ false
closed_here t q state end e = state_closed t q state end is_pending_state ∙ and_right (is_block t q) (is_pending_state state) e

pub close : Close
close c words t cuts joins is_open q end state k tr o m pq e begun distinct =
    keeps_close c words t (closed t q state end) cuts joins tr k (closed_shape t q state end) q pq (goes_on c words t cuts joins tr k is_open o q m) (active c words t cuts joins tr k is_open o q m)
    (λ b h. elim (cases_eq b q) [ inl z ↦ absurd (cc (sym (ap (is_pending (closed t q state end)) z) ∙ h, closed_here t q state end e)) | inr n ↦ (sym (pending_stays t q state end b n) ∙ h, n) ])
    (λ b h n. pending_stays t q state end b n ∙ h) distinct

pub join : Join
join c words t cuts joins is_open f k tr o m = keeps_join c words t cuts joins k f (may_join c words t cuts joins k tr is_open o f m)
