-- Serves `tree_of`: a log more behind others, and a node more in a tree.
use Rattle.std.proofs.Common.{◌≡◌, ℕ, ◌+◌, false, List, [], ◌∷◌, ◌++◌, length, length-append, append_assoc, append-nil, refl, ap, sym, ◌∙◌, arith, Some}
use Rattle.std.specs.Prelude.{slice_get}
use Rattle.std.proofs.Math.Seq.{set-append_seam}
use Rattle.std.proofs.lemmas.List.{length-map}
use Rattle.cw_tree.specs.declared.node.Node.{Node}
use Rattle.cw_tree.specs.declared.node.Kind.{Kind}
use Rattle.cw_tree.specs.declared.node.Kind.TheVariants as kind
use Rattle.cw_tree.specs.declared.node.BlockState.{BlockState}
use Rattle.cw_tree.specs.declared.node.BlockState.TheVariants.{Committed}
use Rattle.cw_tree.specs.Nodes.{closed, first_state, fresh_node, is_block, is_block_kind, passes}
use Rattle.cw_log.specs.declared.log.Log.{Log}
use Rattle.cw_course.specs.Closings.{hung, base_of, put_together}
use Rattle.cw_course.proofs.Trails.Steps.{closed_at}
use Rattle.cw_steps.specs.Leaving.{nodes_in, IsPlain}

-- ## Logs

hung_many : (base under : ℕ) (ns : List Node) → length (hung base under ns) ≡ length ns
hung_many base under [] = refl
hung_many base under (x ∷ xs) = omega (arith, length-map xs (λ (y : Node). record y { parent = base + y.parent }))

module _ (all : List Log) where
  pub together_many : (base : ℕ) (ls : List Log) → length (put_together all base ls) ≡ nodes_in ls
  together_many base [] = refl
  together_many base (l ∷ ls) =
      let h = hung base (base_of all l.from + l.fork) l.nodes in
      length-append h (put_together all (base + length l.nodes) ls) ∙ omega (arith, hung_many base (base_of all l.from + l.fork) l.nodes, together_many (base + length l.nodes) ls)

  pub together_more : (base to : ℕ) (ls : List Log) (l : Log) → base + nodes_in ls ≡ to
      → put_together all base (ls ++ l ∷ []) ≡ put_together all base ls ++ hung to (base_of all l.from + l.fork) l.nodes
  together_more base to [] l e =
      let same : base ≡ to = omega (arith, e) in
      append-nil (hung base (base_of all l.from + l.fork) l.nodes) ∙ ap (λ k. hung k (base_of all l.from + l.fork) l.nodes) same
  together_more base to (x ∷ ls) l e =
      let h = hung base (base_of all x.from + x.fork) x.nodes in
      ap (λ ns. h ++ ns) (together_more (base + length x.nodes) to ls l (omega (arith, e)))
      ∙ sym (append_assoc h (put_together all (base + length x.nodes) ls) (hung to (base_of all l.from + l.fork) l.nodes))

  -- the tree of the logs so far, with those of one log more beneath this node
  pub tree_more : (ls : List Log) (l : Log) (t u : List Node) (under : ℕ) → t ≡ put_together all 0 ls → under ≡ base_of all l.from + l.fork → u ≡ t ++ hung (length t) under l.nodes
      → u ≡ put_together all 0 (ls ++ l ∷ [])
  tree_more ls l t u under e f g =
      g ∙ ap (λ ns. ns ++ hung (length t) under l.nodes) e
      ∙ ap (λ k. put_together all 0 ls ++ hung (length t) k l.nodes) f
      ∙ sym (together_more 0 (length t) ls l (omega (arith, together_many 0 ls, ap length e)))

-- ## Nodes

get_last : (t : List Node) (x : Node) → slice_get (t ++ x ∷ []) (length t) ≡ Some x
get_last [] x = refl
get_last (y ∷ t) x = get_last t x

pub closed_last : (t : List Node) (x : Node) (state : BlockState) (end : ℕ) → closed (t ++ x ∷ []) (length t) state end ≡ t ++ record x { state = state; end = end } ∷ []
closed_last t x state end = closed_at (t ++ x ∷ []) (length t) state end x (get_last t x) ∙ set-append_seam t x [] (record x { state = state; end = end })

plain_state : (k : Kind) → is_block_kind k ≡ false → first_state k ≡ Committed
plain_state kind.Strand e = refl
plain_state kind.Fork e = refl
plain_state kind.Block e = absurd (cc e)
plain_state (kind.Read c v) e = refl
plain_state (kind.Write c v) e = refl
plain_state (kind.Out v) e = refl
plain_state (kind.Tried c) e = refl
plain_state (kind.Cancel back) e = refl

-- a node that is no block is as it was made
pub plain_last : (t : List Node) (p : ℕ) (x : Node) → is_block (t ++ fresh_node p x.kind x.stamp ∷ []) (length t) ≡ false → IsPlain x → fresh_node p x.kind x.stamp ≡ record x { parent = p }
plain_last t p x other plain =
    let none : is_block_kind x.kind ≡ false = sym (ap (passes (λ y. is_block_kind y.kind)) (get_last t (fresh_node p x.kind x.stamp))) ∙ other in
    λ i. record { parent = p; kind = x.kind; state = (plain_state x.kind none ∙ sym plain.0) i; stamp = x.stamp; end = sym plain.1 i }

-- the root's log, which hangs from nothing
pub root_first : (all : List Log) (l : Log) (t : List Node) (under : ℕ) → under ≡ base_of all l.from + l.fork → under ≡ 0 → t ≡ hung 0 0 l.nodes → t ≡ put_together all 0 (l ∷ [])
root_first all l t under e z h = h ∙ ap (λ k. hung 0 k l.nodes) (sym z ∙ e) ∙ sym (append-nil (hung 0 (base_of all l.from + l.fork) l.nodes))

-- a node more beneath p: a block that ends as it did, or another node
pub hung_block : (t u v : List Node) (n p : ℕ) (k : Kind) (x : Node) → n ≡ length t → k ≡ x.kind → u ≡ t ++ fresh_node p k x.stamp ∷ [] → v ≡ closed u n x.state x.end → v ≡ t ++ record x { parent = p } ∷ []
hung_block t u v n p k x e f g h =
    h ∙ ap (λ m. closed u m x.state x.end) e
    ∙ ap (λ ns. closed ns (length t) x.state x.end) (g ∙ ap (λ j. t ++ fresh_node p j x.stamp ∷ []) f)
    ∙ closed_last t (fresh_node p x.kind x.stamp) x.state x.end

pub hung_plain : (t u : List Node) (n p : ℕ) (k : Kind) (x : Node) → n ≡ length t → k ≡ x.kind → u ≡ t ++ fresh_node p k x.stamp ∷ [] → is_block u n ≡ false → IsPlain x → u ≡ t ++ record x { parent = p } ∷ []
hung_plain t u n p k x e f g other plain =
    let same : u ≡ t ++ fresh_node p x.kind x.stamp ∷ [] = g ∙ ap (λ j. t ++ fresh_node p j x.stamp ∷ []) f in
    let none : is_block (t ++ fresh_node p x.kind x.stamp ∷ []) (length t) ≡ false = ap (λ ns. is_block ns (length t)) (sym same) ∙ ap (is_block u) (sym e) ∙ other in
    same ∙ ap (λ y. t ++ y ∷ []) (plain_last t p x none plain)
