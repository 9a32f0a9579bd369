-- What hangs beneath a node, as far as a fork asks.
use Rattle.std.specs.Prelude.{ℕ, ◌==◌, ◌&&◌, Bool, true, false, List, nat_lt, fold}
use Rattle.std.specs.List.{filter}
use Rattle.cw_tree.specs.declared.node.Node.{Node}
use Rattle.cw_tree.specs.Nodes.{below, is_strand, parent_of}
use Rattle.cw_sheet.specs.declared.judging.Beneath.{Beneath}
use Rattle.cw_sheet.specs.declared.judging.Beneath.TheVariants.{Nothing, OneStrand, TwoStrands, Other}

abbrev pub beneath_more : Beneath → (is_strand : Bool) → Beneath
beneath_more Nothing true = OneStrand
beneath_more OneStrand true = TwoStrands
beneath_more b s = Other

-- what these nodes are together
abbrev pub beneath_all : List Node → List ℕ → Beneath
beneath_all t ns = fold (λ b m. beneath_more b (is_strand t m)) Nothing ns

-- what the nodes below k that are children of x are together
abbrev pub beneath_of : List Node → (k x : ℕ) → Beneath
beneath_of t k x = beneath_all t (filter (λ m. nat_lt 0 m && (parent_of t m == x)) (below k))

abbrev pub is_two : Beneath → Bool
is_two TwoStrands = true
is_two b = false
