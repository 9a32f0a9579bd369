-- The way down to the place where one worker adds the next node: the forks around it, and how many blocks are begun in the strands
-- on the way.
use Rattle.std.proofs.Common.{◌≡◌, ℕ, zero, suc, ◌<◌, List, [], ◌∷◌, ◌++◌}
use Rattle.std.specs.Prelude.{IsTrue}
use Rattle.cw_tree.specs.declared.node.Node.{Node}
use Rattle.cw_tree.specs.declared.picks.Turn.{Turn}
use Rattle.cw_tree.specs.Nodes.{parent_of, is_strand, is_fork, is_block}
use Rattle.cw_tree.specs.Names.{fork_number, name_of}
use Rattle.cw_tree.proofs.Walks.StrandForks.{forks_of}

-- a fork on the way: its node, the step down from the strand that forked, and how many blocks were begun in that strand
pub record Crossing : Type 0 where
  pub node : ℕ
  pub turn : Turn
  pub blocks : ℕ

-- the name of the strand beneath these forks, the innermost of which comes first
abbrev pub way_of : List Crossing → List Turn
way_of [] = []
way_of (x ∷ c) = way_of c ++ x.turn ∷ []

-- Place p of tree t is beneath these forks, in a strand that made `forks` forks, and in `blocks` blocks of that strand.
abbrev pub Descends : List Node → (p : ℕ) → List Crossing → (blocks forks : ℕ) → Type 0
Descends t p c (suc b) k = IsTrue (is_block t p) × Descends t (parent_of t p) c b k
Descends t p [] zero k = (p ≡ 0) × (forks_of t 0 ≡ k)
Descends t p (x ∷ c) zero k =
    (0 < p) × IsTrue (is_strand t p) × (parent_of t p ≡ x.node) × IsTrue (is_fork t x.node) × (fork_number t x.node ≡ x.turn.fork)
    × (name_of t p ≡ way_of (x ∷ c)) × (forks_of t p ≡ k) × Descends t (parent_of t x.node) c x.blocks x.turn.fork
