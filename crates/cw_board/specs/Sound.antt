-- What is true, between two calls, of what a token stands for.
use Rattle.std.specs.Prelude.{◌≡◌, ℕ, zero, suc, ◌+◌, ◌*◌, ◌<◌, ◌≤◌, All, List, [], ◌∷◌, length}
use Rattle.cw_tree.specs.declared.node.Node.{Node}
use Rattle.cw_tree.specs.declared.conflict.Conflict.{Conflict}
use Rattle.cw_tree.specs.Nodes.{parent_of}
use Rattle.cw_log.specs.declared.token.Open.{Open}
use Rattle.cw_log.specs.declared.token.Token.{Token}
use Rattle.cw_log.specs.Tokens.{conflicts_in, logs}
use Rattle.cw_steps.specs.Stands.{blocks_outside}
use Rattle.cw_steps.specs.Totals.{total}
use Rattle.cw_steps.specs.Views.{share}

-- the place `p` lies in `n` blocks of its strand `s`
abbrev pub Climbs : List Node → (strand place n : ℕ) → Type 0
Climbs ns s p zero = p ≡ s
Climbs ns s p (suc n) = (p < length ns) × Climbs ns s (parent_of ns p) n

-- so do the places of the strands that wait, each in its own number of blocks
abbrev pub ClimbOut : List Node → List Open → List ℕ → Type 0
ClimbOut ns [] ks = Unit {0}
ClimbOut ns (o ∷ os) [] = ⊥
ClimbOut ns (o ∷ os) (k ∷ ks) = Climbs ns o.strand o.place k × ClimbOut ns os ks

-- the blocks around each waiting place are at least those outside its strand and its strand's own
abbrev pub OwnOut : List Open → List ℕ → Type 0
OwnOut [] ks = Unit {0}
OwnOut (o ∷ os) [] = ⊥
OwnOut (o ∷ os) (k ∷ ks) = (k + blocks_outside os ≤ length o.around) × OwnOut os ks

-- no number exceeds `seen`
abbrev pub AreLow : (seen : ℕ) → List ℕ → Type 0
AreLow seen = All (λ b. b ≤ seen)

-- The token is in `begun` blocks of its own strand, and each strand that waits in a number of its own; these are the innermost
-- blocks around each place. `room` counts the numbers that it may still draw. No number that it knows exceeds `seen`.
pub record IsSoundToken (x : Token) (room seen : ℕ) : Type 0 where
  pub begun : ℕ
  pub waiting : List ℕ
  pub path : Climbs x.own.nodes x.strand x.place begun
  pub outer : ClimbOut x.own.nodes x.forks waiting
  pub own : begun + blocks_outside x.forks ≤ length x.around
  pub outer_own : OwnOut x.forks waiting
  pub numbers : share + begun + total (λ k. k) waiting ≤ room + 2 * length x.own.nodes
  pub around : AreLow seen x.around
  pub outer_around : All (λ (o : Open). AreLow seen o.around) x.forks
  pub victims : All (λ (c : Conflict). c.victim ≤ seen) (conflicts_in (logs x))
