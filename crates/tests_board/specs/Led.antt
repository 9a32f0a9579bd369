-- What a test knows of a strand that it leads.
use Rattle.std.specs.Prelude.{◌≡◌, ℕ, Bool, false, List, map, None}
use Rattle.cw_log.specs.declared.token.Open.{Open}
use Rattle.cw_log.specs.declared.token.Phase.{Phase}
use Rattle.cw_log.specs.declared.token.Side.TheVariants.{Beside}
use Rattle.cw_log.specs.declared.token.Token.{Token}

-- The token stands in this strand, began with the right strand of this fork, and has this phase. It stands in the left strands of
-- these forks, for which these strands wait. It has not stopped.
abbrev pub IsLed : Token → (strand fork : ℕ) → (split : Bool) → Phase → (forks strands : List ℕ) → Type 0
IsLed x strand fork split phase forks strands =
    (x.strand ≡ strand) ×
    (x.fork ≡ fork) ×
    (x.split ≡ split) ×
    (x.phase ≡ phase) ×
    (x.stop ≡ None) ×
    (x.told ≡ false) ×
    (map (λ (o : Open). o.side) x.forks ≡ map Beside forks) ×
    (map (λ (o : Open). o.strand) x.forks ≡ strands)
