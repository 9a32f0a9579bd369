-- What the tokens of tests stand for.
use Rattle.std.specs.Prelude.{◌≡◌, All, Contains, ℕ, zero, suc, ◌^◌, sum, List, ◌∷◌, false, map, reverse}
use Rattle.cw_tree.specs.declared.conflict.Conflict.{Conflict}
use Rattle.cw_log.specs.declared.token.Token.{Token}
use Rattle.cw_log.specs.declared.token.Open.{Open}
use Rattle.cw_log.specs.declared.token.Side as side
use Rattle.cw_log.specs.declared.token.Side.{Side}
use Rattle.cw_log.specs.Tokens.{is_inline, conflicts_in, logs, Fells}
use Rattle.tests_log.specs.declared.kept.Kept.{Kept}
use Rattle.tests_log.specs.declared.kept.Kept.TheVariants.{Beside, First, Second}

abbrev pub open_of : Kept → Open
open_of (Beside p at around) = record { side = side.TheVariants.Beside p.fork; strand = at.strand; place = at.place; around = around }
open_of (First right at twice) = record { side = side.TheVariants.First right; strand = at.strand; place = at.place; around = twice.one }
open_of (Second at around) = record { side = side.TheVariants.Second; strand = at.strand; place = at.place; around = around }

-- the newest first
abbrev pub opens : List Kept → List Open
opens ks = reverse (map open_of ks)

-- the most logs that a token may come to have: the number of its fork, or 2 ^ 40 for the root's
abbrev pub logs_of : ℕ → ℕ
logs_of zero = 2 ^ 40
logs_of (suc n) = suc n

abbrev pub promise : Kept → ℕ
promise (Beside p at around) = p.fork
promise (First right at twice) = 0
promise (Second at around) = 0

-- the number of logs promised to right strands that are not joined yet
abbrev pub promised : List Kept → ℕ
promised ks = sum (map promise ks)

abbrev pub beside_number : Side → ℕ
beside_number (side.TheVariants.Beside fork) = fork
beside_number (side.TheVariants.First right) = 0
beside_number side.TheVariants.Second = 0

-- the innermost fork has the number `n`, and its right strand has a token of its own
abbrev pub StandsBeside : List Open → ℕ → Type 0
StandsBeside os n = (o : Open) × (rest : List Open) × (os ≡ o ∷ rest) × (is_inline o.side ≡ false) × (beside_number o.side ≡ n)

-- this block is the victim of some conflict
abbrev pub HasVictim : List Conflict → (begin : ℕ) → Type 0
HasVictim cs b = (c : Conflict) × Contains cs c × (c.victim ≡ b)

abbrev pub HasNoVictim : List Conflict → (begin : ℕ) → Type 0
HasNoVictim cs b = All (λ c. c.victim ≡ b → ⊥) cs

-- a pending block around the token's place is the victim of some conflict in its logs
abbrev pub Dies : Token → Type 0
Dies x = (c : Conflict) × Contains (conflicts_in (logs x)) c × Fells x c
