-- Serves `conflicts_in`: what is true of the conflicts of each log is true of all.
use Rattle.std.proofs.Common.{ℕ, List, [], ◌∷◌, suc, arith}
use Rattle.std.specs.Prelude.{All}
use Rattle.std.proofs.lemmas.List.Elements.{All-append}
use Rattle.cw_tree.specs.declared.conflict.Conflict.{Conflict}
use Rattle.cw_log.specs.declared.log.Log.{Log}
use Rattle.cw_log.specs.Tokens.{conflicts_in}

pub all_in : (P : Conflict → Type 0) (ls : List Log) → All (λ l. All P l.conflicts) ls → All P (conflicts_in ls)
all_in P [] all = λ k d r. absurd (omega arith)
all_in P (l ∷ ls) all = All-append P l.conflicts (conflicts_in ls) (all 0 l (omega arith)) (all_in P ls (λ k d r. all (suc k) d (omega arith)))
