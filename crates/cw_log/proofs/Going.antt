-- What stays true of a strand that goes on.
use Rattle.std.proofs.Common.{ℕ, List, [], ◌∷◌, ◌<◌, zero, suc, drop, refl, arith}
use Rattle.std.specs.List.{All, Contains}
use Rattle.std.specs.Prelude.{slice_index_or}
use Rattle.cw_tree.specs.declared.conflict.Conflict.{Conflict}
use Rattle.cw_log.specs.Tokens.{conflicts_in, logs}
use Rattle.cw_log.specs.Going as going

-- a stamp more around, which exceeds all victims, fells none
pub with_stamp : (stamp : ℕ) (around : List ℕ) (cs : List Conflict) → All (λ c. Contains around c.victim → ⊥) cs → All (λ c. c.victim < stamp) cs → All (λ c. Contains (stamp ∷ around) c.victim → ⊥) cs
with_stamp stamp around cs none less k d r h = older (slice_index_or cs k d).victim h (less k d r) (none k d r) where
  older : (v : ℕ) → Contains (stamp ∷ around) v → v < stamp → (Contains around v → ⊥) → ⊥
  older v (zero, r, e) l n = absurd (omega arith)
  older v (suc j, r, e) l n = n (j, omega arith, e)

pub after_nodes : going.GoesOnAfterNodes
after_nodes budget stamp kind x g = record { on = record { stop = g.on.stop; told = g.on.told; unspent = g.on.unspent }; phase = g.phase; free = g.free }

pub in_blocks : going.GoesOnInBlocks
in_blocks budget stamp x g l = record {
  on = record { stop = g.on.stop; told = g.on.told; unspent = g.on.unspent };
  phase = g.phase;
  free = with_stamp stamp x.around (conflicts_in (logs x)) g.free l.victims;
}

pub within_rest : (around : List ℕ) (v : ℕ) → Contains (drop 1 around) v → Contains around v
within_rest [] v (k, r, e) = absurd (omega arith)
within_rest (b ∷ bs) v (k, r, e) = (suc k, omega arith, e)

pub behind_blocks : going.GoesOnBehindBlocks
behind_blocks budget end state x g = record {
  on = record { stop = g.on.stop; told = g.on.told; unspent = g.on.unspent };
  phase = g.phase;
  free = λ k d r h. g.free k d r (within_rest x.around (slice_index_or (conflicts_in (logs x)) k d).victim h);
}

pub both : going.BothGoOn
both budget stamp fork column x g = (
  record { on = record { stop = g.on.stop; told = g.on.told; unspent = g.on.unspent }; phase = g.phase; free = g.free },
  record { on = record { stop = refl; told = refl; unspent = λ k d r. absurd (omega arith) }; phase = refl; free = λ k d r. absurd (omega arith) },
)
