-- Examples: what small loads draw, and how they are grouped.
use Rattle.std.specs.Prelude.{◌≡◌, [], ◌∷◌, map, length}
use Rattle.cw_gen.specs.Load.{transfers, group, group_count}

pub record Loads : Type 0 where
  -- the one transfer of a load of one, and both of a load of two
  pub one : transfers 1 1 ≡ record { from = 44; to = 51; amount = 93 } ∷ []
  pub two : transfers 2 2 ≡ record { from = 25; to = 21; amount = 12 } ∷ record { from = 48; to = 15; amount = 98 } ∷ []
  -- the groups of 1, 16, 17 and 33 transfers
  pub counts : map group_count (1 ∷ 16 ∷ 17 ∷ 33 ∷ []) ≡ 1 ∷ 1 ∷ 2 ∷ 3 ∷ []
  pub sizes : map (λ k. length (group k (transfers 33 33))) (0 ∷ 1 ∷ 2 ∷ []) ≡ 16 ∷ 16 ∷ 1 ∷ []
