-- The newest of some accesses, which are listed oldest first.
use Rattle.std.specs.Prelude.{ℕ, ◌-◌, List, [], ◌∷◌, length, drop}

-- the newest one, if there is any
abbrev pub newest : List ℕ → List ℕ
newest [] = []
newest (u ∷ []) = u ∷ []
newest (u ∷ v ∷ us) = newest (v ∷ us)

-- the last eight, or all if there are fewer
abbrev pub last_eight : List ℕ → List ℕ
last_eight us = drop (length us - 8) us
