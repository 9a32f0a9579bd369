-- What a walk knows of the begins around a strand.
use Rattle.std.specs.Prelude.{ℕ, ◌<◌, ◌-◌, List, [], ◌∷◌, map}
use Rattle.cw_body.specs.Bodies.{PendingBegin}

-- the number of forks of which a strand of this level was the right one at this begin
abbrev pub level_at_begin : (level : ℕ) → PendingBegin → ℕ
level_at_begin level p = level - p.forks

abbrev pub levels_at : (level : ℕ) → List PendingBegin → List ℕ
levels_at level ps = map (level_at_begin level) ps

-- all levels are below `level`
abbrev pub AreUnder : (level : ℕ) → List ℕ → Type 0
AreUnder level [] = Unit {0}
AreUnder level (l ∷ ls) = (l < level) × AreUnder level ls
