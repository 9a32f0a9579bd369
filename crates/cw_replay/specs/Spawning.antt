-- Sources that spawn: a function somewhere contains a `spawn`.
use Rattle.std.specs.Prelude.{◌||◌, Bool, true, false, List, [], ◌∷◌}
use Rattle.cw_text.specs.Syntax.{Statement, choose, repeat, atomic, spawn, Block, empty, first, Declaration, cell, func}

abbrev mutual
  pub statement_spawns : Statement → Bool
  statement_spawns (choose e a b) = block_spawns a || block_spawns b
  statement_spawns (repeat e b) = block_spawns b
  statement_spawns (atomic b) = block_spawns b
  statement_spawns (spawn b) = true
  statement_spawns s = false

  pub block_spawns : Block → Bool
  block_spawns empty = false
  block_spawns (first s b) = statement_spawns s || block_spawns b

-- a function among these declarations contains a `spawn`
abbrev pub any_spawns : List Declaration → Bool
any_spawns [] = false
any_spawns (cell x l len i ∷ ds) = any_spawns ds
any_spawns (func x l ps b ∷ ds) = block_spawns b || any_spawns ds
