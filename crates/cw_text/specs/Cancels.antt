-- Whether a tree contains a `cancel`.
use Rattle.std.specs.Prelude.{Bool, true, false, ◌||◌, List, [], ◌∷◌}
use Rattle.cw_text.specs.Syntax.{Statement, choose, repeat, atomic, spawn, cancel, Block, empty, first, Declaration, cell, func}

abbrev mutual
  pub statement_has_cancel : Statement → Bool
  statement_has_cancel (choose e a b) = block_has_cancel a || block_has_cancel b
  statement_has_cancel (repeat e b) = block_has_cancel b
  statement_has_cancel (atomic b) = block_has_cancel b
  statement_has_cancel (spawn b) = block_has_cancel b
  statement_has_cancel (cancel l) = true
  statement_has_cancel s = false

  pub block_has_cancel : Block → Bool
  block_has_cancel empty = false
  block_has_cancel (first s b) = statement_has_cancel s || block_has_cancel b

-- whether a function contains a `cancel`, also one that is never called
abbrev pub has_cancel : List Declaration → Bool
has_cancel [] = false
has_cancel (cell n l len i ∷ ds) = has_cancel ds
has_cancel (func n l ps b ∷ ds) = block_has_cancel b || has_cancel ds
