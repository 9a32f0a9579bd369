use Rattle.std.proofs.Common.{◌≡◌, take, string_bytes}
use Rattle.cw_tree.specs.Names.{name_text}
use Rattle.cw_tree.proofs.tree.Tree.name.Given as goal

-- the steps so far are written
abbrev pub invariant-loop-turn : goal.invariant-loop-turn
invariant-loop-turn l = string_bytes l.text ≡ name_text (take l.turn-index l.turn-items)
