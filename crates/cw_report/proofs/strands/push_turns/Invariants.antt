use Rattle.std.proofs.Common.{◌≡◌, ◌++◌, drop, string_bytes}
use Rattle.std.specs.List.{flat_map}
use Rattle.cw_tree.specs.Names.{turn_text}
use Rattle.cw_report.proofs.strands.push_turns.Given as goal

abbrev pub invariant-loop-turn : goal.invariant-loop-turn
invariant-loop-turn l = string_bytes l.text ++ flat_map turn_text (drop l.turn-index l.turns) ≡ string_bytes l.fn.text ++ flat_map turn_text l.turns
