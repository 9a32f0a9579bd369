use Rattle.std.proofs.Common.{◌≡◌, drop, map, string_bytes}
use Rattle.std.specs.List.{list_any}
use Rattle.cw_words.specs.Asked.{is_dash}
use Rattle.cw_words.specs.Shapes.{has_no_odd}
use Rattle.cw_words.proofs.command.has_hyphen_alone.Given as goal

abbrev pub invariant-loop-word : goal.invariant-loop-word
invariant-loop-word l = record {
  dash : list_any is_dash (map string_bytes l.words) ≡ list_any is_dash (map string_bytes (drop l.word-index l.words));
  even : has_no_odd (map string_bytes l.words) ≡ has_no_odd (map string_bytes (drop l.word-index l.words));
}
