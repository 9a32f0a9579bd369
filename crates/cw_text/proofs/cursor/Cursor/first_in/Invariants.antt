use Rattle.std.proofs.Common.{◌≡◌, ◌≤◌, ◌+◌, ◌^◌, length}
use Rattle.cw_text.specs.Lexemes.{keywords_of, lexemes_from}
use Rattle.cw_text.proofs.cursor.Cursor.first_in.Given as goal

abbrev pub invariant-loop-words : goal.invariant-loop-words
invariant-loop-words l = record {
  same : lexemes_from (keywords_of l.fn.language) l.rest_line 0 l.rest ≡ lexemes_from (keywords_of l.fn.language) l.fn.line 0 l.fn.text;
  room : l.rest_line + length l.rest ≤ 2 ^ 26 + 1;
}

abbrev pub decreases-loop-words : goal.decreases-loop-words
decreases-loop-words l = length l.rest
