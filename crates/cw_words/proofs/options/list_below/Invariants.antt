use Rattle.std.proofs.Common.{◌-◌}
use denote.Text.{Utf8}
use denote.Shadow.{shadow}
use Rattle.cw_words.proofs.Parts.{IsReading}
use Rattle.cw_words.proofs.options.list_below.Given as goal

abbrev pub invariant-parts : goal.invariant-parts
invariant-parts l = record { reading : IsReading l.limit l.most l.text l.rest l.count l.kept; text : shadow (Utf8 l.rest) }

abbrev pub decreases-parts : goal.decreases-parts
decreases-parts l = l.most - l.count
