use Rattle.std.proofs.Common.{◌≡◌, take, string_bytes}
use Rattle.cw_base.proofs.text.Text.from_ascii.Given as goal

abbrev pub invariant-loop-byte : goal.invariant-loop-byte
invariant-loop-byte l = string_bytes l.text ≡ take l.byte-index l.bytes
