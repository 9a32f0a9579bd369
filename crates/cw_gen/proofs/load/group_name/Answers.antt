use Rattle.std.proofs.Common.{◌<◌, List, ℕ, sym, ◌∙◌, subst, arith}
use Rattle.std.specs.Prelude.{All}
use Rattle.cw_gen.proofs.Names.{group_name_is_ascii}
use Rattle.cw_gen.proofs.load.group_name.Goals as goal

pub from_ascii-requires : goal.from_ascii-requires
from_ascii-requires c =
    let Ascii : List ℕ → Type 0 = All (λ b. b < 128) in
    subst Ascii (sym (c.as_bytes.ensures.value ∙ c.in_ok-name.ensures.ok)) (group_name_is_ascii c.args.group (omega (arith, c.ranges.group.fits)))
