use Rattle.std.proofs.Common.{◌≡◌, ap, sym, ◌∙◌, arith, length, get_or}
use Rattle.std.specs.Prelude.{◌&&◌, ◌==◌}
use Rattle.cw_tree.specs.Series.{strand_of}
use Rattle.cw_tree.proofs.Lists.{get_map_below, length_map_below}
use Rattle.cw_audit.proofs.strands.told.is_begun_in.Goals as goal

pub bounds-strands-n : goal.bounds-strands-n
bounds-strands-n c = omega (arith, ap length c.requires.strands, length_map_below (strand_of c.args.tree.now) (length c.args.tree.now))

pub returns-then-is_pending : goal.returns-then-is_pending
returns-then-is_pending c =
    let t = c.args.tree.now in
    let n = c.args.n in
    let x = c.args.strand in
    let read : get_or c.args.strands.now n 0 ≡ strand_of t n = ap (λ xs. get_or xs n 0) c.requires.strands ∙ get_map_below (strand_of t) (length t) n 0 c.requires.there in
    let pending = sym c.is_pending.ensures ∙ c.if-is_pending.true in
    ap (λ m. m == x) read ∙ sym (ap (λ b. b && (strand_of t n == x)) pending)
