use Rattle.std.proofs.Common.{◌∙◌, ap, reverse, sym}
use Rattle.cw_steps.specs.Around.{innermost}
use Rattle.cw_steps.specs.Tracks.{begins}
use Rattle.cw_steps.proofs.Tracks.Pending.{innermost_around}
use Rattle.cw_steps.proofs.table.StrandToken.pending.Goals as goal

pub returns-clause-around : goal.returns-clause-around
returns-clause-around c =
    let t = c.args.self.now in
    ap (λ bs. begins (reverse bs)) c.as_slice.ensures.value ∙ sym (ap innermost t.arounds ∙ innermost_around (reverse t.track.pending.items) (reverse t.track.outer.items))
