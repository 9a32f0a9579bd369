use Rattle.std.proofs.Common.{◌+◌, ◌-◌, ◌∷◌, ◌++◌, ap, sym, ◌∙◌, map}
use Rattle.cw_text.specs.Syntax.{statement_of}
use Rattle.cw_gen.specs.Load.{spawned_transfer, state_after, transfer_from, transfers}
use Rattle.cw_gen.proofs.Draws.{map_more, state_more, transfers_more}
use Rattle.cw_gen.proofs.load.transfers.Goals as goal

pub loop-drawn-preserved : goal.loop-drawn-preserved
loop-drawn-preserved c =
    let i = c.loop-drawn._drawn in
    let n = c.args.count in
    let s = c.loop-drawn.draws in
    let old = c.loop-drawn.body.items in
    let next = c.in_ok-transfer.ensures.drawn in
    let low = c.loop-drawn-test.true in
    record {
      calls =
          map_more statement_of old c.push.new.self.items c.in_ok-transfer.field-0 (spawned_transfer (transfer_from s)) (map spawned_transfer (transfers (n - (i + 1)) c.transfer.new.draws)) c.in_ok-push.ensures.items c.in_ok-transfer.ensures.call
          ∙ ap (λ ts. map statement_of old ++ map spawned_transfer ts) (sym (transfers_more i n s low ∙ ap (λ k. transfer_from s ∷ transfers (n - (i + 1)) k) (sym next)))
          ∙ c.loop-drawn.invariant.calls;
      state = ap (state_after (n - (i + 1))) next ∙ sym (state_more i n s low) ∙ c.loop-drawn.invariant.state;
    }
