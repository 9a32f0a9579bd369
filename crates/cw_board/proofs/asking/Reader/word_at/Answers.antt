use Rattle.std.proofs.Common.{refl, subst}
use Rattle.std.specs.Borrow.{MutBor}
use Rattle.cw_steps.specs.declared.table.StrandToken.{StrandToken}
use Rattle.cw_steps.specs.Places.{IsThere}
use Rattle.cw_board.proofs.Reading.{load_heard, load_reads, load_stays}
use Rattle.cw_board.proofs.asking.Reader.word_at.Goals as goal

pub returns-then-is_there-clause-ready : goal.returns-then-is_there-clause-ready
returns-then-is_there-clause-ready g c =
    let s = c.args.self.now in
    let e = c.load.ensures in
    load_reads s.board.now s.token _ c.args.at c.load.result (record { name = refl; table = e.table; view = e.view; slots = e.slots; track = e.track; token = e.token }) g.W.Asking.question c.requires

pub returns-then-is_there-clause-heard : goal.returns-then-is_there-clause-heard
returns-then-is_there-clause-heard g c =
    let s = c.args.self.now in
    let e = c.load.ensures in
    let lent : MutBor StrandToken = record { ref_ptr = s.token.ref_ptr; ghost_name = s.token.ghost_name; now = c.load.new.token } in
    load_heard s.board.now s.token lent c.args.at c.load.result (record { name = refl; table = e.table; view = e.view; slots = e.slots; track = e.track; token = e.token }) g.W.Asking.question c.requires
    (subst (λ n. IsThere n c.args.at) c.columns.ensures (c.is_there.ensures.there c.if-is_there.true))

pub returns-then-is_there-clause-kept : goal.returns-then-is_there-clause-kept
returns-then-is_there-clause-kept g c =
    let s = c.args.self.now in
    let e = c.load.ensures in
    let lent : MutBor StrandToken = record { ref_ptr = s.token.ref_ptr; ghost_name = s.token.ghost_name; now = c.load.new.token } in
    load_stays s.board.now s.token lent c.args.at c.load.result (record { name = refl; table = e.table; view = e.view; slots = e.slots; track = e.track; token = e.token }) g.W.Asking.question c.requires
