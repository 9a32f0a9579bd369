use Rattle.std.proofs.Common.{ℕ, List, get_or, length, refl, sym, ap, arith}
use Rattle.cw_steps.specs.Words.{row_of}
use Rattle.cw_steps.proofs.Walked.{had_at}
use Rattle.cw_board.proofs.Showing.{can_change, can_make_even, can_store, has_shown, shows_more, shows_none}
use Rattle.cw_board.proofs.board.Board.show_tier.Goals as goal

pub version_odd-requires-clause-fits : goal.version_odd-requires-clause-fits
version_odd-requires-clause-fits c =
    let h = c.requires.held in
    let q = c.requires.changed in
    can_change c.args.self.now h.1 h.0 c.args.token.now c.args.fork q.0 c.args.tier.now h.2 c.requires.quiet c.requires.few q.2

pub loop-column-init : goal.loop-column-init
loop-column-init c =
    let o = c.version_odd.ensures in
    shows_none c.args.self.now c.args.fork c.args.tier.now c.args.tier.now.touched c.args.token.now c.version_odd.new.token o.table o.view o.slots o.track o.stop o.token

pub show_column-requires-clause-fits : goal.show_column-requires-clause-fits
show_column-requires-clause-fits c =
    let xs : List ℕ = c.touched-touched.result.now in
    let i : ℕ = c.loop-column.column-index in
    can_store c.args.self.now c.args.fork c.args.tier.now c.args.tier.now.touched c.args.token.now c.loop-column.token c.requires.held.2.turn i (get_or xs i 0) (row_of c.args.tier.now (get_or xs i 0)) c.loop-column.invariant
    (c.touched-touched.ensures.low (get_or xs i 0) (had_at xs i (get_or xs i 0) 0 c.loop-column-test.true refl)) c.requires.few refl

pub show_column-requires-clause-used : goal.show_column-requires-clause-used
show_column-requires-clause-used c =
    let xs : List ℕ = c.touched-touched.result.now in
    let i : ℕ = c.loop-column.column-index in
    c.touched-touched.ensures.low (get_or xs i 0) (had_at xs i (get_or xs i 0) 0 c.loop-column-test.true refl)

pub loop-column-preserved : goal.loop-column-preserved
loop-column-preserved c =
    let xs : List ℕ = c.touched-touched.result.now in
    let i : ℕ = c.loop-column.column-index in
    let o = c.show_column.ensures in
    shows_more c.args.self.now c.args.fork c.args.tier.now c.args.tier.now.touched c.args.token.now c.loop-column.token c.requires.held.2.turn i (get_or xs i 0) c.show_column.new.token c.loop-column.invariant
    (ap (λ (ns : List ℕ). get_or ns i 0) (sym c.touched-touched.ensures.value)) o.table o.view o.slots o.track o.stop o.token

pub version_even-requires-clause-fits : goal.version_even-requires-clause-fits
version_even-requires-clause-fits c =
    let q = c.requires.changed in
    can_make_even c.args.self.now c.args.fork c.args.tier.now c.args.tier.now.touched c.args.token.now c.loop-column.token c.requires.held.2.turn c.loop-column.column-index q.0 c.loop-column.invariant refl
    (omega (arith, c.loop-column-test.false, ap (λ (ns : List ℕ). length ns) c.touched-touched.ensures.value)) q.1 q.2

pub returns : goal.returns
returns c =
    let o = c.version_even.ensures in record {
      shown =
          has_shown c.args.self.now c.args.fork c.args.tier.now c.args.tier.now.touched c.args.token.now c.loop-column.token c.requires.held.2.turn c.loop-column.column-index c.version_even.new.token c.loop-column.invariant o.table o.view o.slots o.track o.stop o.token;
    }
