use Rattle.cw_trace.specs.Told.{HoldsRead}
use Rattle.cw_xconf.proofs.Rules.{verdict_is, tells_by_reading, holds_back}
use Rattle.cw_xconf.proofs.query.ask.Goals as goal

pub returns-clause-verdict : goal.returns-clause-verdict
returns-clause-verdict g c = verdict_is c.args.tier.now.columns c.args.gaps.now.words.items (HoldsRead c.ask_by.new.columns.tier.columns c.ask_by.new.columns.gaps) (holds_back c.args.tier.now.columns c.ask_by.new.columns.tier.columns c.args.gaps.now.words.items c.ask_by.new.columns.gaps (rw (c.reader.ensures, c.reader-2.ensures) at c.ask_by.ensures.kept)) c.args.last c.args.asker c.ask_by.result c.ask_by.ensures.given

pub returns-clause-tells : goal.returns-clause-tells
returns-clause-tells g c = c.ask_by.ensures.tells c.args.tier.now.columns c.args.gaps.now.words.items (holds_back c.args.tier.now.columns c.ask_by.new.columns.tier.columns c.args.gaps.now.words.items c.ask_by.new.columns.gaps (rw (c.reader.ensures, c.reader-2.ensures) at c.ask_by.ensures.kept))

pub returns-clause-by_reading : goal.returns-clause-by_reading
returns-clause-by_reading g c = tells_by_reading c.args.tier.now.columns c.args.gaps.now.words.items (HoldsRead c.ask_by.new.columns.tier.columns c.ask_by.new.columns.gaps) (holds_back c.args.tier.now.columns c.ask_by.new.columns.tier.columns c.args.gaps.now.words.items c.ask_by.new.columns.gaps (rw (c.reader.ensures, c.reader-2.ensures) at c.ask_by.ensures.kept)) c.args.last c.args.asker c.ask_by.result c.ask_by.ensures.given
