use Rattle.std.proofs.Common.{◌<◌, length, arith}
use Rattle.cw_trace.proofs.Marks.Bracketing.{mark_low, marked, told}
use Rattle.cw_trace.proofs.Marks.Numbering.{has_contains}
use Rattle.cw_trace.proofs.brackets.Brackets.before.Goals as goal

pub index-requires : goal.index-requires
index-requires g c =
    let a = c.self.inside in
    let low : c.args.a < length a.elements.items = mark_low a c.args.self.now c.self.invariant c.self.view_is c.args.a c.requires.first in
    omega (arith, a.elements.ok.0, low)

pub index-requires-2 : goal.index-requires-2
index-requires-2 g c =
    let a = c.self.inside in
    let low : c.args.b < length a.elements.items = mark_low a c.args.self.now c.self.invariant c.self.view_is c.args.b c.requires.second in
    omega (arith, a.elements.ok.0, low)

pub before-requires-clause-first : goal.before-requires-clause-first
before-requires-clause-first g c = has_contains _ _ (marked c.self.inside c.args.self.now c.self.invariant c.self.view_is c.args.a c.index.result.now c.requires.first c.index.ensures).there

pub before-requires-clause-second : goal.before-requires-clause-second
before-requires-clause-second g c = has_contains _ _ (marked c.self.inside c.args.self.now c.self.invariant c.self.view_is c.args.b c.index-2.result.now c.requires.second c.index-2.ensures).there

pub returns-clause-order : goal.returns-clause-order
returns-clause-order g c =
    let a = c.self.inside in
    told a c.args.self.now c.self.invariant c.self.view_is c.args.a c.args.b c.index.result.now c.index-2.result.now
    (marked a c.args.self.now c.self.invariant c.self.view_is c.args.a c.index.result.now c.requires.first c.index.ensures)
    (marked a c.args.self.now c.self.invariant c.self.view_is c.args.b c.index-2.result.now c.requires.second c.index-2.ensures) c.before-2.result c.before-2.ensures.order
