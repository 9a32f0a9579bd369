use Rattle.std.proofs.Common.{◌<◌, arith, rules, ap}
use Rattle.cw_words.specs.Reading.{parts_behind}
use Rattle.cw_words.proofs.Parts.{goes_on, too_many}
use Rattle.cw_words.proofs.options.list_below.Goals as goal

pub returns-then-count-most : goal.returns-then-count-most
returns-then-count-most c = too_many c.args.limit c.args.most c.args.text.now c.parts.rest.now c.parts.count c.parts.kept c.parts.invariant.reading c.if-count-most.true

pub parts-preserved : goal.parts-preserved
parts-preserved c =
    let less : c.parts.count < c.args.most = omega (arith, c.parts.invariant.reading.few) in
    record {
      reading = goes_on c.args.limit c.args.most c.args.text.now c.parts.rest.now c.parts.count c.parts.kept c.parts.invariant.reading c.first_part.result.0.now (parts_behind c.first_part.result.1) c.first_part.ensures c.in_ok-number.number
          (search rules) c.with_one-kept.result c.in-Some.behind.now (ap parts_behind c.in-Some.is) less c.with_one-kept.ensures;
      text = search rules;
    }
