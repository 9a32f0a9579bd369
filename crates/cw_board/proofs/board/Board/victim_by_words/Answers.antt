use Rattle.std.proofs.Common.{◌≡◌, ◌∙◌, List, subst, arith}
use Rattle.std.specs.Prelude.{slice_get, Some}
use Rattle.cw_log.specs.declared.log.Above.{Above}
use Rattle.cw_steps.specs.Passes.{ToldBy}
use Rattle.cw_board.specs.Asked.{noted_since}
use Rattle.cw_board.specs.Boards.{cells_in, columns_of}
use Rattle.cw_board.specs.Victims.{outermost_first}
use Rattle.cw_board.proofs.Reading.{reads_then}
use Rattle.cw_board.proofs.Searching.{all_above, block_around, blocks_are, one_above, one_not_above}
use Rattle.cw_board.proofs.board.Board.victim_by_words.Goals as goal

pub returns-then-not-contains_words-clause-read : goal.returns-then-not-contains_words-clause-read
returns-then-not-contains_words-clause-read g c = reads_then c.args.token.now c.loop-k.token c.contains_words.new.token c.loop-k.invariant.read c.contains_words.ensures.read

pub returns-then-not-contains_words-clause-victim : goal.returns-then-not-contains_words-clause-victim
returns-then-not-contains_words-clause-victim g c =
    let b = c.args.self.now in
    let t = c.args.token.now in
    let u = c.loop-k.token in
    let v = c.contains_words.new.token in
    let inv = c.loop-k.invariant in
    let block = c.block_at-block.result in
    let is = subst (λ (xs : List Above). slice_get xs c.loop-k.k ≡ Some block) (blocks_are t u c.pending.result.now inv.read.track c.pending.ensures.blocks) c.block_at-block.ensures in
    one_not_above (cells_in b) (columns_of b) c.args.last t u v inv.read c.contains_words.ensures.read (outermost_first t) c.loop-k.k block is inv.above c.if-not-contains_words.ensures.given

pub returns-then-not-contains_words-clause-around : goal.returns-then-not-contains_words-clause-around
returns-then-not-contains_words-clause-around g c =
    block_around c.args.token.now c.loop-k.token c.pending.result.now c.loop-k.k c.block_at-block.result c.loop-k.invariant.read.token c.pending.ensures.around c.block_at-block.ensures

pub loop-k-preserved : goal.loop-k-preserved
loop-k-preserved g c =
    let b = c.args.self.now in
    let t = c.args.token.now in
    let u = c.loop-k.token in
    let v = c.contains_words.new.token in
    let inv = c.loop-k.invariant in
    let block = c.block_at-block.result in
    let is = subst (λ (xs : List Above). slice_get xs c.loop-k.k ≡ Some block) (blocks_are t u c.pending.result.now inv.read.track c.pending.ensures.blocks) c.block_at-block.ensures in
    record {
      table = c.contains_words.ensures.read.table ∙ inv.table;
      read = reads_then t u v inv.read c.contains_words.ensures.read;
      count = inv.count;
      above = one_above (cells_in b) (columns_of b) c.args.last t u v inv.read c.contains_words.ensures.read (outermost_first t) c.loop-k.k block is inv.above c.if-not-contains_words.ensures.given;
    }

pub returns-clause-victim : goal.returns-clause-victim
returns-clause-victim g c =
    let b = c.args.self.now in
    let t = c.args.token.now in
    all_above (ToldBy (cells_in b) (columns_of b) (noted_since t c.loop-k.token)) c.args.last (outermost_first t) c.loop-k.k (omega (arith, c.loop-k-test.false, c.loop-k.invariant.count)) c.loop-k.invariant.above
