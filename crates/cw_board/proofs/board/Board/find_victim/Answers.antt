use Rattle.std.proofs.Common.{reverse, subst}
use Rattle.cw_steps.specs.Tracks.{track_of}
use Rattle.cw_steps.specs.Passes.{ToldBy}
use Rattle.cw_board.specs.Asked.{noted_since}
use Rattle.cw_board.specs.Boards.{cells_in, columns_of}
use Rattle.cw_board.specs.Victims.{IsVictim}
use Rattle.cw_board.proofs.Passes.{one_pass}
use Rattle.cw_board.proofs.Reading.{reads_then}
use Rattle.cw_board.proofs.board.Board.find_victim.Goals as goal

pub returns-in_err-settled-clause-read : goal.returns-in_err-settled-clause-read
returns-in_err-settled-clause-read g c =
    let one = c.version-before in
    let two = c.victim_by_words-victim in
    let three = c.version-after in
    reads_then c.args.token.now two.new.token three.new.token (reads_then c.args.token.now one.new.token two.new.token one.ensures.read two.ensures.read) three.ensures.read

pub returns-clause-read : goal.returns-clause-read
returns-clause-read g c =
    let one = c.version-before in
    let two = c.victim_by_words-victim in
    let three = c.version-after in
    reads_then c.args.token.now two.new.token three.new.token (reads_then c.args.token.now one.new.token two.new.token one.ensures.read two.ensures.read) three.ensures.read

pub returns-clause-found : goal.returns-clause-found
returns-clause-found g c =
    let b = c.args.self.now in
    let one = c.version-before in
    let two = c.victim_by_words-victim in
    let three = c.version-after in
    let told = ToldBy (cells_in b) (columns_of b) (noted_since one.new.token two.new.token) in
    record {
      heard = noted_since one.new.token two.new.token;
      pass = one_pass (cells_in b) one.result three.result c.args.token.now one.new.token two.new.token three.new.token one.ensures.noted two.ensures.read three.ensures.noted c.in_ok-settled.ensures.ok.0 c.in_ok-settled.ensures.ok.1;
      victim = subst (λ k. IsVictim told c.args.last (reverse (track_of k).pending) two.result) one.ensures.read.track two.ensures.victim;
    }
