use Rattle.std.proofs.Common.{rules, arith}
use Rattle.cw_steps.specs.Views.{cells_of, key_of}
use Rattle.cw_steps.proofs.Steps.Marking.{loads}
use Rattle.cw_steps.proofs.Steps.Words.{place_found}
use Rattle.cw_steps.proofs.table.Shared.load.Goals as goal

pub load-requires : goal.load-requires
load-requires g c =
    let s = c.args.self.now in
    let q = place_found (cells_of (key_of s)) (key_of s).columns s.cells s.columns c.args.at c.word_of_place-word.result s.table.shared.table_id.words
    c.word_of_place-word.ensures s.cell_count s.column_count s.words c.requires.there in
    (search rules, q.0, loads _ _ _ _ (omega (arith, q.1)) _)
