use Rattle.std.proofs.Common.{rules, refl}
use Rattle.cw_steps.specs.Places.{word_of_place}
use Rattle.cw_steps.specs.Views.{cells_of, key_of}
use Rattle.cw_steps.specs.Words.{row_of}
use Rattle.cw_steps.proofs.Steps.Words.{place_found, row_there}
use Rattle.cw_steps.proofs.table.Shared.store.Goals as goal

pub store_as-requires-clause-table : goal.store_as-requires-clause-table
store_as-requires-clause-table c =
    let s = c.args.self.now in
    let f = c.requires.fits in
    let q = place_found (cells_of (key_of s)) (key_of s).columns s.cells s.columns c.args.at (word_of_place s.cells s.columns c.args.at) s.table.shared.table_id.words
    refl s.cell_count s.column_count s.words (row_there (key_of s).columns f.column (row_of f.under_way.change.come f.column) c.args.at c.args.value f.low f.row) in
    (search rules, q.0)
