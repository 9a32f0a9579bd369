use Rattle.std.proofs.Common.{ap, refl}
use Rattle.cw_trace.specs.declared.tier.Row.{Row}
use Rattle.cw_steps.specs.declared.places.Place.TheVariants.{Owner}
use Rattle.cw_steps.specs.Views.{key_of, view_of}
use Rattle.cw_steps.specs.Words.{row_of}
use Rattle.cw_steps.proofs.Steps.Changing.{word_of_row}
use Rattle.cw_board.proofs.board.Board.show_column.Goals as goal

pub store-requires-clause-fits : goal.store-requires-clause-fits
store-requires-clause-fits c =
    let i = c.args.column in
    word_of_row (key_of c.args.self.now.shared) (view_of c.args.token.now) i (row_of c.args.tier.now i) (Owner i) c.row-row.result.owner c.requires.fits (refl, ap (λ (r : Row). r.owner) c.row-row.ensures)
