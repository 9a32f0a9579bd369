use Rattle.std.proofs.Common.{refl}
use Rattle.cw_steps.specs.Views.{key_of, view_of}
use Rattle.cw_steps.proofs.Steps.Changing.{row_still, word_of_row}
use Rattle.cw_steps.proofs.table.Shared.store_row.Goals as goal

pub store-requires-clause-fits : goal.store-requires-clause-fits
store-requires-clause-fits c = word_of_row _ _ c.args.column c.args.row.now _ _ c.requires.fits (refl, refl)

pub store-requires-2-clause-fits : goal.store-requires-2-clause-fits
store-requires-2-clause-fits c =
    let key = key_of c.args.self.now in
    let i = c.args.column in
    let row = c.args.row.now in
    let owner = row_still key (view_of c.args.token.now) (view_of c.store.new.token) i row _ c.requires.fits c.store.ensures.view in
    word_of_row _ _ i row _ _ owner (refl, c.as_word.ensures)

pub store-requires-3-clause-fits : goal.store-requires-3-clause-fits
store-requires-3-clause-fits c =
    let key = key_of c.args.self.now in
    let i = c.args.column in
    let row = c.args.row.now in
    let owner = row_still key (view_of c.args.token.now) (view_of c.store.new.token) i row _ c.requires.fits c.store.ensures.view in
    let lead = row_still key (view_of c.store.new.token) (view_of c.store-2.new.token) i row _ owner c.store-2.ensures.view in
    word_of_row _ _ i row _ _ lead (refl, c.as_word-2.ensures)

pub store-requires-4-clause-fits : goal.store-requires-4-clause-fits
store-requires-4-clause-fits c =
    let key = key_of c.args.self.now in
    let i = c.args.column in
    let row = c.args.row.now in
    let owner = row_still key (view_of c.args.token.now) (view_of c.store.new.token) i row _ c.requires.fits c.store.ensures.view in
    let lead = row_still key (view_of c.store.new.token) (view_of c.store-2.new.token) i row _ owner c.store-2.ensures.view in
    let up = row_still key (view_of c.store-2.new.token) (view_of c.store-3.new.token) i row _ lead c.store-3.ensures.view in
    word_of_row _ _ i row _ _ up (refl, refl)

pub store-requires-5-clause-fits : goal.store-requires-5-clause-fits
store-requires-5-clause-fits c =
    let key = key_of c.args.self.now in
    let i = c.args.column in
    let row = c.args.row.now in
    let owner = row_still key (view_of c.args.token.now) (view_of c.store.new.token) i row _ c.requires.fits c.store.ensures.view in
    let lead = row_still key (view_of c.store.new.token) (view_of c.store-2.new.token) i row _ owner c.store-2.ensures.view in
    let up = row_still key (view_of c.store-2.new.token) (view_of c.store-3.new.token) i row _ lead c.store-3.ensures.view in
    let opening = row_still key (view_of c.store-3.new.token) (view_of c.store-4.new.token) i row _ up c.store-4.ensures.view in
    word_of_row _ _ i row _ _ opening (refl, refl)
