use Rattle.std.proofs.Common.{rules, ◌∙◌, ap, false, get_or, map, pos, sym, SFits, w64}
use Rattle.std.proofs.lemmas.Int.{to_z-of_z}
use Rattle.cw_tree.specs.declared.access.Entry.{Entry}
use Rattle.cw_tree.specs.Accesses.{cell_value}
use Rattle.cw_tree.specs.AccessStacks.{written_by}
use Rattle.cw_stack.proofs.Keeping.{old_at}
use Rattle.cw_board.proofs.cancelling.old_at.Goals as goal

abbrev no_entry : Entry
no_entry = record { mark = record { strand = 0; stamp = 0 }; wrote = false; value = pos 0; old = pos 0 }

pub returns : goal.returns
returns c first steps =
    let es = c.args.entries.now in
    let n = c.place_of.result in
    let fits : SFits w64 (get_or es n no_entry).old = search rules in
    to_z-of_z w64 (get_or es n no_entry).old fits ∙ old_at first es n no_entry c.place_of.ensures.within steps
    ∙ ap (λ xs. cell_value first (map written_by xs)) (sym c.place_of.ensures.entries)
