use Rattle.std.proofs.Common.{◌<◌, ℕ, List, length, get_or, arith, ap, sym, ◌∙◌, subst}
use Rattle.cw_audit.proofs.Making.{access_there, cell_fits}
use Rattle.cw_audit.proofs.entries.latest_writes.Goals as goal

pub cell_accessed-requires : goal.cell_accessed-requires
cell_accessed-requires c =
    let P : List ℕ → Type 0 = λ xs. get_or xs c.loop-i.i 0 < length c.args.tree.now in
    subst P (sym c.requires.accesses) (access_there c.args.tree.now c.loop-i.i (omega (arith, ap length c.requires.accesses)))

pub index_mut-requires : goal.index_mut-requires
index_mut-requires c =
    let t = c.args.tree.now in
    let n = get_or c.args.accesses.now c.loop-i.i 0 in
    let P : List ℕ → Type 0 = λ xs. get_or xs c.loop-i.i 0 < length t in
    let there : n < length t = subst P (sym c.requires.accesses) (access_there t c.loop-i.i (omega (arith, ap length c.requires.accesses))) in
    let ok = c.loop-i.last.ok in
    omega (arith, c.loop-i.invariant.last, cell_fits t c.args.cells n c.in-Some.cell c.requires.cells there (sym c.cell_accessed.ensures ∙ c.in-Some.is), ok.0)
