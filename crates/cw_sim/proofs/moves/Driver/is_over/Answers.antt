-- There is main.
use Rattle.std.proofs.Common.{◌<◌, length, sym, subst}
use Rattle.cw_core.specs.State.{CoreState}
use Rattle.cw_core.proofs.Events.Going.{well}
use Rattle.cw_sim.proofs.moves.Driver.is_over.Goals as goal

pub has_finished-requires : goal.has_finished-requires
has_finished-requires c =
    let k = c.requires.0.m.core in
    let st = c.requires.1 in
    let P : CoreState → Type 0 = λ j. 0 < length j.machine.tree in
    subst P (sym st.core) (well k.machine.first k st.is_core).sound.tree.some
