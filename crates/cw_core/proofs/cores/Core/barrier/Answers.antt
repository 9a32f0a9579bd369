use Rattle.std.proofs.Common.{◌≡◌, None, false, true, ap, sym, ◌∙◌, subst, arith, rules, inl, inr}
use Rattle.std.specs.Prelude.{vec_len}
use Rattle.std.proofs.lemmas.Option.{slice_get_read}
use Rattle.cw_trace.specs.Verdicts.{is_against}
use Rattle.cw_core.specs.declared.event.Event.TheVariants as event
use Rattle.cw_core.specs.State.{CoreState}
use Rattle.cw_core.specs.Events.{fits, is_met}
use Rattle.cw_core.specs.Kept.{IsBarrier}
use Rattle.cw_core.proofs.InMemory.Out.{seen, running_there, finds}
use Rattle.cw_core.proofs.InMemory.Access.{runs_access, cell_there}
use Rattle.cw_core.proofs.Kept.Barriers.{off, on}
use Rattle.cw_core.proofs.cores.Core.barrier.Goals as goal

pub row-asker-requires : goal.row-asker-requires
row-asker-requires g c = running_there c.args.self.now.machine c.args.strand (runs_access c.args.self.now c.args.strand c.args.cell None c.requires)

pub returns-in-Against-clause-some : goal.returns-in-Against-clause-some
returns-in-Against-clause-some g c =
    let a = c.self.inside in
    let s = c.args.strand in
    let f = finds a c.self.invariant c.args.self.now c.self.view_is s (runs_access c.args.self.now s c.args.cell None c.requires) c.row-asker.result c.row-asker.ensures.row in
    let fit = seen a c.args.self.now (λ k. fits k (event.Access s c.args.cell None) ≡ true) c.self.view_is c.requires in
    let at = slice_get_read a.cells.items (vec_len a.cells) c.args.cell c.index.result.now (search rules) (omega (arith, cell_there a c.args.self.now c.self.view_is s c.args.cell None c.requires)) c.index.ensures in
    let P : CoreState → Type 0 = λ k. IsBarrier k s c.args.cell (record { last = c.in_ok-last.last; block = c.in-Against.block }) in
    subst P c.self.view_is (on a c.self.invariant s c.args.cell fit c.index.result.now at c.in_ok-last.last c.in_ok-last.ensures.newest c.row-asker.result.made.column f.column c.in-Against.block (sym c.in-Against.is ∙ c.ask.ensures.verdict))

pub returns-in-Free : goal.returns-in-Free
returns-in-Free g c =
    let a = c.self.inside in
    let s = c.args.strand in
    let f = finds a c.self.invariant c.args.self.now c.self.view_is s (runs_access c.args.self.now s c.args.cell None c.requires) c.row-asker.result c.row-asker.ensures.row in
    let fit = seen a c.args.self.now (λ k. fits k (event.Access s c.args.cell None) ≡ true) c.self.view_is c.requires in
    let at = slice_get_read a.cells.items (vec_len a.cells) c.args.cell c.index.result.now (search rules) (omega (arith, cell_there a c.args.self.now c.self.view_is s c.args.cell None c.requires)) c.index.ensures in
    let none : is_against c.ask.result ≡ false = elim c.in-Free.is [ inl e ↦ ap is_against e | inr e ↦ ap is_against e ] in
    record {
      none = λ e. sym (ap (λ k. is_met k s c.args.cell) c.self.view_is) ∙ off a c.self.invariant s c.args.cell fit c.index.result.now at c.in_ok-last.last c.in_ok-last.ensures.newest c.row-asker.result.made.column f.column c.ask.result c.ask.ensures.verdict none;
      some = tt;
    }
