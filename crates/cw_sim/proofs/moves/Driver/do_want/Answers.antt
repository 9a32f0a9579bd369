-- The strand does what it wants.
use Rattle.std.proofs.Common.{refl, ap, sym, ◌∙◌, w64, SFits, rules, inl, inr}
use Rattle.std.proofs.lemmas.Int.{to_z-of_z}
use Rattle.std.proofs.lemmas.Result.{on_ok_weaker}
use Rattle.cw_strand.specs.declared.want.Want.TheVariants as want
use Rattle.cw_sim.proofs.InMemory.Moves.{may_do, may_fork, may_finish, fault_fits, faulted, acts_so}
use Rattle.cw_sim.proofs.moves.Driver.do_want.Goals as goal

pub access_cell-requires : goal.access_cell-requires
access_cell-requires c = (c.requires.0, may_do c.args.self.now c.args.w c.args.strand c.args.want c.requires.0 c.requires.1 _ c.in-Load.is)

pub access_cell-requires-in-Store : goal.access_cell-requires-in-Store
access_cell-requires-in-Store c =
    let signed : SFits w64 c.in-Store.value = search rules in
    (c.requires.0, may_do c.args.self.now c.args.w c.args.strand c.args.want c.requires.0 c.requires.1 _ (c.in-Store.is ∙ ap (want.Store c.in-Store.cell) (sym (to_z-of_z w64 c.in-Store.value signed))))

pub put_out-requires : goal.put_out-requires
put_out-requires c =
    let signed : SFits w64 c.in-Out.value = search rules in
    (c.requires.0, may_do c.args.self.now c.args.w c.args.strand c.args.want c.requires.0 c.requires.1 _ (c.in-Out.is ∙ ap want.Out (sym (to_z-of_z w64 c.in-Out.value signed))))

pub begin_block-requires : goal.begin_block-requires
begin_block-requires c = (c.requires.0, may_do c.args.self.now c.args.w c.args.strand c.args.want c.requires.0 c.requires.1 _ c.in-Begin.is)

pub end_block-requires : goal.end_block-requires
end_block-requires c = (c.requires.0, may_do c.args.self.now c.args.w c.args.strand c.args.want c.requires.0 c.requires.1 _ c.in-End.is)

pub give_up-requires : goal.give_up-requires
give_up-requires c = (c.requires.0, may_do c.args.self.now c.args.w c.args.strand c.args.want c.requires.0 c.requires.1 _ c.in-Cancel.is)

pub fork_strand-requires : goal.fork_strand-requires
fork_strand-requires c = (c.requires.0, may_fork c.args.self.now c.args.w c.args.strand c.args.want c.requires.0 c.requires.1 _ c.in-Fork.is refl)

pub finish_strand-requires : goal.finish_strand-requires
finish_strand-requires c = (
  c.requires.0,
  elim c.in-Sync.is [
    | inl is ↦ may_finish c.args.self.now c.args.w c.args.strand c.args.want c.requires.0 c.requires.1 want.Sync is refl
    | inr is ↦ may_finish c.args.self.now c.args.w c.args.strand c.args.want c.requires.0 c.requires.1 want.Done is refl
  ],
)

pub stop_run-requires : goal.stop_run-requires
stop_run-requires c = fault_fits c.args.self.now c.args.w c.args.strand c.args.want c.requires.0 c.requires.1 _ c.in-Fault.is c.in-Fault.kind refl

pub returns-in-Load : goal.returns-in-Load
returns-in-Load c =
    on_ok_weaker c.access_cell.result
    (λ comes z may. let is = c.in-Load.is in acts_so c.args.self.now c.args.w c.args.strand c.args.want z may _ is c.access_cell.new.self (comes z (may_do c.args.self.now c.args.w c.args.strand c.args.want z may _ is)))
    c.access_cell.ensures

pub returns-in-Store : goal.returns-in-Store
returns-in-Store c =
    let signed : SFits w64 c.in-Store.value = search rules in
    on_ok_weaker c.access_cell-in-Store.result
    (λ comes z may. let is = c.in-Store.is ∙ ap (want.Store c.in-Store.cell) (sym (to_z-of_z w64 c.in-Store.value signed)) in acts_so c.args.self.now c.args.w c.args.strand c.args.want z may _ is c.access_cell-in-Store.new.self (comes z (may_do c.args.self.now c.args.w c.args.strand c.args.want z may _ is)))
    c.access_cell-in-Store.ensures

pub returns-in-Out : goal.returns-in-Out
returns-in-Out c =
    let signed : SFits w64 c.in-Out.value = search rules in
    on_ok_weaker c.put_out.result
    (λ comes z may. let is = c.in-Out.is ∙ ap want.Out (sym (to_z-of_z w64 c.in-Out.value signed)) in acts_so c.args.self.now c.args.w c.args.strand c.args.want z may _ is c.put_out.new.self (comes z (may_do c.args.self.now c.args.w c.args.strand c.args.want z may _ is)))
    c.put_out.ensures

pub returns-in-Begin : goal.returns-in-Begin
returns-in-Begin c =
    on_ok_weaker c.begin_block.result
    (λ comes z may. let is = c.in-Begin.is in acts_so c.args.self.now c.args.w c.args.strand c.args.want z may _ is c.begin_block.new.self (comes z (may_do c.args.self.now c.args.w c.args.strand c.args.want z may _ is)))
    c.begin_block.ensures

pub returns-in-End : goal.returns-in-End
returns-in-End c =
    on_ok_weaker c.end_block.result
    (λ comes z may. let is = c.in-End.is in acts_so c.args.self.now c.args.w c.args.strand c.args.want z may _ is c.end_block.new.self (comes z (may_do c.args.self.now c.args.w c.args.strand c.args.want z may _ is)))
    c.end_block.ensures.comes

pub returns-in-Cancel : goal.returns-in-Cancel
returns-in-Cancel c =
    on_ok_weaker c.give_up.result
    (λ comes z may. let is = c.in-Cancel.is in acts_so c.args.self.now c.args.w c.args.strand c.args.want z may _ is c.give_up.new.self (comes z (may_do c.args.self.now c.args.w c.args.strand c.args.want z may _ is)))
    c.give_up.ensures

pub returns-in-Fork : goal.returns-in-Fork
returns-in-Fork c =
    on_ok_weaker c.fork_strand.result
    (λ comes z may. let is = c.in-Fork.is in acts_so c.args.self.now c.args.w c.args.strand c.args.want z may _ is c.fork_strand.new.self (comes z (may_fork c.args.self.now c.args.w c.args.strand c.args.want z may _ is refl)))
    c.fork_strand.ensures

pub returns-in-Sync : goal.returns-in-Sync
returns-in-Sync c =
    on_ok_weaker c.finish_strand.result
    (λ comes z may. elim c.in-Sync.is [
      | inl is ↦ acts_so c.args.self.now c.args.w c.args.strand c.args.want z may want.Sync is c.finish_strand.new.self (comes z (may_finish c.args.self.now c.args.w c.args.strand c.args.want z may want.Sync is refl))
      | inr is ↦ acts_so c.args.self.now c.args.w c.args.strand c.args.want z may want.Done is c.finish_strand.new.self (comes z (may_finish c.args.self.now c.args.w c.args.strand c.args.want z may want.Done is refl))
    ])
    c.finish_strand.ensures

pub returns-in-Fault : goal.returns-in-Fault
returns-in-Fault c =
    on_ok_weaker c.stop_run.result
    (λ stands z may. faulted c.args.self.now c.args.w c.args.strand c.args.want z may _ c.in-Fault.is c.in-Fault.kind refl c.stop_run.new.self (stands z))
    c.stop_run.ensures
