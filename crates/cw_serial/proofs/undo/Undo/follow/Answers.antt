use Rattle.std.proofs.Common.{◌∙◌, List, SFits, refl, rules, subst, sym, w64}
use Rattle.std.specs.Prelude.{slice_set}
use Rattle.std.specs.List.{AllZip}
use Rattle.std.proofs.lemmas.Int.{to_z-of_z}
use Rattle.cw_strand.specs.declared.want.Want.TheVariants.{Store}
use Rattle.cw_serial.specs.declared.undo.Write.{Write}
use Rattle.cw_serial.specs.Wants.{since_after}
use Rattle.cw_serial.specs.InMemory.{IsSince}
use Rattle.cw_serial.proofs.Undone.{since_writes}
use Rattle.cw_serial.proofs.undo.Undo.follow.Goals as goal

pub returns-in_ok-push-in-Store-clause-follows : goal.returns-in_ok-push-in-Store-clause-follows
returns-in_ok-push-in-Store-clause-follows c = rw c.in-Store.is (record {
  begun = refl;
  since = λ since are.
      let old = c.args.self.now in
      let memory = c.args.memory.now in
      let v = c.in-Store.field-1 in
      let fits : SFits w64 c.value_at-replaced.result = search rules in
      let P : List Write → Type 0 = λ ws. AllZip (IsSince ws (slice_set memory c.in-Store.element v)) old.begun (since_after (Store c.in-Store.element v) memory since) in
      subst P (sym c.in_ok-push-in-Store.ensures.items) (since_writes old.writes.items memory c.in-Store.element v _ (to_z-of_z w64 c.value_at-replaced.result fits ∙ c.value_at-replaced.ensures) old.begun since are);
})
