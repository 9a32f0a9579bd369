use Rattle.std.proofs.Common.{refl, ◌∙◌, ap, arith, length, length-append, [], ◌∷◌}
use Rattle.cw_steps.specs.Views.{key_of}
use Rattle.cw_steps.proofs.Leaving.Journals.{each_more, journal_since, looks_more, looks_not, none_at, quiet_still}
use Rattle.cw_steps.proofs.table.Shared.journals.Goals as goal

pub loop-cell-init : goal.loop-cell-init
loop-cell-init c = record {
  many = ap length c.new-journals.ensures.items;
  each = λ n es e. absurd (none_at c.new-journals.result.items n es c.new-journals.ensures.items e);
  table = c.requires.table;
  quiet = c.requires.quiet;
  looked = looks_not c.args.token.now.seat.me;
  room = refl;
  token = refl;
}

pub loop-cell-preserved : goal.loop-cell-preserved
loop-cell-preserved c =
    let v = c.loop-cell.invariant in
    let j = c.journal.ensures in
    let me = c.args.token.now.seat.me in
    let key = key_of c.args.self.now in
    record {
      many = ap length c.in_ok-push.ensures.items ∙ length-append c.loop-cell.journals.items (c.in_ok-entries.entries ∷ []) ∙ omega (arith, v.many);
      each = each_more key me c.loop-cell.journals.items c.push.new.self.items c.in_ok-entries.entries c.loop-cell.cell v.many v.each
          (journal_since key me c.loop-cell.token.seat.me c.loop-cell.cell c.in_ok-entries.entries v.looked c.in_ok-entries.ensures.journal) c.in_ok-push.ensures.items;
      table = j.table;
      quiet = quiet_still c.loop-cell.token.seat.me c.journal.new.token.seat.me v.quiet j.looked;
      looked = looks_more me c.loop-cell.token.seat.me c.journal.new.token.seat.me v.looked j.looked;
      room = j.room ∙ v.room;
      token = j.token ∙ v.token;
    }
