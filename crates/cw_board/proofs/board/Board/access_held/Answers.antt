use Rattle.std.proofs.Common.{◌≡◌, ◌∙◌, subst}
use Rattle.std.proofs.lemmas.Result.{IfOk-weaker}
use Rattle.cw_tree.specs.AccessStacks.{stamps}
use Rattle.cw_tree.specs.Newest.{last_eight}
use Rattle.cw_steps.specs.declared.draw.Aim.TheVariants as aims
use Rattle.cw_steps.specs.Stands.{token_of}
use Rattle.cw_steps.specs.Tracks.{one_more, track_of, tries_of}
use Rattle.cw_steps.specs.Views.{view_of}
use Rattle.cw_board.specs.Victims.{GivesValue, IsJudgedBy, IsJudgedSince, Refuses}
use Rattle.cw_board.proofs.Reading.{read_returned}
use Rattle.cw_board.proofs.Returning.{returned_cell, returned_holds}
use Rattle.cw_board.proofs.Refusing.{gives_none, has_asked, ok_both, refused_by}
use Rattle.cw_board.proofs.board.Board.access_held.Goals as goal

pub refuse-requires-clause-held : goal.refuse-requires-clause-held
refuse-requires-clause-held g c =
    let h = c.requires.held in
    let r = c.barrier.ensures.read in
    let t = c.args.token.now in
    let u = c.barrier.new.token in
    (h.0, h.1, returned_holds c.args.self.now c.args.cell h.1 h.0 t u h.2 (r.table ∙ h.2.table) (read_returned t u r) r.track r.token)

pub make_access-requires-in-None-clause-held : goal.make_access-requires-in-None-clause-held
make_access-requires-in-None-clause-held g c =
    let h = c.requires.held in
    let r = c.barrier.ensures.read in
    let t = c.args.token.now in
    let u = c.barrier.new.token in
    (h.0, h.1, returned_holds c.args.self.now c.args.cell h.1 h.0 t u h.2 (r.table ∙ h.2.table) (read_returned t u r) r.track r.token)

pub returns-in-Some-barrier-clause-judged : goal.returns-in-Some-barrier-clause-judged
returns-in-Some-barrier-clause-judged g c =
    let b = c.args.self.now in
    let t = c.args.token.now in
    let u = c.barrier.new.token in
    let v = c.refuse.new.token in
    let x = c.in-Some-barrier.barrier in
    let last = c.in-Some.last in
    let es = c.args.held.entries in
    let found = subst (λ o. IsJudgedSince b last t u o) c.in-Some-barrier.is c.barrier.ensures.judged in
    ok_both (Refuses (token_of u) (token_of v) c.args.cell last.stamp x (one_more (tries_of (track_of u.track).tail c.args.cell)) (last_eight (stamps es))) (IsJudgedBy b c.args.cell es t v) ((view_of v).notes ≡ (view_of u).notes) c.refuse.result
    (λ a same h. refused_by b c.args.cell es last t u v c.in-Some.ensures.newest same (token_of v) x a c.barrier.ensures.read found h)
    c.refuse.ensures.notes c.refuse.ensures.ok

pub returns-in-Some-barrier-clause-value : goal.returns-in-Some-barrier-clause-value
returns-in-Some-barrier-clause-value g c =
    let u = c.barrier.new.token in
    let v = c.refuse.new.token in
    let x = c.in-Some-barrier.barrier in
    let last = c.in-Some.last in
    let own = one_more (tries_of (track_of u.track).tail c.args.cell) in
    let chain = last_eight (stamps c.args.held.entries) in
    IfOk-weaker c.refuse.result (Refuses (token_of u) (token_of v) c.args.cell last.stamp x own chain) (GivesValue c.args.held c.args.write)
    (gives_none (token_of u) (token_of v) c.args.cell last.stamp x own chain c.args.held c.args.write) c.refuse.ensures.ok

pub refuse-requires-clause-lies : goal.refuse-requires-clause-lies
refuse-requires-clause-lies g c = returned_cell aims.Access c.args.held c.args.token.now c.barrier.new.token c.requires.lies (read_returned c.args.token.now c.barrier.new.token c.barrier.ensures.read)

pub make_access-requires-in-None-clause-lies : goal.make_access-requires-in-None-clause-lies
make_access-requires-in-None-clause-lies g c = returned_cell aims.Access c.args.held c.args.token.now c.barrier.new.token c.requires.lies (read_returned c.args.token.now c.barrier.new.token c.barrier.ensures.read)

pub make_access-requires-in-None-clause-asked : goal.make_access-requires-in-None-clause-asked
make_access-requires-in-None-clause-asked g c =
    let b = c.args.self.now in
    let t = c.args.token.now in
    let u = c.barrier.new.token in
    has_asked b c.in-Some.last t u c.args.held c.in-Some.ensures.newest c.barrier.ensures.read.track (subst (λ o. IsJudgedSince b c.in-Some.last t u o) c.in-None.is c.barrier.ensures.judged)
