use Rattle.std.proofs.Common.{◌≡◌, ◌+◌, ◌∙◌, ◌∷◌, ◌++◌, [], List, ℕ, Option, length, get_or, ap, arith, refl, subst, sym, take}
use Rattle.std.specs.Option.{option_to_list}
use Rattle.std.proofs.lemmas.List.{take_more}
use Rattle.cw_code.specs.declared.Back.{Back}
use Rattle.cw_log.specs.declared.token.Token.{Token}
use Rattle.cw_steps.specs.Beneath.{AreTouches}
use Rattle.cw_steps.specs.Stands.{token_of}
use Rattle.cw_steps.proofs.Leaving.Journals.{looks_more, looks_not}
use Rattle.cw_board.specs.Cancelled.{ArePutBack, Look}
use Rattle.cw_board.proofs.PutBack.{back_of, looked_since, more_back, nothing_back}
use Rattle.cw_board.proofs.board.Board.look_at.Goals as goal

pub loop-cell-init : goal.loop-cell-init
loop-cell-init g c = record {
  of = c.requires.of;
  returned = looks_not c.args.token.now.seat.me;
  track = refl;
  token = refl;
  put_back = nothing_back c.args.self.now c.args.token.now c.args.list.now.items c.requires.none;
  few = omega (arith, ap (λ xs. length xs) c.requires.none);
  room = omega arith;
}

pub look-back-requires-clause-touches : goal.look-back-requires-clause-touches
look-back-requires-clause-touches g c = subst (λ (x : Token). AreTouches x c.args.touches.now.list.items) (sym c.loop-cell.invariant.token) c.requires.touches

pub loop-cell-preserved : goal.loop-cell-preserved
loop-cell-preserved g c =
    let v = c.loop-cell.invariant in
    let e = c.look-back.ensures in
    let t = c.args.token.now in
    let cells = c.args.cells.now in
    let i = c.loop-cell.cell-index in
    let l : Look = record { cell = get_or cells i 0; lay = e.found.0 } in
    let more : take (i + 1) cells ≡ take i cells ++ l.cell ∷ [] = take_more cells i 0 c.loop-cell-test.true in
    let list : c.add.new.list.items ≡ c.loop-cell.list.items ++ option_to_list (back_of (token_of t) l) =
    c.add.ensures.items ∙ ap (λ (o : Option Back). c.loop-cell.list.items ++ option_to_list o) (e.found.2 ∙ ap (λ (x : Token). back_of x l) v.token) in
    record {
      of = e.of;
      returned = looks_more t.seat.me c.loop-cell.token.seat.me c.look-back.new.token.seat.me v.returned e.returned;
      track = e.track ∙ v.track;
      token = e.token ∙ v.token;
      put_back =
          subst (λ (cs : List ℕ). ArePutBack c.args.self.now t cs c.add.new.list.items) (sym more)
          (more_back c.args.self.now t (take i cells) c.loop-cell.list.items c.add.new.list.items l v.put_back (looked_since c.args.self.now t c.loop-cell.token l v.returned e.found.1) list);
      few = omega (arith, v.few, c.add.ensures.few);
      room = omega (arith, v.room, c.add.ensures.capacity);
    }
