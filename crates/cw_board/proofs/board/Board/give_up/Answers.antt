use Rattle.std.proofs.Common.{◌≡◌, ◌<◌, ◌∙◌, ℕ, List, ap, map, subst, sym}
use Rattle.std.specs.Prelude.{All, Contains}
use Rattle.std.specs.List.Sorted.{IsStrictlyIncreasing}
use Rattle.std.proofs.lemmas.List.Elements.{All-weaker}
use Rattle.cw_code.specs.declared.Back.{Back}
use Rattle.cw_tree.specs.declared.node.Kind.TheVariants as kind
use Rattle.cw_log.specs.Tokens.{made, HasBlock}
use Rattle.cw_steps.specs.Beneath.{cells_written_beneath}
use Rattle.cw_steps.specs.Stands.{token_of}
use Rattle.cw_board.specs.Boards.{cells_in}
use Rattle.cw_board.specs.Cancelled.{ArePutBack}
use Rattle.cw_board.proofs.PutBack.{list_rises, list_there}
use Rattle.cw_board.proofs.board.Board.give_up.Goals as goal

pub look_at-requires-clause-cells : goal.look_at-requires-clause-cells
look_at-requires-clause-cells g c =
    let n = cells_in c.args.self.now in
    All-weaker (λ (k : ℕ). (k < n) × Contains (cells_written_beneath (token_of c.args.token.now)) k) (λ (k : ℕ). k < n) (λ k h. h.0) c.args.cells.now c.requires.cells.each

pub put_cancel-requires-clause-block : goal.put_cancel-requires-clause-block
put_cancel-requires-clause-block g c = subst HasBlock (sym c.look_at.ensures.token) c.requires.block

pub put_cancel-requires-clause-there : goal.put_cancel-requires-clause-there
put_cancel-requires-clause-there g c =
    let list = c.look_at.new.list.items in
    let is : c.from_vec-back.result ≡ list = c.from_vec-back.ensures ∙ c.copy.ensures ∙ c.as_slice-list.ensures.value in
    subst (All (λ (k : Back). k.cell < cells_in c.args.self.now)) (sym is) (list_there c.args.self.now c.args.token.now c.args.cells.now list c.requires.cells c.look_at.ensures.list)

pub put_cancel-requires-clause-rises : goal.put_cancel-requires-clause-rises
put_cancel-requires-clause-rises g c =
    let list = c.look_at.new.list.items in
    let is : c.from_vec-back.result ≡ list = c.from_vec-back.ensures ∙ c.copy.ensures ∙ c.as_slice-list.ensures.value in
    subst (λ (ks : List Back). IsStrictlyIncreasing (map (λ (k : Back). k.cell) ks)) (sym is) (list_rises c.args.self.now c.args.token.now c.args.cells.now list c.requires.cells c.look_at.ensures.list)

pub returns-clause-cancels : goal.returns-clause-cancels
returns-clause-cancels g c =
    let b = c.args.self.now in
    let t = c.args.token.now in
    let e = c.look_at.ensures in
    let list = c.look_at.new.list.items in
    let is : c.from_vec.result ≡ list = c.from_vec.ensures in
    let put = c.put_cancel.ensures.token in
    let same : c.from_vec-back.result ≡ c.from_vec.result = c.from_vec-back.ensures ∙ c.copy.ensures ∙ c.as_slice-list.ensures.value ∙ sym is in
    record {
      rises = subst (λ (ks : List Back). IsStrictlyIncreasing (map (λ (k : Back). k.cell) ks)) (sym is) (list_rises b t c.args.cells.now list c.requires.cells e.list);
      there = subst (All (λ (k : Back). k.cell < cells_in b)) (sym is) (list_there b t c.args.cells.now list c.requires.cells e.list);
      stamp = put.0;
      token = put.1 ∙ (λ i. made (e.token i) (kind.Cancel (same i)) put.0);
    }

pub returns-clause-listed : goal.returns-clause-listed
returns-clause-listed g c = record {
  cells = c.args.cells.now;
  written = c.requires.cells;
  put_back = subst (λ (ks : List Back). ArePutBack c.args.self.now c.args.token.now c.args.cells.now ks) (sym c.from_vec.ensures) c.look_at.ensures.list;
}
