use Rattle.std.proofs.Common.{◌≡◌, ℕ, ◌+◌, ◌++◌, List, [], ◌∷◌, refl, ap, sym, ◌∙◌, subst, arith, true}
use Rattle.cw_code.specs.declared.Back.{Back}
use Rattle.cw_tree.specs.declared.node.Kind.TheVariants.{Cancel}
use Rattle.cw_tree.specs.Nodes.{is_block, fresh_node}
use Rattle.cw_tree.specs.Series.{place}
use Rattle.cw_tree.specs.Accesses.{is_live}
use Rattle.cw_tree.proofs.NodeKinds.{pending_block}
use Rattle.cw_open.specs.Steps.{puts_back}
use Rattle.cw_core.specs.Kept.{with_row_changed, with_tail, with_place, plain_tail, leaf_row}
use Rattle.cw_core.specs.State.{CoreState}
use Rattle.cw_core.specs.Events.{after_event, next}
use Rattle.cw_core.specs.InMemory.{state_of}
use Rattle.cw_core.specs.declared.event.Event.TheVariants as event
use Rattle.cw_core.specs.declared.event.Reply.TheVariants as reply
use Rattle.cw_core.proofs.InMemory.Cancel.{cancel_finds, touched_at, undoable, cancel_entries, cancel_backs, cancel_state, cancel_kept}
use Rattle.cw_core.proofs.cores.Core.cancel.Goals as goal

pub cells_beneath-requires-clause-there : goal.cells_beneath-requires-clause-there
cells_beneath-requires-clause-there c =
    let a = c.self.inside in
    let s = c.args.strand in
    let f = cancel_finds a c.self.invariant c.args.self.now c.self.view_is s c.requires c.row-block.result c.row-block.ensures.row in
    omega (arith, f.1.at, f.1.there)

pub cells_beneath-requires-clause-block : goal.cells_beneath-requires-clause-block
cells_beneath-requires-clause-block c =
    let a = c.self.inside in
    let s = c.args.strand in
    let f = cancel_finds a c.self.invariant c.args.self.now c.self.view_is s c.requires c.row-block.result c.row-block.ensures.row in
    let P : ℕ → Type 0 = λ n. is_block a.tree n ≡ true in
    subst P (sym f.1.at) (pending_block a.tree (place a.tree s) (undoable a c.self.invariant s f.0).pending)

pub cells_beneath-requires-clause-live : goal.cells_beneath-requires-clause-live
cells_beneath-requires-clause-live c =
    let a = c.self.inside in
    let s = c.args.strand in
    let f = cancel_finds a c.self.invariant c.args.self.now c.self.view_is s c.requires c.row-block.result c.row-block.ensures.row in
    let P : ℕ → Type 0 = λ n. is_live a.tree n ≡ true in
    subst P (sym f.1.at) (undoable a c.self.invariant s f.0).lives

pub backs-requires : goal.backs-requires
backs-requires c =
    let a = c.self.inside in
    let s = c.args.strand in
    let f = cancel_finds a c.self.invariant c.args.self.now c.self.view_is s c.requires c.row-block.result c.row-block.ensures.row in
    let are = touched_at a s c.row-block.result c.in_ok-touched.touched f.1 c.in_ok-touched.ensures in
    cancel_entries a c.self.invariant s f.0 c.in_ok-touched.touched are

pub backs-requires-2 : goal.backs-requires-2
backs-requires-2 c =
    let a = c.self.inside in
    let s = c.args.strand in
    let f = cancel_finds a c.self.invariant c.args.self.now c.self.view_is s c.requires c.row-block.result c.row-block.ensures.row in
    let are = touched_at a s c.row-block.result c.in_ok-touched.touched f.1 c.in_ok-touched.ensures in
    cancel_entries a c.self.invariant s f.0 c.in_ok-touched.touched are

pub overflow_add-stamp : goal.overflow_add-stamp
overflow_add-stamp c =
    let a = c.self.inside in
    let s = c.args.strand in
    let f = cancel_finds a c.self.invariant c.args.self.now c.self.view_is s c.requires c.row-block.result c.row-block.ensures.row in
    omega (arith, f.1.clock)

pub add-requires : goal.add-requires
add-requires c =
    let a = c.self.inside in
    let s = c.args.strand in
    let f = cancel_finds a c.self.invariant c.args.self.now c.self.view_is s c.requires c.row-block.result c.row-block.ensures.row in
    omega (arith, f.1.at, f.1.there)

pub put_leaf-requires-clause-strand : goal.put_leaf-requires-clause-strand
put_leaf-requires-clause-strand c =
    let a = c.self.inside in
    let s = c.args.strand in
    let f = cancel_finds a c.self.invariant c.args.self.now c.self.view_is s c.requires c.row-block.result c.row-block.ensures.row in
    omega (arith, f.1.strand, f.1.rows, c.reserve.ensures.len)

pub put_leaf-requires-clause-place : goal.put_leaf-requires-clause-place
put_leaf-requires-clause-place c =
    let a = c.self.inside in
    let s = c.args.strand in
    let f = cancel_finds a c.self.invariant c.args.self.now c.self.view_is s c.requires c.row-block.result c.row-block.ensures.row in
    omega (arith, f.1.at, f.1.there, f.1.rows, c.reserve.ensures.len)

pub invariant_of-self-2 : goal.invariant_of-self-2
invariant_of-self-2 c =
    let a = c.self.inside in
    let s = c.args.strand in
    let f = cancel_finds a c.self.invariant c.args.self.now c.self.view_is s c.requires c.row-block.result c.row-block.ensures.row in
    let are = touched_at a s c.row-block.result c.in_ok-touched.touched f.1 c.in_ok-touched.ensures in
    let back : List Back = puts_back (state_of a).machine s (a.clock + 1) in
    let listed : c.in_ok-back.back ≡ back = c.in_ok-back.ensures.list ∙ cancel_backs a c.self.invariant s f.0 c.in_ok-touched.touched are
    c.in_ok-back.ensures.ordered in
    let grown : c.add.new.self ≡ a.tree ++ fresh_node (place a.tree s) (Cancel back) (a.clock + 1) ∷ [] =
    c.in_ok-add.ensures.ok ∙ ap (λ bs. a.tree ++ fresh_node c.row-block.result.now.place (Cancel bs) (a.clock + 1) ∷ []) listed
    ∙ ap (λ n. a.tree ++ fresh_node n (Cancel back) (a.clock + 1) ∷ []) f.1.at in
    let rows : c.put_leaf.new.table.items ≡ with_row_changed (with_place (place a.tree s)) s (with_row_changed (with_tail plain_tail) (place a.tree s)
    a.rows.items ++ leaf_row s 0 ∷ []) =
    c.put_leaf.ensures
    ∙ ap (λ q. with_row_changed (with_place q) s (with_row_changed (with_tail plain_tail) q c.reserve.new.self.items ++ leaf_row s 0 ∷ [])) f.1.at
    ∙ ap (λ rs. with_row_changed (with_place (place a.tree s)) s (with_row_changed (with_tail plain_tail) (place a.tree s) rs ++ leaf_row s 0 ∷ [])) c.reserve.ensures.items in
    cancel_kept a c.self.invariant s f.0 (record a { tree = c.add.new.self; rows = c.put_leaf.new.table; clock = a.clock + 1 }) grown refl
    (λ e. absurd (cc (c.in_ok-add.ensures.full e))) rows

pub returns-clause-ok : goal.returns-clause-ok
returns-clause-ok c =
    let a = c.self.inside in
    let s = c.args.strand in
    let f = cancel_finds a c.self.invariant c.args.self.now c.self.view_is s c.requires c.row-block.result c.row-block.ensures.row in
    let are = touched_at a s c.row-block.result c.in_ok-touched.touched f.1 c.in_ok-touched.ensures in
    let back : List Back = puts_back (state_of a).machine s (a.clock + 1) in
    let listed : c.in_ok-back.back ≡ back = c.in_ok-back.ensures.list ∙ cancel_backs a c.self.invariant s f.0 c.in_ok-touched.touched are
    c.in_ok-back.ensures.ordered in
    let grown : c.add.new.self ≡ a.tree ++ fresh_node (place a.tree s) (Cancel back) (a.clock + 1) ∷ [] =
    c.in_ok-add.ensures.ok ∙ ap (λ bs. a.tree ++ fresh_node c.row-block.result.now.place (Cancel bs) (a.clock + 1) ∷ []) listed
    ∙ ap (λ n. a.tree ++ fresh_node n (Cancel back) (a.clock + 1) ∷ []) f.1.at in
    cancel_state a c.self.invariant s f.0 (record a { tree = c.add.new.self; rows = c.put_leaf.new.table; clock = a.clock + 1 }) grown refl
    ∙ ap (λ k. after_event k (event.Cancel s)) c.self.view_is

pub returns-clause-reply : goal.returns-clause-reply
returns-clause-reply c =
    let a = c.self.inside in
    let s = c.args.strand in
    let f = cancel_finds a c.self.invariant c.args.self.now c.self.view_is s c.requires c.row-block.result c.row-block.ensures.row in
    let are = touched_at a s c.row-block.result c.in_ok-touched.touched f.1 c.in_ok-touched.ensures in
    let listed : c.in_ok-answer.answer ≡ puts_back (state_of a).machine s (a.clock + 1) = c.in_ok-answer.ensures.list
    ∙ cancel_backs a c.self.invariant s f.0 c.in_ok-touched.touched are c.in_ok-answer.ensures.ordered in
    ap reply.Back (listed ∙ ap (λ (k : CoreState). puts_back k.machine s (next k)) c.self.view_is)
