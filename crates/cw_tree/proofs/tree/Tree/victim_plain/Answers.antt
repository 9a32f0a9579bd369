use Rattle.std.proofs.Common.{sym, ◌∙◌, ◌≡◌, ◌≢◌, subst, false, inl, inr}
use Rattle.std.specs.Prelude.{◌⊎◌}
use Rattle.std.proofs.lemmas.Bool.{and_left}
use Rattle.cw_tree.specs.Nodes.{is_pending}
use Rattle.cw_tree.specs.Walks.{IsNumbered, lca, may_fall}
use Rattle.cw_tree.proofs.VictimsAt.Victims.{way_start, way_up, way_end, takes, passes_by, shared_stays, nothing_yet}
use Rattle.cw_tree.proofs.tree.Tree.victim_plain.Goals as goal
use Rattle.cw_tree.proofs.tree.Tree.victim_plain.Goals.{else-at-u-via-then-at-u+else-is_pending, else-at-u-via-else-at-u}

pub loop-at-init : goal.loop-at-init
loop-at-init c =
    let ok = subst IsNumbered c.self.view_is c.self.invariant in
    record { way = way_start c.args.self.now ok.rooted c.args.u c.requires.u c.args.v c.requires.v; same = nothing_yet c.args.self.now c.args.u c.args.v }

pub loop-at-preserved-then-is_pending : goal.loop-at-preserved-then-is_pending
loop-at-preserved-then-is_pending c =
    let t = c.args.self.now in
    let q = c.parent-at.result in
    let root = c.parent-at.ensures.numbered.rooted in
    let ne : c.loop-at.at ≢ lca t c.args.u c.args.v = λ e. c.loop-at-test.true (e ∙ sym c.lca-meet.ensures) in
    let own : (q ≢ lca t c.args.u c.args.v) ⊎ (q ≡ c.args.u) = elim c.if-at-u.either [ inl other ↦ inl (λ e. other (e ∙ sym c.lca-meet.ensures)) | inr same ↦ inr same.1 ] in
    record {
      way = way_up t root c.args.u c.requires.u c.args.v c.requires.v c.loop-at.at q c.loop-at.invariant.way ne c.parent-at.ensures.parent;
      same = takes t root c.args.u c.requires.u c.args.v c.requires.v c.loop-at.at q c.loop-at.found c.loop-at.invariant.way ne c.parent-at.ensures.parent (sym c.is_pending.ensures ∙ c.if-is_pending.true) own
          ∙ c.loop-at.invariant.same;
    }

pub loop-at-preserved : goal.loop-at-preserved
loop-at-preserved c =
    let t = c.args.self.now in
    let q = c.parent-at.result in
    let root = c.parent-at.ensures.numbered.rooted in
    let ne : c.loop-at.at ≢ lca t c.args.u c.args.v = λ e. c.loop-at-test.true (e ∙ sym c.lca-meet.ensures) in
    let stays : may_fall t c.args.u q ≡ false =
    elim c.else-at-u.branch [
      | else-at-u-via-then-at-u+else-is_pending w ↦ and_left (is_pending t q) _ (sym w.is_pending.ensures ∙ w.if-is_pending.false)
      | else-at-u-via-else-at-u w ↦ shared_stays t root c.args.u c.requires.u c.args.v c.requires.v q (w.if-at-u.false.0 ∙ c.lca-meet.ensures) w.if-at-u.false.1
    ]
    in
    record {
      way = way_up t root c.args.u c.requires.u c.args.v c.requires.v c.loop-at.at q c.loop-at.invariant.way ne c.parent-at.ensures.parent;
      same = passes_by t root c.args.u c.requires.u c.args.v c.requires.v c.loop-at.at q c.loop-at.found c.loop-at.invariant.way ne c.parent-at.ensures.parent stays ∙ c.loop-at.invariant.same;
    }

pub returns : goal.returns
returns c =
    let ok = subst IsNumbered c.self.view_is c.self.invariant in
    sym (way_end c.args.self.now ok.rooted c.args.u c.requires.u c.args.v c.requires.v c.loop-at.at c.loop-at.found c.loop-at.invariant.way (c.loop-at-test.false ∙ c.lca-meet.ensures)) ∙ c.loop-at.invariant.same
