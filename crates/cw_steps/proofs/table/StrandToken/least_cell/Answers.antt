use Rattle.std.proofs.Common.{rules, ◌≡◌, ◌∷◌, drop, ap, sym, ◌∙◌, true, subst, ℕ, ◌≤◌, Option, Some, None, List}
use Rattle.std.proofs.lemmas.Bool.{leb-true}
use Rattle.std.specs.Prelude.{IfSome, filter, nat_le}
use Rattle.cw_tree.specs.declared.node.Node.{Node}
use Rattle.cw_steps.specs.Beneath.{nodes_beneath, cells_reached, least_with, logs_beneath}
use Rattle.cw_steps.specs.Stands.{token_of}
use Rattle.cw_steps.proofs.Walked.{all_pass, cells_more, found_more, least_kept, log_beneath, nodes_of, rest_beneath}
use Rattle.cw_steps.proofs.table.StrandToken.least_cell.Goals as goal

pub loop-log-init : goal.loop-log-init
loop-log-init c =
    let track = c.args.self.now.track in
    let p = nat_le c.args.from in
    let own : c.with_cells-least.result ≡ least_with None (filter p (cells_reached c.args.writes (drop track.place track.nodes.items))) =
    c.with_cells-least.ensures ∙ ap (λ ns. least_with None (filter p (cells_reached c.args.writes ns))) (c.since.ensures ∙ ap (drop track.place) c.as_slice.ensures.value) in
    let all : c.into_iter-log-iterator.result ≡ track.joined = search rules in (
      search rules,
      search rules,
      ap (λ ls. least_with c.with_cells-least.result (filter p (cells_reached c.args.writes (nodes_of (logs_beneath track.first track.place ls))))) all
          ∙ found_more (λ ns. filter p (cells_reached c.args.writes ns)) (cells_more c.args.writes p) None c.with_cells-least.result (drop track.place track.nodes.items) (nodes_of (logs_beneath track.first track.place track.joined)) own,
    )

pub loop-log-preserved-then-beneath : goal.loop-log-preserved-then-beneath
loop-log-preserved-then-beneath c =
    let (f, g, q) = c.loop-log.invariant in
    let track = c.args.self.now.track in
    let p = nat_le c.args.from in
    let F : List Node → List _ = λ ns. filter p (cells_reached c.args.writes ns) in
    let e : c.loop-log.log-iterator ≡ c.in-Some.log.now ∷ c.next.new.self = search rules in
    let found : c.with_cells-least-then-beneath.result ≡ least_with c.loop-log.least (F c.in-Some.log.now.nodes) = c.with_cells-least-then-beneath.ensures ∙ ap (λ ns. least_with c.loop-log.least (F ns)) c.as_slice-then-beneath.ensures in (
      search rules,
      search rules,
      ap (λ b. least_with c.with_cells-least-then-beneath.result (F (nodes_of (rest_beneath b track.first track.place c.next.new.self)))) c.if-beneath.true
          ∙ log_beneath F (cells_more c.args.writes p) track.first track.place c.in-Some.log.now c.next.new.self c.loop-log.least _ c.loop-log.beneath c.with_cells-least-then-beneath.result
          (sym c.lies_beneath-beneath.ensures ∙ c.if-beneath.true) found (sym (ap (λ ls. least_with c.loop-log.least (F (nodes_of (rest_beneath c.loop-log.beneath track.first track.place ls)))) e) ∙ q),
    )

pub returns-clause-least : goal.returns-clause-least
returns-clause-least c = search rules

pub returns-clause-from : goal.returns-clause-from
returns-clause-from c =
    let p = nat_le c.args.from in
    let all = least_kept (λ n. p n ≡ true) (filter p (cells_reached c.args.writes (nodes_beneath (token_of c.args.self.now)))) None (all_pass p (cells_reached c.args.writes (nodes_beneath (token_of c.args.self.now)))) tt in
    subst (λ (r : Option ℕ). IfSome r (λ n. c.args.from ≤ n)) (sym (returns-clause-least c)) (low (least_with None (filter p (cells_reached c.args.writes (nodes_beneath (token_of c.args.self.now))))) all) where
      low : (r : Option ℕ) → IfSome r (λ n. nat_le c.args.from n ≡ true) → IfSome r (λ n. c.args.from ≤ n)
      low None h = tt
      low (Some m) h = leb-true c.args.from m h
