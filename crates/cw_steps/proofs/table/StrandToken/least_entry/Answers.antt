use Rattle.std.proofs.Common.{rules, ◌≡◌, ◌∷◌, drop, ap, sym, ◌∙◌, None, List}
use Rattle.std.specs.Prelude.{filter}
use Rattle.cw_tree.specs.declared.node.Node.{Node}
use Rattle.cw_tree.specs.AccessStacks.{stamps}
use Rattle.cw_tree.specs.Walks.{has}
use Rattle.cw_steps.specs.Beneath.{reaches_in, least_with, logs_beneath}
use Rattle.cw_steps.proofs.Walked.{reaches_more, found_more, log_beneath, nodes_of, rest_beneath}
use Rattle.cw_steps.proofs.table.StrandToken.least_entry.Goals as goal

pub loop-log-init : goal.loop-log-init
loop-log-init c =
    let track = c.args.self.now.track in
    let p = has (stamps c.args.entries.now) in
    let own : c.with_entries-least.result ≡ least_with None (filter p (reaches_in c.args.writes c.args.number (drop track.place track.nodes.items))) =
    c.with_entries-least.ensures ∙ ap (λ ns. least_with None (filter p (reaches_in c.args.writes c.args.number ns))) (c.since-own.ensures ∙ ap (drop track.place) c.as_slice.ensures.value) in
    let all : c.into_iter-log-iterator.result ≡ track.joined = search rules in (
      search rules,
      search rules,
      ap (λ ls. least_with c.with_entries-least.result (filter p (reaches_in c.args.writes c.args.number (nodes_of (logs_beneath track.first track.place ls))))) all
          ∙ found_more (λ ns. filter p (reaches_in c.args.writes c.args.number ns)) (reaches_more c.args.writes p c.args.number) None c.with_entries-least.result (drop track.place track.nodes.items) (nodes_of (logs_beneath track.first track.place track.joined)) own,
    )

pub loop-log-preserved-then-beneath : goal.loop-log-preserved-then-beneath
loop-log-preserved-then-beneath c =
    let (f, g, q) = c.loop-log.invariant in
    let track = c.args.self.now.track in
    let p = has (stamps c.args.entries.now) in
    let F : List Node → List _ = λ ns. filter p (reaches_in c.args.writes c.args.number ns) in
    let e : c.loop-log.log-iterator ≡ c.in-Some.log.now ∷ c.next.new.self = search rules in
    let found : c.with_entries-least-then-beneath.result ≡ least_with c.loop-log.least (F c.in-Some.log.now.nodes) = c.with_entries-least-then-beneath.ensures ∙ ap (λ ns. least_with c.loop-log.least (F ns)) c.as_slice-then-beneath.ensures in (
      search rules,
      search rules,
      ap (λ b. least_with c.with_entries-least-then-beneath.result (F (nodes_of (rest_beneath b track.first track.place c.next.new.self)))) c.if-beneath.true
          ∙ log_beneath F (reaches_more c.args.writes p c.args.number) track.first track.place c.in-Some.log.now c.next.new.self c.loop-log.least _ c.loop-log.beneath c.with_entries-least-then-beneath.result
          (sym c.lies_beneath-beneath.ensures ∙ c.if-beneath.true) found (sym (ap (λ ls. least_with c.loop-log.least (F (nodes_of (rest_beneath c.loop-log.beneath track.first track.place ls)))) e) ∙ q),
    )
