use Rattle.std.proofs.Common.{◌≡◌, ◌≤◌, ℤ, List, refl, sym, ap, subst, length, arith}
use Rattle.std.specs.Prelude.{◌↔◌, IsTrue}
use Rattle.std.proofs.lemmas.Result.{IfOk-weaker}
use Rattle.cw_tree.specs.declared.picks.Name.{Name}
use Rattle.cw_job.specs.Jobs.{Job}
use Rattle.cw_serial.specs.MachineOf.{machine_of}
use Rattle.cw_serial.specs.InMemory.{Runs}
use Rattle.cw_serial.specs.Orders.{IsPlay}
use Rattle.cw_record.specs.Records.{job_of_record}
use Rattle.cw_record.specs.Replaying.{ItemsAreDone, WantsRefused}
use Rattle.cw_record.proofs.Replay.Replayed.{all, stands_first, all_listed, listed_at, item_there, other_want, no_pick, does_item, all_done}
use Rattle.cw_record.proofs.replaying.is_followed.Goals as goal

pub loop-place-init : goal.loop-place-init
loop-place-init c =
    let r = c.args.kept.now in
    let W : List ℤ → Type 0 = λ ws. let job : Job = record { program = r.program; words = ws; limits = r.limits } in IsPlay job c.as_slice-names.result.now c.in_ok-play.play (machine_of job) in
    let N : List Name → Type 0 = λ ns. IsPlay (job_of_record r) ns c.in_ok-play.play (machine_of (job_of_record r)) in
    (stands_first r c.in_ok-play.play (subst N c.as_slice-names.ensures (subst W c.as_slice-2.ensures c.in_ok-play.ensures.play)), c.in_ok-play.ensures.runs)

pub pick-requires : goal.pick-requires
pick-requires c = subst (λ m. Runs c.args.kept.now.program m) (sym c.in-Ok.ensures.machine) c.loop-place.invariant.1

pub is_item-requires : goal.is_item-requires
is_item-requires c =
    let r = c.args.kept.now in
    let there = listed_at r c.loop-place.place c.at-in-loop-place.result.now (all_listed r c.from_vec-items.ensures c.in_ok-items.ensures.items c.as_slice.ensures) c.at-in-loop-place.ensures in
    item_there r c.loop-place.place c.at-in-loop-place.result.now there

pub returns-then-not-is_item : goal.returns-then-not-is_item
returns-then-not-is_item c =
    let r = c.args.kept.now in
    let stands = c.loop-place.invariant.0 in
    let item = c.at-in-loop-place.result.now in
    let there = listed_at r c.loop-place.place c.at-in-loop-place.result.now (all_listed r c.from_vec-items.ensures c.in_ok-items.ensures.items c.as_slice.ensures) c.at-in-loop-place.ensures in
    let is = c.in-Ok.ensures.same (job_of_record r) r.order.names stands.machine stands.is in
    let memory : c.memory.result.now ≡ stands.machine.memory = sym (c.memory.ensures (job_of_record r) r.order.names stands.machine is) in
    let back = c.in-Ok-put_back.ensures (job_of_record r) r.order.names stands.machine is in (
      λ h. absurd (cc h),
      λ h. absurd (other_want r c.nodes.ensures.numbered c.requires.order c.loop-place.play c.at.new.self c.loop-place.place item there c.at-name.result.now c.at-name.ensures stands c.in-Ok.want (c.in-Ok.ensures.want (job_of_record r) r.order.names stands.machine stands.is)
          (λ here. let yes = (c.is_item.ensures stands.machine (sym memory) back).1 here in let no = c.if-not-is_item.true in cc) h),
    )

pub returns-then-not-picks : goal.returns-then-not-picks
returns-then-not-picks c =
    let r = c.args.kept.now in
    let stands = c.loop-place.invariant.0 in
    let item = c.at-in-loop-place.result.now in
    let there = listed_at r c.loop-place.place c.at-in-loop-place.result.now (all_listed r c.from_vec-items.ensures c.in_ok-items.ensures.items c.as_slice.ensures) c.at-in-loop-place.ensures in
    let is = c.in-Ok.ensures.same (job_of_record r) r.order.names stands.machine stands.is in (
      λ h. absurd (cc h),
      λ h. absurd (no_pick r c.nodes.ensures.numbered c.requires.order c.loop-place.play c.pick.new.self c.loop-place.place item there c.at-name.result.now c.at-name.ensures stands
          ((rw c.if-not-picks.true at c.in-Ok-pick.ensures.picks) (job_of_record r) r.order.names stands.machine refl is) h),
    )

pub loop-place-preserved : goal.loop-place-preserved
loop-place-preserved c =
    let r = c.args.kept.now in
    let stands = c.loop-place.invariant.0 in
    let item = c.at-in-loop-place.result.now in
    let there = listed_at r c.loop-place.place c.at-in-loop-place.result.now (all_listed r c.from_vec-items.ensures c.in_ok-items.ensures.items c.as_slice.ensures) c.at-in-loop-place.ensures in
    let is = c.in-Ok.ensures.same (job_of_record r) r.order.names stands.machine stands.is in
    let memory : c.memory.result.now ≡ stands.machine.memory = sym (c.memory.ensures (job_of_record r) r.order.names stands.machine is) in
    let back = c.in-Ok-put_back.ensures (job_of_record r) r.order.names stands.machine is in
    let here = (c.is_item.ensures stands.machine (sym memory) back).0 c.if-not-is_item.false in (
      does_item r c.nodes.ensures.numbered c.requires.order c.loop-place.play c.pick.new.self c.loop-place.place item there c.at-name.result.now c.at-name.ensures stands c.in-Ok.want
          (c.in-Ok.ensures.want (job_of_record r) r.order.names stands.machine stands.is) here ((rw c.if-not-picks.false at c.in-Ok-pick.ensures.picks) (job_of_record r) r.order.names stands.machine refl is),
      c.in-Ok-pick.ensures.runs,
    )

pub returns : goal.returns
returns c =
    let r = c.args.kept.now in
    let stands = c.loop-place.invariant.0 in
    let listed = all_listed r c.from_vec-items.ensures c.in_ok-items.ensures.items c.as_slice.ensures in
    let past : length (all r) ≤ c.loop-place.place = omega (arith, ap length listed, c.len-place-end.ensures) in
    let ends = all_done r c.nodes.ensures.numbered c.requires.order c.requires.strand c.loop-place.play c.loop-place.place past stands c.in_ok-want.field-0 (c.in_ok-want.ensures.want (job_of_record r) r.order.names stands.machine stands.is) in
    IfOk-weaker c.is_spent.result (λ b. IsTrue b ↔ WantsRefused r r.end c.in_ok-want.field-0) (λ b. IsTrue b ↔ ItemsAreDone r) (λ b e. (λ h. ends.0 (e.0 h), λ h. e.1 (ends.1 h))) c.is_spent.ensures
