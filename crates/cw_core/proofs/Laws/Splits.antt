-- What a split leaves as it was, and what answers come from; so lists of events that differ in their splits alone are answered alike.
use Rattle.std.proofs.Common.{◌≡◌, ℕ, ◌+◌, List, [], ◌∷◌, length, refl, ap, sym, ◌∙◌, subst, Bool, true, false, cond, Option, nat_le}
use Rattle.std.specs.Prelude.{ℤ, find, unwrap_or}
use Rattle.cw_tree.specs.Series.{place}
use Rattle.cw_tree.specs.Newest.{newest, last_eight}
use Rattle.cw_trace.specs.Columns.{used}
use Rattle.cw_open.specs.Machine.{OpenMachine, live, live_value}
use Rattle.cw_open.specs.Steps.{refusal, puts_back}
use Rattle.cw_open.specs.Runs.{meets}
use Rattle.cw_core.specs.declared.event.Event.{Event}
use Rattle.cw_core.specs.declared.event.Event.TheVariants as event
use Rattle.cw_core.specs.declared.event.Reply.{Reply}
use Rattle.cw_core.specs.declared.event.Reply.TheVariants as reply
use Rattle.cw_core.specs.State.{CoreState}
use Rattle.cw_core.specs.Events.{after_event, reply_to, met_by, after_events}
use Rattle.cw_core.specs.Laws.{without_block, without_splits, other_answers, AreAlike, SplitsChangeNothing, AlikeAnswer, SplitsChangeNoAnswer}
use Rattle.cw_core.proofs.Laws.Alike.{alike_self, alike_sym, alike_trans, alike_after, alike_split}

pub splits : SplitsChangeNothing
splits k f = (refl, alike_split k f)

-- an answer to an access, by whether it conflicts: the block is of no account
access_same : (z : Bool) (m : OpenMachine) (p c last b d : ℕ) (chain : List ℕ) (v : ℤ)
    → without_block (cond z (reply.Conflict (refusal m p c (record { last = last; block = b; chain = chain }))) (reply.Value v)) ≡ without_block (cond z (reply.Conflict (refusal m p c (record { last = last; block = d; chain = chain }))) (reply.Value v))
access_same true m p c last b d chain v = refl
access_same false m p c last b d chain v = refl

-- the answer to an access of a machine, where the columns name a block
abbrev answer : ℕ → ℕ → Option ℤ → OpenMachine → ℕ → Reply
answer s c w m block =
    let last = unwrap_or (find (λ u. true) (newest (live m c))) 0 in
    cond (meets m.tree (newest (live m c)) (place m.tree s)) (reply.Conflict (refusal m (place m.tree s) c (record { last = last; block = block; chain = last_eight (live m c) }))) (reply.Value (unwrap_or w (live_value m c)))

abbrev fork_answer : (columns room n : ℕ) → Reply
fork_answer columns room n = cond (nat_le (columns + 2) room) (reply.Forked (n + 1) (n + 2) n) (reply.Inline (n + 1) (n + 2))

pub answers : AlikeAnswer
answers k j (event.Fork s) a other =
    ap without_block
    (ap (λ u. fork_answer u k.tier.room (length k.machine.tree)) a.columns ∙ ap (λ r. fork_answer (used j.tier) r (length k.machine.tree)) a.room ∙ ap (λ (m : OpenMachine). fork_answer (used j.tier) j.tier.room (length m.tree)) a.machine)
answers k j (event.Access s c w) a other =
    let block = (met_by k s c).block in
    let m = k.machine in
    access_same (meets m.tree (newest (live m c)) (place m.tree s)) m (place m.tree s) c (unwrap_or (find (λ u. true) (newest (live m c))) 0) block (met_by j s c).block (last_eight (live m c)) (unwrap_or w (live_value m c))
    ∙ ap (λ (m : OpenMachine). without_block (answer s c w m (met_by j s c).block)) a.machine
answers k j (event.Begin s) a other = refl
answers k j (event.Out s v) a other = refl
answers k j (event.Cancel s) a other = ap (λ (m : OpenMachine). reply.Back (puts_back m s (m.clock + 1))) a.machine
answers k j (event.Commit s) a other = refl
answers k j (event.Roll s) a other = refl
answers k j (event.Finish s dead) a other = refl
answers k j (event.Split f) a other = absurd (cc other)
answers k j (event.Join f) a other = refl
answers k j (event.Stop h) a other = refl

-- ## Lists

-- the same events without their splits
unsplit : (k j : CoreState) (es : List Event) → AreAlike k j → (other_answers k es ≡ other_answers j (without_splits es)) × AreAlike (after_events k es) (after_events j (without_splits es))
unsplit k j [] a = (refl, a)
unsplit k j (event.Split f ∷ es) a = unsplit (after_event k (event.Split f)) j es (alike_trans (after_event k (event.Split f)) k j (alike_split k f) a)
unsplit k j (e ∷ es) a =
    let more = unsplit (after_event k e) (after_event j e) es (alike_after k j e a) in
    (ap (λ r. r ∷ other_answers (after_event k e) es) (answers k j e a refl) ∙ ap (λ rs. without_block (reply_to j e) ∷ rs) more.0, more.1)

pub lists : SplitsChangeNoAnswer
lists k es fs same =
    let a = unsplit k k es (alike_self k) in
    let b = unsplit k k fs (alike_self k) in
    let P : List Event → Type 0 = λ xs. AreAlike (after_events k es) (after_events k xs) in
    (a.0 ∙ ap (other_answers k) same ∙ sym b.0, alike_trans (after_events k es) (after_events k (without_splits fs)) (after_events k fs) (subst P same a.1) (alike_sym (after_events k fs) (after_events k (without_splits fs)) b.1))
