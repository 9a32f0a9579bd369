-- Entries of lists of accesses.
use Rattle.std.proofs.Common.{◌≡◌, ℕ, ◌∙◌, List, [], ◌∷◌, refl, ap, sym, subst, Option, inl, inr}
use Rattle.std.specs.Prelude.{ℤ, is_some, unwrap_or}
use Rattle.cw_tree.specs.declared.access.Entry.{Entry}
use Rattle.cw_tree.specs.declared.node.Node.{Node}
use Rattle.cw_tree.specs.Nodes.{touches}
use Rattle.cw_tree.specs.Accesses.{written}
use Rattle.cw_tree.specs.AccessStacks.{access_at}
use Rattle.cw_tree.proofs.Lists.{In}
use Rattle.cw_open.specs.Machine.{live}
use Rattle.cw_open.specs.Steps.{after_open_step}
use Rattle.cw_open.specs.Runs.{at_any_time}
use Rattle.cw_open.specs.Left.{AreEntriesAt}
use Rattle.cw_open.specs.EntriesAt.{EntriesBegin, EntriesMore, EntriesStay}
use Rattle.cw_open.proofs.Laws.CancelsKept.{named_kept}
use Rattle.cw_open.proofs.Laws.Named.{access_named}
use Rattle.cw_open.proofs.Runs.States.{states, state_after}
use Rattle.cw_open.proofs.Hands.Looked.{as_after}

pub entries_begin : EntriesBegin
entries_begin t v [] more es h = tt
entries_begin t v (s ∷ ss) more [] h = absurd h
entries_begin t v (s ∷ ss) more (e ∷ es) h = (h.0, entries_begin t (unwrap_or (written t (access_at t s)) v) ss more es h.1)

pub entries_more : EntriesMore
entries_more t v [] s [] e h last = (last, tt)
entries_more t v [] s (x ∷ es) e h last = absurd h
entries_more t v (n ∷ ss) s [] e h last = absurd h
entries_more t v (n ∷ ss) s (x ∷ es) e h last = (h.0, entries_more t (unwrap_or (written t (access_at t n)) v) ss s es e h.1 last)

-- in two trees in which the accesses of a list wrote the same, their entries are the same
entries_same : (t u : List Node) (v : ℤ) (ss : List ℕ) (es : List Entry) → ((s : ℕ) → In s ss → written u (access_at u s) ≡ written t (access_at t s)) → AreEntriesAt t v ss es → AreEntriesAt u v ss es
entries_same t u v [] [] w h = tt
entries_same t u v [] (e ∷ es) w h = absurd h
entries_same t u v (s ∷ ss) [] w h = absurd h
entries_same t u v (s ∷ ss) (e ∷ es) w h =
    let same = w s (inl refl) in
    let P : Option ℤ → Type 0 = λ x. AreEntriesAt u (unwrap_or x v) ss es in (
      record { stamp = h.0.stamp; wrote = h.0.wrote ∙ ap is_some (sym same); value = h.0.value ∙ ap (λ x. unwrap_or x v) (sym same); old = h.0.old },
      subst P (sym same) (entries_same t u (unwrap_or (written t (access_at t s)) v) ss es (λ n i. w n (inr i)) h.1),
    )

pub entries_stay : EntriesStay
entries_stay asked first m reached e a v c es h =
    let rules = at_any_time asked in
    let state = states rules first m reached in
    let later = state_after rules first m e state a in
    let u = (after_open_step m e).tree in
    let b = as_after m state.well.sound.tree.rooted e c 0 in
    let accesses = state.listed.accesses c in
    entries_same m.tree u v (live m c) es (λ s i.
    let x = accesses s i in
    let named : access_at m.tree s ≡ x.0 = ap (access_at m.tree) (sym x.2) ∙ access_named m.tree state.well.sound.stamps c x.0 x.1 in
    ap (written u) (named_kept m.tree u c 0 b state.well.sound.stamps later.well.sound.stamps (live m c) accesses s i) ∙ b.wrote (access_at m.tree s) (ap (touches m.tree c) named ∙ x.1)) h
