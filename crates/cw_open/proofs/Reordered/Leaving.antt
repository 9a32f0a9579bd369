-- What a run leaves.
use Rattle.std.proofs.Common.{◌≡◌, ℕ, List, [], ◌∷◌, length, map, refl, ap, ◌∙◌, subst, true, inl, inr}
use Rattle.std.specs.Prelude.{ℤ, is_some, slice_get, Option, unwrap_or}
use Rattle.cw_tree.specs.declared.node.Node.{Node}
use Rattle.cw_tree.specs.declared.access.Entry.{Entry}
use Rattle.cw_tree.specs.Nodes.{stamp_of, touches}
use Rattle.cw_tree.specs.Shape.{AreStamps}
use Rattle.cw_tree.specs.Accesses.{written, live_accesses}
use Rattle.cw_tree.specs.Journals.{AreEntries, AllEndedBetween}
use Rattle.cw_tree.specs.Newest.{newest}
use Rattle.cw_tree.proofs.Lists.{In}
use Rattle.cw_open.specs.Reads.{AreRead}
use Rattle.cw_open.specs.Left.{AreEntriesAt, HistoriesAreLeft}
use Rattle.cw_open.proofs.Laws.Named.{access_named}
use Rattle.cw_open.proofs.Runs.LawsHold.{cells, have_all, trees, ended}
use Rattle.cw_open.proofs.Refused.GoingBack.{askers_tried, aborted_victims, committed_safe, dying_back}
use Rattle.cw_open.proofs.Refused.Recorded.{conflicts_recorded}
use Rattle.cw_open.proofs.Laws.Reading.{reads_met}
use Rattle.cw_open.proofs.Laws.CancelStates.{all_named, cancels_right}
use Rattle.cw_open.proofs.Runs.States.{states}
use Rattle.cw_open.specs.Runs.{at_any_time}
use Rattle.cw_tree.proofs.Cancels.{live_is}
use Rattle.cw_open.proofs.Runs.Unstopped.{told_any_time}

pub live_touched : (t : List Node) (c n : ℕ) → In n (live_accesses t c) → touches t c n ≡ true
live_touched t c n i = (live_is t c n i).0

-- entries of accesses by their nodes
entries_of : (t : List Node) → AreStamps t → (c : ℕ) (v : ℤ) (ns : List ℕ) (es : List Entry) → ((n : ℕ) → In n ns → touches t c n ≡ true) → AreEntriesAt t v (map (stamp_of t) ns) es → AreRead t v ns → AreEntries t v ns es
entries_of t s c v [] [] f a r = tt
entries_of t s c v [] (e ∷ es) f a r = a
entries_of t s c v (n ∷ ns) [] f a r = a
entries_of t s c v (n ∷ ns) (e ∷ es) f a r =
    let named = access_named t s c n (f n (inl refl)) in
    let P : ℤ → Type 0 = λ w. AreEntriesAt t w (map (stamp_of t) ns) es in (
      record {
        stamp = a.0.stamp;
        wrote = a.0.wrote ∙ ap (λ k. is_some (written t k)) named;
        value = a.0.value ∙ ap (λ k. unwrap_or (written t k) v) named;
        old = a.0.old;
        read = r.0;
      },
      entries_of t s c (unwrap_or (written t n) v) ns es (λ k i. f k (inr i)) (subst P (ap (λ k. unwrap_or (written t k) v) named) a.1) r.1,
    )

pub histories_left : HistoriesAreLeft
histories_left first m kept reached none k =
    let asked = λ (t : List Node) (us : List ℕ) (w : Option ℤ). newest us in
    let any = told_any_time asked first m reached in
    let t = m.tree in
    let sound = trees asked first m any in
    let fit = cells asked first m any in
    let all = have_all asked first m any none in
    let same = all_named first m (states (at_any_time asked) first m any) none in
    record {
      sound = sound;
      cells = fit.2;
      journals = record {
        len = k.len ∙ ap length fit.0;
        each = λ c v es e f.
            (let at = ap (λ vs. slice_get vs c) fit.0 ∙ e in
            let P : List ℕ → Type 0 = λ ss. AreEntriesAt t v ss es in
            let Q : List ℕ → Type 0 = λ ns. AreRead t v ns in
            entries_of t sound.stamps c v (live_accesses t c) es (live_touched t c) (subst P (all c) (k.each c v es at f)) (subst Q (same c) (reads_met first m any c v e)));
      };
      ended = λ c h. (let P : List ℕ → Type 0 = λ ns. AllEndedBetween t ns in subst P (same c) (ended first m any c));
      cancels = cancels_right first m any none;
      refusals = record {
        each = askers_tried asked first m any;
        recorded = conflicts_recorded asked first m reached;
        aborted = aborted_victims asked first m any;
        committed = committed_safe asked first m any;
      };
      rolls_back = dying_back asked first m any;
    }
