-- Where an access is refused as soon as it conflicts, its conflict can tell what it met; and where each stamp is drawn by the step that uses
-- it, all are drawn in time.
use Rattle.std.proofs.Common.{◌≡◌, ℕ, zero, suc, ◌+◌, ◌-◌, ◌<◌, ◌≤◌, List, [], ◌∷◌, ◌++◌, length, drop, ap, sym, ◌∙◌, subst, arith, cond, inl, inr, length-append}
use Rattle.std.specs.Prelude.{◌&&◌, not, ℤ, All}
use Rattle.std.proofs.lemmas.Bool.{and_parts, cases_Bool}
use Rattle.std.proofs.lemmas.List.{length-drop, drop-append-le}
use Rattle.std.specs.List.Sorted.{IsStrictlyIncreasing}
use Rattle.cw_tree.specs.declared.node.Node.{Node}
use Rattle.cw_tree.specs.Nodes.{is_pending}
use Rattle.cw_tree.specs.Walks.{is_above, is_ancestor}
use Rattle.cw_tree.specs.Series.{place}
use Rattle.cw_tree.specs.Accesses.{HasAccess}
use Rattle.cw_tree.specs.AccessStacks.{access_at}
use Rattle.cw_tree.specs.Newest.{newest, last_eight}
use Rattle.cw_tree.proofs.Lists.{In}
use Rattle.cw_tree.proofs.Rising.{Rises, rises_increase}
use Rattle.cw_tree.proofs.Members.{all_of}
use Rattle.cw_tree.proofs.NodeKinds.{pending_block}
use Rattle.cw_open.specs.Machine.{OpenMachine, live}
use Rattle.cw_open.specs.Steps.{Met, Step, forks, begins, accesses, refuses, outputs, cancels, commits, undoes, aborts, finishes, joins, stops, after_open_step, first_machine}
use Rattle.cw_open.specs.Runs.{Allowed, IsRun, IsRefused, at_once}
use Rattle.cw_open.specs.Times.{is_changed, times_after, IsDrawn, IsMetInTime, IsTimely, AreTimely, IsAhead, AreAhead}
use Rattle.cw_open.specs.Refused.{IsNewest, as_told, AtOnceIsTold, AheadIsTimely}
use Rattle.cw_open.proofs.Runs.States.{IsState, state_after, state_opening}
use Rattle.cw_open.proofs.Refused.Told.{met_is}

-- ## Conflicts tell what an access met

rises_drop : (k : ℕ) (us : List ℕ) → Rises us → Rises (drop k us)
rises_drop zero us r = r
rises_drop (suc k) [] r = r
rises_drop (suc k) (u ∷ us) r = rises_drop k us r.1

in_drop : (k v : ℕ) (us : List ℕ) → In v (drop k us) → In v us
in_drop zero v us i = i
in_drop (suc k) v [] i = i
in_drop (suc k) v (u ∷ us) i = inr (in_drop k v us i)

newest_split : (us : List ℕ) (s : ℕ) → newest us ≡ s ∷ [] → (vs : List ℕ) × (us ≡ vs ++ s ∷ [])
newest_split [] s e = absurd (cc e)
newest_split (u ∷ []) s e = ([], e)
newest_split (u ∷ v ∷ us) s e = let z = newest_split (v ∷ us) s e in (u ∷ z.0, ap (λ ns. u ∷ ns) z.1)

-- the last eight of rising accesses are as a conflict tells them
pub newest_told : (t : List Node) (c : ℕ) (us : List ℕ) (met : Met) → Rises us → ((v : ℕ) → In v us → HasAccess t c v) → newest us ≡ met.last ∷ [] → met.chain ≡ last_eight us → IsNewest t c met
newest_told t c us met rises are last chain =
    let (vs, split) = newest_split us met.last last in
    let n : length us ≡ length vs + 1 = ap length split ∙ length-append vs (met.last ∷ []) in
    let k = length us - 8 in
    let long : length met.chain ≡ length us - k = ap length chain ∙ length-drop k us in
    let I : List ℕ → Type 0 = λ ns. IsStrictlyIncreasing ns in
    let A : List ℕ → Type 0 = λ ns. All (HasAccess t c) ns in
    record {
      len = (omega arith, omega arith);
      rises = subst I (sym chain) (rises_increase (drop k us) (rises_drop k us rises));
      accesses = subst A (sym chain) (all_of (HasAccess t c) (drop k us) (λ v i. are v (in_drop k v us i)));
      last = (drop k vs, chain ∙ ap (drop k) split ∙ drop-append-le k vs (met.last ∷ []) (omega arith));
    }

told_step : (first : List ℤ) (m : OpenMachine) (e : Step) → IsState first m → Allowed at_once m e → Allowed (as_told (λ t us w. newest us)) m e
told_step first m (forks s stamp) w a = a
told_step first m (begins s stamp) w a = a
told_step first m (accesses s c write stamp) w a = a
told_step first m (refuses s c write met) w a = (a.0, (met_is first m s c write met w a, newest_told m.tree c (live m c) met (w.listed.rises c) (w.listed.accesses c) a.1.last a.1.chain))
told_step first m (outputs s v stamp) w a = a
told_step first m (cancels s stamp) w a = a
told_step first m (commits s stamp) w a = a
told_step first m (undoes s c) w a = a
told_step first m (aborts s stamp) w a = a
told_step first m (finishes s dead) w a = a
told_step first m (joins f) w a = a
told_step first m (stops s) w a = a

told_run : (first : List ℤ) (m : OpenMachine) (es : List Step) → IsState first m → IsRun at_once m es → IsRun (as_told (λ t us w. newest us)) m es
told_run first m [] w run = tt
told_run first m (e ∷ es) w run = (told_step first m e w run.0, told_run first (after_open_step m e) es (state_after at_once first m e w run.0) run.1)

pub at_once_told : AtOnceIsTold
at_once_told first es run = told_run first (first_machine first) es (state_opening first) run

-- ## Stamps that are drawn when they are used

clock_on : (m : OpenMachine) (e : Step) → m.clock ≤ (after_open_step m e).clock
clock_on m (forks s stamp) = omega arith
clock_on m (begins s stamp) = omega arith
clock_on m (accesses s c w stamp) = omega arith
clock_on m (refuses s c w met) = omega arith
clock_on m (outputs s v stamp) = omega arith
clock_on m (cancels s stamp) = omega arith
clock_on m (commits s stamp) = omega arith
clock_on m (undoes s c) = omega arith
clock_on m (aborts s stamp) = omega arith
clock_on m (finishes s dead) = omega arith
clock_on m (joins f) = omega arith
clock_on m (stops s) = omega arith

-- no time is above the clock
abbrev pub AreLow : (ℕ → ℕ) → OpenMachine → Type 0
AreLow times m = (n : ℕ) → times n ≤ m.clock

pub low_after : (times : ℕ → ℕ) (m : OpenMachine) (e : Step) → AreLow times m → AreLow (times_after times m e) (after_open_step m e)
low_after times m e low n = elim (cases_Bool (is_changed m e n)) [
  | inl came ↦ omega (arith, ap (λ b. cond b (after_open_step m e).clock (times n)) came)
  | inr same ↦ omega (arith, ap (λ b. cond b (after_open_step m e).clock (times n)) same, low n, clock_on m e)
]

drawn : (times : ℕ → ℕ) (m : OpenMachine) (p stamp : ℕ) → AreLow times m → m.clock < stamp → IsDrawn times m.tree p stamp
drawn times m p stamp low less n h e = let le = low n in omega arith

met_now : (times : ℕ → ℕ) (m : OpenMachine) (s c : ℕ) (met : Met) → IsRefused m s c met → IsMetInTime times m.tree (place m.tree s) met
met_now times m s c met w =
    let (b, is, stamped) = w.block in
    let y = and_parts (is_pending m.tree b && is_above m.tree b (access_at m.tree met.last)) (not (is_ancestor m.tree b (place m.tree s))) is in
    let pending = (and_parts (is_pending m.tree b) (is_above m.tree b (access_at m.tree met.last)) y.0).0 in
    (b, pending_block m.tree b pending, stamped, inl pending)

timely_step : (times : ℕ → ℕ) (m : OpenMachine) (e : Step) → AreLow times m → Allowed at_once m e → IsAhead m e → IsTimely times m e
timely_step times m (forks s stamp) low a ahead = drawn times m (place m.tree s) stamp low ahead
timely_step times m (begins s stamp) low a ahead = drawn times m (place m.tree s) stamp low ahead
timely_step times m (accesses s c w stamp) low a ahead = drawn times m (place m.tree s) stamp low ahead
timely_step times m (refuses s c w met) low a ahead = met_now times m s c met a.1
timely_step times m (outputs s v stamp) low a ahead = drawn times m (place m.tree s) stamp low ahead
timely_step times m (cancels s stamp) low a ahead = drawn times m (place m.tree s) stamp low ahead
timely_step times m (commits s stamp) low a ahead = tt
timely_step times m (undoes s c) low a ahead = tt
timely_step times m (aborts s stamp) low a ahead = tt
timely_step times m (finishes s dead) low a ahead = tt
timely_step times m (joins f) low a ahead = tt
timely_step times m (stops s) low a ahead = tt

timely_run : (times : ℕ → ℕ) (m : OpenMachine) (es : List Step) → AreLow times m → IsRun at_once m es → AreAhead m es → AreTimely times m es
timely_run times m [] low run ahead = tt
timely_run times m (e ∷ es) low run ahead = (timely_step times m e low run.0 ahead.0, timely_run (times_after times m e) (after_open_step m e) es (low_after times m e low) run.1 ahead.1)

pub ahead_timely : AheadIsTimely
ahead_timely first es run ahead = timely_run (λ n. 0) (first_machine first) es (λ n. omega arith) run ahead
