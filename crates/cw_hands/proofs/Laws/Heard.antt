-- What words that are loaded tell of an access, and that it stays right.
use Rattle.std.proofs.Common.{◌≡◌, ℕ, ◌<◌, ◌∙◌, refl, ap, sym, subst, Bool, true, false, Option, Some, None, List, length}
use Rattle.std.specs.Prelude.{ℤ, IfSome, slice_index, if◌then◌else◌}
use Rattle.cw_tree.specs.declared.access.Mark.{Mark}
use Rattle.cw_tree.specs.declared.node.Node.{Node}
use Rattle.cw_tree.specs.Nodes.{touches_kind, stamp_of, touches}
use Rattle.cw_tree.specs.Walks.{nua}
use Rattle.cw_tree.specs.Series.{place}
use Rattle.cw_tree.specs.Shape.{AreStamps}
use Rattle.cw_tree.specs.AccessStacks.{access_at}
use Rattle.cw_tree.proofs.Walks.There.{node_there}
use Rattle.cw_trace.specs.declared.verdict.Verdict.{Verdict}
use Rattle.cw_trace.specs.declared.verdict.Verdict.TheVariants.{Free, Within, Against}
use Rattle.cw_trace.specs.Columns.{ColumnTable, used, owner, lead, up}
use Rattle.cw_trace.specs.Stands.{column, word_of}
use Rattle.cw_trace.specs.Running.{MayGoOn}
use Rattle.cw_trace.specs.Query.{came_before, stands_in, verdict_of, verdict_around}
use Rattle.cw_trace.specs.Verdicts.{mark_of, Tells}
use Rattle.cw_trace.specs.Hands.{StandsInOrder}
use Rattle.cw_trace.proofs.Query.Answering.{decides}
use Rattle.cw_trace.proofs.ManyHands.Loads.{one_word_decides}
use Rattle.cw_open.specs.Machine.{OpenMachine, is_running}
use Rattle.cw_open.specs.Steps.{Step, after_open_step}
use Rattle.cw_open.specs.Runs.{Allowed, IsReachedBy, IsMet, at_any_time}
use Rattle.cw_open.specs.Times.{times_after, IsMetInTime}
use Rattle.cw_open.specs.Hands.{is_step_of}
use Rattle.cw_open.specs.Judged.{met_of}
use Rattle.cw_open.proofs.Laws.Named.{access_named}
use Rattle.cw_open.proofs.Hands.Judged.{accesses_stay, free_stay, within_stay, barred_met}
use Rattle.cw_open.proofs.Hands.Met.{met_stays, met_in_time_stays}
use Rattle.cw_open.proofs.Runs.States.{states}
use Rattle.cw_hands.specs.Shared.{SharedMoment, is_open_yet, place_at, SharedStep, makes, splits, merges, is_about}
use Rattle.cw_hands.specs.Beside.{times_then}
use Rattle.cw_hands.specs.Heard.{by_trace_around, by_own_word, TellsByWord, WordsTell, ColumnsTell, StaysRight, RightStays, VerdictsStay}
use Rattle.cw_hands.proofs.Laws.Runs.{machine_reached, well_at, tiers_stand, ready_go_on}

-- ## One word

module _ (c : ColumnTable) (words : List ℕ) (t : List Node) (cuts joins : List ℕ) (is_open : ℕ → Bool) (s : StandsInOrder c words t cuts joins is_open) (stamps : AreStamps t)
    (p : ℕ) (m : MayGoOn c t cuts is_open p) (cell u : ℕ) (access : touches t cell u ≡ true) where
  abbrev last : Mark
  last = mark_of c t u

  abbrev asker : ℕ
  asker = column t (used c) p

  abbrev trace_of : ℕ
  trace_of = owner c last.strand

  now : Tells t u p (if came_before (word_of words (lead c trace_of)) last.stamp then verdict_of (stands_in c asker trace_of) (word_of words (lead c trace_of)) else verdict_around c words asker (up c trace_of))
  now = decides c words last asker t cuts joins is_open cell u p s.keeps s.tree stamps s.ordered m access refl refl

  around_now : (o : Option ℕ) → Tells t u p (verdict_around c words asker o) → IfSome (by_trace_around c asker o) (Tells t u p)
  around_now None h = h
  around_now (Some y) h = by (stands_in c asker y) h where
    by : (b : Bool) → Tells t u p (verdict_of b (word_of words (lead c y))) → IfSome (if b then Some Within else None) (Tells t u p)
    by true h = h
    by false h = tt

  by_before : (b : Bool) (w : ℕ) (o : Option ℕ) → Tells t u p (if b then verdict_of (stands_in c asker trace_of) w else verdict_around c words asker o)
      → IfSome (if b then Some (verdict_of (stands_in c asker trace_of) w) else by_trace_around c asker o) (Tells t u p)
  by_before true w o h = h
  by_before false w o h = around_now o h

  -- the word of the own lead, and 0 where there is none
  own_now : (w : ℕ) → word_of words (lead c trace_of) ≡ w → IfSome (by_own_word c last asker w) (Tells t u p)
  own_now w e =
      by_before (came_before w last.stamp) w (up c trace_of)
      (subst (λ x. Tells t u p (if came_before x last.stamp then verdict_of (stands_in c asker trace_of) x else verdict_around c words asker (up c trace_of))) e now)

  pub word_tells : (g : ℕ) → TellsByWord (Tells t u p) c last asker g (slice_index words g)
  word_tells g = record {
    own = λ e. own_now (slice_index words g) (ap (word_of words) e);
    around = λ y e off l. subst (λ x. Tells t u p (Against x)) (ap (word_of words) l) (one_word_decides c words t cuts joins is_open cell u p y s stamps m access e off);
  }

  -- no word has to be loaded where the trace has no lead
  pub none_tells : lead c trace_of ≡ None → IfSome (by_trace_around c asker (up c trace_of)) (Tells t u p)
  none_tells e = own_now 0 (ap (word_of words) e)

pub words_tell : WordsTell
words_tell asked first s run root x c n g goes touched =
    word_tells s.columns s.words s.machine.tree s.cuts s.joins (is_open_yet s) (tiers_stand asked first s run root) (well_at (at_any_time asked) first s run).sound.stamps (place_at s x) (ready_go_on asked first s run root x goes) c n touched g

pub columns_tell : ColumnsTell
columns_tell asked first s run root x c n goes touched none =
    none_tells s.columns s.words s.machine.tree s.cuts s.joins (is_open_yet s) (tiers_stand asked first s run root) (well_at (at_any_time asked) first s run).sound.stamps (place_at s x) (ready_go_on asked first s run root x goes) c n touched none

-- ## What stays right

pub right_stays : RightStays
right_stays asked first m reached times s c n v running touched h = by v h where
  named : access_at m.tree (stamp_of m.tree n) ≡ n
  named = access_named m.tree (states (at_any_time asked) first m reached).well.sound.stamps c n touched

  by : (v : Verdict) → Tells m.tree n (place m.tree s) v → StaysRight times m.tree (place m.tree s) c (stamp_of m.tree n) v
  by Free h = ap (nua m.tree) named ∙ h.free.0 refl
  by Within h = let w = h.within.0 refl in (w.0, ap (nua m.tree) named ∙ w.1, w.2)
  by (Against x) h =
      let w = h.begun x refl in
      let P : ℕ → Type 0 = λ b. IsMet m.tree (place m.tree s) c (met_of (stamp_of m.tree n) b) × IsMetInTime times m.tree (place m.tree s) (met_of (stamp_of m.tree n) b) in
      subst P w.2 (barred_met asked first m reached times s c n w.0 running touched w.1)

module _ (asked : List Node → List ℕ → Option ℤ → List ℕ) (first : List ℤ) (m : OpenMachine) (reached : IsReachedBy (at_any_time asked) first m) (e : Step) (a : Allowed (at_any_time asked) m e)
    (times : ℕ → ℕ) (x c n : ℕ) (running : is_running m x ≡ true) (other : is_step_of x e ≡ false) (touched : touches m.tree c n ≡ true) where
  abbrev k : OpenMachine
  k = after_open_step m e

  abbrev mark : ℕ
  mark = stamp_of m.tree n

  was_named : access_at m.tree mark ≡ n
  was_named = access_named m.tree (states (at_any_time asked) first m reached).well.sound.stamps c n touched

  low : n < length m.tree
  low = node_there (λ y. touches_kind c y.kind) m.tree n touched

  now_named : access_at k.tree mark ≡ n
  now_named = (accesses_stay asked first m reached e a c n touched).named

  pub stays_right : (v : Verdict) → StaysRight times m.tree (place m.tree x) c mark v → StaysRight (times_after times m e) k.tree (place k.tree x) c mark v
  stays_right Free h = ap (nua k.tree) now_named ∙ free_stay asked first m reached e a n low (sym (ap (nua m.tree) was_named) ∙ h)
  stays_right Within h =
      let z = within_stay asked first m reached e a x running other n h.0 low (sym (ap (nua m.tree) was_named) ∙ h.1) h.2 in
      (h.0, ap (nua k.tree) now_named ∙ z.0, z.1)
  stays_right (Against b) h = (met_stays asked first m reached e a x running other c (met_of mark b) h.0, met_in_time_stays asked first m reached e a x running other times (met_of mark b) h.1)

pub verdicts_stay : VerdictsStay
verdicts_stay asked first s u e run root times x c n v running other touched h = by u e other where
  by : (u : SharedMoment) (e : SharedStep (at_any_time asked) s u) → is_about (at_any_time asked) s u e x ≡ false
      → StaysRight (times_then (at_any_time asked) times s u e) u.machine.tree (place_at u x) c (stamp_of s.machine.tree n) v
  by _ (makes e a ready later) other = stays_right asked first s.machine (machine_reached (at_any_time asked) first s run) e a times x c n running other touched v h
  by _ (splits f whole early unstarted) other = h
  by _ (merges f owed) other = h
