-- The events of a running strand fit, and those of a fork.
use Rattle.std.proofs.Common.{◌≡◌, ℕ, ◌<◌, List, length, refl, ap, sym, ◌∙◌, subst, Bool, true, false, cond, Option, Some, None, nat_lt, nat_eq}
use Rattle.std.specs.Prelude.{◌&&◌, ◌||◌, not, ℤ, is_none}
use Rattle.std.specs.List.{list_all}
use Rattle.std.proofs.lemmas.Bool.{and_from, or_left, or_right, not_from_false, lt-ltb}
use Rattle.cw_tree.specs.declared.closed.Halt.{Halt}
use Rattle.cw_tree.specs.Nodes.{is_fork}
use Rattle.cw_tree.specs.Walks.{has}
use Rattle.cw_tree.specs.Series.{children, place}
use Rattle.cw_tree.specs.Refusals.{is_victim}
use Rattle.cw_open.specs.Machine.{OpenMachine, has_finished, is_running, in_block, is_dying, is_free, rolls_back}
use Rattle.cw_open.specs.Runs.{IsReachedBy, at_any_time, left_died}
use Rattle.cw_open.proofs.Runs.LawsHold.{cells, at_any}
use Rattle.cw_open.proofs.Refused.Victims.{dying_roll_back, free_are_safe}
use Rattle.cw_core.specs.declared.event.Event.{Event}
use Rattle.cw_core.specs.declared.event.Event.TheVariants as event
use Rattle.cw_core.specs.State.{CoreState, has_columns, is_split, waits_for_left, spent}
use Rattle.cw_core.specs.Events.{fits, fits_now, is_stop, is_unstarted, may_stop}
use Rattle.cw_sim.specs.Workers.{left_node, right_node}
use Rattle.cw_sim.specs.Kept.{CoreGoesOn}

-- with a Finish of a strand that is dying, or not
finish_test : (b dead : Bool) → b ≡ dead → (x : Bool) → cond b dead (not dead || x) ≡ true
finish_test true true e x = refl
finish_test false false e x = refl
finish_test true false e x = absurd (cc e)
finish_test false true e x = absurd (cc e)

dead_test : (b x : Bool) → x ≡ true → cond b true (false || x) ≡ true
dead_test true x e = refl
dead_test false x e = e

module _ (first : List ℤ) (k : CoreState) (on : CoreGoesOn first k) where
  abbrev m : OpenMachine
  m = k.machine

  -- while the core goes on, an event fits where it has what it needs
  pub fits_on : (e : Event) → fits_now k e ≡ true → fits k e ≡ true
  fits_on e now =
      and_from (is_none k.halt && (is_none (spent k) || is_stop e)) (fits_now k e)
      (and_from (is_none k.halt) (is_none (spent k) || is_stop e) (ap is_none on.halt) (or_left (is_none (spent k)) (is_stop e) (ap is_none on.spent))) now

  reached : IsReachedBy (at_any_time (λ t us w. Rattle.cw_tree.specs.Newest.newest us)) first m
  reached = at_any first m on.core.reached

  -- ## A strand that runs, and does not wait for a left one

  module _ (x : ℕ) (running : is_running m x ≡ true) (ready : waits_for_left k x ≡ false) where
    pub free : is_dying m x ≡ false → is_free m x ≡ true
    free alive = and_from (is_running m x) (not (is_dying m x)) running (not_from_false (is_dying m x) alive)

    goes : is_dying m x ≡ false → (is_free m x && not (waits_for_left k x)) ≡ true
    goes alive = and_from (is_free m x) (not (waits_for_left k x)) (free alive) (not_from_false (waits_for_left k x) ready)

    pub fork_fits : is_dying m x ≡ false → fits k (event.Fork x) ≡ true
    fork_fits alive = fits_on (event.Fork x) (goes alive)

    pub begin_fits : is_dying m x ≡ false → fits k (event.Begin x) ≡ true
    begin_fits alive = fits_on (event.Begin x) (goes alive)

    pub out_fits : (v : ℤ) → is_dying m x ≡ false → fits k (event.Out x v) ≡ true
    out_fits v alive = fits_on (event.Out x v) (goes alive)

    pub cancel_fits : is_dying m x ≡ false → in_block m x ≡ true → fits k (event.Cancel x) ≡ true
    cancel_fits alive within = fits_on (event.Cancel x) (and_from (is_free m x && not (waits_for_left k x)) (in_block m x) (goes alive) within)

    pub access_fits : (c : ℕ) (write : Option ℤ) → is_dying m x ≡ false → c < length first → fits k (event.Access x c write) ≡ true
    access_fits c write alive low =
        let P : ℕ → Type 0 = λ n. c < n in
        let there : c < length m.lists = subst P (sym ((cells (λ t us w. Rattle.cw_tree.specs.Newest.newest us) first m reached).1)) low in
        fits_on (event.Access x c write) (and_from (is_free m x && not (waits_for_left k x)) (nat_lt c (length m.lists)) (goes alive) (lt-ltb c (length m.lists) there))

    pub commit_fits : is_dying m x ≡ false → in_block m x ≡ true → fits k (event.Commit x) ≡ true
    commit_fits alive within =
        let safe = free_are_safe (λ t us w. Rattle.cw_tree.specs.Newest.newest us) first m reached x (and_from (is_free m x) (in_block m x) (free alive) within) in
        fits_on (event.Commit x)
        (and_from (is_free m x && not (waits_for_left k x) && in_block m x) (not (is_victim m.tree m.conflicts (place m.tree x)))
        (and_from (is_free m x && not (waits_for_left k x)) (in_block m x) (goes alive) within) (not_from_false (is_victim m.tree m.conflicts (place m.tree x)) safe))

    pub rolls : is_dying m x ≡ true → in_block m x ≡ true → rolls_back m x ≡ true
    rolls dying within = dying_roll_back (λ t us w. Rattle.cw_tree.specs.Newest.newest us) first m reached x (and_from (is_running m x && in_block m x) (is_dying m x) (and_from (is_running m x) (in_block m x) running within) dying)

    pub roll_fits : is_dying m x ≡ true → in_block m x ≡ true → fits k (event.Roll x) ≡ true
    roll_fits dying within = fits_on (event.Roll x) (and_from (rolls_back m x) (not (waits_for_left k x)) (rolls dying within) (not_from_false (waits_for_left k x) ready))

    finish_by : (dead : Bool) → in_block m x ≡ false → cond (is_dying m x) dead (not dead || left_died m x) ≡ true → fits k (event.Finish x dead) ≡ true
    finish_by dead out test =
        fits_on (event.Finish x dead)
        (and_from (is_running m x && not (waits_for_left k x) && not (in_block m x)) (cond (is_dying m x) dead (not dead || left_died m x))
        (and_from (is_running m x && not (waits_for_left k x)) (not (in_block m x)) (and_from (is_running m x) (not (waits_for_left k x)) running (not_from_false (waits_for_left k x) ready)) (not_from_false (in_block m x) out)) test)

    -- dead where it is dying, and else not
    pub finish_fits : (dead : Bool) → is_dying m x ≡ dead → in_block m x ≡ false → fits k (event.Finish x dead) ≡ true
    finish_fits dead is out = finish_by dead out (finish_test (is_dying m x) dead is (left_died m x))

    -- and dead too where it made no step and its left strand finished dead
    pub finish_after_dead : in_block m x ≡ false → left_died m x ≡ true → fits k (event.Finish x true) ≡ true
    finish_after_dead out died = finish_by true out (dead_test (is_dying m x) (left_died m x) died)

  -- ## A fork

  pub split_fits : (f : ℕ) → is_fork m.tree f ≡ true → has_columns k f ≡ true → is_split k f ≡ false → has m.joined f ≡ false → is_unstarted k f ≡ true → fits k (event.Split f) ≡ true
  split_fits f fork room off apart fresh =
      fits_on (event.Split f)
      (and_from (is_fork m.tree f && has_columns k f && not (is_split k f) && not (has m.joined f)) (is_unstarted k f)
      (and_from (is_fork m.tree f && has_columns k f && not (is_split k f)) (not (has m.joined f))
      (and_from (is_fork m.tree f && has_columns k f) (not (is_split k f)) (and_from (is_fork m.tree f) (has_columns k f) fork room) (not_from_false (is_split k f) off)) (not_from_false (has m.joined f) apart)) fresh)

  pub join_fits : (f : ℕ) → is_fork m.tree f ≡ true → has m.joined f ≡ false → has_finished m (left_node f) ≡ true → has_finished m (right_node f) ≡ true → fits k (event.Join f) ≡ true
  join_fits f fork apart left right =
      fits_on (event.Join f)
      (and_from (is_fork m.tree f && not (has m.joined f)) (list_all (has_finished m) (children m.tree f)) (and_from (is_fork m.tree f) (not (has m.joined f)) fork (not_from_false (has m.joined f) apart))
      (ap (list_all (has_finished m)) (on.forks f fork) ∙ and_from (has_finished m (left_node f)) (has_finished m (right_node f) && true) left (and_from (has_finished m (right_node f)) true right refl)))

-- a stop fits until the core has stopped
pub stop_fits : (k : CoreState) (h : Halt) → k.halt ≡ None → may_stop k h ≡ true → fits k (event.Stop h) ≡ true
stop_fits k h going may =
    and_from (is_none k.halt && (is_none (spent k) || true)) (may_stop k h)
    (and_from (is_none k.halt) (is_none (spent k) || true) (ap is_none going) (or_right (is_none (spent k)) true refl)) may

-- the strand that spent its budget may stop so
pub spent_stop : (k : CoreState) (x : ℕ) → k.halt ≡ None → spent k ≡ Some x → fits k (event.Stop (Rattle.cw_tree.specs.declared.closed.Halt.TheVariants.Budget x)) ≡ true
spent_stop k x going e =
    stop_fits k (Rattle.cw_tree.specs.declared.closed.Halt.TheVariants.Budget x) going
    (ap (λ o. Rattle.std.specs.Option.option_map_or (λ y. nat_eq y x) o false) e ∙ Rattle.std.proofs.lemmas.Bool.eq-eqb x x refl)
