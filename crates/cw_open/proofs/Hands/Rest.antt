-- The right strand finishes after the left one, and their fork is joined.
use Rattle.std.proofs.Common.{◌≡◌, ◌≢◌, ℕ, ◌<◌, List, refl, ap, sym, ◌∙◌, subst, arith, Bool, true, false, inl, inr, nat_eq}
use Rattle.std.specs.Prelude.{◌&&◌, ◌||◌, not, if◌then◌else◌}
use Rattle.std.specs.List.{list_all}
use Rattle.std.proofs.lemmas.Bool.{and_parts, and_from, or_parts, or_left, or_right, eq-eqb, not-true, not_from_false}
use Rattle.cw_tree.specs.Nodes.{parent_of, is_strand, is_fork}
use Rattle.cw_tree.specs.Walks.{has}
use Rattle.cw_tree.specs.Series.{strand_of, children, place}
use Rattle.cw_tree.proofs.Lists.{In}
use Rattle.cw_tree.proofs.InOrder.DepthFirst.{child_is}
use Rattle.cw_tree.proofs.Walks.Strands.{strand_of_le}
use Rattle.cw_tree.proofs.Walks.There.{fork_there}
use Rattle.cw_open.specs.Machine.{OpenMachine, has_finished, waits, is_running, in_block, is_dying, leads_back}
use Rattle.cw_open.specs.Steps.{finishes, after_open_step, after_all}
use Rattle.cw_open.specs.Runs.{Rules, Allowed, IsRun, left_died, at_any_time}
use Rattle.cw_open.specs.Hands.{IsLeftAlone, RunsAgain, join_steps}
use Rattle.cw_open.specs.Joins.{rest_steps, RightHasCome, MayEndAndJoin, RightMayJoin, ForkersGoOn, RestLeavesAlone}
use Rattle.cw_open.proofs.Open.Standing.{runs}
use Rattle.cw_open.proofs.Runs.States.{states}
use Rattle.cw_open.proofs.Hands.Joined.{as_dying, others, again}

module _ (rules : Rules) (m : OpenMachine) (f l r : ℕ) (c : RightHasCome m f l r) where
  all_finished : (dead : Bool) → list_all (has_finished (after_open_step m (finishes r dead))) (children m.tree f) ≡ true
  all_finished dead = ap (list_all (has_finished (after_open_step m (finishes r dead)))) c.strands
      ∙ and_from (nat_eq r l || has_finished m l) ((nat_eq r r || has_finished m r) && true) (or_right (nat_eq r l) (has_finished m l) c.left)
      (and_from (nat_eq r r || has_finished m r) true (or_left (nat_eq r r) (has_finished m r) (eq-eqb r r refl)) refl)

  either : (dead : Bool) → Allowed rules m (finishes r dead) → IsRun rules m (rest_steps f r dead)
  either dead a = (a, (and_from (is_fork m.tree f && not (has m.joined f)) (list_all (has_finished (after_open_step m (finishes r dead))) (children m.tree f)) c.fork (all_finished dead), tt))

  pub may_end : MayEndAndJoin rules m f r
  may_end = record {
    as_dying = either (is_dying m r) (and_from (is_running m r && not (in_block m r)) (if is_dying m r then is_dying m r else (not (is_dying m r) || left_died m r)) c.right (as_dying (is_dying m r) (left_died m r)));
    either = either;
  }

pub right_may_join : RightMayJoin
right_may_join asked first m reached f l r c = may_end (at_any_time asked) m f l r c

-- ## After the join

-- both ways to join lead to the same, but for the strands that finish in them
module _ (m : OpenMachine) (f l r : ℕ) (dead : Bool) (s : ℕ) where
  abbrev k : OpenMachine
  k = after_all m (rest_steps f r dead)

  abbrev both : OpenMachine
  both = after_all m (join_steps f l r false dead)

  unfinished : has_finished both s ≡ false → has_finished k s ≡ false
  unfinished e =
      let z = or_parts (nat_eq r s) (nat_eq l s || has_finished m s) e in
      let y = or_parts (nat_eq l s) (has_finished m s) z.1 in
      ap (λ q. q || has_finished m s) z.0 ∙ y.1

  runs_too : is_running both s ≡ true → is_running k s ≡ true
  runs_too e =
      let a = and_parts (is_strand m.tree s && not (has_finished both s) && not (waits both s)) (not (has m.stopped s)) e in
      let b = and_parts (is_strand m.tree s && not (has_finished both s)) (not (waits both s)) a.0 in
      let d = and_parts (is_strand m.tree s) (not (has_finished both s)) b.0 in
      and_from (is_strand m.tree s && not (has_finished k s) && not (waits k s)) (not (has m.stopped s))
      (and_from (is_strand m.tree s && not (has_finished k s)) (not (waits k s))
      (and_from (is_strand m.tree s) (not (has_finished k s)) d.0 (not_from_false (has_finished k s) (unfinished (not-true (has_finished both s) d.1)))) b.1) a.1

  pub alone_too : is_running m s ≡ true → IsLeftAlone m both s → IsLeftAlone m k s
  alone_too running w =
      let now = runs_too w.running in
      record {
        running = now;
        place = refl;
        begun = refl;
        free = ap (λ q. q && not (is_dying m s)) (now ∙ sym running);
        rolls_back = ap (λ q. q && in_block m s && leads_back m s (place m.tree s)) (now ∙ sym running);
      }

  pub again_too : (p : ℕ) → RunsAgain m both s p → RunsAgain m k s p
  again_too p w = record { running = runs_too w.running; place = w.place; begun = w.begun }

pub rest_leaves_alone : RestLeavesAlone
rest_leaves_alone asked first m reached f l r s dead c ne running =
    let w = (states (at_any_time asked) first m reached).well in
    let unfinished = (runs m w.sound.tree w.nested s running).unfinished in
    let other : s ≢ l = λ e. cc (unfinished, ap (has_finished m) e, c.left) in
    alone_too m f l r dead s running (others m f l r false dead w s other ne running)

pub forkers_go_on : ForkersGoOn
forkers_go_on asked first m reached f l r dead c alone =
    let w = (states (at_any_time asked) first m reached).well in
    let t = m.tree in
    let z = and_parts (is_fork t f) (not (has m.joined f)) c.fork in
    let InList : ℕ → List ℕ → Type 0 = λ n ns. In n ns in
    let at_l = child_is t f l (subst (InList l) (sym c.strands) (inl refl)) in
    let at_r = child_is t f r (subst (InList r) (sym c.strands) (inr (inl refl))) in
    let up_l : parent_of t l < l = w.sound.tree.rooted l at_l.some at_l.there in
    let up_r : parent_of t r < r = w.sound.tree.rooted r at_r.some at_r.there in
    let le = strand_of_le t w.sound.tree.rooted f (fork_there t f z.0) in
    again_too m f l r dead (strand_of t f) (parent_of t f)
    (again m f l r false dead w z.0 (not-true (has m.joined f) z.1) (λ e. omega (arith, e, up_l, at_l.parent, le)) (λ e. omega (arith, e, up_r, at_r.parent, le)) alone)
