-- How a law of strands is made from states that go on by themselves, one step at a time, until they want something.
use Rattle.std.specs.Prelude.{◌≡◌, ℕ, zero, suc, ◌<◌, ◌≤◌, max}
use Rattle.cw_strand.specs.declared.want.Want.{Want}
use Rattle.cw_strand.specs.declared.want.Want.TheVariants.{Fork, Sync, Done, Fault}
use Rattle.cw_strand.specs.declared.want.Given.{Given}
use Rattle.cw_strand.specs.Strands.{Strands}

-- One step of a strand: it goes on by itself, or it wants something and has this state then, or it lacks what it needs.
-- From a want it goes on after its answer, or as the right strand of the fork that it wants, or, at a sync, as the
-- strand that forked.
pub data LocalStep (S : Type 0) : Type 0 where
  on : S → LocalStep S
  wants : Want → S → LocalStep S
  stuck : LocalStep S

-- a strand at its want, and the state from which it goes on
pub record Standing (S : Type 0) : Type 0 where
  pub want : Want
  pub state : S

pub record Running (S : Type 0) : Type 0 where
  -- how many elements the cells have
  pub elements : ℕ
  -- the strand of main, before its first step
  pub first : S
  pub step : S → LocalStep S
  -- what an answer makes of a state
  pub answered : Given → S → S
  -- the left strand of the newest fork, before its first step
  pub left : S → S
  -- the strand that forked, from the ends of the right one and the left one
  pub joined : (right left : S) → S
  -- a bound on how many steps by itself follow each other
  pub bound : S → ℕ

module _ {S : Type 0} (r : Running S) where
  -- what a strand reaches by a step; `go` says how a state goes on by itself, and a strand that lacks what it needs is done
  abbrev pub stand_by : S → LocalStep S → (S → Standing S) → Standing S
  stand_by s (on t) go = go t
  stand_by s (wants w t) go = record { want = w; state = t }
  stand_by s stuck go = record { want = Done; state = s }

  -- what a state reaches by at most n steps by itself, and one step more
  abbrev pub stand_within : ℕ → S → Standing S
  stand_within zero s = stand_by s (r.step s) (λ t. record { want = Done; state = t })
  stand_within (suc n) s = stand_by s (r.step s) (λ t. stand_within n t)

  -- What a state reaches by all that it does by itself.
  abbrev pub stand : S → Standing S
  stand s = stand_within (r.bound s) s

  -- a bound on how many forks and answers follow each other from here
  abbrev pub depth_of : Want → S → ℕ
  depth_of Fork s = suc (max (r.bound s) (r.bound (r.left s)))
  depth_of Sync s = r.bound s
  depth_of Done s = r.bound s
  depth_of (Fault k) s = r.bound s
  depth_of w s = suc (r.bound s)

  -- The strands: each is at the want that it reaches by itself.
  abbrev pub strands : Strands (Standing S)
  strands = record {
    elements = r.elements;
    start = stand r.first;
    want = λ x. x.want;
    answer = λ x given. stand (r.answered given x.state);
    left = λ x. stand (r.left x.state);
    right = λ x. stand x.state;
    joined = λ right left. stand (r.joined right.state left.state);
    depth = λ x. depth_of x.want x.state;
  }

  -- by steps of its own a state reaches a want, or lacks what it needs
  pub data ComesTo : S → Standing S → Type 0 where
    here : {s : S} {x : Standing S} → r.step s ≡ wants x.want x.state → ComesTo s x
    lacks : {s : S} → r.step s ≡ stuck → ComesTo s (record { want = Done; state = s })
    goes_on : {s t : S} {x : Standing S} → r.step s ≡ on t → ComesTo t x → ComesTo s x

  -- A strand never goes on by itself for ever: its steps lead to what `stand` gives.
  abbrev pub Settles : Type 0
  Settles = (s : S) → ComesTo s (stand s)

  -- the states that the strands go through, whatever they are answered and whichever are joined
  pub data Visits : S → Type 0 where
    starts : Visits r.first
    steps : {s t : S} → Visits s → r.step s ≡ on t → Visits t
    answers : {s t : S} {w : Want} → Visits s → r.step s ≡ wants w t → (given : Given) → Visits (r.answered given t)
    goes_left : {s t : S} → Visits s → r.step s ≡ wants Fork t → Visits (r.left t)
    goes_right : {s t : S} → Visits s → r.step s ≡ wants Fork t → Visits t
    joins : {s t u v : S} {w x : Want} → Visits s → r.step s ≡ wants w t → Visits u → r.step u ≡ wants x v → Visits (r.joined t v)

  -- No strand ever lacks what it needs, whatever it is answered.
  abbrev pub NeverStuck : Type 0
  NeverStuck = (s : S) → Visits s → r.step s ≡ stuck → ⊥

  -- `bound` is a bound: it falls with each step, also with one that wants something and goes on, on both sides of a fork.
  pub record IsBounded : Type 0 where
    pub on : (s t : S) → r.step s ≡ on t → r.bound t < r.bound s
    pub want : (s t : S) (w : Want) → r.step s ≡ wants w t → depth_of w t ≤ r.bound s
    pub answered : (given : Given) (s : S) → r.bound (r.answered given s) ≤ r.bound s
    pub joined : (right left : S) → r.bound (r.joined right left) ≤ r.bound right
