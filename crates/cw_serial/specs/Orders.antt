-- What is known of the strands that an order names.
use Rattle.std.specs.Prelude.{◌≡◌, ◌<◌, ℕ, zero, suc, Bool, true, false, List, [], ◌∷◌, nat_lt, slice_get, Option, Some, None, if◌then◌else◌}
use Rattle.cw_strand.specs.declared.want.Want.{Want}
use Rattle.cw_strand.specs.declared.want.Want.TheVariants.{Fault}
use Rattle.cw_tree.specs.declared.picks.Name.{Name}
use Rattle.cw_tree.specs.declared.picks.Turn.{Turn}
use Rattle.cw_serial.specs.declared.machine.Machine.{Machine as Code}
use Rattle.cw_serial.specs.declared.play.Play.{Play}
use Rattle.cw_serial.specs.declared.ends.SerialEnd.{SerialEnd}
use Rattle.cw_serial.specs.declared.ends.SerialEnd.TheVariants as last
use Rattle.cw_serial.specs.StrandTree.{at}
use Rattle.cw_serial.specs.Machine.{Machine, steps_down, is_root}
use Rattle.cw_job.specs.Jobs.{Job}
use Rattle.cw_job.specs.Room.Strands.{StrandState, strands_of_job}
use Rattle.cw_serial.specs.InMemory.{IsMachine, names_in}

-- name n of an order is that of strand i
pub record SameStrand (order names : List Name) (n i : ℕ) : Type 0 where
  pub path : List Turn
  pub here : steps_down order n ≡ Some path
  pub there : steps_down names i ≡ Some path

-- each number that is known is that of the strand with that name
abbrev pub AreKnown : (order : List Name) → (numbers : List (Option ℕ)) → (names : List Name) → Type 0
AreKnown order numbers names = (n i : ℕ) → slice_get numbers n ≡ Some (Some i) → SameStrand order names n i

abbrev pub known_of : Option (Option ℕ) → Option ℕ
known_of None = None
known_of (Some o) = o

abbrev pub root_number : Option Name → Option ℕ
root_number None = None
root_number (Some x) = if is_root x then Some 0 else None

-- the number of the strand called n, as far as it is known
abbrev pub known_number : List Name → List (Option ℕ) → ℕ → Option ℕ
known_number order numbers zero = root_number (slice_get order 0)
known_number order numbers (suc n) = known_of (slice_get numbers (suc n))

abbrev pub parent_number : Option Name → ℕ → Option ℕ
parent_number None n = None
parent_number (Some x) n = if nat_lt x.parent n then Some x.parent else None

-- from name `from` these names lead down to name n, each from the one before
abbrev pub LeadDown : List Name → (from : ℕ) → List ℕ → (n : ℕ) → Type 0
LeadDown order from [] n = from ≡ n
LeadDown order from (a ∷ rest) n = (x : Name) × (slice_get order a ≡ Some x) × (x.parent ≡ from) × (from < a) × LeadDown order a rest n

-- a name leads up to one whose strand is known, or it is no name
abbrev pub LeadsUp : List Name → List (Option ℕ) → ℕ → Option ℕ → List ℕ → Type 0
LeadsUp order numbers n None todo = (q : List Turn) → steps_down order n ≡ Some q → ⊥
LeadsUp order numbers n (Some i) todo = (from : ℕ) × (known_number order numbers from ≡ Some i) × LeadDown order from todo n

-- no strand called n is at a want or at its end in the machine
abbrev pub StandsNowhere : List Name → ℕ → Code → Type 0
StandsNowhere order n code = (job : Job) (m : Machine StrandState) (q : List Turn) → IsMachine job code m → steps_down order n ≡ Some q → at (strands_of_job job) m.strands q ≡ None

-- what is found for a name: the number of its strand, or that none is at a want or at its end
abbrev pub Finds : List Name → ℕ → Code → Option ℕ → Type 0
Finds order n code None = StandsNowhere order n code
Finds order n code (Some i) = SameStrand order (names_in code) n i

-- the strand with that number, if there is one, is that of the name; otherwise no strand with the name is at a want or at its end
abbrev pub IsNamed : Job → Machine StrandState → Code → Option ℕ → Option (List Turn) → Type 0
IsNamed job m code None None = Unit {0}
IsNamed job m code None (Some q) = at (strands_of_job job) m.strands q ≡ None
IsNamed job m code (Some i) (Some q) = steps_down (names_in code) i ≡ Some q
IsNamed job m code (Some i) None = ⊥

abbrev pub at_named : Job → Machine StrandState → Option (List Turn) → Option StrandState
at_named job m None = None
at_named job m (Some q) = at (strands_of_job job) m.strands q

-- ## A machine that is driven by the names of an order

-- The machine of the job is in the state m, and what is known of the names is true there.
pub record IsPlay (job : Job) (names : List Name) (code : Play) (m : Machine StrandState) : Type 0 where
  pub machine : IsMachine job code.machine m
  pub order : code.known.order.now ≡ names
  pub known : AreKnown names code.known.numbers.items (names_in code.machine)

-- the pick of a name was made, or it cannot be made
abbrev pub Plays : Job → List Name → Machine StrandState → Option (Machine StrandState) → Bool → Play → Type 0
Plays job names m (Some t) true new = IsPlay job names new t
Plays job names m None false new = IsPlay job names new m
Plays job names m t moved new = ⊥

-- how a run ends whose last strand has this want
abbrev pub end_from : Option Want → (name place : ℕ) → SerialEnd
end_from None name place = last.Stuck place
end_from (Some (Fault k)) name place = last.Fault name k
end_from (Some w) name place = last.At name
