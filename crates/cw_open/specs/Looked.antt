-- What a strand finds in the list of a cell beneath its innermost pending block, while others step, and what it puts back by that. The
-- laws on lists are over runs in which an access may conflict only with the newest one, so that lists are chains.
use Rattle.std.specs.Prelude.{◌≡◌, ◌≢◌, ℕ, suc, ℤ, pos, ◌<◌, ◌≤◌, ◌&&◌, Bool, true, false, not, IsTrue, All, Contains, List, [], ◌∷◌, length, map, take_while, is_some, slice_index_or}
use Rattle.std.specs.List.{list_any}
use Rattle.cw_code.specs.declared.Back.{Back}
use Rattle.cw_tree.specs.Nodes.{is_pending}
use Rattle.cw_tree.specs.Walks.{has, is_above}
use Rattle.cw_tree.specs.Series.{place}
use Rattle.cw_tree.specs.Accesses.{written, cell_value}
use Rattle.cw_tree.specs.AccessStacks.{access_at}
use Rattle.cw_tree.specs.Cancels.{before_block}
use Rattle.cw_tree.specs.Newest.{newest}
use Rattle.cw_tree.specs.NextNodes.{IsNextStamp}
use Rattle.cw_open.specs.Machine.{OpenMachine, live, is_running, in_block}
use Rattle.cw_open.specs.Steps.{Step, live_beside, puts_back, after_open_step}
use Rattle.cw_open.specs.Runs.{Allowed, IsReachedBy, at_any_time}
use Rattle.cw_open.specs.Laws.{OfEachState, OfEachWithNewest}
use Rattle.cw_open.specs.Hands.{is_step_of}

-- what is true of each step of another, for a running strand in a block of its own
abbrev pub OfEachOtherBeside : (OpenMachine → Step → ℕ → Type 0) → Type 0
OfEachOtherBeside P =
    (first : List ℤ) (m : OpenMachine) → IsReachedBy (at_any_time (λ t us w. newest us)) first m → (e : Step) → Allowed (at_any_time (λ t us w. newest us)) m e → (s : ℕ)
    → IsTrue (is_running m s && in_block m s) → is_step_of s e ≡ false → P m e s

-- ## One list

-- an access of the list of cell c is beneath the place of strand s
abbrev pub IsBeneath : OpenMachine → (s c u : ℕ) → Type 0
IsBeneath m s c u = IsTrue (has (live m c) u && is_above m.tree (place m.tree s) (access_at m.tree u))

-- if a list has an access beneath the block of a running strand, its newest one is beneath that block
abbrev pub NewestAreBeneath : Type 0
NewestAreBeneath =
    OfEachWithNewest (λ first m. (s c u : ℕ) → IsTrue (is_running m s && in_block m s) → IsBeneath m s c u → (v : ℕ) × (newest (live m c) ≡ v ∷ []) × IsBeneath m s c v)

-- and none is beneath the block of another running strand
abbrev pub OneBlockHas : Type 0
OneBlockHas =
    OfEachWithNewest (λ first m. (s x c u v : ℕ) → s ≢ x → IsTrue (is_running m s && in_block m s) → IsTrue (is_running m x && in_block m x) → IsBeneath m s c u → IsBeneath m x c v → ⊥)

-- so a step of another leaves the list: its access would conflict, and it has nothing there to undo
abbrev pub BeneathStays : Type 0
BeneathStays = OfEachOtherBeside (λ m e s. (c u : ℕ) → IsBeneath m s c u → live (after_open_step m e) c ≡ live m c)

-- what is beneath a pending block is the end of a list: what an undo leaves is what comes before the first access beneath the block
abbrev pub BeneathIsLast : Type 0
BeneathIsLast =
    OfEachWithNewest (λ first m. (b c : ℕ) → IsTrue (is_pending m.tree b) → live_beside m b c ≡ take_while (λ u. not (is_above m.tree b (access_at m.tree u))) (live m c))

-- ## Looks

-- the live accesses of a cell, as nodes
abbrev pub accesses_of : OpenMachine → (c : ℕ) → List ℕ
accesses_of m c = map (access_at m.tree) (live m c)

-- whether one of them is a write beneath block b; and then the value from before the first of them that is beneath it
pub record IsFound (m : OpenMachine) (b c : ℕ) (w : Bool) (v : ℤ) : Type 0 where
  pub there : c < length m.first
  pub wrote : w ≡ list_any (λ u. is_above m.tree b u && is_some (written m.tree u)) (accesses_of m c)
  pub value : w ≡ true → v ≡ cell_value (slice_index_or m.first c (pos 0)) (map (written m.tree) (before_block m.tree b (accesses_of m c)))

-- a step of another leaves what a strand found beneath its block
abbrev pub LooksStay : Type 0
LooksStay = OfEachOtherBeside (λ m e s. (c : ℕ) (w : Bool) (v : ℤ) → IsFound m (place m.tree s) c w v → IsFound (after_open_step m e) (place (after_open_step m e).tree s) c w v)

-- ## What a strand puts back

-- the cells of a list of values to put back rise strictly, from cell n on
abbrev pub RiseFrom : ℕ → List Back → Type 0
RiseFrom n [] = Unit {0}
RiseFrom n (x ∷ xs) = (n ≤ x.cell) × RiseFrom (suc x.cell) xs

-- a list of what was found: by rising cells, each with a write beneath block b
pub record IsListFound (m : OpenMachine) (b : ℕ) (back : List Back) : Type 0 where
  pub rises : RiseFrom 0 back
  pub found : All (λ x. IsFound m b x.cell true x.value) back
  pub all : (c : ℕ) → c < length m.first → IsTrue (list_any (λ u. is_above m.tree b u && is_some (written m.tree u)) (accesses_of m c)) → Contains (map (λ x. x.cell) back) c

-- it is what the strand in that block puts back, if it gives the block up with a next stamp
abbrev pub FoundArePutBack : Type 0
FoundArePutBack =
    OfEachState (λ first m. (s stamp : ℕ) (back : List Back) → IsTrue (is_running m s && in_block m s) → IsNextStamp m.tree (place m.tree s) stamp → IsListFound m (place m.tree s) back
    → back ≡ puts_back m s stamp)
