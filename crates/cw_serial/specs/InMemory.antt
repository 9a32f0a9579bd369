-- What the machine in memory means.
use Rattle.std.specs.Prelude.{◌≡◌, ◌==◌, ◌<◌, ◌≤◌, ℕ, ℤ, suc, Bool, true, false, List, [], ◌∷◌, map, drop, length, slice_get, slice_set, Option, Some, None, if◌then◌else◌}
use Rattle.std.specs.List.{AllZip}
use Rattle.cw_strand.specs.declared.want.Want.{Want}
use Rattle.cw_strand.specs.declared.want.Given.{Given}
use Rattle.cw_strand.specs.Strands.{Strands, is_over}
use Rattle.cw_tree.specs.declared.picks.Name.{Name}
use Rattle.cw_tree.specs.declared.picks.Turn.{Turn}
use Rattle.cw_serial.specs.declared.machine.Machine.{Machine as Code}
use Rattle.cw_serial.specs.declared.undo.Begun.{Begun as Block}
use Rattle.cw_serial.specs.declared.undo.Undo.{Undo}
use Rattle.cw_serial.specs.declared.undo.Write.{Write}
use Rattle.cw_job.specs.Jobs.{Job}
use Rattle.cw_code.specs.declared.program.Program.{Program}
use Rattle.cw_serial.specs.AreOf.{AreOf}
use Rattle.cw_job.specs.Room.Strands.{StrandState, state_of, strands_of_job}
use Rattle.cw_serial.specs.StrandTree.{StrandTree, at}
use Rattle.cw_serial.specs.Wants.{Since, answer_to, memory_after, outputs_after, blocks_after, since_after}
use Rattle.cw_serial.specs.Machine.{Begun, Machine, steps_down}
use Rattle.cw_serial.specs.Spots.{IsSettled}
use Rattle.cw_serial.specs.TableInMemory.{root, left_name, right_name, Holds}

-- the names of the strands that were started, each at its number
abbrev pub names_in : Code → List Name
names_in code = code.strands.names.items

-- the blocks were begun by the strands with these names
abbrev pub AreBegun : List Name → List Block → List Begun → Type 0
AreBegun names [] [] = Unit {0}
AreBegun names (n ∷ ns) (q ∷ qs) = (steps_down names n.strand ≡ Some q.strand) × AreBegun names ns qs
AreBegun names ns qs = ⊥

-- ## What begun blocks may put back

-- the memory before the writes, from that after them: they are undone, the newest first
abbrev pub undone : List Write → List ℤ → List ℤ
undone [] memory = memory
undone (w ∷ ws) memory = slice_set (undone ws memory) w.element w.replaced

-- the memory before the writes, and what they wrote
abbrev pub since_of : List Write → List ℤ → Since
since_of ws memory = record { memory = undone ws memory; written = map (λ (w : Write). w.element) ws }

-- what an element held before the first of the writes that wrote it
abbrev pub held_before : List Write → ℕ → Option ℤ
held_before [] c = None
held_before (w ∷ ws) c = if w.element == c then Some w.replaced else held_before ws c

-- A block may put back x: the writes since its begin are those from position `b.writes` on.
abbrev pub IsSince : List Write → List ℤ → Block → Since → Type 0
IsSince ws memory b x = (b.writes ≤ length ws) × (x ≡ since_of (drop b.writes ws) memory)

-- what the begun blocks may put back in this memory
abbrev pub AreSince : Undo → List ℤ → List Since → Type 0
AreSince undo memory since = AllZip (IsSince undo.writes.items memory) undo.begun since

-- ## The machine

-- The machine of the job is in the state m.
pub record IsMachine (job : Job) (code : Code) (m : Machine StrandState) : Type 0 where
  pub memory : m.memory ≡ code.memory.items
  pub outputs : m.outputs ≡ code.outputs.items
  pub strands : Holds state_of code.strands m.strands
  pub settled : IsSettled (strands_of_job job) m.strands
  pub begun : AreBegun (names_in code) code.undo.begun m.begun
  pub since : AreSince code.undo code.memory.items m.since

-- The strands of the machine are those of the program.
abbrev pub Runs : Program → Code → Type 0
Runs program code = AreOf program code.strands.rows.items

-- The names of the strands that were started, in the order in which they were. Number 0 is the root. A strand's number
-- is greater than that of the one that started it. No two strands have the same name. Both strands of a fork were
-- started, and both of each earlier one. Each strand that is at a want or at its end is among them.
pub record AreNames {A : Type 0} (s : Strands A) (names : List Name) (t : StrandTree A) : Type 0 where
  pub first : slice_get names 0 ≡ Some root
  pub parents : (j : ℕ) (n : Name) → slice_get names (suc j) ≡ Some n → n.parent < suc j
  pub named : (i : ℕ) → i < length names → (q : List Turn) × (steps_down names i ≡ Some q)
  pub apart : (i j : ℕ) (q : List Turn) → steps_down names i ≡ Some q → steps_down names j ≡ Some q → i ≡ j
  pub forks : (j : ℕ) (n : Name) (f : ℕ) → slice_get names (suc j) ≡ Some n → 0 < f → f ≤ n.fork
      → (l : ℕ) × (r : ℕ) × (slice_get names l ≡ Some (left_name n.parent f)) × (slice_get names r ≡ Some (right_name n.parent f))
  pub listed : (q : List Turn) (a : A) → at s t q ≡ Some a → (i : ℕ) × (steps_down names i ≡ Some q)

-- a want, unless it is an end
abbrev pub before_end : Option Want → Option Want
before_end None = None
before_end (Some w) = if is_over w then None else Some w

-- what a strand wants that is not at its end
abbrev pub want_before_end : {A : Type 0} → Strands A → Option A → Option Want
want_before_end s None = None
want_before_end s (Some a) = before_end (Some (s.want a))

-- a pick was made, or it cannot be made
abbrev pub Picks : Job → Machine StrandState → Option (Machine StrandState) → Bool → Code → Type 0
Picks job m (Some t) true new = IsMachine job new t
Picks job m None false new = IsMachine job new m
Picks job m t moved new = ⊥

-- ## A want

-- the innermost begun block is that of strand n
abbrev pub is_own : ℕ → List Block → Bool
is_own n [] = false
is_own n (b ∷ blocks) = b.strand == n

-- the begun blocks after a want of strand n, or none if it cannot be done
abbrev pub begun_after : Want → ℕ → Undo → Option (List Block)
begun_after w n undo = blocks_after (record { strand = n; writes = length undo.writes.items }) (λ b. b.strand == n) w undo.begun

-- The begun blocks are those after a want of strand n in this memory, and so is what they may put back.
pub record BlocksFollow (w : Want) (n : ℕ) (memory : List ℤ) (old new : Undo) : Type 0 where
  pub begun : begun_after w n old ≡ Some new.begun
  pub since : (before : List Since) → AreSince old memory before → AreSince new (memory_after w memory) (since_after w memory before)

-- the undo follows the want, or the want cannot be done, and nothing changed
abbrev pub UndoFollows : Want → ℕ → List ℤ → Undo → Bool → Undo → Type 0
UndoFollows w n memory old true new = BlocksFollow w n memory old new
UndoFollows w n memory old false new = (begun_after w n old ≡ None) × (new ≡ old)

-- A want of strand n was done, and `given` is the answer to the strand.
pub record IsDone (w : Want) (n : ℕ) (old : Code) (given : Given) (new : Code) : Type 0 where
  pub given_is : (since : List Since) → AreSince old.undo old.memory.items since → given ≡ answer_to w old.memory.items since
  pub memory : new.memory.items ≡ memory_after w old.memory.items
  pub outputs : new.outputs.items ≡ outputs_after w old.outputs.items
  pub undo : BlocksFollow w n old.memory.items old.undo new.undo
  pub strands : new.strands ≡ old.strands

-- a want of strand n was done, or it cannot be done, and nothing changed
abbrev pub DoesWant : Want → ℕ → Code → Option Given → Code → Type 0
DoesWant w n old (Some given) new = IsDone w n old given new
DoesWant w n old None new = (begun_after w n old.undo ≡ None) × (new ≡ old)
