-- What strands did, one thing after another. The course of a strand is a tree of what happened in it. It leads from one state of
-- the strand to another, or breaks off. A log is a course written down.
use Rattle.std.specs.Prelude.{◌≡◌, ℕ, ◌+◌, IsTrue, List, [], ◌∷◌, ◌++◌, Option, Some, None}
use Rattle.cw_code.specs.declared.FaultKind.{FaultKind}
use Rattle.cw_strand.specs.declared.want.Want.TheVariants as want
use Rattle.cw_strand.specs.declared.want.Given.TheVariants.{Nothing, Value, Back as Wrote}
use Rattle.cw_strand.specs.Strands.{Strands, is_over, AreElements, GoesTo}
use Rattle.cw_tree.specs.declared.node.Node.{Node}
use Rattle.cw_tree.specs.declared.node.Kind.{Kind}
use Rattle.cw_tree.specs.declared.node.Kind.TheVariants.{Strand, Fork, Block, Read, Write, Out, Tried, Cancel}
use Rattle.cw_tree.specs.declared.node.BlockState.{BlockState}
use Rattle.cw_tree.specs.declared.node.BlockState.TheVariants.{Pending, Committed, Aborted}
use Rattle.cw_tree.specs.Nodes.{fresh_node}
use Rattle.cw_record.specs.Replay.{IsAccessOf}
use Rattle.cw_log.specs.declared.log.Log.{Log}

pub data Course : Type 0 where
  nothing : Course
  -- an access, a refused access, an output or a cancel
  act : Course → Kind → (stamp : ℕ) → Course
  block : Course → BlockState → (stamp end : ℕ) → (inside : Course) → Course
  -- both strands of a fork; the right one either has a log of its own, with this column, or is inline and has none
  fork : Course → (column : Option ℕ) → (stamp : ℕ) → (left right : Course) → Course
  -- the run was stopped here, at a fault
  fault : Course → FaultKind → Course

-- ## What strands of a program may do

module _ {A : Type 0} (s : Strands A) where
  -- From one state to the next by an act: the strand wants the act, and is answered. If it was refused, the strand stays where it
  -- is.
  abbrev pub Acts : A → Kind → A → Type 0
  Acts a (Read c v) b = (s.want a ≡ want.Load c) × (b ≡ s.answer a (Value v))
  Acts a (Write c v) b = (s.want a ≡ want.Store c v) × (b ≡ s.answer a Nothing)
  Acts a (Out v) b = (s.want a ≡ want.Out v) × (b ≡ s.answer a Nothing)
  Acts a (Cancel back) b = (s.want a ≡ want.Cancel) × AreElements s.elements back × (b ≡ s.answer a (Wrote back))
  Acts a (Tried c) b = IsAccessOf c (s.want a) × (b ≡ a)
  Acts a kind b = ⊥

  mutual
    -- From one state to another by this course: each thing in it is what the strand wants there. A block is committed, or was
    -- rolled back and is still wanted. Both strands of each fork come to their ends.
    pub data Goes : A → Course → A → Type 0 where
      starts : {a : A} → Goes a nothing a
      acts : {a b c : A} {cs : Course} {kind : Kind} {stamp : ℕ} → Goes a cs b → Acts b kind c → Goes a (act cs kind stamp) c
      commits : {a b c : A} {cs js : Course} {stamp end : ℕ} → Goes a cs b → s.want b ≡ want.Begin → Goes (s.answer b Nothing) js c → s.want c ≡ want.End
          → Goes a (block cs Committed stamp end js) (s.answer c Nothing)
      aborts : {a b : A} {cs js : Course} {stamp end : ℕ} → Goes a cs b → s.want b ≡ want.Begin → Stops (s.answer b Nothing) js
          → Goes a (block cs Aborted stamp end js) b
      joins : {a b l r : A} {cs ls rs : Course} {column : Option ℕ} {stamp : ℕ} → Goes a cs b → s.want b ≡ want.Fork
          → Goes (s.left b) ls l → IsTrue (is_over (s.want l)) → Goes (s.right b) rs r → IsTrue (is_over (s.want r))
          → Goes a (fork cs column stamp ls rs) (s.joined r l)

    -- Like `Goes`, but may break off: in a pending block, or in the strands of a fork. Either is then the last thing in the course.
    pub data Stops : A → Course → Type 0 where
      there : {a b : A} {cs : Course} → Goes a cs b → Stops a cs
      within : {a b : A} {cs js : Course} {stamp : ℕ} → Goes a cs b → s.want b ≡ want.Begin → Stops (s.answer b Nothing) js
          → Stops a (block cs Pending stamp 0 js)
      apart : {a b : A} {cs ls rs : Course} {column : Option ℕ} {stamp : ℕ} → Goes a cs b → s.want b ≡ want.Fork
          → Stops (s.left b) ls → Stops (s.right b) rs → Stops a (fork cs column stamp ls rs)
      faults : {a b : A} {cs : Course} {kind : FaultKind} → Goes a cs b → s.want b ≡ want.Fault kind → Stops a (fault cs kind)

-- ## Written down

-- the number of nodes that the course has in its own log
abbrev pub size : Course → ℕ
size nothing = 0
size (act cs kind stamp) = size cs + 1
size (block cs state stamp end js) = size cs + 1 + size js
size (fork cs None stamp ls rs) = size cs + 3 + size ls + size rs
size (fork cs (Some column) stamp ls rs) = size cs + 2 + size ls
size (fault cs kind) = size cs

-- The nodes of the course from number `base` on, beneath the node `under`. The nodes of the strands come right behind their fork.
abbrev pub laid : Course → (base under : ℕ) → List Node
laid nothing base under = []
laid (act cs kind stamp) base under = laid cs base under ++ fresh_node under kind stamp ∷ []
laid (block cs state stamp end js) base under =
    let n = base + size cs in
    laid cs base under ++ record (fresh_node under Block stamp) { state = state; end = end } ∷ laid js (n + 1) n
laid (fork cs None stamp ls rs) base under =
    let n = base + size cs in
    laid cs base under ++ fresh_node under Fork stamp ∷ fresh_node n Strand 0 ∷ fresh_node n Strand 0 ∷ (laid ls (n + 3) (n + 1) ++ laid rs (n + 3 + size ls) (n + 2))
laid (fork cs (Some column) stamp ls rs) base under =
    let n = base + size cs in
    laid cs base under ++ fresh_node under Fork stamp ∷ fresh_node n Strand 0 ∷ laid ls (n + 2) (n + 1)
laid (fault cs kind) base under = laid cs base under

-- The log in which a strand began, with its column, and the column and the fork from which it hangs. Conflicts are no part of a
-- course.
abbrev pub own_log : Course → (column from at : ℕ) → Log
own_log cs column from at = record { column = column; from = from; fork = at; nodes = fresh_node 0 Strand 0 ∷ laid cs 1 0; conflicts = [] }

-- the logs of right strands beneath a course in the log with this column, in the order in which their forks are joined
abbrev pub rights : Course → (column base : ℕ) → List Log
rights nothing column base = []
rights (act cs kind stamp) column base = rights cs column base
rights (block cs state stamp end js) column base = rights cs column base ++ rights js column (base + size cs + 1)
rights (fork cs None stamp ls rs) column base =
    let n = base + size cs in
    rights cs column base ++ (rights ls column (n + 3) ++ rights rs column (n + 3 + size ls))
rights (fork cs (Some right) stamp ls rs) column base =
    let n = base + size cs in
    rights cs column base ++ (rights ls column (n + 2) ++ own_log rs right column n ∷ rights rs right 1)
rights (fault cs kind) column base = rights cs column base

-- all logs of a strand, its own first
abbrev pub logs_of : Course → (column from at : ℕ) → List Log
logs_of cs column from at = own_log cs column from at ∷ rights cs column 1

-- ## A law

-- A strand that goes by a course goes as the law of strands says, and ends with as many blocks begun as before.
abbrev pub CoursesGoOn : Type 0 → Type 0
CoursesGoOn A = (s : Strands A) (cs : Course) (n : ℕ) (ns : List ℕ) (a b : A) → Goes s a cs b → GoesTo s (n ∷ ns) a (n ∷ ns) b
