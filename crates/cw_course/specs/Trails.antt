-- What is open in a log while its strand runs, and where the strand stands.
use Rattle.std.specs.Prelude.{◌≡◌, ℕ, ◌+◌, IsTrue, List, [], ◌∷◌, ◌++◌, length, Option, Some, None}
use Rattle.cw_strand.specs.declared.want.Want.TheVariants as want
use Rattle.cw_strand.specs.declared.want.Given.TheVariants.{Nothing}
use Rattle.cw_strand.specs.Strands.{Strands, is_over}
use Rattle.cw_tree.specs.declared.node.Node.{Node}
use Rattle.cw_tree.specs.declared.node.Kind.TheVariants.{Strand, Fork, Block}
use Rattle.cw_tree.specs.Nodes.{fresh_node}
use Rattle.cw_course.specs.Courses.{Course, Goes, Stops, laid}

-- What is open, from the strand with which the log began inwards: pending blocks and unjoined forks. Each comes behind a course,
-- and with the state of its strand before it.
pub data Trail (A : Type 0) : Type 0 where
  opens : Trail A
  in_block : Trail A → Course → A → (stamp : ℕ) → Trail A
  -- in the left strand of a fork; the right one either has a log of its own, with this column, or is inline
  in_left : Trail A → Course → A → (column : Option ℕ) → (stamp : ℕ) → Trail A
  -- in the right strand of an inline fork, whose left strand came to its end by the course `left`, in the state given last
  in_right : Trail A → Course → A → (stamp : ℕ) → (left : Course) → A → Trail A

module _ {A : Type 0} (s : Strands A) where
  -- if the log began in state `a`: the state with which the innermost open thing began
  abbrev pub state_at_entry : (a : A) → Trail A → A
  state_at_entry a opens = a
  state_at_entry a (in_block t cs b stamp) = s.answer b Nothing
  state_at_entry a (in_left t cs b column stamp) = s.left b
  state_at_entry a (in_right t cs b stamp ls l) = s.right b

  -- all that came before is what strands of the program did
  abbrev pub Leads : (a : A) → Trail A → Type 0
  Leads a opens = Unit {0}
  Leads a (in_block t cs b stamp) = Leads a t × Goes s (state_at_entry a t) cs b × (s.want b ≡ want.Begin)
  Leads a (in_left t cs b column stamp) = Leads a t × Goes s (state_at_entry a t) cs b × (s.want b ≡ want.Fork)
  Leads a (in_right t cs b stamp ls l) = Leads a t × Goes s (state_at_entry a t) cs b × (s.want b ≡ want.Fork) × Goes s (s.left b) ls l × IsTrue (is_over (s.want l))

  -- The strand of a log that began in state `a` now stands in state `now`, behind the course `cs` in the innermost open thing.
  pub record Stands (a : A) (t : Trail A) (cs : Course) (now : A) : Type 0 where
    pub leads : Leads a t
    pub goes : Goes s (state_at_entry a t) cs now

  -- it was stopped there
  pub record Stopped (a : A) (t : Trail A) (cs : Course) : Type 0 where
    pub leads : Leads a t
    pub stops : Stops s (state_at_entry a t) cs

-- ## Written down

-- the nodes of a log up to where its strand goes on, and the node beneath which its next node goes
pub record Page : Type 0 where
  pub nodes : List Node
  pub place : ℕ

-- the page's nodes, and the course behind them
abbrev pub behind : Page → Course → List Node
behind p cs = p.nodes ++ laid cs (length p.nodes) p.place

-- with these nodes the strand goes on in the strand or block node with the number `place`
abbrev pub page_in : List Node → ℕ → Page
page_in nodes place = record { nodes = nodes; place = place }

-- the strand nodes beneath the fork with number `n`: both, if the right strand has no log of its own
abbrev pub strands_with : Option ℕ → (n : ℕ) → List Node
strands_with None n = fresh_node n Strand 0 ∷ fresh_node n Strand 0 ∷ []
strands_with (Some column) n = fresh_node n Strand 0 ∷ []

-- a fork behind a course, and its left strand, in which the token goes on
abbrev pub forked_page : Page → Course → (column : Option ℕ) → (stamp : ℕ) → Page
forked_page p cs column stamp = let n = length (behind p cs) in page_in (behind p cs ++ fresh_node p.place Fork stamp ∷ strands_with column n) (n + 1)

module _ {A : Type 0} where
  abbrev pub page : Trail A → Page
  page opens = page_in (fresh_node 0 Strand 0 ∷ []) 0
  page (in_block t cs b stamp) = let n = length (behind (page t) cs) in page_in (behind (page t) cs ++ fresh_node (page t).place Block stamp ∷ []) n
  page (in_left t cs b column stamp) = forked_page (page t) cs column stamp
  page (in_right t cs b stamp ls l) = page_in (behind (forked_page (page t) cs None stamp) ls) (length (behind (page t) cs) + 2)

  abbrev pub place_of : Trail A → ℕ
  place_of t = (page t).place

  -- the nodes of the log
  abbrev pub nodes_of : Trail A → Course → List Node
  nodes_of t cs = behind (page t) cs

  -- the node of the strand that runs
  abbrev pub strand_in : Trail A → ℕ
  strand_in opens = 0
  strand_in (in_block t cs b stamp) = strand_in t
  strand_in (in_left t cs b column stamp) = place_of (in_left t cs b column stamp)
  strand_in (in_right t cs b stamp ls l) = place_of (in_right t cs b stamp ls l)
