-- What each call of a board makes of the `Token` that a token stands for, and what each call asks. All of it is about one strand:
-- nothing here speaks of other strands, of what the board holds, or of time.
use Rattle.std.specs.Prelude.{◌≡◌, ◌⊎◌, ℕ, ◌+◌, ◌<◌, ◌||◌, Bool, true, false, All, Contains, List, [], ◌∷◌, ◌++◌, length, drop, Option, Some, None, if◌then◌else◌}
use Rattle.cw_tree.specs.declared.node.Node.{Node}
use Rattle.cw_tree.specs.declared.node.Kind.{Kind}
use Rattle.cw_tree.specs.declared.node.Kind.TheVariants.{Strand, Fork, Block, Tried}
use Rattle.cw_tree.specs.declared.node.BlockState.{BlockState}
use Rattle.cw_tree.specs.declared.conflict.Conflict.{Conflict}
use Rattle.cw_tree.specs.declared.closed.Halt.{Halt}
use Rattle.cw_tree.specs.declared.closed.Halt.TheVariants.{Budget}
use Rattle.cw_tree.specs.Nodes.{parent_of, fresh_node, closed}
use Rattle.cw_log.specs.declared.log.Log.{Log}
use Rattle.cw_log.specs.declared.token.Stop.{Stop}
use Rattle.cw_log.specs.declared.token.Side.{Side}
use Rattle.cw_log.specs.declared.token.Side.TheVariants.{Beside, First, Second}
use Rattle.cw_log.specs.declared.token.Open.{Open}
use Rattle.cw_log.specs.declared.token.Phase.TheVariants.{Going, Waiting, Over, Parted}
use Rattle.cw_log.specs.declared.token.Token.{Token}

abbrev pub logs : Token → List Log
logs x = x.own ∷ x.joined

-- the root's token, before it has done anything
abbrev pub root_token : Token
root_token = record {
  own = record { column = 0; from = 0; fork = 0; nodes = fresh_node 0 Strand 0 ∷ []; conflicts = [] };
  joined = [];
  strand = 0;
  place = 0;
  around = [];
  forks = [];
  fork = 0;
  split = false;
  phase = Going;
  stop = None;
  told = false;
}

-- ## What each call makes of it

abbrev pub with_nodes : Token → List Node → Token
with_nodes x ns = record x { own = record x.own { nodes = ns } }

-- one more node in its place
abbrev pub made : Token → Kind → (stamp : ℕ) → Token
made x kind stamp = with_nodes x (x.own.nodes ++ fresh_node x.place kind stamp ∷ [])

-- one more block in its place; it goes on inside
abbrev pub began : Token → (stamp : ℕ) → Token
began x stamp = record (made x Block stamp) { place = length x.own.nodes; around = stamp ∷ x.around }

-- the block in its place is closed, and it goes on behind that block
abbrev pub ended : Token → BlockState → (end : ℕ) → Token
ended x state end = record (with_nodes x (closed x.own.nodes x.place state end)) { place = parent_of x.own.nodes x.place; around = drop 1 x.around }

-- one more refused access, with its conflict
abbrev pub refused : Token → Conflict → Token
refused x c = let y = made x (Tried c.cell) 0 in record y { own = record y.own { conflicts = y.own.conflicts ++ c ∷ [] } }

-- it goes on in the strand with the number `strand`, on side `side` of a fork made where it stood
abbrev pub gone_in : Token → Side → (strand : ℕ) → Token
gone_in x side strand = record x { strand = strand; place = strand; forks = record { side = side; strand = x.strand; place = x.place; around = x.around } ∷ x.forks }

-- one more fork with its left strand, in which it goes on
abbrev pub forked : Token → (stamp fork : ℕ) → Token
forked x stamp fork =
    let n = length x.own.nodes in
    gone_in (with_nodes x (x.own.nodes ++ fresh_node x.place Fork stamp ∷ fresh_node n Strand 0 ∷ [])) (Beside fork) (n + 1)

-- the token of the right strand, whose log hangs from the fork
abbrev pub right_of : Token → (fork column : ℕ) → Token
right_of x fork column = record {
  own = record { column = column; from = x.own.column; fork = length x.own.nodes; nodes = fresh_node 0 Strand 0 ∷ []; conflicts = [] };
  joined = [];
  strand = 0;
  place = 0;
  around = x.around;
  forks = [];
  fork = fork;
  split = false;
  phase = Waiting;
  stop = None;
  told = false;
}

-- one more fork with both its strands; it goes on in the left one
abbrev pub branched : Token → (stamp : ℕ) → Token
branched x stamp =
    let n = length x.own.nodes in
    gone_in (with_nodes x (x.own.nodes ++ fresh_node x.place Fork stamp ∷ fresh_node n Strand 0 ∷ fresh_node n Strand 0 ∷ [])) (First (n + 2)) (n + 1)

-- from a strand of the innermost fork back to where the strand that forked stands
abbrev pub left_behind : Token → List Open → Token
left_behind x [] = x
left_behind x (o ∷ os) = record x { strand = o.strand; place = o.place; around = o.around; forks = os }

-- from the left strand of an inline fork to the right one, and from there back to the strand that forked
abbrev pub turned_by : Token → List Open → Token
turned_by x [] = x
turned_by x (o ∷ os) = by o.side where
  by : Side → Token
  by (Beside fork) = x
  by (First right) = record x { strand = right; place = right; around = o.around; forks = record o { side = Second } ∷ os }
  by Second = left_behind x (o ∷ os)

abbrev pub turned : Token → Token
turned x = turned_by x x.forks

abbrev pub once_split : Token → Token
once_split x = record x { split = true; phase = Going }

abbrev pub taken_back : (left right : Token) → Token × Token
taken_back x y = (record x { phase = Over }, record y { phase = Going })

abbrev pub kept_stop : Option Stop → Option Stop → Option Stop
kept_stop None h = h
kept_stop (Some x) h = Some x

-- the strand that forked, with the logs of both strands
abbrev pub taken_in : (left right : Token) → Token
taken_in x y = record (left_behind x x.forks) {
  joined = x.joined ++ y.own ∷ y.joined;
  phase = (if y.split then Parted y.fork else Going);
  stop = kept_stop x.stop y.stop;
  told = x.told || y.told;
}

abbrev pub merged : Token → Token
merged x = record x { phase = Going }

abbrev pub halted : Token → Halt → Token
halted x h = record x { stop = Some (record { halt = h; column = x.own.column; strand = x.strand }) }

abbrev pub was_told : Token → Bool → Token
was_told x b = record x { told = x.told || b }

-- ## What the calls ask

abbrev pub conflicts_in : List Log → List Conflict
conflicts_in [] = []
conflicts_in (l ∷ ls) = l.conflicts ++ conflicts_in ls

-- the conflict's victim is a pending block around the token's place
abbrev pub Fells : Token → Conflict → Type 0
Fells x c = Contains x.around c.victim

-- it neither halted nor learnt of a halt, and no conflict in its logs is from the last attempt
pub record IsOn (budget : ℕ) (x : Token) : Type 0 where
  pub stop : x.stop ≡ None
  pub told : x.told ≡ false
  pub unspent : All (λ c. c.attempt ≡ budget → ⊥) (conflicts_in (logs x))

-- it is on, its strand goes on, and no conflict's victim is a block around its place
pub record GoesFree (budget : ℕ) (x : Token) : Type 0 where
  pub on : IsOn budget x
  pub phase : x.phase ≡ Going
  pub free : All (λ c. Fells x c → ⊥) (conflicts_in (logs x))

-- it is on, its strand goes on, and the victim of some conflict is a block around its place
pub record GoesBack (budget : ℕ) (x : Token) : Type 0 where
  pub on : IsOn budget x
  pub phase : x.phase ≡ Going
  pub conflict : Conflict
  pub known : Contains (conflicts_in (logs x)) conflict
  pub fells : Fells x conflict

-- a block that its strand began is pending
abbrev pub HasBlock : Token → Type 0
HasBlock x = x.place ≡ x.strand → ⊥

-- it halted, or has learnt that some token has
abbrev pub IsOff : Token → Type 0
IsOff x = (x.stop ≡ None → ⊥) ⊎ (x.told ≡ true)

-- it is off; or no block that its strand began is pending, and nothing is to be merged
abbrev pub IsDone : Token → Type 0
IsDone x = IsOff x ⊎ ((x.place ≡ x.strand) × ((fork : ℕ) → x.phase ≡ Parted fork → ⊥))

-- the tokens of the two strands of a fork, each with no other fork open inside its strand
pub record AreOfOneFork (x y : Token) : Type 0 where
  pub inner : Open
  pub outer : List Open
  pub left : x.forks ≡ inner ∷ outer
  pub fork : inner.side ≡ Beside y.fork
  pub right : y.forks ≡ []

abbrev pub is_inline : Side → Bool
is_inline (Beside fork) = false
is_inline (First right) = true
is_inline Second = true

-- it stands in a strand of a fork whose two strands share one token
pub record IsInline (x : Token) : Type 0 where
  pub inner : Open
  pub outer : List Open
  pub there : x.forks ≡ inner ∷ outer
  pub side : is_inline inner.side ≡ true

-- it waits for the split of the fork with the number `fork`
abbrev pub MaySplit : Token → (fork : ℕ) → Type 0
MaySplit x fork = (x.phase ≡ Waiting) × (x.fork ≡ fork)

-- the left strand has ended, and the right one waits
abbrev pub MayTakeBack : (left right : Token) → Type 0
MayTakeBack x y = (x.phase ≡ Going) × (x.place ≡ x.strand) × (y.phase ≡ Waiting)

-- the fork with the number `fork` was split, and its parts have to be merged
abbrev pub MayMerge : Token → (fork : ℕ) → Type 0
MayMerge x fork = x.phase ≡ Parted fork

-- its last node is a refused access, and that was the last attempt
pub record IsSpent (budget : ℕ) (x : Token) : Type 0 where
  pub earlier : List Conflict
  pub last : Conflict
  pub conflicts : x.own.conflicts ≡ earlier ++ last ∷ []
  pub newest : last.asker + 1 ≡ length x.own.nodes
  pub attempt : last.attempt ≡ budget

abbrev pub IsSpentFor : ℕ → Token → Halt → Type 0
IsSpentFor budget x (Budget s) = IsSpent budget x
IsSpentFor budget x h = Unit {0}

-- It has not stopped and its strand goes on. If attempts are used up, its last access was refused at the last attempt.
pub record MayHalt (budget : ℕ) (x : Token) (h : Halt) : Type 0 where
  pub stop : x.stop ≡ None
  pub told : x.told ≡ false
  pub phase : x.phase ≡ Going
  pub spent : IsSpentFor budget x h

-- a begin's stamp that exceeds 0, the stamps of all blocks around, and those of all victims in the token's conflicts
pub record IsLater (x : Token) (stamp : ℕ) : Type 0 where
  pub some : 0 < stamp
  pub around : All (λ b. b < stamp) x.around
  pub victims : All (λ c. c.victim < stamp) (conflicts_in (logs x))
