-- What stays true of chains and conflicts as a tree changes, and what a chain gives. Each is a law over every tree.
use Rattle.std.specs.Prelude.{◌≡◌, ◌≢◌, ℕ, ℤ, ◌<◌, Bool, false, not, IsTrue, List, [], ◌∷◌, ◌++◌, length, map, filter, take}
use Rattle.cw_tree.specs.declared.node.Node.{Node}
use Rattle.cw_tree.specs.declared.node.BlockState.{BlockState}
use Rattle.cw_tree.specs.declared.access.Entry.{Entry}
use Rattle.cw_tree.specs.Nodes.{touches_kind, is_pending_state, stamp_of, is_pending, closed}
use Rattle.cw_tree.specs.Walks.{IsRooted, is_above, nua, conflict}
use Rattle.cw_tree.specs.Accesses.{written, lets_follow, IsChain, IsChainOf}
use Rattle.cw_tree.specs.AccessStacks.{conflict_at, newest_conflicts, AreThere, access_at, written_by, stamps, IsAccessStack}

-- ## Conflicts of an access that is made next, at a place

-- what conflicts at a place is what conflicts with the access after it became a node
abbrev pub ConflictsAt : Type 0
ConflictsAt = (t : List Node) (x : Node) (u : ℕ) → IsRooted t → u < length t → x.parent < length t → conflict (t ++ x ∷ []) u (length t) ≡ conflict_at t u x.parent

-- nodes that are added leave the conflicts of those that were there
abbrev pub ConflictsGrow : Type 0
ConflictsGrow = (t s : List Node) (u p : ℕ) → IsRooted t → u < length t → p < length t → conflict_at (t ++ s) u p ≡ conflict_at t u p

-- closing a block makes no new conflict
abbrev pub ConflictsClose : Type 0
ConflictsClose =
    (t : List Node) (u p b : ℕ) (state : BlockState) (end : ℕ)
    → IsRooted t → u < length t → p < length t → is_pending_state state ≡ false → conflict_at t u p ≡ false → conflict_at (closed t b state end) u p ≡ false

-- the same for the newest of some accesses
abbrev pub NewestGrow : Type 0
NewestGrow = (t s : List Node) (us : List ℕ) (p : ℕ) → IsRooted t → AreThere t us → p < length t → newest_conflicts (t ++ s) us p ≡ newest_conflicts t us p

abbrev pub NewestClose : Type 0
NewestClose =
    (t : List Node) (us : List ℕ) (p b : ℕ) (state : BlockState) (end : ℕ)
    → IsRooted t → AreThere t us → p < length t → is_pending_state state ≡ false → newest_conflicts t us p ≡ false → newest_conflicts (closed t b state end) us p ≡ false

-- ## Chains of accesses

-- a chain stays one when any nodes are added anywhere
abbrev pub ChainsGrow : Type 0
ChainsGrow = (t s : List Node) (us : List ℕ) → IsRooted t → AreThere t us → IsChain t us → IsChain (t ++ s) us

-- a chain stays one when any block is closed, whichever way
abbrev pub ChainsClose : Type 0
ChainsClose =
    (t : List Node) (us : List ℕ) (b : ℕ) (state : BlockState) (end : ℕ)
    → IsRooted t → AreThere t us → is_pending_state state ≡ false → IsChain t us → IsChain (closed t b state end) us

-- a node that is added where the newest of a chain does not conflict extends the chain
abbrev pub ChainsExtend : Type 0
ChainsExtend =
    (t : List Node) (x : Node) (us : List ℕ)
    → IsRooted t → x.parent < length t → AreThere t us → IsChain t us → newest_conflicts t us x.parent ≡ false → IsChain (t ++ x ∷ []) (us ++ length t ∷ [])

-- a front of a chain is a chain, and so is an end
abbrev pub PartsAreChains : Type 0
PartsAreChains = (t : List Node) (us vs : List ℕ) → IsChain t (us ++ vs) → IsChain t us × IsChain t vs

-- in a chain each earlier access lets each later one follow
abbrev pub EachFollows : Type 0
EachFollows =
    (t : List Node) (us vs ws : List ℕ) (u v : ℕ)
    → IsRooted t → AreThere t (us ++ u ∷ vs ++ v ∷ ws) → IsChain t (us ++ u ∷ vs ++ v ∷ ws) → IsTrue (lets_follow t (nua t u) (nua t v))

-- what is left of a chain after any accesses are taken out is a chain
abbrev pub SomeAreChains : Type 0
SomeAreChains = (t : List Node) (p : ℕ → Bool) (us : List ℕ) → IsRooted t → AreThere t us → IsChain t us → IsChain t (filter p us)

-- the accesses beneath a pending block are the end of a chain
abbrev pub BeneathIsEnd : Type 0
BeneathIsEnd =
    (t : List Node) (b : ℕ) (us : List ℕ)
    → IsRooted t → AreThere t us → IsTrue (is_pending t b) → IsChain t us → us ≡ filter (λ u. not (is_above t b u)) us ++ filter (is_above t b) us

-- ## The same of accesses that are named by their stamps

abbrev pub StampsGrow : Type 0
StampsGrow = (t s : List Node) (c : ℕ) (stamps : List ℕ) → IsRooted t → IsChainOf t c stamps → IsChainOf (t ++ s) c stamps

abbrev pub StampsClose : Type 0
StampsClose =
    (t : List Node) (c : ℕ) (stamps : List ℕ) (b : ℕ) (state : BlockState) (end : ℕ)
    → IsRooted t → is_pending_state state ≡ false → IsChainOf t c stamps → IsChainOf (closed t b state end) c stamps

abbrev pub StampConflictsGrow : Type 0
StampConflictsGrow =
    (t s : List Node) (c : ℕ) (stamps : List ℕ) (p : ℕ)
    → IsRooted t → IsChainOf t c stamps → p < length t → newest_conflicts (t ++ s) (map (access_at (t ++ s)) stamps) p ≡ newest_conflicts t (map (access_at t) stamps) p

abbrev pub StampConflictsClose : Type 0
StampConflictsClose =
    (t : List Node) (c : ℕ) (stamps : List ℕ) (p b : ℕ) (state : BlockState) (end : ℕ)
    → IsRooted t → IsChainOf t c stamps → p < length t → is_pending_state state ≡ false
    → newest_conflicts t (map (access_at t) stamps) p ≡ false → newest_conflicts (closed t b state end) (map (access_at (closed t b state end)) stamps) p ≡ false

-- no node has the stamp of the new access yet
abbrev pub StampsExtend : Type 0
StampsExtend =
    (t : List Node) (x : Node) (c : ℕ) (stamps : List ℕ)
    → IsRooted t → x.parent < length t → IsTrue (touches_kind c x.kind) → ((n : ℕ) → n < length t → stamp_of t n ≢ x.stamp)
    → IsChainOf t c stamps → newest_conflicts t (map (access_at t) stamps) x.parent ≡ false → IsChainOf (t ++ x ∷ []) c (stamps ++ x.stamp ∷ [])

abbrev pub PartsOfStamps : Type 0
PartsOfStamps = (t : List Node) (c : ℕ) (ss rs : List ℕ) → IsChainOf t c (ss ++ rs) → IsChainOf t c ss × IsChainOf t c rs

abbrev pub EachStampFollows : Type 0
EachStampFollows =
    (t : List Node) (c : ℕ) (ss rs qs : List ℕ) (s r : ℕ)
    → IsRooted t → IsChainOf t c (ss ++ s ∷ rs ++ r ∷ qs) → IsTrue (lets_follow t (nua t (access_at t s)) (nua t (access_at t r)))

abbrev pub SomeOfStamps : Type 0
SomeOfStamps = (t : List Node) (c : ℕ) (p : ℕ → Bool) (stamps : List ℕ) → IsRooted t → IsChainOf t c stamps → IsChainOf t c (filter p stamps)

abbrev pub StampsBeneath : Type 0
StampsBeneath =
    (t : List Node) (c b : ℕ) (stamps : List ℕ)
    → IsRooted t → IsTrue (is_pending t b) → IsChainOf t c stamps
    → stamps ≡ filter (λ s. not (is_above t b (access_at t s))) stamps ++ filter (λ s. is_above t b (access_at t s)) stamps

-- ## Accesses with their entries

abbrev pub StacksGrow : Type 0
StacksGrow = (t s : List Node) (c : ℕ) (v : ℤ) (us : List ℕ) (es : List Entry) → IsRooted t → IsAccessStack t c v us es → IsAccessStack (t ++ s) c v us es

abbrev pub StacksClose : Type 0
StacksClose =
    (t : List Node) (c : ℕ) (v : ℤ) (us : List ℕ) (es : List Entry) (b : ℕ) (state : BlockState) (end : ℕ)
    → IsRooted t → is_pending_state state ≡ false → IsAccessStack t c v us es → IsAccessStack (closed t b state end) c v us es

-- the oldest of them, with their entries
abbrev pub FrontsOfStacks : Type 0
FrontsOfStacks = (t : List Node) (c k : ℕ) (v : ℤ) (us : List ℕ) (es : List Entry) → IsAccessStack t c v us es → IsAccessStack t c v (take k us) (take k es)

-- entries tell what their accesses wrote, and when
abbrev pub StacksTell : Type 0
StacksTell =
    (t : List Node) (c : ℕ) (v : ℤ) (us : List ℕ) (es : List Entry)
    → IsAccessStack t c v us es → (map written_by es ≡ map (written t) us) × (stamps es ≡ map (stamp_of t) us)
