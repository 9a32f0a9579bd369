-- What is above a node, and which of it are blocks that are still pending. A node is its own ancestor. What is above it
-- begins with its parent.
use Rattle.std.specs.Prelude.{ℕ, zero, suc, ◌<◌, ◌^◌, ◌==◌, ◌&&◌, Bool, false, not, IsTrue, List, [], ◌∷◌, length, drop, Option, Some, None, find, unwrap_or, if◌then◌else◌}
use Rattle.std.specs.List.{list_any}
use Rattle.std.specs.Option.{option_or}
use Rattle.cw_tree.specs.declared.node.Node.{Node}
use Rattle.cw_tree.specs.Nodes.{parent_of, is_strand, is_pending, is_block}

-- each node except the first has a parent with a smaller number
abbrev pub IsRooted : List Node → Type 0
IsRooted t = (n : ℕ) → 0 < n → n < length t → parent_of t n < n

-- what is true of every tree: it was numbered from its root on, which is a strand
pub record IsNumbered (t : List Node) : Type 0 where
  pub root : IsTrue (is_strand t 0)
  pub rooted : IsRooted t
  -- at most 2 ^ 32 - 1 nodes
  pub few : length t < 2 ^ 32

-- node n and at most k of the nodes above it, innermost first
abbrev pub climb : List Node → ℕ → ℕ → List ℕ
climb t zero n = n ∷ []
climb t (suc k) zero = zero ∷ []
climb t (suc k) (suc n) = suc n ∷ climb t k (parent_of t (suc n))

-- node n and all nodes above it, innermost first
abbrev pub path : List Node → ℕ → List ℕ
path t n = climb t n n

-- the nodes above n, innermost first
abbrev pub above : List Node → ℕ → List ℕ
above t n = drop 1 (path t n)

abbrev pub has : List ℕ → ℕ → Bool
has ns n = list_any (λ m. m == n) ns

abbrev pub is_ancestor : List Node → ℕ → ℕ → Bool
is_ancestor t a n = has (path t n) a

abbrev pub is_above : List Node → ℕ → ℕ → Bool
is_above t a n = has (above t n) a

-- the least common ancestor: the first node on the way up from a that is an ancestor of b
abbrev pub lca : List Node → ℕ → ℕ → ℕ
lca t a b = unwrap_or (find (λ m. is_ancestor t m b) (path t a)) 0

-- the innermost block above n
abbrev pub xparent : List Node → ℕ → Option ℕ
xparent t n = find (is_block t) (above t n)

-- the nearest pending block: the first on the way up from n
abbrev pub nua : List Node → ℕ → Option ℕ
nua t n = find (is_pending t) (above t n)

-- an access v conflicts with an earlier one u if u has a nearest pending block that is no ancestor of v
abbrev pub conflict : List Node → ℕ → ℕ → Bool
conflict t u v =
    bars (nua t u) where
      bars : Option ℕ → Bool
      bars None = false
      bars (Some b) = not (is_ancestor t b v)

-- the outermost node that passes a test, of nodes that are listed innermost first
abbrev pub outermost : (ℕ → Bool) → List ℕ → Option ℕ
outermost p [] = None
outermost p (n ∷ ns) = option_or (outermost p ns) (if p n then Some n else None)

-- m is a pending block, and not above u
abbrev pub may_fall : List Node → ℕ → ℕ → Bool
may_fall t u m = is_pending t m && not (is_above t m u)

-- the outermost pending block above v that is not above u
abbrev pub victim : List Node → ℕ → ℕ → Option ℕ
victim t u v = outermost (may_fall t u) (above t v)
