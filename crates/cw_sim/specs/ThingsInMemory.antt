-- Things of nodes in memory: a node keeps the key of its own thing in a slab.
use Rattle.std.specs.Prelude.{◌≡◌, ℕ, ◌==◌, List, map, Option, Some, None, IsSome, slice_index_or, if◌then◌else◌}
use Rattle.slab.specs.Slab.{Slab, get}

-- the thing of node n, if it has one
abbrev pub thing_at : {T : Type 0} → List (Option T) → ℕ → Option T
thing_at things n = slice_index_or things n None

-- node n now has `thing`, and each other node has what it had
abbrev pub Puts : {T : Type 0} → List (Option T) → ℕ → Option T → List (Option T) → Type 0
Puts old n thing new = (m : ℕ) → thing_at new m ≡ (if m == n then thing else thing_at old m)

module _ {T : Type 0} where
  -- what is under a key, if anything is
  abbrev pub under : Slab T → Option ℕ → Option T
  under slab None = None
  under slab (Some key) = get slab key

  abbrev pub things_of : Slab T → List (Option ℕ) → List (Option T)
  things_of slab keys = map (under slab) keys

  -- there is a thing under each key of a node, and no two nodes have the same key
  pub record AreKeys (slab : Slab T) (keys : List (Option ℕ)) : Type 0 where
    pub there : (n key : ℕ) → thing_at keys n ≡ Some key → IsSome (get slab key)
    pub apart : (n m key : ℕ) → thing_at keys n ≡ Some key → thing_at keys m ≡ Some key → n ≡ m
