-- What a strand learned of an access of another strand, while others step. It may have learned that no pending block is above the
-- access, or that the nearest one is around its own place; that stays so. Or it met a pending block that is not around its place.
-- Then the access is parallel to it, and a conflict can tell that, and still can tell it later.
use Rattle.std.specs.Prelude.{◌≡◌, ℕ, ◌<◌, ◌&&◌, not, IsTrue, List, [], length, Some, None}
use Rattle.cw_tree.specs.declared.node.Node.{Node}
use Rattle.cw_tree.specs.Nodes.{stamp_of, is_pending, touches}
use Rattle.cw_tree.specs.Walks.{nua, is_ancestor, is_above}
use Rattle.cw_tree.specs.Series.{place, parallel}
use Rattle.cw_tree.specs.AccessStacks.{access_at}
use Rattle.cw_open.specs.Machine.{is_running}
use Rattle.cw_open.specs.Steps.{Met, after_open_step}
use Rattle.cw_open.specs.Runs.{IsMet}
use Rattle.cw_open.specs.Times.{IsMetInTime}
use Rattle.cw_open.specs.Laws.{OfEachState}
use Rattle.cw_open.specs.Hands.{OfEachStep, OfEachOther}

-- node n of tree t, an access of cell c, is one in tree u too, and its stamp names it there
pub record IsStillAccess (t u : List Node) (c n : ℕ) : Type 0 where
  pub touches : IsTrue (touches u c n)
  pub stamp : stamp_of u n ≡ stamp_of t n
  pub named : access_at u (stamp_of t n) ≡ n

-- each step leaves each access, and its name
abbrev pub AccessesStay : Type 0
AccessesStay = OfEachStep (λ m e. (c n : ℕ) → IsTrue (touches m.tree c n) → IsStillAccess m.tree (after_open_step m e).tree c n)

-- a node that has no pending block above it never gets one
abbrev pub FreeStay : Type 0
FreeStay = OfEachStep (λ m e. (n : ℕ) → n < length m.tree → nua m.tree n ≡ None → nua (after_open_step m e).tree n ≡ None)

-- if the nearest pending block of a node is around the place of a strand, a step of another leaves it both
abbrev pub WithinStay : Type 0
WithinStay =
    OfEachOther (λ m e s. (n b : ℕ) → n < length m.tree → nua m.tree n ≡ Some b → IsTrue (is_ancestor m.tree b (place m.tree s))
    → (nua (after_open_step m e).tree n ≡ Some b) × IsTrue (is_ancestor (after_open_step m e).tree b (place (after_open_step m e).tree s)))

-- pending block b is above node n, and not around place p
abbrev pub IsBarredBy : List Node → (n b p : ℕ) → Type 0
IsBarredBy t n b p = IsTrue (is_pending t b && is_above t b n && not (is_ancestor t b p))

-- an access that a pending block bars from the place of a strand is parallel to it
abbrev pub BarredArePart : Type 0
BarredArePart =
    OfEachState (λ first m. (s c n b : ℕ) → IsTrue (is_running m s) → IsTrue (touches m.tree c n) → IsBarredBy m.tree n b (place m.tree s) → IsTrue (parallel m.tree n (place m.tree s)))

-- what a refused access met, apart from the newest accesses
abbrev pub met_of : (last block : ℕ) → Met
met_of last block = record { last = last; block = block; chain = [] }

-- a conflict can tell so of each access, the newest or not, and it is in time
abbrev pub BarredAreMet : Type 0
BarredAreMet =
    OfEachState (λ first m. (times : ℕ → ℕ) (s c n b : ℕ) → IsTrue (is_running m s) → IsTrue (touches m.tree c n) → IsBarredBy m.tree n b (place m.tree s)
    → IsMet m.tree (place m.tree s) c (met_of (stamp_of m.tree n) (stamp_of m.tree b)) × IsMetInTime times m.tree (place m.tree s) (met_of (stamp_of m.tree n) (stamp_of m.tree b)))
