-- The victim of an access that is made next, at a place. The victim may be the place itself.
use Rattle.std.specs.Prelude.{◌≡◌, ℕ, ◌<◌, List, [], ◌∷◌, ◌++◌, length, Option, Some, None}
use Rattle.cw_tree.specs.declared.node.Node.{Node}
use Rattle.cw_tree.specs.Walks.{IsRooted, path, outermost, may_fall, victim}
use Rattle.cw_tree.specs.Worked.{inside, apart}

-- the outermost pending block among place p and the nodes above it that is not above u
abbrev pub victim_at : List Node → ℕ → ℕ → Option ℕ
victim_at t u p = outermost (may_fall t u) (path t p)

-- the victim at a place is the victim of the access after it became a node
abbrev pub VictimsAt : Type 0
VictimsAt = (t : List Node) (x : Node) (u : ℕ) → IsRooted t → u < length t → x.parent < length t → victim (t ++ x ∷ []) u (length t) ≡ victim_at t u x.parent

-- nodes that are added leave the victims of those that were there
abbrev pub VictimsGrow : Type 0
VictimsGrow = (t s : List Node) (u p : ℕ) → IsRooted t → u < length t → p < length t → victim_at (t ++ s) u p ≡ victim_at t u p

-- victims at places of small trees
abbrev pub VictimRows : Type 0
VictimRows =
    (victim_at apart 4 7 ≡ Some 6)
    × (victim_at apart 4 6 ≡ Some 6)
    × (victim_at apart 4 5 ≡ None)
    × (victim_at apart 8 3 ≡ Some 3)
    × (victim_at inside 5 6 ≡ None)
    × (victim_at inside 6 4 ≡ Some 4)
