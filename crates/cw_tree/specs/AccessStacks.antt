-- The accesses of a cell in a tree, and an access that is made next, at a place.
use Rattle.std.specs.Prelude.{ℕ, ℤ, ◌<◌, Bool, false, IsTrue, List, [], ◌∷◌, length, map, Option, Some, None, unwrap_or, All, if◌then◌else◌}
use Rattle.cw_tree.specs.declared.node.Node.{Node}
use Rattle.cw_tree.specs.declared.node.Kind.{Kind}
use Rattle.cw_tree.specs.declared.node.Kind.TheVariants.{Read, Write}
use Rattle.cw_tree.specs.declared.access.Entry.{Entry}
use Rattle.cw_tree.specs.Nodes.{touches, with_stamp}
use Rattle.cw_tree.specs.Walks.{conflict}
use Rattle.cw_tree.specs.Accesses.{IsChain}
use Rattle.cw_tree.specs.Journals.{AreEntries}

-- an access that is made next at place p, as a child of p, conflicts with u: the nearest pending block of u is no ancestor of p
abbrev pub conflict_at : List Node → ℕ → ℕ → Bool
conflict_at t u p = conflict t u p

-- it conflicts with the newest of some accesses, oldest first
abbrev pub newest_conflicts : List Node → List ℕ → ℕ → Bool
newest_conflicts t [] p = false
newest_conflicts t (u ∷ []) p = conflict_at t u p
newest_conflicts t (u ∷ v ∷ us) p = newest_conflicts t (v ∷ us) p

-- the numbers us are numbers of nodes
abbrev pub AreThere : List Node → List ℕ → Type 0
AreThere t us = All (λ u. u < length t) us

-- the access that has the stamp s
abbrev pub access_at : List Node → ℕ → ℕ
access_at t s = unwrap_or (with_stamp t s) 0

-- the kind of an access of cell c that wrote w, or that read the answer
abbrev pub access_kind : ℕ → Option ℤ → ℤ → Kind
access_kind c None answer = Read c answer
access_kind c (Some w) answer = Write c w

-- what an access wrote, by its entry
abbrev pub written_by : Entry → Option ℤ
written_by e = if e.wrote then Some e.value else None

-- the stamps of entries
abbrev pub stamps : List Entry → List ℕ
stamps es = map (λ e. e.mark.stamp) es

-- the accesses us of cell c, oldest first, make a chain, and es are their entries; the first of them met the value v
pub record IsAccessStack (t : List Node) (c : ℕ) (v : ℤ) (us : List ℕ) (es : List Entry) : Type 0 where
  pub accesses : All (λ u. IsTrue (touches t c u)) us
  pub entries : AreEntries t v us es
  pub chain : IsChain t us
