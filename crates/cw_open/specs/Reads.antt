-- What live reads met.
use Rattle.std.specs.Prelude.{◌≡◌, ℕ, ℤ, List, [], ◌∷◌, map, slice_get, Some, unwrap_or}
use Rattle.cw_tree.specs.declared.node.Node.{Node}
use Rattle.cw_tree.specs.Accesses.{written, read}
use Rattle.cw_tree.specs.AccessStacks.{access_at}
use Rattle.cw_open.specs.Machine.{live}
use Rattle.cw_open.specs.Laws.{OfEachWithNewest}

-- each read among these accesses has what it met; the first access met value v
abbrev pub AreRead : List Node → ℤ → List ℕ → Type 0
AreRead t v [] = Unit {0}
AreRead t v (u ∷ us) = ((w : ℤ) → read t u ≡ Some w → w ≡ v) × AreRead t (unwrap_or (written t u) v) us

-- each read of a list has what the accesses before it left
abbrev pub ReadsAreMet : Type 0
ReadsAreMet = OfEachWithNewest (λ first m. (c : ℕ) (v : ℤ) → slice_get first c ≡ Some v → AreRead m.tree v (map (access_at m.tree) (live m c)))
