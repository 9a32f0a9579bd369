-- Where tasks wait at a worker: in its deque, or in a list of its own.
use Rattle.std.specs.Prelude.{◌≡◌, ◌⊎◌, ℕ, nat_lt, List, [], ◌∷◌, ◌++◌, length, if◌then◌else◌}
use Rattle.cw_deck.specs.Deeds.{End, did}
use Rattle.cw_deck.specs.declared.deed.Deed.TheVariants.{Pushed, Popped}

module _ {X : Type 0} where
  -- The box waits at the back of the deque, or at the end of the list, and nothing else changed. It goes into the deque only if the
  -- list is empty.
  abbrev pub Waits : X → (old new : End X) → (list list' : List X) → Type 0
  Waits x d d' xs xs' = ((xs ≡ []) × (d' ≡ did d (Pushed x)) × (xs' ≡ [])) ⊎ ((d' ≡ d) × (xs' ≡ xs ++ x ∷ []))

  -- The box was the last of the list, or the list is empty and the deque gave the box. Nothing else changed.
  abbrev pub Waited : X → (old new : End X) → (list list' : List X) → Type 0
  Waited x d d' xs xs' = ((xs ≡ xs' ++ x ∷ []) × (d' ≡ d)) ⊎ ((xs ≡ []) × (xs' ≡ []) × (d' ≡ did d (Popped x)))

  -- the list is empty, and the deque gave nothing
  abbrev pub NoneWaits : (old new : End X) → (list list' : List X) → Type 0
  NoneWaits d d' xs xs' = (xs ≡ []) × (xs' ≡ []) × (d' ≡ d)

  -- an empty box more, unless there are `most`
  abbrev pub with_spare : (most : ℕ) → X → List X → List X
  with_spare most x xs = if nat_lt (length xs) most then xs ++ x ∷ [] else xs
