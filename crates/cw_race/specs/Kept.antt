-- Accesses of one cell in one block, in the English order of a tree, and what is kept of them: the last writer, and the reader that stands
-- last in the Hebrew order. An access is a number; `hebrew` has its position in the Hebrew order, and `writes` tells whether it writes.
use Rattle.std.specs.Prelude.{◌≡◌, ℕ, ◌&&◌, ◌||◌, nat_lt, Bool, true, false, not, IsTrue, is_some, List, [], ◌∷◌, Option, Some, None, if◌then◌else◌}
use Rattle.std.specs.List.{list_any}
use Rattle.cw_tree.specs.Walks.{has}

module _ (hebrew : ℕ → ℕ) (writes : ℕ → Bool) where
  -- the later access v races with u: the Hebrew order has v first, so the two are parallel, and one of them writes
  abbrev pub races : (u v : ℕ) → Bool
  races u v = nat_lt (hebrew v) (hebrew u) && (writes u || writes v)

  -- the later access v races with one of these
  abbrev pub races_with : List ℕ → ℕ → Bool
  races_with us v = list_any (λ u. races u v) us

  -- no two of these race
  abbrev pub is_free_of_races : List ℕ → Bool
  is_free_of_races [] = true
  is_free_of_races (u ∷ us) = not (list_any (races u) us) && is_free_of_races us

  -- the reader that is kept after the read v: a reader is replaced only by one after it in series
  abbrev pub later_reader : Option ℕ → ℕ → Option ℕ
  later_reader None v = Some v
  later_reader (Some r) v = if nat_lt (hebrew r) (hebrew v) then Some v else Some r

  -- the reader that is kept after these accesses, if r was kept before them
  abbrev pub kept_reader : Option ℕ → List ℕ → Option ℕ
  kept_reader r [] = r
  kept_reader r (v ∷ vs) = kept_reader (if writes v then r else later_reader r v) vs

  -- their last writer, or w if none writes
  abbrev pub last_writer : Option ℕ → List ℕ → Option ℕ
  last_writer w [] = w
  last_writer w (v ∷ vs) = last_writer (if writes v then Some v else w) vs

  -- the later access v is parallel to a kept one, if there is one
  abbrev pub is_parallel_to : Option ℕ → ℕ → Bool
  is_parallel_to None v = false
  is_parallel_to (Some u) v = nat_lt (hebrew v) (hebrew u)

  -- The kept access that the later access v races with, if there is one: the last writer, if v is parallel to it; otherwise, if v writes, the
  -- kept reader, if v is parallel to that.
  abbrev pub rival : List ℕ → ℕ → Option ℕ
  rival us v =
      if is_parallel_to (last_writer None us) v
      then last_writer None us
      else (if writes v && is_parallel_to (kept_reader None us) v then kept_reader None us else None)

-- while no two of some accesses race, the next one races with one of them exactly if it races with a kept one
abbrev pub KeptIsEnough : Type 0
KeptIsEnough =
    (hebrew : ℕ → ℕ) (writes : ℕ → Bool) (us : List ℕ) (v : ℕ) → IsTrue (is_free_of_races hebrew writes us)
    → is_some (rival hebrew writes us v) ≡ races_with hebrew writes us v

-- the kept access that the next one races with is one of the accesses, and the two race
abbrev pub RivalsRace : Type 0
RivalsRace =
    (hebrew : ℕ → ℕ) (writes : ℕ → Bool) (us : List ℕ) (v u : ℕ) → rival hebrew writes us v ≡ Some u
    → IsTrue (has us u && races hebrew writes u v)
