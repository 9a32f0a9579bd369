-- The depth-first order: the leftmost strand that is at a want, or at a fault, is always picked.
use Rattle.std.specs.Prelude.{◌≡◌, ℕ, Bool, true, false, List, [], ◌∷◌, Option, Some, None, option_map, if◌then◌else◌}
use Rattle.std.specs.Option.{option_or}
use Rattle.cw_strand.specs.Strands.{Strands, is_over}
use Rattle.cw_tree.specs.declared.picks.Turn.{Turn}
use Rattle.cw_serial.specs.StrandTree.{StrandTree, stands, waits}
use Rattle.cw_serial.specs.Machine.{Machine, pick}

-- a name, seen from the strand that made the fork
abbrev pub beneath : ℕ → Bool → Option (List Turn) → Option (List Turn)
beneath k side p = option_map (λ q. record { fork = k; right = side } ∷ q) p

module _ {A : Type 0} (s : Strands A) where
  -- the leftmost strand that is at a want, or at a fault
  abbrev pub leftmost : StrandTree A → Option (List Turn)
  leftmost (stands k a) = if is_over (s.want a) then None else Some []
  leftmost (waits k l r) = option_or (beneath k false (leftmost l)) (beneath k true (leftmost r))

  -- by picks of the leftmost strand, which have these names, one machine becomes another
  pub data GoesDepthFirst : Machine A → List (List Turn) → Machine A → Type 0 where
    here : {m : Machine A} → GoesDepthFirst m [] m
    picks : {m n u : Machine A} {p : List Turn} {ps : List (List Turn)} → leftmost m.strands ≡ Some p → pick s m p ≡ Some n → GoesDepthFirst n ps u → GoesDepthFirst m (p ∷ ps) u
