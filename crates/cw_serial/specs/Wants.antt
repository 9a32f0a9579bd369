-- What a machine with one memory does when a strand wants something: to the memory, to the outputs, to the begun blocks
-- and what these may put back, and what it answers.
use Rattle.std.specs.Prelude.{ℕ, ℤ, ◌==◌, Bool, List, [], ◌∷◌, ◌++◌, map, filter, length, slice_set, Option, Some, None, if◌then◌else◌}
use Rattle.std.specs.List.{list_any}
use Rattle.cw_code.specs.declared.Back.{Back}
use Rattle.cw_strand.specs.declared.want.Want.{Want}
use Rattle.cw_strand.specs.declared.want.Want.TheVariants.{Load, Store, Out, Begin, End, Cancel, Fork, Sync, Done, Fault}
use Rattle.cw_strand.specs.declared.want.Given.{Given}
use Rattle.cw_strand.specs.declared.want.Given.TheVariants.{Nothing, Value, Back as Wrote}
use Rattle.cw_job.specs.Memory.{value_at}
use Rattle.cw_tree.specs.Nodes.{below}

-- ## What a begun block may put back

-- the memory as it was at the begin of a block, and the elements that were written since
pub record Since : Type 0 where
  pub memory : List ℤ
  pub written : List ℕ

abbrev pub was_written : Since → ℕ → Bool
was_written x c = list_any (λ d. d == c) x.written

-- each element that was written since the begin, by rising number, with the value that it had then
abbrev pub put_back_since : Since → List Back
put_back_since x = map (λ c. record { cell = c; value = value_at x.memory c }) (filter (was_written x) (below (length x.memory)))

-- what the innermost of the begun blocks puts back if it is given up
abbrev pub given_up : List Since → List Back
given_up [] = []
given_up (x ∷ xs) = put_back_since x

abbrev pub with_write : ℕ → Since → Since
with_write c x = record x { written = x.written ++ c ∷ [] }

-- What blocks may put back after a want: a begin starts with this memory, a write counts in each begun block, and an
-- end forgets the innermost one's.
abbrev pub since_after : Want → List ℤ → List Since → List Since
since_after Begin memory xs = record { memory = memory; written = [] } ∷ xs
since_after (Store c v) memory xs = map (with_write c) xs
since_after End memory (x ∷ xs) = xs
since_after w memory xs = xs

-- ## What a want does

-- the answer to a want from this memory, if the begun blocks may put back `since`
abbrev pub answer_to : Want → List ℤ → List Since → Given
answer_to (Load c) memory since = Value (value_at memory c)
answer_to Cancel memory since = Wrote (given_up since)
answer_to w memory since = Nothing

abbrev pub memory_after : Want → List ℤ → List ℤ
memory_after (Store c v) memory = slice_set memory c v
memory_after w memory = memory

abbrev pub outputs_after : Want → List ℤ → List ℤ
outputs_after (Out v) outputs = outputs ++ v ∷ []
outputs_after w outputs = outputs

-- The begun blocks after a want, the innermost first. `block` is the one that would begin, and `is_own` says which
-- blocks are the strand's own. None if the want cannot be done: a strand ends or gives up only a block of its own, and
-- only the innermost one. Forks and ends of strands are no picks.
abbrev pub blocks_after : {B : Type 0} → (block : B) → (is_own : B → Bool) → Want → List B → Option (List B)
blocks_after block is_own Begin blocks = Some (block ∷ blocks)
blocks_after block is_own End (b ∷ blocks) = if is_own b then Some blocks else None
blocks_after block is_own End [] = None
blocks_after block is_own Cancel (b ∷ blocks) = if is_own b then Some (b ∷ blocks) else None
blocks_after block is_own Cancel [] = None
blocks_after block is_own Fork blocks = None
blocks_after block is_own Sync blocks = None
blocks_after block is_own Done blocks = None
blocks_after block is_own (Fault k) blocks = None
blocks_after block is_own w blocks = Some blocks
