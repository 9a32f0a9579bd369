-- A small record that is coherent, and is not if one thing is changed. Two strands each have a block that writes one cell. The
-- second is refused in a block within its block, is rolled back, and does both again.
use Rattle.std.specs.Prelude.{ℕ, zero, suc, ◌-◌, [], ◌∷◌, pos}
use Rattle.cw_strand.specs.declared.want.Want.{Want}
use Rattle.cw_strand.specs.declared.want.Want.TheVariants.{Store, Begin, End, Fork, Sync, Done}
use Rattle.cw_strand.specs.Strands.{Strands, IsLawful}
use Rattle.cw_tree.specs.WorkedRun.{two_blocks, two_writes, refused_write}
use Rattle.cw_record.specs.declared.record_end.RecordEnd.{RecordEnd}
use Rattle.cw_record.specs.declared.record_end.RecordEnd.TheVariants.{Finished}
use Rattle.cw_record.specs.Coherent.{IsCoherent, HasOutputs}

-- main before its fork, each strand of the fork after n answers, and main after the fork
pub data Writer : Type 0 where
  whole : Writer
  left : ℕ → Writer
  right : ℕ → Writer
  both : Writer

-- a block that writes 1
abbrev pub left_wants : ℕ → Want
left_wants zero = Begin
left_wants (suc zero) = Store 0 (pos 1)
left_wants (suc (suc zero)) = End
left_wants n = Done

-- a block in which a block writes 2
abbrev pub right_wants : ℕ → Want
right_wants zero = Begin
right_wants (suc zero) = Begin
right_wants (suc (suc zero)) = Store 0 (pos 2)
right_wants (suc (suc (suc zero))) = End
right_wants (suc (suc (suc (suc zero)))) = End
right_wants n = Sync

abbrev pub wants : Writer → Want
wants whole = Fork
wants (left n) = left_wants n
wants (right n) = right_wants n
wants both = Done

abbrev pub next : Writer → Writer
next (left n) = left (suc n)
next (right n) = right (suc n)
next w = w

-- how many forks and answers can still follow
abbrev pub left_over : Writer → ℕ
left_over whole = 9
left_over (left n) = 3 - n
left_over (right n) = 5 - n
left_over both = 0

abbrev pub writers : Strands Writer
writers = record {
  elements = 1;
  start = whole;
  want = wants;
  answer = λ w given. next w;
  left = λ w. left 0;
  right = λ w. right 0;
  joined = λ r l. both;
  depth = left_over;
}

abbrev pub IsRecord : RecordEnd → Type 0
IsRecord e = IsCoherent writers (pos 0 ∷ []) 2 two_blocks (two_writes ∷ []) (refused_write ∷ []) e

abbrev pub HasThese : RecordEnd → Type 0
HasThese e = HasOutputs two_blocks (refused_write ∷ []) 2 e

-- The strands keep the law. The record is coherent, with its outputs. It is not coherent with another memory, and it does not have
-- an output that nobody made.
pub record Coherent : Type 0 where
  pub lawful : IsLawful writers
  pub holds : IsRecord (Finished (pos 2 ∷ []) [])
  pub memory : IsRecord (Finished (pos 1 ∷ []) []) → ⊥
  pub outputs : HasThese (Finished (pos 2 ∷ []) [])
  pub other_outputs : HasThese (Finished (pos 2 ∷ []) (pos 2 ∷ [])) → ⊥
