-- What happened to a strand, and laws of strands that want the same.
use Rattle.std.specs.Prelude.{◌≡◌, true}
use Rattle.cw_strand.specs.declared.want.Want.TheVariants.{Fork}
use Rattle.cw_strand.specs.declared.want.Given.{Given}
use Rattle.cw_strand.specs.Strands.{Strands, IsAnswer, is_over}

-- what happened to a strand since the run began
pub data Past : Type 0 where
  -- it is the strand of main
  start : Past
  -- it was answered
  answered : Past → Given → Past
  -- it began as one of the strands of a fork
  left_of : Past → Past
  right_of : Past → Past
  -- it goes on as the strand that forked, after the right one and the left one ended
  joined_of : (right left : Past) → Past

module _ {A : Type 0} (s : Strands A) where
  -- what the strand has become
  abbrev pub became : Past → A
  became start = s.start
  became (answered p given) = s.answer (became p) given
  became (left_of p) = s.left (became p)
  became (right_of p) = s.right (became p)
  became (joined_of right left) = s.joined (became right) (became left)

  -- This may have happened: each want got an answer that it takes, forks were wanted, and only strands that were over were joined.
  abbrev pub CanBe : Past → Type 0
  CanBe start = Unit {0}
  CanBe (answered p given) = CanBe p × IsAnswer s.elements (s.want (became p)) given
  CanBe (left_of p) = CanBe p × (s.want (became p) ≡ Fork)
  CanBe (right_of p) = CanBe p × (s.want (became p) ≡ Fork)
  CanBe (joined_of right left) = (CanBe right × (is_over (s.want (became right)) ≡ true)) × (CanBe left × (is_over (s.want (became left)) ≡ true))

-- The cells have equally many elements, and after whatever may have happened to a strand, both laws want the same.
pub record WantTheSame {A B : Type 0} (s : Strands A) (t : Strands B) : Type 0 where
  pub elements : s.elements ≡ t.elements
  pub wants : (p : Past) → CanBe s p → s.want (became s p) ≡ t.want (became t p)
