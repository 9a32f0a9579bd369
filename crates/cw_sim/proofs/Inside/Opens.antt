-- Before the first move no strand is inside a block.
use Rattle.std.proofs.Common.{◌≡◌, ℕ, zero, suc, List, refl, false}
use Rattle.std.specs.Prelude.{ℤ}
use Rattle.cw_strand.specs.Strands.{Strands}
use Rattle.cw_tree.specs.Nodes.{is_pending}
use Rattle.cw_open.specs.Steps.{first_machine as opening_machine}
use Rattle.cw_sim.specs.Workers.{first_simulation}
use Rattle.cw_sim.specs.Inside.{HasInside}

none_pending : (first : List ℤ) (n : ℕ) → is_pending (opening_machine first).tree n ≡ false
none_pending first zero = refl
none_pending first (suc n) = refl

pub opens_inside : {A : Type 0} (s : Strands A) (first : List ℤ) (room budget workers : ℕ) → HasInside s (first_simulation first room budget workers s.start) (λ x. s.start)
opens_inside s first room budget workers = record {
  same = λ y st e. refl;
  lives = λ y b n st e pending right. absurd (let none = none_pending first b in cc (pending, none));
  back = λ y b n st e pending right. absurd (let none = none_pending first b in cc (pending, none));
  blocks = λ q b n pending. absurd (let none = none_pending first q in cc (pending, none));
  begins = λ b pending. absurd (let none = none_pending first b in cc (pending, none));
}
