-- Which strands are inside which pending blocks: what a strand needs in order to go back to the begin of a block.
use Rattle.std.specs.Prelude.{◌≡◌, ℕ, zero, suc, ◌<◌, ◌||◌, List, Bool, true, false}
use Rattle.cw_strand.specs.declared.want.Want.TheVariants.{Begin}
use Rattle.cw_strand.specs.Strands.{Strands}
use Rattle.cw_strand.specs.Saving.{Inside, StaysIn}
use Rattle.cw_tree.specs.declared.node.Node.{Node}
use Rattle.cw_tree.specs.Nodes.{parent_of, is_strand, is_fork, is_pending}
use Rattle.cw_tree.specs.Walks.{has}
use Rattle.cw_tree.specs.Series.{strand_of}
use Rattle.cw_open.specs.Machine.{OpenMachine, has_finished, finished_dead, waits, is_dying}
use Rattle.cw_sim.specs.Workers.{Simulation, right_node}

-- ## Strands

-- it takes `forks` steps from strand y to strand z, each from the right strand of a fork to the strand that forked
abbrev pub IsRightOf : List Node → (forks y z : ℕ) → Type 0
IsRightOf t zero y z = y ≡ z
IsRightOf t (suc n) y z = (f : ℕ) × ((is_fork t f ≡ true) × ((y ≡ right_node f) × IsRightOf t n (strand_of t f) z))

-- the strand's own fork, if it has one, is not joined, and all forks that it made are
pub record HasOneOpenFork (m : OpenMachine) (y : ℕ) : Type 0 where
  pub strand : is_strand m.tree y ≡ true
  pub apart : 0 < y → has m.joined (parent_of m.tree y) ≡ false
  pub alone : waits m y ≡ false

-- the strand is on its way back, or finished dead
abbrev pub goes_back : OpenMachine → ℕ → Bool
goes_back m y = is_dying m y || finished_dead m y

-- ## Where strands are

module _ {A : Type 0} (s : Strands A) where
  -- state a is inside a block with this begin, and if the strand has finished, it does not want the block's own end
  pub record LivesIn (finished : Bool) (begin : A) (forks : ℕ) (a : A) : Type 0 where
    pub inner : ℕ
    pub inside : Inside s begin forks inner a
    pub stays : finished ≡ true → StaysIn (s.want a) inner

  -- state a is inside a block with this begin, and does not want the block's own end
  pub record GoesBackIn (begin a : A) : Type 0 where
    pub forks : ℕ
    pub inner : ℕ
    pub inside : Inside s begin forks inner a
    pub stays : StaysIn (s.want a) inner

  -- Each strand is inside each pending block that was begun in it, or in a strand that it continues as a right strand. If it goes
  -- back, it does not want the block's own end, and its state is that of its body.
  pub record AreInside (m : OpenMachine) (at saved there : ℕ → A) : Type 0 where
    pub same : (y : ℕ) → HasOneOpenFork m y → goes_back m y ≡ false → there y ≡ at y
    pub lives : (y b n : ℕ) → HasOneOpenFork m y → goes_back m y ≡ false → is_pending m.tree b ≡ true → IsRightOf m.tree n y (strand_of m.tree b)
        → LivesIn (has_finished m y) (saved b) n (at y)
    pub back : (y b n : ℕ) → HasOneOpenFork m y → goes_back m y ≡ true → is_pending m.tree b ≡ true → IsRightOf m.tree n y (strand_of m.tree b) → GoesBackIn (saved b) (there y)
    -- so the begin of a pending block is inside the blocks around it
    pub blocks : (q b n : ℕ) → is_pending m.tree q ≡ true → is_pending m.tree b ≡ true → IsRightOf m.tree n (strand_of m.tree q) (strand_of m.tree b) → (n ≡ 0 → b < q)
        → (inner : ℕ) × Inside s (saved b) n inner (saved q)
    pub begins : (b : ℕ) → is_pending m.tree b ≡ true → s.want (saved b) ≡ Begin

-- the strands of a simulation are inside their blocks, in the states that `there` gives
abbrev pub HasInside : {A : Type 0} → Strands A → Simulation A → (ℕ → A) → Type 0
HasInside s m there = AreInside s m.core.machine m.at m.saved there
