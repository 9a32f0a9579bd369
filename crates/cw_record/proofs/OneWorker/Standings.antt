-- The strands of a worker stay those of its program.
use Rattle.std.proofs.Common.{◌≡◌, ℕ, List, ◌∷◌, sym, subst}
use Rattle.std.proofs.lemmas.List.Elements.{All-cons, All-head, All-tail}
use Rattle.cw_code.specs.declared.program.Program.{Program}
use Rattle.cw_job.specs.declared.standing.Standing.{Standing}
use Rattle.cw_job.specs.Room.Strands.{IsOf}
use Rattle.cw_record.specs.declared.worker.Branch.{Branch}
use Rattle.cw_record.specs.declared.worker.Branch.TheVariants.{Left, Right}
use Rattle.cw_job.specs.declared.task.Task.{Task}
use Rattle.cw_record.specs.declared.worker.SoleWorker.{SoleWorker}
use Rattle.cw_record.specs.OneWorker.{DoesItsWant, FollowsBlocks, SwitchesStrand, AllStand, AllBranchesStand, BranchStands}

-- what stands for one task stands for the same one
stand_for : (t : Task) (new : SoleWorker) → new.task ≡ t → IsOf t.program.now new.strand → AllBranchesStand t.program.now new.branches → AllStand new
stand_for t new same strand branches =
    let both = subst (λ (u : Task). IsOf u.program.now new.strand × AllBranchesStand u.program.now new.branches) (sym same) (strand, branches) in
    record { strand = both.0; branches = both.1 }

module _ (code : SoleWorker) (all : AllStand code) where
  abbrev program : Program
  program = code.task.program.now

  pub act_stands : (followed new : SoleWorker) → FollowsBlocks code followed → DoesItsWant followed new → IsOf followed.task.program.now new.strand → AllStand new
  act_stands followed new follows acts is =
      let from : SoleWorker → Type 0 = λ v. DoesItsWant v new × IsOf v.task.program.now new.strand in
      let (made, stands) = subst from follows.same (acts, is) in
      stand_for code.task new made.task stands (subst (AllBranchesStand program) (sym made.branches) all.branches)

  module _ {x : Branch} {rest : List Branch} (taken : code.branches ≡ x ∷ rest) where
    both : AllBranchesStand program (x ∷ rest)
    both = subst (AllBranchesStand program) taken all.branches

    pub taken_stands : {y : Branch} → x ≡ y → BranchStands program y
    taken_stands is = subst (BranchStands program) is (All-head (BranchStands program) x rest both)

    pub turn_stands : {f : ℕ} {right : Standing} {new : SoleWorker} → SwitchesStrand (record code { branches = rest }) new → x ≡ Left f right → new.strand ≡ right
        → new.branches ≡ Right f code.strand ∷ rest → AllStand new
    turn_stands {f = f} {right = right} {new = new} keeps is strand branches = stand_for code.task new keeps.task
        (subst (IsOf program) (sym strand) (taken_stands is))
        (subst (AllBranchesStand program) (sym branches) (All-cons (BranchStands program) (Right f code.strand) rest all.strand (All-tail (BranchStands program) x rest both)))

    pub join_stands : {new : SoleWorker} → SwitchesStrand (record code { branches = rest }) new → IsOf program new.strand → new.branches ≡ rest → AllStand new
    join_stands {new = new} keeps strand branches = stand_for code.task new keeps.task strand (subst (AllBranchesStand program) (sym branches) (All-tail (BranchStands program) x rest both))
