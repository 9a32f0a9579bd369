-- A pick in memory is a pick of the machine.
use Rattle.std.proofs.Common.{◌≡◌, ◌≤◌, ◌++◌, ℕ, ℤ, arith, length, refl, ap, sym, ◌∙◌, subst, Bool, true, false, cond, Option, Some, None, List, [], ◌∷◌}
use Rattle.std.specs.Prelude.{option_map}
use Rattle.std.proofs.lemmas.Option.{slice_get_past}
use Rattle.cw_strand.specs.declared.want.Want.{Want}
use Rattle.cw_strand.specs.declared.want.Given.{Given}
use Rattle.cw_strand.specs.Strands.{Strands}
use Rattle.cw_tree.specs.declared.picks.Turn.{Turn}
use Rattle.cw_job.specs.declared.standing.Standing.{Standing}
use Rattle.cw_serial.specs.declared.machine.Machine.{Machine as Code}
use Rattle.cw_serial.specs.declared.table.Table.{Table}
use Rattle.cw_serial.specs.declared.undo.Undo.{Undo}
use Rattle.cw_job.specs.Jobs.{Job}
use Rattle.cw_job.specs.Room.Strands.{StrandState, state_of, strands_of_job}
use Rattle.cw_serial.specs.StrandTree.{StrandTree, put}
use Rattle.cw_serial.specs.Wants.{Since, answer_to, memory_after, outputs_after, blocks_after, since_after}
use Rattle.cw_serial.specs.Machine.{Begun, Machine, same_name, steps_down, may_pick, pick_at, pick}
use Rattle.cw_serial.specs.Spots.{IsSettled}
use Rattle.cw_serial.specs.TableInMemory.{Holds, IsFront, AnswersStrand, SettlesTo, strand_in_row, want_of, want_at}
use Rattle.cw_serial.specs.InMemory.{AreBegun, AreSince, begun_after, IsMachine, IsDone, DoesWant, Picks}
use Rattle.cw_serial.proofs.Replaced.{at_is, at_spot}
use Rattle.cw_serial.proofs.Answered.{StandsAt, stands_at, nobody_at, strand_is, answered_comes}
use Rattle.cw_serial.proofs.Blocks.{AreAlike, begun_more, alike_none, alike_some, blocks_alike}

-- what begun blocks may put back, of the same of each
same_since : {undo new : Undo} {memory more : List ℤ} {since now : List Since} → AreSince undo memory since → undo ≡ new → memory ≡ more → since ≡ now → AreSince new more now
same_since h e f g = let P : Undo × List ℤ × List Since → Type 0 = λ t. AreSince t.0 t.1 t.2 in subst P (λ i. (e i, f i, g i)) h

module _ (job : Job) (old : Code) (m : Machine StrandState) (is : IsMachine job old m) (n : ℕ) (q : List Turn) (up : steps_down old.strands.names.items n ≡ Some q) where
  abbrev s : Strands StrandState
  s = strands_of_job job

  module _ (w : Want) (wants : want_at s state_of old.strands.rows.items n ≡ Some w) where
    here : StandsAt s state_of old.strands m.strands is.strands n q w
    here = stands_at s state_of old.strands m.strands is.strands n q w up wants

    -- the begun blocks after the want, or none
    abbrev blocks : Option (List Begun)
    blocks = blocks_after (record { strand = q }) (λ (b : Begun). same_name b.strand q) w m.begun

    alike : AreAlike old.strands.names.items (begun_after w n old.undo) blocks
    alike = blocks_alike old.strands.names.items old.strands.rows.items is.strands.numbered n q up (length old.undo.writes.items) w old.undo.begun m.begun is.begun

    -- the machine once the want is done
    abbrev after : StrandState → List Begun → Machine StrandState
    after a begun = record { memory = memory_after w m.memory; outputs = outputs_after w m.outputs; strands = put s m.strands q (s.answer a (answer_to w m.memory m.since)); begun = begun; since = since_after w m.memory m.since }

    pick_here : pick s m q ≡ (cond (may_pick m.begun q) (option_map (after (state_of here.strand)) blocks) None)
    pick_here =
        let a = state_of here.strand in
        ap (pick_at s m q) (at_is s m.strands q ∙ ap (at_spot s) here.here)
        ∙ ap (λ v. cond (may_pick m.begun q) (option_map (λ blocks. record {
          memory = memory_after v m.memory;
          outputs = outputs_after v m.outputs;
          strands = put s m.strands q (s.answer a (answer_to v m.memory m.since));
          begun = blocks;
          since = since_after v m.memory m.since;
        }) (blocks_after (record { strand = q }) (λ (b : Begun). same_name b.strand q) v m.begun)) None) here.wants

    -- the want was done, the strand answered, and all settled
    pub picked : (given : Given) (mid new : Code) (table : Table Standing) → may_pick m.begun q ≡ true → IsDone w n old given mid → AnswersStrand s state_of mid.strands n given table
        → new.memory ≡ mid.memory → new.outputs ≡ mid.outputs → new.undo ≡ mid.undo
        → ((t : StrandTree StrandState) → SettlesTo s state_of table (n ∷ []) t → Holds state_of new.strands t × IsSettled s t)
        → IsFront table.names.items new.strands.names.items
        → Picks job m (pick s m q) true new
    picked given mid new table may done answers memory outputs undo settles front =
        let answered : AnswersStrand s state_of old.strands n given table = subst (λ t. AnswersStrand s state_of t n given table) done.strands answers in
        let same : state_of answered.strand ≡ state_of here.strand = strand_is s state_of old.strands table n given answered m.strands is.strands is.settled q up here.forks (state_of here.strand) here.here in
        let given_is : given ≡ answer_to w m.memory m.since = done.given_is m.since is.since ∙ ap (λ v. answer_to w v m.since) (sym is.memory) in
        let (begun_now, some, are) = alike_some old.strands.names.items mid.undo.begun blocks (subst (λ o. AreAlike old.strands.names.items o blocks) done.undo.begun alike) in
        let now : Machine StrandState = after (state_of here.strand) begun_now in
        let strands_are : put s m.strands q (s.answer (state_of answered.strand) given) ≡ now.strands = ap (λ a. put s m.strands q (s.answer a given)) same ∙ ap (λ g. put s m.strands q (s.answer (state_of here.strand) g)) given_is in
        let (held, settled) = settles now.strands (subst (SettlesTo s state_of table (n ∷ [])) strands_are (answered_comes s state_of old.strands table n given answered m.strands is.strands is.settled q up)) in
        let picks : pick s m q ≡ Some now = pick_here ∙ (ap (λ b. cond b (option_map (after (state_of here.strand)) blocks) None) may ∙ ap (option_map (after (state_of here.strand))) some) in
        let same_names : table.names.items ≡ old.strands.names.items = ap (λ v. v.items) (answered.back.names ∙ answered.gone.names) in
        subst (λ o. Picks job m o true new) (sym picks) (record {
          memory = ap (memory_after w) is.memory ∙ (sym done.memory ∙ ap (λ v. v.items) (sym memory));
          outputs = ap (outputs_after w) is.outputs ∙ (sym done.outputs ∙ ap (λ v. v.items) (sym outputs));
          strands = held;
          settled = settled;
          begun = subst (λ (u : Undo). AreBegun new.strands.names.items u.begun begun_now) (sym undo) (begun_more old.strands.names.items new.strands.names.items mid.undo.begun begun_now (let (rest, e) = front in (rest, e ∙ ap (λ v. v ++ rest) same_names)) are);
          since = same_since (done.undo.since m.since is.since) (sym undo) (sym done.memory ∙ ap (λ v. v.items) (sym memory)) (ap (λ v. since_after w v m.since) (sym is.memory));
        })

    -- the strand is not inside the innermost block
    pub not_inside : may_pick m.begun q ≡ false → Picks job m (pick s m q) false old
    not_inside may = subst (λ o. Picks job m o false old) (sym (pick_here ∙ ap (λ b. cond b (option_map (after (state_of here.strand)) blocks) None) may)) is

    either : (b : Bool) → blocks ≡ None → cond b (option_map (after (state_of here.strand)) blocks) None ≡ None
    either true e = ap (option_map (after (state_of here.strand))) e
    either false e = refl

    -- what it wants cannot be done
    pub not_done : (mid : Code) → DoesWant w n old None mid → Picks job m (pick s m q) false mid
    not_done mid (cannot, same) =
        let none : blocks ≡ None = alike_none old.strands.names.items blocks (subst (λ o. AreAlike old.strands.names.items o blocks) cannot alike) in
        subst (λ o. Picks job m o false mid) (sym (pick_here ∙ either (may_pick m.begun q) none)) (subst (λ c. IsMachine job c m) (sym same) is)

  -- where no strand stands, none is picked
  pub none_stands : want_at s state_of old.strands.rows.items n ≡ None → Picks job m (pick s m q) false old
  none_stands none = subst (λ o. Picks job m o false old) (sym (ap (pick_at s m q) (nobody_at s state_of old.strands m.strands is.strands n q up none))) is

-- a number that no strand has wants nothing
pub unknown_wants : (job : Job) (code : Code) (m : Machine StrandState) → IsMachine job code m → (i : ℕ) → length code.strands.names.items ≤ i → want_at (strands_of_job job) state_of code.strands.rows.items i ≡ None
unknown_wants job code m is i past = ap (λ o. want_of (strands_of_job job) state_of (strand_in_row o)) (slice_get_past code.strands.rows.items i (omega (arith, past, is.strands.numbered.same)))
