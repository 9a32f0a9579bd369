-- A worker does a want.
use Rattle.std.proofs.Common.{◌≡◌, ◌==◌, ℕ, ℤ, zero, suc, ◌+◌, ◌<◌, ◌≤◌, List, [], ◌∷◌, ◌||◌, length, refl, ap, sym, ◌∙◌, subst, arith, Bool, true, false, cond, Some, None}
use Rattle.std.specs.Prelude.{All, is_some}
use Rattle.std.specs.List.{AllZip}
use Rattle.std.specs.Option.{IsSome}
use Rattle.std.proofs.lemmas.List.Elements.{All-cons, All-head, All-tail}
use Rattle.std.proofs.lemmas.Option.{same_Some}
use Rattle.cw_code.specs.declared.Back.{Back}
use Rattle.cw_strand.specs.declared.want.Want.{Want}
use Rattle.cw_strand.specs.declared.want.Want.TheVariants as want
use Rattle.cw_strand.specs.Names.{first_memory}
use Rattle.cw_strand.specs.Strands.{Closes, IsDeep, MayWant, takes_answer}
use Rattle.cw_tree.specs.declared.node.Node.{Node}
use Rattle.cw_tree.specs.declared.node.Kind.{Kind}
use Rattle.cw_tree.specs.declared.node.Kind.TheVariants.{Read, Write, Out, Block as ABlock, Cancel}
use Rattle.cw_tree.specs.declared.node.BlockState.TheVariants.{Committed}
use Rattle.cw_tree.specs.declared.access.Entry.{Entry}
use Rattle.std.proofs.lemmas.Bool.{lt-ltb}
use Rattle.cw_tree.specs.Journals.{fits_cells}
use Rattle.cw_tree.specs.Cancels.{IsCancel}
use Rattle.cw_tree.specs.Nodes.{closed, fresh_node, stamp_of, first_state, is_fork_kind, is_strand_kind, is_tried_kind, parent_of}
use Rattle.cw_tree.proofs.ChainLaws.CellJournals.{HasJournals}
use Rattle.cw_job.specs.Jobs.{Job, job_of_task}
use Rattle.cw_job.specs.Room.Strands.{StrandState, state_of, strands_of_job}
use Rattle.cw_serial.specs.MachineOf.{machine_of}
use Rattle.cw_job.specs.Memory.{value_at}
use Rattle.cw_serial.specs.declared.undo.Begun.{Begun as Block}
use Rattle.cw_serial.specs.declared.undo.Undo.{Undo}
use Rattle.cw_serial.specs.InMemory.{AreSince, IsSince, begun_after}
use Rattle.cw_serial.specs.Wants.{Since, answer_to, memory_after, outputs_after, since_after, given_up, blocks_after}
use Rattle.cw_serial.proofs.Branches.{Branch, on_left, on_right}
use Rattle.cw_serial.proofs.Working.{WorkerState, machine_at, after_act, IsAtWork, reached, acts, own_in, blocks_in}
use Rattle.cw_serial.proofs.Weights.{weight, weight_falls}
use Rattle.cw_record.specs.declared.worker.SoleWorker.{SoleWorker}
use Rattle.cw_record.specs.Drawn.{added, drawn_after, drawn, entry, noted}
use Rattle.cw_record.specs.Items.{is_act_kind}
use Rattle.cw_record.specs.Replay.{IsAct}
use Rattle.cw_record.specs.OneWorker.{DoesItsWant, FollowsBlocks, LooksRight, law_of_worker, unstarted, want_of_worker}
use Rattle.cw_record.proofs.OneWorker.AccessesThere.{AccessThere, AccessesThere}
use Rattle.cw_record.proofs.OneWorker.Building.{open_items}
use Rattle.cw_record.proofs.OneWorker.Descending.{Crossing, Descends}
use Rattle.cw_record.proofs.OneWorker.GrowingCancels.{cancels_plain, cancels_next, cancels_closed}
use Rattle.cw_record.proofs.OneWorker.NoneAborted.{not_aborted}
use Rattle.cw_record.proofs.OneWorker.PuttingBack.{Keeps, keeps_plain, keeps_read, keeps_write, keeps_begun, keeps_ended, given_right}
use Rattle.cw_record.proofs.OneWorker.GrowingItems.{leaf_built, begin_built, end_built}
use Rattle.cw_record.proofs.OneWorker.GrowingWays.{way_leaf, way_begin, way_end, way_block}
use Rattle.cw_record.proofs.OneWorker.GrowingJournals.{has_beside, has_closed}
use Rattle.cw_record.proofs.OneWorker.NotedJournals.{noted_read, noted_write}
use Rattle.cw_record.proofs.OneWorker.KeptCells.{fits_more, fits_closed}
use Rattle.cw_record.proofs.OneWorker.Later.{rising_next, rising_closed}
use Rattle.cw_record.proofs.OneWorker.Playing.{Plays}
use Rattle.cw_record.proofs.OneWorker.Running.{Draws, Runs, crossings, draws_by, runs_name, wants_same, law_same, left_to_do, weights}
use Rattle.cw_record.proofs.OneWorker.RunSteps.{leaf_played, begin_played, end_played}
use Rattle.cw_record.proofs.OneWorker.Shaped.{shaped_beside, shaped_closed}
use Rattle.cw_record.proofs.OneWorker.Stamped.{stamped_next}
use Rattle.cw_record.proofs.OneWorker.ClosedStamps.{stamped_closed}
use Rattle.cw_record.proofs.Coherent.States.{DoesAs}
use Rattle.cw_record.proofs.OneWorker.StepStates.{states_leaf, states_begin, states_end}

-- a block is ended only where one is begun in the strand
pub end_blocks : {A : Type 0} (c : List (Branch A)) (b : ℕ) → MayWant want.End (own_in c b) → (n : ℕ) × (b ≡ suc n)
end_blocks c (suc b) m = (b, refl)
end_blocks [] zero m = absurd m
end_blocks (on_left k n r ∷ c) zero m = absurd m
end_blocks (on_right k n o l ∷ c) zero m = absurd m

-- and so is one given up
cancel_blocks : {A : Type 0} (c : List (Branch A)) (b : ℕ) → MayWant want.Cancel (own_in c b) → (n : ℕ) × (b ≡ suc n)
cancel_blocks c (suc b) m = (b, refl)
cancel_blocks [] zero m = absurd m
cancel_blocks (on_left k n r ∷ c) zero m = absurd m
cancel_blocks (on_right k n o l ∷ c) zero m = absurd m

-- all begun blocks are recorded as those of strand 0
abbrev OfOne : Block → Type 0
OfOne b = b.strand ≡ 0

-- and so they are after a want
one_kept : (x : Want) (u : Undo) (bs : List Block) → All OfOne u.begun → begun_after x 0 u ≡ Some bs → All OfOne bs
one_kept x u bs all e = by x u.begun all e where
  stay : (cs : List Block) → All OfOne cs → Some cs ≡ Some bs → All OfOne bs
  stay cs all e = subst (All OfOne) (same_Some cs bs e) all

  if_own : (a : Bool) (cs : List Block) → All OfOne cs → cond a (Some cs) None ≡ Some bs → All OfOne bs
  if_own true cs all e = stay cs all e
  if_own false cs all e = absurd (cc e)

  by : (x : Want) (cs : List Block) → All OfOne cs → blocks_after (record { strand = 0; writes = length u.writes.items }) (λ (b : Block). b.strand == 0) x cs ≡ Some bs → All OfOne bs
  by want.Begin cs all e = let next : Block = record { strand = 0; writes = length u.writes.items } in stay (next ∷ cs) (All-cons OfOne next cs refl all) e
  by want.End [] all e = absurd (cc e)
  by want.End (b ∷ cs) all e = if_own (b.strand == 0) cs (All-tail OfOne b cs all) e
  by want.Cancel [] all e = absurd (cc e)
  by want.Cancel (b ∷ cs) all e = if_own (b.strand == 0) (b ∷ cs) all e
  by want.Fork cs all e = absurd (cc e)
  by want.Sync cs all e = absurd (cc e)
  by want.Done cs all e = absurd (cc e)
  by (want.Fault k) cs all e = absurd (cc e)
  by _ cs all e = stay cs all e

-- what a want that is done makes of a worker in memory, whose blocks were followed before
pub record Acted (code followed new : SoleWorker) : Type 0 where
  pub follows : FollowsBlocks code followed
  pub done : DoesItsWant followed new
  pub strand : (since : List Since) → LooksRight followed since → state_of new.strand ≡ (law_of_worker followed).answer (state_of followed.strand) (answer_to (want_of_worker followed) followed.memory.items since)

module _ (job : Job) (closes : Closes (strands_of_job job)) (there : AccessesThere job) where
  -- after a want, whatever it is
  abbrev after_by : Want → WorkerState StrandState → WorkerState StrandState
  after_by x w = record w {
    memory = memory_after x w.memory;
    outputs = outputs_after x w.outputs;
    blocks = blocks_in x w.blocks;
    since = since_after x w.memory w.since;
    strand = (strands_of_job job).answer w.strand (answer_to x w.memory w.since);
  }

  module _ (code : SoleWorker) (w : WorkerState StrandState) (r : Runs job code w) where
    is_wanted : (strands_of_job job).want w.strand ≡ want_of_worker code
    is_wanted = sym (wants_same job code w r)

    -- what is drawn, where the want is this one
    abbrev DrawsAfter : Want → Type 0
    DrawsAfter x = Draws job (drawn_after x w.memory w.since (drawn code.drawing)) code.branches (after_by x w)

    abbrev first : List ℤ
    first = first_memory job.program.cells

    -- what was begun may be put back, where a node came or a block was closed
    abbrev KeepsIn : List Node → (place blocks : ℕ) → List Since → Type 0
    KeepsIn u place blocks xs = Keeps u first place (crossings code.branches w.branches) blocks xs

    module _ (x : Want) (e : (strands_of_job job).want w.strand ≡ x) (answered : takes_answer x ≡ true) where
      abbrev t : List Node
      t = code.drawing.tree

      abbrev at : ℕ
      at = code.drawing.place

      next : code.drawing.clock < code.drawing.clock + 1
      next = omega arith

      done : takes_answer ((strands_of_job job).want w.strand) ≡ true
      done = ap takes_answer e ∙ answered

      same_after : (u : List Node) (n : ℕ) → Plays (strands_of_job job) u (machine_of job) (open_items u n) (machine_at (strands_of_job job) (after_act (strands_of_job job) w)) → Plays (strands_of_job job) u (machine_of job) (open_items u n) (machine_at (strands_of_job job) (after_by x w))
      same_after u n h = let P : Want → Type 0 = λ v. Plays (strands_of_job job) u (machine_of job) (open_items u n) (machine_at (strands_of_job job) (after_by v w)) in subst P e h

      -- an access, an output or a cancel
      leaf : (k : Kind) (kept : List (List Entry)) → is_act_kind k ≡ true → is_strand_kind k ≡ false → is_fork_kind k ≡ false → is_tried_kind k ≡ false → (is_strand_kind k || is_tried_kind k) ≡ false → fits_cells (length (first_memory job.program.cells)) k ≡ true → blocks_in x w.blocks ≡ w.blocks
          → ((d : StrandState) → DoesAs (strands_of_job job) w.strand ((strands_of_job job).answer w.strand (answer_to x w.memory w.since)) d k (first_state k)) → (is_strand_kind k || is_fork_kind k) ≡ false
          → IsAct w.memory w.since ((strands_of_job job).want w.strand) k → HasJournals (added t at k (code.drawing.clock + 1)) (first_memory job.program.cells) (memory_after x w.memory) kept
          → ((back : List Back) → k ≡ Cancel back → IsCancel (added t at k (code.drawing.clock + 1)) first (fresh_node at k (code.drawing.clock + 1)) back)
          → KeepsIn (added t at k (code.drawing.clock + 1)) at w.blocks (since_after x w.memory w.since)
          → Draws job (record { tree = added t at k (code.drawing.clock + 1); place = at; clock = code.drawing.clock + 1; journals = kept }) code.branches (after_by x w)
      leaf k kept act strand fork tried stamped fits blocks does plain is journals cancel since =
          let D : ℕ → Type 0 = λ b. Descends (added t at k (code.drawing.clock + 1)) at (crossings code.branches w.branches) b w.forks in
          record {
            built = leaf_built t at code.drawing.clock r.draws.built k (code.drawing.clock + 1) act next;
            shape = shaped_beside t (unstarted code.branches) r.draws.shape at r.draws.built.there r.draws.built.place k (code.drawing.clock + 1) strand fork tried;
            stamps = stamped_next t at code.drawing.clock r.draws.built r.draws.stamps (code.drawing.clock + 1) next k stamped;
            rising = rising_next t at code.drawing.clock r.draws.built r.draws.rising k (code.drawing.clock + 1) next;
            cells = fits_more t (length (first_memory job.program.cells)) r.draws.cells at k (code.drawing.clock + 1) fits;
            branches = r.draws.branches;
            place = subst D (sym blocks) (way_leaf t at code.drawing.clock r.draws.built k (code.drawing.clock + 1) act (crossings code.branches w.branches) w.blocks w.forks r.draws.place);
            journals = journals;
            cancels = cancels_next t r.draws.built.rooted (not_aborted t at code.drawing.clock r.draws.built) first r.draws.cancels at k (code.drawing.clock + 1)
                (λ n h. let le : stamp_of t n ≤ code.drawing.clock = r.draws.built.stamps n in omega arith) cancel;
            since = (let K : ℕ → Type 0 = λ b. KeepsIn (added t at k (code.drawing.clock + 1)) at b (since_after x w.memory w.since) in subst K (sym blocks) since);
            states = states_leaf (strands_of_job job) t at code.drawing.clock r.draws.built code.branches w.strand r.draws.states.0 r.draws.states.1 k (code.drawing.clock + 1) ((strands_of_job job).answer w.strand (answer_to x w.memory w.since)) plain does;
            played = same_after (added t at k (code.drawing.clock + 1)) at (leaf_played (strands_of_job job) closes t at code.drawing.clock r.draws.built (machine_of job) w r.work done (runs_name job code w r) r.draws.played k (code.drawing.clock + 1) next act is);
          }

    wanted_there : AccessThere (length (first_memory job.program.cells)) ((strands_of_job job).want w.strand)
    wanted_there = there _ _ (reached (strands_of_job job) r.work)

    draws_after : (x : Want) → (strands_of_job job).want w.strand ≡ x → takes_answer x ≡ true → DrawsAfter x
    draws_after (want.Load c) e d =
        let v = value_at w.memory c in
        let kept = noted code.drawing.journals.items c (entry (code.drawing.clock + 1) false v v) in
        leaf (want.Load c) e d (Read c v) kept refl refl refl refl refl (lt-ltb c (length (first_memory job.program.cells)) (subst (AccessThere (length (first_memory job.program.cells))) e wanted_there)) refl (λ d. (e, refl)) refl (e, refl)
        (noted_read code.drawing.tree code.drawing.place code.drawing.clock r.draws.built (first_memory job.program.cells) w.memory code.drawing.journals.items r.draws.journals c (code.drawing.clock + 1) (omega arith))
        (λ back q. absurd (cc q)) (keeps_read code.drawing.tree code.drawing.place code.drawing.clock r.draws.built first (crossings code.branches w.branches) w.blocks w.forks r.draws.place w.since r.draws.since c v (code.drawing.clock + 1) (omega arith))
    draws_after (want.Store c v) e d =
        let kept = noted code.drawing.journals.items c (entry (code.drawing.clock + 1) true v (value_at w.memory c)) in
        leaf (want.Store c v) e d (Write c v) kept refl refl refl refl refl (lt-ltb c (length (first_memory job.program.cells)) (subst (AccessThere (length (first_memory job.program.cells))) e wanted_there)) refl (λ d. (e, refl)) refl e
        (noted_write code.drawing.tree code.drawing.place code.drawing.clock r.draws.built (first_memory job.program.cells) w.memory code.drawing.journals.items r.draws.journals c (code.drawing.clock + 1) (omega arith) v)
        (λ back q. absurd (cc q)) (keeps_write code.drawing.tree code.drawing.place code.drawing.clock r.draws.built first (crossings code.branches w.branches) w.blocks w.forks r.draws.place w.since r.draws.since c v (code.drawing.clock + 1) (omega arith))
    draws_after (want.Out v) e d =
        leaf (want.Out v) e d (Out v) code.drawing.journals.items refl refl refl refl refl refl refl (λ d. (e, refl)) refl e
        (has_beside code.drawing.tree code.drawing.place code.drawing.clock r.draws.built (first_memory job.program.cells) w.memory code.drawing.journals.items r.draws.journals code.drawing.place (Out v) (code.drawing.clock + 1) (λ c. refl))
        (λ back q. absurd (cc q)) (keeps_plain code.drawing.tree code.drawing.place code.drawing.clock r.draws.built first (crossings code.branches w.branches) w.blocks w.forks r.draws.place w.since r.draws.since (Out v) (code.drawing.clock + 1) (λ c. refl))
    draws_after want.Cancel e d =
        let t = code.drawing.tree in
        let at = code.drawing.place in
        let clock = code.drawing.clock in
        let st = clock + 1 in
        let back = given_up w.since in
        let cr = crossings code.branches w.branches in
        let may : MayWant want.Cancel (own_in w.branches w.blocks) = subst (λ (v : Want). MayWant v (own_in w.branches w.blocks)) e (closes _ _ (reached (strands_of_job job) r.work)) in
        let (n, is) = cancel_blocks w.branches w.blocks may in
        let down : Descends t at cr (suc n) w.forks = let P : ℕ → Type 0 = λ b. Descends t at cr b w.forks in subst P is r.draws.place in
        let kept = keeps_plain t at clock r.draws.built first cr w.blocks w.forks r.draws.place w.since r.draws.since (Cancel back) st (λ c. refl) in
        let inside : KeepsIn (added t at (Cancel back) st) at (suc n) w.since = let P : ℕ → Type 0 = λ b. KeepsIn (added t at (Cancel back) st) at b w.since in subst P is kept in
        leaf want.Cancel e d (Cancel back) code.drawing.journals.items refl refl refl refl refl refl refl (λ d. (e, refl)) refl (e, refl)
        (has_beside t at clock r.draws.built first w.memory code.drawing.journals.items r.draws.journals at (Cancel back) st (λ c. refl))
        (λ other q. let same : back ≡ other = cc q in subst (λ (list : List Back). IsCancel (added t at (Cancel back) st) first (fresh_node at (Cancel back) st) list) same (given_right t at clock r.draws.built first cr n w.forks down (Cancel back) st (omega arith) (λ c. refl) w.since inside))
        kept
    draws_after want.Begin e d =
        let t = code.drawing.tree in
        let at = code.drawing.place in
        let clock = code.drawing.clock in
        let st = clock + 1 in
        let later : clock < st = omega arith in
        record {
          built = begin_built t at clock r.draws.built st later;
          shape = shaped_beside t (unstarted code.branches) r.draws.shape at r.draws.built.there r.draws.built.place ABlock st refl refl refl;
          stamps = stamped_next t at clock r.draws.built r.draws.stamps st later ABlock refl;
          rising = rising_next t at clock r.draws.built r.draws.rising ABlock st later;
          cells = fits_more t (length (first_memory job.program.cells)) r.draws.cells at ABlock st refl;
          branches = r.draws.branches;
          place = way_begin t at clock r.draws.built st (crossings code.branches w.branches) w.blocks w.forks r.draws.place;
          journals = has_beside t at clock r.draws.built (first_memory job.program.cells) w.memory code.drawing.journals.items r.draws.journals at ABlock st (λ c. refl);
          cancels = cancels_plain t r.draws.built.rooted (not_aborted t at clock r.draws.built) first r.draws.cancels at ABlock st (λ c. refl) (λ back q. absurd (cc q));
          since = keeps_begun t at clock r.draws.built first (crossings code.branches w.branches) w.blocks w.forks r.draws.place w.since r.draws.since w.memory code.drawing.journals.items r.draws.journals st;
          states = states_begin (strands_of_job job) t at clock r.draws.built code.branches w.strand r.draws.states.0 r.draws.states.1 st e;
          played = same_after want.Begin e d (added t at ABlock st) (length t) (begin_played (strands_of_job job) closes t at clock r.draws.built (machine_of job) w r.work (done want.Begin e d) (runs_name job code w r) r.draws.played st e);
        }
    draws_after want.End e d =
        let t = code.drawing.tree in
        let at = code.drawing.place in
        let clock = code.drawing.clock in
        let st = clock + 1 in
        let later : clock < st = omega arith in
        let cr = crossings code.branches w.branches in
        let may : MayWant want.End (own_in w.branches w.blocks) = subst (λ (v : Want). MayWant v (own_in w.branches w.blocks)) e (closes _ _ (reached (strands_of_job job) r.work)) in
        let (n, is) = end_blocks w.branches w.blocks may in
        let down : Descends t at cr (suc n) w.forks = let P : ℕ → Type 0 = λ b. Descends t at cr b w.forks in subst P is r.draws.place in
        let block = way_block t at cr n w.forks down in
        let Q : ℕ → Type 0 = λ b. Descends (closed t at Committed st) (parent_of t at) cr (blocks_in want.End b) w.forks in
        let kept : Keeps t first at cr (suc n) w.since = let P : ℕ → Type 0 = λ b. Keeps t first at cr b w.since in subst P is r.draws.since in
        let K : ℕ → Type 0 = λ b. KeepsIn (closed t at Committed st) (parent_of t at) (blocks_in want.End b) (since_after want.End w.memory w.since) in
        record {
          built = end_built t at clock r.draws.built st block later;
          shape = shaped_closed t (unstarted code.branches) r.draws.shape at Committed st;
          stamps = stamped_closed t at clock r.draws.built r.draws.stamps st later block;
          rising = rising_closed t at clock r.draws.built r.draws.rising st;
          cells = fits_closed t (length (first_memory job.program.cells)) r.draws.cells at st;
          branches = r.draws.branches;
          place = subst Q (sym is) (way_end t at clock r.draws.built st cr n w.forks down);
          journals = has_closed t at clock r.draws.built (first_memory job.program.cells) w.memory code.drawing.journals.items r.draws.journals at st;
          cancels = cancels_closed t r.draws.built.rooted (not_aborted t at clock r.draws.built) first r.draws.cancels at st;
          since = subst K (sym is) (keeps_ended t at clock r.draws.built first cr n w.forks down w.memory w.since kept st);
          states = states_end (strands_of_job job) t at clock r.draws.built code.branches w.strand r.draws.states.0 r.draws.states.1 st block e;
          played = same_after want.End e d (closed t at Committed st) (parent_of t at) (end_played (strands_of_job job) closes t at clock r.draws.built (machine_of job) w r.work (done want.End e d) (runs_name job code w r) r.draws.played st later block e);
        }
    draws_after _ e d = absurd (cc d)

  -- the worker in memory after a want
  pub acts_on : (code followed new : SoleWorker) (w : WorkerState StrandState) → Runs job code w → takes_answer (want_of_worker code) ≡ true → Acted code followed new → Runs job new (after_act (strands_of_job job) w)
  acts_on code followed new w r d acted =
      let x = want_of_worker code in
      let undo = followed.undo in
      let e = is_wanted code w r in
      let done : takes_answer ((strands_of_job job).want w.strand) ≡ true = ap takes_answer e ∙ d in
      let R : Want → Type 0 = λ v. Runs job new (after_by v w) in
      let given = answer_to x code.memory.items w.since in
      let acts_from : SoleWorker → Type 0 = λ v. DoesItsWant v new in
      let made : DoesItsWant (record code { undo = undo }) new = subst acts_from acted.follows.same acted.done in
      let S : SoleWorker → Type 0 = λ v. (since : List Since) → LooksRight v since → state_of new.strand ≡ (law_of_worker v).answer (state_of v.strand) (answer_to (want_of_worker v) v.memory.items since) in
      let F : Want → Type 0 = λ v. AreSince undo (memory_after v code.memory.items) (since_after v code.memory.items w.since) in
      let followed_since : F x = acted.follows.blocks.since w.since r.undo in
      let looks : LooksRight (record code { undo = undo }) w.since = λ cancel. subst F cancel followed_since in
      let answers = subst S acted.follows.same acted.strand w.since looks in
      let goes_on : state_of new.strand ≡ (strands_of_job job).answer w.strand given =
      answers ∙ (ap (λ l. l.answer (state_of code.strand) given) (law_same job code w r) ∙ ap (λ a. (strands_of_job job).answer a given) r.strand) in
      let new_memory : new.memory.items ≡ memory_after x code.memory.items = made.memory in
      subst R (sym e)
      (record {
        job_is = ap job_of_task made.task ∙ r.job_is;
        memory = new_memory ∙ ap (memory_after x) r.memory;
        outputs = made.outputs ∙ ap (outputs_after x) r.outputs;
        undo = (
            let U : Undo → Type 0 = λ v. AreSince v new.memory.items (since_after x w.memory w.since) in
            let M : List ℤ → Type 0 = λ m. AreSince undo m (since_after x w.memory w.since) in
            let V : List ℤ → Type 0 = λ m. AreSince undo (memory_after x code.memory.items) (since_after x m w.since) in
            subst U (sym made.undo) (subst M (sym new_memory) (subst V r.memory followed_since)));
        one_strand = (let U : Undo → Type 0 = λ v. All OfOne v.begun in subst U (sym made.undo) (one_kept x code.undo undo.begun r.one_strand acted.follows.blocks.begun));
        strand = goes_on ∙ ap (λ m. (strands_of_job job).answer w.strand (answer_to x m w.since)) r.memory;
        work = (let P : Want → Type 0 = λ v. IsAtWork (strands_of_job job) (after_by v w) in subst P e (acts (strands_of_job job) closes w r.work done));
        draws = draws_by (made.drawing w.since looks ∙ ap (λ m. drawn_after x m w.since (drawn code.drawing)) r.memory) made.branches (draws_after code w r x e d);
      })

  pub act_leaves_less : IsDeep (strands_of_job job) → (code followed new : SoleWorker) (w : WorkerState StrandState) → Runs job code w → takes_answer (want_of_worker code) ≡ true → Acted code followed new → left_to_do new < left_to_do code
  act_leaves_less deep code followed new w r d acted =
      let h = acts_on code followed new w r d acted in
      let s = strands_of_job job in
      let e = is_wanted code w r in
      let given = answer_to (s.want w.strand) w.memory w.since in
      let now : law_of_worker new ≡ s = law_same job new (after_act s w) h in
      let was : law_of_worker code ≡ s = law_same job code w r in
      let falls : s.depth (s.answer w.strand given) < s.depth w.strand = deep.answer w.strand given (ap takes_answer e ∙ d) in
      let less = weight_falls _ _ _ falls falls in
      let acts_from : SoleWorker → Type 0 = λ v. DoesItsWant v new in
      let made : DoesItsWant (record code { undo = followed.undo }) new = subst acts_from acted.follows.same acted.done in
      let todo : left_to_do new ≡ weight (s.depth (s.answer w.strand given)) + weights s code.branches = (rw (now, h.strand, made.branches) refl) in
      let before : left_to_do code ≡ weight (s.depth w.strand) + weights s code.branches = (rw (was, r.strand) refl) in
      omega arith

  -- ## Its blocks can be followed

  -- if a block is begun in the strand, the innermost one is recorded as that of strand 0
  first_own : (t : List Node) (first : List ℤ) (p : ℕ) (c : List Crossing) (n : ℕ) (undo : Undo) (memory : List ℤ) (bs : List Block) (xs : List Since) → Keeps t first p c (suc n) xs → AllZip (IsSince undo.writes.items memory) bs xs → All OfOne bs
      → (b : Block) × (rest : List Block) × (bs ≡ b ∷ rest) × (b.strand ≡ 0)
  first_own t first p c n undo memory bs [] keeps are all = absurd keeps
  first_own t first p c n undo memory [] (x ∷ xs) keeps are all = absurd are
  first_own t first p c n undo memory (b ∷ bs) (x ∷ xs) keeps are all = (b, bs, refl, All-head OfOne b bs all)

  module _ (code : SoleWorker) (w : WorkerState StrandState) (r : Runs job code w) where
    own_first : (n : ℕ) → w.blocks ≡ suc n → (b : Block) × (rest : List Block) × (code.undo.begun ≡ b ∷ rest) × (b.strand ≡ 0)
    own_first n is =
        let cr = crossings code.branches w.branches in
        let K : ℕ → Type 0 = λ b. Keeps code.drawing.tree (first_memory job.program.cells) code.drawing.place cr b w.since in
        first_own code.drawing.tree (first_memory job.program.cells) code.drawing.place cr n code.undo code.memory.items code.undo.begun w.since (subst K is r.draws.since) r.undo r.one_strand

    pub follows_there : takes_answer (want_of_worker code) ≡ true → IsSome (begun_after (want_of_worker code) 0 code.undo)
    follows_there d = by (want_of_worker code) (is_wanted code w r) d where
      may : (x : Want) → (strands_of_job job).want w.strand ≡ x → MayWant x (own_in w.branches w.blocks)
      may x e = subst (λ (v : Want). MayWant v (own_in w.branches w.blocks)) e (closes _ _ (reached (strands_of_job job) r.work))

      by : (x : Want) → (strands_of_job job).want w.strand ≡ x → takes_answer x ≡ true → IsSome (begun_after x 0 code.undo)
      by want.End e d =
          let (n, is) = end_blocks w.branches w.blocks (may want.End e) in
          let (b, rest, begun, own) = own_first n is in
          ap (λ bs. is_some (blocks_after (record { strand = 0; writes = length code.undo.writes.items }) (λ (c : Block). c.strand == 0) want.End bs)) begun ∙ ap (λ k. is_some (cond (k == 0) (Some rest) None)) own
      by want.Cancel e d =
          let (n, is) = cancel_blocks w.branches w.blocks (may want.Cancel e) in
          let (b, rest, begun, own) = own_first n is in
          ap (λ bs. is_some (blocks_after (record { strand = 0; writes = length code.undo.writes.items }) (λ (c : Block). c.strand == 0) want.Cancel bs)) begun ∙ ap (λ k. is_some (cond (k == 0) (Some (b ∷ rest)) None)) own
      by want.Fork e d = absurd (cc d)
      by want.Sync e d = absurd (cc d)
      by want.Done e d = absurd (cc d)
      by (want.Fault k) e d = absurd (cc d)
      by _ e d = refl
