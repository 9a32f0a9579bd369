-- How the run of one worker begins, and what it leaves at its end or at a fault.
use Rattle.std.proofs.Common.{◌≡◌, ℕ, ℤ, zero, suc, ◌<◌, ◌≤◌, List, [], ◌∷◌, ◌++◌, length, map, refl, ap, sym, ◌∙◌, subst, arith, true, false, Some, replicate, append-nil}
use Rattle.std.specs.Prelude.{All, slice_get, option_map, is_some}
use Rattle.std.specs.List.{AllZip}
use Rattle.std.proofs.lemmas.List.Elements.{All-nil, All-head, All-tail, All-weaker}
use Rattle.std.proofs.lemmas.List.{length-replicate, length-append}
use Rattle.cw_code.specs.declared.FaultKind.{FaultKind}
use Rattle.cw_strand.specs.declared.want.Want.TheVariants as want
use Rattle.cw_strand.specs.Names.{first_memory}
use Rattle.cw_strand.specs.Strands.{Closes, is_over, wants_fork}
use Rattle.cw_tree.specs.declared.node.Node.{Node}
use Rattle.cw_tree.specs.declared.node.Kind.TheVariants.{Strand}
use Rattle.cw_tree.specs.declared.access.Entry.{Entry}
use Rattle.cw_tree.specs.Nodes.{is_strand, is_aborted, fresh_node}
use Rattle.cw_tree.specs.Accesses.{is_live}
use Rattle.cw_tree.specs.Cancels.{AreCancels}
use Rattle.cw_tree.specs.Walks.{IsRooted}
use Rattle.cw_tree.proofs.Cancels.{no_cancels}
use Rattle.cw_tree.proofs.NextNodes.Growing.{length_more, rooted_more}
use Rattle.std.proofs.lemmas.Bool.{and_from, and_parts}
use Rattle.cw_tree.specs.Series.{strand_of, place as place_in}
use Rattle.cw_tree.specs.Names.{name_of}
use Rattle.cw_tree.proofs.ChainLaws.CellJournals.{HasJournals, journals_begin}
use Rattle.cw_tree.proofs.Walks.Strands.{strand_of_le}
use Rattle.cw_job.specs.Jobs.{Job, job_of_task}
use Rattle.cw_serial.specs.StrandTree.{at, state_at_end, goes_on}
use Rattle.cw_job.specs.Room.Strands.{StrandState, state_of, strands_of_job}
use Rattle.cw_serial.specs.MachineOf.{machine_of}
use Rattle.cw_serial.proofs.Branches.{Branch, way, plugged}
use Rattle.cw_serial.proofs.Deep.{goes_over, ended_stands}
use Rattle.cw_job.proofs.Room.Elements.{elements_of}
use Rattle.cw_serial.specs.declared.undo.Begun.{Begun as Block}
use Rattle.cw_serial.specs.InMemory.{IsSince}
use Rattle.cw_serial.specs.Wants.{Since}
use Rattle.cw_strand.specs.Programs.{IsCompiled}
use Rattle.cw_serial.proofs.Working.{WorkerState, machine_at, starts_work, none_begun, at_here, leftmost_here}
use Rattle.cw_record.specs.declared.items.OrderItem.{OrderItem}
use Rattle.cw_record.specs.declared.record_end.RecordEnd.TheVariants.{Finished, Fault}
use Rattle.cw_record.specs.declared.worker.Branch.{Branch as Held}
use Rattle.cw_record.specs.declared.worker.SoleWorker.{SoleWorker}
use Rattle.cw_record.specs.Drawn.{blank, drawn}
use Rattle.cw_record.specs.Items.{items}
use Rattle.cw_record.specs.Order.{node_of}
use Rattle.cw_record.specs.Coherent.{IsMemory, HasNoOpenFork}
use Rattle.cw_record.specs.Records.{IsWorkerRun}
use Rattle.cw_record.specs.OneWorker.{law_of_worker, unstarted, want_of_worker}
use Rattle.cw_record.proofs.Coherent.AddedStates.{known_root}
use Rattle.cw_record.proofs.OneWorker.Building.{IsBuilt, open_items}
use Rattle.cw_record.proofs.OneWorker.Behind.{waiting_over, numbered_at_fault}
use Rattle.cw_record.proofs.OneWorker.Descending.{Descends}
use Rattle.cw_record.proofs.OneWorker.Faults.{fault_items}
use Rattle.cw_record.proofs.OneWorker.FollowedStates.{none_pending, finished_follows, finished_ended, fault_stops}
use Rattle.cw_record.proofs.OneWorker.GrowingCancels.{cancels_plain}
use Rattle.cw_record.proofs.OneWorker.GrowingItems.{built_root, root_items}
use Rattle.cw_record.proofs.OneWorker.GrowingJournals.{same_more, has_unless}
use Rattle.cw_record.proofs.OneWorker.GrowingWays.{descends_root, way_root}
use Rattle.cw_record.proofs.OneWorker.KnownStates.{Knows}
use Rattle.cw_record.proofs.OneWorker.KeptCells.{fits_root, fits_behind, ended_behind}
use Rattle.cw_record.proofs.OneWorker.Later.{rising_root, journals_ended}
use Rattle.cw_record.proofs.OneWorker.NoneAborted.{none_aborted, not_aborted}
use Rattle.cw_record.proofs.OneWorker.NoneRefused.{none_refused, none_roll, all_are_live}
use Rattle.cw_record.proofs.OneWorker.OpenBlocks.{blocks_built, blocks_at_fault, place_at_fault}
use Rattle.cw_record.proofs.OneWorker.PendingLast.{last_built, last_behind}
use Rattle.cw_record.proofs.OneWorker.Playing.{SameDoers, Plays, plays_kept, does_all, goes_depth_first}
use Rattle.cw_record.proofs.OneWorker.Shaped.{IsShaped, shaped_root, tree_of_shape, to_come_there, shaped_strands}
use Rattle.cw_record.proofs.Replay.ShownItems.{items_shown}
use Rattle.cw_record.proofs.Coherent.States.{reached}
use Rattle.cw_record.proofs.OneWorker.Stamped.{stamped_root, stamped_behind}
use Rattle.cw_record.proofs.StrandIs.{strand_is}
use Rattle.cw_record.proofs.OneWorker.Running.{Draws, HoldsBranches, Runs, crossings, draws_by, runs_name, wants_same}
use Rattle.cw_record.proofs.OneWorker.Unstarted.{with_strands, unstarted_name, unstarted_items, unstarted_node, unstarted_strand, unstarted_strand_of}
use Rattle.cw_record.proofs.OneWorker.Waiting.{one_unstarted}

-- ## The beginning

all_empty : (n c : ℕ) (es : List Entry) → slice_get (replicate n []) c ≡ Some es → es ≡ []
all_empty zero c es h = absurd (cc h)
all_empty (suc n) zero es h = cc
all_empty (suc n) (suc c) es h = all_empty n c es h

module _ (job : Job) where
  -- the worker at the first want of main
  pub runs_first : (code : SoleWorker) → IsCompiled job.program → job_of_task code.task ≡ job → code.memory.items ≡ first_memory job.program.cells → code.outputs.items ≡ [] → code.undo.begun ≡ [] → drawn code.drawing ≡ blank (length code.memory.items)
      → state_of code.strand ≡ (law_of_worker code).start → code.branches ≡ [] → (w : WorkerState StrandState) × Runs job code w
  runs_first code compiled is memory outputs begun drawing strand branches =
      let first = first_memory job.program.cells in
      let root = fresh_node 0 Strand 0 ∷ [] in
      let empty = replicate (length first) [] in
      let w : WorkerState StrandState = record { memory = first; outputs = []; branches = []; forks = 0; blocks = 0; since = []; strand = (strands_of_job job).start } in
      let I : List OrderItem → Type 0 = λ is. Plays (strands_of_job job) root (machine_of job) is (machine_at (strands_of_job job) w) in
      let draws : Draws job (blank (length first)) [] w = record {
        built = built_root;
        shape = shaped_root;
        stamps = stamped_root;
        rising = rising_root;
        cells = fits_root (length first);
        branches = tt;
        place = descends_root;
        states = known_root (strands_of_job job);
        journals = journals_begin (fresh_node 0 Strand 0) first empty refl (length-replicate (length first) []) (λ c es h. all_empty (length first) c es h);
        cancels = no_cancels root first refl;
        since = refl;
        played = subst I (sym root_items) refl;
      } in (
        w,
        record {
          job_is = is;
          memory = memory;
          outputs = outputs;
          undo = (let B : List Block → Type 0 = λ bs. AllZip (IsSince code.undo.writes.items code.memory.items) bs [] in subst B (sym begun) tt);
          one_strand = (let B : List Block → Type 0 = λ bs. All (λ b. b.strand ≡ 0) bs in subst B (sym begun) (All-nil (λ b. b.strand ≡ 0)));
          strand = strand ∙ ap (λ j. (strands_of_job j).start) is;
          work = starts_work (strands_of_job job) first (omega (arith, elements_of job compiled));
          draws = draws_by (drawing ∙ ap (λ m. blank (length m)) memory) branches draws;
        },
      )

  -- ## The end

  module _ (closes : Closes (strands_of_job job)) where
    no_branches : (xs : List Held) (c : List (Branch StrandState)) → xs ≡ [] → HoldsBranches xs c → c ≡ []
    no_branches [] [] e h = refl
    no_branches [] (y ∷ c) e h = absurd h
    no_branches (x ∷ xs) c e h = absurd (cc e)

    pub finished_run : (code : SoleWorker) (memory outputs : List ℤ) (branches : List (Branch StrandState)) (forks blocks : ℕ) (since : List Since) (a : StrandState)
        → Runs job code (let w : WorkerState StrandState = record { memory = memory; outputs = outputs; branches = branches; forks = forks; blocks = blocks; since = since; strand = a } in w)
        → is_over (want_of_worker code) ≡ true → code.branches ≡ [] → IsWorkerRun job code.drawing.tree code.drawing.journals.items (Finished code.memory.items code.outputs.items)
    finished_run code memory outputs branches forks blocks since a r over none =
        let t = code.drawing.tree in
        let w : WorkerState StrandState = record { memory = memory; outputs = outputs; branches = branches; forks = forks; blocks = blocks; since = since; strand = a } in
        let o : is_over ((strands_of_job job).want a) ≡ true = ap is_over (sym (wants_same job code w r)) ∙ over in
        let empty : branches ≡ [] = no_branches code.branches branches none r.draws.branches in
        let zeroed : blocks ≡ 0 = none_begun (strands_of_job job) closes w r.work o in
        let DB : ℕ → Type 0 = λ b. Descends t code.drawing.place (crossings code.branches branches) b forks in
        let DX : List Held → Type 0 = λ xs. Descends t code.drawing.place (crossings xs branches) 0 forks in
        let DC : List (Branch StrandState) → Type 0 = λ c. Descends t code.drawing.place (crossings [] c) 0 forks in
        let at_root : code.drawing.place ≡ 0 = way_root t code.drawing.place forks (subst DC empty (subst DX none (subst DB zeroed r.draws.place))) in
        let IP : ℕ → Type 0 = λ at. Plays (strands_of_job job) t (machine_of job) (open_items t at) (machine_at (strands_of_job job) w) in
        let played = subst IP at_root r.draws.played in
        let m = machine_at (strands_of_job job) w in
        let stands : state_at_end (strands_of_job job) m.strands ≡ Some a =
        ap (λ c. state_at_end (strands_of_job job) (plugged (strands_of_job job) c (goes_on (strands_of_job job) forks a))) empty
        ∙ (ap (state_at_end (strands_of_job job)) (goes_over (strands_of_job job) forks a o) ∙ ended_stands (strands_of_job job) forks a o) in
        let tree = tree_of_shape t (let S : List Held → Type 0 = λ xs. IsShaped t (unstarted xs) in subst S none r.draws.shape) in
        let x = r.draws.states.0 in
        let known : Knows (strands_of_job job) t 0 code.branches a x = (let K : ℕ → Type 0 = λ at. Knows (strands_of_job job) t at code.branches a x in subst K at_root r.draws.states.1) in
        let blocks = blocks_built t 0 code.drawing.clock (let B : ℕ → Type 0 = λ at. IsBuilt t at code.drawing.clock in subst B at_root r.draws.built) in
        record {
          ended = tt;
          coherent = λ budget. record {
            history = record {
              tree = tree;
              stamps = r.draws.stamps;
              pending_last = last_built t code.drawing.place code.drawing.clock r.draws.built;
              cells = r.draws.cells;
              journals = r.draws.journals.journals;
              ended = journals_ended t code.drawing.place code.drawing.clock r.draws.built r.draws.rising r.draws.stamps (length (first_memory job.program.cells));
              cancels = r.draws.cancels;
              refusals = none_refused t 0 r.draws.shape.untried blocks;
              rolls_back = none_roll t (none_aborted t 0 blocks);
            };
            faulted = tt;
            spent = tt;
            memory = (let M : List ℤ → Type 0 = λ values. IsMemory t (first_memory job.program.cells) values in subst M (sym r.memory) (record { len = r.draws.journals.len; each = r.draws.journals.values }));
            strands = (
              x.before,
              x.after,
              reached (strands_of_job job) t x,
              finished_follows (strands_of_job job) t tree code.branches a x known o,
              (none_pending t tree.root blocks, (λ n l live. finished_ended (strands_of_job job) t tree code.branches a x known o n l (and_parts (is_strand t n) (is_live t n) live).0)),
            );
          };
          outputs = λ budget. r.outputs ∙ items_shown (strands_of_job job) t (machine_of job) m 0 (length t) refl (does_all (strands_of_job job) t (machine_of job) m (open_items t 0) played);
          numbered = r.draws.built.numbered;
          blocks = blocks;
          strand = r.draws.built.root;
          order = λ budget. record { machine = m; picks = goes_depth_first (strands_of_job job) t (machine_of job) m (open_items t 0) played; acts = does_all (strands_of_job job) t (machine_of job) m (open_items t 0) played; stops = (ap is_some stands, sym r.memory, sym r.outputs) };
        }

    -- ## A fault

    longer : (t : List Node) (fs : List ℕ) → length t ≤ length (with_strands t fs)
    longer t fs = omega (arith, length-append t (map (λ f. fresh_node f Strand 0) fs))

    -- strands that never start touch no element
    has_strands : (t : List Node) (first memory : List ℤ) (kept : List (List Entry)) (fs : List ℕ) → ((n : ℕ) → is_aborted t n ≡ false) → HasJournals t first memory kept → HasJournals (with_strands t fs) first memory kept
    has_strands t first memory kept [] none h = let P : List Node → Type 0 = λ u. HasJournals u first memory kept in subst P (sym (append-nil t)) h
    has_strands t first memory kept (f ∷ fs) none h =
        let u = t ++ fresh_node f Strand 0 ∷ [] in
        let P : List Node → Type 0 = λ v. HasJournals v first memory kept in
        subst P (one_unstarted t f fs) (has_strands u first memory kept fs (same_more t none f Strand 0).none_too (has_unless t none f Strand 0 first memory kept h (λ c. refl)))

    -- and give up nothing
    cancels_strands : (t : List Node) (first : List ℤ) (fs : List ℕ) → IsRooted t → ((n : ℕ) → is_aborted t n ≡ false) → All (λ f. f < length t) fs → AreCancels t first → AreCancels (with_strands t fs) first
    cancels_strands t first [] rooted none there h = let P : List Node → Type 0 = λ u. AreCancels u first in subst P (sym (append-nil t)) h
    cancels_strands t first (f ∷ fs) rooted none there h =
        let x = fresh_node f Strand 0 in
        let u = t ++ x ∷ [] in
        let P : List Node → Type 0 = λ v. AreCancels v first in
        let low : f < length t = All-head (λ g. g < length t) f fs there in
        subst P (one_unstarted t f fs)
        (cancels_strands u first fs (rooted_more t x rooted low) (same_more t none f Strand 0).none_too (All-weaker (λ g. g < length t) (λ g. g < length u) (λ g less. omega (arith, length_more t x)) fs (All-tail (λ g. g < length t) f fs there))
        (cancels_plain t rooted none first h f Strand 0 (λ c. refl) (λ back e. absurd (cc e))))

    pub fault_run : (code : SoleWorker) (w : WorkerState StrandState) → Runs job code w → (kind : FaultKind) → want_of_worker code ≡ want.Fault kind → (t : List Node) → t ≡ with_strands code.drawing.tree (unstarted code.branches)
        → IsWorkerRun job t code.drawing.journals.items (Fault (strand_of code.drawing.tree code.drawing.place) kind)
    fault_run code w r kind is t grown =
        let old = code.drawing.tree in
        let place = code.drawing.place in
        let fs = unstarted code.branches in
        let x = strand_of old place in
        let low = to_come_there old fs r.draws.shape in
        let u = with_strands old fs in
        let there = r.draws.built.there in
        let le : x ≤ place = strand_of_le old r.draws.built.rooted place there in
        let wanted : (strands_of_job job).want w.strand ≡ want.Fault kind = sym (wants_same job code w r) ∙ is in
        let m = machine_at (strands_of_job job) w in
        let same : SameDoers old u = record {
          longer = longer old fs;
          doers = λ i h. (let sle : strand_of old (node_of i) ≤ node_of i = strand_of_le old r.draws.built.rooted (node_of i) h in
              ap (name_of u) (unstarted_strand_of old fs r.draws.built.rooted (node_of i) h) ∙ unstarted_name old r.draws.built.rooted fs low (strand_of old (node_of i)) (omega arith));
          kinds = λ n h. ap (option_map (λ y. y.kind)) (unstarted_node old fs n h);
        } in
        let named : name_of u x ≡ way w.branches = unstarted_name old r.draws.built.rooted fs low x (omega arith) ∙ runs_name job code w r in
        let listed = λ (budget : ℕ). unstarted_items old r.draws.built.rooted fs low r.draws.built.root [] budget x kind (omega arith) ∙ fault_items old place code.drawing.clock r.draws.built [] budget kind in
        let played : Plays (strands_of_job job) u (machine_of job) (open_items old place) m = plays_kept (strands_of_job job) old u same (machine_of job) m (open_items old place) r.draws.played in
        let played_at = λ (budget : ℕ). (let P : List OrderItem → Type 0 = λ is. Plays (strands_of_job job) u (machine_of job) is m in subst P (sym (listed budget)) played) in
        let shape = shaped_strands fs old r.draws.shape in
        let blocks = blocks_at_fault old place code.drawing.clock r.draws.built fs low in
        let live = not_aborted old place code.drawing.clock r.draws.built in
        let strand : is_strand u x ≡ true = unstarted_strand old fs x (omega arith) ∙ strand_is old r.draws.built.rooted r.draws.built.root place there in
        let waiting = waiting_over old r.draws.built.rooted r.draws.built.root code.branches w.branches r.draws.branches place w.blocks w.forks there r.draws.place in
        let stop = fault_stops (strands_of_job job) old place code.drawing.clock r.draws.built code.branches w.strand r.draws.states.0 r.draws.states.1 fs waiting r.draws.shape.to_come shape in
        let at_place : place_in u x ≡ place = place_at_fault old place code.drawing.clock r.draws.built fs low in
        let Here : ℕ → Type 0 = λ q. ((strands_of_job job).want (reached (strands_of_job job) u stop.states q) ≡ want.Fault kind) × HasNoOpenFork (strands_of_job job) u stop.states.before stop.states.after (reached (strands_of_job job) u stop.states) q in
        let all : IsWorkerRun job u code.drawing.journals.items (Fault x kind) = record {
          ended = tt;
          coherent = λ budget. record {
            history = record {
              tree = tree_of_shape u shape;
              stamps = stamped_behind old r.draws.built.rooted r.draws.stamps fs low;
              pending_last = last_behind fs old r.draws.shape (last_built old place code.drawing.clock r.draws.built);
              cells = fits_behind old (length (first_memory job.program.cells)) r.draws.built.rooted r.draws.cells fs low;
              journals = (has_strands old (first_memory job.program.cells) w.memory code.drawing.journals.items fs live r.draws.journals).journals;
              ended = ended_behind old (length (first_memory job.program.cells)) r.draws.built.rooted live (journals_ended old place code.drawing.clock r.draws.built r.draws.rising r.draws.stamps (length (first_memory job.program.cells))) fs low;
              cancels = cancels_strands old (first_memory job.program.cells) fs r.draws.built.rooted live low r.draws.cancels;
              refusals = none_refused u (place_in u x) shape.untried blocks;
              rolls_back = none_roll u (none_aborted u (place_in u x) blocks);
            };
            faulted = and_from (is_strand u x) (is_live u x) strand (all_are_live u (none_aborted u (place_in u x) blocks) x);
            spent = tt;
            memory = tt;
            strands = (stop.states.before, stop.states.after, reached (strands_of_job job) u stop.states, stop.follows, subst Here (sym at_place) (ap (strands_of_job job).want stop.here ∙ wanted, stop.none));
          };
          outputs = λ budget. tt;
          numbered = numbered_at_fault old place code.drawing.clock r.draws.built fs waiting;
          blocks = blocks;
          strand = strand;
          order = λ budget. record {
            machine = m;
            picks = goes_depth_first (strands_of_job job) u (machine_of job) m (items u [] budget (Fault x kind)) (played_at budget);
            acts = does_all (strands_of_job job) u (machine_of job) m (items u [] budget (Fault x kind)) (played_at budget);
            stops = (
              leftmost_here (strands_of_job job) closes w r.work (ap wants_fork wanted) (ap is_over wanted) ∙ ap Some (sym named),
              (w.strand, ap (at (strands_of_job job) m.strands) named ∙ at_here (strands_of_job job) closes w (ap wants_fork wanted) (ap is_over wanted), wanted),
            );
          };
        } in
        let P : List Node → Type 0 = λ v. IsWorkerRun job v code.drawing.journals.items (Fault x kind) in
        subst P (sym grown) all
