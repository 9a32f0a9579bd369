-- Every coherent record replays, for each of the four ends.
use Rattle.std.proofs.Common.{◌≡◌, ℕ, ℤ, suc, ◌<◌, ◌≤◌, List, [], ◌∷◌, length, refl, ap, sym, ◌∙◌, arith, Bool, true, false, cond, Option, Some, None, inl, inr, subst, map}
use Rattle.std.specs.Prelude.{◌&&◌, slice_get, unwrap_or, is_some, pos, IsTrue}
use Rattle.std.specs.Option.{option_map_or}
use Rattle.std.proofs.lemmas.Bool.{and_parts, and_from}
use Rattle.cw_code.specs.declared.FaultKind.{FaultKind}
use Rattle.cw_strand.specs.declared.want.Want.{Want}
use Rattle.cw_strand.specs.declared.want.Want.TheVariants as want
use Rattle.cw_strand.specs.Strands.{Strands, IsDeep, is_over, wants_fork}
use Rattle.cw_tree.specs.declared.node.Node.{Node}
use Rattle.cw_tree.specs.declared.access.Entry.{Entry}
use Rattle.cw_tree.specs.declared.conflict.Conflict.{Conflict}
use Rattle.cw_tree.specs.declared.picks.Name.{Name}
use Rattle.cw_tree.specs.declared.picks.Turn.{Turn}
use Rattle.cw_tree.specs.Nodes.{is_strand, is_pending, is_aborted}
use Rattle.cw_tree.specs.Walks.{is_ancestor}
use Rattle.cw_tree.specs.Names.{name_of}
use Rattle.cw_tree.specs.Series.{place}
use Rattle.cw_tree.specs.Accesses.{is_live, live_accesses, cell_value, written}
use Rattle.cw_tree.specs.Refusals.{Spent}
use Rattle.cw_tree.specs.Histories.{IsHistory}
use Rattle.cw_tree.proofs.Walks.Ancestors.{ancestor_le, root_ancestor}
use Rattle.cw_serial.specs.declared.ends.SerialEnd.{SerialEnd}
use Rattle.cw_serial.specs.declared.ends.SerialEnd.TheVariants as last
use Rattle.cw_tree.proofs.Members.{map_in}
use Rattle.cw_tree.proofs.Lists.{In}
use Rattle.cw_serial.specs.StrandTree.{state_at_end, at}
use Rattle.cw_serial.specs.Machine.{Machine, has_ended, machine_shows, stands_at, end_of_strand, end_of_named, steps_down}
use Rattle.cw_serial.proofs.Numbers.{get_some}
use Rattle.cw_record.specs.declared.record_end.RecordEnd.{RecordEnd}
use Rattle.cw_record.specs.declared.record_end.RecordEnd.TheVariants.{Finished, Fault, Budget, Moves}
use Rattle.cw_record.specs.declared.items.OrderItem.TheVariants.{Does}
use Rattle.cw_record.specs.Items.{place_of_end, place_of_refused}
use Rattle.cw_record.specs.Listed.{listed_names, strand_number}
use Rattle.cw_record.specs.Order.{node_of, order_of}
use Rattle.cw_record.specs.Coherent.{IsCoherent, HasOutputs, Follows, StrandEnded, IsMemory, HasNoOpenFork}
use Rattle.cw_record.specs.Replay.{Replays, StandsRefused, WantsAgain}
use Rattle.cw_record.proofs.Walked.Named.{strand_turns}
use Rattle.cw_replay.specs.RecordsReplay.{RecordsReplay}
use Rattle.cw_replay.proofs.RecordsReplay.Work.Work.{Has}
use Rattle.cw_replay.proofs.RecordsReplay.Work.Orders.{SeenAfter, all_over}
use Rattle.cw_replay.proofs.RecordsReplay.Work.Ways.{not_ended}
use Rattle.cw_replay.proofs.RecordsReplay.Machine.Acts.{Act, item, stop}
use Rattle.cw_replay.proofs.RecordsReplay.Tasks.Sorts.{kept_block}
use Rattle.cw_replay.proofs.RecordsReplay.Tasks.Fitting.{whole_fits, whole_over}
use Rattle.cw_replay.proofs.RecordsReplay.Tasks.Places.{Under, whole_has}
use Rattle.cw_replay.proofs.RecordsReplay.Tasks.Single.{whole_once}
use Rattle.cw_replay.proofs.RecordsReplay.Tasks.Tasks.{whole}
use Rattle.cw_replay.proofs.RecordsReplay.Ordered.Entries.{Order, AllStay}
use Rattle.cw_replay.proofs.RecordsReplay.Ordered.Climbing.{stands}
use Rattle.cw_replay.proofs.RecordsReplay.Memory.Journaling.{live_of}
use Rattle.cw_replay.proofs.RecordsReplay.Ordered.Respecting.{seen_in, of_proper, Items, deeds, order_plays}
use Rattle.cw_replay.proofs.RecordsReplay.Machine.Replaying.{last_machine, order_done, last_strands, stands_stopped, last_outputs, cell_holds, memory_len}
use Rattle.cw_replay.proofs.RecordsReplay.Ends.Stops.{none_true, unstopped_run, Stopped}
use Rattle.cw_replay.proofs.RecordsReplay.Ends.Faulting.{fault_stop}
use Rattle.cw_replay.proofs.RecordsReplay.Ends.Spending.{budget_spent}
use Rattle.cw_replay.proofs.RecordsReplay.Ordered.Runs.{Run}

-- ## What the machine shows

module _ {A : Type 0} (s : Strands A) (m : Machine A) (names : List Name) (name place : ℕ) where
  abbrev shown_by : Bool → SerialEnd → SerialEnd
  shown_by b e = cond b (last.Finished m.memory m.outputs) e

  stuck_want : (place k : ℕ) (w : Want) → unwrap_or (stands_at s name w) (last.Stuck k) ≡ last.Stuck place → k ≡ place
  stuck_want place k want.Sync e = cc e
  stuck_want place k want.Done e = cc e
  stuck_want place k _ e = absurd (cc e)

  stuck_strand : (place k : ℕ) (o : Option A) → unwrap_or (end_of_strand s name o) (last.Stuck k) ≡ last.Stuck place → k ≡ place
  stuck_strand place k None e = cc e
  stuck_strand place k (Some a) e = stuck_want place k (s.want a) e

  stuck_named : (place k : ℕ) (o : Option (List Turn)) → unwrap_or (end_of_named s m name o) (last.Stuck k) ≡ last.Stuck place → k ≡ place
  stuck_named place k None e = cc e
  stuck_named place k (Some p) e = stuck_strand place k (at s m.strands p) e

  -- it shows that it is stuck at no other place
  stuck_here : (k : ℕ) → machine_shows s m names name place ≡ last.Stuck k → place ≡ k
  stuck_here k e = by (has_ended s m) e where
    by : (b : Bool) → shown_by b (unwrap_or (end_of_named s m name (steps_down names name)) (last.Stuck place)) ≡ last.Stuck k → place ≡ k
    by true e = absurd (cc e)
    by false e = stuck_named k place (steps_down names name) e

  -- where its strands have ended, it has finished
  shows_finished : (a : A) → state_at_end s m.strands ≡ Some a → machine_shows s m names name place ≡ last.Finished m.memory m.outputs
  shows_finished a e = ap (λ o. shown_by (is_some o) (unwrap_or (end_of_named s m name (steps_down names name)) (last.Stuck place))) e

  -- and else it shows where the strand of the last name stands
  shows_strand : (p : List Turn) (b : A) (e : SerialEnd) → steps_down names name ≡ Some p → at s m.strands p ≡ Some b → is_over (s.want b) ≡ false → stands_at s name (s.want b) ≡ Some e → machine_shows s m names name place ≡ e
  shows_strand p b e n here no_end stands =
      ap (λ o. shown_by (is_some o) (unwrap_or (end_of_named s m name (steps_down names name)) (last.Stuck place))) (not_ended s m.strands p b here no_end)
      ∙ ap (λ o. unwrap_or (end_of_named s m name o) (last.Stuck place)) n
      ∙ ap (λ o. unwrap_or (end_of_strand s name o) (last.Stuck place)) here
      ∙ ap (λ o. unwrap_or o (last.Stuck place)) stands

same_cells : (xs ys : List ℤ) → length xs ≡ length ys → ((c : ℕ) → c < length xs → slice_get xs c ≡ slice_get ys c) → xs ≡ ys
same_cells [] [] l h = refl
same_cells [] (y ∷ ys) l h = absurd (omega (arith, l))
same_cells (x ∷ xs) [] l h = absurd (omega (arith, l))
same_cells (x ∷ xs) (y ∷ ys) l h =
    let heads : Some x ≡ Some y = h 0 (omega arith) in
    let one : x ≡ y = cc heads in
    ap (λ z. z ∷ xs) one ∙ ap (λ zs. y ∷ zs) (same_cells xs ys (omega (arith, l)) (λ c g. h (suc c) (omega arith)))

module _ {A : Type 0} (s : Strands A) (deep : IsDeep s) (first : List ℤ) (budget : ℕ) (t : List Node) (kept : List (List Entry)) (cs : List Conflict) (h : IsHistory t first kept cs) (before after reached : ℕ → A) (follows : Follows s t before after reached) where
  -- ## A run that finished

  abbrev pub done_run : Run s t 0
  done_run = unstopped_run s t first kept cs h before after reached follows

  abbrev pub done : Machine A
  done = last_machine s deep t 0 done_run first kept cs h

  module _ (memory outputs : List ℤ) (none : (n : ℕ) → n < length t → is_pending t n ≡ false) (all_ended : (x : ℕ) → x < length t → IsTrue (is_strand t x && is_live t x) → StrandEnded s t before after reached x) where
    -- all blocks around what is live have ended
    around : (n : ℕ) → n < length t → ((a : ℕ) → is_ancestor t a n ≡ true → is_aborted t a ≡ false) → AllStay t 0 done_run.laid n
    around n hn live a b f = elim (kept_block t a b (live a f)) [
      | inl c ↦ inr (inl c)
      | inr q ↦ (let le : a ≤ n = ancestor_le t h.tree.rooted a n hn f in absurd (cc (q, none a (omega arith))))
    ]

    all_seen : (i : Act) → Has i (whole done_run.account.stop t) → SeenAfter (λ i. ⊥) (Items s t 0 done_run) i
    all_seen i g = seen_in (λ i. ⊥) (Items s t 0 done_run) i (inl (by i (whole_has s t done_run.account i g))) where
      by : (i : Act) → Under s t done_run.account 0 i → In i (Items s t 0 done_run)
      by (stop n) u = absurd (let e : false ≡ true = u.proper in none_true e)
      by (item i) u = map_in item i (Order t 0 done_run.laid) (stands t 0 done_run.laid i u.there (of_proper s t 0 done_run i u.proper)
          (around (node_of i) u.there (λ a f. let le : a ≤ node_of i = ancestor_le t h.tree.rooted a (node_of i) u.there f in let hi = u.there in (u.kept a (root_ancestor t h.tree.rooted a (omega arith)) f).0)))

    pub strands_ended : (a : A) × (state_at_end s done.strands ≡ Some a)
    strands_ended = (
      _,
      ap (state_at_end s) (last_strands s deep t 0 done_run first kept cs h)
          ∙ all_over (deeds s t 0 done_run deep) deep (whole done_run.account.stop t) (Items s t 0 done_run) s.start (whole_once s t done_run.account) (whole_fits s t done_run.account) (order_plays s t 0 done_run deep)
          (whole_over s t done_run.account (all_ended 0 h.tree.some (and_from (is_strand t 0) (is_live t 0) h.tree.root refl))) all_seen,
    )

    access_there : (c u : ℕ) → In u (live_accesses t c) → In (Does u) (Order t 0 done_run.laid)
    access_there c u g = let l = live_of s t 0 done_run c u g in stands t 0 done_run.laid (Does u) l.there l.act (around u l.there l.live)

    pub memory_same : IsMemory t first memory → done.memory ≡ memory
    memory_same is =
        let len = memory_len s deep t 0 done_run first kept cs h in
        same_cells done.memory memory (len ∙ sym is.len) (λ c low.
        let v = get_some first c (omega (arith, len)) in
        cell_holds s deep t 0 done_run first kept cs h c (omega (arith, len)) (access_there c)
        ∙ ap (λ o. Some (cell_value (unwrap_or o (pos 0)) (map (written t) (live_accesses t c)))) v.1
        ∙ sym (is.each c v.0 v.1))

    finished : IsMemory t first memory → HasOutputs t cs budget (Finished memory outputs) → Replays s first budget t cs (order_of t cs budget (Finished memory outputs)) (Finished memory outputs)
    finished is shows = record {
      strand = h.tree.root;
      order = refl;
      machine = done;
      acts = order_done s deep t 0 done_run first kept cs h;
      end = shows_finished s done (listed_names t) (strand_number t 0) (length (order_of t cs budget (Finished memory outputs)).list) strands_ended.0 strands_ended.1
          ∙ ap (λ x. last.Finished x done.outputs) (memory_same is)
          ∙ ap (last.Finished memory) (last_outputs s deep t 0 done_run first kept cs h ∙ sym shows);
      spent = tt;
    }

  -- ## A run that spent its moves

  moves : Replays s first budget t cs (order_of t cs budget Moves) Moves
  moves = record {
    strand = h.tree.root;
    order = refl;
    machine = done;
    acts = order_done s deep t 0 done_run first kept cs h;
    end = λ k e. let same = stuck_here s done (listed_names t) (strand_number t 0) (length (order_of t cs budget Moves).list) k e in omega arith;
    spent = tt;
  }

  -- ## A run in which a strand stopped

  module _ (x p : ℕ) (v : Want) (strand : is_strand t x ≡ true) (st : Stopped s t first kept cs h before after reached follows x p v) (no_fork : wants_fork v ≡ false) where
    abbrev halted : Machine A
    halted = last_machine s deep t p st.run first kept cs h

    pub stands_there : (b : A) × (at s halted.strands (name_of t x) ≡ Some b) × (s.want b ≡ v)
    stands_there =
        let z = stands_stopped s deep t p st.run first kept cs h st.node st.at (ap wants_fork st.wants ∙ no_fork) in
        (z.0, ap (λ y. at s halted.strands (name_of t y)) (sym st.strand) ∙ z.1, z.2 ∙ st.wants)

    pub shows_there : (place : ℕ) (e : SerialEnd) → stands_at s (strand_number t x) v ≡ Some e → machine_shows s halted (listed_names t) (strand_number t x) place ≡ e
    shows_there place e stands =
        let z = stands_there in
        shows_strand s halted (listed_names t) (strand_number t x) place (name_of t x) z.0 e (strand_turns t h.tree.rooted h.tree.root x strand) z.1
        (ap is_over (z.2 ∙ sym st.wants) ∙ st.run.account.not_over) (ap (stands_at s (strand_number t x)) z.2 ∙ stands)

  fault : (x : ℕ) (kind : FaultKind) → IsTrue (is_strand t x && is_live t x) → (s.want (reached (place t x)) ≡ want.Fault kind) × HasNoOpenFork s t before after reached (place t x)
      → Replays s first budget t cs (order_of t cs budget (Fault x kind)) (Fault x kind)
  fault x kind may there =
      let strand = (and_parts (is_strand t x) (is_live t x) may).0 in
      let st = fault_stop s t first kept cs h before after reached follows x kind may there.0 there.1 in
      record {
        strand = strand;
        order = refl;
        machine = halted x (place t x) (want.Fault kind) strand st refl;
        acts = order_done s deep t (place t x) st.run first kept cs h;
        end = shows_there x (place t x) (want.Fault kind) strand st refl (length (order_of t cs budget (Fault x kind)).list) (last.Fault (strand_number t x) kind) refl;
        spent = tt;
      }

  spent_budget : (x : ℕ) → Spent t cs budget x → Replays s first budget t cs (order_of t cs budget (Budget x)) (Budget x)
  spent_budget x spent =
      let z = budget_spent s t first kept cs h before after reached follows x budget spent in
      let y = z.refuses in
      let p = place_of_end t cs budget (Budget x) in
      let here : p ≡ place_of_refused t z.conflict = ap (λ o. option_map_or (place_of_refused t) o 0) z.is in
      let P : ℕ → Type 0 = λ q. Stopped s t first kept cs h before after reached follows x q y.want in
      let st = subst P (sym here) y.stopped in
      let at_end = stands_there x p y.want spent.strand st y.no_fork in
      let Q : Option Conflict → Type 0 = λ o. StandsRefused s o (halted x p y.want spent.strand st y.no_fork) (name_of t x) in
      let R : Want → Type 0 = λ w. WantsAgain z.conflict w in
      record {
        strand = spent.strand;
        order = refl;
        machine = halted x p y.want spent.strand st y.no_fork;
        acts = order_done s deep t p st.run first kept cs h;
        end = shows_there x p y.want spent.strand st y.no_fork (length (order_of t cs budget (Budget x)).list) (last.At (strand_number t x)) (y.shows (strand_number t x));
        spent = subst Q (sym z.is) (at_end.0, at_end.1, subst R (sym at_end.2) y.is);
      }

pub replays : {A : Type 0} (s : Strands A) → IsDeep s → RecordsReplay s
replays s deep first budget t kept cs e co outs = by e co outs where
  by : (e : RecordEnd) → IsCoherent s first budget t kept cs e → HasOutputs t cs budget e → Replays s first budget t cs (order_of t cs budget e) e
  by (Finished memory outputs) co outs = let z = co.strands.4 in finished s deep first budget t kept cs co.history co.strands.0 co.strands.1 co.strands.2 co.strands.3 memory outputs z.0 z.1 co.memory outs
  by (Fault x kind) co outs = fault s deep first budget t kept cs co.history co.strands.0 co.strands.1 co.strands.2 co.strands.3 x kind co.faulted co.strands.4
  by (Budget x) co outs = spent_budget s deep first budget t kept cs co.history co.strands.0 co.strands.1 co.strands.2 co.strands.3 x co.spent
  by Moves co outs = moves s deep first budget t kept cs co.history co.strands.0 co.strands.1 co.strands.2 co.strands.3
