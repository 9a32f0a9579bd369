-- The machine does the items of a record, where its strands come to them, its memory has what was read, and the begun blocks let them be picked.
use Rattle.std.proofs.Common.{◌≡◌, ℕ, ℤ, List, [], ◌∷◌, refl, ap, sym, ◌∙◌, true, cond, Option, Some, None, subst, map}
use Rattle.std.specs.Prelude.{slice_get, option_map}
use Rattle.cw_strand.specs.declared.want.Want.{Want}
use Rattle.cw_strand.specs.declared.want.Want.TheVariants as want
use Rattle.cw_strand.specs.declared.want.Given.{Given}
use Rattle.cw_strand.specs.declared.want.Given.TheVariants.{Nothing, Value, Back as Wrote}
use Rattle.cw_strand.specs.Strands.{Strands, IsDeep}
use Rattle.cw_tree.specs.declared.node.Node.{Node}
use Rattle.cw_tree.specs.declared.node.Kind.{Kind}
use Rattle.cw_tree.specs.declared.node.Kind.TheVariants.{Read, Write, Out, Cancel}
use Rattle.cw_tree.specs.declared.picks.Turn.{Turn}
use Rattle.cw_tree.specs.Names.{name_of}
use Rattle.cw_tree.specs.Series.{strand_of}
use Rattle.cw_serial.specs.StrandTree.{at, put}
use Rattle.cw_job.specs.Memory.{value_at}
use Rattle.cw_serial.specs.Wants.{Since, given_up, answer_to, memory_after, outputs_after, blocks_after, since_after}
use Rattle.cw_serial.specs.Machine.{Machine, Begun, same_name, may_pick, does, pick, pick_at}
use Rattle.cw_record.specs.declared.items.OrderItem.{OrderItem}
use Rattle.cw_record.specs.declared.items.OrderItem.TheVariants.{Begins, Does, Ends}
use Rattle.cw_record.specs.Order.{node_of}
use Rattle.cw_record.specs.Replay.{doer, IsAct, IsActOf, IsItemDone, DoesAll}
use Rattle.cw_replay.proofs.RecordsReplay.Work.Work.{Doing, Way}
use Rattle.cw_replay.proofs.RecordsReplay.Work.Ways.{Stops, threads, at_step, put_step}
use Rattle.cw_replay.proofs.RecordsReplay.Work.Next.{Next}
use Rattle.cw_replay.proofs.RecordsReplay.Work.Orders.{Plays, way_after}

-- ## What items are, to the strands that do them

-- what a strand does: an item of the order, or it stands where the run came to its end
pub data Act : Type 0 where
  item : OrderItem → Act
  stop : ℕ → Act

abbrev pub wanted_kind : Kind → Want
wanted_kind (Read c v) = want.Load c
wanted_kind (Write c v) = want.Store c v
wanted_kind (Out v) = want.Out v
wanted_kind (Cancel back) = want.Cancel
wanted_kind k = want.Sync

abbrev pub wanted_node : Option Node → Want
wanted_node None = want.Sync
wanted_node (Some x) = wanted_kind x.kind

abbrev pub given_kind : Kind → Given
given_kind (Read c v) = Value v
given_kind (Cancel back) = Wrote back
given_kind k = Nothing

abbrev pub given_node : Option Node → Given
given_node None = Nothing
given_node (Some x) = given_kind x.kind

module _ (t : List Node) where
  abbrev pub wanted_item : OrderItem → Want
  wanted_item (Begins n) = want.Begin
  wanted_item (Does n) = wanted_node (slice_get t n)
  wanted_item (Ends n) = want.End

  abbrev pub given_item : OrderItem → Given
  given_item (Does n) = given_node (slice_get t n)
  given_item i = Nothing

  abbrev pub act_wanted : Want → Act → Want
  act_wanted at_stop (item i) = wanted_item i
  act_wanted at_stop (stop n) = at_stop

  abbrev pub act_given : Act → Given
  act_given (item i) = given_item i
  act_given (stop n) = Nothing

abbrev pub place : Act → ℕ
place (item i) = node_of i
place (stop n) = n

abbrev pub act_name : List Node → Act → List Turn
act_name t a = name_of t (strand_of t (place a))

abbrev pub doing : {A : Type 0} → Strands A → List Node → Want → Doing Act A
doing s t at_stop = record { law = s; wanted = act_wanted t at_stop; given = act_given t; name = act_name t }

-- ## What items do to the memory, the outputs and the begun blocks

abbrev pub memory_all : List Node → List ℤ → List OrderItem → List ℤ
memory_all t memory [] = memory
memory_all t memory (i ∷ is) = memory_all t (memory_after (wanted_item t i) memory) is

abbrev pub outputs_all : List Node → List ℤ → List OrderItem → List ℤ
outputs_all t outputs [] = outputs
outputs_all t outputs (i ∷ is) = outputs_all t (outputs_after (wanted_item t i) outputs) is

-- an access, output or cancel that the memory lets be made
abbrev pub HasKind : List ℤ → Kind → Type 0
HasKind memory (Read c v) = value_at memory c ≡ v
HasKind memory (Write c v) = Unit {0}
HasKind memory (Out v) = Unit {0}
HasKind memory (Cancel back) = Unit {0}
HasKind memory k = ⊥

abbrev pub HasNode : List ℤ → Option Node → Type 0
HasNode memory None = ⊥
HasNode memory (Some x) = HasKind memory x.kind

abbrev pub HasItem : List Node → List ℤ → OrderItem → Type 0
HasItem t memory (Does n) = HasNode memory (slice_get t n)
HasItem t memory i = Unit {0}

-- each read meets its value
abbrev pub Remembers : List Node → List ℤ → List OrderItem → Type 0
Remembers t memory [] = Unit {0}
Remembers t memory (i ∷ is) = HasItem t memory i × Remembers t (memory_after (wanted_item t i) memory) is

-- a cancel has the list of what the innermost begun block puts back
abbrev pub PutsBackKind : List Since → Kind → Type 0
PutsBackKind since (Cancel back) = given_up since ≡ back
PutsBackKind since k = Unit {0}

abbrev pub PutsBackNode : List Since → Option Node → Type 0
PutsBackNode since None = Unit {0}
PutsBackNode since (Some x) = PutsBackKind since x.kind

abbrev pub PutsBackItem : List Node → List Since → OrderItem → Type 0
PutsBackItem t since (Does n) = PutsBackNode since (slice_get t n)
PutsBackItem t since i = Unit {0}

-- each cancel does
abbrev pub PutsBack : List Node → List ℤ → List Since → List OrderItem → Type 0
PutsBack t memory since [] = Unit {0}
PutsBack t memory since (i ∷ is) = PutsBackItem t since i × PutsBack t (memory_after (wanted_item t i) memory) (since_after (wanted_item t i) memory since) is

-- the begun blocks after an item, if it can be done
abbrev pub blocks : List Node → OrderItem → List Begun → Option (List Begun)
blocks t i bs = blocks_after (record { strand = doer t i }) (λ b. same_name b.strand (doer t i)) (wanted_item t i) bs

-- each strand may be picked where it comes
abbrev pub Picks : List Node → List Begun → List OrderItem → Type 0
Picks t bs [] = Unit {0}
Picks t bs (i ∷ is) = (may_pick bs (doer t i) ≡ true) × (cs : List Begun) × (blocks t i bs ≡ Some cs) × Picks t cs is

-- ## One item

answers_kind : (memory : List ℤ) (since : List Since) (k : Kind) → HasKind memory k → PutsBackKind since k → answer_to (wanted_kind k) memory since ≡ given_kind k
answers_kind memory since (Read c v) h b = ap Value h
answers_kind memory since (Write c v) h b = refl
answers_kind memory since (Out v) h b = refl
answers_kind memory since (Cancel back) h b = ap Wrote b
answers_kind memory since _ h b = absurd h

stops_kind : {A : Type 0} (s : Strands A) (memory : List ℤ) (k : Kind) → HasKind memory k → Stops s (wanted_kind k)
stops_kind s memory (Read c v) h = (refl, refl)
stops_kind s memory (Write c v) h = (refl, refl)
stops_kind s memory (Out v) h = (refl, refl)
stops_kind s memory (Cancel back) h = (refl, refl)
stops_kind s memory _ h = absurd h

act_of_kind : (memory : List ℤ) (since : List Since) (w : Want) (k : Kind) → HasKind memory k → PutsBackKind since k → w ≡ wanted_kind k → IsAct memory since w k
act_of_kind memory since w (Read c v) h b e = (e, h)
act_of_kind memory since w (Write c v) h b e = e
act_of_kind memory since w (Out v) h b e = e
act_of_kind memory since w (Cancel back) h b e = (e, b)
act_of_kind memory since w _ h b e = absurd h

module _ (t : List Node) (memory : List ℤ) where
  answers : (since : List Since) (i : OrderItem) → HasItem t memory i → PutsBackItem t since i → answer_to (wanted_item t i) memory since ≡ given_item t i
  answers since (Begins n) h b = refl
  answers since (Does n) h b = by (slice_get t n) h b where
    by : (o : Option Node) → HasNode memory o → PutsBackNode since o → answer_to (wanted_node o) memory since ≡ given_node o
    by None h b = absurd h
    by (Some x) h b = answers_kind memory since x.kind h b
  answers since (Ends n) h b = refl

  pub stops_item : {A : Type 0} (s : Strands A) (i : OrderItem) → HasItem t memory i → Stops s (wanted_item t i)
  stops_item s (Begins n) h = (refl, refl)
  stops_item s (Does n) h = by (slice_get t n) h where
    by : (o : Option Node) → HasNode memory o → Stops s (wanted_node o)
    by None h = absurd h
    by (Some x) h = stops_kind s memory x.kind h
  stops_item s (Ends n) h = (refl, refl)

  item_of : {A : Type 0} (m : Machine A) (w : Want) (i : OrderItem) → m.memory ≡ memory → HasItem t memory i → PutsBackItem t m.since i → w ≡ wanted_item t i → IsItemDone t m w i
  item_of m w (Begins n) f h b e = e
  item_of m w (Does n) f h b e = let P : List ℤ → Type 0 = λ x. IsActOf x m.since w (slice_get t n) in subst P (sym f) (by (slice_get t n) h b e) where
    by : (o : Option Node) → HasNode memory o → PutsBackNode m.since o → w ≡ wanted_node o → IsActOf memory m.since w o
    by None h b e = absurd h
    by (Some x) h b e = act_of_kind memory m.since w x.kind h b e
  item_of m w (Ends n) f h b e = e

-- ## All items

module _ {A : Type 0} (s : Strands A) (deep : IsDeep s) (t : List Node) (at_stop : Want) where
  abbrev u : Doing Act A
  u = doing s t at_stop

  abbrev pub made : Machine A → OrderItem → A → Want → Given → List Begun → Machine A
  made m i b w g cs = record {
    memory = memory_after w m.memory;
    outputs = outputs_after w m.outputs;
    strands = put s m.strands (doer t i) (s.answer b g);
    begun = cs;
    since = since_after w m.memory m.since;
  }

  abbrev pub next_machine : Machine A → OrderItem → A → List Begun → Machine A
  next_machine m i b cs = made m i b (wanted_item t i) (given_item t i) cs

  pub picks_item : (m : Machine A) (i : OrderItem) (b : A) (cs : List Begun) → at s m.strands (doer t i) ≡ Some b → may_pick m.begun (doer t i) ≡ true → s.want b ≡ wanted_item t i → blocks t i m.begun ≡ Some cs → HasItem t m.memory i → PutsBackItem t m.since i
      → pick s m (doer t i) ≡ Some (next_machine m i b cs)
  picks_item m i b cs here may wants begun has puts =
      ap (pick_at s m (doer t i)) here
      ∙ ap (λ c. cond c (does s m (doer t i) b) None) may
      ∙ ap (λ (w : Want). option_map (made m i b w (answer_to w m.memory m.since)) (blocks_after (record { strand = doer t i }) (λ c. same_name c.strand (doer t i)) w m.begun)) wants
      ∙ ap (option_map (made m i b (wanted_item t i) (answer_to (wanted_item t i) m.memory m.since))) begun
      ∙ ap (λ (g : Given). Some (made m i b (wanted_item t i) g cs)) (answers t m.memory m.since i has puts)

  -- where an act is next, its strand stands at it
  pub here_at : (c : Way Act A) (i : Act) (z : Next u [] c i) → Stops s (act_wanted t at_stop i) → at s (threads u c) (act_name t i) ≡ Some z.state
  here_at c i z g =
      let P : Want → Type 0 = λ w. Stops s w in
      ap (at s (threads u c)) z.named ∙ at_step u deep c z.after z.turns i z.state (subst P (sym z.wants) g) z.step

  pub next_threads : (m : Machine A) (c : Way Act A) (i : OrderItem) (z : Next u [] c (item i)) (cs : List Begun) → m.strands ≡ threads u c → Stops s (wanted_item t i) → (next_machine m i z.state cs).strands ≡ threads u z.after
  next_threads m c i z cs e g =
      let P : Want → Type 0 = λ w. Stops s w in
      ap (λ x. put s x (doer t i) (s.answer z.state (given_item t i))) e
      ∙ ap (λ p. put s (threads u c) p (s.answer z.state (given_item t i))) z.named
      ∙ put_step u deep c z.after z.turns (item i) z.state (subst P (sym z.wants) g) z.step

  -- the machine after items
  abbrev pub machine_after : (m : Machine A) (c : Way Act A) (is : List OrderItem) → Plays u c (map item is) → Picks t m.begun is → Machine A
  machine_after m c [] p b = m
  machine_after m c (i ∷ is) p b = machine_after (next_machine m i p.0.state b.1) p.0.after is p.1 b.3

  pub does_all : (is : List OrderItem) (c : Way Act A) (m : Machine A) → m.strands ≡ threads u c → (p : Plays u c (map item is)) (b : Picks t m.begun is) → Remembers t m.memory is → PutsBack t m.memory m.since is
      → DoesAll s t m is (machine_after m c is p b)
  does_all [] c m e p b r l = refl
  does_all (i ∷ is) c m e p b r l =
      let z = p.0 in
      let g = stops_item t m.memory s i r.0 in
      let stands : at s m.strands (doer t i) ≡ Some z.state = ap (λ x. at s x (doer t i)) e ∙ here_at c (item i) z g in (
        z.state,
        next_machine m i z.state b.1,
        stands,
        item_of t m.memory m (s.want z.state) i refl r.0 l.0 z.wants,
        picks_item m i z.state b.1 stands b.0 z.wants b.2 r.0 l.0,
        does_all is z.after (next_machine m i z.state b.1) (next_threads m c i z b.1 e g) p.1 b.3 r.1 l.1,
      )

  pub threads_after : (is : List OrderItem) (c : Way Act A) (m : Machine A) → m.strands ≡ threads u c → (p : Plays u c (map item is)) (b : Picks t m.begun is) → Remembers t m.memory is
      → (machine_after m c is p b).strands ≡ threads u (way_after u c (map item is) p)
  threads_after [] c m e p b r = e
  threads_after (i ∷ is) c m e p b r = threads_after is p.0.after (next_machine m i p.0.state b.1) (next_threads m c i p.0 b.1 e (stops_item t m.memory s i r.0)) p.1 b.3 r.1

  pub memory_of : (is : List OrderItem) (m : Machine A) (c : Way Act A) (p : Plays u c (map item is)) (b : Picks t m.begun is) → (machine_after m c is p b).memory ≡ memory_all t m.memory is
  memory_of [] m c p b = refl
  memory_of (i ∷ is) m c p b = memory_of is (next_machine m i p.0.state b.1) p.0.after p.1 b.3

  pub outputs_of : (is : List OrderItem) (m : Machine A) (c : Way Act A) (p : Plays u c (map item is)) (b : Picks t m.begun is) → (machine_after m c is p b).outputs ≡ outputs_all t m.outputs is
  outputs_of [] m c p b = refl
  outputs_of (i ∷ is) m c p b = outputs_of is (next_machine m i p.0.state b.1) p.0.after p.1 b.3
