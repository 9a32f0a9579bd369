-- The machine that does all items of a tree, one after another, is the one to which their picks lead.
use Rattle.std.proofs.Common.{◌≡◌, ℕ, ℤ, suc, ◌+◌, List, [], ◌∷◌, length, map, refl, ap, sym, ◌∙◌, subst, arith, true, Some}
use Rattle.std.specs.Prelude.{All, ◌↔◌, IsTrue}
use Rattle.std.proofs.lemmas.List.Elements.{All-head, All-tail, All-weaker}
use Rattle.std.proofs.lemmas.List.{length-map}
use Rattle.cw_strand.specs.Names.{first_memory}
use Rattle.cw_strand.specs.Strands.{Strands}
use Rattle.cw_tree.specs.declared.node.Node.{Node}
use Rattle.cw_tree.specs.declared.conflict.Conflict.{Conflict}
use Rattle.cw_tree.specs.declared.picks.Name.{Name}
use Rattle.cw_tree.specs.declared.picks.Turn.{Turn}
use Rattle.cw_tree.specs.declared.picks.Picks.{Picks}
use Rattle.cw_tree.specs.Nodes.{is_strand}
use Rattle.cw_tree.specs.Walks.{IsRooted}
use Rattle.cw_serial.specs.Machine.{Machine, pick, steps_down, machine_shows, play, initial, serial_end}
use Rattle.cw_serial.specs.MachineOf.{end_under}
use Rattle.cw_job.specs.Room.Strands.{strands_of_job}
use Rattle.cw_record.specs.declared.items.OrderItem.{OrderItem}
use Rattle.cw_record.specs.declared.record.Record.{Record}
use Rattle.cw_record.specs.declared.record_end.RecordEnd.{RecordEnd}
use Rattle.cw_record.specs.Items.{items}
use Rattle.cw_record.specs.Order.{pick_of, order_of, ending_strand}
use Rattle.cw_record.specs.Replay.{doer, DoesAll, SameEnd, Replays}
use Rattle.cw_record.specs.Records.{IsReplayed, job_of_record}
use Rattle.cw_record.specs.Replaying.{ItemsAreDone}
use Rattle.cw_record.proofs.Orders.ItemsThere.{OfTree, items_there}
use Rattle.cw_record.proofs.Walked.Named.{item_turns}

module _ {A : Type 0} (s : Strands A) (t : List Node) where
  module _ (names : List Name) (last : ℕ) where
    -- the pick of an item is of the strand that did it
    abbrev IsNamed : OrderItem → Type 0
    IsNamed i = steps_down names (pick_of t i) ≡ Some (doer t i)

    one_play : (m n : Machine A) (x : ℕ) (xs : List ℕ) (p : List Turn) (place : ℕ) → steps_down names x ≡ Some p → pick s m p ≡ Some n → play s m names (x ∷ xs) last place ≡ play s n names xs last (suc place)
    one_play m n x xs p place e f = rw (e, f) refl

    plays_through : (m n : Machine A) (is : List OrderItem) → All IsNamed is → DoesAll s t m is n → (place : ℕ) → play s m names (map (pick_of t) is) last place ≡ machine_shows s n names last (place + length is)
    plays_through m n [] h e place = ap (λ x. machine_shows s x names last place) e ∙ ap (machine_shows s n names last) (omega arith)
    plays_through m n (i ∷ is) h (a, o, stood, item, picked, more) place =
        one_play m o (pick_of t i) (map (pick_of t) is) (doer t i) place (All-head IsNamed i is h) picked
        ∙ plays_through o n is (All-tail IsNamed i is h) more (suc place)
        ∙ ap (machine_shows s n names last) (omega arith)

  module _ (rooted : IsRooted t) (root : is_strand t 0 ≡ true) (first : List ℤ) (budget : ℕ) (cs : List Conflict) (e : RecordEnd) where
    -- so its end under the picks is what that machine shows
    pub end_shown : (n : Machine A) (picks : Picks) → picks ≡ order_of t cs budget e → DoesAll s t (initial s first) (items t cs budget e) n → serial_end s first picks ≡ machine_shows s n picks.names picks.last (length picks.list)
    end_shown n picks is does =
        let all = items t cs budget e in
        let order = order_of t cs budget e in
        let P : Picks → Type 0 = λ o. serial_end s first o ≡ machine_shows s n o.names o.last (length o.list) in
        subst P (sym is)
        (plays_through order.names order.last (initial s first) n all (All-weaker (OfTree t) (IsNamed order.names order.last) (λ i h. item_turns t rooted root i h) all (items_there t _ _ _)) does 0
        ∙ ap (machine_shows s n order.names order.last) (omega (arith, length-map all (pick_of t))))

    -- the machine comes to the end of a record that replays
    pub replay_ends : (picks : Picks) → Replays s first budget t cs picks e → SameEnd e picks (serial_end s first picks)
    replay_ends picks r = subst (SameEnd e picks) (sym (end_shown r.machine picks r.order r.acts)) r.end

-- ## Records

module _ (r : Record) (rooted : IsRooted r.tree) (root : is_strand r.tree 0 ≡ true) where
  -- a record that replays has the end of the machine under its order
  pub same_end : IsReplayed r → SameEnd r.end r.order (end_under (job_of_record r) r.order)
  same_end h = replay_ends (strands_of_job (job_of_record r)) r.tree rooted root (first_memory r.program.cells) r.limits.aborts r.conflicts r.end r.order h

  -- one that has it replays exactly where its items are done
  pub replays_if_done : IsTrue (is_strand r.tree (ending_strand r.end)) → r.order ≡ order_of r.tree r.conflicts r.limits.aborts r.end → SameEnd r.end r.order (end_under (job_of_record r) r.order) → ItemsAreDone r ↔ IsReplayed r
  replays_if_done strand order end = (
    λ h. record {
      strand = strand;
      order = order;
      machine = h.0;
      acts = h.1;
      end = subst (SameEnd r.end r.order) (end_shown (strands_of_job (job_of_record r)) r.tree rooted root (first_memory r.program.cells) r.limits.aborts r.conflicts r.end h.0 r.order order h.1) end;
      spent = h.2;
    },
    λ h. (h.machine, h.acts, h.spent),
  )
