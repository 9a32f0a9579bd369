-- The machine that does items of a tree has put out what their nodes show.
use Rattle.std.proofs.Common.{◌≡◌, ℕ, ℤ, zero, suc, List, [], ◌∷◌, ◌++◌, refl, ap, sym, ◌∙◌, Bool, true, false, Option, Some, None, append_assoc, append-nil}
use Rattle.std.specs.Prelude.{◌&&◌, All, slice_get, option_map, if◌then◌else◌}
use Rattle.std.specs.List.{flat_map}
use Rattle.std.proofs.lemmas.Bool.{and_parts}
use Rattle.std.proofs.lemmas.List.Elements.{All-nil, All-cons, All-append, All-push, All-head, All-tail}
use Rattle.std.proofs.lemmas.Option.{same_Some}
use Rattle.cw_strand.specs.declared.want.Want.{Want}
use Rattle.cw_strand.specs.Strands.{Strands}
use Rattle.cw_tree.specs.declared.node.Node.{Node}
use Rattle.cw_tree.specs.declared.node.Kind.{Kind}
use Rattle.cw_tree.specs.declared.node.Kind.TheVariants.{Block, Read, Write, Out, Cancel}
use Rattle.cw_tree.specs.declared.picks.Turn.{Turn}
use Rattle.cw_tree.specs.Nodes.{passes, is_block, is_block_kind, is_pending}
use Rattle.cw_tree.specs.Walks.{path}
use Rattle.cw_tree.specs.Accesses.{by_key}
use Rattle.cw_tree.proofs.NodeKinds.{pending_block}
use Rattle.cw_serial.specs.StrandTree.{at, put}
use Rattle.cw_serial.specs.Machine.{Machine, Begun, may_pick, same_name, pick_at, pick}
use Rattle.cw_serial.specs.Wants.{Since, answer_to, memory_after, outputs_after, blocks_after, since_after}
use Rattle.cw_record.specs.declared.items.OrderItem.{OrderItem}
use Rattle.cw_record.specs.declared.items.OrderItem.TheVariants.{Begins, Does, Ends}
use Rattle.cw_record.specs.Coherent.{outputs_shown, shown_kind, shown_node}
use Rattle.cw_record.specs.Items.{is_right_in, key, members, open_member, as_items, last_open, items_in}
use Rattle.cw_record.specs.Order.{node_of}
use Rattle.cw_record.specs.Replay.{doer, IsAct, IsActOf, IsItemDone, DoesAll}
use Rattle.cw_record.proofs.Lists.{find_passes}

-- ## What begins and ends is a block

module _ (t : List Node) where
  abbrev OfBlock : OrderItem → Type 0
  OfBlock (Begins n) = is_block t n ≡ true
  OfBlock (Does n) = Unit {0}
  OfBlock (Ends n) = is_block t n ≡ true

  as_items_blocks : (b : Bool) (n : ℕ) (inner : List OrderItem) → is_block t n ≡ b → All OfBlock inner → All OfBlock (as_items b n inner)
  as_items_blocks true n inner e inside = All-cons OfBlock (Begins n) (inner ++ Ends n ∷ []) e (All-push OfBlock inner (Ends n) inside e)
  as_items_blocks false n inner e inside = All-cons OfBlock (Does n) [] tt (All-nil OfBlock)

  flat_blocks : (ns : List ℕ) (inner : ℕ → List OrderItem) → ((n : ℕ) → All OfBlock (inner n)) → All OfBlock (flat_map (λ n. as_items (is_block t n) n (inner n)) ns)
  flat_blocks [] inner inside = All-nil OfBlock
  flat_blocks (n ∷ ns) inner inside =
      All-append OfBlock (as_items (is_block t n) n (inner n)) (flat_map (λ m. as_items (is_block t m) m (inner m)) ns) (as_items_blocks (is_block t n) n (inner n) refl (inside n)) (flat_blocks ns inner inside)

  open_blocks : (p : ℕ) (b o : Option ℕ) (inner : List OrderItem) → open_member t p b ≡ o → All OfBlock inner → All OfBlock (last_open o inner)
  open_blocks p b None inner e inside = All-nil OfBlock
  open_blocks p b (Some n) inner e inside =
      let passed = and_parts (is_pending t n) (is_right_in t b n) (find_passes (λ m. is_pending t m && is_right_in t b m) (path t p) n e) in
      All-cons OfBlock (Begins n) inner (pending_block t n passed.0) inside

  items_blocks : (p k : ℕ) (b : Option ℕ) → All OfBlock (items_in t p k b)
  items_blocks p zero b = All-nil OfBlock
  items_blocks p (suc k) b =
      let o = open_member t p b in
      All-append OfBlock (flat_map (λ n. as_items (is_block t n) n (items_in t p k (Some n))) (by_key (key t) (members t b))) (last_open o (items_in t p k o))
      (flat_blocks (by_key (key t) (members t b)) (λ n. items_in t p k (Some n)) (λ n. items_blocks p k (Some n)))
      (open_blocks p b o (items_in t p k o) refl (items_blocks p k o))

-- ## What is put out

block_kind_shows : (k : Kind) → is_block_kind k ≡ true → shown_kind k ≡ []
block_kind_shows Block e = refl
block_kind_shows _ e = absurd (cc e)

pub block_shows : (o : Option Node) → passes (λ x. is_block_kind x.kind) o ≡ true → shown_node o ≡ []
block_shows None e = refl
block_shows (Some x) e = block_kind_shows x.kind e

act_shows : (memory : List ℤ) (since : List Since) (outputs : List ℤ) (w : Want) (k : Kind) → IsAct memory since w k → outputs_after w outputs ≡ outputs ++ shown_kind k
act_shows memory since outputs w (Read c v) h = ap (λ x. outputs_after x outputs) h.0 ∙ sym (append-nil outputs)
act_shows memory since outputs w (Write c v) h = ap (λ x. outputs_after x outputs) h ∙ sym (append-nil outputs)
act_shows memory since outputs w (Out v) h = ap (λ x. outputs_after x outputs) h
act_shows memory since outputs w (Cancel back) h = ap (λ x. outputs_after x outputs) h.0 ∙ sym (append-nil outputs)
act_shows memory since outputs w _ h = absurd h

act_of_shows : (memory : List ℤ) (since : List Since) (outputs : List ℤ) (w : Want) (o : Option Node) → IsActOf memory since w o → outputs_after w outputs ≡ outputs ++ shown_node o
act_of_shows memory since outputs w None h = absurd h
act_of_shows memory since outputs w (Some x) h = act_shows memory since outputs w x.kind h

module _ {A : Type 0} (s : Strands A) where
  -- a pick puts out what its strand wants put out
  picked_outputs : (m n : Machine A) (p : List Turn) (a : A) → at s m.strands p ≡ Some a → pick s m p ≡ Some n → n.outputs ≡ outputs_after (s.want a) m.outputs
  picked_outputs m n p a stands picked =
      by (may_pick m.begun p) (blocks_after (record { strand = p }) (λ (b : Begun). same_name b.strand p) (s.want a) m.begun) (sym (ap (pick_at s m p) stands) ∙ picked) where
        after : List Begun → Machine A
        after blocks = record { memory = memory_after (s.want a) m.memory; outputs = outputs_after (s.want a) m.outputs; strands = put s m.strands p (s.answer a (answer_to (s.want a) m.memory m.since)); begun = blocks; since = since_after (s.want a) m.memory m.since }

        by : (b : Bool) (o : Option (List Begun)) → (if b then option_map after o else None) ≡ Some n → n.outputs ≡ outputs_after (s.want a) m.outputs
        by false o e = absurd (cc e)
        by true None e = absurd (cc e)
        by true (Some blocks) e = sym (ap (λ x. x.outputs) (same_Some (after blocks) n e))

  module _ (t : List Node) where
    item_shows : (m : Machine A) (w : Want) (i : OrderItem) → OfBlock t i → IsItemDone t m w i → outputs_after w m.outputs ≡ m.outputs ++ shown_node (slice_get t (node_of i))
    item_shows m w (Begins n) b h = ap (λ x. outputs_after x m.outputs) h ∙ (sym (append-nil m.outputs) ∙ ap (λ vs. m.outputs ++ vs) (sym (block_shows (slice_get t n) b)))
    item_shows m w (Does n) b h = act_of_shows m.memory m.since m.outputs w (slice_get t n) h
    item_shows m w (Ends n) b h = ap (λ x. outputs_after x m.outputs) h ∙ (sym (append-nil m.outputs) ∙ ap (λ vs. m.outputs ++ vs) (sym (block_shows (slice_get t n) b)))

    all_shown : (m n : Machine A) (is : List OrderItem) → All (OfBlock t) is → DoesAll s t m is n → n.outputs ≡ m.outputs ++ outputs_shown t is
    all_shown m n [] all h = sym (ap (λ x. x.outputs) h) ∙ sym (append-nil m.outputs)
    all_shown m n (i ∷ is) all (a, u, stands, item, picked, more) =
        all_shown u n is (All-tail (OfBlock t) i is all) more
        ∙ ap (λ vs. vs ++ outputs_shown t is) (picked_outputs m u (doer t i) a stands picked ∙ item_shows m (s.want a) i (All-head (OfBlock t) i is all) item)
        ∙ append_assoc m.outputs (shown_node (slice_get t (node_of i))) (outputs_shown t is)

    -- the outputs of the machine behind all items of a run, at whatever place it came to its end
    pub items_shown : (m n : Machine A) (p k : ℕ) → m.outputs ≡ [] → DoesAll s t m (items_in t p k None) n → n.outputs ≡ outputs_shown t (items_in t p k None)
    items_shown m n p k none h = all_shown m n (items_in t p k None) (items_blocks t p k None) h ∙ ap (λ vs. vs ++ outputs_shown t (items_in t p k None)) none
