-- A board that is closed with logs that have all nodes of a tree gives that tree in depth-first order, with its conflicts and the halt of its strand.
use Rattle.std.proofs.Common.{◌≡◌, ℕ, ◌+◌, ◌<◌, List, [], ◌∷◌, length, refl, ap, sym, ◌∙◌, arith, Bool, true, false, cond, Option, Some, None, inl, inr, nat_eq}
use Rattle.std.specs.Prelude.{◌&&◌, find, slice_get, option_map}
use Rattle.std.specs.Option.{option_map_or}
use Rattle.std.proofs.lemmas.Bool.{and_parts, cases_eq, eq-eqb, eqb-true}
use Rattle.std.proofs.lemmas.Option.{same_Some}
use Rattle.cw_tree.specs.declared.node.Node.{Node}
use Rattle.cw_tree.specs.declared.conflict.Conflict.{Conflict}
use Rattle.cw_tree.specs.declared.closed.Closed.{Closed}
use Rattle.cw_tree.specs.declared.closed.Halt.{Halt}
use Rattle.cw_tree.specs.declared.closed.Halt.TheVariants.{Fault, Budget, Memory}
use Rattle.cw_tree.specs.Nodes.{passes, number_in, is_block_kind, is_block, stamp_of, all_nodes, block_with_stamp}
use Rattle.cw_tree.specs.Walks.{IsNumbered}
use Rattle.cw_tree.specs.Series.{strand_of}
use Rattle.cw_tree.specs.NextNodes.{IsSound}
use Rattle.cw_tree.specs.Refusals.{victim_of}
use Rattle.cw_tree.specs.InOrder.{renamed, in_order, halt_in_order}
use Rattle.cw_tree.specs.OneTree.{node_by}
use Rattle.cw_tree.proofs.Lists.{In}
use Rattle.cw_tree.proofs.Members.{in_below, below_in}
use Rattle.cw_tree.proofs.InOrder.OneTree.{one_tree, one_number, one_list}
use Rattle.cw_tree.proofs.InOrder.Sound.{number_option, passes_option}
use Rattle.cw_open.proofs.Reordered.Renamed.{strand_of_renamed}
use Rattle.cw_log.specs.declared.log.Log.{Log}
use Rattle.cw_log.specs.declared.token.Stop.{Stop}
use Rattle.cw_course.specs.Closings.{base_of, tree_of, conflicts_of, last_conflict, spender, halt_in, IsPutTogether}
use Rattle.cw_course.specs.TreeLogs.{number_in_row, halt_in_tree, AreLogsOf, GivesOneTree, LogsMakeOneTree, ClosingsGiveOneTree}
use Rattle.cw_course.proofs.TreeLogs.Places.{places}
use Rattle.cw_course.proofs.TreeLogs.Nodes.{nodes, kinds, one, numbered, named_low, node_back}
use Rattle.cw_course.proofs.TreeLogs.Conflicts.{along}

pub logs_make_one_tree : LogsMakeOneTree
logs_make_one_tree t cs all nss w tree a = record {
  numbered = numbered t cs all nss w tree a;
  tree = one t cs all nss w tree a;
  kinds = kinds t cs all nss w tree a;
  conflicts = along t cs all nss w tree a;
  strands = places t cs all nss a;
}

-- ## What is found

found_is : (p : ℕ → Bool) (ns : List ℕ) (n : ℕ) → find p ns ≡ Some n → In n ns × (p n ≡ true)
found_is p [] n e = absurd (cc e)
found_is p (m ∷ ns) n e = by (p m) refl e (found_is p ns n) where
  by : (b : Bool) → p m ≡ b → cond b (Some m) (find p ns) ≡ Some n → (find p ns ≡ Some n → In n ns × (p n ≡ true)) → In n (m ∷ ns) × (p n ≡ true)
  by true is f more = (inl (sym (same_Some m n f)), ap p (sym (same_Some m n f)) ∙ is)
  by false is f more = let z = more f in (inr z.0, z.1)

find_one : (p : ℕ → Bool) (n : ℕ) (ns : List ℕ) → In n ns → p n ≡ true → ((m : ℕ) → In m ns → p m ≡ true → m ≡ n) → find p ns ≡ Some n
find_one p n [] i e same = absurd i
find_one p n (m ∷ ns) i e same = by (p m) refl (find_one p n ns) where
  by : (b : Bool) → p m ≡ b → (In n ns → p n ≡ true → ((k : ℕ) → In k ns → p k ≡ true → k ≡ n) → find p ns ≡ Some n) → cond b (Some m) (find p ns) ≡ Some n
  by true is more = ap Some (same m (inl refl) is)
  by false is more = more (elim i [ inl q ↦ absurd (cc (e, ap p q, is)) | inr j ↦ j ]) e (λ k j. same k (inr j))

find_none : (p : ℕ → Bool) (ns : List ℕ) → ((n : ℕ) → In n ns → p n ≡ true → ⊥) → find p ns ≡ None
find_none p [] h = refl
find_none p (m ∷ ns) h = by (p m) refl (find_none p ns (λ n i. h n (inr i))) where
  by : (b : Bool) → p m ≡ b → find p ns ≡ None → cond b (Some m) (find p ns) ≡ None
  by true is more = absurd (h m (inl refl) is)
  by false is more = more

abbrev begins : List Node → ℕ → ℕ → Bool
begins t v n = is_block t n && nat_eq (stamp_of t n) v

-- ## The halt

module _ (t : List Node) (cs : List Conflict) (all : List Log) (nss : List (List ℕ)) (w : IsNumbered t) (sound : IsSound t) (a : AreLogsOf t cs all nss) where
  abbrev new : List Node
  new = tree_of all

  abbrev f : ℕ → ℕ
  f = number_in_row nss

  v : IsNumbered new
  v = numbered t cs all nss w sound.tree a

  same_tree : in_order new ≡ in_order t
  same_tree = one_tree f t new w v (one t cs all nss w sound.tree a)

  same_number : (n : ℕ) → n < length t → renamed new (f n) ≡ renamed t n
  same_number = one_number f t new w v (one t cs all nss w sound.tree a)

  low : (n : ℕ) → n < length t → f n < length new
  low n h = (node_back t cs all nss w sound.tree a).0 n h

  same_strand : (n : ℕ) → n < length t → renamed new (strand_of new (f n)) ≡ renamed t (strand_of t n)
  same_strand n h =
      sym (strand_of_renamed new v (f n) (low n h))
      ∙ ap (λ u. strand_of u (renamed new (f n))) same_tree
      ∙ ap (strand_of (in_order t)) (same_number n h)
      ∙ strand_of_renamed t w n h

  same_begin : (s n : ℕ) → n < length t → begins new s (f n) ≡ begins t s n
  same_begin s n h =
      let at = nodes t cs all nss w sound.tree a n h in
      let block : is_block new (f n) ≡ is_block t n = ap (passes (λ (x : Node). is_block_kind x.kind)) at ∙ passes_option (λ (x : Node). is_block_kind x.kind) (node_by f) (λ x. refl) (slice_get t n) in
      let stamp : stamp_of new (f n) ≡ stamp_of t n = ap (number_in (λ (x : Node). x.stamp)) at ∙ number_option (λ (x : Node). x.stamp) (node_by f) (λ x. refl) (slice_get t n) in
      ap (λ b. b && nat_eq (stamp_of new (f n)) s) block ∙ ap (λ k. is_block t n && nat_eq k s) stamp

  one_block : (s n m : ℕ) → 0 < s → n < length t → m < length t → begins t s n ≡ true → begins t s m ≡ true → n ≡ m
  one_block s n m some h g e d =
      let x : stamp_of t n ≡ s = eqb-true (stamp_of t n) s (and_parts (is_block t n) (nat_eq (stamp_of t n) s) e).1 in
      let y : stamp_of t m ≡ s = eqb-true (stamp_of t m) s (and_parts (is_block t m) (nat_eq (stamp_of t m) s) d).1 in
      sound.stamps.distinct n m h g (omega (arith, some, x)) (x ∙ sym y)

  -- a block of the new tree, with its number in the old one
  was : (s k : ℕ) → In k (all_nodes new) → begins new s k ≡ true → (n : ℕ) × (n < length t) × (begins t s n ≡ true) × (f n ≡ k)
  was s k i e =
      let z = (node_back t cs all nss w sound.tree a).1 k (in_below k (length new) i) in
      (z.0, z.1, sym (same_begin s z.0 z.1) ∙ ap (begins new s) z.2 ∙ e, z.2)

  same_block : (s : ℕ) → 0 < s → block_with_stamp new s ≡ option_map f (block_with_stamp t s)
  same_block s some = by (block_with_stamp t s) refl where
    by : (o : Option ℕ) → block_with_stamp t s ≡ o → block_with_stamp new s ≡ option_map f o
    by None e = find_none (begins new s) (all_nodes new) (λ k i q. let z = was s k i q in none_there z.0 z.1 z.2 e) where
      none_there : (n : ℕ) → n < length t → begins t s n ≡ true → find (begins t s) (all_nodes t) ≡ None → ⊥
      none_there n h b none = cc (none, find_one (begins t s) n (all_nodes t) (below_in n (length t) h) b (λ m i q. one_block s m n some (in_below m (length t) i) h q b))
    by (Some n) e =
        let z = found_is (begins t s) (all_nodes t) n e in
        let h : n < length t = in_below n (length t) z.0 in
        find_one (begins new s) (f n) (all_nodes new) (below_in (f n) (length new) (low n h)) (same_begin s n h ∙ z.1)
        (λ k i q. let y = was s k i q in sym y.3 ∙ ap f (one_block s y.0 n some y.1 h y.2 z.1))

  -- the strand that spent its budget
  by_victim : (o : Option ℕ) → ((s : ℕ) → o ≡ Some s → 0 < s) → (n : ℕ) → n < length t
      → renamed new (option_map_or (λ s. option_map_or (strand_of new) (block_with_stamp new s) (f n)) o (f n)) ≡ renamed t (option_map_or (λ s. option_map_or (strand_of t) (block_with_stamp t s) n) o n)
  by_victim None some n h = same_number n h
  by_victim (Some s) some n h = ap (λ o. renamed new (option_map_or (strand_of new) o (f n))) (same_block s (some s refl)) ∙ by (block_with_stamp t s) refl where
    by : (o : Option ℕ) → block_with_stamp t s ≡ o → renamed new (option_map_or (strand_of new) (option_map f o) (f n)) ≡ renamed t (option_map_or (strand_of t) o n)
    by None e = same_number n h
    by (Some b) e = same_strand b (in_below b (length t) (found_is (begins t s) (all_nodes t) b e).0)

  victim_some : (c : Conflict) (s : ℕ) → victim_of c ≡ Some s → 0 < s
  victim_some c s e = by (nat_eq c.victim 0) refl e where
    by : (b : Bool) → nat_eq c.victim 0 ≡ b → cond b None (Some c.victim) ≡ Some s → 0 < s
    by true is g = absurd (cc g)
    by false is g = elim (cases_eq s 0) [ inl q ↦ absurd (cc (eq-eqb c.victim 0 (same_Some c.victim s g ∙ q), is)) | inr ne ↦ omega (arith, ne) ]

  same_spender : (o : Option Conflict) (n : ℕ) → n < length t → renamed new (spender new o (f n)) ≡ renamed t (spender t o n)
  same_spender None n h = same_number n h
  same_spender (Some c) n h = by_victim (victim_of c) (victim_some c) n h

  same_halt : (o : Option Conflict) (n : ℕ) (h : Halt) → n < length t → halt_in_order new (Some (halt_in_tree new o (f n) h)) ≡ halt_in_order t (Some (halt_in_tree t o n h))
  same_halt o n (Fault x kind) l = ap (λ s. Some (Fault s kind)) (same_number n l)
  same_halt o n (Budget x) l = ap (λ s. Some (Budget s)) (same_spender o n l)
  same_halt o n Memory l = refl

  halt_by : (x : Stop) (n : ℕ) → base_of all x.column + x.strand ≡ f n → halt_in all (Some x) ≡ Some (halt_in_tree new (last_conflict all x.column) (f n) x.halt)
  halt_by x n e = by x.halt where
    by : (h : Halt) → halt_in all (Some (record x { halt = h })) ≡ Some (halt_in_tree new (last_conflict all x.column) (f n) h)
    by (Fault y kind) = ap (λ s. Some (Fault s kind)) e
    by (Budget y) = ap (λ s. Some (Budget (spender new (last_conflict all x.column) s))) e
    by Memory = refl

  pub given : (stop : Option Stop) (c : Closed) → IsPutTogether all stop c → GivesOneTree t cs all nss stop c
  given stop c p = record {
    tree = p.tree ∙ same_tree;
    conflicts = p.conflicts ∙ one_list f t new cs (conflicts_of all all) w v (one t cs all nss w sound.tree a) (along t cs all nss w sound.tree a);
    whole = λ e. p.halt ∙ ap (λ o. halt_in_order new (halt_in all o)) e;
    halt = λ x n e named_so. p.halt ∙ ap (λ o. halt_in_order new (halt_in all o)) e ∙ ap (halt_in_order new) (halt_by x n (places t cs all nss a x.column x.strand n named_so))
        ∙ same_halt (last_conflict all x.column) n x.halt (named_low t cs all nss w sound.tree a x.column x.strand n named_so);
  }

pub closings_give_one_tree : ClosingsGiveOneTree
closings_give_one_tree t cs all nss stop c w sound a p = given t cs all nss w sound a stop c p
