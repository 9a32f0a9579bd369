-- While a block is begun, the order has items of strands inside it alone; and each block is ended by the strand that began it.
use Rattle.std.proofs.Common.{◌≡◌, ℕ, zero, suc, ◌<◌, List, [], ◌∷◌, ◌++◌, length, refl, ap, sym, ◌∙◌, Bool, true, cond, Option, Some, None, inl, inr, subst, append_assoc, append-nil, arith}
use Rattle.std.specs.Prelude.{◌⊎◌, ◌&&◌, slice_get}
use Rattle.std.specs.List.{flat_map}
use Rattle.std.proofs.lemmas.Bool.{and_from, cases_Bool, cases_eq}
use Rattle.cw_code.specs.declared.Back.{Back}
use Rattle.cw_tree.specs.declared.node.Node.{Node}
use Rattle.cw_tree.specs.declared.node.Kind.{Kind}
use Rattle.cw_tree.specs.declared.node.Kind.TheVariants.{Read, Write, Out, Cancel}
use Rattle.cw_tree.specs.declared.picks.Turn.{Turn}
use Rattle.cw_tree.specs.Nodes.{is_strand, is_block, is_pending, is_committed, passes}
use Rattle.cw_tree.specs.Walks.{is_ancestor, is_above}
use Rattle.cw_tree.specs.Series.{strand_of}
use Rattle.cw_tree.specs.Names.{name_of, turn}
use Rattle.cw_tree.specs.Accesses.{by_key}
use Rattle.cw_tree.proofs.Walks.Ancestors.{ancestor_above, beneath}
use Rattle.cw_tree.proofs.Lists.{In}
use Rattle.cw_serial.specs.Machine.{Begun, same_name, is_beneath, may_pick}
use Rattle.cw_serial.specs.Wants.{blocks_after}
use Rattle.cw_serial.proofs.Turns.{name_itself, beneath_more}
use Rattle.cw_record.specs.declared.items.OrderItem.{OrderItem}
use Rattle.cw_record.specs.declared.items.OrderItem.TheVariants.{Does, Ends}
use Rattle.cw_record.specs.Items.{is_act, is_act_kind, key, members, open_member, as_items, last_open, items_in}
use Rattle.cw_record.specs.Replay.{doer}
use Rattle.cw_record.proofs.Orders.Names.{name_strand, name_other, name_of_strand}
use Rattle.cw_replay.proofs.RecordsReplay.Machine.Acts.{Picks, blocks, wanted_kind, wanted_node}
use Rattle.cw_replay.proofs.RecordsReplay.Tasks.Sorts.{act_sort, committed_sort}
use Rattle.cw_replay.proofs.RecordsReplay.Ordered.Entries.{Laid, Entry, Stays, AllStay, outside, member_entry, member_kind, open_entry, level_over, Segment, Order}

-- all blocks around what stands at a level stand in the order
abbrev pub LevelStays : (t : List Node) (p : ℕ) → Laid t p → Option ℕ → Type 0
LevelStays t p g None = Unit {0}
LevelStays t p g (Some m) = AllStay t p g m

-- a cancel stands in the block of its level, which its strand began
abbrev pub CancelsStand : (t : List Node) (p : ℕ) → Laid t p → Type 0
CancelsStand t p g =
    (b : Option ℕ) (n : ℕ) (x : Node) (back : List Back) → slice_get t n ≡ Some x → x.kind ≡ Cancel back → Entry t p g b n → LevelStays t p g b → (m : ℕ) × (b ≡ Some m) × (strand_of t n ≡ strand_of t m)

-- so it is of an entry of such a level
pub entry_stays : (t : List Node) (p : ℕ) (g : Laid t p) (b : Option ℕ) (m : ℕ) → Entry t p g b m → LevelStays t p g b → AllStay t p g m
entry_stays t p g b m e l a f over = elim (cases_eq a m) [
  | inl q ↦ (let P : ℕ → Type 0 = λ x. Stays t p g x in subst P (sym q) e.stays)
  | inr ne ↦ (let z = outside t p g b m a e f over ne in let P : Option ℕ → Type 0 = λ o. LevelStays t p g o in subst P z.1 l a f z.2)
]

module _ (t : List Node) (p : ℕ) (g : Laid t p) (stand : CancelsStand t p g) where
  abbrev strand_name : ℕ → List Turn
  strand_name n = name_of t (strand_of t n)

  -- the name of a node goes on from that of each node over it
  goes_on_from : (a n : ℕ) → n < length t → is_ancestor t a n ≡ true → (r : List Turn) × (name_of t n ≡ name_of t a ++ r)
  goes_on_from a =
      beneath t g.tree.rooted a (λ n. (r : List Turn) × (name_of t n ≡ name_of t a ++ r)) ([], sym (append-nil (name_of t a)))
      (λ n q h up more. elim (cases_Bool (is_strand t n)) [
        | inl e ↦ (more.0 ++ turn t n ∷ [], name_strand t g.tree.rooted n q h e ∙ ap (λ x. x ++ turn t n ∷ []) more.1 ∙ append_assoc (name_of t a) more.0 (turn t n ∷ []))
        | inr e ↦ (more.0, name_other t g.tree.rooted n q h e ∙ more.1)
      ])

  names_beneath : (a n : ℕ) → a < length t → n < length t → is_ancestor t a n ≡ true → is_beneath (strand_name a) (strand_name n) ≡ true
  names_beneath a n ha hn e =
      let z = goes_on_from a n hn e in
      ap (λ x. is_beneath x (strand_name n)) (name_of_strand t g.tree.rooted a ha) ∙ ap (is_beneath (name_of t a)) (name_of_strand t g.tree.rooted n hn ∙ z.1) ∙ beneath_more (name_of t a) z.0

  itself : (q : List Turn) → is_beneath q q ≡ true
  itself q = ap (is_beneath q) (sym (append-nil q)) ∙ beneath_more q []

  -- ## Blocks

  abbrev begun : ℕ → List Begun → List Begun
  begun n bs = record { strand = strand_name n } ∷ bs

  -- the innermost begun block is that of the level
  abbrev Top : Option ℕ → List Begun → Type 0
  Top None bs = bs ≡ []
  Top (Some n) bs = (cs : List Begun) × (bs ≡ begun n cs)

  act_blocks : (b : Option ℕ) (n : ℕ) (bs : List Begun) → Entry t p g b n → LevelStays t p g b → Top b bs → is_act t n ≡ true → blocks t (Does n) bs ≡ Some bs
  act_blocks b n bs entry stays top e = by (slice_get t n) refl e where
    kinds : (x : Node) → slice_get t n ≡ Some x → (k : Kind) → x.kind ≡ k → is_act_kind k ≡ true → blocks_after (record { strand = doer t (Does n) }) (λ b. same_name b.strand (doer t (Does n))) (wanted_kind k) bs ≡ Some bs
    kinds x is (Read c v) q e = refl
    kinds x is (Write c v) q e = refl
    kinds x is (Out v) q e = refl
    kinds x is (Cancel back) q e =
        let (m, level, same) = stand b n x back is q entry stays in
        let P : Option ℕ → Type 0 = λ o. Top o bs in
        let z = subst P level top in
        let own : same_name (strand_name m) (strand_name n) ≡ true = ap (λ a. same_name (strand_name m) (name_of t a)) same ∙ name_itself (strand_name m) in
        ap (λ xs. blocks_after (record { strand = doer t (Does n) }) (λ b. same_name b.strand (doer t (Does n))) (wanted_kind (Cancel back)) xs) z.1
        ∙ ap (λ o. cond o (Some (begun m z.0)) None) own ∙ ap Some (sym z.1)
    kinds x is _ q e = absurd (cc e)

    by : (o : Option Node) → slice_get t n ≡ o → passes (λ x. is_act_kind x.kind) o ≡ true → blocks_after (record { strand = doer t (Does n) }) (λ b. same_name b.strand (doer t (Does n))) (wanted_node o) bs ≡ Some bs
    by None is e = absurd (cc e)
    by (Some x) is e = kinds x is x.kind refl e

  end_blocks : (n : ℕ) (bs : List Begun) → blocks t (Ends n) (begun n bs) ≡ Some bs
  end_blocks n bs = ap (λ b. cond b (Some bs) None) (name_itself (strand_name n))

  entry_pick : (b : Option ℕ) (m : ℕ) (bs : List Begun) → Entry t p g b m → Top b bs → may_pick bs (strand_name m) ≡ true
  entry_pick None m bs e q = let P : List Begun → Type 0 = λ x. may_pick x (strand_name m) ≡ true in subst P (sym q) refl
  entry_pick (Some n) m bs e q =
      let P : List Begun → Type 0 = λ x. may_pick x (strand_name m) ≡ true in
      let z = level_over t p g n m e in
      let hm = e.there in
      subst P (sym q.1) (names_beneath n m (omega (arith, z.2)) hm z.1)

  -- no pending block is right in a committed one
  pub no_open : (m : ℕ) → m < length t → is_committed t m ≡ true → open_member t p (Some m) ≡ None
  no_open m h c = by (open_member t p (Some m)) refl where
    by : (o : Option ℕ) → open_member t p (Some m) ≡ o → o ≡ None
    by None e = refl
    by (Some n) e =
        let z = open_entry t p g (Some m) n e in
        let y = level_over t p g m n z.entry in
        let done = committed_sort t m c in
        let above : is_above t m n ≡ true = sym (ancestor_above t m n (λ q. omega (arith, y.2, q))) ∙ y.1 in
        absurd (cc (g.pending_last.around m n h z.entry.there (and_from (is_pending t n && is_block t m) (is_above t m n) (and_from (is_pending t n) (is_block t m) z.pending done.block) above), done.pending))

  -- ## Levels

  abbrev Closes : ℕ → Type 0
  Closes k = (m : ℕ) (cs : List Begun) (rest : List OrderItem) → AllStay t p g m → Top (Some m) cs → open_member t p (Some m) ≡ None → Picks t cs rest → Picks t cs (items_in t p k (Some m) ++ rest)

  module _ (k : ℕ) (b : Option ℕ) (bs : List Begun) (more : Closes k) (stays : LevelStays t p g b) (top : Top b bs) where
    member_pick : (m : ℕ) → Entry t p g b m → (is_act t m ≡ true) ⊎ (is_committed t m ≡ true) → (xs : List OrderItem) → Picks t bs xs → Picks t bs (Segment t p g k m ++ xs)
    member_pick m e (inl d) xs r =
        let P : Bool → Type 0 = λ o. Picks t bs (as_items o m (items_in t p k (Some m)) ++ xs) in
        subst P (sym (act_sort t m d).block) (entry_pick b m bs e top, bs, act_blocks b m bs e stays top d, r)
    member_pick m e (inr d) xs r =
        let P : Bool → Type 0 = λ o. Picks t bs (as_items o m (items_in t p k (Some m)) ++ xs) in
        let Q : List OrderItem → Type 0 = λ ys. Picks t (begun m bs) ys in
        subst P (sym (committed_sort t m d).block) (
          entry_pick b m bs e top,
          begun m bs,
          refl,
          subst Q (sym (append_assoc (items_in t p k (Some m)) (Ends m ∷ []) xs)) (more m (begun m bs) (Ends m ∷ xs) (entry_stays t p g b m e stays) (bs, refl) (no_open m e.there d) (itself (strand_name m), bs, end_blocks m bs, r)),
        )

    members_pick : (ms : List ℕ) → ((m : ℕ) → In m ms → Entry t p g b m × ((is_act t m ≡ true) ⊎ (is_committed t m ≡ true))) → (rest : List OrderItem) → Picks t bs rest → Picks t bs (flat_map (Segment t p g k) ms ++ rest)
    members_pick [] e rest r = r
    members_pick (m ∷ ms) e rest r =
        let P : List OrderItem → Type 0 = λ xs. Picks t bs xs in
        let z = e m (inl refl) in
        subst P (sym (append_assoc (Segment t p g k m) (flat_map (Segment t p g k) ms) rest)) (member_pick m z.0 z.1 (flat_map (Segment t p g k) ms ++ rest) (members_pick ms (λ n h. e n (inr h)) rest r))

    level_members : (rest : List OrderItem) → Picks t bs rest → Picks t bs (flat_map (Segment t p g k) (by_key (key t) (members t b)) ++ rest)
    level_members = members_pick (by_key (key t) (members t b)) (λ m h. (member_entry t p g b m h, member_kind t p g b m h))

  closed_pick : (k : ℕ) → Closes k
  closed_pick zero m cs rest stays top o r = r
  closed_pick (suc k) m cs rest stays top o r =
      let P : List OrderItem → Type 0 = λ xs. Picks t cs xs in
      let Q : Option ℕ → Type 0 = λ q. Picks t cs (last_open q (items_in t p k q) ++ rest) in
      subst P (sym (append_assoc (flat_map (Segment t p g k) (by_key (key t) (members t (Some m)))) (last_open (open_member t p (Some m)) (items_in t p k (open_member t p (Some m)))) rest))
      (level_members k (Some m) cs (closed_pick k) stays top (last_open (open_member t p (Some m)) (items_in t p k (open_member t p (Some m))) ++ rest) (subst Q (sym o) r))

  level_picks : (k : ℕ) (b : Option ℕ) (bs : List Begun) → LevelStays t p g b → Top b bs → Picks t bs (items_in t p k b)
  level_picks zero b bs stays top = tt
  level_picks (suc k) b bs stays top =
      level_members k b bs (closed_pick k) stays top (last_open (open_member t p b) (items_in t p k (open_member t p b))) (by (open_member t p b) refl (λ m cs. level_picks k (Some m) cs)) where
        by : (o : Option ℕ) → open_member t p b ≡ o → ((m : ℕ) (cs : List Begun) → AllStay t p g m → Top (Some m) cs → Picks t cs (items_in t p k (Some m))) → Picks t bs (last_open o (items_in t p k o))
        by None e more = tt
        by (Some m) e more = (entry_pick b m bs (open_entry t p g b m e).entry top, begun m bs, refl, more m (begun m bs) (entry_stays t p g b m (open_entry t p g b m e).entry stays) (bs, refl))

  -- each item of the order may be picked where it comes
  pub order_picks : Picks t [] (Order t p g)
  order_picks = level_picks (length t) None [] tt refl
