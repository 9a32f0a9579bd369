-- In an order that keeps the journals' order, each read finds its value.
use Rattle.std.proofs.Common.{◌≡◌, ℕ, ℤ, ◌<◌, List, [], ◌∷◌, ◌++◌, append_assoc, length, refl, ap, sym, ◌∙◌, arith, Bool, true, Option, Some, None, inl, inr, subst, map, nat_eq, length-set}
use Rattle.std.specs.Prelude.{◌⊎◌, ◌&&◌, slice_get, slice_set, unwrap_or, pos}
use Rattle.std.specs.List.{filter}
use Rattle.std.proofs.lemmas.List.{map-append}
use Rattle.std.proofs.lemmas.Bool.{and_parts, and_from, cases_eq, eqb-true, eq-eqb, ltb-true}
use Rattle.cw_tree.specs.declared.node.Node.{Node}
use Rattle.cw_tree.specs.declared.node.Kind.{Kind}
use Rattle.cw_tree.specs.declared.node.Kind.TheVariants.{Read, Write, Out, Cancel}
use Rattle.cw_tree.specs.declared.access.Entry.{Entry}
use Rattle.cw_tree.specs.Nodes.{touches, touches_kind, passes, all_nodes, stamp_of}
use Rattle.cw_tree.specs.Accesses.{is_live, live_accesses, cell_value, written, read, value_in, written_kind, read_kind}
use Rattle.cw_tree.specs.Journals.{AreEntries, FitsCells, fits_cells}
use Rattle.cw_tree.proofs.ChainLaws.Entries.{cell_value_more}
use Rattle.cw_tree.proofs.Members.{in_append, in_filter, filter_in, below_in}
use Rattle.cw_tree.proofs.Lists.{In}
use Rattle.cw_tree.proofs.Ahead.{Ahead}
use Rattle.cw_tree.proofs.InOrder.Keys.{by_key_in, in_by_key}
use Rattle.cw_job.specs.Memory.{value_at}
use Rattle.cw_serial.specs.Wants.{memory_after}
use Rattle.cw_serial.proofs.Numbers.{get_some}
use Rattle.cw_serial.proofs.Numbered.{set_here, set_elsewhere}
use Rattle.cw_record.specs.declared.items.OrderItem.{OrderItem}
use Rattle.cw_record.specs.declared.items.OrderItem.TheVariants.{Begins, Does, Ends}
use Rattle.cw_record.specs.Items.{is_act, is_act_kind}
use Rattle.cw_record.specs.Order.{node_of}
use Rattle.cw_replay.proofs.RecordsReplay.Machine.Acts.{HasKind, HasNode, HasItem, Remembers, wanted_kind, wanted_node, wanted_item, memory_all}
use Rattle.cw_replay.proofs.RecordsReplay.Work.Orders.{Respects, SeenAfter}

-- each read has the value that the accesses before it left
abbrev pub ReadBack : List Node → ℤ → List ℕ → Type 0
ReadBack t v [] = Unit {0}
ReadBack t v (u ∷ us) = ((x : ℤ) → read t u ≡ Some x → x ≡ v) × ReadBack t (unwrap_or (written t u) v) us

pub read_back : (t : List Node) (v : ℤ) (us : List ℕ) (es : List Entry) → AreEntries t v us es → ReadBack t v us
read_back t v [] es j = tt
read_back t v (u ∷ us) [] j = absurd j
read_back t v (u ∷ us) (e ∷ es) j = (j.0.read, read_back t (unwrap_or (written t u) v) us es j.1)

module _ (t : List Node) where
  abbrev accesses : ℕ → ℕ → Bool
  accesses c n = touches t c n && is_live t n

  -- what an access of a journal is
  pub of_journal : (c u : ℕ) → In u (live_accesses t c) → In u (all_nodes t) × (touches t c u ≡ true) × (is_live t u ≡ true)
  of_journal c u h = let z = in_filter (accesses c) u (all_nodes t) (by_key_in (stamp_of t) u (filter (accesses c) (all_nodes t)) h) in let y = and_parts (touches t c u) (is_live t u) z.1 in (z.0, y.0, y.1)

  pub in_journal : (c n : ℕ) → n < length t → touches t c n ≡ true → is_live t n ≡ true → In n (live_accesses t c)
  in_journal c n h e f = in_by_key (stamp_of t) n (filter (accesses c) (all_nodes t)) (filter_in (accesses c) n (all_nodes t) (below_in n (length t) h) (and_from (touches t c n) (is_live t n) e f))

module _ (t : List Node) (cells : ℕ) (fits : FitsCells t cells) where
  -- an access earlier than another in a journal
  pub data Precedes (i j : OrderItem) : Type 0 where
    precedes : (c u n : ℕ) → c < cells → i ≡ Does u → j ≡ Does n → Ahead u n (live_accesses t c) → Precedes i j

  -- an act of the order is live
  abbrev pub There : OrderItem → Type 0
  There (Does n) = (n < length t) × (is_act t n ≡ true) × (is_live t n ≡ true)
  There i = Unit {0}

  -- how far a cell's journal has come, and the cell's value
  pub record Track (start : ℤ) (seen : OrderItem → Type 0) (mem : List ℤ) (c : ℕ) : Type 0 where
    -- what was done of it, and what is left
    pub done : List ℕ
    pub left : List ℕ
    pub whole : done ++ left ≡ live_accesses t c
    pub did : (u : ℕ) → In u done → seen (Does u)
    pub value : ℤ
    pub memory : slice_get mem c ≡ Some value
    pub back : ReadBack t value left
    pub unseen : (u : ℕ) → In u left → seen (Does u) → ⊥
    pub all : (u : ℕ) → In u (live_accesses t c) → (seen (Does u) → ⊥) → In u left
    pub part : (u : ℕ) → In u left → In u (live_accesses t c)
    pub order : (u n : ℕ) → Ahead u n left → Ahead u n (live_accesses t c)
    pub spent : cell_value start (map (written t) done) ≡ value

  abbrev pub Tracks : (ℕ → ℤ) → (OrderItem → Type 0) → List ℤ → Type 0
  Tracks start seen mem = (c : ℕ) → c < cells → Track (start c) seen mem c

  abbrev Also : OrderItem → (OrderItem → Type 0) → OrderItem → Type 0
  Also j seen i = (i ≡ j) ⊎ seen i

  -- an item that is no access of the cell changes nothing for it
  other : (start : ℤ) (seen : OrderItem → Type 0) (mem after : List ℤ) (c : ℕ) (j : OrderItem) → Track start seen mem c → slice_get after c ≡ slice_get mem c → ((u : ℕ) → In u (live_accesses t c) → Does u ≡ j → ⊥) → Track start (Also j seen) after c
  other start seen mem after c j k e n = record {
    done = k.done;
    left = k.left;
    whole = k.whole;
    did = λ u h. inr (k.did u h);
    value = k.value;
    memory = e ∙ k.memory;
    back = k.back;
    unseen = λ u h s. elim s [ inl q ↦ n u (k.part u h) q | inr y ↦ k.unseen u h y ];
    all = λ u h s. k.all u h (λ y. s (inr y));
    part = k.part;
    order = k.order;
    spent = k.spent;
  }

  -- the access that comes next in the order comes next in the journal
  record Head (left : List ℕ) (n : ℕ) : Type 0 where
    pub rest : List ℕ
    pub is : left ≡ n ∷ rest

  head_of : (c n : ℕ) (seen : OrderItem → Type 0) (left : List ℕ) → c < cells → ((u : ℕ) → In u left → seen (Does u) → ⊥) → ((u m : ℕ) → Ahead u m left → Ahead u m (live_accesses t c)) → In n left → ((i : OrderItem) → Precedes i (Does n) → seen i) → Head left n
  head_of c n seen [] hc w o h r = absurd h
  head_of c n seen (x ∷ xs) hc w o (inl q) r = record { rest = xs; is = ap (λ y. y ∷ xs) (sym q) }
  head_of c n seen (x ∷ xs) hc w o (inr h) r = absurd (w x (inl refl) (r (Does x) (precedes c x n hc refl refl (o x n (inl (refl, h))))))

  module _ (start : ℕ → ℤ) (never_itself : (c u : ℕ) → Ahead u u (live_accesses t c) → ⊥) where
    -- the cell of an access after it
    accessed : (seen : OrderItem → Type 0) (mem after : List ℤ) (c n : ℕ) (k : Track (start c) seen mem c) (h : Head k.left n) → slice_get after c ≡ Some (unwrap_or (written t n) k.value) → Track (start c) (Also (Does n) seen) after c
    accessed seen mem after c n k h e =
        let B : List ℕ → Type 0 = λ xs. ReadBack t k.value xs in
        record {
          done = k.done ++ n ∷ [];
          left = h.rest;
          whole = append_assoc k.done (n ∷ []) h.rest ∙ ap (λ xs. k.done ++ xs) (sym h.is) ∙ k.whole;
          did = λ u g. elim (in_append u k.done (n ∷ []) g) [ inl d ↦ inr (k.did u d) | inr d ↦ elim d [ inl q ↦ inl (ap Does q) | inr z ↦ absurd z ] ];
          value = unwrap_or (written t n) k.value;
          memory = e;
          back = (subst B h.is k.back).1;
          unseen = λ u g s. elim s [
            | inl q ↦
                (let P : ℕ → Type 0 = λ x. In x h.rest in
                let Q : List ℕ → Type 0 = λ xs. Ahead n n xs in
                never_itself c n (k.order n n (subst Q (sym h.is) (inl (refl, subst P (ap node_of q) g)))))
            | inr y ↦ k.unseen u (rest u g) y
          ];
          all = λ u g s. (let Q : List ℕ → Type 0 = λ xs. In u xs in elim (subst Q h.is (k.all u g (λ y. s (inr y)))) [ inl q ↦ absurd (s (inl (ap Does q))) | inr y ↦ y ]);
          part = λ u g. k.part u (rest u g);
          order = λ a b z. k.order a b (let Q : List ℕ → Type 0 = λ xs. Ahead a b xs in subst Q (sym h.is) (inr z));
          spent = ap (cell_value (start c)) (map-append (written t) k.done (n ∷ [])) ∙ cell_value_more (start c) (map (written t) k.done) (written t n) ∙ ap (unwrap_or (written t n)) k.spent;
        } where
          rest : (u : ℕ) → In u h.rest → In u k.left
          rest u g = let Q : List ℕ → Type 0 = λ xs. In u xs in subst Q (sym h.is) (inr g)

    -- an act of a kind
    record ActOf (n : ℕ) (kind : Kind) : Type 0 where
      pub there : n < length t
      pub lives : is_live t n ≡ true
      pub touched : (c : ℕ) → touches t c n ≡ touches_kind c kind
      pub cell : fits_cells cells kind ≡ true
      pub reads : read t n ≡ read_kind kind
      pub writes : written t n ≡ written_kind kind

    -- after an access of cell d
    after_access : (seen : OrderItem → Type 0) (mem after : List ℤ) (n d : ℕ) → Tracks start seen mem → ((c : ℕ) → touches t c n ≡ nat_eq d c) → ((k : Track (start d) seen mem d) → slice_get after d ≡ Some (unwrap_or (written t n) k.value))
        → ((c : ℕ) → (c ≡ d → ⊥) → slice_get after c ≡ slice_get mem c) → ((k : Track (start d) seen mem d) → Head k.left n) → Tracks start (Also (Does n) seen) after
    after_access seen mem after n d k e f o h c hc = by (cases_eq d c) where
      by : (d ≡ c) ⊎ (d ≡ c → ⊥) → Track (start c) (Also (Does n) seen) after c
      by (inl q) =
          let P : ℕ → Type 0 = λ x. Track (start x) (Also (Does n) seen) after x in
          let hd : d < cells = omega (arith, q, hc) in
          subst P q (accessed seen mem after d n (k d hd) (h (k d hd)) (f (k d hd)))
      by (inr ne) = other (start c) seen mem after c (Does n) (k c hc) (o c (λ q. ne (sym q)))
          (λ u g q. let T : ℕ → Type 0 = λ x. touches t c x ≡ true in ne (eqb-true d c (sym (e c) ∙ subst T (ap node_of q) (of_journal t c u g).1)))

    unchanged : (seen : OrderItem → Type 0) (mem : List ℤ) (j : OrderItem) → Tracks start seen mem → ((c u : ℕ) → In u (live_accesses t c) → Does u ≡ j → ⊥) → Tracks start (Also j seen) mem
    unchanged seen mem j k n c hc = other (start c) seen mem mem c j (k c hc) refl (n c)

    pub value_is : (mem : List ℤ) (c : ℕ) (v : ℤ) → slice_get mem c ≡ Some v → value_at mem c ≡ v
    value_is mem c v e = ap (λ o. unwrap_or o (pos 0)) e

    -- an act can be done, and the journals go on
    does_kind : (seen : OrderItem → Type 0) (mem : List ℤ) (n : ℕ) (kind : Kind) → Tracks start seen mem → ActOf n kind → is_act_kind kind ≡ true → ((i : OrderItem) → Precedes i (Does n) → seen i) → (seen (Does n) → ⊥)
        → HasKind mem kind × Tracks start (Also (Does n) seen) (memory_after (wanted_kind kind) mem)
    does_kind seen mem n (Read d w) k z a r s =
        let hd : d < cells = ltb-true d cells z.cell in
        let head = λ (y : Track (start d) seen mem d). head_of d n seen y.left hd y.unseen y.order (y.all n (in_journal t d n z.there (z.touched d ∙ eq-eqb d d refl) z.lives) s) r in
        let y = k d hd in
        let B : List ℕ → Type 0 = λ xs. ReadBack t y.value xs in
        let same : w ≡ y.value = (subst B (head y).is y.back).0 w z.reads in
        (value_is mem d y.value y.memory ∙ sym same, after_access seen mem mem n d k z.touched (λ y. y.memory ∙ ap (λ o. Some (unwrap_or o y.value)) (sym z.writes)) (λ c ne. refl) head)
    does_kind seen mem n (Write d w) k z a r s =
        let hd : d < cells = ltb-true d cells z.cell in
        let head = λ (y : Track (start d) seen mem d). head_of d n seen y.left hd y.unseen y.order (y.all n (in_journal t d n z.there (z.touched d ∙ eq-eqb d d refl) z.lives) s) r in
        (tt, after_access seen mem (slice_set mem d w) n d k z.touched (λ y. set_here mem d y.value w y.memory ∙ ap (λ o. Some (unwrap_or o y.value)) (sym z.writes)) (λ c ne. set_elsewhere mem d c w (λ q. ne (sym q))) head)
    does_kind seen mem n (Out w) k z a r s =
        (tt, unchanged seen mem (Does n) k (λ c u h q. let T : ℕ → Type 0 = λ x. touches t c x ≡ true in absurd (cc (subst T (ap node_of q) (of_journal t c u h).1, z.touched c))))
    does_kind seen mem n (Cancel back) k z a r s =
        (tt, unchanged seen mem (Does n) k (λ c u h q. let T : ℕ → Type 0 = λ x. touches t c x ≡ true in absurd (cc (subst T (ap node_of q) (of_journal t c u h).1, z.touched c))))
    does_kind seen mem n _ k z a r s = absurd (cc a)

    one : (seen : OrderItem → Type 0) (mem : List ℤ) (i : OrderItem) → Tracks start seen mem → There i → ((j : OrderItem) → Precedes j i → seen j) → (seen i → ⊥) → HasItem t mem i × Tracks start (Also i seen) (memory_after (wanted_item t i) mem)
    one seen mem (Begins n) k z r s = (tt, unchanged seen mem (Begins n) k (λ c u h q. absurd (cc q)))
    one seen mem (Ends n) k z r s = (tt, unchanged seen mem (Ends n) k (λ c u h q. absurd (cc q)))
    one seen mem (Does n) k z r s =
        let x = get_some t n z.0 in
        let e = x.1 in
        let y = does_kind seen mem n x.0.kind k (record {
          there = z.0;
          lives = z.2;
          touched = λ c. ap (passes (λ x. touches_kind c x.kind)) e;
          cell = sym (ap (passes (λ x. fits_cells cells x.kind)) e) ∙ fits n z.0;
          reads = ap (value_in read_kind) e;
          writes = ap (value_in written_kind) e;
        }) (sym (ap (passes (λ x. is_act_kind x.kind)) e) ∙ z.1) r s in
        let P : Option Node → Type 0 = λ o. HasNode mem o × Tracks start (Also (Does n) seen) (memory_after (wanted_node o) mem) in
        subst P (sym e) y

    pub remembers : (is : List OrderItem) (seen : OrderItem → Type 0) (mem : List ℤ) → Tracks start seen mem → Respects Precedes There seen is → Remembers t mem is
    remembers [] seen mem k r = tt
    remembers (i ∷ is) seen mem k r = let y = one seen mem i k r.0 r.1 r.2 in (y.0, remembers is (Also i seen) (memory_after (wanted_item t i) mem) y.1 r.3)

    pub tracks_after : (is : List OrderItem) (seen : OrderItem → Type 0) (mem : List ℤ) → Tracks start seen mem → Respects Precedes There seen is → Tracks start (SeenAfter seen is) (memory_all t mem is)
    tracks_after [] seen mem k r = k
    tracks_after (i ∷ is) seen mem k r = tracks_after is (Also i seen) (memory_after (wanted_item t i) mem) (one seen mem i k r.0 r.1 r.2).1 r.3

-- an item leaves as many cells
pub memory_length : (t : List Node) (is : List OrderItem) (mem : List ℤ) → length (memory_all t mem is) ≡ length mem
memory_length t [] mem = refl
memory_length t (i ∷ is) mem = memory_length t is (memory_after (wanted_item t i) mem) ∙ by i where
  kinds : (k : Kind) → length (memory_after (wanted_kind k) mem) ≡ length mem
  kinds (Write c v) = length-set mem c v
  kinds _ = refl

  nodes : (o : Option Node) → length (memory_after (wanted_node o) mem) ≡ length mem
  nodes None = refl
  nodes (Some x) = kinds x.kind

  by : (i : OrderItem) → length (memory_after (wanted_item t i) mem) ≡ length mem
  by (Begins n) = refl
  by (Does n) = nodes (slice_get t n)
  by (Ends n) = refl
