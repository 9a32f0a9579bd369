-- Each step keeps the lists of live cancels right: nodes come in, blocks are closed, and what they did is undone.
use Rattle.std.proofs.Common.{◌≡◌, ◌≢◌, ℕ, ◌<◌, ◌≤◌, List, [], ◌∷◌, ◌++◌, length, map, refl, ap, sym, ◌∙◌, subst, arith, Bool, true, false, Option, Some, None, inl, inr}
use Rattle.std.specs.Prelude.{◌&&◌, not, ℤ, pos, max, filter, slice_get, slice_set, slice_index_or}
use Rattle.std.specs.List.{list_any}
use Rattle.std.proofs.lemmas.Bool.{and_from, or_from, cases_eq, cases_lt}
use Rattle.std.proofs.lemmas.Option.{same_Some}
use Rattle.cw_code.specs.declared.Back.{Back}
use Rattle.cw_tree.specs.declared.node.Node.{Node}
use Rattle.cw_tree.specs.declared.node.Kind.TheVariants.{Cancel}
use Rattle.cw_tree.specs.declared.conflict.Conflict.{Conflict}
use Rattle.cw_tree.specs.declared.node.BlockState.{BlockState}
use Rattle.cw_tree.specs.Nodes.{passes, is_node, touches_kind, is_block_kind, is_aborted_state, is_pending_state, stamp_of, is_block, is_pending, is_aborted, touches, below, fresh_node, closed}
use Rattle.cw_tree.specs.Walks.{has, is_above}
use Rattle.cw_tree.specs.Series.{place}
use Rattle.cw_tree.specs.Shape.{AreStamps}
use Rattle.cw_tree.specs.Accesses.{is_live, live_accesses}
use Rattle.cw_tree.specs.AccessStacks.{access_kind, access_at}
use Rattle.cw_tree.specs.Cancels.{wrote_in}
use Rattle.cw_tree.specs.NextNodes.{IsNextStamp}
use Rattle.cw_tree.proofs.Lists.{In}
use Rattle.cw_tree.proofs.Members.{filter_same, in_append, in_filter, in_map, map_in}
use Rattle.cw_tree.proofs.Cancels.{is_cancel_kind, wrote_same, live_is, is_live_access, left_before}
use Rattle.cw_tree.proofs.NodeKinds.{access_stamped, pending_block}
use Rattle.cw_tree.proofs.Walks.There.{node_there}
use Rattle.cw_tree.proofs.Walks.Kin.{ancestor_linear}
use Rattle.cw_tree.proofs.Walks.Ancestors.{above_ancestor, ancestor_above}
use Rattle.cw_tree.proofs.NextNodes.Growing.{get_append, get_next, length_more, node_grown, node_new, number_new, above_new}
use Rattle.cw_tree.proofs.NextNodes.Closing.{closed_other, node_closed, state_closed, is_above_closed}
use Rattle.cw_open.specs.Machine.{OpenMachine, live, live_value, in_block, is_running, is_dying}
use Rattle.cw_open.specs.Steps.{live_beside, puts_back}
use Rattle.cw_open.proofs.Open.Standing.{pending_open, place_open, shut_beneath}
use Rattle.cw_open.proofs.Open.Trees.{stands_well}
use Rattle.cw_open.proofs.Open.TreeSteps.{place_pending}
use Rattle.cw_open.proofs.Laws.Listing.{listed, with_parts}
use Rattle.cw_open.proofs.Laws.ListSteps.{none_new, listed_here, listed_other}
use Rattle.cw_open.proofs.Refused.Falling.{IsGone}
use Rattle.cw_open.proofs.Laws.Lists.{none_around}
use Rattle.cw_open.proofs.Laws.Named.{access_named, live_tells, live_grown, was_live, live_closed}
use Rattle.cw_open.proofs.Laws.ChainStates.{access_touched, IsChainState}
use Rattle.cw_open.proofs.Laws.Cancelling.{IsListedCancel, AreListedCancels, cancel_no_block, over_cancel, stamp_after, stamps_after}
use Rattle.cw_open.proofs.Laws.CancelsKept.{as_grown, as_closed, wrote_kept, over_kept, left_kept, IsLeft, cancel_kept, left_front, left_undone}
use Rattle.cw_open.proofs.Runs.States.{IsState}

-- a node is a cancel
pub is_cancel : (t : List Node) (n : ℕ) (x : Node) (back : List Back) → slice_get t n ≡ Some x → x.kind ≡ Cancel back
    → is_node (λ y. is_cancel_kind y.kind) t n ≡ true
is_cancel t n x back at kind = ap (passes (λ y. is_cancel_kind y.kind)) at ∙ ap is_cancel_kind kind

access_no_cancel : (c : ℕ) (write : Option ℤ) (v : ℤ) → is_cancel_kind (access_kind c write v) ≡ false
access_no_cancel c None v = refl
access_no_cancel c (Some w) v = refl

module _ (first : List ℤ) (m : OpenMachine) (s : IsChainState first m) (h : AreListedCancels m) where
  abbrev t : List Node
  t = m.tree

  st : IsState first m
  st = s.state

  -- ## Nodes that come in

  module _ (xs : List Node) (ls : List (List ℕ)) (clock : ℕ) (cs : List Conflict) (finished : List (ℕ × Bool)) (joined stopped : List ℕ)
      (su : AreStamps (t ++ xs)) where
    abbrev u : List Node
    u = t ++ xs

    abbrev k : OpenMachine
    k = with_parts m u ls clock cs finished joined stopped

    -- the list of a cell stays
    list_kept : (b c v : ℕ) → listed ls c ≡ live m c → In v (listed ls c) → is_above u b (access_at u v) ≡ true → IsLeft m k b c v
    list_kept b c v same i over =
        let a = as_grown t xs st.well.sound.tree.rooted c b in
        let P : List ℕ → Type 0 = λ us. In v us in
        let j = subst P same i in
        record {
          member = j;
          over = sym (over_kept t u c b a st.well.sound.stamps su (live m c) (st.listed.accesses c) v j) ∙ over;
          left =
              λ f. ap (λ us. left_before u f b (map (access_at u) us)) same ∙ left_kept t u c b a st.well.sound.stamps su (live m c) (st.listed.accesses c) f;
        }

    -- a cancel that was there
    old_cancel : (n : ℕ) (x : Node) (back : List Back) → n < length t → slice_get u n ≡ Some x → x.kind ≡ Cancel back → is_live u n ≡ true
        → ((c g : ℕ) → length t ≤ g → touches u c g ≡ true → is_above u x.parent g ≡ true → x.stamp ≤ stamp_of u g)
        → ((c v : ℕ) → In v (listed ls c) → is_above u x.parent (access_at u v) ≡ true → v < x.stamp → IsLeft m k x.parent c v) → IsListedCancel k x back
    old_cancel n x back low at kind lives later lists =
        let r = st.well.sound.tree.rooted in
        let old = h n x back (sym (get_append t xs n low) ∙ at) kind (sym (live_grown t xs r n low) ∙ lives) in
        cancel_kept m k x back old refl
        (node_grown t xs (λ y. is_block_kind y.kind) x.parent (node_there (λ y. is_block_kind y.kind) t x.parent old.block) ∙ old.block)
        (λ c. wrote_kept t u c x.parent (as_grown t xs r c x.parent) x.stamp
        (λ g e l over less. live_grown t xs r g (node_there (λ y. touches_kind c y.kind) t g e) ∙ l)
        (λ g e l over less. elim (cases_lt g (length t)) [
          | inl there ↦ (sym (node_grown t xs (λ y. touches_kind c y.kind) g there) ∙ e, sym (live_grown t xs r g there) ∙ l)
          | inr new ↦ absurd (let le = later c g new e over in omega arith)
        ]))
        lists

    -- no access comes in
    quiet_cancel : (n : ℕ) (x : Node) (back : List Back) → n < length t → slice_get u n ≡ Some x → x.kind ≡ Cancel back → is_live u n ≡ true
        → ((c : ℕ) → list_any (λ y. touches_kind c y.kind) xs ≡ false) → ls ≡ m.lists → IsListedCancel k x back
    quiet_cancel n x back low at kind lives quiet same =
        old_cancel n x back low at kind lives (λ c g new e over. absurd (cc (e, none_new (λ y. touches_kind c y.kind) t xs g (quiet c) new)))
        (λ c v i over less. list_kept x.parent c v (ap (λ l. listed l c) same) i over)

    -- nor a cancel
    pub quiet_cancels : ((c : ℕ) → list_any (λ y. touches_kind c y.kind) xs ≡ false) → list_any (λ y. is_cancel_kind y.kind) xs ≡ false → ls ≡ m.lists
        → AreListedCancels k
    quiet_cancels quiet none same n x back at kind lives = elim (cases_lt n (length t)) [
      | inl low ↦ quiet_cancel n x back low at kind lives quiet same
      | inr new ↦ absurd (cc (is_cancel u n x back at kind, none_new (λ y. is_cancel_kind y.kind) t xs n none new))
    ]

  -- ## An access

  module _ (y : ℕ) (running : is_running m y ≡ true) (c : ℕ) (write : Option ℤ) (stamp : ℕ) (there : c < length m.lists)
      (next : IsNextStamp t (place t y) stamp) (su : AreStamps (t ++ fresh_node (place t y) (access_kind c write (live_value m c)) stamp ∷ [])) where
    abbrev node : Node
    node = fresh_node (place t y) (access_kind c write (live_value m c)) stamp

    abbrev after : List Node
    after = t ++ node ∷ []

    abbrev more : List (List ℕ)
    more = slice_set m.lists c (live m c ++ stamp ∷ [])

    abbrev z : OpenMachine
    z = with_parts m after more (max m.clock stamp) m.conflicts m.finished m.joined m.stopped

    new_at : access_at after stamp ≡ length t
    new_at =
        ap (access_at after) (sym (number_new t node (λ k. k.stamp)))
        ∙ access_named after su c (length t) (node_new t node (λ k. touches_kind c k.kind) ∙ access_touched c write (live_value m c))

    -- a cancel, beneath the block of which it comes
    comes_after : (n : ℕ) (x : Node) (back : List Back) → slice_get t n ≡ Some x → x.kind ≡ Cancel back → is_block t x.parent ≡ true
        → is_above after x.parent (length t) ≡ true → x.stamp < stamp
    comes_after n x back at kind block over =
        let w = st.well in
        let here = stands_well m w y running in
        stamp_after m w n x at (ap is_cancel_kind kind) block (place t y) stamp here.there (place_open m w.sound.tree w.nested y running)
        (sym (ap (λ ns. has ns x.parent) (above_new t node w.sound.tree.rooted here.there)) ∙ over) next

    access_list : (n : ℕ) (x : Node) (back : List Back) → slice_get t n ≡ Some x → x.kind ≡ Cancel back → is_block t x.parent ≡ true
        → (d v : ℕ) → In v (listed more d) → is_above after x.parent (access_at after v) ≡ true → v < x.stamp → IsLeft m z x.parent d v
    access_list n x back at kind block d v i over less =
        let here = listed_here m.lists c (live m c ++ stamp ∷ []) there in
        let a = as_grown t (node ∷ []) st.well.sound.tree.rooted c x.parent in
        let acc = st.listed.accesses c in
        let P : List ℕ → Type 0 = λ us. In v us in
        let Q : ℕ → Type 0 = λ d. IsLeft m z x.parent d v in
        elim (cases_eq d c) [
          | inr ne ↦ list_kept (node ∷ []) more (max m.clock stamp) m.conflicts m.finished m.joined m.stopped su x.parent d v
              (listed_other m.lists c d (live m c ++ stamp ∷ []) ne) i over
          | inl q ↦ elim (in_append v (live m c) (stamp ∷ []) (subst P (ap (listed more) q ∙ here) i)) [
            | inl j ↦ subst Q (sym q) (record {
              member = j;
              over = sym (over_kept t after c x.parent a st.well.sound.stamps su (live m c) acc v j) ∙ over;
              left = λ f. ap (λ us. left_before after f x.parent (map (access_at after) us)) here
                  ∙ left_front after x.parent (live m c) (stamp ∷ []) v j over f
                  ∙ left_kept t after c x.parent a st.well.sound.stamps su (live m c) acc f;
            })
            | inr j ↦ elim j [
              | inl e ↦ absurd
                  (let late = comes_after n x back at kind block (ap (is_above after x.parent) (sym (ap (access_at after) e ∙ new_at)) ∙ over) in omega arith)
              | inr none ↦ absurd none
            ]
          ]
        ]

    pub access_cancels : AreListedCancels z
    access_cancels n x back at kind lives = elim (cases_lt n (length t)) [
      | inl low ↦
          (let was = sym (get_append t (node ∷ []) n low) ∙ at in
          let block = (h n x back was kind (sym (live_grown t (node ∷ []) st.well.sound.tree.rooted n low) ∙ lives)).block in
          old_cancel (node ∷ []) more (max m.clock stamp) m.conflicts m.finished m.joined m.stopped su n x back low at kind lives
          (λ d g le e over.
          let high = node_there (λ k. touches_kind d k.kind) after g e in
          let same : g ≡ length t = omega (arith, length_more t node) in
          let late = comes_after n x back was kind block (ap (is_above after x.parent) (sym same) ∙ over) in
          omega (arith, late, ap (stamp_of after) same, number_new t node (λ k. k.stamp)))
          (access_list n x back was kind block))
      | inr new ↦ absurd
          (cc (
            is_cancel after n x back at kind,
            none_new (λ k. is_cancel_kind k.kind) t (node ∷ []) n
                (or_from (is_cancel_kind (access_kind c write (live_value m c))) false (access_no_cancel c write (live_value m c)) refl) new,
          ))
    ]

  -- ## A cancel

  module _ (y : ℕ) (running : is_running m y ≡ true) (lively : is_dying m y ≡ false) (within : in_block m y ≡ true) (stamp : ℕ)
      (su : AreStamps (t ++ fresh_node (place t y) (Cancel (puts_back m y stamp)) stamp ∷ [])) where
    abbrev q : ℕ
    q = place t y

    abbrev leaf : Node
    leaf = fresh_node q (Cancel (puts_back m y stamp)) stamp

    abbrev left : List Node
    left = t ++ leaf ∷ []

    abbrev told : OpenMachine
    told = with_parts m left m.lists (max m.clock stamp) m.conflicts m.finished m.joined m.stopped

    pending_q : is_pending t q ≡ true
    pending_q = place_pending m st.well y running within

    -- nothing that its block did is undone
    none_gone : (n : ℕ) → n < length t → is_above t q n ≡ true → IsGone m n → ⊥
    none_gone n low over g =
        let w = st.well in
        let r = w.sound.tree.rooted in
        let b = g.block in
        let there : b < length t = node_there (λ k. is_block_kind k.kind && is_pending_state k.state) t b g.pending in
        elim (cases_lt q b) [
          | inl less ↦
              (let ne : b ≢ q = omega arith in
              let beneath = sym (ancestor_above t q b ne)
              ∙ ancestor_linear t r q b n low (above_ancestor t q n over) (above_ancestor t b n g.over) (omega arith) in
              absurd (cc (shut_beneath m w.sound.tree w.nested y running b there beneath, pending_open m w.sound.tree w.nested b g.pending)))
          | inr le ↦ none_around m w y running lively n g (ancestor_linear t r b q n low (above_ancestor t b n g.over) (above_ancestor t q n over) le)
        ]

    -- so its list tells what the tree does
    told_wrote : (c : ℕ) → wrote_in t q stamp (map (access_at t) (live m c)) ≡ wrote_in t q stamp (live_accesses t c)
    told_wrote c =
        let stamps = st.well.sound.stamps in
        wrote_same t t q stamp q stamp (live_accesses t c) (map (access_at t) (live m c))
        (λ n w.
        let z = live_is t c n w.member in
        let P : ℕ → Type 0 = λ k. In k (map (access_at t) (live m c)) in (
          n,
          record {
            member = elim (st.listed.missing c n z.0 z.1) [
              | inl i ↦ subst P (access_named t stamps c n z.0) (map_in (access_at t) (stamp_of t n) (live m c) i)
              | inr g ↦ absurd (none_gone n (node_there (λ k. touches_kind c k.kind) t n z.0) w.over g)
            ];
            over = w.over;
            earlier = w.earlier;
            wrote = w.wrote;
          },
        ))
        (λ n w.
        let (v, i, e) = in_map (access_at t) n (live m c) w.member in
        let a = st.listed.accesses c v i in
        let same : n ≡ a.0 = e ∙ ap (access_at t) (sym a.2) ∙ access_named t stamps c a.0 a.1 in
        let P : ℕ → Type 0 = λ k. In k (live m c) in
        let Q : ℕ → Type 0 = λ k. In k (live_accesses t c) in (
          n,
          record {
            member = subst Q (sym same) (is_live_access t c a.0 a.1 (st.listed.lives c a.0 a.1 (subst P (sym a.2) i)));
            over = w.over;
            earlier = w.earlier;
            wrote = w.wrote;
          },
        ))

    cells_of : (f : ℕ → ℤ) (cs : List ℕ) → map (λ (e : Back). e.cell) (map (λ c. record { cell = c; value = f c }) cs) ≡ cs
    cells_of f [] = refl
    cells_of f (c ∷ cs) = ap (λ ks. c ∷ ks) (cells_of f cs)

    new_list : IsListedCancel told leaf (puts_back m y stamp)
    new_list =
        let r = st.well.sound.tree.rooted in
        let stamps = st.well.sound.stamps in
        let test = λ (c : ℕ). wrote_in t q stamp (map (access_at t) (live m c)) in
        let value = λ (c : ℕ). left_before t (slice_index_or m.first c (pos 0)) q (map (access_at t) (live m c)) in
        let cs = filter test (below (length m.first)) in
        let block = pending_block t q pending_q in
        record {
          block = node_grown t (leaf ∷ []) (λ k. is_block_kind k.kind) q (node_there (λ k. is_block_kind k.kind) t q block) ∙ block;
          cells =
              cells_of value cs
              ∙ filter_same test (λ c. wrote_in left q stamp (live_accesses left c)) (below (length m.first))
              (λ c i. told_wrote c
              ∙ sym (wrote_kept t left c q (as_grown t (leaf ∷ []) r c q) stamp
              (λ g e l over less. live_grown t (leaf ∷ []) r g (node_there (λ k. touches_kind c k.kind) t g e) ∙ l)
              (λ g e l over less. elim (cases_lt g (length t)) [
                | inl there ↦ (sym (node_grown t (leaf ∷ []) (λ k. touches_kind c k.kind) g there) ∙ e, sym (live_grown t (leaf ∷ []) r g there) ∙ l)
                | inr new ↦ absurd (cc (e, none_new (λ k. touches_kind c k.kind) t (leaf ∷ []) g refl new))
              ])));
          values = λ e v i j over less. (
              let (c, k, same) = in_map (λ (c : ℕ). let back : Back = record { cell = c; value = value c } in back) e cs i in
              let P : Back → Type 0 = λ e. e.value ≡ left_before left (slice_index_or m.first e.cell (pos 0)) q (map (access_at left) (live m e.cell)) in
              subst P (sym same)
              (sym (left_kept t left c q (as_grown t (leaf ∷ []) r c q) stamps su (live m c) (st.listed.accesses c) (slice_index_or m.first c (pos 0)))));
        }

    pub told_cancels : AreListedCancels told
    told_cancels n x back at kind lives = elim (cases_lt n (length t)) [
      | inl low ↦ quiet_cancel (leaf ∷ []) m.lists (max m.clock stamp) m.conflicts m.finished m.joined m.stopped su n x back low at kind lives (λ c. refl) refl
      | inr new ↦
          (let high = node_there (λ k. is_cancel_kind k.kind) left n (is_cancel left n x back at kind) in
          let here : n ≡ length t = omega (arith, length_more t leaf) in
          let same : leaf ≡ x = same_Some leaf x (sym (get_next t leaf []) ∙ ap (slice_get left) (sym here) ∙ at) in
          let kinds : Cancel (puts_back m y stamp) ≡ Cancel back = ap (λ k. k.kind) same ∙ kind in
          let backs : puts_back m y stamp ≡ back = cc kinds in
          let P : Node → Type 0 = λ k. IsListedCancel told k back in
          let Q : List Back → Type 0 = λ bs. IsListedCancel told leaf bs in
          subst P same (subst Q backs new_list))
    ]

  -- ## A block is closed

  module _ (p : ℕ) (pending : is_pending t p ≡ true) (state : BlockState) (end clock : ℕ) (su : AreStamps (closed t p state end)) where
    abbrev v : List Node
    v = closed t p state end

    abbrev shut : OpenMachine
    shut = with_parts m v m.lists clock m.conflicts m.finished m.joined m.stopped

    was_at : (n : ℕ) (x : Node) (back : List Back) → slice_get v n ≡ Some x → x.kind ≡ Cancel back → slice_get t n ≡ Some x
    was_at n x back at kind = elim (cases_eq n p) [
      | inl same ↦
          (let was : is_node (λ k. is_cancel_kind k.kind) t n ≡ true = sym (node_closed t p state end (λ k. is_cancel_kind k.kind) (λ k. refl) n)
          ∙ is_cancel v n x back at kind in
          absurd (cc (pending_block t p pending, ap (is_block t) same, cancel_no_block t n was)))
      | inr ne ↦ sym (closed_other t p state end n ne) ∙ at
    ]

    -- node g is in the block of a live cancel, was there when that came, and is in the block that is closed
    pub record IsCaught (n g : ℕ) (x : Node) (back : List Back) : Type 0 where
      pub at : slice_get t n ≡ Some x
      pub kind : x.kind ≡ Cancel back
      pub block : is_block t x.parent ≡ true
      pub lives : is_live v n ≡ true
      pub low : g < length t
      pub stamped : 0 < stamp_of t g
      pub over : is_above t x.parent g ≡ true
      pub earlier : stamp_of t g < x.stamp
      pub inside : is_above t p g ≡ true

    -- where none such dies, the lists stay right
    pub closed_cancels : ((n g : ℕ) (x : Node) (back : List Back) → IsCaught n g x back → is_aborted_state state ≡ false) → AreListedCancels shut
    closed_cancels kept n x back at kind lives =
        let r = st.well.sound.tree.rooted in
        let stamps = st.well.sound.stamps in
        let was = was_at n x back at kind in
        let low = node_there (λ k. is_cancel_kind k.kind) t n (is_cancel t n x back was kind) in
        let old = h n x back was kind (was_live t r p state end pending n low lives) in
        cancel_kept m shut x back old refl (node_closed t p state end (λ k. is_block_kind k.kind) (λ k. refl) x.parent ∙ old.block)
        (λ c. wrote_kept t v c x.parent (as_closed t p state end r c x.parent) x.stamp
        (λ g e l over less.
        let there = node_there (λ k. touches_kind c k.kind) t g e in
        let stamped = access_stamped t stamps c g e in
        live_closed t r p state end g there l
        (λ up. kept n g x back (record {
          at = was;
          kind = kind;
          block = old.block;
          lives = lives;
          low = there;
          stamped = stamped;
          over = over;
          earlier = less;
          inside = up;
        })))
        (λ g e l over less.
        let touched = sym (node_closed t p state end (λ k. touches_kind c k.kind) (λ k. refl) g) ∙ e in
        (touched, was_live t r p state end pending g (node_there (λ k. touches_kind c k.kind) t g touched) l)))
        (λ c u i over less.
        let a = as_closed t p state end r c x.parent in
        record {
          member = i;
          over = sym (over_kept t v c x.parent a stamps su (live m c) (st.listed.accesses c) u i) ∙ over;
          left = left_kept t v c x.parent a stamps su (live m c) (st.listed.accesses c);
        })

    -- none such is in a block that is rolled back
    pub dead_apart : is_aborted_state state ≡ true → (n g : ℕ) (x : Node) (back : List Back) → IsCaught n g x back → ⊥
    dead_apart rolled n g x back c =
        let w = st.well in
        let r = w.sound.tree.rooted in
        let cancel : is_cancel_kind x.kind ≡ true = ap is_cancel_kind c.kind in
        let low = c.low in
        let over = above_ancestor t x.parent g c.over in
        let up = above_ancestor t p g c.inside in
        let less = c.earlier in
        elim (cases_lt x.parent p) [
          | inl beneath ↦
              (let ne : p ≢ x.parent = omega arith in
              let inside = sym (ancestor_above t x.parent p ne) ∙ ancestor_linear t r x.parent p g low over up (omega arith) in
              let late = stamps_after m w n x c.at cancel c.block p g pending inside low c.inside c.stamped in
              omega arith)
          | inr le ↦
              (let above = over_cancel m w n x c.at cancel c.block p (ancestor_linear t r p x.parent g low up over le) in
              let there = node_there (λ k. is_cancel_kind k.kind) t n (is_cancel t n x back c.at c.kind) in
              let rolls = and_from (is_block t p) (is_aborted_state state) (pending_block t p pending) rolled in
              let is : is_aborted v p ≡ true = state_closed t p state end is_aborted_state ∙ rolls in
              absurd (cc (is, live_tells v n p c.lives (is_above_closed t p state end r p n there ∙ above))))
        ]

  -- ## What a block did to a cell is undone

  pub undone_cancels : (p c : ℕ) → is_pending t p ≡ true → c < length m.lists
      → AreListedCancels (with_parts m t (slice_set m.lists c (live_beside m p c)) m.clock m.conflicts m.finished m.joined m.stopped)
  undone_cancels p c pending there n x back at kind lives =
      let ls = slice_set m.lists c (live_beside m p c) in
      let z = with_parts m t ls m.clock m.conflicts m.finished m.joined m.stopped in
      let old = h n x back at kind lives in
      let here = listed_here m.lists c (live_beside m p c) there in
      let beside = λ (v : ℕ). not (is_above t p (access_at t v)) in
      cancel_kept m z x back old refl old.block (λ d. refl)
      (λ d v i over less.
      let P : List ℕ → Type 0 = λ us. In v us in
      let Q : ℕ → Type 0 = λ d. IsLeft m z x.parent d v in
      elim (cases_eq d c) [
        | inl q ↦
            (let j = subst P (ap (listed ls) q ∙ here) i in
            subst Q (sym q) (record {
              member = (in_filter beside v (live m c) j).0;
              over = over;
              left =
                  λ f. ap (λ us. left_before t f x.parent (map (access_at t) us)) here
                  ∙ left_undone t c p x.parent (live m c) st.well.sound.tree.rooted pending (s.chained c).chain v j over f;
            }))
        | inr ne ↦
            (let other = listed_other m.lists c d (live_beside m p c) ne in
            record { member = subst P other i; over = over; left = λ f. ap (λ us. left_before t f x.parent (map (access_at t) us)) other })
      ])
