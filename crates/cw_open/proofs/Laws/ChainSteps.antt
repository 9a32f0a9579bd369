-- Each step keeps the lists chains, and what stands between two of a list ended.
use Rattle.std.proofs.Common.{◌≡◌, ℕ, ◌<◌, List, [], ◌∷◌, ◌++◌, length, map, refl, ap, sym, ◌∙◌, subst, arith, Bool, true, false, Option, Some, None, inl, inr, nat_eq}
use Rattle.std.specs.Prelude.{◌&&◌, not, slice_get, filter}
use Rattle.std.proofs.lemmas.Bool.{and_parts, and_from, or_left, or_parts, false_from_ne_true, not-true, not_from_false, eq-eqb}
use Rattle.std.proofs.lemmas.List.{map-append}
use Rattle.cw_tree.specs.declared.node.Node.{Node}
use Rattle.cw_tree.specs.declared.node.BlockState.{BlockState}
use Rattle.cw_tree.specs.declared.node.BlockState.TheVariants.{Pending, Committed, Aborted}
use Rattle.cw_tree.specs.Nodes.{passes, is_block_kind, is_pending_state, is_committed_state, is_aborted_state, touches_kind, stamp_of, is_block, is_pending, is_committed, is_aborted, touches, closed}
use Rattle.cw_tree.specs.Walks.{IsRooted, has, is_ancestor, is_above}
use Rattle.cw_tree.specs.Shape.{AreStamps, is_closed}
use Rattle.cw_tree.specs.Accesses.{is_live, IsChainOf, HasAccess}
use Rattle.cw_tree.specs.Journals.{EndedBetween, AllEndedBetween}
use Rattle.cw_tree.specs.AccessStacks.{newest_conflicts, conflict_at, access_at}
use Rattle.cw_tree.specs.Newest.{newest}
use Rattle.cw_tree.specs.NextNodes.{IsPlace, IsNextStamp}
use Rattle.cw_tree.proofs.Lists.{In}
use Rattle.cw_tree.proofs.Members.{map_same}
use Rattle.cw_tree.proofs.Walks.There.{node_there}
use Rattle.cw_tree.proofs.Walks.Ancestors.{above_ancestor, ancestor_le}
use Rattle.cw_tree.proofs.NextNodes.Growing.{node_grown, node_new, number_grown, number_new, is_above_grown, above_new}
use Rattle.cw_tree.proofs.NextNodes.Closing.{node_closed, number_closed}
use Rattle.cw_tree.proofs.ChainLaws.Nearest.{free_passes}
use Rattle.cw_tree.proofs.ChainLaws.Stamps.{named_there, stamps_grow, stamps_close, stamps_extend, some_of_stamps, stamps_beneath}
use Rattle.cw_open.specs.Runs.{meets, ComesLast}
use Rattle.cw_open.proofs.Laws.Named.{access_named, live_tells}
use Rattle.cw_open.proofs.Laws.Chained.{same_name, all_grown, all_closed, all_front, all_more}

-- one cell's accesses: a chain, between each two of which all has ended that stands between them
pub record IsChained (t : List Node) (c : ℕ) (us : List ℕ) : Type 0 where
  pub chain : IsChainOf t c us
  pub ended : AllEndedBetween t (map (access_at t) us)

pub names_same : (t u : List Node) → AreStamps t → AreStamps u → (c : ℕ) → ((n : ℕ) → touches t c n ≡ true → (touches u c n ≡ true) × (stamp_of u n ≡ stamp_of t n)) → (us : List ℕ) → ((s : ℕ) → In s us → HasAccess t c s) → map (access_at u) us ≡ map (access_at t) us
names_same t u st su c kept us a =
    map_same (access_at u) (access_at t) us (λ s i.
    let h = a s i in
    let k = kept h.0 h.1 in
    same_name t u st su c s h.0 h.1 h.2 k.0 (k.1 ∙ h.2))

pub kept_grown : (t xs : List Node) (c n : ℕ) → touches t c n ≡ true → (touches (t ++ xs) c n ≡ true) × (stamp_of (t ++ xs) n ≡ stamp_of t n)
kept_grown t xs c n e = let h = node_there (λ y. touches_kind c y.kind) t n e in (node_grown t xs (λ y. touches_kind c y.kind) n h ∙ e, number_grown t xs (λ y. y.stamp) n h)

module _ (t : List Node) (r : IsRooted t) (st : AreStamps t) (c : ℕ) (us : List ℕ) (a : (s : ℕ) → In s us → HasAccess t c s) (h : IsChained t c us) where
  pub chained_grown : (xs : List Node) → AreStamps (t ++ xs) → IsChained (t ++ xs) c us
  chained_grown xs su =
      let chain = h.chain in
      let P : List ℕ → Type 0 = λ ns. AllEndedBetween (t ++ xs) ns in
      record {
        chain = stamps_grow t xs c us r chain;
        ended = subst P (sym (names_same t (t ++ xs) st su c (kept_grown t xs c) us a)) (all_grown t xs r (map (access_at t) us) (named_there t c us chain.accesses) h.ended);
      }

  pub chained_closed : (p : ℕ) (state : BlockState) (end : ℕ) → is_pending t p ≡ true → is_pending_state state ≡ false → AreStamps (closed t p state end) → IsChained (closed t p state end) c us
  chained_closed p state end pending done su =
      let chain = h.chain in
      let P : List ℕ → Type 0 = λ ns. AllEndedBetween (closed t p state end) ns in
      record {
        chain = stamps_close t c us p state end r done chain;
        ended = subst P (sym (names_same t (closed t p state end) st su c (λ n e. (node_closed t p state end (λ y. touches_kind c y.kind) (λ y. refl) n ∙ e, number_closed t p state end (λ y. y.stamp) (λ y. refl) n)) us a))
            (all_closed t r p state end pending (map (access_at t) us) (named_there t c us chain.accesses) chain.chain h.ended);
      }

  pub chained_undone : (p : ℕ) → is_pending t p ≡ true → IsChained t c (filter (λ s. not (is_above t p (access_at t s))) us)
  chained_undone p pending =
      let chain = h.chain in
      let f = access_at t in
      let kept = filter (λ s. not (is_above t p (f s))) us in
      let gone = filter (λ s. is_above t p (f s)) us in
      let P : List ℕ → Type 0 = λ ns. AllEndedBetween t ns in
      record {
        chain = some_of_stamps t c (λ s. not (is_above t p (f s))) us r chain;
        ended = all_front t (map f kept) (map f gone) (subst P (ap (map f) (stamps_beneath t c p us r pending chain) ∙ map-append f kept gone) h.ended);
      }

-- ## An access

newest_meets : (t : List Node) (us : List ℕ) (p : ℕ) → meets t (newest us) p ≡ false → newest_conflicts t (map (access_at t) us) p ≡ false
newest_meets t [] p e = e
newest_meets t (u ∷ []) p e = (or_parts (conflict_at t (access_at t u) p) false e).0
newest_meets t (u ∷ v ∷ us) p e = newest_meets t (v ∷ us) p e

pub newest_in : (us : List ℕ) (s : ℕ) → newest us ≡ s ∷ [] → In s us
newest_in [] s e = absurd (cc e)
newest_in (u ∷ []) s e = let same : u ≡ s = cc e in inl (sym same)
newest_in (u ∷ v ∷ us) s e = inr (newest_in (v ∷ us) s e)

meets_one : (t : List Node) (us : List ℕ) (p s : ℕ) → newest us ≡ s ∷ [] → meets t (newest us) p ≡ false → conflict_at t (access_at t s) p ≡ false
meets_one t us p s e f = (or_parts (conflict_at t (access_at t s) p) false (let P : List ℕ → Type 0 = λ ns. meets t ns p ≡ false in subst P e f)).0

newest_has : (us : List ℕ) (s : ℕ) → newest us ≡ s ∷ [] → has (newest us) s ≡ true
newest_has us s e = let P : List ℕ → Type 0 = λ ns. has ns s ≡ true in subst P (sym e) (or_left (nat_eq s s) false (eq-eqb s s refl))

states : (s : BlockState) → is_pending_state s ≡ false → is_aborted_state s ≡ false → is_committed_state s ≡ true
states Committed a b = refl
states Pending a b = absurd (cc a)
states Aborted a b = absurd (cc b)

-- a block that is neither pending nor rolled back is committed
pub only_committed : (t : List Node) (b : ℕ) → is_block t b ≡ true → is_pending t b ≡ false → is_aborted t b ≡ false → is_committed t b ≡ true
only_committed t b = by (slice_get t b) where
  both : (k : Bool) (s : BlockState) → k ≡ true → (k && is_pending_state s) ≡ false → (k && is_aborted_state s) ≡ false → (k && is_committed_state s) ≡ true
  both true s e a c = states s a c
  both false s e a c = e

  by : (o : Option Node) → passes (λ x. is_block_kind x.kind) o ≡ true → passes (λ x. is_block_kind x.kind && is_pending_state x.state) o ≡ false → passes (λ x. is_block_kind x.kind && is_aborted_state x.state) o ≡ false
      → passes (λ x. is_block_kind x.kind && is_committed_state x.state) o ≡ true
  by None e a c = e
  by (Some x) e a c = both (is_block_kind x.kind) x.state e a c

module _ (t : List Node) (r : IsRooted t) (st : AreStamps t) (c : ℕ) (us : List ℕ) (a : (s : ℕ) → In s us → HasAccess t c s) (h : IsChained t c us) (lives : (n : ℕ) → touches t c n ≡ true → In (stamp_of t n) us → is_live t n ≡ true) where
  module _ (x : Node) (place : IsPlace t x.parent) (touched : touches_kind c x.kind ≡ true) (next : IsNextStamp t x.parent x.stamp) (free : meets t (newest us) x.parent ≡ false) (last : ComesLast t us (newest us) x.parent x.stamp) (su : AreStamps (t ++ x ∷ [])) where
    abbrev u : List Node
    u = t ++ x ∷ []

    abbrev g : ℕ
    g = length t

    there : x.parent < length t
    there = place.there

    -- what stands above the newest access and not above the new one has ended
    ended_before : (s : ℕ) → newest us ≡ s ∷ [] → EndedBetween u (access_at t s) g
    ended_before s new b hb e =
        let acc = a s (newest_in us s new) in
        let named : access_at t s ≡ acc.0 = ap (access_at t) (sym acc.2) ∙ access_named t st c acc.0 acc.1 in
        let low : access_at t s < length t = let l = node_there (λ y. touches_kind c y.kind) t acc.0 acc.1 in omega arith in
        let z = and_parts (is_block u b && is_above u b (access_at t s)) (not (is_above u b g)) e in
        let v = and_parts (is_block u b) (is_above u b (access_at t s)) z.0 in
        let over : is_above t b (access_at t s) ≡ true = sym (is_above_grown t (x ∷ []) r b (access_at t s) low) ∙ v.1 in
        let le = ancestor_le t r b (access_at t s) low (above_ancestor t b (access_at t s) over) in
        let here : b < length t = omega arith in
        let block : is_block t b ≡ true = sym (node_grown t (x ∷ []) (λ y. is_block_kind y.kind) b here) ∙ v.0 in
        let off : is_ancestor t b x.parent ≡ false = sym (ap (λ ns. has ns b) (above_new t x r there)) ∙ not-true (is_above u b g) z.1 in
        let shut : is_pending t b ≡ false = false_from_ne_true (is_pending t b) (λ f. absurd (cc (off, free_passes t r (access_at t s) x.parent low there (meets_one t us x.parent s new free) b f over))) in
        let P : ℕ → Type 0 = λ n. is_live t n ≡ true in
        let Q : ℕ → Type 0 = λ k. In k us in
        let alive : is_live t (access_at t s) ≡ true = subst P (sym named) (lives acc.0 acc.1 (subst Q (sym acc.2) (newest_in us s new))) in
        let kept : is_aborted t b ≡ false = live_tells t (access_at t s) b alive over in
        let less = last.ended s b (newest_has us s new) here
        (and_from (is_closed t b && is_above t b (access_at t s)) (not (is_ancestor t b x.parent)) (and_from (is_closed t b) (is_above t b (access_at t s)) (and_from (is_block t b) (not (is_pending t b)) block (not_from_false (is_pending t b) shut)) over)
        (not_from_false (is_ancestor t b x.parent) off)) in (
          node_grown t (x ∷ []) (λ y. is_block_kind y.kind && is_committed_state y.state) b here ∙ only_committed t b block shut kept,
          omega (arith, less, number_grown t (x ∷ []) (λ y. y.end) b here, number_new t x (λ y. y.stamp)),
        )

    new_name : access_at u x.stamp ≡ g
    new_name = ap (access_at u) (sym (number_new t x (λ y. y.stamp))) ∙ access_named u su c g (node_new t x (λ y. touches_kind c y.kind) ∙ touched)

    pub chained_more : IsChained u c (us ++ x.stamp ∷ [])
    chained_more =
        let chain = h.chain in
        let f = access_at t in
        let names : map (access_at u) (us ++ x.stamp ∷ []) ≡ map f us ++ g ∷ [] = map-append (access_at u) us (x.stamp ∷ []) ∙ ap (λ ns. ns ++ access_at u x.stamp ∷ []) (names_same t u st su c (kept_grown t (x ∷ []) c) us a) ∙ ap (λ n. map f us ++ n ∷ []) new_name in
        let P : List ℕ → Type 0 = λ ns. AllEndedBetween u ns in
        record {
          chain = stamps_extend t x c us r there touched (λ n l. (next.fresh n l).0) chain (newest_meets t us x.parent free);
          ended = subst P (sym names) (all_more u us f g (all_grown t (x ∷ []) r (map f us) (named_there t c us chain.accesses) h.ended) ended_before);
        }
