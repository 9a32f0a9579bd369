-- Chains of accesses that are named by their stamps.
use Rattle.std.proofs.Common.{◌≡◌, ℕ, zero, suc, ◌<◌, ◌≤◌, List, [], ◌∷◌, ◌++◌, length, map, refl, ap, sym, ◌∙◌, arith, Bool, true, false, cond, Some, None, inl, inr, subst, nat_eq, length-append}
use Rattle.std.specs.Prelude.{unwrap_or, All}
use Rattle.std.specs.List.{find}
use Rattle.std.proofs.lemmas.Bool.{cases_Bool, cases_lt, eq-eqb, ne_eqb}
use Rattle.std.proofs.lemmas.List.{map-append, append-nil, append_assoc}
use Rattle.std.proofs.lemmas.List.Elements.{All-nil, All-cons, All-head, All-tail, All-append, All-weaker, All-filter}
use Rattle.std.proofs.lemmas.Option.{slice_get_past}
use Rattle.cw_tree.specs.declared.node.Node.{Node}
use Rattle.cw_tree.specs.declared.node.BlockState.{BlockState}
use Rattle.cw_tree.specs.Nodes.{passes, touches_kind, touches, stamp_of, below, all_nodes, with_stamp, closed}
use Rattle.cw_tree.specs.Accesses.{HasAccess, IsChain}
use Rattle.cw_tree.specs.AccessStacks.{newest_conflicts, AreThere, access_at}
use Rattle.cw_tree.specs.ChainLaws.{StampsGrow, StampsClose, StampsExtend, PartsOfStamps, EachStampFollows, SomeOfStamps, StampsBeneath, StampConflictsGrow, StampConflictsClose}
use Rattle.cw_tree.proofs.Lists.{In, at_or_before}
use Rattle.cw_tree.proofs.Members.{in_below, below_in, map_same, all_at, find_same}
use Rattle.cw_tree.proofs.NextNodes.Growing.{node_grown, number_grown, number_new, node_new, all_nodes_more}
use Rattle.cw_tree.proofs.NextNodes.Closing.{node_closed, number_closed, all_nodes_closed}
use Rattle.cw_tree.proofs.ChainLaws.Chains.{parts_are_chains, each_follows, some_named, beneath_named}
use Rattle.cw_tree.proofs.ChainLaws.Change.{chains_grow, chains_close, chains_extend, newest_grow, newest_close}

-- an access is a node of the tree
pub touched_there : (t : List Node) (c n : ℕ) → touches t c n ≡ true → n < length t
touched_there t c n e =
    elim (cases_lt n (length t)) [ inl h ↦ h | inr past ↦ absurd (cc (e, ap (passes (λ x. touches_kind c x.kind)) (slice_get_past t n past))) ]

-- ## What is found by a stamp

find_there : (p : ℕ → Bool) (xs : List ℕ) (n : ℕ) → In n xs → p n ≡ true → (m : ℕ) × (find p xs ≡ Some m) × In m xs
find_there p [] n i e = absurd i
find_there p (x ∷ xs) n i e =
    elim (cases_Bool (p x)) [
      | inl g ↦ (x, ap (λ b. cond b (Some x) (find p xs)) g, inl refl)
      | inr g ↦
          (let rest : In n xs = elim i [ inl q ↦ absurd (cc (g, e, ap p q)) | inr j ↦ j ] in
          let w = find_there p xs n rest e in
          (w.0, ap (λ b. cond b (Some x) (find p xs)) g ∙ w.1, inr w.2))
    ]

find_front : (p : ℕ → Bool) (xs ys : List ℕ) (m : ℕ) → find p xs ≡ Some m → find p (xs ++ ys) ≡ Some m
find_front p [] ys m e = absurd (cc e)
find_front p (x ∷ xs) ys m e = by_case (p x) e (find_front p xs ys m) where
  by_case : (b : Bool) → cond b (Some x) (find p xs) ≡ Some m → (find p xs ≡ Some m → find p (xs ++ ys) ≡ Some m) → cond b (Some x) (find p (xs ++ ys)) ≡ Some m
  by_case true g more = g
  by_case false g more = more g

find_behind : (p : ℕ → Bool) (xs : List ℕ) (m : ℕ) → ((x : ℕ) → In x xs → p x ≡ false) → p m ≡ true → find p (xs ++ m ∷ []) ≡ Some m
find_behind p [] m none e = ap (λ b. cond b (Some m) None) e
find_behind p (x ∷ xs) m none e = ap (λ b. cond b (Some x) (find p (xs ++ m ∷ []))) (none x (inl refl)) ∙ find_behind p xs m (λ y i. none y (inr i)) e

below_more : (k m : ℕ) → k ≤ m → (rest : List ℕ) × (below m ≡ below k ++ rest)
below_more k zero h = ([], ap below (let same : zero ≡ k = omega arith in same) ∙ sym (append-nil (below k)))
below_more k (suc m) h =
    elim (at_or_before k (suc m) (omega arith)) [
      | inl low ↦ (let w = below_more k m (omega arith) in (w.0 ++ m ∷ [], ap (λ xs. xs ++ m ∷ []) w.1 ∙ append_assoc (below k) w.0 (m ∷ [])))
      | inr same ↦ ([], ap below same ∙ sym (append-nil (below k)))
    ]

-- the access that a stamp names
pub record IsNamed (t : List Node) (s n : ℕ) : Type 0 where
  pub there : n < length t
  pub found : with_stamp t s ≡ Some n

pub named : (t : List Node) (c s : ℕ) → HasAccess t c s → IsNamed t s (access_at t s)
named t c s a =
    let w = find_there (λ n. nat_eq (stamp_of t n) s) (all_nodes t) a.0 (below_in a.0 (length t) (touched_there t c a.0 a.1)) (eq-eqb (stamp_of t a.0) s a.2) in
    let P : ℕ → Type 0 = λ n. IsNamed t s n in
    subst P (sym (ap (λ o. unwrap_or o 0) w.1)) (record { there = in_below w.0 (length t) w.2; found = w.1 })

all_parts : (P : ℕ → Type 0) (xs ys : List ℕ) → All P (xs ++ ys) → All P xs × All P ys
all_parts P [] ys h = (All-nil P, h)
all_parts P (x ∷ xs) ys h = let more = all_parts P xs ys (All-tail P x (xs ++ ys) h) in (All-cons P x xs (All-head P x (xs ++ ys) h) more.0, more.1)

pub named_there : (t : List Node) (c : ℕ) (stamps : List ℕ) → All (HasAccess t c) stamps → AreThere t (map (access_at t) stamps)
named_there t c [] h = All-nil (λ u. u < length t)
named_there t c (s ∷ stamps) h =
    All-cons (λ u. u < length t) (access_at t s) (map (access_at t) stamps) (named t c s (All-head (HasAccess t c) s stamps h)).there (named_there t c stamps (All-tail (HasAccess t c) s stamps h))

-- ## More nodes

module _ (t s : List Node) where
  access_grown : (c x : ℕ) → HasAccess t c x → access_at (t ++ s) x ≡ access_at t x
  access_grown c x a =
      let n = access_at t x in
      let more = below_more (length t) (length (t ++ s)) (omega (arith, length-append t s)) in
      let agree = find_same (λ m. nat_eq (stamp_of (t ++ s) m) x) (λ m. nat_eq (stamp_of t m) x) (all_nodes t) (λ m i. ap (λ k. nat_eq k x) (number_grown t s (λ y. y.stamp) m (in_below m (length t) i))) in
      let first = find_front (λ m. nat_eq (stamp_of (t ++ s) m) x) (all_nodes t) more.0 n (agree ∙ (named t c x a).found) in
      ap (λ o. unwrap_or o 0) (ap (find (λ m. nat_eq (stamp_of (t ++ s) m) x)) more.1 ∙ first)

  pub has_grown : (c x : ℕ) → HasAccess t c x → HasAccess (t ++ s) c x
  has_grown c x a =
      let there : a.0 < length t = touched_there t c a.0 a.1 in
      (a.0, node_grown t s (λ y. touches_kind c y.kind) a.0 there ∙ a.1, number_grown t s (λ y. y.stamp) a.0 there ∙ a.2)

  names_grown : (c : ℕ) (stamps : List ℕ) → All (HasAccess t c) stamps → map (access_at (t ++ s)) stamps ≡ map (access_at t) stamps
  names_grown c stamps h = map_same (access_at (t ++ s)) (access_at t) stamps (λ x i. access_grown c x (all_at (HasAccess t c) stamps h x i))

pub stamps_grow : StampsGrow
stamps_grow t s c stamps r h = record {
  accesses = All-weaker (HasAccess t c) (HasAccess (t ++ s) c) (has_grown t s c) stamps h.accesses;
  chain = (let P : List ℕ → Type 0 = λ us. IsChain (t ++ s) us in
      subst P (sym (names_grown t s c stamps h.accesses)) (chains_grow t s (map (access_at t) stamps) r (named_there t c stamps h.accesses) h.chain));
}

-- ## Closed blocks

module _ (t : List Node) (b : ℕ) (state : BlockState) (end : ℕ) where
  has_closed : (c x : ℕ) → HasAccess t c x → HasAccess (closed t b state end) c x
  has_closed c x a = (a.0, node_closed t b state end (λ y. touches_kind c y.kind) (λ y. refl) a.0 ∙ a.1, number_closed t b state end (λ y. y.stamp) (λ y. refl) a.0 ∙ a.2)

  access_closed : (x : ℕ) → access_at (closed t b state end) x ≡ access_at t x
  access_closed x =
      ap (λ o. unwrap_or o 0)
      (ap (find (λ m. nat_eq (stamp_of (closed t b state end) m) x)) (all_nodes_closed t b state end)
      ∙ find_same (λ m. nat_eq (stamp_of (closed t b state end) m) x) (λ m. nat_eq (stamp_of t m) x) (all_nodes t) (λ m i. ap (λ k. nat_eq k x) (number_closed t b state end (λ y. y.stamp) (λ y. refl) m)))

pub stamps_close : StampsClose
stamps_close t c stamps b state end r done h = record {
  accesses = All-weaker (HasAccess t c) (HasAccess (closed t b state end) c) (has_closed t b state end c) stamps h.accesses;
  chain = (let P : List ℕ → Type 0 = λ us. IsChain (closed t b state end) us in
      subst P (sym (map_same (access_at (closed t b state end)) (access_at t) stamps (λ x i. access_closed t b state end x)))
      (chains_close t (map (access_at t) stamps) b state end r (named_there t c stamps h.accesses) done h.chain));
}

-- ## Conflicts

pub stamp_conflicts_grow : StampConflictsGrow
stamp_conflicts_grow t s c stamps p r h hp =
    ap (λ us. newest_conflicts (t ++ s) us p) (names_grown t s c stamps h.accesses) ∙ newest_grow t s (map (access_at t) stamps) p r (named_there t c stamps h.accesses) hp

pub stamp_conflicts_close : StampConflictsClose
stamp_conflicts_close t c stamps p b state end r h hp done e =
    ap (λ us. newest_conflicts (closed t b state end) us p) (map_same (access_at (closed t b state end)) (access_at t) stamps (λ x i. access_closed t b state end x))
    ∙ newest_close t (map (access_at t) stamps) p b state end r (named_there t c stamps h.accesses) hp done e

-- ## A new access

pub stamps_extend : StampsExtend
stamps_extend t x c stamps r hp touched fresh h free =
    let u = t ++ x ∷ [] in
    let new : access_at u x.stamp ≡ length t = ap (λ o. unwrap_or o 0) (ap (find (λ m. nat_eq (stamp_of u m) x.stamp)) (all_nodes_more t x)
    ∙ find_behind (λ m. nat_eq (stamp_of u m) x.stamp) (all_nodes t) (length t)
    (λ m i. ne_eqb (stamp_of u m) x.stamp (λ e. fresh m (in_below m (length t) i) (sym (number_grown t (x ∷ []) (λ y. y.stamp) m (in_below m (length t) i)) ∙ e)))
    (eq-eqb (stamp_of u (length t)) x.stamp (number_new t x (λ y. y.stamp)))) in
    let names : map (access_at u) (stamps ++ x.stamp ∷ []) ≡ map (access_at t) stamps ++ length t ∷ [] = map-append (access_at u) stamps (x.stamp ∷ [])
    ∙ ap (λ us. us ++ access_at u x.stamp ∷ []) (names_grown t (x ∷ []) c stamps h.accesses)
    ∙ ap (λ n. map (access_at t) stamps ++ n ∷ []) new in
    let P : List ℕ → Type 0 = λ us. IsChain u us in
    let Q : ℕ → Type 0 = HasAccess u c in
    record {
      accesses = All-append Q stamps (x.stamp ∷ []) (All-weaker (HasAccess t c) Q (has_grown t (x ∷ []) c) stamps h.accesses)
          (All-cons Q x.stamp [] (length t, node_new t x (λ y. touches_kind c y.kind) ∙ touched, number_new t x (λ y. y.stamp)) (All-nil Q));
      chain = subst P (sym names) (chains_extend t x (map (access_at t) stamps) r hp (named_there t c stamps h.accesses) h.chain free);
    }

-- ## Parts

pub parts_of_stamps : PartsOfStamps
parts_of_stamps t c ss rs h =
    let P : List ℕ → Type 0 = λ us. IsChain t us in
    let parts = parts_are_chains t (map (access_at t) ss) (map (access_at t) rs) (subst P (map-append (access_at t) ss rs) h.chain) in
    let alls = all_parts (HasAccess t c) ss rs h.accesses in
    (record { accesses = alls.0; chain = parts.0 }, record { accesses = alls.1; chain = parts.1 })

pub each_stamp_follows : EachStampFollows
each_stamp_follows t c ss rs qs s r rooted h =
    let f = access_at t in
    let names : map f (ss ++ s ∷ rs ++ r ∷ qs) ≡ map f ss ++ f s ∷ map f rs ++ f r ∷ map f qs = map-append f (ss ++ s ∷ rs) (r ∷ qs) ∙ ap (λ us. us ++ f r ∷ map f qs) (map-append f ss (s ∷ rs)) in
    let P : List ℕ → Type 0 = λ us. IsChain t us in
    let Q : List ℕ → Type 0 = λ us. AreThere t us in
    each_follows t (map f ss) (map f rs) (map f qs) (f s) (f r) rooted (subst Q names (named_there t c (ss ++ s ∷ rs ++ r ∷ qs) h.accesses)) (subst P names h.chain)

pub some_of_stamps : SomeOfStamps
some_of_stamps t c p stamps r h = record {
  accesses = All-filter p (HasAccess t c) stamps h.accesses;
  chain = some_named t r (access_at t) p stamps (named_there t c stamps h.accesses) h.chain;
}

pub stamps_beneath : StampsBeneath
stamps_beneath t c b stamps r pending h = beneath_named t r b pending (access_at t) stamps (named_there t c stamps h.accesses) h.chain
