-- Each step keeps of the lists of live accesses what is true of them: steps by which nodes come in.
use Rattle.std.proofs.Common.{◌≡◌, ◌≢◌, ℕ, zero, suc, ◌<◌, ◌≤◌, List, [], ◌∷◌, ◌++◌, length, refl, ap, sym, ◌∙◌, subst, arith, Bool, true, false, Option, Some, None, inl, inr, nat_eq, nat_lt, append-nil, get_or}
use Rattle.std.specs.Prelude.{◌⊎◌, ℤ, slice_set, unwrap_or}
use Rattle.std.specs.List.{list_any, list_all}
use Rattle.std.proofs.lemmas.Bool.{and_parts, or_parts, cases_eq, eqb-true, eq-eqb, lt-ltb}
use Rattle.std.proofs.lemmas.List.{length-set}
use Rattle.std.proofs.lemmas.List.Elements.{All-nil}
use Rattle.std.proofs.lemmas.Option.{slice_get-get_or}
use Rattle.cw_tree.specs.declared.node.Node.{Node}
use Rattle.cw_tree.specs.declared.conflict.Conflict.{Conflict}
use Rattle.cw_tree.specs.Nodes.{is_node, touches_kind, stamp_of, touches, fresh_node}
use Rattle.cw_tree.specs.Walks.{IsRooted, has}
use Rattle.cw_tree.specs.Accesses.{is_live, HasAccess}
use Rattle.cw_tree.specs.Journals.{fits_cells}
use Rattle.cw_tree.specs.AccessStacks.{access_kind}
use Rattle.cw_tree.specs.NextNodes.{IsPlace, IsNextStamp}
use Rattle.cw_tree.proofs.Lists.{In, any_from}
use Rattle.cw_tree.proofs.Members.{in_append, append_in}
use Rattle.cw_tree.proofs.Walks.There.{node_there}
use Rattle.cw_tree.proofs.NextNodes.Growing.{length_more, node_new, number_new}
use Rattle.cw_tree.proofs.NextNodes.Closing.{get_set_same, get_set_other}
use Rattle.cw_tree.proofs.Rising.{Rises, rises_more}
use Rattle.cw_open.specs.Machine.{OpenMachine, live}
use Rattle.cw_open.proofs.Refused.Falling.{AreAskers, StayShut}
use Rattle.cw_open.proofs.Laws.Listing.{AreListed, listed, with_parts, listed_grown}
use Rattle.cw_open.proofs.Laws.Named.{live_new}

-- ## Nodes that come in

none_of : (p : Node → Bool) (xs : List Node) (n : ℕ) → list_any p xs ≡ false → is_node p xs n ≡ false
none_of p [] n e = refl
none_of p (x ∷ xs) zero e = (or_parts (p x) (list_any p xs) e).0
none_of p (x ∷ xs) (suc n) e = none_of p xs n (or_parts (p x) (list_any p xs) e).1

pub none_new : (p : Node → Bool) (t xs : List Node) (n : ℕ) → list_any p xs ≡ false → length t ≤ n → is_node p (t ++ xs) n ≡ false
none_new p [] xs n e le = none_of p xs n e
none_new p (x ∷ t) xs zero e le = absurd (omega arith)
none_new p (x ∷ t) xs (suc n) e le = none_new p t xs n e (omega arith)

all_of : (p : Node → Bool) (xs : List Node) (n : ℕ) → list_all p xs ≡ true → n < length xs → is_node p xs n ≡ true
all_of p [] n e h = absurd (omega arith)
all_of p (x ∷ xs) zero e h = (and_parts (p x) (list_all p xs) e).0
all_of p (x ∷ xs) (suc n) e h = all_of p xs n (and_parts (p x) (list_all p xs) e).1 (omega arith)

all_new : (p : Node → Bool) (t xs : List Node) (n : ℕ) → list_all p xs ≡ true → length t ≤ n → n < length (t ++ xs) → is_node p (t ++ xs) n ≡ true
all_new p [] xs n e le h = all_of p xs n e h
all_new p (x ∷ t) xs zero e le h = absurd (omega arith)
all_new p (x ∷ t) xs (suc n) e le h = all_new p t xs n e (omega arith) (omega arith)

-- ## Lists of which one is changed

pub listed_here : (ls : List (List ℕ)) (c : ℕ) (l : List ℕ) → c < length ls → listed (slice_set ls c l) c ≡ l
listed_here ls c l h = ap (λ o. unwrap_or o []) (get_set_same ls c (get_or ls c []) l (slice_get-get_or ls c [] h))

pub listed_other : (ls : List (List ℕ)) (c d : ℕ) (l : List ℕ) → d ≢ c → listed (slice_set ls c l) d ≡ listed ls d
listed_other ls c d l ne = ap (λ o. unwrap_or o []) (get_set_other ls c d l ne)

-- ## No access

module _ (m : OpenMachine) (r : IsRooted m.tree) (a : AreListed m) (xs : List Node) (clock : ℕ) (finished : List (ℕ × Bool)) (joined stopped : List ℕ) (quiet : (c : ℕ) → list_any (λ x. touches_kind c x.kind) xs ≡ false)
    (fits : list_all (λ x. fits_cells (length m.first) x.kind) xs ≡ true) where
  pub quiet_more : (cs more : List Conflict) → cs ≡ m.conflicts ++ more → AreAskers (m.tree ++ xs) more
      → StayShut m (with_parts m (m.tree ++ xs) m.lists clock cs finished joined stopped)
      → AreListed (with_parts m (m.tree ++ xs) m.lists clock cs finished joined stopped)
  quiet_more cs more told askers still =
      listed_grown m r a xs m.lists clock cs more finished joined stopped told askers still refl a.rises (λ c s i. i) (λ c s i. inl i) (λ c n e i. i)
      (λ c n le e. absurd (cc (e, none_new (λ x. touches_kind c x.kind) m.tree xs n (quiet c) le)))
      (λ n le h. all_new (λ x. fits_cells (length m.first) x.kind) m.tree xs n fits le h)

  pub quiet_grown : StayShut m (with_parts m (m.tree ++ xs) m.lists clock m.conflicts finished joined stopped)
      → AreListed (with_parts m (m.tree ++ xs) m.lists clock m.conflicts finished joined stopped)
  quiet_grown still = quiet_more m.conflicts [] (sym (append-nil m.conflicts)) (All-nil (λ c. c.asker < length (m.tree ++ xs))) still

-- ## An access

access_touches : (c d : ℕ) (write : Option ℤ) (v : ℤ) → touches_kind d (access_kind c write v) ≡ nat_eq c d
access_touches c d None v = refl
access_touches c d (Some w) v = refl

access_fits : (c k : ℕ) (write : Option ℤ) (v : ℤ) → fits_cells k (access_kind c write v) ≡ nat_lt c k
access_fits c k None v = refl
access_fits c k (Some w) v = refl

module _ (m : OpenMachine) (r : IsRooted m.tree) (a : AreListed m) (p c stamp : ℕ) (write : Option ℤ) (v : ℤ) (place : IsPlace m.tree p) (there : c < length m.lists) (next : IsNextStamp m.tree p stamp)
    (last : (u : ℕ) → has (live m c) u ≡ true → u < stamp) where
  abbrev t : List Node
  t = m.tree

  abbrev x : Node
  x = fresh_node p (access_kind c write v) stamp

  abbrev u : List Node
  u = t ++ x ∷ []

  abbrev ls : List (List ℕ)
  ls = slice_set m.lists c (live m c ++ stamp ∷ [])

  here : listed ls c ≡ live m c ++ stamp ∷ []
  here = listed_here m.lists c (live m c ++ stamp ∷ []) there

  other : (d : ℕ) → d ≢ c → listed ls d ≡ live m d
  other d ne = listed_other m.lists c d (live m c ++ stamp ∷ []) ne

  below_stamp : (y : ℕ) → In y (live m c) → y < stamp
  below_stamp y i = last y (any_from (λ n. nat_eq n y) y (live m c) i (eq-eqb y y refl))

  rise : (d : ℕ) → Rises (listed ls d)
  rise d = elim (cases_eq d c) [
    | inl q ↦ (let P : List ℕ → Type 0 = λ us. Rises us in subst P (sym (ap (listed ls) q ∙ here)) (rises_more (live m c) stamp (a.rises c) below_stamp))
    | inr ne ↦ (let P : List ℕ → Type 0 = λ us. Rises us in subst P (sym (other d ne)) (a.rises d))
  ]

  pub kept : (d s : ℕ) → In s (live m d) → In s (listed ls d)
  kept d s i =
      let P : List ℕ → Type 0 = λ us. In s us in
      elim (cases_eq d c) [
        | inl q ↦ subst P (sym (ap (listed ls) q ∙ here)) (append_in s (live m c) (stamp ∷ []) (inl (let Q : ℕ → Type 0 = λ d. In s (live m d) in subst Q q i)))
        | inr ne ↦ subst P (sym (other d ne)) i
      ]

  has_new : HasAccess u c stamp
  has_new = (length t, node_new t x (λ y. touches_kind c y.kind) ∙ access_touches c c write v ∙ eq-eqb c c refl, number_new t x (λ y. y.stamp))

  split : (d s : ℕ) → In s (listed ls d) → In s (live m d) ⊎ ((d ≡ c) × (s ≡ stamp))
  split d s i =
      let P : List ℕ → Type 0 = λ us. In s us in
      elim (cases_eq d c) [
        | inl q ↦ elim (in_append s (live m c) (stamp ∷ []) (subst P (ap (listed ls) q ∙ here) i)) [
          | inl j ↦ inl (let Q : ℕ → Type 0 = λ d. In s (live m d) in subst Q (sym q) j)
          | inr j ↦ elim j [ inl e ↦ inr (q, e) | inr z ↦ absurd z ]
        ]
        | inr ne ↦ inl (subst P (other d ne) i)
      ]

  came : (d s : ℕ) → In s (listed ls d) → In s (live m d) ⊎ HasAccess u d s
  came d s i = elim (split d s i) [
    | inl j ↦ inl j
    | inr z ↦ inr (let P : ℕ → Type 0 = λ d. HasAccess u d s in let Q : ℕ → Type 0 = λ s. HasAccess u c s in subst P (sym z.0) (subst Q (sym z.1) has_new))
  ]

  old_only : (d n : ℕ) → touches t d n ≡ true → In (stamp_of t n) (listed ls d) → In (stamp_of t n) (live m d)
  old_only d n e i = elim (split d (stamp_of t n) i) [
    | inl j ↦ j
    | inr z ↦ absurd ((next.fresh n (node_there (λ y. touches_kind d y.kind) t n e)).0 z.1)
  ]

  pub new_in : (d n : ℕ) → length t ≤ n → touches u d n ≡ true → In (stamp_of u n) (listed ls d) × (is_live u n ≡ true)
  new_in d n le e =
      let low = node_there (λ y. touches_kind d y.kind) u n e in
      let at : n ≡ length t = omega (arith, length_more t x) in
      let cell : c ≡ d = eqb-true c d (sym (access_touches c d write v) ∙ sym (node_new t x (λ y. touches_kind d y.kind)) ∙ ap (touches u d) (sym at) ∙ e) in
      let stamped : stamp_of u n ≡ stamp = ap (stamp_of u) at ∙ number_new t x (λ y. y.stamp) in
      let P : List ℕ → Type 0 = λ us. In (stamp_of u n) us in (
        subst P (sym (ap (listed ls) (sym cell) ∙ here)) (append_in (stamp_of u n) (live m c) (stamp ∷ []) (inr (inl stamped))),
        ap (is_live u) at ∙ live_new t x r place,
      )

  fits : (n : ℕ) → length t ≤ n → n < length u → is_node (λ y. fits_cells (length m.first) y.kind) u n ≡ true
  fits n le h =
      let at : n ≡ length t = omega (arith, length_more t x) in
      let len = a.len in
      ap (is_node (λ y. fits_cells (length m.first) y.kind) u) at ∙ node_new t x (λ y. fits_cells (length m.first) y.kind) ∙ access_fits c (length m.first) write v ∙ lt-ltb c (length m.first) (omega arith)

  pub access_listed : (clock : ℕ) (finished : List (ℕ × Bool)) (joined stopped : List ℕ)
      → StayShut m (with_parts m u ls clock m.conflicts finished joined stopped) → AreListed (with_parts m u ls clock m.conflicts finished joined stopped)
  access_listed clock finished joined stopped still =
      listed_grown m r a (x ∷ []) ls clock m.conflicts [] finished joined stopped (sym (append-nil m.conflicts)) (All-nil (λ c. c.asker < length u)) still
      (length-set m.lists c (live m c ++ stamp ∷ [])) rise kept came old_only new_in fits
