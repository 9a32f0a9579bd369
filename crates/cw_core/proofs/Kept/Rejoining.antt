-- The rows of a core after a join.
use Rattle.std.proofs.Common.{◌≡◌, ◌≢◌, ℕ, ◌+◌, ◌<◌, ◌≤◌, List, [], ◌∷◌, length, refl, ap, sym, ◌∙◌, subst, arith, Bool, true, false, cond, Option, Some, None, nat_eq, nat_le, inl, inr}
use Rattle.std.specs.Prelude.{◌⊎◌, ◌&&◌, ◌||◌, not, min, ℤ, slice_get}
use Rattle.std.specs.List.{list_all}
use Rattle.std.proofs.Math.Nat.{min-le_left, min-le_right}
use Rattle.std.proofs.lemmas.Bool.{and_parts, or_left, or_parts, not-true, cases_Bool, cases_eq, eqb-true, eq-eqb, ne_eqb, false_from_ne_true}
use Rattle.cw_tree.specs.declared.node.Node.{Node}
use Rattle.cw_tree.specs.declared.conflict.Conflict.{Conflict}
use Rattle.cw_tree.specs.declared.node.Kind.{Kind}
use Rattle.cw_tree.specs.declared.node.Kind.TheVariants.{Strand, Fork, Block, Read, Write, Out, Tried, Cancel}
use Rattle.cw_tree.specs.Nodes.{passes, is_strand_kind, is_fork_kind, is_tried_kind, parent_of, is_strand, is_fork, is_tried, all_nodes}
use Rattle.cw_tree.specs.Walks.{has, is_above, is_ancestor}
use Rattle.cw_tree.specs.Series.{strand_of, children}
use Rattle.cw_tree.specs.Shape.{IsTree}
use Rattle.cw_tree.proofs.Lists.{In, any_in, all_in}
use Rattle.cw_tree.proofs.Members.{any_same}
use Rattle.cw_tree.proofs.Walks.There.{node_there}
use Rattle.cw_tree.proofs.Walks.Kin.{branch, fork_child}
use Rattle.cw_tree.proofs.Walks.Ancestors.{ancestor_above, above_ancestor, ancestor_le, ancestor_trans, ancestor_up}
use Rattle.cw_tree.proofs.Walks.Strands.{strand_over, strand_of_le}
use Rattle.cw_tree.proofs.InOrder.DepthFirst.{child_is, child_in}
use Rattle.cw_trace.specs.Columns.{ColumnTable, used}
use Rattle.cw_trace.specs.Stands.{fork_column}
use Rattle.cw_open.specs.Machine.{OpenMachine, has_finished, waits, is_running, falls}
use Rattle.cw_open.specs.Open.{is_open, AreNested}
use Rattle.cw_open.proofs.Laws.Named.{strand_is}
use Rattle.cw_open.proofs.Open.Kinds.{finished_shut, unjoined_open}
use Rattle.cw_core.specs.declared.row.Row.{Row}
use Rattle.cw_core.specs.State.{CoreState, is_split}
use Rattle.cw_core.specs.Laws.{IsCore}
use Rattle.cw_core.specs.Kept.{IsMade, IsRow, AreRows, IsAtStake, IsVictim, is_counted, with_row_changed, with_joined, with_back, least}
use Rattle.cw_core.proofs.Events.Going.{well}
use Rattle.cw_core.proofs.Kept.Changed.{length_changed, was_changed}
use Rattle.cw_core.proofs.Events.OneFork.{one_fork, none_within}
use Rattle.cw_core.proofs.Kept.SameTree.{with_same_tree, made_same}

-- what is least is at most each
least_left : (a b : Option ℕ) (x v : ℕ) → least a b ≡ Some x → (y : ℕ) → a ≡ Some y → y ≤ v → x ≤ v
least_left (Some a) None x v e y q le = omega (arith, option_same a x e, option_same a y q, le) where
  option_same : (a b : ℕ) → Some a ≡ Some b → a ≡ b
  option_same a b e = cc e
least_left (Some a) (Some b) x v e y q le = omega (arith, option_same (min a b) x e, option_same a y q, min-le_left a b, le) where
  option_same : (a b : ℕ) → Some a ≡ Some b → a ≡ b
  option_same a b e = cc e
least_left None b x v e y q le = absurd (cc q)

least_right : (a b : Option ℕ) (x v : ℕ) → least a b ≡ Some x → (y : ℕ) → b ≡ Some y → y ≤ v → x ≤ v
least_right None (Some b) x v e y q le = omega (arith, option_same b x e, option_same b y q, le) where
  option_same : (a b : ℕ) → Some a ≡ Some b → a ≡ b
  option_same a b e = cc e
least_right (Some a) (Some b) x v e y q le = omega (arith, option_same (min a b) x e, option_same b y q, min-le_right a b, le) where
  option_same : (a b : ℕ) → Some a ≡ Some b → a ≡ b
  option_same a b e = cc e
least_right a None x v e y q le = absurd (cc q)

-- it is none only where both are, and else one of them
none_both : (a b : Option ℕ) → least a b ≡ None → (a ≡ None) × (b ≡ None)
none_both None None e = (refl, refl)
none_both None (Some b) e = absurd (cc e)
none_both (Some a) None e = absurd (cc e)
none_both (Some a) (Some b) e = absurd (cc e)

one_of : (a b : Option ℕ) (x : ℕ) → least a b ≡ Some x → (a ≡ Some x) ⊎ (b ≡ Some x)
one_of None b x e = inr e
one_of (Some a) None x e = inl e
one_of (Some a) (Some b) x e = elim (Rattle.std.proofs.lemmas.Bool.cases_lt a b) [
  | inl less ↦ (let q : min a b ≡ a = omega arith in inl (ap Some (sym q) ∙ e))
  | inr le ↦ (let q : min a b ≡ b = omega arith in inr (ap Some (sym q) ∙ e))
]

module _ (first : List ℤ) (k : CoreState) (core : IsCore first k) (askers : (i : ℕ) (c : Conflict) → slice_get k.machine.conflicts i ≡ Some c → is_tried k.machine.tree c.asker ≡ true)
    (f : ℕ) (fork : is_fork k.machine.tree f ≡ true) (unjoined : has k.machine.joined f ≡ false) (all : list_all (has_finished k.machine) (children k.machine.tree f) ≡ true)
    (d : ColumnTable) (same : used d ≡ used k.tier) (room : d.room ≡ k.tier.room) where
  abbrev m : OpenMachine
  m = k.machine

  abbrev t : List Node
  t = m.tree

  abbrev p : ℕ
  p = strand_of t f

  abbrev pub z : CoreState
  z = with_same_tree k m.finished (f ∷ m.joined) m.stopped d k.splits k.halt same room

  tree : IsTree t
  tree = (well first k core).sound.tree

  nested : AreNested t (is_open m)
  nested = (well first k core).nested

  there : f < length t
  there = node_there (λ y. is_fork_kind y.kind) t f fork

  opens : (g : ℕ) → is_fork t g ≡ true → has m.joined g ≡ false → is_open m g ≡ true
  opens g fg e = unjoined_open k.machine g fg e

  one : (g : ℕ) → is_fork t g ≡ true → strand_of t g ≡ p → has m.joined g ≡ false → g ≡ f
  one g fg own e = one_fork m tree nested g f fg fork (opens g fg e) (opens f fork unjoined) own

  waits_no : waits z.machine p ≡ false
  waits_no = false_from_ne_true (waits z.machine p) (λ e.
      let w = any_in (λ g. is_fork t g && nat_eq (strand_of t g) p && not (has (f ∷ m.joined) g)) (all_nodes t) e in
      let a = and_parts (is_fork t w.0 && nat_eq (strand_of t w.0) p) (not (has (f ∷ m.joined) w.0)) w.2 in
      let b = and_parts (is_fork t w.0) (nat_eq (strand_of t w.0) p) a.0 in
      let c = or_parts (nat_eq f w.0) (has m.joined w.0) (not-true (has (f ∷ m.joined) w.0) a.1) in
      absurd (cc (eq-eqb f w.0 (sym (one w.0 b.0 (eqb-true (strand_of t w.0) p b.1) c.1)), c.0)))

  waits_other : (n : ℕ) → n ≢ p → waits z.machine n ≡ waits m n
  waits_other n ne = any_same (λ g. is_fork t g && nat_eq (strand_of t g) n && not (has (f ∷ m.joined) g)) (λ g. is_fork t g && nat_eq (strand_of t g) n && not (has m.joined g)) (all_nodes t) (λ g i. at g (cases_eq f g)) where
    at : (g : ℕ) → (f ≡ g) ⊎ (f ≢ g) → (is_fork t g && nat_eq (strand_of t g) n && not (has (f ∷ m.joined) g)) ≡ (is_fork t g && nat_eq (strand_of t g) n && not (has m.joined g))
    at g (inl e) =
        let off : nat_eq (strand_of t g) n ≡ false = ne_eqb (strand_of t g) n (λ q. ne (sym q ∙ ap (strand_of t) (sym e))) in
        ap (λ b. is_fork t g && b && not (has (f ∷ m.joined) g)) off ∙ none (is_fork t g) (not (has (f ∷ m.joined) g)) (not (has m.joined g)) ∙ ap (λ b. is_fork t g && b && not (has m.joined g)) (sym off) where
          none : (a b c : Bool) → (a && false && b) ≡ (a && false && c)
          none true b c = refl
          none false b c = refl
    at g (inr e) = ap (λ b. is_fork t g && nat_eq (strand_of t g) n && not (b || has m.joined g)) (ne_eqb f g e)

  -- ## Victims

  counted : (n : ℕ) → n ≢ p → is_counted z.machine n ≡ true → is_counted m n ≡ true
  counted n ne = by (has_finished m n) refl where
    by : (b : Bool) → has_finished m n ≡ b → is_counted z.machine n ≡ true → is_counted m n ≡ true
    by true e g =
        let a : not (nat_eq f (parent_of t n) || has m.joined (parent_of t n)) ≡ true = sym (ap (λ b. cond b (not (nat_eq f (parent_of t n) || has m.joined (parent_of t n))) (is_running z.machine n)) e) ∙ g in
        ap (λ b. cond b (not (has m.joined (parent_of t n))) (is_running m n)) e
        ∙ Rattle.std.proofs.lemmas.Bool.not_from_false (has m.joined (parent_of t n)) (or_parts (nat_eq f (parent_of t n)) (has m.joined (parent_of t n)) (not-true (nat_eq f (parent_of t n) || has m.joined (parent_of t n)) a)).1
    by false e g =
        let a : is_running z.machine n ≡ true = sym (ap (λ b. cond b (not (nat_eq f (parent_of t n) || has m.joined (parent_of t n))) (is_running z.machine n)) e) ∙ g in
        ap (λ b. cond b (not (has m.joined (parent_of t n))) (is_running m n)) e
        ∙ ap (λ b. is_strand t n && not (has_finished m n) && not b && not (has m.stopped n)) (sym (waits_other n ne)) ∙ a

  stake_other : (n v : ℕ) (c : Conflict) → n ≢ p → IsAtStake z.machine n c v → IsAtStake m n c v
  stake_other n v c ne w = record {
    over = w.over;
    falls = w.falls;
    beside = λ g fg own e. w.beside g fg own (ap (λ b. b || has m.joined g) (ne_eqb f g (λ q. ne (sym own ∙ ap (strand_of t) (sym q)))) ∙ e);
  }

  victim_other : (n : ℕ) → n ≢ p → (o : Option ℕ) → IsVictim m n o → IsVictim z.machine n o
  victim_other n ne None w = λ i v c at stake. w i v c at (stake_other n v c ne stake)
  victim_other n ne (Some y) w = (λ i v c at stake. w.0 i v c at (stake_other n v c ne stake), λ e. w.1 (counted n ne e))

  -- ## The strand that goes on

  module _ (l q : ℕ) (halves : children t f ≡ l ∷ q ∷ []) (ol oq : Option ℕ) (left : IsVictim m l ol) (right : IsVictim m q oq) (quiet : IsVictim m p None) where
    is_half : (c : ℕ) → In c (children t f) → (c ≡ l) ⊎ (c ≡ q)
    is_half c i =
        let P : List ℕ → Type 0 = λ ns. In c ns in
        elim (subst P halves i) [ inl e ↦ inl e | inr j ↦ elim j [ inl e ↦ inr e | inr n ↦ absurd n ] ]

    half_in : (c : ℕ) → (c ≡ l) ⊎ (c ≡ q) → In c (children t f)
    half_in c e = let P : List ℕ → Type 0 = λ ns. In c ns in subst P (sym halves) (elim e [ inl a ↦ inl a | inr a ↦ inr (inl a) ])

    shut : (c : ℕ) → In c (children t f) → (is_strand t c ≡ true) × (has_finished m c ≡ true)
    shut c i =
        let w = child_is t f c i in
        (fork_child t tree c w.some w.there (ap (is_fork t) w.parent ∙ fork), all_in (has_finished m) c (children t f) all i)

    -- what is at stake for the strand is at stake for one of the two
    stake_half : (v : ℕ) (c : Conflict) → is_tried t c.asker ≡ true → IsAtStake z.machine p c v → ((x : ℕ) × In x (children t f) × IsAtStake m x c v) ⊎ IsAtStake m p c v
    stake_half v c tried w =
        let low : c.asker < length t = node_there (λ y. is_tried_kind y.kind) t c.asker tried in
        elim (cases_Bool (is_above t f c.asker)) [
          | inr off ↦ inr (record {
            over = w.over;
            falls = w.falls;
            beside = λ g fg own e. ap (λ g. is_above t g c.asker) (one g fg own e) ∙ off;
          })
          | inl over ↦
              (let b = branch t tree.rooted f c.asker low (λ e. absurd (let h = Rattle.cw_tree.proofs.NextNodes.Before.above_less t tree.rooted f c.asker low over in omega arith)) (above_ancestor t f c.asker over) in
              let i : In b.child (children t f) = child_in t f b.child (record { some = b.some; there = let h = ancestor_le t tree.rooted b.child c.asker low b.over in omega arith; parent = b.parent }) in
              let s = shut b.child i in
              let ne : c.asker ≢ b.child = λ e. (let a = ap (is_strand t) e ∙ s.0 in let x = no_tried t c.asker tried in cc (a, x)) in
              inl (
                b.child,
                i,
                record {
                  over = sym (ancestor_above t b.child c.asker ne) ∙ b.over;
                  falls = w.falls;
                  beside = λ g fg own e. absurd (let a = opens g fg e in let y = none_within m tree nested b.child g fg own (finished_shut m b.child s.0 s.1) in cc (a, y));
                },
              ))
        ] where
          no_tried : (t : List Node) (n : ℕ) → is_tried t n ≡ true → is_strand t n ≡ false
          no_tried t n e = by (slice_get t n) e where
            kinds : (k : Kind) → is_tried_kind k ≡ true → is_strand_kind k ≡ false
            kinds Strand f = absurd (cc f)
            kinds Fork f = refl
            kinds Block f = refl
            kinds (Read c v) f = refl
            kinds (Write c v) f = refl
            kinds (Out v) f = refl
            kinds (Cancel back) f = refl
            kinds (Tried c) f = refl

            by : (o : Option Node) → passes (λ x. is_tried_kind x.kind) o ≡ true → passes (λ x. is_strand_kind x.kind) o ≡ false
            by None f = absurd (cc f)
            by (Some x) f = kinds x.kind f

    -- what is at stake for a strand is named by its victim
    named_by : (n v i : ℕ) (c : Conflict) → slice_get m.conflicts i ≡ Some c → IsAtStake m n c v → (o : Option ℕ) → IsVictim m n o → (y : ℕ) × (o ≡ Some y) × (y ≤ v)
    named_by n v i c at stake None w = absurd (let h = w i v c at stake in omega arith)
    named_by n v i c at stake (Some y) w = (y, refl, w.0 i v c at stake)

    half_named : (v i : ℕ) (c : Conflict) → slice_get m.conflicts i ≡ Some c → (x : ℕ) → In x (children t f) → IsAtStake m x c v → ((y : ℕ) × (ol ≡ Some y) × (y ≤ v)) ⊎ ((y : ℕ) × (oq ≡ Some y) × (y ≤ v))
    half_named v i c at x j stake =
        let P : ℕ → Type 0 = λ x. IsAtStake m x c v in
        elim (is_half x j) [ inl e ↦ inl (named_by l v i c at (subst P e stake) ol left) | inr e ↦ inr (named_by q v i c at (subst P e stake) oq right) ]

    bound : (x v : ℕ) → least ol oq ≡ Some x → (i : ℕ) (c : Conflict) → slice_get m.conflicts i ≡ Some c → IsAtStake z.machine p c v → x ≤ v
    bound x v e i c at w =
        elim (stake_half v c (askers i c at) w) [
          | inr own ↦ absurd (let h = quiet i v c at own in omega arith)
          | inl half ↦ elim (half_named v i c at half.0 half.1 half.2) [
            | inl y ↦ least_left ol oq x v e y.0 y.1 y.2
            | inr y ↦ least_right ol oq x v e y.0 y.1 y.2
          ]
        ]

    none_left : least ol oq ≡ None → (i v : ℕ) (c : Conflict) → slice_get m.conflicts i ≡ Some c → IsAtStake z.machine p c v → v < 0
    none_left e i v c at w =
        let both = none_both ol oq e in
        elim (stake_half v c (askers i c at) w) [
          | inr own ↦ quiet i v c at own
          | inl half ↦ elim (half_named v i c at half.0 half.1 half.2) [
            | inl y ↦ absurd (let a = both.0 in let b = y.1 in cc (a, b))
            | inr y ↦ absurd (let a = both.1 in let b = y.1 in cc (a, b))
          ]
        ]

    -- and the victim of one of the two is one for the strand
    falls_back : (x h : ℕ) → In h (children t f) → IsVictim m h (Some x) → (i : ℕ) × (c : Conflict) × (slice_get m.conflicts i ≡ Some c) × (is_above t p c.asker ≡ true) × (falls m c x ≡ true)
    falls_back x h j w =
        let s = shut h j in
        let b = child_is t f h j in
        let done : is_counted m h ≡ true =
        ap (λ b. cond b (not (has m.joined (parent_of t h))) (is_running m h)) s.1 ∙ ap (λ q. not (has m.joined q)) b.parent ∙ Rattle.std.proofs.lemmas.Bool.not_from_false (has m.joined f) unjoined in
        let y = w.1 done in
        let c = y.1 in
        let low : c.asker < length t = node_there (λ y. is_tried_kind y.kind) t c.asker (askers y.0 c y.2) in
        let over : is_ancestor t h c.asker ≡ true = above_ancestor t h c.asker y.3 in
        let up : is_ancestor t p h ≡ true =
        (let Q : ℕ → Type 0 = λ q. is_ancestor t p q ≡ true in ancestor_up t tree.rooted p h b.some b.there (subst Q (sym b.parent) (strand_over t tree.rooted f there))) in
        let less : parent_of t h < h = tree.rooted h b.some b.there in
        let le : p ≤ f = strand_of_le t tree.rooted f there in
        let high : h ≤ c.asker = ancestor_le t tree.rooted h c.asker low over in
        let at = b.parent in
        let ne : c.asker ≢ p = λ e. omega (arith, less, le, high, at, e) in
        (y.0, c, y.2, sym (ancestor_above t p c.asker ne) ∙ ancestor_trans t tree.rooted p h c.asker low up over, y.4)

    pub victim_back : IsVictim z.machine p (least ol oq)
    victim_back = by (least ol oq) refl where
      some_of : (o : Option ℕ) (n x : ℕ) → IsVictim m n o → o ≡ Some x → IsVictim m n (Some x)
      some_of o n x w e = let P : Option ℕ → Type 0 = λ o. IsVictim m n o in subst P e w

      by : (o : Option ℕ) → least ol oq ≡ o → IsVictim z.machine p o
      by None e = none_left e
      by (Some x) e = (
        λ i v c at stake. bound x v e i c at stake,
        λ g. elim (one_of ol oq x e) [ inl a ↦ falls_back x l (half_in l (inl refl)) (some_of ol l x left a) | inr b ↦ falls_back x q (half_in q (inr refl)) (some_of oq q x right b) ],
      )

    -- ## Rows

    abbrev o : Option ℕ
    o = least ol oq

    waits_at : (n : ℕ) (r : Row) (b : Bool) → nat_eq n p ≡ b → IsRow k n r → is_strand t n ≡ true → waits z.machine n ≡ (cond b (with_back o) (λ r. r) r).now.waits
    waits_at n r true e w g = ap (waits z.machine) (eqb-true n p e) ∙ waits_no
    waits_at n r false e w g = waits_other n (λ q. absurd (cc (e, eq-eqb n p q))) ∙ w.now.waits g

    victim_at : (n : ℕ) (r : Row) (b : Bool) → nat_eq n p ≡ b → IsRow k n r → is_strand t n ≡ true → IsVictim z.machine n (cond b (with_back o) (λ r. r) r).now.victim
    victim_at n r true e w g = let P : ℕ → Type 0 = λ n. IsVictim z.machine n o in subst P (sym (eqb-true n p e)) victim_back
    victim_at n r false e w g = victim_other n (λ q. absurd (cc (e, eq-eqb n p q))) r.now.victim (w.now.victim g)

    quiet_at : (n : ℕ) (r : Row) (b : Bool) → IsRow k n r → is_strand t n ≡ true → (cond b (with_back o) (λ r. r) r).now.waits ≡ true → (cond b (with_back o) (λ r. r) r).now.victim ≡ None
    quiet_at n r true w g e = absurd (cc e)
    quiet_at n r false w g e = w.now.quiet g e

    back_at : (n : ℕ) (r : Row) (b : Bool) → nat_eq n p ≡ b → IsRow k n r → n ≢ f → IsRow z n (cond b (with_back o) (λ r. r) r)
    back_at n r b e w ne =
        let kept = made_same k m.finished (f ∷ m.joined) m.stopped d k.splits k.halt same room n r.made w.made in
        let split : is_fork t n ≡ true → is_split z n ≡ r.now.split = λ g. ap (λ m. nat_le (fork_column t n + 2) m && has k.splits (fork_column t n)) room ∙ w.now.split g in
        let joined : has (f ∷ m.joined) n ≡ r.now.joined = ap (λ b. b || has m.joined n) (ne_eqb f n (λ q. ne (sym q))) ∙ w.now.joined in
        put b (waits_at n r b e w) (victim_at n r b e w) (quiet_at n r b w) kept split joined w where
          put : (b : Bool) → (is_strand t n ≡ true → waits z.machine n ≡ (cond b (with_back o) (λ r. r) r).now.waits) → (is_strand t n ≡ true → IsVictim z.machine n (cond b (with_back o) (λ r. r) r).now.victim)
              → (is_strand t n ≡ true → (cond b (with_back o) (λ r. r) r).now.waits ≡ true → (cond b (with_back o) (λ r. r) r).now.victim ≡ None) → IsMade z n r.made → (is_fork t n ≡ true → is_split z n ≡ r.now.split) → has (f ∷ m.joined) n ≡ r.now.joined → IsRow k n r
              → IsRow z n (cond b (with_back o) (λ r. r) r)
          put true waits victim quiet kept split joined w = record {
            made = kept;
            tail = w.tail;
            now = record { place = w.now.place; waits = waits; finished = w.now.finished; dead = w.now.dead; victim = victim; quiet = quiet; split = split; joined = joined };
          }
          put false waits victim quiet kept split joined w = record {
            made = kept;
            tail = w.tail;
            now = record { place = w.now.place; waits = waits; finished = w.now.finished; dead = w.now.dead; victim = victim; quiet = quiet; split = split; joined = joined };
          }

    -- the fork itself
    fork_at : (r : Row) → IsRow k f r → IsRow z f (with_joined r)
    fork_at r w =
        let other : f ≢ p = λ e. (let a = strand_is t tree.root f in let b = ap (is_strand t) e in let c = Rattle.cw_tree.proofs.NodeKinds.fork_no_strand t f fork in cc (a, b, c)) in
        record {
          made = made_same k m.finished (f ∷ m.joined) m.stopped d k.splits k.halt same room f r.made w.made;
          tail = w.tail;
          now = record {
            place = w.now.place;
            waits = λ g. waits_other f other ∙ w.now.waits g;
            finished = w.now.finished;
            dead = w.now.dead;
            victim = λ g. victim_other f other r.now.victim (w.now.victim g);
            quiet = w.now.quiet;
            split = λ g. ap (λ m. nat_le (fork_column t f + 2) m && has k.splits (fork_column t f)) room ∙ w.now.split g;
            joined = or_left (nat_eq f f) (has m.joined f) (eq-eqb f f refl);
          };
        }

    pub join_rows : (rows : List Row) → AreRows k rows → AreRows z (with_row_changed with_joined f (with_row_changed (with_back o) p rows))
    join_rows rows w = record {
      len = length_changed with_joined f (with_row_changed (with_back o) p rows) ∙ length_changed (with_back o) p rows ∙ w.len;
      each = λ n r e.
          (let c = was_changed with_joined f (with_row_changed (with_back o) p rows) n r e in
          let b = was_changed (with_back o) p rows n c.before c.there in
          let P : Row → Type 0 = λ r. IsRow z n r in
          elim (cases_eq n f) [
            | inr ne ↦
                (let is : r ≡ cond (nat_eq n p) (with_back o) (λ r. r) b.before = c.is ∙ ap (λ z. cond z (with_joined c.before) c.before) (ne_eqb n f ne) ∙ b.is ∙ either (nat_eq n p) b.before in
                subst P (sym is) (back_at n b.before (nat_eq n p) refl (w.each n b.before b.there) ne))
            | inl at ↦
                (let off : nat_eq n p ≡ false = ne_eqb n p (λ q. (let a = strand_is t tree.root f in let g = ap (is_strand t) (sym at ∙ q) in let x = Rattle.cw_tree.proofs.NodeKinds.fork_no_strand t f fork in cc (a, g, x))) in
                let is : r ≡ with_joined b.before = c.is ∙ ap (λ z. cond z (with_joined c.before) c.before) (eq-eqb n f at) ∙ ap with_joined (b.is ∙ ap (λ z. cond z (with_back o b.before) b.before) off) in
                let Q : ℕ → Type 0 = λ n. IsRow z n (with_joined b.before) in
                let there : slice_get rows f ≡ Some b.before = ap (slice_get rows) (sym at) ∙ b.there in
                subst P (sym is) (subst Q (sym at) (fork_at b.before (w.each f b.before there))))
          ]);
    } where
      either : (b : Bool) (r : Row) → cond b (with_back o r) r ≡ cond b (with_back o) (λ r. r) r
      either true r = refl
      either false r = refl
