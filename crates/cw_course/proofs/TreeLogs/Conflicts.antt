-- The conflicts of logs that have all nodes of a tree are those of the tree, except for the numbers of its nodes.
use Rattle.std.proofs.Common.{◌≡◌, ℕ, zero, suc, ◌+◌, ◌<◌, ◌≤◌, List, [], ◌∷◌, ◌++◌, length, map, get_or, refl, ap, sym, ◌∙◌, subst, arith, Bool, true, false, cond, Some, inl, inr, nat_eq}
use Rattle.std.specs.Prelude.{Contains, filter, slice_get, slice_index}
use Rattle.std.specs.List.Sorted.{IsStrictlyIncreasing}
use Rattle.std.proofs.lemmas.Bool.{cases_Bool, eq-eqb, ne_eqb}
use Rattle.std.proofs.lemmas.List.{map-append}
use Rattle.std.proofs.lemmas.Option.{same_Some}
use Rattle.cw_tree.specs.declared.node.Node.{Node}
use Rattle.cw_tree.specs.declared.conflict.Conflict.{Conflict}
use Rattle.cw_tree.specs.Nodes.{passes, is_tried_kind, is_tried, all_nodes}
use Rattle.cw_tree.specs.Walks.{IsNumbered}
use Rattle.cw_tree.specs.Shape.{IsTree}
use Rattle.cw_tree.specs.InOrder.{asker_of}
use Rattle.cw_tree.specs.OneTree.{conflict_by, GoAlong}
use Rattle.cw_tree.proofs.Lists.{In}
use Rattle.cw_tree.proofs.Members.{in_append, append_in, in_below, in_filter, map_in, in_map, in_at, all_at, all_of}
use Rattle.cw_tree.proofs.Rising.{Rises, rises_map, rises_apart}
use Rattle.cw_tree.proofs.Ahead.{Apart, apart_filter, apart_below}
use Rattle.cw_log.specs.declared.log.Log.{Log}
use Rattle.cw_course.specs.Closings.{base_of, conflicts_of}
use Rattle.cw_course.specs.TreeLogs.{number_in_row, IsNodeOf, EachIsLogOf, AreLogsOf}
use Rattle.cw_course.proofs.TreeLogs.Laid.{earlier_less, start, row_long, LogAt, log_at}
use Rattle.cw_course.proofs.TreeLogs.Places.{number_at, stands, base}
use Rattle.cw_course.proofs.TreeLogs.Nodes.{node_of, row_full, differ}

-- ## Lists

at_in : {X : Type 0} (xs : List X) (k : ℕ) (d : X) → k < length xs → In (get_or xs k d) xs
at_in [] k d h = absurd (omega arith)
at_in (x ∷ xs) zero d h = inl refl
at_in (x ∷ xs) (suc k) d h = inr (at_in xs k d (omega arith))

contains_in : {X : Type 0} (xs : List X) (x : X) → Contains xs x → In x xs
contains_in {X = X} xs x c = let P : X → Type 0 = λ y. In y xs in subst P c.2 (at_in xs c.0 x c.1)

-- if keys differ, the elements with one key are one, or none
none : {X : Type 0} (p : X → Bool) (xs : List X) → ((x : X) → In x xs → p x ≡ false) → filter p xs ≡ []
none p [] e = refl
none p (x ∷ xs) e = ap (λ b. cond b (x ∷ filter p xs) (filter p xs)) (e x (inl refl)) ∙ none p xs (λ y i. e y (inr i))

only : {X : Type 0} (key : X → ℕ) (k : ℕ) (x : X) (xs : List X) → Apart (map key xs) → In x xs → key x ≡ k → filter (λ y. nat_eq (key y) k) xs ≡ x ∷ []
only key k x [] a i e = absurd i
only key k x (y ∷ ys) a (inl same) e =
    let here : key y ≡ k = sym (ap key same) ∙ e in
    let P : ℕ → Type 0 = λ v. In v (map key ys) in
    ap (λ b. cond b (y ∷ filter (λ z. nat_eq (key z) k) ys) (filter (λ z. nat_eq (key z) k) ys)) (eq-eqb (key y) k here)
    ∙ ap (λ zs. y ∷ zs) (none (λ z. nat_eq (key z) k) ys (λ z j. ne_eqb (key z) k (λ q. a.0 (subst P (q ∙ sym here) (map_in key z ys j)))))
    ∙ ap (λ z. z ∷ []) (sym same)
only key k x (y ∷ ys) a (inr i) e =
    let P : ℕ → Type 0 = λ v. In v (map key ys) in
    ap (λ b. cond b (y ∷ filter (λ z. nat_eq (key z) k) ys) (filter (λ z. nat_eq (key z) k) ys)) (ne_eqb (key y) k (λ q. a.0 (subst P (e ∙ sym q) (map_in key x ys i))))
    ∙ only key k x ys a.1 i e

increase_rises : (xs : List ℕ) → IsStrictlyIncreasing xs → Rises xs
increase_rises [] r = tt
increase_rises (x ∷ xs) r = (
  λ y i. (let z = in_at y xs i in let less : x < get_or xs z.0 0 = earlier_less (x ∷ xs) r 0 (suc z.0) (omega arith) (omega (arith, z.1)) in omega (arith, less, z.2)),
  increase_rises xs (λ k h. let less : get_or xs k 0 < get_or xs (suc k) 0 = earlier_less (x ∷ xs) r (suc k) (suc (suc k)) (omega arith) (omega arith) in
      let same : get_or xs (suc k) 0 ≡ get_or xs (k + 1) 0 = ap (slice_index xs) (let e : suc k ≡ k + 1 = omega arith in e) in omega (arith, less, same)),
)

rises_append : (xs ys : List ℕ) → Rises xs → Rises ys → ((x y : ℕ) → In x xs → In y ys → x < y) → Rises (xs ++ ys)
rises_append [] ys r s h = s
rises_append (x ∷ xs) ys r s h = (λ y i. elim (in_append y xs ys i) [ inl j ↦ r.0 y j | inr j ↦ h x y (inl refl) j ], rises_append xs ys r.1 s (λ a b i j. h a b (inr i) j))

-- ## Conflicts of logs

abbrev shifted : ℕ → Conflict → Conflict
shifted base c = record c { asker = base + c.asker }

askers_shifted : (base : ℕ) (cs : List Conflict) → map asker_of (map (shifted base) cs) ≡ map (λ a. base + a) (map asker_of cs)
askers_shifted base [] = refl
askers_shifted base (c ∷ cs) = ap (λ xs. (base + c.asker) ∷ xs) (askers_shifted base cs)

-- which conflict of which log
record Told (all ls : List Log) (d : Conflict) : Type 0 where
  j : ℕ
  log : Log
  there : slice_get ls j ≡ Some log
  conflict : Conflict
  known : In conflict log.conflicts
  is : d ≡ shifted (base_of all log.column) conflict

told : (all ls : List Log) (d : Conflict) → In d (conflicts_of all ls) → Told all ls d
told all [] d i = absurd i
told all (l ∷ ls) d i = elim (in_append d (map (shifted (base_of all l.column)) l.conflicts) (conflicts_of all ls) i) [
  | inl here ↦ (let z = in_map (shifted (base_of all l.column)) d l.conflicts here in record { j = 0; log = l; there = refl; conflict = z.0; known = z.1; is = z.2 })
  | inr more ↦ (let z = told all ls d more in record { j = suc z.j; log = z.log; there = z.there; conflict = z.conflict; known = z.known; is = z.is })
]

tells : (all ls : List Log) (j : ℕ) (l : Log) (c : Conflict) → slice_get ls j ≡ Some l → In c l.conflicts → In (shifted (base_of all l.column) c) (conflicts_of all ls)
tells all [] j l c e i = absurd (cc e)
tells all (k ∷ ls) zero l c e i =
    let P : Log → Type 0 = λ x. In (shifted (base_of all x.column) c) (map (shifted (base_of all k.column)) k.conflicts) in
    append_in _ (map (shifted (base_of all k.column)) k.conflicts) (conflicts_of all ls) (inl (at_log k l (same_Some k l e) i))
  where
    at_log : (k l : Log) → k ≡ l → In c l.conflicts → In (shifted (base_of all l.column) c) (map (shifted (base_of all k.column)) k.conflicts)
    at_log k l e = let P : Log → Type 0 = λ x. In c x.conflicts → In (shifted (base_of all x.column) c) (map (shifted (base_of all k.column)) k.conflicts) in subst P e (map_in (shifted (base_of all k.column)) c k.conflicts)
tells all (k ∷ ls) (suc j) l c e i = append_in _ (map (shifted (base_of all k.column)) k.conflicts) (conflicts_of all ls) (inr (tells all ls j l c e i))

module _ (t : List Node) (cs : List Conflict) (all : List Log) where
  -- their askers rise
  record Rise (ls : List Log) (off : ℕ) : Type 0 where
    rises : Rises (map asker_of (conflicts_of all ls))
    high : (v : ℕ) → In v (map asker_of (conflicts_of all ls)) → off ≤ v

  askers_rise : (ls : List Log) (nss : List (List ℕ)) (off : ℕ) → EachIsLogOf t cs ls nss → ((k : ℕ) (l : Log) → slice_get ls k ≡ Some l → base_of all l.column ≡ off + start nss k) → Rise ls off
  askers_rise [] nss off h b = record { rises = tt; high = λ v i. absurd i }
  askers_rise (l ∷ ls) [] off h b = absurd h
  askers_rise (l ∷ ls) (ns ∷ nss) off h b = with_rest (askers_rise ls nss (off + length ns) h.1 (λ k x e. b (suc k) x e ∙ omega arith)) where
    with_rest : Rise ls (off + length ns) → Rise (l ∷ ls) off
    with_rest rest =
        let here : base_of all l.column ≡ off = b 0 l refl ∙ omega arith in
        let own : List ℕ = map asker_of (map (shifted (base_of all l.column)) l.conflicts) in
        let others : List ℕ = map asker_of (conflicts_of all ls) in
        let split : map asker_of (conflicts_of all (l ∷ ls)) ≡ own ++ others = map-append asker_of (map (shifted (base_of all l.column)) l.conflicts) (conflicts_of all ls) in
        let in_own : (v : ℕ) → In v own → (off ≤ v) × (v < off + length ns) = λ v i. (
        let z = in_map asker_of v (map (shifted (base_of all l.column)) l.conflicts) i in
        let y = in_map (shifted (base_of all l.column)) z.0 l.conflicts z.1 in
        let low : y.0.asker < length l.nodes = all_at (λ (c : Conflict). c.asker < length l.nodes) l.conflicts h.0.there y.0 y.1 in
        let is : v ≡ base_of all l.column + y.0.asker = z.2 ∙ ap asker_of y.2 in
        (omega (arith, is, here), omega (arith, is, here, low, h.0.many))) in
        let own_rises : Rises own = subst Rises (sym (askers_shifted (base_of all l.column) l.conflicts))
        (rises_map (λ a. base_of all l.column + a) (map asker_of l.conflicts) (increase_rises (map asker_of l.conflicts) h.0.askers) (λ x y i j less. omega arith)) in
        record {
          rises = subst Rises (sym split) (rises_append own others own_rises rest.rises (λ x y i j. let a = (in_own x i).1 in let c = rest.high y j in omega arith));
          high = λ v i. (let P : List ℕ → Type 0 = λ xs. In v xs in elim (in_append v own others (subst P split i)) [ inl j ↦ (in_own v j).0 | inr j ↦ (let c = rest.high v j in omega arith) ]);
        }

-- ## All of them

module _ (t : List Node) (cs : List Conflict) (all : List Log) (nss : List (List ℕ)) (w : IsNumbered t) (tree : IsTree t) (a : AreLogsOf t cs all nss) where
  abbrev f : ℕ → ℕ
  f = number_in_row nss

  abbrev others : List Conflict
  others = conflicts_of all all

  others_apart : Apart (map asker_of others)
  others_apart = rises_apart (map asker_of others) (askers_rise t cs all all nss 0 a.each (λ k l e. base t cs all nss a k l e ∙ omega arith)).rises

  askers_apart : Apart (map asker_of cs)
  askers_apart = subst Apart (sym a.askers) (apart_filter (is_tried t) (all_nodes t) (apart_below (length t)))

  asker_is : (c : Conflict) → In c cs → (c.asker < length t) × (is_tried t c.asker ≡ true)
  asker_is c i =
      let P : List ℕ → Type 0 = λ ns. In c.asker ns in
      let z = in_filter (is_tried t) c.asker (all_nodes t) (subst P a.askers (map_in asker_of c cs i)) in
      (in_below c.asker (length t) z.0, z.1)

  -- a conflict of log j, in both trees
  abbrev in_tree : List ℕ → Conflict → Conflict
  in_tree ns e = record e { asker = slice_index ns e.asker }

  module _ (j : ℕ) (ns : List ℕ) (beside : slice_get nss j ≡ Some ns) (s : LogAt t cs all j ns) (e : Conflict) (i : In e s.log.conflicts) where
    low : e.asker < length ns
    low = let l : e.asker < length s.log.nodes = all_at (λ (c : Conflict). c.asker < length s.log.nodes) s.log.conflicts s.is.there e i in omega (arith, l, s.is.many)

    listed : In (in_tree ns e) cs
    listed = contains_in cs (in_tree ns e) (all_at (λ (c : Conflict). Contains cs (in_tree ns c)) s.log.conflicts s.is.conflicts e i)

    asker_same : base_of all s.log.column + e.asker ≡ f (slice_index ns e.asker)
    asker_same = let begins = base t cs all nss a j s.log s.there in omega (arith, begins, number_at t cs all nss a j e.asker ns beside low)

    both : shifted (base_of all s.log.column) e ≡ conflict_by f (in_tree ns e)
    both = ap (λ x. record e { asker = x }) asker_same

  other_of : (d : Conflict) → In d others → (c : Conflict) × In c cs × (d ≡ conflict_by f c)
  other_of d i =
      let z = told all all d i in
      let ns = numbers_at all nss z.j z.log a.each z.there in
      let s = log_at t cs all nss z.j ns.0 a.each ns.1 in
      let same : s.log ≡ z.log = same_Some s.log z.log (sym s.there ∙ z.there) in
      let P : Log → Type 0 = λ l. In z.conflict l.conflicts in
      let known : In z.conflict s.log.conflicts = subst P (sym same) z.known in
      (in_tree ns.0 z.conflict, listed z.j ns.0 ns.1 s z.conflict known, z.is ∙ ap (λ (l : Log). shifted (base_of all l.column) z.conflict) (sym same) ∙ both z.j ns.0 ns.1 s z.conflict known)
    where
      numbers_at : (ls : List Log) (ms : List (List ℕ)) (j : ℕ) (l : Log) → EachIsLogOf t cs ls ms → slice_get ls j ≡ Some l → (ns : List ℕ) × (slice_get ms j ≡ Some ns)
      numbers_at [] ms j l h e = absurd (cc e)
      numbers_at (k ∷ ls) [] j l h e = absurd h
      numbers_at (k ∷ ls) (ns ∷ ms) zero l h e = (ns, refl)
      numbers_at (k ∷ ls) (ns ∷ ms) (suc j) l h e = numbers_at ls ms j l h.1 e

  tried_kind : (ns : List ℕ) (i n : ℕ) (x : Node) → IsNodeOf t ns i x → slice_index ns i ≡ n → is_tried t n ≡ is_tried_kind x.kind
  tried_kind ns zero n x h e = ap (is_tried t) (sym e) ∙ ap (passes (λ (y : Node). is_tried_kind y.kind)) h
  tried_kind ns (suc i) n x h e = ap (is_tried t) (sym e) ∙ ap (passes (λ (y : Node). is_tried_kind y.kind)) h.1

  -- a refused access has one conflict in both
  of_tried : (n : ℕ) → n < length t → is_tried t n ≡ true → filter (λ c. nat_eq (asker_of c) (f n)) others ≡ map (conflict_by f) (filter (λ c. nat_eq (asker_of c) n) cs)
  of_tried n h tried =
      let s = stands t cs all nss a n h in
      let z = node_of t cs all nss w tree a n s in
      let there : is_tried s.log.log.nodes s.i ≡ true = ap (passes (λ (y : Node). is_tried_kind y.kind)) z.1 ∙ sym (tried_kind s.numbers s.i n z.0 z.2 s.is) ∙ tried in
      let e = in_map asker_of s.i s.log.log.conflicts (contains_in (map asker_of s.log.log.conflicts) s.i (s.log.is.tried s.i there)) in
      let asks : slice_index s.numbers e.0.asker ≡ n = ap (slice_index s.numbers) (sym e.2) ∙ s.is in
      let same = both s.j s.numbers s.beside s.log e.0 e.1 in
      let known : In (conflict_by f (in_tree s.numbers e.0)) others = (let P : Conflict → Type 0 = λ d. In d others in subst P same (tells all all s.j s.log.log e.0 s.log.there e.1)) in
      only asker_of (f n) (conflict_by f (in_tree s.numbers e.0)) others others_apart known (ap f asks)
      ∙ ap (map (conflict_by f)) (sym (only asker_of n (in_tree s.numbers e.0) cs askers_apart (listed s.j s.numbers s.beside s.log e.0 e.1) asks))

  -- and any other node has none
  of_other : (n : ℕ) → n < length t → is_tried t n ≡ false → filter (λ c. nat_eq (asker_of c) (f n)) others ≡ map (conflict_by f) (filter (λ c. nat_eq (asker_of c) n) cs)
  of_other n h not_tried =
      let not_asked : (c : Conflict) → In c cs → c.asker ≡ n → ⊥ = λ c i e. cc ((asker_is c i).1, ap (is_tried t) e, not_tried) in
      none (λ c. nat_eq (asker_of c) (f n)) others
      (λ d i. let z = other_of d i in ne_eqb d.asker (f n) (λ q. not_asked z.0 z.1 (differ t cs all nss w tree a z.0.asker n (asker_is z.0 z.1).0 h (sym (ap asker_of z.2) ∙ q))))
      ∙ ap (map (conflict_by f)) (sym (none (λ c. nat_eq (asker_of c) n) cs (λ c i. ne_eqb c.asker n (not_asked c i))))

  pub along : GoAlong f t cs others
  along = record {
    there = all_of (λ (c : Conflict). c.asker < length t) cs (λ c i. (asker_is c i).0);
    others_there = all_of (λ (c : Conflict). c.asker < length t) others (λ d i.
        let z = other_of d i in
        let s = stands t cs all nss a z.0.asker (asker_is z.0 z.1).0 in
        let long = row_long nss s.j s.numbers s.beside in
        let low = s.low in
        omega (arith, ap asker_of z.2, s.number, long, low, row_full t cs all nss w tree a));
    each = λ n h. elim (cases_Bool (is_tried t n)) [ inl e ↦ of_tried n h e | inr e ↦ of_other n h e ];
  }
