-- Where the nodes of a log stand if logs are laid one after another.
use Rattle.std.proofs.Common.{◌≡◌, ℕ, zero, suc, ◌+◌, ◌<◌, ◌≤◌, List, [], ◌∷◌, ◌++◌, length, map, length-append, refl, ap, sym, ◌∙◌, subst, arith, Bool, true, false, cond, Some, inl, inr, nat_eq, ◌-◌}
use Rattle.std.specs.Prelude.{slice_get, slice_index, option_map}
use Rattle.std.specs.List.Sorted.{IsStrictlyIncreasing}
use Rattle.std.proofs.lemmas.Bool.{cases_lt, eq-eqb, ne_eqb, eqb-true}
use Rattle.std.proofs.lemmas.List.{get_or_append_left, get_or-append-add, length-map}
use Rattle.std.proofs.lemmas.Option.{slice_get_past, same_Some}
use Rattle.cw_tree.specs.declared.node.Node.{Node}
use Rattle.cw_tree.specs.declared.conflict.Conflict.{Conflict}
use Rattle.cw_log.specs.declared.log.Log.{Log}
use Rattle.cw_course.specs.Closings.{hung, base_of, put_together, HasNone, AreApart}
use Rattle.cw_course.specs.TreeLogs.{in_a_row, number_in_tree, IsLogOf, EachIsLogOf}

-- ## Lists

pub within : {X : Type 0} (xs : List X) (i : ℕ) (x : X) → slice_get xs i ≡ Some x → i < length xs
within xs i x e = elim (cases_lt i (length xs)) [ inl l ↦ l | inr past ↦ absurd (cc (e, slice_get_past xs i past)) ]

pub get_left : {X : Type 0} (xs ys : List X) (i : ℕ) → i < length xs → slice_get (xs ++ ys) i ≡ slice_get xs i
get_left [] ys i h = absurd (omega arith)
get_left (x ∷ xs) ys zero h = refl
get_left (x ∷ xs) ys (suc i) h = get_left xs ys i (omega arith)

pub get_right : {X : Type 0} (xs ys : List X) (i k : ℕ) → k ≡ length xs + i → slice_get (xs ++ ys) k ≡ slice_get ys i
get_right [] ys i k e = ap (slice_get ys) (let same : k ≡ i = omega arith in same)
get_right (x ∷ xs) ys i zero e = absurd (omega arith)
get_right (x ∷ xs) ys i (suc k) e = get_right xs ys i k (omega arith)

pub get_map : {X Y : Type 0} (f : X → Y) (xs : List X) (i : ℕ) → slice_get (map f xs) i ≡ option_map f (slice_get xs i)
get_map f [] i = refl
get_map f (x ∷ xs) zero = refl
get_map f (x ∷ xs) (suc i) = get_map f xs i

pub earlier_less : (ns : List ℕ) → IsStrictlyIncreasing ns → (i j : ℕ) → i < j → j < length ns → slice_index ns i < slice_index ns j
earlier_less ns r i zero h l = absurd (omega arith)
earlier_less ns r i (suc j) h l =
    let next : slice_index ns j < slice_index ns (j + 1) = r j (omega arith) in
    let same : slice_index ns (j + 1) ≡ slice_index ns (suc j) = ap (slice_index ns) (let e : j + 1 ≡ suc j = omega arith in e) in
    elim (cases_lt i j) [
      | inl low ↦ (let more : slice_index ns i < slice_index ns j = earlier_less ns r i j low (omega arith) in omega arith)
      | inr le ↦ (let here : slice_index ns i ≡ slice_index ns j = ap (slice_index ns) (let e : i ≡ j = omega arith in e) in omega arith)
    ]

-- ## Numbers in a row

-- the place at which list j begins
abbrev pub start : List (List ℕ) → ℕ → ℕ
start [] j = 0
start (ns ∷ nss) zero = 0
start (ns ∷ nss) (suc j) = length ns + start nss j

pub starts_rise : (nss : List (List ℕ)) (j k : ℕ) (ns : List ℕ) → slice_get nss j ≡ Some ns → j < k → start nss j + length ns ≤ start nss k
starts_rise [] j k ns e h = absurd (cc e)
starts_rise (ms ∷ nss) zero zero ns e h = absurd (omega arith)
starts_rise (ms ∷ nss) zero (suc k) ns e h = let same : length ms ≡ length ns = ap length (same_Some ms ns e) in omega arith
starts_rise (ms ∷ nss) (suc j) zero ns e h = absurd (omega arith)
starts_rise (ms ∷ nss) (suc j) (suc k) ns e h = let more : start nss j + length ns ≤ start nss k = starts_rise nss j k ns e (omega arith) in omega arith

pub row_long : (nss : List (List ℕ)) (j : ℕ) (ns : List ℕ) → slice_get nss j ≡ Some ns → start nss j + length ns ≤ length (in_a_row nss)
row_long [] j ns e = absurd (cc e)
row_long (ms ∷ nss) zero ns e = let same : length ms ≡ length ns = ap length (same_Some ms ns e) in omega (arith, length-append ms (in_a_row nss))
row_long (ms ∷ nss) (suc j) ns e = let more : start nss j + length ns ≤ length (in_a_row nss) = row_long nss j ns e in omega (arith, length-append ms (in_a_row nss))

pub row_at : (nss : List (List ℕ)) (j i : ℕ) (ns : List ℕ) → slice_get nss j ≡ Some ns → i < length ns → slice_index (in_a_row nss) (start nss j + i) ≡ slice_index ns i
row_at [] j i ns e h = absurd (cc e)
row_at (ms ∷ nss) zero i ns e h =
    let same : ms ≡ ns = same_Some ms ns e in
    ap (slice_index (ms ++ in_a_row nss)) (let z : 0 + i ≡ i = omega arith in z) ∙ get_or_append_left ms (in_a_row nss) 0 i (omega (arith, ap length same)) ∙ ap (λ xs. slice_index xs i) same
row_at (ms ∷ nss) (suc j) i ns e h =
    ap (slice_index (ms ++ in_a_row nss)) (let z : length ms + start nss j + i ≡ length ms + (start nss j + i) = omega arith in z)
    ∙ get_or-append-add ms (in_a_row nss) (start nss j + i) 0
    ∙ row_at nss j i ns e h

-- each place in the row is one in a list
pub record Spot (nss : List (List ℕ)) (k : ℕ) : Type 0 where
  pub list : ℕ
  pub i : ℕ
  pub numbers : List ℕ
  pub there : slice_get nss list ≡ Some numbers
  pub low : i < length numbers
  pub is : k ≡ start nss list + i

pub spot_of : (nss : List (List ℕ)) (k : ℕ) → k < length (in_a_row nss) → Spot nss k
spot_of [] k h = absurd (omega arith)
spot_of (ns ∷ nss) k h = elim (cases_lt k (length ns)) [
  | inl low ↦ record { list = 0; i = k; numbers = ns; there = refl; low = low; is = omega arith }
  | inr past ↦ (
      let d : (m : ℕ) × (k ≡ length ns + m) = (k - length ns, omega arith) in
      let s = spot_of nss d.0 (omega (arith, length-append ns (in_a_row nss), d.1)) in
      record { list = suc s.list; i = s.i; numbers = s.numbers; there = s.there; low = s.low; is = omega (arith, d.1, s.is) })
]

-- two places that are one are in one list
pub one_list : (nss : List (List ℕ)) (j k a b : ℕ) (ns ms : List ℕ) → slice_get nss j ≡ Some ns → slice_get nss k ≡ Some ms → a < length ns → b < length ms → start nss j + a ≡ start nss k + b → j ≡ k
one_list nss j k a b ns ms e f h g same = elim (cases_lt j k) [
  | inl less ↦ (let up : start nss j + length ns ≤ start nss k = starts_rise nss j k ns e less in absurd (omega arith))
  | inr le ↦ elim (cases_lt k j) [ inl less ↦ (let up : start nss k + length ms ≤ start nss j = starts_rise nss k j ms f less in absurd (omega arith)) | inr ge ↦ omega arith ]
]

-- ## Logs and their numbers

pub hung_many : (base under : ℕ) (xs : List Node) → length (hung base under xs) ≡ length xs
hung_many base under [] = refl
hung_many base under (x ∷ xs) = ap suc (length-map xs (λ (y : Node). record y { parent = base + y.parent }))

module _ (t : List Node) (cs : List Conflict) where
  -- log j with its numbers
  pub record LogAt (ls : List Log) (j : ℕ) (ns : List ℕ) : Type 0 where
    pub log : Log
    pub there : slice_get ls j ≡ Some log
    pub is : IsLogOf t cs log ns

  pub log_at : (ls : List Log) (nss : List (List ℕ)) (j : ℕ) (ns : List ℕ) → EachIsLogOf t cs ls nss → slice_get nss j ≡ Some ns → LogAt ls j ns
  log_at [] [] j ns h e = absurd (cc e)
  log_at [] (ms ∷ nss) j ns h e = absurd h
  log_at (l ∷ ls) [] j ns h e = absurd h
  log_at (l ∷ ls) (ms ∷ nss) zero ns h e = record { log = l; there = refl; is = subst (IsLogOf t cs l) (same_Some ms ns e) h.0 }
  log_at (l ∷ ls) (ms ∷ nss) (suc j) ns h e = let s = log_at ls nss j ns h.1 e in record { log = s.log; there = s.there; is = s.is }

  pub row_many : (all : List Log) (base : ℕ) (ls : List Log) (nss : List (List ℕ)) → EachIsLogOf t cs ls nss → length (put_together all base ls) ≡ length (in_a_row nss)
  row_many all base [] [] h = refl
  row_many all base [] (ms ∷ nss) h = absurd h
  row_many all base (l ∷ ls) [] h = absurd h
  row_many all base (l ∷ ls) (ns ∷ nss) h =
      let under = base_of all l.from + l.fork in
      let more = row_many all (base + length l.nodes) ls nss h.1 in
      omega (arith, length-append (hung base under l.nodes) (put_together all (base + length l.nodes) ls), length-append ns (in_a_row nss), hung_many base under l.nodes, more, h.0.many)

  -- node i of log j in the tree of all
  pub laid_at : (all : List Log) (base : ℕ) (ls : List Log) (nss : List (List ℕ)) (j i : ℕ) (l : Log) (ns : List ℕ) → EachIsLogOf t cs ls nss → slice_get ls j ≡ Some l → slice_get nss j ≡ Some ns → i < length ns
      → slice_get (put_together all base ls) (start nss j + i) ≡ slice_get (hung (base + start nss j) (base_of all l.from + l.fork) l.nodes) i
  laid_at all base [] [] j i l ns h e f low = absurd (cc e)
  laid_at all base [] (ms ∷ nss) j i l ns h e f low = absurd h
  laid_at all base (k ∷ ls) [] j i l ns h e f low = absurd h
  laid_at all base (k ∷ ls) (ms ∷ nss) zero i l ns h e f low =
      let same : k ≡ l = same_Some k l e in
      let long : length ns ≡ length ms = ap length (sym (same_Some ms ns f)) in
      let rest = put_together all (base + length k.nodes) ls in
      let b : (z : ℕ) → List Node = λ z. hung z (base_of all k.from + k.fork) k.nodes in
      ap (slice_get (b base ++ rest)) (let z : 0 + i ≡ i = omega arith in z)
      ∙ get_left (b base) rest i (omega (arith, hung_many base (base_of all k.from + k.fork) k.nodes, h.0.many, long))
      ∙ ap (λ z. slice_get (b z) i) (let z : base ≡ base + 0 = omega arith in z)
      ∙ ap (λ (x : Log). slice_get (hung (base + 0) (base_of all x.from + x.fork) x.nodes) i) same
  laid_at all base (k ∷ ls) (ms ∷ nss) (suc j) i l ns h e f low =
      let front = hung base (base_of all k.from + k.fork) k.nodes in
      get_right front (put_together all (base + length k.nodes) ls) (start nss j + i) (length ms + start nss j + i) (omega (arith, hung_many base (base_of all k.from + k.fork) k.nodes, h.0.many))
      ∙ laid_at all (base + length k.nodes) ls nss j i l ns h.1 e f low
      ∙ ap (λ z. slice_get (hung z (base_of all l.from + l.fork) l.nodes) i) (let z : base + length k.nodes + start nss j ≡ base + (length ms + start nss j) = omega (arith, h.0.many) in z)

  -- where a log begins
  none_at : (ls : List Log) (j : ℕ) (l : Log) (c : ℕ) → HasNone c ls → slice_get ls j ≡ Some l → l.column ≡ c → ⊥
  none_at [] j l c h e same = cc e
  none_at (k ∷ ls) zero l c h e same = h.0 (ap (λ (x : Log). x.column) (same_Some k l e) ∙ same)
  none_at (k ∷ ls) (suc j) l c h e same = none_at ls j l c h.1 e same

  pub base_at : (ls : List Log) (nss : List (List ℕ)) (j : ℕ) (l : Log) → EachIsLogOf t cs ls nss → AreApart ls → slice_get ls j ≡ Some l → base_of ls l.column ≡ start nss j
  base_at [] nss j l h a e = absurd (cc e)
  base_at (k ∷ ls) [] j l h a e = absurd h
  base_at (k ∷ ls) (ms ∷ nss) zero l h a e = ap (λ b. cond b 0 (length k.nodes + base_of ls l.column)) (eq-eqb k.column l.column (ap (λ (x : Log). x.column) (same_Some k l e)))
  base_at (k ∷ ls) (ms ∷ nss) (suc j) l h a e =
      ap (λ b. cond b 0 (length k.nodes + base_of ls l.column)) (ne_eqb k.column l.column (λ q. none_at ls j l k.column a.0 e (sym q)))
      ∙ omega (arith, h.0.many, base_at ls nss j l h.1 a.1 e)

-- the log in which a node is named
pub record Named (ls : List Log) (nss : List (List ℕ)) (c i n : ℕ) : Type 0 where
  pub list : ℕ
  pub log : Log
  pub numbers : List ℕ
  pub there : slice_get ls list ≡ Some log
  pub beside : slice_get nss list ≡ Some numbers
  pub column : log.column ≡ c
  pub number : slice_get numbers i ≡ Some n

pub named : (ls : List Log) (nss : List (List ℕ)) (c i n : ℕ) → number_in_tree ls nss c i ≡ Some n → Named ls nss c i n
named [] nss c i n e = absurd (cc e)
named (l ∷ ls) [] c i n e = absurd (cc e)
named (l ∷ ls) (ns ∷ nss) c i n e = by (nat_eq l.column c) refl e (named ls nss c i n) where
  by : (b : Bool) → nat_eq l.column c ≡ b → cond b (slice_get ns i) (number_in_tree ls nss c i) ≡ Some n → (number_in_tree ls nss c i ≡ Some n → Named ls nss c i n) → Named (l ∷ ls) (ns ∷ nss) c i n
  by true is g more = record { list = 0; log = l; numbers = ns; there = refl; beside = refl; column = eqb-true l.column c is; number = g }
  by false is g more = let s = more g in record { list = suc s.list; log = s.log; numbers = s.numbers; there = s.there; beside = s.beside; column = s.column; number = s.number }
