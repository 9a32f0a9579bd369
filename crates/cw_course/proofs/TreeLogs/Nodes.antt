-- The tree of logs that have all nodes of a tree is that tree, except for the numbers of its nodes.
use Rattle.std.proofs.Common.{◌≡◌, ℕ, zero, suc, ◌+◌, ◌<◌, ◌≤◌, List, [], ◌∷◌, length, get_or, refl, ap, sym, ◌∙◌, subst, arith, true, Option, Some, None, inl, inr, nat_eq, nat_lt}
use Rattle.std.specs.Prelude.{◌⊎◌, ◌&&◌, slice_get, slice_index, option_map}
use Rattle.std.proofs.lemmas.Bool.{and_parts, cases_lt, cases_eq, eq-eqb, eqb-true, ltb-true}
use Rattle.std.proofs.lemmas.Option.{slice_get-get_or, get_or_from_slice_get, same_Some}
use Rattle.std.proofs.lemmas.Map.Steps.{length-le_from_distinct_below, le-length_from_below}
use Rattle.cw_tree.specs.declared.node.Node.{Node}
use Rattle.cw_tree.specs.declared.node.Kind.TheVariants.{Strand}
use Rattle.cw_tree.specs.declared.conflict.Conflict.{Conflict}
use Rattle.cw_tree.specs.Nodes.{passes, number_in, is_strand_kind, is_strand, is_fork, parent_of, below, fresh_node}
use Rattle.cw_tree.specs.Walks.{IsNumbered}
use Rattle.cw_tree.specs.Series.{children}
use Rattle.cw_tree.specs.Names.{is_right}
use Rattle.cw_tree.specs.Shape.{IsTree}
use Rattle.cw_tree.specs.OneTree.{node_by, AreOne}
use Rattle.cw_tree.proofs.Lists.{In, any_from, any_in}
use Rattle.cw_tree.proofs.Members.{at_in, in_at, in_below}
use Rattle.cw_tree.proofs.Ahead.{distinct, place_is}
use Rattle.cw_tree.proofs.Walks.There.{fork_there}
use Rattle.cw_tree.proofs.InOrder.DepthFirst.{IsChild, child_in}
use Rattle.cw_tree.proofs.InOrder.Sound.{passes_option}
use Rattle.cw_tree.proofs.InOrder.Renumbered.{some_node}
use Rattle.cw_log.specs.declared.log.Log.{Log}
use Rattle.cw_course.specs.Closings.{hung, base_of, tree_of}
use Rattle.cw_course.specs.TreeLogs.{in_a_row, number_in_row, number_in_tree, kind_at, IsNodeOf, IsRootLog, HangFromRoot, AreLogsOf}
use Rattle.cw_course.proofs.TreeLogs.Laid.{within, get_map, earlier_less, start, starts_rise, row_long, row_at, one_list, log_at, named}
use Rattle.cw_course.proofs.TreeLogs.Places.{HangsAt, hangs, row_apart, many, number_at, Stands, at_place, stands, laid, base, place_of_named}

abbrev plain : Node
plain = fresh_node 0 Strand 0

-- a node of a log, as the tree of all logs has it
abbrev moved : (base under i : ℕ) → Node → Node
moved base under zero x = record x { parent = under }
moved base under (suc i) x = record x { parent = base + x.parent }

hung_at : (base under : ℕ) (xs : List Node) (i : ℕ) (x : Node) → slice_get xs i ≡ Some x → slice_get (hung base under xs) i ≡ Some (moved base under i x)
hung_at base under [] i x e = absurd (cc e)
hung_at base under (y ∷ xs) zero x e = ap (λ (z : Node). Some (record z { parent = under })) (same_Some y x e)
hung_at base under (y ∷ xs) (suc i) x e = let g : Node → Node = λ z. record z { parent = base + z.parent } in get_map g xs i ∙ ap (option_map g) e

start_zero : (nss : List (List ℕ)) → start nss 0 ≡ 0
start_zero [] = refl
start_zero (ns ∷ nss) = refl

kind_kept : (g : ℕ → ℕ) (o : Option Node) → option_map (λ (x : Node). x.kind) (option_map (node_by g) o) ≡ option_map (λ (x : Node). x.kind) o
kind_kept g None = refl
kind_kept g (Some x) = refl

-- a child of two is one of them, and there is no third
one_of_two : (t : List Node) (f l r v : ℕ) → children t f ≡ l ∷ r ∷ [] → IsChild t f v → (v ≡ l) ⊎ (v ≡ r)
one_of_two t f l r v e c = by (subst (λ ns. In v ns) e (child_in t f v c)) where
  by : In v (l ∷ r ∷ []) → (v ≡ l) ⊎ (v ≡ r)
  by (inl q) = inl q
  by (inr (inl q)) = inr q
  by (inr (inr i)) = absurd i

three_of_two : (k n m a b : ℕ) → k < n → n < m → (k ≡ a) ⊎ (k ≡ b) → (n ≡ a) ⊎ (n ≡ b) → (m ≡ a) ⊎ (m ≡ b) → ⊥
three_of_two k n m a b l h (inl e) (inl f) g = omega arith
three_of_two k n m a b l h (inr e) (inr f) g = omega arith
three_of_two k n m a b l h (inl e) (inr f) (inl g) = omega arith
three_of_two k n m a b l h (inl e) (inr f) (inr g) = omega arith
three_of_two k n m a b l h (inr e) (inl f) (inl g) = omega arith
three_of_two k n m a b l h (inr e) (inl f) (inr g) = omega arith

-- so the right strand of a fork is its last child
right_last : (t : List Node) → IsTree t → (n m : ℕ) → is_right t n ≡ true → n < m → m < length t → parent_of t n ≡ parent_of t m → ⊥
right_last t tree n m right l h e =
    let z = any_in (λ k. nat_lt 0 k && is_strand t k && nat_eq (parent_of t k) (parent_of t n)) (below n) right in
    let x = and_parts (nat_lt 0 z.0 && is_strand t z.0) (nat_eq (parent_of t z.0) (parent_of t n)) z.2 in
    let y = and_parts (nat_lt 0 z.0) (is_strand t z.0) x.0 in
    third z.0 (in_below z.0 n z.1) (ltb-true 0 z.0 y.0) y.1 (eqb-true (parent_of t z.0) (parent_of t n) x.1)
  where
    third : (k : ℕ) → k < n → 0 < k → is_strand t k ≡ true → parent_of t k ≡ parent_of t n → ⊥
    third k less some strand up =
        let fork : is_fork t (parent_of t k) ≡ true = tree.strands k (omega arith) some strand in
        let two = tree.forks (parent_of t k) (fork_there t (parent_of t k) fork) fork in
        let child : (v : ℕ) → IsChild t (parent_of t k) v → (v ≡ two.0) ⊎ (v ≡ two.1) = λ v c. one_of_two t (parent_of t k) two.0 two.1 v two.2 c in
        three_of_two k n m two.0 two.1 less l (child k (record { some = some; there = omega arith; parent = refl })) (child n (record { some = omega arith; there = omega arith; parent = sym up }))
        (child m (record { some = omega arith; there = h; parent = sym e ∙ sym up }))

-- the first log
pub record First (t : List Node) (all : List Log) (nss : List (List ℕ)) : Type 0 where
  pub log : Log
  pub numbers : List ℕ
  pub there : slice_get all 0 ≡ Some log
  pub beside : slice_get nss 0 ≡ Some numbers
  pub is : IsRootLog t log numbers

first_log : (t : List Node) (all : List Log) (nss : List (List ℕ)) → HangFromRoot t all nss → First t all nss
first_log t [] nss h = absurd h
first_log t (l ∷ ls) [] h = absurd h
first_log t (l ∷ ls) (ns ∷ nss) h = record { log = l; numbers = ns; there = refl; beside = refl; is = h.0 }

module _ (t : List Node) (cs : List Conflict) (all : List Log) (nss : List (List ℕ)) (w : IsNumbered t) (tree : IsTree t) (a : AreLogsOf t cs all nss) where
  abbrev new : List Node
  new = tree_of all

  abbrev f : ℕ → ℕ
  f = number_in_row nss

  abbrev row : List ℕ
  row = in_a_row nss

  abbrev At : ℕ → Type 0
  At = Stands t cs all nss a

  at : (n : ℕ) → n < length t → At n
  at = stands t cs all nss a

  number : (j i : ℕ) (ns : List ℕ) → slice_get nss j ≡ Some ns → i < length ns → f (slice_index ns i) ≡ start nss j + i
  number = number_at t cs all nss a

  some : 0 < length t
  some = some_node t w

  root : f 0 ≡ 0
  root =
      let z = first_log t all nss a.hung in
      ap f (sym z.is.number) ∙ number 0 0 z.numbers z.beside (log_at t cs all nss 0 z.numbers a.each z.beside).is.some ∙ omega (arith, start_zero nss)

  row_back : (n : ℕ) → n < length t → slice_index row (f n) ≡ n
  row_back n h = let s = at n h in ap (slice_index row) s.number ∙ row_at nss s.j s.i s.numbers s.beside s.low ∙ s.is

  -- ## As many

  pub node_of : (n : ℕ) (s : At n) → (x : Node) × (slice_get s.log.log.nodes s.i ≡ Some x) × IsNodeOf t s.numbers s.i x
  node_of n s =
      let nodes = s.log.log.nodes in
      let there : slice_get nodes s.i ≡ Some (get_or nodes s.i plain) = slice_get-get_or nodes s.i plain (omega (arith, s.low, s.log.is.many)) in
      (get_or nodes s.i plain, there, s.log.is.nodes s.i (get_or nodes s.i plain) there)

  there_by : (ns : List ℕ) (i n : ℕ) (x : Node) → IsNodeOf t ns i x → slice_index ns i ≡ n → n < length t
  there_by ns zero n x h e = let l = within t (slice_index ns 0) _ h in omega (arith, l, e)
  there_by ns (suc i) n x h e = let l = within t (slice_index ns (suc i)) _ h.1 in omega (arith, l, e)

  row_low : (k : ℕ) → k < length row → slice_index row k < length t
  row_low k h = let s = at_place t cs all nss a k h (slice_index row k) refl in let z = node_of (slice_index row k) s in there_by s.numbers s.i (slice_index row k) z.0 z.2 s.is

  in_row : (n : ℕ) → n < length t → f n < length row
  in_row n h = let s = at n h in let long = row_long nss s.j s.numbers s.beside in let l = s.low in omega (arith, s.number, long, l)

  pub row_full : length row ≡ length t
  row_full =
      let high : length row ≤ length t =
      length-le_from_distinct_below row (length t) (distinct row (row_apart t cs all nss a))
      (λ q h. let z = any_in (nat_eq q) row h in let y = in_at z.0 row z.1 in let low = row_low y.0 y.1 in let e : q ≡ z.0 = eqb-true q z.0 z.2 in omega (arith, low, y.2, e))
      in
      let low : length t ≤ length row =
      le-length_from_below row (length t) (λ q h. let s = at q h in let P : ℕ → Type 0 = λ x. In x row in any_from (nat_eq q) q row (subst P (row_back q h) (at_in row (f q) (in_row q h))) (eq-eqb q q refl))
      in
      omega arith

  pub as_many : length new ≡ length t
  as_many = many t cs all nss a ∙ row_full

  -- ## Parents

  -- the parent of a node that is not the first of its log
  inner_by : (ns : List ℕ) (i n : ℕ) (x : Node) → IsNodeOf t ns i x → slice_index ns i ≡ n → 0 < i → (p : ℕ) × (p < i) × (parent_of t n ≡ slice_index ns p)
  inner_by ns zero n x h e some = absurd (omega arith)
  inner_by ns (suc i) n x h e some = (x.parent, h.0, ap (parent_of t) (sym e) ∙ ap (number_in (λ (y : Node). y.parent)) h.1)

  inner : (n : ℕ) (s : At n) → 0 < s.i → (p : ℕ) × (p < s.i) × (parent_of t n ≡ slice_index s.numbers p)
  inner n s h = let z = node_of n s in inner_by s.numbers s.i n z.0 z.2 s.is h

  inner_number : (n : ℕ) (s : At n) (h : 0 < s.i) → f (parent_of t n) ≡ start nss s.j + (inner n s h).0
  inner_number n s h = let z = inner n s h in ap f z.2 ∙ number s.j z.0 s.numbers s.beside (let l = s.low in omega (arith, l, z.1))

  -- that of a first one
  is_first : (n : ℕ) (s : At n) → s.i ≡ 0 → slice_index s.numbers 0 ≡ n
  is_first n s e = ap (slice_index s.numbers) (sym e) ∙ s.is

  outer : (n : ℕ) (s : At n) → 0 < n → s.i ≡ 0 → HangsAt t all nss s.j s.log.log s.numbers
  outer n s h e = elim (hangs t all nss s.j s.log.log s.numbers a.hung s.log.there s.beside) [
    | inl z ↦ absurd (let same : n ≡ 0 = sym (is_first n s e) ∙ z.1.number in omega arith)
    | inr z ↦ z
  ]

  outer_number : (n : ℕ) (s : At n) → s.i ≡ 0 → (h : HangsAt t all nss s.j s.log.log s.numbers) → (f (parent_of t n) ≡ start nss h.from.list + s.log.log.fork) × (s.log.log.fork < length h.from.numbers)
  outer_number n s e h =
      let z = place_of_named t cs all nss a s.log.log.from s.log.log.fork (parent_of t (slice_index s.numbers 0)) h.from in
      (ap (λ m. f (parent_of t m)) (sym (is_first n s e)) ∙ z.1, z.2)

  -- the node from which a log hangs
  under : (j : ℕ) (l : Log) (ns : List ℕ) → slice_get all j ≡ Some l → slice_get nss j ≡ Some ns → base_of all l.from + l.fork ≡ f (parent_of t (slice_index ns 0))
  under j l ns e g = elim (hangs t all nss j l ns a.hung e g) [
    | inl z ↦ (
        let begins : base_of all l.from ≡ 0 = ap (base_of all) z.1.from.0 ∙ base t cs all nss a j l e ∙ ap (start nss) z.0 ∙ start_zero nss in
        let up : f (parent_of t (slice_index ns 0)) ≡ 0 = ap (λ m. f (parent_of t m)) z.1.number ∙ ap f z.1.parent ∙ root in
        omega (arith, begins, up, z.1.from.1))
    | inr z ↦ (place_of_named t cs all nss a l.from l.fork (parent_of t (slice_index ns 0)) z.from).0
  ]

  -- ## Nodes

  same_node : (j i : ℕ) (l : Log) (ns : List ℕ) (n : ℕ) (x : Node) → slice_get all j ≡ Some l → slice_get nss j ≡ Some ns → i < length ns → slice_index ns i ≡ n → IsNodeOf t ns i x
      → Some (moved (start nss j) (base_of all l.from + l.fork) i x) ≡ option_map (node_by f) (slice_get t n)
  same_node j zero l ns n x e g low is h =
      ap (λ p. Some (record x { parent = p })) (under j l ns e g) ∙ ap (option_map (node_by f)) (sym h) ∙ ap (λ m. option_map (node_by f) (slice_get t m)) is
  same_node j (suc i) l ns n x e g low is h =
      ap (λ p. Some (record x { parent = p })) (sym (number j x.parent ns g (let up = h.0 in omega (arith, up, low)))) ∙ ap (option_map (node_by f)) (sym h.1) ∙ ap (λ m. option_map (node_by f) (slice_get t m)) is

  pub nodes : (n : ℕ) → n < length t → slice_get new (f n) ≡ option_map (node_by f) (slice_get t n)
  nodes n h =
      let s = at n h in
      let z = node_of n s in
      laid t cs all nss a n s
      ∙ hung_at (start nss s.j) (base_of all s.log.log.from + s.log.log.fork) s.log.log.nodes s.i z.0 z.1
      ∙ same_node s.j s.i s.log.log s.numbers n z.0 s.log.there s.beside s.low s.is z.2

  pub kinds : (n : ℕ) → n < length t → kind_at new (f n) ≡ kind_at t n
  kinds n h = ap (option_map (λ (x : Node). x.kind)) (nodes n h) ∙ kind_kept f (slice_get t n)

  pub differ : (n m : ℕ) → n < length t → m < length t → f n ≡ f m → n ≡ m
  differ n m h g e = sym (row_back n h) ∙ ap (slice_index row) e ∙ row_back m g

  -- ## Siblings

  no_later : (n m : ℕ) (s : At n) → 0 < n → n < m → m < length t → parent_of t n ≡ parent_of t m → s.i ≡ 0 → ⊥
  no_later n m s p l h e first = let z = outer n s p first in right_last t tree n m (ap (is_right t) (sym (is_first n s first)) ∙ z.right) l h e

  pub siblings : (n m : ℕ) → 0 < n → n < m → m < length t → parent_of t n ≡ parent_of t m → f n < f m
  siblings n m p l h e =
      let s = at n (omega arith) in
      let r = at m h in
      elim (cases_eq s.i 0) [
        | inl first ↦ absurd (no_later n m s p l h e first)
        | inr more ↦ (
            let i = inner n s (omega (arith, more)) in
            let up = inner_number n s (omega (arith, more)) in
            let low = s.low in
            elim (cases_eq r.i 0) [
              | inl first ↦ (
                  let z = outer m r (omega arith) first in
                  let y = outer_number m r first z in
                  let one : s.j ≡ z.from.list = one_list nss s.j z.from.list i.0 r.log.log.fork s.numbers z.from.numbers s.beside z.from.beside (omega (arith, i.1, low)) y.1 (sym up ∙ ap f e ∙ y.0) in
                  let before = z.before in
                  let less : start nss s.j + length s.numbers ≤ start nss r.j = starts_rise nss s.j r.j s.numbers s.beside (omega (arith, one, before)) in
                  omega (arith, s.number, r.number, less, low))
              | inr others ↦ (
                  let k = inner m r (omega (arith, others)) in
                  let up_m = inner_number m r (omega (arith, others)) in
                  let low_m = r.low in
                  let one : s.j ≡ r.j = one_list nss s.j r.j i.0 k.0 s.numbers r.numbers s.beside r.beside (omega (arith, i.1, low)) (omega (arith, k.1, low_m)) (sym up ∙ ap f e ∙ up_m) in
                  let same : s.numbers ≡ r.numbers = same_Some s.numbers r.numbers (sym s.beside ∙ ap (slice_get nss) one ∙ r.beside) in
                  let is : slice_index s.numbers r.i ≡ m = ap (λ ns. slice_index ns r.i) same ∙ r.is in
                  let starts : start nss s.j ≡ start nss r.j = ap (start nss) one in
                  elim (cases_lt s.i r.i) [
                    | inl less ↦ omega (arith, s.number, r.number, less, starts)
                    | inr le ↦ absurd (
                        elim (cases_lt r.i s.i) [
                          | inl less ↦ (let down : slice_index s.numbers r.i < slice_index s.numbers s.i = earlier_less s.numbers s.log.is.rise r.i s.i less low in omega (arith, down, is, s.is))
                          | inr ge ↦ (let here : slice_index s.numbers r.i ≡ slice_index s.numbers s.i = ap (slice_index s.numbers) (let q : r.i ≡ s.i = omega arith in q) in omega (arith, here, is, s.is))
                        ])
                  ])
            ])
      ]

  pub one : AreOne f t new
  one = record { as_many = as_many; root = root; root_up = (first_log t all nss a.hung).is.parent; differ = differ; nodes = nodes; siblings = siblings }

  -- ## Parents come first

  parent_first : (n : ℕ) → 0 < n → n < length t → f (parent_of t n) < f n
  parent_first n p h =
      let s = at n h in
      elim (cases_eq s.i 0) [
        | inl first ↦ (
            let z = outer n s p first in
            let y = outer_number n s first z in
            let less : start nss z.from.list + length z.from.numbers ≤ start nss s.j = starts_rise nss z.from.list s.j z.from.numbers z.from.beside z.before in
            omega (arith, s.number, y.0, y.1, less))
        | inr more ↦ (let i = inner n s (omega (arith, more)) in let up = inner_number n s (omega (arith, more)) in omega (arith, s.number, up, i.1))
      ]

  parent_same : (n : ℕ) → n < length t → parent_of new (f n) ≡ f (parent_of t n)
  parent_same n h =
      ap (number_in (λ (x : Node). x.parent)) (nodes n h) ∙ by (slice_get t n) (slice_get-get_or t n plain h)
    where
      by : (o : Option Node) → o ≡ Some (get_or t n plain) → number_in (λ (x : Node). x.parent) (option_map (node_by f) o) ≡ f (number_in (λ (x : Node). x.parent) o)
      by None e = absurd (cc e)
      by (Some x) e = refl

  rooted : (k : ℕ) → 0 < k → k < length new → parent_of new k < k
  rooted k p h =
      let low : k < length row = omega (arith, many t cs all nss a) in
      let n : ℕ = slice_index row k in
      let there : n < length t = row_low k low in
      let back : f n ≡ k = place_is row k (row_apart t cs all nss a) low in
      let positive : 0 < n = elim (cases_eq n 0) [ inl e ↦ absurd (let zero_is : f n ≡ 0 = ap f e ∙ root in omega (arith, back, zero_is)) | inr ne ↦ omega (arith, ne) ] in
      let up : parent_of new k ≡ f (parent_of t n) = ap (parent_of new) (sym back) ∙ parent_same n there in
      let first = parent_first n positive there in
      omega (arith, up, first, back)

  root_strand : is_strand new 0 ≡ true
  root_strand =
      ap (is_strand new) (sym root) ∙ ap (passes (λ (x : Node). is_strand_kind x.kind)) (nodes 0 some) ∙ passes_option (λ (x : Node). is_strand_kind x.kind) (node_by f) (λ x. refl) (slice_get t 0) ∙ w.root

  pub numbered : IsNumbered new
  numbered = record { root = root_strand; rooted = rooted; few = (let few = w.few in omega (arith, few, as_many)) }

  -- ## From numbers back to nodes

  -- each number of the new tree is that of a node
  pub node_back : ((n : ℕ) → n < length t → f n < length new) × ((k : ℕ) → k < length new → (n : ℕ) × (n < length t) × (f n ≡ k))
  node_back = (
    λ n h. omega (arith, in_row n h, many t cs all nss a),
    λ k h. (
        let low : k < length row = omega (arith, many t cs all nss a) in
        (slice_index row k, row_low k low, place_is row k (row_apart t cs all nss a) low)),
  )

  -- a node that is named is there
  pub named_low : (c i n : ℕ) → number_in_tree all nss c i ≡ Some n → n < length t
  named_low c i n e =
      let k = named all nss c i n e in
      let is : slice_index k.numbers i ≡ n = get_or_from_slice_get k.numbers i n 0 k.number in
      let row_is : slice_index row (start nss k.list + i) ≡ n = row_at nss k.list i k.numbers k.beside (within k.numbers i n k.number) ∙ is in
      let low = row_low (start nss k.list + i) (let long = row_long nss k.list k.numbers k.beside in let here = within k.numbers i n k.number in omega arith) in
      omega (arith, low, row_is)
