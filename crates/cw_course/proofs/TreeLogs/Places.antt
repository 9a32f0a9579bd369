-- Where each node of a tree stands among its logs, and where a log hangs there.
use Rattle.std.proofs.Common.{◌≡◌, ℕ, zero, suc, ◌+◌, ◌<◌, ◌≤◌, List, [], ◌∷◌, ◌++◌, length, length-append, append_assoc, refl, ap, sym, ◌∙◌, subst, arith, true, cond, Some, inl, inr, nat_eq}
use Rattle.std.specs.Prelude.{◌⊎◌, count_by, slice_get, slice_index}
use Rattle.std.proofs.lemmas.Bool.{eq-eqb}
use Rattle.std.proofs.lemmas.List.{get_or_default}
use Rattle.std.proofs.lemmas.List.Sums.{sum_by-cons}
use Rattle.std.proofs.lemmas.Option.{get_or_from_slice_get, same_Some}
use Rattle.cw_tree.specs.declared.node.Node.{Node}
use Rattle.cw_tree.specs.declared.conflict.Conflict.{Conflict}
use Rattle.cw_tree.specs.Nodes.{parent_of}
use Rattle.cw_tree.specs.Names.{is_right}
use Rattle.cw_tree.proofs.Lists.{In}
use Rattle.cw_tree.proofs.Ahead.{Apart, place_is}
use Rattle.cw_log.specs.declared.log.Log.{Log}
use Rattle.cw_course.specs.Closings.{hung, base_of, tree_of}
use Rattle.cw_course.specs.TreeLogs.{in_a_row, number_in_row, number_in_tree, IsRootLog, IsHung, AreHung, HangFromRoot, AreLogsOf}
use Rattle.cw_course.proofs.TreeLogs.Laid.{within, get_left, start, row_long, row_at, spot_of, LogAt, log_at, row_many, laid_at, base_at, Named, named}

-- ## Each once

times_more : (n x : ℕ) (xs : List ℕ) → count_by (λ m. nat_eq m n) (x ∷ xs) ≡ cond (nat_eq x n) 1 0 + count_by (λ m. nat_eq m n) xs
times_more n x xs = sum_by-cons (λ m. cond (nat_eq m n) 1 0) x xs

some_times : (n : ℕ) (xs : List ℕ) → In n xs → 1 ≤ count_by (λ m. nat_eq m n) xs
some_times n [] i = absurd i
some_times n (x ∷ xs) (inl e) = omega (arith, times_more n x xs, ap {B = ℕ} (λ b. cond b 1 0) (eq-eqb x n (sym e)))
some_times n (x ∷ xs) (inr i) = omega (arith, times_more n x xs, some_times n xs i)

once_apart : (xs : List ℕ) → ((n : ℕ) → count_by (λ m. nat_eq m n) xs ≤ 1) → Apart xs
once_apart [] h = tt
once_apart (x ∷ xs) h = (
  λ i. (let few = h x in omega (arith, few, times_more x x xs, ap {B = ℕ} (λ b. cond b 1 0) (eq-eqb x x refl), some_times x xs i)),
  once_apart xs (λ n. let few = h n in omega (arith, few, times_more n x xs)),
)

-- ## Where a log hangs

-- log j hangs from log `list`, which comes before it
pub record HangsAt (t : List Node) (all : List Log) (nss : List (List ℕ)) (j : ℕ) (l : Log) (ns : List ℕ) : Type 0 where
  pub from : Named all nss l.from l.fork (parent_of t (slice_index ns 0))
  pub before : from.list < j
  pub right : is_right t (slice_index ns 0) ≡ true

module _ (t : List Node) (all : List Log) (nss : List (List ℕ)) where
  -- a name among the first logs is one among all
  named_before : (bs ls : List Log) (ms rs : List (List ℕ)) (c i n : ℕ) → bs ++ ls ≡ all → ms ++ rs ≡ nss → number_in_tree bs ms c i ≡ Some n → (k : Named all nss c i n) × (k.list < length bs)
  named_before bs ls ms rs c i n e f h =
      let k = named bs ms c i n h in
      let low = within bs k.list k.log k.there in
      let here = within ms k.list k.numbers k.beside in (
        record {
          list = k.list;
          log = k.log;
          numbers = k.numbers;
          there = ap (λ xs. slice_get xs k.list) (sym e) ∙ get_left bs ls k.list low ∙ k.there;
          beside = ap (λ xs. slice_get xs k.list) (sym f) ∙ get_left ms rs k.list here ∙ k.beside;
          column = k.column;
          number = k.number;
        },
        low,
      )

  hangs_behind : (bs ls : List Log) (ms rs : List (List ℕ)) (j : ℕ) (l : Log) (ns : List ℕ) → bs ++ ls ≡ all → ms ++ rs ≡ nss → AreHung t bs ms ls rs → slice_get ls j ≡ Some l → slice_get rs j ≡ Some ns → HangsAt t all nss (length bs + j) l ns
  hangs_behind bs [] ms rs j l ns e f h g k = absurd (cc g)
  hangs_behind bs (x ∷ ls) ms [] j l ns e f h g k = absurd h
  hangs_behind bs (x ∷ ls) ms (xs ∷ rs) zero l ns e f h g k =
      let P : Log → Type 0 = λ y. IsHung t bs ms y xs in
      let Q : List ℕ → Type 0 = λ ys. IsHung t bs ms l ys in
      let z : IsHung t bs ms l ns = subst Q (same_Some xs ns k) (subst P (same_Some x l g) h.0) in
      let w = named_before bs (x ∷ ls) ms (xs ∷ rs) l.from l.fork (parent_of t (slice_index ns 0)) e f z.from in
      record { from = w.0; before = omega (arith, w.1); right = z.right }
  hangs_behind bs (x ∷ ls) ms (xs ∷ rs) (suc j) l ns e f h g k =
      let more = hangs_behind (bs ++ x ∷ []) ls (ms ++ xs ∷ []) rs j l ns (append_assoc bs (x ∷ []) ls ∙ e) (append_assoc ms (xs ∷ []) rs ∙ f) h.1 g k in
      let P : ℕ → Type 0 = λ z. HangsAt t all nss z l ns in
      subst P (let z : length (bs ++ x ∷ []) + j ≡ length bs + suc j = omega (arith, length-append bs (x ∷ [])) in z) more

  -- the first log is the root's, any other hangs
  pub hangs : (j : ℕ) (l : Log) (ns : List ℕ) → HangFromRoot t all nss → slice_get all j ≡ Some l → slice_get nss j ≡ Some ns → ((j ≡ 0) × IsRootLog t l ns) ⊎ HangsAt t all nss j l ns
  hangs = by all nss refl refl where
    by : (ls : List Log) (rs : List (List ℕ)) → ls ≡ all → rs ≡ nss → (j : ℕ) (l : Log) (ns : List ℕ) → HangFromRoot t ls rs → slice_get ls j ≡ Some l → slice_get rs j ≡ Some ns → ((j ≡ 0) × IsRootLog t l ns) ⊎ HangsAt t all nss j l ns
    by [] rs e f j l ns h g k = absurd h
    by (x ∷ ls) [] e f j l ns h g k = absurd h
    by (x ∷ ls) (xs ∷ rs) e f zero l ns h g k =
        let P : Log → Type 0 = λ y. IsRootLog t y xs in
        let Q : List ℕ → Type 0 = λ ys. IsRootLog t l ys in
        inl (refl, subst Q (same_Some xs ns k) (subst P (same_Some x l g) h.0))
    by (x ∷ ls) (xs ∷ rs) e f (suc j) l ns h g k = (
        let P : ℕ → Type 0 = λ z. HangsAt t all nss z l ns in
        inr (subst P (let z : length (x ∷ []) + j ≡ suc j = omega arith in z) (hangs_behind (x ∷ []) ls (xs ∷ []) rs j l ns e f h.1 g k)))

-- ## Each node

module _ (t : List Node) (cs : List Conflict) (all : List Log) (nss : List (List ℕ)) (a : AreLogsOf t cs all nss) where
  abbrev pub row : List ℕ
  row = in_a_row nss

  abbrev pub f : ℕ → ℕ
  f = number_in_row nss

  pub row_apart : Apart row
  row_apart = once_apart row a.once

  pub many : length (tree_of all) ≡ length row
  many = row_many t cs all 0 all nss a.each

  -- node i of log j
  pub number_at : (j i : ℕ) (ns : List ℕ) → slice_get nss j ≡ Some ns → i < length ns → f (slice_index ns i) ≡ start nss j + i
  number_at j i ns e h =
      ap f (sym (row_at nss j i ns e h)) ∙ place_is row (start nss j + i) row_apart (let up : start nss j + length ns ≤ length row = row_long nss j ns e in omega arith)

  -- where node n is: it has place i in log j, whose numbers are these
  pub record Stands (n : ℕ) : Type 0 where
    pub j : ℕ
    pub i : ℕ
    pub numbers : List ℕ
    pub beside : slice_get nss j ≡ Some numbers
    pub low : i < length numbers
    pub is : slice_index numbers i ≡ n
    pub log : LogAt t cs all j numbers
    pub number : f n ≡ start nss j + i

  pub at_place : (k : ℕ) → k < length row → (n : ℕ) → slice_index row k ≡ n → Stands n
  at_place k h n e =
      let s = spot_of nss k h in
      let is : slice_index s.numbers s.i ≡ n = sym (row_at nss s.list s.i s.numbers s.there s.low) ∙ ap (slice_index row) (sym s.is) ∙ e in
      record {
        j = s.list;
        i = s.i;
        numbers = s.numbers;
        beside = s.there;
        low = s.low;
        is = is;
        log = log_at t cs all nss s.list s.numbers a.each s.there;
        number = ap f (sym is) ∙ number_at s.list s.i s.numbers s.there s.low;
      }

  pub stands : (n : ℕ) → n < length t → Stands n
  stands n h = let c = a.whole n h in at_place c.0 c.1 n (get_or_default row c.0 0 n c.1 ∙ c.2)

  -- a node of the tree of all logs
  pub laid : (n : ℕ) (s : Stands n) → slice_get (tree_of all) (f n) ≡ slice_get (hung (start nss s.j) (base_of all s.log.log.from + s.log.log.fork) s.log.log.nodes) s.i
  laid n s =
      ap (slice_get (tree_of all)) s.number
      ∙ laid_at t cs all 0 all nss s.j s.i s.log.log s.numbers a.each s.log.there s.beside s.low
      ∙ ap (λ b. slice_get (hung b (base_of all s.log.log.from + s.log.log.fork) s.log.log.nodes) s.i) (let z : 0 + start nss s.j ≡ start nss s.j = omega arith in z)

  pub base : (j : ℕ) (l : Log) → slice_get all j ≡ Some l → base_of all l.column ≡ start nss j
  base j l e = base_at t cs all nss j l a.each a.apart e

  -- a named node, by its log and place
  pub place_of_named : (c i n : ℕ) (k : Named all nss c i n) → (base_of all c + i ≡ number_in_row nss n) × (f n ≡ start nss k.list + i) × (i < length k.numbers)
  place_of_named c i n k =
      let low = within k.numbers i n k.number in
      let is : slice_index k.numbers i ≡ n = get_or_from_slice_get k.numbers i n 0 k.number in
      let there : f n ≡ start nss k.list + i = ap f (sym is) ∙ number_at k.list i k.numbers k.beside low in
      let begins : base_of all c ≡ start nss k.list = ap (base_of all) (sym k.column) ∙ base k.list k.log k.there in
      (omega (arith, begins, there), there, low)

  pub places : (c i n : ℕ) → number_in_tree all nss c i ≡ Some n → base_of all c + i ≡ number_in_row nss n
  places c i n e = (place_of_named c i n (named all nss c i n e)).0
