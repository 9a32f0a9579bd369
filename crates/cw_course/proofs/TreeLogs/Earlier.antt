-- Logs that hang from one another, each from any of them: if their tree is numbered, each hangs from an earlier one.
use Rattle.std.proofs.Common.{◌≡◌, ℕ, zero, suc, ◌+◌, ◌<◌, ◌≤◌, List, [], ◌∷◌, ◌++◌, length, length-append, append_assoc, refl, ap, sym, ◌∙◌, subst, arith, cond, Some, inl, inr, nat_eq, true}
use Rattle.std.specs.Prelude.{slice_get, slice_index}
use Rattle.std.proofs.lemmas.Bool.{cases_lt, cases_eq, eq-eqb}
use Rattle.std.proofs.lemmas.Option.{same_Some}
use Rattle.cw_tree.specs.declared.node.Node.{Node}
use Rattle.cw_tree.specs.declared.conflict.Conflict.{Conflict}
use Rattle.cw_tree.specs.Nodes.{number_in, parent_of}
use Rattle.cw_tree.specs.Walks.{IsNumbered}
use Rattle.cw_log.specs.declared.log.Log.{Log}
use Rattle.cw_course.specs.Closings.{hung, base_of, tree_of, AreApart}
use Rattle.cw_course.specs.TreeLogs.{number_in_tree, EachIsLogOf, IsLogOf, AreHung, HangAmong, EarlierFollows, EarlierAreTogether}
use Rattle.cw_course.proofs.TreeLogs.Laid.{within, get_left, get_right, start, starts_rise, row_long, row_many, laid_at, base_at, Named, named}

-- ## Names among the first logs

-- a column that is among the first logs names there what it names among all
named_first : (bs ls : List Log) (ms rs : List (List ℕ)) (c i k : ℕ) (l : Log) → length ms ≡ length bs → slice_get bs k ≡ Some l → l.column ≡ c → number_in_tree bs ms c i ≡ number_in_tree (bs ++ ls) (ms ++ rs) c i
named_first [] ls ms rs c i k l long e same = absurd (cc e)
named_first (b ∷ bs) ls [] rs c i k l long e same = absurd (omega (arith, long))
named_first (b ∷ bs) ls (m ∷ ms) rs c i zero l long e same =
    let here : nat_eq b.column c ≡ true = eq-eqb b.column c (ap (λ (x : Log). x.column) (same_Some b l e) ∙ same) in
    ap (λ q. cond q (slice_get m i) (number_in_tree bs ms c i)) here ∙ sym (ap (λ q. cond q (slice_get m i) (number_in_tree (bs ++ ls) (ms ++ rs) c i)) here)
named_first (b ∷ bs) ls (m ∷ ms) rs c i (suc k) l long e same = ap (cond (nat_eq b.column c) (slice_get m i)) (named_first bs ls ms rs c i k l (omega (arith, long)) e same)

-- what is named among the first logs is named so among all
named_more : (bs ls : List Log) (ms rs : List (List ℕ)) (c i n : ℕ) → length ms ≡ length bs → number_in_tree bs ms c i ≡ Some n → number_in_tree (bs ++ ls) (ms ++ rs) c i ≡ Some n
named_more bs ls ms rs c i n long e = let k = named bs ms c i n e in sym (named_first bs ls ms rs c i k.list k.log long k.there k.column) ∙ e

at_front : {X : Type 0} (bs ls : List X) (x : X) → slice_get (bs ++ x ∷ ls) (length bs) ≡ Some x
at_front bs ls x = get_right bs (x ∷ ls) 0 (length bs) (omega arith)

first_parent : (base under : ℕ) (xs : List Node) → 0 < length xs → number_in (λ y. y.parent) (slice_get (hung base under xs) 0) ≡ under
first_parent base under [] h = absurd (omega arith)
first_parent base under (x ∷ xs) h = refl

is_log_at : (t : List Node) (cs : List Conflict) (ls : List Log) (nss : List (List ℕ)) (j : ℕ) (l : Log) (ns : List ℕ) → EachIsLogOf t cs ls nss → slice_get ls j ≡ Some l → slice_get nss j ≡ Some ns → IsLogOf t cs l ns
is_log_at t cs [] nss j l ns each e f = absurd (cc e)
is_log_at t cs (k ∷ ls) [] j l ns each e f = absurd each
is_log_at t cs (k ∷ ls) (ms ∷ nss) zero l ns each e f =
    let P : Log → Type 0 = λ x. IsLogOf t cs x ns in
    subst P (same_Some k l e) (subst (IsLogOf t cs k) (same_Some ms ns f) each.0)
is_log_at t cs (k ∷ ls) (ms ∷ nss) (suc j) l ns each e f = is_log_at t cs ls nss j l ns each.1 e f

-- ## Each log

module _ (t : List Node) (cs : List Conflict) (all : List Log) (nss : List (List ℕ)) (each : EachIsLogOf t cs all nss) (apart : AreApart all) (w : IsNumbered (tree_of all)) where
  -- log j begins in the tree behind the node from which it hangs
  behind : (j : ℕ) (l : Log) (ns : List ℕ) → 0 < j → slice_get all j ≡ Some l → slice_get nss j ≡ Some ns → base_of all l.from + l.fork < start nss j
  behind zero l ns some e f = absurd (omega arith)
  behind (suc i) l ns some e f =
      let j = suc i in
      let is = is_log_at t cs all nss j l ns each e f in
      let first = first_log (within nss j ns f) in
      let begins : 0 < start nss j = omega (arith, starts_rise nss 0 j first.0 first.1 some, (is_log_at t cs all nss 0 (first_of (within all j l e)).0 first.0 each (first_of (within all j l e)).1 first.1).some) in
      let there : start nss j < length (tree_of all) = omega (arith, row_long nss j ns f, row_many t cs all 0 all nss each, is.some) in
      let up : parent_of (tree_of all) (start nss j) ≡ base_of all l.from + l.fork =
      ap (λ k. parent_of (tree_of all) k) (let z : start nss j ≡ start nss j + 0 = omega arith in z)
      ∙ ap (number_in (λ y. y.parent)) (laid_at t cs all 0 all nss j 0 l ns each e f is.some)
      ∙ first_parent (0 + start nss j) (base_of all l.from + l.fork) l.nodes (omega (arith, is.some, is.many)) in
      let less : parent_of (tree_of all) (start nss j) < start nss j = w.rooted (start nss j) begins there in
      omega (arith, up) where
        first_log : suc i < length nss → (ms : List ℕ) × (slice_get nss 0 ≡ Some ms)
        first_log = any_first nss where
          any_first : (xs : List (List ℕ)) → suc i < length xs → (ms : List ℕ) × (slice_get xs 0 ≡ Some ms)
          any_first [] h = absurd (omega arith)
          any_first (ms ∷ xs) h = (ms, refl)

        first_of : suc i < length all → (x : Log) × (slice_get all 0 ≡ Some x)
        first_of = any_first all where
          any_first : (xs : List Log) → suc i < length xs → (x : Log) × (slice_get xs 0 ≡ Some x)
          any_first [] h = absurd (omega arith)
          any_first (x ∷ xs) h = (x, refl)

  -- a log that it is named in comes before it
  is_before : (j : ℕ) (l : Log) (ns : List ℕ) → 0 < j → slice_get all j ≡ Some l → slice_get nss j ≡ Some ns → (n : ℕ) (k : Named all nss l.from l.fork n) → k.list < j
  is_before j l ns some e f n k =
      let less = behind j l ns some e f in
      let begins : base_of all l.from ≡ start nss k.list = ap (base_of all) (sym k.column) ∙ base_at t cs all nss k.list k.log each apart k.there in
      elim (cases_lt k.list j) [
        | inl low ↦ low
        | inr le ↦ elim (cases_eq k.list j) [
          | inl same ↦ absurd (omega (arith, begins, ap (start nss) same))
          | inr ne ↦ absurd (let rise : start nss j + length ns ≤ start nss k.list = starts_rise nss j k.list ns f (omega (arith, ne)) in omega (arith, begins))
        ]
      ]

  hung_earlier : (bs ls : List Log) (ms rs : List (List ℕ)) → 0 < length bs → length ms ≡ length bs → bs ++ ls ≡ all → ms ++ rs ≡ nss → HangAmong t all nss ls rs → AreHung t bs ms ls rs
  hung_earlier bs [] ms rs some long e f h = tt
  hung_earlier bs (l ∷ ls) ms [] some long e f h = absurd h
  hung_earlier bs (l ∷ ls) ms (ns ∷ rs) some long e f h =
      let there : slice_get all (length bs) ≡ Some l = ap (λ xs. slice_get xs (length bs)) (sym e) ∙ at_front bs ls l in
      let beside : slice_get nss (length bs) ≡ Some ns = ap (λ xs. slice_get xs (length bs)) (sym f) ∙ ap (slice_get (ms ++ ns ∷ rs)) (sym long) ∙ at_front ms rs ns in
      let n = parent_of t (slice_index ns 0) in
      let k = named all nss l.from l.fork n h.0.from in
      let low = is_before (length bs) l ns some there beside n k in
      let here : slice_get bs k.list ≡ Some k.log = sym (get_left bs (l ∷ ls) k.list low) ∙ ap (λ xs. slice_get xs k.list) e ∙ k.there in
      let whole : number_in_tree (bs ++ l ∷ ls) (ms ++ ns ∷ rs) l.from l.fork ≡ Some n = ap (λ xs. number_in_tree xs (ms ++ ns ∷ rs) l.from l.fork) e ∙ ap (λ xs. number_in_tree all xs l.from l.fork) f ∙ h.0.from in (
        record { right = h.0.right; from = named_first bs (l ∷ ls) ms (ns ∷ rs) l.from l.fork k.list k.log long here k.column ∙ whole },
        hung_earlier (bs ++ l ∷ []) ls (ms ++ ns ∷ []) rs (omega (arith, length-append bs (l ∷ []))) (omega (arith, length-append bs (l ∷ []), length-append ms (ns ∷ []), long))
            (append_assoc bs (l ∷ []) ls ∙ e) (append_assoc ms (ns ∷ []) rs ∙ f) h.1,
      )

pub earlier_follows : EarlierFollows
earlier_follows t cs [] nss each apart w h = absurd h
earlier_follows t cs (l ∷ ls) [] each apart w h = absurd h
earlier_follows t cs (l ∷ ls) (ns ∷ nss) each apart w h = (h.0, hung_earlier t cs (l ∷ ls) (ns ∷ nss) each apart w (l ∷ []) ls (ns ∷ []) nss (omega arith) refl refl refl h.1)

-- ## The other way

among : (t : List Node) (all : List Log) (nss : List (List ℕ)) (bs ls : List Log) (ms rs : List (List ℕ)) → length ms ≡ length bs → bs ++ ls ≡ all → ms ++ rs ≡ nss → AreHung t bs ms ls rs → HangAmong t all nss ls rs
among t all nss bs [] ms rs long e f h = tt
among t all nss bs (l ∷ ls) ms [] long e f h = absurd h
among t all nss bs (l ∷ ls) ms (ns ∷ rs) long e f h =
    let whole = named_more bs (l ∷ ls) ms (ns ∷ rs) l.from l.fork (parent_of t (slice_index ns 0)) long h.0.from in (
      record { right = h.0.right; from = ap (λ xs. number_in_tree xs nss l.from l.fork) (sym e) ∙ ap (λ xs. number_in_tree (bs ++ l ∷ ls) xs l.from l.fork) (sym f) ∙ whole },
      among t all nss (bs ++ l ∷ []) ls (ms ++ ns ∷ []) rs (omega (arith, length-append bs (l ∷ []), length-append ms (ns ∷ []), long)) (append_assoc bs (l ∷ []) ls ∙ e) (append_assoc ms (ns ∷ []) rs ∙ f) h.1,
    )

pub earlier_are_together : EarlierAreTogether
earlier_are_together t [] nss h = absurd h
earlier_are_together t (l ∷ ls) [] h = absurd h
earlier_are_together t (l ∷ ls) (ns ∷ nss) h = (h.0, among t (l ∷ ls) (ns ∷ nss) (l ∷ []) ls (ns ∷ []) nss refl refl refl h.1)
