-- Logs hang as before when the logs of a right strand are put behind them, as at the join of a fork.
use Rattle.std.proofs.Common.{◌≡◌, ℕ, suc, List, [], ◌∷◌, ◌++◌, length, append_assoc, append-nil, refl, ap, sym, ◌∙◌, subst, arith, cond, Some}
use Rattle.std.specs.Prelude.{slice_get}
use Rattle.std.proofs.lemmas.Bool.{ne_eqb}
use Rattle.cw_tree.specs.declared.node.Node.{Node}
use Rattle.cw_log.specs.declared.log.Log.{Log}
use Rattle.cw_course.specs.TreeLogs.{number_in_tree, IsHung, AreHung}
use Rattle.cw_course.proofs.TreeLogs.Laid.{within, get_left, named}

-- no log of one list has the column of a log of the other
abbrev pub Separate : List Log → List Log → Type 0
Separate xs ys = (j k : ℕ) (x y : Log) → slice_get xs j ≡ Some x → slice_get ys k ≡ Some y → x.column ≡ y.column → ⊥

number_past : (xs ys : List Log) (ms rs : List (List ℕ)) (c i n : ℕ) → length ms ≡ length xs → Separate xs ys → number_in_tree ys rs c i ≡ Some n → number_in_tree (xs ++ ys) (ms ++ rs) c i ≡ Some n
number_past [] ys [] rs c i n long apart e = e
number_past [] ys (m ∷ ms) rs c i n long apart e = absurd (omega (arith, long))
number_past (x ∷ xs) ys [] rs c i n long apart e = absurd (omega (arith, long))
number_past (x ∷ xs) ys (m ∷ ms) rs c i n long apart e =
    let k = named ys rs c i n e in
    ap (λ b. cond b (slice_get m i) (number_in_tree (xs ++ ys) (ms ++ rs) c i)) (ne_eqb x.column c (λ q. apart 0 k.list x k.log refl k.there (q ∙ sym k.column)))
    ∙ number_past xs ys ms rs c i n (omega (arith, long)) (λ j. apart (suc j)) e

module _ (t : List Node) where
  -- with other logs before all of them
  hung_past : (xs bs ls : List Log) (ns ms rs : List (List ℕ)) → length ns ≡ length xs → Separate xs (bs ++ ls) → AreHung t bs ms ls rs → AreHung t (xs ++ bs) (ns ++ ms) ls rs
  hung_past xs bs [] ns ms rs long apart h = tt
  hung_past xs bs (l ∷ ls) ns ms [] long apart h = absurd h
  hung_past xs bs (l ∷ ls) ns ms (r ∷ rs) long apart h =
      let among : Separate xs bs = λ j k x y e f. apart j k x y e (get_left bs (l ∷ ls) k (within bs k y f) ∙ f) in
      let P : List Log → Type 0 = λ zs. Separate xs zs in
      let Q : List Log → Type 0 = λ zs. AreHung t zs ((ns ++ ms) ++ r ∷ []) ls rs in
      let R : List (List ℕ) → Type 0 = λ zs. AreHung t (xs ++ (bs ++ l ∷ [])) zs ls rs in (
        record { right = h.0.right; from = number_past xs bs ns ms l.from l.fork _ long among h.0.from },
        subst Q (sym (append_assoc xs bs (l ∷ []))) (
            subst R (sym (append_assoc ns ms (r ∷ []))) (hung_past xs (bs ++ l ∷ []) ls ns (ms ++ r ∷ []) rs long (subst P (sym (append_assoc bs (l ∷ []) ls)) apart) h.1)
            ),
      )

  -- with more logs behind them
  hung_more : (bs ls ks : List Log) (ms rs qs : List (List ℕ)) → length rs ≡ length ls → AreHung t bs ms ls rs → AreHung t (bs ++ ls) (ms ++ rs) ks qs → AreHung t bs ms (ls ++ ks) (rs ++ qs)
  hung_more bs [] ks ms [] qs long h g =
      let Q : List Log → Type 0 = λ zs. AreHung t zs ms ks qs in
      let R : List (List ℕ) → Type 0 = λ zs. AreHung t (bs ++ []) zs ks qs in
      subst Q (append-nil bs) (subst R (append-nil ms) g)
  hung_more bs [] ks ms (r ∷ rs) qs long h g = absurd (omega (arith, long))
  hung_more bs (l ∷ ls) ks ms [] qs long h g = absurd h
  hung_more bs (l ∷ ls) ks ms (r ∷ rs) qs long h g =
      let Q : List Log → Type 0 = λ zs. AreHung t zs ((ms ++ r ∷ []) ++ rs) ks qs in
      let R : List (List ℕ) → Type 0 = λ zs. AreHung t (bs ++ l ∷ ls) zs ks qs in
      (h.0, hung_more (bs ++ l ∷ []) ls ks (ms ++ r ∷ []) rs qs (omega (arith, long)) h.1 (subst Q (sym (append_assoc bs (l ∷ []) ls)) (subst R (sym (append_assoc ms (r ∷ []) rs)) g)))

  -- the logs `m ∷ ks` of the right strand, behind the logs `l ∷ js` of the strand that forked
  pub hung_joined : (l m : Log) (js ks : List Log) (ns ms : List ℕ) (nss mss : List (List ℕ)) → length nss ≡ length js → Separate (l ∷ js) (m ∷ ks)
      → AreHung t (l ∷ []) (ns ∷ []) js nss → IsHung t (l ∷ js) (ns ∷ nss) m ms → AreHung t (m ∷ []) (ms ∷ []) ks mss
      → AreHung t (l ∷ []) (ns ∷ []) (js ++ m ∷ ks) (nss ++ ms ∷ mss)
  hung_joined l m js ks ns ms nss mss long apart left here right =
      hung_more (l ∷ []) js (m ∷ ks) (ns ∷ []) nss (ms ∷ mss) long left (here, hung_past (l ∷ js) (m ∷ []) ks (ns ∷ nss) (ms ∷ []) mss (ap suc long) apart right)
