-- What is found once for all lines of a report: the first node with each stamp, which nodes are there, and the steps down to a strand.
use Rattle.std.proofs.Common.{◌≡◌, ℕ, zero, suc, ◌+◌, ◌<◌, ◌≤◌, ◌++◌, ◌∷◌, List, [], Bool, true, false, Option, Some, None, length, refl, ap, sym, ◌∙◌, cond, arith}
use Rattle.std.specs.Prelude.{◌==◌, ◌&&◌, find, nat_lt}
use Rattle.std.specs.Option.{option_or}
use Rattle.std.specs.Ordering.{is_eq, nat_cmp}
use Rattle.std.proofs.lemmas.Bool.Decides.{nat_tests}
use Rattle.std.proofs.lemmas.Bool.{lt-ltb, le-ltb}
use Rattle.cw_tree.specs.declared.node.Node.{Node}
use Rattle.cw_tree.specs.Nodes.{below, is_strand, parent_of, stamp_of}
use Rattle.cw_tree.specs.Walks.{IsRooted}
use Rattle.cw_tree.specs.Names.{strands_on}
use Rattle.cw_tree.specs.Series.{strand_of}
use Rattle.cw_tree.proofs.Walks.Climbs.{by_parent}
use Rattle.cw_tree.proofs.Walks.Strands.{strand_of_root, strand_of_strand, strand_of_other}
use Rattle.cw_tree.proofs.Names.Turns.{strands_step}
use Rattle.cw_report.specs.Found.{first_with_stamp}
use Rattle.cw_report.specs.Report.{node_there}

-- ## The first node with each stamp

-- a search through one number more
find_more : (p : ℕ → Bool) (ns : List ℕ) (n : ℕ) → find p (ns ++ n ∷ []) ≡ option_or (find p ns) (cond (p n) (Some n) None)
find_more p [] n = refl
find_more p (k ∷ ns) n = by_test (p k) (find_more p ns n) where
  by_test : (b : Bool) → find p (ns ++ n ∷ []) ≡ option_or (find p ns) (cond (p n) (Some n) None)
      → cond b (Some k) (find p (ns ++ n ∷ [])) ≡ option_or (cond b (Some k) (find p ns)) (cond (p n) (Some n) None)
  by_test true more = refl
  by_test false more = more

-- numbers tie where they are the same
tie_same : (a b : ℕ) → is_eq (nat_cmp a b) ≡ (a == b)
tie_same a b = grind (arith, nat_tests)

pub first_step : (t : List Node) (n k s : ℕ) (old : Option ℕ) → old ≡ first_with_stamp t n s → k ≡ stamp_of t n → option_or old (cond (is_eq (nat_cmp k s)) (Some n) None) ≡ first_with_stamp t (n + 1) s
first_step t n k s old so_far is =
    let p : ℕ → Bool = λ m. stamp_of t m == s in
    let next : n + 1 ≡ suc n = omega arith in
    ap (λ o. option_or o (cond (is_eq (nat_cmp k s)) (Some n) None)) so_far
    ∙ ap (λ b. option_or (first_with_stamp t n s) (cond b (Some n) None)) (tie_same k s ∙ ap (λ m. m == s) is)
    ∙ sym (ap (λ m. find p (below m)) next ∙ find_more p (below n) n)

-- a node that was found is there
pub found_there : (p : ℕ → Bool) (k n : ℕ) → find p (below k) ≡ Some n → n < k
found_there p zero n e = cc
found_there p (suc k) n e = by_earlier (find p (below k)) (found_there p k n) (sym (find_more p (below k) k) ∙ e) where
  by_earlier : (o : Option ℕ) → (o ≡ Some n → n < k) → option_or o (cond (p k) (Some k) None) ≡ Some n → n < suc k
  by_earlier (Some m) early h = let low : n < k = early h in omega (arith, low)
  by_earlier None early h = by_test (p k) h where
    by_test : (b : Bool) → cond b (Some k) None ≡ Some n → n < suc k
    by_test true h = let same : k ≡ n = cc in omega (arith, same)
    by_test false h = cc

-- ## Nodes that are there

pub is_there : (t : List Node) (n : ℕ) → n < length t → node_there t n ≡ Some n
is_there t n low = ap (λ b. cond b (Some n) None) (lt-ltb n (length t) low)

pub is_not_there : (t : List Node) (n : ℕ) → length t ≤ n → node_there t n ≡ None
is_not_there t n high = ap (λ b. cond b (Some n) None) (le-ltb n (length t) high)

-- ## The steps down to a strand

-- the strands on the way up from a node are those on the way up from its strand
pub strands_from_strand : (t : List Node) → IsRooted t → (n : ℕ) → n < length t → strands_on t n ≡ strands_on t (strand_of t n)
strands_from_strand t r =
    by_parent t r (λ n. strands_on t n ≡ strands_on t (strand_of t n)) (ap (strands_on t) (sym (strand_of_root t)))
    (λ n some there more. by_kind n some there more (is_strand t n) refl) where
      by_kind : (n : ℕ) → 0 < n → n < length t → strands_on t (parent_of t n) ≡ strands_on t (strand_of t (parent_of t n)) → (b : Bool) → is_strand t n ≡ b → strands_on t n ≡ strands_on t (strand_of t n)
      by_kind n some there more true e = ap (strands_on t) (sym (strand_of_strand t r n some there e))
      by_kind n some there more false e =
          strands_step t r n some there ∙ ap (λ b. cond (nat_lt 0 n && b) (n ∷ strands_on t (parent_of t n)) (strands_on t (parent_of t n))) e ∙ last (nat_lt 0 n)
          ∙ more ∙ ap (strands_on t) (sym (strand_of_other t r n some there e)) where
            last : (b : Bool) → cond (b && false) (n ∷ strands_on t (parent_of t n)) (strands_on t (parent_of t n)) ≡ strands_on t (parent_of t n)
            last true = refl
            last false = refl
