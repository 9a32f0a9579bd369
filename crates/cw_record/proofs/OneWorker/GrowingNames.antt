-- Names of strands and numbers of forks in a tree that one worker builds.
use Rattle.std.proofs.Common.{◌≡◌, ℕ, suc, ◌+◌, ◌<◌, ◌≤◌, List, [], ◌∷◌, ◌++◌, length, refl, ap, sym, ◌∙◌, arith, true, false, subst, inl, nat_eq}
use Rattle.std.specs.Prelude.{IsTrue}
use Rattle.std.proofs.lemmas.Bool.{eq-eqb, ne_eqb}
use Rattle.cw_tree.specs.declared.node.Node.{Node}
use Rattle.cw_tree.specs.declared.node.Kind.{Kind}
use Rattle.cw_tree.specs.declared.node.Kind.TheVariants.{Strand, Fork}
use Rattle.cw_tree.specs.declared.node.BlockState.TheVariants.{Committed}
use Rattle.cw_tree.specs.declared.picks.Turn.{Turn}
use Rattle.cw_tree.specs.Nodes.{is_strand_kind, is_fork_kind, parent_of, is_strand, is_pending, fresh_node, closed}
use Rattle.cw_tree.specs.Walks.{IsRooted}
use Rattle.cw_tree.specs.Series.{strand_of, is_before}
use Rattle.cw_tree.specs.Names.{fork_number, name_of}
use Rattle.cw_tree.specs.ForkCounts.{one_if}
use Rattle.cw_tree.proofs.Walks.Strands.{strand_of_le}
use Rattle.cw_tree.proofs.Names.Sides.{is_forked}
use Rattle.cw_tree.proofs.NextNodes.Growing.{length_more, node_new, strand_of_new}
use Rattle.cw_tree.proofs.NextNodes.Closing.{length_closed, rooted_closed}
use Rattle.cw_tree.proofs.Walks.Agreeing.{OneMore, one_more, agree_grown, agree_closed}
use Rattle.cw_tree.proofs.Names.KeptNames.{Continues, continues_no_fork, fork_number_stays, name_stays}
use Rattle.cw_tree.proofs.Walks.StrandForks.{forks_of, forks_of_new, forks_of_stays, forks_of_more}
use Rattle.cw_tree.proofs.Walks.NewStrands.{none_came, continues_more, none_forked, one_forked, name_new}
use Rattle.cw_record.proofs.OneWorker.Building.{IsBuilt}
use Rattle.cw_record.specs.Drawn.{added}
use Rattle.cw_record.proofs.OneWorker.NoneAborted.{not_aborted_from}
use Rattle.cw_record.proofs.OneWorker.Placing.{before_no_old, number_added}

-- ## A node that is no fork, anywhere

module _ (t : List Node) (r : IsRooted t) (f : ℕ) (there : f < length t) (kind : Kind) (st : ℕ) (other : is_fork_kind kind ≡ false) where
  beside : Continues t (added t f kind st)
  beside = continues_more t r (fresh_node f kind st) there other

  pub name_beside : (n : ℕ) → n < length t → name_of (added t f kind st) n ≡ name_of t n
  name_beside = name_stays t (added t f kind st) beside

  pub fork_number_beside : (n : ℕ) → n < length t → fork_number (added t f kind st) n ≡ fork_number t n
  fork_number_beside = fork_number_stays t (added t f kind st) beside

  pub forks_beside : (x : ℕ) → forks_of (added t f kind st) x ≡ forks_of t x
  forks_beside x = forks_of_stays t (added t f kind st) r (agree_grown t (fresh_node f kind st ∷ []) r) x (none_came t r (fresh_node f kind st) there other)

  -- none stands in the new node
  pub forks_new : forks_of (added t f kind st) (length t) ≡ 0
  forks_new = forks_beside (length t) ∙ forks_of_new t r (length t) (omega arith)

-- ## A closed block

module _ (t : List Node) (r : IsRooted t) (b end : ℕ) (pending : is_pending t b ≡ true) where
  shut : Continues t (closed t b Committed end)
  shut = continues_no_fork t (closed t b Committed end) r (rooted_closed t b Committed end r) (agree_closed t b Committed end r (not_aborted_from t b (inl pending)) refl) (λ g le low. absurd (omega (arith, length_closed t b Committed end)))

  pub name_closed : (n : ℕ) → n < length t → name_of (closed t b Committed end) n ≡ name_of t n
  name_closed = name_stays t (closed t b Committed end) shut

  pub fork_number_closed : (n : ℕ) → n < length t → fork_number (closed t b Committed end) n ≡ fork_number t n
  fork_number_closed = fork_number_stays t (closed t b Committed end) shut

  pub forks_closed : (x : ℕ) → forks_of (closed t b Committed end) x ≡ forks_of t x
  forks_closed x = forks_of_stays t (closed t b Committed end) r shut.agree x (λ g le low. absurd (omega (arith, length_closed t b Committed end)))

-- ## A node at the place

module _ (t : List Node) (p clock : ℕ) (b : IsBuilt t p clock) where
  module _ (kind : Kind) (st : ℕ) where
    more : OneMore t (added t p kind st) p
    more = one_more t (fresh_node p kind st) b.rooted b.there

    placed : Continues t (added t p kind st)
    placed = record {
      rooted = b.rooted;
      rooted_too = more.rooted;
      agree = more.agree;
      later = λ g n le low h fork.
          (let same : length t ≡ g = omega (arith, more.len) in
          let P : ℕ → Type 0 = λ m. is_before (added t p kind st) m n ≡ false in
          subst P same (before_no_old t p clock b (added t p kind st) more n h));
    }

    pub name_placed : (n : ℕ) → n < length t → name_of (added t p kind st) n ≡ name_of t n
    name_placed = name_stays t (added t p kind st) placed

    pub fork_number_placed : (n : ℕ) → n < length t → fork_number (added t p kind st) n ≡ fork_number t n
    fork_number_placed = fork_number_stays t (added t p kind st) placed

  -- ## A fork at the place

  module _ (st : ℕ) where
    strand_of_fork : strand_of (added t p Fork st) (length t) ≡ strand_of t p
    strand_of_fork = strand_of_new t (fresh_node p Fork st) b.rooted b.there

    forks_placed : (x : ℕ) → forks_of (added t p Fork st) x ≡ forks_of t x + one_if (nat_eq (strand_of t p) x)
    forks_placed x =
        forks_of_more t (added t p Fork st) b.rooted (agree_grown t (fresh_node p Fork st ∷ []) b.rooted) x (length_more t (fresh_node p Fork st)) (node_new t (fresh_node p Fork st) (λ y. is_fork_kind y.kind))
        ∙ ap (λ s. forks_of t x + one_if (nat_eq s x)) strand_of_fork

    -- its strand has one fork more
    pub forks_here : forks_of (added t p Fork st) (strand_of t p) ≡ suc (forks_of t (strand_of t p))
    forks_here = let one : one_if (nat_eq (strand_of t p) (strand_of t p)) ≡ 1 = ap one_if (eq-eqb (strand_of t p) (strand_of t p) refl) in omega (arith, forks_placed (strand_of t p))

    pub forks_elsewhere : (x : ℕ) → (x ≡ strand_of t p → ⊥) → forks_of (added t p Fork st) x ≡ forks_of t x
    forks_elsewhere x ne = let none : one_if (nat_eq (strand_of t p) x) ≡ 0 = ap one_if (ne_eqb (strand_of t p) x (λ e. ne (sym e))) in omega (arith, forks_placed x)

    -- it is the next of its strand
    pub fork_number_next : fork_number (added t p Fork st) (length t) ≡ suc (forks_of t (strand_of t p))
    fork_number_next = number_added t p clock b (added t p Fork st) (more Fork st) (node_new t (fresh_node p Fork st) (λ y. is_strand_kind y.kind))

    pub fork_number_forked_next : fork_number (added (added t p Fork st) (length t) Strand 0) (length t) ≡ suc (forks_of t (strand_of t p))
    fork_number_forked_next = let m = more Fork st in let len = m.len in fork_number_beside (added t p Fork st) m.rooted (length t) (omega arith) Strand 0 refl (length t) (omega arith) ∙ fork_number_next

    -- the left strand in it
    pub name_left : name_of (added (added t p Fork st) (length t) Strand 0) (suc (length t)) ≡ name_of t (strand_of t p) ++ (let x : Turn = record { fork = suc (forks_of t (strand_of t p)); right = false } in x) ∷ []
    name_left =
        let u = added t p Fork st in
        let len : length u ≡ suc (length t) = (more Fork st).len in
        let high : strand_of t p ≤ p = strand_of_le t b.rooted p b.there in
        let there = b.there in
        ap (name_of (added u (length t) Strand 0)) (sym len)
        ∙ name_new u (more Fork st).rooted (fresh_node (length t) Strand 0) (omega arith) refl refl
        ∙ ap (λ n. name_of u n ++ (let x : Turn = record { fork = fork_number u (length t); right = is_forked u (length u) (length t) } in x) ∷ []) strand_of_fork
        ∙ ap (λ ns. ns ++ (let x : Turn = record { fork = fork_number u (length t); right = is_forked u (length u) (length t) } in x) ∷ []) (name_placed Fork st (strand_of t p) (omega arith))
        ∙ ap (λ k. name_of t (strand_of t p) ++ (let x : Turn = record { fork = k; right = is_forked u (length u) (length t) } in x) ∷ []) fork_number_next
        ∙ ap (λ s. name_of t (strand_of t p) ++ (let x : Turn = record { fork = suc (forks_of t (strand_of t p)); right = s } in x) ∷ []) (none_forked u (more Fork st).rooted (length t) (sym len))

    -- ## The fork and its left strand

    pub name_forked : (n : ℕ) → n < length t → name_of (added (added t p Fork st) (length t) Strand 0) n ≡ name_of t n
    name_forked n h = let m = more Fork st in let len = m.len in name_beside (added t p Fork st) m.rooted (length t) (omega arith) Strand 0 refl n (omega arith) ∙ name_placed Fork st n h

    pub fork_number_forked : (n : ℕ) → n < length t → fork_number (added (added t p Fork st) (length t) Strand 0) n ≡ fork_number t n
    fork_number_forked n h = let m = more Fork st in let len = m.len in fork_number_beside (added t p Fork st) m.rooted (length t) (omega arith) Strand 0 refl n (omega arith) ∙ fork_number_placed Fork st n h

    pub forks_forked_here : forks_of (added (added t p Fork st) (length t) Strand 0) (strand_of t p) ≡ suc (forks_of t (strand_of t p))
    forks_forked_here = let m = more Fork st in let len = m.len in forks_beside (added t p Fork st) m.rooted (length t) (omega arith) Strand 0 refl (strand_of t p) ∙ forks_here

    pub forks_forked_elsewhere : (x : ℕ) → (x ≡ strand_of t p → ⊥) → forks_of (added (added t p Fork st) (length t) Strand 0) x ≡ forks_of t x
    forks_forked_elsewhere x ne = let m = more Fork st in let len = m.len in forks_beside (added t p Fork st) m.rooted (length t) (omega arith) Strand 0 refl x ∙ forks_elsewhere x ne

    pub forks_left : forks_of (added (added t p Fork st) (length t) Strand 0) (suc (length t)) ≡ 0
    forks_left =
        let m = more Fork st in
        let len = m.len in
        ap (forks_of (added (added t p Fork st) (length t) Strand 0)) (sym len) ∙ forks_new (added t p Fork st) m.rooted (length t) (omega arith) Strand 0 refl

-- ## A right strand

-- where the left strand is there
pub name_right : (t : List Node) → IsRooted t → (f l : ℕ) → f < length t → 0 < l → l < length t → IsTrue (is_strand t l) → parent_of t l ≡ f
    → name_of (added t f Strand 0) (length t) ≡ name_of t (strand_of t f) ++ (let x : Turn = record { fork = fork_number t f; right = true } in x) ∷ []
name_right t r f l there some low strand up =
    name_new t r (fresh_node f Strand 0) there refl refl
    ∙ ap (λ s. name_of t (strand_of t f) ++ (let x : Turn = record { fork = fork_number t f; right = s } in x) ∷ []) (one_forked t f l some low strand up)
