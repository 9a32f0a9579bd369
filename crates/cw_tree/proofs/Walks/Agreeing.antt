-- Two trees with the same first nodes: strands, the order and the counts of forks are the same there.
use Rattle.std.proofs.Common.{◌≡◌, ℕ, suc, ◌<◌, ◌≤◌, List, [], ◌∷◌, ◌++◌, length, refl, ap, sym, ◌∙◌, arith, true, false, drop, inl, inr, length-append}
use Rattle.std.specs.Prelude.{◌&&◌, unwrap_or}
use Rattle.std.specs.List.{find}
use Rattle.std.proofs.lemmas.Bool.{and_right, cases_eq}
use Rattle.cw_tree.specs.declared.node.Node.{Node}
use Rattle.cw_tree.specs.declared.node.BlockState.{BlockState}
use Rattle.cw_tree.specs.Nodes.{is_strand_kind, is_fork_kind, is_block_kind, is_aborted_state, parent_of, is_strand, is_fork, is_block, is_aborted, closed}
use Rattle.cw_tree.specs.Walks.{IsRooted, path, has, is_ancestor, is_above}
use Rattle.cw_tree.specs.Series.{strand_of, is_before}
use Rattle.cw_tree.specs.Names.{fork_counts_at}
use Rattle.cw_tree.proofs.Walks.Climbs.{find_path_same}
use Rattle.cw_tree.proofs.Walks.Ancestors.{above_ancestor, ancestor_le}
use Rattle.cw_tree.proofs.NextNodes.Growing.{node_grown, number_grown, path_grown, length_more, number_new, rooted_more}
use Rattle.cw_tree.proofs.NextNodes.Closing.{length_closed, node_closed, node_closed_other, number_closed, state_closed, path_closed}
use Rattle.cw_tree.proofs.Walks.Kin.{of_before, before_of}
use Rattle.cw_tree.proofs.Names.Forks.{same_truth}
use Rattle.cw_tree.proofs.Names.Numbers.{of_counts, counts_of}

-- the first k nodes stand in both trees where they stand, as what they are; the same of them were rolled back
pub record Agree (t u : List Node) (k : ℕ) : Type 0 where
  pub there : k ≤ length t
  pub there_too : k ≤ length u
  pub paths : (n : ℕ) → n < k → path u n ≡ path t n
  pub parents : (n : ℕ) → n < k → parent_of u n ≡ parent_of t n
  pub strands : (n : ℕ) → n < k → is_strand u n ≡ is_strand t n
  pub forks : (n : ℕ) → n < k → is_fork u n ≡ is_fork t n
  pub aborted : (n : ℕ) → n < k → is_aborted u n ≡ is_aborted t n

pub agree_back : (t u : List Node) (k : ℕ) → Agree t u k → Agree u t k
agree_back t u k a = record {
  there = a.there_too;
  there_too = a.there;
  paths = λ n h. sym (a.paths n h);
  parents = λ n h. sym (a.parents n h);
  strands = λ n h. sym (a.strands n h);
  forks = λ n h. sym (a.forks n h);
  aborted = λ n h. sym (a.aborted n h);
}

module _ (t u : List Node) (k : ℕ) (a : Agree t u k) where
  pub ancestor_same : (m n : ℕ) → n < k → is_ancestor u m n ≡ is_ancestor t m n
  ancestor_same m n h = ap (λ ns. has ns m) (a.paths n h)

  pub above_same : (m n : ℕ) → n < k → is_above u m n ≡ is_above t m n
  above_same m n h = ap (λ ns. has (drop 1 ns) m) (a.paths n h)

module _ (t u : List Node) (k : ℕ) (a : Agree t u k) (r : IsRooted t) where
  pub strand_of_same : (n : ℕ) → n < k → strand_of u n ≡ strand_of t n
  strand_of_same n h =
      let there = a.there in
      ap (λ ns. unwrap_or (find (is_strand u) ns) 0) (a.paths n h)
      ∙ ap (λ o. unwrap_or o 0) (find_path_same t r (is_strand u) (is_strand t) n (omega arith) (λ m le. a.strands m (omega arith)))

  pub before_to : (n m : ℕ) → n < k → m < k → is_before t n m ≡ true → is_before u n m ≡ true
  before_to n m hn hm e =
      let there = a.there in
      let s = of_before t n m e in
      let o = s.ordered in
      let some = o.some in
      let less = o.less in
      let first : s.first ≤ n = ancestor_le t r s.first n (omega arith) s.over_first in
      let second : s.second ≤ m = ancestor_le t r s.second m (omega arith) s.over_second in
      let low : parent_of t s.first < s.first = r s.first some (omega arith) in
      let up : parent_of u s.first ≡ parent_of t s.first = a.parents s.first (omega arith) in
      before_of u n m (record {
        first = s.first;
        second = s.second;
        ordered = record {
          some = some;
          less = less;
          same = up ∙ o.same ∙ sym (a.parents s.second (omega arith));
          no_fork = ap (is_fork u) up ∙ a.forks (parent_of t s.first) (omega arith) ∙ o.no_fork;
        };
        over_first = ancestor_same t u k a s.first n hn ∙ s.over_first;
        over_second = ancestor_same t u k a s.second m hm ∙ s.over_second;
      })

  counts_to : (n g : ℕ) → n < k → g < k → fork_counts_at t n g ≡ true → fork_counts_at u n g ≡ true
  counts_to n g hn hg e =
      let there = a.there in
      let s = of_counts t n g e in
      counts_of u n g (record {
        fork = a.forks g hg ∙ s.fork;
        strand = strand_of_same g hg ∙ s.strand ∙ sym (strand_of_same n hn);
        before = before_to g n hg hn s.before;
        attempts = λ x i q.
            (let over : is_above t x g ≡ true = sym (above_same t u k a x g hg) ∙ i in
            let le : x ≤ g = ancestor_le t r x g (omega arith) (above_ancestor t x g over) in
            above_same t u k a x n hn ∙ s.attempts x over (sym (a.aborted x (omega arith)) ∙ q));
      })

module _ (t u : List Node) (k : ℕ) (a : Agree t u k) (r : IsRooted t) (r' : IsRooted u) where
  pub counts_same : (n g : ℕ) → n < k → g < k → fork_counts_at u n g ≡ fork_counts_at t n g
  counts_same n g hn hg = same_truth (fork_counts_at u n g) (fork_counts_at t n g) (counts_to u t k (agree_back t u k a) r' n g hn hg) (counts_to t u k a r n g hn hg)

-- more nodes at the end
pub agree_grown : (t s : List Node) → IsRooted t → Agree t (t ++ s) (length t)
agree_grown t s r = record {
  there = omega arith;
  there_too = omega (arith, length-append t s);
  paths = path_grown t s r;
  parents = number_grown t s (λ x. x.parent);
  strands = node_grown t s (λ x. is_strand_kind x.kind);
  forks = node_grown t s (λ x. is_fork_kind x.kind);
  aborted = node_grown t s (λ x. is_block_kind x.kind && is_aborted_state x.state);
}

-- whether a node is rolled back stays as a block closes that neither was nor is
pub aborted_closed : (t : List Node) (b : ℕ) (state : BlockState) (end : ℕ) → is_aborted t b ≡ false → is_aborted_state state ≡ false → (n : ℕ) → is_aborted (closed t b state end) n ≡ is_aborted t n
aborted_closed t b state end e f n =
    elim (cases_eq n b) [
      | inl q ↦
          ap (is_aborted (closed t b state end)) q
          ∙ state_closed t b state end is_aborted_state
          ∙ and_right (is_block t b) (is_aborted_state state) f
          ∙ sym (ap (is_aborted t) q ∙ e)
      | inr ne ↦ node_closed_other t b state end (λ x. is_block_kind x.kind && is_aborted_state x.state) n ne
    ]

pub agree_closed : (t : List Node) (b : ℕ) (state : BlockState) (end : ℕ) → IsRooted t → is_aborted t b ≡ false → is_aborted_state state ≡ false → Agree t (closed t b state end) (length t)
agree_closed t b state end r e f = record {
  there = omega arith;
  there_too = omega (arith, length_closed t b state end);
  paths = path_closed t b state end r;
  parents = λ n h. number_closed t b state end (λ x. x.parent) (λ x. refl) n;
  strands = λ n h. node_closed t b state end (λ x. is_strand_kind x.kind) (λ x. refl) n;
  forks = λ n h. node_closed t b state end (λ x. is_fork_kind x.kind) (λ x. refl) n;
  aborted = λ n h. aborted_closed t b state end e f n;
}

-- u is t and one node more, a child of p
pub record OneMore (t u : List Node) (p : ℕ) : Type 0 where
  pub rooted : IsRooted u
  pub agree : Agree t u (length t)
  pub len : length u ≡ suc (length t)
  pub parent : parent_of u (length t) ≡ p

pub one_more : (t : List Node) (x : Node) → IsRooted t → x.parent < length t → OneMore t (t ++ x ∷ []) x.parent
one_more t x r there = record {
  rooted = rooted_more t x r there;
  agree = agree_grown t (x ∷ []) r;
  len = length_more t x;
  parent = number_new t x (λ y. y.parent);
}
