-- Names of strands stay as more nodes come.
use Rattle.std.proofs.Common.{◌≡◌, ℕ, ◌+◌, ◌<◌, ◌≤◌, List, length, map, reverse, ap, ◌∙◌, arith, true, false, nat_eq, nat_lt}
use Rattle.std.specs.Prelude.{◌&&◌}
use Rattle.std.specs.List.{filter}
use Rattle.std.proofs.lemmas.Bool.{and_parts, false_from_ne_true, ltb-true}
use Rattle.cw_tree.specs.declared.node.Node.{Node}
use Rattle.cw_tree.specs.declared.picks.Turn.{Turn}
use Rattle.cw_tree.specs.Nodes.{parent_of, is_strand, is_fork, below}
use Rattle.cw_tree.specs.Walks.{IsRooted, path}
use Rattle.cw_tree.specs.Series.{is_before}
use Rattle.cw_tree.specs.Names.{fork_counts_at, fork_number, is_right, turn, strands_on, name_of}
use Rattle.cw_tree.proofs.Walks.Ancestors.{ancestor_le}
use Rattle.cw_tree.proofs.Walks.Kin.{in_ancestor}
use Rattle.cw_tree.proofs.Counting.{count_same, count_past}
use Rattle.cw_tree.proofs.Names.Numbers.{of_counts}
use Rattle.cw_tree.proofs.Members.{in_below, in_filter, any_same, filter_same, map_same}
use Rattle.cw_tree.proofs.Walks.Agreeing.{Agree, counts_same}

-- u has the nodes of t and maybe more, and no fork that came later is before a node of t
pub record Continues (t u : List Node) : Type 0 where
  pub rooted : IsRooted t
  pub rooted_too : IsRooted u
  pub agree : Agree t u (length t)
  pub later : (g n : ℕ) → length t ≤ g → g < length u → n < length t → is_fork u g ≡ true → is_before u g n ≡ false

pub right_same : (t u : List Node) (k : ℕ) → Agree t u k → (n : ℕ) → n < k → is_right u n ≡ is_right t n
right_same t u k a n h =
    any_same (λ m. nat_lt 0 m && is_strand u m && nat_eq (parent_of u m) (parent_of u n)) (λ m. nat_lt 0 m && is_strand t m && nat_eq (parent_of t m) (parent_of t n)) (below n) (λ m i.
    let low : m < n = in_below m n i in
    ap (λ b. nat_lt 0 m && b && nat_eq (parent_of u m) (parent_of u n)) (a.strands m (omega arith))
    ∙ ap (λ q. nat_lt 0 m && is_strand t m && nat_eq q (parent_of u n)) (a.parents m (omega arith))
    ∙ ap (λ q. nat_lt 0 m && is_strand t m && nat_eq (parent_of t m) q) (a.parents n h))

module _ (t u : List Node) (c : Continues t u) where
  late : (n g : ℕ) → n < length t → length t ≤ g → g < length u → fork_counts_at u n g ≡ false
  late n g h le low =
      false_from_ne_true (fork_counts_at u n g) (λ e.
      let s = of_counts u n g e in
      let no = c.later g n le low h s.fork in
      let yes = s.before in
      absurd (cc (no, yes)))

  pub fork_number_stays : (n : ℕ) → n < length t → fork_number u n ≡ fork_number t n
  fork_number_stays n h =
      ap (λ k. k + 1)
      (count_past (fork_counts_at u n) (length t) (length u) c.agree.there_too (λ g le low. late n g h le low)
      ∙ count_same (fork_counts_at u n) (fork_counts_at t n) (length t) (λ g low. counts_same t u (length t) c.agree c.rooted c.rooted_too n g h low))

  turn_stays : (n : ℕ) → 0 < n → n < length t → turn u n ≡ turn t n
  turn_stays n p h =
      let low : parent_of t n < n = c.rooted n p h in
      let fork : fork_number u (parent_of u n) ≡ fork_number t (parent_of t n) = ap (fork_number u) (c.agree.parents n h) ∙ fork_number_stays (parent_of t n) (omega arith) in
      ap (λ x. (let y : Turn = record { fork = x; right = is_right u n } in y)) fork
      ∙ ap (λ b. (let y : Turn = record { fork = fork_number t (parent_of t n); right = b } in y)) (right_same t u (length t) c.agree n h)

  pub name_stays : (n : ℕ) → n < length t → name_of u n ≡ name_of t n
  name_stays n h =
      ap (λ ns. reverse (map (turn u) (filter (λ m. nat_lt 0 m && is_strand u m) ns))) (c.agree.paths n h)
      ∙ ap (λ ns. reverse (map (turn u) ns)) (filter_same (λ m. nat_lt 0 m && is_strand u m) (λ m. nat_lt 0 m && is_strand t m) (path t n) (λ m i.
      let le : m ≤ n = ancestor_le t c.rooted m n h (in_ancestor t m n i) in
      ap (λ b. nat_lt 0 m && b) (c.agree.strands m (omega arith))))
      ∙ ap reverse (map_same (turn u) (turn t) (strands_on t n) (λ m i.
      let z = in_filter (λ m. nat_lt 0 m && is_strand t m) m (path t n) i in
      let le : m ≤ n = ancestor_le t c.rooted m n h (in_ancestor t m n z.0) in
      turn_stays m (ltb-true 0 m (and_parts (nat_lt 0 m) (is_strand t m) z.1).0) (omega arith)))

-- where no fork came
pub continues_no_fork : (t u : List Node) → IsRooted t → IsRooted u → Agree t u (length t) → ((g : ℕ) → length t ≤ g → g < length u → is_fork u g ≡ false) → Continues t u
continues_no_fork t u r r' a none = record { rooted = r; rooted_too = r'; agree = a; later = λ g n le low h fork. absurd (cc (none g le low, fork)) }
