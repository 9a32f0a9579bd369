-- How many forks a strand has made, as the tree grows.
use Rattle.std.proofs.Common.{◌≡◌, ℕ, suc, ◌+◌, ◌<◌, ◌≤◌, List, length, ap, ◌∙◌, arith, Bool, true, false, nat_eq}
use Rattle.std.specs.Prelude.{◌==◌, ◌&&◌, count_by}
use Rattle.std.proofs.lemmas.Bool.{and_left, and_right, ne_eqb}
use Rattle.cw_tree.specs.declared.node.Node.{Node}
use Rattle.cw_tree.specs.Nodes.{is_fork, all_nodes}
use Rattle.cw_tree.specs.Walks.{IsRooted}
use Rattle.cw_tree.specs.Series.{strand_of}
use Rattle.cw_tree.specs.ForkCounts.{one_if}
use Rattle.cw_tree.proofs.Walks.Strands.{strand_of_le}
use Rattle.cw_tree.proofs.Counting.{count, count_step, count_same, count_none, count_past}
use Rattle.cw_tree.proofs.Walks.Agreeing.{Agree, strand_of_same}

-- how many forks stand in strand x
abbrev pub forks_of : List Node → ℕ → ℕ
forks_of t x = count_by (λ g. is_fork t g && (strand_of t g == x)) (all_nodes t)

-- none in what is no old node
pub forks_of_new : (t : List Node) → IsRooted t → (x : ℕ) → length t ≤ x → forks_of t x ≡ 0
forks_of_new t r x le =
    count_none (λ g. is_fork t g && (strand_of t g == x)) (length t) (λ g h.
    let high : strand_of t g ≤ g = strand_of_le t r g h in
    and_right (is_fork t g) (nat_eq (strand_of t g) x) (ne_eqb (strand_of t g) x (λ e. omega arith)))

module _ (t u : List Node) (r : IsRooted t) (a : Agree t u (length t)) (x : ℕ) where
  old_forks : count (λ g. is_fork u g && (strand_of u g == x)) (length t) ≡ forks_of t x
  old_forks =
      count_same (λ g. is_fork u g && (strand_of u g == x)) (λ g. is_fork t g && (strand_of t g == x)) (length t) (λ g h.
      ap (λ b. b && (strand_of u g == x)) (a.forks g h) ∙ ap (λ s. is_fork t g && (s == x)) (strand_of_same t u (length t) a r g h))

  -- as many as before where no fork came
  pub forks_of_stays : ((g : ℕ) → length t ≤ g → g < length u → is_fork u g ≡ false) → forks_of u x ≡ forks_of t x
  forks_of_stays none =
      count_past (λ g. is_fork u g && (strand_of u g == x)) (length t) (length u) a.there_too (λ g le h. and_left (is_fork u g) (nat_eq (strand_of u g) x) (none g le h)) ∙ old_forks

  -- one more in the strand of a fork that came
  pub forks_of_more : length u ≡ suc (length t) → is_fork u (length t) ≡ true → forks_of u x ≡ forks_of t x + one_if (strand_of u (length t) == x)
  forks_of_more len fork =
      let test : ℕ → Bool = λ g. is_fork u g && (strand_of u g == x) in
      ap (count test) len ∙ count_step test (length t) ∙ ap (λ k. k + one_if (test (length t))) old_forks ∙ ap (λ b. forks_of t x + one_if (b && (strand_of u (length t) == x))) fork
