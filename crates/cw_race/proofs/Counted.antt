-- How many of the first nodes are accesses, and how that grows.
use Rattle.std.proofs.Common.{◌≡◌, ℕ, zero, suc, ◌+◌, ◌≤◌, List, length, ap, ◌∙◌, arith, Bool, inl, inr, Some}
use Rattle.std.specs.Prelude.{is_some}
use Rattle.std.proofs.lemmas.Bool.{cases_lt}
use Rattle.cw_tree.specs.declared.node.Node.{Node}
use Rattle.cw_tree.specs.ForkCounts.{one_if}
use Rattle.cw_tree.proofs.Counting.{count, count_step}
use Rattle.cw_race.specs.Races.{cell_of, number_of_accesses}

pub count_grows : (p : ℕ → Bool) (n k : ℕ) → n ≤ k → count p n ≤ count p k
count_grows p n zero le = let same : n ≡ zero = omega arith in omega (arith, ap (count p) same)
count_grows p n (suc k) le = elim (cases_lt k n) [
  | inl l ↦ (let same : n ≡ suc k = omega arith in omega (arith, ap (count p) same))
  | inr low ↦ (let more = count_grows p n k low in omega (arith, more, count_step p k))
]

-- how many of the first n nodes are accesses
abbrev pub counted : List Node → ℕ → ℕ
counted t n = count (λ m. is_some (cell_of t m)) n

pub counted_all : (t : List Node) (n : ℕ) → n ≤ length t → counted t n ≤ number_of_accesses t
counted_all t n le = count_grows (λ m. is_some (cell_of t m)) n (length t) le

pub counted_access : (t : List Node) (n c : ℕ) → cell_of t n ≡ Some c → counted t (suc n) ≡ counted t n + 1
counted_access t n c e = count_step (λ m. is_some (cell_of t m)) n ∙ ap (λ o. counted t n + one_if (is_some o)) e

pub counted_other : (t : List Node) (n : ℕ) → counted t n ≤ counted t (suc n)
counted_other t n = count_grows (λ m. is_some (cell_of t m)) n (suc n) (omega arith)
