-- Right strands that are still to come, and that never start.
use Rattle.std.proofs.Common.{◌≡◌, ℕ, ◌<◌, ◌≤◌, List, [], ◌∷◌, ◌++◌, map, subst, append_assoc, arith}
use Rattle.std.specs.Prelude.{All}
use Rattle.std.proofs.lemmas.List.Elements.{All-head, All-tail, All-weaker}
use Rattle.cw_tree.specs.declared.node.Node.{Node}
use Rattle.cw_tree.specs.declared.node.Kind.TheVariants.{Strand}
use Rattle.cw_tree.specs.Nodes.{fresh_node}
use Rattle.cw_job.specs.declared.standing.Standing.{Standing as Running}
use Rattle.cw_record.specs.declared.worker.Branch.{Branch}
use Rattle.cw_record.specs.declared.worker.Branch.TheVariants.{Left, Right}
use Rattle.cw_record.specs.OneWorker.{unstarted}
use Rattle.cw_record.proofs.OneWorker.Unstarted.{with_strands}

abbrev pub AreThere : ℕ → List Branch → Type 0
AreThere n branches = All (λ f. f < n) (unstarted branches)

module _ (n : ℕ) (branches rest : List Branch) (b : Branch) (is : branches ≡ b ∷ rest) (h : AreThere n branches) where
  here : AreThere n (b ∷ rest)
  here = subst (AreThere n) is h

  pub first_there : (f : ℕ) (right : Running) → b ≡ Left f right → f < n
  first_there f right e = let P : Branch → Type 0 = λ x. AreThere n (x ∷ rest) in All-head (λ f. f < n) f (unstarted rest) (subst P e here)

  pub rest_there : AreThere n rest
  rest_there = by b here where
    by : (x : Branch) → AreThere n (x ∷ rest) → AreThere n rest
    by (Left f right) h = All-tail (λ f. f < n) f (unstarted rest) h
    by (Right f left) h = h

pub more_there : (n m : ℕ) (branches : List Branch) → n ≤ m → AreThere n branches → AreThere m branches
more_there n m branches le h = All-weaker (λ f. f < n) (λ f. f < m) (λ f g. omega arith) (unstarted branches) h

pub one_unstarted : (t : List Node) (f : ℕ) (fs : List ℕ) → with_strands (t ++ fresh_node f Strand 0 ∷ []) fs ≡ with_strands t (f ∷ fs)
one_unstarted t f fs = append_assoc t (fresh_node f Strand 0 ∷ []) (map (λ f. fresh_node f Strand 0) fs)
