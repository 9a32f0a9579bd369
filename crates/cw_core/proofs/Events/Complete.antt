-- Between events no undo is under way: each list has every live access of its cell.
use Rattle.std.proofs.Common.{◌≡◌, ℕ, ◌≤◌, List, ◌++◌, length, sym, ◌∙◌, subst, true, false, inl, inr}
use Rattle.std.specs.Prelude.{ℤ}
use Rattle.std.proofs.lemmas.Bool.{cases_lt}
use Rattle.cw_tree.specs.declared.node.Node.{Node}
use Rattle.cw_tree.specs.Nodes.{touches_kind, stamp_of, touches}
use Rattle.cw_tree.specs.Walks.{IsRooted}
use Rattle.cw_tree.specs.Accesses.{is_live}
use Rattle.cw_tree.proofs.Lists.{In}
use Rattle.cw_tree.proofs.NextNodes.Growing.{node_grown, number_grown}
use Rattle.cw_tree.proofs.Walks.Kin.{has_in, in_has}
use Rattle.cw_open.specs.Machine.{OpenMachine, live}
use Rattle.cw_open.specs.Laws.{NoneUndone}
use Rattle.cw_open.proofs.Laws.Named.{live_grown}
use Rattle.cw_open.proofs.Laws.Listing.{listed}
use Rattle.cw_open.proofs.Runs.States.{IsState}

abbrev pub HasAll : List Node → List (List ℕ) → Type 0
HasAll t ls = (c n : ℕ) → touches t c n ≡ true → is_live t n ≡ true → In (stamp_of t n) (listed ls c)

pub all_of : (first : List ℤ) (m : OpenMachine) → IsState first m → NoneUndone m → HasAll m.tree m.lists
all_of first m s none c n e l = elim (s.listed.missing c n e l) [ inl i ↦ i | inr g ↦ has_in (live m c) (stamp_of m.tree n) (none g.block c n g.pending g.over e l) ]

pub none_of : (m : OpenMachine) → HasAll m.tree m.lists → NoneUndone m
none_of m all b c n pending over e l = in_has (live m c) (stamp_of m.tree n) (all c n e l)

-- what is live in another tree was live in this one
pub all_fewer : (t u : List Node) (ls : List (List ℕ)) → ((c n : ℕ) → touches u c n ≡ true → is_live u n ≡ true → (touches t c n ≡ true) × (is_live t n ≡ true) × (stamp_of u n ≡ stamp_of t n)) → HasAll t ls → HasAll u ls
all_fewer t u ls was all c n e l =
    let (a, b, same) = was c n e l in
    let P : ℕ → Type 0 = λ s. In s (listed ls c) in
    subst P (sym same) (all c n a b)

-- nodes that are no accesses
pub all_quiet : (t xs : List Node) → IsRooted t → (ls : List (List ℕ)) → ((c n : ℕ) → length t ≤ n → touches (t ++ xs) c n ≡ false) → HasAll t ls → HasAll (t ++ xs) ls
all_quiet t xs r ls quiet =
    all_fewer t (t ++ xs) ls (λ c n e l.
    elim (cases_lt n (length t)) [
      | inl h ↦ (sym (node_grown t xs (λ y. touches_kind c y.kind) n h) ∙ e, sym (live_grown t xs r n h) ∙ l, number_grown t xs (λ y. y.stamp) n h)
      | inr le ↦ absurd (cc (e, quiet c n le))
    ])
