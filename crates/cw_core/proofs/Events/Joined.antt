-- The joined forks, by the columns of their left strands, as the tree changes.
use Rattle.std.proofs.Common.{◌≡◌, ℕ, ◌+◌, List, ◌∷◌, map, ap, sym, ◌∙◌, subst, true, false, cond, nat_le}
use Rattle.std.specs.Prelude.{filter}
use Rattle.cw_tree.specs.declared.node.Node.{Node}
use Rattle.cw_tree.specs.Nodes.{is_fork}
use Rattle.cw_tree.specs.Walks.{has}
use Rattle.cw_tree.proofs.Members.{in_filter, map_same, filter_same, map_in, in_map, filter_in}
use Rattle.cw_tree.proofs.Walks.Kin.{has_in, in_has}
use Rattle.cw_trace.specs.Stands.{fork_column}
use Rattle.cw_trace.proofs.Stands.Counting.{fork_column_one}

-- the joined forks with columns, of those that were joined
abbrev pub joins_of : List Node → ℕ → List ℕ → List ℕ
joins_of t room fs = map (fork_column t) (filter (λ f. nat_le (fork_column t f + 2) room) fs)

-- a fork that was joined is among them where it has columns
pub joins_have : (t : List Node) (room : ℕ) (fs : List ℕ) (f : ℕ) → has fs f ≡ true → nat_le (fork_column t f + 2) room ≡ true → has (joins_of t room fs) (fork_column t f) ≡ true
joins_have t room fs f e low = in_has (joins_of t room fs) (fork_column t f) (map_in (fork_column t) f (filter (λ f. nat_le (fork_column t f + 2) room) fs) (filter_in (λ f. nat_le (fork_column t f + 2) room) f fs (has_in fs f e) low))

-- and no other fork
pub joins_tell : (t : List Node) (room : ℕ) (fs : List ℕ) → ((f : ℕ) → has fs f ≡ true → is_fork t f ≡ true) → (f : ℕ) → is_fork t f ≡ true → has (joins_of t room fs) (fork_column t f) ≡ true → has fs f ≡ true
joins_tell t room fs forks f fork e =
    let w = in_map (fork_column t) (fork_column t f) (filter (λ f. nat_le (fork_column t f + 2) room) fs) (has_in (joins_of t room fs) (fork_column t f) e) in
    let i = (in_filter (λ f. nat_le (fork_column t f + 2) room) w.0 fs w.1).0 in
    let same : f ≡ w.0 = fork_column_one t f w.0 fork (forks w.0 (in_has fs w.0 i)) w.2 in
    let P : ℕ → Type 0 = λ n. has fs n ≡ true in
    subst P (sym same) (in_has fs w.0 i)

-- they stay in another tree where the forks keep their columns
pub joins_same : (t u : List Node) (room : ℕ) (fs : List ℕ) → ((f : ℕ) → has fs f ≡ true → fork_column u f ≡ fork_column t f) → joins_of u room fs ≡ joins_of t room fs
joins_same t u room fs same =
    ap (map (fork_column u)) (filter_same (λ f. nat_le (fork_column u f + 2) room) (λ f. nat_le (fork_column t f + 2) room) fs (λ f i. ap (λ c. nat_le (c + 2) room) (same f (in_has fs f i))))
    ∙ map_same (fork_column u) (fork_column t) (filter (λ f. nat_le (fork_column t f + 2) room) fs) (λ f i. same f (in_has fs f (in_filter (λ f. nat_le (fork_column t f + 2) room) f fs i).0))

-- one fork more
pub joins_more : (t : List Node) (room : ℕ) (fs : List ℕ) (f : ℕ) → nat_le (fork_column t f + 2) room ≡ true → joins_of t room (f ∷ fs) ≡ fork_column t f ∷ joins_of t room fs
joins_more t room fs f e = ap (λ b. map (fork_column t) (cond b (f ∷ filter (λ f. nat_le (fork_column t f + 2) room) fs) (filter (λ f. nat_le (fork_column t f + 2) room) fs))) e

pub joins_no_more : (t : List Node) (room : ℕ) (fs : List ℕ) (f : ℕ) → nat_le (fork_column t f + 2) room ≡ false → joins_of t room (f ∷ fs) ≡ joins_of t room fs
joins_no_more t room fs f e = ap (λ b. map (fork_column t) (cond b (f ∷ filter (λ f. nat_le (fork_column t f + 2) room) fs) (filter (λ f. nat_le (fork_column t f + 2) room) fs))) e
