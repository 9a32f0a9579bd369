-- The calls of a tier keep what stands for the tree.
use Rattle.std.proofs.Common.{◌≡◌, ℕ, ◌+◌, ◌<◌, ◌≤◌, ◌∷◌, ◌++◌, length, sym, ap, subst, true, false, None}
use Rattle.std.specs.Prelude.{◌%◌, slice_index, Result, Ok, Err, OnOk, OnErr}
use Rattle.cw_trace.specs.Columns.{ColumnTable, used, gap, is_trace, before_split, forked, split_at, merged}
use Rattle.cw_trace.specs.Traces.{Traces}
use Rattle.cw_trace.specs.Stands.{column}
use Rattle.cw_trace.specs.Keeps.{Keeps}
use Rattle.cw_tree.specs.NextNodes.{fork_nodes}
use Rattle.cw_trace.specs.Laws.{ForkKeeps, SplitKeeps, MergeKeeps}
use Rattle.cw_trace.proofs.Keeps.Forking.{keeps_fork}
use Rattle.cw_trace.proofs.Keeps.GoingOn.{active, goes_on}
use Rattle.cw_trace.proofs.Keeps.Inlining.{keeps_inline}
use Rattle.cw_trace.proofs.Keeps.TreeGrows.{may_have, tree_forked}
use Rattle.cw_trace.proofs.Outward.FromTree.{split_keeps, merge_keeps}

pub fork_keeps : (word parent : ℕ) (c d : ColumnTable) → used c + 2 ≤ c.room → d ≡ forked word parent c → ForkKeeps word parent c d
fork_keeps word parent c d roomy e = λ words t cuts joins is_open p stamp k tr begun o m col w.
    (let P : ℕ → Type 0 = λ i. word ≡ slice_index words (gap c i) → Keeps (forked word i c) words (t ++ fork_nodes (length t) p stamp) cuts joins in
    let Q : ℕ → Type 0 = λ v. Keeps (forked v (column t (used c) p) c) words (t ++ fork_nodes (length t) p stamp) cuts joins in
    let R : ColumnTable → Type 0 = λ x. Keeps x words (t ++ fork_nodes (length t) p stamp) cuts joins in
    let at_column : P (column t (used c) p) = λ v. subst Q (sym v) (keeps_fork c words t cuts joins tr k begun p stamp m.there roomy (active c words t cuts joins tr k is_open o p m) (goes_on c words t cuts joins tr k is_open o p m) (tree_forked t tr p m.there (may_have c t cuts joins is_open o p m) stamp)) in
    subst R (sym e) (subst P col at_column w))

pub inline_keeps : (word parent : ℕ) (c d : ColumnTable) → c.room < used c + 2 → d ≡ c → ForkKeeps word parent c d
inline_keeps word parent c d full e = λ words t cuts joins is_open p stamp k tr begun o m col w.
    (let R : ColumnTable → Type 0 = λ x. Keeps x words (t ++ fork_nodes (length t) p stamp) cuts joins in
    subst R (sym e) (keeps_inline c words t cuts joins tr k p stamp m.there full (goes_on c words t cuts joins tr k is_open o p m) (tree_forked t tr p m.there (may_have c t cuts joins is_open o p m) stamp)))

pub fork_keeps_all : {A E : Type 0} → (r : Result A E) (word parent : ℕ) (s u : Traces) → OnOk r (used s.columns + 2 ≤ s.columns.room) → OnOk r (u.columns ≡ forked word parent s.columns) → OnErr r (s.columns.room < used s.columns + 2) → OnErr r (u ≡ s)
    → ForkKeeps word parent s.columns u.columns
fork_keeps_all (Ok x) word parent s u h e full same = fork_keeps word parent s.columns u.columns h e
fork_keeps_all (Err x) word parent s u h e full same = inline_keeps word parent s.columns u.columns full (ap (λ x. x.columns) same)

pub split_keeps_ok : {A E : Type 0} → (r : Result A E) (f : ℕ) (c d : ColumnTable) → f < used c → f % 2 ≡ 1 → is_trace c f ≡ false → OnOk r (before_split c f ≡ None) → OnOk r (d ≡ split_at f c) → OnOk r (SplitKeeps f c d)
split_keeps_ok (Ok x) f c d low left whole h e = λ words t cuts joins k tr u. (let R : ColumnTable → Type 0 = λ x. Keeps x words t (f ∷ cuts) joins in subst R (sym e) (split_keeps c words t cuts joins k tr f low left whole u h))
split_keeps_ok (Err x) f c d low left whole h e = tt

pub merge_keeps_to : (f : ℕ) (c d : ColumnTable) → f < used c → f % 2 ≡ 1 → is_trace c f ≡ true → d ≡ merged f c → MergeKeeps f c d
merge_keeps_to f c d low left split e = λ words t cuts joins is_open k tr o done. (let R : ColumnTable → Type 0 = λ x. Keeps x words t cuts (f ∷ joins) in subst R (sym e) (merge_keeps c words t cuts joins k tr is_open o f low left split done))
