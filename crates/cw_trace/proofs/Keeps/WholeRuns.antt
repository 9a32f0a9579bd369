-- Whole runs of a tier.
use Rattle.std.proofs.Common.{ℕ, List, refl}
use Rattle.cw_tree.specs.declared.node.Node.{Node}
use Rattle.cw_tree.proofs.Walks.Ancestors.{ancestor_trans}
use Rattle.cw_trace.specs.Columns.{ColumnTable, used, owner}
use Rattle.cw_trace.specs.Stands.{column}
use Rattle.cw_trace.specs.Keeps.{Keeps}
use Rattle.cw_trace.specs.Runs.{ReachedTier, start, fork, inline, split, merge, join, leaf, begin, close, EachRunStands, EachRunGoesOn, Suspended}
use Rattle.cw_trace.proofs.Keeps.Kept.{fork_keeps, inline_keeps}
use Rattle.cw_trace.proofs.Outward.FromTree.{split_keeps, merge_keeps}
use Rattle.cw_trace.proofs.Keeps.Meaning.{stands_of}
use Rattle.cw_trace.proofs.Keeps.Owners.{beneath_cut}
use Rattle.cw_trace.proofs.Keeps.TierLaws as law
use Rattle.cw_tree.proofs.Walks.There.{pending_there}

kept : (c : ColumnTable) (words : List ℕ) (t : List Node) (cuts joins : List ℕ) → ReachedTier c words t cuts joins → Keeps c words t cuts joins
kept _ _ _ _ _ (start room words some fits zeros) = law.start room words some fits zeros
kept _ _ _ _ _ (fork c words t cuts joins p stamp r w roomy) = fork_keeps _ _ c _ roomy refl words t cuts joins w.is_open p stamp (kept c words t cuts joins r) w.tree w.stamps w.ordered w.goes refl refl
kept _ _ _ _ _ (inline c words t cuts joins p stamp r w full) = inline_keeps _ _ c c full refl words t cuts joins w.is_open p stamp (kept c words t cuts joins r) w.tree w.stamps w.ordered w.goes refl refl
kept _ _ _ _ _ (split c words t cuts joins f r tr low left whole e u) = split_keeps c words t cuts joins (kept c words t cuts joins r) tr f low left whole u e
kept _ _ _ _ _ (merge c words t cuts joins f is_open r tr o low left cut done) = merge_keeps c words t cuts joins (kept c words t cuts joins r) tr is_open o f low left cut done
kept _ _ _ _ _ (join c words t cuts joins f is_open r tr o m) = law.join c words t cuts joins is_open f (kept c words t cuts joins r) tr o m
kept _ _ _ _ _ (leaf c words t cuts joins x r w ns nf np) = law.leaf c words t cuts joins w.is_open x.parent x (kept c words t cuts joins r) w.tree w.ordered w.goes refl ns nf np
kept _ _ _ _ _ (begin c words t cuts joins p stamp r w some newest) = law.begin c words t cuts joins w.is_open p stamp (kept c words t cuts joins r) w.tree w.ordered w.goes w.stamps some newest
kept _ _ _ _ _ (close c words t cuts joins q end state r w pq e distinct) = law.close c words t cuts joins w.is_open q end state (kept c words t cuts joins r) w.tree w.ordered w.goes pq e w.stamps distinct

pub each_run_stands : EachRunStands
each_run_stands = kept

pub each_run_goes_on : EachRunGoesOn
each_run_goes_on c words t cuts joins p r w = law.goes_on_beneath c words t cuts joins w.is_open p (kept c words t cuts joins r) w.tree w.ordered w.goes

pub suspended : Suspended
suspended c words t cuts joins k tr b n h pb d =
    let st = stands_of c words t cuts joins k in
    let f = beneath_cut c words t cuts joins tr st (owner c (column t (used c) b)) (owner c (column t (used c) n)) d n h refl in
    ancestor_trans t tr.rooted b f.0 n h (st.contains_cut b f.0 (pending_there t b pb) pb f.1.fork f.1.cut) f.1.above
