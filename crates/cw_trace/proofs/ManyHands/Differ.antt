-- Strands that may go on are in different traces and use different gaps, so one leaves the word of another's gap and makes no node in its trace.
use Rattle.std.proofs.Common.{◌≡◌, ◌≢◌, ℕ, List, [], ◌∷◌, ◌++◌, length, refl, ap, sym, ◌∙◌, arith, Bool, true, false, nat_eq, length-append}
use Rattle.std.specs.Prelude.{slice_index, slice_set, if◌then◌else◌}
use Rattle.std.proofs.lemmas.List.{get_or-set_other}
use Rattle.cw_tree.specs.declared.node.Node.{Node}
use Rattle.cw_tree.specs.Nodes.{is_strand_kind, passes, number_in}
use Rattle.cw_tree.specs.Shape.{IsTree}
use Rattle.cw_tree.proofs.NextNodes.Growing.{get_next}
use Rattle.cw_trace.specs.Columns.{used, owner}
use Rattle.cw_trace.specs.Stands.{column}
use Rattle.cw_trace.specs.Hands.{gap_at, HandsDiffer, WordsStay, NodesApart}
use Rattle.cw_trace.proofs.Keeps.GoingOn.{owners_differ, gaps_differ}
use Rattle.cw_trace.proofs.Keeps.Grow.{column_append}
use Rattle.cw_trace.proofs.Keeps.Owners.{column_other}
use Rattle.cw_trace.proofs.Keeps.TreeGrows.{may_have, tree_one_more}

pub hands_differ : HandsDiffer
hands_differ c words t cuts joins is_open p q s m n ne =
    (λ e. ne (owners_differ c words t cuts joins s.tree s.keeps is_open s.ordered q n p m e), λ e. ne (gaps_differ c words t cuts joins s.tree s.keeps is_open s.ordered p q m n e))

-- a word that is set, if a test passes, is no other word
set_elsewhere : (b : Bool) (words : List ℕ) (g h w : ℕ) → h ≢ g → slice_index (if b then slice_set words g w else words) h ≡ slice_index words h
set_elsewhere true words g h w ne = get_or-set_other words g h w 0 ne
set_elsewhere false words g h w ne = refl

pub words_stay : WordsStay
words_stay c words t cuts joins is_open p q stamp s m n ne =
    let apart : gap_at c t p ≢ gap_at c t q = (hands_differ c words t cuts joins is_open p q s m n ne).1 in
    (set_elsewhere (nat_eq (slice_index words (gap_at c t q)) 0) words (gap_at c t q) (gap_at c t p) stamp apart, set_elsewhere (nat_eq (slice_index words (gap_at c t q)) stamp) words (gap_at c t q) (gap_at c t p) 0 apart)

-- the column of a node that is made at place q, and is no strand
pub column_next : (size : ℕ) (t : List Node) (tr : IsTree t) (q : ℕ) (x : Node) (more : List Node) → IsTree (t ++ x ∷ more) → x.parent ≡ q → is_strand_kind x.kind ≡ false → column (t ++ x ∷ more) size (length t) ≡ column (t ++ x ∷ more) size q
column_next size t tr q x more tr2 under ns =
    let some = tr.some in
    column_other (t ++ x ∷ more) tr2 size (length t) (omega arith) (omega (arith, length-append t (x ∷ more))) (ap (passes (λ y. is_strand_kind y.kind)) (get_next t x more) ∙ ns)
    ∙ ap (column (t ++ x ∷ more) size) (ap (number_in (λ y. y.parent)) (get_next t x more) ∙ under)

pub nodes_apart : NodesApart
nodes_apart c words t cuts joins is_open p q x s m n ne under ns nf e =
    let tr2 : IsTree (t ++ x ∷ []) = tree_one_more t s.tree q n.there (may_have c t cuts joins is_open s.ordered q n) x under ns nf in
    let here : column (t ++ x ∷ []) (used c) (length t) ≡ column t (used c) q = column_next (used c) t s.tree q x [] tr2 under ns ∙ column_append t (x ∷ []) s.tree.rooted (used c) q n.there in
    (hands_differ c words t cuts joins is_open p q s m n ne).0 (sym (ap (owner c) (column_append t (x ∷ []) s.tree.rooted (used c) p m.there)) ∙ sym e ∙ ap (owner c) here)
