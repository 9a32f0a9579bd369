-- The line that says how many of a kind follow, and what follows.
use Rattle.std.proofs.Common.{◌≡◌, ℕ, true, List, codes, refl, sym, subst}
use Rattle.std.specs.Prelude.{Result}
use Rattle.std.specs.Str.{bytes_eq}
use Rattle.std.proofs.lemmas.Slice.Eq.{bytes_eq-Decides}
use Rattle.cw_text.specs.Syntax.{Source}
use Rattle.cw_tree.specs.declared.conflict.Conflict.{Conflict}
use Rattle.cw_tree.specs.declared.node.Node.{Node}
use Rattle.cw_sheet.specs.declared.sheet.SheetRefusal.{SheetRefusal}
use Rattle.cw_sheet.specs.Items.{Place, Taken, took, refused, ◌into◌, count, exactly, line_done, newline, word}
use Rattle.cw_sheet.specs.Reading.{cancel_node, conflict_row, conflicts, end_named, finished, node, node_named, nodes, source, source_of_length}
use Rattle.cw_sheet.specs.Taking.{Takes, count_line}
use Rattle.cw_sheet.proofs.Taking.{into_into}

pub takes_as : {T A : Type 0} (r : Result T SheetRefusal) (f : T → A) (t u : Taken A) (p : Place) → u ≡ t → Takes r f t p → Takes r f u p
takes_as r f t u p e h = subst (λ x. Takes r f x p) (sym e) h

three_into : {A B C D : Type 0} (t : Taken A) (f : A → Place → Taken B) (g : B → Place → Taken C) (h : C → Place → Taken D) →
    (t into λ x p. f x p into λ y q. g y q into h) ≡ ((t into λ x p. f x p into g) into h)
three_into (took x p) f g h = sym (into_into (f x p) g h)
three_into (refused e) f g h = refl

abbrev pub nodes_from : ℕ → Place → Taken (List Node)
nodes_from n p = exactly n 0 node p

pub nodes_is : (p : Place) → nodes p ≡ (count_line (codes "nodes") p into nodes_from)
nodes_is p = three_into (word (codes "nodes") p) (λ _ q. count q) (λ n q. line_done n q) nodes_from

abbrev pub conflicts_from : ℕ → Place → Taken (List Conflict)
conflicts_from n p = exactly n 0 (λ k q. conflict_row q) p

pub conflicts_is : (p : Place) → conflicts p ≡ (count_line (codes "conflicts") p into conflicts_from)
conflicts_is p = three_into (word (codes "conflicts") p) (λ _ q. count q) (λ n q. line_done n q) conflicts_from

abbrev pub source_from : (line : ℕ) → ℕ → Place → Taken Source
source_from l n p = source_of_length n l p

pub source_is : (p : Place) → source p ≡ (count_line (codes "source") p into source_from p.line)
source_is p = three_into (word (codes "source") p) (λ _ q. count q) (λ n q. line_done n q) (source_from p.line)

-- ## First words

pub cancel_named : (w : List ℕ) (n : ℕ) (p : Place) → bytes_eq w (codes "cancel") ≡ true → node_named w n p ≡ cancel_node p
cancel_named w n p h = let P : List ℕ → Type 0 = λ v. node_named v n p ≡ cancel_node p in subst P (sym ((bytes_eq-Decides w (codes "cancel")).0 h)) refl

pub finished_named : (w : List ℕ) (p : Place) → bytes_eq w (codes "finished") ≡ true → end_named w p ≡ (newline p into λ _ q. finished q)
finished_named w p h = let P : List ℕ → Type 0 = λ v. end_named v p ≡ (newline p into λ _ q. finished q) in subst P (sym ((bytes_eq-Decides w (codes "finished")).0 h)) refl
