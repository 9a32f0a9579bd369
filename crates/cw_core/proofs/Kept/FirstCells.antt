-- The cells with their first values.
use Rattle.std.proofs.Common.{◌≡◌, ℕ, ◌+◌, ◌<◌, List, [], ◌∷◌, ◌++◌, length, map, take, get_or, ap, sym, ◌∙◌}
use Rattle.std.specs.Prelude.{ℤ, pos}
use Rattle.std.proofs.lemmas.List.{take_more, map-append}
use Rattle.cw_tree.specs.declared.access.Entry.{Entry}
use Rattle.cw_stack.specs.Cells.{CellParts}
use Rattle.cw_core.specs.Kept.{fresh_cell}

abbrev make : ℤ → List Entry → ℕ → ℕ → CellParts
make v es n r = record { first = v; entries = es; cleaned = n; room = r }

pub cell_is : (x : CellParts) (v : ℤ) → x.first ≡ v → x.entries ≡ [] → x.cleaned ≡ 0 → x.room ≡ 0 → x ≡ fresh_cell v
cell_is x v a b c d = ap (λ f. make f x.entries x.cleaned x.room) a ∙ ap (λ es. make v es x.cleaned x.room) b ∙ ap (λ n. make v [] n x.room) c ∙ ap (λ r. make v [] 0 r) d

pub cells_more : (xs : List ℤ) (i : ℕ) → i < length xs → (cells : List CellParts) (x : CellParts) → cells ≡ map fresh_cell (take i xs) → x ≡ fresh_cell (get_or xs i (pos 0)) → cells ++ x ∷ [] ≡ map fresh_cell (take (i + 1) xs)
cells_more xs i h cells x e f =
    ap (λ cs. cs ++ x ∷ []) e ∙ ap (λ y. map fresh_cell (take i xs) ++ y ∷ []) f ∙ sym (map-append fresh_cell (take i xs) (get_or xs i (pos 0) ∷ [])) ∙ sym (ap (map fresh_cell) (take_more xs i (pos 0) h))
