-- A tree leaves one memory.
use Rattle.std.proofs.Common.{◌≡◌, ℕ, ℤ, suc, List, [], ◌∷◌, length, sym, ◌∙◌, ap, arith, ◌<◌, refl}
use Rattle.std.specs.Prelude.{slice_get}
use Rattle.std.proofs.lemmas.Option.{same_Some}
use Rattle.cw_tree.specs.declared.node.Node.{Node}
use Rattle.cw_record.specs.Coherent.{IsMemory}
use Rattle.cw_serial.proofs.Numbers.{get_some}

same_lists : (xs ys : List ℤ) → length xs ≡ length ys → ((c : ℕ) → c < length xs → slice_get xs c ≡ slice_get ys c) → xs ≡ ys
same_lists [] [] e h = refl
same_lists [] (y ∷ ys) e h = absurd (omega (arith, e))
same_lists (x ∷ xs) [] e h = absurd (omega (arith, e))
same_lists (x ∷ xs) (y ∷ ys) e h =
    let head : x ≡ y = same_Some x y (h 0 (omega arith)) in
    let tail : xs ≡ ys = same_lists xs ys (omega (arith, e)) (λ c l. h (suc c) (omega arith)) in
    ap (λ z. z ∷ xs) head ∙ ap (λ zs. y ∷ zs) tail

pub one_memory : (t : List Node) (first left told : List ℤ) → IsMemory t first left → IsMemory t first told → told ≡ left
one_memory t first left told w v =
    same_lists told left (v.len ∙ sym w.len) (λ c l. (
    let len = v.len in
    let there : c < length first = omega arith in
    let (x, e) = get_some first c there in
    v.each c x e ∙ sym (w.each c x e)))
