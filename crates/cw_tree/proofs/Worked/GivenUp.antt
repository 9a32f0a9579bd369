-- What a small block that is given up puts back.
use Rattle.std.proofs.Common.{◌≡◌, ℕ, ℤ, zero, suc, List, [], ◌∷◌, map, refl, ap, subst, Some, pos}
use Rattle.std.specs.Prelude.{slice_get}
use Rattle.std.proofs.lemmas.Option.{same_Some}
use Rattle.cw_code.specs.declared.Back.{Back}
use Rattle.cw_tree.specs.declared.node.Node.{Node}
use Rattle.cw_tree.specs.declared.node.Kind.{Kind}
use Rattle.cw_tree.specs.declared.node.Kind.TheVariants.{Strand, Fork, Block, Read, Write, Out, Tried, Cancel}
use Rattle.cw_tree.specs.Cancels.{IsCancel, AreCancels}
use Rattle.cw_tree.specs.WorkedRun.{had, given_up, one_to_four, rolled_back, GivenUp}

-- ## Each node

-- what is to be shown of node x in tree t, and what else
abbrev IsRight : List Node → List ℤ → Node → Kind → Type 0 → Type 0
IsRight t first x (Cancel back) more = IsCancel t first x back × more
IsRight t first x kind more = more

abbrev AllRight : List Node → List ℤ → List Node → Type 0
AllRight t first [] = Unit {0}
AllRight t first (x ∷ xs) = IsRight t first x x.kind (AllRight t first xs)

what_else : (t : List Node) (first : List ℤ) (x : Node) (kind : Kind) (more : Type 0) → IsRight t first x kind more → more
what_else t first x (Cancel back) more h = h.1
what_else t first x Strand more h = h
what_else t first x Fork more h = h
what_else t first x Block more h = h
what_else t first x (Read c v) more h = h
what_else t first x (Write c v) more h = h
what_else t first x (Out v) more h = h
what_else t first x (Tried c) more h = h

right_at : (t : List Node) (first : List ℤ) (xs : List Node) → AllRight t first xs → (n : ℕ) (x : Node) (back : List Back) → slice_get xs n ≡ Some x
    → x.kind ≡ Cancel back → IsCancel t first x back
right_at t first [] h n x back e k = absurd (cc e)
right_at t first (y ∷ xs) h zero x back e k =
    let P : Kind → Type 0 = λ kind. IsRight t first x kind (AllRight t first xs) in
    let Q : Node → Type 0 = λ z. IsRight t first z z.kind (AllRight t first xs) in
    let both : IsCancel t first x back × AllRight t first xs = subst P k (subst Q (same_Some y x e) h) in
    both.0
right_at t first (y ∷ xs) h (suc n) x back e k = right_at t first xs (what_else t first y y.kind (AllRight t first xs) h) n x back e k

-- ## The rows

right : AreCancels (given_up (had 0 (pos 1) ∷ had 1 (pos 5) ∷ [])) one_to_four
right n x back e k live =
    let t = given_up (had 0 (pos 1) ∷ had 1 (pos 5) ∷ []) in
    right_at t one_to_four t (record { block = refl; list = refl }, tt) n x back e k

-- another list is not the one
listed : (back : List Back) → AreCancels (given_up back) one_to_four → back ≡ had 0 (pos 1) ∷ had 1 (pos 5) ∷ []
listed back w = (w 16 _ back refl refl refl).list

values : (back : List Back) → AreCancels (given_up back) one_to_four → map (λ x. x.value) back ≡ pos 1 ∷ pos 5 ∷ []
values back w = ap (map (λ (x : Back). x.value)) (listed back w)

pub given : GivenUp
given = record {
  right = right;
  first_value = λ w. (let e = values _ w in cc e);
  present_value = λ w. (let e = values _ w in cc e);
  written_between = λ w. (let e = values _ w in cc e);
  own_alone = λ w. (let e = listed _ w in cc e);
  others_alone = λ w. (let e = listed _ w in cc e);
  none = λ w. (let e = listed _ w in cc e);
  rolled_back_too = λ w. (let e = listed _ w in cc e);
  read_too = λ w. (let e = listed _ w in cc e);
  exchanged = λ w. (let e = values _ w in cc e);
  outside = λ w. (let e = (w 1 _ [] refl refl refl).block in cc e);
  dead = dead;
} where
  dead : AreCancels rolled_back one_to_four
  dead zero x back e k live = absurd (cc (same_Some _ x e, k))
  dead (suc zero) x back e k live = absurd (cc (same_Some _ x e, k))
  dead (suc (suc zero)) x back e k live = absurd (cc live)
  dead (suc (suc (suc n))) x back e k live = absurd (cc e)
