-- What a strand puts back is what it found; and what is beneath a block is the end of a list.
use Rattle.std.proofs.Common.{◌≡◌, ℕ, ℤ, zero, suc, ◌<◌, ◌≤◌, ◌∙◌, refl, ap, sym, subst, Bool, true, false, List, [], ◌∷◌, ◌++◌, map, length, arith, cond, inl, inr, nat_lt}
use Rattle.std.specs.Prelude.{◌&&◌, not, pos, All, Contains, filter, is_some, take_while, slice_index_or}
use Rattle.std.specs.List.{list_any}
use Rattle.std.proofs.lemmas.Bool.{or_left, cases_Bool, lt-ltb, not_from_true}
use Rattle.std.proofs.lemmas.List.Elements.{All-head, All-tail}
use Rattle.std.proofs.lemmas.List.Sums.{take_while-cons}
use Rattle.cw_code.specs.declared.Back.{Back}
use Rattle.cw_tree.specs.declared.node.Node.{Node}
use Rattle.cw_tree.specs.Nodes.{stamp_of, below}
use Rattle.cw_tree.specs.Walks.{is_above}
use Rattle.cw_tree.specs.Series.{place, is_before}
use Rattle.cw_tree.specs.Accesses.{written, cell_value}
use Rattle.cw_tree.specs.AccessStacks.{access_at}
use Rattle.cw_tree.specs.Cancels.{before_block, wrote_in}
use Rattle.cw_tree.specs.NextNodes.{IsNextStamp}
use Rattle.cw_tree.proofs.Lists.{In}
use Rattle.cw_tree.proofs.Members.{in_filter, filter_in, in_below, below_in, in_map, all_at, any_same}
use Rattle.cw_tree.proofs.Rising.{Rises, rises_filter, below_rises, rises_same}
use Rattle.cw_tree.proofs.ChainLaws.Stamps.{stamps_beneath, named}
use Rattle.cw_open.specs.Machine.{OpenMachine, live}
use Rattle.cw_open.specs.Steps.{live_beside}
use Rattle.cw_open.specs.Runs.{at_any_time}
use Rattle.cw_open.specs.Looked.{BeneathIsLast, accesses_of, IsFound, RiseFrom, IsListFound, FoundArePutBack}
use Rattle.cw_open.proofs.Laws.ChainStates.{chain_states}
use Rattle.cw_open.proofs.Runs.States.{IsState, states}

-- ## The end of a list

-- if the first of two lists passes, and the second does not, the first is what is taken
while_front : (p : ℕ → Bool) (xs ys : List ℕ) → ((v : ℕ) → In v xs → p v ≡ true) → ((v : ℕ) → In v ys → p v ≡ false) → take_while p (xs ++ ys) ≡ xs
while_front p [] [] f g = refl
while_front p [] (y ∷ ys) f g = take_while-cons p y ys ∙ ap (λ q. cond q (y ∷ take_while p ys) []) (g y (inl refl))
while_front p (x ∷ xs) ys f g = take_while-cons p x (xs ++ ys) ∙ ap (λ q. cond q (x ∷ take_while p (xs ++ ys)) []) (f x (inl refl)) ∙ ap (λ zs. x ∷ zs) (while_front p xs ys (λ v i. f v (inr i)) g)

pub beneath_is_last : BeneathIsLast
beneath_is_last first m reached b c pending =
    let k = chain_states first m reached in
    let p = λ (u : ℕ). not (is_above m.tree b (access_at m.tree u)) in
    let gone = filter (λ u. is_above m.tree b (access_at m.tree u)) (live m c) in
    sym (ap (take_while p) (stamps_beneath m.tree c b (live m c) k.state.well.sound.tree.rooted pending (k.chained c).chain)
    ∙ while_front p (live_beside m b c) gone (λ v i. (in_filter p v (live m c) i).1) (λ v i. not_from_true (is_above m.tree b (access_at m.tree v)) (in_filter (λ u. is_above m.tree b (access_at m.tree u)) v (live m c) i).1))

-- ## What is put back

in_of : (v : ℕ) (xs : List ℕ) → Contains xs v → In v xs
in_of v [] h = absurd (let l = h.1 in omega arith)
in_of v (x ∷ xs) (zero, l, e) = inl (sym e)
in_of v (x ∷ xs) (suc i, l, e) = inr (in_of v xs (i, omega (arith, l), e))

abbrev cells : List Back → List ℕ
cells bs = map (λ (x : Back). x.cell) bs

from_rises : (n : ℕ) (bs : List Back) → RiseFrom n bs → (v : ℕ) → In v (cells bs) → n ≤ v
from_rises n [] r v i = absurd i
from_rises n (x ∷ bs) r v (inl e) = let q = r.0 in omega (arith, q, e)
from_rises n (x ∷ bs) r v (inr i) = let q = r.0 in let z = from_rises (suc x.cell) bs r.1 v i in omega (arith, q, z)

cells_rise : (n : ℕ) (bs : List Back) → RiseFrom n bs → Rises (cells bs)
cells_rise n [] r = tt
cells_rise n (x ∷ bs) r = (λ v i. from_rises (suc x.cell) bs r.1 v i, cells_rise (suc x.cell) bs r.1)

abbrev back_at : ℕ → ℤ → Back
back_at c z = record { cell = c; value = z }

module _ (first : List ℤ) (m : OpenMachine) (state : IsState first m) (p stamp : ℕ) (next : IsNextStamp m.tree p stamp) (back : List Back) (listed : IsListFound m p back) where
  abbrev t : List Node
  t = m.tree

  abbrev W : ℕ → Bool
  W c = wrote_in t p stamp (accesses_of m c)

  abbrev wrote : ℕ → Bool
  wrote c = list_any (λ u. is_above t p u && is_some (written t u)) (accesses_of m c)

  -- what is beneath the block has a smaller stamp
  before_stamp : (c : ℕ) → W c ≡ wrote c
  before_stamp c = any_same (λ u. is_above t p u && nat_lt (stamp_of t u) stamp && is_some (written t u)) (λ u. is_above t p u && is_some (written t u)) (accesses_of m c) (λ u i.
      elim (cases_Bool (is_above t p u)) [
        | inr off ↦ ap (λ q. q && nat_lt (stamp_of t u) stamp && is_some (written t u)) off ∙ sym (ap (λ q. q && is_some (written t u)) off)
        | inl over ↦ (
            let z = in_map (access_at t) u (live m c) i in
            let low = ap_low z.0 u z.2 (named t c z.0 (state.listed.accesses c z.0 z.1)).there in
            let less = (next.series u low (or_left (is_above t p u) (is_before t u p) over)).0 in
            ap (λ q. q && nat_lt (stamp_of t u) stamp && is_some (written t u)) over
            ∙ ap (λ q. q && is_some (written t u)) (lt-ltb (stamp_of t u) stamp less)
            ∙ sym (ap (λ q. q && is_some (written t u)) over))
      ]) where
        ap_low : (v u : ℕ) → u ≡ access_at t v → access_at t v < length t → u < length t
        ap_low v u e l = subst (λ n. n < length t) (sym e) l

  abbrev was : ℕ → ℤ
  was c = cell_value (slice_index_or m.first c (pos 0)) (map (written t) (before_block t p (accesses_of m c)))

  abbrev entry : ℕ → Back
  entry c = back_at c (was c)

  abbrev Found : Back → Type 0
  Found x = IsFound m p x.cell true x.value

  listed_wrote : (c : ℕ) → In c (cells back) → In c (filter W (below (length m.first)))
  listed_wrote c i =
      let z = in_map (λ (x : Back). x.cell) c back i in
      let f = all_at Found back listed.found z.0 z.1 in
      let w : W z.0.cell ≡ true = before_stamp z.0.cell ∙ sym f.wrote in
      subst (λ n. In n (filter W (below (length m.first)))) (sym z.2) (filter_in W z.0.cell (below (length m.first)) (below_in z.0.cell (length m.first) f.there) w)

  wrote_listed : (c : ℕ) → In c (filter W (below (length m.first))) → In c (cells back)
  wrote_listed c i =
      let z = in_filter W c (below (length m.first)) i in
      in_of c (cells back) (listed.all c (in_below c (length m.first) z.0) (sym (before_stamp c) ∙ z.1))

  same_cells : cells back ≡ filter W (below (length m.first))
  same_cells = rises_same (cells back) (filter W (below (length m.first))) (cells_rise 0 back listed.rises) (rises_filter W (below (length m.first)) (below_rises (length m.first))) listed_wrote wrote_listed

  same_values : (bs : List Back) → All Found bs → bs ≡ map entry (cells bs)
  same_values [] h = refl
  same_values (x ∷ bs) h =
      let f = All-head Found x bs h in
      ap (λ (z : ℤ). back_at x.cell z ∷ bs) (f.value refl) ∙ ap (λ zs. entry x.cell ∷ zs) (same_values bs (All-tail Found x bs h))

  pub put_back_is : back ≡ map entry (filter W (below (length m.first)))
  put_back_is = same_values back listed.found ∙ ap (map entry) same_cells

pub found_are_put_back : FoundArePutBack
found_are_put_back asked first m reached s stamp back is next listed = put_back_is first m (states (at_any_time asked) first m reached) (place m.tree s) stamp next back listed
