-- What stands in a left strand came, and was ended, before each stamp in its right one: this stays true as nodes come and as blocks are closed.
use Rattle.std.proofs.Common.{◌≡◌, ℕ, suc, ◌<◌, ◌≤◌, List, [], ◌∷◌, ◌++◌, length, refl, ap, sym, ◌∙◌, subst, arith, true, inl, inr}
use Rattle.std.specs.Prelude.{◌⊎◌, ◌||◌}
use Rattle.std.proofs.lemmas.Bool.{cases_eq, ne_eqb}
use Rattle.cw_tree.specs.declared.node.Node.{Node}
use Rattle.cw_tree.specs.declared.node.BlockState.{BlockState}
use Rattle.cw_tree.specs.Nodes.{is_fork_kind, parent_of, stamp_of, end_of, is_fork, closed}
use Rattle.cw_tree.specs.Walks.{IsRooted, is_ancestor}
use Rattle.cw_tree.proofs.Lists.{at_or_before}
use Rattle.cw_tree.proofs.NextNodes.Growing.{length_more, node_grown, number_grown, number_new, ancestor_grown, ancestor_new, rooted_more}
use Rattle.cw_tree.proofs.NextNodes.Closing.{length_closed, node_closed, number_closed, number_closed_other, ancestor_closed}
use Rattle.cw_tree.proofs.Walks.Ancestors.{ancestor_le}
use Rattle.cw_tree.proofs.Walks.Kin.{children_apart}

-- the two strands of a fork, the left one first
pub record AreSides (t : List Node) (l r : ℕ) : Type 0 where
  pub some : 0 < l
  pub less : l < r
  pub there : r < length t
  pub same : parent_of t l ≡ parent_of t r
  pub fork : is_fork t (parent_of t r) ≡ true

-- what stands in the left one came, and was ended, before each stamp in the right one
abbrev pub Older : List Node → Type 0
Older t =
    (l r m n : ℕ) → AreSides t l r → m < length t → n < length t → is_ancestor t l m ≡ true → is_ancestor t r n ≡ true → 0 < stamp_of t n → (stamp_of t m < stamp_of t n) × (end_of t m < stamp_of t n)

-- where node q stands in a left strand, nothing has a stamp in the right one
abbrev pub NoneRight : List Node → ℕ → Type 0
NoneRight t q = (l r n : ℕ) → AreSides t l r → is_ancestor t l q ≡ true → n < length t → is_ancestor t r n ≡ true → 0 < stamp_of t n → ⊥

-- ## One node more

module _ (t : List Node) (rooted : IsRooted t) (x : Node) (there : x.parent < length t) where
  abbrev u : List Node
  u = t ++ x ∷ []

  abbrev n : ℕ
  n = length t

  len : length u ≡ suc n
  len = length_more t x

  up : (k : ℕ) → k < n → parent_of u k ≡ parent_of t k
  up = number_grown t (x ∷ []) (λ y. y.parent)

  up_new : parent_of u n ≡ x.parent
  up_new = number_new t x (λ y. y.parent)

  stamp_old : (k : ℕ) → k < n → stamp_of u k ≡ stamp_of t k
  stamp_old = number_grown t (x ∷ []) (λ y. y.stamp)

  end_old : (k : ℕ) → k < n → end_of u k ≡ end_of t k
  end_old = number_grown t (x ∷ []) (λ y. y.end)

  stamp_new : stamp_of u n ≡ x.stamp
  stamp_new = number_new t x (λ y. y.stamp)

  over_old : (a k : ℕ) → k < n → is_ancestor u a k ≡ true → is_ancestor t a k ≡ true
  over_old a k h e = sym (ancestor_grown t (x ∷ []) rooted a k h) ∙ e

  over_new : (a : ℕ) → a < n → is_ancestor u a n ≡ true → is_ancestor t a x.parent ≡ true
  over_new a h e = sym (ap (λ b. b || is_ancestor t a x.parent) (ne_eqb n a (λ q. absurd (omega (arith, q))))) ∙ sym (ancestor_new t x rooted there a) ∙ e

  sides_old : (l r : ℕ) → r < n → AreSides u l r → AreSides t l r
  sides_old l r h z =
      let less = z.less in
      let some = z.some in
      let low : parent_of t r < r = rooted r (omega arith) h in
      record {
        some = z.some;
        less = z.less;
        there = h;
        same = sym (up l (omega arith)) ∙ z.same ∙ up r h;
        fork = sym (node_grown t (x ∷ []) (λ y. is_fork_kind y.kind) (parent_of t r) (omega arith)) ∙ ap (is_fork u) (sym (up r h)) ∙ z.fork;
      }

  apart : (l r : ℕ) → AreSides t l r → is_ancestor t l x.parent ≡ true → is_ancestor t r x.parent ≡ true → ⊥
  apart l r z e f =
      let less = z.less in
      let some = z.some in
      let same : l ≡ r = children_apart t rooted l r x.parent there z.some (omega arith) z.same e f in
      omega arith

  old_or_new : (k : ℕ) → k < length u → (k < n) ⊎ (n ≡ k)
  old_or_new k h = at_or_before k n (omega (arith, len))

  -- the new node is the last: what stands in it is itself
  in_new : (r k : ℕ) → n ≡ r → k < length u → is_ancestor u r k ≡ true → n ≡ k
  in_new r k e h over = let le : r ≤ k = ancestor_le u (rooted_more t x rooted there) r k h over in omega (arith, len)

  -- what comes to the left of no stamp, with a stamp that exceeds all, where it is no strand
  pub older_more : ((k : ℕ) → k < n → 0 < x.stamp → (stamp_of t k < x.stamp) × (end_of t k < x.stamp)) → NoneRight t x.parent → (is_fork t x.parent ≡ true → x.stamp ≡ 0) → Older t → Older u
  older_more later none strand old l r m k z hm hk over_m over_k pos = elim (old_or_new r z.there) [ inl h ↦ in_old h | inr e ↦ in_last e ] where
    new_stamp : n ≡ k → 0 < x.stamp
    new_stamp e = omega (arith, pos, stamp_new, ap (stamp_of u) e)

    in_last : n ≡ r → (stamp_of u m < stamp_of u k) × (end_of u m < stamp_of u k)
    in_last e =
        let none = strand (sym (node_grown t (x ∷ []) (λ y. is_fork_kind y.kind) x.parent there) ∙ ap (is_fork u) (sym up_new ∙ ap (parent_of u) e) ∙ z.fork) in
        let some = new_stamp (in_new r k e hk over_k) in
        absurd (omega arith)

    in_old : r < n → (stamp_of u m < stamp_of u k) × (end_of u m < stamp_of u k)
    in_old h =
        let y = sides_old l r h z in
        let less = y.less in
        elim (old_or_new k hk) [
          | inl old_k ↦ elim (old_or_new m hm) [
            | inl old_m ↦
                (let o = old l r m k y old_m old_k (over_old l m old_m over_m) (over_old r k old_k over_k) (omega (arith, pos, stamp_old k old_k)) in
                (omega (arith, o.0, stamp_old m old_m, stamp_old k old_k), omega (arith, o.1, end_old m old_m, stamp_old k old_k)))
            | inr new_m ↦
                (let P : ℕ → Type 0 = λ i. is_ancestor u l i ≡ true in
                absurd (none l r k y (over_new l (omega arith) (subst P (sym new_m) over_m)) old_k (over_old r k old_k over_k) (omega (arith, pos, stamp_old k old_k))))
          ]
          | inr new_k ↦
              (let P : ℕ → Type 0 = λ i. is_ancestor u r i ≡ true in
              let Q : ℕ → Type 0 = λ i. is_ancestor u l i ≡ true in
              let right : is_ancestor t r x.parent ≡ true = over_new r h (subst P (sym new_k) over_k) in
              let stamp : stamp_of u k ≡ x.stamp = ap (stamp_of u) (sym new_k) ∙ stamp_new in
              elim (old_or_new m hm) [
                | inl old_m ↦
                    (let o = later m old_m (new_stamp new_k) in
                    (omega (arith, o.0, stamp_old m old_m, stamp), omega (arith, o.1, end_old m old_m, stamp)))
                | inr new_m ↦ absurd (apart l r y (over_new l (omega arith) (subst Q (sym new_m) over_m)) right)
              ])
        ]

  -- so does what comes next in it
  pub none_down : NoneRight t x.parent → NoneRight u n
  none_down none l r k z over hk over_k pos =
      elim (old_or_new r z.there) [
        | inr e ↦
            (let less = z.less in
            let h : l < n = omega arith in
            let low : parent_of t l < l = rooted l z.some h in
            let le : l ≤ x.parent = ancestor_le t rooted l x.parent there (over_new l h over) in
            let same : parent_of t l ≡ x.parent = sym (up l h) ∙ z.same ∙ ap (parent_of u) (sym e) ∙ up_new in
            absurd (omega arith))
        | inl h ↦
            (let y = sides_old l r h z in
            let less = y.less in
            let left : is_ancestor t l x.parent ≡ true = over_new l (omega arith) over in
            elim (old_or_new k hk) [
              | inl old ↦ none l r k y left old (over_old r k old over_k) (omega (arith, pos, stamp_old k old))
              | inr new ↦ (let P : ℕ → Type 0 = λ i. is_ancestor u r i ≡ true in absurd (apart l r y left (over_new r h (subst P (sym new) over_k))))
            ])
      ]

  -- and what comes without a stamp changes nothing for another
  pub none_kept : x.stamp ≡ 0 → (q : ℕ) → q < n → NoneRight t q → NoneRight u q
  none_kept no_stamp q hq none l r k z over hk over_k pos =
      elim (old_or_new k hk) [
        | inr new ↦ absurd (omega (arith, pos, stamp_new, ap (stamp_of u) new))
        | inl old ↦
            (let le : r ≤ k = ancestor_le u (rooted_more t x rooted there) r k hk over_k in
            none l r k (sides_old l r (omega arith) z) (over_old l q hq over) old (over_old r k old over_k) (omega (arith, pos, stamp_old k old)))
      ]

-- ## A block is closed

pub older_closed : (t : List Node) → IsRooted t → (b : ℕ) (state : BlockState) (end : ℕ) → NoneRight t b → Older t → Older (closed t b state end)
older_closed t rooted b state end none old l r m n z hm hn over_m over_n pos =
    let v = closed t b state end in
    let len : length v ≡ length t = length_closed t b state end in
    let up : (k : ℕ) → parent_of v k ≡ parent_of t k = number_closed t b state end (λ y. y.parent) (λ y. refl) in
    let stamp : (k : ℕ) → stamp_of v k ≡ stamp_of t k = number_closed t b state end (λ y. y.stamp) (λ y. refl) in
    let there = z.there in
    let fork : is_fork t (parent_of t r) ≡ true = ap (is_fork t) (sym (up r)) ∙ sym (node_closed t b state end (λ y. is_fork_kind y.kind) (λ y. refl) (parent_of v r)) ∙ z.fork in
    let y : AreSides t l r = record { some = z.some; less = z.less; there = omega arith; same = sym (up l) ∙ z.same ∙ up r; fork = fork } in
    let low_m : m < length t = omega arith in
    let low_n : n < length t = omega arith in
    let left : is_ancestor t l m ≡ true = sym (ancestor_closed t b state end rooted l m low_m) ∙ over_m in
    let right : is_ancestor t r n ≡ true = sym (ancestor_closed t b state end rooted r n low_n) ∙ over_n in
    let some : 0 < stamp_of t n = omega (arith, pos, stamp n) in
    let o = old l r m n y low_m low_n left right some in
    elim (cases_eq m b) [
      | inl e ↦ (let P : ℕ → Type 0 = λ k. is_ancestor t l k ≡ true in absurd (none l r n y (subst P e left) low_n right some))
      | inr ne ↦ (omega (arith, o.0, stamp m, stamp n), omega (arith, o.1, stamp n, number_closed_other t b state end (λ y. y.end) m ne))
    ]
