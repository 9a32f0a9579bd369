-- Laws of strands that want the same: whatever can be over one can be over the other, and what a strand of one has come to, a strand of
-- the other has come to by the same past.
use Rattle.std.proofs.Common.{◌≡◌, ◌∙◌, ℕ, List, refl, sym, ap, subst}
use Rattle.cw_strand.specs.declared.want.Given.{Given}
use Rattle.cw_strand.specs.declared.want.Want.{Want}
use Rattle.cw_strand.specs.declared.want.Want.TheVariants.{Fork}
use Rattle.cw_strand.specs.Strands.{Strands, IsAnswer, is_over, own_after, MayWant, GoesTo, stays, answered as on_answered, joins, Reached, of_main, of_left, of_right, Closes}
use Rattle.cw_strand.specs.Pasts.{Past, start, answered, left_of, right_of, joined_of, became, CanBe, WantTheSame}

module _ {A B : Type 0} (s : Strands A) (t : Strands B) (same : WantTheSame s t) where
  -- what answers a want over the one answers the same one over the other
  takes_there : {w x : Want} (given : Given) → w ≡ x → IsAnswer s.elements w given → IsAnswer t.elements x given
  takes_there {x = x} given e is = subst (λ n. IsAnswer n x given) same.elements (subst (λ w. IsAnswer s.elements w given) e is)

  takes_back : {w x : Want} (given : Given) → w ≡ x → IsAnswer t.elements w given → IsAnswer s.elements x given
  takes_back {x = x} given e is = subst (λ n. IsAnswer n x given) (sym same.elements) (subst (λ w. IsAnswer t.elements w given) e is)

  -- what can be over the one can be over the other
  pub can_be : (p : Past) → CanBe s p → CanBe t p
  can_be start can = tt
  can_be (answered p given) can = (can_be p can.0, takes_there given (same.wants p can.0) can.1)
  can_be (left_of p) can = (can_be p can.0, sym (same.wants p can.0) ∙ can.1)
  can_be (right_of p) can = (can_be p can.0, sym (same.wants p can.0) ∙ can.1)
  can_be (joined_of right left) can =
      let r = sym (ap is_over (same.wants right can.0.0)) ∙ can.0.1 in
      let l = sym (ap is_over (same.wants left can.1.0)) ∙ can.1.1 in
      ((can_be right can.0.0, r), (can_be left can.1.0, l))

  pub can_be_back : (p : Past) → CanBe t p → CanBe s p
  can_be_back start can = tt
  can_be_back (answered p given) can = let c = can_be_back p can.0 in (c, takes_back given (sym (same.wants p c)) can.1)
  can_be_back (left_of p) can = let c = can_be_back p can.0 in (c, same.wants p c ∙ can.1)
  can_be_back (right_of p) can = let c = can_be_back p can.0 in (c, same.wants p c ∙ can.1)
  can_be_back (joined_of right left) can =
      let r = can_be_back right can.0.0 in
      let l = can_be_back left can.1.0 in
      ((r, ap is_over (same.wants right r) ∙ can.0.1), (l, ap is_over (same.wants left l) ∙ can.1.1))

  pub want_back : WantTheSame t s
  want_back = record { elements = sym same.elements; wants = λ p can. sym (same.wants p (can_be_back p can)) }

  -- what a strand of t has come to: by a past that can be, by which a strand of s has come to what P says
  pub record ComeTo (P : A → Type 0) (b : B) : Type 0 where
    pub past : Past
    pub can : CanBe s past
    pub is : b ≡ became t past
    pub other : P (became s past)

  module _ {P : A → Type 0} {b : B} (h : ComeTo P b) where
    -- the two want the same there
    pub wants_there : t.want b ≡ s.want (became s h.past)
    wants_there = ap t.want h.is ∙ sym (same.wants h.past h.can)

  -- where a strand goes on, that of the other law goes on
  goes : {from own : List ℕ} {a b : B} → GoesTo t from a own b → (p : Past) → CanBe s p → a ≡ became t p → ComeTo (λ x. GoesTo s from (became s p) own x) b
  goes stays p can is = record { past = p; can = can; is = is; other = stays }
  goes {from = from} (on_answered {own = own} {b = b} way given takes) p can is =
      let h = goes way p can is in
      let w = wants_there h in
      let takes2 = takes_back given w takes in
      record {
        past = answered h.past given;
        can = (h.can, takes2);
        is = ap (λ x. t.answer x given) h.is;
        other = subst (λ x. GoesTo s from (became s p) (own_after x own) (s.answer (became s h.past) given)) (sym w) (on_answered h.other given takes2);
      }
  goes (joins {left = ended} way fork on_left left_over on_right right_over) p can is =
      let h = goes way p can is in
      let forks : s.want (became s h.past) ≡ Fork = sym (wants_there h) ∙ fork in
      let l = goes on_left (left_of h.past) (h.can, forks) (ap t.left h.is) in
      let r = goes on_right (right_of h.past) (h.can, forks) (ap t.right h.is) in
      let l_over = sym (ap is_over (wants_there l)) ∙ left_over in
      let r_over = sym (ap is_over (wants_there r)) ∙ right_over in
      record {
        past = joined_of r.past l.past;
        can = ((r.can, r_over), (l.can, l_over));
        is = ap (λ x. t.joined x ended) r.is ∙ ap (λ x. t.joined (became t r.past) x) l.is;
        other = joins h.other forks l.other l_over r.other r_over;
      }

  -- what a strand may come to, that of the other law may come to
  pub reached : {own : List ℕ} {b : B} → Reached t own b → ComeTo (λ x. Reached s own x) b
  reached (of_main way) = let h = goes way start tt refl in record { past = h.past; can = h.can; is = h.is; other = of_main h.other }
  reached (of_left above fork way) =
      let f = reached above in
      let forks : s.want (became s f.past) ≡ Fork = sym (wants_there f) ∙ fork in
      let h = goes way (left_of f.past) (f.can, forks) (ap t.left f.is) in
      record { past = h.past; can = h.can; is = h.is; other = of_left f.other forks h.other }
  reached (of_right above fork way) =
      let f = reached above in
      let forks : s.want (became s f.past) ≡ Fork = sym (wants_there f) ∙ fork in
      let h = goes way (right_of f.past) (f.can, forks) (ap t.right f.is) in
      record { past = h.past; can = h.can; is = h.is; other = of_right f.other forks h.other }

  pub closes : Closes s → Closes t
  closes law own b way =
      let h = reached way in
      subst (λ w. MayWant w own) (sym (wants_there h)) (law own (became s h.past) h.other)
