-- Runs of strands are gone on with: by one step, by another run, and along nodes in series.
use Rattle.std.proofs.Common.{◌≡◌, ℕ, List, [], ◌∷◌, refl, sym, subst, inl, inr}
use Rattle.cw_strand.specs.declared.want.Want.{Want}
use Rattle.cw_strand.specs.declared.want.Given.{Given}
use Rattle.cw_strand.specs.Strands.{Strands, IsAnswer, own_after, GoesTo, stays, answered, joins, Reached, of_main, of_left, of_right}
use Rattle.cw_tree.proofs.Lists.{In}
use Rattle.cw_record.specs.Coherent.{InSeries}

module _ {A : Type 0} (s : Strands A) where
  pub goes_on : {from mid own : List ℕ} {a b c : A} → GoesTo s from a mid b → GoesTo s mid b own c → GoesTo s from a own c
  goes_on way stays = way
  goes_on way (answered more given is) = answered (goes_on way more) given is
  goes_on way (joins more fork left left_over right right_over) = joins (goes_on way more) fork left left_over right right_over

  pub reached_on : {mid own : List ℕ} {b c : A} → Reached s mid b → GoesTo s mid b own c → Reached s own c
  reached_on (of_main way) more = of_main (goes_on way more)
  reached_on (of_left above fork way) more = of_left above fork (goes_on way more)
  reached_on (of_right above fork way) more = of_right above fork (goes_on way more)

  -- a want is answered
  pub answers : (w : Want) (own : List ℕ) (a b : A) (given : Given) → s.want a ≡ w → IsAnswer s.elements w given → b ≡ s.answer a given → GoesTo s own a (own_after w own) b
  answers w own a b given is takes e =
      let P : Want → Type 0 = λ v. IsAnswer s.elements v given in
      let Q : Want → Type 0 = λ v. GoesTo s own a (own_after v own) b in
      let R : A → Type 0 = λ c. GoesTo s own a (own_after (s.want a) own) c in
      subst Q is (subst R (sym e) (answered stays given (subst P (sym is) takes)))

  -- from one state to another, with as many blocks begun and not ended
  abbrev pub Passes : A → A → Type 0
  Passes a b = (n : ℕ) (ns : List ℕ) → GoesTo s (n ∷ ns) a (n ∷ ns) b

  -- past nodes one after another
  pub passes_all : (before after : ℕ → A) (cs : List ℕ) (a b : A) → ((c : ℕ) → In c cs → Passes (before c) (after c)) → InSeries before after a cs b → Passes a b
  passes_all before after [] a b each e n ns = (let P : A → Type 0 = λ x. GoesTo s (n ∷ ns) a (n ∷ ns) x in subst P e stays)
  passes_all before after (c ∷ cs) a b each e n ns =
      let P : A → Type 0 = λ x. GoesTo s (n ∷ ns) x (n ∷ ns) (after c) in
      goes_on (subst P e.0 (each c (inl refl) n ns)) (passes_all before after cs (after c) b (λ d i. each d (inr i)) e.1 n ns)
