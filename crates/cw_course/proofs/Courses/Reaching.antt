-- A strand that goes by a course goes as the law of strands says, and has begun as many blocks then as before.
use Rattle.std.proofs.Common.{◌≡◌, ℕ, suc, List, [], ◌∷◌, ap, sym, subst}
use Rattle.cw_strand.specs.declared.want.Want.{Want}
use Rattle.cw_strand.specs.declared.want.Want.TheVariants as want
use Rattle.cw_strand.specs.declared.want.Given.{Given}
use Rattle.cw_strand.specs.declared.want.Given.TheVariants.{Nothing, Value, Back as Wrote}
use Rattle.cw_strand.specs.Strands.{Strands, IsAnswer, own_after, GoesTo, stays, answered, joins}
use Rattle.cw_tree.specs.declared.node.Kind.{Kind}
use Rattle.cw_tree.specs.declared.node.Kind.TheVariants.{Strand, Fork, Block, Read, Write, Out, Tried, Cancel}
use Rattle.cw_course.specs.Courses.{Course, Acts, Goes, CoursesGoOn}
use Rattle.cw_course.specs.Courses as course

module _ {A : Type 0} (s : Strands A) where
  -- one way behind another
  pub further : {from own to : List ℕ} {a b c : A} → GoesTo s from a own b → GoesTo s own b to c → GoesTo s from a to c
  further g stays = g
  further g (answered h given is) = answered (further g h) given is
  further g (joins h e l lo r ro) = joins (further g h) e l lo r ro

  -- and an answer behind it
  next : (from own : List ℕ) (a b : A) (w : Want) (given : Given) → GoesTo s from a own b → s.want b ≡ w → IsAnswer s.elements w given → GoesTo s from a (own_after w own) (s.answer b given)
  next from own a b w given g e is =
      subst (λ (to : List ℕ). GoesTo s from a to (s.answer b given)) (ap (λ z. own_after z own) e) (answered g given (subst (λ z. IsAnswer s.elements z given) (sym e) is))

  act_goes : (own : List ℕ) (a b c : A) (kind : Kind) → GoesTo s own a own b → Acts s b kind c → GoesTo s own a own c
  act_goes own a b c (Read k v) g d = subst (GoesTo s own a own) (sym d.1) (next own own a b (want.Load k) (Value v) g d.0 tt)
  act_goes own a b c (Write k v) g d = subst (GoesTo s own a own) (sym d.1) (next own own a b (want.Store k v) Nothing g d.0 tt)
  act_goes own a b c (Out v) g d = subst (GoesTo s own a own) (sym d.1) (next own own a b (want.Out v) Nothing g d.0 tt)
  act_goes own a b c (Cancel back) g d = subst (GoesTo s own a own) (sym d.2) (next own own a b want.Cancel (Wrote back) g d.0 d.1)
  act_goes own a b c (Tried k) g d = subst (GoesTo s own a own) (sym d.1) g
  act_goes own a b c Strand g d = absurd d
  act_goes own a b c Fork g d = absurd d
  act_goes own a b c Block g d = absurd d

  pub goes_to : (n : ℕ) (ns : List ℕ) (a b : A) (cs : Course) → Goes s a cs b → GoesTo s (n ∷ ns) a (n ∷ ns) b
  goes_to n ns a b cs course.starts = stays
  goes_to n ns a b cs (course.acts {b = x} {kind = kind} g d) = act_goes (n ∷ ns) a x b kind (goes_to n ns a x _ g) d
  goes_to n ns a b cs (course.commits {b = x} {c = y} g e h f) =
      let begun = next (n ∷ ns) (n ∷ ns) a x want.Begin Nothing (goes_to n ns a x _ g) e tt in
      let inside = further begun (goes_to (suc n) ns _ y _ h) in
      next (n ∷ ns) (suc n ∷ ns) a y want.End Nothing inside f tt
  goes_to n ns a b cs (course.aborts g e h) = goes_to n ns a b _ g
  goes_to n ns a b cs (course.joins {b = x} {l = l} {r = r} g e h lo k ro) =
      joins (goes_to n ns a x _ g) e (goes_to 0 [] _ l _ h) lo (goes_to 0 (n ∷ ns) _ r _ k) ro

pub courses_go_on : {A : Type 0} → CoursesGoOn A
courses_go_on s cs n ns a b g = goes_to s n ns a b cs g
