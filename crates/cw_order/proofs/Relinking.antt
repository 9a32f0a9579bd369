-- A place put into a list of links, and one taken out.
use Rattle.std.proofs.Common.{ℕ, ◌<◌, ◌≢◌, List, [], ◌∷◌, ◌++◌, length, set, drop, sym, ◌∙◌, subst, arith, append_assoc}
use Rattle.std.proofs.lemmas.List.{get_or-set_other, get_or-set_same, length-set}
use Rattle.cw_order.specs.Links.{first_or, AreLinked, Lacks, AreApart}
use Rattle.cw_order.proofs.Linking.{linked_parts, linked_whole, linked_next, linked_previous}
use Rattle.cw_order.proofs.Apart.{lacks_parts, lacks_whole, apart_parts, apart_across, apart_out, disjoint_turned}

-- no link but the one of `at` leads to what comes after it
beyond_lacks : (front back : List ℕ) (at : ℕ) → AreApart (front ++ at ∷ back) → Lacks (drop 1 (front ++ at ∷ back)) 0 → Lacks (drop 1 (front ++ at ∷ [])) (first_or back 0)
beyond_lacks [] back at a l = tt
beyond_lacks (x ∷ front) [] at a l = l
beyond_lacks (x ∷ front) (y ∷ back) at a l =
    let cut : AreApart ((front ++ at ∷ []) ++ y ∷ back) = subst AreApart (sym (append_assoc front (at ∷ []) (y ∷ back))) a.1 in
    (disjoint_turned (front ++ at ∷ []) (y ∷ back) (apart_across (front ++ at ∷ []) (y ∷ back) cut)).0

-- no link of the list leads to its first place
first_lacks : (xs : List ℕ) → AreApart xs → Lacks xs 0 → Lacks (drop 1 (xs ++ 0 ∷ [])) (first_or xs 0)
first_lacks [] a l = tt
first_lacks (x ∷ xs) a l = lacks_whole xs (0 ∷ []) x a.0 ((λ e. l.0 (sym e)), tt)

-- the links lead to no number that is not there
never_lacks : (xs : List ℕ) (b y : ℕ) → Lacks xs y → b ≢ y → Lacks (drop 1 (xs ++ b ∷ [])) y
never_lacks [] b y l n = tt
never_lacks (x ∷ xs) b y l n = lacks_whole xs (b ∷ []) y l.1 (n, tt)

first_is_not : (xs : List ℕ) (b y : ℕ) → Lacks xs y → b ≢ y → first_or xs b ≢ y
first_is_not [] b y l n = n
first_is_not (x ∷ xs) b y l n = l.0

pub back_lacks : (front back : List ℕ) (at : ℕ) → Lacks (drop 1 (front ++ at ∷ back)) 0 → Lacks back 0
back_lacks [] back at l = l
back_lacks (x ∷ front) back at l = (lacks_parts front (at ∷ back) 0 l).1.1

-- the links after e was put in between `at` and the next place
pub linked_in : (next previous front back : List ℕ) (at e : ℕ)
    → AreLinked next previous (front ++ at ∷ back) 0
    → AreApart (front ++ at ∷ back)
    → Lacks (drop 1 (front ++ at ∷ back)) 0
    → Lacks (front ++ at ∷ back) e
    → 0 ≢ e
    → at < length next
    → e < length next
    → e < length previous
    → first_or back 0 < length previous
    → AreLinked (set (set next e (first_or back 0)) at e) (set (set previous e at) (first_or back 0) e) (front ++ at ∷ e ∷ back) 0
linked_in next previous front back at e h a l out ne wa we wp ws =
    linked_whole next2 previous2 front (at ∷ e ∷ back) 0
    (linked_previous next2 previous1 front at s e (beyond_lacks front back at a l) (
    linked_previous next2 previous front at e at (never_lacks front at e outs.0 outs.1.0) (
    linked_next next1 previous front at at e at_out (linked_next next previous front at e s outs.0 parts.0)
    )
    )) (
      get_or-set_same next1 at e 0 (omega (arith, length-set next e s)),
      get_or-set_other previous1 s e e 0 (λ z. s_ne (sym z)) ∙ get_or-set_same previous e at 0 wp,
      (
        get_or-set_other next1 at e e 0 (λ z. outs.1.0 (sym z)) ∙ get_or-set_same next e s 0 we,
        get_or-set_same previous1 s e 0 (omega (arith, length-set previous e at)),
        linked_previous next2 previous1 back 0 s e (first_lacks back ins.1 zero_out) (
            linked_previous next2 previous back 0 e at (never_lacks back 0 e outs.1.1 ne) (
            linked_next next1 previous back 0 at e ins.0 (linked_next next previous back 0 e s outs.1.1 parts.1.2)
            )
            ),
      ),
    )
  where
    s : ℕ
    s = first_or back 0

    next1 : List ℕ
    next1 = set next e (first_or back 0)

    next2 : List ℕ
    next2 = set (set next e (first_or back 0)) at e

    previous1 : List ℕ
    previous1 = set previous e at

    previous2 : List ℕ
    previous2 = set (set previous e at) (first_or back 0) e

    parts : AreLinked next previous front at × AreLinked next previous (at ∷ back) 0
    parts = linked_parts next previous front (at ∷ back) 0 h

    outs : Lacks front e × Lacks (at ∷ back) e
    outs = lacks_parts front (at ∷ back) e out

    ins : AreApart (at ∷ back)
    ins = (apart_parts front (at ∷ back) a).1

    at_out : Lacks front at
    at_out = (lacks_parts front back at (apart_out front back at a).0).0

    zero_out : Lacks back 0
    zero_out = back_lacks front back at l

    s_ne : first_or back 0 ≢ e
    s_ne = first_is_not back 0 e outs.1.1 ne

-- the links after e was taken out, and linked to some other place
pub linked_out : (next previous front back : List ℕ) (before e other : ℕ)
    → AreLinked next previous (front ++ before ∷ e ∷ back) 0
    → AreApart (front ++ before ∷ e ∷ back)
    → Lacks (drop 1 (front ++ before ∷ e ∷ back)) 0
    → before < length next
    → first_or back 0 < length previous
    → AreLinked (set (set next before (first_or back 0)) e other) (set previous (first_or back 0) before) (front ++ before ∷ back) 0
linked_out next previous front back before e other h a l wb ws =
    linked_whole next2 previous1 front (before ∷ back) 0
    (linked_previous next2 previous front before s before (beyond_lacks front back before whole zero) (
    linked_next next1 previous front before e other out (linked_next next previous front before before s before_out parts.0)
    )) (
      get_or-set_other next1 e before other 0 (λ z. rest.0.0 (sym z)) ∙ get_or-set_same next before s 0 wb,
      get_or-set_same previous s before 0 ws,
      linked_previous next2 previous back 0 s before (first_lacks back rest.1.1 (back_lacks front back before zero)) (
          linked_next next1 previous back 0 e other rest.1.0 (linked_next next previous back 0 before s rest.0.1 parts.1.2.2)
          ),
    )
  where
    s : ℕ
    s = first_or back 0

    next1 : List ℕ
    next1 = set next before (first_or back 0)

    next2 : List ℕ
    next2 = set (set next before (first_or back 0)) e other

    previous1 : List ℕ
    previous1 = set previous (first_or back 0) before

    parts : AreLinked next previous front before × AreLinked next previous (before ∷ e ∷ back) 0
    parts = linked_parts next previous front (before ∷ e ∷ back) 0 h

    rest : AreApart (before ∷ e ∷ back)
    rest = (apart_parts front (before ∷ e ∷ back) a).1

    cut : Lacks ((front ++ before ∷ []) ++ back) e × AreApart ((front ++ before ∷ []) ++ back)
    cut = apart_out (front ++ before ∷ []) back e (subst AreApart (sym (append_assoc front (before ∷ []) (e ∷ back))) a)

    whole : AreApart (front ++ before ∷ back)
    whole = subst AreApart (append_assoc front (before ∷ []) back) cut.1

    out : Lacks front e
    out = (lacks_parts front (before ∷ []) e (lacks_parts (front ++ before ∷ []) back e cut.0).0).0

    before_out : Lacks front before
    before_out = (lacks_parts front back before (apart_out front back before whole).0).0

    zero : Lacks (drop 1 (front ++ before ∷ back)) 0
    zero = zero_left front l where
      zero_left : (xs : List ℕ) → Lacks (drop 1 (xs ++ before ∷ e ∷ back)) 0 → Lacks (drop 1 (xs ++ before ∷ back)) 0
      zero_left [] k = k.1
      zero_left (x ∷ xs) k = let both = lacks_parts xs (before ∷ e ∷ back) 0 k in lacks_whole xs (before ∷ back) 0 both.0 (both.1.0, both.1.1.1)
