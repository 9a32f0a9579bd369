-- A walk beneath a block notes just the live accesses that stand there.
use Rattle.std.proofs.Common.{◌≡◌, ◌≢◌, ℕ, ◌<◌, List, length, refl, ap, sym, ◌∙◌, subst, arith, Bool, true, false, cond, Option, Some, None, inl, inr, min}
use Rattle.std.specs.Prelude.{◌⊎◌, is_some}
use Rattle.std.specs.BTreeMap.{BTreeMap, get}
use Rattle.std.specs.Ordering.{nat_cmp}
use Rattle.std.proofs.lemmas.Bool.{cases_lt, cases_eq, or_cases, or_left, or_right, false_from_ne_true}
use Rattle.cw_tree.specs.declared.node.Node.{Node}
use Rattle.cw_tree.specs.Nodes.{touches_kind, stamp_of, touches, is_block}
use Rattle.cw_tree.specs.Walks.{IsRooted, is_ancestor, is_above}
use Rattle.cw_tree.specs.Accesses.{is_live, written}
use Rattle.cw_tree.proofs.Walks.Ancestors.{ancestor_self, ancestor_above, above_ancestor}
use Rattle.cw_tree.proofs.Walks.There.{node_there}
use Rattle.cw_open.proofs.Laws.Named.{live_tells}
use Rattle.cw_core.specs.declared.beneath.Touched.{Touched}
use Rattle.cw_core.specs.Touched.{with_access, IsNoted, IsAccessBeneath, IsTouched, WasNoted, AreTouched}
use Rattle.cw_core.proofs.Undone.Undoing.{block_touches}
use Rattle.cw_core.proofs.Undone.Walking.{ToCome, IsStep, not_left}

-- a walk is at node n, and each live access beneath the block is still to come or was noted
pub record Noting (t : List Node) (b : ℕ) (touched : BTreeMap ℕ Touched) (n : ℕ) (d : Bool) : Type 0 where
  pub there : n < length t
  pub within : is_ancestor t b n ≡ true
  pub live : is_live t n ≡ true
  pub each : (c : ℕ) (x : Touched) → get nat_cmp touched c ≡ Some x → IsTouched t b c x
  pub all : (c a : ℕ) → IsAccessBeneath t b c a → ToCome t n d a ⊎ WasNoted t c a touched

-- ## One more access

module _ (t : List Node) (b c n : ℕ) (own : IsAccessBeneath t b c n) where
  -- what is noted then is still of live accesses beneath the block
  touched_more : (o : Option Touched) → ((y : Touched) → o ≡ Some y → IsTouched t b c y)
      → IsTouched t b c (with_access (stamp_of t n) (is_some (written t n)) o)
  touched_more None was = record { first = (n, own, refl); wrote = λ e. (n, own, e) }
  touched_more (Some y) was =
      let w = was y refl in
      let f = w.first in
      record {
        first = elim (cases_lt y.first (stamp_of t n)) [
          | inl less ↦ (f.0, f.1, f.2 ∙ (let e : y.first ≡ min y.first (stamp_of t n) = omega arith in e))
          | inr le ↦ (n, own, (let e : stamp_of t n ≡ min y.first (stamp_of t n) = omega arith in e))
        ];
        wrote = λ e. elim (or_cases y.wrote (is_some (written t n)) e) [ inl g ↦ w.wrote g | inr g ↦ (n, own, g) ];
      }

  -- it was noted itself
  noted_own : (o : Option Touched) (new : BTreeMap ℕ Touched) → get nat_cmp new c ≡ Some (with_access (stamp_of t n) (is_some (written t n)) o)
      → WasNoted t c n new
  noted_own None new e = record { now = with_access (stamp_of t n) (is_some (written t n)) None; there = e; first = omega arith; wrote = λ g. g }
  noted_own (Some y) new e = record {
    now = with_access (stamp_of t n) (is_some (written t n))
        (Some y);
    there = e;
    first = omega arith;
    wrote = λ g. or_right y.wrote (is_some (written t n)) g;
  }

  -- and others stay so
  noted_other : (a : ℕ) (old new : BTreeMap ℕ Touched) → WasNoted t c a old
      → get nat_cmp new c ≡ Some (with_access (stamp_of t n) (is_some (written t n)) (get nat_cmp old c)) → WasNoted t c a new
  noted_other a old new w e = record {
    now = with_access (stamp_of t n) (is_some (written t n)) (Some w.now);
    there = e ∙ ap (λ o. Some (with_access (stamp_of t n) (is_some (written t n)) o)) w.there;
    first = (let le = w.first in omega arith);
    wrote = λ g. or_left w.now.wrote (is_some (written t n)) (w.wrote g);
  }

-- ## A walk

module _ (t : List Node) (r : IsRooted t) (b : ℕ) (block_there : b < length t) (block : is_block t b ≡ true) where
  pub starts : is_live t b ≡ true → (empty : BTreeMap ℕ Touched) → ((c : ℕ) → get nat_cmp empty c ≡ None) → Noting t b empty b true
  starts lives empty none = record {
    there = block_there;
    within = ancestor_self t b;
    live = lives;
    each = λ c x e. (let f = none c in absurd (cc (e, f)));
    all = λ c a own. inl (inl (above_ancestor t b a own.over));
  }

  -- an access at which a walk is stands beneath the block
  own_access : (c n : ℕ) → touches t c n ≡ true → is_ancestor t b n ≡ true → is_live t n ≡ true → IsAccessBeneath t b c n
  own_access c n touch within lives =
      let ne : n ≢ b = λ q. absurd (let a = ap (touches t c) q in let x = block_touches t c b block in cc (a, x, touch)) in
      record { touches = touch; live = lives; over = sym (ancestor_above t b n ne) ∙ within }

  -- an access that is still to come stays so after a step of the walk, unless it is the node itself
  comes_on : (n : ℕ) (d : Bool) (m : ℕ) (e : Bool) → IsStep t r b n d m e → (c a : ℕ) → IsAccessBeneath t b c a → (d ≡ true → a ≢ n)
      → ToCome t n d a → ToCome t m e a
  comes_on n d m e step c a own ne come =
      let low = node_there (λ y. touches_kind c y.kind) t a own.touches in
      step.comes a low ne (λ out. false_from_ne_true (is_above t n a) (λ up. absurd (let no = live_tells t a n own.live up in cc (no, out)))) come

  pub after_noted : (n : ℕ) (d : Bool) (old new : BTreeMap ℕ Touched) (m : ℕ) (e : Bool) → Noting t b old n d → IsStep t r b n d m e
      → IsNoted t n old new → Noting t b new m e
  after_noted n d old new m down w step noted = record {
    there = step.there;
    within = step.within;
    live = step.lives w.live;
    each = λ c x e. one c x (touches t c n) refl (sym e ∙ noted c);
    all = λ c a own. other c a own (touches t c n) refl (noted c) (w.all c a own);
  } where
    one : (c : ℕ) (x : Touched) (v : Bool) → touches t c n ≡ v
        → Some x ≡ cond v (Some (with_access (stamp_of t n) (is_some (written t n)) (get nat_cmp old c))) (get nat_cmp old c) → IsTouched t b c x
    one c x false touch e = w.each c x (sym e)
    one c x true touch e =
        let same : with_access (stamp_of t n) (is_some (written t n)) (get nat_cmp old c) ≡ x = cc e in
        let P : Touched → Type 0 = λ y. IsTouched t b c y in
        subst P same (touched_more t b c n (own_access c n touch w.within w.live) (get nat_cmp old c) (w.each c))

    other : (c a : ℕ) → IsAccessBeneath t b c a → (v : Bool) → touches t c n ≡ v
        → get nat_cmp new c ≡ cond v (Some (with_access (stamp_of t n) (is_some (written t n)) (get nat_cmp old c))) (get nat_cmp old c)
        → ToCome t n d a ⊎ WasNoted t c a old → ToCome t m down a ⊎ WasNoted t c a new
    other c a own false touch e (inr was) = inr (record { now = was.now; there = e ∙ was.there; first = was.first; wrote = was.wrote })
    other c a own true touch e (inr was) = inr (noted_other t b c n (own_access c n touch w.within w.live) a old new was e)
    other c a own false touch e (inl come) = inl (comes_on n d m down step c a own
        (λ q g. absurd (let h = own.touches in let f = ap (touches t c) g in cc (touch, f, h))) come)
    other c a own true touch e (inl come) =
        elim (cases_eq a n) [
          | inl q ↦ inr (let P : ℕ → Type 0 = λ i. WasNoted t c i new in subst P (sym q)
              (noted_own t b c n (own_access c n touch w.within w.live) (get nat_cmp old c) new e))
          | inr ne ↦ inl (comes_on n d m down step c a own (λ g. ne) come)
        ]

  pub after_none : (n : ℕ) (d : Bool) (touched : BTreeMap ℕ Touched) (m : ℕ) (e : Bool) → Noting t b touched n d → IsStep t r b n d m e
      → d ≡ false → Noting t b touched m e
  after_none n d touched m down w step off = record {
    there = step.there;
    within = step.within;
    live = step.lives w.live;
    each = w.each;
    all = λ c a own. elim (w.all c a own) [ inl come ↦ inl (comes_on n d m down step c a own (λ on. absurd (cc (on, off))) come) | inr was ↦ inr was ];
  }

  -- the walk has come back to the block
  pub all_noted : (touched : BTreeMap ℕ Touched) → Noting t b touched b false → AreTouched t b touched
  all_noted touched w = record {
    each = w.each;
    all = λ c a own. elim (w.all c a own) [
      | inl come ↦ absurd (not_left t r b a (node_there (λ y. touches_kind c y.kind) t a own.touches) (above_ancestor t b a own.over) come)
      | inr was ↦ was
    ];
  }
