-- Live cancels by their blocks, and the nearest block above each node that was given up.
use Rattle.std.proofs.Common.{◌≡◌, ℕ, zero, suc, ◌+◌, ◌<◌, ◌≤◌, List, [], ◌∷◌, length, get_or, set, replicate, ap, sym, ◌∙◌, arith, refl, Bool, true, false, cond, Option, Some, None, inl, inr}
use Rattle.std.specs.Prelude.{◌⊎◌, is_some, slice_get}
use Rattle.std.specs.Option.{option_map}
use Rattle.std.proofs.lemmas.Bool.{cases_eq, and_parts}
use Rattle.std.proofs.lemmas.List.{get_or-set_same, get_or-set_other, get_or-replicate, length-set, length-replicate}
use Rattle.std.proofs.lemmas.Option.{same_Some, slice_get_within}
use Rattle.cw_tree.specs.declared.node.Node.{Node}
use Rattle.cw_tree.specs.Nodes.{parent_of, is_block}
use Rattle.cw_tree.specs.Walks.{IsRooted}
use Rattle.cw_tree.specs.Accesses.{is_live}
use Rattle.cw_audit.specs.Backs.{list_at, list_told}
use Rattle.cw_audit.specs.Naming.{AreLiveCancels, AreAround, around_in, one_for, is_live_cancel}

-- ## Lists with one for each node

pub at_within : (ns : List (Option ℕ)) (n b : ℕ) → one_for ns n ≡ Some b → n < length ns
at_within [] n b e = absurd (cc e)
at_within (x ∷ ns) zero b e = omega arith
at_within (x ∷ ns) (suc n) b e = let z = at_within ns n b e in omega arith

none_at : (ns : List (Option ℕ)) (count n b : ℕ) → ns ≡ replicate count None → one_for ns n ≡ Some b → ⊥
none_at ns count n b e f = none (cases count n) where
  cases : (k x : ℕ) → (x < k) ⊎ (x < k → ⊥)
  cases k x = grind arith

  none : (n < count) ⊎ (n < count → ⊥) → ⊥
  none (inl l) = absurd (cc (sym (ap (λ xs. get_or xs n None) e ∙ get_or-replicate count n None None l) ∙ f))
  none (inr g) = absurd (g (let z = at_within ns n b f in omega (arith, z, ap length e ∙ length-replicate count None)))

-- ## Live cancels

pub map_some : {X Y : Type 0} (f : X → Y) (o : Option X) → is_some (option_map f o) ≡ is_some o
map_some f None = refl
map_some f (Some x) = refl

pub none_is : (o : Option ℕ) → is_some o ≡ false → o ≡ None
none_is None e = refl
none_is (Some n) e = absurd (cc e)

told_at_there : (o : Option Node) → is_some (list_at o) ≡ true → is_some o ≡ true
told_at_there None e = e
told_at_there (Some x) e = refl

some_is : (o : Option Node) → is_some o ≡ true → (x : Node) × (o ≡ Some x)
some_is None e = absurd (cc e)
some_is (Some x) e = (x, refl)

pub cancel_there : (t : List Node) (m : ℕ) → is_live_cancel t m ≡ true → m < length t
cancel_there t m e =
    let z = some_is (slice_get t m) (told_at_there (slice_get t m) (and_parts (is_live t m) (is_some (list_told t m)) e).1) in
    slice_get_within t m z.0 z.1

-- the live cancels among the nodes below n
pub record CancelsBelow (t : List Node) (n : ℕ) (cancels : List (Option ℕ)) : Type 0 where
  pub len : length cancels ≡ length t
  pub there : (b m : ℕ) → one_for cancels b ≡ Some m → m < length t
  pub each : (m : ℕ) → m < n → is_live_cancel t m ≡ true → (is_block t (parent_of t m) ≡ true) × (one_for cancels (parent_of t m) ≡ Some m)

module _ (t : List Node) where
  pub cancels_none : (cancels : List (Option ℕ)) → cancels ≡ replicate (length t) None → CancelsBelow t 0 cancels
  cancels_none cancels e = record {
    len = ap length e ∙ length-replicate (length t) None;
    there = λ b m f. absurd (none_at cancels (length t) b m e f);
    each = λ m h l. absurd (omega arith);
  }

  pub cancels_all : (n : ℕ) (cancels : List (Option ℕ)) → length t ≤ n → CancelsBelow t n cancels → AreLiveCancels t cancels
  cancels_all n cancels h w = record { len = w.len; there = w.there; each = λ m e. (let there = cancel_there t m e in w.each m (omega arith) e) }

  pub cancels_skip : (n : ℕ) (cancels : List (Option ℕ)) → CancelsBelow t n cancels → is_live_cancel t n ≡ false → CancelsBelow t (n + 1) cancels
  cancels_skip n cancels w e = record { len = w.len; there = w.there; each = λ m h l. each m h l (cases_eq m n) } where
    each : (m : ℕ) → m < n + 1 → is_live_cancel t m ≡ true → (m ≡ n) ⊎ (m ≡ n → ⊥) → (is_block t (parent_of t m) ≡ true) × (one_for cancels (parent_of t m) ≡ Some m)
    each m h l (inl same) = absurd (cc (sym l ∙ ap (is_live_cancel t) same ∙ e))
    each m h l (inr ne) = w.each m (omega arith) l

  module _ (n q : ℕ) (cancels : List (Option ℕ)) (w : CancelsBelow t n cancels) (here : n < length t) (low : q < length t) (parent : q ≡ parent_of t n) (block : is_block t q ≡ true) (free : one_for cancels q ≡ None) where
    inside : q < length cancels
    inside = let len = w.len in omega arith

    own : one_for (set cancels q (Some n)) q ≡ Some n
    own = get_or-set_same cancels q (Some n) None inside

    others : (b : ℕ) → (b ≡ q → ⊥) → one_for (set cancels q (Some n)) b ≡ one_for cancels b
    others b ne = get_or-set_other cancels q b (Some n) None ne

    there_at : (b m : ℕ) → one_for (set cancels q (Some n)) b ≡ Some m → (b ≡ q) ⊎ (b ≡ q → ⊥) → m < length t
    there_at b m e (inl same) = let is : n ≡ m = same_Some n m (sym own ∙ ap (one_for (set cancels q (Some n))) (sym same) ∙ e) in omega arith
    there_at b m e (inr ne) = w.there b m (sym (others b ne) ∙ e)

    each_old : (m : ℕ) → is_live_cancel t m ≡ true → m < n → (parent_of t m ≡ q) ⊎ (parent_of t m ≡ q → ⊥) → one_for (set cancels q (Some n)) (parent_of t m) ≡ Some m
    each_old m l h (inl same) = absurd (cc (sym free ∙ ap (one_for cancels) (sym same) ∙ (w.each m h l).1))
    each_old m l h (inr ne) = others (parent_of t m) ne ∙ (w.each m h l).1

    each_at : (m : ℕ) → m < n + 1 → is_live_cancel t m ≡ true → (m ≡ n) ⊎ (m ≡ n → ⊥) → (is_block t (parent_of t m) ≡ true) × (one_for (set cancels q (Some n)) (parent_of t m) ≡ Some m)
    each_at m h l (inl same) =
        let up : parent_of t m ≡ q = ap (parent_of t) same ∙ sym parent in
        (ap (is_block t) up ∙ block, ap (one_for (set cancels q (Some n))) up ∙ own ∙ ap Some (sym same))
    each_at m h l (inr ne) = ((w.each m (omega arith) l).0, each_old m l (omega arith) (cases_eq (parent_of t m) q))

    pub cancels_more : CancelsBelow t (n + 1) (set cancels q (Some n))
    cancels_more = record {
      len = length-set cancels q (Some n) ∙ w.len;
      there = λ b m e. there_at b m e (cases_eq b q);
      each = λ m h l. each_at m h l (cases_eq m n);
    }

-- ## What is around

-- what is around the nodes below n
pub record AroundBelow (t : List Node) (cancels : List (Option ℕ)) (n : ℕ) (around : List (Option ℕ)) : Type 0 where
  pub some : 0 < n
  pub len : length around ≡ length t
  pub there : (x b : ℕ) → one_for around x ≡ Some b → b < length t
  pub each : (x : ℕ) → 0 < x → x < n → x < length t → one_for around x ≡ around_in cancels around (parent_of t x)

module _ (t : List Node) (cancels : List (Option ℕ)) where
  pub around_none : (around : List (Option ℕ)) → around ≡ replicate (length t) None → AroundBelow t cancels 1 around
  around_none around e = record {
    some = omega arith;
    len = ap length e ∙ length-replicate (length t) None;
    there = λ x b f. absurd (none_at around (length t) x b e f);
    each = λ x s h l. absurd (omega arith);
  }

  pub around_all : (n : ℕ) (around : List (Option ℕ)) → length t ≤ n → AroundBelow t cancels n around → AreAround t cancels around
  around_all n around h w = record { len = w.len; there = w.there; each = λ x s l. w.each x s (omega arith) l }

  module _ (rooted : IsRooted t) (n q : ℕ) (around : List (Option ℕ)) (w : AroundBelow t cancels n around) (here : n < length t) (parent : q ≡ parent_of t n) (new : Option ℕ) (is : new ≡ around_in cancels around q) where
    less : q < n
    less = let some = w.some in let z = rooted n some here in omega arith

    new_at : one_for (set around n new) n ≡ new
    new_at = get_or-set_same around n new None (let len = w.len in omega arith)

    rest_of : (x : ℕ) → (x ≡ n → ⊥) → one_for (set around n new) x ≡ one_for around x
    rest_of x ne = get_or-set_other around n x new None ne

    same_in : (x : ℕ) → (x ≡ n → ⊥) → around_in cancels around x ≡ around_in cancels (set around n new) x
    same_in x ne = ap (cond (is_some (one_for cancels x)) (Some x)) (sym (rest_of x ne))

    new_there : (d : Bool) (b : ℕ) → cond d (Some q) (one_for around q) ≡ Some b → b < length t
    new_there true b e = let same : q ≡ b = same_Some q b e in let l = less in omega arith
    new_there false b e = w.there q b e

    around_there : (x b : ℕ) → one_for (set around n new) x ≡ Some b → (x ≡ n) ⊎ (x ≡ n → ⊥) → b < length t
    around_there x b e (inl same) = new_there (is_some (one_for cancels q)) b (sym is ∙ sym new_at ∙ ap (one_for (set around n new)) (sym same) ∙ e)
    around_there x b e (inr ne) = w.there x b (sym (rest_of x ne) ∙ e)

    around_each : (x : ℕ) → 0 < x → x < n + 1 → x < length t → (x ≡ n) ⊎ (x ≡ n → ⊥) → one_for (set around n new) x ≡ around_in cancels (set around n new) (parent_of t x)
    around_each x s h l (inl same) =
        let low = less in
        ap (one_for (set around n new)) same ∙ new_at ∙ is ∙ same_in q (omega arith) ∙ ap (around_in cancels (set around n new)) (parent ∙ ap (parent_of t) (sym same))
    around_each x s h l (inr ne) =
        let low = rooted x s l in
        rest_of x ne ∙ w.each x s (omega arith) l ∙ same_in (parent_of t x) (omega arith)

    pub around_more : AroundBelow t cancels (n + 1) (set around n new)
    around_more = record {
      some = omega arith;
      len = length-set around n new ∙ w.len;
      there = λ x b e. around_there x b e (cases_eq x n);
      each = λ x s h l. around_each x s h l (cases_eq x n);
    }
