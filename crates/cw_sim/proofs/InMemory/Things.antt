-- What things of nodes are once one is put or taken.
use Rattle.std.proofs.Common.{◌≡◌, ◌≢◌, ℕ, zero, suc, ◌<◌, List, [], ◌∷◌, ◌++◌, length, get_or, set, replicate, take, refl, ap, sym, ◌∙◌, subst, arith, cond, Option, Some, None, is_some, inl, inr}
use Rattle.std.specs.Prelude.{IsSome}
use Rattle.std.proofs.Math.ListN.{get_or-map}
use Rattle.std.proofs.lemmas.List.{get_or-set_same, get_or-set_other, get_or_read, length-map}
use Rattle.std.proofs.lemmas.Bool.Decides.{eqb_tells}
use Rattle.slab.specs.Slab.{Slab, get, Updates}
use Rattle.cw_sim.specs.ThingsInMemory.{thing_at, Puts, under, things_of, AreKeys}

-- a place that was emptied
emptied : (ks : List (Option ℕ)) (i : ℕ) → thing_at (set ks i None) i ≡ None
emptied [] i = refl
emptied (k ∷ ks) zero = refl
emptied (k ∷ ks) (suc i) = emptied ks i

some_inj : {X : Type 0} {x y : X} → Some x ≡ Some y → x ≡ y
some_inj e = cc

-- a key that was read
pub key_was : (keys : List (Option ℕ)) (n : ℕ) (o : Option ℕ) (key : ℕ) → n < length keys → o ≡ get_or keys n o → o ≡ Some key → thing_at keys n ≡ Some key
key_was keys n o key low e q = sym (get_or_read keys n o low e None) ∙ q

-- a node that has a thing has a place for its key
pub key_low : {T : Type 0} (slab : Slab T) (keys : List (Option ℕ)) (n : ℕ) → IsSome (thing_at (things_of slab keys) n) → n < length keys
key_low slab [] n h = absurd (cc h)
key_low slab (k ∷ ks) zero h = omega arith
key_low slab (k ∷ ks) (suc n) h = let low = key_low slab ks n h in omega (arith, low)

-- with empty places at the end nodes have the same keys
no_thing : (k i : ℕ) → thing_at {T = ℕ} (replicate k None) i ≡ None
no_thing zero i = refl
no_thing (suc k) zero = refl
no_thing (suc k) (suc i) = no_thing k i

pub thing_padded : (xs : List (Option ℕ)) (more m : ℕ) → thing_at (xs ++ replicate more None) m ≡ thing_at xs m
thing_padded [] more m = no_thing more m
thing_padded (x ∷ xs) more zero = refl
thing_padded (x ∷ xs) more (suc m) = thing_padded xs more m

module _ {T : Type 0} where
  -- a node's thing is what is under its key
  pub thing_of : (slab : Slab T) (keys : List (Option ℕ)) (n : ℕ) → thing_at (things_of slab keys) n ≡ under slab (thing_at keys n)
  thing_of slab keys n = get_or-map (under slab) keys n None

  some_none : {o : Option T} → IsSome o → o ≡ None → ⊥
  some_none h e = let n = ap is_some e in cc

  -- what is under a key that stays is there still
  module _ (slab later : Slab T) (key : ℕ) (slot : Option T) (up : Updates slab later key slot) where
    under_same : (o : Option ℕ) → (o ≡ Some key → ⊥) → under later o ≡ under slab o
    under_same None other = refl
    under_same (Some k) other = up.others k (λ e. other (ap Some e))

    -- node n has this key now
    pub put_puts : (keys : List (Option ℕ)) → AreKeys slab keys → get slab key ≡ None → (n : ℕ) → n < length keys → Puts (things_of slab keys) n slot (things_of later (set keys n (Some key)))
    put_puts keys old free n low m = elim (eqb_tells m n) [
      | inl w ↦
          thing_of later (set keys n (Some key)) m
          ∙ ap (λ z. under later (thing_at (set keys n (Some key)) z)) w.1
          ∙ ap (under later) (get_or-set_same keys n (Some key) None low)
          ∙ up.changed
          ∙ sym (ap (λ b. cond b slot (thing_at (things_of slab keys) m)) w.0)
      | inr w ↦
          thing_of later (set keys n (Some key)) m
          ∙ ap (under later) (get_or-set_other keys n m (Some key) None w.1)
          ∙ under_same (thing_at keys m) (λ e. some_none (old.there m key e) free)
          ∙ sym (thing_of slab keys m)
          ∙ sym (ap (λ b. cond b slot (thing_at (things_of slab keys) m)) w.0)
    ]

    -- node n had this key
    pub take_puts : (keys : List (Option ℕ)) → AreKeys slab keys → (n : ℕ) → thing_at keys n ≡ Some key → slot ≡ None → Puts (things_of slab keys) n None (things_of later (set keys n None))
    take_puts keys old n had gone m = elim (eqb_tells m n) [
      | inl w ↦
          thing_of later (set keys n None) m
          ∙ ap (λ z. under later (thing_at (set keys n None) z)) w.1
          ∙ ap (under later) (emptied keys n)
          ∙ sym (ap (λ b. cond b None (thing_at (things_of slab keys) m)) w.0)
      | inr w ↦
          thing_of later (set keys n None) m
          ∙ ap (under later) (get_or-set_other keys n m None None w.1)
          ∙ under_same (thing_at keys m) (λ e. w.1 (old.apart m n key e had))
          ∙ sym (thing_of slab keys m)
          ∙ sym (ap (λ b. cond b None (thing_at (things_of slab keys) m)) w.0)
    ]

    module _ (keys : List (Option ℕ)) (old : AreKeys slab keys) (n : ℕ) where
      still_there : (m k : ℕ) → thing_at keys m ≡ Some k → (k ≡ key → ⊥) → IsSome (get later k)
      still_there m k e other = let P : Option T → Type 0 = λ o. IsSome o in subst P (sym (up.others k other)) (old.there m k e)

      pub take_keys : thing_at keys n ≡ Some key → AreKeys later (set keys n None)
      take_keys had = record {
        there = λ m k e.
            let w = elsewhere m k e in
            still_there m k w.0 (λ q. w.1 (old.apart m n key (w.0 ∙ ap Some q) had));
        apart = λ m l k e z. old.apart m l k (elsewhere m k e).0 (elsewhere l k z).0;
      } where
        elsewhere : (m k : ℕ) → thing_at (set keys n None) m ≡ Some k → (thing_at keys m ≡ Some k) × (m ≢ n)
        elsewhere m k e = elim (eqb_tells m n) [
          | inl w ↦ absurd (let a = ap (thing_at (set keys n None)) w.1 in let b = emptied keys n in cc)
          | inr w ↦ (sym (get_or-set_other keys n m None None w.1) ∙ e, w.1)
        ]

      pub put_keys : (v : T) → slot ≡ Some v → get slab key ≡ None → n < length keys → AreKeys later (set keys n (Some key))
      put_keys v is free low = record { there = there; apart = apart } where
        here : (k : ℕ) → thing_at (set keys n (Some key)) n ≡ Some k → k ≡ key
        here k e = let a = get_or-set_same keys n (Some key) None low in some_inj (sym e ∙ a)

        other : (m k : ℕ) → thing_at (set keys n (Some key)) m ≡ Some k → m ≢ n → thing_at keys m ≡ Some k
        other m k e far = sym (get_or-set_other keys n m (Some key) None far) ∙ e

        fresh : (m k : ℕ) → thing_at keys m ≡ Some k → k ≡ key → ⊥
        fresh m k e q = some_none (old.there m k e) (ap (get slab) q ∙ free)

        there : (m k : ℕ) → thing_at (set keys n (Some key)) m ≡ Some k → IsSome (get later k)
        there m k e = elim (eqb_tells m n) [
          | inl w ↦ (let P : Option T → Type 0 = λ o. IsSome o in
              subst P (sym (ap (get later) (here k (sym (ap (thing_at (set keys n (Some key))) w.1) ∙ e)) ∙ up.changed ∙ is)) refl)
          | inr w ↦ still_there m k (other m k e w.1) (fresh m k (other m k e w.1))
        ]

        apart : (m l k : ℕ) → thing_at (set keys n (Some key)) m ≡ Some k → thing_at (set keys n (Some key)) l ≡ Some k → m ≡ l
        apart m l k e z = elim (eqb_tells m n) [
          | inl a ↦ elim (eqb_tells l n) [
            | inl b ↦ a.1 ∙ sym b.1
            | inr b ↦ absurd (fresh l k (other l k z b.1) (here k (sym (ap (thing_at (set keys n (Some key))) a.1) ∙ e)))
          ]
          | inr a ↦ elim (eqb_tells l n) [
            | inl b ↦ absurd (fresh m k (other m k e a.1) (here k (sym (ap (thing_at (set keys n (Some key))) b.1) ∙ z)))
            | inr b ↦ old.apart m l k (other m k e a.1) (other l k z b.1)
          ]
        ]

  pub keys_same : (slab : Slab T) (keys later : List (Option ℕ)) → ((m : ℕ) → thing_at later m ≡ thing_at keys m) → AreKeys slab keys → AreKeys slab later
  keys_same slab keys later same old = record {
    there = λ m k e. old.there m k (sym (same m) ∙ e);
    apart = λ m l k e z. old.apart m l k (sym (same m) ∙ e) (sym (same l) ∙ z);
  }

  -- a thing put where one was taken
  pub puts_twice : (a b c d : List (Option T)) (n : ℕ) (thing : Option T) → ((m : ℕ) → thing_at b m ≡ thing_at a m) → Puts b n None c → Puts c n thing d → Puts a n thing d
  puts_twice a b c d n thing same take put m = elim (eqb_tells m n) [
    | inl w ↦ put m ∙ ap (λ e. cond e thing (thing_at c m)) w.0 ∙ sym (ap (λ e. cond e thing (thing_at a m)) w.0)
    | inr w ↦
        put m ∙ ap (λ e. cond e thing (thing_at c m)) w.0
        ∙ take m ∙ ap (λ e. cond e None (thing_at b m)) w.0 ∙ same m
        ∙ sym (ap (λ e. cond e thing (thing_at a m)) w.0)
  ]

  pub things_length : (slab : Slab T) (keys : List (Option ℕ)) → length (things_of slab keys) ≡ length keys
  things_length slab keys = length-map keys (under slab)
