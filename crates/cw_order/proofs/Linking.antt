-- Links that lead along a list: what they say of its parts, and which writes leave them as they are.
use Rattle.std.proofs.Common.{ℕ, zero, suc, ◌+◌, ◌<◌, ◌≡◌, List, [], ◌∷◌, ◌++◌, length, get_or, set, drop, refl, sym, ap, ◌∙◌, arith}
use Rattle.std.proofs.lemmas.List.{get_or-set_other}
use Rattle.cw_order.specs.Links.{walk, first_or, AreLinked, Lacks}

-- what lies beyond the front is the first of the rest
pub first_or-append : (xs ys : List ℕ) (b : ℕ) → first_or (xs ++ ys) b ≡ first_or xs (first_or ys b)
first_or-append [] ys b = refl
first_or-append (x ∷ xs) ys b = refl

pub linked_parts : (next previous xs ys : List ℕ) (b : ℕ) → AreLinked next previous (xs ++ ys) b → AreLinked next previous xs (first_or ys b) × AreLinked next previous ys b
linked_parts next previous [] ys b h = (tt, h)
linked_parts next previous (x ∷ xs) ys b h =
    let e = first_or-append xs ys b in
    let more = linked_parts next previous xs ys b h.2 in
    ((h.0 ∙ e, ap (λ y. get_or previous y 0) (sym e) ∙ h.1, more.0), more.1)

pub linked_whole : (next previous xs ys : List ℕ) (b : ℕ) → AreLinked next previous xs (first_or ys b) → AreLinked next previous ys b → AreLinked next previous (xs ++ ys) b
linked_whole next previous [] ys b h more = more
linked_whole next previous (x ∷ xs) ys b h more =
    let e = first_or-append xs ys b in
    (h.0 ∙ sym e, ap (λ y. get_or previous y 0) e ∙ h.1, linked_whole next previous xs ys b h.2 more)

-- a write to `next` at a place that is not in the list
pub linked_next : (next previous xs : List ℕ) (b i v : ℕ) → Lacks xs i → AreLinked next previous xs b → AreLinked (set next i v) previous xs b
linked_next next previous [] b i v l h = tt
linked_next next previous (x ∷ xs) b i v l h = (get_or-set_other next i x v 0 l.0 ∙ h.0, h.1, linked_next next previous xs b i v l.1 h.2)

-- a write to `previous` at a place that no link leads to
pub linked_previous : (next previous xs : List ℕ) (b i v : ℕ) → Lacks (drop 1 (xs ++ b ∷ [])) i → AreLinked next previous xs b → AreLinked next (set previous i v) xs b
linked_previous next previous [] b i v l h = tt
linked_previous next previous (x ∷ []) b i v l h = (h.0, get_or-set_other previous i b v 0 l.0 ∙ h.1, tt)
linked_previous next previous (x ∷ y ∷ ys) b i v l h =
    (h.0, get_or-set_other previous i y v 0 l.0 ∙ h.1, linked_previous next previous (y ∷ ys) b i v l.1 h.2)

-- a walk along the links meets the list
pub walk-linked : (next previous xs : List ℕ) (b : ℕ) → AreLinked next previous xs b → walk next (first_or xs b) (length xs) ≡ xs
walk-linked next previous [] b h = refl
walk-linked next previous (x ∷ xs) b h = ap (λ ys. x ∷ ys) (ap (λ y. walk next y (length xs)) h.0 ∙ walk-linked next previous xs b h.2)

pub walk-set : (next : List ℕ) (i v at k : ℕ) → Lacks (walk next at k) i → walk (set next i v) at k ≡ walk next at k
walk-set next i v at zero l = refl
walk-set next i v at (suc k) l =
    ap (λ ys. at ∷ ys) (ap (λ y. walk (set next i v) y k) (get_or-set_other next i at v 0 l.0) ∙ walk-set next i v (get_or next at 0) k l.1)

-- where the links lead, by places in the list
pub next_at : (next previous xs : List ℕ) (b i : ℕ) → AreLinked next previous xs b → i < length xs → get_or next (get_or xs i 0) 0 ≡ get_or xs (i + 1) b
next_at next previous [] b i h l = absurd (omega arith)
next_at next previous (x ∷ []) b zero h l = h.0
next_at next previous (x ∷ y ∷ xs) b zero h l = h.0
next_at next previous (x ∷ xs) b (suc i) h l =
    next_at next previous xs b i h.2 (omega arith) ∙ (let e : i + 1 + 1 ≡ suc (i + 1) = omega arith in let f : suc i + 1 ≡ suc (i + 1) = omega arith in sym (ap (λ k. get_or (x ∷ xs) k b) f))

pub previous_at : (next previous xs : List ℕ) (b i : ℕ) → AreLinked next previous xs b → suc i < length xs → get_or previous (get_or xs (suc i) 0) 0 ≡ get_or xs i 0
previous_at next previous [] b i h l = absurd (omega arith)
previous_at next previous (x ∷ []) b i h l = absurd (omega arith)
previous_at next previous (x ∷ y ∷ xs) b zero h l = h.1
previous_at next previous (x ∷ y ∷ xs) b (suc i) h l = previous_at next previous (y ∷ xs) b i h.2 (omega arith)

pub length-walk : (next : List ℕ) (at k : ℕ) → length (walk next at k) ≡ k
length-walk next at zero = refl
length-walk next at (suc k) = ap suc (length-walk next (get_or next at 0) k)
