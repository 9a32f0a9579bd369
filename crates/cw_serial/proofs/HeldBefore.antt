-- What elements held before writes; and a map of it, which has in order what is put back.
use Rattle.std.proofs.Common.{◌≡◌, ◌==◌, ◌<◌, ◌≤◌, ℕ, ℤ, pos, List, [], ◌∷◌, ◌++◌, Bool, true, false, cond, Option, Some, None, length, refl, ap, sym, ◌∙◌, append_assoc, arith, get_or-set_same, get_or-set_other}
use Rattle.std.specs.Prelude.{slice_set, filter, map, nat_lt, ◌&&◌, ◌||◌}
use Rattle.std.specs.BTreeMap.{BTreeMap, get, Updates, IsOrdered}
use Rattle.std.specs.Ordering.{nat_cmp, is_eq}
use Rattle.std.proofs.lemmas.Bool.{ltb-true}
use Rattle.std.proofs.lemmas.Bool.Decides.{nat_tests}
use Rattle.std.proofs.lemmas.List.{length-set}
use Rattle.std.proofs.lemmas.Option.{unwrap_or-slice_get}
use Rattle.cw_code.specs.declared.Back.{Back}
use Rattle.cw_job.specs.Memory.{value_at}
use Rattle.cw_tree.specs.Nodes.{below}
use Rattle.cw_serial.specs.declared.undo.Write.{Write}
use Rattle.cw_serial.specs.Wants.{was_written, put_back_since}
use Rattle.cw_serial.specs.InMemory.{undone, since_of, held_before}
use Rattle.cw_serial.proofs.MapsInOrder.{entries_in_order}

-- what element c held before these writes, if it is one of the first n
abbrev pub held_below : ℕ → List Write → ℕ → Option ℤ
held_below n ws c = cond (nat_lt c n) (held_before ws c) None

-- a write of an element that is not there changes nothing
held_past : (n : ℕ) (w : Write) (ws : List Write) (c : ℕ) → n ≤ w.element → held_below n ws c ≡ held_below n (w ∷ ws) c
held_past n w ws c past = grind (arith, nat_tests)

held_next : (n : ℕ) (w : Write) (ws : List Write) (c : ℕ) → w.element < n → cond (is_eq (nat_cmp w.element c)) (Some w.replaced) (held_below n ws c) ≡ held_below n (w ∷ ws) c
held_next n w ws c there = grind (arith, nat_tests)

-- A map has what the elements held before the last of these writes, those behind the first ones, which are left.
pub record Held (n : ℕ) (all left : List Write) (held : BTreeMap ℕ ℤ) : Type 0 where
  pub done : List Write
  pub all_is : all ≡ left ++ done
  pub has : (c : ℕ) → get nat_cmp held c ≡ held_below n done c

module _ (n : ℕ) (all left rest : List Write) (w : Write) (held : BTreeMap ℕ ℤ) (h : Held n all left held) (e : left ≡ rest ++ w ∷ []) where
  next_all : all ≡ rest ++ w ∷ h.done
  next_all = h.all_is ∙ (ap (λ xs. xs ++ h.done) e ∙ append_assoc rest (w ∷ []) h.done)

  -- the newest of them is looked at
  pub past_more : n ≤ w.element → Held n all rest held
  past_more past = record { done = w ∷ h.done; all_is = next_all; has = λ c. h.has c ∙ held_past n w h.done c past }

  pub next_more : (more : BTreeMap ℕ ℤ) (v : ℤ) → w.element < n → v ≡ w.replaced → Updates nat_cmp held more w.element (Some v) → Held n all rest more
  next_more more v there same u = record {
    done = w ∷ h.done;
    all_is = next_all;
    has = λ c.
        u.0 c
        ∙ (ap (λ o. cond (is_eq (nat_cmp w.element c)) (Some v) o) (h.has c)
        ∙ (ap (λ x. cond (is_eq (nat_cmp w.element c)) (Some x) (held_below n h.done c)) same ∙ held_next n w h.done c there));
  }

-- ## In a memory

pub length-undone : (ws : List Write) (memory : List ℤ) → length (undone ws memory) ≡ length memory
length-undone [] memory = refl
length-undone (w ∷ ws) memory = length-set (undone ws memory) w.element w.replaced ∙ length-undone ws memory

pub value_at-set : (memory : List ℤ) (c : ℕ) (v : ℤ) (d : ℕ) → d < length memory → value_at (slice_set memory c v) d ≡ cond (c == d) v (value_at memory d)
value_at-set memory c v d there = rw (unwrap_or-slice_get (slice_set memory c v) d (pos 0), unwrap_or-slice_get memory d (pos 0)) (grind (arith, nat_tests, get_or-set_same, get_or-set_other))

-- it is what the memory held at the elements that were written
pub held_is : (ws : List Write) (memory : List ℤ) (c : ℕ) → c < length memory → held_before ws c ≡ cond (was_written (since_of ws memory) c) (Some (value_at (undone ws memory) c)) None
held_is [] memory c there = refl
held_is (w ∷ ws) memory c there =
    by (w.element == c) (value_at-set (undone ws memory) w.element w.replaced c (rw length-undone there)) (held_is ws memory c there) where
      by : (b : Bool) → value_at (undone (w ∷ ws) memory) c ≡ cond b w.replaced (value_at (undone ws memory) c) → held_before ws c ≡ cond (was_written (since_of ws memory) c) (Some (value_at (undone ws memory) c)) None
          → cond b (Some w.replaced) (held_before ws c) ≡ cond (b || was_written (since_of ws memory) c) (Some (value_at (undone (w ∷ ws) memory) c)) None
      by true set rest = ap Some (sym set)
      by false set rest = rest ∙ ap (λ v. cond (was_written (since_of ws memory) c) (Some v) None) (sym set)

-- ## What is put back

-- an entry of a map, as it is put back
abbrev pub back_of : ℕ × ℤ → Back
back_of e = record { cell = e.0; value = e.1 }

-- one more entry is put at the end of a list
pub puts_next : (list next all : List Back) (b : Back) (left rest : List (ℕ × ℤ)) → next ≡ list ++ b ∷ [] → left ≡ (b.cell, b.value) ∷ rest → list ++ map back_of left ≡ all → next ++ map back_of rest ≡ all
puts_next list next all b left rest more is so_far = ap (λ xs. xs ++ map back_of rest) more ∙ (append_assoc list (b ∷ []) (map back_of rest) ∙ (ap (λ es. list ++ map back_of es) (sym is) ∙ so_far))

-- what such a map has in order is what is put back
pub puts_back : (ws : List Write) (memory : List ℤ) (m : BTreeMap ℕ ℤ) → IsOrdered nat_cmp m → ((c : ℕ) → get nat_cmp m c ≡ held_below (length memory) ws c) → map back_of m.entries ≡ put_back_since (since_of ws memory)
puts_back ws memory m ordered has =
    entries_in_order (value_at (undone ws memory)) (was_written (since_of ws memory)) (length memory) m ordered (λ c. has c ∙ by c (nat_lt c (length memory)) refl) (λ c v. back_of (c, v))
    ∙ ap (λ n. map (λ c. back_of (c, value_at (undone ws memory) c)) (filter (was_written (since_of ws memory)) (below n))) (sym (length-undone ws memory)) where
      by : (c : ℕ) (b : Bool) → nat_lt c (length memory) ≡ b → cond b (held_before ws c) None ≡ cond (b && was_written (since_of ws memory) c) (Some (value_at (undone ws memory) c)) None
      by c true e = held_is ws memory c (ltb-true c (length memory) e)
      by c false e = refl
