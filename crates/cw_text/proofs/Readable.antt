-- Trees that can be read, part by part.
use Rattle.std.proofs.Common.{◌≡◌, ℕ, ◌+◌, ◌<◌, ◌≤◌, max, nat_lt, cond, Bool, true, false, subst, arith}
use Rattle.std.proofs.lemmas.Bool.{le-ltb}
use Rattle.std.proofs.lemmas.Bool.Decides.{nat_tests}
use Rattle.cw_text.specs.declared.ast.Op.{Op}
use Rattle.cw_text.specs.declared.ast.Word.{Word}
use Rattle.cw_text.specs.Syntax.{Term, Terms, number, name, at, call, unary, binary, none, more, height}
use Rattle.cw_text.specs.Printed.{AreReadableTerms, most_open, tightness, of_left, of_right, IsWellFormed, IsReadableTerm}

-- an expression that can be read where tightness n is wanted, inside `around` brackets
pub record IsReadableAt (n around : ℕ) (e : Term) : Type 0 where
  pub formed : IsWellFormed e
  pub low : height e ≤ 200
  pub shallow : most_open n e + around ≤ 200

-- the bracket that an operator of tightness k needs, or none
bit_looser : (k n t : ℕ) → n ≤ t → cond (nat_lt k n) 1 0 ≤ cond (nat_lt k t) 1 0
bit_looser k n t within = grind (arith, nat_tests)

bit_small : (b : Bool) → cond b 1 0 ≤ 1
bit_small true = omega arith
bit_small false = omega arith

most_open_looser : (n t : ℕ) (e : Term) → n ≤ t → most_open n e ≤ most_open t e
most_open_looser n t (number z) within = omega arith
most_open_looser n t (name w) within = omega arith
most_open_looser n t (at w i) within = omega arith
most_open_looser n t (call w es) within = omega arith
most_open_looser n t (unary o e) within = omega arith
most_open_looser n t (binary o l r) within = omega (arith, bit_looser (tightness o) n t within)

most_open_bracketed : (n : ℕ) (e : Term) → most_open n e ≤ most_open 0 e + 1
most_open_bracketed n (number z) = omega arith
most_open_bracketed n (name w) = omega arith
most_open_bracketed n (at w i) = omega arith
most_open_bracketed n (call w es) = omega arith
most_open_bracketed n (unary o e) = omega arith
most_open_bracketed n (binary o l r) = omega (arith, bit_small (nat_lt (tightness o) n))

pub readable_looser : {around : ℕ} {e : Term} (n t : ℕ) → n ≤ t → IsReadableAt t around e → IsReadableAt n around e
readable_looser {e = e} n t within h = record { formed = h.formed; low = h.low; shallow = omega (arith, most_open_looser n t e within, h.shallow) }

pub readable_bracketed : {around : ℕ} {e : Term} → IsReadableAt 0 (around + 1) e → IsReadableAt 3 around e
readable_bracketed {e = e} h = record { formed = h.formed; low = h.low; shallow = omega (arith, most_open_bracketed 3 e, h.shallow) }

pub readable_index : {around : ℕ} {i : Term} (w : Word) → height (at w i) ≤ 200 → IsReadableAt 0 (around + 1) i → IsReadableAt 3 around (at w i)
readable_index w low h = record { formed = h.formed; low = low; shallow = omega (arith, h.shallow) }

pub readable_call : {around : ℕ} {es : Terms} (w : Word) → height (call w es) ≤ 200 → AreReadableTerms (around + 1) es → IsReadableAt 3 around (call w es)
readable_call w low h = record { formed = h.formed; low = low; shallow = omega (arith, h.shallow) }

pub readable_unary : {around : ℕ} {e : Term} (o : Op) → tightness o ≡ 3 → height (unary o e) ≤ 200 → IsReadableAt 3 (around + 1) e → IsReadableAt 3 around (unary o e)
readable_unary o is low h = record { formed = (is, h.formed); low = low; shallow = omega (arith, h.shallow) }

no_bit : (t : ℕ) → cond (nat_lt t t) 1 0 ≤ 0
no_bit t = rw (le-ltb t t (omega arith)) (omega arith)

readable_operands : {around : ℕ} {e f : Term} (o : Op) → tightness o < 3 → height (binary o e f) ≤ 200 →
    IsReadableAt (of_left o) around e → IsReadableAt (of_right o) around f → IsReadableAt (tightness o) around (binary o e f)
readable_operands o two low a b = record {
  formed = (two, a.formed, b.formed);
  low = low;
  shallow = omega (arith, no_bit (tightness o), a.shallow, b.shallow);
}

pub readable_binary : {around : ℕ} {e f : Term} (o : Op) (t : ℕ) → tightness o ≡ t → t < 3 → height (binary o e f) ≤ 200 →
    IsReadableAt (max 1 t) around e → IsReadableAt (t + 1) around f → IsReadableAt t around (binary o e f)
readable_binary {around} {e} {f} o t is two low =
    subst (λ t. IsReadableAt (max 1 t) around e → IsReadableAt (t + 1) around f → IsReadableAt t around (binary o e f)) is (readable_operands o (omega arith) low)

-- ## Arguments

pub readable_none : {around : ℕ} → around ≤ 200 → AreReadableTerms around none
readable_none room = record { formed = tt; low = omega arith; shallow = omega arith }

pub readable_more : (around : ℕ) (e : Term) (es : Terms) → IsReadableTerm around e → AreReadableTerms around es → AreReadableTerms around (more e es)
readable_more around e es one others = record {
  formed = (one.formed, others.formed);
  low = omega (arith, one.low, others.low);
  shallow = omega (arith, one.shallow, others.shallow);
}

pub whole : {around : ℕ} {e : Term} → IsReadableAt 0 around e → IsReadableTerm around e
whole h = record { formed = h.formed; low = h.low; shallow = h.shallow }
