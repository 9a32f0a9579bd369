-- Serves `HasBases`: a table of where logs begin, to which a log is added.
use Rattle.std.proofs.Common.{◌≡◌, ℕ, ◌+◌, List, [], ◌∷◌, ◌++◌, length, append_assoc, append-nil, cond, false, refl, ap, sym, ◌∙◌, subst, arith, Option, Some, None, inl, inr}
use Rattle.std.specs.Prelude.{◌⊎◌, is_some, slice_get, slice_set}
use Rattle.std.proofs.lemmas.Bool.{eq-eqb, ne_eqb, cases_eq}
use Rattle.cw_tree.proofs.NextNodes.Closing.{get_set_other, get_set_same}
use Rattle.cw_log.specs.declared.log.Log.{Log}
use Rattle.cw_course.specs.Closings.{base_of, HasNone, AreApart}
use Rattle.cw_steps.specs.Leaving.{nodes_in, HasBases}
use Rattle.cw_steps.specs.declared.closing.bases.Bases.{Bases}

pub in_more : (ls : List Log) (l : Log) → nodes_in (ls ++ l ∷ []) ≡ nodes_in ls + length l.nodes
in_more [] l = omega arith
in_more (x ∷ ls) l = omega (arith, in_more ls l)

-- a log begins behind those before it, where none of these has its column
base_here : (ls more : List Log) (l : Log) (c : ℕ) → l.column ≡ c → HasNone c ls → base_of (ls ++ l ∷ more) c ≡ nodes_in ls
base_here [] more l c e h = ap (λ b. cond b 0 (length l.nodes + base_of more c)) (eq-eqb l.column c e)
base_here (x ∷ ls) more l c e h = ap (λ b. cond b 0 (length x.nodes + base_of (ls ++ l ∷ more) c)) (ne_eqb x.column c h.0) ∙ ap (λ n. length x.nodes + n) (base_here ls more l c e h.1)

pub none_more : (c : ℕ) (ls : List Log) (l : Log) → HasNone c ls → (l.column ≡ c → ⊥) → HasNone c (ls ++ l ∷ [])
none_more c [] l h ne = (ne, tt)
none_more c (x ∷ ls) l h ne = (h.0, none_more c ls l h.1 ne)

apart_more : (ls : List Log) (l : Log) → AreApart ls → HasNone l.column ls → AreApart (ls ++ l ∷ [])
apart_more [] l h none = (tt, tt)
apart_more (x ∷ ls) l h none = (none_more x.column ls l h.0 (λ e. none.0 (sym e)), apart_more ls l h.1 none.1)

-- ## Tables

module _ (b b' : Bases) (place : ℕ) (ls : List Log) (l : Log) (here : l.column ≡ place) (empty : slice_get b.table.items place ≡ Some None)
    (put : b'.table.items ≡ slice_set b.table.items place (Some b.count)) (count : b'.count ≡ b.count + length l.nodes) (h : HasBases b ls) where
  get_other : (column : ℕ) → (column ≡ place → ⊥) → slice_get b'.table.items column ≡ slice_get b.table.items column
  get_other column ne = ap (λ xs. slice_get xs column) put ∙ get_set_other b.table.items place column (Some b.count) ne

  get_same : (column : ℕ) → column ≡ place → slice_get b'.table.items column ≡ Some (Some b.count)
  get_same column e = ap (slice_get b'.table.items) e ∙ ap (λ xs. slice_get xs place) put ∙ get_set_same b.table.items place None (Some b.count) empty

  found_at : (column base : ℕ) (more : List Log) → slice_get b'.table.items column ≡ Some (Some base) → (column ≡ place) ⊎ (column ≡ place → ⊥) → base_of ((ls ++ l ∷ []) ++ more) column ≡ base
  found_at column base more at (inl e) =
      let same : b.count ≡ base = cc (get_same column e, at) in
      ap (λ xs. base_of xs column) (append_assoc ls (l ∷ []) more) ∙ base_here ls more l column (here ∙ sym e) (h.free column (ap (slice_get b.table.items) e ∙ empty)) ∙ sym h.count ∙ same
  found_at column base more at (inr ne) =
      ap (λ xs. base_of xs column) (append_assoc ls (l ∷ []) more) ∙ h.found column base (sym (get_other column ne) ∙ at) (l ∷ more)

  free_at : (column : ℕ) → slice_get b'.table.items column ≡ Some None → (column ≡ place) ⊎ (column ≡ place → ⊥) → HasNone column (ls ++ l ∷ [])
  free_at column at (inl e) = absurd (never (sym (get_same column e) ∙ at)) where
    never : Some (Some b.count) ≡ Some None → ⊥
    never q = absurd (cc q)
  free_at column at (inr ne) = none_more column ls l (h.free column (sym (get_other column ne) ∙ at)) (λ e. ne (sym e ∙ here))

  pub one_more : HasBases b' (ls ++ l ∷ [])
  one_more = record {
    found = λ column base at more. found_at column base more at (cases_eq column place);
    free = λ column at. free_at column at (cases_eq column place);
    count = count ∙ omega (arith, h.count, in_more ls l);
    apart = apart_more ls l h.apart (h.free l.column (ap (slice_get b.table.items) here ∙ empty));
  }

-- with no more logs behind
pub base_is : (b : Bases) (all : List Log) (column base : ℕ) → HasBases b all → slice_get b.table.items column ≡ Some (Some base) → base_of all column ≡ base
base_is b all column base h at = subst (λ xs. base_of xs column ≡ base) (append-nil all) (h.found column base at [])

pub none_is : {A : Type 0} → (o : Option A) → is_some o ≡ false → o ≡ None
none_is None e = refl
none_is (Some x) e = absurd (cc e)
