-- The parts of a core before its first event.
use Rattle.std.proofs.Common.{◌≡◌, ℕ, zero, suc, ◌<◌, List, [], ◌∷◌, map, refl, ap, sym, ◌∙◌, subst, arith, Bool, true, false, cond, Option, Some, None, nat_eq, lit<}
use Rattle.std.specs.Prelude.{ℤ, slice_get}
use Rattle.std.specs.Option.{option_map}
use Rattle.std.proofs.lemmas.Option.{slice_get-map}
use Rattle.cw_tree.specs.AccessStacks.{stamps}
use Rattle.cw_stack.specs.Cells.{CellParts}
use Rattle.cw_core.specs.declared.row.Row.{Row}
use Rattle.cw_core.specs.State.{CoreState, start}
use Rattle.cw_core.specs.Kept.{IsRow, IsHeld, AreParts, leaf_row, fresh_cell}
use Rattle.cw_core.proofs.Events.Kept.{starts}

module _ (first : List ℤ) (room budget : ℕ) (some : 0 < room) where
  abbrev k : CoreState
  k = start first room budget

  root : IsRow k 0 (leaf_row 0 0)
  root = record {
    made = record {
      strand = refl;
      column = λ e. refl;
      elder = λ e. refl;
      halves = λ e. absurd (cc e);
      columns = λ e. absurd (cc e);
      forked = λ e c. absurd (cc e);
      attempt = λ e. absurd (cc e);
    };
    tail = record { started = refl; aborted = refl; tried = λ c. none (nat_eq 0 c) };
    now = record {
      place = λ e. refl;
      waits = λ e. refl;
      finished = refl;
      dead = refl;
      victim = λ e. (λ i v c at w. absurd (cc at));
      quiet = λ e g. refl;
      split = λ e. absurd (cc e);
      joined = refl;
    };
  } where
    none : (b : Bool) → (let n : ℕ = 0 in n) ≡ cond b 0 0
    none true = refl
    none false = refl

  each : (n : ℕ) (r : Row) → slice_get (leaf_row 0 0 ∷ []) n ≡ Some r → IsRow k n r
  each zero r e = let P : Row → Type 0 = λ r. IsRow k 0 r in let q : leaf_row 0 0 ≡ r = cc e in subst P q root
  each (suc n) r e = absurd (cc e)

  held : (cells : List CellParts) → cells ≡ map fresh_cell first → (c : ℕ) (cell : CellParts) → slice_get cells c ≡ Some cell → IsHeld k c cell
  held cells is c cell e = by (slice_get first c) (sym (slice_get-map fresh_cell first c) ∙ ap (λ cs. slice_get cs c) (sym is) ∙ e) where
    by : (o : Option ℤ) → option_map fresh_cell o ≡ Some cell → IsHeld k c cell
    by None g = absurd (cc g)
    by (Some v) g = let P : CellParts → Type 0 = λ x. IsHeld k c x in let q : fresh_cell v ≡ cell = cc g in subst P q (record { whole = refl; entries = λ i e at. absurd (cc at) })

  firsts : (vs : List ℤ) → map (λ c. c.first) (map fresh_cell vs) ≡ vs
  firsts [] = refl
  firsts (v ∷ vs) = ap (λ xs. v ∷ xs) (firsts vs)

  lists : (vs : List ℤ) → map (λ c. stamps c.entries) (map fresh_cell vs) ≡ map (λ v. let us : List ℕ = [] in us) vs
  lists [] = refl
  lists (v ∷ vs) = ap (λ xs. let y : List (List ℕ) = [] ∷ xs in y) (lists vs)

  pub start_parts : (cells : List CellParts) → cells ≡ map fresh_cell first → AreParts k (leaf_row 0 0 ∷ []) [] cells None
  start_parts cells is = record {
    core = starts first room budget some;
    few = lit< tt;
    drawn = omega arith;
    rowed = record { len = refl; each = each };
    askers = λ i c e. absurd (cc e);
    forked = record { count = refl; each = λ i f e. absurd (cc e) };
    held = held cells is;
    firsts = ap (map (λ c. c.first)) is ∙ firsts first;
    lists = ap (map (λ c. stamps c.entries)) is ∙ lists first;
    told = refl;
  }

  pub firsts_are : (cells : List CellParts) → cells ≡ map fresh_cell first → map (λ c. c.first) cells ≡ first
  firsts_are cells is = ap (map (λ c. c.first)) is ∙ firsts first

  pub lists_are : (cells : List CellParts) → cells ≡ map fresh_cell first → map (λ c. stamps c.entries) cells ≡ map (λ v. let us : List ℕ = [] in us) first
  lists_are cells is = ap (map (λ c. stamps c.entries)) is ∙ lists first
