-- Serves `Holds`: a new table keeps the rule.
use Rattle.std.proofs.Common.{◌≡◌, ℕ, ℤ, zero, suc, ◌+◌, ◌^◌, ◌<◌, ◌≤◌, ◌∙◌, List, [], ◌∷◌, ◌++◌, length, map, arith, ap, sym, refl, subst, true, take, get_or}
use Rattle.std.specs.Prelude.{slice_index, replicate, All, pos}
use Rattle.std.proofs.lemmas.List.{take_more, map-append}
use Rattle.cw_stack.specs.Cells.{CellParts}
use Rattle.std.proofs.lemmas.List.Elements.{All-nil}
use mathlib.Core.Option.{some, some-injective, some-ne-none}
use lib.ListN.{get_elem?}
use Rattle.atomic_table.specs.Table.{opening}
use Rattle.cw_trace.specs.Traces.{Traces}
use Rattle.cw_trace.specs.Columns.{first_tier, used}
use Rattle.cw_steps.specs.declared.view.Key.{Key}
use Rattle.cw_steps.specs.declared.view.Slot.{Slot}
use Rattle.cw_steps.specs.declared.view.Slot.TheVariants as slot
use Rattle.cw_steps.specs.declared.view.Turn.{Turn}
use Rattle.cw_steps.specs.declared.view.View.{View}
use Rattle.cw_tree.specs.declared.access.Entry.{Entry}
use Rattle.cw_steps.specs.Places.{all_words, column_words}
use Rattle.cw_steps.specs.Views.{cells_of, fresh_slot, root_view, IsTierOf}
use Rattle.cw_steps.specs.Rule.{Holds, IsCellHome}

zeros : (n i : ℕ) → slice_index (replicate n 0) i ≡ 0
zeros zero i = refl
zeros (suc n) zero = refl
zeros (suc n) (suc i) = zeros n i

many : (n : ℕ) → length {A = ℕ} (replicate n 0) ≡ n
many zero = refl
many (suc n) = ap suc (many n)

at_cell : (vs : List ℤ) (y : Slot) (most n : ℕ) → n < length vs → IsCellHome most (map some (map fresh_slot vs ++ y ∷ [])) n
at_cell [] y most n low = absurd (omega arith)
at_cell (v ∷ vs) y most zero low = (fresh_slot v, refl, All-nil (λ (e : Entry). e.mark.stamp ≤ most))
at_cell (v ∷ vs) y most (suc n) low = at_cell vs y most n (omega arith)

at_tier : (vs : List ℤ) (y : Slot) → get_elem? (map some (map fresh_slot vs ++ y ∷ [])) (length vs) ≡ some (some y)
at_tier [] y = refl
at_tier (v ∷ vs) y = at_tier vs y

so_many : (vs : List ℤ) (y : Slot) → length (map some (map fresh_slot vs ++ y ∷ [])) ≡ suc (length vs)
so_many [] y = refl
so_many (v ∷ vs) y = ap suc (so_many vs y)

the_root : (P : View → Type 0) (k : ℕ) (v : View) → get_elem? (root_view ∷ []) k ≡ some v → P root_view → P v
the_root P zero v at p = subst P (some-injective root_view v at) p
the_root P (suc k) v at p = absurd (some-ne-none v (sym at))

-- the words up to the first of a column are all 0
pub opens : (key : Key) (words : List ℕ) (y : Slot) → length words ≡ all_words (cells_of key) key.columns → ((k : ℕ) → k < column_words (cells_of key) key.columns → slice_index words k ≡ 0)
    → 0 < key.columns → key.columns < 2 ^ 31 → IsTierOf key.columns 1 y → Holds key (opening words (map fresh_slot key.first ++ y ∷ []) root_view)
opens key words y long low some_columns few tier = record {
  long = long;
  deep = so_many key.first y;
  small = few;
  used = 1;
  clock = record {
    room = omega (arith, low 0 (omega arith));
    seen = λ k v at. the_root (λ u. u.seen ≤ slice_index words 0) k v at (omega arith);
    owned = omega arith;
  };
  turns = record {
    bits = λ n p. omega (arith, low (suc n) (omega (arith, p)));
    one = λ n p. sym (low (suc n) (omega (arith, p)));
  };
  cells = record { home = λ n p free. at_cell key.first y (slice_index words 0) n p };
  tiers = record {
    few = omega arith;
    home = λ free. (y, at_tier key.first y, tier);
    held = λ k v at. the_root (λ u. All (λ t. t.slot ≡ cells_of key → t.used ≡ 1) u.turns) k v at (All-nil (λ (t : Turn). t.slot ≡ cells_of key → t.used ≡ 1));
    stands = λ k v at. the_root (Rattle.cw_steps.specs.Rule.StandsIn 1) k v at (record { column = omega arith; gap = omega arith; coming = tt; outer = All-nil (Rattle.cw_steps.specs.Rule.WaitsIn 1) });
  };
  stops = record {
    word = λ p. absurd (omega (arith, p, low (cells_of key + 2) (omega arith)));
    told = λ k v at t. absurd (the_root (λ u. u.told ≡ true → ⊥) k v at (λ e. cc e) t);
  };
}

-- the root's row was written over words that were all 0
pub opens_as : (key : Key) (cells : ℕ) (blank words : List ℕ) (slots : List Slot) (x : Traces) → cells ≡ cells_of key
    → blank ≡ replicate (all_words cells key.columns) 0 → length words ≡ length blank → ((k : ℕ) → k < column_words cells key.columns → slice_index words k ≡ slice_index blank k)
    → slots ≡ map fresh_slot key.first ++ slot.Tier x ∷ []
    → 0 < key.columns → key.columns < 2 ^ 31 → x.columns ≡ first_tier key.columns → Holds key (opening words slots root_view)
opens_as key cells blank words slots x ec eb long low es some_columns few first =
    subst (λ ys. Holds key (opening words ys root_view)) (sym es)
    (opens key words (slot.Tier x) (long ∙ ap length eb ∙ many (all_words cells key.columns) ∙ ap (λ n. all_words n key.columns) ec)
    (λ k p. low k (omega (arith, p, ec)) ∙ ap (λ (ws : List ℕ). slice_index ws k) eb ∙ zeros (all_words cells key.columns) k)
    some_columns few (ap (λ c. c.room) first, ap used first))

-- ## Cells with their first values

abbrev make : ℤ → List Entry → ℕ → ℕ → CellParts
make v es n r = record { first = v; entries = es; cleaned = n; room = r }

pub slot_is : (x : CellParts) (v : ℤ) → x.first ≡ v → x.entries ≡ [] → x.cleaned ≡ 0 → x.room ≡ 0 → slot.Cell x ≡ fresh_slot v
slot_is x v a b c d = ap slot.Cell (ap (λ f. make f x.entries x.cleaned x.room) a ∙ ap (λ es. make v es x.cleaned x.room) b ∙ ap (λ n. make v [] n x.room) c ∙ ap (λ r. make v [] 0 r) d)

pub slots_more : (xs : List ℤ) (i : ℕ) → i < length xs → (slots : List Slot) (x : Slot) → slots ≡ map fresh_slot (take i xs) → x ≡ fresh_slot (get_or xs i (pos 0)) → slots ++ x ∷ [] ≡ map fresh_slot (take (i + 1) xs)
slots_more xs i h slots x e f =
    ap (λ cs. cs ++ x ∷ []) e ∙ ap (λ y. map fresh_slot (take i xs) ++ y ∷ []) f ∙ sym (map-append fresh_slot (take i xs) (get_or xs i (pos 0) ∷ [])) ∙ sym (ap (map fresh_slot) (take_more xs i (pos 0) h))
