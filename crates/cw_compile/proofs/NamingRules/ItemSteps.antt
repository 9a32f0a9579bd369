-- What one more item adds to what is declared.
use Rattle.std.proofs.Common.{◌≡◌, ℕ, ℤ, ◌+◌, List, [], ◌∷◌, ◌++◌, length, cond, if◌then◌else◌, nat_lt, Bool, true, false, Option, Some, None, refl, append_assoc, arith}
use Rattle.std.specs.Option.{option_or}
use Rattle.std.specs.Cmp.Lexicographic.{bytes_decides}
use Rattle.cw_text.specs.declared.ast.Word.{Word}
use Rattle.std.specs.Str.{bytes_eq}
use Rattle.cw_text.specs.Syntax.{Block, Declaration, cell, func}
use Rattle.cw_strand.specs.declared.naming.NameKind.TheVariants.{TooManyCells}
use Rattle.cw_strand.specs.Names.{Thing, Scope, find, cell_thing, a_function, fault, declared_new, elements, globals}
use Rattle.cw_compile.specs.declared.naming.items.Declared.{Declared}
use Rattle.cw_compile.specs.NamingRules.Scopes.{IsSame}
use Rattle.cw_compile.specs.NamingRules.Items.{IsSameWith}
use Rattle.cw_compile.proofs.NamingRules.SameNames.{same_trans, find-append, same_append, in_items_same}

-- a name that may be declared stood for nothing
none_from_declared_new : (o : Option Thing) (line : ℕ) → declared_new o line ≡ None → o ≡ None
none_from_declared_new None line none = refl
none_from_declared_new (Some t) line none = cc

-- it does not matter whether a thing comes first or last, where nothing hides it
found_later : (b : Bool) (t : Thing) (o p : Option Thing) → (b ≡ true → o ≡ None) → cond b (Some t) (option_or o p) ≡ option_or o (cond b (Some t) p)
found_later true t o p none = rw (none refl) refl
found_later false t o p none = refl

-- it does not matter whether a name comes before others or after them, where it is none of these
same_moved : (x : List ℕ) (t : Thing) (g h : Scope) → find x g ≡ None → IsSame ((x, t) ∷ (g ++ h)) (g ++ ((x, t) ∷ h))
same_moved x t g h none = record {
  finds = λ n. rw (find-append n g h, find-append n g ((x, t) ∷ h)) (found_later (bytes_eq n x) t (find n g) (find n h) (hidden n));
} where
  hidden : (n : List ℕ) → bytes_eq n x ≡ true → find n g ≡ None
  hidden n is = rw ((bytes_decides n x).0 is) none

-- one more name is known, and so it is no longer among those that come
names_next : {g h : Scope} (x : List ℕ) (line : ℕ) (t : Thing) (left : Scope) → declared_new (find x g) line ≡ None → IsSame h ((x, t) ∷ g) → IsSame (h ++ left) (g ++ ((x, t) ∷ left))
names_next {g} x line t left none same = same_trans (same_append left same) (same_moved x t g left (none_from_declared_new _ line none))

module _ {old new : Declared} (x : List ℕ) (line : ℕ) where
  -- a cell whose name is new, and with which there are not too many elements
  pub adds_cell : (len : ℕ) (init : ℤ) (ds : List Declaration) → declared_new (find x old.names) line ≡ None → (if nat_lt 65536 (old.elements + elements len) then fault TooManyCells line else None) ≡ None → IsSame new.names ((x, cell_thing len) ∷ old.names) → new.elements ≡ old.elements + elements len → new.cells.items ≡ old.cells.items ++ (record { name = x; len = len; base = old.elements; init = init } ∷ []) → IsSameWith (cell x line len init ∷ ds) old ds new
  adds_cell len init ds none room same size cells = record {
    faults = rw (none, room, size, in_items_same same (old.elements + elements len) ds) refl;
    names = names_next x line (cell_thing len) (globals ds) none same;
    cells = rw (cells, size) (append_assoc old.cells.items _ _);
    elements = rw size (omega arith);
  }

  -- a function whose name is new
  pub adds_function : (params : List Word) (body : Block) (ds : List Declaration) → declared_new (find x old.names) line ≡ None → IsSame new.names ((x, a_function (length params)) ∷ old.names) → new.elements ≡ old.elements → new.cells.items ≡ old.cells.items → IsSameWith (func x line params body ∷ ds) old ds new
  adds_function params body ds none same size cells = record {
    faults = rw (none, size, in_items_same same old.elements ds) refl;
    names = names_next x line (a_function (length params)) (globals ds) none same;
    cells = rw (cells, size) refl;
    elements = rw size refl;
  }
