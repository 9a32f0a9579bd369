-- The naming rules ask a scope for nothing but what each name stands for in it.
use Rattle.std.proofs.Common.{◌≡◌, ℕ, ◌+◌, List, [], ◌∷◌, ◌++◌, length, map, cond, Bool, true, false, Option, Some, refl, ap, ◌∙◌}
use Rattle.std.specs.Option.{option_or, option_map}
use Rattle.cw_text.specs.declared.ast.Word.{Word}
use Rattle.std.specs.Str.{bytes_eq}
use Rattle.cw_text.specs.Syntax.{Term, number, name, at, call, unary, binary, Terms, none, more, Statement, declare, assign, assign_at, run, out, choose, repeat, atomic, spawn, sync, cancel, return, Block, empty, first, Declaration, cell, func}
use Rattle.cw_strand.specs.declared.naming.Around.{Around}
use Rattle.cw_strand.specs.declared.naming.Around.TheVariants as around
use Rattle.cw_strand.specs.Names.{Thing, Scope, find, a_local, cell_thing, a_function, used, in_term, in_terms, scope_after, in_statement, in_block, in_params, scope_with_params, elements, in_items, in_functions}
use Rattle.cw_compile.specs.declared.naming.visible.Visible.{Visible}
use Rattle.cw_compile.specs.Named.{named}
use Rattle.cw_compile.specs.NamingRules.Scopes.{IsSame, thing_of}
use Rattle.cw_compile.specs.NamingRules.Visible.{visible_in}
use Rattle.cw_compile.proofs.Declarations.{find-named}

-- ## Two scopes in which each name stands for the same

pub same_trans : {g h k : Scope} → IsSame g h → IsSame h k → IsSame g k
same_trans a b = record { finds = λ n. a.finds n ∙ b.finds n }

same_cons : {g h : Scope} (x : List ℕ × Thing) → IsSame g h → IsSame (x ∷ g) (x ∷ h)
same_cons x same = record { finds = λ n. ap (λ o. cond (bytes_eq n x.0) (Some x.1) o) (same.finds n) }

-- one name, before what is found in two scopes
found_or : (b : Bool) (t : Thing) (o p : Option Thing) → cond b (Some t) (option_or o p) ≡ option_or (cond b (Some t) o) p
found_or true t o p = refl
found_or false t o p = refl

-- a name is looked for in the first scope, and then in the other
pub find-append : (n : List ℕ) (g h : Scope) → find n (g ++ h) ≡ option_or (find n g) (find n h)
find-append n [] h = refl
find-append n (x ∷ g) h = rw (find-append n g h) (found_or (bytes_eq n x.0) x.1 (find n g) (find n h))

-- a name that is looked for in a place: among the locals, and then the items
pub find-visible : (v : Visible) (n : List ℕ) → find n (visible_in v) ≡ option_or (option_map thing_of (named v.locals n)) (find n v.items.now)
find-visible v n = rw (find-append n (map (λ x. (x.0, thing_of x.1)) v.locals) v.items.now, find-named v.locals n) refl

pub same_append : {g h : Scope} (k : Scope) → IsSame g h → IsSame (g ++ k) (h ++ k)
same_append {g} {h} k same = record { finds = λ n. rw (find-append n g k, find-append n h k, same.finds n) refl }

-- ## The first fault is the same

mutual
  in_term_same : {g h : Scope} → IsSame g h → (t : Term) → in_term g t ≡ in_term h t
  in_term_same same (number n) = refl
  in_term_same same (name w) = ap (λ o. used o w.line) (same.finds w.name)
  in_term_same {g} {h} same (at w i) = rw (same.finds w.name, in_term_same same i) refl
  in_term_same {g} {h} same (call w es) = rw (same.finds w.name, in_terms_same same es) refl
  in_term_same same (unary op e) = in_term_same same e
  in_term_same {g} {h} same (binary op l r) = rw (in_term_same same l, in_term_same same r) refl

  in_terms_same : {g h : Scope} → IsSame g h → (es : Terms) → in_terms g es ≡ in_terms h es
  in_terms_same same none = refl
  in_terms_same same (more e es) = rw (in_term_same same e, in_terms_same same es) refl

scope_after_same : {g h : Scope} → IsSame g h → (s : Statement) → IsSame (scope_after s g) (scope_after s h)
scope_after_same same (declare w e) = same_cons (w.name, a_local) same
scope_after_same same _ = same

mutual
  in_statement_same : {g h : Scope} → IsSame g h → (i : Around) (s : Statement) → in_statement g i s ≡ in_statement h i s
  in_statement_same same i (declare w e) = rw (same.finds w.name, in_term_same same e) refl
  in_statement_same same i (assign w e) = rw (same.finds w.name, in_term_same same e) refl
  in_statement_same same i (assign_at w a e) = rw (same.finds w.name, in_term_same same a, in_term_same same e) refl
  in_statement_same same i (run w es) = rw (same.finds w.name, in_terms_same same es) refl
  in_statement_same same i (out e) = in_term_same same e
  in_statement_same same i (choose e a b) = rw (in_term_same same e, in_block_same same i a, in_block_same same i b) refl
  in_statement_same same i (repeat e b) = rw (in_term_same same e, in_block_same same i b) refl
  in_statement_same same i (atomic b) = in_block_same same around.Atomic b
  in_statement_same same i (spawn b) = in_block_same same around.Spawn b
  in_statement_same same i sync = refl
  in_statement_same same i (cancel l) = refl
  in_statement_same same i (return l e) = rw (in_term_same same e) refl

  in_block_same : {g h : Scope} → IsSame g h → (i : Around) (b : Block) → in_block g i b ≡ in_block h i b
  in_block_same same i empty = refl
  in_block_same same i (first s b) = rw (in_statement_same same i s, in_block_same (scope_after_same same s) i b) refl

in_params_same : {g h : Scope} → IsSame g h → (ws : List Word) → in_params g ws ≡ in_params h ws
in_params_same same [] = refl
in_params_same same (w ∷ ws) = rw (same.finds w.name, in_params_same (same_cons (w.name, a_local) same) ws) refl

with_params_same : {g h : Scope} → IsSame g h → (ws : List Word) → IsSame (scope_with_params g ws) (scope_with_params h ws)
with_params_same same [] = same
with_params_same same (w ∷ ws) = with_params_same (same_cons (w.name, a_local) same) ws

pub in_items_same : {g h : Scope} → IsSame g h → (n : ℕ) (ds : List Declaration) → in_items g n ds ≡ in_items h n ds
in_items_same same n [] = refl
in_items_same same n (cell x l len i ∷ ds) = rw (same.finds x, in_items_same (same_cons (x, cell_thing len) same) (n + elements len) ds) refl
in_items_same same n (func x l ps b ∷ ds) = rw (same.finds x, in_items_same (same_cons (x, a_function (length ps)) same) n ds) refl

pub in_functions_same : {g h : Scope} → IsSame g h → (ds : List Declaration) → in_functions g ds ≡ in_functions h ds
in_functions_same same [] = refl
in_functions_same same (cell x l len i ∷ ds) = in_functions_same same ds
in_functions_same same (func x l ps b ∷ ds) = rw (in_params_same same ps, in_block_same (with_params_same same ps) around.Neither b, in_functions_same same ds) refl
