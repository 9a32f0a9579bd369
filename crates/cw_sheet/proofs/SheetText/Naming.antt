-- Whether names are in order does not depend on lines.
use Rattle.std.proofs.Common.{◌≡◌, ℕ, suc, ◌+◌, Bool, true, false, cond, nat_lt, List, [], ◌∷◌, codes, length, map, Option, Some, None, is_none, refl, ap, sym, subst, ◌∙◌}
use Rattle.std.proofs.lemmas.List.{length-map}
use Rattle.std.specs.Str.{bytes_eq}
use Rattle.cw_text.specs.declared.ast.Word.{Word}
use Rattle.cw_text.specs.Syntax.{Term, Terms, number, name, at, call, unary, binary, none, more, Statement, Block, empty, first, Declaration, declare, assign, assign_at, run, out, choose, repeat, atomic, spawn, sync, cancel, return, cell, func}
use Rattle.cw_text.specs.WithoutLines.{word_without_line, term_without_lines, terms_without_lines, statement_without_lines, block_without_lines, tree_without_lines}
use Rattle.cw_strand.specs.declared.naming.NameKind.{NameKind}
use Rattle.cw_strand.specs.declared.naming.NameKind.TheVariants as kind
use Rattle.cw_strand.specs.declared.naming.Around.{Around}
use Rattle.cw_strand.specs.declared.naming.Around.TheVariants as around
use Rattle.cw_strand.specs.Names.{Thing, a_local, an_array, a_function, Scope, find, Fault, fault, ◌then◌, used, indexed, fault_of_call, declared_new, returned_from, cancelled_in, count_of, in_term, in_terms, scope_after, in_statement, in_block, in_params, scope_with_params, elements, cell_thing, globals, in_items, in_functions, main_from, without_main, naming_fault}

-- both are faults, or neither
record Alike (f g : Fault) : Type 0 where
  is : is_none f ≡ is_none g

itself : (f : Fault) → Alike f f
itself f = record { is = refl }

both_then : (f g h k : Fault) → is_none f ≡ is_none h → is_none g ≡ is_none k → is_none (f then g) ≡ is_none (h then k)
both_then None g None k e d = d
both_then None g (Some y) k e d = cc
both_then (Some x) g None k e d = cc
both_then (Some x) g (Some y) k e d = refl

then_alike : {f g h k : Fault} → Alike f h → Alike g k → Alike (f then g) (h then k)
then_alike {f} {g} {h} {k} a b = record { is = both_then f g h k a.is b.is }

-- ## Single names

if_alike : (b : Bool) (k : NameKind) (l m : ℕ) → is_none (cond b (fault k l) None) ≡ is_none (cond b (fault k m) None)
if_alike true k l m = refl
if_alike false k l m = refl

unless_alike : (b : Bool) (k : NameKind) (l m : ℕ) → is_none (cond b None (fault k l)) ≡ is_none (cond b None (fault k m))
unless_alike true k l m = refl
unless_alike false k l m = refl

used_alike : (o : Option Thing) (l m : ℕ) → is_none (used o l) ≡ is_none (used o m)
used_alike None l m = refl
used_alike (Some a_local) l m = refl
used_alike (Some t) l m = refl

indexed_alike : (o : Option Thing) (l m : ℕ) → is_none (indexed o l) ≡ is_none (indexed o m)
indexed_alike None l m = refl
indexed_alike (Some an_array) l m = refl
indexed_alike (Some t) l m = refl

call_alike : (o : Option Thing) (n l m : ℕ) → is_none (fault_of_call o n l) ≡ is_none (fault_of_call o n m)
call_alike None n l m = refl
call_alike (Some (a_function k)) n l m = unless_alike _ kind.WrongCount l m
call_alike (Some t) n l m = refl

declared_alike : (o : Option Thing) (l m : ℕ) → is_none (declared_new o l) ≡ is_none (declared_new o m)
declared_alike None l m = refl
declared_alike (Some t) l m = refl

returned_alike : (a : Around) (l m : ℕ) → is_none (returned_from a l) ≡ is_none (returned_from a m)
returned_alike around.Neither l m = refl
returned_alike a l m = refl

cancelled_alike : (a : Around) (l m : ℕ) → is_none (cancelled_in a l) ≡ is_none (cancelled_in a m)
cancelled_alike around.Atomic l m = refl
cancelled_alike a l m = refl

-- ## Expressions

same_count : (es : Terms) → count_of (terms_without_lines es) ≡ count_of es
same_count none = refl
same_count (more e es) = ap suc (same_count es)

mutual
  term_alike : (g : Scope) (e : Term) → Alike (in_term g (term_without_lines e)) (in_term g e)
  term_alike g (number n) = itself None
  term_alike g (name w) = record { is = used_alike (find w.name g) 1 w.line }
  term_alike g (at w i) = then_alike (record { is = indexed_alike (find w.name g) 1 w.line }) (term_alike g i)
  term_alike g (call w es) =
      then_alike (record { is = ap (λ n. is_none (fault_of_call (find w.name g) n 1)) (same_count es) ∙ call_alike (find w.name g) (count_of es) 1 w.line }) (terms_alike g es)
  term_alike g (unary o e) = term_alike g e
  term_alike g (binary o l r) = then_alike (term_alike g l) (term_alike g r)

  terms_alike : (g : Scope) (es : Terms) → Alike (in_terms g (terms_without_lines es)) (in_terms g es)
  terms_alike g none = itself None
  terms_alike g (more e es) = then_alike (term_alike g e) (terms_alike g es)

-- ## Statements

same_scope : (s : Statement) (g : Scope) → scope_after (statement_without_lines s) g ≡ scope_after s g
same_scope (declare w e) g = refl
same_scope s g = refl

mutual
  statement_alike : (g : Scope) (i : Around) (s : Statement) → Alike (in_statement g i (statement_without_lines s)) (in_statement g i s)
  statement_alike g i (declare w e) = then_alike (record { is = declared_alike (find w.name g) 1 w.line }) (term_alike g e)
  statement_alike g i (assign w e) = then_alike (record { is = used_alike (find w.name g) 1 w.line }) (term_alike g e)
  statement_alike g i (assign_at w a e) = then_alike (record { is = indexed_alike (find w.name g) 1 w.line }) (then_alike (term_alike g a) (term_alike g e))
  statement_alike g i (run w es) =
      then_alike (record { is = ap (λ n. is_none (fault_of_call (find w.name g) n 1)) (same_count es) ∙ call_alike (find w.name g) (count_of es) 1 w.line }) (terms_alike g es)
  statement_alike g i (out e) = term_alike g e
  statement_alike g i (choose e a b) = then_alike (term_alike g e) (then_alike (block_alike g i a) (block_alike g i b))
  statement_alike g i (repeat e b) = then_alike (term_alike g e) (block_alike g i b)
  statement_alike g i (atomic b) = block_alike g around.Atomic b
  statement_alike g i (spawn b) = block_alike g around.Spawn b
  statement_alike g i sync = itself None
  statement_alike g i (cancel l) = record { is = cancelled_alike i 1 l }
  statement_alike g i (return l e) = then_alike (record { is = returned_alike i 1 l }) (term_alike g e)

  block_alike : (g : Scope) (i : Around) (b : Block) → Alike (in_block g i (block_without_lines b)) (in_block g i b)
  block_alike g i empty = itself None
  block_alike g i (first s b) =
      then_alike (statement_alike g i s)
      (subst (λ h. Alike (in_block h i (block_without_lines b)) (in_block (scope_after s g) i b)) (sym (same_scope s g)) (block_alike (scope_after s g) i b))

-- ## Items

params_alike : (g : Scope) (ws : List Word) → Alike (in_params g (map word_without_line ws)) (in_params g ws)
params_alike g [] = itself None
params_alike g (w ∷ ws) = then_alike (record { is = declared_alike (find w.name g) 1 w.line }) (params_alike ((w.name, a_local) ∷ g) ws)

same_params : (g : Scope) (ws : List Word) → scope_with_params g (map word_without_line ws) ≡ scope_with_params g ws
same_params g [] = refl
same_params g (w ∷ ws) = same_params ((w.name, a_local) ∷ g) ws

same_length : (ws : List Word) → length (map word_without_line ws) ≡ length ws
same_length ws = length-map ws word_without_line

same_globals : (ds : List Declaration) → globals (tree_without_lines ds) ≡ globals ds
same_globals [] = refl
same_globals (cell n l len z ∷ ds) = ap (λ g. (n, cell_thing len) ∷ g) (same_globals ds)
same_globals (func n l ps b ∷ ds) =
    ap (λ k. (n, a_function k) ∷ globals (tree_without_lines ds)) (same_length ps) ∙ ap (λ g. (n, a_function (length ps)) ∷ g) (same_globals ds)

items_alike : (g : Scope) (n : ℕ) (ds : List Declaration) → Alike (in_items g n (tree_without_lines ds)) (in_items g n ds)
items_alike g n [] = itself None
items_alike g n (cell x l len z ∷ ds) =
    then_alike (record { is = declared_alike (find x g) 1 l })
    (then_alike (record { is = if_alike (nat_lt 65536 (n + elements len)) kind.TooManyCells 1 l }) (items_alike ((x, cell_thing len) ∷ g) (n + elements len) ds))
items_alike g n (func x l ps b ∷ ds) =
    then_alike (record { is = declared_alike (find x g) 1 l })
    (subst (λ k. Alike (in_items ((x, a_function k) ∷ g) n (tree_without_lines ds)) (in_items ((x, a_function (length ps)) ∷ g) n ds)) (sym (same_length ps))
    (items_alike ((x, a_function (length ps)) ∷ g) n ds))

functions_alike : (g : Scope) (ds : List Declaration) → Alike (in_functions g (tree_without_lines ds)) (in_functions g ds)
functions_alike g [] = itself None
functions_alike g (cell x l len z ∷ ds) = functions_alike g ds
functions_alike g (func x l ps b ∷ ds) =
    then_alike (params_alike g ps)
    (then_alike
    (subst (λ h. Alike (in_block h around.Neither (block_without_lines b)) (in_block (scope_with_params g ps) around.Neither b)) (sym (same_params g ps))
    (block_alike (scope_with_params g ps) around.Neither b))
    (functions_alike g ds))

same_main : (n : ℕ) (ds : List Declaration) → main_from n (tree_without_lines ds) ≡ main_from n ds
same_main n [] = refl
same_main n (cell x l len z ∷ ds) = same_main (suc n) ds
same_main n (func x l ps b ∷ ds) = ap (λ o. cond (bytes_eq x (codes "main")) (Some n) o) (same_main (suc n) ds)

naming_alike : (ds : List Declaration) → Alike (naming_fault (tree_without_lines ds)) (naming_fault ds)
naming_alike ds =
    then_alike (items_alike [] 0 ds)
    (then_alike
    (subst (λ g. Alike (in_functions g (tree_without_lines ds)) (in_functions (globals ds) ds)) (sym (same_globals ds)) (functions_alike (globals ds) ds))
    (record { is = ap (λ o. is_none (without_main o)) (same_main 0 ds) }))

pub named_alike : (ds es : List Declaration) → tree_without_lines ds ≡ tree_without_lines es → is_none (naming_fault ds) ≡ is_none (naming_fault es)
named_alike ds es same = sym (naming_alike ds).is ∙ ap (λ fs. is_none (naming_fault fs)) same ∙ (naming_alike es).is
