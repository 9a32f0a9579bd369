-- A cancel is in the code of a tree exactly where one stands in the tree.
use Rattle.std.proofs.Common.{◌≡◌, ℕ, ◌+◌, Bool, true, false, ◌||◌, List, [], ◌∷◌, ◌++◌, length, Option, Some, None, refl, pos}
use Rattle.std.specs.List.{list_any}
use Rattle.std.proofs.lemmas.List.Folds.{list_any-append}
use Rattle.cw_text.specs.declared.ast.Word.{Word}
use Rattle.cw_text.specs.Cancels.{statement_has_cancel, block_has_cancel, has_cancel}
use Rattle.cw_text.specs.Syntax.{Term, number, name, at, call, unary, binary, Terms, none, more, Statement, declare, assign, assign_at, run, out, choose, repeat, atomic, spawn, sync, cancel, return, Block, empty, first, Declaration, cell, func}
use Rattle.cw_code.specs.declared.CellInfo.{CellInfo}
use Rattle.cw_code.specs.declared.instruction.Instr.{Instr}
use Rattle.cw_code.specs.declared.effects.Operator.{Operator}
use Rattle.cw_code.specs.declared.effects.Operator.TheVariants.{Add as add}
use Rattle.cw_code.specs.Programs.{cancels, is_cancel}
use Rattle.cw_code.specs.Rules.{effect_of}
use Rattle.cw_strand.specs.Meaning.{cell_of, lifted, joining}
use Rattle.cw_strand.specs.Names.{cells_of}
use Rattle.cw_strand.specs.Compilation.{Slots, slot_of, slots_after, slots_with_params, function_names, term_code, terms_code, statement_code, block_code, block_length, function_code, instrs_from, code_of, lift_code, join_code, operator_number, reads, writes, loads_at, stores_at, calls, plain, set, push, show, discard, jump, jump_zero, fork, wait, done, ret}
use Rattle.cw_strand.specs.Compilation as instr

-- ## Instructions one behind the other

abbrev any : List Instr → Bool
any is = list_any (λ i. is_cancel (effect_of i)) is

both : (xs ys : List Instr) (a b : Bool) → any xs ≡ a → any ys ≡ b → any (xs ++ ys) ≡ (a || b)
both xs ys a b g h = rw (list_any-append (λ i. is_cancel (effect_of i)) xs ys, g, h) refl

-- behind instructions without a cancel
behind : (xs ys : List Instr) (b : Bool) → any xs ≡ false → any ys ≡ b → any (xs ++ ys) ≡ b
behind xs ys b g h = both xs ys false b g h

-- before instructions without a cancel
before : (xs ys : List Instr) (b : Bool) → any xs ≡ b → any ys ≡ false → any (xs ++ ys) ≡ b
before xs ys true g h = both xs ys true false g h
before xs ys false g h = both xs ys false false g h

-- ## Single instructions

operator_has_none : (o : Operator) → any (plain (operator_number o) ∷ []) ≡ false
operator_has_none add = refl
operator_has_none o = refl

lift_has_none : (o : Option Operator) → any (lift_code o) ≡ false
lift_has_none None = refl
lift_has_none (Some o) = operator_has_none o

join_has_none : (o : Option Operator) → any (join_code o ∷ []) ≡ false
join_has_none None = refl
join_has_none (Some o) = operator_has_none o

module _ (cells : List CellInfo) (functions : List (List ℕ)) where
  reads_has_none : (o : Option ℕ) (x : List ℕ) → any (reads cells functions o x ∷ []) ≡ false
  reads_has_none None x = refl
  reads_has_none (Some n) x = refl

  writes_has_none : (o : Option ℕ) (x : List ℕ) → any (writes cells functions o x ∷ []) ≡ false
  writes_has_none None x = refl
  writes_has_none (Some n) x = refl

  loads_has_none : (o : Option CellInfo) → any (loads_at cells functions o ∷ []) ≡ false
  loads_has_none None = refl
  loads_has_none (Some c) = refl

  stores_has_none : (o : Option CellInfo) → any (stores_at cells functions o ∷ []) ≡ false
  stores_has_none None = refl
  stores_has_none (Some c) = refl

  -- ## Expressions and statements

  mutual
    term_has_none : (g : Slots) (e : Term) → any (term_code cells functions g e) ≡ false
    term_has_none g (number n) = refl
    term_has_none g (name w) = reads_has_none (slot_of g w.name) w.name
    term_has_none g (at w i) =
        let element = cell_of cells w.name in
        behind (term_code cells functions g i) (loads_at cells functions element ∷ []) false (term_has_none g i) (loads_has_none element)
    term_has_none g (call w es) = behind (terms_code cells functions g es) (calls cells functions w.name ∷ []) false (terms_have_none g es) refl
    term_has_none g (unary o e) = behind (term_code cells functions g e) (lift_code (lifted o)) false (term_has_none g e) (lift_has_none (lifted o))
    term_has_none g (binary o l r) =
        let one = term_code cells functions g l in
        let other = term_code cells functions g r in
        let last = join_code (joining o) ∷ [] in
        behind one (other ++ last) false (term_has_none g l) (behind other last false (term_has_none g r) (join_has_none (joining o)))

    terms_have_none : (g : Slots) (es : Terms) → any (terms_code cells functions g es) ≡ false
    terms_have_none g none = refl
    terms_have_none g (more e es) = behind (term_code cells functions g e) (terms_code cells functions g es) false (term_has_none g e) (terms_have_none g es)

  mutual
    statement_has_its : (g : Slots) (p q : ℕ) (s : Statement) → any (statement_code cells functions g p q s) ≡ statement_has_cancel s
    statement_has_its g p q (declare w e) = behind (term_code cells functions g e) (set (length g) ∷ []) false (term_has_none g e) refl
    statement_has_its g p q (assign w e) =
        let slot = slot_of g w.name in
        behind (term_code cells functions g e) (writes cells functions slot w.name ∷ []) false (term_has_none g e) (writes_has_none slot w.name)
    statement_has_its g p q (assign_at w i e) =
        let index = term_code cells functions g i in
        let value = term_code cells functions g e in
        let element = cell_of cells w.name in
        let last = stores_at cells functions element ∷ [] in
        behind index (value ++ last) false (term_has_none g i) (behind value last false (term_has_none g e) (stores_has_none element))
    statement_has_its g p q (run w es) =
        behind (terms_code cells functions g es) (calls cells functions w.name ∷ discard ∷ []) false (terms_have_none g es) refl
    statement_has_its g p q (out e) = behind (term_code cells functions g e) (show ∷ []) false (term_has_none g e) refl
    statement_has_its g p q (choose e a b) =
        let test = term_code cells functions g e in
        let one = block_code cells functions g (p + 1 + length test + 1) q a in
        let past = p + 1 + length test + 1 + length one in
        let other = block_code cells functions g (past + 1) q b in
        behind test (jump_zero (past + 1) ∷ (one ++ (jump (past + 1 + length other) ∷ other))) (statement_has_cancel (choose e a b)) (term_has_none g e)
        (both one (jump (past + 1 + length other) ∷ other) (block_has_cancel a) (block_has_cancel b) (block_has_its g (p + 1 + length test + 1) q a) (block_has_its g (past + 1) q b))
    statement_has_its g p q (repeat e b) =
        let test = term_code cells functions g e in
        let body = block_code cells functions g (p + 1 + length test + 1) q b in
        behind test (jump_zero (p + 1 + length test + 1 + length body + 1) ∷ (body ++ jump p ∷ [])) (block_has_cancel b) (term_has_none g e)
        (before body (jump p ∷ []) (block_has_cancel b) (block_has_its g (p + 1 + length test + 1) q b) refl)
    statement_has_its g p q (atomic b) =
        let end = p + 1 + 1 + block_length b + 1 in
        before (block_code cells functions g (p + 1 + 1) end b) (wait ∷ instr.end ∷ []) (block_has_cancel b) (block_has_its g (p + 1 + 1) end b) refl
    statement_has_its g p q (spawn b) =
        before (block_code cells functions g (p + 1 + 1) q b) (wait ∷ done ∷ []) (block_has_cancel b) (block_has_its g (p + 1 + 1) q b) refl
    statement_has_its g p q sync = refl
    statement_has_its g p q (cancel l) = refl
    statement_has_its g p q (return l e) = behind (term_code cells functions g e) (wait ∷ ret ∷ []) false (term_has_none g e) refl

    block_has_its : (g : Slots) (p q : ℕ) (b : Block) → any (block_code cells functions g p q b) ≡ block_has_cancel b
    block_has_its g p q empty = refl
    block_has_its g p q (first s b) =
        let here = statement_code cells functions g p q s in
        both here (block_code cells functions (slots_after s g) (p + length here) q b) (statement_has_cancel s) (block_has_cancel b)
        (statement_has_its g p q s) (block_has_its (slots_after s g) (p + length here) q b)

  -- ## Programs

  function_has_its : (p : ℕ) (ps : List Word) (b : Block) → any (function_code cells functions p ps b) ≡ block_has_cancel b
  function_has_its p ps b =
      let g = slots_with_params ps [] in
      before (block_code cells functions g p 0 b) (wait ∷ push (pos 0) ∷ ret ∷ []) (block_has_cancel b) (block_has_its g p 0 b) refl

  functions_have_theirs : (p : ℕ) (ds : List Declaration) → any (instrs_from cells functions p ds) ≡ has_cancel ds
  functions_have_theirs p [] = refl
  functions_have_theirs p (cell x l len i ∷ ds) = functions_have_theirs p ds
  functions_have_theirs p (func x l ps b ∷ ds) =
      let here = function_code cells functions p ps b in
      both here (instrs_from cells functions (p + length here) ds) (block_has_cancel b) (has_cancel ds)
      (function_has_its p ps b) (functions_have_theirs (p + length here) ds)

pub code_has_its_cancels : (ds : List Declaration) → cancels (code_of ds) ≡ has_cancel ds
code_has_its_cancels ds = functions_have_theirs (cells_of ds) (function_names ds) 0 ds
