-- How long the code of a block is.
use Rattle.std.proofs.Common.{◌≡◌, ℕ, ◌+◌, List, [], ◌∷◌, ◌++◌, length, refl, arith, length-append}
use Rattle.cw_text.specs.Syntax.{Term, number, name, at, call, unary, binary, Terms, none, more, Statement, declare, assign, assign_at, run, out, choose, repeat, atomic, spawn, sync, cancel, return, Block, empty, first}
use Rattle.cw_code.specs.declared.CellInfo.{CellInfo}
use Rattle.cw_strand.specs.Meaning.{cell_of, lifted, joining}
use Rattle.cw_strand.specs.Compilation.{Slots, slots_after, term_code, terms_code, statement_code, block_code, term_length, terms_length, statement_length, block_length, lift_code, join_code, loads_at, stores_at, calls, writes, slot_of, set, show, discard, jump, jump_zero, wait, done, ret}
use Rattle.cw_strand.specs.Compilation as instr

module _ (cells : List CellInfo) (functions : List (List ℕ)) where
  mutual
    term_long : (g : Slots) (e : Term) → length (term_code cells functions g e) ≡ term_length e
    term_long g (number n) = refl
    term_long g (name w) = refl
    term_long g (at w i) = omega (arith, length-append (term_code cells functions g i) (loads_at cells functions (cell_of cells w.name) ∷ []), term_long g i)
    term_long g (call w es) = omega (arith, length-append (terms_code cells functions g es) (calls cells functions w.name ∷ []), terms_long g es)
    term_long g (unary o e) = omega (arith, length-append (term_code cells functions g e) (lift_code (lifted o)), term_long g e)
    term_long g (binary o l r) =
        omega (arith, length-append (term_code cells functions g l) (term_code cells functions g r ++ join_code (joining o) ∷ []), length-append (term_code cells functions g r) (join_code (joining o) ∷ []), term_long g l, term_long g r)

    terms_long : (g : Slots) (es : Terms) → length (terms_code cells functions g es) ≡ terms_length es
    terms_long g none = refl
    terms_long g (more e es) = omega (arith, length-append (term_code cells functions g e) (terms_code cells functions g es), term_long g e, terms_long g es)

  mutual
    statement_long : (g : Slots) (p q : ℕ) (s : Statement) → length (statement_code cells functions g p q s) ≡ statement_length s
    statement_long g p q (declare w e) = omega (arith, length-append (term_code cells functions g e) (set (length g) ∷ []), term_long g e)
    statement_long g p q (assign w e) = omega (arith, length-append (term_code cells functions g e) (writes cells functions (slot_of g w.name) w.name ∷ []), term_long g e)
    statement_long g p q (assign_at w i e) =
        omega (arith, length-append (term_code cells functions g i) (term_code cells functions g e ++ stores_at cells functions (cell_of cells w.name) ∷ []), length-append (term_code cells functions g e) (stores_at cells functions (cell_of cells w.name) ∷ []), term_long g i, term_long g e)
    statement_long g p q (run w es) = omega (arith, length-append (terms_code cells functions g es) (calls cells functions w.name ∷ discard ∷ []), terms_long g es)
    statement_long g p q (out e) = omega (arith, length-append (term_code cells functions g e) (show ∷ []), term_long g e)
    statement_long g p q (choose e a b) =
        let test = term_code cells functions g e in
        let one = block_code cells functions g (p + 1 + length test + 1) q a in
        let past = p + 1 + length test + 1 + length one in
        let other = block_code cells functions g (past + 1) q b in
        omega (arith, length-append test (jump_zero (past + 1) ∷ (one ++ (jump (past + 1 + length other) ∷ other))), length-append one (jump (past + 1 + length other) ∷ other), term_long g e, block_long g (p + 1 + length test + 1) q a, block_long g (past + 1) q b)
    statement_long g p q (repeat e b) =
        let test = term_code cells functions g e in
        let body = block_code cells functions g (p + 1 + length test + 1) q b in
        omega (arith, length-append test (jump_zero (p + 1 + length test + 1 + length body + 1) ∷ (body ++ jump p ∷ [])), length-append body (jump p ∷ []), term_long g e, block_long g (p + 1 + length test + 1) q b)
    statement_long g p q (atomic b) =
        let end = p + 1 + 1 + block_length b + 1 in
        omega (arith, length-append (block_code cells functions g (p + 1 + 1) end b) (wait ∷ instr.end ∷ []), block_long g (p + 1 + 1) end b)
    statement_long g p q (spawn b) = omega (arith, length-append (block_code cells functions g (p + 1 + 1) q b) (wait ∷ done ∷ []), block_long g (p + 1 + 1) q b)
    statement_long g p q sync = refl
    statement_long g p q (cancel l) = refl
    statement_long g p q (return l e) = omega (arith, length-append (term_code cells functions g e) (wait ∷ ret ∷ []), term_long g e)

    pub block_long : (g : Slots) (p q : ℕ) (b : Block) → length (block_code cells functions g p q b) ≡ block_length b
    block_long g p q empty = refl
    block_long g p q (first s b) =
        let here = statement_code cells functions g p q s in
        let later = block_code cells functions (slots_after s g) (p + length here) q b in
        omega (arith, length-append here later, statement_long g p q s, block_long (slots_after s g) (p + length here) q b)
