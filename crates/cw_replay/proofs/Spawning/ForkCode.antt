-- The code of a source without a `spawn` has no fork.
use Rattle.std.proofs.Common.{◌≡◌, ℕ, zero, suc, Bool, true, false, List, [], ◌∷◌, ◌++◌, Option, Some, None, refl, subst}
use Rattle.std.specs.Prelude.{slice_get}
use Rattle.std.proofs.lemmas.Bool.{or_parts}
use Rattle.cw_text.specs.declared.ast.Word.{Word}
use Rattle.cw_text.specs.Syntax.{Term, number, name, at, call as call_of, unary, binary, Terms, none, more, Statement, declare, assign, assign_at, run, out, choose, repeat, atomic, spawn, sync, cancel, return, Block, empty, first, Declaration, cell, func}
use Rattle.cw_code.specs.declared.CellInfo.{CellInfo}
use Rattle.cw_code.specs.declared.instruction.Instr.{Instr}
use Rattle.cw_code.specs.declared.effects.Effect.{Effect}
use Rattle.cw_code.specs.declared.effects.Effect.TheVariants as effect
use Rattle.cw_code.specs.declared.effects.Operator.{Operator}
use Rattle.cw_code.specs.declared.effects.Operator.TheVariants as op
use Rattle.cw_code.specs.Table.{effect_at}
use Rattle.cw_strand.specs.Names.{cells_of}
use Rattle.cw_strand.specs.Meaning.{cell_of, lifted, joining}
use Rattle.cw_strand.specs.Compilation.{Slots, slot_of, slots_after, slots_with_params, operator_number, lift_code, join_code, reads, writes, loads_at, stores_at, term_code, terms_code, statement_code, block_code, function_code, function_names, instrs_from, code_of}
use Rattle.cw_replay.specs.Spawning.{statement_spawns, block_spawns, any_spawns}

abbrev pub is_forking : Option Effect → Bool
is_forking (Some effect.Fork) = true
is_forking e = false

-- none of these instructions is a fork
abbrev pub NoFork : List Instr → Type 0
NoFork [] = Unit {0}
NoFork (i ∷ is) = (is_forking (effect_at i.op) ≡ false) × NoFork is

pub no_fork_at : (is : List Instr) (p : ℕ) (i : Instr) → NoFork is → slice_get is p ≡ Some i → is_forking (effect_at i.op) ≡ false
no_fork_at [] p i n e = absurd (cc e)
no_fork_at (j ∷ is) zero i n e = let same : j ≡ i = cc in subst (λ (x : Instr). is_forking (effect_at x.op) ≡ false) same n.0
no_fork_at (j ∷ is) (suc p) i n e = no_fork_at is p i n.1 e

both : (is js : List Instr) → NoFork is → NoFork js → NoFork (is ++ js)
both [] js a b = b
both (i ∷ is) js a b = (a.0, both is js a.1 b)

-- ## Expressions

operator_none : (o : Operator) → is_forking (effect_at (operator_number o)) ≡ false
operator_none op.Add = refl
operator_none op.Sub = refl
operator_none op.Mul = refl
operator_none op.Div = refl
operator_none op.Rem = refl
operator_none op.Neg = refl
operator_none op.Not = refl
operator_none op.Eq = refl
operator_none op.Ne = refl
operator_none op.Lt = refl
operator_none op.Le = refl
operator_none op.Gt = refl
operator_none op.Ge = refl

lift_none : (o : Option Operator) → NoFork (lift_code o)
lift_none None = tt
lift_none (Some o) = (operator_none o, tt)

join_none : (o : Option Operator) → is_forking (effect_at (join_code o).op) ≡ false
join_none None = refl
join_none (Some o) = operator_none o

module _ (cells : List CellInfo) (functions : List (List ℕ)) where
  reads_none : (o : Option ℕ) (x : List ℕ) → is_forking (effect_at (reads cells functions o x).op) ≡ false
  reads_none None x = refl
  reads_none (Some n) x = refl

  writes_none : (o : Option ℕ) (x : List ℕ) → is_forking (effect_at (writes cells functions o x).op) ≡ false
  writes_none None x = refl
  writes_none (Some n) x = refl

  loads_none : (o : Option CellInfo) → is_forking (effect_at (loads_at cells functions o).op) ≡ false
  loads_none None = refl
  loads_none (Some c) = refl

  stores_none : (o : Option CellInfo) → is_forking (effect_at (stores_at cells functions o).op) ≡ false
  stores_none None = refl
  stores_none (Some c) = refl

  mutual
    term_none : (g : Slots) (e : Term) → NoFork (term_code cells functions g e)
    term_none g (number n) = (refl, tt)
    term_none g (name w) = (reads_none (slot_of g w.name) w.name, tt)
    term_none g (at w i) = both (term_code cells functions g i) _ (term_none g i) (loads_none (cell_of cells w.name), tt)
    term_none g (call_of w es) = both (terms_code cells functions g es) _ (terms_none g es) (refl, tt)
    term_none g (unary o e) = both (term_code cells functions g e) _ (term_none g e) (lift_none (lifted o))
    term_none g (binary o l r) = both (term_code cells functions g l) _ (term_none g l) (both (term_code cells functions g r) _ (term_none g r) (join_none (joining o), tt))

    terms_none : (g : Slots) (es : Terms) → NoFork (terms_code cells functions g es)
    terms_none g none = tt
    terms_none g (more e es) = both (term_code cells functions g e) _ (term_none g e) (terms_none g es)

  -- ## Statements

  mutual
    statement_none : (g : Slots) (p q : ℕ) (s : Statement) → statement_spawns s ≡ false → NoFork (statement_code cells functions g p q s)
    statement_none g p q (declare w e) h = (refl, both (term_code cells functions g e) _ (term_none g e) (refl, tt))
    statement_none g p q (assign w e) h = (refl, both (term_code cells functions g e) _ (term_none g e) (writes_none (slot_of g w.name) w.name, tt))
    statement_none g p q (assign_at w i e) h = (refl, both (term_code cells functions g i) _ (term_none g i) (both (term_code cells functions g e) _ (term_none g e) (stores_none (cell_of cells w.name), tt)))
    statement_none g p q (run w es) h = (refl, both (terms_code cells functions g es) _ (terms_none g es) (refl, (refl, tt)))
    statement_none g p q (out e) h = (refl, both (term_code cells functions g e) _ (term_none g e) (refl, tt))
    statement_none g p q (choose e a b) h =
        let parts = or_parts (block_spawns a) (block_spawns b) h in
        (refl, both (term_code cells functions g e) _ (term_none g e) (refl, both _ _ (block_none g _ q a parts.0) (refl, block_none g _ q b parts.1)))
    statement_none g p q (repeat e b) h = (refl, both (term_code cells functions g e) _ (term_none g e) (refl, both _ _ (block_none g _ q b h) (refl, tt)))
    statement_none g p q (atomic b) h = (refl, (refl, both _ _ (block_none g _ _ b h) (refl, (refl, tt))))
    statement_none g p q (spawn b) h = absurd (cc h)
    statement_none g p q sync h = (refl, (refl, tt))
    statement_none g p q (cancel l) h = (refl, (refl, (refl, (refl, tt))))
    statement_none g p q (return l e) h = (refl, both (term_code cells functions g e) _ (term_none g e) (refl, (refl, tt)))

    block_none : (g : Slots) (p q : ℕ) (b : Block) → block_spawns b ≡ false → NoFork (block_code cells functions g p q b)
    block_none g p q empty h = tt
    block_none g p q (first s b) h =
        let parts = or_parts (statement_spawns s) (block_spawns b) h in
        both _ _ (statement_none g p q s parts.0) (block_none (slots_after s g) _ q b parts.1)

  -- ## Programs

  function_none : (p : ℕ) (params : List Word) (b : Block) → block_spawns b ≡ false → NoFork (function_code cells functions p params b)
  function_none p params b h = both _ _ (block_none (slots_with_params params []) p 0 b h) (refl, (refl, (refl, tt)))

  instrs_none : (ds : List Declaration) (p : ℕ) → any_spawns ds ≡ false → NoFork (instrs_from cells functions p ds)
  instrs_none [] p h = tt
  instrs_none (cell x l len i ∷ ds) p h = instrs_none ds p h
  instrs_none (func x l ps b ∷ ds) p h =
      let parts = or_parts (block_spawns b) (any_spawns ds) h in
      both _ _ (function_none p ps b parts.0) (instrs_none ds _ parts.1)

pub code_none : (ds : List Declaration) → any_spawns ds ≡ false → NoFork (code_of ds).instrs
code_none ds h = instrs_none (cells_of ds) (function_names ds) ds 0 h
