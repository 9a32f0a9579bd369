-- What was emitted so far, and what each part of a program adds to it.
use Rattle.std.specs.Prelude.{◌≡◌, ℕ, ◌+◌, List, ◌++◌, length, max}
use Rattle.cw_code.specs.declared.instruction.Instr.{Instr}
use Rattle.cw_text.specs.Syntax.{Terms, Statement, declare, choose, repeat, atomic, spawn, Block, empty, first}
use Rattle.cw_strand.specs.Compilation.{Slots, slots_after, terms_code, statement_code, block_code, visible_after}
use Rattle.cw_compile.specs.declared.emitter.Emitter.{Emitter}

-- the most locals that are visible directly behind a `let`, if n are visible before
abbrev mutual
  pub peak_in : ℕ → Statement → ℕ
  peak_in n (declare w e) = n + 1
  peak_in n (choose e a b) = max (peak n a) (peak n b)
  peak_in n (repeat e b) = peak n b
  peak_in n (atomic b) = peak n b
  peak_in n (spawn b) = peak n b
  peak_in n s = 0

  pub peak : ℕ → Block → ℕ
  peak n empty = 0
  peak n (first s b) = max (peak_in n s) (peak (visible_after s n) b)

abbrev pub with_code : Emitter → List Instr → Emitter
with_code e is = record e { code = e.code ++ is }

-- adds the code of the arguments of a call
abbrev pub with_terms : Emitter → Terms → Emitter
with_terms e es = with_code e (terms_code e.elements e.functions e.slots es)

-- adds a statement; the innermost atomic block of its function has its `end` at the place `ending`
abbrev pub with_statement_code : Emitter → (ending : ℕ) → Statement → Emitter
with_statement_code e q s = record e {
  code = e.code ++ statement_code e.elements e.functions e.slots (length e.code) q s;
  slots = slots_after s e.slots;
  most = max e.most (peak_in (length e.slots) s);
}

-- what a block declares is visible to its end
abbrev pub with_block : Emitter → (ending : ℕ) → Block → Emitter
with_block e q b = record e {
  code = e.code ++ block_code e.elements e.functions e.slots (length e.code) q b;
  most = max e.most (peak (length e.slots) b);
}

-- `rest` is left of the block after its start was emitted: it still adds what the block adds.
pub record IsLeft (ending : ℕ) (body : Block) (start : Emitter) (rest : Block) (e : Emitter) : Type 0 where
  pub elements : e.elements ≡ start.elements
  pub functions : e.functions ≡ start.functions
  pub code : (with_block e ending rest).code ≡ (with_block start ending body).code
  pub most : (with_block e ending rest).most ≡ (with_block start ending body).most
  pub slots : (inner : Slots) × (e.slots ≡ inner ++ start.slots)
