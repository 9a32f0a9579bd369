-- Small pieces of code: which rules they break, and their text.
use Rattle.std.specs.Prelude.{ℕ, ◌≡◌, List, [], ◌∷◌, ◌++◌, length, pos, negsuc, codes}
use Rattle.std.specs.Fmt.{decimal, signed_decimal}
use Rattle.cw_code.specs.declared.instruction.Instr.{Instr}
use Rattle.cw_code.specs.declared.instruction.Code.{Code}
use Rattle.cw_code.specs.declared.instruction.CodeKind.{CodeKind}
use Rattle.cw_code.specs.declared.instruction.CodeFault.{CodeFault}
use Rattle.cw_code.specs.declared.instruction.CodeKind.TheVariants.{Underflow, Uneven, JumpOut, NoEnd}
use Rattle.cw_code.specs.Table.{rows}
use Rattle.cw_code.specs.Mnemonics.{plain, push, jump, jump_zero, fork, ret, discard, begin, end, done, tick, cancel}
use Rattle.cw_code.specs.Printed.{lines_from}
use Rattle.cw_code.specs.Rules.{faults}

abbrev pub add : Instr
add = plain 8

-- code of one function, without parameters, locals and cells
abbrev pub code : List Instr → Code
code is = record { cells = 0; funcs = record { params = 0; locals = 0; start = 0; end = length is } ∷ []; instrs = is }

abbrev pub fault : CodeKind → ℕ → CodeFault
fault k p = record { kind = k; at = p }

pub record Verdicts : Type 0 where
  pub table : length rows ≡ 33
  pub no_operands : faults (code (add ∷ ret ∷ [])) ≡ fault Underflow 0 ∷ []
  pub sound : faults (code (push (pos 1) ∷ ret ∷ [])) ≡ []
  pub no_target : faults (code (jump 9 ∷ ret ∷ [])) ≡ fault JumpOut 0 ∷ []
  pub no_end : faults (code (push (pos 1) ∷ [])) ≡ fault NoEnd 0 ∷ []
  pub two_heights : faults (code (push (pos 1) ∷ jump_zero 3 ∷ push (pos 5) ∷ push (pos 6) ∷ ret ∷ [])) ≡ fault Uneven 3 ∷ []
  pub to_itself : faults (code (jump 0 ∷ [])) ≡ fault JumpOut 0 ∷ []
  pub to_a_tick : faults (code (tick ∷ jump 0 ∷ [])) ≡ []
  pub no_index : faults (code (record { op = 5; a = pos 0; b = 4 } ∷ ret ∷ [])) ≡ fault JumpOut 0 ∷ fault Underflow 0 ∷ []
  -- A tick is entered only by a backward jump. Then a loop in which the stack grows.
  pub from_behind : faults (code (jump 3 ∷ tick ∷ ret ∷ push (pos 0) ∷ jump 1 ∷ [])) ≡ []
  pub growing : faults (code (tick ∷ push (pos 3) ∷ jump 0 ∷ [])) ≡ fault Uneven 0 ∷ []
  -- a fork to the place behind it
  pub to_the_next : faults (code (fork 1 ∷ done ∷ [])) ≡ fault Uneven 1 ∷ fault Uneven 1 ∷ []
  -- blocks that are cancelled
  pub outside : faults (code (cancel ∷ push (pos 0) ∷ ret ∷ [])) ≡ fault Uneven 0 ∷ []
  pub given_up : faults (code (begin ∷ cancel ∷ end ∷ push (pos 0) ∷ ret ∷ [])) ≡ []
  pub operand_left : faults (code (begin ∷ push (pos 1) ∷ cancel ∷ discard ∷ end ∷ push (pos 0) ∷ ret ∷ [])) ≡ fault Uneven 2 ∷ []
  pub in_fork : faults (code (begin ∷ fork 4 ∷ cancel ∷ done ∷ end ∷ push (pos 0) ∷ ret ∷ [])) ≡ fault Uneven 2 ∷ []
  pub block_in_fork : faults (code (fork 5 ∷ begin ∷ cancel ∷ end ∷ done ∷ push (pos 0) ∷ ret ∷ [])) ≡ []
  -- inside a forked part the block around it is ended
  pub from_under : faults (code (begin ∷ fork 6 ∷ end ∷ begin ∷ cancel ∷ done ∷ end ∷ push (pos 0) ∷ ret ∷ [])) ≡ []
  pub nothing_behind : faults (code (begin ∷ cancel ∷ [])) ≡ fault NoEnd 1 ∷ []
  -- as many blocks and forked parts, in another order
  pub other_order : faults (code (push (pos 1) ∷ jump_zero 5 ∷ begin ∷ fork 9 ∷ jump 7 ∷ fork 10 ∷ begin ∷ end ∷ done ∷ end ∷ push (pos 0) ∷ ret ∷ [])) ≡ fault Uneven 7 ∷ []
  pub no_function : faults (record { cells = 0; funcs = []; instrs = tick ∷ [] }) ≡ fault JumpOut 0 ∷ []
  -- there is no such instruction
  pub unknown : faults (code (plain 34 ∷ ret ∷ [])) ≡ fault Underflow 0 ∷ fault Underflow 1 ∷ []

pub record Texts : Type 0 where
  pub one : lines_from 0 (push (pos 1) ∷ ret ∷ []) ≡ decimal 0 ++ (codes " push " ++ (signed_decimal (pos 1) ++ 10 ∷ [])) ++ (decimal 1 ++ codes " ret\n")
  pub two : lines_from 7 (record { op = 5; a = negsuc 2; b = 4 } ∷ []) ≡ decimal 7 ++ (codes " loadx " ++ (signed_decimal (negsuc 2) ++ (codes " " ++ (decimal 4 ++ 10 ∷ []))))
