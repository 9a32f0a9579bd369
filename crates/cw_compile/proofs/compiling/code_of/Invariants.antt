use Rattle.std.proofs.Common.{◌≡◌, ◌++◌, length, drop, map}
use Rattle.cw_text.specs.Syntax.{declaration_of}
use Rattle.cw_strand.specs.Compilation.{funcs_from, instrs_from}
use Rattle.cw_compile.proofs.compiling.code_of.Given as goal

abbrev pub invariant-loop-item : goal.invariant-loop-item
invariant-loop-item l =
    let left = map declaration_of (drop l.item-index l.items) in
    record {
      elements : l.emitter.elements ≡ l.initial.emitter.elements;
      functions : l.emitter.functions ≡ l.initial.emitter.functions;
      instrs : l.emitter.code ++ instrs_from l.emitter.elements l.emitter.functions (length l.emitter.code) left ≡ instrs_from l.emitter.elements l.emitter.functions 0 (map declaration_of l.items);
      funcs : l.funcs.items ++ funcs_from l.emitter.elements l.emitter.functions (length l.emitter.code) left ≡ funcs_from l.emitter.elements l.emitter.functions 0 (map declaration_of l.items);
    }
