use Rattle.std.proofs.Common.{◌≡◌, map, refl}
use Rattle.cw_text.specs.Syntax.{declaration_of}
use Rattle.cw_code.specs.Rules.{faults}
use Rattle.cw_strand.specs.Compilation.{code_of}
use Rattle.cw_strand.proofs.Unbroken.Functions.{breaks_no_rule}
use Rattle.cw_compile.proofs.Programs.{is_program, none_in}
use Rattle.cw_compile.proofs.compiling.compile.Goals as goal

pub invariant_of-result-clause-whole : goal.invariant_of-result-clause-whole
invariant_of-result-clause-whole c =
    let ds = map declaration_of c.as_slice-items.result.now in
    let declared = c.in_ok-declared.ensures in
    ∣ rw (c.in-Ok.ensures.0, c.in_ok-code.ensures, c.number-main.ensures, c.in_ok-functions.ensures, c.from_vec.ensures, declared.declared.elements, declared.declared.cells) (is_program ds declared.exact) ∣₁

pub unreachable-requires : goal.unreachable-requires
unreachable-requires c =
    let ds = map declaration_of c.as_slice-items.result.now in
    let declared = c.in_ok-declared.ensures in
    let code : c.in_ok-code.code ≡ code_of ds = rw (c.in_ok-code.ensures, c.in_ok-functions.ensures, declared.declared.elements, declared.declared.cells) refl in
    let broken = (rw (c.in-Err-Code.field-0-is, code) at c.in-Err-Code.ensures).broken in
    none_in (faults (code_of ds)) _ (breaks_no_rule ds declared.exact) broken
