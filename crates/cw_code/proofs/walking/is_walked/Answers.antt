use Rattle.std.proofs.Common.{subst}
use Rattle.std.specs.Prelude.{Option, List, Vec, IfSome}
use Rattle.std.specs.declared.alloc.Global.{Global}
use Rattle.cw_code.specs.declared.situation.Level.{Level}
use Rattle.cw_code.specs.Rules.{size_of}
use Rattle.cw_code.specs.Walked.{IsWalked, AllLead}
use Rattle.cw_code.proofs.Walked.{none_walked}
use Rattle.cw_code.proofs.walking.is_walked.Goals as goal

pub returns : goal.returns
returns c = λ right.
    let f = c.args.func.now in
    let code = c.args.code.now in
    let ns = c.walk.new.nestings in
    let items = c.in-Some.levels.items in
    let M : Option (Vec Level Global) → Type 0 = λ o. IfSome o (λ t. IsWalked code f ns t.items (size_of f)) in
    let w : IsWalked code f ns items (size_of f) = subst M c.in-Some.is c.in_ok-walk.ensures in
    let lead : AllLead code f items (size_of f) = subst (λ (ls : List Level). AllLead code f ls (size_of f)) c.deref.ensures.value (c.all_lead.ensures right) in
    none_walked code f ns items w lead
