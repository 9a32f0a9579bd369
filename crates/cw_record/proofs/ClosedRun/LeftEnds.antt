-- The end of a closed run, and what it left where it finished.
use Rattle.std.proofs.Common.{◌≡◌, ◌∙◌, ℕ, Bool, true, false, List, [], Option, Some, None, refl, ap}
use Rattle.std.specs.Prelude.{ℤ}
use Rattle.cw_tree.specs.declared.node.Node.{Node}
use Rattle.cw_tree.specs.declared.conflict.Conflict.{Conflict}
use Rattle.cw_tree.specs.declared.closed.Halt.{Halt}
use Rattle.cw_tree.specs.declared.closed.Halt.TheVariants as halt
use Rattle.cw_record.specs.declared.record_end.RecordEnd.{RecordEnd}
use Rattle.cw_record.specs.declared.record_end.RecordEnd.TheVariants.{Finished, Fault, Budget, Moves}
use Rattle.cw_record.specs.declared.items.OrderItem.{OrderItem}
use Rattle.cw_record.specs.Built.{outputs_left, with_left}
use Rattle.cw_record.specs.ClosedRun.{end_after}
use Rattle.cw_record.specs.Coherent.{outputs_shown, HasOutputs}
use Rattle.cw_record.specs.Items.{items}

-- the items are the same, whatever it left
pub same_items : (t : List Node) (cs : List Conflict) (budget : ℕ) (e : RecordEnd) (memory outputs : List ℤ) → items t cs budget e ≡ items t cs budget (with_left e memory outputs)
same_items t cs budget (Finished m o) memory outputs = refl
same_items t cs budget (Fault x kind) memory outputs = refl
same_items t cs budget (Budget x) memory outputs = refl
same_items t cs budget Moves memory outputs = refl

-- what the items show is left where it finished
end_with_left : (t : List Node) (cs : List Conflict) (budget : ℕ) (h : Option Halt) (spent : Bool) (memory : List ℤ)
    → (let told = end_after h spent [] [] in with_left told memory (outputs_shown t (items t cs budget told)) ≡ end_after h spent memory (outputs_left t cs budget))
end_with_left t cs budget (Some (halt.Fault x kind)) spent memory = refl
end_with_left t cs budget (Some (halt.Budget x)) spent memory = refl
end_with_left t cs budget (Some halt.Memory) spent memory = refl
end_with_left t cs budget None true memory = refl
end_with_left t cs budget None false memory = refl

pub end_is : (t : List Node) (cs : List Conflict) (budget : ℕ) (h : Option Halt) (spent : Bool) (memory : List ℤ) (told : RecordEnd) (is : List OrderItem) → told ≡ end_after h spent [] [] → is ≡ items t cs budget told
    → with_left told memory (outputs_shown t is) ≡ end_after h spent memory (outputs_left t cs budget)
end_is t cs budget h spent memory told is e all =
    ap (λ xs. with_left told memory (outputs_shown t xs)) all
    ∙ ap (λ x. with_left x memory (outputs_shown t (items t cs budget x))) e
    ∙ end_with_left t cs budget h spent memory

-- an end names the outputs that were left
pub has_outputs : (t : List Node) (cs : List Conflict) (budget : ℕ) (h : Option Halt) (spent : Bool) (memory : List ℤ) → HasOutputs t cs budget (end_after h spent memory (outputs_left t cs budget))
has_outputs t cs budget (Some (halt.Fault x kind)) spent memory = tt
has_outputs t cs budget (Some (halt.Budget x)) spent memory = tt
has_outputs t cs budget (Some halt.Memory) spent memory = tt
has_outputs t cs budget None true memory = tt
has_outputs t cs budget None false memory = refl
