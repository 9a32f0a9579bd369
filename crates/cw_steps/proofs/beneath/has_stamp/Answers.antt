use Rattle.std.proofs.Common.{rules, pos, false}
use Rattle.std.proofs.lemmas.List.Sorted.{answers_always}
use Rattle.cw_tree.specs.declared.access.Entry.{Entry}
use Rattle.cw_tree.specs.AccessStacks.{stamps}
use Rattle.cw_stack.proofs.Searching.{found}
use Rattle.cw_steps.proofs.Walked.{tells_had}
use Rattle.cw_steps.proofs.beneath.has_stamp.Goals as goal

no_entry : Entry
no_entry = record { mark = record { strand = 0; stamp = 0 }; wrote = false; value = pos 0; old = pos 0 }

pub returns : goal.returns
returns c =
    let facts = c.binary_search_by_key.ensures in
    let by_stamp = facts.position (λ e. e.mark.stamp) (answers_always _ _ _ (λ f a r g called. search rules)) in
    rw c.is_ok.ensures.value (tells_had _ (stamps c.args.entries.now) c.args.stamp (found c.args.entries.now c.requires c.args.stamp no_entry _ facts.bound by_stamp))
