-- What an audit answers of a sheet: that all its parts hold, or the number of the first that does not.
use Rattle.std.specs.Prelude.{◌≡◌, ℕ, ◌<◌, length}
use Rattle.cw_tree.specs.Shape.{AreStamps}
use Rattle.cw_tree.specs.Journals.{JournalsEnded}
use Rattle.cw_tree.specs.Cancels.{AreCancels}
use Rattle.cw_record.specs.Order.{order_of}
use Rattle.cw_record.specs.Replay.{Replays}
use Rattle.cw_sheet.specs.Contents.{Contents}
use Rattle.cw_audit.specs.declared.findings.Audit.{Audit}
use Rattle.cw_audit.specs.declared.findings.Audit.TheVariants.{Sound, Broken}
use Rattle.cw_audit.specs.Parts.{first_values, strands_of_sheet, AccessesHold, RefusalsHold, StrandsHold, EndHolds}

-- the parts, in the order in which they are looked at
pub data Part : Type 0 where
  stamps : Part
  accesses : Part
  blocks : Part
  refusals : Part
  strands : Part
  ending : Part
  cancels : Part
  order : Part

abbrev pub part_number : Part → ℕ
part_number stamps = 1
part_number accesses = 2
part_number blocks = 3
part_number refusals = 4
part_number strands = 5
part_number ending = 6
part_number cancels = 7
part_number order = 8

-- a part of a sheet holds
abbrev pub PartHolds : Contents → Part → Type 0
-- stamps and end stamps differ, and rise along the tree
PartHolds c stamps = AreStamps c.tree
PartHolds c accesses = AccessesHold c.tree (first_values c)
-- the blocks around a live access and not around the next one of its cell were committed before that
PartHolds c blocks = JournalsEnded c.tree (length (first_values c))
PartHolds c refusals = RefusalsHold c.tree c.conflicts c.limits.aborts c.end
PartHolds c strands = StrandsHold c
PartHolds c ending = EndHolds (strands_of_sheet c) c.tree (first_values c) c.end
-- each live cancel has the list that its block puts back
PartHolds c cancels = AreCancels c.tree (first_values c)
-- one memory does what the sheet says, in the sheet's order, and ends as it ends
PartHolds c order = Replays (strands_of_sheet c) (first_values c) c.limits.aborts c.tree c.conflicts (order_of c.tree c.conflicts c.limits.aborts c.end) c.end

-- all parts before part n hold
abbrev pub HoldBefore : Contents → (n : ℕ) → Type 0
HoldBefore c n = (p : Part) → part_number p < n → PartHolds c p

-- part n does not hold
abbrev pub IsBroken : Contents → (n : ℕ) → Type 0
IsBroken c n = (p : Part) × (part_number p ≡ n) × (PartHolds c p → ⊥)

-- what an audit answers
abbrev pub IsAudit : Contents → Audit → Type 0
IsAudit c Sound = (p : Part) → PartHolds c p
IsAudit c (Broken n) = HoldBefore c n × IsBroken c n
