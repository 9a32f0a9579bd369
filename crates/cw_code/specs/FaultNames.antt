-- The names of faults, as the text of a result and a record sheet have them.
use Rattle.std.specs.Prelude.{ℕ, List, codes}
use Rattle.cw_code.specs.declared.FaultKind.{FaultKind}
use Rattle.cw_code.specs.declared.FaultKind.TheVariants as fault

abbrev pub fault_name : FaultKind → List ℕ
fault_name fault.Zero = codes "Zero"
fault_name fault.Overflow = codes "Overflow"
fault_name fault.Range = codes "Range"
fault_name fault.Depth = codes "Depth"
fault_name fault.Fuel = codes "Fuel"
fault_name fault.Size = codes "Size"
