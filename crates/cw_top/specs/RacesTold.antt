-- The text of the races of a run. Every line ends with a newline.
use Rattle.std.specs.Prelude.{◌≡◌, ℕ, List, ◌++◌, codes, length}
use Rattle.std.specs.List.{flat_map}
use Rattle.std.specs.Fmt.{decimal}
use Rattle.cw_code.specs.declared.CellInfo.{CellInfo}
use Rattle.cw_tree.specs.declared.node.Node.{Node}
use Rattle.cw_tree.specs.Nodes.{stamp_of}
use Rattle.cw_race.specs.declared.race.Race.{Race}
use Rattle.cw_race.specs.Races.{AreRaces}
use Rattle.cw_record.specs.declared.record_end.RecordEnd.{RecordEnd}
use Rattle.cw_record.specs.declared.record_end.RecordEnd.TheVariants.{Finished}
use Rattle.cw_report.specs.Report.{cell_text, maker_text, node_there}
use Rattle.cw_report.specs.Results.{end_text, line}

-- an access by its strand and its stamp
abbrev pub access_text : List Node → ℕ → List ℕ
access_text t n = maker_text t (node_there t n) ++ codes "@" ++ decimal (stamp_of t n)

abbrev pub race_line : List CellInfo → List Node → Race → List ℕ
race_line cells t r = line (codes "race " ++ cell_text cells r.cell ++ codes " first " ++ access_text t r.first ++ codes " second " ++ access_text t r.second)

-- a line for each race, their number, and `end`
abbrev pub races_text : List CellInfo → List Node → List Race → List ℕ
races_text cells t races = flat_map (race_line cells t) races ++ line (codes "races " ++ decimal (length races)) ++ line (codes "end")

-- This is a text of the races in this tree, of these cells.
pub record ListsRaces (cells : List CellInfo) (t : List Node) (text : List ℕ) : Type 0 where
  pub races : List Race
  pub are_races : AreRaces t races
  pub is_text : text ≡ races_text cells t races

-- The races of a run that finished; the one line of its end, if it did not finish.
abbrev pub IsRacesText : List CellInfo → List Node → RecordEnd → List ℕ → Type 0
IsRacesText cells t (Finished memory outputs) text = ListsRaces cells t text
IsRacesText cells t e text = text ≡ end_text cells t e
