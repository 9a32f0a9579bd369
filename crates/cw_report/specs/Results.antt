-- The text of a run's result. Every line ends with a newline.
use Rattle.std.specs.Prelude.{ℕ, zero, suc, ◌+◌, ℤ, List, [], ◌∷◌, ◌++◌, codes}
use Rattle.std.specs.List.{flat_map, range_with_len}
use Rattle.std.specs.Fmt.{decimal, signed_decimal}
use Rattle.cw_code.specs.declared.CellInfo.{CellInfo}
use Rattle.cw_code.specs.FaultNames.{fault_name}
use Rattle.cw_record.specs.declared.record_end.RecordEnd.{RecordEnd}
use Rattle.cw_record.specs.declared.record_end.RecordEnd.TheVariants.{Finished, Fault, Budget, Moves}
use Rattle.cw_record.specs.declared.record.Record.{Record}
use Rattle.cw_job.specs.Memory.{value_at}
use Rattle.cw_tree.specs.declared.node.Node.{Node}
use Rattle.cw_tree.specs.Names.{name_of, name_text}

abbrev pub line : List ℕ → List ℕ
line text = text ++ 10 ∷ []

abbrev pub output_line : ℤ → List ℕ
output_line v = line (codes "out " ++ signed_decimal v)

-- `NAME = V` for a plain cell
abbrev pub plain_line : CellInfo → List ℤ → List ℕ
plain_line c memory = line (c.name ++ codes " = " ++ signed_decimal (value_at memory c.base))

-- `NAME[I] = V` for an element of an array
abbrev pub element_line : CellInfo → List ℤ → ℕ → List ℕ
element_line c memory i = line (c.name ++ codes "[" ++ decimal i ++ codes "] = " ++ signed_decimal (value_at memory (c.base + i)))

abbrev pub cell_lines_by : ℕ → CellInfo → List ℤ → List ℕ
cell_lines_by zero c memory = plain_line c memory
cell_lines_by (suc n) c memory = flat_map (element_line c memory) (range_with_len 0 (suc n))

abbrev pub cell_lines : CellInfo → List ℤ → List ℕ
cell_lines c memory = cell_lines_by c.len c memory

-- one line for each output, in order; then each cell, in the order of declaration; then `end`
abbrev pub finished_text : List CellInfo → (memory outputs : List ℤ) → List ℕ
finished_text cells memory outputs = flat_map output_line outputs ++ flat_map (λ c. cell_lines c memory) cells ++ line (codes "end")

-- the name of a strand of a tree: `0` for the root, `0.1l` and `0.1r` for the two strands of its first fork
abbrev pub strand_text : List Node → ℕ → List ℕ
strand_text t strand = name_text (name_of t strand)

abbrev pub end_text : List CellInfo → List Node → RecordEnd → List ℕ
end_text cells t (Finished memory outputs) = finished_text cells memory outputs
end_text cells t (Fault strand kind) = line (codes "fault " ++ fault_name kind ++ codes " in " ++ strand_text t strand)
end_text cells t (Budget strand) = line (codes "budget spent in " ++ strand_text t strand)
end_text cells t Moves = line (codes "moves spent")

-- the text of a run
abbrev pub run_text : Record → List ℕ
run_text r = end_text r.program.cells r.tree r.end
