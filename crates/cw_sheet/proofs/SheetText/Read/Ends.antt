-- Nodes, conflicts and the end are taken as what they spell.
use Rattle.std.proofs.Common.{◌≡◌, ℕ, suc, ◌^◌, ◌<◌, List, [], ◌∷◌, ◌++◌, codes, length, ℤ, refl, sym, subst, ◌∙◌, append_assoc, arith, All}
use Rattle.std.proofs.lemmas.List.Elements.{recursion_from_All}
use Rattle.std.specs.Fmt.{decimal}
use Rattle.std.specs.List.{AllByRecursion, flat_map}
use Rattle.cw_code.specs.declared.FaultKind.{FaultKind}
use Rattle.cw_code.specs.declared.FaultKind.TheVariants as fault
use Rattle.cw_code.specs.FaultNames.{fault_name}
use Rattle.cw_tree.specs.declared.conflict.Conflict.{Conflict}
use Rattle.cw_tree.specs.declared.node.Node.{Node}
use Rattle.cw_record.specs.declared.record_end.RecordEnd.{RecordEnd}
use Rattle.cw_record.specs.declared.record_end.RecordEnd.TheVariants.{Finished, Fault, Budget, Moves}
use Rattle.cw_sheet.specs.Items.{Place, Taken, ◌into◌, count, exactly, line_done, next_item, number64}
use Rattle.cw_sheet.specs.Laws.{ConflictFits, EndFits, Fits64, IsCountable, IsValue}
use Rattle.cw_sheet.specs.Reading.{conflict_row, conflicts, fault_kinds, fault_named, named_fault, node, nodes, run_end}
use Rattle.cw_sheet.specs.SheetText.{conflict_line, conflicts_part, decimals, end_part, line, node_line, nodes_part, signed_decimals}
use Rattle.cw_sheet.proofs.SheetText.Told.Items.{AllFrom}
use Rattle.cw_sheet.proofs.SheetText.Read.Items.{all_behind_takes, exactly_takes, first_number_takes, number_takes}
use Rattle.cw_sheet.proofs.SheetText.Read.Lines.{number32_takes, number64_takes, values_takes}
use Rattle.cw_sheet.proofs.SheetText.Read.Nodes.{node_takes}
use Rattle.cw_sheet.proofs.SheetText.Told.Nodes.{IsReadable}
use Rattle.cw_sheet.proofs.SheetText.Read.Taking.{Takes, on_line, ends_there, line_spelled, line_takes, spell, then_takes}

-- behind the first word of a line `word COUNT`, and as many lines behind it
counted_takes : {A : Type 0} (t : A → List ℕ) (P : ℕ → A → Type 0) (each : ℕ → Place → Taken A) →
    ((k : ℕ) (x : A) (l : ℕ) (rest : List ℕ) → P k x → Takes (each k (on_line l (t x ++ rest))) x rest) →
    (xs : List A) (l : ℕ) (rest : List ℕ) → IsCountable xs → AllFrom P 0 xs →
    Takes (count (on_line l (spell (decimals (length xs ∷ [])) (10 ∷ (flat_map t xs ++ rest)))) into λ n p. line_done n p into λ n p. exactly n 0 each p) xs rest
counted_takes t P each takes xs l rest few all =
    let lines = flat_map t xs ++ rest in
    then_takes _ _
    (number_takes 100000001 (length xs) l (10 ∷ lines) (omega arith) (omega arith) refl)
    (λ l1. exactly_takes t P each takes xs 0 (suc l1) rest all)

-- a counted part is its line, and its lines
part_spelled : (w : List ℕ) (n : ℕ) (lines rest : List ℕ) → line w (decimals (n ∷ [])) ++ lines ++ rest ≡ w ++ spell (decimals (n ∷ [])) (10 ∷ (lines ++ rest))
part_spelled w n lines rest = append_assoc (line w (decimals (n ∷ []))) lines rest ∙ line_spelled w (decimals (n ∷ [])) (lines ++ rest)

pub nodes_take : (t : List Node) (l : ℕ) (rest : List ℕ) → IsCountable t → AllFrom IsReadable 0 t → Takes (nodes (on_line l (nodes_part t ++ rest))) t rest
nodes_take t l rest few all =
    subst (λ s. Takes (nodes (on_line l s)) t rest) (sym (part_spelled (codes "nodes") (length t) (flat_map node_line t) rest))
    (counted_takes node_line IsReadable node node_takes t l rest few all)

-- ## Conflicts

conflict_takes : (x : Conflict) (l : ℕ) (rest : List ℕ) → ConflictFits x → Takes (conflict_row (on_line l (conflict_line x ++ rest))) x rest
conflict_takes x l rest fit =
    let chain = spell (decimals x.chain) (10 ∷ rest) in
    let five = spell (decimals (x.attempt ∷ x.chain)) (10 ∷ rest) in
    let four = spell (decimals (x.victim ∷ x.attempt ∷ x.chain)) (10 ∷ rest) in
    let three = spell (decimals (x.block ∷ x.victim ∷ x.attempt ∷ x.chain)) (10 ∷ rest) in
    let two = spell (decimals (x.asker ∷ x.block ∷ x.victim ∷ x.attempt ∷ x.chain)) (10 ∷ rest) in
    let one = spell (decimals (x.last ∷ x.asker ∷ x.block ∷ x.victim ∷ x.attempt ∷ x.chain)) (10 ∷ rest) in
    let cell : x.cell < 2 ^ 32 = fit.cell in
    line_takes conflict_row (decimal x.cell) (decimals (x.last ∷ x.asker ∷ x.block ∷ x.victim ∷ x.attempt ∷ x.chain)) l rest
    (then_takes _ _ (first_number_takes (2 ^ 32) x.cell l one fit.cell (omega arith) refl)
    (λ l0. then_takes _ _ (number64_takes x.last l0 two fit.last refl)
    (λ l1. then_takes _ _ (number32_takes x.asker l1 three fit.asker refl)
    (λ l2. then_takes _ _ (number64_takes x.block l2 four fit.block refl)
    (λ l3. then_takes _ _ (number64_takes x.victim l3 five fit.victim refl)
    (λ l4. then_takes _ _ (number32_takes x.attempt l4 chain fit.attempt (ends_there (decimals x.chain) rest))
    (λ l5. then_takes _ _
    (all_behind_takes (λ n. decimal n) Fits64 number64 (λ n l rest small ends. number64_takes n l rest small ends) x.chain l5 rest (recursion_from_All Fits64 x.chain fit.chain))
    (λ l6. record { line = suc l6; is = refl }))))))))

all_conflicts : (k : ℕ) (xs : List Conflict) → AllByRecursion ConflictFits xs → AllFrom (λ _ x. ConflictFits x) k xs
all_conflicts k [] h = tt
all_conflicts k (x ∷ xs) h = (h.0, all_conflicts (suc k) xs h.1)

pub conflicts_take : (xs : List Conflict) (l : ℕ) (rest : List ℕ) → IsCountable xs → All ConflictFits xs → Takes (conflicts (on_line l (conflicts_part xs ++ rest))) xs rest
conflicts_take xs l rest few all =
    subst (λ s. Takes (conflicts (on_line l s)) xs rest) (sym (part_spelled (codes "conflicts") (length xs) (flat_map conflict_line xs) rest))
    (counted_takes conflict_line (λ _ x. ConflictFits x) (λ k q. conflict_row q) (λ k x l rest fit. conflict_takes x l rest fit) xs l rest few
    (all_conflicts 0 xs (recursion_from_All ConflictFits xs all)))

-- ## The end

fault_takes : (s : ℕ) (k : FaultKind) (l : ℕ) (rest : List ℕ) →
    Takes (next_item (on_line l ((32 ∷ fault_name k) ++ (10 ∷ rest))) into λ i p. named_fault (fault_named i fault_kinds) s p) (Fault s k) rest
fault_takes s fault.Zero l rest = record { line = suc l; is = refl }
fault_takes s fault.Overflow l rest = record { line = suc l; is = refl }
fault_takes s fault.Range l rest = record { line = suc l; is = refl }
fault_takes s fault.Depth l rest = record { line = suc l; is = refl }
fault_takes s fault.Fuel l rest = record { line = suc l; is = refl }
fault_takes s fault.Size l rest = record { line = suc l; is = refl }

finished_takes : (memory outputs : List ℤ) (l : ℕ) (rest : List ℕ) → All IsValue memory → All IsValue outputs →
    Takes (run_end (on_line l (end_part (Finished memory outputs) ++ rest))) (Finished memory outputs) rest
finished_takes memory outputs l rest small few =
    let end = Finished memory outputs in
    let m = line (codes "memory") (signed_decimals memory) in
    let o = line (codes "outputs") (signed_decimals outputs) in
    let f = line (codes "finished") [] in
    subst (λ s. Takes (run_end (on_line l s)) end rest) (sym (append_assoc (f ++ m) o rest ∙ append_assoc f m (o ++ rest)))
    (then_takes _ _
    (values_takes (codes "memory") memory (suc l) (o ++ rest) refl (recursion_from_All IsValue memory small))
    (λ l1. then_takes _ _
    (values_takes (codes "outputs") outputs l1 rest refl (recursion_from_All IsValue outputs few))
    (λ l2. record { line = l2; is = refl })))

pub end_takes : (e : RecordEnd) (l : ℕ) (rest : List ℕ) → EndFits e → Takes (run_end (on_line l (end_part e ++ rest))) e rest
end_takes (Finished memory outputs) l rest fit = finished_takes memory outputs l rest fit.0 fit.1
end_takes (Fault s k) l rest fit =
    line_takes run_end (codes "fault") (decimal s ∷ fault_name k ∷ []) l rest
    (then_takes _ _ (number32_takes s l ((32 ∷ fault_name k) ++ (10 ∷ rest)) fit refl) (λ l1. fault_takes s k l1 rest))
end_takes (Budget s) l rest fit =
    line_takes run_end (codes "budget") (decimal s ∷ []) l rest
    (then_takes _ _ (number32_takes s l (10 ∷ rest) fit refl) (λ l1. record { line = suc l1; is = refl }))
end_takes Moves l rest fit = record { line = suc l; is = refl }
