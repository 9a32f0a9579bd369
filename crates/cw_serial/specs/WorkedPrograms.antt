-- Worked runs of the machine, over the code of small programs.
use Rattle.std.specs.Prelude.{ℕ, ℤ, zero, suc, ◌≡◌, List, [], ◌∷◌, codes, pos, replicate, Option, Some, option_map}
use Rattle.std.specs.Option.{option_and_then}
use Rattle.cw_code.specs.declared.Back.{Back}
use Rattle.cw_code.specs.declared.FaultKind.TheVariants.{Overflow}
use Rattle.cw_strand.specs.Names.{cells_of, first_memory}
use Rattle.cw_strand.specs.declared.want.Want.{Want}
use Rattle.cw_strand.specs.declared.want.Want.TheVariants.{Load, Store, End, Cancel}
use Rattle.cw_strand.specs.Strands.{Strands}
use Rattle.cw_strand.specs.Worked.{tree, newer_tree, within, back}
use Rattle.cw_strand.specs.Laws.{compiled}
use Rattle.cw_tree.specs.declared.picks.Name.{Name}
use Rattle.cw_serial.specs.declared.ends.SerialEnd.{SerialEnd}
use Rattle.cw_serial.specs.declared.ends.SerialEnd.TheVariants as last
use Rattle.cw_serial.specs.StrandTree.{at}
use Rattle.cw_serial.specs.Wants.{given_up}
use Rattle.cw_serial.specs.Machine.{Machine, initial, pick, serial_end}
use Rattle.cw_serial.specs.TableInMemory.{root, left_name, right_name}

-- ## The strand of main alone

abbrev pub ending : List ℕ → List Name → List ℕ → ℕ → SerialEnd
ending text names list name =
    let ds = tree text in
    serial_end (compiled ds [] (within 9 9)) (first_memory (cells_of ds)) (record { names = names; list = list; last = name })

-- one cell, to which one is added before it is output
abbrev pub counts : List ℕ
counts = codes "cell c; fn main() { c = c + 1; out c; }"

abbrev pub Ends : Type 0
Ends =
    (ending counts (root ∷ []) (0 ∷ 0 ∷ 0 ∷ 0 ∷ []) 0 ≡ last.Finished (pos 1 ∷ []) (pos 1 ∷ []))
    × (ending counts (root ∷ []) (0 ∷ 0 ∷ []) 0 ≡ last.At 0)
    × (ending counts (root ∷ []) (0 ∷ 0 ∷ 0 ∷ 0 ∷ 0 ∷ []) 0 ≡ last.Stuck 4)
    × (ending counts (root ∷ []) (0 ∷ 1 ∷ 0 ∷ []) 0 ≡ last.Stuck 1)
    × (ending counts [] (0 ∷ []) 0 ≡ last.Stuck 0)
    × (ending counts (root ∷ []) (0 ∷ 0 ∷ []) 7 ≡ last.Stuck 2)
    × (ending (codes "fn main() { out 9223372036854775807 + 1; }") (root ∷ []) [] 0 ≡ last.Fault 0 Overflow)
    × (ending (codes "cell d = 7; fn main() {}") [] [] 3 ≡ last.Finished (pos 7 ∷ []) [])

-- ## Two strands in a block

-- one block, in which each of two strands adds one to a cell
abbrev pub both : List ℕ → ℕ → SerialEnd
both list name =
    let names = root ∷ left_name 0 1 ∷ right_name 0 1 ∷ [] in
    ending (codes "cell c; fn main() { atomic { spawn { c = c + 1; } c = c + 1; } }") names list name

-- a lost update, no lost update, the end of the block before those of its strands, and the right strand at its want
abbrev pub StrandEnds : Type 0
StrandEnds =
    (both (0 ∷ 1 ∷ 2 ∷ 1 ∷ 2 ∷ 0 ∷ []) 0 ≡ last.Finished (pos 1 ∷ []) [])
    × (both (0 ∷ 1 ∷ 1 ∷ 2 ∷ 2 ∷ 0 ∷ []) 0 ≡ last.Finished (pos 2 ∷ []) [])
    × (both (0 ∷ 1 ∷ 0 ∷ []) 0 ≡ last.Stuck 2)
    × (both (0 ∷ 1 ∷ 1 ∷ []) 2 ≡ last.At 2)

-- ## Blocks that are given up

-- the same in language 2, within greater limits
abbrev pub newer : List ℕ → List Name → List ℕ → ℕ → SerialEnd
newer text names list name =
    let ds = newer_tree text in
    serial_end (compiled ds [] (within 29 19)) (first_memory (cells_of ds)) (record { names = names; list = list; last = name })

-- by n picks of main
abbrev pub alone : List ℕ → ℕ → SerialEnd
alone text n = newer text (root ∷ []) (replicate n 0) 0

-- a block in a block, and one over two cells
abbrev pub nested : List ℕ
nested = codes "cell c; cell d; fn main() { atomic { c = 1; atomic { c = 2; cancel; } out c; } }"

abbrev pub elements : List ℕ
elements = codes "cell a[3] = 4; cell b; fn main() { atomic { b = 1; a[2] = 7; a[0] = a[2]; a[2] = 8; let x = a[1]; cancel; } }"

-- What was output stays, and so do locals, except those of the block. Nothing behind the cancel is done.
abbrev pub CancelEnds : Type 0
CancelEnds =
    (alone (codes "cell c = 5; fn main() { atomic { c = 9; out c; cancel; out 1; } out c; }") 9 ≡ last.Finished (pos 5 ∷ []) (pos 9 ∷ pos 5 ∷ []))
    × (alone (codes "cell c; cell d; fn main() { let x = 3; atomic { let y = 1; x = x + y; c = 7; if x { let z = 9; x = z; cancel; } x = 0; } out x; let y = 2; out y; }") 7 ≡ last.Finished (pos 0 ∷ pos 0 ∷ []) (pos 9 ∷ pos 2 ∷ []))
    × (alone (codes "cell c; cell d; fn main() { let i = 0; atomic { while 1 { i = i + 1; c = i; if i == 3 { cancel; } } } out i; }") 8 ≡ last.Finished (pos 0 ∷ pos 0 ∷ []) (pos 3 ∷ []))
    × (alone nested 10 ≡ last.Finished (pos 1 ∷ pos 0 ∷ []) (pos 1 ∷ []))
    × (alone elements 12 ≡ last.Finished (pos 4 ∷ pos 4 ∷ pos 4 ∷ pos 0 ∷ []) [])
    × (newer (codes "cell c; cell d; fn main() { atomic { spawn { c = 1; } c = 2; cancel; } }") (root ∷ left_name 0 1 ∷ right_name 0 1 ∷ []) (0 ∷ 1 ∷ 2 ∷ 0 ∷ 0 ∷ 0 ∷ []) 0 ≡ last.Finished (pos 0 ∷ pos 0 ∷ []) [])

module _ {A : Type 0} (s : Strands A) (memory : List ℤ) where
  -- the machine after this number of picks of main
  abbrev pub picked : ℕ → Option (Machine A)
  picked zero = Some (initial s memory)
  picked (suc n) = option_and_then (λ m. pick s m []) (picked n)

  -- what its innermost begun block puts back if it is given up, and what main wants
  abbrev pub shown : ℕ → Option (List Back × Option Want)
  shown n = option_map (λ m. (given_up m.since, option_map s.want (at s m.strands []))) (picked n)

abbrev pub after : List ℕ → ℕ → Option (List Back × Option Want)
after text n = let ds = newer_tree text in shown (compiled ds [] (within 29 19)) (first_memory (cells_of ds)) n

-- Each element that was written since the begin is put back, by rising number, with what it held there. A block that
-- only reads puts nothing back.
abbrev pub CancelLists : Type 0
CancelLists =
    (after nested 4 ≡ Some (back 0 (pos 1) ∷ [], Some Cancel))
    × (after nested 7 ≡ Some (back 0 (pos 0) ∷ [], Some (Load 0)))
    × (after elements 7 ≡ Some (back 0 (pos 4) ∷ back 2 (pos 4) ∷ back 3 (pos 0) ∷ [], Some Cancel))
    × (after elements 8 ≡ Some (back 0 (pos 4) ∷ back 2 (pos 4) ∷ back 3 (pos 0) ∷ [], Some (Store 0 (pos 4))))
    × (after elements 10 ≡ Some (back 0 (pos 4) ∷ back 2 (pos 4) ∷ back 3 (pos 0) ∷ [], Some (Store 3 (pos 0))))
    × (after (codes "cell c; cell d; fn main() { d = 1; atomic { let x = c; cancel; } }") 3 ≡ Some ([], Some Cancel))
    × (after (codes "cell c; cell d; fn main() { d = 1; atomic { let x = c; cancel; } }") 4 ≡ Some ([], Some End))
