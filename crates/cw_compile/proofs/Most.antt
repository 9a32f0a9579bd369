-- How many locals a function has.
use Rattle.std.proofs.Common.{◌≡◌, ℕ, ◌-◌, ◌≤◌, List, [], length, drop, max, arith}
use Rattle.std.proofs.lemmas.List.{drop_all}
use Rattle.cw_text.specs.declared.ast.Word.{Word}
use Rattle.cw_text.specs.Syntax.{Statement, declare, assign, assign_at, run, out, choose, repeat, atomic, spawn, sync, cancel, return, Block, empty, first}
use Rattle.cw_strand.specs.Compilation.{Slots, slots_with_params, most_in, most, visible_after}
use Rattle.cw_strand.proofs.Numbering.{count_of_params}
use Rattle.cw_compile.specs.Emitted.{peak_in, peak}

visible_most : (n : ℕ) (s : Statement) → visible_after s n ≤ max n (peak_in n s)
visible_most n (declare w e) = omega arith
visible_most n (assign w e) = omega arith
visible_most n (assign_at w i e) = omega arith
visible_most n (run w es) = omega arith
visible_most n (out e) = omega arith
visible_most n (choose e a b) = omega arith
visible_most n (repeat e b) = omega arith
visible_most n (atomic b) = omega arith
visible_most n (spawn b) = omega arith
visible_most n sync = omega arith
visible_most n (cancel l) = omega arith
visible_most n (return l e) = omega arith

mutual
  most_in_is_peak : (n : ℕ) (s : Statement) → most_in n s ≡ max n (peak_in n s)
  most_in_is_peak n (declare w e) = omega arith
  most_in_is_peak n (assign w e) = omega arith
  most_in_is_peak n (assign_at w i e) = omega arith
  most_in_is_peak n (run w es) = omega arith
  most_in_is_peak n (out e) = omega arith
  most_in_is_peak n (choose e a b) = omega (arith, most_is_peak n a, most_is_peak n b)
  most_in_is_peak n (repeat e b) = most_is_peak n b
  most_in_is_peak n (atomic b) = most_is_peak n b
  most_in_is_peak n (spawn b) = most_is_peak n b
  most_in_is_peak n sync = omega arith
  most_in_is_peak n (cancel l) = omega arith
  most_in_is_peak n (return l e) = omega arith

  -- those that are visible before it, or right behind a `let`
  pub most_is_peak : (n : ℕ) (b : Block) → most n b ≡ max n (peak n b)
  most_is_peak n empty = omega arith
  most_is_peak n (first s b) = omega (arith, most_in_is_peak n s, most_is_peak (visible_after s n) b, visible_most n s)

-- where all were forgotten, the parameters are all that are visible
pub length-params : (ws : List Word) (old : Slots) → length (slots_with_params ws (drop (length old - 0) old)) ≡ length ws
length-params ws old =
    let none : drop (length old - 0) old ≡ [] = drop_all (length old - 0) old (omega arith) in
    rw none (omega (arith, count_of_params ws []))
