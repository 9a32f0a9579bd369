-- Serves `conflicts_of` and `halt_in`: the conflicts of a log more, and the strand of a halt.
use Rattle.std.proofs.Common.{◌≡◌, ℕ, suc, ◌+◌, ◌-◌, Bool, true, false, List, [], ◌∷◌, ◌++◌, length, map, append_assoc, append-nil, cond, refl, ap, sym, ◌∙◌, subst, arith, Option, Some, None}
use Rattle.std.specs.Prelude.{◌==◌, slice_get, if◌then◌else◌}
use Rattle.std.specs.Option.{option_map_or}
use Rattle.std.proofs.lemmas.Bool.{eq-eqb, ne_eqb}
use Rattle.cw_code.specs.declared.FaultKind.{FaultKind}
use Rattle.cw_tree.specs.declared.node.Node.{Node}
use Rattle.cw_tree.specs.declared.conflict.Conflict.{Conflict}
use Rattle.cw_tree.specs.declared.closed.Halt.{Halt}
use Rattle.cw_tree.specs.declared.closed.Halt.TheVariants.{Fault, Budget}
use Rattle.cw_tree.specs.Nodes.{block_with_stamp}
use Rattle.cw_tree.specs.Series.{strand_of}
use Rattle.cw_log.specs.declared.log.Log.{Log}
use Rattle.cw_log.specs.declared.token.Stop.{Stop}
use Rattle.cw_course.specs.Closings.{base_of, conflicts_of, halt_in, last_conflict, last_of_conflicts, spender, tree_of, HasNone}

module _ (all : List Log) where
  abbrev moved : (base : ℕ) → Conflict → Conflict
  moved base c = record c { asker = base + c.asker }

  conflicts_more : (ls : List Log) (l : Log) → conflicts_of all (ls ++ l ∷ []) ≡ conflicts_of all ls ++ map (moved (base_of all l.column)) l.conflicts
  conflicts_more [] l = append-nil (map (moved (base_of all l.column)) l.conflicts)
  conflicts_more (x ∷ ls) l =
      let h = map (moved (base_of all x.column)) x.conflicts in
      ap (λ cs. h ++ cs) (conflicts_more ls l) ∙ sym (append_assoc h (conflicts_of all ls) (map (moved (base_of all l.column)) l.conflicts))

  -- the conflicts of the logs so far, with those of one log more that begins at this number
  pub told_more : (ls : List Log) (l : Log) (cs ds : List Conflict) (base : ℕ) → cs ≡ conflicts_of all ls → base ≡ base_of all l.column → ds ≡ cs ++ map (moved base) l.conflicts → ds ≡ conflicts_of all (ls ++ l ∷ [])
  told_more ls l cs ds base e f g =
      g ∙ ap (λ xs. xs ++ map (moved base) l.conflicts) e
      ∙ ap (λ b. conflicts_of all ls ++ map (moved b) l.conflicts) f
      ∙ sym (conflicts_more ls l)

-- ## The last conflict of a log

pub last_is : (cs : List Conflict) → last_of_conflicts cs ≡ slice_get cs (length cs - 1)
last_is [] = refl
last_is (c ∷ []) = refl
last_is (c ∷ d ∷ cs) =
    let e : length (c ∷ d ∷ cs) - 1 ≡ suc (length (d ∷ cs) - 1) = omega arith in
    last_is (d ∷ cs) ∙ sym (ap (slice_get (c ∷ d ∷ cs)) e)

pub last_found : (ls more : List Log) (l : Log) (c : ℕ) → HasNone c ls → l.column ≡ c → last_conflict (ls ++ l ∷ more) c ≡ last_of_conflicts l.conflicts
last_found [] more l c h e = ap (λ b. cond b (last_of_conflicts l.conflicts) (last_conflict more c)) (eq-eqb l.column c e)
last_found (x ∷ ls) more l c h e = ap (λ b. cond b (last_of_conflicts x.conflicts) (last_conflict (ls ++ l ∷ more) c)) (ne_eqb x.column c h.0) ∙ last_found ls more l c h.1 e

pub last_none : (ls : List Log) (c : ℕ) → HasNone c ls → last_conflict ls c ≡ None
last_none [] c h = refl
last_none (x ∷ ls) c h = ap (λ b. cond b (last_of_conflicts x.conflicts) (last_conflict ls c)) (ne_eqb x.column c h.0) ∙ last_none ls c h.1

-- the victim of a conflict, or 0
abbrev pub victim_or_none : Option Conflict → ℕ
victim_or_none o = option_map_or (λ (c : Conflict). c.victim) o 0

pub victim_is : (cs : List Conflict) (c : Conflict) → Some c ≡ slice_get cs (length cs - 1) → c.victim ≡ victim_or_none (last_of_conflicts cs)
victim_is cs c e = ap victim_or_none (e ∙ sym (last_is cs))

-- ## Halts

abbrev pub spender_by : List Node → (victim x : ℕ) → ℕ
spender_by t v x = if v == 0 then x else option_map_or (strand_of t) (block_with_stamp t v) x

spent_by : (t : List Node) (v x : ℕ) (b : Bool) → (if b then x else option_map_or (strand_of t) (block_with_stamp t v) x)
    ≡ option_map_or (λ w. option_map_or (strand_of t) (block_with_stamp t w) x) (if b then None else Some v) x
spent_by t v x true = refl
spent_by t v x false = refl

spender_is : (t : List Node) (o : Option Conflict) (x : ℕ) → spender_by t (victim_or_none o) x ≡ spender t o x
spender_is t None x = refl
spender_is t (Some c) x = spent_by t c.victim x (c.victim == 0)

module _ (all : List Log) (x : Stop) (n : ℕ) (at : n ≡ base_of all x.column + x.strand) where
  pub fault_is : (y : ℕ) (kind : FaultKind) → x.halt ≡ Fault y kind → Some (Fault n kind) ≡ halt_in all (Some x)
  fault_is y kind e = subst (λ (h : Halt). Some (Fault n kind) ≡ halt_in all (Some (record x { halt = h }))) (sym e) (ap (λ k. Some (Fault k kind)) at)

  pub budget_is : (y v m : ℕ) (t : List Node) → x.halt ≡ Budget y → t ≡ tree_of all → v ≡ victim_or_none (last_conflict all x.column) → m ≡ spender_by t v n → Some (Budget m) ≡ halt_in all (Some x)
  budget_is y v m t e same last by = subst (λ (h : Halt). Some (Budget m) ≡ halt_in all (Some (record x { halt = h }))) (sym e)
      (ap (λ k. Some (Budget k)) (by ∙ ap (λ w. spender_by t w n) last ∙ spender_is t (last_conflict all x.column) n ∙ ap (λ u. spender u (last_conflict all x.column) n) same
      ∙ ap (spender (tree_of all) (last_conflict all x.column)) at))
