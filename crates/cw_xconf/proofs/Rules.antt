-- The rules by what calls answered.
use Rattle.std.proofs.Common.{◌≡◌, ℕ, List, ◌∙◌, refl, sym, subst, Bool, true, false, nat_eq, nat_lt, eqb-true, eq-eqb}
use Rattle.cw_tree.specs.declared.access.Mark.{Mark}
use Rattle.cw_trace.specs.declared.verdict.Verdict.{Verdict}
use Rattle.cw_trace.specs.Columns.{ColumnTable}
use Rattle.cw_trace.specs.Told.{Read, Answer, Owner, Inside, Number, Test, held, HoldsRead, Stays}
use Rattle.cw_trace.specs.Query.{IsWithinTrace, is_it, by_place, Gives, Covers, same_trace, other_trace, verdict}
use Rattle.cw_trace.specs.Verdicts.{TellsOfTree, TellsByReading, TellsOfBlock}
use Rattle.cw_trace.proofs.Query.Agreeing.{gives_later, gives_held, covers_later, covers_held}
use Rattle.cw_trace.proofs.Query.Answering.{decides, decides_by_reading, covers_blocks}

module _ (told : Read → Answer → Type 0) where
  -- a number that is the answer, under another name
  told_same : (i v t : ℕ) → told (Owner i) (Number v) → v ≡ t → told (Owner i) (Number t)
  told_same i v t h e = let P : ℕ → Type 0 = λ x. told (Owner i) (Number x) in subst P e h

  pub stands_it : (i v t : ℕ) (r : Bool) → told (Owner i) (Number v) → r ≡ nat_eq v t → r ≡ true → IsWithinTrace told i t r
  stands_it i v t r h value is =
      let P : Bool → Type 0 = λ b. IsWithinTrace told i t b in
      subst P (sym is) (is_it (told_same i v t h (eqb-true v t (sym value ∙ is))))

  pub stands_inside : (i v t : ℕ) (r b : Bool) → told (Owner i) (Number v) → r ≡ nat_eq v t → r ≡ false → told (Inside v t) (Test b) → IsWithinTrace told i t b
  stands_inside i v t r b h value is g = by_place h (λ e. cc (is, value, eq-eqb v t e)) g

  pub covers_own : (block last : Mark) (t u : ℕ) (r x : Bool) → told (Owner block.strand) (Number t) → told (Owner last.strand) (Number u) → r ≡ nat_eq u t → r ≡ true → x ≡ nat_lt block.stamp last.stamp → Covers told block last x
  covers_own block last t u r x h g value is e =
      let P : Bool → Type 0 = λ b. Covers told block last b in
      subst P (sym e) (same_trace h (told_same last.strand u t g (eqb-true u t (sym value ∙ is))))

  pub covers_inner : (block last : Mark) (t u : ℕ) (r x : Bool) → told (Owner block.strand) (Number t) → told (Owner last.strand) (Number u) → r ≡ nat_eq u t → r ≡ false → told (Inside u t) (Test x) → Covers told block last x
  covers_inner block last t u r x h g value is k = other_trace h g (λ e. cc (is, value, eq-eqb u t e)) k

-- ## If all answers are what one tier and gap words hold

module _ (c : ColumnTable) (words : List ℕ) (told : Read → Answer → Type 0) (stays : Stays told (HoldsRead c words)) where
  pub verdict_is : (last : Mark) (asker : ℕ) (v : Verdict) → Gives told last asker v → v ≡ verdict c words last asker
  verdict_is last asker v g = gives_held c words last asker v (gives_later stays g)

  pub tells_of_tree : (last : Mark) (asker : ℕ) (v : Verdict) → Gives told last asker v → TellsOfTree c words last asker v
  tells_of_tree last asker v g = let P : Verdict → Type 0 = λ x. TellsOfTree c words last asker x in subst P (sym (verdict_is last asker v g)) (decides c words last asker)

  pub tells_by_reading : (last : Mark) (asker : ℕ) (v : Verdict) → Gives told last asker v → TellsByReading c words last asker v
  tells_by_reading last asker v g = let P : Verdict → Type 0 = λ x. TellsByReading c words last asker x in subst P (sym (verdict_is last asker v g)) (decides_by_reading c words last asker)

  pub tells_of_block : (block last : Mark) (x : Bool) → Covers told block last x → TellsOfBlock c words block last x
  tells_of_block block last x g =
      let P : Bool → Type 0 = λ x. TellsOfBlock c words block last x in
      subst P (sym (covers_held c words block last x (covers_later stays g))) (covers_blocks c words block last)

-- what holds after holding something else holds the same
pub holds_back : (c d : ColumnTable) (words later : List ℕ) → Stays (HoldsRead c words) (HoldsRead d later) → Stays (HoldsRead d later) (HoldsRead c words)
holds_back c d words later stays r a h = sym (stays r (held c words r) refl) ∙ h
