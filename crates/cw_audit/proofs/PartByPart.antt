-- Parts by their numbers, and what the parts that hold tell.
use Rattle.std.proofs.Common.{◌≡◌, ◌↔◌, ℕ, zero, suc, ◌<◌, ◌≤◌, Bool, true, List, [], ◌∷◌, map, All, sym, ◌∙◌, ap, subst, refl, arith, cond, nat_eq}
use Rattle.std.specs.Prelude.{IsTrue, IfOk, Result}
use Rattle.std.proofs.lemmas.List.Elements.{All-nil, All-cons, All-head, All-tail, filter_passes}
use Rattle.std.proofs.lemmas.Result.{IfOk-weaker}
use Rattle.cw_base.specs.declared.memory.OutOfMemory.{OutOfMemory}
use Rattle.cw_tree.specs.declared.conflict.Conflict.{Conflict}
use Rattle.cw_tree.specs.declared.node.Node.{Node}
use Rattle.cw_tree.specs.Nodes.{is_tried}
use Rattle.cw_sheet.specs.Contents.{Contents}
use Rattle.cw_audit.specs.declared.findings.Audit.TheVariants.{Broken}
use Rattle.cw_audit.specs.Audits.{Part, stamps, accesses, blocks, refusals, strands, ending, cancels, order, part_number, PartHolds, HoldBefore, IsAudit}
use Rattle.cw_audit.specs.Victims.{AskersAreRefused}

-- ## Numbers

abbrev part_at : ℕ → Part
part_at n =
    cond (nat_eq n 1) stamps (cond (nat_eq n 2) accesses (cond (nat_eq n 3) blocks (cond (nat_eq n 4) refusals (cond (nat_eq n 5) strands (cond (nat_eq n 6) ending (cond (nat_eq n 7) cancels order))))))

at_number : (p : Part) → part_at (part_number p) ≡ p
at_number stamps = refl
at_number accesses = refl
at_number blocks = refl
at_number refusals = refl
at_number strands = refl
at_number ending = refl
at_number cancels = refl
at_number order = refl

-- a number tells its part
one_part : (p q : Part) → part_number p ≡ part_number q → p ≡ q
one_part p q e = sym (at_number p) ∙ ap part_at e ∙ at_number q

has_part : (n : ℕ) → 1 ≤ n → n < 9 → (p : Part) × (part_number p ≡ n)
has_part zero low high = absurd (omega (arith, low))
has_part (suc zero) low high = (stamps, refl)
has_part (suc (suc zero)) low high = (accesses, refl)
has_part (suc (suc (suc zero))) low high = (blocks, refl)
has_part (suc (suc (suc (suc zero)))) low high = (refusals, refl)
has_part (suc (suc (suc (suc (suc zero))))) low high = (strands, refl)
has_part (suc (suc (suc (suc (suc (suc zero)))))) low high = (ending, refl)
has_part (suc (suc (suc (suc (suc (suc (suc zero))))))) low high = (cancels, refl)
has_part (suc (suc (suc (suc (suc (suc (suc (suc zero)))))))) low high = (order, refl)
has_part (suc (suc (suc (suc (suc (suc (suc (suc (suc n))))))))) low high = absurd (omega (arith, high))

module _ (c : Contents) where
  -- part n is the first that does not hold
  pub breaks : (n : ℕ) → 1 ≤ n → n < 9 → HoldBefore c n → ((p : Part) → part_number p ≡ n → PartHolds c p → ⊥) → IsAudit c (Broken n)
  breaks n low high before fails = let here = has_part n low high in (before, (here.0, here.1, fails here.0 here.1))

  -- what decides a part decides the part with its number
  pub by_number : (n : ℕ) (p : Part) → part_number p ≡ n → (r : Result Bool OutOfMemory) → IfOk r (λ b. IsTrue b ↔ PartHolds c p) → IfOk r (λ b. (q : Part) → part_number q ≡ n → IsTrue b ↔ PartHolds c q)
  by_number n p e r h =
      IfOk-weaker r (λ b. IsTrue b ↔ PartHolds c p) (λ b. (q : Part) → part_number q ≡ n → IsTrue b ↔ PartHolds c q)
      (λ b w q f. let P : Part → Type 0 = λ s. IsTrue b ↔ PartHolds c s in subst P (one_part p q (e ∙ sym f)) w) h

-- ## Askers

unmapped : {X Y : Type 0} (P : X → Type 0) (f : Y → X) (ys : List Y) → All P (map f ys) → All (λ y. P (f y)) ys
unmapped P f [] h = All-nil (λ y. P (f y))
unmapped P f (y ∷ ys) h = All-cons (λ z. P (f z)) y ys (All-head P (f y) (map f ys) h) (unmapped P f ys (All-tail P (f y) (map f ys) h))

-- what conflicts name as their askers was refused
pub asked : (t : List Node) (cs : List Conflict) → AskersAreRefused t cs → All (λ k. IsTrue (is_tried t k.asker)) cs
asked t cs e = unmapped (λ n. is_tried t n ≡ true) (λ (k : Conflict). k.asker) cs (subst (All (λ n. is_tried t n ≡ true)) (sym e) (filter_passes (is_tried t) _))
