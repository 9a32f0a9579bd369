use Rattle.std.proofs.Common.{◌≡◌, ℕ, false, ◌<◌, List, [], ◌∷◌, ◌++◌, ◌≤◌, ◌-◌, length, ap, sym, ◌∙◌, subst, arith, nat_eq, get_or}
use Rattle.std.specs.Prelude.{All}
use Rattle.std.specs.List.Sorted.{IsStrictlyIncreasing}
use Rattle.std.proofs.lemmas.Bool.{eqb-true, eq-eqb}
use Rattle.cw_tree.specs.Accesses.{HasAccess}
use Rattle.cw_audit.proofs.Ends.{last_from, last_to}
use Rattle.cw_audit.proofs.told.is_chain_told.Goals as goal

some_from : (xs : List ℕ) → nat_eq (length xs) 0 ≡ false → 0 < length xs
some_from [] e = absurd (cc e)
some_from (x ∷ xs) e = omega arith

pub returns-then-not-are_accesses : goal.returns-then-not-are_accesses
returns-then-not-are_accesses c =
    let P : List ℕ → Type 0 = λ xs. All (HasAccess c.args.tree.now c.args.conflict.now.cell) xs in
    (λ e. absurd (cc e), λ w. absurd (cc (c.if-not-are_accesses.true, c.are_accesses.ensures.1 (subst P (sym c.as_slice-chain.ensures) w.accesses))))

pub returns : goal.returns
returns c =
    let t = c.args.tree.now in
    let x = c.args.conflict.now in
    let chain = c.as_slice-chain.result.now in
    let same : chain ≡ x.chain = c.as_slice-chain.ensures in
    let P : List ℕ → Type 0 = λ xs. All (HasAccess t x.cell) xs in
    let Q : List ℕ → Type 0 = λ xs. IsStrictlyIncreasing xs in
    let L : List ℕ → Type 0 = λ xs. (ys : List ℕ) × (xs ≡ ys ++ x.last ∷ []) in
    let some : 0 < length chain = some_from chain (sym c.is_empty.ensures ∙ c.if-is_empty.false) in
    let few : length chain ≤ 8 = c.if-chain-gt8.false in (
      λ e. record {
        len = (omega (arith, ap length same), omega (arith, ap length same));
        rises = subst Q same (c.rises.ensures.0 c.if-not-rises.false);
        accesses = subst P same (c.are_accesses.ensures.0 c.if-not-are_accesses.false);
        last = subst L same (last_from chain x.last some (eqb-true (get_or chain (length chain - 1) 0) x.last e));
      },
      λ w. eq-eqb (get_or chain (length chain - 1) 0) x.last (last_to chain w.last.0 x.last (same ∙ w.last.1)),
    )
