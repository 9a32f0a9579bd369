-- A chain of stamps, and stamps that make none.
use Rattle.std.proofs.Common.{◌≡◌, ℕ, ◌<◌, [], ◌∷◌, refl, true}
use Rattle.std.specs.Prelude.{IsTrue, ◌&&◌, not, ◌==◌}
use Rattle.std.proofs.lemmas.List.Elements.{All-head, All-tail, All-cons, All-nil}
use Rattle.std.proofs.lemmas.Bool.{and_from, eq-eqb, not-true}
use Rattle.cw_tree.specs.Nodes.{stamp_of, touches, touches_kind}
use Rattle.cw_tree.specs.Accesses.{HasAccess}
use Rattle.cw_tree.specs.Worked.{tried_often, Chains}
use Rattle.cw_tree.proofs.Worked.Checks.{all_below, each_below}
use Rattle.cw_tree.proofs.Walks.There.{node_there}

access : (c s n : ℕ) → IsTrue (touches tried_often c n) → stamp_of tried_often n ≡ s → HasAccess tried_often c s
access c s n e is = (n, e, is)

none : (c s : ℕ) → all_below (λ n. not (touches tried_often c n && (stamp_of tried_often n == s))) 16 ≡ true → HasAccess tried_often c s → ⊥
none c s e (n, h, is) =
    let there : n < 16 = node_there (λ x. touches_kind c x.kind) tried_often n h in
    let apart = not-true _ (each_below (λ n. not (touches tried_often c n && (stamp_of tried_often n == s))) 16 e n there) in
    let same = and_from (touches tried_often c n) (stamp_of tried_often n == s) h (eq-eqb (stamp_of tried_often n) s is) in
    absurd (cc (apart, same))

pub chains : Chains
chains = record {
  holds = record {
    accesses = All-cons (HasAccess tried_often 0) 2 (3 ∷ 10 ∷ 11 ∷ []) (access 0 2 3 refl refl) (All-cons (HasAccess tried_often 0) 3 (10 ∷ 11 ∷ []) (access 0 3 8 refl refl)
        (All-cons (HasAccess tried_often 0) 10 (11 ∷ []) (access 0 10 13 refl refl) (All-cons (HasAccess tried_often 0) 11 [] (access 0 11 14 refl refl) (All-nil (HasAccess tried_often 0)))));
    chain = (refl, (refl, (refl, tt)));
  };
  unknown = λ w. none 0 99 refl (All-head (HasAccess tried_often 0) 99 [] (All-tail (HasAccess tried_often 0) 2 (99 ∷ []) w.accesses));
  other_cell = λ w. none 1 2 refl (All-head (HasAccess tried_often 1) 2 [] w.accesses);
}
