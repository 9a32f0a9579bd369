-- What is decided of strands that roll back is what is asked of them.
use Rattle.std.proofs.Common.{◌≡◌, ℕ, ◌<◌, ◌≤◌, List, [], ◌∷◌, length, get_or, ap, sym, ◌∙◌, subst, arith, refl, true, false, cond, Bool, nat_eq, Some, None, Result, Ok, Err, inl, inr}
use Rattle.std.specs.Prelude.{◌&&◌, ◌||◌, not, is_some, is_ok, MatchResult, All}
use Rattle.std.specs.List.{list_any, list_all}
use Rattle.std.specs.Option.{option_map_or}
use Rattle.std.specs.List.Sorted.{IsNonDecreasing, IsBinarySearchResult}
use Rattle.std.specs.Ordering.{nat_cmp}
use Rattle.std.proofs.lemmas.Bool.{cases_lt, and_parts, and_from, and_left, and_right, eq-eqb, eqb-true, ne_eqb, not-true, not_from_false, false_from_ne_true, or_left, or_right}
use Rattle.std.proofs.lemmas.List.Folds.{list_any_at}
use Rattle.std.proofs.lemmas.List.Sorted.{searched}
use Rattle.cw_tree.specs.declared.node.Node.{Node}
use Rattle.cw_tree.specs.declared.node.BlockState.{BlockState}
use Rattle.cw_tree.specs.declared.node.BlockState.TheVariants.{Pending, Committed, Aborted}
use Rattle.cw_tree.proofs.NodeKinds.{node_tells}
use Rattle.cw_tree.specs.declared.conflict.Conflict.{Conflict}
use Rattle.cw_tree.specs.Nodes.{is_aborted, is_aborted_state, is_block, is_block_kind, is_committed, is_committed_state, is_tried, stamp_of}
use Rattle.cw_tree.specs.Series.{has_later}
use Rattle.cw_tree.specs.Refusals.{victim_of, is_victim, names_victim, RollsBack}
use Rattle.cw_tree.proofs.Lists.{In, any_in, any_from, all_in, all_from}
use Rattle.cw_tree.proofs.Members.{in_at, any_same, all_at}
use Rattle.cw_audit.specs.Victims.{asker_is_last, victim_stamps, is_among, rolls_on}

-- ## Among stamps that rise

none_among : (s : ℕ) (xs : List ℕ) → ((k : ℕ) → k < length xs → get_or xs k 0 ≡ s → ⊥) → is_among s xs ≡ false
none_among s xs h =
    false_from_ne_true (is_among s xs) (λ e.
    let z = any_in (λ v. nat_eq v s) xs e in
    let y = in_at z.0 xs z.1 in
    h y.0 y.1 (y.2 ∙ eqb-true z.0 s z.2))

pub among_is : (xs : List ℕ) (s : ℕ) (r : Result ℕ ℕ) → IsNonDecreasing xs → IsBinarySearchResult (λ y. nat_cmp y s) xs r → is_ok r ≡ is_among s xs
among_is xs s r up w = by r (searched xs s r w (λ i j le l. up i j 0 le l)) where
  by : (r : Result ℕ ℕ) → MatchResult r (λ i. (i < length xs) × (get_or xs i 0 ≡ s)) (λ i. (i ≤ length xs) × ((k : ℕ) → k < i → get_or xs k 0 < s) × ((k : ℕ) → i ≤ k → k < length xs → s < get_or xs k 0)) → is_ok r ≡ is_among s xs
  by (Ok i) h = sym (list_any_at (λ v. nat_eq v s) xs i 0 h.0 (eq-eqb (get_or xs i 0) s h.1))
  by (Err i) h = sym (none_among s xs (λ k l e. elim (cases_lt k i) [ inl less ↦ (let z = h.1 k less in omega (arith, e)) | inr past ↦ (let z = h.2 k past l in omega (arith, e)) ]))

-- a victim of a conflict, by stamps other than 0
victim_test : (s : ℕ) (c : Conflict) → 0 < s → option_map_or (λ v. nat_eq v s) (victim_of c) false ≡ nat_eq c.victim s
victim_test s c p = by (nat_eq c.victim 0) refl where
  by : (b : Bool) → nat_eq c.victim 0 ≡ b → option_map_or (λ v. nat_eq v s) (cond b None (Some c.victim)) false ≡ nat_eq c.victim s
  by true e = let z : c.victim ≡ 0 = eqb-true c.victim 0 e in sym (ne_eqb c.victim s (λ q. omega (arith, z, q)))
  by false e = refl

any_map : (p : ℕ → Bool) (cs : List Conflict) → list_any p (victim_stamps cs) ≡ list_any (λ c. p c.victim) cs
any_map p [] = refl
any_map p (c ∷ cs) = ap (λ b. p c.victim || b) (any_map p cs)

pub victim_is : (t : List Node) (cs : List Conflict) (n : ℕ) → is_block t n ≡ true → 0 < stamp_of t n → is_victim t cs n ≡ is_among (stamp_of t n) (victim_stamps cs)
victim_is t cs n block p =
    ap (λ b. b && list_any (λ c. option_map_or (λ v. nat_eq v (stamp_of t n)) (victim_of c) false) cs) block
    ∙ any_same (λ c. option_map_or (λ v. nat_eq v (stamp_of t n)) (victim_of c) false) (λ c. nat_eq c.victim (stamp_of t n)) cs (λ c i. victim_test (stamp_of t n) c p)
    ∙ sym (any_map (λ v. nat_eq v (stamp_of t n)) cs)

-- ## One block

pub on_other : (t : List Node) (cs : List Conflict) (n : ℕ) → is_aborted t n ≡ false → rolls_on t cs n ≡ true
on_other t cs n e = or_left (not (is_aborted t n && not (is_victim t cs n))) (not (has_later t n)) (not_from_false (is_aborted t n && not (is_victim t cs n)) (and_left (is_aborted t n) (not (is_victim t cs n)) e))

pub on_victim : (t : List Node) (cs : List Conflict) (n : ℕ) → is_victim t cs n ≡ true → rolls_on t cs n ≡ true
on_victim t cs n e =
    or_left (not (is_aborted t n && not (is_victim t cs n))) (not (has_later t n))
    (not_from_false (is_aborted t n && not (is_victim t cs n)) (and_right (is_aborted t n) (not (is_victim t cs n)) (ap not e)))

pub on_last : (t : List Node) (cs : List Conflict) (n : ℕ) → is_aborted t n ≡ true → is_victim t cs n ≡ false → not (has_later t n) ≡ rolls_on t cs n
on_last t cs n e f = sym (ap (λ b. not (b && not (is_victim t cs n)) || not (has_later t n)) e ∙ ap (λ b. not (not b) || not (has_later t n)) f)

-- ## All of them

module _ (t : List Node) (cs : List Conflict) where
  some_victim : (c : Conflict) → asker_is_last t c ≡ true → is_some (victim_of c) ≡ true → has_later t c.asker ≡ false
  some_victim c e some = by (has_later t c.asker) refl where
    by : (b : Bool) → has_later t c.asker ≡ b → has_later t c.asker ≡ false
    by false f = f
    by true f = absurd (cc (not-true (is_some (victim_of c) && has_later t c.asker) e, and_from (is_some (victim_of c)) (has_later t c.asker) some f))

  pub rolls_from : list_all (asker_is_last t) cs ≡ true → ((n : ℕ) → n < length t → rolls_on t cs n ≡ true) → RollsBack t cs
  rolls_from askers each = record {
    tried = λ n there e. (
        let z = any_in (λ c. nat_eq c.asker n && is_some (victim_of c)) cs e in
        let y = and_parts (nat_eq z.0.asker n) (is_some (victim_of z.0)) z.2 in
        let P : ℕ → Type 0 = λ m. has_later t m ≡ false in
        subst P (eqb-true z.0.asker n y.0) (some_victim z.0 (all_in (asker_is_last t) z.0 cs askers z.1) y.1));
    aborted = λ n there e. by n e (each n there) (has_later t n) refl;
  } where
    by : (n : ℕ) → (is_aborted t n && not (is_victim t cs n)) ≡ true → rolls_on t cs n ≡ true → (b : Bool) → has_later t n ≡ b → has_later t n ≡ false
    by n e on false f = f
    by n e on true f = absurd (cc (on, ap (λ b. not b || not (has_later t n)) e ∙ ap not f))

  pub askers_to : All (λ c. is_tried t c.asker ≡ true) cs → ((n : ℕ) → is_tried t n ≡ true → n < length t) → RollsBack t cs → list_all (asker_is_last t) cs ≡ true
  askers_to tried there w = all_from (asker_is_last t) cs (λ c i. by c i (is_some (victim_of c)) refl) where
    by : (c : Conflict) → In c cs → (b : Bool) → is_some (victim_of c) ≡ b → asker_is_last t c ≡ true
    by c i false e = not_from_false (is_some (victim_of c) && has_later t c.asker) (and_left (is_some (victim_of c)) (has_later t c.asker) e)
    by c i true e =
        let names : names_victim cs c.asker ≡ true = any_from (λ d. nat_eq d.asker c.asker && is_some (victim_of d)) c cs i (and_from (nat_eq c.asker c.asker) (is_some (victim_of c)) (eq-eqb c.asker c.asker refl) e) in
        let none = w.tried c.asker (there c.asker (all_at (λ d. is_tried t d.asker ≡ true) cs tried c i)) names in
        not_from_false (is_some (victim_of c) && has_later t c.asker) (and_right (is_some (victim_of c)) (has_later t c.asker) none)

  pub on_to : RollsBack t cs → (n : ℕ) → n < length t → rolls_on t cs n ≡ true
  on_to w n there = by (is_aborted t n && not (is_victim t cs n)) refl where
    by : (b : Bool) → (is_aborted t n && not (is_victim t cs n)) ≡ b → rolls_on t cs n ≡ true
    by false e = or_left (not (is_aborted t n && not (is_victim t cs n))) (not (has_later t n)) (not_from_false (is_aborted t n && not (is_victim t cs n)) e)
    by true e = or_right (not (is_aborted t n && not (is_victim t cs n))) (not (has_later t n)) (not_from_false (has_later t n) (w.aborted n there e))

-- ## Closed blocks

not_both : (k : Bool) (s : BlockState) → (k && is_aborted_state s) ≡ true → (k && is_committed_state s) ≡ false
not_both true Aborted e = refl
not_both true Pending e = absurd (cc e)
not_both true Committed e = absurd (cc e)
not_both false s e = absurd (cc e)

pub aborted_not_committed : (t : List Node) (n : ℕ) → is_aborted t n ≡ true → is_committed t n ≡ false
aborted_not_committed t = node_tells false t (λ x. is_block_kind x.kind && is_aborted_state x.state) (λ x. is_block_kind x.kind && is_committed_state x.state) (λ x. not_both (is_block_kind x.kind) x.state)
