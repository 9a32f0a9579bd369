-- Nodes that fell, or have to: a refused access beneath one has a victim above it.
use Rattle.std.proofs.Common.{◌≡◌, ◌≢◌, ℕ, ◌<◌, List, [], ◌∷◌, ◌++◌, length, refl, ap, sym, ◌∙◌, subst, arith, Bool, true, false, cond, Some, None, inl, inr, nat_eq}
use Rattle.std.specs.Prelude.{◌&&◌, ◌||◌, is_some, All}
use Rattle.std.specs.List.{list_any}
use Rattle.std.specs.Option.{option_map_or}
use Rattle.std.proofs.lemmas.Bool.{and_parts, and_from, or_cases, or_left, or_right, or_parts, cases_Bool, eqb-true, eq-eqb, false_from_ne_true}
use Rattle.std.proofs.lemmas.List.Elements.{All-head, All-tail}
use Rattle.cw_tree.specs.declared.node.Node.{Node}
use Rattle.cw_tree.specs.declared.conflict.Conflict.{Conflict}
use Rattle.cw_tree.specs.Nodes.{is_fork_kind, is_block_kind, parent_of, stamp_of, is_fork, is_block, is_pending, all_nodes}
use Rattle.cw_tree.specs.Walks.{IsRooted, path, is_ancestor, is_above}
use Rattle.cw_tree.specs.Refusals.{victim_of, is_victim, names_victim as tells_back}
use Rattle.cw_tree.specs.NextNodes.{IsPlace}
use Rattle.cw_tree.proofs.Lists.{any_in, any_from}
use Rattle.cw_tree.proofs.Members.{in_below, below_in}
use Rattle.cw_tree.proofs.Walks.There.{node_there}
use Rattle.cw_tree.proofs.Walks.Kin.{ancestor_in}
use Rattle.cw_tree.proofs.Walks.Ancestors.{ancestor_step, above_parent, ancestor_trans}
use Rattle.cw_tree.proofs.ChainLaws.Nearest.{above_from}
use Rattle.cw_tree.proofs.NodeKinds.{fork_no_block}
use Rattle.cw_open.specs.Machine.{OpenMachine, falls, is_dying, leads_back}
use Rattle.cw_open.proofs.Refused.Falling.{AreAskers, any_kept, any_weaker}
use Rattle.cw_open.proofs.Open.Staying.{Stays, above_stays, ancestor_stays}
use Rattle.cw_open.proofs.Refused.Victims.{IsTold}

-- one conflict has a victim that is block v
abbrev pub names : List Node → Conflict → ℕ → Bool
names t c v = is_victim t (c ∷ []) v

-- a refused access beneath node a has a victim that is b, or above it
abbrev pub fell_for : List Node → (a b : ℕ) → Conflict → Bool
fell_for t a b c = is_above t a c.asker && list_any (λ v. names t c v && is_ancestor t v b) (all_nodes t)

abbrev pub fell : List Node → List Conflict → (a b : ℕ) → Bool
fell t cs a b = list_any (fell_for t a b) cs

-- the victim of one conflict, taken apart
pub record Fell (t : List Node) (a b : ℕ) (c : Conflict) : Type 0 where
  pub asker : is_above t a c.asker ≡ true
  pub victim : ℕ
  pub there : victim < length t
  pub named : names t c victim ≡ true
  pub over : is_ancestor t victim b ≡ true

pub of_fell : (t : List Node) (a b : ℕ) (c : Conflict) → fell_for t a b c ≡ true → Fell t a b c
of_fell t a b c e =
    let z = and_parts (is_above t a c.asker) (list_any (λ v. names t c v && is_ancestor t v b) (all_nodes t)) e in
    let y = any_in (λ v. names t c v && is_ancestor t v b) (all_nodes t) z.1 in
    let x = and_parts (names t c y.0) (is_ancestor t y.0 b) y.2 in
    record { asker = z.0; victim = y.0; there = in_below y.0 (length t) y.1; named = x.0; over = x.1 }

pub fell_of : (t : List Node) (a b : ℕ) (c : Conflict) → Fell t a b c → fell_for t a b c ≡ true
fell_of t a b c w =
    and_from (is_above t a c.asker) (list_any (λ v. names t c v && is_ancestor t v b) (all_nodes t)) w.asker
    (any_from (λ v. names t c v && is_ancestor t v b) w.victim (all_nodes t) (below_in w.victim (length t) w.there) (and_from (names t c w.victim) (is_ancestor t w.victim b) w.named w.over))

pub names_block : (t : List Node) (c : Conflict) (v : ℕ) → names t c v ≡ true → is_block t v ≡ true
names_block t c v e = (and_parts (is_block t v) (list_any (λ c. option_map_or (λ x. nat_eq x (stamp_of t v)) (victim_of c) false) (c ∷ [])) e).0

-- what one conflict names, some of those that it is among do
pub names_one : (t : List Node) (cs : List Conflict) (b : ℕ) → is_victim t cs b ≡ false → is_block t b ≡ true → list_any (λ c. names t c b) cs ≡ false
names_one t cs b e block = by cs (sym (ap (λ k. k && list_any (λ c. option_map_or (λ x. nat_eq x (stamp_of t b)) (victim_of c) false) cs) block) ∙ e) where
  by : (cs : List Conflict) → list_any (λ c. option_map_or (λ x. nat_eq x (stamp_of t b)) (victim_of c) false) cs ≡ false → list_any (λ c. names t c b) cs ≡ false
  by [] e = refl
  by (c ∷ cs) e =
      let z = or_parts (option_map_or (λ x. nat_eq x (stamp_of t b)) (victim_of c) false) (list_any (λ c. option_map_or (λ x. nat_eq x (stamp_of t b)) (victim_of c) false) cs) e in
      false_from_ne_true (names t c b || list_any (λ c. names t c b) cs) (λ q.
      elim (or_cases (names t c b) (list_any (λ c. names t c b) cs) q) [
        | inl y ↦
            (let x = and_parts (is_block t b) (option_map_or (λ x. nat_eq x (stamp_of t b)) (victim_of c) false || false) y in
            elim (or_cases (option_map_or (λ x. nat_eq x (stamp_of t b)) (victim_of c) false) false x.1) [ inl k ↦ absurd (cc (k, z.0)) | inr k ↦ absurd (cc k) ])
        | inr y ↦ absurd (cc (y, by cs z.1))
      ])

-- and the other way round
pub one_names : (t : List Node) (cs : List Conflict) (b : ℕ) → is_block t b ≡ true → list_any (λ c. names t c b) cs ≡ true → is_victim t cs b ≡ true
one_names t cs b block e =
    elim (cases_Bool (is_victim t cs b)) [ inl q ↦ q | inr q ↦ absurd (cc (e, names_one t cs b q block)) ]

-- ## What fell stays so

names_stay : (t u : List Node) → Stays t u → (c : Conflict) (v : ℕ) → v < length t → names u c v ≡ names t c v
names_stay t u s c v h =
    ap (λ q. q && (option_map_or (λ x. nat_eq x (stamp_of u v)) (victim_of c) false || false)) (s.blocks v h)
    ∙ ap (λ n. is_block t v && (option_map_or (λ x. nat_eq x n) (victim_of c) false || false)) (s.stamps v h)

pub victim_stays : (t u : List Node) → Stays t u → (cs : List Conflict) (b : ℕ) → b < length t → is_victim u cs b ≡ is_victim t cs b
victim_stays t u s cs b h =
    ap (λ q. q && list_any (λ c. option_map_or (λ x. nat_eq x (stamp_of u b)) (victim_of c) false) cs) (s.blocks b h)
    ∙ ap (λ n. is_block t b && list_any (λ c. option_map_or (λ x. nat_eq x n) (victim_of c) false) cs) (s.stamps b h)

pub fell_stays : (t u : List Node) → Stays t u → (cs more : List Conflict) → AreAskers t cs → (a b : ℕ) → b < length t → fell t cs a b ≡ true → fell u (cs ++ more) a b ≡ true
fell_stays t u s cs more askers a b h =
    any_kept (λ c. c.asker < length t) (fell_for t a b) (fell_for u a b) cs more askers
    (λ c low e.
    let w = of_fell t a b c e in
    let longer = s.longer in
    let there = w.there in
    fell_of u a b c (record {
      asker = above_stays t u s a c.asker low ∙ w.asker;
      victim = w.victim;
      there = omega arith;
      named = names_stay t u s c w.victim w.there ∙ w.named;
      over = ancestor_stays t u s w.victim b h ∙ w.over;
    }))

-- ## Who fell

-- what leads back fell
pub back_fell : (m : OpenMachine) (s b : ℕ) → leads_back m s b ≡ true → fell m.tree m.conflicts s b ≡ true
back_fell m s b =
    any_weaker (λ c. is_above m.tree s c.asker && list_any (λ v. falls m c v && is_ancestor m.tree v b) (all_nodes m.tree)) (fell_for m.tree s b) m.conflicts
    (λ c e.
    let z = and_parts (is_above m.tree s c.asker) (list_any (λ v. falls m c v && is_ancestor m.tree v b) (all_nodes m.tree)) e in
    and_from (is_above m.tree s c.asker) (list_any (λ v. names m.tree c v && is_ancestor m.tree v b) (all_nodes m.tree)) z.0
    (any_weaker (λ v. falls m c v && is_ancestor m.tree v b) (λ v. names m.tree c v && is_ancestor m.tree v b) (all_nodes m.tree)
    (λ v f.
    let y = and_parts (falls m c v) (is_ancestor m.tree v b) f in
    and_from (names m.tree c v) (is_ancestor m.tree v b) (and_parts (is_pending m.tree v) (names m.tree c v) y.0).1 y.1) z.1))

-- one of these passes a test
pub record One {X : Type 0} (P : X → Type 0) (p : X → Bool) (xs : List X) : Type 0 where
  pub one : X
  pub holds : P one
  pub passes : p one ≡ true
  pub among : (q : X → Bool) → q one ≡ true → list_any q xs ≡ true

pub any_one : {X : Type 0} (P : X → Type 0) (p : X → Bool) (xs : List X) → All P xs → list_any p xs ≡ true → One P p xs
any_one P p [] all e = absurd (cc e)
any_one P p (x ∷ xs) all e =
    elim (or_cases (p x) (list_any p xs) e) [
      | inl f ↦ record { one = x; holds = All-head P x xs all; passes = f; among = λ q g. or_left (q x) (list_any q xs) g }
      | inr f ↦ (let z = any_one P p xs (All-tail P x xs all) f in record { one = z.one; holds = z.holds; passes = z.passes; among = λ q g. or_right (q x) (list_any q xs) (z.among q g) })
    ]

module _ (t : List Node) (r : IsRooted t) (cs : List Conflict) (told : All (IsTold t) cs) where
  abbrev pub FellOf : (a b : ℕ) → Type 0
  FellOf a b = One (IsTold t) (fell_for t a b) cs

  pub one_fell : (a b : ℕ) → fell t cs a b ≡ true → FellOf a b
  one_fell a b e = any_one (IsTold t) (fell_for t a b) cs told e

  -- the victim is one of all
  named_victim : (a b : ℕ) (o : FellOf a b) → is_victim t cs (of_fell t a b o.one o.passes).victim ≡ true
  named_victim a b o =
      let w = of_fell t a b o.one o.passes in
      one_names t cs w.victim (names_block t o.one w.victim w.named) (o.among (λ c. names t c w.victim) w.named)

  -- a victim is above what fell
  pub fell_beneath : (a b : ℕ) → fell t cs a b ≡ true → list_any (is_victim t cs) (path t b) ≡ true
  fell_beneath a b e =
      let o = one_fell a b e in
      let w = of_fell t a b o.one o.passes in
      any_from (is_victim t cs) w.victim (path t b) (ancestor_in t w.victim b w.over) (named_victim a b o)

  -- what fell and is itself no victim stands in what fell
  pub fell_above : (a b : ℕ) → 0 < b → b < length t → is_victim t cs b ≡ false → fell t cs a b ≡ true → fell t cs a (parent_of t b) ≡ true
  fell_above a b some low none e =
      let o = one_fell a b e in
      let w = of_fell t a b o.one o.passes in
      let other : b ≢ w.victim = λ q. absurd (let P : ℕ → Type 0 = λ v. is_victim t cs v ≡ true in cc (none, subst P (sym q) (named_victim a b o))) in
      o.among (fell_for t a (parent_of t b))
      (fell_of t a (parent_of t b) o.one (record { asker = w.asker; victim = w.victim; there = w.there; named = w.named; over = sym (ancestor_step t r w.victim b some low other) ∙ w.over }))

  -- so does a fork
  pub fork_fell : (a f : ℕ) → 0 < f → is_fork t f ≡ true → fell t cs a f ≡ true → fell t cs a (parent_of t f) ≡ true
  fork_fell a f some fork e =
      fell_above a f some (node_there (λ y. is_fork_kind y.kind) t f fork)
      (ap (λ q. q && list_any (λ c. option_map_or (λ x. nat_eq x (stamp_of t f)) (victim_of c) false) cs) (fork_no_block t f fork)) e

  -- a refused access whose conflict has a victim stands in what fell
  pub tried_fell : (a n : ℕ) → 0 < n → n < length t → is_above t a n ≡ true → tells_back cs n ≡ true → fell t cs a (parent_of t n) ≡ true
  tried_fell a n some low above e =
      let o = any_one (IsTold t) (λ c. nat_eq c.asker n && is_some (victim_of c)) cs told e in
      let c = o.one in
      let z = and_parts (nat_eq c.asker n) (is_some (victim_of c)) o.passes in
      let at : c.asker ≡ n = eqb-true c.asker n z.0 in
      elim o.holds.named [
        | inl none ↦ absurd (cc (z.1, ap is_some (no_victim c none)))
        | inr y ↦
            (let (v, is, stamped) = y in
            let x = and_parts (is_block t v) (is_above t v c.asker) is in
            o.among (fell_for t a (parent_of t n))
            (fell_of t a (parent_of t n) c (record {
              asker = ap (is_above t a) at ∙ above;
              victim = v;
              there = node_there (λ y. is_block_kind y.kind) t v x.0;
              named = and_from (is_block t v) (option_map_or (λ k. nat_eq k (stamp_of t v)) (victim_of c) false || false) x.0
                  (or_left (option_map_or (λ k. nat_eq k (stamp_of t v)) (victim_of c) false) false (has_victim c (stamp_of t v) (sym stamped) z.1));
              over = sym (above_parent t r v n some low) ∙ ap (is_above t v) (sym at) ∙ x.1;
            })))
      ] where
        no_victim : (c : Conflict) → c.victim ≡ 0 → victim_of c ≡ None
        no_victim c e = ap (λ b. cond b None (Some c.victim)) (eq-eqb c.victim 0 e)

        has_victim : (c : Conflict) (s : ℕ) → c.victim ≡ s → is_some (victim_of c) ≡ true → option_map_or (λ k. nat_eq k s) (victim_of c) false ≡ true
        has_victim c s e = by (nat_eq c.victim 0) where
          by : (b : Bool) → is_some (cond b None (Some c.victim)) ≡ true → option_map_or (λ k. nat_eq k s) (cond b None (Some c.victim)) false ≡ true
          by true f = absurd (cc f)
          by false f = eq-eqb c.victim s e

-- ## A strand in what fell is dying

module _ (m : OpenMachine) (r : IsRooted m.tree) (told : All (IsTold m.tree) m.conflicts) where
  abbrev t : List Node
  t = m.tree

  pub fell_dies : (s a p b : ℕ) → IsPlace t p → is_ancestor t s a ≡ true → is_ancestor t b p ≡ true → fell t m.conflicts a b ≡ true → is_dying m s ≡ true
  fell_dies s a p b at own within e =
      let o = one_fell t r m.conflicts told a b e in
      let c = o.one in
      let w = of_fell t a b c o.passes in
      let over = ancestor_trans t r w.victim b p at.there w.over within in
      let pending = at.around w.victim (and_from (is_block t w.victim) (is_ancestor t w.victim p) (names_block t c w.victim w.named) over) in
      o.among (λ c. is_above t s c.asker && list_any (falls m c) (all_nodes t))
      (and_from (is_above t s c.asker) (list_any (falls m c) (all_nodes t)) (above_from t r s a c.asker o.holds.asker own w.asker)
      (any_from (falls m c) w.victim (all_nodes t) (below_in w.victim (length t) w.there) (and_from (is_pending t w.victim) (names t c w.victim) pending w.named)))
