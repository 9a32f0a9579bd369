-- Each attempt before the one that spent a budget is recorded, too.
use Rattle.std.proofs.Common.{◌≡◌, ℕ, zero, suc, ◌+◌, ◌<◌, ◌≤◌, ◌-◌, Bool, true, false, ◌&&◌, ◌||◌, not, List, length, refl, ap, sym, ◌∙◌, subst, arith, inl, inr, Option, None, Some, nat_lt, nat_eq, ℤ, is_some, IsTrue, unwrap_or, ◌⊎◌}
use Rattle.std.specs.Prelude.{slice_get}
use Rattle.std.specs.List.{Contains, list_any, suffix_len}
use Rattle.std.specs.Option.{option_map, option_map_or}
use Rattle.std.proofs.lemmas.Bool.{and_parts, and_from, eqb-true, eq-eqb, lt-ltb, ltb-true, false_from_ne_true}
use Rattle.std.proofs.lemmas.List.Elements.{All-contains}
use Rattle.cw_tree.specs.declared.node.Node.{Node}
use Rattle.cw_tree.specs.declared.node.Kind.{Kind}
use Rattle.cw_tree.specs.declared.node.Kind.TheVariants.{Block, Tried}
use Rattle.cw_tree.specs.declared.access.Entry.{Entry}
use Rattle.cw_tree.specs.declared.conflict.Conflict.{Conflict}
use Rattle.cw_tree.specs.Nodes.{passes, parent_of, stamp_of, below, is_block, is_aborted, is_aborted_state, is_pending, is_fork, is_tried, is_strand_kind, is_block_kind, is_tried_kind, tries_kind, block_with_stamp}
use Rattle.cw_tree.specs.Series.{depth_first, children, has_later, last_of, strand_of}
use Rattle.cw_tree.specs.Walks.{above, is_above, is_ancestor, lca}
use Rattle.cw_tree.specs.Attempts.{elders, tried_cell, tried_cell_in, same_cell, block_attempt, access_attempt, attempt_of}
use Rattle.cw_tree.specs.Accesses.{is_live}
use Rattle.cw_tree.specs.Histories.{IsHistory}
use Rattle.cw_tree.specs.Refusals.{IsRecorded, Spent, is_victim, is_refused_in, names_victim, may_be_last, refused_node, telling, tells, outermost_apart, victim_of}
use Rattle.cw_tree.specs.Links.{is_child}
use Rattle.cw_tree.proofs.Lists.{In, any_from, at_or_before}
use Rattle.cw_tree.proofs.Members.{below_none, filter_same, in_below, filter_in}
use Rattle.cw_tree.proofs.Walks.There.{node_there}
use Rattle.cw_tree.proofs.InOrder.DepthFirst.{child_in}
use Rattle.cw_record.proofs.Lists.{filter_filter}
use Rattle.cw_replay.specs.Attempts.{IsAttemptOf, IsRefusalOf, HasAttempts, AreRecorded, RecordsAttempts, of_block, of_access}
use Rattle.cw_replay.proofs.Elders.{elder, members, run_before}
use Rattle.cw_replay.proofs.RecordsReplay.Tasks.Sorts.{tried_sort}
use Rattle.cw_replay.proofs.Found.{any_contains, find_contains, find_one, map_contains, none_contained, outermost_passes}

-- the elders of a node are those children of its parent that are below it
elders_below : (t : List Node) (n : ℕ) → n < length t → elders t n ≡ members (is_child t (parent_of t n)) n
elders_below t n h =
    let q = is_child t (parent_of t n) in
    let r : ℕ → Bool = λ m. q m && nat_lt m n in
    filter_filter q (λ m. nat_lt m n) (below (length t))
    ∙ below_none r n (length t) (omega (arith, h)) (λ m low high. not_both (q m) (nat_lt m n) (past m n low))
    ∙ filter_same r q (below n) (λ m i. both_true (q m) (nat_lt m n) (lt-ltb m n (in_below m n i)))
  where
    not_both : (a b : Bool) → b ≡ false → (a && b) ≡ false
    not_both true b e = e
    not_both false b e = refl

    both_true : (a b : Bool) → b ≡ true → (a && b) ≡ a
    both_true true b e = e
    both_true false b e = refl

    past : (m n : ℕ) → n ≤ m → nat_lt m n ≡ false
    past m n l = false_from_ne_true (nat_lt m n) (λ e. let less = ltb-true m n e in absurd (omega arith))

-- a block is no strand and no refused access
block_kind : (o : Option Node) → passes (λ x. is_block_kind x.kind) o ≡ true → (passes (λ x. is_strand_kind x.kind) o ≡ false) × (passes (λ x. is_tried_kind x.kind) o ≡ false)
block_kind None e = absurd (cc e)
block_kind (Some x) e = by_kind x.kind e where
  by_kind : (k : Kind) → is_block_kind k ≡ true → (is_strand_kind k ≡ false) × (is_tried_kind k ≡ false)
  by_kind Block e = (refl, refl)
  by_kind _ e = absurd (cc e)

tries_one : (c : ℕ) (o : Option Node) → passes (λ x. tries_kind c x.kind) o ≡ true → passes (λ x. is_tried_kind x.kind) o ≡ true
tries_one c None e = absurd (cc e)
tries_one c (Some x) e = by_kind x.kind e where
  by_kind : (k : Kind) → tries_kind c k ≡ true → is_tried_kind k ≡ true
  by_kind (Tried d) e = refl
  by_kind _ e = absurd (cc e)

module _ (t : List Node) (first : List ℤ) (kept : List (List Entry)) (cs : List Conflict) (h : IsHistory t first kept cs) where
  stamped : (b : ℕ) → is_block t b ≡ true → 0 < stamp_of t b
  stamped b e =
      let (strand, tried) = block_kind (slice_get t b) e in
      ltb-true 0 (stamp_of t b) (h.stamps.there b (node_there (λ x. is_block_kind x.kind) t b e) ∙ ap not (ap (λ x. x || is_tried t b) strand ∙ tried))

  same_block : (a b : ℕ) → is_block t a ≡ true → is_block t b ≡ true → stamp_of t a ≡ stamp_of t b → a ≡ b
  same_block a b e f same = h.stamps.distinct a b (node_there (λ x. is_block_kind x.kind) t a e) (node_there (λ x. is_block_kind x.kind) t b f) (stamped a e) same

  begun_at : (b : ℕ) → is_block t b ≡ true → block_with_stamp t (stamp_of t b) ≡ Some b
  begun_at b e =
      find_one (λ n. is_block t n && nat_eq (stamp_of t n) (stamp_of t b)) (length t) b (node_there (λ x. is_block_kind x.kind) t b e)
      (and_from (is_block t b) (nat_eq (stamp_of t b) (stamp_of t b)) e (eq-eqb (stamp_of t b) (stamp_of t b) refl))
      (λ m l f. let (block, same) = and_parts (is_block t m) (nat_eq (stamp_of t m) (stamp_of t b)) f in same_block m b block e (eqb-true (stamp_of t m) (stamp_of t b) same))

  not_root : (b : ℕ) → b < length t → is_block t b ≡ true → 0 < b
  not_root zero low e = absurd (cc (h.tree.root, (block_kind (slice_get t 0) e).0))
  not_root (suc b) low e = omega arith

  tried_not_root : (n : ℕ) → is_tried t n ≡ true → 0 < n
  tried_not_root zero e = absurd (cc (h.tree.root, (tried_sort t 0 e).strand))
  tried_not_root (suc n) e = omega arith

  -- a node other than the root is a child of its parent
  among : (n : ℕ) → 0 < n → n < length t → In n (children t (parent_of t n))
  among n s l = child_in t (parent_of t n) n (record { some = s; there = l; parent = refl })

  -- one that stands before another in its place has a later one
  has_one_later : (m n : ℕ) → m < n → n < length t → parent_of t m ≡ parent_of t n → has_later t m ≡ true
  has_one_later m n l low same =
      let P : ℕ → Type 0 = λ p. In n (children t p) in
      any_from (nat_lt m) n (children t (parent_of t m)) (subst P (sym same) (among n (omega arith) low)) (lt-ltb m n l)

  -- ## What a conflict says of its attempt

  is_recorded : (c : Conflict) → Contains cs c → IsRecorded t c
  is_recorded c has = All-contains (IsRecorded t) cs c h.refusals.recorded has

  pub conflict_has_fork : (c : Conflict) → Contains cs c → (f : ℕ) × IsTrue (is_fork t f)
  conflict_has_fork c has = let (u, stood, r) = is_recorded c has in (lca t u c.asker, (and_parts (not (is_ancestor t u c.asker) && not (is_ancestor t c.asker u)) (is_fork t (lca t u c.asker)) r.parallel).1)

  victim_attempt : (c : Conflict) → Contains cs c → (b : ℕ) → is_block t b ≡ true → victim_of c ≡ Some (stamp_of t b) → c.attempt ≡ block_attempt t b
  victim_attempt c has b e told =
      let (u, stood, r) = is_recorded c has in
      by_apart u (outermost_apart t u c.asker) refl (sym told ∙ r.victim) r.attempt
    where
      by_apart : (u : ℕ) (o : Option ℕ) → outermost_apart t u c.asker ≡ o → Some (stamp_of t b) ≡ option_map (stamp_of t) (outermost_apart t u c.asker) → c.attempt ≡ attempt_of t c.asker (outermost_apart t u c.asker) → c.attempt ≡ block_attempt t b
      by_apart u None f same number = absurd (cc (same ∙ ap (option_map (stamp_of t)) f))
      by_apart u (Some x) f same number =
          let (block, apart) = and_parts (is_block t x) (not (is_above t x u)) (outermost_passes (λ m. is_block t m && not (is_above t m u)) (above t c.asker) x f) in
          let stamps : stamp_of t b ≡ stamp_of t x = cc (same ∙ ap (option_map (stamp_of t)) f) in
          number ∙ ap (attempt_of t c.asker) f ∙ ap (block_attempt t) (same_block x b block e (sym stamps))

  alone_attempt : (c : Conflict) → Contains cs c → victim_of c ≡ None → c.attempt ≡ access_attempt t c.asker
  alone_attempt c has told =
      let (u, stood, r) = is_recorded c has in
      by_apart u (outermost_apart t u c.asker) refl (sym told ∙ r.victim) r.attempt
    where
      by_apart : (u : ℕ) (o : Option ℕ) → outermost_apart t u c.asker ≡ o → None ≡ option_map (stamp_of t) (outermost_apart t u c.asker) → c.attempt ≡ attempt_of t c.asker (outermost_apart t u c.asker) → c.attempt ≡ access_attempt t c.asker
      by_apart u None f same number = number ∙ ap (attempt_of t c.asker) f
      by_apart u (Some x) f same number = absurd (cc (same ∙ ap (option_map (stamp_of t)) f))

  -- ## The attempts of a block

  run_of : (p : ℕ → Bool) (n : ℕ) → n < length t → suffix_len p (elders t n) ≡ run_before (is_child t (parent_of t n)) p n
  run_of p n l = ap (suffix_len p) (elders_below t n l)

  -- what stands at an elder of b, with the number of what stands right before it
  elder_number : (p : ℕ → Bool) (b m k : ℕ) → m < length t → is_child t (parent_of t b) m ≡ true → run_before (is_child t (parent_of t b)) p m ≡ k → suffix_len p (elders t m) ≡ k
  elder_number p b m k l child number =
      let (some, same) = and_parts (nat_lt 0 m) (nat_eq (parent_of t m) (parent_of t b)) child in
      run_of p m l ∙ ap (λ q. run_before (is_child t q) p m) (eqb-true (parent_of t m) (parent_of t b) same) ∙ number

  told_victim : (o : Option ℕ) (v : ℕ) → option_map_or (λ x. nat_eq x v) o false ≡ true → o ≡ Some v
  told_victim None v e = absurd (cc e)
  told_victim (Some x) v e = ap Some (eqb-true x v e)

  -- a block that was rolled back and has a later node in its place is the victim of a conflict
  is_told : (m : ℕ) → is_aborted t m ≡ true → has_later t m ≡ true → (c : Conflict) × Contains cs c × (is_block t m ≡ true) × (victim_of c ≡ Some (stamp_of t m))
  is_told m aborted later =
      let low = node_there (λ x. is_block_kind x.kind && is_aborted_state x.state) t m aborted in
      let victim : is_victim t cs m ≡ true = by_test (is_victim t cs m) refl low in
      let (block, some) = and_parts (is_block t m) (list_any (λ c. option_map_or (λ v. nat_eq v (stamp_of t m)) (victim_of c) false) cs) victim in
      let (c, has, told) = any_contains (λ c. option_map_or (λ v. nat_eq v (stamp_of t m)) (victim_of c) false) cs some in
      (c, has, block, told_victim (victim_of c) (stamp_of t m) told)
    where
      by_test : (b : Bool) → is_victim t cs m ≡ b → m < length t → is_victim t cs m ≡ true
      by_test true e low = e
      by_test false e low = absurd (cc (later, h.rolls_back.aborted m low (and_from (is_aborted t m) (not (is_victim t cs m)) aborted (ap not e))))

  block_attempts : (c : Conflict) → Contains cs c → (b : ℕ) → is_block t b ≡ true → victim_of c ≡ Some (stamp_of t b) → HasAttempts c.attempt cs (λ d. (m : ℕ) × IsAttemptOf t b m × (victim_of d ≡ Some (stamp_of t m)))
  block_attempts c has b block told zero some upto = absurd (omega (arith, some))
  block_attempts c has b block told (suc k) some upto =
      let low = node_there (λ x. is_block_kind x.kind) t b block in
      let number = victim_attempt c has b block told in
      let run = run_of (is_aborted t) b low in
      by_number low (at_or_before k (c.attempt - 1) (omega (arith, upto))) number run
    where
      here : (0 < b) → IsAttemptOf t b b
      here s = record { some = s; place = refl; upto = omega arith; rolled_back = λ n same from to. absurd (omega (arith, from, to)) }

      by_number : b < length t → (k < c.attempt - 1) ⊎ (c.attempt - 1 ≡ k) → c.attempt ≡ block_attempt t b → suffix_len (is_aborted t) (elders t b) ≡ run_before (is_child t (parent_of t b)) (is_aborted t) b
          → (d : Conflict) × Contains cs d × (d.attempt ≡ suc k) × ((m : ℕ) × IsAttemptOf t b m × (victim_of d ≡ Some (stamp_of t m)))
      by_number low (inr last) number run = (c, has, omega (arith, last, number), (b, here (not_root b low block), told))
      by_number low (inl less) number run =
          let e = elder (is_child t (parent_of t b)) (is_aborted t) b k (omega (arith, less, number, run)) in
          let (first_one, same) = and_parts (nat_lt 0 e.node) (nat_eq (parent_of t e.node) (parent_of t b)) e.there in
          let place : parent_of t e.node ≡ parent_of t b = eqb-true (parent_of t e.node) (parent_of t b) same in
          let (d, within, older, told_too) = is_told e.node (e.all e.node e.there (omega arith) e.lower) (has_one_later e.node b e.lower low place) in
          let number_is : d.attempt ≡ suc k = omega (arith, victim_attempt d within e.node older told_too, elder_number (is_aborted t) b e.node k (omega (arith, e.lower, low)) e.there e.number) in (
            d,
            within,
            number_is,
            (
              e.node,
              record {
                some = ltb-true 0 e.node first_one;
                place = place;
                upto = omega (arith, e.lower);
                rolled_back = λ n beside from to. e.all n (and_from (nat_lt 0 n) (nat_eq (parent_of t n) (parent_of t b)) (lt-ltb 0 n (omega (arith, from, ltb-true 0 e.node first_one))) (eq-eqb (parent_of t n) (parent_of t b) beside)) from to;
              },
              told_too,
            ),
          )

  -- ## The refusals of an access

  told_alone : (o : Option ℕ) → is_some o ≡ false → o ≡ None
  told_alone None e = refl
  told_alone (Some x) e = absurd (cc e)

  abbrev cell_of : Option Node → Option ℕ
  cell_of None = None
  cell_of (Some x) = tried_cell_in x.kind

  cell_is : (m : ℕ) → tried_cell t m ≡ cell_of (slice_get t m)
  cell_is m = elim (slice_get t m) [ None ↦ refl | Some x ↦ refl ]

  cell_tried : (o : Option Node) (c : ℕ) → cell_of o ≡ Some c → passes (λ x. is_tried_kind x.kind) o ≡ true
  cell_tried None c e = absurd (cc e)
  cell_tried (Some x) c e = by_kind x.kind e where
    by_kind : (k : Kind) → tried_cell_in k ≡ Some c → is_tried_kind k ≡ true
    by_kind (Tried d) e = refl
    by_kind _ e = absurd (cc e)

  module _ (walked : (n : ℕ) → n < length t → In n (depth_first t)) where
    -- a refused access with a later node in its place has a conflict without a victim
    is_told_alone : (m : ℕ) → is_tried t m ≡ true → has_later t m ≡ true → (c : Conflict) × Contains cs c × (c.asker ≡ m) × (victim_of c ≡ None)
    is_told_alone m tried later =
        let low = node_there (λ x. is_tried_kind x.kind) t m tried in
        let P : List ℕ → Type 0 = In m in
        let (c, has, same) = map_contains (λ c. c.asker) cs m (subst P (sym h.refusals.each) (filter_in (is_tried t) m (depth_first t) (walked m low) tried)) in
        let stays = false_from_ne_true (names_victim cs m) (λ e. absurd (cc (later, h.rolls_back.tried m low e))) in
        let apart = none_contained (λ c. nat_eq c.asker m && is_some (victim_of c)) cs stays c has in
        (c, has, same, told_alone (victim_of c) (sym (ap (λ b. b && is_some (victim_of c)) (eq-eqb c.asker m same)) ∙ apart))

    same_tried : (a b : Option ℕ) → same_cell a b ≡ true → (a ≡ b) × ((c : ℕ) × (a ≡ Some c))
    same_tried None b e = absurd (cc e)
    same_tried (Some c) None e = absurd (cc e)
    same_tried (Some c) (Some d) e = (ap Some (eqb-true c d e), (c, refl))

    access_attempts : (c : Conflict) → Contains cs c → is_tried t c.asker ≡ true → victim_of c ≡ None → HasAttempts c.attempt cs (λ d. (victim_of d ≡ None) × IsRefusalOf t c.asker d.asker)
    access_attempts c has tried alone zero some upto = absurd (omega (arith, some))
    access_attempts c has tried alone (suc k) some upto =
        let low = node_there (λ x. is_tried_kind x.kind) t c.asker tried in
        by_number low (at_or_before k (c.attempt - 1) (omega (arith, upto))) (alone_attempt c has alone) (run_of (λ m. same_cell (tried_cell t m) (tried_cell t c.asker)) c.asker low)
      where
        v : ℕ
        v = c.asker

        same : ℕ → Bool
        same m = same_cell (tried_cell t m) (tried_cell t c.asker)

        here : 0 < c.asker → IsRefusalOf t c.asker c.asker
        here s = record { some = s; place = refl; upto = omega arith; refused = λ n beside from to. absurd (omega (arith, from, to)) }

        by_number : c.asker < length t → (k < c.attempt - 1) ⊎ (c.attempt - 1 ≡ k) → c.attempt ≡ access_attempt t c.asker → suffix_len same (elders t c.asker) ≡ run_before (is_child t (parent_of t c.asker)) same c.asker
            → (d : Conflict) × Contains cs d × (d.attempt ≡ suc k) × ((victim_of d ≡ None) × IsRefusalOf t c.asker d.asker)
        by_number low (inr last) number run = (c, has, omega (arith, last, number), (alone, here (tried_not_root c.asker tried)))
        by_number low (inl less) number run =
            let e = elder (is_child t (parent_of t c.asker)) same c.asker k (omega (arith, less, number, run)) in
            let (first_one, beside_it) = and_parts (nat_lt 0 e.node) (nat_eq (parent_of t e.node) (parent_of t c.asker)) e.there in
            let place : parent_of t e.node ≡ parent_of t c.asker = eqb-true (parent_of t e.node) (parent_of t c.asker) beside_it in
            let (cells, (cell, is)) = same_tried (tried_cell t e.node) (tried_cell t c.asker) (e.all e.node e.there (omega arith) e.lower) in
            let older : is_tried t e.node ≡ true = cell_tried (slice_get t e.node) cell (sym (cell_is e.node) ∙ is) in
            let (d, within, asks, told) = is_told_alone e.node older (has_one_later e.node c.asker e.lower low place) in
            let counted : access_attempt t e.node ≡ k + 1 = ap (λ x. suffix_len (λ m. same_cell (tried_cell t m) x) (elders t e.node) + 1) cells ∙ ap (λ n. n + 1) (elder_number same c.asker e.node k (omega (arith, e.lower, low)) e.there e.number) in
            let refusal : IsRefusalOf t c.asker e.node = record {
              some = ltb-true 0 e.node first_one;
              place = place;
              upto = omega (arith, e.lower);
              refused = λ n beside from to. e.all n (and_from (nat_lt 0 n) (nat_eq (parent_of t n) (parent_of t c.asker)) (lt-ltb 0 n (omega (arith, from, ltb-true 0 e.node first_one))) (eq-eqb (parent_of t n) (parent_of t c.asker) beside)) from to;
            } in
            let number_is : d.attempt ≡ suc k = omega (arith, alone_attempt d within told, ap (access_attempt t) asks, counted) in
            (d, within, number_is, (told, subst (IsRefusalOf t c.asker) (sym asks) refusal))

    -- ## A spent budget

    budget_block : (budget s : ℕ) (c : Conflict) → Contains cs c → c.attempt ≡ budget → (v : ℕ) → victim_of c ≡ Some v → is_refused_in t s c.asker (Some v) ≡ true → may_be_last t c ≡ true → AreRecorded t cs budget s c
    budget_block budget s c has number v told stands last =
        let (u, stood, r) = is_recorded c has in
        by_apart u (outermost_apart t u c.asker) refl (sym told ∙ r.victim)
      where
        by_apart : (u : ℕ) (o : Option ℕ) → outermost_apart t u c.asker ≡ o → Some v ≡ option_map (stamp_of t) (outermost_apart t u c.asker) → AreRecorded t cs budget s c
        by_apart u None f same = absurd (cc (same ∙ ap (option_map (stamp_of t)) f))
        by_apart u (Some b) f same =
            let (block, apart) = and_parts (is_block t b) (not (is_above t b u)) (outermost_passes (λ m. is_block t m && not (is_above t m u)) (above t c.asker) b f) in
            let is : v ≡ stamp_of t b = cc (same ∙ ap (option_map (stamp_of t)) f) in
            let begun : block_with_stamp t v ≡ Some b = ap (block_with_stamp t) is ∙ begun_at b block in
            let fell : refused_node t c ≡ b = ap (λ o. option_map_or (λ x. unwrap_or (block_with_stamp t x) 0) o c.asker) told ∙ ap (λ o. unwrap_or o 0) begun in
            let (live, ends) = and_parts (is_live t (refused_node t c)) (is_tried t (refused_node t c) || is_pending t (refused_node t c)) last in
            let pending : is_pending t b ≡ true = ap (λ x. x || is_pending t b) (sym (block_kind (slice_get t b) block).1) ∙ (ap (λ n. is_tried t n || is_pending t n) (sym fell) ∙ ends) in
            let own : strand_of t b ≡ s = eqb-true (strand_of t b) s (sym (ap (λ o. option_map_or (λ n. nat_eq (strand_of t n) s) o false) begun) ∙ stands) in
            let P : ℕ → Type 0 = λ n. HasAttempts n cs (λ d. (m : ℕ) × IsAttemptOf t b m × (victim_of d ≡ Some (stamp_of t m))) in
            of_block b fell pending own (sym (victim_attempt c has b block (told ∙ ap Some is)) ∙ number) (subst P number (block_attempts c has b block (told ∙ ap Some is)))

    budget_access : (budget s : ℕ) (c : Conflict) → Contains cs c → c.attempt ≡ budget → victim_of c ≡ None → is_refused_in t s c.asker None ≡ true → AreRecorded t cs budget s c
    budget_access budget s c has number alone stands =
        let (u, stood, r) = is_recorded c has in
        let tried : is_tried t c.asker ≡ true = tries_one c.cell (slice_get t c.asker) r.asker in
        let P : ℕ → Type 0 = λ n. HasAttempts n cs (λ d. (victim_of d ≡ None) × IsRefusalOf t c.asker d.asker) in
        of_access c.asker (ap (λ o. option_map_or (λ x. unwrap_or (block_with_stamp t x) 0) o c.asker) alone) tried (eqb-true (last_of t s) c.asker stands) (sym (alone_attempt c has alone) ∙ number) (subst P number (access_attempts c has tried alone))

    pub records_attempts : (budget s : ℕ) → Spent t cs budget s → RecordsAttempts t cs budget s
    records_attempts budget s spent = by_telling (telling t cs budget s) refl where
      by_victim : (c : Conflict) (o : Option ℕ) → victim_of c ≡ o → Contains cs c → c.attempt ≡ budget → is_refused_in t s c.asker (victim_of c) ≡ true → may_be_last t c ≡ true → AreRecorded t cs budget s c
      by_victim c None e has number stands last = budget_access budget s c has number e (sym (ap (is_refused_in t s c.asker) e) ∙ stands)
      by_victim c (Some v) e has number stands last = budget_block budget s c has number v e (sym (ap (is_refused_in t s c.asker) e) ∙ stands) last

      by_telling : (o : Option Conflict) → telling t cs budget s ≡ o → RecordsAttempts t cs budget s
      by_telling None e = absurd (cc (spent.told, ap (λ o. option_map_or (may_be_last t) o false) e))
      by_telling (Some c) e =
          let (has, tells_it) = find_contains (tells t budget s) cs c e in
          let (number, stands) = and_parts (nat_eq c.attempt budget) (is_refused_in t s c.asker (victim_of c)) tells_it in
          (c, e, by_victim c (victim_of c) refl has (eqb-true c.attempt budget number) stands (sym (ap (λ o. option_map_or (may_be_last t) o false) e) ∙ spent.told))
