-- The first place of a name in a list, the names that are listed once, and the first node with a name.
use Rattle.std.proofs.Common.{◌≡◌, ℕ, zero, suc, ◌<◌, ◌≤◌, List, [], ◌∷◌, ◌++◌, length, map, get_or, refl, ap, sym, ◌∙◌, arith, Bool, true, false, cond, Option, Some, None, inl, inr, subst}
use Rattle.std.specs.Prelude.{◌||◌, unwrap_or, option_map}
use Rattle.std.specs.List.{list_any}
use Rattle.std.specs.Option.{option_or, is_some}
use Rattle.std.proofs.lemmas.Bool.{cases_lt}
use Rattle.cw_tree.specs.declared.node.Node.{Node}
use Rattle.cw_tree.specs.declared.picks.Turn.{Turn}
use Rattle.cw_tree.specs.Nodes.{all_nodes}
use Rattle.cw_tree.specs.Names.{name_of}
use Rattle.cw_tree.proofs.Lists.{length_map_below, get_map_below}
use Rattle.cw_serial.specs.Machine.{same_name}
use Rattle.cw_serial.proofs.Turns.{name_true, name_itself}
use Rattle.cw_record.specs.Listed.{once, index_of}
use Rattle.cw_record.specs.Walked.{first_named, place_in}
use Rattle.cw_record.proofs.Orders.Names.{name_sym}

-- ## The index of a name

index_first_step : (qs : List (List Turn)) (p q : List Turn) (b : Bool) → same_name q p ≡ b → (n : ℕ) (d : List Turn) → ((m : ℕ) → m < length qs → get_or qs m d ≡ p → index_of qs p ≤ m) → n < suc (length qs) → get_or (q ∷ qs) n d ≡ p → cond b 0 (suc (index_of qs p)) ≤ n
index_first_step qs p q true s n d more h e = omega arith
index_first_step qs p q false s zero d more h e = absurd (cc (s, (let P : List Turn → Type 0 = λ x. same_name q x ≡ true in subst P e (name_itself q))))
index_first_step qs p q false s (suc n) d more h e = omega (arith, more n (omega arith) e)

-- no later than any place where the name stands
pub index_first : (ps : List (List Turn)) (p : List Turn) (n : ℕ) (d : List Turn) → n < length ps → get_or ps n d ≡ p → index_of ps p ≤ n
index_first [] p n d h e = absurd (omega arith)
index_first (q ∷ qs) p n d h e = index_first_step qs p q (same_name q p) refl n d (λ m l f. index_first qs p m d l f) h e

index_at_step : (qs : List (List Turn)) (p q : List Turn) (b : Bool) → same_name q p ≡ b → (d : List Turn) → (index_of qs p < length qs → get_or qs (index_of qs p) d ≡ p) → cond b 0 (suc (index_of qs p)) < suc (length qs) → get_or (q ∷ qs) (cond b 0 (suc (index_of qs p))) d ≡ p
index_at_step qs p q true s d more h = name_true q p s
index_at_step qs p q false s d more h = more (omega arith)

-- the name stands there
pub index_at : (ps : List (List Turn)) (p d : List Turn) → index_of ps p < length ps → get_or ps (index_of ps p) d ≡ p
index_at [] p d h = absurd (omega arith)
index_at (q ∷ qs) p d h = index_at_step qs p q (same_name q p) refl d (λ l. index_at qs p d l) h

-- ## The first node with a name

module _ (t : List Node) where
  named : (n : ℕ) → n < length t → get_or (map (name_of t) (all_nodes t)) n [] ≡ name_of t n
  named n h = get_map_below (name_of t) (length t) n [] h

  pub first_le : (n : ℕ) → n < length t → first_named t n ≤ n
  first_le n h = index_first (map (name_of t) (all_nodes t)) (name_of t n) n [] (omega (arith, length_map_below (name_of t) (length t))) (named n h)

  pub first_name : (n : ℕ) → n < length t → name_of t (first_named t n) ≡ name_of t n
  first_name n h =
      let le = first_le n h in
      sym (named (first_named t n) (omega arith)) ∙ index_at (map (name_of t) (all_nodes t)) (name_of t n) [] (omega (arith, length_map_below (name_of t) (length t)))

  pub first_same : (n m : ℕ) → name_of t n ≡ name_of t m → first_named t n ≡ first_named t m
  first_same n m e = ap (index_of (map (name_of t) (all_nodes t))) e

  pub names_same : (n m : ℕ) → n < length t → m < length t → first_named t n ≡ first_named t m → name_of t n ≡ name_of t m
  names_same n m h l e = sym (first_name n h) ∙ ap (name_of t) e ∙ first_name m l

  pub first_is : (n : ℕ) → n < length t → ((m : ℕ) → m < n → name_of t m ≡ name_of t n → ⊥) → first_named t n ≡ n
  first_is n h none =
      let le = first_le n h in
      elim (cases_lt (first_named t n) n) [ inl less ↦ absurd (none (first_named t n) less (first_name n h)) | inr ge ↦ omega arith ]

-- ## The place of a name, if it stands in a list

place_push_step : (b c : Bool) (o : Option ℕ) (k : ℕ) → cond b (Some 0) (option_map suc (option_or o (cond c (Some k) None))) ≡ option_or (cond b (Some 0) (option_map suc o)) (cond c (Some (suc k)) None)
place_push_step true c o k = refl
place_push_step false true None k = refl
place_push_step false false None k = refl
place_push_step false c (Some i) k = refl

pub place_push : (ps : List (List Turn)) (q p : List Turn) → place_in (ps ++ q ∷ []) p ≡ option_or (place_in ps p) (cond (same_name q p) (Some (length ps)) None)
place_push [] q p = refl
place_push (x ∷ ps) q p = ap (λ o. cond (same_name x p) (Some 0) (option_map suc o)) (place_push ps q p) ∙ place_push_step (same_name x p) (same_name q p) (place_in ps p) (length ps)

place_index_step : (b : Bool) (o : Option ℕ) (k : ℕ) → unwrap_or (cond b (Some 0) (option_map suc o)) (suc k) ≡ cond b 0 (suc (unwrap_or o k))
place_index_step true o k = refl
place_index_step false None k = refl
place_index_step false (Some i) k = refl

pub place_index : (ps : List (List Turn)) (p : List Turn) → unwrap_or (place_in ps p) (length ps) ≡ index_of ps p
place_index [] p = refl
place_index (q ∷ ps) p = place_index_step (same_name q p) (place_in ps p) (length ps) ∙ ap (λ k. cond (same_name q p) 0 (suc k)) (place_index ps p)

place_some_step : (b : Bool) (o : Option ℕ) → is_some (cond b (Some 0) (option_map suc o)) ≡ (b || is_some o)
place_some_step true o = refl
place_some_step false None = refl
place_some_step false (Some i) = refl

pub place_some : (ps : List (List Turn)) (p : List Turn) → is_some (place_in ps p) ≡ list_any (same_name p) ps
place_some [] p = refl
place_some (q ∷ ps) p = place_some_step (same_name q p) (place_in ps p) ∙ ap (λ b. b || is_some (place_in ps p)) (name_sym q p) ∙ ap (λ b. same_name p q || b) (place_some ps p)

-- ## One more name

either_way : (a b c : Bool) → ((a || b) || c) ≡ (b || (a || c))
either_way true true c = refl
either_way true false c = refl
either_way false true c = refl
either_way false false c = refl

-- the names ps give, each once, and p where it is none of these and was not seen
abbrev added : (seen ps : List (List Turn)) → List Turn → List (List Turn)
added seen ps p = ps ++ cond (list_any (same_name p) seen || list_any (same_name p) ps) [] (p ∷ [])

once_one : (b : Bool) (p : List Turn) → cond b [] (p ∷ []) ≡ cond (b || false) [] (p ∷ [])
once_one true p = refl
once_one false p = refl

once_more : (b : Bool) (seen ps qs : List (List Turn)) (q p : List Turn) → once seen qs ≡ added seen (once seen ps) p → once (q ∷ seen) qs ≡ added (q ∷ seen) (once (q ∷ seen) ps) p
    → cond b (once seen qs) (q ∷ once (q ∷ seen) qs) ≡ added seen (cond b (once seen ps) (q ∷ once (q ∷ seen) ps)) p
once_more true seen ps qs q p e f = e
once_more false seen ps qs q p e f =
    ap (λ xs. q ∷ xs) f ∙ ap (λ b. q ∷ once (q ∷ seen) ps ++ cond b [] (p ∷ [])) (either_way (same_name p q) (list_any (same_name p) seen) (list_any (same_name p) (once (q ∷ seen) ps)))

once_added : (ps seen : List (List Turn)) (p : List Turn) → once seen (ps ++ p ∷ []) ≡ added seen (once seen ps) p
once_added [] seen p = once_one (list_any (same_name p) seen) p
once_added (q ∷ ps) seen p = once_more (list_any (same_name q) seen) seen ps (ps ++ p ∷ []) q p (once_added ps seen p) (once_added ps (q ∷ seen) p)

-- the names listed once, of one name more
pub once_push : (ps : List (List Turn)) (p : List Turn) → once [] (ps ++ p ∷ []) ≡ once [] ps ++ cond (is_some (place_in (once [] ps) p)) [] (p ∷ [])
once_push ps p = once_added ps [] p ∙ ap (λ b. once [] ps ++ cond b [] (p ∷ [])) (sym (place_some (once [] ps) p))
