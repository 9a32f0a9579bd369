-- Groups of accesses, and what is kept of them, as one access more comes.
use Rattle.std.proofs.Common.{◌≡◌, ℕ, suc, ◌<◌, List, [], ◌∷◌, ◌++◌, refl, ap, sym, ◌∙◌, Bool, true, false, cond, Option, Some, None, append-nil}
use Rattle.std.specs.Prelude.{◌==◌, ◌&&◌, ◌||◌, not, IfSome}
use Rattle.std.specs.Ordering.{is_eq, nat_cmp}
use Rattle.std.specs.Option.{option_cmp}
use Rattle.std.specs.Cmp.{tied_then, unsigned_tied}
use Rattle.std.proofs.lemmas.Bool.{and_parts}
use Rattle.std.proofs.lemmas.List.Elements.{filter-append}
use Rattle.cw_tree.specs.declared.node.Node.{Node}
use Rattle.cw_tree.specs.Nodes.{touches, below}
use Rattle.cw_tree.specs.Walks.{xparent}
use Rattle.cw_tree.specs.Series.{parallel}
use Rattle.cw_tree.specs.Shape.{IsTree}
use Rattle.cw_tree.specs.Accesses.{is_live}
use Rattle.cw_tree.proofs.Lists.{In}
use Rattle.cw_tree.proofs.Members.{in_filter, in_below}
use Rattle.cw_sp.specs.Orders.{is_leaf}
use Rattle.cw_record.specs.Items.{same_block}
use Rattle.cw_record.specs.Records.{IsNumberedDepthFirst}
use Rattle.cw_race.specs.declared.kept.Kept.{Kept}
use Rattle.cw_race.specs.Kept.{later_reader, kept_reader, last_writer, is_parallel_to, rival}
use Rattle.cw_race.specs.Races.{is_access, writes}
use Rattle.cw_race.specs.InMemory.{group_cmp, AreLeaves, is_beside, rival_of, kept_after}
use Rattle.cw_race.proofs.Readers.{last_writer_in, kept_reader_in, last_writer_more, kept_reader_more}
use Rattle.cw_race.proofs.Racing.{access_leaf, hebrew_place, group, parallel_is, later_is}

-- ## Groups

pub same_number : (a b : ℕ) → is_eq (nat_cmp a b) ≡ (a == b)
same_number a b = unsigned_tied a b

same_blocks : (a b : Option ℕ) → is_eq (option_cmp nat_cmp a b) ≡ same_block a b
same_blocks None None = refl
same_blocks None (Some b) = refl
same_blocks (Some a) None = refl
same_blocks (Some a) (Some b) = same_number a b

-- two groups are one if their cells and their blocks are
pub same_groups : (c d : ℕ) (a b : Option ℕ) → is_eq (group_cmp (c, a) (d, b)) ≡ ((c == d) && same_block a b)
same_groups c d a b =
    sym (tied_then (nat_cmp c d) (option_cmp nat_cmp a b)) ∙ ap (λ x. x && is_eq (option_cmp nat_cmp a b)) (same_number c d) ∙ ap (λ x. (c == d) && x) (same_blocks a b)

module _ (t : List Node) (c : ℕ) (b : Option ℕ) (n : ℕ) where
  -- node n is an access of the group
  abbrev pub is_member : Bool
  is_member = is_access t c n && same_block (xparent t n) b

  grown : group t c b (suc n) ≡ group t c b n ++ cond is_member (n ∷ []) []
  grown = filter-append (λ u. is_access t c u && same_block (xparent t u) b) (below n) (n ∷ [])

  pub group_more : is_member ≡ true → group t c b (suc n) ≡ group t c b n ++ n ∷ []
  group_more e = grown ∙ ap (λ x. group t c b n ++ cond x (n ∷ []) []) e

  pub group_same : is_member ≡ false → group t c b (suc n) ≡ group t c b n
  group_same e = grown ∙ ap (λ x. group t c b n ++ cond x (n ∷ []) []) e ∙ append-nil (group t c b n)

  pub record Member (u : ℕ) : Type 0 where
    pub access : is_access t c u ≡ true
    pub block : same_block (xparent t u) b ≡ true
    pub less : u < n
    pub leaf : is_leaf t u ≡ true

  pub member : (u : ℕ) → In u (group t c b n) → Member u
  member u i =
      let y = in_filter (λ u. is_access t c u && same_block (xparent t u) b) u (below n) i in
      let z = and_parts (is_access t c u) (same_block (xparent t u) b) y.1 in
      record { access = z.0; block = z.1; less = in_below u n y.0; leaf = access_leaf t c u (and_parts (touches t c u) (is_live t u) z.0).0 }

-- ## What is kept

-- what is kept of a list of accesses
abbrev pub kept_of : List Node → List ℕ → Kept
kept_of t us = record { writer = last_writer (hebrew_place t) (writes t) None us; reader = kept_reader (hebrew_place t) (writes t) None us }

module _ (t : List Node) (us : List ℕ) where
  abbrev writer : Option ℕ
  writer = last_writer (hebrew_place t) (writes t) None us

  abbrev reader : Option ℕ
  reader = kept_reader (hebrew_place t) (writes t) None us

  writer_in : (u : ℕ) → writer ≡ Some u → In u us
  writer_in u e = (last_writer_in (hebrew_place t) (writes t) us u e).0

  reader_in : (u : ℕ) → reader ≡ Some u → In u us
  reader_in u e = kept_reader_in (hebrew_place t) (writes t) us u e

  pub kept_leaves : ((u : ℕ) → In u us → is_leaf t u ≡ true) → AreLeaves t (kept_of t us)
  kept_leaves each = (leaf writer writer_in, leaf reader reader_in) where
    leaf : (o : Option ℕ) → ((u : ℕ) → o ≡ Some u → In u us) → IfSome o (λ u. is_leaf t u ≡ true)
    leaf None f = tt
    leaf (Some u) f = each u (f u refl)

  module _ (tree : IsTree t) (numbered : IsNumberedDepthFirst t) (v : ℕ) (other : is_leaf t v ≡ true) (each : (u : ℕ) → In u us → (is_leaf t u ≡ true) × (u < v)) where
    beside_is : (o : Option ℕ) → ((u : ℕ) → o ≡ Some u → In u us) → is_beside t o v ≡ is_parallel_to (hebrew_place t) (writes t) o v
    beside_is None f = refl
    beside_is (Some u) f = let z = each u (f u refl) in parallel_is t tree numbered u v z.0 other z.1

    pub rival_is : rival_of t (kept_of t us) v (writes t v) ≡ rival (hebrew_place t) (writes t) us v
    rival_is =
        ap (λ b. cond b writer (cond (writes t v && is_beside t reader v) reader None)) (beside_is writer writer_in)
        ∙ ap (λ b. cond (is_parallel_to (hebrew_place t) (writes t) writer v) writer (cond (writes t v && b) reader None)) (beside_is reader reader_in)

    reader_step : (o : Option ℕ) → ((u : ℕ) → o ≡ Some u → In u us) → (b : Bool) → cond (b || is_beside t o v) o (Some v) ≡ cond b o (later_reader (hebrew_place t) (writes t) o v)
    reader_step o f true = refl
    reader_step None f false = refl
    reader_step (Some u) f false =
        let z = each u (f u refl) in
        flip (parallel t u v) ∙ ap (λ b. cond b (Some v) (Some u)) (sym (later_is t tree numbered u v z.0 other z.1)) where
          flip : (b : Bool) → cond b (Some u) (Some v) ≡ cond (not b) (Some v) (Some u)
          flip true = refl
          flip false = refl

    pub kept_more : kept_after t (kept_of t us) v (writes t v) ≡ kept_of t (us ++ v ∷ [])
    kept_more =
        ap (λ x. let k : Kept = record { writer = cond (writes t v) (Some v) writer; reader = x } in k)
        (reader_step reader reader_in (writes t v) ∙ sym (kept_reader_more (hebrew_place t) (writes t) us None v))
        ∙ ap (λ x. let k : Kept = record { writer = x; reader = kept_reader (hebrew_place t) (writes t) None (us ++ v ∷ []) } in k)
        (sym (last_writer_more (hebrew_place t) (writes t) us None v))
