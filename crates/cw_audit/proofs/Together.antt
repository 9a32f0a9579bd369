-- The live accesses of a cell beneath one block are together.
use Rattle.std.proofs.Common.{◌≡◌, ℕ, ◌+◌, ◌<◌, List, [], ◌∷◌, ◌++◌, map, filter, length, refl, sym, ap, ◌∙◌, subst, arith, Bool, true, false, cond, inl, inr}
use Rattle.std.specs.Prelude.{◌&&◌, ◌||◌, not, is_some}
use Rattle.std.specs.List.{list_any, list_all}
use Rattle.std.proofs.lemmas.Bool.{and_parts, and_from, not_from_false}
use Rattle.std.proofs.lemmas.List.Elements.{filter-append}
use Rattle.cw_tree.specs.declared.node.Node.{Node}
use Rattle.cw_tree.specs.Nodes.{stamp_of, end_of, is_block, is_block_kind}
use Rattle.cw_tree.specs.Walks.{is_above}
use Rattle.cw_tree.specs.Shape.{AreStamps}
use Rattle.cw_tree.specs.Accesses.{live_accesses, written}
use Rattle.cw_tree.specs.ForkCounts.{one_if}
use Rattle.cw_tree.specs.Journals.{EndedBetween, AllEndedBetween}
use Rattle.cw_tree.proofs.Lists.{In}
use Rattle.cw_tree.proofs.Members.{map_in}
use Rattle.cw_tree.proofs.Rising.{Rises}
use Rattle.cw_tree.proofs.Walks.There.{node_there}
use Rattle.cw_tree.proofs.ChainLaws.LiveAccesses.{live_there, live_rises}
use Rattle.cw_audit.specs.Together.{AreTogether, pairs, live_writes, AccessesAreTogether, WrittenByPairs}
use Rattle.cw_audit.proofs.TwoBlocks.{either, committed_not_pending}

-- ## Lists

pub or_false : (a b : Bool) → a ≡ false → b ≡ false → (a || b) ≡ false
or_false false b e f = f
or_false true b e f = absurd (cc e)

pub or_parts : (a b : Bool) → (a || b) ≡ false → (a ≡ false) × (b ≡ false)
or_parts false b e = (refl, e)
or_parts true b e = absurd (cc e)

none_any : (p : ℕ → Bool) (ns : List ℕ) → ((n : ℕ) → In n ns → p n ≡ false) → list_any p ns ≡ false
none_any p [] h = refl
none_any p (n ∷ ns) h = or_false (p n) (list_any p ns) (h n (inl refl)) (none_any p ns (λ m i. h m (inr i)))

any_kept : (p q : ℕ → Bool) (ns : List ℕ) → list_any p ns ≡ false → list_any p (filter q ns) ≡ false
any_kept p q [] e = refl
any_kept p q (n ∷ ns) e = let z = or_parts (p n) (list_any p ns) e in by (q n) z.0 (any_kept p q ns z.1) where
  by : (b : Bool) → p n ≡ false → list_any p (filter q ns) ≡ false → list_any p (cond b (n ∷ filter q ns) (filter q ns)) ≡ false
  by true f g = or_false (p n) (list_any p (filter q ns)) f g
  by false f g = g

all_kept : (p q : ℕ → Bool) (ns : List ℕ) → list_all p ns ≡ true → list_all p (filter q ns) ≡ true
all_kept p q [] e = refl
all_kept p q (n ∷ ns) e = let z = and_parts (p n) (list_all p ns) e in by (q n) z.0 (all_kept p q ns z.1) where
  by : (b : Bool) → p n ≡ true → list_all p (filter q ns) ≡ true → list_all p (cond b (n ∷ filter q ns) (filter q ns)) ≡ true
  by true f g = and_from (p n) (list_all p (filter q ns)) f g
  by false f g = g

-- what is together stays together where others are left out
together_kept : (p q : ℕ → Bool) (ns : List ℕ) → AreTogether p ns → AreTogether p (filter q ns)
together_kept p q ns w = record {
  front = filter q w.front;
  middle = filter q w.middle;
  back = filter q w.back;
  parts = ap (filter q) w.parts ∙ filter-append q w.front (w.middle ++ w.back) ∙ ap (λ xs. filter q w.front ++ xs) (filter-append q w.middle w.back);
  before = any_kept p q w.front w.before;
  inside = all_kept p q w.middle w.inside;
  behind = any_kept p q w.back w.behind;
}

-- ## Pairs

abbrev ByPairs : (ℕ → Bool) → List ℕ → Type 0
ByPairs p ns = length (filter p ns) ≡ pairs p ns + one_if (list_any p ns)

-- a first one that does not pass changes nothing
passed_by : (p : ℕ → Bool) (u : ℕ) (ns : List ℕ) → p u ≡ false → (length (filter p (u ∷ ns)) ≡ length (filter p ns)) × (pairs p (u ∷ ns) ≡ pairs p ns) × (list_any p (u ∷ ns) ≡ list_any p ns)
passed_by p u [] e = (ap (λ b. length (cond b (u ∷ []) [])) e, refl, ap (λ b. b || false) e)
passed_by p u (v ∷ ns) e = (
  ap (λ b. length (cond b (u ∷ filter p (v ∷ ns)) (filter p (v ∷ ns)))) e,
  ap (λ b. one_if (b && p v) + pairs p (v ∷ ns)) e ∙ omega arith,
  ap (λ b. b || list_any p (v ∷ ns)) e,
)

skip : (p : ℕ → Bool) (u : ℕ) (ns : List ℕ) → p u ≡ false → ByPairs p ns → ByPairs p (u ∷ ns)
skip p u ns e h =
    let z = passed_by p u ns e in
    z.0 ∙ h ∙ ap (λ k. k + one_if (list_any p ns)) (sym z.1) ∙ ap (λ b. pairs p (u ∷ ns) + one_if b) (sym z.2)

-- where none passes
none_passes : (p : ℕ → Bool) (ns : List ℕ) → list_any p ns ≡ false → (length (filter p ns) ≡ 0) × (pairs p ns ≡ 0)
none_passes p [] e = (refl, refl)
none_passes p (n ∷ ns) e =
    let z = or_parts (p n) (list_any p ns) e in
    let y = passed_by p n ns z.0 in
    let x = none_passes p ns z.1 in
    (y.0 ∙ x.0, y.1 ∙ x.1)

-- those that pass, the first of which is u, and then none
first_passes : (p : ℕ → Bool) (u : ℕ) (middle back : List ℕ) → p u ≡ true → list_all p middle ≡ true → list_any p back ≡ false → length (filter p (u ∷ middle ++ back)) ≡ pairs p (u ∷ middle ++ back) + 1
first_passes p u [] [] e all none = ap (λ b. length (cond b (u ∷ []) [])) e
first_passes p u [] (v ∷ back) e all none =
    let z = or_parts (p v) (list_any p back) none in
    let x = none_passes p (v ∷ back) none in
    let counted : length (filter p (u ∷ v ∷ back)) ≡ 1 + length (filter p (v ∷ back)) = ap (λ b. length (cond b (u ∷ filter p (v ∷ back)) (filter p (v ∷ back)))) e ∙ omega arith in
    let paired : pairs p (u ∷ v ∷ back) ≡ pairs p (v ∷ back) = ap (λ b. one_if (b && p v) + pairs p (v ∷ back)) e ∙ ap (λ b. one_if b + pairs p (v ∷ back)) z.0 ∙ omega arith in
    omega (arith, counted, paired, x.0, x.1)
first_passes p u (v ∷ middle) back e all none =
    let z = and_parts (p v) (list_all p middle) all in
    let rest = v ∷ middle ++ back in
    let more = first_passes p v middle back z.0 z.1 none in
    let counted : length (filter p (u ∷ rest)) ≡ 1 + length (filter p rest) = ap (λ b. length (cond b (u ∷ filter p rest) (filter p rest))) e ∙ omega arith in
    let paired : pairs p (u ∷ rest) ≡ 1 + pairs p rest = ap (λ b. one_if (b && p v) + pairs p rest) e ∙ ap (λ b. one_if b + pairs p rest) z.0 in
    omega (arith, counted, paired, more)

any_true : (p : ℕ → Bool) (u : ℕ) (ns : List ℕ) → p u ≡ true → list_any p (u ∷ ns) ≡ true
any_true p u ns e = ap (λ b. b || list_any p ns) e

by_middle : (p : ℕ → Bool) (middle back : List ℕ) → list_all p middle ≡ true → list_any p back ≡ false → ByPairs p (middle ++ back)
by_middle p [] back all none =
    let x = none_passes p back none in
    let nothing : one_if (list_any p back) ≡ 0 = ap one_if none in
    omega (arith, x.0, x.1, nothing)
by_middle p (u ∷ middle) back all none =
    let z = and_parts (p u) (list_all p middle) all in
    first_passes p u middle back z.0 z.1 none ∙ ap (λ b. pairs p (u ∷ middle ++ back) + one_if b) (sym (any_true p u (middle ++ back) z.0))

by_front : (p : ℕ → Bool) (front rest : List ℕ) → list_any p front ≡ false → ByPairs p rest → ByPairs p (front ++ rest)
by_front p [] rest e h = h
by_front p (u ∷ front) rest e h = let z = or_parts (p u) (list_any p front) e in skip p u (front ++ rest) z.0 (by_front p front rest z.1 h)

by_pairs : (p : ℕ → Bool) (ns : List ℕ) → AreTogether p ns → ByPairs p ns
by_pairs p ns w = subst (ByPairs p) (sym w.parts) (by_front p w.front (w.middle ++ w.back) w.before (by_middle p w.middle w.back w.inside w.behind))

-- ## Accesses

module _ (t : List Node) (b : ℕ) (stamps : AreStamps t) (block : is_block t b ≡ true) where
  abbrev p : ℕ → Bool
  p = is_above t b

  abbrev AreThere : List ℕ → Type 0
  AreThere us = (n : ℕ) → In n us → n < length t

  -- behind an access that is not beneath the block, after one that is, there is none beneath it
  gone : (u v : ℕ) (us : List ℕ) → AreThere us → p u ≡ true → p v ≡ false → EndedBetween t u v → ((y : ℕ) → In y (map (stamp_of t) us) → stamp_of t v < y) → list_any p (v ∷ us) ≡ false
  gone u v us there inside outside ended later = or_false (p v) (list_any p us) outside (none_any p us none) where
    in_tree : b < length t
    in_tree = node_there (λ x. is_block_kind x.kind) t b block

    over : (is_block t b && is_above t b u && not (is_above t b v)) ≡ true
    over = and_from _ _ (and_from _ _ block inside) (not_from_false _ outside)

    none : (w : ℕ) → In w us → p w ≡ false
    none w i = elim (either (p w)) [
      | inl e ↦
          (let z = ended b in_tree over in
          let closed = and_from _ _ (and_from _ _ block (not_from_false _ (committed_not_pending t b z.0))) e in
          let early : stamp_of t w < end_of t b = (stamps.beneath b w in_tree (there w i) closed).0 in
          let late : stamp_of t v < stamp_of t w = later (stamp_of t w) (map_in (stamp_of t) w us i) in
          absurd (omega (arith, early, late, z.1)))
      | inr e ↦ e
    ]

  -- from an access beneath the block on
  run : (u : ℕ) (us : List ℕ) → AreThere us → p u ≡ true → AllEndedBetween t (u ∷ us) → Rises (map (stamp_of t) us)
      → (middle back : List ℕ) × (u ∷ us ≡ middle ++ back) × (list_all p middle ≡ true) × (list_any p back ≡ false)
  run u [] there e ended rises = (u ∷ [], [], refl, and_from (p u) true e refl, refl)
  run u (v ∷ us) there e ended rises =
      elim (either (p v)) [
        | inl f ↦ (let z = run v us (λ n i. there n (inr i)) f ended.1 rises.1 in (u ∷ z.0, z.1, ap (λ xs. u ∷ xs) z.2, and_from (p u) (list_all p z.0) e z.3, z.4))
        | inr f ↦ (u ∷ [], v ∷ us, refl, and_from (p u) true e refl, gone u v us (λ n i. there n (inr i)) e f ended.0 rises.0)
      ]

  ended_tail : (u : ℕ) (us : List ℕ) → AllEndedBetween t (u ∷ us) → AllEndedBetween t us
  ended_tail u [] h = tt
  ended_tail u (v ∷ us) h = h.1

  together : (us : List ℕ) → AreThere us → AllEndedBetween t us → Rises (map (stamp_of t) us) → AreTogether p us
  together [] there ended rises = record { front = []; middle = []; back = []; parts = refl; before = refl; inside = refl; behind = refl }
  together (u ∷ us) there ended rises =
      elim (either (p u)) [
        | inl e ↦
            (let z = run u us (λ n i. there n (inr i)) e ended rises.1 in
            record { front = []; middle = z.0; back = z.1; parts = z.2; before = refl; inside = z.3; behind = z.4 })
        | inr e ↦
            (let w = together us (λ n i. there n (inr i)) (ended_tail u us ended) rises.1 in
            record {
              front = u ∷ w.front;
              middle = w.middle;
              back = w.back;
              parts = ap (λ xs. u ∷ xs) w.parts;
              before = or_false (p u) (list_any p w.front) e w.before;
              inside = w.inside;
              behind = w.behind;
            })
      ]

pub accesses_together : AccessesAreTogether
accesses_together t c b stamps ended block = together t b stamps block (live_accesses t c) (live_there t c) ended (live_rises t c stamps)

pub written_by_pairs : WrittenByPairs
written_by_pairs t c b stamps ended block =
    by_pairs (is_above t b) (live_writes t c) (together_kept (is_above t b) (λ u. is_some (written t u)) (live_accesses t c) (accesses_together t c b stamps ended block))
