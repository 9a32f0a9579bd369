-- Where an access may conflict with the newest one alone, the lists are chains, and what stands between two of a list has ended.
use Rattle.std.proofs.Common.{◌≡◌, ℕ, ◌<◌, List, [], ◌∷◌, ◌++◌, length, map, refl, ap, sym, ◌∙◌, subst, arith, true, false, inl, inr}
use Rattle.std.specs.Prelude.{◌&&◌, not}
use Rattle.std.proofs.lemmas.Bool.{and_parts, and_from, cases_eq, not-true, not_from_false}
use Rattle.std.proofs.lemmas.List.Elements.{All-head, All-tail}
use Rattle.cw_tree.specs.declared.node.Node.{Node}
use Rattle.cw_tree.specs.declared.node.BlockState.{BlockState}
use Rattle.cw_tree.specs.Nodes.{is_block_kind, is_committed_state, stamp_of, is_block, is_pending, touches, closed}
use Rattle.cw_tree.specs.Walks.{IsRooted, is_above, nua}
use Rattle.cw_tree.specs.Shape.{AreStamps}
use Rattle.cw_tree.specs.Accesses.{lets_follow, IsChain}
use Rattle.cw_tree.specs.Journals.{EndedBetween, AllEndedBetween}
use Rattle.cw_tree.specs.AccessStacks.{AreThere, access_at}
use Rattle.cw_tree.specs.Newest.{newest}
use Rattle.cw_tree.proofs.Walks.Ancestors.{above_ancestor, ancestor_le}
use Rattle.cw_tree.proofs.NextNodes.Growing.{node_grown, number_grown, is_above_grown}
use Rattle.cw_tree.proofs.NextNodes.Closing.{length_closed, node_closed, node_closed_other, number_closed, number_closed_other, is_above_closed}
use Rattle.cw_tree.proofs.ChainLaws.Nearest.{follows_passes}
use Rattle.cw_open.proofs.Laws.Named.{access_named}

-- ## Names

-- an access has one name in two trees in which it is one
pub same_name : (t u : List Node) → AreStamps t → AreStamps u → (c s : ℕ) (n : ℕ) → touches t c n ≡ true → stamp_of t n ≡ s → touches u c n ≡ true → stamp_of u n ≡ s → access_at u s ≡ access_at t s
same_name t u st su c s n a e b f = sym (ap (access_at u) f) ∙ access_named u su c n b ∙ sym (access_named t st c n a) ∙ ap (access_at t) e

-- ## What ended between two

ended_grown : (t xs : List Node) → IsRooted t → (x y : ℕ) → x < length t → y < length t → EndedBetween t x y → EndedBetween (t ++ xs) x y
ended_grown t xs r x y hx hy h b hb e =
    let z = and_parts (is_block (t ++ xs) b && is_above (t ++ xs) b x) (not (is_above (t ++ xs) b y)) e in
    let v = and_parts (is_block (t ++ xs) b) (is_above (t ++ xs) b x) z.0 in
    let over : is_above t b x ≡ true = sym (is_above_grown t xs r b x hx) ∙ v.1 in
    let le = ancestor_le t r b x hx (above_ancestor t b x over) in
    let low : b < length t = omega arith in
    let w = h b low
    (and_from (is_block t b && is_above t b x) (not (is_above t b y)) (and_from (is_block t b) (is_above t b x) (sym (node_grown t xs (λ n. is_block_kind n.kind) b low) ∙ v.0) over)
    (ap not (sym (is_above_grown t xs r b y hy)) ∙ z.1)) in
    (node_grown t xs (λ n. is_block_kind n.kind && is_committed_state n.state) b low ∙ w.0, omega (arith, w.1, number_grown t xs (λ n. n.end) b low, number_grown t xs (λ n. n.stamp) y hy))

-- a pending block that is above the earlier of two is above the later
ended_closed : (t : List Node) → IsRooted t → (p : ℕ) (state : BlockState) (end : ℕ) → is_pending t p ≡ true → (x y : ℕ) → x < length t → y < length t → lets_follow t (nua t x) (nua t y) ≡ true → EndedBetween t x y → EndedBetween (closed t p state end) x y
ended_closed t r p state end pending x y hx hy follows h b hb e =
    let v = closed t p state end in
    let z = and_parts (is_block v b && is_above v b x) (not (is_above v b y)) e in
    let q = and_parts (is_block v b) (is_above v b x) z.0 in
    let over : is_above t b x ≡ true = sym (is_above_closed t p state end r b x hx) ∙ q.1 in
    let off : is_above t b y ≡ false = sym (is_above_closed t p state end r b y hy) ∙ not-true (is_above v b y) z.1 in
    elim (cases_eq b p) [
      | inl same ↦
          (let P : ℕ → Type 0 = λ b. is_above t b x ≡ true in
          absurd (cc (off, ap (λ b. is_above t b y) same, follows_passes t r x y hx hy follows p pending (subst P same over))))
      | inr ne ↦
          (let w = h b (omega (arith, length_closed t p state end))
          (and_from (is_block t b && is_above t b x) (not (is_above t b y)) (and_from (is_block t b) (is_above t b x) (sym (node_closed t p state end (λ n. is_block_kind n.kind) (λ n. refl) b) ∙ q.0) over) (not_from_false (is_above t b y) off)) in (
            node_closed_other t p state end (λ n. is_block_kind n.kind && is_committed_state n.state) b ne ∙ w.0,
            omega (arith, w.1, number_closed_other t p state end (λ n. n.end) b ne, number_closed t p state end (λ n. n.stamp) (λ n. refl) y),
          ))
    ]

-- ## The same of a list

pub all_grown : (t xs : List Node) → IsRooted t → (ns : List ℕ) → AreThere t ns → AllEndedBetween t ns → AllEndedBetween (t ++ xs) ns
all_grown t xs r [] h a = tt
all_grown t xs r (n ∷ []) h a = tt
all_grown t xs r (n ∷ m ∷ ns) h a =
    let rest = All-tail (λ k. k < length t) n (m ∷ ns) h in
    (ended_grown t xs r n m (All-head (λ k. k < length t) n (m ∷ ns) h) (All-head (λ k. k < length t) m ns rest) a.0, all_grown t xs r (m ∷ ns) rest a.1)

pub all_closed : (t : List Node) → IsRooted t → (p : ℕ) (state : BlockState) (end : ℕ) → is_pending t p ≡ true → (ns : List ℕ) → AreThere t ns → IsChain t ns → AllEndedBetween t ns → AllEndedBetween (closed t p state end) ns
all_closed t r p state end pending [] h c a = tt
all_closed t r p state end pending (n ∷ []) h c a = tt
all_closed t r p state end pending (n ∷ m ∷ ns) h c a =
    let rest = All-tail (λ k. k < length t) n (m ∷ ns) h in
    (ended_closed t r p state end pending n m (All-head (λ k. k < length t) n (m ∷ ns) h) (All-head (λ k. k < length t) m ns rest) c.0 a.0, all_closed t r p state end pending (m ∷ ns) rest c.1 a.1)

pub all_front : (t : List Node) (ns ms : List ℕ) → AllEndedBetween t (ns ++ ms) → AllEndedBetween t ns
all_front t [] ms a = tt
all_front t (n ∷ []) ms a = tt
all_front t (n ∷ m ∷ ns) ms a = (a.0, all_front t (m ∷ ns) ms a.1)

-- one more behind the newest
pub all_more : (t : List Node) (us : List ℕ) (f : ℕ → ℕ) (y : ℕ) → AllEndedBetween t (map f us) → ((u : ℕ) → newest us ≡ u ∷ [] → EndedBetween t (f u) y) → AllEndedBetween t (map f us ++ y ∷ [])
all_more t [] f y a e = tt
all_more t (u ∷ []) f y a e = (e u refl, tt)
all_more t (u ∷ v ∷ us) f y a e = (a.0, all_more t (v ∷ us) f y a.1 e)
