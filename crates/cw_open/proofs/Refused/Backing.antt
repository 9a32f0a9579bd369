-- What was rolled back, and what dying strands leave undone, as each kind of step keeps it.
use Rattle.std.proofs.Common.{◌≡◌, ◌≢◌, ℕ, ◌<◌, List, [], ◌∷◌, ◌++◌, length, ap, sym, ◌∙◌, subst, arith, Bool, true, false, inl, inr, nat_eq}
use Rattle.std.specs.Prelude.{◌⊎◌, ◌&&◌, is_some, All}
use Rattle.std.specs.List.{list_any}
use Rattle.std.specs.Option.{option_map_or}
use Rattle.std.proofs.lemmas.Bool.{and_parts, and_from, or_cases, or_left, or_right, cases_lt, ne_eqb, false_from_ne_true}
use Rattle.cw_tree.specs.declared.node.Node.{Node}
use Rattle.cw_tree.specs.declared.conflict.Conflict.{Conflict}
use Rattle.cw_tree.specs.Nodes.{passes, is_fork_kind, is_block_kind, is_committed_state, is_aborted_state, parent_of, stamp_of, is_strand, is_fork, is_block, is_committed, is_aborted}
use Rattle.cw_tree.specs.Walks.{IsRooted, is_ancestor, is_above}
use Rattle.cw_tree.specs.Series.{strand_of, place, has_later}
use Rattle.cw_tree.specs.Refusals.{victim_of, is_victim, names_victim as tells_back}
use Rattle.cw_tree.specs.NextNodes.{IsPlace}
use Rattle.cw_tree.proofs.Walks.There.{node_there}
use Rattle.cw_tree.proofs.Walks.Ancestors.{ancestor_self, above_parent, ancestor_up}
use Rattle.cw_tree.proofs.Walks.Strands.{strand_over, strand_of_other}
use Rattle.cw_tree.proofs.NodeKinds.{aborted_block, block_some, block_no_strand}
use Rattle.cw_open.specs.Machine.{OpenMachine, is_dying}
use Rattle.cw_open.proofs.Open.Growth.{IsGrowth}
use Rattle.cw_open.proofs.Open.Staying.{Stays, grown_stays, strand_stays, later_grown}
use Rattle.cw_open.proofs.Refused.Fell.{fell, fell_stays, victim_stays, fell_above, fork_fell, tried_fell, fell_dies}
use Rattle.cw_open.proofs.Refused.Falling.{AreAskers}
use Rattle.cw_open.proofs.Refused.Victims.{IsTold}

-- a strand died in fork f: that is the last of its place, and there nothing ends well
pub record Died (t : List Node) (cs : List Conflict) (done dead : ℕ → Bool) (f : ℕ) : Type 0 where
  pub some : 0 < f
  pub fork : is_fork t f ≡ true
  pub fell : fell t cs f f ≡ true
  pub last : has_later t f ≡ false
  pub block : is_committed t (parent_of t f) ≡ false
  pub strand : is_strand t (parent_of t f) ≡ true → done (parent_of t f) ≡ true → dead (parent_of t f) ≡ true

-- what was rolled back was so for its victim, and what has to be is the last of its place
pub record GoesBack (t : List Node) (cs : List Conflict) : Type 0 where
  pub aborted : (b : ℕ) → is_aborted t b ≡ true → fell t cs (strand_of t b) b ≡ true
  pub committed : (b : ℕ) → is_committed t b ≡ true → is_victim t cs b ≡ false
  pub tried : (n : ℕ) → 0 < n → n < length t → tells_back cs n ≡ true → has_later t n ≡ false
  pub gone : (n : ℕ) → is_aborted t n ≡ true → is_victim t cs n ≡ false → has_later t n ≡ false

abbrev pub AllDied : List Node → List Conflict → (done dead : ℕ → Bool) → Type 0
AllDied t cs done dead = (x : ℕ) → 0 < x → dead x ≡ true → Died t cs done dead (parent_of t x)

-- one conflict more with a victim at n, or none of the others
pub one_more : (cs : List Conflict) (c : Conflict) (n : ℕ) → c.asker ≢ n → tells_back (cs ++ c ∷ []) n ≡ true → tells_back cs n ≡ true
one_more [] c n ne e = absurd (elim (or_cases (nat_eq c.asker n && is_some (victim_of c)) false e) [ inl z ↦ cc ((and_parts (nat_eq c.asker n) (is_some (victim_of c)) z).0, ne_eqb c.asker n ne) | inr z ↦ cc z ])
one_more (d ∷ cs) c n ne e =
    elim (or_cases (nat_eq d.asker n && is_some (victim_of d)) (tells_back (cs ++ c ∷ []) n) e) [
      | inl z ↦ or_left (nat_eq d.asker n && is_some (victim_of d)) (tells_back cs n) z
      | inr z ↦ or_right (nat_eq d.asker n && is_some (victim_of d)) (tells_back cs n) (one_more cs c n ne z)
    ]

any_front : {X : Type 0} (p : X → Bool) (xs ys : List X) → list_any p xs ≡ true → list_any p (xs ++ ys) ≡ true
any_front p [] ys e = absurd (cc e)
any_front p (x ∷ xs) ys e =
    elim (or_cases (p x) (list_any p xs) e) [
      | inl z ↦ or_left (p x) (list_any p (xs ++ ys)) z
      | inr z ↦ or_right (p x) (list_any p (xs ++ ys)) (any_front p xs ys z)
    ]

-- a victim of some is one of more
pub victim_more : (t : List Node) (cs more : List Conflict) (b : ℕ) → is_victim t (cs ++ more) b ≡ false → is_victim t cs b ≡ false
victim_more t cs more b e =
    let p = λ (c : Conflict). option_map_or (λ v. nat_eq v (stamp_of t b)) (victim_of c) false in
    false_from_ne_true (is_victim t cs b) (λ q.
    let z = and_parts (is_block t b) (list_any p cs) q in
    absurd (cc (e, and_from (is_block t b) (list_any p (cs ++ more)) z.0 (any_front p cs more z.1))))

-- ## Nodes come at the place of a free strand

module _ (m : OpenMachine) (r : IsRooted m.tree) (root : is_strand m.tree 0 ≡ true) (told : All (IsTold m.tree) m.conflicts) (askers : AreAskers m.tree m.conflicts) (s : ℕ) where
  abbrev t : List Node
  t = m.tree

  abbrev cs : List Conflict
  cs = m.conflicts

  abbrev p : ℕ
  p = place t s

  module _ (at : IsPlace t p) (own : strand_of t p ≡ s) where
    over_place : is_ancestor t s p ≡ true
    over_place = let P : ℕ → Type 0 = λ x. is_ancestor t x p ≡ true in subst P own (strand_over t r p at.there)

    -- nothing that fell is there
    none_fell : (a : ℕ) → is_dying m s ≡ false → is_ancestor t s a ≡ true → fell t cs a p ≡ true → ⊥
    none_fell a lives under e = cc (lives, fell_dies m r told s a p p at under (ancestor_self t p) e)

    module _ (lives : is_dying m s ≡ false) where
      tried_elsewhere : (n : ℕ) → 0 < n → n < length t → tells_back cs n ≡ true → parent_of t n ≢ p
      tried_elsewhere n some low e q =
          let over : is_above t s n ≡ true = above_parent t r s n some low ∙ ap (is_ancestor t s) q ∙ over_place in
          none_fell s lives (ancestor_self t s) (ap (fell t cs s) (sym q) ∙ tried_fell t r cs told s n some low over e)

      gone_elsewhere : GoesBack t cs → (n : ℕ) → is_aborted t n ≡ true → is_victim t cs n ≡ false → parent_of t n ≢ p
      gone_elsewhere w n e none q =
          let block = aborted_block t n e in
          let some = block_some t root n block in
          let low = node_there (λ y. is_block_kind y.kind) t n block in
          let same : strand_of t n ≡ s = strand_of_other t r n some low (block_no_strand t n block) ∙ ap (strand_of t) q ∙ own in
          let f = fell_above t r cs told (strand_of t n) n some low none (w.aborted n e) in
          none_fell s lives (ancestor_self t s) (let P : ℕ → ℕ → Type 0 = λ a b. fell t cs a b ≡ true in subst (λ a. P a p) same (subst (P (strand_of t n)) q f))

      pub died_elsewhere : (done dead : ℕ → Bool) (f : ℕ) → Died t cs done dead f → parent_of t f ≢ p
      died_elsewhere done dead f d q =
          let low = node_there (λ y. is_fork_kind y.kind) t f d.fork in
          let under : is_ancestor t s f ≡ true = ancestor_up t r s f d.some low (ap (is_ancestor t s) q ∙ over_place) in
          none_fell f lives under (ap (fell t cs f) (sym q) ∙ fork_fell t r cs told f f d.some d.fork d.fell)

      module _ (u : List Node) (stamp : ℕ) (g : IsGrowth t u p stamp) where
        stays : Stays t u
        stays = grown_stays t u p stamp r g

        old_aborted : (n : ℕ) → is_aborted u n ≡ true → (n < length t) × (is_aborted t n ≡ true)
        old_aborted n e = elim (cases_lt n (length t)) [
          | inl h ↦ (h, sym (ap (passes (λ y. is_block_kind y.kind && is_aborted_state y.state)) (g.old n h)) ∙ e)
          | inr le ↦ absurd (cc (e, g.aborted n le))
        ]

        old_committed : (n : ℕ) → is_committed u n ≡ true → (n < length t) × (is_committed t n ≡ true)
        old_committed n e = elim (cases_lt n (length t)) [
          | inl h ↦ (h, sym (ap (passes (λ y. is_block_kind y.kind && is_committed_state y.state)) (g.old n h)) ∙ e)
          | inr le ↦ absurd (cc (e, g.committed n le))
        ]

        -- some conflicts more, none of which names a committed block or the last of a place
        module _ (more : List Conflict) (safe : (b : ℕ) → is_committed t b ≡ true → is_victim t (cs ++ more) b ≡ false) (new : (n : ℕ) → 0 < n → n < length u → tells_back (cs ++ more) n ≡ true → ((n < length t) × (tells_back cs n ≡ true)) ⊎ (has_later u n ≡ false)) where
          pub back_grown : GoesBack t cs → GoesBack u (cs ++ more)
          back_grown w = record {
            aborted = λ b e.
                (let (h, was) = old_aborted b e in
                let P : ℕ → Type 0 = λ a. fell u (cs ++ more) a b ≡ true in
                subst P (sym (strand_stays t u stays b h)) (fell_stays t u stays cs more askers (strand_of t b) b h (w.aborted b was)));
            committed = λ b e. (let (h, was) = old_committed b e in victim_stays t u stays (cs ++ more) b h ∙ safe b was);
            tried = λ n some h e.
                elim (new n some h e) [
                  | inr q ↦ q
                  | inl z ↦ later_grown t u p stamp r g n some z.0 (w.tried n some z.0 z.1) (tried_elsewhere n some z.0 z.1)
                ];
            gone = λ n e none.
                (let (h, was) = old_aborted n e in
                let out = victim_more t cs more n (sym (victim_stays t u stays (cs ++ more) n h) ∙ none) in
                later_grown t u p stamp r g n (block_some t root n (aborted_block t n was)) h (w.gone n was out) (gone_elsewhere w n was out));
          }

        pub died_grown : (more : List Conflict) (done dead : ℕ → Bool) (f : ℕ) → Died t cs done dead f → Died u (cs ++ more) done dead f
        died_grown more done dead f d =
            let low = node_there (λ y. is_fork_kind y.kind) t f d.fork in
            let up : parent_of t f < f = r f d.some low in
            let same = stays.parents f low in
            record {
              some = d.some;
              fork = stays.forks f low ∙ d.fork;
              fell = fell_stays t u stays cs more askers f f low d.fell;
              last = later_grown t u p stamp r g f d.some low d.last (died_elsewhere done dead f d);
              block = ap (is_committed u) same ∙ ap (passes (λ y. is_block_kind y.kind && is_committed_state y.state)) (g.old (parent_of t f) (omega arith)) ∙ d.block;
              strand = λ e q. ap dead same ∙ d.strand (sym (stays.strands (parent_of t f) (omega arith)) ∙ ap (is_strand u) (sym same) ∙ e) (ap done (sym same) ∙ q);
            }
