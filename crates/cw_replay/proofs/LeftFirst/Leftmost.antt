-- Where each fork's left strand does all that it has to before its right one does anything, the strand of the next act is the leftmost.
use Rattle.std.proofs.Common.{◌≡◌, List, [], refl, ap, sym, ◌∙◌, subst, Bool, true, false, cond, Some, None, inl, inr}
use Rattle.std.specs.Prelude.{◌⊎◌}
use Rattle.std.specs.Option.{option_or}
use Rattle.cw_strand.specs.Strands.{Strands, IsDeep, is_over}
use Rattle.cw_tree.specs.declared.picks.Turn.{Turn}
use Rattle.cw_serial.specs.StrandTree.{StrandTree, stands, waits, state_at_end, goes_on}
use Rattle.cw_serial.specs.DepthFirst.{beneath, leftmost}
use Rattle.cw_serial.proofs.Deep.{meet_left, meet_right, meet_both, goes_nowhere, goes_forking}
use Rattle.cw_replay.proofs.RecordsReplay.Work.Work.{Work, nil, act, split, Has, Doing, fold, Over, Way, runs, splits, HasWay}
use Rattle.cw_replay.proofs.RecordsReplay.Work.Ways.{Stops, not_ended, threads, final, OverWay, Step, here, opens, left, right, closes, at_step, final_step, over_step}
use Rattle.cw_replay.proofs.RecordsReplay.Work.Next.{Next, over_way, has_step, done_left}
use Rattle.cw_replay.proofs.RecordsReplay.Work.Orders.{Left, left_step}

-- ## Acts to the left

module _ {I : Type 0} where
  -- i stands in the left strand of a fork, and j in the right one
  abbrev pub Beside : I → I → Work I → Type 0
  Beside i j nil = ⊥
  Beside i j (act x w) = Beside i j w
  Beside i j (split l r w) = Beside i j l ⊎ (Beside i j r ⊎ (Beside i j w ⊎ (Has i l × Has j r)))

  pub beside_has : (i j : I) (w : Work I) → Beside i j w → Has i w × Has j w
  beside_has i j nil h = absurd h
  beside_has i j (act x w) h = let z = beside_has i j w h in (inr z.0, inr z.1)
  beside_has i j (split l r w) (inl h) = let z = beside_has i j l h in (inl z.0, inl z.1)
  beside_has i j (split l r w) (inr (inl h)) = let z = beside_has i j r h in (inr (inl z.0), inr (inl z.1))
  beside_has i j (split l r w) (inr (inr (inl h))) = let z = beside_has i j w h in (inr (inr z.0), inr (inr z.1))
  beside_has i j (split l r w) (inr (inr (inr z))) = (inl z.0, inr (inl z.1))

module _ {I A : Type 0} where
  abbrev pub BesideWay : I → I → Way I A → Type 0
  BesideWay i j (runs k a w) = Beside i j w
  BesideWay i j (splits k l r w) = BesideWay i j l ⊎ (BesideWay i j r ⊎ (Beside i j w ⊎ (HasWay i l × HasWay j r)))

  pub beside_left : (i j : I) (c : Way I A) → BesideWay i j c → HasWay i c
  beside_left i j (runs k a w) h = (beside_has i j w h).0
  beside_left i j (splits k l r w) (inl h) = inl (beside_left i j l h)
  beside_left i j (splits k l r w) (inr (inl h)) = inr (inl (beside_left i j r h))
  beside_left i j (splits k l r w) (inr (inr (inl h))) = inr (inr (beside_has i j w h).0)
  beside_left i j (splits k l r w) (inr (inr (inr z))) = inl z.0

-- a strand that has ended is not the leftmost
pub ended_none : {A : Type 0} (s : Strands A) (x : StrandTree A) (a : A) → state_at_end s x ≡ Some a → leftmost s x ≡ None
ended_none {A = A} s (stands k b) a e = by (is_over (s.want b)) e where
  by : (o : Bool) → cond o (Some b) None ≡ Some a → cond o None (let p : List Turn = [] in Some p) ≡ None
  by true e = refl
  by false e = absurd (cc e)
ended_none s (waits k l r) a e = absurd (cc e)

module _ {I A : Type 0} (u : Doing I A) where
  -- ## Left strands that come to their ends

  -- the left strand of each fork does, where the right one has something to do
  abbrev pub Lefts : A → Work I → Type 0
  Lefts a nil = Unit {0}
  Lefts a (act i w) = Lefts (u.law.answer a (u.given i)) w
  Lefts a (split l r w) =
      ((i : I) → Has i r → Over u (u.law.left a) l) × Lefts (u.law.left a) l × Lefts (u.law.right a) r × Lefts (u.law.joined (fold u (u.law.right a) r) (fold u (u.law.left a) l)) w

  abbrev pub LeftsWay : Way I A → Type 0
  LeftsWay (runs k a w) = Lefts a w
  LeftsWay (splits k l r w) = ((i : I) → HasWay i r → OverWay u l) × LeftsWay l × LeftsWay r × Lefts (u.law.joined (final u r) (final u l)) w

  pub lefts_step : (c d : Way I A) (p : List Turn) (j : I) (b : A) → Step u c p j b d → LeftsWay c → LeftsWay d
  lefts_step c d p j b here o = o
  lefts_step c d p j b (opens e h) o = lefts_step _ d p j b h o
  lefts_step c d p j b (left {l = l} {m = m} {r = r} {w = w} {p = q} h) o =
      let P : A → Type 0 = λ x. Lefts (u.law.joined (final u r) x) w in
      ((λ i g. over_step u l m q j b h (o.0 i g)), lefts_step l m q j b h o.1, o.2, subst P (sym (final_step u l m q j b h)) o.3)
  lefts_step c d p j b (right {l = l} {m = m} {r = r} {w = w} {p = q} h) o =
      let P : A → Type 0 = λ x. Lefts (u.law.joined x (final u l)) w in
      ((λ i g. o.0 i (has_step u r m q j b h i g)), o.1, lefts_step r m q j b h o.2, subst P (sym (final_step u r m q j b h)) o.3)
  lefts_step c d p j b (closes e f n h) o = lefts_step _ d p j b h o.3

  -- what stands to the left on the way stood so before
  pub beside_step : (c d : Way I A) (p : List Turn) (x : I) (b : A) → Step u c p x b d → (i j : I) → BesideWay i j d → BesideWay i j c
  beside_step c d p x b here i j h = h
  beside_step c d p x b (opens e z) i j h = beside_step _ d p x b z i j h
  beside_step c d p x b (left {l = l} {m = m} {p = q} z) i j (inl h) = inl (beside_step l m q x b z i j h)
  beside_step c d p x b (left z) i j (inr (inl h)) = inr (inl h)
  beside_step c d p x b (left z) i j (inr (inr (inl h))) = inr (inr (inl h))
  beside_step c d p x b (left {l = l} {m = m} {p = q} z) i j (inr (inr (inr (h, g)))) = inr (inr (inr (has_step u l m q x b z i h, g)))
  beside_step c d p x b (right z) i j (inl h) = inl h
  beside_step c d p x b (right {m = m} {r = r} {p = q} z) i j (inr (inl h)) = inr (inl (beside_step r m q x b z i j h))
  beside_step c d p x b (right z) i j (inr (inr (inl h))) = inr (inr (inl h))
  beside_step c d p x b (right {m = m} {r = r} {p = q} z) i j (inr (inr (inr (h, g)))) = inr (inr (inr (h, has_step u r m q x b z j g)))
  beside_step c d p x b (closes e f n z) i j h = inr (inr (inl (beside_step _ d p x b z i j h)))

  -- ## The leftmost strand

  module _ (deep : IsDeep u.law) where
    pub leftmost_step : (c d : Way I A) (p : List Turn) (j : I) (b : A) → Stops u.law (u.law.want b) → LeftsWay c → ((i : I) → BesideWay i j c → ⊥) → Step u c p j b d → leftmost u.law (threads u c) ≡ Some p
    leftmost_step c d p j b g o n (here {k = k} {a = a}) = ap (leftmost u.law) (goes_nowhere u.law k a g.1) ∙ ap (λ b. cond b None (let p : List Turn = [] in Some p)) g.0
    leftmost_step c d p j b g o n (opens {k = k} {a = a} e h) = ap (leftmost u.law) (goes_forking u.law deep k a e) ∙ leftmost_step _ d p j b g o n h
    leftmost_step c d p j b g o n (left {k = k} {l = l} {m = m} {r = r} {p = q} h) =
        ap (leftmost u.law) (meet_left u.law (goes_on u.law) k (threads u l) (threads u r) (not_ended u.law (threads u l) q b (at_step u deep l m q j b g h) g.0))
        ∙ ap (λ x. option_or (beneath k false x) (beneath k true (leftmost u.law (threads u r)))) (leftmost_step l m q j b g o.1 (λ i x. n i (inl x)) h)
    leftmost_step c d p j b g o n (right {k = k} {l = l} {m = m} {r = r} {p = q} h) =
        let mine = done_left u r m q j b h in
        let passed = over_way u deep l (o.0 j mine) (λ i x. n i (inr (inr (inr (x, mine))))) in
        ap (leftmost u.law) (meet_right u.law (goes_on u.law) k (threads u l) (threads u r) (not_ended u.law (threads u r) q b (at_step u deep r m q j b g h) g.0))
        ∙ ap (λ x. option_or (beneath k false x) (beneath k true (leftmost u.law (threads u r)))) (ended_none u.law (threads u l) (final u l) passed)
        ∙ ap (λ x. option_or (beneath k false None) (beneath k true x)) (leftmost_step r m q j b g o.2 (λ i x. n i (inr (inl x))) h)
    leftmost_step c d p j b g o n (closes {k = k} {l = l} {r = r} e f v h) =
        ap (leftmost u.law) (meet_both u.law (goes_on u.law) k (threads u l) (threads u r) (final u l) (final u r) e f) ∙ leftmost_step _ d p j b g o.3 (λ i x. n i (inr (inr (inl x)))) h

    -- ## One act after another

    -- on the way left strands come to their ends, and what is left there stands to the left as in the whole
    pub record LeftFirst (whole : Work I) (seen : I → Type 0) (c : Way I A) : Type 0 where
      pub left : Left u whole seen c
      pub lefts : LeftsWay c
      pub beside : (i j : I) → BesideWay i j c → Beside i j whole

    pub none_left : (whole : Work I) (seen : I → Type 0) (c : Way I A) (j : I) → LeftFirst whole seen c → ((i : I) → Beside i j whole → seen i) → (i : I) → BesideWay i j c → ⊥
    none_left whole seen c j l r i h = l.left.unseen i (beside_left i j c h) (r i (l.beside i j h))

    pub first_step : (whole : Work I) (seen : I → Type 0) (c : Way I A) (j : I) → LeftFirst whole seen c → (z : Next u [] c j) → LeftFirst whole (λ i. (i ≡ j) ⊎ seen i) z.after
    first_step whole seen c j l z = record {
      left = left_step u deep whole seen c j l.left z;
      lefts = lefts_step c z.after z.turns j z.state z.step l.lefts;
      beside = λ i k h. l.beside i k (beside_step c z.after z.turns j z.state z.step i k h);
    }
