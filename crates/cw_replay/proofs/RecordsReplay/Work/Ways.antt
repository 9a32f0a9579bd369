-- One act of strands on their way, and what the machine's strands do then.
use Rattle.std.proofs.Common.{◌≡◌, ℕ, suc, List, [], ◌∷◌, ◌++◌, refl, ap, sym, ◌∙◌, true, false, Some, None, subst, cond}
use Rattle.std.specs.Prelude.{◌⊎◌}
use Rattle.cw_strand.specs.declared.want.Want.{Want}
use Rattle.cw_strand.specs.declared.want.Want.TheVariants as want
use Rattle.cw_strand.specs.Strands.{Strands, IsDeep, is_over, wants_fork}
use Rattle.cw_tree.specs.declared.picks.Turn.{Turn}
use Rattle.cw_serial.specs.Spots.{turn_to}
use Rattle.cw_serial.specs.StrandTree.{StrandTree, stands, waits, state_at_end, meet, goes_on, at, put}
use Rattle.cw_serial.proofs.Sides.{side_left, side_right}
use Rattle.cw_serial.proofs.Deep.{meet_left, meet_right, meet_both, goes_nowhere, goes_forking}
use Rattle.cw_replay.proofs.RecordsReplay.Work.Work.{Work, act, split, More, Doing, fold, Over, Fits, Way, runs, splits, HasWay}

module _ {A : Type 0} (s : Strands A) where
  -- not at an end and not at a fork
  abbrev pub Stops : Want → Type 0
  Stops w = (is_over w ≡ false) × (wants_fork w ≡ false)

  -- where a strand of a tree stands at a want, that tree has not ended
  pub not_ended : (x : StrandTree A) (p : List Turn) (b : A) → at s x p ≡ Some b → is_over (s.want b) ≡ false → state_at_end s x ≡ None
  not_ended (stands k a) [] b e f = let P : A → Type 0 = λ y. is_over (s.want y) ≡ false in let same : a ≡ b = cc e in ap (λ c. cond c (Some a) None) (subst P (sym same) f)
  not_ended (stands k a) (t ∷ p) b e f = absurd (cc e)
  not_ended (waits k l r) p b e f = refl

module _ {I A : Type 0} (u : Doing I A) where
  -- the machine's strands
  abbrev pub threads : Way I A → StrandTree A
  threads (runs k a w) = goes_on u.law k a
  threads (splits k l r w) = meet u.law (goes_on u.law) k (threads l) (threads r)

  -- the state after all that is left
  abbrev pub final : Way I A → A
  final (runs k a w) = fold u a w
  final (splits k l r w) = fold u (u.law.joined (final r) (final l)) w

  abbrev pub OverWay : Way I A → Type 0
  OverWay (runs k a w) = Over u a w
  OverWay (splits k l r w) = OverWay l × OverWay r × Over u (u.law.joined (final r) (final l)) w

  abbrev pub FitsWay : List Turn → Way I A → Type 0
  FitsWay q (runs k a w) = Fits u q k a w
  FitsWay q (splits k l r w) = FitsWay (q ++ turn_to k false ∷ []) l × FitsWay (q ++ turn_to k true ∷ []) r × Fits u q k (u.law.joined (final r) (final l)) w × (More w → OverWay l × OverWay r)

  -- the act i, by the strand of that name, which stood at that state
  pub data Step : Way I A → List Turn → I → A → Way I A → Type 0 where
    here : {k : ℕ} {a : A} {i : I} {w : Work I} → Step (runs k a (act i w)) [] i a (runs k (u.law.answer a (u.given i)) w)
    opens : {k : ℕ} {a b : A} {i : I} {l r w : Work I} {p : List Turn} {c : Way I A} → u.law.want a ≡ want.Fork
        → Step (splits (suc k) (runs 0 (u.law.left a) l) (runs 0 (u.law.right a) r) w) p i b c → Step (runs k a (split l r w)) p i b c
    left : {k : ℕ} {b : A} {i : I} {l m r : Way I A} {w : Work I} {p : List Turn} → Step l p i b m → Step (splits k l r w) (turn_to k false ∷ p) i b (splits k m r w)
    right : {k : ℕ} {b : A} {i : I} {l m r : Way I A} {w : Work I} {p : List Turn} → Step r p i b m → Step (splits k l r w) (turn_to k true ∷ p) i b (splits k l m w)
    closes : {k : ℕ} {b : A} {i : I} {l r c : Way I A} {w : Work I} {p : List Turn} → state_at_end u.law (threads l) ≡ Some (final l) → state_at_end u.law (threads r) ≡ Some (final r)
        → ((i : I) → HasWay i l ⊎ HasWay i r → ⊥)
        → Step (runs k (u.law.joined (final r) (final l)) w) p i b c → Step (splits k l r w) p i b c

  module _ (deep : IsDeep u.law) where
    pub at_step : (c d : Way I A) (p : List Turn) (i : I) (b : A) → Stops u.law (u.law.want b) → Step c p i b d → at u.law (threads c) p ≡ Some b
    at_step c d p i b g (here {k = k} {a = a}) = ap (λ x. at u.law x []) (goes_nowhere u.law k a g.1)
    at_step c d p i b g (opens {k = k} {a = a} e h) = ap (λ x. at u.law x p) (goes_forking u.law deep k a e) ∙ at_step _ d p i b g h
    at_step c d p i b g (left {k = k} {l = l} {m = m} {r = r} {p = q} h) =
        let z = at_step l m q i b g h in
        ap (λ x. at u.law x (turn_to k false ∷ q)) (meet_left u.law (goes_on u.law) k (threads l) (threads r) (not_ended u.law (threads l) q b z g.0)) ∙ side_left k (at u.law (threads l) q) (at u.law (threads r) q) None ∙ z
    at_step c d p i b g (right {k = k} {l = l} {m = m} {r = r} {p = q} h) =
        let z = at_step r m q i b g h in
        ap (λ x. at u.law x (turn_to k true ∷ q)) (meet_right u.law (goes_on u.law) k (threads l) (threads r) (not_ended u.law (threads r) q b z g.0)) ∙ side_right k (at u.law (threads l) q) (at u.law (threads r) q) None ∙ z
    at_step c d p i b g (closes {k = k} {l = l} {r = r} e f n h) =
        ap (λ x. at u.law x p) (meet_both u.law (goes_on u.law) k (threads l) (threads r) (final l) (final r) e f) ∙ at_step _ d p i b g h

    pub put_step : (c d : Way I A) (p : List Turn) (i : I) (b : A) → Stops u.law (u.law.want b) → Step c p i b d → put u.law (threads c) p (u.law.answer b (u.given i)) ≡ threads d
    put_step c d p i b g (here {k = k} {a = a}) = ap (λ x. put u.law x [] (u.law.answer a (u.given i))) (goes_nowhere u.law k a g.1)
    put_step c d p i b g (opens {k = k} {a = a} e h) = ap (λ x. put u.law x p (u.law.answer b (u.given i))) (goes_forking u.law deep k a e) ∙ put_step _ d p i b g h
    put_step c d p i b g (left {k = k} {l = l} {m = m} {r = r} {p = q} h) =
        let z = at_step l m q i b g h in
        ap (λ x. put u.law x (turn_to k false ∷ q) (u.law.answer b (u.given i))) (meet_left u.law (goes_on u.law) k (threads l) (threads r) (not_ended u.law (threads l) q b z g.0))
        ∙ ap (λ x. meet u.law (goes_on u.law) k x (threads r)) (put_step l m q i b g h)
    put_step c d p i b g (right {k = k} {l = l} {m = m} {r = r} {p = q} h) =
        let z = at_step r m q i b g h in
        ap (λ x. put u.law x (turn_to k true ∷ q) (u.law.answer b (u.given i))) (meet_right u.law (goes_on u.law) k (threads l) (threads r) (not_ended u.law (threads r) q b z g.0))
        ∙ ap (λ x. meet u.law (goes_on u.law) k (threads l) x) (put_step r m q i b g h)
    put_step c d p i b g (closes {k = k} {l = l} {r = r} e f n h) =
        ap (λ x. put u.law x p (u.law.answer b (u.given i))) (meet_both u.law (goes_on u.law) k (threads l) (threads r) (final l) (final r) e f) ∙ put_step _ d p i b g h

  -- what is left comes to the same state
  pub final_step : (c d : Way I A) (p : List Turn) (i : I) (b : A) → Step c p i b d → final d ≡ final c
  final_step c d p i b here = refl
  final_step c d p i b (opens e h) = final_step _ d p i b h
  final_step c d p i b (left {l = l} {m = m} {r = r} {w = w} {p = q} h) = ap (λ x. fold u (u.law.joined (final r) x) w) (final_step l m q i b h)
  final_step c d p i b (right {l = l} {m = m} {r = r} {w = w} {p = q} h) = ap (λ x. fold u (u.law.joined x (final l)) w) (final_step r m q i b h)
  final_step c d p i b (closes e f n h) = final_step _ d p i b h

  pub over_step : (c d : Way I A) (p : List Turn) (i : I) (b : A) → Step c p i b d → OverWay c → OverWay d
  over_step c d p i b here o = o
  over_step c d p i b (opens e h) o = over_step _ d p i b h (o.1, o.2, o.3)
  over_step c d p i b (left {l = l} {m = m} {r = r} {w = w} {p = q} h) o =
      let P : A → Type 0 = λ x. Over u (u.law.joined (final r) x) w in
      (over_step l m q i b h o.0, o.1, subst P (sym (final_step l m q i b h)) o.2)
  over_step c d p i b (right {l = l} {m = m} {r = r} {w = w} {p = q} h) o =
      let P : A → Type 0 = λ x. Over u (u.law.joined x (final l)) w in
      (o.0, over_step r m q i b h o.1, subst P (sym (final_step r m q i b h)) o.2)
  over_step c d p i b (closes e f n h) o = over_step _ d p i b h o.2

  pub fits_step : (q : List Turn) (c d : Way I A) (p : List Turn) (i : I) (b : A) → Step c p i b d → FitsWay q c → FitsWay q d
  fits_step q c d p i b here o = o.2
  fits_step q c d p i b (opens e h) o = fits_step q _ d p i b h (o.1, o.2, o.3, o.4)
  fits_step q c d p i b (left {k = k} {l = l} {m = m} {r = r} {w = w} {p = t} h) o =
      let P : A → Type 0 = λ x. Fits u q k (u.law.joined (final r) x) w in
      (fits_step (q ++ turn_to k false ∷ []) l m t i b h o.0, o.1, subst P (sym (final_step l m t i b h)) o.2, λ g. (over_step l m t i b h (o.3 g).0, (o.3 g).1))
  fits_step q c d p i b (right {k = k} {l = l} {m = m} {r = r} {w = w} {p = t} h) o =
      let P : A → Type 0 = λ x. Fits u q k (u.law.joined x (final l)) w in
      (o.0, fits_step (q ++ turn_to k true ∷ []) r m t i b h o.1, subst P (sym (final_step r m t i b h)) o.2, λ g. ((o.3 g).0, over_step r m t i b h (o.3 g).1))
  fits_step q c d p i b (closes e f n h) o = fits_step q _ d p i b h o.2
