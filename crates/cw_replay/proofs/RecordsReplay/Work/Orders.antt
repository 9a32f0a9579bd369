-- Acts in an order that respects their series can be done one after another.
use Rattle.std.proofs.Common.{◌≡◌, List, [], ◌∷◌, refl, ◌∙◌, Some, inl, inr, subst}
use Rattle.std.specs.Prelude.{◌⊎◌}
use Rattle.cw_strand.specs.Strands.{IsDeep}
use Rattle.cw_serial.specs.StrandTree.{state_at_end}
use Rattle.cw_replay.proofs.RecordsReplay.Work.Work.{Work, Has, Before, Once, Doing, Fits, Over, Way, runs, HasWay, BeforeWay, OnceWay, before_has_way}
use Rattle.cw_replay.proofs.RecordsReplay.Work.Ways.{threads, final, OverWay, FitsWay, final_step, fits_step, over_step}
use Rattle.cw_replay.proofs.RecordsReplay.Work.Next.{Next, next_way, over_way, has_step, stays, before_step, gone, once_step}

-- each member is there, has not been seen, and all that is before it has
abbrev pub Respects : {I : Type 0} → (I → I → Type 0) → (I → Type 0) → (I → Type 0) → List I → Type 0
Respects R there seen [] = Unit {0}
Respects R there seen (j ∷ js) = there j × ((i : _) → R i j → seen i) × (seen j → ⊥) × Respects R there (λ i. (i ≡ j) ⊎ seen i) js

-- what has been seen after a list
abbrev pub SeenAfter : {I : Type 0} → (I → Type 0) → List I → I → Type 0
SeenAfter seen [] = seen
SeenAfter seen (j ∷ js) = SeenAfter (λ i. (i ≡ j) ⊎ seen i) js

module _ {I A : Type 0} (u : Doing I A) where
  -- the acts are done one after another
  abbrev pub Plays : Way I A → List I → Type 0
  Plays c [] = Unit {0}
  Plays c (j ∷ js) = (z : Next u [] c j) × Plays z.after js

  abbrev pub way_after : (c : Way I A) (js : List I) → Plays c js → Way I A
  way_after c [] p = c
  way_after c (j ∷ js) p = way_after p.0.after js p.1

  -- what is left on the way is what has not been seen
  pub record Left (whole : Work I) (seen : I → Type 0) (c : Way I A) : Type 0 where
    pub unseen : (i : I) → HasWay i c → seen i → ⊥
    pub all : (i : I) → Has i whole → (seen i → ⊥) → HasWay i c
    pub part : (i : I) → HasWay i c → Has i whole
    pub series : (i j : I) → BeforeWay i j c → Before i j whole
    pub once : OnceWay c
    pub fits : FitsWay u [] c

  module _ (deep : IsDeep u.law) (whole : Work I) where
    pub first_minimal : (seen : I → Type 0) (c : Way I A) (j : I) → Left whole seen c → ((i : I) → Before i j whole → seen i) → (i : I) → BeforeWay i j c → ⊥
    first_minimal seen c j l r i b = l.unseen i (before_has_way i j c b) (r i (l.series i j b))

    pub next_left : (seen : I → Type 0) (c : Way I A) (j : I) → Left whole seen c → Has j whole → ((i : I) → Before i j whole → seen i) → (seen j → ⊥) → Next u [] c j
    next_left seen c j l h r n = next_way u deep c [] j l.fits (l.all j h n) (first_minimal seen c j l r)

    pub left_step : (seen : I → Type 0) (c : Way I A) (j : I) → Left whole seen c → (z : Next u [] c j) → Left whole (λ i. (i ≡ j) ⊎ seen i) z.after
    left_step seen c j l z = record {
      unseen = λ i h g. elim g [
        | inl e ↦ gone u c z.after z.turns j z.state z.step l.once (let P : I → Type 0 = λ x. HasWay x z.after in subst P e h)
        | inr y ↦ l.unseen i (has_step u c z.after z.turns j z.state z.step i h) y
      ];
      all = λ i h n. elim (stays u c z.after z.turns j z.state z.step i (l.all i h (λ y. n (inr y)))) [ inl e ↦ absurd (n (inl e)) | inr g ↦ g ];
      part = λ i h. l.part i (has_step u c z.after z.turns j z.state z.step i h);
      series = λ i k b. l.series i k (before_step u c z.after z.turns j z.state z.step i k b);
      once = once_step u c z.after z.turns j z.state z.step l.once;
      fits = fits_step u [] c z.after z.turns j z.state z.step l.fits;
    }

    pub plays : (js : List I) (seen : I → Type 0) (c : Way I A) → Left whole seen c → Respects (λ i j. Before i j whole) (λ j. Has j whole) seen js → Plays c js
    plays [] seen c l r = tt
    plays (j ∷ js) seen c l r =
        let z = next_left seen c j l r.0 r.1 r.2 in
        (z, plays js (λ i. (i ≡ j) ⊎ seen i) z.after (left_step seen c j l z) r.3)

    pub left_after : (js : List I) (seen : I → Type 0) (c : Way I A) → Left whole seen c → (p : Plays c js) → Left whole (SeenAfter seen js) (way_after c js p)
    left_after [] seen c l p = l
    left_after (j ∷ js) seen c l p = left_after js (λ i. (i ≡ j) ⊎ seen i) p.0.after (left_step seen c j l p.0) p.1

    pub left_first : (a : A) → Once whole → Fits u [] 0 a whole → Left whole (λ i. ⊥) (runs 0 a whole)
    left_first a o f = record { unseen = λ i h e. e; all = λ i h n. h; part = λ i h. h; series = λ i j b. b; once = o; fits = f }

    pub over_after : (js : List I) (c : Way I A) (p : Plays c js) → OverWay u c → OverWay u (way_after c js p) × (final u (way_after c js p) ≡ final u c)
    over_after [] c p o = (o, refl)
    over_after (j ∷ js) c p o =
        let z = p.0 in
        let more = over_after js z.after p.1 (over_step u c z.after z.turns j z.state z.step o) in
        (more.0, more.1 ∙ final_step u c z.after z.turns j z.state z.step)

    -- where all acts were done and the strands come to their end, the strands have ended
    pub all_over : (js : List I) (a : A) (o : Once whole) (f : Fits u [] 0 a whole) (p : Plays (runs 0 a whole) js) → Over u a whole
        → ((i : I) → Has i whole → SeenAfter (λ i. ⊥) js i) → state_at_end u.law (threads u (way_after (runs 0 a whole) js p)) ≡ Some (final u (way_after (runs 0 a whole) js p))
    all_over js a o f p e h =
        let c = way_after (runs 0 a whole) js p in
        let l = left_after js (λ i. ⊥) (runs 0 a whole) (left_first a o f) p in
        over_way u deep c (over_after js (runs 0 a whole) p e).0 (λ i g. l.unseen i g (h i (l.part i g)))
