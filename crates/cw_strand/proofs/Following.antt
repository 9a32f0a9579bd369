-- Where one way of running strands follows another, and both settle, the two want the same.
use Rattle.std.proofs.Common.{◌≡◌, ◌∙◌, ℕ, true, refl, sym, ap, subst}
use Rattle.cw_strand.specs.declared.want.Want.{Want}
use Rattle.cw_strand.specs.declared.want.Want.TheVariants.{Load, Store, Out, Begin, End, Cancel, Fork, Sync, Done, Fault}
use Rattle.cw_strand.specs.declared.want.Given.{Given}
use Rattle.cw_strand.specs.Strands.{IsAnswer, is_over}
use Rattle.cw_strand.specs.Running.{LocalStep, on, wants, stuck, Standing, Running, stand, strands, ComesTo, here, lacks, goes_on, Settles}
use Rattle.cw_strand.specs.Pasts.{Past, start, answered, left_of, right_of, joined_of, became, CanBe, WantTheSame}

module _ {T : Type 0} (r : Running T) where
  -- on by itself, as far as it likes
  pub data GoesOn : T → T → Type 0 where
    stays : {c : T} → GoesOn c c
    goes : {c d e : T} → r.step c ≡ on d → GoesOn d e → GoesOn c e

  from_there : {c d : T} {y : Standing T} → GoesOn c d → ComesTo r c y → ComesTo r d y
  from_there stays way = way
  from_there {y = y} (goes {d = d} is rest) (goes_on {t = t} is' way) = let same : t ≡ d = cc in from_there rest (subst (λ v. ComesTo r v y) same way)
  from_there (goes is rest) (here is') = absurd cc
  from_there (goes is rest) (lacks is') = absurd cc

  ends_there : {d e : T} {w : Want} {y : Standing T} → r.step d ≡ wants w e → ComesTo r d y → record { want = w; state = e } ≡ y
  ends_there {e = e} {w = w} {y = y} is (here is') =
      let same : wants w e ≡ wants y.want y.state = sym is ∙ is' in
      let first : w ≡ y.want = cc in
      let second : e ≡ y.state = cc in
      ap (λ v. record { want = v; state = e }) first ∙ ap (λ v. record { want = y.want; state = v }) second
  ends_there is (lacks is') = absurd cc
  ends_there is (goes_on is' way) = absurd cc

module _ {S T : Type 0} (a : Running S) (b : Running T) (M : S → T → Type 0) where
  -- what is kept of the two where they want this
  abbrev pub Kept : Want → S → T → Type 0
  Kept Fork s c = M s c × M (a.left s) (b.left c)
  Kept (Fault k) s c = Unit {0}
  Kept w s c = M s c

  -- b does from the state c what a does by this step
  abbrev pub Follows : LocalStep S → T → Type 0
  Follows (on t) c = (d : T) × GoesOn b c d × M t d
  Follows (wants w t) c = (d : T) × (e : T) × GoesOn b c d × (b.step d ≡ wants w e) × Kept w t e
  Follows stuck c = ⊥

  -- a step of b first
  pub after_step : (x : LocalStep S) (c d : T) → b.step c ≡ on d → Follows x d → Follows x c
  after_step (on t) c d is h = (h.0, goes is h.1, h.2)
  after_step (wants w t) c d is h = (h.0, h.1, goes is h.2, h.3, h.4)
  after_step stuck c d is h = h

  pub record IsFollowed : Type 0 where
    pub elements : a.elements ≡ b.elements
    pub first : M a.first b.first
    pub step : (s : S) (c : T) → M s c → Follows (a.step s) c
    pub answered : (given : Given) (s : S) (c : T) → M s c → M (a.answered given s) (b.answered given c)
    pub joined : (right left : S) (c d : T) → M right c → M left d → M (a.joined right left) (b.joined c d)

  module _ (follows : IsFollowed) (settles : Settles a) (settled : Settles b) where
    -- the two stand at the same want
    abbrev Alike : Standing S → Standing T → Type 0
    Alike x y = (x.want ≡ y.want) × Kept x.want x.state y.state

    meets : {s : S} {x : Standing S} → ComesTo a s x → (c : T) → M s c → (y : Standing T) → ComesTo b c y → Alike x y
    meets {s = s} {x = x} (here is) c m y way =
        let f = subst (λ z. Follows z c) is (follows.step s c m) in
        subst (λ z. Alike x z) (ends_there b f.3 (from_there b f.2 way)) (refl, f.4)
    meets {s = s} (lacks is) c m y way = absurd (subst (λ z. Follows z c) is (follows.step s c m))
    meets {s = s} (goes_on is rest) c m y way =
        let f = subst (λ z. Follows z c) is (follows.step s c m) in
        meets rest f.0 f.2 y (from_there b f.1 way)

    alike : (s : S) (c : T) → M s c → Alike (stand a s) (stand b c)
    alike s c m = meets (settles s) c m (stand b c) (settled c)

    after_answer : (n : ℕ) (w : Want) (given : Given) (s : S) (c : T) → IsAnswer n w given → Kept w s c → M (a.answered given s) (b.answered given c)
    after_answer n (Load m) given s c is kept = follows.answered given s c kept
    after_answer n (Store m v) given s c is kept = follows.answered given s c kept
    after_answer n (Out v) given s c is kept = follows.answered given s c kept
    after_answer n Begin given s c is kept = follows.answered given s c kept
    after_answer n End given s c is kept = follows.answered given s c kept
    after_answer n Cancel given s c is kept = follows.answered given s c kept
    after_answer n w given s c is kept = absurd is

    at_end : (w : Want) (s : S) (c : T) → is_over w ≡ true → Kept w s c → M s c
    at_end Sync s c is kept = kept
    at_end Done s c is kept = kept
    at_end w s c is kept = absurd cc

    -- after the same past they stand at the same want
    become : (p : Past) → CanBe (strands a) p → Alike (became (strands a) p) (became (strands b) p)
    become start can = alike a.first b.first follows.first
    become (answered p given) can =
        let x = became (strands a) p in
        let y = became (strands b) p in
        alike (a.answered given x.state) (b.answered given y.state) (after_answer a.elements x.want given x.state y.state can.1 (become p can.0).1)
    become (left_of p) can =
        let x = became (strands a) p in
        let y = became (strands b) p in
        alike (a.left x.state) (b.left y.state) (subst (λ w. Kept w x.state y.state) can.1 (become p can.0).1).1
    become (right_of p) can =
        let x = became (strands a) p in
        let y = became (strands b) p in
        alike x.state y.state (subst (λ w. Kept w x.state y.state) can.1 (become p can.0).1).0
    become (joined_of right left) can =
        let x = became (strands a) right in
        let y = became (strands b) right in
        let u = became (strands a) left in
        let v = became (strands b) left in
        let r = at_end x.want x.state y.state can.0.1 (become right can.0.0).1 in
        let l = at_end u.want u.state v.state can.1.1 (become left can.1.0).1 in
        alike (a.joined x.state u.state) (b.joined y.state v.state) (follows.joined x.state u.state y.state v.state r l)

    pub want_the_same : WantTheSame (strands a) (strands b)
    want_the_same = record { elements = follows.elements; wants = λ p can. (become p can).0 }
