-- The passes over the places of a function in which each instruction fits what is expected at its place: what is known of a place is
-- expected there, and what stands at a known place leads to known places. So no place has a fault.
use Rattle.std.proofs.Common.{◌≡◌, ◌≢◌, ℕ, zero, suc, ◌+◌, ◌-◌, ◌<◌, ◌≤◌, ◌⊎◌, inl, inr, ⊎_elim, Bool, true, false, not, ◌&&◌, List, [], ◌++◌, length, Option, Some, None, refl, sym, ap, ◌∙◌, subst, arith}
use Rattle.std.specs.Prelude.{replicate, slice_get, slice_set, slice_index_or, nat_le, ◌==◌, if◌then◌else◌}
use Rattle.std.proofs.lemmas.List.{get_or-set_same, get_or-set_other, length-set}
use Rattle.std.proofs.lemmas.Bool.{leb-true, leb-false, le-ltb, eq-eqb, ne_eqb, cases_order}
use Rattle.cw_code.specs.declared.instruction.CodeKind.{CodeKind}
use Rattle.cw_code.specs.declared.instruction.CodeFault.{CodeFault}
use Rattle.cw_code.specs.declared.instruction.Instr.{Instr}
use Rattle.cw_code.specs.declared.instruction.Func.{Func}
use Rattle.cw_code.specs.declared.instruction.Code.{Code}
use Rattle.cw_code.specs.Rules.{Situation, Known, effect_of, pops, when, at_start, passed, onwards, never_passed, next_of, target_of, Places, offered, give, visit, pass, places_after_passes, begun, size_of, places, situation_of, known_at, is_border, same, same_parts, uneven_faults, situation_faults, faults_at, place_faults}
use Rattle.cw_code.proofs.Fold.{next_inside, target_inside}
use Rattle.cw_code.proofs.Visits.{length_begun}
use Rattle.cw_code.proofs.KnownPlaces.{IsKnown, known_in, known_few, IsWithin, within_same}
use Rattle.cw_code.proofs.Expected.{Fits, FitsAt, AllFit}
use Rattle.cw_code.proofs.Parts.{same_parts_itself}

-- a test that is not failed gives no fault
pub no_fault : (b : Bool) (k : CodeKind) (p : ℕ) → b ≡ false → when b k p ≡ []
no_fault b k p e = ap (λ x. when x k p) e

pub none_of_two : (xs ys : List CodeFault) → xs ≡ [] → ys ≡ [] → xs ++ ys ≡ []
none_of_two xs ys a b = rw (a, b) refl

module _ (c : Code) (f : Func) (expected : ℕ → Situation) where
  -- ## Visits

  abbrev get : Places → ℕ → Option Known
  get t k = slice_index_or t k None

  abbrev Reaches : Places → Option ℕ → Type 0
  Reaches t o = (q : ℕ) → o ≡ Some q → IsKnown t (q - f.start)

  -- The first place is known, and what is known of a place is expected there.
  record IsRight (t : Places) : Type 0 where
    long : length t ≡ size_of f
    first : IsKnown t 0
    expects : (k : ℕ) (w : Known) → get t k ≡ Some w → w.situation ≡ expected (f.start + k)

  -- The table after something has been given a way: more is known only where the way leads.
  record Gave (o : Option ℕ) (t u : Places) : Type 0 where
    right : IsRight u
    stays : IsWithin t u
    reaches : Reaches u o
    back : Reaches t o → IsWithin u t

  -- an offer is known, and is the new one or the old one
  offered_known : (p : ℕ) (s : Situation) (o : Option Known) → (w : Known) × (offered p s o ≡ Some w)
  offered_known p s None = (record { from = p; situation = s }, refl)
  offered_known p s (Some k) = either (nat_le p k.from)
    where
      either : (b : Bool) → (w : Known) × ((if b then Some (record { from = p; situation = s }) else Some k) ≡ Some w)
      either true = (record { from = p; situation = s }, refl)
      either false = (k, refl)

  offered_is : (p : ℕ) (s : Situation) (o : Option Known) (w : Known) → offered p s o ≡ Some w → (w.situation ≡ s) ⊎ (o ≡ Some w)
  offered_is p s None w e = let new : record { from = p; situation = s } ≡ w = cc in inl (sym (ap (λ x. x.situation) new))
  offered_is p s (Some k) w e = either (nat_le p k.from) e
    where
      either : (b : Bool) → (if b then Some (record { from = p; situation = s }) else Some k) ≡ Some w → (w.situation ≡ s) ⊎ (Some k ≡ Some w)
      either true e = let new : record { from = p; situation = s } ≡ w = cc in inl (sym (ap (λ x. x.situation) new))
      either false e = inr e

  order : (k j : ℕ) → (k ≡ j) ⊎ (k ≢ j)
  order k j = ⊎_elim inl (λ r. inr (⊎_elim (λ lt e. omega arith) (λ gt e. omega arith) r)) (cases_order k j)

  module _ (p : ℕ) (s : Situation) (t : Places) (right : IsRight t) where
    module _ (q : ℕ) (later : f.start < q) (to : q < f.end) (is : expected q ≡ s) where
      abbrev j : ℕ
      j = q - f.start

      place : f.start + j ≡ q
      place = omega arith

      inner : j < length t
      inner = omega (arith, right.long)

      abbrev changed : Places
      changed = slice_set t j (offered p s (get t j))

      here : (k : ℕ) → k ≡ j → get changed k ≡ offered p s (get t j)
      here k e = ap (get changed) e ∙ get_or-set_same t j (offered p s (get t j)) None inner

      elsewhere : (k : ℕ) → k ≢ j → get changed k ≡ get t k
      elsewhere k ne = get_or-set_other t j k (offered p s (get t j)) None ne

      reached : IsKnown changed j
      reached = let w = offered_known p s (get t j) in (w.0, here j refl ∙ w.1)

      stays : IsWithin t changed
      stays k h = ⊎_elim (λ e. subst (IsKnown changed) (sym e) reached) (λ ne. (h.0, elsewhere k ne ∙ h.1)) (order k j)

      expects_at : (k : ℕ) (w : Known) → k ≡ j → offered p s (get t j) ≡ Some w → w.situation ≡ expected (f.start + k)
      expects_at k w same e =
          let there : f.start + k ≡ q = ap (λ x. f.start + x) same ∙ place in
          ⊎_elim (λ new. new ∙ sym is ∙ ap expected (sym there)) (λ old. right.expects j w old ∙ ap (λ x. expected (f.start + x)) (sym same)) (offered_is p s (get t j) w e)

      changes : Gave (Some q) t changed
      changes = record {
        right = record {
          long = length-set t j (offered p s (get t j)) ∙ right.long;
          first = stays 0 right.first;
          expects = λ k w e. ⊎_elim (λ same. expects_at k w same (sym (here k same) ∙ e)) (λ ne. right.expects k w (sym (elsewhere k ne) ∙ e)) (order k j);
        };
        stays = stays;
        reaches = λ r e. let same : q ≡ r = cc in subst (λ x. IsKnown changed (x - f.start)) same reached;
        back = λ old k h. ⊎_elim (λ same. subst (IsKnown t) (sym same) (old q refl)) (λ ne. (h.0, sym (elsewhere k ne) ∙ h.1)) (order k j);
      }

    give_to : (q : ℕ) → f.start ≤ q → q < f.end → expected q ≡ s → (b : Bool) → nat_le q f.start ≡ b → Gave (Some q) t (if b then t else slice_set t (q - f.start) (offered p s (get t (q - f.start))))
    give_to q from to is true e =
        let le = leb-true q f.start e in
        record {
          right = right;
          stays = λ k h. h;
          reaches = λ r w. let same : q ≡ r = cc in let number : 0 ≡ r - f.start = omega arith in subst (IsKnown t) number right.first;
          back = λ old k h. h;
        }
    give_to q from to is false e = changes q (leb-false q f.start e) to is

    give_on : (o : Option ℕ) → ((q : ℕ) → o ≡ Some q → (f.start ≤ q) × (q < f.end) × (expected q ≡ s)) → Gave o t (give f o p s t)
    give_on None ways = record { right = right; stays = λ k h. h; reaches = λ q e. cc; back = λ old k h. h }
    give_on (Some q) ways = let w = ways q refl in give_to q w.0 w.1 w.2 (nat_le q f.start) refl

  -- where an instruction at the place with this number leads, something is known
  abbrev Goes : Places → ℕ → Instr → Type 0
  Goes t n i = Reaches t (next_of f (f.start + n) (effect_of i)) × Reaches t (target_of f i (effect_of i))

  goes_within : (t u : Places) (n : ℕ) (i : Instr) → IsWithin t u → Goes t n i → Goes u n i
  goes_within t u n i within goes = (λ q e. within (q - f.start) (goes.0 q e), λ q e. within (q - f.start) (goes.1 q e))

  -- the table after a visit to the place with this number
  record Visited (n : ℕ) (i : Instr) (t u : Places) : Type 0 where
    right : IsRight u
    stays : IsWithin t u
    goes : IsKnown t n → Goes u n i
    back : (IsKnown t n → Goes t n i) → IsWithin u t

  visited : (n : ℕ) (t : Places) → IsRight t → (i : Instr) → Fits c f expected (f.start + n) i (effect_of i) → (o : Option Known) → get t n ≡ o → Visited n i t (visit c f (f.start + n) (Some i) o t)
  visited n t right i fits None is = record { right = right; stays = λ k h. h; goes = λ h. absurd (let none : None ≡ Some h.0 = sym is ∙ h.1 in cc); back = λ old k h. h }
  visited n t right i fits (Some k) is =
      let p = f.start + n in
      let e = effect_of i in
      let here : k.situation ≡ expected p = right.expects n k is in
      let a = give_on p (onwards c i e k.situation) t right (next_of f p e) (λ q w. ((next_inside f p e q w).0, (next_inside f p e q w).1, fits.next q w ∙ ap (onwards c i e) (sym here))) in
      let u = give f (next_of f p e) p (onwards c i e k.situation) t in
      let b = give_on p (passed c i e k.situation) u a.right (target_of f i e) (λ q w. ((target_inside f i e q w).0, (target_inside f i e q w).1, fits.target q w ∙ ap (passed c i e) (sym here))) in
      record {
        right = b.right;
        stays = λ j h. b.stays j (a.stays j h);
        goes = λ h. (λ q w. b.stays (q - f.start) (a.reaches q w), b.reaches);
        back = λ old j h. let goes = old (k, is) in a.back goes.0 j (b.back (λ q w. a.stays (q - f.start) (goes.1 q w)) j h);
      }

  -- ## Passes

  abbrev GoesOn : Places → ℕ → Type 0
  GoesOn t n = (i : Instr) → slice_get c.instrs (f.start + n) ≡ Some i → Goes t n i

  -- what stands at a known place leads to known places
  abbrev IsClosed : Places → Type 0
  IsClosed t = (k : ℕ) → k < size_of f → IsKnown t k → GoesOn t k

  -- the table after a pass over the first n places
  record Passed (n : ℕ) (t u : Places) : Type 0 where
    right : IsRight u
    stays : IsWithin t u
    goes : (k : ℕ) → k < n → IsKnown t k → GoesOn u k
    back : IsClosed t → IsWithin u t

  module _ (all : AllFit c f expected) where
    pass_on : (n : ℕ) (t : Places) → n ≤ size_of f → IsRight t → Passed n t (pass c f n t)
    pass_on zero t le right = record { right = right; stays = λ k h. h; goes = λ k lt. absurd (omega arith); back = λ closed k h. h }
    pass_on (suc n) t le right =
        let was = pass_on n t (omega arith) right in
        let before = pass c f n t in
        let w = all.each (f.start + n) (omega arith) (omega arith) in
        let u = visit c f (f.start + n) (Some w.instr) (get before n) before in
        let v = visited n before was.right w.instr w.fits (get before n) refl in
        subst (λ o. Passed (suc n) t (visit c f (f.start + n) o (get before n) before)) (sym w.stands)
        (record {
          right = v.right;
          stays = λ k h. v.stays k (was.stays k h);
          goes = λ k lt h. ⊎_elim (λ same. here w u k same (λ g. v.goes (was.stays n g)) h) (λ ne i is. goes_within before u k i v.stays (was.goes k (omega arith) h i is)) (order k n);
          back = λ closed k h. was.back closed k (v.back (λ g. goes_within t before n w.instr was.stays (closed n (omega arith) (was.back closed n g) w.instr w.stands)) k h);
        })
      where
        here : (w : FitsAt c f expected (f.start + n)) (u : Places) (k : ℕ) → k ≡ n → (IsKnown t n → Goes u n w.instr) → IsKnown t k → GoesOn u k
        here w u k same goes h = subst (GoesOn u) (sym same) (λ i is. let one : w.instr ≡ i = let s : Some w.instr ≡ Some i = sym w.stands ∙ is in cc in subst (Goes u n) one (goes (subst (IsKnown t) same h)))

    -- at first the first place alone is known
    first_alone : (n k : ℕ) (w : Known) → get (begun f n) k ≡ Some w → (k ≡ 0) × (w.situation ≡ at_start)
    first_alone zero k w e = cc
    first_alone (suc n) zero w e = let one : record { from = f.start; situation = at_start } ≡ w = cc in (refl, sym (ap (λ x. x.situation) one))
    first_alone (suc n) (suc k) w e = absurd (none n k e)
      where
        none : (n k : ℕ) → get (replicate n None) k ≡ Some w → ⊥
        none zero k e = cc
        none (suc n) zero e = cc
        none (suc n) (suc k) e = none n k e

    abbrev after : ℕ → Places
    after n = places_after_passes c f (size_of f) n (begun f (size_of f))

    after_right : (n : ℕ) → IsRight (after n)
    after_right zero = record {
      long = length_begun f (size_of f);
      first = begins (size_of f) (omega (arith, all.some));
      expects = λ k w e. let one = first_alone (size_of f) k w e in let place : f.start ≡ f.start + k = omega (arith, one.0) in one.1 ∙ sym all.starts ∙ ap expected place;
    }
      where
        begins : (n : ℕ) → 0 < n → IsKnown (begun f n) 0
        begins zero lt = absurd (omega arith)
        begins (suc n) lt = (record { from = f.start; situation = at_start }, refl)
    after_right (suc n) = (pass_on (size_of f) (after n) (omega arith) (after_right n)).right

    still_closed : (t u : Places) → Passed (size_of f) t u → IsClosed t → IsClosed u
    still_closed t u p closed k lt h i is = goes_within t u k i p.stays (closed k lt (p.back closed k h) i is)

    -- Each pass knows more, as long as what stands at a known place leads to one that is not known.
    closes : (n : ℕ) → IsClosed (after n) ⊎ (n ≤ known_in (after n))
    closes zero = inr (omega arith)
    closes (suc n) = by (closes n) (pass_on (size_of f) (after n) (omega arith) (after_right n))
      where
        by : IsClosed (after n) ⊎ (n ≤ known_in (after n)) → Passed (size_of f) (after n) (after (suc n)) → IsClosed (after (suc n)) ⊎ (suc n ≤ known_in (after (suc n)))
        by (inl closed) p = inl (still_closed (after n) (after (suc n)) p closed)
        by (inr many) p = ⊎_elim (λ same. inl (settled (omega arith))) (λ o. ⊎_elim (λ lt. inr (omega arith)) (λ gt. inl (settled (omega arith))) o) (cases_order (known_in (after n)) (known_in (after (suc n))))
          where
            settled : known_in (after (suc n)) ≤ known_in (after n) → IsClosed (after (suc n))
            settled few =
                let same : length (after n) ≡ length (after (suc n)) = (after_right n).long ∙ sym p.right.long in
                let within = within_same (after n) (after (suc n)) same p.stays few in
                still_closed (after n) (after (suc n)) p (λ k lt h i is. goes_within (after (suc n)) (after n) k i within (p.goes k lt h i is))

    -- the table that the rules look at
    table_right : IsRight (places c f)
    table_right = after_right (size_of f + size_of f)

    table_closed : IsClosed (places c f)
    table_closed = ⊎_elim (λ h. h) (λ many. absurd (omega (arith, all.some, known_few (places c f), table_right.long))) (closes (size_of f + size_of f))

    -- ## Faults

    known_there : (t : Places) → IsRight t → (q : ℕ) → f.start ≤ q → IsKnown t (q - f.start) → known_at f t q ≡ Some (expected q)
    known_there t right q le h =
        let back : f.start + (q - f.start) ≡ q = omega arith in
        ap situation_of h.1 ∙ ap Some (right.expects (q - f.start) h.0 h.1 ∙ ap expected back)

    even : (t : Places) (o : Option ℕ) (s : Situation) → ((q : ℕ) → o ≡ Some q → known_at f t q ≡ Some s) → uneven_faults f t o s ≡ []
    even t None s h = refl
    even t (Some q) s h = no_fault (not (same (known_at f t q) s)) _ q (ap (λ o. not (same o s)) (h q refl) ∙ ap not (itself s))
      where
        itself : (s : Situation) → same (Some s) s ≡ true
        itself s = ap (λ b. b && same_parts s.parts s.parts) (eq-eqb s.height s.height refl) ∙ same_parts_itself s.parts

    at_known : (t : Places) (n : ℕ) → IsRight t → (i : Instr) → Fits c f expected (f.start + n) i (effect_of i) → Goes t n i → situation_faults c f t (f.start + n) i (effect_of i) (expected (f.start + n)) ≡ []
    at_known t n right i fits led =
        let p = f.start + n in
        let e = effect_of i in
        let s = expected p in
        none_of_two _ _
        (none_of_two _ _ (no_fault _ _ p (le-ltb s.height (pops c i e) fits.room))
        (none_of_two _ _ (no_fault _ _ p (on_border (is_border e) fits.border))
        (none_of_two _ _ (no_fault _ _ p fits.whole)
        (no_fault _ _ p (not_last (never_passed e) fits.last)))))
        (none_of_two _ _
        (even t (next_of f p e) (onwards c i e s) (λ q w. known_there t right q (next_inside f p e q w).0 (led.0 q w) ∙ ap Some (fits.next q w)))
        (even t (target_of f i e) (passed c i e s) (λ q w. known_there t right q (target_inside f i e q w).0 (led.1 q w) ∙ ap Some (fits.target q w))))
      where
        on_border : (b : Bool) → (b ≡ true → (expected (f.start + n)).height ≡ 0) → (b && not ((expected (f.start + n)).height == 0)) ≡ false
        on_border true h = ap not (eq-eqb (expected (f.start + n)).height 0 (h refl))
        on_border false h = refl

        not_last : (b : Bool) → (b ≡ false → f.start + n + 1 < f.end) → (not b && (f.start + n + 1 == f.end)) ≡ false
        not_last true h = refl
        not_last false h = ne_eqb (f.start + n + 1) f.end (λ e. let lt = h refl in omega arith)

    at_place : (n : ℕ) → n < size_of f → let p = f.start + n in faults_at c f (places c f) p (slice_get c.instrs p) (known_at f (places c f) p) ≡ []
    at_place n lt =
        let p = f.start + n in
        let t = places c f in
        let w = all.each p (omega arith) (omega arith) in
        let number : p - f.start ≡ n = omega arith in
        let known : known_at f t p ≡ situation_of (get t n) = ap (λ k. situation_of (get t k)) number in
        subst (λ o. faults_at c f t p o (known_at f t p) ≡ []) (sym w.stands)
        (subst (λ o. faults_at c f t p (Some w.instr) o ≡ []) (sym known)
        (by (get t n) refl w.instr w.fits (λ h. table_closed n lt h w.instr w.stands) table_right))
      where
        by : (o : Option Known) → get (places c f) n ≡ o → (i : Instr) → Fits c f expected (f.start + n) i (effect_of i) → (IsKnown (places c f) n → Goes (places c f) n i) → IsRight (places c f) → faults_at c f (places c f) (f.start + n) (Some i) (situation_of o) ≡ []
        by None is i fits led right = fits.operands
        by (Some k) is i fits led right =
            none_of_two _ _ fits.operands
            (subst (λ s. situation_faults c f (places c f) (f.start + n) i (effect_of i) s ≡ []) (sym (right.expects n k is)) (at_known (places c f) n right i fits (led (k, is))))

    -- Where each instruction fits what is expected, there is no fault.
    pub none_at_places : (n : ℕ) → n ≤ size_of f → place_faults c f (places c f) n ≡ []
    none_at_places zero le = refl
    none_at_places (suc n) le = none_of_two _ _ (none_at_places n (omega arith)) (at_place n (omega arith))
