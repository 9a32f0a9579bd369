-- The kept reader stands last of the readers in the Hebrew order. While nothing has raced, the last writer stands last of the writers there.
-- Both are among the accesses.
use Rattle.std.proofs.Common.{◌≡◌, ℕ, ◌<◌, List, [], ◌∷◌, ◌++◌, refl, ap, sym, ◌∙◌, arith, Bool, true, false, Option, Some, None, inl, inr, cond, nat_lt, subst}
use Rattle.std.specs.Prelude.{◌⊎◌, ◌&&◌, ◌||◌, not, is_some}
use Rattle.std.specs.List.{list_any}
use Rattle.std.proofs.lemmas.Bool.{and_parts, and_from, not-true, or_left, or_right, ltb-true, cases_Bool, cases_lt, lt-ltb, or_cases}
use Rattle.cw_tree.specs.Walks.{has}
use Rattle.cw_tree.proofs.Lists.{In, any_in, any_from}
use Rattle.cw_tree.proofs.Names.Forks.{same_truth}
use Rattle.cw_tree.proofs.Walks.Kin.{in_has}
use Rattle.cw_race.specs.Kept.{races, races_with, is_free_of_races, later_reader, kept_reader, last_writer, is_parallel_to, rival, KeptIsEnough, RivalsRace}

module _ (hebrew : ℕ → ℕ) (writes : ℕ → Bool) where
  -- the later access v comes before a kept one in the Hebrew order
  abbrev IsPast : ℕ → Option ℕ → Type 0
  IsPast v None = ⊥
  IsPast v (Some u) = hebrew v < hebrew u

  past_told : (v : ℕ) (o : Option ℕ) → IsPast v o → is_parallel_to hebrew writes o v ≡ true
  past_told v None h = absurd h
  past_told v (Some u) h = lt-ltb (hebrew v) (hebrew u) h

  told_past : (v : ℕ) (o : Option ℕ) → is_parallel_to hebrew writes o v ≡ true → IsPast v o
  told_past v None e = absurd (cc e)
  told_past v (Some u) e = ltb-true (hebrew v) (hebrew u) e

  abbrev pub Races : (u v : ℕ) → Type 0
  Races u v = (hebrew v < hebrew u) × ((writes u || writes v) ≡ true)

  race : (u v : ℕ) → races hebrew writes u v ≡ true → Races u v
  race u v e = let z = and_parts (nat_lt (hebrew v) (hebrew u)) (writes u || writes v) e in (ltb-true (hebrew v) (hebrew u) z.0, z.1)

  pub race_told : (u v : ℕ) → Races u v → races hebrew writes u v ≡ true
  race_told u v h = and_from (nat_lt (hebrew v) (hebrew u)) (writes u || writes v) (lt-ltb (hebrew v) (hebrew u) h.0) h.1

  abbrev pub NoRace : List ℕ → Type 0
  NoRace [] = Unit {0}
  NoRace (x ∷ xs) = ((y : ℕ) → In y xs → Races x y → ⊥) × NoRace xs

  none_races : (xs : List ℕ) → is_free_of_races hebrew writes xs ≡ true → NoRace xs
  none_races [] e = tt
  none_races (x ∷ xs) e =
      let z = and_parts (not (list_any (races hebrew writes x) xs)) (is_free_of_races hebrew writes xs) e in
      ((λ y i h. cc (not-true (list_any (races hebrew writes x) xs) z.0, any_from (races hebrew writes x) y xs i (race_told x y h))), none_races xs z.1)

  -- ## Readers

  past_later : (v : ℕ) (r : Option ℕ) (x : ℕ) → IsPast v (later_reader hebrew writes r x) → (hebrew v < hebrew x) ⊎ IsPast v r
  past_later v None x h = inl h
  past_later v (Some r) x h =
      by (nat_lt (hebrew r) (hebrew x)) h where
        by : (b : Bool) → IsPast v (cond b (Some x) (Some r)) → (hebrew v < hebrew x) ⊎ (hebrew v < hebrew r)
        by true h = inl h
        by false h = inr h

  later_past : (v : ℕ) (r : Option ℕ) (x : ℕ) → (hebrew v < hebrew x) ⊎ IsPast v r → IsPast v (later_reader hebrew writes r x)
  later_past v None x (inl h) = h
  later_past v None x (inr h) = absurd h
  later_past v (Some r) x h =
      by (nat_lt (hebrew r) (hebrew x)) refl h where
        by : (b : Bool) → nat_lt (hebrew r) (hebrew x) ≡ b → (hebrew v < hebrew x) ⊎ (hebrew v < hebrew r) → IsPast v (cond b (Some x) (Some r))
        by true e (inl h) = h
        by true e (inr h) = let l : hebrew r < hebrew x = ltb-true (hebrew r) (hebrew x) e in omega arith
        by false e (inl h) = elim (cases_lt (hebrew r) (hebrew x)) [ inl l ↦ absurd (cc (e, lt-ltb (hebrew r) (hebrew x) l)) | inr le ↦ omega arith ]
        by false e (inr h) = h

  -- v is parallel to the kept reader exactly where it is to one of them
  reader_past : (v : ℕ) (xs : List ℕ) (r : Option ℕ) → IsPast v (kept_reader hebrew writes r xs) → IsPast v r ⊎ ((u : ℕ) × In u xs × (writes u ≡ false) × (hebrew v < hebrew u))
  reader_past v [] r h = inl h
  reader_past v (x ∷ xs) r h =
      by (writes x) refl (λ q. reader_past v xs q) h where
        by : (b : Bool) → writes x ≡ b → ((q : Option ℕ) → IsPast v (kept_reader hebrew writes q xs) → IsPast v q ⊎ ((u : ℕ) × In u xs × (writes u ≡ false) × (hebrew v < hebrew u)))
            → IsPast v (kept_reader hebrew writes (cond b r (later_reader hebrew writes r x)) xs) → IsPast v r ⊎ ((u : ℕ) × In u (x ∷ xs) × (writes u ≡ false) × (hebrew v < hebrew u))
        by true e more h = elim (more r h) [ inl l ↦ inl l | inr z ↦ inr (z.0, inr z.1, z.2, z.3) ]
        by false e more h = elim (more (later_reader hebrew writes r x) h) [
          | inl k ↦ elim (past_later v r x k) [ inl l ↦ inr (x, inl refl, e, l) | inr g ↦ inl g ]
          | inr z ↦ inr (z.0, inr z.1, z.2, z.3)
        ]

  past_kept : (v : ℕ) (xs : List ℕ) (r : Option ℕ) → IsPast v r → IsPast v (kept_reader hebrew writes r xs)
  past_kept v [] r h = h
  past_kept v (x ∷ xs) r h =
      by (writes x) (λ q. past_kept v xs q) where
        by : (b : Bool) → ((q : Option ℕ) → IsPast v q → IsPast v (kept_reader hebrew writes q xs)) → IsPast v (kept_reader hebrew writes (cond b r (later_reader hebrew writes r x)) xs)
        by true more = more r h
        by false more = more (later_reader hebrew writes r x) (later_past v r x (inr h))

  past_reader : (v u : ℕ) (xs : List ℕ) (r : Option ℕ) → In u xs → writes u ≡ false → hebrew v < hebrew u → IsPast v (kept_reader hebrew writes r xs)
  past_reader v u [] r i e l = absurd i
  past_reader v u (x ∷ xs) r (inl q) e l =
      by (writes x) refl where
        by : (b : Bool) → writes x ≡ b → IsPast v (kept_reader hebrew writes (cond b r (later_reader hebrew writes r x)) xs)
        by true f = absurd (cc (f, e, ap writes q))
        by false f = past_kept v xs (later_reader hebrew writes r x) (later_past v r x (inl (omega (arith, l, ap hebrew q))))
  past_reader v u (x ∷ xs) r (inr i) e l =
      by (writes x) (λ q. past_reader v u xs q i e l) where
        by : (b : Bool) → ((q : Option ℕ) → IsPast v (kept_reader hebrew writes q xs)) → IsPast v (kept_reader hebrew writes (cond b r (later_reader hebrew writes r x)) xs)
        by true more = more r
        by false more = more (later_reader hebrew writes r x)

  -- ## Writers

  writer_past : (v : ℕ) (xs : List ℕ) (w : Option ℕ) → IsPast v (last_writer hebrew writes w xs) → IsPast v w ⊎ ((u : ℕ) × In u xs × (writes u ≡ true) × (hebrew v < hebrew u))
  writer_past v [] w h = inl h
  writer_past v (x ∷ xs) w h =
      by (writes x) refl (λ q. writer_past v xs q) h where
        by : (b : Bool) → writes x ≡ b → ((q : Option ℕ) → IsPast v (last_writer hebrew writes q xs) → IsPast v q ⊎ ((u : ℕ) × In u xs × (writes u ≡ true) × (hebrew v < hebrew u)))
            → IsPast v (last_writer hebrew writes (cond b (Some x) w) xs) → IsPast v w ⊎ ((u : ℕ) × In u (x ∷ xs) × (writes u ≡ true) × (hebrew v < hebrew u))
        by true e more h = elim (more (Some x) h) [ inl l ↦ inr (x, inl refl, e, l) | inr z ↦ inr (z.0, inr z.1, z.2, z.3) ]
        by false e more h = elim (more w h) [ inl l ↦ inl l | inr z ↦ inr (z.0, inr z.1, z.2, z.3) ]

  -- each of these that writes comes after u in the Hebrew order too
  abbrev Beyond : ℕ → List ℕ → Type 0
  Beyond u xs = (y : ℕ) → In y xs → writes y ≡ true → hebrew y < hebrew u → ⊥

  past_last : (v : ℕ) (xs : List ℕ) (w : ℕ) → hebrew v < hebrew w → Beyond w xs → NoRace xs → IsPast v (last_writer hebrew writes (Some w) xs)
  past_last v [] w l b n = l
  past_last v (x ∷ xs) w l b n =
      by (writes x) refl (λ y k d. past_last v xs y k d n.1) where
        by : (c : Bool) → writes x ≡ c → ((y : ℕ) → hebrew v < hebrew y → Beyond y xs → IsPast v (last_writer hebrew writes (Some y) xs)) → IsPast v (last_writer hebrew writes (cond c (Some x) (Some w)) xs)
        by true e more = more x (elim (cases_lt (hebrew x) (hebrew w)) [ inl low ↦ absurd (b x (inl refl) e low) | inr le ↦ omega arith ]) (λ y i f low. n.0 y i (low, or_left (writes x) (writes y) e))
        by false e more = more w l (λ y i. b y (inr i))

  past_writer : (v u : ℕ) (xs : List ℕ) (w : Option ℕ) → In u xs → writes u ≡ true → hebrew v < hebrew u → NoRace xs → IsPast v (last_writer hebrew writes w xs)
  past_writer v u [] w i e l n = absurd i
  past_writer v u (x ∷ xs) w (inl q) e l n =
      by (writes x) refl where
        by : (c : Bool) → writes x ≡ c → IsPast v (last_writer hebrew writes (cond c (Some x) w) xs)
        by true f = past_last v xs x (omega (arith, l, ap hebrew q)) (λ y i g low. n.0 y i (low, or_left (writes x) (writes y) f)) n.1
        by false f = absurd (cc (f, e, ap writes q))
  past_writer v u (x ∷ xs) w (inr i) e l n =
      by (writes x) (λ q. past_writer v u xs q i e l n.1) where
        by : (c : Bool) → ((q : Option ℕ) → IsPast v (last_writer hebrew writes q xs)) → IsPast v (last_writer hebrew writes (cond c (Some x) w) xs)
        by true more = more (Some x)
        by false more = more w

  -- ## Members

  writer_in : (xs : List ℕ) (w : Option ℕ) (u : ℕ) → last_writer hebrew writes w xs ≡ Some u → (w ≡ Some u) ⊎ (In u xs × (writes u ≡ true))
  writer_in [] w u e = inl e
  writer_in (x ∷ xs) w u e =
      by (writes x) refl (λ q. writer_in xs q u) e where
        by : (b : Bool) → writes x ≡ b → ((q : Option ℕ) → last_writer hebrew writes q xs ≡ Some u → (q ≡ Some u) ⊎ (In u xs × (writes u ≡ true)))
            → last_writer hebrew writes (cond b (Some x) w) xs ≡ Some u → (w ≡ Some u) ⊎ (In u (x ∷ xs) × (writes u ≡ true))
        by true f more e = elim (more (Some x) e) [
          | inl q ↦ (let same : x ≡ u = cc q in inr (inl (sym same), sym (ap writes same) ∙ f))
          | inr z ↦ inr (inr z.0, z.1)
        ]
        by false f more e = elim (more w e) [ inl q ↦ inl q | inr z ↦ inr (inr z.0, z.1) ]

  later_is : (r : Option ℕ) (x u : ℕ) → later_reader hebrew writes r x ≡ Some u → (r ≡ Some u) ⊎ (u ≡ x)
  later_is None x u e = inr (let same : x ≡ u = cc e in sym same)
  later_is (Some r) x u e =
      by (nat_lt (hebrew r) (hebrew x)) e where
        by : (b : Bool) → cond b (Some x) (Some r) ≡ Some u → (Some r ≡ Some u) ⊎ (u ≡ x)
        by true e = inr (let same : x ≡ u = cc e in sym same)
        by false e = inl e

  reader_in : (xs : List ℕ) (r : Option ℕ) (u : ℕ) → kept_reader hebrew writes r xs ≡ Some u → (r ≡ Some u) ⊎ In u xs
  reader_in [] r u e = inl e
  reader_in (x ∷ xs) r u e =
      by (writes x) (λ q. reader_in xs q u) e where
        by : (b : Bool) → ((q : Option ℕ) → kept_reader hebrew writes q xs ≡ Some u → (q ≡ Some u) ⊎ In u xs)
            → kept_reader hebrew writes (cond b r (later_reader hebrew writes r x)) xs ≡ Some u → (r ≡ Some u) ⊎ In u (x ∷ xs)
        by true more e = elim (more r e) [ inl q ↦ inl q | inr z ↦ inr (inr z) ]
        by false more e = elim (more (later_reader hebrew writes r x) e) [
          | inl q ↦ elim (later_is r x u q) [ inl k ↦ inl k | inr k ↦ inr (inl k) ]
          | inr z ↦ inr (inr z)
        ]

  pub last_writer_in : (xs : List ℕ) (u : ℕ) → last_writer hebrew writes None xs ≡ Some u → In u xs × (writes u ≡ true)
  last_writer_in xs u e = elim (writer_in xs None u e) [ inl q ↦ absurd (cc q) | inr z ↦ z ]

  pub kept_reader_in : (xs : List ℕ) (u : ℕ) → kept_reader hebrew writes None xs ≡ Some u → In u xs
  kept_reader_in xs u e = elim (reader_in xs None u e) [ inl q ↦ absurd (cc q) | inr z ↦ z ]

  -- ## One access more

  pub last_writer_more : (xs : List ℕ) (w : Option ℕ) (v : ℕ) → last_writer hebrew writes w (xs ++ v ∷ []) ≡ cond (writes v) (Some v) (last_writer hebrew writes w xs)
  last_writer_more [] w v = refl
  last_writer_more (x ∷ xs) w v = last_writer_more xs (cond (writes x) (Some x) w) v

  pub kept_reader_more : (xs : List ℕ) (r : Option ℕ) (v : ℕ)
      → kept_reader hebrew writes r (xs ++ v ∷ []) ≡ cond (writes v) (kept_reader hebrew writes r xs) (later_reader hebrew writes (kept_reader hebrew writes r xs) v)
  kept_reader_more [] r v = refl
  kept_reader_more (x ∷ xs) r v = kept_reader_more xs (cond (writes x) r (later_reader hebrew writes r x)) v

  -- ## Both

  module _ (xs : List ℕ) (v : ℕ) where
    abbrev writer : Option ℕ
    writer = last_writer hebrew writes None xs

    abbrev reader : Option ℕ
    reader = kept_reader hebrew writes None xs

    -- the two tests of a rival
    abbrev first_test : Bool
    first_test = is_parallel_to hebrew writes writer v

    abbrev second_test : Bool
    second_test = writes v && is_parallel_to hebrew writes reader v

    there_is : (o : Option ℕ) → is_parallel_to hebrew writes o v ≡ true → is_some o ≡ true
    there_is None e = absurd (cc e)
    there_is (Some u) e = refl

    tests_tell : is_some (rival hebrew writes xs v) ≡ (first_test || second_test)
    tests_tell = by first_test second_test (there_is writer) (λ e. there_is reader (and_parts (writes v) (is_parallel_to hebrew writes reader v) e).1) where
      by : (a b : Bool) → (a ≡ true → is_some writer ≡ true) → (b ≡ true → is_some reader ≡ true) → is_some (cond a writer (cond b reader None)) ≡ (a || b)
      by true b f g = f refl
      by false true f g = g refl
      by false false f g = refl

    forth : NoRace xs → races_with hebrew writes xs v ≡ true → (first_test || second_test) ≡ true
    forth n e =
        let z = any_in (λ u. races hebrew writes u v) xs e in
        let r = race z.0 v z.2 in
        elim (cases_Bool (writes z.0)) [
          | inl w ↦ or_left first_test second_test (past_told v writer (past_writer v z.0 xs None z.1 w r.0 n))
          | inr f ↦
              (let w : writes v ≡ true = elim (or_cases (writes z.0) (writes v) r.1) [ inl w ↦ absurd (cc (w, f)) | inr w ↦ w ] in
              or_right first_test second_test (and_from (writes v) (is_parallel_to hebrew writes reader v) w (past_told v reader (past_reader v z.0 xs None z.1 f r.0))))
        ]

    -- a rival is among the accesses, and races
    pub rival_races : (u : ℕ) → rival hebrew writes xs v ≡ Some u → In u xs × (races hebrew writes u v ≡ true)
    rival_races u e = by first_test second_test refl refl e where
      parallel : (o : Option ℕ) → o ≡ Some u → is_parallel_to hebrew writes o v ≡ true → hebrew v < hebrew u
      parallel o q f = let P : Option ℕ → Type 0 = IsPast v in subst P q (told_past v o f)

      by : (a b : Bool) → first_test ≡ a → second_test ≡ b → cond a writer (cond b reader None) ≡ Some u → In u xs × (races hebrew writes u v ≡ true)
      by true b p q e = let z = last_writer_in xs u e in (z.0, race_told u v (parallel writer e p, or_left (writes u) (writes v) z.1))
      by false true p q e =
          let y = and_parts (writes v) (is_parallel_to hebrew writes reader v) q in
          (kept_reader_in xs u e, race_told u v (parallel reader e y.1, or_right (writes u) (writes v) y.0))
      by false false p q e = absurd (cc e)

    some_races : (o : Option ℕ) → rival hebrew writes xs v ≡ o → is_some o ≡ true → races_with hebrew writes xs v ≡ true
    some_races None q e = absurd (cc e)
    some_races (Some u) q e = let z = rival_races u q in any_from (λ u. races hebrew writes u v) u xs z.0 z.1

    pub rival_found : NoRace xs → is_some (rival hebrew writes xs v) ≡ races_with hebrew writes xs v
    rival_found n = same_truth (is_some (rival hebrew writes xs v)) (races_with hebrew writes xs v) (some_races (rival hebrew writes xs v) refl) (λ e. tests_tell ∙ forth n e)

pub kept_is_enough : KeptIsEnough
kept_is_enough hebrew writes us v free = rival_found hebrew writes us v (none_races hebrew writes us free)

pub rivals_race : RivalsRace
rivals_race hebrew writes us v u e = let z = rival_races hebrew writes us v u e in and_from (has us u) (races hebrew writes u v) (in_has us u z.0) z.1
