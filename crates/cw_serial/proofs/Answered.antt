-- A strand that is answered in memory is answered in the tree.
use Rattle.std.proofs.Common.{◌≡◌, ℕ, suc, ◌-◌, refl, ap, sym, ◌∙◌, arith, subst, true, false, ◌⊎◌, inl, inr, Option, Some, None, List, [], ◌∷◌, ◌++◌, length, Contains, append-nil}
use Rattle.std.specs.List.{slice_get}
use Rattle.std.proofs.lemmas.Bool.{cases_eq}
use Rattle.std.proofs.lemmas.Option.{slice_get_within}
use Rattle.cw_strand.specs.declared.want.Want.{Want}
use Rattle.cw_strand.specs.declared.want.Want.TheVariants.{Fork}
use Rattle.cw_strand.specs.declared.want.Given.{Given}
use Rattle.cw_strand.specs.Strands.{Strands, is_over, wants_fork}
use Rattle.cw_tree.specs.declared.picks.Turn.{Turn}
use Rattle.cw_serial.specs.declared.table.Place.TheVariants.{Stands, Waits, Gone}
use Rattle.cw_serial.specs.declared.table.Sides.{Sides}
use Rattle.cw_serial.specs.declared.table.Row.{Row}
use Rattle.cw_serial.specs.declared.table.Table.{Table}
use Rattle.cw_serial.specs.InMemory.{before_end, want_before_end}
use Rattle.cw_serial.specs.StrandTree.{StrandTree, stands, at, put}
use Rattle.cw_serial.specs.Machine.{steps_down}
use Rattle.cw_serial.specs.Spots.{turn_to, Spot, standing, waiting, spot, IsSettled}
use Rattle.cw_serial.specs.TableInMemory.{IsSpotAt, Holds, AnswersStrand, SettlesTo, strand_in, strand_in_row, want_of, want_at, over_by, over_at, awaited_of, awaited_at}
use Rattle.cw_serial.proofs.Replaced.{Beside, replaced, spot_beneath, spot_beside, spot_under, at_spot, at_is, put_is, settled_no_forks, settled_no_joins}
use Rattle.cw_serial.proofs.Numbered.{turns_total, turns_unique, turns_of_left, turns_of_right}
use Rattle.cw_serial.proofs.Waiting.{want_there, over_there, awaited_there, puts_here, puts_elsewhere}
use Rattle.cw_serial.proofs.Holding.{beneath, from_stand, from_wait, at_stand, row_named}
use Rattle.cw_serial.proofs.Joining.{place_is, puts_numbered}

module _ {S A : Type 0} (s : Strands A) (state : S → A) (table : Table S) (tree : StrandTree A) (holds : Holds state table tree) where
  -- where a strand stands, by its number
  pub record StandsAt (i : ℕ) (q : List Turn) (w : Want) : Type 0 where
    pub forks : ℕ
    pub strand : S
    pub here : spot tree q ≡ Some (standing forks (state strand))
    pub wants : s.want (state strand) ≡ w

  pub stands_at : (i : ℕ) (q : List Turn) (w : Want) → steps_down table.names.items i ≡ Some q → want_at s state table.rows.items i ≡ Some w → StandsAt i q w
  stands_at i q w up h =
      let st = want_there s state table.rows.items i w h in
      let k = length st.row.forks.items in
      let here = from_stand state st.strand k (spot tree q) (subst (λ pl. IsSpotAt state pl k (spot tree q)) st.stands (holds.places i q st.row up st.here)) in
      record { forks = k; strand = st.strand; here = here; wants = st.wants }

  nobody_by : (q : List Turn) (row : Row S) (o : Option (Spot A)) → IsSpotAt state row.place (length row.forks.items) o → want_of s state (strand_in row.place) ≡ None → at_spot s o ≡ None
  nobody_by q row None h none = refl
  nobody_by q row (Some (waiting k)) h none = refl
  nobody_by q row (Some (standing k a)) h none =
      let st = at_stand state row.place (length row.forks.items) k a h in
      let e : Some (s.want (state st.strand)) ≡ None = ap (λ pl. want_of s state (strand_in pl)) (sym st.stands) ∙ none in
      absurd cc

  -- nobody stands where no strand in memory stands
  pub nobody_at : (i : ℕ) (q : List Turn) → steps_down table.names.items i ≡ Some q → want_at s state table.rows.items i ≡ None → at s tree q ≡ None
  nobody_at i q up none =
      let (row, here) = row_named state table tree holds i q up in
      at_is s tree q ∙ nobody_by q row (spot tree q) (holds.places i q row up here) (ap (λ o. want_of s state (strand_in_row o)) (sym here) ∙ none)

  -- what is wanted in memory is what the strand wants
  pub wants_same : (i : ℕ) (q : List Turn) → steps_down table.names.items i ≡ Some q → before_end (want_at s state table.rows.items i) ≡ want_before_end s (at s tree q)
  wants_same i q up = by (want_at s state table.rows.items i) refl where
    by : (o : Option Want) → want_at s state table.rows.items i ≡ o → before_end (want_at s state table.rows.items i) ≡ want_before_end s (at s tree q)
    by None e = ap before_end e ∙ ap (want_before_end s) (sym (nobody_at i q up e))
    by (Some w) e =
        let there = stands_at i q w up e in
        ap before_end e ∙ (ap (λ v. before_end (Some v)) (sym there.wants) ∙ ap (want_before_end s) (sym (at_is s tree q ∙ ap (at_spot s) there.here)))

  -- the name of a row
  row_name : (i : ℕ) (row : Row S) → slice_get table.rows.items i ≡ Some row → (q : List Turn) × (steps_down table.names.items i ≡ Some q)
  row_name i row here = turns_total table.names.items table.rows.items holds.numbered i (let same = holds.numbered.same in let within = slice_get_within table.rows.items i row here in omega arith)

  module _ (settled : IsSettled s tree) where
    wants_no_fork : (i : ℕ) → want_at s state table.rows.items i ≡ Some Fork → ⊥
    wants_no_fork i h =
        let st = want_there s state table.rows.items i Fork h in
        let (q, up) = row_name i st.row st.here in
        let at = stands_at i q Fork up h in
        let e : true ≡ false = sym (ap wants_fork at.wants) ∙ settled_no_forks s tree settled q at.forks (state at.strand) at.here in
        cc

    over_spot : (i : ℕ) (q : List Turn) → steps_down table.names.items i ≡ Some q → over_at s state table.rows.items i ≡ true → (k : ℕ) × (a : A) × (spot tree q ≡ Some (standing k a)) × (is_over (s.want a) ≡ true)
    over_spot i q up over =
        let (w, wants, is) = over_there s state table.rows.items i over in
        let at = stands_at i q w up wants in
        (at.forks, state at.strand, at.here, ap is_over at.wants ∙ is)

    ends_apart : (i : ℕ) (x : Sides) → awaited_at table.rows.items i ≡ Some x → over_at s state table.rows.items x.left ≡ true → over_at s state table.rows.items x.right ≡ true → ⊥
    ends_apart i x h left right =
        let w = awaited_there table.rows.items i x h in
        let k = length w.row.forks.items in
        let (q, up) = row_name i w.row w.here in
        let (here, some) = from_wait state k (spot tree q) (subst (λ pl. IsSpotAt state pl k (spot tree q)) w.waits (holds.places i q w.row up w.here)) in
        let number : suc (k - 1) ≡ k = omega arith in
        let left_named = turns_of_left table.names.items table.rows.items holds.numbered i (k - 1) w.row x q w.here w.newest up ∙ ap (λ m. Some (q ++ turn_to m false ∷ [])) number in
        let right_named = turns_of_right table.names.items table.rows.items holds.numbered i (k - 1) w.row x q w.here w.newest up ∙ ap (λ m. Some (q ++ turn_to m true ∷ [])) number in
        let (m, a, hl, ol) = over_spot x.left (q ++ turn_to k false ∷ []) left_named left in
        let (n, b, hr, or) = over_spot x.right (q ++ turn_to k true ∷ []) right_named right in
        settled_no_joins s tree settled q k m n a b here hl hr ol or

module _ {S A : Type 0} (s : Strands A) (state : S → A) (old new : Table S) (i : ℕ) (given : Given) (a : AnswersStrand s state old i given new)
    (tree : StrandTree A) (holds : Holds state old tree) (settled : IsSettled s tree) (q : List Turn) (up : steps_down old.names.items i ≡ Some q) where
  names_same : new.names ≡ old.names
  names_same = a.back.names ∙ a.gone.names

  abbrev k : ℕ
  k = length a.gone.row.forks.items

  -- the strand was there
  from : spot tree q ≡ Some (standing k (state a.strand))
  from = from_stand state a.strand k (spot tree q) (subst (λ pl. IsSpotAt state pl k (spot tree q)) a.gone.was (holds.places i q a.gone.row up a.gone.here))

  pub strand_is : (forks : ℕ) (x : A) → spot tree q ≡ Some (standing forks x) → state a.strand ≡ x
  strand_is forks x h = let e = sym from ∙ h in cc

  abbrev next : A
  next = s.answer (state a.strand) given

  now : StrandTree A
  now = replaced tree q (stands k next)

  here_now : spot now q ≡ Some (standing k next)
  unfolding now
  here_now = ap (spot now) (sym (append-nil q)) ∙ spot_beneath tree q [] (stands k next) (standing k (state a.strand)) from

  same_spot : (z : List Turn) → (z ≡ q → ⊥) → spot now z ≡ spot tree z
  unfolding now
  same_spot z ne = by (beneath q z) where
    by : ((r : List Turn) × (z ≡ q ++ r)) ⊎ Beside q z → spot (replaced tree q (stands k next)) z ≡ spot tree z
    by (inr beside) = spot_beside tree q z (stands k next) beside
    by (inl ([], e)) = absurd (ne (e ∙ append-nil q))
    by (inl (x ∷ r, e)) =
        ap (spot (replaced tree q (stands k next))) e
        ∙ (spot_beneath tree q (x ∷ r) (stands k next) (standing k (state a.strand)) from
        ∙ (sym (spot_under tree q k (state a.strand) x r from) ∙ ap (spot tree) (sym e)))

  elsewhere : (n : ℕ) → (i ≡ n → ⊥) → slice_get new.rows.items n ≡ slice_get old.rows.items n
  elsewhere n ne = puts_elsewhere a.one new i n (Stands a.answered) a.former a.back ne ∙ puts_elsewhere old a.one i n Gone (Stands a.strand) a.gone ne

  same_forks : a.back.row.forks ≡ a.gone.row.forks
  same_forks = let there : Row S = record a.gone.row { place = Gone } in let e : Some a.back.row ≡ Some there = sym a.back.here ∙ puts_here old a.one i Gone (Stands a.strand) a.gone in let f : a.back.row ≡ there = cc in ap (λ (v : Row S). v.forks) f

  at_place : (n : ℕ) (z : List Turn) (row : Row S) → steps_down old.names.items n ≡ Some z → slice_get new.rows.items n ≡ Some row → (i ≡ n) ⊎ (i ≡ n → ⊥) → IsSpotAt state row.place (length row.forks.items) (spot now z)
  at_place n z row uz here (inl e) =
      let there : Row S = record a.back.row { place = Stands a.answered } in
      let same : row ≡ there = (let f : Some row ≡ Some there = sym here ∙ (ap (slice_get new.rows.items) (sym e) ∙ puts_here a.one new i (Stands a.answered) a.former a.back) in cc) in
      let path : z ≡ q = (let f : Some z ≡ Some q = sym uz ∙ (ap (steps_down old.names.items) (sym e) ∙ up) in cc) in
      place_is state row.place (Stands a.answered) (length row.forks.items) k (spot now z) (Some (standing k next)) (ap (λ (t : Row S). t.place) same) (ap (λ (t : Row S). length t.forks.items) same ∙ ap (λ v. length v.items) same_forks) (ap (spot now) path ∙ here_now) (refl, a.goes_on)
  at_place n z row uz here (inr ne) =
      place_is state row.place row.place (length row.forks.items) (length row.forks.items) (spot now z) (spot tree z) refl refl
      (same_spot z (λ e. ne (turns_unique old.names.items old.rows.items holds.numbered i n z (up ∙ ap (λ v. Some v) (sym e)) uz)))
      (holds.places n z row uz (sym (elsewhere n ne) ∙ here))

  fork_only_here : (n : ℕ) → want_at s state new.rows.items n ≡ Some Fork → (i ≡ n) ⊎ (i ≡ n → ⊥) → Contains (i ∷ []) n
  fork_only_here n h (inl e) = (0, omega arith, e)
  fork_only_here n h (inr ne) = absurd (wants_no_fork s state old tree holds settled n (ap (λ o. want_of s state (strand_in_row o)) (sym (elsewhere n ne)) ∙ h))

  over_elsewhere : (n : ℕ) → (i ≡ n → ⊥) → over_at s state new.rows.items n ≡ true → over_at s state old.rows.items n ≡ true
  over_elsewhere n ne h = ap (λ o. over_by (want_of s state (strand_in_row o))) (sym (elsewhere n ne)) ∙ h

  stands_here : (x : Sides) → awaited_at new.rows.items i ≡ Some x → ⊥
  stands_here x h =
      let w = awaited_there new.rows.items i x h in
      let there : Row S = record a.back.row { place = Stands a.answered } in
      let e : Some w.row ≡ Some there = sym w.here ∙ puts_here a.one new i (Stands a.answered) a.former a.back in
      let same : w.row ≡ there = cc in
      let f : Waits ≡ Stands a.answered = sym w.waits ∙ ap (λ (v : Row S). v.place) same in
      cc

  join_only_here : (n : ℕ) (x : Sides) → awaited_at new.rows.items n ≡ Some x → over_at s state new.rows.items x.left ≡ true → over_at s state new.rows.items x.right ≡ true
      → (i ≡ n) ⊎ (i ≡ n → ⊥) → (i ≡ x.left) ⊎ (i ≡ x.left → ⊥) → (i ≡ x.right) ⊎ (i ≡ x.right → ⊥) → Contains (i ∷ []) x.left ⊎ Contains (i ∷ []) x.right
  join_only_here n x h left right (inl e) at_left at_right = absurd (stands_here x (ap (awaited_at new.rows.items) e ∙ h))
  join_only_here n x h left right (inr ne) (inl e) at_right = inl (0, omega arith, e)
  join_only_here n x h left right (inr ne) (inr nl) (inl e) = inr (0, omega arith, e)
  join_only_here n x h left right (inr ne) (inr nl) (inr nr) =
      absurd (ends_apart s state old tree holds settled n x (ap awaited_of (sym (elsewhere n ne)) ∙ h) (over_elsewhere x.left nl left) (over_elsewhere x.right nr right))

  -- the strand that is answered is the only one to be looked at
  pub answered_comes : SettlesTo s state new (i ∷ []) (put s tree q next)
  unfolding now
  answered_comes = record {
    tree = now;
    holds = record {
      numbered = puts_numbered a.one new i (Stands a.answered) a.former a.back (puts_numbered old a.one i Gone (Stands a.strand) a.gone holds.numbered);
      places = λ n z row uz here. at_place n z row (ap (λ v. steps_down v.items n) (sym names_same) ∙ uz) here (cases_eq i n);
    };
    comes = sym (put_is s tree q k (state a.strand) next settled from);
    quiet = record {
      fork = λ n h. fork_only_here n h (cases_eq i n);
      join = λ n x h left right. join_only_here n x h left right (cases_eq i n) (cases_eq i x.left) (cases_eq i x.right);
    };
  }
