-- What is done with one strand leaves what the tree comes to, and all that can be done is still looked at.
use Rattle.std.proofs.Common.{◌≡◌, ℕ, suc, ◌-◌, ◌<◌, refl, ap, sym, ◌∙◌, arith, subst, true, ◌⊎◌, inl, inr, Some, List, [], ◌∷◌, ◌++◌, length, Contains}
use Rattle.std.specs.List.{slice_get}
use Rattle.std.proofs.lemmas.Bool.{cases_eq}
use Rattle.std.proofs.lemmas.List.{length_push}
use Rattle.std.proofs.lemmas.List.Elements.{Contains-append_left, Contains-append_right, Contains-push, Contains-push_cases}
use Rattle.std.proofs.lemmas.Option.{slice_get_within}
use Rattle.cw_strand.specs.declared.want.Want.{Want}
use Rattle.cw_strand.specs.declared.want.Want.TheVariants.{Fork}
use Rattle.cw_strand.specs.Strands.{Strands, IsDeep, is_over}
use Rattle.cw_tree.specs.declared.picks.Name.{Name}
use Rattle.cw_serial.specs.declared.table.Place.TheVariants.{Stands, Waits, Gone}
use Rattle.cw_serial.specs.declared.table.Sides.{Sides}
use Rattle.cw_serial.specs.declared.table.Row.{Row}
use Rattle.cw_serial.specs.declared.table.Table.{Table}
use Rattle.cw_serial.specs.StrandTree.{StrandTree}
use Rattle.cw_serial.specs.TableInMemory.{left_name, right_name, StrandsAreNumbered, want_at, over_at, awaited_at, Forks, Joins, Rests, Moves, forks, joins, rests, Quiet, SettlesTo}
use Rattle.cw_serial.proofs.Numbers.{get_beyond}
use Rattle.cw_serial.proofs.Waiting.{Standing, want_there, want_here, over_there, over_row, over_here, over_wants_none, Awaiting, awaited_there, awaited_here, puts_here, puts_elsewhere}
use Rattle.cw_serial.proofs.ForkMade.{was, now_waits, now_forks, Which, other, itself, on_left, on_right, which}
use Rattle.cw_serial.proofs.ForkHeld.{after_fork}
use Rattle.cw_serial.proofs.Joining.{after_join}

-- ## Numbers to be looked at

newest_is : {X : Type 0} (xs : List X) (x y : X) → slice_get (xs ++ x ∷ []) (length (xs ++ x ∷ []) - 1) ≡ Some y → x ≡ y
newest_is xs x y h =
    let e : Some x ≡ Some y = sym (get_beyond xs (x ∷ []) 0) ∙ (ap (slice_get (xs ++ x ∷ [])) (omega (arith, length_push xs x)) ∙ h) in
    cc

module _ {S : Type 0} (names : List Name) (rows : List (Row S)) (ok : StrandsAreNumbered names rows) where
  -- the two strands for which one waits are named so
  awaited_names : (i : ℕ) (x : Sides) → awaited_at rows i ≡ Some x
      → (f : ℕ) × (slice_get names x.left ≡ Some (left_name i f)) × (slice_get names x.right ≡ Some (right_name i f))
  awaited_names i x h =
      let w = awaited_there rows i x h in
      let (l, r, hl, hr) = ok.forked i (length w.row.forks.items - 1) w.row x w.here w.newest in
      (suc (length w.row.forks.items - 1), hl, hr)

module _ {S A : Type 0} (s : Strands A) (state : S → A) where
  -- a strand that stands as another one did, or as in another list
  same_over : (old new : List (Row S)) (i : ℕ) (row : Row S) → slice_get new i ≡ Some row → slice_get old i ≡ Some row → over_at s state new i ≡ true → over_at s state old i ≡ true
  same_over old new i row here there over =
      let (w, wants, is) = over_there s state new i over in
      let st = want_there s state new i w wants in
      let same : st.row ≡ row = (let e : Some st.row ≡ Some row = sym st.here ∙ here in cc) in
      over_here s state old i st.row st.strand (there ∙ ap (λ t. Some t) (sym same)) st.stands ∙ (ap is_over st.wants ∙ is)

  -- ## Forks

  module _ (old new : Table S) (i : ℕ) (x : Sides) (f : Forks s state old i new x) (ok : StrandsAreNumbered old.names.items old.rows.items) (todo : List ℕ) (quiet : Quiet s state old.rows.items (todo ++ i ∷ [])) where
    more : List ℕ
    more = todo ++ x.left ∷ x.right ∷ []

    forker : want_at s state old.rows.items i ≡ Some Fork
    forker = want_here s state old.rows.items i f.waits.row f.strand f.waits.here f.waits.was ∙ ap (λ w. Some w) f.wants

    -- the strand that forked had not ended
    not_over : over_at s state old.rows.items i ≡ true → ⊥
    not_over over =
        let (w, wants, is) = over_there s state old.rows.items i over in
        over_wants_none w is (let e : Some w ≡ Some Fork = sym wants ∙ forker in cc)

    keeps : (j : ℕ) → (i ≡ j → ⊥) → Contains (todo ++ i ∷ []) j → Contains more j
    unfolding more
    keeps j ne h = by (Contains-push_cases todo i j h) where
      by : Contains todo j ⊎ (i ≡ j) → Contains (todo ++ x.left ∷ x.right ∷ []) j
      by (inl c) = Contains-append_left todo (x.left ∷ x.right ∷ []) j c
      by (inr e) = absurd (ne e)

    has_left : Contains more x.left
    unfolding more
    has_left = Contains-append_right todo (x.left ∷ x.right ∷ []) x.left (0, omega arith, refl)

    has_right : Contains more x.right
    unfolding more
    has_right = Contains-append_right todo (x.left ∷ x.right ∷ []) x.right (1, omega arith, refl)

    fork_quiet : (j : ℕ) → want_at s state new.rows.items j ≡ Some Fork → Contains more j
    fork_quiet j h =
        let st = want_there s state new.rows.items j Fork h in
        by st (which s state old new i x f ok j st.row st.here) where
          by : (st : Standing s state new.rows.items j Fork) → Which s state old new i x f ok j st.row → Contains more j
          by st (other ne there) = keeps j ne (quiet.fork j (want_here s state old.rows.items j st.row st.strand there st.stands ∙ ap (λ w. Some w) st.wants))
          by st (itself e same) = absurd (let g : Stands st.strand ≡ Waits = sym st.stands ∙ (ap (λ (t : Row S). t.place) (sym same) ∙ now_waits s state old new i x f) in cc)
          by st (on_left e same) = subst (Contains more) (sym e) has_left
          by st (on_right e same) = subst (Contains more) (sym e) has_right

    -- an end that was there before was an end before
    over_before : (j : ℕ) → j < length old.names.items → over_at s state new.rows.items j ≡ true → over_at s state old.rows.items j ≡ true
    over_before j low over =
        let (w, st, is) = over_row s state new.rows.items j over in
        by w st (which s state old new i x f ok j st.row st.here) where
          by : (w : Want) (st : Standing s state new.rows.items j w) → Which s state old new i x f ok j st.row → over_at s state old.rows.items j ≡ true
          by w st (other ne there) = same_over old.rows.items new.rows.items j st.row st.here there over
          by w st (itself e same) = absurd (let g : Stands st.strand ≡ Waits = sym st.stands ∙ (ap (λ (t : Row S). t.place) (sym same) ∙ now_waits s state old new i x f) in cc)
          by w st (on_left e same) = absurd (let g = f.left_number in omega arith)
          by w st (on_right e same) = absurd (let g = f.right_number in omega arith)

    joins_before : (j : ℕ) (y : Sides) → awaited_at old.rows.items j ≡ Some y → over_at s state new.rows.items y.left ≡ true → over_at s state new.rows.items y.right ≡ true → Contains more y.left ⊎ Contains more y.right
    joins_before j y awaited left right =
        let (g, hl, hr) = awaited_names old.names.items old.rows.items ok j y awaited in
        let left_was = over_before y.left (slice_get_within old.names.items y.left (left_name j g) hl) left in
        let right_was = over_before y.right (slice_get_within old.names.items y.right (right_name j g) hr) right in
        by left_was right_was (quiet.join j y awaited left_was right_was) where
          by : over_at s state old.rows.items y.left ≡ true → over_at s state old.rows.items y.right ≡ true → Contains (todo ++ i ∷ []) y.left ⊎ Contains (todo ++ i ∷ []) y.right → Contains more y.left ⊎ Contains more y.right
          by left_was right_was (inl c) = inl (keeps y.left (λ e. not_over (ap (over_at s state old.rows.items) e ∙ left_was)) c)
          by left_was right_was (inr c) = inr (keeps y.right (λ e. not_over (ap (over_at s state old.rows.items) e ∙ right_was)) c)

    join_quiet : (j : ℕ) (y : Sides) → awaited_at new.rows.items j ≡ Some y → over_at s state new.rows.items y.left ≡ true → over_at s state new.rows.items y.right ≡ true → Contains more y.left ⊎ Contains more y.right
    join_quiet j y h left right =
        let w = awaited_there new.rows.items j y h in
        by w (which s state old new i x f ok j w.row w.here) where
          by : (w : Awaiting new.rows.items j y) → Which s state old new i x f ok j w.row → Contains more y.left ⊎ Contains more y.right
          by w (other ne there) = joins_before j y (awaited_here old.rows.items j w.row y there w.waits w.newest) left right
          by w (itself e same) =
              let forks_are = ap (λ (t : Row S). t.forks.items) (sym same) ∙ now_forks s state old new i x f in
              let xy : x ≡ y = newest_is (was s state old new i x f).forks.items x y (ap (λ ys. slice_get ys (length ys - 1)) (sym forks_are) ∙ w.newest) in
              inl (subst (λ (v : Sides). Contains more v.left) xy has_left)
          by w (on_left e same) = absurd (let g : Stands f.left ≡ Waits = sym f.starts_left.place ∙ (ap (λ (t : Row S). t.place) same ∙ w.waits) in cc)
          by w (on_right e same) = absurd (let g : Stands f.right ≡ Waits = sym f.starts_right.place ∙ (ap (λ (t : Row S). t.place) same ∙ w.waits) in cc)

    pub quiet_fork : Quiet s state new.rows.items (todo ++ x.left ∷ x.right ∷ [])
    unfolding more
    quiet_fork = record { fork = fork_quiet; join = join_quiet }

  -- ## Joins

  module _ (old new : Table S) (n : ℕ) (name : Name) (j : Joins s state old name.parent new) (ok : StrandsAreNumbered old.names.items old.rows.items) (named : slice_get old.names.items n ≡ Some name) (over : over_at s state old.rows.items n ≡ true) (todo : List ℕ) (quiet : Quiet s state old.rows.items (todo ++ n ∷ [])) where
    i : ℕ
    i = name.parent

    after : List ℕ
    after = todo ++ i ∷ []

    -- a row: the one that goes on, one that is gone, or one that was there
    data Whose (m : ℕ) (t : Row S) : Type 0 where
      parents : i ≡ m → t.place ≡ Stands j.joined → Whose m t
      gone : t.place ≡ Gone → Whose m t
      same : (i ≡ m → ⊥) → slice_get old.rows.items m ≡ Some t → Whose m t

    whose : (m : ℕ) (t : Row S) → slice_get new.rows.items m ≡ Some t → Whose m t
    unfolding i
    whose m t h = in_new (cases_eq name.parent m) where
      in_old : (name.parent ≡ m → ⊥) → slice_get j.one.rows.items m ≡ Some t → (j.sides.left ≡ m) ⊎ (j.sides.left ≡ m → ⊥) → Whose m t
      in_old ni e (inl l) = gone (let there : Row S = record j.left_gone.row { place = Gone } in let g : Some there ≡ Some t = sym (puts_here old j.one j.sides.left Gone (Stands j.left) j.left_gone) ∙ (ap (slice_get j.one.rows.items) l ∙ e) in let s : there ≡ t = cc in ap (λ (v : Row S). v.place) (sym s))
      in_old ni e (inr nl) = same ni (sym (puts_elsewhere old j.one j.sides.left m Gone (Stands j.left) j.left_gone nl) ∙ e)

      in_two : (name.parent ≡ m → ⊥) → slice_get j.two.rows.items m ≡ Some t → (j.sides.right ≡ m) ⊎ (j.sides.right ≡ m → ⊥) → Whose m t
      in_two ni e (inl r) = gone (let there : Row S = record j.right_gone.row { place = Gone } in let g : Some there ≡ Some t = sym (puts_here j.one j.two j.sides.right Gone (Stands j.right) j.right_gone) ∙ (ap (slice_get j.two.rows.items) r ∙ e) in let s : there ≡ t = cc in ap (λ (v : Row S). v.place) (sym s))
      in_two ni e (inr nr) = in_old ni (sym (puts_elsewhere j.one j.two j.sides.right m Gone (Stands j.right) j.right_gone nr) ∙ e) (cases_eq j.sides.left m)

      in_new : (name.parent ≡ m) ⊎ (name.parent ≡ m → ⊥) → Whose m t
      in_new (inl e) = parents e (let there : Row S = record j.goes_on.row { place = Stands j.joined } in let g : Some there ≡ Some t = sym (puts_here j.two new name.parent (Stands j.joined) Waits j.goes_on) ∙ (ap (slice_get new.rows.items) e ∙ h) in let s : there ≡ t = cc in ap (λ (v : Row S). v.place) (sym s))
      in_new (inr ni) = in_two ni (sym (puts_elsewhere j.two new name.parent m (Stands j.joined) Waits j.goes_on ni) ∙ h) (cases_eq j.sides.right m)

    stays : (m : ℕ) → (n ≡ m → ⊥) → Contains (todo ++ n ∷ []) m → Contains after m
    unfolding after
    stays m ne h = by (Contains-push_cases todo n m h) where
      by : Contains todo m ⊎ (n ≡ m) → Contains (todo ++ i ∷ []) m
      by (inl c) = Contains-append_left todo (i ∷ []) m c
      by (inr e) = absurd (ne e)

    has_parent : Contains after i
    unfolding after
    has_parent = Contains-push todo i

    fork_after : (m : ℕ) → want_at s state new.rows.items m ≡ Some Fork → Contains after m
    fork_after m h =
        let st = want_there s state new.rows.items m Fork h in
        by st (whose m st.row st.here) where
          by : (st : Standing s state new.rows.items m Fork) → Whose m st.row → Contains after m
          by st (parents e place) = subst (Contains after) e has_parent
          by st (gone place) = absurd (let g : Stands st.strand ≡ Gone = sym st.stands ∙ place in cc)
          by st (same ni there) =
              let wants : want_at s state old.rows.items m ≡ Some Fork = want_here s state old.rows.items m st.row st.strand there st.stands ∙ ap (λ w. Some w) st.wants in
              stays m (λ e.
              let (w, at, is) = over_there s state old.rows.items n over in
              over_wants_none w is (let g : Some w ≡ Some Fork = sym at ∙ (ap (want_at s state old.rows.items) e ∙ wants) in cc)) (quiet.fork m wants)

    -- an end now, at the strand that goes on or before
    over_now : (m : ℕ) → over_at s state new.rows.items m ≡ true → (i ≡ m) ⊎ (over_at s state old.rows.items m ≡ true)
    over_now m h =
        let (w, st, is) = over_row s state new.rows.items m h in
        by w st (whose m st.row st.here) where
          by : (w : Want) (st : Standing s state new.rows.items m w) → Whose m st.row → (i ≡ m) ⊎ (over_at s state old.rows.items m ≡ true)
          by w st (parents e place) = inl e
          by w st (gone place) = absurd (let g : Stands st.strand ≡ Gone = sym st.stands ∙ place in cc)
          by w st (same ni there) = inr (same_over old.rows.items new.rows.items m st.row st.here there h)

    joins_after : (m : ℕ) (y : Sides) → (i ≡ m → ⊥) → awaited_at old.rows.items m ≡ Some y → (i ≡ y.left) ⊎ (over_at s state old.rows.items y.left ≡ true) → (i ≡ y.right) ⊎ (over_at s state old.rows.items y.right ≡ true) → Contains after y.left ⊎ Contains after y.right
    unfolding i
    joins_after m y ni awaited (inl e) right = inl (subst (Contains after) e has_parent)
    joins_after m y ni awaited (inr left) (inl e) = inr (subst (Contains after) e has_parent)
    joins_after m y ni awaited (inr left) (inr right) = by (quiet.join m y awaited left right) (awaited_names old.names.items old.rows.items ok m y awaited) where
      by : Contains (todo ++ n ∷ []) y.left ⊎ Contains (todo ++ n ∷ []) y.right → (g : ℕ) × (slice_get old.names.items y.left ≡ Some (left_name m g)) × (slice_get old.names.items y.right ≡ Some (right_name m g)) → Contains after y.left ⊎ Contains after y.right
      by (inl c) (g, hl, hr) = inl (stays y.left (λ e. ni (let s : Some name ≡ Some (left_name m g) = sym named ∙ (ap (slice_get old.names.items) e ∙ hl) in let t : name ≡ left_name m g = cc in ap (λ (v : Name). v.parent) t)) c)
      by (inr c) (g, hl, hr) = inr (stays y.right (λ e. ni (let s : Some name ≡ Some (right_name m g) = sym named ∙ (ap (slice_get old.names.items) e ∙ hr) in let t : name ≡ right_name m g = cc in ap (λ (v : Name). v.parent) t)) c)

    join_after : (m : ℕ) (y : Sides) → awaited_at new.rows.items m ≡ Some y → over_at s state new.rows.items y.left ≡ true → over_at s state new.rows.items y.right ≡ true → Contains after y.left ⊎ Contains after y.right
    join_after m y h left right =
        let w = awaited_there new.rows.items m y h in
        by w (whose m w.row w.here) where
          by : (w : Awaiting new.rows.items m y) → Whose m w.row → Contains after y.left ⊎ Contains after y.right
          by w (parents e place) = absurd (let g : Stands j.joined ≡ Waits = sym place ∙ w.waits in cc)
          by w (gone place) = absurd (let g : Gone ≡ Waits = sym place ∙ w.waits in cc)
          by w (same ni there) = joins_after m y ni (awaited_here old.rows.items m w.row y there w.waits w.newest) (over_now y.left left) (over_now y.right right)

    pub quiet_join : Quiet s state new.rows.items (todo ++ name.parent ∷ [])
    unfolding after i
    quiet_join = record { fork = fork_after; join = join_after }

  -- ## Where nothing can be done

  quiet_rest : (old : Table S) (n : ℕ) (todo : List ℕ) → StrandsAreNumbered old.names.items old.rows.items → Rests s state old n → Quiet s state old.rows.items (todo ++ n ∷ []) → Quiet s state old.rows.items todo
  quiet_rest old n todo ok r quiet = record {
    fork = λ j h. fork_by j h (Contains-push_cases todo n j (quiet.fork j h));
    join = λ j y h left right. join_by j y h left right (quiet.join j y h left right) (awaited_names old.names.items old.rows.items ok j y h);
  } where
    fork_by : (j : ℕ) → want_at s state old.rows.items j ≡ Some Fork → Contains todo j ⊎ (n ≡ j) → Contains todo j
    fork_by j h (inl c) = c
    fork_by j h (inr e) = absurd (r.fork (ap (want_at s state old.rows.items) e ∙ h))

    join_by : (j : ℕ) (y : Sides) → awaited_at old.rows.items j ≡ Some y → over_at s state old.rows.items y.left ≡ true → over_at s state old.rows.items y.right ≡ true → Contains (todo ++ n ∷ []) y.left ⊎ Contains (todo ++ n ∷ []) y.right
        → (g : ℕ) × (slice_get old.names.items y.left ≡ Some (left_name j g)) × (slice_get old.names.items y.right ≡ Some (right_name j g)) → Contains todo y.left ⊎ Contains todo y.right
    join_by j y h left right (inl c) (g, hl, hr) = by (Contains-push_cases todo n y.left c) where
      by : Contains todo y.left ⊎ (n ≡ y.left) → Contains todo y.left ⊎ Contains todo y.right
      by (inl d) = inl d
      by (inr e) = absurd (r.join (left_name j g) y (ap (slice_get old.names.items) e ∙ hl) h (ap (over_at s state old.rows.items) e ∙ left) left right)
    join_by j y h left right (inr c) (g, hl, hr) = by (Contains-push_cases todo n y.right c) where
      by : Contains todo y.right ⊎ (n ≡ y.right) → Contains todo y.left ⊎ Contains todo y.right
      by (inl d) = inr d
      by (inr e) = absurd (r.join (right_name j g) y (ap (slice_get old.names.items) e ∙ hr) h (ap (over_at s state old.rows.items) e ∙ right) left right)

  -- ## All of it

  pub comes_more : IsDeep s → (old new : Table S) (i : ℕ) (todo later : List ℕ) (t : StrandTree A) → Moves s state old i todo new later → SettlesTo s state old (todo ++ i ∷ []) t → SettlesTo s state new later t
  comes_more deep old new i todo later t (forks x f e) c =
      let a = after_fork s state deep old new i x f c.tree c.holds in
      record { tree = a.now; holds = a.holds; comes = a.same ∙ c.comes; quiet = subst (Quiet s state new.rows.items) (sym e) (quiet_fork old new i x f c.holds.numbered todo c.quiet) }
  comes_more deep old new i todo later t (joins name named over j e) c =
      let a = after_join s state old new name.parent j c.tree c.holds in
      record { tree = a.now; holds = a.holds; comes = a.same ∙ c.comes; quiet = subst (Quiet s state new.rows.items) (sym e) (quiet_join old new i name j c.holds.numbered named over todo c.quiet) }
  comes_more deep old new i todo later t (rests r e f) c =
      subst (λ table. SettlesTo s state table later t) (sym e) (record { tree = c.tree; holds = c.holds; comes = c.comes; quiet = subst (Quiet s state old.rows.items) (sym f) (quiet_rest old i todo c.holds.numbered r c.quiet) })
