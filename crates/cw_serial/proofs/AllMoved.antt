-- Once all strands were looked at, the tree has settled.
use Rattle.std.proofs.Common.{◌≡◌, ℕ, refl, ap, sym, ◌∙◌, arith, subst, Bool, true, false, ◌⊎◌, inl, inr, Some, List, [], ◌∷◌, ◌++◌, length, Contains, append_assoc, append-nil}
use Rattle.cw_strand.specs.Strands.{Strands, IsDeep, is_over, wants_fork}
use Rattle.cw_tree.specs.declared.picks.Name.{Name}
use Rattle.cw_tree.specs.declared.picks.Turn.{Turn}
use Rattle.cw_serial.specs.declared.table.Table.{Table}
use Rattle.cw_serial.specs.StrandTree.{StrandTree}
use Rattle.cw_serial.specs.Machine.{steps_down}
use Rattle.cw_serial.specs.Spots.{turn_to, standing, waiting, spot, IsSettled}
use Rattle.cw_serial.specs.TableInMemory.{IsSpotAt, Holds, want_at, over_at, Moves, forks, joins, rests, Quiet, SettlesTo, IsFront}
use Rattle.cw_serial.proofs.Deep.{fork_want}
use Rattle.cw_serial.proofs.Settled.{settled_stays}
use Rattle.cw_serial.proofs.Replaced.{NoForks, NoJoins, settled_by}
use Rattle.cw_serial.proofs.Waiting.{want_here, over_here, awaited_here}
use Rattle.cw_serial.proofs.Holding.{at_stand, row_named, waits_for, listed}
use Rattle.cw_serial.proofs.ForkMade.{names_now}
use Rattle.cw_serial.proofs.Moving.{comes_more}

no_number : (j : ℕ) → Contains [] j → ⊥
no_number j c = let low = c.1 in omega arith

-- ## Names

front_itself : (names : List Name) → IsFront names names
front_itself names = ([], sym (append-nil names))

front_trans : (a b c : List Name) → IsFront a b → IsFront b c → IsFront a c
front_trans a b c (r, e) (q, f) = (r ++ q, f ∙ (ap (λ xs. xs ++ q) e ∙ append_assoc a r q))

module _ {S A : Type 0} (s : Strands A) (state : S → A) where
  module _ (table : Table S) (tree : StrandTree A) (holds : Holds state table tree) where
    -- the strand at a name, by its number
    pub number_at : (i : ℕ) (q : List Turn) (k : ℕ) (a : A) → steps_down table.names.items i ≡ Some q → spot tree q ≡ Some (standing k a) → want_at s state table.rows.items i ≡ Some (s.want a)
    number_at i q k a up h =
        let (row, here) = row_named state table tree holds i q up in
        let st = at_stand state row.place (length row.forks.items) k a (subst (IsSpotAt state row.place (length row.forks.items)) h (holds.places i q row up here)) in
        want_here s state table.rows.items i row st.strand here st.stands ∙ ap (λ b. Some (s.want b)) st.is

    over_number : (i : ℕ) (q : List Turn) (k : ℕ) (a : A) → steps_down table.names.items i ≡ Some q → spot tree q ≡ Some (standing k a) → is_over (s.want a) ≡ true → over_at s state table.rows.items i ≡ true
    over_number i q k a up h over =
        let (row, here) = row_named state table tree holds i q up in
        let st = at_stand state row.place (length row.forks.items) k a (subst (IsSpotAt state row.place (length row.forks.items)) h (holds.places i q row up here)) in
        over_here s state table.rows.items i row st.strand here st.stands ∙ (ap (λ b. is_over (s.want b)) st.is ∙ over)

    module _ (quiet : Quiet s state table.rows.items []) where
      no_forks : NoForks s tree
      no_forks q k a h = by (wants_fork (s.want a)) refl where
        by : (b : Bool) → wants_fork (s.want a) ≡ b → wants_fork (s.want a) ≡ false
        by false e = e
        by true e =
            let (i, up) = listed state table tree holds q (standing k a) h in
            absurd (no_number i (quiet.fork i (number_at i q k a up h ∙ ap (λ w. Some w) (fork_want (s.want a) e))))

      no_joins : NoJoins s tree
      no_joins q k m n x y h hl hr ox oy =
          let (i, up) = listed state table tree holds q (waiting k) h in
          let w = waits_for state table tree holds i q k up h in
          by (w.sides.left) (w.sides.right) (quiet.join i w.sides (awaited_here table.rows.items i w.row w.sides w.here w.place w.newest)
          (over_number w.sides.left (q ++ turn_to k false ∷ []) m x w.left hl ox)
          (over_number w.sides.right (q ++ turn_to k true ∷ []) n y w.right hr oy)) where
            by : (l r : ℕ) → Contains [] l ⊎ Contains [] r → ⊥
            by l r (inl c) = no_number l c
            by l r (inr c) = no_number r c

      pub all_settled : IsSettled s tree
      all_settled = settled_by s tree no_forks no_joins

  pub comes_all : (table : Table S) (t : StrandTree A) → SettlesTo s state table [] t → Holds state table t × IsSettled s t
  comes_all table t c =
      let done = all_settled table c.tree c.holds c.quiet in
      let same = sym (settled_stays s c.tree done) ∙ c.comes in
      (subst (Holds state table) same c.holds, subst (IsSettled s) same done)

  -- ## While strands are looked at

  names_more : (old new : Table S) (i : ℕ) (todo more : List ℕ) → Moves s state old i todo new more → IsFront old.names.items new.names.items
  names_more old new i todo more (forks x f e) = (_, names_now s state old new i x f)
  names_more old new i todo more (joins name named over j e) = ([], ap (λ v. v.items) (j.goes_on.names ∙ (j.right_gone.names ∙ j.left_gone.names)) ∙ sym (append-nil old.names.items))
  names_more old new i todo more (rests r e f) = ([], ap (λ (t : Table S). t.names.items) e ∙ sym (append-nil old.names.items))

  pub record Settling (old : Table S) (i : ℕ) (now : Table S) (todo : List ℕ) : Type 0 where
    pub strands : (t : StrandTree A) → SettlesTo s state old (i ∷ []) t → SettlesTo s state now todo t
    pub names : IsFront old.names.items now.names.items

  pub settling_first : (old : Table S) (i : ℕ) (todo : List ℕ) → todo ≡ i ∷ [] → Settling old i old todo
  settling_first old i todo e = record { strands = λ t c. subst (λ ns. SettlesTo s state old ns t) (sym e) c; names = front_itself old.names.items }

  pub settling_more : IsDeep s → (old mid new : Table S) (i j : ℕ) (now todo more : List ℕ) → now ≡ todo ++ j ∷ [] → Settling old i mid now → Moves s state mid j todo new more → Settling old i new more
  settling_more deep old mid new i j now todo more e g m = record {
    strands = λ t c. comes_more s state deep mid new j todo more t m (subst (λ ns. SettlesTo s state mid ns t) e (g.strands t c));
    names = front_trans old.names.items mid.names.items new.names.items g.names (names_more mid new j todo more m);
  }

  pub settling_all : (old new : Table S) (i : ℕ) (todo : List ℕ) → todo ≡ [] → Settling old i new todo
      → (t : StrandTree A) → SettlesTo s state old (i ∷ []) t → Holds state new t × IsSettled s t
  settling_all old new i todo e g t c = comes_all new t (subst (λ ns. SettlesTo s state new ns t) e (g.strands t c))
