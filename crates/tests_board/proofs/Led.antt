-- Serves `IsLed`: a strand that a test leads from call to call.
use Rattle.std.proofs.Common.{◌≡◌, ◌∙◌, ℕ, List, [], ◌∷◌, ◌++◌, map, ap, refl, sym, subst, arith, inl, inr}
use Rattle.std.specs.Prelude.{◌⊎◌, ℤ, All, Bool, false, Contains, Option, None, reverse, ◌||◌, if◌then◌else◌}
use Rattle.std.proofs.lemmas.List.Elements.{All-head, All-tail, Contains-push_cases}
use Rattle.atomic_table.specs.Seated.{TableId}
use Rattle.cw_tree.specs.declared.conflict.Conflict.{Conflict}
use Rattle.cw_log.specs.declared.board.Access.{Access}
use Rattle.cw_log.specs.declared.board.Access.TheVariants as access
use Rattle.cw_log.specs.declared.log.Above.{Above}
use Rattle.cw_log.specs.declared.token.Open.{Open}
use Rattle.cw_log.specs.declared.token.Phase.{Phase}
use Rattle.cw_log.specs.declared.token.Phase.TheVariants.{Going, Parted}
use Rattle.cw_log.specs.declared.token.Side.TheVariants.{Beside}
use Rattle.cw_log.specs.declared.token.Token.{Token}
use Rattle.cw_log.specs.Answers.{Meets}
use Rattle.cw_log.specs.Tokens.{kept_stop, left_behind, taken_in, AreOfOneFork}
use Rattle.cw_steps.specs.declared.table.StrandToken.{StrandToken}
use Rattle.cw_steps.specs.Tracks.{begins}
use Rattle.cw_board.specs.declared.board.Board.{Board}
use Rattle.cw_board.specs.Boards.{columns_of, table_of, IsAt, IsOf}
use Rattle.tests_board.specs.Led.{IsLed}
use Rattle.cw_board.proofs.Refusing.{begins_cons}

-- ## Under the name of a table

pub here : (b : Board) (id : TableId) (columns : ℕ) (t : StrandToken) → table_of b ≡ id → columns_of b ≡ columns → IsAt id columns t → IsOf b t
here b id columns t e f h = subst (λ i. IsAt i (columns_of b) t) (sym e) (subst (λ n. IsAt id n t) (sym f) h)

pub there : (b : Board) (id : TableId) (columns : ℕ) (t : StrandToken) → table_of b ≡ id → columns_of b ≡ columns → IsOf b t → IsAt id columns t
there b id columns t e f h = subst (λ n. IsAt id n t) f (subst (λ i. IsAt i (columns_of b) t) e h)

-- ## What calls ask

pub none_begins : (blocks : List Above) (n : ℕ) → All (λ (a : Above). a.begin ≡ n → ⊥) blocks → Contains (begins (reverse blocks)) n → ⊥
none_begins [] n all h = absurd (omega (arith, h.1))
none_begins (b ∷ blocks) n all h =
    pick (λ g. none_begins blocks n (All-tail (λ (a : Above). a.begin ≡ n → ⊥) b blocks all) g)
    (Contains-push_cases (begins (reverse blocks)) b.begin n (subst (λ (ns : List ℕ). Contains ns n) (begins_cons b blocks) h)) where
      pick : (Contains (begins (reverse blocks)) n → ⊥) → Contains (begins (reverse blocks)) n ⊎ (b.begin ≡ n) → ⊥
      pick f (inl g) = f g
      pick f (inr e) = All-head (λ (a : Above). a.begin ≡ n → ⊥) b blocks all e

-- ## What calls make of it

pub led_is : (x y : Token) (strand fork : ℕ) (split : Bool) (phase : Phase) (forks strands : List ℕ) → y ≡ x → IsLed x strand fork split phase forks strands → IsLed y strand fork split phase forks strands
led_is x y strand fork split phase forks strands e h = subst (λ z. IsLed z strand fork split phase forks strands) (sym e) h

pub led_after : (x y : Token) (strand fork : ℕ) (split : Bool) (phase : Phase) (forks strands : List ℕ) (c : ℕ) (w : Option ℤ) (a : Access) → Meets x y c w a
    → IsLed x strand fork split phase forks strands → IsLed y strand fork split phase forks strands
led_after x y strand fork split phase forks strands c w (access.Value v) (written, told) h = subst (λ z. IsLed z strand fork split phase forks strands) (sym told.1) h
led_after x y strand fork split phase forks strands c w (access.Conflict k) (cell, asker, around, e) h = subst (λ z. IsLed z strand fork split phase forks strands) (sym e) h

-- ## Behind a fork

none_open : (os : List Open) → map (λ (o : Open). o.side) os ≡ [] → os ≡ []
none_open [] e = refl
none_open (o ∷ os) e = absurd (cc e)

-- in whose left strand x stands, and with whose right one y began
module _ (x y : Token) (strand fork number outer begun : ℕ) (split late : Bool) (phase ended : Phase) (forks strands more : List ℕ)
    (hx : IsLed x strand fork split phase (number ∷ forks) (outer ∷ strands)) (hy : IsLed y begun number late ended [] more) where
  pub of_one_fork : AreOfOneFork x y
  of_one_fork =
      let (strand_is, fork_is, split_is, phase_is, stop_is, told_is, sides, waiting) = hx in
      let (begun_is, number_is, late_is, ended_is, none, untold, closed, waits) = hy in
      by x.forks refl sides number_is (none_open y.forks closed)
    where
      by : (os : List Open) → x.forks ≡ os → map (λ (o : Open). o.side) os ≡ Beside number ∷ map Beside forks → y.fork ≡ number → y.forks ≡ [] → AreOfOneFork x y
      by [] q e n right = absurd (cc e)
      by (o ∷ os) q e n right = let side : o.side ≡ Beside number = cc e in record { inner = o; outer = os; left = q; fork = side ∙ ap Beside (sym n); right = right }

  -- from where its strand stands behind these forks
  abbrev behind : List Open → Token
  behind os = record (left_behind x os) {
    joined = x.joined ++ y.own ∷ y.joined;
    phase = (if y.split then Parted y.fork else Going);
    stop = kept_stop x.stop y.stop;
    told = x.told || y.told;
  }

  led_out : (os : List Open) → map (λ (o : Open). o.side) os ≡ Beside number ∷ map Beside forks → map (λ (o : Open). o.strand) os ≡ outer ∷ strands → x.fork ≡ fork → x.split ≡ split
      → (if y.split then Parted y.fork else Going) ≡ (if late then Parted number else Going) → kept_stop x.stop y.stop ≡ None → (x.told || y.told) ≡ false
      → IsLed (behind os) outer fork split (if late then Parted number else Going) forks strands
  led_out [] e w f s p k t = absurd (cc e)
  led_out (o ∷ os) e w f s p k t = (cc w, f, s, p, k, t, cc e, cc w)

  -- it goes on where the strand stands that forked
  pub led_behind : IsLed (taken_in x y) outer fork split (if late then Parted number else Going) forks strands
  led_behind =
      let (strand_is, fork_is, split_is, phase_is, stop_is, told_is, sides, waiting) = hx in
      let (begun_is, number_is, late_is, ended_is, none, untold, closed, waits) = hy in
      led_out x.forks sides waiting fork_is split_is
      (λ i. if late_is i then Parted (number_is i) else Going)
      (ap (λ s. kept_stop s y.stop) stop_is ∙ none)
      (ap (λ b. b || y.told) told_is ∙ untold)

-- as `rejoin` tells where that strand stands
module _ (x y : Token) (strand fork number outer begun : ℕ) (split late : Bool) (phase ended : Phase) (forks strands all ones more others : List ℕ)
    (hx : IsLed x strand fork split phase all ones) (hy : IsLed y begun number late ended more others) (none : more ≡ []) (first : all ≡ number ∷ forks) (one : ones ≡ outer ∷ strands) where
  left_led : IsLed x strand fork split phase (number ∷ forks) (outer ∷ strands)
  left_led = subst (λ (ns : List ℕ). IsLed x strand fork split phase (number ∷ forks) ns) one (subst (λ (ns : List ℕ). IsLed x strand fork split phase ns ones) first hx)

  right_led : IsLed y begun number late ended [] others
  right_led = subst (λ (ns : List ℕ). IsLed y begun number late ended ns others) none hy

  pub joins_fork : AreOfOneFork x y
  joins_fork = of_one_fork x y strand fork number outer begun split late phase ended forks strands others left_led right_led

  pub joins_led : (z : Token) (fork' : ℕ) (split' : Bool) (phase' : Phase) → z ≡ taken_in x y → fork' ≡ fork → split' ≡ split → phase' ≡ (if late then Parted number else Going) → IsLed z outer fork' split' phase' forks strands
  joins_led z fork' split' phase' is f s p =
      let h = led_behind x y strand fork number outer begun split late phase ended forks strands others left_led right_led in
      subst (λ w. IsLed w outer fork' split' phase' forks strands) (sym is)
      (subst (λ (n : ℕ). IsLed (taken_in x y) outer n split' phase' forks strands) (sym f)
      (subst (λ (b : Bool). IsLed (taken_in x y) outer fork b phase' forks strands) (sym s)
      (subst (λ (q : Phase). IsLed (taken_in x y) outer fork split q forks strands) (sym p) h)))
