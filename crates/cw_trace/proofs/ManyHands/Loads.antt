-- What a query answers whose two words are loaded at different moments.
use Rattle.std.proofs.Common.{◌≡◌, ℕ, List, refl, ap, sym, ◌∙◌, Bool, true, false, Option, Some, None, subst}
use Rattle.std.specs.Prelude.{◌&&◌, not, if◌then◌else◌}
use Rattle.cw_tree.specs.declared.access.Mark.{Mark}
use Rattle.cw_trace.specs.declared.verdict.Verdict.{Verdict}
use Rattle.cw_trace.specs.declared.verdict.Verdict.TheVariants.{Against}
use Rattle.cw_trace.specs.Columns.{ColumnTable, owner, lead, up}
use Rattle.cw_trace.specs.Stands.{word_of}
use Rattle.cw_trace.specs.Told.{Read, Answer, Owner, Up, Number, Maybe, HoldsRead}
use Rattle.cw_trace.specs.Query.{came_before, LeadWord, no_lead, a_lead, HasWord, IsWithinTrace, is_it, by_place, GivesAround, free, around_within, around_against, Gives, own_within, own_against, around, stands_in, verdict_of, verdict_around}
use Rattle.cw_trace.specs.Verdicts.{TellsOfTree}
use Rattle.cw_trace.specs.Hands.{OneWordDecides, is_outside, LastLoadDecides, NoLoadDecides, IsToldOf, IsRightOnce}
use Rattle.cw_trace.proofs.Keeps.GoingOn.{goes_on}
use Rattle.cw_trace.proofs.Keeps.Meaning.{stands_of}
use Rattle.cw_trace.proofs.Query.Deciding.{against_around}
use Rattle.cw_trace.proofs.Query.Agreeing.{number_is, has_word_is, stands_is, gives_held}
use Rattle.cw_trace.proofs.Query.Answering.{tells, decides}
use Rattle.cw_trace.proofs.Stands.WithStamps.{access_marked}

pub one_word_decides : OneWordDecides
one_word_decides c words t cuts joins is_open cell u p y s stamps m access outer off =
    let a = access_marked t cell u stamps access in
    tells t u p (Against (word_of words (lead c y))) (against_around c words t cuts joins s.tree (stands_of c words t cuts joins s.keeps) u p a.there m.there stamps a.kind a.some (goes_on c words t cuts joins s.tree s.keeps is_open s.ordered p m) y outer off)

-- against a trace around, in the words of a query
against : (c : ColumnTable) (words : List ℕ) (last : Mark) (asker y : ℕ) → up c (owner c last.strand) ≡ Some y → stands_in c asker y ≡ false → TellsOfTree c words last asker (Against (word_of words (lead c y)))
against c words last asker y outer off t cuts joins is_open cell u p k tr stamps o m access el ea =
    one_word_decides c words t cuts joins is_open cell u p y (record { tree = tr; keeps = k; ordered = o }) stamps m access (ap (λ l. up c (owner c l.strand)) (sym el) ∙ outer) (ap (λ i. stands_in c i y) (sym ea) ∙ off)

module _ (c : ColumnTable) (first second : List ℕ) (last : Mark) (asker : ℕ) where
  abbrev u : ℕ
  u = owner c last.strand

  abbrev w : ℕ
  w = word_of first (lead c u)

  -- the verdict by what the first word tells, and by the trace around
  abbrev told : List ℕ → Bool → Option ℕ → Verdict
  told words b o = if b then verdict_of (stands_in c asker u) w else verdict_around c words asker o

  at_first : (b : Bool) (o : Option ℕ) → came_before w last.stamp ≡ b → up c u ≡ o → TellsOfTree c first last asker (told first b o)
  at_first b o e q =
      let P : Bool → Type 0 = λ x. TellsOfTree c first last asker (told first x (up c u)) in
      let Q : Option ℕ → Type 0 = λ x. TellsOfTree c first last asker (told first b x) in
      subst Q q (subst P e (decides c first last asker))

  by_stands : (y : ℕ) (s : Bool) → came_before w last.stamp ≡ false → up c u ≡ Some y → stands_in c asker y ≡ s → TellsOfTree c (if not s then second else first) last asker (verdict_of s (word_of second (lead c y)))
  by_stands y true e q z = let P : Bool → Type 0 = λ x. TellsOfTree c first last asker (verdict_of x (word_of first (lead c y))) in subst P z (at_first false (Some y) e q)
  by_stands y false e q z = against c second last asker y q z

  by_loads : (b : Bool) (o : Option ℕ) → came_before w last.stamp ≡ b → up c u ≡ o → TellsOfTree c (if not b && is_outside c asker o then second else first) last asker (told second b o)
  by_loads true o e q = at_first true o e q
  by_loads false None e q = at_first false None e q
  by_loads false (Some y) e q = by_stands y (stands_in c asker y) e q refl

pub last_load_decides : LastLoadDecides
last_load_decides c first second last asker = by_loads c first second last asker (came_before (word_of first (lead c (owner c last.strand))) last.stamp) (up c (owner c last.strand)) refl refl

pub no_load_decides : NoLoadDecides
no_load_decides c first second words last asker none unloaded =
    subst P (sym (unread first)) (by_up (up c (owner c last.strand)) refl (sym (ap (λ b. not b && is_outside c asker (up c (owner c last.strand))) (unread first)) ∙ unloaded)) where
      P : Bool → Type 0
      P b = TellsOfTree c words last asker (if b then verdict_of (stands_in c asker (owner c last.strand)) (word_of first (lead c (owner c last.strand))) else verdict_around c second asker (up c (owner c last.strand)))

      unread : (ws : List ℕ) → came_before (word_of ws (lead c (owner c last.strand))) last.stamp ≡ false
      unread ws = ap (λ l. came_before (word_of ws l) last.stamp) none

      by_stands : (y : ℕ) (b : Bool) → stands_in c asker y ≡ b → not b ≡ false → up c (owner c last.strand) ≡ Some y → TellsOfTree c words last asker (verdict_of b (word_of second (lead c y)))
      by_stands y true e out q = let Q : Bool → Type 0 = λ x. TellsOfTree c words last asker (verdict_of x (word_of words (lead c y))) in subst Q e (at_first c words words last asker false (Some y) (unread words) q)
      by_stands y false e out q = absurd (cc out)

      by_up : (o : Option ℕ) → up c (owner c last.strand) ≡ o → is_outside c asker o ≡ false → TellsOfTree c words last asker (verdict_around c second asker (up c (owner c last.strand)))
      by_up None q out = let Q : Option ℕ → Type 0 = λ x. TellsOfTree c words last asker (verdict_around c second asker x) in subst Q (sym q) (at_first c words words last asker false None (unread words) q)
      by_up (Some y) q out = let Q : Option ℕ → Type 0 = λ x. TellsOfTree c words last asker (verdict_around c second asker x) in subst Q (sym q) (by_stands y (stands_in c asker y) refl out q)

-- ## Answers from several moments

module _ (c : ColumnTable) (words : ℕ → List ℕ) (told : Read → Answer → Type 0) (is : IsToldOf c words told) where
  -- columns do not change, so an answer about them holds at each moment
  stands_told : (n : ℕ) {i t : ℕ} {b : Bool} → IsWithinTrace told i t b → IsWithinTrace (HoldsRead c (words n)) i t b
  stands_told n (is_it h) = is_it (is _ _ h).1
  stands_told n (by_place h ne g) = by_place (is _ _ h).1 ne (is _ _ g).1

  word_told : {o : Option ℕ} {w : ℕ} (n : ℕ) → LeadWord told o w → (m : ℕ) × LeadWord (HoldsRead c (words m)) o w
  word_told n no_lead = (n, no_lead)
  word_told n (a_lead h) = let z = is _ _ h in (z.0, a_lead z.1)

  has_word_told : {t w : ℕ} → HasWord told t w → (m : ℕ) × HasWord (HoldsRead c (words m)) t w
  has_word_told h = let z = is _ _ h.is in let y = word_told z.0 h.word in (y.0, record { lead = h.lead; is = z.1; word = y.1 })

  module _ (last : Mark) (asker : ℕ) where
    -- where all is held at one moment
    at_moment : (v : Verdict) (n : ℕ) → Gives (HoldsRead c (words n)) last asker v → IsRightOnce c words last asker v
    at_moment v n h = let P : Verdict → Type 0 = λ x. TellsOfTree c (words n) last asker x in (n, subst P (sym (gives_held c (words n) last asker v h)) (decides c (words n) last asker))

    up_is : {a b : Option ℕ} → Maybe a ≡ Maybe b → a ≡ b
    up_is e = cc e

    by_around : {u w : ℕ} {o : Option ℕ} {v : Verdict} → told (Owner last.strand) (Number u) → HasWord told u w → came_before w last.stamp ≡ false → told (Up u) (Maybe o) → GivesAround told asker o v → IsRightOnce c words last asker v
    by_around h g b q free = let z = has_word_told g in at_moment _ z.0 (around (is _ _ h).1 z.1 b (is _ _ q).1 free)
    by_around h g b q (around_within s) = let z = has_word_told g in at_moment _ z.0 (around (is _ _ h).1 z.1 b (is _ _ q).1 (around_within (stands_told z.0 s)))
    by_around {u = u} h g b q (around_against {t = t} {w = w} s x) =
        let z = has_word_told x in
        let own : owner c last.strand ≡ u = number_is c (words z.0) last.strand u (is _ _ h).1 in
        let above : up c u ≡ Some t = up_is (is _ _ q).1 in
        let P : ℕ → Type 0 = λ n. TellsOfTree c (words z.0) last asker (Against n) in
        (z.0, subst P (sym (has_word_is c (words z.0) t z.1)) (against c (words z.0) last asker t (ap (up c) own ∙ above) (stands_is c (words z.0) asker t (stands_told z.0 s))))

    pub moment_decides : (v : Verdict) → Gives told last asker v → IsRightOnce c words last asker v
    moment_decides v (own_within h g b s) = let z = has_word_told g in at_moment v z.0 (own_within (is _ _ h).1 z.1 b (stands_told z.0 s))
    moment_decides v (own_against h g b s) = let z = has_word_told g in at_moment v z.0 (own_against (is _ _ h).1 z.1 b (stands_told z.0 s))
    moment_decides v (around h g b q s) = by_around h g b q s
