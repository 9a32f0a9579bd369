-- If all answers are what one tier and gap words hold, the rules give what the tier and the words give.
use Rattle.std.proofs.Common.{◌≡◌, ℕ, refl, ap, sym, ◌∙◌, Bool, false, Option, Some, None, nat_lt, nat_eq, List, eq-eqb}
use Rattle.std.specs.Prelude.{◌||◌, if◌then◌else◌}
use Rattle.std.proofs.lemmas.Bool.{ne_eqb}
use Rattle.cw_tree.specs.declared.access.Mark.{Mark}
use Rattle.cw_trace.specs.declared.verdict.Verdict.{Verdict}
use Rattle.cw_trace.specs.Columns.{ColumnTable, owner, lead, up, inside}
use Rattle.cw_trace.specs.Stands.{word_of}
use Rattle.cw_trace.specs.Told.{Read, Answer, Owner, Number, HoldsRead, Stays}
use Rattle.cw_trace.specs.Query.{came_before, LeadWord, no_lead, a_lead, HasWord, IsWithinTrace, is_it, by_place, GivesAround, free, around_within, around_against, Gives, own_within, own_against, around, Covers, same_trace, other_trace, stands_in, verdict_of, verdict_around, verdict, covers}

-- ## Answers that stay

module _ {told later : Read → Answer → Type 0} (stays : Stays told later) where
  word_later : {o : Option ℕ} {w : ℕ} → LeadWord told o w → LeadWord later o w
  word_later no_lead = no_lead
  word_later (a_lead h) = a_lead (stays _ _ h)

  pub has_word_later : {t w : ℕ} → HasWord told t w → HasWord later t w
  has_word_later h = record { lead = h.lead; is = stays _ _ h.is; word = word_later h.word }

  pub stands_later : {i t : ℕ} {b : Bool} → IsWithinTrace told i t b → IsWithinTrace later i t b
  stands_later (is_it h) = is_it (stays _ _ h)
  stands_later (by_place h n g) = by_place (stays _ _ h) n (stays _ _ g)

  around_later : {i : ℕ} {o : Option ℕ} {v : Verdict} → GivesAround told i o v → GivesAround later i o v
  around_later free = free
  around_later (around_within s) = around_within (stands_later s)
  around_later (around_against s h) = around_against (stands_later s) (has_word_later h)

  pub gives_later : {last : Mark} {i : ℕ} {v : Verdict} → Gives told last i v → Gives later last i v
  gives_later (own_within h w b s) = own_within (stays _ _ h) (has_word_later w) b (stands_later s)
  gives_later (own_against h w b s) = own_against (stays _ _ h) (has_word_later w) b (stands_later s)
  gives_later (around h w b u s) = around (stays _ _ h) (has_word_later w) b (stays _ _ u) (around_later s)

  pub covers_later : {block last : Mark} {x : Bool} → Covers told block last x → Covers later block last x
  covers_later (same_trace h g) = same_trace (stays _ _ h) (stays _ _ g)
  covers_later (other_trace h g n i) = other_trace (stays _ _ h) (stays _ _ g) n (stays _ _ i)

-- ## What is held has one answer to each read

module _ (c : ColumnTable) (words : List ℕ) where
  pub number_is : (i u : ℕ) → HoldsRead c words (Owner i) (Number u) → owner c i ≡ u
  number_is i u h = cc h

  word_is : {o : Option ℕ} {w : ℕ} → LeadWord (HoldsRead c words) o w → w ≡ word_of words o
  word_is no_lead = refl
  word_is (a_lead h) = cc h

  pub has_word_is : (t : ℕ) {w : ℕ} → HasWord (HoldsRead c words) t w → w ≡ word_of words (lead c t)
  has_word_is t h = let l : lead c t ≡ h.lead = cc h.is in word_is h.word ∙ ap (word_of words) (sym l)

  pub stands_is : (i t : ℕ) {b : Bool} → IsWithinTrace (HoldsRead c words) i t b → stands_in c i t ≡ b
  stands_is i t (is_it h) = ap (λ x. x || inside c (owner c i) t) (eq-eqb (owner c i) t (number_is i t h))
  stands_is i t (by_place {v = v} {b = b} h n g) =
      let z : inside c v t ≡ b = cc g in
      ap (λ x. nat_eq x t || inside c x t) (number_is i v h) ∙ ap (λ x. x || inside c v t) (ne_eqb v t n) ∙ z

  around_is : (i : ℕ) (o : Option ℕ) {v : Verdict} → GivesAround (HoldsRead c words) i o v → v ≡ verdict_around c words i o
  around_is i None free = refl
  around_is i (Some t) (around_within s) = ap (λ b. verdict_of b (word_of words (lead c t))) (sym (stands_is i t s))
  around_is i (Some t) (around_against s h) = ap (verdict_of false) (has_word_is t h) ∙ ap (λ b. verdict_of b (word_of words (lead c t))) (sym (stands_is i t s))

  by_trace : (last : Mark) (i u w : ℕ) → owner c last.strand ≡ u → w ≡ word_of words (lead c u) → (if came_before w last.stamp then verdict_of (stands_in c i u) w else verdict_around c words i (up c u)) ≡ verdict c words last i
  by_trace last i u w e h =
      ap (λ w. if came_before w last.stamp then verdict_of (stands_in c i u) w else verdict_around c words i (up c u)) h
      ∙ ap (λ u. if came_before (word_of words (lead c u)) last.stamp then verdict_of (stands_in c i u) (word_of words (lead c u)) else verdict_around c words i (up c u)) (sym e)

  pub gives_held : (last : Mark) (i : ℕ) (v : Verdict) → Gives (HoldsRead c words) last i v → v ≡ verdict c words last i
  gives_held last i v (own_within {u = u} {w = w} h g b s) =
      ap (λ x. verdict_of x w) (sym (stands_is i u s))
      ∙ ap (λ x. if x then verdict_of (stands_in c i u) w else verdict_around c words i (up c u)) (sym b)
      ∙ by_trace last i u w (number_is last.strand u h) (has_word_is u g)
  gives_held last i v (own_against {u = u} {w = w} h g b s) =
      ap (λ x. verdict_of x w) (sym (stands_is i u s))
      ∙ ap (λ x. if x then verdict_of (stands_in c i u) w else verdict_around c words i (up c u)) (sym b)
      ∙ by_trace last i u w (number_is last.strand u h) (has_word_is u g)
  gives_held last i v (around {u = u} {w = w} {t = t} h g b q s) =
      let e : t ≡ up c u = cc q in
      around_is i t s
      ∙ ap (verdict_around c words i) e
      ∙ ap (λ x. if x then verdict_of (stands_in c i u) w else verdict_around c words i (up c u)) (sym b)
      ∙ by_trace last i u w (number_is last.strand u h) (has_word_is u g)

  covers_at : (block last : Mark) (t u : ℕ) → owner c block.strand ≡ t → owner c last.strand ≡ u → covers c block last ≡ (if nat_eq u t then nat_lt block.stamp last.stamp else inside c u t)
  covers_at block last t u e f =
      ap (λ u. if nat_eq u (owner c block.strand) then nat_lt block.stamp last.stamp else inside c u (owner c block.strand)) f
      ∙ ap (λ t. if nat_eq u t then nat_lt block.stamp last.stamp else inside c u t) e

  pub covers_held : (block last : Mark) (x : Bool) → Covers (HoldsRead c words) block last x → x ≡ covers c block last
  covers_held block last x (same_trace {t = t} h g) =
      sym (covers_at block last t t (number_is block.strand t h) (number_is last.strand t g) ∙ ap (λ y. if y then nat_lt block.stamp last.stamp else inside c t t) (eq-eqb t t refl))
  covers_held block last x (other_trace {t = t} {u = u} h g n i) =
      let z : inside c u t ≡ x = cc i in
      sym (covers_at block last t u (number_is block.strand t h) (number_is last.strand u g) ∙ ap (λ y. if y then nat_lt block.stamp last.stamp else inside c u t) (ne_eqb u t n) ∙ z)
