-- Serves `IsVictim`: a search for the first block that is not above an access.
use Rattle.std.proofs.Common.{◌≡◌, ◌∙◌, ℕ, zero, suc, ◌+◌, ◌≤◌, List, [], ◌∷◌, ◌++◌, length, take, ap, reverse, sym, subst, append_assoc, true, false}
use Rattle.std.specs.Prelude.{All, Contains, slice_get, Some, unwrap_or}
use Rattle.std.proofs.lemmas.List.{reverse-reverse, take_all, take_more}
use Rattle.std.proofs.lemmas.List.Elements.{All-append, All-cons, All-nil, All-weaker, Contains-get_or}
use Rattle.std.proofs.lemmas.Option.{get_or_from_slice_get, slice_get_within}
use Rattle.cw_tree.specs.declared.access.Mark.{Mark}
use Rattle.cw_trace.specs.Query.{Covers}
use Rattle.cw_trace.specs.Told.{Read, Answer, Stays}
use Rattle.cw_trace.proofs.Query.Agreeing.{covers_later}
use Rattle.cw_log.specs.declared.log.Above.{Above}
use Rattle.cw_log.specs.declared.token.Token.{Token}
use Rattle.cw_steps.specs.declared.table.StrandToken.{StrandToken}
use Rattle.cw_steps.specs.Stands.{token_of}
use Rattle.cw_steps.specs.Tracks.{begins, track_of}
use Rattle.cw_steps.specs.Views.{view_of}
use Rattle.cw_steps.specs.Passes.{ToldBy}
use Rattle.cw_board.specs.Asked.{noted_since, HasRead}
use Rattle.cw_board.specs.Victims.{begin_mark, outermost_first, AreAbove, IsFirstNotAbove}
use Rattle.cw_board.proofs.Reading.{noted_read, since_grown, since_more, told_first, told_more}
use Rattle.cw_board.proofs.Refusing.{begins_back}

-- ## The blocks around a token's place

pub blocks_are : (t u : StrandToken) (bs : List Above) → u.track ≡ t.track → reverse bs ≡ (track_of u.track).pending → bs ≡ outermost_first t
blocks_are t u bs same e = sym (reverse-reverse bs) ∙ ap reverse (e ∙ ap (λ k. (track_of k).pending) same)

pub block_around : (t u : StrandToken) (bs : List Above) (k : ℕ) (a : Above) → token_of u ≡ token_of t → begins (reverse bs) ≡ (token_of u).around → slice_get bs k ≡ Some a → Contains (token_of t).around a.begin
block_around t u bs k a same e is =
    let there : Contains bs a = subst (Contains bs) (get_or_from_slice_get bs k a a is) (Contains-get_or bs k a (slice_get_within bs k a is)) in
    subst (λ (ns : List ℕ). Contains ns a.begin) (e ∙ ap (λ (x : Token). x.around) same) (begins_back bs a there)

-- ## Lists

take_next : (bs : List Above) (k : ℕ) (a : Above) → slice_get bs k ≡ Some a → take (k + 1) bs ≡ take k bs ++ a ∷ []
take_next bs k a is = take_more bs k a (slice_get_within bs k a is) ∙ ap (λ x. take k bs ++ x ∷ []) (get_or_from_slice_get bs k a a is)

parted_there : (bs : List Above) (k : ℕ) (a : Above) → slice_get bs k ≡ Some a → (inner : List Above) × (bs ≡ take k bs ++ a ∷ inner)
parted_there [] k a is = absurd (cc is)
parted_there (b ∷ bs) zero a is = (bs, ap (λ o. unwrap_or o b ∷ bs) is)
parted_there (b ∷ bs) (suc k) a is = let r = parted_there bs k a is in (r.0, ap (λ cs. b ∷ cs) r.1)

-- ## One more block

module _ (cells columns : ℕ) (last : Mark) (t u u' : StrandToken) (h : HasRead t u) (g : HasRead u u') where
  abbrev before : Read → Answer → Type 0
  before = ToldBy cells columns (noted_since t u)

  abbrev now : Read → Answer → Type 0
  now = ToldBy cells columns (noted_since t u')

  since_both : noted_since t u' ≡ noted_since u u' ++ noted_since t u
  since_both = since_more t u' (noted_since u u' ++ noted_since t u)
      (since_grown u u' (noted_read u u' g) ∙ ap (λ ns. noted_since u u' ++ ns) (since_grown t u (noted_read t u h)) ∙ sym (append_assoc (noted_since u u') (noted_since t u) (view_of t).notes))

  stays_before : Stays before now
  stays_before = subst (λ ns. Stays before (ToldBy cells columns ns)) (sym since_both) (told_more cells columns (noted_since u u') (noted_since t u))

  stays_since : Stays (ToldBy cells columns (noted_since u u')) now
  stays_since = subst (λ ns. Stays (ToldBy cells columns (noted_since u u')) (ToldBy cells columns ns)) (sym since_both) (told_first cells columns (noted_since u u') (noted_since t u))

  above_still : (bs : List Above) → AreAbove before last bs → AreAbove now last bs
  above_still bs all = All-weaker (λ (a : Above). Covers before (begin_mark a) last true) (λ (a : Above). Covers now (begin_mark a) last true) (λ a c. covers_later stays_before c) bs all

  module _ (bs : List Above) (k : ℕ) (a : Above) (is : slice_get bs k ≡ Some a) (all : AreAbove before last (take k bs)) where
    pub one_above : Covers (ToldBy cells columns (noted_since u u')) (begin_mark a) last true → AreAbove now last (take (k + 1) bs)
    one_above c =
        let P : Above → Type 0 = λ (x : Above). Covers now (begin_mark x) last true in
        subst (All P) (sym (take_next bs k a is)) (All-append P (take k bs) (a ∷ []) (above_still (take k bs) all) (All-cons P a [] (covers_later stays_since c) (All-nil P)))

    pub one_not_above : Covers (ToldBy cells columns (noted_since u u')) (begin_mark a) last false → IsFirstNotAbove now last bs a
    one_not_above c =
        let r = parted_there bs k a is in
        record { outer = take k bs; inner = r.0; blocks_are = r.1; above = above_still (take k bs) all; not_above = covers_later stays_since c }

pub all_above : (told : Read → Answer → Type 0) (last : Mark) (bs : List Above) (k : ℕ) → length bs ≤ k → AreAbove told last (take k bs) → AreAbove told last bs
all_above told last bs k long all = subst (AreAbove told last) (take_all k bs long) all
