-- Serves `IsJudgedBy`: what a question finds of an access.
use Rattle.std.proofs.Common.{◌≡◌, ◌∙◌, ℕ, ℤ, length, List, [], ◌∷◌, ◌++◌, ap, reverse, refl, sym, subst, inl, inr, arith}
use Rattle.std.specs.Prelude.{◌⊎◌, Contains, IfOk, IfSome, IsSomeAnd, OnOk, Option, Some, None, option_map, Result, Ok, Err}
use Rattle.std.proofs.lemmas.List.{map-append, reverse-append}
use Rattle.std.proofs.lemmas.List.Elements.{Contains-append_cases, Contains-append_left, Contains-push, Contains-push_cases}
use Rattle.cw_stack.specs.Cells.{newest_entry, CellParts}
use Rattle.cw_tree.specs.declared.access.Entry.{Entry}
use Rattle.cw_tree.specs.declared.access.Mark.{Mark}
use Rattle.cw_tree.specs.AccessStacks.{stamps}
use Rattle.cw_tree.specs.Newest.{last_eight}
use Rattle.cw_log.specs.declared.board.Access.{Access}
use Rattle.cw_log.specs.declared.board.Access.TheVariants as access
use Rattle.cw_log.specs.declared.log.Above.{Above}
use Rattle.cw_log.specs.declared.token.Token.{Token}
use Rattle.cw_log.specs.Answers.{IsAround}
use Rattle.cw_steps.specs.declared.table.StrandToken.{StrandToken}
use Rattle.cw_steps.specs.Stands.{token_of}
use Rattle.cw_steps.specs.Tracks.{begins, one_more, track_of, tries_of}
use Rattle.cw_steps.specs.Passes.{IsAnswered, IsAskedNow}
use Rattle.cw_steps.specs.Views.{key_of, view_of, HasAsked}
use Rattle.cw_board.specs.declared.board.Board.{Board}
use Rattle.cw_board.specs.declared.victims.Barrier.{Barrier}
use Rattle.cw_board.specs.Asked.{HasRead}
use Rattle.cw_board.specs.Boards.{cells_in, columns_of}
use Rattle.cw_steps.specs.declared.view.WordNote.{WordNote}
use Rattle.cw_board.specs.Victims.{begin_of, conflict_with, GivesValue, IsJudged, IsJudgedBy, IsJudgedSince, IsRefusedBy, Refuses}

pub ok_and : {A E : Type 0} (P Q R : A → Type 0) (r : Result A E) → ((a : A) → P a → Q a → R a) → IfOk r P → IfOk r Q → IfOk r R
ok_and P Q R (Ok a) f h g = f a h g
ok_and P Q R (Err e) f h g = h

pub ok_both : {A E : Type 0} (P Q : A → Type 0) (N : Type 0) (r : Result A E) → ((a : A) → N → P a → Q a) → OnOk r N → IfOk r P → IfOk r Q
ok_both P Q N (Ok a) f n h = f a n h
ok_both P Q N (Err e) f n h = h

-- ## Blocks around a place

cons_cases : (b : Above) (bs : List Above) (a : Above) → Contains (b ∷ bs) a → (b ≡ a) ⊎ Contains bs a
cons_cases b bs a h = pick (Contains-append_cases (b ∷ []) bs a h) where
  first : Contains [] a ⊎ (b ≡ a) → (b ≡ a) ⊎ Contains bs a
  first (inl g) = absurd (omega (arith, g.1))
  first (inr e) = inl e

  pick : Contains (b ∷ []) a ⊎ Contains bs a → (b ≡ a) ⊎ Contains bs a
  pick (inl g) = first (Contains-push_cases [] b a g)
  pick (inr g) = inr g

pub begins_cons : (b : Above) (bs : List Above) → begins (reverse (b ∷ bs)) ≡ begins (reverse bs) ++ b.begin ∷ []
begins_cons b bs = ap begins (reverse-append (b ∷ []) bs) ∙ map-append (λ (x : Above). x.begin) (reverse bs) (b ∷ [])

pub begins_back : (bs : List Above) (a : Above) → Contains bs a → Contains (begins (reverse bs)) a.begin
begins_back [] a h = absurd (omega (arith, h.1))
begins_back (b ∷ bs) a h = pick (λ g. begins_back bs a g) (cons_cases b bs a h) where
  pick : (Contains bs a → Contains (begins (reverse bs)) a.begin) → (b ≡ a) ⊎ Contains bs a → Contains (begins (reverse (b ∷ bs))) a.begin
  pick f (inl e) = subst (λ (ns : List ℕ). Contains ns a.begin) (sym (begins_cons b bs)) (subst (λ (n : ℕ). Contains (begins (reverse bs) ++ n ∷ []) a.begin) (sym (ap (λ (x : Above). x.begin) e)) (Contains-push (begins (reverse bs)) a.begin))
  pick f (inr g) = subst (λ (ns : List ℕ). Contains ns a.begin) (sym (begins_cons b bs)) (Contains-append_left (begins (reverse bs)) (b.begin ∷ []) a.begin (f g))

-- what has to fall is one of them, or nothing
pub falls_around : (x x' : Token) (o : Option Above) → x' ≡ x → IfSome o (λ (a : Above). Contains x'.around a.begin) → IsAround x (begin_of o)
falls_around x x' None e h = inl refl
falls_around x x' (Some a) e h = inr (subst (λ (y : Token). Contains y.around a.begin) e h)

-- ## The answer

-- a refused access gives no value
pub gives_none : (x y : Token) (cell last : ℕ) (bar : Barrier) (own : ℕ) (chain : List ℕ) (lay : CellParts) (write : Option ℤ) (a : Access) → Refuses x y cell last bar own chain a → GivesValue lay write a
gives_none x y cell last bar own chain lay write (access.Value n) r = absurd r
gives_none x y cell last bar own chain lay write (access.Conflict k) r = tt

-- what is so of a mark is so of the newest entry, which has that mark
newest_and : (P : Mark → Type 0) (o : Option Entry) (last : Mark) → Some last ≡ option_map (λ (e : Entry). e.mark) o → P last → IsSomeAnd o (λ (e : Entry). P e.mark)
newest_and P None last is p = subst (λ q. IsSomeAnd q P) is p
newest_and P (Some e) last is p = subst (λ q. IsSomeAnd q P) is p

newest_if : (P : Mark → Type 0) (o : Option Entry) (last : Mark) → Some last ≡ option_map (λ (e : Entry). e.mark) o → P last → IfSome o (λ (e : Entry). P e.mark)
newest_if P None last is p = tt
newest_if P (Some e) last is p = subst (λ q. IfSome q P) is p

-- a question that let the access through was the last thing that the token did
pub has_asked : (b : Board) (last : Mark) (t u : StrandToken) (y : CellParts) → Some last ≡ option_map (λ (e : Entry). e.mark) (newest_entry y.entries) → u.track ≡ t.track → IsJudgedSince b last t u None → HasAsked (key_of b.shared) (view_of u) y
has_asked b last t u y newest track h =
    newest_if (λ m. IsAskedNow (cells_in b) (columns_of b) m (view_of u).column (view_of u).notes) (newest_entry y.entries) last newest (record {
      before = h.between;
      verdict = h.is.verdict;
      through = h.is.through;
      question = subst (λ (k : ℕ). IsAnswered (cells_in b) (columns_of b) last k h.between (view_of u).notes h.is.verdict)
          (ap (λ x. (track_of x).column) (sym track) ∙ sym u.column) h.is.question;
    })

-- the token noted nothing after that
pub judged_still : (b : Board) (last : Mark) (t u v : StrandToken) (found : Option Barrier) → (view_of v).notes ≡ (view_of u).notes → IsJudgedSince b last t u found → IsJudgedSince b last t v found
judged_still b last t u v found same h = record { starts = h.starts; between = h.between; moved = h.moved; is = subst (λ (ns : List WordNote). IsJudged b last t h.between ns found) (sym same) h.is }

module _ (b : Board) (cell : ℕ) (entries : List Entry) (last : Mark) (t u v : StrandToken) (newest : Some last ≡ option_map (λ (e : Entry). e.mark) (newest_entry entries)) (same : (view_of v).notes ≡ (view_of u).notes) where
  abbrev chain : List ℕ
  chain = last_eight (stamps entries)

  -- an access that is refused by what a question and a search found
  pub refused_by : (x : Token) (bar : Barrier) (a : Access) → HasRead t u → IsJudgedSince b last t u (Some bar) → Refuses (token_of u) x cell last.stamp bar (one_more (tries_of (track_of u.track).tail cell)) chain a → IsJudgedBy b cell entries t v a
  refused_by x bar (access.Value n) read h r = absurd r
  refused_by x bar (access.Conflict k) read h r =
      newest_and (λ m. IsRefusedBy b cell entries m t v k) (newest_entry entries) last newest (record {
        barrier = bar;
        judged = judged_still b last t u v (Some bar) same h;
        told = r.0 ∙ (λ i. conflict_with cell (length (read.token i).own.nodes) last.stamp bar (one_more (tries_of (track_of (read.track i)).tail cell)) chain);
      })
