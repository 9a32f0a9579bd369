-- Serves `cancel`: looks one after another, and the list of what is put back.
use Rattle.std.proofs.Common.{◌≡◌, ℕ, ℤ, suc, ◌+◌, ◌<◌, ◌≤◌, Bool, true, false, cond, List, [], ◌∷◌, ◌++◌, length, map, take, get_or, refl, ap, sym, ◌∙◌, subst, arith, Option, Some, None, pos}
use Rattle.std.specs.Prelude.{All, Contains, filter, if◌then◌else◌}
use Rattle.std.specs.List.{AllPairs}
use Rattle.std.specs.List.Sorted.{IsStrictlyIncreasing}
use Rattle.std.specs.Option.{option_to_list}
use Rattle.std.proofs.lemmas.List.{get_or-map, length-map, map-append}
use Rattle.std.proofs.lemmas.List.Elements.{All-filter, All-map, All-nil, All-push, All-weaker, filter-append}
use Rattle.std.proofs.lemmas.List.Kept.{AllPairs-filter, AllPairs-from_increasing}
use Rattle.cw_code.specs.declared.Back.{Back}
use Rattle.cw_log.specs.declared.token.Token.{Token}
use Rattle.cw_stack.specs.Cells.{CellParts}
use Rattle.cw_steps.specs.declared.table.StrandToken.{StrandToken}
use Rattle.cw_steps.specs.Beneath.{AreWrittenBeneath}
use Rattle.cw_steps.specs.Leaving.{HasReturned}
use Rattle.cw_steps.specs.Stands.{token_of}
use Rattle.cw_steps.proofs.Leaving.Journals.{looks_more, looks_not}
use Rattle.cw_board.specs.declared.board.Board.{Board}
use Rattle.cw_board.specs.Boards.{cells_in}
use Rattle.cw_board.specs.Cancelled.{back_at, has_written, value_before, ArePutBack, HasLookedAt, IsPutBack, Look}

-- what is put back in the cell of one look, if anything is
abbrev pub back_of : Token → Look → Option Back
back_of x l = if has_written x l then Some (back_at x l) else None

-- what is put back there, once it is known whether it was written
pub back_there : (x : Token) (l : Look) (value : ℤ) → has_written x l ≡ true → value ≡ value_before x l.cell l.lay → Some (record { cell = l.cell; value = value }) ≡ back_of x l
back_there x l value e q = ap (λ (v : ℤ). Some (record { cell = l.cell; value = v })) q ∙ ap (λ (b : Bool). if b then Some (back_at x l) else None) (sym e)

pub back_not : (x : Token) (l : Look) → has_written x l ≡ false → None ≡ back_of x l
back_not x l e = ap (λ (b : Bool). if b then Some (back_at x l) else None) (sym e)

-- what a look of a later token found was found since this one
pub looked_since : (b : Board) (t u : StrandToken) (l : Look) → HasReturned t.seat.me u.seat.me → HasLookedAt b u l → HasLookedAt b t l
looked_since b t u l h g = record { before = g.before; during = g.during; returned = looks_more t.seat.me u.seat.me g.before.seat.me h g.returned; holding = g.holding; found = g.found }

pub nothing_back : (b : Board) (t : StrandToken) (back : List Back) → back ≡ [] → ArePutBack b t [] back
nothing_back b t back none = record { looks = []; cells = refl; looked = All-nil (HasLookedAt b t); list = none }

one_back : (x : Token) (l : Look) → map (back_at x) (filter (has_written x) (l ∷ [])) ≡ option_to_list (back_of x l)
one_back x l = by (has_written x l) where
  by : (w : Bool) → map (back_at x) (cond w (l ∷ []) []) ≡ option_to_list (if w then Some (back_at x l) else None)
  by true = refl
  by false = refl

-- one look more
pub more_back : (b : Board) (t : StrandToken) (cells : List ℕ) (back more : List Back) (l : Look) → ArePutBack b t cells back → HasLookedAt b t l → more ≡ back ++ option_to_list (back_of (token_of t) l)
    → ArePutBack b t (cells ++ l.cell ∷ []) more
more_back b t cells back more l h g e =
    let x = token_of t in
    record {
      looks = h.looks ++ l ∷ [];
      cells = map-append (λ (k : Look). k.cell) h.looks (l ∷ []) ∙ ap (λ cs. cs ++ l.cell ∷ []) h.cells;
      looked = All-push (HasLookedAt b t) h.looks l h.looked g;
      list =
          e ∙ ap (λ q. q ++ option_to_list (back_of x l)) h.list ∙ ap (λ q. map (back_at x) (filter (has_written x) h.looks) ++ q) (sym (one_back x l))
          ∙ sym (ap (map (back_at x)) (filter-append (has_written x) h.looks (l ∷ [])) ∙ map-append (back_at x) (filter (has_written x) h.looks) (filter (has_written x) (l ∷ [])));
    }

-- ## The list

no_look : Look
no_look = record { cell = 0; lay = record { first = pos 0; entries = []; cleaned = 0; room = 0 } }

backs_cells : (x : Token) (ls : List Look) → map (λ (k : Back). k.cell) (map (back_at x) ls) ≡ map (λ (l : Look). l.cell) ls
backs_cells x [] = refl
backs_cells x (l ∷ ls) = ap (λ cs. l.cell ∷ cs) (backs_cells x ls)

rising_pairs : (ls : List Look) → IsStrictlyIncreasing (map (λ (l : Look). l.cell) ls) → AllPairs (λ (l k : Look). l.cell < k.cell) ls
rising_pairs ls h i j d lt within =
    let f : Look → ℕ = λ l. l.cell in
    let less : get_or (map f ls) i 0 < get_or (map f ls) j 0 = AllPairs-from_increasing (map f ls) h i j 0 lt (omega (arith, length-map ls f)) in
    omega (arith, less, get_or-map f ls i d 0 (omega arith), get_or-map f ls j d 0 within)

rising_kept : (p : Look → Bool) (ls : List Look) → IsStrictlyIncreasing (map (λ (l : Look). l.cell) ls) → IsStrictlyIncreasing (map (λ (l : Look). l.cell) (filter p ls))
rising_kept p ls h k within =
    let f : Look → ℕ = λ l. l.cell in
    let ks = filter p ls in
    let long : k + 1 < length ks = omega (arith, within, length-map ks f) in
    let less = AllPairs-filter (λ (l m : Look). l.cell < m.cell) p ls (rising_pairs ls h) k (k + 1) no_look (omega arith) long in
    omega (arith, less, get_or-map f ks k no_look 0 (omega arith), get_or-map f ks (k + 1) no_look 0 long)

module _ (b : Board) (t : StrandToken) (cells : List ℕ) (back : List Back) (w : AreWrittenBeneath (token_of t) (cells_in b) cells) (h : ArePutBack b t cells back) where
  pub list_rises : IsStrictlyIncreasing (map (λ (k : Back). k.cell) back)
  list_rises =
      let x = token_of t in
      subst IsStrictlyIncreasing (sym (ap (map (λ (k : Back). k.cell)) h.list ∙ backs_cells x (filter (has_written x) h.looks)))
      (rising_kept (has_written x) h.looks (subst IsStrictlyIncreasing (sym h.cells) w.rising))

  pub list_there : All (λ (k : Back). k.cell < cells_in b) back
  list_there =
      let x = token_of t in
      let P : Look → Type 0 = λ l. l.cell < cells_in b in
      subst (All (λ (k : Back). k.cell < cells_in b)) (sym h.list)
      (All-map (λ (k : Back). k.cell < cells_in b) (back_at x) (filter (has_written x) h.looks) (All-filter (has_written x) P h.looks (looks_there h.looks h.cells)))
    where
      looks_there : (ls : List Look) → map (λ (l : Look). l.cell) ls ≡ cells → All (λ (l : Look). l.cell < cells_in b) ls
      looks_there ls e k d within =
          let f : Look → ℕ = λ l. l.cell in
          let there = w.each k 0 (omega (arith, within, length-map ls f, ap length e)) in
          omega (arith, there.0, ap (λ cs. get_or cs k 0) e, get_or-map f ls k d 0 within)

-- what a later token found that stands for the same was found since this one
pub listed_before : (b : Board) (t u : StrandToken) (back : List Back) → u.seat ≡ t.seat → token_of u ≡ token_of t → IsPutBack b u back → IsPutBack b t back
listed_before b t u back seat same h = record {
  cells = h.cells;
  written = subst (λ (x : Token). AreWrittenBeneath x (cells_in b) h.cells) same h.written;
  put_back = record {
    looks = h.put_back.looks;
    cells = h.put_back.cells;
    looked = All-weaker (HasLookedAt b u) (HasLookedAt b t) (λ l g. looked_since b t u l (subst (λ s. HasReturned t.seat.me s.me) (sym seat) (looks_not t.seat.me)) g) h.put_back.looks h.put_back.looked;
    list = h.put_back.list ∙ ap (λ (x : Token). map (back_at x) (filter (has_written x) h.put_back.looks)) same;
  };
}
