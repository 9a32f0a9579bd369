-- Serves `AreFoundJournals`: a seat that takes a turn to look, and gives it back.
use Rattle.std.proofs.Common.{◌≡◌, ℕ, zero, suc, ◌≤◌, List, [], ◌∷◌, ◌++◌, length, refl, ap, sym, ◌∙◌, subst, arith, Some, None, inl, inr}
use Rattle.std.specs.Prelude.{◌⊎◌, slice_get, IfOk, Result, Ok, Err}
use Rattle.std.specs.List.Sorted.{IsStrictlyIncreasing}
use Rattle.atomic_table.specs.Table.{Me, rest}
use Rattle.cw_tree.specs.declared.access.Entry.{Entry}
use Rattle.cw_tree.specs.AccessStacks.{stamps}
use Rattle.cw_stack.specs.Cells.{CellParts, AreSteps}
use Rattle.cw_steps.specs.Leaving.{HasReturned, IsFoundJournal}
use Rattle.cw_steps.specs.declared.draw.Aim.TheVariants.{Look}
use Rattle.cw_steps.specs.declared.draw.Home.TheVariants as home
use Rattle.cw_steps.specs.Homes.{CellComesHome, IsAsShown, MayGive}
use Rattle.cw_steps.specs.declared.table.StrandToken.{StrandToken}
use Rattle.cw_steps.specs.declared.view.Key.{Key}
use Rattle.cw_steps.specs.declared.view.Slot.{Slot}
use Rattle.cw_steps.specs.declared.view.Slot.TheVariants as slot
use Rattle.cw_steps.specs.declared.view.View.{View}
use Rattle.cw_steps.specs.Places.{turn_word}
use Rattle.cw_steps.specs.Views.{cell_in, gave_view, held_by, newest_aim, newest_cell, newest_change, newest_slot, newest_tier, newest_used, took_view, view_of, IsQuiet, IsWhole, TakesIt}

pub looks_not : (me : Me Slot View) → HasReturned me me
looks_not me = record { seen = me.0.seen; notes = me.0.notes; later = omega arith; after = refl }

pub looks_more : (a b c : Me Slot View) → HasReturned a b → HasReturned b c → HasReturned a c
looks_more a b c h g = record {
  seen = g.seen;
  notes = g.notes;
  later = omega (arith, h.later, subst (λ (m : Me Slot View). m.0.seen ≤ g.seen) h.after g.later);
  after = g.after ∙ ap (λ (m : Me Slot View). (record m.0 { seen = g.seen; notes = g.notes }, m.1)) h.after;
}

-- a seat that only looked has begun no change
pub quiet_still : (me me' : Me Slot View) → IsQuiet me.0 → HasReturned me me' → IsQuiet me'.0
quiet_still me me' quiet h = ap (λ (m : Me Slot View). newest_change m.0.turns) h.after ∙ quiet

abbrev first_slot : List (ℕ × Slot) → Slot
first_slot [] = slot.Empty
first_slot (x ∷ xs) = x.1

cell_lies : (y : Slot) (x : CellParts) → Some x ≡ cell_in y → y ≡ slot.Cell x
cell_lies (slot.Cell z) x e = ap slot.Cell (cc e)
cell_lies (slot.Tier z) x e = absurd (cc e)
cell_lies slot.Empty x e = absurd (cc e)

-- t took the turn of slot n and was u then; with the cell in its hands it was v, and w when that lay there again
module _ (key : Key) (n : ℕ) (t u : StrandToken) (takes : TakesIt key Look n t.seat.me u.seat.me) where
  held_then : held_by u ≡ (n, takes.lay) ∷ t.seat.me.1
  held_then = ap (λ (m : Me Slot View). m.1) takes.after

  view_then : view_of u ≡ took_view n Look takes.lay takes.used takes.clock (view_of t)
  view_then = ap (λ (m : Me Slot View). m.0) takes.after

  pub lay_there : (y : Slot) → held_by u ≡ (n, y) ∷ rest (held_by u) → y ≡ takes.lay
  lay_there y e = ap first_slot (sym e ∙ held_then)

  pub cell_lay : (x : CellParts) (y : Slot) → held_by u ≡ (n, y) ∷ rest (held_by u) → Some x ≡ cell_in y → takes.lay ≡ slot.Cell x
  cell_lay x y e out = cell_lies takes.lay x (out ∙ ap cell_in (lay_there y e))

  module _ (x : CellParts) (v w : StrandToken) (lay : takes.lay ≡ slot.Cell x) (out_view : view_of v ≡ view_of u) (in_view : view_of w ≡ view_of v) (out : held_by v ≡ (n, slot.Empty) ∷ rest (held_by u)) (back : held_by w ≡ (n, slot.Cell x) ∷ rest (held_by v)) where
    view_now : view_of w ≡ took_view n Look takes.lay takes.used takes.clock (view_of t)
    view_now = in_view ∙ out_view ∙ view_then

    held_now : held_by w ≡ (n, slot.Cell x) ∷ t.seat.me.1
    held_now = back ∙ ap (λ ys. (n, slot.Cell x) ∷ rest ys) (out ∙ ap (λ ys. (n, slot.Empty) ∷ rest ys) held_then)

    -- as `give` asks it
    pub gives_look : MayGive key w n home.Plain
    gives_look = record {
      lies = slot.Cell x;
      held = record { turn = ap (λ (z : View). newest_slot z.turns) view_now; slot = held_now ∙ ap (λ ys. (n, slot.Cell x) ∷ rest ys) (sym held_now) };
      whole = subst (λ (z : View). IsWhole key z.seen (newest_used z.turns) n (slot.Cell x)) (sym view_now) (subst (IsWhole key takes.clock takes.used n) lay takes.whole);
      tier = tt;
      cell = subst (λ (z : View). CellComesHome n home.Plain (newest_aim z.turns) (newest_cell z.turns) (slot.Cell x)) (sym view_now) (subst (λ o. CellComesHome n home.Plain Look o (slot.Cell x)) (sym (ap cell_in lay)) (tt, (refl, refl, refl)));
      shown = subst (λ (z : View). IsAsShown (newest_tier z.turns) (newest_change z.turns) (slot.Cell x)) (sym view_now) tt;
    }

    pub looked_then : (t' : StrandToken) → view_of t' ≡ gave_view home.Plain (view_of w) → held_by t' ≡ rest (held_by w) → HasReturned t.seat.me t'.seat.me
    looked_then t' view slots = record {
      seen = takes.clock;
      notes = record { word = turn_word n; value = 0 } ∷ (view_of t).notes;
      later = takes.later;
      after = λ i. ((view ∙ ap (gave_view home.Plain) view_now) i, (slots ∙ ap (λ ys. rest ys) held_now) i);
    }

  pub journal_then : (x : CellParts) → takes.lay ≡ slot.Cell x → (es : List Entry) → es ≡ x.entries → IsStrictlyIncreasing (stamps es) → AreSteps x.first es → IsFoundJournal key t.seat.me n es
  journal_then x lay es same rising steps = record { before = t.seat.me; after = u.seat.me; looked = looks_not t.seat.me; takes = takes; cell = x; lay = lay; entries = same; rising = rising; steps = steps }

-- ## One after another

pub journal_since : (key : Key) (a b : Me Slot View) (n : ℕ) (es : List Entry) → HasReturned a b → IsFoundJournal key b n es → IsFoundJournal key a n es
journal_since key a b n es h j = record {
  before = j.before;
  after = j.after;
  looked = looks_more a b j.before h j.looked;
  takes = j.takes;
  cell = j.cell;
  lay = j.lay;
  entries = j.entries;
  rising = j.rising;
  steps = j.steps;
}

get_more : {X : Type 0} → (xs : List X) (y : X) (n : ℕ) (x : X) → slice_get (xs ++ y ∷ []) n ≡ Some x → (slice_get xs n ≡ Some x) ⊎ ((n ≡ length xs) × (y ≡ x))
get_more [] y zero x e = inr (refl, cc e)
get_more [] y (suc n) x e = absurd (cc e)
get_more (z ∷ xs) y zero x e = inl e
get_more (z ∷ xs) y (suc n) x e = further (get_more xs y n x e) where
  further : (slice_get xs n ≡ Some x) ⊎ ((n ≡ length xs) × (y ≡ x)) → (slice_get xs n ≡ Some x) ⊎ ((suc n ≡ length (z ∷ xs)) × (y ≡ x))
  further (inl e) = inl e
  further (inr q) = inr (ap suc q.0, q.1)

module _ (key : Key) (me : Me Slot View) (js ks : List (List Entry)) (es : List Entry) (n : ℕ) (many : length js ≡ n) (each : (m : ℕ) (fs : List Entry) → slice_get js m ≡ Some fs → IsFoundJournal key me m fs)
    (one : IsFoundJournal key me n es) (grown : ks ≡ js ++ es ∷ []) where
  pub each_more : (m : ℕ) (fs : List Entry) → slice_get ks m ≡ Some fs → IsFoundJournal key me m fs
  each_more m fs e = by (get_more js es m fs (subst (λ zs. slice_get zs m ≡ Some fs) grown e)) where
    by : (slice_get js m ≡ Some fs) ⊎ ((m ≡ length js) × (es ≡ fs)) → IsFoundJournal key me m fs
    by (inl q) = each m fs q
    by (inr q) = let here : n ≡ m = sym (q.0 ∙ many) in subst (λ k. IsFoundJournal key me k fs) here (subst (IsFoundJournal key me n) q.1 one)

-- an answer that has four facts, by three of them
pub if_ok : {A B : Type 0} → (r : Result A B) → {P Q R S : A → Type 0} → ((a : A) → P a → Q a → R a → S a) → IfOk r P → IfOk r Q → IfOk r R → IfOk r S
if_ok (Ok a) f p q s = f a p q s
if_ok (Err b) f p q s = tt

pub none_at : {A : Type 0} → (xs : List A) (n : ℕ) (x : A) → xs ≡ [] → slice_get xs n ≡ Some x → ⊥
none_at xs n x e at = never (subst (λ ys. slice_get ys n ≡ Some x) e at) where
  never : None ≡ Some x → ⊥
  never q = absurd (cc q)
