-- Columns are closed and marked at each moment, a fork leaves what is read of them, and each fork is split and joined once.
use Rattle.std.proofs.Common.{◌≡◌, ℕ, zero, suc, ◌<◌, ◌≤◌, List, [], ◌∷◌, ◌++◌, length, refl, ap, sym, ◌∙◌, subst, arith, Bool, true, false, Option, Some, None, inl, inr, nat_eq}
use Rattle.std.specs.Prelude.{◌/◌, ◌&&◌, ◌||◌, not, ℤ, slice_get, slice_index, is_some, if◌then◌else◌}
use Rattle.std.proofs.lemmas.Bool.{and_parts, cases_lt, cases_eq, not-true, false_from_ne_true}
use Rattle.cw_tree.specs.declared.access.Mark.{Mark}
use Rattle.cw_tree.specs.declared.node.Node.{Node}
use Rattle.cw_tree.specs.Nodes.{stamp_of, is_fork, is_pending}
use Rattle.cw_tree.specs.Walks.{has}
use Rattle.cw_tree.proofs.NodeKinds.{pending_block, block_stamped}
use Rattle.cw_trace.specs.Columns.{ColumnTable, used, owner, gap, lead, up, trace, trace_in, lead_in, up_in, is_trace, inside, opening_mark, closing_mark, forked}
use Rattle.cw_trace.specs.Stands.{Stands, column, fork_column, outermost_pending, stamp_or_0, word_of, names_trace, around}
use Rattle.cw_trace.specs.Keeps.{Keeps, Distinct}
use Rattle.cw_trace.specs.Segments.{IsTrace}
use Rattle.cw_trace.specs.Query.{stands_in}
use Rattle.cw_trace.proofs.Keeps.Meaning.{stands_of}
use Rattle.cw_trace.proofs.Marks.Counts.{half_opening, half_closing}
use Rattle.cw_trace.proofs.Marks.Marking.{before_first, before_second}
use Rattle.cw_trace.proofs.Segments.Lines.{own_le, own_trace, gap_le, strong}
use Rattle.cw_trace.proofs.Stands.Counting.{some_below}
use Rattle.cw_open.specs.Machine.{has_finished}
use Rattle.cw_open.specs.Steps as step
use Rattle.cw_open.specs.Runs.{at_any_time}
use Rattle.cw_hands.specs.Shared.{SharedMoment, has_columns, is_split, is_whole, is_owed, SharedStep, makes, splits, merges, RunsTogether, start, more}
use Rattle.cw_hands.specs.Heard.{AreClosed, AreMarked, ColumnsAreSound, ReadsSame, ForksLeaveReads, CutsAreOnce}
use Rattle.cw_hands.proofs.Laws.Kept.{owed_is}
use Rattle.cw_hands.proofs.Laws.Order.{order_is_kept}
use Rattle.cw_hands.proofs.Laws.Runs.{well_at, tiers_stand, unfinished_at}

-- past the end of a list there is nothing
get_past : {A : Type 0} (xs : List A) (i : ℕ) → length xs ≤ i → slice_get xs i ≡ None
get_past [] i l = refl
get_past (x ∷ xs) zero l = absurd (omega arith)
get_past (x ∷ xs) (suc i) l = get_past xs i (omega arith)

get_before : {A : Type 0} (xs ys : List A) (i : ℕ) → i < length xs → slice_get (xs ++ ys) i ≡ slice_get xs i
get_before [] ys i l = absurd (omega arith)
get_before (x ∷ xs) ys zero l = refl
get_before (x ∷ xs) ys (suc i) l = get_before xs ys i (omega arith)

number_before : (xs ys : List ℕ) (i : ℕ) → i < length xs → slice_index (xs ++ ys) i ≡ slice_index xs i
number_before [] ys i l = absurd (omega arith)
number_before (x ∷ xs) ys zero l = refl
number_before (x ∷ xs) ys (suc i) l = number_before xs ys i (omega arith)

module _ (c : ColumnTable) (words : List ℕ) (t : List Node) (cuts joins : List ℕ) (k : Keeps c words t cuts joins) (begun : (b : ℕ) → is_pending t b ≡ true → 0 < stamp_of t b) where
  abbrev col : ℕ → ℕ
  col = column t (used c)

  whole : Stands c words t cuts joins
  whole = stands_of c words t cuts joins k

  -- a column with a row names a trace
  row_low : (x : ℕ) → is_trace c x ≡ true → x < used c
  row_low x e = elim (cases_lt x (used c)) [
    | inl l ↦ l
    | inr le ↦ absurd (cc (e, ap (λ o. is_some (trace_in o)) (get_past c.traces x (omega (arith, le, k.segments.lengths.2)))))
  ]

  names : (x : ℕ) → is_trace c x ≡ true → IsTrace c cuts joins x
  names x e = record { low = row_low x e; named = sym (k.outside.named x (row_low x e)) ∙ e }

  up_row : (x y : ℕ) → up c x ≡ Some y → is_trace c x ≡ true
  up_row x y e = by (trace c x) e where
    by : (o : Option Rattle.cw_trace.specs.declared.tier.Trace.Trace) → up_in o ≡ Some y → is_some o ≡ true
    by None e = absurd (cc e)
    by (Some r) e = refl

  lead_row : (x y : ℕ) → lead c x ≡ Some y → is_trace c x ≡ true
  lead_row x y e = by (trace c x) e where
    by : (o : Option Rattle.cw_trace.specs.declared.tier.Trace.Trace) → lead_in o ≡ Some y → is_some o ≡ true
    by None e = absurd (cc e)
    by (Some r) e = refl

  abbrev begins_in : ℕ → Bool
  begins_in y = is_some (outermost_pending t (used c) (λ i. nat_eq (owner c i) y))

  -- what `up` names is a trace with a pending block
  pub record IsUp (y : ℕ) : Type 0 where
    pub is : IsTrace c cuts joins y
    pub begins : begins_in y ≡ true

  up_is : (x : ℕ) → IsTrace c cuts joins x → (y : ℕ) → up c x ≡ Some y → IsUp y
  up_is = strong (λ x. IsTrace c cuts joins x → (y : ℕ) → up c x ≡ Some y → IsUp y) (λ x more w y e. elim (cases_eq x 0) [
    | inl z ↦ absurd (cc (e, ap (up c) z, whole.no_up))
    | inr ne ↦ (
        let some : 0 < x = omega (arith, ne) in
        let up_low : slice_index c.parents x < x = k.segments.rooted x some w.low in
        let parent_used : slice_index c.parents x < used c = (let l = w.low in omega arith) in
        let outer = own_trace c cuts joins (is_pending t) col k.segments (slice_index c.parents x) parent_used in
        let le : around c x ≤ slice_index c.parents x = own_le c cuts joins (is_pending t) col k.segments (slice_index c.parents x) parent_used in
        by x y (begins_in (around c x)) refl outer (sym (whole.ups x some w.low w.named) ∙ e) (more (around c x) (omega arith) outer y))
  ]) where
    by : (x y : ℕ) (b : Bool) → begins_in (around c x) ≡ b → IsTrace c cuts joins (around c x) → (if begins_in (around c x) then Some (around c x) else up c (around c x)) ≡ Some y → (up c (around c x) ≡ Some y → IsUp y) → IsUp y
    by x y true q outer e f =
        let same : around c x ≡ y = inner (sym (ap (λ (z : Bool). if z then Some (around c x) else up c (around c x)) q) ∙ e) in
        record { is = subst (IsTrace c cuts joins) same outer; begins = ap begins_in (sym same) ∙ q } where
          inner : {a b : ℕ} → Some a ≡ Some b → a ≡ b
          inner e = cc e
    by x y false q outer e f = f (sym (ap (λ (z : Bool). if z then Some (around c x) else up c (around c x)) q) ∙ e)

  lead_is : (x g : ℕ) → lead c x ≡ Some g → gap c x ≡ g
  lead_is x g e =
      let w = names x (lead_row x g e) in
      inner (sym (k.segments.lead_live x w (λ f cut same. absurd (cc (e, k.segments.lead_lent x f w cut same)))) ∙ e) where
        inner : {a b : ℕ} → Some a ≡ Some b → a ≡ b
        inner e = cc e

  -- a trace with a pending block has a lead
  led : (y : ℕ) → IsUp y → lead c y ≡ None → ⊥
  led y w none = by (outermost_pending t (used c) (λ i. nat_eq (owner c i) y)) refl where
    by : (o : Option ℕ) → outermost_pending t (used c) (λ i. nat_eq (owner c i) y) ≡ o → ⊥
    by None e = cc (ap is_some e, w.begins)
    by (Some b) e =
        let zero_word : 0 ≡ stamp_of t b = sym (ap (word_of words) none) ∙ whole.leads y w.is.low w.is.named ∙ ap (stamp_or_0 t) e in
        let found = some_below (λ b. is_pending t b && nat_eq (owner c (column t (used c) b)) y) (length t) b e in
        let pending = (and_parts (is_pending t b) (nat_eq (owner c (column t (used c) b)) y) found.passed).0 in
        omega (arith, begun b pending, zero_word)

  pub closed : AreClosed c
  closed = record {
    owners = λ i l. (let le : owner c i ≤ i = own_le c cuts joins (is_pending t) col k.segments i l in omega arith);
    ups = λ x y e. (up_is x (names x (up_row x y e)) y e).is.low;
    leads = λ x g e. (
        let w = names x (lead_row x g e) in
        let le : gap c x ≤ x = gap_le c cuts joins (is_pending t) col k.segments x w.low in
        omega (arith, w.low, lead_is x g e));
    led = λ x y l e none. led y (up_is (owner c x) (own_trace c cuts joins (is_pending t) col k.segments x l) y e) none;
  }

  -- ## Marks

  opens_at : (x : ℕ) → x < used c → (b : Bool) → names_trace cuts joins x ≡ b → (has c.brackets (opening_mark x) ≡ b) × (has c.brackets (closing_mark x) ≡ b)
  opens_at x l true e =
      let both = k.nesting.closes x (record { low = l; named = e }) in
      (before_first c.brackets (opening_mark x) (closing_mark x) both, before_second c.brackets (opening_mark x) (closing_mark x) both)
  opens_at x l false e =
      (false_from_ne_true (has c.brackets (opening_mark x)) (λ q. none (opening_mark x) (half_opening x) q), false_from_ne_true (has c.brackets (closing_mark x)) (λ q. none (closing_mark x) (half_closing x) q)) where
        none : (b : ℕ) → b / 2 ≡ x → has c.brackets b ≡ true → ⊥
        none b half q =
            let z = k.nesting.marks b q in
            let same : z.0 ≡ x = elim z.2 [
              | inl f ↦ sym (half_opening z.0) ∙ ap (λ n. n / 2) (sym f) ∙ half
              | inr f ↦ sym (half_closing z.0) ∙ ap (λ n. n / 2) (sym f) ∙ half
            ] in
            cc (z.1.named, ap (names_trace cuts joins) same, e)

  pub marked : AreMarked c
  marked = record {
    opens = λ x l. (opens_at x l (names_trace cuts joins x) refl).0 ∙ sym (k.outside.named x l);
    closes = λ x l. (opens_at x l (names_trace cuts joins x) refl).1 ∙ sym (k.outside.named x l);
  }

  -- ## A fork

  module _ (word parent asker : ℕ) (last : Mark) (named : last.strand < used c) (there : asker < used c) where
    abbrev d : ColumnTable
    d = forked word parent c

    owner_same : (i : ℕ) → i < used c → owner d i ≡ owner c i
    owner_same i l = number_before c.owners (owner c parent ∷ owner c parent ∷ []) i l

    row_same : (x : ℕ) → x < used c → slice_get d.traces x ≡ slice_get c.traces x
    row_same x l = get_before c.traces (None ∷ None ∷ []) x (omega (arith, l, k.segments.lengths.2))

    stands_same : (y : ℕ) → stands_in d asker y ≡ stands_in c asker y
    stands_same y = ap (λ v. nat_eq v y || inside c v y) (owner_same asker there)

    pub forked_reads : ReadsSame c d last asker
    forked_reads =
        let own_low = closed.owners last.strand named in
        record {
          own = owner_same last.strand named;
          lead_own = ap (λ o. lead_in (trace_in o)) (row_same (owner c last.strand) own_low);
          up_own = ap (λ o. up_in (trace_in o)) (row_same (owner c last.strand) own_low);
          stands_own = stands_same (owner c last.strand);
          lead_around = λ y e. ap (λ o. lead_in (trace_in o)) (row_same y (closed.ups (owner c last.strand) y e));
          stands_around = λ y e. stands_same y;
        }

pub columns_are_sound : ColumnsAreSound
columns_are_sound asked first s run root =
    let w = well_at (at_any_time asked) first s run in
    let h = tiers_stand asked first s run root in
    let begun : (b : ℕ) → is_pending s.machine.tree b ≡ true → 0 < stamp_of s.machine.tree b = λ b e. block_stamped s.machine.tree w.sound.stamps b (pending_block s.machine.tree b e) in
    (closed s.columns s.words s.machine.tree s.cuts s.joins h.keeps begun, marked s.columns s.words s.machine.tree s.cuts s.joins h.keeps begun)

pub forks_leave_reads : ForksLeaveReads
forks_leave_reads asked first s run root word parent asker last named there =
    let w = well_at (at_any_time asked) first s run in
    let h = tiers_stand asked first s run root in
    let begun : (b : ℕ) → is_pending s.machine.tree b ≡ true → 0 < stamp_of s.machine.tree b = λ b e. block_stamped s.machine.tree w.sound.stamps b (pending_block s.machine.tree b e) in
    forked_reads s.columns s.words s.machine.tree s.cuts s.joins h.keeps begun word parent asker last named there

-- ## Splits and joins

abbrev AreOnce : SharedMoment → Type 0
AreOnce s = Distinct s.cuts × Distinct s.joins

once_after : (asked : List Node → List ℕ → Option ℤ → List ℕ) (first : List ℤ) (s u : SharedMoment) (e : SharedStep (at_any_time asked) s u) → RunsTogether (at_any_time asked) first s → has_finished s.machine 0 ≡ false → AreOnce s → AreOnce u
once_after asked first s _ (makes (step.joins f) a ready later) run root ds = by (is_whole s f) refl where
  by : (b : Bool) → is_whole s f ≡ b → AreOnce (record s { joins = if b then fork_column s.machine.tree f ∷ s.joins else s.joins })
  by false e = ds
  by true e =
      let wide = (and_parts (has_columns s f) _ e).0 in
      let unjoined = not-true (has s.machine.joined f) (and_parts (is_fork s.machine.tree f) (not (has s.machine.joined f)) (and_parts (is_fork s.machine.tree f && not (has s.machine.joined f)) _ a).0).1 in
      (ds.0, (false_from_ne_true (has s.joins (fork_column s.machine.tree f)) (λ q. absurd (cc (unjoined, (order_is_kept asked first s run root).joined f wide q))), ds.1))
once_after asked first s _ (makes (step.forks x stamp) a ready later) run root ds = ds
once_after asked first s _ (makes (step.begins x stamp) a ready later) run root ds = ds
once_after asked first s _ (makes (step.accesses x c write stamp) a ready later) run root ds = ds
once_after asked first s _ (makes (step.refuses x c write met) a ready later) run root ds = ds
once_after asked first s _ (makes (step.outputs x v stamp) a ready later) run root ds = ds
once_after asked first s _ (makes (step.cancels x stamp) a ready later) run root ds = ds
once_after asked first s _ (makes (step.commits x stamp) a ready later) run root ds = ds
once_after asked first s _ (makes (step.undoes x c) a ready later) run root ds = ds
once_after asked first s _ (makes (step.aborts x stamp) a ready later) run root ds = ds
once_after asked first s _ (makes (step.finishes x dead) a ready later) run root ds = ds
once_after asked first s _ (makes (step.stops x) a ready later) run root ds = ds
once_after asked first s _ (splits f w early unstarted) run root ds =
    ((not-true (has s.cuts (fork_column s.machine.tree f)) (and_parts (has_columns s f) (not (has s.cuts (fork_column s.machine.tree f))) w).1, ds.0), ds.1)
once_after asked first s _ (merges f owed) run root ds = (ds.0, ((owed_is s f (and_parts (is_split s f) (is_owed s f) owed).1).unmerged, ds.1))

are_once : (asked : List Node → List ℕ → Option ℤ → List ℕ) (first : List ℤ) (s : SharedMoment) → RunsTogether (at_any_time asked) first s → has_finished s.machine 0 ≡ false → AreOnce s
are_once asked first _ (start room words some fits zeros) root = (tt, tt)
are_once asked first u (more s _ run e) root =
    let before = unfinished_at (at_any_time asked) s u e root in
    once_after asked first s u e run before (are_once asked first s run before)

pub cuts_are_once : CutsAreOnce
cuts_are_once asked first s run root =
    let ds = are_once asked first s run root in
    let h = tiers_stand asked first s run root in
    (ds.0, ds.1, h.keeps.segments.cut_left, h.keeps.segments.join_left)
