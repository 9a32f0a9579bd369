-- Rows of an audit from claims on parts, and claims on small trees by tests that compute.
use Rattle.std.proofs.Common.{arith, ◌≡◌, ℕ, ℤ, zero, suc, ◌<◌, List, [], ◌∷◌, length, refl, ap, sym, ◌∙◌, subst, true, false, nat_lt, Some, unwrap_or}
use Rattle.cw_record.specs.Order.{ending_strand}
use Rattle.cw_audit.specs.Parts.{strands_of_sheet, TakesItsWords, IsWithin, AreInRange, CanHaveDone, unfinished, StrandsHold}
use Rattle.cw_code.specs.Ranges.{aborts_option, default_limits}
use Rattle.cw_strand.specs.declared.want.Given.TheVariants.{Nothing}
use Rattle.std.specs.Prelude.{◌&&◌, ◌||◌, not, IsTrue, None, filter}
use Rattle.std.proofs.lemmas.Bool.{lt-ltb, not-true, not_from_false}
use Rattle.std.proofs.lemmas.List.Elements.{All-nil}
use Rattle.std.proofs.lemmas.Option.{same_Some}
use Rattle.cw_strand.specs.Names.{naming_fault}
use Rattle.cw_strand.specs.Pasts.{Past, start, answered, left_of, right_of}
use Rattle.cw_strand.specs.Strands.{Strands, is_over}
use Rattle.cw_tree.specs.declared.node.Node.{Node}
use Rattle.cw_tree.specs.declared.node.Kind.{Kind}
use Rattle.cw_tree.specs.declared.node.Kind.TheVariants.{Cancel}
use Rattle.cw_tree.specs.Nodes.{is_node, is_strand, is_fork, is_committed, is_pending, is_tried, parent_of}
use Rattle.cw_tree.specs.Series.{has_later, depth_first}
use Rattle.cw_tree.specs.Shape.{IsTree, NonePending}
use Rattle.cw_tree.specs.Accesses.{is_live, live_accesses, written, read}
use Rattle.cw_tree.specs.Journals.{FitsCells, fits_cells}
use Rattle.cw_tree.specs.Cancels.{IsCancel, AreCancels}
use Rattle.cw_tree.specs.Refusals.{AreRefusals, IsRecorded}
use Rattle.cw_tree.proofs.Worked.Checks.{all_below, each_below, are_refusals, aborted_test, committed_test, all_pairs, last_test, around_test, tried_test, beneath_victim_test, pending_last, rolls_back}
use Rattle.cw_record.specs.Coherent.{HasOutputs, StrandEnded, IsJoined, Follows, alone, joined}
use Rattle.cw_record.proofs.WorkedEnds.Parts.{AllBelow, AllFrom, Where, Steady, FitsAt, each, found, where_true, state_in}
use Rattle.cw_sheet.specs.Contents.{Contents}
use Rattle.cw_audit.specs.declared.findings.Audit.TheVariants.{Sound, Broken}
use Rattle.cw_audit.specs.Journals.{ReadWhatWasLeft, ReadsAreRight}
use Rattle.cw_audit.specs.Audits.{Part, stamps, accesses, blocks, refusals, strands, ending, cancels, order, part_number, PartHolds, HoldBefore, IsAudit}
use Rattle.cw_audit.proofs.Order.{order_is_outputs, all_parts}

-- ## Rows

-- a part holds if its number is below n
abbrev pub At : Contents → ℕ → Part → Type 0
At c n p = Where (nat_lt (part_number p) n) (PartHolds c p)

abbrev pub Before : Contents → ℕ → Type 0
Before c n = At c n stamps × At c n accesses × At c n blocks × At c n refusals × At c n strands × At c n ending × At c n cancels × At c n order

holds_at : (c : Contents) (n : ℕ) (p : Part) → At c n p → part_number p < n → PartHolds c p
holds_at c n p w l = where_true (nat_lt (part_number p) n) (PartHolds c p) w (lt-ltb (part_number p) n l)

hold_before : (c : Contents) (n : ℕ) → Before c n → HoldBefore c n
hold_before c n w stamps l = holds_at c n stamps w.0 l
hold_before c n w accesses l = holds_at c n accesses w.1 l
hold_before c n w blocks l = holds_at c n blocks w.2 l
hold_before c n w refusals l = holds_at c n refusals w.3 l
hold_before c n w strands l = holds_at c n strands w.4 l
hold_before c n w ending l = holds_at c n ending w.5 l
hold_before c n w cancels l = holds_at c n cancels w.6 l
hold_before c n w order l = holds_at c n order w.7 l

pub broken_row : (c : Contents) (p : Part) → Before c (part_number p) → (PartHolds c p → ⊥) → IsAudit c (Broken (part_number p))
broken_row c p w fails = (hold_before c (part_number p) w, (p, refl, fails))

module _ (c : Contents) (tree : IsTree c.tree) (named : naming_fault c.source.items ≡ None) (w : Before c 8) where
  pub sound_row : HasOutputs c.tree c.conflicts c.limits.aborts c.end → IsAudit c Sound
  sound_row outs = let h = hold_before c 8 w in all_parts c h ((order_is_outputs c tree named h).1 outs)

  pub order_row : (HasOutputs c.tree c.conflicts c.limits.aborts c.end → ⊥) → IsAudit c (Broken 8)
  order_row fails = broken_row c order w (λ r. fails ((order_is_outputs c tree named (hold_before c 8 w)).0 r))

-- ## Trees

module _ (t : List Node) where
  pub accesses_fit : (k : ℕ) → all_below (λ n. is_node (λ x. fits_cells k x.kind) t n) (length t) ≡ true → FitsCells t k
  accesses_fit k e n h = each_below (λ m. is_node (λ x. fits_cells k x.kind) t m) (length t) e n h

  pub none_pending : all_below (λ n. not (is_pending t n)) (length t) ≡ true → NonePending t
  none_pending e n h = not-true (is_pending t n) (each_below (λ m. not (is_pending t m)) (length t) e n h)

  -- nothing was refused
  pub none_refused : [] ≡ filter (is_tried t) (depth_first t) → all_below (aborted_test t []) (length t) ≡ true → all_below (committed_test t []) (length t) ≡ true → AreRefusals t []
  none_refused each aborted committed = are_refusals t [] each (All-nil (IsRecorded t)) aborted committed

  -- a last child that is no fork
  pub no_fork : (c f : ℕ) → is_fork t c ≡ false → Some c ≡ Some f → IsTrue (not (is_fork t f))
  no_fork c f other e = let P : ℕ → Type 0 = λ n. IsTrue (not (is_fork t n)) in subst P (same_Some c f e) (not_from_false (is_fork t c) other)

  -- ## Reads

  abbrev pub ReadsBy : ℤ → List ℕ → Type 0
  ReadsBy v [] = Unit {0}
  ReadsBy v (u ∷ us) = (unwrap_or (read t u) v ≡ v) × ReadsBy (unwrap_or (written t u) v) us

  reads_by : (v : ℤ) (us : List ℕ) → ReadsBy v us → ReadWhatWasLeft t v us
  reads_by v [] h = tt
  reads_by v (u ∷ us) h = (λ w q. sym (ap (λ o. unwrap_or o v) q) ∙ h.0, reads_by (unwrap_or (written t u) v) us h.1)

  reads_at : (v w : ℤ) (us : List ℕ) → Some v ≡ Some w → ReadsBy v us → ReadWhatWasLeft t w us
  reads_at v w us e h = let P : ℤ → Type 0 = λ x. ReadWhatWasLeft t x us in subst P (same_Some v w e) (reads_by v us h)

  pub reads_of_one : (v : ℤ) → ReadsBy v (live_accesses t 0) → ReadsAreRight t (v ∷ [])
  reads_of_one v h zero w e = reads_at v w (live_accesses t 0) e h
  reads_of_one v h (suc c) w e = absurd (cc e)

  pub reads_of_two : (v x : ℤ) → ReadsBy v (live_accesses t 0) → ReadsBy x (live_accesses t 1) → ReadsAreRight t (v ∷ x ∷ [])
  reads_of_two v x h g zero w e = reads_at v w (live_accesses t 0) e h
  reads_of_two v x h g (suc zero) w e = reads_at x w (live_accesses t 1) e g
  reads_of_two v x h g (suc (suc c)) w e = absurd (cc e)

  -- ## Cancels

  abbrev pub CancelAt : (first : List ℤ) → ℕ → Node → Kind → Type 0
  CancelAt first n x (Cancel back) = Where (is_live t n) (IsCancel t first x back)
  CancelAt first n x kind = Unit {0}

  pub are_cancels : (first : List ℤ) → AllFrom (λ n x. CancelAt first n x x.kind) t → AreCancels t first
  are_cancels first w n x back e k live =
      let P : Kind → Type 0 = λ kind. CancelAt first n x kind in
      where_true (is_live t n) (IsCancel t first x back) (subst P k (found (λ m y. CancelAt first m y y.kind) t w n x e)) live

-- ## Strands

-- what had happened to a strand at a node
abbrev pub past_in : List Past → ℕ → Past
past_in = state_in start

-- the same strand after n answers that give it nothing
abbrev pub goes_on : ℕ → Past → Past
goes_on zero p = p
goes_on (suc n) p = answered (goes_on n p) Nothing

-- the strands of main's first fork after n such answers
abbrev pub left : ℕ → Past
left n = goes_on n (left_of start)

abbrev pub right : ℕ → Past
right n = goes_on n (right_of start)

-- part 5: most of it computes
pub strands_by : (c : Contents) → TakesItsWords c → AreInRange c.limits → is_strand c.tree (ending_strand c.end) ≡ true
    → all_pairs (last_test c.tree) (length c.tree) ≡ true → all_pairs (around_test c.tree) (length c.tree) ≡ true
    → all_below (tried_test c.tree c.conflicts) (length c.tree) ≡ true → all_below (beneath_victim_test c.tree c.conflicts) (length c.tree) ≡ true
    → CanHaveDone (strands_of_sheet c) c.tree (unfinished c.end) → StrandsHold c
strands_by c words limits named last around tried aborted done = record {
  words = words;
  limits = limits;
  named = named;
  pending_last = pending_last c.tree last around;
  rolls_back = rolls_back c.tree c.conflicts tried aborted;
  done = done;
}

-- the limits of a command that gives no other than the budget
pub in_range : (budget : ℕ) → IsWithin aborts_option budget → AreInRange (record default_limits { aborts = budget })
in_range budget within = record { fuel = (omega arith, omega arith); size = (omega arith, omega arith); aborts = within; strands = (omega arith, omega arith); moves = (omega arith, omega arith) }

pub by_default : AreInRange default_limits
by_default = in_range 100000 (omega arith, omega arith)

module _ {A : Type 0} (s : Strands A) (t : List Node) (before after reached : ℕ → A) where
  abbrev pub JoinedAt : ℕ → Type 0
  JoinedAt f = Where (is_fork t f && (has_later t f || is_committed t (parent_of t f))) (IsJoined s t before after reached f)

  -- the states of a tree in which strands may have gone on behind forks
  pub follows_joined : before 0 ≡ s.start → AllBelow (Steady s t before after reached) (length t) → AllFrom (FitsAt s t before after reached) t → AllBelow JoinedAt (length t) → Follows s t before after reached
  follows_joined begin steady fits joins = record {
    start = begin;
    series = λ n h e. where_true _ _ (each (Steady s t before after reached) (length t) steady n h) e;
    fits = found (FitsAt s t before after reached) t fits;
    joined = λ f h e. where_true (is_fork t f && (has_later t f || is_committed t (parent_of t f))) (IsJoined s t before after reached f) (each JoinedAt (length t) joins f h) e;
  }

  abbrev pub OverAt : ℕ → Type 0
  OverAt x = Where (is_strand t x && is_live t x) (StrandEnded s t before after reached x)

  pub all_over : AllBelow OverAt (length t) → (x : ℕ) → x < length t → IsTrue (is_strand t x && is_live t x) → StrandEnded s t before after reached x
  all_over w x h e = where_true (is_strand t x && is_live t x) (StrandEnded s t before after reached x) (each OverAt (length t) w x h) e

  -- what has ended is over
  pub over_at : (x : ℕ) → StrandEnded s t before after reached x → IsTrue (is_over (s.want (reached x)))
  over_at x (alone o f) = o
  over_at x (joined o e f c l r b) = o
