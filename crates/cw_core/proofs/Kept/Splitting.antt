-- The parts of a core after a split.
use Rattle.std.proofs.Common.{◌≡◌, ℕ, ◌/◌, ◌<◌, List, [], ◌∷◌, length, refl, ap, sym, ◌∙◌, subst, arith, Bool, true, false, cond, Option, Some, None, nat_eq, inl, inr}
use Rattle.std.specs.Prelude.{◌&&◌, ◌||◌, not, slice_get, is_none, find, unwrap_or}
use Rattle.std.proofs.lemmas.Bool.{and_parts, and_from, or_left, eqb-true, eq-eqb, false_from_ne_true, not-true}
use Rattle.cw_tree.specs.Nodes.{is_fork_kind, is_fork, all_nodes}
use Rattle.cw_tree.specs.Walks.{has}
use Rattle.cw_tree.proofs.Lists.{In}
use Rattle.cw_tree.proofs.Members.{below_in}
use Rattle.cw_tree.proofs.Walks.There.{node_there}
use Rattle.cw_stack.specs.Cells.{CellParts}
use Rattle.cw_trace.specs.Columns.{used, owner, split_at, before_split}
use Rattle.cw_trace.specs.Stands.{fork_column}
use Rattle.cw_trace.specs.Outward.{NextBars}
use Rattle.cw_trace.proofs.Stands.Counting.{fork_column_one}
use Rattle.cw_trace.proofs.Keeps.Meaning.{odd_column}
use Rattle.cw_open.specs.Machine.{OpenMachine}
use Rattle.cw_open.specs.Open.{is_open}
use Rattle.cw_open.proofs.Open.Kinds.{unjoined_open}
use Rattle.cw_core.specs.declared.event.Event.TheVariants as event
use Rattle.cw_trace.proofs.Marks.Edits.{length_parts}
use Rattle.cw_core.specs.declared.row.Row.{Row}
use Rattle.cw_core.specs.State.{CoreState, joined_columns, has_columns, is_split}
use Rattle.cw_core.specs.Events.{fits, fits_now, is_unstarted, fork_at, after_event}
use Rattle.cw_core.specs.Kept.{IsRow, AreRows, AreParts, with_row_changed, with_split}
use Rattle.cw_core.proofs.Events.Kept.{events}
use Rattle.cw_core.proofs.Events.Going.{well, root_open}
use Rattle.cw_core.proofs.Events.Ordering.{ordered, unjoined}
use Rattle.cw_core.proofs.Kept.Changed.{length_changed, was_changed}
use Rattle.cw_core.proofs.Kept.PartsGrow.{unspent, none_spent}
use Rattle.cw_core.proofs.Kept.SameTree.{with_same_tree, made_same, forks_same, held_same}

-- what alone passes a test is found
pub find_one : (p : ℕ → Bool) (v : ℕ) (xs : List ℕ) → In v xs → p v ≡ true → ((w : ℕ) → p w ≡ true → w ≡ v) → find p xs ≡ Some v
find_one p v [] i e one = absurd i
find_one p v (x ∷ xs) i e one = by (p x) refl (λ j. find_one p v xs j e one) i where
  by : (b : Bool) → p x ≡ b → (In v xs → find p xs ≡ Some v) → In v (x ∷ xs) → cond b (Some x) (find p xs) ≡ Some v
  by true q more i = ap Some (one x q)
  by false q more i = elim i [ inl same ↦ absurd (let a = ap p same in cc (a, q, e)) | inr j ↦ more j ]

-- ## What is asked of a fork that is split

pub record MaySplit (k : CoreState) (f : ℕ) : Type 0 where
  pub fork : is_fork k.machine.tree f ≡ true
  pub columns : has_columns k f ≡ true
  pub uncut : has k.splits (fork_column k.machine.tree f) ≡ false
  pub unjoined : has k.machine.joined f ≡ false

pub may_split : (k : CoreState) (f : ℕ) → fits_now k (event.Split f) ≡ true → MaySplit k f
may_split k f e =
    let m = k.machine in
    let x = and_parts (is_fork m.tree f && has_columns k f && not (is_split k f) && not (has m.joined f)) (is_unstarted k f) e in
    let y = and_parts (is_fork m.tree f && has_columns k f && not (is_split k f)) (not (has m.joined f)) x.0 in
    let z = and_parts (is_fork m.tree f && has_columns k f) (not (is_split k f)) y.0 in
    let w = and_parts (is_fork m.tree f) (has_columns k f) z.0 in
    record { fork = w.0; columns = w.1; uncut = sym (ap (λ q. q && has k.splits (fork_column m.tree f)) w.1) ∙ not-true (is_split k f) z.1; unjoined = not-true (has m.joined f) y.1 }

module _ (k : CoreState) (f : ℕ) (may : MaySplit k f) where
  abbrev m : OpenMachine
  m = k.machine

  abbrev col : ℕ
  col = fork_column m.tree f

  pub same_used : used (split_at col k.tier) ≡ used k.tier
  same_used = length_parts (owner k.tier col) col 0 k.tier.owners

  abbrev z : CoreState
  z = with_same_tree k m.finished m.joined m.stopped (split_at col k.tier) (col ∷ k.splits) k.halt same_used refl

  row_at : (n : ℕ) (r : Row) (b : Bool) → nat_eq n f ≡ b → IsRow k n r → IsRow z n (cond b with_split (λ r. r) r)
  row_at n r true e w = record {
    made = made_same k m.finished m.joined m.stopped (split_at col k.tier) (col ∷ k.splits) k.halt same_used refl n r.made w.made;
    tail = w.tail;
    now = record {
      place = w.now.place;
      waits = w.now.waits;
      finished = w.now.finished;
      dead = w.now.dead;
      victim = w.now.victim;
      quiet = w.now.quiet;
      split = λ g.
          (let same = eqb-true n f e in
          and_from (has_columns k n) (has (col ∷ k.splits) (fork_column m.tree n)) (ap (has_columns k) same ∙ may.columns)
          (or_left (nat_eq col (fork_column m.tree n)) (has k.splits (fork_column m.tree n)) (eq-eqb col (fork_column m.tree n) (sym (ap (fork_column m.tree) same)))));
      joined = w.now.joined;
    };
  }
  row_at n r false e w = record {
    made = made_same k m.finished m.joined m.stopped (split_at col k.tier) (col ∷ k.splits) k.halt same_used refl n r.made w.made;
    tail = w.tail;
    now = record {
      place = w.now.place;
      waits = w.now.waits;
      finished = w.now.finished;
      dead = w.now.dead;
      victim = w.now.victim;
      quiet = w.now.quiet;
      split = λ g.
          (let apart : nat_eq col (fork_column m.tree n) ≡ false =
          false_from_ne_true (nat_eq col (fork_column m.tree n)) (λ q.
          absurd (let same = fork_column_one m.tree n f g may.fork (sym (eqb-true col (fork_column m.tree n) q)) in cc (e, eq-eqb n f same))) in
          ap (λ b. has_columns k n && (b || has k.splits (fork_column m.tree n))) apart ∙ w.now.split g);
      joined = w.now.joined;
    };
  }

  pub split_rows : (rows : List Row) → AreRows k rows → AreRows z (with_row_changed with_split f rows)
  split_rows rows w = record {
    len = length_changed with_split f rows ∙ w.len;
    each = λ n r e.
        (let c = was_changed with_split f rows n r e in
        let P : Row → Type 0 = λ r. IsRow z n r in
        subst P (sym (c.is ∙ either (nat_eq n f) c.before)) (row_at n c.before (nat_eq n f) refl (w.each n c.before c.there)));
  } where
    either : (b : Bool) (r : Row) → cond b (with_split r) r ≡ cond b with_split (λ r. r) r
    either true r = refl
    either false r = refl

  -- what the event makes of the core where no other fork is to be split before
  pub after_split : before_split k.tier col ≡ None → after_event k (event.Split f) ≡ z
  after_split e = ap (λ b. let y : CoreState = record k { tier = cond b (split_at col k.tier) k.tier; splits = cond b (col ∷ k.splits) k.splits } in y) (ap is_none e)

  -- and where one is
  pub after_early : (c : ℕ) → before_split k.tier col ≡ Some c → after_event k (event.Split f) ≡ k
  after_early c e = ap (λ b. let y : CoreState = record k { tier = cond b (split_at col k.tier) k.tier; splits = cond b (col ∷ k.splits) k.splits } in y) (ap is_none e)

  pub split_parts : (rows : List Row) (forks : List ℕ) (cells : List CellParts) (last : Option ℕ) → AreParts k rows forks cells last → fits k (event.Split f) ≡ true → before_split k.tier col ≡ None
      → AreParts z (with_row_changed with_split f rows) forks cells last
  split_parts rows forks cells last w fit now =
      let Q : CoreState → Type 0 = λ z. Rattle.cw_core.specs.Laws.IsCore m.first z in
      record {
        core = subst Q (after_split now) (events m.first k (event.Split f) w.core fit).1;
        few = w.few;
        drawn = w.drawn;
        askers = w.askers;
        rowed = split_rows rows w.rowed;
        forked = forks_same k m.finished m.joined m.stopped (split_at col k.tier) (col ∷ k.splits) k.halt same_used refl forks w.forked;
        held = λ c cell e. held_same k m.finished m.joined m.stopped (split_at col k.tier) (col ∷ k.splits) k.halt same_used refl c cell (w.held c cell e);
        firsts = w.firsts;
        lists = w.lists;
        told = none_spent k z (unspent k (event.Split f) refl fit) refl refl ∙ w.told;
      }

-- ## The fork that is to be split before

-- a fork is found by its column
pub fork_is : (k : CoreState) (h : ℕ) → is_fork k.machine.tree h ≡ true → (c : ℕ) → fork_column k.machine.tree h ≡ c → fork_at k c ≡ h
fork_is k h fork c same =
    let t = k.machine.tree in
    ap (λ o. unwrap_or o 0)
    (find_one (λ n. is_fork t n && nat_eq (fork_column t n) c) h (all_nodes t) (below_in h (length t) (node_there (λ y. is_fork_kind y.kind) t h fork)) (and_from (is_fork t h) (nat_eq (fork_column t h) c) fork (eq-eqb (fork_column t h) c same))
    (λ v p. let y = and_parts (is_fork t v) (nat_eq (fork_column t v) c) p in fork_column_one t v h y.0 fork (eqb-true (fork_column t v) c y.1 ∙ sym same)))

pub record IsBefore (k : CoreState) (forks : List ℕ) (c : ℕ) : Type 0 where
  pub low : c / 2 < length forks
  pub named : (f : ℕ) → slice_get forks (c / 2) ≡ Some f → fork_at k c ≡ f

pub is_before : (k : CoreState) (f : ℕ) (rows : List Row) (forks : List ℕ) (cells : List CellParts) (last : Option ℕ) → AreParts k rows forks cells last → MaySplit k f → (c : ℕ) → NextBars (fork_column k.machine.tree f) c k.tier → IsBefore k forks c
is_before k f rows forks cells last w may c bars =
    let core = w.core in
    let first = k.machine.first in
    let wl = well first k core in
    let t = k.machine.tree in
    let opened = unjoined_open k.machine f may.fork may.unjoined in
    let root = root_open first k core f (node_there (λ y. is_fork_kind y.kind) t f may.fork) opened in
    let next = bars k.words t k.splits (joined_columns k) (is_open k.machine) f core.stands wl.sound.tree (ordered k wl core.joined core.left_first core.stands root) may.fork refl (unjoined k wl core.joined core.left_first core.stands f may.fork may.unjoined) in
    let g = next.fork in
    let fork : is_fork t g ≡ true = next.bars.outward.fork in
    let at : fork_column t g ≡ c = next.at in
    let odd = odd_column t g in
    let count = w.forked.count in
    let columns = next.bars.columns in
    record {
      low = omega (arith, at, count, columns);
      named = λ h e.
          (let z = w.forked.each (c / 2) h e in
          let same : fork_column t h ≡ c = omega (arith, z.1, odd, at) in
          fork_is k h z.0 c same);
    }
