-- What a step leaves of the facts that order the open nodes.
use Rattle.std.proofs.Common.{◌≡◌, ℕ, ◌+◌, ◌<◌, ◌≤◌, List, ◌++◌, length, ap, sym, ◌∙◌, arith, true, false, inl, inr, nat_lt, length-append}
use Rattle.std.specs.Prelude.{◌⊎◌, ◌&&◌, not}
use Rattle.std.proofs.lemmas.Bool.{and_parts, and_from, not-true, not_from_false, false_from_ne_true, cases_lt, ltb-true}
use Rattle.cw_tree.specs.declared.node.Node.{Node}
use Rattle.cw_tree.specs.declared.conflict.Conflict.{Conflict}
use Rattle.cw_tree.specs.Nodes.{is_fork_kind, parent_of, is_fork}
use Rattle.cw_tree.specs.Walks.{has}
use Rattle.cw_tree.specs.Series.{strand_of, children, has_later}
use Rattle.cw_tree.proofs.Lists.{any_in}
use Rattle.cw_tree.proofs.InOrder.DepthFirst.{child_is}
use Rattle.cw_tree.proofs.NextNodes.Growing.{node_grown, number_grown, strand_of_grown}
use Rattle.cw_tree.proofs.NodeKinds.{fork_some, fork_no_strand}
use Rattle.cw_tree.proofs.Walks.Kin.{fork_child}
use Rattle.cw_tree.proofs.Walks.There.{fork_there}
use Rattle.cw_trace.specs.Columns.{ColumnTable, used}
use Rattle.cw_trace.specs.Stands.{fork_column}
use Rattle.cw_trace.proofs.Keeps.Grow.{fork_column_append}
use Rattle.cw_open.specs.Machine.{has_finished}
use Rattle.cw_open.specs.Open.{is_open}
use Rattle.cw_open.proofs.Open.Trees.{IsWell}
use Rattle.cw_hands.specs.Shared.{SharedMoment, has_columns, is_owed}
use Rattle.cw_hands.proofs.Shared.Order.{later, wide_fork}

-- what a step makes of forks, and where new nodes hang
pub record IsPassed (s u : SharedMoment) : Type 0 where
  pub longer : length s.machine.tree ≤ length u.machine.tree
  pub parents : (n : ℕ) → n < length s.machine.tree → parent_of u.machine.tree n ≡ parent_of s.machine.tree n
  -- beneath another new one, or where no merge is owed
  pub fresh : (k : ℕ) → length s.machine.tree ≤ k → k < length u.machine.tree
      → (length s.machine.tree ≤ parent_of u.machine.tree k) ⊎ ((f : ℕ) → 0 < f → f < length s.machine.tree → parent_of s.machine.tree f ≡ parent_of u.machine.tree k → is_owed s f ≡ false)
  pub old : (f : ℕ) → f < length s.machine.tree → has_columns u f ≡ true → (has_columns s f ≡ true) × (fork_column u.machine.tree f ≡ fork_column s.machine.tree f)
  pub new : (f : ℕ) → length s.machine.tree ≤ f → has_columns u f ≡ true → (has u.joins (fork_column u.machine.tree f) ≡ false) × (has u.machine.joined f ≡ false)
  pub keeps : (f : ℕ) → has s.machine.joined f ≡ true → has u.machine.joined f ≡ true
  pub joins : (f : ℕ) → has_columns s f ≡ true → has u.joins (fork_column s.machine.tree f) ≡ true → (has s.joins (fork_column s.machine.tree f) ≡ true) ⊎ (has u.machine.joined f ≡ true)
  pub more : (f : ℕ) → has s.joins (fork_column s.machine.tree f) ≡ true → has u.joins (fork_column s.machine.tree f) ≡ true
  -- what the machine joins was open
  pub joined : (f : ℕ) → has u.machine.joined f ≡ true → (has s.machine.joined f ≡ true) ⊎ ((is_open s.machine f ≡ true) × (length u.machine.tree ≡ length s.machine.tree))
  -- and what it leaves of forks with columns, of splits and finishes, and of whose a node is
  pub wider : (f : ℕ) → f < length s.machine.tree → has_columns s f ≡ true → has_columns u f ≡ true
  pub cuts : (n : ℕ) → has s.cuts n ≡ true → has u.cuts n ≡ true
  pub finished : (x : ℕ) → has_finished s.machine x ≡ true → has_finished u.machine x ≡ true
  pub own : (n : ℕ) → n < length s.machine.tree → strand_of u.machine.tree n ≡ strand_of s.machine.tree n

-- the two facts
pub record IsOwing (s : SharedMoment) : Type 0 where
  pub joined : (f : ℕ) → has_columns s f ≡ true → has s.joins (fork_column s.machine.tree f) ≡ true → has s.machine.joined f ≡ true
  pub last : (f : ℕ) → is_owed s f ≡ true → has_later s.machine.tree f ≡ false

pub record Owed (s : SharedMoment) (f : ℕ) : Type 0 where
  pub wide : has_columns s f ≡ true
  pub joined : has s.machine.joined f ≡ true
  pub unmerged : has s.joins (fork_column s.machine.tree f) ≡ false

pub owed_is : (s : SharedMoment) (f : ℕ) → is_owed s f ≡ true → Owed s f
owed_is s f e =
    let z = and_parts (has_columns s f && has s.machine.joined f) (not (has s.joins (fork_column s.machine.tree f))) e in
    let y = and_parts (has_columns s f) (has s.machine.joined f) z.0 in
    record { wide = y.0; joined = y.1; unmerged = not-true (has s.joins (fork_column s.machine.tree f)) z.1 }

pub owed_from : (s : SharedMoment) (f : ℕ) → Owed s f → is_owed s f ≡ true
owed_from s f o =
    and_from (has_columns s f && has s.machine.joined f) (not (has s.joins (fork_column s.machine.tree f))) (and_from (has_columns s f) (has s.machine.joined f) o.wide o.joined) (not_from_false (has s.joins (fork_column s.machine.tree f)) o.unmerged)

pub owing_on : (s u : SharedMoment) → IsWell s.machine → IsPassed s u → IsOwing s → IsOwing u
owing_on s u w p o = record {
  joined = λ f wide e. elim (cases_lt f (length s.machine.tree)) [
    | inr le ↦ absurd (cc (e, (p.new f le wide).0))
    | inl h ↦
        (let z = p.old f h wide in
        elim (p.joins f z.0 (sym (ap (has u.joins) z.1) ∙ e)) [ inl was ↦ p.keeps f (o.joined f z.0 was) | inr now ↦ now ])
  ];
  last = λ f e. (
      let z = owed_is u f e in
      elim (cases_lt f (length s.machine.tree)) [
        | inr le ↦ absurd (cc (z.joined, (p.new f le z.wide).1))
        | inl h ↦ last_on f h z
      ]);
} where
  last_on : (f : ℕ) → f < length s.machine.tree → Owed u f → has_later u.machine.tree f ≡ false
  last_on f h z =
      let y = p.old f h z.wide in
      let fork = wide_fork s f y.0 in
      let some : 0 < f = fork_some s.machine.tree w.sound.tree.root f fork in
      let up : parent_of s.machine.tree f < f = w.sound.tree.rooted f some h in
      let unmerged : has s.joins (fork_column s.machine.tree f) ≡ false = false_from_ne_true (has s.joins (fork_column s.machine.tree f)) (λ e. absurd (cc (p.more f e, ap (has u.joins) y.1, z.unmerged))) in
      false_from_ne_true (has_later u.machine.tree f) (λ e.
      let q = any_in (λ k. nat_lt f k) (children u.machine.tree (parent_of u.machine.tree f)) e in
      let c = child_is u.machine.tree (parent_of u.machine.tree f) q.0 q.1 in
      let less : f < q.0 = ltb-true f q.0 q.2 in
      let same : parent_of s.machine.tree f ≡ parent_of u.machine.tree q.0 = sym (p.parents f h) ∙ sym c.parent in
      elim (p.joined f z.joined) [
        | inl was ↦
            (let owed = owed_from s f (record { wide = y.0; joined = was; unmerged = unmerged }) in
            elim (cases_lt q.0 (length s.machine.tree)) [
              | inl low ↦ absurd (cc (o.last f owed, later s f q.0 c.some less low (same ∙ p.parents q.0 low)))
              | inr le ↦ elim (p.fresh q.0 le c.there) [
                | inl high ↦ absurd (omega (arith, same))
                | inr none ↦ absurd (cc (owed, none f some h same))
              ]
            ])
        | inr now ↦
            (let low : q.0 < length s.machine.tree = (let there = c.there in omega (arith, now.1)) in
            let place_same : parent_of s.machine.tree f ≡ parent_of s.machine.tree q.0 = same ∙ p.parents q.0 low in
            absurd (cc (now.0, w.nested.last f q.0 some less low place_same (over_no_fork f some h fork))))
      ]) where
        over_no_fork : (f : ℕ) → 0 < f → f < length s.machine.tree → is_fork s.machine.tree f ≡ true → is_fork s.machine.tree (parent_of s.machine.tree f) ≡ false
        over_no_fork f some h fork = false_from_ne_true (is_fork s.machine.tree (parent_of s.machine.tree f)) (λ e. absurd (cc (fork_child s.machine.tree w.sound.tree f some h e, fork_no_strand s.machine.tree f fork)))

-- nothing of this is about other fields
pub other_fields : (s u : SharedMoment) (lists : List (List ℕ)) (clock : ℕ) (conflicts : List Conflict) (stopped words : List ℕ) → IsPassed s u
    → IsPassed s (record u { machine = record u.machine { lists = lists; clock = clock; conflicts = conflicts; stopped = stopped }; words = words })
other_fields s u lists clock conflicts stopped words p = record { longer = p.longer; parents = p.parents; fresh = p.fresh; old = p.old; new = p.new; keeps = p.keeps; joins = p.joins; more = p.more; joined = p.joined; wider = p.wider; cuts = p.cuts; finished = p.finished; own = p.own }

-- ## Steps that make no node

pub same_nodes : (s u : SharedMoment) → length u.machine.tree ≡ length s.machine.tree → ((n : ℕ) → parent_of u.machine.tree n ≡ parent_of s.machine.tree n)
    → ((f : ℕ) → has_columns u f ≡ true → (has_columns s f ≡ true) × (fork_column u.machine.tree f ≡ fork_column s.machine.tree f))
    → ((f : ℕ) → has s.machine.joined f ≡ true → has u.machine.joined f ≡ true)
    → ((f : ℕ) → has_columns s f ≡ true → has u.joins (fork_column s.machine.tree f) ≡ true → (has s.joins (fork_column s.machine.tree f) ≡ true) ⊎ (has u.machine.joined f ≡ true))
    → ((f : ℕ) → has s.joins (fork_column s.machine.tree f) ≡ true → has u.joins (fork_column s.machine.tree f) ≡ true)
    → ((f : ℕ) → has u.machine.joined f ≡ true → (has s.machine.joined f ≡ true) ⊎ (is_open s.machine f ≡ true))
    → ((f : ℕ) → has_columns s f ≡ true → has_columns u f ≡ true) → ((n : ℕ) → has s.cuts n ≡ true → has u.cuts n ≡ true) → ((x : ℕ) → has_finished s.machine x ≡ true → has_finished u.machine x ≡ true)
    → ((n : ℕ) → n < length s.machine.tree → strand_of u.machine.tree n ≡ strand_of s.machine.tree n) → IsPassed s u
same_nodes s u len parents old keeps joins more joined wider cuts finished own = record {
  longer = omega (arith, len);
  parents = λ n h. parents n;
  fresh = λ k le h. absurd (omega (arith, len));
  old = λ f h e. old f e;
  new = λ f le e. absurd (let h = fork_there u.machine.tree f (wide_fork u f e) in omega (arith, len));
  keeps = keeps;
  joins = joins;
  more = more;
  joined = λ f e. elim (joined f e) [ inl was ↦ inl was | inr now ↦ inr (now, len) ];
  wider = λ f h e. wider f e;
  cuts = cuts;
  finished = finished;
  own = own;
}

-- ## Steps that make nodes

module _ (s : SharedMoment) (w : IsWell s.machine) (xs : List Node) (d : ColumnTable)
    (wide : (n : ℕ) → (is_fork s.machine.tree n && nat_lt (fork_column s.machine.tree n + 1) (used d)) ≡ (is_fork s.machine.tree n && nat_lt (fork_column s.machine.tree n + 1) (used s.columns))) where
  abbrev t : List Node
  t = s.machine.tree

  abbrev u : SharedMoment
  u = record s { machine = record s.machine { tree = s.machine.tree ++ xs }; columns = d }

  columns_old : (f : ℕ) → f < length t → has_columns u f ≡ has_columns s f
  columns_old f h =
      ap (λ b. b && nat_lt (fork_column (t ++ xs) f + 1) (used d)) (node_grown t xs (λ y. is_fork_kind y.kind) f h)
      ∙ ap (λ k. is_fork t f && nat_lt (k + 1) (used d)) (fork_column_append t xs w.sound.tree.rooted 0 f (omega arith))
      ∙ wide f

  pub grown : ((k : ℕ) → length s.machine.tree ≤ k → k < length (s.machine.tree ++ xs) → (length s.machine.tree ≤ parent_of (s.machine.tree ++ xs) k) ⊎ ((f : ℕ) → 0 < f → f < length s.machine.tree → parent_of s.machine.tree f ≡ parent_of (s.machine.tree ++ xs) k → is_owed s f ≡ false))
      → ((f : ℕ) → length s.machine.tree ≤ f → is_fork (s.machine.tree ++ xs) f ≡ true → has s.joins (fork_column (s.machine.tree ++ xs) f) ≡ false)
      → IsPassed s (record s { machine = record s.machine { tree = s.machine.tree ++ xs }; columns = d })
  grown fresh new = record {
    longer = omega (arith, length-append t xs);
    parents = λ n h. number_grown t xs (λ y. y.parent) n h;
    fresh = fresh;
    old = λ f h e. (sym (columns_old f h) ∙ e, fork_column_append t xs w.sound.tree.rooted 0 f (omega arith));
    new = λ f le e. (new f le (wide_fork u f e), false_from_ne_true (has s.machine.joined f) (λ j. absurd (let h = w.joined f j in omega arith)));
    keeps = λ f e. e;
    joins = λ f h e. inl e;
    more = λ f e. e;
    joined = λ f e. inl e;
    wider = λ f h e. columns_old f h ∙ e;
    cuts = λ n e. e;
    finished = λ x e. e;
    own = λ n h. strand_of_grown t xs w.sound.tree.rooted n h;
  }
