-- Which nodes are open after each step.
use Rattle.std.proofs.Common.{◌≡◌, ◌≢◌, ℕ, ◌+◌, ◌<◌, ◌≤◌, List, [], ◌∷◌, ◌++◌, length, refl, ap, sym, ◌∙◌, arith, Bool, true, false, cond, inl, inr, nat_lt, nat_eq, length-append}
use Rattle.std.specs.Prelude.{◌&&◌, ◌||◌, not}
use Rattle.std.proofs.lemmas.Bool.{and_parts, and_from, and_left, and_right, or_cases, or_from, or_left, or_right, not-true, not_from_false, not_from_true, false_from_ne_true, cases_Bool, cases_lt, cases_eq, lt-ltb, eq-eqb, ne_eqb, eqb-true}
use Rattle.cw_tree.specs.declared.node.Node.{Node}
use Rattle.cw_tree.specs.declared.node.BlockState.{BlockState}
use Rattle.cw_tree.specs.Nodes.{is_strand_kind, is_fork_kind, is_block_kind, is_pending_state, is_strand, is_fork, is_pending, closed}
use Rattle.cw_tree.specs.Walks.{IsRooted, has}
use Rattle.cw_tree.proofs.NextNodes.Growing.{node_grown, node_new}
use Rattle.cw_tree.proofs.NextNodes.Closing.{node_closed}
use Rattle.cw_tree.proofs.NextNodes.Pending.{pending_stays, pending_closed}
use Rattle.cw_tree.proofs.Walks.There.{fork_there, strand_there, pending_there}
use Rattle.cw_tree.proofs.NodeKinds.{strand_no_block, fork_no_strand, fork_no_block, pending_block}
use Rattle.cw_trace.specs.Columns.{ColumnTable, used}
use Rattle.cw_trace.specs.Stands.{fork_column}
use Rattle.cw_trace.specs.OrderedRuns.{opens, shuts}
use Rattle.cw_trace.proofs.Stands.Counting.{fork_column_one, pending_no_fork}
use Rattle.cw_trace.proofs.Keeps.Grow.{fork_column_append}
use Rattle.cw_trace.proofs.Keeps.Ending.{fork_column_same}
use Rattle.cw_trace.proofs.Keeps.TierLaws.{closed_shape}
use Rattle.cw_open.specs.Machine.{OpenMachine, has_finished}
use Rattle.cw_open.specs.Open.{is_open}
use Rattle.cw_open.proofs.Open.Trees.{open_more}
use Rattle.cw_open.proofs.Open.Kinds.{finished_shut}
use Rattle.cw_hands.specs.Shared.{SharedMoment, has_columns, is_open_yet}
use Rattle.cw_hands.proofs.Shared.Order.{at_wide, at_no_fork, at_other, wide_fork}

-- ## Two tests of nodes

pub opens_old : (n : ℕ) (new f : ℕ → Bool) (k : ℕ) → k < n → opens n new f k ≡ f k
opens_old n new f k h = ap (λ b. cond b (f k) (new k)) (lt-ltb k n h)

pub opens_new : (n : ℕ) (new f : ℕ → Bool) (k : ℕ) → n ≤ k → opens n new f k ≡ new k
opens_new n new f k le = ap (λ b. cond b (f k) (new k)) (false_from_ne_true (nat_lt k n) (λ e. absurd (let h : k < n = Rattle.std.proofs.lemmas.Bool.ltb-true k n e in omega arith)))

pub shuts_here : (q : ℕ) (f : ℕ → Bool) (k : ℕ) → k ≡ q → shuts q f k ≡ false
shuts_here q f k e = ap (λ b. cond b false (f k)) (eq-eqb k q e)

pub shuts_else : (q : ℕ) (f : ℕ → Bool) (k : ℕ) → k ≢ q → shuts q f k ≡ f k
shuts_else q f k ne = ap (λ b. cond b false (f k)) (ne_eqb k q ne)

-- what is open is there
open_there : (m : OpenMachine) (n : ℕ) → is_open m n ≡ true → n < length m.tree
open_there m n e = elim (or_cases (is_strand m.tree n && not (has_finished m n) || is_fork m.tree n && not (has m.joined n)) (is_pending m.tree n) e) [
  | inr z ↦ pending_there m.tree n z
  | inl z ↦ elim (or_cases (is_strand m.tree n && not (has_finished m n)) (is_fork m.tree n && not (has m.joined n)) z) [
    | inl y ↦ strand_there m.tree n (and_parts (is_strand m.tree n) (not (has_finished m n)) y).0
    | inr y ↦ fork_there m.tree n (and_parts (is_fork m.tree n) (not (has m.joined n)) y).0
  ]
]

open_yet_there : (s : SharedMoment) (n : ℕ) → is_open_yet s n ≡ true → n < length s.machine.tree
open_yet_there s n e = elim (cases_Bool (has_columns s n)) [
  | inl on ↦ fork_there s.machine.tree n (wide_fork s n on)
  | inr off ↦ open_there s.machine n (sym (at_other s n off) ∙ e)
]

pub shut_past : (s : SharedMoment) (n : ℕ) → length s.machine.tree ≤ n → is_open_yet s n ≡ false
shut_past s n le = false_from_ne_true (is_open_yet s n) (λ e. absurd (let h = open_yet_there s n e in omega arith))

module _ (s : SharedMoment) (r : IsRooted s.machine.tree) where
  abbrev m : OpenMachine
  m = s.machine

  abbrev t : List Node
  t = s.machine.tree

  abbrev c : ColumnTable
  c = s.columns

  -- ## More nodes

  module _ (xs : List Node) (d : ColumnTable)
      (wide : (n : ℕ) → (is_fork s.machine.tree n && nat_lt (fork_column s.machine.tree n + 1) (used d)) ≡ (is_fork s.machine.tree n && nat_lt (fork_column s.machine.tree n + 1) (used s.columns))) where
    abbrev grown : SharedMoment
    grown = record s { machine = record s.machine { tree = s.machine.tree ++ xs }; columns = d }

    pub open_old : (n : ℕ) → n < length s.machine.tree → is_open_yet (record s { machine = record s.machine { tree = s.machine.tree ++ xs }; columns = d }) n ≡ is_open_yet s n
    open_old n h =
        ap (λ b. cond (b && nat_lt (fork_column (t ++ xs) n + 1) (used d)) (not (has s.joins (fork_column (t ++ xs) n))) (is_open grown.machine n)) (node_grown t xs (λ y. is_fork_kind y.kind) n h)
        ∙ ap (λ k. cond (is_fork t n && nat_lt (k + 1) (used d)) (not (has s.joins k)) (is_open grown.machine n)) (fork_column_append t xs r 0 n (omega arith))
        ∙ ap (λ b. cond b (not (has s.joins (fork_column t n))) (is_open grown.machine n)) (wide n)
        ∙ ap (λ b. cond (has_columns s n) (not (has s.joins (fork_column t n))) b) (open_more m xs n h)

    pub opens_so : (new : ℕ → Bool) → ((n : ℕ) → length s.machine.tree ≤ n → is_open_yet (record s { machine = record s.machine { tree = s.machine.tree ++ xs }; columns = d }) n ≡ new n)
        → (n : ℕ) → opens (length s.machine.tree) new (is_open_yet s) n ≡ is_open_yet (record s { machine = record s.machine { tree = s.machine.tree ++ xs }; columns = d }) n
    opens_so new f n = elim (cases_lt n (length t)) [
      | inl h ↦ opens_old (length t) new (is_open_yet s) n h ∙ sym (open_old n h)
      | inr le ↦ opens_new (length t) new (is_open_yet s) n le ∙ sym (f n le)
    ]

  -- one node that is neither strand nor fork
  module _ (x : Node) (ns : is_strand_kind x.kind ≡ false) (nf : is_fork_kind x.kind ≡ false) where
    abbrev one : SharedMoment
    one = record s { machine = record s.machine { tree = s.machine.tree ++ x ∷ [] } }

    no_fork_new : is_fork (t ++ x ∷ []) (length t) ≡ false
    no_fork_new = node_new t x (λ y. is_fork_kind y.kind) ∙ nf

    pub open_new : is_open_yet (record s { machine = record s.machine { tree = s.machine.tree ++ x ∷ [] } }) (length s.machine.tree) ≡ (is_block_kind x.kind && is_pending_state x.state)
    open_new =
        at_no_fork one (length t) no_fork_new
        ∙ ap (λ b. (b && not (has_finished m (length t))) || (is_fork (t ++ x ∷ []) (length t) && not (has m.joined (length t))) || is_pending (t ++ x ∷ []) (length t)) (node_new t x (λ y. is_strand_kind y.kind) ∙ ns)
        ∙ ap (λ b. (b && not (has m.joined (length t))) || is_pending (t ++ x ∷ []) (length t)) no_fork_new
        ∙ node_new t x (λ y. is_block_kind y.kind && is_pending_state y.state)

    pub leaf_opens : (new : ℕ → Bool) → new (length s.machine.tree) ≡ (is_block_kind x.kind && is_pending_state x.state) → ((n : ℕ) → length s.machine.tree < n → new n ≡ false)
        → (n : ℕ) → opens (length s.machine.tree) new (is_open_yet s) n ≡ is_open_yet (record s { machine = record s.machine { tree = s.machine.tree ++ x ∷ [] } }) n
    leaf_opens new here past = opens_so (x ∷ []) s.columns (λ n. refl) new (λ n le. elim (cases_eq n (length t)) [
      | inl e ↦ ap (is_open_yet one) e ∙ open_new ∙ sym here ∙ sym (ap new e)
      | inr ne ↦ shut_past one n (omega (arith, ne, length-append t (x ∷ []))) ∙ sym (past n (omega (arith, ne)))
    ])

  -- ## A block is closed

  module _ (q end : ℕ) (state : BlockState) (pending : is_pending s.machine.tree q ≡ true) (done : is_pending_state state ≡ false) where
    abbrev v : List Node
    v = closed t q state end

    abbrev shut : SharedMoment
    shut = record s { machine = record s.machine { tree = closed s.machine.tree q state end } }

    fork_same : (n : ℕ) → is_fork v n ≡ is_fork t n
    fork_same n = node_closed t q state end (λ y. is_fork_kind y.kind) (λ y. refl) n

    strand_same : (n : ℕ) → is_strand v n ≡ is_strand t n
    strand_same n = node_closed t q state end (λ y. is_strand_kind y.kind) (λ y. refl) n

    fork_not : is_fork v q ≡ false
    fork_not = fork_same q ∙ pending_no_fork t q pending

    strand_not : is_strand v q ≡ false
    strand_not = strand_same q ∙ false_from_ne_true (is_strand t q) (λ e. absurd (cc (pending_block t q pending, strand_no_block t q e)))

    here : is_open_yet shut q ≡ false
    here =
        at_no_fork shut q fork_not
        ∙ or_from ((is_strand v q && not (has_finished m q)) || (is_fork v q && not (has m.joined q))) (is_pending v q)
        (or_from (is_strand v q && not (has_finished m q)) (is_fork v q && not (has m.joined q)) (and_left (is_strand v q) (not (has_finished m q)) strand_not) (and_left (is_fork v q) (not (has m.joined q)) fork_not))
        (false_from_ne_true (is_pending v q) (λ e. (pending_closed t q state end done q e).0 refl))

    else_same : (n : ℕ) → n ≢ q → is_open_yet shut n ≡ is_open_yet s n
    else_same n ne =
        ap (λ b. cond (b && nat_lt (fork_column v n + 1) (used c)) (not (has s.joins (fork_column v n))) (is_open shut.machine n)) (fork_same n)
        ∙ ap (λ k. cond (is_fork t n && nat_lt (k + 1) (used c)) (not (has s.joins k)) (is_open shut.machine n)) (fork_column_same t v r (closed_shape t q state end) n)
        ∙ ap (λ b. cond (has_columns s n) (not (has s.joins (fork_column t n))) b)
        (ap (λ b. (b && not (has_finished m n)) || (is_fork v n && not (has m.joined n)) || is_pending v n) (strand_same n)
        ∙ ap (λ b. (is_strand t n && not (has_finished m n)) || (b && not (has m.joined n)) || is_pending v n) (fork_same n)
        ∙ ap (λ b. (is_strand t n && not (has_finished m n)) || (is_fork t n && not (has m.joined n)) || b) (pending_stays t q state end n ne))

    pub close_shuts : (n : ℕ) → shuts q (is_open_yet s) n ≡ is_open_yet (record s { machine = record s.machine { tree = closed s.machine.tree q state end } }) n
    close_shuts n = elim (cases_eq n q) [ inl e ↦ shuts_here q (is_open_yet s) n e ∙ sym (ap (is_open_yet shut) e ∙ here) | inr ne ↦ shuts_else q (is_open_yet s) n ne ∙ sym (else_same n ne) ]

-- ## A strand finishes

module _ (s : SharedMoment) (x : ℕ) (dead : Bool) (strand : is_strand s.machine.tree x ≡ true) where
  abbrev ended : SharedMoment
  ended = record s { machine = record s.machine { finished = (x, dead) ∷ s.machine.finished } }

  pub finish_shuts : (n : ℕ) → shuts x (is_open_yet s) n ≡ is_open_yet (record s { machine = record s.machine { finished = (x, dead) ∷ s.machine.finished } }) n
  finish_shuts n = elim (cases_eq n x) [
    | inl e ↦ shuts_here x (is_open_yet s) n e ∙ sym (ap (is_open_yet ended) e ∙ at_no_fork ended x (false_from_ne_true (is_fork s.machine.tree x) (λ f. absurd (cc (strand, fork_no_strand s.machine.tree x f)))) ∙ finished_shut ended.machine x strand (or_left (nat_eq x x) (has_finished s.machine x) (eq-eqb x x refl)))
    | inr ne ↦ shuts_else x (is_open_yet s) n ne
        ∙ ap (λ q. cond (has_columns s n) (not (has s.joins (fork_column s.machine.tree n))) ((is_strand s.machine.tree n && not (q || has_finished s.machine n)) || (is_fork s.machine.tree n && not (has s.machine.joined n)) || is_pending s.machine.tree n)) (sym (ne_eqb x n (λ e. ne (sym e))))
  ]

-- ## A fork is joined

module _ (s : SharedMoment) (f : ℕ) (fork : is_fork s.machine.tree f ≡ true) where
  abbrev joined_at : List ℕ → SharedMoment
  joined_at js = record s { machine = record s.machine { joined = f ∷ s.machine.joined }; joins = js }

  -- for the machine alone
  shut_in_machine : is_open (record s.machine { joined = f ∷ s.machine.joined }) f ≡ false
  shut_in_machine =
      or_from (is_strand s.machine.tree f && not (has_finished s.machine f) || is_fork s.machine.tree f && not (nat_eq f f || has s.machine.joined f)) (is_pending s.machine.tree f)
      (or_from (is_strand s.machine.tree f && not (has_finished s.machine f)) (is_fork s.machine.tree f && not (nat_eq f f || has s.machine.joined f)) (and_left (is_strand s.machine.tree f) _ (fork_no_strand s.machine.tree f fork))
      (and_right (is_fork s.machine.tree f) _ (not_from_true _ (or_left (nat_eq f f) (has s.machine.joined f) (eq-eqb f f refl)))))
      (false_from_ne_true (is_pending s.machine.tree f) (λ e. absurd (cc (fork_no_block s.machine.tree f fork, pending_block s.machine.tree f e))))

  open_else : (n : ℕ) → n ≢ f → is_open (record s.machine { joined = f ∷ s.machine.joined }) n ≡ is_open s.machine n
  open_else n ne = ap (λ q. (is_strand s.machine.tree n && not (has_finished s.machine n)) || (is_fork s.machine.tree n && not (q || has s.machine.joined n)) || is_pending s.machine.tree n) (ne_eqb f n (λ e. ne (sym e)))

  -- an inline fork
  pub inline_shuts : has_columns s f ≡ false → (n : ℕ) → shuts f (is_open_yet s) n ≡ is_open_yet (record s { machine = record s.machine { joined = f ∷ s.machine.joined } }) n
  inline_shuts bare n = elim (cases_eq n f) [
    | inl e ↦ shuts_here f (is_open_yet s) n e ∙ sym (ap (is_open_yet (joined_at s.joins)) e ∙ at_other (joined_at s.joins) f bare ∙ shut_in_machine)
    | inr ne ↦ shuts_else f (is_open_yet s) n ne ∙ ap (λ b. cond (has_columns s n) (not (has s.joins (fork_column s.machine.tree n))) b) (sym (open_else n ne))
  ]

  -- one that is split: it stays open
  pub join_leaves : has_columns s f ≡ true → (n : ℕ) → is_open_yet s n ≡ is_open_yet (record s { machine = record s.machine { joined = f ∷ s.machine.joined } }) n
  join_leaves wide n = elim (cases_eq n f) [
    | inl e ↦ ap (is_open_yet s) e ∙ at_wide s f wide ∙ sym (at_wide (joined_at s.joins) f wide) ∙ sym (ap (is_open_yet (joined_at s.joins)) e)
    | inr ne ↦ ap (λ b. cond (has_columns s n) (not (has s.joins (fork_column s.machine.tree n))) b) (sym (open_else n ne))
  ]

  -- ## For the tier, with whatever columns

  other_joins : (n : ℕ) → n ≢ f → is_fork s.machine.tree n ≡ true → has (fork_column s.machine.tree f ∷ s.joins) (fork_column s.machine.tree n) ≡ has s.joins (fork_column s.machine.tree n)
  other_joins n ne is =
      ap (λ b. b || has s.joins (fork_column s.machine.tree n)) (ne_eqb (fork_column s.machine.tree f) (fork_column s.machine.tree n) (λ e. ne (sym (fork_column_one s.machine.tree f n fork is e))))

  module _ (js : List ℕ) (d : ColumnTable) (same : used d ≡ used s.columns) (wide : has_columns s f ≡ true)
      (else_open : (n : ℕ) → n ≢ f → is_open (record s.machine { joined = js }) n ≡ is_open s.machine n) where
    abbrev put : SharedMoment
    put = record s { machine = record s.machine { joined = js }; columns = d; joins = fork_column s.machine.tree f ∷ s.joins }

    wide_put : (n : ℕ) → has_columns put n ≡ has_columns s n
    wide_put n = ap (λ k. is_fork s.machine.tree n && nat_lt (fork_column s.machine.tree n + 1) k) same

    pub put_shuts : (n : ℕ) → shuts f (is_open_yet s) n ≡ is_open_yet (record s { machine = record s.machine { joined = js }; columns = d; joins = fork_column s.machine.tree f ∷ s.joins }) n
    put_shuts n = elim (cases_eq n f) [
      | inl e ↦ shuts_here f (is_open_yet s) n e
          ∙ sym (ap (is_open_yet put) e ∙ at_wide put f (wide_put f ∙ wide) ∙ not_from_true (has (fork_column s.machine.tree f ∷ s.joins) (fork_column s.machine.tree f)) (or_left (nat_eq (fork_column s.machine.tree f) (fork_column s.machine.tree f)) (has s.joins (fork_column s.machine.tree f)) (eq-eqb (fork_column s.machine.tree f) (fork_column s.machine.tree f) refl)))
      | inr ne ↦ shuts_else f (is_open_yet s) n ne ∙ elim (cases_Bool (has_columns s n)) [
        | inl on ↦ at_wide s n on ∙ ap not (sym (other_joins n ne (wide_fork s n on))) ∙ sym (at_wide put n (wide_put n ∙ on))
        | inr off ↦ at_other s n off ∙ sym (else_open n ne) ∙ sym (at_other put n (wide_put n ∙ off))
      ]
    ]

  -- a fork that is not split
  pub whole_shuts : has_columns s f ≡ true → (n : ℕ) → shuts f (is_open_yet s) n ≡ is_open_yet (record s { machine = record s.machine { joined = f ∷ s.machine.joined }; joins = fork_column s.machine.tree f ∷ s.joins }) n
  whole_shuts wide = put_shuts (f ∷ s.machine.joined) s.columns refl wide open_else

  -- a merge
  pub merge_shuts : (d : ColumnTable) → used d ≡ used s.columns → has_columns s f ≡ true → (n : ℕ) → shuts f (is_open_yet s) n ≡ is_open_yet (record s { columns = d; joins = fork_column s.machine.tree f ∷ s.joins }) n
  merge_shuts d same wide = put_shuts s.machine.joined d same wide (λ n ne. refl)

-- ## Other columns

pub split_leaves : (s : SharedMoment) (d : ColumnTable) (cuts : List ℕ) → used d ≡ used s.columns → (n : ℕ) → is_open_yet s n ≡ is_open_yet (record s { columns = d; cuts = cuts }) n
split_leaves s d cuts same n = ap (λ k. cond (is_fork s.machine.tree n && nat_lt (fork_column s.machine.tree n + 1) k) (not (has s.joins (fork_column s.machine.tree n))) (is_open s.machine n)) (sym same)
