-- What a record of strands keeps that never want a fork has none; so a record has a fork only where its source has a `spawn`.
use Rattle.std.proofs.Common.{◌≡◌, ℕ, zero, suc, ◌<◌, Bool, true, false, List, [], ◌∷◌, length, ap, sym, ◌∙◌, refl, subst, arith, inl, inr}
use Rattle.std.specs.Prelude.{◌||◌, if◌then◌else◌, IsTrue}
use Rattle.std.proofs.lemmas.Bool.{false_from_ne_true}
use Rattle.cw_code.specs.declared.instruction.Code.{Code}
use Rattle.cw_strand.specs.declared.want.Given.TheVariants.{Nothing, Value, Back}
use Rattle.cw_strand.specs.Strands as strands
use Rattle.cw_strand.specs.Strands.{Strands}
use Rattle.cw_tree.specs.declared.node.Node.{Node}
use Rattle.cw_tree.specs.declared.node.Kind.{Kind}
use Rattle.cw_tree.specs.declared.node.Kind.TheVariants.{Strand, Fork, Block, Read, Write, Out, Cancel, Tried}
use Rattle.cw_tree.specs.declared.node.BlockState.{BlockState}
use Rattle.cw_tree.specs.declared.node.BlockState.TheVariants.{Pending, Committed, Aborted}
use Rattle.cw_tree.specs.Nodes.{parent_of, passes, is_strand, is_fork, is_block, is_strand_kind, is_fork_kind}
use Rattle.cw_tree.specs.Series.{children}
use Rattle.cw_tree.specs.Shape.{IsTree}
use Rattle.cw_tree.proofs.Walks.There.{node_there}
use Rattle.cw_tree.proofs.Lists.{In}
use Rattle.cw_tree.proofs.InOrder.DepthFirst.{child_is, child_in}
use Rattle.cw_job.specs.Room.Strands.{strands_of_job}
use Rattle.cw_serial.proofs.Numbers.{get_some}
use Rattle.cw_record.specs.Coherent.{InSeries, IsWanted, Follows, entered}
use Rattle.cw_record.specs.Records.{job_of_record}
use Rattle.cw_replay.specs.OverSource.{ForksNeedSpawns}
use Rattle.cw_replay.specs.Spawning.{any_spawns}
use Rattle.cw_replay.proofs.Spawning.ForkCode.{NoFork, code_none}
use Rattle.cw_replay.proofs.Spawning.NeverForking.{NeverForks, never_forks}

module _ {A : Type 0} (s : Strands A) (never : NeverForks s) (t : List Node) (tree : IsTree t) (before after reached : ℕ → A) (follows : Follows s t before after reached) where
  -- no fork is wanted here
  abbrev Plain : A → Type 0
  Plain a = strands.wants_fork (s.want a) ≡ false

  -- a node before which no fork is wanted is none
  no_fork : (f : ℕ) → Plain (before f) → is_fork t f ≡ true → ⊥
  no_fork f plain e =
      let x = get_some t f (node_there (λ x. is_fork_kind x.kind) t f e) in
      by x.0.kind x.0.state (sym (ap (passes (λ x. is_fork_kind x.kind)) x.1) ∙ e) (follows.fits f x.0 x.1)
    where
      by : (k : Kind) (z : BlockState) → is_fork_kind k ≡ true → IsWanted s t before after reached f k z → ⊥
      by Fork z e w = absurd (cc (plain, ap strands.wants_fork w.0))
      by _ z e w = absurd (cc e)

  -- behind a node that is no strand none is wanted, where none was before it
  behind : (c : ℕ) → c < length t → is_strand t c ≡ false → Plain (before c) → Plain (after c)
  behind c h none plain =
      let x = get_some t c h in
      by x.0.kind x.0.state (sym (ap (passes (λ x. is_strand_kind x.kind)) x.1) ∙ none) (follows.fits c x.0 x.1)
    where
      by : (k : Kind) (z : BlockState) → is_strand_kind k ≡ false → IsWanted s t before after reached c k z → Plain (after c)
      by Strand z e w = absurd (cc e)
      by Fork z e w = absurd (cc (plain, ap strands.wants_fork w.0))
      by Block Pending e w = subst Plain (sym w.1) plain
      by Block Committed e w = let ends = w.1 in subst Plain (sym ends.1) (never.answer (reached c) Nothing)
      by Block Aborted e w = subst Plain (sym w.1) plain
      by (Read d v) z e w = subst Plain (sym w.1) (never.answer (before c) (Value v))
      by (Write d v) z e w = subst Plain (sym w.1) (never.answer (before c) Nothing)
      by (Out v) z e w = subst Plain (sym w.1) (never.answer (before c) Nothing)
      by (Cancel back) z e w = subst Plain (sym w.1) (never.answer (before c) (Back back))
      by (Tried d) z e w = subst Plain (sym w.1) plain

  -- none is wanted between nodes in series, where none is wanted before the first
  in_series : (ns : List ℕ) (a b : A) → InSeries before after a ns b → Plain a → ((c : ℕ) → In c ns → Plain (before c) → Plain (after c)) → (n : ℕ) → In n ns → Plain (before n)
  in_series [] a b l plain on n h = absurd h
  in_series (c ∷ ns) a b l plain on n (inl e) = subst (λ m. Plain (before m)) (sym e) (subst Plain (sym l.0) plain)
  in_series (c ∷ ns) a b l plain on n (inr h) = in_series ns (after c) b l.1 (on c (inl refl) (subst Plain (sym l.0) plain)) (λ d i. on d (inr i)) n h

  by_kinds : (x y z : Bool) → (x || y || z) ≡ true → y ≡ false → (x || z) ≡ true
  by_kinds true y z o none = refl
  by_kinds false true z o none = absurd (cc none)
  by_kinds false false z o none = o

  plain_below : (k n : ℕ) → n < k → n < length t → Plain (before n)
  plain_below zero n low h = absurd (omega arith)
  plain_below (suc k) zero low h = subst Plain (sym follows.start) never.start
  plain_below (suc k) (suc n) low h =
      let q = parent_of t (suc n) in
      let up : q < suc n = tree.rooted (suc n) (omega arith) h in
      let there : q < length t = omega arith in
      let plain : Plain (before q) = plain_below k q (omega arith) there in
      let none : is_fork t q ≡ false = false_from_ne_true (is_fork t q) (no_fork q plain) in
      let places : (is_strand t q || is_block t q) ≡ true = by_kinds (is_strand t q) (is_fork t q) (is_block t q) (tree.parents (suc n) h (omega arith)) none in
      let on : (c : ℕ) → In c (children t q) → Plain (before c) → Plain (after c) = λ c i p.
      let k = child_is t q c i in
      behind c k.there (false_from_ne_true (is_strand t c) (λ e. absurd (cc (none, ap (is_fork t) (sym k.parent) ∙ tree.strands c k.there k.some e)))) p in
      in_series (children t q) (entered s t before after reached q) (reached q) (follows.series q there places) (enter (is_block t q) q plain) on (suc n) (child_in t q (suc n) (record { some = omega arith; there = h; parent = refl }))
    where
      enter : (b : Bool) (q : ℕ) → Plain (before q) → Plain (if b then s.answer (before q) Nothing else before q)
      enter true q plain = never.answer (before q) Nothing
      enter false q plain = plain

  pub none_forked : (f : ℕ) → is_fork t f ≡ true → ⊥
  none_forked f e = no_fork f (plain_below (suc f) f (omega arith) (node_there (λ x. is_fork_kind x.kind) t f e)) e

pub forks_need_spawns : ForksNeedSpawns
unfolding strands_of_job
forks_need_spawns ds r is coherent f fork = by_spawns (any_spawns ds) refl
  where
    by_spawns : (b : Bool) → any_spawns ds ≡ b → IsTrue b
    by_spawns true e = refl
    by_spawns false e =
        let none : NoFork r.program.code.instrs = subst (λ (c : Code). NoFork c.instrs) (sym is.code) (code_none ds e) in
        let (before, after, reached, follows, stands) = coherent.strands in
        absurd (none_forked (strands_of_job (job_of_record r)) (never_forks r.program.code none r.program.main r.words r.limits) r.tree coherent.history.tree before after reached follows f fork)
