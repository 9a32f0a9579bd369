-- What the strands of a record had to do, as work, and what each node of its tree is.
use Rattle.std.proofs.Common.{◌≡◌, ℕ, suc, zero, ◌<◌, List, [], ◌∷◌, length, ap, sym, ◌∙◌, true, false, cond, Option, Some, None, inl, inr, subst}
use Rattle.std.specs.Prelude.{slice_get}
use Rattle.std.proofs.lemmas.Bool.{and_parts, cases_Bool}
use Rattle.cw_strand.specs.declared.want.Want.TheVariants as want
use Rattle.cw_strand.specs.declared.want.Given.TheVariants.{Nothing}
use Rattle.cw_strand.specs.Strands.{Strands}
use Rattle.cw_tree.specs.declared.node.Node.{Node}
use Rattle.cw_tree.specs.declared.node.Kind.{Kind}
use Rattle.cw_tree.specs.declared.node.Kind.TheVariants.{Strand, Fork, Block, Read, Write, Out, Cancel, Tried}
use Rattle.cw_tree.specs.declared.node.BlockState.{BlockState}
use Rattle.cw_tree.specs.declared.node.BlockState.TheVariants.{Pending, Committed, Aborted}
use Rattle.cw_tree.specs.Nodes.{is_strand}
use Rattle.cw_tree.specs.Series.{children}
use Rattle.cw_serial.proofs.Numbers.{get_some}
use Rattle.cw_record.specs.declared.items.OrderItem.TheVariants.{Begins, Does, Ends}
use Rattle.cw_record.specs.Coherent.{IsWanted, IsForkOf}
use Rattle.cw_replay.proofs.RecordsReplay.Work.Work.{Work, nil, act, split, Doing}
use Rattle.cw_replay.proofs.RecordsReplay.Machine.Acts.{Act, item, stop, wanted_kind, wanted_node, wanted_item, given_kind, given_node, given_item, doing}
use Rattle.cw_replay.proofs.RecordsReplay.Tasks.Accounts.{Account, Stop}
use Rattle.cw_replay.proofs.RecordsReplay.Tasks.Sorts as sorts
use Rattle.cw_replay.proofs.RecordsReplay.Tasks.Sorts.{IsSort, sort_of, sort_at}

-- ## The work

abbrev pub works : (ℕ → Work Act → Work Act) → List ℕ → Work Act → Work Act
works f [] w = w
works f (c ∷ cs) w = f c (works f cs w)

abbrev pub both : (ℕ → Work Act) → List ℕ → Work Act → Work Act
both f (l ∷ r ∷ []) w = split (f l) (f r) w
both f cs w = w

module _ (z : Stop) where
  -- behind all that stands right in node n, a strand may stop
  abbrev pub stopping : ℕ → Work Act → Work Act
  stopping n w = cond (z.at n) (act (stop n) w) w

  -- the work of a node, given the work inside it, what each strand of it does, and its children
  abbrev pub work_kind : (Work Act → Work Act) → (ℕ → Work Act) → List ℕ → ℕ → Kind → BlockState → Work Act → Work Act
  work_kind inner strand cs n Strand b w = w
  work_kind inner strand cs n Fork b w = both strand cs w
  work_kind inner strand cs n Block Pending w = cond (z.out n) w (act (item (Begins n)) (inner w))
  work_kind inner strand cs n Block Committed w = act (item (Begins n)) (inner (act (item (Ends n)) w))
  work_kind inner strand cs n Block Aborted w = w
  work_kind inner strand cs n (Read c v) b w = act (item (Does n)) w
  work_kind inner strand cs n (Write c v) b w = act (item (Does n)) w
  work_kind inner strand cs n (Out v) b w = act (item (Does n)) w
  work_kind inner strand cs n (Cancel back) b w = act (item (Does n)) w
  work_kind inner strand cs n (Tried c) b w = w

  abbrev pub work_node : (Work Act → Work Act) → (ℕ → Work Act) → List ℕ → ℕ → Option Node → Work Act → Work Act
  work_node inner strand cs n None w = w
  work_node inner strand cs n (Some x) w = work_kind inner strand cs n x.kind x.state w

  module _ (t : List Node) where
    -- the work of node n, to k levels, and then w
    abbrev pub work : ℕ → ℕ → Work Act → Work Act
    work zero n w = w
    work (suc k) n w = work_node (λ v. works (work k) (children t n) (stopping n v)) (λ x. works (work k) (children t x) (stopping x nil)) (children t n) n (slice_get t n) w

    -- what is right in node n, and then w
    abbrev pub inside : ℕ → ℕ → Work Act → Work Act
    inside k n w = works (work k) (children t n) (stopping n w)

    -- the work of the root strand
    abbrev pub whole : Work Act
    whole = inside (length t) 0 nil

-- ## What a node is

module _ {A : Type 0} (s : Strands A) (t : List Node) (w : Account s t) where
  abbrev pub of_account : Doing Act A
  of_account = doing s t w.stop.wants

  -- why a node has no work
  pub data Skipped (c : ℕ) : Type 0 where
    rolled_back : IsSort t c sorts.aborted → Skipped c
    refused : IsSort t c sorts.tried → Skipped c
    left_out : IsSort t c sorts.pending → w.stop.out c ≡ true → Skipped c

  -- a fork, with its strands
  pub record Forked (c l r : ℕ) : Type 0 where
    pub children : children t c ≡ l ∷ r ∷ []
    pub left_strand : is_strand t l ≡ true
    pub right_strand : is_strand t r ≡ true
    pub wants : s.want (w.before c) ≡ want.Fork
    pub left : w.before l ≡ s.left (w.before c)
    pub right : w.before r ≡ s.right (w.before c)

  -- what node c is, its work, and the states around it
  pub data View (k c : ℕ) : Type 0 where
    strand : IsSort t c sorts.strand → ((v : Work Act) → work w.stop t (suc k) c v ≡ v) → View k c
    acts : IsSort t c sorts.act → ((v : Work Act) → work w.stop t (suc k) c v ≡ act (item (Does c)) v) → s.want (w.before c) ≡ wanted_item t (Does c) → w.after c ≡ s.answer (w.before c) (given_item t (Does c)) → View k c
    skipped : Skipped c → ((v : Work Act) → work w.stop t (suc k) c v ≡ v) → w.after c ≡ w.before c → View k c
    opens : IsSort t c sorts.pending → w.stop.out c ≡ false → ((v : Work Act) → work w.stop t (suc k) c v ≡ act (item (Begins c)) (inside w.stop t k c v)) → s.want (w.before c) ≡ want.Begin → View k c
    block : IsSort t c sorts.committed → ((v : Work Act) → work w.stop t (suc k) c v ≡ act (item (Begins c)) (inside w.stop t k c (act (item (Ends c)) v))) → s.want (w.before c) ≡ want.Begin → s.want (w.reached c) ≡ want.End
        → w.after c ≡ s.answer (w.reached c) Nothing → View k c
    fork : IsSort t c sorts.fork → (l r : ℕ) → Forked c l r → ((v : Work Act) → work w.stop t (suc k) c v ≡ split (inside w.stop t k l nil) (inside w.stop t k r nil) v) → View k c

  record Known (k c : ℕ) (kind : Kind) (state : BlockState) : Type 0 where
    pub there : c < length t
    pub sort : IsSort t c (sort_of kind state)
    pub works_as : (v : Work Act) → work w.stop t (suc k) c v ≡ work_kind w.stop (inside w.stop t k c) (λ x. inside w.stop t k x nil) (children t c) c kind state v
    pub wants : wanted_node (slice_get t c) ≡ wanted_kind kind
    pub gives : given_node (slice_get t c) ≡ given_kind kind
    pub fits : IsWanted s t w.before w.after w.reached c kind state

  by_kind : (k c : ℕ) (kind : Kind) (state : BlockState) → Known k c kind state → View k c
  by_kind k c Strand b z = strand z.sort z.works_as
  by_kind k c Fork b z =
      let y = w.tree.forks c z.there z.sort.fork in
      let two = and_parts (is_strand t y.0) (is_strand t y.1) y.3 in
      let P : List ℕ → Type 0 = λ xs. IsForkOf s t w.before w.after w.reached c xs in
      let f = subst P y.2 z.fits.1 in
      fork z.sort y.0 y.1 (record { children = y.2; left_strand = two.0; right_strand = two.1; wants = z.fits.0; left = f.0; right = f.1 }) (λ v. z.works_as v ∙ ap (λ xs. both (λ x. inside w.stop t k x nil) xs v) y.2)
  by_kind k c Block Pending z = elim (cases_Bool (w.stop.out c)) [
    | inl e ↦ skipped (left_out z.sort e) (λ v. z.works_as v ∙ ap (λ b. cond b v (act (item (Begins c)) (inside w.stop t k c v))) e) z.fits.1
    | inr e ↦ opens z.sort e (λ v. z.works_as v ∙ ap (λ b. cond b v (act (item (Begins c)) (inside w.stop t k c v))) e) z.fits.0
  ]
  by_kind k c Block Committed z = let y = z.fits.1 in block z.sort z.works_as z.fits.0 y.0 y.1
  by_kind k c Block Aborted z = skipped (rolled_back z.sort) z.works_as z.fits.1
  by_kind k c (Read d x) b z = acts z.sort z.works_as (z.fits.0 ∙ sym z.wants) (z.fits.1 ∙ ap (s.answer (w.before c)) (sym z.gives))
  by_kind k c (Write d x) b z = acts z.sort z.works_as (z.fits.0 ∙ sym z.wants) (z.fits.1 ∙ ap (s.answer (w.before c)) (sym z.gives))
  by_kind k c (Out x) b z = acts z.sort z.works_as (z.fits.0 ∙ sym z.wants) (z.fits.1 ∙ ap (s.answer (w.before c)) (sym z.gives))
  by_kind k c (Cancel x) b z = acts z.sort z.works_as (z.fits.0 ∙ sym z.wants) (z.fits.1 ∙ ap (s.answer (w.before c)) (sym z.gives))
  by_kind k c (Tried d) b z = skipped (refused z.sort) z.works_as z.fits.1

  pub view : (k c : ℕ) → c < length t → View k c
  view k c h =
      let x = get_some t c h in
      by_kind k c x.0.kind x.0.state (record {
        there = h;
        sort = sort_at t c x.0 x.1;
        works_as = λ v. ap (λ o. work_node w.stop (inside w.stop t k c) (λ x. inside w.stop t k x nil) (children t c) c o v) x.1;
        wants = ap wanted_node x.1;
        gives = ap given_node x.1;
        fits = w.follows.fits c x.0 x.1;
      })
