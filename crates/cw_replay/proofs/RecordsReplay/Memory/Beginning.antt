-- Where a block begins in the order of a run, each cell that has an access beneath it holds what those before the first one left.
use Rattle.std.proofs.Common.{◌≡◌, ℕ, ℤ, ◌<◌, ◌≤◌, List, [], ◌∷◌, ◌++◌, length, refl, ap, sym, ◌∙◌, arith, Bool, true, false, cond, Some, inl, inr, subst, map}
use Rattle.std.specs.Prelude.{◌⊎◌, not, pos, take_while, unwrap_or}
use Rattle.std.proofs.lemmas.Bool.{cases_Bool, false_from_ne_true}
use Rattle.std.proofs.lemmas.List.Sums.{take_while-cons}
use Rattle.cw_strand.specs.Strands.{Strands}
use Rattle.cw_tree.specs.declared.node.Node.{Node}
use Rattle.cw_tree.specs.Nodes.{is_block, is_committed}
use Rattle.cw_tree.specs.Walks.{is_ancestor, is_above}
use Rattle.cw_tree.specs.Accesses.{live_accesses, cell_value, written}
use Rattle.cw_tree.specs.Cancels.{before_block}
use Rattle.cw_tree.specs.Journals.{FitsCells, JournalsEnded}
use Rattle.cw_tree.proofs.Ahead.{Ahead, Apart, ahead_both, ahead_right, second_in}
use Rattle.cw_tree.proofs.Lists.{In}
use Rattle.cw_tree.proofs.Members.{in_append, in_left}
use Rattle.cw_tree.proofs.Walks.Ancestors.{above_ancestor, ancestor_above, ancestor_le, ancestor_trans}
use Rattle.cw_job.specs.Memory.{value_at}
use Rattle.cw_record.specs.declared.items.OrderItem.{OrderItem}
use Rattle.cw_record.specs.declared.items.OrderItem.TheVariants.{Begins, Does, Ends}
use Rattle.cw_record.specs.Items.{is_act}
use Rattle.cw_record.specs.Order.{node_of}
use Rattle.cw_replay.proofs.Kin.{either_over}
use Rattle.cw_replay.proofs.RecordsReplay.Tasks.Places.{from_begin}
use Rattle.cw_replay.proofs.RecordsReplay.Tasks.Sorts.{act_sort}
use Rattle.cw_replay.proofs.RecordsReplay.Work.Orders.{SeenAfter}
use Rattle.cw_replay.proofs.RecordsReplay.Machine.Acts.{item}
use Rattle.cw_replay.proofs.RecordsReplay.Memory.Journaling.{Live, live_of, lu, ln, block_ended, smaller}
use Rattle.cw_replay.proofs.RecordsReplay.Memory.Remembering.{Track}
use Rattle.cw_replay.proofs.RecordsReplay.Ordered.Climbing.{stands}
use Rattle.cw_replay.proofs.RecordsReplay.Ordered.Entries.{Order, all_stay}
use Rattle.cw_replay.proofs.RecordsReplay.Ordered.Ordering.{Leads, earlier, order_once}
use Rattle.cw_replay.proofs.RecordsReplay.Ordered.Respecting.{in_seen, seen_in}
use Rattle.cw_replay.proofs.RecordsReplay.Ordered.Runs.{Run, series_leads}

-- ## Lists

-- two elements that a list has once are not each ahead of the other
pub one_way : {X : Type 0} (a b : X) (xs : List X) → Apart xs → Ahead a b xs → Ahead b a xs → ⊥
one_way a b [] d h g = h
one_way {X} a b (x ∷ xs) d (inl z) (inl y) = let P : X → Type 0 = λ v. In v xs in d.0 (subst P y.0 z.1)
one_way {X} a b (x ∷ xs) d (inl z) (inr g) = let P : X → Type 0 = λ v. In v xs in d.0 (subst P z.0 (second_in b a xs g))
one_way {X} a b (x ∷ xs) d (inr h) (inl y) = let P : X → Type 0 = λ v. In v xs in d.0 (subst P y.0 (second_in a b xs h))
one_way a b (x ∷ xs) d (inr h) (inr g) = one_way a b xs d.1 h g

-- what is ahead of one stands in front of it
pub in_front : {X : Type 0} (a b : X) (xs ys : List X) → Apart (xs ++ b ∷ ys) → Ahead a b (xs ++ b ∷ ys) → In a xs
in_front a b [] ys d (inl z) = absurd (d.0 z.1)
in_front a b [] ys d (inr h) = absurd (d.0 (second_in a b ys h))
in_front a b (x ∷ xs) ys d (inl z) = inl z.0
in_front a b (x ∷ xs) ys d (inr h) = inr (in_front a b xs ys d.1 h)

-- those in front of the first that fails
front_while : {X : Type 0} (p : X → Bool) (xs : List X) (y : X) (ys : List X) → ((x : X) → In x xs → p x ≡ true) → p y ≡ false → take_while p (xs ++ y ∷ ys) ≡ xs
front_while p [] y ys h e = take_while-cons p y ys ∙ ap (λ b. cond b (y ∷ take_while p ys) []) e
front_while p (x ∷ xs) y ys h e =
    take_while-cons p x (xs ++ y ∷ ys) ∙ ap (λ b. cond b (x ∷ take_while p (xs ++ y ∷ ys)) []) (h x (inl refl)) ∙ ap (λ zs. x ∷ zs) (front_while p xs y ys (λ z i. h z (inr i)) e)

module _ {A : Type 0} (s : Strands A) (t : List Node) (p : ℕ) (r : Run s t p) (cells : ℕ) (fits : FitsCells t cells) (ended : JournalsEnded t cells) where
  abbrev order : List OrderItem
  order = Order t p r.laid

  -- ## A block that stands in the order

  module _ (b : ℕ) (block : is_block t b ≡ true) (begins : In (Begins b) order) where
    -- what is beneath it comes after its begin
    pub later : (u : ℕ) → is_above t b u ≡ true → In (Does u) order → Ahead (Begins b) (Does u) order
    later u over h =
        earlier t p r.laid (Begins b) (Does u)
        (series_leads s t p r (Begins b) (Does u) (from_begin b refl (above_ancestor t b u over) (λ q. cc q))) begins h

    -- an act is not the block
    other : (x : ℕ) → is_act t x ≡ true → is_above t b x ≡ false → is_ancestor t b x ≡ false
    other x act aside =
        let ne : x ≡ b → ⊥ = λ q. (let P : ℕ → Type 0 = λ y. is_block t y ≡ false in absurd (cc (block, subst P q (act_sort t x act).block))) in
        ancestor_above t b x ne ∙ aside

    -- an access earlier in a journal than one beneath the block, and not beneath it, comes before the begin
    module _ (c x v : ℕ) (hc : c < cells) (e : Ahead x v (live_accesses t c)) (over : is_above t b v ≡ true) (aside : is_above t b x ≡ false) where
      lx : Live s t p r x
      lx = lu s t p r cells fits ended c x v hc e

      lv : Live s t p r v
      lv = ln s t p r cells fits ended c x v hc e

      outside : is_ancestor t b x ≡ false
      outside = other x lx.act aside

      leads : Leads t p r.laid (Does x) (Begins b)
      leads = record {
        no_begin = λ m h a q. (let P : ℕ → Type 0 = λ y. is_ancestor t y x ≡ true in let same : m ≡ b = sym (ap node_of q) in let over = subst P same a.0 in let none = outside in cc (over, none));
        no_end = λ m h a q. absurd (cc q);
        not_same = λ m h q f. absurd (cc f);
        smaller = λ d m n em en ne am an k.
            smaller s t p r cells fits ended c x v hc e d m n em en ne am (ancestor_trans t r.laid.tree.rooted n b v lv.there an.0 (above_ancestor t b v over), lv.there) k;
      }

      stands_too : In (Does x) order
      stands_too = stands t p r.laid (Does x) lx.there lx.act (λ a f g. elim (cases_Bool (is_ancestor t a v)) [
        | inl h ↦ elim (either_over t r.laid.tree.rooted a b v lv.there h (above_ancestor t b v over)) [
          | inl up ↦ all_stay t p r.laid (Begins b) begins a f up
          | inr down ↦ absurd (let beneath = ancestor_trans t r.laid.tree.rooted b a x lx.there down g in let none = outside in cc (beneath, none))
        ]
        | inr h ↦
            (let le : a ≤ x = ancestor_le t r.laid.tree.rooted a x lx.there g in
            let low = lx.there in
            inr (inl (block_ended s t p r cells fits ended c x v hc e a (omega arith) f g h).0))
      ])

      sooner : Ahead (Does x) (Begins b) order
      sooner = earlier t p r.laid (Does x) (Begins b) leads stands_too begins

    -- ## What a cell holds there

    module _ (front rest : List OrderItem) (is : order ≡ front ++ Begins b ∷ rest) (start : ℤ) (mem : List ℤ) (c : ℕ) (hc : c < cells) (k : Track t cells fits start (SeenAfter (λ i. ⊥) front) mem c) (v : ℕ)
        (live : In v (live_accesses t c)) (over : is_above t b v ≡ true) where
      once : Apart order
      once = order_once t p r.laid

      seen_front : (u : ℕ) → SeenAfter (λ (i : OrderItem). ⊥) front (Does u) → In (Does u) front
      seen_front u h = elim (in_seen (λ (i : OrderItem). ⊥) front (Does u) h) [ inl i ↦ i | inr z ↦ absurd z ]

      -- nothing beneath it was done
      none : (u : ℕ) → In u k.done → is_above t b u ≡ false
      none u i =
          false_from_ne_true (is_above t b u) (λ e.
          let h = seen_front u (k.did u i) in
          let P : List OrderItem → Type 0 = λ os. Ahead (Does u) (Begins b) os in
          let Q : List OrderItem → Type 0 = λ os. In (Does u) os in
          one_way (Does u) (Begins b) order once (subst P (sym is) (ahead_both (Does u) (Begins b) front (Begins b ∷ rest) h (inl refl)))
          (later u e (subst Q (sym is) (in_left (Does u) front (Begins b ∷ rest) h))))

      in_left_part : In v k.left
      in_left_part =
          let P : List ℕ → Type 0 = λ us. In v us in
          elim (in_append v k.done k.left (subst P (sym k.whole) live)) [ inl i ↦ absurd (let aside = none v i in cc (over, aside)) | inr i ↦ i ]

      first_fails : (left : List ℕ) → k.left ≡ left → In v left → (x : ℕ) × (xs : List ℕ) × (k.left ≡ x ∷ xs) × (is_above t b x ≡ true)
      first_fails [] e i = absurd i
      first_fails (x ∷ xs) e i =
          elim (cases_Bool (is_above t b x)) [
            | inl above ↦ (x, xs, e, above)
            | inr aside ↦ absurd (
                let ahead : Ahead x v (x ∷ xs) = elim i [ inl q ↦ (let P : ℕ → Type 0 = λ y. is_above t b y ≡ true in absurd (cc (subst P q over, aside))) | inr j ↦ inl (refl, j) ] in
                let P : List ℕ → Type 0 = λ us. Ahead x v us in
                let journal = subst P k.whole (ahead_right x v k.done k.left (subst P (sym e) ahead)) in
                let Q : List OrderItem → Type 0 = λ os. Ahead (Does x) (Begins b) os in
                let R : List OrderItem → Type 0 = λ os. Apart os in
                let S : List ℕ → Type 0 = λ us. In x us in
                let h = in_front (Does x) (Begins b) front rest (subst R is once) (subst Q is (sooner c x v hc journal over aside)) in
                k.unseen x (subst S (sym e) (inl refl)) (seen_in (λ (i : OrderItem). ⊥) front (Does x) (inl h)))
          ]

      done_is : k.done ≡ before_block t b (live_accesses t c)
      done_is =
          let (x, xs, e, above) = first_fails k.left refl in_left_part in
          sym (ap (before_block t b) (sym k.whole ∙ ap (λ us. k.done ++ us) e) ∙ front_while (λ u. not (is_above t b u)) k.done x xs (λ u i. ap not (none u i)) (ap not above))

      pub holds_before : value_at mem c ≡ cell_value start (map (written t) (before_block t b (live_accesses t c)))
      holds_before =
          ap (λ o. unwrap_or o (pos 0)) k.memory ∙ sym k.spent ∙ ap (λ us. cell_value start (map (written t) us)) done_is
