-- One step of the pass over a plain tree: what it has found of the nodes before n, and then of n too.
use Rattle.std.proofs.Common.{◌≡◌, ◌≢◌, ℕ, ◌+◌, ◌-◌, ◌<◌, ◌≤◌, List, [], ◌∷◌, ◌++◌, length, map, get_or, set, ap, sym, ◌∙◌, arith, Bool, true, false, cond, inl, inr, subst, nat_lt, nat_eq, add-one, append-nil}
use Rattle.std.specs.Prelude.{◌&&◌}
use Rattle.std.specs.List.{filter}
use Rattle.std.proofs.lemmas.Bool.{cases_eq, ne_eqb, eq-eqb, and_from, and_right, false_from_ne_true}
use Rattle.std.proofs.lemmas.List.{get_or-set_same, get_or-set_other, length-set, map-append, get_or_append_left, get_or-append-add, length-append, length-map}
use Rattle.std.proofs.lemmas.List.Elements.{filter-append}
use Rattle.std.proofs.lemmas.List.Sums.{length-filter}
use Rattle.std.proofs.lemmas.Grind.{get_or_default_zero}
use Rattle.cw_tree.specs.declared.node.Node.{Node}
use Rattle.cw_tree.specs.declared.picks.Name.{Name}
use Rattle.cw_tree.specs.Nodes.{parent_of, is_strand, is_fork, is_aborted, below}
use Rattle.cw_tree.specs.Walks.{IsNumbered, is_ancestor}
use Rattle.cw_tree.specs.Series.{strand_of}
use Rattle.cw_tree.specs.ForkCounts.{one_if}
use Rattle.cw_tree.proofs.Counting.{count, count_none, count_le}
use Rattle.cw_tree.proofs.NodeKinds.{strand_no_fork}
use Rattle.cw_tree.proofs.Lists.{get_map_below, length_map_below}
use Rattle.cw_tree.proofs.Walks.Ancestors.{ancestor_step, ancestor_le, ancestor_trans}
use Rattle.cw_tree.proofs.Walks.Strands.{strand_of_strand, strand_of_other, strand_of_le}
use Rattle.cw_record.specs.Plain.{IsPlainAt, UndoneAt, strands_before, forks_before, number_at, plain_name, IsPassed}
use Rattle.cw_record.proofs.StrandIs.{strand_is}
use Rattle.cw_record.proofs.Orders.Listing.{below_push}
use Rattle.cw_record.proofs.Plain.Counted.{count_next, count_rises, count_apart}

-- the test that counts the forks of strand s
abbrev pub made_by : List Node → ℕ → ℕ → Bool
made_by t s g = is_fork t g && nat_eq (strand_of t g) s

module _ (t : List Node) (w : IsNumbered t) where
  -- a fork that comes before the outermost one is in none
  pub fork_kept : (n : ℕ) → n < length t → (u : ℕ) → UndoneAt t n u → n < u → (a : ℕ) → is_ancestor t a n ≡ true → is_aborted t a ≡ false
  fork_kept n there u around less a over =
      false_from_ne_true (is_aborted t a) (λ b. absurd (omega (arith, around a over b, ancestor_le t w.rooted a n there over)))

  module _ (n : ℕ) (some : 0 < n) (there : n < length t) where
    low : parent_of t n < n
    low = w.rooted n some there

    -- ## Attempts that were rolled back

    module _ (hangs : is_ancestor t (parent_of t n) (n - 1) ≡ true) (u : ℕ) (before : UndoneAt t (n - 1) u) where
      around_parent : (a : ℕ) → is_ancestor t a n ≡ true → n ≢ a → is_aborted t a ≡ true → (u ≤ a) × (a ≤ parent_of t n)
      around_parent a over ne b =
          let l = low in
          let up : is_ancestor t a (parent_of t n) ≡ true = sym (ancestor_step t w.rooted a n some there ne) ∙ over in
          (before a (ancestor_trans t w.rooted a (parent_of t n) (n - 1) (omega arith) up hangs) b, ancestor_le t w.rooted a (parent_of t n) (omega arith) up)

      pub undone_kept : u ≤ parent_of t n → UndoneAt t n u
      undone_kept le a over b = elim (cases_eq n a) [ inl e ↦ (let l = low in omega arith) | inr ne ↦ (around_parent a over ne b).0 ]

      pub undone_new : parent_of t n < u → UndoneAt t n n
      undone_new out a over b = elim (cases_eq n a) [ inl e ↦ omega arith | inr ne ↦ (let z = around_parent a over ne b in absurd (omega (arith, z.0, z.1))) ]

      pub undone_none : parent_of t n < u → is_aborted t n ≡ false → UndoneAt t n (n + 1)
      undone_none out e a over b = elim (cases_eq n a) [
        | inl q ↦ (let P : ℕ → Type 0 = λ m. is_aborted t m ≡ true in absurd (cc (e, subst P (sym q) b)))
        | inr ne ↦ (let z = around_parent a over ne b in absurd (omega (arith, z.0, z.1)))
      ]

    -- ## One node more

    module _ (names : List Name) (forks numbers : List ℕ) (v : IsPassed t n names forks numbers) where
      above_is : (q k : ℕ) → q ≡ parent_of t n → k ≡ get_or numbers q k → k ≡ number_at t (parent_of t n)
      above_is q k e read = (let l = low in read ∙ ap (λ xs. get_or xs q k) v.numbered ∙ get_map_below (number_at t) n q k (omega arith) ∙ ap (number_at t) e)

      pub above_there : (q : ℕ) → q ≡ parent_of t n → q < length numbers
      above_there q e = (let l = low in omega (arith, ap length v.numbered, length_map_below (number_at t) n))

      -- the strand of the parent
      abbrev own : ℕ
      own = strand_of t (parent_of t n)

      own_low : own < n
      own_low = (let l = low in omega (arith, strand_of_le t w.rooted (parent_of t n) (omega arith)))

      own_is : is_strand t own ≡ true
      own_is = (let l = low in strand_is t w.rooted w.root (parent_of t n) (omega arith))

      pub forks_there : (q k : ℕ) → q ≡ parent_of t n → k ≡ get_or numbers q k → k < length forks
      forks_there q k e read = omega (arith, above_is q k e read, v.forks_len, count_rises (is_strand t) own n own_is own_low)

      own_forks : (q k x : ℕ) → q ≡ parent_of t n → k ≡ get_or numbers q k → x ≡ get_or forks k x → x ≡ forks_before t own n
      own_forks q k x e read at =
          at ∙ get_or_default_zero forks k x (forks_there q k e read) ∙ ap (λ j. get_or forks j 0) (above_is q k e read) ∙ v.forked own own_low own_is

      pub forks_fit : (q k x : ℕ) → q ≡ parent_of t n → k ≡ get_or numbers q k → x ≡ get_or forks k x → x < length t
      forks_fit q k x e read at = omega (arith, own_forks q k x e read at, count_le (made_by t own) n)

      pub names_counted : length names ≡ strands_before t n
      names_counted = ap length v.named ∙ length-map (filter (is_strand t) (below n)) (plain_name t) ∙ length-filter (is_strand t) (below n)

      pub names_few : length names ≤ n
      names_few = omega (arith, names_counted, count_le (is_strand t) n)

      module _ (here : IsPlainAt t n) where
        plain_more : (m : ℕ) → 0 < m → m < n + 1 → IsPlainAt t m
        plain_more m p h = elim (cases_eq n m) [ inl e ↦ (let P : ℕ → Type 0 = IsPlainAt t in subst P e here) | inr ne ↦ v.plain m p (omega arith) ]

        strands_more : filter (is_strand t) (below (n + 1)) ≡ filter (is_strand t) (below n) ++ cond (is_strand t n) (n ∷ []) []
        strands_more = rw add-one (filter-append (is_strand t) (below n) (n ∷ []))

        forks_same : (s : ℕ) → is_fork t n ≡ false → forks_before t s (n + 1) ≡ forks_before t s n
        forks_same s e =
            let none : one_if (made_by t s n) ≡ 0 = ap (λ b. one_if (b && nat_eq (strand_of t n) s)) e in
            omega (arith, count_next (made_by t s) n, none)

        -- ## A strand

        module _ (strand : is_strand t n ≡ true) where
          no_fork : is_fork t n ≡ false
          no_fork = strand_no_fork t n strand

          counted : strands_before t (n + 1) ≡ strands_before t n + 1
          counted = let one : one_if (is_strand t n) ≡ 1 = ap one_if strand in omega (arith, count_next (is_strand t) n, one)

          none_yet : forks_before t n (n + 1) ≡ 0
          none_yet =
              forks_same n no_fork
              ∙ count_none (made_by t n) n (λ g h. and_right (is_fork t g) (nat_eq (strand_of t g) n) (ne_eqb (strand_of t g) n (λ e. (let le = strand_of_le t w.rooted g (omega arith) in omega arith))))

          forked_more : (s : ℕ) → s < n + 1 → is_strand t s ≡ true → get_or (forks ++ 0 ∷ []) (strands_before t s) 0 ≡ forks_before t s (n + 1)
          forked_more s h is = elim (cases_eq s n) [
            | inl e ↦
                (ap (λ k. get_or (forks ++ 0 ∷ []) k 0) (ap (strands_before t) e ∙ sym v.forks_len ∙ (let z : length forks ≡ length forks + 0 = omega arith in z))
                ∙ get_or-append-add forks (0 ∷ []) 0 0
                ∙ sym (ap (λ m. forks_before t m (n + 1)) e ∙ none_yet))
            | inr ne ↦
                (get_or_append_left forks (0 ∷ []) 0 (strands_before t s) (omega (arith, v.forks_len, count_rises (is_strand t) s n is (omega arith)))
                ∙ v.forked s (omega arith) is
                ∙ sym (forks_same s no_fork))
          ]

          pub passed_strand : (q k x c : ℕ) (right : Bool) (grown : List Name) (more all : List ℕ) → q ≡ parent_of t n → k ≡ get_or numbers q k → x ≡ get_or forks k x → right ≡ nat_lt (q + 1) n → c ≡ length names
              → grown ≡ names ++ record { parent = k; fork = x; right = right } ∷ [] → more ≡ forks ++ 0 ∷ [] → all ≡ numbers ++ c ∷ [] → IsPassed t (n + 1) grown more all
          passed_strand q k x c right grown more all e read at side count f g z = record {
            some = omega arith;
            plain = plain_more;
            named = f ∙ ap (λ xs. xs ++ name ∷ []) v.named ∙ ap (λ y. map (plain_name t) (filter (is_strand t) (below n)) ++ y ∷ []) name_is
                ∙ sym (map-append (plain_name t) (filter (is_strand t) (below n)) (n ∷ []))
                ∙ sym (ap (map (plain_name t)) (strands_more ∙ ap (λ b. filter (is_strand t) (below n) ++ cond b (n ∷ []) []) strand));
            forks_len = ap length g ∙ length-append forks (0 ∷ []) ∙ omega (arith, v.forks_len, counted);
            forked = λ s h is. ap (λ xs. get_or xs (strands_before t s) 0) g ∙ forked_more s h is;
            numbered = z ∙ below_push (number_at t) n numbers c v.numbered (count ∙ names_counted ∙ ap (strands_before t) (sym (strand_of_strand t w.rooted n some there strand)));
          } where
            name : Name
            name = record { parent = k; fork = x; right = right }

            name_is : name ≡ plain_name t n
            name_is =
                ap (λ j. let y : Name = record { parent = j; fork = x; right = right } in y) (above_is q k e read)
                ∙ ap (λ j. let y : Name = record { parent = number_at t (parent_of t n); fork = j; right = right } in y) (own_forks q k x e read at)
                ∙ ap (λ b. let y : Name = record { parent = number_at t (parent_of t n); fork = forks_before t own n; right = b } in y) (side ∙ ap (λ m. nat_lt (m + 1) n) e)
                ∙ sym (ap (λ b. cond b (let y : Name = record { parent = 0; fork = 0; right = false } in y) (let y : Name = record { parent = number_at t (parent_of t n); fork = forks_before t own n; right = nat_lt (parent_of t n + 1) n } in y))
                (ne_eqb n 0 (λ z. omega arith)))

        -- ## What is no strand

        module _ (other : is_strand t n ≡ false) where
          counted_still : strands_before t (n + 1) ≡ strands_before t n
          counted_still = let none : one_if (is_strand t n) ≡ 0 = ap one_if other in omega (arith, count_next (is_strand t) n, none)

          named_still : names ≡ map (plain_name t) (filter (is_strand t) (below (n + 1)))
          named_still = v.named ∙ sym (ap (map (plain_name t)) (strands_more ∙ ap (λ b. filter (is_strand t) (below n) ++ cond b (n ∷ []) []) other ∙ append-nil (filter (is_strand t) (below n))))

          numbered_more : (q k : ℕ) (all : List ℕ) → q ≡ parent_of t n → k ≡ get_or numbers q k → all ≡ numbers ++ k ∷ [] → all ≡ map (number_at t) (below (n + 1))
          numbered_more q k all e read z =
              z ∙ below_push (number_at t) n numbers k v.numbered (above_is q k e read ∙ ap (strands_before t) (sym (strand_of_other t w.rooted n some there other)))

          -- a strand that was met before is not n
          was_met : (s : ℕ) → s < n + 1 → is_strand t s ≡ true → s < n
          was_met s h is = elim (cases_eq s n) [ inl e ↦ absurd (cc (is, other, ap (is_strand t) e)) | inr ne ↦ omega arith ]

          pub passed_other : (q k : ℕ) (same : List Name) (more all : List ℕ) → q ≡ parent_of t n → k ≡ get_or numbers q k → is_fork t n ≡ false → same ≡ names → more ≡ forks → all ≡ numbers ++ k ∷ [] → IsPassed t (n + 1) same more all
          passed_other q k same more all e read unforked f g z = record {
            some = omega arith;
            plain = plain_more;
            named = f ∙ named_still;
            forks_len = ap length g ∙ v.forks_len ∙ sym counted_still;
            forked = λ s h is. ap (λ xs. get_or xs (strands_before t s) 0) g ∙ v.forked s (was_met s h is) is ∙ sym (forks_same s unforked);
            numbered = numbered_more q k all e read z;
          }

          module _ (fork : is_fork t n ≡ true) (q k x : ℕ) (e : q ≡ parent_of t n) (read : k ≡ get_or numbers q k) (at : x ≡ get_or forks k x) where
            one_more : forks_before t own (n + 1) ≡ x + 1
            one_more =
                let one : one_if (made_by t own n) ≡ 1 = ap one_if (and_from (is_fork t n) (nat_eq (strand_of t n) own) fork (eq-eqb (strand_of t n) own (strand_of_other t w.rooted n some there other))) in
                omega (arith, count_next (made_by t own) n, one, own_forks q k x e read at)

            still : (s : ℕ) → (s ≡ own → ⊥) → forks_before t s (n + 1) ≡ forks_before t s n
            still s ne =
                let none : one_if (made_by t s n) ≡ 0 = ap one_if (and_right (is_fork t n) (nat_eq (strand_of t n) s) (ne_eqb (strand_of t n) s (λ z. ne (sym z ∙ strand_of_other t w.rooted n some there other)))) in
                omega (arith, count_next (made_by t s) n, none)

            fork_set : (s : ℕ) → s < n → is_strand t s ≡ true → get_or (set forks k (x + 1)) (strands_before t s) 0 ≡ forks_before t s (n + 1)
            fork_set s h is = elim (cases_eq s own) [
              | inl z ↦
                  (ap (λ j. get_or (set forks k (x + 1)) j 0) (ap (strands_before t) z ∙ sym (above_is q k e read))
                  ∙ get_or-set_same forks k (x + 1) 0 (forks_there q k e read)
                  ∙ sym (ap (λ m. forks_before t m (n + 1)) z ∙ one_more))
              | inr ne ↦
                  (get_or-set_other forks k (strands_before t s) (x + 1) 0 (λ z. ne (count_apart (is_strand t) s own is own_is (z ∙ above_is q k e read)))
                  ∙ v.forked s h is
                  ∙ sym (still s ne))
            ]

            pub passed_fork : (same : List Name) (more all : List ℕ) → same ≡ names → more ≡ set forks k (x + 1) → all ≡ numbers ++ k ∷ [] → IsPassed t (n + 1) same more all
            passed_fork same more all f g z = record {
              some = omega arith;
              plain = plain_more;
              named = f ∙ named_still;
              forks_len = ap length g ∙ length-set forks k (x + 1) ∙ v.forks_len ∙ sym counted_still;
              forked = λ s h is. ap (λ xs. get_or xs (strands_before t s) 0) g ∙ fork_set s (was_met s h is) is;
              numbered = numbered_more q k all e read z;
            }
