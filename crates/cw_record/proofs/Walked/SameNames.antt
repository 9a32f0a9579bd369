-- The pass that finds for each node the first node with the same name.
use Rattle.std.proofs.Common.{◌≡◌, ℕ, ◌+◌, ◌<◌, ◌≤◌, List, [], ◌∷◌, ◌++◌, length, map, replicate, get_or, set, refl, ap, sym, ◌∙◌, arith, Bool, true, false, cond, Option, Some, None, inl, inr, subst}
use Rattle.std.specs.Prelude.{◌⊎◌}
use Rattle.std.specs.Option.{option_or}
use Rattle.std.specs.Ordering.{is_eq}
use Rattle.std.proofs.lemmas.Bool.{cases_eq}
use Rattle.std.proofs.lemmas.List.{get_or-set_same, get_or-set_other, get_or-replicate, length-set, length-replicate}
use Rattle.std.proofs.lemmas.Grind.{get_or_default_zero}
use Rattle.cw_tree.specs.declared.node.Node.{Node}
use Rattle.cw_tree.specs.declared.picks.Turn.{Turn}
use Rattle.cw_tree.specs.Nodes.{all_nodes, parent_of, is_strand}
use Rattle.cw_tree.specs.Walks.{IsRooted}
use Rattle.cw_tree.specs.Names.{fork_number, is_right, name_of, turn}
use Rattle.cw_tree.proofs.Lists.{map_below}
use Rattle.cw_record.specs.Walked.{NameStep, step_cmp, first_named}
use Rattle.cw_record.proofs.Orders.Steps.{step_same, step_self}
use Rattle.cw_record.proofs.Orders.Names.{name_strand, name_other, Namesake, namesake, parents_same, some_name}
use Rattle.cw_record.proofs.Walked.Found.{first_le, first_same, first_is, names_same}

-- the step down to strand m
abbrev pub step_of : List Node → ℕ → NameStep
step_of t m = (first_named t (parent_of t m), fork_number t (parent_of t m), is_right t m)

-- m is the first node with its name, and a strand below n that s leads down to
pub record LeadsTo (t : List Node) (n : ℕ) (s : NameStep) (m : ℕ) : Type 0 where
  pub child : 0 < m
  pub early : m < n
  pub there : m < length t
  pub is : is_strand t m ≡ true
  pub step : step_of t m ≡ s
  pub first : first_named t m ≡ m

-- the nodes below n are done, and f has the steps down to their strands
pub record Named (t : List Node) (n : ℕ) (same : List ℕ) (f : NameStep → Option ℕ) : Type 0 where
  pub some : 0 < n
  pub len : length same ≡ length t
  pub done : (m : ℕ) → m < n → m < length t → get_or same m 0 ≡ first_named t m
  pub sound : (s : NameStep) (m : ℕ) → f s ≡ Some m → LeadsTo t n s m
  pub complete : (m : ℕ) → 0 < m → m < n → m < length t → is_strand t m ≡ true → f (step_of t m) ≡ None → ⊥

none_left : (o p : Option ℕ) → option_or o p ≡ None → o ≡ None
none_left None p e = refl
none_left (Some m) p e = absurd (cc e)

module _ (t : List Node) where
  pub named_start : (k : ℕ) (same : List ℕ) (f : NameStep → Option ℕ) → k ≡ length t → same ≡ replicate k 0 → ((s : NameStep) → f s ≡ None) → Named t 1 same f
  named_start k same f e q none = record {
    some = omega arith;
    len = ap length q ∙ length-replicate k 0 ∙ e;
    done = λ m h l.
        (let root : m ≡ 0 = omega arith in
        ap (λ xs. get_or xs m 0) q ∙ get_or-replicate k m 0 0 (omega arith) ∙ (let le = first_le t m l in omega arith));
    sound = λ s m g. absurd (cc (g, none s));
    complete = λ m p h l g x. absurd (omega arith);
  }

  pub named_end : (n : ℕ) (same : List ℕ) (f : NameStep → Option ℕ) → Named t n same f → length t ≤ n → same ≡ map (first_named t) (all_nodes t)
  named_end n same f w h = map_below (first_named t) same (length t) w.len (λ m d l. let len = w.len in get_or_default_zero same m d (omega arith) ∙ w.done m (omega arith) l)

  pub step_is : (n k : ℕ) (x : Turn) → k ≡ first_named t (parent_of t n) → x ≡ turn t n → (let s : NameStep = (k, x.fork, x.right) in s) ≡ step_of t n
  step_is n k x e g = ap (λ j. let s : NameStep = (j, x.fork, x.right) in s) e ∙ ap (λ (y : Turn). let s : NameStep = (first_named t (parent_of t n), y.fork, y.right) in s) g

  module _ (r : IsRooted t) (n : ℕ) (same : List ℕ) (f : NameStep → Option ℕ) (w : Named t n same f) (there : n < length t) where
    done_more : (own : ℕ) → own ≡ first_named t n → (m : ℕ) → m < n + 1 → m < length t → get_or (set same n own) m 0 ≡ first_named t m
    done_more own e m h l =
        by_case (cases_eq m n) where
          by_case : (m ≡ n) ⊎ (m ≡ n → ⊥) → get_or (set same n own) m 0 ≡ first_named t m
          by_case (inl q) = let len = w.len in ap (λ k. get_or (set same n own) k 0) q ∙ get_or-set_same same n own 0 (omega arith) ∙ e ∙ ap (first_named t) (sym q)
          by_case (inr ne) = get_or-set_other same n m own 0 ne ∙ w.done m (omega arith) l

    later : (s : NameStep) (m : ℕ) → LeadsTo t n s m → LeadsTo t (n + 1) s m
    later s m y = record { child = y.child; early = (let early = y.early in omega arith); there = y.there; is = y.is; step = y.step; first = y.first }

    -- what the parent has
    pub above_is : (q k : ℕ) → q ≡ parent_of t n → k ≡ get_or same q k → k ≡ first_named t (parent_of t n)
    above_is q k up read =
        let low : parent_of t n < n = r n w.some there in
        let len = w.len in
        read ∙ get_or_default_zero same q k (omega arith) ∙ w.done q (omega arith) (omega arith) ∙ ap (first_named t) up

    pub named_other : (k : ℕ) (g : NameStep → Option ℕ) → k ≡ first_named t (parent_of t n) → is_strand t n ≡ false → ((s : NameStep) → g s ≡ f s) → Named t (n + 1) (set same n k) g
    named_other k g e other kept = record {
      some = omega arith;
      len = length-set same n k ∙ w.len;
      done = done_more k (e ∙ sym (first_same t n (parent_of t n) (name_other t r n w.some there other)));
      sound = λ s m h. later s m (w.sound s m (sym (kept s) ∙ h));
      complete = λ m p h l d x. by_case m p h l d (sym (kept (step_of t m)) ∙ x) (cases_eq m n);
    } where
      by_case : (m : ℕ) → 0 < m → m < n + 1 → m < length t → is_strand t m ≡ true → f (step_of t m) ≡ None → (m ≡ n) ⊎ (m ≡ n → ⊥) → ⊥
      by_case m p h l d x (inl q) = cc (d, other, ap (is_strand t) q)
      by_case m p h l d x (inr ne) = w.complete m p (omega arith) l d x

    module _ (strand : is_strand t n ≡ true) where
      -- a strand with the same step has the same name
      same_step : (m : ℕ) → LeadsTo t n (step_of t n) m → first_named t n ≡ m
      same_step m y =
          let low : parent_of t n < n = r n w.some there in
          let below : parent_of t m < m = r m y.child y.there in
          let l = y.there in
          let parents : name_of t (parent_of t m) ≡ name_of t (parent_of t n) = names_same t (parent_of t m) (parent_of t n) (omega arith) (omega arith) (ap (λ (s : NameStep). s.0) y.step) in
          let turns : turn t m ≡ turn t n = ap (λ (s : NameStep). let x : Turn = record { fork = s.1; right = s.2 } in x) y.step in
          let names : name_of t m ≡ name_of t n = name_strand t r m y.child y.there y.is ∙ ap (λ ps. ps ++ turn t m ∷ []) parents ∙ ap (λ x. name_of t (parent_of t n) ++ x ∷ []) turns ∙ sym (name_strand t r n w.some there strand) in
          first_same t n m (sym names) ∙ y.first

      -- where no step down to it is known its name is new
      new_name : f (step_of t n) ≡ None → first_named t n ≡ n
      new_name none =
          first_is t n there (λ m h e. by_case m h e (namesake t r m (omega arith))) where
            by_case : (m : ℕ) → m < n → name_of t m ≡ name_of t n → (name_of t m ≡ []) ⊎ Namesake t r m → ⊥
            by_case m h e (inl empty) = some_name t r n w.some there strand (sym e ∙ empty)
            by_case m h e (inr s) =
                let early = s.early in
                let both = parents_same t r s.strand n s.child w.some (omega arith) there s.is strand (s.same ∙ e) in
                let steps : step_of t s.strand ≡ step_of t n =
                ap (λ k. let y : NameStep = (k, fork_number t (parent_of t s.strand), is_right t s.strand) in y) (first_same t (parent_of t s.strand) (parent_of t n) both.0)
                ∙ ap (λ (x : Turn). let y : NameStep = (first_named t (parent_of t n), x.fork, x.right) in y) both.1
                in
                w.complete s.strand s.child (omega arith) (omega arith) s.is (ap f steps ∙ none)

      module _ (step : NameStep) (own : ℕ) (g : NameStep → Option ℕ) (step_is : step ≡ step_of t n) (found : Some own ≡ option_or (f step) (Some n))
          (kept : (s : NameStep) → g s ≡ option_or (f s) (cond (is_eq (step_cmp step s)) (Some n) None)) where
        own_from : (o : Option ℕ) → f step ≡ o → Some own ≡ option_or o (Some n) → own ≡ first_named t n
        own_from None e h = let z : own ≡ n = cc h in z ∙ sym (new_name (sym (ap f step_is) ∙ e))
        own_from (Some m) e h =
            let z : own ≡ m = cc h in
            z ∙ sym (same_step m (let P : NameStep → Type 0 = λ s. LeadsTo t n s m in subst P step_is (w.sound step m e)))

        own_is : own ≡ first_named t n
        own_is = own_from (f step) refl found

        sound_new : (s : NameStep) (m : ℕ) (b : Bool) → is_eq (step_cmp step s) ≡ b → f s ≡ None → cond b (Some n) None ≡ Some m → LeadsTo t (n + 1) s m
        sound_new s m true e none h =
            let z : n ≡ m = cc h in
            let here : step ≡ s = step_same step s e in
            let P : ℕ → Type 0 = LeadsTo t (n + 1) s in
            subst P z (record { child = w.some; early = omega arith; there = there; is = strand; step = sym step_is ∙ here; first = new_name (sym (ap f step_is) ∙ ap f here ∙ none) })
        sound_new s m false e none h = absurd (cc h)

        sound_from : (s : NameStep) (m : ℕ) (o : Option ℕ) → f s ≡ o → option_or o (cond (is_eq (step_cmp step s)) (Some n) None) ≡ Some m → LeadsTo t (n + 1) s m
        sound_from s m None e h = sound_new s m (is_eq (step_cmp step s)) refl e h
        sound_from s m (Some k) e h = later s m (w.sound s m (e ∙ h))

        complete_more : (m : ℕ) → 0 < m → m < n + 1 → m < length t → is_strand t m ≡ true → g (step_of t m) ≡ None → (m ≡ n) ⊎ (m ≡ n → ⊥) → ⊥
        complete_more m p h l e x (inl q) =
            let none = none_left (f (step_of t m)) (cond (is_eq (step_cmp step (step_of t m))) (Some n) None) (sym (kept (step_of t m)) ∙ x) in
            let here : step ≡ step_of t m = step_is ∙ ap (step_of t) (sym q) in
            let hit : is_eq (step_cmp step (step_of t m)) ≡ true = (let P : NameStep → Type 0 = λ s. is_eq (step_cmp step s) ≡ true in subst P here (step_self step)) in
            let put : Some n ≡ None = sym (ap (λ o. option_or o (Some n)) none) ∙ sym (ap (λ b. option_or (f (step_of t m)) (cond b (Some n) None)) hit) ∙ sym (kept (step_of t m)) ∙ x in
            cc put
        complete_more m p h l e x (inr ne) = w.complete m p (omega arith) l e (none_left (f (step_of t m)) (cond (is_eq (step_cmp step (step_of t m))) (Some n) None) (sym (kept (step_of t m)) ∙ x))

        pub named_strand : Named t (n + 1) (set same n own) g
        named_strand = record {
          some = omega arith;
          len = length-set same n own ∙ w.len;
          done = done_more own own_is;
          sound = λ s m h. sound_from s m (f s) refl (sym (kept s) ∙ h);
          complete = λ m p h l e x. complete_more m p h l e x (cases_eq m n);
        }
