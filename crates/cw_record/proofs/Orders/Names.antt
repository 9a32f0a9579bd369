-- A name goes on from that of the parent, and when two names are the same.
use Rattle.std.proofs.Common.{◌≡◌, ℕ, zero, ◌<◌, ◌≤◌, List, [], ◌∷◌, ◌++◌, length, map, reverse, refl, ap, sym, ◌∙◌, arith, Bool, true, false, cond, Some, None, inl, inr, subst}
use Rattle.std.specs.Prelude.{◌⊎◌, unwrap_or}
use Rattle.std.proofs.lemmas.Bool.{cases_Bool}
use Rattle.std.proofs.lemmas.List.{reverse-append}
use Rattle.cw_tree.specs.declared.node.Node.{Node}
use Rattle.cw_tree.specs.declared.picks.Turn.{Turn}
use Rattle.cw_tree.specs.Nodes.{parent_of, is_strand}
use Rattle.cw_tree.specs.Walks.{IsRooted}
use Rattle.cw_tree.specs.Series.{strand_of}
use Rattle.cw_tree.specs.Names.{name_of, turn, strands_on}
use Rattle.cw_tree.proofs.Walks.Climbs.{by_parent}
use Rattle.cw_tree.proofs.Walks.Strands.{strand_of_strand, strand_of_other}
use Rattle.cw_tree.proofs.Names.Turns.{turns_strand, turns_other}
use Rattle.cw_serial.specs.Machine.{same_name}
use Rattle.cw_serial.proofs.Turns.{name_true, name_itself}
use Rattle.cw_record.specs.Listed.{without_last, last_turn}

-- ## Two names

same_name_from : (p q : List Turn) → p ≡ q → same_name p q ≡ true
same_name_from p q e = (let P : List Turn → Type 0 = λ r. same_name p r ≡ true in subst P e (name_itself p))

pub name_sym : (p q : List Turn) → same_name p q ≡ same_name q p
name_sym p q =
    by_case (cases_Bool (same_name p q)) (cases_Bool (same_name q p)) where
      by_case : (same_name p q ≡ true) ⊎ (same_name p q ≡ false) → (same_name q p ≡ true) ⊎ (same_name q p ≡ false) → same_name p q ≡ same_name q p
      by_case (inl e) f = e ∙ sym (same_name_from q p (sym (name_true p q e)))
      by_case (inr e) (inl f) = absurd (cc (e, same_name_from p q (sym (name_true q p f))))
      by_case (inr e) (inr f) = e ∙ sym f

pub names_differ : (p q : List Turn) → (p ≡ q → ⊥) → same_name p q ≡ false
names_differ p q ne = elim (cases_Bool (same_name p q)) [ inl e ↦ absurd (ne (name_true p q e)) | inr e ↦ e ]

pub without_added : (p : List Turn) (x : Turn) → without_last (p ++ x ∷ []) ≡ p
without_added [] x = refl
without_added (y ∷ []) x = refl
without_added (y ∷ z ∷ p) x = ap (λ q. y ∷ q) (without_added (z ∷ p) x)

pub last_added : (p : List Turn) (x : Turn) → last_turn (p ++ x ∷ []) ≡ x
last_added [] x = refl
last_added (y ∷ []) x = refl
last_added (y ∷ z ∷ p) x = last_added (z ∷ p) x

added_some : (p : List Turn) (x : Turn) → p ++ x ∷ [] ≡ [] → ⊥
added_some [] x e = cc e
added_some (y ∷ p) x e = cc e

-- ## The name of a node

root_by : (t : List Node) (b : Bool) → is_strand t 0 ≡ b → name_of t (strand_of t 0) ≡ name_of t 0
root_by t true e = ap (λ b. name_of t (unwrap_or (cond b (Some zero) None) zero)) e
root_by t false e = ap (λ b. name_of t (unwrap_or (cond b (Some zero) None) zero)) e

pub root_strand : (t : List Node) → name_of t (strand_of t 0) ≡ name_of t 0
root_strand t = root_by t (is_strand t 0) refl

module _ (t : List Node) (r : IsRooted t) where
  -- a strand's name is that of its parent and one turn more, another node has its parent's
  pub name_strand : (n : ℕ) → 0 < n → n < length t → is_strand t n ≡ true → name_of t n ≡ name_of t (parent_of t n) ++ turn t n ∷ []
  name_strand n p h e =
      sym (ap reverse (turns_strand t r n p h (parent_of t n) (turn t n) [] refl e refl))
      ∙ reverse-append (turn t n ∷ []) (map (turn t) (strands_on t (parent_of t n)))

  pub name_other : (n : ℕ) → 0 < n → n < length t → is_strand t n ≡ false → name_of t n ≡ name_of t (parent_of t n)
  name_other n p h e = sym (ap reverse (turns_other t r n p h (parent_of t n) [] refl e))

  pub name_of_strand : (n : ℕ) → n < length t → name_of t (strand_of t n) ≡ name_of t n
  name_of_strand =
      by_parent t r (λ n. name_of t (strand_of t n) ≡ name_of t n) (root_strand t)
      (λ n p h more. elim (cases_Bool (is_strand t n)) [
        | inl e ↦ ap (name_of t) (strand_of_strand t r n p h e)
        | inr e ↦ ap (name_of t) (strand_of_other t r n p h e) ∙ more ∙ sym (name_other n p h e)
      ])

  -- a strand of the name of n, no later than n
  pub record Namesake (n : ℕ) : Type 0 where
    pub strand : ℕ
    pub child : 0 < strand
    pub early : strand ≤ n
    pub is : is_strand t strand ≡ true
    pub same : name_of t strand ≡ name_of t n

  pub namesake : (n : ℕ) → n < length t → (name_of t n ≡ []) ⊎ Namesake n
  namesake =
      by_parent t r (λ n. (name_of t n ≡ []) ⊎ Namesake n) (inl refl)
      (λ n p h more. elim (cases_Bool (is_strand t n)) [
        | inl e ↦ inr (record { strand = n; child = p; early = omega arith; is = e; same = refl })
        | inr e ↦ elim more [
          | inl none ↦ inl (name_other n p h e ∙ none)
          | inr s ↦ (let low : parent_of t n < n = r n p h in inr (record { strand = s.strand; child = s.child; early = omega (arith, s.early); is = s.is; same = s.same ∙ sym (name_other n p h e) }))
        ]
      ])

  pub parents_same : (n m : ℕ) → 0 < n → 0 < m → n < length t → m < length t → is_strand t n ≡ true → is_strand t m ≡ true → name_of t n ≡ name_of t m → (name_of t (parent_of t n) ≡ name_of t (parent_of t m)) × (turn t n ≡ turn t m)
  parents_same n m p q h l e f same =
      let both = sym (name_strand n p h e) ∙ same ∙ name_strand m q l f in (
        sym (without_added (name_of t (parent_of t n)) (turn t n)) ∙ ap without_last both ∙ without_added (name_of t (parent_of t m)) (turn t m),
        sym (last_added (name_of t (parent_of t n)) (turn t n)) ∙ ap last_turn both ∙ last_added (name_of t (parent_of t m)) (turn t m),
      )

  pub some_name : (n : ℕ) → 0 < n → n < length t → is_strand t n ≡ true → name_of t n ≡ [] → ⊥
  some_name n p h e none = added_some (name_of t (parent_of t n)) (turn t n) (sym (name_strand n p h e) ∙ none)
