-- Open nodes stay nested as nodes are made in open ones, and as one with nothing open in it is closed.
use Rattle.std.proofs.Common.{◌≡◌, ◌≢◌, ℕ, ◌<◌, List, [], ◌∷◌, ◌++◌, length, ap, sym, ◌∙◌, arith, Bool, true, false, inl, inr}
use Rattle.std.proofs.lemmas.Bool.{cases_eq, false_from_ne_true}
use Rattle.cw_tree.specs.declared.node.Node.{Node}
use Rattle.cw_tree.specs.Nodes.{is_fork_kind, parent_of, is_fork}
use Rattle.cw_tree.specs.Walks.{IsRooted}
use Rattle.cw_tree.proofs.NextNodes.Growing.{node_grown, number_grown, number_new}
use Rattle.cw_tree.proofs.NextNodes.Trees.{each_more}
use Rattle.cw_tree.proofs.NextNodes.Stamps.{each_two}
use Rattle.cw_open.specs.Open.{AreNested}

-- one node more, in an open one: where that is no fork, nothing else in it is open
module _ (t : List Node) (r : IsRooted t) (o : ℕ → Bool) (w : AreNested t o) (x : Node) (there : x.parent < length t) (opened : o x.parent ≡ true)
    (none : is_fork t x.parent ≡ false → (c : ℕ) → 0 < c → c < length t → parent_of t c ≡ x.parent → o c ≡ false) (z : ℕ → Bool) (same : (n : ℕ) → n < length t → z n ≡ o n) where
  abbrev u : List Node
  u = t ++ x ∷ []

  up : (n : ℕ) → n < length t → parent_of u n ≡ parent_of t n
  up = number_grown t (x ∷ []) (λ y. y.parent)

  up_new : parent_of u (length t) ≡ x.parent
  up_new = number_new t x (λ y. y.parent)

  pub nested_more : AreNested u z
  nested_more = record {
    outer = λ n some h.
        each_more t x (λ n. 0 < n → z n ≡ true → z (parent_of u n) ≡ true)
        (λ n h some e. let low : parent_of t n < n = r n some h in ap z (up n h) ∙ same (parent_of t n) (omega arith) ∙ w.outer n some h (sym (same n h) ∙ e))
        (λ some e. ap z up_new ∙ same x.parent there ∙ opened) n h some;
    last = λ c d some less hd.
        each_two t x (λ c d. 0 < c → c < d → parent_of u c ≡ parent_of u d → is_fork u (parent_of u c) ≡ false → z c ≡ false)
        (λ c d hc hd some less e f.
        let low : parent_of t c < c = r c some hc in
        same c hc
        ∙ w.last c d some less hd (sym (up c hc) ∙ e ∙ up d hd)
        (sym (node_grown t (x ∷ []) (λ y. is_fork_kind y.kind) (parent_of t c) (omega arith)) ∙ ap (is_fork u) (sym (up c hc)) ∙ f))
        (λ c h some less e f.
        let at : parent_of t c ≡ x.parent = sym (up c h) ∙ e ∙ up_new in
        same c h ∙ none (sym (node_grown t (x ∷ []) (λ y. is_fork_kind y.kind) x.parent there) ∙ ap (is_fork u) (sym (e ∙ up_new)) ∙ f) c some h at)
        (λ d h some less. absurd (omega arith))
        (λ some less. absurd (omega arith)) c d (omega arith) hd some less;
  }

-- a node with nothing open in it is open no more, and all else stays
pub nested_shut : (t u : List Node) (o z : ℕ → Bool) (q : ℕ) → AreNested t o → length u ≡ length t → ((n : ℕ) → parent_of u n ≡ parent_of t n) → ((n : ℕ) → is_fork u n ≡ is_fork t n)
    → ((n : ℕ) → n ≢ q → z n ≡ o n) → z q ≡ false → ((c : ℕ) → 0 < c → c < length t → parent_of t c ≡ q → o c ≡ false) → AreNested u z
nested_shut t u o z q w len up forks other here none =
    let was : (n : ℕ) → z n ≡ true → o n ≡ true = λ n e. elim (cases_eq n q) [ inl same ↦ absurd (cc (e, here, ap z same)) | inr ne ↦ sym (other n ne) ∙ e ] in
    record {
      outer = λ n some h e.
          ap z (up n)
          ∙ other (parent_of t n) (λ same. absurd (cc (was n e, none n some (omega arith) same)))
          ∙ w.outer n some (omega arith) (was n e);
      last = λ c d some less h e f.
          false_from_ne_true (z c) (λ y. absurd (cc (was c y, w.last c d some less (omega arith) (sym (up c) ∙ e ∙ up d) (sym (forks (parent_of t c)) ∙ ap (is_fork u) (sym (up c)) ∙ f))));
    }
