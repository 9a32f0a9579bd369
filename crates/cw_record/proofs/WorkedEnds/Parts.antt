-- Claims on the states of a small record, node by node.
use Rattle.std.proofs.Common.{◌≡◌, ℕ, zero, suc, ◌<◌, List, [], ◌∷◌, length, arith, Bool, true, false, inl, inr, subst, sym, ◌∙◌, Some, unwrap_or}
use Rattle.std.specs.Prelude.{◌&&◌, ◌||◌, IsTrue, slice_get}
use Rattle.std.proofs.lemmas.Option.{same_Some}
use Rattle.cw_strand.specs.Strands.{Strands}
use Rattle.cw_tree.specs.declared.node.Node.{Node}
use Rattle.cw_tree.specs.Nodes.{parent_of, is_strand, is_fork, is_block, is_committed}
use Rattle.cw_tree.specs.Series.{children, has_later}
use Rattle.cw_tree.specs.Accesses.{live_accesses}
use Rattle.cw_tree.specs.Journals.{AllEndedBetween, JournalsEnded}
use Rattle.cw_tree.specs.Links.{last_child}
use Rattle.cw_tree.proofs.Lists.{at_or_before}
use Rattle.cw_tree.proofs.Worked.Checks.{all_below, each_below, implies, implied}
use Rattle.cw_record.specs.Coherent.{InSeries, entered, IsWanted, Follows, HasNoOpenFork}

-- the state in a list
abbrev pub state_in : {A : Type 0} → A → List A → ℕ → A
state_in a xs n = unwrap_or (slice_get xs n) a

abbrev pub AllBelow : (ℕ → Type 0) → ℕ → Type 0
AllBelow P zero = Unit {0}
AllBelow P (suc n) = AllBelow P n × P n

pub each : (P : ℕ → Type 0) (n : ℕ) → AllBelow P n → (m : ℕ) → m < n → P m
each P zero w m h = absurd (omega arith)
each P (suc n) w m h = elim (at_or_before m n h) [ inl l ↦ each P n w.0 m l | inr q ↦ subst P q w.1 ]

-- what holds of each node that a list has holds where a number finds one
abbrev pub AllFrom : (ℕ → Node → Type 0) → List Node → Type 0
AllFrom P [] = Unit {0}
AllFrom P (x ∷ xs) = P zero x × AllFrom (λ n. P (suc n)) xs

pub found : (P : ℕ → Node → Type 0) (xs : List Node) → AllFrom P xs → (m : ℕ) (x : Node) → slice_get xs m ≡ Some x → P m x
found P [] w m x e = absurd (cc e)
found P (y ∷ xs) w zero x e = let Q : Node → Type 0 = λ z. P zero z in subst Q (same_Some y x e) w.0
found P (y ∷ xs) w (suc m) x e = found (λ n. P (suc n)) xs w.1 m x e

-- what is claimed only where a test holds
abbrev pub Where : Bool → Type 0 → Type 0
Where true P = P
Where false P = Unit {0}

pub where_true : (b : Bool) (P : Type 0) → Where b P → IsTrue b → P
where_true true P h e = h
where_true false P h e = absurd (cc e)

module _ {A : Type 0} (s : Strands A) (t : List Node) (before after reached : ℕ → A) where
  abbrev pub Steady : ℕ → Type 0
  Steady n = Where (is_strand t n || is_block t n) (InSeries before after (entered s t before after reached n) (children t n) (reached n))

  abbrev pub FitsAt : ℕ → Node → Type 0
  FitsAt n x = IsWanted s t before after reached n x.kind x.state

  -- no strand went on behind this fork
  abbrev pub waits_test : ℕ → Bool
  waits_test f = implies (is_fork t f && (has_later t f || is_committed t (parent_of t f))) false

  -- the states of a tree in which no strand went on behind a fork
  pub follows : before 0 ≡ s.start → AllBelow Steady (length t) → AllFrom FitsAt t → all_below waits_test (length t) ≡ true → Follows s t before after reached
  follows start steady fits waits = record {
    start = start;
    series = λ n h e. where_true (is_strand t n || is_block t n) _ (each Steady (length t) steady n h) e;
    fits = found FitsAt t fits;
    joined = λ f h e. absurd (cc (implied _ _ (each_below waits_test (length t) waits f h) e));
  }

pub ended_two : (t : List Node) → AllEndedBetween t (live_accesses t 0) → AllEndedBetween t (live_accesses t 1) → JournalsEnded t 2
ended_two t h g zero l = h
ended_two t h g (suc zero) l = g
ended_two t h g (suc (suc c)) l = absurd (omega arith)

pub no_fork_last : {A : Type 0} (s : Strands A) (t : List Node) (before after reached : ℕ → A) (n c : ℕ) → last_child t n ≡ Some c → is_fork t c ≡ false → HasNoOpenFork s t before after reached n
no_fork_last s t before after reached n c last other f e k =
    let P : ℕ → Type 0 = λ m. IsTrue (is_fork t m) in
    let is = subst P (same_Some f c (sym e ∙ last)) k in
    absurd (cc (is, other))
