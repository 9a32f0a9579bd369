-- Forks that follow each other are all made: more levels than the depth change nothing.
use Rattle.std.proofs.Common.{◌≡◌, ℕ, zero, suc, ◌<◌, ◌≤◌, refl, ap, sym, ◌∙◌, arith, Bool, true, false, cond, Option, Some, None}
use Rattle.cw_strand.specs.declared.want.Want.{Want}
use Rattle.cw_strand.specs.declared.want.Want.TheVariants.{Fork}
use Rattle.cw_strand.specs.Strands.{Strands, IsDeep, is_over, wants_fork}
use Rattle.cw_serial.specs.StrandTree.{StrandTree, stands, waits, state_at_end, meet, run_on, goes_on}

pub fork_want : (w : Want) → wants_fork w ≡ true → w ≡ Fork
fork_want Fork e = refl
fork_want _ e = absurd (cc e)

-- a strand at its end wants no fork
pub over_no_fork : (w : Want) → is_over w ≡ true → wants_fork w ≡ false
over_no_fork Fork e = absurd (cc e)
over_no_fork _ e = refl

module _ {A : Type 0} (s : Strands A) where
  -- ## Where two strands meet

  -- by what they have ended with
  abbrev pub met : (ℕ → A → StrandTree A) → ℕ → (left right : StrandTree A) → (ended_left ended_right : Option A) → StrandTree A
  met go k l r None q = waits k l r
  met go k l r (Some x) None = waits k l r
  met go k l r (Some x) (Some y) = go k (s.joined y x)

  meet_by : (go : ℕ → A → StrandTree A) (k : ℕ) (l r : StrandTree A) (o q : Option A) → elim o [ None ↦ waits k l r | Some x ↦ elim q [ None ↦ waits k l r | Some y ↦ go k (s.joined y x) ] ] ≡ met go k l r o q
  meet_by go k l r None q = refl
  meet_by go k l r (Some x) None = refl
  meet_by go k l r (Some x) (Some y) = refl

  pub meet_is : (go : ℕ → A → StrandTree A) (k : ℕ) (l r : StrandTree A) → meet s go k l r ≡ met go k l r (state_at_end s l) (state_at_end s r)
  meet_is go k l r = meet_by go k l r (state_at_end s l) (state_at_end s r)

  -- where the left strand has not ended, or the right one
  pub meet_left : (go : ℕ → A → StrandTree A) (k : ℕ) (l r : StrandTree A) → state_at_end s l ≡ None → meet s go k l r ≡ waits k l r
  meet_left go k l r e = meet_is go k l r ∙ ap (λ o. met go k l r o (state_at_end s r)) e

  met_right : (go : ℕ → A → StrandTree A) (k : ℕ) (l r : StrandTree A) (o : Option A) → met go k l r o None ≡ waits k l r
  met_right go k l r None = refl
  met_right go k l r (Some x) = refl

  pub meet_right : (go : ℕ → A → StrandTree A) (k : ℕ) (l r : StrandTree A) → state_at_end s r ≡ None → meet s go k l r ≡ waits k l r
  meet_right go k l r e = meet_is go k l r ∙ (ap (met go k l r (state_at_end s l)) e ∙ met_right go k l r (state_at_end s l))

  pub meet_both : (go : ℕ → A → StrandTree A) (k : ℕ) (l r : StrandTree A) (x y : A) → state_at_end s l ≡ Some x → state_at_end s r ≡ Some y → meet s go k l r ≡ go k (s.joined y x)
  meet_both go k l r x y e f = meet_is go k l r ∙ (ap (λ o. met go k l r o (state_at_end s r)) e ∙ ap (met go k l r (Some x)) f)

  met_same : (go run : ℕ → A → StrandTree A) (k : ℕ) (l r : StrandTree A) (o q : Option A) → ((x y : A) → q ≡ Some y → go k (s.joined y x) ≡ run k (s.joined y x)) → met go k l r o q ≡ met run k l r o q
  met_same go run k l r None q same = refl
  met_same go run k l r (Some x) None same = refl
  met_same go run k l r (Some x) (Some y) same = same x y refl

  meet_same : (go run : ℕ → A → StrandTree A) (k : ℕ) (l r : StrandTree A) → ((x y : A) → state_at_end s r ≡ Some y → go k (s.joined y x) ≡ run k (s.joined y x)) → meet s go k l r ≡ meet s run k l r
  meet_same go run k l r same = meet_is go k l r ∙ (met_same go run k l r (state_at_end s l) (state_at_end s r) same ∙ sym (meet_is run k l r))

  -- ## Levels

  pub run_stays : (n k : ℕ) (a : A) → wants_fork (s.want a) ≡ false → run_on s n k a ≡ stands k a
  run_stays zero k a e = refl
  run_stays (suc n) k a e = ap (λ b. elim b [ false ↦ stands k a | true ↦ meet s (run_on s n) (suc k) (run_on s n 0 (s.left a)) (run_on s n 0 (s.right a)) ]) e

  run_forks : (n k : ℕ) (a : A) → s.want a ≡ Fork → run_on s (suc n) k a ≡ meet s (run_on s n) (suc k) (run_on s n 0 (s.left a)) (run_on s n 0 (s.right a))
  run_forks n k a e = ap (λ b. elim b [ false ↦ stands k a | true ↦ meet s (run_on s n) (suc k) (run_on s n 0 (s.left a)) (run_on s n 0 (s.right a)) ]) (ap wants_fork e)

  pub ended_stands : (k : ℕ) (a : A) → is_over (s.want a) ≡ true → state_at_end s (stands k a) ≡ Some a
  ended_stands k a e = ap (λ b. cond b (Some a) None) e

  -- what a standing strand has ended with is the strand itself
  ended_by : (b : Bool) (a y : A) → cond b (Some a) None ≡ Some y → a ≡ y
  ended_by true a y e = cc
  ended_by false a y e = absurd (cc e)

  pub ended_itself : (k : ℕ) (a y : A) → state_at_end s (stands k a) ≡ Some y → a ≡ y
  ended_itself k a y e = ended_by (is_over (s.want a)) a y e

  -- a strand that wants no fork goes nowhere
  pub goes_nowhere : (k : ℕ) (a : A) → wants_fork (s.want a) ≡ false → goes_on s k a ≡ stands k a
  goes_nowhere k a e = run_stays (s.depth a) k a e

  pub goes_over : (k : ℕ) (a : A) → is_over (s.want a) ≡ true → goes_on s k a ≡ stands k a
  goes_over k a e = goes_nowhere k a (over_no_fork (s.want a) e)

  module _ (deep : IsDeep s) where
    -- what strands have ended with is no deeper than where they went on from
    ended_met : (n : ℕ) → ((k : ℕ) (b y : A) → state_at_end s (run_on s n k b) ≡ Some y → s.depth y ≤ s.depth b) → (k : ℕ) (l : StrandTree A) (a y : A) (o q : Option A) → s.want a ≡ Fork → state_at_end s (run_on s n 0 (s.right a)) ≡ q
        → state_at_end s (met (run_on s n) (suc k) l (run_on s n 0 (s.right a)) o q) ≡ Some y → s.depth y ≤ s.depth a
    ended_met n more k l a y None q w r e = absurd (cc e)
    ended_met n more k l a y (Some x) None w r e = absurd (cc e)
    ended_met n more k l a y (Some x) (Some z) w r e =
        let one : s.depth y ≤ s.depth (s.joined z x) = more (suc k) (s.joined z x) y e in
        let two : s.depth (s.joined z x) ≤ s.depth z = deep.joined z x in
        let three : s.depth z ≤ s.depth (s.right a) = more 0 (s.right a) z r in
        let four : s.depth (s.right a) < s.depth a = deep.right a w in
        omega arith

    ended_below : (n k : ℕ) (a y : A) → state_at_end s (run_on s n k a) ≡ Some y → s.depth y ≤ s.depth a
    ended_below zero k a y e = omega (arith, ap s.depth (ended_itself k a y e))
    ended_below (suc n) k a y e = by (wants_fork (s.want a)) refl (λ k b y e. ended_below n k b y e) where
      by : (b : Bool) → wants_fork (s.want a) ≡ b → ((k : ℕ) (b y : A) → state_at_end s (run_on s n k b) ≡ Some y → s.depth y ≤ s.depth b) → s.depth y ≤ s.depth a
      by false q more = omega (arith, ap s.depth (ended_itself k a y (sym (ap (state_at_end s) (run_stays (suc n) k a q)) ∙ e)))
      by true q more =
          let w = fork_want (s.want a) q in
          let l = run_on s n 0 (s.left a) in
          let r = run_on s n 0 (s.right a) in
          ended_met n more k l a y (state_at_end s l) (state_at_end s r) w refl (sym (ap (state_at_end s) (run_forks n k a w ∙ meet_is (run_on s n) (suc k) l r)) ∙ e)

    pub ended_depth : (k : ℕ) (a y : A) → state_at_end s (goes_on s k a) ≡ Some y → s.depth y ≤ s.depth a
    ended_depth k a y e = ended_below (s.depth a) k a y e

    no_fork : (a : A) → s.depth a ≤ 0 → wants_fork (s.want a) ≡ false
    no_fork a h = by (wants_fork (s.want a)) refl where
      by : (b : Bool) → wants_fork (s.want a) ≡ b → b ≡ false
      by false q = refl
      by true q = absurd (let less : s.depth (s.left a) < s.depth a = deep.left a (fork_want (s.want a) q) in omega arith)

    -- levels enough are the same
    pub same_levels : (n m k : ℕ) (a : A) → s.depth a ≤ n → s.depth a ≤ m → run_on s n k a ≡ run_on s m k a
    same_levels zero m k a h i = sym (run_stays m k a (no_fork a h))
    same_levels (suc n) zero k a h i = run_stays (suc n) k a (no_fork a i)
    same_levels (suc n) (suc m) k a h i = by (wants_fork (s.want a)) refl (λ k b h i. same_levels n m k b h i) where
      by : (b : Bool) → wants_fork (s.want a) ≡ b → ((k : ℕ) (b : A) → s.depth b ≤ n → s.depth b ≤ m → run_on s n k b ≡ run_on s m k b) → run_on s (suc n) k a ≡ run_on s (suc m) k a
      by false q more = run_stays (suc n) k a q ∙ sym (run_stays (suc m) k a q)
      by true q more =
          let w = fork_want (s.want a) q in
          let left_less : s.depth (s.left a) < s.depth a = deep.left a w in
          let right_less : s.depth (s.right a) < s.depth a = deep.right a w in
          run_forks n k a w
          ∙ (ap (λ x. meet s (run_on s n) (suc k) x (run_on s n 0 (s.right a))) (more 0 (s.left a) (omega arith) (omega arith))
          ∙ (ap (meet s (run_on s n) (suc k) (run_on s m 0 (s.left a))) (more 0 (s.right a) (omega arith) (omega arith))
          ∙ (meet_same (run_on s n) (run_on s m) (suc k) (run_on s m 0 (s.left a)) (run_on s m 0 (s.right a)) (λ x y e.
          let below : s.depth y ≤ s.depth (s.right a) = ended_below m 0 (s.right a) y e in
          let falls : s.depth (s.joined y x) ≤ s.depth y = deep.joined y x in
          more (suc k) (s.joined y x) (omega arith) (omega arith))
          ∙ sym (run_forks m k a w))))

    -- a strand that wants a fork makes it
    pub goes_forking : (k : ℕ) (a : A) → s.want a ≡ Fork → goes_on s k a ≡ meet s (goes_on s) (suc k) (goes_on s 0 (s.left a)) (goes_on s 0 (s.right a))
    goes_forking k a w =
        let left_less : s.depth (s.left a) < s.depth a = deep.left a w in
        let right_less : s.depth (s.right a) < s.depth a = deep.right a w in
        let n = s.depth a in
        same_levels n (suc n) k a (omega arith) (omega arith)
        ∙ (run_forks n k a w
        ∙ (ap (λ x. meet s (run_on s n) (suc k) x (run_on s n 0 (s.right a))) (same_levels n (s.depth (s.left a)) 0 (s.left a) (omega arith) (omega arith))
        ∙ (ap (meet s (run_on s n) (suc k) (goes_on s 0 (s.left a))) (same_levels n (s.depth (s.right a)) 0 (s.right a) (omega arith) (omega arith))
        ∙ meet_same (run_on s n) (goes_on s) (suc k) (goes_on s 0 (s.left a)) (goes_on s 0 (s.right a)) (λ x y e.
        let below : s.depth y ≤ s.depth (s.right a) = ended_depth 0 (s.right a) y e in
        let falls : s.depth (s.joined y x) ≤ s.depth y = deep.joined y x in
        same_levels n (s.depth (s.joined y x)) (suc k) (s.joined y x) (omega arith) (omega arith)))))
