-- Strands stay inside their blocks, as one of them makes a step that leaves all strands and forks.
use Rattle.std.proofs.Common.{◌≡◌, ◌≢◌, ℕ, zero, suc, ◌<◌, ◌≤◌, List, length, refl, ap, sym, ◌∙◌, subst, arith, Bool, true, false, inl, inr, nat_eq}
use Rattle.std.specs.Prelude.{◌⊎◌, ◌&&◌, ◌||◌}
use Rattle.std.specs.List.{list_any}
use Rattle.std.proofs.lemmas.Bool.{cases_eq}
use Rattle.cw_strand.specs.declared.want.Want.TheVariants.{Begin}
use Rattle.cw_strand.specs.Strands.{Strands}
use Rattle.cw_strand.specs.Saving.{Inside}
use Rattle.cw_tree.specs.declared.node.Node.{Node}
use Rattle.cw_tree.specs.Nodes.{parent_of, is_strand, is_pending}
use Rattle.cw_tree.specs.Walks.{has}
use Rattle.cw_tree.specs.Series.{strand_of}
use Rattle.cw_tree.specs.Shape.{IsTree}
use Rattle.cw_tree.proofs.Walks.Strands.{strand_of_le}
use Rattle.cw_tree.proofs.Walks.There.{strand_there}
use Rattle.cw_open.specs.Machine.{OpenMachine, has_finished, finished_dead, waits, is_running, is_dying}
use Rattle.cw_open.specs.Open.{is_open, AreNested}
use Rattle.cw_open.proofs.Open.Staying.{Stays, strand_stays}
use Rattle.cw_sim.proofs.Kept.Halves.{AsMade}
use Rattle.cw_sim.specs.Inside.{HasOneOpenFork, IsRightOf, goes_back, LivesIn, GoesBackIn, AreInside}
use Rattle.cw_sim.proofs.Inside.Waits.{going, none_right, pending_waits}

-- all strands and forks of machine m are left in machine z, with others waiting, joined and finished as before
pub record IsLeft (m z : OpenMachine) : Type 0 where
  pub stays : Stays m.tree z.tree
  pub strands : (y : ℕ) → is_strand z.tree y ≡ true → y < length m.tree
  pub waits : (y : ℕ) → waits z y ≡ waits m y
  pub joined : z.joined ≡ m.joined
  pub finished : z.finished ≡ m.finished

pub right_was : (t u : List Node) → Stays t u → (n y c : ℕ) → y < length t → IsRightOf u n y c → IsRightOf t n y c
right_was t u s zero y c h e = e
right_was t u s (suc n) y c h (f, (fork, (at, rest))) =
    let low : f < length t = omega (arith, at) in
    let le = strand_of_le t s.rooted f low in
    let P : ℕ → Type 0 = λ a. IsRightOf u n a c in
    (f, (sym (s.forks f low) ∙ fork, (at, right_was t u s n (strand_of t f) c (omega arith) (subst P (strand_stays t u s f low) rest))))

module _ {A : Type 0} (s : Strands A) where
  pub lives_to : (d e : Bool) (b c : A) (n : ℕ) (a o : A) → e ≡ d → c ≡ b → o ≡ a → LivesIn s d b n a → LivesIn s e c n o
  lives_to d e b c n a o de bc ao l =
      let P : Bool → Type 0 = λ x. LivesIn s x c n o in
      let Q : A → Type 0 = λ x. LivesIn s d x n o in
      let R : A → Type 0 = λ x. LivesIn s d b n x in
      subst P (sym de) (subst Q (sym bc) (subst R (sym ao) l))

  pub back_to : (b c a o : A) → c ≡ b → o ≡ a → GoesBackIn s b a → GoesBackIn s c o
  back_to b c a o bc ao l =
      let Q : A → Type 0 = λ x. GoesBackIn s x o in
      let R : A → Type 0 = λ x. GoesBackIn s b x in
      subst Q (sym bc) (subst R (sym ao) l)

  pub inside_to : (b c : A) (n : ℕ) (a o : A) → c ≡ b → o ≡ a → (inner : ℕ) × Inside s b n inner a → (inner : ℕ) × Inside s c n inner o
  inside_to b c n a o bc ao (inner, l) =
      let Q : A → Type 0 = λ x. Inside s x n inner o in
      let R : A → Type 0 = λ x. Inside s b n inner x in
      (inner, subst Q (sym bc) (subst R (sym ao) l))

module _ (m z : OpenMachine) (left : IsLeft m z) where
  finished_as : (y : ℕ) → has_finished z y ≡ has_finished m y
  finished_as y = ap (λ fs. list_any (λ f. nat_eq f.0 y) fs) left.finished

  pub dead_as : (y : ℕ) → finished_dead z y ≡ finished_dead m y
  dead_as y = ap (λ fs. list_any (λ f. nat_eq f.0 y && f.1) fs) left.finished

  stands_was : (y : ℕ) → HasOneOpenFork z y → HasOneOpenFork m y
  stands_was y st =
      let low = left.strands y st.strand in
      record {
        strand = sym (left.stays.strands y low) ∙ st.strand;
        apart = λ some. ap (λ js. has js (parent_of m.tree y)) (sym left.joined) ∙ ap (has z.joined) (sym (left.stays.parents y low)) ∙ st.apart some;
        alone = sym (left.waits y) ∙ st.alone;
      }

-- a block that was pending, with what was saved of it
pub record WasPending {A : Type 0} (m : OpenMachine) (saved after : ℕ → A) (b : ℕ) : Type 0 where
  pub low : b < length m.tree
  pub pending : is_pending m.tree b ≡ true
  pub saved_as : after b ≡ saved b

-- or one of strand x that is new
pub record IsBegun (m z : OpenMachine) (x b : ℕ) : Type 0 where
  pub past : length m.tree ≤ b
  pub own : strand_of z.tree b ≡ x

-- strand x makes a step
module _ {A : Type 0} (s : Strands A) (m z : OpenMachine) (tree : IsTree m.tree) (nested : AreNested m.tree (is_open m)) (made : AsMade m.tree) (left : IsLeft m z) (x : ℕ) (running : is_running m x ≡ true)
    (at saved there at_now saved_now there_now : ℕ → A) (old : AreInside s m at saved there) where
  abbrev pub Pends : ℕ → Type 0
  Pends b = WasPending m saved saved_now b ⊎ IsBegun m z x b

  -- what has to be known of other strands, and of blocks
  pub record IsStep : Type 0 where
    pub others_at : (y : ℕ) → y ≢ x → at_now y ≡ at y
    pub others_there : (y : ℕ) → y ≢ x → there_now y ≡ there y
    pub dying : (y : ℕ) → HasOneOpenFork m y → y ≢ x → is_dying z y ≡ is_dying m y
    pub pend : (b : ℕ) → is_pending z.tree b ≡ true → Pends b

  -- and of the strand itself
  pub record IsStepOf : Type 0 where
    pub same : is_dying z x ≡ false → there_now x ≡ at_now x
    pub lives : (b n : ℕ) → is_dying z x ≡ false → is_pending z.tree b ≡ true → Pends b → IsRightOf m.tree n x (strand_of z.tree b) → (inner : ℕ) × Inside s (saved_now b) n inner (at_now x)
    pub back : (b n : ℕ) → is_dying z x ≡ true → is_pending z.tree b ≡ true → Pends b → IsRightOf m.tree n x (strand_of z.tree b) → GoesBackIn s (saved_now b) (there_now x)
    pub blocks : (q b n : ℕ) → is_pending z.tree q ≡ true → IsBegun m z x q → is_pending z.tree b ≡ true → Pends b → IsRightOf m.tree n x (strand_of z.tree b) → (n ≡ 0 → b < q)
        → (inner : ℕ) × Inside s (saved_now b) n inner (saved_now q)
    pub begins : (q : ℕ) → is_pending z.tree q ≡ true → IsBegun m z x q → s.want (saved_now q) ≡ Begin

  x_alone : waits m x ≡ false
  x_alone = (going m x running).alone

  x_low : x < length m.tree
  x_low = strand_there m.tree x (going m x running).strand

  -- it has not finished
  x_going : has_finished z x ≡ false
  x_going = finished_as m z left x ∙ (going m x running).unfinished

  dead_no : finished_dead m x ≡ false
  dead_no = Rattle.std.proofs.lemmas.Bool.false_from_ne_true (finished_dead m x) (λ e. absurd (let d = Rattle.cw_open.proofs.Refused.Backed.dead_finished m x e in let g = (going m x running).unfinished in cc (d, g)))

  x_back : goes_back z x ≡ is_dying z x
  x_back = ap (λ b. is_dying z x || b) (dead_as m z left x ∙ dead_no) ∙ or_no (is_dying z x) where
    or_no : (b : Bool) → (b || false) ≡ b
    or_no true = refl
    or_no false = refl

  module _ (step : IsStep) (own : IsStepOf) where
    back_as : (y : ℕ) → HasOneOpenFork m y → y ≢ x → goes_back z y ≡ goes_back m y
    back_as y st ne = ap (λ b. b || finished_dead z y) (step.dying y st ne) ∙ ap (λ b. is_dying m y || b) (dead_as m z left y)

    own_as : (b : ℕ) → WasPending m saved saved_now b → strand_of z.tree b ≡ strand_of m.tree b
    own_as b w = strand_stays m.tree z.tree left.stays b w.low

    right_as : (y b n : ℕ) → y < length m.tree → WasPending m saved saved_now b → IsRightOf z.tree n y (strand_of z.tree b) → IsRightOf m.tree n y (strand_of m.tree b)
    right_as y b n h w e = let P : ℕ → Type 0 = λ c. IsRightOf m.tree n y c in subst P (own_as b w) (right_was m.tree z.tree left.stays n y (strand_of z.tree b) h e)

    right_x : (b n : ℕ) → IsRightOf z.tree n x (strand_of z.tree b) → IsRightOf m.tree n x (strand_of z.tree b)
    right_x b n e = right_was m.tree z.tree left.stays n x (strand_of z.tree b) x_low e

    -- no other strand that stands is in a new block
    not_begun : (y b n : ℕ) → HasOneOpenFork z y → y ≢ x → IsBegun m z x b → IsRightOf z.tree n y (strand_of z.tree b) → ⊥
    not_begun y b n st ne w e =
        let P : ℕ → Type 0 = λ c. IsRightOf m.tree n y c in
        let right = subst P w.own (right_was m.tree z.tree left.stays n y (strand_of z.tree b) (left.strands y st.strand) e) in
        ne (none_right m tree nested x running made y n (stands_was m z left y st) right)

    same : (y : ℕ) → HasOneOpenFork z y → goes_back z y ≡ false → there_now y ≡ at_now y
    same y st live = elim (cases_eq y x) [
      | inl e ↦ ap there_now e ∙ own.same (sym x_back ∙ ap (goes_back z) (sym e) ∙ live) ∙ ap at_now (sym e)
      | inr ne ↦ (let was = stands_was m z left y st in step.others_there y ne ∙ old.same y was (sym (back_as y was ne) ∙ live) ∙ sym (step.others_at y ne))
    ]

    lives : (y b n : ℕ) → HasOneOpenFork z y → goes_back z y ≡ false → is_pending z.tree b ≡ true → IsRightOf z.tree n y (strand_of z.tree b) → LivesIn s (has_finished z y) (saved_now b) n (at_now y)
    lives y b n st live pending right = elim (cases_eq y x) [
      | inl e ↦
          (let P : ℕ → Type 0 = λ c. LivesIn s (has_finished z c) (saved_now b) n (at_now c) in
          let Q : ℕ → Type 0 = λ c. IsRightOf z.tree n c (strand_of z.tree b) in
          let (inner, inside) = own.lives b n (sym x_back ∙ ap (goes_back z) (sym e) ∙ live) pending (step.pend b pending) (right_x b n (subst Q e right)) in
          let off = x_going in
          subst P (sym e) (record { inner = inner; inside = inside; stays = λ done. absurd (cc (done, off)) }))
      | inr ne ↦ elim (step.pend b pending) [
        | inr new ↦ absurd (not_begun y b n st ne new right)
        | inl w ↦
            (let was = stands_was m z left y st in
            let low = left.strands y st.strand in
            lives_to s (has_finished m y) (has_finished z y) (saved b) (saved_now b) n (at y) (at_now y) (finished_as m z left y) w.saved_as (step.others_at y ne)
            (old.lives y b n was (sym (back_as y was ne) ∙ live) w.pending (right_as y b n low w right)))
      ]
    ]

    back : (y b n : ℕ) → HasOneOpenFork z y → goes_back z y ≡ true → is_pending z.tree b ≡ true → IsRightOf z.tree n y (strand_of z.tree b) → GoesBackIn s (saved_now b) (there_now y)
    back y b n st goes pending right = elim (cases_eq y x) [
      | inl e ↦
          (let P : ℕ → Type 0 = λ c. GoesBackIn s (saved_now b) (there_now c) in
          let Q : ℕ → Type 0 = λ c. IsRightOf z.tree n c (strand_of z.tree b) in
          subst P (sym e) (own.back b n (sym x_back ∙ ap (goes_back z) (sym e) ∙ goes) pending (step.pend b pending) (right_x b n (subst Q e right))))
      | inr ne ↦ elim (step.pend b pending) [
        | inr new ↦ absurd (not_begun y b n st ne new right)
        | inl w ↦
            (let was = stands_was m z left y st in
            let low = left.strands y st.strand in
            back_to s (saved b) (saved_now b) (there y) (there_now y) w.saved_as (step.others_there y ne) (old.back y b n was (sym (back_as y was ne) ∙ goes) w.pending (right_as y b n low w right)))
      ]
    ]

    -- the strand of a pending block
    own_low : (q : ℕ) → WasPending m saved saved_now q → strand_of m.tree q < length m.tree
    own_low q w = let low = w.low in let le = strand_of_le m.tree tree.rooted q low in omega arith

    blocks : (q b n : ℕ) → is_pending z.tree q ≡ true → is_pending z.tree b ≡ true → IsRightOf z.tree n (strand_of z.tree q) (strand_of z.tree b) → (n ≡ 0 → b < q) → (inner : ℕ) × Inside s (saved_now b) n inner (saved_now q)
    blocks q b n pq pb right less = by (step.pend q pq) (step.pend b pb) where
      R : ℕ → Type 0
      R c = IsRightOf z.tree n c (strand_of z.tree b)

      by : Pends q → Pends b → (inner : ℕ) × Inside s (saved_now b) n inner (saved_now q)
      by (inr new) other = own.blocks q b n pq new pb other (right_x b n (subst R new.own right)) less
      by (inl w) (inl v) = inside_to s (saved b) (saved_now b) n (saved q) (saved_now q) v.saved_as w.saved_as (old.blocks q b n w.pending v.pending (right_as (strand_of m.tree q) b n (own_low q w) v (subst R (own_as q w) right)) less)
      by (inl w) (inr new) = absurd (none n right less) where
        none : (n : ℕ) → IsRightOf z.tree n (strand_of z.tree q) (strand_of z.tree b) → (n ≡ 0 → b < q) → ⊥
        none zero right less = let l = less refl in let h = w.low in let past = new.past in omega arith
        none (suc n) right less =
            let P : ℕ → Type 0 = λ c. IsRightOf z.tree (suc n) c (strand_of z.tree b) in
            let Q : ℕ → Type 0 = λ c. IsRightOf m.tree (suc n) (strand_of m.tree q) c in
            let up = subst Q new.own (right_was m.tree z.tree left.stays (suc n) (strand_of m.tree q) (strand_of z.tree b) (own_low q w) (subst P (own_as q w) right)) in
            let waiting = pending_waits m tree nested made q x n w.pending w.low (going m x running).strand up in
            let alone = x_alone in
            cc (waiting, alone)

    begins : (b : ℕ) → is_pending z.tree b ≡ true → s.want (saved_now b) ≡ Begin
    begins b pending = elim (step.pend b pending) [ inl w ↦ ap (λ a. s.want a) w.saved_as ∙ old.begins b w.pending | inr new ↦ own.begins b pending new ]

    pub steps : AreInside s z at_now saved_now there_now
    steps = record { same = same; lives = lives; back = back; blocks = blocks; begins = begins }
