-- One worker goes depth first: what it does in turn is what the machine does at picks of the leftmost strand.
use Rattle.std.proofs.Common.{◌≡◌, ◌≤◌, ℕ, ℤ, zero, suc, List, [], ◌∷◌, length, refl, ap, sym, ◌∙◌, subst, true, false, cond, Some, None, append-nil}
use Rattle.std.specs.Prelude.{option_map, All}
use Rattle.cw_strand.specs.declared.want.Want.{Want}
use Rattle.cw_strand.specs.declared.want.Want.TheVariants.{Begin, End, Cancel, Fork, Sync, Done, Fault}
use Rattle.cw_strand.specs.Strands.{Strands, IsDeep, is_over, wants_fork, takes_answer, IsAnswer, own_after, MayWant, GoesTo, stays, answered, joins, Reached, of_main, of_left, of_right, Closes}
use Rattle.cw_serial.specs.StrandTree.{stands, state_at_end, meet, goes_on, at, put}
use Rattle.cw_serial.specs.Wants.{Since, answer_to, memory_after, outputs_after, blocks_after, since_after}
use Rattle.cw_serial.specs.Machine.{Begun, Machine, same_name, does, pick_at, pick}
use Rattle.cw_serial.specs.DepthFirst.{leftmost}
use Rattle.cw_serial.proofs.Deep.{meet_both, ended_stands, goes_nowhere, goes_over, goes_forking}
use Rattle.cw_serial.proofs.Turns.{name_itself}
use Rattle.std.proofs.lemmas.List.Elements.{All-nil}
use Rattle.cw_serial.proofs.PuttingBack.{Fits, since_fits, given_up_there, memory_fits}
use Rattle.cw_serial.proofs.Branches.{Branch, on_left, on_right, way, begun_in, may_pick_here, plugged, at_plugged, put_plugged, HasPassed, leftmost_plugged}

-- ## What a worker holds

-- how many blocks are begun in the strand that is run, and in those whose right strands it is in
abbrev pub own_in : {A : Type 0} → List (Branch A) → ℕ → List ℕ
own_in [] b = b ∷ []
own_in (on_left k n r ∷ c) b = b ∷ []
own_in (on_right k n m l ∷ c) b = b ∷ own_in c n

-- the strand that is run: `forks` says how many forks it made, `blocks` how many blocks are begun in it
pub record WorkerState (A : Type 0) : Type 0 where
  pub memory : List ℤ
  pub outputs : List ℤ
  pub branches : List (Branch A)
  pub forks : ℕ
  pub blocks : ℕ
  -- what the begun blocks may put back, the innermost first
  pub since : List Since
  pub strand : A

-- the begun blocks of a strand after a want of it
abbrev pub blocks_in : Want → ℕ → ℕ
blocks_in Begin b = suc b
blocks_in End (suc b) = b
blocks_in w b = b

-- what a want is answered with is what it takes
pub is_answer : (n : ℕ) (w : Want) (memory : List ℤ) (since : List Since) → All (Fits n) since → takes_answer w ≡ true → IsAnswer n w (answer_to w memory since)
is_answer n Fork memory since fits d = absurd (cc d)
is_answer n Sync memory since fits d = absurd (cc d)
is_answer n Done memory since fits d = absurd (cc d)
is_answer n (Fault k) memory since fits d = absurd (cc d)
is_answer n Cancel memory since fits d = given_up_there n since fits
is_answer n _ memory since fits d = tt

module _ {A : Type 0} (s : Strands A) where
  -- the machine that it stands for
  abbrev pub machine_at : WorkerState A → Machine A
  machine_at w = record { memory = w.memory; outputs = w.outputs; strands = plugged s w.branches (goes_on s w.forks w.strand); begun = begun_in w.branches w.blocks; since = w.since }

  -- after the strand's want was done
  abbrev pub after_act : WorkerState A → WorkerState A
  after_act w = record w {
    memory = memory_after (s.want w.strand) w.memory;
    outputs = outputs_after (s.want w.strand) w.outputs;
    blocks = blocks_in (s.want w.strand) w.blocks;
    since = since_after (s.want w.strand) w.memory w.since;
    strand = s.answer w.strand (answer_to (s.want w.strand) w.memory w.since);
  }

  -- on the left strand of a new fork
  abbrev pub after_fork : WorkerState A → WorkerState A
  after_fork w = record w { branches = on_left (suc w.forks) w.blocks (s.right w.strand) ∷ w.branches; forks = 0; blocks = 0; strand = s.left w.strand }

  -- The strand beneath these forks goes from its beginning to this state: that of main, or one of the two of the innermost fork. The
  -- strand that wants this fork is beneath the other ones, and on the right one the left one has come to its end.
  abbrev pub IsBeneath : List (Branch A) → List ℕ → A → Type 0
  IsBeneath [] own a = GoesTo s (0 ∷ []) s.start own a
  IsBeneath (on_left k n r ∷ c) own a = (f : A) × IsBeneath c (own_in c n) f × (s.want f ≡ Fork) × (r ≡ s.right f) × GoesTo s (0 ∷ []) (s.left f) own a
  IsBeneath (on_right k n m l ∷ c) own a =
      (f : A) × (beside : List ℕ) × IsBeneath c (own_in c n) f × (s.want f ≡ Fork) × GoesTo s (0 ∷ []) (s.left f) beside l × (is_over (s.want l) ≡ true) × GoesTo s (0 ∷ own_in c n) (s.right f) own a

  -- It runs one, over a memory of no more elements than the cells have.
  pub record IsAtWork (w : WorkerState A) : Type 0 where
    pub runs : IsBeneath w.branches (own_in w.branches w.blocks) w.strand
    pub there : length w.memory ≤ s.elements
    pub fits : All (Fits s.elements) w.since

  has_passed : (c : List (Branch A)) (own : List ℕ) (a : A) → IsBeneath c own a → HasPassed s c
  has_passed [] own a h = tt
  has_passed (on_left k n r ∷ c) own a h = has_passed c _ _ h.1
  has_passed (on_right k n m l ∷ c) own a h = (h.5, has_passed c _ _ h.2)

  reached_beneath : (c : List (Branch A)) (own : List ℕ) (a : A) → IsBeneath c own a → Reached s own a
  reached_beneath [] own a h = of_main h
  reached_beneath (on_left k n r ∷ c) own a h = of_left (reached_beneath c _ _ h.1) h.2 h.4
  reached_beneath (on_right k n m l ∷ c) own a h = of_right (reached_beneath c _ _ h.2) h.3 h.6

  -- the strand that is run can be reached
  pub reached : {w : WorkerState A} → IsAtWork w → Reached s (own_in w.branches w.blocks) w.strand
  reached {w = w} h = reached_beneath w.branches _ _ h.runs

  -- it goes on beneath the same forks
  goes_beneath : (c : List (Branch A)) (own next : List ℕ) (a b : A) → ((from : List ℕ) (first : A) → GoesTo s from first own a → GoesTo s from first next b) → IsBeneath c own a → IsBeneath c next b
  goes_beneath [] own next a b more h = more _ _ h
  goes_beneath (on_left k n r ∷ c) own next a b more h = (h.0, h.1, h.2, h.3, more _ _ h.4)
  goes_beneath (on_right k n m l ∷ c) own next a b more h = (h.0, h.1, h.2, h.3, h.4, h.5, more _ _ h.6)

  pub starts_work : (memory : List ℤ) → length memory ≤ s.elements → IsAtWork (record { memory = memory; outputs = []; branches = []; forks = 0; blocks = 0; since = []; strand = s.start })
  starts_work memory there = record { runs = stays; there = there; fits = All-nil (Fits s.elements) }

  -- ## A want

  own_after_act : (w : Want) (c : List (Branch A)) (b : ℕ) → takes_answer w ≡ true → MayWant w (own_in c b) → own_after w (own_in c b) ≡ own_in c (blocks_in w b)
  own_after_act Begin [] b d m = refl
  own_after_act Begin (on_left k n r ∷ c) b d m = refl
  own_after_act Begin (on_right k n o l ∷ c) b d m = refl
  own_after_act End [] (suc b) d m = refl
  own_after_act End (on_left k n r ∷ c) (suc b) d m = refl
  own_after_act End (on_right k n o l ∷ c) (suc b) d m = refl
  own_after_act End [] zero d m = absurd m
  own_after_act End (on_left k n r ∷ c) zero d m = absurd m
  own_after_act End (on_right k n o l ∷ c) zero d m = absurd m
  own_after_act Fork c b d m = absurd (cc d)
  own_after_act Sync c b d m = absurd (cc d)
  own_after_act Done c b d m = absurd (cc d)
  own_after_act (Fault k) c b d m = absurd (cc d)
  own_after_act _ c b d m = refl

  pub stands_by : (w : Want) → takes_answer w ≡ true → (is_over w ≡ false) × (wants_fork w ≡ false)
  stands_by Fork d = absurd (cc d)
  stands_by Sync d = absurd (cc d)
  stands_by Done d = absurd (cc d)
  stands_by (Fault k) d = absurd (cc d)
  stands_by _ d = (refl, refl)

  -- the block that is ended is the innermost one, and is the strand's own
  begun_after : (w : Want) (c : List (Branch A)) (b : ℕ) → takes_answer w ≡ true → MayWant w (own_in c b)
      → blocks_after (record { strand = way c }) (λ (o : Begun). same_name o.strand (way c)) w (begun_in c b) ≡ Some (begun_in c (blocks_in w b))
  begun_after End c (suc b) d m = ap (λ o. cond o (Some (begun_in c b)) None) (name_itself (way c))
  begun_after End c zero d m = absurd (none c m) where
    none : (c : List (Branch A)) → MayWant End (own_in c zero) → ⊥
    none [] m = m
    none (on_left k n r ∷ c) m = m
    none (on_right k n o l ∷ c) m = m
  begun_after Cancel c (suc b) d m = ap (λ o. cond o (Some (begun_in c (suc b))) None) (name_itself (way c))
  begun_after Cancel c zero d m = absurd (none c m) where
    none : (c : List (Branch A)) → MayWant Cancel (own_in c zero) → ⊥
    none [] m = m
    none (on_left k n r ∷ c) m = m
    none (on_right k n o l ∷ c) m = m
  begun_after Fork c b d m = absurd (cc d)
  begun_after Sync c b d m = absurd (cc d)
  begun_after Done c b d m = absurd (cc d)
  begun_after (Fault k) c b d m = absurd (cc d)
  begun_after _ c b d m = refl

  module _ (closes : Closes s) where
    pub acts : (w : WorkerState A) → IsAtWork w → takes_answer (s.want w.strand) ≡ true → IsAtWork (after_act w)
    acts w h d =
        let v : Want = s.want w.strand in
        let given = answer_to v w.memory w.since in
        let P : List ℕ → Type 0 = λ own. IsBeneath w.branches own (s.answer w.strand given) in
        record {
          runs = subst P (own_after_act v w.branches w.blocks d (closes _ _ (reached h))) (goes_beneath w.branches _ _ _ _ (λ from first g. answered g given (is_answer s.elements v w.memory w.since h.fits d)) h.runs);
          there = memory_fits s.elements v w.memory h.there;
          fits = since_fits s.elements v w.memory w.since h.there h.fits;
        }

    -- where the strand that is run stands
    stands_here : (w : WorkerState A) → wants_fork (s.want w.strand) ≡ false → is_over (s.want w.strand) ≡ false → state_at_end s (goes_on s w.forks w.strand) ≡ None
    stands_here w f o = ap (state_at_end s) (goes_nowhere s w.forks w.strand f) ∙ ap (λ b. cond b (Some w.strand) None) o

    pub at_here : (w : WorkerState A) → wants_fork (s.want w.strand) ≡ false → is_over (s.want w.strand) ≡ false → at s (machine_at w).strands (way w.branches) ≡ Some w.strand
    at_here w f o =
        ap (at s (plugged s w.branches (goes_on s w.forks w.strand))) (sym (append-nil (way w.branches)))
        ∙ (at_plugged s w.branches (goes_on s w.forks w.strand) [] (stands_here w f o)
        ∙ ap (λ t. at s t []) (goes_nowhere s w.forks w.strand f))

    pub leftmost_here : (w : WorkerState A) → IsAtWork w → wants_fork (s.want w.strand) ≡ false → is_over (s.want w.strand) ≡ false → leftmost s (machine_at w).strands ≡ Some (way w.branches)
    leftmost_here w h f o =
        leftmost_plugged s w.branches (goes_on s w.forks w.strand) [] (has_passed w.branches _ _ h.runs) (stands_here w f o) (ap (leftmost s) (goes_nowhere s w.forks w.strand f) ∙ ap (λ b. cond b None (Some [])) o)
        ∙ ap Some (append-nil (way w.branches))

    put_here : (w : WorkerState A) (b : A) → wants_fork (s.want w.strand) ≡ false → is_over (s.want w.strand) ≡ false → put s (plugged s w.branches (goes_on s w.forks w.strand)) (way w.branches) b ≡ plugged s w.branches (goes_on s w.forks b)
    put_here w b f o =
        ap (λ p. put s (plugged s w.branches (goes_on s w.forks w.strand)) p b) (sym (append-nil (way w.branches)))
        ∙ (put_plugged s w.branches (goes_on s w.forks w.strand) [] b (stands_here w f o)
        ∙ ap (λ t. plugged s w.branches (put s t [] b)) (goes_nowhere s w.forks w.strand f))

    -- the machine does the want at a pick
    does_act : (w : WorkerState A) → IsAtWork w → takes_answer (s.want w.strand) ≡ true → does s (machine_at w) (way w.branches) w.strand ≡ Some (machine_at (after_act w))
    does_act w h d =
        let (o, f) = stands_by (s.want w.strand) d in
        let a : A = s.answer w.strand (answer_to (s.want w.strand) w.memory w.since) in
        ap (option_map (λ blocks. record (machine_at (after_act w)) { strands = put s (machine_at w).strands (way w.branches) a; begun = blocks })) (begun_after (s.want w.strand) w.branches w.blocks d (closes _ _ (reached h)))
        ∙ ap (λ t. Some (record (machine_at (after_act w)) { strands = t })) (put_here w a f o)

    pub act_is_pick : (w : WorkerState A) → IsAtWork w → takes_answer (s.want w.strand) ≡ true → pick s (machine_at w) (way w.branches) ≡ Some (machine_at (after_act w))
    act_is_pick w h d =
        let (o, f) = stands_by (s.want w.strand) d in
        ap (pick_at s (machine_at w) (way w.branches)) (at_here w f o)
        ∙ (ap (λ b. cond b (does s (machine_at w) (way w.branches) w.strand) None) (may_pick_here w.branches w.blocks) ∙ does_act w h d)

    -- ## Forks and joins

    pub forks_off : (w : WorkerState A) → IsAtWork w → s.want w.strand ≡ Fork → IsAtWork (after_fork w)
    forks_off w h f = record { runs = (w.strand, h.runs, f, refl, stays); there = h.there; fits = h.fits }

    -- a strand is at its end without a block of its own
    no_block : (w : Want) (b : ℕ) (bs : List ℕ) → is_over w ≡ true → MayWant w (b ∷ bs) → b ≡ 0
    no_block Sync zero bs o m = refl
    no_block Sync (suc b) bs o m = absurd m
    no_block Done zero bs o m = refl
    no_block Done (suc b) bs o m = absurd m
    no_block _ b bs o m = absurd (cc o)

    -- so the strand that is run has none where it is at its end
    pub none_begun : (w : WorkerState A) → IsAtWork w → is_over (s.want w.strand) ≡ true → w.blocks ≡ 0
    none_begun w h o = by w.branches (closes _ _ (reached h)) where
      by : (c : List (Branch A)) → MayWant (s.want w.strand) (own_in c w.blocks) → w.blocks ≡ 0
      by [] m = no_block (s.want w.strand) w.blocks [] o m
      by (on_left k n r ∷ c) m = no_block (s.want w.strand) w.blocks [] o m
      by (on_right k n x l ∷ c) m = no_block (s.want w.strand) w.blocks (own_in c n) o m

    -- the machine is the same on the left strand of a fork
    pub fork_stays : (deep : IsDeep s) (w : WorkerState A) → s.want w.strand ≡ Fork → machine_at (after_fork w) ≡ machine_at w
    fork_stays deep w f = ap (λ t. record { memory = w.memory; outputs = w.outputs; strands = plugged s w.branches t; begun = begun_in w.branches w.blocks; since = w.since }) (sym (goes_forking s deep w.forks w.strand f))

    module _ (memory outputs : List ℤ) (since : List Since) (c : List (Branch A)) (k n : ℕ) (m b : ℕ) (a : A) (over : is_over (s.want a) ≡ true) where
      -- at the end of a left strand, where the right one is to come
      abbrev pub at_left_end : A → WorkerState A
      at_left_end r = record { memory = memory; outputs = outputs; branches = on_left k n r ∷ c; forks = m; blocks = b; since = since; strand = a }

      abbrev pub after_turn : A → WorkerState A
      after_turn r = record { memory = memory; outputs = outputs; branches = on_right k n m a ∷ c; forks = 0; blocks = 0; since = since; strand = r }

      pub turns_right : (r : A) → IsAtWork (at_left_end r) → IsAtWork (after_turn r)
      turns_right r h =
          let P : A → Type 0 = λ x. GoesTo s (0 ∷ own_in c n) x (0 ∷ own_in c n) r in
          record { runs = (h.runs.0, b ∷ [], h.runs.1, h.runs.2, h.runs.4, over, subst P h.runs.3 stays); there = h.there; fits = h.fits }

      pub turn_stays : (r : A) → IsAtWork (at_left_end r) → machine_at (after_turn r) ≡ machine_at (at_left_end r)
      turn_stays r h =
          ap (λ t. record { memory = memory; outputs = outputs; strands = plugged s c (meet s (goes_on s) k t (goes_on s 0 r)); begun = begun_in c n; since = since }) (sym (goes_over s m a over))
          ∙ ap (λ x. record { memory = memory; outputs = outputs; strands = plugged s c (meet s (goes_on s) k (goes_on s m a) (goes_on s 0 r)); begun = begun_in (on_left k n r ∷ c) x; since = since }) (sym (no_block (s.want a) b [] over (closes _ _ (reached h))))

      -- at the end of a right strand, where the left one has ended
      abbrev pub at_right_end : ℕ → A → WorkerState A
      at_right_end o l = record { memory = memory; outputs = outputs; branches = on_right k n o l ∷ c; forks = m; blocks = b; since = since; strand = a }

      abbrev pub after_join : A → WorkerState A
      after_join l = record { memory = memory; outputs = outputs; branches = c; forks = k; blocks = n; since = since; strand = s.joined a l }

      pub joins_up : (o : ℕ) (l : A) → IsAtWork (at_right_end o l) → IsAtWork (after_join l)
      joins_up o l h =
          record { runs = goes_beneath c _ _ _ _ (λ from first g. joins g h.runs.3 h.runs.4 h.runs.5 h.runs.6 over) h.runs.2; there = h.there; fits = h.fits }

      pub join_stays : (o : ℕ) (l : A) → IsAtWork (at_right_end o l) → machine_at (after_join l) ≡ machine_at (at_right_end o l)
      join_stays o l h =
          let none : b ≡ 0 = no_block (s.want a) b (own_in c n) over (closes _ _ (reached h)) in
          ap (λ t. record { memory = memory; outputs = outputs; strands = plugged s c t; begun = begun_in c n; since = since }) (sym (meet_both s (goes_on s) k (stands o l) (stands m a) l a (ended_stands s o l h.runs.5) (ended_stands s m a over)))
          ∙ (ap (λ t. record { memory = memory; outputs = outputs; strands = plugged s c (meet s (goes_on s) k (stands o l) t); begun = begun_in c n; since = since }) (sym (goes_over s m a over))
          ∙ ap (λ y. record { memory = memory; outputs = outputs; strands = plugged s c (meet s (goes_on s) k (stands o l) (goes_on s m a)); begun = begun_in (on_right k n o l ∷ c) y; since = since }) (sym none))
