-- Over two laws of strands that want the same, the machine with one memory does the same, and a record replays over both or over neither.
use Rattle.std.proofs.Common.{◌≡◌, ◌≤◌, ℕ, ℤ, suc, List, [], ◌∷◌, length, refl, ap, sym, ◌∙◌, subst, arith, Bool, true, cond, Option, Some, None}
use Rattle.std.specs.Prelude.{All, slice_get, option_map, option_and_then, is_some, unwrap_or}
use Rattle.std.proofs.lemmas.List.Elements.{All-nil}
use Rattle.cw_strand.specs.declared.want.Want.{Want}
use Rattle.cw_strand.specs.declared.want.Want.TheVariants.{Fork, Sync, Done, Fault as AFault}
use Rattle.cw_strand.specs.Strands.{Strands, IsDeep, takes_answer}
use Rattle.cw_strand.specs.Pasts.{start, WantTheSame}
use Rattle.cw_strand.proofs.Pasts.{want_back}
use Rattle.cw_tree.specs.declared.node.Node.{Node}
use Rattle.cw_tree.specs.declared.picks.Name.{Name}
use Rattle.cw_tree.specs.declared.picks.Turn.{Turn}
use Rattle.cw_tree.specs.declared.picks.Picks.{Picks}
use Rattle.cw_tree.specs.declared.conflict.Conflict.{Conflict}
use Rattle.cw_tree.specs.Names.{name_of}
use Rattle.cw_tree.specs.Refusals.{telling}
use Rattle.cw_serial.specs.declared.ends.SerialEnd.TheVariants as last
use Rattle.cw_serial.specs.StrandTree.{at, put, state_at_end}
use Rattle.cw_serial.specs.Wants.{answer_to, memory_after, outputs_after, blocks_after, since_after}
use Rattle.cw_serial.specs.Machine.{Begun, Machine, same_name, may_pick, does, pick_at, pick, initial, has_ended, steps_down, stands_at, end_of_strand, end_of_named, machine_shows, play}
use Rattle.cw_serial.proofs.PuttingBack.{Fits, memory_fits, since_fits}
use Rattle.cw_serial.proofs.Working.{is_answer}
use Rattle.cw_record.specs.declared.record_end.RecordEnd.{RecordEnd}
use Rattle.cw_record.specs.declared.record_end.RecordEnd.TheVariants.{Finished, Fault, Budget, Moves}
use Rattle.cw_record.specs.declared.items.OrderItem.{OrderItem}
use Rattle.cw_record.specs.declared.items.OrderItem.TheVariants.{Begins, Does, Ends}
use Rattle.cw_record.specs.Items.{items}
use Rattle.cw_record.specs.Replay.{doer, DoesAll, IsActOf, IsItemDone, WantsAgain, IsSpent, Replays, SameEnd, StandsRefused}
use Rattle.cw_replay.specs.SameMachines.{BothOrNeither, AreTheSame, SameMachines, SameEnds, SameReplays, wanted, after_picks}
use Rattle.cw_replay.proofs.SameMachines.OnePast.{HaveOnePast, AreAlike, answered_so, at_alike, both_chosen, both_some, ended_alike, goes_alike, put_alike, want_same}

-- a want that is done takes an answer
takes : (w : Want) (block : Begun) (is_own : Begun → Bool) (bs cs : List Begun) → blocks_after block is_own w bs ≡ Some cs → takes_answer w ≡ true
takes Fork block is_own bs cs e = absurd cc
takes Sync block is_own bs cs e = absurd cc
takes Done block is_own bs cs e = absurd cc
takes (AFault k) block is_own bs cs e = absurd cc
takes _ block is_own bs cs e = refl

module _ {A : Type 0} (s : Strands A) where
  -- the machine once a strand of that name, which stands so, has done what it wants, with these blocks begun behind it
  abbrev made : Machine A → List Turn → A → List Begun → Machine A
  made m p a blocks = record {
    memory = memory_after (s.want a) m.memory;
    outputs = outputs_after (s.want a) m.outputs;
    strands = put s m.strands p (s.answer a (answer_to (s.want a) m.memory m.since));
    begun = blocks;
    since = since_after (s.want a) m.memory m.since;
  }

  abbrev blocks : Machine A → List Turn → A → Option (List Begun)
  blocks m p a = blocks_after (record { strand = p }) (λ b. same_name b.strand p) (s.want a) m.begun

module _ {A B : Type 0} (s : Strands A) (t : Strands B) (same : WantTheSame s t) (deep : IsDeep s) (other_deep : IsDeep t) where
  -- they have the same memory, outputs and begun blocks, which may put back the same, and their strands have one past, place by place; and
  -- the memory has no more elements than the cells
  pub record HoldTheSame (m : Machine A) (n : Machine B) : Type 0 where
    pub memory : m.memory ≡ n.memory
    pub outputs : m.outputs ≡ n.outputs
    pub begun : m.begun ≡ n.begun
    pub since : m.since ≡ n.since
    pub strands : AreAlike s t m.strands n.strands
    pub there : length m.memory ≤ s.elements
    pub fits : All (Fits s.elements) m.since

  holds_first : (first : List ℤ) → length first ≤ s.elements → HoldTheSame (initial s first) (initial t first)
  holds_first first there = record {
    memory = refl;
    outputs = refl;
    begun = refl;
    since = refl;
    strands = goes_alike s t same deep other_deep 0 s.start t.start (record { past = start; can = tt; one = refl; other = refl });
    there = there;
    fits = All-nil (Fits s.elements);
  }

  -- ## Picks

  module _ (m : Machine A) (n : Machine B) (h : HoldTheSame m n) (p : List Turn) where
    module _ (a : A) (b : B) (one : HaveOnePast s t a b) where
      w : s.want a ≡ t.want b
      w = want_same s t same a b one

      made_alike : (cs : List Begun) → blocks s m p a ≡ Some cs → HoldTheSame (made s m p a cs) (made t n p b cs)
      made_alike cs e =
          let one_given = answer_to (s.want a) m.memory m.since in
          let other_given = answer_to (t.want b) n.memory n.since in
          let answers = is_answer s.elements (s.want a) m.memory m.since h.fits (takes (s.want a) (record { strand = p }) (λ b. same_name b.strand p) m.begun cs e) in
          let given : one_given ≡ other_given =
          ap (λ x. answer_to x m.memory m.since) w ∙ (ap (λ x. answer_to (t.want b) x m.since) h.memory ∙ ap (answer_to (t.want b) n.memory) h.since) in
          let before = answered_so s t a b one_given one answers in
          let behind = subst (λ g. HaveOnePast s t (s.answer a one_given) (t.answer b g)) given before in
          record {
            memory = ap (λ x. memory_after x m.memory) w ∙ ap (memory_after (t.want b)) h.memory;
            outputs = ap (λ x. outputs_after x m.outputs) w ∙ ap (outputs_after (t.want b)) h.outputs;
            begun = refl;
            since = ap (λ x. since_after x m.memory m.since) w ∙ (ap (λ x. since_after (t.want b) x m.since) h.memory ∙ ap (since_after (t.want b) n.memory) h.since);
            strands = put_alike s t same deep other_deep m.strands n.strands h.strands p (s.answer a one_given) (t.answer b other_given) behind;
            there = memory_fits s.elements (s.want a) m.memory h.there;
            fits = since_fits s.elements (s.want a) m.memory m.since h.there h.fits;
          }

      same_blocks : blocks s m p a ≡ blocks t n p b
      same_blocks = ap (λ x. blocks_after (record { strand = p }) (λ b. same_name b.strand p) x m.begun) w ∙ ap (blocks_after (record { strand = p }) (λ b. same_name b.strand p) (t.want b)) h.begun

      does_alike : BothOrNeither HoldTheSame (does s m p a) (does t n p b)
      does_alike = subst (λ o. BothOrNeither HoldTheSame (does s m p a) (option_map (made t n p b) o)) same_blocks (by (blocks s m p a) refl) where
        by : (o : Option (List Begun)) → blocks s m p a ≡ o → BothOrNeither HoldTheSame (option_map (made s m p a) o) (option_map (made t n p b) o)
        by None e = tt
        by (Some cs) e = made_alike cs e

    -- the strands of that name, if both stand
    there : BothOrNeither (HaveOnePast s t) (at s m.strands p) (at t n.strands p)
    there = at_alike s t m.strands n.strands h.strands p

    pub pick_alike : BothOrNeither HoldTheSame (pick s m p) (pick t n p)
    pick_alike = by (at s m.strands p) (at t n.strands p) there where
      by : (o : Option A) (u : Option B) → BothOrNeither (HaveOnePast s t) o u → BothOrNeither HoldTheSame (pick_at s m p o) (pick_at t n p u)
      by None None one = tt
      by (Some a) (Some b) one =
          subst (λ bs. BothOrNeither HoldTheSame (cond (may_pick m.begun p) (does s m p a) None) (cond (may_pick bs p) (does t n p b) None)) h.begun
          (both_chosen HoldTheSame (may_pick m.begun p) (does s m p a) None (does t n p b) None (does_alike a b one) tt)
      by None (Some b) one = absurd one
      by (Some a) None one = absurd one

    same_wanted : wanted s m p ≡ wanted t n p
    same_wanted = by (at s m.strands p) (at t n.strands p) there where
      by : (o : Option A) (u : Option B) → BothOrNeither (HaveOnePast s t) o u → option_map s.want o ≡ option_map t.want u
      by None None one = refl
      by (Some a) (Some b) one = ap Some (want_same s t same a b one)
      by None (Some b) one = absurd one
      by (Some a) None one = absurd one

  -- ## What is seen of the machines

  same_ended : (m : Machine A) (n : Machine B) → HoldTheSame m n → has_ended s m ≡ has_ended t n
  same_ended m n h = by _ (state_at_end s m.strands) (state_at_end t n.strands) (ended_alike s t same m.strands n.strands h.strands) where
    by : (Is : A → B → Type 0) (o : Option A) (u : Option B) → BothOrNeither Is o u → is_some o ≡ is_some u
    by Is None None one = refl
    by Is (Some a) (Some b) one = refl
    by Is None (Some b) one = absurd one
    by Is (Some a) None one = absurd one

  are_the_same : (m : Machine A) (n : Machine B) → HoldTheSame m n → AreTheSame s t m n
  are_the_same m n h = record { memory = h.memory; outputs = h.outputs; begun = h.begun; since = h.since; wants = same_wanted m n h; ended = same_ended m n h }

  after_alike : (ps : List (List Turn)) (m : Machine A) (n : Machine B) → HoldTheSame m n → BothOrNeither (AreTheSame s t) (after_picks s m ps) (after_picks t n ps)
  after_alike [] m n h = are_the_same m n h
  after_alike (p ∷ ps) m n h = by (pick s m p) (pick t n p) (pick_alike m n h p) (after_alike ps) where
    by : (o : Option (Machine A)) (u : Option (Machine B)) → BothOrNeither HoldTheSame o u
        → ((m : Machine A) (n : Machine B) → HoldTheSame m n → BothOrNeither (AreTheSame s t) (after_picks s m ps) (after_picks t n ps))
        → BothOrNeither (AreTheSame s t) (option_and_then (λ x. after_picks s x ps) o) (option_and_then (λ x. after_picks t x ps) u)
    by None None one more = tt
    by (Some x) (Some y) one more = more x y one
    by None (Some y) one more = absurd one
    by (Some x) None one more = absurd one

  pub same_machines : SameMachines s t
  same_machines first ps there = after_alike ps (initial s first) (initial t first) (holds_first first there)

  -- ## Ends

  same_stand : (name : ℕ) (v : Want) → stands_at s name v ≡ stands_at t name v
  same_stand name v = refl

  same_end : (m : Machine A) (n : Machine B) → HoldTheSame m n → (name : ℕ) (o : Option (List Turn)) → end_of_named s m name o ≡ end_of_named t n name o
  same_end m n h name None = refl
  same_end m n h name (Some p) = by (at s m.strands p) (at t n.strands p) (there m n h p) where
    by : (o : Option A) (u : Option B) → BothOrNeither (HaveOnePast s t) o u → end_of_strand s name o ≡ end_of_strand t name u
    by None None one = refl
    by (Some a) (Some b) one = ap (stands_at s name) (want_same s t same a b one) ∙ same_stand name (t.want b)
    by None (Some b) one = absurd one
    by (Some a) None one = absurd one

  shown_alike : (m : Machine A) (n : Machine B) → HoldTheSame m n → (names : List Name) (name place : ℕ) → machine_shows s m names name place ≡ machine_shows t n names name place
  shown_alike m n h names name place =
      let e = same_ended m n h in
      let f = same_end m n h name (steps_down names name) in
      ap (λ c. cond c (last.Finished m.memory m.outputs) (unwrap_or (end_of_named s m name (steps_down names name)) (last.Stuck place))) e
      ∙ ap (λ x. cond (has_ended t n) (last.Finished x m.outputs) (unwrap_or (end_of_named s m name (steps_down names name)) (last.Stuck place))) h.memory
      ∙ ap (λ x. cond (has_ended t n) (last.Finished n.memory x) (unwrap_or (end_of_named s m name (steps_down names name)) (last.Stuck place))) h.outputs
      ∙ ap (λ o. cond (has_ended t n) (last.Finished n.memory n.outputs) (unwrap_or o (last.Stuck place))) f

  module _ (names : List Name) (name : ℕ) where
    abbrev PlayAlike : List ℕ → Type 0
    PlayAlike ns = (m : Machine A) (n : Machine B) → HoldTheSame m n → (place : ℕ) → play s m names ns name place ≡ play t n names ns name place

    next_play : (x : ℕ) (ns : List ℕ) → PlayAlike ns → PlayAlike (x ∷ ns)
    next_play x ns more m n h place = by_name (steps_down names x) refl where
      by_pick : (p : List Turn) → steps_down names x ≡ Some p → (o : Option (Machine A)) (u : Option (Machine B)) → BothOrNeither HoldTheSame o u → pick s m p ≡ o → pick t n p ≡ u
          → play s m names (x ∷ ns) name place ≡ play t n names (x ∷ ns) name place
      by_pick p e None None one f g = rw (e, f, g) refl
      by_pick p e (Some y) (Some z) one f g = rw (e, f, g) (more y z one (suc place))
      by_pick p e None (Some z) one f g = absurd one
      by_pick p e (Some y) None one f g = absurd one

      by_name : (o : Option (List Turn)) → steps_down names x ≡ o → play s m names (x ∷ ns) name place ≡ play t n names (x ∷ ns) name place
      by_name None e = rw e refl
      by_name (Some p) e = by_pick p e (pick s m p) (pick t n p) (pick_alike m n h p) refl refl

    play_alike : (ns : List ℕ) → PlayAlike ns
    play_alike [] m n h place = shown_alike m n h names name place
    play_alike (x ∷ ns) m n h place = next_play x ns (play_alike ns) m n h place

  pub same_ends : SameEnds s t
  same_ends first picks there = play_alike picks.names picks.last picks.list (initial s first) (initial t first) (holds_first first there) 0

  -- ## Records

  module _ (nodes : List Node) where
    item_alike : (m : Machine A) (n : Machine B) → m.memory ≡ n.memory → m.since ≡ n.since → (v w : Want) → v ≡ w → (i : OrderItem) → IsItemDone nodes m v i → IsItemDone nodes n w i
    item_alike m n e d v w f (Begins b) h = sym f ∙ h
    item_alike m n e d v w f (Does k) h = subst (λ x. IsActOf x n.since w (slice_get nodes k)) e (subst (λ x. IsActOf m.memory x w (slice_get nodes k)) d (subst (λ x. IsActOf m.memory m.since x (slice_get nodes k)) f h))
    item_alike m n e d v w f (Ends b) h = sym f ∙ h

    -- what the one machine does of the order, the other one does
    does_all_alike : (is : List OrderItem) (m o : Machine A) (n : Machine B) → HoldTheSame m n → DoesAll s nodes m is o → (u : Machine B) × DoesAll t nodes n is u × HoldTheSame o u
    does_all_alike [] m o n h e = (n, refl, subst (λ x. HoldTheSame x n) e h)
    does_all_alike (i ∷ is) m o n h (a, x, stood, item, picked, more) =
        let p = doer nodes i in
        let (b, stands, one) = both_some (HaveOnePast s t) (at s m.strands p) (at t n.strands p) (there m n h p) a stood in
        let (y, other_picked, held) = both_some HoldTheSame (pick s m p) (pick t n p) (pick_alike m n h p) x picked in
        let (u, acts, behind) = does_all_alike is x o y held more in
        (u, (b, y, stands, item_alike m n h.memory h.since (s.want a) (t.want b) (want_same s t same a b one) i item, other_picked, acts), behind)

    refused_alike : (m : Machine A) (n : Machine B) → HoldTheSame m n → (c : Option Conflict) (p : List Turn) → StandsRefused s c m p → StandsRefused t c n p
    refused_alike m n h None p r = r
    refused_alike m n h (Some c) p (a, stood, refused) =
        let (b, stands, one) = both_some (HaveOnePast s t) (at s m.strands p) (at t n.strands p) (there m n h p) a stood in
        (b, stands, subst (WantsAgain c) (want_same s t same a b one) refused)

    spent_alike : (m : Machine A) (n : Machine B) → HoldTheSame m n → (cs : List Conflict) (budget : ℕ) (e : RecordEnd) → IsSpent s nodes cs budget e m → IsSpent t nodes cs budget e n
    spent_alike m n h cs budget (Finished memory outputs) r = tt
    spent_alike m n h cs budget (Fault x kind) r = tt
    spent_alike m n h cs budget (Budget x) r = refused_alike m n h (telling nodes cs budget x) (name_of nodes x) r
    spent_alike m n h cs budget Moves r = tt

  -- what replays over the one replays over the other
  pub replays_over : (first : List ℤ) (budget : ℕ) (nodes : List Node) (cs : List Conflict) (picks : Picks) (e : RecordEnd) → length first ≤ s.elements → Replays s first budget nodes cs picks e → Replays t first budget nodes cs picks e
  replays_over first budget nodes cs picks e there r =
      let (u, acts, held) = does_all_alike nodes (items nodes cs budget e) (initial s first) r.machine (initial t first) (holds_first first there) r.acts in
      record {
        strand = r.strand;
        order = r.order;
        machine = u;
        acts = acts;
        end = subst (SameEnd e picks) (shown_alike r.machine u held picks.names picks.last (length picks.list)) r.end;
        spent = spent_alike nodes r.machine u held cs budget e r.spent;
      }

pub same_replays : {A B : Type 0} (s : Strands A) (t : Strands B) → IsDeep s → IsDeep t → WantTheSame s t → SameReplays s t
same_replays s t deep other_deep same first budget nodes cs picks e there = (
  replays_over s t same deep other_deep first budget nodes cs picks e there,
  replays_over t s (want_back s t same) other_deep deep first budget nodes cs picks e (omega (arith, there, same.elements)),
)
