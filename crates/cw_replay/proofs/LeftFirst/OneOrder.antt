-- There is only one depth-first order: the machine before a pick determines that pick, and whether there is one.
use Rattle.std.proofs.Common.{◌≡◌, List, ◌∷◌, refl, ap, sym, ◌∙◌, subst, Bool, true, false, cond, Option, Some, None}
use Rattle.std.specs.Prelude.{option_map, is_some}
use Rattle.cw_code.specs.declared.FaultKind.{FaultKind}
use Rattle.cw_strand.specs.declared.want.Want.TheVariants.{Fault as AFault}
use Rattle.cw_strand.specs.Strands.{Strands}
use Rattle.cw_tree.specs.declared.node.Node.{Node}
use Rattle.cw_tree.specs.declared.picks.Turn.{Turn}
use Rattle.cw_tree.specs.Names.{name_of}
use Rattle.cw_serial.specs.StrandTree.{at, put, state_at_end}
use Rattle.cw_serial.specs.Wants.{answer_to, memory_after, outputs_after, blocks_after, since_after}
use Rattle.cw_serial.specs.Machine.{Begun, Machine, same_name, may_pick, does, pick_at, pick, has_ended}
use Rattle.cw_serial.specs.DepthFirst.{leftmost, GoesDepthFirst, here, picks}
use Rattle.cw_job.specs.Jobs.{Job}
use Rattle.cw_job.specs.Room.Strands.{StrandState, strands_of_job}
use Rattle.cw_record.specs.declared.record_end.RecordEnd.{RecordEnd}
use Rattle.cw_record.specs.declared.record_end.RecordEnd.TheVariants.{Finished, Fault, Budget, Moves}
use Rattle.cw_record.specs.Records.{StopsAt}
use Rattle.cw_replay.specs.LeftFirst.{SameEnding, DepthFirstIsOne}
use Rattle.cw_replay.proofs.LeftFirst.Leftmost.{ended_none}

module _ {A : Type 0} (s : Strands A) where
  -- no leftmost strand can be picked
  abbrev pub NoPick : Machine A → Type 0
  NoPick m = (p : List Turn) (n : Machine A) → leftmost s m.strands ≡ Some p → pick s m p ≡ Some n → ⊥

  -- a strand at a fault is not picked
  fault_no_pick : (m : Machine A) (p : List Turn) (a : A) (kind : FaultKind) → at s m.strands p ≡ Some a → s.want a ≡ AFault kind → pick s m p ≡ None
  fault_no_pick m p a kind stood wants = ap (pick_at s m p) stood ∙ by (may_pick m.begun p) where
    next : List Begun → Machine A
    next bs = record { memory = memory_after (s.want a) m.memory; outputs = outputs_after (s.want a) m.outputs; strands = put s m.strands p (s.answer a (answer_to (s.want a) m.memory m.since)); begun = bs; since = since_after (s.want a) m.memory m.since }

    none : does s m p a ≡ None
    none = ap (λ w. option_map next (blocks_after (record { strand = p }) (λ (b : Begun). same_name b.strand p) w m.begun)) wants

    by : (b : Bool) → cond b (does s m p a) None ≡ None
    by true = none
    by false = refl

  -- where all strands have ended there is no leftmost one
  ended_no_leftmost : (m : Machine A) → has_ended s m ≡ true → leftmost s m.strands ≡ None
  ended_no_leftmost m e = by (state_at_end s m.strands) refl e where
    by : (o : Option A) → state_at_end s m.strands ≡ o → is_some o ≡ true → leftmost s m.strands ≡ None
    by None q e = absurd (cc e)
    by (Some a) q e = ended_none s m.strands a q

  same_runs : (m n u : Machine A) (ps qs : List (List Turn)) → GoesDepthFirst s m ps n → GoesDepthFirst s m qs u → NoPick n → NoPick u → (ps ≡ qs) × (n ≡ u)
  same_runs m n u ps qs here here a b = (refl, refl)
  same_runs m n u ps qs here (picks {n = v} {p = q} l k g) a b = absurd (a q v l k)
  same_runs m n u ps qs (picks {n = v} {p = p} l k g) here a b = absurd (b p v l k)
  same_runs m n u ps qs (picks {n = v} {p = p} {ps = xs} l k g) (picks {n = w} {p = q} {ps = ys} i j h) a b =
      let one : p ≡ q = (let e : Some p ≡ Some q = sym l ∙ i in cc e) in
      let two : w ≡ v = (let e : Some w ≡ Some v = sym j ∙ ap (pick s m) (sym one) ∙ k in cc e) in
      let P : Machine A → Type 0 = λ x. GoesDepthFirst s x ys u in
      let z = same_runs v n u xs ys g (subst P two h) a b in
      (ap (λ x. x ∷ xs) one ∙ ap (λ zs. q ∷ zs) z.0, z.1)

module _ (job : Job) where
  abbrev s : Strands StrandState
  s = strands_of_job job

  stops_there : (t : List Node) (e : RecordEnd) (m : Machine StrandState) → StopsAt job t e m → NoPick s m
  stops_there t (Finished memory outputs) m z p n l k = absurd (cc (ended_no_leftmost s m z.0, l))
  stops_there t (Fault x kind) m z p n l k =
      let (left, there) = z in
      let (a, stood, wants) = there in
      let same : p ≡ name_of t x = (let e : Some p ≡ Some (name_of t x) = sym l ∙ left in cc e) in
      absurd (cc (fault_no_pick s m p a kind (ap (at s m.strands) same ∙ stood) wants, k))
  stops_there t (Budget x) m z p n l k = z
  stops_there t Moves m z p n l k = z

  same_ends : (t u : List Node) (d e : RecordEnd) (m : Machine StrandState) → StopsAt job t d m → StopsAt job u e m → SameEnding t u d e
  same_ends t u (Finished memory outputs) (Finished other shown) m a b = (sym a.1 ∙ b.1, sym a.2 ∙ b.2)
  same_ends t u (Finished memory outputs) (Fault y other) m a b = absurd (cc (ended_no_leftmost s m a.0, b.0))
  same_ends t u (Fault x kind) (Finished other shown) m a b = absurd (cc (ended_no_leftmost s m b.0, a.0))
  same_ends t u (Fault x kind) (Fault y other) m a b =
      let (left, there) = a in
      let (one, stood, wants) = there in
      let (first, other_there) = b in
      let (two, stands, wanted) = other_there in
      let name : name_of t x ≡ name_of u y = (let e : Some (name_of t x) ≡ Some (name_of u y) = sym left ∙ first in cc e) in
      let state : one ≡ two = (let e : Some one ≡ Some two = sym stood ∙ ap (at s m.strands) name ∙ stands in cc e) in
      (name, (let e : AFault kind ≡ AFault other = sym wants ∙ ap s.want state ∙ wanted in cc e))
  same_ends t u (Budget x) e m a b = absurd a
  same_ends t u Moves e m a b = absurd a
  same_ends t u (Finished memory outputs) (Budget y) m a b = absurd b
  same_ends t u (Finished memory outputs) Moves m a b = absurd b
  same_ends t u (Fault x kind) (Budget y) m a b = absurd b
  same_ends t u (Fault x kind) Moves m a b = absurd b

pub depth_first_one : DepthFirstIsOne
depth_first_one job t u is js d e g h =
    let s = strands_of_job job in
    let z = same_runs s _ g.machine h.machine _ _ g.picks h.picks (stops_there job t d g.machine g.stops) (stops_there job u e h.machine h.stops) in
    let P : Machine StrandState → Type 0 = λ m. StopsAt job u e m in
    (z.0, same_ends job t u d e g.machine g.stops (subst P (sym z.1) h.stops))
