-- A task that goes on in the same log.
use Rattle.std.proofs.Common.{◌≡◌, ℕ, List, [], ◌∷◌, ◌++◌, ap, sym, ◌∙◌, subst}
use Rattle.std.specs.Prelude.{reverse, Bool}
use Rattle.std.proofs.lemmas.List.{reverse-append}
use Rattle.cw_job.specs.Jobs.{Job}
use Rattle.cw_tree.specs.declared.node.Kind.{Kind}
use Rattle.cw_tree.specs.Nodes.{fresh_node}
use Rattle.cw_log.specs.declared.log.Log.{Log}
use Rattle.cw_log.specs.declared.token.Open.{Open}
use Rattle.cw_log.specs.declared.token.Token.{Token}
use Rattle.cw_log.specs.Tokens.{made, was_told, halted}
use Rattle.cw_tree.specs.declared.closed.Halt.{Halt}
use Rattle.cw_job.specs.Room.Strands.{StrandState}
use Rattle.cw_course.specs.Courses.{Course, act}
use Rattle.cw_course.specs.Trails.{Trail, nodes_of}
use Rattle.cw_course.proofs.Trails.Steps as step
use Rattle.cw_body.specs.Bodies.{InBlocks}
use Rattle.cw_pool.specs.declared.task.Mode.{Mode}
use Rattle.cw_pool.specs.declared.task.Mode.TheVariants as mode
use Rattle.cw_pool.specs.declared.task.Below.{Below}
use Rattle.cw_pool.specs.declared.task.Base.{Base}
use Rattle.cw_pool.specs.declared.task.Base.TheVariants as base
use Rattle.cw_pool.specs.Tasks.{Start, Fits, IsFree, StandsInMode, IsBase, AreWaitingBelow, IsRunning}

module _ {T J : Type 0} (job : Job) (of : T → Token) where
  -- with another course behind what is open
  pub rebuilt : (x y : Token) (body next : InBlocks) (how after : Mode) (bs : List (Below T J)) (b : Base T J) (r : IsRunning job of x body how bs b) (cs : Course)
      → IsBase job of b after r.lowest → Fits y r.start r.trail cs → y.forks ≡ x.forks → StandsInMode job after y next r.start r.trail cs → IsRunning job of y next after bs b
  rebuilt x y body next how after bs b r cs based fits same stands = record {
    run = r.run;
    lowest = r.lowest;
    based = based;
    start = r.start;
    trail = r.trail;
    course = cs;
    reached = r.reached;
    written = fits;
    below = subst (λ (os : List Open). AreWaitingBelow job of r.lowest r.start r.trail os (reverse bs)) (sym same) r.below;
    stands = stands;
  }

  -- with an equal stack
  pub with_below : (x : Token) (body : InBlocks) (how : Mode) (bs cs : List (Below T J)) (b : Base T J) → cs ≡ bs → IsRunning job of x body how bs b → IsRunning job of x body how cs b
  with_below x body how bs cs b e r = subst (λ (us : List (Below T J)). IsRunning job of x body how us b) (sym e) r

  -- what is on top of a stack stands last in it
  pub top_first : {lowest a : Start} {t : Trail StrandState} {os : List Open} (bs : List (Below T J)) (e : Below T J) → AreWaitingBelow job of lowest a t os (reverse (bs ++ e ∷ [])) → AreWaitingBelow job of lowest a t os (e ∷ reverse bs)
  top_first {lowest} {a} {t} {os} bs e h = subst (λ (us : List (Below T J)). AreWaitingBelow job of lowest a t os us) (reverse-append bs (e ∷ [])) h

  pub top_last : {lowest a : Start} {t : Trail StrandState} {os : List Open} (bs : List (Below T J)) (e : Below T J) → AreWaitingBelow job of lowest a t os (e ∷ reverse bs) → AreWaitingBelow job of lowest a t os (reverse (bs ++ e ∷ []))
  top_last {lowest} {a} {t} {os} bs e h = subst (λ (us : List (Below T J)). AreWaitingBelow job of lowest a t os us) (sym (reverse-append bs (e ∷ []))) h

  -- one that stops need not be split
  pub base_stops : (b : Base T J) (how : Mode) (a : Start) → IsBase job of b how a → IsBase job of b mode.Stopped a
  base_stops base.Root how a i = i
  base_stops (base.Right fork half) how a i = (i.0, i.1, tt)

  pub base_dies : (b : Base T J) (to : ℕ) (a : Start) → IsBase job of b mode.Goes a → IsBase job of b (mode.Dies to) a
  base_dies base.Root to a i = i
  base_dies (base.Right fork half) to a i = i

  pub base_goes : (b : Base T J) (to : ℕ) (a : Start) → IsBase job of b (mode.Dies to) a → IsBase job of b mode.Goes a
  base_goes base.Root to a i = i
  base_goes (base.Right fork half) to a i = i

-- a token that learns of a halt, or halts, fits what it fitted before
pub fits_told : (x : Token) (a : Start) (t : Trail StrandState) (cs : Course) (b : Bool) → Fits x a t cs → Fits (was_told x b) a t cs
fits_told x a t cs b w = record { own = w.own; joined = w.joined; strand = w.strand; place = w.place; around = w.around; falling = w.falling; fork = w.fork; split = w.split }

pub fits_halted : (x : Token) (a : Start) (t : Trail StrandState) (cs : Course) (h : Halt) → Fits x a t cs → Fits (halted x h) a t cs
fits_halted x a t cs h w = record { own = w.own; joined = w.joined; strand = w.strand; place = w.place; around = w.around; falling = w.falling; fork = w.fork; split = w.split }

-- a node more in it is one more in the course
pub fits_made : (x : Token) (a : Start) (t : Trail StrandState) (cs : Course) (kind : Kind) (stamp : ℕ) → Fits x a t cs → Fits (made x kind stamp) a t (act cs kind stamp)
fits_made x a t cs kind stamp w = record {
  own =
      ap (λ (l : Log). record l { nodes = l.nodes ++ fresh_node x.place kind stamp ∷ [] }) w.own
      ∙ ap (λ (p : ℕ). record { column = a.column; from = a.from; fork = a.at; nodes = nodes_of t cs ++ fresh_node p kind stamp ∷ []; conflicts = [] }) w.place
      ∙ ap (λ ns. record { column = a.column; from = a.from; fork = a.at; nodes = ns; conflicts = [] }) (sym (step.acted t cs kind stamp));
  joined = w.joined;
  strand = w.strand;
  place = w.place;
  around = w.around;
  falling = w.falling;
  fork = w.fork;
  split = w.split;
}

-- and it is as free as before
pub free_made : (job : Job) (x : Token) (kind : Kind) (stamp : ℕ) → IsFree job x → IsFree job (made x kind stamp)
free_made job x kind stamp f = record { on = record { stop = f.on.stop; told = f.on.told; unspent = f.on.unspent }; none = f.none }
