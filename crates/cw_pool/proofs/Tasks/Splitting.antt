-- A right strand that was stolen begins, once its fork is split.
use Rattle.std.proofs.Common.{◌≡◌, ℕ, List, [], refl, ap, sym, ◌∙◌, subst, true}
use Rattle.cw_job.specs.Jobs.{Job}
use Rattle.cw_job.specs.Room.Strands.{StrandState, strands_of_job}
use Rattle.cw_pair.specs.declared.view.Binding.{Binding}
use Rattle.cw_log.specs.declared.token.Open.{Open}
use Rattle.cw_log.specs.declared.token.Token.{Token}
use Rattle.cw_log.specs.Tokens.{MaySplit, once_split}
use Rattle.cw_course.specs.Courses.{Course, nothing, starts}
use Rattle.cw_course.specs.Trails.{Trail, opens}
use Rattle.cw_body.specs.Bodies.{InBlocks}
use Rattle.cw_pool.specs.declared.task.Memo.{Memo}
use Rattle.cw_pool.specs.declared.task.Mode.{Mode}
use Rattle.cw_pool.specs.declared.task.Mode.TheVariants as mode
use Rattle.cw_pool.specs.declared.task.Below.{Below}
use Rattle.cw_pool.specs.declared.task.Base.{Base}
use Rattle.cw_pool.specs.declared.task.Base.TheVariants as base
use Rattle.cw_pool.specs.Tasks as waiting
use Rattle.cw_pool.specs.Tasks.{Start, Fits, AreWaitingBelow, IsRunning, goes_in}
use Rattle.cw_pool.proofs.Tasks.Finishing.{IsOutside, at_bottom}
use Rattle.cw_pool.proofs.Tasks.Backing.{waits_alone}

abbrev once_begun : Start → Start
once_begun a = record a { split = true }

fits_split : (x : Token) (a : Start) (t : Trail StrandState) (cs : Course) → Fits x a t cs → Fits (once_split x) (once_begun a) t cs
fits_split x a t cs w = record { own = w.own; joined = w.joined; strand = w.strand; place = w.place; around = w.around; falling = w.falling; fork = w.fork; split = refl }

module _ {T J : Type 0} (job : Job) (of : T → Token) where
  splits_goes : (x : Token) (body : InBlocks) (g : ℕ) (half : Binding (Memo T)) → IsRunning {T = T} {J = J} job of x body mode.Waits [] (base.Right g half)
      → IsRunning {T = T} {J = J} job of (once_split x) body mode.Goes [] (base.Right g half)
  splits_goes x body g half r =
      let (lowest_so, over, none) = at_bottom job of (subst IsOutside (sym r.stands.trail) tt) r.below in
      let s = r.stands in
      let fits =
      subst (λ (a : Start). Fits x a opens nothing) lowest_so
      (subst (λ (t : Trail StrandState). Fits x r.start t nothing) s.trail (subst (λ (cs : Course). Fits x r.start r.trail cs) s.course r.written)) in
      record {
        run = r.run;
        lowest = once_begun r.lowest;
        based = (r.based.0, r.based.1, refl);
        start = once_begun r.lowest;
        trail = opens;
        course = nothing;
        reached = subst (λ (a : Start). waiting.IsReached (strands_of_job job) a.state) lowest_so r.reached;
        written = fits_split x r.lowest opens nothing fits;
        below = subst (λ (os : List Open). AreWaitingBelow {T = T} {J = J} job of (once_begun r.lowest) (once_begun r.lowest) opens os []) (sym none) waiting.bottom;
        stands = record {
          now = r.lowest.state;
          stands = record { leads = tt; goes = starts };
          there = subst (λ (a : Start). body ≡ goes_in job a.state a.begins) lowest_so s.there;
          free = record { on = record { stop = s.free.on.stop; told = s.free.on.told; unspent = s.free.on.unspent }; none = s.free.none };
          phase = refl;
        };
      }

  pub split_so : (x z : Token) (how : Mode) (body : InBlocks) (bs : List (Below T J)) (b : Base T J) (g : ℕ) (half : Binding (Memo T)) → how ≡ mode.Waits → b ≡ base.Right g half → bs ≡ [] → IsRunning job of x body how bs b
      → z ≡ once_split x → IsRunning job of z body mode.Goes bs b
  split_so x z how body bs b g half is from alone r e =
      subst (λ (c : Base T J). IsRunning job of z body mode.Goes bs c) (sym from)
      (subst (λ (us : List (Below T J)). IsRunning job of z body mode.Goes us (base.Right g half)) (sym alone)
      (subst (λ (w : Token). IsRunning {T = T} {J = J} job of w body mode.Goes [] (base.Right g half)) (sym e)
      (splits_goes x body g half (waits_alone job of x body how g half bs alone is (subst (λ (c : Base T J). IsRunning job of x body how bs c) from r)))))

  pub split_there : (x : Token) (how : Mode) (body : InBlocks) (bs : List (Below T J)) (b : Base T J) (g : ℕ) (half : Binding (Memo T)) → how ≡ mode.Waits → b ≡ base.Right g half → bs ≡ [] → IsRunning job of x body how bs b → MaySplit x g
  split_there x how body bs b g half is from alone r0 =
      let r = waits_alone job of x body how g half bs alone is (subst (λ (c : Base T J). IsRunning job of x body how bs c) from r0) in
      let (lowest_so, over, none) = at_bottom job of (subst IsOutside (sym r.stands.trail) tt) r.below in
      (r.stands.phase, r.written.fork ∙ ap (λ (a : Start). a.fork) lowest_so ∙ r.based.1)
