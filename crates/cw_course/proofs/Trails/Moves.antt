-- What a strand does next is what its course has next. For whoever runs strands: each move of one is one of these.
use Rattle.std.proofs.Common.{◌≡◌, ℕ, Option, Some, None}
use Rattle.std.specs.Prelude.{IsTrue}
use Rattle.cw_code.specs.declared.FaultKind.{FaultKind}
use Rattle.cw_strand.specs.declared.want.Want.TheVariants as want
use Rattle.cw_strand.specs.declared.want.Given.TheVariants.{Nothing}
use Rattle.cw_strand.specs.Strands.{Strands, is_over}
use Rattle.cw_tree.specs.declared.node.Kind.{Kind}
use Rattle.cw_tree.specs.declared.node.BlockState.TheVariants.{Pending, Committed, Aborted}
use Rattle.cw_course.specs.Courses.{Course, nothing, act, block, fork, fault, Acts, Goes, Stops, starts, acts, commits, aborts, joins, there, within, apart, faults}
use Rattle.cw_course.specs.Trails.{Trail, in_block, in_left, in_right, Stands, Stopped}

module _ {A : Type 0} (s : Strands A) (a : A) where
  -- it dies where it stands, or is stopped there
  pub gives_up : (t : Trail A) (cs : Course) (now : A) → Stands s a t cs now → Stopped s a t cs
  gives_up t cs now st = record { leads = st.leads; stops = there st.goes }

  -- an access that is made or refused, or an output
  pub acts_on : (t : Trail A) (cs : Course) (now next : A) (kind : Kind) (stamp : ℕ) → Stands s a t cs now → Acts s now kind next → Stands s a t (act cs kind stamp) next
  acts_on t cs now next kind stamp st d = record { leads = st.leads; goes = acts st.goes d }

  pub begins : (t : Trail A) (cs : Course) (now : A) (stamp : ℕ) → Stands s a t cs now → s.want now ≡ want.Begin → Stands s a (in_block t cs now stamp) nothing (s.answer now Nothing)
  begins t cs now stamp st e = record { leads = (st.leads, st.goes, e); goes = starts }

  pub ends : (t : Trail A) (cs js : Course) (b now : A) (stamp end : ℕ) → Stands s a (in_block t cs b stamp) js now → s.want now ≡ want.End
      → Stands s a t (block cs Committed stamp end js) (s.answer now Nothing)
  ends t cs js b now stamp end st e = record { leads = st.leads.0; goes = commits st.leads.1 st.leads.2 st.goes e }

  -- a block that is rolled back, whatever stopped in it
  pub rolls : (t : Trail A) (cs js : Course) (b : A) (stamp end : ℕ) → Stopped s a (in_block t cs b stamp) js → Stands s a t (block cs Aborted stamp end js) b
  rolls t cs js b stamp end st = record { leads = st.leads.0; goes = aborts st.leads.1 st.leads.2 st.stops }

  -- a block that is pending as the run is stopped
  pub breaks : (t : Trail A) (cs js : Course) (b : A) (stamp : ℕ) → Stopped s a (in_block t cs b stamp) js → Stopped s a t (block cs Pending stamp 0 js)
  breaks t cs js b stamp st = record { leads = st.leads.0; stops = within st.leads.1 st.leads.2 st.stops }

  pub forks : (t : Trail A) (cs : Course) (now : A) (column : Option ℕ) (stamp : ℕ) → Stands s a t cs now → s.want now ≡ want.Fork → Stands s a (in_left t cs now column stamp) nothing (s.left now)
  forks t cs now column stamp st e = record { leads = (st.leads, st.goes, e); goes = starts }

  -- from the end of the left strand of an inline fork to the right one
  pub turns : (t : Trail A) (cs ls : Course) (b l : A) (stamp : ℕ) → Stands s a (in_left t cs b None stamp) ls l → IsTrue (is_over (s.want l)) → Stands s a (in_right t cs b stamp ls l) nothing (s.right b)
  turns t cs ls b l stamp st o = record { leads = (st.leads.0, st.leads.1, st.leads.2, st.goes, o); goes = starts }

  -- both strands of a fork are at their ends, the right one by a log of its own
  pub meets : (t : Trail A) (cs ls rs : Course) (b l r : A) (column stamp : ℕ) → Stands s a (in_left t cs b (Some column) stamp) ls l → IsTrue (is_over (s.want l))
      → Goes s (s.right b) rs r → IsTrue (is_over (s.want r)) → Stands s a t (fork cs (Some column) stamp ls rs) (s.joined r l)
  meets t cs ls rs b l r column stamp st e g f = record { leads = st.leads.0; goes = joins st.leads.1 st.leads.2 st.goes e g f }

  -- or by the same log
  pub returns : (t : Trail A) (cs ls rs : Course) (b l r : A) (stamp : ℕ) → Stands s a (in_right t cs b stamp ls l) rs r → IsTrue (is_over (s.want r)) → Stands s a t (fork cs None stamp ls rs) (s.joined r l)
  returns t cs ls rs b l r stamp st f = record { leads = st.leads.0; goes = joins st.leads.1 st.leads.2 st.leads.3 st.leads.4 st.goes f }

  -- one of them died, or was stopped
  pub parts : (t : Trail A) (cs ls rs : Course) (b : A) (column : Option ℕ) (stamp : ℕ) → Stopped s a (in_left t cs b column stamp) ls → Stops s (s.right b) rs → Stopped s a t (fork cs column stamp ls rs)
  parts t cs ls rs b column stamp st g = record { leads = st.leads.0; stops = apart st.leads.1 st.leads.2 st.stops g }

  -- or the right one of an inline fork did
  pub parts_right : (t : Trail A) (cs ls rs : Course) (b l : A) (stamp : ℕ) → Stopped s a (in_right t cs b stamp ls l) rs → Stopped s a t (fork cs None stamp ls rs)
  parts_right t cs ls rs b l stamp st = record { leads = st.leads.0; stops = apart st.leads.1 st.leads.2 (there st.leads.3) st.stops }

  pub is_faulty : (t : Trail A) (cs : Course) (now : A) (kind : FaultKind) → Stands s a t cs now → s.want now ≡ want.Fault kind → Stopped s a t (fault cs kind)
  is_faulty t cs now kind st e = record { leads = st.leads; stops = faults st.goes e }
