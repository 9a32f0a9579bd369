-- The tree of a course's logs has states of its strands, by the strands alone.
use Rattle.std.proofs.Common.{◌≡◌, ℕ, ◌+◌, List, sym, subst}
use Rattle.cw_code.specs.declared.FaultKind.{FaultKind}
use Rattle.cw_strand.specs.declared.want.Want.TheVariants as want
use Rattle.cw_strand.specs.Strands.{Strands}
use Rattle.cw_tree.specs.declared.node.Node.{Node}
use Rattle.cw_tree.specs.Walks.{IsNumbered}
use Rattle.cw_record.specs.Coherent.{HasNoOpenFork}
use Rattle.cw_course.specs.Courses.{Course, Stops, logs_of}
use Rattle.cw_course.specs.Closings.{base_of, tree_of, AreApart, FaultsIn, HasStates, CoursesFollow}
use Rattle.cw_course.proofs.Closings.Chains.{place_is}
use Rattle.cw_course.proofs.Closings.Following.{B, F, R}
use Rattle.cw_course.proofs.Closings.Trees.{IsTreeOf, all_held, follows, live_ended}
use Rattle.cw_course.proofs.Closings.Faulting.{AtFault, at_fault}
use Rattle.cw_course.proofs.Closings.Laying.{laid_tree}
use Rattle.cw_course.proofs.Closings.Together.{tree_is, faults_in_tree}

module _ {A : Type 0} (s : Strands A) (cs : Course) (st : Stops s s.start cs) (apart : AreApart (logs_of cs 0 0 0)) (n : IsNumbered (tree_of (logs_of cs 0 0 0))) where
  abbrev t : List Node
  t = tree_of (logs_of cs 0 0 0)

  pub shown : IsTreeOf t cs
  shown = let P : List Node → Type 0 = λ u. IsTreeOf u cs in subst P (sym (tree_is cs apart)) (laid_tree cs)

  pub stands_at : (kind : FaultKind) (c x : ℕ) → FaultsIn kind c x cs 0 0 1 → AtFault s t n.rooted kind (base_of (logs_of cs 0 0 0) c + x)
  stands_at kind c x i = at_fault s t n.rooted kind (base_of (logs_of cs 0 0 0) c + x) cs shown st (faults_in_tree cs apart kind c x i)

  pub has_states : HasStates s cs (logs_of cs 0 0 0)
  has_states = record {
    before = B s t n.rooted;
    after = F s t n.rooted;
    reached = R s t n.rooted;
    follows = follows t n.rooted s cs shown st;
    ended = λ b g o. live_ended t n.rooted s cs shown b g o;
    stands = λ pl kind c x i.
        (let f = stands_at kind c x i in
        let P : ℕ → Type 0 = λ p. (s.want (R s t n.rooted p) ≡ want.Fault kind) × HasNoOpenFork s t (B s t n.rooted) (F s t n.rooted) (R s t n.rooted) p in
        subst P (sym (place_is t n pl (all_held t n.rooted cs shown) (base_of (logs_of cs 0 0 0) c + x) f.place f.stands.strand f.way)) (f.stands.wants, f.stands.shut));
  }

pub courses_follow : {A : Type 0} → CoursesFollow A
courses_follow s cs st apart n = has_states s cs st apart n
