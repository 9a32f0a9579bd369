-- Where the output is wanted the strand is inside the block: it is the one that forked, whose strands were joined.
use Rattle.std.proofs.Common.{◌≡◌, ◌∙◌, suc, [], pos, refl, sym, ap, subst}
use Rattle.cw_code.specs.declared.Limits.{Limits}
use Rattle.cw_code.specs.declared.instruction.Code.{Code}
use Rattle.cw_strand.specs.declared.want.Want.TheVariants.{Out, Begin, Fork, Sync, Done}
use Rattle.cw_strand.specs.declared.want.Given.TheVariants.{Nothing}
use Rattle.cw_strand.specs.Running.{Standing, stand}
use Rattle.cw_strand.specs.Coded.{State, runs, strands_of_code, joined}
use Rattle.cw_strand.specs.Standing.{NextFrom}
use Rattle.cw_strand.specs.Saving.{Inside, begun, goes_right, joins}
use Rattle.tests_texts.proofs.strands.to_output.Goals as goal

at_output : (code : Code) (l : Limits) (begin forked same ended left both last : State) → NextFrom code begin Nothing Fork forked → same ≡ forked → NextFrom code same Nothing Sync ended → both ≡ joined ended left → NextFrom code both Nothing (Out (pos 2)) last
    → Inside (strands_of_code code 0 [] l) (record { want = Begin; state = begin }) 0 0 (record { want = Out (pos 2); state = last })
at_output code l begin forked same ended left both last fork is sync joined_is out =
    let s = strands_of_code code 0 [] l in
    let r = runs code 0 [] l in
    let at : Standing State = record { want = Begin; state = begin } in
    let first : Inside s at 0 0 (record { want = Fork; state = forked }) = subst (Inside s at 0 0) (sym (fork 0 [] l)) begun in
    let second : Inside s at (suc 0) 0 (record { want = Sync; state = ended }) = subst (Inside s at (suc 0) 0) (sym (sync 0 [] l ∙ ap (stand r) is)) (goes_right first refl) in
    subst (Inside s at 0 0) (sym (out 0 [] l ∙ ap (stand r) joined_is)) (joins second tt (record { want = Done; state = left }))

pub wants-requires-4 : goal.wants-requires-4
wants-requires-4 c = c.joined.ensures.stands c.args.program.now.code c.in_ok-wants-3.ensures.stands.stands

pub returns-clause-inside : goal.returns-clause-inside
returns-clause-inside c = λ k is. (
  record {
    code = c.args.program.now.code;
    sound = c.args.program.now.sound;
    main = 0;
    words = [];
    limits = c.args.strand.now.limits;
    begin = record { want = Begin; state = c.args.strand.now };
    wants = refl;
    stands = c.requires;
    is_kept = is;
    there = record { want = Out (pos 2); state = c.wants-4.new.strand };
    forks = 0;
    inner = 0;
    inside = at_output c.args.program.now.code c.args.strand.now.limits c.args.strand.now c.wants.new.strand c.fork.new.self c.wants-3.new.strand c.wants-2.new.strand c.joined.new.self c.wants-4.new.strand c.in_ok-wants.ensures.next c.fork.ensures.right c.in_ok-wants-3.ensures.next c.joined.ensures.joined c.in_ok-wants-4.ensures.next;
    stays = tt;
    like = refl;
  },
  refl,
)
