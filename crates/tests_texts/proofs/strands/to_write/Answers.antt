-- Where a strand was joined to the right one, that stands where it stood, inside the block.
use Rattle.std.proofs.Common.{◌≡◌, ◌∙◌, suc, [], pos, refl, sym, ap, subst}
use Rattle.cw_code.specs.declared.Limits.{Limits}
use Rattle.cw_code.specs.declared.instruction.Code.{Code}
use Rattle.cw_strand.specs.declared.want.Want.TheVariants.{Store, Begin, Fork}
use Rattle.cw_strand.specs.declared.want.Given.TheVariants.{Nothing}
use Rattle.cw_strand.specs.Running.{Standing, stand}
use Rattle.cw_strand.specs.Coded.{State, runs, strands_of_code, joined}
use Rattle.cw_strand.specs.Standing.{NextFrom}
use Rattle.cw_strand.specs.Saving.{Inside, begun, goes_right, StandsLike}
use Rattle.tests_texts.proofs.strands.to_write.Goals as goal

at_write : (code : Code) (l : Limits) (begin forked same last : State) → NextFrom code begin Nothing Fork forked → same ≡ forked → NextFrom code same Nothing (Store 0 (pos 2)) last
    → Inside (strands_of_code code 0 [] l) (record { want = Begin; state = begin }) 1 0 (record { want = Store 0 (pos 2); state = last })
at_write code l begin forked same last fork is store =
    let s = strands_of_code code 0 [] l in
    let r = runs code 0 [] l in
    let at : Standing State = record { want = Begin; state = begin } in
    let first : Inside s at 0 0 (record { want = Fork; state = forked }) = subst (Inside s at 0 0) (sym (fork 0 [] l)) begun in
    subst (Inside s at (suc 0) 0) (sym (store 0 [] l ∙ ap (stand r) is)) (goes_right first refl)

stands_like : (now there left : State) → now ≡ joined there left → StandsLike now there
stands_like now there left is = subst (λ s. StandsLike s there) (sym is) refl

pub returns : goal.returns
returns c = λ k is. (
  record {
    code = c.args.program.now.code;
    sound = c.args.program.now.sound;
    main = 0;
    words = [];
    limits = c.args.strand.now.limits;
    begin = record { want = Begin; state = c.args.strand.now };
    wants = refl;
    stands = c.requires;
    is_kept = is;
    there = record { want = Store 0 (pos 2); state = c.wants-2.new.strand };
    forks = 1;
    inner = 0;
    inside = at_write c.args.program.now.code c.args.strand.now.limits c.args.strand.now c.wants.new.strand c.fork.new.self c.wants-2.new.strand c.in_ok-wants.ensures.next c.fork.ensures.right c.in_ok-wants-2.ensures.next;
    stays = tt;
    like = stands_like c.joined.new.self c.wants-2.new.strand c.in_ok-left.left c.joined.ensures.joined;
  },
  refl,
)
