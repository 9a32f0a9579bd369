-- Each instruction does what its effect says.
use Rattle.cw_strand.proofs.strand.Strand.act.Goals as goal

pub returns-in-Push : goal.returns-in-Push
returns-in-Push c = rw c.in-Push.is (c.push.ensures c.args.code.now)

pub returns-in-Local : goal.returns-in-Local
returns-in-Local c = rw c.in-Local.is (c.read_local.ensures c.args.code.now)

pub returns-in-Set : goal.returns-in-Set
returns-in-Set c = rw c.in-Set.is (c.write_local.ensures c.args.code.now)

pub returns-in-Load : goal.returns-in-Load
returns-in-Load c = rw c.in-Load.is (c.load.ensures c.args.code.now)

pub returns-in-LoadAt : goal.returns-in-LoadAt
returns-in-LoadAt c = rw c.in-LoadAt.is (c.load_at.ensures c.args.code.now)

pub returns-in-Store : goal.returns-in-Store
returns-in-Store c = rw c.in-Store.is (c.store.ensures c.args.code.now)

pub returns-in-StoreAt : goal.returns-in-StoreAt
returns-in-StoreAt c = rw c.in-StoreAt.is (c.store_at.ensures c.args.code.now)

pub returns-in-Lift : goal.returns-in-Lift
returns-in-Lift c = rw c.in-Lift.is (c.lift.ensures c.args.code.now c.args.instr)

pub returns-in-Join : goal.returns-in-Join
returns-in-Join c = rw c.in-Join.is (c.join.ensures c.args.code.now c.args.instr)

pub returns-in-Jump : goal.returns-in-Jump
returns-in-Jump c = rw c.in-Jump.is (c.jump.ensures c.args.code.now c.args.next)

pub returns-in-JumpZero : goal.returns-in-JumpZero
returns-in-JumpZero c = rw c.in-JumpZero.is (c.jump_zero.ensures c.args.code.now)

pub returns-in-Ret : goal.returns-in-Ret
returns-in-Ret c = rw c.in-Ret.is (c.ret.ensures c.args.code.now c.args.instr c.args.next)

pub returns-in-Drop : goal.returns-in-Drop
returns-in-Drop c = rw c.in-Drop.is (c.drop_top.ensures c.args.code.now c.args.instr)

pub returns-in-Out : goal.returns-in-Out
returns-in-Out c = rw c.in-Out.is (c.out.ensures c.args.code.now c.args.instr)

pub returns-in-Begin : goal.returns-in-Begin
returns-in-Begin c = rw c.in-Begin.is (c.begin.ensures c.args.code.now c.args.instr)

pub returns-in-End : goal.returns-in-End
returns-in-End c = rw c.in-End.is (c.end.ensures c.args.code.now c.args.instr)

pub returns-in-Fork : goal.returns-in-Fork
returns-in-Fork c = rw c.in-Fork.is (c.spawn.ensures c.args.code.now)

pub returns-in-Sync : goal.returns-in-Sync
returns-in-Sync c = rw c.in-Sync.is (c.wait.ensures c.args.code.now c.args.instr)

pub returns-in-Done : goal.returns-in-Done
returns-in-Done c = rw c.in-Done.is (c.finish.ensures c.args.code.now c.args.instr c.args.next)

pub returns-in-Tick : goal.returns-in-Tick
returns-in-Tick c = rw c.in-Tick.is (c.tick.ensures c.args.code.now c.args.instr)

pub returns-in-Cancel : goal.returns-in-Cancel
returns-in-Cancel c = rw c.in-Cancel.is (c.cancel.ensures c.args.code.now c.args.instr)
