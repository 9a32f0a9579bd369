-- A strand between the fork of its body and the fork on the board.
use Rattle.std.specs.Prelude.{◌≡◌, ℕ, List}
use Rattle.cw_strand.specs.declared.want.Want.TheVariants as want
use Rattle.cw_job.specs.Jobs.{Job}
use Rattle.cw_job.specs.Room.Strands.{strands_of_job}
use Rattle.cw_log.specs.declared.token.Token.{Token}
use Rattle.cw_log.specs.Tokens.{forked, right_of}
use Rattle.cw_body.specs.Bodies as bodies
use Rattle.cw_body.specs.Bodies.{InBlocks}
use Rattle.cw_pool.specs.declared.task.Mode.TheVariants as mode
use Rattle.cw_pool.specs.declared.task.Below.{Below}
use Rattle.cw_pool.specs.declared.task.Base.{Base}
use Rattle.cw_pool.specs.Tasks.{IsRunning}

module _ {T J : Type 0} (job : Job) (of : T → Token) where
  -- Its body was `body`, which wanted to fork, and is now two: `l` of the left strand and `r` of the right one.
  pub record IsForking (x : Token) (body l r : InBlocks) (bs : List (Below T J)) (b : Base T J) : Type 0 where
    pub task : IsRunning job of x body mode.Goes bs b
    pub wants : (strands_of_job job).want body.state ≡ want.Fork
    pub left : l ≡ bodies.left_of (strands_of_job job) body
    pub right : r ≡ bodies.right_of (strands_of_job job) body

  -- then the board made two tokens, of the fork with the number `fork`
  abbrev pub AreForkTokens : (y z : Token) (fork : ℕ) (body left right : InBlocks) (bs : List (Below T J)) (b : Base T J) → Type 0
  AreForkTokens y z fork body left right bs b =
      (x : Token) × IsForking x body left right bs b × ((stamp : ℕ) × (y ≡ forked x stamp fork)) × ((column : ℕ) × (z ≡ right_of x fork column))
