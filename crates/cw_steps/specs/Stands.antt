-- What a token stands for on a board, and what each step makes of that.
use Rattle.std.specs.Prelude.{ℕ, ◌<◌, ◌==◌, false, List, [], ◌∷◌, length, Option, None, if◌then◌else◌}
use Rattle.cw_log.specs.declared.token.Open.{Open}
use Rattle.cw_log.specs.declared.token.Phase.TheVariants.{Waiting}
use Rattle.cw_log.specs.declared.token.Stop.{Stop}
use Rattle.cw_log.specs.declared.token.Token.{Token}
use Rattle.cw_tree.specs.declared.node.Kind.TheVariants as kind
use Rattle.cw_log.specs.Tokens as tokens
use Rattle.cw_steps.specs.declared.draw.Draw.{Draw}
use Rattle.cw_steps.specs.declared.draw.Draw.TheVariants as draw
use Rattle.cw_steps.specs.declared.draw.Home.{Home}
use Rattle.cw_steps.specs.declared.draw.Home.TheVariants as home
use Rattle.cw_steps.specs.declared.track.Ahead.{Ahead}
use Rattle.cw_steps.specs.declared.track.Stood.{Stood}
use Rattle.cw_steps.specs.declared.view.View.{View}
use Rattle.cw_steps.specs.declared.table.StrandToken.{StrandToken}
use Rattle.cw_steps.specs.Tracks.{TrackParts, track_of, fresh_log, kind_of_access, state_of_end}
use Rattle.cw_steps.specs.Around.{caught_up, innermost, outwards}
use Rattle.cw_steps.specs.Views.{view_of}

-- the forks in whose strands it stands, with the blocks around each
abbrev pub open_forks : List Stood → List (List ℕ) → List Open
open_forks [] ws = []
open_forks (o ∷ os) ws = record { side = o.side; strand = o.strand; place = o.place; around = innermost ws } ∷ open_forks os (outwards ws)

-- the token, if these blocks are around its place and the places of the strands that wait
abbrev pub stands_over : TrackParts → List (List ℕ) → View → Option Stop → Token
stands_over c ws v stop = record {
  own = c.own;
  joined = c.joined;
  strand = c.strand;
  place = c.place;
  around = innermost ws;
  forks = open_forks c.outer (outwards ws);
  fork = v.fork;
  split = v.split;
  phase = v.phase;
  stop = stop;
  told = v.told;
}

abbrev pub stands_for : TrackParts → View → Option Stop → Token
stands_for c v stop = stands_over c (caught_up c.behind c.second v.arounds) v stop

abbrev pub token_of : StrandToken → Token
token_of t = stands_for (track_of t.track) (view_of t) t.stop

-- the number of blocks around the innermost fork in whose strand it stands
abbrev pub blocks_outside : List Open → ℕ
blocks_outside [] = 0
blocks_outside (o ∷ os) = length o.around

-- the token is in a block that was begun in its strand
abbrev pub HasOwnBlock : Token → Type 0
HasOwnBlock x = tokens.HasBlock x × (blocks_outside x.forks < length x.around)

-- an end is that of such a block, and a cancel gives up such a block
abbrev pub EndsBlock : Draw → Token → Type 0
EndsBlock (draw.End aborted) x = HasOwnBlock x
EndsBlock (draw.Access c wrote v) x = Unit {0}
EndsBlock (draw.Fork left right gap) x = Unit {0}
EndsBlock (draw.Out v) x = Unit {0}
EndsBlock (draw.Cancel back) x = HasOwnBlock x
EndsBlock draw.Begin x = Unit {0}

-- ## What steps make of it

-- the token of the right strand of a fork that was made in the log of `x`
abbrev pub right_token : (left : Token) → Ahead → Token
right_token x a = record {
  own = fresh_log a.column x.own.column a.node;
  joined = [];
  strand = 0;
  place = 0;
  around = x.around;
  forks = [];
  fork = a.fork;
  split = false;
  phase = Waiting;
  stop = None;
  told = false;
}

abbrev pub drawn_token : Draw → (stamp : ℕ) → Token → Token
drawn_token (draw.Access c wrote v) stamp x = tokens.made x (kind_of_access c wrote v) stamp
drawn_token (draw.Fork left right gap) stamp x = if left == right then tokens.branched x stamp else tokens.forked x stamp left
drawn_token (draw.Out v) stamp x = tokens.made x (kind.Out v) stamp
drawn_token (draw.Cancel back) stamp x = tokens.made x (kind.Cancel back) stamp
drawn_token draw.Begin stamp x = tokens.began x stamp
drawn_token (draw.End aborted) stamp x = tokens.ended x (state_of_end aborted) stamp

abbrev pub brought_token : Home → Token → Token
brought_token (home.Refused c) x = tokens.refused x (record c { asker = length x.own.nodes })
brought_token (home.Split fork used) x = tokens.once_split x
brought_token (home.Merge fork used) x = tokens.merged x
brought_token home.Plain x = x
brought_token (home.Inline used) x = x
brought_token (home.Early before used) x = x
