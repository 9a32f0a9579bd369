use Rattle.cw_trace.proofs.Query.Agreeing.{gives_later, gives_held, covers_later, covers_held}
use Rattle.cw_trace.proofs.asks.told_laws.Goals as goal

pub returns : goal.returns
returns g c = record {
  verdict = λ columns words last asker v stays h. gives_held columns words last asker v (gives_later stays h);
  covers = λ columns words block last x stays h. covers_held columns words block last x (covers_later stays h);
}
