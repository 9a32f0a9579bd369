use Rattle.cw_trace.proofs.Query.Answering.{decides, decides_by_reading, decides_in_runs, covers_blocks, finds_victims}
use Rattle.cw_trace.proofs.queries.query_laws.Goals as goal

pub returns : goal.returns
returns c = record { decides = decides; by_reading = decides_by_reading; in_runs = decides_in_runs; covers = covers_blocks; victims = finds_victims }
