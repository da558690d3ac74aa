use Rattle.edges.specs.TableLaws.{chunks_in}
use Rattle.edges.proofs.table.Table.new.Goals as goal

pub returns : goal.returns
returns c = chunks_in c.args.n c.args.floats.now c.requires c.as_chunks.ensures.front
