-- A law for each answer.
use Rattle.driver.proofs.FileLaws.{graph_over, graph_read}
use Rattle.driver.proofs.read_graph.Goals as goal

pub returns-then-text-gt32768 : goal.returns-then-text-gt32768
returns-then-text-gt32768 c = graph_over _ _ _ c.if-text-gt32768.true

pub returns : goal.returns
returns c = graph_read _ _ _ _ _ c.if-text-gt32768.false c.read_graph.ensures
