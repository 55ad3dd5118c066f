-- A graph has at most 64 edges.
use Rattle.validator.proofs.WordTests.{all_graph_edges}
use Rattle.validator.proofs.sizes_of.Goals as goal

pub returns : goal.returns
returns c =
    let accepted = c.args.t.now.fit in
    record {
      tables = accepted;
      rules = c.rule_count.ensures;
      symbols = c.symbol_count.ensures;
      nodes = c.graph_nodes.ensures;
      edges = c.graph_edges-edges.ensures;
      all = all_graph_edges _ _ accepted _ _ c.graph_edges-edges.ensures c.full.ensures;
    }
