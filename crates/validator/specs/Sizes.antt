-- The numbers of accepted tables that question 8 asks for a chart's items.
use Rattle.std.specs.Prelude.{◌≡◌, List, ℕ}
use Rattle.masks.specs.Masks.{full}
use Rattle.questions.specs.Layout.{symbol_count, rule_count, graph_nodes, graph_edges}
use Rattle.joins.specs.Joins.{Accepted}
use Rattle.validator.specs.declared.Sizes.{Sizes}

pub record Sized (g h : List ℕ) (s : Sizes) : Type 0 where
  pub tables : Accepted g h
  pub rules : s.rules ≡ rule_count g
  pub symbols : s.symbols ≡ symbol_count g
  pub nodes : s.nodes ≡ graph_nodes h
  pub edges : s.edges ≡ graph_edges h
  pub all : s.all ≡ full (graph_edges h)
