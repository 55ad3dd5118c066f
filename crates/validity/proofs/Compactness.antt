-- A record that names what exists has small numbers, so that it is read again from its words.
use mathlib.Core.Path.{◌≡◌, refl}
use mathlib.Core.Logic.{◌⊎◌, inl, inr}
use mathlib.Core.Bool.{true}
use Prim.Native.Nat.{ℕ, ◌≤◌, ◌<◌}
use native.Mathlib.Omega.{arith}
use lib.ListN.{length, get_or}
use Rattle.hrg.specs.Grammars.{Graph, PlanNode, leaf, Grammar, plan_of, plan_node}
use Rattle.hrg.specs.Trees.{unplaced, at}
use Rattle.hrg.specs.WellFormed.{GrammarOk, GraphOk}
use Rattle.joins.proofs.MapLaws.{get_d_any}
use Rattle.agenda.specs.declared.Record.{Record}
use Rattle.records.specs.Words.{Compact}
use Rattle.validity.specs.Checking.{known_record}
use Rattle.validity.specs.Existing.{ImageOfItem, active_image, passive_image, ExistingPartners, no_partner, edge_partner, item_partner, join_partners, ExistingRecord, an_active, a_passive}
use Rattle.validity.proofs.ExistingTest.{known_image, known_existing}
use Rattle.validity.proofs.Images.{known_into}

-- the numbers of both partners
abbrev Few : Record → Type 0
Few x = (x.first < 65536) × (x.second < 65536)

module _ (G : Grammar) (H : Graph) (ok : GrammarOk G) (good : GraphOk G H) (n : ℕ) (few : n ≤ 4096) (x : Record) where
  partners_few : (p : PlanNode) → (p ≡ leaf → (x.first ≡ 0) × (x.second ≡ 0)) → ExistingPartners G H n x p → Few x
  partners_few _ z no_partner = let (a, b) = z refl in (omega arith, omega arith)
  partners_few _ z (edge_partner l k b) = (omega arith, omega (arith, good.side.edge_count.upper))
  partners_few _ z (item_partner l k b) = (omega arith, omega arith)
  partners_few _ z (join_partners l b) = (omega arith, omega arith)

  module _ (size : length x.item.nodes ≡ 8) (known : known_record G H n x ≡ true) where
    node_byte : (i : ℕ) → i < 7 → get_or x.item.nodes i 0 < 256
    node_byte i l = go (known_into G H ok n x size known i)
      where
        go : (at x.item.nodes i ≡ unplaced) ⊎ (at x.item.nodes i < H.nodes) → get_or x.item.nodes i 0 < 256
        go (inl e) = omega (arith, get_d_any x.item.nodes i 0 unplaced (omega arith))
        go (inr d) = omega (arith, get_d_any x.item.nodes i 0 unplaced (omega arith), good.side.node_count.upper)

    pub known_compact : Compact x
    known_compact = go (known_image G H n x known) (known_existing G H n x known)
      where
        go : ImageOfItem G x → ExistingRecord G H n x → Compact x
        go (active_image k a u) (an_active e r p s q) =
            let two = partners_few (plan_node (plan_of G x.item.of) x.item.plan) u q in
            record {
              item = record {
                kind = omega arith;
                of = omega (arith, ok.rule_count_is.upper);
                plan = omega (arith, (ok.rule x.item.of r).plan.size.upper);
                places = record { size = size; bytes = node_byte };
              };
              first = two.0;
              second = two.1;
            }
        go (passive_image k a u v) (a_passive e r t s q) = record {
          item = record {
            kind = omega arith;
            of = omega (arith, ok.symbol_count_is.upper);
            plan = omega arith;
            places = record { size = size; bytes = node_byte };
          };
          first = omega arith;
          second = omega arith;
        }
        go (active_image k a u) (a_passive e r t s q) = absurd (omega arith)
        go (passive_image k a u v) (an_active e r p s q) = absurd (omega arith)
