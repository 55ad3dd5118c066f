-- Every graph in the course of a derivation is a graph: nodes, external nodes and edges as the published definitions
-- ask.
use mathlib.Core.Path.{◌≡◌, refl, sym, ap, ◌∙◌, subst}
use mathlib.Core.Logic.{◌⊎◌, inl, inr}
use mathlib.Core.List.Memᴰ.{append_cases as in_cases}
use mathlib.Core.List.Memᴰ.{append_left as in_left}
use mathlib.Core.List.Memᴰ.{append_right as in_right}
use mathlib.Core.List.Memᴰ.{eq_of_singleton as in_one}
use mathlib.Core.List.Memᴰ.{head as here}
use mathlib.Core.List.Memᴰ.{tail as there}
use mathlib.Core.List.{List, ◌∷◌, ◌++◌, map, Memᴰ as In}
use Prim.Native.Nat.{ℕ, ◌≤◌, ◌<◌}
use native.Mathlib.Omega.{arith}
use lib.ListN.{length, length-map}
use Rattle.hrg.specs.Counts.{occurs}
use Rattle.hrg.specs.Grammars.{Edge, Graph, Grammar, right_of, rank_of}
use Rattle.hrg.specs.Trees.{at, images, internals}
use Rattle.hrg.specs.WellFormed.{EdgeOk, GrammarOk, GraphOk}
use Rattle.hrg.specs.Replacement.{Hypergraph, ProperEdge, Proper, renamed, Application, Replaces, Derives, none, step, start_on}
use Rattle.hrg.proofs.Sums.{none_left, images_le, images_split}
use Rattle.hrg.proofs.Degrees.{zero_or}
use Rattle.hrg.proofs.ReplacementToTrees.{grown, in_map_find, in_edge, attached_step}

module _ (G : Grammar) (ok : GrammarOk G) where
  module _ {K K' : Hypergraph} {a : Application} (r : Replaces G K a K') (k : Proper G K) where
    -- new nodes are new, and none is new twice
    nodes_once : (v : ℕ) → occurs v K'.nodes ≤ 1
    nodes_once v =
        zero_or (occurs v (images a.place (internals (right_of G a.rule))))
        (λ z. omega (arith, grown G ok r v, k.once v))
        (λ h. omega (arith, grown G ok r v, r.fresh v h, r.once v))

    old_edge : (e : Edge) → In e (r.before ++ (r.replaced ∷ r.after)) → ProperEdge G K.nodes e
    old_edge e i = k.edge e (subst (λ (es : List Edge). In e es) (sym r.there) i)

    -- each node of the copy has a name of its own
    names_once : (v : ℕ) → occurs v a.place ≤ 1
    names_once v =
        let P = right_of G a.rule in
        let on = old_edge r.replaced (in_right r.before (here refl)) in
        let all = images_split v P a.place r.sized (ok.rule a.rule r.known).right.externals in
        zero_or (occurs v (images a.place (internals P)))
        (λ z. omega (arith, all, ap (occurs v) r.identified, on.once v))
        (λ h. let z = none_left (occurs v r.replaced.attachment) (λ o. omega (arith, r.fresh v h, on.attached v o)) in omega (arith, all, ap (occurs v) r.identified, r.once v))

    rule_edge : (e : Edge) → In e (right_of G a.rule).edges → EdgeOk G (right_of G a.rule).nodes e
    rule_edge e i = let j = in_edge i in subst (EdgeOk G (right_of G a.rule).nodes) (sym j.2) ((ok.rule a.rule r.known).right.edge j.0 j.1)

    copy_edge : (e : Edge) → In e (right_of G a.rule).edges → (v : ℕ) → occurs v (images a.place e.attachment) ≤ 1
    copy_edge e i v =
        let P = right_of G a.rule in
        omega (arith, images_le v P.nodes (rank_of G e.label) a.place e.attachment r.sized (rule_edge e i).listed, names_once v)

    proper_step : Proper G K'
    proper_step =
        record {
          once = nodes_once;
          external_once = λ v. omega (arith, ap (occurs v) r.externals, k.external_once v);
          externals = λ v h. omega (arith, grown G ok r v, k.externals v (omega (arith, ap (occurs v) r.externals)));
          edge = λ e i. go e i (in_cases r.before (subst (λ (es : List Edge). In e es) r.edges i));
        }
      where
        kept : (e : Edge) → In e (r.before ++ (r.replaced ∷ r.after)) → ProperEdge G K'.nodes e
        kept e i =
            let o = old_edge e i in
            record { known = o.known; ranked = o.ranked; once = o.once; attached = λ v h. omega (arith, grown G ok r v, o.attached v h) }

        last : (e : Edge) → In e K'.edges → In e (map (renamed (λ x. at a.place x)) (right_of G a.rule).edges) ⊎ In e r.after → ProperEdge G K'.nodes e
        last e i (inl j) =
            let d = in_map_find (renamed (λ x. at a.place x)) (right_of G a.rule).edges j in
            let o = rule_edge d.0 d.1 in
            record {
              known = subst (λ (c : Edge). c.label < length G.symbols) (sym d.2) o.known;
              ranked = subst (λ (c : Edge). length c.attachment ≡ rank_of G c.label) (sym d.2) (length-map d.0.attachment (λ x. at a.place x) ∙ o.listed.ranked);
              once = subst (λ (c : Edge). (v : ℕ) → occurs v c.attachment ≤ 1) (sym d.2) (copy_edge d.0 d.1);
              attached = attached_step G ok r (λ c m v h. (k.edge c m).attached v h) e i;
            }
        last e i (inr j) = kept e (in_right r.before (there j))

        go : (e : Edge) → In e K'.edges → In e r.before ⊎ In e (map (renamed (λ x. at a.place x)) (right_of G a.rule).edges ++ r.after) → ProperEdge G K'.nodes e
        go e i (inl j) = kept e (in_left (r.replaced ∷ r.after) j)
        go e i (inr j) = last e i (in_cases (map (renamed (λ x. at a.place x)) (right_of G a.rule).edges) j)

  pub derived_proper : {K K' : Hypergraph} {applied : List Application} → Derives G K applied K' → Proper G K → Proper G K'
  derived_proper none k = k
  derived_proper (step r d) k = derived_proper d (proper_step r k)

  pub start_proper : (H : Graph) → GraphOk G H → Proper G (start_on G.start H.externals)
  start_proper H hok =
      let L = hok.side.externals in
      record {
        once = L.once;
        external_once = L.once;
        externals = λ v h. h;
        edge = λ e i. subst (ProperEdge G H.externals) (sym (in_one i)) (record { known = ok.start_known; ranked = L.ranked; once = L.once; attached = λ v h. h });
      }
