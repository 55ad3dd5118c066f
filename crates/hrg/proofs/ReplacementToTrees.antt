-- T3, from replacement to trees: a derivation that ends in graph edges is made of parts for the edges that it began
-- with.
use mathlib.Core.Path.{◌≡◌, refl, sym, ap, ap₂, ◌∙◌, subst}
use mathlib.Core.Logic.{◌⊎◌, inl, inr}
use mathlib.Core.List.Memᴰ.{append_cases as in_cases}
use mathlib.Core.List.Memᴰ.{append_left as in_left}
use mathlib.Core.List.Memᴰ.{append_right as in_right}
use mathlib.Core.List.Memᴰ.{head as here}
use mathlib.Core.List.Memᴰ.{tail as there}
use mathlib.Core.List.{List, [], ◌∷◌, ◌++◌, map, map-append, nil≢cons, cons≢nil, head-eq_of_cons-eq, tail-eq_of_cons-eq, Memᴰ as In}
use Prim.Native.Nat.{ℕ, zero, suc, ◌+◌, ◌≤◌, ◌<◌}
use native.Mathlib.Nat.{not-suc-le-zero, le_of_suc-le-suc}
use native.Mathlib.Omega.{arith}
use lib.ListN.{length, length-map}
use Rattle.hrg.specs.Counts.{occurs, Reordered, none, keep, swap, trans}
use Rattle.hrg.specs.Grammars.{terminal, Edge, Graph, Grammar, cost, rule_of, right_of, kind_of, edge_at}
use Rattle.hrg.specs.Trees.{at, images, apply, Parts, end, edge, tree, edges_of, edges_in, internals, inner_of, inner_in, applications, applications_in, FitsEdge, FitsRule, Fits, FitsParts}
use Rattle.hrg.specs.WellFormed.{GrammarOk}
use Rattle.hrg.specs.Replacement.{Hypergraph, renamed, Application, Replaces, Derives, none as no_step, step, steps_of, Terminal}
use Rattle.hrg.proofs.Sums.{hit_self, occurs_append, occurs_internals, internals_inside}
use Rattle.hrg.proofs.Parts.{◌⧺◌, edges_append, inner_append, applications_append, fits_append, fits_split}
use Rattle.hrg.proofs.TreeNodes.{images_pos, images_find, pos_sum}
use Rattle.hrg.proofs.Sides.{edges_at}

-- ---- lists of images, put into another order
pub record Preimage {A : Type 0} (f : ℕ → A) (xs : List A) (ys : List ℕ) : Type 0 where
  pub list : List ℕ
  pub order : Reordered list ys
  pub image : map f list ≡ xs

pub preimage : {A : Type 0} (f : ℕ → A) {xs zs : List A} → Reordered xs zs → (ys : List ℕ) → zs ≡ map f ys → Preimage f xs ys
preimage f none [] q = record { list = []; order = none; image = refl }
preimage f none (y ∷ ys) q = absurd (nil≢cons q)
preimage f (keep r) [] q = absurd (cons≢nil q)
preimage f (keep r) (y ∷ ys) q =
    let p = preimage f r ys (tail-eq_of_cons-eq q) in
    record { list = y ∷ p.list; order = keep p.order; image = ap₂ ◌∷◌ (sym (head-eq_of_cons-eq q)) p.image }
preimage f swap [] q = absurd (cons≢nil q)
preimage f swap (y ∷ []) q = absurd (cons≢nil (tail-eq_of_cons-eq q))
preimage f swap (y ∷ z ∷ ys) q = record { list = z ∷ y ∷ ys; order = swap; image = cc }
preimage f (trans r s) ys q =
    let p = preimage f s ys q in
    let o = preimage f r p.list (sym p.image) in
    record { list = o.list; order = trans o.order p.order; image = o.image }

-- ---- a placement after another
pub at_images : (Φ place : List ℕ) (x : ℕ) → x < length place → at (images Φ place) x ≡ at Φ (at place x)
at_images Φ [] x l = absurd (not-suc-le-zero l)
at_images Φ (y ∷ ys) zero l = refl
at_images Φ (y ∷ ys) (suc x) l = at_images Φ ys x (le_of_suc-le-suc l)

pub images_images : (Φ place xs : List ℕ) → ((x : ℕ) → 0 < occurs x xs → x < length place) → images Φ (images place xs) ≡ images (images Φ place) xs
unfolding occurs
images_images Φ place [] h = refl
images_images Φ place (x ∷ xs) h =
    ap₂ ◌∷◌ (sym (at_images Φ place x (h x (omega (arith, hit_self x))))) (images_images Φ place xs (λ y q. h y (omega arith)))

module _ (G : Grammar) (H : Graph) where
  pub fits_renamed : (Φ place : List ℕ) (ps : Parts) (es : List Edge) → ((i : ℕ) → i < length es → (x : ℕ) → 0 < occurs x (edge_at es i).attachment → x < length place)
      → FitsParts G H Φ ps (map (renamed (λ x. at place x)) es) → FitsParts G H (images Φ place) ps es
  fits_renamed Φ place end [] h x = x
  fits_renamed Φ place end (e ∷ es) h x = absurd x
  fits_renamed Φ place (edge g ps) [] h x = absurd x
  fits_renamed Φ place (edge g ps) (e ∷ es) h x = (
    subst (λ (L : List ℕ). FitsEdge G H e.label L g) (images_images Φ place e.attachment (h 0 (omega arith))) x.0,
    fits_renamed Φ place ps es (λ i l. h (suc i) (omega arith)) x.1,
  )
  fits_renamed Φ place (tree t ps) [] h x = absurd x
  fits_renamed Φ place (tree t ps) (e ∷ es) h x = (
    subst (λ (L : List ℕ). Fits G H e.label L t) (images_images Φ place e.attachment (h 0 (omega arith))) x.0,
    fits_renamed Φ place ps es (λ i l. h (suc i) (omega arith)) x.1,
  )

-- ---- one step, seen from the new graph
module _ (G : Grammar) (ok : GrammarOk G) {K K' : Hypergraph} {a : Application} (r : Replaces G K a K') where
  pub in_copy : (x : ℕ) → x < (right_of G a.rule).nodes → x < length a.place
  in_copy x l = omega (arith, r.sized)

  pub grown : (v : ℕ) → occurs v K'.nodes ≡ occurs v K.nodes + occurs v (images a.place (internals (right_of G a.rule)))
  grown v = ap (occurs v) r.nodes ∙ occurs_append v K.nodes (images a.place (internals (right_of G a.rule)))

  -- the external nodes of the copy are the edge's nodes in order, wherever these are placed
  pub externals_placed : (Φ : List ℕ) → images (images Φ a.place) (right_of G a.rule).externals ≡ images Φ r.replaced.attachment
  externals_placed Φ =
      sym (images_images Φ a.place (right_of G a.rule).externals (λ x h. in_copy x ((ok.rule a.rule r.known).right.externals.inside x h))) ∙ ap (images Φ) r.identified

  -- Parts for the edges before the replaced one, for those of the copy and for those after it.
  pub record Thirds (H : Graph) (Φ : List ℕ) (ps : Parts) : Type 0 where
    pub first : Parts
    pub copy : Parts
    pub last : Parts
    pub whole : ps ≡ first ⧺ (copy ⧺ last)
    pub fits_first : FitsParts G H Φ first r.before
    pub fits_copy : FitsParts G H (images Φ a.place) copy (right_of G a.rule).edges
    pub fits_last : FitsParts G H Φ last r.after

  pub thirds : (H : Graph) (Φ : List ℕ) (ps : Parts) → FitsParts G H Φ ps K'.edges → Thirds H Φ ps
  thirds H Φ ps x =
      let P = right_of G a.rule in
      let copied = map (renamed (λ x. at a.place x)) P.edges in
      let c = fits_split G H Φ ps r.before (copied ++ r.after) (subst (λ (es : List Edge). FitsParts G H Φ ps es) r.edges x) in
      let d = fits_split G H Φ c.second copied r.after c.fits_second in
      record {
        first = c.first;
        copy = d.first;
        last = d.second;
        whole = c.whole ∙ ap (λ (qs : Parts). c.first ⧺ qs) d.whole;
        fits_first = c.fits_first;
        fits_copy = fits_renamed G H Φ a.place d.first P.edges (λ i l x h. in_copy x (((ok.rule a.rule r.known).right.edge i l).listed.inside x h)) d.fits_first;
        fits_last = d.fits_second;
      }

-- ---- edges end at nodes of the graph
abbrev pub Attached : Hypergraph → Type 0
Attached K = (e : Edge) → In e K.edges → (v : ℕ) → 0 < occurs v e.attachment → 0 < occurs v K.nodes

pub in_map_find : {A B : Type 0} (f : A → B) (l : List A) {b : B} → In b (map f l) → (a : A) × In a l × (b ≡ f a)
in_map_find f [] i = absurd (elim i [ ])
in_map_find f (a ∷ l) (here p) = (a, here refl, p)
in_map_find f (a ∷ l) (there i) = let t = in_map_find f l i in (t.0, there t.1, t.2)

pub in_edge : {e : Edge} {es : List Edge} → In e es → (i : ℕ) × (i < length es) × (e ≡ edge_at es i)
in_edge (here p) = (0, omega arith, p)
in_edge (there m) = let t = in_edge m in (suc t.0, omega (arith, t.1), t.2)

module _ (G : Grammar) (ok : GrammarOk G) where
  -- a node of the copy is a node of the new graph: it is new, or on the replaced edge
  module _ {K K' : Hypergraph} {a : Application} (r : Replaces G K a K') (attached : Attached K) where
    old : (e : Edge) → In e (r.before ++ (r.replaced ∷ r.after)) → (v : ℕ) → 0 < occurs v e.attachment → 0 < occurs v K.nodes
    old e i v h = attached e (subst (λ (es : List Edge). In e es) (sym r.there) i) v h

    pub named : (x : ℕ) → x < (right_of G a.rule).nodes → 0 < occurs (at a.place x) K'.nodes
    named x l =
        let P = right_of G a.rule in
        let v = at a.place x in
        pos_sum (occurs x (internals P)) (occurs x P.externals) (omega (arith, occurs_internals P x l ((ok.rule a.rule r.known).right.externals.once x)))
        (λ h. omega (arith, grown G ok r v, images_pos a.place (internals P) x h))
        (λ h. omega (arith, grown G ok r v, old r.replaced (in_right r.before (here refl)) v (subst (λ (l : List ℕ). 0 < occurs v l) r.identified (images_pos a.place P.externals x h))))

    pub attached_step : Attached K'
    attached_step e i v h = go (in_cases r.before (subst (λ (es : List Edge). In e es) r.edges i))
      where
        last : In e (map (renamed (λ x. at a.place x)) (right_of G a.rule).edges) ⊎ In e r.after → 0 < occurs v K'.nodes
        last (inl j) =
            let f = in_map_find (renamed (λ x. at a.place x)) (right_of G a.rule).edges j in
            let k = in_edge f.1 in
            let x = images_find a.place f.0.attachment v (subst (λ (d : Edge). 0 < occurs v d.attachment) f.2 h) in
            subst (λ (u : ℕ). 0 < occurs u K'.nodes) x.2
            (named x.0 (((ok.rule a.rule r.known).right.edge k.0 k.1).listed.inside x.0 (subst (λ (d : Edge). 0 < occurs x.0 d.attachment) k.2 x.1)))
        last (inr j) = omega (arith, grown G ok r v, old e (in_right r.before (there j)) v h)

        go : In e r.before ⊎ In e (map (renamed (λ x. at a.place x)) (right_of G a.rule).edges ++ r.after) → 0 < occurs v K'.nodes
        go (inl j) = omega (arith, grown G ok r v, old e (in_left (r.replaced ∷ r.after) j) v h)
        go (inr j) = last (in_cases (map (renamed (λ x. at a.place x)) (right_of G a.rule).edges) j)

  -- nodes are never lost
  pub nodes_stay : {K K' : Hypergraph} {applied : List Application} → Derives G K applied K' → (v : ℕ) → occurs v K.nodes ≤ occurs v K'.nodes
  nodes_stay no_step v = omega arith
  nodes_stay (step r d) v = omega (arith, nodes_stay d v, grown G ok r v)

  -- ---- parts for the edges of a graph that derives another
  module _ (H : Graph) (Φ : List ℕ) where
    -- Parts for the edges of K, its nodes placed by Φ: they use the graph edges gs, and their inner nodes are those
    -- that K' has besides.
    pub record Made (K K' : Hypergraph) (gs : List ℕ) (n : ℕ) : Type 0 where
      pub parts : Parts
      pub fits : FitsParts G H Φ parts K.edges
      pub edges : (e : ℕ) → occurs e (edges_in parts) ≡ occurs e gs
      pub nodes : (v : ℕ) → occurs v (inner_in G parts) + occurs v (images Φ K.nodes) ≡ occurs v (images Φ K'.nodes)
      pub count : applications_in G parts ≡ n

    -- graph edges alone
    unfoldable edge_parts : List ℕ → Parts
    edge_parts [] = end
    edge_parts (g ∷ gs) = edge g (edge_parts gs)

    edge_parts_edges : (gs : List ℕ) → edges_in (edge_parts gs) ≡ gs
    unfolding edge_parts edges_in
    edge_parts_edges [] = refl
    edge_parts_edges (g ∷ gs) = ap (λ (l : List ℕ). g ∷ l) (edge_parts_edges gs)

    edge_parts_inner : (gs : List ℕ) → inner_in G (edge_parts gs) ≡ []
    unfolding edge_parts inner_in
    edge_parts_inner [] = refl
    edge_parts_inner (g ∷ gs) = edge_parts_inner gs

    edge_parts_count : (gs : List ℕ) → applications_in G (edge_parts gs) ≡ 0
    unfolding edge_parts applications_in
    edge_parts_count [] = refl
    edge_parts_count (g ∷ gs) = edge_parts_count gs

    edge_parts_fit : (gs : List ℕ) (es : List Edge) → edges_at H gs ≡ map (renamed (λ x. at Φ x)) es → ((g : ℕ) → 0 < occurs g gs → g < length H.edges)
        → ((i : ℕ) → i < length es → kind_of G (edge_at es i).label ≡ terminal) → FitsParts G H Φ (edge_parts gs) es
    unfolding edge_parts occurs
    edge_parts_fit [] [] q known t = tt
    edge_parts_fit [] (e ∷ es) q known t = absurd (nil≢cons q)
    edge_parts_fit (g ∷ gs) [] q known t = absurd (cons≢nil q)
    edge_parts_fit (g ∷ gs) (e ∷ es) q known t =
        let same = head-eq_of_cons-eq q in (
          record {
            kind = t 0 (omega arith);
            known = known g (omega (arith, hit_self g));
            label = ap (λ (d : Edge). d.label) same;
            attachment = ap (λ (d : Edge). d.attachment) same;
          },
          edge_parts_fit gs es (tail-eq_of_cons-eq q) (λ h l. known h (omega arith)) (λ i l. t (suc i) (omega arith)),
        )

    module _ (gs : List ℕ) (known : (g : ℕ) → 0 < occurs g gs → g < length H.edges) where
      nothing_made : (K : Hypergraph) → Terminal G K → edges_at H gs ≡ map (renamed (λ x. at Φ x)) K.edges → Made K K gs 0
      unfolding occurs
      nothing_made K t q =
          record {
            parts = edge_parts gs;
            fits = edge_parts_fit gs K.edges q known t.labels;
            edges = λ e. ap (occurs e) (edge_parts_edges gs);
            nodes = λ v. omega (arith, ap (occurs v) (edge_parts_inner gs));
            count = edge_parts_count gs;
          }

      module _ {K K' : Hypergraph} {a : Application} (r : Replaces G K a K') (attached : Attached K) (inside : (v : ℕ) → 0 < occurs v K'.nodes → at Φ v < H.nodes) where
        applied_fits : FitsRule G H r.replaced.label (images Φ r.replaced.attachment) a.rule (images Φ a.place)
        applied_fits =
            record {
              kind = r.kind;
              known = r.known;
              lhs = r.lhs;
              sized = length-map a.place (λ x. at Φ x) ∙ r.sized;
              placed = λ x l. subst (λ (v : ℕ). v < H.nodes) (sym (at_images Φ a.place x (in_copy G ok r x l))) (inside (at a.place x) (named r attached x l));
              externals = externals_placed G ok r Φ;
            }

        -- how often a node is one of the images of the new graph's nodes
        grown_images : (v : ℕ) → occurs v (images Φ K'.nodes) ≡ occurs v (images Φ K.nodes) + occurs v (images (images Φ a.place) (internals (right_of G a.rule)))
        grown_images v =
            let inner = internals (right_of G a.rule) in
            let own = images a.place inner in
            ap (λ (l : List ℕ). occurs v (images Φ l)) r.nodes ∙ ap (occurs v) (map-append (λ x. at Φ x) K.nodes own) ∙ occurs_append v (images Φ K.nodes) (images Φ own)
            ∙ ap (λ (l : List ℕ). occurs v (images Φ K.nodes) + occurs v l) (images_images Φ a.place inner (λ x h. in_copy G ok r x (internals_inside (right_of G a.rule) x h)))

      -- the parts for the edges of a copy go under the application that made it
      step_made : {K K' K'' : Hypergraph} {a : Application} {n : ℕ} → Replaces G K a K' → Attached K → ((v : ℕ) → 0 < occurs v K'.nodes → at Φ v < H.nodes)
          → Made K' K'' gs n → Made K K'' gs (cost (rule_of G a.rule) + n)
      unfolding edges_of edges_in inner_of inner_in applications applications_in
      step_made {K} {K'} {K''} {a} {n} r attached inside m =
          let own = images (images Φ a.place) (internals (right_of G a.rule)) in
          let c = thirds G ok r H Φ m.parts m.fits in
          let here_on = tree (apply a.rule (images Φ a.place) c.copy) c.last in
          record {
            parts = c.first ⧺ here_on;
            fits = subst (λ (es : List Edge). FitsParts G H Φ (c.first ⧺ here_on) es) (sym r.there)
                (fits_append G H Φ c.first here_on r.before (r.replaced ∷ r.after) c.fits_first ((applied_fits r attached inside, c.fits_copy), c.fits_last));
            edges = λ e. omega (
              arith,
              m.edges e,
              ap (λ (ps : Parts). occurs e (edges_in ps)) c.whole,
              edges_append c.first (c.copy ⧺ c.last) e,
              edges_append c.copy c.last e,
              edges_append c.first here_on e,
              occurs_append e (edges_in c.copy) (edges_in c.last),
            );
            nodes = λ v. omega (
              arith,
              m.nodes v,
              grown_images r attached inside v,
              ap (λ (ps : Parts). occurs v (inner_in G ps)) c.whole,
              inner_append G c.first (c.copy ⧺ c.last) v,
              inner_append G c.copy c.last v,
              inner_append G c.first here_on v,
              occurs_append v (own ++ inner_in G c.copy) (inner_in G c.last),
              occurs_append v own (inner_in G c.copy),
            );
            count = omega (
              arith,
              m.count,
              ap (applications_in G) c.whole,
              applications_append G c.first (c.copy ⧺ c.last),
              applications_append G c.copy c.last,
              applications_append G c.first here_on,
            );
          }

      pub derived_made : {K K' : Hypergraph} {applied : List Application} → Derives G K applied K' → Attached K → ((v : ℕ) → 0 < occurs v K'.nodes → at Φ v < H.nodes)
          → Terminal G K' → edges_at H gs ≡ map (renamed (λ x. at Φ x)) K'.edges → Made K K' gs (steps_of G applied)
      unfolding steps_of
      derived_made (no_step {K}) attached inside t q = nothing_made K t q
      derived_made (step r d) attached inside t q =
          step_made r attached (λ v h. inside v (omega (arith, nodes_stay d v))) (derived_made d (attached_step r attached) inside t q)
