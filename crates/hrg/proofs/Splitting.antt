-- A true active item, taken apart along its plan node: the converse of Joining.
use mathlib.Core.Path.{◌≡◌, refl, sym, ap, ◌∙◌, subst}
use mathlib.Core.Bool.{Bool, true, false}
use mathlib.Core.List.{List, [], ◌∷◌, ◌++◌}
use Prim.Native.Nat.{ℕ, zero, suc, ◌+◌, ◌-◌, ◌≤◌, ◌<◌}
use native.Mathlib.Nat.{not-suc-le-zero, le_of_suc-le-suc}
use native.Mathlib.Omega.{arith}
use lib.ListN.{length}
use lib.Dec.{eqb}
use Rattle.masks.specs.Masks.{bit, of_bits}
use Rattle.masks.proofs.Laws.{bit_le, bit_high, bit_of_bits, sum_disjoint, union_of}
use Rattle.hrg.specs.Counts.{hit, occurs, tabulate}
use Rattle.hrg.specs.Grammars.{Edge, Graph, Rule, Grammar, edge_at}
use Rattle.hrg.specs.Trees.{unplaced, at, images, Parts, edges_in, inner_in, applications_in, FitsParts}
use Rattle.hrg.specs.Items.{below, is_open, is_open_at, either, or_else, joined, keep_if, restrict, Joins}
use Rattle.hrg.specs.Truth.{ActiveTruth}
use Rattle.hrg.specs.WellFormed.{GrammarOk, GraphOk, RuleOk}
use Rattle.hrg.proofs.Sums.{hit_self, hit_eq, hit_ne, sum_le, occurs_sum, occurs_find, occurs_at, occurs_append, length_tabulate, at_tabulate, tabulate_ext}
use Rattle.hrg.proofs.Degrees.{degree, places, degree_add, degree_pos, degree_find, zero_or}
use Rattle.hrg.proofs.Parts.{edges_append, inner_append, applications_append, size_append, size_in, fits_split, fits_place}
use Rattle.hrg.proofs.TreeNodes.{Held, inside, ends, held_parts, images_find}
use Rattle.hrg.proofs.Sides.{tentacles, tentacles_append, tentacles_le, open_in, open_of, once, open_at_in, below_in, below_of, length_restrict, restrict_none, restrict_open, restrict_shown, either_set, either_none, edges_at, edges_at_lem}
use Rattle.hrg.proofs.Joining.{keep_ext, agree_at_lem}

-- two rule nodes with one place are one node
pub place_one : (v : ℕ) (l : List ℕ) (x y : ℕ) → occurs v l ≤ 1 → x < length l → y < length l → at l x ≡ v → at l y ≡ v → x ≡ y
unfolding occurs
place_one v [] x y o a b p q = absurd (not-suc-le-zero a)
place_one v (w ∷ ws) zero zero o a b p q = refl
place_one v (w ∷ ws) zero (suc y) o a b p q = absurd (omega (arith, ap (hit v) p, hit_self v, subst (λ (u : ℕ). 0 < occurs u ws) q (occurs_at ws y (le_of_suc-le-suc b))))
place_one v (w ∷ ws) (suc x) zero o a b p q = absurd (omega (arith, ap (hit v) q, hit_self v, subst (λ (u : ℕ). 0 < occurs u ws) p (occurs_at ws x (le_of_suc-le-suc a))))
place_one v (w ∷ ws) (suc x) (suc y) o a b p q = ap suc (place_one v ws x y (omega arith) (le_of_suc-le-suc a) (le_of_suc-le-suc b) p q)

abbrev pub show : ℕ → ℕ → ℕ
show zero v = unplaced
show (suc k) v = v

show_zero : (k v : ℕ) → k ≡ 0 → show k v ≡ unplaced
show_zero zero v q = refl
show_zero (suc k) v q = absurd (omega arith)

show_pos : (k v : ℕ) → 0 < k → show k v ≡ v
show_pos zero v q = absurd (not-suc-le-zero q)
show_pos (suc k) v q = refl

show_hit : (u k v : ℕ) → u < unplaced → hit u (show k v) ≤ hit u v
show_hit u zero v h = omega (arith, hit_ne u unplaced (λ e. omega arith))
show_hit u (suc k) v h = omega arith

-- the places of the nodes of some edges alone
unfoldable pub place_of : Graph → List ℕ → List ℕ → List ℕ
place_of P is place = tabulate P.nodes (λ x. show (tentacles P is x) (at place x))

-- the set of graph edges that some parts of a set use
unfoldable pub mask_of : ℕ → Parts → ℕ
mask_of m ps = of_bits m (λ e. occurs e (edges_in ps))

-- The parts of an item of mask m at plan node p, cut in two along the edge lists is and js.
pub record Cut (G : Grammar) (H : Graph) (R : Rule) (p m : ℕ) (place : List ℕ) (parts : Parts) (is js : List ℕ) (a b : Parts) : Type 0 where
  pub fits_a : FitsParts G H place a (edges_at R.production.right is)
  pub fits_b : FitsParts G H place b (edges_at R.production.right js)
  pub known_a : (i : ℕ) → 0 < occurs i is → i < length R.production.right.edges
  pub known_b : (i : ℕ) → 0 < occurs i js → i < length R.production.right.edges
  pub edges : (e : ℕ) → bit m e ≡ occurs e (edges_in a) + occurs e (edges_in b)
  pub inner : (v : ℕ) → occurs v (inner_in G parts) ≡ occurs v (inner_in G a) + occurs v (inner_in G b)
  pub count : applications_in G parts ≡ applications_in G a + applications_in G b
  pub sizes : size_in parts ≡ size_in a + size_in b
  pub sums : (x : ℕ) → tentacles R.production.right (below R.plan p) x ≡ tentacles R.production.right is x + tentacles R.production.right js x

pub swap_cut : {G : Grammar} {H : Graph} {R : Rule} {p m : ℕ} {place : List ℕ} {parts : Parts} {is js : List ℕ} {a b : Parts}
    → Cut G H R p m place parts is js a b → Cut G H R p m place parts js is b a
swap_cut c =
    record {
      fits_a = c.fits_b;
      fits_b = c.fits_a;
      known_a = c.known_b;
      known_b = c.known_a;
      edges = λ e. omega (arith, c.edges e);
      inner = λ v. omega (arith, c.inner v);
      count = omega (arith, c.count);
      sizes = omega (arith, c.sizes);
      sums = λ x. omega (arith, c.sums x);
    }

map_append : (P : Graph) (l k : List ℕ) → edges_at P (l ++ k) ≡ edges_at P l ++ edges_at P k
map_append P [] k = refl
map_append P (i ∷ l) k = ap (λ (es : List Edge). edge_at P.edges i ∷ es) (map_append P l k)

pub record Pieces (G : Grammar) (H : Graph) (R : Rule) (p m : ℕ) (place : List ℕ) (parts : Parts) (is js : List ℕ) : Type 0 where
  pub a : Parts
  pub b : Parts
  pub cut : Cut G H R p m place parts is js a b

-- ---- along a split of what lies below
pub cut_at : {G : Grammar} {H : Graph} (R : Rule) (p : ℕ) {m n : ℕ} {f : List ℕ} (h : ActiveTruth G H R p m f n) (is js : List ℕ) → below R.plan p ≡ is ++ js
    → ((i : ℕ) → 0 < occurs i (is ++ js) → i < length R.production.right.edges) → Pieces G H R p m h.place h.parts is js
cut_at {G} {H} R p {m} h is js split known =
    let P = R.production.right in
    let c = fits_split G H h.place h.parts (edges_at P is) (edges_at P js)
    (subst (λ (es : List Edge). FitsParts G H h.place h.parts es) (ap (λ (l : List ℕ). edges_at P l) split ∙ map_append P is js) h.fits) in
    record {
      a = c.first;
      b = c.second;
      cut = record {
        fits_a = c.fits_first;
        fits_b = c.fits_second;
        known_a = λ i o. known i (omega (arith, occurs_append i is js));
        known_b = λ i o. known i (omega (arith, occurs_append i is js));
        edges = λ e. sym (h.edges e) ∙ ap (λ (ps : Parts). occurs e (edges_in ps)) c.whole ∙ edges_append c.first c.second e;
        inner = λ v. ap (λ (ps : Parts). occurs v (inner_in G ps)) c.whole ∙ inner_append G c.first c.second v;
        count = ap (applications_in G) c.whole ∙ applications_append G c.first c.second;
        sizes = ap size_in c.whole ∙ size_append c.first c.second;
        sums = λ x. ap (λ (l : List ℕ). tentacles P l x) split ∙ tentacles_append P is js x;
      };
    }

module _ (G : Grammar) (H : Graph) (ok : GrammarOk G) (hok : GraphOk G H) (R : Rule) (rok : RuleOk G R) (p : ℕ) (under : p < length R.plan)
    {m n : ℕ} {f : List ℕ} (h : ActiveTruth G H R p m f n) {is js : List ℕ} {a b : Parts} (c : Cut G H R p m h.place h.parts is js a b) where
  sums_le : (x : ℕ) → tentacles R.production.right is x + tentacles R.production.right js x ≤ places R.production.right x
  sums_le x = omega (arith, c.sums x, tentacles_le R.production.right (below R.plan p) x (once R rok p under))

  pub bit_a : (e : ℕ) → bit (mask_of m a) e ≡ occurs e (edges_in a)
  unfolding mask_of
  bit_a e = bit_of_bits m (λ e. occurs e (edges_in a)) (λ e. omega (arith, c.edges e, bit_le m e)) (λ e l. omega (arith, c.edges e, bit_high m e l)) e

  pub bit_b : (e : ℕ) → bit (mask_of m b) e ≡ occurs e (edges_in b)
  unfolding mask_of
  bit_b e = bit_of_bits m (λ e. occurs e (edges_in b)) (λ e. omega (arith, c.edges e, bit_le m e)) (λ e l. omega (arith, c.edges e, bit_high m e l)) e

  bits : (e : ℕ) → bit m e ≡ bit (mask_of m a) e + bit (mask_of m b) e
  bits e = omega (arith, c.edges e, bit_a e, bit_b e)

  graph_sums : (v : ℕ) → degree (bit m) H.edges v ≡ degree (bit (mask_of m a)) H.edges v + degree (bit (mask_of m b)) H.edges v
  graph_sums v = degree_add (bit (mask_of m a)) (bit (mask_of m b)) (bit m) H.edges v bits

  -- A rule node placed on v that is not all inside the first edges.
  record Node (v : ℕ) (P : ℕ → Type 0) : Type 0 where
    node : ℕ
    low : node < R.production.right.nodes
    place : at h.place node ≡ v
    holds : P node

  data Where (v : ℕ) (ps : Parts) (P : ℕ → Type 0) : Type 0 where
    within : 0 < occurs v (inner_in G ps) → Where v ps P
    at_node : Node v P → Where v ps P

  -- a node on a graph edge of some parts is inner in them or the place of a node of their edges
  on_part : (v e : ℕ) (ls : List ℕ) (ps : Parts) → ((i : ℕ) → 0 < occurs i ls → i < length R.production.right.edges)
      → FitsParts G H h.place ps (edges_at R.production.right ls) → 0 < occurs e (edges_in ps) → 0 < occurs v (edge_at H.edges e).attachment
      → Where v ps (λ x. 0 < tentacles R.production.right ls x)
  on_part v e ls ps known fits used on = go (held_parts G H ok v e on ps h.place (edges_at R.production.right ls) fits used)
    where
      go : Held G H ok v e on h.place ps (edges_at R.production.right ls) → Where v ps (λ x. 0 < tentacles R.production.right ls x)
      go (inside k) = within k
      go (ends i l k) =
          let P = R.production.right in
          let j = edges_at_lem P ls i l in
          let x = images_find h.place (edge_at P.edges j.0).attachment v (subst (λ (d : Edge). 0 < occurs v (images h.place d.attachment)) j.2 k) in
          at_node (record {
            node = x.0;
            low = (rok.right.edge j.0 (known j.0 j.1)).listed.inside x.0 x.1;
            place = x.2;
            holds = degree_pos (λ i. occurs i ls) P.edges x.0 j.0 j.1 x.1;
          })

  -- an open node of the first set is the place of an open node of the first edges
  module _ (v : ℕ) (low : v < H.nodes) where
    here : 0 < degree (bit (mask_of m a)) H.edges v → Where v a (λ x. 0 < tentacles R.production.right is x)
    here k =
        let e = degree_find (bit (mask_of m a)) H.edges v k in
        on_part v e.0 is a c.known_a c.fits_a (omega (arith, bit_a e.0, e.2)) e.3

    out : degree (bit (mask_of m a)) H.edges v < places H v → 0 < degree (bit (mask_of m a)) H.edges v
        → Where v b (λ x. tentacles R.production.right is x < places R.production.right x)
    out l k =
        zero_or (places H v - degree (bit m) H.edges v)
        (λ z. let e = degree_find (bit (mask_of m b)) H.edges v (omega (arith, graph_sums v)) in
        rest (on_part v e.0 js b c.known_b c.fits_b (omega (arith, bit_b e.0, e.2)) e.3))
        (λ z. shown (h.covers.image v low (open_of H m v (omega (arith, graph_sums v)) (omega arith))))
      where
        rest : Where v b (λ x. 0 < tentacles R.production.right js x) → Where v b (λ x. tentacles R.production.right is x < places R.production.right x)
        rest (within k) = within k
        rest (at_node d) = at_node (record { node = d.node; low = d.low; place = d.place; holds = omega (arith, d.holds, sums_le d.node) })

        shown : 0 < occurs v f → Where v b (λ x. tentacles R.production.right is x < places R.production.right x)
        shown k =
            let y = occurs_find v f k in
            let l : y.0 < R.production.right.nodes = omega (arith, y.1, ap length h.map, length_restrict R rok p under h.place) in
            let e = ap (λ (g : List ℕ). at g y.0) h.map in
            let d = restrict_shown R rok p under h.place y.0 l (omega (arith, e, y.2, hok.side.node_count.upper)) in
            at_node (record { node = y.0; low = l; place = sym d.2 ∙ sym e ∙ y.2; holds = omega (arith, d.1, c.sums y.0) })

    pub open_node : is_open H (mask_of m a) v ≡ true
        → (x : ℕ) × (x < R.production.right.nodes) × (at h.place x ≡ v) × (0 < tentacles R.production.right is x)
        × (tentacles R.production.right is x < places R.production.right x)
    open_node o = let k = open_in H (mask_of m a) v o in go (here k.0) (out k.1 k.0)
      where
        few : occurs v (inner_in G a) + occurs v (inner_in G b) + occurs v h.place ≤ 1
        few = omega (arith, h.once v low, c.inner v)

        placed : (x : ℕ) → x < R.production.right.nodes → at h.place x ≡ v → 0 < occurs v h.place
        placed x l q = subst (λ (u : ℕ). 0 < occurs u h.place) q (occurs_at h.place x (omega (arith, h.sized)))

        go : Where v a (λ x. 0 < tentacles R.production.right is x) → Where v b (λ x. tentacles R.production.right is x < places R.production.right x)
            → (x : ℕ) × (x < R.production.right.nodes) × (at h.place x ≡ v) × (0 < tentacles R.production.right is x)
            × (tentacles R.production.right is x < places R.production.right x)
        go (within k) (within l) = absurd (omega (arith, few))
        go (within k) (at_node y) = absurd (omega (arith, few, placed y.node y.low y.place))
        go (at_node x) (within l) = absurd (omega (arith, few, placed x.node x.low x.place))
        go (at_node x) (at_node y) =
            let e = place_one v h.place x.node y.node (omega (arith, few)) (omega (arith, h.sized, x.low)) (omega (arith, h.sized, y.low)) x.place y.place in
            (x.node, x.low, x.place, x.holds, subst (λ (z : ℕ). tentacles R.production.right is z < places R.production.right z) (sym e) y.holds)

  -- ---- the first edges alone
  at_a : (x : ℕ) → x < R.production.right.nodes → at (place_of R.production.right is h.place) x ≡ show (tentacles R.production.right is x) (at h.place x)
  unfolding place_of
  at_a x l = at_tabulate R.production.right.nodes (λ x. show (tentacles R.production.right is x) (at h.place x)) x l

  pub at_off : (x : ℕ) → x < R.production.right.nodes → tentacles R.production.right is x ≡ 0 → at (place_of R.production.right is h.place) x ≡ unplaced
  at_off x l z = at_a x l ∙ show_zero (tentacles R.production.right is x) (at h.place x) z

  pub at_on : (x : ℕ) → x < R.production.right.nodes → 0 < tentacles R.production.right is x → at (place_of R.production.right is h.place) x ≡ at h.place x
  at_on x l z = at_a x l ∙ show_pos (tentacles R.production.right is x) (at h.place x) z

  length_a : length (place_of R.production.right is h.place) ≡ R.production.right.nodes
  unfolding place_of
  length_a = length_tabulate R.production.right.nodes (λ x. show (tentacles R.production.right is x) (at h.place x))

  few_a : (v : ℕ) → v < H.nodes → occurs v (place_of R.production.right is h.place) ≤ occurs v h.place
  few_a v l =
      let N = R.production.right.nodes in
      let q = place_of R.production.right is h.place in
      omega (
        arith,
        occurs_sum v N q length_a,
        occurs_sum v N h.place h.sized,
        sum_le N (λ x. hit v (at q x)) (λ x. hit v (at h.place x))
            (λ x k. omega (arith, ap (hit v) (at_a x k), show_hit v (tentacles R.production.right is x) (at h.place x) (omega (arith, hok.side.node_count.upper)))),
      )

  fits_a : FitsParts G H (place_of R.production.right is h.place) a (edges_at R.production.right is)
  fits_a =
      fits_place G H h.place (place_of R.production.right is h.place) a (edges_at R.production.right is)
      (agree_at_lem G R rok is h.place (place_of R.production.right is h.place) c.known_a (λ x l k. sym (at_on x l k))) c.fits_a

-- where the first edges are those below a plan node q, they make a true item there
module _ (G : Grammar) (H : Graph) (ok : GrammarOk G) (hok : GraphOk G H) (R : Rule) (rok : RuleOk G R) (p : ℕ) (under : p < length R.plan) (q : ℕ) (child : q < length R.plan)
    {m n : ℕ} {f : List ℕ} (h : ActiveTruth G H R p m f n) {js : List ℕ} {a b : Parts} (c : Cut G H R p m h.place h.parts (below R.plan q) js a b) where
  pub child_truth : ActiveTruth G H R q (mask_of m a) (restrict R q (place_of R.production.right (below R.plan q) h.place)) (applications_in G a)
  child_truth =
      let P = R.production.right in
      let place = place_of P (below R.plan q) h.place in
      let on = at_on G H ok hok R rok p under h c in
      record {
        place = place;
        parts = a;
        sized = length_a G H ok hok R rok p under h c;
        placed = λ x l k. let z = below_in R rok q child x k in omega (arith, on x l z, h.placed x l (below_of R rok p under x (omega (arith, c.sums x))));
        others = λ x l k. zero_or (tentacles P (below R.plan q) x) (at_off G H ok hok R rok p under h c x l) (λ z. absurd (k (below_of R rok q child x z)));
        fits = fits_a G H ok hok R rok p under h c;
        edges = λ e. sym (bit_a G H ok hok R rok p under h c e);
        once = λ v l. omega (arith, h.once v l, c.inner v, few_a G H ok hok R rok p under h c v l);
        map = refl;
        covers = record {
          image = λ v l o.
              let x = open_node G H ok hok R rok p under h c v l o in
              subst (λ (u : ℕ). 0 < occurs u (restrict R q place)) (restrict_open R rok q child place x.0 x.1 x.3 x.4 ∙ on x.0 x.1 x.3 ∙ x.2)
              (occurs_at (restrict R q place) x.0 (omega (arith, x.1, length_restrict R rok q child place)));
        };
        count = refl;
      }

  pub child_parts : child_truth.parts ≡ a
  unfolding child_truth
  child_parts = refl

-- A map that shows the places of the nodes of some edges, where these are open.
pub record Shows (P : Graph) (is place f : List ℕ) : Type 0 where
  pub long : length f ≡ P.nodes
  pub off : (x : ℕ) → x < P.nodes → tentacles P is x ≡ 0 → at f x ≡ unplaced
  pub open_shown : (x : ℕ) → x < P.nodes → 0 < tentacles P is x → tentacles P is x < places P x → at f x ≡ at place x
  pub any : (x : ℕ) → x < P.nodes → at f x < unplaced → at f x ≡ at place x

pub child_shows : (G : Grammar) (H : Graph) (ok : GrammarOk G) (hok : GraphOk G H) (R : Rule) (rok : RuleOk G R) (p : ℕ) (under : p < length R.plan) (q : ℕ) (child : q < length R.plan)
    {m n : ℕ} {f : List ℕ} (h : ActiveTruth G H R p m f n) {js : List ℕ} {a b : Parts} (c : Cut G H R p m h.place h.parts (below R.plan q) js a b)
    → Shows R.production.right (below R.plan q) h.place (restrict R q (place_of R.production.right (below R.plan q) h.place))
child_shows G H ok hok R rok p under q child h c =
    let place = place_of R.production.right (below R.plan q) h.place in
    let on = at_on G H ok hok R rok p under h c in
    record {
      long = length_restrict R rok q child place;
      off = λ x l z. restrict_none R rok q child place x l (at_off G H ok hok R rok p under h c x l z);
      open_shown = λ x l a b. restrict_open R rok q child place x l a b ∙ on x l a;
      any = λ x l k. let d = restrict_shown R rok q child place x l k in d.2 ∙ on x l d.0;
    }

module _ (G : Grammar) (H : Graph) (ok : GrammarOk G) (hok : GraphOk G H) (R : Rule) (rok : RuleOk G R) (p : ℕ) (under : p < length R.plan)
    {m n : ℕ} {f : List ℕ} (h : ActiveTruth G H R p m f n) {is js : List ℕ} {a b : Parts} (c : Cut G H R p m h.place h.parts is js a b)
    (f₁ f₂ : List ℕ) (A : Shows R.production.right is h.place f₁) (B : Shows R.production.right js h.place f₂) where
  at_joined : (x : ℕ) → x < R.production.right.nodes → at (joined R.production.right.nodes f₁ f₂) x ≡ or_else (at f₁ x) (at f₂ x)
  unfolding joined
  at_joined x l = at_tabulate R.production.right.nodes (λ x. or_else (at f₁ x) (at f₂ x)) x l

  near : (v y z : ℕ) → v < unplaced → (y < unplaced → y ≡ z) → hit v y ≤ hit v z
  near v y z l q = zero_or (hit v y) (λ k. omega arith) (λ k. omega (arith, ap (hit v) (q (omega (arith, hit_eq v y k)))))

  hits : (v x : ℕ) → v < unplaced → x < R.production.right.nodes → hit v (or_else (at f₁ x) (at f₂ x)) ≤ hit v (at h.place x)
  hits v x l k = go (eqb (at f₁ x) unplaced)
    where
      go : (s : Bool) → hit v (either s (at f₁ x) (at f₂ x)) ≤ hit v (at h.place x)
      go true = near v (at f₂ x) (at h.place x) l (B.any x k)
      go false = near v (at f₁ x) (at h.place x) l (A.any x k)

  open_place_is : (x : ℕ) → x < R.production.right.nodes → is_open_at R p x ≡ true → at h.place x ≡ at (joined R.production.right.nodes f₁ f₂) x
  open_place_is x l o =
      let k = open_at_in R rok p under x o in
      zero_or (tentacles R.production.right is x)
      (λ z. sym (at_joined x l ∙ either_none (at f₁ x) (at f₂ x) (A.off x l z) ∙ B.open_shown x l (omega (arith, c.sums x, k.0)) (omega (arith, c.sums x, k.1))))
      (λ z. let e = A.open_shown x l z (omega (arith, c.sums x, k.1)) in
      sym (at_joined x l ∙ either_set (at f₁ x) (at f₂ x) (omega (arith, e, h.placed x l (below_of R rok p under x k.0), hok.side.node_count.upper)) ∙ e))

  pub cut_joins : Joins H R p (mask_of m a) (mask_of m b) f₁ f₂ m f
  unfolding joined restrict
  cut_joins =
      let N = R.production.right.nodes in
      let bits : (e : ℕ) → bit m e ≡ bit (mask_of m a) e + bit (mask_of m b) e
      = λ e. omega (arith, c.edges e, bit_a G H ok hok R rok p under h c e, bit_b G H ok hok R rok p under h c e) in
      record {
        disjoint = sum_disjoint (mask_of m a) (mask_of m b) (λ e. omega (arith, bits e, bit_le m e));
        union = union_of m (mask_of m a) (mask_of m b) bits;
        function = λ x l i j. A.any x l i ∙ sym (B.any x l j);
        one_to_one_is = λ v l. omega (
          arith,
          h.once v l,
          occurs_sum v N h.place h.sized,
          occurs_sum v N (joined N f₁ f₂) (length_tabulate N (λ x. or_else (at f₁ x) (at f₂ x))),
          sum_le N (λ x. hit v (at (joined N f₁ f₂) x)) (λ x. hit v (at h.place x)) (λ x k. omega (arith, ap (hit v) (at_joined x k), hits v x (omega (arith, hok.side.node_count.upper)) k)),
        );
        map = h.map ∙ tabulate_ext N (λ x. keep_if (is_open_at R p x) (at h.place x)) (λ x. keep_if (is_open_at R p x) (at (joined N f₁ f₂) x))
            (λ x l. keep_ext (is_open_at R p x) (at h.place x) (at (joined N f₁ f₂) x) (open_place_is x l));
        covers = h.covers;
      }
