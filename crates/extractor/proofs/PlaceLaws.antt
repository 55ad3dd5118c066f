-- Where an application places its nodes: an edge's nodes by its partner, put over the map where they have no place
-- yet, and one edge more.
use mathlib.Core.Path.{◌≡◌, refl, sym, ap, ap₂, ◌∙◌}
use mathlib.Core.Bool.{Bool, true, false}
use mathlib.Core.List.{List, [], ◌∷◌}
use Prim.Native.Nat.{ℕ, zero, suc, ◌+◌, ◌-◌, ◌≤◌, ◌<◌, min}
use native.Mathlib.Numerals.{add-one}
use native.Mathlib.Omega.{arith}
use native.Mathlib.Decide.{dec_lt}
use lib.ListN.{length, get_or, set, take, drop, replicate, length-set, length-take, drop_of_length-le, get_or-eq_default}
use lib.Seq.{drop-cons, get_or-set_same, get_or-set_other, get_or-take}
use lib.Dec.{eqb}
use borrow.Author.Tests.{eq-eqb, ne_eqb, eqb-true, eqb-false}
use Rattle.hrg.specs.Counts.{hit, occurs, tabulate}
use Rattle.hrg.specs.Grammars.{Kind, terminal, nonterminal, Edge, Graph, Grammar, no_edge, kind_of, right_of, edge_at}
use Rattle.hrg.specs.Trees.{unplaced, at, padded}
use Rattle.hrg.specs.Items.{either, or_else, joined, node_for, attach}
use Rattle.hrg.proofs.Sums.{hit_self, length_tabulate, at_tabulate, tabulate_ext, occurs_around, none_left}
use Rattle.questions.specs.Layout.{rank_at, rule_nodes, edge_label, edge_node, graph_edges, graph_label, graph_node}
use Rattle.questions.specs.Abstract.{grammar_of, graph_of}
use Rattle.questions.proofs.StoredLaws.{take_tabulate}
use Rattle.joins.specs.Joins.{KnownEdge, edge_nodes, BareFrom}
use Rattle.joins.proofs.Known.{graph_size}
use Rattle.joins.proofs.GraphLaws.{edge_nodes_lem}
use Rattle.joins.proofs.EdgeMaps.{at_padded, at_past, is_padded, padded_bare, same_bare, at_none, edge_ok, edge_rank, node_there, edge_node_few}
use Rattle.joins.proofs.MapLaws.{get_d_any, length_joined, at_joined}
use Rattle.agenda.specs.declared.Record.{Record}
use Rattle.records.specs.Words.{record_at}
use Rattle.extraction.specs.Extraction.{nodes_by, part_nodes, placed_by}
use Rattle.extractor.specs.Reading.{is_nonterminal}
use Rattle.extractor.proofs.RuleLookup.{label_rank}

-- ---- the node of L for a rule node
node_first : (x a b : ℕ) (A L : List ℕ) → x ≡ a → node_for x (a ∷ A) (b ∷ L) ≡ b
unfolding node_for
node_first x a b A L e = rw (eq-eqb x a e)

node_later : (x a b : ℕ) (A L : List ℕ) → (x ≡ a → ⊥) → node_for x (a ∷ A) (b ∷ L) ≡ node_for x A L
unfolding node_for
node_later x a b A L n = rw (ne_eqb x a n)

node_none : (x : ℕ) (A L : List ℕ) → occurs x A ≡ 0 → node_for x A L ≡ unplaced
unfolding node_for occurs
node_none x [] L h = refl
node_none x (a ∷ A) [] h = refl
node_none x (a ∷ A) (b ∷ L) h = go (eqb x a) refl (node_none x A L)
  where
    go : (p : Bool) → eqb x a ≡ p → (occurs x A ≡ 0 → node_for x A L ≡ unplaced) → either (eqb x a) (node_for x A L) b ≡ unplaced
    go true e ih = absurd (omega (arith, hit_self a, ap (λ y. hit y a) (eqb-true x a e)))
    go false e ih = rw e (ih (omega arith))

node_bare : (x : ℕ) (A : List ℕ) → node_for x A [] ≡ unplaced
unfolding node_for
node_bare x [] = refl
node_bare x (a ∷ A) = refl

-- lists with the same nodes, 64 past their ends, have the same node for it
node_same : (x : ℕ) (A L M : List ℕ) → ((k : ℕ) → at L k ≡ at M k) → node_for x A L ≡ node_for x A M
unfolding node_for
node_same x [] L M h = refl
node_same x (a ∷ A) [] [] h = refl
node_same x (a ∷ A) [] (c ∷ M) h = one (eqb x a) (h 0) (sym (node_bare x A) ∙ node_same x A [] M (λ k. h (suc k)))
  where
    one : (p : Bool) → unplaced ≡ c → unplaced ≡ node_for x A M → unplaced ≡ either p (node_for x A M) c
    one true e r = e
    one false e r = r
node_same x (a ∷ A) (b ∷ L) [] h = one (eqb x a) (h 0) (node_same x A L [] (λ k. h (suc k)) ∙ node_bare x A)
  where
    one : (p : Bool) → b ≡ unplaced → node_for x A L ≡ unplaced → either p (node_for x A L) b ≡ unplaced
    one true e r = e
    one false e r = r
node_same x (a ∷ A) (b ∷ L) (c ∷ M) h = ap₂ (λ (n v : ℕ). either (eqb x a) n v) (node_same x A L M (λ k. h (suc k))) (h 0)

attach_same : (n : ℕ) (A L M : List ℕ) → ((k : ℕ) → at L k ≡ at M k) → attach n A L ≡ attach n A M
unfolding attach
attach_same n A L M h = tabulate_ext n _ _ (λ x l. node_same x A L M h)

-- ---- an edge's nodes put over a map, from place k of the edge on
pub record Merged (A L start : List ℕ) (k : ℕ) (f : List ℕ) : Type 0 where
  pub size : length f ≡ 8
  pub nodes : (x : ℕ) → x < 8 → at f x ≡ or_else (at start x) (node_for x (drop k A) (drop k L))

else_none : (a : ℕ) → or_else a unplaced ≡ a
else_none a = go (eqb a unplaced) refl
  where
    go : (p : Bool) → eqb a unplaced ≡ p → or_else a unplaced ≡ a
    go true e = rw e (sym (eqb-true a unplaced e))
    go false e = rw e

merged_none : (A L start : List ℕ) (k : ℕ) → length start ≡ 8 → length L ≤ k → Merged A L start k start
merged_none A L start k size h = record {
  size = size;
  nodes = λ x l. sym (ap (or_else (at start x)) (ap (node_for x (drop k A)) (drop_of_length-le L {i = k} h) ∙ node_bare x (drop k A)) ∙ else_none (at start x));
}

module _ (A L start f : List ℕ) (k j a b : ℕ) (e : j + 1 ≡ k) (p : j < length A) (q : j < length L) (s : a ≡ get_or A j 0) (t : b ≡ get_or L j 0) (few : a < 8)
    (once : occurs a A ≤ 1) (before : Merged A L start k f) where
  k_is : k ≡ suc j
  k_is = omega arith

  parts : (x : ℕ) → node_for x (drop j A) (drop j L) ≡ node_for x (a ∷ drop k A) (b ∷ drop k L)
  parts x = rw (drop-cons A j 0 p, drop-cons L j 0 q, s, t, k_is)

  -- the edge comes to node a once, so that the map still has what it had there
  still : at f a ≡ at start a
  still =
      let alone : occurs a (drop (suc j) A) ≡ 0 = omega (arith, occurs_around a A j p, once, ap (λ y. hit a y) (sym s), hit_self a) in
      let later : occurs a (drop k A) ≡ 0 = ap (λ (m : ℕ). occurs a (drop m A)) k_is ∙ alone in
      before.nodes a few ∙ ap (or_else (at start a)) (node_none a (drop k A) (drop k L) later) ∙ else_none (at start a)

  others : (x : ℕ) → x < 8 → (x ≡ a → ⊥) → at f x ≡ or_else (at start x) (node_for x (drop j A) (drop j L))
  others x l n = before.nodes x l ∙ ap (or_else (at start x)) (sym (parts x ∙ node_later x a b (drop k A) (drop k L) n))

  here : (x : ℕ) → x ≡ a → or_else (at start x) (node_for x (drop j A) (drop j L)) ≡ or_else (at start a) b
  here x d = ap₂ or_else (ap (at start) d) (parts x ∙ node_first x a b (drop k A) (drop k L) d)

  merged_put : at f a ≡ unplaced → Merged A L start j (set f a b)
  merged_put z = record { size = length-set f a b ∙ before.size; nodes = λ x l. go x l (eqb x a) refl }
    where
      free : eqb (at start a) unplaced ≡ true
      free = eq-eqb (at start a) unplaced (sym still ∙ z)

      go : (x : ℕ) → x < 8 → (c : Bool) → eqb x a ≡ c → at (set f a b) x ≡ or_else (at start x) (node_for x (drop j A) (drop j L))
      go x l true d =
          let same = eqb-true x a d in
          ap (at (set f a b)) same ∙ get_or-set_same f a b unplaced (omega (arith, before.size)) ∙ sym (here x same ∙ ap (λ (c : Bool). either c (at start a) b) free)
      go x l false d = let other = eqb-false x a d in get_or-set_other f a x b unplaced other ∙ others x l other

  merged_kept : (at f a ≡ unplaced → ⊥) → Merged A L start j f
  merged_kept z = record { size = before.size; nodes = λ x l. go x l (eqb x a) refl }
    where
      taken : eqb (at start a) unplaced ≡ false
      taken = ne_eqb (at start a) unplaced (λ d. z (still ∙ d))

      go : (x : ℕ) → x < 8 → (c : Bool) → eqb x a ≡ c → at f x ≡ or_else (at start x) (node_for x (drop j A) (drop j L))
      go x l true d = let same = eqb-true x a d in ap (at f) same ∙ still ∙ sym (here x same ∙ ap (λ (c : Bool). either c (at start a) b) taken)
      go x l false d = others x l (eqb-false x a d)

merged_done : (n : ℕ) (A L start f : List ℕ) → ((x : ℕ) → 0 < occurs x A → x < n) → BareFrom n start → Merged A L start 0 f → f ≡ padded (joined n start (attach n A L))
unfolding attach
merged_done n A L start f inside bare whole = is_padded f (joined n start (attach n A L)) whole.size (λ x h. whole.nodes x h ∙ sym (go x (dec_lt x n)))
  where
    go : (x : ℕ) → Dec (x < n) → at (joined n start (attach n A L)) x ≡ or_else (at start x) (node_for x A L)
    go x (yes d) = at_joined n start (attach n A L) x d ∙ ap (or_else (at start x)) (at_tabulate n (λ x. node_for x A L) x d)
    go x (no d) =
        at_past (joined n start (attach n A L)) x (omega (arith, length_joined n start (attach n A L)))
        ∙ sym (ap₂ or_else (bare.past x (omega arith)) (node_none x A L (none_left (occurs x A) (λ o. d (inside x o)))))

-- ---- the edge of a rule, over any list of nodes
pub record Placing (g : List ℕ) (r i : ℕ) (l start : List ℕ) (k : ℕ) (f : List ℕ) : Type 0 where
  pub low : k ≤ rank_at g (edge_label g r i)
  pub inside : k ≤ length l
  pub merged : Merged (edge_nodes g r i) (take (rank_at g (edge_label g r i)) l) start k f

module _ (g : List ℕ) (r i : ℕ) (known : KnownEdge g r i) (l start : List ℕ) (eight : length start ≡ 8) where
  abbrev rank : ℕ
  rank = rank_at g (edge_label g r i)

  pub placing_start : (label m k : ℕ) → label ≡ edge_label g r i → m ≡ rank_at g label → k ≡ min m (length l) → Placing g r i l start k start
  placing_start label m k a b e =
      let whole : m ≡ rank = b ∙ ap (rank_at g) a in
      record {
        low = omega arith;
        inside = omega arith;
        merged = merged_none (edge_nodes g r i) (take rank l) start k eight (omega (arith, length-take rank l));
      }

  module _ (k x : ℕ) (f : List ℕ) (some : 0 < k) (before : Placing g r i l start k f) (e : x ≡ edge_node g r i (k - 1)) where
    inner : k - 1 < rank
    inner = omega (arith, before.low)

    pub node_few : x < 8
    node_few = edge_node_few g r i known (k - 1) x inner e

    there : x ≡ get_or (edge_nodes g r i) (k - 1) 0
    there = e ∙ sym (node_there g r i known (k - 1) inner) ∙ get_d_any (edge_nodes g r i) (k - 1) unplaced 0 (omega (arith, edge_rank g r i known, inner))

    step_j : k - 1 + 1 ≡ k
    step_j = omega arith

    listed : get_or l (k - 1) 0 ≡ get_or (take rank l) (k - 1) 0
    listed = sym (get_or-take rank l (k - 1) 0 inner)

    long : k - 1 < length (take rank l)
    long = omega (arith, length-take rank l, before.inside, inner)

    short : k - 1 < length (edge_nodes g r i)
    short = omega (arith, edge_rank g r i known, inner)

    free : get_or f x 0 ≡ at f x
    free = get_d_any f x 0 unplaced (omega (arith, before.merged.size, node_few))

    pub placing_put : get_or f x 0 ≡ 64 → Placing g r i l start (k - 1) (set f x (get_or l (k - 1) 0))
    placing_put z = record {
      low = omega (arith, before.low);
      inside = omega (arith, before.inside);
      merged = merged_put (edge_nodes g r i) (take rank l) start f k (k - 1) x (get_or l (k - 1) 0) step_j short long there listed node_few ((edge_ok g r i known).listed.once x) before.merged (sym free ∙ z);
    }

    pub placing_kept : (get_or f x 0 ≡ 64 → ⊥) → Placing g r i l start (k - 1) f
    placing_kept z = record {
      low = omega (arith, before.low);
      inside = omega (arith, before.inside);
      merged = merged_kept (edge_nodes g r i) (take rank l) start f k (k - 1) x (get_or l (k - 1) 0) step_j short long there listed node_few ((edge_ok g r i known).listed.once x) before.merged (λ d. z (free ∙ d));
    }

  pub placing_done : (k : ℕ) (f : List ℕ) → BareFrom (rule_nodes g r) start → k ≤ 0 → Placing g r i l start k f → f ≡ padded (joined (rule_nodes g r) start (attach (rule_nodes g r) (edge_nodes g r i) (take rank l)))
  placing_done k f bare z p =
      let e : k ≡ 0 = omega arith in
      merged_done (rule_nodes g r) (edge_nodes g r i) (take rank l) start f (edge_ok g r i known).listed.inside bare (rw e at p.merged)

-- of a graph edge, the first of four places, as many as the rank of its label
pub part_edge : (g h l : List ℕ) (b n : ℕ) → b < graph_edges h → n ≡ rank_at g (graph_label h b) → l ≡ tabulate 4 (λ k. graph_node h b k)
    → take n l ≡ (edge_at (graph_of g h).edges b).attachment
part_edge g h l b n known rank four =
    ap (take n) four ∙ take_tabulate n 4 (λ k. graph_node h b k) (omega arith) ∙ ap (λ m. tabulate m (λ k. graph_node h b k)) rank ∙ sym (edge_nodes_lem g h b known)

module _ (w : List ℕ) where
  abbrev look : ℕ → Record
  look = λ k. record_at w k

  by_record : (H : Graph) (b : ℕ) (x : Kind) → true ≡ is_nonterminal x → (record_at w b).item.nodes ≡ nodes_by look H x b
  by_record H b terminal e = cc
  by_record H b nonterminal e = refl

  by_edge : (H : Graph) (b : ℕ) (x : Kind) → false ≡ is_nonterminal x → padded (edge_at H.edges b).attachment ≡ nodes_by look H x b
  by_edge H b terminal e = refl
  by_edge H b nonterminal e = cc

  module _ (g h : List ℕ) (r i b : ℕ) (known : KnownEdge g r i) (t : Bool) (test : t ≡ is_nonterminal (kind_of (grammar_of g) (edge_at (right_of (grammar_of g) r).edges i).label)) where
    abbrev kind_at : Kind
    kind_at = kind_of (grammar_of g) (edge_at (right_of (grammar_of g) r).edges i).label

    abbrev rank_here : ℕ
    rank_here = rank_at g (edge_label g r i)

    abbrev part : List ℕ
    part = part_nodes look (grammar_of g) (graph_of g h) (edge_at (right_of (grammar_of g) r).edges i) b

    -- the map with the nodes of a list
    abbrev with : List ℕ → List ℕ → List ℕ
    with = λ f l. padded (joined (rule_nodes g r) f (attach (rule_nodes g r) (edge_nodes g r i) l))

    part_is : part ≡ take rank_here (nodes_by look (graph_of g h) kind_at b)
    unfolding part_nodes
    part_is = ap (λ (k : ℕ). take k (nodes_by look (graph_of g h) kind_at b)) (label_rank g r i known)

    pub placed_record : (f v : List ℕ) → t ≡ true → v ≡ with f (take rank_here (record_at w b).item.nodes) → v ≡ with f part
    placed_record f v e q = q ∙ ap (with f) (ap (take rank_here) (by_record (graph_of g h) b kind_at (sym e ∙ test)) ∙ sym part_is)

    -- eight places have the nodes that the rank takes
    part_edges : t ≡ false → attach (rule_nodes g r) (edge_nodes g r i) (take rank_here (edge_at (graph_of g h).edges b).attachment) ≡ attach (rule_nodes g r) (edge_nodes g r i) part
    part_edges e =
        attach_same (rule_nodes g r) (edge_nodes g r i) (take rank_here l) (take rank_here (padded l)) (λ k. go k (dec_lt k rank_here))
        ∙ ap (attach (rule_nodes g r) (edge_nodes g r i)) (ap (take rank_here) (by_edge (graph_of g h) b kind_at (sym e ∙ test)) ∙ sym part_is)
      where
        l : List ℕ
        l = (edge_at (graph_of g h).edges b).attachment

        go : (k : ℕ) → Dec (k < rank_here) → at (take rank_here l) k ≡ at (take rank_here (padded l)) k
        go k (yes d) = get_or-take rank_here l k unplaced d ∙ sym (at_padded l k (omega arith)) ∙ sym (get_or-take rank_here (padded l) k unplaced d)
        go k (no d) =
            at_past (take rank_here l) k (omega (arith, length-take rank_here l)) ∙ sym (at_past (take rank_here (padded l)) k (omega (arith, length-take rank_here (padded l))))

    pub placed_edge : (f v : List ℕ) → t ≡ false → v ≡ with f (take rank_here (edge_at (graph_of g h).edges b).attachment) → v ≡ with f part
    placed_edge f v e q = q ∙ ap (λ (m : List ℕ). padded (joined (rule_nodes g r) f m)) (part_edges e)

    -- past the graph's edges there is no node
    pub placed_past : (n : ℕ) (f : List ℕ) → length f ≡ 8 → BareFrom (rule_nodes g r) f → t ≡ false → n ≡ graph_edges h → n ≤ b → f ≡ with f part
    placed_past n f size bare e a past =
        placed_edge f f e
        (merged_done (rule_nodes g r) (edge_nodes g r i) (take rank_here l) f f (edge_ok g r i known).listed.inside bare
        (merged_none (edge_nodes g r i) (take rank_here l) f 0 size (omega (arith, length-take rank_here l, none))))
      where
        l : List ℕ
        l = (edge_at (graph_of g h).edges b).attachment

        none : length l ≡ 0
        none = ap (λ (d : Edge). length d.attachment) (get_or-eq_default (graph_of g h).edges no_edge (omega (arith, graph_size g h)))

  -- ---- the map of the first edges
  joined_padded : (n : ℕ) (F K : List ℕ) → n ≤ 8 → joined n (padded F) K ≡ joined n F K
  unfolding joined
  joined_padded n F K few = tabulate_ext n _ _ (λ x h. ap (λ (a : ℕ). or_else a (at K x)) (at_padded F x (omega arith)))

  pub length_placed : (G : Grammar) (H P : Graph) (bs : List ℕ) (k : ℕ) → length (placed_by look G H P bs k) ≡ P.nodes
  unfolding placed_by joined
  length_placed G H P bs zero = length_tabulate P.nodes _
  length_placed G H P bs (suc k) = length_tabulate P.nodes _

  module _ (G : Grammar) (H P : Graph) (bs : List ℕ) where
    pub placed_start : (f : List ℕ) → f ≡ replicate 8 unplaced → f ≡ padded (placed_by look G H P bs 0)
    unfolding placed_by
    placed_start f e = e ∙ is_padded (replicate 8 unplaced) (tabulate P.nodes (λ x. unplaced)) refl (λ x h. at_none 8 x ∙ sym (here x (dec_lt x P.nodes)))
      where
        here : (x : ℕ) → Dec (x < P.nodes) → at (tabulate P.nodes (λ x. unplaced)) x ≡ unplaced
        here x (yes d) = at_tabulate P.nodes (λ x. unplaced) x d
        here x (no d) = at_past (tabulate P.nodes (λ x. unplaced)) x (omega (arith, length_tabulate P.nodes (λ x. unplaced)))

    pub placed_bare : (n : ℕ) (f : List ℕ) (i : ℕ) → n ≡ P.nodes → f ≡ padded (placed_by look G H P bs i) → BareFrom n f
    placed_bare n f i e q = same_bare n P.nodes f (padded (placed_by look G H P bs i)) e q (padded_bare P.nodes (placed_by look G H P bs i) (omega (arith, length_placed G H P bs i)))

    pub placed_more : (n i : ℕ) (f v : List ℕ) → n ≡ P.nodes → n ≤ 8 → f ≡ padded (placed_by look G H P bs i)
        → v ≡ padded (joined n f (attach n (edge_at P.edges i).attachment (part_nodes look G H (edge_at P.edges i) (get_or bs i 0)))) → v ≡ padded (placed_by look G H P bs (i + 1))
    unfolding placed_by
    placed_more n i f v size few a e =
        let k' : ℕ → List ℕ = λ n. attach n (edge_at P.edges i).attachment (part_nodes look G H (edge_at P.edges i) (get_or bs i 0)) in
        e
        ∙ ap (λ (f : List ℕ). padded (joined n f (k' n))) a
        ∙ ap padded (joined_padded n (placed_by look G H P bs i) (k' n) few ∙ ap (λ (n : ℕ). joined n (placed_by look G H P bs i) (k' n)) size)
        ∙ ap (λ (m : ℕ). padded (placed_by look G H P bs m)) (sym (add-one i))
