-- What it gives that a chart passes question 8: its items have the nodes that their keys are made of, and what they
-- make can be added to its words. It passes as records are added and handled.
use Prim.Native.Nat.{ℕ, ◌≤◌, ◌<◌}
use mathlib.Core.Path.{◌≡◌, refl, sym, ap, ◌∙◌, subst}
use mathlib.Core.Bool.{true}
use mathlib.Core.List.Memᴰ.{head as here}
use mathlib.Core.List.Memᴰ.{not-nil as in_nil}
use mathlib.Core.List.Memᴰ.{tail as there}
use mathlib.Core.List.{List, [], ◌∷◌, Memᴰ as In}
use native.Mathlib.Omega.{arith}
use lib.ListN.{length, get_or, length-set}
use Rattle.hrg.specs.Grammars.{Graph, Grammar}
use Rattle.hrg.specs.WellFormed.{GrammarOk, GraphOk}
use Rattle.agenda.specs.declared.Record.{Record}
use Rattle.agenda.specs.Records.{item_of, is_handled}
use Rattle.agenda.specs.Consequences.{record_in, at_root, with_terminal, pair, consequences}
use Rattle.agenda.specs.Steps.{Chart, handled_now}
use Rattle.agenda.proofs.Growth.{Fresh}
use Rattle.questions.specs.Abstract.{grammar_of, graph_of}
use Rattle.questions.proofs.WellFormedLent.{checked_grammar_ok}
use Rattle.questions.specs.Layout.{rule_nodes, graph_nodes}
use Rattle.joins.specs.Joins.{Accepted, BareFrom, Into}
use Rattle.joins.proofs.Known.{graph_ok}
use Rattle.records.specs.Words.{Fits, Compact, capacity, item_count, record_at, chart_of, marked_at, grown_by}
use Rattle.records.proofs.WordLaws.{length_records}
use Rattle.records.proofs.Written.{eight_nodes}
use Rattle.records.proofs.Rewritten.{handled_in}
use Rattle.records.proofs.Grown.{Whole, whole_one, whole_guard, whole_append, grown_chart}
use Rattle.validity.specs.Checking.{known_record, known_chart}
use Rattle.validity.proofs.KnownCharts.{AllKnown, known_each, known_records, records_known}
use Rattle.validity.proofs.Images.{KnownAs, as_active, as_passive, known_as, open_placed, listed_placed, table_into, table_bare}
use Rattle.validity.proofs.ExistingTest.{known_image, known_existing}
use Rattle.validity.proofs.KnownItems.{KnownItem, record_item}
use Rattle.validity.proofs.Made.{root_sound, edge_sound, pair_sound, consequences_sound, sound_whole}
use Rattle.validity.proofs.Own.{handled_known, consequence_known, added_known}
use Rattle.keys.specs.Keys.{AllPlaced}
use Rattle.index.proofs.AddLaws.{beside}
use Rattle.steps.specs.Partners.{with_record}

module _ (g h : List ℕ) where
  abbrev G : Grammar
  G = grammar_of g

  abbrev H : Graph
  H = graph_of g h

  counted : (w : List ℕ) → length (chart_of w).records ≡ item_count w
  unfolding chart_of
  counted w = length_records w (item_count w)

  inside : (w : List ℕ) (j : ℕ) → j < item_count w → j < length (chart_of w).records
  unfolding chart_of
  inside w j l = omega (arith, length_records w (item_count w))

  -- one is handled
  pub known_handled : (w v : List ℕ) (j : ℕ) → Fits w → Fits v → j < item_count w → v ≡ marked_at w j → known_chart G H w ≡ true → known_chart G H v ≡ true
  known_handled w v j f o l q N =
      records_known G H v o
      (subst (λ (c : Chart). AllKnown G H c.records) (sym (beside w v j f l q)) (handled_known G H (chart_of w).records j (inside w j l) (known_records G H w f N)))

  module _ (accepted : Accepted g h) (w : List ℕ) (N : known_chart G H w ≡ true) (j : ℕ) (l : j < item_count w) where
    ok : GrammarOk G
    ok = checked_grammar_ok g accepted.grammar

    good : GraphOk G H
    good = graph_ok g h accepted

    abbrev x : Record
    x = record_at w j

    one : known_record G H (get_or w 0 0) x ≡ true
    one = known_each G H w N j l

    passive_kind : KnownAs G H x → (x.item.kind ≡ 0 → ⊥) → x.item.kind ≡ 1
    passive_kind (as_active k r p a s) n = absurd (n k)
    passive_kind (as_passive k r p a s) n = k

    pub known_placed : AllPlaced G x.item
    known_placed = record {
      active = open_placed G H ok (get_or w 0 0) x (eight_nodes w j) one good;
      passive = λ n. listed_placed G H ok (get_or w 0 0) x (eight_nodes w j) one good (passive_kind (known_as G H (get_or w 0 0) x one) n);
    }

    -- the item that it stands for names what exists
    pub known_item : KnownItem G H (item_of G x.item)
    known_item = record_item G H ok good (get_or w 0 0) x (known_image G H (get_or w 0 0) x one) (known_existing G H (get_or w 0 0) x one)

    pub known_into : Into (graph_nodes h) x.item.nodes
    known_into = table_into g h accepted (get_or w 0 0) x (eight_nodes w j) one

    pub known_bare : x.item.kind ≡ 0 → BareFrom (rule_nodes g x.item.of) x.item.nodes
    known_bare = table_bare g h accepted (get_or w 0 0) x (eight_nodes w j) one

    -- a record that it makes is added
    pub known_added : (v : List ℕ) (z : Record) → Fits w → Fits v → Compact z → Fresh z → In z (consequences G H (chart_of w).records j) → v ≡ grown_by w (z ∷ []) → known_chart G H v ≡ true
    known_added v z f o e new made q =
        let all = known_records G H w f N in
        records_known G H v o
        (subst (λ (c : Chart). AllKnown G H c.records) (sym (ap chart_of q ∙ grown_chart w f (z ∷ []) (whole_one e)))
        (added_known G H ok good (capacity w) (z ∷ []) (chart_of w) (alone Fresh new)
        (λ m y h i. consequence_known G H ok good (chart_of w).records all j (inside w j l) m y h (alone (λ (y : Record). In y (consequences G H (chart_of w).records j)) made y i)) all))
      where
        alone : (P : Record → Type 0) → P z → (y : Record) → In y (z ∷ []) → P y
        alone P p y (here t) = subst P (sym t) p
        alone P p y (there m) = absurd (in_nil m)

  -- ---- what it makes by one rule can be added to the words
  module _ (accepted : Accepted g h) (w : List ℕ) (N : known_chart G H w ≡ true) (small : capacity w ≤ 4096) where
    sized : item_count w ≤ 4096
    unfolding item_count
    sized = omega arith

    item : (j : ℕ) → j < item_count w → KnownItem G H (item_of G (record_at w j).item)
    item = known_item accepted w N

    module _ (j : ℕ) (l : j < item_count w) where
      pub root_whole : (n : ℕ) → Whole (at_root G (item_of G (record_at w j).item) n j)
      root_whole n = sound_whole (root_sound G H (checked_grammar_ok g accepted.grammar) (graph_ok g h accepted) (item_count w) sized (item_of G (record_at w j).item) n j (item j l) l)

      pub edge_whole : (n e : ℕ) → e < length H.edges → Whole (with_terminal G H (item_of G (record_at w j).item) n j e)
      edge_whole n e d = sound_whole (edge_sound G H (checked_grammar_ok g accepted.grammar) (graph_ok g h accepted) (item_count w) sized (item_of G (record_at w j).item) n j e (item j l) l d)

      pub pair_whole : (k : ℕ) → k < item_count w → Whole (pair G H (record_at w j) j (record_at w k) k)
      pair_whole k m =
          sound_whole (pair_sound G H (checked_grammar_ok g accepted.grammar) (graph_ok g h accepted) (item_count w) sized (record_at w j) (record_at w k) j k (item j l) (item k m) l m)

    pub record_whole : (j : ℕ) → j < item_count w → (k : ℕ) → k < item_count w → Whole (with_record G H (record_at w j) j (record_at w k) k)
    unfolding with_record
    record_whole j l k m =
        whole_guard (is_handled (record_at w k)) _
        (λ _. whole_append (pair G H (record_at w j) j (record_at w k) k) (pair G H (record_at w k) k (record_at w j) j) (pair_whole j l k m) (pair_whole k m j l))

    -- .. and so can all that it makes once it is handled
    pub step_whole : Fits w → (j : ℕ) → j < item_count w → Whole (consequences G H (handled_in j (chart_of w)).records j)
    step_whole f j l =
        let rs = (handled_in j (chart_of w)).records in
        let size : length rs ≡ length (chart_of w).records = length-set (chart_of w).records j (handled_now (record_in (chart_of w).records j)) in
        let number : length (chart_of w).records ≡ item_count w = counted w in
        sound_whole
        (consequences_sound G H (checked_grammar_ok g accepted.grammar) (graph_ok g h accepted) (length rs) (omega (arith, sized)) rs
        (handled_known G H (chart_of w).records j (inside w j l) (known_records G H w f N)) refl j (omega arith))
