-- The loop over the partners on up to five lists (specs/Ways).
use Prim.Native.Nat.{ℕ, ◌+◌, ◌≤◌, ◌<◌, max}
use mathlib.Core.Path.{◌≡◌, refl, ap, ◌∙◌, subst}
use mathlib.Core.Bool.{Bool}
use mathlib.Core.List.{List}
use lib.Dec.{leb}
use Rattle.hrg.specs.ClosureRun.{guard}
use Rattle.agenda.specs.declared.ChartItem.{ChartItem}
use Rattle.questions.specs.Abstract.{grammar_of, graph_of}
use Rattle.records.specs.Words.{item_count, record_at, grown_by}
use Rattle.lists.specs.Cursors.{starts_of, passed_of, left_all, SkimsAll}
use Rattle.keys.specs.Keys.{query_of}
use Rattle.index.specs.Quiet.{quiet_in}
use Rattle.steps.specs.Partners.{with_record}
use Rattle.steps.specs.Ready.{Ready, Joining}
use Rattle.steps.specs.Ways.{Rests}
use Rattle.steps.proofs.ListedLaws.{Going, going_start, partners_each, turn_next, turn_less}

-- where the loop is: the first `past` partners are dealt with, and record k is next
abbrev pub Turning : List ℕ → List ℕ → List ℕ → List ℕ → ℕ → ℕ → List ℕ → List ℕ → List ℕ → List ℕ → ℕ → ℕ → Type 0
Turning g h keys w j n v ix ls cs k past = Going g h keys (graph_of g h) w (record_at w j) j n v ix ls cs k past

-- y is the item at place j, as it was read
module _ {g h keys w ix₀ ls₀ : List ℕ} {lead : Bool} {j n : ℕ} (P : Joining g h keys w ix₀ ls₀ lead j × (n ≤ item_count w)) {y : ChartItem} (own : y ≡ (record_at w j).item) where
  skims : (v ws bs ds : List ℕ) → SkimsAll (quiet_in v y.edges) ws n bs ds → SkimsAll (quiet_in v (record_at w j).item.edges) ws n bs ds
  skims v ws bs ds = subst (λ (x : ChartItem). SkimsAll (quiet_in v x.edges) ws n bs ds) own

  pub turning_start : {query cs : List ℕ} {k : ℕ} → query ≡ query_of keys y → Rests (quiet_in w y.edges) ls₀ n (starts_of ls₀ query) k cs → Turning g h keys w j n w ix₀ ls₀ cs k 0
  turning_start {query} {cs} {k} e O =
      going_start g h keys (graph_of g h) w (record_at w j) j n P.0.ready.fits P.1 (partners_each P.0 P.1) ix₀ ls₀ (starts_of ls₀ query) cs k P.0.ready (ap (starts_of ls₀) (e ∙ ap (query_of keys) own))
      (skims w ls₀ (starts_of ls₀ query) cs O.skims) O.least O.few

  module _ {v ix ls cs : List ℕ} {k past : ℕ} (S : Turning g h keys w j n v ix ls cs k past) {u jx ms : List ℕ} {later : ℕ} (l : k < n)
      (p : u ≡ grown_by v (guard (leb past k) (with_record (grammar_of g) (graph_of g h) (record_at v j) j (record_at v k) k))) (R : Ready g h keys u jx ms) (q : later ≡ max past (k + 1))
      {ds : List ℕ} {i : ℕ} (O : Rests (quiet_in u y.edges) ms n (passed_of ms cs k) i ds) where
    pub turning_next : Turning g h keys w j n u jx ms ds i later
    turning_next = turn_next P.0 P.1 S l p R q (passed_of ms cs k) ds refl (skims u ms (passed_of ms cs k) ds O.skims) i O.least O.few

    pub turning_less : left_all ds < left_all cs
    turning_less = turn_less P.0 P.1 S l p R q (passed_of ms cs k) ds refl (skims u ms (passed_of ms cs k) ds O.skims)
