-- The loop over the lists of a record's keys: the records that it passes over make nothing with it.
use Prim.Native.Nat.{ℕ, ◌+◌, ◌*◌, ◌≤◌, ◌<◌, max}
use mathlib.Core.Path.{◌≡◌, refl, sym, ap, ◌∙◌, subst}
use mathlib.Core.Bool.{Bool, true, false, cond, false≢true}
use mathlib.Core.List.{List, []}
use native.Mathlib.Omega.{arith}
use lib.Dec.{leb}
use lib.ListN.{length, get_or, get_or-append}
use borrow.Author.Tests.{leb-true, leb-false, le-leb, lt-leb}
use Rattle.hrg.specs.Grammars.{Graph, Grammar}
use Rattle.masks.specs.Masks.{disjoint}
use Rattle.hrg.specs.ClosureRun.{guard}
use Rattle.agenda.specs.declared.ChartItem.{ChartItem}
use Rattle.agenda.specs.declared.Record.{Record}
use Rattle.agenda.specs.Records.{is_handled}
use Rattle.agenda.specs.Consequences.{gather, record_in}
use Rattle.questions.specs.Abstract.{grammar_of, graph_of}
use Rattle.questions.specs.Checking.{check_grammar}
use Rattle.records.specs.Words.{Fits, capacity, item_count, record_at, chart_of, grown_by}
use Rattle.records.proofs.WordLaws.{length_records, record_in_lem}
use Rattle.records.proofs.Grown.{Whole, whole_guard, grown_none, grown_flag, grown_record}
use Rattle.lists.specs.Lists.{Within}
use Rattle.lists.specs.Cursors.{starts_of, least_of, passed_of, left_all, Ahead, SkimsAll}
use Rattle.lists.proofs.CursorLaws.{ahead_start, ahead_within, least_none, ahead_passed, ahead_grown, left_falls, skims_by, ahead_skims, left_skims}
use Rattle.keys.specs.Keys.{KeyTable, keys_of, query_of, AllPlaced}
use Rattle.keys.proofs.KeyLaws.{query_few}
use Rattle.keys.proofs.PivotLaws.{keyless}
use Rattle.index.specs.Index.{keys_for}
use Rattle.index.specs.Quiet.{quiet_in}
use Rattle.index.proofs.KeyLists.{keys_length, keys_at, keys_grown}
use Rattle.steps.specs.Partners.{with_record}
use Rattle.rules.specs.Plans.{Leads}
use Rattle.steps.specs.Ready.{Ready, Handled, Joining}
use Rattle.steps.proofs.KnownLaws.{known_placed, record_whole}
use Rattle.steps.proofs.PartnerLaws.{unjoined_none, waiting_none, overlap_none}
use Rattle.steps.proofs.ReadyLaws.{stays_record, stays_handled}
use Rattle.steps.proofs.StepLaws.{Gathered, nothing_added, added_longer, partners_whole as gather_whole, again_whole, gathered_none, gathered_skip, gathered_all, partners_next}

-- ---- a record that may be done already
pub next_done : (w : List ℕ) → Fits w → (done k : ℕ) (xs : List Record) → k < done → w ≡ grown_by w (guard (leb done k) xs)
next_done w f done k xs l = rw (lt-leb done k l) (sym (grown_none w f))

pub next_dealt : (w v : List ℕ) (done k : ℕ) (xs : List Record) → done ≤ k → v ≡ grown_by w xs → v ≡ grown_by w (guard (leb done k) xs)
next_dealt w v done k xs l p = rw (le-leb done k l) p

-- no chart has more items than it holds
few_items : (w : List ℕ) (n : ℕ) → n ≤ item_count w → capacity w ≤ 4096 → n ≤ 4096
unfolding item_count
few_items w n l h = omega arith

-- ---- the keys that are asked for
pub query_within : (keys : List ℕ) (x : ChartItem) (q : List ℕ) → q ≡ query_of keys x → Within 2048 q
query_within keys x q e i h = rw e (query_few keys x i)

-- ---- records that make nothing, whatever their keys
quiet_none : (G : Grammar) (H : Graph) (x : Record) (j : ℕ) (w : List ℕ) (k : ℕ) → quiet_in w x.item.edges k ≡ true → with_record G H x j (record_at w k) k ≡ []
unfolding quiet_in
quiet_none G H x j w k = go (disjoint x.item.edges (record_at w k).item.edges) refl (is_handled (record_at w k)) refl
  where
    go : (d : Bool) → disjoint x.item.edges (record_at w k).item.edges ≡ d → (b : Bool) → is_handled (record_at w k) ≡ b → cond d (cond b false true) true ≡ true → with_record G H x j (record_at w k) k ≡ []
    go false p b q h = overlap_none G H x (record_at w k) j k p
    go true p false q h = waiting_none G H x (record_at w k) j k q
    go true p true q h = absurd (false≢true h)

pub quiet_by : (w : List ℕ) (k e edges : ℕ) (b : Bool) → e ≡ edges → b ≡ quiet_in w e k → b ≡ true → quiet_in w edges k ≡ true
quiet_by w k e edges b own q t = ap (λ m. quiet_in w m k) (sym own) ∙ sym q ∙ t

-- .. by the edges of the record that is tried with them
pub quiet_added : (G : Grammar) (H : Graph) (j : ℕ) (w : List ℕ) (k e : ℕ) (b : Bool) → Fits w → e ≡ (record_at w j).item.edges → b ≡ quiet_in w e k → b ≡ true
    → w ≡ grown_by w (with_record G H (record_at w j) j (record_at w k) k)
quiet_added G H j w k e b o own q t =
    nothing_added w _ o (quiet_none G H (record_at w j) j w k (quiet_by w k e (record_at w j).item.edges b own q t))

-- all others are handled
pub loud_handled : (w : List ℕ) (k e : ℕ) (b : Bool) → b ≡ quiet_in w e k → b ≡ false → is_handled (record_at w k) ≡ true
unfolding quiet_in
loud_handled w k e b q t = go (disjoint e (record_at w k).item.edges) (is_handled (record_at w k)) (sym q ∙ t)
  where
    go : (d s : Bool) → cond d (cond s false true) true ≡ false → s ≡ true
    go d true h = refl
    go true false h = absurd (false≢true (sym h))
    go false false h = absurd (false≢true (sym h))

-- they are so in words that grew, and no others
quiet_grown : (w v : List ℕ) (xs : List Record) (edges k : ℕ) → Fits w → Whole xs → v ≡ grown_by w xs → k < item_count w → quiet_in v edges k ≡ quiet_in w edges k
unfolding quiet_in
quiet_grown w v xs edges k f e p l = ap (λ (u : List ℕ). quiet_in u edges k) p ∙ go (is_handled (record_at w k)) refl
  where
    waits : (d : Bool) → cond d true true ≡ true
    waits true = refl
    waits false = refl

    go : (b : Bool) → is_handled (record_at w k) ≡ b → quiet_in (grown_by w xs) edges k ≡ quiet_in w edges k
    go true h = ap (λ (y : Record). cond (disjoint edges y.item.edges) (cond (is_handled y) false true) true) (grown_record w f xs e k l h)
    go false h = rw (grown_flag w f xs e k l ∙ h, h) (waits (disjoint edges (record_at (grown_by w xs) k).item.edges) ∙ sym (waits (disjoint edges (record_at w k).item.edges)))

-- ---- the record at place j is what it was while its partners are dealt with
module _ (g h w : List ℕ) (H : Graph) (j : ℕ) (f : Fits w) (D : Handled w j) (e : (i : ℕ) → i < item_count w → Whole (with_record (grammar_of g) H (record_at w j) j (record_at w i) i))
    (v : List ℕ) (done : ℕ) (low : done ≤ item_count w) (A : Gathered w (λ i. with_record (grammar_of g) H (record_at w j) j (record_at w i) i) v done) where
  abbrev partners : List Record
  partners = gather done (λ i. with_record (grammar_of g) H (record_at w j) j (record_at w i) i)

  partners_whole : Whole partners
  partners_whole = gather_whole (grammar_of g) H w f (record_at w j) j e done low

  dealt_longer : item_count w ≤ item_count v
  dealt_longer = added_longer w v partners f partners_whole A.is

  dealt_record : record_at v j ≡ record_at w j
  dealt_record = stays_record w v j partners f partners_whole A.is D

  dealt_handled : Handled v j
  dealt_handled = stays_handled w v j partners f partners_whole A.is D

  dealt_lead : (lead : Bool) → Leads g (record_at w j).item lead → Leads g (record_at v j).item lead
  dealt_lead lead L = subst (λ (y : Record). Leads g y.item lead) (sym dealt_record) L

  pub dealt_quiet : (edges k : ℕ) → k < item_count w → quiet_in v edges k ≡ quiet_in w edges k
  dealt_quiet edges k l = quiet_grown w v partners edges k f partners_whole A.is l

-- ---- the loop
module _ (g h keys : List ℕ) (H : Graph) (w : List ℕ) (x : Record) (j n : ℕ) where
  abbrev G : Grammar
  G = grammar_of g

  abbrev partner : ℕ → List Record
  partner i = with_record G H x j (record_at w i) i

  -- the records over which cursors skim
  abbrev quiet : ℕ → Bool
  quiet = quiet_in w x.item.edges

  abbrev keys_in : List ℕ → List ℕ
  keys_in v = keys_for keys (chart_of v).records

  -- where the loop is: the first `done` partners are dealt with, and what is left and not quiet lies at the cursors
  -- or behind them
  pub record Going (v ix ls : List ℕ) (cs : List ℕ) (k done : ℕ) : Type 0 where
    pub ready : Ready g h keys v ix ls
    pub gathered : Gathered w partner v done
    pub ahead : Ahead quiet (keys_in v) (query_of keys x.item) n done cs
    pub at : k ≡ least_of cs
    pub few : k ≤ 4096
    pub low : done ≤ n

  counted : (v : List ℕ) → length (chart_of v).records ≡ item_count v
  unfolding chart_of
  counted v = length_records v (item_count v)

  in_chart : (v : List ℕ) (i : ℕ) → i < item_count v → record_in (chart_of v).records i ≡ record_at v i
  unfolding chart_of
  in_chart v i l = record_in_lem v (item_count v) i l

  module _ (f : Fits w) (all : n ≤ item_count w) (partner_whole : (i : ℕ) → i < item_count w → Whole (partner i)) where
    pub going_start : (ix ls bs cs : List ℕ) (k : ℕ) → Ready g h keys w ix ls → bs ≡ starts_of ls (query_of keys x.item) → SkimsAll quiet ls n bs cs → k ≡ least_of cs → k ≤ 4096 → Going w ix ls cs k 0
    going_start ix ls bs cs k R e s q l = record {
      ready = R;
      gathered = gathered_none w f partner;
      ahead =
          let first = ahead_start quiet ls (keys_in w) (query_of keys x.item) n bs R.indexed.listed (λ i h. query_few keys x.item i)
          (omega (arith, keys_length keys (chart_of w).records, counted w)) e in
          ahead_skims quiet ls (keys_in w) (query_of keys x.item) n 0 bs cs R.indexed.listed first s;
      at = q;
      few = l;
      low = omega arith;
    }

    module _ (v ix ls cs : List ℕ) (k done : ℕ) (S : Going v ix ls cs k done) where
      dealt_whole : (m : ℕ) → m ≤ n → Whole (gather m partner)
      dealt_whole m l = gather_whole G H w f x j partner_whole m (omega arith)

      grown : v ≡ grown_by w (gather done partner)
      grown = S.gathered.is

      -- the key of a record of w is where it was
      key_there : (i e : ℕ) → i < item_count w → e < 5 → get_or (keys_in v) (5 * i + e) 0 ≡ get_or (keys_of keys (record_at w i).item) e 0
      key_there i e l h =
          let m = keys_grown keys w v (gather done partner) f (dealt_whole done S.low) grown in
          let size = keys_length keys (chart_of w).records in
          ap (λ (ks : List ℕ). get_or ks (5 * i + e) 0) m.is
          ∙ get_or-append (keys_in w) m.more 0 (5 * i + e) (omega (arith, size, counted w))
          ∙ keys_at keys (chart_of w).records i e (omega (arith, counted w)) h
          ∙ ap (λ (y : Record). get_or (keys_of keys y.item) e 0) (in_chart w i l)

      module _ (checked : check_grammar g ≡ true) (keyed : KeyTable g keys) (own : AllPlaced G x.item) (others : (i : ℕ) → i < item_count w → AllPlaced G (record_at w i).item) where
        -- the records that are passed over
        unkeyed : (i : ℕ) → done ≤ i → i < k → i < n → quiet i ≡ false → partner i ≡ []
        unkeyed i a b c s =
            let u = keyless g keys checked keyed H x.item (record_at w i).item own (others i (omega arith))
            (λ q e p r pos eq. least_none quiet (keys_in v) (query_of keys x.item) n done cs S.ahead i a (omega (arith, S.at)) c s (5 * i + e) (omega arith) (omega arith) q p pos
            (key_there i e (omega arith) r ∙ sym eq))
            in
            unjoined_none G H x (record_at w i) j i u.forth u.back

        passed_over : (i : ℕ) → done ≤ i → i < k → i < n → partner i ≡ []
        passed_over i a b c = go (quiet i) refl
          where
            go : (t : Bool) → quiet i ≡ t → partner i ≡ []
            go true s = quiet_none G H x j w i s
            go false s = unkeyed i a b c s

        -- one turn: record k is dealt with unless it was, and the cursors at it go on
        module _ (u jx ms : List ℕ) (later : ℕ) (l : k < n) (p : u ≡ grown_by v (guard (leb done k) (with_record G H x j (record_at v k) k))) (R : Ready g h keys u jx ms) (q : later ≡ max done (k + 1)) where
          dealt : (b : Bool) → leb done k ≡ b → u ≡ grown_by v (guard b (with_record G H x j (record_at v k) k)) → Gathered w partner u later
          dealt true e h =
              let skip = gathered_skip w f partner v done k (λ i a b. passed_over i a b (omega arith)) (leb-true done k e) S.gathered in
              partners_next G H w f x j partner_whole v u k later (omega (arith, leb-true done k e)) (omega arith) skip h
          dealt false e h =
              let same : u ≡ v = h ∙ grown_none v S.ready.fits in
              subst (λ (t : List ℕ). Gathered w partner t later) (sym same) (subst (Gathered w partner v) (let o : done ≡ later = omega (arith, leb-false done k e) in o) S.gathered)

          grown_ahead : Ahead quiet (keys_in u) (query_of keys x.item) n done cs
          grown_ahead =
              let ys = guard (leb done k) (with_record G H x j (record_at v k) k) in
              let m = keys_grown keys v u ys S.ready.fits (whole_guard (leb done k) (with_record G H x j (record_at v k) k) (λ _. again_whole G H w f x j partner_whole v done k (omega (arith, S.low)) (omega arith) S.gathered)) p in
              subst (λ (ks : List ℕ). Ahead quiet ks (query_of keys x.item) n done cs) (sym m.is) (ahead_grown quiet (keys_in v) m.more (query_of keys x.item) n done cs S.ahead)

          module _ (bs ds : List ℕ) (e : bs ≡ passed_of ms cs k) (s : SkimsAll (quiet_in u x.item.edges) ms n bs ds) where
            -- the cursors that pass record k
            gone : Ahead quiet (keys_in u) (query_of keys x.item) n later bs
            gone = ahead_passed quiet ms (keys_in u) (query_of keys x.item) n done later k cs bs R.indexed.listed grown_ahead (omega arith) (omega arith) e

            skims : SkimsAll quiet ms n bs ds
            skims i h =
                let o = dealt (leb done k) refl p in
                skims_by (quiet_in u x.item.edges) quiet ms n (get_or bs i 0) (get_or ds i 0)
                (λ m a. quiet_grown w u (gather later partner) x.item.edges m f (dealt_whole later (omega (arith, S.low))) o.is (omega arith)) (s i h)

            going_next : (i : ℕ) → i ≡ least_of ds → i ≤ 4096 → Going u jx ms ds i later
            going_next i a b = record {
              ready = R;
              gathered = dealt (leb done k) refl p;
              ahead = ahead_skims quiet ms (keys_in u) (query_of keys x.item) n later bs ds R.indexed.listed gone skims;
              at = a;
              few = b;
              low = omega (arith, S.low);
            }

            going_less : left_all ds < left_all cs
            going_less =
                omega (
                  arith,
                  left_skims quiet ms (keys_in u) (query_of keys x.item) n later bs ds R.indexed.listed gone skims,
                  left_falls quiet ms (keys_in u) (query_of keys x.item) n done k cs bs R.indexed.listed grown_ahead S.at l e,
                )

          next_within : Within 20480 cs
          next_within = ahead_within quiet (keys_in u) (query_of keys x.item) n done cs grown_ahead R.indexed.listed.few

        going_end : n ≤ k → v ≡ grown_by w (gather n partner)
        going_end l =
            gathered_all w f partner v n n refl
            (gathered_skip w f partner v done n (λ i a b. passed_over i a (omega arith) b) S.low S.gathered)

-- ---- the loop over the partners of the record at place j, which stays as it is
module _ {g h keys w ix₀ ls₀ : List ℕ} {lead : Bool} {j n : ℕ} (P : Joining g h keys w ix₀ ls₀ lead j) (all : n ≤ item_count w) where
  placed : (i : ℕ) → i < item_count w → AllPlaced (grammar_of g) (record_at w i).item
  placed = known_placed g h P.tables.accepted w P.ready.known

  pub partners_each : (i : ℕ) → i < item_count w → Whole (with_record (grammar_of g) (graph_of g h) (record_at w j) j (record_at w i) i)
  partners_each = record_whole g h P.tables.accepted w P.ready.known P.ready.small j P.handled.there

  pub partners_few : n ≤ 4096
  partners_few = few_items w n all P.ready.small

  low : {v ix ls cs : List ℕ} {k past : ℕ} → Going g h keys (graph_of g h) w (record_at w j) j n v ix ls cs k past → past ≤ item_count w
  low S = omega (arith, S.low)

  -- the records that cursors skim over are quiet still
  pub partners_quiet : {v ix ls cs : List ℕ} {k past : ℕ} → Going g h keys (graph_of g h) w (record_at w j) j n v ix ls cs k past → (edges i : ℕ) → i < item_count w → quiet_in v edges i ≡ quiet_in w edges i
  partners_quiet {v = v} {past = past} S = dealt_quiet g h w (graph_of g h) j P.ready.fits P.handled partners_each v past (low S) S.gathered

  module _ {v ix ls cs : List ℕ} {k past : ℕ} (S : Going g h keys (graph_of g h) w (record_at w j) j n v ix ls cs k past) where
    pub partners_joining : Joining g h keys v ix ls lead j
    partners_joining = record {
      tables = P.tables;
      ready = S.ready;
      handled = dealt_handled g h w (graph_of g h) j P.ready.fits P.handled partners_each v past (low S) S.gathered;
      leads = dealt_lead g h w (graph_of g h) j P.ready.fits P.handled partners_each v past (low S) S.gathered lead P.leads;
    }

    longer : item_count w ≤ item_count v
    longer = dealt_longer g h w (graph_of g h) j P.ready.fits P.handled partners_each v past (low S) S.gathered

    pub partners_known : k < n → k < item_count v
    partners_known l = omega (arith, longer)

    pub partners_end : n ≤ k → v ≡ grown_by w (gather n (λ i. with_record (grammar_of g) (graph_of g h) (record_at w j) j (record_at w i) i))
    partners_end l =
        going_end g h keys (graph_of g h) w (record_at w j) j n P.ready.fits all partners_each v ix ls cs k past S P.tables.accepted.grammar P.tables.keyed (placed j P.handled.there) placed l

    -- one turn: record k is dealt with unless it was, and the cursors at it go on, over quiet records
    module _ {u jx ms : List ℕ} {later : ℕ} (l : k < n)
        (p : u ≡ grown_by v (guard (leb past k) (with_record (grammar_of g) (graph_of g h) (record_at v j) j (record_at v k) k))) (R : Ready g h keys u jx ms) (q : later ≡ max past (k + 1)) where
      made : u ≡ grown_by v (guard (leb past k) (with_record (grammar_of g) (graph_of g h) (record_at w j) j (record_at v k) k))
      made =
          p ∙ ap (λ (y : Record). grown_by v (guard (leb past k) (with_record (grammar_of g) (graph_of g h) y j (record_at v k) k)))
          (dealt_record g h w (graph_of g h) j P.ready.fits P.handled partners_each v past (low S) S.gathered)

      pub turn_room : n ≤ item_count u
      turn_room =
          omega (
            arith,
            longer,
            added_longer v u _ S.ready.fits
                (whole_guard (leb past k) (with_record (grammar_of g) (graph_of g h) (record_at w j) j (record_at v k) k) (λ _. again_whole (grammar_of g) (graph_of g h) w P.ready.fits (record_at w j) j partners_each v past k (low S) (omega arith) S.gathered))
                made,
          )

      pub turn_within : Within 20480 cs
      turn_within =
          next_within g h keys (graph_of g h) w (record_at w j) j n P.ready.fits all partners_each v ix ls cs k past S P.tables.accepted.grammar P.tables.keyed (placed j P.handled.there) placed u jx ms later l
          made R q

      module _ (bs ds : List ℕ) (e : bs ≡ passed_of ms cs k) (s : SkimsAll (quiet_in u (record_at w j).item.edges) ms n bs ds) where
        pub turn_next : (i : ℕ) → i ≡ least_of ds → i ≤ 4096 → Going g h keys (graph_of g h) w (record_at w j) j n u jx ms ds i later
        turn_next =
            going_next g h keys (graph_of g h) w (record_at w j) j n P.ready.fits all partners_each v ix ls cs k past S P.tables.accepted.grammar P.tables.keyed (placed j P.handled.there) placed u jx ms later l
            made R q bs ds e s

        pub turn_less : left_all ds < left_all cs
        turn_less =
            going_less g h keys (graph_of g h) w (record_at w j) j n P.ready.fits all partners_each v ix ls cs k past S P.tables.accepted.grammar P.tables.keyed (placed j P.handled.there) placed u jx ms later l
            made R q bs ds e s
